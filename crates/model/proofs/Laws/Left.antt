-- What a call leaves, by its answer: the answer itself, what it was lent on a refusal, and what it made otherwise. Each law stands once, of whatever a call is lent.
use Rattle.std.specs.Prelude.{Err}
use Prim.Native.Nat.{ℕ}
use mathlib.Core.Path.{◌≡◌, refl, ap}
use mathlib.Core.List.{List}
use Rattle.model.specs.Answers.{Answer, Accepted, numbers_of}
use Rattle.model.specs.Calls.{Left, left_in, leaves}
use Rattle.model.specs.Refusals.{Pass, AnswersBy, in_numbers, Exactly}
use Rattle.model.proofs.Laws.Numbers.{no_number_zero}

module _ {A : Type 0} where
  pub left_answer : (a : Answer) (lent made : A) → (leaves a lent made).answer ≡ a
  left_answer (Accepted n) lent made = refl
  left_answer (Err why) lent made = refl

  -- "No lent byte changes" on a refusal
  pub left_lent : (a : Answer) (lent made : A) → ((numbers_of (leaves a lent made).answer).number ≡ 0 → ⊥) → (leaves a lent made).lent ≡ lent
  left_lent (Accepted n) lent made refused = absurd (refused refl)
  left_lent (Err why) lent made refused = refl

  pub left_made : (a : Answer) (lent made : A) → (numbers_of (leaves a lent made).answer).number ≡ 0 → (leaves a lent made).lent ≡ made
  left_made (Accepted n) lent made accepted = refl
  left_made (Err why) lent made accepted = absurd (no_number_zero why.refusal accepted)

  -- what holds of what is made where it is accepted holds of what an acceptance leaves
  pub left_holds : (P : A → Type 0) (a : Answer) (lent made : A) → (numbers_of (leaves a lent made).answer).number ≡ 0
      → ((n : ℕ) → a ≡ Accepted n → P made)
      → P (leaves a lent made).lent
  left_holds P (Accepted n) lent made accepted h = h n refl
  left_holds P (Err why) lent made accepted h = absurd (no_number_zero why.refusal accepted)

  -- a call that makes nothing new leaves what it was lent, whatever it answers
  pub left_same : (a : Answer) (lent : A) → (leaves a lent lent).lent ≡ lent
  left_same (Accepted n) lent = refl
  left_same (Err why) lent = refl

  pub leaves_exactly : {passes : List Pass} {n : ℕ} (a : Answer) (lent made : A) → AnswersBy passes n (numbers_of a) → Exactly passes n lent (in_numbers (leaves a lent made))
  leaves_exactly a lent made answers = record { answers = rw (left_answer a lent made) answers; keeps = left_lent a lent made }

-- of a call that is lent a part of what the host has
pub left_in_exactly : {A B : Type 0} {passes : List Pass} {n : ℕ} {lent : A} (left : Left A) (whole : A → B) → Exactly passes n lent (in_numbers left)
    → Exactly passes n (whole lent) (in_numbers (left_in whole left))
left_in_exactly left whole e = record { answers = e.answers; keeps = λ refused. ap whole (e.keeps refused) }
