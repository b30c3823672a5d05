-- The numbers of an answer, and beside them what was lent.
use Rattle.std.specs.Prelude.{Option, Some, None}
use Prim.Native.Nat.{ℕ}
use mathlib.Core.Path.{◌≡◌, refl, sym, ◌∙◌, ap}
use Rattle.model.specs.declared.Refusal.TheVariants.{OutputArea}
use Rattle.model.specs.Answers.{Accepted, Numbers, numbers_of}
use Rattle.model.specs.Verdict.{◌before◌, refused_at}
use Rattle.model.proofs.Laws.Numbers.{no_number_zero}
use Rattle.model.specs.Calls.{Left, left_in}
use Rattle.model.specs.Refusals.{NumbersLeft, in_numbers}
use Rattle.caisson.specs.declared.HostAnswer.{HostAnswer}
use Rattle.caisson.specs.Told.{told, told_left}

-- of a call that is lent a part of what the host has
pub left_in_told : {A B : Type 0} {h : HostAnswer} {lent : A} (left : Left A) (whole : A → B) → told_left h lent ≡ in_numbers left → told_left h (whole lent) ≡ in_numbers (left_in whole left)
left_in_told {A = A} left whole e = ap (λ (x : NumbersLeft A). record { numbers = x.numbers; lent = whole x.lent }) e

-- ---- what an equation of a call says of the numbers and of what was lent
module _ {A : Type 0} (h : HostAnswer) (after : A) (left : Left A) (e : told_left h after ≡ in_numbers left) where
  pub numbers_told : told h ≡ numbers_of left.answer
  numbers_told = ap (λ (x : NumbersLeft A). x.numbers) e

  pub lent_told : after ≡ left.lent
  lent_told = ap (λ (x : NumbersLeft A). x.lent) e

  pub number_told : h.number ≡ (numbers_of left.answer).number
  number_told = ap (λ (x : Numbers). x.number) numbers_told

  pub accepted_told : h.number ≡ 0 → (numbers_of left.answer).number ≡ 0
  accepted_told accepted = sym number_told ∙ accepted

-- a call that refuses a short output area and else answers a length
pub output_counts : (n : ℕ) (f : Option ℕ) → (numbers_of (refused_at OutputArea f before Accepted n)).number ≡ 0 → (numbers_of (refused_at OutputArea f before Accepted n)).count ≡ n
unfolding refused_at ◌before◌
output_counts n None e = refl
output_counts n (Some i) e = absurd (no_number_zero OutputArea e)
