-- When answers accept: a stage refuses at what it found, and else lets the next one speak.
use Rattle.std.specs.Prelude.{Option, Some, None, Ok, Err}
use Prim.Native.Nat.{ℕ}
use mathlib.Core.Path.{◌≡◌, refl, ap}
use mathlib.Core.Logic.{◌↔◌}
use native.Mathlib.Omega.{arith}
use Rattle.model.specs.declared.Refusal.{Refusal}
use Rattle.model.specs.declared.RefusedAt.{RefusedAt}
use Rattle.model.specs.Answers.{Answer, Accepted, Refused}
use Rattle.model.specs.Verdict.{◌before◌, refused_at}
use Rattle.model.proofs.Laws.Found.{at_is_not_nowhere}

pub refused_is_not_accepted : (refusal : Refusal) (place count : ℕ) → Refused refusal place ≡ Accepted count → ⊥
refused_is_not_accepted refusal place count e = let z : ◌≡◌ {A = ℕ} 0 1 = cc in omega arith

same_refused : {a b : RefusedAt} → ◌≡◌ {A = Answer} (Err a) (Err b) → a ≡ b
same_refused e = cc

pub same_refusal : {r q : Refusal} {i j : ℕ} → Refused r i ≡ Refused q j → (r ≡ q) × (i ≡ j)
same_refusal e = let same = same_refused e in (ap (λ (x : RefusedAt). x.refusal) same, ap (λ (x : RefusedAt). x.place) same)

-- a stage and what comes after it accept: a stage that refuses nothing is passed over
pub before_iff :
    (refusal : Refusal) {f : Option ℕ} {later : Answer} {P Q : Type 0}
    → ((f ≡ None) ↔ P)
    → ((later ≡ Accepted 0) ↔ Q)
    → ((refused_at refusal f before later) ≡ Accepted 0) ↔ (P × Q)
unfolding ◌before◌ refused_at
before_iff refusal {f = Some place} p q =
    (λ e. absurd (refused_is_not_accepted refusal place 0 e), λ h. absurd (at_is_not_nowhere place (p.1 h.0)))
before_iff refusal {f = None} p q = (λ e. (p.0 refl, q.0 e), λ h. q.1 h.1)

-- the last stage
pub searched_iff : (refusal : Refusal) {f : Option ℕ} {P : Type 0} → ((f ≡ None) ↔ P) → (refused_at refusal f ≡ Accepted 0) ↔ P
unfolding refused_at
searched_iff refusal {f = Some place} p = (λ e. absurd (refused_is_not_accepted refusal place 0 e), λ h. absurd (at_is_not_nowhere place (p.1 h)))
searched_iff refusal {f = None} p = (λ e. p.0 refl, λ h. refl)

-- an answer whose acceptance has count 0
abbrev pub CountsNothing : Answer → Type 0
CountsNothing a = (n : ℕ) → a ≡ Accepted n → n ≡ 0

-- two groups of stages, of which the first counts nothing
pub both_iff : {a b : Answer} {P Q : Type 0} → CountsNothing a → ((a ≡ Accepted 0) ↔ P) → ((b ≡ Accepted 0) ↔ Q) → ((a before b) ≡ Accepted 0) ↔ (P × Q)
unfolding ◌before◌
both_iff {a = Err why} nothing p q =
    (λ e. absurd (refused_is_not_accepted why.refusal why.place 0 e), λ h. absurd (refused_is_not_accepted why.refusal why.place 0 (p.1 h.0)))
both_iff {a = Ok n} nothing p q = (λ e. (p.0 (ap Accepted (nothing n refl)), q.0 e), λ h. q.1 h.1)

-- where answers in order accept, each of them does, and one that searches found nothing
pub first_accepts : (first later : Answer) {n : ℕ} → (first before later) ≡ Accepted n → (c : ℕ) × (first ≡ Accepted c)
unfolding ◌before◌
first_accepts (Err why) later e = absurd (refused_is_not_accepted _ _ _ e)
first_accepts (Accepted c) later e = (c, refl)

pub later_accepts : (first later : Answer) {n : ℕ} → (first before later) ≡ Accepted n → later ≡ Accepted n
unfolding ◌before◌
later_accepts (Err why) later e = absurd (refused_is_not_accepted _ _ _ e)
later_accepts (Accepted c) later e = e

pub found_nothing : (refusal : Refusal) (f : Option ℕ) {n : ℕ} → refused_at refusal f ≡ Accepted n → f ≡ None
unfolding refused_at
found_nothing refusal (Some place) e = absurd (refused_is_not_accepted _ _ _ e)
found_nothing refusal None e = refl

-- a search counts nothing, and answers in order count what the last of them does
pub searched_counts_nothing : (refusal : Refusal) (f : Option ℕ) → CountsNothing (refused_at refusal f)
unfolding refused_at
searched_counts_nothing refusal (Some place) n e = absurd (refused_is_not_accepted _ _ _ e)
searched_counts_nothing refusal None n e = let same : Accepted 0 ≡ Accepted n = e in cc

pub before_counts_nothing : (a b : Answer) → CountsNothing b → CountsNothing (a before b)
before_counts_nothing a b nothing n e = nothing n (later_accepts a b e)
