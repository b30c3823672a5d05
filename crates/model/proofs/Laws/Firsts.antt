-- Faults as lists of refusals, and the first of them: it accepts only if there are none, and the first of two lists is that of the first list unless there is none.
use Prim.Native.Nat.{ℕ, zero, suc, ◌≤◌, ◌<◌}
use mathlib.Core.Path.{◌≡◌, refl, ◌∙◌}
use mathlib.Core.Logic.Iff
use mathlib.Core.Logic.{◌↔◌}
use mathlib.Core.Bool.{Bool, true, false, false≢true}
use mathlib.Core.List.{List, [], ◌∷◌, ◌++◌, cons-ne-nil}
use native.Mathlib.Omega.{arith}
use native.Mathlib.Decide.{dec_lt}
use Rattle.model.specs.declared.Refusal.{Refusal}
use Rattle.model.specs.Answers.{Answer, Accepted, Refused}
use Rattle.model.specs.Indices.{join_below}
use Rattle.model.specs.Flow.{refused_unless, first_of}
use Rattle.model.specs.Verdict.{◌before◌}
use Rattle.model.proofs.Laws.Found.{append-iff, join_iff}
use Rattle.model.proofs.Laws.Verdict.{refused_is_not_accepted}

-- every answer of a list is a refusal: an acceptance at its head would hide those behind it
pub data AreRefusals : List Answer → Type 0 where
  none : AreRefusals []
  one_more : {refusal : Refusal} {place : ℕ} {more : List Answer} → AreRefusals more → AreRefusals (Refused refusal place ∷ more)

-- refusals, of which there are none exactly where a rule holds
pub record FaultsOf (faults : List Answer) (Rule : Type 0) : Type 0 where
  pub refusals : AreRefusals faults
  pub none_iff : (faults ≡ []) ↔ Rule

pub no_faults : FaultsOf [] (Unit {0})
no_faults = record { refusals = none; none_iff = (λ e. tt, λ k. refl) }

pub faults_unless : (b : Bool) (refusal : Refusal) (n : ℕ) → FaultsOf (refused_unless b refusal n) (b ≡ true)
faults_unless true refusal n = record { refusals = none; none_iff = (λ e. refl, λ e. refl) }
faults_unless false refusal n =
    record { refusals = one_more none; none_iff = (λ e. absurd (cons-ne-nil _ _ e), λ e. absurd (false≢true e)) }

refusals_append : {xs ys : List Answer} → AreRefusals xs → AreRefusals ys → AreRefusals (xs ++ ys)
refusals_append none q = q
refusals_append (one_more p) q = one_more (refusals_append p q)

pub faults_append : {xs ys : List Answer} {P Q : Type 0} → FaultsOf xs P → FaultsOf ys Q → FaultsOf (xs ++ ys) (P × Q)
faults_append f g =
    record { refusals = refusals_append f.refusals g.refusals; none_iff = append-iff f.none_iff g.none_iff }

pub refusals_join : (f : ℕ → List Answer) (n : ℕ) → ((k : ℕ) → AreRefusals (f k)) → AreRefusals (join_below f n)
unfolding join_below
refusals_join f zero h = none
refusals_join f (suc n) h = refusals_append (refusals_join f n h) (h n)

pub faults_join :
    {f : ℕ → List Answer} {P : ℕ → Type 0} (n : ℕ) → ((k : ℕ) → FaultsOf (f k) (P k)) → FaultsOf (join_below f n) ((k : ℕ) → k < n → P k)
faults_join {f} n h = record { refusals = refusals_join f n (λ k. (h k).refusals); none_iff = join_iff (λ k. (h k).none_iff) }

pub first_nil : {xs : List Answer} → AreRefusals xs → (first_of xs ≡ Accepted 0) ↔ (xs ≡ [])
unfolding first_of
first_nil none = (λ e. refl, λ e. refl)
first_nil (one_more h) = (λ e. absurd (refused_is_not_accepted _ _ _ e), λ e. absurd (cons-ne-nil _ _ e))

pub first_iff : {xs : List Answer} {P : Type 0} → FaultsOf xs P → (first_of xs ≡ Accepted 0) ↔ P
first_iff f = Iff.trans (first_nil f.refusals) f.none_iff

-- the first of two lists is that of the first list, unless there is none
pub first_append : {xs : List Answer} (ys : List Answer) → AreRefusals xs → first_of (xs ++ ys) ≡ (first_of xs before first_of ys)
unfolding first_of ◌before◌
first_append ys none = refl
first_append ys (one_more h) = refl

-- a refusal that is first among the lists below m is first among those below any greater number
pub first_stays : (f : ℕ → List Answer) → ((k : ℕ) → AreRefusals (f k)) → {m : ℕ} {r : Refusal} {place : ℕ} → first_of (join_below f m) ≡ Refused r place → (n : ℕ) → m ≤ n → first_of (join_below f n) ≡ Refused r place
unfolding join_below ◌before◌
first_stays f h {m} e zero l = let same : m ≡ 0 = omega arith in rw same at e
first_stays f h {m} {r} {place} e (suc n) l = go (first_stays f h e n) (dec_lt n m)
  where
    go : (m ≤ n → first_of (join_below f n) ≡ Refused r place) → Dec (n < m) → first_of (join_below f n ++ f n) ≡ Refused r place
    go earlier (yes b) = let same : m ≡ suc n = omega arith in rw same at e
    go earlier (no b) = first_append (f n) (refusals_join f n h) ∙ rw (earlier (omega arith))
