-- Which rule is broken first: an answer that decides one pass, put before one that decides others, decides them all in this order.
use Rattle.std.specs.Prelude.{Option, Some, None}
use Prim.Native.Nat.{ℕ, ◌<◌}
use mathlib.Core.Path.{◌≡◌, refl, sym, ◌∙◌, ap}
use mathlib.Core.Logic.Iff
use mathlib.Core.Logic.{◌↔◌, ◌⊎◌, inl, inr, ⊎_elim}
use mathlib.Core.List.{List, [], ◌∷◌, ◌++◌}
use native.Mathlib.Omega.{arith}
use Rattle.model.specs.declared.Refusal.{Refusal}
use Rattle.model.specs.Answers.{Answer, Accepted, Refused}
use Rattle.model.specs.Verdict.{◌before◌, refused_at}
use Rattle.model.specs.Refusals.{◌asks◌, Pass, KeptAt, BrokenAt, AllKept, FirstBroken}
use Rattle.model.proofs.Laws.Verdict.{refused_is_not_accepted, same_refusal}

-- ---- what a search finds, against a rule of places
-- nothing where the rule is kept everywhere; else the lowest place at which it is broken
pub record Finds (f : Option ℕ) (Kept : ℕ → Type 0) : Type 0 where
  pub nowhere : f ≡ None → (place : ℕ) → Kept place
  pub broken : (place : ℕ) → f ≡ Some place → Kept place → ⊥
  pub lower : (place : ℕ) → f ≡ Some place → (k : ℕ) → k < place → Kept k

-- of three numbers compared, those left are equal
not_apart : (i j : ℕ) → (i < j → ⊥) → (j < i → ⊥) → i ≡ j
not_apart i j h k = omega arith

module _ {f : Option ℕ} {Kept : ℕ → Type 0} (found : Finds f Kept) where
  pub finds_nowhere : ((place : ℕ) → Kept place) → f ≡ None
  finds_nowhere kept = go f refl
    where
      go : (g : Option ℕ) → f ≡ g → f ≡ None
      go (Some i) e = absurd (found.broken i e (kept i))
      go None e = e

  pub finds_at : (place : ℕ) → (Kept place → ⊥) → ((k : ℕ) → k < place → Kept k) → f ≡ Some place
  finds_at place broken lower = go f refl
    where
      go : (g : Option ℕ) → f ≡ g → f ≡ Some place
      go (Some i) e = e ∙ ap Some (not_apart i place (λ l. found.broken i e (lower i l)) (λ l. broken (found.lower i e place l)))
      go None e = absurd (broken (found.nowhere e place))

-- ---- an answer against passes of rules
-- the answer accepts with the count where every rule is kept, and else refuses by the first that is broken
pub record Decides (a : Answer) (count : ℕ) (passes : List Pass) : Type 0 where
  pub either : (a ≡ Accepted count) ⊎ ((refusal : Refusal) × (place : ℕ) × (a ≡ Refused refusal place))
  pub accepts : (a ≡ Accepted count) ↔ AllKept passes
  pub refuses : (refusal : Refusal) (place : ℕ) → (a ≡ Refused refusal place) ↔ FirstBroken passes refusal place

-- a rule whose search finds the lowest place
pub decides_one : {refusal : Refusal} {Kept : ℕ → Type 0} {f : Option ℕ} → Finds f Kept → Decides (refused_at refusal f) 0 ((refusal asks Kept ∷ []) ∷ [])
unfolding refused_at
decides_one {refusal} {Kept} {f = None} found =
    record {
      either = inl refl;
      accepts = (λ e. (λ place. (found.nowhere refl place, tt), tt), λ kept. refl);
      refuses = λ r place. (
        λ e. absurd (refused_is_not_accepted r place 0 (sym e)),
        ⊎_elim
            (λ (h : BrokenAt (refusal asks Kept ∷ []) r place × ((lower : ℕ) → lower < place → KeptAt (refusal asks Kept ∷ []) lower)). absurd (⊎_elim (λ (b : (refusal ≡ r) × (Kept place → ⊥)). b.1 (found.nowhere refl place)) (λ (b : ⊥). b) h.0))
            (λ (h : ((lower : ℕ) → KeptAt (refusal asks Kept ∷ []) lower) × ⊥). absurd h.1),
      );
    }
decides_one {refusal} {Kept} {f = Some i} found =
    record {
      either = inr (refusal, i, refl);
      accepts = (λ e. absurd (refused_is_not_accepted refusal i 0 e), λ kept. absurd (found.broken i refl (kept.0 i).0));
      refuses = λ r place. (
        λ e. let same = same_refusal e in inl (inl (same.0, λ kept. found.broken i refl (rw same.1 kept)), λ k l. (found.lower i refl k (rw same.1 l), tt)),
        ⊎_elim
            (λ (h : BrokenAt (refusal asks Kept ∷ []) r place × ((lower : ℕ) → lower < place → KeptAt (refusal asks Kept ∷ []) lower)).
            ⊎_elim
            (λ (b : (refusal ≡ r) × (Kept place → ⊥)). let here = finds_at found place b.1 (λ k l. (h.1 k l).0) in let j : i ≡ place = cc in let s = b.0 in cc)
            (λ (b : ⊥). absurd b)
            h.0)
            (λ (h : ((lower : ℕ) → KeptAt (refusal asks Kept ∷ []) lower) × ⊥). absurd h.1),
      );
    }

-- ---- one behind the other
pub all_kept_append : (passes more : List Pass) → AllKept (passes ++ more) ↔ (AllKept passes × AllKept more)
all_kept_append [] more = (λ h. (tt, h), λ h. h.1)
all_kept_append (pass ∷ passes) more =
    let rest = all_kept_append passes more in
    (λ h. let r = rest.0 h.1 in ((h.0, r.0), r.1), λ h. (h.0.0, rest.1 (h.0.1, h.1)))

first_append :
    (passes more : List Pass) (r : Refusal) (place : ℕ)
    → FirstBroken (passes ++ more) r place ↔ (FirstBroken passes r place ⊎ (AllKept passes × FirstBroken more r place))
first_append [] more r place = (λ h. inr (tt, h), ⊎_elim (λ (h : ⊥). absurd h) (λ (h : Unit {0} × FirstBroken more r place). h.1))
first_append (pass ∷ passes) more r place = let rest = first_append passes more r place in (there rest.0, back rest.1)
  where
    there :
        (FirstBroken (passes ++ more) r place → FirstBroken passes r place ⊎ (AllKept passes × FirstBroken more r place))
        → FirstBroken (pass ∷ passes ++ more) r place
        → FirstBroken (pass ∷ passes) r place ⊎ (AllKept (pass ∷ passes) × FirstBroken more r place)
    there rest (inl h) = inl (inl h)
    there rest (inr h) =
        ⊎_elim
        (λ (k : FirstBroken passes r place). inl (inr (h.0, k)))
        (λ (k : AllKept passes × FirstBroken more r place). inr ((h.0, k.0), k.1))
        (rest h.1)

    back :
        (FirstBroken passes r place ⊎ (AllKept passes × FirstBroken more r place) → FirstBroken (passes ++ more) r place)
        → FirstBroken (pass ∷ passes) r place ⊎ (AllKept (pass ∷ passes) × FirstBroken more r place)
        → FirstBroken (pass ∷ passes ++ more) r place
    back rest (inl (inl h)) = inl h
    back rest (inl (inr h)) = inr (h.0, rest (inl h.1))
    back rest (inr h) = inr (h.0.0, rest (inr (h.0.1, h.1)))

-- nothing is broken first where all is kept
kept_or_broken : {a : Answer} {count : ℕ} {passes : List Pass} → Decides a count passes → AllKept passes → (r : Refusal) (place : ℕ) → FirstBroken passes r place → ⊥
kept_or_broken {a} {count} d kept r place broken =
    refused_is_not_accepted r place count (sym ((d.refuses r place).1 broken) ∙ d.accepts.1 kept)

-- what comes behind is asked only where all before it is kept
pub decides_before : {a b : Answer} {first count : ℕ} {passes more : List Pass} → Decides a first passes → (AllKept passes → Decides b count more) → Decides (a before b) count (passes ++ more)
unfolding ◌before◌
decides_before {a} {b} {first} {count} {passes} {more} d next = go d.either
  where
    go : (a ≡ Accepted first) ⊎ ((refusal : Refusal) × (place : ℕ) × (a ≡ Refused refusal place)) → Decides (a before b) count (passes ++ more)
    go (inl h) =
        let passed : (a before b) ≡ b = rw h in
        let kept = d.accepts.0 h in
        let e = next kept in
        record {
          either = rw passed e.either;
          accepts = rw passed (Iff.trans e.accepts (λ k. (all_kept_append passes more).1 (kept, k), λ k. ((all_kept_append passes more).0 k).1));
          refuses = λ r place. rw passed (Iff.trans (e.refuses r place) (
            λ k. (first_append passes more r place).1 (inr (kept, k)),
            λ k. ⊎_elim (λ (f : FirstBroken passes r place). absurd (kept_or_broken d kept r place f)) (λ (f : AllKept passes × FirstBroken more r place). f.1) ((first_append passes more r place).0 k),
          ));
        }
    go (inr (refusal, i, h)) =
        let passed : (a before b) ≡ a = rw h in
        let never : AllKept passes → ⊥ = λ kept. refused_is_not_accepted refusal i first (sym h ∙ d.accepts.1 kept) in
        record {
          either = inr (refusal, i, passed ∙ h);
          accepts = (λ k. absurd (refused_is_not_accepted refusal i count (sym h ∙ sym passed ∙ k)), λ k. absurd (never ((all_kept_append passes more).0 k).0));
          refuses = λ r place. rw passed (Iff.trans (d.refuses r place) (
            λ k. (first_append passes more r place).1 (inl k),
            λ k. ⊎_elim (λ (f : FirstBroken passes r place). f) (λ (f : AllKept passes × FirstBroken more r place). absurd (never f.0)) ((first_append passes more r place).0 k),
          ));
        }

-- nothing is asked any more
pub decides_none : (count : ℕ) → Decides (Accepted count) count []
decides_none count =
    record { either = inl refl; accepts = (λ e. tt, λ k. refl); refuses = λ r place. (λ e. refused_is_not_accepted r place count (sym e), λ k. absurd k) }
