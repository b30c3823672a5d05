-- "of two for one cycle and port the later supersedes the earlier": a superseded record is overwritten before its cycle runs, so a trace without the superseded records replays
-- to the same areas, with none superseded.
use Prim.Native.Nat.{ℕ, suc, ◌+◌}
use mathlib.Core.Path.{◌≡◌, refl, sym, ◌∙◌, ap}
use mathlib.Core.Logic.{◌⊎◌, inl, inr}
use mathlib.Core.Bool.{Bool, true, false, ◌&&◌, ◌||◌, cond}
use mathlib.Core.List.{List, [], ◌∷◌}
use native.Mathlib.Omega.{arith}
use lib.Dec.{eqb}
use lib.ListN.{length, set}
use lib.Seq.{set-set, set_comm}
use Rattle.model.specs.Image.{design_of}
use Rattle.model.specs.Answers.{Accepted, numbers_of}
use Rattle.model.specs.Calls.{Lent, areas_of}
use Rattle.model.proofs.Laws.Booleans.{decide, true_or_false, or_first, or_second, or_neither, false_unless_true}
use Rattle.model.proofs.Laws.Equivalences.{equal_iff}
use Rattle.replay_model.specs.declared.TraceRecord.{TraceRecord}
use Rattle.replay_model.specs.Traces.{kept, records_of_cycle, applied, has_later, superseded_in}
use Rattle.replay_model.specs.Calls.{replay}
use Rattle.replay_model.proofs.Laws.{Each, of_none, of_more, Rising, none_rises, one_rises, rising_lower, replayed_same}
use Rattle.replay_model.proofs.Accepted.{Replayable, accepted_replays, replay_leaves}

-- the records that none supersedes
unfoldable pub latest_of : List TraceRecord → List TraceRecord
latest_of [] = []
latest_of (r ∷ more) = cond (has_later r more) (latest_of more) (r ∷ latest_of more)

-- each record is one of these or is superseded
pub length-latest : (trace : List TraceRecord) → length (latest_of trace) + superseded_in trace ≡ length trace
unfolding latest_of superseded_in
length-latest [] = refl
length-latest (r ∷ more) = go (has_later r more) (length-latest more)
  where
    go : (b : Bool) → length (latest_of more) + superseded_in more ≡ length more
        → length (cond b (latest_of more) (r ∷ latest_of more)) + cond b (suc (superseded_in more)) (superseded_in more) ≡ suc (length more)
    go true e = omega arith
    go false e = omega arith

latest_each : {P : TraceRecord → Type 0} {trace : List TraceRecord} → Each P trace → Each P (latest_of trace)
unfolding latest_of
latest_each of_none = of_none
latest_each {P} (of_more {r} {more} p h) = go (has_later r more) (latest_each h)
  where
    go : (b : Bool) → Each P (latest_of more) → Each P (cond b (latest_of more) (r ∷ latest_of more))
    go true k = k
    go false k = of_more p k

latest_rising : {n low : ℕ} {trace : List TraceRecord} → Rising n low trace → Rising n low (latest_of trace)
unfolding latest_of
latest_rising none_rises = none_rises
latest_rising {n} {low} (one_rises {r} {more} l b h) = go (has_later r more) (latest_rising h)
  where
    go : (w : Bool) → Rising n r.cycle (latest_of more) → Rising n low (cond w (latest_of more) (r ∷ latest_of more))
    go true k = rising_lower low l k
    go false k = one_rises l b k

-- none of them is superseded
latest_later : (r : TraceRecord) (trace : List TraceRecord) → has_later r trace ≡ false → has_later r (latest_of trace) ≡ false
unfolding latest_of has_later
latest_later r [] e = refl
latest_later r (x ∷ more) e = go (has_later x more) (latest_later r more)
  where
    own : Bool
    own = eqb x.cycle r.cycle && eqb x.register r.register

    not_own : own ≡ false
    not_own = false_unless_true own (λ t. true_or_false (own || has_later r more) (or_first own (has_later r more) t) e)

    not_later : has_later r more ≡ false
    not_later = false_unless_true (has_later r more) (λ t. true_or_false (own || has_later r more) (or_second own (has_later r more) t) e)

    go : (w : Bool) → (has_later r more ≡ false → has_later r (latest_of more) ≡ false) → has_later r (cond w (latest_of more) (x ∷ latest_of more)) ≡ false
    go true rest = rest not_later
    go false rest = or_neither own (has_later r (latest_of more)) not_own (rest not_later)

pub latest_superseded : (trace : List TraceRecord) → superseded_in (latest_of trace) ≡ 0
unfolding latest_of superseded_in
latest_superseded [] = refl
latest_superseded (r ∷ more) = go (has_later r more) refl (latest_superseded more)
  where
    go : (w : Bool) → has_later r more ≡ w → superseded_in (latest_of more) ≡ 0 → superseded_in (cond w (latest_of more) (r ∷ latest_of more)) ≡ 0
    go true e rest = rest
    go false e rest = rw (latest_later r more e) rest

-- ---- they are applied to the same values
abbrev of_cycle : ℕ → List TraceRecord → List TraceRecord
of_cycle c trace = kept (λ (r : TraceRecord). eqb r.cycle c) trace

-- a value that a later record overwrites does not matter
overwritten : (r : TraceRecord) (more : List TraceRecord) (v : ℕ) (values : List ℕ) → has_later r more ≡ true
    → applied (of_cycle r.cycle more) (set values r.register v) ≡ applied (of_cycle r.cycle more) values
unfolding has_later kept applied
overwritten r [] v values e = absurd (true_or_false false e refl)
overwritten r (x ∷ more) v values e = go (eqb x.cycle r.cycle) (decide (eqb x.register r.register)) e (λ held. overwritten r more v held)
  where
    rest : List TraceRecord
    rest = of_cycle r.cycle more

    go : (w : Bool) → (eqb x.register r.register ≡ true) ⊎ (eqb x.register r.register ≡ false)
        → ((w && eqb x.register r.register) || has_later r more) ≡ true
        → ((held : List ℕ) → has_later r more ≡ true → applied rest (set held r.register v) ≡ applied rest held)
        → applied (cond w (x ∷ rest) rest) (set values r.register v) ≡ applied (cond w (x ∷ rest) rest) values
    go false same later more = more values later
    go true (inl same) later more = let one : x.register ≡ r.register = equal_iff.0 same in rw one (ap (applied rest) (set-set values r.register v x.value))
    go true (inr other) later more =
        ap (applied rest) (set_comm values r.register x.register v x.value (λ same. true_or_false _ (equal_iff.1 (sym same)) other))
        ∙ more (set values x.register x.value) (rw other at later)

latest_applied : (c : ℕ) (trace : List TraceRecord) (values : List ℕ) → applied (of_cycle c (latest_of trace)) values ≡ applied (of_cycle c trace) values
unfolding latest_of kept applied
latest_applied c [] values = refl
latest_applied c (r ∷ more) values = go (has_later r more) refl (decide (eqb r.cycle c)) (λ held. latest_applied c more held)
  where
    go : (w : Bool) → has_later r more ≡ w → (eqb r.cycle c ≡ true) ⊎ (eqb r.cycle c ≡ false)
        → ((held : List ℕ) → applied (of_cycle c (latest_of more)) held ≡ applied (of_cycle c more) held)
        → applied (of_cycle c (cond w (latest_of more) (r ∷ latest_of more))) values ≡ applied (cond (eqb r.cycle c) (r ∷ of_cycle c more) (of_cycle c more)) values
    go true e (inl here) rest =
        let same : r.cycle ≡ c = equal_iff.0 here in
        rw here (rest values ∙ sym (rw same at (overwritten r more r.value values e)))
    go true e (inr past) rest = rw past (rest values)
    go false e (inl here) rest = rw here (rest (set values r.register r.value))
    go false e (inr past) rest = rw past (rest values)

-- ---- of an accepted replay
pub latest_replays : (image : List ℕ) (lent : Lent) (trace : List TraceRecord) (n : ℕ) → (numbers_of (replay image lent trace n).answer).number ≡ 0
    → replay image lent (latest_of trace) n ≡ record { answer = Accepted 0; lent = (replay image lent trace n).lent }
latest_replays image lent trace n e =
    let r = accepted_replays image lent trace n e in
    let areas = areas_of (design_of image) lent in
    let latest : Replayable image lent (latest_of trace) n = record { ready = r.ready; few = r.few; rising = latest_rising r.rising; ports = latest_each r.ports } in
    let same = replayed_same (design_of image) (latest_of trace) trace 0 0 n areas (λ k values l. unfold records_of_cycle in latest_applied (0 + k) trace values) in
    rw (replay_leaves image lent (latest_of trace) n latest, replay_leaves image lent trace n r, latest_superseded trace, same)
