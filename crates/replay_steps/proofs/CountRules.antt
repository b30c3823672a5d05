-- The table of the last cycle of each port, and the count of superseded records, as records are kept one by one: in a trace whose cycles never fall a record supersedes one
-- exactly where the table has its cycle for its port.
use Prim.Native.Nat.{ℕ, suc, ◌+◌, ◌<◌}
use mathlib.Core.Path.{◌≡◌, refl, ◌∙◌}
use mathlib.Core.Logic.{◌⊎◌, inl, inr}
use mathlib.Core.Bool.{true, false, cond}
use mathlib.Core.List.{List}
use native.Mathlib.Omega.{arith}
use native.Mathlib.Numerals.{add-one}
use lib.Dec.{eqb}
use lib.ListN.{length, get_or, length-set, length-replicate}
use Rattle.model.specs.Limits.{registers_max}
use Rattle.model.proofs.Laws.Booleans.{decide, true_or_false}
use Rattle.model.proofs.Laws.Equivalences.{equal_iff}
use Rattle.replay_model.specs.declared.TraceRecord.{TraceRecord}
use Rattle.replay_model.specs.Traces.{record_at}
use Rattle.replay_model.proofs.Laws.{Rising}
use Rattle.replay_model.proofs.Superseded.{Tabled, Counted, tabled_none, tabled_more, counted_none, counted_more, counted_same}
use Rattle.replay_steps.specs.declared.preparing.Prepared.{Prepared}
use Rattle.replay_steps.specs.declared.judging.Judging.{Judging}
use Rattle.replay_steps.specs.Judging.{judging_of, superseding}

-- of the first i records
pub record Tables (trace : List TraceRecord) (i : ℕ) (s : Judging) : Type 0 where
  pub long : length s.last ≡ registers_max
  pub tabled : Tabled trace i s.last
  pub counted : Counted trace i s.superseded

pub tables_start : (trace : List TraceRecord) (p : Prepared) → Tables trace 0 (judging_of p)
unfolding judging_of
tables_start trace p = record { long = length-replicate {A = ℕ} registers_max 0; tabled = tabled_none registers_max; counted = counted_none }

-- a record that is kept
pub tables_next : {trace : List TraceRecord} {n i : ℕ} {s : Judging} → Rising n 0 trace → i < length trace → (record_at trace i).register < registers_max → Tables trace i s
    → Tables trace (suc i) (superseding s (record_at trace i).cycle (record_at trace i).register)
unfolding superseding
tables_next {trace} {i = i} {s = s} rising inside below t =
    let c = (record_at trace i).cycle in
    let r = (record_at trace i).register in
    let size = t.long in
    let there : r < length s.last = omega arith in
    record {
      long = length-set s.last r (c + 1) ∙ t.long;
      tabled = rw (add-one i) at (tabled_more t.tabled inside refl refl refl);
      counted = rw (add-one i) at (go there (decide (eqb (get_or s.last r 0) (c + 1))));
    }
  where
    e : ℕ
    e = get_or s.last (record_at trace i).register 0

    go : (record_at trace i).register < length s.last → (eqb e ((record_at trace i).cycle + 1) ≡ true) ⊎ (eqb e ((record_at trace i).cycle + 1) ≡ false)
        → Counted trace (i + 1) (cond (eqb e ((record_at trace i).cycle + 1)) (s.superseded + 1) s.superseded)
    go there (inl h) = rw h (counted_more t.tabled inside refl refl refl rising there refl t.counted (equal_iff.0 h))
    go there (inr h) = rw h (counted_same t.tabled inside refl refl refl rising there refl t.counted (λ same. true_or_false _ (equal_iff.1 same) h))
