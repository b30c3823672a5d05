-- The records of a trace as they are applied, one by one, each behind the cycles before it.
use Rattle.std.specs.Prelude.{ℕ, zero, suc, ◌-◌, ◌<◌, ◌≤◌, ◌≡◌, List, length, set}
use Rattle.model.specs.Answers.{Accepted}
use Rattle.model.specs.Image.{Design as Table, design_of}
use Rattle.model.specs.Values.{modulus}
use Rattle.model.specs.Machine.{Areas, after_cycles}
use Rattle.model.specs.Calls.{Lent}
use Rattle.machine.specs.Cycles.{Running, areas_in}
use Rattle.replay_model.specs.declared.TraceRecord.{TraceRecord}
use Rattle.replay_model.specs.Traces.{record_at}
use Rattle.replay_steps.specs.declared.preparing.Prepared.{Prepared}
use Rattle.replay_steps.specs.declared.judging.Judging.{Judging}
use Rattle.replay_steps.specs.Preparing.{Preparing}
use Rattle.replay_steps.specs.Judging.{judging_of, judged_to, answer_of, records_kept}

-- so many cycles, and then a value for a port
unfoldable pub stepped : Table → ℕ → ℕ → ℕ → Areas → Areas
stepped d k r v areas =
    let after = after_cycles d k areas in
    record { registers = set after.registers r v; targets = after.targets; bindings = after.bindings }

-- as many cycles as are done before the i-th record
unfoldable pub done_before : List TraceRecord → ℕ → ℕ
done_before trace zero = 0
done_before trace (suc i) = (record_at trace i).cycle

-- the areas once the first i records are applied
unfoldable pub replayed_to : Table → List TraceRecord → Areas → ℕ → Areas
replayed_to d trace areas zero = areas
replayed_to d trace areas (suc i) =
    stepped d ((record_at trace i).cycle - done_before trace i) (record_at trace i).register (record_at trace i).value (replayed_to d trace areas i)

-- the whole trace is judged
pub record Judged (image : List ℕ) (lent : Lent) (trace : List TraceRecord) (p : Prepared) (s : Judging) : Type 0 where
  pub prepared : Preparing image lent p.count p
  pub judged : s ≡ judged_to trace (judging_of p) (length trace)

-- the step on a record
pub record Stepping (image : List ℕ) (p : Prepared) (registers targets : List ℕ) (done c r v : ℕ) : Type 0 where
  pub running : Running image p.design p.tables.defaults p.tables.scopes registers targets
  pub earlier : done ≤ c
  pub port : r < length (design_of image).registers
  pub fits : v < modulus (design_of image).registers r

-- the end
pub record Finishing (image : List ℕ) (p : Prepared) (s : Judging) (registers targets : List ℕ) (done : ℕ) : Type 0 where
  pub running : (k : ℕ) → answer_of p s ≡ Accepted k → Running image p.design p.tables.defaults p.tables.scopes registers targets
  pub earlier : (k : ℕ) → answer_of p s ≡ Accepted k → done ≤ p.count

-- the first i records are applied, from the areas as they were lent
pub record Replaying (image : List ℕ) (start : Lent) (trace : List TraceRecord) (p : Prepared) (s : Judging) (i done : ℕ) (registers targets : List ℕ) : Type 0 where
  pub judged : Judged image start trace p s
  pub within : i ≤ records_kept p s (length trace)
  pub cycles : done ≡ done_before trace i
  pub running : (k : ℕ) → answer_of p s ≡ Accepted k → Running image p.design p.tables.defaults p.tables.scopes registers targets
  pub areas : areas_in (design_of image) registers targets ≡ replayed_to (design_of image) trace (areas_in (design_of image) start.registers start.targets) i
  pub none : i ≡ 0 → (registers ≡ start.registers) × (targets ≡ start.targets)
