-- 02, E10: the table of refusals of a replay, as propositions in the order in which they are judged.
use Rattle.std.specs.Prelude.{ℕ, suc, ◌≤◌, ◌<◌, ◌^◌, ◌≡◌, List, [], ◌∷◌, ◌++◌, length}
use Rattle.model.specs.declared.Refusal.TheVariants.{NoPort, PortValue, TraceCycle}
use Rattle.model.specs.Image.{Design, design_of, register_at}
use Rattle.model.specs.Calls.{Lent}
use Rattle.model.specs.Refusals.{Pass, ◌asks◌, each, run_table}
use Rattle.replay_model.specs.declared.TraceRecord.{TraceRecord}
use Rattle.replay_model.specs.Traces.{record_at}

-- 23: no cycle falls, and none reaches n
pub record CycleKeeps (trace : List TraceRecord) (n i : ℕ) : Type 0 where
  pub rising : (before : ℕ) → suc before ≡ i → (record_at trace before).cycle ≤ (record_at trace i).cycle
  pub below : (record_at trace i).cycle < n

-- 13: a record names a port
pub record NamesPort (d : Design) (trace : List TraceRecord) (i : ℕ) : Type 0 where
  pub exists : (record_at trace i).register < length d.registers
  pub port : (register_at d (record_at trace i).register).kind ≡ 1

-- 17: its value fits the port
abbrev pub ValueFits : Design → List TraceRecord → ℕ → Type 0
ValueFits d trace i = NamesPort d trace i → (record_at trace i).value < 2 ^ (register_at d (record_at trace i).register).width

-- a run's rules, then 23, then 13 and 17 "in one pass where the lowest bad record counts"
abbrev pub replay_table : List ℕ → Lent → List TraceRecord → ℕ → List Pass
replay_table image lent trace n =
    run_table image lent n
    ++ ((TraceCycle asks each (length trace) (CycleKeeps trace n) ∷ [])
    ∷ (NoPort asks each (length trace) (NamesPort (design_of image) trace) ∷ PortValue asks each (length trace) (ValueFits (design_of image) trace) ∷ [])
    ∷ [])
