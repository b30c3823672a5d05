-- What is promised of two runs: "Two runs of one accepted table, equal in marks and trusted values, and fed inputs equal where marked trusted, stay so
-- after any number of cycles."
use Rattle.std.specs.Prelude.{ℕ, zero, suc, ◌≤◌, ◌<◌, ◌≡◌, cond, List, [], ◌∷◌, map, eqb, length, Err}
use Rattle.model.specs.Indices.{tabulate}
use Rattle.model.specs.Image.{byte_at}
use Rattle.model.specs.Answers.{Answer, Accepted, numbers_of}
use Rattle.model.specs.Refusals.{Pass}
use Rattle.gates_model.specs.Tables.{Table, table_of, mark_at}
use Rattle.gates_model.specs.Signals.{Signal, IsSound}
use Rattle.gates_model.specs.Cycle.{signal_in, cycled}
use Rattle.gates_model.specs.Calls.{gates_reset, gates_cycle}
use Rattle.gates_model.specs.Rules.{TableKeeps, AreaLong, reset_table, cycle_table}
use Rattle.model.specs.Calls.{Left}

-- "equal in marks and trusted values"
pub record SignalsAgree (a b : Signal) : Type 0 where
  pub marks : a.mark ≡ b.mark
  pub values : a.mark ≡ 0 → a.value ≡ b.value

-- of the flip-flops' areas of two runs
pub record Agree (t : Table) (one other : List ℕ) : Type 0 where
  pub flipflop : (i : ℕ) → i < length t.flipflops → SignalsAgree (signal_in one i) (signal_in other i)

-- "fed inputs equal where marked trusted"
pub record FedAlike (t : Table) (one other : List ℕ) : Type 0 where
  pub input : (i : ℕ) → i < length t.inputs → mark_at t i ≡ 0 → byte_at one i ≡ byte_at other i

-- ---- cycles alone: `fed k` are the inputs of cycle k
module _ (t : Table) where
  unfoldable pub after_cycles : (ℕ → List ℕ) → ℕ → List ℕ → List ℕ
  after_cycles fed zero area = area
  after_cycles fed (suc n) area = cycled t (fed n) (after_cycles fed n area)

-- ---- lists of calls on one table, each on the area as the one before it left it
pub data Call : Type 0 where
  resets : Call
  cycles : List ℕ → Call

unfoldable pub perform : List ℕ → List ℕ → Call → Left (List ℕ)
perform table area resets = gates_reset table area
perform table area (cycles inputs) = gates_cycle table inputs area

-- the refusals of a call of a list, in the order of judging
abbrev pub call_table : List ℕ → List ℕ → Call → List Pass
call_table table area resets = reset_table table area
call_table table area (cycles inputs) = cycle_table table inputs area

-- the area after all calls of a list
unfoldable pub at_end : List ℕ → List ℕ → List Call → List ℕ
at_end table area [] = area
at_end table area (call ∷ more) = at_end table (perform table area call).lent more

-- What remains of an accepted call: that it was a reset, or that it was a cycle and its inputs where the table marks them trusted.
pub data Trace : Type 0 where
  was_reset : Trace
  was_cycle : List ℕ → Trace

unfoldable pub trusted_inputs : Table → List ℕ → List ℕ
trusted_inputs t inputs = tabulate (λ i. cond (eqb (mark_at t i) 0) (byte_at inputs i) 0) (length t.inputs)

abbrev pub trace_of : Table → Call → Trace
trace_of t resets = was_reset
trace_of t (cycles inputs) = was_cycle (trusted_inputs t inputs)

-- a refused call is struck out: it changes nothing
abbrev pub kept : {A : Type 0} → Answer → A → List A → List A
kept (Accepted count) x xs = x ∷ xs
kept (Err why) x xs = xs

unfoldable pub remains : List ℕ → List ℕ → List Call → List Trace
remains table area [] = []
remains table area (call ∷ more) =
    kept (perform table area call).answer (trace_of (table_of table) call) (remains table (perform table area call).lent more)

-- the areas after each accepted call
unfoldable pub areas_after : List ℕ → List ℕ → List Call → List (List ℕ)
areas_after table area [] = []
areas_after table area (call ∷ more) =
    kept (perform table area call).answer (perform table area call).lent (areas_after table (perform table area call).lent more)

-- areas that agree one by one
pub data AgreeEach (t : Table) : List (List ℕ) → List (List ℕ) → Type 0 where
  none : AgreeEach t [] []
  more : {one other : List ℕ} {ones others : List (List ℕ)} → Agree t one other → AgreeEach t ones others → AgreeEach t (one ∷ ones) (other ∷ others)

-- Two lists match when the same remains of both. From areas that agree, matching lists leave areas that agree, after each accepted call and at the end.
abbrev pub RunsIndependent : Type 0
RunsIndependent =
    (table : List ℕ)
    → (one other : List ℕ)
    → Agree (table_of table) one other
    → (calls calls' : List Call)
    → remains table one calls ≡ remains table other calls'
    → AgreeEach (table_of table) (areas_after table one calls) (areas_after table other calls')
    × Agree (table_of table) (at_end table one calls) (at_end table other calls')

-- ---- cycles that are all accepted
-- an area that a cycle accepts: "a value and a mark byte per flip-flop", in range
pub record AreaReady (t : Table) (area : List ℕ) : Type 0 where
  pub long : AreaLong t area
  pub sound : (i : ℕ) → i < length t.flipflops → IsSound (signal_in area i)

-- inputs that it accepts: "one value byte per input", in range
pub record InputsReady (t : Table) (inputs : List ℕ) : Type 0 where
  pub long : length inputs ≡ length t.inputs
  pub bits : (i : ℕ) → i < length t.inputs → byte_at inputs i ≤ 1

-- inputs of two runs, cycle by cycle: each is one that a cycle accepts, and they are equal where marked trusted
pub data FedEach (t : Table) : List (List ℕ) → List (List ℕ) → Type 0 where
  unfed : FedEach t [] []
  fed : {inputs inputs' : List ℕ} {later later' : List (List ℕ)} → InputsReady t inputs → InputsReady t inputs' → FedAlike t inputs inputs' → FedEach t later later' → FedEach t (inputs ∷ later) (inputs' ∷ later')

-- the answers of a list of calls
unfoldable pub answers : List ℕ → List ℕ → List Call → List Answer
answers table area [] = []
answers table area (call ∷ later) = (perform table area call).answer ∷ answers table (perform table area call).lent later

-- the areas after each call, refused ones included
unfoldable pub areas_each : List ℕ → List ℕ → List Call → List (List ℕ)
areas_each table area [] = []
areas_each table area (call ∷ later) = let after = (perform table area call).lent in after ∷ areas_each table after later

-- 02's sentence of the calls: of an accepted table, from areas that are ready and agree, and fed so, every cycle of both runs is accepted, with number 0,
-- place 0 and count 0, and the areas agree after each and at the end.
pub record StayAlike (table one other : List ℕ) (feds feds' : List (List ℕ)) : Type 0 where
  pub accepted : answers table one (map cycles feds) ≡ map (λ inputs. Accepted 0) feds
  pub accepted' : answers table other (map cycles feds') ≡ map (λ inputs. Accepted 0) feds'
  pub each : AgreeEach (table_of table) (areas_each table one (map cycles feds)) (areas_each table other (map cycles feds'))
  pub end : Agree (table_of table) (at_end table one (map cycles feds)) (at_end table other (map cycles feds'))

abbrev pub CyclesStayAlike : Type 0
CyclesStayAlike =
    (table : List ℕ)
    → TableKeeps table
    → (one other : List ℕ)
    → AreaReady (table_of table) one
    → AreaReady (table_of table) other
    → Agree (table_of table) one other
    → (feds feds' : List (List ℕ))
    → FedEach (table_of table) feds feds'
    → StayAlike table one other feds feds'

-- And an accepted reset or cycle leaves an area that the next cycle accepts.
abbrev pub LeavesReady : Type 0
LeavesReady =
    (table area : List ℕ) (call : Call)
    → (numbers_of (perform table area call).answer).number ≡ 0
    → AreaReady (table_of table) (perform table area call).lent
