-- What is promised about gate tables, each promise restated in full and closed by one citation. The promises about the code that runs are equations with the
-- same definitions (`crates/caisson/proofs/GatePromises.antt`).
use Prim.Native.Nat.{ℕ}
use mathlib.Core.Path.{◌≡◌}
use mathlib.Core.Logic.{◌↔◌}
use mathlib.Core.List.{List}
use Rattle.model.specs.declared.Refusal.{Refusal}
use Rattle.model.specs.Answers.{number_of, numbers_of}
use Rattle.model.specs.Refusals.{FirstBroken, in_numbers, Exactly}
use Rattle.gates_model.specs.Tables.{Table, table_of}
use Rattle.gates_model.specs.Signals.{Signal, nand, IsSound, Unaffected}
use Rattle.gates_model.specs.Cycle.{cycled}
use Rattle.gates_model.specs.Calls.{gates_check}
use Rattle.gates_model.specs.Rules.{TableKeeps, check_table}
use Rattle.gates_model.specs.Runs.{Agree, FedAlike, after_cycles, Call, perform, call_table, at_end, remains, areas_after, AgreeEach, AreaReady, FedEach, StayAlike}
use Rattle.gates_model.proofs.Exact.{check_exact, check_answers, call_exactly}
use Rattle.gates_model.proofs.Marks.{marks_exact}
use Rattle.gates_model.proofs.Independence.Wires.{cycle_agrees}
use Rattle.gates_model.proofs.Independence.Runs.{cycles_agree, runs_independent}
use Rattle.gates_model.proofs.Ready as ready

-- Demand 2, of check: a table is accepted, with number 0, place 0 and count 0, exactly when it keeps the rules.
pub accepted_exactly : (table : List ℕ) → (numbers_of (gates_check table) ≡ record { number = 0; place = 0; count = 0 }) ↔ TableKeeps table
accepted_exactly = check_exact

-- Refusals are as exact: check answers a number and a place exactly when all rules before it are kept everywhere, and the place is the lowest at which this
-- rule is broken.
pub refused_exactly :
    (table : List ℕ) (refusal : Refusal) (place : ℕ)
    → (numbers_of (gates_check table) ≡ record { number = number_of refusal; place = place; count = 0 }) ↔ FirstBroken (check_table table) refusal place
refused_exactly table = (check_answers table).refused

-- The other calls, each by its own table of refusals. Demand 1: no lent byte changes on a refusal.
pub calls_exactly : (table area : List ℕ) (call : Call) → Exactly (call_table table area call) 0 area (in_numbers (perform table area call))
calls_exactly = call_exactly

-- The rule of the marks is exact for one gate: an output is marked trusted exactly when no choice of the untrusted inputs' values changes it.
pub marks_exactly : (a b : Signal) → IsSound a → IsSound b → ((nand a b).mark ≡ 0) ↔ Unaffected a b
marks_exactly = marks_exact

-- "Two runs of one accepted table, equal in marks and trusted values, and fed inputs equal where marked trusted, stay so": after one cycle,
pub cycle_independent :
    (t : Table) {inputs inputs' area area' : List ℕ}
    → FedAlike t inputs inputs'
    → Agree t area area'
    → Agree t (cycled t inputs area) (cycled t inputs' area')
cycle_independent = cycle_agrees

-- "after any number of cycles",
pub cycles_independent :
    (t : Table) (fed fed' : ℕ → List ℕ)
    → ((k : ℕ) → FedAlike t (fed k) (fed' k))
    → (one other : List ℕ)
    → Agree t one other
    → (n : ℕ)
    → Agree t (after_cycles t fed n one) (after_cycles t fed' n other)
cycles_independent = cycles_agree

-- and through lists of calls, refused ones struck out: after each accepted call, and at the end. A table that is not accepted has no accepted call.
pub lists_independent :
    (table one other : List ℕ)
    → Agree (table_of table) one other
    → (calls calls' : List Call)
    → remains table one calls ≡ remains table other calls'
    → AgreeEach (table_of table) (areas_after table one calls) (areas_after table other calls')
    × Agree (table_of table) (at_end table one calls) (at_end table other calls')
lists_independent = runs_independent

-- The same sentence of the calls, with nothing to strike out: of an accepted table, from areas and with inputs of the right lengths and with bytes in range,
-- every cycle of both runs is accepted, and the areas agree after each and at the end.
pub cycles_stay_alike :
    (table : List ℕ)
    → TableKeeps table
    → (one other : List ℕ)
    → AreaReady (table_of table) one
    → AreaReady (table_of table) other
    → Agree (table_of table) one other
    → (feds feds' : List (List ℕ))
    → FedEach (table_of table) feds feds'
    → StayAlike table one other feds feds'
cycles_stay_alike = ready.cycles_stay_alike

-- An area is ready so behind every accepted reset and cycle.
pub leaves_ready :
    (table area : List ℕ) (call : Call)
    → (numbers_of (perform table area call).answer).number ≡ 0
    → AreaReady (table_of table) (perform table area call).lent
leaves_ready = ready.leaves_ready
