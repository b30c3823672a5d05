-- The contracts of the exported functions on gate tables, as the promises take them: each is the postcondition that the function is proved to have, and its tie says that
-- it is the equation with the definition. A contract that says less than the definition is refused here, at its tie.
use Prim.Native.Nat.{ℕ}
use mathlib.Core.Path.{◌≡◌}
use mathlib.Core.List.{List, [], ◌∷◌}
use contract.Lifetimes.{Lfts}
use denote.Bor.{Bor}
use denote.MutBor.{MutBor, Gone}
use denote.Triple.Clauses.{AtExit}
use borrow.Fn.Kinds.{Dens, ended_of}
use Rattle.model.specs.Answers.{numbers_of}
use Rattle.model.specs.Refusals.{in_numbers}
use Rattle.gates_model.specs.Calls.{gates_check}
use Rattle.gates_model.specs.Runs.{Call, resets, cycles, perform}
use Rattle.caisson.specs.declared.HostAnswer.{HostAnswer}
use Rattle.caisson.specs.Told.{told, told_left}
use Rattle.caisson.proofs.caisson_gates_check.Kinds as check-kinds
use Rattle.caisson.proofs.caisson_gates_check.Reads as check-reads
use Rattle.caisson.proofs.caisson_gates_reset.Kinds as reset-kinds
use Rattle.caisson.proofs.caisson_gates_reset.Reads as reset-reads
use Rattle.caisson.proofs.caisson_gates_cycle.Kinds as cycle-kinds
use Rattle.caisson.proofs.caisson_gates_cycle.Reads as cycle-reads

-- A call took the area from `before` to `after` and was answered h, all as its definition says.
abbrev pub GatesMade : List ℕ → List ℕ → Call → HostAnswer → List ℕ → Type 0
GatesMade table before call h after = told_left h after ≡ in_numbers (perform table before call)

-- ---- the ties: a function's postcondition, at any arguments (a), answer (h) and arguments at exit (e)
pub gates_check_tie : (κs : Lfts 1) (a : Dens κs check-kinds.ps) (h : HostAnswer) (e : AtExit (ended_of 1 check-kinds.ps check-kinds.r) κs)
    → check-reads.Post κs a h e
    → told h ≡ numbers_of (gates_check a.0.now)
gates_check_tie κs a h e post = post

pub gates_reset_tie : (κs : Lfts 2) (a : Dens κs reset-kinds.ps) (h : HostAnswer) (e : AtExit (ended_of 2 reset-kinds.ps reset-kinds.r) κs)
    → reset-reads.Post κs a h e
    → GatesMade a.0.now a.1.0.now resets h e.1.0.now
unfolding perform
gates_reset_tie κs a h e post = post

pub gates_cycle_tie : (κs : Lfts 3) (a : Dens κs cycle-kinds.ps) (h : HostAnswer) (e : AtExit (ended_of 3 cycle-kinds.ps cycle-kinds.r) κs)
    → cycle-reads.Post κs a h e
    → GatesMade a.0.now a.1.1.0.now (cycles a.1.0.now) h e.1.1.0.now
unfolding perform
gates_cycle_tie κs a h e post = post

-- ---- no function asks for anything
pub gates_check_asks_nothing : (κs : Lfts 1) (a : Dens κs check-kinds.ps) → check-reads.Asked κs a
gates_check_asks_nothing κs a = tt

pub gates_reset_asks_nothing : (κs : Lfts 2) (a : Dens κs reset-kinds.ps) → reset-reads.Asked κs a
gates_reset_asks_nothing κs a = tt

pub gates_cycle_asks_nothing : (κs : Lfts 3) (a : Dens κs cycle-kinds.ps) → cycle-reads.Asked κs a
gates_cycle_asks_nothing κs a = tt

-- ---- calls of the exported functions
-- where the lent slices stand, and their ghost names: no contract speaks of these
pub record Slices : Type 0 where
  pub table : Gone
  pub inputs : Gone
  pub flipflops : Gone

-- a slice with these bytes, as it is lent to be read, and as it is lent to be changed
abbrev shows : Gone → List ℕ → Bor (List ℕ)
shows slice bytes = record { ref_ptr = slice.ref_ptr; now = bytes }

abbrev holds : Gone → List ℕ → MutBor (List ℕ)
holds slice bytes = record { ref_ptr = slice.ref_ptr; ghost_name = slice.ghost_name; now = bytes }

-- the arguments of each function, at its entry and at its exit
module _ (s : Slices) (table : List ℕ) where
  abbrev table_with : Bor (List ℕ) × Unit {0}
  table_with = (shows s.table table, tt)

  abbrev reset_with : List ℕ → Bor (List ℕ) × (MutBor (List ℕ) × Unit {0})
  reset_with flipflops = (shows s.table table, (holds s.flipflops flipflops, tt))

  abbrev cycle_with : List ℕ → List ℕ → Bor (List ℕ) × (Bor (List ℕ) × (MutBor (List ℕ) × Unit {0}))
  cycle_with inputs flipflops = (shows s.table table, (shows s.inputs inputs, (holds s.flipflops flipflops, tt)))

-- Check was called with this table and answered h: its postcondition holds.
abbrev pub GatesChecked : List ℕ → HostAnswer → Type 0
GatesChecked table h = (κs : Lfts 1) × (s : Slices) × check-reads.Post κs (table_with s table) h (table_with s table)

-- The exported function of a call was called with these bytes and answered h: its postcondition holds of the answer and of the bytes after it.
abbrev pub GatesCalled : List ℕ → List ℕ → Call → HostAnswer → List ℕ → Type 0
GatesCalled table before resets h after = (κs : Lfts 2) × (s : Slices) × reset-reads.Post κs (reset_with s table before) h (reset_with s table after)
GatesCalled table before (cycles inputs) h after = (κs : Lfts 3) × (s : Slices) × cycle-reads.Post κs (cycle_with s table inputs before) h (cycle_with s table inputs after)

-- Calls were made, each on the area as the one before it left it.
abbrev pub AllGatesCalled : List ℕ → List ℕ → List Call → List ℕ → Type 0
AllGatesCalled table before [] after = before ≡ after
AllGatesCalled table before (call ∷ more) after = (h : HostAnswer) × (between : List ℕ) × GatesCalled table before call h between × AllGatesCalled table between more after

-- ---- what was called was done
pub gates_checked_told : (table : List ℕ) (h : HostAnswer) → GatesChecked table h → told h ≡ numbers_of (gates_check table)
gates_checked_told table h (κs, s, post) = gates_check_tie κs (table_with s table) h (table_with s table) post

pub gates_called_made : (table before after : List ℕ) (call : Call) (h : HostAnswer) → GatesCalled table before call h after → GatesMade table before call h after
gates_called_made table before after resets h (κs, s, post) = gates_reset_tie κs (reset_with s table before) h (reset_with s table after) post
gates_called_made table before after (cycles inputs) h (κs, s, post) = gates_cycle_tie κs (cycle_with s table inputs before) h (cycle_with s table inputs after) post
