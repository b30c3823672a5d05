-- Cases at the boundaries of "they differ at most in node numbers": designs that do, and designs that differ in one thing more.
use Prim.Native.Nat.{ℕ}
use mathlib.Core.Path.{◌≡◌, refl, ap}
use mathlib.Core.Bool.{not}
use mathlib.Core.List.{List, [], ◌∷◌, map}
use lib.ListN.{replicate, get_or}
use native.Mathlib.Omega.{arith}
use lib.Dec.{eqb}
use borrow.Author.Tests.{eq-eqb}
use Rattle.model.specs.Image.{State, Node, Register, no_state, no_register, expression_at, design_of}
use Rattle.model.specs.Trees.{Expr, constant, register, binary, Cmd, skip, assign, sequence, fall, goto, branch}
use Rattle.model.proofs.Laws.Booleans.{not_true, true_or_false}
use Rattle.model.proofs.Laws.Indices.{all_at}
use Rattle.model.proofs.Opened.{checks, accepted, judged}
use Rattle.model.proofs.Designs.{assemble, register_record, state_record, falls, goes_to, chain}
use Rattle.filing_model.specs.Same.{Unnumbered, DifferAtMostInNumbers, NodesRenumbered}
use Rattle.filing_model.proofs.Opened.{filing}
use Rattle.filing_model.proofs.Boundaries.Forms.{nested, nested_with, nested_filed}

-- another numbering of one design
shows_same : DifferAtMostInNumbers nested nested_filed
shows_same = unfold filing in refl

-- what two bodies are told apart by: the state of a goto, or the constant of an assignment, in an else and in front
abbrev constant_in : Expr → ℕ
constant_in (constant v) = v
constant_in (register n r) = 0
constant_in (binary o p q) = 0

abbrev mark_of : Cmd → ℕ
mark_of (skip n) = 0
mark_of (assign n r e) = constant_in e
mark_of (sequence n p q) = mark_of p
mark_of (fall n) = 0
mark_of (goto n t a b) = t
mark_of (branch n e p q) = mark_of q

abbrev second_mark : Unnumbered → ℕ
second_mark u = mark_of (get_or u.bodies 1 (skip 0))

-- another constant
shows_constant : DifferAtMostInNumbers nested (nested_with 6) → ⊥
shows_constant e = unfold filing in let z : ◌≡◌ {A = ℕ} 7 6 = ap second_mark e in omega arith

-- A small design: a port or an inner register with a reset value, and states that differ in one field or in the order of two bodies.
abbrev small : List ℕ → ℕ → ℕ → ℕ → ℕ → List ℕ
small rows reset label first second =
    assemble
    rows
    (register_record 0 0 reset ∷ [])
    (state_record 0 0 0 ∷ state_record 0 label first ∷ state_record 0 label second ∷ [])
    (falls ∷ goes_to 1 ∷ goes_to 2 ∷ [])
    []

abbrev plain : List ℕ
plain = small chain 3 0 1 2

shows_plain_accepted : map judged (plain ∷ small (1 ∷ []) 3 0 1 2 ∷ small chain 4 0 1 2 ∷ small chain 3 1 1 2 ∷ small chain 3 0 2 1 ∷ []) ≡ replicate 5 (accepted 0)
shows_plain_accepted = unfold checks in refl

-- other rows of labels
shows_rows : DifferAtMostInNumbers plain (small (1 ∷ []) 3 0 1 2) → ⊥
shows_rows e = unfold filing in let z : ◌≡◌ {A = ℕ} 3 1 = ap (λ (u : Unnumbered). get_or u.rows 0 0) e in omega arith

-- another reset value
shows_registers : DifferAtMostInNumbers plain (small chain 4 0 1 2) → ⊥
shows_registers e = unfold filing in let z : ◌≡◌ {A = ℕ} 3 4 = ap (λ (u : Unnumbered). (get_or u.registers 0 no_register).reset) e in omega arith

-- another label of states
shows_states : DifferAtMostInNumbers plain (small chain 3 1 1 2) → ⊥
shows_states e = unfold filing in let z : ◌≡◌ {A = ℕ} 0 1 = ap (λ (u : Unnumbered). (get_or u.states 1 no_state).label) e in omega arith

-- the bodies of two states exchanged: the same nodes, and other bodies
shows_bodies : DifferAtMostInNumbers plain (small chain 3 0 2 1) → ⊥
shows_bodies e = unfold filing in let z : ◌≡◌ {A = ℕ} 1 2 = ap second_mark e in omega arith

-- ---- "some renumbering of nodes takes one design to the other": of none of these pairs
-- another constant: the second design has none of 7, whatever number its node had
shows_constant_renumbered : NodesRenumbered (design_of nested) (design_of (nested_with 6)) → ⊥
shows_constant_renumbered r =
    unfold filing in
    let none = all_at (λ e. not (eqb (expression_at (design_of (nested_with 6)) e).b 7)) 5 refl (r.expression 1) (r.renumbers.expressions_new 1 (omega arith)) in
    true_or_false _ (eq-eqb _ 7 (ap (λ (x : Node). x.b) (r.renumbers.expression_is 1 (omega arith)))) (not_true _ none)

-- other rows of labels
shows_rows_renumbered : NodesRenumbered (design_of plain) (design_of (small (1 ∷ []) 3 0 1 2)) → ⊥
shows_rows_renumbered r = unfold filing in let z : ◌≡◌ {A = ℕ} 1 3 = ap (λ (xs : List ℕ). get_or xs 0 0) r.renumbers.rows in omega arith

-- another reset value
shows_registers_renumbered : NodesRenumbered (design_of plain) (design_of (small chain 4 0 1 2)) → ⊥
shows_registers_renumbered r = unfold filing in let z : ◌≡◌ {A = ℕ} 4 3 = ap (λ (xs : List Register). (get_or xs 0 no_register).reset) r.renumbers.registers in omega arith

-- another label of states
shows_states_renumbered : NodesRenumbered (design_of plain) (design_of (small chain 3 1 1 2)) → ⊥
shows_states_renumbered r = unfold filing in let z : ◌≡◌ {A = ℕ} 1 0 = ap (λ (x : State). x.label) (r.renumbers.state_is 1 (omega arith)) in omega arith

-- the bodies of two states exchanged: state 1 has command 2 now, so command 1 would have to be 2, which goes elsewhere
shows_bodies_renumbered : NodesRenumbered (design_of plain) (design_of (small chain 3 0 2 1)) → ⊥
shows_bodies_renumbered r =
    unfold filing in
    let is : ◌≡◌ {A = ℕ} 2 (r.command 1) = ap (λ (x : State). x.command) (r.renumbers.state_is 1 (omega arith)) in
    let z : ◌≡◌ {A = ℕ} 2 1 = ap (λ (x : Node). x.item) (rw (← is) at (r.renumbers.command_is 1 (omega arith))) in
    omega arith
