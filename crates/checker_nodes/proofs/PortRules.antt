-- Whether a command names a port, tested on its kind byte and on the kinds of the registers that it names, is the meaning's rule: a number past the registers is no
-- port's, and where its record is kept, a goto names a state.
use Prim.Native.Nat.{ℕ, zero, suc, ◌≤◌, ◌<◌}
use mathlib.Core.Path.{◌≡◌, refl, sym, ◌∙◌, ap}
use mathlib.Core.Bool.{Bool, true, false, ◌&&◌, not}
use mathlib.Core.List.{List}
use native.Mathlib.Omega.{arith}
use lib.Dec.{ltb, eqb}
use lib.ListN.{get_or-eq_default}
use Rattle.model.specs.Image.{Design as Table, Register, State, Node, no_register, design_of, register_at, state_at, command_at}
use Rattle.model.specs.States.{is_port}
use Rattle.model.specs.Kinds.{assigns, goes, command_kind}
use Rattle.model.specs.Ports.{field_spares_ports, spares_ports, names_no_port}
use Rattle.model.proofs.Laws.Kinds.{kind_assigns, kind_goes}
use Rattle.design.specs.declared.Design.{Design}
use Rattle.design.specs.Records.{node_in, register_in, state_in}
use Rattle.design.specs.Describes.{Describes}
use Rattle.design.specs.Kept.{RecordsKept}
use Rattle.design.specs.RecordsAt.{CommandAt}
use Rattle.design.proofs.Laws.{registers_count, states_count, register_in_lem, state_in_lem}
use Rattle.design.proofs.FieldRules.{command_at_lem, command_kind_is, command_kind_of, item_is, a_is, b_is, named_state}

-- only an assignment and a goto are asked
unasked : (d : Table) (k : ℕ) (x : Node) → (k ≡ 1 → ⊥) → (k ≡ 4 → ⊥) → true ≡ spares_ports d (command_kind k) x
unfolding spares_ports command_kind
unasked d zero x one four = refl
unasked d (suc zero) x one four = absurd (one refl)
unasked d (suc (suc zero)) x one four = refl
unasked d (suc (suc (suc zero))) x one four = refl
unasked d (suc (suc (suc (suc zero)))) x one four = absurd (four refl)
unasked d (suc (suc (suc (suc (suc zero))))) x one four = refl
unasked d (suc (suc (suc (suc (suc (suc k)))))) x one four = refl

module _ {image : List ℕ} {x : Design} (d : Describes image x) where
  -- ---- ports
  pub port_none : {r : ℕ} → x.registers ≤ r → false ≡ is_port (design_of image) r
  port_none {r} l =
      let count = registers_count d in
      let none : register_at (design_of image) r ≡ no_register = get_or-eq_default (design_of image).registers no_register (omega arith) in
      rw none refl

  pub port_kind : {r k : ℕ} → r < x.registers → k ≡ (register_in image x.registers_at r).kind → eqb k 1 ≡ is_port (design_of image) r
  port_kind l e = rw (e ∙ ap (λ (y : Register). y.kind) (register_in_lem d l))

  -- ---- a goto's field
  pub field_rule : {t m : ℕ} {p : Bool} (j r : ℕ) → p ≡ is_port (design_of image) r → t < x.states → m ≡ (state_in image x.states_at t).parameters → not (ltb j m && p) ≡ field_spares_ports (design_of image) t j r
  unfolding field_spares_ports
  field_rule j r p l m = rw (p, m ∙ ap (λ (y : State). y.parameters) (state_in_lem d l))

module _ {image : List ℕ} {x : Design} {n : ℕ} (known : RecordsKept image x) (l : n < x.commands) where
  here : CommandAt image x x.commands_at n
  here = command_at_lem known.describes known.commands l refl

  -- ---- commands, by kind
  pub assignment_rule : {k r : ℕ} {p : Bool} → k ≡ 1 → p ≡ is_port (design_of image) r → k ≡ (node_in image x.commands_at n).kind → r ≡ (node_in image x.commands_at n).item
      → not p ≡ names_no_port (design_of image) n
  unfolding names_no_port spares_ports
  assignment_rule q p k f = rw (p, command_kind_of here assigns q k (kind_assigns refl), item_is here f)

  pub goto_state : {k t : ℕ} → k ≡ 4 → k ≡ (node_in image x.commands_at n).kind → t ≡ (node_in image x.commands_at n).item → t < x.states
  goto_state q k f = let count = states_count known.describes in let below = named_state here q k f in omega arith

  pub goto_rule :
      {k t a b : ℕ} {f g : Bool}
      → k ≡ 4
      → f ≡ field_spares_ports (design_of image) t 0 a
      → g ≡ field_spares_ports (design_of image) t 1 b
      → k ≡ (node_in image x.commands_at n).kind
      → t ≡ (node_in image x.commands_at n).item
      → a ≡ (node_in image x.commands_at n).a
      → b ≡ (node_in image x.commands_at n).b
      → (f && g) ≡ names_no_port (design_of image) n
  unfolding names_no_port spares_ports
  goto_rule q f g k t a b = rw (f, g, command_kind_of here goes q k (kind_goes refl), item_is here t, a_is here a, b_is here b)

  -- a state without parameters is given nothing
  pub goto_plain : {k t m : ℕ} → k ≡ 4 → m ≡ 0 → k ≡ (node_in image x.commands_at n).kind → t ≡ (node_in image x.commands_at n).item → m ≡ (state_in image x.states_at t).parameters
      → true ≡ names_no_port (design_of image) n
  unfolding names_no_port spares_ports field_spares_ports
  goto_plain q z k t m =
      let none : (state_at (design_of image) (command_at (design_of image) n).item).parameters ≡ 0 = ap (λ (s : ℕ). (state_at (design_of image) s).parameters) (sym (item_is here t)) ∙ sym (m ∙ ap (λ (y : State). y.parameters) (state_in_lem known.describes (goto_state q k t))) ∙ z in
      rw (command_kind_of here goes q k (kind_goes refl), none)

  -- no other command is asked
  pub other_rule : {k : ℕ} → (k ≡ 1 → ⊥) → (k ≡ 4 → ⊥) → k ≡ (node_in image x.commands_at n).kind → true ≡ names_no_port (design_of image) n
  unfolding names_no_port
  other_rule {k} one four p = rw (command_kind_is here {k = k} {m = k} refl p) (unasked (design_of image) k (command_at (design_of image) n) one four)

pub ruleset port_rules = (assignment_rule, goto_state, goto_plain, goto_rule, other_rule)
