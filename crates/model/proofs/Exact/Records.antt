-- A register, a state or a node is kept exactly where its record obeys its rules: the test of each field says the rule of that field.
use Prim.Native.Nat.{ℕ, zero, suc, ◌+◌, ◌<◌}
use mathlib.Core.Path.{◌≡◌, refl, ap}
use mathlib.Core.Logic.Iff
use mathlib.Core.Logic.{◌↔◌, ◌⊎◌}
use mathlib.Core.Bool.{true, false, false≢true, ◌&&◌}
use native.Mathlib.Omega.{arith}
use lib.Dec.{leb, ltb}
use Rattle.model.specs.Limits.{parameter_register, parameter_label, binding_length}
use Rattle.model.specs.Image.{Design, Node, register_at, state_at, command_at, expression_at}
use Rattle.model.specs.Lattice.{state_label}
use Rattle.model.specs.States.{parent, width_kept, register_kept, parent_kept, state_kept}
use Rattle.model.specs.Kinds.{CommandKind, skips, assigns, sequences, falls, goes, branches, unknown_command, ExpressionKind, constants, reads, unknown_expression, operates, command_kind, expression_kind, command_holds, expression_holds, command_kept, expression_kept}
use Rattle.model.specs.Ports.{field_spares_ports, spares_ports, names_no_port}
use Rattle.model.specs.Nodes.{command_used_once, expression_used_once, command_depth_kept, expression_depth_kept}
use Rattle.model.specs.Rules.{RegisterKeeps, StateKeeps, CommandHolds, ExpressionHolds, CommandKeeps, ExpressionKeeps, CommandUsedOnce, ExpressionUsedOnce, CommandDepthKeeps, ExpressionDepthKeeps, NamesNoPort, ParameterLabel, ParameterRegister}
use Rattle.model.proofs.Laws.Kinds.{command_number}
use Rattle.model.proofs.Laws.Equivalences.{less_iff, at_most_iff, equal_iff, refutes_iff, and_iff, and_three_iff, and_four_iff, or_iff}

-- no node of an unknown kind is kept
never_iff : (false ≡ true) ↔ ⊥
never_iff = (false≢true, absurd)

-- a byte that stands for a parameter
parameter_label_iff : {b : ℕ} → ((leb parameter_label b && ltb b (parameter_label + binding_length)) ≡ true) ↔ ParameterLabel b
parameter_label_iff = Iff.trans (and_iff at_most_iff less_iff) (λ h. record { at_least = h.0; below = h.1 }, λ k. (k.at_least, k.below))

parameter_register_iff : {b : ℕ} → ((leb parameter_register b && ltb b (parameter_register + binding_length)) ≡ true) ↔ ParameterRegister b
parameter_register_iff = Iff.trans (and_iff at_most_iff less_iff) (λ h. record { at_least = h.0; below = h.1 }, λ k. (k.at_least, k.below))

module _ (d : Design) where
  pub register_iff : (r : ℕ) → (register_kept d r ≡ true) ↔ RegisterKeeps d r
  unfolding register_kept width_kept
  register_iff r =
      Iff.trans
      (and_three_iff less_iff at_most_iff (and_three_iff at_most_iff at_most_iff less_iff)) (
        λ h. record { label = h.0; kind = h.1; width_least = h.2.0; width_most = h.2.1; reset = h.2.2 },
        λ k. (k.label, k.kind, (k.width_least, k.width_most, k.reset)),
      )

  -- the root's rules, and the rule of any other state
  abbrev ParentKeeps : ℕ → Type 0
  ParentKeeps s = (s ≡ 0 → parent d s ≡ 0) × (s ≡ 0 → (state_label d s ≡ 0) ⊎ ParameterLabel (state_label d s)) × ((s ≡ 0 → ⊥) → parent d s < s)

  parent_iff : (s : ℕ) → (parent_kept d s ≡ true) ↔ ParentKeeps s
  unfolding parent_kept
  parent_iff zero =
      Iff.trans
      (and_iff equal_iff (or_iff equal_iff parameter_label_iff))
      (λ h. (λ z. h.0, λ z. h.1, λ not_root. absurd (not_root refl)), λ k. (k.0 refl, k.1 refl))
  parent_iff (suc s) =
      Iff.trans
      less_iff
      (λ h. (λ z. absurd (omega arith), λ z. absurd (omega arith), λ not_root. h), λ k. k.2 (λ z. omega arith))

  pub state_iff : (s : ℕ) → (state_kept d s ≡ true) ↔ StateKeeps d s
  unfolding state_kept
  state_iff s =
      Iff.trans
      (and_three_iff (parent_iff s) (or_iff less_iff parameter_label_iff) less_iff) (
        λ h. record { root_parent = h.0.0; root_label = h.0.1; parent_below = h.0.2; label = h.1; command = h.2 },
        λ k. ((k.root_parent, k.root_label, k.parent_below), k.label, k.command),
      )

  -- ---- nodes
  command_holds_iff : (n : ℕ) (kind : CommandKind) (x : Node) → (command_holds d n kind x ≡ true) ↔ CommandHolds d n kind x
  unfolding command_holds
  command_holds_iff n skips x = and_four_iff equal_iff equal_iff equal_iff equal_iff
  command_holds_iff n assigns x = and_four_iff (or_iff less_iff parameter_register_iff) less_iff equal_iff equal_iff
  command_holds_iff n sequences x = and_four_iff equal_iff less_iff less_iff equal_iff
  command_holds_iff n falls x = and_four_iff equal_iff equal_iff equal_iff equal_iff
  command_holds_iff n goes x = and_iff less_iff equal_iff
  command_holds_iff n branches x = and_four_iff equal_iff less_iff less_iff less_iff
  command_holds_iff n unknown_command x = never_iff

  expression_holds_iff : (n : ℕ) (kind : ExpressionKind) (x : Node) → (expression_holds d n kind x ≡ true) ↔ ExpressionHolds d n kind x
  unfolding expression_holds
  expression_holds_iff n constants x = and_iff equal_iff equal_iff
  expression_holds_iff n reads x = and_four_iff (or_iff less_iff parameter_register_iff) equal_iff equal_iff equal_iff
  expression_holds_iff n (operates o) x = and_four_iff equal_iff less_iff less_iff equal_iff
  expression_holds_iff n unknown_expression x = never_iff

  pub command_iff : (n : ℕ) → (command_kept d n ≡ true) ↔ CommandKeeps d n
  unfolding command_kept
  command_iff n = command_holds_iff n (command_kind (command_at d n).kind) (command_at d n)

  pub expression_iff : (n : ℕ) → (expression_kept d n ≡ true) ↔ ExpressionKeeps d n
  unfolding expression_kept
  expression_iff n = expression_holds_iff n (expression_kind (expression_at d n).kind) (expression_at d n)

  -- an assignment names no port and a goto has none for an argument; of any other kind nothing is asked
  pub record Spares (kind : CommandKind) (x : Node) : Type 0 where
    pub assigned : kind ≡ assigns → (register_at d x.item).kind ≡ 1 → ⊥
    pub first_argument : kind ≡ goes → 0 < (state_at d x.item).parameters → (register_at d x.a).kind ≡ 1 → ⊥
    pub second_argument : kind ≡ goes → 1 < (state_at d x.item).parameters → (register_at d x.b).kind ≡ 1 → ⊥

  field_iff : (t j r : ℕ) → (field_spares_ports d t j r ≡ true) ↔ (j < (state_at d t).parameters → (register_at d r).kind ≡ 1 → ⊥)
  unfolding field_spares_ports
  field_iff t j r = Iff.trans (refutes_iff (and_iff less_iff equal_iff)) (λ h l k. h (l, k), λ h both. h both.0 both.1)

  unasked : (kind : CommandKind) (x : Node) → (command_number kind ≡ 1 → ⊥) → (command_number kind ≡ 4 → ⊥) → (true ≡ true) ↔ Spares kind x
  unasked kind x one four = (
    λ e. record { assigned = λ k. absurd (one (ap command_number k)); first_argument = λ k. absurd (four (ap command_number k)); second_argument = λ k. absurd (four (ap command_number k)) },
    λ h. refl,
  )

  spares_iff : (kind : CommandKind) (x : Node) → (spares_ports d kind x ≡ true) ↔ Spares kind x
  unfolding spares_ports
  spares_iff skips x = unasked skips x (λ z. omega arith) (λ z. omega arith)
  spares_iff assigns x =
      Iff.trans
      (refutes_iff equal_iff) (
        λ h.
            let no : assigns ≡ goes → ⊥ = λ k. let z : ◌≡◌ {A = ℕ} 1 4 = ap command_number k in omega arith in
            record { assigned = λ k. h; first_argument = λ k. absurd (no k); second_argument = λ k. absurd (no k) },
        λ k. k.assigned refl,
      )
  spares_iff sequences x = unasked sequences x (λ z. omega arith) (λ z. omega arith)
  spares_iff falls x = unasked falls x (λ z. omega arith) (λ z. omega arith)
  spares_iff goes x =
      Iff.trans
      (and_iff (field_iff _ _ _) (field_iff _ _ _)) (
        λ h.
            let no : goes ≡ assigns → ⊥ = λ k. let z : ◌≡◌ {A = ℕ} 4 1 = ap command_number k in omega arith in
            record { assigned = λ k. absurd (no k); first_argument = λ k. h.0; second_argument = λ k. h.1 },
        λ k. (k.first_argument refl, k.second_argument refl),
      )
  spares_iff branches x = unasked branches x (λ z. omega arith) (λ z. omega arith)
  spares_iff unknown_command x = unasked unknown_command x (λ z. omega arith) (λ z. omega arith)

  pub port_iff : (n : ℕ) → (names_no_port d n ≡ true) ↔ NamesNoPort d n
  unfolding names_no_port
  port_iff n =
      Iff.trans
      (spares_iff (command_kind (command_at d n).kind) (command_at d n)) (
        λ h. record { assigned = h.assigned; first_argument = h.first_argument; second_argument = h.second_argument },
        λ k. record { assigned = k.assigned; first_argument = k.first_argument; second_argument = k.second_argument },
      )

  pub command_used_iff : (n : ℕ) → (command_used_once d n ≡ true) ↔ CommandUsedOnce d n
  unfolding command_used_once
  command_used_iff n = equal_iff

  pub expression_used_iff : (n : ℕ) → (expression_used_once d n ≡ true) ↔ ExpressionUsedOnce d n
  unfolding expression_used_once
  expression_used_iff n = equal_iff

  pub command_depth_iff : (n : ℕ) → (command_depth_kept d n ≡ true) ↔ CommandDepthKeeps d n
  unfolding command_depth_kept
  command_depth_iff n = at_most_iff

  pub expression_depth_iff : (n : ℕ) → (expression_depth_kept d n ≡ true) ↔ ExpressionDepthKeeps d n
  unfolding expression_depth_kept
  expression_depth_iff n = at_most_iff
