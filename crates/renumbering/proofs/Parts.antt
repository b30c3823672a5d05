-- The parts of a node exist and have lower numbers than it has: the rules of a record ask it of each kind.
use Prim.Native.Nat.{ℕ, ◌<◌}
use mathlib.Core.Path.{◌≡◌}
use mathlib.Core.Logic.{⊎_elim}
use mathlib.Core.List.Memᴰ
use mathlib.Core.List.{◌∷◌, [], Memᴰ}
use native.Mathlib.Omega.{arith}
use native.Mathlib.Decide.{ℕ_discrete}
use lib.ListN.{length}
use Rattle.model.specs.Image.{Design, Node, command_at, expression_at}
use Rattle.model.specs.Kinds.{CommandKind, skips, assigns, sequences, falls, goes, branches, unknown_command, ExpressionKind, constants, reads, unknown_expression, operates, command_kind, expression_kind}
use Rattle.model.specs.States.{parent}
use Rattle.model.specs.Nodes.{command_parts, expressions_of, expression_parts, parts_of, values_of, operands_of}
use Rattle.model.specs.Rules.{CommandHolds, ExpressionHolds, StructureKeeps}

pair_below : {p a b n : ℕ} → a < n → b < n → Memᴰ p (a ∷ b ∷ []) → p < n
pair_below {p} {a} {b} {n} k l h = ⊎_elim (λ (e : p ≡ a). rw e k) (λ (t : Memᴰ p (b ∷ [])). rw (Memᴰ.eq_of_singleton t) l) (Memᴰ.cases_cons h)

module _ (d : Design) (n : ℕ) (x : Node) where
  parts_lower : (kind : CommandKind) (p : ℕ) → CommandHolds d n kind x → Memᴰ p (command_parts kind x) → p < n
  unfolding command_parts
  parts_lower skips p keeps h = absurd (Memᴰ.not-nil h)
  parts_lower assigns p keeps h = absurd (Memᴰ.not-nil h)
  parts_lower sequences p keeps h = pair_below keeps.1 keeps.2 h
  parts_lower falls p keeps h = absurd (Memᴰ.not-nil h)
  parts_lower goes p keeps h = absurd (Memᴰ.not-nil h)
  parts_lower branches p keeps h = pair_below keeps.2 keeps.3 h
  parts_lower unknown_command p keeps h = absurd keeps

  values_exist : (kind : CommandKind) (e : ℕ) → CommandHolds d n kind x → Memᴰ e (expressions_of kind x) → e < length d.expressions
  unfolding expressions_of
  values_exist skips e keeps h = absurd (Memᴰ.not-nil h)
  values_exist assigns e keeps h = rw (Memᴰ.eq_of_singleton h) keeps.1
  values_exist sequences e keeps h = absurd (Memᴰ.not-nil h)
  values_exist falls e keeps h = absurd (Memᴰ.not-nil h)
  values_exist goes e keeps h = absurd (Memᴰ.not-nil h)
  values_exist branches e keeps h = rw (Memᴰ.eq_of_singleton h) keeps.1
  values_exist unknown_command e keeps h = absurd keeps

  operands_lower : (kind : ExpressionKind) (p : ℕ) → ExpressionHolds d n kind x → Memᴰ p (expression_parts kind x) → p < n
  unfolding expression_parts
  operands_lower constants p keeps h = absurd (Memᴰ.not-nil h)
  operands_lower reads p keeps h = absurd (Memᴰ.not-nil h)
  operands_lower (operates o) p keeps h = pair_below keeps.1 keeps.2 h
  operands_lower unknown_expression p keeps h = absurd keeps

module _ (d : Design) (keeps : StructureKeeps d) where
  pub part_below : (n p : ℕ) → n < length d.commands → Memᴰ p (parts_of d n) → p < n
  part_below n p l h = parts_lower d n (command_at d n) (command_kind (command_at d n).kind) p (keeps.commands n l) h

  pub value_below : (n e : ℕ) → n < length d.commands → Memᴰ e (values_of d n) → e < length d.expressions
  value_below n e l h = values_exist d n (command_at d n) (command_kind (command_at d n).kind) e (keeps.commands n l) h

  pub operand_below : (n p : ℕ) → n < length d.expressions → Memᴰ p (operands_of d n) → p < n
  operand_below n p l h = operands_lower d n (expression_at d n) (expression_kind (expression_at d n).kind) p (keeps.expressions n l) h

  -- and the parent of a state is one
  pub parent_exists : (s : ℕ) → s < length d.states → parent d s < length d.states
  parent_exists s l = go (ℕ_discrete s 0)
    where
      go : Dec (s ≡ 0) → parent d s < length d.states
      go (yes e) = omega (arith, (keeps.states s l).root_parent e)
      go (no e) = omega (arith, (keeps.states s l).parent_below e)
