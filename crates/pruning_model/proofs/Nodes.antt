-- Which nodes stay: a command that is the body of a reached state or a part of one that stays, and an expression that is the value of a command that stays or an operand of one
-- that stays. A goto that stays stands in the body of a reached state, so the state that it names is reached.
use Prim.Native.Nat.{ℕ, ◌<◌}
use mathlib.Core.Path.{◌≡◌, refl}
use mathlib.Core.Logic.Iff
use mathlib.Core.Logic.{◌↔◌, ◌⊎◌, ⊎_elim}
use mathlib.Core.Bool.{true}
use mathlib.Core.List.Memᴰ
use mathlib.Core.List.{◌∷◌, [], Memᴰ}
use native.Mathlib.Omega.{arith}
use lib.ListN.{length}
use Rattle.model.specs.Indices.{join_each}
use Rattle.model.specs.Image.{Design, state_at, command_at}
use Rattle.model.specs.Kinds.{CommandKind, skips, assigns, sequences, falls, goes, branches, unknown_command, command_kind}
use Rattle.model.specs.Trees.{cmd_of, body_of}
use Rattle.model.specs.Nodes.{command_parts, parts_of, values_of, operands_of}
use Rattle.model.specs.Rules.{CommandHolds, StructureKeeps}
use Rattle.model.proofs.Laws.Among.{among_each, each_cases}
use Rattle.model.proofs.Laws.Equivalences.{and_iff, some_iff}
use Rattle.model.proofs.Laws.Trees.{cmd_sequence, cmd_goto, cmd_branch}
use Rattle.renumbering.proofs.Parts.{part_below, value_below, operand_below}
use Rattle.renumbering.proofs.InTrees.{InTree, itself, part, tree_below, Held, stays_used, stays_part, stays_cases}
use Rattle.pruning_model.specs.Reached.{HoldsGoto, Reached, gone}
use Rattle.pruning_model.specs.Pruned.{numbers_in, command_stays, expression_stays}
use Rattle.pruning_model.proofs.Reached.{among_iff, reached_state, reached_iff}
use Rattle.pruning_model.proofs.Numbered.{numbers_iff}

-- ---- what stays
abbrev pub CommandStays : Design → ℕ → Type 0
CommandStays d n = (n < length d.commands) × (command_stays d n ≡ true)

abbrev pub ExpressionStays : Design → ℕ → Type 0
ExpressionStays d e = (e < length d.expressions) × (expression_stays d e ≡ true)

-- n is the body of a reached state, and e a value of a command that stays
abbrev pub IsBody : Design → ℕ → Type 0
IsBody d n = (s : ℕ) × Reached d s × ((state_at d s).command ≡ n)

abbrev pub IsValue : Design → ℕ → Type 0
IsValue d e = (n : ℕ) × CommandStays d n × Memᴰ e (values_of d n)

module _ (d : Design) (keeps : StructureKeeps d) (some : 0 < length d.states) where
  body_below : (n : ℕ) → IsBody d n → n < length d.commands
  body_below n (s, h, e) = rw e at (keeps.states s (reached_state d keeps some h)).command

  command_tested : (n : ℕ) → (command_stays d n ≡ true) ↔ ((s : ℕ) × (s < length d.states) × (Reached d s × InTree (parts_of d) (state_at d s).command n))
  unfolding command_stays
  command_tested n =
      some_iff (λ s. and_iff (reached_iff d keeps some s) (Iff.trans (among_iff n (numbers_in (parts_of d) (state_at d s).command)) (numbers_iff (parts_of d) (state_at d s).command n)))

  -- the number of what stays is below the count
  pub command_below : (n : ℕ) → command_stays d n ≡ true → n < length d.commands
  command_below n h =
      let (s, l, k) = (command_tested n).0 h in
      let low = (keeps.states s l).command in
      let lower = tree_below (parts_of d) k.1 in
      omega arith

  pub command_iff : (n : ℕ) → CommandStays d n ↔ Held (IsBody d) (parts_of d) n
  command_iff n = (
    λ h. let (s, l, k) = (command_tested n).0 h.1 in record { top = (state_at d s).command; used = (s, k.0, refl); tree = k.1 },
    λ h.
        let (s, k, e) = h.used in
        let stays = (command_tested n).1 (s, reached_state d keeps some k, (k, rw e h.tree)) in
        (command_below n stays, stays),
  )

  value_tested : (e n : ℕ) → Memᴰ e (join_each (numbers_in (operands_of d)) (values_of d n)) ↔ ((v : ℕ) × Memᴰ v (values_of d n) × InTree (operands_of d) v e)
  value_tested e n = (
    λ h. let (v, m, k) = each_cases (numbers_in (operands_of d)) e (values_of d n) h in (v, m, (numbers_iff (operands_of d) v e).0 k),
    λ h. among_each (numbers_in (operands_of d)) h.1 ((numbers_iff (operands_of d) h.0 e).1 h.2),
  )

  expression_tested : (e : ℕ) → (expression_stays d e ≡ true) ↔ ((n : ℕ) × (n < length d.commands) × ((command_stays d n ≡ true) × ((v : ℕ) × Memᴰ v (values_of d n) × InTree (operands_of d) v e)))
  unfolding expression_stays
  expression_tested e =
      some_iff (λ n. and_iff (λ h. h, λ h. h) (Iff.trans (among_iff e (join_each (numbers_in (operands_of d)) (values_of d n))) (value_tested e n)))

  pub expression_below : (e : ℕ) → expression_stays d e ≡ true → e < length d.expressions
  expression_below e h =
      let (n, l, k) = (expression_tested e).0 h in
      let low = value_below d keeps n k.1.0 l k.1.1 in
      let lower = tree_below (operands_of d) k.1.2 in
      omega arith

  pub expression_iff : (e : ℕ) → ExpressionStays d e ↔ Held (IsValue d) (operands_of d) e
  expression_iff e = (
    λ h. let (n, l, k) = (expression_tested e).0 h.1 in record { top = k.1.0; used = (n, (l, k.0), k.1.1); tree = k.1.2 },
    λ h.
        let (n, k, v) = h.used in
        let stays = (expression_tested e).1 (n, k.0, (k.1, (h.top, v, h.tree))) in
        (expression_below e stays, stays),
  )

  -- ---- commands
  pub body_stays : {s : ℕ} → Reached d s → CommandStays d (state_at d s).command
  body_stays {s} h = stays_used (CommandStays d) command_iff (s, h, refl)

  pub part_stays : (n p : ℕ) → CommandStays d n → Memᴰ p (parts_of d n) → CommandStays d p
  part_stays n p h k = stays_part (CommandStays d) command_iff h k (part_below d keeps n p h.0 k)

  pub command_used : (n : ℕ) → CommandStays d n → IsBody d n ⊎ ((m : ℕ) × CommandStays d m × Memᴰ n (parts_of d m))
  command_used n h = stays_cases (CommandStays d) command_iff n h

  -- ---- expressions
  pub value_stays : (n e : ℕ) → CommandStays d n → Memᴰ e (values_of d n) → ExpressionStays d e
  value_stays n e h k = stays_used (ExpressionStays d) expression_iff (n, h, k)

  pub operand_stays : (n p : ℕ) → ExpressionStays d n → Memᴰ p (operands_of d n) → ExpressionStays d p
  operand_stays n p h k = stays_part (ExpressionStays d) expression_iff h k (operand_below d keeps n p h.0 k)

  pub expression_used : (n : ℕ) → ExpressionStays d n → IsValue d n ⊎ ((m : ℕ) × ExpressionStays d m × Memᴰ n (operands_of d m))
  expression_used n h = stays_cases (ExpressionStays d) expression_iff n h

  -- ---- gotos
  -- a goto of a part is one of its owner
  part_goto : {t : ℕ} (m p : ℕ) → m < length d.commands → Memᴰ p (parts_of d m) → HoldsGoto t (cmd_of d p) → HoldsGoto t (cmd_of d m)
  unfolding command_parts
  part_goto {t} m p l h g = go (command_kind (command_at d m).kind) refl (keeps.commands m l) h
    where
      go :
          (kind : CommandKind)
          → command_kind (command_at d m).kind ≡ kind
          → CommandHolds d m kind (command_at d m)
          → Memᴰ p (command_parts kind (command_at d m))
          → HoldsGoto t (cmd_of d m)
      go skips e holds k = absurd (Memᴰ.not-nil k)
      go assigns e holds k = absurd (Memᴰ.not-nil k)
      go sequences e holds k =
          rw
          (cmd_sequence d m e holds.1 holds.2)
          (⊎_elim
          (λ (f : p ≡ (command_at d m).a). HoldsGoto.in_first (rw f at g))
          (λ (f : Memᴰ p ((command_at d m).b ∷ [])). HoldsGoto.in_second (rw (Memᴰ.eq_of_singleton f) at g))
          (Memᴰ.cases_cons k))
      go falls e holds k = absurd (Memᴰ.not-nil k)
      go goes e holds k = absurd (Memᴰ.not-nil k)
      go branches e holds k =
          rw
          (cmd_branch d m e holds.2 holds.3)
          (⊎_elim
          (λ (f : p ≡ (command_at d m).b). HoldsGoto.in_then (rw f at g))
          (λ (f : Memᴰ p ((command_at d m).c ∷ [])). HoldsGoto.in_else (rw (Memᴰ.eq_of_singleton f) at g))
          (Memᴰ.cases_cons k))
      go unknown_command e holds k = absurd holds

  tree_goto : {t top n : ℕ} → top < length d.commands → InTree (parts_of d) top n → HoldsGoto t (cmd_of d n) → HoldsGoto t (cmd_of d top)
  tree_goto l itself g = g
  tree_goto l (part {m} {p} h k b) g = let below = tree_below (parts_of d) h in tree_goto l h (part_goto m p (omega arith) k g)

  pub named_reached : (n : ℕ) → CommandStays d n → command_kind (command_at d n).kind ≡ goes → Reached d (command_at d n).item
  unfolding body_of
  named_reached n h e =
      let held = (command_iff n).0 h in
      let (s, k, same) = held.used in
      let holds : HoldsGoto (command_at d n).item (cmd_of d held.top) = tree_goto (body_below held.top held.used) held.tree (rw (cmd_goto d n e) HoldsGoto.itself) in
      gone k (reached_state d keeps some k) (rw (← same) at holds)
