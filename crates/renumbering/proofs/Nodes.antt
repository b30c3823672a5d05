-- The rules of nodes hold under new numbers: a node has the parts it had, renumbered, each below it and of what stays, and its tree is as deep as it was.
use Prim.Native.Nat.{ℕ}
use mathlib.Core.Path.{◌≡◌, refl, sym, ◌∙◌, ap, ap₂}
use mathlib.Core.Logic.{◌⊎◌, inl, inr}
use mathlib.Core.List.Memᴰ
use mathlib.Core.List.{List, [], ◌∷◌, map, Memᴰ}
use native.Mathlib.Omega.{arith}
use lib.ListN.{length, get_or}
use Rattle.model.specs.Indices.{occurrences}
use Rattle.model.specs.Image.{Design, State, Register, Node, no_register, state_at, command_at, expression_at, register_at}
use Rattle.model.specs.Kinds.{CommandKind, skips, assigns, sequences, falls, goes, branches, unknown_command, ExpressionKind, constants, reads, unknown_expression, operates, command_kind, expression_kind}
use Rattle.model.specs.Trees.{cmd_of, expr_of, cmd_depth, expr_depth}
use Rattle.model.specs.Nodes.{command_parts, expressions_of, expression_parts, parts_of, values_of, operands_of, command_uses, expression_uses}
use Rattle.model.specs.Rules.{RegisterByte, CommandHolds, ExpressionHolds, CommandKeeps, ExpressionKeeps, CommandUsedOnce, ExpressionUsedOnce, CommandDepthKeeps, ExpressionDepthKeeps, NamesNoPort, DesignKeeps}
use Rattle.renumbering.specs.Renumbering.{renumbered_state, renumbered_command, renumbered_expression}
use Rattle.renumbering.specs.Renumbers.{Renumbers}
use Rattle.renumbering.proofs.Trees.{same_command_kind, same_expression_kind, command_of_kind, command_held, expression_held, expr_renumbered, cmd_renumbered}
use Rattle.renumbering.proofs.Unnumbered.{same_expr_depth, same_cmd_depth}
use Rattle.renumbering.proofs.States.{same_count}
use Rattle.renumbering.proofs.Uses.{occurrences_map, used_renumbered}

-- ---- the parts of a record under new numbers
module _ (state command expression : ℕ → ℕ) where
  parts_map : (k : CommandKind) (x : Node) → command_parts k (renumbered_command state command expression k x) ≡ map command (command_parts k x)
  unfolding command_parts renumbered_command
  parts_map skips x = refl
  parts_map assigns x = refl
  parts_map sequences x = refl
  parts_map falls x = refl
  parts_map goes x = refl
  parts_map branches x = refl
  parts_map unknown_command x = refl

  values_map : (k : CommandKind) (x : Node) → expressions_of k (renumbered_command state command expression k x) ≡ map expression (expressions_of k x)
  unfolding expressions_of renumbered_command
  values_map skips x = refl
  values_map assigns x = refl
  values_map sequences x = refl
  values_map falls x = refl
  values_map goes x = refl
  values_map branches x = refl
  values_map unknown_command x = refl

  operands_map : (k : ExpressionKind) (x : Node) → expression_parts k (renumbered_expression state command expression k x) ≡ map expression (expression_parts k x)
  unfolding expression_parts renumbered_expression
  operands_map constants x = refl
  operands_map reads x = refl
  operands_map unknown_expression x = refl
  operands_map (operates o) x = refl

module _ {d d' : Design} {state command expression : ℕ → ℕ} {S C E : ℕ → Type 0} (keeps : DesignKeeps d) (new : Renumbers d d' state command expression S C E) where
  parts_renumbered : (n : ℕ) → C n → parts_of d' (command n) ≡ map command (parts_of d n)
  parts_renumbered n c = ap₂ command_parts (same_command_kind keeps new n c) (new.command_is n c) ∙ parts_map state command expression (command_kind (command_at d n).kind) (command_at d n)

  values_renumbered : (n : ℕ) → C n → values_of d' (command n) ≡ map expression (values_of d n)
  values_renumbered n c = ap₂ expressions_of (same_command_kind keeps new n c) (new.command_is n c) ∙ values_map state command expression (command_kind (command_at d n).kind) (command_at d n)

  operands_renumbered : (n : ℕ) → E n → operands_of d' (expression n) ≡ map expression (operands_of d n)
  operands_renumbered n e =
      ap₂ expression_parts (same_expression_kind keeps new n e) (new.expression_is n e) ∙ operands_map state command expression (expression_kind (expression_at d n).kind) (expression_at d n)

  -- ---- used once
  pub command_once : (n : ℕ) → C n → CommandUsedOnce d' (command n)
  unfolding command_uses renumbered_state
  command_once n c =
      used_renumbered
      (record {
        old = new.states_old;
        new = new.states_new;
        all = new.states_all;
        same = λ s stays.
            ap (λ (x : State). occurrences (command n) (x.command ∷ [])) (new.state_is s stays)
            ∙ occurrences_map command n ((state_at d s).command ∷ []) (λ m h. new.commands_apart m n (rw (Memᴰ.eq_of_singleton h) (new.body_stays s stays)) c);
      })
      (record {
        old = new.commands_old;
        new = new.commands_new;
        all = new.commands_all;
        same = λ m stays. ap (occurrences (command n)) (parts_renumbered m stays) ∙ occurrences_map command n (parts_of d m) (λ p h. new.commands_apart p n (new.parts_stay m p stays h) c);
      })
      (user (new.command_used n c))
      (keeps.structure.commands_used n (new.commands_old n c))
    where
      user :
          ((s : ℕ) × S s × ((state_at d s).command ≡ n)) ⊎ ((m : ℕ) × C m × Memᴰ n (parts_of d m))
          → ((s : ℕ) × S s × Memᴰ n ((state_at d s).command ∷ [])) ⊎ ((m : ℕ) × C m × Memᴰ n (parts_of d m))
      user (inl (s, stays, is)) = inl (s, stays, Memᴰ.head (sym is))
      user (inr found) = inr found

  pub expression_once : (n : ℕ) → E n → ExpressionUsedOnce d' (expression n)
  unfolding expression_uses
  expression_once n e =
      used_renumbered
      (record {
        old = new.commands_old;
        new = new.commands_new;
        all = new.commands_all;
        same = λ m stays.
            ap (occurrences (expression n)) (values_renumbered m stays) ∙ occurrences_map expression n (values_of d m) (λ p h. new.expressions_apart p n (new.values_stay m p stays h) e);
      })
      (record {
        old = new.expressions_old;
        new = new.expressions_new;
        all = new.expressions_all;
        same = λ m stays.
            ap (occurrences (expression n)) (operands_renumbered m stays) ∙ occurrences_map expression n (operands_of d m) (λ p h. new.expressions_apart p n (new.operands_stay m p stays h) e);
      })
      (new.expression_used n e)
      (keeps.structure.expressions_used n (new.expressions_old n e))

  -- ---- depths
  pub command_depth : (n : ℕ) → C n → CommandDepthKeeps d' (command n)
  command_depth n c =
      let same = ap cmd_depth (cmd_renumbered keeps new n c) ∙ same_cmd_depth state command expression (cmd_of d n) in
      let old = keeps.structure.commands_depth n (new.commands_old n c) in
      omega arith

  pub expression_depth : (n : ℕ) → E n → ExpressionDepthKeeps d' (expression n)
  expression_depth n e =
      let same = ap expr_depth (expr_renumbered keeps new n e) ∙ same_expr_depth state command expression (expr_of d n) in
      let old = keeps.structure.expressions_depth n (new.expressions_old n e) in
      omega arith

  -- ---- what a node holds
  register_byte : (r : ℕ) → RegisterByte d r → RegisterByte d' r
  register_byte r (inl l) = let same : length d'.registers ≡ length d.registers = ap length new.registers in inl (omega arith)
  register_byte r (inr byte) = inr byte

  command_holds_lem : (n : ℕ) → C n → (k : CommandKind) → command_kind (command_at d n).kind ≡ k → CommandHolds d' (command n) k (renumbered_command state command expression k (command_at d n))
  unfolding renumbered_command command_parts expressions_of
  command_holds_lem n c skips is = command_held keeps new n c skips is
  command_holds_lem n c assigns is =
      let held = command_held keeps new n c assigns is in
      let value = new.values_stay n (command_at d n).a c (rw is (Memᴰ.head refl)) in
      (register_byte (command_at d n).item held.0, new.expressions_new (command_at d n).a value, held.2, held.3)
  command_holds_lem n c sequences is =
      let held = command_held keeps new n c sequences is in (
        held.0,
        new.parts_below n (command_at d n).a c (rw is (Memᴰ.head refl)),
        new.parts_below n (command_at d n).b c (rw is (Memᴰ.tail (Memᴰ.head refl))),
        held.3,
      )
  command_holds_lem n c falls is = command_held keeps new n c falls is
  command_holds_lem n c goes is = let held = command_held keeps new n c goes is in (new.states_new (command_at d n).item (new.named_stays n c is), held.1)
  command_holds_lem n c branches is =
      let held = command_held keeps new n c branches is in
      let value = new.values_stay n (command_at d n).a c (rw is (Memᴰ.head refl)) in (
        held.0,
        new.expressions_new (command_at d n).a value,
        new.parts_below n (command_at d n).b c (rw is (Memᴰ.head refl)),
        new.parts_below n (command_at d n).c c (rw is (Memᴰ.tail (Memᴰ.head refl))),
      )
  command_holds_lem n c unknown_command is = command_held keeps new n c unknown_command is

  pub command_keeps : (n : ℕ) → C n → CommandKeeps d' (command n)
  command_keeps n c = rw (same_command_kind keeps new n c, new.command_is n c) (command_holds_lem n c (command_kind (command_at d n).kind) refl)

  expression_holds_lem :
      (n : ℕ) → E n → (k : ExpressionKind) → expression_kind (expression_at d n).kind ≡ k → ExpressionHolds d' (expression n) k (renumbered_expression state command expression k (expression_at d n))
  unfolding renumbered_expression expression_parts
  expression_holds_lem n e constants is = expression_held keeps new n e constants is
  expression_holds_lem n e reads is = let held = expression_held keeps new n e reads is in (register_byte (expression_at d n).item held.0, held.1, held.2, held.3)
  expression_holds_lem n e (operates o) is =
      let held = expression_held keeps new n e (operates o) is in (
        held.0,
        new.operands_below n (expression_at d n).a e (rw is (Memᴰ.head refl)),
        new.operands_below n (expression_at d n).b e (rw is (Memᴰ.tail (Memᴰ.head refl))),
        held.3,
      )
  expression_holds_lem n e unknown_expression is = expression_held keeps new n e unknown_expression is

  pub expression_keeps : (n : ℕ) → E n → ExpressionKeeps d' (expression n)
  expression_keeps n e = rw (same_expression_kind keeps new n e, new.expression_is n e) (expression_holds_lem n e (expression_kind (expression_at d n).kind) refl)

  -- ---- ports
  same_port : (r : ℕ) → (register_at d' r).kind ≡ (register_at d r).kind
  same_port r = ap (λ (rs : List Register). (get_or rs r no_register).kind) new.registers

  pub names_no_port_lem : (n : ℕ) → C n → NamesNoPort d' (command n)
  unfolding renumbered_command
  names_no_port_lem n c =
      let old = keeps.structure.ports n (new.commands_old n c) in
      let same = same_command_kind keeps new n c in
      record {
        assigned = λ is port.
            let was = sym same ∙ is in
            let item : (command_at d' (command n)).item ≡ (command_at d n).item = ap (λ (x : Node). x.item) (command_of_kind keeps new n c assigns was) in
            old.assigned was (sym (same_port (command_at d n).item) ∙ rw item at port);
        first_argument = λ is used port.
            let was = sym same ∙ is in
            let node = command_of_kind keeps new n c goes was in
            let count = ap (λ (x : Node). (state_at d' x.item).parameters) node ∙ same_count keeps new (command_at d n).item (new.named_stays n c was) in
            let a : (command_at d' (command n)).a ≡ (command_at d n).a = ap (λ (x : Node). x.a) node in
            old.first_argument was (omega arith) (sym (same_port (command_at d n).a) ∙ rw a at port);
        second_argument = λ is used port.
            let was = sym same ∙ is in
            let node = command_of_kind keeps new n c goes was in
            let count = ap (λ (x : Node). (state_at d' x.item).parameters) node ∙ same_count keeps new (command_at d n).item (new.named_stays n c was) in
            let b : (command_at d' (command n)).b ≡ (command_at d n).b = ap (λ (x : Node). x.b) node in
            old.second_argument was (omega arith) (sym (same_port (command_at d n).b) ∙ rw b at port);
      }
