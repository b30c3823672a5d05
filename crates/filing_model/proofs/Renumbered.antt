-- Two accepted images differ at most in node numbers exactly when some renumbering of nodes takes one to the other. Trees under new numbers are the same apart from numbers. And two
-- images that differ in no more have one form, so a node of the first goes to the one of the second that stands at the same place of the form.
use Prim.Native.Nat.{ℕ, ◌<◌}
use mathlib.Core.Path.{◌≡◌, refl, sym, ◌∙◌, ap}
use mathlib.Core.Logic.{⊎_elim, ◌↔◌}
use mathlib.Core.List.Memᴰ
use mathlib.Core.List.{List, [], ◌∷◌, Memᴰ}
use native.Mathlib.Omega.{arith}
use lib.ListN.{length}
use Rattle.model.specs.Answers.{Accepted}
use Rattle.model.specs.Image.{AreBytes, Design, Node, state_at, command_at, expression_at, design_of}
use Rattle.model.specs.Kinds.{CommandKind, skips, assigns, sequences, falls, goes, branches, unknown_command, ExpressionKind, constants, reads, unknown_expression, operates, command_kind, expression_kind}
use Rattle.model.specs.Nodes.{command_parts, expression_parts, parts_of, operands_of}
use Rattle.model.specs.Rules.{StructureKeeps}
use Rattle.model.specs.Verdict.{verdict}
use Rattle.model.proofs.Exact.{verdict_exact}
use Rattle.model.proofs.Independence.Theorem.{rooted}
use Rattle.encoding.proofs.RoundTrip.{design_encodable}
use Rattle.renumbering.specs.Renumbering.{renumbered_state, renumbered_command, renumbered_expression}
use Rattle.renumbering.proofs.Parts.{part_below, operand_below}
use Rattle.renumbering.proofs.Trees.{command_kind_kept, expression_kind_kept}
use Rattle.filing_model.specs.Filed.{command_order, expression_order, new_command, new_expression, filed}
use Rattle.filing_model.specs.Same.{DifferAtMostInNumbers, NodesRenumbered}
use Rattle.filing_model.proofs.Counts.{Enumerates}
use Rattle.filing_model.proofs.Orders.{commands_enumerated, expressions_enumerated}
use Rattle.filing_model.proofs.Renumbers.{filed_renumbers, states_as_many, commands_as_many, expressions_as_many}
use Rattle.filing_model.proofs.Bodies.{renumbered_same}
use Rattle.filing_model.proofs.Determined.{filed_determined}
use Rattle.filing_model.proofs.Matched.{matched, matched_below, matched_place, matched_apart, matched_all, state_matched, command_matched, expression_matched}

-- ---- the parts of a record under new numbers are its parts under these
pair_under : (f : ℕ → ℕ) {p a b : ℕ} → Memᴰ p (a ∷ b ∷ []) → Memᴰ (f p) (f a ∷ f b ∷ [])
pair_under f {p} {a} {b} h =
    ⊎_elim
    (λ (e : p ≡ a). Memᴰ.head (ap f e))
    (λ (t : Memᴰ p (b ∷ [])). Memᴰ.tail (Memᴰ.head (ap f (Memᴰ.eq_of_singleton t))))
    (Memᴰ.cases_cons h)

module _ (command expression : ℕ → ℕ) where
  part_under : (k : CommandKind) (x : Node) (p : ℕ) → Memᴰ p (command_parts k x) → Memᴰ (command p) (command_parts k (renumbered_command (λ s. s) command expression k x))
  unfolding command_parts renumbered_command
  part_under skips x p h = absurd (Memᴰ.not-nil h)
  part_under assigns x p h = absurd (Memᴰ.not-nil h)
  part_under sequences x p h = pair_under command h
  part_under falls x p h = absurd (Memᴰ.not-nil h)
  part_under goes x p h = absurd (Memᴰ.not-nil h)
  part_under branches x p h = pair_under command h
  part_under unknown_command x p h = absurd (Memᴰ.not-nil h)

  operand_under :
      (k : ExpressionKind) (x : Node) (p : ℕ) → Memᴰ p (expression_parts k x) → Memᴰ (expression p) (expression_parts k (renumbered_expression (λ s. s) command expression k x))
  unfolding expression_parts renumbered_expression
  operand_under constants x p h = absurd (Memᴰ.not-nil h)
  operand_under reads x p h = absurd (Memᴰ.not-nil h)
  operand_under (operates o) x p h = pair_under expression h
  operand_under unknown_expression x p h = absurd (Memᴰ.not-nil h)

-- ---- two designs with one form
module _ (d d' : Design) (keeps : StructureKeeps d) (keeps' : StructureKeeps d') (some : 0 < length d.states) (some' : 0 < length d'.states) (same : filed d ≡ filed d') where
  abbrev command : ℕ → ℕ
  command = matched (command_order d) (command_order d')

  abbrev expression : ℕ → ℕ
  expression = matched (expression_order d) (expression_order d')

  -- as many records
  same_states : length d'.states ≡ length d.states
  same_states = sym (states_as_many d' keeps' some') ∙ ap (λ (x : Design). length x.states) (sym same) ∙ states_as_many d keeps some

  same_commands : length d'.commands ≡ length d.commands
  same_commands = sym (commands_as_many d' keeps' some') ∙ ap (λ (x : Design). length x.commands) (sym same) ∙ commands_as_many d keeps some

  same_expressions : length d'.expressions ≡ length d.expressions
  same_expressions = sym (expressions_as_many d' keeps' some') ∙ ap (λ (x : Design). length x.expressions) (sym same) ∙ expressions_as_many d keeps some

  commands_here : Enumerates (command_order d) (length d.commands)
  commands_here = commands_enumerated d keeps

  commands_there : Enumerates (command_order d') (length d'.commands)
  commands_there = commands_enumerated d' keeps'

  commands_counted : Enumerates (command_order d') (length d.commands)
  commands_counted = rw (← same_commands) commands_there

  expressions_here : Enumerates (expression_order d) (length d.expressions)
  expressions_here = expressions_enumerated d keeps

  expressions_there : Enumerates (expression_order d') (length d'.expressions)
  expressions_there = expressions_enumerated d' keeps'

  expressions_counted : Enumerates (expression_order d') (length d.expressions)
  expressions_counted = rw (← same_expressions) expressions_there

  command_new : (n : ℕ) → n < length d.commands → command n < length d'.commands
  command_new n l = rw same_commands (matched_below commands_here commands_counted n l)

  expression_new : (n : ℕ) → n < length d.expressions → expression n < length d'.expressions
  expression_new n l = rw same_expressions (matched_below expressions_here expressions_counted n l)

  -- ---- records
  -- the form has them at the same places
  state_filed_lem : (s : ℕ) → s < length d.states
      → renumbered_state (λ s. s) (new_command d) (new_expression d) (state_at d s) ≡ renumbered_state (λ s. s) (new_command d') (new_expression d') (state_at d' s)
  state_filed_lem s l =
      sym ((filed_renumbers d keeps some).state_is s l) ∙ ap (λ (x : Design). state_at x s) same ∙ (filed_renumbers d' keeps' some').state_is s (rw same_states l)

  state_is : (s : ℕ) → s < length d.states → state_at d' s ≡ renumbered_state (λ s. s) command expression (state_at d s)
  state_is s l =
      state_matched (command_order d) (expression_order d) d' commands_there expressions_there (state_at d s) (state_at d' s) (keeps'.states s (rw same_states l)).command (state_filed_lem s l)

  command_filed_lem : (n : ℕ) → n < length d.commands
      → renumbered_command (λ s. s) (new_command d) (new_expression d) (command_kind (command_at d n).kind) (command_at d n)
      ≡ renumbered_command (λ s. s) (new_command d') (new_expression d') (command_kind (command_at d' (command n)).kind) (command_at d' (command n))
  command_filed_lem n l =
      sym ((filed_renumbers d keeps some).command_is n l)
      ∙ ap (λ (x : Design). command_at x (new_command d n)) same
      ∙ ap (command_at (filed d')) (sym (matched_place commands_here commands_counted n l))
      ∙ (filed_renumbers d' keeps' some').command_is (command n) (command_new n l)

  command_kind_is : (n : ℕ) → n < length d.commands → (command_at d' (command n)).kind ≡ (command_at d n).kind
  command_kind_is n l =
      sym (command_kind_kept (λ s. s) (new_command d') (new_expression d') (command_kind (command_at d' (command n)).kind) (command_at d' (command n)))
      ∙ ap (λ (x : Node). x.kind) (sym (command_filed_lem n l))
      ∙ command_kind_kept (λ s. s) (new_command d) (new_expression d) (command_kind (command_at d n).kind) (command_at d n)

  command_is : (n : ℕ) → n < length d.commands → command_at d' (command n) ≡ renumbered_command (λ s. s) command expression (command_kind (command_at d n).kind) (command_at d n)
  command_is n l =
      let kind = ap command_kind (command_kind_is n l) in
      command_matched
      (command_order d)
      (expression_order d)
      d'
      commands_there
      expressions_there
      (command n)
      (command_new n l)
      (command_kind (command_at d n).kind)
      (command_at d n)
      (command_at d' (command n))
      (rw kind at (keeps'.commands (command n) (command_new n l)))
      (rw kind at (command_filed_lem n l))

  expression_filed_lem : (n : ℕ) → n < length d.expressions
      → renumbered_expression (λ s. s) (new_command d) (new_expression d) (expression_kind (expression_at d n).kind) (expression_at d n)
      ≡ renumbered_expression (λ s. s) (new_command d') (new_expression d') (expression_kind (expression_at d' (expression n)).kind) (expression_at d' (expression n))
  expression_filed_lem n l =
      sym ((filed_renumbers d keeps some).expression_is n l)
      ∙ ap (λ (x : Design). expression_at x (new_expression d n)) same
      ∙ ap (expression_at (filed d')) (sym (matched_place expressions_here expressions_counted n l))
      ∙ (filed_renumbers d' keeps' some').expression_is (expression n) (expression_new n l)

  expression_kind_is : (n : ℕ) → n < length d.expressions → (expression_at d' (expression n)).kind ≡ (expression_at d n).kind
  expression_kind_is n l =
      sym (expression_kind_kept (λ s. s) (new_command d') (new_expression d') (expression_kind (expression_at d' (expression n)).kind) (expression_at d' (expression n)))
      ∙ ap (λ (x : Node). x.kind) (sym (expression_filed_lem n l))
      ∙ expression_kind_kept (λ s. s) (new_command d) (new_expression d) (expression_kind (expression_at d n).kind) (expression_at d n)

  expression_is : (n : ℕ) → n < length d.expressions
      → expression_at d' (expression n) ≡ renumbered_expression (λ s. s) command expression (expression_kind (expression_at d n).kind) (expression_at d n)
  expression_is n l =
      let kind = ap expression_kind (expression_kind_is n l) in
      expression_matched
      (command_order d)
      (expression_order d)
      d'
      commands_there
      expressions_there
      (expression n)
      (expression_new n l)
      (expression_kind (expression_at d n).kind)
      (expression_at d n)
      (expression_at d' (expression n))
      (rw kind at (keeps'.expressions (expression n) (expression_new n l)))
      (rw kind at (expression_filed_lem n l))

  -- ---- parts: they have lower numbers in the second design too
  part_there : (n p : ℕ) → n < length d.commands → Memᴰ p (parts_of d n) → Memᴰ (command p) (parts_of d' (command n))
  part_there n p l h = rw (command_kind_is n l, command_is n l) (part_under command expression (command_kind (command_at d n).kind) (command_at d n) p h)

  operand_there : (n p : ℕ) → n < length d.expressions → Memᴰ p (operands_of d n) → Memᴰ (expression p) (operands_of d' (expression n))
  operand_there n p l h = rw (expression_kind_is n l, expression_is n l) (operand_under command expression (expression_kind (expression_at d n).kind) (expression_at d n) p h)

  -- what stays, and by what it is used, is as in the renumbering that files the first design
  pub one_form : NodesRenumbered d d'
  one_form =
      let old = filed_renumbers d keeps some in
      let new = filed_renumbers d' keeps' some' in
      record {
        command = command;
        expression = expression;
        renumbers = record {
          rows = sym new.rows ∙ ap (λ (x : Design). x.rows) (sym same) ∙ old.rows;
          registers = sym new.registers ∙ ap (λ (x : Design). x.registers) (sym same) ∙ old.registers;
          states_old = λ s l. l;
          states_new = λ s l. rw same_states l;
          states_all = λ t l. (t, rw same_states at l, refl);
          states_order = λ s t l k below. below;
          states_fewer = omega (arith, same_states);
          state_is = state_is;
          root_stays = some;
          root_first = refl;
          parent_stays = old.parent_stays;
          default_beside = old.default_beside;
          default_stays = old.default_stays;
          body_stays = old.body_stays;
          commands_old = λ n l. l;
          commands_new = command_new;
          commands_all = λ m l. matched_all commands_here commands_counted m (rw same_commands at l);
          commands_apart = matched_apart commands_here commands_counted;
          commands_fewer = omega (arith, same_commands);
          command_is = command_is;
          parts_stay = old.parts_stay;
          parts_below = λ n p l h. part_below d' keeps' (command n) (command p) (command_new n l) (part_there n p l h);
          values_stay = old.values_stay;
          named_stays = old.named_stays;
          command_used = old.command_used;
          expressions_old = λ n l. l;
          expressions_new = expression_new;
          expressions_all = λ m l. matched_all expressions_here expressions_counted m (rw same_expressions at l);
          expressions_apart = matched_apart expressions_here expressions_counted;
          expressions_fewer = omega (arith, same_expressions);
          expression_is = expression_is;
          operands_stay = old.operands_stay;
          operands_below = λ n p l h. operand_below d' keeps' (expression n) (expression p) (expression_new n l) (operand_there n p l h);
          expression_used = old.expression_used;
        };
      }

-- ---- images
pub differ_exactly : (image other : List ℕ) → AreBytes image → AreBytes other → verdict image ≡ Accepted 0 → verdict other ≡ Accepted 0
    → DifferAtMostInNumbers image other ↔ NodesRenumbered (design_of image) (design_of other)
differ_exactly image other bytes bytes' accepted accepted' =
    let keeps = (verdict_exact image).0 accepted in
    let keeps' = (verdict_exact other).0 accepted' in
    let structure = keeps.design.structure in
    let structure' = keeps'.design.structure in (
      λ differ. one_form
          (design_of image)
          (design_of other)
          structure
          structure'
          (rooted image keeps.directory)
          (rooted other keeps'.directory)
          (filed_determined (design_of image) (design_of other) structure structure' (design_encodable image bytes) (design_encodable other bytes') differ),
      λ renumbered. sym (renumbered_same keeps.design renumbered.renumbers (λ s l. l)),
    )
