-- The verdict from a pass on: what the pass found, before what follows; and what is known once a pass has found nothing.
use Rattle.std.specs.Prelude.{Option, Some, None, Err}
use Prim.Native.Nat.{ℕ, ◌*◌, ◌≤◌, ◌<◌}
use mathlib.Core.Path.{◌≡◌, refl, sym, ◌∙◌, ap}
use mathlib.Core.Bool.{Bool, true, false, not, ◌&&◌}
use mathlib.Core.List.{List}
use native.Mathlib.Omega.{arith}
use lib.Dec.{leb}
use lib.ListN.{length}
use borrow.Author.Tests.{leb-true}
use Rattle.model.specs.declared.Refusal.{Refusal}
use Rattle.model.specs.declared.RefusedAt.{RefusedAt}
use Rattle.model.specs.declared.Refusal.TheVariants.{Directory}
use Rattle.model.specs.Answers.{Answer, Accepted, Refused}
use Rattle.model.specs.Indices.{lowest_failing, passed, join_below}
use Rattle.model.specs.Limits.{expressions_max}
use Rattle.model.specs.Image.{Design as Table, directory_kept, design_of}
use Rattle.model.specs.Lattice.{label_kept}
use Rattle.model.specs.States.{register_kept, state_kept}
use Rattle.model.specs.Kinds.{command_kept, expression_kept}
use Rattle.model.specs.Nodes.{command_of, values_of}
use Rattle.model.specs.Flow.{flow_answer}
use Rattle.model.specs.Rules.{DirectoryKeeps}
use Rattle.model.specs.Verdict.{◌before◌, refused_at, commands_first, lowest_node, design_structure, structure, verdict}
use Rattle.model.proofs.Laws.Booleans.{and_first, and_second, not_true, not_false}
use Rattle.model.proofs.Laws.Indices.{failing_none, lowest_failing_below}
use Rattle.model.proofs.Laws.Verdict.{found_nothing}
use Rattle.model.specs.Parameters.{parameters_kept}
use Rattle.model.proofs.Exact.Directories.{directory_iff}
use Rattle.model.proofs.Exact.Labels.{lattice_iff}
use Rattle.design.specs.declared.Design.{Design}
use Rattle.design.specs.Describes.{Describes}
use Rattle.design.proofs.Laws.{expressions_count, expressions_most}
use Rattle.design.specs.Kept.{LatticeKept, RegistersKept, StatesKept, ParametersKept, RecordsKept}
use Rattle.design.specs.Scopes.{Scopes}
use Rattle.checker_nodes.specs.Tables.{count_uses, CommandsPassed, ExpressionsPassed, NodesPassed, NodesFresh, NodesTold}
use Rattle.checker_nodes.proofs.CountRules.{count_append}
use Rattle.checker_nodes.proofs.UseRules.{command_uses_told, expression_uses_told}
use Rattle.checker_nodes.proofs.DepthRules.{command_depths_told, expression_depths_told}
use Rattle.design.specs.Falls.{FallsTold}
use Rattle.design.proofs.ResetRules.{states_few, filled_whole}
use Rattle.checker_records.specs.ParameterTests.{ParametersPassed}
use Rattle.checker_bodies.specs.Shapes.{ShapeKnown, ShapesPassed}
use Rattle.checker_scopes.specs.Plain.{plain_design}
use Rattle.checker_scopes.proofs.PlainRules.{plain_ports, plain_parameters, plain_scopes}
use Rattle.checker.specs.Nodes.{node_tables, nodes_left}
use Rattle.checker.specs.Stages.{few_nodes, from_children, from_scopes, from_parameters, from_ports, from_shape, from_depths, from_uses, from_nodes, from_states, from_registers, from_labels}

-- ---- a pass, and all that follow
module _ (r : Refusal) (g : Option ℕ) (rest : Answer) {f : Option ℕ} {pass : Answer} (found : f ≡ g) (is : pass ≡ refused_at r f) where
  pub stage_refuses : {why : RefusedAt} → pass ≡ Err why → Err why ≡ (refused_at r g before rest)
  unfolding ◌before◌
  stage_refuses h = rw (← found, ← is, h)

  pub stage_passes : {a : Answer} {n : ℕ} → pass ≡ Accepted n → a ≡ rest → a ≡ (refused_at r g before rest)
  unfolding ◌before◌
  stage_passes h k = k ∙ rw (← found, ← is, h)

-- the last one
pub last_stage : (r : Refusal) (g : Option ℕ) {f : Option ℕ} {pass : Answer} → f ≡ g → pass ≡ refused_at r f → pass ≡ refused_at r g
last_stage r g found is = is ∙ ap (refused_at r) found

-- a pass that refuses nothing has found nothing
pub none_found : (r : Refusal) (f : Option ℕ) {pass : Answer} {n : ℕ} → pass ≡ refused_at r f → pass ≡ Accepted n → f ≡ None
none_found r f is h = found_nothing r f (sym is ∙ h)

-- ---- both families of nodes
pub both_families : (d : Table) (c e : ℕ → Bool) {f g r : Option ℕ} → f ≡ lowest_failing c (length d.commands) → g ≡ lowest_failing e (length d.expressions) → r ≡ commands_first f g → r ≡ lowest_node d c e
unfolding lowest_node
both_families d c e p q k = k ∙ rw (p, q)

-- an expression's number is small enough for its place
module _ {image : List ℕ} {x : Design} (rule : ℕ → Bool) {f : Option ℕ} {n : ℕ} (d : Describes image x) where
  pub expression_few : f ≡ lowest_failing rule x.expressions → f ≡ Some n → n < expressions_max
  expression_few p h =
      let below = lowest_failing_below rule x.expressions n (sym p ∙ h) in
      let most = expressions_most d in
      omega arith

  pub expression_small : f ≡ lowest_failing rule (length (design_of image).expressions) → f ≡ Some n → n < expressions_max
  expression_small p h = expression_few (p ∙ ap (lowest_failing rule) (sym (expressions_count d))) h

-- ---- what is known once a pass has found nothing
pub known_lattice : {d : Table} {f : Option ℕ} → f ≡ None → f ≡ lowest_failing (label_kept d.rows) (length d.rows) → LatticeKept d
known_lattice {d} h p = record { lattice = (lattice_iff d.rows).0 (sym p ∙ h) }

pub known_registers : {d : Table} {f : Option ℕ} → f ≡ lowest_failing (register_kept d) (length d.registers) → f ≡ None → RegistersKept d
known_registers {d} p h = record { kept = failing_none (register_kept d) (length d.registers) (sym p ∙ h) }

pub known_states : {d : Table} {f : Option ℕ} → f ≡ lowest_failing (state_kept d) (length d.states) → f ≡ None → StatesKept d
known_states {d} p h = record { kept = failing_none (state_kept d) (length d.states) (sym p ∙ h) }

node_none : (f g : Option ℕ) → commands_first f g ≡ None → (f ≡ None) × (g ≡ None)
node_none (Some n) g e = absurd (let z : ◌≡◌ {A = ℕ} 0 1 = cc in omega arith)
node_none None (Some n) e = absurd (let z : ◌≡◌ {A = ℕ} 0 1 = cc in omega arith)
node_none None None e = (refl, refl)

-- ---- both loops over the nodes, and what is known and told where they found nothing
nodes_told :
    {image c t u s v w p a q b : List ℕ} {x : Design}
    → CommandsPassed (design_of image) None t u s v p a
    → ExpressionsPassed (design_of image) None v w q b
    → t ≡ count_uses c (join_below (command_of (design_of image)) (length (design_of image).states))
    → NodesFresh x c s p q
    → Describes image x
    → NodesTold image x u w a b
nodes_told {image} {c} {s = s} commands expressions bodies fresh describes =
    let d = design_of image in
    record {
      command_uses = command_uses_told d fresh.command_uses (rw (count_append c, ← bodies) commands.counted);
      expression_uses = expression_uses_told d fresh.expression_uses (rw (count_append s, ← commands.expressions_counted) expressions.counted);
      command_depths = command_depths_told describes fresh.command_depths commands.filled;
      expression_depths = expression_depths_told describes fresh.expression_depths expressions.filled;
    }

pub nodes_passed :
    {image c t u s v w p a q b : List ℕ} {x : Design} {f g r : Option ℕ}
    → r ≡ commands_first f g
    → ExpressionsPassed (design_of image) g v w q b
    → CommandsPassed (design_of image) f t u s v p a
    → NodesFresh x c s p q
    → t ≡ count_uses c (join_below (command_of (design_of image)) (length (design_of image).states))
    → Describes image x
    → NodesPassed image x r u w a b
nodes_passed {image} {f = f} {g = g} first expressions commands fresh bodies describes =
    let d = design_of image in
    record {
      found = both_families d (command_kept d) (expression_kept d) commands.found expressions.found first;
      told = λ h. let none = node_none f g (sym first ∙ h) in nodes_told (rw none.0 at commands) (rw none.1 at expressions) bodies fresh describes;
    }

-- what they leave in their tables
pub nodes_left_lem :
    {d : Table} {t u s v w p a q b : List ℕ} {f g : Option ℕ} (c : List ℕ)
    → ExpressionsPassed d g v w q b
    → CommandsPassed d f t u s v p a
    → t ≡ count_uses c (join_below (command_of d) (length d.states))
    → node_tables u w a b ≡ nodes_left d (node_tables c s p q)
unfolding nodes_left
nodes_left_lem {d} {s = s} c expressions commands bodies =
    rw (
      count_append c (join_below (command_of d) (length d.states)),
      ← bodies,
      count_append s (join_below (values_of d) (passed (lowest_failing (command_kept d) (length d.commands)) (length d.commands))),
      ← commands.found,
      ← expressions.found,
      ← commands.expressions_counted,
      ← commands.counted,
      ← expressions.counted,
      ← filled_whole commands.filled,
      ← filled_whole expressions.filled,
    )
    refl

both_none : (d : Table) {f : Option ℕ} → f ≡ None → f ≡ lowest_node d (command_kept d) (expression_kept d) → (lowest_failing (command_kept d) (length d.commands) ≡ None) × (lowest_failing (expression_kept d) (length d.expressions) ≡ None)
unfolding lowest_node
both_none d h p = node_none (lowest_failing (command_kept d) (length d.commands)) (lowest_failing (expression_kept d) (length d.expressions)) (sym p ∙ h)

pub known_nodes : {image : List ℕ} {x : Design} {f : Option ℕ} → f ≡ None → f ≡ lowest_node (design_of image) (command_kept (design_of image)) (expression_kept (design_of image)) → Describes image x → LatticeKept (design_of image) → RegistersKept (design_of image) → StatesKept (design_of image) → RecordsKept image x
known_nodes {image} h p describes lattice registers states =
    let d = design_of image in
    let none = both_none d h p in
    record {
      describes = describes;
      lattice = lattice;
      registers = registers;
      states = states;
      commands = record { kept = failing_none (command_kept d) (length d.commands) none.0 };
      expressions = record { kept = failing_none (expression_kept d) (length d.expressions) none.1 };
    }

pub known_told : {image u w a b : List ℕ} {x : Design} {f : Option ℕ} → f ≡ None → NodesPassed image x f u w a b → NodesTold image x u w a b
known_told h passed = passed.told h

-- a design whose nodes are few
module _ (a b : ℕ) (h : (leb a few_nodes && leb b few_nodes) ≡ true) where
  pub few_commands : a ≤ few_nodes
  few_commands = leb-true a few_nodes (and_first (leb a few_nodes) (leb b few_nodes) h)

  pub few_expressions : b ≤ few_nodes
  few_expressions = leb-true b few_nodes (and_second (leb a few_nodes) (leb b few_nodes) h)

-- what the pass of refusal 8 asks, of what is known
pub shape_known : {image : List ℕ} {x : Design} → RecordsKept image x → ShapeKnown image x
shape_known known = record { describes = known.describes; states = known.states; commands = known.commands }

-- what is told for refusal 9
pub falls_told : {d : Table} {f : Option ℕ} {old falls : List ℕ} → f ≡ None → ShapesPassed d f old falls → FallsTold d falls
falls_told h passed = passed.falls

-- what is known and told once refusal 19 has found no state
pub known_parameters : {d : Table} {f : Option ℕ} {old table : List ℕ} → f ≡ None → ParametersPassed d f old table → ParametersKept d
known_parameters {d} h passed = record { kept = failing_none (parameters_kept d) (length d.states) (sym passed.is ∙ h) }

pub scopes_told : {d : Table} {f : Option ℕ} {old table : List ℕ} → f ≡ None → ParametersPassed d f old table → Scopes d table
scopes_told h passed = passed.scopes h

-- a plain design goes on to refusal 9
pub plain_passes : {image : List ℕ} {x : Design} {b : Bool} {a : Answer} → RecordsKept image x → b ≡ plain_design (design_of image) → b ≡ true → a ≡ from_children (design_of image) → a ≡ from_ports (design_of image)
unfolding from_ports from_parameters from_scopes refused_at ◌before◌
plain_passes known e h k = k ∙ rw (plain_ports known e h, plain_parameters known e h, plain_scopes known e h)

-- a fresh table of scopes has an entry for each state
pub scopes_fit : {image : List ℕ} {x : Design} → Describes image x → 3 * x.states ≤ 192
scopes_fit d = let few = states_few d in omega arith

-- ---- the whole
pub directory_refuses : (image : List ℕ) {b : Bool} → b ≡ directory_kept image → not b ≡ true → Refused Directory 0 ≡ structure image
unfolding structure refused_at ◌before◌
directory_refuses image {b} e h = rw (← e, not_true b h)

pub directory_passes : (image : List ℕ) {b : Bool} {a : Answer} → b ≡ directory_kept image → not b ≡ false → a ≡ from_labels (design_of image) → a ≡ structure image
unfolding structure design_structure refused_at ◌before◌ from_labels from_registers from_states from_nodes from_uses from_depths from_shape from_ports from_parameters from_scopes from_children
directory_passes image {b} e h k = k ∙ rw (← e, not_false b h)

pub directory_keeps : (image : List ℕ) {b : Bool} → b ≡ directory_kept image → not b ≡ false → DirectoryKeeps image
directory_keeps image {b} e h = (directory_iff image).0 (sym e ∙ not_false b h)

-- the structure, and then the flow
pub structure_refuses : (image : List ℕ) {a : Answer} {why : RefusedAt} → a ≡ structure image → a ≡ Err why → Err why ≡ verdict image
unfolding verdict ◌before◌
structure_refuses image e h = rw (← e, h)

pub structure_passes : (image : List ℕ) {a b : Answer} {n : ℕ} → a ≡ structure image → a ≡ Accepted n → b ≡ flow_answer (design_of image) → b ≡ verdict image
unfolding verdict ◌before◌
structure_passes image e h k = k ∙ rw (← e, h)
