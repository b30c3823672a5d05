-- 01, 'When the box says no': the image checks, each with its place, in the order of the table; 02, E1, puts 16 between 8 and 9, and E8 puts 19 behind 16.
use Rattle.std.specs.Prelude.{ℕ, ◌+◌, Bool, true, false, List, length, Option, Some, None, Err}
use Rattle.model.specs.declared.Refusal.{Refusal}
use Rattle.model.specs.declared.Refusal.TheVariants.{Directory, LabelRow, RegisterRecord, StateRecord, NodeRecord, NodeUse, Depth, Shape, ChildLabel, PortAssigned, Parameter}
use Rattle.model.specs.Answers.{Answer, Accepted, Refused}
use Rattle.model.specs.Limits.{expression_place}
use Rattle.model.specs.Indices.{lowest_failing}
use Rattle.model.specs.Image.{Design, design_of, directory_kept}
use Rattle.model.specs.Lattice.{label_kept}
use Rattle.model.specs.States.{register_kept, state_kept}
use Rattle.model.specs.Kinds.{command_kept, expression_kept}
use Rattle.model.specs.Nodes.{command_used_once, expression_used_once, command_depth_kept, expression_depth_kept}
use Rattle.model.specs.Shape.{shape_fault}
use Rattle.model.specs.Ports.{names_no_port}
use Rattle.model.specs.Parameters.{parameters_kept}
use Rattle.model.specs.Scopes.{scope_fault}
use Rattle.model.specs.Falls.{child_label_kept}
use Rattle.model.specs.Flow.{flow_answer}

-- "The lowest number that applies comes first": the first answer where it refuses, else the second
infixr 20 ◌before◌
unfoldable pub ◌before◌ : Answer → Answer → Answer
Err why before later = Err why
Accepted count before later = later

-- the refusal at the place that was found
unfoldable pub refused_at : Refusal → Option ℕ → Answer
refused_at refusal (Some place) = Refused refusal place
refused_at refusal None = Accepted 0

-- place 0 where a rule fails that no label, register, state or node breaks: "else 0"
abbrev pub at_zero_unless : Bool → Option ℕ
at_zero_unless true = None
at_zero_unless false = Some 0

-- "an expression's place is 1,024 plus its number": the commands come first
abbrev pub commands_first : Option ℕ → Option ℕ → Option ℕ
commands_first (Some n) expression = Some n
commands_first None (Some n) = Some (expression_place + n)
commands_first None None = None

-- the lowest node at which the rule of its family fails
unfoldable pub lowest_node : Design → (ℕ → Bool) → (ℕ → Bool) → Option ℕ
lowest_node d command expression =
    commands_first (lowest_failing command (length d.commands)) (lowest_failing expression (length d.expressions))

-- refusals 2 to 9, 16 and 19: the records, the nodes and their shape. 02, E1: "It refuses with 16 at the lowest such assignment, after 8 and before 9." 02, E8: "It
-- refuses with 19, after 16 and before 9, .. at the lowest state, else the lowest node".
unfoldable pub design_structure : Design → Answer
design_structure d =
    refused_at LabelRow (lowest_failing (label_kept d.rows) (length d.rows))
    before refused_at RegisterRecord (lowest_failing (register_kept d) (length d.registers))
    before refused_at StateRecord (lowest_failing (state_kept d) (length d.states))
    before refused_at NodeRecord (lowest_node d (command_kept d) (expression_kept d))
    before refused_at NodeUse (lowest_node d (command_used_once d) (expression_used_once d))
    before refused_at Depth (lowest_node d (command_depth_kept d) (expression_depth_kept d))
    before refused_at Shape (shape_fault d)
    before refused_at PortAssigned (lowest_failing (names_no_port d) (length d.commands))
    before refused_at Parameter (lowest_failing (parameters_kept d) (length d.states))
    before refused_at Parameter (scope_fault d)
    before refused_at ChildLabel (lowest_failing (child_label_kept d) (length d.states))

-- the image checks but for 10 to 12
unfoldable pub structure : List ℕ → Answer
structure image = refused_at Directory (at_zero_unless (directory_kept image)) before design_structure (design_of image)

-- the image checks, 1 to 12, 16 and 19: what every call of 01 makes first
unfoldable pub verdict : List ℕ → Answer
verdict image = structure image before flow_answer (design_of image)
