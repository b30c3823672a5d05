-- The image checks up to refusal 9, from each pass on, in the order of the table: each is the pass's refusal, if it has one, before all that follow.
use Rattle.std.specs.Prelude.{ℕ, List, length}
use Rattle.model.specs.declared.Refusal.TheVariants.{LabelRow, RegisterRecord, StateRecord, NodeRecord, NodeUse, Depth, Shape, ChildLabel, PortAssigned, Parameter}
use Rattle.model.specs.Answers.{Answer}
use Rattle.model.specs.Indices.{lowest_failing}
use Rattle.model.specs.Image.{Design}
use Rattle.model.specs.Lattice.{label_kept}
use Rattle.model.specs.States.{register_kept, state_kept}
use Rattle.model.specs.Kinds.{command_kept, expression_kept}
use Rattle.model.specs.Nodes.{command_used_once, expression_used_once, command_depth_kept, expression_depth_kept}
use Rattle.model.specs.Shape.{shape_fault}
use Rattle.model.specs.Ports.{names_no_port}
use Rattle.model.specs.Parameters.{parameters_kept}
use Rattle.model.specs.Scopes.{scope_fault}
use Rattle.model.specs.Falls.{child_label_kept}
use Rattle.model.specs.Verdict.{◌before◌, refused_at, lowest_node}
use Rattle.design.specs.Resets.{Defaults}
use Rattle.design.specs.Falls.{FallsTold}

-- how many commands, and how many expressions, are few
abbrev pub few_nodes : ℕ
few_nodes = 128

-- the tables that refusals 19 and 9 read: the default target of each state, and which states hold a fall
pub record ChildrenTold (d : Design) (defaults falls : List ℕ) : Type 0 where
  pub targets : Defaults d defaults
  pub held : FallsTold d falls

unfoldable pub from_children : Design → Answer
from_children d = refused_at ChildLabel (lowest_failing (child_label_kept d) (length d.states))

unfoldable pub from_scopes : Design → Answer
from_scopes d = refused_at Parameter (scope_fault d) before from_children d

unfoldable pub from_parameters : Design → Answer
from_parameters d = refused_at Parameter (lowest_failing (parameters_kept d) (length d.states)) before from_scopes d

unfoldable pub from_ports : Design → Answer
from_ports d = refused_at PortAssigned (lowest_failing (names_no_port d) (length d.commands)) before from_parameters d

unfoldable pub from_shape : Design → Answer
from_shape d = refused_at Shape (shape_fault d) before from_ports d

unfoldable pub from_depths : Design → Answer
from_depths d = refused_at Depth (lowest_node d (command_depth_kept d) (expression_depth_kept d)) before from_shape d

unfoldable pub from_uses : Design → Answer
from_uses d = refused_at NodeUse (lowest_node d (command_used_once d) (expression_used_once d)) before from_depths d

unfoldable pub from_nodes : Design → Answer
from_nodes d = refused_at NodeRecord (lowest_node d (command_kept d) (expression_kept d)) before from_uses d

unfoldable pub from_states : Design → Answer
from_states d = refused_at StateRecord (lowest_failing (state_kept d) (length d.states)) before from_nodes d

unfoldable pub from_registers : Design → Answer
from_registers d = refused_at RegisterRecord (lowest_failing (register_kept d) (length d.registers)) before from_states d

unfoldable pub from_labels : Design → Answer
from_labels d = refused_at LabelRow (lowest_failing (label_kept d.rows) (length d.rows)) before from_registers d
