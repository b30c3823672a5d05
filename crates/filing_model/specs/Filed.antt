-- 02, E12: "The filing form numbers nodes by state, parts before the whole, first part first, expressions in the order of the commands that use them." Labels, registers and
-- states keep their numbers.
use Rattle.std.specs.Prelude.{ℕ, suc, cond, List, [], ◌∷◌, ◌++◌, map, eqb, length}
use Rattle.model.specs.Indices.{join_below, recursively, join_each}
use Rattle.model.specs.Image.{State, Node, Design, state_at, command_at, expression_at, design_of}
use Rattle.model.specs.Kinds.{command_kind, expression_kind}
use Rattle.model.specs.Nodes.{parts_of, values_of, operands_of}
use Rattle.encoding.specs.Encoding.{image_of}
use Rattle.renumbering.specs.Renumbering.{renumbered_state, renumbered_command, renumbered_expression}

-- "parts before the whole, first part first": the old numbers of a tree in their new order, those of its parts one part behind the other and its own last
abbrev pub parts_first : (ℕ → List ℕ) → ℕ → List ℕ
parts_first parts n = recursively [] (λ k part. join_each part (parts k) ++ (k ∷ [])) n

-- the place of n in a list: how many entries stand in front of it
unfoldable pub place_in : List ℕ → ℕ → ℕ
place_in [] n = 0
place_in (x ∷ xs) n = cond (eqb x n) 0 (suc (place_in xs n))

module _ (d : Design) where
  -- the commands in their new order: "by state"
  unfoldable pub command_order : List ℕ
  command_order = join_below (λ s. parts_first (parts_of d) (state_at d s).command) (length d.states)

  -- the expressions of a command in their new order
  abbrev pub value_order : ℕ → List ℕ
  value_order n = join_each (parts_first (operands_of d)) (values_of d n)

  -- the expressions: "in the order of the commands that use them". Decided: in the order of the commands' new numbers.
  unfoldable pub expression_order : List ℕ
  expression_order = join_each value_order command_order

  -- a node's new number is its place
  abbrev pub new_command : ℕ → ℕ
  new_command n = place_in command_order n

  abbrev pub new_expression : ℕ → ℕ
  new_expression e = place_in expression_order e

  -- a record as it is filed
  abbrev pub state_filed : State → State
  state_filed x = renumbered_state (λ s. s) new_command new_expression x

  abbrev pub command_filed : Node → Node
  command_filed x = renumbered_command (λ s. s) new_command new_expression (command_kind x.kind) x

  abbrev pub expression_filed : Node → Node
  expression_filed x = renumbered_expression (λ s. s) new_command new_expression (expression_kind x.kind) x

  unfoldable pub filed : Design
  filed =
      record {
        rows = d.rows;
        registers = d.registers;
        states = map state_filed d.states;
        commands = map (λ n. command_filed (command_at d n)) command_order;
        expressions = map (λ e. expression_filed (expression_at d e)) expression_order;
      }

-- the filing form of an image
unfoldable pub filed_image : List ℕ → List ℕ
filed_image image = image_of (filed (design_of image))
