-- 02, E11: "Write the image with only these, numbers closed up and their nodes kept in order."
use Rattle.std.specs.Prelude.{ℕ, zero, suc, ◌+◌, Bool, ◌&&◌, cond, List, [], ◌∷◌, map, length}
use Rattle.model.specs.Indices.{some_below, join_each, recursively}
use Rattle.model.specs.Image.{State, Node, Design, state_at, design_of}
use Rattle.model.specs.Kinds.{command_kind, expression_kind}
use Rattle.model.specs.Values.{one_or_zero}
use Rattle.model.specs.Nodes.{parts_of, values_of, operands_of}
use Rattle.encoding.specs.Encoding.{image_of}
use Rattle.renumbering.specs.Renumbering.{renumbered_state, renumbered_command, renumbered_expression}
use Rattle.pruning_model.specs.Reached.{among, reached}

-- ---- "numbers closed up"
-- the new number of n: how many of the numbers below it stay
unfoldable pub closed_up : (ℕ → Bool) → ℕ → ℕ
closed_up stays zero = 0
closed_up stays (suc n) = closed_up stays n + one_or_zero (stays n)

-- the entries that stay, in their order; the first of the list has number i
module _ {A : Type 0} (stays : ℕ → Bool) where
  unfoldable pub staying_from : ℕ → List A → List A
  staying_from i [] = []
  staying_from i (x ∷ xs) = cond (stays i) (x ∷ staying_from (suc i) xs) (staying_from (suc i) xs)

  abbrev pub staying : List A → List A
  staying xs = staying_from 0 xs

-- ---- "their nodes"
-- the numbers of a tree: its own, and those of its parts
abbrev pub numbers_in : (ℕ → List ℕ) → ℕ → List ℕ
numbers_in parts n = recursively [] (λ k part. k ∷ join_each part (parts k)) n

module _ (d : Design) where
  -- a command of the body of a reached state, and an expression of such a command
  unfoldable pub command_stays : ℕ → Bool
  command_stays n = some_below (λ s. reached d s && among n (numbers_in (parts_of d) (state_at d s).command)) (length d.states)

  unfoldable pub expression_stays : ℕ → Bool
  expression_stays e =
      some_below (λ n. command_stays n && among e (join_each (numbers_in (operands_of d)) (values_of d n))) (length d.commands)

  -- ---- the design under new numbers
  abbrev pub new_state : ℕ → ℕ
  new_state s = closed_up (reached d) s

  abbrev pub new_command : ℕ → ℕ
  new_command n = closed_up command_stays n

  abbrev pub new_expression : ℕ → ℕ
  new_expression e = closed_up expression_stays e

  -- a record as it is written
  abbrev pub state_written : State → State
  state_written x = renumbered_state new_state new_command new_expression x

  abbrev pub command_written : Node → Node
  command_written x = renumbered_command new_state new_command new_expression (command_kind x.kind) x

  abbrev pub expression_written : Node → Node
  expression_written x = renumbered_expression new_state new_command new_expression (expression_kind x.kind) x

  -- labels and registers all stay
  unfoldable pub pruned : Design
  pruned =
      record {
        rows = d.rows;
        registers = d.registers;
        states = map state_written (staying (reached d) d.states);
        commands = map command_written (staying command_stays d.commands);
        expressions = map expression_written (staying expression_stays d.expressions);
      }

unfoldable pub pruned_image : List ℕ → List ℕ
pruned_image image = image_of (pruned (design_of image))
