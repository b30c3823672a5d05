-- 02, E12: "they differ at most in node numbers": equal records, and equal trees apart from numbers. A record of a node is in its tree, so what is left to be equal are labels,
-- registers, and states apart from their command numbers.
use Rattle.std.specs.Prelude.{ℕ, ◌<◌, ◌≡◌, List, map, length}
use Rattle.model.specs.Indices.{tabulate}
use Rattle.model.specs.Image.{Design, Register, State, design_of}
use Rattle.model.specs.Trees.{Cmd, body_of}
use Rattle.model.specs.Neighbours.{unnumbered, without_command}
use Rattle.renumbering.specs.Renumbers.{Renumbers}

-- a design apart from node numbers
pub record Unnumbered : Type 0 where
  pub rows : List ℕ
  pub registers : List Register
  pub states : List State
  pub bodies : List Cmd

unfoldable pub unnumbered_design : Design → Unnumbered
unnumbered_design d =
    record {
      rows = d.rows;
      registers = d.registers;
      states = map without_command d.states;
      bodies = tabulate (λ s. unnumbered (body_of d s)) (length d.states);
    }

abbrev pub DifferAtMostInNumbers : List ℕ → List ℕ → Type 0
DifferAtMostInNumbers image other = unnumbered_design (design_of image) ≡ unnumbered_design (design_of other)

-- The same in other words: some renumbering of nodes takes one design to the other. Every state keeps its number and stays, every command and every expression stays and has a new
-- number of its own, and each record of the second design is one of the first under the new numbers (`Renumbers`). Of two accepted images both say the same (`differ_exactly`).
pub record NodesRenumbered (d d' : Design) : Type 0 where
  pub command : ℕ → ℕ
  pub expression : ℕ → ℕ
  pub renumbers : Renumbers d d' (λ s. s) command expression (λ s. s < length d.states) (λ n. n < length d.commands) (λ e. e < length d.expressions)
