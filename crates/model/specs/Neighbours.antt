-- 02, E14, 'A neighbour edits his design': what two designs have in common at a level. Demand 3 across the two stands where lists of all calls do (crate `lists_model`).
use Rattle.std.specs.Prelude.{ℕ, Bool, ◌&&◌, not, cond, List, [], ◌∷◌, map, ltb, length}
use Rattle.model.specs.Limits.{parameter_label}
use Rattle.model.specs.Indices.{tabulate}
use Rattle.model.specs.Image.{Design, Register, State}
use Rattle.model.specs.Lattice.{flows_to, state_label}
use Rattle.model.specs.Trees.{Expr, constant, register, binary, Cmd, skip, assign, sequence, fall, goto, branch, body_of}

-- "the same commands", apart from node numbers: an expression and a command with 0 for every node number
unfoldable pub unnumbered_expr : Expr → Expr
unnumbered_expr (constant v) = constant v
unnumbered_expr (register m r) = register 0 r
unnumbered_expr (binary o p q) = binary o (unnumbered_expr p) (unnumbered_expr q)

unfoldable pub unnumbered : Cmd → Cmd
unnumbered (skip n) = skip 0
unnumbered (assign n r e) = assign 0 r (unnumbered_expr e)
unnumbered (sequence n p q) = sequence 0 (unnumbered p) (unnumbered q)
unnumbered (fall n) = fall 0
unnumbered (goto n t a b) = goto 0 t a b
unnumbered (branch n e p q) = branch 0 (unnumbered_expr e) (unnumbered p) (unnumbered q)

-- "equal state records apart from command numbers": a state record with 0 for its command number
abbrev pub without_command : State → State
without_command x =
    record {
      parent = x.parent;
      label = x.label;
      command = 0;
      parameters = x.parameters;
      first_lower = x.first_lower;
      first_upper = x.first_upper;
      second_lower = x.second_lower;
      second_upper = x.second_upper;
    }

module _ (d : Design) (level : ℕ) where
  -- "states whose fixed label is not at or below a level". A state whose label is a parameter's (E8) has no fixed one.
  unfoldable pub is_excepted : ℕ → Bool
  is_excepted s = ltb (state_label d s) parameter_label && not (flows_to d.rows (state_label d s) level)

  -- the body of a state, which an excepted one does not have in common
  unfoldable pub common_body : ℕ → List Cmd
  common_body s = cond (is_excepted s) [] (unnumbered (body_of d s) ∷ [])

-- what two designs of neighbours have in common
pub record Common : Type 0 where
  pub rows : List ℕ
  pub registers : List Register
  pub states : List State
  pub bodies : List (List Cmd)

-- "equal labels and registers, and equal state records apart from command numbers. Let their bodies be the same commands except in states whose fixed label is not
-- at or below a level."
unfoldable pub common : Design → ℕ → Common
common d level =
    record {
      rows = d.rows;
      registers = d.registers;
      states = map without_command d.states;
      bodies = tabulate (common_body d level) (length d.states);
    }
