-- 02, E8: refusal 19 as it judges nodes, by the state in whose body they stand: "at the lowest state, else the lowest node".
use Rattle.std.specs.Prelude.{ℕ, ◌+◌, ◌-◌, ◌*◌, Bool, ◌&&◌, ◌||◌, cond, List, [], ◌++◌, leb, ltb, eqb, length, Option}
use Rattle.model.specs.Limits.{expression_place, parameter_register, binding_length}
use Rattle.model.specs.Indices.{lowest_of, join_below}
use Rattle.model.specs.Image.{Design, state_at}
use Rattle.model.specs.Trees.{Expr, constant, register, binary, Cmd, skip, assign, sequence, fall, goto, branch, body_of}
use Rattle.model.specs.Shape.{charged_unless}
use Rattle.model.specs.Parameters.{scope_of, within_bounds, every_choice, label_byte, label_under}

module _ (d : Design) (s : ℕ) where
  -- a register byte of an assignment or of an expression: a parameter is in the scope of s
  unfoldable pub name_kept : ℕ → Bool
  name_kept r = ltb r parameter_register || ltb (r - parameter_register) (length (scope_of d s))

  -- an argument is a register, or a parameter in the scope of s
  unfoldable pub is_argument : ℕ → Bool
  is_argument r = ltb r (length d.registers) || (leb parameter_register r && ltb (r - parameter_register) (length (scope_of d s)))

  -- "each within the bounds it is given to (a parameter so for its every choice)": r is given to parameter v
  unfoldable pub argument_kept : ℕ → ℕ → Bool
  argument_kept v r = is_argument r && every_choice d s (λ choice. within_bounds d v (label_under choice (label_byte d r)))

  -- "Goto fields a and b carry the arguments, .. zero when unused": field j of a goto to t
  unfoldable pub field_kept : ℕ → ℕ → ℕ → Bool
  field_kept t j r = cond (ltb j (state_at d t).parameters) (argument_kept (binding_length * t + j) r) (eqb r 0)

  abbrev pub arguments_kept : ℕ → ℕ → ℕ → Bool
  arguments_kept t a b = field_kept t 0 a && field_kept t 1 b

  -- the places at which an expression of s names a parameter that is not in scope
  unfoldable pub read_faults : Expr → List ℕ
  read_faults (constant v) = []
  read_faults (register n r) = charged_unless (name_kept r) (expression_place + n)
  read_faults (binary o p q) = read_faults p ++ read_faults q

  -- the places at which a command of s breaks a rule of 19
  unfoldable pub scope_faults : Cmd → List ℕ
  scope_faults (skip n) = []
  scope_faults (assign n r e) = charged_unless (name_kept r) n ++ read_faults e
  scope_faults (sequence n p q) = scope_faults p ++ scope_faults q
  scope_faults (fall n) = []
  scope_faults (goto n t a b) = charged_unless (arguments_kept t a b) n
  scope_faults (branch n e p q) = read_faults e ++ (scope_faults p ++ scope_faults q)

  unfoldable pub state_scope_faults : List ℕ
  state_scope_faults = scope_faults (body_of d s)

-- refusal 19, at the lowest node
unfoldable pub scope_fault : Design → Option ℕ
scope_fault d = lowest_of (join_below (state_scope_faults d) (length d.states))
