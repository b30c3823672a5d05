-- 02, E8: the registers that are bound to parameters. Their numbers stand behind the targets, "two bytes per state, in state order, for the registers bound to its
-- own parameters, the first one first": the binding of parameter v is entry v.
use Rattle.std.specs.Prelude.{ℕ, ◌+◌, ◌-◌, ◌*◌, Bool, false, ◌&&◌, ◌||◌, not, cond, List, map, ltb, eqb, length, get_or, set}
use Rattle.model.specs.Limits.{parameter_register, binding_length}
use Rattle.model.specs.Indices.{recursively}
use Rattle.model.specs.Image.{Design, state_at}
use Rattle.model.specs.Lattice.{implies, register_label, state_label}
use Rattle.model.specs.States.{parent, is_port}
use Rattle.model.specs.Trees.{Expr, constant, register, binary, Cmd, skip, assign, sequence, fall, goto, branch, body_of}
use Rattle.model.specs.Parameters.{all_of, own_parameters, scope_of, within_bounds, label_under}

-- ---- a body with the registers bound to its parameters
-- the register that a register byte names
unfoldable pub named : List ℕ → ℕ → ℕ
named bound r = cond (ltb r parameter_register) r (get_or bound (r - parameter_register) 0)

unfoldable pub expr_with : List ℕ → Expr → Expr
expr_with bound (constant v) = constant v
expr_with bound (register n r) = register n (named bound r)
expr_with bound (binary o p q) = binary o (expr_with bound p) (expr_with bound q)

unfoldable pub cmd_with : List ℕ → Cmd → Cmd
cmd_with bound (skip n) = skip n
cmd_with bound (assign n r e) = assign n (named bound r) (expr_with bound e)
cmd_with bound (sequence n p q) = sequence n (cmd_with bound p) (cmd_with bound q)
cmd_with bound (fall n) = fall n
cmd_with bound (goto n t a b) = goto n t (named bound a) (named bound b)
cmd_with bound (branch n e p q) = branch n (expr_with bound e) (cmd_with bound p) (cmd_with bound q)

module _ (d : Design) where
  -- the registers bound to the parameters in the scope of s, and to its own
  unfoldable pub bound_in : List ℕ → ℕ → List ℕ
  bound_in bindings s = map (λ v. get_or bindings v 0) (scope_of d s)

  unfoldable pub own_bound : List ℕ → ℕ → List ℕ
  own_bound bindings s = map (λ v. get_or bindings v 0) (own_parameters d s)

  -- the body of s as it runs
  unfoldable pub body_with : List ℕ → ℕ → Cmd
  body_with bindings s = cmd_with (bound_in bindings s) (body_of d s)

  -- the label that s has as it runs: "the label its binding gave it then"
  unfoldable pub label_with : List ℕ → ℕ → ℕ
  label_with bindings s = label_under (map (register_label d) (bound_in bindings s)) (state_label d s)

  -- A goto to t binds its arguments, registers a and b, "all read before any is set": what is in scope of the goto was read as its body was made. With one
  -- parameter the second byte stays.
  unfoldable pub bound_by : ℕ → ℕ → ℕ → List ℕ → List ℕ
  bound_by t a b bindings =
      let first = cond (ltb 0 (state_at d t).parameters) (set bindings (binding_length * t) a) bindings in
      cond (ltb 1 (state_at d t).parameters) (set first (binding_length * t + 1) b) first

  -- ---- sound bindings
  -- a state along the current targets, from the root
  unfoldable pub on_path : List ℕ → ℕ → Bool
  on_path targets s = recursively false (λ q above. eqb q 0 || (above (parent d q) && eqb (get_or targets (parent d q) 0) q)) s

  -- "each is 0 or an existing register's number"
  unfoldable pub byte_sound : List ℕ → ℕ → Bool
  byte_sound bindings v = eqb (get_or bindings v 0) 0 || ltb (get_or bindings v 0) (length d.registers)

  -- a "bound register exists, is no port and its label lies within its bounds"
  unfoldable pub bound_sound : List ℕ → ℕ → Bool
  bound_sound bindings v =
      ltb (get_or bindings v 0) (length d.registers)
      && not (is_port d (get_or bindings v 0))
      && within_bounds d v (register_label d (get_or bindings v 0))

  -- "each is 0 or an existing register's number, and along the current targets each bound register exists, .."
  unfoldable pub binding_sound : List ℕ → List ℕ → ℕ → Bool
  binding_sound targets bindings s =
      byte_sound bindings (binding_length * s)
      && byte_sound bindings (binding_length * s + 1)
      && implies (on_path targets s) (all_of (bound_sound bindings) (own_parameters d s))
