-- 01, the last paragraph of 'The image': the tree of states. And refusals 3 and 4, which judge a register or a state by its record.
use Rattle.std.specs.Prelude.{ℕ, zero, suc, ◌+◌, ◌^◌, Bool, false, ◌&&◌, ◌||◌, not, leb, ltb, eqb, length, Option, Some, None}
use Rattle.model.specs.Indices.{lowest, some_below, recursively}
use Rattle.model.specs.Image.{Design, register_at, state_at}
use Rattle.model.specs.Lattice.{state_label}
use Rattle.model.specs.Limits.{width_max, parameter_label, binding_length}

-- what was found, else s
abbrev pub found_or : ℕ → Option ℕ → ℕ
found_or s (Some q) = q
found_or s None = s

module _ (d : Design) where
  abbrev pub parent : ℕ → ℕ
  parent s = (state_at d s).parent

  -- "kind (0 inner, 1 port)"
  abbrev pub is_port : ℕ → Bool
  is_port r = eqb (register_at d r).kind 1

  -- 02, E2: "A width outside its range, or a reset value too large, is refusal 3."
  unfoldable pub width_kept : ℕ → Bool
  width_kept r = leb 1 (register_at d r).width && leb (register_at d r).width width_max && ltb (register_at d r).reset (2 ^ (register_at d r).width)

  -- refusal 3: "register label or kind"
  unfoldable pub register_kept : ℕ → Bool
  register_kept r = ltb (register_at d r).label (length d.rows) && leb (register_at d r).kind 1 && width_kept r

  -- 02, E8: "state label bytes 16 and 17 stand for their labels"
  abbrev pub label_is_parameter : ℕ → Bool
  label_is_parameter s = leb parameter_label (state_label d s) && ltb (state_label d s) (parameter_label + binding_length)

  -- "State 0 is the root: parent 0, label 0. Any other parent has a lower number than its child." Of label bytes 16 and 17 it says nothing: "19 judges all these
  -- bytes, not 4 or 5".
  unfoldable pub parent_kept : ℕ → Bool
  parent_kept zero = eqb (parent 0) 0 && (eqb (state_label d 0) 0 || label_is_parameter 0)
  parent_kept (suc s) = ltb (parent (suc s)) (suc s)

  -- refusal 4: "state's parent, label or command number"
  unfoldable pub state_kept : ℕ → Bool
  state_kept s = parent_kept s && (ltb (state_label d s) (length d.rows) || label_is_parameter s) && ltb (state_at d s).command (length d.commands)

  -- state q is a child of s
  unfoldable pub is_child : ℕ → ℕ → Bool
  is_child s q = not (eqb q 0) && ltb q (length d.states) && eqb (parent q) s

  unfoldable pub has_child : ℕ → Bool
  has_child s = some_below (is_child s) (length d.states)

  -- "The default child is the lowest-numbered child"; "a childless state's [target] is its own number"
  unfoldable pub default_target : ℕ → ℕ
  default_target s = found_or s (lowest (is_child s) (length d.states))

  -- "Siblings share a parent; the root is nobody's sibling." State t is s or a sibling of s: a child of the parent of s, which is not the root.
  unfoldable pub sibling_or_self : ℕ → ℕ → Bool
  sibling_or_self s t = not (eqb s 0) && is_child (parent s) t

  -- state q is s or a descendant of s: q is s, or q is a child of such a state
  unfoldable pub within : ℕ → ℕ → Bool
  within s = recursively false (λ q above. eqb q s || (not (eqb q 0) && above (parent q)))
