-- 02, E4: "refusal 9 now looks only at the default child of a state that holds a fall, charged to that child." 01 had it of every child; all other children may have any label.
use Rattle.std.specs.Prelude.{ℕ, Bool, true, false, ◌&&◌, ◌||◌}
use Rattle.model.specs.Image.{Design}
use Rattle.model.specs.Lattice.{implies, flows_to, state_label}
use Rattle.model.specs.States.{parent}
use Rattle.model.specs.Parameters.{every_choice, label_under, is_default_child}
use Rattle.model.specs.Trees.{Cmd, skip, assign, sequence, fall, goto, branch, body_of}

-- a fall stands somewhere in the command
unfoldable pub holds_fall : Cmd → Bool
holds_fall (skip n) = false
holds_fall (assign n r e) = false
holds_fall (sequence n p q) = holds_fall p || holds_fall q
holds_fall (fall n) = true
holds_fall (goto n t a b) = false
holds_fall (branch n e p q) = holds_fall p || holds_fall q

module _ (d : Design) where
  -- state q is the default child of its parent, and its parent holds a fall
  unfoldable pub is_fallen_into : ℕ → Bool
  is_fallen_into q = is_default_child d q && holds_fall (body_of d (parent d q))

  -- refusal 9: "child's label", of the children that E4 leaves it. 02, E8: "for each choice of labels within the bounds in scope, and the default-child test is
  -- read likewise". A default child has no parameters of its own, so its scope is its parent's.
  unfoldable pub child_label_kept : ℕ → Bool
  child_label_kept q =
      implies (is_fallen_into q) (every_choice d q (λ choice. flows_to d.rows (label_under choice (state_label d (parent d q))) (label_under choice (state_label d q))))
