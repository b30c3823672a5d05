-- 01, 'Shape and flow', first paragraph: which commands transfer, and refusal 8 as the list of the nodes at which a shape rule fails.
use Rattle.std.specs.Prelude.{ℕ, Bool, true, false, ◌&&◌, not, List, [], ◌∷◌, ◌++◌, length, Option}
use Rattle.std.specs.Bool.{beq}
use Rattle.model.specs.Indices.{lowest_of, join_below}
use Rattle.model.specs.Image.{Design, state_at}
use Rattle.model.specs.States.{has_child, sibling_or_self}
use Rattle.model.specs.Trees.{Cmd, skip, assign, sequence, fall, goto, branch, body_of}

-- "A command transfers if it is a fall or goto, a sequence whose second part transfers, or an if whose branches both do."
unfoldable pub transfers : Cmd → Bool
transfers (skip n) = false
transfers (assign n r e) = false
transfers (sequence n p q) = transfers q
transfers (fall n) = true
transfers (goto n t a b) = true
transfers (branch n e p q) = transfers p && transfers q

-- the node, unless its rule holds
abbrev pub charged_unless : Bool → ℕ → List ℕ
charged_unless true n = []
charged_unless false n = n ∷ []

module _ (d : Design) (s : ℕ) where
  -- the nodes of a command of state s at which a shape rule fails
  unfoldable pub shape_faults : Cmd → List ℕ
  shape_faults (skip n) = []
  shape_faults (assign n r e) = []
  -- "The first part of a sequence never does (charged to the sequence)."
  shape_faults (sequence n p q) = charged_unless (not (transfers p)) n ++ (shape_faults p ++ shape_faults q)
  -- "A fall needs a child."
  shape_faults (fall n) = charged_unless (has_child d s) n
  -- "A goto names a sibling or the state itself; the root holds no goto."
  shape_faults (goto n t a b) = charged_unless (sibling_or_self d s t) n
  -- "An if has two transferring branches or none."
  shape_faults (branch n e p q) = charged_unless (beq (transfers p) (transfers q)) n ++ (shape_faults p ++ shape_faults q)

  -- "Every state's command transfers": "a state that does not transfer is charged to its command"
  unfoldable pub state_shape_faults : List ℕ
  state_shape_faults = charged_unless (transfers (body_of d s)) (state_at d s).command ++ shape_faults (body_of d s)

-- refusal 8, at the lowest node
unfoldable pub shape_fault : Design → Option ℕ
shape_fault d = lowest_of (join_below (state_shape_faults d) (length d.states))
