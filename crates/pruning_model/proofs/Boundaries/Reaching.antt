-- Cases at the boundaries of "Reached states are the root, the default child of a reached state that holds a fall, and the siblings named by a reached state's gotos."
use Prim.Native.Nat.{ℕ}
use mathlib.Core.Path.{◌≡◌, refl}
use mathlib.Core.Bool.{Bool, true, false}
use mathlib.Core.List.{List, [], ◌∷◌, map}
use lib.ListN.{length, replicate}
use Rattle.model.specs.Indices.{tabulate}
use Rattle.model.specs.Image.{design_of}
use Rattle.model.proofs.Opened.{accepted, judged}
use Rattle.model.proofs.Designs.{assemble, state_record, sequences, skips, falls, goes_to, branches, constant, lease, two_groups}
use Rattle.pruning_model.specs.Reached.{reached}
use Rattle.pruning_model.proofs.Opened.{pruning}

-- which states of an image are reached, in their order
abbrev reached_of : List ℕ → List Bool
reached_of image = tabulate (reached (design_of image)) (length (design_of image).states)

-- every state of the worked designs is
shows_all_reached : map reached_of (lease ∷ two_groups ∷ []) ≡ replicate 5 true ∷ replicate 8 true ∷ []
shows_all_reached = unfold pruning in refl

-- Root 0 falls. Below it 1 goes to 3; 2 is named by nobody; 3 falls. Below 3 the default child 4 goes to itself, and 5, named by nobody, goes to 6. Below 1, which holds no
-- fall, is 7.
abbrev pub spares : List ℕ
spares =
    assemble
    (1 ∷ [])
    []
    (state_record 0 0 0
    ∷ state_record 0 0 1
    ∷ state_record 0 0 2
    ∷ state_record 0 0 3
    ∷ state_record 3 0 4
    ∷ state_record 3 0 5
    ∷ state_record 3 0 6
    ∷ state_record 1 0 7
    ∷ [])
    (falls ∷ goes_to 3 ∷ goes_to 1 ∷ falls ∷ goes_to 4 ∷ goes_to 6 ∷ goes_to 6 ∷ goes_to 7 ∷ [])
    []

-- The root, the default child of a state that holds a fall and no other child of it, what a goto names; neither a state that goes to a reached one, nor one that only unreached
-- states name, nor a child of a state without a fall.
shows_reached : (judged spares ∷ [] ≡ accepted 0 ∷ []) × (reached_of spares ≡ true ∷ true ∷ false ∷ true ∷ true ∷ false ∷ false ∷ false ∷ [])
shows_reached = unfold pruning in (refl, refl)

-- a chain against the order of numbers takes as many rounds as it has states: 1 goes to 5, 5 to 4, 4 to 3, 3 to 2
abbrev downwards : List ℕ
downwards =
    assemble
    (1 ∷ [])
    []
    (state_record 0 0 0 ∷ state_record 0 0 1 ∷ state_record 0 0 2 ∷ state_record 0 0 3 ∷ state_record 0 0 4 ∷ state_record 0 0 5 ∷ [])
    (falls ∷ goes_to 5 ∷ goes_to 2 ∷ goes_to 2 ∷ goes_to 3 ∷ goes_to 4 ∷ [])
    []

shows_every_round : (judged downwards ∷ [] ≡ accepted 0 ∷ []) × (reached_of downwards ≡ replicate 6 true)
shows_every_round = unfold pruning in (refl, refl)

-- "holds a fall" and "gotos" are of the body as written: behind another command, and in a branch that no value takes. State 1: skip; if 0 then goto 2 else goto 1. State 2: if 1
-- then goto 2 else fall, with the default child 4 and the child 3 of the root.
abbrev written : List ℕ
written =
    assemble
    (1 ∷ [])
    []
    (state_record 0 0 0 ∷ state_record 0 0 5 ∷ state_record 0 0 8 ∷ state_record 0 0 9 ∷ state_record 2 0 10 ∷ [])
    (falls
    ∷ skips
    ∷ goes_to 2
    ∷ goes_to 1
    ∷ branches 0 2 3
    ∷ sequences 1 4
    ∷ goes_to 2
    ∷ falls
    ∷ branches 1 6 7
    ∷ goes_to 3
    ∷ goes_to 4
    ∷ [])
    (constant 0 ∷ constant 1 ∷ [])

shows_as_written : (judged written ∷ [] ≡ accepted 0 ∷ []) × (reached_of written ≡ true ∷ true ∷ true ∷ false ∷ true ∷ [])
shows_as_written = unfold pruning in (refl, refl)
