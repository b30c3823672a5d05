-- Cases at the boundaries of "Write the image with only these, numbers closed up and their nodes kept in order."
use Prim.Native.Nat.{ℕ}
use mathlib.Core.Path.{◌≡◌, refl}
use mathlib.Core.Bool.{true, false}
use mathlib.Core.List.{List, [], ◌∷◌, map}
use lib.ListN.{replicate}
use Rattle.model.specs.Image.{design_of}
use Rattle.model.specs.Machine.{Cycle, reset_areas}
use Rattle.model.specs.Parties.{Call, writes, runs, events, cycles_of}
use Rattle.model.specs.Calls.{reset}
use Rattle.model.proofs.Opened.{checks, accepted, judged, lent_bound}
use Rattle.model.proofs.Designs.{assemble, register_record, state_record, state_with, assigns, sequences, falls, goes_to, goes_with_both, branches, constant, reads, subtracts, lease, chain, low_and_high}
use Rattle.renumbering.specs.Runs.{Ran, ran_under}
use Rattle.pruning_model.specs.Reached.{reached}
use Rattle.pruning_model.specs.Pruned.{new_state, pruned_image}
use Rattle.pruning_model.proofs.Opened.{pruning}

-- every state is reached, and the design comes back byte for byte
shows_comes_back : pruned_image lease ≡ lease
shows_comes_back = unfold pruning in refl

-- Nodes stand in no order of reading, with those of spare states between. r0 has label 0, r1 is a port of label 0, r2 has label 1. State 0 falls. 1: r0 := r0 - 1; goto 3. 3: if r1
-- then fall else goto 1. Below 3 are 4 and 6, which go to each other. Spare are 2 of label 1, r2 := r2; goto 2, and below 3 state 5, goto 5.
abbrev pub mixed : List ℕ
mixed =
    assemble
    chain
    (register_record 0 0 3 ∷ register_record 0 1 0 ∷ register_record 1 0 9 ∷ [])
    (state_record 0 0 10
    ∷ state_record 0 0 9
    ∷ state_record 0 1 7
    ∷ state_record 0 0 11
    ∷ state_record 3 0 0
    ∷ state_record 3 1 3
    ∷ state_record 3 0 12
    ∷ [])
    (goes_to 6
    ∷ assigns 0 4
    ∷ goes_to 2
    ∷ goes_to 5
    ∷ falls
    ∷ assigns 2 0
    ∷ goes_to 3
    ∷ sequences 5 2
    ∷ goes_to 1
    ∷ sequences 1 6
    ∷ falls
    ∷ branches 3 4 8
    ∷ goes_to 4
    ∷ [])
    (reads 2 ∷ constant 1 ∷ reads 0 ∷ reads 1 ∷ subtracts 2 1 ∷ [])

-- the same without 2 and 5, written by hand: states 3, 4 and 6 are 2, 3 and 4 now, parents, gotos and parts have the new numbers, and nodes keep their order
abbrev pub mixed_pruned : List ℕ
mixed_pruned =
    assemble
    chain
    (register_record 0 0 3 ∷ register_record 0 1 0 ∷ register_record 1 0 9 ∷ [])
    (state_record 0 0 6 ∷ state_record 0 0 5 ∷ state_record 0 0 7 ∷ state_record 2 0 0 ∷ state_record 2 0 8 ∷ [])
    (goes_to 4 ∷ assigns 0 3 ∷ falls ∷ goes_to 2 ∷ goes_to 1 ∷ sequences 1 3 ∷ falls ∷ branches 2 2 4 ∷ goes_to 3 ∷ [])
    (constant 1 ∷ reads 0 ∷ reads 1 ∷ subtracts 1 0 ∷ [])

shows_mixed_accepted : map judged (mixed ∷ mixed_pruned ∷ []) ≡ replicate 2 (accepted 0)
shows_mixed_accepted = unfold checks in refl

shows_pruned : pruned_image mixed ≡ mixed_pruned
shows_pruned = unfold pruning in refl

-- "Doing it twice changes nothing"
shows_twice : pruned_image mixed_pruned ≡ mixed_pruned
shows_twice = unfold pruning in refl

-- A goto's arguments are registers or parameters, and stay; so do a state's parameters and their bounds. 1 goes to 3 with r1, 3 goes to itself with its parameter; 2 is spare.
abbrev given : List ℕ
given =
    assemble
    chain
    low_and_high
    (state_record 0 0 0 ∷ state_record 0 0 1 ∷ state_record 0 1 2 ∷ state_with 0 16 3 2 0 1 1 1 ∷ [])
    (falls ∷ goes_with_both 3 1 1 ∷ goes_to 2 ∷ goes_with_both 3 64 65 ∷ [])
    []

abbrev given_pruned : List ℕ
given_pruned =
    assemble
    chain
    low_and_high
    (state_record 0 0 0 ∷ state_record 0 0 1 ∷ state_with 0 16 2 2 0 1 1 1 ∷ [])
    (falls ∷ goes_with_both 2 1 1 ∷ goes_with_both 2 64 65 ∷ [])
    []

shows_given_accepted : map judged (given ∷ given_pruned ∷ []) ≡ replicate 2 (accepted 0)
shows_given_accepted = unfold checks in refl

shows_arguments_stay : pruned_image given ≡ given_pruned
shows_arguments_stay = unfold pruning in refl

-- ---- "gives the same registers and the same walk under the new numbers"
-- two cycles, a reading of 1, three cycles, and a write to an inner register, which is refused
abbrev calls : List Call
calls = runs 2 ∷ writes 1 1 ∷ runs 3 ∷ writes 0 1 ∷ []

abbrev ran_in : List ℕ → ℕ → (ℕ → ℕ) → List Ran
ran_in image states number = map (ran_under number) (cycles_of (events image (reset image (lent_bound (replicate 12 9) (replicate states 9) [])).lent calls))

shows_same_runs
    : ran_in mixed_pruned 15 (λ s. s)
    ≡ record { registers = 2 ∷ 0 ∷ 9 ∷ []; walk = 0 ∷ 1 ∷ [] }
    ∷ record { registers = 2 ∷ 0 ∷ 9 ∷ []; walk = 0 ∷ 2 ∷ [] }
    ∷ record { registers = 1 ∷ 1 ∷ 9 ∷ []; walk = 0 ∷ 1 ∷ [] }
    ∷ record { registers = 1 ∷ 1 ∷ 9 ∷ []; walk = 0 ∷ 2 ∷ 3 ∷ [] }
    ∷ record { registers = 1 ∷ 1 ∷ 9 ∷ []; walk = 0 ∷ 2 ∷ 4 ∷ [] }
    ∷ []
shows_same_runs = unfold pruning in refl

shows_new_numbers : map (new_state (design_of mixed)) (0 ∷ 1 ∷ 3 ∷ 4 ∷ 6 ∷ []) ≡ 0 ∷ 1 ∷ 2 ∷ 3 ∷ 4 ∷ []
shows_new_numbers = unfold pruning in refl

-- The new numbers alone do not tell a dropped state from one that stays: 2 and 5 are not reached, and have the numbers of 3 and 6, which are,
shows_one_number
    : (map (reached (design_of mixed)) (2 ∷ 5 ∷ 3 ∷ 6 ∷ []) ≡ false ∷ false ∷ true ∷ true ∷ [])
    × (map (new_state (design_of mixed)) (2 ∷ 5 ∷ []) ≡ map (new_state (design_of mixed)) (3 ∷ 6 ∷ []))
shows_one_number = unfold pruning in (refl, refl)

abbrev pub walked : List ℕ → Cycle
walked walk = record { after = reset_areas (design_of mixed); walk = walk; ran_with = [] }

-- so that a walk through 2 reads as one through 3. That every state that runs is reached is what refuses it (`Dropped`).
shows_one_walk : ran_under (new_state (design_of mixed)) (walked (0 ∷ 2 ∷ [])) ≡ ran_under (new_state (design_of mixed)) (walked (0 ∷ 3 ∷ []))
shows_one_walk = unfold pruning in refl

-- "under the new numbers": under the old ones the walks differ
shows_old_numbers : map (λ (r : Ran). r.walk) (ran_in mixed 21 (λ s. s)) ≡ (0 ∷ 1 ∷ []) ∷ (0 ∷ 3 ∷ []) ∷ (0 ∷ 1 ∷ []) ∷ (0 ∷ 3 ∷ 4 ∷ []) ∷ (0 ∷ 3 ∷ 6 ∷ []) ∷ []
shows_old_numbers = unfold pruning in refl
