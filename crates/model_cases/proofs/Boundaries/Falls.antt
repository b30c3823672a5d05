-- Cases at the boundaries of 02, E4: which children refusal 9 looks at, its place, and why a party's view is promised from reset on.
use Prim.Native.Nat.{ℕ}
use mathlib.Core.Path.{◌≡◌, refl}
use mathlib.Core.List.{List, [], ◌∷◌, ◌++◌, map}
use Rattle.model.specs.Image.{design_of}
use Rattle.model.specs.Parties.{Seen, runs, events, values_seen, walk_seen, view}
use Rattle.model.proofs.Opened.{checks, everything, accepted, refused, judged, lent}
use Rattle.model.proofs.Designs.{chain, low_and_high, assemble, state_record, skips, sequences, falls, goes_to, branches, reads, spare}

-- The group, state 1, has label 1 and a body whose last command is 3; states 2, 3 and 4 below it have these labels.
abbrev grouped : List (List ℕ) → ℕ → ℕ → ℕ → List ℕ
grouped body two three four =
    assemble
    chain
    low_and_high
    (state_record 0 0 0 ∷ state_record 0 1 3 ∷ state_record 1 two 4 ∷ state_record 1 three 5 ∷ state_record 1 four 6 ∷ [])
    (falls ∷ (body ++ (goes_to 2 ∷ goes_to 3 ∷ goes_to 4 ∷ [])))
    (reads 1 ∷ [])

-- if r1 then fall else goto 1; and the same turned round; and a body that only goes
abbrev fall_or_go : List (List ℕ)
fall_or_go = falls ∷ goes_to 1 ∷ branches 0 1 2 ∷ []

abbrev go_or_fall : List (List ℕ)
go_or_fall = goes_to 1 ∷ falls ∷ branches 0 1 2 ∷ []

abbrev only_goes : List (List ℕ)
only_goes = goes_to 1 ∷ goes_to 1 ∷ branches 0 1 2 ∷ []

-- "looks only at the default child": children that are not, the last one or all but the first, may be low
shows_spare_children
    : map judged (grouped fall_or_go 1 1 1 ∷ grouped fall_or_go 1 1 0 ∷ grouped fall_or_go 1 0 1 ∷ grouped fall_or_go 1 0 0 ∷ [])
    ≡ accepted 0 ∷ accepted 0 ∷ accepted 0 ∷ accepted 0 ∷ []
shows_spare_children = unfold checks in refl

-- the default child may not, and is charged; whatever the others are
shows_default_child
    : map judged (grouped fall_or_go 0 1 1 ∷ grouped fall_or_go 0 0 1 ∷ grouped fall_or_go 0 0 0 ∷ []) ≡ refused 9 2 ∷ refused 9 2 ∷ refused 9 2 ∷ []
shows_default_child = unfold checks in refl

-- "of a state that holds a fall": anywhere in its body, in the second branch of an if or behind another command
shows_fall_anywhere
    : map
    judged
    (grouped go_or_fall 0 1 1 ∷ assemble chain [] (state_record 0 0 0 ∷ state_record 0 1 3 ∷ state_record 1 0 4 ∷ []) (falls ∷ skips ∷ falls ∷ sequences 1 2 ∷ goes_to 2 ∷ []) [] ∷ [])
    ≡ refused 9 2 ∷ refused 9 2 ∷ []
shows_fall_anywhere = unfold checks in refl

-- a state that holds none: its default child, here its only one, may have any label
shows_no_fall
    : map
    judged
    (grouped only_goes 0 0 0 ∷ assemble chain [] (state_record 0 0 0 ∷ state_record 0 1 1 ∷ state_record 1 0 2 ∷ []) (falls ∷ goes_to 1 ∷ goes_to 2 ∷ []) [] ∷ [])
    ≡ accepted 0 ∷ accepted 0 ∷ []
shows_no_fall = unfold checks in refl

-- "charged to that child", "the lowest such child first": groups 1 and 2 hold a fall; the child of 1 is 4 and that of 2 is 3
shows_lowest_child
    : judged
    (assemble
    chain
    []
    (state_record 0 0 0 ∷ state_record 0 1 1 ∷ state_record 0 1 2 ∷ state_record 2 0 3 ∷ state_record 1 0 4 ∷ [])
    (falls ∷ falls ∷ falls ∷ goes_to 3 ∷ goes_to 4 ∷ [])
    [])
    ≡ refused 9 3
shows_lowest_child = unfold checks in refl

-- Why "from reset onward": a design with a spare child.
shows_spare_accepted : judged spare ≡ accepted 0
shows_spare_accepted = unfold checks in refl

unfoldable whole : ℕ
unfolding everything values_seen walk_seen view
whole = 0

-- what level 0 sees of a run of one cycle from areas as they are lent: r1, which it does not see, and the targets
abbrev seen : ℕ → List ℕ → Seen
seen value walk = record { values = value ∷ []; walk = map (λ s. record { state = s; bound = [] }) walk }

abbrev seen_from : ℕ → List ℕ → List Seen
seen_from secret targets =
    view (design_of spare) 0 (events spare (lent (0 ∷ 0 ∷ 0 ∷ 0 ∷ secret ∷ 0 ∷ 0 ∷ 0 ∷ []) targets) (runs 1 ∷ []))

-- With the targets of reset level 0 sees the same whatever r1 holds.
shows_from_reset
    : seen_from 0 (1 ∷ 2 ∷ 2 ∷ 3 ∷ []) ∷ seen_from 1 (1 ∷ 2 ∷ 2 ∷ 3 ∷ []) ∷ []
    ≡ (seen 0 (0 ∷ []) ∷ []) ∷ (seen 0 (0 ∷ []) ∷ []) ∷ []
shows_from_reset = unfold whole in refl

-- With the spare child as the target of its group, which is sound and which no run from reset comes to, it sees r1: areas are never restored from elsewhere.
shows_not_from_reset
    : seen_from 0 (1 ∷ 3 ∷ 2 ∷ 3 ∷ []) ∷ seen_from 1 (1 ∷ 3 ∷ 2 ∷ 3 ∷ []) ∷ []
    ≡ (seen 0 (0 ∷ []) ∷ []) ∷ (seen 1 (0 ∷ 3 ∷ []) ∷ []) ∷ []
shows_not_from_reset = unfold whole in refl
