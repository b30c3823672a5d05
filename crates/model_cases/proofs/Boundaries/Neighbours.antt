-- Cases at the boundaries of 02's E14: which states are excepted, what two designs have in common, and why nothing of it can be left out.
use Prim.Native.Nat.{ℕ}
use mathlib.Core.Path.{◌≡◌, refl}
use mathlib.Core.Bool.{true, false}
use mathlib.Core.List.{List, [], ◌∷◌, map}
use lib.ListN.{replicate}
use Rattle.model.specs.Image.{design_of}
use Rattle.model.specs.Kinds.{add}
use Rattle.model.specs.Trees.{skip, assign, sequence, fall, goto, branch, constant, register, binary}
use Rattle.model.specs.Parties.{Seen, resets, runs, events, view}
use Rattle.model.specs.Neighbours.{unnumbered_expr, unnumbered, is_excepted, common_body, common}
use Rattle.model.proofs.Opened.{checks, sights, accepted, judged, lent_bound}
use Rattle.model.proofs.Designs as images

unfoldable neighbouring : ℕ
unfolding sights unnumbered_expr unnumbered is_excepted common_body common
neighbouring = 0

-- "the same commands", apart from node numbers: of every kind, and of nothing else
shows_unnumbered
    : unnumbered (branch 9 (binary add (register 8 1) (constant 7)) (sequence 6 (skip 5) (assign 4 3 (register 2 65))) (sequence 3 (assign 2 64 (constant 1)) (branch 1 (constant 5) (fall 7) (goto 8 4 3 2))))
    ≡ branch 0 (binary add (register 0 1) (constant 7)) (sequence 0 (skip 0) (assign 0 3 (register 0 65))) (sequence 0 (assign 0 64 (constant 1)) (branch 0 (constant 5) (fall 0) (goto 0 4 3 2)))
shows_unnumbered = unfold neighbouring in refl

-- Labels 1 and 2 cannot be compared, 3 is above both. States 0 and 1 have label 0, and states 2, 3 and 4 the labels 1, 2 and 3.
abbrev labelled : List ℕ
labelled =
    images.assemble
    images.diamond
    []
    (images.state_record 0 0 0 ∷ images.state_record 0 0 1 ∷ images.state_record 0 1 2 ∷ images.state_record 0 2 3 ∷ images.state_record 0 3 4 ∷ [])
    (images.falls ∷ images.goes_to 2 ∷ images.goes_to 2 ∷ images.goes_to 3 ∷ images.goes_to 4 ∷ [])
    []

-- "not at or below a level": neither at it, nor below it; a label that cannot be compared with the level is not at or below it
shows_excepted
    : map (λ level. map (is_excepted (design_of labelled) level) (0 ∷ 1 ∷ 2 ∷ 3 ∷ 4 ∷ [])) (0 ∷ 1 ∷ 2 ∷ 3 ∷ [])
    ≡ (false ∷ false ∷ true ∷ true ∷ true ∷ [])
    ∷ (false ∷ false ∷ false ∷ true ∷ true ∷ [])
    ∷ (false ∷ false ∷ true ∷ false ∷ true ∷ [])
    ∷ (false ∷ false ∷ false ∷ false ∷ false ∷ [])
    ∷ []
shows_excepted = unfold neighbouring in refl

-- r0 has label 0 and this reset value, r1 has label 1 and this width. State 1 of label 1: r1 := r1 + v; goto 1.
abbrev counting : ℕ → ℕ → ℕ → List ℕ
counting reset width v =
    images.assemble
    images.chain
    (images.register_record 0 0 reset ∷ images.width_record 1 0 2 width ∷ [])
    (images.state_record 0 0 0 ∷ images.state_record 0 1 3 ∷ [])
    (images.falls ∷ images.assigns 1 2 ∷ images.goes_to 1 ∷ images.sequences 1 2 ∷ [])
    (images.reads 1 ∷ images.constant v ∷ images.adds 0 1 ∷ [])

-- the same with other node numbers
abbrev renumbered : ℕ → ℕ → ℕ → List ℕ
renumbered reset width v =
    images.assemble
    images.chain
    (images.register_record 0 0 reset ∷ images.width_record 1 0 2 width ∷ [])
    (images.state_record 0 0 2 ∷ images.state_record 0 1 3 ∷ [])
    (images.goes_to 1 ∷ images.assigns 1 2 ∷ images.falls ∷ images.sequences 1 0 ∷ [])
    (images.constant v ∷ images.reads 1 ∷ images.adds 1 0 ∷ [])

shows_counting_accepted
    : map judged (counting 3 32 5 ∷ counting 3 32 6 ∷ counting 4 32 5 ∷ counting 3 2 5 ∷ renumbered 3 32 5 ∷ labelled ∷ []) ≡ replicate 6 (accepted 0)
shows_counting_accepted = unfold checks in refl

-- "equal labels and registers, and equal state records apart from command numbers", all of them; and the bodies of all states at or below the level
shows_common_at_level
    : common (design_of (counting 3 32 5)) 1
    ≡ record {
      rows = 3 ∷ 2 ∷ [];
      registers = record { label = 0; kind = 0; reset = 3; width = 32 } ∷ record { label = 1; kind = 0; reset = 2; width = 32 } ∷ [];
      states =
          record { parent = 0; label = 0; command = 0; parameters = 0; first_lower = 0; first_upper = 0; second_lower = 0; second_upper = 0 }
          ∷ record { parent = 0; label = 1; command = 0; parameters = 0; first_lower = 0; first_upper = 0; second_lower = 0; second_upper = 0 }
          ∷ [];
      bodies = (fall 0 ∷ []) ∷ (sequence 0 (assign 0 1 (binary add (register 0 1) (constant 5))) (goto 0 1 0 0) ∷ []) ∷ [];
    }
shows_common_at_level = unfold neighbouring in refl

-- below it, state 1 is excepted
shows_common_below : map (λ v. (common (design_of (counting 3 32 v)) 0).bodies) (5 ∷ 6 ∷ []) ≡ replicate 2 ((fall 0 ∷ []) ∷ [] ∷ [])
shows_common_below = unfold neighbouring in refl

-- node numbers do not count, at either level
shows_renumbered
    : map (common (design_of (counting 3 32 5))) (0 ∷ 1 ∷ []) ≡ map (common (design_of (renumbered 3 32 5))) (0 ∷ 1 ∷ [])
shows_renumbered = unfold neighbouring in refl

-- r0 of label 0 and r1 of label 1. State 2 has p, from label 0 to label 1, and its label: p := v; goto 2 with p. State 1 goes to it with r0.
abbrev given : ℕ → List ℕ
given v =
    images.assemble
    images.chain
    images.low_and_high
    (images.state_record 0 0 0 ∷ images.state_record 0 0 1 ∷ images.state_with 0 16 4 1 0 1 0 0 ∷ [])
    (images.falls ∷ images.goes_with 2 0 ∷ images.assigns 64 0 ∷ images.goes_with 2 64 ∷ images.sequences 2 3 ∷ [])
    (images.constant v ∷ [])

shows_given_accepted : map judged (given 5 ∷ given 6 ∷ []) ≡ replicate 2 (accepted 0)
shows_given_accepted = unfold checks in refl

-- "whose fixed label": a state whose label is a parameter's is not excepted, and its record counts with its bounds
shows_no_fixed_label
    : common (design_of (given 5)) 0
    ≡ record {
      rows = 3 ∷ 2 ∷ [];
      registers = record { label = 0; kind = 0; reset = 0; width = 32 } ∷ record { label = 1; kind = 0; reset = 0; width = 32 } ∷ [];
      states =
          record { parent = 0; label = 0; command = 0; parameters = 0; first_lower = 0; first_upper = 0; second_lower = 0; second_upper = 0 }
          ∷ record { parent = 0; label = 0; command = 0; parameters = 0; first_lower = 0; first_upper = 0; second_lower = 0; second_upper = 0 }
          ∷ record { parent = 0; label = 16; command = 0; parameters = 1; first_lower = 0; first_upper = 1; second_lower = 0; second_upper = 0 }
          ∷ [];
      bodies = (fall 0 ∷ []) ∷ (goto 0 2 0 0 ∷ []) ∷ (sequence 0 (assign 0 64 (constant 5)) (goto 0 2 64 0) ∷ []) ∷ [];
    }
shows_no_fixed_label = unfold neighbouring in refl

-- every field of a state record but the command number: a default child of a state that holds no fall, with the second parameter in scope of the group it stands in
abbrev bounded : List ℕ
bounded =
    images.assemble
    images.chain
    images.low_and_high
    (images.state_record 0 0 0 ∷ images.state_record 0 0 1 ∷ images.state_with 0 17 2 2 0 1 1 1 ∷ images.state_record 2 1 3 ∷ [])
    (images.falls ∷ images.goes_with_both 2 0 1 ∷ images.goes_with_both 2 64 65 ∷ images.goes_to 3 ∷ [])
    []

shows_records_whole
    : (judged bounded ∷ [] ≡ accepted 0 ∷ [])
    × ((common (design_of bounded) 0).states
    ≡ record { parent = 0; label = 0; command = 0; parameters = 0; first_lower = 0; first_upper = 0; second_lower = 0; second_upper = 0 }
    ∷ record { parent = 0; label = 0; command = 0; parameters = 0; first_lower = 0; first_upper = 0; second_lower = 0; second_upper = 0 }
    ∷ record { parent = 0; label = 17; command = 0; parameters = 2; first_lower = 0; first_upper = 1; second_lower = 1; second_upper = 1 }
    ∷ record { parent = 2; label = 1; command = 0; parameters = 0; first_lower = 0; first_upper = 0; second_lower = 0; second_upper = 0 }
    ∷ [])
shows_records_whole = unfold neighbouring in (refl, refl)

-- ---- what a level sees of some cycles from reset
abbrev values_of : List ℕ → ℕ → ℕ → ℕ → List (List ℕ)
values_of image states level n =
    map (λ (seen : Seen). seen.values) (view (design_of image) level (events image (lent_bound (replicate 8 9) (replicate states 9) []) (resets ∷ runs n ∷ [])))

-- "Then that level sees equal runs across the two designs": level 0 the same, and level 1, whose own state was edited, another run
shows_neighbours_seen
    : map (λ v. values_of (counting 3 32 v) 6 0 2) (5 ∷ 6 ∷ []) ≡ ((3 ∷ []) ∷ (3 ∷ []) ∷ []) ∷ ((3 ∷ []) ∷ (3 ∷ []) ∷ []) ∷ []
shows_neighbours_seen = unfold neighbouring in refl

-- Why nothing may be left out. The level itself is not excepted: it sees its own states run.
shows_level_sees_itself
    : map (λ v. values_of (counting 3 32 v) 6 1 2) (5 ∷ 6 ∷ []) ≡ ((3 ∷ 7 ∷ []) ∷ (3 ∷ 12 ∷ []) ∷ []) ∷ ((3 ∷ 8 ∷ []) ∷ (3 ∷ 14 ∷ []) ∷ []) ∷ []
shows_level_sees_itself = unfold neighbouring in refl

-- Registers are equal with their reset values, which are seen from the first cycle on, and with their widths.
shows_registers_seen
    : values_of (counting 3 32 5) 6 1 1 ∷ values_of (counting 4 32 5) 6 1 1 ∷ values_of (counting 3 2 5) 6 1 1 ∷ []
    ≡ ((3 ∷ 7 ∷ []) ∷ []) ∷ ((4 ∷ 7 ∷ []) ∷ []) ∷ ((3 ∷ 3 ∷ []) ∷ []) ∷ []
shows_registers_seen = unfold neighbouring in refl

-- A state whose label is a parameter's may run at the level: here it writes r0.
shows_parameter_seen : map (λ v. values_of (given v) 9 0 2) (5 ∷ 6 ∷ []) ≡ ((0 ∷ []) ∷ (5 ∷ []) ∷ []) ∷ ((0 ∷ []) ∷ (6 ∷ []) ∷ []) ∷ []
shows_parameter_seen = unfold neighbouring in refl
