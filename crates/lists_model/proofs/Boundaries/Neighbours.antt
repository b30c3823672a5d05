-- Cases of two designs of neighbours (02, E14) and of the wider view: lists of all calls on a design with parameters, and on one in which a state out of sight has another body.
use Prim.Native.Nat.{ℕ}
use native.Mathlib.Omega.{arith}
use mathlib.Core.Path.{◌≡◌, refl}
use mathlib.Core.List.{List, [], ◌∷◌, map}
use lib.Pow.{pow_pos}
use lib.ListN.{replicate}
use Rattle.model.specs.Image.{register_at, design_of}
use Rattle.model.specs.Neighbours.{unnumbered_expr, unnumbered, is_excepted, common_body, common}
use Rattle.model.specs.Parties.{RanState, Seen, RightLengths}
use Rattle.model.proofs.Opened.{everything, accepted, judged, lent_bound}
use Rattle.model.proofs.Designs.{assemble, diamond, one_of_each, state_record, state_with, assigns, sequences, falls, goes_to, goes_with, constant}
use Rattle.lists_model.specs.Lists.{Call, writes, runs, runs_journalled, goes_back, replays, Use, views, wider_views, seen_at_end}
use Rattle.lists_model.specs.Demands.{IndependentNeighbours, IndependentWidely}
use Rattle.lists_model.proofs.Opened.{listing}
use Rattle.journal_model.proofs.Opened.{journal_of, spare}
use Rattle.replay_model.proofs.Opened.{reading}

unfoldable neighbouring : ℕ
unfolding listing unnumbered_expr unnumbered is_excepted common_body common
neighbouring = 0

-- State 1 goes to state 2 with r1; state 2 has p from 0 to 3 and falls to state 3, which goes to state 4 with r2; state 4, inside state 2 too, has q from 0 to 3 and its label, and
-- goes to itself with q. State 5 of label 3: r3 := v; goto 5.
abbrev nested_with : ℕ → List ℕ
nested_with v =
    assemble
    diamond
    one_of_each
    (state_record 0 0 0 ∷ state_record 0 0 1 ∷ state_with 0 0 2 1 0 3 0 0 ∷ state_record 2 0 3 ∷ state_with 2 17 4 1 0 3 0 0 ∷ state_record 0 3 7 ∷ [])
    (falls ∷ goes_with 2 1 ∷ falls ∷ goes_with 4 2 ∷ goes_with 4 65 ∷ assigns 3 0 ∷ goes_to 5 ∷ sequences 5 6 ∷ [])
    (constant v ∷ [])

abbrev mine : List ℕ
mine = nested_with 7

abbrev edited : List ℕ
edited = nested_with 8

shows_neighbours_accepted : map judged (mine ∷ edited ∷ []) ≡ replicate 2 (accepted 0)
shows_neighbours_accepted = unfold everything in refl

-- registers out of sight are given 0, and the journal is empty
abbrev use_of : (image : List ℕ) → RightLengths (design_of image) (lent_bound (replicate 16 9) (replicate 6 9) (replicate 12 9)) → List Call → Use (design_of image)
use_of image lengths list =
    record {
      begins =
          record {
            lent = lent_bound (replicate 16 9) (replicate 6 9) (replicate 12 9);
            lengths = lengths;
            given = λ r. 0;
            within = λ r l. pow_pos (register_at (design_of image) r).width;
          };
      journal = journal_of 0 (spare 120 ∷ []);
      empty = unfold everything in refl;
      calls = list;
    }

abbrev of_mine : List Call → Use (design_of mine)
of_mine = use_of mine (record { registers = unfold everything in refl; targets = unfold everything in refl })

abbrev of_edited : List Call → Use (design_of edited)
of_edited = use_of edited (record { registers = unfold everything in refl; targets = unfold everything in refl })

-- ---- the wider view: a cycle of a run, a journalled one, and one of a replay
abbrev a_list : List Call
a_list = runs 1 ∷ runs_journalled 1 ∷ replays [] 1 ∷ goes_back 1 ∷ []

abbrev ran : ℕ → List ℕ → RanState
ran s bound = record { state = s; bound = bound }

abbrev walks_of : List Seen → List (List RanState)
walks_of = map (λ (seen : Seen). seen.walk)

-- the registers bound to all parameters in scope, those around the state first
shows_wider_views
    : walks_of (wider_views mine 2 (of_mine a_list))
    ≡ (ran 0 [] ∷ ran 1 [] ∷ []) ∷ (ran 0 [] ∷ ran 2 (1 ∷ []) ∷ ran 3 (1 ∷ []) ∷ []) ∷ (ran 0 [] ∷ ran 2 (1 ∷ []) ∷ ran 4 (1 ∷ 2 ∷ []) ∷ []) ∷ []
shows_wider_views = unfold listing in refl

-- and no more states: at label 1 state 4, which has the label of r2, is not seen
shows_wider_of_seen_only
    : walks_of (wider_views mine 1 (of_mine a_list))
    ≡ (ran 0 [] ∷ ran 1 [] ∷ []) ∷ (ran 0 [] ∷ ran 2 (1 ∷ []) ∷ ran 3 (1 ∷ []) ∷ []) ∷ (ran 0 [] ∷ ran 2 (1 ∷ []) ∷ []) ∷ []
shows_wider_of_seen_only = unfold listing in refl

-- in the view that 02 asks for, own ones only
shows_own_views
    : walks_of (views mine 2 (of_mine a_list))
    ≡ (ran 0 [] ∷ ran 1 [] ∷ []) ∷ (ran 0 [] ∷ ran 2 (1 ∷ []) ∷ ran 3 [] ∷ []) ∷ (ran 0 [] ∷ ran 2 (1 ∷ []) ∷ ran 4 (2 ∷ []) ∷ []) ∷ []
shows_own_views = unfold listing in refl

-- ---- demand 3 across two designs: each list on its own image, with other refused calls
abbrev other_list : List Call
other_list = goes_back 1 ∷ replays [] 1 ∷ writes 0 5 ∷ runs_journalled 1 ∷ runs 1 ∷ replays (reading 0 0 5 ∷ []) 1 ∷ goes_back 1 ∷ []

shows_claim_across
    : IndependentNeighbours
    → (views mine 2 (of_mine a_list) ≡ views edited 2 (of_edited other_list)) × (seen_at_end mine 2 (of_mine a_list) ≡ seen_at_end edited 2 (of_edited other_list))
shows_claim_across claim =
    claim
    mine
    edited
    (unfold everything in refl)
    (unfold everything in refl)
    2
    (unfold everything in omega arith)
    (unfold neighbouring in refl)
    (of_mine a_list)
    (of_edited other_list)
    (unfold listing in refl)

shows_claim_widely : IndependentWidely → wider_views mine 2 (of_mine a_list) ≡ wider_views edited 2 (of_edited other_list)
shows_claim_widely claim =
    claim
    mine
    edited
    (unfold everything in refl)
    (unfold everything in refl)
    2
    (unfold everything in omega arith)
    (unfold neighbouring in refl)
    (of_mine a_list)
    (of_edited other_list)
    (unfold listing in refl)

-- at the highest level, where every body is in common
shows_claim_highest
    : IndependentNeighbours → (views mine 3 (of_mine []) ≡ views mine 3 (of_mine [])) × (seen_at_end mine 3 (of_mine []) ≡ seen_at_end mine 3 (of_mine []))
shows_claim_highest claim =
    claim
    mine
    mine
    (unfold everything in refl)
    (unfold everything in refl)
    3
    (unfold everything in omega arith)
    (unfold neighbouring in refl)
    (of_mine [])
    (of_mine [])
    (unfold listing in refl)

shows_claim_widely_highest : IndependentWidely → wider_views mine 3 (of_mine []) ≡ wider_views mine 3 (of_mine [])
shows_claim_widely_highest claim =
    claim
    mine
    mine
    (unfold everything in refl)
    (unfold everything in refl)
    3
    (unfold everything in omega arith)
    (unfold neighbouring in refl)
    (of_mine [])
    (of_mine [])
    (unfold listing in refl)
