-- Cases at the boundaries of 02's E8, what a party sees of states with parameters: by the label at run time, and with the numbers of the registers bound.
use Prim.Native.Nat.{ℕ, zero, suc, ◌<◌, ◌^◌}
use native.Mathlib.Omega.{arith}
use mathlib.Core.Path.{◌≡◌, refl}
use mathlib.Core.List.{List, [], ◌∷◌, map}
use lib.ListN.{length, replicate}
use Rattle.model.specs.Image.{register_at, design_of}
use Rattle.model.specs.Parties.{RanState, Seen, Call, Event, Use, IndependentWidely, resets, runs, writes, events, view, wider_view, remaining, given_unseen, with_unseen, start, history, remains, wider_views}
use Rattle.model.proofs.Opened.{sights, checks, everything, accepted, judged, lent_bound}
use Rattle.model.proofs.Designs.{assemble, chain, diamond, one_of_each, low_and_high, state_record, state_with, assigns, sequences, falls, goes_to, goes_with, goes_with_both, constant}

abbrev ran : ℕ → List ℕ → RanState
ran s bound = record { state = s; bound = bound }

-- the walks that the party at a level sees of n cycles from reset, and those that the wider view has
abbrev from_reset : List ℕ → ℕ → ℕ → ℕ → List Event
from_reset image registers states n = events image (lent_bound (replicate registers 9) (replicate states 9) []) (resets ∷ runs n ∷ [])

abbrev walks_of : List Seen → List (List RanState)
walks_of = map (λ (seen : Seen). seen.walk)

abbrev walks_seen : List ℕ → ℕ → ℕ → ℕ → ℕ → List (List RanState)
walks_seen image registers states level n = walks_of (view (design_of image) level (from_reset image registers states n))

abbrev wider_walks_seen : List ℕ → ℕ → ℕ → ℕ → ℕ → List (List RanState)
wider_walks_seen image registers states level n = walks_of (wider_view (design_of image) level (from_reset image registers states n))

-- r0 has label 0 and r1 label 1. State 1 goes to state 2 with r0; state 2 has p from 0 to 1 and its label, and goes to itself with r1.
abbrev rising : List ℕ
rising =
    assemble chain low_and_high (state_record 0 0 0 ∷ state_record 0 0 1 ∷ state_with 0 16 2 1 0 1 0 0 ∷ []) (falls ∷ goes_with 2 0 ∷ goes_with 2 1 ∷ []) []

shows_rising_accepted : judged rising ≡ accepted 0
shows_rising_accepted = unfold checks in refl

-- "A state that ran is seen by the label its binding gave it then": in cycle 2 by r0, though the cycle binds r1, and in cycle 3 by r1
shows_seen_by_label_then
    : walks_seen rising 8 9 0 3 ≡ (ran 0 [] ∷ ran 1 [] ∷ []) ∷ (ran 0 [] ∷ ran 2 (0 ∷ []) ∷ []) ∷ (ran 0 [] ∷ []) ∷ []
shows_seen_by_label_then = unfold sights in refl

-- "the numbers (not the contents) of the registers that were bound to it as it ran": in cycle 2 r0, in cycle 3 r1
shows_bound_as_it_ran
    : walks_seen rising 8 9 1 3 ≡ (ran 0 [] ∷ ran 1 [] ∷ []) ∷ (ran 0 [] ∷ ran 2 (0 ∷ []) ∷ []) ∷ (ran 0 [] ∷ ran 2 (1 ∷ []) ∷ []) ∷ []
shows_bound_as_it_ran = unfold sights in refl

-- State 2 has this label byte and two parameters, from 0 to 3: r3 := 7; fall; the default child 3 has this label byte and goes to itself. State 1 goes to 2 with a and b.
abbrev two_bound : ℕ → ℕ → ℕ → ℕ → List ℕ
two_bound two three a b =
    assemble
    diamond
    one_of_each
    (state_record 0 0 0 ∷ state_record 0 0 1 ∷ state_with 0 two 4 2 0 3 0 3 ∷ state_record 2 three 5 ∷ [])
    (falls ∷ goes_with_both 2 a b ∷ assigns 3 0 ∷ falls ∷ sequences 2 3 ∷ goes_to 3 ∷ [])
    (constant 7 ∷ [])

-- what the party at a level sees of the second cycle
abbrev second_seen : List ℕ → ℕ → List Seen
second_seen image level =
    view (design_of image) level (events image (lent_bound (replicate 16 0) (2 ∷ 1 ∷ 3 ∷ 3 ∷ []) (0 ∷ 0 ∷ 0 ∷ 0 ∷ 1 ∷ 2 ∷ 0 ∷ 0 ∷ [])) (runs 1 ∷ []))

-- the first one first, and own ones only: the child has both in scope and none of its own; the values are those of the registers alone
shows_own_bound
    : second_seen (two_bound 0 3 1 2) 3 ∷ second_seen (two_bound 0 3 1 2) 0 ∷ second_seen (two_bound 16 16 1 2) 1 ∷ second_seen (two_bound 16 16 1 2) 2 ∷ second_seen (two_bound 17 17 1 2) 2 ∷ second_seen (two_bound 16 3 1 2) 1 ∷ []
    ≡ (record { values = 0 ∷ 0 ∷ 0 ∷ 7 ∷ []; walk = ran 0 [] ∷ ran 2 (1 ∷ 2 ∷ []) ∷ ran 3 [] ∷ [] } ∷ [])
    ∷ (record { values = 0 ∷ []; walk = ran 0 [] ∷ ran 2 (1 ∷ 2 ∷ []) ∷ [] } ∷ [])
    ∷ (record { values = 0 ∷ 0 ∷ []; walk = ran 0 [] ∷ ran 2 (1 ∷ 2 ∷ []) ∷ ran 3 [] ∷ [] } ∷ [])
    ∷ (record { values = 0 ∷ 0 ∷ []; walk = ran 0 [] ∷ [] } ∷ [])
    ∷ (record { values = 0 ∷ 0 ∷ []; walk = ran 0 [] ∷ ran 2 (1 ∷ 2 ∷ []) ∷ ran 3 [] ∷ [] } ∷ [])
    ∷ (record { values = 0 ∷ 0 ∷ []; walk = ran 0 [] ∷ ran 2 (1 ∷ 2 ∷ []) ∷ [] } ∷ [])
    ∷ []
shows_own_bound = unfold sights in refl

shows_two_bound_accepted : map judged (two_bound 0 3 1 2 ∷ two_bound 16 16 1 2 ∷ two_bound 17 17 1 2 ∷ two_bound 16 3 1 2 ∷ []) ≡ replicate 4 (accepted 0)
shows_two_bound_accepted = unfold checks in refl

-- ---- the wider view
-- State 1 goes to state 2 with r1; state 2 has p from 0 to 3 and falls to state 3, which goes to state 4 with r2; state 4, inside state 2 too, has q from 0 to 3 and
-- its label, and goes to itself with q.
abbrev nested : List ℕ
nested =
    assemble
    diamond
    one_of_each
    (state_record 0 0 0 ∷ state_record 0 0 1 ∷ state_with 0 0 2 1 0 3 0 0 ∷ state_record 2 0 3 ∷ state_with 2 17 4 1 0 3 0 0 ∷ [])
    (falls ∷ goes_with 2 1 ∷ falls ∷ goes_with 4 2 ∷ goes_with 4 65 ∷ [])
    []

shows_nested_accepted : judged nested ≡ accepted 0
shows_nested_accepted = unfold checks in refl

-- the registers bound to all parameters in scope, those around the state first: state 3 has none of its own, and state 4 has r1 around it and r2 of its own
shows_bound_around
    : wider_walks_seen nested 16 15 2 3
    ≡ (ran 0 [] ∷ ran 1 [] ∷ []) ∷ (ran 0 [] ∷ ran 2 (1 ∷ []) ∷ ran 3 (1 ∷ []) ∷ []) ∷ (ran 0 [] ∷ ran 2 (1 ∷ []) ∷ ran 4 (1 ∷ 2 ∷ []) ∷ []) ∷ []
shows_bound_around = unfold sights in refl

-- and in the view that 02 asks for its own ones only
shows_own_bound_inside
    : walks_seen nested 16 15 2 3
    ≡ (ran 0 [] ∷ ran 1 [] ∷ []) ∷ (ran 0 [] ∷ ran 2 (1 ∷ []) ∷ ran 3 [] ∷ []) ∷ (ran 0 [] ∷ ran 2 (1 ∷ []) ∷ ran 4 (2 ∷ []) ∷ []) ∷ []
shows_own_bound_inside = unfold sights in refl

-- the wider view has no more states: at label 1 state 4, which has the label of r2, is not seen; and what it shows of a cycle beside its walk is the same
shows_wider_of_seen_only
    : wider_view (design_of nested) 1 (from_reset nested 16 15 3)
    ≡ record { values = 0 ∷ 0 ∷ []; walk = ran 0 [] ∷ ran 1 [] ∷ [] }
    ∷ record { values = 0 ∷ 0 ∷ []; walk = ran 0 [] ∷ ran 2 (1 ∷ []) ∷ ran 3 (1 ∷ []) ∷ [] }
    ∷ record { values = 0 ∷ 0 ∷ []; walk = ran 0 [] ∷ ran 2 (1 ∷ []) ∷ [] }
    ∷ []
shows_wider_of_seen_only = unfold sights in refl

-- by the binding that it ran with: in cycle 2 r0, though the cycle binds r1, and in cycle 3 r1
shows_wider_as_it_ran
    : wider_walks_seen rising 8 9 0 3 ∷ wider_walks_seen rising 8 9 1 3 ∷ []
    ≡ ((ran 0 [] ∷ ran 1 [] ∷ []) ∷ (ran 0 [] ∷ ran 2 (0 ∷ []) ∷ []) ∷ (ran 0 [] ∷ []) ∷ [])
    ∷ ((ran 0 [] ∷ ran 1 [] ∷ []) ∷ (ran 0 [] ∷ ran 2 (0 ∷ []) ∷ []) ∷ (ran 0 [] ∷ ran 2 (1 ∷ []) ∷ []) ∷ [])
    ∷ []
shows_wider_as_it_ran = unfold sights in refl

-- Demand 3 of the wider view: of two lists of this design, with other values given and another refused call.
nested_within : (given : ℕ) → given < 2 ^ 32 → (r : ℕ) → r < length (design_of nested).registers → given < 2 ^ (register_at (design_of nested) r).width
unfolding checks
nested_within given h zero l = h
nested_within given h (suc zero) l = h
nested_within given h (suc (suc zero)) l = h
nested_within given h (suc (suc (suc zero))) l = h
nested_within given h (suc (suc (suc (suc r)))) l = absurd (omega arith)

abbrev nested_use : (given : ℕ) → given < 2 ^ 32 → List Call → Use (design_of nested)
nested_use given h calls =
    record {
      begins =
          record {
            lent = lent_bound (replicate 16 9) (replicate 5 9) (replicate 10 9);
            lengths = record { registers = unfold everything in refl; targets = unfold everything in refl };
            given = λ r. given;
            within = nested_within given h;
          };
      calls = calls;
    }

abbrev one_use : Use (design_of nested)
one_use = nested_use 7 (omega arith) (runs 3 ∷ [])

abbrev other_use : Use (design_of nested)
other_use = nested_use 8 (omega arith) (runs 1 ∷ writes 0 5 ∷ runs 2 ∷ [])

unfoldable whole : ℕ
unfolding sights given_unseen remaining with_unseen start history remains wider_views
whole = 0

shows_wider_claim : IndependentWidely → wider_views nested 2 one_use ≡ wider_views nested 2 other_use
shows_wider_claim claim = claim nested (unfold everything in refl) 2 (unfold everything in omega arith) one_use other_use (unfold whole in refl)

-- which is, of the second list, the wider view of its three cycles
shows_wider_views
    : walks_of (wider_views nested 2 other_use)
    ≡ (ran 0 [] ∷ ran 1 [] ∷ []) ∷ (ran 0 [] ∷ ran 2 (1 ∷ []) ∷ ran 3 (1 ∷ []) ∷ []) ∷ (ran 0 [] ∷ ran 2 (1 ∷ []) ∷ ran 4 (1 ∷ 2 ∷ []) ∷ []) ∷ []
shows_wider_views = unfold whole in refl
