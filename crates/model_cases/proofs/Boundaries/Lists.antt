-- Cases at the boundaries of 01's section 'What a party sees': lists of calls, what remains of them, and the views.
use Prim.Native.Nat.{ℕ, zero, suc, ◌+◌, ◌<◌, ◌^◌}
use native.Mathlib.Omega.{arith}
use mathlib.Core.Path.{◌≡◌, refl, ap}
use mathlib.Core.Bool.{false≢true}
use mathlib.Core.List.{List, [], ◌∷◌, ◌++◌, map}
use lib.Dec.{eqb}
use lib.ListN.{length, replicate}
use Rattle.model.specs.Image.{register_at, design_of}
use Rattle.model.specs.Values.{bytes_of}
use Rattle.model.specs.Parties.{Call, Seen, RightLengths, Use, Independent, resets, runs, writes, a_reset, a_write, a_cycle, events, at_end, given_unseen, values_seen, walk_seen, view, remaining, with_unseen, start, history, remains, views, seen_at_end, journalled, stepped_back, cycled, was_reset, a_journalled_cycle, a_step_back, cycles_of}
use Rattle.model.proofs.Opened.{checks, everything, lent, lent_bound, any_lent, reset_lent, short_lent, long_targets}
use Rattle.model.proofs.Designs.{lease, assemble, register_record, state_record, assigns, sequences, falls, goes_to, branches, constant, reads, adds}
use Rattle.model.specs.Machine.{Cycle}

-- both registers of the lease design have width 32
lease_within : (given : ℕ → ℕ) → ((r : ℕ) → given r < 2 ^ 32) → (r : ℕ) → r < length (design_of lease).registers → given r < 2 ^ (register_at (design_of lease) r).width
unfolding checks
lease_within given h zero l = h 0
lease_within given h (suc zero) l = h 1
lease_within given h (suc (suc r)) l = absurd (omega arith)

-- two cycles of the lease design, a write to its port, one to its inner register, which is refused, and a third cycle
abbrev a_use : Use (design_of lease)
a_use = record { begins = record { lent = any_lent; lengths = record { registers = unfold everything in refl; targets = unfold everything in refl }; given = λ r. 7; within = lease_within (λ r. 7) (λ r. omega arith) }; calls = runs 2 ∷ writes 1 5 ∷ writes 0 5 ∷ runs 1 ∷ [] }

-- the values, and the states of the walk; none of these designs has a parameter
abbrev seen : List ℕ → List ℕ → Seen
seen values walk = record { values = values; walk = map (λ s. record { state = s; bound = [] }) walk }

unfoldable whole : ℕ
unfolding everything given_unseen values_seen walk_seen view remaining with_unseen start history remains views seen_at_end
whole = 0

-- "the values of all registers at or below the level after it, and its walk without the states not at or below the level": r1, 3 and 4 have label 1
shows_views_0 : views lease 0 a_use ≡ seen (3 ∷ []) (0 ∷ 1 ∷ []) ∷ seen (2 ∷ []) (0 ∷ 2 ∷ []) ∷ seen (1 ∷ []) (0 ∷ 2 ∷ []) ∷ []
shows_views_0 = unfold whole in refl

shows_views_1 : views lease 1 a_use ≡ seen (3 ∷ 0 ∷ []) (0 ∷ 1 ∷ []) ∷ seen (2 ∷ 0 ∷ []) (0 ∷ 2 ∷ 3 ∷ []) ∷ seen (1 ∷ 5 ∷ []) (0 ∷ 2 ∷ 3 ∷ []) ∷ []
shows_views_1 = unfold whole in refl

-- "with refused calls and port writes to registers not at or below the level struck out"
shows_remains_0 : remains lease 0 a_use ≡ a_cycle ∷ a_cycle ∷ a_cycle ∷ []
shows_remains_0 = unfold whole in refl

shows_remains_1 : remains lease 1 a_use ≡ a_cycle ∷ a_cycle ∷ a_write 1 5 ∷ a_cycle ∷ []
shows_remains_1 = unfold whole in refl

-- 02, E9: a journalled cycle remains apart from a cycle and shows what it shows; a step back remains, at every level, and shows nothing
shows_journalled_remain
    : (c : Cycle) → remaining (design_of lease) 0 (journalled c ∷ stepped_back ∷ cycled c ∷ stepped_back ∷ []) ≡ a_journalled_cycle ∷ a_step_back ∷ a_cycle ∷ a_step_back ∷ []
shows_journalled_remain c = unfold whole in refl

shows_journalled_seen : (c other : Cycle) → cycles_of (journalled c ∷ stepped_back ∷ was_reset ∷ cycled other ∷ journalled other ∷ []) ≡ c ∷ other ∷ other ∷ []
shows_journalled_seen c other = unfold whole in refl

-- "equal registers at or below the level at their end"
shows_end : seen_at_end lease 0 a_use ∷ seen_at_end lease 1 a_use ∷ [] ≡ (1 ∷ []) ∷ (1 ∷ 5 ∷ []) ∷ []
shows_end = unfold whole in refl

-- "the empty one included": an empty list has no view and leaves what its start left
abbrev no_calls : Use (design_of lease)
no_calls = record { begins = record { lent = any_lent; lengths = record { registers = unfold everything in refl; targets = unfold everything in refl }; given = λ r. 7; within = lease_within (λ r. 7) (λ r. omega arith) }; calls = [] }

shows_empty_views : views lease 1 no_calls ≡ []
shows_empty_views = unfold whole in refl

shows_empty_remains : remains lease 1 no_calls ≡ []
shows_empty_remains = unfold whole in refl

shows_empty_end : seen_at_end lease 1 no_calls ≡ 3 ∷ 0 ∷ []
shows_empty_end = unfold whole in refl

-- Four labels of which 1 and 2 cannot be compared, a port of each, and the inner registers r4 of label 1 and r5 of label 3. State 1: if r0 then goto 2 else
-- goto 3. State 2 of label 1: r4 := r4 + 1; goto 2. State 3 of label 2 falls to 4 of label 3: r5 := r2; goto 4.
abbrev diamond : List ℕ
diamond =
    assemble
    (15 ∷ 10 ∷ 12 ∷ 8 ∷ [])
    (register_record 0 1 0
    ∷ register_record 1 1 11
    ∷ register_record 2 1 20
    ∷ register_record 3 1 13
    ∷ register_record 1 0 41
    ∷ register_record 3 0 53
    ∷ [])
    (state_record 0 0 0 ∷ state_record 0 0 3 ∷ state_record 0 1 6 ∷ state_record 0 2 7 ∷ state_record 3 3 10 ∷ [])
    (falls
    ∷ goes_to 2
    ∷ goes_to 3
    ∷ branches 0 1 2
    ∷ assigns 4 3
    ∷ goes_to 2
    ∷ sequences 4 5
    ∷ falls
    ∷ assigns 5 4
    ∷ goes_to 4
    ∷ sequences 8 9
    ∷ [])
    (reads 0 ∷ reads 4 ∷ constant 1 ∷ adds 1 2 ∷ reads 2 ∷ [])

diamond_within : (r : ℕ) → r < length (design_of diamond).registers → 100 + r < 2 ^ (register_at (design_of diamond) r).width
unfolding checks
diamond_within zero l = omega arith
diamond_within (suc zero) l = omega arith
diamond_within (suc (suc zero)) l = omega arith
diamond_within (suc (suc (suc zero))) l = omega arith
diamond_within (suc (suc (suc (suc zero)))) l = omega arith
diamond_within (suc (suc (suc (suc (suc zero))))) l = omega arith
diamond_within (suc (suc (suc (suc (suc (suc r)))))) l = absurd (omega arith)

-- two cycles by the states 3 and 4, two writes, a reset, two more writes, two cycles by state 2, and a run of 0; register r is given 100 + r
abbrev both_ways : Use (design_of diamond)
both_ways =
    record {
      begins =
          record {
            lent = lent_bound (replicate 24 9) (replicate 5 9) (replicate 10 9);
            lengths = record { registers = unfold everything in refl; targets = unfold everything in refl };
            given = λ r. 100 + r;
            within = diamond_within;
          };
      calls = runs 2 ∷ writes 1 21 ∷ writes 2 22 ∷ resets ∷ writes 0 5 ∷ writes 3 33 ∷ runs 2 ∷ runs 0 ∷ [];
    }

-- "Each starts with a reset; then the registers not at or below the level are given any values": at level 1 those of labels 2 and 3, at level 2 of 1 and 3
shows_start
    : map (λ level. start diamond level both_ways.begins) (0 ∷ 1 ∷ 2 ∷ 3 ∷ [])
    ≡ lent (bytes_of (0 ∷ 101 ∷ 102 ∷ 103 ∷ 104 ∷ 105 ∷ [])) (1 ∷ 1 ∷ 2 ∷ 4 ∷ 4 ∷ [])
    ∷ lent (bytes_of (0 ∷ 11 ∷ 102 ∷ 103 ∷ 41 ∷ 105 ∷ [])) (1 ∷ 1 ∷ 2 ∷ 4 ∷ 4 ∷ [])
    ∷ lent (bytes_of (0 ∷ 101 ∷ 20 ∷ 103 ∷ 104 ∷ 105 ∷ [])) (1 ∷ 1 ∷ 2 ∷ 4 ∷ 4 ∷ [])
    ∷ lent (bytes_of (0 ∷ 11 ∷ 20 ∷ 13 ∷ 41 ∷ 53 ∷ [])) (1 ∷ 1 ∷ 2 ∷ 4 ∷ 4 ∷ [])
    ∷ []
shows_start = unfold whole in refl

-- "for each cycle in order, the values of all registers at or below the level after it, and its walk without the states not at or below the level"
shows_views_left
    : views diamond 1 both_ways
    ≡ seen (0 ∷ 11 ∷ 41 ∷ []) (0 ∷ 1 ∷ [])
    ∷ seen (0 ∷ 11 ∷ 41 ∷ []) (0 ∷ [])
    ∷ seen (5 ∷ 11 ∷ 41 ∷ []) (0 ∷ 1 ∷ [])
    ∷ seen (5 ∷ 11 ∷ 42 ∷ []) (0 ∷ 2 ∷ [])
    ∷ []
shows_views_left = unfold whole in refl

shows_views_right
    : views diamond 2 both_ways
    ≡ seen (0 ∷ 20 ∷ []) (0 ∷ 1 ∷ []) ∷ seen (0 ∷ 20 ∷ []) (0 ∷ 3 ∷ []) ∷ seen (5 ∷ 20 ∷ []) (0 ∷ 1 ∷ []) ∷ seen (5 ∷ 20 ∷ []) (0 ∷ []) ∷ []
shows_views_right = unfold whole in refl

shows_views_top
    : views diamond 3 both_ways
    ≡ seen (0 ∷ 11 ∷ 20 ∷ 13 ∷ 41 ∷ 53 ∷ []) (0 ∷ 1 ∷ [])
    ∷ seen (0 ∷ 11 ∷ 20 ∷ 13 ∷ 41 ∷ 20 ∷ []) (0 ∷ 3 ∷ 4 ∷ [])
    ∷ seen (5 ∷ 11 ∷ 20 ∷ 33 ∷ 41 ∷ 53 ∷ []) (0 ∷ 1 ∷ [])
    ∷ seen (5 ∷ 11 ∷ 20 ∷ 33 ∷ 42 ∷ 53 ∷ []) (0 ∷ 2 ∷ [])
    ∷ []
shows_views_top = unfold whole in refl

-- "with refused calls and port writes to registers not at or below the level struck out, the same resets, port writes (register and value) and cycles
-- remain in the same order"
shows_remains
    : map (λ level. remains diamond level both_ways) (1 ∷ 2 ∷ 3 ∷ [])
    ≡ (a_cycle ∷ a_cycle ∷ a_write 1 21 ∷ a_reset ∷ a_write 0 5 ∷ a_cycle ∷ a_cycle ∷ [])
    ∷ (a_cycle ∷ a_cycle ∷ a_write 2 22 ∷ a_reset ∷ a_write 0 5 ∷ a_cycle ∷ a_cycle ∷ [])
    ∷ (a_cycle ∷ a_cycle ∷ a_write 1 21 ∷ a_write 2 22 ∷ a_reset ∷ a_write 0 5 ∷ a_write 3 33 ∷ a_cycle ∷ a_cycle ∷ [])
    ∷ []
shows_remains = unfold whole in refl

-- "equal registers at or below the level at their end"
shows_ends : map (λ level. seen_at_end diamond level both_ways) (1 ∷ 2 ∷ []) ≡ (5 ∷ 11 ∷ 42 ∷ []) ∷ (5 ∷ 20 ∷ []) ∷ []
shows_ends = unfold whole in refl

-- "at their end": behind the last call, be it a port write or a reset
abbrev ends_by : Call → Use (design_of lease)
ends_by call =
    record {
      begins =
          record {
            lent = any_lent;
            lengths = record { registers = unfold everything in refl; targets = unfold everything in refl };
            given = λ r. 7;
            within = lease_within (λ r. 7) (λ r. omega arith);
          };
      calls = runs 2 ∷ call ∷ [];
    }

shows_end_of_last_call
    : map (λ call. seen_at_end lease 1 (ends_by call)) (writes 1 5 ∷ resets ∷ runs 1 ∷ []) ≡ (2 ∷ 5 ∷ []) ∷ (3 ∷ 0 ∷ []) ∷ (1 ∷ 0 ∷ []) ∷ []
shows_end_of_last_call = unfold whole in refl

-- "with refused calls .. struck out": a reset, a port write and a run with an area of the wrong length, and a write to an inner register
shows_refused_events
    : events lease short_lent (resets ∷ writes 1 5 ∷ runs 2 ∷ []) ++ events lease any_lent (writes 0 5 ∷ writes 2 5 ∷ runs 2 ∷ []) ≡ []
shows_refused_events = unfold whole in refl

-- "the areas after the last are what the call leaves", and what the next call finds: two runs of 2 are a run of 4
shows_runs_in_order : at_end lease any_lent (resets ∷ runs 2 ∷ runs 2 ∷ []) ≡ lent (replicate 8 0) (1 ∷ 1 ∷ 3 ∷ 3 ∷ 4 ∷ [])
shows_runs_in_order = unfold whole in refl

-- "each has its own two areas of the right lengths": none shorter or longer
shows_right_registers : RightLengths (design_of lease) short_lent → ⊥
shows_right_registers right = unfold everything in false≢true (ap (eqb 8) right.registers)

shows_right_targets : RightLengths (design_of lease) long_targets → ⊥
shows_right_targets right = unfold everything in false≢true (ap (eqb 15) right.targets)

-- Demand 3 is about any level, any areas, any values given, and lists that differ in what is struck out: here two such lists at the level of r1.
abbrev other_use : Use (design_of lease)
other_use =
    record {
      begins =
          record {
            lent = reset_lent;
            lengths = record { registers = unfold everything in refl; targets = unfold everything in refl };
            given = λ r. 8;
            within = lease_within (λ r. 8) (λ r. omega arith);
          };
      calls = runs 1 ∷ runs 1 ∷ writes 2 6 ∷ writes 1 5 ∷ runs 1 ∷ [];
    }

shows_claim_1
    : Independent → (views lease 1 a_use ≡ views lease 1 other_use) × (seen_at_end lease 1 a_use ≡ seen_at_end lease 1 other_use)
shows_claim_1 claim = claim lease (unfold everything in refl) 1 (unfold everything in omega arith) a_use other_use (unfold whole in refl)

-- at the lowest level, of empty lists
shows_claim_0
    : Independent → (views lease 0 no_calls ≡ views lease 0 no_calls) × (seen_at_end lease 0 no_calls ≡ seen_at_end lease 0 no_calls)
shows_claim_0 claim = claim lease (unfold everything in refl) 0 (unfold everything in omega arith) no_calls no_calls refl
