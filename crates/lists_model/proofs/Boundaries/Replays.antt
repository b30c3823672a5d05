-- Cases at the boundaries of what a party sees of a replay: what the view has of the cycles, and that the count tells more. Which records are in sight is shown in `replay_model`.
use Prim.Native.Nat.{ℕ}
use native.Mathlib.Omega.{arith}
use mathlib.Core.Path.{◌≡◌, refl}
use mathlib.Core.List.{List, [], ◌∷◌, map}
use lib.Pow.{pow_pos}
use lib.ListN.{replicate}
use Rattle.model.specs.Image.{design_of, register_at}
use Rattle.model.specs.Answers.{Numbers, numbers_of}
use Rattle.model.specs.Parties.{Remaining, a_write, a_cycle, a_journalled_cycle, a_step_back}
use Rattle.model.proofs.Opened.{everything, accepted, refused, lent, any_lent}
use Rattle.model.proofs.Designs.{lease}
use Rattle.replay_model.specs.declared.TraceRecord.{TraceRecord}
use Rattle.replay_model.specs.Calls.{replay}
use Rattle.replay_model.specs.ByHand.{trace_seen}
use Rattle.lists_model.specs.Lists.{Call, resets, writes, runs, runs_journalled, goes_back, replays, Use, begun, remains, views, seen_at_end}
use Rattle.lists_model.specs.Demands.{IndependentJournals, IndependentReplays, IndependentReplayNeighbours}
use Rattle.lists_model.specs.Rules.{call_count}
use Rattle.lists_model.proofs.Opened.{listing, seen}
use Rattle.journal_model.proofs.Opened.{journal_of, spare}
use Rattle.replay_model.proofs.Opened.{reading, meters, meter_areas, month}

-- ---- one replay
-- registers out of sight are given 0; r4 is reset to 50; the journal is empty
abbrev meter_use : List Call → Use (design_of meters)
meter_use list =
    record {
      begins =
          record {
            lent = lent (replicate 20 9) (9 ∷ 9 ∷ []);
            lengths = record { registers = unfold everything in refl; targets = unfold everything in refl };
            given = λ r. 0;
            within = λ r l. pow_pos (register_at (design_of meters) r).width;
          };
      journal = journal_of 0 (spare 120 ∷ []);
      empty = unfold everything in refl;
      calls = list;
    }

-- "Replayed from reset": with the values given to the registers out of sight, and to no others
shows_replay_start : map (λ (level : ℕ). (begun meters level (meter_use [])).areas) (0 ∷ 1 ∷ []) ≡ meter_areas 0 0 4 0 0 ∷ meter_areas 0 0 4 0 50 ∷ []
shows_replay_start = unfold listing in refl

-- "views": of each cycle the values in sight after it, and the states in sight that ran
shows_views_0
    : views meters 0 (meter_use (replays month 4 ∷ []))
    ≡ seen (5 ∷ 0 ∷ 5 ∷ []) (0 ∷ 1 ∷ [])
    ∷ seen (5 ∷ 5 ∷ 5 ∷ []) (0 ∷ 1 ∷ [])
    ∷ seen (6 ∷ 5 ∷ 6 ∷ []) (0 ∷ 1 ∷ [])
    ∷ seen (7 ∷ 6 ∷ 7 ∷ []) (0 ∷ 1 ∷ [])
    ∷ []
shows_views_0 = unfold listing in refl

shows_views_1
    : views meters 1 (meter_use (replays month 4 ∷ []))
    ≡ seen (5 ∷ 0 ∷ 5 ∷ 0 ∷ 50 ∷ []) (0 ∷ 1 ∷ [])
    ∷ seen (5 ∷ 5 ∷ 5 ∷ 0 ∷ 50 ∷ []) (0 ∷ 1 ∷ [])
    ∷ seen (6 ∷ 5 ∷ 6 ∷ 100 ∷ 150 ∷ []) (0 ∷ 1 ∷ [])
    ∷ seen (7 ∷ 6 ∷ 7 ∷ 100 ∷ 250 ∷ []) (0 ∷ 1 ∷ [])
    ∷ []
shows_views_1 = unfold listing in refl

shows_end : map (λ (level : ℕ). seen_at_end meters level (meter_use (replays month 4 ∷ []))) (0 ∷ 1 ∷ []) ≡ (7 ∷ 6 ∷ 7 ∷ []) ∷ (7 ∷ 6 ∷ 7 ∷ 100 ∷ 250 ∷ []) ∷ []
shows_end = unfold listing in refl

-- of no cycle there is no view, and at the end stands what the start had
shows_view_of_none : views meters 0 (meter_use (replays [] 0 ∷ [])) ≡ []
shows_view_of_none = unfold listing in refl

shows_end_of_none : map (λ (level : ℕ). seen_at_end meters level (meter_use (replays [] 0 ∷ []))) (0 ∷ 1 ∷ []) ≡ (0 ∷ 0 ∷ 4 ∷ []) ∷ (0 ∷ 0 ∷ 4 ∷ 0 ∷ 50 ∷ []) ∷ []
shows_end_of_none = unfold listing in refl

-- states out of sight are left out of the walk: those of the lease's group, where the reading decides which of them runs
abbrev lease_use : List Call → Use (design_of lease)
lease_use list =
    record {
      begins =
          record {
            lent = any_lent;
            lengths = record { registers = unfold everything in refl; targets = unfold everything in refl };
            given = λ r. 0;
            within = λ r l. pow_pos (register_at (design_of lease) r).width;
          };
      journal = journal_of 0 (spare 120 ∷ []);
      empty = unfold everything in refl;
      calls = list;
    }

shows_walk_0
    : views lease 0 (lease_use (replays (reading 1 1 7 ∷ []) 3 ∷ [])) ≡ seen (3 ∷ []) (0 ∷ 1 ∷ []) ∷ seen (2 ∷ []) (0 ∷ 2 ∷ []) ∷ seen (1 ∷ []) (0 ∷ 2 ∷ []) ∷ []
shows_walk_0 = unfold listing in refl

shows_walk_1
    : views lease 1 (lease_use (replays (reading 1 1 7 ∷ []) 3 ∷ []))
    ≡ seen (3 ∷ 0 ∷ []) (0 ∷ 1 ∷ []) ∷ seen (2 ∷ 7 ∷ []) (0 ∷ 2 ∷ 3 ∷ []) ∷ seen (1 ∷ 7 ∷ []) (0 ∷ 2 ∷ 4 ∷ []) ∷ []
shows_walk_1 = unfold listing in refl

-- ---- "the count is not part of the view": two traces that level 0 cannot tell apart, of which one supersedes two records
abbrev quiet : List TraceRecord
quiet = reading 0 2 5 ∷ reading 2 2 6 ∷ []

abbrev busy : List TraceRecord
busy = reading 0 3 1 ∷ reading 0 2 5 ∷ reading 0 3 2 ∷ reading 1 3 3 ∷ reading 1 3 4 ∷ reading 2 2 6 ∷ []

abbrev count_of : ℕ → List TraceRecord → Numbers
count_of level trace = numbers_of (replay meters (begun meters level (meter_use [])).areas trace 3).answer

shows_alike : map (trace_seen (design_of meters) 0) (quiet ∷ busy ∷ []) ≡ quiet ∷ quiet ∷ []
shows_alike = unfold listing in refl

shows_count_tells : map (count_of 0) (quiet ∷ busy ∷ []) ≡ accepted 0 ∷ accepted 2 ∷ []
shows_count_tells = unfold listing in refl

shows_view_does_not
    : map (λ (trace : List TraceRecord). views meters 0 (meter_use (replays trace 3 ∷ []))) (quiet ∷ busy ∷ [])
    ≡ replicate 2 (seen (5 ∷ 0 ∷ 5 ∷ []) (0 ∷ 1 ∷ []) ∷ seen (5 ∷ 5 ∷ 5 ∷ []) (0 ∷ 1 ∷ []) ∷ seen (6 ∷ 5 ∷ 6 ∷ []) (0 ∷ 1 ∷ []) ∷ [])
shows_view_does_not = unfold listing in refl

shows_end_does_not : map (λ (trace : List TraceRecord). seen_at_end meters 0 (meter_use (replays trace 3 ∷ []))) (quiet ∷ busy ∷ []) ≡ replicate 2 (6 ∷ 5 ∷ 6 ∷ [])
shows_end_does_not = unfold listing in refl

-- level 1 can tell them apart
shows_unlike_at_1
    : map (λ (trace : List TraceRecord). seen_at_end meters 1 (meter_use (replays trace 3 ∷ []))) (quiet ∷ busy ∷ []) ≡ (6 ∷ 5 ∷ 6 ∷ 0 ∷ 50 ∷ []) ∷ (6 ∷ 5 ∷ 6 ∷ 4 ∷ 60 ∷ []) ∷ []
shows_unlike_at_1 = unfold listing in refl

-- what 02 promises is about these two: any accepted image, each level, any two such traces, the same n
shows_claim_0
    : IndependentReplays
    → (views meters 0 (meter_use (replays quiet 3 ∷ [])) ≡ views meters 0 (meter_use (replays busy 3 ∷ []))) × (seen_at_end meters 0 (meter_use (replays quiet 3 ∷ [])) ≡ seen_at_end meters 0 (meter_use (replays busy 3 ∷ [])))
shows_claim_0 claim =
    claim
    meters
    (unfold everything in refl)
    0
    (unfold everything in omega arith)
    (meter_use (replays quiet 3 ∷ []))
    (meter_use (replays busy 3 ∷ []))
    quiet
    busy
    3
    (record { alone = refl; accepted = unfold listing in refl })
    (record { alone = refl; accepted = unfold listing in refl })
    (unfold listing in refl)

-- and about two designs that have the same in common, of which one may be the other
shows_claim_across
    : IndependentReplayNeighbours
    → (views meters 0 (meter_use (replays quiet 3 ∷ [])) ≡ views meters 0 (meter_use (replays busy 3 ∷ [])))
    × (seen_at_end meters 0 (meter_use (replays quiet 3 ∷ [])) ≡ seen_at_end meters 0 (meter_use (replays busy 3 ∷ [])))
shows_claim_across claim =
    claim
    meters
    meters
    (unfold everything in refl)
    (unfold everything in refl)
    0
    (unfold everything in omega arith)
    refl
    (meter_use (replays quiet 3 ∷ []))
    (meter_use (replays busy 3 ∷ []))
    quiet
    busy
    3
    (record { alone = refl; accepted = unfold listing in refl })
    (record { alone = refl; accepted = unfold listing in refl })
    (unfold listing in refl)

-- at the highest level, of no record and no cycle
shows_claim_1
    : IndependentReplays → (views meters 1 (meter_use (replays [] 0 ∷ [])) ≡ views meters 1 (meter_use (replays [] 0 ∷ []))) × (seen_at_end meters 1 (meter_use (replays [] 0 ∷ [])) ≡ seen_at_end meters 1 (meter_use (replays [] 0 ∷ [])))
shows_claim_1 claim =
    claim
    meters
    (unfold everything in refl)
    1
    (unfold everything in omega arith)
    (meter_use (replays [] 0 ∷ []))
    (meter_use (replays [] 0 ∷ []))
    []
    []
    0
    (record { alone = refl; accepted = unfold listing in refl })
    (record { alone = refl; accepted = unfold listing in refl })
    refl

-- ---- why each condition is there
-- "where neither is refused": records out of sight, of which the last falls, and level 0 sees it by what did not run
abbrev refused_one : List TraceRecord
refused_one = reading 0 2 5 ∷ reading 1 3 1 ∷ reading 0 3 2 ∷ reading 2 2 6 ∷ []

shows_refused_alike : trace_seen (design_of meters) 0 refused_one ∷ [] ≡ quiet ∷ []
shows_refused_alike = unfold listing in refl

shows_refused_numbers : map (count_of 0) (quiet ∷ refused_one ∷ []) ≡ accepted 0 ∷ refused 23 2 ∷ []
shows_refused_numbers = unfold listing in refl

shows_refusal_tells
    : map (λ (trace : List TraceRecord). seen_at_end meters 0 (meter_use (replays trace 3 ∷ []))) (quiet ∷ refused_one ∷ []) ≡ (6 ∷ 5 ∷ 6 ∷ []) ∷ (0 ∷ 0 ∷ 4 ∷ []) ∷ []
shows_refusal_tells = unfold listing in refl

-- "for the same n"
shows_same_n_needed : map (λ (n : ℕ). seen_at_end meters 0 (meter_use (replays quiet n ∷ []))) (3 ∷ 4 ∷ []) ≡ (6 ∷ 5 ∷ 6 ∷ []) ∷ (6 ∷ 6 ∷ 6 ∷ []) ∷ []
shows_same_n_needed = unfold listing in refl

-- traces that differ in a record in sight, by its cycle or by its value, may give unlike views
shows_equal_records_needed
    : map (λ (trace : List TraceRecord). seen_at_end meters 0 (meter_use (replays trace 3 ∷ []))) ((reading 1 2 5 ∷ []) ∷ (reading 2 2 5 ∷ []) ∷ (reading 2 2 6 ∷ []) ∷ [])
    ≡ (5 ∷ 5 ∷ 5 ∷ []) ∷ (5 ∷ 4 ∷ 5 ∷ []) ∷ (6 ∷ 4 ∷ 6 ∷ []) ∷ []
shows_equal_records_needed = unfold listing in refl

-- ---- lists that mix replays with the other calls
-- an accepted replay counts as the port writes and cycles that it makes, in their order; a refused one is struck out
abbrev remains_of : ℕ → List Call → List Remaining
remains_of level list = remains meters level (meter_use list)

shows_replay_remains
    : map (λ (level : ℕ). remains_of level (replays month 4 ∷ [])) (0 ∷ 1 ∷ [])
    ≡ (a_write 2 5 ∷ a_cycle ∷ a_cycle ∷ a_write 2 6 ∷ a_cycle ∷ a_write 2 7 ∷ a_cycle ∷ [])
    ∷ (a_write 2 5 ∷ a_cycle ∷ a_cycle ∷ a_write 2 6 ∷ a_write 3 100 ∷ a_cycle ∷ a_write 2 7 ∷ a_cycle ∷ [])
    ∷ []
shows_replay_remains = unfold listing in refl

-- superseded records count too: the port takes both values
shows_superseded_remain : remains_of 0 (replays (reading 0 2 5 ∷ reading 0 2 6 ∷ []) 1 ∷ []) ≡ a_write 2 5 ∷ a_write 2 6 ∷ a_cycle ∷ []
shows_superseded_remain = unfold listing in refl

shows_refused_struck : remains_of 1 (replays refused_one 3 ∷ replays [] 0 ∷ runs 1 ∷ replays quiet 2 ∷ []) ≡ a_cycle ∷ []
shows_refused_struck = unfold listing in refl

-- so one list may replay what another writes and runs: matching lists, of which level 0 sees the same
abbrev mixed : List Call
mixed = runs_journalled 1 ∷ replays quiet 3 ∷ replays refused_one 3 ∷ goes_back 1 ∷ writes 3 9 ∷ runs 1 ∷ []

abbrev by_calls : List Call
by_calls = writes 3 7 ∷ runs_journalled 1 ∷ writes 2 5 ∷ runs 2 ∷ replays (reading 0 3 1 ∷ reading 0 2 6 ∷ []) 1 ∷ goes_back 0 ∷ goes_back 1 ∷ runs 1 ∷ []

shows_mixed_matching : remains_of 0 mixed ∷ remains_of 0 by_calls ∷ [] ≡ replicate 2 (a_journalled_cycle ∷ a_write 2 5 ∷ a_cycle ∷ a_cycle ∷ a_write 2 6 ∷ a_cycle ∷ a_step_back ∷ a_cycle ∷ [])
shows_mixed_matching = unfold listing in refl

shows_mixed_claim
    : IndependentJournals
    → (views meters 0 (meter_use mixed) ≡ views meters 0 (meter_use by_calls)) × (seen_at_end meters 0 (meter_use mixed) ≡ seen_at_end meters 0 (meter_use by_calls))
shows_mixed_claim claim = claim meters (unfold everything in refl) 0 (unfold everything in omega arith) (meter_use mixed) (meter_use by_calls) (unfold listing in refl)

-- a replay leaves the journal as it is, and one goes back over it
shows_back_over_replay : seen_at_end meters 1 (meter_use (runs_journalled 1 ∷ replays month 4 ∷ goes_back 1 ∷ [])) ≡ 0 ∷ 0 ∷ 4 ∷ 0 ∷ 50 ∷ []
shows_back_over_replay = unfold listing in refl

-- ---- "the cycles done" of runs, "the answer counts those superseded" of a replay: the count of each call
shows_counts : map call_count (resets ∷ writes 2 5 ∷ runs 3 ∷ runs_journalled 4 ∷ goes_back 6 ∷ replays busy 7 ∷ []) ≡ 0 ∷ 0 ∷ 3 ∷ 4 ∷ 6 ∷ 2 ∷ []
shows_counts = unfold listing in refl
