-- Cases at the boundaries of lists with journals (02, E9): what remains of them, what a party sees, and why they journal the same cycles and go back
-- by equal numbers at equal moments. Why their journals begin empty is shown in `Elsewhere`.
use Prim.Native.Nat.{ℕ}
use native.Mathlib.Omega.{arith}
use mathlib.Core.Path.{◌≡◌, refl}
use mathlib.Core.List.{List, [], ◌∷◌, map}
use lib.Pow.{pow_pos}
use lib.ListN.{replicate}
use Rattle.model.specs.Image.{design_of, register_at}
use Rattle.model.specs.Values.{words_of}
use Rattle.model.specs.Parties.{Remaining, a_reset, a_write, a_cycle, a_journalled_cycle, a_step_back, values_seen, remaining}
use Rattle.model.proofs.Opened.{everything, lent, any_lent}
use Rattle.model.proofs.Designs.{lease, one_state, chain, register_record, goes_to}
use Rattle.journal_model.specs.Calls.{LentJournal}
use Rattle.lists_model.specs.Lists.{Call, resets, writes, runs, runs_journalled, goes_back, events, at_end, Use, begun, remains, views, seen_at_end}
use Rattle.lists_model.specs.Demands.{IndependentJournals}
use Rattle.lists_model.proofs.Opened.{listing, seen}
use Rattle.journal_model.proofs.Opened.{lends, journal_of, spare, after0}

-- ---- one list
-- registers out of sight are given 0, and the journal is empty with these bytes behind its count
abbrev lease_use : List ℕ → List Call → Use (design_of lease)
lease_use bytes list =
    record {
      begins =
          record {
            lent = any_lent;
            lengths = record { registers = unfold everything in refl; targets = unfold everything in refl };
            given = λ r. 0;
            within = λ r l. pow_pos (register_at (design_of lease) r).width;
          };
      journal = journal_of 0 (bytes ∷ []);
      empty = unfold everything in refl;
      calls = list;
    }

-- three journalled cycles, two back, one back too many, a port write, one without the journal, and a reset
abbrev a_list : List Call
a_list = runs_journalled 3 ∷ goes_back 2 ∷ goes_back 2 ∷ writes 1 5 ∷ runs 1 ∷ runs_journalled 5 ∷ resets ∷ goes_back 1 ∷ runs 1 ∷ []

abbrev a_use : Use (design_of lease)
a_use = lease_use (spare 70) a_list

-- what remains: journalled cycles apart from others, and going back by k as k steps; refused calls, and writes out of sight, are struck out
shows_remains_0
    : remains lease 0 a_use
    ≡ a_journalled_cycle ∷ a_journalled_cycle ∷ a_journalled_cycle ∷ a_step_back ∷ a_step_back ∷ a_cycle ∷ a_reset ∷ a_step_back ∷ a_cycle ∷ []
shows_remains_0 = unfold listing in refl

shows_remains_1
    : remains lease 1 a_use
    ≡ a_journalled_cycle ∷ a_journalled_cycle ∷ a_journalled_cycle ∷ a_step_back ∷ a_step_back ∷ (a_write 1 5) ∷ a_cycle ∷ a_reset ∷ a_step_back ∷ a_cycle ∷ []
shows_remains_1 = unfold listing in refl

-- going back by 0 is struck out, as a run of 0 is, and one too far is refused
shows_remains_none : remains lease 0 (lease_use [] (goes_back 0 ∷ runs 0 ∷ runs_journalled 0 ∷ goes_back 1 ∷ [])) ≡ []
shows_remains_none = unfold listing in refl

-- "equal views": of each cycle, journalled or not, one that was gone back over too; a step back shows nothing
shows_views_0
    : views lease 0 a_use
    ≡ seen (3 ∷ []) (0 ∷ 1 ∷ []) ∷ seen (2 ∷ []) (0 ∷ 2 ∷ []) ∷ seen (1 ∷ []) (0 ∷ 2 ∷ []) ∷ seen (2 ∷ []) (0 ∷ 2 ∷ []) ∷ seen (3 ∷ []) (0 ∷ 1 ∷ []) ∷ []
shows_views_0 = unfold listing in refl

shows_views_1
    : views lease 1 a_use
    ≡ seen (3 ∷ 0 ∷ []) (0 ∷ 1 ∷ [])
    ∷ seen (2 ∷ 0 ∷ []) (0 ∷ 2 ∷ 3 ∷ [])
    ∷ seen (1 ∷ 0 ∷ []) (0 ∷ 2 ∷ 3 ∷ [])
    ∷ seen (2 ∷ 5 ∷ []) (0 ∷ 2 ∷ 3 ∷ [])
    ∷ seen (3 ∷ 0 ∷ []) (0 ∷ 1 ∷ [])
    ∷ []
shows_views_1 = unfold listing in refl

-- "and equal registers at or below its level at the end": behind the last call, be it a step back
shows_end : map (λ (list : List Call). seen_at_end lease 1 (lease_use (spare 70) list)) ([] ∷ (runs_journalled 3 ∷ []) ∷ (runs_journalled 3 ∷ goes_back 1 ∷ []) ∷ a_list ∷ []) ≡ (3 ∷ 0 ∷ []) ∷ (1 ∷ 0 ∷ []) ∷ (2 ∷ 0 ∷ []) ∷ (3 ∷ 0 ∷ []) ∷ []
shows_end = unfold listing in refl

shows_end_0 : seen_at_end lease 0 a_use ≡ 3 ∷ []
shows_end_0 = unfold listing in refl

-- a list starts as one of 01 does, from a reset with any values out of sight, and with the journal as it was lent: r0 has label 0, r1 label 1, and both are reset to other values
abbrev two_ports : List ℕ
two_ports = one_state chain (register_record 0 1 7 ∷ register_record 1 1 5 ∷ []) 1 (goes_to 1 ∷ []) []

abbrev ports_use : Use (design_of two_ports)
ports_use =
    record {
      begins =
          record {
            lent = lent (spare 8) (spare 2);
            lengths = record { registers = unfold everything in refl; targets = unfold everything in refl };
            given = λ r. 0;
            within = λ r l. pow_pos (register_at (design_of two_ports) r).width;
          };
      journal = journal_of 0 (spare 3 ∷ []);
      empty = unfold everything in refl;
      calls = [];
    }

shows_journal_start
    : map (λ (level : ℕ). begun two_ports level ports_use) (0 ∷ 1 ∷ [])
    ≡ lends (lent (7 ∷ 0 ∷ 0 ∷ 0 ∷ 0 ∷ 0 ∷ 0 ∷ 0 ∷ []) (1 ∷ 1 ∷ [])) (journal_of 0 (spare 3 ∷ []))
    ∷ lends (lent (7 ∷ 0 ∷ 0 ∷ 0 ∷ 5 ∷ 0 ∷ 0 ∷ 0 ∷ []) (1 ∷ 1 ∷ [])) (journal_of 0 (spare 3 ∷ []))
    ∷ []
shows_journal_start = unfold listing in refl

-- Demand 3 is about journals of different lengths and bytes, and lists that differ in what is struck out
abbrev other_use : Use (design_of lease)
other_use =
    lease_use
    (replicate 100 0)
    (runs_journalled 1 ∷ writes 1 7 ∷ runs_journalled 2 ∷ goes_back 4 ∷ goes_back 2 ∷ runs 1 ∷ writes 0 1 ∷ resets ∷ goes_back 1 ∷ runs 1 ∷ [])

shows_claim_0
    : IndependentJournals → (views lease 0 a_use ≡ views lease 0 other_use) × (seen_at_end lease 0 a_use ≡ seen_at_end lease 0 other_use)
shows_claim_0 claim = claim lease (unfold everything in refl) 0 (unfold everything in omega arith) a_use other_use (unfold listing in refl)

-- at the highest level, of empty lists
shows_claim_1
    : IndependentJournals → (views lease 1 (lease_use [] []) ≡ views lease 1 (lease_use (spare 9) [])) × (seen_at_end lease 1 (lease_use [] []) ≡ seen_at_end lease 1 (lease_use (spare 9) []))
shows_claim_1 claim = claim lease (unfold everything in refl) 1 (unfold everything in omega arith) (lease_use [] []) (lease_use (spare 9) []) (unfold listing in refl)

-- ---- why each condition is there: lists from an empty journal that differ in it alone, and what they leave in sight of level 0
abbrev from : LentJournal
from = lends after0 (journal_of 0 (spare 69 ∷ []))

abbrev remains_of : List Call → List Remaining
remains_of list = remaining (design_of lease) 0 (events lease from list)

abbrev end_of : List Call → List ℕ
end_of list = values_seen (design_of lease) 0 (words_of 2 (at_end lease from list).areas.registers)

-- "journal the same cycles": of three cycles one list journals all, and the other the first two, so that going back by 1 comes to another state
shows_same_cycles_needed
    : end_of (runs_journalled 2 ∷ runs_journalled 1 ∷ goes_back 1 ∷ []) ∷ end_of (runs_journalled 2 ∷ runs 1 ∷ goes_back 1 ∷ []) ∷ [] ≡ (2 ∷ []) ∷ (3 ∷ []) ∷ []
shows_same_cycles_needed = unfold listing in refl

shows_same_cycles_not_matching
    : remains_of (runs_journalled 2 ∷ runs_journalled 1 ∷ goes_back 1 ∷ []) ∷ remains_of (runs_journalled 2 ∷ runs 1 ∷ goes_back 1 ∷ []) ∷ []
    ≡ (a_journalled_cycle ∷ a_journalled_cycle ∷ a_journalled_cycle ∷ a_step_back ∷ []) ∷ (a_journalled_cycle ∷ a_journalled_cycle ∷ a_cycle ∷ a_step_back ∷ []) ∷ []
shows_same_cycles_not_matching = unfold listing in refl

-- "and go back by equal numbers at equal moments"
shows_equal_numbers_needed : map (λ (k : ℕ). end_of (runs_journalled 3 ∷ goes_back k ∷ [])) (0 ∷ 1 ∷ 2 ∷ []) ≡ (1 ∷ []) ∷ (2 ∷ []) ∷ (3 ∷ []) ∷ []
shows_equal_numbers_needed = unfold listing in refl

shows_equal_moments_needed
    : end_of (runs_journalled 2 ∷ runs 1 ∷ goes_back 1 ∷ []) ∷ end_of (runs_journalled 2 ∷ goes_back 1 ∷ runs 1 ∷ []) ∷ [] ≡ (3 ∷ []) ∷ (2 ∷ []) ∷ []
shows_equal_moments_needed = unfold listing in refl
