-- Cases of 02, E9, that take more than one call: what runs and steps back leave of the journal for those behind them.
use Prim.Native.Nat.{ℕ}
use mathlib.Core.Path.{◌≡◌, refl}
use mathlib.Core.List.{List, [], ◌∷◌, map}
use Rattle.model.proofs.Designs.{lease}
use Rattle.journal_model.specs.Calls.{LentJournal}
use Rattle.journal_model.proofs.Opened.{lends, journal_of, spare, lease_areas, lease_saved, after0, after1, after2, after3, after4, saved0, saved1, saved2, saved3}
use Rattle.lists_model.specs.Lists.{Call, resets, writes, runs, runs_journalled, goes_back, at_end}
use Rattle.lists_model.proofs.Opened.{listing}

-- the lease design after a reset, with an empty journal that has room for four cycles and three bytes more; and what a list of calls leaves of both
abbrev empty : List ℕ
empty = journal_of 0 (spare 95 ∷ [])

abbrev leaves : List Call → LentJournal
leaves list = at_end lease (lends after0 empty) list

-- behind what it counts already: a second run goes on where the first ended
shows_second_run : leaves (runs_journalled 1 ∷ runs_journalled 2 ∷ []) ≡ lends after3 (journal_of 3 (saved0 ∷ saved1 ∷ saved2 ∷ spare 26 ∷ []))
shows_second_run = unfold listing in refl

-- back twice, each time from what is counted then
shows_back_twice
    : map leaves ((runs_journalled 3 ∷ goes_back 1 ∷ goes_back 1 ∷ []) ∷ (runs_journalled 3 ∷ goes_back 2 ∷ []) ∷ [])
    ≡ lends after1 (journal_of 1 (saved0 ∷ saved1 ∷ saved2 ∷ spare 26 ∷ []))
    ∷ lends after1 (journal_of 1 (saved0 ∷ saved1 ∷ saved2 ∷ spare 26 ∷ []))
    ∷ []
shows_back_twice = unfold listing in refl

-- and forth again: a run saves over the states that going back has freed
shows_forth_again
    : leaves (runs_journalled 3 ∷ goes_back 2 ∷ writes 1 7 ∷ runs_journalled 1 ∷ [])
    ≡ lends (lease_areas 2 7 2 4) (journal_of 2 (saved0 ∷ lease_saved 3 7 2 3 ∷ saved2 ∷ spare 26 ∷ []))
shows_forth_again = unfold listing in refl

-- going back within a run that began with a count: from the count now, and not from that at the start of the last run
shows_from_count_now
    : map (λ (k : ℕ). (leaves (runs_journalled 1 ∷ runs_journalled 2 ∷ goes_back k ∷ [])).areas) (1 ∷ 2 ∷ 3 ∷ []) ≡ after2 ∷ after1 ∷ after0 ∷ []
shows_from_count_now = unfold listing in refl

-- "cycles run without it are not counted": the first and the fourth are
shows_not_counted
    : map (λ (list : List Call). leaves (runs_journalled 1 ∷ runs 2 ∷ runs_journalled 1 ∷ list)) ([] ∷ (goes_back 1 ∷ []) ∷ (goes_back 2 ∷ []) ∷ [])
    ≡ lends after4 (journal_of 2 (saved0 ∷ saved3 ∷ spare 49 ∷ []))
    ∷ lends after3 (journal_of 1 (saved0 ∷ saved3 ∷ spare 49 ∷ []))
    ∷ lends after0 (journal_of 0 (saved0 ∷ saved3 ∷ spare 49 ∷ []))
    ∷ []
shows_not_counted = unfold listing in refl

-- a reset and a port write leave the journal as it is, and one goes back over both
shows_back_over_reset
    : map (λ (list : List Call). leaves (runs_journalled 2 ∷ resets ∷ writes 1 7 ∷ list)) ([] ∷ (goes_back 1 ∷ []) ∷ [])
    ≡ lends (lease_areas 3 7 1 3) (journal_of 2 (saved0 ∷ saved1 ∷ spare 49 ∷ []))
    ∷ lends after1 (journal_of 1 (saved0 ∷ saved1 ∷ spare 49 ∷ []))
    ∷ []
shows_back_over_reset = unfold listing in refl

-- "both areas": a port has again the value that it had before the cycle, and each state its target
shows_port_restored
    : map (λ (list : List Call). (leaves (runs 1 ∷ writes 1 7 ∷ runs_journalled 1 ∷ writes 1 8 ∷ runs_journalled 1 ∷ list)).areas) ([] ∷ (goes_back 1 ∷ []) ∷ (goes_back 2 ∷ []) ∷ [])
    ≡ lease_areas 1 8 2 3 ∷ lease_areas 2 8 2 4 ∷ lease_areas 3 7 2 3 ∷ []
shows_port_restored = unfold listing in refl
