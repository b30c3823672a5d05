-- Why 02's E9 asks for "empty journals which nobody else writes": journals that look alike to a party are not enough. A saved state from elsewhere may be sound and
-- still have a spare child as a target, which no run from reset comes to; going back to it shows a register out of sight.
use Prim.Native.Nat.{ℕ}
use mathlib.Core.Path.{◌≡◌, refl}
use mathlib.Core.List.{List, [], ◌∷◌, ◌++◌, map}
use lib.ListN.{replicate}
use Rattle.model.specs.Image.{design_of}
use Rattle.model.specs.Values.{words_of}
use Rattle.model.specs.Calls.{Lent}
use Rattle.model.specs.Parties.{Seen, Remaining, a_cycle, a_journalled_cycle, a_step_back, values_seen, view, remaining}
use Rattle.model.proofs.Opened.{lent}
use Rattle.model.proofs.Designs.{word32, spare}
use Rattle.journal_model.specs.Journals.{saved_bytes}
use Rattle.journal_model.specs.Calls.{LentJournal}
use Rattle.lists_model.specs.Lists.{Call, runs, runs_journalled, goes_back, events, at_end}
use Rattle.lists_model.proofs.Opened.{listing}

-- areas of the design with a spare child, by r1, which level 0 does not see, and the target of the group, of which 2 is the default child and 3 the spare one
abbrev areas_with : ℕ → ℕ → Lent
areas_with secret target = lent (0 ∷ 0 ∷ 0 ∷ 0 ∷ secret ∷ 0 ∷ 0 ∷ 0 ∷ []) (1 ∷ target ∷ 2 ∷ 3 ∷ [])

-- after a reset, with a journal from elsewhere that counts one state with the spare child; and with an empty journal, where r1 is given the value
abbrev from_elsewhere : ℕ → LentJournal
from_elsewhere secret = record { areas = areas_with 0 2; journal = word32 1 ++ saved_bytes (areas_with secret 3) }

abbrev from_empty : ℕ → LentJournal
from_empty secret = record { areas = areas_with secret 2; journal = replicate 24 0 }

-- what remains of a list at level 0, what the level sees, and its registers at the end
abbrev remains_of : List Call → LentJournal → List Remaining
remains_of list from = remaining (design_of spare) 0 (events spare from list)

abbrev view_of : List Call → LentJournal → List Seen
view_of list from = view (design_of spare) 0 (events spare from list)

abbrev end_of : List Call → LentJournal → List ℕ
end_of list from = values_seen (design_of spare) 0 (words_of 2 (at_end spare from list).areas.registers)

abbrev seen : ℕ → List ℕ → Seen
seen value walk = record { values = value ∷ []; walk = map (λ s. record { state = s; bound = [] }) walk }

-- Both go back to what a journal from elsewhere counts, and run a cycle: the same remains, and the two journals differ in r1 alone.
abbrev back_and_on : List Call
back_and_on = goes_back 1 ∷ runs 1 ∷ []

shows_elsewhere_matching : map (λ (secret : ℕ). remains_of back_and_on (from_elsewhere secret)) (0 ∷ 1 ∷ []) ≡ replicate 2 (a_step_back ∷ a_cycle ∷ [])
shows_elsewhere_matching = unfold listing in refl

-- level 0 sees r1, in the walk and in r0
shows_elsewhere_seen
    : map (λ (secret : ℕ). view_of back_and_on (from_elsewhere secret)) (0 ∷ 1 ∷ []) ≡ (seen 0 (0 ∷ []) ∷ []) ∷ (seen 1 (0 ∷ 3 ∷ []) ∷ []) ∷ []
shows_elsewhere_seen = unfold listing in refl

shows_elsewhere_at_end : map (λ (secret : ℕ). end_of back_and_on (from_elsewhere secret)) (0 ∷ 1 ∷ []) ≡ (0 ∷ []) ∷ (1 ∷ []) ∷ []
shows_elsewhere_at_end = unfold listing in refl

-- From an empty journal it does not: what is restored has r1, and the targets of a run from reset.
abbrev journalled_and_back : List Call
journalled_and_back = runs_journalled 1 ∷ back_and_on

shows_own_journal_matching
    : map (λ (secret : ℕ). remains_of journalled_and_back (from_empty secret)) (0 ∷ 1 ∷ []) ≡ replicate 2 (a_journalled_cycle ∷ a_step_back ∷ a_cycle ∷ [])
shows_own_journal_matching = unfold listing in refl

shows_own_journal_unseen
    : map (λ (secret : ℕ). view_of journalled_and_back (from_empty secret)) (0 ∷ 1 ∷ []) ≡ replicate 2 (seen 0 (0 ∷ []) ∷ seen 0 (0 ∷ []) ∷ [])
shows_own_journal_unseen = unfold listing in refl
