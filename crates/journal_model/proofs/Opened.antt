-- What the cases are written with: a name that opens the definitions (it stands for all that its `unfolding` line names), short ways to put a case, and the areas
-- and journals of the lease design, byte by byte.
use Prim.Native.Nat.{ℕ}
use mathlib.Core.List.{List, [], ◌∷◌, ◌++◌}
use lib.ListN.{replicate}
use Rattle.model.specs.Answers.{Numbers, numbers_of}
use Rattle.model.specs.Calls.{Lent, Left}
use Rattle.model.proofs.Opened.{everything, lent, accepted, refused}
use Rattle.model.proofs.Designs.{word32, joined}
use Rattle.journal_model.specs.Journals.{all_saved_bytes, journal_front, journal_with, recounted, saved_of, saved_in, has_room, saved_before}
use Rattle.journal_model.specs.Calls.{LentJournal, room_answer, steps_answer, saved_back, run_journalled_answer, run_journalled, saved_answer, step_back_answer, restored, step_back}

unfoldable pub journalling : ℕ
unfolding everything all_saved_bytes journal_front journal_with recounted saved_of saved_in has_room saved_before room_answer steps_answer saved_back run_journalled_answer run_journalled saved_answer step_back_answer restored step_back
journalling = 0

-- lent areas and a journal
abbrev pub lends : Lent → List ℕ → LentJournal
lends areas journal = record { areas = areas; journal = journal }

-- all that a call leaves: what the host is told, and every lent byte
abbrev pub told : Left LentJournal → Numbers × LentJournal
told left = (numbers_of left.answer, left.lent)

-- what a call leaves of the areas, and of the journal
abbrev pub areas_left : Left LentJournal → Lent
areas_left left = left.lent.areas

abbrev pub journal_left : Left LentJournal → List ℕ
journal_left left = left.lent.journal

-- an acceptance with these areas and this journal, and a refusal that leaves what was lent
abbrev pub accepted_with : ℕ → Lent → List ℕ → Numbers × LentJournal
accepted_with count areas journal = (accepted count, lends areas journal)

abbrev pub refused_with : ℕ → ℕ → LentJournal → Numbers × LentJournal
refused_with number place lent = (refused number place, lent)

-- a journal by hand: a count of 4 bytes, and pieces of bytes behind it
abbrev pub journal_of : ℕ → List (List ℕ) → List ℕ
journal_of count pieces = word32 count ++ joined pieces

-- bytes behind the saved ones
abbrev pub spare : ℕ → List ℕ
spare n = replicate n 9

-- ---- the lease design: 8 bytes of registers and 15 of targets, of which 10 are bindings
-- the values of r0 and r1, and the targets of the root and of 2
abbrev pub lease_registers : ℕ → ℕ → List ℕ
lease_registers timer port = timer ∷ 0 ∷ 0 ∷ 0 ∷ port ∷ 0 ∷ 0 ∷ 0 ∷ []

abbrev pub lease_targets : ℕ → ℕ → List ℕ
lease_targets root group = root ∷ 1 ∷ group ∷ 3 ∷ 4 ∷ 0 ∷ 0 ∷ 0 ∷ 0 ∷ 0 ∷ 0 ∷ 0 ∷ 0 ∷ 0 ∷ 0 ∷ []

-- as areas, and as the bytes of a saved state: "registers first"
abbrev pub lease_areas : ℕ → ℕ → ℕ → ℕ → Lent
lease_areas timer port root group = record { registers = lease_registers timer port; targets = lease_targets root group }

abbrev pub lease_saved : ℕ → ℕ → ℕ → ℕ → List ℕ
lease_saved timer port root group = lease_registers timer port ++ lease_targets root group

-- the areas after 0 to 4 cycles from reset, port at 0
abbrev pub after0 : Lent
after0 = lease_areas 3 0 1 3

abbrev pub after1 : Lent
after1 = lease_areas 3 0 2 3

abbrev pub after2 : Lent
after2 = lease_areas 2 0 2 3

abbrev pub after3 : Lent
after3 = lease_areas 1 0 2 3

abbrev pub after4 : Lent
after4 = lease_areas 0 0 1 3

-- the same as the bytes of saved states
abbrev pub saved0 : List ℕ
saved0 = lease_saved 3 0 1 3

abbrev pub saved1 : List ℕ
saved1 = lease_saved 3 0 2 3

abbrev pub saved2 : List ℕ
saved2 = lease_saved 2 0 2 3

abbrev pub saved3 : List ℕ
saved3 = lease_saved 1 0 2 3
