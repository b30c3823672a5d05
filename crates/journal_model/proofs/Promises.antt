-- What is promised about 02, E9, "Stepping back", each promise restated in full and closed by one citation. The promises about the code that runs are equations with the
-- same definitions.
use Prim.Native.Nat.{ℕ, ◌+◌, ◌-◌, ◌≤◌, ◌<◌}
use mathlib.Core.Path.{◌≡◌}
use mathlib.Core.List.{List}
use Rattle.model.specs.Image.{byte_at, AreBytes, design_of}
use Rattle.model.specs.Answers.{Accepted, numbers_of}
use Rattle.model.specs.Ports.{PortsKept}
use Rattle.model.specs.Calls.{run}
use Rattle.model.specs.Refusals.{in_numbers, Exactly, WithinWidths}
use Rattle.journal_model.specs.Calls.{LentJournal, run_journalled, step_back}
use Rattle.journal_model.specs.Rules.{run_journalled_table, step_back_table}
use Rattle.journal_model.proofs.Exact as exact
use Rattle.journal_model.proofs.Returning.{back_none, BackAt, back_by, Returned, back_whole, back_twice}
use Rattle.journal_model.proofs.Halves.{InHalves, halves}
use Rattle.journal_model.proofs.Others.{OtherByte, others_kept}
use Rattle.journal_model.proofs.Areas.{as_run, run_within_widths, back_within_widths, run_ports_kept}

-- "It refuses with 21, after 15, a journal under 4 bytes, or too short for its count and the cycles to run, or whose new count passes 32 bits, and with 22, after 21, a k
-- above the count." "A saved state to be restored that is not sound is 14, judged after 22." Each call is accepted with its count exactly when every rule of its table is
-- kept, and refused exactly by the first that is broken; 01, demand 1: "No lent byte changes" on a refusal, of all three areas.
pub run_journalled_exactly : (image : List ℕ) (lent : LentJournal) (n : ℕ) → Exactly (run_journalled_table image lent n) n lent (in_numbers (run_journalled image lent n))
run_journalled_exactly = exact.run_journalled_exactly

pub step_back_exactly : (image : List ℕ) (lent : LentJournal) (k : ℕ) → Exactly (step_back_table image lent k) k lent (in_numbers (step_back image lent k))
step_back_exactly = exact.step_back_exactly

-- "A journalled run is a run": where it is accepted, a run of the same areas is, with the same count, and leaves the same areas.
pub journalled_as_run : (image : List ℕ) (lent : LentJournal) (n : ℕ) → (numbers_of (run_journalled image lent n).answer).number ≡ 0
    → run image lent.areas n ≡ record { answer = (run_journalled image lent n).answer; lent = (run_journalled image lent n).lent.areas }
journalled_as_run = as_run

-- "its other bytes keep their values": the states that the journal had, and what stands behind those that the run saves, keep every byte, whatever it answers.
pub journalled_others_keep : (image : List ℕ) (lent : LentJournal) (n i : ℕ) → OtherByte image lent n i
    → byte_at (run_journalled image lent n).lent.journal i ≡ byte_at lent.journal i
journalled_others_keep = others_kept

-- "Going back k cycles restores the areas as the journal saved them before the k-th last cycle it counts": a step back over a whole journalled run is accepted and leaves
-- the areas as they were before it, "and in the journal only lowers the count, by k": it counts and saves what it did, and the bytes behind the count stay.
pub back_returns : (image : List ℕ) (lent : LentJournal) → AreBytes lent.areas.registers → (n : ℕ) → (numbers_of (run_journalled image lent n).answer).number ≡ 0
    → Returned image lent (run_journalled image lent n).lent n (step_back image (run_journalled image lent n).lent n)
back_returns = back_whole

-- "Commissioning staff overshoot the cycle they want to see": going back k of n journalled cycles is accepted and leaves the areas that a run of n - k leaves, with what
-- the journal had and saved before those n - k cycles.
pub back_some : (image : List ℕ) (lent : LentJournal) → AreBytes lent.areas.registers → (n k : ℕ) → k ≤ n → (numbers_of (run_journalled image lent n).answer).number ≡ 0
    → BackAt image lent (run_journalled image lent n).lent k (n - k) (step_back image (run_journalled image lent n).lent k)
back_some = back_by

-- Going back j cycles and then k is going back j + k, where the journal's states before both are sound.
pub steps_back_add : (image : List ℕ) (lent : LentJournal) (j k : ℕ)
    → (numbers_of (step_back image lent (j + k)).answer).number ≡ 0
    → (numbers_of (step_back image lent j).answer).number ≡ 0
    → step_back image (step_back image lent j).lent k ≡ record { answer = Accepted k; lent = (step_back image lent (j + k)).lent }
steps_back_add = back_twice

-- "saves both areas .. before every cycle .. oldest first": so a journalled run may be cut. Where one of n + m is accepted, one of n and then one of m are, each with its
-- count, and leave the same three areas.
pub journalled_halves : (image : List ℕ) (lent : LentJournal) → AreBytes lent.areas.registers → (n m : ℕ)
    → (numbers_of (run_journalled image lent (n + m)).answer).number ≡ 0
    → InHalves n m (run_journalled image lent n) (run_journalled image (run_journalled image lent n).lent m) (run_journalled image lent (n + m))
journalled_halves = halves

-- "With k of 0 nothing changes", accepted or refused.
pub step_back_none : (image : List ℕ) (lent : LentJournal) → (step_back image lent 0).lent ≡ lent
step_back_none = back_none

-- 02, E2: an accepted journalled run leaves every register within its width,
pub journalled_within_widths : (image : List ℕ) (lent : LentJournal) (n : ℕ) → (numbers_of (run_journalled image lent n).answer).number ≡ 0
    → WithinWidths (design_of image) (run_journalled image lent n).lent.areas.registers
journalled_within_widths = run_within_widths

-- and so does an accepted step back that restores a state, whatever bytes the journal held.
pub steps_within_widths : (image : List ℕ) (lent : LentJournal) (k : ℕ) → 0 < k → (numbers_of (step_back image lent k).answer).number ≡ 0
    → WithinWidths (design_of image) (step_back image lent k).lent.areas.registers
steps_within_widths = back_within_widths

-- 02, E1, "Ports belong to the host": a journalled run, whatever it answers, leaves every byte of every port.
pub journalled_ports_kept : (image : List ℕ) (lent : LentJournal) → AreBytes lent.areas.registers → (n : ℕ)
    → PortsKept (design_of image) lent.areas.registers (run_journalled image lent n).lent.areas.registers
journalled_ports_kept = run_ports_kept
