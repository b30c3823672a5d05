-- What each call with a journal leaves, case by case of what it judged: a refusal leaves all three areas as they were lent.
use Rattle.std.specs.Prelude.{Err}
use Prim.Native.Nat.{ℕ, ◌+◌, ◌*◌, ◌≤◌, ◌<◌}
use mathlib.Core.Path.{◌≡◌, sym, ◌∙◌}
use mathlib.Core.Bool.{Bool, true, false, not}
use mathlib.Core.List.{List, ◌++◌}
use native.Mathlib.Omega.{arith}
use lib.Dec.{leb}
use lib.ListN.{length}
use borrow.Author.Tests.{leb-true, le-leb, lt-leb}
use Rattle.model.specs.declared.RefusedAt.{RefusedAt}
use Rattle.model.specs.declared.Refusal.TheVariants.{Area, CycleCount, JournalArea, StepsBack}
use Rattle.model.specs.Answers.{Answer, Accepted, Refused}
use Rattle.model.specs.Limits.{cycles_max}
use Rattle.model.specs.Image.{Design as Table, AreBytes, design_of}
use Rattle.model.specs.Verdict.{refused_at, ◌before◌}
use Rattle.model.specs.Machine.{cycles, after_cycles}
use Rattle.model.specs.Calls.{length_answer, cycles_answer, areas_of, left_as, Left}
use Rattle.model.proofs.Laws.Booleans.{not_true, not_false}
use Rattle.design.specs.declared.Design.{Design}
use Rattle.design.specs.Describes.{Describes}
use Rattle.design.specs.Resets.{lends}
use Rattle.machine.specs.Cycles.{Running, areas_in}
use Rattle.running.specs.Stages.{sound_on}
use Rattle.running.proofs.RunningRules.{bytes_left}
use Rattle.calls.proofs.CallRules.{right_lengths}
use Rattle.journal_model.specs.Journals.{count_length, count_in, journal_with, saved_length, saved_in, has_room, saved_before}
use Rattle.journal_model.specs.Calls.{room_answer, steps_answer, LentJournal}
use Rattle.journal_model.specs.Rules.{RoomKeeps}
use Rattle.journal_model.proofs.Laws.{room_iff}
use Rattle.journal_saving.proofs.SavingRules.{saved_size}
use Rattle.journal.specs.Stages.{lends_journal, journalled_cycles, run_journalled_on, run_journalled_sound, step_back_on}

-- ---- room
module _ {image : List ℕ} {x : Design} (known : Describes image x) (journal : List ℕ) (n : ℕ) {b : Bool} (e : b ≡ has_room (4 * x.registers + 3 * x.states) (count_in journal + n) (length journal)) where
  room_is : has_room (saved_length (design_of image)) (count_in journal + n) (length journal) ≡ b
  room_is = rw (saved_size known) (sym e)

  pub lacks_room : not b ≡ true → room_answer (design_of image) journal n ≡ Refused JournalArea 0
  unfolding room_answer refused_at
  lacks_room h = rw (room_is, not_true b h)

  pub room_kept : not b ≡ false → RoomKeeps (design_of image) journal n
  room_kept h = (room_iff (design_of image) journal n).0 (room_is ∙ not_false b h)

pub room_accepts : (d : Table) (journal : List ℕ) (n : ℕ) → RoomKeeps d journal n → room_answer d journal n ≡ Accepted 0
unfolding room_answer refused_at
room_accepts d journal n keeps = rw ((room_iff d journal n).1 keeps)

-- ---- a journalled run
module _ (d : Table) (registers targets journal : List ℕ) (n : ℕ) where
  pub run_refuses : length_answer d (lends registers targets) ≡ Refused Area 0 → left_as (Refused Area 0) (lends_journal registers targets journal) ≡ run_journalled_on d (lends_journal registers targets journal) n
  unfolding run_journalled_on ◌before◌
  run_refuses h = rw h

  module _ {a : Answer} where
    pub run_refuses_unsound : {why : RefusedAt} → a ≡ Err why → a ≡ sound_on d (lends registers targets) → length_answer d (lends registers targets) ≡ Accepted 0
        → left_as (Err why) (lends_journal registers targets journal) ≡ run_journalled_on d (lends_journal registers targets journal) n
    unfolding run_journalled_on ◌before◌
    run_refuses_unsound h judged right = rw (right, ← judged, h)

    pub run_passes : {left : Left LentJournal} {c : ℕ} → left ≡ run_journalled_sound d (lends_journal registers targets journal) n → a ≡ Accepted c → a ≡ sound_on d (lends registers targets)
        → length_answer d (lends registers targets) ≡ Accepted 0
        → left ≡ run_journalled_on d (lends_journal registers targets journal) n
    unfolding run_journalled_on run_journalled_sound ◌before◌
    run_passes k h judged right = rw (right, ← judged, h) k

  pub count_refuses : {b : Bool} → b ≡ leb n cycles_max → not b ≡ true → left_as (Refused CycleCount 0) (lends_journal registers targets journal) ≡ run_journalled_sound d (lends_journal registers targets journal) n
  unfolding run_journalled_sound cycles_answer refused_at ◌before◌
  count_refuses {b} e h = rw (← e, not_true b h)

pub count_small : {n : ℕ} {b : Bool} → b ≡ leb n cycles_max → not b ≡ false → n ≤ cycles_max
count_small {n} {b} e h = leb-true n cycles_max (sym e ∙ not_false b h)

-- behind the count: the room, and the cycles
module _ {image : List ℕ} {x : Design} {table scopes registers targets : List ℕ} (running : Running image x table scopes registers targets) (journal : List ℕ) {n : ℕ} (few : n ≤ cycles_max) {r : Bool} (room : r ≡ has_room (4 * x.registers + 3 * x.states) (count_in journal + n) (length journal)) where
  pub room_refuses : not r ≡ true → left_as (Refused JournalArea 0) (lends_journal registers targets journal) ≡ run_journalled_sound (design_of image) (lends_journal registers targets journal) n
  unfolding run_journalled_sound cycles_answer refused_at ◌before◌
  room_refuses h = rw (le-leb n cycles_max few, lacks_room running.known.describes journal n room h)

  pub run_makes : (registers' targets' : List ℕ) {journal' : List ℕ} → not r ≡ false → AreBytes registers' → Running image x table scopes registers' targets'
      → areas_in (design_of image) registers' targets' ≡ after_cycles (design_of image) n (areas_in (design_of image) registers targets)
      → journal' ≡ journal_with (saved_in (design_of image) journal ++ saved_before (lends registers targets) (cycles (design_of image) n (areas_in (design_of image) registers targets))) journal
      → left_as (Accepted n) (lends_journal registers' targets' journal') ≡ run_journalled_sound (design_of image) (lends_journal registers targets journal) n
  unfolding run_journalled_sound journalled_cycles cycles_answer areas_of refused_at ◌before◌
  run_makes registers' targets' h bytes left areas saved =
      let lent = bytes_left registers' targets' bytes left areas in
      rw (le-leb n cycles_max few, room_accepts (design_of image) journal n (room_kept running.known.describes journal n room h), ← lent, ← saved)

-- ---- a step back
module _ (d : Table) (registers targets journal : List ℕ) (k : ℕ) where
  pub step_refuses : length_answer d (lends registers targets) ≡ Refused Area 0 → left_as (Refused Area 0) (lends_journal registers targets journal) ≡ step_back_on d (lends_journal registers targets journal) k
  unfolding step_back_on ◌before◌
  step_refuses h = rw h

module _ {image : List ℕ} {x : Design} (registers targets journal : List ℕ) (k : ℕ) {r : Bool} (room : r ≡ has_room (4 * x.registers + 3 * x.states) (count_in journal + 0) (length journal)) (known : Describes image x) (area : length registers ≡ 4 * x.registers) (states : length targets ≡ 3 * x.states) where
  right : length_answer (design_of image) (lends registers targets) ≡ Accepted 0
  right = right_lengths registers targets known area states

  pub step_lacks_room : not r ≡ true → left_as (Refused JournalArea 0) (lends_journal registers targets journal) ≡ step_back_on (design_of image) (lends_journal registers targets journal) k
  unfolding step_back_on ◌before◌
  step_lacks_room h = rw (right, lacks_room known journal 0 room h)

  module _ (h : not r ≡ false) where
    pub step_room : RoomKeeps (design_of image) journal 0
    step_room = room_kept known journal 0 room h

    pub step_counts : count_length ≤ length journal
    step_counts = step_room.counts

    pub step_too_far : {n : ℕ} → n ≡ count_in journal → n < k → left_as (Refused StepsBack 0) (lends_journal registers targets journal) ≡ step_back_on (design_of image) (lends_journal registers targets journal) k
    unfolding step_back_on steps_answer refused_at ◌before◌
    step_too_far counted l = rw (right, room_accepts (design_of image) journal 0 step_room, lt-leb k (count_in journal) (omega arith))

    pub step_none : k ≡ 0 → left_as (Accepted 0) (lends_journal registers targets journal) ≡ step_back_on (design_of image) (lends_journal registers targets journal) k
    unfolding step_back_on steps_answer refused_at ◌before◌
    step_none e = rw (e, right, room_accepts (design_of image) journal 0 step_room, le-leb 0 (count_in journal) (omega arith))
