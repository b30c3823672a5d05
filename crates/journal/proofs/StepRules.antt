-- The state that a step back restores is judged, and taken, where it lies in the journal.
use Rattle.std.specs.Prelude.{Err}
use Prim.Native.Nat.{ℕ, zero, suc, ◌+◌, ◌-◌, ◌*◌, ◌^◌, ◌≤◌, ◌<◌}
use mathlib.Core.Path.{◌≡◌, refl, sym, ◌∙◌, ap}
use mathlib.Core.List.{List}
use native.Mathlib.Omega.{arith}
use lib.ListN.{length, take, drop, length-drop}
use lib.Seq.{length-take-le, drop-drop}
use borrow.Author.Tests.{le-leb}
use mir.Syntax.{w64}
use mir.Val.{Fits}
use Rattle.model.specs.declared.RefusedAt.{RefusedAt}
use Rattle.model.specs.Answers.{Answer, Accepted}
use Rattle.model.specs.Image.{Design as Table, design_of}
use Rattle.model.specs.Verdict.{refused_at, ◌before◌}
use Rattle.model.specs.Calls.{length_answer, left_as, leaves}
use Rattle.design.specs.declared.Design.{Design}
use Rattle.design.specs.Describes.{Describes}
use Rattle.design.specs.Resets.{lends}
use Rattle.design.specs.Words.{put_word}
use Rattle.design.proofs.Laws.{registers_count, states_count}
use Rattle.running.specs.Stages.{sound_on}
use Rattle.calls.proofs.CallRules.{right_lengths}
use Rattle.journal_model.specs.Journals.{count_length, count_in, recounted, saved_length, saved_of}
use Rattle.journal_model.specs.Calls.{LentJournal, steps_answer, saved_back}
use Rattle.journal_model.specs.Rules.{RoomKeeps}
use Rattle.journal_model.proofs.Laws.{saved_back_bytes}
use Rattle.journal_saving.specs.Bytes.{part_of}
use Rattle.journal_saving.proofs.JournalRules.{count_put}
use Rattle.journal_saving.proofs.SavingRules.{saved_size, one_inside}
use Rattle.design.specs.declared.image.Image.{Image}
use Rattle.design.specs.Images.{design_in}
use Rattle.journal.specs.Returning.{Returning}
use Rattle.journal.specs.Stages.{lends_journal, stepped_back, step_back_on}
use Rattle.journal.proofs.StageRules.{room_accepts}

positive : (k : ℕ) → (k ≡ 0 → ⊥) → 0 < k
positive zero h = absurd (h refl)
positive (suc k) h = omega arith

-- ---- a saved state where it lies
part_long : (bytes : List ℕ) (at size : ℕ) → at + size ≤ length bytes → length (take size (drop at bytes)) ≡ size
part_long bytes at size l = let behind = length-drop at bytes in length-take-le size (drop at bytes) (omega arith)

module _ {image : List ℕ} {x : Design} (known : Describes image x) (journal : List ℕ) (at : ℕ) (room : at + saved_length (design_of image) ≤ length journal) where
  pub saved_end : at + 4 * x.registers + 3 * x.states ≤ length journal
  saved_end = let size = saved_size known in omega arith

  pub saved_middle : at + 4 * x.registers ≤ length journal
  saved_middle = let end = saved_end in omega arith

  pub middle_fits : length journal < 2 ^ 64 → Fits w64 (at + 4 * x.registers)
  middle_fits short = let end = saved_end in record { fits = omega arith }

  pub end_fits : length journal < 2 ^ 64 → Fits w64 (at + 4 * x.registers + 3 * x.states)
  end_fits short = let end = saved_end in record { fits = omega arith }

  pub saved_registers_long : length (take (at + 4 * x.registers - at) (drop at journal)) ≡ 4 * x.registers
  saved_registers_long =
      let end = saved_end in
      let size : at + 4 * x.registers - at ≡ 4 * x.registers = omega arith in
      rw size (part_long journal at (4 * x.registers) (omega arith))

  pub saved_targets_long : length (take (at + 4 * x.registers + 3 * x.states - (at + 4 * x.registers)) (drop (at + 4 * x.registers) journal)) ≡ 3 * x.states
  saved_targets_long =
      let end = saved_end in
      let size : at + 4 * x.registers + 3 * x.states - (at + 4 * x.registers) ≡ 3 * x.states = omega arith in
      rw size (part_long journal (at + 4 * x.registers) (3 * x.states) end)

-- the saved state by its parts
module _ {image : List ℕ} {x : Design} (known : Describes image x) (journal : List ℕ) (at : ℕ) where
  parts_are : lends (take (4 * x.registers) (drop at journal)) (take (3 * x.states) (drop (at + 4 * x.registers) journal)) ≡ saved_of (design_of image) (drop at journal)
  unfolding saved_of
  parts_are = rw (registers_count known, states_count known, drop-drop (4 * length (design_of image).registers) at journal)

  pub judged_saved : {a : Answer} → a ≡ sound_on (design_of image) (lends (take (at + 4 * x.registers - at) (drop at journal)) (take (at + 4 * x.registers + 3 * x.states - (at + 4 * x.registers)) (drop (at + 4 * x.registers) journal)))
      → a ≡ sound_on (design_of image) (saved_of (design_of image) (drop at journal))
  judged_saved h =
      let first : at + 4 * x.registers - at ≡ 4 * x.registers = omega arith in
      let second : at + 4 * x.registers + 3 * x.states - (at + 4 * x.registers) ≡ 3 * x.states = omega arith in
      rw (← parts_are) (rw (first, second) at h)

  restored : (registers targets : List ℕ) {registers' targets' : List ℕ} → registers' ≡ part_of at (length registers) journal → targets' ≡ part_of (at + length registers) (length targets) journal
      → length registers ≡ 4 * x.registers
      → length targets ≡ 3 * x.states
      → lends registers' targets' ≡ saved_of (design_of image) (drop at journal)
  unfolding part_of
  restored registers targets e f area states = rw (e, f, area, states) parts_are

-- ---- the step
-- behind 21 and 22 only the saved state is left to judge
step_judges : (d : Table) (lent : LentJournal) (k : ℕ) → (k ≡ 0 → ⊥) → length_answer d lent.areas ≡ Accepted 0 → RoomKeeps d lent.journal 0 → k ≤ count_in lent.journal
    → step_back_on d lent k ≡ leaves (sound_on d (saved_back d lent.journal k) before Accepted k) lent (stepped_back d lent k)
unfolding step_back_on steps_answer refused_at ◌before◌
step_judges d lent zero some right room l = absurd (some refl)
step_judges d lent (suc k) some right room l = rw (right, room_accepts d lent.journal 0 room, le-leb (suc k) (count_in lent.journal) l)

module _ {image : Image} {registers targets journal : List ℕ} {k : ℕ} (back : Returning image registers targets journal k) where
  pub back_fits : {n : ℕ} → n ≡ count_in journal → k ≤ n
  back_fits e = let counted = back.counted in omega arith

  pub back_counts : 4 ≤ length journal
  back_counts = back.room.counts

  judges : step_back_on (design_in image) (lends_journal registers targets journal) k
      ≡ leaves (sound_on (design_in image) (saved_back (design_in image) journal k) before Accepted k) (lends_journal registers targets journal) (stepped_back (design_in image) (lends_journal registers targets journal) k)
  judges = step_judges (design_in image) (lends_journal registers targets journal) k back.some (right_lengths registers targets image.describes back.area back.states) back.room back.counted

  module _ {n at : ℕ} (counted : n ≡ count_in journal) (stands : at ≡ 4 + (4 * image.design.registers + 3 * image.design.states) * (n - k)) where
    place_is : at ≡ count_length + saved_length (design_in image) * (count_in journal - k)
    place_is = rw (saved_size image.describes, ← counted) stands

    saved_is : saved_back (design_in image) journal k ≡ saved_of (design_in image) (drop at journal)
    saved_is =
        saved_back_bytes (design_in image) journal k (positive k back.some) back.counted
        ∙ ap (λ (place : ℕ). saved_of (design_in image) (drop place journal)) (sym place_is)

    pub saved_inside : at + saved_length (design_in image) ≤ length journal
    saved_inside =
        let some = positive k back.some in
        let counted' = back.counted in
        let all : count_in journal + 0 ≡ count_in journal - k + 1 + (k - 1) = omega arith in
        let inside = one_inside (saved_length (design_in image)) (count_in journal - k) (k - 1) all in
        let here = place_is in
        let room = back.room.room in
        omega arith

    pub areas_inside : at + (length registers + length targets) ≤ length journal
    areas_inside =
        let inside = saved_inside in
        let size = saved_size image.describes in
        let area = back.area in
        let states = back.states in
        omega arith

    pub step_unsound : {a : Answer} {why : RefusedAt} → a ≡ Err why → a ≡ sound_on (design_in image) (saved_of (design_in image) (drop at journal))
        → left_as (Err why) (lends_journal registers targets journal) ≡ step_back_on (design_in image) (lends_journal registers targets journal) k
    unfolding ◌before◌
    step_unsound h judged = rw (judges, saved_is, ← judged, h)

    pub step_made : {a : Answer} {c : ℕ} (registers' targets' : List ℕ) {journal' : List ℕ} → a ≡ Accepted c → a ≡ sound_on (design_in image) (saved_of (design_in image) (drop at journal))
        → registers' ≡ part_of at (length registers) journal
        → targets' ≡ part_of (at + length registers) (length targets) journal
        → journal' ≡ put_word journal 0 (n - k)
        → left_as (Accepted k) (lends_journal registers' targets' journal') ≡ step_back_on (design_in image) (lends_journal registers targets journal) k
    unfolding stepped_back ◌before◌
    step_made registers' targets' h judged taken taken' lowered =
        let left = restored image.describes journal at registers targets taken taken' back.area back.states in
        let count = lowered ∙ count_put journal (n - k) back.room.counts ∙ ap (λ (m : ℕ). recounted (m - k) journal) counted in
        rw (judges, saved_is, ← judged, h, ← left, ← count)
