-- A journalled run may be cut: the first part leaves areas and a journal that the second finds in order, and the second saves behind what the first saved.
use Prim.Native.Nat.{ℕ, ◌+◌}
use mathlib.Core.Path.{◌≡◌, refl, sym, ◌∙◌, ap}
use mathlib.Core.List.{List, ◌++◌, append_assoc}
use native.Mathlib.Omega.{arith}
use Rattle.model.specs.Image.{Design, AreBytes, design_of}
use Rattle.model.specs.Answers.{Accepted, numbers_of}
use Rattle.model.specs.Machine.{Areas, cycles, after_cycles}
use Rattle.model.specs.Calls.{Lent, areas_of, lent_of, Left}
use Rattle.model.proofs.Laws.Cycles.{after_sum}
use Rattle.model.proofs.Exact.{verdict_exact}
use Rattle.model.proofs.Independence.Calls.{areas_of_lent}
use Rattle.model.proofs.Grouping.{ready_good, ready_back, cycles_good}
use Rattle.journal_model.specs.Journals.{journal_with, saved_in, saved_before}
use Rattle.journal_model.specs.Calls.{LentJournal, run_journalled}
use Rattle.journal_model.proofs.Laws.{before_sum, before_sized, with_more}
use Rattle.journal_model.proofs.Accepted.{RunsJournalled, saved_after, after_run, accepted_runs, runs_leaves, room_fewer, after_sized, after_saved, after_room, after_ready}

-- Two journalled runs, the second from what the first leaves, against one: both are accepted, each with its count, and leave the same three areas.
pub record InHalves (n m : ℕ) (first second whole : Left LentJournal) : Type 0 where
  pub first_count : first.answer ≡ Accepted n
  pub second_count : second.answer ≡ Accepted m
  pub same : second.lent ≡ whole.lent

module _ (image : List ℕ) (lent : LentJournal) (bytes : AreBytes lent.areas.registers) (n m : ℕ) (whole : RunsJournalled image lent (n + m)) where
  abbrev d : Design
  d = design_of image

  abbrev start : Areas
  start = areas_of d lent.areas

  abbrev middle : Areas
  middle = after_cycles d n start

  first_runs : RunsJournalled image lent n
  first_runs = record { ready = whole.ready; few = let few = whole.few in omega arith; room = room_fewer n (omega arith) whole.room }

  second_runs : RunsJournalled image (after_run d lent n) m
  second_runs =
      record { ready = after_ready image lent n first_runs n; few = let few = whole.few in omega arith; room = after_room image lent n first_runs m whole.room }

  -- the bytes that the first part leaves are read back as the values that it wrote
  middle_back : areas_of d (lent_of middle) ≡ middle
  middle_back =
      let accepted = whole.ready.accepted in
      areas_of_lent d ((verdict_exact image).0 accepted).design.structure middle (cycles_good image accepted n start (ready_good image lent.areas whole.ready))

  both_saved : saved_after d lent n ++ saved_before (lent_of middle) (cycles d m middle) ≡ saved_after d lent (n + m)
  both_saved =
      append_assoc (saved_in d lent.journal) (saved_before lent.areas (cycles d n start)) (saved_before (lent_of middle) (cycles d m middle))
      ∙ ap (λ (saved : List Lent). saved_in d lent.journal ++ saved) (sym (rw (ready_back image lent.areas whole.ready bytes) at (before_sum d n m start)))

  both_journals : journal_with (saved_after d (after_run d lent n) m) (after_run d lent n).journal ≡ journal_with (saved_after d lent (n + m)) lent.journal
  both_journals =
      let accepted = whole.ready.accepted in
      let good = cycles_good image accepted n start (ready_good image lent.areas whole.ready) in
      let sized = before_sized image accepted m (after_ready image lent n first_runs n).lengths good in
      rw (after_saved image lent n first_runs, middle_back)
      (with_more lent.journal (after_sized image lent n first_runs) sized ∙ ap (λ (saved : List Lent). journal_with saved lent.journal) both_saved)

  both_areas : lent_of (after_cycles d m (areas_of d (lent_of middle))) ≡ lent_of (after_cycles d (n + m) start)
  both_areas = rw (middle_back, after_sum d n m start)

  halves_of_run : InHalves n m (record { answer = Accepted n; lent = after_run d lent n }) (run_journalled image (after_run d lent n) m) (run_journalled image lent (n + m))
  halves_of_run =
      rw (runs_leaves image (after_run d lent n) m second_runs, runs_leaves image lent (n + m) whole)
      (record { first_count = refl; second_count = refl; same = λ i. record { areas = both_areas i; journal = both_journals i } })

pub halves : (image : List ℕ) (lent : LentJournal) → AreBytes lent.areas.registers → (n m : ℕ) → (numbers_of (run_journalled image lent (n + m)).answer).number ≡ 0
    → InHalves n m (run_journalled image lent n) (run_journalled image (run_journalled image lent n).lent m) (run_journalled image lent (n + m))
halves image lent bytes n m e =
    let whole = accepted_runs image lent (n + m) e in
    rw (runs_leaves image lent n (first_runs image lent bytes n m whole)) (halves_of_run image lent bytes n m whole)
