-- What an accepted call with a journal found in order, and what it leaves: each stage before the acceptance was passed, and stages that are passed accept.
use Prim.Native.Nat.{ℕ, zero, suc, ◌+◌, ◌*◌, ◌-◌, ◌≤◌, ◌<◌}
use mathlib.Core.Path.{◌≡◌, refl, sym, ◌∙◌, ap}
use mathlib.Core.Logic.{◌⊎◌, inl, inr}
use mathlib.Core.List.{List, [], ◌∷◌, ◌++◌}
use native.Mathlib.Omega.{arith}
use native.Mathlib.Nat.{mul-le-mul_left}
use lib.ListN.{length, length-append}
use Rattle.model.specs.declared.Refusal.{Refusal}
use Rattle.model.specs.declared.Refusal.TheVariants.{Area, CycleCount, JournalArea, StepsBack}
use Rattle.model.specs.Limits.{value_count, cycles_max}
use Rattle.model.specs.Image.{Design, design_of}
use Rattle.model.specs.Verdict.{verdict, ◌before◌, refused_at}
use Rattle.model.specs.Answers.{Answer, Accepted, Refused, numbers_of}
use Rattle.model.specs.Machine.{cycles, after_cycles}
use Rattle.model.specs.Calls.{Lent, Left, areas_of, lent_of, cycles_answer, reset_answer, run_answer, run}
use Rattle.model.specs.Parties.{resets, runs, perform, RightLengths}
use Rattle.model.specs.Refusals.{Pass, ◌asks◌, at, image_table}
use Rattle.model.proofs.Laws.Equivalences.{at_most_iff}
use Rattle.model.proofs.Laws.Found.{zero_unless_iff}
use Rattle.model.proofs.Laws.Numbers.{no_number_zero}
use Rattle.model.proofs.Laws.Verdict.{refused_is_not_accepted, first_accepts, later_accepts, found_nothing}
use Rattle.model.proofs.Laws.Broken.{Decides, all_kept_append}
use Rattle.model.proofs.Refused.{image_decides, reset_decides, run_decides, call_exactly}
use Rattle.model.proofs.Independence.Calls.{reset_leaves}
use Rattle.model.proofs.Grouping.{Ready, Refuses, ready_or_refuses, ready_run, ready_good, cycles_good, good_ready}
use Rattle.journal_model.specs.Journals.{count_length, count_in, journal_with, recounted, saved_length, saved_in, saved_before}
use Rattle.journal_model.specs.Calls.{LentJournal, room_answer, steps_answer, saved_back, run_journalled_answer, run_journalled, saved_answer, step_back_answer, restored, step_back}
use Rattle.journal_model.specs.Rules.{RoomKeeps}
use Rattle.journal_model.proofs.Laws.{AllSized, sized_append, sized_in, length-saved_in, length-run_saved, count_with, saved_in_with, length-with, before_sized, room_iff}
use Rattle.journal_model.proofs.Exact.{run_journalled_decides, step_back_decides}
use Rattle.model.proofs.Laws.Left.{left_answer}

-- an answer of number 0 is the acceptance with its count
accepted_answer : {a : Answer} {n : ℕ} {passes : List Pass} → Decides a n passes → (numbers_of a).number ≡ 0 → a ≡ Accepted n
accepted_answer {a} {n} decides e = go decides.either
  where
    go : (a ≡ Accepted n) ⊎ ((refusal : Refusal) × (place : ℕ) × (a ≡ Refused refusal place)) → a ≡ Accepted n
    go (inl h) = h
    go (inr (refusal, place, h)) = absurd (no_number_zero refusal (rw h at e))

-- whatever it counts
counted_answer : {a : Answer} {n c : ℕ} {passes : List Pass} → Decides a n passes → a ≡ Accepted c → a ≡ Accepted n
counted_answer decides e = accepted_answer decides (ap (λ (a : Answer). (numbers_of a).number) e)

-- ---- a run
module _ (image : List ℕ) (lent : Lent) (n : ℕ) where
  ready_accepts : Ready image lent → n ≤ cycles_max → run_answer image lent n ≡ Accepted n
  unfolding perform
  ready_accepts ready l = (run_decides image lent n).accepts.1 ((call_exactly image lent (runs n)).answers.accepted.0 (rw (ready_run image lent ready n l)))

  accepts_ready : run_answer image lent n ≡ Accepted n → Ready image lent
  unfolding run
  accepts_ready e = go (ready_or_refuses image lent)
    where
      go : Ready image lent ⊎ Refuses image lent → Ready image lent
      go (inl ready) = ready
      go (inr refuses) =
          let told : (run image lent n).answer ≡ Accepted n = rw e in
          absurd (refused_is_not_accepted refuses.refusal refuses.place n (sym (ap (λ (left : Left Lent). left.answer) (refuses.refused n)) ∙ told))

  accepts_few : run_answer image lent n ≡ Accepted n → n ≤ cycles_max
  unfolding run_answer cycles_answer
  accepts_few e =
      let judged = later_accepts _ _ (later_accepts _ _ (later_accepts _ _ (later_accepts _ _ (later_accepts (verdict image) _ e)))) in
      at_most_iff.0 (zero_unless_iff.0 (found_nothing CycleCount _ (first_accepts _ _ judged).1))

-- ---- a journalled run
pub record RunsJournalled (image : List ℕ) (lent : LentJournal) (n : ℕ) : Type 0 where
  pub ready : Ready image lent.areas
  pub few : n ≤ cycles_max
  pub room : RoomKeeps (design_of image) lent.journal n

-- the states that a journal has after a journalled run
abbrev pub saved_after : Design → LentJournal → ℕ → List Lent
saved_after d lent n = saved_in d lent.journal ++ saved_before lent.areas (cycles d n (areas_of d lent.areas))

-- the three areas after it
abbrev pub after_run : Design → LentJournal → ℕ → LentJournal
after_run d lent n =
    record { areas = lent_of (after_cycles d n (areas_of d lent.areas)); journal = journal_with (saved_after d lent n) lent.journal }

module _ (image : List ℕ) (lent : LentJournal) (n : ℕ) where
  pub accepted_runs : (numbers_of (run_journalled image lent n).answer).number ≡ 0 → RunsJournalled image lent n
  unfolding run_journalled run_journalled_answer room_answer
  accepted_runs e =
      let whole = accepted_answer (run_journalled_decides image lent n) (rw (left_answer (run_journalled_answer image lent n)) at e) in
      let ran = counted_answer (run_decides image lent.areas n) (first_accepts (run_answer image lent.areas n) _ whole).1 in
      record {
        ready = accepts_ready image lent.areas n ran;
        few = accepts_few image lent.areas n ran;
        room = (room_iff (design_of image) lent.journal n).0 (zero_unless_iff.0 (found_nothing JournalArea _ (first_accepts _ _ (later_accepts _ _ whole)).1));
      }

  pub runs_leaves : RunsJournalled image lent n → run_journalled image lent n ≡ record { answer = Accepted n; lent = after_run (design_of image) lent n }
  unfolding run_journalled run_journalled_answer room_answer refused_at ◌before◌
  runs_leaves r =
      rw (
        ready_accepts image lent.areas n r.ready r.few,
        (room_iff (design_of image) lent.journal n).1 r.room,
        ready_run image lent.areas r.ready n r.few,
      )

-- ---- what a journal has after an accepted run
-- room for more is room for fewer
pub room_fewer : {d : Design} {journal : List ℕ} {n : ℕ} (m : ℕ) → m ≤ n → RoomKeeps d journal n → RoomKeeps d journal m
room_fewer {d} {journal} {n} m l r =
    record {
      counts = r.counts;
      room = let fewer = mul-le-mul_left (saved_length d) (sum (count_in journal) l) in let whole = r.room in omega arith;
      fits = let whole = r.fits in omega arith;
    }
  where
    sum : (c : ℕ) → m ≤ n → c + m ≤ c + n
    sum c l = omega arith

-- room for a journal's own states
pub room_own : {d : Design} {journal : List ℕ} {n : ℕ} → RoomKeeps d journal n → count_length + saved_length d * count_in journal ≤ length journal
room_own {d} {journal} r = let own = (room_fewer 0 (omega arith) r).room in let none : count_in journal + 0 ≡ count_in journal = omega arith in rw none at own

module _ (image : List ℕ) (lent : LentJournal) (n : ℕ) (r : RunsJournalled image lent n) where
  pub after_sized : AllSized (design_of image) (saved_after (design_of image) lent n)
  after_sized =
      sized_append
      (sized_in lent.journal (room_own r.room))
      (before_sized image r.ready.accepted n r.ready.lengths (ready_good image lent.areas r.ready))

  pub after_many : length (saved_after (design_of image) lent n) ≡ count_in lent.journal + n
  after_many = rw (length-append, length-saved_in, length-run_saved)

  after_fits : length (saved_after (design_of image) lent n) < value_count
  after_fits = rw after_many r.room.fits

  pub after_count : count_in (after_run (design_of image) lent n).journal ≡ count_in lent.journal + n
  after_count = count_with (saved_after (design_of image) lent n) lent.journal after_fits ∙ after_many

  pub after_saved : saved_in (design_of image) (after_run (design_of image) lent n).journal ≡ saved_after (design_of image) lent n
  after_saved = saved_in_with lent.journal after_sized after_fits

  after_length : length (after_run (design_of image) lent n).journal ≡ length lent.journal
  after_length = length-with lent.journal after_sized (rw after_many r.room.room)

  -- room for so many more as it had room for beside the cycles run
  pub after_room : (m : ℕ) → RoomKeeps (design_of image) lent.journal (n + m) → RoomKeeps (design_of image) (after_run (design_of image) lent n).journal m
  after_room m whole =
      let sum : count_in lent.journal + n + m ≡ count_in lent.journal + (n + m) = omega arith in
      record { counts = rw after_length whole.counts; room = rw (after_length, after_count, sum) whole.room; fits = rw (after_count, sum) whole.fits }

  -- the areas after any number of cycles are ready
  pub after_ready : (m : ℕ) → Ready image (lent_of (after_cycles (design_of image) m (areas_of (design_of image) lent.areas)))
  after_ready m =
      let d = design_of image in
      let accepted = r.ready.accepted in
      good_ready image accepted (after_cycles d m (areas_of d lent.areas)) (cycles_good image accepted m (areas_of d lent.areas) (ready_good image lent.areas r.ready))

-- ---- a step back
pub record GoesBack (image : List ℕ) (lent : LentJournal) (k : ℕ) : Type 0 where
  pub accepted : verdict image ≡ Accepted 0
  pub lengths : RightLengths (design_of image) lent.areas
  pub room : RoomKeeps (design_of image) lent.journal 0
  pub steps : k ≤ count_in lent.journal
  pub sound : 0 < k → Ready image (saved_back (design_of image) lent.journal k)

-- the three areas after a step back by more than none
abbrev pub after_back : Design → LentJournal → ℕ → LentJournal
after_back d lent k = record { areas = saved_back d lent.journal k; journal = recounted (count_in lent.journal - k) lent.journal }

module _ (image : List ℕ) (lent : LentJournal) where
  saved_sound : (k : ℕ) {c : ℕ} → saved_answer image lent k ≡ Accepted c → 0 < k → Ready image (saved_back (design_of image) lent.journal k)
  unfolding saved_answer
  saved_sound zero e l = absurd (omega arith)
  saved_sound (suc k) e l =
      let saved = saved_back (design_of image) lent.journal (suc k) in
      accepts_ready image saved 0 (counted_answer (run_decides image saved 0) e)

  saved_accepts : (k : ℕ) → (0 < k → Ready image (saved_back (design_of image) lent.journal k)) → saved_answer image lent k ≡ Accepted 0
  unfolding saved_answer
  saved_accepts zero sound = refl
  saved_accepts (suc k) sound = ready_accepts image (saved_back (design_of image) lent.journal (suc k)) 0 (sound (omega arith)) (omega arith)

  pub accepted_goes_back : (k : ℕ) → (numbers_of (step_back image lent k).answer).number ≡ 0 → GoesBack image lent k
  unfolding step_back step_back_answer room_answer steps_answer
  accepted_goes_back k e =
      let d = design_of image in
      let whole = accepted_answer (step_back_decides image lent k) (rw (left_answer (step_back_answer image lent k)) at e) in
      let first = counted_answer (reset_decides image lent.areas) (first_accepts (reset_answer image lent.areas) _ whole).1 in
      let kept = (all_kept_append (image_table image) ((Area asks at 0 (RightLengths d lent.areas) ∷ []) ∷ [])).0 ((reset_decides image lent.areas).accepts.0 first) in
      let journal = later_accepts _ _ whole in
      let steps = later_accepts _ _ journal in
      record {
        accepted = (image_decides image).accepts.1 kept.0;
        lengths = (kept.1.0 0).0 refl;
        room = (room_iff d lent.journal 0).0 (zero_unless_iff.0 (found_nothing JournalArea _ (first_accepts _ _ journal).1));
        steps = at_most_iff.0 (zero_unless_iff.0 (found_nothing StepsBack _ (first_accepts _ _ steps).1));
        sound = saved_sound k (first_accepts _ _ (later_accepts _ _ steps)).1;
      }

  reset_accepts : verdict image ≡ Accepted 0 → RightLengths (design_of image) lent.areas → reset_answer image lent.areas ≡ Accepted 0
  unfolding perform
  reset_accepts accepted lengths =
      (reset_decides image lent.areas).accepts.1 ((call_exactly image lent.areas resets).answers.accepted.0 (rw (reset_leaves image accepted lent.areas lengths)))

  goes_back_accepts : (k : ℕ) → GoesBack image lent k → step_back_answer image lent k ≡ Accepted k
  unfolding step_back_answer room_answer steps_answer refused_at ◌before◌
  goes_back_accepts k g =
      let d = design_of image in
      rw (
        reset_accepts g.accepted g.lengths,
        (room_iff d lent.journal 0).1 g.room,
        (at_most_iff {a = k} {b = count_in lent.journal}).1 g.steps,
        saved_accepts k g.sound,
      )

  pub back_accepts : (k : ℕ) → GoesBack image lent k → (step_back image lent k).answer ≡ Accepted k
  unfolding step_back
  back_accepts k g = left_answer (step_back_answer image lent k) lent (restored image lent k) ∙ goes_back_accepts k g

  pub back_leaves : (k : ℕ) → 0 < k → GoesBack image lent k → (step_back image lent k).lent ≡ after_back (design_of image) lent k
  unfolding step_back restored
  back_leaves zero l g = absurd (omega arith)
  back_leaves (suc k) l g = rw (goes_back_accepts (suc k) g)
