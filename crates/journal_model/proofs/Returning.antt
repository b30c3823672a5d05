-- Going back undoes cycles: what a journalled run saved before each of its cycles is read back from the journal, and it is what a shorter run leaves.
use Prim.Native.Nat.{ℕ, zero, suc, ◌+◌, ◌-◌, ◌≤◌, ◌<◌}
use mathlib.Core.Path.{◌≡◌, refl, sym, ◌∙◌, ap}
use mathlib.Core.List.{List, ◌++◌, append-nil}
use native.Mathlib.Omega.{arith}
use native.Mathlib.Nat.{mul-le-mul_left}
use lib.ListN.{length, get_or, take, drop}
use lib.Seq.{get_or-append-add, take-append-add, get_or-take}
use Rattle.model.specs.Limits.{value_count}
use Rattle.model.specs.Image.{Design, AreBytes, design_of}
use Rattle.model.specs.Answers.{Accepted, numbers_of}
use Rattle.model.specs.Machine.{Areas, cycles, after_cycles}
use Rattle.model.specs.Calls.{Lent, areas_of, lent_of, run, Left}
use Rattle.model.proofs.Grouping.{ready_run, ready_back, none_left}
use Rattle.journal_model.specs.Journals.{count_length, count_in, nothing_saved, saved_length, saved_in, saved_before}
use Rattle.journal_model.specs.Calls.{LentJournal, saved_back, run_journalled, step_back, step_back_answer, restored}
use Rattle.journal_model.specs.Rules.{RoomKeeps}
use Rattle.journal_model.proofs.Laws.{length-saved_in, count_recounted, recounted_behind, recounted_twice, length-recounted, saved_recounted, before_fewer, before_at}
use Rattle.journal_model.proofs.Accepted.{RunsJournalled, saved_after, after_run, accepted_runs, runs_leaves, after_count, after_saved, after_room, after_ready, GoesBack, after_back, accepted_goes_back, back_accepts, back_leaves}
use Rattle.model.proofs.Laws.Left.{left_same}

-- "With k of 0 nothing changes", whatever is answered
pub back_none : (image : List ℕ) (lent : LentJournal) → (step_back image lent 0).lent ≡ lent
unfolding step_back restored
back_none image lent = left_same (step_back_answer image lent 0) lent

-- What a step back by k leaves after a journalled run of n: the areas that a run of n - k leaves, a journal that counts and saves what it leaves, and every byte
-- behind the count as it was before the step.
pub record BackAt (image : List ℕ) (lent ran : LentJournal) (k m : ℕ) (left : Left LentJournal) : Type 0 where
  pub answer : left.answer ≡ Accepted k
  pub areas : left.lent.areas ≡ (run image lent.areas m).lent
  pub count : count_in left.lent.journal ≡ count_in lent.journal + m
  pub saved :
      saved_in (design_of image) left.lent.journal
      ≡ saved_in (design_of image) lent.journal ++ saved_before lent.areas (cycles (design_of image) m (areas_of (design_of image) lent.areas))
  pub behind : drop count_length left.lent.journal ≡ drop count_length ran.journal

module _ (image : List ℕ) (lent : LentJournal) (bytes : AreBytes lent.areas.registers) (n : ℕ) (r : RunsJournalled image lent n) where
  abbrev d : Design
  d = design_of image

  abbrev start : Areas
  start = areas_of d lent.areas

  abbrev ran : LentJournal
  ran = after_run d lent n

  own : lent_of start ≡ lent.areas
  own = ready_back image lent.areas r.ready bytes

  -- the state that the journal saved before the k-th last cycle of the run
  back_state : (k : ℕ) → 0 < k → k ≤ n → saved_back d ran.journal k ≡ lent_of (after_cycles d (n - k) start)
  unfolding saved_back
  back_state k some l =
      let place : count_in lent.journal + n - k ≡ length (saved_in d lent.journal) + (n - k) = let many = length-saved_in d lent.journal in omega arith in
      rw (after_saved image lent n r, after_count image lent n r, place)
      (get_or-append-add (saved_in d lent.journal) (saved_before lent.areas (cycles d n start)) (n - k) nothing_saved
      ∙ ap (λ (saved : Lent). get_or (saved_before saved (cycles d n start)) (n - k) nothing_saved) (sym own)
      ∙ before_at d n (n - k) start (omega arith))

  back_goes : (k : ℕ) → k ≤ n → GoesBack image ran k
  back_goes k l =
      record {
        accepted = r.ready.accepted;
        lengths = (after_ready image lent n r n).lengths;
        room = let all : n + 0 ≡ n = omega arith in after_room image lent n r 0 (rw all r.room);
        steps = rw (after_count image lent n r) (omega arith);
        sound = λ some. rw (back_state k some l) (after_ready image lent n r (n - k));
      }

  as_run : (m : ℕ) → m ≤ n → lent_of (after_cycles d m start) ≡ (run image lent.areas m).lent
  as_run m l = let few = r.few in rw (ready_run image lent.areas r.ready m (omega arith))

  back_saved : (k : ℕ) → k ≤ n → take (count_in lent.journal + n - k) (saved_after d lent n) ≡ saved_after d lent (n - k)
  back_saved k l =
      let place : count_in lent.journal + n - k ≡ length (saved_in d lent.journal) + (n - k) = let many = length-saved_in d lent.journal in omega arith in
      rw place
      (take-append-add (saved_in d lent.journal) (saved_before lent.areas (cycles d n start)) (n - k)
      ∙ ap (λ (saved : List Lent). saved_in d lent.journal ++ saved) (before_fewer d (n - k) n lent.areas start (omega arith)))

  back_of_run : (k : ℕ) → k ≤ n → BackAt image lent ran k (n - k) (step_back image ran k)
  back_of_run zero l =
      let whole : n - 0 ≡ n = omega arith in
      rw whole
      (record {
        answer = back_accepts image ran 0 (back_goes 0 l);
        areas = rw (back_none image ran) (as_run n (omega arith));
        count = rw (back_none image ran) (after_count image lent n r);
        saved = rw (back_none image ran) (after_saved image lent n r);
        behind = rw (back_none image ran) refl;
      })
  back_of_run (suc k) l =
      let goes = back_goes (suc k) l in
      let leaves = back_leaves image ran (suc k) (omega arith) goes in
      let fits = r.room.fits in
      let counted : count_in ran.journal - suc k ≡ count_in lent.journal + (n - suc k) = let all = after_count image lent n r in omega arith in
      record {
        answer = back_accepts image ran (suc k) goes;
        areas = rw leaves (back_state (suc k) (omega arith) l ∙ as_run (n - suc k) (omega arith));
        count = rw leaves (count_recounted (count_in ran.journal - suc k) ran.journal (omega arith) ∙ counted);
        saved = rw leaves (saved_recounted d (count_in ran.journal - suc k) ran.journal (omega arith) (omega arith) ∙ rw (after_saved image lent n r, after_count image lent n r) (back_saved (suc k) l));
        behind = rw leaves (recounted_behind (count_in ran.journal - suc k) ran.journal);
      }

-- of an accepted journalled run
pub back_by : (image : List ℕ) (lent : LentJournal) → AreBytes lent.areas.registers → (n k : ℕ) → k ≤ n → (numbers_of (run_journalled image lent n).answer).number ≡ 0
    → BackAt image lent (run_journalled image lent n).lent k (n - k) (step_back image (run_journalled image lent n).lent k)
back_by image lent bytes n k l e = let r = accepted_runs image lent n e in rw (runs_leaves image lent n r) (back_of_run image lent bytes n r k l)

-- What a step back over a whole run leaves: the areas as they were, a journal that counts and saves what it did, and every byte behind the count as the run left it.
pub record Returned (image : List ℕ) (lent ran : LentJournal) (n : ℕ) (left : Left LentJournal) : Type 0 where
  pub answer : left.answer ≡ Accepted n
  pub areas : left.lent.areas ≡ lent.areas
  pub count : count_in left.lent.journal ≡ count_in lent.journal
  pub saved : saved_in (design_of image) left.lent.journal ≡ saved_in (design_of image) lent.journal
  pub behind : drop count_length left.lent.journal ≡ drop count_length ran.journal

pub back_whole : (image : List ℕ) (lent : LentJournal) → AreBytes lent.areas.registers → (n : ℕ) → (numbers_of (run_journalled image lent n).answer).number ≡ 0
    → Returned image lent (run_journalled image lent n).lent n (step_back image (run_journalled image lent n).lent n)
unfolding saved_before cycles
back_whole image lent bytes n e =
    let back = back_by image lent bytes n n (omega arith) e in
    let none : n - n ≡ 0 = omega arith in
    record {
      answer = back.answer;
      areas = back.areas ∙ rw none (none_left image lent.areas bytes);
      count = back.count ∙ omega arith;
      saved = back.saved ∙ rw none (append-nil (saved_in (design_of image) lent.journal));
      behind = back.behind;
    }

-- ---- two steps back are one: a journal that counts fewer saved states still has the first of them
module _ (image : List ℕ) (lent : LentJournal) (j k : ℕ) (some : 0 < j) (whole : GoesBack image lent (j + k)) (first : GoesBack image lent j) where
  abbrev between : LentJournal
  between = after_back (design_of image) lent j

  between_few : count_in lent.journal - j < value_count
  between_few = let fits = whole.room.fits in omega arith

  between_count : count_in between.journal ≡ count_in lent.journal - j
  between_count = count_recounted (count_in lent.journal - j) lent.journal between_few

  between_state : 0 < k → saved_back (design_of image) between.journal k ≡ saved_back (design_of image) lent.journal (j + k)
  unfolding saved_back
  between_state more =
      let steps = whole.steps in
      let place : count_in lent.journal - j - k ≡ count_in lent.journal - (j + k) = omega arith in
      rw (between_count, saved_recounted (design_of image) (count_in lent.journal - j) lent.journal (omega arith) between_few)
      (get_or-take (count_in lent.journal - j) (saved_in (design_of image) lent.journal) (count_in lent.journal - j - k) nothing_saved (omega arith)
      ∙ ap (λ (i : ℕ). get_or (saved_in (design_of image) lent.journal) i nothing_saved) place)

  between_room : RoomKeeps (design_of image) between.journal 0
  between_room =
      let same = length-recounted (count_in lent.journal - j) lent.journal whole.room.counts in
      record {
        counts = rw same whole.room.counts;
        room = rw (same, between_count) (let fewer = mul-le-mul_left (saved_length (design_of image)) (fewer (count_in lent.journal)) in let all = whole.room.room in omega arith);
        fits = rw between_count (let few = between_few in omega arith);
      }
    where
      fewer : (c : ℕ) → c - j + 0 ≤ c + 0
      fewer c = omega arith

  between_goes : GoesBack image between k
  between_goes =
      record {
        accepted = whole.accepted;
        lengths = (first.sound some).lengths;
        room = between_room;
        steps = rw between_count (let steps = whole.steps in omega arith);
        sound = λ more. rw (between_state more) (whole.sound (omega arith));
      }

  between_leaves : (l : ℕ) → l ≡ k → (step_back image between l).lent ≡ after_back (design_of image) lent (j + l)
  between_leaves zero e = let all : j + 0 ≡ j = omega arith in rw all (back_none image between)
  between_leaves (suc l) e =
      let counted : count_in between.journal - suc l ≡ count_in lent.journal - (j + suc l) = let count = between_count in omega arith in
      let state = between_state (omega arith) in
      back_leaves image between (suc l) (omega arith) (rw e between_goes)
      ∙ rw (counted, e) (λ i. record { areas = state i; journal = recounted_twice (count_in lent.journal - (j + k)) (count_in lent.journal - j) lent.journal i })

pub back_twice : (image : List ℕ) (lent : LentJournal) (j k : ℕ)
    → (numbers_of (step_back image lent (j + k)).answer).number ≡ 0
    → (numbers_of (step_back image lent j).answer).number ≡ 0
    → step_back image (step_back image lent j).lent k ≡ record { answer = Accepted k; lent = (step_back image lent (j + k)).lent }
back_twice image lent zero k whole first =
    let all : 0 + k ≡ k = omega arith in
    let goes = accepted_goes_back image lent (0 + k) whole in
    rw (back_none image lent, all) (λ i. record { answer = back_accepts image lent k (rw all at goes) i; lent = (step_back image lent k).lent })
back_twice image lent (suc j) k whole first =
    let goes = accepted_goes_back image lent (suc j + k) whole in
    let begins = accepted_goes_back image lent (suc j) first in
    rw (back_leaves image lent (suc j) (omega arith) begins, back_leaves image lent (suc j + k) (omega arith) goes)
    (λ i. record {
      answer = back_accepts image (after_back (design_of image) lent (suc j)) k (between_goes image lent (suc j) k (omega arith) goes begins) i;
      lent = between_leaves image lent (suc j) k (omega arith) goes begins k refl i;
    })
