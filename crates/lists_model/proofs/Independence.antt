-- Demand 3 for lists of all calls: a list shows what the canonical run of what remains of it shows (`Rattle.model.proofs.Independence.Lists`). 01's calls lead it as there. A journal
-- that was empty has only what journalled runs saved, and each saved state follows the areas that the canonical run saved at its place; so what a step back restores follows what
-- the canonical run returns to. A replay is its port writes and single cycles made by hand. What is refused leaves all as it is.
use Rattle.std.specs.Prelude.{Err}
use Prim.Native.Nat.{ℕ, zero, suc, ◌-◌, ◌≤◌, ◌<◌}
use mathlib.Core.Path.{◌≡◌, refl, sym, ◌∙◌, ap}
use mathlib.Core.List.{List, [], ◌∷◌, ◌++◌}
use native.Mathlib.Omega.{arith}
use lib.ListN.{length, drop, get_or, take, replicate}
use lib.Seq.{take-take, get_or-take, length-take-le}
use Rattle.model.specs.declared.Refusal.{Refusal}
use Rattle.model.specs.Answers.{Answer, Accepted, Refused}
use Rattle.model.specs.Limits.{value_count}
use Rattle.model.specs.Image.{Design, records_of, design_of}
use Rattle.model.specs.Verdict.{verdict}
use Rattle.model.specs.Neighbours.{common}
use Rattle.model.specs.Machine.{Areas, after_last, after_cycles}
use Rattle.model.specs.Calls.{Left, areas_of, lent_of}
use Rattle.model.specs.Parties.{Event, stepped_back, values_seen, start}
use Rattle.model.specs.Parties as parties
use Rattle.model.proofs.Independence.Relation.{Bisimulation}
use Rattle.model.proofs.Independence.Runs.{Related}
use Rattle.model.proofs.Independence.Lists.{Course, course_of, back_once, followed, widely_followed, followed_end, Agrees, agrees_append, agrees_none, agrees_back, agrees_journalled_cycles, areas_before, start_course, Follows, follows_lent, values_follow, call_leads, list_leads, start_follows, related_cycles}
use Rattle.model.proofs.Independence.Theorem.{common_level, related_neighbours}
use Rattle.journal_model.specs.Journals.{count_length, count_in, saved_length, saved_of, saved_in}
use Rattle.journal_model.specs.Calls.{LentJournal, saved_back, run_journalled_answer, run_journalled, step_back_answer, restored, step_back}
use Rattle.journal_model.specs.Rules.{RoomKeeps}
use Rattle.journal_model.proofs.Laws.{length-saved_in, saved_recounted}
use Rattle.journal_model.proofs.Accepted.{RunsJournalled, after_run, accepted_runs, runs_leaves, after_saved, accepted_goes_back}
use Rattle.replay_model.specs.declared.TraceRecord.{TraceRecord}
use Rattle.replay_model.specs.Traces.{replayed}
use Rattle.replay_model.specs.Calls.{replay_answer, replay}
use Rattle.replay_model.specs.ByHand.{by_hand}
use Rattle.replay_model.proofs.Exact.{replay_answer_lem}
use Rattle.replay_model.proofs.ByHand.{made_by_hand}
use Rattle.lists_model.specs.Lists.{Call, resets, writes, runs, runs_journalled, goes_back, replays, with_journal, perform, performed, events_of, events, at_end, Use, begun, history, remains, views, wider_views, seen_at_end}
use Rattle.lists_model.specs.Demands.{IndependentNeighbours, IndependentWidely}
use Rattle.lists_model.proofs.Saved.{AllFollow, none_follow, follow_length, follow_append, follow_take, follow_at, before_follow}

-- ---- the canonical run goes back
-- k steps back
back_times : ℕ → Course → Course
back_times zero course = course
back_times (suc k) course = back_times k (back_once course)

-- at once
gone_back : ℕ → Course → Course
gone_back zero course = course
gone_back (suc k) course =
    let kept = length course.saved - suc k in
    course_of (get_or course.saved kept course.areas) (take kept course.saved)

-- what stands past the end does not matter within
get_or-there : (xs : List Areas) (i : ℕ) (a b : Areas) → i < length xs → get_or xs i a ≡ get_or xs i b
get_or-there [] i a b l = absurd (omega arith)
get_or-there (x ∷ xs) zero a b l = refl
get_or-there (x ∷ xs) (suc i) a b l = get_or-there xs i a b (omega arith)

back_at_once : (k : ℕ) (course : Course) → k ≤ length course.saved → back_times k course ≡ gone_back k course
unfolding back_times gone_back back_once
back_at_once zero course l = refl
back_at_once (suc zero) course l = refl
back_at_once (suc (suc k)) course l =
    let n = length course.saved in
    let shorter : length (take (n - 1) course.saved) ≡ n - 1 = length-take-le (n - 1) course.saved (omega arith) in
    let kept : n - 1 - suc k ≡ n - suc (suc k) = omega arith in
    back_at_once (suc k) (back_once course) (omega arith)
    ∙ rw (shorter, kept) (
    rw (
      get_or-take (n - 1) course.saved (n - suc (suc k)) (get_or course.saved (n - 1) course.areas) (omega arith),
      take-take (n - suc (suc k)) (n - 1) course.saved (omega arith),
      get_or-there course.saved (n - suc (suc k)) (get_or course.saved (n - 1) course.areas) course.areas (omega arith),
    )
    )

-- ---- what follows the canonical run
-- lent areas and a journal that do
record ListFollows (image : List ℕ) (Related : Areas → Areas → Type 0) (lent : LentJournal) (course : Course) : Type 0 where
  areas : Follows image Related lent.areas course.areas
  saved : AllFollow image Related (saved_in (design_of image) lent.journal) course.saved

-- events lead the canonical run from a course to one that what is left follows
record ListLeads (image : List ℕ) (d₂ : Design) (level : ℕ) (Related : Areas → Areas → Type 0) (happened : List Event) (left : LentJournal) (course : Course) : Type 0 where
  reached : Course
  agrees : Agrees (design_of image) d₂ level happened course reached
  following : ListFollows image Related left reached

-- an empty journal counts no saved states
none_saved : (d : Design) (journal : List ℕ) → count_in journal ≡ 0 → saved_in d journal ≡ []
unfolding saved_in records_of
none_saved d journal e = ap (λ (n : ℕ). records_of (saved_of d) (saved_length d) n (drop count_length journal)) e

-- k steps back of the canonical run
agrees_times : {d₁ d₂ : Design} {level : ℕ} (k : ℕ) (course : Course) → Agrees d₁ d₂ level (replicate k stepped_back) course (back_times k course)
unfolding back_times
agrees_times zero course = agrees_none
agrees_times (suc k) course = agrees_append agrees_back (agrees_times k (back_once course))

module _
    (image : List ℕ)
    (accepted : verdict image ≡ Accepted 0)
    (d₂ : Design)
    (level : ℕ)
    (Related : Areas → Areas → Type 0)
    (same : Bisimulation (design_of image) d₂ level Related) where
  -- one call
  module _ (lent : LentJournal) (course : Course) (h : ListFollows image Related lent course) where
    abbrev Claim : Call → Left LentJournal → Type 0
    Claim call left = ListLeads image d₂ level Related (events_of left.answer image lent call) left.lent course

    -- a call that leaves what is said
    claim_left : (call : Call) {left : Left LentJournal} → perform image lent call ≡ left → Claim call left → Claim call (perform image lent call)
    claim_left call e k = rw e k

    claim_refused : (call : Call) (refusal : Refusal) (place : ℕ) → perform image lent call ≡ record { answer = Refused refusal place; lent = lent } → Claim call (perform image lent call)
    unfolding events_of
    claim_refused call refusal place e = claim_left call e (record { reached = course; agrees = agrees_none; following = h })

    -- one of 01's calls leaves the journal
    claim_performed : (call : parties.Call)
        → ListLeads image d₂ level Related (parties.events_of (performed image lent call).answer image lent.areas call) (performed image lent call).lent course
    claim_performed call =
        let led = call_leads image accepted d₂ level Related same lent.areas course.areas course.saved h.areas call in
        record {
          reached = course_of led.reached course.saved;
          agrees = led.agrees;
          following = record { areas = led.following; saved = h.saved };
        }

    -- and does what it does without one
    happens : (answer : Answer)
        → (events_of answer image lent resets ≡ parties.events_of answer image lent.areas parties.resets)
        × ((r v : ℕ) → events_of answer image lent (writes r v) ≡ parties.events_of answer image lent.areas (parties.writes r v))
        × ((n : ℕ) → events_of answer image lent (runs n) ≡ parties.events_of answer image lent.areas (parties.runs n))
    unfolding events_of parties.events_of
    happens (Accepted count) = (refl, λ r v. refl, λ n. refl)
    happens (Err why) = (refl, λ r v. refl, λ n. refl)

    abbrev d : Design
    d = design_of image

    abbrev areas : Areas
    areas = areas_of (design_of image) lent.areas

    claim_journalled : (n : ℕ) → Claim (runs_journalled n) (perform image lent (runs_journalled n))
    unfolding perform run_journalled events_of
    claim_journalled n = go (run_journalled_answer image lent n) refl
      where
        reached : Course
        reached = course_of (after_cycles d₂ n course.areas) (course.saved ++ areas_before d₂ n course.areas)

        follows : RunsJournalled image lent n → ListFollows image Related (after_run d lent n) reached
        follows ran =
            let newer = before_follow image accepted d₂ level Related same n lent.areas areas course.areas h.areas h.areas.related in
            record {
              areas = follows_lent image accepted d₂ level Related same (after_cycles d n areas) (after_cycles d₂ n course.areas) (related_cycles same n areas course.areas h.areas.related);
              saved = rw (after_saved image lent n ran) (follow_append h.saved newer);
            }

        go : (answer : Answer) → run_journalled_answer image lent n ≡ answer → Claim (runs_journalled n) (perform image lent (runs_journalled n))
        go (Err why) e = claim_refused (runs_journalled n) why.refusal why.place (rw e)
        go (Accepted count) e =
            let ran = accepted_runs image lent n (rw e) in
            claim_left
            (runs_journalled n)
            (runs_leaves image lent n ran)
            (record { reached = reached; agrees = agrees_journalled_cycles same n areas course.areas course.saved h.areas.related; following = follows ran })

    -- the canonical run has saved as many states as the journal counts
    as_many : length course.saved ≡ count_in lent.journal
    as_many = sym (follow_length h.saved) ∙ length-saved_in d lent.journal

    -- what a step back restores follows what the canonical run returns to
    back_follows : (k : ℕ) → RoomKeeps d lent.journal 0 → k ≤ count_in lent.journal → ListFollows image Related (restored image lent k) (gone_back k course)
    unfolding restored saved_back gone_back
    back_follows zero room l = h
    back_follows (suc k) room l =
        let kept = count_in lent.journal - suc k in
        let count : length (saved_in d lent.journal) ≡ count_in lent.journal = length-saved_in d lent.journal in
        let inside : kept < length (saved_in d lent.journal) = omega arith in
        let fits : kept < value_count = let fit = room.fits in omega arith in
        record {
          areas = rw as_many (follow_at h.saved course.areas kept inside);
          saved = rw (as_many, saved_recounted d kept lent.journal (omega arith) fits) (follow_take kept h.saved);
        }

    claim_back : (k : ℕ) → Claim (goes_back k) (perform image lent (goes_back k))
    unfolding perform step_back events_of
    claim_back k = go (step_back_answer image lent k) refl
      where
        go : (answer : Answer) → step_back_answer image lent k ≡ answer → Claim (goes_back k) (perform image lent (goes_back k))
        go (Err why) e = claim_refused (goes_back k) why.refusal why.place (rw e)
        go (Accepted count) e =
            let back = accepted_goes_back image lent k (rw e) in
            let steps : k ≤ length course.saved = rw as_many back.steps in
            claim_left
            (goes_back k)
            {left = record { answer = Accepted count; lent = restored image lent k }}
            (rw e)
            (record { reached = back_times k course; agrees = agrees_times k course; following = rw (back_at_once k course steps) (back_follows k back.room back.steps) })

    -- a replay of no cycles leaves the areas that it read
    claim_none_replayed : (trace : List TraceRecord) (count : ℕ) → replay_answer image lent.areas trace 0 ≡ Accepted count → Claim (replays trace 0) (perform image lent (replays trace 0))
    unfolding perform replay events_of by_hand parties.events
    claim_none_replayed trace count e =
        claim_left
        (replays trace 0)
        {left = record { answer = Accepted count; lent = with_journal lent.journal (lent_of areas) }}
        (unfold replayed after_last in rw e)
        (record {
          reached = course;
          agrees = agrees_none;
          following = record { areas = follows_lent image accepted d₂ level Related same areas course.areas h.areas.related; saved = h.saved };
        })

    -- any other leaves what its calls by hand leave, which lead as 01's lists do
    claim_some_replayed : (trace : List TraceRecord) (n count : ℕ) → replay_answer image lent.areas trace (suc n) ≡ Accepted count → Claim (replays trace (suc n)) (perform image lent (replays trace (suc n)))
    unfolding perform events_of
    claim_some_replayed trace n count e =
        let answered : (replay image lent.areas trace (suc n)).answer ≡ Accepted count = replay_answer_lem image lent.areas trace (suc n) ∙ e in
        let made = made_by_hand image lent.areas trace (suc n) (λ none. absurd (omega arith)) (rw answered) in
        let led = list_leads image accepted d₂ level Related same (by_hand trace 0 (suc n)) lent.areas course.areas course.saved h.areas in
        claim_left
        (replays trace (suc n))
        {left = record { answer = Accepted count; lent = with_journal lent.journal (parties.at_end image lent.areas (by_hand trace 0 (suc n))) }}
        (λ i. record { answer = answered i; lent = with_journal lent.journal (sym made.at_end i) })
        (record {
          reached = course_of led.reached course.saved;
          agrees = led.agrees;
          following = record { areas = led.following; saved = h.saved };
        })

    claim_replay : (trace : List TraceRecord) (n : ℕ) → Claim (replays trace n) (perform image lent (replays trace n))
    claim_replay trace n = go n (replay_answer image lent.areas trace n) refl
      where
        refused : (n : ℕ) (refusal : Refusal) (place : ℕ) → replay_answer image lent.areas trace n ≡ Refused refusal place → perform image lent (replays trace n) ≡ record { answer = Refused refusal place; lent = lent }
        refused n refusal place e = unfold perform replay in rw e

        go : (n : ℕ) (answer : Answer) → replay_answer image lent.areas trace n ≡ answer → Claim (replays trace n) (perform image lent (replays trace n))
        go n (Err why) e = claim_refused (replays trace n) why.refusal why.place (refused n why.refusal why.place e)
        go zero (Accepted count) e = claim_none_replayed trace count e
        go (suc n) (Accepted count) e = claim_some_replayed trace n count e

    call_claimed : (call : Call) → Claim call (perform image lent call)
    unfolding perform
    call_claimed resets = rw (happens (performed image lent parties.resets).answer).0 (claim_performed parties.resets)
    call_claimed (writes r v) = rw ((happens (performed image lent (parties.writes r v)).answer).1 r v) (claim_performed (parties.writes r v))
    call_claimed (runs n) = rw ((happens (performed image lent (parties.runs n)).answer).2 n) (claim_performed (parties.runs n))
    call_claimed (runs_journalled n) = claim_journalled n
    call_claimed (goes_back k) = claim_back k
    call_claimed (replays trace n) = claim_replay trace n

  -- a list of them
  all_claimed : (calls : List Call) (lent : LentJournal) (course : Course) → ListFollows image Related lent course
      → ListLeads image d₂ level Related (events image lent calls) (at_end image lent calls) course
  unfolding events at_end
  all_claimed [] lent course h = record { reached = course; agrees = agrees_none; following = h }
  all_claimed (call ∷ more) lent course h =
      let first = call_claimed lent course h call in
      let rest = all_claimed more (perform image lent call).lent first.reached first.following in
      record { reached = rest.reached; agrees = agrees_append first.agrees rest.agrees; following = rest.following }

  -- ---- a use shows what the canonical run of what remains shows: it begins with a start and an empty journal, which has nothing that could follow
  use_follows : (u : Use (design_of image))
      → (views image level u ≡ followed d₂ level (start_course d₂ level) (remains image level u))
      × (seen_at_end image level u ≡ values_seen d₂ level (followed_end d₂ level (start_course d₂ level) (remains image level u)).areas.registers)
      × (wider_views image level u ≡ widely_followed d₂ level (start_course d₂ level) (remains image level u))
  unfolding views wider_views remains seen_at_end history begun
  use_follows u =
      let begins : ListFollows image Related (begun image level u) (start_course d₂ level) =
      record { areas = start_follows image accepted d₂ level Related same u.begins; saved = rw (none_saved (design_of image) u.journal u.empty) none_follow } in
      let led = all_claimed u.calls (begun image level u) (start_course d₂ level) begins in
      let left = (at_end image (begun image level u) u.calls).areas in
      (led.agrees.seen, rw led.agrees.at_end (values_follow image accepted d₂ level Related same left led.reached.areas led.following.areas), led.agrees.widely_seen)

-- Two uses of which the same remains show the same: both show what one canonical run shows.
module _
    (image edited : List ℕ) (accepted : verdict image ≡ Accepted 0) (accepted' : verdict edited ≡ Accepted 0)
    (level : ℕ) (is_label : level < length (design_of image).rows) (same : common (design_of image) level ≡ common (design_of edited) level)
    (one : Use (design_of image)) (other : Use (design_of edited)) (matching : remains image level one ≡ remains edited level other)
  where
    all_same : (views image level one ≡ views edited level other) × (seen_at_end image level one ≡ seen_at_end edited level other) × (wider_views image level one ≡ wider_views edited level other)
    all_same =
        let d₁ = design_of image in
        let d₂ = design_of edited in
        let first = use_follows image accepted d₂ level (Related d₁ d₂ level) (related_neighbours image edited accepted accepted' level is_label same) one in
        let second = use_follows edited accepted' d₂ level (Related d₂ d₂ level) (related_neighbours edited edited accepted' accepted' level (common_level image edited level same is_label) refl) other in
        let seen = rw matching at first.0 in
        let at_end = rw matching at first.1 in
        let widely = rw matching at first.2 in
        (seen ∙ sym second.0, at_end ∙ sym second.1, widely ∙ sym second.2)

pub independent_across : IndependentNeighbours
independent_across image edited accepted accepted' level is_label same one other matching =
    let all = all_same image edited accepted accepted' level is_label same one other matching in (all.0, all.1)

pub widely_across : IndependentWidely
widely_across image edited accepted accepted' level is_label same one other matching = (all_same image edited accepted accepted' level is_label same one other matching).2
