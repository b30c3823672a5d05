-- A replay is port writes and single cycles made by hand: each record is a port write that is accepted, which leaves areas that the next call finds ready, and so is each
-- single cycle; the bytes that a call leaves are read back as the values that it wrote.
use Prim.Native.Nat.{ℕ, zero, suc}
use mathlib.Core.Path.{◌≡◌, refl, sym, ◌∙◌, ap}
use mathlib.Core.List.{List, [], ◌∷◌, ◌++◌, map, append-nil, append_assoc}
use lib.ListN.{length, take-append-drop}
use Rattle.model.specs.Image.{Design, AreBytes, design_of}
use Rattle.model.specs.Verdict.{verdict}
use Rattle.model.specs.Answers.{Accepted, numbers_of}
use Rattle.model.specs.Machine.{Areas, Cycle, cycle, cycles, after_last, after_cycles}
use Rattle.model.specs.Calls.{Lent, Left, areas_of, lent_of}
use Rattle.model.specs.Parties.{Call, writes, runs, perform, Event, was_written, cycled, events_of, events, at_end, cycles_of}
use Rattle.model.proofs.Exact.{verdict_exact}
use Rattle.model.proofs.Independence.Relation.{Good, with_register}
use Rattle.model.proofs.Independence.Calls.{areas_of_lent, written, write_accepted, run_accepted}
use Rattle.model.proofs.Grouping.{Ready, ready_good, ready_back, good_ready}
use Rattle.replay_model.specs.declared.TraceRecord.{TraceRecord}
use Rattle.replay_model.specs.Traces.{records_of_cycle, applied, with_records, replayed}
use Rattle.replay_model.specs.Calls.{replay}
use Rattle.replay_model.specs.ByHand.{cycle_by_hand, by_hand}
use Rattle.replay_model.proofs.Laws.{Each, of_none, of_more, each_kept}
use Rattle.replay_model.proofs.Accepted.{PortRecord, accepted_replays, replay_leaves, with_applied, written_good, records_good, cycle_good}

-- ---- lists of calls
-- each call, made on what the one before it left, is accepted
pub data AllAccepted (image : List ℕ) : Lent → List Call → Type 0 where
  none_made : {lent : Lent} → AllAccepted image lent []
  one_made : {lent : Lent} {call : Call} {more : List Call}
      → (numbers_of (perform image lent call).answer).number ≡ 0
      → AllAccepted image (perform image lent call).lent more
      → AllAccepted image lent (call ∷ more)

-- what calls that are all accepted do and leave
pub record Made (image : List ℕ) (lent : Lent) (calls : List Call) (happened : List Event) (left : Lent) : Type 0 where
  pub all_accepted : AllAccepted image lent calls
  pub happens : events image lent calls ≡ happened
  pub at_end : at_end image lent calls ≡ left

module _ (image : List ℕ) where
  -- ---- one list and then another
  end_append : (lent : Lent) (first second : List Call) → at_end image lent (first ++ second) ≡ at_end image (at_end image lent first) second
  unfolding at_end
  end_append lent [] second = refl
  end_append lent (call ∷ first) second = end_append (perform image lent call).lent first second

  events_append : (lent : Lent) (first second : List Call) → events image lent (first ++ second) ≡ events image lent first ++ events image (at_end image lent first) second
  unfolding events at_end
  events_append lent [] second = refl
  events_append lent (call ∷ first) second =
      let left = perform image lent call in
      rw
      (events_append left.lent first second)
      (sym (append_assoc (events_of left.answer image lent call) (events image left.lent first) (events image (at_end image left.lent first) second)))

  accepted_append : {lent : Lent} {first second : List Call} → AllAccepted image lent first → AllAccepted image (at_end image lent first) second → AllAccepted image lent (first ++ second)
  unfolding at_end
  accepted_append none_made k = k
  accepted_append (one_made e h) k = one_made e (accepted_append h k)

module _ {image : List ℕ} where
  made_none : {lent : Lent} → Made image lent [] [] lent
  unfolding events at_end
  made_none = record { all_accepted = none_made; happens = refl; at_end = refl }

  made_append : {lent between left : Lent} {first second : List Call} {before after : List Event}
      → Made image lent first before between
      → Made image between second after left
      → Made image lent (first ++ second) (before ++ after) left
  made_append {lent} {first} {second} h k =
      record {
        all_accepted = accepted_append image h.all_accepted (rw h.at_end k.all_accepted);
        happens = rw (events_append image lent first second, h.happens, h.at_end, k.happens);
        at_end = rw (end_append image lent first second, h.at_end) k.at_end;
      }

  -- one call
  made_call : {lent left : Lent} (call : Call) {count : ℕ} → perform image lent call ≡ record { answer = Accepted count; lent = left }
      → Made image lent (call ∷ []) (events_of (Accepted count) image lent call) left
  unfolding events at_end
  made_call {lent} {left} call {count} e =
      record {
        all_accepted = one_made {lent = lent} {call = call} {more = []} (rw e) none_made;
        happens = rw e (append-nil (events_of (Accepted count) image lent call));
        at_end = ap (λ (made : Left Lent). made.lent) e;
      }

-- ---- the calls by hand
-- what records do, and the port writes that they are
abbrev pub event_of : TraceRecord → Event
event_of r = was_written r.register r.value

abbrev call_of : TraceRecord → Call
call_of r = writes r.register r.value

-- calls that lead lent areas to some that are ready and hold what is said
record Reaches (image : List ℕ) (lent : Lent) (calls : List Call) (happened : List Event) (areas : Areas) : Type 0 where
  pub left : Lent
  pub made : Made image lent calls happened left
  pub ready : Ready image left
  pub holds : areas_of (design_of image) left ≡ areas

-- what n cycles by hand do, of which the first has number c
unfoldable pub events_by_hand : Design → List TraceRecord → ℕ → ℕ → Areas → List Event
events_by_hand d trace c zero areas = []
events_by_hand d trace c (suc n) areas =
    let first = cycle d (with_records trace c areas) in
    (map event_of (records_of_cycle c trace) ++ cycled first ∷ []) ++ events_by_hand d trace (suc c) n first.after

module _ (image : List ℕ) where
  abbrev d : Design
  d = design_of image

  -- good areas are read back
  good_back : verdict image ≡ Accepted 0 → (areas : Areas) → Good d areas → areas_of d (lent_of areas) ≡ areas
  good_back accepted areas good = areas_of_lent d ((verdict_exact image).0 accepted).design.structure areas good

  -- a port write
  write_reaches : (lent : Lent) → Ready image lent → (r : TraceRecord) → PortRecord d r
      → Reaches image lent (call_of r ∷ []) (event_of r ∷ []) (with_register r.register r.value (areas_of d lent))
  unfolding events_of
  write_reaches lent ready r port =
      let areas = with_register r.register r.value (areas_of d lent) in
      let good = written_good r port (ready_good image lent ready) in
      record {
        left = lent_of areas;
        made = rw (← bytes) (made_call (call_of r) (write_accepted image ready.accepted lent ready.lengths ready.contents r.register r.value port.writable port.fitting));
        ready = good_ready image ready.accepted areas good;
        holds = good_back ready.accepted areas good;
      }
    where
      bytes : written d lent r.register r.value ≡ lent_of (with_register r.register r.value (areas_of d lent))
      bytes = unfold areas_of lent_of in rw (take-append-drop (length d.states) lent.targets)

  -- the records of a list
  records_reach : (lent : Lent) (areas : Areas) → Ready image lent → areas_of d lent ≡ areas → {records : List TraceRecord} → Each (PortRecord d) records
      → Reaches image lent (map call_of records) (map event_of records) (with_applied records areas)
  unfolding applied
  records_reach lent areas ready e of_none = record { left = lent; made = made_none; ready = ready; holds = e }
  records_reach lent areas ready e (of_more {r} {more} port ports) =
      let first = write_reaches lent ready r port in
      let rest = records_reach first.left (with_register r.register r.value areas) first.ready (first.holds ∙ ap (with_register r.register r.value) e) ports in
      record { left = rest.left; made = made_append first.made rest.made; ready = rest.ready; holds = rest.holds }

  -- a single cycle
  run_made : (lent : Lent) (areas : Areas) → Ready image lent → areas_of d lent ≡ areas → Made image lent (runs 1 ∷ []) (cycled (cycle d areas) ∷ []) (lent_of (cycle d areas).after)
  unfolding events_of cycles after_cycles after_last
  run_made lent areas ready e =
      rw (← e) (made_call (runs 1) (run_accepted image ready.accepted lent ready.lengths ready.contents ready.sound ready.bound 1 refl))

  module _ {trace : List TraceRecord} (ports : Each (PortRecord d) trace) where
    -- a cycle with its records
    cycle_made : (c : ℕ) (lent : Lent) (areas : Areas) → Ready image lent → areas_of d lent ≡ areas
        → Made image lent (cycle_by_hand trace c) (map event_of (records_of_cycle c trace) ++ cycled (cycle d (with_records trace c areas)) ∷ []) (lent_of (cycle d (with_records trace c areas)).after)
    unfolding cycle_by_hand with_records records_of_cycle
    cycle_made c lent areas ready e =
        let first = records_reach lent areas ready e (each_kept _ ports) in
        made_append first.made (run_made first.left (with_records trace c areas) first.ready first.holds)

    -- n cycles; none leave the areas as they are lent
    hand_made : (c n : ℕ) (lent : Lent) (areas : Areas) → Ready image lent → areas_of d lent ≡ areas → Good d areas → (n ≡ 0 → lent_of areas ≡ lent)
        → Made image lent (by_hand trace c n) (events_by_hand d trace c n areas) (lent_of (after_last areas (replayed d trace c n areas)))
    unfolding by_hand events_by_hand replayed after_last
    hand_made c zero lent areas ready e good own = rw (own refl) made_none
    hand_made c (suc n) lent areas ready e good own =
        let accepted = ready.accepted in
        let after = (cycle d (with_records trace c areas)).after in
        let next = cycle_good image accepted (records_good image accepted ports c good) in
        made_append
        (cycle_made c lent areas ready e)
        (hand_made (suc c) n (lent_of after) after (good_ready image accepted after next) (good_back accepted after next) next (λ none. refl))

-- the cycles of what is done by hand are those of the replay
cycles_of_records : (records : List TraceRecord) (more : List Event) → cycles_of (map event_of records ++ more) ≡ cycles_of more
unfolding cycles_of
cycles_of_records [] more = refl
cycles_of_records (r ∷ records) more = cycles_of_records records more

pub cycles_by_hand : (d : Design) (trace : List TraceRecord) (c n : ℕ) (areas : Areas) → cycles_of (events_by_hand d trace c n areas) ≡ replayed d trace c n areas
unfolding events_by_hand replayed cycles_of
cycles_by_hand d trace c zero areas = refl
cycles_by_hand d trace c (suc n) areas =
    let first = cycle d (with_records trace c areas) in
    let rest = events_by_hand d trace (suc c) n first.after in
    ap cycles_of (append_assoc (map event_of (records_of_cycle c trace)) (cycled first ∷ []) rest)
    ∙ cycles_of_records (records_of_cycle c trace) (cycled first ∷ rest)
    ∙ ap (λ (more : List Cycle). first ∷ more) (cycles_by_hand d trace (suc c) n first.after)

-- ---- of an accepted replay; one of no cycles leaves the areas as it reads and writes them
pub made_by_hand : (image : List ℕ) (lent : Lent) (trace : List TraceRecord) (n : ℕ) → (n ≡ 0 → lent_of (areas_of (design_of image) lent) ≡ lent)
    → (numbers_of (replay image lent trace n).answer).number ≡ 0
    → Made image lent (by_hand trace 0 n) (events_by_hand (design_of image) trace 0 n (areas_of (design_of image) lent)) (replay image lent trace n).lent
made_by_hand image lent trace n own e =
    let r = accepted_replays image lent trace n e in
    rw (replay_leaves image lent trace n r) (hand_made image r.ports 0 n lent (areas_of (design_of image) lent) r.ready refl (ready_good image lent r.ready) own)

-- A replay against the port writes and single cycles of its trace: each of these calls is accepted, they leave what the replay leaves, and run its cycles.
pub record ByHand (image : List ℕ) (lent : Lent) (calls : List Call) (left : Lent) (ran : List Cycle) : Type 0 where
  pub all_accepted : AllAccepted image lent calls
  pub at_end : at_end image lent calls ≡ left
  pub cycles : cycles_of (events image lent calls) ≡ ran

pub as_by_hand : (image : List ℕ) (lent : Lent) → AreBytes lent.registers → (trace : List TraceRecord) (n : ℕ) → (numbers_of (replay image lent trace n).answer).number ≡ 0
    → ByHand image lent (by_hand trace 0 n) (replay image lent trace n).lent (replayed (design_of image) trace 0 n (areas_of (design_of image) lent))
as_by_hand image lent bytes trace n e =
    let made = made_by_hand image lent trace n (λ none. ready_back image lent (accepted_replays image lent trace n e).ready bytes) e in
    record {
      all_accepted = made.all_accepted;
      at_end = made.at_end;
      cycles = rw made.happens (cycles_by_hand (design_of image) trace 0 n (areas_of (design_of image) lent));
    }
