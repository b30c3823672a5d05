-- What 02's E9 and E10 say of lists in their own words, from demand 3 for lists of all calls. Of a replay there remain the records at or below the level and the cycles: it counts as its
-- port writes and single cycles made by hand.
use Rattle.std.specs.Prelude.{Err}
use Prim.Native.Nat.{ℕ, zero, suc}
use mathlib.Core.Path.{◌≡◌, refl, sym, ◌∙◌, ap}
use mathlib.Core.Bool.{Bool, true, false, cond}
use mathlib.Core.List.{List, [], ◌∷◌, ◌++◌, map, append-nil}
use native.Mathlib.Omega.{arith}
use lib.Dec.{eqb}
use Rattle.model.specs.Image.{Design, design_of}
use Rattle.model.specs.Answers.{Answer, Accepted, numbers_of}
use Rattle.model.specs.Machine.{Areas, cycle}
use Rattle.model.specs.Calls.{areas_of}
use Rattle.model.specs.Parties.{Event, cycled, Remaining, a_write, a_cycle, register_seen, remaining}
use Rattle.model.specs.Parties as parties
use Rattle.model.proofs.Laws.Numbers.{no_number_zero}
use Rattle.model.proofs.Independence.Lists.{remaining_append}
use Rattle.replay_model.specs.declared.TraceRecord.{TraceRecord}
use Rattle.replay_model.specs.Traces.{kept, records_of_cycle, with_records}
use Rattle.replay_model.specs.Calls.{replay}
use Rattle.replay_model.specs.ByHand.{by_hand, trace_seen}
use Rattle.replay_model.proofs.Laws.{kept_swap}
use Rattle.replay_model.proofs.ByHand.{event_of, events_by_hand, made_by_hand}
use Rattle.lists_model.specs.Lists.{replays, perform, events_of, events, Use, begun, history, remains}
use Rattle.lists_model.specs.Demands.{IndependentJournals, Replayed, IndependentReplays, IndependentReplayNeighbours}
use Rattle.lists_model.proofs.Independence.{independent_across}

-- 02, E9: within one design, which has the same in common with itself
pub journals_independent : IndependentJournals
journals_independent image accepted level is_label one other matching = independent_across image image accepted accepted level is_label refl one other matching

-- ---- what remains by hand
-- n cycles of the records that are seen, of which the first has number c
unfoldable remains_by_hand : List TraceRecord → ℕ → ℕ → List Remaining
remains_by_hand seen c zero = []
remains_by_hand seen c (suc n) =
    (map (λ (r : TraceRecord). a_write r.register r.value) (records_of_cycle c seen) ++ a_cycle ∷ []) ++ remains_by_hand seen (suc c) n

module _ (d : Design) (level : ℕ) where
  remaining_records : (records : List TraceRecord) → remaining d level (map event_of records) ≡ map (λ (r : TraceRecord). a_write r.register r.value) (trace_seen d level records)
  unfolding remaining trace_seen kept
  remaining_records [] = refl
  remaining_records (r ∷ records) = rw (remaining_records records) (go (register_seen d level r.register))
    where
      parts : List TraceRecord → List Remaining
      parts = map (λ (q : TraceRecord). a_write q.register q.value)

      seen : List TraceRecord
      seen = kept (λ (q : TraceRecord). register_seen d level q.register) records

      go : (w : Bool) → cond w (a_write r.register r.value ∷ parts seen) (parts seen) ≡ parts (cond w (r ∷ seen) seen)
      go true = refl
      go false = refl

  remaining_by_hand : (trace : List TraceRecord) (c n : ℕ) (areas : Areas) → remaining d level (events_by_hand d trace c n areas) ≡ remains_by_hand (trace_seen d level trace) c n
  unfolding events_by_hand remains_by_hand remaining
  remaining_by_hand trace c zero areas = refl
  remaining_by_hand trace c (suc n) areas =
      let first = cycle d (with_records trace c areas) in
      let own = map event_of (records_of_cycle c trace) in
      rw (
        remaining_append d level (own ++ cycled first ∷ []) (events_by_hand d trace (suc c) n first.after),
        remaining_append d level own (cycled first ∷ []),
        remaining_records (records_of_cycle c trace),
        remaining_by_hand trace (suc c) n first.after,
        seen_swap,
      )
    where
      seen_swap : trace_seen d level (records_of_cycle c trace) ≡ records_of_cycle c (trace_seen d level trace)
      seen_swap = unfold trace_seen records_of_cycle in kept_swap (λ (r : TraceRecord). register_seen d level r.register) (λ (r : TraceRecord). eqb r.cycle c) trace

-- ---- of a use that replays
module _ (image : List ℕ) (level : ℕ) where
  -- what an accepted replay does
  replay_events : (n : ℕ) (trace : List TraceRecord) (u : Use (design_of image)) → (numbers_of (replay image (begun image level u).areas trace n).answer).number ≡ 0
      → parties.events image (begun image level u).areas (by_hand trace 0 n) ≡ events_by_hand (design_of image) trace 0 n (areas_of (design_of image) (begun image level u).areas)
  replay_events zero trace u e = unfold by_hand parties.events events_by_hand in refl
  replay_events (suc n) trace u e = (made_by_hand image (begun image level u).areas trace (suc n) (λ none. absurd (omega arith)) e).happens

  replay_does : (u : Use (design_of image)) (trace : List TraceRecord) (n : ℕ) (a : Answer) → (numbers_of a).number ≡ 0
      → events_of a image (begun image level u) (replays trace n) ≡ parties.events image (begun image level u).areas (by_hand trace 0 n)
  unfolding events_of
  replay_does u trace n (Accepted count) e = refl
  replay_does u trace n (Err why) e = absurd (no_number_zero why.refusal e)

  replayed_remains : (u : Use (design_of image)) (trace : List TraceRecord) (n : ℕ) → Replayed image level u trace n
      → remains image level u ≡ remains_by_hand (trace_seen (design_of image) level trace) 0 n
  unfolding remains history
  replayed_remains u trace n made =
      ap (remaining (design_of image) level) (ap (events image (begun image level u)) made.alone ∙ alone)
      ∙ remaining_by_hand (design_of image) level trace 0 n (areas_of (design_of image) (begun image level u).areas)
    where
      alone : events image (begun image level u) (replays trace n ∷ []) ≡ events_by_hand (design_of image) trace 0 n (areas_of (design_of image) (begun image level u).areas)
      alone =
          unfold events in
          append-nil (events_of (perform image (begun image level u) (replays trace n)).answer image (begun image level u) (replays trace n))
          ∙ replay_does u trace n (perform image (begun image level u) (replays trace n)).answer made.accepted
          ∙ replay_events n trace u (unfold perform in made.accepted)

-- 02, E10, across two designs and so within one
pub replays_across : IndependentReplayNeighbours
replays_across image edited accepted accepted' level is_label shared one other trace trace' n made made' same =
    independent_across
    image
    edited
    accepted
    accepted'
    level
    is_label
    shared
    one
    other
    (replayed_remains image level one trace n made
    ∙ ap (λ (seen : List TraceRecord). remains_by_hand seen 0 n) same
    ∙ sym (replayed_remains edited level other trace' n made'))

pub replays_independent : IndependentReplays
replays_independent image accepted level is_label = replays_across image image accepted accepted level is_label refl
