-- A replay may be divided: the records before cycle n are those of the first n cycles, and the others, recounted, those of the rest, which starts from what the first part
-- leaves. No record is superseded by one of another cycle, so the counts add.
use Prim.Native.Nat.{ℕ, ◌+◌, ◌-◌}
use mathlib.Core.Path.{◌≡◌, refl, sym, ap}
use mathlib.Core.List.{List}
use native.Mathlib.Omega.{arith}
use Rattle.model.specs.Image.{Design, design_of}
use Rattle.model.specs.Answers.{Accepted, numbers_of}
use Rattle.model.specs.Machine.{Areas, after_last}
use Rattle.model.specs.Calls.{Lent, Left, areas_of, lent_of}
use Rattle.replay_model.specs.declared.TraceRecord.{TraceRecord}
use Rattle.replay_model.specs.Traces.{replayed, superseded_in, trace_part, trace_rest}
use Rattle.replay_model.specs.Calls.{replay}
use Rattle.replay_model.proofs.Laws.{each_kept, each_map, recount, rising_part, rising_rest, after_append, replayed_sum, replayed_part, replayed_rest}
use Rattle.replay_model.proofs.Superseded.{superseded_divided}
use Rattle.replay_model.proofs.Accepted.{Replayable, after_replay, accepted_replays, replay_leaves, after_ready, after_back_lem}

-- Two replays, the second from what the first leaves, against one: both are accepted, they supersede together what the whole supersedes, and leave the same areas.
pub record InParts (first second whole : Left Lent) : Type 0 where
  pub first_accepted : (numbers_of first.answer).number ≡ 0
  pub second_accepted : (numbers_of second.answer).number ≡ 0
  pub counts : (numbers_of first.answer).count + (numbers_of second.answer).count ≡ (numbers_of whole.answer).count
  pub same : second.lent ≡ whole.lent

module _ (image : List ℕ) (lent : Lent) (trace : List TraceRecord) (n m : ℕ) (whole : Replayable image lent trace (n + m)) where
  abbrev d : Design
  d = design_of image

  abbrev start : Areas
  start = areas_of d lent

  abbrev middle : Areas
  middle = after_replay d (trace_part n trace) n start

  first_replays : Replayable image lent (trace_part n trace) n
  unfolding trace_part
  first_replays =
      record { ready = whole.ready; few = let few = whole.few in omega arith; rising = rising_part n whole.rising; ports = each_kept _ whole.ports }

  second_replays : Replayable image (lent_of middle) (trace_rest n trace) m
  unfolding trace_rest
  second_replays =
      record {
        ready = after_ready image first_replays;
        few = let few = whole.few in omega arith;
        rising = let none : 0 - n ≡ 0 = omega arith in rw none at (rising_rest n m whole.rising);
        ports = each_map (recount n) (λ r port. record { writable = port.writable; fitting = port.fitting }) (each_kept _ whole.ports);
      }

  both_areas : after_replay d (trace_rest n trace) m middle ≡ after_replay d trace (n + m) start
  both_areas =
      let none : 0 + n ≡ n = omega arith in
      rw
      (replayed_part d trace n start, replayed_rest d trace n m (after_last start (replayed d trace 0 n start)), replayed_sum d trace 0 n m start, none)
      (sym (after_append start (replayed d trace 0 n start) (replayed d trace n m (after_last start (replayed d trace 0 n start)))))

  parts_of_replay : InParts (record { answer = Accepted (superseded_in (trace_part n trace)); lent = lent_of middle }) (replay image (lent_of middle) (trace_rest n trace) m) (replay image lent trace (n + m))
  parts_of_replay =
      rw (replay_leaves image (lent_of middle) (trace_rest n trace) m second_replays, replay_leaves image lent trace (n + m) whole)
      (record { first_accepted = refl; second_accepted = refl; counts = superseded_divided n trace; same = rw (after_back_lem image first_replays) (ap lent_of both_areas) })

pub divided : (image : List ℕ) (lent : Lent) (trace : List TraceRecord) (n m : ℕ) → (numbers_of (replay image lent trace (n + m)).answer).number ≡ 0
    → InParts (replay image lent (trace_part n trace) n) (replay image (replay image lent (trace_part n trace) n).lent (trace_rest n trace) m) (replay image lent trace (n + m))
divided image lent trace n m e =
    let whole = accepted_replays image lent trace (n + m) e in
    rw (replay_leaves image lent (trace_part n trace) n (first_replays image lent trace n m whole)) (parts_of_replay image lent trace n m whole)
