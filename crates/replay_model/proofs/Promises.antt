-- What is promised about 02, E10, "Replay of a port trace", each promise restated in full and closed by one citation. The promises about the code that runs are equations
-- with the same definitions.
use Prim.Native.Nat.{ℕ, ◌+◌}
use mathlib.Core.Path.{◌≡◌}
use mathlib.Core.List.{List, []}
use lib.ListN.{length}
use Rattle.model.specs.Image.{AreBytes, design_of}
use Rattle.model.specs.Answers.{Accepted, numbers_of}
use Rattle.model.specs.Calls.{Lent, areas_of, run}
use Rattle.model.specs.Refusals.{in_numbers, Exactly, WithinWidths}
use Rattle.replay_model.specs.declared.TraceRecord.{TraceRecord}
use Rattle.replay_model.specs.Traces.{replayed, superseded_in, trace_part, trace_rest}
use Rattle.replay_model.specs.Calls.{replay}
use Rattle.replay_model.specs.Rules.{replay_table}
use Rattle.replay_model.specs.ByHand.{by_hand}
use Rattle.replay_model.proofs.Exact as exact
use Rattle.replay_model.proofs.Latest.{latest_of, length-latest, latest_replays}
use Rattle.replay_model.proofs.ByHand.{ByHand, as_by_hand}
use Rattle.replay_model.proofs.Divided.{InParts, divided}
use Rattle.replay_model.proofs.Areas.{within, OtherPortsKept, other_ports_kept, none_left, AsRun, as_run}

-- "It refuses with 23, after 15 and at the lowest such record, cycles that fall or reach n; a bad register or value is then 13 or 17, in one pass where the lowest bad record
-- counts; the place in all three is the record's number from 0." "the answer counts those superseded": a replay is accepted with this count exactly when every rule of its
-- table is kept, and refused exactly by the first that is broken.
pub replay_exactly : (image : List ℕ) (lent : Lent) (trace : List TraceRecord) (n : ℕ)
    → Exactly (replay_table image lent trace n) (superseded_in trace) lent (in_numbers (replay image lent trace n))
replay_exactly = exact.replay_exactly

-- "of two for one cycle and port the later supersedes the earlier": where a replay is accepted, one of the trace without its superseded records is, supersedes none, and
-- leaves the same areas,
pub replay_of_latest : (image : List ℕ) (lent : Lent) (trace : List TraceRecord) (n : ℕ) → (numbers_of (replay image lent trace n).answer).number ≡ 0
    → replay image lent (latest_of trace) n ≡ record { answer = Accepted 0; lent = (replay image lent trace n).lent }
replay_of_latest = latest_replays

-- "and the answer counts those superseded".
pub superseded_counted : (trace : List TraceRecord) → length (latest_of trace) + superseded_in trace ≡ length trace
superseded_counted = length-latest

-- "The outcome equals port writes and single cycles made by hand": where a replay is accepted, each of these calls is, made on what the one before it left; together they
-- leave the areas that the replay leaves, and run its cycles.
pub replay_by_hand : (image : List ℕ) (lent : Lent) → AreBytes lent.registers → (trace : List TraceRecord) (n : ℕ) → (numbers_of (replay image lent trace n).answer).number ≡ 0
    → ByHand image lent (by_hand trace 0 n) (replay image lent trace n).lent (replayed (design_of image) trace 0 n (areas_of (design_of image) lent))
replay_by_hand = as_by_hand

-- "Replaying n cycles and then m, the trace divided at cycle n and its cycles recounted, gives the areas of replaying both together, where n plus m is allowed and the whole
-- trace is not refused": both parts are accepted, and their counts add to that of the whole.
pub replay_divided : (image : List ℕ) (lent : Lent) (trace : List TraceRecord) (n m : ℕ) → (numbers_of (replay image lent trace (n + m)).answer).number ≡ 0
    → InParts (replay image lent (trace_part n trace) n) (replay image (replay image lent (trace_part n trace) n).lent (trace_rest n trace) m) (replay image lent trace (n + m))
replay_divided = divided

-- 02, E2: an accepted replay leaves every register within its width.
pub replay_within_widths : (image : List ℕ) (lent : Lent) (trace : List TraceRecord) (n : ℕ) → (numbers_of (replay image lent trace n).answer).number ≡ 0
    → WithinWidths (design_of image) (replay image lent trace n).lent.registers
replay_within_widths = within

-- 02, E1, "Ports belong to the host": a replay, whatever it answers, leaves every byte of every port that no record names.
pub replay_keeps_other_ports : (image : List ℕ) (lent : Lent) → AreBytes lent.registers → (trace : List TraceRecord) (n : ℕ)
    → OtherPortsKept (design_of image) trace lent.registers (replay image lent trace n).lent.registers
replay_keeps_other_ports = other_ports_kept

-- "Before each of n cycles its records are applied": without records a replay is a run, which it refuses and leaves as the run does, with none superseded,
pub replay_without_records : (image : List ℕ) (lent : Lent) (n : ℕ) → AsRun (replay image lent [] n) (run image lent n)
replay_without_records = as_run

-- and with n of 0 nothing changes, accepted or refused.
pub replay_of_none : (image : List ℕ) (lent : Lent) → AreBytes lent.registers → (trace : List TraceRecord) → (replay image lent trace 0).lent ≡ lent
replay_of_none = none_left
