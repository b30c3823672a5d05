-- Each of the six calls answers by its table, and leaves what it was lent on a refusal: what holds of a call that is lent a part of it holds with the rest beside.
use Prim.Native.Nat.{ℕ}
use mathlib.Core.List.{List}
use Rattle.model.specs.Refusals.{in_numbers, Exactly}
use Rattle.model.specs.Parties as parties
use Rattle.model.proofs.Laws.Left.{left_in_exactly}
use Rattle.model.proofs.Refused as calls
use Rattle.journal_model.specs.Calls.{LentJournal}
use Rattle.journal_model.proofs.Exact.{run_journalled_exactly, step_back_exactly}
use Rattle.replay_model.specs.Calls.{replay}
use Rattle.replay_model.proofs.Exact.{replay_exactly}
use Rattle.lists_model.specs.Lists.{Call, resets, writes, runs, runs_journalled, goes_back, replays, with_journal, perform}
use Rattle.lists_model.specs.Rules.{call_table, call_count}

pub call_exactly : (image : List ℕ) (lent : LentJournal) (call : Call) → Exactly (call_table image lent call) (call_count call) lent (in_numbers (perform image lent call))
unfolding perform
call_exactly image lent resets = left_in_exactly (parties.perform image lent.areas parties.resets) (with_journal lent.journal) (calls.call_exactly image lent.areas parties.resets)
call_exactly image lent (writes r v) =
    left_in_exactly (parties.perform image lent.areas (parties.writes r v)) (with_journal lent.journal) (calls.call_exactly image lent.areas (parties.writes r v))
call_exactly image lent (runs n) = left_in_exactly (parties.perform image lent.areas (parties.runs n)) (with_journal lent.journal) (calls.call_exactly image lent.areas (parties.runs n))
call_exactly image lent (runs_journalled n) = run_journalled_exactly image lent n
call_exactly image lent (goes_back k) = step_back_exactly image lent k
call_exactly image lent (replays trace n) = left_in_exactly (replay image lent.areas trace n) (with_journal lent.journal) (replay_exactly image lent.areas trace n)
