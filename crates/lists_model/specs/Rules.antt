-- The tables of refusals of the six calls, each in the order in which it is judged, and the count that an acceptance has.
use Rattle.std.specs.Prelude.{ℕ, List}
use Rattle.model.specs.Refusals.{Pass, reset_table, write_port_table, run_table}
use Rattle.journal_model.specs.Calls.{LentJournal}
use Rattle.journal_model.specs.Rules.{run_journalled_table, step_back_table}
use Rattle.replay_model.specs.Traces.{superseded_in}
use Rattle.replay_model.specs.Rules.{replay_table}
use Rattle.lists_model.specs.Lists.{Call, resets, writes, runs, runs_journalled, goes_back, replays}

abbrev pub call_table : List ℕ → LentJournal → Call → List Pass
call_table image lent resets = reset_table image lent.areas
call_table image lent (writes r v) = write_port_table image lent.areas.registers r v
call_table image lent (runs n) = run_table image lent.areas n
call_table image lent (runs_journalled n) = run_journalled_table image lent n
call_table image lent (goes_back k) = step_back_table image lent k
call_table image lent (replays trace n) = replay_table image lent.areas trace n

abbrev pub call_count : Call → ℕ
call_count resets = 0
call_count (writes r v) = 0
call_count (runs n) = n
call_count (runs_journalled n) = n
call_count (goes_back k) = k
call_count (replays trace n) = superseded_in trace
