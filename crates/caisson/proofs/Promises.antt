-- What is promised to a C host: 01's three demands, and each claim of 02 in its order. Every promise is stated in full, over what the exported functions are proved to leave
-- (`Checked`, `Called`, `AllCalled` and their like in `Contracts`, `OutContracts`, `FileContracts` and `GateContracts`), and closed by one citation; the proofs stand in the files cited
-- and behind them in the crates of the definitions. That an image or an area holds bytes (`AreBytes`) is a premise of some: a slice of the language does.
use Rattle.std.specs.Prelude.{Some, None}
use Prim.Native.Nat.{ℕ, ◌+◌, ◌-◌, ◌*◌, ◌≤◌, ◌<◌}
use mathlib.Core.Path.{◌≡◌, refl}
use mathlib.Core.Logic.{◌↔◌}
use mathlib.Core.Bool.{true, false, ◌&&◌}
use mathlib.Core.List.{List, [], ◌∷◌, map}
use lib.ListN.{length, take}
use contract.Lifetimes.{Lfts}
use denote.Triple.Clauses.{AtExit}
use borrow.Fn.Kinds.{Dens, ended_of}
use Rattle.model.specs.declared.Refusal.{Refusal}
use Rattle.model.specs.declared.Refusal.TheVariants.{Depth, Shape}
use Rattle.model.specs.Limits.{cycles_max, word_length, target_length}
use Rattle.model.specs.Image.{byte_at, AreBytes, design_of, state_at}
use Rattle.model.specs.Parameters.{has_parameters}
use Rattle.model.specs.Rules.{Keeps}
use Rattle.model.specs.Answers.{Accepted, Refused, number_of}
use Rattle.model.specs.Ports.{PortsKept}
use Rattle.model.specs.Kinds.{subtract}
use Rattle.model.specs.Trees.{expr_of, expr_depth}
use Rattle.model.specs.Values.{apply}
use Rattle.model.specs.Machine.{cycle}
use Rattle.model.specs.Listing.{bytes_of_text, listing}
use Rattle.model.specs.Verdict.{verdict, structure}
use Rattle.model.specs.Refusals.{AllKept, FirstBroken, AnswersBy, Exactly, image_table, raise_table, WithinWidths}
use Rattle.model.specs.Parties.{remaining, view, wider_view}
use Rattle.model.specs.Parties as parties
use Rattle.model.specs.Neighbours.{common}
use Rattle.model.specs.Raising.{LeastRaising, accepts}
use Rattle.model.proofs.Grouping.{Grouped}
use Rattle.model.proofs.Writing.{ChangesOnly}
use Rattle.model.proofs.Promises as meaning
use Rattle.model.proofs.Opened.{areas, fault_of_rows, walks, any_lent}
use Rattle.model.proofs.Designs.{lease, deep, goto_root}
use Rattle.model_cases.proofs.Cases as cases
use Rattle.journal_model.specs.Calls.{LentJournal}
use Rattle.journal_model.proofs.Returning.{BackAt, Returned}
use Rattle.journal_model.proofs.Others.{OtherByte}
use Rattle.replay_model.specs.declared.TraceRecord.{TraceRecord}
use Rattle.replay_model.specs.Traces.{trace_part, trace_rest}
use Rattle.replay_model.specs.ByHand.{by_hand, trace_seen}
use Rattle.replay_model.proofs.Latest.{latest_of}
use Rattle.replay_model.proofs.Areas.{OtherPortsKept}
use Rattle.lists_model.specs.Lists.{Call, writes, runs, runs_journalled, goes_back, replays, listed}
use Rattle.lists_model.specs.Rules.{call_table, call_count}
use Rattle.lists_model.proofs.Exact as lists
use Rattle.renumbering.specs.Runs.{SameRuns}
use Rattle.pruning_model.specs.Reached.{Reached}
use Rattle.pruning_model.specs.Pruned.{new_state, pruned_image}
use Rattle.pruning_model.specs.Rules.{prune_table}
use Rattle.pruning_model.proofs.Promises as pruning-meaning
use Rattle.filing_model.specs.Filed.{filed_image}
use Rattle.filing_model.specs.Same.{DifferAtMostInNumbers, NodesRenumbered}
use Rattle.filing_model.specs.Order.{comes_before}
use Rattle.filing_model.specs.Calls.{earlier, handed_back, handed_from}
use Rattle.filing_model.specs.Rules.{file_table}
use Rattle.filing_model.proofs.Promises as filing-meaning
use Rattle.model.proofs.RaisingPromises as raising-meaning
use Rattle.caisson.specs.declared.HostAnswer.{HostAnswer}
use Rattle.caisson.specs.declared.HostWhich.{HostWhich}
use Rattle.caisson.specs.Told.{told, told_left}
use Rattle.caisson.specs.ToldFiling.{told_which, bytes_of}
use Rattle.caisson.proofs.Contracts.{Checked, RegistersMeasured, TargetsMeasured, Called, AllCalled, Hosted, checked_told, registers_measured, targets_measured, called_made}
use Rattle.caisson.proofs.OutContracts.{RaiseCalled, PruneCalled, FileCalled, raise_called, prune_called, file_called}
use Rattle.caisson.proofs.FileContracts.{EarlierCalled}
use Rattle.caisson.proofs.caisson_earlier_part.Kinds as part-kinds
use Rattle.caisson.proofs.caisson_earlier_part.Reads as part-reads
use Rattle.caisson.proofs.Calls as calls
use Rattle.caisson.proofs.Hosts.{Accepts, seen_in, happened, SeeTheSame, did_plainly, HostReplayed}
use Rattle.caisson.proofs.Hosts as hosts
use Rattle.caisson.proofs.Widths as widths
use Rattle.caisson.proofs.Raising as raising
use Rattle.caisson.proofs.Journals as journals
use Rattle.caisson.proofs.Replays.{EachAccepted}
use Rattle.caisson.proofs.Replays as replaying
use Rattle.caisson.proofs.Alike.{FromReset, told_by, hosts_alike}
use Rattle.caisson.proofs.Pruning as pruning
use Rattle.caisson.proofs.Filing as filing
use Rattle.gates_model.specs.Tables.{table_of}
use Rattle.gates_model.specs.Rules.{check_table}
use Rattle.gates_model.specs.Runs.{Agree, AgreeEach, AreaReady, FedEach, cycles}
use Rattle.gates_model.specs.Runs as gates-runs
use Rattle.caisson.proofs.GateContracts.{GatesChecked, GatesCalled, AllGatesCalled}
use Rattle.caisson.proofs.Gates.{accepted_areas, gates_told_each, gates_left_each}
use Rattle.caisson.proofs.Gates as gates

-- ---- 01, demands 1 and 2
-- Check: a host is told 0, 0, 0 exactly when the image keeps every row of the table of refusals, at every place; and a refusal's number and a place exactly when all rules before it in the
-- table are kept everywhere, and the place is the lowest at which this rule is broken.
pub told_accepted_exactly : (image : List ℕ) (h : HostAnswer) → Checked image h → (told h ≡ record { number = 0; place = 0; count = 0 }) ↔ AllKept (image_table image)
told_accepted_exactly = calls.told_accepted

pub told_refused_exactly :
    (image : List ℕ) (h : HostAnswer) → Checked image h
    → (refusal : Refusal) (place : ℕ) → (told h ≡ record { number = number_of refusal; place = place; count = 0 }) ↔ FirstBroken (image_table image) refusal place
told_refused_exactly image h checked = rw (checked_told image h checked) (meaning.refused_exactly image)

-- The two functions that tell a length answer that of the area as the count, where the image is accepted.
pub registers_length_told :
    (image : List ℕ) (h : HostAnswer) → RegistersMeasured image h → AnswersBy (image_table image) (word_length * length (design_of image).registers) (told h)
registers_length_told image h measured = rw (registers_measured image h measured) (meaning.registers_length_exactly image)

pub targets_length_told : (image : List ℕ) (h : HostAnswer) → TargetsMeasured image h → AnswersBy (image_table image) (target_length * length (design_of image).states) (told h)
targets_length_told image h measured = rw (targets_measured image h measured) (meaning.targets_length_exactly image)

-- The six calls that change areas, each by its own table: accepted with its count exactly when every rule is kept, refused exactly by the first that is broken; and "No lent byte changes"
-- on a refusal, the journal's included.
pub called_exactly :
    (image : List ℕ) (before after : LentJournal) (call : Call) (h : HostAnswer) → Called image before call h after
    → Exactly (call_table image before call) (call_count call) before (told_left h after)
called_exactly image before after call h called = rw (called_made image before after call h called) (lists.call_exactly image before call)

-- "Proved cases, one table", P1 to P10 in their order.
pub proved_cases
    : (listing (4 ∷ 0 ∷ lease) ≡ bytes_of_text "cycle;walk;registers\n1;0 1;3 0\n2;0 2 3;2 0\n3;0 2 3;1 0\n4;0 2;0 0\n")
    × (walks (parties.events lease any_lent (parties.resets ∷ parties.writes 1 7 ∷ parties.runs 3 ∷ [])) ≡ (0 ∷ 1 ∷ []) ∷ (0 ∷ 2 ∷ 3 ∷ []) ∷ (0 ∷ 2 ∷ 4 ∷ []) ∷ [])
    × ((cycle (design_of lease) (areas (3 ∷ 0 ∷ []) (1 ∷ 1 ∷ 4 ∷ 3 ∷ 4 ∷ []))).after.targets ≡ 2 ∷ 1 ∷ 3 ∷ 3 ∷ 4 ∷ [])
    × (apply subtract 0 1 ≡ 4294967295)
    × ((expr_depth (expr_of (design_of (deep 63)) 126) ≡ 64) × (verdict (deep 63) ≡ Accepted 0))
    × (verdict (deep 64) ≡ Refused Depth (1024 + 128))
    × (fault_of_rows (1 ∷ []) ≡ None)
    × (fault_of_rows (15 ∷ 10 ∷ 12 ∷ 8 ∷ []) ≡ None)
    × (fault_of_rows (7 ∷ 2 ∷ 4 ∷ []) ≡ Some 1)
    × (verdict goto_root ≡ Refused Shape 1)
proved_cases = cases.proved_cases

-- ---- 01, demand 3, and 02's sentences on lists
-- 01: two hosts use one image that the library accepts, with lists of reset, port write and run. Where the same remains of both lists at a level, "Matching lists have equal views, and
-- equal registers at or below the level at their end."
pub hosts_independent :
    (image : List ℕ) → Accepts image → (level : ℕ) → level < length (design_of image).rows
    → (one other : Hosted image level) (list list' : List parties.Call)
    → one.calls ≡ map listed list
    → other.calls ≡ map listed list'
    → remaining (design_of image) level (did_plainly image level one list) ≡ remaining (design_of image) level (did_plainly image level other list')
    → (view (design_of image) level (did_plainly image level one list) ≡ view (design_of image) level (did_plainly image level other list'))
    × (seen_in image level one.end ≡ seen_in image level other.end)
hosts_independent = hosts.hosts_plainly

-- Lists of all six calls, 02, E14, "A neighbour edits his design": two hosts use one image each, and the two have the same in common at a level. A replay counts as the port writes and
-- cycles that it makes.
pub neighbour_hosts_independent :
    (image edited : List ℕ) → Accepts image → Accepts edited → (level : ℕ) → level < length (design_of image).rows
    → common (design_of image) level ≡ common (design_of edited) level
    → (one : Hosted image level) (other : Hosted edited level)
    → remaining (design_of image) level (happened image level one) ≡ remaining (design_of edited) level (happened edited level other)
    → SeeTheSame image edited level one other
neighbour_hosts_independent = hosts.hosts_across

-- 02, E9: "Two matching lists that begin with empty journals which nobody else writes, journal the same cycles and go back by equal numbers at equal moments still give a party equal
-- views, and equal registers at or below its level at the end."
pub journal_hosts_independent :
    (image : List ℕ) → Accepts image → (level : ℕ) → level < length (design_of image).rows
    → (one other : Hosted image level)
    → remaining (design_of image) level (happened image level one) ≡ remaining (design_of image) level (happened image level other)
    → SeeTheSame image image level one other
journal_hosts_independent image accepts level label = hosts.hosts_across image image accepts accepts level label refl

-- 02, E10: "Replayed from reset for the same n, traces equal in the records at or below a level give that level equal views where neither is refused".
pub replay_hosts_independent :
    (image : List ℕ) → Accepts image → (level : ℕ) → level < length (design_of image).rows
    → (one other : Hosted image level) (trace trace' : List TraceRecord) (n : ℕ)
    → HostReplayed image level one trace n
    → HostReplayed image level other trace' n
    → trace_seen (design_of image) level trace ≡ trace_seen (design_of image) level trace'
    → SeeTheSame image image level one other
replay_hosts_independent image accepts level label = hosts.hosts_replay image image accepts accepts level label refl

-- and across two designs that have the same in common.
pub replay_neighbour_hosts_independent :
    (image edited : List ℕ) → Accepts image → Accepts edited → (level : ℕ) → level < length (design_of image).rows
    → common (design_of image) level ≡ common (design_of edited) level
    → (one : Hosted image level) (other : Hosted edited level) (trace trace' : List TraceRecord) (n : ℕ)
    → HostReplayed image level one trace n
    → HostReplayed edited level other trace' n
    → trace_seen (design_of image) level trace ≡ trace_seen (design_of edited) level trace'
    → SeeTheSame image edited level one other
replay_neighbour_hosts_independent = hosts.hosts_replay

-- 02, E8, and more than it asks: the wider view, with the registers bound to all parameters in scope of a state that is seen, is the same too.
pub hosts_widely_independent :
    (image edited : List ℕ) → Accepts image → Accepts edited → (level : ℕ) → level < length (design_of image).rows
    → common (design_of image) level ≡ common (design_of edited) level
    → (one : Hosted image level) (other : Hosted edited level)
    → remaining (design_of image) level (happened image level one) ≡ remaining (design_of edited) level (happened edited level other)
    → wider_view (design_of image) level (happened image level one) ≡ wider_view (design_of edited) level (happened edited level other)
hosts_widely_independent = hosts.hosts_widely

-- ---- 01, what else a host may rely on
-- "An accepted run of n counts as n cycles": a run may be cut. All three are accepted, each with its count, or all are refused alike.
pub runs_grouped :
    (image : List ℕ) (before between after whole : LentJournal) (n m : ℕ) → n + m ≤ cycles_max → (first second both : HostAnswer)
    → Called image before (runs n) first between
    → Called image between (runs m) second after
    → Called image before (runs (n + m)) both whole
    → (after.areas ≡ whole.areas) × Grouped n m (told first) (told second) (told both)
runs_grouped = calls.grouped_told

-- "with 0 it changes nothing", accepted or refused.
pub run_of_none : (image : List ℕ) (before after : LentJournal) (h : HostAnswer) → AreBytes before.areas.registers → Called image before (runs 0) h after → after ≡ before
run_of_none = calls.run_of_none_left

-- A port write changes the four bytes of its register, to those of the value, where it is accepted; and nothing else, whatever it answers.
pub write_changes_only :
    (image : List ℕ) (before after : LentJournal) (h : HostAnswer) → AreBytes before.areas.registers → (r v : ℕ) → Called image before (writes r v) h after
    → ChangesOnly r v before.areas.registers (told h) after.areas.registers × (after.areas.targets ≡ before.areas.targets) × (after.journal ≡ before.journal)
write_changes_only = calls.write_changes

-- ---- 02, E1, "Ports belong to the host": a run of any number of cycles, whatever it answers, leaves every byte of every port.
pub ports_kept :
    (image : List ℕ) (before after : LentJournal) (h : HostAnswer) → AreBytes before.areas.registers → (n : ℕ) → Called image before (runs n) h after
    → PortsKept (design_of image) before.areas.registers after.areas.registers
ports_kept = calls.run_ports

-- A journalled run does too, and a replay leaves every byte of every port that no record names.
pub journalled_ports_kept :
    (image : List ℕ) (before after : LentJournal) (n : ℕ) (h : HostAnswer) → Called image before (runs_journalled n) h after → AreBytes before.areas.registers
    → PortsKept (design_of image) before.areas.registers after.areas.registers
journalled_ports_kept = journals.journalled_ports_kept

pub replay_other_ports_kept :
    (image : List ℕ) (before after : LentJournal) (trace : List TraceRecord) (n : ℕ) (h : HostAnswer) → Called image before (replays trace n) h after
    → AreBytes before.areas.registers → OtherPortsKept (design_of image) trace before.areas.registers after.areas.registers
replay_other_ports_kept = replaying.replay_other_ports_kept

-- ---- 02, E2: where one of the six calls is accepted, every register is within its width afterwards, whatever the areas held before. Going back by 0 restores nothing.
pub within_widths :
    (image : List ℕ) (before after : LentJournal) (h : HostAnswer) (call : Call) → Called image before call h after → h.number ≡ 0 → (call ≡ goes_back 0 → ⊥)
    → WithinWidths (design_of image) after.areas.registers
within_widths = widths.within

-- ---- 02, E6: raising, by its own table; 20 (E8) exactly if a state has a parameter
pub raise_exactly : (image area : List ℕ) (h : HostAnswer) (after : List ℕ) → RaiseCalled image area h after → Exactly (raise_table image area) 0 area (told_left h after)
raise_exactly image area h after called = rw (raise_called image area h after called) (raising-meaning.raise_exactly image area)

pub raise_parameters_exactly :
    (image area : List ℕ) (h : HostAnswer) (after : List ℕ) → RaiseCalled image area h after → structure image ≡ Accepted 0
    → (told h ≡ record { number = 20; place = 0; count = 0 }) ↔ (has_parameters (design_of image) ≡ true)
raise_parameters_exactly = raising.told_parameters_exactly

-- "The result is the least: every accepted raising gives each register a label at or above ours."
pub raised_least : (image area : List ℕ) (h : HostAnswer) (after : List ℕ) → RaiseCalled image area h after → h.number ≡ 0 → LeastRaising image after
raised_least = raising.told_least

-- "An accepted image comes back unchanged", and so does what was raised; what the area held before does not matter.
pub accepted_comes_back :
    (image area : List ℕ) (h : HostAnswer) (after : List ℕ) → RaiseCalled image area h after → Keeps image
    → ((s : ℕ) → s < length (design_of image).states → (state_at (design_of image) s).parameters ≡ 0)
    → length area ≡ length image
    → (told h ≡ record { number = 0; place = 0; count = 0 }) × (after ≡ image)
accepted_comes_back = raising.told_comes_back

pub raised_twice :
    (image area after again third : List ℕ) (one other : HostAnswer) → RaiseCalled image area one after → one.number ≡ 0 → RaiseCalled after again other third
    → length again ≡ length image
    → (told other ≡ record { number = 0; place = 0; count = 0 }) × (third ≡ after)
raised_twice = raising.told_twice

pub raised_whatever_held :
    (image area other after third : List ℕ) (one two : HostAnswer) → RaiseCalled image area one after → one.number ≡ 0 → RaiseCalled image other two third
    → length other ≡ length area
    → (told two ≡ told one) × (third ≡ after)
raised_whatever_held = raising.told_whatever_held

-- ---- 02, E9: journals
module _ (image : List ℕ) (before ran : LentJournal) (n : ℕ) (one : HostAnswer) (called : Called image before (runs_journalled n) one ran) where
  -- "A journalled run is a run": one that is accepted tells and leaves what a run of the same areas does.
  pub journalled_as_run : one.number ≡ 0 → (plain : HostAnswer) (left : LentJournal) → Called image before (runs n) plain left → (told plain ≡ told one) × (left.areas ≡ ran.areas)
  journalled_as_run = journals.told_as_run image before ran n one called

  -- "its other bytes keep their values", whatever it answers.
  pub journalled_others_keep : (i : ℕ) → OtherByte image before n i → byte_at ran.journal i ≡ byte_at before.journal i
  journalled_others_keep = journals.told_others_keep image before ran n one called

  -- Behind one that is accepted, a step back by k of its cycles is accepted and leaves the areas that a run of n - k leaves; by all of them it leaves what was before the run, "and in the
  -- journal only lowers the count, by k".
  module _ (bytes : AreBytes before.areas.registers) (accepted : one.number ≡ 0) (after : LentJournal) (k : ℕ) (other : HostAnswer) (back : Called image ran (goes_back k) other after) where
    pub back_some : k ≤ n → (told other ≡ record { number = 0; place = 0; count = k }) × BackAt image before ran k (n - k) (record { answer = Accepted k; lent = after })
    back_some = journals.told_back_some image before ran after bytes n k one other called accepted back

    pub back_returns : k ≡ n → (told other ≡ record { number = 0; place = 0; count = k }) × Returned image before ran k (record { answer = Accepted k; lent = after })
    back_returns = journals.told_back_returns image before ran after bytes n k one other called accepted back

-- A journalled run may be cut, and going back by j and then by k is going back by j + k, where both states are sound; "With k of 0 nothing changes", accepted or refused.
pub journalled_halves :
    (image : List ℕ) (before between after whole : LentJournal) → AreBytes before.areas.registers → (n m : ℕ) (first second both : HostAnswer)
    → Called image before (runs_journalled (n + m)) both whole
    → both.number ≡ 0
    → Called image before (runs_journalled n) first between
    → Called image between (runs_journalled m) second after
    → (told first ≡ record { number = 0; place = 0; count = n }) × (told second ≡ record { number = 0; place = 0; count = m }) × (after ≡ whole)
journalled_halves = journals.told_halves

pub steps_back_add :
    (image : List ℕ) (before between after whole : LentJournal) (j k : ℕ) (first second both : HostAnswer)
    → Called image before (goes_back (j + k)) both whole
    → both.number ≡ 0
    → Called image before (goes_back j) first between
    → first.number ≡ 0
    → Called image between (goes_back k) second after
    → (told second ≡ record { number = 0; place = 0; count = k }) × (after ≡ whole)
steps_back_add = journals.told_steps_add

pub step_back_none : (image : List ℕ) (before after : LentJournal) (h : HostAnswer) → Called image before (goes_back 0) h after → after ≡ before
step_back_none = journals.told_back_none

-- ---- 02, E10: replays
-- "The outcome equals port writes and single cycles made by hand", through the exported calls.
pub replay_by_hand :
    (image : List ℕ) (before after : LentJournal) (trace : List TraceRecord) (n : ℕ) (h : HostAnswer) → Called image before (replays trace n) h after
    → AreBytes before.areas.registers → h.number ≡ 0 → (end : LentJournal) (called : AllCalled image before (map listed (by_hand trace 0 n)) end)
    → EachAccepted image (map listed (by_hand trace 0 n)) before end called × (end ≡ after)
replay_by_hand = replaying.told_by_hand

-- "of two for one cycle and port the later supersedes the earlier, and the answer counts those superseded"
pub replay_of_latest :
    (image : List ℕ) (before after other : LentJournal) (trace : List TraceRecord) (n : ℕ) (h k : HostAnswer) → Called image before (replays trace n) h after → h.number ≡ 0
    → Called image before (replays (latest_of trace) n) k other
    → (told k ≡ record { number = 0; place = 0; count = 0 }) × (other.areas ≡ after.areas)
replay_of_latest = replaying.told_latest

-- "Replaying n cycles and then m, the trace divided at cycle n and its cycles recounted, gives the areas of replaying both together, where n plus m is allowed and the whole trace is not
-- refused": both parts are accepted, and their counts add.
pub replay_divided :
    (image : List ℕ) (before between after whole : LentJournal) (trace : List TraceRecord) (n m : ℕ) (first second both : HostAnswer)
    → Called image before (replays trace (n + m)) both whole
    → both.number ≡ 0
    → Called image before (replays (trace_part n trace) n) first between
    → Called image between (replays (trace_rest n trace) m) second after
    → (first.number ≡ 0) × (second.number ≡ 0) × (first.count + second.count ≡ both.count) × (after.areas ≡ whole.areas)
replay_divided = replaying.told_divided

-- Without records a replay is a run, with none superseded; and one of no cycles changes nothing.
pub replay_without_records :
    (image : List ℕ) (before after ran : LentJournal) (n : ℕ) (h k : HostAnswer) → Called image before (replays [] n) h after → Called image before (runs n) k ran
    → (h.number ≡ k.number) × (h.place ≡ k.place) × (h.count ≡ 0) × (after.areas ≡ ran.areas)
replay_without_records = replaying.told_without_records

pub replay_of_none :
    (image : List ℕ) (before after : LentJournal) → AreBytes before.areas.registers → (trace : List TraceRecord) (h : HostAnswer) → Called image before (replays trace 0) h after
    → after ≡ before
replay_of_none = replaying.told_replay_of_none

-- ---- 02, E11: pruning, by its own table, with the bytes of the result as the count; "and output bytes beyond the result keep their values", whatever it answers
pub prune_exactly :
    (image area : List ℕ) (h : HostAnswer) (after : List ℕ) → PruneCalled image area h after → Exactly (prune_table image area) (length (pruned_image image)) area (told_left h after)
prune_exactly image area h after called = rw (prune_called image area h after called) (pruning-meaning.prune_exactly image area)

pub pruned_written : (image area : List ℕ) (h : HostAnswer) (after : List ℕ) → PruneCalled image area h after → h.number ≡ 0 → take (length (pruned_image image)) after ≡ pruned_image image
pruned_written = pruning.told_written

pub pruned_beyond :
    (image area : List ℕ) (h : HostAnswer) (after : List ℕ) → PruneCalled image area h after → (i : ℕ) → length (pruned_image image) ≤ i → byte_at after i ≡ byte_at area i
pruned_beyond = pruning.told_beyond

-- Of an image that the library accepts, the bytes that an accepted pruning wrote, so many as it answers:
module _ (image : List ℕ) (bytes : AreBytes image) (accepts : Accepts image) (area : List ℕ) (h : HostAnswer) (after : List ℕ) (called : PruneCalled image area h after) (written : h.number ≡ 0) where
  -- "It is accepted" by check,
  pub pruned_accepted : (k : HostAnswer) → Checked (take h.count after) k → told k ≡ record { number = 0; place = 0; count = 0 }
  pruned_accepted = pruning.pruned_accepted image bytes accepts area h after called written

  -- "and every run from reset .. gives the same registers and the same walk under the new numbers": every state of a walk is reached, and no two reached ones have one number;
  pub pruned_runs_alike : SameRuns image (take h.count after) (Reached (design_of image)) (new_state (design_of image))
  pruned_runs_alike = pruning.pruned_runs image bytes accepts area h after called written

  -- so hosts that reset, write ports and run alike on both are told the same, and hold the same registers;
  pub pruned_hosts_alike :
      (list : List parties.Call) (one : FromReset image list) (other : FromReset (take h.count after) list)
      → (told_by image list one ≡ told_by (take h.count after) list other) × (one.end.areas.registers ≡ other.end.areas.registers)
  pruned_hosts_alike = hosts_alike image (take h.count after) pruned_runs_alike

  -- "Doing it twice changes nothing"; and a design all of whose states are reached comes back byte for byte.
  pub pruned_twice : (again : List ℕ) (k : HostAnswer) (last : List ℕ) → PruneCalled (take h.count after) again k last → k.number ≡ 0 → take k.count last ≡ take h.count after
  pruned_twice = pruning.pruned_again image bytes accepts area h after called written

  pub whole_comes_back : ((s : ℕ) → s < length (design_of image).states → Reached (design_of image) s) → take h.count after ≡ image
  whole_comes_back = pruning.pruned_whole image bytes accepts area h after called written

-- An output area as long as the image is never too short.
pub never_longer : (image : List ℕ) → AreBytes image → Accepts image → length (pruned_image image) ≤ length image
never_longer = pruning.pruned_shorter

-- ---- 02, E12: filing, by its own table; "bytes beyond the form keep their values"
pub file_exactly :
    (image area : List ℕ) (h : HostAnswer) (after : List ℕ) → FileCalled image area h after → Exactly (file_table image area) (length (filed_image image)) area (told_left h after)
file_exactly image area h after called = rw (file_called image area h after called) (filing-meaning.file_exactly image area)

pub filed_written : (image area : List ℕ) (h : HostAnswer) (after : List ℕ) → FileCalled image area h after → h.number ≡ 0 → take (length (filed_image image)) after ≡ filed_image image
filed_written = filing.told_form

pub filed_beyond :
    (image area : List ℕ) (h : HostAnswer) (after : List ℕ) → FileCalled image area h after → (i : ℕ) → length (filed_image image) ≤ i → byte_at after i ≡ byte_at area i
filed_beyond = filing.told_beyond_form

-- The form of an accepted image is as long as the image.
pub form_long : (image : List ℕ) → AreBytes image → Accepts image → length (filed_image image) ≡ length image
form_long = filing.form_long

module _ (image : List ℕ) (bytes : AreBytes image) (accepts : Accepts image) (area : List ℕ) (h : HostAnswer) (after : List ℕ) (called : FileCalled image area h after) (written : h.number ≡ 0) where
  -- The form that was written is accepted, differs at most in node numbers, is its own form and runs alike.
  pub form_accepted : (k : HostAnswer) → Checked (take h.count after) k → told k ≡ record { number = 0; place = 0; count = 0 }
  form_accepted = filing.form_accepted image bytes accepts area h after called written

  pub form_same : DifferAtMostInNumbers (take h.count after) image
  form_same = filing.form_same image bytes accepts area h after called written

  pub form_twice : (again : List ℕ) (k : HostAnswer) (last : List ℕ) → FileCalled (take h.count after) again k last → k.number ≡ 0 → take k.count last ≡ take h.count after
  form_twice = filing.form_again image bytes accepts area h after called written

  pub form_runs_alike : SameRuns image (take h.count after) (λ s. s < length (design_of image).states) (λ s. s)
  form_runs_alike = filing.form_runs image bytes accepts area h after called written

  pub form_hosts_alike :
      (list : List parties.Call) (one : FromReset image list) (other : FromReset (take h.count after) list)
      → (told_by image list one ≡ told_by (take h.count after) list other) × (one.end.areas.registers ≡ other.end.areas.registers)
  form_hosts_alike = hosts_alike image (take h.count after) form_runs_alike

  -- "Two accepted images have the same form exactly when they differ at most in node numbers",
  pub same_form_exactly :
      (other : List ℕ) → AreBytes other → Accepts other → (area' : List ℕ) (h' : HostAnswer) (after' : List ℕ) → FileCalled other area' h' after' → h'.number ≡ 0
      → (take h.count after ≡ take h'.count after') ↔ DifferAtMostInNumbers image other
  same_form_exactly = filing.forms_same image bytes accepts area h after called written

-- which is exactly when some renumbering of nodes takes one to the other.
pub differ_exactly :
    (image other : List ℕ) → AreBytes image → AreBytes other → verdict image ≡ Accepted 0 → verdict other ≡ Accepted 0
    → DifferAtMostInNumbers image other ↔ NodesRenumbered (design_of image) (design_of other)
differ_exactly = filing-meaning.differ_exactly

-- "Of two lent images the earlier one is handed back as it was lent": its bytes, and where they begin; "the first of them if equal", "and an empty part of the first if either is refused".
module _ (κs : Lfts 2) (a : Dens κs part-kinds.ps) (e : AtExit (ended_of 2 part-kinds.ps part-kinds.r) κs) (called : part-reads.Post κs a tt e) where
  pub part_handed_back :
      (e.1.1.0.now.now ≡ handed_back a.0.now a.1.0.now (earlier a.0.now a.1.0.now))
      × (e.1.1.0.now.ref_ptr ≡ handed_from a.0.ref_ptr a.1.0.ref_ptr (earlier a.0.now a.1.0.now))
  part_handed_back = filing.part_handed_back κs a e called

  pub part_first_where_equal :
      verdict a.0.now ≡ Accepted 0 → verdict a.1.0.now ≡ Accepted 0 → filed_image a.0.now ≡ filed_image a.1.0.now
      → (e.1.1.0.now.now ≡ a.0.now) × (e.1.1.0.now.ref_ptr ≡ a.0.ref_ptr)
  part_first_where_equal = filing.part_first_where_equal κs a e called

  pub part_of_first_where_refused :
      (accepts (verdict a.0.now) && accepts (verdict a.1.0.now)) ≡ false → (e.1.1.0.now.now ≡ []) × (e.1.1.0.now.ref_ptr ≡ a.0.ref_ptr)
  part_of_first_where_refused = filing.part_of_first_where_refused κs a e called

-- The same without pointers: which image, and how long a part; and no lent image comes before what is handed back.
module _ (first second : List ℕ) (h : HostWhich) (called : EarlierCalled first second h) where
  pub told_handed_back : bytes_of first second (told_which h) ≡ handed_back first second (earlier first second)
  told_handed_back = filing.told_handed_back first second h called

  pub told_first_where_equal : verdict first ≡ Accepted 0 → verdict second ≡ Accepted 0 → filed_image first ≡ filed_image second → told_which h ≡ record { second = 0; len = length first }
  told_first_where_equal = filing.told_first_where_equal first second h called

  pub told_neither : (accepts (verdict first) && accepts (verdict second)) ≡ false → told_which h ≡ record { second = 0; len = 0 }
  told_neither = filing.told_neither first second h called

  pub told_earlier_least :
      verdict first ≡ Accepted 0 → verdict second ≡ Accepted 0
      → (comes_before (filed_image first) (filed_image (bytes_of first second (told_which h))) ≡ false) × (comes_before (filed_image second) (filed_image (bytes_of first second (told_which h))) ≡ false)
  told_earlier_least = filing.told_earlier_least first second h called

-- ---- 02, E13: gate tables. Check and the two calls by their tables, and a refusal changes no lent byte.
pub gates_checked_exactly : (table : List ℕ) (h : HostAnswer) → GatesChecked table h → AnswersBy (check_table table) 0 (told h)
gates_checked_exactly = gates.gates_checked

pub gates_called_exactly :
    (table area after : List ℕ) (call : gates-runs.Call) (h : HostAnswer) → GatesCalled table area call h after → Exactly (gates-runs.call_table table area call) 0 area (told_left h after)
gates_called_exactly = gates.gates_called_exactly

-- "Two runs of one accepted table, equal in marks and trusted values, and fed inputs equal where marked trusted, stay so after any number of cycles": each cycle answers 0, 0, 0.
pub gate_hosts_stay_alike :
    (table : List ℕ) (h : HostAnswer) → GatesChecked table h → told h ≡ record { number = 0; place = 0; count = 0 }
    → (one other : List ℕ) → AreaReady (table_of table) one → AreaReady (table_of table) other → Agree (table_of table) one other
    → (feds feds' : List (List ℕ)) → FedEach (table_of table) feds feds'
    → (end end' : List ℕ) (called : AllGatesCalled table one (map cycles feds) end) (called' : AllGatesCalled table other (map cycles feds') end')
    → (gates_told_each table (map cycles feds) one end called ≡ map (λ (inputs : List ℕ). record { number = 0; place = 0; count = 0 }) feds)
    × (gates_told_each table (map cycles feds') other end' called' ≡ map (λ (inputs : List ℕ). record { number = 0; place = 0; count = 0 }) feds')
    × AgreeEach (table_of table) (gates_left_each table (map cycles feds) one end called) (gates_left_each table (map cycles feds') other end' called')
gate_hosts_stay_alike = gates.gate_hosts_stay_alike

-- So through lists of resets and cycles, refused ones struck out: the areas agree after each accepted call and at the end.
pub gate_hosts_independent :
    (table one other : List ℕ) → Agree (table_of table) one other → (list list' : List gates-runs.Call) → gates-runs.remains table one list ≡ gates-runs.remains table other list'
    → (end end' : List ℕ) (called : AllGatesCalled table one list end) (called' : AllGatesCalled table other list' end')
    → AgreeEach (table_of table) (accepted_areas table list one end called) (accepted_areas table list' other end' called') × Agree (table_of table) end end'
gate_hosts_independent = gates.gate_hosts_independent

-- An accepted reset or cycle leaves an area that the next cycle accepts.
pub gates_leave_ready : (table area after : List ℕ) (call : gates-runs.Call) (h : HostAnswer) → GatesCalled table area call h after → h.number ≡ 0 → AreaReady (table_of table) after
gates_leave_ready = gates.gates_leave_ready
