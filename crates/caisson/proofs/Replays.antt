-- What the exported replay, 02, E10, told and left, from its contract (`Contracts`) and no more.
use Prim.Native.Nat.{ℕ, ◌+◌}
use mathlib.Core.Path.{◌≡◌, sym, ◌∙◌, ap}
use mathlib.Core.List.{List, [], ◌∷◌, map}
use Rattle.model.specs.Image.{AreBytes, design_of}
use Rattle.model.specs.Answers.{Numbers, numbers_of}
use Rattle.model.specs.Calls.{Lent, Left}
use Rattle.model.specs.Refusals.{WithinWidths}
use Rattle.model.specs.Parties as parties
use Rattle.journal_model.specs.Calls.{LentJournal}
use Rattle.replay_model.specs.declared.TraceRecord.{TraceRecord}
use Rattle.replay_model.specs.Traces.{trace_part, trace_rest}
use Rattle.replay_model.specs.Calls.{replay}
use Rattle.replay_model.specs.ByHand.{by_hand}
use Rattle.replay_model.proofs.Latest.{latest_of}
use Rattle.replay_model.proofs.ByHand.{AllAccepted, one_made}
use Rattle.replay_model.proofs.Areas.{OtherPortsKept}
use Rattle.replay_model.proofs.Promises as meaning
use Rattle.lists_model.specs.Lists.{Call, runs, replays, perform, listed}
use Rattle.lists_model.proofs.Listed.{listed_performs, listed_end}
use Rattle.caisson.specs.declared.HostAnswer.{HostAnswer}
use Rattle.caisson.specs.Told.{told}
use Rattle.caisson.proofs.Contracts.{Called, AllCalled}
use Rattle.caisson.proofs.Calls.{called_told, called_leaves, called_number, all_called_ends}
use Rattle.caisson.proofs.Calls as calls

-- every one of some calls was accepted
abbrev pub EachAccepted : (image : List ℕ) (calls : List Call) (before after : LentJournal) → AllCalled image before calls after → Type 0
EachAccepted image [] before after same = Unit {0}
EachAccepted image (call ∷ more) before after (h, between, called, others) = (h.number ≡ 0) × EachAccepted image more between after others

all_told : (image : List ℕ) (calls : List parties.Call) (before after : LentJournal) (called : AllCalled image before (map listed calls) after) → AllAccepted image before.areas calls
    → EachAccepted image (map listed calls) before after called
all_told image [] before after same accepted = tt
all_told image (call ∷ more) before after (h, between, called, others) (one_made accepted rest) =
    let told = called_number image before between (listed call) h called in
    let leaves = called_leaves image before between (listed call) h called in
    let answers = listed_performs image before call in (
      told ∙ ap (λ (x : Left LentJournal). (numbers_of x.answer).number) answers ∙ accepted,
      all_told image more between after others (rw (leaves ∙ ap (λ (x : Left LentJournal). x.lent) answers) rest),
    )

-- ---- what a replay told and left
module _ (image : List ℕ) (before after : LentJournal) (trace : List TraceRecord) (n : ℕ) (h : HostAnswer) (made : Called image before (replays trace n) h after) where
  replay_told : told h ≡ numbers_of (replay image before.areas trace n).answer
  unfolding perform
  replay_told = called_told image before after (replays trace n) h made

  replay_leaves : after ≡ record { areas = (replay image before.areas trace n).lent; journal = before.journal }
  unfolding perform
  replay_leaves = called_leaves image before after (replays trace n) h made

  replay_areas : after.areas ≡ (replay image before.areas trace n).lent
  replay_areas = ap (λ (lent : LentJournal). lent.areas) replay_leaves

  replay_number : h.number ≡ (numbers_of (replay image before.areas trace n).answer).number
  replay_number = ap (λ (x : Numbers). x.number) replay_told

  replay_count : h.count ≡ (numbers_of (replay image before.areas trace n).answer).count
  replay_count = ap (λ (x : Numbers). x.count) replay_told

  replay_accepted : h.number ≡ 0 → (numbers_of (replay image before.areas trace n).answer).number ≡ 0
  replay_accepted accepted = sym replay_number ∙ accepted

  -- "The outcome equals port writes and single cycles made by hand", through the exported calls: where the replay is accepted each of them is, and they leave the areas that it
  -- leaves.
  pub told_by_hand : AreBytes before.areas.registers → h.number ≡ 0 → (end : LentJournal) (called : AllCalled image before (map listed (by_hand trace 0 n)) end)
      → EachAccepted image (map listed (by_hand trace 0 n)) before end called × (end ≡ after)
  told_by_hand bytes accepted end called =
      let hand = meaning.replay_by_hand image before.areas bytes trace n (replay_accepted accepted) in (
        all_told image (by_hand trace 0 n) before end called hand.all_accepted,
        all_called_ends image (map listed (by_hand trace 0 n)) before end called
            ∙ listed_end image (by_hand trace 0 n) before
            ∙ ap (λ (areas : Lent). record { areas = areas; journal = before.journal }) hand.at_end
            ∙ sym replay_leaves,
      )

  -- 02, E2: one that is accepted leaves every register within its width.
  pub replay_told_within_widths : h.number ≡ 0 → WithinWidths (design_of image) after.areas.registers
  replay_told_within_widths accepted = rw replay_areas (meaning.replay_within_widths image before.areas trace n (replay_accepted accepted))

  -- 02, E1, "Ports belong to the host": whatever it answers, it leaves every byte of every port that no record names.
  pub replay_other_ports_kept : AreBytes before.areas.registers → OtherPortsKept (design_of image) trace before.areas.registers after.areas.registers
  replay_other_ports_kept bytes = rw replay_areas (meaning.replay_keeps_other_ports image before.areas bytes trace n)

-- "of two for one cycle and port the later supersedes the earlier": a replay of the trace without its superseded records is accepted where the replay is, supersedes none, and leaves
-- the same areas.
pub told_latest :
    (image : List ℕ) (before after other : LentJournal) (trace : List TraceRecord) (n : ℕ) (h k : HostAnswer)
    → Called image before (replays trace n) h after
    → h.number ≡ 0
    → Called image before (replays (latest_of trace) n) k other
    → (told k ≡ record { number = 0; place = 0; count = 0 }) × (other.areas ≡ after.areas)
told_latest image before after other trace n h k made accepted latest =
    let same = meaning.replay_of_latest image before.areas trace n (replay_accepted image before after trace n h made accepted) in (
      replay_told image before other (latest_of trace) n k latest ∙ ap (λ (x : Left Lent). numbers_of x.answer) same,
      replay_areas image before other (latest_of trace) n k latest ∙ ap (λ (x : Left Lent). x.lent) same ∙ sym (replay_areas image before after trace n h made),
    )

-- "Replaying n cycles and then m, the trace divided at cycle n and its cycles recounted, gives the areas of replaying both together, where n plus m is allowed and the whole trace is
-- not refused": both parts are accepted, and their counts add to that of the whole.
pub told_divided :
    (image : List ℕ) (before between after whole : LentJournal) (trace : List TraceRecord) (n m : ℕ) (first second both : HostAnswer)
    → Called image before (replays trace (n + m)) both whole
    → both.number ≡ 0
    → Called image before (replays (trace_part n trace) n) first between
    → Called image between (replays (trace_rest n trace) m) second after
    → (first.number ≡ 0) × (second.number ≡ 0) × (first.count + second.count ≡ both.count) × (after.areas ≡ whole.areas)
told_divided image before between after whole trace n m first second both all accepted one other =
    let parts = meaning.replay_divided image before.areas trace n m (replay_accepted image before whole trace (n + m) both all accepted) in
    let middle = replay_areas image before between (trace_part n trace) n first one in (
      replay_number image before between (trace_part n trace) n first one ∙ parts.first_accepted,
      replay_number image between after (trace_rest n trace) m second other ∙ rw middle parts.second_accepted,
      rw
          (replay_count image before between (trace_part n trace) n first one, replay_count image between after (trace_rest n trace) m second other, middle)
          (parts.counts ∙ sym (replay_count image before whole trace (n + m) both all)),
      replay_areas image between after (trace_rest n trace) m second other ∙ rw middle parts.same ∙ sym (replay_areas image before whole trace (n + m) both all),
    )

-- "Before each of n cycles its records are applied": without records a replay is a run, refused with the same number and place, and leaves the same areas, with none superseded,
pub told_without_records :
    (image : List ℕ) (before after ran : LentJournal) (n : ℕ) (h k : HostAnswer)
    → Called image before (replays [] n) h after
    → Called image before (runs n) k ran
    → (h.number ≡ k.number) × (h.place ≡ k.place) × (h.count ≡ 0) × (after.areas ≡ ran.areas)
unfolding parties.perform
told_without_records image before after ran n h k made called =
    let same = meaning.replay_without_records image before.areas n in
    let run_told = calls.run_told image before ran k n called in (
      replay_number image before after [] n h made ∙ same.number ∙ sym (ap (λ (x : Numbers). x.number) run_told),
      ap (λ (x : Numbers). x.place) (replay_told image before after [] n h made) ∙ same.place ∙ sym (ap (λ (x : Numbers). x.place) run_told),
      replay_count image before after [] n h made ∙ same.count,
      replay_areas image before after [] n h made ∙ same.same ∙ sym (calls.run_leaves image before ran k n called),
    )

-- and one of no cycles changes nothing, accepted or refused.
pub told_replay_of_none : (image : List ℕ) (before after : LentJournal) → AreBytes before.areas.registers → (trace : List TraceRecord) (h : HostAnswer)
    → Called image before (replays trace 0) h after
    → after ≡ before
told_replay_of_none image before after bytes trace h made =
    replay_leaves image before after trace 0 h made ∙ ap (λ (areas : Lent). record { areas = areas; journal = before.journal }) (meaning.replay_of_none image before.areas bytes trace)
