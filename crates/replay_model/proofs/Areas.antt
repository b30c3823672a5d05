-- The areas that a replay leaves: they are good, so every register is within its width; records write the ports that they name, and cycles leave every port, so any other
-- port keeps its bytes. Without records a replay is a run, and without cycles it leaves all as it is.
use Rattle.std.specs.Prelude.{Err}
use Prim.Native.Nat.{ℕ, zero, suc, ◌+◌, ◌*◌, ◌≤◌, ◌<◌}
use mathlib.Core.Path.{◌≡◌, refl, ◌∙◌, ap}
use mathlib.Core.Logic.{◌⊎◌, inl, inr}
use mathlib.Core.List.{List, []}
use native.Mathlib.Omega.{arith}
use native.Mathlib.Decide.{dec_lt}
use lib.ListN.{length, set}
use Rattle.model.specs.Limits.{word_length}
use Rattle.model.specs.Indices.{lowest, lowest_failing}
use Rattle.model.specs.Image.{Design, AreBytes, byte_at, register_at, design_of}
use Rattle.model.specs.Verdict.{verdict, refused_at, ◌before◌}
use Rattle.model.specs.Answers.{Answer, Accepted, numbers_of}
use Rattle.model.specs.Values.{bytes_of}
use Rattle.model.specs.Machine.{Areas, cycle, cycles, after_last, after_cycles}
use Rattle.model.specs.Calls.{Lent, Left, content_kept, areas_of, lent_of, run_answer, run}
use Rattle.model.specs.Refusals.{WithinWidths}
use Rattle.model.proofs.Laws.Equivalences.{less_iff}
use Rattle.model.proofs.Laws.Words.{other_bytes}
use Rattle.model.proofs.Exact.{verdict_exact}
use Rattle.model.proofs.Independence.Relation.{Good}
use Rattle.model.proofs.Independence.Calls.{areas_of_lent}
use Rattle.model.proofs.Grouping.{ready_run, ready_good, ready_back, good_ready}
use Rattle.model.proofs.Ports.{run_keeps_ports}
use Rattle.replay_model.specs.declared.TraceRecord.{TraceRecord}
use Rattle.replay_model.specs.Traces.{record_at, records_of_cycle, applied, with_records, replayed, superseded_in}
use Rattle.replay_model.specs.Calls.{trace_answer, record_answer, records_answer, replay_answer, replay}
use Rattle.replay_model.proofs.Laws.{bytes_are_bytes, Each, of_none, of_more, each_kept, each_make, replayed_none}
use Rattle.replay_model.proofs.Accepted.{PortRecord, accepted_replays, replay_leaves, cycle_good, records_good, after_ready}

-- ---- widths
pub within : (image : List ℕ) (lent : Lent) (trace : List TraceRecord) (n : ℕ) → (numbers_of (replay image lent trace n).answer).number ≡ 0
    → WithinWidths (design_of image) (replay image lent trace n).lent.registers
unfolding content_kept
within image lent trace n e =
    let r = accepted_replays image lent trace n e in
    rw (replay_leaves image lent trace n r) (λ g l. less_iff.0 ((after_ready image r).contents g l))

-- ---- ports
-- a port that no record of a trace names
abbrev pub NamedByNone : List TraceRecord → ℕ → Type 0
NamedByNone trace g = (i : ℕ) → i < length trace → (record_at trace i).register ≡ g → ⊥

-- between two contents of a register area no byte of a port that the trace does not name has changed
abbrev pub OtherPortsKept : Design → List TraceRecord → List ℕ → List ℕ → Type 0
OtherPortsKept d trace lent left =
    (g : ℕ) → (register_at d g).kind ≡ 1 → NamedByNone trace g → (k : ℕ) → k < word_length → byte_at left (word_length * g + k) ≡ byte_at lent (word_length * g + k)

module _ (g k : ℕ) (l : k < word_length) where
  outside : (r : ℕ) → (r ≡ g → ⊥) → (word_length * g + k < word_length * r) ⊎ (word_length * r + word_length ≤ word_length * g + k)
  outside r other = go (dec_lt g r) (dec_lt r g)
    where
      go : Dec (g < r) → Dec (r < g) → (word_length * g + k < word_length * r) ⊎ (word_length * r + word_length ≤ word_length * g + k)
      go (yes below) above = inl (omega arith)
      go (no below) (yes above) = inr (omega arith)
      go (no below) (no above) = absurd (other (omega arith))

  applied_keeps : {records : List TraceRecord} (values : List ℕ) → Each (λ r. r.register ≡ g → ⊥) records
      → byte_at (bytes_of (applied records values)) (word_length * g + k) ≡ byte_at (bytes_of values) (word_length * g + k)
  unfolding applied
  applied_keeps values of_none = refl
  applied_keeps values (of_more {r} other others) =
      applied_keeps (set values r.register r.value) others
      ∙ other_bytes values r.register r.value (word_length * g + k) (outside r.register other)

  module _ (image : List ℕ) (accepted : verdict image ≡ Accepted 0) (port : (register_at (design_of image) g).kind ≡ 1) where
    abbrev d : Design
    d = design_of image

    cycle_keeps : (areas : Areas) → Good d areas → byte_at (bytes_of (cycle d areas).after.registers) (word_length * g + k) ≡ byte_at (bytes_of areas.registers) (word_length * g + k)
    unfolding lent_of cycles after_cycles after_last
    cycle_keeps areas good =
        let ran = ready_run image (lent_of areas) (good_ready image accepted areas good) 1 (omega arith) in
        let back = areas_of_lent d ((verdict_exact image).0 accepted).design.structure areas good in
        let kept = run_keeps_ports image (lent_of areas) (bytes_are_bytes areas.registers) 1 g port k l in
        rw (ran, back) at kept

    replayed_keeps : {trace : List TraceRecord} → Each (PortRecord d) trace → Each (λ r. r.register ≡ g → ⊥) trace → (c n : ℕ) (areas : Areas) → Good d areas
        → byte_at (bytes_of (after_last areas (replayed d trace c n areas)).registers) (word_length * g + k) ≡ byte_at (bytes_of areas.registers) (word_length * g + k)
    unfolding replayed after_last with_records records_of_cycle
    replayed_keeps ports others c zero areas good = refl
    replayed_keeps {trace} ports others c (suc n) areas good =
        let ready = records_good image accepted ports c good in
        replayed_keeps ports others (suc c) n (cycle d (with_records trace c areas)).after (cycle_good image accepted ready)
        ∙ cycle_keeps (with_records trace c areas) ready
        ∙ applied_keeps areas.registers (each_kept _ others)

pub other_ports_kept : (image : List ℕ) (lent : Lent) → AreBytes lent.registers → (trace : List TraceRecord) (n : ℕ)
    → OtherPortsKept (design_of image) trace lent.registers (replay image lent trace n).lent.registers
unfolding replay lent_of
other_ports_kept image lent bytes trace n g port unnamed k l = go (replay_answer image lent trace n) refl
  where
    d : Design
    d = design_of image

    go : (a : Answer) → replay_answer image lent trace n ≡ a → byte_at (replay image lent trace n).lent.registers (word_length * g + k) ≡ byte_at lent.registers (word_length * g + k)
    go (Err why) e = rw e
    go (Accepted count) e =
        let r = accepted_replays image lent trace n (rw e) in
        rw e
        (replayed_keeps g k l image r.ready.accepted port r.ports (each_make trace unnamed) 0 n (areas_of d lent) (ready_good image lent r.ready)
        ∙ ap (λ (back : Lent). byte_at back.registers (word_length * g + k)) (ready_back image lent r.ready bytes))

-- ---- without cycles
pub none_left : (image : List ℕ) (lent : Lent) → AreBytes lent.registers → (trace : List TraceRecord) → (replay image lent trace 0).lent ≡ lent
unfolding replay replayed after_last
none_left image lent bytes trace = go (replay_answer image lent trace 0) refl
  where
    go : (a : Answer) → replay_answer image lent trace 0 ≡ a → (replay image lent trace 0).lent ≡ lent
    go (Err why) e = rw e
    go (Accepted count) e = let r = accepted_replays image lent trace 0 (rw e) in rw e (ready_back image lent r.ready bytes)

-- ---- without records
-- A replay that is a run: it refuses as the run does, supersedes nothing, and leaves the same areas.
pub record AsRun (replays ran : Left Lent) : Type 0 where
  pub number : (numbers_of replays.answer).number ≡ (numbers_of ran.answer).number
  pub place : (numbers_of replays.answer).place ≡ (numbers_of ran.answer).place
  pub count : (numbers_of replays.answer).count ≡ 0
  pub same : replays.lent ≡ ran.lent

no_records : (image : List ℕ) (lent : Lent) (n : ℕ) → replay_answer image lent [] n ≡ (run_answer image lent n before Accepted 0)
unfolding replay_answer trace_answer records_answer record_answer lowest_failing lowest refused_at superseded_in ◌before◌
no_records image lent n = refl

pub as_run : (image : List ℕ) (lent : Lent) (n : ℕ) → AsRun (replay image lent [] n) (run image lent n)
unfolding replay run after_cycles ◌before◌
as_run image lent n = go (run_answer image lent n) refl
  where
    go : (a : Answer) → run_answer image lent n ≡ a → AsRun (replay image lent [] n) (run image lent n)
    go (Err why) e = rw (no_records image lent n, e) (record { number = refl; place = refl; count = refl; same = refl })
    go (Accepted count) e = rw (no_records image lent n, e, replayed_none (design_of image) 0 n (areas_of (design_of image) lent)) (record { number = refl; place = refl; count = refl; same = refl })
