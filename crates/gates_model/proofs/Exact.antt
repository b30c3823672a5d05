-- Acceptance and refusals are exact: each test is true exactly where its rule holds, and a pass finds the lowest wire at which it fails.
use Prim.Native.Nat.{ℕ, ◌≤◌}
use mathlib.Core.Path.{◌≡◌, refl, sym, ◌∙◌}
use mathlib.Core.Logic.Iff
use mathlib.Core.Logic.{◌↔◌, ◌⊎◌, inl, inr}
use mathlib.Core.Bool.{true, ◌&&◌}
use mathlib.Core.List.{List}
use Rattle.model.specs.declared.Refusal.{Refusal}
use Rattle.model.specs.Image.{byte_at}
use Rattle.model.specs.Answers.{Accepted, Refused, numbers_of}
use Rattle.model.specs.Refusals.{AllKept, AnswersBy, in_numbers, Exactly}
use Rattle.model.proofs.Laws.Equivalences.{less_iff, at_most_iff, equal_iff, and_iff, and_three_iff}
use Rattle.model.proofs.Laws.Verdict.{refused_is_not_accepted}
use Rattle.model.proofs.Laws.Broken.{Decides, decides_one, decides_before}
use Rattle.model.proofs.Laws.Finds.{finds_each, finds_zero}
use Rattle.model.proofs.Refused.{answers_by, exactly}
use Rattle.gates_model.specs.Tables.{Section, Inputs, FlipFlops, Gates, section_kept, offsets_kept, directory_kept, Table, table_of, mark_at}
use Rattle.gates_model.specs.Signals.{IsSound}
use Rattle.gates_model.specs.Verdict.{is_bit, input_kept, flip_flop_kept, gate_kept, wire_kept, table_answer}
use Rattle.gates_model.specs.Cycle.{signal_in}
use Rattle.gates_model.specs.Calls.{area_answer, lengths_answer, lent_kept, lent_answer, gates_check, gates_reset_answer, gates_cycle_answer, gates_reset, gates_cycle}
use Rattle.gates_model.specs.Rules.{SectionKeeps, DirectoryKeeps, FlipFlopKeeps, GateKeeps, WireKeeps, LentKeeps, TableKeeps, check_table, reset_table, cycle_table}
use Rattle.gates_model.proofs.Laws.Kinds.{kind_iff}
use Rattle.gates_model.specs.Runs.{Call, resets, cycles, perform, call_table}

section_iff : (table : List ℕ) (s : Section) → (section_kept table s ≡ true) ↔ SectionKeeps table s
unfolding section_kept
section_iff table s =
    let all = and_iff equal_iff at_most_iff in
    (λ e. let h = all.0 e in record { whole = h.0; at_most = h.1 }, λ k. all.1 (k.whole, k.at_most))

pub directory_iff : (table : List ℕ) → (directory_kept table ≡ true) ↔ DirectoryKeeps table
unfolding directory_kept offsets_kept
directory_iff table =
    let offsets = and_iff (and_iff (and_iff (and_iff at_most_iff equal_iff) equal_iff) equal_iff) equal_iff in
    let all = and_iff (and_iff (and_iff offsets (section_iff table Inputs)) (section_iff table FlipFlops)) (section_iff table Gates) in (
      λ e.
          let (((((((present, inputs), flipflops), gates), ends), i), f), g) = all.0 e in
          record { present = present; inputs_at = inputs; flipflops_at = flipflops; gates_at = gates; ends = ends; inputs = i; flipflops = f; gates = g },
      λ k. all.1 (((((((k.present, k.inputs_at), k.flipflops_at), k.gates_at), k.ends), k.inputs), k.flipflops), k.gates),
    )

module _ (t : Table) where
  input_iff : (i : ℕ) → (input_kept t i ≡ true) ↔ (mark_at t i ≤ 1)
  unfolding input_kept
  input_iff i = at_most_iff

  flipflop_iff : (i : ℕ) → (flip_flop_kept t i ≡ true) ↔ FlipFlopKeeps t i
  unfolding flip_flop_kept
  flipflop_iff i =
      let all = and_three_iff less_iff at_most_iff at_most_iff in
      (λ e. let h = all.0 e in record { next = h.0; value = h.1; mark = h.2 }, λ k. all.1 (k.next, k.value, k.mark))

  gate_iff : (g : ℕ) → (gate_kept t g ≡ true) ↔ GateKeeps t g
  unfolding gate_kept
  gate_iff g =
      let all = and_iff less_iff less_iff in
      (λ e. let h = all.0 e in record { first = h.0; second = h.1 }, λ k. all.1 (k.first, k.second))

  pub wire_iff : (w : ℕ) → (wire_kept t w ≡ true) ↔ WireKeeps t w
  unfolding wire_kept
  wire_iff w = kind_iff t (input_iff) (flipflop_iff) (gate_iff) w

  module _ (inputs area : List ℕ) where
    sound_iff : (i : ℕ) → ((is_bit (signal_in area i).value && is_bit (signal_in area i).mark) ≡ true) ↔ IsSound (signal_in area i)
    sound_iff i =
        let all = and_iff at_most_iff at_most_iff in
        (λ e. let h = all.0 e in record { value = h.0; mark = h.1 }, λ k. all.1 (k.value, k.mark))

    pub lent_iff : (w : ℕ) → (lent_kept t inputs area w ≡ true) ↔ LentKeeps t inputs area w
    unfolding lent_kept
    lent_iff w = kind_iff t (λ i. at_most_iff {a = byte_at inputs i} {b = 1}) sound_iff (λ g. (λ e. tt, λ k. refl)) w

-- ---- each answer decides its table
table_decides : (table : List ℕ) → Decides (table_answer table) 0 (check_table table)
unfolding table_answer
table_decides table =
    decides_before
    (decides_one (finds_zero (directory_iff table)))
    (λ kept. decides_one (finds_each (wire_iff (table_of table))))

pub reset_decides : (table area : List ℕ) → Decides (gates_reset_answer table area) 0 (reset_table table area)
unfolding gates_reset_answer area_answer
reset_decides table area = decides_before (table_decides table) (λ kept. decides_one (finds_zero equal_iff))

pub cycle_decides : (table inputs area : List ℕ) → Decides (gates_cycle_answer table inputs area) 0 (cycle_table table inputs area)
unfolding gates_cycle_answer lengths_answer lent_answer
cycle_decides table inputs area =
    decides_before
    (table_decides table)
    (λ kept.
    decides_before
    (decides_one (finds_zero (and_iff equal_iff equal_iff)))
    (λ long. decides_one (finds_each (lent_iff (table_of table) inputs area))))

-- ---- what a host is told
-- a table keeps the rules exactly where none of its table's is broken
keeps_table : (table : List ℕ) → TableKeeps table ↔ AllKept (check_table table)
keeps_table table = (
  λ k. (λ place. (λ zero. k.directory, tt), (λ place. (λ below. k.wire place below, tt), tt)),
  λ all. record { directory = (all.0 0).0 refl; wire = λ w below. (all.1.0 w).0 below },
)

pub accepted_keeps : (table : List ℕ) {count : ℕ} → table_answer table ≡ Accepted count → TableKeeps table
accepted_keeps table {count} e = go (table_decides table).either
  where
    go : (table_answer table ≡ Accepted 0) ⊎ ((refusal : Refusal) × (place : ℕ) × (table_answer table ≡ Refused refusal place)) → TableKeeps table
    go (inl h) = (keeps_table table).1 ((table_decides table).accepts.0 h)
    go (inr (refusal, place, h)) = absurd (refused_is_not_accepted refusal place count (sym h ∙ e))

pub check_answers : (table : List ℕ) → AnswersBy (check_table table) 0 (numbers_of (gates_check table))
unfolding gates_check
check_answers table = answers_by (table_decides table)

pub check_exact : (table : List ℕ) → (numbers_of (gates_check table) ≡ record { number = 0; place = 0; count = 0 }) ↔ TableKeeps table
check_exact table = Iff.trans (check_answers table).accepted ((keeps_table table).1, (keeps_table table).0)

pub call_exactly : (table area : List ℕ) (call : Call) → Exactly (call_table table area call) 0 area (in_numbers (perform table area call))
unfolding perform gates_reset gates_cycle
call_exactly table area resets = exactly _ (reset_decides table area)
call_exactly table area (cycles inputs) = exactly _ (cycle_decides table inputs area)
