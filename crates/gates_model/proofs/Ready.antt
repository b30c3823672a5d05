-- Cycles of an accepted table go on being accepted: every signal of a wire is a bit with a mark, for a gate makes no other and the sources are judged, so a cycle leaves an area
-- of the right length in which every byte is in range; and so does a reset, for the start bytes are judged with the table.
use Prim.Native.Nat.{ℕ, zero, suc, ◌+◌, ◌-◌, ◌≤◌, ◌<◌}
use mathlib.Core.Path.{◌≡◌, refl, sym, ◌∙◌, ap}
use mathlib.Core.Logic.{◌⊎◌, inl, inr}
use mathlib.Core.List.{List, ◌∷◌, map}
use native.Mathlib.Omega.{arith}
use native.Mathlib.Decide.{dec_lt}
use lib.ListN.{length, get_or-eq_default}
use Rattle.model.specs.declared.Refusal.{Refusal}
use Rattle.model.specs.Answers.{Answer, Accepted, Refused}
use Rattle.model.specs.Refusals.{Pass, AllKept}
use Rattle.model.specs.Calls.{Left, leaves}
use Rattle.model.proofs.Laws.Verdict.{refused_is_not_accepted}
use Rattle.model.proofs.Laws.Left.{left_holds}
use Rattle.model.proofs.Laws.Broken.{Decides}
use Rattle.gates_model.specs.Tables.{Table, table_of, mark_at, flip_flop_at, first_flip_flop, first_gate, wires}
use Rattle.gates_model.specs.Signals.{Signal, IsSound}
use Rattle.gates_model.specs.Cycle.{signal_at, no_signal, sources, settled, signals, next_signal, cycled, start_signal, started}
use Rattle.gates_model.specs.Calls.{gates_reset, gates_reset_answer, gates_cycle, gates_cycle_answer}
use Rattle.gates_model.specs.Rules.{FlipFlopKeeps, LentKeeps, TableKeeps, reset_table, cycle_table}
use Rattle.gates_model.specs.Runs.{resets, cycles, perform, at_end, none, more, AreaReady, InputsReady, unfed, fed, answers, areas_each, CyclesStayAlike, LeavesReady}
use Rattle.gates_model.proofs.Laws.Areas.{signal_made, length-made}
use Rattle.gates_model.proofs.Laws.Wires.{length-sources, source_input, source_flipflop, length-settled, settled_lower, settled_gate, nand_sound}
use Rattle.gates_model.proofs.Exact.{reset_decides, cycle_decides}
use Rattle.gates_model.proofs.Independence.Wires.{cycle_agrees}

-- ---- every wire is sound, and past the last there is a 0 that is trusted
abbrev AllSound : List Signal → Type 0
AllSound all = (w : ℕ) → IsSound (signal_at all w)

past_sound : (all : List Signal) (w : ℕ) → length all ≤ w → IsSound (signal_at all w)
past_sound all w l = rw (get_or-eq_default all no_signal {n = w} l) (record { value = omega arith; mark = omega arith })

module _ (t : Table) where
  settled_sound : (start : List Signal) → AllSound start → (n : ℕ) → AllSound (settled t start n)
  unfolding settled
  settled_sound start h zero w = h w
  settled_sound start h (suc n) w = go (settled_sound start h n w) (dec_lt w (length start + n)) (dec_lt w (length start + suc n))
    where
      go : IsSound (signal_at (settled t start n) w) → Dec (w < length start + n) → Dec (w < length start + suc n) → IsSound (signal_at (settled t start (suc n)) w)
      go lower (yes low) d = rw (settled_lower t start n w low) lower
      go lower (no high) (yes l) =
          let here : w ≡ length start + n = omega arith in
          rw (ap (signal_at (settled t start (suc n))) here ∙ settled_gate t start n) (nand_sound _ _)
      go lower (no high) (no l) = let long = length-settled t start (suc n) in past_sound (settled t start (suc n)) w (omega arith)

  -- an input has a value that is lent and a mark of the table's, a flip-flop has both as they are lent
  module _ (inputs area : List ℕ) (marks : (i : ℕ) → i < first_flip_flop t → mark_at t i ≤ 1) (given : InputsReady t inputs) (ready : AreaReady t area) where
    sources_sound : AllSound (sources t inputs area)
    sources_sound w = by_kind (dec_lt w (first_flip_flop t)) (dec_lt w (first_gate t))
      where
        by_kind : Dec (w < first_flip_flop t) → Dec (w < first_gate t) → IsSound (signal_at (sources t inputs area) w)
        by_kind (yes low) d = rw (source_input t inputs area w low) (record { value = given.bits w low; mark = marks w low })
        by_kind (no high) (yes below) =
            let above : first_flip_flop t ≤ w = omega arith in
            rw (source_flipflop t inputs area w above below) (ready.sound (w - first_flip_flop t) (omega arith))
        by_kind (no high) (no behind) = let long = length-sources t inputs area in past_sound (sources t inputs area) w (omega arith)

    signals_sound : AllSound (signals t inputs area)
    unfolding signals
    signals_sound = settled_sound (sources t inputs area) sources_sound (length t.gates)

    pub cycled_ready : AreaReady t (cycled t inputs area)
    unfolding cycled
    cycled_ready =
        let n = length t.flipflops in
        let next = next_signal t (signals t inputs area) in
        record { long = length-made next n; sound = λ i l. rw (signal_made next n i l) (signals_sound (flip_flop_at t i).next) }

  pub started_ready : ((i : ℕ) → i < length t.flipflops → FlipFlopKeeps t i) → AreaReady t (started t)
  unfolding started
  started_ready kept =
      let n = length t.flipflops in
      record { long = length-made (start_signal t) n; sound = λ i l. rw (signal_made (start_signal t) n i l) (record { value = (kept i l).value; mark = (kept i l).mark }) }

-- ---- of an accepted table
-- an acceptance of any count has all rules kept
accepted_kept : {a : Answer} {n count : ℕ} {passes : List Pass} → Decides a n passes → a ≡ Accepted count → AllKept passes
accepted_kept {a} {n} {count} {passes} decides e = go decides.either
  where
    go : (a ≡ Accepted n) ⊎ ((refusal : Refusal) × (place : ℕ) × (a ≡ Refused refusal place)) → AllKept passes
    go (inl h) = decides.accepts.0 h
    go (inr (refusal, place, h)) = absurd (refused_is_not_accepted refusal place count (sym h ∙ e))

module _ {table : List ℕ} (keeps : TableKeeps table) where
  input_marks : (i : ℕ) → i < first_flip_flop (table_of table) → mark_at (table_of table) i ≤ 1
  input_marks i l = let inside : i < wires (table_of table) = omega arith in (keeps.wire i inside).input l

  flipflops_kept : (i : ℕ) → i < length (table_of table).flipflops → FlipFlopKeeps (table_of table) i
  flipflops_kept i l =
      let first = first_flip_flop (table_of table) in
      let own : first + i - first ≡ i = omega arith in
      rw own at ((keeps.wire (first + i) (omega arith)).flipflop (omega arith) (omega arith))

  -- ---- a cycle on an area and inputs that are ready is accepted
  module _ {inputs area : List ℕ} (ready : AreaReady (table_of table) area) (given : InputsReady (table_of table) inputs) where
    cycle_kept_lem : AllKept (cycle_table table inputs area)
    cycle_kept_lem =
        (λ place. (λ zero. keeps.directory, tt), (λ place. (λ below. keeps.wire place below, tt), (λ place. (λ zero. (given.long, ready.long), tt), (λ place. (λ below. lent place below, tt), tt))))
      where
        lent : (w : ℕ) → w < first_gate (table_of table) → LentKeeps (table_of table) inputs area w
        lent w below =
            record {
              input = λ l. given.bits w l;
              flipflop = λ above l. ready.sound (w - first_flip_flop (table_of table)) (omega arith);
              gate = λ above. tt;
            }

    pub cycle_accepted : gates_cycle table inputs area ≡ record { answer = Accepted 0; lent = cycled (table_of table) inputs area }
    unfolding gates_cycle
    cycle_accepted = ap (λ (a : Answer). leaves a area (cycled (table_of table) inputs area)) ((cycle_decides table inputs area).accepts.1 cycle_kept_lem)

    -- as a call of a list
    performs_cycle : perform table area (cycles inputs) ≡ record { answer = Accepted 0; lent = cycled (table_of table) inputs area }
    unfolding perform
    performs_cycle = cycle_accepted

    -- and leaves an area that is ready
    cycle_ready : AreaReady (table_of table) (cycled (table_of table) inputs area)
    cycle_ready = cycled_ready (table_of table) inputs area input_marks given ready

-- ---- what an accepted call leaves
reset_leaves : (table area : List ℕ) → AllKept (reset_table table area) → AreaReady (table_of table) (started (table_of table))
reset_leaves table area kept = started_ready (table_of table) (flipflops_kept (record { directory = (kept.0 0).0 refl; wire = λ w below. (kept.1.0 w).0 below }))

cycle_leaves : (table inputs area : List ℕ) → AllKept (cycle_table table inputs area) → AreaReady (table_of table) (cycled (table_of table) inputs area)
cycle_leaves table inputs area kept = cycle_ready (record { directory = (kept.0 0).0 refl; wire = λ w below. (kept.1.0 w).0 below }) ready given
  where
    t : Table
    t = table_of table

    ready : AreaReady t area
    ready =
        record {
          long = ((kept.1.1.0 0).0 refl).1;
          sound = λ i l.
              let own : first_flip_flop t + i - first_flip_flop t ≡ i = omega arith in
              rw own at (((kept.1.1.1.0 (first_flip_flop t + i)).0 (omega arith)).flipflop (omega arith) (omega arith));
        }

    given : InputsReady t inputs
    given = record { long = ((kept.1.1.0 0).0 refl).0; bits = λ i l. ((kept.1.1.1.0 i).0 (omega arith)).input l }

pub leaves_ready : LeavesReady
unfolding perform gates_reset gates_cycle
leaves_ready table area resets e =
    left_holds (AreaReady (table_of table)) (gates_reset_answer table area) area (started (table_of table)) e (λ n h. reset_leaves table area (accepted_kept (reset_decides table area) h))
leaves_ready table area (cycles inputs) e =
    left_holds (AreaReady (table_of table)) (gates_cycle_answer table inputs area) area (cycled (table_of table) inputs area) e (λ n h. cycle_leaves table inputs area (accepted_kept (cycle_decides table inputs area) h))

-- ---- any number of cycles
-- the end of a list is that of what is behind its first cycle
end_behind : (table area inputs : List ℕ) (later : List (List ℕ)) {left : Left (List ℕ)} → perform table area (cycles inputs) ≡ left → at_end table area (map cycles (inputs ∷ later)) ≡ at_end table left.lent (map cycles later)
unfolding at_end
end_behind table area inputs later e = ap (λ (x : Left (List ℕ)). at_end table x.lent (map cycles later)) e

pub cycles_stay_alike : CyclesStayAlike
unfolding answers areas_each at_end
cycles_stay_alike table keeps one other ready ready' agree feds feds' unfed = record { accepted = refl; accepted' = refl; each = none; end = agree }
cycles_stay_alike table keeps one other ready ready' agree feds feds' (fed {inputs} {inputs'} {later} {later'} given given' alike each) =
    let here = performs_cycle keeps ready given in
    let there = performs_cycle keeps ready' given' in
    let step = cycle_agrees (table_of table) alike agree in
    let rest =
    cycles_stay_alike
    table
    keeps
    (cycled (table_of table) inputs one)
    (cycled (table_of table) inputs' other)
    (cycle_ready keeps ready given)
    (cycle_ready keeps ready' given')
    step
    later
    later'
    each in
    record {
      accepted = rw here (ap (λ (xs : List Answer). Accepted 0 ∷ xs) rest.accepted);
      accepted' = rw there (ap (λ (xs : List Answer). Accepted 0 ∷ xs) rest.accepted');
      each = rw (here, there) (more step rest.each);
      end = rw (end_behind table one inputs later here, end_behind table other inputs' later' there) rest.end;
    }
