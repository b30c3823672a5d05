-- What each call leaves, case by case of what it judged: a refusal leaves the area as it was lent.
use Rattle.std.specs.Prelude.{Option, None, Err}
use Prim.Native.Nat.{ℕ, ◌*◌, ◌≤◌, ◌<◌}
use mathlib.Core.Path.{◌≡◌, sym, ◌∙◌, ap}
use mathlib.Core.Bool.{Bool, true, false, not, ◌&&◌}
use mathlib.Core.List.{List}
use native.Mathlib.Omega.{arith}
use native.Mathlib.Decide.{dec_lt}
use lib.Dec.{eqb}
use lib.ListN.{length}
use borrow.Author.Tests.{eqb-true}
use Rattle.model.specs.declared.Refusal.TheVariants.{Area, GateWire}
use Rattle.model.specs.declared.RefusedAt.{RefusedAt}
use Rattle.model.specs.Answers.{Answer, Accepted, Refused}
use Rattle.model.specs.Indices.{lowest_failing}
use Rattle.model.specs.Verdict.{◌before◌, refused_at}
use Rattle.model.proofs.Laws.Booleans.{and_first, and_second, not_true, not_false}
use Rattle.model.proofs.Laws.Indices.{failing_none}
use Rattle.model.proofs.Laws.Verdict.{found_nothing}
use Rattle.gates_model.specs.Tables.{table_of, first_flip_flop, first_gate}
use Rattle.gates_model.specs.Signals.{IsSound}
use Rattle.gates_model.specs.Verdict.{table_answer}
use Rattle.gates_model.specs.Cycle.{signal_at, sources, cycled, started}
use Rattle.gates_model.specs.Rules.{DirectoryKeeps, TableKeeps, LentKeeps}
use Rattle.gates_model.specs.Calls.{area_answer, lengths_answer, lent_kept, lent_answer, gates_check, gates_reset, gates_reset_answer, gates_cycle, gates_cycle_answer}
use Rattle.gates_model.proofs.Exact.{accepted_keeps, lent_iff}
use Rattle.gates_model.proofs.Laws.Wires.{source_input, source_flipflop}
use Rattle.gates.specs.declared.Gates.{Gates}
use Rattle.gates.specs.Describes.{Describes}
use Rattle.gates.specs.Codes.{Lends}
use Rattle.gates.specs.Stages.{reset_on, cycle_on}
use Rattle.gates.proofs.Laws.{inputs_count, flipflops_count}
use Rattle.model.specs.Calls.{left_as, leaves, Left}

-- ---- lengths
module _ {table : List ℕ} {x : Gates} (d : Describes table x) where
  counted : (area : List ℕ) → eqb (length area) (2 * x.flipflops) ≡ eqb (length area) (2 * length (table_of table).flipflops)
  counted area = rw (flipflops_count d)

  module _ (area : List ℕ) {b : Bool} (e : b ≡ eqb (length area) (2 * x.flipflops)) where
    area_test : eqb (length area) (2 * length (table_of table).flipflops) ≡ b
    area_test = sym (counted area) ∙ sym e

    pub reset_refuses : not b ≡ true → left_as (Refused Area 0) area ≡ reset_on (table_of table) area
    unfolding reset_on area_answer refused_at
    reset_refuses h = rw (area_test, not_true b h)

    pub reset_makes : {after : List ℕ} → not b ≡ false → after ≡ started (table_of table) → left_as (Accepted 0) after ≡ reset_on (table_of table) area
    unfolding reset_on area_answer refused_at
    reset_makes h made = rw (area_test, not_false b h, made)

  module _ (inputs area : List ℕ) {b : Bool} (e : b ≡ (eqb (length inputs) x.inputs && eqb (length area) (2 * x.flipflops))) where
    lengths_test : (eqb (length inputs) (length (table_of table).inputs) && eqb (length area) (2 * length (table_of table).flipflops)) ≡ b
    lengths_test = rw (← inputs_count d, ← counted area) (sym e)

    pub lengths_wrong : not b ≡ true → left_as (Refused Area 0) area ≡ cycle_on (table_of table) inputs area
    unfolding cycle_on lengths_answer refused_at ◌before◌
    lengths_wrong h = rw (lengths_test, not_true b h)

    then_lent : {left : Left (List ℕ)} → not b ≡ false → left ≡ leaves (lent_answer (table_of table) inputs area) area (cycled (table_of table) inputs area) → left ≡ cycle_on (table_of table) inputs area
    unfolding cycle_on lengths_answer refused_at ◌before◌
    then_lent h k = rw (lengths_test, not_false b h) k

-- ---- what is lent
module _ {table : List ℕ} {x : Gates} (inputs area : List ℕ) (d : Describes table x) {b : Bool} (lengths : b ≡ (eqb (length inputs) x.inputs && eqb (length area) (2 * x.flipflops))) (kept : not b ≡ false) {f : Option ℕ} {a : Answer} (found : f ≡ lowest_failing (lent_kept (table_of table) inputs area) (first_gate (table_of table))) (e : a ≡ refused_at GateWire f) where
  pub lent_wrong : {why : RefusedAt} → a ≡ Err why → left_as (Err why) area ≡ cycle_on (table_of table) inputs area
  unfolding lent_answer
  lent_wrong k = then_lent d inputs area lengths kept (rw (← found, ← e, k))

  module _ {n : ℕ} (accepted : a ≡ Accepted n) where
    nothing_found : f ≡ None
    nothing_found = found_nothing GateWire f (sym e ∙ accepted)

    in_range : (w : ℕ) → w < first_gate (table_of table) → LentKeeps (table_of table) inputs area w
    in_range w l =
        let t = table_of table in
        (lent_iff t inputs area w).0 (failing_none (lent_kept t inputs area) (first_gate t) (sym found ∙ nothing_found) w l)

    sound_source : (keeps : TableKeeps table) (w : ℕ) → w < first_gate (table_of table) → IsSound (signal_at (sources (table_of table) inputs area) w)
    sound_source keeps w l = go (dec_lt w (first_flip_flop (table_of table)))
      where
        go : Dec (w < first_flip_flop (table_of table)) → IsSound (signal_at (sources (table_of table) inputs area) w)
        go (yes low) =
            rw
            (source_input (table_of table) inputs area w low)
            (record { value = (in_range w l).input low; mark = (keeps.wire w (omega arith)).input low })
        go (no high) =
            let above : first_flip_flop (table_of table) ≤ w = omega arith in
            rw (source_flipflop (table_of table) inputs area w above l) ((in_range w l).flipflop above l)

    pub lends_right : TableKeeps table → Lends (table_of table) inputs area
    lends_right keeps =
        let both = sym lengths ∙ not_false b kept in
        let inputs_right = eqb-true (length inputs) x.inputs (and_first (eqb (length inputs) x.inputs) (eqb (length area) (2 * x.flipflops)) both) in
        let area_right = eqb-true (length area) (2 * x.flipflops) (and_second (eqb (length inputs) x.inputs) (eqb (length area) (2 * x.flipflops)) both) in
        record {
          inputs_long = inputs_right ∙ inputs_count d;
          area_long = area_right ∙ ap (λ (n : ℕ). 2 * n) (flipflops_count d);
          sound = sound_source keeps;
        }

    pub cycle_leaves : {after : List ℕ} → after ≡ cycled (table_of table) inputs area → left_as (Accepted 0) after ≡ cycle_on (table_of table) inputs area
    unfolding lent_answer refused_at
    cycle_leaves made = then_lent d inputs area lengths kept (rw (← found, nothing_found, made))

-- ---- the table first
pub check_is : (table : List ℕ) {a : Answer} → a ≡ table_answer table → a ≡ gates_check table
unfolding gates_check
check_is table e = e

module _ (table : List ℕ) {a : Answer} (e : a ≡ table_answer table) where
  module _ {why : RefusedAt} (h : a ≡ Err why) where
    pub refused_reset : (area : List ℕ) → left_as (Err why) area ≡ gates_reset table area
    unfolding gates_reset gates_reset_answer ◌before◌
    refused_reset area = rw (← e, h)

    pub refused_cycle : (inputs area : List ℕ) → left_as (Err why) area ≡ gates_cycle table inputs area
    unfolding gates_cycle gates_cycle_answer ◌before◌
    refused_cycle inputs area = rw (← e, h)

  module _ {c : ℕ} (h : a ≡ Accepted c) where
    pub keeps_known : TableKeeps table
    keeps_known = accepted_keeps table (sym e ∙ h)

    pub accepted_directory : DirectoryKeeps table
    accepted_directory = keeps_known.directory

    pub accepted_reset : {left : Left (List ℕ)} (area : List ℕ) → left ≡ reset_on (table_of table) area → left ≡ gates_reset table area
    unfolding gates_reset gates_reset_answer reset_on ◌before◌
    accepted_reset area k = rw (← e, h) k

    pub accepted_cycle : {left : Left (List ℕ)} (inputs area : List ℕ) → left ≡ cycle_on (table_of table) inputs area → left ≡ gates_cycle table inputs area
    unfolding gates_cycle gates_cycle_answer cycle_on ◌before◌
    accepted_cycle inputs area k = rw (← e, h) k
