-- The signals of the wires by their numbers: inputs, then flip-flops, then one more for each gate, which leaves the lower ones as they are.
use Prim.Native.Nat.{ℕ, zero, suc, ◌+◌, ◌-◌, ◌≤◌, ◌<◌}
use mathlib.Core.Path.{◌≡◌, ◌∙◌, ap}
use mathlib.Core.Bool.{Bool, true, false, ◌&&◌, ◌||◌, cond}
use mathlib.Core.List.{List, [], ◌∷◌, ◌++◌}
use native.Mathlib.Omega.{arith}
use lib.Dec.{eqb}
use lib.ListN.{length, length-append, get_or-append}
use lib.Seq.{get_or-append-add, get_or_at}
use Rattle.model.specs.Indices.{tabulate}
use Rattle.model.proofs.Laws.Indices.{length-tabulate, get_d_tabulate}
use Rattle.gates_model.specs.Tables.{Table, gate_at, first_flip_flop, first_gate}
use Rattle.gates_model.specs.Signals.{Signal, IsSound, is_trusted, is_trusted_zero, nand}
use Rattle.gates_model.specs.Cycle.{signal_at, no_signal, signal_in, input_signal, sources, settled}

module _ (t : Table) (inputs area : List ℕ) where
  pub length-sources : length (sources t inputs area) ≡ first_gate t
  unfolding sources
  length-sources =
      let all = length-append (tabulate (input_signal t inputs) (length t.inputs)) (tabulate (signal_in area) (length t.flipflops)) in
      let one = length-tabulate (input_signal t inputs) (length t.inputs) in
      let other = length-tabulate (signal_in area) (length t.flipflops) in
      omega arith

  pub source_input : (w : ℕ) → w < first_flip_flop t → signal_at (sources t inputs area) w ≡ input_signal t inputs w
  unfolding sources
  source_input w l =
      let n = length t.inputs in
      let long = length-tabulate (input_signal t inputs) n in
      get_or-append (tabulate (input_signal t inputs) n) (tabulate (signal_in area) (length t.flipflops)) no_signal w (omega arith)
      ∙ get_d_tabulate (input_signal t inputs) n w no_signal l

  pub source_flipflop : (w : ℕ) → first_flip_flop t ≤ w → w < first_gate t → signal_at (sources t inputs area) w ≡ signal_in area (w - first_flip_flop t)
  unfolding sources
  source_flipflop w above below =
      let n = length t.inputs in
      let first = tabulate (input_signal t inputs) n in
      let long = length-tabulate (input_signal t inputs) n in
      let place : w ≡ length first + (w - n) = omega arith in
      ap (signal_at (first ++ tabulate (signal_in area) (length t.flipflops))) place
      ∙ get_or-append-add first (tabulate (signal_in area) (length t.flipflops)) (w - n) no_signal
      ∙ get_d_tabulate (signal_in area) (length t.flipflops) (w - n) no_signal (omega arith)

-- ---- one gate more
module _ (t : Table) (start : List Signal) where
  pub length-settled : (n : ℕ) → length (settled t start n) ≡ length start + n
  unfolding settled
  length-settled zero = omega arith
  length-settled (suc n) =
      let so = settled t start n in
      let all = length-append so (nand (signal_at so (gate_at t n).first) (signal_at so (gate_at t n).second) ∷ []) in
      let before = length-settled n in
      omega arith

  pub settled_lower : (n w : ℕ) → w < length start + n → signal_at (settled t start (suc n)) w ≡ signal_at (settled t start n) w
  unfolding settled
  settled_lower n w l =
      let so = settled t start n in
      let long = length-settled n in
      get_or-append so (nand (signal_at so (gate_at t n).first) (signal_at so (gate_at t n).second) ∷ []) no_signal w (omega arith)

  pub settled_gate : (n : ℕ) → signal_at (settled t start (suc n)) (length start + n) ≡ nand (signal_at (settled t start n) (gate_at t n).first) (signal_at (settled t start n) (gate_at t n).second)
  unfolding settled
  settled_gate n =
      let so = settled t start n in
      get_or_at so (nand (signal_at so (gate_at t n).first) (signal_at so (gate_at t n).second)) [] no_signal (length start + n) (length-settled n)

-- ---- a gate's output is a sound signal, whatever it reads
pub nand_sound : (a b : Signal) → IsSound (nand a b)
unfolding nand
nand_sound a b = record { value = value (eqb a.value 1 && eqb b.value 1); mark = mark ((is_trusted a && is_trusted b) || is_trusted_zero a || is_trusted_zero b) }
  where
    value : (c : Bool) → cond c 0 1 ≤ 1
    value true = omega arith
    value false = omega arith

    mark : (c : Bool) → cond c 0 1 ≤ 1
    mark true = omega arith
    mark false = omega arith
