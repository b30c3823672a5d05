-- Cases at the far ends of numbers: gates, wires, inputs and flip-flops with high numbers, the high byte of a wire's number, bytes with their top bit set, and which
-- of two faults is told.
use Prim.Native.Nat.{ℕ}
use mathlib.Core.Path.{◌≡◌, refl}
use mathlib.Core.Bool.{true, false}
use mathlib.Core.List.{List, [], ◌∷◌, ◌++◌, map}
use lib.ListN.{replicate}
use Rattle.gates_model.specs.Tables.{Inputs, FlipFlops, Gates, offset, count, FlipFlop, Gate, Table, flip_flop_of, gate_of}
use Rattle.gates_model.specs.Signals.{signal}
use Rattle.gates_model.specs.Verdict.{flip_flop_kept, gate_kept, wire_kept}
use Rattle.gates_model.specs.Cycle.{cycled, started, bytes_of}
use Rattle.gates_model.specs.Calls.{lent_kept, gates_cycle}
use Rattle.gates_model.specs.Runs.{trusted_inputs}
use Rattle.gates_model.proofs.Opened.{everything, refused, judged, told}
use Rattle.gates_model.proofs.Worked.{assemble, flip_flop, gate}

-- ---- a cycle
abbrev gate_like : ℕ → ℕ → Gate
gate_like first second = record { first = first; second = second }

abbrev flip_flop_like : ℕ → ℕ → ℕ → FlipFlop
flip_flop_like next value mark = record { next = next; value = value; mark = mark }

-- a flip-flop, 258 gates that turn it round, but for the second, which turns the first round, and one gate more that turns the last of them round, wire 258; the
-- flip-flop takes the wire of this one, 259
abbrev long_table : Table
long_table = record { inputs = []; flipflops = flip_flop_like 259 0 0 ∷ []; gates = gate_like 0 0 ∷ gate_like 1 1 ∷ replicate 256 (gate_like 0 0) ++ (gate_like 258 258 ∷ []) }

-- "All flip-flops change together after the gates": after the last of 259
shows_every_gate_settles : map (cycled long_table []) ((0 ∷ 1 ∷ []) ∷ (1 ∷ 1 ∷ []) ∷ []) ≡ (0 ∷ 1 ∷ []) ∷ (1 ∷ 1 ∷ []) ∷ []
shows_every_gate_settles = unfold everything in refl

-- 256 inputs, of which the last is trusted, and 256 flip-flops, of which the first takes the last input and the last the first flip-flop
abbrev widest : Table
widest =
    record {
      inputs = replicate 255 1 ++ (0 ∷ []);
      flipflops = flip_flop_like 255 0 0 ∷ replicate 254 (flip_flop_like 0 0 0) ++ (flip_flop_like 256 1 1 ∷ []);
      gates = [];
    }

-- "Wires are numbered inputs, flip-flops, gates": of 512 wires the last input and the first flip-flop
shows_widest_cycle
    : cycled widest (replicate 255 0 ++ (1 ∷ [])) (1 ∷ 1 ∷ replicate 510 0)
    ≡ 1 ∷ 0 ∷ bytes_of (replicate 254 (signal 0 1)) ++ (1 ∷ 1 ∷ [])
shows_widest_cycle = unfold everything in refl

-- "Reset writes the start bytes.": of the last flip-flop too
shows_widest_start : started widest ≡ replicate 510 0 ++ (1 ∷ 1 ∷ [])
shows_widest_start = unfold everything in refl

-- "fed inputs equal where marked trusted": the last input
shows_last_trusted : trusted_inputs widest (replicate 256 1) ≡ replicate 255 0 ++ (1 ∷ [])
shows_last_trusted = unfold everything in refl

-- ---- fields
-- "next wire, start value, start mark" and "two wires": both bytes of a wire, and the highest bytes
shows_high_fields : flip_flop_of (253 ∷ 252 ∷ 251 ∷ 250 ∷ []) ≡ record { next = 64765; value = 251; mark = 250 }
shows_high_fields = unfold everything in refl

shows_high_wires : gate_of (253 ∷ 252 ∷ 251 ∷ 250 ∷ []) ≡ record { first = 64765; second = 64251 }
shows_high_wires = unfold everything in refl

-- the directory of the largest table
abbrev directory : List ℕ
directory = 12 ∷ 0 ∷ 0 ∷ 1 ∷ 12 ∷ 1 ∷ 0 ∷ 4 ∷ 12 ∷ 5 ∷ 0 ∷ 64 ∷ []

shows_high_counts : count directory Inputs ∷ count directory FlipFlops ∷ count directory Gates ∷ offset directory Gates ∷ [] ≡ 256 ∷ 256 ∷ 4096 ∷ 1292 ∷ []
shows_high_counts = unfold everything in refl

-- ---- records
-- the largest table, of which the last flip-flop and the last gate are these
abbrev largest : FlipFlop → Gate → Table
largest flipflop last = record { inputs = replicate 256 0; flipflops = replicate 255 (flip_flop_like 0 0 0) ++ (flipflop ∷ []); gates = replicate 4095 (gate_like 0 0) ++ (last ∷ []) }

-- "next wire": the last of 4,608, and the first behind it; bytes with their top bit set
shows_last_flipflop
    : map (λ f. flip_flop_kept (largest f (gate_like 0 0)) 255) (flip_flop_like 4607 1 1 ∷ flip_flop_like 4608 0 0 ∷ flip_flop_like 32768 0 0 ∷ flip_flop_like 0 128 0 ∷ flip_flop_like 0 0 128 ∷ []) ≡ true ∷ replicate 4 false
shows_last_flipflop = unfold everything in refl

-- "a gate reads lower wires only": the last gate is wire 4,607
shows_last_gate
    : map
    (λ g. gate_kept (largest (flip_flop_like 0 0 0) g) 4095)
    (gate_like 4606 4606 ∷ gate_like 4607 0 ∷ gate_like 0 4607 ∷ gate_like 32768 0 ∷ gate_like 0 32768 ∷ [])
    ≡ true ∷ replicate 4 false
shows_last_gate = unfold everything in refl

-- by the kind of the wire: input 255, flip-flop 255 and gate 4,095
shows_last_wires
    : map (wire_kept (largest (flip_flop_like 0 2 0) (gate_like 4607 0))) (255 ∷ 256 ∷ 511 ∷ 512 ∷ 4607 ∷ []) ≡ true ∷ true ∷ false ∷ true ∷ false ∷ []
shows_last_wires = unfold everything in refl

-- "lent bytes": of the last input and of both bytes of the last flip-flop, also with their top bit set
shows_last_lent
    : lent_kept widest (replicate 255 0 ++ (1 ∷ [])) (replicate 512 1) 255
    ∷ lent_kept widest (replicate 255 0 ++ (128 ∷ [])) (replicate 512 1) 255
    ∷ lent_kept widest [] (replicate 511 0 ++ (128 ∷ [])) 511
    ∷ lent_kept widest [] (replicate 510 0 ++ (128 ∷ 0 ∷ [])) 511
    ∷ []
    ≡ true ∷ false ∷ false ∷ false ∷ []
shows_last_lent = unfold everything in refl

-- ---- which fault is told
-- "at the lowest wire": of two flip-flops a wire, a value and a mark, each before another
shows_flipflop_before_higher
    : map
    (λ (pair : List ℕ × List ℕ). judged (assemble (0 ∷ []) (pair.0 ∷ pair.1 ∷ []) []))
    ((flip_flop 3 0 0, flip_flop 0 2 0) ∷ (flip_flop 3 0 0, flip_flop 0 0 2) ∷ (flip_flop 0 2 0, flip_flop 3 0 0) ∷ (flip_flop 0 2 0, flip_flop 0 0 2) ∷ (flip_flop 0 0 2, flip_flop 3 0 0) ∷ (flip_flop 0 0 2, flip_flop 0 2 0) ∷ [])
    ≡ replicate 6 (refused 26 1)
shows_flipflop_before_higher = unfold everything in refl

-- of two gates the first wire and the second, either way round
shows_gate_before_higher
    : map judged (assemble (0 ∷ []) [] (gate 1 0 ∷ gate 0 2 ∷ []) ∷ assemble (0 ∷ []) [] (gate 0 1 ∷ gate 2 0 ∷ []) ∷ []) ≡ replicate 2 (refused 26 1)
shows_gate_before_higher = unfold everything in refl

-- of lent bytes too: the mark of the first flip-flop before the value of the second, and the other way round
shows_lent_before_higher
    : map
    (λ (area : List ℕ). told (gates_cycle (assemble [] (flip_flop 0 0 0 ∷ flip_flop 0 0 0 ∷ []) []) [] area))
    ((0 ∷ 2 ∷ 2 ∷ 0 ∷ []) ∷ (2 ∷ 0 ∷ 0 ∷ 2 ∷ []) ∷ [])
    ≡ (refused 26 0, 0 ∷ 2 ∷ 2 ∷ 0 ∷ []) ∷ (refused 26 0, 2 ∷ 0 ∷ 0 ∷ 2 ∷ []) ∷ []
shows_lent_before_higher = unfold everything in refl
