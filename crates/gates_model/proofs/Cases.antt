-- Cases of documents 000 and 001: the shadow NAND, a multiplexer, a counter with a reset, and what a reset and a cycle write.
use Prim.Native.Nat.{ℕ, ◌+◌}
use mathlib.Core.Path.{◌≡◌, refl}
use mathlib.Core.List.{List, [], ◌∷◌, ◌++◌, map}
use Rattle.gates_model.specs.Tables.{table_of}
use Rattle.gates_model.specs.Signals.{Signal, signal, nand}
use Rattle.gates_model.specs.Cycle.{signal_at, signals}
use Rattle.gates_model.specs.Calls.{gates_reset, gates_cycle}
use Rattle.gates_model.specs.Runs.{Call, resets, cycles, was_reset, was_cycle, remains, areas_after, at_end}
use Rattle.gates_model.proofs.Opened.{everything, accepted, judged, told}
use Rattle.gates_model.proofs.Worked.{multiplexer, counter, exchange, store}

-- ---- the shadow NAND, row by row
abbrev trusted0 : Signal
trusted0 = signal 0 0

abbrev trusted1 : Signal
trusted1 = signal 1 0

abbrev untrusted0 : Signal
untrusted0 = signal 0 1

abbrev untrusted1 : Signal
untrusted1 = signal 1 1

abbrev all : List Signal
all = trusted0 ∷ trusted1 ∷ untrusted0 ∷ untrusted1 ∷ []

-- 000: "an input with a value 0 controls the output of a NAND gate irrespective of the value of the other input", where it is trusted
shows_trusted_zero : map (nand trusted0) all ≡ trusted1 ∷ trusted1 ∷ trusted1 ∷ trusted1 ∷ []
shows_trusted_zero = unfold everything in refl

-- 000: "if one input is either 1T or a ∗T, the other input can affect the output and its label will propagate to the output's label"
shows_trusted_one : map (nand trusted1) all ≡ trusted1 ∷ trusted0 ∷ untrusted1 ∷ untrusted0 ∷ []
shows_trusted_one = unfold everything in refl

-- an untrusted 0 decides nothing
shows_untrusted_zero : map (nand untrusted0) all ≡ trusted1 ∷ untrusted1 ∷ untrusted1 ∷ untrusted1 ∷ []
shows_untrusted_zero = unfold everything in refl

shows_untrusted_one : map (nand untrusted1) all ≡ trusted1 ∷ untrusted0 ∷ untrusted1 ∷ untrusted0 ∷ []
shows_untrusted_one = unfold everything in refl

-- 001, figure 2: an AND is a NAND and its inverse; "if input a is trusted and set to 0, and input b is untrusted, the result will always be 0"
abbrev and : Signal → Signal → Signal
and a b = nand (nand a b) (nand a b)

shows_shadow_and : map (and trusted0) all ++ map (and trusted1) all ≡ (trusted0 ∷ trusted0 ∷ trusted0 ∷ trusted0 ∷ []) ++ (trusted0 ∷ trusted1 ∷ untrusted0 ∷ untrusted1 ∷ [])
shows_shadow_and = unfold everything in refl

-- ---- a multiplexer of four NANDs
-- the output for inputs a, b and a choice
abbrev chosen : Signal → Signal → Signal → Signal
chosen a b s = signal_at (signals (table_of (multiplexer a.mark b.mark s.mark)) (a.value ∷ b.value ∷ s.value ∷ []) []) 6

abbrev sum : List ℕ → ℕ
sum [] = 0
sum (x ∷ xs) = x + sum xs

-- the outputs' marks for two inputs, over all choices, and for one, over all others
abbrev marks_of : Signal → Signal → ℕ
marks_of a b = sum (map (λ s. (chosen a b s).mark) all)

abbrev marks_of_first : Signal → ℕ
marks_of_first a = sum (map (marks_of a) all)

shows_multiplexer_accepted : judged (multiplexer 0 0 0) ∷ judged (multiplexer 1 1 1) ∷ [] ≡ accepted ∷ accepted ∷ []
shows_multiplexer_accepted = unfold everything in refl

-- 001: made of gates, its marks are "slightly more conservative than the shadow logic derived directly from the truth table": untrusted in 46 of the 64 rows
shows_multiplexer_marks : sum (map marks_of_first all) ≡ 46
shows_multiplexer_marks = unfold everything in refl

-- 001: "if the select line is trusted, and the input it is selecting is trusted, the resulting output should be trusted regardless of .. the other input"
shows_multiplexer_trusted
    : chosen trusted0 untrusted1 trusted1 ∷ chosen trusted1 untrusted0 trusted1 ∷ chosen untrusted1 trusted0 trusted0 ∷ chosen untrusted0 trusted1 trusted0 ∷ []
    ≡ trusted0 ∷ trusted1 ∷ trusted0 ∷ trusted1 ∷ []
shows_multiplexer_trusted = unfold everything in refl

-- ---- the counter of 001's figure 3
-- "Reset writes the start bytes."
shows_counter_start : told (gates_reset counter (7 ∷ 9 ∷ [])) ≡ (accepted, 1 ∷ 1 ∷ [])
shows_counter_start = unfold everything in refl

-- "once a trusted reset has been set we know that the counter is in a trusted state 0"
shows_counter
    : areas_after counter (1 ∷ 1 ∷ []) (cycles (0 ∷ []) ∷ cycles (0 ∷ []) ∷ cycles (1 ∷ []) ∷ cycles (0 ∷ []) ∷ cycles (0 ∷ []) ∷ [])
    ≡ (0 ∷ 1 ∷ []) ∷ (1 ∷ 1 ∷ []) ∷ (0 ∷ 0 ∷ []) ∷ (1 ∷ 0 ∷ []) ∷ (0 ∷ 0 ∷ []) ∷ []
shows_counter = unfold everything in refl

-- ---- flip-flops
-- "All flip-flops change together after the gates."
shows_together : told (gates_cycle exchange [] (0 ∷ 0 ∷ 1 ∷ 1 ∷ [])) ≡ (accepted, 1 ∷ 1 ∷ 0 ∷ 0 ∷ [])
shows_together = unfold everything in refl

-- an input's mark is the table's, whatever its value
shows_input_marks : map (λ inputs. told (gates_cycle store inputs (1 ∷ 1 ∷ 1 ∷ 1 ∷ []))) ((0 ∷ 0 ∷ []) ∷ (1 ∷ 1 ∷ []) ∷ []) ≡ (accepted, 0 ∷ 0 ∷ 0 ∷ 1 ∷ []) ∷ (accepted, 1 ∷ 0 ∷ 1 ∷ 1 ∷ []) ∷ []
shows_input_marks = unfold everything in refl

-- ---- lists of calls: a refused call is struck out, and of inputs those remain that are marked trusted
abbrev list : List Call
list = resets ∷ cycles (1 ∷ 2 ∷ []) ∷ cycles (1 ∷ 1 ∷ []) ∷ []

shows_remains : remains store (1 ∷ 1 ∷ 1 ∷ 1 ∷ []) list ≡ was_reset ∷ was_cycle (1 ∷ 0 ∷ []) ∷ []
shows_remains = unfold everything in refl

shows_list : at_end store (1 ∷ 1 ∷ 1 ∷ 1 ∷ []) list ∷ areas_after store (1 ∷ 1 ∷ 1 ∷ 1 ∷ []) list ≡ (1 ∷ 0 ∷ 1 ∷ 1 ∷ []) ∷ (0 ∷ 0 ∷ 0 ∷ 0 ∷ []) ∷ (1 ∷ 0 ∷ 1 ∷ 1 ∷ []) ∷ []
shows_list = unfold everything in refl
