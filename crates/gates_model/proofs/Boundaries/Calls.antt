-- Cases at the boundaries of what is lent: refusal 14 for lengths, 26 for bytes, their order, and that a refusal changes no byte.
use Prim.Native.Nat.{ℕ}
use mathlib.Core.Path.{◌≡◌, refl}
use mathlib.Core.List.{List, [], ◌∷◌, map}
use Rattle.model.specs.Answers.{Numbers}
use Rattle.gates_model.specs.Calls.{gates_reset, gates_cycle}
use Rattle.gates_model.proofs.Opened.{everything, accepted, refused, told}
use Rattle.gates_model.proofs.Worked.{assemble, flip_flop, store}

-- ---- reset: "an area of a value and a mark byte per flip-flop; a wrong length is 14"
shows_reset_lengths
    : map (λ area. told (gates_reset store area)) ((7 ∷ 7 ∷ 7 ∷ 7 ∷ []) ∷ (7 ∷ 7 ∷ 7 ∷ []) ∷ (7 ∷ 7 ∷ 7 ∷ 7 ∷ 7 ∷ []) ∷ (7 ∷ 7 ∷ []) ∷ [])
    ≡ (accepted, 0 ∷ 0 ∷ 0 ∷ 0 ∷ []) ∷ (refused 14 0, 7 ∷ 7 ∷ 7 ∷ []) ∷ (refused 14 0, 7 ∷ 7 ∷ 7 ∷ 7 ∷ 7 ∷ []) ∷ (refused 14 0, 7 ∷ 7 ∷ []) ∷ []
shows_reset_lengths = unfold everything in refl

-- it writes value and mark of each flip-flop, in this order
shows_start_bytes : told (gates_reset (assemble [] (flip_flop 0 1 0 ∷ flip_flop 0 0 1 ∷ []) []) (7 ∷ 7 ∷ 7 ∷ 7 ∷ [])) ≡ (accepted, 1 ∷ 0 ∷ 0 ∷ 1 ∷ [])
shows_start_bytes = unfold everything in refl

-- "after 26 for the table": a table that is not accepted, and lengths that are wrong
shows_table_first
    : told (gates_reset (assemble (2 ∷ []) [] []) (7 ∷ [])) ∷ told (gates_cycle (assemble (2 ∷ []) [] []) [] (7 ∷ [])) ∷ told (gates_cycle [] (2 ∷ []) (7 ∷ [])) ∷ []
    ≡ (refused 26 0, 7 ∷ []) ∷ (refused 26 0, 7 ∷ []) ∷ (refused 25 0, 7 ∷ []) ∷ []
shows_table_first = unfold everything in refl

-- ---- a cycle
abbrev cycle_with : List ℕ → List ℕ → Numbers × List ℕ
cycle_with inputs area = told (gates_cycle store inputs area)

-- "one value byte per input": one less and one more
shows_input_lengths
    : map (λ inputs. cycle_with inputs (1 ∷ 1 ∷ 1 ∷ 1 ∷ [])) ((0 ∷ []) ∷ (0 ∷ 1 ∷ []) ∷ (0 ∷ 1 ∷ 0 ∷ []) ∷ [])
    ≡ (refused 14 0, 1 ∷ 1 ∷ 1 ∷ 1 ∷ []) ∷ (accepted, 0 ∷ 0 ∷ 1 ∷ 1 ∷ []) ∷ (refused 14 0, 1 ∷ 1 ∷ 1 ∷ 1 ∷ []) ∷ []
shows_input_lengths = unfold everything in refl

shows_area_lengths
    : map (cycle_with (0 ∷ 1 ∷ [])) ((1 ∷ 1 ∷ 1 ∷ []) ∷ (1 ∷ 1 ∷ 1 ∷ 1 ∷ 1 ∷ []) ∷ (1 ∷ 1 ∷ []) ∷ [])
    ≡ (refused 14 0, 1 ∷ 1 ∷ 1 ∷ []) ∷ (refused 14 0, 1 ∷ 1 ∷ 1 ∷ 1 ∷ 1 ∷ []) ∷ (refused 14 0, 1 ∷ 1 ∷ []) ∷ []
shows_area_lengths = unfold everything in refl

-- "before 26 for these": a byte out of range, and a wrong length of either
shows_length_first
    : cycle_with (2 ∷ []) (1 ∷ 1 ∷ 1 ∷ 1 ∷ []) ∷ cycle_with (2 ∷ 2 ∷ []) (1 ∷ 1 ∷ 1 ∷ []) ∷ cycle_with (0 ∷ 1 ∷ []) (2 ∷ 2 ∷ 2 ∷ []) ∷ []
    ≡ (refused 14 0, 1 ∷ 1 ∷ 1 ∷ 1 ∷ []) ∷ (refused 14 0, 1 ∷ 1 ∷ 1 ∷ []) ∷ (refused 14 0, 2 ∷ 2 ∷ 2 ∷ []) ∷ []
shows_length_first = unfold everything in refl

-- "a .. value or mark out of range": the value of an input, then value and mark of a flip-flop, at its wire
shows_input_values
    : map (λ inputs. cycle_with inputs (0 ∷ 0 ∷ 0 ∷ 0 ∷ [])) ((2 ∷ 0 ∷ []) ∷ (1 ∷ 2 ∷ []) ∷ (1 ∷ 1 ∷ []) ∷ [])
    ≡ (refused 26 0, 0 ∷ 0 ∷ 0 ∷ 0 ∷ []) ∷ (refused 26 1, 0 ∷ 0 ∷ 0 ∷ 0 ∷ []) ∷ (accepted, 1 ∷ 0 ∷ 1 ∷ 1 ∷ []) ∷ []
shows_input_values = unfold everything in refl

shows_area_bytes
    : map (cycle_with (0 ∷ 0 ∷ [])) ((2 ∷ 0 ∷ 0 ∷ 0 ∷ []) ∷ (0 ∷ 2 ∷ 0 ∷ 0 ∷ []) ∷ (1 ∷ 1 ∷ 2 ∷ 0 ∷ []) ∷ (1 ∷ 1 ∷ 1 ∷ 2 ∷ []) ∷ (1 ∷ 1 ∷ 1 ∷ 1 ∷ []) ∷ [])
    ≡ (refused 26 2, 2 ∷ 0 ∷ 0 ∷ 0 ∷ []) ∷ (refused 26 2, 0 ∷ 2 ∷ 0 ∷ 0 ∷ []) ∷ (refused 26 3, 1 ∷ 1 ∷ 2 ∷ 0 ∷ []) ∷ (refused 26 3, 1 ∷ 1 ∷ 1 ∷ 2 ∷ []) ∷ (accepted, 0 ∷ 0 ∷ 0 ∷ 1 ∷ []) ∷ []
shows_area_bytes = unfold everything in refl

-- "at the lowest wire": inputs before flip-flops
shows_lowest_lent : cycle_with (0 ∷ 2 ∷ []) (2 ∷ 2 ∷ 2 ∷ 2 ∷ []) ∷ cycle_with (0 ∷ 1 ∷ []) (1 ∷ 1 ∷ 2 ∷ 2 ∷ []) ∷ [] ≡ (refused 26 1, 2 ∷ 2 ∷ 2 ∷ 2 ∷ []) ∷ (refused 26 3, 1 ∷ 1 ∷ 2 ∷ 2 ∷ []) ∷ []
shows_lowest_lent = unfold everything in refl
