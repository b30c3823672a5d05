-- Cases at the boundaries of refusal 26 for a table: marks, values and wires, each at its limit and one past it, and the place.
use Prim.Native.Nat.{ℕ}
use mathlib.Core.Path.{◌≡◌, refl}
use mathlib.Core.List.{List, [], ◌∷◌, map}
use Rattle.gates_model.proofs.Opened.{everything, accepted, refused, judged}
use Rattle.gates_model.proofs.Worked.{assemble, flip_flop, gate}

-- "mark 0 trusted or 1"
shows_input_mark : map (λ m. judged (assemble (0 ∷ m ∷ []) [] [])) (0 ∷ 1 ∷ 2 ∷ 255 ∷ []) ≡ accepted ∷ accepted ∷ refused 26 1 ∷ refused 26 1 ∷ []
shows_input_mark = unfold everything in refl

-- "next wire, start value, start mark", with an input before it: wire 1
abbrev of_flip_flop : List ℕ → List ℕ
of_flip_flop f = assemble (0 ∷ []) (f ∷ []) (gate 0 1 ∷ [])

shows_start_value : map (λ v. judged (of_flip_flop (flip_flop 0 v 0))) (0 ∷ 1 ∷ 2 ∷ []) ≡ accepted ∷ accepted ∷ refused 26 1 ∷ []
shows_start_value = unfold everything in refl

shows_start_mark : map (λ m. judged (of_flip_flop (flip_flop 0 0 m))) (0 ∷ 1 ∷ 2 ∷ []) ≡ accepted ∷ accepted ∷ refused 26 1 ∷ []
shows_start_mark = unfold everything in refl

-- a flip-flop's next wire is any wire of the table: itself, a gate behind it, the last of three; and none past it. Both bytes of the field count.
shows_next_wire : map (λ n. judged (of_flip_flop (flip_flop n 0 0))) (1 ∷ 2 ∷ 3 ∷ 256 ∷ []) ≡ accepted ∷ accepted ∷ refused 26 1 ∷ refused 26 1 ∷ []
shows_next_wire = unfold everything in refl

-- "a gate reads lower wires only": the wire below it, itself, one behind it; of an input and a flip-flop before two gates the second is wire 3
abbrev of_gate : ℕ → ℕ → List ℕ
of_gate a b = assemble (0 ∷ []) (flip_flop 0 0 0 ∷ []) (gate 0 1 ∷ gate a b ∷ gate 0 0 ∷ [])

shows_first_wire : map (λ a. judged (of_gate a 0)) (2 ∷ 3 ∷ 4 ∷ 256 ∷ []) ≡ accepted ∷ refused 26 3 ∷ refused 26 3 ∷ refused 26 3 ∷ []
shows_first_wire = unfold everything in refl

shows_second_wire : map (λ b. judged (of_gate 0 b)) (2 ∷ 3 ∷ 4 ∷ 256 ∷ []) ≡ accepted ∷ refused 26 3 ∷ refused 26 3 ∷ refused 26 3 ∷ []
shows_second_wire = unfold everything in refl

-- the first gate of a table without anything else has no wire to read
shows_no_lower_wire : judged (assemble [] [] (gate 0 0 ∷ [])) ≡ refused 26 0
shows_no_lower_wire = unfold everything in refl

-- "at the lowest wire whose record .. hold[s] it": inputs before flip-flops before gates, and the lower of two of one kind
shows_lowest_wire
    : map
    judged
    (assemble (0 ∷ 2 ∷ 2 ∷ []) (flip_flop 9 0 0 ∷ []) (gate 9 9 ∷ [])
    ∷ assemble (0 ∷ 1 ∷ 0 ∷ []) (flip_flop 0 0 0 ∷ flip_flop 0 2 0 ∷ flip_flop 9 9 9 ∷ []) (gate 9 9 ∷ [])
    ∷ assemble (0 ∷ 1 ∷ 0 ∷ []) (flip_flop 0 0 0 ∷ []) (gate 0 0 ∷ gate 5 0 ∷ gate 9 9 ∷ [])
    ∷ [])
    ≡ refused 26 1 ∷ refused 26 4 ∷ refused 26 5 ∷ []
shows_lowest_wire = unfold everything in refl
