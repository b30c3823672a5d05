-- Cases at the boundaries of 02's E1, 'Ports belong to the host': refusal 16, its place and its order.
use Prim.Native.Nat.{ℕ}
use mathlib.Core.Path.{◌≡◌, refl}
use mathlib.Core.List.{List, [], ◌∷◌, map}
use Rattle.model.specs.Answers.{numbers_of}
use Rattle.model.specs.Calls.{registers_length, targets_length}
use Rattle.model.specs.Parties.{resets, writes, runs, perform}
use Rattle.model.proofs.Opened.{checks, everything, refused, accepted, judged, told, short_lent}
use Rattle.model.proofs.Designs.{assemble, one_state, chain, register_record, state_record, skips, assigns, sequences, falls, goes_to, branches, constant, reads, port_assigned}

-- three registers, of which those are ports whose kind is 1; state 1 has the body numbered over these commands
abbrev with_kinds : ℕ → ℕ → ℕ → ℕ → List (List ℕ) → List (List ℕ) → List ℕ
with_kinds zeroth first second =
    one_state (1 ∷ []) (register_record 0 zeroth 0 ∷ register_record 0 first 0 ∷ register_record 0 second 0 ∷ [])

-- r := 1; goto 1, where r1 is the only port
abbrev assigns_one : ℕ → List ℕ
assigns_one r = with_kinds 0 1 0 3 (assigns r 0 ∷ goes_to 1 ∷ sequences 1 2 ∷ []) (constant 1 ∷ [])

-- "no assignment may name a port": an inner register may be named, before the port and behind it
shows_assign_port : map (λ (r : ℕ). judged (assigns_one r)) (0 ∷ 1 ∷ 2 ∷ []) ≡ accepted 0 ∷ refused 16 1 ∷ accepted 0 ∷ []
shows_assign_port = unfold checks in refl

-- nor to itself: r1 := r1; goto 1
shows_port_to_itself : judged (with_kinds 0 1 0 3 (assigns 1 0 ∷ goes_to 1 ∷ sequences 1 2 ∷ []) (reads 1 ∷ [])) ≡ refused 16 1
shows_port_to_itself = unfold checks in refl

-- A port may be read: r0 := r1; if r1 then goto 1 else goto 1
shows_port_read
    : judged (with_kinds 0 1 1 5 (assigns 0 0 ∷ goes_to 1 ∷ goes_to 1 ∷ branches 1 2 3 ∷ sequences 1 4 ∷ []) (reads 1 ∷ reads 1 ∷ [])) ≡ accepted 0
shows_port_read = unfold checks in refl

-- No other command names a register: r0 and r1 are ports, a goto has state 1 in byte 1, and skip, sequence, if and fall have 0 there
shows_other_commands
    : judged (with_kinds 1 1 1 5 (skips ∷ goes_to 1 ∷ goes_to 1 ∷ branches 0 2 3 ∷ sequences 1 4 ∷ []) (reads 0 ∷ [])) ≡ accepted 0
shows_other_commands = unfold checks in refl

-- Not only the first assignment of a body: r0 := 1; r1 := 1; goto 1. In the first part and in the second, in the then and in the else.
shows_each_assignment
    : map
    judged
    (with_kinds 0 1 0 5 (assigns 0 0 ∷ assigns 1 1 ∷ goes_to 1 ∷ sequences 2 3 ∷ sequences 1 4 ∷ []) (constant 1 ∷ constant 1 ∷ [])
    ∷ with_kinds 1 0 0 5 (assigns 0 0 ∷ assigns 1 1 ∷ goes_to 1 ∷ sequences 2 3 ∷ sequences 1 4 ∷ []) (constant 1 ∷ constant 1 ∷ [])
    ∷ with_kinds 0 1 0 5 (assigns 0 0 ∷ assigns 1 1 ∷ branches 2 1 2 ∷ goes_to 1 ∷ sequences 3 4 ∷ []) (constant 1 ∷ constant 1 ∷ constant 1 ∷ [])
    ∷ with_kinds 1 0 0 5 (assigns 0 0 ∷ assigns 1 1 ∷ branches 2 1 2 ∷ goes_to 1 ∷ sequences 3 4 ∷ []) (constant 1 ∷ constant 1 ∷ constant 1 ∷ [])
    ∷ [])
    ≡ refused 16 2 ∷ refused 16 1 ∷ refused 16 2 ∷ refused 16 1 ∷ []
shows_each_assignment = unfold checks in refl

-- In the body of the root, of state 1 and of the last state; and a design of whose states none names the port r1
abbrev in_bodies : ℕ → ℕ → ℕ → List ℕ
in_bodies root one two =
    assemble
    (1 ∷ [])
    (register_record 0 0 0 ∷ register_record 0 1 0 ∷ [])
    (state_record 0 0 2 ∷ state_record 0 0 5 ∷ state_record 0 0 8 ∷ [])
    (assigns root 0 ∷ falls ∷ sequences 0 1 ∷ assigns one 1 ∷ goes_to 2 ∷ sequences 3 4 ∷ assigns two 2 ∷ goes_to 1 ∷ sequences 6 7 ∷ [])
    (constant 1 ∷ constant 1 ∷ constant 1 ∷ [])

-- "at the lowest such assignment": of one, of two, of all
shows_lowest_assignment
    : map
    judged
    (in_bodies 0 0 0 ∷ in_bodies 1 0 0 ∷ in_bodies 0 1 0 ∷ in_bodies 0 0 1 ∷ in_bodies 0 1 1 ∷ in_bodies 1 0 1 ∷ in_bodies 1 1 1 ∷ [])
    ≡ accepted 0 ∷ refused 16 0 ∷ refused 16 3 ∷ refused 16 6 ∷ refused 16 3 ∷ refused 16 0 ∷ refused 16 0 ∷ []
shows_lowest_assignment = unfold checks in refl

-- the lowest by its number, not by where it is written: command 3 runs before command 1
shows_lowest_by_number
    : judged (with_kinds 1 1 0 5 (assigns 0 0 ∷ goes_to 1 ∷ assigns 1 1 ∷ sequences 1 2 ∷ sequences 3 4 ∷ []) (constant 1 ∷ constant 1 ∷ [])) ≡ refused 16 1
shows_lowest_by_number = unfold checks in refl

-- "after 8": r0 := 1; goto 0, where r0 is a port and the goto names the root, by a higher command; and a design that breaks 5, whose register is none
shows_8_before_16
    : map
    judged
    (with_kinds 1 0 0 3 (assigns 0 0 ∷ goes_to 0 ∷ sequences 1 2 ∷ []) (constant 1 ∷ [])
    ∷ with_kinds 1 0 0 3 (assigns 3 0 ∷ goes_to 1 ∷ sequences 1 2 ∷ []) (constant 1 ∷ [])
    ∷ [])
    ≡ refused 8 2 ∷ refused 5 1 ∷ []
shows_8_before_16 = unfold checks in refl

-- "and before 9": r0 := 1; fall, in state 1 with label 1, where r0 is a port; state 2 below it has label 0. The assignment breaks 10 as well.
shows_16_before_9
    : judged
    (assemble
    chain
    (register_record 0 1 0 ∷ [])
    (state_record 0 0 0 ∷ state_record 0 1 3 ∷ state_record 1 0 4 ∷ [])
    (falls ∷ assigns 0 0 ∷ falls ∷ sequences 1 2 ∷ goes_to 2 ∷ [])
    (constant 1 ∷ []))
    ≡ refused 16 1
shows_16_before_9 = unfold checks in refl

-- 16 before 10, which a lower command breaks: r0 := r1; r2 := 1; goto 1, where r1 has the higher label and r2 is a port
shows_16_before_10
    : judged
    (one_state
    chain
    (register_record 0 0 0 ∷ register_record 1 0 0 ∷ register_record 0 1 0 ∷ [])
    5
    (assigns 0 0 ∷ assigns 2 1 ∷ goes_to 1 ∷ sequences 2 3 ∷ sequences 1 4 ∷ [])
    (reads 1 ∷ constant 1 ∷ []))
    ≡ refused 16 2
shows_16_before_10 = unfold checks in refl

-- "Every call makes the image checks .. first", 16 with them: though the area is too short
shows_16_in_calls
    : map (λ call. told (perform port_assigned short_lent call)) (resets ∷ writes 0 7 ∷ runs 1 ∷ [])
    ≡ (refused 16 1, short_lent) ∷ (refused 16 1, short_lent) ∷ (refused 16 1, short_lent) ∷ []
shows_16_in_calls = unfold everything in refl

shows_16_in_lengths : numbers_of (registers_length port_assigned) ∷ numbers_of (targets_length port_assigned) ∷ [] ≡ refused 16 1 ∷ refused 16 1 ∷ []
shows_16_in_lengths = unfold everything in refl
