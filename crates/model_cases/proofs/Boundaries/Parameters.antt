-- Cases at the boundaries of 02's E8, 'States with parameters': the state record, what refusals 4 and 5 leave to 19, scope, and 19 as it judges a state.
use Prim.Native.Nat.{ℕ}
use mathlib.Core.Path.{◌≡◌, refl}
use mathlib.Core.Bool.{false, true}
use mathlib.Core.List.{List, [], ◌∷◌, ◌++◌, map}
use lib.ListN.{replicate}
use Rattle.model.specs.Image.{directory_kept, design_of, state_at}
use Rattle.model.specs.States.{state_kept}
use Rattle.model.specs.Parameters.{scope_of}
use Rattle.model.specs.Answers.{Numbers}
use Rattle.model.proofs.Opened.{checks, refused, accepted, judged}
use Rattle.model.proofs.Designs.{assemble, from_sections, diamond, one_of_each, register_record, state_record, state_with, assigns, sequences, falls, goes_to, goes_with_both, constant, reads}

-- "The state record becomes 9 bytes": a section of one, of two, and of pieces
shows_state_9_bytes
    : map (λ (bytes : ℕ). directory_kept (from_sections (1 ∷ 0 ∷ []) [] (replicate bytes 0) [] [])) (4 ∷ 8 ∷ 9 ∷ 10 ∷ 17 ∷ 18 ∷ 19 ∷ [])
    ≡ false ∷ false ∷ true ∷ false ∷ false ∷ true ∷ false ∷ []
shows_state_9_bytes = unfold checks in refl

-- Root, state 1, and state 2 with the record given: each of 1 and 2 goes to 1.
abbrev with_second : List ℕ → List ℕ
with_second x = assemble diamond one_of_each (state_record 0 0 0 ∷ state_record 0 0 1 ∷ x ∷ []) (falls ∷ goes_to 1 ∷ goes_to 1 ∷ []) []

-- "after the old four a count of 0 to 2, then two pairs of lower and upper label"
shows_state_fields
    : state_at (design_of (with_second (state_with 1 2 1027 5 6 7 8 9))) 2
    ≡ record { parent = 1; label = 2; command = 1027; parameters = 5; first_lower = 6; first_upper = 7; second_lower = 8; second_upper = 9 }
shows_state_fields = unfold checks in refl

-- "a count of 0 to 2": more is 19's, at the state
shows_parameter_counts
    : map
    (λ (count : ℕ). judged (assemble (1 ∷ []) [] (state_record 0 0 0 ∷ state_record 0 0 1 ∷ state_with 0 0 2 count 0 0 0 0 ∷ []) (falls ∷ goes_to 1 ∷ goes_to 1 ∷ []) []))
    (0 ∷ 1 ∷ 2 ∷ 3 ∷ 4 ∷ 255 ∷ [])
    ≡ accepted 0 ∷ accepted 0 ∷ accepted 0 ∷ refused 19 2 ∷ refused 19 2 ∷ refused 19 2 ∷ []
shows_parameter_counts = unfold checks in refl

-- ---- label bytes
-- State 2 with the count and the label byte given goes to itself with its own parameters as arguments a and b.
abbrev labelled : ℕ → ℕ → ℕ → ℕ → List ℕ
labelled count a b label =
    assemble diamond one_of_each (state_record 0 0 0 ∷ state_record 0 0 1 ∷ state_with 0 label 2 count 0 0 0 0 ∷ []) (falls ∷ goes_to 1 ∷ goes_with_both 2 a b ∷ []) []

abbrev of_bytes : (ℕ → List ℕ) → List Numbers
of_bytes image = map (λ (label : ℕ). judged (image label)) (3 ∷ 4 ∷ 15 ∷ 16 ∷ 17 ∷ 18 ∷ 255 ∷ [])

-- "state label bytes 16 and 17 stand for their labels"; "19 judges all these bytes, not 4 or 5": of four labels 4 judges 4 to 15 and 18 up, and 19 the two between
shows_label_bytes
    : map of_bytes (labelled 0 0 0 ∷ labelled 1 64 0 ∷ labelled 2 64 65 ∷ [])
    ≡ (accepted 0 ∷ refused 4 2 ∷ refused 4 2 ∷ refused 19 2 ∷ refused 19 2 ∷ refused 4 2 ∷ refused 4 2 ∷ [])
    ∷ (accepted 0 ∷ refused 4 2 ∷ refused 4 2 ∷ accepted 0 ∷ refused 19 2 ∷ refused 4 2 ∷ refused 4 2 ∷ [])
    ∷ (accepted 0 ∷ refused 4 2 ∷ refused 4 2 ∷ accepted 0 ∷ accepted 0 ∷ refused 4 2 ∷ refused 4 2 ∷ [])
    ∷ []
shows_label_bytes = unfold checks in refl

-- of sixteen labels 4 leaves 15 alone, and 16 is no label
shows_sixteen_labels
    : map
    (λ (label : ℕ). state_kept (design_of (assemble (replicate 16 0) [] (state_record 0 0 0 ∷ state_record 0 label 1 ∷ []) (falls ∷ goes_to 1 ∷ []) [])) 1)
    (15 ∷ 16 ∷ 17 ∷ 18 ∷ [])
    ≡ true ∷ true ∷ true ∷ false ∷ []
shows_sixteen_labels = unfold checks in refl

-- the root with label byte 16 or 17 is 19's, whatever its count; any other byte but 0 is 4's as before, and so is its parent
shows_root_label
    : map
    (λ (root : List ℕ). judged (assemble diamond [] (root ∷ state_record 0 0 1 ∷ []) (falls ∷ goes_to 1 ∷ []) []))
    (state_record 0 0 0 ∷ state_record 0 1 0 ∷ state_record 0 15 0 ∷ state_record 0 16 0 ∷ state_record 0 17 0 ∷ state_record 0 18 0 ∷ state_record 1 16 0 ∷ state_with 0 16 0 1 0 0 0 0 ∷ [])
    ≡ accepted 0 ∷ refused 4 0 ∷ refused 4 0 ∷ refused 19 0 ∷ refused 19 0 ∷ refused 4 0 ∷ refused 4 0 ∷ refused 19 0 ∷ []
shows_root_label = unfold checks in refl

-- ---- bounds
-- "two pairs of lower and upper label, lower flowing to upper": the same label, one above; and above, beside or no label
shows_first_bounds
    : map
    (λ (pair : ℕ × ℕ). judged (with_second (state_with 0 0 2 1 pair.0 pair.1 0 0)))
    ((0, 0) ∷ (0, 3) ∷ (1, 1) ∷ (1, 3) ∷ (1, 0) ∷ (3, 1) ∷ (1, 2) ∷ (2, 1) ∷ (0, 4) ∷ (4, 4) ∷ (16, 16) ∷ [])
    ≡ replicate 4 (accepted 0) ++ replicate 7 (refused 19 2)
shows_first_bounds = unfold checks in refl

-- of the second parameter too
shows_second_bounds
    : map
    (λ (pair : ℕ × ℕ). judged (with_second (state_with 0 0 2 2 0 3 pair.0 pair.1)))
    ((0, 0) ∷ (0, 3) ∷ (1, 1) ∷ (1, 3) ∷ (1, 0) ∷ (3, 1) ∷ (1, 2) ∷ (2, 1) ∷ (0, 4) ∷ (4, 4) ∷ (16, 16) ∷ [])
    ≡ replicate 4 (accepted 0) ++ replicate 7 (refused 19 2)
shows_second_bounds = unfold checks in refl

-- "zero when unused": each byte of a pair that is not used
shows_unused_bounds
    : map
    (λ (x : List ℕ). judged (with_second x))
    (state_with 0 0 2 0 1 1 0 0 ∷ state_with 0 0 2 0 0 1 0 0 ∷ state_with 0 0 2 0 1 0 0 0 ∷ state_with 0 0 2 0 0 0 1 1 ∷ state_with 0 0 2 0 0 0 0 1 ∷ state_with 0 0 2 1 0 0 0 1 ∷ state_with 0 0 2 1 0 0 1 0 ∷ state_with 0 0 2 1 0 0 1 1 ∷ [])
    ≡ replicate 8 (refused 19 2)
shows_unused_bounds = unfold checks in refl

-- ---- who takes parameters
-- States 1 and 2 below the root, 3 and 4 below 2, with these counts; 2 has the body given. Register r0 is every argument, so that no goto is at fault.
abbrev taking : ℕ → ℕ → ℕ → ℕ → ℕ → List ℕ → List ℕ
taking root one two three four body =
    assemble
    (1 ∷ [])
    (register_record 0 0 0 ∷ [])
    (state_with 0 0 0 root 0 0 0 0 ∷ state_with 0 0 1 one 0 0 0 0 ∷ state_with 0 0 2 two 0 0 0 0 ∷ state_with 2 0 3 three 0 0 0 0 ∷ state_with 2 0 4 four 0 0 0 0 ∷ [])
    (falls ∷ goes_to 1 ∷ body ∷ goes_to 3 ∷ goes_to 3 ∷ [])
    []

-- "the root and default children take none": whether or not the parent holds a fall; 2 and 4 may take them
shows_takes_none
    : map
    (λ (body : List ℕ). map judged (taking 0 0 0 0 0 body ∷ taking 1 0 0 0 0 body ∷ taking 0 1 0 0 0 body ∷ taking 0 2 0 0 0 body ∷ taking 0 0 0 1 0 body ∷ taking 0 0 0 2 0 body ∷ taking 0 0 0 0 1 body ∷ taking 0 0 0 0 2 body ∷ taking 0 0 1 0 0 body ∷ []))
    (falls ∷ goes_to 1 ∷ [])
    ≡ replicate
    2
    (accepted 0 ∷ refused 19 0 ∷ refused 19 1 ∷ refused 19 1 ∷ refused 19 3 ∷ refused 19 3 ∷ accepted 0 ∷ accepted 0 ∷ accepted 0 ∷ [])
shows_takes_none = unfold checks in refl

-- ---- scope
-- States 1, 2 and 7 below the root, 3 and 4 below 2, 5 and 6 below 4. States 2, 4, 6 and 7 have these counts and, with 1, 3 and 5, these label bytes. Each goes to
-- the default child beside it.
pub record Line : Type 0 where
  pub two : ℕ
  pub four : ℕ
  pub six : ℕ
  pub seven : ℕ

abbrev counts : ℕ → ℕ → ℕ → ℕ → Line
counts two four six seven = record { two = two; four = four; six = six; seven = seven }

abbrev nested : Line → ℕ → ℕ → Line → ℕ → List ℕ
nested count one three label five =
    assemble
    (1 ∷ [])
    []
    (state_record 0 0 0
    ∷ state_record 0 one 1
    ∷ state_with 0 label.two 2 count.two 0 0 0 0
    ∷ state_record 2 three 3
    ∷ state_with 2 label.four 4 count.four 0 0 0 0
    ∷ state_record 4 five 5
    ∷ state_with 4 label.six 6 count.six 0 0 0 0
    ∷ state_with 0 label.seven 7 count.seven 0 0 0 0
    ∷ [])
    (falls ∷ goes_to 1 ∷ goes_to 1 ∷ goes_to 3 ∷ goes_to 3 ∷ goes_to 5 ∷ goes_to 5 ∷ goes_to 1 ∷ [])
    []

abbrev plain : Line → List ℕ
plain count = nested count 0 0 (counts 0 0 0 0) 0

-- "At most two parameters are in scope along a line from the root": of one state or of several; those beside the line do not count
shows_two_in_scope
    : map
    (λ (count : Line). judged (plain count))
    (counts 1 1 0 2 ∷ counts 2 0 0 2 ∷ counts 0 2 0 0 ∷ counts 0 0 2 1 ∷ counts 1 0 1 0 ∷ counts 0 1 1 0 ∷ [])
    ≡ replicate 6 (accepted 0)
shows_two_in_scope = unfold checks in refl

-- a third, at the state whose own ones are too many
shows_three_in_scope
    : map
    (λ (count : Line). judged (plain count))
    (counts 2 1 0 0 ∷ counts 1 2 0 0 ∷ counts 2 2 0 0 ∷ counts 1 1 1 0 ∷ counts 2 0 1 0 ∷ counts 0 2 1 0 ∷ counts 0 1 2 0 ∷ counts 1 0 2 0 ∷ [])
    ≡ replicate 3 (refused 19 4) ++ replicate 5 (refused 19 6)
shows_three_in_scope = unfold checks in refl

-- "own ones last, numbered 0 and 1": parameter j of state s stands at 2 s + j
shows_scope
    : map (scope_of (design_of (plain (counts 1 1 0 2)))) (0 ∷ 1 ∷ 2 ∷ 3 ∷ 4 ∷ 5 ∷ 6 ∷ 7 ∷ [])
    ≡ [] ∷ [] ∷ (4 ∷ []) ∷ (4 ∷ []) ∷ (4 ∷ 8 ∷ []) ∷ (4 ∷ 8 ∷ []) ∷ (4 ∷ 8 ∷ []) ∷ (14 ∷ 15 ∷ []) ∷ []
shows_scope = unfold checks in refl

-- a label byte stands for a parameter of the state or of one above it; 3 has one in scope, 4 and those below it two
shows_label_in_scope
    : map
    judged
    (nested (counts 1 1 0 0) 0 16 (counts 16 16 16 0) 16
    ∷ nested (counts 1 1 0 0) 0 0 (counts 0 17 17 0) 17
    ∷ nested (counts 0 0 0 2) 0 0 (counts 0 0 0 17) 0
    ∷ [])
    ≡ replicate 3 (accepted 0)
shows_label_in_scope = unfold checks in refl

-- neither of one beside it nor of one below it
shows_label_out_of_scope
    : map
    judged
    (nested (counts 1 1 0 0) 0 17 (counts 0 0 0 0) 0
    ∷ nested (counts 1 1 0 0) 0 0 (counts 17 0 0 0) 0
    ∷ nested (counts 1 1 0 0) 0 0 (counts 0 0 0 16) 0
    ∷ nested (counts 1 1 0 0) 16 0 (counts 0 0 0 0) 0
    ∷ nested (counts 0 1 0 0) 0 16 (counts 0 0 0 0) 0
    ∷ nested (counts 0 1 0 0) 0 0 (counts 0 17 0 0) 0
    ∷ [])
    ≡ refused 19 3 ∷ refused 19 2 ∷ refused 19 7 ∷ refused 19 1 ∷ refused 19 3 ∷ refused 19 4 ∷ []
shows_label_out_of_scope = unfold checks in refl

-- "at the lowest state": a count at 7 and a label byte at 3, a label byte at 7 and a third parameter at 4
shows_lowest_parameter_fault
    : map judged (nested (counts 0 0 0 3) 0 16 (counts 0 0 0 0) 0 ∷ nested (counts 2 1 0 0) 0 0 (counts 0 0 0 16) 0 ∷ [])
    ≡ refused 19 3 ∷ refused 19 4 ∷ []
shows_lowest_parameter_fault = unfold checks in refl

-- ---- register bytes
-- State 2 with this count and the bounds 0 and 0: r := e; goto 1.
abbrev naming : ℕ → ℕ → List ℕ → List ℕ
naming count r e =
    assemble
    (1 ∷ [])
    (replicate 4 (register_record 0 0 0))
    (state_record 0 0 0 ∷ state_record 0 0 1 ∷ state_with 0 0 4 count 0 0 0 0 ∷ [])
    (falls ∷ goes_to 1 ∷ assigns r 0 ∷ goes_to 1 ∷ sequences 2 3 ∷ [])
    (e ∷ [])

abbrev of_registers : (ℕ → List ℕ) → List Numbers
of_registers image = map (λ (r : ℕ). judged (image r)) (3 ∷ 4 ∷ 63 ∷ 64 ∷ 65 ∷ 66 ∷ 255 ∷ [])

-- "Register bytes 64 and 65 name them"; "19 judges all these bytes, not 4 or 5": of four registers 5 judges 4 to 63 and 66 up; an assignment at its command
shows_assigned_bytes
    : map (λ (count : ℕ). of_registers (λ r. naming count r (constant 1))) (0 ∷ 1 ∷ 2 ∷ [])
    ≡ (accepted 0 ∷ refused 5 2 ∷ refused 5 2 ∷ refused 19 2 ∷ refused 19 2 ∷ refused 5 2 ∷ refused 5 2 ∷ [])
    ∷ (accepted 0 ∷ refused 5 2 ∷ refused 5 2 ∷ accepted 0 ∷ refused 19 2 ∷ refused 5 2 ∷ refused 5 2 ∷ [])
    ∷ (accepted 0 ∷ refused 5 2 ∷ refused 5 2 ∷ accepted 0 ∷ accepted 0 ∷ refused 5 2 ∷ refused 5 2 ∷ [])
    ∷ []
shows_assigned_bytes = unfold checks in refl

-- and a register expression at its own place
shows_read_bytes
    : map (λ (count : ℕ). of_registers (λ r. naming count 0 (reads r))) (0 ∷ 1 ∷ 2 ∷ [])
    ≡ (accepted 0 ∷ refused 5 1024 ∷ refused 5 1024 ∷ refused 19 1024 ∷ refused 19 1024 ∷ refused 5 1024 ∷ refused 5 1024 ∷ [])
    ∷ (accepted 0 ∷ refused 5 1024 ∷ refused 5 1024 ∷ accepted 0 ∷ refused 19 1024 ∷ refused 5 1024 ∷ refused 5 1024 ∷ [])
    ∷ (accepted 0 ∷ refused 5 1024 ∷ refused 5 1024 ∷ accepted 0 ∷ accepted 0 ∷ refused 5 1024 ∷ refused 5 1024 ∷ [])
    ∷ []
shows_read_bytes = unfold checks in refl

-- of 64 registers byte 63 is one, and 64 is none
shows_64_registers
    : map
    (λ (r : ℕ). judged (assemble (1 ∷ []) (replicate 64 (register_record 0 0 0)) (state_record 0 0 0 ∷ state_record 0 0 3 ∷ []) (falls ∷ assigns r 0 ∷ goes_to 1 ∷ sequences 1 2 ∷ []) (constant 1 ∷ [])))
    (63 ∷ 64 ∷ 65 ∷ 66 ∷ [])
    ≡ accepted 0 ∷ refused 19 1 ∷ refused 19 1 ∷ refused 5 1 ∷ []
shows_64_registers = unfold checks in refl
