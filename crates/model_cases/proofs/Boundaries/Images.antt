-- Cases at the boundaries of 01's section 'The image': the directory, the counts, the fields of records, and refusal 1.
use Prim.Native.Nat.{ℕ}
use mathlib.Core.Path.{◌≡◌, refl}
use mathlib.Core.Bool.{false, true}
use mathlib.Core.List.{List, [], ◌∷◌, ◌++◌, map}
use lib.ListN.{replicate}
use Rattle.model.specs.Image.{directory_kept, design_of}
use Rattle.model.specs.Trees.{expr_of}
use Rattle.model.specs.Machine.{eval, reset_areas}
use Rattle.model.proofs.Opened.{checks, everything, refused, accepted, judged}
use Rattle.model.proofs.Designs.{joined, rows, from_sections, of_rows, one_state, node, register_record, state_record, skips, sequences, falls, goes_to, branches, constant}

-- one register; root: fall; state 1: skip; if 1 then goto 1 else goto 1. Its sections have 2, 7, 18, 48 and 8 bytes.
abbrev labels : List ℕ
labels = 1 ∷ 0 ∷ []

abbrev registers : List ℕ
registers = register_record 0 0 0

abbrev states : List ℕ
states = state_record 0 0 1 ++ state_record 0 0 5

abbrev commands : List ℕ
commands = joined (skips ∷ falls ∷ goes_to 1 ∷ goes_to 1 ∷ branches 0 2 3 ∷ sequences 0 4 ∷ [])

-- its directory with these offsets, the bytes before its commands, and those from them on
abbrev laid : ℕ → ℕ → ℕ → ℕ → ℕ → List ℕ → List ℕ
laid l r s c e bytes = joined (rows (l ∷ 2 ∷ r ∷ 7 ∷ s ∷ 18 ∷ c ∷ 48 ∷ e ∷ 8 ∷ [])) ++ bytes

abbrev records : List ℕ
records = registers ++ states ++ commands ++ constant 1

-- "Bytes 0 to 19 are five pairs of offset and length, 16 bits each, sorted by offset"
shows_five_pairs : judged (laid 20 22 29 47 95 (labels ++ records)) ≡ accepted 0
shows_five_pairs = unfold checks in refl

-- "The first offset is 20; each later one is the sum of offset and length before it; the last section ends at the image's end": a byte before each
-- section, and one behind the last
shows_byte_between
    : map
    judged
    (laid 21 23 30 48 96 (0 ∷ labels ++ records)
    ∷ laid 20 23 30 48 96 (labels ++ (0 ∷ records))
    ∷ laid 20 22 30 48 96 (labels ++ registers ++ (0 ∷ states) ++ commands ++ constant 1)
    ∷ laid 20 22 29 48 96 (labels ++ registers ++ states ++ (0 ∷ commands) ++ constant 1)
    ∷ laid 20 22 29 47 96 (labels ++ registers ++ states ++ commands ++ (0 ∷ constant 1))
    ∷ laid 20 22 29 47 95 (labels ++ records ++ (0 ∷ []))
    ∷ [])
    ≡ replicate 6 (refused 1 0)
shows_byte_between = unfold checks in refl

-- and each section begun a byte too early, in what stands before it; and the last byte left out
shows_byte_shared
    : map
    judged
    (laid 19 21 28 46 94 (0 ∷ records)
    ∷ laid 20 21 28 46 94 (1 ∷ records)
    ∷ laid 20 22 28 46 94 (labels ++ replicate 6 0 ++ states ++ commands ++ constant 1)
    ∷ laid 20 22 29 46 94 (labels ++ registers ++ state_record 0 0 1 ++ (0 ∷ 0 ∷ 5 ∷ 0 ∷ 0 ∷ 0 ∷ 0 ∷ 0 ∷ []) ++ commands ++ constant 1)
    ∷ laid 20 22 29 47 94 (labels ++ registers ++ states ++ commands ++ replicate 7 0)
    ∷ laid 20 22 29 47 95 (labels ++ registers ++ states ++ commands ++ replicate 7 0)
    ∷ [])
    ≡ replicate 6 (refused 1 0)
shows_byte_shared = unfold checks in refl

-- "The first offset is 20"
shows_first_offset
    : directory_kept (joined (rows (21 ∷ 2 ∷ 23 ∷ 0 ∷ 23 ∷ 9 ∷ 32 ∷ 0 ∷ 32 ∷ 0 ∷ [])) ++ replicate 12 0) ≡ false
shows_first_offset = unfold checks in refl

-- refusal 1, "section length": a section is a whole number of records
shows_piece
    : map
    judged
    (from_sections (labels ++ (0 ∷ [])) registers states commands (constant 1)
    ∷ from_sections labels (registers ++ (0 ∷ [])) states commands (constant 1)
    ∷ from_sections labels registers (states ++ (0 ∷ [])) commands (constant 1)
    ∷ from_sections labels registers states (commands ++ (0 ∷ [])) (constant 1)
    ∷ from_sections labels registers states commands (constant 1 ++ (0 ∷ []))
    ∷ from_sections labels registers states commands (constant 1)
    ∷ [])
    ≡ replicate 5 (refused 1 0) ++ (accepted 0 ∷ [])
shows_piece = unfold checks in refl

-- labels, "1 to 16"
shows_labels_17
    : directory_kept (from_sections (replicate 34 0) [] (replicate 9 0) [] [])
    ∷ directory_kept (from_sections (replicate 32 0) [] (replicate 9 0) [] [])
    ∷ directory_kept (from_sections [] [] (replicate 9 0) [] [])
    ∷ []
    ≡ false ∷ true ∷ false ∷ []
shows_labels_17 = unfold checks in refl

-- registers, "0 to 64"
shows_registers_65
    : directory_kept (from_sections (1 ∷ 0 ∷ []) (replicate 455 0) (replicate 9 0) [] [])
    ∷ directory_kept (from_sections (1 ∷ 0 ∷ []) (replicate 448 0) (replicate 9 0) [] [])
    ∷ directory_kept (from_sections (1 ∷ 0 ∷ []) [] (replicate 9 0) [] [])
    ∷ []
    ≡ false ∷ true ∷ true ∷ []
shows_registers_65 = unfold checks in refl

-- states, "1 to 64"
shows_states_65
    : directory_kept (from_sections (1 ∷ 0 ∷ []) [] (replicate 585 0) [] [])
    ∷ directory_kept (from_sections (1 ∷ 0 ∷ []) [] (replicate 576 0) [] [])
    ∷ directory_kept (from_sections (1 ∷ 0 ∷ []) [] (replicate 9 0) [] [])
    ∷ directory_kept (from_sections (1 ∷ 0 ∷ []) [] [] [] [])
    ∷ []
    ≡ false ∷ true ∷ true ∷ false ∷ []
shows_states_65 = unfold checks in refl

-- commands, "0 to 1,024", of 8 bytes
shows_commands_1025
    : map
    (λ (bytes : ℕ). directory_kept (from_sections (1 ∷ 0 ∷ []) [] (replicate 9 0) (replicate bytes 0) []))
    (8200 ∷ 8192 ∷ 0 ∷ [])
    ≡ false ∷ true ∷ true ∷ []
shows_commands_1025 = unfold checks in refl

-- expressions, "0 to 2,048", of 8 bytes
shows_expressions_2049
    : map
    (λ (bytes : ℕ). directory_kept (from_sections (1 ∷ 0 ∷ []) [] (replicate 9 0) [] (replicate bytes 0)))
    (16392 ∷ 16384 ∷ 0 ∷ [])
    ≡ false ∷ true ∷ true ∷ []
shows_expressions_2049 = unfold checks in refl

-- labels, "2 bytes: row": bit 8 of a row stands in its second byte, and is at or above the label count
shows_row_16_bits : judged (of_rows (257 ∷ [])) ≡ refused 2 0
shows_row_16_bits = unfold checks in refl

-- states, "16-bit command number": command 256 + 1
shows_command_16_bits : judged (one_state (1 ∷ []) [] 257 (goes_to 1 ∷ []) []) ≡ refused 4 1
shows_command_16_bits = unfold checks in refl

-- "byte 0 kind, byte 1 a register or state, then 16-bit fields a, b, c": a second byte of each field is not 0
shows_fields_16_bits
    : map
    (λ (x : List ℕ). judged (one_state (1 ∷ []) [] 3 (goes_to 1 ∷ goes_to 1 ∷ x ∷ []) (constant 1 ∷ [])))
    (node 5 0 256 1 2 ∷ node 5 0 0 257 2 ∷ node 5 0 0 1 258 ∷ node 5 0 0 1 2 ∷ [])
    ≡ refused 5 3 ∷ refused 5 3 ∷ refused 5 3 ∷ accepted 0 ∷ []
shows_fields_16_bits = unfold checks in refl

-- "fields little-endian"; "0 constant, 32 bits in bytes 4 to 7"
shows_constant : eval [] (expr_of (design_of (one_state (1 ∷ []) [] 1 (goes_to 1 ∷ []) (constant 4275878552 ∷ []))) 0) ≡ 4275878552
shows_constant = unfold everything in refl

-- "32-bit reset value"
shows_reset_value : (reset_areas (design_of (one_state (1 ∷ []) (register_record 0 0 4275878552 ∷ []) 1 (goes_to 1 ∷ []) []))).registers ≡ 4275878552 ∷ []
shows_reset_value = unfold everything in refl

-- "The lowest number that applies comes first": 1 before 2
shows_1_before_2 : judged (of_rows (1 ∷ 2 ∷ []) ++ (0 ∷ [])) ≡ refused 1 0
shows_1_before_2 = unfold checks in refl
