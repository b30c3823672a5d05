-- Cases at the boundaries of refusal 25: the directory, the counts, the section lengths.
use Prim.Native.Nat.{ℕ}
use mathlib.Core.Path.{◌≡◌, refl}
use mathlib.Core.Bool.{true, false}
use mathlib.Core.List.{List, [], ◌∷◌, ◌++◌, map}
use lib.ListN.{replicate, take}
use Rattle.gates_model.specs.Tables.{directory_kept}
use Rattle.gates_model.proofs.Opened.{everything, accepted, refused, judged}
use Rattle.gates_model.proofs.Worked.{laid, sections, flip_flop, gate, joined}

-- "A directory like the image's, first offset 12": a table of nothing else is accepted, and a byte less or more is none
shows_empty : map judged (sections [] [] [] ∷ [] ∷ take 11 (sections [] [] []) ∷ (sections [] [] [] ++ (0 ∷ [])) ∷ []) ≡ accepted ∷ refused 25 0 ∷ refused 25 0 ∷ refused 25 0 ∷ []
shows_empty = unfold everything in refl

-- one input, one flip-flop, one gate: sections of 1, 4 and 4 bytes
abbrev input : List ℕ
input = 1 ∷ []

abbrev flipflop : List ℕ
flipflop = flip_flop 2 1 1

abbrev one : List ℕ
one = gate 0 1

shows_three_pairs : judged (laid 12 1 13 4 17 4 (input ++ flipflop ++ one)) ≡ accepted
shows_three_pairs = unfold everything in refl

-- a byte before each section, and one behind the last
shows_byte_between
    : map
    judged
    (laid 13 1 14 4 18 4 (0 ∷ input ++ flipflop ++ one)
    ∷ laid 12 1 14 4 18 4 (input ++ (0 ∷ flipflop) ++ one)
    ∷ laid 12 1 13 4 18 4 (input ++ flipflop ++ (0 ∷ one))
    ∷ laid 12 1 13 4 17 4 (input ++ flipflop ++ one ++ (0 ∷ []))
    ∷ [])
    ≡ replicate 4 (refused 25 0)
shows_byte_between = unfold everything in refl

-- each section begun a byte too early, and the last byte left out
shows_byte_shared
    : map
    judged
    (laid 11 1 12 4 16 4 (flipflop ++ one)
    ∷ laid 12 1 12 4 16 4 (flipflop ++ one)
    ∷ laid 12 1 13 4 16 4 (input ++ replicate 3 0 ++ one)
    ∷ laid 12 1 13 4 17 4 (input ++ flipflop ++ replicate 3 0)
    ∷ [])
    ≡ replicate 4 (refused 25 0)
shows_byte_shared = unfold everything in refl

-- "flip-flops, 4 bytes", "gates, 4 bytes": a byte less and a byte more
shows_section_lengths
    : map
    judged
    (sections input (replicate 3 0) one
    ∷ sections input (replicate 5 0) one
    ∷ sections input flipflop (replicate 3 0)
    ∷ sections input flipflop (replicate 5 0)
    ∷ sections input (flipflop ++ flipflop) (one ++ one)
    ∷ [])
    ≡ replicate 4 (refused 25 0) ++ (accepted ∷ [])
shows_section_lengths = unfold everything in refl

-- "At most 256, 256 and 4,096."
shows_most_inputs : map judged (sections (replicate 256 1) [] [] ∷ sections (replicate 257 1) [] [] ∷ []) ≡ accepted ∷ refused 25 0 ∷ []
shows_most_inputs = unfold everything in refl

shows_most_flipflops
    : map judged (sections [] (joined (replicate 256 (flip_flop 255 1 1))) [] ∷ sections [] (joined (replicate 257 (flip_flop 0 1 1))) [] ∷ []) ≡ accepted ∷ refused 25 0 ∷ []
shows_most_flipflops = unfold everything in refl

shows_most_gates : map directory_kept (sections [] [] (replicate 16384 0) ∷ sections [] [] (replicate 16388 0) ∷ []) ≡ true ∷ false ∷ []
shows_most_gates = unfold everything in refl

-- 26 comes "after it": a directory that is not kept, and a mark out of range
shows_directory_first : judged (laid 12 1 13 0 13 0 (2 ∷ 0 ∷ [])) ≡ refused 25 0
shows_directory_first = unfold everything in refl
