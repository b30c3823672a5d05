-- Worked gate tables in bytes, written record by record. `assemble` lays records out as the request says; it is written here for the cases and proves nothing by itself.
use Prim.Native.Nat.{ℕ, ◌+◌, ◌/◌, ◌%◌}
use mathlib.Core.List.{List, [], ◌∷◌, ◌++◌}
use lib.ListN.{length}

-- little-endian fields
abbrev pub word16 : ℕ → List ℕ
word16 n = n % 256 ∷ n / 256 % 256 ∷ []

abbrev pub joined : List (List ℕ) → List ℕ
joined [] = []
joined (x ∷ xs) = x ++ joined xs

-- next wire, start value, start mark
abbrev pub flip_flop : ℕ → ℕ → ℕ → List ℕ
flip_flop next value mark = word16 next ++ (value ∷ mark ∷ [])

-- two wires
abbrev pub gate : ℕ → ℕ → List ℕ
gate first second = word16 first ++ word16 second

-- a directory with these offsets and lengths, and the bytes behind it
abbrev pub laid : ℕ → ℕ → ℕ → ℕ → ℕ → ℕ → List ℕ → List ℕ
laid i il f fl g gl bytes = joined (word16 i ∷ word16 il ∷ word16 f ∷ word16 fl ∷ word16 g ∷ word16 gl ∷ []) ++ bytes

-- sections of bytes, one behind the other
abbrev pub sections : List ℕ → List ℕ → List ℕ → List ℕ
sections inputs flipflops gates =
    laid 12 (length inputs) (12 + length inputs) (length flipflops) (12 + length inputs + length flipflops) (length gates) (inputs ++ flipflops ++ gates)

-- the marks of the inputs, the flip-flops, the gates
abbrev pub assemble : List ℕ → List (List ℕ) → List (List ℕ) → List ℕ
assemble inputs flipflops gates = sections inputs (joined flipflops) (joined gates)

-- a multiplexer: wires 0 and 1 are chosen from by wire 2; wire 3 is its inverse, and wire 6 the output
abbrev pub multiplexer : ℕ → ℕ → ℕ → List ℕ
multiplexer a b s = assemble (a ∷ b ∷ s ∷ []) [] (gate 2 2 ∷ gate 0 2 ∷ gate 1 3 ∷ gate 4 5 ∷ [])

-- a counter of one bit with a reset (document 001, figure 3): the input clears it, and else it changes in each cycle
abbrev pub counter : List ℕ
counter = assemble (0 ∷ []) (flip_flop 5 1 1 ∷ []) (gate 0 0 ∷ gate 1 1 ∷ gate 2 3 ∷ gate 4 4 ∷ [])

-- two flip-flops that exchange their signals
abbrev pub exchange : List ℕ
exchange = assemble [] (flip_flop 1 0 0 ∷ flip_flop 0 1 1 ∷ []) []

-- a flip-flop for each of a trusted and an untrusted input
abbrev pub store : List ℕ
store = assemble (0 ∷ 1 ∷ []) (flip_flop 0 0 0 ∷ flip_flop 1 0 0 ∷ []) []
