-- 01, 'The lease design': the bytes that the cycle lister prints.
use Rattle.std.specs.Prelude.{ℕ, suc, ◌+◌, ◌/◌, ◌%◌, true, false, List, [], ◌∷◌, ◌++◌, ltb, length, drop, Err}
use Prim.Native.Char.{code}
use Prim.Native.String.{String}
use Rattle.model.specs.declared.Refusal.{Refusal}
use Rattle.model.specs.declared.Refusal.TheVariants.{Directory}
use Rattle.model.specs.Indices.{recursively}
use Rattle.model.specs.Image.{design_of, word16_at}
use Rattle.model.specs.Answers.{Answer, Accepted, number_of}
use Rattle.model.specs.Verdict.{verdict}
use Rattle.model.specs.Machine.{Cycle, cycles, reset_areas}

-- the bytes of a quoted text
unfoldable pub bytes_of_text : String → List ℕ
bytes_of_text String.[] = []
bytes_of_text (String.◌∷◌ c rest) = code c ∷ bytes_of_text rest

-- a number in decimal: its last digit stands behind the digits of a tenth of it
unfoldable pub decimal : ℕ → List ℕ
decimal n =
    recursively
    []
    (λ m shorter. elim (ltb m 10) [ true ↦ (48 + m) ∷ [] | false ↦ shorter (m / 10) ++ (48 + m % 10) ∷ [] ])
    n

-- "Within a field one space parts the items"
unfoldable pub spaced : List ℕ → List ℕ
spaced [] = []
spaced (item ∷ []) = decimal item
spaced (item ∷ next ∷ more) = decimal item ++ (32 ∷ spaced (next ∷ more))

abbrev pub semicolon : List ℕ
semicolon = bytes_of_text ";"

abbrev pub line_feed : List ℕ
line_feed = bytes_of_text "\n"

unfoldable pub header : List ℕ
header = bytes_of_text "cycle;walk;registers\n"

-- "Fields: cycle from 1; walk; register values."
unfoldable pub line : ℕ → Cycle → List ℕ
line number c = decimal number ++ semicolon ++ spaced c.walk ++ semicolon ++ spaced c.after.registers ++ line_feed

-- the lines of cycles, the first of which has the number
unfoldable pub lines : ℕ → List Cycle → List ℕ
lines number [] = []
lines number (c ∷ more) = line number c ++ lines (suc number) more

-- "A refused image gives one line instead, "refused;number;place""
unfoldable pub refusal_line : Refusal → ℕ → List ℕ
refusal_line refusal place = bytes_of_text "refused;" ++ decimal (number_of refusal) ++ semicolon ++ decimal place ++ line_feed

-- the header and so many cycles "from reset", by the verdict of the image
unfoldable pub listed : Answer → ℕ → List ℕ → List ℕ
listed (Accepted count) n image = header ++ lines 1 (cycles (design_of image) n (reset_areas (design_of image)))
listed (Err why) n image = refusal_line why.refusal why.place

-- "reads from standard input a 16-bit cycle count, then an image"; "input under two bytes gives "refused;1;0""
unfoldable pub listing : List ℕ → List ℕ
listing input =
    let image = drop 2 input in
    elim (ltb (length input) 2) [ true ↦ refusal_line Directory 0 | false ↦ listed (verdict image) (word16_at input 0) image ]
