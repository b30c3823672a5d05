-- What a wire carries, and what a gate makes of two: "NAND gates with trust marks (source documents 000 and 001)".
use Rattle.std.specs.Prelude.{ℕ, ◌≤◌, ◌≡◌, ◌↔◌, Bool, ◌&&◌, ◌||◌, cond, eqb}

-- a value, and its mark: "mark 0 trusted or 1"
pub record Signal : Type 0 where
  pub value : ℕ
  pub mark : ℕ

abbrev pub signal : ℕ → ℕ → Signal
signal value mark = record { value = value; mark = mark }

abbrev pub is_trusted : Signal → Bool
is_trusted s = eqb s.mark 0

abbrev pub is_trusted_zero : Signal → Bool
is_trusted_zero s = is_trusted s && eqb s.value 0

-- NAND: 1 unless both are 1
abbrev pub nand_value : ℕ → ℕ → ℕ
nand_value a b = cond (eqb a 1 && eqb b 1) 0 1

-- "A gate's output is trusted if both inputs are, or if one is a trusted 0."
abbrev pub nand_mark : Signal → Signal → ℕ
nand_mark a b = cond ((is_trusted a && is_trusted b) || is_trusted_zero a || is_trusted_zero b) 0 1

unfoldable pub nand : Signal → Signal → Signal
nand a b = signal (nand_value a.value b.value) (nand_mark a b)

-- A value and a mark are bits. A wire may have any bit where it is untrusted, and has its value where it is trusted.
pub record IsSound (s : Signal) : Type 0 where
  pub value : s.value ≤ 1
  pub mark : s.mark ≤ 1

pub record MayHave (s : Signal) (v : ℕ) : Type 0 where
  pub bit : v ≤ 1
  pub trusted : s.mark ≡ 0 → v ≡ s.value

-- no choice of the values of untrusted inputs changes a gate's output
abbrev pub Unaffected : Signal → Signal → Type 0
Unaffected a b = (x y : ℕ) → MayHave a x → MayHave b y → nand_value x y ≡ nand_value a.value b.value

-- The rule of the marks is exact for one gate: an output is marked trusted exactly when no choice of the untrusted inputs' values changes it.
abbrev pub MarksExact : Type 0
MarksExact = (a b : Signal) → IsSound a → IsSound b → ((nand a b).mark ≡ 0) ↔ Unaffected a b
