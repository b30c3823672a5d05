-- A field's bytes are its digits to the base 256: digits are bytes, they make the number that they are of, and bytes are the digits of the number that they make.
use Prim.Native.Nat.{ℕ, zero, suc, ◌+◌, ◌*◌, ◌/◌, ◌%◌, ◌^◌, ◌≤◌, ◌<◌}
use mathlib.Core.Path.{◌≡◌, refl, ap}
use mathlib.Core.List.{List, [], ◌∷◌, ◌++◌}
use native.Mathlib.Omega.{arith}
use native.Mathlib.Nat.{mod-eq_of_lt}
use lib.ListN.{length, take}
use Rattle.model.specs.Image.{byte_at, AreBytes, word16_at}
use Rattle.encoding.specs.Encoding.{word16_bytes, word32_bytes}

-- ---- lists of bytes
pub data Bytes : List ℕ → Type 0 where
  none : Bytes []
  one_more : {x : ℕ} {l : List ℕ} → x < 256 → Bytes l → Bytes (x ∷ l)

pub bytes_joined : {a b : List ℕ} → Bytes a → Bytes b → Bytes (a ++ b)
bytes_joined none k = k
bytes_joined (one_more x h) k = one_more x (bytes_joined h k)

pub are_bytes : {l : List ℕ} → Bytes l → AreBytes l
are_bytes none i = omega arith
are_bytes (one_more x h) zero = x
are_bytes (one_more x h) (suc i) = are_bytes h i

-- so many bytes, each by its place
abbrev pub bytes_from : ℕ → ℕ → List ℕ → List ℕ
bytes_from i zero l = []
bytes_from i (suc n) l = byte_at l i ∷ bytes_from (suc i) n l

bytes_behind : (i n x : ℕ) (l : List ℕ) → bytes_from i n l ≡ bytes_from (suc i) n (x ∷ l)
bytes_behind i zero x l = refl
bytes_behind i (suc n) x l = ap (λ more. byte_at l i ∷ more) (bytes_behind (suc i) n x l)

pub first_bytes : (n : ℕ) (l : List ℕ) → n ≤ length l → take n l ≡ bytes_from 0 n l
first_bytes zero l h = refl
first_bytes (suc n) [] h = absurd (omega arith)
first_bytes (suc n) (x ∷ l) h = rw (first_bytes n l (omega arith), bytes_behind 0 n x l)

-- ---- fields
pub word16_bytes_lem : (n : ℕ) → Bytes (word16_bytes n)
unfolding word16_bytes
word16_bytes_lem n =
    let low : n % 256 < 256 = omega arith in
    let high : n / 256 % 256 < 256 = omega arith in
    one_more low (one_more high none)

pub word16_read : (n : ℕ) → n < 65536 → n % 256 + 256 * (n / 256 % 256) ≡ n
word16_read n h = omega arith

word16_written : (x y : ℕ) → x < 256 → y < 256 → word16_bytes (x + 256 * y) ≡ x ∷ y ∷ []
unfolding word16_bytes
word16_written x y h k =
    let low : (x + 256 * y) % 256 ≡ x = omega arith in
    let high : (x + 256 * y) / 256 ≡ y = omega arith in
    rw (low, high, mod-eq_of_lt k)

-- bytes that are read as a 16-bit field are the field's
pub field_written : (l : List ℕ) → AreBytes l → (i : ℕ) → word16_bytes (word16_at l i) ≡ byte_at l i ∷ byte_at l (i + 1) ∷ []
field_written l h i = word16_written (byte_at l i) (byte_at l (i + 1)) (h i) (h (i + 1))

pub word32_bytes_lem : (n : ℕ) → Bytes (word32_bytes n)
unfolding word32_bytes
word32_bytes_lem n = bytes_joined (word16_bytes_lem n) (word16_bytes_lem (n / 65536))

pub word32_read : (n : ℕ) → n < 2 ^ 32 → n % 256 + 256 * (n / 256 % 256) + 65536 * (n / 65536 % 256 + 256 * (n / 65536 / 256 % 256)) ≡ n
word32_read n h = rw (word16_read (n / 65536) (omega arith)) (omega arith)

pub word32_written : (x y z w : ℕ) → x < 256 → y < 256 → z < 256 → w < 256 → word32_bytes (x + 256 * y + 65536 * (z + 256 * w)) ≡ x ∷ y ∷ z ∷ w ∷ []
unfolding word32_bytes word16_bytes
word32_written x y z w hx hy hz hw =
    let first : (x + 256 * y + 65536 * (z + 256 * w)) % 256 ≡ x = omega arith in
    let behind-first : (x + 256 * y + 65536 * (z + 256 * w)) / 256 ≡ y + 256 * (z + 256 * w) = omega arith in
    let second : (y + 256 * (z + 256 * w)) % 256 ≡ y = omega arith in
    let behind : (x + 256 * y + 65536 * (z + 256 * w)) / 65536 ≡ z + 256 * w = omega arith in
    rw (first, behind-first, second, behind) (ap (λ more. x ∷ y ∷ more) (word16_written z w hz hw))
