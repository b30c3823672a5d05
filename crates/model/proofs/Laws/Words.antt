-- Laws of records that stand one behind the other, and of the words of a register area: the bytes of a value are its digits to the base 256.
use Prim.Native.Nat.{ℕ, zero, suc, ◌+◌, ◌*◌, ◌/◌, ◌%◌, ◌≤◌, ◌<◌}
use mathlib.Core.Path.{◌≡◌, refl, ◌∙◌, ap}
use mathlib.Core.Logic.{◌⊎◌, inl, inr}
use mathlib.Core.List.{List, [], ◌∷◌, map}
use native.Mathlib.Omega.{arith}
use native.Mathlib.Nat.{mod-eq_of_lt}
use lib.Arith.{mod-mul}
use lib.ListN.{length, get_or, drop, set, length-map, get_or-map}
use lib.Seq.{get_or-drop, get_or-set_same, ext_get_or}
use Rattle.model.specs.Limits.{value_count, word_length}
use Rattle.model.specs.Image.{byte_at, AreBytes, word16_at, word32_at, records_of}
use Rattle.model.specs.Values.{words_of, bytes_of}

-- bytes behind bytes are bytes
pub drop-bytes : (width : ℕ) (bytes : List ℕ) → AreBytes bytes → AreBytes (drop width bytes)
drop-bytes width bytes h i = rw (get_or-drop width bytes i 0) (h (width + i))

pub word16_bounded : (bytes : List ℕ) → AreBytes bytes → (i : ℕ) → word16_at bytes i < 65536
word16_bounded bytes h i = omega (arith, h i, h (i + 1))

module _ {A : Type 0} (read : List ℕ → A) (width : ℕ) where
  pub length-records_of : (n : ℕ) (bytes : List ℕ) → length (records_of read width n bytes) ≡ n
  unfolding records_of
  length-records_of zero bytes = refl
  length-records_of (suc n) bytes = ap suc (length-records_of n (drop width bytes))

  -- what holds of every record read from bytes, and of the default, holds at every index
  pub records_all : (P : A → Type 0) (default : A) → ((bytes : List ℕ) → AreBytes bytes → P (read bytes)) → P default
      → (n : ℕ) (bytes : List ℕ) → AreBytes bytes
      → (i : ℕ) → P (get_or (records_of read width n bytes) i default)
  unfolding records_of
  records_all P default reads base zero bytes h i = base
  records_all P default reads base (suc n) bytes h zero = reads bytes h
  records_all P default reads base (suc n) bytes h (suc i) = records_all P default reads base n (drop width bytes) (drop-bytes width bytes h) i

-- ---- words
-- a number as a 32-bit value
abbrev pub wrapped : ℕ → ℕ
wrapped v = v % value_count

pub wrapped_bounded : (v : ℕ) → wrapped v < value_count
wrapped_bounded v = omega arith

pub get_or-wrapped : (values : List ℕ) (r : ℕ) → get_or (map wrapped values) r 0 ≡ wrapped (get_or values r 0)
get_or-wrapped values r = get_or-map wrapped values r 0

-- values that are 32 bits stay as they are
pub wrapped_same : (values : List ℕ) → ((r : ℕ) → get_or values r 0 < value_count) → map wrapped values ≡ values
wrapped_same values h =
    ext_get_or 0 (map wrapped values) values (length-map values wrapped) (λ r l. get_or-wrapped values r ∙ mod-eq_of_lt (h r))

pub map-set : {A B : Type 0} (f : A → B) (xs : List A) (i : ℕ) (x : A) → map f (set xs i x) ≡ set (map f xs) i (f x)
map-set f [] i x = refl
map-set f (y ∷ xs) zero x = refl
map-set f (y ∷ xs) (suc i) x = ap (λ ys. f y ∷ ys) (map-set f xs i x)

pub length-words_of : (n : ℕ) (bytes : List ℕ) → length (words_of n bytes) ≡ n
unfolding words_of
length-words_of n bytes = length-records_of (λ rest. word32_at rest 0) word_length n bytes

pub length-bytes_of : (values : List ℕ) → length (bytes_of values) ≡ word_length * length values
unfolding bytes_of
length-bytes_of [] = refl
length-bytes_of (v ∷ values) = let h = length-bytes_of values in omega arith

pub words_bounded : (n : ℕ) (bytes : List ℕ) → AreBytes bytes → (r : ℕ) → get_or (words_of n bytes) r 0 < value_count
unfolding words_of
words_bounded n bytes h r =
    records_all
    (λ rest. word32_at rest 0)
    word_length
    (λ v. v < value_count)
    0
    (λ rest k. omega (arith, word16_bounded rest k 0, word16_bounded rest k 2))
    (omega arith)
    n
    bytes
    h
    r

-- four digits to the base 256
digits_of : (v : ℕ) → v % 256 + 256 * (v / 256 % 256) + 65536 * (v / 65536 % 256 + 256 * (v / 16777216 % 256)) ≡ wrapped v
digits_of v =
    sum
    (v % 256)
    (v / 256 % 256)
    (v / 65536 % 256)
    (v / 16777216 % 256)
    (mod-mul v (omega arith) (omega arith))
    (mod-mul v (omega arith) (omega arith))
    (mod-mul v (omega arith) (omega arith))
  where
    sum : (a b c e : ℕ) {x y z : ℕ} → x ≡ e * 16777216 + y → y ≡ c * 65536 + z → z ≡ b * 256 + a
        → a + 256 * b + 65536 * (c + 256 * e) ≡ x
    sum a b c e p q r = omega arith

pub words_of_bytes : (values : List ℕ) → words_of (length values) (bytes_of values) ≡ map wrapped values
unfolding words_of records_of bytes_of
words_of_bytes [] = refl
words_of_bytes (v ∷ values) = rw (digits_of v, words_of_bytes values)

pub words_of_bytes_bounded : (values : List ℕ) → ((r : ℕ) → get_or values r 0 < value_count) → words_of (length values) (bytes_of values) ≡ values
words_of_bytes_bounded values h = words_of_bytes values ∙ wrapped_same values h

-- ---- bytes that are read as words and written again
-- four bytes are the digits of their word
digit_of : (a b c e : ℕ) → a < 256 → b < 256 → c < 256 → e < 256
    → let v = a + 256 * b + 65536 * (c + 256 * e) in
    (v % 256 ≡ a) × (v / 256 % 256 ≡ b) × (v / 65536 % 256 ≡ c) × (v / 16777216 % 256 ≡ e)
digit_of a b c e ha hb hc he = (omega arith, omega arith, omega arith, omega arith)

pub bytes_of_words : (n : ℕ) (bytes : List ℕ) → AreBytes bytes → length bytes ≡ word_length * n → bytes_of (words_of n bytes) ≡ bytes
unfolding words_of records_of bytes_of
bytes_of_words zero [] h l = refl
bytes_of_words zero (a ∷ more) h l = absurd (omega arith)
bytes_of_words (suc n) [] h l = absurd (omega arith)
bytes_of_words (suc n) (a ∷ []) h l = absurd (omega arith)
bytes_of_words (suc n) (a ∷ b ∷ []) h l = absurd (omega arith)
bytes_of_words (suc n) (a ∷ b ∷ c ∷ []) h l = absurd (omega arith)
bytes_of_words (suc n) (a ∷ b ∷ c ∷ e ∷ more) h l =
    let digits = digit_of a b c e (h 0) (h 1) (h 2) (h 3) in
    rw (digits.0, digits.1, digits.2, digits.3, bytes_of_words n more (λ i. h (suc (suc (suc (suc i))))) (omega arith))

-- ---- a value among values: its four bytes are its digits, and no byte of another changes with it
pub other_bytes : (values : List ℕ) (r v i : ℕ) → (i < word_length * r) ⊎ (word_length * r + word_length ≤ i)
    → byte_at (bytes_of (set values r v)) i ≡ byte_at (bytes_of values) i
unfolding bytes_of
other_bytes [] r v i h = refl
other_bytes (x ∷ values) zero v i (inl l) = absurd (omega arith)
other_bytes (x ∷ values) zero v zero (inr l) = absurd (omega arith)
other_bytes (x ∷ values) zero v (suc zero) (inr l) = absurd (omega arith)
other_bytes (x ∷ values) zero v (suc (suc zero)) (inr l) = absurd (omega arith)
other_bytes (x ∷ values) zero v (suc (suc (suc zero))) (inr l) = absurd (omega arith)
other_bytes (x ∷ values) zero v (suc (suc (suc (suc i)))) (inr l) = refl
other_bytes (x ∷ values) (suc r) v zero h = refl
other_bytes (x ∷ values) (suc r) v (suc zero) h = refl
other_bytes (x ∷ values) (suc r) v (suc (suc zero)) h = refl
other_bytes (x ∷ values) (suc r) v (suc (suc (suc zero))) h = refl
other_bytes (x ∷ values) (suc r) v (suc (suc (suc (suc i)))) (inl l) = other_bytes values r v i (inl (omega arith))
other_bytes (x ∷ values) (suc r) v (suc (suc (suc (suc i)))) (inr l) = other_bytes values r v i (inr (omega arith))

pub value_bytes : (values : List ℕ) (r k : ℕ) → k < word_length → byte_at (bytes_of values) (word_length * r + k) ≡ byte_at (bytes_of (get_or values r 0 ∷ [])) k
unfolding bytes_of
value_bytes [] r zero h = refl
value_bytes [] r (suc zero) h = refl
value_bytes [] r (suc (suc zero)) h = refl
value_bytes [] r (suc (suc (suc zero))) h = refl
value_bytes [] r (suc (suc (suc (suc k)))) h = absurd (omega arith)
value_bytes (x ∷ values) zero k h = let first : word_length * 0 + k ≡ k = omega arith in rw first (within k h)
  where
    within : (k : ℕ) → k < word_length → byte_at (bytes_of (x ∷ values)) k ≡ byte_at (bytes_of (x ∷ [])) k
    within zero h = refl
    within (suc zero) h = refl
    within (suc (suc zero)) h = refl
    within (suc (suc (suc zero))) h = refl
    within (suc (suc (suc (suc k)))) h = absurd (omega arith)
value_bytes (x ∷ values) (suc r) k h =
    let next : word_length * suc r + k ≡ suc (suc (suc (suc (word_length * r + k)))) = omega arith in
    rw next (value_bytes values r k h)

pub own_bytes : (values : List ℕ) (r v k : ℕ) → r < length values → k < word_length
    → byte_at (bytes_of (set values r v)) (word_length * r + k) ≡ byte_at (bytes_of (v ∷ [])) k
own_bytes values r v k l h = value_bytes (set values r v) r k h ∙ ap (λ (x : ℕ). byte_at (bytes_of (x ∷ [])) k) (get_or-set_same values r v 0 l)
