-- A word of a register area by the place of its bytes, and what writing one does to the words.
use Prim.Native.Nat.{ℕ, zero, suc, ◌+◌, ◌*◌, ◌/◌, ◌%◌, ◌^◌, ◌≤◌, ◌<◌}
use mathlib.Core.Path.{◌≡◌, refl, ◌∙◌, ap}
use mathlib.Core.List.{List, [], ◌∷◌, ◌++◌}
use native.Mathlib.Omega.{arith}
use native.Mathlib.Nat.{mod-eq_of_lt}
use mir.Syntax.{w32}
use lib.ListN.{length, get_or, set, take, drop, length-set}
use borrow.Rule.Slice.PartMut.{put_mid}
use Rattle.std.specs.Int.{to_le_bytes}
use lib.Seq.{get_or-drop}
use Rattle.model.specs.Limits.{word_length}
use Rattle.model.specs.Image.{byte_at, word32_at, records_of}
use Rattle.model.specs.Values.{words_of, bytes_of}
use Rattle.model.proofs.Laws.Words.{words_of_bytes}
use Rattle.model.proofs.Laws.Images.{record_at_lem}
use Rattle.design.specs.Words.{put_word}

-- ---- reading
byte_behind : (k : ℕ) (bytes : List ℕ) (i j : ℕ) → k + i ≡ j → byte_at (drop k bytes) i ≡ byte_at bytes j
byte_behind k bytes i j p = get_or-drop k bytes i 0 ∙ ap (byte_at bytes) p

word_behind : (k : ℕ) (bytes : List ℕ) → word32_at (drop k bytes) 0 ≡ word32_at bytes k
word_behind k bytes =
    rw (byte_behind k bytes 0 k (omega arith), byte_behind k bytes 1 (k + 1) (omega arith), byte_behind k bytes 2 (k + 2) (omega arith), byte_behind k bytes 3 (k + 2 + 1) (omega arith))

pub words_at : {n r : ℕ} (bytes : List ℕ) → r < n → length bytes ≡ 4 * n → get_or (words_of n bytes) r 0 ≡ word32_at bytes (4 * r)
unfolding words_of
words_at {n} {r} bytes l area = record_at_lem (λ rest. word32_at rest 0) word_length n bytes r 0 l ∙ word_behind (4 * r) bytes

-- ---- writing
-- the four bytes of a value, at four places
abbrev four : List ℕ → ℕ → ℕ → ℕ → ℕ → ℕ → List ℕ
four bytes i j k l v = set (set (set (set bytes i (v % 256)) j (v / 256 % 256)) k (v / 65536 % 256)) l (v / 16777216 % 256)

-- places behind the first word
four_behind :
    (a b c e : ℕ) (more : List ℕ) (v : ℕ) {i j k l i' j' k' l' : ℕ}
    → i ≡ suc (suc (suc (suc i')))
    → j ≡ suc (suc (suc (suc j')))
    → k ≡ suc (suc (suc (suc k')))
    → l ≡ suc (suc (suc (suc l')))
    → four (a ∷ b ∷ c ∷ e ∷ more) i j k l v ≡ a ∷ b ∷ c ∷ e ∷ four more i' j' k' l' v
four_behind a b c e more v p q r s = rw (p, q, r, s)

pub put_behind : (a b c e : ℕ) (more : List ℕ) (r v : ℕ) → put_word (a ∷ b ∷ c ∷ e ∷ more) (suc r) v ≡ a ∷ b ∷ c ∷ e ∷ put_word more r v
put_behind a b c e more r v =
    let first : 4 * suc r ≡ suc (suc (suc (suc (4 * r)))) = omega arith in
    let second : 4 * suc r + 1 ≡ suc (suc (suc (suc (4 * r + 1)))) = omega arith in
    let third : 4 * suc r + 2 ≡ suc (suc (suc (suc (4 * r + 2)))) = omega arith in
    let fourth : 4 * suc r + 3 ≡ suc (suc (suc (suc (4 * r + 3)))) = omega arith in
    four_behind a b c e more v first second third fourth

-- the digits of a value make the value
digits_of : (v : ℕ) → v < 2 ^ 32 → v % 256 + 256 * (v / 256 % 256) + 65536 * (v / 65536 % 256 + 256 * (v / 16777216 % 256)) ≡ v
unfolding words_of records_of bytes_of
digits_of v l = ap (λ (values : List ℕ). get_or values 0 0) (words_of_bytes (v ∷ [])) ∙ mod-eq_of_lt l

put_words : (n r : ℕ) (bytes : List ℕ) (v : ℕ) → r < n → length bytes ≡ 4 * n → v < 2 ^ 32 → words_of n (put_word bytes r v) ≡ set (words_of n bytes) r v
unfolding words_of records_of
put_words zero r bytes v l area h = absurd (omega arith)
put_words (suc n) r [] v l area h = absurd (omega arith)
put_words (suc n) r (a ∷ []) v l area h = absurd (omega arith)
put_words (suc n) r (a ∷ b ∷ []) v l area h = absurd (omega arith)
put_words (suc n) r (a ∷ b ∷ c ∷ []) v l area h = absurd (omega arith)
put_words (suc n) zero (a ∷ b ∷ c ∷ e ∷ more) v l area h = rw (digits_of v h)
put_words (suc n) (suc r) (a ∷ b ∷ c ∷ e ∷ more) v l area h = rw (put_behind a b c e more r v, put_words n r more v (omega arith) (omega arith) h)

pub words_put : {n r v : ℕ} (bytes : List ℕ) → r < n → length bytes ≡ 4 * n → v < 2 ^ 32 → words_of n (put_word bytes r v) ≡ set (words_of n bytes) r v
words_put {n} {r} {v} bytes l area h = put_words n r bytes v l area h

-- four bytes that are written over others at once are written one after the other
four_over : (k : ℕ) (bytes : List ℕ) (a b c e : ℕ) → k + 4 ≤ length bytes → take k bytes ++ (a ∷ b ∷ c ∷ e ∷ drop 4 (drop k bytes)) ≡ set (set (set (set bytes k a) (suc k) b) (suc (suc k)) c) (suc (suc (suc k))) e
four_over zero [] a b c e l = absurd (omega arith)
four_over zero (p ∷ []) a b c e l = absurd (omega arith)
four_over zero (p ∷ q ∷ []) a b c e l = absurd (omega arith)
four_over zero (p ∷ q ∷ r ∷ []) a b c e l = absurd (omega arith)
four_over zero (p ∷ q ∷ r ∷ s ∷ more) a b c e l = refl
four_over (suc k) [] a b c e l = absurd (omega arith)
four_over (suc k) (p ∷ more) a b c e l = ap (λ (rest : List ℕ). p ∷ rest) (four_over k more a b c e (omega arith))

pub word_over : (bytes : List ℕ) (r v k : ℕ) (now : List ℕ) → 4 * r + 4 ≤ length bytes → k ≡ 4 → now ≡ to_le_bytes w32 v → put_mid (4 * r) k bytes now ≡ put_word bytes r v
word_over bytes r v k now l four same =
    let second : 4 * r + 1 ≡ suc (4 * r) = omega arith in
    let third : 4 * r + 2 ≡ suc (suc (4 * r)) = omega arith in
    let fourth : 4 * r + 3 ≡ suc (suc (suc (4 * r))) = omega arith in
    rw (same, four, second, third, fourth) (four_over (4 * r) bytes (v % 256) (v / 256 % 256) (v / 65536 % 256) (v / 16777216 % 256) l)

pub length-put : (bytes : List ℕ) (r v : ℕ) → length (put_word bytes r v) ≡ length bytes
length-put bytes r v =
    let first = set bytes (4 * r) (v % 256) in
    let second = set first (4 * r + 1) (v / 256 % 256) in
    let third = set second (4 * r + 2) (v / 65536 % 256) in
    length-set third (4 * r + 3) (v / 16777216 % 256)
    ∙ length-set second (4 * r + 2) (v / 65536 % 256)
    ∙ length-set first (4 * r + 1) (v / 256 % 256)
    ∙ length-set bytes (4 * r) (v % 256)
