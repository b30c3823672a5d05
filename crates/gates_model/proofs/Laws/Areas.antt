-- The bytes of signals by their places: a list of bytes in which every pair is that of a signal is the bytes of these signals.
use Prim.Native.Nat.{ℕ, zero, suc, ◌+◌, ◌*◌, ◌<◌}
use mathlib.Core.Path.{◌≡◌, refl, sym, ◌∙◌, ap, ap₂}
use mathlib.Core.List.{List, [], ◌∷◌}
use native.Mathlib.Omega.{arith}
use native.Mathlib.Nat.{zero-add}
use lib.ListN.{length}
use Rattle.model.specs.Indices.{tabulate_from, tabulate}
use Rattle.gates_model.specs.Signals.{Signal}
use Rattle.gates_model.specs.Cycle.{bytes_of, signal_in}

-- a pair behind the first
pub pair_behind : (a b : ℕ) (more : List ℕ) (k : ℕ) → signal_in (a ∷ b ∷ more) (suc k) ≡ signal_in more k
pair_behind a b more k =
    let first : 2 * suc k ≡ suc (suc (2 * k)) = omega arith in
    let second : 2 * suc k + 1 ≡ suc (suc (2 * k + 1)) = omega arith in
    rw (second, first)

made_from : (f : ℕ → Signal) (i n : ℕ) (area : List ℕ) → length area ≡ 2 * n → ((k : ℕ) → k < n → signal_in area k ≡ f (i + k)) → area ≡ bytes_of (tabulate_from f i n)
unfolding bytes_of tabulate_from
made_from f i zero [] long h = refl
made_from f i zero (a ∷ more) long h = absurd (omega arith)
made_from f i (suc n) [] long h = absurd (omega arith)
made_from f i (suc n) (a ∷ []) long h = absurd (omega arith)
made_from f i (suc n) (a ∷ b ∷ more) long h =
    let here : i + 0 ≡ i = omega arith in
    let first : signal_in (a ∷ b ∷ more) 0 ≡ f i = h 0 (omega arith) ∙ ap f here in
    let rest = made_from f (suc i) n more (omega arith) (λ k l. let next : i + suc k ≡ suc i + k = omega arith in sym (pair_behind a b more k) ∙ h (suc k) (omega arith) ∙ ap f next) in
    ap₂ (λ (s : Signal) (bytes : List ℕ). s.value ∷ s.mark ∷ bytes) first rest

pub bytes_made : (f : ℕ → Signal) (n : ℕ) (area : List ℕ) → length area ≡ 2 * n → ((k : ℕ) → k < n → signal_in area k ≡ f k) → area ≡ bytes_of (tabulate f n)
unfolding tabulate
bytes_made f n area long h = made_from f 0 n area long (λ k l. h k l ∙ ap f (sym (zero-add k)))

-- and the signals of these bytes are they again
signal_from : (f : ℕ → Signal) (i n k : ℕ) → k < n → signal_in (bytes_of (tabulate_from f i n)) k ≡ f (i + k)
unfolding bytes_of tabulate_from
signal_from f i zero k l = absurd (omega arith)
signal_from f i (suc n) zero l = let here : i ≡ i + 0 = omega arith in ap f here
signal_from f i (suc n) (suc k) l =
    let next : suc i + k ≡ i + suc k = omega arith in
    pair_behind (f i).value (f i).mark (bytes_of (tabulate_from f (suc i) n)) k ∙ signal_from f (suc i) n k (omega arith) ∙ ap f next

pub signal_made : (f : ℕ → Signal) (n k : ℕ) → k < n → signal_in (bytes_of (tabulate f n)) k ≡ f k
unfolding tabulate
signal_made f n k l = signal_from f 0 n k l ∙ ap f (zero-add k)

length_from : (f : ℕ → Signal) (i n : ℕ) → length (bytes_of (tabulate_from f i n)) ≡ 2 * n
unfolding bytes_of tabulate_from
length_from f i zero = refl
length_from f i (suc n) = let rest = length_from f (suc i) n in omega arith

pub length-made : (f : ℕ → Signal) (n : ℕ) → length (bytes_of (tabulate f n)) ≡ 2 * n
unfolding tabulate
length-made f n = length_from f 0 n
