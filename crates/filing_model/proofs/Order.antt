-- The order of bytes is a strict total order, as the order of words in a dictionary is: where two lists differ first, their entries are ordered, and where none differs their lengths
-- are.
use Prim.Native.Nat.{ℕ, suc, ◌+◌, ◌≤◌, ◌<◌}
use mathlib.Core.Path.{◌≡◌, refl, sym, ◌∙◌, ap, ap₂}
use mathlib.Core.Logic.{◌⊎◌, inl, inr, ⊎_elim}
use mathlib.Core.Bool.{Bool, true, false, ◌&&◌, false≢true, true≢false}
use mathlib.Core.List.{List, [], ◌∷◌, ◌++◌}
use native.Mathlib.Omega.{arith}
use native.Mathlib.Decide.{dec_lt}
use native.Mathlib.Numerals.{add-one}
use lib.Dec.{ltb, eqb}
use lib.ListN.{length, take, drop, take-append-drop, drop_of_length-le}
use lib.Seq.{take-suc, drop-cons}
use borrow.Author.Tests.{ltb-true, lt-ltb, le-ltb, eqb-true, eq-eqb}
use Rattle.model.specs.Image.{byte_at}
use Rattle.model.proofs.Laws.Booleans.{or_cases, and_first, and_second}
use Rattle.filing_model.specs.Order.{comes_before}

-- ---- one entry
compared : (x y : ℕ) → (x < y) ⊎ ((x ≡ y) ⊎ (y < x))
compared x y = go (dec_lt x y) (dec_lt y x)
  where
    go : Dec (x < y) → Dec (y < x) → (x < y) ⊎ ((x ≡ y) ⊎ (y < x))
    go (yes l) h = inl l
    go (no k) (yes l) = inr (inr l)
    go (no k) (no l) = inr (inl (omega arith))

module _ (x y : ℕ) (xs ys : List ℕ) where
  lower_entry : x < y → comes_before (x ∷ xs) (y ∷ ys) ≡ true
  unfolding comes_before
  lower_entry l = rw (lt-ltb x y l)

  same_entry : x ≡ y → comes_before (x ∷ xs) (y ∷ ys) ≡ comes_before xs ys
  unfolding comes_before
  same_entry e = rw (le-ltb x y (omega arith), eq-eqb x y e)

  entry_cases : comes_before (x ∷ xs) (y ∷ ys) ≡ true → (x < y) ⊎ ((x ≡ y) × (comes_before xs ys ≡ true))
  unfolding comes_before
  entry_cases h =
      ⊎_elim
      (λ (l : ltb x y ≡ true). inl (ltb-true x y l))
      (λ (e : (eqb x y && comes_before xs ys) ≡ true). inr (eqb-true x y (and_first (eqb x y) (comes_before xs ys) e), and_second (eqb x y) (comes_before xs ys) e))
      (or_cases (ltb x y) (eqb x y && comes_before xs ys) h)

-- ---- a strict total order
pub before_irreflexive : (xs : List ℕ) → comes_before xs xs ≡ false
unfolding comes_before
before_irreflexive [] = refl
before_irreflexive (x ∷ xs) = same_entry x x xs xs refl ∙ before_irreflexive xs

pub before_transitive : (xs ys zs : List ℕ) → comes_before xs ys ≡ true → comes_before ys zs ≡ true → comes_before xs zs ≡ true
unfolding comes_before
before_transitive [] [] zs p q = absurd (false≢true p)
before_transitive [] (y ∷ ys) [] p q = absurd (false≢true q)
before_transitive [] (y ∷ ys) (z ∷ zs) p q = refl
before_transitive (x ∷ xs) [] zs p q = absurd (false≢true p)
before_transitive (x ∷ xs) (y ∷ ys) [] p q = absurd (false≢true q)
before_transitive (x ∷ xs) (y ∷ ys) (z ∷ zs) p q = go (entry_cases x y xs ys p) (entry_cases y z ys zs q) (before_transitive xs ys zs)
  where
    go : (x < y) ⊎ ((x ≡ y) × (comes_before xs ys ≡ true)) → (y < z) ⊎ ((y ≡ z) × (comes_before ys zs ≡ true))
        → (comes_before xs ys ≡ true → comes_before ys zs ≡ true → comes_before xs zs ≡ true) → comes_before (x ∷ xs) (z ∷ zs) ≡ true
    go (inl l) (inl k) later = lower_entry x z xs zs (omega arith)
    go (inl l) (inr (e, k)) later = lower_entry x z xs zs (omega arith)
    go (inr (e, l)) (inl k) later = lower_entry x z xs zs (omega arith)
    go (inr (e, l)) (inr (f, k)) later = same_entry x z xs zs (e ∙ f) ∙ later l k

pub before_total : (xs ys : List ℕ) → (comes_before xs ys ≡ true) ⊎ ((xs ≡ ys) ⊎ (comes_before ys xs ≡ true))
unfolding comes_before
before_total [] [] = inr (inl refl)
before_total [] (y ∷ ys) = inl refl
before_total (x ∷ xs) [] = inr (inr refl)
before_total (x ∷ xs) (y ∷ ys) = go (compared x y) (before_total xs ys)
  where
    go : (x < y) ⊎ ((x ≡ y) ⊎ (y < x)) → (comes_before xs ys ≡ true) ⊎ ((xs ≡ ys) ⊎ (comes_before ys xs ≡ true))
        → (comes_before (x ∷ xs) (y ∷ ys) ≡ true) ⊎ ((x ∷ xs ≡ y ∷ ys) ⊎ (comes_before (y ∷ ys) (x ∷ xs) ≡ true))
    go (inl l) later = inl (lower_entry x y xs ys l)
    go (inr (inr l)) later = inr (inr (lower_entry y x ys xs l))
    go (inr (inl e)) (inl b) = inl (same_entry x y xs ys e ∙ b)
    go (inr (inl e)) (inr (inl f)) = inr (inl (ap₂ (λ (z : ℕ) (zs : List ℕ). z ∷ zs) e f))
    go (inr (inl e)) (inr (inr b)) = inr (inr (same_entry y x ys xs (sym e) ∙ b))

-- of two only one comes before the other
pub before_once : (xs ys : List ℕ) → comes_before xs ys ≡ true → comes_before ys xs ≡ false
before_once xs ys p = go (comes_before ys xs) refl
  where
    go : (b : Bool) → comes_before ys xs ≡ b → comes_before ys xs ≡ false
    go true q = absurd (true≢false (sym (before_transitive xs ys xs p q) ∙ before_irreflexive xs))
    go false q = q

-- ---- a common beginning
pub before_behind : (front xs ys : List ℕ) → comes_before (front ++ xs) (front ++ ys) ≡ comes_before xs ys
before_behind [] xs ys = refl
before_behind (x ∷ front) xs ys = same_entry x x (front ++ xs) (front ++ ys) refl ∙ before_behind front xs ys

-- "a proper beginning first"
pub beginning_before : (xs : List ℕ) (y : ℕ) (ys : List ℕ) → comes_before xs (xs ++ (y ∷ ys)) ≡ true
unfolding comes_before
beginning_before [] y ys = refl
beginning_before (x ∷ xs) y ys = same_entry x x xs (xs ++ (y ∷ ys)) refl ∙ beginning_before xs y ys

pub lower_before : (front : List ℕ) (x y : ℕ) (xs ys : List ℕ) → x < y → comes_before (front ++ (x ∷ xs)) (front ++ (y ∷ ys)) ≡ true
lower_before front x y xs ys l = before_behind front (x ∷ xs) (y ∷ ys) ∙ lower_entry x y xs ys l

-- ---- byte by byte
-- the first i bytes of both are equal
pub record Alike (i : ℕ) (xs ys : List ℕ) : Type 0 where
  pub first_inside : i ≤ length xs
  pub second_inside : i ≤ length ys
  pub same : take i xs ≡ take i ys

pub alike_none : (xs ys : List ℕ) → Alike 0 xs ys
alike_none xs ys = record { first_inside = omega arith; second_inside = omega arith; same = refl }

module _ {i : ℕ} {xs ys : List ℕ} where
  pub alike_next : Alike i xs ys → i < length xs → i < length ys → byte_at xs i ≡ byte_at ys i → Alike (i + 1) xs ys
  alike_next alike l k e =
      record {
        first_inside = omega arith;
        second_inside = omega arith;
        same = rw (add-one i) (take-suc xs i 0 l ∙ ap₂ (λ (front : List ℕ) (x : ℕ). front ++ (x ∷ [])) alike.same e ∙ sym (take-suc ys i 0 k));
      }

  pub alike_turned : Alike i xs ys → Alike i ys xs
  alike_turned alike = record { first_inside = alike.second_inside; second_inside = alike.first_inside; same = sym alike.same }

  -- what is left decides
  alike_rest : Alike i xs ys → comes_before xs ys ≡ comes_before (drop i xs) (drop i ys)
  alike_rest alike =
      ap₂ comes_before (sym (take-append-drop i xs)) (sym (take-append-drop i ys) ∙ ap (λ (front : List ℕ). front ++ drop i ys) (sym alike.same))
      ∙ before_behind (take i xs) (drop i xs) (drop i ys)

  alike_entries : Alike i xs ys → i < length xs → i < length ys → comes_before xs ys ≡ comes_before (byte_at xs i ∷ drop (suc i) xs) (byte_at ys i ∷ drop (suc i) ys)
  alike_entries alike l k = alike_rest alike ∙ ap₂ comes_before (drop-cons xs i 0 l) (drop-cons ys i 0 k)

  pub alike_lower : Alike i xs ys → i < length xs → i < length ys → byte_at xs i < byte_at ys i → comes_before xs ys ≡ true
  alike_lower alike l k b = alike_entries alike l k ∙ lower_entry (byte_at xs i) (byte_at ys i) (drop (suc i) xs) (drop (suc i) ys) b

  -- where one of them ends their lengths decide
  pub alike_first_ends : Alike i xs ys → i ≡ length xs → comes_before xs ys ≡ ltb (length xs) (length ys)
  unfolding comes_before
  alike_first_ends alike e = alike_rest alike ∙ ap (λ (zs : List ℕ). comes_before zs (drop i ys)) (drop_of_length-le xs {i = i} (omega arith)) ∙ go (dec_lt i (length ys))
    where
      go : Dec (i < length ys) → comes_before [] (drop i ys) ≡ ltb (length xs) (length ys)
      go (yes l) = ap (comes_before []) (drop-cons ys i 0 l) ∙ sym (lt-ltb (length xs) (length ys) (omega arith))
      go (no h) = ap (comes_before []) (drop_of_length-le ys {i = i} (omega arith)) ∙ sym (le-ltb (length xs) (length ys) (omega arith))

  pub alike_second_ends : Alike i xs ys → i ≡ length ys → comes_before xs ys ≡ ltb (length xs) (length ys)
  unfolding comes_before
  alike_second_ends alike e =
      let inside = alike.first_inside in
      alike_rest alike ∙ ap (comes_before (drop i xs)) (drop_of_length-le ys {i = i} (omega arith)) ∙ ends (drop i xs) ∙ sym (le-ltb (length xs) (length ys) (omega arith))
    where
      ends : (zs : List ℕ) → comes_before zs [] ≡ false
      ends [] = refl
      ends (z ∷ zs) = refl

-- the other way round
module _ {i : ℕ} {xs ys : List ℕ} where
  pub alike_later : Alike i xs ys → i < length xs → i < length ys → byte_at ys i < byte_at xs i → comes_before ys xs ≡ true
  alike_later alike l k b = alike_lower (alike_turned alike) k l b

  pub alike_higher : Alike i xs ys → i < length xs → i < length ys → byte_at ys i < byte_at xs i → comes_before xs ys ≡ false
  alike_higher alike l k b = before_once ys xs (alike_later alike l k b)
