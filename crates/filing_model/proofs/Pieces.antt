-- Pieces of an order: the numbers of a tree stand one behind the other, those of its parts in front and its own last, so that in an order without repetitions the place of a tree's
-- number is the last one of its piece.
use Prim.Native.Nat.{ℕ, zero, suc, ◌+◌, ◌-◌, ◌≤◌, ◌<◌}
use mathlib.Core.Path.{◌≡◌, sym, ◌∙◌, ap}
use mathlib.Core.Logic.{⊎_elim}
use mathlib.Core.List.{List, [], ◌∷◌, ◌++◌, map, append_assoc, append-nil}
use native.Mathlib.Omega.{arith}
use lib.ListN.{length, get_or, length-append, length-map}
use lib.Seq.{append_snoc, get_or-append_seam}
use Rattle.model.specs.Indices.{join_below, join_each}
use Rattle.model.specs.Image.{Node}
use Rattle.model.proofs.Laws.Indices.{below_suc, recursively_step, only_below, only_below_at}
use Rattle.filing_model.specs.Filed.{parts_first, place_in}
use Rattle.filing_model.proofs.Trees.{latest}

-- ---- lists joined for each entry
pub each_one : (f : ℕ → List ℕ) (x : ℕ) → join_each f (x ∷ []) ≡ f x
unfolding join_each
each_one f x = append-nil (f x)

each_two : (f : ℕ → List ℕ) (x y : ℕ) → join_each f (x ∷ y ∷ []) ≡ f x ++ f y
unfolding join_each
each_two f x y = ap (λ (zs : List ℕ). f x ++ zs) (append-nil (f y))

-- ---- the piece of a tree
module _ (parts : ℕ → List ℕ) (n : ℕ) where
  piece_step : parts_first parts n ≡ join_each (only_below [] n (parts_first parts)) (parts n) ++ (n ∷ [])
  piece_step = recursively_step [] (λ k part. join_each part (parts k) ++ (k ∷ [])) n

  pub piece_alone : parts n ≡ [] → parts_first parts n ≡ n ∷ []
  unfolding join_each
  piece_alone none = piece_step ∙ ap (λ (xs : List ℕ). join_each (only_below [] n (parts_first parts)) xs ++ (n ∷ [])) none

  pub piece_two : {a b : ℕ} → parts n ≡ a ∷ b ∷ [] → a < n → b < n → parts_first parts n ≡ parts_first parts a ++ parts_first parts b ++ (n ∷ [])
  piece_two {a} {b} two la lb =
      piece_step
      ∙ ap (λ (xs : List ℕ). join_each (only_below [] n (parts_first parts)) xs ++ (n ∷ [])) two
      ∙ ap (λ (xs : List ℕ). xs ++ (n ∷ [])) (each_two (only_below [] n (parts_first parts)) a b)
      ∙ ap (λ (xs : List ℕ). xs ++ only_below [] n (parts_first parts) b ++ (n ∷ [])) (only_below_at [] n a (parts_first parts) la)
      ∙ ap (λ (xs : List ℕ). parts_first parts a ++ xs ++ (n ∷ [])) (only_below_at [] n b (parts_first parts) lb)

-- the piece of a node with two parts in an order: theirs, and the node behind them
pub record TwoPieces (order : List ℕ) (parts : ℕ → List ℕ) (front : List ℕ) (n a b : ℕ) (back : List ℕ) : Type 0 where
  pub whole : front ++ parts_first parts n ≡ front ++ parts_first parts a ++ parts_first parts b ++ (n ∷ [])
  pub first : order ≡ front ++ parts_first parts a ++ (parts_first parts b ++ ((n ∷ []) ++ back))
  pub second : order ≡ front ++ parts_first parts a ++ parts_first parts b ++ ((n ∷ []) ++ back)

pub two_pieces : {order : List ℕ} (parts : ℕ → List ℕ) (front : List ℕ) (n a b : ℕ) (back : List ℕ) → parts n ≡ a ∷ b ∷ [] → a < n → b < n
    → order ≡ front ++ parts_first parts n ++ back → TwoPieces order parts front n a b back
two_pieces {order} parts front n a b back two la lb at =
    let one : List ℕ = parts_first parts a in
    let other : List ℕ = parts_first parts b in
    let whole : front ++ parts_first parts n ≡ front ++ one ++ other ++ (n ∷ []) =
    ap (λ (xs : List ℕ). front ++ xs) (piece_two parts n two la lb)
    ∙ sym (append_assoc front (one ++ other) (n ∷ []))
    ∙ ap (λ (xs : List ℕ). xs ++ (n ∷ [])) (sym (append_assoc front one other)) in
    let second : order ≡ front ++ one ++ other ++ ((n ∷ []) ++ back) =
    at ∙ ap (λ (xs : List ℕ). xs ++ back) whole ∙ append_assoc (front ++ one ++ other) (n ∷ []) back in
    record { whole = whole; first = second ∙ append_assoc (front ++ one) other ((n ∷ []) ++ back); second = second }

-- ---- places
-- in an order in which each entry stands once, a node that stands last in a beginning has the last place of it
module _ (order : List ℕ) (placed : (i : ℕ) → i < length order → place_in order (get_or order i 0) ≡ i) where
  place_next : (front : List ℕ) (n : ℕ) (back : List ℕ) → order ≡ front ++ (n ∷ []) ++ back → place_in order n ≡ length front
  place_next front n back e =
      let whole : order ≡ front ++ (n ∷ back) = e ∙ append_snoc front n back in
      let long : length order ≡ length front + suc (length back) = ap length whole ∙ length-append front (n ∷ back) in
      let entry : get_or order (length front) 0 ≡ n = ap (λ (xs : List ℕ). get_or xs (length front) 0) whole ∙ get_or-append_seam front n back 0 in
      sym (ap (place_in order) entry) ∙ placed (length front) (omega arith)

  place_piece : (parts : ℕ → List ℕ) (front : List ℕ) (n : ℕ) (back : List ℕ) → order ≡ front ++ parts_first parts n ++ back
      → place_in order n ≡ length (front ++ parts_first parts n) - 1
  place_piece parts front n back e =
      let inner : List ℕ = join_each (only_below [] n (parts_first parts)) (parts n) in
      let step : front ++ parts_first parts n ≡ front ++ inner ++ (n ∷ []) = ap (λ (xs : List ℕ). front ++ xs) (piece_step parts n) ∙ sym (append_assoc front inner (n ∷ [])) in
      let long : length (front ++ parts_first parts n) ≡ length (front ++ inner) + 1 = ap length step ∙ length-append (front ++ inner) (n ∷ []) in
      let place : place_in order n ≡ length (front ++ inner) = place_next (front ++ inner) n back (e ∙ ap (λ (xs : List ℕ). xs ++ back) step) in
      omega arith

  -- likewise with the records of the beginning
  pub place_latest : (f : ℕ → Node) (parts : ℕ → List ℕ) (front : List ℕ) (n : ℕ) (back : List ℕ) → order ≡ front ++ parts_first parts n ++ back
      → place_in order n ≡ latest (map f (front ++ parts_first parts n))
  place_latest f parts front n back e = place_piece parts front n back e ∙ ap (λ (k : ℕ). k - 1) (sym (length-map (front ++ parts_first parts n) f))

-- ---- lists joined below a count begin with those below a lower one
pub join_begins : (f : ℕ → List ℕ) (n s : ℕ) → s ≤ n → (back : List ℕ) × (join_below f n ≡ join_below f s ++ back)
unfolding join_below
join_begins f zero s l = let none : s ≡ 0 = omega arith in ([], rw none)
join_begins f (suc n) s l =
    ⊎_elim
    (λ (b : s < suc n). let (back, e) = join_begins f n s (omega arith) in (back ++ f n, ap (λ (xs : List ℕ). xs ++ f n) e ∙ append_assoc (join_below f s) back (f n)))
    (λ (e : s ≡ suc n). ([], rw e (sym (append-nil (join_below f n ++ f n)))))
    (below_suc (omega arith))
