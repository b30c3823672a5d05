-- Laws of places: the place of what is lowest in two lists is the lower of their places.
use Rattle.std.specs.Prelude.{Option, Some, None}
use Prim.Native.Nat.{ℕ, min, ◌≤◌, ◌<◌}
use mathlib.Core.Path.{◌≡◌, refl, sym, ◌∙◌, ap}
use mathlib.Core.Bool.{Bool, true, false, cond}
use mathlib.Core.List.{List, ◌++◌}
use native.Mathlib.Omega.{arith}
use borrow.Author.Tests.{lt-ltb, le-ltb}
use Rattle.model.specs.Indices.{lower, lowest_of}
use Rattle.model.specs.States.{found_or}
use Rattle.model.specs.Shape.{charged_unless}
use Rattle.model.proofs.Laws.Faults.{lowest_append}
use Rattle.model.proofs.Laws.Charged.{Below, FoundBelow, lowest_below}
use Rattle.checker_bodies.specs.Places.{found_among}

-- ---- what a place says
module _ {commands place : ℕ} where
  pub found_at : place < commands → found_among commands place ≡ Some place
  found_at l = rw (lt-ltb place commands l)

  pub found_nowhere : commands ≤ place → found_among commands place ≡ None
  found_nowhere l = rw (le-ltb place commands l)

-- ---- what was found, as a place
-- a place says what was found below a count
pub place_found : {count b : ℕ} (f : Option ℕ) → count ≤ b → FoundBelow count f → found_among count (found_or b f) ≡ f
place_found (Some i) m h = found_at (h i refl)
place_found None m h = found_nowhere m

module _ {b : ℕ} where
  place_lower : (f g : Option ℕ) → FoundBelow b f → FoundBelow b g → min (found_or b f) (found_or b g) ≡ found_or b (lower f g)
  place_lower None None h k = omega arith
  place_lower None (Some j) h k = let below = k j refl in omega arith
  place_lower (Some i) None h k = let below = h i refl in omega arith
  place_lower (Some i) (Some j) h k = refl

  place_small : (f : Option ℕ) → FoundBelow b f → found_or b f ≤ b
  place_small None h = omega arith
  place_small (Some i) h = let below = h i refl in omega arith

  -- of two lists it is the lower of theirs
  pub place_append : (xs ys : List ℕ) → Below b xs → Below b ys → min (found_or b (lowest_of xs)) (found_or b (lowest_of ys)) ≡ found_or b (lowest_of (xs ++ ys))
  place_append xs ys h k = place_lower (lowest_of xs) (lowest_of ys) (lowest_below b h) (lowest_below b k) ∙ ap (found_or b) (sym (lowest_append xs ys))

  pub lowest_small : (xs : List ℕ) → Below b xs → found_or b (lowest_of xs) ≤ b
  lowest_small xs h = place_small (lowest_of xs) (lowest_below b h)

-- a node's own
pub place_charged : (b : ℕ) (kept : Bool) (n : ℕ) → cond kept b n ≡ found_or b (lowest_of (charged_unless kept n))
unfolding lowest_of
place_charged b true n = refl
place_charged b false n = refl
