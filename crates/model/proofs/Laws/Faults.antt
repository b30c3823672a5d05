-- Laws of the lowest fault: of two lists it is the lower of theirs, so a pass may keep the lowest so far.
use Rattle.std.specs.Prelude.{Option, Some, None}
use Prim.Native.Nat.{ℕ}
use mathlib.Core.Path.{◌≡◌, refl, ◌∙◌, ap}
use mathlib.Core.List.{List, [], ◌∷◌, ◌++◌}
use native.Mathlib.Omega.{arith}
use Rattle.model.specs.Indices.{lower, lowest_of}

lower_assoc : (a b c : Option ℕ) → lower a (lower b c) ≡ lower (lower a b) c
lower_assoc None b c = refl
lower_assoc (Some i) None c = refl
lower_assoc (Some i) (Some j) None = refl
lower_assoc (Some i) (Some j) (Some k) = ap Some (omega arith)

pub lowest_append : (xs ys : List ℕ) → lowest_of (xs ++ ys) ≡ lower (lowest_of xs) (lowest_of ys)
unfolding lowest_of
lowest_append [] ys = refl
lowest_append (x ∷ xs) ys = ap (lower (Some x)) (lowest_append xs ys) ∙ lower_assoc (Some x) (lowest_of xs) (lowest_of ys)
