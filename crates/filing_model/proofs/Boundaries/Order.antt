-- Cases at the boundaries of "Images are ordered by these bytes, a proper beginning first."
use mathlib.Core.Path.{◌≡◌, refl}
use mathlib.Core.Bool.{true, false}
use mathlib.Core.List.{[], ◌∷◌}
use Rattle.filing_model.specs.Order.{comes_before}
use Rattle.filing_model.proofs.Opened.{filing}

-- a proper beginning first
shows_beginning : comes_before (1 ∷ []) (1 ∷ 0 ∷ []) ∷ comes_before (1 ∷ 0 ∷ []) (1 ∷ []) ∷ comes_before [] (0 ∷ []) ∷ comes_before (0 ∷ []) [] ∷ [] ≡ true ∷ false ∷ true ∷ false ∷ []
shows_beginning = unfold filing in refl

-- equal bytes come in no order
shows_equal : comes_before [] [] ∷ comes_before (1 ∷ 2 ∷ []) (1 ∷ 2 ∷ []) ∷ [] ≡ false ∷ false ∷ []
shows_equal = unfold filing in refl

-- the first place where two differ decides, whatever stands behind it and however long they are
shows_first_place
    : comes_before (1 ∷ 9 ∷ 9 ∷ []) (2 ∷ []) ∷ comes_before (2 ∷ []) (1 ∷ 9 ∷ 9 ∷ []) ∷ comes_before (5 ∷ 1 ∷ 9 ∷ []) (5 ∷ 2 ∷ 0 ∷ []) ∷ comes_before (5 ∷ 2 ∷ 0 ∷ []) (5 ∷ 1 ∷ 9 ∷ []) ∷ []
    ≡ true ∷ false ∷ true ∷ false ∷ []
shows_first_place = unfold filing in refl

-- "by these bytes": from 0 to 255, and none of them below 0
shows_high_bytes
    : comes_before (127 ∷ []) (128 ∷ []) ∷ comes_before (128 ∷ []) (127 ∷ []) ∷ comes_before (0 ∷ []) (255 ∷ []) ∷ comes_before (255 ∷ []) (0 ∷ []) ∷ comes_before (254 ∷ []) (255 ∷ []) ∷ []
    ≡ true ∷ false ∷ true ∷ false ∷ true ∷ []
shows_high_bytes = unfold filing in refl
