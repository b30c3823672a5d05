-- Cases at the boundaries of the two calls.
use Prim.Native.Nat.{ℕ}
use mathlib.Core.Path.{◌≡◌, refl}
use mathlib.Core.Bool.{true}
use mathlib.Core.List.{List, [], ◌∷◌, ◌++◌, map}
use lib.ListN.{length, replicate}
use Rattle.model.proofs.Opened.{accepted, refused}
use Rattle.model.proofs.Designs.{kind_two, lease}
use Rattle.filing_model.specs.declared.Earlier.TheVariants.{First, Second, Neither}
use Rattle.filing_model.specs.Order.{comes_before}
use Rattle.filing_model.specs.Calls.{file, earlier, handed_back, handed_from}
use Rattle.filing_model.proofs.Opened.{filing, told}
use Rattle.filing_model.proofs.Boundaries.Forms.{nested, nested_with, nested_filed}

-- ---- filing
shows_length : length nested ≡ 177
shows_length = unfold filing in refl

-- "Writing the form into too short an area is 24": one byte too short, at place 0, and no byte changes
shows_24 : told (file nested (replicate 176 5)) ≡ (refused 24 0, replicate 176 5)
shows_24 = unfold filing in refl

-- as long as the form: accepted, and the count is its bytes
shows_exact_length : told (file nested (replicate 177 5)) ≡ (accepted 177, nested_filed)
shows_exact_length = unfold filing in refl

-- "bytes beyond the form keep their values"
shows_beyond : told (file nested (replicate 177 5 ++ (6 ∷ 7 ∷ 8 ∷ []))) ≡ (accepted 177, nested_filed ++ (6 ∷ 7 ∷ 8 ∷ []))
shows_beyond = unfold filing in refl

-- "after the image checks": the image's refusal comes first, whatever the area
shows_image_first : map (λ n. told (file kind_two (replicate n 5))) (0 ∷ 300 ∷ []) ≡ (refused 3 1, []) ∷ (refused 3 1, replicate 300 5) ∷ []
shows_image_first = unfold filing in refl

-- ---- the earlier of two
-- the lower bytes, whichever is lent first
shows_lower : earlier lease nested ∷ earlier nested lease ∷ [] ≡ Second ∷ First ∷ []
shows_lower = unfold filing in refl

-- "the first of them if equal": one image lent twice, and one design under two numberings
shows_equal : earlier nested nested ∷ earlier nested nested_filed ∷ earlier nested_filed nested ∷ [] ≡ First ∷ First ∷ First ∷ []
shows_equal = unfold filing in refl

-- by their forms: of these two the first has the lower bytes as they are lent, and the second has the lower form
shows_by_form : earlier nested_filed (nested_with 6) ≡ Second
shows_by_form = unfold filing in refl

shows_as_lent : comes_before nested_filed (nested_with 6) ≡ true
shows_as_lent = unfold filing in refl

-- "if either is refused"
shows_refused : earlier kind_two nested ∷ earlier nested kind_two ∷ earlier kind_two kind_two ∷ [] ≡ Neither ∷ Neither ∷ Neither ∷ []
shows_refused = unfold filing in refl

-- "as it was lent", and "an empty part of the first"
shows_handed : handed_back lease nested First ∷ handed_back lease nested Second ∷ handed_back lease nested Neither ∷ [] ≡ lease ∷ nested ∷ [] ∷ []
shows_handed = unfold filing in refl

-- what is handed back begins where its image does, and the empty part where the first one does
shows_handed_from : ◌≡◌ {A = List ℕ} (handed_from 7 9 First ∷ handed_from 7 9 Second ∷ handed_from 7 9 Neither ∷ []) (7 ∷ 9 ∷ 7 ∷ [])
shows_handed_from = refl
