-- The call of `Rattle.model.specs.Raising` from the point where the structure is accepted on.
use Rattle.std.specs.Prelude.{ℕ, not, List, eqb, length}
use Rattle.model.specs.declared.Refusal.TheVariants.{Area, NoRaising, RaiseParameters}
use Rattle.model.specs.Image.{design_of}
use Rattle.model.specs.Parameters.{has_parameters}
use Rattle.model.specs.Verdict.{◌before◌, refused_at, at_zero_unless, verdict}
use Rattle.model.specs.Raising.{accepts, raised_image}
use Rattle.model.specs.Calls.{Left, leaves}

-- once the area is as long as the image
unfoldable pub raise_within : List ℕ → List ℕ → Left (List ℕ)
raise_within image out = leaves (refused_at NoRaising (at_zero_unless (accepts (verdict (raised_image image))))) out (raised_image image)

-- once no state has a parameter
unfoldable pub raise_plain : List ℕ → List ℕ → Left (List ℕ)
raise_plain image out =
    leaves
    (refused_at Area (at_zero_unless (eqb (length out) (length image))) before refused_at NoRaising (at_zero_unless (accepts (verdict (raised_image image)))))
    out
    (raised_image image)

unfoldable pub raise_on : List ℕ → List ℕ → Left (List ℕ)
raise_on image out =
    leaves
    (refused_at RaiseParameters (at_zero_unless (not (has_parameters (design_of image))))
    before refused_at Area (at_zero_unless (eqb (length out) (length image)))
    before refused_at NoRaising (at_zero_unless (accepts (verdict (raised_image image)))))
    out
    (raised_image image)
