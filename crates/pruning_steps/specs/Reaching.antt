-- What the code that marks the reached states knows and leaves. In its table a state is 0 that was not found, 1 that was gone through, and 2 that waits.
use Rattle.std.specs.Prelude.{ℕ, ◌≤◌, ◌<◌, Bool, cond, List, [], ◌∷◌, eqb, length, get_or, set}
use Rattle.model.specs.Image.{design_of}
use Rattle.design.specs.declared.Design.{Design as Described}
use Rattle.design.specs.declared.image.Image.{Image}
use Rattle.design.specs.Kept.{CommandsKept}
use Rattle.design.specs.RecordsAt.{CommandAt}

-- state t is found, unless it was before
unfoldable pub found : List ℕ → ℕ → List ℕ
found marks t = cond (eqb (get_or marks t 0) 0) (set marks t 2) marks

-- and all states of a list
unfoldable pub found_all : List ℕ → List ℕ → List ℕ
found_all marks [] = marks
found_all marks (t ∷ ts) = found_all (found marks t) ts

-- state k waits
abbrev pub waits : List ℕ → ℕ → Bool
waits marks k = eqb (get_or marks k 0) 2

-- what is known where the states that command n leads to are found
pub record Finding (image : List ℕ) (x : Described) (n child : ℕ) (marks : List ℕ) : Type 0 where
  pub commands : CommandsKept (design_of image)
  pub command : CommandAt image x x.commands_at n
  pub state : child < length (design_of image).states
  pub long : length (design_of image).states ≤ length marks

abbrev pub FindingIn : Image → ℕ → ℕ → List ℕ → Type 0
FindingIn image n child marks = Finding image.bytes.now image.design n child marks
