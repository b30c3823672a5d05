-- The listing as the program hands it over to be written: piece by piece, in order.
use Rattle.std.specs.Prelude.{ℕ, ◌≤◌, ◌<◌, ◌≡◌, Bool, true, List, [], ◌∷◌, ◌++◌, length, get_or, take, Err}
use Rattle.model.specs.Answers.{Answer, Accepted}
use Rattle.model.specs.Indices.{tabulate}
use Rattle.model.specs.Image.{design_of}
use Rattle.model.specs.Verdict.{verdict}
use Rattle.model.specs.Listing.{header, refusal_line}
use Rattle.listing.specs.Lines.{cycle_line}

-- the header and the line of each of so many cycles from reset, or the one line of a refusal, by the verdict of the image
unfoldable pub pieces_by : Answer → ℕ → List ℕ → List (List ℕ)
pieces_by (Accepted found) count image = header ∷ tabulate (cycle_line (design_of image)) count
pieces_by (Err why) count image = refusal_line why.refusal why.place ∷ []

-- the pieces of the listing of so many cycles of an image
unfoldable pub pieces : List ℕ → ℕ → List (List ℕ)
pieces image count = pieces_by (verdict image) count image

-- pieces one behind the other
unfoldable pub joined : List (List ℕ) → List ℕ
joined [] = []
joined (piece ∷ more) = piece ++ joined more

-- the first n bytes of a text are the piece behind those handed over so far
pub record Hands (image : List ℕ) (count handed : ℕ) (text : List ℕ) (n : ℕ) : Type 0 where
  pub room : n ≤ length text
  pub more : handed < length (pieces image count)
  pub bytes : take n text ≡ get_or (pieces image count) handed []

-- so many pieces were handed over: the first at least, and all of them where each was written
pub record Handed (image : List ℕ) (count handed : ℕ) (written : Bool) : Type 0 where
  pub least : 1 ≤ handed
  pub most : handed ≤ length (pieces image count)
  pub whole : written ≡ true → handed ≡ length (pieces image count)
