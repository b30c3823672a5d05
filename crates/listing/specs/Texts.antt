-- Text written over the bytes of a buffer.
use Rattle.std.specs.Prelude.{ℕ, zero, suc, ◌+◌, ◌≡◌, List, [], ◌∷◌, length, set}
use Rattle.model.specs.Listing.{decimal}

-- the bytes of a buffer with a text written over them, from a place on
unfoldable pub written : List ℕ → ℕ → List ℕ → List ℕ
written out at [] = out
written out at (b ∷ more) = written (set out at b) (at + 1) more

-- a text as the code puts it to a buffer: every byte of the buffer, and the place behind the text
pub record Put (out : List ℕ) (at : ℕ) (text after : List ℕ) (next : ℕ) : Type 0 where
  pub bytes : after ≡ written out at text
  pub behind : next ≡ at + length text

-- item i of a field, with the space that parts it from the item before it
unfoldable pub parted : ℕ → ℕ → List ℕ
parted zero item = decimal item
parted (suc i) item = 32 ∷ decimal item
