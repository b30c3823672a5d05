-- The buffer for the input is long enough: an image of more bytes than all sections can have is refused by 1 at place 0, and so is its front.
use Prim.Native.Nat.{ℕ, ◌+◌, ◌≤◌, ◌<◌}
use mathlib.Core.Path.{◌≡◌, refl, sym, ◌∙◌, ap}
use mathlib.Core.Bool.{Bool, true, false}
use mathlib.Core.List.{List}
use native.Mathlib.Omega.{arith}
use native.Mathlib.Decide.{dec_lt}
use lib.ListN.{length, take, drop, length-drop}
use lib.Seq.{take_all, length-take-le}
use borrow.Author.Tests.{le-ltb}
use Rattle.model.specs.declared.Refusal.TheVariants.{Directory}
use Rattle.model.specs.Answers.{Refused}
use Rattle.model.specs.Image.{Labels, Registers, States, Commands, Expressions, directory_kept}
use Rattle.model.specs.Rules.{DirectoryKeeps}
use Rattle.model.specs.Verdict.{◌before◌, refused_at, structure, verdict}
use Rattle.model.specs.Listing.{refusal_line, listed, listing}
use Rattle.model.specs.Limits.{largest_image}
use Rattle.lister.specs.Lengths.{input_length}
use Rattle.model.proofs.Exact.Directories.{directory_iff}

longest : (image : List ℕ) → DirectoryKeeps image → length image ≤ largest_image
longest image keeps =
    omega (
      arith,
      keeps.sections Labels,
      keeps.sections Registers,
      keeps.sections States,
      keeps.sections Commands,
      keeps.sections Expressions,
    )

pub directory_refused : (image : List ℕ) → (DirectoryKeeps image → ⊥) → verdict image ≡ Refused Directory 0
unfolding verdict structure refused_at ◌before◌
directory_refused image broken = go (directory_kept image) refl
  where
    go : (w : Bool) → directory_kept image ≡ w → verdict image ≡ Refused Directory 0
    go true e = absurd (broken ((directory_iff image).0 e))
    go false e = rw e

long_refused : (image : List ℕ) → largest_image < length image → verdict image ≡ Refused Directory 0
long_refused image l = directory_refused image (λ keeps. let most = longest image keeps in omega arith)

long_listing : (input : List ℕ) → largest_image + 2 < length input → listing input ≡ refusal_line Directory 0
unfolding listing listed
long_listing input l =
    let rest = length-drop 2 input in
    rw (le-ltb (length input) 2 (omega arith), listing, long_refused (drop 2 input) (omega arith))

-- the first bytes of an input, as many as the program reads, have the listing of the whole
pub front_listing : (input : List ℕ) → listing (take input_length input) ≡ listing input
front_listing input = go (dec_lt (length input) input_length)
  where
    go : Dec (length input < input_length) → listing (take input_length input) ≡ listing input
    go (yes l) = ap listing (take_all input_length input (omega arith))
    go (no l) =
        let front = length-take-le input_length input (omega arith) in
        long_listing (take input_length input) (omega arith) ∙ sym (long_listing input (omega arith))
