-- The pieces, one behind the other, are the listing, since a listing is its header and its lines; and whole pieces with a beginning of the next are a
-- beginning of all of them.
use Rattle.std.specs.Prelude.{Err}
use Prim.Native.Nat.{ℕ, zero, suc, ◌+◌, ◌≤◌, ◌<◌}
use mathlib.Core.Path.{◌≡◌, refl, sym, ◌∙◌, ap}
use mathlib.Core.Bool.{true}
use mathlib.Core.List.{List, [], ◌∷◌, ◌++◌, append_assoc, append-nil}
use native.Mathlib.Omega.{arith}
use native.Mathlib.Decide.{dec_lt}
use lib.ListN.{length, get_or, take, drop, take-append-drop, drop_of_length-le}
use lib.Seq.{take_all}
use borrow.Author.Tests.{lt-ltb, le-ltb}
use Rattle.model.specs.declared.Refusal.TheVariants.{Directory}
use Rattle.model.specs.Answers.{Answer, Accepted}
use Rattle.model.specs.Indices.{tabulate_from, tabulate, join_below}
use Rattle.model.specs.Image.{design_of, word16_at}
use Rattle.model.specs.Verdict.{verdict}
use Rattle.model.specs.Listing.{header, refusal_line, listed, listing}
use Rattle.listing.specs.Lines.{cycle_line}
use Rattle.listing.proofs.ListingRules.{lines_joined}
use Rattle.lister.specs.Lengths.{input_length}
use Rattle.lister.specs.Pieces.{pieces_by, pieces, joined, Handed}
use Rattle.lister.proofs.Prefix.{front_listing}
use Rattle.lister.proofs.PieceRules.{pieces_refused, empty_refused}

-- ---- all pieces
-- a list of pieces by its last one
joined_last : (f : ℕ → List ℕ) (i n : ℕ) → joined (tabulate_from f i (suc n)) ≡ joined (tabulate_from f i n) ++ f (i + n)
unfolding joined tabulate_from
joined_last f i zero = append-nil (f i) ∙ ap f (omega arith)
joined_last f i (suc n) =
    let same : suc i + n ≡ i + suc n = omega arith in
    ap (λ (rest : List ℕ). f i ++ rest) (joined_last f (suc i) n ∙ ap (λ (k : ℕ). joined (tabulate_from f (suc i) n) ++ f k) same)
    ∙ sym (append_assoc (f i) (joined (tabulate_from f (suc i) n)) (f (i + suc n)))

joined_below : (f : ℕ → List ℕ) (n : ℕ) → joined (tabulate f n) ≡ join_below f n
unfolding joined tabulate tabulate_from join_below
joined_below f zero = refl
joined_below f (suc n) = joined_last f 0 n ∙ ap (λ (before : List ℕ). before ++ f (0 + n)) (joined_below f n) ∙ ap (λ (k : ℕ). join_below f n ++ f k) (omega arith)

joined_listed : (a : Answer) (n : ℕ) (image : List ℕ) → joined (pieces_by a n image) ≡ listed a n image
unfolding joined pieces_by listed
joined_listed (Accepted found) n image =
    ap (λ (rest : List ℕ). header ++ rest) (joined_below (cycle_line (design_of image)) n ∙ sym (lines_joined (design_of image) n))
joined_listed (Err why) n image = append-nil _

short_listing : (input : List ℕ) → length input < 2 → joined (pieces (drop 2 input) (word16_at input 0)) ≡ listing input
unfolding listing joined
short_listing input l =
    let few : length input ≤ 2 = omega arith in
    ap (λ (image : List ℕ). joined (pieces image (word16_at input 0))) (drop_of_length-le input few)
    ∙ ap joined (pieces_refused [] (word16_at input 0) empty_refused)
    ∙ append-nil (refusal_line Directory 0)
    ∙ sym (rw (lt-ltb (length input) 2 l, listing))

long_listing : (input : List ℕ) → 2 ≤ length input → joined (pieces (drop 2 input) (word16_at input 0)) ≡ listing input
unfolding listing pieces
long_listing input l =
    joined_listed (verdict (drop 2 input)) (word16_at input 0) (drop 2 input) ∙ sym (rw (le-ltb (length input) 2 l, listing))

joined_listing : (input : List ℕ) → joined (pieces (drop 2 input) (word16_at input 0)) ≡ listing input
joined_listing input = go (dec_lt (length input) 2)
  where
    go : Dec (length input < 2) → joined (pieces (drop 2 input) (word16_at input 0)) ≡ listing input
    go (yes l) = short_listing input l
    go (no l) = long_listing input (omega arith)

-- ---- the first of them
pub record Begins (front whole : List ℕ) : Type 0 where
  pub rest : List ℕ
  pub parts : front ++ rest ≡ whole

begins_behind : (piece front more : List ℕ) {whole : List ℕ} → Begins (front ++ more) whole → Begins ((piece ++ front) ++ more) (piece ++ whole)
begins_behind piece front more begins =
    record {
      rest = begins.rest;
      parts = ap (λ (text : List ℕ). text ++ begins.rest) (append_assoc piece front more)
          ∙ append_assoc piece (front ++ more) begins.rest
          ∙ ap (λ (text : List ℕ). piece ++ text) begins.parts;
    }

front_begins : (all : List (List ℕ)) (k n : ℕ) → Begins (joined (take k all) ++ take n (get_or all k [])) (joined all)
unfolding joined
front_begins [] k n = none k n
  where
    none : (k n : ℕ) → Begins (joined (take k []) ++ take n []) []
    none zero zero = record { rest = []; parts = refl }
    none zero (suc n) = record { rest = []; parts = refl }
    none (suc k) zero = record { rest = []; parts = refl }
    none (suc k) (suc n) = record { rest = []; parts = refl }
front_begins (piece ∷ more) zero n =
    record {
      rest = drop n piece ++ joined more;
      parts = sym (append_assoc (take n piece) (drop n piece) (joined more)) ∙ ap (λ (text : List ℕ). text ++ joined more) (take-append-drop n piece);
    }
front_begins (piece ∷ more) (suc k) n = begins_behind piece (joined (take k more)) (take n (get_or more k [])) (front_begins more k n)

-- ---- what is written
-- the pieces of the part of an input that the program reads
abbrev pub pieces_of : List ℕ → List (List ℕ)
pieces_of input = pieces (drop 2 (take input_length input)) (word16_at (take input_length input) 0)

-- What stands on standard output is the listing of the input, or a beginning of it where a write failed. The program hands over the pieces in order (the
-- contract of `print`); all of them are the listing; they are handed over where each was written (the contract of `list_input`); and if the system takes
-- k of them whole and n bytes of the next, these begin the listing.
pub output_listed : (input : List ℕ) → (joined (pieces_of input) ≡ listing input)
    × ((handed : ℕ) → Handed (drop 2 (take input_length input)) (word16_at (take input_length input) 0) handed true → joined (take handed (pieces_of input)) ≡ listing input)
    × ((k n : ℕ) → Begins (joined (take k (pieces_of input)) ++ take n (get_or (pieces_of input) k [])) (listing input))
output_listed input =
    let whole : joined (pieces_of input) ≡ listing input = joined_listing (take input_length input) ∙ front_listing input in (
      whole,
      (λ handed done. let every = done.whole refl in ap joined (take_all handed (pieces_of input) (omega arith)) ∙ whole),
      (λ k n. rw whole at (front_begins (pieces_of input) k n)),
    )
