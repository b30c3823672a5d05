-- Each text that the program makes is the next piece of the listing, and the pieces are counted as they are handed over.
use Rattle.std.specs.Prelude.{Err}
use Prim.Native.Nat.{ℕ, suc, ◌+◌, ◌≤◌, ◌<◌}
use mathlib.Core.Path.{◌≡◌, sym, ◌∙◌, ap}
use mathlib.Core.Bool.{Bool, false, true≢false}
use mathlib.Core.List.{List, [], ◌∷◌}
use native.Mathlib.Omega.{arith}
use native.Mathlib.Numerals.{add-one}
use lib.ListN.{length, get_or, drop, drop_of_length-le}
use mir.Syntax.{w32, w64}
use mir.Val.{Fits}
use Rattle.model.specs.declared.Refusal.{Refusal}
use Rattle.model.specs.declared.Refusal.TheVariants.{Directory}
use Rattle.model.specs.declared.RefusedAt.{RefusedAt}
use Rattle.model.specs.Answers.{Answer, Accepted, Refused}
use Rattle.model.specs.Indices.{tabulate}
use Rattle.model.specs.Image.{design_of}
use Rattle.model.specs.Rules.{Keeps}
use Rattle.model.specs.Verdict.{verdict}
use Rattle.model.specs.Listing.{header, refusal_line}
use Rattle.model.proofs.Exact.{verdict_exact}
use Rattle.model.proofs.Laws.Indices.{length-tabulate, get_d_tabulate}
use Rattle.listing.specs.Texts.{Put}
use Rattle.design.specs.declared.Design.{Design}
use Rattle.listing.specs.Lines.{cycle_line, RunningAt}
use Rattle.listing.proofs.TextRules.{front_is}
use Rattle.lister.specs.Pieces.{pieces_by, pieces, Hands, Handed}
use Rattle.lister.specs.Ran.{Ran}
use Rattle.lister.proofs.Prefix.{directory_refused}

-- ---- what the pieces are
pub pieces_kept : (image : List ℕ) (count : ℕ) → Keeps image → pieces image count ≡ header ∷ tabulate (cycle_line (design_of image)) count
unfolding pieces pieces_by
pieces_kept image count keeps = ap (λ (a : Answer). pieces_by a count image) ((verdict_exact image).1 keeps)

pub pieces_refused : (image : List ℕ) (count : ℕ) {r : Refusal} {p : ℕ} → verdict image ≡ Refused r p → pieces image count ≡ refusal_line r p ∷ []
unfolding pieces pieces_by
pieces_refused image count e = ap (λ (a : Answer). pieces_by a count image) e

length-kept : (image : List ℕ) (count : ℕ) → Keeps image → length (pieces image count) ≡ count + 1
length-kept image count keeps = ap length (pieces_kept image count keeps) ∙ ap suc (length-tabulate (cycle_line (design_of image)) count) ∙ sym (add-one count)

length-few : (image : List ℕ) (count : ℕ) → length (pieces image count) ≤ count + 1
unfolding pieces pieces_by
length-few image count = go (verdict image)
  where
    go : (a : Answer) → length (pieces_by a count image) ≤ count + 1
    go (Accepted found) = let long = length-tabulate (cycle_line (design_of image)) count in omega arith
    go (Err why) = omega arith

-- ---- what is handed over
module _ {image text : List ℕ} {count handed n : ℕ} (hands : Hands image count handed text n) where
  -- the count of pieces is a number of 64 bits
  pub hands_counted : Fits w32 count → Fits w64 (handed + 1)
  hands_counted fits =
      let below = fits.fits in
      let more = hands.more in
      let few = length-few image count in
      record { fits = omega arith }

module _ {image out after : List ℕ} {count handed n : ℕ} where
  pub header_hands : Keeps image → handed ≡ 0 → Put out 0 header after n → n ≤ 21 → length out ≡ 21 → length after ≡ 21 → Hands image count handed after n
  header_hands keeps e put few long same =
      let all = length-kept image count keeps in
      record { room = omega arith; more = omega arith; bytes = front_is put (omega arith) ∙ sym (rw (e, pieces_kept image count keeps)) }

  pub refusal_hands : {r : Refusal} {p : ℕ} → verdict image ≡ Refused r p → handed ≡ 0 → Put out 0 (refusal_line r p) after n → n ≤ 30 → length out ≡ 30 → length after ≡ 30 → Hands image count handed after n
  refusal_hands refused e put few long same =
      let one = ap length (pieces_refused image count refused) in
      record { room = omega arith; more = omega arith; bytes = front_is put (omega arith) ∙ sym (rw (e, pieces_refused image count refused)) }

module _ {image table in_scope registers targets : List ℕ} {x : Design} {done : ℕ} (at : RunningAt image x table in_scope registers targets done) where
  pub cycle_hands : {out after : List ℕ} {count handed n : ℕ} → done < count → handed ≡ done + 1 → Put out 0 (cycle_line (design_of image) done) after n → n ≤ 1421 → length out ≡ 1421 → length after ≡ 1421
      → Hands image count handed after n
  cycle_hands {count = count} {handed = handed} l e put few long same =
      let keeps = at.running.keeps in
      let all = length-kept image count keeps in
      let piece : get_or (pieces image count) handed [] ≡ cycle_line (design_of image) done =
      rw (e, add-one done, pieces_kept image count keeps) (get_d_tabulate (cycle_line (design_of image)) count done [] l) in
      record { room = omega arith; more = omega arith; bytes = front_is put (omega arith) ∙ sym piece }

-- ---- how many were handed over
module _ {image : List ℕ} {count handed : ℕ} {written : Bool} where
  pub refused_handed : {a : Answer} {why : RefusedAt} → handed ≡ 1 → a ≡ Err why → a ≡ verdict image → Handed image count handed written
  refused_handed {why = why} e h is =
      let one = ap length (pieces_refused image count {r = why.refusal} {p = why.place} (sym is ∙ h)) in
      record { least = omega arith; most = omega arith; whole = λ _. omega arith }

  -- the header could not be written
  pub header_handed : handed ≡ 1 → written ≡ false → Keeps image → Handed image count handed written
  header_handed e failed keeps =
      let all = length-kept image count keeps in
      record { least = omega arith; most = omega arith; whole = λ h. absurd (true≢false (sym h ∙ failed)) }

  pub ran_handed : {Behind : ℕ → Type 0} → Keeps image → Ran Behind count handed written → Handed image count handed written
  ran_handed keeps ran =
      let all = length-kept image count keeps in
      let counted = ran.counted in
      let most = ran.most in
      record { least = omega arith; most = omega arith; whole = λ h. let every = ran.all h in omega arith }

-- ---- an input of fewer than two bytes has the pieces of the empty image, whatever its count
pub empty_refused : verdict [] ≡ Refused Directory 0
empty_refused = directory_refused [] (λ keeps. omega (arith, keeps.present))

pub short_handed : {handed : ℕ} {written : Bool} (input : List ℕ) (n : ℕ) → length input < 2 → Handed [] 0 handed written → Handed (drop 2 input) n handed written
short_handed input n l done =
    let few : length input ≤ 2 = omega arith in
    let same : pieces (drop 2 input) n ≡ pieces [] 0 =
    ap (λ (image : List ℕ). pieces image n) (drop_of_length-le input few) ∙ pieces_refused [] n empty_refused ∙ sym (pieces_refused [] 0 empty_refused) in
    let long = ap length same in
    let most = done.most in
    record { least = done.least; most = omega arith; whole = λ h. let every = done.whole h in omega arith }
