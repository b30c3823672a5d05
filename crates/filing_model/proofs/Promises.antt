-- What is promised about 02, E12, "An order over designs", each promise restated in full and closed by one citation. The promises about the code that runs are equations with the same
-- definitions. An image holds bytes (`AreBytes`), which a slice of the code always does.
use Prim.Native.Nat.{ℕ, ◌≤◌, ◌<◌}
use mathlib.Core.Path.{◌≡◌}
use mathlib.Core.Logic.{◌↔◌, ◌⊎◌}
use mathlib.Core.Bool.{true, false, ◌&&◌}
use mathlib.Core.List.{List, ◌∷◌, ◌++◌}
use lib.ListN.{length, take}
use Rattle.model.specs.Image.{byte_at, AreBytes, design_of}
use Rattle.model.specs.Answers.{Accepted, numbers_of}
use Rattle.model.specs.Verdict.{verdict}
use Rattle.model.specs.Trees.{body_of}
use Rattle.model.specs.Raising.{accepts}
use Rattle.model.specs.Refusals.{in_numbers, Exactly}
use Rattle.renumbering.specs.Runs.{SameRuns}
use Rattle.filing_model.specs.declared.Earlier.TheVariants.{First, Neither}
use Rattle.filing_model.specs.Filed.{filed, filed_image}
use Rattle.filing_model.specs.Same.{DifferAtMostInNumbers, NodesRenumbered}
use Rattle.filing_model.specs.Order.{comes_before}
use Rattle.filing_model.specs.Calls.{file, earlier, handed_back}
use Rattle.filing_model.specs.Rules.{file_table}
use Rattle.filing_model.proofs.Trees.{bodies_written}
use Rattle.filing_model.proofs.Images.{filed_accepted, filed_long, filed_runs, filed_same}
use Rattle.filing_model.proofs.Forms as forms
use Rattle.filing_model.proofs.Renumbered as renumbered
use Rattle.filing_model.proofs.Order as order
use Rattle.filing_model.proofs.Exact as exact
use Rattle.filing_model.proofs.Written as written
use Rattle.filing_model.proofs.Earliest as earliest

-- ---- the form
-- "The filing form numbers nodes by state, parts before the whole, first part first, expressions in the order of the commands that use them.": its nodes are the bodies written out,
-- state by state, each behind its parts and an expression in front of the command that uses it.
pub form_written_out : (image : List ℕ) → AreBytes image → verdict image ≡ Accepted 0
    → record { commands = (filed (design_of image)).commands; values = (filed (design_of image)).expressions } ≡ bodies_written (body_of (design_of image)) (length (design_of image).states)
form_written_out = forms.form_written

-- "Two accepted images have the same form exactly when they differ at most in node numbers."
pub same_form_exactly : (image other : List ℕ) → AreBytes image → AreBytes other → verdict image ≡ Accepted 0 → verdict other ≡ Accepted 0
    → (filed_image image ≡ filed_image other) ↔ DifferAtMostInNumbers image other
same_form_exactly = forms.same_form

-- To differ at most in node numbers is to be one design under new numbers: some renumbering of nodes takes the one to the other.
pub differ_exactly : (image other : List ℕ) → AreBytes image → AreBytes other → verdict image ≡ Accepted 0 → verdict other ≡ Accepted 0
    → DifferAtMostInNumbers image other ↔ NodesRenumbered (design_of image) (design_of other)
differ_exactly = renumbered.differ_exactly

-- The form of an accepted image is accepted,
pub form_is_accepted : (image : List ℕ) → AreBytes image → verdict image ≡ Accepted 0 → verdict (filed_image image) ≡ Accepted 0
form_is_accepted = filed_accepted

-- has the same bodies, and all else but node numbers,
pub form_has_same_bodies : (image : List ℕ) → AreBytes image → verdict image ≡ Accepted 0 → DifferAtMostInNumbers (filed_image image) image
form_has_same_bodies = filed_same

-- is its own form,
pub form_is_its_own : (image : List ℕ) → AreBytes image → verdict image ≡ Accepted 0 → filed_image (filed_image image) ≡ filed_image image
form_is_its_own = forms.form_twice

-- is as long as the image,
pub form_is_as_long : (image : List ℕ) → AreBytes image → verdict image ≡ Accepted 0 → length (filed_image image) ≡ length image
form_is_as_long = filed_long

-- and runs as the image does: over whole lists of calls from reset each call answers alike, and each cycle leaves the same registers and walks the same states. All states stay, with
-- their numbers, and none but these run.
pub form_runs_alike : (image : List ℕ) → AreBytes image → verdict image ≡ Accepted 0
    → SameRuns image (filed_image image) (λ s. s < length (design_of image).states) (λ s. s)
form_runs_alike = filed_runs

-- ---- the order
-- "Images are ordered by these bytes": of two accepted images one comes before the other, or they differ at most in node numbers,
pub forms_are_ordered : (image other : List ℕ) → AreBytes image → AreBytes other → verdict image ≡ Accepted 0 → verdict other ≡ Accepted 0
    → (comes_before (filed_image image) (filed_image other) ≡ true) ⊎ (DifferAtMostInNumbers image other ⊎ (comes_before (filed_image other) (filed_image image) ≡ true))
forms_are_ordered = forms.forms_ordered

-- never both,
pub never_before_each_other : (xs ys : List ℕ) → comes_before xs ys ≡ true → comes_before ys xs ≡ false
never_before_each_other = order.before_once

-- and what comes before one that comes before a third comes before the third.
pub before_goes_on : (xs ys zs : List ℕ) → comes_before xs ys ≡ true → comes_before ys zs ≡ true → comes_before xs zs ≡ true
before_goes_on = order.before_transitive

-- "a proper beginning first"; else the first place where two differ decides.
pub beginning_comes_first : (xs : List ℕ) (y : ℕ) (ys : List ℕ) → comes_before xs (xs ++ (y ∷ ys)) ≡ true
beginning_comes_first = order.beginning_before

pub lower_comes_first : (front : List ℕ) (x y : ℕ) (xs ys : List ℕ) → x < y → comes_before (front ++ (x ∷ xs)) (front ++ (y ∷ ys)) ≡ true
lower_comes_first = order.lower_before

-- ---- the earlier of two
-- "Of two lent images the earlier one is handed back": neither comes before it,
pub earlier_is_least : (first second : List ℕ) → verdict first ≡ Accepted 0 → verdict second ≡ Accepted 0
    → (comes_before (filed_image first) (filed_image (handed_back first second (earlier first second))) ≡ false)
    × (comes_before (filed_image second) (filed_image (handed_back first second (earlier first second))) ≡ false)
earlier_is_least = earliest.earlier_least

-- "the first of them if equal",
pub first_where_equal : (first second : List ℕ) → verdict first ≡ Accepted 0 → verdict second ≡ Accepted 0 → filed_image first ≡ filed_image second → earlier first second ≡ First
first_where_equal = earliest.earlier_first

-- "and an empty part of the first if either is refused."
pub neither_where_refused : (first second : List ℕ) → (accepts (verdict first) && accepts (verdict second)) ≡ false → earlier first second ≡ Neither
neither_where_refused = earliest.earlier_refused

-- In whichever order they are lent, what is handed back has the same form.
pub lent_in_either_order : (first second : List ℕ) → verdict first ≡ Accepted 0 → verdict second ≡ Accepted 0
    → filed_image (handed_back first second (earlier first second)) ≡ filed_image (handed_back second first (earlier second first))
lent_in_either_order = earliest.earlier_swapped

-- ---- writing the form
-- "Writing the form into too short an area is 24, after the image checks": accepted with the length of the form as its count exactly when every rule of its table is kept, and
-- refused exactly by the first that is broken.
pub file_exactly : (image out : List ℕ) → Exactly (file_table image out) (length (filed_image image)) out (in_numbers (file image out))
file_exactly = exact.file_exactly

-- The form stands at the beginning of the output area,
pub file_writes : (image out : List ℕ) → (numbers_of (file image out).answer).number ≡ 0 → take (length (filed_image image)) (file image out).lent ≡ filed_image image
file_writes = written.file_writes

-- "bytes beyond the form keep their values."
pub beyond_keeps : (image out : List ℕ) (i : ℕ) → length (filed_image image) ≤ i → byte_at (file image out).lent i ≡ byte_at out i
beyond_keeps = written.beyond_keeps
