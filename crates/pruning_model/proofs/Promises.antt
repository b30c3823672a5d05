-- What is promised about 02, E11, "Drop what can never run", each promise restated in full and closed by one citation. The promises about the code that runs are equations with
-- the same definitions. An image holds bytes (`AreBytes`), which a slice of the code always does.
use Prim.Native.Nat.{ℕ, ◌≤◌, ◌<◌}
use mathlib.Core.Path.{◌≡◌}
use mathlib.Core.Logic.{◌↔◌}
use mathlib.Core.Bool.{true}
use mathlib.Core.List.{List}
use lib.ListN.{length, take}
use Rattle.model.specs.Image.{byte_at, AreBytes, Design, design_of}
use Rattle.model.specs.Answers.{Accepted, numbers_of}
use Rattle.model.specs.Verdict.{verdict}
use Rattle.model.specs.Trees.{body_of}
use Rattle.model.specs.Rules.{HoldsFall, DefaultChild}
use Rattle.model.specs.Refusals.{in_numbers, Exactly}
use Rattle.pruning_model.specs.Reached.{HoldsGoto, Reached, reached}
use Rattle.pruning_model.specs.Pruned.{pruned_image}
use Rattle.pruning_model.specs.Runs.{PrunedRunsAlike}
use Rattle.pruning_model.specs.Calls.{prune}
use Rattle.pruning_model.specs.Rules.{prune_table}
use Rattle.pruning_model.proofs.Reached.{reached_least}
use Rattle.pruning_model.proofs.Images.{image_reached, pruned_accepted, pruned_runs, image_twice, image_whole, image_shorter}
use Rattle.pruning_model.proofs.Exact as exact
use Rattle.pruning_model.proofs.Written as written

-- "Reached states are the root, the default child of a reached state that holds a fall, and the siblings named by a reached state's gotos.": what is computed of an accepted
-- image are these states,
pub reached_exactly : (image : List ℕ) → verdict image ≡ Accepted 0 → (s : ℕ) → (reached (design_of image) s ≡ true) ↔ Reached (design_of image) s
reached_exactly = image_reached

-- and no smaller set has the three.
pub least_closed : (d : Design) (P : ℕ → Type 0) → P 0
    → ((s q : ℕ) → P s → s < length d.states → HoldsFall (body_of d s) → DefaultChild d s q → P q)
    → ((s t : ℕ) → P s → s < length d.states → HoldsGoto t (body_of d s) → P t)
    → {s : ℕ} → Reached d s → P s
least_closed = reached_least

-- "It refuses with 24, after the image checks, an output area shorter than the result.": accepted with the length of the result as its count exactly when every rule of its
-- table is kept, and refused exactly by the first that is broken.
pub prune_exactly : (image out : List ℕ) → Exactly (prune_table image out) (length (pruned_image image)) out (in_numbers (prune image out))
prune_exactly = exact.prune_exactly

-- "Write the image with only these": at the beginning of the output area,
pub prune_writes : (image out : List ℕ) → (numbers_of (prune image out).answer).number ≡ 0 → take (length (pruned_image image)) (prune image out).lent ≡ pruned_image image
prune_writes = written.prune_writes

-- "and output bytes beyond the result keep their values."
pub beyond_keeps : (image out : List ℕ) (i : ℕ) → length (pruned_image image) ≤ i → byte_at (prune image out).lent i ≡ byte_at out i
beyond_keeps = written.beyond_keeps

-- "It is accepted",
pub pruned_is_accepted : (image : List ℕ) → AreBytes image → verdict image ≡ Accepted 0 → verdict (pruned_image image) ≡ Accepted 0
pruned_is_accepted = pruned_accepted

-- "and every run from reset, with the same port writes between its cycles, gives the same registers and the same walk under the new numbers.": over whole lists of calls, each
-- of which answers alike, refusals included. Every state that runs is reached, and no two reached states have one number, so what is dropped can never run.
pub pruned_runs_alike : PrunedRunsAlike
pruned_runs_alike = pruned_runs

-- "Doing it twice changes nothing".
pub pruning_twice : (image : List ℕ) → AreBytes image → verdict image ≡ Accepted 0 → pruned_image (pruned_image image) ≡ pruned_image image
pruning_twice = image_twice

-- A design all of whose states are reached comes back byte for byte,
pub whole_comes_back : (image : List ℕ) → AreBytes image → verdict image ≡ Accepted 0
    → ((s : ℕ) → s < length (design_of image).states → Reached (design_of image) s)
    → pruned_image image ≡ image
whole_comes_back = image_whole

-- and no result is longer than its image, so that an output area as long as the image is never too short.
pub never_longer : (image : List ℕ) → AreBytes image → verdict image ≡ Accepted 0 → length (pruned_image image) ≤ length image
never_longer = image_shorter
