-- 02, E11: "It is accepted, and every run from reset, with the same port writes between its cycles, gives the same registers and the same walk under the new numbers." Of whole
-- lists of calls, as 01 has them: each call answers alike, and each cycle leaves the same registers and walks the same states. "What can never run": a dropped state has the new number
-- of the next state that stays, where there is one; so it is said as well that every state that runs is reached, and that no two reached states have one number.
use Rattle.std.specs.Prelude.{ℕ, ◌≡◌, List}
use Rattle.model.specs.Answers.{Accepted}
use Rattle.model.specs.Image.{AreBytes, design_of}
use Rattle.model.specs.Verdict.{verdict}
use Rattle.renumbering.specs.Runs.{SameRuns}
use Rattle.pruning_model.specs.Reached.{Reached}
use Rattle.pruning_model.specs.Pruned.{new_state, pruned_image}

-- 02's claim. An image holds bytes.
abbrev pub PrunedRunsAlike : Type 0
PrunedRunsAlike =
    (image : List ℕ) → AreBytes image → verdict image ≡ Accepted 0
    → SameRuns image (pruned_image image) (Reached (design_of image)) (new_state (design_of image))
