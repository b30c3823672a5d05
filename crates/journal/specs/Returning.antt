-- What is known where the areas go back to a saved state.
use Rattle.std.specs.Prelude.{ℕ, ◌*◌, ◌≤◌, ◌≡◌, List, length}
use Rattle.model.specs.Limits.{word_length, target_length}
use Rattle.model.specs.Rules.{Keeps}
use Rattle.design.specs.declared.image.Image.{Image}
use Rattle.design.specs.Images.{design_in}
use Rattle.journal_model.specs.Journals.{count_in}
use Rattle.journal_model.specs.Rules.{RoomKeeps}

-- the areas have their lengths, the journal has all that it counts, and goes back by some cycles that it counts
pub record Returning (image : Image) (registers targets journal : List ℕ) (k : ℕ) : Type 0 where
  pub keeps : Keeps image.bytes.now
  pub area : length registers ≡ word_length * image.design.registers
  pub states : length targets ≡ target_length * image.design.states
  pub room : RoomKeeps (design_in image) journal 0
  pub some : k ≡ 0 → ⊥
  pub counted : k ≤ count_in journal
