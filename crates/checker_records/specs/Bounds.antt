-- A flow for each choice.
use Rattle.std.specs.Prelude.{ℕ, Bool}
use Rattle.model.specs.Image.{Design as Table}
use Rattle.model.specs.Lattice.{flows_to}
use Rattle.model.specs.Parameters.{every_choice, label_under}

-- what the first byte stands for flows to what the second stands for, for each choice in scope of state s
unfoldable pub flows_for_each : Table → ℕ → ℕ → ℕ → Bool
flows_for_each d s from to = every_choice d s (λ choice. flows_to d.rows (label_under choice from) (label_under choice to))
