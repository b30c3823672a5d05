-- What a pass over the bodies tells of falls.
use Rattle.std.specs.Prelude.{ℕ, ◌<◌, ◌≤◌, ◌≡◌, List, length, get_or}
use Rattle.model.specs.Image.{Design as Table}
use Rattle.model.specs.Trees.{body_of}
use Rattle.model.specs.Values.{one_or_zero}
use Rattle.model.specs.Falls.{holds_fall}

-- a table with 1 at each state that holds a fall, and 0 at each that holds none
pub record FallsTold (d : Table) (table : List ℕ) : Type 0 where
  pub long : length d.states ≤ length table
  pub entry : (s : ℕ) → s < length d.states → get_or table s 0 ≡ one_or_zero (holds_fall (body_of d s))
