-- The place of a fault as a number, in the form in which the recursion over parts carries it: a command's own, or one past every command where there is none.
use Rattle.std.specs.Prelude.{ℕ, Bool, cond, ltb, Option, Some, None}
use Rattle.model.specs.Limits.{commands_max}
use Rattle.model.specs.States.{found_or}

abbrev pub place_unless : Bool → ℕ → ℕ
place_unless kept n = cond kept commands_max n

-- what a place says, among so many commands
abbrev pub found_among : ℕ → ℕ → Option ℕ
found_among commands place = cond (ltb place commands) (Some place) None

-- what was found, as a place
abbrev pub place_of : Option ℕ → ℕ
place_of found = found_or commands_max found
