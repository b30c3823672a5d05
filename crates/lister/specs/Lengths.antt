-- The length of the input as far as the program reads it.
use Rattle.std.specs.Prelude.{ℕ, ◌+◌}
use Rattle.model.specs.Limits.{largest_image}

-- a cycle count, the largest image and one byte more
abbrev pub input_length : ℕ
input_length = largest_image + 3
