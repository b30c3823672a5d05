-- The bytes that each buffer has room for.
use Rattle.std.specs.Prelude.{ℕ, ◌+◌}
use Rattle.model.specs.Limits.{largest_image}
use Rattle.gates_model.specs.Limits.{largest_table}

-- one byte more than the largest image
abbrev pub image_room : ℕ
image_room = largest_image + 1

-- the areas
abbrev pub registers_room : ℕ
registers_room = 264

abbrev pub targets_room : ℕ
targets_room = 200

-- one byte more than the largest gate table
abbrev pub table_room : ℕ
table_room = largest_table + 1

abbrev pub flipflops_room : ℕ
flipflops_room = 520

abbrev pub journal_room : ℕ
journal_room = 1024
