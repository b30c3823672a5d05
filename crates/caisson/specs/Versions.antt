-- The library by numbers that a host compares with those of the header it was built with. Nothing of document 01 or 02 rests on them.
use Rattle.std.specs.Prelude.{ℕ, ◌+◌, ◌*◌}

-- the version: its first number times 1,000,000, its second times 1,000, and its third
abbrev pub library_version : ℕ
library_version = 3 * 1000000 + 6 * 1000 + 0

-- the number of the format of the images that it takes
abbrev pub image_format : ℕ
image_format = 3
