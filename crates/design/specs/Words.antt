-- A register area in which one register takes a value: its four bytes, the lowest first.
use Rattle.std.specs.Prelude.{ℕ, ◌+◌, ◌*◌, ◌/◌, ◌%◌, List, set}
use Rattle.model.specs.Limits.{word_length}

abbrev pub put_word : List ℕ → ℕ → ℕ → List ℕ
put_word bytes r v = set (set (set (set bytes (word_length * r) (v % 256)) (word_length * r + 1) (v / 256 % 256)) (word_length * r + 2) (v / 65536 % 256)) (word_length * r + 3) (v / 16777216 % 256)
