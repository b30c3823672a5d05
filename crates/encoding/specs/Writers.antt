-- What the writer of a directory leaves: it is given the lengths of the sections, and writes the directory of every design whose sections have them.
use Rattle.std.specs.Prelude.{ℕ, ◌+◌, ◌≡◌, List, ◌++◌}
use Rattle.model.specs.Image.{Design}
use Rattle.encoding.specs.Encoding.{pair_bytes, labels_size, registers_size, states_size, commands_size, expressions_size, directory_bytes}
use Rattle.encoding.specs.Parts.{overwritten_at}

-- the pairs of sections that stand one behind the other, the first at an offset
unfoldable pub two_pairs : ℕ → ℕ → ℕ → List ℕ
two_pairs offset first second = pair_bytes offset first ++ pair_bytes (offset + first) second

unfoldable pub three_pairs : ℕ → ℕ → ℕ → ℕ → List ℕ
three_pairs offset first second third = two_pairs offset first second ++ pair_bytes (offset + first + second) third

-- the lengths of a design's sections in bytes
pub record Sizes (d : Design) (labels registers states commands expressions : ℕ) : Type 0 where
  pub labels_sized : labels_size d ≡ labels
  pub registers_sized : registers_size d ≡ registers
  pub states_sized : states_size d ≡ states
  pub commands_sized : commands_size d ≡ commands
  pub expressions_sized : expressions_size d ≡ expressions

pub record DirectoryPut (labels registers states commands expressions : ℕ) (before after : List ℕ) : Type 0 where
  pub put : (d : Design) → Sizes d labels registers states commands expressions → after ≡ overwritten_at 0 (directory_bytes d) before
