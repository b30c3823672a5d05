-- The table of masks of a state: the mask of each label byte, made of the label rows and of the bounds in scope.
use Rattle.std.specs.Prelude.{ℕ, ◌+◌, ◌*◌, ◌/◌, ◌%◌, ◌^◌, ◌<◌, ◌≤◌, ◌≡◌, cond, List, [], ◌∷◌, ltb, eqb, length, get_or, set}
use Rattle.model.specs.Limits.{parameters_max}
use Rattle.model.specs.Indices.{filled_to}
use Rattle.model.specs.Image.{Design as Table}
use Rattle.model.specs.Parameters.{scope_of, lower_bound, upper_bound}
use Rattle.model.specs.Flow.{flows_each}
use Rattle.design.specs.Scopes.{LabelByte}

-- one entry for each label, and for each parameter in scope
abbrev pub masks_length : ℕ
masks_length = 18

-- a mask with the bit of every label byte
abbrev pub all_bits : ℕ
all_bits = 262143

-- a context of label bytes in state s as a mask: bit l is set where the whole context flows to label byte l for each choice
pub record MaskOf (d : Table) (s : ℕ) (context : List ℕ) (mask : ℕ) : Type 0 where
  pub small : mask < 262144
  pub bits : (l : ℕ) → LabelByte d s l → eqb (mask / 2 ^ l % 2) 1 ≡ flows_each d s context l

-- the table of state s, which has room for all parameters in scope
pub record Masks (d : Table) (s : ℕ) (masks : List ℕ) : Type 0 where
  pub short : length (scope_of d s) ≤ parameters_max
  pub entry : (l : ℕ) → LabelByte d s l → MaskOf d s (l ∷ []) (get_or masks l 0)

-- a table that has the row of each label; what it says of parameters is left open
pub record Rows (d : Table) (masks : List ℕ) : Type 0 where
  pub long : length masks ≡ masks_length
  pub small : (l : ℕ) → l < length d.rows → get_or masks l 0 < 262144
  pub row : (l : ℕ) → l < length d.rows → get_or masks l 0 % 65536 ≡ get_or d.rows l 0

-- a row with the bits of two parameters, by their lower bounds
abbrev pub widened : ℕ → ℕ → ℕ → ℕ
widened row first second = row + 65536 * (row / 2 ^ first % 2) + 131072 * (row / 2 ^ second % 2)

-- a table with the mask of each label, where the parameters in scope have these lower bounds; all other entries stay
unfoldable pub with_rows : Table → ℕ → ℕ → List ℕ → List ℕ
with_rows d first second old = filled_to (λ l. widened (get_or d.rows l 0) first second) (length d.rows) old

-- a table with the masks of two parameters, by their upper bounds: each flows to itself
unfoldable pub with_own : List ℕ → ℕ → ℕ → List ℕ
with_own masks first second =
    set
    (set masks 16 (get_or masks first 0 % 65536 + 65536 + 131072 * (get_or masks first 0 / 131072 % 2)))
    17
    (get_or masks second 0 % 131072 + 131072)

-- the bounds of parameter i in scope of state s; 0 where there is none
unfoldable pub lower_in_scope : Table → ℕ → ℕ → ℕ
lower_in_scope d s i = cond (ltb i (length (scope_of d s))) (lower_bound d (get_or (scope_of d s) i 0)) 0

unfoldable pub upper_in_scope : Table → ℕ → ℕ → ℕ
upper_in_scope d s i = cond (ltb i (length (scope_of d s))) (upper_bound d (get_or (scope_of d s) i 0)) 0

-- the table of state s from that of another state: it stays where no parameter is in scope
unfoldable pub scope_masks : Table → ℕ → List ℕ → List ℕ
scope_masks d s old =
    cond
    (eqb (length (scope_of d s)) 0)
    old
    (with_own (with_rows d (lower_in_scope d s 0) (lower_in_scope d s 1) old) (upper_in_scope d s 0) (upper_in_scope d s 1))
