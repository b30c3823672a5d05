-- Rows as masks, and the tests that the rules of the lattice make of two labels, by name. Each of these stands under an `all_below` or a `some_below` of the meaning's rule.
use Rattle.std.specs.Prelude.{ℕ, ◌/◌, ◌%◌, ◌^◌, Bool, ◌&&◌, List, eqb, length, get_or}
use Rattle.std.specs.Int.Bits.{bit_and}
use Rattle.model.specs.Indices.{all_below, some_below}
use Rattle.model.specs.Lattice.{flows_to, implies, least_above}

module _ (rows : List ℕ) where
  -- row i, cut to the bits of labels
  unfoldable pub row_mask : ℕ → ℕ
  row_mask i = get_or rows i 0 % 2 ^ length rows

  -- k is one of a mask's labels, and its row has every bit of the mask
  unfoldable pub least_in : ℕ → ℕ → Bool
  least_in among k = eqb (among / 2 ^ k % 2) 1 && eqb (bit_and among (get_or rows k 0)) among

module _ (rows : List ℕ) (i j : ℕ) where
  -- labels that flow to each other are one
  unfoldable pub distinct : Bool
  distinct = implies (flows_to rows i j && flows_to rows j i) (eqb i j)

  -- where i flows to j, i flows to whatever j flows to
  unfoldable pub carries : Bool
  carries = all_below (λ k. implies (flows_to rows i j && flows_to rows j k) (flows_to rows i k)) (length rows)

  -- i and j have a least common label above them
  unfoldable pub joins : Bool
  joins = some_below (least_above rows i j) (length rows)
