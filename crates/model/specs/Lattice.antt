-- 01: "The label rows are a lattice with label 0 least". A label is a number below the count of rows.
use Rattle.std.specs.Prelude.{ℕ, ◌/◌, ◌%◌, ◌^◌, Bool, ◌&&◌, ◌||◌, not, List, [], ◌∷◌, ltb, eqb, length, get_or}
use Rattle.model.specs.Indices.{all_below, some_below}
use Rattle.model.specs.Image.{Design, register_at, state_at}

-- "bit j of row i set means i flows to j"; 01's "at or below" means "flows to"
unfoldable pub flows_to : List ℕ → ℕ → ℕ → Bool
flows_to rows i j = eqb (get_or rows i 0 / 2 ^ j % 2) 1

abbrev pub implies : Bool → Bool → Bool
implies p q = not p || q

-- The rules of label i, with i first where a rule names several labels. They range over the labels below the count.
module _ (rows : List ℕ) (i : ℕ) where
  -- "no bit at or above the label count"
  unfoldable pub row_inside : Bool
  row_inside = ltb (get_or rows i 0) (2 ^ length rows)

  unfoldable pub reflexive : Bool
  reflexive = flows_to rows i i

  unfoldable pub antisymmetric : Bool
  antisymmetric = all_below (λ j. implies (flows_to rows i j && flows_to rows j i) (eqb i j)) (length rows)

  unfoldable pub transitive : Bool
  transitive = all_below (λ j. all_below (λ k. implies (flows_to rows i j && flows_to rows j k) (flows_to rows i k)) (length rows)) (length rows)

  -- "row 0 full"
  unfoldable pub least_full : Bool
  least_full = implies (eqb i 0) (all_below (flows_to rows 0) (length rows))

  -- k is above i and j, and below whatever else is
  unfoldable pub least_above : ℕ → ℕ → Bool
  least_above j k =
      flows_to rows i k && flows_to rows j k && all_below (λ m. implies (flows_to rows i m && flows_to rows j m) (flows_to rows k m)) (length rows)

  -- "each two labels have a least common label above them"
  unfoldable pub joined : Bool
  joined = all_below (λ j. some_below (least_above j) (length rows)) (length rows)

  -- refusal 2: "charged to the lowest i whose row, or whose rule with i first, fails"
  unfoldable pub label_kept : Bool
  label_kept = row_inside && reflexive && antisymmetric && transitive && least_full && joined

-- every label of a list flows to the label
unfoldable pub all_flow_to : List ℕ → List ℕ → ℕ → Bool
all_flow_to rows [] to = Bool.true
all_flow_to rows (from ∷ more) to = flows_to rows from to && all_flow_to rows more to

-- the label of a register, and the label byte of a state, which since 02, E8, may stand for a parameter's label
abbrev pub register_label : Design → ℕ → ℕ
register_label d r = (register_at d r).label

abbrev pub state_label : Design → ℕ → ℕ
state_label d s = (state_at d s).label
