-- Cases at the boundaries of the lattice of labels: refusal 2, its rules each alone, and its place.
use Rattle.std.specs.Prelude.{Some}
use mathlib.Core.Path.{◌≡◌, refl}
use mathlib.Core.List.{[], ◌∷◌, map}
use Rattle.model.proofs.Opened.{checks, refused, accepted, judged, fault_of_rows}
use Rattle.model.proofs.Designs.{of_rows, one_state, register_record, goes_to}

-- "row 0 full": the rows are a lattice whose least label is another one
shows_rows : map fault_of_rows ((1 ∷ 3 ∷ []) ∷ (3 ∷ 2 ∷ 7 ∷ []) ∷ []) ≡ Some 0 ∷ Some 0 ∷ []
shows_rows = unfold checks in refl

-- "no bit at or above the label count", next to the count and far above it
shows_row_inside : map judged (of_rows (3 ∷ 6 ∷ []) ∷ of_rows (3 ∷ 130 ∷ []) ∷ of_rows (3 ∷ 2 ∷ []) ∷ []) ≡ refused 2 1 ∷ refused 2 1 ∷ accepted 0 ∷ []
shows_row_inside = unfold checks in refl

-- "reflexive": label 1 flows to 2 and not to itself, and every other rule holds
shows_reflexive : judged (of_rows (7 ∷ 4 ∷ 4 ∷ [])) ≡ refused 2 1
shows_reflexive = unfold checks in refl

-- "antisymmetric": labels 1 and 2 flow to each other
shows_antisymmetric : judged (of_rows (7 ∷ 6 ∷ 6 ∷ [])) ≡ refused 2 1
shows_antisymmetric = unfold checks in refl

-- "transitive": 1 flows to 2, 2 to 3, and 1 not to 3; every other rule holds. Charged to 1, the first of the rule
shows_transitive : judged (of_rows (31 ∷ 22 ∷ 28 ∷ 24 ∷ 16 ∷ [])) ≡ refused 2 1
shows_transitive = unfold checks in refl

-- "each two labels have a least common label above them": 1 and 2 have 3, 4 and 5 above them, and of 3 and 4 neither is below the other
shows_least_above : judged (of_rows (63 ∷ 58 ∷ 60 ∷ 40 ∷ 48 ∷ 32 ∷ [])) ≡ refused 2 1
shows_least_above = unfold checks in refl

-- "charged to the lowest i whose row, or whose rule with i first, fails": labels 1 and 2 have no common label above
shows_lowest_label : judged (of_rows (7 ∷ 2 ∷ 4 ∷ [])) ≡ refused 2 1
shows_lowest_label = unfold checks in refl

-- a lattice in which labels cannot be compared, and one whose numbers do not rise with the order: 2 is below 1
shows_lattices : map judged (of_rows (15 ∷ 10 ∷ 12 ∷ 8 ∷ []) ∷ of_rows (7 ∷ 2 ∷ 6 ∷ []) ∷ []) ≡ accepted 0 ∷ accepted 0 ∷ []
shows_lattices = unfold checks in refl

-- "The lowest number that applies comes first": 2 before 3
shows_2_before_3 : judged (one_state (1 ∷ 2 ∷ []) (register_record 0 2 0 ∷ []) 1 (goes_to 1 ∷ []) []) ≡ refused 2 0
shows_2_before_3 = unfold checks in refl
