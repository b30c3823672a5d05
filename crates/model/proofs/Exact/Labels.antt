-- The label rule holds at every label exactly where the rows are a lattice: each of its six tests says its own law of the lattice.
use Rattle.std.specs.Prelude.{None}
use Prim.Native.Nat.{ℕ, ◌<◌}
use mathlib.Core.Path.{◌≡◌, refl}
use mathlib.Core.Logic.Iff
use mathlib.Core.Logic.{◌↔◌}
use mathlib.Core.Bool.{true}
use mathlib.Core.List.{List}
use native.Mathlib.Omega.{arith}
use lib.ListN.{length}
use Rattle.model.specs.Indices.{lowest_failing}
use Rattle.model.specs.Lattice.{row_inside, reflexive, antisymmetric, transitive, least_full, least_above, joined, label_kept}
use Rattle.model.specs.Rules.{FlowsTo, LeastAbove, LabelKeeps, IsLattice}
use Rattle.model.proofs.Laws.Equivalences.{less_iff, equal_iff, and_three_iff, and_four_iff, implies_iff, implies_both_iff, all_iff, some_iff}
use Rattle.model.proofs.Laws.Found.{failing_iff}

module _ (rows : List ℕ) (i : ℕ) where
  antisymmetric_iff : (antisymmetric rows i ≡ true) ↔ ((j : ℕ) → j < length rows → FlowsTo rows i j → FlowsTo rows j i → i ≡ j)
  unfolding antisymmetric
  antisymmetric_iff = all_iff (λ j. implies_both_iff Iff.rfl Iff.rfl equal_iff)

  transitive_iff : (transitive rows i ≡ true) ↔ ((j : ℕ) → j < length rows → (k : ℕ) → k < length rows → FlowsTo rows i j → FlowsTo rows j k → FlowsTo rows i k)
  unfolding transitive
  transitive_iff = all_iff (λ j. all_iff (λ k. implies_both_iff Iff.rfl Iff.rfl Iff.rfl))

  least_full_iff : (least_full rows i ≡ true) ↔ (i ≡ 0 → (j : ℕ) → j < length rows → FlowsTo rows 0 j)
  unfolding least_full
  least_full_iff = implies_iff equal_iff (all_iff (λ j. Iff.rfl))

  least_above_iff :
      (j k : ℕ)
      → (least_above rows i j k ≡ true)
      ↔ (FlowsTo rows i k × FlowsTo rows j k × ((m : ℕ) → m < length rows → FlowsTo rows i m → FlowsTo rows j m → FlowsTo rows k m))
  unfolding least_above
  least_above_iff j k =
      and_three_iff Iff.rfl Iff.rfl (all_iff (λ m. implies_both_iff Iff.rfl Iff.rfl Iff.rfl))

  joined_iff : (joined rows i ≡ true) ↔ ((j : ℕ) → j < length rows → (k : ℕ) × LeastAbove rows i j k)
  unfolding joined
  joined_iff =
      all_iff
      (λ j. Iff.trans
      (some_iff (least_above_iff j)) (
        λ s. (s.0, record { label = s.1; above_first = s.2.0; above_second = s.2.1; below_others = s.2.2 }),
        λ s. (s.0, s.1.label, (s.1.above_first, s.1.above_second, s.1.below_others)),
      ))

  pub label_iff : (label_kept rows i ≡ true) ↔ LabelKeeps rows i
  unfolding label_kept row_inside reflexive
  label_iff =
      Iff.trans
      (and_three_iff (and_four_iff less_iff Iff.rfl antisymmetric_iff transitive_iff) least_full_iff joined_iff) (
        λ h. record { inside = h.0.0; reflexive = h.0.1; antisymmetric = h.0.2; transitive = h.0.3; least = h.1; join = h.2 },
        λ k. ((k.inside, k.reflexive, k.antisymmetric, k.transitive), k.least, k.join),
      )

-- the rules of all labels; "row 0 full" is a rule of label 0, which is there if any label is
pub lattice_iff : (rows : List ℕ) → (lowest_failing (label_kept rows) (length rows) ≡ None) ↔ IsLattice rows
lattice_iff rows =
    Iff.trans
    (failing_iff (label_iff rows)) (
      λ h. record {
        inside = λ i l. (h i l).inside;
        reflexive = λ i l. (h i l).reflexive;
        antisymmetric = λ i j l m. (h i l).antisymmetric j m;
        transitive = λ i j k l m o. (h i l).transitive j m k o;
        least = λ j l. (h 0 (omega arith)).least refl j l;
        join = λ i j l m. (h i l).join j m;
      },
      λ lattice i l. record {
        inside = lattice.inside i l;
        reflexive = lattice.reflexive i l;
        antisymmetric = λ j m. lattice.antisymmetric i j l m;
        transitive = λ j m k o. lattice.transitive i j k l m o;
        least = λ z. lattice.least;
        join = λ j m. lattice.join i j l m;
      },
    )
