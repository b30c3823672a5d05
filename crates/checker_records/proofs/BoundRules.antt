-- A flow for each choice, tested by bounds that the code reads from the table of scopes, is the meaning's: the law of bounds has it for the greatest and the
-- least label, and what flows to itself does so under each choice.
use Prim.Native.Nat.{ℕ, ◌*◌, ◌-◌, ◌≤◌, ◌<◌}
use mathlib.Core.Path.{◌≡◌, refl, sym, ◌∙◌, ap}
use mathlib.Core.Logic.{◌⊎◌, inl, inr}
use mathlib.Core.Bool.{Bool, true, false, ◌&&◌, ◌||◌}
use mathlib.Core.List.{List}
use native.Mathlib.Omega.{arith}
use lib.Dec.{leb, ltb, eqb}
use lib.ListN.{length, get_or}
use borrow.Author.Tests.{lt-ltb, le-ltb, le-leb, eq-eqb, ne_eqb}
use Rattle.model.specs.Limits.{parameter_label}
use Rattle.model.specs.Image as Image
use Rattle.model.specs.Image.{design_of}
use Rattle.model.specs.Lattice.{flows_to}
use Rattle.model.specs.Parameters.{scope_of, lower_bound, upper_bound, every_choice, label_under, least_label, most_label, bounded_flow}
use Rattle.model.proofs.Laws.Booleans.{or_first, or_second, and_both, cond_true, cond_false}
use Rattle.model.proofs.Laws.Bounds.{BoundsKept, each_bounded, least_label_lem, most_label_lem}
use Rattle.design.specs.declared.Design.{Design}
use Rattle.design.specs.Describes.{Describes}
use Rattle.design.specs.Kept.{LatticeKept, StatesKept, ParametersKept}
use Rattle.design.specs.Scopes.{LabelByte}
use Rattle.design.proofs.Laws.{labels_count, states_count}
use Rattle.design.proofs.BoundRules.{scopes_short, parameter_number, byte_of, labels_few, bounds_of, pair_in_scope}
use Rattle.checker_records.specs.Bounds.{flows_for_each}

-- what the name says
pub flows_for_each_lem : (y : Image.Design) (s b c : ℕ) → flows_for_each y s b c ≡ every_choice y s (λ choice. flows_to y.rows (label_under choice b) (label_under choice c))
unfolding flows_for_each
flows_for_each_lem y s b c = refl

-- ---- tests by bounds
bounded_self : (y : Image.Design) (s b : ℕ) → BoundsKept y s → LabelByte y s b → bounded_flow y s b b ≡ true
unfolding bounded_flow
bounded_self y s b kept byte = go byte.is
  where
    go : (b < length y.rows) ⊎ ((parameter_label ≤ b) × (b - parameter_label < length (scope_of y s))) → (flows_to y.rows (most_label y s b) (least_label y s b) || (leb parameter_label b && eqb b b)) ≡ true
    go (inl l) =
        let few = kept.few in
        let low : b < parameter_label = omega arith in
        or_first (flows_to y.rows (most_label y s b) (least_label y s b)) (leb parameter_label b && eqb b b) (rw (most_label_lem y s b low, least_label_lem y s b low) (kept.lattice.reflexive b l))
    go (inr (high, inside)) =
        or_second
        (flows_to y.rows (most_label y s b) (least_label y s b))
        (leb parameter_label b && eqb b b)
        (and_both (leb parameter_label b) (eqb b b) (le-leb parameter_label b high) (eq-eqb b b refl))

bounded_apart : (y : Image.Design) (s : ℕ) {b c : ℕ} → (b ≡ c → ⊥) → flows_to y.rows (most_label y s b) (least_label y s c) ≡ bounded_flow y s b c
unfolding bounded_flow
bounded_apart y s {b} {c} n = go (leb parameter_label b) (flows_to y.rows (most_label y s b) (least_label y s c)) (ne_eqb b c n)
  where
    go : (a f : Bool) {e : Bool} → e ≡ false → f ≡ (f || (a && e))
    go true true z = refl
    go true false z = sym z
    go false true z = refl
    go false false z = refl

module _ {image : List ℕ} {x : Design} {s : ℕ} (d : Describes image x) (lattice : LatticeKept (design_of image)) (states : StatesKept (design_of image)) (parameters : ParametersKept (design_of image)) where
  -- ---- a label byte
  module _ {b : ℕ} (byte : LabelByte (design_of image) s b) where
    plain : b < 16 → b < length (design_of image).rows
    plain l = go byte.is
      where
        go : (b < length (design_of image).rows) ⊎ ((parameter_label ≤ b) × (b - parameter_label < length (scope_of (design_of image) s))) → b < length (design_of image).rows
        go (inl h) = h
        go (inr (high, inside)) = absurd (omega arith)

    pub plain_label : b < 16 → b < x.labels
    plain_label l = let count = labels_count d in let label = plain l in omega arith

    in_scope_lem : 16 ≤ b → b - 16 < length (scope_of (design_of image) s)
    in_scope_lem h = go byte.is
      where
        go : (b < length (design_of image).rows) ⊎ ((parameter_label ≤ b) × (b - parameter_label < length (scope_of (design_of image) s))) → b - 16 < length (scope_of (design_of image) s)
        go (inl l) = let few = labels_few d in absurd (omega arith)
        go (inr (high, inside)) = inside

    pub plain_least : b < 16 → b ≡ least_label (design_of image) s b
    unfolding least_label
    plain_least l = sym (cond_true (ltb b parameter_label) b _ (lt-ltb b parameter_label l))

    pub plain_greatest : b < 16 → b ≡ most_label (design_of image) s b
    unfolding most_label
    plain_greatest l = sym (cond_true (ltb b parameter_label) b _ (lt-ltb b parameter_label l))

    module _ (here : s < x.states) (h : 16 ≤ b) where
      below : s < length (design_of image).states
      below = let count = states_count d in omega arith

      pub one_of_two : b - 16 < 2
      one_of_two = let short = (scopes_short parameters).short s below in let inside = in_scope_lem h in omega arith

      module _ {v : ℕ} (number : v ≡ get_or (scope_of (design_of image) s) (b - 16) 0) where
        pub number_inside : v < 2 * x.states
        number_inside = let count = states_count d in let inside = parameter_number states parameters (b - 16) below (in_scope_lem h) in omega arith

        pub bound_least : {l : ℕ} → l ≡ lower_bound (design_of image) v → l ≡ least_label (design_of image) s b
        unfolding least_label
        bound_least q = q ∙ ap (lower_bound (design_of image)) number ∙ sym (cond_false (ltb b parameter_label) b _ (le-ltb b parameter_label h))

        pub bound_greatest : {l : ℕ} → l ≡ upper_bound (design_of image) v → l ≡ most_label (design_of image) s b
        unfolding most_label
        bound_greatest q = q ∙ ap (upper_bound (design_of image)) number ∙ sym (cond_false (ltb b parameter_label) b _ (le-ltb b parameter_label h))

        pub lower_label : {l : ℕ} → l ≡ lower_bound (design_of image) v → l < x.labels
        lower_label {l} q =
            let count = labels_count d in
            let is : l ≡ lower_bound (design_of image) (get_or (scope_of (design_of image) s) (b - 16) 0) = q ∙ ap (lower_bound (design_of image)) number in
            let label = (pair_in_scope d lattice states parameters here (b - 16) (in_scope_lem h)).lower_label in
            rw (is, count) label

        pub upper_label : {l : ℕ} → l ≡ upper_bound (design_of image) v → l < x.labels
        upper_label {l} q =
            let count = labels_count d in
            let is : l ≡ upper_bound (design_of image) (get_or (scope_of (design_of image) s) (b - 16) 0) = q ∙ ap (upper_bound (design_of image)) number in
            let label = (pair_in_scope d lattice states parameters here (b - 16) (in_scope_lem h)).upper_label in
            rw (is, count) label

  -- ---- a flow for each choice
  module _ {b c : ℕ} (first : LabelByte (design_of image) s b) (second : LabelByte (design_of image) s c) (here : s < x.states) where
    pub each_is_bounded : flows_for_each (design_of image) s b c ≡ bounded_flow (design_of image) s b c
    unfolding flows_for_each
    each_is_bounded = each_bounded (design_of image) s (bounds_of d lattice states parameters here) (byte_of first) (byte_of second)

    pub each_self : b ≡ c → true ≡ flows_for_each (design_of image) s b c
    each_self e = sym (each_is_bounded ∙ rw (← e) (bounded_self (design_of image) s b (bounds_of d lattice states parameters here) first))

    pub each_apart :
        {f t : ℕ} {r : Bool}
        → (b ≡ c → ⊥)
        → f ≡ most_label (design_of image) s b
        → t ≡ least_label (design_of image) s c
        → r ≡ flows_to (design_of image).rows f t
        → r ≡ flows_for_each (design_of image) s b c
    each_apart {f} {t} n p q r =
        let from : f ≡ most_label (design_of image) s b = p in
        let to : t ≡ least_label (design_of image) s c = q in
        (rw (from, to) at r) ∙ bounded_apart (design_of image) s n ∙ sym each_is_bounded

-- the laws of a label byte, for `search`
pub ruleset byte_laws = (plain_label, plain_least, plain_greatest, one_of_two, number_inside, bound_least, bound_greatest, lower_label, upper_label)

pub ruleset each_laws = (each_self, each_apart)
