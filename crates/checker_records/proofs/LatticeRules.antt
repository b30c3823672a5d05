-- A rule of a label, tested on the rows that the accessor reads, is the meaning's rule.
use Prim.Native.Nat.{ℕ, zero, suc, ◌-◌, ◌/◌, ◌^◌, ◌<◌}
use mathlib.Core.Path.{◌≡◌, refl, sym, ◌∙◌, ap, ap₂}
use mathlib.Core.Bool.{Bool, true, false, ◌&&◌, ◌||◌, not}
use mathlib.Core.List.{List}
use native.Mathlib.Omega.{arith}
use native.Mathlib.Nat.{mod-lt, lt_of_le_of_lt}
use lib.Dec.{eqb}
use lib.ListN.{length, get_or}
use lib.Pow.{pow_pos, ones_lt}
use lib.Bits.{bit_and, and_mask, and_le_l}
use borrow.Author.Tests.{eq-eqb, ne_eqb}
use Rattle.model.specs.Indices.{all_below, some_below}
use Rattle.model.specs.Image.{Labels, design_of}
use Rattle.model.specs.Lattice.{flows_to, implies, row_inside, reflexive, antisymmetric, transitive, least_full, least_above, joined, label_kept}
use Rattle.model.proofs.Laws.Booleans.{not_true, not_false, and_false}
use Rattle.model.proofs.Laws.Indices.{all_make}
use Rattle.design.specs.declared.Design.{Design}
use Rattle.design.specs.Records.{row_in}
use Rattle.design.specs.Describes.{Describes}
use Rattle.design.proofs.Laws.{labels_count, row_in_lem}
use Rattle.design.proofs.ShiftRules.{shifted_out}
use Rattle.checker_records.specs.LabelTests.{row_mask, least_in, distinct, carries, joins}
use Rattle.model.proofs.Laws.Bits.{bit_and_lem}
use Rattle.checker_records.proofs.Subsets.{bit_of, inside, cut_bit, ones_bit}

-- ---- tests
and_false_second : (a b : Bool) → b ≡ false → (a && b) ≡ false
and_false_second true b e = e
and_false_second false b e = refl

-- tests that agree at every index below n agree over all of them, and over some of them
pub all_same : (p q : ℕ → Bool) (n : ℕ) → ((k : ℕ) → k < n → p k ≡ q k) → all_below p n ≡ all_below q n
unfolding all_below
all_same p q zero h = refl
all_same p q (suc n) h = ap₂ (λ (c d : Bool). c && d) (all_same p q n (λ k l. h k (omega arith))) (h n (omega arith))

some_same : (p q : ℕ → Bool) (n : ℕ) → ((k : ℕ) → k < n → p k ≡ q k) → some_below p n ≡ some_below q n
unfolding some_below
some_same p q zero h = refl
some_same p q (suc n) h = ap₂ (λ (c d : Bool). c || d) (some_same p q n (λ k l. h k (omega arith))) (h n (omega arith))

module _ {image : List ℕ} {x : Design} (d : Describes image x) where
  -- a row can be shifted by a label and by the count of labels
  pub label_small : {j : ℕ} → j < x.labels → j < 64
  label_small l = omega (arith, d.labels, d.directory.sections Labels)

  pub labels_small : x.labels < 64
  labels_small = omega (arith, d.labels, d.directory.sections Labels)

  -- the row of a label, its mask, and whether the two are the same
  pub row_rule : {i r : ℕ} → i < x.labels → r ≡ row_in image i → r ≡ get_or (design_of image).rows i 0
  row_rule l p = p ∙ row_in_lem d l

  pub mask_rule : (i : ℕ) {r m : ℕ} → r ≡ get_or (design_of image).rows i 0 → m ≡ 2 ^ x.labels - 1 → bit_and r m ≡ row_mask (design_of image).rows i
  unfolding row_mask
  mask_rule i p q = rw (p, q, labels_count d) (and_mask (get_or (design_of image).rows i 0) (length (design_of image).rows))

  pub inside_rule : (i : ℕ) {r : ℕ} → r ≡ get_or (design_of image).rows i 0 → eqb (r / 2 ^ x.labels) 0 ≡ row_inside (design_of image).rows i
  unfolding row_inside
  inside_rule i p = rw (p, labels_count d) (shifted_out (get_or (design_of image).rows i 0) (length (design_of image).rows))

-- the least label of a mask: one that is not in it, and one that is
module _ (rows : List ℕ) (among k : ℕ) {b : Bool} (e : b ≡ bit_of among k) where
  pub not_in : not b ≡ true → false ≡ least_in rows among k
  unfolding least_in
  not_in h = rw (← e, not_true b h)

  pub in_rule : {r : ℕ} → not b ≡ false → r ≡ get_or rows k 0 → eqb (bit_and among r) among ≡ least_in rows among k
  unfolding least_in
  in_rule h p = rw (← e, not_false b h, p)

-- Each rule by the tests that it is made of: the test of one more label or of a whole row, and the rule over all of them.
module _ (rows : List ℕ) (i : ℕ) where
  pub flow_rule : {r : ℕ} {b : Bool} (j : ℕ) → r ≡ get_or rows i 0 → b ≡ bit_of r j → b ≡ flows_to rows i j
  unfolding flows_to
  flow_rule j p q = rw (← p) q

  pub distinct_apart : (j : ℕ) {a : Bool} → a ≡ flows_to rows i j → not a ≡ true → true ≡ distinct rows i j
  unfolding distinct
  distinct_apart j {a} p h = rw (← p, not_true a h)

  pub distinct_rule : (j : ℕ) {a b : Bool} → a ≡ flows_to rows i j → not a ≡ false → b ≡ flows_to rows j i → (not b || eqb i j) ≡ distinct rows i j
  unfolding distinct
  distinct_rule j {a} p h q = rw (← p, not_false a h, q)

  pub antisymmetric_rule : {b : Bool} → b ≡ all_below (distinct rows i) (length rows) → b ≡ antisymmetric rows i
  unfolding antisymmetric distinct
  antisymmetric_rule e = e

  pub carries_nothing : (j : ℕ) {r : ℕ} {a : Bool} → r ≡ get_or rows i 0 → a ≡ bit_of r j → not a ≡ true → true ≡ carries rows i j
  unfolding carries
  carries_nothing j {r} {a} p q h = sym (all_make _ (length rows) (λ k l. rw (← (flow_rule j p q), not_true a h)))

  pub carries_rule : (j : ℕ) {r m : ℕ} {a : Bool} → r ≡ get_or rows i 0 → a ≡ bit_of r j → not a ≡ false → m ≡ row_mask rows j
      → eqb (bit_and m r) m ≡ carries rows i j
  unfolding carries flows_to row_mask
  carries_rule j {r} {m} {a} p q h e =
      inside m r (length rows) (rw e (mod-lt _ (pow_pos (length rows))))
      ∙ all_same _ _ (length rows) (λ k l. rw (← (flow_rule j p q), not_false a h, e, p, cut_bit (get_or rows j 0) (length rows) k l))

  pub transitive_rule : {b : Bool} → b ≡ all_below (carries rows i) (length rows) → b ≡ transitive rows i
  unfolding transitive carries
  transitive_rule e = e

  pub not_least : (i ≡ 0 → ⊥) → true ≡ least_full rows i
  unfolding least_full
  not_least h = rw (ne_eqb i 0 h)

  pub least_rule : {n m r : ℕ} → i ≡ 0 → n ≡ length rows → m ≡ 2 ^ n - 1 → r ≡ get_or rows 0 0 → eqb (bit_and m r) m ≡ least_full rows i
  unfolding least_full flows_to
  least_rule {n} {m} {r} z c e p =
      rw (eq-eqb i 0 z, e, c, p)
      (inside (2 ^ length rows - 1) (get_or rows 0 0) (length rows) (ones_lt (length rows))
      ∙ all_same _ _ (length rows) (λ k l. rw (ones_bit (length rows) k l)))

  -- the labels above i and j, as a mask: the least label of the mask is the least label above i and j
  module _ (j : ℕ) {m r : ℕ} (e : m ≡ row_mask rows i) (p : r ≡ get_or rows j 0) where
    bits_above : (k : ℕ) → k < length rows → bit_of (bit_and m r) k ≡ (bit_of (get_or rows i 0) k && bit_of (get_or rows j 0) k)
    unfolding row_mask
    bits_above k l = bit_and_lem m r k ∙ rw (e, p, cut_bit (get_or rows i 0) (length rows) k l)

    above_small : bit_and m r < 2 ^ length rows
    unfolding row_mask
    above_small = lt_of_le_of_lt (and_le_l m r) (rw e (mod-lt _ (pow_pos (length rows))))

    least_same : (k : ℕ) → k < length rows → least_in rows (bit_and m r) k ≡ least_above rows i j k
    unfolding least_above least_in flows_to
    least_same k l =
        let all =
        inside (bit_and m r) (get_or rows k 0) (length rows) above_small
        ∙ all_same _ _ (length rows) (λ n h. ap (λ (c : Bool). implies c (bit_of (get_or rows k 0) n)) (bits_above n h))
        in
        ap₂ (λ (c d : Bool). c && d) (bits_above k l) all

    pub joins_rule : {b : Bool} → b ≡ some_below (least_in rows (bit_and m r)) (length rows) → b ≡ joins rows i j
    unfolding joins
    joins_rule q = q ∙ some_same (least_in rows (bit_and m r)) (least_above rows i j) (length rows) least_same

  pub joined_rule : {b : Bool} → b ≡ all_below (joins rows i) (length rows) → b ≡ joined rows i
  unfolding joined joins
  joined_rule e = e

  -- the label's rules in their order, up to one that fails
  abbrev first_two : Bool
  first_two = row_inside rows i && reflexive rows i

  abbrev first_three : Bool
  first_three = first_two && antisymmetric rows i

  abbrev first_four : Bool
  first_four = first_three && transitive rows i

  abbrev first_five : Bool
  first_five = first_four && least_full rows i

  five_fail : first_five ≡ false → false ≡ label_kept rows i
  unfolding label_kept
  five_fail h = sym (and_false first_five (joined rows i) h)

  four_fail : first_four ≡ false → false ≡ label_kept rows i
  four_fail h = five_fail (and_false first_four (least_full rows i) h)

  three_fail : first_three ≡ false → false ≡ label_kept rows i
  three_fail h = four_fail (and_false first_three (transitive rows i) h)

  two_fail : first_two ≡ false → false ≡ label_kept rows i
  two_fail h = three_fail (and_false first_two (antisymmetric rows i) h)

  pub not_inside : {a : Bool} → a ≡ row_inside rows i → not a ≡ true → false ≡ label_kept rows i
  not_inside {a} e h = two_fail (and_false (row_inside rows i) (reflexive rows i) (sym e ∙ not_true a h))

  pub not_reflexive : {a : Bool} → a ≡ flows_to rows i i → not a ≡ true → false ≡ label_kept rows i
  unfolding reflexive
  not_reflexive {a} e h = two_fail (and_false_second (row_inside rows i) (reflexive rows i) (sym e ∙ not_true a h))

  pub not_antisymmetric : {a : Bool} → a ≡ antisymmetric rows i → not a ≡ true → false ≡ label_kept rows i
  not_antisymmetric {a} e h = three_fail (and_false_second first_two (antisymmetric rows i) (sym e ∙ not_true a h))

  pub not_transitive : {a : Bool} → a ≡ transitive rows i → not a ≡ true → false ≡ label_kept rows i
  not_transitive {a} e h = four_fail (and_false_second first_three (transitive rows i) (sym e ∙ not_true a h))

  pub not_full : {a : Bool} → a ≡ least_full rows i → not a ≡ true → false ≡ label_kept rows i
  not_full {a} e h = five_fail (and_false_second first_four (least_full rows i) (sym e ∙ not_true a h))

  -- the last rule, where the others hold
  pub label_rule : {a b c e f g : Bool} → a ≡ row_inside rows i → not a ≡ false → b ≡ flows_to rows i i → not b ≡ false
      → c ≡ antisymmetric rows i → not c ≡ false → e ≡ transitive rows i → not e ≡ false → f ≡ least_full rows i → not f ≡ false
      → g ≡ joined rows i → g ≡ label_kept rows i
  unfolding label_kept reflexive
  label_rule {a} {b} {c} {e} {f} p ha q hb r hc s he t hf u =
      rw (← p, not_false a ha, ← q, not_false b hb, ← r, not_false c hc, ← s, not_false e he, ← t, not_false f hf, u)

-- the laws of a label's rules, for `search`
pub ruleset label_laws = (not_inside, not_reflexive, not_antisymmetric, not_transitive, not_full, label_rule)
