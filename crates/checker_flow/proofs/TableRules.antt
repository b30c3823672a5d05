-- What the table of masks of a state holds: the mask of a label is its row and, for each parameter in scope, whether it flows to the lower bound; that of a parameter
-- is its upper bound's, and it flows to itself.
use Prim.Native.Nat.{ℕ, ◌+◌, ◌*◌, ◌-◌, ◌/◌, ◌%◌, ◌^◌, ◌≤◌, ◌<◌}
use mathlib.Core.Path.{◌≡◌, refl, sym, ◌∙◌, ap}
use mathlib.Core.Logic.{◌⊎◌, inl, inr}
use mathlib.Core.Bool.{Bool, true, false, ◌&&◌, ◌||◌}
use mathlib.Core.List.{List, [], ◌∷◌}
use native.Mathlib.Omega.{arith}
use native.Mathlib.Decide.{ℕ_discrete, dec_lt}
use native.Mathlib.Nat.{lt_of_lt_of_le}
use lib.Pow.{pow_mono}
use lib.Dec.{leb, ltb, eqb}
use lib.ListN.{length, get_or, set, length-set}
use lib.Seq.{get_or-set_same, get_or-set_other}
use borrow.Author.Tests.{lt-ltb, le-ltb, leb-true, le-leb, eqb-true, eq-eqb}
use Rattle.model.specs.Limits.{parameters_max, parameter_label}
use Rattle.model.specs.Image.{Labels, Design as Table, design_of}
use Rattle.model.specs.Lattice.{flows_to}
use Rattle.model.specs.Parameters.{scope_of, lower_bound, upper_bound}
use Rattle.model.proofs.Laws.Booleans.{and_first, and_second, and_both, or_second, false_unless_true, cond_true, cond_false}
use Rattle.model.proofs.Laws.Indices.{length-filled, filled_before}
use Rattle.model.proofs.Laws.Bounds.{BoundsKept, least_label_lem, least_parameter, most_label_lem, most_parameter}
use Rattle.model.proofs.Laws.Plain.{plain_scope}
use Rattle.model.specs.Parameters.{bounded_flow, least_label, most_label}
use Rattle.design.specs.declared.Design.{Design}
use Rattle.design.specs.Records.{row_in}
use Rattle.design.specs.Kept.{RecordsKept, ParametersKept}
use Rattle.design.specs.Scopes.{LabelByte, NoParameters}
use Rattle.design.proofs.Laws.{labels_count, labels_most, states_count, row_in_lem}
use Rattle.design.proofs.ResetRules.{Filled, filled_within, filled_to_lem, filled_whole}
use Rattle.design.proofs.BoundRules.{scopes_short, labels_few, bounds_of, pair_in_scope}
use Rattle.checker_flow.specs.Masks.{MaskOf, Masks, Rows, widened, with_rows, with_own, lower_in_scope, upper_in_scope}
use Rattle.checker_flow.proofs.MaskRules.{mask_one, low_bit}

-- ---- bounded flows
or_false : (a b : Bool) → b ≡ false → (a || b) ≡ a
or_false true b e = refl
or_false false b e = e

module _ (d : Table) (s : ℕ) where
  -- to another label byte, or from a label
  bounded_other : (b y : ℕ) → (parameter_label ≤ b → b ≡ y → ⊥) → bounded_flow d s b y ≡ flows_to d.rows (most_label d s b) (least_label d s y)
  unfolding bounded_flow
  bounded_other b y differ =
      or_false
      (flows_to d.rows (most_label d s b) (least_label d s y))
      (leb parameter_label b && eqb b y)
      (false_unless_true
      (leb parameter_label b && eqb b y)
      (λ e. differ (leb-true parameter_label b (and_first (leb parameter_label b) (eqb b y) e)) (eqb-true b y (and_second (leb parameter_label b) (eqb b y) e))))

  -- a parameter to itself
  bounded_itself : (b : ℕ) → parameter_label ≤ b → bounded_flow d s b b ≡ true
  unfolding bounded_flow
  bounded_itself b l =
      or_second (flows_to d.rows (most_label d s b) (least_label d s b)) (leb parameter_label b && eqb b b) (and_both (leb parameter_label b) (eqb b b) (le-leb parameter_label b l) (eq-eqb b b refl))

-- ---- one entry
-- the mask of a label byte whose greatest label is u: below bit 16 it is the row of u
module _ {d : Table} {s : ℕ} (kept : BoundsKept d s) (short : length (scope_of d s) ≤ parameters_max) where
  mask_made :
      {b u m : ℕ}
      → LabelByte d s b
      → most_label d s b ≡ u
      → m < 262144
      → m % 65536 ≡ get_or d.rows u 0
      → (0 < length (scope_of d s) → eqb (m / 65536 % 2) 1 ≡ bounded_flow d s b 16)
      → (1 < length (scope_of d s) → eqb (m / 131072 % 2) 1 ≡ bounded_flow d s b 17)
      → MaskOf d s (b ∷ []) m
  unfolding flows_to
  mask_made {b} {u} {m} byte most small row first second = mask_one kept byte small (λ l to. go l to.is)
    where
      at_parameter : (l : ℕ) → parameter_label ≤ l → l - parameter_label < length (scope_of d s) → Dec (l ≡ 16) → eqb (m / 2 ^ l % 2) 1 ≡ bounded_flow d s b l
      at_parameter l high inside (yes e) = rw e (first (omega arith))
      at_parameter l high inside (no e) = let is : l ≡ 17 = omega (arith, e) in rw is (second (omega (arith, e)))

      go : (l : ℕ) → (l < length d.rows) ⊎ ((parameter_label ≤ l) × (l - parameter_label < length (scope_of d s))) → eqb (m / 2 ^ l % 2) 1 ≡ bounded_flow d s b l
      go l (inl h) =
          let few = kept.few in
          let low : l < 16 = omega arith in
          ap (λ (n : ℕ). eqb n 1) (low_bit m l low ∙ ap (λ (n : ℕ). n / 2 ^ l % 2) row)
          ∙ sym (bounded_other d s b l (λ high e. omega arith) ∙ rw (most, least_label_lem d s l low))
      go l (inr (high, inside)) = at_parameter l high inside (ℕ_discrete l 16)

-- ---- numbers
module _ {x f g m : ℕ} (small : x < 65536) (one : f < 2) (other : g < 2) where
  split_low : m ≡ x + 65536 * f + 131072 * g → m % 65536 ≡ x
  split_low e = omega arith

  split_first : m ≡ x + 65536 * f + 131072 * g → m / 65536 % 2 ≡ f
  split_first e = omega arith

  split_second : m ≡ x + 65536 * f + 131072 * g → m / 131072 % 2 ≡ g
  split_second e = omega arith

  split_small : m ≡ x + 65536 * f + 131072 * g → m < 262144
  split_small e = omega arith

  with_first : {n : ℕ} → m ≡ x + 65536 * f + 131072 * g → n ≡ m % 65536 + 65536 + 131072 * (m / 131072 % 2) → n ≡ x + 65536 * 1 + 131072 * g
  with_first e h = let low = split_low e in let high = split_second e in omega arith

  with_second_lem : {n : ℕ} → m ≡ x + 65536 * f + 131072 * g → n ≡ m % 131072 + 131072 → n ≡ x + 65536 * f + 131072 * 1
  with_second_lem e h = let low = split_low e in let high = split_first e in omega arith

bit_below : (n : ℕ) → n % 2 < 2
bit_below n = omega arith

-- ---- bounds in scope
module _ (d : Table) (s : ℕ) where
  pub lower_some : {i : ℕ} → i < length (scope_of d s) → lower_in_scope d s i ≡ lower_bound d (get_or (scope_of d s) i 0)
  unfolding lower_in_scope
  lower_some {i} l = cond_true (ltb i (length (scope_of d s))) _ _ (lt-ltb i (length (scope_of d s)) l)

  pub lower_none : (i : ℕ) → length (scope_of d s) ≤ i → lower_in_scope d s i ≡ 0
  unfolding lower_in_scope
  lower_none i l = cond_false (ltb i (length (scope_of d s))) _ _ (le-ltb i (length (scope_of d s)) l)

  pub upper_some : {i : ℕ} → i < length (scope_of d s) → upper_in_scope d s i ≡ upper_bound d (get_or (scope_of d s) i 0)
  unfolding upper_in_scope
  upper_some {i} l = cond_true (ltb i (length (scope_of d s))) _ _ (lt-ltb i (length (scope_of d s)) l)

  pub upper_none : (i : ℕ) → length (scope_of d s) ≤ i → upper_in_scope d s i ≡ 0
  unfolding upper_in_scope
  upper_none i l = cond_false (ltb i (length (scope_of d s))) _ _ (le-ltb i (length (scope_of d s)) l)

-- ---- rows
-- the masks of the labels below i are put
pub record RowsSo (d : Table) (first second i : ℕ) (old masks : List ℕ) : Type 0 where
  pub filled : Filled (λ l. widened (get_or d.rows l 0) first second) old i masks

module _ {image : List ℕ} {x : Design} (known : RecordsKept image x) where
  row_small : (l : ℕ) → l < length (design_of image).rows → get_or (design_of image).rows l 0 < 65536
  row_small l h = lt_of_lt_of_le (known.lattice.lattice.inside l h) (pow_mono (labels_few known.describes))

  pub label_some : 0 < length (design_of image).rows
  label_some = let count = labels_count known.describes in omega (arith, count, known.describes.labels, known.describes.directory.sections Labels)

  pub label_small : {l : ℕ} → l < length (design_of image).rows → l < 16
  label_small h = let few = labels_few known.describes in omega arith

  module _ {first second i : ℕ} {old masks : List ℕ} (so : RowsSo (design_of image) first second i old masks) where
    -- one label further
    pub rows_more : {row v : ℕ} → i < x.labels → row ≡ row_in image i → v ≡ widened row first second → length old ≡ 18 → RowsSo (design_of image) first second (i + 1) old (set masks i v)
    rows_more l e h long =
        let most = labels_most known.describes in
        record { filled = filled_within so.filled (omega arith) l (h ∙ ap (λ (row : ℕ). widened row first second) (e ∙ row_in_lem known.describes l)) }

    pub rows_inside : i < x.labels → length old ≡ 18 → i < length masks
    rows_inside l long = let most = labels_most known.describes in let same = so.filled.long in omega arith

    pub rows_all : i ≤ x.labels → x.labels ≤ i → masks ≡ with_rows (design_of image) first second old
    unfolding with_rows
    rows_all l h = let count = labels_count known.describes in filled_whole (filled_to_lem so.filled (omega arith) (omega arith))

  -- ---- bounds
  module _ {s : ℕ} (parameters : ParametersKept (design_of image)) (state : s < x.states) where
    pub lower_label : (i : ℕ) → lower_in_scope (design_of image) s i < length (design_of image).rows
    unfolding lower_in_scope
    lower_label i = go (dec_lt i (length (scope_of (design_of image) s)))
      where
        go : Dec (i < length (scope_of (design_of image) s)) → lower_in_scope (design_of image) s i < length (design_of image).rows
        go (yes l) = rw (lower_some (design_of image) s l) (pair_in_scope known.describes known.lattice known.states parameters state i l).lower_label
        go (no l) = rw (lower_none (design_of image) s i (omega arith)) label_some

    pub upper_label : (i : ℕ) → upper_in_scope (design_of image) s i < length (design_of image).rows
    unfolding upper_in_scope
    upper_label i = go (dec_lt i (length (scope_of (design_of image) s)))
      where
        go : Dec (i < length (scope_of (design_of image) s)) → upper_in_scope (design_of image) s i < length (design_of image).rows
        go (yes l) = rw (upper_some (design_of image) s l) (pair_in_scope known.describes known.lattice known.states parameters state i l).upper_label
        go (no l) = rw (upper_none (design_of image) s i (omega arith)) label_some

  pub lower_small : {b : ℕ} (s i : ℕ) → b ≡ lower_in_scope (design_of image) s i → ParametersKept (design_of image) → s < x.states → b < 16
  lower_small s i e parameters state = label_small (rw e (lower_label parameters state i))

  pub upper_small : {b : ℕ} (s i : ℕ) → b ≡ upper_in_scope (design_of image) s i → ParametersKept (design_of image) → s < x.states → b < 16
  upper_small s i e parameters state = label_small (rw e (upper_label parameters state i))

  -- ---- the rows of the labels
  module _ (first second : ℕ) (old : List ℕ) {masks : List ℕ} (is : masks ≡ with_rows (design_of image) first second old) (long : length old ≡ 18) where
    rows_long : length masks ≡ 18
    unfolding with_rows
    rows_long = ap length is ∙ length-filled (λ l. widened (get_or (design_of image).rows l 0) first second) (length (design_of image).rows) old ∙ long

    rows_entry : (l : ℕ) → l < length (design_of image).rows → get_or masks l 0 ≡ widened (get_or (design_of image).rows l 0) first second
    unfolding with_rows
    rows_entry l h =
        let low = label_small h in
        ap (λ (t : List ℕ). get_or t l 0) is ∙ filled_before (λ l. widened (get_or (design_of image).rows l 0) first second) (length (design_of image).rows) old l h (omega arith)

    pub rows_kept : Rows (design_of image) masks
    rows_kept =
        record {
          long = rows_long;
          small = λ l h. split_small (row_small l h) (bit_below _) (bit_below _) (rows_entry l h);
          row = λ l h. split_low (row_small l h) (bit_below _) (bit_below _) (rows_entry l h);
        }

  -- ---- the table of a state that has parameters in scope
  module _ {s : ℕ} (old : List ℕ) (parameters : ParametersKept (design_of image)) (state : s < x.states) (long : length old ≡ 18) where
    abbrev d : Table
    d = design_of image

    abbrev row : ℕ → ℕ
    row l = get_or d.rows l 0

    abbrev first : ℕ
    first = lower_in_scope d s 0

    abbrev second : ℕ
    second = lower_in_scope d s 1

    abbrev fu : ℕ
    fu = upper_in_scope d s 0

    abbrev su : ℕ
    su = upper_in_scope d s 1

    abbrev masks : List ℕ
    masks = with_rows d first second old

    abbrev own : List ℕ
    own = with_own masks fu su

    masks_long : length masks ≡ 18
    masks_long = rows_long first second old refl long

    entry : (l : ℕ) → l < length d.rows → get_or masks l 0 ≡ widened (row l) first second
    entry = rows_entry first second old refl long

    fu_below : fu < length d.rows
    fu_below = upper_label parameters state 0

    su_below : su < length d.rows
    su_below = upper_label parameters state 1

    below : s < length d.states
    below = let count = states_count known.describes in omega arith

    short : length (scope_of d s) ≤ parameters_max
    short = (scopes_short parameters).short s below

    own_long : length own ≡ length masks
    unfolding with_own
    own_long = length-set (set masks 16 _) 17 _ ∙ length-set masks 16 _

    at_label : (l : ℕ) → l < length d.rows → get_or own l 0 ≡ row l + 65536 * (row l / 2 ^ first % 2) + 131072 * (row l / 2 ^ second % 2)
    unfolding with_own
    at_label l h =
        let low = label_small h in
        get_or-set_other (set masks 16 _) 17 l _ 0 (λ e. omega arith) ∙ get_or-set_other masks 16 l _ 0 (λ e. omega arith) ∙ entry l h

    at_first : get_or own 16 0 ≡ row fu + 65536 * 1 + 131072 * (row fu / 2 ^ second % 2)
    unfolding with_own
    at_first =
        let room = masks_long in
        with_first
        (row_small fu fu_below)
        (bit_below (row fu / 2 ^ first))
        (bit_below (row fu / 2 ^ second))
        (entry fu fu_below)
        (get_or-set_other (set masks 16 _) 17 16 _ 0 (λ e. omega arith) ∙ get_or-set_same masks 16 _ 0 (omega arith))

    at_second : get_or own 17 0 ≡ row su + 65536 * (row su / 2 ^ first % 2) + 131072 * 1
    unfolding with_own
    at_second =
        let room = masks_long in
        let same = length-set masks 16 (get_or masks fu 0 % 65536 + 65536 + 131072 * (get_or masks fu 0 / 131072 % 2)) in
        with_second_lem
        (row_small su su_below)
        (bit_below (row su / 2 ^ first))
        (bit_below (row su / 2 ^ second))
        (entry su su_below)
        (get_or-set_same (set masks 16 _) 17 _ 0 (omega arith))

    pub own_rows : Rows (design_of image) (with_own (with_rows (design_of image) (lower_in_scope (design_of image) s 0) (lower_in_scope (design_of image) s 1) old) (upper_in_scope (design_of image) s 0) (upper_in_scope (design_of image) s 1))
    own_rows =
        record {
          long = let room = masks_long in let same = own_long in omega arith;
          small = λ l h. split_small (row_small l h) (bit_below _) (bit_below _) (at_label l h);
          row = λ l h. split_low (row_small l h) (bit_below _) (bit_below _) (at_label l h);
        }

    -- the flow of a label byte to a parameter in scope
    to_first : (b u : ℕ) → most_label d s b ≡ u → (b ≡ 16 → ⊥) → 0 < length (scope_of d s) → eqb (row u / 2 ^ first % 2) 1 ≡ bounded_flow d s b 16
    unfolding flows_to
    to_first b u most differ inside = sym (bounded_other d s b 16 (λ l. differ) ∙ rw (most, least_parameter d s 16 (omega arith), ← (lower_some d s inside)))

    to_second : (b u : ℕ) → most_label d s b ≡ u → (b ≡ 17 → ⊥) → 1 < length (scope_of d s) → eqb (row u / 2 ^ second % 2) 1 ≡ bounded_flow d s b 17
    unfolding flows_to
    to_second b u most differ inside = sym (bounded_other d s b 17 (λ l. differ) ∙ rw (most, least_parameter d s 17 (omega arith), ← (lower_some d s inside)))

    pub own_masks : Masks (design_of image) s (with_own (with_rows (design_of image) (lower_in_scope (design_of image) s 0) (lower_in_scope (design_of image) s 1) old) (upper_in_scope (design_of image) s 0) (upper_in_scope (design_of image) s 1))
    own_masks =
        record {
          short = short;
          entry = λ l byte. go l byte byte.is;
        }
      where
        kept : BoundsKept d s
        kept = bounds_of known.describes known.lattice known.states parameters state

        first_one : (g n : ℕ) → row fu < 65536 → n ≡ row fu + 65536 * 1 + 131072 * g → g < 2 → eqb (n / 65536 % 2) 1 ≡ true
        first_one g n small e l = eq-eqb (n / 65536 % 2) 1 (split_first {f = 1} small (omega arith) l e)

        second_one : (f n : ℕ) → row su < 65536 → n ≡ row su + 65536 * f + 131072 * 1 → f < 2 → eqb (n / 131072 % 2) 1 ≡ true
        second_one f n small e l = eq-eqb (n / 131072 % 2) 1 (split_second {g = 1} small l (omega arith) e)

        parameter : (l : ℕ) → LabelByte d s l → parameter_label ≤ l → l - parameter_label < length (scope_of d s) → Dec (l ≡ 16) → MaskOf d s (l ∷ []) (get_or own l 0)
        parameter l byte high inside (yes e) =
            let some : 0 < length (scope_of d s) = omega arith in
            let most : most_label d s 16 ≡ fu = most_parameter d s 16 (omega arith) ∙ sym (upper_some d s some) in
            let small = row_small fu fu_below in
            rw e
            (mask_made
            kept
            short
            (rw e at byte)
            most
            (split_small {f = 1} small (omega arith) (bit_below (row fu / 2 ^ second)) at_first)
            (split_low {f = 1} small (omega arith) (bit_below (row fu / 2 ^ second)) at_first)
            (λ h. first_one (row fu / 2 ^ second % 2) (get_or own 16 0) small at_first (bit_below (row fu / 2 ^ second)) ∙ sym (bounded_itself d s 16 (omega arith)))
            (λ h. ap (λ (n : ℕ). eqb n 1) (split_second {f = 1} small (omega arith) (bit_below (row fu / 2 ^ second)) at_first) ∙ to_second 16 fu most (λ z. omega arith) h))
        parameter l byte high inside (no e) =
            let few = short in
            let is : l ≡ 17 = omega (arith, e) in
            let some : 1 < length (scope_of d s) = omega (arith, e) in
            let most : most_label d s 17 ≡ su = most_parameter d s 17 (omega arith) ∙ sym (upper_some d s some) in
            let small = row_small su su_below in
            rw is
            (mask_made
            kept
            short
            (rw is at byte)
            most
            (split_small {g = 1} small (bit_below (row su / 2 ^ first)) (omega arith) at_second)
            (split_low {g = 1} small (bit_below (row su / 2 ^ first)) (omega arith) at_second)
            (λ h. ap (λ (n : ℕ). eqb n 1) (split_first {g = 1} small (bit_below (row su / 2 ^ first)) (omega arith) at_second) ∙ to_first 17 su most (λ z. omega arith) h)
            (λ h. second_one (row su / 2 ^ first % 2) (get_or own 17 0) small at_second (bit_below (row su / 2 ^ first)) ∙ sym (bounded_itself d s 17 (omega arith))))

        go : (l : ℕ) → LabelByte d s l → (l < length d.rows) ⊎ ((parameter_label ≤ l) × (l - parameter_label < length (scope_of d s))) → MaskOf d s (l ∷ []) (get_or own l 0)
        go l byte (inl h) =
            let low = label_small h in
            let small = row_small l h in
            let most = most_label_lem d s l low in
            mask_made
            kept
            short
            byte
            most
            (split_small small (bit_below (row l / 2 ^ first)) (bit_below (row l / 2 ^ second)) (at_label l h))
            (split_low small (bit_below (row l / 2 ^ first)) (bit_below (row l / 2 ^ second)) (at_label l h))
            (λ k. ap (λ (n : ℕ). eqb n 1) (split_first small (bit_below (row l / 2 ^ first)) (bit_below (row l / 2 ^ second)) (at_label l h)) ∙ to_first l l most (λ z. omega arith) k)
            (λ k. ap (λ (n : ℕ). eqb n 1) (split_second small (bit_below (row l / 2 ^ first)) (bit_below (row l / 2 ^ second)) (at_label l h)) ∙ to_second l l most (λ z. omega arith) k)
        go l byte (inr (high, inside)) = parameter l byte high inside (ℕ_discrete l 16)

  -- ---- the table of a state that has none
  pub rows_masks : {s : ℕ} {masks : List ℕ} → Rows (design_of image) masks → ParametersKept (design_of image) → s < x.states → length (scope_of (design_of image) s) ≡ 0 → Masks (design_of image) s masks
  rows_masks {s} {masks} rows parameters state none =
      record { short = omega arith; entry = λ l byte. go l byte byte.is }
    where
      go : (l : ℕ) → LabelByte (design_of image) s l → (l < length (design_of image).rows) ⊎ ((parameter_label ≤ l) × (l - parameter_label < length (scope_of (design_of image) s))) → MaskOf (design_of image) s (l ∷ []) (get_or masks l 0)
      go l byte (inl h) =
          mask_made
          (bounds_of known.describes known.lattice known.states parameters state)
          (omega arith)
          byte
          (most_label_lem (design_of image) s l (label_small h))
          (rows.small l h)
          (rows.row l h)
          (λ k. absurd (omega arith))
          (λ k. absurd (omega arith))
      go l byte (inr (high, inside)) = absurd (omega arith)

  -- in a design without parameters it is that of every state
  pub plain_masks : {s : ℕ} {masks : List ℕ} → Rows (design_of image) masks → ParametersKept (design_of image) → NoParameters (design_of image) → s < x.states → Masks (design_of image) s masks
  plain_masks {s} rows parameters plain state = rows_masks rows parameters state (ap length (plain_scope (design_of image) plain.none s))
