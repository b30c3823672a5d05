-- Laws of masks: "for each choice" distributes over the parts of a context, so a mask of two contexts together is the `and` of theirs; and the mask of one label byte
-- is decided by bounds, which the rows of the labels tell.
use Prim.Native.Nat.{ℕ, ◌+◌, ◌-◌, ◌/◌, ◌%◌, ◌^◌, ◌≤◌, ◌<◌}
use mathlib.Core.Path.{◌≡◌, refl, sym, ◌∙◌, ap}
use mathlib.Core.Logic.{◌⊎◌, inl, inr}
use mathlib.Core.Bool.{Bool, true, false, ◌&&◌}
use mathlib.Core.List.{List, [], ◌∷◌, ◌++◌, map}
use native.Mathlib.Omega.{arith}
use native.Mathlib.Nat.{lt_of_le_of_lt}
use lib.Bits.{bit_and, and_le_l}
use lib.Pow.{field, mod-mod-pow}
use lib.Dec.{ltb, eqb}
use lib.ListN.{length, get_or}
use borrow.Author.Tests.{lt-ltb, le-ltb, ltb-true}
use Rattle.model.specs.Limits.{registers_max, parameters_max, parameter_register, parameter_label}
use Rattle.model.specs.Indices.{all_below}
use Rattle.model.specs.Image.{Design as Table}
use Rattle.model.specs.Lattice.{flows_to, all_flow_to, register_label}
use Rattle.model.specs.Parameters.{all_of, scope_of, own_parameters, within_bounds, choices, every_choice, label_byte, label_under}
use Rattle.model.specs.Scopes.{name_kept}
use Rattle.model.specs.Flow.{flows_each}
use Rattle.model.specs.Labelling.{relabelled}
use Rattle.model.specs.Rules.{RegisterByte}
use Rattle.model.proofs.Laws.Bits.{bit_and_lem}
use Rattle.model.proofs.Laws.Booleans.{cond_true, cond_false, or_cases}
use Rattle.model.proofs.Laws.Indices.{all_at}
use Rattle.model.proofs.Laws.Labelling.{relabelled_label}
use Rattle.model.proofs.Laws.Bounds.{BoundsKept, flows_each_bounded}
use Rattle.model.specs.Parameters.{bounded_flow}
use Rattle.design.specs.Labels.{LabelsKept}
use Rattle.design.specs.Scopes.{LabelByte}
use Rattle.design.proofs.BoundRules.{byte_of}
use Rattle.checker_flow.specs.Masks.{MaskOf}
use Rattle.checker_flow.specs.Flows.{Named, Entered, label_in}

-- ---- contexts
and_assoc : (a b c : Bool) → (a && (b && c)) ≡ (a && b && c)
and_assoc true b c = refl
and_assoc false b c = refl

and_true : (a : Bool) → a ≡ (a && true)
and_true true = refl
and_true false = refl

and_pairs : (a b c e : Bool) → ((a && b) && (c && e)) ≡ ((a && c) && (b && e))
and_pairs true b true e = refl
and_pairs true true false e = refl
and_pairs true false false e = refl
and_pairs false b c e = refl

module _ {A : Type 0} (f g : A → Bool) where
  all_of_both : (xs : List A) → all_of (λ x. f x && g x) xs ≡ (all_of f xs && all_of g xs)
  unfolding all_of
  all_of_both [] = refl
  all_of_both (x ∷ xs) = ap (λ (b : Bool). (f x && g x) && b) (all_of_both xs) ∙ and_pairs (f x) (g x) (all_of f xs) (all_of g xs)

module _ {A : Type 0} where
  all_of_same : (f g : A → Bool) → ((x : A) → f x ≡ g x) → (xs : List A) → all_of f xs ≡ all_of g xs
  unfolding all_of
  all_of_same f g h [] = refl
  all_of_same f g h (x ∷ xs) = rw (h x, all_of_same f g h xs)

  all_of_none : (xs : List A) → all_of (λ x. true) xs ≡ true
  unfolding all_of
  all_of_none [] = refl
  all_of_none (x ∷ xs) = all_of_none xs

all_flow_both : (rows : List ℕ) (f : ℕ → ℕ) (xs ys : List ℕ) (l : ℕ) → all_flow_to rows (map f (xs ++ ys)) l ≡ (all_flow_to rows (map f xs) l && all_flow_to rows (map f ys) l)
unfolding all_flow_to
all_flow_both rows f [] ys l = refl
all_flow_both rows f (x ∷ xs) ys l =
    ap (λ (b : Bool). flows_to rows (f x) l && b) (all_flow_both rows f xs ys l) ∙ and_assoc (flows_to rows (f x) l) (all_flow_to rows (map f xs) l) (all_flow_to rows (map f ys) l)

module _ (d : Table) (s : ℕ) where
  flows_each_both : (xs ys : List ℕ) (l : ℕ) → flows_each d s (xs ++ ys) l ≡ (flows_each d s xs l && flows_each d s ys l)
  unfolding flows_each every_choice
  flows_each_both xs ys l =
      all_of_same
      (λ choice. all_flow_to d.rows (map (label_under choice) (xs ++ ys)) (label_under choice l))
      (λ choice. all_flow_to d.rows (map (label_under choice) xs) (label_under choice l) && all_flow_to d.rows (map (label_under choice) ys) (label_under choice l))
      (λ choice. all_flow_both d.rows (label_under choice) xs ys (label_under choice l))
      (choices d (scope_of d s))
      ∙ all_of_both
      (λ choice. all_flow_to d.rows (map (label_under choice) xs) (label_under choice l))
      (λ choice. all_flow_to d.rows (map (label_under choice) ys) (label_under choice l))
      (choices d (scope_of d s))

  flows_each_none : (l : ℕ) → flows_each d s [] l ≡ true
  unfolding flows_each every_choice all_flow_to
  flows_each_none l = all_of_none (choices d (scope_of d s))

  -- other labels of registers change no choice
  pub flows_each_relabelled : (labels from : List ℕ) (l : ℕ) → flows_each (relabelled d labels) s from l ≡ flows_each d s from l
  unfolding flows_each every_choice choices within_bounds scope_of own_parameters
  flows_each_relabelled labels from l = refl

-- the mask of two contexts together
pub mask_both : {d : Table} {s : ℕ} {xs ys : List ℕ} {p q : ℕ} → MaskOf d s xs p → MaskOf d s ys q → MaskOf d s (xs ++ ys) (bit_and p q)
mask_both {d} {s} {xs} {ys} {p} {q} a b =
    record {
      small = lt_of_le_of_lt (and_le_l p q) a.small;
      bits = λ l h. bit_and_lem p q l ∙ rw (a.bits l h, b.bits l h) (sym (flows_each_both d s xs ys l));
    }

-- ---- label bytes
pub byte_small : {d : Table} {s l : ℕ} → length d.rows ≤ parameter_label → length (scope_of d s) ≤ parameters_max → LabelByte d s l → l < 18
byte_small {d} {s} {l} few short byte = go byte.is
  where
    go : (l < length d.rows) ⊎ ((parameter_label ≤ l) × (l - parameter_label < length (scope_of d s))) → l < 18
    go (inl h) = omega arith
    go (inr (h, inside)) = omega arith

-- the mask of no context has every bit
pub mask_none : {d : Table} {s : ℕ} → length d.rows ≤ parameter_label → length (scope_of d s) ≤ parameters_max → MaskOf d s [] 262143
unfolding all_below
mask_none {d} {s} few short =
    record {
      small = omega arith;
      bits = λ l h. all_at (λ l. eqb (262143 / 2 ^ l % 2) 1) 18 refl l (byte_small few short h) ∙ sym (flows_each_none d s l);
    }

-- the mask of one label byte, by bounds
pub mask_one : {d : Table} {s x m : ℕ} → BoundsKept d s → LabelByte d s x → m < 262144 → ((l : ℕ) → LabelByte d s l → eqb (m / 2 ^ l % 2) 1 ≡ bounded_flow d s x l) → MaskOf d s (x ∷ []) m
unfolding all_of
mask_one {d} {s} {x} kept byte small h =
    record {
      small = small;
      bits = λ l to. h l to ∙ and_true (bounded_flow d s x l) ∙ sym (flows_each_bounded d s kept (x ∷ []) (byte_of byte, tt) (byte_of to));
    }

-- ---- registers and parameters
-- a byte that a node holds and whose parameter is in scope
pub named_byte : {d : Table} {s r : ℕ} → length d.registers ≤ registers_max → RegisterByte d r → name_kept d s r ≡ true → Named d s r
unfolding name_kept
named_byte {d} {s} {r} few byte kept = record { is = go byte (or_cases (ltb r parameter_register) (ltb (r - parameter_register) (length (scope_of d s))) kept) }
  where
    go : RegisterByte d r → (ltb r parameter_register ≡ true) ⊎ (ltb (r - parameter_register) (length (scope_of d s)) ≡ true) → (r < length d.registers) ⊎ ((parameter_register ≤ r) × (r - parameter_register < length (scope_of d s)))
    go (inl l) h = inl l
    go (inr p) (inl h) = let low = ltb-true r parameter_register h in let high = p.at_least in absurd (omega arith)
    go (inr p) (inr h) = inr (p.at_least, ltb-true (r - parameter_register) (length (scope_of d s)) h)

label_low : (labels : List ℕ) (r : ℕ) → r < parameter_register → label_in labels r ≡ get_or labels r 0
unfolding label_in
label_low labels r l = cond_true (ltb r parameter_register) (get_or labels r 0) (parameter_label + (r - parameter_register)) (lt-ltb r parameter_register l)

label_high : (labels : List ℕ) (r : ℕ) → parameter_register ≤ r → label_in labels r ≡ parameter_label + (r - parameter_register)
unfolding label_in
label_high labels r l = cond_false (ltb r parameter_register) (get_or labels r 0) (parameter_label + (r - parameter_register)) (le-ltb r parameter_register l)

-- what the code reads
pub entered_inside : {labels : List ℕ} {r : ℕ} → Entered labels r → r < 64 → r < length labels
entered_inside entered l = entered.inside l

pub label_of_register : (labels : List ℕ) {r l : ℕ} → r < 64 → l ≡ get_or labels r 0 → l ≡ label_in labels r
label_of_register labels {r} low e = e ∙ sym (label_low labels r low)

pub label_of_parameter : (labels : List ℕ) {r : ℕ} → 64 ≤ r → 16 + (r - 64) ≡ label_in labels r
label_of_parameter labels {r} high = sym (label_high labels r high)

pub mask_of_label : (labels masks : List ℕ) (r : ℕ) {l m : ℕ} → l ≡ label_in labels r → m ≡ get_or masks l 0 → m ≡ get_or masks (label_in labels r) 0
mask_of_label labels masks r e h = h ∙ ap (λ (k : ℕ). get_or masks k 0) e

module _ {d : Table} {labels : List ℕ} (few : length d.registers ≤ registers_max) (labelling : LabelsKept d labels) where
  entry_inside : {r : ℕ} → r < length d.registers → r < length labels
  entry_inside l = let enough = labelling.enough in omega arith

  -- what a node holds has an entry in the table of labels, and in that of masks
  pub byte_entered : {r : ℕ} → RegisterByte d r → Entered labels r
  byte_entered {r} (inl l) = record { inside = λ h. entry_inside l }
  byte_entered {r} (inr p) = let high = p.at_least in record { inside = λ h. absurd (omega arith) }

  pub byte_label_small : {r : ℕ} → length d.rows ≤ parameter_label → RegisterByte d r → label_in labels r < 18
  byte_label_small {r} labels_few (inl l) = let below = labelling.inside r l in let is = label_low labels r (omega arith) in omega arith
  byte_label_small {r} labels_few (inr p) = let high = p.at_least in let below = p.below in let is = label_high labels r high in omega arith

  module _ {s r : ℕ} (named : Named d s r) where
    pub named_entered : Entered labels r
    named_entered = go named.is
      where
        go : (r < length d.registers) ⊎ ((parameter_register ≤ r) × (r - parameter_register < length (scope_of d s))) → Entered labels r
        go (inl l) = record { inside = λ h. entry_inside l }
        go (inr (high, inside)) = record { inside = λ h. absurd (omega arith) }

    -- its entry is its label byte
    pub label_is : label_in labels r ≡ label_byte (relabelled d labels) r
    unfolding label_byte
    label_is = go named.is
      where
        go : (r < length d.registers) ⊎ ((parameter_register ≤ r) × (r - parameter_register < length (scope_of d s))) → label_in labels r ≡ label_byte (relabelled d labels) r
        go (inl l) =
            let low : r < parameter_register = omega arith in
            label_low labels r low
            ∙ sym (relabelled_label d labels r l (entry_inside l))
            ∙ sym (cond_true (ltb r parameter_register) (register_label (relabelled d labels) r) (parameter_label + (r - parameter_register)) (lt-ltb r parameter_register low))
        go (inr (high, inside)) =
            label_high labels r high
            ∙ sym (cond_false (ltb r parameter_register) (register_label (relabelled d labels) r) (parameter_label + (r - parameter_register)) (le-ltb r parameter_register high))

    pub label_byte_lem : LabelByte d s (label_in labels r)
    label_byte_lem = record { is = go named.is }
      where
        go : (r < length d.registers) ⊎ ((parameter_register ≤ r) × (r - parameter_register < length (scope_of d s))) → (label_in labels r < length d.rows) ⊎ ((parameter_label ≤ label_in labels r) × (label_in labels r - parameter_label < length (scope_of d s)))
        go (inl l) = let below = labelling.inside r l in let is = label_low labels r (omega arith) in inl (omega arith)
        go (inr (high, inside)) =
            let is = label_high labels r high in
            let least : 16 ≤ label_in labels r = omega arith in
            let below : label_in labels r - 16 < length (scope_of d s) = omega arith in
            inr (least, below)

-- ---- bits
-- the bits below 16 are those of the rest modulo 2 to the power of 16
pub low_bit : (m l : ℕ) → l < 16 → m / 2 ^ l % 2 ≡ m % 65536 / 2 ^ l % 2
low_bit m l h =
    let sum : 16 ≡ (15 - l) + (1 + l) = omega arith in
    let same : m % 65536 % 2 ^ (1 + l) ≡ m % 2 ^ (1 + l) = ap (λ (k : ℕ). m % 2 ^ k % 2 ^ (1 + l)) sum ∙ mod-mod-pow m (15 - l) (1 + l) in
    sym (field m 1 l) ∙ ap (λ (n : ℕ). n / 2 ^ l) (sym same) ∙ field (m % 65536) 1 l
