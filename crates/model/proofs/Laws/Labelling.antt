-- Other labels change the labels alone: the registers are taken one by one, each with its own entry, and no tree reads a register's record.
use Prim.Native.Nat.{ℕ, zero, suc, ◌<◌}
use mathlib.Core.Path.{◌≡◌, refl, ap}
use mathlib.Core.List.{List, [], ◌∷◌}
use native.Mathlib.Omega.{arith}
use lib.ListN.{length, get_or}
use Rattle.model.specs.Image.{Design, Register, no_register, register_at}
use Rattle.model.specs.Lattice.{register_label}
use Rattle.model.specs.Trees.{expr_step, expr_of, cmd_step, cmd_of, body_of}
use Rattle.model.specs.Labelling.{with_labels, relabelled}
use Rattle.model.proofs.Laws.Indices.{nothing_below_zero}

-- ---- registers with other labels
pub length-with_labels : (rs : List Register) (labels : List ℕ) → length (with_labels rs labels) ≡ length rs
unfolding with_labels
length-with_labels [] labels = refl
length-with_labels (x ∷ rs) [] = refl
length-with_labels (x ∷ rs) (l ∷ labels) = ap suc (length-with_labels rs labels)

label_with_labels : (rs : List Register) (labels : List ℕ) (r : ℕ) → r < length rs → r < length labels → (get_or (with_labels rs labels) r no_register).label ≡ get_or labels r 0
unfolding with_labels
label_with_labels [] labels r b c = absurd (nothing_below_zero b)
label_with_labels (x ∷ rs) [] r b c = absurd (nothing_below_zero c)
label_with_labels (x ∷ rs) (l ∷ labels) zero b c = refl
label_with_labels (x ∷ rs) (l ∷ labels) (suc r) b c = label_with_labels rs labels r (omega arith) (omega arith)

kind_with_labels : (rs : List Register) (labels : List ℕ) (r : ℕ) → (get_or (with_labels rs labels) r no_register).kind ≡ (get_or rs r no_register).kind
unfolding with_labels
kind_with_labels [] labels r = refl
kind_with_labels (x ∷ rs) [] r = refl
kind_with_labels (x ∷ rs) (l ∷ labels) zero = refl
kind_with_labels (x ∷ rs) (l ∷ labels) (suc r) = kind_with_labels rs labels r

reset_with_labels : (rs : List Register) (labels : List ℕ) (r : ℕ) → (get_or (with_labels rs labels) r no_register).reset ≡ (get_or rs r no_register).reset
unfolding with_labels
reset_with_labels [] labels r = refl
reset_with_labels (x ∷ rs) [] r = refl
reset_with_labels (x ∷ rs) (l ∷ labels) zero = refl
reset_with_labels (x ∷ rs) (l ∷ labels) (suc r) = reset_with_labels rs labels r

width_with_labels : (rs : List Register) (labels : List ℕ) (r : ℕ) → (get_or (with_labels rs labels) r no_register).width ≡ (get_or rs r no_register).width
unfolding with_labels
width_with_labels [] labels r = refl
width_with_labels (x ∷ rs) [] r = refl
width_with_labels (x ∷ rs) (l ∷ labels) zero = refl
width_with_labels (x ∷ rs) (l ∷ labels) (suc r) = width_with_labels rs labels r

own_with_labels : (rs : List Register) (labels : List ℕ) → ((r : ℕ) → r < length rs → get_or labels r 0 ≡ (get_or rs r no_register).label) → with_labels rs labels ≡ rs
unfolding with_labels
own_with_labels [] labels own = refl
own_with_labels (x ∷ rs) [] own = refl
own_with_labels (x ∷ rs) (l ∷ labels) own =
    let first : l ≡ x.label = own 0 (omega arith) in
    let more = own_with_labels rs labels (λ r b. own (suc r) (omega arith)) in
    λ i. record { label = first i; kind = x.kind; reset = x.reset; width = x.width } ∷ more i

-- ---- a design with other labels
module _ (d : Design) (labels : List ℕ) where
  pub relabelled_label : (r : ℕ) → r < length d.registers → r < length labels → register_label (relabelled d labels) r ≡ get_or labels r 0
  relabelled_label r b c = label_with_labels d.registers labels r b c

  pub relabelled_kind : (r : ℕ) → (register_at (relabelled d labels) r).kind ≡ (register_at d r).kind
  relabelled_kind r = kind_with_labels d.registers labels r

  pub relabelled_reset : (r : ℕ) → (register_at (relabelled d labels) r).reset ≡ (register_at d r).reset
  relabelled_reset r = reset_with_labels d.registers labels r

  pub relabelled_width : (r : ℕ) → (register_at (relabelled d labels) r).width ≡ (register_at d r).width
  relabelled_width r = width_with_labels d.registers labels r

  -- with its own labels a design is itself
  pub relabelled_own : ((r : ℕ) → r < length d.registers → get_or labels r 0 ≡ register_label d r) → relabelled d labels ≡ d
  relabelled_own own =
      let same = own_with_labels d.registers labels own in
      λ i. record { rows = d.rows; registers = same i; states = d.states; commands = d.commands; expressions = d.expressions }

  -- the trees stay
  pub relabelled_expr : (e : ℕ) → expr_of (relabelled d labels) e ≡ expr_of d e
  unfolding expr_step expr_of
  relabelled_expr e = refl

  pub relabelled_cmd : (n : ℕ) → cmd_of (relabelled d labels) n ≡ cmd_of d n
  unfolding expr_step expr_of cmd_step cmd_of
  relabelled_cmd n = refl

  pub relabelled_body : (s : ℕ) → body_of (relabelled d labels) s ≡ body_of d s
  unfolding expr_step expr_of cmd_step cmd_of body_of
  relabelled_body s = refl
