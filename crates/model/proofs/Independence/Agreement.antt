-- Two register areas that agree on what a level sees.
use Prim.Native.Nat.{ℕ, ◌<◌}
use mathlib.Core.Path.{◌≡◌, refl, sym, ◌∙◌}
use mathlib.Core.Logic.{◌≢◌}
use mathlib.Core.Bool.{true, false}
use mathlib.Core.List.{List}
use native.Mathlib.Omega.{arith}
use native.Mathlib.Decide.{dec_lt, ℕ_discrete}
use lib.ListN.{length, get_or, set, length-set}
use lib.Seq.{get_or-set_same, get_or-set_other, set_out}
use Rattle.model.specs.Image.{Design}
use Rattle.model.specs.Parties.{register_seen}
use Rattle.model.proofs.Laws.Booleans.{true_or_false}

-- two register areas agree on what is seen
pub record Agree (d : Design) (level : ℕ) (v₁ v₂ : List ℕ) : Type 0 where
  pub lengths : length v₁ ≡ length v₂
  pub values : (r : ℕ) → register_seen d level r ≡ true → get_or v₁ r 0 ≡ get_or v₂ r 0

module _ (d : Design) (level : ℕ) where
  pub agree_self : (v : List ℕ) → Agree d level v v
  agree_self v = record { lengths = refl; values = λ r s. refl }

  pub agree_sym : {v w : List ℕ} → Agree d level v w → Agree d level w v
  agree_sym a = record { lengths = sym a.lengths; values = λ r s. sym (a.values r s) }

  pub agree_trans : {u v w : List ℕ} → Agree d level u v → Agree d level v w → Agree d level u w
  agree_trans a b = record { lengths = a.lengths ∙ b.lengths; values = λ r s. a.values r s ∙ b.values r s }

  -- a store to a register that is not seen
  pub agree_unseen : (v : List ℕ) (r x : ℕ) → register_seen d level r ≡ false → Agree d level v (set v r x)
  agree_unseen v r x unseen =
      record {
        lengths = sym (length-set v r x);
        values =
            λ k seen.
            let other : k ≢ r = λ e. true_or_false (register_seen d level r) (rw e at seen) unseen in
            sym (get_or-set_other v r k x 0 other);
      }

  -- a store of one value to one register of both
  pub agree_set : {v w : List ℕ} → Agree d level v w → (r x : ℕ) → Agree d level (set v r x) (set w r x)
  agree_set {v} {w} a r x =
      record { lengths = length-set v r x ∙ a.lengths ∙ sym (length-set w r x); values = λ k seen. at k seen (ℕ_discrete k r) (dec_lt r (length v)) }
    where
      at : (k : ℕ) → register_seen d level k ≡ true → Dec (k ≡ r) → Dec (r < length v) → get_or (set v r x) k 0 ≡ get_or (set w r x) k 0
      at k seen (yes e) (yes l) = rw (e, get_or-set_same v r x 0 l, get_or-set_same w r x 0 (rw (← a.lengths) l))
      at k seen (yes e) (no h) = rw (set_out v r x (omega arith), set_out w r x (omega (arith, a.lengths))) (a.values k seen)
      at k seen (no h) l = rw (get_or-set_other v r k x 0 h, get_or-set_other w r k x 0 h) (a.values k seen)
