-- An area of equal bytes, and the call that a kind makes.
use Prim.Native.Nat.{ℕ, zero, suc}
use mathlib.Core.Path.{◌≡◌, refl, sym, ◌∙◌, ap}
use mathlib.Core.List.{List, ◌∷◌}
use lib.ListN.{replicate}
use borrow.Author.Tests.{ne_eqb}
use Rattle.model.specs.Indices.{tabulate_from, tabulate}
use Rattle.model.specs.Calls.{Lent, reset, write_port, run}
use Rattle.design.specs.Resets.{lends}
use Rattle.journal_model.specs.Calls.{LentJournal, run_journalled, step_back}
use Rattle.cases.specs.Leaves.{painted, after_call, after_journal_call}

-- ---- an area that is painted
painted_from : (byte i n : ℕ) → tabulate_from (λ (k : ℕ). byte) i n ≡ replicate n byte
unfolding tabulate_from
painted_from byte i zero = refl
painted_from byte i (suc n) = ap (λ (rest : List ℕ). byte ∷ rest) (painted_from byte (suc i) n)

pub painted_by : (byte n : ℕ) {now : List ℕ} → now ≡ replicate n byte → now ≡ painted byte n
unfolding tabulate
painted_by byte n e = e ∙ sym (painted_from byte 0 n)

-- ---- the call of a kind
module _ (kind a b : ℕ) (image : List ℕ) (lent : Lent) {left : Lent} where
  pub after_reset : kind ≡ 3 → left ≡ (reset image lent).lent → left ≡ after_call kind a b image lent
  unfolding after_call
  after_reset e h = h ∙ sym (rw e)

  pub after_run_lem : (kind ≡ 3 → ⊥) → (kind ≡ 4 → ⊥) → left ≡ (run image lent a).lent → left ≡ after_call kind a b image lent
  unfolding after_call
  after_run_lem n m h = h ∙ sym (rw (ne_eqb kind 3 n, ne_eqb kind 4 m))

pub after_write : (kind a b : ℕ) (image before targets : List ℕ) {registers : List ℕ} → kind ≡ 4 → registers ≡ (write_port image before a b).lent → lends registers targets ≡ after_call kind a b image (lends before targets)
unfolding after_call
after_write kind a b image before targets e h = ap (λ (after : List ℕ). lends after targets) h ∙ sym (rw e)

module _ (kind a : ℕ) (image : List ℕ) (lent : LentJournal) {left : LentJournal} where
  pub after_journalled : kind ≡ 12 → left ≡ (run_journalled image lent a).lent → left ≡ after_journal_call kind a image lent
  unfolding after_journal_call
  after_journalled e h = h ∙ sym (rw e)

  pub after_back_lem : (kind ≡ 12 → ⊥) → left ≡ (step_back image lent a).lent → left ≡ after_journal_call kind a image lent
  unfolding after_journal_call
  after_back_lem n h = h ∙ sym (rw (ne_eqb kind 12 n))
