-- 02, E3: what it is to round down and toward zero, of integers. The promises about shifts and divisions are stated with these, and no definition is.
use Rattle.std.specs.Prelude.{ℕ, ◌+◌, ◌*◌, ◌≤◌, ◌<◌, ◌≡◌, ◌↔◌, true, ℤ, pos, nat_abs, ◌+ℤ◌, ◌*ℤ◌, ◌≤ℤ◌, ◌<ℤ◌}
use Rattle.std.specs.Int.Signed.{non_neg}

-- q is z divided by m and rounded down: q times m is the last multiple that is not above z
pub record RoundedDown (z : ℤ) (m : ℕ) (q : ℤ) : Type 0 where
  pub not_above : (q *ℤ pos m) ≤ℤ z
  pub next_above : z <ℤ (q *ℤ pos m +ℤ pos m)

-- q is z divided by d and rounded toward zero: rounded down by the magnitudes, and where it is not 0, not negative exactly if the two signs are the same
pub record RoundedTowardZero (z d q : ℤ) : Type 0 where
  pub not_above : nat_abs q * nat_abs d ≤ nat_abs z
  pub next_above : nat_abs z < nat_abs q * nat_abs d + nat_abs d
  pub sign : (q ≡ pos 0 → ⊥) → (non_neg q ≡ true) ↔ (non_neg z ≡ non_neg d)
