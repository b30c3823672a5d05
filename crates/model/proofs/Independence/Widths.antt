-- Every register stays within its width: a reset value is (refusal 3), and an assignment stores a value modulo 2 to the power of the width. No width is
-- above 32, so every value is 32 bits and survives being written as bytes and read again.
use Prim.Native.Nat.{ℕ, zero, suc, ◌≤◌, ◌<◌, ◌^◌}
use mathlib.Core.Path.{◌≡◌}
use mathlib.Core.List.{List, [], ◌∷◌}
use native.Mathlib.Omega.{arith}
use native.Mathlib.Nat.{mod-lt, lt_of_lt_of_le}
use native.Mathlib.Decide.{dec_lt}
use lib.Pow.{pow_pos, pow_mono}
use lib.ListN.{length, get_or, set, get_or-map, get_or-eq_default}
use Rattle.model.specs.Limits.{value_count}
use Rattle.model.specs.Image.{Design, Register, no_register, register_at}
use Rattle.model.specs.Trees.{Cmd, skip, assign, sequence, fall, goto, branch}
use Rattle.model.specs.Rules.{StructureKeeps}
use Rattle.model.specs.Values.{modulus, stored}
use Rattle.model.specs.Machine.{eval, exec, reset_areas}
use Rattle.model.proofs.Laws.Commands.{sequence_all, branch_all}

-- every value of a list is within the width of its register; past the last register there is only 0
abbrev pub Fitting : List Register → List ℕ → Type 0
Fitting registers values = (r : ℕ) → get_or values r 0 < modulus registers r

pub fitting_each : (registers : List Register) (values : List ℕ) → length values ≡ length registers
    → ((r : ℕ) → r < length registers → get_or values r 0 < modulus registers r)
    → Fitting registers values
fitting_each registers values size each r = go (dec_lt r (length registers))
  where
    go : Dec (r < length registers) → get_or values r 0 < modulus registers r
    go (yes l) = each r l
    go (no l) = rw (get_or-eq_default values 0 {n = r} (omega arith)) (pow_pos (get_or registers r no_register).width)

-- what holds of each value by its index, and of a new one at its index, holds after the store
set_all : (P : ℕ → ℕ → Type 0) (values : List ℕ) (i v : ℕ) → P i v → ((k : ℕ) → P k (get_or values k 0)) → (k : ℕ) → P k (get_or (set values i v) k 0)
set_all P [] i v p h k = h k
set_all P (x ∷ values) zero v p h zero = p
set_all P (x ∷ values) zero v p h (suc k) = h (suc k)
set_all P (x ∷ values) (suc i) v p h zero = h zero
set_all P (x ∷ values) (suc i) v p h (suc k) = set_all (λ n. P (suc n)) values i v p (λ m. h (suc m)) k

module _ (registers : List Register) where
  pub set_fitting : (values : List ℕ) (i v : ℕ) → v < modulus registers i → Fitting registers values → Fitting registers (set values i v)
  set_fitting values i v l h = set_all (λ r x. x < modulus registers r) values i v l h

  -- ---- commands
  stored_fits : (r v : ℕ) → stored registers r v < modulus registers r
  stored_fits r v = mod-lt v (pow_pos (get_or registers r no_register).width)

  pub exec_fitting : (values : List ℕ) (c : Cmd) → Fitting registers values → Fitting registers (exec registers values c).registers
  unfolding exec
  exec_fitting values (skip n) h = h
  exec_fitting values (assign n r e) h = set_fitting values r _ (stored_fits r (eval values e)) h
  exec_fitting values (sequence n p q) h =
      let after = exec_fitting values p h in
      sequence_all registers (λ x. Fitting registers x.registers) values n p q after (exec_fitting (exec registers values p).registers q after)
  exec_fitting values (fall n) h = h
  exec_fitting values (goto n t x y) h = h
  exec_fitting values (branch n e p q) h =
      branch_all registers (λ x. Fitting registers x.registers) values n e p q (exec_fitting values p h) (exec_fitting values q h)

-- ---- a design that keeps the rules
module _ (d : Design) (keeps : StructureKeeps d) where
  -- what holds of every register's record, and of none, holds at every number
  each_register_lem : (P : Register → Type 0) → P no_register → ((r : ℕ) → r < length d.registers → P (register_at d r)) → (r : ℕ) → P (register_at d r)
  each_register_lem P none each r = go (dec_lt r (length d.registers))
    where
      go : Dec (r < length d.registers) → P (register_at d r)
      go (yes l) = each r l
      go (no l) = rw (get_or-eq_default d.registers no_register {n = r} (omega arith)) none

  pub modulus_most : (r : ℕ) → modulus d.registers r ≤ value_count
  modulus_most = each_register_lem (λ x. 2 ^ x.width ≤ value_count) (omega arith) (λ r l. pow_mono (keeps.registers r l).width_most)

  pub fitting_bounded : (values : List ℕ) → Fitting d.registers values → (r : ℕ) → get_or values r 0 < value_count
  fitting_bounded values h r = lt_of_lt_of_le (h r) (modulus_most r)

  pub reset_fitting : Fitting d.registers (reset_areas d).registers
  unfolding reset_areas
  reset_fitting r =
      rw
      (get_or-map (λ (x : Register). x.reset) d.registers r no_register)
      (each_register_lem (λ x. x.reset < 2 ^ x.width) (omega arith) (λ s l. (keeps.registers s l).reset) r)
