-- The rule of the marks is exact for one gate. Trusted inputs have only their values, and a 0 settles a NAND. Where the output is marked untrusted, one other choice of the
-- untrusted values changes it: there are two values and two marks, so the pairs of signals are looked at one by one.
use Prim.Native.Nat.{ℕ, zero, suc, ◌≤◌}
use mathlib.Core.Path.{◌≡◌, refl, sym, ◌∙◌, ap₂}
use mathlib.Core.Logic.{⊎_elim}
use mathlib.Core.Bool.{Bool, true, false, ◌&&◌, ◌||◌, cond}
use native.Mathlib.Omega.{arith}
use lib.Dec.{eqb}
use borrow.Author.Tests.{eqb-true}
use Rattle.model.proofs.Laws.Booleans.{and_first, and_second, or_cases}
use Rattle.gates_model.specs.Signals.{Signal, signal, is_trusted, is_trusted_zero, nand_value, nand, IsSound, MayHave, Unaffected, MarksExact}

-- ---- marked trusted: unaffected
marked : (c : Bool) → ◌≡◌ {A = ℕ} (cond c 0 1) 0 → c ≡ true
marked true e = refl
marked false e = absurd (omega arith)

zero_settles : (c : Bool) → ◌≡◌ {A = ℕ} (cond (c && false) 0 1) 1
zero_settles true = refl
zero_settles false = refl

-- values that the trusted inputs have
module _ (a b : Signal) (x y : ℕ) (p : a.mark ≡ 0 → x ≡ a.value) (q : b.mark ≡ 0 → y ≡ b.value) where
  both_trusted : (is_trusted a && is_trusted b) ≡ true → nand_value x y ≡ nand_value a.value b.value
  both_trusted e =
      ap₂
      nand_value
      (p (eqb-true a.mark 0 (and_first (is_trusted a) (is_trusted b) e)))
      (q (eqb-true b.mark 0 (and_second (is_trusted a) (is_trusted b) e)))

  first_zero : is_trusted_zero a ≡ true → nand_value x y ≡ nand_value a.value b.value
  first_zero e =
      let value : a.value ≡ 0 = eqb-true a.value 0 (and_second (is_trusted a) (eqb a.value 0) e) in
      let same = p (eqb-true a.mark 0 (and_first (is_trusted a) (eqb a.value 0) e)) in
      rw (same, value)

  second_zero : is_trusted_zero b ≡ true → nand_value x y ≡ nand_value a.value b.value
  second_zero e =
      let value : b.value ≡ 0 = eqb-true b.value 0 (and_second (is_trusted b) (eqb b.value 0) e) in
      let same = q (eqb-true b.mark 0 (and_first (is_trusted b) (eqb b.value 0) e)) in
      rw (same, value) (zero_settles (eqb x 1) ∙ sym (zero_settles (eqb a.value 1)))

  pub trusted_output : (nand a b).mark ≡ 0 → nand_value x y ≡ nand_value a.value b.value
  unfolding nand
  trusted_output e =
      ⊎_elim
      (λ (h : ((is_trusted a && is_trusted b) || is_trusted_zero a) ≡ true).
      ⊎_elim
      (λ (k : (is_trusted a && is_trusted b) ≡ true). both_trusted k)
      (λ (k : is_trusted_zero a ≡ true). first_zero k)
      (or_cases (is_trusted a && is_trusted b) (is_trusted_zero a) h))
      (λ (h : is_trusted_zero b ≡ true). second_zero h)
      (or_cases ((is_trusted a && is_trusted b) || is_trusted_zero a) (is_trusted_zero b) (marked ((is_trusted a && is_trusted b) || is_trusted_zero a || is_trusted_zero b) e))

-- ---- unaffected: marked trusted
by_bit : (P : ℕ → Type 0) → P 0 → P 1 → (b : ℕ) → b ≤ 1 → P b
by_bit P p q zero l = p
by_bit P p q (suc zero) l = q
by_bit P p q (suc (suc b)) l = absurd (omega arith)

-- a trusted 0, a trusted 1, an untrusted 0, an untrusted 1
by_signal : (P : Signal → Type 0) → P (signal 0 0) → P (signal 1 0) → P (signal 0 1) → P (signal 1 1) → (s : Signal) → IsSound s → P s
by_signal P p q r t s h =
    by_bit
    (λ m. P (signal s.value m))
    (by_bit (λ v. P (signal v 0)) p q s.value h.value)
    (by_bit (λ v. P (signal v 1)) r t s.value h.value)
    s.mark
    h.mark

-- its own value, and either value of an untrusted one
own : (v m : ℕ) → v ≤ 1 → MayHave (signal v m) v
own v m l = record { bit = l; trusted = λ e. refl }

any : (v w : ℕ) → w ≤ 1 → MayHave (signal v 1) w
any v w l = record { bit = l; trusted = λ e. absurd (omega arith) }

abbrev Settles : Signal → Signal → Type 0
Settles a b = Unaffected a b → (nand a b).mark ≡ 0

unaffected_trusted : (a b : Signal) → IsSound a → IsSound b → Unaffected a b → (nand a b).mark ≡ 0
unfolding nand
unaffected_trusted a b sound-a sound-b =
    by_signal
    (λ s. Settles s b)
    (by_signal (Settles (signal 0 0)) (λ u. refl) (λ u. refl) (λ u. refl) (λ u. refl) b sound-b)
    (by_signal
    (Settles (signal 1 0))
    (λ u. refl)
    (λ u. refl)
    (λ u. absurd (let other = u 1 1 (own 1 0 (omega arith)) (any 0 1 (omega arith)) in omega arith))
    (λ u. absurd (let other = u 1 0 (own 1 0 (omega arith)) (any 1 0 (omega arith)) in omega arith))
    b
    sound-b)
    (by_signal
    (Settles (signal 0 1))
    (λ u. refl)
    (λ u. absurd (let other = u 1 1 (any 0 1 (omega arith)) (own 1 0 (omega arith)) in omega arith))
    (λ u. absurd (let other = u 1 1 (any 0 1 (omega arith)) (any 0 1 (omega arith)) in omega arith))
    (λ u. absurd (let other = u 1 1 (any 0 1 (omega arith)) (any 1 1 (omega arith)) in omega arith))
    b
    sound-b)
    (by_signal
    (Settles (signal 1 1))
    (λ u. refl)
    (λ u. absurd (let other = u 0 1 (any 1 0 (omega arith)) (own 1 0 (omega arith)) in omega arith))
    (λ u. absurd (let other = u 1 1 (any 1 1 (omega arith)) (any 0 1 (omega arith)) in omega arith))
    (λ u. absurd (let other = u 0 0 (any 1 0 (omega arith)) (any 1 0 (omega arith)) in omega arith))
    b
    sound-b)
    a
    sound-a

pub marks_exact : MarksExact
marks_exact a b sound-a sound-b = (λ e x y p q. trusted_output a b x y p.trusted q.trusted e, unaffected_trusted a b sound-a sound-b)
