-- What a Boolean test says: a conjunction by its parts, an implication, the equality of two tests.
use mathlib.Core.Path.{◌≡◌, refl}
use mathlib.Core.Logic.{◌⊎◌, inl, inr}
use mathlib.Core.Bool.{Bool, true, false, ◌&&◌, ◌||◌, not, cond, beq, false≢true, true≢false}
use Rattle.model.specs.Lattice.{implies}

-- a test is true or false, with the equation
pub decide : (b : Bool) → (b ≡ true) ⊎ (b ≡ false)
decide true = inl refl
decide false = inr refl

pub true_or_false : (b : Bool) → b ≡ true → b ≡ false → ⊥
true_or_false true p q = true≢false q
true_or_false false p q = false≢true p

pub and_first : (a b : Bool) → (a && b) ≡ true → a ≡ true
and_first true b e = refl
and_first false b e = absurd (false≢true e)

pub and_second : (a b : Bool) → (a && b) ≡ true → b ≡ true
and_second true b e = e
and_second false b e = absurd (false≢true e)

pub and_both : (a b : Bool) → a ≡ true → b ≡ true → (a && b) ≡ true
and_both true b p q = q
and_both false b p q = absurd (false≢true p)

pub and_false : (a b : Bool) → a ≡ false → (a && b) ≡ false
and_false true b p = absurd (true≢false p)
and_false false b p = refl

pub or_cases : (a b : Bool) → (a || b) ≡ true → (a ≡ true) ⊎ (b ≡ true)
or_cases true b e = inl refl
or_cases false b e = inr e

pub or_first : (a b : Bool) → a ≡ true → (a || b) ≡ true
or_first true b p = refl
or_first false b p = absurd (false≢true p)

pub or_second : (a b : Bool) → b ≡ true → (a || b) ≡ true
or_second true b q = refl
or_second false b q = q

pub or_neither : (a b : Bool) → a ≡ false → b ≡ false → (a || b) ≡ false
or_neither true b p q = absurd (true≢false p)
or_neither false b p q = q

pub not_true : (a : Bool) → not a ≡ true → a ≡ false
not_true true e = absurd (false≢true e)
not_true false e = refl

pub not_false : (a : Bool) → not a ≡ false → a ≡ true
not_false true e = refl
not_false false e = absurd (true≢false e)

pub false_not : (a : Bool) → a ≡ false → not a ≡ true
false_not true e = absurd (true≢false e)
false_not false e = refl

pub true_not : (a : Bool) → a ≡ true → not a ≡ false
true_not true e = refl
true_not false e = absurd (false≢true e)

pub true_unless_false : (a : Bool) → (a ≡ false → ⊥) → a ≡ true
true_unless_false true h = refl
true_unless_false false h = absurd (h refl)

pub false_unless_true : (a : Bool) → (a ≡ true → ⊥) → a ≡ false
false_unless_true true h = absurd (h refl)
false_unless_true false h = refl

pub implies_apply : (p q : Bool) → implies p q ≡ true → p ≡ true → q ≡ true
implies_apply true q e h = e
implies_apply false q e h = absurd (false≢true h)

pub implies_make : (p q : Bool) → (p ≡ true → q ≡ true) → implies p q ≡ true
implies_make true q f = f refl
implies_make false q f = refl

pub beq_same : (a b : Bool) → beq a b ≡ true → a ≡ b
beq_same true true e = refl
beq_same true false e = absurd (false≢true e)
beq_same false true e = absurd (false≢true e)
beq_same false false e = refl

pub beq_make : (a b : Bool) → a ≡ b → beq a b ≡ true
beq_make true true e = refl
beq_make true false e = absurd (true≢false e)
beq_make false true e = absurd (false≢true e)
beq_make false false e = refl

module _ {A : Type 0} where
  pub cond_true : (b : Bool) (x y : A) → b ≡ true → cond b x y ≡ x
  cond_true true x y p = refl
  cond_true false x y p = absurd (false≢true p)

  pub cond_false : (b : Bool) (x y : A) → b ≡ false → cond b x y ≡ y
  cond_false true x y p = absurd (true≢false p)
  cond_false false x y p = refl
