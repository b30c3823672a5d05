-- Laws of scopes (02, E8): a state has its parent's parameters in scope and behind them its own, whose numbers tell the state and the place in its record.
use Prim.Native.Nat.{ℕ, zero, suc, ◌+◌, ◌-◌, ◌*◌, ◌/◌, ◌%◌, ◌≤◌, ◌<◌}
use mathlib.Core.Path.{◌≡◌, refl, sym, ◌∙◌, ap}
use mathlib.Core.Logic.{◌↔◌}
use mathlib.Core.Bool.{Bool, true}
use mathlib.Core.List.{List, [], ◌∷◌, ◌++◌}
use native.Mathlib.Omega.{arith}
use lib.ListN.{length, get_or, length-append, get_or-append}
use lib.Dec.{ltb}
use borrow.Author.Tests.{ltb-true}
use Rattle.model.specs.Limits.{binding_length}
use Rattle.model.specs.Indices.{tabulate_from}
use Rattle.model.specs.Image.{Design, state_at}
use Rattle.model.specs.States.{parent}
use Rattle.model.specs.Parameters.{all_of, own_parameters, scope_of}
use Rattle.model.proofs.Laws.Booleans.{and_first, and_second, and_both, false_unless_true}
use Rattle.model.proofs.Laws.Indices.{length-tabulate_from, get_or-tabulate_from, nothing_below_zero, only_below, only_below_at, recursively_step}

module _ {A : Type 0} where
  -- an entry behind those of the first list
  pub get_or-append_second : (xs ys : List A) (i : ℕ) (x : A) → length xs ≤ i → get_or (xs ++ ys) i x ≡ get_or ys (i - length xs) x
  get_or-append_second [] ys i x l = ap (λ (k : ℕ). get_or ys k x) (omega arith)
  get_or-append_second (y ∷ xs) ys zero x l = absurd (omega arith)
  get_or-append_second (y ∷ xs) ys (suc i) x l = get_or-append_second xs ys i x (omega arith) ∙ ap (λ (k : ℕ). get_or ys k x) (omega arith)

-- a test of n numbers, from i on
all_from_iff : (test : ℕ → Bool) (i n : ℕ) → (all_of test (tabulate_from (λ v. v) i n) ≡ true) ↔ ((j : ℕ) → j < n → test (i + j) ≡ true)
unfolding tabulate_from all_of
all_from_iff test i zero = (λ h j l. absurd (nothing_below_zero l), λ h. refl)
all_from_iff test i (suc n) =
    let rest = all_from_iff test (suc i) n in (
      λ h j l. at (and_first (test i) (all_of test (tabulate_from (λ v. v) (suc i) n)) h) (rest.0 (and_second (test i) (all_of test (tabulate_from (λ v. v) (suc i) n)) h)) j l,
      λ h. and_both (test i) (all_of test (tabulate_from (λ v. v) (suc i) n)) (rw (sym (add_zero i)) (h 0 (omega arith))) (rest.1 (λ j l. rw (suc_add i j) (h (suc j) (omega arith)))),
    )
  where
    add_zero : (i : ℕ) → i + 0 ≡ i
    add_zero i = omega arith

    suc_add : (i j : ℕ) → suc i + j ≡ i + suc j
    suc_add i j = omega arith

    at : test i ≡ true → ((j : ℕ) → j < n → test (suc i + j) ≡ true) → (j : ℕ) → j < suc n → test (i + j) ≡ true
    at here rest zero l = rw (add_zero i) here
    at here rest (suc j) l = rw (sym (suc_add i j)) (rest j (omega arith))

module _ (d : Design) where
  -- ---- own parameters
  pub own_length : (s : ℕ) → length (own_parameters d s) ≡ (state_at d s).parameters
  unfolding own_parameters
  own_length s = length-tabulate_from (λ v. v) (binding_length * s) (state_at d s).parameters

  pub own_at : (s j : ℕ) → j < (state_at d s).parameters → get_or (own_parameters d s) j 0 ≡ binding_length * s + j
  unfolding own_parameters
  own_at s j l = get_or-tabulate_from (λ v. v) (binding_length * s) (state_at d s).parameters j 0 l

  -- a test of all of them
  pub all_own_iff : (s : ℕ) (test : ℕ → Bool) → (all_of test (own_parameters d s) ≡ true) ↔ ((j : ℕ) → j < (state_at d s).parameters → test (binding_length * s + j) ≡ true)
  unfolding own_parameters
  all_own_iff s test = all_from_iff test (binding_length * s) (state_at d s).parameters

  -- ---- scopes
  pub scope_root : scope_of d 0 ≡ own_parameters d 0
  unfolding scope_of
  scope_root =
      recursively_step [] (λ q above. above (parent d q) ++ own_parameters d q) 0
      ∙ ap (λ (inherited : List ℕ). inherited ++ own_parameters d 0) (nothing_above (scope_of d) (parent d 0))
    where
      nothing_above : (f : ℕ → List ℕ) (m : ℕ) → only_below [] 0 f m ≡ []
      nothing_above f m = rw (false_unless_true (ltb m 0) (λ e. nothing_below_zero (ltb-true m 0 e)), only_below)

  pub scope_step : (s : ℕ) → parent d s < s → scope_of d s ≡ scope_of d (parent d s) ++ own_parameters d s
  unfolding scope_of
  scope_step s l =
      recursively_step [] (λ q above. above (parent d q) ++ own_parameters d q) s
      ∙ ap (λ (inherited : List ℕ). inherited ++ own_parameters d s) (only_below_at [] s (parent d s) (scope_of d) l)

  -- how many are in scope
  pub scope_length_lem : (s : ℕ) → parent d s < s → length (scope_of d s) ≡ length (scope_of d (parent d s)) + (state_at d s).parameters
  scope_length_lem s l = ap length (scope_step s l) ∙ length-append (scope_of d (parent d s)) (own_parameters d s) ∙ ap (λ (n : ℕ). length (scope_of d (parent d s)) + n) (own_length s)

  -- one of the parent's has the same number in the child
  pub scope_inherited : (s i : ℕ) → parent d s < s → i < length (scope_of d (parent d s)) → get_or (scope_of d s) i 0 ≡ get_or (scope_of d (parent d s)) i 0
  scope_inherited s i l below = ap (λ (scope : List ℕ). get_or scope i 0) (scope_step s l) ∙ get_or-append (scope_of d (parent d s)) (own_parameters d s) 0 i below

  -- an own one stands behind them
  pub scope_own : (s j : ℕ) → parent d s < s → j < (state_at d s).parameters → get_or (scope_of d s) (length (scope_of d (parent d s)) + j) 0 ≡ binding_length * s + j
  scope_own s j l below =
      ap (λ (scope : List ℕ). get_or scope (length (scope_of d (parent d s)) + j) 0) (scope_step s l)
      ∙ get_or-append_second (scope_of d (parent d s)) (own_parameters d s) (length (scope_of d (parent d s)) + j) 0 (omega arith)
      ∙ ap (λ (k : ℕ). get_or (own_parameters d s) k 0) (omega arith)
      ∙ own_at s j below

-- the state that declares parameter j of s, and its place there
pub parameter_state : (s j : ℕ) → j < binding_length → (binding_length * s + j) / binding_length ≡ s
parameter_state s j l = omega arith

pub parameter_place : (s j : ℕ) → j < binding_length → (binding_length * s + j) % binding_length ≡ j
parameter_place s j l = omega arith
