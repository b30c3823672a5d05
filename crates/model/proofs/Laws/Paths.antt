-- States along the current targets (02, E8): a state is one exactly where it is the root, or its parent is one whose target it is.
use Prim.Native.Nat.{ℕ, zero, suc, ◌<◌}
use mathlib.Core.Path.{◌≡◌, refl}
use mathlib.Core.Logic.{◌↔◌, ◌⊎◌, inl, inr, ◌≢◌}
use mathlib.Core.Bool.{true, false, ◌&&◌, ◌||◌}
use mathlib.Core.List.{List}
use native.Mathlib.Omega.{arith}
use native.Mathlib.Decide.{ℕ_discrete}
use lib.Dec.{eqb}
use lib.ListN.{length, get_or}
use borrow.Author.Tests.{eqb-true, eq-eqb}
use Rattle.model.specs.Image.{Design}
use Rattle.model.specs.States.{parent}
use Rattle.model.specs.Bindings.{on_path}
use Rattle.model.specs.Rules.{StateKeeps}
use Rattle.model.specs.Refusals.{OnPath, root, target}
use Rattle.model.proofs.Laws.Booleans.{and_first, and_second, and_both, or_cases, or_second}
use Rattle.model.proofs.Laws.Indices.{recursively_step, only_below, only_below_at, nothing_below_zero}
use Rattle.model.proofs.Laws.States.{ChildOf}

module _ (d : Design) (targets : List ℕ) where
  path_step : (s : ℕ) → on_path d targets s ≡ (eqb s 0 || (only_below false s (on_path d targets) (parent d s) && eqb (get_or targets (parent d s) 0) s))
  unfolding on_path
  path_step s = recursively_step false (λ q above. eqb q 0 || (above (parent d q) && eqb (get_or targets (parent d q) 0) q)) s

  pub path_root : on_path d targets 0 ≡ true
  path_root = path_step 0

  pub path_child : (s q : ℕ) → ChildOf d s q → s < q → on_path d targets s ≡ true → get_or targets s 0 ≡ q → on_path d targets q ≡ true
  path_child s q child l h e =
      let above : only_below false q (on_path d targets) (parent d q) ≡ true = rw (child.parent_is, only_below_at false q s (on_path d targets) l) h in
      rw (path_step q) (or_second (eqb q 0) _ (and_both (only_below false q (on_path d targets) (parent d q)) _ above (eq-eqb (get_or targets (parent d q) 0) q (rw child.parent_is e))))

  pub path_above : (q : ℕ) → q ≢ 0 → parent d q < q → on_path d targets q ≡ true → (on_path d targets (parent d q) ≡ true) × (get_or targets (parent d q) 0 ≡ q)
  path_above q no_root l h = go (or_cases (eqb q 0) _ (rw (path_step q) at h))
    where
      go : (eqb q 0 ≡ true) ⊎ ((only_below false q (on_path d targets) (parent d q) && eqb (get_or targets (parent d q) 0) q) ≡ true) → (on_path d targets (parent d q) ≡ true) × (get_or targets (parent d q) 0 ≡ q)
      go (inl e) = absurd (no_root (eqb-true q 0 e))
      go (inr both) = (
        rw (only_below_at false q (parent d q) (on_path d targets) l) at (and_first (only_below false q (on_path d targets) (parent d q)) (eqb (get_or targets (parent d q) 0) q) both),
        eqb-true (get_or targets (parent d q) 0) q (and_second (only_below false q (on_path d targets) (parent d q)) (eqb (get_or targets (parent d q) 0) q) both),
      )

  -- the same as a proposition
  module _ (states : (q : ℕ) → q < length d.states → StateKeeps d q) where
    path_made : (n s : ℕ) → s < n → s < length d.states → on_path d targets s ≡ true → OnPath d targets s
    path_made zero s l state e = absurd (nothing_below_zero l)
    path_made (suc n) s l state e = go (ℕ_discrete s 0) (path_made n)
      where
        go : Dec (s ≡ 0) → ((s : ℕ) → s < n → s < length d.states → on_path d targets s ≡ true → OnPath d targets s) → OnPath d targets s
        go (yes zero_is) earlier = rw zero_is root
        go (no no_root) earlier =
            let low = (states s state).parent_below no_root in
            let above = path_above s no_root low e in
            target (earlier (parent d s) (omega arith) (omega arith) above.0) (record { no_root = no_root; state = state; parent_is = refl }) above.1

    path_true : {s : ℕ} → OnPath d targets s → on_path d targets s ≡ true
    path_true root = path_root
    path_true (target {s} {q} path child e) =
        let low = (states q child.state).parent_below child.no_root in
        path_child s q (record { no_root = child.no_root; state = child.state; parent_is = child.parent_is }) (rw child.parent_is at low) (path_true path) e

    pub on_path_iff : (s : ℕ) → s < length d.states → (on_path d targets s ≡ true) ↔ OnPath d targets s
    on_path_iff s l = (path_made (suc s) s (omega arith) l, path_true)
