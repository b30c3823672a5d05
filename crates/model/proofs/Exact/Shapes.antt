-- No node is charged with a fault of shape exactly where every body transfers and is shaped: a node is charged where its own rule fails.
use Rattle.std.specs.Prelude.{None}
use Prim.Native.Nat.{ℕ, ◌<◌}
use mathlib.Core.Path.{◌≡◌, refl}
use mathlib.Core.Logic.Iff
use mathlib.Core.Logic.{◌↔◌}
use mathlib.Core.Bool.{Bool, true}
use mathlib.Core.List.{List, [], ◌++◌}
use lib.ListN.{length}
use Rattle.model.specs.Image.{Design}
use Rattle.model.specs.Trees.{Cmd, skip, assign, sequence, fall, goto, branch, body_of}
use Rattle.model.specs.Shape.{transfers, charged_unless, shape_faults, state_shape_faults, shape_fault}
use Rattle.model.specs.Rules.{Shaped}
use Rattle.model.proofs.Laws.Equivalences.{not_iff, same_iff}
use Rattle.model.proofs.Laws.Found.{append-iff, join_iff, charged_iff, lowest_of_iff}

-- a node with two parts: its own rule, and the faults of each part
parts_iff :
    {b : Bool} (n : ℕ) {xs ys : List ℕ} {P Q R : Type 0}
    → ((b ≡ true) ↔ P)
    → ((xs ≡ []) ↔ Q)
    → ((ys ≡ []) ↔ R)
    → (charged_unless b n ++ (xs ++ ys) ≡ []) ↔ (P × Q × R)
parts_iff n f g h =
    Iff.trans
    (append-iff (charged_iff n f) (append-iff g h))
    (λ k. (k.0, k.1.0, k.1.1), λ k. (k.0, (k.1, k.2)))

module _ (d : Design) where
  module _ (s : ℕ) where
    pub shaped_iff : (c : Cmd) → (shape_faults d s c ≡ []) ↔ Shaped d s c
    unfolding shape_faults
    shaped_iff (skip n) = (λ e. tt, λ k. refl)
    shaped_iff (assign n r e) = (λ e. tt, λ k. refl)
    shaped_iff (sequence n p q) = parts_iff n not_iff (shaped_iff p) (shaped_iff q)
    shaped_iff (fall n) = charged_iff n Iff.rfl
    shaped_iff (goto n t x y) = charged_iff n Iff.rfl
    shaped_iff (branch n e p q) = parts_iff n same_iff (shaped_iff p) (shaped_iff q)

    state_shape_iff : (state_shape_faults d s ≡ []) ↔ ((transfers (body_of d s) ≡ true) × Shaped d s (body_of d s))
    unfolding state_shape_faults
    state_shape_iff = append-iff (charged_iff _ Iff.rfl) (shaped_iff (body_of d s))

  pub shape_iff :
      (shape_fault d ≡ None) ↔ ((s : ℕ) → s < length d.states → (transfers (body_of d s) ≡ true) × Shaped d s (body_of d s))
  unfolding shape_fault
  shape_iff = Iff.trans lowest_of_iff (join_iff state_shape_iff)
