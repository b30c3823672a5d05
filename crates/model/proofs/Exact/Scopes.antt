-- No node is charged with a fault of scope exactly where every body is scoped: a node is charged where its own rule fails.
use Rattle.std.specs.Prelude.{None}
use Prim.Native.Nat.{ℕ, ◌<◌}
use mathlib.Core.Path.{◌≡◌, refl}
use mathlib.Core.Logic.Iff
use mathlib.Core.Logic.{◌↔◌}
use mathlib.Core.List.{[]}
use lib.ListN.{length}
use Rattle.model.specs.Image.{Design}
use Rattle.model.specs.Trees.{Expr, constant, register, binary, Cmd, skip, assign, sequence, fall, goto, branch, body_of}
use Rattle.model.specs.Scopes.{read_faults, scope_faults, state_scope_faults, scope_fault}
use Rattle.model.specs.Rules.{ReadsScoped, Scoped}
use Rattle.model.proofs.Laws.Found.{append-iff, join_iff, charged_iff, lowest_of_iff}

module _ (d : Design) where
  module _ (s : ℕ) where
    pub reads_scoped_iff : (e : Expr) → (read_faults d s e ≡ []) ↔ ReadsScoped d s e
    unfolding read_faults
    reads_scoped_iff (constant v) = (λ e. tt, λ k. refl)
    reads_scoped_iff (register n r) = charged_iff _ Iff.rfl
    reads_scoped_iff (binary o p q) = append-iff (reads_scoped_iff p) (reads_scoped_iff q)

    pub scoped_iff : (c : Cmd) → (scope_faults d s c ≡ []) ↔ Scoped d s c
    unfolding scope_faults
    scoped_iff (skip n) = (λ e. tt, λ k. refl)
    scoped_iff (assign n r e) = append-iff (charged_iff n Iff.rfl) (reads_scoped_iff e)
    scoped_iff (sequence n p q) = append-iff (scoped_iff p) (scoped_iff q)
    scoped_iff (fall n) = (λ e. tt, λ k. refl)
    scoped_iff (goto n t a b) = charged_iff n Iff.rfl
    scoped_iff (branch n e p q) =
        Iff.trans
        (append-iff (reads_scoped_iff e) (append-iff (scoped_iff p) (scoped_iff q)))
        (λ k. (k.0, k.1.0, k.1.1), λ k. (k.0, (k.1, k.2)))

    state_scope_iff : (state_scope_faults d s ≡ []) ↔ Scoped d s (body_of d s)
    unfolding state_scope_faults
    state_scope_iff = scoped_iff (body_of d s)

  pub scope_iff : (scope_fault d ≡ None) ↔ ((s : ℕ) → s < length d.states → Scoped d s (body_of d s))
  unfolding scope_fault
  scope_iff = Iff.trans lowest_of_iff (join_iff state_scope_iff)
