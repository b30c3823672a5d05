-- A node is charged with a fault of shape exactly where it breaks a rule of shape: the faults of a body are those of the commands that stand in it.
use Prim.Native.Nat.{ℕ}
use mathlib.Core.Path.{◌≡◌, sym, ◌∙◌}
use mathlib.Core.Logic.{◌↔◌, ⊎_elim}
use mathlib.Core.Bool.{Bool, false, not, beq}
use mathlib.Core.List.{List, ◌++◌, Memᴰ}
use lib.ListN.{length}
use Rattle.model.specs.Indices.{join_below}
use Rattle.model.specs.Image.{Design, state_at}
use Rattle.model.specs.States.{has_child, sibling_or_self}
use Rattle.model.specs.Trees.{Cmd, skip, assign, sequence, fall, goto, branch, body_of}
use Rattle.model.specs.Flow.{labels_read}
use Rattle.model.specs.Shape.{transfers, charged_unless, shape_faults, state_shape_faults, shape_fault}
use Rattle.model.specs.Standing.{Stands, whole, in_first, in_second, in_then, in_else, ShapeKeeps}
use Rattle.model.proofs.Laws.Booleans.{not_false, true_not, true_or_false, true_unless_false, beq_same, beq_make}
use Rattle.model.proofs.Laws.Among.{among_join, join_cases, charged_among, charged_cases}
use Rattle.model.proofs.Laws.Broken.{Finds}
use Rattle.model.proofs.Laws.Finds.{finds_listed}
use Rattle.model.proofs.Refused.Standing.{transfers_true, transfers_made, same_transfer, has_child_iff, sibling_iff}

module _ (d : Design) where
  -- the faults of all bodies
  abbrev faults : List ℕ
  faults = join_below (state_shape_faults d) (length d.states)

  module _ (s : ℕ) where
    -- a fault of a command that stands in the body is one of all faults
    stands_among : {context : List ℕ} {c : Cmd} {k : ℕ} → Stands d s context c → Memᴰ k (shape_faults d s c) → Memᴰ k faults
    unfolding shape_faults state_shape_faults
    stands_among (whole l) h = among_join (state_shape_faults d) (length d.states) s l (mathlib.Core.List.Memᴰ.append_right (charged_unless (transfers (body_of d s)) (state_at d s).command) h)
    stands_among (in_first {p} {q} stands) h = stands_among stands (mathlib.Core.List.Memᴰ.append_right (charged_unless (not (transfers p)) _) (mathlib.Core.List.Memᴰ.append_left (shape_faults d s q) h))
    stands_among (in_second {p} {q} stands) h = stands_among stands (mathlib.Core.List.Memᴰ.append_right (charged_unless (not (transfers p)) _) (mathlib.Core.List.Memᴰ.append_right (shape_faults d s p) h))
    stands_among (in_then {p} {q} stands) h = stands_among stands (mathlib.Core.List.Memᴰ.append_right (charged_unless (beq (transfers p) (transfers q)) _) (mathlib.Core.List.Memᴰ.append_left (shape_faults d s q) h))
    stands_among (in_else {p} {q} stands) h = stands_among stands (mathlib.Core.List.Memᴰ.append_right (charged_unless (beq (transfers p) (transfers q)) _) (mathlib.Core.List.Memᴰ.append_right (shape_faults d s p) h))

    -- a fault of a command with two parts: its own, or one of a part
    parts_break :
        (b : Bool) (n k : ℕ) {xs ys : List ℕ}
        → (k ≡ n → b ≡ false → ⊥)
        → (Memᴰ k xs → ⊥)
        → (Memᴰ k ys → ⊥)
        → Memᴰ k (charged_unless b n ++ (xs ++ ys))
        → ⊥
    parts_break b n k {xs} {ys} own first second h =
        ⊎_elim
        (λ (here : Memᴰ k (charged_unless b n)). let charged = charged_cases k b n here in own charged.0 charged.1)
        (λ (parts : Memᴰ k (xs ++ ys)). ⊎_elim first second (mathlib.Core.List.Memᴰ.append_cases xs parts))
        (mathlib.Core.List.Memᴰ.append_cases (charged_unless b n) h)

    -- a fault is one of a command that stands there, and breaks its rule
    fault_breaks : {context : List ℕ} (k : ℕ) (c : Cmd) → ShapeKeeps d k → Stands d s context c → Memᴰ k (shape_faults d s c) → ⊥
    unfolding shape_faults
    fault_breaks k (skip n) kept stands h = mathlib.Core.List.Memᴰ.not-nil h
    fault_breaks k (assign n r e) kept stands h = mathlib.Core.List.Memᴰ.not-nil h
    fault_breaks k (sequence n p q) kept stands h =
        parts_break
        (not (transfers p))
        n
        k
        (λ e f. (rw e at kept).first_part stands (transfers_made p (not_false (transfers p) f)))
        (fault_breaks k p kept (in_first stands))
        (fault_breaks k q kept (in_second stands))
        h
    fault_breaks k (fall n) kept stands h =
        let charged = charged_cases k (has_child d s) n h in
        true_or_false (has_child d s) ((has_child_iff d s).1 ((rw charged.0 at kept).fall_child stands)) charged.1
    fault_breaks k (goto n t x y) kept stands h =
        let charged = charged_cases k (sibling_or_self d s t) n h in
        true_or_false (sibling_or_self d s t) ((sibling_iff d s t).1 ((rw charged.0 at kept).goto_sibling stands)) charged.1
    fault_breaks {context = context} k (branch n e p q) kept stands h =
        parts_break
        (beq (transfers p) (transfers q))
        n
        k
        (λ e f. true_or_false (beq (transfers p) (transfers q)) (beq_make (transfers p) (transfers q) (same_transfer p q ((rw e at kept).branches stands))) f)
        (fault_breaks {context = context ++ labels_read d e} k p kept (in_then stands))
        (fault_breaks {context = context ++ labels_read d e} k q kept (in_else stands))
        h

  pub shape_keeps_iff : (n : ℕ) → (Memᴰ n faults → ⊥) ↔ ShapeKeeps d n
  unfolding shape_faults state_shape_faults
  shape_keeps_iff n = (
    λ none. record {
      body = λ {s} l e. transfers_made (body_of d s) (true_unless_false (transfers (body_of d s)) (λ f. none (among_join (state_shape_faults d) (length d.states) s l (mathlib.Core.List.Memᴰ.append_left {s = charged_unless (transfers (body_of d s)) (state_at d s).command} (shape_faults d s (body_of d s)) (rw (← e) (charged_among (transfers (body_of d s)) (state_at d s).command f))))));
      first_part = λ {s} {context} {p} {q} stands t. none (stands_among s stands (mathlib.Core.List.Memᴰ.append_left (shape_faults d s p ++ shape_faults d s q) (charged_among (not (transfers p)) n (true_not (transfers p) (transfers_true t)))));
      branches = λ {s} {context} {e} {p} {q} stands.
          let same = beq_same (transfers p) (transfers q) (true_unless_false (beq (transfers p) (transfers q)) (λ f. none (stands_among s stands (mathlib.Core.List.Memᴰ.append_left (shape_faults d s p ++ shape_faults d s q) (charged_among (beq (transfers p) (transfers q)) n f))))) in
          (λ t. transfers_made q (sym same ∙ transfers_true t), λ t. transfers_made p (same ∙ transfers_true t));
      fall_child = λ {s} stands. (has_child_iff d s).0 (true_unless_false (has_child d s) (λ f. none (stands_among s stands (charged_among (has_child d s) n f))));
      goto_sibling = λ {s} {t} stands. (sibling_iff d s t).0 (true_unless_false (sibling_or_self d s t) (λ f. none (stands_among s stands (charged_among (sibling_or_self d s t) n f))));
    },
    λ kept h.
        let (s, l, here) = join_cases (state_shape_faults d) n (length d.states) h in
        ⊎_elim
        (λ (own : Memᴰ n (charged_unless (transfers (body_of d s)) (state_at d s).command)).
        let charged = charged_cases n (transfers (body_of d s)) (state_at d s).command own in
        true_or_false (transfers (body_of d s)) (transfers_true (kept.body l (sym charged.0))) charged.1)
        (fault_breaks s n (body_of d s) kept (whole l))
        (mathlib.Core.List.Memᴰ.append_cases (charged_unless (transfers (body_of d s)) (state_at d s).command) here),
  )

  pub shape_finds : Finds (shape_fault d) (ShapeKeeps d)
  unfolding shape_fault
  shape_finds = finds_listed faults shape_keeps_iff
