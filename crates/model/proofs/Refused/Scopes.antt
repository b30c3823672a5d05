-- A node is charged with a fault of scope exactly where it breaks a rule of 19: the faults of a body are those of the commands that stand in it, and of the
-- expressions that these have.
use Prim.Native.Nat.{ℕ, ◌+◌, ◌*◌, ◌<◌}
use mathlib.Core.Path.{◌≡◌}
use mathlib.Core.Logic.Iff
use mathlib.Core.Logic.{◌↔◌, ◌⊎◌, inl, inr, ⊎_elim}
use mathlib.Core.Bool.{true, false}
use mathlib.Core.List.Memᴰ
use mathlib.Core.List.{List, ◌++◌, Memᴰ}
use native.Mathlib.Omega.{arith}
use lib.Dec.{ltb}
use lib.ListN.{length}
use borrow.Author.Tests.{ltb-true, lt-ltb}
use Rattle.model.specs.Limits.{expression_place, binding_length}
use Rattle.model.specs.Indices.{join_below}
use Rattle.model.specs.Image.{Design, state_at}
use Rattle.model.specs.Parameters.{label_byte, label_under}
use Rattle.model.specs.Trees.{Expr, constant, register, binary, Cmd, skip, assign, sequence, fall, goto, branch, body_of}
use Rattle.model.specs.Shape.{charged_unless}
use Rattle.model.specs.Flow.{labels_read}
use Rattle.model.specs.Scopes.{name_kept, is_argument, argument_kept, field_kept, arguments_kept, read_faults, scope_faults, state_scope_faults, scope_fault}
use Rattle.model.specs.Rules.{Within}
use Rattle.model.specs.Standing.{Stands, whole, in_first, in_second, in_then, in_else, Reads, itself, in_left, in_right, NameKeeps, ArgumentKeeps, FieldKeeps, ScopeKeeps}
use Rattle.model.proofs.Laws.Booleans.{decide, true_or_false, true_unless_false}
use Rattle.model.proofs.Laws.Equivalences.{less_iff, at_most_iff, equal_iff, and_iff, or_iff}
use Rattle.model.proofs.Laws.Choices.{within_iff, every_choice_iff}
use Rattle.model.proofs.Laws.Among.{among_join, join_cases, charged_among, charged_cases}
use Rattle.model.proofs.Laws.Broken.{Finds}
use Rattle.model.proofs.Laws.Finds.{finds_listed}

module _ (d : Design) where
  -- ---- what the tests say
  module _ (s : ℕ) where
    pub name_iff : (r : ℕ) → (name_kept d s r ≡ true) ↔ NameKeeps d s r
    unfolding name_kept
    name_iff r = or_iff less_iff less_iff

    pub argument_iff : (v r : ℕ) → (argument_kept d s v r ≡ true) ↔ ArgumentKeeps d s v r
    unfolding argument_kept is_argument
    argument_iff v r =
        Iff.trans
        (and_iff (or_iff less_iff (and_iff at_most_iff less_iff)) (every_choice_iff d s {P = λ choice. Within d v (label_under choice (label_byte d r))} (λ choice. within_iff d)))
        (λ h. record { is = h.0; within = h.1 }, λ k. (k.is, k.within))

    pub field_iff : (t j r : ℕ) → (field_kept d s t j r ≡ true) ↔ FieldKeeps d s t j r
    unfolding field_kept
    field_iff t j r = by (decide (ltb j (state_at d t).parameters))
      where
        by : (ltb j (state_at d t).parameters ≡ true) ⊎ (ltb j (state_at d t).parameters ≡ false) → (field_kept d s t j r ≡ true) ↔ FieldKeeps d s t j r
        by (inl e) =
            let l = ltb-true j (state_at d t).parameters e in (
              λ h. record { used = λ used. (argument_iff (binding_length * t + j) r).0 (rw e at h); unused = λ unused. absurd (omega arith) },
              λ k. rw e ((argument_iff (binding_length * t + j) r).1 (k.used l)),
            )
        by (inr e) =
            let none : j < (state_at d t).parameters → ⊥ = λ l. true_or_false (ltb j (state_at d t).parameters) (lt-ltb j (state_at d t).parameters l) e in (
              λ h. record { used = λ used. absurd (none used); unused = λ unused. equal_iff.0 (rw e at h) },
              λ k. rw e (equal_iff.1 (k.unused (omega (arith, none)))),
            )

    pub arguments_iff : (t a b : ℕ) → (arguments_kept d s t a b ≡ true) ↔ (FieldKeeps d s t 0 a × FieldKeeps d s t 1 b)
    arguments_iff t a b = and_iff (field_iff t 0 a) (field_iff t 1 b)

    -- ---- expressions
    -- an expression is charged at a read of a parameter that is not in scope
    read_among : {e : Expr} {m r : ℕ} → Reads e m r → name_kept d s r ≡ false → Memᴰ (expression_place + m) (read_faults d s e)
    unfolding read_faults
    read_among (itself {m} {r}) f = charged_among (name_kept d s r) (expression_place + m) f
    read_among (in_left {p} {q} reads) f = Memᴰ.append_left (read_faults d s q) (read_among reads f)
    read_among (in_right {p} {q} reads) f = Memᴰ.append_right (read_faults d s p) (read_among reads f)

    read_breaks : (k : ℕ) (e : Expr) → ((m r : ℕ) → Reads e m r → k ≡ expression_place + m → NameKeeps d s r) → Memᴰ k (read_faults d s e) → ⊥
    unfolding read_faults
    read_breaks k (constant v) kept h = Memᴰ.not-nil h
    read_breaks k (register n r) kept h =
        let charged = charged_cases k (name_kept d s r) (expression_place + n) h in
        true_or_false (name_kept d s r) ((name_iff r).1 (kept n r itself charged.0)) charged.1
    read_breaks k (binary o p q) kept h =
        ⊎_elim
        (λ (left : Memᴰ k (read_faults d s p)). read_breaks k p (λ m r reads. kept m r (in_left reads)) left)
        (λ (right : Memᴰ k (read_faults d s q)). read_breaks k q (λ m r reads. kept m r (in_right reads)) right)
        (Memᴰ.append_cases (read_faults d s p) h)

  -- ---- commands
  -- the faults of all bodies
  abbrev faults : List ℕ
  faults = join_below (state_scope_faults d) (length d.states)

  module _ (s : ℕ) where
    -- a fault of a command that stands in the body is one of all faults
    stands_among : {context : List ℕ} {c : Cmd} {k : ℕ} → Stands d s context c → Memᴰ k (scope_faults d s c) → Memᴰ k faults
    unfolding scope_faults state_scope_faults
    stands_among (whole l) h = among_join (state_scope_faults d) (length d.states) s l h
    stands_among (in_first {p} {q} stands) h = stands_among stands (Memᴰ.append_left (scope_faults d s q) h)
    stands_among (in_second {p} {q} stands) h = stands_among stands (Memᴰ.append_right (scope_faults d s p) h)
    stands_among (in_then {e} {p} {q} stands) h = stands_among stands (Memᴰ.append_right (read_faults d s e) (Memᴰ.append_left (scope_faults d s q) h))
    stands_among (in_else {e} {p} {q} stands) h = stands_among stands (Memᴰ.append_right (read_faults d s e) (Memᴰ.append_right (scope_faults d s p) h))

    -- a fault is one of a command that stands there, and breaks its rule
    fault_breaks : {context : List ℕ} (k : ℕ) (c : Cmd) → ScopeKeeps d k → Stands d s context c → Memᴰ k (scope_faults d s c) → ⊥
    unfolding scope_faults
    fault_breaks k (skip n) kept stands h = Memᴰ.not-nil h
    fault_breaks k (assign n r e) kept stands h =
        ⊎_elim
        (λ (here : Memᴰ k (charged_unless (name_kept d s r) n)).
        let charged = charged_cases k (name_kept d s r) n here in
        true_or_false (name_kept d s r) ((name_iff s r).1 ((rw charged.0 at kept).assigned stands)) charged.1)
        (λ (value : Memᴰ k (read_faults d s e)). read_breaks s k e (λ m r reads place. kept.read_value stands reads place) value)
        (Memᴰ.append_cases (charged_unless (name_kept d s r) n) h)
    fault_breaks k (sequence n p q) kept stands h =
        ⊎_elim
        (λ (first : Memᴰ k (scope_faults d s p)). fault_breaks k p kept (in_first stands) first)
        (λ (second : Memᴰ k (scope_faults d s q)). fault_breaks k q kept (in_second stands) second)
        (Memᴰ.append_cases (scope_faults d s p) h)
    fault_breaks k (fall n) kept stands h = Memᴰ.not-nil h
    fault_breaks k (goto n t a b) kept stands h =
        let charged = charged_cases k (arguments_kept d s t a b) n h in
        let here = rw charged.0 at kept in
        true_or_false (arguments_kept d s t a b) ((arguments_iff s t a b).1 (here.first_argument stands, here.second_argument stands)) charged.1
    fault_breaks {context = context} k (branch n e p q) kept stands h =
        ⊎_elim
        (λ (condition : Memᴰ k (read_faults d s e)). read_breaks s k e (λ m r reads place. kept.read_condition stands reads place) condition)
        (λ (parts : Memᴰ k (scope_faults d s p ++ scope_faults d s q)).
        ⊎_elim
        (λ (first : Memᴰ k (scope_faults d s p)). fault_breaks {context = context ++ labels_read d e} k p kept (in_then stands) first)
        (λ (second : Memᴰ k (scope_faults d s q)). fault_breaks {context = context ++ labels_read d e} k q kept (in_else stands) second)
        (Memᴰ.append_cases (scope_faults d s p) parts))
        (Memᴰ.append_cases (read_faults d s e) h)

  pub scope_keeps_iff : (place : ℕ) → (Memᴰ place faults → ⊥) ↔ ScopeKeeps d place
  unfolding scope_faults state_scope_faults
  scope_keeps_iff place = (
    λ none. record {
      assigned = λ {s} {r} {context} {e} stands. (name_iff s r).0 (true_unless_false (name_kept d s r) (λ f. none (stands_among s stands (Memᴰ.append_left (read_faults d s e) (charged_among (name_kept d s r) place f)))));
      first_argument = λ {s} {t} {a} {b} stands. ((arguments_iff s t a b).0 (true_unless_false (arguments_kept d s t a b) (λ f. none (stands_among s stands (charged_among (arguments_kept d s t a b) place f))))).0;
      second_argument = λ {s} {t} {a} {b} stands. ((arguments_iff s t a b).0 (true_unless_false (arguments_kept d s t a b) (λ f. none (stands_among s stands (charged_among (arguments_kept d s t a b) place f))))).1;
      read_value = λ {s} {n} {m} {r} {q} {context} {e} stands reads same.
          (name_iff s r).0 (true_unless_false (name_kept d s r) (λ f. none (rw same (stands_among s stands (Memᴰ.append_right (charged_unless (name_kept d s q) n) (read_among s reads f))))));
      read_condition = λ {s} {n} {m} {r} {context} {e} {p} {q} stands reads same.
          (name_iff s r).0 (true_unless_false (name_kept d s r) (λ f. none (rw same (stands_among s stands (Memᴰ.append_left (scope_faults d s p ++ scope_faults d s q) (read_among s reads f))))));
    },
    λ kept h.
        let (s, l, here) = join_cases (state_scope_faults d) place (length d.states) h in
        fault_breaks s place (body_of d s) kept (whole l) here,
  )

  pub scope_finds : Finds (scope_fault d) (ScopeKeeps d)
  unfolding scope_fault
  scope_finds = finds_listed faults scope_keeps_iff
