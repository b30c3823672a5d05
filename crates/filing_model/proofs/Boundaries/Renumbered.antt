-- A case of "some renumbering of nodes takes one design to the other": two numberings of one design, with the new number of each node written down.
use Prim.Native.Nat.{ℕ, zero, suc, ◌<◌}
use mathlib.Core.Path.{◌≡◌, refl, sym, ◌∙◌, ap}
use mathlib.Core.Logic.{◌⊎◌, inl, inr, ⊎_elim}
use mathlib.Core.List.Memᴰ
use mathlib.Core.List.{List, [], ◌∷◌, map, Memᴰ}
use native.Mathlib.Omega.{arith}
use lib.ListN.{replicate, get_or}
use Rattle.model.specs.Image.{Design, state_at, command_at, expression_at, design_of}
use Rattle.model.specs.Kinds.{command_kind, expression_kind}
use Rattle.model.specs.States.{parent}
use Rattle.model.specs.Nodes.{parts_of, values_of, operands_of}
use Rattle.model.proofs.Laws.Indices.{extend}
use Rattle.model.proofs.Laws.States.{child_of}
use Rattle.model.proofs.Opened.{checks, accepted, judged}
use Rattle.model.proofs.Designs.{assemble, register_record, state_record, assigns, sequences, falls, goes_to, constant, reads, adds, chain}
use Rattle.renumbering.specs.Renumbering.{renumbered_state, renumbered_command, renumbered_expression}
use Rattle.filing_model.specs.Same.{DifferAtMostInNumbers, NodesRenumbered}
use Rattle.filing_model.proofs.Opened.{filing}

-- State 0 falls. 1: (r0 := 4 + r0; goto 1). Three of its commands go round, and two of its expressions change places.
abbrev one_way : List ℕ
one_way =
    assemble
    chain
    (register_record 0 0 3 ∷ [])
    (state_record 0 0 0 ∷ state_record 0 0 3 ∷ [])
    (falls ∷ assigns 0 2 ∷ goes_to 1 ∷ sequences 1 2 ∷ [])
    (constant 4 ∷ reads 0 ∷ adds 0 1 ∷ [])

abbrev other_way : List ℕ
other_way =
    assemble
    chain
    (register_record 0 0 3 ∷ [])
    (state_record 0 0 1 ∷ state_record 0 0 3 ∷ [])
    (goes_to 1 ∷ falls ∷ assigns 0 2 ∷ sequences 2 0 ∷ [])
    (reads 0 ∷ constant 4 ∷ adds 1 0 ∷ [])

shows_both_accepted : map judged (one_way ∷ other_way ∷ []) ≡ replicate 2 (accepted 0)
shows_both_accepted = unfold checks in refl

shows_both_same : DifferAtMostInNumbers one_way other_way
shows_both_same = unfold filing in refl

-- the new number of each command and of each expression
abbrev command : ℕ → ℕ
command n = get_or (1 ∷ 2 ∷ 0 ∷ 3 ∷ []) n 0

abbrev expression : ℕ → ℕ
expression n = get_or (1 ∷ 0 ∷ 2 ∷ []) n 0

-- and back: the old number of each
abbrev old_command : ℕ → ℕ
old_command m = get_or (2 ∷ 0 ∷ 1 ∷ 3 ∷ []) m 0

abbrev old_expression : ℕ → ℕ
old_expression m = get_or (1 ∷ 0 ∷ 2 ∷ []) m 0

-- ---- what is so of each number below a count, and of each entry of a list
module _ (P : ℕ → Type 0) where
  below_two : P 0 → P 1 → (n : ℕ) → n < 2 → P n
  below_two a b zero l = a
  below_two a b (suc zero) l = b
  below_two a b (suc (suc n)) l = absurd (omega arith)

  below_three : P 0 → P 1 → P 2 → (n : ℕ) → n < 3 → P n
  below_three a b c n l = extend 2 (below_two a b) c n l

  below_four : P 0 → P 1 → P 2 → P 3 → (n : ℕ) → n < 4 → P n
  below_four a b c e n l = extend 3 (below_three a b c) e n l

  of_none : (p : ℕ) → Memᴰ p [] → P p
  of_none p h = absurd (Memᴰ.not-nil h)

  of_one_lem : (x : ℕ) → P x → (p : ℕ) → Memᴰ p (x ∷ []) → P p
  of_one_lem x a p h = rw (Memᴰ.eq_of_singleton h) a

  of_two_lem : (x y : ℕ) → P x → P y → (p : ℕ) → Memᴰ p (x ∷ y ∷ []) → P p
  of_two_lem x y a b p h = ⊎_elim (λ (e : p ≡ x). rw e a) (λ (t : Memᴰ p (y ∷ [])). of_one_lem y b p t) (Memᴰ.cases_cons h)

-- ---- the case: the records are those of the first under the new numbers, and what else is asked of a renumbering is so of each node
abbrev d : Design
d = design_of one_way

abbrev d' : Design
d' = design_of other_way

state_is : (s : ℕ) → s < 2 → state_at d' s ≡ renumbered_state (λ s. s) command expression (state_at d s)
unfolding filing
state_is = below_two (λ s. state_at d' s ≡ renumbered_state (λ s. s) command expression (state_at d s)) refl refl

command_is : (n : ℕ) → n < 4 → command_at d' (command n) ≡ renumbered_command (λ s. s) command expression (command_kind (command_at d n).kind) (command_at d n)
unfolding filing
command_is = below_four (λ n. command_at d' (command n) ≡ renumbered_command (λ s. s) command expression (command_kind (command_at d n).kind) (command_at d n)) refl refl refl refl

expression_is : (n : ℕ) → n < 3 → expression_at d' (expression n) ≡ renumbered_expression (λ s. s) command expression (expression_kind (expression_at d n).kind) (expression_at d n)
unfolding filing
expression_is =
    below_three (λ n. expression_at d' (expression n) ≡ renumbered_expression (λ s. s) command expression (expression_kind (expression_at d n).kind) (expression_at d n)) refl refl refl

parts : (n p : ℕ) → n < 4 → Memᴰ p (parts_of d n) → (p < 4) × (command p < command n)
unfolding filing
parts n p l h =
    below_four
    (λ n. (p : ℕ) → Memᴰ p (parts_of d n) → (p < 4) × (command p < command n))
    (of_none _)
    (of_none _)
    (of_none _)
    (of_two_lem _ 1 2 (omega arith, omega arith) (omega arith, omega arith))
    n
    l
    p
    h

values : (n e : ℕ) → n < 4 → Memᴰ e (values_of d n) → e < 3
unfolding filing
values n e l h = below_four (λ n. (e : ℕ) → Memᴰ e (values_of d n) → e < 3) (of_none _) (of_one_lem _ 2 (omega arith)) (of_none _) (of_none _) n l e h

operands : (n p : ℕ) → n < 3 → Memᴰ p (operands_of d n) → (p < 3) × (expression p < expression n)
unfolding filing
operands n p l h =
    below_three
    (λ n. (p : ℕ) → Memᴰ p (operands_of d n) → (p < 3) × (expression p < expression n))
    (of_none _)
    (of_none _)
    (of_two_lem _ 0 1 (omega arith, omega arith) (omega arith, omega arith))
    n
    l
    p
    h

named : (n : ℕ) → n < 4 → (command_at d n).item < 2
unfolding filing
named = below_four (λ n. (command_at d n).item < 2) (omega arith) (omega arith) (omega arith) (omega arith)

command_used : (n : ℕ) → n < 4 → ((s : ℕ) × (s < 2) × ((state_at d s).command ≡ n)) ⊎ ((m : ℕ) × (m < 4) × Memᴰ n (parts_of d m))
unfolding filing
command_used =
    below_four
    (λ n. ((s : ℕ) × (s < 2) × ((state_at d s).command ≡ n)) ⊎ ((m : ℕ) × (m < 4) × Memᴰ n (parts_of d m)))
    (inl (0, omega arith, refl))
    (inr (3, omega arith, Memᴰ.head refl))
    (inr (3, omega arith, Memᴰ.tail (Memᴰ.head refl)))
    (inl (1, omega arith, refl))

expression_used : (n : ℕ) → n < 3 → ((m : ℕ) × (m < 4) × Memᴰ n (values_of d m)) ⊎ ((m : ℕ) × (m < 3) × Memᴰ n (operands_of d m))
unfolding filing
expression_used =
    below_three
    (λ n. ((m : ℕ) × (m < 4) × Memᴰ n (values_of d m)) ⊎ ((m : ℕ) × (m < 3) × Memᴰ n (operands_of d m)))
    (inr (2, omega arith, Memᴰ.head refl))
    (inr (2, omega arith, Memᴰ.tail (Memᴰ.head refl)))
    (inl (1, omega arith, Memᴰ.head refl))

command_back : (n : ℕ) → n < 4 → old_command (command n) ≡ n
command_back = below_four (λ n. old_command (command n) ≡ n) refl refl refl refl

expression_back : (n : ℕ) → n < 3 → old_expression (expression n) ≡ n
expression_back = below_three (λ n. old_expression (expression n) ≡ n) refl refl refl

shows_renumbered : NodesRenumbered d d'
unfolding filing
shows_renumbered =
    record {
      command = command;
      expression = expression;
      renumbers = record {
        rows = refl;
        registers = refl;
        states_old = λ s l. l;
        states_new = λ s l. l;
        states_all = λ t l. (t, l, refl);
        states_order = λ s t l k below. below;
        states_fewer = omega arith;
        state_is = state_is;
        root_stays = omega arith;
        root_first = refl;
        parent_stays = below_two (λ s. parent d s < 2) (omega arith) (omega arith);
        default_beside = λ s q l other child. (child_of d (parent d s) q child.child).state;
        default_stays = λ s q l falls child. (child_of d s q child.child).state;
        body_stays = below_two (λ s. (state_at d s).command < 4) (omega arith) (omega arith);
        commands_old = λ n l. l;
        commands_new = below_four (λ n. command n < 4) (omega arith) (omega arith) (omega arith) (omega arith);
        commands_all =
            below_four (λ m. (n : ℕ) × (n < 4) × (command n ≡ m)) (2, omega arith, refl) (0, omega arith, refl) (1, omega arith, refl) (3, omega arith, refl);
        commands_apart = λ n m l k e. sym (command_back n l) ∙ ap old_command e ∙ command_back m k;
        commands_fewer = omega arith;
        command_is = command_is;
        parts_stay = λ n p l h. (parts n p l h).0;
        parts_below = λ n p l h. (parts n p l h).1;
        values_stay = values;
        named_stays = λ n l is. named n l;
        command_used = command_used;
        expressions_old = λ n l. l;
        expressions_new = below_three (λ n. expression n < 3) (omega arith) (omega arith) (omega arith);
        expressions_all = below_three (λ m. (n : ℕ) × (n < 3) × (expression n ≡ m)) (1, omega arith, refl) (0, omega arith, refl) (2, omega arith, refl);
        expressions_apart = λ n m l k e. sym (expression_back n l) ∙ ap old_expression e ∙ expression_back m k;
        expressions_fewer = omega arith;
        expression_is = expression_is;
        operands_stay = λ n p l h. (operands n p l h).0;
        operands_below = λ n p l h. (operands n p l h).1;
        expression_used = expression_used;
      };
    }
