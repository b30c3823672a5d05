-- The filed design is the design under the places of its nodes in the new orders: each order has every node once, and its record is written at its place.
use Prim.Native.Nat.{ℕ, ◌<◌}
use mathlib.Core.Path.{◌≡◌, refl, sym, ◌∙◌, ap}
use mathlib.Core.Logic.{◌⊎◌, inl, inr, ⊎_elim}
use mathlib.Core.List.Memᴰ
use mathlib.Core.List.{List, [], ◌∷◌, ◌++◌, map, Memᴰ}
use native.Mathlib.Omega.{arith}
use lib.ListN.{length, get_or, length-map}
use Rattle.model.specs.Indices.{occurrences, join_below}
use Rattle.model.specs.Image.{Design, Node, no_state, no_node, state_at, command_at, expression_at}
use Rattle.model.specs.Kinds.{goes, command_kind}
use Rattle.model.specs.States.{parent}
use Rattle.model.specs.Nodes.{command_uses, expression_uses, parts_of, values_of, operands_of}
use Rattle.model.specs.Rules.{CommandHolds, StructureKeeps}
use Rattle.model.proofs.Laws.Among.{join_cases}
use Rattle.model.proofs.Laws.States.{child_of}
use Rattle.model.proofs.Laws.Indices.{get_or-written}
use Rattle.renumbering.specs.Renumbers.{Renumbers}
use Rattle.renumbering.proofs.Uses.{occurs_in}
use Rattle.renumbering.proofs.Parts.{part_below, value_below, operand_below, parent_exists}
use Rattle.filing_model.specs.Filed.{place_in, new_command, new_expression, state_filed, command_filed, expression_filed, filed}
use Rattle.filing_model.proofs.Places.{place_below, place_entry, places_apart, entry_stands}
use Rattle.filing_model.proofs.Counts.{Enumerates, enumerated, enumerated_long, enumerated_place}
use Rattle.filing_model.proofs.Orders.{commands_enumerated, expressions_enumerated, part_before, operand_before}

-- ---- records written in an order that has each number once
module _ {A : Type 0} (f : ℕ → A) {xs : List ℕ} {count : ℕ} (all : Enumerates xs count) where
  pub written_long : length (map f xs) ≡ count
  written_long = length-map xs f ∙ enumerated_long all

  written_new : (n : ℕ) → n < count → place_in xs n < length (map f xs)
  written_new n l = rw (length-map xs f) (place_below xs n (enumerated all n l))

  written_all : (m : ℕ) → m < length (map f xs) → (n : ℕ) × (n < count) × (place_in xs n ≡ m)
  written_all m l =
      let here : m < length xs = rw (length-map xs f) at l in
      (get_or xs m 0, all.below (get_or xs m 0) (entry_stands xs m here), enumerated_place all m (rw written_long at l))

  written_is : (n : ℕ) (y : A) → n < count → get_or (map f xs) (place_in xs n) y ≡ f n
  written_is n y l =
      let here = enumerated all n l in
      get_or-written f xs (place_in xs n) 0 y (place_below xs n here) ∙ ap f (place_entry xs n here)

  written_apart : (n m : ℕ) → n < count → m < count → place_in xs n ≡ place_in xs m → n ≡ m
  written_apart n m l k e = places_apart xs n m (enumerated all n l) (enumerated all m k) e

-- ---- what is used once is used by someone
used_by :
    (used parts : ℕ → List ℕ) (owners count n : ℕ)
    → occurrences n (join_below used owners ++ join_below parts count) ≡ 1
    → ((o : ℕ) × (o < owners) × Memᴰ n (used o)) ⊎ ((m : ℕ) × (m < count) × Memᴰ n (parts m))
used_by used parts owners count n once =
    ⊎_elim
    (λ (h : Memᴰ n (join_below used owners)). inl (join_cases used n owners h))
    (λ (h : Memᴰ n (join_below parts count)). inr (join_cases parts n count h))
    (Memᴰ.append_cases (join_below used owners) (occurs_in n _ (omega arith)))

module _ (d : Design) (keeps : StructureKeeps d) (some : 0 < length d.states) where
  named_state : (n : ℕ) → n < length d.commands → command_kind (command_at d n).kind ≡ goes → (command_at d n).item < length d.states
  named_state n l e = let holds : CommandHolds d n goes (command_at d n) = rw e at (keeps.commands n l) in holds.0

  command_used : (n : ℕ) → n < length d.commands
      → ((s : ℕ) × (s < length d.states) × ((state_at d s).command ≡ n)) ⊎ ((m : ℕ) × (m < length d.commands) × Memᴰ n (parts_of d m))
  unfolding command_uses
  command_used n l =
      ⊎_elim
      (λ (u : (s : ℕ) × (s < length d.states) × Memᴰ n ((state_at d s).command ∷ [])). inl (u.0, u.1, sym (Memᴰ.eq_of_singleton u.2)))
      (λ (u : (m : ℕ) × (m < length d.commands) × Memᴰ n (parts_of d m)). inr u)
      (used_by (λ s. (state_at d s).command ∷ []) (parts_of d) (length d.states) (length d.commands) n (keeps.commands_used n l))

  expression_used : (n : ℕ) → n < length d.expressions
      → ((m : ℕ) × (m < length d.commands) × Memᴰ n (values_of d m)) ⊎ ((m : ℕ) × (m < length d.expressions) × Memᴰ n (operands_of d m))
  unfolding expression_uses
  expression_used n l = used_by (values_of d) (operands_of d) (length d.commands) (length d.expressions) n (keeps.expressions_used n l)

  pub filed_renumbers : Renumbers d (filed d) (λ s. s) (new_command d) (new_expression d) (λ s. s < length d.states) (λ n. n < length d.commands) (λ n. n < length d.expressions)
  unfolding filed
  filed_renumbers =
      let commands = commands_enumerated d keeps in
      let expressions = expressions_enumerated d keeps in
      let command : ℕ → Node = λ n. command_filed d (command_at d n) in
      let expression : ℕ → Node = λ n. expression_filed d (expression_at d n) in
      let long : length (map (state_filed d) d.states) ≡ length d.states = length-map d.states (state_filed d) in
      record {
        rows = refl;
        registers = refl;
        states_old = λ s l. l;
        states_new = λ s l. rw long l;
        states_all = λ t l. (t, rw long at l, refl);
        states_order = λ s t l k below. below;
        states_fewer = omega arith;
        state_is = λ s l. get_or-written (state_filed d) d.states s no_state no_state l;
        root_stays = some;
        root_first = refl;
        parent_stays = parent_exists d keeps;
        default_beside = λ s q l other child. (child_of d (parent d s) q child.child).state;
        default_stays = λ s q l falls child. (child_of d s q child.child).state;
        body_stays = λ s l. (keeps.states s l).command;
        commands_old = λ n l. l;
        commands_new = written_new command commands;
        commands_all = written_all command commands;
        commands_apart = written_apart command commands;
        commands_fewer = omega (arith, written_long command commands);
        command_is = λ n l. written_is command commands n no_node l;
        parts_stay = λ n p l h. let low = part_below d keeps n p l h in omega arith;
        parts_below = part_before d keeps;
        values_stay = value_below d keeps;
        named_stays = named_state;
        command_used = command_used;
        expressions_old = λ n l. l;
        expressions_new = written_new expression expressions;
        expressions_all = written_all expression expressions;
        expressions_apart = written_apart expression expressions;
        expressions_fewer = omega (arith, written_long expression expressions);
        expression_is = λ n l. written_is expression expressions n no_node l;
        operands_stay = λ n p l h. let low = operand_below d keeps n p l h in omega arith;
        operands_below = operand_before d keeps;
        expression_used = expression_used;
      }

  -- as many records as before
  pub states_as_many : length (filed d).states ≡ length d.states
  unfolding filed
  states_as_many = length-map d.states (state_filed d)

  pub commands_as_many : length (filed d).commands ≡ length d.commands
  unfolding filed
  commands_as_many = written_long (λ n. command_filed d (command_at d n)) (commands_enumerated d keeps)

  pub expressions_as_many : length (filed d).expressions ≡ length d.expressions
  unfolding filed
  expressions_as_many = written_long (λ n. expression_filed d (expression_at d n)) (expressions_enumerated d keeps)
