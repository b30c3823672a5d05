-- A rule of a node, tested by its kind byte on the fields that the accessors read, is the meaning's rule.
use Prim.Native.Nat.{ℕ, ◌+◌, ◌≤◌, ◌<◌}
use mathlib.Core.Path.{◌≡◌, ◌∙◌, ap}
use mathlib.Core.Logic.{◌⊎◌, inl, inr, ⊎_elim}
use mathlib.Core.Bool.{Bool, false, ◌&&◌, ◌||◌}
use mathlib.Core.List.{List}
use native.Mathlib.Omega.{arith}
use lib.Dec.{leb, ltb, eqb}
use Rattle.model.specs.Limits.{parameter_register, binding_length}
use Rattle.model.specs.Image.{Node, design_of, command_at, expression_at}
use Rattle.model.specs.Kinds.{CommandKind, ExpressionKind, command_kind, expression_kind, command_holds, expression_holds, command_kept, expression_kept}
use Rattle.model.proofs.Laws.Kinds.{kind_skips, kind_assigns, kind_sequences, kind_falls, kind_goes, kind_branches, no_command_kind, expression_kinds, kind_constants, kind_reads, kind_operates, no_expression_kind}
use Rattle.design.specs.declared.Design.{Design}
use Rattle.design.specs.Records.{node_in}
use Rattle.design.specs.Describes.{Describes}
use Rattle.design.proofs.Laws.{registers_count, states_count, commands_count, expressions_count, command_in, expression_in}

-- a register byte, among so many registers
abbrev RegisterTest : ℕ → ℕ → Bool
RegisterTest registers r = ltb r registers || (leb parameter_register r && ltb r (parameter_register + binding_length))

-- the fields of node n, read one by one
pub record NodeIs (at : ℕ → Node) (n k i p q r : ℕ) : Type 0 where
  pub kind : k ≡ (at n).kind
  pub item : i ≡ (at n).item
  pub a : p ≡ (at n).a
  pub b : q ≡ (at n).b
  pub c : r ≡ (at n).c

node_is :
    {at : ℕ → Node} {x : Node} {n k i a b c : ℕ}
    → x ≡ at n
    → k ≡ x.kind
    → i ≡ x.item
    → a ≡ x.a
    → b ≡ x.b
    → c ≡ x.c
    → NodeIs at n k i a b c
node_is same k i a b c =
    record {
      kind = k ∙ ap (λ (y : Node). y.kind) same;
      item = i ∙ ap (λ (y : Node). y.item) same;
      a = a ∙ ap (λ (y : Node). y.a) same;
      b = b ∙ ap (λ (y : Node). y.b) same;
      c = c ∙ ap (λ (y : Node). y.c) same;
    }

module _ {image : List ℕ} {x : Design} (d : Describes image x) where
  pub command_fields :
      {n k i a b c : ℕ}
      → n < x.commands
      → k ≡ (node_in image x.commands_at n).kind
      → i ≡ (node_in image x.commands_at n).item
      → a ≡ (node_in image x.commands_at n).a
      → b ≡ (node_in image x.commands_at n).b
      → c ≡ (node_in image x.commands_at n).c
      → NodeIs (command_at (design_of image)) n k i a b c
  command_fields l k i a b c = node_is (command_in d l) k i a b c

  pub expression_fields :
      {n k i a b c : ℕ}
      → n < x.expressions
      → k ≡ (node_in image x.expressions_at n).kind
      → i ≡ (node_in image x.expressions_at n).item
      → a ≡ (node_in image x.expressions_at n).a
      → b ≡ (node_in image x.expressions_at n).b
      → c ≡ (node_in image x.expressions_at n).c
      → NodeIs (expression_at (design_of image)) n k i a b c
  expression_fields l k i a b c = node_is (expression_in d l) k i a b c

  -- ---- commands, by kind
  command_of_lem :
      (n : ℕ) {k : ℕ} {kind : CommandKind}
      → k ≡ (command_at (design_of image) n).kind
      → command_kind k ≡ kind
      → command_holds (design_of image) n kind (command_at (design_of image) n) ≡ command_kept (design_of image) n
  unfolding command_kept
  command_of_lem n same e = rw (← e, same)

  module _ {n k i a b c : ℕ} (f : NodeIs (command_at (design_of image)) n k i a b c) where
    pub command_bare : (k ≡ 0) ⊎ (k ≡ 3) → (eqb i 0 && eqb a 0 && eqb b 0 && eqb c 0) ≡ command_kept (design_of image) n
    unfolding command_holds
    command_bare h =
        ⊎_elim
        (λ (e : k ≡ 0). rw (f.item, f.a, f.b, f.c) (command_of_lem n f.kind (kind_skips e)))
        (λ (e : k ≡ 3). rw (f.item, f.a, f.b, f.c) (command_of_lem n f.kind (kind_falls e)))
        h

    pub command_assign : {g : Bool} → k ≡ 1 → g ≡ RegisterTest x.registers i → (g && ltb a x.expressions && eqb b 0 && eqb c 0) ≡ command_kept (design_of image) n
    unfolding command_holds
    command_assign e g = rw (g, f.item, f.a, f.b, f.c, registers_count d, expressions_count d) (command_of_lem n f.kind (kind_assigns e))

    pub command_sequence : k ≡ 2 → (eqb i 0 && ltb a n && ltb b n && eqb c 0) ≡ command_kept (design_of image) n
    unfolding command_holds
    command_sequence e = rw (f.item, f.a, f.b, f.c) (command_of_lem n f.kind (kind_sequences e))

    pub command_branch : k ≡ 5 → (eqb i 0 && ltb a x.expressions && ltb b n && ltb c n) ≡ command_kept (design_of image) n
    unfolding command_holds
    command_branch e = rw (f.item, f.a, f.b, f.c, expressions_count d) (command_of_lem n f.kind (kind_branches e))

  -- the fields a and b of a goto are not asked
  pub command_goto :
      {n k i c : ℕ}
      → k ≡ 4
      → n < x.commands
      → k ≡ (node_in image x.commands_at n).kind
      → i ≡ (node_in image x.commands_at n).item
      → c ≡ (node_in image x.commands_at n).c
      → (ltb i x.states && eqb c 0) ≡ command_kept (design_of image) n
  unfolding command_holds
  command_goto {n} e l k i c =
      let same = command_in d l in
      rw (i ∙ ap (λ (y : Node). y.item) same, c ∙ ap (λ (y : Node). y.c) same, states_count d) (command_of_lem n (k ∙ ap (λ (y : Node). y.kind) same) (kind_goes e))

  pub command_unknown :
      {n k : ℕ}
      → n < x.commands
      → k ≡ (node_in image x.commands_at n).kind
      → ((k ≡ 0) ⊎ (k ≡ 3) → ⊥)
      → (k ≡ 1 → ⊥)
      → (k ≡ 2 → ⊥)
      → (k ≡ 4 → ⊥)
      → (k ≡ 5 → ⊥)
      → false ≡ command_kept (design_of image) n
  unfolding command_holds
  command_unknown {n} {k} l same zero-three one two four five =
      let zero : k ≡ 0 → ⊥ = λ e. zero-three (inl e) in
      let three : k ≡ 3 → ⊥ = λ e. zero-three (inr e) in
      command_of_lem n (same ∙ ap (λ (y : Node). y.kind) (command_in d l)) (no_command_kind (omega arith))

  -- ---- expressions, by kind
  expression_of :
      (n : ℕ) {k : ℕ} {kind : ExpressionKind}
      → k ≡ (expression_at (design_of image) n).kind
      → expression_kind k ≡ kind
      → expression_holds (design_of image) n kind (expression_at (design_of image) n) ≡ expression_kept (design_of image) n
  unfolding expression_kept
  expression_of n same e = rw (← e, same)

  pub expression_constant :
      {n k i a : ℕ}
      → n < x.expressions
      → k ≡ (node_in image x.expressions_at n).kind
      → i ≡ (node_in image x.expressions_at n).item
      → a ≡ (node_in image x.expressions_at n).a
      → k ≡ 0
      → (eqb i 0 && eqb a 0) ≡ expression_kept (design_of image) n
  unfolding expression_holds
  expression_constant {n} l k i a e =
      let same = expression_in d l in
      rw (i ∙ ap (λ (y : Node). y.item) same, a ∙ ap (λ (y : Node). y.a) same) (expression_of n (k ∙ ap (λ (y : Node). y.kind) same) (kind_constants e))

  pub expression_unknown : {n k : ℕ} → n < x.expressions → k ≡ (node_in image x.expressions_at n).kind → expression_kinds ≤ k → false ≡ expression_kept (design_of image) n
  unfolding expression_holds
  expression_unknown {n} l same h = expression_of n (same ∙ ap (λ (y : Node). y.kind) (expression_in d l)) (no_expression_kind h)

  module _ {n k i a b c : ℕ} (f : NodeIs (expression_at (design_of image)) n k i a b c) where
    pub expression_register : {g : Bool} → k ≡ 1 → g ≡ RegisterTest x.registers i → (g && eqb a 0 && eqb b 0 && eqb c 0) ≡ expression_kept (design_of image) n
    unfolding expression_holds
    expression_register e g = rw (g, f.item, f.a, f.b, f.c, registers_count d) (expression_of n f.kind (kind_reads e))

    pub expression_operation :
        (k ≡ 0 → ⊥) → (k ≡ 1 → ⊥) → k < expression_kinds → (eqb i 0 && ltb a n && ltb b n && eqb c 0) ≡ expression_kept (design_of image) n
    unfolding expression_holds
    expression_operation p q l = let o = kind_operates p q l in rw (f.item, f.a, f.b, f.c) (expression_of n f.kind o.1)

-- the laws of a node's rule, for `search`
pub ruleset command_rules = (command_fields, command_bare, command_assign, command_sequence, command_goto, command_branch, command_unknown)

pub ruleset expression_rules = (expression_fields, expression_constant, expression_register, expression_operation, expression_unknown)

-- the counts of a design, for `search`
pub ruleset counts = (states_count, commands_count, expressions_count)
