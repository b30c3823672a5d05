-- The lowest fault of scope of a command, from the lowest of its parts: the laws that the recursion over parts cites, one for each kind of node.
use Rattle.std.specs.Prelude.{Option, None}
use Prim.Native.Nat.{ℕ, zero, suc, min, ◌+◌, ◌-◌, ◌≤◌, ◌<◌}
use mathlib.Core.Logic.{◌⊎◌, inl, inr, ⊎_elim}
use mathlib.Core.Path.{◌≡◌, refl, ◌∙◌, ap}
use mathlib.Core.Bool.{Bool}
use mathlib.Core.List.{List, ◌++◌}
use native.Mathlib.Omega.{arith}
use native.Mathlib.Numerals.{add-one}
use native.Mathlib.Decide.{dec_lt}
use mir.Syntax.{w64}
use mir.Val.{Fits}
use lib.Dec.{ltb}
use lib.ListN.{length}
use Rattle.model.specs.Limits.{expression_place, expressions_max}
use Rattle.model.specs.Indices.{lowest_of, join_below}
use Rattle.model.specs.Image.{Design as Table, Node, design_of, command_at, expression_at, constant_of}
use Rattle.model.specs.Kinds.{Operation, skips, assigns, sequences, falls, goes, branches, command_kind, expression_kind}
use Rattle.model.specs.Trees.{Expr, constant, register, binary, Cmd, skip, assign, sequence, fall, goto, branch, expr_of, cmd_of, body_of}
use Rattle.model.specs.Shape.{charged_unless}
use Rattle.model.specs.Parameters.{scope_of}
use Rattle.model.specs.Scopes.{name_kept, arguments_kept, read_faults, scope_faults, state_scope_faults, scope_fault}
use Rattle.model.specs.Rules.{CommandHolds}
use Rattle.model.proofs.Laws.Equivalences.{same_tests, less_iff, or_iff}
use Rattle.model.proofs.Laws.Charged.{none, each_append, each_join, Below, lowest_below, charged_below, ReadNumbered, expr_numbered, cmd_numbered, scope_below, state_scope_below}
use Rattle.model.proofs.Laws.Kinds.{expression_kinds, kind_constants, no_expression_kind}
use Rattle.model.proofs.Laws.Trees.{expr_constant, expr_register, expr_binary, cmd_skip, cmd_assign, cmd_sequence, cmd_fall, cmd_goto, cmd_branch}
use Rattle.design.specs.declared.Design.{Design}
use Rattle.design.specs.Describes.{Describes}
use Rattle.design.specs.Records.{node_in, state_in}
use Rattle.design.specs.Kept.{ParametersKept, RecordsKept}
use Rattle.design.specs.Scopes.{Scopes}
use Rattle.design.proofs.Laws.{registers_count, states_count, expressions_count, commands_most, expressions_most, commands_few}
use Rattle.design.proofs.FieldRules.{body_is, body_below, command_at_lem, command_kind_of, item_is, a_is, b_is, c_is, command_holds_lem, assigned_expression, named_state, condition, sequence_a_below, sequence_b_below, branch_b_below, branch_c_below, lower_command, expression_at_lem, expression_kind_is, read_is, first_is, second_is, expression_holds_lem, operation, operand_a_below, operand_b_below, lower_expression}
use Rattle.checker_bodies.specs.Places.{found_among}
use Rattle.checker_bodies.proofs.PlaceRules.{place_found, place_append, place_charged}
use Rattle.checker_scopes.specs.Scoping.{node_places, node_place_of, node_unless, names_past, Arguing, Counting, Reading, Scoping}

-- ---- places of nodes
-- the lowest of expression e, past an end, and of command n of state s
abbrev read_place : Table → ℕ → ℕ → ℕ
read_place d end e = node_place_of (lowest_of (names_past end (expr_of d e)))

abbrev command_place : Table → ℕ → ℕ → ℕ
command_place d s n = node_place_of (lowest_of (scope_faults d s (cmd_of d n)))

-- the lowest of two lists
both_lowest : {p q r : ℕ} (xs ys : List ℕ) → Below node_places xs → Below node_places ys → p ≡ node_place_of (lowest_of xs) → q ≡ node_place_of (lowest_of ys) → r ≡ min p q → r ≡ node_place_of (lowest_of (xs ++ ys))
both_lowest xs ys h k e f g = g ∙ rw (e, f) (place_append xs ys h k)

expressions_few : {image : List ℕ} {x : Design} → Describes image x → length (design_of image).expressions ≤ expressions_max
expressions_few d = let count = expressions_count d in let most = expressions_most d in omega arith

-- ---- names of parameters
-- those in scope have the bytes below the end
pub name_past : (d : Table) (s r : ℕ) → ltb r (64 + length (scope_of d s)) ≡ name_kept d s r
unfolding name_kept
name_past d s r = same_tests (λ h. (or_iff less_iff less_iff).1 (to (less_iff.0 h)), λ h. less_iff.1 (from ((or_iff less_iff less_iff).0 h)))
  where
    to : r < 64 + length (scope_of d s) → (r < 64) ⊎ (r - 64 < length (scope_of d s))
    to l = go (dec_lt r 64)
      where
        go : Dec (r < 64) → (r < 64) ⊎ (r - 64 < length (scope_of d s))
        go (yes a) = inl a
        go (no a) = inr (omega arith)

    from : (r < 64) ⊎ (r - 64 < length (scope_of d s)) → r < 64 + length (scope_of d s)
    from (inl l) = omega arith
    from (inr l) = omega arith

names_read : (d : Table) (s : ℕ) (e : Expr) → names_past (64 + length (scope_of d s)) e ≡ read_faults d s e
unfolding names_past read_faults
names_read d s (constant v) = refl
names_read d s (register n r) = rw (name_past d s r)
names_read d s (binary o p q) = rw (names_read d s p, names_read d s q)

-- ---- expressions
names_below : (d : Table) (end : ℕ) → length d.expressions ≤ expressions_max → (e : Expr) → ReadNumbered d e → Below node_places (names_past end e)
unfolding names_past
names_below d end few (constant v) h = none
names_below d end few (register n r) h = charged_below (ltb r end) (expression_place + n) (omega arith)
names_below d end few (binary o p q) h = each_append (names_below d end few p h.0) (names_below d end few q h.1)

names_constant : (end v : ℕ) → lowest_of (names_past end (constant v)) ≡ None
unfolding names_past lowest_of
names_constant end v = refl

names_register : (end n r : ℕ) → names_past end (register n r) ≡ charged_unless (ltb r end) (1024 + n)
unfolding names_past
names_register end n r = refl

names_binary : (end : ℕ) (o : Operation) (p q : Expr) → names_past end (binary o p q) ≡ names_past end p ++ names_past end q
unfolding names_past
names_binary end o p q = refl

module _ {image : List ℕ} {x : Design} {e : ℕ} (here : Reading image x e) where
  pub reading_below : e < x.expressions
  reading_below = here.expression.node

  few_expressions : e < 2048
  few_expressions = let node = here.expression.node in let most = expressions_most here.expression.describes in omega arith

  pub read_place_lem : Fits w64 (1024 + e)
  read_place_lem = let few = few_expressions in record { fits = omega arith }

  lower_reading : (m : ℕ) → m < e → Reading image x m
  lower_reading m l = record { expressions = here.expressions; expression = lower_expression here.expression here.expressions l }

  pub operand_a_reading : {k a : ℕ} → k < expression_kinds → 1 ≤ k → (k ≡ 1 → ⊥) → k ≡ (node_in image x.expressions_at e).kind → a ≡ (node_in image x.expressions_at e).a → Reading image x a
  operand_a_reading {a = a} u l other p f = lower_reading a (operand_a_below here.expression u l other p f)

  pub operand_b_reading : {k b : ℕ} → k < expression_kinds → 1 ≤ k → (k ≡ 1 → ⊥) → k ≡ (node_in image x.expressions_at e).kind → b ≡ (node_in image x.expressions_at e).b → Reading image x b
  operand_b_reading {b = b} u l other p f = lower_reading b (operand_b_below here.expression u l other p f)

  pub reads_register : {k r p : ℕ} (end : ℕ) → k ≡ 1 → k ≡ (node_in image x.expressions_at e).kind → r ≡ (node_in image x.expressions_at e).item → p ≡ node_unless (ltb r end) (1024 + e) → p ≡ read_place (design_of image) end e
  unfolding expression_kind
  reads_register {r = r} end q k f g =
      let d = design_of image in
      let tree = expr_register d e (ap expression_kind (expression_kind_is here.expression k ∙ q)) in
      g ∙ rw (read_is here.expression f, tree, names_register end e (expression_at d e).item) (place_charged node_places (ltb (expression_at d e).item end) (1024 + e))

  pub reads_operation :
      {k a b r : ℕ} (end p q : ℕ)
      → k < expression_kinds
      → 1 ≤ k
      → (k ≡ 1 → ⊥)
      → k ≡ (node_in image x.expressions_at e).kind
      → a ≡ (node_in image x.expressions_at e).a
      → b ≡ (node_in image x.expressions_at e).b
      → r ≡ min p q
      → p ≡ read_place (design_of image) end a
      → q ≡ read_place (design_of image) end b
      → r ≡ read_place (design_of image) end e
  reads_operation {a = a} {b = b} end p q u l other k f g h first second =
      let d = design_of image in
      let o = operation here.expression u l other k in
      let left : a ≡ (expression_at d e).a = first_is here.expression f in
      let right : b ≡ (expression_at d e).b = second_is here.expression g in
      let lower = rw left at (operand_a_below here.expression u l other k f) in
      let lower' = rw right at (operand_b_below here.expression u l other k g) in
      let tree = expr_binary d e o.1 lower lower' in
      let part = (expression_at d e).a in
      let part' = (expression_at d e).b in
      let few = expressions_few here.expression.describes in
      rw (tree, names_binary end o.0 (expr_of d part) (expr_of d part'))
      (both_lowest (names_past end (expr_of d part)) (names_past end (expr_of d part')) (names_below d end few (expr_of d part) (expr_numbered d part)) (names_below d end few (expr_of d part') (expr_numbered d part')) (rw left at first) (rw right at second) h)

  pub reads_low : {k : ℕ} (end : ℕ) → k < 1 → k ≡ (node_in image x.expressions_at e).kind → 3072 ≡ read_place (design_of image) end e
  reads_low end l k =
      let d = design_of image in
      let none = expression_kind_is here.expression k in
      rw (expr_constant d e (kind_constants (omega arith)), names_constant end (constant_of (expression_at d e)))

  -- no number from here on is a kind
  pub reads_high : {k : ℕ} (end : ℕ) → expression_kinds ≤ k → k ≡ (node_in image x.expressions_at e).kind → 3072 ≡ read_place (design_of image) end e
  reads_high end l k = absurd (rw (no_expression_kind l) at (expression_holds_lem here.expression k))

pub ruleset reads_laws = (reading_below, read_place_lem, reads_register, reads_operation, reads_low, reads_high)

-- ---- commands, as trees
module _ (d : Table) (s n : ℕ) where
  skip_tree : lowest_of (scope_faults d s (skip n)) ≡ None
  unfolding scope_faults lowest_of
  skip_tree = refl

  fall_tree : lowest_of (scope_faults d s (fall n)) ≡ None
  unfolding scope_faults lowest_of
  fall_tree = refl

  assign_tree : (r : ℕ) (e : Expr) → scope_faults d s (assign n r e) ≡ charged_unless (name_kept d s r) n ++ read_faults d s e
  unfolding scope_faults
  assign_tree r e = refl

  sequence_tree : (p q : Cmd) → scope_faults d s (sequence n p q) ≡ scope_faults d s p ++ scope_faults d s q
  unfolding scope_faults
  sequence_tree p q = refl

  goto_tree : (t a b : ℕ) → scope_faults d s (goto n t a b) ≡ charged_unless (arguments_kept d s t a b) n
  unfolding scope_faults
  goto_tree t a b = refl

  branch_tree : (e : Expr) (p q : Cmd) → scope_faults d s (branch n e p q) ≡ read_faults d s e ++ (scope_faults d s p ++ scope_faults d s q)
  unfolding scope_faults
  branch_tree e p q = refl

-- a kind that is no assignment, sequence, goto or if is a skip or a fall
plain_kind : (d : Table) (n k : ℕ) (x : Node) → (k ≡ 1 → ⊥) → (k ≡ 2 → ⊥) → (k ≡ 4 → ⊥) → (k ≡ 5 → ⊥) → CommandHolds d n (command_kind k) x → (command_kind k ≡ skips) ⊎ (command_kind k ≡ falls)
unfolding command_kind
plain_kind d n zero x a b c e h = inl refl
plain_kind d n (suc zero) x a b c e h = absurd (a refl)
plain_kind d n (suc (suc zero)) x a b c e h = absurd (b refl)
plain_kind d n (suc (suc (suc zero))) x a b c e h = inr refl
plain_kind d n (suc (suc (suc (suc zero)))) x a b c e h = absurd (c refl)
plain_kind d n (suc (suc (suc (suc (suc zero))))) x a b c e h = absurd (e refl)
plain_kind d n (suc (suc (suc (suc (suc (suc k)))))) x a b c e h = absurd h

-- what was read, where so many are in scope of s
read_lowest : {end place : ℕ} (d : Table) (s e : ℕ) → end ≡ 64 + length (scope_of d s) → place ≡ read_place d end e → place ≡ node_place_of (lowest_of (read_faults d s (expr_of d e)))
read_lowest d s e past read = read ∙ ap (λ (xs : List ℕ). node_place_of (lowest_of xs)) (ap (λ (k : ℕ). names_past k (expr_of d e)) past ∙ names_read d s (expr_of d e))

-- ---- a command by its kind
module _ {image scopes : List ℕ} {x : Design} {s n : ℕ} (j : Scoping image scopes x s n) where
  pub scoping_below : n < x.commands
  scoping_below = j.command.node

  -- what it and its parts are charged with are places of nodes
  own_below : (kept : Bool) → Below node_places (charged_unless kept n)
  own_below kept = let node = j.command.node in let most = commands_most j.command.describes in charged_below kept n (omega arith)

  part_below : (m : ℕ) → Below node_places (scope_faults (design_of image) s (cmd_of (design_of image) m))
  part_below m = scope_below (design_of image) (commands_few j.command.describes) (expressions_few j.command.describes) s (cmd_of (design_of image) m) (cmd_numbered (design_of image) m)

  value_below : (e : ℕ) → Below node_places (read_faults (design_of image) s (expr_of (design_of image) e))
  value_below e =
      let d = design_of image in
      rw (← names_read d s (expr_of d e)) (names_below d (64 + length (scope_of d s)) (expressions_few j.command.describes) (expr_of d e) (expr_numbered d e))

  pub scoping_arguing : Arguing image scopes x s
  scoping_arguing = j.arguing

  -- a lower command of the same state
  lower_node : (m : ℕ) → m < n → Scoping image scopes x s m
  lower_node m l =
      record { arguing = j.arguing; command = lower_command j.command j.arguing.known.commands l }

  -- its expression
  reading_at : (e : ℕ) → e < length (design_of image).expressions → Reading image x e
  reading_at e l =
      let count = expressions_count j.command.describes in
      record {
        expressions = j.arguing.known.expressions;
        expression = expression_at_lem j.command.describes j.arguing.known.expressions (omega arith) refl;
      }

  pub assigned_reading : {k e : ℕ} → k ≡ 1 → k ≡ (node_in image x.commands_at n).kind → e ≡ (node_in image x.commands_at n).a → Reading image x e
  assigned_reading {e = e} q p f = reading_at e (assigned_expression j.command q p f)

  pub condition_reading : {k e : ℕ} → k ≡ 5 → k ≡ (node_in image x.commands_at n).kind → e ≡ (node_in image x.commands_at n).a → Reading image x e
  condition_reading {e = e} q p f = reading_at e (condition j.command q p f)

  -- the state that a goto names
  pub goto_state : {k t : ℕ} → k ≡ 4 → k ≡ (node_in image x.commands_at n).kind → t ≡ (node_in image x.commands_at n).item → t < length (design_of image).states
  goto_state q p f = named_state j.command q p f

  -- ---- the parts of a sequence and of an if
  pub sequence_a : {k a : ℕ} → k ≡ 2 → k ≡ (node_in image x.commands_at n).kind → a ≡ (node_in image x.commands_at n).a → Scoping image scopes x s a
  sequence_a {a = m} q p f = lower_node m (sequence_a_below j.command q p f)

  pub sequence_b : {k b : ℕ} → k ≡ 2 → k ≡ (node_in image x.commands_at n).kind → b ≡ (node_in image x.commands_at n).b → Scoping image scopes x s b
  sequence_b {b = m} q p f = lower_node m (sequence_b_below j.command q p f)

  pub branch_b : {k b : ℕ} → k ≡ 5 → k ≡ (node_in image x.commands_at n).kind → b ≡ (node_in image x.commands_at n).b → Scoping image scopes x s b
  branch_b {b = m} q p f = lower_node m (branch_b_below j.command q p f)

  pub branch_c : {k c : ℕ} → k ≡ 5 → k ≡ (node_in image x.commands_at n).kind → c ≡ (node_in image x.commands_at n).c → Scoping image scopes x s c
  branch_c {c = m} q p f = lower_node m (branch_c_below j.command q p f)

  -- ---- what the command comes to
  pub scoped_assign :
      {k r e own registers place : ℕ} (end read : ℕ)
      → k ≡ 1
      → k ≡ (node_in image x.commands_at n).kind
      → r ≡ (node_in image x.commands_at n).item
      → e ≡ (node_in image x.commands_at n).a
      → Counting image registers s end
      → own ≡ node_unless (ltb r end) n
      → read ≡ read_place (design_of image) end e
      → place ≡ min own read
      → place ≡ command_place (design_of image) s n
  unfolding command_kind
  scoped_assign {r = r} {e = e} end read q k f g counted h reads x-is =
      let d = design_of image in
      let tree = cmd_assign d n (command_kind_of j.command assigns q k refl) in
      let item = (command_at d n).item in
      let value = (command_at d n).a in
      let kept : ltb r end ≡ name_kept d s item = ap (ltb r) counted.past ∙ name_past d s r ∙ ap (name_kept d s) (item_is j.command f) in
      rw (tree, assign_tree d s n item (expr_of d value))
      (both_lowest (charged_unless (name_kept d s item) n) (read_faults d s (expr_of d value)) (own_below (name_kept d s item)) (value_below value) (h ∙ rw kept (place_charged node_places (name_kept d s item) n)) (read_lowest d s value counted.past (rw (a_is j.command g) at reads)) x-is)

  pub scoped_sequence :
      {k a b place : ℕ} (p q : ℕ)
      → k ≡ 2
      → k ≡ (node_in image x.commands_at n).kind
      → a ≡ (node_in image x.commands_at n).a
      → b ≡ (node_in image x.commands_at n).b
      → place ≡ min p q
      → p ≡ command_place (design_of image) s a
      → q ≡ command_place (design_of image) s b
      → place ≡ command_place (design_of image) s n
  unfolding command_kind
  scoped_sequence p q f e ea eb ex first second =
      let d = design_of image in
      let tree = cmd_sequence d n (command_kind_of j.command sequences f e refl) (command_holds_lem j.command f e).1 (command_holds_lem j.command f e).2 in
      let part = (command_at d n).a in
      let part' = (command_at d n).b in
      rw (tree, sequence_tree d s n (cmd_of d part) (cmd_of d part'))
      (both_lowest (scope_faults d s (cmd_of d part)) (scope_faults d s (cmd_of d part')) (part_below part) (part_below part') (rw (a_is j.command ea) at first) (rw (b_is j.command eb) at second) ex)

  pub scoped_goto :
      {k t a b place : ℕ} {kept : Bool}
      → k ≡ 4
      → k ≡ (node_in image x.commands_at n).kind
      → t ≡ (node_in image x.commands_at n).item
      → a ≡ (node_in image x.commands_at n).a
      → b ≡ (node_in image x.commands_at n).b
      → kept ≡ arguments_kept (design_of image) s t a b
      → place ≡ node_unless kept n
      → place ≡ command_place (design_of image) s n
  unfolding command_kind
  scoped_goto {t = t} {a = a} {b = b} {kept = kept} f e et ea eb ek ex =
      let d = design_of image in
      let y = command_at d n in
      let tree = cmd_goto d n (command_kind_of j.command goes f e refl) in
      ex
      ∙ rw (ek, item_is j.command et, a_is j.command ea, b_is j.command eb, tree, goto_tree d s n y.item y.a y.b)
      (place_charged node_places (arguments_kept d s y.item y.a y.b) n)

  pub scoped_branch :
      {k e b c parts registers place : ℕ} (end read p q : ℕ)
      → k ≡ 5
      → place ≡ min read parts
      → parts ≡ min p q
      → read ≡ read_place (design_of image) end e
      → p ≡ command_place (design_of image) s b
      → q ≡ command_place (design_of image) s c
      → e ≡ (node_in image x.commands_at n).a
      → b ≡ (node_in image x.commands_at n).b
      → c ≡ (node_in image x.commands_at n).c
      → k ≡ (node_in image x.commands_at n).kind
      → Counting image registers s end
      → place ≡ command_place (design_of image) s n
  unfolding command_kind
  scoped_branch end read p q f ex ep reads first second ee eb ec k counted =
      let d = design_of image in
      let tree = cmd_branch d n (command_kind_of j.command branches f k refl) (command_holds_lem j.command f k).2 (command_holds_lem j.command f k).3 in
      let value = (command_at d n).a in
      let part = (command_at d n).b in
      let part' = (command_at d n).c in
      let both = both_lowest (scope_faults d s (cmd_of d part)) (scope_faults d s (cmd_of d part')) (part_below part) (part_below part') (rw (b_is j.command eb) at first) (rw (c_is j.command ec) at second) ep in
      rw (tree, branch_tree d s n (expr_of d value) (cmd_of d part) (cmd_of d part'))
      (both_lowest (read_faults d s (expr_of d value)) (scope_faults d s (cmd_of d part) ++ scope_faults d s (cmd_of d part')) (value_below value) (each_append (part_below part) (part_below part')) (read_lowest d s value counted.past (rw (a_is j.command ee) at reads)) both ex)

  pub scoped_plain : {k : ℕ} → k ≡ (node_in image x.commands_at n).kind → (k ≡ 1 → ⊥) → (k ≡ 2 → ⊥) → (k ≡ 4 → ⊥) → (k ≡ 5 → ⊥) → 3072 ≡ command_place (design_of image) s n
  scoped_plain {k} e a b c f =
      let d = design_of image in
      ⊎_elim
      (λ (h : command_kind k ≡ skips). rw (cmd_skip d n (command_kind_of j.command skips refl e h), skip_tree d s n))
      (λ (h : command_kind k ≡ falls). rw (cmd_fall d n (command_kind_of j.command falls refl e h), fall_tree d s n))
      (plain_kind d n k (command_at d n) a b c f (command_holds_lem j.command refl e))

pub ruleset scoped_laws = (scoping_below, scoping_arguing, assigned_reading, condition_reading, goto_state, scoped_assign, scoped_sequence, scoped_goto, scoped_branch, scoped_plain)

-- ---- states
module _ {image : List ℕ} {x : Design} (known : RecordsKept image x) where
  pub body_scoping : {scopes : List ℕ} {s n : ℕ} → ParametersKept (design_of image) → Scopes (design_of image) scopes → s < x.states → n ≡ (state_in image x.states_at s).command → Scoping image scopes x s n
  body_scoping parameters table l e =
      record {
        arguing = record { known = known; parameters = parameters; table = table; state = l };
        command = command_at_lem known.describes known.commands (body_below known.describes l e known.states) refl;
      }

  pub body_counting : {s count : ℕ} → count ≡ length (scope_of (design_of image) s) → Counting image x.registers s (64 + count)
  body_counting e = record { all = registers_count known.describes; past = ap (λ (k : ℕ). 64 + k) e }

  pub state_scope_rule : {s place : ℕ} (n : ℕ) → s < x.states → n ≡ (state_in image x.states_at s).command → place ≡ command_place (design_of image) s n → place ≡ node_place_of (lowest_of (state_scope_faults (design_of image) s))
  unfolding state_scope_faults body_of
  state_scope_rule n l e scoped = rw (body_is known.describes l e) at scoped

  state_low : (s : ℕ) → Below node_places (state_scope_faults (design_of image) s)
  state_low s = state_scope_below (design_of image) (commands_few known.describes) (expressions_few known.describes) s

  all_low : (n : ℕ) → Below node_places (join_below (state_scope_faults (design_of image)) n)
  all_low n = each_join (state_scope_faults (design_of image)) n (λ s l. state_low s)

-- the lowest fault of the states before s, as a place
pub record ScopedSo (d : Table) (s place : ℕ) : Type 0 where
  pub is : place ≡ node_place_of (lowest_of (join_below (state_scope_faults d) s))

pub scoped_none_yet : {d : Table} → ScopedSo d 0 3072
unfolding join_below lowest_of
scoped_none_yet = record { is = refl }

pub scoped_one_more : {image : List ℕ} {x : Design} {s so r : ℕ} (here : ℕ) → RecordsKept image x → ScopedSo (design_of image) s so → here ≡ node_place_of (lowest_of (state_scope_faults (design_of image) s)) → r ≡ min so here → ScopedSo (design_of image) (s + 1) r
unfolding join_below
scoped_one_more {image} {s = s} here known before scoped h =
    let faults = state_scope_faults (design_of image) in
    record { is = rw (add-one s) (both_lowest (join_below faults s) (faults s) (all_low known s) (state_low known s) before.is scoped h) }

pub scopes_found :
    {image : List ℕ} {x : Design} {s place : ℕ} {f : Option ℕ}
    → RecordsKept image x
    → ScopedSo (design_of image) s place
    → s ≤ x.states
    → x.states ≤ s
    → f ≡ found_among 3072 place
    → f ≡ scope_fault (design_of image)
unfolding scope_fault
scopes_found {image} {x} {s} known so l m e =
    let count = states_count known.describes in
    let end : s ≡ length (design_of image).states = omega arith in
    let all = length (design_of image).states in
    e ∙ rw (so.is, end) (place_found (lowest_of (join_below (state_scope_faults (design_of image)) all)) (omega arith) (lowest_below node_places (all_low known all)))

pub ruleset state_scope_laws = (body_scoping, body_counting, state_scope_rule)

pub ruleset scopes_laws = (scoped_none_yet, scoped_one_more, scopes_found)
