-- Nodes in their order: what a node's parts leave in a table stands one behind the other, and the node behind them; so the table has the tree, parts first.
use Prim.Native.Nat.{ℕ, ◌+◌, ◌≤◌, ◌<◌}
use mathlib.Core.Path.{◌≡◌, refl, sym, ◌∙◌, ap}
use mathlib.Core.Logic.{⊎_elim}
use mathlib.Core.List.{List, [], ◌∷◌, ◌++◌, append_assoc}
use native.Mathlib.Omega.{arith}
use native.Mathlib.Numerals.{add-one}
use native.Mathlib.Decide.{dec_lt}
use lib.ListN.{length, set, take, drop, length-append}
use lib.Seq.{set_split}
use Rattle.model.specs.Image.{Node, design_of, command_at, expression_at}
use Rattle.model.specs.Kinds.{CommandKind, skips, assigns, sequences, falls, goes, branches, unknown_command, ExpressionKind, constants, reads, unknown_expression, Operation, operates, command_kind, expression_kind}
use Rattle.model.specs.Nodes.{command_parts, expression_parts, parts_of, operands_of}
use Rattle.model.proofs.Laws.Indices.{below_suc}
use Rattle.model.proofs.Laws.Kinds.{kind_sequences, kind_branches, sequences_number, branches_number, expression_kinds, no_expression_kind, no_operation_zero, no_operation_one}
use Rattle.design.specs.declared.Design.{Design as Described}
use Rattle.design.specs.Records.{node_in}
use Rattle.design.specs.RecordsAt.{CommandAt, ExpressionAt}
use Rattle.design.proofs.Laws.{commands_most, expressions_most}
use Rattle.design.proofs.FieldRules.{command_kind_is, command_kind_of, a_is, b_is, c_is, first_is, second_is, expression_kind_is, expression_holds_lem, operation, sequence_a_below, sequence_b_below, branch_b_below, branch_c_below, operand_a_below, operand_b_below, lower_command, lower_expression}
use Rattle.encoding.specs.Parts.{overwritten_at}
use Rattle.encoding.proofs.PartRules.{length_over, over_none, put_behind}
use Rattle.filing_model.specs.Filed.{parts_first}
use Rattle.filing_model.proofs.Pieces.{piece_alone, piece_two}
use Rattle.filing_steps.specs.Ordering.{PutFrom, OrderingCommand, OrderingExpression}

-- ---- numbers put into a table
pub put_one : (order : List ℕ) (k n : ℕ) → k < length order → PutFrom (n ∷ []) k order (k + 1) (set order k n)
unfolding overwritten_at
put_one order k n l = record { moved = refl; put = set_split order k n l ∙ rw (← (add-one k)) (sym (append_assoc (take k order) (n ∷ []) (drop (k + 1) order))) }

pub put_none : (order : List ℕ) (k : ℕ) → PutFrom [] k order k order
put_none order k = record { moved = omega arith; put = sym (over_none k order) }

pub put_long : {numbers before after : List ℕ} {k next : ℕ} → PutFrom numbers k before next after → k + length numbers ≤ length before → length after ≡ length before
put_long {numbers} {before} {k = k} p room = ap length p.put ∙ length_over k before numbers room

pub put_both : {xs ys before between after : List ℕ} {k m next : ℕ} → PutFrom xs k before m between → PutFrom ys m between next after → k + length xs ≤ length before → PutFrom (xs ++ ys) k before next after
put_both {xs} {ys} {before} {between} {after} {k} {m} p q room =
    let long : length (xs ++ ys) ≡ length xs + length ys = length-append xs ys in
    record {
      moved = omega (arith, p.moved, q.moved);
      put = put_behind k before xs ys p.put (rw (← p.moved) q.put) (omega arith);
    }

-- ---- a tree: two others, and the number of the whole behind them
record TreeOf (tree first second : List ℕ) (n : ℕ) : Type 0 where
  is : tree ≡ first ++ second ++ (n ∷ [])

module _ {tree first second : List ℕ} {n : ℕ} (two : TreeOf tree first second n) where
  tree_long : length tree ≡ length first + length second + 1
  tree_long = ap length two.is ∙ length-append (first ++ second) (n ∷ []) ∙ ap (λ (m : ℕ). m + 1) (length-append first second)

  first_room : (k long : ℕ) → k + length tree ≤ long → k + length first ≤ long
  first_room k long room = omega (arith, tree_long)

  module _ {k next : ℕ} {order between : List ℕ} (room : k + length tree ≤ length order) (p : PutFrom first k order next between) where
    second_room : next + length second ≤ length between
    second_room = omega (arith, tree_long, p.moved, put_long p (first_room k (length order) room))

    module _ {whole : ℕ} {after : List ℕ} (q : PutFrom second next between whole after) where
      whole_room : whole < length after
      whole_room = omega (arith, tree_long, p.moved, q.moved, put_long p (first_room k (length order) room), put_long q second_room)

      tree_put : {end : ℕ} {last : List ℕ} → PutFrom (n ∷ []) whole after end last → PutFrom tree k order end last
      tree_put r =
          let both = put_both p q (first_room k (length order) room) in
          let long : length (first ++ second) ≡ length first + length second = length-append first second in
          rw two.is (put_both both r (omega (arith, tree_long)))

-- ---- a node without parts
alone_put : {tree order after : List ℕ} {n k next : ℕ} → tree ≡ n ∷ [] → PutFrom (n ∷ []) k order next after → PutFrom tree k order next after
alone_put e p = rw e p

alone_room : (tree : List ℕ) {n : ℕ} (k long : ℕ) → tree ≡ n ∷ [] → k + length tree ≤ long → k < long
alone_room tree k long e room = let one = ap length e in omega arith

-- ---- the parts by the kind
sequence_parts : {kind : CommandKind} (x : Node) → kind ≡ sequences → command_parts kind x ≡ x.a ∷ x.b ∷ []
unfolding command_parts
sequence_parts x e = rw e

branch_parts : {kind : CommandKind} (x : Node) → kind ≡ branches → command_parts kind x ≡ x.b ∷ x.c ∷ []
unfolding command_parts
branch_parts x e = rw e

no_parts : (kind : CommandKind) (x : Node) → (kind ≡ sequences → ⊥) → (kind ≡ branches → ⊥) → command_parts kind x ≡ []
unfolding command_parts
no_parts skips x s b = refl
no_parts assigns x s b = refl
no_parts sequences x s b = absurd (s refl)
no_parts falls x s b = refl
no_parts goes x s b = refl
no_parts branches x s b = absurd (b refl)
no_parts unknown_command x s b = refl

operands : {kind : ExpressionKind} {o : Operation} (x : Node) → kind ≡ operates o → expression_parts kind x ≡ x.a ∷ x.b ∷ []
unfolding expression_parts
operands x e = rw e

no_operands : (kind : ExpressionKind) (x : Node) → ((o : Operation) → kind ≡ operates o → ⊥) → expression_parts kind x ≡ []
unfolding expression_parts
no_operands constants x h = refl
no_operands reads x h = refl
no_operands (operates o) x h = absurd (h o refl)
no_operands unknown_expression x h = refl

two_are : {xs : List ℕ} {a b p q : ℕ} → xs ≡ p ∷ q ∷ [] → a ≡ p → b ≡ q → xs ≡ a ∷ b ∷ []
two_are e f g = rw (f, g) e

-- ---- a command
module _ {image order : List ℕ} {x : Described} {n k : ℕ} (here : OrderingCommand image x n order k) where
  abbrev command_tree : ℕ → List ℕ
  command_tree m = parts_first (parts_of (design_of image)) m

  at : CommandAt image x x.commands_at n
  at = here.command

  pub command_small : n < 65536
  command_small = let most = commands_most at.describes in let below = at.node in omega arith

  lower_ordering : (m : ℕ) {table : List ℕ} {j : ℕ} → m < n → j + length (command_tree m) ≤ length table → OrderingCommand image x m table j
  lower_ordering m below room = record { commands = here.commands; command = lower_command at here.commands below; room = room }

  module _ {kind a b : ℕ} (e : kind ≡ 2) (f : kind ≡ (node_in image x.commands_at n).kind) (g : a ≡ (node_in image x.commands_at n).a) (h : b ≡ (node_in image x.commands_at n).b) where
    sequence_two : TreeOf (command_tree n) (command_tree a) (command_tree b) n
    sequence_two =
        record {
          is =
              piece_two
              (parts_of (design_of image))
              n
              (two_are (sequence_parts (command_at (design_of image) n) (command_kind_of at sequences refl f (kind_sequences e))) (a_is at g) (b_is at h))
              (sequence_a_below at e f g)
              (sequence_b_below at e f h);
        }

    module _ {second : ℕ} {between : List ℕ} (p : PutFrom (command_tree a) k order second between) where
      sequence_between : OrderingCommand image x b between second
      sequence_between = lower_ordering b (sequence_b_below at e f h) (second_room sequence_two here.room p)

      module _ {whole : ℕ} {after : List ℕ} (q : PutFrom (command_tree b) second between whole after) where
        pub sequence_room : whole < length after
        sequence_room = whole_room sequence_two here.room p q

        pub sequence_put : {end : ℕ} {last : List ℕ} → PutFrom (n ∷ []) whole after end last → PutFrom (command_tree n) k order end last
        sequence_put r = tree_put sequence_two here.room p q r

  module _ {kind b c : ℕ} (e : kind ≡ 5) (f : kind ≡ (node_in image x.commands_at n).kind) (g : b ≡ (node_in image x.commands_at n).b) (h : c ≡ (node_in image x.commands_at n).c) where
    branch_two : TreeOf (command_tree n) (command_tree b) (command_tree c) n
    branch_two =
        record {
          is =
              piece_two
              (parts_of (design_of image))
              n
              (two_are (branch_parts (command_at (design_of image) n) (command_kind_of at branches refl f (kind_branches e))) (b_is at g) (c_is at h))
              (branch_b_below at e f g)
              (branch_c_below at e f h);
        }

    module _ {second : ℕ} {between : List ℕ} (p : PutFrom (command_tree b) k order second between) where
      branch_between : OrderingCommand image x c between second
      branch_between = lower_ordering c (branch_c_below at e f h) (second_room branch_two here.room p)

      module _ {whole : ℕ} {after : List ℕ} (q : PutFrom (command_tree c) second between whole after) where
        pub branch_room : whole < length after
        branch_room = whole_room branch_two here.room p q

        pub branch_put : {end : ℕ} {last : List ℕ} → PutFrom (n ∷ []) whole after end last → PutFrom (command_tree n) k order end last
        branch_put r = tree_put branch_two here.room p q r

  -- a command without parts
  module _ {kind : ℕ} (two : kind ≡ 2 → ⊥) (five : kind ≡ 5 → ⊥) (f : kind ≡ (node_in image x.commands_at n).kind) where
    command_alone : command_tree n ≡ n ∷ []
    command_alone =
        let byte : kind ≡ (command_at (design_of image) n).kind = sym (command_kind_is at refl f) in
        piece_alone
        (parts_of (design_of image))
        n
        (no_parts
        (command_kind (command_at (design_of image) n).kind)
        (command_at (design_of image) n)
        (λ e. two (sequences_number kind (ap command_kind byte ∙ e)))
        (λ e. five (branches_number kind (ap command_kind byte ∙ e))))

    pub simple_room : k < length order
    simple_room = alone_room (command_tree n) k (length order) command_alone here.room

    pub simple_put : {end : ℕ} {last : List ℕ} → PutFrom (n ∷ []) k order end last → PutFrom (command_tree n) k order end last
    simple_put r = alone_put command_alone r

-- what is known at a part; the premises that are found first stand first
pub sequence_first :
    {image order : List ℕ} {x : Described} {n k kind a : ℕ}
    → kind ≡ 2
    → OrderingCommand image x n order k
    → kind ≡ (node_in image x.commands_at n).kind
    → a ≡ (node_in image x.commands_at n).a
    → OrderingCommand image x a order k
sequence_first {image} {order} {x} {n} {k} {a = a} e here f g = lower_ordering here a (sequence_a_below here.command e f g) (first_room (sequence_two here e f g refl) k (length order) here.room)

pub sequence_second :
    {image order between : List ℕ} {x : Described} {n k second kind a b : ℕ}
    → kind ≡ 2
    → PutFrom (parts_first (parts_of (design_of image)) a) k order second between
    → OrderingCommand image x n order k
    → kind ≡ (node_in image x.commands_at n).kind
    → a ≡ (node_in image x.commands_at n).a
    → b ≡ (node_in image x.commands_at n).b
    → OrderingCommand image x b between second
sequence_second e p here f g h = sequence_between here e f g h p

pub branch_first :
    {image order : List ℕ} {x : Described} {n k kind b : ℕ}
    → kind ≡ 5
    → OrderingCommand image x n order k
    → kind ≡ (node_in image x.commands_at n).kind
    → b ≡ (node_in image x.commands_at n).b
    → OrderingCommand image x b order k
branch_first {image} {order} {x} {n} {k} {b = b} e here f g = lower_ordering here b (branch_b_below here.command e f g) (first_room (branch_two here e f g refl) k (length order) here.room)

pub branch_second :
    {image order between : List ℕ} {x : Described} {n k second kind b c : ℕ}
    → kind ≡ 5
    → PutFrom (parts_first (parts_of (design_of image)) b) k order second between
    → OrderingCommand image x n order k
    → kind ≡ (node_in image x.commands_at n).kind
    → b ≡ (node_in image x.commands_at n).b
    → c ≡ (node_in image x.commands_at n).c
    → OrderingCommand image x c between second
branch_second e p here f g h = branch_between here e f g h p

-- ---- an expression
module _ {image order : List ℕ} {x : Described} {n k : ℕ} (here : OrderingExpression image x n order k) where
  abbrev expression_tree : ℕ → List ℕ
  expression_tree m = parts_first (operands_of (design_of image)) m

  stands : ExpressionAt image x x.expressions_at n
  stands = here.expression

  pub expression_small : n < 65536
  expression_small = let most = expressions_most stands.describes in let below = stands.node in omega arith

  lower_operand : (m : ℕ) {table : List ℕ} {j : ℕ} → m < n → j + length (expression_tree m) ≤ length table → OrderingExpression image x m table j
  lower_operand m below room = record { expressions = here.expressions; expression = lower_expression stands here.expressions below; room = room }

  -- a kind that is none would not be kept
  known_kind : {kind : ℕ} → kind ≡ (node_in image x.expressions_at n).kind → Dec (kind < expression_kinds) → kind < expression_kinds
  known_kind f (yes l) = l
  known_kind {kind} f (no l) = absurd (rw (no_expression_kind {k = kind} (omega arith)) at (expression_holds_lem stands f))

  pub no_kind : {kind : ℕ} → expression_kinds ≤ kind → kind ≡ (node_in image x.expressions_at n).kind → ⊥
  no_kind {kind} l f = let below = known_kind f (dec_lt kind expression_kinds) in omega arith

  module _ {kind a b : ℕ} (other : 2 ≤ kind) (f : kind ≡ (node_in image x.expressions_at n).kind) (g : a ≡ (node_in image x.expressions_at n).a) (h : b ≡ (node_in image x.expressions_at n).b) where
    kind_below : kind < expression_kinds
    kind_below = known_kind f (dec_lt kind expression_kinds)

    a_below : a < n
    a_below = operand_a_below stands kind_below (omega arith) (λ e. omega arith) f g

    b_below : b < n
    b_below = operand_b_below stands kind_below (omega arith) (λ e. omega arith) f h

    operation_two : TreeOf (expression_tree n) (expression_tree a) (expression_tree b) n
    operation_two =
        let o = operation stands kind_below (omega arith) (λ e. omega arith) f in
        record { is = piece_two (operands_of (design_of image)) n (two_are (operands (expression_at (design_of image) n) o.1) (first_is stands g) (second_is stands h)) a_below b_below }

    pub first_falls : {t : ℕ} → n ≡ t → a < t
    first_falls m = rw m at a_below

    pub second_falls : {t : ℕ} → n ≡ t → b < t
    second_falls m = rw m at b_below

    module _ {second : ℕ} {between : List ℕ} (p : PutFrom (expression_tree a) k order second between) where
      operation_between : OrderingExpression image x b between second
      operation_between = lower_operand b b_below (second_room operation_two here.room p)

      module _ {whole : ℕ} {after : List ℕ} (q : PutFrom (expression_tree b) second between whole after) where
        pub operation_room : whole < length after
        operation_room = whole_room operation_two here.room p q

        pub operation_put : {end : ℕ} {last : List ℕ} → PutFrom (n ∷ []) whole after end last → PutFrom (expression_tree n) k order end last
        operation_put r = tree_put operation_two here.room p q r

  -- an expression without parts
  module _ {kind : ℕ} (simple : kind < 2) (f : kind ≡ (node_in image x.expressions_at n).kind) where
    no_operation : (o : Operation) → expression_kind kind ≡ operates o → ⊥
    no_operation o e = ⊎_elim (λ (z : kind < 1). no_operation_zero (omega arith) o e) (λ (z : kind ≡ 1). no_operation_one z o e) (below_suc simple)

    expression_alone : expression_tree n ≡ n ∷ []
    expression_alone =
        piece_alone
        (operands_of (design_of image))
        n
        (no_operands
        (expression_kind (expression_at (design_of image) n).kind)
        (expression_at (design_of image) n)
        (λ o e. no_operation o (ap expression_kind (sym (expression_kind_is stands f)) ∙ e)))

    pub leaf_room : k < length order
    leaf_room = alone_room (expression_tree n) k (length order) expression_alone here.room

    pub leaf_put : {end : ℕ} {last : List ℕ} → PutFrom (n ∷ []) k order end last → PutFrom (expression_tree n) k order end last
    leaf_put r = alone_put expression_alone r

-- what is known at a part; the premises that are found first stand first
pub operand_first :
    {image order : List ℕ} {x : Described} {n k kind a : ℕ}
    → 2 ≤ kind
    → OrderingExpression image x n order k
    → kind ≡ (node_in image x.expressions_at n).kind
    → a ≡ (node_in image x.expressions_at n).a
    → OrderingExpression image x a order k
operand_first {image} {order} {x} {n} {k} {a = a} other here f g = lower_operand here a (a_below here other f g refl) (first_room (operation_two here other f g refl) k (length order) here.room)

pub operand_second :
    {image order between : List ℕ} {x : Described} {n k second kind a b : ℕ}
    → 2 ≤ kind
    → PutFrom (parts_first (operands_of (design_of image)) a) k order second between
    → OrderingExpression image x n order k
    → kind ≡ (node_in image x.expressions_at n).kind
    → a ≡ (node_in image x.expressions_at n).a
    → b ≡ (node_in image x.expressions_at n).b
    → OrderingExpression image x b between second
operand_second other p here f g h = operation_between here other f g h p
