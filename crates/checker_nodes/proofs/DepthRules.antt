-- Laws of the passes over depths: the depth of a node from the table of its parts' depths, and the table itself.
use Rattle.std.specs.Prelude.{Option}
use Prim.Native.Nat.{ℕ, suc, max, ◌+◌, ◌≤◌, ◌<◌}
use mathlib.Core.Path.{◌≡◌, refl, sym, ◌∙◌, ap}
use mathlib.Core.Logic.{⊎_elim}
use mathlib.Core.Bool.{Bool, true, false}
use mathlib.Core.List.{List}
use native.Mathlib.Omega.{arith}
use lib.Dec.{leb}
use lib.ListN.{length, get_or}
use borrow.Author.Tests.{leb-true, leb-false, le-leb, lt-leb}
use Rattle.model.specs.Indices.{lowest_failing}
use Rattle.model.specs.Limits.{depth_max}
use Rattle.model.specs.Image.{design_of}
use Rattle.model.specs.Kinds.{sequences, branches, command_kind, expression_kind, Operation, operates}
use Rattle.model.specs.Trees.{expr_of, cmd_of, expr_depth, cmd_depth}
use Rattle.model.specs.Nodes.{command_depth_kept, expression_depth_kept}
use Rattle.model.proofs.Laws.Booleans.{decide}
use Rattle.model.proofs.Laws.Indices.{below_suc}
use Rattle.model.proofs.Laws.Kinds.{kind_sequences, kind_branches, sequences_number, branches_number, expression_kinds, no_operation_zero, no_operation_one, no_operation_above}
use Rattle.model.proofs.Laws.Trees.{cmd_flat_depth, cmd_sequence_depth, cmd_branch_depth, expr_flat_depth, expr_binary_depth}
use Rattle.design.specs.declared.Design.{Design}
use Rattle.design.specs.Records.{node_in}
use Rattle.design.specs.Describes.{Describes}
use Rattle.design.specs.Resets.{Filled}
use Rattle.design.proofs.Laws.{commands_count, expressions_count}
use Rattle.design.specs.RecordsAt.{CommandAt, ExpressionAt}
use Rattle.design.proofs.FieldRules.{command_kind_is, command_kind_of, a_is, b_is, c_is, sequence_a_below, sequence_b_below, branch_b_below, branch_c_below, expression_kind_is, first_is, second_is, operation}
use Rattle.design.proofs.ResetRules.{filled_none, filled_within, filled_to_lem}
use Rattle.checker_nodes.specs.Tables.{depth_entry, Depths, ShallowWhere}
use Rattle.checker_nodes.proofs.CountRules.{failing_same}
use Rattle.design.proofs.PartRules.{operation_a, operation_b}

-- ---- the table
-- a loop over so many nodes as the design has is at its end
pub filled_end : {f : ℕ → ℕ} {old now : List ℕ} {i m n : ℕ} → Filled f old i now → i ≤ m → m ≤ i → m ≡ n → Filled f old n now
filled_end so l h e = rw (← e) (filled_to_lem so l h)

-- filling leaves a table as long as it was
pub filled_long : {f : ℕ → ℕ} {old now : List ℕ} {i : ℕ} → Filled f old i now → length now ≡ length old
filled_long so = so.long

filled_keeps : {f : ℕ → ℕ} {old now : List ℕ} {i n : ℕ} → Filled f old i now → n ≤ length old → n ≤ length now
filled_keeps so l = let same = so.long in omega arith

module _ {table : List ℕ} {depth : ℕ → ℕ} where
  -- a table that a loop fills
  pub filled_depths : {n : ℕ} {old : List ℕ} → Filled (λ k. depth_entry (depth k)) old n table → Depths table depth n
  filled_depths t = record { entry = t.done }

  -- the entry one above the deeper of two parts
  two_parts : {n p q a b : ℕ} → Depths table depth n → a ≡ p → b ≡ q → a < n → b < n → depth_entry (suc (max (depth p) (depth q))) ≡ depth_entry (max (get_or table a 0) (get_or table b 0) + 1)
  two_parts {n} {p} {q} {a} {b} t e f l m =
      let first = t.entry a l in
      let second = t.entry b m in
      rw (← e, ← f) (omega arith)

-- the entry of a node without parts of its family
depth_one : {depth : ℕ} → depth ≡ 1 → 1 ≡ depth_entry depth
depth_one e = rw e

-- ---- commands
module _ {image : List ℕ} {x : Design} {place n k : ℕ} (here : CommandAt image x place n) (same : k ≡ (node_in image place n).kind) where
  pub flat_depth : (k ≡ 2 → ⊥) → (k ≡ 5 → ⊥) → 1 ≡ depth_entry (cmd_depth (cmd_of (design_of image) n))
  flat_depth two five =
      let byte = sym (command_kind_is here refl same) in
      depth_one
      (cmd_flat_depth
      (design_of image)
      n
      (λ e. two (sequences_number k (ap command_kind byte ∙ e)))
      (λ e. five (branches_number k (ap command_kind byte ∙ e))))

  module _ {table : List ℕ} {a b r : ℕ} (t : Depths table (λ m. cmd_depth (cmd_of (design_of image) m)) n) where
    pub sequence_depth :
        k ≡ 2
        → a ≡ (node_in image place n).a
        → b ≡ (node_in image place n).b
        → r ≡ depth_entry (max (get_or table a 0) (get_or table b 0) + 1)
        → r ≡ depth_entry (cmd_depth (cmd_of (design_of image) n))
    sequence_depth e p q h =
        let near = sequence_a_below here e same p in
        let nearer = sequence_b_below here e same q in
        let parts = two_parts t (a_is here p) (b_is here q) near nearer in
        let kind = command_kind_of here sequences refl same (kind_sequences e) in
        h ∙ sym parts ∙ ap depth_entry (sym (cmd_sequence_depth (design_of image) n kind (rw (a_is here p) at near) (rw (b_is here q) at nearer)))

    pub branch_depth :
        k ≡ 5
        → a ≡ (node_in image place n).b
        → b ≡ (node_in image place n).c
        → r ≡ depth_entry (max (get_or table a 0) (get_or table b 0) + 1)
        → r ≡ depth_entry (cmd_depth (cmd_of (design_of image) n))
    branch_depth e p q h =
        let near = branch_b_below here e same p in
        let nearer = branch_c_below here e same q in
        let parts = two_parts t (b_is here p) (c_is here q) near nearer in
        let kind = command_kind_of here branches refl same (kind_branches e) in
        h ∙ sym parts ∙ ap depth_entry (sym (cmd_branch_depth (design_of image) n kind (rw (b_is here p) at near) (rw (c_is here q) at nearer)))

-- ---- expressions
module _ {image : List ℕ} {x : Design} {place n k : ℕ} (here : ExpressionAt image x place n) (same : k ≡ (node_in image place n).kind) where
  no_operation : ((o : Operation) → expression_kind k ≡ operates o → ⊥) → 1 ≡ depth_entry (expr_depth (expr_of (design_of image) n))
  no_operation h = depth_one (expr_flat_depth (design_of image) n (λ o e. h o (ap expression_kind (sym (expression_kind_is here same)) ∙ e)))

  pub low_depth : k < 2 → 1 ≡ depth_entry (expr_depth (expr_of (design_of image) n))
  low_depth h = no_operation (λ o e. ⊎_elim (λ (z : k < 1). no_operation_zero (omega arith) o e) (λ (z : k ≡ 1). no_operation_one z o e) (below_suc h))

  pub high_depth : expression_kinds ≤ k → 1 ≡ depth_entry (expr_depth (expr_of (design_of image) n))
  high_depth h = no_operation (no_operation_above h)

  module _ {table : List ℕ} {a b r : ℕ} (t : Depths table (λ m. expr_depth (expr_of (design_of image) m)) n) where
    pub operation_depth :
        2 ≤ k
        → k < expression_kinds
        → a ≡ (node_in image place n).a
        → b ≡ (node_in image place n).b
        → r ≡ depth_entry (max (get_or table a 0) (get_or table b 0) + 1)
        → r ≡ depth_entry (expr_depth (expr_of (design_of image) n))
    operation_depth low high p q h =
        let near = operation_a here low high same p in
        let nearer = operation_b here low high same q in
        let parts = two_parts t (first_is here p) (second_is here q) near nearer in
        let o = operation here high (omega arith) (λ e. omega arith) same in
        h ∙ sym parts ∙ ap depth_entry (sym (expr_binary_depth (design_of image) n o.1 (rw (first_is here p) at near) (rw (second_is here q) at nearer)))

-- ---- the rule, tested on an entry
entry_small : (depth : ℕ) → leb (depth_entry depth) depth_max ≡ leb depth depth_max
entry_small depth =
    ⊎_elim
    (λ (e : leb depth depth_max ≡ true). let l = leb-true depth depth_max e in le-leb (depth_entry depth) depth_max (omega arith) ∙ sym e)
    (λ (e : leb depth depth_max ≡ false). let l = leb-false depth depth_max e in lt-leb (depth_entry depth) depth_max (omega arith) ∙ sym e)
    (decide (leb depth depth_max))

pub shallow_found : {rule : ℕ → Bool} {table : List ℕ} {m n : ℕ} {f : Option ℕ} → ShallowWhere rule table m → m ≡ n → f ≡ lowest_failing (λ k. leb (get_or table k 0) depth_max) m → f ≡ lowest_failing rule n
shallow_found {rule} {table} {m} so e h = h ∙ failing_same (λ k. leb (get_or table k 0) depth_max) rule m so.entry ∙ ap (lowest_failing rule) e

-- ---- refusal 7, where every record keeps its rule
filled_shallow :
    (depth : ℕ → ℕ) {m n : ℕ} {old t : List ℕ}
    → Filled (λ k. depth_entry (depth k)) old n t
    → m ≡ n
    → m ≤ length old
    → ShallowWhere (λ k. leb (depth k) depth_max) t m
filled_shallow depth so e l =
    record { long = filled_keeps so l; entry = λ k b. rw (so.done k (omega arith)) (entry_small (depth k)) }

module _ {image : List ℕ} {x : Design} (d : Describes image x) {old t : List ℕ} where
  pub command_depths_told : x.commands ≤ length old → Filled (λ k. depth_entry (cmd_depth (cmd_of (design_of image) k))) old (length (design_of image).commands) t → ShallowWhere (command_depth_kept (design_of image)) t x.commands
  unfolding command_depth_kept
  command_depths_told l so = filled_shallow (λ k. cmd_depth (cmd_of (design_of image) k)) so (commands_count d) l

  pub expression_depths_told : x.expressions ≤ length old → Filled (λ k. depth_entry (expr_depth (expr_of (design_of image) k))) old (length (design_of image).expressions) t → ShallowWhere (expression_depth_kept (design_of image)) t x.expressions
  unfolding expression_depth_kept
  expression_depths_told l so = filled_shallow (λ k. expr_depth (expr_of (design_of image) k)) so (expressions_count d) l

pub ruleset depth_laws = (flat_depth, sequence_depth, branch_depth, low_depth, high_depth, operation_depth)

pub ruleset table_laws = (filled_none, filled_within, filled_end, filled_depths)
