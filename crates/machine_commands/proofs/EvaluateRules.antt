-- The operations by the number of their kind, and the value of an expression from the values of its parts: the laws that the recursion over parts cites.
use Rattle.std.proofs.Common.{◌≡◌, ℕ, zero, suc, ◌+◌, ◌-◌, ◌*◌, ◌/◌, ◌%◌, ◌^◌, ◌<◌, ◌≤◌, Bool, true, false, eqb, ltb, List, length, get_or, sym, refl, ap, ◌∙◌, arith, ltb-false, ltb-true, lt-ltb}
use lib.Bits.{bit_and, bit_or, bit_xor}
use Rattle.model.specs.Image.{Node, design_of, expression_at, word32_at, constant_of}
use Rattle.model.specs.Kinds.{Operation, add, subtract, bitwise_and, bitwise_or, bitwise_xor, equal, less, signed_less, arithmetic_shift, signed_division, ExpressionKind, constants, reads, operates, unknown_expression, expression_kind}
use Rattle.model.specs.Signed.{below_signed, shifted_right, divided_signed}
use Rattle.model.specs.Trees.{register, binary, expr_of}
use Rattle.model.specs.Values.{apply, one_or_zero}
use Rattle.model.specs.Bindings.{named, expr_with}
use Rattle.model.specs.Machine.{eval}
use Rattle.model.proofs.Laws.Booleans.{cond_true, cond_false, false_unless_true}
use Rattle.model.proofs.Laws.Kinds.{expression_kinds, kind_constants, kind_reads, kind_operates, no_expression_kind}
use Rattle.model.proofs.Laws.Trees.{expr_constant, expr_register, expr_binary}
use Rattle.design.specs.Records.{node_in, constant_in}
use Rattle.design.proofs.Laws.{registers_count}
use Rattle.design.proofs.FieldRules.{same_expression, expression_kind_is, read_is, first_is, second_is, expression_holds_lem, operand_a_falls, operand_b_falls, lower_expression}
use Rattle.design.proofs.WordRules.{words_at}
use Rattle.design.specs.declared.Design.{Design}
use Rattle.machine_commands.specs.Executions.{Evaluating, ReadsFit, bound_of, values_in}

-- ---- operations
-- the operation of a kind
abbrev operation_of : ExpressionKind → Operation
operation_of constants = add
operation_of reads = add
operation_of unknown_expression = add
operation_of (operates o) = o

-- The kind that is left, in two steps: `omega` splits at each number that is excluded.
behind_xor : (k : ℕ) → (k ≡ 2 → ⊥) → (k ≡ 3 → ⊥) → (k ≡ 4 → ⊥) → (k ≡ 5 → ⊥) → (k ≡ 6 → ⊥) → 2 ≤ k → 7 ≤ k
behind_xor k a b c d e l = omega arith

last_kind : (k : ℕ) → 7 ≤ k → (k ≡ 7 → ⊥) → (k ≡ 8 → ⊥) → (k ≡ 9 → ⊥) → (k ≡ 10 → ⊥) → k ≤ 11 → k ≡ 11
last_kind k l a b c d u = omega arith

module _ (k : ℕ) (o : Operation) (x y : ℕ) where
  -- the value of the operation that a number has
  same_value : {r : ℕ} (p : Operation) → expression_kind k ≡ operates p → expression_kind k ≡ operates o → r ≡ apply p x y → r ≡ apply o x y
  same_value p e f h = h ∙ ap (λ (q : Operation). apply q x y) (ap operation_of (sym e ∙ f))

  pub applies_add : {r : ℕ} → k ≡ 2 → r ≡ (x + y) % 2 ^ 32 → expression_kind k ≡ operates o → r ≡ apply o x y
  unfolding apply expression_kind
  applies_add n h f = same_value add (ap expression_kind n) f h

  pub applies_subtract : {r : ℕ} → k ≡ 3 → r ≡ (x + (2 ^ 32 - y)) % 2 ^ 32 → expression_kind k ≡ operates o → r ≡ apply o x y
  unfolding apply expression_kind
  applies_subtract n h f = same_value subtract (ap expression_kind n) f h

  pub applies_and : k ≡ 4 → expression_kind k ≡ operates o → bit_and x y ≡ apply o x y
  unfolding apply expression_kind
  applies_and n f = same_value bitwise_and (ap expression_kind n) f refl

  pub applies_or : k ≡ 5 → expression_kind k ≡ operates o → bit_or x y ≡ apply o x y
  unfolding apply expression_kind
  applies_or n f = same_value bitwise_or (ap expression_kind n) f refl

  pub applies_xor : k ≡ 6 → expression_kind k ≡ operates o → bit_xor x y ≡ apply o x y
  unfolding apply expression_kind
  applies_xor n f = same_value bitwise_xor (ap expression_kind n) f refl

  pub applies_equal : {r : ℕ} → k ≡ 7 → r ≡ one_or_zero (eqb x y) → expression_kind k ≡ operates o → r ≡ apply o x y
  unfolding apply expression_kind
  applies_equal n h f = same_value equal (ap expression_kind n) f h

  pub applies_less : {r : ℕ} → k ≡ 8 → r ≡ one_or_zero (ltb x y) → expression_kind k ≡ operates o → r ≡ apply o x y
  unfolding apply expression_kind
  applies_less n h f = same_value less (ap expression_kind n) f h

  pub applies_signed_less : {r : ℕ} {b : Bool} → k ≡ 9 → r ≡ one_or_zero b → b ≡ below_signed x y → expression_kind k ≡ operates o → r ≡ apply o x y
  unfolding apply expression_kind
  applies_signed_less n h e f = same_value signed_less (ap expression_kind n) f (h ∙ ap one_or_zero e)

  pub applies_shift : {r : ℕ} → k ≡ 10 → r ≡ shifted_right x y → expression_kind k ≡ operates o → r ≡ apply o x y
  unfolding apply expression_kind
  applies_shift n h f = same_value arithmetic_shift (ap expression_kind n) f h

  pub applies_division :
      {r : ℕ}
      → (k ≡ 2 → ⊥)
      → (k ≡ 3 → ⊥)
      → (k ≡ 4 → ⊥)
      → (k ≡ 5 → ⊥)
      → (k ≡ 6 → ⊥)
      → (k ≡ 7 → ⊥)
      → (k ≡ 8 → ⊥)
      → (k ≡ 9 → ⊥)
      → (k ≡ 10 → ⊥)
      → 2 ≤ k
      → k ≤ 11
      → r ≡ divided_signed x y
      → expression_kind k ≡ operates o
      → r ≡ apply o x y
  unfolding apply expression_kind
  applies_division a b c d e g i j m l u h f = same_value signed_division (ap expression_kind (last_kind k (behind_xor k a b c d e l) g i j m u)) f h

pub ruleset apply_laws = (applies_add, applies_subtract, applies_and, applies_or, applies_xor, applies_equal, applies_less, applies_signed_less, applies_shift, applies_division)

-- ---- what a register byte names
module _ (bound r : ℕ) where
  pub names_register : r < 64 → r ≡ named (bound_of bound) r
  unfolding named
  names_register l = sym (cond_true (ltb r 64) r (get_or (bound_of bound) (r - 64) 0) (lt-ltb r 64 l))

  names_parameter : 64 ≤ r → named (bound_of bound) r ≡ get_or (bound_of bound) (r - 64) 0
  unfolding named
  names_parameter l = cond_false (ltb r 64) r (get_or (bound_of bound) (r - 64) 0) (false_unless_true (ltb r 64) (λ e. let below = ltb-true r 64 e in omega arith))

  pub names_first : 64 ≤ r → r - 64 ≡ 0 → bound % 256 ≡ named (bound_of bound) r
  names_first l e = sym (names_parameter l ∙ rw e)

  pub names_second : 64 ≤ r → r - 64 ≡ 1 → bound / 256 ≡ named (bound_of bound) r
  names_second l e = sym (names_parameter l ∙ rw e)

  pub names_none : 64 ≤ r → (r - 64 ≡ 0 → ⊥) → (r - 64 ≡ 1 → ⊥) → 0 ≡ named (bound_of bound) r
  names_none l a b = sym (names_parameter l ∙ behind (r - 64) a b)
    where
      behind : (k : ℕ) → (k ≡ 0 → ⊥) → (k ≡ 1 → ⊥) → get_or (bound_of bound) k 0 ≡ 0
      behind zero a b = absurd (a refl)
      behind (suc zero) a b = absurd (b refl)
      behind (suc (suc k)) a b = refl

pub item_named : (bound : ℕ) {r m x : ℕ} → r ≡ m → x ≡ named (bound_of bound) r → x ≡ named (bound_of bound) m
item_named bound e f = f ∙ ap (named (bound_of bound)) e

pub ruleset name_laws = (names_register, names_first, names_second, names_none)

-- ---- expressions
module _ {image : List ℕ} {x : Design} {registers : List ℕ} {bound e : ℕ} (here : Evaluating image x registers bound e) where
  -- ---- a register
  read_tree : {k : ℕ} → k ≡ 1 → k ≡ (node_in image x.expressions_at e).kind → expr_of (design_of image) e ≡ register e (node_in image x.expressions_at e).item
  read_tree q p = expr_register (design_of image) e (kind_reads (expression_kind_is here.expression p ∙ q)) ∙ ap (register e) (sym (read_is here.expression refl))

  read_below : {k r : ℕ} → k ≡ 1 → k ≡ (node_in image x.expressions_at e).kind → r ≡ named (bound_of bound) (node_in image x.expressions_at e).item → r < x.registers
  unfolding ReadsFit
  read_below q p f =
      let count = registers_count here.known.describes in
      let below = rw (read_tree q p) at here.fits in
      omega arith

  pub read_inside : {k i r : ℕ} → k ≡ 1 → k ≡ (node_in image x.expressions_at e).kind → i ≡ (node_in image x.expressions_at e).item → r ≡ named (bound_of bound) i → 4 * r + 4 ≤ length registers
  read_inside q p item f = let area = here.area in let below = read_below q p (f ∙ ap (named (bound_of bound)) item) in omega arith

  pub evaluates_register :
      {k i r v : ℕ}
      → k ≡ 1
      → k ≡ (node_in image x.expressions_at e).kind
      → i ≡ (node_in image x.expressions_at e).item
      → r ≡ named (bound_of bound) i
      → v ≡ word32_at registers (4 * r)
      → v ≡ eval (values_in (design_of image) registers) (expr_with (bound_of bound) (expr_of (design_of image) e))
  unfolding eval expr_with
  evaluates_register q p item named_so h =
      let f = named_so ∙ ap (named (bound_of bound)) item in
      let count = registers_count here.known.describes in
      rw (read_tree q p, ← f, ← count) (h ∙ sym (words_at registers (read_below q p f) here.area))

  -- ---- a constant
  constant_is : {v : ℕ} → expression_kind (expression_at (design_of image) e).kind ≡ constants → v ≡ constant_in image x.expressions_at e → v ≡ eval (values_in (design_of image) registers) (expr_with (bound_of bound) (expr_of (design_of image) e))
  unfolding eval expr_with
  constant_is {v} kind h =
      let d = design_of image in
      let at = x.expressions_at + 8 * e in
      let behind : at + 4 + 2 ≡ at + 6 = omega arith in
      let fields : v ≡ constant_of (node_in image x.expressions_at e) = h ∙ rw behind in
      rw (expr_constant d e kind) (fields ∙ ap constant_of (same_expression here.expression))

  -- behind a kind that is no register's
  pub evaluates_constant :
      {k v : ℕ}
      → (k ≡ 1 → ⊥)
      → k ≡ (node_in image x.expressions_at e).kind
      → (node_in image x.expressions_at e).kind < 2
      → v ≡ constant_in image x.expressions_at e
      → v ≡ eval (values_in (design_of image) registers) (expr_with (bound_of bound) (expr_of (design_of image) e))
  evaluates_constant other p low h = let none = expression_kind_is here.expression p in constant_is (kind_constants (omega arith)) h

  -- ---- an operation, by its kind from 2 on
  kind_below : {k : ℕ} → k ≡ (node_in image x.expressions_at e).kind → k < expression_kinds
  kind_below {k} p = go (ltb k expression_kinds) refl
    where
      go : (w : Bool) → ltb k expression_kinds ≡ w → k < expression_kinds
      go true h = ltb-true k expression_kinds h
      go false h = absurd (rw (no_expression_kind (ltb-false k expression_kinds h)) at (expression_holds_lem here.expression p))

  pub operation_low : {k : ℕ} → k ≡ (node_in image x.expressions_at e).kind → 2 ≤ (node_in image x.expressions_at e).kind → 2 ≤ k
  operation_low p low = omega arith

  pub operation_high : {k : ℕ} → k ≡ (node_in image x.expressions_at e).kind → k ≤ 11
  operation_high p = let below = kind_below p in omega arith

  pub part_a_falls : {a t : ℕ} → a ≡ (node_in image x.expressions_at e).a → e ≡ t → 2 ≤ (node_in image x.expressions_at e).kind → a < t
  part_a_falls f same low = operand_a_falls here.expression (kind_below refl) (omega arith) (λ q. omega arith) refl f same

  pub part_b_falls : {b t : ℕ} → b ≡ (node_in image x.expressions_at e).b → e ≡ t → 2 ≤ (node_in image x.expressions_at e).kind → b < t
  part_b_falls f same low = operand_b_falls here.expression (kind_below refl) (omega arith) (λ q. omega arith) refl f same

  operation_tree :
      2 ≤ (node_in image x.expressions_at e).kind
      → (o : Operation) × (expression_kind (node_in image x.expressions_at e).kind ≡ operates o) × (expr_of (design_of image) e ≡ binary o (expr_of (design_of image) (expression_at (design_of image) e).a) (expr_of (design_of image) (expression_at (design_of image) e).b))
  operation_tree low =
      let found = kind_operates (λ z. omega arith) (λ q. omega arith) (kind_below refl) in
      let fields = same_expression here.expression in
      let lower = part_a_falls (sym (ap (λ (y : Node). y.a) fields)) refl low in
      let lower' = part_b_falls (sym (ap (λ (y : Node). y.b) fields)) refl low in
      (found.0, found.1, expr_binary (design_of image) e (ap expression_kind (expression_kind_is here.expression refl) ∙ found.1) lower lower')

  lower_evaluating : (m : ℕ) → m < e → ReadsFit (design_of image) (bound_of bound) (expr_of (design_of image) m) → Evaluating image x registers bound m
  lower_evaluating m l fits =
      record {
        known = here.known;
        expression = lower_expression here.expression here.known.expressions l;
        fits = fits;
        area = here.area;
      }

  pub part_a_evaluating : {a : ℕ} → a ≡ (node_in image x.expressions_at e).a → 2 ≤ (node_in image x.expressions_at e).kind → Evaluating image x registers bound a
  unfolding ReadsFit
  part_a_evaluating {a = a} f low =
      let fits = rw (operation_tree low).2 at here.fits in
      lower_evaluating a (part_a_falls f refl low) (rw (first_is here.expression f) fits.0)

  pub part_b_evaluating : {b : ℕ} → b ≡ (node_in image x.expressions_at e).b → 2 ≤ (node_in image x.expressions_at e).kind → Evaluating image x registers bound b
  unfolding ReadsFit
  part_b_evaluating {b = b} f low =
      let fits = rw (operation_tree low).2 at here.fits in
      lower_evaluating b (part_b_falls f refl low) (rw (second_is here.expression f) fits.1)

  pub part_a_inside : {a : ℕ} → a ≡ (node_in image x.expressions_at e).a → 2 ≤ (node_in image x.expressions_at e).kind → a < x.expressions
  part_a_inside f low = (part_a_evaluating f low).expression.node

  pub part_b_inside : {b : ℕ} → b ≡ (node_in image x.expressions_at e).b → 2 ≤ (node_in image x.expressions_at e).kind → b < x.expressions
  part_b_inside f low = (part_b_evaluating f low).expression.node

  -- y and z are the values of the parts, each by one of two ways
  pub evaluates_operation :
      {k a b y z m n v : ℕ}
      → k ≡ (node_in image x.expressions_at e).kind
      → a ≡ (node_in image x.expressions_at e).a
      → b ≡ (node_in image x.expressions_at e).b
      → 2 ≤ (node_in image x.expressions_at e).kind
      → y ≡ m
      → m ≡ eval (values_in (design_of image) registers) (expr_with (bound_of bound) (expr_of (design_of image) a))
      → z ≡ n
      → n ≡ eval (values_in (design_of image) registers) (expr_with (bound_of bound) (expr_of (design_of image) b))
      → ((o : Operation) → expression_kind k ≡ operates o → v ≡ apply o y z)
      → v ≡ eval (values_in (design_of image) registers) (expr_with (bound_of bound) (expr_of (design_of image) e))
  unfolding eval expr_with
  evaluates_operation p f g low first value second other applied =
      let tree = operation_tree low in
      rw tree.2 (applied tree.0 (ap expression_kind p ∙ tree.1) ∙ rw (first, value, second, other, first_is here.expression f, second_is here.expression g))

-- ---- the arms of a match on the kind byte
pub operation_kind : {k m : ℕ} → 2 ≤ k → k ≡ m → 2 ≤ m
operation_kind l p = omega arith

pub leaf_low : {k m : ℕ} → k < 2 → k ≡ m → m < 2
leaf_low l p = omega arith

-- no number from here on is a kind
module _ {image : List ℕ} {x : Design} {registers : List ℕ} {bound e k : ℕ} (here : Evaluating image x registers bound e) where
  pub leaf_high : expression_kinds ≤ k → k ≡ (node_in image x.expressions_at e).kind → (node_in image x.expressions_at e).kind < 2
  leaf_high l p = let below = kind_below here p in omega arith

  pub part_a_high : {a : ℕ} → expression_kinds ≤ k → k ≡ (node_in image x.expressions_at a).kind → a ≡ (node_in image x.expressions_at e).a → 2 ≤ (node_in image x.expressions_at e).kind → (node_in image x.expressions_at a).kind < 2
  part_a_high l p f low = let below = kind_below (part_a_evaluating here f low) p in omega arith

  pub part_b_high : {b : ℕ} → expression_kinds ≤ k → k ≡ (node_in image x.expressions_at b).kind → b ≡ (node_in image x.expressions_at e).b → 2 ≤ (node_in image x.expressions_at e).kind → (node_in image x.expressions_at b).kind < 2
  part_b_high l p f low = let below = kind_below (part_b_evaluating here f low) p in omega arith

pub ruleset leaf_laws = (read_inside, evaluates_register, evaluates_constant)
