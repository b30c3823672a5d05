-- What a place says, the first of two lists of faults, and what the flow pass gives at an expression and at an assignment: the mask of an expression is one of the
-- labels that it reads, by induction over node numbers.
use Prim.Native.Nat.{ℕ, zero, suc, ◌≤◌, ◌<◌}
use mathlib.Core.Path.{◌≡◌, refl, sym, ◌∙◌, ap, ap₂}
use mathlib.Core.Bool.{Bool, true, false}
use mathlib.Core.List.{List, [], ◌∷◌, ◌++◌, map}
use native.Mathlib.Omega.{arith}
use native.Mathlib.Decide.{dec_lt}
use lib.Bits.{bit_and}
use lib.Dec.{ltb}
use lib.ListN.{length, get_or}
use borrow.Author.Tests.{lt-ltb, le-ltb}
use Rattle.model.specs.declared.Refusal.{Refusal}
use Rattle.model.specs.declared.Refusal.TheVariants.{AssignFlow, GotoFlow, FallFlow}
use Rattle.model.specs.Answers.{Answer, Accepted, Refused}
use Rattle.model.specs.Image.{Design as Table, Node, design_of, command_at, expression_at, constant_of}
use Rattle.model.specs.Limits.{registers_max, commands_max}
use Rattle.model.specs.Kinds.{Operation, ExpressionKind, constants, reads, operates, unknown_expression, command_kind, expression_kind}
use Rattle.model.specs.Trees.{Expr, constant, register, binary, expr_of, registers_read}
use Rattle.model.specs.Parameters.{label_byte}
use Rattle.model.specs.Labelling.{relabelled}
use Rattle.model.specs.Flow.{refused_unless, labels_read, first_of, flow_refusal}
use Rattle.model.specs.Rules.{RegisterByte, ReadsScoped, ExpressionHolds}
use Rattle.model.specs.Verdict.{◌before◌}
use Rattle.model.proofs.Laws.Booleans.{cond_true, cond_false}
use Rattle.model.proofs.Laws.Indices.{nothing_below_zero}
use Rattle.model.proofs.Exact.Records.{expression_iff}
use Rattle.model.proofs.Laws.Kinds.{expression_kinds, kind_constants, no_expression_kind}
use Rattle.model.proofs.Laws.Firsts.{AreRefusals, first_append}
use Rattle.model.proofs.Laws.Trees.{expr_constant, expr_register, expr_binary}
use Rattle.design.specs.declared.Design.{Design}
use Rattle.design.specs.Records.{node_in}
use Rattle.design.specs.Describes.{Describes}
use Rattle.design.proofs.Laws.{commands_count, expressions_count, command_in, registers_few}
use Rattle.design.proofs.FieldRules.{same_command, item_is, a_is, assigned_byte, assigned_expression, expression_at_lem, expression_kind_is, read_is, first_is, second_is, expression_holds_lem, read_byte, operation, operand_a_below, operand_b_below, lower_expression}
use Rattle.design.proofs.BoundRules.{labels_few}
use Rattle.checker_bodies.specs.Places.{place_unless}
use Rattle.checker_flow.specs.Masks.{all_bits, MaskOf, Masks}
use Rattle.checker_flow.specs.Flows.{Named, Entered, label_in, mask_read, has_bit, first_place, assign_place, Gathering, Assigning, answer_among}
use Rattle.checker_flow.proofs.MaskRules.{mask_both, mask_none, named_byte, byte_entered, byte_label_small, label_is, label_byte_lem}

-- ---- what a place says
-- a place that says the first of the faults; it is a command's number or past all that there may be
pub record FirstAt (d : Table) (place : ℕ) (faults : List Answer) : Type 0 where
  pub says : answer_among d place ≡ first_of faults
  pub command : place < commands_max → place < length d.commands

-- the first of two places
pub place_stops : {p : ℕ} (q : ℕ) → p < commands_max → first_place p q ≡ p
place_stops {p} q l = cond_true (ltb p commands_max) p q (lt-ltb p commands_max l)

pub place_goes_on : {p : ℕ} (q : ℕ) → commands_max ≤ p → first_place p q ≡ q
place_goes_on {p} q l = cond_false (ltb p commands_max) p q (le-ltb p commands_max l)

module _ (d : Table) where
  pub answer_at : {place : ℕ} → place < length d.commands → answer_among d place ≡ Refused (flow_refusal (command_kind (command_at d place).kind)) place
  unfolding answer_among
  answer_at {place} l = rw (lt-ltb place (length d.commands) l)

  pub answer_none : {place : ℕ} → length d.commands ≤ place → answer_among d place ≡ Accepted 0
  unfolding answer_among
  answer_none {place} l = rw (le-ltb place (length d.commands) l)

  -- a command is refused by the rule of its kind
  pub first_charged : {n : ℕ} {r : Refusal} (b : Bool) → n < length d.commands → length d.commands ≤ commands_max → flow_refusal (command_kind (command_at d n).kind) ≡ r
      → FirstAt d (place_unless b n) (refused_unless b r n)
  unfolding first_of
  first_charged true l m e = record { says = answer_none m; command = λ h. absurd (omega arith) }
  first_charged {n} false l m e = record { says = answer_at l ∙ ap (λ (r : Refusal). Refused r n) e; command = λ h. l }

  -- none
  pub first_nowhere : length d.commands ≤ commands_max → FirstAt d commands_max []
  unfolding first_of
  first_nowhere m = record { says = answer_none m; command = λ h. absurd (omega arith) }

  -- the first of two lists of faults: that of the first list, unless there is none
  pub first_both : {xs ys : List Answer} {p q : ℕ} → length d.commands ≤ commands_max → AreRefusals xs → FirstAt d p xs → FirstAt d q ys → FirstAt d (first_place p q) (xs ++ ys)
  unfolding ◌before◌
  first_both {xs} {ys} {p} {q} m refusals first second = go (dec_lt p commands_max)
    where
      go : Dec (p < commands_max) → FirstAt d (first_place p q) (xs ++ ys)
      go (yes l) =
          let refused = sym first.says ∙ answer_at (first.command l) in
          rw (place_stops q l) (record { says = answer_at (first.command l) ∙ sym (first_append ys refusals ∙ rw refused); command = first.command })
      go (no l) =
          let high : commands_max ≤ p = omega (arith, l) in
          let none = sym first.says ∙ answer_none (omega arith) in
          rw (place_goes_on q high) (record { says = second.says ∙ sym (first_append ys refusals ∙ rw none); command = second.command })

-- the refusal of a kind, by its number
fall_otherwise : (k : ℕ) → (k ≡ 1 → ⊥) → (k ≡ 4 → ⊥) → FallFlow ≡ flow_refusal (command_kind k)
unfolding command_kind flow_refusal
fall_otherwise zero a b = refl
fall_otherwise (suc zero) a b = absurd (a refl)
fall_otherwise (suc (suc zero)) a b = refl
fall_otherwise (suc (suc (suc zero))) a b = refl
fall_otherwise (suc (suc (suc (suc zero)))) a b = absurd (b refl)
fall_otherwise (suc (suc (suc (suc (suc zero))))) a b = refl
fall_otherwise (suc (suc (suc (suc (suc (suc k)))))) a b = refl

module _ {image : List ℕ} {x : Design} {place : ℕ} (described : Describes image x) where
  pub told_accepted : x.commands ≤ place → Accepted 0 ≡ answer_among (design_of image) place
  told_accepted l = let count = commands_count described in sym (answer_none (design_of image) (omega arith))

  told : {k : ℕ} {r : Refusal} → place < x.commands → k ≡ (node_in image x.commands_at place).kind → r ≡ flow_refusal (command_kind k) → Refused r place ≡ answer_among (design_of image) place
  told l p e =
      let count = commands_count described in
      let kind = p ∙ ap (λ (y : Node). y.kind) (command_in described l) in
      ap (λ (r : Refusal). Refused r place) (e ∙ ap (λ (k : ℕ). flow_refusal (command_kind k)) kind) ∙ sym (answer_at (design_of image) (omega arith))

  pub told_assign : {k : ℕ} → k ≡ 1 → place < x.commands → k ≡ (node_in image x.commands_at place).kind → Refused AssignFlow place ≡ answer_among (design_of image) place
  unfolding command_kind flow_refusal
  told_assign q l p = told l p (sym (ap (λ (k : ℕ). flow_refusal (command_kind k)) q))

  pub told_goto : {k : ℕ} → k ≡ 4 → place < x.commands → k ≡ (node_in image x.commands_at place).kind → Refused GotoFlow place ≡ answer_among (design_of image) place
  unfolding command_kind flow_refusal
  told_goto q l p = told l p (sym (ap (λ (k : ℕ). flow_refusal (command_kind k)) q))

  pub told_fall : {k : ℕ} → (k ≡ 1 → ⊥) → (k ≡ 4 → ⊥) → place < x.commands → k ≡ (node_in image x.commands_at place).kind → Refused FallFlow place ≡ answer_among (design_of image) place
  told_fall {k} a b l p = told l p (fall_otherwise k a b)

pub ruleset told_laws = (told_accepted, told_assign, told_goto, told_fall)

-- ---- expressions
labels_append : (d : Table) (rs ss : List ℕ) → map (label_byte d) (rs ++ ss) ≡ map (label_byte d) rs ++ map (label_byte d) ss
labels_append d [] ss = refl
labels_append d (r ∷ rs) ss = ap (λ (more : List ℕ). label_byte d r ∷ more) (labels_append d rs ss)

labels_binary : (d : Table) (o : Operation) (p q : Expr) → labels_read d (binary o p q) ≡ labels_read d p ++ labels_read d q
unfolding labels_read registers_read
labels_binary d o p q = labels_append d (registers_read p) (registers_read q)

labels_register : (d : Table) (n r : ℕ) → labels_read d (register n r) ≡ label_byte d r ∷ []
unfolding labels_read registers_read
labels_register d n r = refl

labels_constant : (d : Table) (v : ℕ) → labels_read d (constant v) ≡ []
unfolding labels_read registers_read
labels_constant d v = refl

module _ {image labels : List ℕ} {x : Design} {e : ℕ} (here : Gathering image labels x e) where
  abbrev d : Table
  d = design_of image

  few : length (design_of image).registers ≤ registers_max
  few = registers_few here.known.describes

  pub read_entered : {k r : ℕ} → k ≡ 1 → k ≡ (node_in image x.expressions_at e).kind → r ≡ (node_in image x.expressions_at e).item → Entered labels r
  read_entered q p f = byte_entered few here.labelling (read_byte here.expression q p f)

  pub read_label_inside : {k r : ℕ} → k ≡ 1 → k ≡ (node_in image x.expressions_at e).kind → r ≡ (node_in image x.expressions_at e).item → label_in labels r < 18
  read_label_inside q p f = byte_label_small few here.labelling (labels_few here.known.describes) (read_byte here.expression q p f)

  lower_gathering : (m : ℕ) → m < e → Gathering image labels x m
  lower_gathering m l =
      record { known = here.known; labelling = here.labelling; expression = lower_expression here.expression here.known.expressions l }

  pub operand_a_gathering : {k a : ℕ} → k < expression_kinds → 1 ≤ k → (k ≡ 1 → ⊥) → k ≡ (node_in image x.expressions_at e).kind → a ≡ (node_in image x.expressions_at e).a → Gathering image labels x a
  operand_a_gathering {a = a} u l other p f = lower_gathering a (operand_a_below here.expression u l other p f)

  pub operand_b_gathering : {k b : ℕ} → k < expression_kinds → 1 ≤ k → (k ≡ 1 → ⊥) → k ≡ (node_in image x.expressions_at e).kind → b ≡ (node_in image x.expressions_at e).b → Gathering image labels x b
  operand_b_gathering {b = b} u l other p f = lower_gathering b (operand_b_below here.expression u l other p f)

  -- ---- what is read
  pub gathers_register : (masks : List ℕ) {k r m : ℕ} → k ≡ 1 → k ≡ (node_in image x.expressions_at e).kind → r ≡ (node_in image x.expressions_at e).item → m ≡ get_or masks (label_in labels r) 0 → m ≡ mask_read labels masks (expr_of (design_of image) e)
  unfolding expression_kind mask_read
  gathers_register masks q p f g =
      let tree = expr_register d e (ap expression_kind (expression_kind_is here.expression p ∙ q)) in
      g ∙ ap (λ (r : ℕ). get_or masks (label_in labels r) 0) (read_is here.expression f) ∙ sym (ap (mask_read labels masks) tree)

  pub gathers_operation :
      (masks : List ℕ) {k a b m n : ℕ}
      → k < expression_kinds
      → 1 ≤ k
      → (k ≡ 1 → ⊥)
      → k ≡ (node_in image x.expressions_at e).kind
      → a ≡ (node_in image x.expressions_at e).a
      → b ≡ (node_in image x.expressions_at e).b
      → m ≡ mask_read labels masks (expr_of (design_of image) a)
      → n ≡ mask_read labels masks (expr_of (design_of image) b)
      → bit_and m n ≡ mask_read labels masks (expr_of (design_of image) e)
  unfolding mask_read
  gathers_operation masks {a = a} {b = b} u l other p f g first second =
      let o = operation here.expression u l other p in
      let is : a ≡ (expression_at d e).a = first_is here.expression f in
      let is' : b ≡ (expression_at d e).b = second_is here.expression g in
      let lower = rw is at (operand_a_below here.expression u l other p f) in
      let lower' = rw is' at (operand_b_below here.expression u l other p g) in
      let tree : expr_of d e ≡ binary o.0 (expr_of d a) (expr_of d b) = rw (is, is') (expr_binary d e o.1 lower lower') in
      ap₂ bit_and first second ∙ sym (ap (mask_read labels masks) tree)

  pub gathers_low : (masks : List ℕ) {k : ℕ} → k < 1 → k ≡ (node_in image x.expressions_at e).kind → all_bits ≡ mask_read labels masks (expr_of (design_of image) e)
  unfolding mask_read
  gathers_low masks l p =
      let none = expression_kind_is here.expression p in
      sym (ap (mask_read labels masks) (expr_constant d e (kind_constants (omega arith))))

  -- no number from here on is a kind
  pub gathers_high : (masks : List ℕ) {k : ℕ} → expression_kinds ≤ k → k ≡ (node_in image x.expressions_at e).kind → all_bits ≡ mask_read labels masks (expr_of (design_of image) e)
  gathers_high masks l p = absurd (rw (no_expression_kind l) at (expression_holds_lem here.expression p))

pub ruleset reads_laws = (read_entered, read_label_inside, gathers_register, gathers_operation, gathers_low, gathers_high)

-- that mask is a mask of the labels read, in each state in which the expression may stand
abbrev Read : Table → List ℕ → List ℕ → ℕ → ℕ → Type 0
Read y labels masks s e = ReadsScoped y s (expr_of y e) → MaskOf y s (labels_read (relabelled y labels) (expr_of y e)) (mask_read labels masks (expr_of y e))

module _ {image : List ℕ} (labels : List ℕ) {masks : List ℕ} {s : ℕ} (table : Masks (design_of image) s masks) where
  read_one : (e : ℕ) {x : Design} → Gathering image labels x e → ((m : ℕ) → m < e → Read (design_of image) labels masks s m) → Read (design_of image) labels masks s e
  unfolding mask_read
  read_one e here below scoped = go (expression_kind (expression_at (design_of image) e).kind) refl ((expression_iff (design_of image) e).0 here.expression.kept)
    where
      few : length (design_of image).registers ≤ registers_max
      few = registers_few here.known.describes

      go : (kind : ExpressionKind) → expression_kind (expression_at (design_of image) e).kind ≡ kind → ExpressionHolds (design_of image) e kind (expression_at (design_of image) e) → MaskOf (design_of image) s (labels_read (relabelled (design_of image) labels) (expr_of (design_of image) e)) (mask_read labels masks (expr_of (design_of image) e))
      go constants is holds = rw (expr_constant (design_of image) e is, labels_constant (relabelled (design_of image) labels) (constant_of (expression_at (design_of image) e))) (mask_none (labels_few here.known.describes) table.short)
      go reads is holds =
          let r = (expression_at (design_of image) e).item in
          let tree = expr_register (design_of image) e is in
          let named : Named (design_of image) s r = named_byte few holds.0 (rw tree at scoped) in
          rw (tree, labels_register (relabelled (design_of image) labels) e r, ← (label_is few here.labelling named)) (table.entry (label_in labels r) (label_byte_lem few here.labelling named))
      go (operates o) is holds =
          let tree = expr_binary (design_of image) e is holds.1 holds.2 in
          let parts : ReadsScoped (design_of image) s (binary o (expr_of (design_of image) (expression_at (design_of image) e).a) (expr_of (design_of image) (expression_at (design_of image) e).b)) = rw tree at scoped in
          rw (tree, labels_binary (relabelled (design_of image) labels) o (expr_of (design_of image) (expression_at (design_of image) e).a) (expr_of (design_of image) (expression_at (design_of image) e).b)) (mask_both (below (expression_at (design_of image) e).a holds.1 parts.0) (below (expression_at (design_of image) e).b holds.2 parts.1))
      go unknown_expression is holds = absurd holds

  read_below : (f e : ℕ) {x : Design} → e < f → Gathering image labels x e → Read (design_of image) labels masks s e
  read_below zero e l here = absurd (nothing_below_zero l)
  read_below (suc f) e l here = read_one e here (λ m h. read_below f m (omega arith) (lower_gathering here m h))

  pub read_is_mask : (e : ℕ) {x : Design} → Gathering image labels x e → ReadsScoped (design_of image) s (expr_of (design_of image) e)
      → MaskOf (design_of image) s (labels_read (relabelled (design_of image) labels) (expr_of (design_of image) e)) (mask_read labels masks (expr_of (design_of image) e))
  read_is_mask e here = read_below (suc e) e (omega arith) here

-- ---- an assignment
module _ {image labels : List ℕ} {x : Design} {n : ℕ} (a : Assigning image labels x n) where
  abbrev y : Table
  y = design_of image

  -- the kind byte
  assigns_byte : (node_in image x.commands_at n).kind ≡ 1
  assigns_byte = ap (λ (y : Node). y.kind) (same_command a.command) ∙ a.kind

  assigned_few : length (design_of image).registers ≤ registers_max
  assigned_few = registers_few a.known.describes

  written_byte : {r : ℕ} → r ≡ (node_in image x.commands_at n).item → RegisterByte (design_of image) r
  written_byte f = assigned_byte a.command assigns_byte refl f

  pub assigned_entered : {r : ℕ} → r ≡ (node_in image x.commands_at n).item → Entered labels r
  assigned_entered f = byte_entered assigned_few a.labelling (written_byte f)

  pub assigned_label_small : {r l : ℕ} → r ≡ (node_in image x.commands_at n).item → l ≡ label_in labels r → l < 64
  assigned_label_small f g = let small = byte_label_small assigned_few a.labelling (labels_few a.known.describes) (written_byte f) in omega arith

  pub assigned_gathering : {e : ℕ} → e ≡ (node_in image x.commands_at n).a → Gathering image labels x e
  assigned_gathering f =
      let count = expressions_count a.known.describes in
      let below = assigned_expression a.command assigns_byte refl f in
      record {
        known = a.known;
        labelling = a.labelling;
        expression = expression_at_lem a.known.describes a.known.expressions (omega arith) refl;
      }

  pub assign_rule :
      (masks : List ℕ) (context : ℕ) {r e l m : ℕ} {b : Bool} {answer : ℕ}
      → r ≡ (node_in image x.commands_at n).item
      → e ≡ (node_in image x.commands_at n).a
      → m ≡ mask_read labels masks (expr_of (design_of image) e)
      → l ≡ label_in labels r
      → b ≡ has_bit (bit_and context m) l
      → answer ≡ place_unless b n
      → answer ≡ assign_place labels masks context n (command_at (design_of image) n).item (expr_of (design_of image) (command_at (design_of image) n).a)
  unfolding assign_place
  assign_rule masks context fr fe read fl fb fa = fa ∙ rw (fb, fl, read, item_is a.command fr, a_is a.command fe) refl
