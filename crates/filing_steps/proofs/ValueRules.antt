-- The expressions of a command: an assignment and an if have one, whose tree they are; the other kinds have none.
use Prim.Native.Nat.{ℕ, ◌+◌, ◌≤◌, ◌<◌}
use mathlib.Core.Path.{◌≡◌, refl, sym, ◌∙◌, ap}
use mathlib.Core.Logic.{◌⊎◌, inl, inr, ⊎_elim}
use mathlib.Core.List.{List, [], ◌∷◌, append-nil}
use native.Mathlib.Omega.{arith}
use lib.ListN.{length}
use Rattle.model.specs.Image.{Node, design_of, command_at}
use Rattle.model.specs.Kinds.{CommandKind, skips, assigns, sequences, falls, goes, branches, unknown_command, command_kind}
use Rattle.model.specs.Nodes.{expressions_of, operands_of}
use Rattle.model.specs.Indices.{join_each}
use Rattle.model.proofs.Laws.Kinds.{kind_assigns, kind_branches, assigns_number, branches_number}
use Rattle.design.specs.declared.Design.{Design as Described}
use Rattle.design.specs.Records.{node_in}
use Rattle.design.specs.RecordsAt.{CommandAt}
use Rattle.design.specs.Kept.{Structured}
use Rattle.design.proofs.Laws.{expressions_count}
use Rattle.design.proofs.FieldRules.{command_kind_is, command_kind_of, a_is, expression_at_lem, assigned_expression, condition}
use Rattle.filing_model.specs.Filed.{parts_first, value_order}
use Rattle.filing_steps.specs.Ordering.{PutFrom, OrderingExpression}
use Rattle.filing_steps.proofs.OrderingRules.{put_none}

assign_value : {kind : CommandKind} (x : Node) → kind ≡ assigns → expressions_of kind x ≡ x.a ∷ []
unfolding expressions_of
assign_value x e = rw e

branch_value : {kind : CommandKind} (x : Node) → kind ≡ branches → expressions_of kind x ≡ x.a ∷ []
unfolding expressions_of
branch_value x e = rw e

no_value : (kind : CommandKind) (x : Node) → (kind ≡ assigns → ⊥) → (kind ≡ branches → ⊥) → expressions_of kind x ≡ []
unfolding expressions_of
no_value skips x a b = refl
no_value assigns x a b = absurd (a refl)
no_value sequences x a b = refl
no_value falls x a b = refl
no_value goes x a b = refl
no_value branches x a b = absurd (b refl)
no_value unknown_command x a b = refl

each_one : (f : ℕ → List ℕ) {xs : List ℕ} (e : ℕ) → xs ≡ e ∷ [] → join_each f xs ≡ f e
unfolding join_each
each_one f e h = rw h (append-nil (f e))

each_none : (f : ℕ → List ℕ) {xs : List ℕ} → xs ≡ [] → join_each f xs ≡ []
unfolding join_each
each_none f h = rw h

module _ {image : List ℕ} {x : Described} {place n kind : ℕ} (at : CommandAt image x place n) where
  kind_of : (c : CommandKind) → kind ≡ (node_in image place n).kind → command_kind kind ≡ c → command_kind (command_at (design_of image) n).kind ≡ c
  kind_of c f e = command_kind_of at c refl f e

  -- the expression of an assignment or of an if
  value_one : {e : ℕ} → (kind ≡ 1) ⊎ (kind ≡ 5) → kind ≡ (node_in image place n).kind → e ≡ (node_in image place n).a → value_order (design_of image) n ≡ parts_first (operands_of (design_of image)) e
  value_one {e} one f g =
      each_one
      (parts_first (operands_of (design_of image)))
      e
      (⊎_elim
      (λ (z : kind ≡ 1). assign_value (command_at (design_of image) n) (kind_of assigns f (kind_assigns z)))
      (λ (z : kind ≡ 5). branch_value (command_at (design_of image) n) (kind_of branches f (kind_branches z)))
      one
      ∙ ap (λ (m : ℕ). m ∷ []) (sym (a_is at g)))

  value_none : ((kind ≡ 1) ⊎ (kind ≡ 5) → ⊥) → kind ≡ (node_in image place n).kind → value_order (design_of image) n ≡ []
  value_none none f =
      let byte : kind ≡ (command_at (design_of image) n).kind = sym (command_kind_is at refl f) in
      each_none
      (parts_first (operands_of (design_of image)))
      (no_value
      (command_kind (command_at (design_of image) n).kind)
      (command_at (design_of image) n)
      (λ e. none (inl (assigns_number kind (ap command_kind byte ∙ e))))
      (λ e. none (inr (branches_number kind (ap command_kind byte ∙ e)))))

  value_below : {e : ℕ} → (kind ≡ 1) ⊎ (kind ≡ 5) → kind ≡ (node_in image place n).kind → e ≡ (node_in image place n).a → e < x.expressions
  value_below one f g =
      let below = ⊎_elim (λ (z : kind ≡ 1). assigned_expression at z f g) (λ (z : kind ≡ 5). condition at z f g) one in
      omega (arith, expressions_count at.describes)

pub value_ordering :
    {image order : List ℕ} {x : Described} {place n kind k e : ℕ}
    → (kind ≡ 1) ⊎ (kind ≡ 5)
    → CommandAt image x place n
    → kind ≡ (node_in image place n).kind
    → e ≡ (node_in image place n).a
    → Structured image x
    → k + length (value_order (design_of image) n) ≤ length order
    → OrderingExpression image x e order k
value_ordering {x = x} one at f g here room =
    record {
      expressions = here.records.expressions;
      expression = expression_at_lem here.records.describes here.records.expressions (value_below at one f g) refl;
      room = rw (value_one at one f g) at room;
    }

pub value_put :
    {image before after : List ℕ} {x : Described} {place n kind k e next : ℕ}
    → (kind ≡ 1) ⊎ (kind ≡ 5)
    → CommandAt image x place n
    → kind ≡ (node_in image place n).kind
    → e ≡ (node_in image place n).a
    → PutFrom (parts_first (operands_of (design_of image)) e) k before next after
    → PutFrom (value_order (design_of image) n) k before next after
value_put one at f g p = rw (value_one at one f g) p

pub no_value_put :
    {image : List ℕ} {x : Described} {place n kind : ℕ} (order : List ℕ) (k : ℕ)
    → ((kind ≡ 1) ⊎ (kind ≡ 5) → ⊥)
    → CommandAt image x place n
    → kind ≡ (node_in image place n).kind
    → PutFrom (value_order (design_of image) n) k order k order
no_value_put order k none at f = rw (value_none at none f) (put_none order k)
