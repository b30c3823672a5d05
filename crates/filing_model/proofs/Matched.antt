-- Two orders match numbers: a number goes to the one that stands in the second order where it stands in the first. So where two records are the same under the places of the one
-- order and of the other, the second is the first under the matched numbers.
use Prim.Native.Nat.{ℕ, ◌<◌}
use mathlib.Core.Path.{◌≡◌, sym, ◌∙◌, ap}
use mathlib.Core.List.{List}
use native.Mathlib.Omega.{arith}
use lib.ListN.{length, get_or}
use Rattle.model.specs.Image.{Design, State, Node}
use Rattle.model.specs.Kinds.{CommandKind, skips, assigns, sequences, falls, goes, branches, unknown_command, ExpressionKind, constants, reads, unknown_expression, operates}
use Rattle.model.specs.Rules.{CommandHolds, ExpressionHolds}
use Rattle.renumbering.specs.Renumbering.{renumbered_state, renumbered_command, renumbered_expression}
use Rattle.filing_model.specs.Filed.{place_in}
use Rattle.filing_model.proofs.Places.{place_below, place_entry, places_apart, entry_stands}
use Rattle.filing_model.proofs.Counts.{Enumerates, enumerated, enumerated_long, enumerated_place}

abbrev pub matched : List ℕ → List ℕ → ℕ → ℕ
matched xs ys n = get_or ys (place_in xs n) 0

-- ---- numbers below a count, each once in either order
module _ {xs ys : List ℕ} {count : ℕ} (here : Enumerates xs count) (there : Enumerates ys count) where
  place_there : (n : ℕ) → n < count → place_in xs n < length ys
  place_there n l = omega (arith, place_below xs n (enumerated here n l), enumerated_long here, enumerated_long there)

  pub matched_below : (n : ℕ) → n < count → matched xs ys n < count
  matched_below n l = there.below (matched xs ys n) (entry_stands ys (place_in xs n) (place_there n l))

  pub matched_place : (n : ℕ) → n < count → place_in ys (matched xs ys n) ≡ place_in xs n
  matched_place n l = enumerated_place there (place_in xs n) (omega (arith, place_there n l, enumerated_long there))

  pub matched_apart : (n m : ℕ) → n < count → m < count → matched xs ys n ≡ matched xs ys m → n ≡ m
  matched_apart n m l k e =
      places_apart xs n m (enumerated here n l) (enumerated here m k) (sym (matched_place n l) ∙ ap (place_in ys) e ∙ matched_place m k)

-- what stands at the same place is matched
pub matched_is : {ys : List ℕ} {count : ℕ} → Enumerates ys count → (xs : List ℕ) (n m : ℕ) → m < count → place_in xs n ≡ place_in ys m → m ≡ matched xs ys n
matched_is {ys} there xs n m l e = sym (place_entry ys m (enumerated there m l)) ∙ ap (λ (i : ℕ). get_or ys i 0) (sym e)

pub matched_all : {xs ys : List ℕ} {count : ℕ} → Enumerates xs count → Enumerates ys count → (m : ℕ) → m < count → (n : ℕ) × (n < count) × (matched xs ys n ≡ m)
matched_all {xs} {ys} here there m l =
    (matched ys xs m, matched_below there here m l, sym (matched_is there xs (matched ys xs m) m l (matched_place there here m l)))

-- ---- records
-- commands in the orders xs and ys, expressions in the orders us and vs; each second one has every node of design d'
module _ (xs us : List ℕ) {ys vs : List ℕ} (d' : Design) (commands : Enumerates ys (length d'.commands)) (expressions : Enumerates vs (length d'.expressions)) where
  number_is : (n m : ℕ) → m < length d'.commands → place_in xs n ≡ place_in ys m → m ≡ matched xs ys n
  number_is = matched_is commands xs

  value_is : (n m : ℕ) → m < length d'.expressions → place_in us n ≡ place_in vs m → m ≡ matched us vs n
  value_is = matched_is expressions us

  pub state_matched :
      (x y : State)
      → y.command < length d'.commands
      → renumbered_state (λ s. s) (place_in xs) (place_in us) x ≡ renumbered_state (λ s. s) (place_in ys) (place_in vs) y
      → y ≡ renumbered_state (λ s. s) (matched xs ys) (matched us vs) x
  unfolding renumbered_state
  state_matched x y l same =
      let body = number_is x.command y.command l (ap (λ (z : State). z.command) same) in
      λ i. record {
        parent = (sym same i).parent;
        label = (sym same i).label;
        command = body i;
        parameters = (sym same i).parameters;
        first_lower = (sym same i).first_lower;
        first_upper = (sym same i).first_upper;
        second_lower = (sym same i).second_lower;
        second_upper = (sym same i).second_upper;
      }

  pub command_matched :
      (m : ℕ)
      → m < length d'.commands
      → (k : CommandKind) (x y : Node)
      → CommandHolds d' m k y
      → renumbered_command (λ s. s) (place_in xs) (place_in us) k x ≡ renumbered_command (λ s. s) (place_in ys) (place_in vs) k y
      → y ≡ renumbered_command (λ s. s) (matched xs ys) (matched us vs) k x
  unfolding renumbered_command
  command_matched m l skips x y h same = sym same
  command_matched m l assigns x y h same =
      let a = value_is x.a y.a h.1 (ap (λ (z : Node). z.a) same) in
      λ i. record { kind = (sym same i).kind; item = (sym same i).item; a = a i; b = (sym same i).b; c = (sym same i).c }
  command_matched m l sequences x y h same =
      let low : y.a < m = h.1 in
      let high : y.b < m = h.2 in
      let a = number_is x.a y.a (omega arith) (ap (λ (z : Node). z.a) same) in
      let b = number_is x.b y.b (omega arith) (ap (λ (z : Node). z.b) same) in
      λ i. record { kind = (sym same i).kind; item = (sym same i).item; a = a i; b = b i; c = (sym same i).c }
  command_matched m l falls x y h same = sym same
  command_matched m l goes x y h same = sym same
  command_matched m l branches x y h same =
      let low : y.b < m = h.2 in
      let high : y.c < m = h.3 in
      let a = value_is x.a y.a h.1 (ap (λ (z : Node). z.a) same) in
      let b = number_is x.b y.b (omega arith) (ap (λ (z : Node). z.b) same) in
      let c = number_is x.c y.c (omega arith) (ap (λ (z : Node). z.c) same) in
      λ i. record { kind = (sym same i).kind; item = (sym same i).item; a = a i; b = b i; c = c i }
  command_matched m l unknown_command x y h same = absurd h

  pub expression_matched :
      (m : ℕ)
      → m < length d'.expressions
      → (k : ExpressionKind) (x y : Node)
      → ExpressionHolds d' m k y
      → renumbered_expression (λ s. s) (place_in xs) (place_in us) k x ≡ renumbered_expression (λ s. s) (place_in ys) (place_in vs) k y
      → y ≡ renumbered_expression (λ s. s) (matched xs ys) (matched us vs) k x
  unfolding renumbered_expression
  expression_matched m l constants x y h same = sym same
  expression_matched m l reads x y h same = sym same
  expression_matched m l (operates o) x y h same =
      let low : y.a < m = h.1 in
      let high : y.b < m = h.2 in
      let a = value_is x.a y.a (omega arith) (ap (λ (z : Node). z.a) same) in
      let b = value_is x.b y.b (omega arith) (ap (λ (z : Node). z.b) same) in
      λ i. record { kind = (sym same i).kind; item = (sym same i).item; a = a i; b = b i; c = (sym same i).c }
  expression_matched m l unknown_expression x y h same = absurd h
