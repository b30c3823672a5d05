-- Where every owner stays, every node does: it is used, by an owner or by a node of a higher number, and on the way up there is an owner in the end. And a record whose numbers all stay
-- what they were is as it was.
use Prim.Native.Nat.{ℕ, zero, suc, ◌+◌, ◌≤◌, ◌<◌}
use mathlib.Core.Path.{◌≡◌, refl}
use mathlib.Core.Logic.{⊎_elim}
use mathlib.Core.List.{List, ◌++◌, Memᴰ}
use native.Mathlib.Omega.{arith}
use lib.ListN.{length}
use Rattle.model.specs.Indices.{occurrences, join_below}
use Rattle.model.specs.Image.{Design, State, Node}
use Rattle.model.specs.Kinds.{CommandKind, skips, assigns, sequences, falls, goes, branches, unknown_command, ExpressionKind, constants, reads, unknown_expression, operates}
use Rattle.model.specs.Rules.{CommandHolds, ExpressionHolds}
use Rattle.model.proofs.Laws.Among.{join_cases}
use Rattle.renumbering.specs.Renumbering.{renumbered_state, renumbered_command, renumbered_expression}
use Rattle.renumbering.proofs.Uses.{occurs_in}

-- ---- every node stays, for commands and for expressions alike: nodes of a family, `count` of them, each used by one of so many owners or by a higher node
module _ (Stays : ℕ → Type 0) (owners count : ℕ) (used parts : ℕ → List ℕ)
    (once : (n : ℕ) → n < count → occurrences n (join_below used owners ++ join_below parts count) ≡ 1)
    (lower : (n p : ℕ) → n < count → Memᴰ p (parts n) → p < n)
    (used-stays : (o n : ℕ) → o < owners → Memᴰ n (used o) → Stays n)
    (part_stays : (n p : ℕ) → Stays n → Memᴰ p (parts n) → Stays p) where
  all_above : (f n : ℕ) → n < count → count ≤ n + f → Stays n
  all_above zero n l k = absurd (omega arith)
  all_above (suc f) n l k =
      ⊎_elim
      (λ (h : Memᴰ n (join_below used owners)). let (o, below, m) = join_cases used n owners h in used-stays o n below m)
      (λ (h : Memᴰ n (join_below parts count)).
      let (o, below, m) = join_cases parts n count h in
      let above = lower o n below m in
      part_stays o n (all_above f o below (omega arith)) m)
      (mathlib.Core.List.Memᴰ.append_cases (join_below used owners) (occurs_in n _ (omega (arith, once n l))))

  pub all_stay : (n : ℕ) → n < count → Stays n
  all_stay n l = all_above count n l (omega arith)

-- ---- records whose numbers stay are as they were
module _ (state command expression : ℕ → ℕ) where
  pub state_same : (x : State) → state x.parent ≡ x.parent → command x.command ≡ x.command → renumbered_state state command expression x ≡ x
  unfolding renumbered_state
  state_same x above body = rw (above, body)

  module _ (d : Design) (n : ℕ) (expressions : (e : ℕ) → e < length d.expressions → expression e ≡ e) where
    pub command_same :
        ((s : ℕ) → s < length d.states → state s ≡ s)
        → ((m : ℕ) → m < n → command m ≡ m)
        → (kind : CommandKind) (x : Node) → CommandHolds d n kind x → renumbered_command state command expression kind x ≡ x
    unfolding renumbered_command
    command_same states commands skips x h = refl
    command_same states commands assigns x h = rw (expressions x.a h.1)
    command_same states commands sequences x h = rw (commands x.a h.1, commands x.b h.2)
    command_same states commands falls x h = refl
    command_same states commands goes x h = rw (states x.item h.0)
    command_same states commands branches x h = rw (expressions x.a h.1, commands x.b h.2, commands x.c h.3)
    command_same states commands unknown_command x h = absurd h

  module _ (d : Design) (n : ℕ) (expressions : (e : ℕ) → e < n → expression e ≡ e) where
    pub expression_same : (kind : ExpressionKind) (x : Node) → ExpressionHolds d n kind x → renumbered_expression state command expression kind x ≡ x
    unfolding renumbered_expression
    expression_same constants x h = refl
    expression_same reads x h = refl
    expression_same (operates o) x h = rw (expressions x.a h.1, expressions x.b h.2)
    expression_same unknown_expression x h = absurd h
