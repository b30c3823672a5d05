-- The nodes of a filed design are its trees written out: in the order of filing a tree stands as a piece, its parts in front of it as pieces, so that the new number of a part is
-- the place up to which its piece goes, and what else a node holds its tree says, since fields that a kind does not use are zero.
use Prim.Native.Nat.{ℕ, zero, suc, ◌/◌, ◌%◌, ◌≤◌, ◌<◌}
use mathlib.Core.Path.{◌≡◌, refl, sym, ◌∙◌, ap, ap₂}
use mathlib.Core.List.{List, [], ◌∷◌, ◌++◌, map, map-append, append_assoc, append-nil}
use native.Mathlib.Omega.{arith}
use lib.ListN.{length, get_or}
use Rattle.model.specs.Indices.{join_below, join_each}
use Rattle.model.specs.Image.{Node, Design, state_at, command_at, expression_at, constant_of}
use Rattle.model.specs.Kinds.{CommandKind, skips, assigns, sequences, falls, goes, branches, unknown_command, ExpressionKind, constants, reads, unknown_expression, operates, command_kind, expression_kind}
use Rattle.model.specs.Trees.{expr_of, cmd_of, body_of}
use Rattle.model.specs.Nodes.{command_parts, expressions_of, expression_parts, parts_of, values_of, operands_of}
use Rattle.model.specs.Rules.{ExpressionHolds, CommandHolds, StructureKeeps}
use Rattle.model.proofs.Laws.Indices.{nothing_below_zero}
use Rattle.model.proofs.Laws.Kinds.{command_number}
use Rattle.model.proofs.Laws.Trees.{expr_constant, expr_register, expr_binary, cmd_skip, cmd_assign, cmd_sequence, cmd_fall, cmd_goto, cmd_branch}
use Rattle.encoding.specs.Encodable.{NodeFits, Encodable}
use Rattle.renumbering.specs.Renumbering.{renumbered_command, renumbered_expression}
use Rattle.filing_model.specs.Filed.{parts_first, command_order, value_order, expression_order, new_command, new_expression, command_filed, expression_filed}
use Rattle.filing_model.proofs.Orders.{each_append, commands_long, command_placed, expressions_long, expression_placed}
use Rattle.filing_model.proofs.Pieces.{each_one, piece_alone, two_pieces, place_latest, join_begins}
use Rattle.filing_model.proofs.Trees.{expression_number, expression_number_lem, command_number_lem, node, latest, expr_written, Nodes, behind, branch_behind, cmd_written, bodies_written}

-- ---- a record is what its fields are
node_is : (x : Node) {k i a b c : ℕ} → x.kind ≡ k → x.item ≡ i → x.a ≡ a → x.b ≡ b → x.c ≡ c → x ≡ node k i a b c
node_is x k i a b c = rw (← k, ← i, ← a, ← b, ← c)

module _ (d : Design) (keeps : StructureKeeps d) (fits : Encodable d) where
  -- an entry of the order has its place
  command_place_lem : (i : ℕ) → i < length (command_order d) → new_command d (get_or (command_order d) i 0) ≡ i
  command_place_lem i l = command_placed d keeps i (rw (commands_long d keeps) at l)

  expression_place_lem : (i : ℕ) → i < length (expression_order d) → new_expression d (get_or (expression_order d) i 0) ≡ i
  expression_place_lem i l = expression_placed d keeps i (rw (expressions_long d keeps) at l)

  -- the records of nodes as they are filed
  abbrev pub commands_filed : List ℕ → List Node
  commands_filed ns = map (λ n. command_filed d (command_at d n)) ns

  abbrev pub expressions_filed : List ℕ → List Node
  expressions_filed es = map (λ e. expression_filed d (expression_at d e)) es

  -- ---- expressions
  abbrev operands : ℕ → List ℕ
  operands e = parts_first (operands_of d) e

  abbrev ExpressionListed : ℕ → Type 0
  ExpressionListed e = (front back : List ℕ) → expression_order d ≡ front ++ operands e ++ back
      → expressions_filed (front ++ operands e) ≡ expr_written (expressions_filed front) (expr_of d e)

  -- an expression without parts
  value_alone : (e : ℕ) (front : List ℕ) {x : Node} → operands_of d e ≡ [] → expression_filed d (expression_at d e) ≡ x
      → expressions_filed (front ++ operands e) ≡ expressions_filed front ++ (x ∷ [])
  value_alone e front none is =
      ap (λ (es : List ℕ). expressions_filed (front ++ es)) (piece_alone (operands_of d) e none)
      ∙ map-append (λ n. expression_filed d (expression_at d n)) front (e ∷ [])
      ∙ ap (λ (y : Node). expressions_filed front ++ (y ∷ [])) is

  expression_listed_as : (e : ℕ) → NodeFits (expression_at d e) → (kind : ExpressionKind) → expression_kind (expression_at d e).kind ≡ kind
      → (expression_at d e).kind ≡ expression_number kind → ExpressionHolds d e kind (expression_at d e) → ((p : ℕ) → p < e → ExpressionListed p) → ExpressionListed e
  unfolding expr_written renumbered_expression expression_parts
  expression_listed_as e fit constants kind number (item, a) lower front back at =
      let x = expression_at d e in
      let low : x.b < 65536 = fit.b in
      let is : expression_filed d x ≡ node 0 0 0 (constant_of x % 65536) (constant_of x / 65536) = rw kind (node_is x number item a (omega arith) (omega arith)) in
      rw (expr_constant d e kind) (value_alone e front (rw kind) is)
  expression_listed_as e fit reads kind number (r, a, b, c) lower front back at =
      let x = expression_at d e in
      let is : expression_filed d x ≡ node 1 x.item 0 0 0 = rw kind (node_is x number refl a b c) in
      rw (expr_register d e kind) (value_alone e front (rw kind) is)
  expression_listed_as e fit (operates o) kind number (item, a, b, c) lower front back at =
      let x = expression_at d e in
      let file : ℕ → Node = λ n. expression_filed d (expression_at d n) in
      let two = two_pieces (operands_of d) front e x.a x.b back (rw kind) a b at in
      let inner : List ℕ = front ++ operands x.a in
      let first = lower x.a a front _ two.first in
      let second = lower x.b b inner _ two.second ∙ ap (λ (nodes : List Node). expr_written nodes (expr_of d x.b)) first in
      let first-place = place_latest (expression_order d) expression_place_lem file (operands_of d) front x.a _ two.first ∙ ap latest first in
      let second-place = place_latest (expression_order d) expression_place_lem file (operands_of d) inner x.b _ two.second ∙ ap latest second in
      let filed : Node = node x.kind x.item (new_expression d x.a) (new_expression d x.b) x.c in
      let own = node_is filed number item first-place second-place c in
      rw
      (expr_binary d e kind a b)
      (ap expressions_filed two.whole
      ∙ map-append file (inner ++ operands x.b) (e ∷ [])
      ∙ ap₂ (λ (nodes : List Node) (y : Node). nodes ++ (y ∷ [])) second (rw kind own))
  expression_listed_as e fit unknown_expression kind number holds lower front back at = absurd holds

  expression_listed_below : (f e : ℕ) → e < f → e < length d.expressions → ExpressionListed e
  expression_listed_below zero e l k = absurd (nothing_below_zero l)
  expression_listed_below (suc f) e l k =
      let x = expression_at d e in
      let holds = keeps.expressions e k in
      let lower : (p : ℕ) → p < e → ExpressionListed p = λ p b. expression_listed_below f p (omega arith) (omega arith) in
      expression_listed_as e (fits.expressions e k) (expression_kind x.kind) refl (expression_number_lem d e x x.kind holds) holds lower

  expression_listed : (e : ℕ) → e < length d.expressions → ExpressionListed e
  expression_listed e k = expression_listed_below (suc e) e (omega arith) k

  -- ---- commands
  abbrev parts : ℕ → List ℕ
  parts n = parts_first (parts_of d) n

  -- the expressions of commands, and both as they are filed
  abbrev values_in : List ℕ → List ℕ
  values_in ns = join_each (value_order d) ns

  abbrev pub filed_nodes : List ℕ → Nodes
  filed_nodes ns = record { commands = commands_filed ns; values = expressions_filed (values_in ns) }

  filed_behind : (front : List ℕ) (n : ℕ)
      → filed_nodes (front ++ (n ∷ [])) ≡ behind (filed_nodes front) (expressions_filed (values_in front ++ value_order d n)) (command_filed d (command_at d n))
  filed_behind front n =
      ap (λ (nodes : List Node). record { commands = nodes; values = expressions_filed (values_in (front ++ (n ∷ []))) }) (map-append (λ m. command_filed d (command_at d m)) front (n ∷ []))
      ∙ ap (λ (es : List ℕ). behind (filed_nodes front) (expressions_filed es) (command_filed d (command_at d n))) (each_append (value_order d) front (n ∷ []))
      ∙ ap (λ (es : List ℕ). behind (filed_nodes front) (expressions_filed (values_in front ++ es)) (command_filed d (command_at d n))) (each_one (value_order d) n)

  -- a command without an expression, behind others
  filed_plain : (front : List ℕ) (n : ℕ) {before : Nodes} {x : Node} → filed_nodes front ≡ before → values_of d n ≡ [] → command_filed d (command_at d n) ≡ x
      → filed_nodes (front ++ (n ∷ [])) ≡ behind before before.values x
  unfolding join_each
  filed_plain front n {before} {x} same none is =
      filed_behind front n
      ∙ ap (λ (es : List ℕ). behind (filed_nodes front) (expressions_filed (values_in front ++ join_each operands es)) (command_filed d (command_at d n))) none
      ∙ ap (λ (es : List ℕ). behind (filed_nodes front) (expressions_filed es) (command_filed d (command_at d n))) (append-nil (values_in front))
      ∙ ap (λ (nodes : Nodes). behind nodes nodes.values (command_filed d (command_at d n))) same
      ∙ ap (behind before before.values) is

  -- a command with one
  record Valued (front : List ℕ) (n e : ℕ) (before : Nodes) : Type 0 where
    nodes : {x : Node} → command_filed d (command_at d n) ≡ x → filed_nodes (front ++ (n ∷ [])) ≡ behind before (expr_written before.values (expr_of d e)) x
    place : new_expression d e ≡ latest (expr_written before.values (expr_of d e))

  filed_valued : (front : List ℕ) (n : ℕ) (back : List ℕ) {before : Nodes} {e : ℕ} → filed_nodes front ≡ before → values_of d n ≡ e ∷ [] → e < length d.expressions
      → command_order d ≡ front ++ ((n ∷ []) ++ back) → Valued front n e before
  unfolding expression_order
  filed_valued front n back {before} {e} same one l at =
      let own : value_order d n ≡ operands e = ap (join_each operands) one ∙ each_one operands e in
      let order : expression_order d ≡ values_in front ++ operands e ++ values_in back =
      ap values_in at
      ∙ each_append (value_order d) front ((n ∷ []) ++ back)
      ∙ ap (λ (es : List ℕ). values_in front ++ es) (each_append (value_order d) (n ∷ []) back)
      ∙ sym (append_assoc (values_in front) (values_in (n ∷ [])) (values_in back))
      ∙ ap (λ (es : List ℕ). values_in front ++ es ++ values_in back) (each_one (value_order d) n ∙ own) in
      let written : expressions_filed (values_in front ++ operands e) ≡ expr_written before.values (expr_of d e) =
      expression_listed e l (values_in front) (values_in back) order ∙ ap (λ (nodes : Nodes). expr_written nodes.values (expr_of d e)) same in
      record {
        nodes = λ {x} is.
            filed_behind front n
            ∙ ap (λ (es : List ℕ). behind (filed_nodes front) (expressions_filed (values_in front ++ es)) (command_filed d (command_at d n))) own
            ∙ ap (λ (values : List Node). behind (filed_nodes front) values (command_filed d (command_at d n))) written
            ∙ ap (λ (nodes : Nodes). behind nodes (expr_written before.values (expr_of d e)) (command_filed d (command_at d n))) same
            ∙ ap (behind before (expr_written before.values (expr_of d e))) is;
        place = place_latest (expression_order d) expression_place_lem (λ m. expression_filed d (expression_at d m)) (operands_of d) (values_in front) e (values_in back) order ∙ ap latest written;
      }

  abbrev CommandListed : ℕ → Type 0
  CommandListed n = (front back : List ℕ) → command_order d ≡ front ++ parts n ++ back → filed_nodes (front ++ parts n) ≡ cmd_written (filed_nodes front) (cmd_of d n)

  -- a command without parts
  filed_alone : (n : ℕ) (front back : List ℕ) → parts_of d n ≡ [] → command_order d ≡ front ++ parts n ++ back
      → (front ++ parts n ≡ front ++ (n ∷ [])) × (command_order d ≡ front ++ ((n ∷ []) ++ back))
  filed_alone n front back none at =
      let whole = ap (λ (ns : List ℕ). front ++ ns) (piece_alone (parts_of d) n none) in
      (whole, at ∙ ap (λ (ns : List ℕ). ns ++ back) whole ∙ append_assoc front (n ∷ []) back)

  -- one with two parts, which are filed in front of it
  record PartsListed (front : List ℕ) (n a b : ℕ) (back : List ℕ) (first second : Nodes) : Type 0 where
    whole : front ++ parts n ≡ front ++ parts a ++ parts b ++ (n ∷ [])
    order : command_order d ≡ front ++ parts a ++ parts b ++ ((n ∷ []) ++ back)
    nodes : filed_nodes (front ++ parts a ++ parts b) ≡ second
    place_first : new_command d a ≡ latest first.commands
    place_second : new_command d b ≡ latest second.commands

  parts_listed : (n a b : ℕ) (front back : List ℕ) → parts_of d n ≡ a ∷ b ∷ [] → a < n → b < n → CommandListed a → CommandListed b → command_order d ≡ front ++ parts n ++ back
      → PartsListed front n a b back (cmd_written (filed_nodes front) (cmd_of d a)) (cmd_written (cmd_written (filed_nodes front) (cmd_of d a)) (cmd_of d b))
  parts_listed n a b front back are la lb first_part second-part at =
      let file : ℕ → Node = λ m. command_filed d (command_at d m) in
      let two = two_pieces (parts_of d) front n a b back are la lb at in
      let first = first_part front _ two.first in
      let second = second-part (front ++ parts a) _ two.second ∙ ap (λ (nodes : Nodes). cmd_written nodes (cmd_of d b)) first in
      record {
        whole = two.whole;
        order = two.second;
        nodes = second;
        place_first = place_latest (command_order d) command_place_lem file (parts_of d) front a _ two.first ∙ ap (λ (nodes : Nodes). latest nodes.commands) first;
        place_second = place_latest (command_order d) command_place_lem file (parts_of d) (front ++ parts a) b _ two.second ∙ ap (λ (nodes : Nodes). latest nodes.commands) second;
      }

  filed_branch : (n : ℕ) (front back : List ℕ) {first second : Nodes} → command_kind (command_at d n).kind ≡ branches → (command_at d n).kind ≡ 5 → (command_at d n).item ≡ 0
      → (command_at d n).a < length d.expressions → PartsListed front n (command_at d n).b (command_at d n).c back first second
      → filed_nodes (front ++ parts n) ≡ branch_behind first second (expr_written second.values (expr_of d (command_at d n).a))
  unfolding renumbered_command expressions_of
  filed_branch n front back kind number item a two =
      let x = command_at d n in
      let valued = filed_valued (front ++ parts x.b ++ parts x.c) n back two.nodes (rw kind) a two.order in
      let filed : Node = node x.kind x.item (new_expression d x.a) (new_command d x.b) (new_command d x.c) in
      ap filed_nodes two.whole ∙ valued.nodes (rw kind (node_is filed number item valued.place two.place_first two.place_second))

  command_listed_as : (n : ℕ) → (kind : CommandKind) → command_kind (command_at d n).kind ≡ kind → (command_at d n).kind ≡ command_number kind
      → CommandHolds d n kind (command_at d n) → ((p : ℕ) → p < n → CommandListed p) → CommandListed n
  unfolding cmd_written renumbered_command command_parts expressions_of
  command_listed_as n skips kind number (item, a, b, c) lower front back at =
      let x = command_at d n in
      let alone = filed_alone n front back (rw kind) at in
      rw (cmd_skip d n kind) (ap filed_nodes alone.0 ∙ filed_plain front n refl (rw kind) (rw kind (node_is x number item a b c)))
  command_listed_as n assigns kind number (r, a, b, c) lower front back at =
      let x = command_at d n in
      let alone = filed_alone n front back (rw kind) at in
      let valued = filed_valued front n back refl (rw kind) a alone.1 in
      let filed : Node = node x.kind x.item (new_expression d x.a) x.b x.c in
      rw (cmd_assign d n kind) (ap filed_nodes alone.0 ∙ valued.nodes (rw kind (node_is filed number refl valued.place b c)))
  command_listed_as n sequences kind number (item, a, b, c) lower front back at =
      let x = command_at d n in
      let two = parts_listed n x.a x.b front back (rw kind) a b (lower x.a a) (lower x.b b) at in
      let filed : Node = node x.kind x.item (new_command d x.a) (new_command d x.b) x.c in
      let own = node_is filed number item two.place_first two.place_second c in
      rw (cmd_sequence d n kind a b) (ap filed_nodes two.whole ∙ filed_plain (front ++ parts x.a ++ parts x.b) n two.nodes (rw kind) (rw kind own))
  command_listed_as n falls kind number (item, a, b, c) lower front back at =
      let x = command_at d n in
      let alone = filed_alone n front back (rw kind) at in
      rw (cmd_fall d n kind) (ap filed_nodes alone.0 ∙ filed_plain front n refl (rw kind) (rw kind (node_is x number item a b c)))
  command_listed_as n goes kind number (t, c) lower front back at =
      let x = command_at d n in
      let alone = filed_alone n front back (rw kind) at in
      rw (cmd_goto d n kind) (ap filed_nodes alone.0 ∙ filed_plain front n refl (rw kind) (rw kind (node_is x number refl refl refl c)))
  command_listed_as n branches kind number (item, a, b, c) lower front back at =
      let x = command_at d n in
      let two = parts_listed n x.b x.c front back (rw kind) b c (lower x.b b) (lower x.c c) at in
      rw (cmd_branch d n kind b c) (filed_branch n front back kind number item a two)
  command_listed_as n unknown_command kind number holds lower front back at = absurd holds

  command_listed_below : (f n : ℕ) → n < f → n < length d.commands → CommandListed n
  command_listed_below zero n l k = absurd (nothing_below_zero l)
  command_listed_below (suc f) n l k =
      let x = command_at d n in
      let holds = keeps.commands n k in
      let lower : (p : ℕ) → p < n → CommandListed p = λ p b. command_listed_below f p (omega arith) (omega arith) in
      command_listed_as n (command_kind x.kind) refl (command_number_lem d n x x.kind holds) holds lower

  command_listed : (n : ℕ) → n < length d.commands → CommandListed n
  command_listed n k = command_listed_below (suc n) n (omega arith) k

  -- ---- the bodies of the states
  abbrev body_parts : ℕ → List ℕ
  body_parts s = parts (state_at d s).command

  -- the body of a state in the order, with those of lower states in front of it
  body_order : (s : ℕ) → s < length d.states → (back : List ℕ) × (command_order d ≡ join_below body_parts s ++ body_parts s ++ back)
  unfolding command_order join_below
  body_order s l = join_begins body_parts (length d.states) (suc s) l

  bodies_listed : (n : ℕ) → n ≤ length d.states → filed_nodes (join_below body_parts n) ≡ bodies_written (body_of d) n
  unfolding join_below join_each bodies_written body_of
  bodies_listed zero l = refl
  bodies_listed (suc n) l =
      let (back, at) = body_order n l in
      command_listed (state_at d n).command (keeps.states n l).command (join_below body_parts n) back at
      ∙ ap (λ (nodes : Nodes). cmd_written nodes (cmd_of d (state_at d n).command)) (bodies_listed n (omega arith))

  pub nodes_listed : filed_nodes (command_order d) ≡ bodies_written (body_of d) (length d.states)
  unfolding command_order
  nodes_listed = bodies_listed (length d.states) (omega arith)

  pub state_place : (s : ℕ) → s < length d.states → new_command d (state_at d s).command ≡ latest (bodies_written (body_of d) (suc s)).commands
  unfolding join_below
  state_place s l =
      let (back, at) = body_order s l in
      place_latest (command_order d) command_place_lem (λ n. command_filed d (command_at d n)) (parts_of d) (join_below body_parts s) (state_at d s).command back at
      ∙ ap (λ (nodes : Nodes). latest nodes.commands) (bodies_listed (suc s) l)
