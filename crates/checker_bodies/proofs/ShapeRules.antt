-- What a command's shape comes to, from what its parts come to: the laws that the recursion over parts cites, one for each kind of command.
use Rattle.std.specs.Prelude.{Option}
use Rattle.std.specs.Int.{from_bool}
use Prim.Native.Nat.{ℕ, zero, suc, min, ◌+◌, ◌*◌, ◌/◌, ◌%◌, ◌≤◌, ◌<◌}
use mathlib.Core.Logic.{◌⊎◌, inl, inr, ⊎_elim}
use mathlib.Core.Path.{◌≡◌, refl, sym, ◌∙◌, ap}
use mathlib.Core.Bool.{Bool, true, false, ◌&&◌, not, beq}
use mathlib.Core.List.{List, ◌++◌}
use native.Mathlib.Omega.{arith}
use native.Mathlib.Decide.{ℕ_discrete}
use lib.Dec.{eqb}
use borrow.Author.Tests.{lt-ltb, eq-eqb, ne_eqb}
use lib.ListN.{length, get_or, set}
use Rattle.model.specs.Indices.{lowest_of, join_below}
use Rattle.model.specs.Limits.{commands_max}
use Rattle.model.specs.Image.{Design as Table, Node, design_of, state_at, command_at}
use Rattle.model.specs.States.{is_child, has_child, sibling_or_self, default_target}
use Rattle.model.specs.Values.{one_or_zero}
use Rattle.model.specs.Kinds.{skips, assigns, sequences, falls, goes, branches, command_kind}
use Rattle.model.specs.Trees.{Expr, Cmd, skip, assign, sequence, fall, goto, branch, expr_of, cmd_of, body_of}
use Rattle.model.specs.Shape.{transfers, charged_unless, shape_faults, state_shape_faults, shape_fault}
use Rattle.model.specs.Falls.{holds_fall}
use Rattle.model.specs.Rules.{CommandHolds}
use Rattle.model.proofs.Laws.Charged.{Below, each_append, each_join, lowest_below, below_more, charged_below, Numbered, cmd_numbered, shape_below, state_shape_below}
use Rattle.model.proofs.Exact.Records.{state_iff}
use Rattle.model.proofs.Laws.Trees.{cmd_skip, cmd_assign, cmd_sequence, cmd_fall, cmd_goto, cmd_branch}
use native.Mathlib.Numerals.{add-one}
use Rattle.design.specs.declared.Design.{Design}
use Rattle.design.specs.Records.{node_in, state_in}
use Rattle.design.specs.Describes.{Describes}
use Rattle.design.specs.Kept.{StatesKept}
use Rattle.design.specs.Resets.{Defaults, Filled}
use Rattle.design.proofs.ResetRules.{filled_none, filled_within, filled_whole, alone, not_alone}
use Rattle.design.proofs.Laws.{states_count, commands_count, commands_few}
use Rattle.design.proofs.ResetRules.{parent_is}
use Rattle.design.proofs.FieldRules.{body_is, body_below, command_at_lem, command_place_inside, command_below, command_kind_of, item_is, a_is, b_is, c_is, command_holds_lem, named_state, sequence_a_below, sequence_b_below, branch_b_below, branch_c_below, lower_command}
use Rattle.checker_bodies.specs.Places.{place_unless, place_of, found_among}
use Rattle.checker_bodies.specs.Shapes.{judged_of, judgement_of, number_of, body_number_of, falls_in, judgement_most, sequenced_as, branched_as, Judging, ShapeKnown, with_falls, ShapesPassed}
use Rattle.checker_bodies.proofs.PlaceRules.{place_found, place_append, lowest_small, place_charged}

-- ---- siblings
and_known : {w : Bool} (a b c : Bool) → w ≡ true → (a && b && c) ≡ (a && (b && w && c))
and_known true true c e = rw e
and_known true false c e = refl
and_known false b c e = refl

module _ {image : List ℕ} {x : Design} {s t : ℕ} (d : Describes image x) (state : s < x.states) (target : t < x.states) where
  pub sibling_rule :
      {p q : ℕ}
      → p ≡ (state_in image x.states_at t).parent
      → q ≡ (state_in image x.states_at s).parent
      → (not (eqb s 0) && not (eqb t 0) && eqb p q) ≡ sibling_or_self (design_of image) s t
  unfolding sibling_or_self is_child
  sibling_rule {p = y} {q = z} p q =
      let count = states_count d in
      let below : t < length (design_of image).states = omega arith in
      let first = parent_is d target p in
      let second = parent_is d state q in
      and_known (not (eqb s 0)) (not (eqb t 0)) (eqb y z) (lt-ltb t (length (design_of image).states) below) ∙ rw (first, second)

-- ---- what the number of a shape says
-- its three parts
parted : (a b l : ℕ) → a < 2 → b < 2 → ((4 * l + 2 * b + a) % 2 ≡ a) × ((4 * l + 2 * b + a) / 2 % 2 ≡ b) × ((4 * l + 2 * b + a) / 4 ≡ l)
parted a b l h k = (omega arith, omega arith, omega arith)

-- a truth as a number
pub bool_number : (b : Bool) → from_bool b ≡ one_or_zero b
bool_number true = refl
bool_number false = refl

mark_small : (b : Bool) → one_or_zero b < 2
mark_small true = omega arith
mark_small false = omega arith

mark_read : (b : Bool) → eqb (one_or_zero b) 1 ≡ b
mark_read true = refl
mark_read false = refl

-- at most four times no place, and three more
judgement_small : {l r : ℕ} (t f : Bool) → r ≡ judgement_of t f l → l ≤ commands_max → r ≤ judgement_most
judgement_small t f e h = let first = mark_small t in let second = mark_small f in omega arith

-- what was put into it is read off it
number_parts : (t f : Bool) (l : ℕ) → (eqb (judgement_of t f l % 2) 1 ≡ t) × (falls_in (judgement_of t f l) ≡ f) × (judgement_of t f l / 4 ≡ l)
number_parts t f l =
    let parts = parted (one_or_zero t) (one_or_zero f) l (mark_small t) (mark_small f) in
    (ap (λ (y : ℕ). eqb y 1) parts.0 ∙ mark_read t, ap (λ (y : ℕ). eqb y 1) parts.1 ∙ mark_read f, parts.2)

-- ---- the numbers of commands, as trees
module _ (d : Table) (s : ℕ) where
  abbrev command_number : Cmd → ℕ
  command_number c = number_of (judged_of d s c)

  number_is : (c : Cmd) → command_number c ≡ judgement_of (transfers c) (holds_fall c) (place_of (lowest_of (shape_faults d s c)))
  unfolding number_of judged_of
  number_is c = refl

  number_reads : (c : Cmd) → (eqb (command_number c % 2) 1 ≡ transfers c) × (falls_in (command_number c) ≡ holds_fall c) × (command_number c / 4 ≡ place_of (lowest_of (shape_faults d s c)))
  number_reads c = rw (number_is c) (number_parts (transfers c) (holds_fall c) (place_of (lowest_of (shape_faults d s c))))

  fall_number : (n : ℕ) → judgement_of true true (place_unless (has_child d s) n) ≡ command_number (fall n)
  unfolding transfers holds_fall shape_faults
  fall_number n = ap (judgement_of true true) (place_charged commands_max (has_child d s) n) ∙ sym (number_is (fall n))

  goto_number : (n t a b : ℕ) → judgement_of true false (place_unless (sibling_or_self d s t) n) ≡ command_number (goto n t a b)
  unfolding transfers holds_fall shape_faults
  goto_number n t a b = ap (judgement_of true false) (place_charged commands_max (sibling_or_self d s t) n) ∙ sym (number_is (goto n t a b))

  skip_number : (n : ℕ) → judgement_of false false commands_max ≡ command_number (skip n)
  unfolding transfers holds_fall shape_faults lowest_of
  skip_number n = sym (number_is (skip n))

  assign_number : (n r : ℕ) (e : Expr) → judgement_of false false commands_max ≡ command_number (assign n r e)
  unfolding transfers holds_fall shape_faults lowest_of
  assign_number n r e = sym (number_is (assign n r e))

  -- where the design has no more commands than a design may have
  module _ (few : length d.commands ≤ commands_max) where
    faults_below : (c : Cmd) → Numbered d c → Below commands_max (shape_faults d s c)
    faults_below c h = below_more few (shape_below d s c h)

    number_small : (c : Cmd) → Numbered d c → command_number c ≤ judgement_most
    number_small c h =
        let is = number_is c in
        let least = lowest_small (shape_faults d s c) (faults_below c h) in
        judgement_small (transfers c) (holds_fall c) is least

    -- a command's own place and those of its parts
    places_three : {n : ℕ} (kept : Bool) (p q : Cmd) → n < length d.commands → Numbered d p → Numbered d q
        → min (place_unless kept n) (min (command_number p / 4) (command_number q / 4)) ≡ place_of (lowest_of (charged_unless kept n ++ (shape_faults d s p ++ shape_faults d s q)))
    places_three {n} kept p q l h k =
        let first = faults_below p h in
        let second = faults_below q k in
        rw ((number_reads p).2, (number_reads q).2, place_charged commands_max kept n, place_append (shape_faults d s p) (shape_faults d s q) first second)
        (place_append (charged_unless kept n) (shape_faults d s p ++ shape_faults d s q) (charged_below kept n (omega arith)) (each_append first second))

    sequence_number : {n : ℕ} (p q : Cmd) → n < length d.commands → Numbered d p → Numbered d q → sequenced_as n (command_number p) (command_number q) ≡ command_number (sequence n p q)
    unfolding transfers holds_fall shape_faults
    sequence_number {n} p q l h k =
        rw ((number_reads p).0, (number_reads p).1, (number_reads q).0, (number_reads q).1, places_three (not (transfers p)) p q l h k) (sym (number_is (sequence n p q)))

    branch_number : {n : ℕ} (e : Expr) (p q : Cmd) → n < length d.commands → Numbered d p → Numbered d q → branched_as n (command_number p) (command_number q) ≡ command_number (branch n e p q)
    unfolding transfers holds_fall shape_faults
    branch_number {n} e p q l h k =
        rw ((number_reads p).0, (number_reads p).1, (number_reads q).0, (number_reads q).1, places_three (beq (transfers p) (transfers q)) p q l h k) (sym (number_is (branch n e p q)))

-- ---- a command by its kind
-- a kind that is no sequence, fall, goto or if is a skip or an assignment
plain_kind : (d : Table) (n k : ℕ) (x : Node) → (k ≡ 2 → ⊥) → (k ≡ 3 → ⊥) → (k ≡ 4 → ⊥) → (k ≡ 5 → ⊥) → CommandHolds d n (command_kind k) x → (command_kind k ≡ skips) ⊎ (command_kind k ≡ assigns)
unfolding command_kind
plain_kind d n zero x a b c e h = inl refl
plain_kind d n (suc zero) x a b c e h = inr refl
plain_kind d n (suc (suc zero)) x a b c e h = absurd (a refl)
plain_kind d n (suc (suc (suc zero))) x a b c e h = absurd (b refl)
plain_kind d n (suc (suc (suc (suc zero)))) x a b c e h = absurd (c refl)
plain_kind d n (suc (suc (suc (suc (suc zero))))) x a b c e h = absurd (e refl)
plain_kind d n (suc (suc (suc (suc (suc (suc k)))))) x a b c e h = absurd h

module _ {image : List ℕ} {x : Design} {s n : ℕ} {childed : Bool} (j : Judging image x s n childed) where
  few : length (design_of image).commands ≤ commands_max
  few = commands_few j.command.describes

  -- a lower command of the same state
  lower_node : (m : ℕ) → m < n → Judging image x s m childed
  lower_node m l =
      record { commands = j.commands; state = j.state; command = lower_command j.command j.commands l; children = j.children }

  -- ---- the parts of a sequence and of an if
  pub sequence_a : {k a : ℕ} → k ≡ 2 → k ≡ (node_in image x.commands_at n).kind → a ≡ (node_in image x.commands_at n).a → Judging image x s a childed
  sequence_a {a = m} q p f = lower_node m (sequence_a_below j.command q p f)

  pub sequence_b : {k b : ℕ} → k ≡ 2 → k ≡ (node_in image x.commands_at n).kind → b ≡ (node_in image x.commands_at n).b → Judging image x s b childed
  sequence_b {b = m} q p f = lower_node m (sequence_b_below j.command q p f)

  pub branch_b : {k b : ℕ} → k ≡ 5 → k ≡ (node_in image x.commands_at n).kind → b ≡ (node_in image x.commands_at n).b → Judging image x s b childed
  branch_b {b = m} q p f = lower_node m (branch_b_below j.command q p f)

  pub branch_c : {k c : ℕ} → k ≡ 5 → k ≡ (node_in image x.commands_at n).kind → c ≡ (node_in image x.commands_at n).c → Judging image x s c childed
  branch_c {c = m} q p f = lower_node m (branch_c_below j.command q p f)

  -- the state that a goto names
  pub goto_going : {k t : ℕ} → k ≡ 4 → k ≡ (node_in image x.commands_at n).kind → t ≡ (node_in image x.commands_at n).item → t < x.states
  goto_going q p f = let count = states_count j.command.describes in let below = named_state j.command q p f in omega arith

  -- ---- what the command comes to
  pub charged_small : {f : ℕ} (b : Bool) → f ≡ place_unless b n → f ≤ commands_max
  charged_small {f} true e = omega arith
  charged_small {f} false e = let below = command_below j.command in let most = few in omega arith

  -- the number of a part
  pub part_small : {p : ℕ} (a : ℕ) → p ≡ number_of (judged_of (design_of image) s (cmd_of (design_of image) a)) → p ≤ judgement_most
  part_small a e = rw e (number_small (design_of image) s few (cmd_of (design_of image) a) (cmd_numbered (design_of image) a))

  pub judged_sequence :
      {k a b r : ℕ} (p q : ℕ)
      → k ≡ 2
      → k ≡ (node_in image x.commands_at n).kind
      → a ≡ (node_in image x.commands_at n).a
      → b ≡ (node_in image x.commands_at n).b
      → r ≡ sequenced_as n p q
      → p ≡ number_of (judged_of (design_of image) s (cmd_of (design_of image) a))
      → q ≡ number_of (judged_of (design_of image) s (cmd_of (design_of image) b))
      → r ≡ number_of (judged_of (design_of image) s (cmd_of (design_of image) n))
  unfolding command_kind
  judged_sequence {a = a} {b = b} p q f e ea eb er ep eq =
      let d = design_of image in
      let tree = cmd_sequence d n (command_kind_of j.command sequences f e refl) (command_holds_lem j.command f e).1 (command_holds_lem j.command f e).2 in
      let first = cmd_of d (command_at d n).a in
      let second = cmd_of d (command_at d n).b in
      er ∙ rw (ep, eq, a_is j.command ea, b_is j.command eb, tree) (sequence_number d s few first second (command_below j.command) (cmd_numbered d (command_at d n).a) (cmd_numbered d (command_at d n).b))

  pub judged_branch :
      {k b c r : ℕ} (p q : ℕ)
      → k ≡ 5
      → k ≡ (node_in image x.commands_at n).kind
      → b ≡ (node_in image x.commands_at n).b
      → c ≡ (node_in image x.commands_at n).c
      → r ≡ branched_as n p q
      → p ≡ number_of (judged_of (design_of image) s (cmd_of (design_of image) b))
      → q ≡ number_of (judged_of (design_of image) s (cmd_of (design_of image) c))
      → r ≡ number_of (judged_of (design_of image) s (cmd_of (design_of image) n))
  unfolding command_kind
  judged_branch {b = b} {c = c} p q f e eb ec er ep eq =
      let d = design_of image in
      let tree = cmd_branch d n (command_kind_of j.command branches f e refl) (command_holds_lem j.command f e).2 (command_holds_lem j.command f e).3 in
      let first = cmd_of d (command_at d n).b in
      let second = cmd_of d (command_at d n).c in
      er
      ∙ rw (ep, eq, b_is j.command eb, c_is j.command ec, tree)
      (branch_number d s few (expr_of d (command_at d n).a) first second (command_below j.command) (cmd_numbered d (command_at d n).b) (cmd_numbered d (command_at d n).c))

  pub judged_fall : {k f r : ℕ} → k ≡ 3 → k ≡ (node_in image x.commands_at n).kind → f ≡ place_unless childed n → r ≡ judgement_of true true f → r ≡ number_of (judged_of (design_of image) s (cmd_of (design_of image) n))
  unfolding command_kind
  judged_fall f e g h = h ∙ rw (g, j.children, cmd_fall (design_of image) n (command_kind_of j.command falls f e refl)) (fall_number (design_of image) s n)

  pub judged_goto : {k t f r : ℕ} {b : Bool} → k ≡ 4 → k ≡ (node_in image x.commands_at n).kind → t ≡ (node_in image x.commands_at n).item → b ≡ sibling_or_self (design_of image) s t → f ≡ place_unless b n → r ≡ judgement_of true false f
      → r ≡ number_of (judged_of (design_of image) s (cmd_of (design_of image) n))
  unfolding command_kind
  judged_goto {t = t} {b = b} f e et eb g h =
      let x = command_at (design_of image) n in
      h
      ∙ rw (g, eb, item_is j.command et, cmd_goto (design_of image) n (command_kind_of j.command goes f e refl))
      (goto_number (design_of image) s n x.item x.a x.b)

  pub judged_plain : {k r : ℕ} → k ≡ (node_in image x.commands_at n).kind → (k ≡ 2 → ⊥) → (k ≡ 3 → ⊥) → (k ≡ 4 → ⊥) → (k ≡ 5 → ⊥) → r ≡ judgement_of false false commands_max
      → r ≡ number_of (judged_of (design_of image) s (cmd_of (design_of image) n))
  judged_plain {k} e a b c f g =
      let d = design_of image in
      g
      ∙ ⊎_elim
      (λ (h : command_kind k ≡ skips). rw (cmd_skip d n (command_kind_of j.command skips refl e h)) (skip_number d s n))
      (λ (h : command_kind k ≡ assigns). rw (cmd_assign d n (command_kind_of j.command assigns refl e h)) (assign_number d s n (command_at d n).item (expr_of d (command_at d n).a)))
      (plain_kind d n k (command_at d n) a b c f (command_holds_lem j.command refl e))

-- ---- children: a state is its own default target exactly where it has none
own_default : (d : Table) → StatesKept d → (s : ℕ) → s < length d.states → not (eqb (default_target d s) s) ≡ has_child d s
own_default d kept s l = go (ℕ_discrete (default_target d s) s)
  where
    go : Dec (default_target d s ≡ s) → not (eqb (default_target d s) s) ≡ has_child d s
    go (yes e) = rw (eq-eqb (default_target d s) s e, alone d kept s l e)
    go (no e) = rw (ne_eqb (default_target d s) s e, not_alone d s e)

-- ---- states
module _ {image : List ℕ} {x : Design} (known : ShapeKnown image x) where
  child_told : {table : List ℕ} {s : ℕ} {b : Bool} → Defaults (design_of image) table → s < x.states → b ≡ not (eqb (get_or table s 0) s) → b ≡ has_child (design_of image) s
  child_told {s = s} told l e =
      let count = states_count known.describes in
      let below : s < length (design_of image).states = omega arith in
      e ∙ ap (λ (t : ℕ). not (eqb t s)) (told.entry s below) ∙ own_default (design_of image) known.states s below

  pub body_judging : {table : List ℕ} {s n : ℕ} {b : Bool} → Defaults (design_of image) table → s < x.states → n ≡ (state_in image x.states_at s).command → b ≡ not (eqb (get_or table s 0) s) → Judging image x s n b
  body_judging told l e h =
      record {
        commands = known.commands;
        state = l;
        command = command_at_lem known.describes known.commands (body_below known.describes l e known.states) refl;
        children = child_told told l h;
      }

  command_low : (s : ℕ) → s < length (design_of image).states → (state_at (design_of image) s).command < length (design_of image).commands
  command_low s l = ((state_iff (design_of image) s).0 (known.states.kept s l)).command

  -- the faults of a state, and of all before one, are commands
  faults_low : (s : ℕ) → s < length (design_of image).states → Below commands_max (state_shape_faults (design_of image) s)
  faults_low s l = below_more (commands_few known.describes) (state_shape_below (design_of image) s (command_low s l))

  all_low : (n : ℕ) → n ≤ length (design_of image).states → Below (length (design_of image).commands) (join_below (state_shape_faults (design_of image)) n)
  all_low n l = each_join (state_shape_faults (design_of image)) n (λ s b. state_shape_below (design_of image) s (command_low s (omega arith)))

  pub state_shape_rule :
      {s n own place least r : ℕ} {t f : Bool} (body : ℕ)
      → s < x.states
      → n ≡ (state_in image x.states_at s).command
      → body ≡ number_of (judged_of (design_of image) s (cmd_of (design_of image) n))
      → t ≡ eqb (body % 2) 1
      → own ≡ place_unless t n
      → place ≡ body / 4
      → least ≡ min own place
      → f ≡ falls_in body
      → r ≡ judgement_of true f least
      → r ≡ body_number_of (design_of image) s
  unfolding body_number_of state_shape_faults body_of
  state_shape_rule {s} {n} {own} {place} {least} {r} {t} {f} body l e j t-is own_is place_is least-is f-is r-is =
      let d = design_of image in
      let same = body_is known.describes l e in
      let number : body ≡ command_number d s (cmd_of d (state_at d s).command) = j ∙ ap (λ (m : ℕ). command_number d s (cmd_of d m)) same in
      let tree = cmd_of d (state_at d s).command in
      let count = states_count known.describes in
      let few = commands_few known.describes in
      let low = command_low s (omega arith) in
      let reads = number_reads d s tree in
      r-is
      ∙ rw (least-is, own_is, place_is, f-is, t-is, number, same, reads.0, reads.1, reads.2, place_charged commands_max (transfers tree) (state_at d s).command)
      (ap (judgement_of true (holds_fall tree)) (place_append (charged_unless (transfers tree) (state_at d s).command) (shape_faults d s tree) (charged_below (transfers tree) (state_at d s).command (omega arith)) (below_more few (shape_below d s tree (cmd_numbered d (state_at d s).command)))))

  pub own_small : {place least : ℕ} (n s body own : ℕ) → body ≡ number_of (judged_of (design_of image) s (cmd_of (design_of image) n)) → place ≡ body / 4 → least ≡ min own place → least ≤ commands_max
  own_small n s body own e p h =
      let small : body ≤ judgement_most = rw e (number_small (design_of image) s (commands_few known.describes) (cmd_of (design_of image) n) (cmd_numbered (design_of image) n)) in
      omega arith

-- the lowest fault of the states before s, as a place, and the table of those that hold a fall
pub record LowestSo (d : Table) (s lowest : ℕ) : Type 0 where
  pub is : lowest ≡ place_of (lowest_of (join_below (state_shape_faults d) s))

pub record FallsSo (d : Table) (old : List ℕ) (s : ℕ) (now : List ℕ) : Type 0 where
  pub filled : Filled (λ k. one_or_zero (holds_fall (body_of d k))) old s now

pub falls_none_yet : {d : Table} {old : List ℕ} → FallsSo d old 0 old
falls_none_yet = record { filled = filled_none }

pub lowest_none_yet : {d : Table} → LowestSo d 0 commands_max
unfolding join_below lowest_of
lowest_none_yet = record { is = refl }

-- what the number of a body says
body_reads : (d : Table) (s : ℕ) → (falls_in (body_number_of d s) ≡ holds_fall (body_of d s)) × (body_number_of d s / 4 ≡ place_of (lowest_of (state_shape_faults d s)))
unfolding body_number_of
body_reads d s = let parts = number_parts true (holds_fall (body_of d s)) (place_of (lowest_of (state_shape_faults d s))) in (parts.1, parts.2)

pub lowest_one_more : {image : List ℕ} {x : Design} {s so r place : ℕ} (here : ℕ) → ShapeKnown image x → LowestSo (design_of image) s so → s < x.states → here ≡ body_number_of (design_of image) s → place ≡ here / 4 → r ≡ min so place → LowestSo (design_of image) (s + 1) r
unfolding join_below
lowest_one_more {image} {x} {s} {so} {r} {place} here known before l shaped e h =
    let d = design_of image in
    let count = states_count known.describes in
    let few = commands_few known.describes in
    record {
      is =
          h
          ∙ rw (before.is, e, shaped, (body_reads d s).1, add-one s)
          (place_append (join_below (state_shape_faults d) s) (state_shape_faults d s) (below_more few (all_low known s (omega arith))) (faults_low known s (omega arith)));
    }

pub falls_one_more : {d : Table} {old now : List ℕ} {m s v : ℕ} {f : Bool} (here : ℕ) → FallsSo d old s now → here ≡ body_number_of d s → m ≤ length old → s < m → f ≡ falls_in here → v ≡ from_bool f → FallsSo d old (s + 1) (set now s v)
falls_one_more {d} {s = s} here so shaped long l e h = record { filled = filled_within so.filled long l (h ∙ bool_number _ ∙ ap one_or_zero (e ∙ ap falls_in shaped ∙ (body_reads d s).0)) }

pub fall_inside : {d : Table} {old now : List ℕ} {m s : ℕ} → FallsSo d old s now → m ≤ length old → s < m → s < length now
fall_inside so long l = let same = so.filled.long in omega arith

pub shapes_passed :
    {image old now : List ℕ} {x : Design} {s place : ℕ} {r : Option ℕ}
    → ShapeKnown image x
    → LowestSo (design_of image) s place
    → FallsSo (design_of image) old s now
    → x.states ≤ length old
    → s ≤ x.states
    → x.states ≤ s
    → r ≡ found_among x.commands place
    → ShapesPassed (design_of image) r old now
unfolding shape_fault with_falls
shapes_passed {image} {old} {now} {x} {s} {place} known so told long l m e =
    let count = states_count known.describes in
    let end : s ≡ length (design_of image).states = omega arith in
    let all = length (design_of image).states in
    let same = told.filled.long in
    let faults = join_below (state_shape_faults (design_of image)) all in
    let filled = rw end at told.filled in
    record {
      is =
          e
          ∙ rw (commands_count known.describes, so.is, end)
          (place_found (lowest_of faults) (commands_few known.describes) (lowest_below (length (design_of image).commands) (all_low known all (omega arith))));
      table_is = filled_whole filled;
      falls = record { long = omega arith; entry = λ k b. filled.done k b };
    }

-- what the recursion cites
pub ruleset judge_laws = (command_place_inside, goto_going, charged_small, part_small, judged_sequence, judged_branch, judged_fall, judged_goto, judged_plain)

-- what the loop over the states cites
pub ruleset shapes_laws = (lowest_none_yet, falls_none_yet, fall_inside, shapes_passed)
