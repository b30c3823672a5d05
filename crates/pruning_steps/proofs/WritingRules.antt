-- Why the records that stay are written: each is written under its new numbers, at the place behind those that stay before it.
use Prim.Native.Nat.{ℕ, suc, ◌+◌, ◌*◌, ◌≤◌, ◌<◌}
use mathlib.Core.Path.{◌≡◌, refl, sym, ◌∙◌, ap}
use mathlib.Core.Logic.{◌⊎◌, inl, inr, ⊎_elim}
use mathlib.Core.Bool.{Bool, true, false, cond}
use mathlib.Core.List.{List, [], ◌∷◌, ◌++◌, map, map-append, append-nil}
use native.Mathlib.Omega.{arith}
use native.Mathlib.Numerals.{add-one}
use native.Mathlib.Nat.{add-zero, mul-le-mul_left}
use native.Mathlib.Decide.{ℕ_discrete, dec_lt}
use lib.Dec.{eqb}
use lib.ListN.{length, get_or, take, length-map}
use lib.Seq.{length-take-le, take-suc, take_all}
use Rattle.model.specs.Limits.{state_length, node_length}
use Rattle.model.specs.Image.{State, Node, no_state, no_node, design_of, state_at, command_at, expression_at}
use Rattle.model.specs.Kinds.{CommandKind, assigns, sequences, goes, branches, ExpressionKind, Operation, operates, command_kind, expression_kind}
use Rattle.model.specs.Values.{one_or_zero}
use Rattle.model.proofs.Laws.Booleans.{decide}
use Rattle.model.proofs.Laws.Kinds.{kind_skips, kind_assigns, kind_sequences, kind_falls, kind_goes, kind_branches, no_command_kind, expression_kinds, kind_constants, kind_reads, no_expression_kind}
use Rattle.design.specs.declared.Design.{Design}
use Rattle.design.specs.Kept.{Structured}
use Rattle.design.specs.Records.{state_in, node_in}
use Rattle.design.specs.RecordsAt.{CommandAt, ExpressionAt}
use Rattle.design.proofs.Laws.{states_count, commands_count, expressions_count, state_in_lem}
use Rattle.design.proofs.FieldRules.{body_below, command_kind_is, command_kind_of, item_is, a_is, b_is, c_is, named_state, assigned_expression, condition, sequence_a_below, sequence_b_below, branch_b_below, branch_c_below, expression_kind_is, same_expression, first_is, second_is, operation, operand_a_below, operand_b_below, command_at_lem, expression_at_lem}
use Rattle.design.proofs.ResetRules.{states_few}
use Rattle.encoding.specs.Encoding.{state_bytes, node_bytes, records_bytes}
use Rattle.encoding.specs.Parts.{overwritten_at}
use Rattle.encoding.proofs.Records.{state_encodes, node_encodes}
use Rattle.encoding.proofs.Sections.{length-records}
use Rattle.encoding.proofs.PartRules.{length_over, over_none}
use Rattle.encoding.proofs.WriterRules.{record_put}
use Rattle.renumbering.specs.Renumbering.{with_parts, renumbered_state, renumbered_command, renumbered_expression}
use Rattle.pruning_model.specs.Reached.{reached}
use Rattle.pruning_model.specs.Pruned.{closed_up, staying_from, staying, command_stays, expression_stays, new_state, new_command, new_expression, pruned}
use Rattle.pruning_model.proofs.Closing.{closed_zero, closed_stays, closed_goes, closed_grows, closed_at_most, length-staying}
use Rattle.pruning_model.specs.Pruned.{state_written, command_written, expression_written}
use Rattle.pruning_steps.specs.Marks.{Marked, Numbered}
use Rattle.pruning_steps.proofs.NumberingRules.{marked_says}

-- ---- the entries that stay, with one more of the list
module _ {A : Type 0} (stays : ℕ → Bool) where
  cond_append : (b : Bool) (x : A) (xs ys : List A) → cond b (x ∷ (xs ++ ys)) (xs ++ ys) ≡ cond b (x ∷ xs) xs ++ ys
  cond_append true x xs ys = refl
  cond_append false x xs ys = refl

  staying_behind : (i : ℕ) (xs : List A) (y : A) → staying_from stays i (xs ++ (y ∷ [])) ≡ staying_from stays i xs ++ cond (stays (i + length xs)) (y ∷ []) []
  unfolding staying_from
  staying_behind i [] y = rw (add-zero i)
  staying_behind i (x ∷ xs) y =
      let next : suc i + length xs ≡ i + suc (length xs) = omega arith in
      ap
      (λ (r : List A). cond (stays i) (x ∷ r) r)
      (staying_behind (suc i) xs y ∙ ap (λ (k : ℕ). staying_from stays (suc i) xs ++ cond (stays k) (y ∷ []) []) next)
      ∙ cond_append (stays i) x (staying_from stays (suc i) xs) (cond (stays (i + suc (length xs))) (y ∷ []) [])

  staying_next : (k : ℕ) (xs : List A) (x : A) → k < length xs → staying stays (take (suc k) xs) ≡ staying stays (take k xs) ++ cond (stays k) (get_or xs k x ∷ []) []
  staying_next k xs x l =
      let so_far : 0 + length (take k xs) ≡ k = omega (arith, length-take-le k xs (omega arith)) in
      ap (staying stays) (take-suc xs k x l)
      ∙ staying_behind 0 (take k xs) (get_or xs k x)
      ∙ ap (λ (m : ℕ). staying stays (take k xs) ++ cond (stays m) (get_or xs k x ∷ []) []) so_far

  staying_one : (k : ℕ) (xs : List A) (x : A) → k < length xs → stays k ≡ true → staying stays (take (suc k) xs) ≡ staying stays (take k xs) ++ (get_or xs k x ∷ [])
  staying_one k xs x l h = rw h at (staying_next k xs x l)

  staying_none : (k : ℕ) (xs : List A) (x : A) → k < length xs → stays k ≡ false → staying stays (take (suc k) xs) ≡ staying stays (take k xs)
  staying_none k xs x l h = (rw h at (staying_next k xs x l)) ∙ append-nil (staying stays (take k xs))

-- ---- a loop over records
-- what holds of each family: so many records, each of the same width
pub record Family {A : Type 0} (bytes : A → List ℕ) (width : ℕ) (xs : List A) (count : ℕ) : Type 0 where
  pub counted : count ≡ length xs
  pub sized : (ys : List A) → length (records_bytes bytes ys) ≡ width * length ys
  pub one_put : (out : List ℕ) (at : ℕ) (ys : List A) (y : A) {one after : List ℕ}
      → after ≡ overwritten_at (at + width * length ys) (bytes y) one
      → one ≡ overwritten_at at (records_bytes bytes ys) out
      → at ≤ length out
      → after ≡ overwritten_at at (records_bytes bytes (ys ++ (y ∷ []))) out

-- of so many records, those that stay before k are written, and the place is behind them
pub record Written {A : Type 0} (bytes : A → List ℕ) (width : ℕ) (f : A → A) (stays : ℕ → Bool) (xs : List A) (count : ℕ) (marks : List ℕ) (at : ℕ) (old : List ℕ) (k place : ℕ) (now : List ℕ) : Type 0 where
  pub family : Family bytes width xs count
  pub marked : Marked stays count marks
  pub room : at + width * closed_up stays count ≤ length old
  pub within : k ≤ count
  pub is : now ≡ overwritten_at at (records_bytes bytes (map f (staying stays (take k xs)))) old
  pub reaches : place ≡ at + width * closed_up stays k

module _ {A : Type 0} {bytes : A → List ℕ} {width : ℕ} {f : A → A} {stays : ℕ → Bool} {xs : List A} {count : ℕ} {marks : List ℕ} {at : ℕ} {old : List ℕ} where
  written_none : Family bytes width xs count → Marked stays count marks → at + width * closed_up stays count ≤ length old → Written bytes width f stays xs count marks at old 0 at old
  unfolding staying_from records_bytes
  written_none family marked room =
      record { family = family; marked = marked; room = room; within = omega arith; is = sym (over_none at old); reaches = rw (closed_zero stays) (omega arith) }

  module _ {k place : ℕ} {now : List ℕ} (so : Written bytes width f stays xs count marks at old k place now) where
    abbrev before : List A
    before = map f (staying stays (take k xs))

    written_count : length before ≡ closed_up stays k
    written_count =
        length-map (staying stays (take k xs)) f
        ∙ length-staying stays (take k xs)
        ∙ ap (closed_up stays) (length-take-le k xs (omega (arith, so.family.counted, so.within)))

    grows : (i : ℕ) → i ≤ count → width * closed_up stays i ≤ width * closed_up stays count
    grows i l = mul-le-mul_left width (closed_grows stays i count l)

    one_wider : stays k ≡ true → width * closed_up stays (suc k) ≡ width * closed_up stays k + width
    one_wider h = ap (λ (m : ℕ). width * m) (closed_stays stays k h) ∙ omega arith

    no_wider : stays k ≡ false → width * closed_up stays (suc k) ≡ width * closed_up stays k
    no_wider h = ap (λ (m : ℕ). width * m) (closed_goes stays k h)

    pub written_long : length now ≡ length old
    written_long =
        let size = so.family.sized before ∙ ap (λ (m : ℕ). width * m) written_count in
        ap length so.is ∙ length_over at old (records_bytes bytes before) (omega (arith, size, so.room, grows k so.within))

    -- what a mark says
    stays_here : get_or marks k 0 ≡ 1 → k < count → stays k ≡ true
    stays_here e l = sym (marked_says so.marked k l) ∙ ap (λ (m : ℕ). eqb m 1) e

    goes_here : (get_or marks k 0 ≡ 1 → ⊥) → k < count → stays k ≡ false
    goes_here e l =
        ⊎_elim
        (λ (h : stays k ≡ true). absurd (e (so.marked.entry k l ∙ ap (λ (b : Bool). one_or_zero b) h)))
        (λ (h : stays k ≡ false). h)
        (decide (stays k))

    pub written_room : get_or marks k 0 ≡ 1 → k < count → place + width ≤ length now
    written_room e l =
        let end = grows (suc k) l in
        omega (arith, written_long, so.room, so.reaches, one_wider (stays_here e l))

    module _ {after : List ℕ} {next : ℕ} where
      written : k < count → after ≡ overwritten_at at (records_bytes bytes (map f (staying stays (take (suc k) xs)))) old → next ≡ at + width * closed_up stays (suc k)
          → Written bytes width f stays xs count marks at old (k + 1) next after
      written l is reaches =
          rw (add-one k) (record { family = so.family; marked = so.marked; room = so.room; within = l; is = is; reaches = reaches })

      -- one more that stays, and one more that goes
      written_one : (x : A) → get_or marks k 0 ≡ 1 → next ≡ place + width → after ≡ overwritten_at place (bytes (f (get_or xs k x))) now → k < count
          → Written bytes width f stays xs count marks at old (k + 1) next after
      written_one x mark moved put l =
          let h = stays_here mark l in
          let inside : k < length xs = omega (arith, so.family.counted) in
          let here : place ≡ at + width * length before = so.reaches ∙ ap (λ (m : ℕ). at + width * m) (sym written_count) in
          let one = so.family.one_put old at before (f (get_or xs k x)) (put ∙ ap (λ (p : ℕ). overwritten_at p (bytes (f (get_or xs k x))) now) here) so.is (omega (arith, so.room)) in
          let joined : before ++ (f (get_or xs k x) ∷ []) ≡ map f (staying stays (take (suc k) xs)) =
          sym (map-append f (staying stays (take k xs)) (get_or xs k x ∷ [])) ∙ ap (map f) (sym (staying_one stays k xs x inside h)) in
          written l (one ∙ ap (λ (ys : List A). overwritten_at at (records_bytes bytes ys) old) joined) (omega (arith, so.reaches, one_wider h))

      written_past : (x : A) → (get_or marks k 0 ≡ 1 → ⊥) → next ≡ place → after ≡ now → k < count
          → Written bytes width f stays xs count marks at old (k + 1) next after
      written_past x mark same put l =
          let h = goes_here mark l in
          let inside : k < length xs = omega (arith, so.family.counted) in
          written
          l
          (put ∙ so.is ∙ ap (λ (ys : List A). overwritten_at at (records_bytes bytes (map f ys)) old) (sym (staying_none stays k xs x inside h)))
          (omega (arith, so.reaches, no_wider h))

    written_whole : count ≤ k → now ≡ overwritten_at at (records_bytes bytes (map f (staying stays xs))) old
    written_whole h =
        so.is ∙ ap (λ (ys : List A). overwritten_at at (records_bytes bytes (map f (staying stays ys))) old) (take_all k xs (omega (arith, so.family.counted)))

-- the states
abbrev pub StatesWritten : List ℕ → Design → List ℕ → ℕ → List ℕ → ℕ → ℕ → List ℕ → Type 0
StatesWritten image x marks at old k place now =
    Written state_bytes state_length (state_written (design_of image)) (reached (design_of image)) (design_of image).states x.states marks at old k place now

module _ {image : List ℕ} {x : Design} {marks : List ℕ} {at : ℕ} {old : List ℕ} where
  pub states_none :
      Structured image x
      → Marked (reached (design_of image)) x.states marks
      → at + state_length * closed_up (reached (design_of image)) x.states ≤ length old
      → StatesWritten image x marks at old 0 at old
  states_none known marked room =
      written_none
      (record { counted = states_count known.records.describes; sized = length-records state_encodes; one_put = record_put state_encodes })
      marked
      room

module _ (image : List ℕ) (x : Design) {marks : List ℕ} {at : ℕ} {old : List ℕ} {k place : ℕ} {now : List ℕ} (so : StatesWritten image x marks at old k place now) where
  module _ {next : ℕ} {after : List ℕ} where
    pub states_one :
        get_or marks k 0 ≡ 1
        → next ≡ place + state_length
        → after ≡ overwritten_at place (state_bytes (state_written (design_of image) (state_at (design_of image) k))) now
        → k < x.states
        → StatesWritten image x marks at old (k + 1) next after
    states_one mark moved put l = written_one so no_state mark moved put l

    pub states_past : (get_or marks k 0 ≡ 1 → ⊥) → next ≡ place → after ≡ now → k < x.states → StatesWritten image x marks at old (k + 1) next after
    states_past mark same put l = written_past so no_state mark same put l

  -- all of them are those of the pruned design
  pub states_whole : x.states ≤ k → now ≡ overwritten_at at (records_bytes state_bytes (pruned (design_of image)).states) old
  unfolding pruned
  states_whole h = written_whole so h

-- the commands
abbrev pub CommandsWritten : List ℕ → Design → List ℕ → ℕ → List ℕ → ℕ → ℕ → List ℕ → Type 0
CommandsWritten image x marks at old k place now =
    Written node_bytes node_length (command_written (design_of image)) (command_stays (design_of image)) (design_of image).commands x.commands marks at old k place now

module _ {image : List ℕ} {x : Design} {marks : List ℕ} {at : ℕ} {old : List ℕ} where
  pub commands_none :
      Structured image x
      → Marked (command_stays (design_of image)) x.commands marks
      → at + node_length * closed_up (command_stays (design_of image)) x.commands ≤ length old
      → CommandsWritten image x marks at old 0 at old
  commands_none known marked room =
      written_none
      (record { counted = commands_count known.records.describes; sized = length-records node_encodes; one_put = record_put node_encodes })
      marked
      room

module _ (image : List ℕ) (x : Design) {marks : List ℕ} {at : ℕ} {old : List ℕ} {k place : ℕ} {now : List ℕ} (so : CommandsWritten image x marks at old k place now) where
  module _ {next : ℕ} {after : List ℕ} where
    pub commands_one :
        get_or marks k 0 ≡ 1
        → next ≡ place + node_length
        → after ≡ overwritten_at place (node_bytes (command_written (design_of image) (command_at (design_of image) k))) now
        → k < x.commands
        → CommandsWritten image x marks at old (k + 1) next after
    commands_one mark moved put l = written_one so no_node mark moved put l

    pub commands_past : (get_or marks k 0 ≡ 1 → ⊥) → next ≡ place → after ≡ now → k < x.commands → CommandsWritten image x marks at old (k + 1) next after
    commands_past mark same put l = written_past so no_node mark same put l

  -- all of them are those of the pruned design
  pub commands_whole : x.commands ≤ k → now ≡ overwritten_at at (records_bytes node_bytes (pruned (design_of image)).commands) old
  unfolding pruned
  commands_whole h = written_whole so h

-- the expressions
abbrev pub ExpressionsWritten : List ℕ → Design → List ℕ → ℕ → List ℕ → ℕ → ℕ → List ℕ → Type 0
ExpressionsWritten image x marks at old k place now =
    Written node_bytes node_length (expression_written (design_of image)) (expression_stays (design_of image)) (design_of image).expressions x.expressions marks at old k place now

module _ {image : List ℕ} {x : Design} {marks : List ℕ} {at : ℕ} {old : List ℕ} where
  pub expressions_none :
      Structured image x
      → Marked (expression_stays (design_of image)) x.expressions marks
      → at + node_length * closed_up (expression_stays (design_of image)) x.expressions ≤ length old
      → ExpressionsWritten image x marks at old 0 at old
  expressions_none known marked room =
      written_none
      (record { counted = expressions_count known.records.describes; sized = length-records node_encodes; one_put = record_put node_encodes })
      marked
      room

module _ (image : List ℕ) (x : Design) {marks : List ℕ} {at : ℕ} {old : List ℕ} {k place : ℕ} {now : List ℕ} (so : ExpressionsWritten image x marks at old k place now) where
  module _ {next : ℕ} {after : List ℕ} where
    pub expressions_one :
        get_or marks k 0 ≡ 1
        → next ≡ place + node_length
        → after ≡ overwritten_at place (node_bytes (expression_written (design_of image) (expression_at (design_of image) k))) now
        → k < x.expressions
        → ExpressionsWritten image x marks at old (k + 1) next after
    expressions_one mark moved put l = written_one so no_node mark moved put l

    pub expressions_past : (get_or marks k 0 ≡ 1 → ⊥) → next ≡ place → after ≡ now → k < x.expressions → ExpressionsWritten image x marks at old (k + 1) next after
    expressions_past mark same put l = written_past so no_node mark same put l

  -- all of them are those of the pruned design
  pub expressions_whole : x.expressions ≤ k → now ≡ overwritten_at at (records_bytes node_bytes (pruned (design_of image)).expressions) old
  unfolding pruned
  expressions_whole h = written_whole so h

-- the node that is met
module _ {image : List ℕ} {x : Design} (known : Structured image x) where
  pub command_here : {n : ℕ} → n < x.commands → CommandAt image x x.commands_at n
  command_here l = command_at_lem known.records.describes known.records.commands l refl

  pub expression_here : {n : ℕ} → n < x.expressions → ExpressionAt image x x.expressions_at n
  expression_here l = expression_at_lem known.records.describes known.records.expressions l refl

-- ---- new numbers
new_is : {stays : ℕ → Bool} {count : ℕ} {numbers : List ℕ} {k m r : ℕ} → Numbered stays count numbers → k < count → r ≡ get_or numbers k 0 → k ≡ m → r ≡ closed_up stays m
new_is {stays} {k = k} table l e same = e ∙ table.entry k l ∙ ap (closed_up stays) same

new_fits : {stays : ℕ → Bool} {count : ℕ} {numbers : List ℕ} {k r : ℕ} → Numbered stays count numbers → k < count → count ≤ 64 → r ≡ get_or numbers k 0 → r < 256
new_fits {stays} {k = k} table l few e = omega (arith, e ∙ table.entry k l, closed_at_most stays k)

-- ---- a state
module _ {image : List ℕ} {x : Design} (known : Structured image x) {s p : ℕ} (l : s < x.states) (same : p ≡ (state_in image x.states_at s).parent) where
  parent_is : p ≡ (state_at (design_of image) s).parent
  parent_is = same ∙ ap (λ (y : State). y.parent) (state_in_lem known.records.describes l)

  parent_below : p < x.states
  parent_below =
      let count = states_count known.records.describes in
      let keeps = known.structure.states s (omega arith) in
      let is = parent_is in
      ⊎_elim
      (λ (e : s ≡ 0). let zeroth = keeps.root_parent e in omega arith)
      (λ (e : s ≡ 0 → ⊥). let below = keeps.parent_below e in omega arith)
      (root_or_not (ℕ_discrete s 0))
    where
      root_or_not : Dec (s ≡ 0) → (s ≡ 0) ⊎ (s ≡ 0 → ⊥)
      root_or_not (yes e) = inl e
      root_or_not (no e) = inr e

  pub parent_inside : {long : ℕ} → x.states ≤ long → p < long
  parent_inside inside = let below = parent_below in omega arith

  pub parent_fits : {numbers : List ℕ} {q : ℕ} → q ≡ get_or numbers p 0 → Numbered (reached (design_of image)) x.states numbers → q < 256
  parent_fits e table = new_fits table parent_below (states_few known.records.describes) e

  pub state_new :
      (at : ℕ) (out : List ℕ) {q old command : ℕ} {numbers command_numbers after : List ℕ}
      → after ≡ overwritten_at at (state_bytes (with_parts q command (state_in image x.states_at s))) out
      → q ≡ get_or numbers p 0
      → command ≡ get_or command_numbers old 0
      → old ≡ (state_in image x.states_at s).command
      → Numbered (reached (design_of image)) x.states numbers
      → Numbered (command_stays (design_of image)) x.commands command_numbers
      → after ≡ overwritten_at at (state_bytes (state_written (design_of image) (state_at (design_of image) s))) out
  unfolding renumbered_state
  state_new at out put new_parent new_command body table command_table =
      let is = state_in_lem known.records.describes l in
      let parent' = new_is table parent_below new_parent parent_is in
      let command' = new_is command_table (body_below known.records.describes l body known.records.states) new_command (body ∙ ap (λ (y : State). y.command) is) in
      put ∙ ap (λ (y : State). overwritten_at at (state_bytes y) out) (λ i. with_parts (parent' i) (command' i) (is i))

-- ---- nodes
node_put : (at : ℕ) (out : List ℕ) {kind item a b c kind' item' a' b' c' : ℕ} {y : Node} {after : List ℕ}
    → after ≡ overwritten_at at (node_bytes (record { kind = kind; item = item; a = a; b = b; c = c })) out
    → y ≡ record { kind = kind'; item = item'; a = a'; b = b'; c = c' }
    → kind ≡ kind'
    → item ≡ item'
    → a ≡ a'
    → b ≡ b'
    → c ≡ c'
    → after ≡ overwritten_at at (node_bytes y) out
node_put at out put is k i a b c =
    put ∙ ap (λ (z : Node). overwritten_at at (node_bytes z) out) ((λ j. record { kind = k j; item = i j; a = a j; b = b j; c = c j }) ∙ sym is)

module _ (state command expression : ℕ → ℕ) (y : Node) where
  assign_is : {kind : CommandKind} → kind ≡ assigns → renumbered_command state command expression kind y ≡ record { kind = y.kind; item = y.item; a = expression y.a; b = y.b; c = y.c }
  unfolding renumbered_command
  assign_is e = rw e

  sequence_is : {kind : CommandKind} → kind ≡ sequences → renumbered_command state command expression kind y ≡ record { kind = y.kind; item = y.item; a = command y.a; b = command y.b; c = y.c }
  unfolding renumbered_command
  sequence_is e = rw e

  goto_is : {kind : CommandKind} → kind ≡ goes → renumbered_command state command expression kind y ≡ record { kind = y.kind; item = state y.item; a = y.a; b = y.b; c = y.c }
  unfolding renumbered_command
  goto_is e = rw e

  branch_is : {kind : CommandKind} → kind ≡ branches → renumbered_command state command expression kind y ≡ record { kind = y.kind; item = y.item; a = expression y.a; b = command y.b; c = command y.c }
  unfolding renumbered_command
  branch_is e = rw e

  -- any other command is as it was
  other_is : {k : ℕ} → (k ≡ 1 → ⊥) → (k ≡ 2 → ⊥) → (k ≡ 4 → ⊥) → (k ≡ 5 → ⊥) → renumbered_command state command expression (command_kind k) y ≡ y
  unfolding renumbered_command
  other_is {k} one two four five = go (ℕ_discrete k 0) (ℕ_discrete k 3)
    where
      go : Dec (k ≡ 0) → Dec (k ≡ 3) → renumbered_command state command expression (command_kind k) y ≡ y
      go (yes e) h = rw (kind_skips e)
      go (no e) (yes h) = rw (kind_falls h)
      go (no e) (no h) = rw (no_command_kind {k = k} (omega arith))

  operation_is : {kind : ExpressionKind} {o : Operation} → kind ≡ operates o → renumbered_expression state command expression kind y ≡ record { kind = y.kind; item = y.item; a = expression y.a; b = expression y.b; c = y.c }
  unfolding renumbered_expression
  operation_is e = rw e

  -- any other expression is as it was
  plain_is : {k : ℕ} → (2 ≤ k → k < expression_kinds → ⊥) → renumbered_expression state command expression (expression_kind k) y ≡ y
  unfolding renumbered_expression
  plain_is {k} none = go (ℕ_discrete k 0) (ℕ_discrete k 1) (dec_lt k expression_kinds)
    where
      go : Dec (k ≡ 0) → Dec (k ≡ 1) → Dec (k < expression_kinds) → renumbered_expression state command expression (expression_kind k) y ≡ y
      go (yes e) h l = rw (kind_constants e)
      go (no e) (yes h) l = rw (kind_reads h)
      go (no e) (no h) (yes l) = absurd (none (omega arith) l)
      go (no e) (no h) (no l) = rw (no_expression_kind {k = k} (omega arith))

-- ---- a command
module _ {image : List ℕ} {x : Design} {place n k : ℕ} (here : CommandAt image x place n) (same : k ≡ (node_in image place n).kind) where
  byte : k ≡ (command_at (design_of image) n).kind
  byte = sym (command_kind_is here refl same)

  kind_of : (c : CommandKind) → command_kind k ≡ c → command_kind (command_at (design_of image) n).kind ≡ c
  kind_of c e = command_kind_of here c refl same e

  lower : {m : ℕ} → m < n → m < x.commands
  lower l = let node = here.node in omega arith

  value_below : {m : ℕ} → m < length (design_of image).expressions → m < x.expressions
  value_below l = omega (arith, expressions_count here.describes)

  state_below : {m : ℕ} → m < length (design_of image).states → m < x.states
  state_below l = omega (arith, states_count here.describes)

  module _ (at : ℕ) (out : List ℕ) {number item a b c : ℕ} {after : List ℕ} (wide : number ≡ k) (i : item ≡ (node_in image place n).item) (p : a ≡ (node_in image place n).a) (q : b ≡ (node_in image place n).b) (r : c ≡ (node_in image place n).c) where
    pub assign_new :
        {v : ℕ} {expression_numbers : List ℕ}
        → k ≡ 1
        → after ≡ overwritten_at at (node_bytes (record { kind = number; item = item; a = v; b = b; c = c })) out
        → v ≡ get_or expression_numbers a 0
        → Numbered (expression_stays (design_of image)) x.expressions expression_numbers
        → after ≡ overwritten_at at (node_bytes (command_written (design_of image) (command_at (design_of image) n))) out
    assign_new e put f table =
        node_put
        at
        out
        put
        (assign_is (new_state (design_of image)) (new_command (design_of image)) (new_expression (design_of image)) (command_at (design_of image) n) (kind_of assigns (kind_assigns e)))
        (wide ∙ byte)
        (item_is here i)
        (new_is table (value_below (assigned_expression here e same p)) f (a_is here p))
        (b_is here q)
        (c_is here r)

    pub sequence_new :
        {v w : ℕ} {numbers : List ℕ}
        → k ≡ 2
        → after ≡ overwritten_at at (node_bytes (record { kind = number; item = item; a = v; b = w; c = c })) out
        → v ≡ get_or numbers a 0
        → w ≡ get_or numbers b 0
        → Numbered (command_stays (design_of image)) x.commands numbers
        → after ≡ overwritten_at at (node_bytes (command_written (design_of image) (command_at (design_of image) n))) out
    sequence_new e put f g table =
        node_put
        at
        out
        put
        (sequence_is (new_state (design_of image)) (new_command (design_of image)) (new_expression (design_of image)) (command_at (design_of image) n) (kind_of sequences (kind_sequences e)))
        (wide ∙ byte)
        (item_is here i)
        (new_is table (lower (sequence_a_below here e same p)) f (a_is here p))
        (new_is table (lower (sequence_b_below here e same q)) g (b_is here q))
        (c_is here r)

    pub goto_new :
        {t : ℕ} {state_numbers : List ℕ}
        → k ≡ 4
        → after ≡ overwritten_at at (node_bytes (record { kind = number; item = t; a = a; b = b; c = c })) out
        → t ≡ get_or state_numbers item 0
        → Numbered (reached (design_of image)) x.states state_numbers
        → after ≡ overwritten_at at (node_bytes (command_written (design_of image) (command_at (design_of image) n))) out
    goto_new e put f table =
        node_put
        at
        out
        put
        (goto_is (new_state (design_of image)) (new_command (design_of image)) (new_expression (design_of image)) (command_at (design_of image) n) (kind_of goes (kind_goes e)))
        (wide ∙ byte)
        (new_is table (state_below (named_state here e same i)) f (item_is here i))
        (a_is here p)
        (b_is here q)
        (c_is here r)

    pub branch_new :
        {v w u : ℕ} {numbers expression_numbers : List ℕ}
        → k ≡ 5
        → after ≡ overwritten_at at (node_bytes (record { kind = number; item = item; a = v; b = w; c = u })) out
        → v ≡ get_or expression_numbers a 0
        → w ≡ get_or numbers b 0
        → u ≡ get_or numbers c 0
        → Numbered (command_stays (design_of image)) x.commands numbers
        → Numbered (expression_stays (design_of image)) x.expressions expression_numbers
        → after ≡ overwritten_at at (node_bytes (command_written (design_of image) (command_at (design_of image) n))) out
    branch_new e put f g h table values =
        node_put
        at
        out
        put
        (branch_is (new_state (design_of image)) (new_command (design_of image)) (new_expression (design_of image)) (command_at (design_of image) n) (kind_of branches (kind_branches e)))
        (wide ∙ byte)
        (item_is here i)
        (new_is values (value_below (condition here e same p)) f (a_is here p))
        (new_is table (lower (branch_b_below here e same q)) g (b_is here q))
        (new_is table (lower (branch_c_below here e same r)) h (c_is here r))

    pub other_new :
        (k ≡ 1 → ⊥)
        → (k ≡ 2 → ⊥)
        → (k ≡ 4 → ⊥)
        → (k ≡ 5 → ⊥)
        → after ≡ overwritten_at at (node_bytes (record { kind = number; item = item; a = a; b = b; c = c })) out
        → after ≡ overwritten_at at (node_bytes (command_written (design_of image) (command_at (design_of image) n))) out
    other_new one two four five put =
        node_put
        at
        out
        put
        (ap (λ (m : ℕ). renumbered_command (new_state (design_of image)) (new_command (design_of image)) (new_expression (design_of image)) (command_kind m) (command_at (design_of image) n)) (sym byte)
        ∙ other_is (new_state (design_of image)) (new_command (design_of image)) (new_expression (design_of image)) (command_at (design_of image) n) one two four five)
        (wide ∙ byte)
        (item_is here i)
        (a_is here p)
        (b_is here q)
        (c_is here r)

  -- the state that a goto names has an entry, and its new number fits a byte
  pub goto_inside : {t long : ℕ} → k ≡ 4 → t ≡ (node_in image place n).item → x.states ≤ long → t < long
  goto_inside e i l = let below = state_below (named_state here e same i) in omega arith

  pub goto_fits : {t u : ℕ} {state_numbers : List ℕ} → k ≡ 4 → t ≡ (node_in image place n).item → u ≡ get_or state_numbers t 0 → Numbered (reached (design_of image)) x.states state_numbers → u < 256
  goto_fits e i f table = new_fits table (state_below (named_state here e same i)) (states_few here.describes) f

  -- the expression of an assignment, and that of a branch
  pub assign_inside : {m long : ℕ} → k ≡ 1 → m ≡ (node_in image place n).a → x.expressions ≤ long → m < long
  assign_inside e p l = let below = value_below (assigned_expression here e same p) in omega arith

  pub condition_inside : {m long : ℕ} → k ≡ 5 → m ≡ (node_in image place n).a → x.expressions ≤ long → m < long
  condition_inside e p l = let below = value_below (condition here e same p) in omega arith

-- ---- an expression
module _ {image : List ℕ} {x : Design} {place n k : ℕ} (here : ExpressionAt image x place n) (same : k ≡ (node_in image place n).kind) where
  operand_a : {m : ℕ} → 2 ≤ k → k < expression_kinds → m ≡ (node_in image place n).a → m < x.expressions
  operand_a low high p =
      let node = here.node in
      let below = operand_a_below here high (omega arith) (λ z. omega arith) same p in
      omega arith

  operand_b : {m : ℕ} → 2 ≤ k → k < expression_kinds → m ≡ (node_in image place n).b → m < x.expressions
  operand_b low high p =
      let node = here.node in
      let below = operand_b_below here high (omega arith) (λ z. omega arith) same p in
      omega arith

  pub operand_a_has : {m long : ℕ} → 2 ≤ k → k < expression_kinds → m ≡ (node_in image place n).a → x.expressions ≤ long → m < long
  operand_a_has low high p l = let below = operand_a low high p in omega arith

  pub operand_b_has : {m long : ℕ} → 2 ≤ k → k < expression_kinds → m ≡ (node_in image place n).b → x.expressions ≤ long → m < long
  operand_b_has low high p l = let below = operand_b low high p in omega arith

  module _ (at : ℕ) (out : List ℕ) {number item a b c : ℕ} {after : List ℕ} (wide : number ≡ k) (i : item ≡ (node_in image place n).item) (p : a ≡ (node_in image place n).a) (q : b ≡ (node_in image place n).b) (r : c ≡ (node_in image place n).c) where
    pub operation_new :
        {v w : ℕ} {numbers : List ℕ}
        → 2 ≤ k
        → k < expression_kinds
        → after ≡ overwritten_at at (node_bytes (record { kind = number; item = item; a = v; b = w; c = c })) out
        → v ≡ get_or numbers a 0
        → w ≡ get_or numbers b 0
        → Numbered (expression_stays (design_of image)) x.expressions numbers
        → after ≡ overwritten_at at (node_bytes (expression_written (design_of image) (expression_at (design_of image) n))) out
    operation_new low high put g h table =
        let o = operation here high (omega arith) (λ z. omega arith) same in
        let is = same_expression here in
        node_put
        at
        out
        put
        (operation_is (new_state (design_of image)) (new_command (design_of image)) (new_expression (design_of image)) (expression_at (design_of image) n) o.1)
        (wide ∙ same ∙ ap (λ (y : Node). y.kind) is)
        (i ∙ ap (λ (y : Node). y.item) is)
        (new_is table (operand_a low high p) g (first_is here p))
        (new_is table (operand_b low high q) h (second_is here q))
        (r ∙ ap (λ (y : Node). y.c) is)

    plain :
        (2 ≤ k → k < expression_kinds → ⊥)
        → after ≡ overwritten_at at (node_bytes (record { kind = number; item = item; a = a; b = b; c = c })) out
        → after ≡ overwritten_at at (node_bytes (expression_written (design_of image) (expression_at (design_of image) n))) out
    plain none put =
        let is = same_expression here in
        node_put
        at
        out
        put
        (ap (λ (m : ℕ). renumbered_expression (new_state (design_of image)) (new_command (design_of image)) (new_expression (design_of image)) (expression_kind m) (expression_at (design_of image) n)) (expression_kind_is here same)
        ∙ plain_is (new_state (design_of image)) (new_command (design_of image)) (new_expression (design_of image)) (expression_at (design_of image) n) none)
        (wide ∙ same ∙ ap (λ (y : Node). y.kind) is)
        (i ∙ ap (λ (y : Node). y.item) is)
        (first_is here p)
        (second_is here q)
        (r ∙ ap (λ (y : Node). y.c) is)

    -- below the operations, and above them
    pub low_new :
        k < 2
        → after ≡ overwritten_at at (node_bytes (record { kind = number; item = item; a = a; b = b; c = c })) out
        → after ≡ overwritten_at at (node_bytes (expression_written (design_of image) (expression_at (design_of image) n))) out
    low_new l = plain (λ low high. omega arith)

    pub high_new :
        expression_kinds ≤ k
        → after ≡ overwritten_at at (node_bytes (record { kind = number; item = item; a = a; b = b; c = c })) out
        → after ≡ overwritten_at at (node_bytes (expression_written (design_of image) (expression_at (design_of image) n))) out
    high_new l = plain (λ low high. omega arith)
