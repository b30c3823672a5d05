-- The states that are marked are those that are reached: only a state that a reached one leads to is found, and a state that was gone through leads to none that was not
-- found. So where none waits, what is marked is closed, and holds all that is reached. Each state is gone through once, so those that were not become fewer.
use Rattle.std.specs.Prelude.{Option, Some, None}
use Prim.Native.Nat.{ℕ, zero, suc, ◌≤◌, ◌<◌}
use mathlib.Core.Path.{◌≡◌, refl, sym, ◌∙◌, ap}
use mathlib.Core.Logic.{◌≢◌, ◌⊎◌, inl, inr, ⊎_elim}
use mathlib.Core.Bool.{Bool, true, false, not}
use mathlib.Core.List.Memᴰ
use mathlib.Core.List.{List, [], ◌∷◌, ◌++◌, Memᴰ}
use native.Mathlib.Omega.{arith}
use native.Mathlib.Decide.{ℕ_discrete, dec_lt}
use lib.Dec.{eqb}
use lib.ListN.{length, get_or, set, replicate, length-set, length-replicate}
use lib.Seq.{get_or-set_same, get_or-set_other, set_out}
use borrow.Author.Tests.{eqb-true, eq-eqb, ne_eqb}
use Rattle.model.specs.Indices.{lowest, filled_to}
use Rattle.model.specs.Limits.{states_max}
use Rattle.model.specs.Image.{Design, States, design_of, command_at}
use Rattle.model.specs.States.{is_child, has_child, default_target}
use Rattle.model.specs.Kinds.{sequences, falls, goes, branches, command_kind}
use Rattle.model.specs.Trees.{cmd_of, body_of}
use Rattle.model.specs.Rules.{StructureKeeps, CommandHolds}
use Rattle.model.specs.Values.{one_or_zero}
use Rattle.model.proofs.Laws.Booleans.{decide, true_or_false, not_true}
use Rattle.model.proofs.Laws.Indices.{lowest_at, lowest_none, filled_is}
use Rattle.model.proofs.Laws.States.{child_of, default_cases}
use Rattle.model.proofs.Laws.Trees.{cmd_skip, cmd_assign, cmd_sequence, cmd_fall, cmd_goto, cmd_branch}
use Rattle.design.specs.declared.Design.{Design as Described}
use Rattle.design.specs.Kept.{Structured}
use Rattle.design.specs.Records.{state_in, node_in}
use Rattle.design.specs.RecordsAt.{CommandAt}
use Rattle.design.specs.Resets.{Defaults}
use Rattle.design.proofs.Laws.{states_count}
use Rattle.design.proofs.FieldRules.{body_is, body_below, command_at_lem, lower_command, command_kind_is, command_kind_of, a_is, b_is, c_is, item_is, named_state, command_holds_lem, sequence_a_below, sequence_b_below, branch_b_below, branch_c_below}
use Rattle.design.proofs.ResetRules.{states_few, entry_inside}
use Rattle.pruning_model.specs.Pruned.{closed_up}
use Rattle.pruning_model.specs.Reached.{Reached, root, fallen, gone, leads_to, successors, reached}
use Rattle.pruning_model.proofs.Closing.{count_rests}
use Rattle.pruning_model.proofs.Reached.{LeadsTo, leads_cases, fall_leads, goto_leads, reached_least, reached_state, reached_iff}
use Rattle.pruning_steps.specs.Marks.{mark_of, Marked}
use Rattle.pruning_steps.proofs.NumberingRules.{fresh_zero}
use Rattle.pruning_steps.specs.Reaching.{found, found_all, waits, Finding}

-- ---- a state is found
module _ (marks : List ℕ) (t : ℕ) where
  pub find_new : get_or marks t 0 ≡ 0 → set marks t 2 ≡ found marks t
  unfolding found
  find_new e = rw (eq-eqb (get_or marks t 0) 0 e) refl

  pub find_old : (get_or marks t 0 ≡ 0 → ⊥) → marks ≡ found marks t
  unfolding found
  find_old e = rw (ne_eqb (get_or marks t 0) 0 e) refl

  length_found : length (found marks t) ≡ length marks
  length_found = go (ℕ_discrete (get_or marks t 0) 0)
    where
      go : Dec (get_or marks t 0 ≡ 0) → length (found marks t) ≡ length marks
      go (yes e) = ap length (sym (find_new e)) ∙ length-set marks t 2
      go (no e) = ap length (sym (find_old e))

  -- an entry stays, or it was 0 and its state is found
  abbrev Entered : ℕ → Type 0
  Entered k = (get_or (found marks t) k 0 ≡ get_or marks k 0) ⊎ ((k ≡ t) × (get_or marks k 0 ≡ 0) × (get_or (found marks t) k 0 ≡ 2))

  found_entry : (k : ℕ) → Entered k
  found_entry k = go (ℕ_discrete (get_or marks t 0) 0) (ℕ_discrete k t) (dec_lt t (length marks))
    where
      go : Dec (get_or marks t 0 ≡ 0) → Dec (k ≡ t) → Dec (t < length marks) → Entered k
      go (yes e) (yes h) (yes l) = inr (h, rw h e, rw (h, ← (find_new e)) (get_or-set_same marks t 2 0 l))
      go (yes e) (yes h) (no l) = inl (ap (λ (m : List ℕ). get_or m k 0) (sym (find_new e) ∙ set_out marks t 2 (omega arith)))
      go (yes e) (no h) l = inl (ap (λ (m : List ℕ). get_or m k 0) (sym (find_new e)) ∙ get_or-set_other marks t k 2 0 h)
      go (no e) h l = inl (ap (λ (m : List ℕ). get_or m k 0) (sym (find_old e)))

  found_here : t < length marks → get_or (found marks t) t 0 ≢ 0
  found_here l z = go (ℕ_discrete (get_or marks t 0) 0)
    where
      go : Dec (get_or marks t 0 ≡ 0) → ⊥
      go (yes e) = let two = get_or-set_same marks t 2 0 l in let none : get_or (set marks t 2) t 0 ≡ 0 = rw (find_new e) z in omega arith
      go (no e) = e (ap (λ (m : List ℕ). get_or m t 0) (find_old e) ∙ z)

-- ---- all states of a list are found
length-all : (marks ts : List ℕ) → length (found_all marks ts) ≡ length marks
unfolding found_all
length-all marks [] = refl
length-all marks (t ∷ ts) = length-all (found marks t) ts ∙ length_found marks t

found_append : (marks ts us : List ℕ) → found_all (found_all marks ts) us ≡ found_all marks (ts ++ us)
unfolding found_all
found_append marks [] us = refl
found_append marks (t ∷ ts) us = found_append (found marks t) ts us

-- an entry stays, or it was 0 and its state is in the list
abbrev New : List ℕ → List ℕ → List ℕ → ℕ → Type 0
New before ts after k = Memᴰ k ts × (get_or before k 0 ≡ 0) × (get_or after k 0 ≡ 2)

abbrev OldOrNew : List ℕ → List ℕ → List ℕ → ℕ → Type 0
OldOrNew before ts after k = (get_or after k 0 ≡ get_or before k 0) ⊎ New before ts after k

all_entry : (marks ts : List ℕ) (k : ℕ) → OldOrNew marks ts (found_all marks ts) k
unfolding found_all
all_entry marks [] k = inl refl
all_entry marks (t ∷ ts) k = go (found_entry marks t k) (all_entry (found marks t) ts k)
  where
    go : Entered marks t k → OldOrNew (found marks t) ts (found_all (found marks t) ts) k → OldOrNew marks (t ∷ ts) (found_all (found marks t) ts) k
    go (inl e) (inl f) = inl (f ∙ e)
    go (inl e) (inr (m, z, f)) = inr (Memᴰ.tail m, sym e ∙ z, f)
    go (inr (e, z, h)) (inl f) = inr (Memᴰ.head e, z, f ∙ h)
    go (inr (e, z, h)) (inr (m, y, f)) = inr (Memᴰ.head e, z, f)

all_stays : (marks ts : List ℕ) (k : ℕ) → get_or marks k 0 ≢ 0 → get_or (found_all marks ts) k 0 ≡ get_or marks k 0
all_stays marks ts k old = go (all_entry marks ts k)
  where
    go : OldOrNew marks ts (found_all marks ts) k → get_or (found_all marks ts) k 0 ≡ get_or marks k 0
    go (inl e) = e
    go (inr (m, z, f)) = absurd (old z)

all_marked : (marks ts : List ℕ) (k : ℕ) → Memᴰ k ts → k < length marks → get_or (found_all marks ts) k 0 ≢ 0
unfolding found_all
all_marked marks [] k m l z = Memᴰ.not-nil m
all_marked marks (t ∷ ts) k m l z =
    ⊎_elim
    (λ (e : k ≡ t). let old : get_or (found marks t) k 0 ≢ 0 = rw e (found_here marks t (rw e at l)) in old (sym (all_stays (found marks t) ts k old) ∙ z))
    (λ (h : Memᴰ k ts). all_marked (found marks t) ts k h (rw (length_found marks t) l) z)
    (Memᴰ.cases_cons m)

-- ---- a command, from its parts
module _ {image marks : List ℕ} {x : Described} {n child : ℕ} (here : Finding image x n child marks) where
  at : CommandAt image x x.commands_at n
  at = here.command

  pub finding_below : n < x.commands
  finding_below = at.node

  -- the states that it names have entries
  pub child_inside : child < length marks
  child_inside = let long = here.long in let state = here.state in omega arith

  pub goto_inside : {k t : ℕ} → k ≡ 4 → k ≡ (node_in image x.commands_at n).kind → t ≡ (node_in image x.commands_at n).item → t < length marks
  goto_inside kind byte f = let long = here.long in let state = named_state at kind byte f in omega arith

  -- what is known at a part
  part_finding : {m : ℕ} {now : List ℕ} → m < n → length now ≡ length marks → Finding image x m child now
  part_finding lower same =
      let long = here.long in
      record { commands = here.commands; command = lower_command at here.commands lower; state = here.state; long = omega arith }

  all_long : {now : List ℕ} (ts : List ℕ) → now ≡ found_all marks ts → length now ≡ length marks
  all_long ts e = ap length e ∙ length-all marks ts

  pub first_finding : {k a : ℕ} → k ≡ 2 → k ≡ (node_in image x.commands_at n).kind → a ≡ (node_in image x.commands_at n).a → Finding image x a child marks
  first_finding kind byte f = part_finding (sequence_a_below at kind byte f) refl

  pub second_finding : {k b : ℕ} {now : List ℕ} (ts : List ℕ) → k ≡ 2 → k ≡ (node_in image x.commands_at n).kind → b ≡ (node_in image x.commands_at n).b → now ≡ found_all marks ts → Finding image x b child now
  second_finding ts kind byte f e = part_finding (sequence_b_below at kind byte f) (all_long ts e)

  pub then_finding : {k b : ℕ} → k ≡ 5 → k ≡ (node_in image x.commands_at n).kind → b ≡ (node_in image x.commands_at n).b → Finding image x b child marks
  then_finding kind byte f = part_finding (branch_b_below at kind byte f) refl

  pub else_finding : {k c : ℕ} {now : List ℕ} (ts : List ℕ) → k ≡ 5 → k ≡ (node_in image x.commands_at n).kind → c ≡ (node_in image x.commands_at n).c → now ≡ found_all marks ts → Finding image x c child now
  else_finding ts kind byte f e = part_finding (branch_c_below at kind byte f) (all_long ts e)

  -- what a command finds
  pub sequence_finds :
      {k a b : ℕ} {middle after : List ℕ}
      → k ≡ 2
      → k ≡ (node_in image x.commands_at n).kind
      → a ≡ (node_in image x.commands_at n).a
      → b ≡ (node_in image x.commands_at n).b
      → middle ≡ found_all marks (leads_to child (cmd_of (design_of image) a))
      → after ≡ found_all middle (leads_to child (cmd_of (design_of image) b))
      → after ≡ found_all marks (leads_to child (cmd_of (design_of image) n))
  unfolding command_kind leads_to
  sequence_finds {a = a} {b = b} kind byte fa fb first second =
      let tree = cmd_sequence (design_of image) n (command_kind_of at sequences kind byte refl) (command_holds_lem at kind byte).1 (command_holds_lem at kind byte).2 in
      let p = leads_to child (cmd_of (design_of image) a) in
      let q = leads_to child (cmd_of (design_of image) b) in
      let parts : p ++ q ≡ leads_to child (cmd_of (design_of image) n) = rw (tree, ← (a_is at fa), ← (b_is at fb)) refl in
      second ∙ ap (λ (m : List ℕ). found_all m q) first ∙ found_append marks p q ∙ ap (found_all marks) parts

  pub branch_finds :
      {k b c : ℕ} {middle after : List ℕ}
      → k ≡ 5
      → k ≡ (node_in image x.commands_at n).kind
      → b ≡ (node_in image x.commands_at n).b
      → c ≡ (node_in image x.commands_at n).c
      → middle ≡ found_all marks (leads_to child (cmd_of (design_of image) b))
      → after ≡ found_all middle (leads_to child (cmd_of (design_of image) c))
      → after ≡ found_all marks (leads_to child (cmd_of (design_of image) n))
  unfolding command_kind leads_to
  branch_finds {b = b} {c = c} kind byte fb fc first second =
      let tree = cmd_branch (design_of image) n (command_kind_of at branches kind byte refl) (command_holds_lem at kind byte).2 (command_holds_lem at kind byte).3 in
      let p = leads_to child (cmd_of (design_of image) b) in
      let q = leads_to child (cmd_of (design_of image) c) in
      let parts : p ++ q ≡ leads_to child (cmd_of (design_of image) n) = rw (tree, ← (b_is at fb), ← (c_is at fc)) refl in
      second ∙ ap (λ (m : List ℕ). found_all m q) first ∙ found_append marks p q ∙ ap (found_all marks) parts

  pub fall_finds : {k : ℕ} {after : List ℕ} → k ≡ 3 → k ≡ (node_in image x.commands_at n).kind → after ≡ found marks child → after ≡ found_all marks (leads_to child (cmd_of (design_of image) n))
  unfolding command_kind leads_to found_all
  fall_finds kind byte e = e ∙ rw (cmd_fall (design_of image) n (command_kind_of at falls kind byte refl)) refl

  pub goto_finds : {k t : ℕ} {after : List ℕ} → k ≡ 4 → k ≡ (node_in image x.commands_at n).kind → t ≡ (node_in image x.commands_at n).item → after ≡ found marks t → after ≡ found_all marks (leads_to child (cmd_of (design_of image) n))
  unfolding command_kind leads_to found_all
  goto_finds kind byte f e = e ∙ rw (cmd_goto (design_of image) n (command_kind_of at goes kind byte refl), ← (item_is at f)) refl

  -- a command that is no sequence, fall, goto or if leads nowhere
  leads_nowhere : (k : ℕ) → k ≡ (command_at (design_of image) n).kind → (k ≡ 2 → ⊥) → (k ≡ 3 → ⊥) → (k ≡ 4 → ⊥) → (k ≡ 5 → ⊥) → CommandHolds (design_of image) n (command_kind k) (command_at (design_of image) n)
      → marks ≡ found_all marks (leads_to child (cmd_of (design_of image) n))
  unfolding command_kind leads_to found_all
  leads_nowhere zero e a b c d h = rw (cmd_skip (design_of image) n (ap command_kind (sym e))) refl
  leads_nowhere (suc zero) e a b c d h = rw (cmd_assign (design_of image) n (ap command_kind (sym e))) refl
  leads_nowhere (suc (suc zero)) e a b c d h = absurd (a refl)
  leads_nowhere (suc (suc (suc zero))) e a b c d h = absurd (b refl)
  leads_nowhere (suc (suc (suc (suc zero)))) e a b c d h = absurd (c refl)
  leads_nowhere (suc (suc (suc (suc (suc zero))))) e a b c d h = absurd (d refl)
  leads_nowhere (suc (suc (suc (suc (suc (suc k)))))) e a b c d h = absurd h

  pub other_finds : {k : ℕ} → (k ≡ 2 → ⊥) → (k ≡ 3 → ⊥) → (k ≡ 4 → ⊥) → (k ≡ 5 → ⊥) → k ≡ (node_in image x.commands_at n).kind → marks ≡ found_all marks (leads_to child (cmd_of (design_of image) n))
  other_finds {k} a b c d p = leads_nowhere k (sym (command_kind_is at refl p)) a b c d (command_holds_lem at refl p)

pub ruleset finding_laws = (finding_below, child_inside, goto_inside, sequence_finds, branch_finds, fall_finds, goto_finds, other_finds)

-- ---- the lowest state that waits
module _ (marks : List ℕ) where
  found_waits : {n s : ℕ} {f : Option ℕ} → f ≡ Some s → f ≡ lowest (waits marks) n → (s < n) × (get_or marks s 0 ≡ 2)
  found_waits {n} {s} e h = let is = lowest_at (waits marks) n s (sym h ∙ e) in (is.below, eqb-true (get_or marks s 0) 2 is.passes)

  pub waiting_state : {n s : ℕ} {f : Option ℕ} → f ≡ Some s → f ≡ lowest (waits marks) n → s < n
  waiting_state e h = (found_waits e h).0

  none_waits : {n : ℕ} {f : Option ℕ} → f ≡ None → f ≡ lowest (waits marks) n → (k : ℕ) → k < n → get_or marks k 0 ≢ 2
  none_waits {n} e h k l z = true_or_false (waits marks k) (eq-eqb (get_or marks k 0) 2 z) (lowest_none (waits marks) n (sym h ∙ e) k l)

-- ---- a state is gone through
module _ {image : List ℕ} {x : Described} (here : Structured image x) where
  pub default_inside : {defaults : List ℕ} {s : ℕ} → Defaults (design_of image) defaults → s < x.states → s < length defaults
  default_inside told l = entry_inside here.records.describes told l

  default_state : {s : ℕ} → s < length (design_of image).states → default_target (design_of image) s < length (design_of image).states
  default_state {s} l =
      ⊎_elim
      (λ (h : is_child (design_of image) s (default_target (design_of image) s) ≡ true). (child_of (design_of image) s (default_target (design_of image) s) h).state)
      (λ (h : (has_child (design_of image) s ≡ false) × (default_target (design_of image) s ≡ s)). rw h.1 l)
      (default_cases (design_of image) s)

  child_is : {defaults : List ℕ} {s child : ℕ} → s < x.states → Defaults (design_of image) defaults → child ≡ get_or defaults s 0 → child ≡ default_target (design_of image) s
  child_is {s = s} l told e = let count = states_count here.records.describes in e ∙ told.entry s (omega arith)

  pub body_finding :
      {defaults : List ℕ} (marks : List ℕ) {s n child : ℕ}
      → n ≡ (state_in image x.states_at s).command
      → child ≡ get_or defaults s 0
      → Defaults (design_of image) defaults
      → s < x.states
      → x.states ≤ length marks
      → Finding image x n child (set marks s 1)
  body_finding marks {s} {n} {child} e f told l long =
      let count = states_count here.records.describes in
      let same = length-set marks s 1 in
      record {
        commands = here.records.commands;
        command = command_at_lem here.records.describes here.records.commands (body_below here.records.describes l e here.records.states) refl;
        state = rw (child_is l told f) (default_state (omega arith));
        long = omega arith;
      }

  pub goes_through :
      {defaults after : List ℕ} (marks : List ℕ) {s n child : ℕ}
      → after ≡ found_all (set marks s 1) (leads_to child (cmd_of (design_of image) n))
      → n ≡ (state_in image x.states_at s).command
      → child ≡ get_or defaults s 0
      → Defaults (design_of image) defaults
      → s < x.states
      → after ≡ found_all (set marks s 1) (successors (design_of image) s)
  unfolding successors body_of
  goes_through marks {s} {n} after_is e f told l =
      after_is
      ∙ rw (child_is l told f, body_is here.records.describes l e) refl

-- ---- what is known of the table between two states that are gone through
pub record Reaching (d : Design) (marks : List ℕ) : Type 0 where
  pub whole : length marks ≡ states_max
  pub long : length d.states ≤ length marks
  pub most : (k : ℕ) → get_or marks k 0 ≤ 2
  pub first : get_or marks 0 0 ≢ 0
  pub only : (k : ℕ) → get_or marks k 0 ≢ 0 → Reached d k
  pub closed : (s t : ℕ) → s < length d.states → get_or marks s 0 ≡ 1 → Memᴰ t (successors d s) → get_or marks t 0 ≢ 0

-- how many of the first n states were not gone through
abbrev left : List ℕ → ℕ → Bool
left marks k = not (eqb (get_or marks k 0) 1)

unfoldable pub undone : List ℕ → ℕ → ℕ
undone marks n = closed_up (left marks) n

-- it is as long as it was
pub reaching_same : {d : Design} {old marks : List ℕ} → Reaching d marks → old ≡ replicate {A = ℕ} states_max 0 → length marks ≡ length old
reaching_same so e = so.whole ∙ sym (ap length e ∙ length-replicate {A = ℕ} states_max 0)

pub reaching_begins : {image marks : List ℕ} {x : Described} → Structured image x → marks ≡ replicate {A = ℕ} states_max 0 → Reaching (design_of image) (set marks 0 2)
reaching_begins {image} {marks} here e =
    let few = states_few here.records.describes in
    let count = states_count here.records.describes in
    let fresh = ap length e ∙ length-replicate {A = ℕ} states_max 0 in
    let same = length-set marks 0 2 in
    let two = get_or-set_same marks 0 2 0 (omega arith) in
    record {
      whole = same ∙ fresh;
      long = omega arith;
      most = λ k. ⊎_elim (λ (h : k ≡ 0). rw h (omega arith)) (λ (h : get_or (set marks 0 2) k 0 ≡ 0). omega arith) (entry k);
      first = λ z. omega arith;
      only = λ k h. ⊎_elim (λ (z : k ≡ 0). rw z root) (λ (z : get_or (set marks 0 2) k 0 ≡ 0). absurd (h z)) (entry k);
      closed = λ s t l h m. ⊎_elim (λ (z : s ≡ 0). absurd (let one : get_or (set marks 0 2) 0 0 ≡ 1 = ap (λ (i : ℕ). get_or (set marks 0 2) i 0) (sym z) ∙ h in omega arith)) (λ (z : get_or (set marks 0 2) s 0 ≡ 0). absurd (omega arith)) (entry s);
    }
  where
    entry : (k : ℕ) → (k ≡ 0) ⊎ (get_or (set marks 0 2) k 0 ≡ 0)
    entry k = go (ℕ_discrete k 0)
      where
        go : Dec (k ≡ 0) → (k ≡ 0) ⊎ (get_or (set marks 0 2) k 0 ≡ 0)
        go (yes h) = inl h
        go (no h) = inr (get_or-set_other marks 0 k 2 0 h ∙ fresh_zero states_max k e)

-- ---- one state more
module _ (d : Design) (keeps : StructureKeeps d) where
  -- what a reached state leads to is reached
  led_reached : (s t : ℕ) → s < length d.states → Reached d s → Memᴰ t (successors d s) → Reached d t
  unfolding successors
  led_reached s t l above m = go (leads_cases d s (body_of d s) (keeps.shaped s l) m)
    where
      go : LeadsTo d s t (body_of d s) → Reached d t
      go (inl (f, child)) = fallen above l f child
      go (inr g) = gone above l g

  module _ (marks : List ℕ) (s : ℕ) (so : Reaching d marks) (l : s < length d.states) (waiting : get_or marks s 0 ≡ 2) where
    abbrev through : List ℕ
    through = set marks s 1

    abbrev next : List ℕ
    next = found_all through (successors d s)

    inside : s < length marks
    inside = let long = so.long in omega arith

    through_here : get_or through s 0 ≡ 1
    through_here = get_or-set_same marks s 1 0 inside

    next_here : get_or next s 0 ≡ 1
    next_here = all_stays through (successors d s) s (λ z. let one = through_here in omega arith) ∙ through_here

    -- another state's entry stays, or its state is led to
    next_entry : (k : ℕ) → k ≢ s → OldOrNew marks (successors d s) next k
    next_entry k other = go (all_entry through (successors d s) k)
      where
        same : get_or through k 0 ≡ get_or marks k 0
        same = get_or-set_other marks s k 1 0 other

        go : OldOrNew through (successors d s) next k → OldOrNew marks (successors d s) next k
        go (inl e) = inl (e ∙ same)
        go (inr (m, z, e)) = inr (m, sym same ∙ z, e)

    next_marked : (k : ℕ) → get_or marks k 0 ≢ 0 → get_or next k 0 ≢ 0
    next_marked k old z = go (ℕ_discrete k s)
      where
        stays : k ≢ s → ⊥
        stays other = ⊎_elim (λ (e : get_or next k 0 ≡ get_or marks k 0). old (sym e ∙ z)) (λ (e : New marks (successors d s) next k). old e.1) (next_entry k other)

        go : Dec (k ≡ s) → ⊥
        go (yes e) = let one = next_here in let none : get_or next s 0 ≡ 0 = ap (λ (i : ℕ). get_or next i 0) (sym e) ∙ z in omega arith
        go (no e) = stays e

    next_most : (k : ℕ) → Dec (k ≡ s) → get_or next k 0 ≤ 2
    next_most k (yes e) = rw e (let one = next_here in omega arith)
    next_most k (no e) =
        ⊎_elim
        (λ (h : get_or next k 0 ≡ get_or marks k 0). let most = so.most k in omega arith)
        (λ (h : New marks (successors d s) next k). let two = h.2 in omega arith)
        (next_entry k e)

    here_reached : Reached d s
    here_reached = so.only s (λ z. omega arith)

    next_only : (k : ℕ) → get_or next k 0 ≢ 0 → Dec (k ≡ s) → Reached d k
    next_only k h (yes e) = rw e here_reached
    next_only k h (no e) =
        ⊎_elim
        (λ (f : get_or next k 0 ≡ get_or marks k 0). so.only k (λ z. h (f ∙ z)))
        (λ (f : New marks (successors d s) next k). led_reached s k l here_reached f.0)
        (next_entry k e)

    next_closed : (r t : ℕ) → r < length d.states → get_or next r 0 ≡ 1 → Memᴰ t (successors d r) → Dec (r ≡ s) → get_or next t 0 ≢ 0
    next_closed r t b h m (yes e) =
        let led = rw e at m in
        let state = reached_state d keeps (omega arith) (led_reached s t l here_reached led) in
        let long = so.long in
        let same = length-set marks s 1 in
        all_marked through (successors d s) t led (omega arith)
    next_closed r t b h m (no e) =
        ⊎_elim
        (λ (f : get_or next r 0 ≡ get_or marks r 0). next_marked t (so.closed r t b (sym f ∙ h) m))
        (λ (f : New marks (successors d s) next r). let two = f.2 in absurd (omega arith))
        (next_entry r e)

    reaching_next : Reaching d next
    reaching_next =
        let same = length-all through (successors d s) ∙ length-set marks s 1 in
        let long = so.long in
        record {
          whole = same ∙ so.whole;
          long = omega arith;
          most = λ k. next_most k (ℕ_discrete k s);
          first = next_marked 0 so.first;
          only = λ k h. next_only k h (ℕ_discrete k s);
          closed = λ r t b h m. next_closed r t b h m (ℕ_discrete r s);
        }

    -- and one is gone through that was not
    next_grows : (i : ℕ) → left next i ≡ true → left marks i ≡ true
    next_grows i h = go (ℕ_discrete (get_or marks i 0) 1)
      where
        go : Dec (get_or marks i 0 ≡ 1) → left marks i ≡ true
        go (yes e) =
            let other : i ≢ s = λ z. let one : get_or marks s 0 ≡ 1 = ap (λ (i : ℕ). get_or marks i 0) (sym z) ∙ e in omega arith in
            let same = get_or-set_other marks s i 1 0 other ∙ e in
            let stays = all_stays through (successors d s) i (λ z. omega arith) ∙ same in
            absurd (true_or_false (eqb (get_or next i 0) 1) (eq-eqb (get_or next i 0) 1 stays) (not_true (eqb (get_or next i 0) 1) h))
        go (no e) = rw (ne_eqb (get_or marks i 0) 1 e) refl

    undone_next : (n : ℕ) → s < n → undone next n < undone marks n
    unfolding undone
    undone_next n b = go (dec_lt (closed_up (left next) n) (closed_up (left marks) n))
      where
        go : Dec (closed_up (left next) n < closed_up (left marks) n) → closed_up (left next) n < closed_up (left marks) n
        go (yes h) = h
        go (no h) =
            let before : left marks s ≡ true = rw (ne_eqb (get_or marks s 0) 1 (λ z. omega arith)) refl in
            let rests = count_rests (left next) (left marks) n (λ i c. next_grows i) (omega arith) s b before in
            absurd (true_or_false (eqb (get_or next s 0) 1) (eq-eqb (get_or next s 0) 1 next_here) (not_true (eqb (get_or next s 0) 1) rests))

-- ---- where none waits
module _ (d : Design) (keeps : StructureKeeps d) (some : 0 < length d.states) (marks : List ℕ) (so : Reaching d marks) (none : (k : ℕ) → k < length d.states → get_or marks k 0 ≢ 2) where
  gone_through : (k : ℕ) → k < length d.states → get_or marks k 0 ≢ 0 → get_or marks k 0 ≡ 1
  gone_through k l h = between (get_or marks k 0) h (none k l) (so.most k)
    where
      between : (m : ℕ) → m ≢ 0 → m ≢ 2 → m ≤ 2 → m ≡ 1
      between m a b c = omega arith

  all_reached : {k : ℕ} → Reached d k → get_or marks k 0 ≢ 0
  unfolding successors
  all_reached h =
      reached_least
      d
      (λ k. get_or marks k 0 ≢ 0)
      so.first
      (λ s q m l f child. so.closed s q l (gone_through s l m) (fall_leads d s f child))
      (λ s t m l g. so.closed s t l (gone_through s l m) (goto_leads d s g))
      h

  reached_entry : (k : ℕ) → k < length d.states → get_or marks k 0 ≡ one_or_zero (reached d k)
  reached_entry k l = go (decide (reached d k)) (ℕ_discrete (get_or marks k 0) 0)
    where
      go : (reached d k ≡ true) ⊎ (reached d k ≡ false) → Dec (get_or marks k 0 ≡ 0) → get_or marks k 0 ≡ one_or_zero (reached d k)
      go (inl e) z = gone_through k l (all_reached ((reached_iff d keeps some k).0 e)) ∙ rw e refl
      go (inr e) (yes z) = z ∙ rw e refl
      go (inr e) (no z) = absurd (true_or_false (reached d k) ((reached_iff d keeps some k).1 (so.only k z)) e)

-- ---- what the loop cites
module _ {image : List ℕ} {x : Described} (here : Structured image x) where
  pub reaching_long : {marks : List ℕ} → Reaching (design_of image) marks → x.states ≤ length marks
  reaching_long so = let count = states_count here.records.describes in let long = so.long in omega arith

  pub reaching_more :
      {marks after : List ℕ} {s : ℕ} {f : Option ℕ}
      → f ≡ Some s
      → f ≡ lowest (waits marks) x.states
      → Reaching (design_of image) marks
      → after ≡ found_all (set marks s 1) (successors (design_of image) s)
      → Reaching (design_of image) after
  reaching_more {marks} {s = s} e h so after_is =
      let count = states_count here.records.describes in
      let is = found_waits marks e h in
      let below = is.0 in
      rw after_is (reaching_next (design_of image) here.structure marks s so (omega arith) is.1)

  pub reaching_less :
      {marks after : List ℕ} {s : ℕ} {f : Option ℕ}
      → f ≡ Some s
      → f ≡ lowest (waits marks) x.states
      → Reaching (design_of image) marks
      → after ≡ found_all (set marks s 1) (successors (design_of image) s)
      → undone after x.states < undone marks x.states
  reaching_less {marks} {s = s} e h so after_is =
      let count = states_count here.records.describes in
      let is = found_waits marks e h in
      let below = is.0 in
      rw after_is (undone_next (design_of image) here.structure marks s so (omega arith) is.1 x.states below)

  pub reaching_ends : {marks : List ℕ} {f : Option ℕ} → f ≡ None → f ≡ lowest (waits marks) x.states → Reaching (design_of image) marks → Marked (reached (design_of image)) x.states marks
  reaching_ends {marks} e h so =
      let count = states_count here.records.describes in
      let long = so.long in
      record {
        long = omega arith;
        entry = λ k l. reached_entry (design_of image) here.structure (omega arith) marks so (λ i b. none_waits marks e h i (omega arith)) k (omega arith);
      }

  -- a state that does not exist is not reached, so that its entry stays
  pub reaching_whole :
      {old marks : List ℕ} {f : Option ℕ}
      → f ≡ None
      → f ≡ lowest (waits marks) x.states
      → Reaching (design_of image) marks
      → old ≡ replicate {A = ℕ} states_max 0
      → marks ≡ filled_to (mark_of (reached (design_of image))) x.states old
  unfolding mark_of
  reaching_whole {old} {marks} e h so fresh =
      filled_is (mark_of (reached (design_of image))) x.states old marks (reaching_same so fresh) (reaching_ends e h so).entry (λ k l. behind k l (ℕ_discrete (get_or marks k 0) 0))
    where
      behind : (k : ℕ) → x.states ≤ k → Dec (get_or marks k 0 ≡ 0) → get_or marks k 0 ≡ get_or old k 0
      behind k l (yes z) = z ∙ sym (fresh_zero states_max k fresh)
      behind k l (no z) =
          let count = states_count here.records.describes in
          let some : 0 < length (design_of image).states = omega (arith, here.records.describes.states, here.records.describes.directory.sections States) in
          let below = reached_state (design_of image) here.structure some (so.only k z) in
          absurd (omega arith)
