-- What a command of each kind leaves and comes to, from what its parts leave and come to: the laws that the recursion over commands cites.
use Rattle.std.proofs.Common.{◌≡◌, ℕ, ◌+◌, ◌*◌, ◌%◌, ◌^◌, ◌<◌, ◌≤◌, Bool, true, false, cond, eqb, List, length, sym, refl, ap, ◌∙◌, arith, eq-eqb, ne_eqb}
use native.Mathlib.Decide.{ℕ_discrete}
use Rattle.model.specs.Limits.{width_max}
use Rattle.model.specs.declared.Ending.{Ending}
use Rattle.model.specs.declared.Ending.TheVariants.{Goto, Fall}
use Rattle.model.specs.declared.Outcome.{Outcome}
use Rattle.model.specs.declared.Outcome.TheVariants.{Continued, Transferred}
use Rattle.model.specs.Image.{design_of, register_at, command_at}
use Rattle.model.specs.Kinds.{assigns, sequences, branches, command_kind}
use Rattle.model.specs.Trees.{assign, sequence, branch, expr_of, cmd_of}
use Rattle.model.specs.Bindings.{named, expr_with, cmd_with}
use Rattle.model.specs.Machine.{eval, exec}
use Rattle.model.proofs.Laws.Booleans.{cond_true, cond_false}
use Rattle.model.proofs.Laws.Kinds.{kind_skips, kind_falls, kind_goes, no_command_kind}
use Rattle.model.proofs.Laws.Trees.{cmd_skip, cmd_assign, cmd_sequence, cmd_fall, cmd_goto, cmd_branch}
use Rattle.design.specs.declared.Design.{Design}
use Rattle.design.specs.Records.{register_in, node_in}
use Rattle.design.specs.RecordsAt.{CommandAt}
use Rattle.design.proofs.Laws.{registers_count, expressions_count}
use Rattle.design.specs.Words.{put_word}
use Rattle.design.proofs.FieldRules.{command_kind_is, command_kind_of, item_is, a_is, b_is, c_is, command_holds_lem, assigned_expression, condition, sequence_a_below, sequence_b_below, branch_b_below, branch_c_below, lower_command, expression_at_lem}
use Rattle.design.proofs.WordRules.{words_put, length-put}
use Rattle.design.proofs.WidthRules.{width_is, width_narrow}
use Rattle.machine_commands.specs.Executions.{Evaluating, Transferring, Performing, ReadsFit, CommandFits, bound_of, executed_as, values_in}

-- ---- the part of an if that is taken
module _ (v b c : ℕ) where
  pub chooses_second : v ≡ 0 → c ≡ cond (eqb v 0) c b
  chooses_second e = sym (cond_true (eqb v 0) c b (eq-eqb v 0 e))

  pub chooses_first : (v ≡ 0 → ⊥) → b ≡ cond (eqb v 0) c b
  chooses_first h = sym (cond_false (eqb v 0) c b (ne_eqb v 0 h))

-- ---- a fall and a goto, whatever the registers are
module _ {image : List ℕ} {x : Design} {n : ℕ} (here : Transferring image x n) where
  module _ (bound : ℕ) (values : List ℕ) where
    pub comes_to_fall : {k : ℕ} → k ≡ 3 → k ≡ (node_in image x.commands_at n).kind → executed_as values (Transferred Fall) ≡ exec (design_of image).registers values (cmd_with (bound_of bound) (cmd_of (design_of image) n))
    unfolding exec cmd_with
    comes_to_fall q p = rw (cmd_fall (design_of image) n (kind_falls (command_kind_is here.command q p))) refl

    pub comes_to_goto :
        {k s a b v w : ℕ}
        → (k ≡ 3 → ⊥)
        → k ≡ (node_in image x.commands_at n).kind
        → s ≡ (node_in image x.commands_at n).item
        → v ≡ named (bound_of bound) a
        → a ≡ (node_in image x.commands_at n).a
        → w ≡ named (bound_of bound) b
        → b ≡ (node_in image x.commands_at n).b
        → executed_as values (Transferred (Goto s v w)) ≡ exec (design_of image).registers values (cmd_with (bound_of bound) (cmd_of (design_of image) n))
    unfolding exec cmd_with
    comes_to_goto {k} {s} {v = v} {w = w} other p f first g second h =
        let d = design_of image in
        let low = here.lowest in
        let high = here.highest in
        let goes : k ≡ 4 = omega arith in
        let state : s ≡ (command_at d n).item = item_is here.command f in
        let given : v ≡ named (bound_of bound) (command_at d n).a = first ∙ ap (named (bound_of bound)) (a_is here.command g) in
        let next : w ≡ named (bound_of bound) (command_at d n).b = second ∙ ap (named (bound_of bound)) (b_is here.command h) in
        rw (cmd_goto d n (kind_goes (command_kind_is here.command goes p)), state, given, next) refl

-- ---- what is known at a command
module _ {image : List ℕ} {x : Design} {before : List ℕ} {bound n : ℕ} (here : Performing image x before bound n) where
  -- ---- trees
  assign_tree : {k : ℕ} → k ≡ 1 → k ≡ (node_in image x.commands_at n).kind → cmd_of (design_of image) n ≡ assign n (command_at (design_of image) n).item (expr_of (design_of image) (command_at (design_of image) n).a)
  unfolding command_kind
  assign_tree q p = cmd_assign (design_of image) n (command_kind_of here.command assigns q p refl)

  sequence_tree : {k : ℕ} → k ≡ 2 → k ≡ (node_in image x.commands_at n).kind → cmd_of (design_of image) n ≡ sequence n (cmd_of (design_of image) (command_at (design_of image) n).a) (cmd_of (design_of image) (command_at (design_of image) n).b)
  unfolding command_kind
  sequence_tree q p = cmd_sequence (design_of image) n (command_kind_of here.command sequences q p refl) (command_holds_lem here.command q p).1 (command_holds_lem here.command q p).2

  branch_tree : {k : ℕ} → k ≡ 5 → k ≡ (node_in image x.commands_at n).kind → cmd_of (design_of image) n ≡ branch n (expr_of (design_of image) (command_at (design_of image) n).a) (cmd_of (design_of image) (command_at (design_of image) n).b) (cmd_of (design_of image) (command_at (design_of image) n).c)
  unfolding command_kind
  branch_tree q p = cmd_branch (design_of image) n (command_kind_of here.command branches q p refl) (command_holds_lem here.command q p).2 (command_holds_lem here.command q p).3

  -- ---- parts
  -- a part runs over an area of the same length
  lower : {m : ℕ} (after : List ℕ) → m < n → CommandFits (design_of image) (bound_of bound) (cmd_of (design_of image) m) → length after ≡ length before → Performing image x after bound m
  lower after l fits same =
      record {
        known = here.known;
        command = lower_command here.command here.known.commands l;
        fits = fits;
        area = same ∙ here.area;
      }

  evaluating : {e : ℕ} → e < length (design_of image).expressions → ReadsFit (design_of image) (bound_of bound) (expr_of (design_of image) e) → Evaluating image x before bound e
  evaluating l fits =
      let count = expressions_count here.known.describes in
      record {
        known = here.known;
        expression = expression_at_lem here.known.describes here.known.expressions (omega arith) refl;
        fits = fits;
        area = here.area;
      }

  transferring_at : {m w : ℕ} → CommandAt image x x.commands_at m → 3 ≤ w → w < 5 → w ≡ (node_in image x.commands_at m).kind → Transferring image x m
  transferring_at there low high p = record { command = there; lowest = omega arith; highest = omega arith }

  pub sequence_a_performing : {k a : ℕ} → k ≡ 2 → k ≡ (node_in image x.commands_at n).kind → a ≡ (node_in image x.commands_at n).a → Performing image x before bound a
  unfolding CommandFits
  sequence_a_performing q p f =
      let fits = rw (sequence_tree q p) at here.fits in
      lower before (sequence_a_below here.command q p f) (rw (a_is here.command f) fits.0) refl

  pub sequence_b_performing :
      {k b : ℕ} {after : List ℕ}
      → k ≡ 2
      → k ≡ (node_in image x.commands_at n).kind
      → b ≡ (node_in image x.commands_at n).b
      → length after ≡ length before
      → Performing image x after bound b
  unfolding CommandFits
  sequence_b_performing {after = after} q p f same =
      let fits = rw (sequence_tree q p) at here.fits in
      lower after (sequence_b_below here.command q p f) (rw (b_is here.command f) fits.1) same

  branch_b_performing : {k b : ℕ} → k ≡ 5 → k ≡ (node_in image x.commands_at n).kind → b ≡ (node_in image x.commands_at n).b → Performing image x before bound b
  unfolding CommandFits
  branch_b_performing q p f =
      let fits = rw (branch_tree q p) at here.fits in
      lower before (branch_b_below here.command q p f) (rw (b_is here.command f) fits.1) refl

  branch_c_performing : {k c : ℕ} → k ≡ 5 → k ≡ (node_in image x.commands_at n).kind → c ≡ (node_in image x.commands_at n).c → Performing image x before bound c
  unfolding CommandFits
  branch_c_performing q p f =
      let fits = rw (branch_tree q p) at here.fits in
      lower before (branch_c_below here.command q p f) (rw (c_is here.command f) fits.2) refl

  -- the branch that is taken, from both
  chosen_of : (P : ℕ → Type 0) (v b c : ℕ) {m : ℕ} → m ≡ cond (eqb v 0) c b → P b → P c → P m
  chosen_of P v b c {m} is first second = go (eqb v 0) is
    where
      go : (w : Bool) → m ≡ cond w c b → P m
      go true e = rw e second
      go false e = rw e first

  module _ {k b c m : ℕ} (v : ℕ) (q : k ≡ 5) (is : m ≡ cond (eqb v 0) c b) (p : k ≡ (node_in image x.commands_at n).kind) (f : b ≡ (node_in image x.commands_at n).b) (g : c ≡ (node_in image x.commands_at n).c) where
    pub chosen_performing : Performing image x before bound m
    chosen_performing = chosen_of (λ i. Performing image x before bound i) v b c is (branch_b_performing q p f) (branch_c_performing q p g)

    chosen_below : m < n
    chosen_below = chosen_of (λ i. i < n) v b c is (branch_b_below here.command q p f) (branch_c_below here.command q p g)

    pub chosen_falls : {t : ℕ} → n ≡ t → m < t
    chosen_falls e = let below = chosen_below in omega arith

    pub chosen_place : m < x.commands
    chosen_place = (lower_command here.command here.known.commands chosen_below).node

    pub chosen_transferring : {w : ℕ} → 3 ≤ w → w < 5 → w ≡ (node_in image x.commands_at m).kind → Transferring image x m
    chosen_transferring low high e = transferring_at (lower_command here.command here.known.commands chosen_below) low high e

  pub assigned_evaluating : {k e : ℕ} → k ≡ 1 → k ≡ (node_in image x.commands_at n).kind → e ≡ (node_in image x.commands_at n).a → Evaluating image x before bound e
  unfolding CommandFits
  assigned_evaluating q p f =
      let fits = rw (assign_tree q p) at here.fits in
      evaluating (assigned_expression here.command q p f) (rw (a_is here.command f) fits.1)

  pub condition_evaluating : {k e : ℕ} → k ≡ 5 → k ≡ (node_in image x.commands_at n).kind → e ≡ (node_in image x.commands_at n).a → Evaluating image x before bound e
  unfolding CommandFits
  condition_evaluating q p f =
      let fits = rw (branch_tree q p) at here.fits in
      evaluating (condition here.command q p f) (rw (a_is here.command f) fits.0)

  -- ---- a command or a part that is a fall or a goto
  pub sequence_b_transferring : {k b w : ℕ} → k ≡ 2 → k ≡ (node_in image x.commands_at n).kind → b ≡ (node_in image x.commands_at n).b → 3 ≤ w → w < 5 → w ≡ (node_in image x.commands_at b).kind → Transferring image x b
  sequence_b_transferring q p f low high = transferring_at (lower_command here.command here.known.commands (sequence_b_below here.command q p f)) low high

  -- where a part stands
  pub sequence_b_place : {k b : ℕ} → k ≡ 2 → k ≡ (node_in image x.commands_at n).kind → b ≡ (node_in image x.commands_at n).b → b < x.commands
  sequence_b_place q p f = (lower_command here.command here.known.commands (sequence_b_below here.command q p f)).node

  -- ---- what a command leaves
  area_is : length before ≡ 4 * length (design_of image).registers
  area_is = rw (registers_count here.known.describes) at here.area

  -- the register written
  written_is : {k r : ℕ} → k ≡ 1 → k ≡ (node_in image x.commands_at n).kind → r ≡ named (bound_of bound) (node_in image x.commands_at n).item → r ≡ named (bound_of bound) (command_at (design_of image) n).item
  written_is q p f = f ∙ ap (named (bound_of bound)) (item_is here.command refl)

  written_below : {k r : ℕ} → k ≡ 1 → k ≡ (node_in image x.commands_at n).kind → r ≡ named (bound_of bound) (node_in image x.commands_at n).item → r < length (design_of image).registers
  unfolding CommandFits
  written_below q p f =
      let fits = rw (assign_tree q p) at here.fits in
      rw (written_is q p f) fits.0

  pub written_inside : {k i r : ℕ} → k ≡ 1 → k ≡ (node_in image x.commands_at n).kind → i ≡ (node_in image x.commands_at n).item → r ≡ named (bound_of bound) i → 4 * r + 4 ≤ length before
  written_inside q p item f = let area = area_is in let below = written_below q p (f ∙ ap (named (bound_of bound)) item) in omega arith

  -- the width of the register written
  written_register : {k r : ℕ} → k ≡ 1 → k ≡ (node_in image x.commands_at n).kind → r ≡ named (bound_of bound) (node_in image x.commands_at n).item → r < x.registers
  written_register q p f = let count = registers_count here.known.describes in let below = written_below q p f in omega arith

  pub width_inside : {k i r : ℕ} → k ≡ 1 → k ≡ (node_in image x.commands_at n).kind → i ≡ (node_in image x.commands_at n).item → r ≡ named (bound_of bound) i → r < x.registers
  width_inside q p item f = written_register q p (f ∙ ap (named (bound_of bound)) item)

  pub written_narrow : {k i r w : ℕ} → k ≡ 1 → k ≡ (node_in image x.commands_at n).kind → i ≡ (node_in image x.commands_at n).item → r ≡ named (bound_of bound) i → w ≡ (register_in image x.registers_at r).width → w ≤ width_max
  written_narrow {r = r} q p item f h = width_narrow here.known (written_register q p (f ∙ ap (named (bound_of bound)) item)) h

  pub executes_assign :
      {k i r e v w u : ℕ} {after : List ℕ}
      → k ≡ 1
      → k ≡ (node_in image x.commands_at n).kind
      → after ≡ put_word before r u
      → i ≡ (node_in image x.commands_at n).item
      → r ≡ named (bound_of bound) i
      → u ≡ v % 2 ^ w
      → w ≡ (register_in image x.registers_at r).width
      → v ≡ eval (values_in (design_of image) before) (expr_with (bound_of bound) (expr_of (design_of image) e))
      → e ≡ (node_in image x.commands_at n).a
      → u < 2 ^ 32
      → executed_as (values_in (design_of image) after) Continued ≡ exec (design_of image).registers (values_in (design_of image) before) (cmd_with (bound_of bound) (cmd_of (design_of image) n))
  unfolding exec cmd_with
  executes_assign {r = r} {e = e} {v = v} {w = w} {u = u} {after = after} q p wrote item named_so cut width value g small =
      let f = named_so ∙ ap (named (bound_of bound)) item in
      let d = design_of image in
      let values = values_in d before in
      let same : v ≡ eval values (expr_with (bound_of bound) (expr_of d (command_at d n).a)) = value ∙ ap (λ (m : ℕ). eval values (expr_with (bound_of bound) (expr_of d m))) (a_is here.command g) in
      let stored : u ≡ v % 2 ^ (register_at d r).width = cut ∙ ap (λ (m : ℕ). v % 2 ^ m) (width_is here.known (written_register q p f) width) in
      let words = ap (values_in d) wrote ∙ words_put before (written_below q p f) area_is small in
      rw (assign_tree q p) (ap (λ (ws : List ℕ). executed_as ws Continued) words ∙ rw (stored, same, written_is q p f) refl)

  pub executes_first :
      {k a : ℕ} (after : List ℕ) {o r : Outcome} {ending : Ending}
      → k ≡ 2
      → k ≡ (node_in image x.commands_at n).kind
      → o ≡ Transferred ending
      → r ≡ o
      → executed_as (values_in (design_of image) after) o ≡ exec (design_of image).registers (values_in (design_of image) before) (cmd_with (bound_of bound) (cmd_of (design_of image) a))
      → a ≡ (node_in image x.commands_at n).a
      → executed_as (values_in (design_of image) after) r ≡ exec (design_of image).registers (values_in (design_of image) before) (cmd_with (bound_of bound) (cmd_of (design_of image) n))
  unfolding exec cmd_with command_kind
  executes_first after q p ended same first f =
      let tree = sequence_tree q p in
      let part = rw (a_is here.command f) at first in
      rw (same, tree, sym part, ended) refl

  pub executes_second :
      {k a b : ℕ} (between after : List ℕ) {o last r : Outcome}
      → k ≡ 2
      → k ≡ (node_in image x.commands_at n).kind
      → a ≡ (node_in image x.commands_at n).a
      → b ≡ (node_in image x.commands_at n).b
      → executed_as (values_in (design_of image) between) o ≡ exec (design_of image).registers (values_in (design_of image) before) (cmd_with (bound_of bound) (cmd_of (design_of image) a))
      → o ≡ Continued
      → executed_as (values_in (design_of image) after) last ≡ exec (design_of image).registers (values_in (design_of image) between) (cmd_with (bound_of bound) (cmd_of (design_of image) b))
      → r ≡ last
      → executed_as (values_in (design_of image) after) r ≡ exec (design_of image).registers (values_in (design_of image) before) (cmd_with (bound_of bound) (cmd_of (design_of image) n))
  unfolding exec cmd_with command_kind
  executes_second between after q p f g first ended second same =
      let tree = sequence_tree q p in
      let part = rw (a_is here.command f) at first in
      let then = rw (b_is here.command g) at second in
      rw (same, tree, sym part, ended) then

  executes_other :
      {k e c v : ℕ} (after : List ℕ) {o r : Outcome}
      → k ≡ 5
      → k ≡ (node_in image x.commands_at n).kind
      → e ≡ (node_in image x.commands_at n).a
      → c ≡ (node_in image x.commands_at n).c
      → v ≡ eval (values_in (design_of image) before) (expr_with (bound_of bound) (expr_of (design_of image) e))
      → v ≡ 0
      → executed_as (values_in (design_of image) after) o ≡ exec (design_of image).registers (values_in (design_of image) before) (cmd_with (bound_of bound) (cmd_of (design_of image) c))
      → r ≡ o
      → executed_as (values_in (design_of image) after) r ≡ exec (design_of image).registers (values_in (design_of image) before) (cmd_with (bound_of bound) (cmd_of (design_of image) n))
  unfolding exec cmd_with command_kind
  executes_other after q p f g value none part answered =
      let d = design_of image in
      let tree = branch_tree q p in
      let same = rw (a_is here.command f) at value in
      let then = rw (c_is here.command g) at part in
      rw (answered, tree, sym same, none) then

  executes_taken :
      {k e b v : ℕ} (after : List ℕ) {o r : Outcome}
      → k ≡ 5
      → k ≡ (node_in image x.commands_at n).kind
      → e ≡ (node_in image x.commands_at n).a
      → b ≡ (node_in image x.commands_at n).b
      → v ≡ eval (values_in (design_of image) before) (expr_with (bound_of bound) (expr_of (design_of image) e))
      → (v ≡ 0 → ⊥)
      → executed_as (values_in (design_of image) after) o ≡ exec (design_of image).registers (values_in (design_of image) before) (cmd_with (bound_of bound) (cmd_of (design_of image) b))
      → r ≡ o
      → executed_as (values_in (design_of image) after) r ≡ exec (design_of image).registers (values_in (design_of image) before) (cmd_with (bound_of bound) (cmd_of (design_of image) n))
  unfolding exec cmd_with command_kind
  executes_taken {v = v} after q p f g value some part answered =
      let d = design_of image in
      let tree = branch_tree q p in
      let same = rw (a_is here.command f) at value in
      let then = rw (b_is here.command g) at part in
      rw (answered, tree, sym same, ne_eqb v 0 some) then

  pub executes_branch :
      {k e b c m : ℕ} (v : ℕ) (after : List ℕ) {o r : Outcome}
      → k ≡ 5
      → m ≡ cond (eqb v 0) c b
      → k ≡ (node_in image x.commands_at n).kind
      → e ≡ (node_in image x.commands_at n).a
      → b ≡ (node_in image x.commands_at n).b
      → c ≡ (node_in image x.commands_at n).c
      → v ≡ eval (values_in (design_of image) before) (expr_with (bound_of bound) (expr_of (design_of image) e))
      → executed_as (values_in (design_of image) after) o ≡ exec (design_of image).registers (values_in (design_of image) before) (cmd_with (bound_of bound) (cmd_of (design_of image) m))
      → r ≡ o
      → executed_as (values_in (design_of image) after) r ≡ exec (design_of image).registers (values_in (design_of image) before) (cmd_with (bound_of bound) (cmd_of (design_of image) n))
  executes_branch {b = b} {c = c} {m = m} v after {o} {r} q is p f g h value part answered = go (ℕ_discrete v 0)
    where
      go : Dec (v ≡ 0) → executed_as (values_in (design_of image) after) r ≡ exec (design_of image).registers (values_in (design_of image) before) (cmd_with (bound_of bound) (cmd_of (design_of image) n))
      go (yes none) =
          let other : m ≡ c = is ∙ sym (chooses_second v b c none) in
          executes_other after q p f h value none (rw other at part) answered
      go (no some) =
          let taken : m ≡ b = is ∙ sym (chooses_first v b c some) in
          executes_taken after q p f g value some (rw taken at part) answered

  pub executes_skip :
      {k : ℕ}
      → k < 1
      → k ≡ (node_in image x.commands_at n).kind
      → executed_as (values_in (design_of image) before) Continued ≡ exec (design_of image).registers (values_in (design_of image) before) (cmd_with (bound_of bound) (cmd_of (design_of image) n))
  unfolding exec cmd_with
  executes_skip l p = rw (cmd_skip (design_of image) n (kind_skips (command_kind_is here.command (omega arith) p))) refl

  -- no number from here on is a kind
  pub executes_none :
      {k : ℕ}
      → 5 ≤ k
      → (k ≡ 5 → ⊥)
      → k ≡ (node_in image x.commands_at n).kind
      → executed_as (values_in (design_of image) before) Continued ≡ exec (design_of image).registers (values_in (design_of image) before) (cmd_with (bound_of bound) (cmd_of (design_of image) n))
  executes_none {k} l other p = absurd (rw (no_command_kind {k = k} (omega arith)) at (command_holds_lem here.command refl p))

  -- with a fall or a goto that comes last
  pub executes_second_ending :
      {k a b : ℕ} (after : List ℕ) {o r : Outcome}
      → k ≡ 2
      → k ≡ (node_in image x.commands_at n).kind
      → a ≡ (node_in image x.commands_at n).a
      → b ≡ (node_in image x.commands_at n).b
      → executed_as (values_in (design_of image) after) o ≡ exec (design_of image).registers (values_in (design_of image) before) (cmd_with (bound_of bound) (cmd_of (design_of image) a))
      → o ≡ Continued
      → ((values : List ℕ) → executed_as values r ≡ exec (design_of image).registers values (cmd_with (bound_of bound) (cmd_of (design_of image) b)))
      → executed_as (values_in (design_of image) after) r ≡ exec (design_of image).registers (values_in (design_of image) before) (cmd_with (bound_of bound) (cmd_of (design_of image) n))
  executes_second_ending after q p f g first ended every = executes_second after after q p f g first ended (every (values_in (design_of image) after)) refl

  pub executes_branch_ending :
      {k e b c m : ℕ} (v : ℕ) {r : Outcome}
      → k ≡ 5
      → m ≡ cond (eqb v 0) c b
      → k ≡ (node_in image x.commands_at n).kind
      → e ≡ (node_in image x.commands_at n).a
      → b ≡ (node_in image x.commands_at n).b
      → c ≡ (node_in image x.commands_at n).c
      → v ≡ eval (values_in (design_of image) before) (expr_with (bound_of bound) (expr_of (design_of image) e))
      → ((values : List ℕ) → executed_as values r ≡ exec (design_of image).registers values (cmd_with (bound_of bound) (cmd_of (design_of image) m)))
      → executed_as (values_in (design_of image) before) r ≡ exec (design_of image).registers (values_in (design_of image) before) (cmd_with (bound_of bound) (cmd_of (design_of image) n))
  executes_branch_ending v q is p f g h value every = executes_branch v before q is p f g h value (every (values_in (design_of image) before)) refl

-- the area keeps its length
pub put_same_length : (before : List ℕ) (r v : ℕ) {after : List ℕ} → after ≡ put_word before r v → length after ≡ length before
put_same_length before r v wrote = ap (λ (bytes : List ℕ). length bytes) wrote ∙ length-put before r v
