-- The call from each point on: what has been found, before what follows; and that the tables which the steps fill have the counts and offsets of the pruned design.
use Prim.Native.Nat.{ℕ, ◌+◌, ◌*◌, ◌≤◌, ◌<◌}
use mathlib.Core.Path.{◌≡◌, sym, ◌∙◌}
use mathlib.Core.List.{List}
use native.Mathlib.Omega.{arith}
use lib.ListN.{length}
use borrow.Author.Tests.{le-leb, lt-leb}
use Rattle.model.specs.declared.RefusedAt.{RefusedAt}
use Rattle.std.specs.Prelude.{Err}
use Rattle.model.specs.declared.Refusal.TheVariants.{OutputArea}
use Rattle.model.specs.Answers.{Answer, Accepted, Refused}
use Rattle.model.specs.Limits.{node_length}
use Rattle.model.specs.Image.{Design, design_of}
use Rattle.model.specs.Rules.{Keeps}
use Rattle.model.specs.Verdict.{◌before◌, refused_at, verdict}
use Rattle.design.specs.declared.Design.{Design as Described}
use Rattle.design.specs.Describes.{Describes}
use Rattle.design.specs.Kept.{Structured}
use Rattle.design.proofs.Laws.{labels_count, registers_count, commands_most, expressions_most}
use Rattle.design.proofs.ResetRules.{states_few}
use Rattle.checker.proofs.Accepted.{accepted_known}
use Rattle.encoding.specs.Parts.{over}
use Rattle.pruning_model.specs.Reached.{reached as reached_in}
use Rattle.pruning_model.specs.Pruned.{closed_up, command_stays, expression_stays, pruned, pruned_image}
use Rattle.pruning_model.specs.Calls.{prune_answer, prune}
use Rattle.pruning_model.proofs.Closing.{closed_at_most}
use Rattle.pruning_steps.specs.Marks.{Marked, Numbered, is_marked}
use Rattle.pruning_steps.proofs.NumberingRules.{marked_closed, marked_numbered}
use Rattle.pruning.specs.declared.tables.Tables.{Tables}
use Rattle.pruning.specs.Tables.{AllMarked, AllNumbered, Resized, Result}
use Rattle.pruning.specs.Stages.{prune_on}
use Rattle.pruning.proofs.WritingRules.{states_left, commands_left, expressions_left, pruned_begin, result_length}
use Rattle.model.specs.Calls.{left_as, Left}

-- ---- an accepted image

pub accepted_pruning : {image read : List ℕ} {x : Described} → Keeps image → read ≡ image → Describes read x → Structured read x
accepted_pruning {read = read} keeps same describes =
    let kept : Keeps read = rw same keeps in
    record { records = accepted_known kept describes; structure = kept.design.structure }

-- ---- what the tables give
pub all_marked : {d : Design} {x : Described} {marks : Tables ℕ}
    → Marked (reached_in d) x.states marks.states
    → Marked (command_stays d) x.commands marks.commands
    → Marked (expression_stays d) x.expressions marks.expressions
    → AllMarked d x marks
all_marked s c e = record { states_marked = s; commands_marked = c; expressions_marked = e }

pub all_numbered : {d : Design} {x : Described} {marks : Tables ℕ} {numbers : Tables ℕ}
    → AllMarked d x marks
    → Numbered (is_marked marks.states) x.states numbers.states
    → Numbered (is_marked marks.commands) x.commands numbers.commands
    → Numbered (is_marked marks.expressions) x.expressions numbers.expressions
    → AllNumbered d x numbers
all_numbered all s c e =
    record {
      states_numbered = marked_numbered all.states_marked s;
      commands_numbered = marked_numbered all.commands_marked c;
      expressions_numbered = marked_numbered all.expressions_marked e;
    }

-- no more than there were
module _ {image : List ℕ} {x : Described} (here : Structured image x) where
  pub states_fit : (marks : List ℕ) {n : ℕ} → n ≡ closed_up (is_marked marks) x.states → n ≤ 64
  states_fit marks e = omega (arith, closed_at_most (is_marked marks) x.states, states_few here.records.describes)

  pub commands_fit : (marks : List ℕ) {n : ℕ} → n ≡ closed_up (is_marked marks) x.commands → n ≤ 1024
  commands_fit marks e = omega (arith, closed_at_most (is_marked marks) x.commands, commands_most here.records.describes)

  pub expressions_fit : (marks : List ℕ) {n : ℕ} → n ≡ closed_up (is_marked marks) x.expressions → n ≤ 2048
  expressions_fit marks e = omega (arith, closed_at_most (is_marked marks) x.expressions, expressions_most here.records.describes)

  pub resized_result : {r : Described} {s c e : ℕ} {marks : Tables ℕ}
      → Resized x s c e r
      → AllMarked (design_of image) x marks
      → s ≡ closed_up (is_marked marks.states) x.states
      → c ≡ closed_up (is_marked marks.commands) x.commands
      → e ≡ closed_up (is_marked marks.expressions) x.expressions
      → Result (design_of image) r
  resized_result {r} {s} {c} {e} sized all states commands expressions =
      let describes = here.records.describes in
      let states_are : s ≡ length (pruned (design_of image)).states = states ∙ marked_closed all.states_marked x.states (omega arith) ∙ sym (states_left here) in
      let commands_are : c ≡ length (pruned (design_of image)).commands = commands ∙ marked_closed all.commands_marked x.commands (omega arith) ∙ sym (commands_left here) in
      let expressions_are : e ≡ length (pruned (design_of image)).expressions = expressions ∙ marked_closed all.expressions_marked x.expressions (omega arith) ∙ sym (expressions_left here) in
      let begins = pruned_begin here in
      record {
        labels_counted = sized.labels ∙ labels_count describes;
        registers_counted = sized.registers ∙ registers_count describes;
        states_counted = sized.states_left ∙ states_are;
        commands_counted = sized.commands_left ∙ commands_are;
        expressions_counted = sized.expressions_left ∙ expressions_are;
        states_placed = sized.states_at ∙ begins;
        commands_placed = omega (arith, sized.commands_at);
        expressions_placed = omega (arith, sized.expressions_at);
      }

  -- ---- the output area, and all that follows
  module _ {r : Described} {n : ℕ} (result : Result (design_of image) r) (is : n ≡ r.expressions_at + node_length * r.expressions) where
    length-is : n ≡ length (pruned_image image)
    length-is = is ∙ sym (result_length here result)

    pub room_is : (out : List ℕ) → n ≤ length out → length (pruned_image image) ≤ length out
    room_is out h = omega (arith, length-is)

    pub area_refuses : (out : List ℕ) → length out < n → left_as (Refused OutputArea 0) out ≡ prune_on image out
    unfolding prune_on refused_at ◌before◌
    area_refuses out h = rw (← length-is, lt-leb n (length out) h)

    pub area_passes : {after : List ℕ} (out : List ℕ) → after ≡ over (pruned_image image) out → n ≤ length out → left_as (Accepted n) after ≡ prune_on image out
    unfolding prune_on refused_at ◌before◌
    area_passes out e h = rw (e, ← length-is, le-leb n (length out) h)

-- ---- the whole
module _ (image : List ℕ) {a : Answer} (is : a ≡ verdict image) where
  pub verdict_refuses : {why : RefusedAt} (out : List ℕ) → a ≡ Err why → left_as (Err why) out ≡ prune image out
  unfolding prune prune_answer ◌before◌
  verdict_refuses out h = rw (← is, h)

  pub verdict_passes : {left : Left (List ℕ)} {n : ℕ} (out : List ℕ) → a ≡ Accepted n → left ≡ prune_on image out → left ≡ prune image out
  unfolding prune prune_answer prune_on ◌before◌
  verdict_passes out h k = rw (← is, h) k
