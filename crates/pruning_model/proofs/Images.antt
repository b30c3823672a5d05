-- What holds of the pruned design holds of the pruned image: its fields still fit their bytes, since no number rises, so that the image reads back as the design.
use Prim.Native.Nat.{ℕ, ◌≤◌, ◌<◌}
use mathlib.Core.Path.{◌≡◌, sym, ◌∙◌, ap}
use mathlib.Core.Logic.{◌↔◌}
use mathlib.Core.Bool.{true}
use mathlib.Core.List.{List}
use native.Mathlib.Omega.{arith}
use lib.ListN.{length}
use Rattle.model.specs.Answers.{Accepted}
use Rattle.model.specs.Image.{AreBytes, Design, design_of}
use Rattle.model.specs.Rules.{Keeps}
use Rattle.model.specs.Verdict.{verdict}
use Rattle.model.proofs.Exact.{verdict_exact}
use Rattle.model.proofs.Independence.Theorem.{rooted}
use Rattle.encoding.specs.Encoding.{image_length, image_of}
use Rattle.encoding.specs.Encodable.{WithinLimits, Encodable}
use Rattle.encoding.proofs.RoundTrip.{image_length_lem, image_bytes, image_directory, image_design, design_limits, design_encodable, design_image}
use Rattle.renumbering.specs.Renumbers.{Renumbers}
use Rattle.renumbering.specs.Runs.{SameRuns}
use Rattle.renumbering.proofs.Running.Lists.{renumbered_runs}
use Rattle.pruning_model.specs.Reached.{Reached, reached}
use Rattle.pruning_model.specs.Pruned.{command_stays, expression_stays, new_state, new_command, new_expression, pruned, pruned_image}
use Rattle.pruning_model.proofs.Closing.{closed_at_most}
use Rattle.pruning_model.proofs.Reached.{reached_iff}
use Rattle.pruning_model.proofs.Nodes.{CommandStays, ExpressionStays}
use Rattle.pruning_model.proofs.Renumbers.{pruned_renumbers}
use Rattle.renumbering.proofs.Fitting.{NumbersFit, renumbered_limits, renumbered_encodable}
use Rattle.pruning_model.proofs.Whole.{pruned_same}
use Rattle.pruning_model.proofs.Twice.{pruned_keeps, pruned_twice}

-- the reached states of an accepted image
pub image_reached : (image : List ℕ) → verdict image ≡ Accepted 0 → (s : ℕ) → (reached (design_of image) s ≡ true) ↔ Reached (design_of image) s
image_reached image accepted =
    let keeps = (verdict_exact image).0 accepted in
    reached_iff (design_of image) keeps.design.structure (rooted image keeps.directory)

module _ (image : List ℕ) (bytes : AreBytes image) (accepted : verdict image ≡ Accepted 0) where
  abbrev d : Design
  d = design_of image

  keeps : Keeps image
  keeps = (verdict_exact image).0 accepted

  some : 0 < length d.states
  some = rooted image keeps.directory

  new : Renumbers d (pruned d) (new_state d) (new_command d) (new_expression d) (Reached d) (CommandStays d) (ExpressionStays d)
  new = pruned_renumbers d keeps.design.structure some

  pub pruned_limits : WithinLimits (pruned d)
  pruned_limits = renumbered_limits new (design_limits image keeps.directory)

  -- no number rises
  numbers_fit : NumbersFit (new_state d) (new_command d) (new_expression d)
  numbers_fit =
      record {
        states = λ n l. omega (arith, closed_at_most (reached d) n);
        commands = λ n l. omega (arith, closed_at_most (command_stays d) n);
        expressions = λ n l. omega (arith, closed_at_most (expression_stays d) n);
      }

  pruned_encodable : Encodable (pruned d)
  pruned_encodable = renumbered_encodable new numbers_fit (design_encodable image bytes)

  -- the pruned image says the pruned design
  pub pruned_says : design_of (pruned_image image) ≡ pruned d
  unfolding pruned_image
  pruned_says = image_design (pruned d) pruned_limits pruned_encodable

  pub pruned_bytes : AreBytes (pruned_image image)
  unfolding pruned_image
  pruned_bytes = image_bytes (pruned d) pruned_encodable

  -- "It is accepted"
  pub pruned_accepted : verdict (pruned_image image) ≡ Accepted 0
  unfolding pruned_image
  pruned_accepted = (verdict_exact (pruned_image image)).1 (record { directory = image_directory (pruned d) pruned_limits; design = rw pruned_says (pruned_keeps d keeps.design some) })

  image_renumbers : Renumbers d (design_of (pruned_image image)) (new_state d) (new_command d) (new_expression d) (Reached d) (CommandStays d) (ExpressionStays d)
  image_renumbers = rw pruned_says new

  -- "and every run from reset .. gives the same registers and the same walk under the new numbers", of states that are reached
  pub pruned_runs : SameRuns image (pruned_image image) (Reached d) (new_state d)
  pruned_runs = renumbered_runs image (pruned_image image) accepted pruned_accepted image_renumbers

  -- "Doing it twice changes nothing"
  pub image_twice : pruned_image (pruned_image image) ≡ pruned_image image
  unfolding pruned_image
  image_twice = ap (λ (x : Design). image_of (pruned x)) pruned_says ∙ ap image_of (pruned_twice d keeps.design some)

  -- where every state is reached, nothing goes
  pub image_whole : ((s : ℕ) → s < length d.states → Reached d s) → pruned_image image ≡ image
  unfolding pruned_image
  image_whole all = ap image_of (pruned_same d keeps.design.structure some all) ∙ design_image image bytes keeps.directory

  -- the result is no longer than the image
  pub image_shorter : length (pruned_image image) ≤ length image
  unfolding pruned_image pruned
  image_shorter =
      let states = new.states_fewer in
      let commands = new.commands_fewer in
      let expressions = new.expressions_fewer in
      let old : length image ≡ image_length d = sym (ap length (design_image image bytes keeps.directory)) ∙ image_length_lem d in
      let now : length (image_of (pruned d)) ≡ image_length (pruned d) = image_length_lem (pruned d) in
      omega arith
