-- What holds of the filed design holds of the filing form: its fields still fit their bytes, since places are below the counts, so that the image reads back as the design.
use Prim.Native.Nat.{ℕ, ◌<◌}
use mathlib.Core.Path.{◌≡◌, refl, sym, ◌∙◌, ap}
use mathlib.Core.List.{List, ◌++◌}
use native.Mathlib.Omega.{arith}
use lib.ListN.{length, length-append, get_or-append}
use Rattle.model.specs.Answers.{Accepted}
use Rattle.model.specs.Image.{States, AreBytes, Design, byte_at, offset, design_of}
use Rattle.model.specs.Rules.{Keeps, DesignKeeps}
use Rattle.model.specs.Verdict.{verdict}
use Rattle.model.proofs.Exact.{verdict_exact}
use Rattle.model.proofs.Independence.Theorem.{rooted}
use Rattle.encoding.specs.Encoding.{records_bytes, row_bytes, register_bytes, node_bytes, state_bytes, directory_bytes, states_at, states_front, commands_front, expressions_front, image_length, image_of}
use Rattle.encoding.specs.Encodable.{WithinLimits, Encodable}
use Rattle.encoding.proofs.Directories.{offset_read}
use Rattle.encoding.proofs.RoundTrip.{states_front_lem, image_length_lem, image_bytes, image_directory, image_design, design_limits, design_encodable, design_image}
use Rattle.renumbering.specs.Renumbers.{Renumbers}
use Rattle.renumbering.specs.Runs.{SameRuns}
use Rattle.renumbering.proofs.Keeps.{renumbered_keeps}
use Rattle.renumbering.proofs.Running.Lists.{renumbered_runs}
use Rattle.renumbering.proofs.Fitting.{NumbersFit, renumbered_limits, renumbered_encodable}
use Rattle.filing_model.specs.Filed.{command_order, expression_order, new_command, new_expression, filed, filed_image}
use Rattle.filing_model.specs.Same.{unnumbered_design, DifferAtMostInNumbers}
use Rattle.filing_model.proofs.Places.{place_at_most}
use Rattle.filing_model.proofs.Orders.{commands_long, expressions_long}
use Rattle.filing_model.proofs.Renumbers.{filed_renumbers, states_as_many, commands_as_many, expressions_as_many}
use Rattle.filing_model.proofs.Bodies.{unnumbered_kept}

-- ---- the bytes in front of the states
module _ (d : Design) where
  front_byte : (i : ℕ) → i < states_at d → byte_at (image_of d) i ≡ byte_at (states_front d) i
  unfolding image_of
  front_byte i l =
      let states : i < length (states_front d) = rw (states_front_lem d) l in
      let commands : i < length (commands_front d) = omega (arith, length-append (states_front d) (records_bytes state_bytes d.states)) in
      let expressions : i < length (expressions_front d) = omega (arith, length-append (commands_front d) (records_bytes node_bytes d.commands)) in
      get_or-append (expressions_front d) (records_bytes node_bytes d.expressions) 0 i expressions
      ∙ get_or-append (commands_front d) (records_bytes node_bytes d.commands) 0 i commands
      ∙ get_or-append (states_front d) (records_bytes state_bytes d.states) 0 i states

-- the directory is of the counts alone
directory_same :
    (d d' : Design)
    → length d'.rows ≡ length d.rows
    → length d'.registers ≡ length d.registers
    → length d'.states ≡ length d.states
    → length d'.commands ≡ length d.commands
    → length d'.expressions ≡ length d.expressions
    → directory_bytes d' ≡ directory_bytes d
unfolding directory_bytes
directory_same d d' rows registers states commands expressions = rw (rows, registers, states, commands, expressions)

module _ (image : List ℕ) (bytes : AreBytes image) (accepted : verdict image ≡ Accepted 0) where
  abbrev d : Design
  d = design_of image

  keeps : Keeps image
  keeps = (verdict_exact image).0 accepted

  some : 0 < length d.states
  some = rooted image keeps.directory

  -- a design is d under the places of its nodes
  abbrev UnderPlaces : Design → Type 0
  UnderPlaces d' = Renumbers d d' (λ s. s) (new_command d) (new_expression d) (λ s. s < length d.states) (λ n. n < length d.commands) (λ n. n < length d.expressions)

  new : UnderPlaces (filed d)
  new = filed_renumbers d keeps.design.structure some

  limits : WithinLimits d
  limits = design_limits image keeps.directory

  filed_limits : WithinLimits (filed d)
  filed_limits = renumbered_limits new limits

  -- places are no higher than the counts
  numbers_fit : NumbersFit (λ s. s) (new_command d) (new_expression d)
  numbers_fit =
      let commands = limits.commands_most in
      let expressions = limits.expressions_most in
      record {
        states = λ n l. l;
        commands = λ n l. omega (arith, place_at_most (command_order d) n, commands_long d keeps.design.structure);
        expressions = λ n l. omega (arith, place_at_most (expression_order d) n, expressions_long d keeps.design.structure);
      }

  filed_encodable : Encodable (filed d)
  filed_encodable = renumbered_encodable new numbers_fit (design_encodable image bytes)

  -- the filing form says the filed design
  pub filed_design : design_of (filed_image image) ≡ filed d
  unfolding filed_image
  filed_design = image_design (filed d) filed_limits filed_encodable

  pub filed_bytes : AreBytes (filed_image image)
  unfolding filed_image
  filed_bytes = image_bytes (filed d) filed_encodable

  filed_keeps : DesignKeeps (filed d)
  filed_keeps = renumbered_keeps d (filed d) _ _ _ _ _ _ keeps.design new

  pub filed_accepted : verdict (filed_image image) ≡ Accepted 0
  unfolding filed_image
  filed_accepted = (verdict_exact (filed_image image)).1 (record { directory = image_directory (filed d) filed_limits; design = rw filed_design filed_keeps })

  image_renumbers : UnderPlaces (design_of (filed_image image))
  image_renumbers = rw filed_design new

  pub filed_runs : SameRuns image (filed_image image) (λ s. s < length d.states) (λ s. s)
  filed_runs = renumbered_runs image (filed_image image) accepted filed_accepted image_renumbers

  -- form and image differ at most in node numbers
  pub filed_same : DifferAtMostInNumbers (filed_image image) image
  filed_same = ap unnumbered_design filed_design ∙ unnumbered_kept d keeps.design some

  -- ---- lengths and first bytes
  image_said : image_of d ≡ image
  image_said = design_image image bytes keeps.directory

  pub filed_long : length (filed_image image) ≡ length image
  unfolding filed_image filed
  filed_long =
      let old : length image ≡ image_length d = sym (ap length image_said) ∙ image_length_lem d in
      let now : length (image_of (filed d)) ≡ image_length (filed d) = image_length_lem (filed d) in
      let states = states_as_many d keeps.design.structure some in
      let commands = commands_as_many d keeps.design.structure some in
      let expressions = expressions_as_many d keeps.design.structure some in
      omega arith

  same_front : states_front (filed d) ≡ states_front d
  unfolding filed
  same_front =
      let structure = keeps.design.structure in
      ap
      (λ (directory : List ℕ). directory ++ records_bytes row_bytes d.rows ++ records_bytes register_bytes d.registers)
      (directory_same d (filed d) refl refl (states_as_many d structure some) (commands_as_many d structure some) (expressions_as_many d structure some))

  -- up to the states form and image have the same bytes
  pub filed_front : (i : ℕ) → i < offset image States → byte_at (filed_image image) i ≡ byte_at image i
  unfolding filed_image filed
  filed_front i l =
      let starts : offset image States ≡ states_at d = ap (λ (x : List ℕ). offset x States) (sym image_said) ∙ offset_read d limits States in
      let front : i < states_at d = omega arith in
      front_byte (filed d) i front
      ∙ ap (λ (x : List ℕ). byte_at x i) same_front
      ∙ sym (front_byte d i front)
      ∙ ap (λ (x : List ℕ). byte_at x i) image_said
