-- The pruned image is written part by part, each behind the one before it: what the directory says of labels and registers is what it said, so that their bytes are those of the image.
use Prim.Native.Nat.{ℕ, ◌+◌, ◌*◌, ◌-◌, ◌≤◌, ◌<◌}
use mathlib.Core.Path.{◌≡◌, sym, ◌∙◌, ap}
use mathlib.Core.List.{List, ◌++◌, append_assoc}
use native.Mathlib.Omega.{arith}
use lib.ListN.{length, get_or, take, drop, length-map, length-append}
use lib.Seq.{take_at, drop_at}
use mir.Syntax.{w8}
use mir.Val.{Fits}
use Rattle.model.specs.Limits.{directory_length, label_length, register_length, state_length, node_length}
use Rattle.model.specs.Image.{AreBytes, Labels, Registers, States, offset, design_of}
use Rattle.model.specs.Rules.{DirectoryKeeps}
use Rattle.model.proofs.Laws.Images.{label_count, register_count}
use Rattle.design.specs.declared.Design.{Design as Described}
use Rattle.design.specs.Describes.{Describes}
use Rattle.design.specs.Kept.{Structured}
use Rattle.design.proofs.Laws.{states_count, commands_count, expressions_count}
use Rattle.encoding.specs.Encoding.{records_bytes, row_bytes, register_bytes, state_bytes, node_bytes, states_at, image_length, directory_bytes, states_front, commands_front, expressions_front, image_of}
use Rattle.encoding.specs.Encodable.{WithinLimits}
use Rattle.encoding.specs.Parts.{overwritten_at, over}
use Rattle.encoding.specs.Writers.{Sizes}
use Rattle.encoding.proofs.Records.{row_encodes, register_encodes}
use Rattle.encoding.proofs.Sections.{length-records, section_sized}
use Rattle.encoding.proofs.Directories.{directory_sized}
use Rattle.encoding.proofs.RoundTrip.{states_front_lem, commands_front_lem, expressions_front_lem, image_length_lem, design_limits, design_image}
use Rattle.encoding.proofs.PartRules.{put_behind, over_beginning}
use Rattle.pruning_model.specs.Reached.{reached}
use Rattle.pruning_model.specs.Pruned.{closed_up, staying, command_stays, expression_stays, pruned, pruned_image}
use Rattle.pruning_model.proofs.Closing.{closed_at_most, length-staying}
use Rattle.pruning_model.specs.Pruned.{state_written, command_written, expression_written}
use Rattle.pruning.specs.Tables.{Result}
use Rattle.pruning.specs.Parts.{kept_bytes, Near, ResultPut}

module _ {image : List ℕ} (directory : DirectoryKeeps image) where
  -- where the states begin
  begin : offset image States ≡ states_at (design_of image)
  begin =
      let k = directory in
      omega (arith, k.labels_at, k.registers_at, k.states_at, section_sized image Labels (k.sections Labels), section_sized image Registers (k.sections Registers), label_count image, register_count image)

  -- labels and registers, as they stand in the image
  kept_is : AreBytes image → take (offset image States - directory_length) (drop directory_length image) ≡ kept_bytes (design_of image)
  unfolding image_of
  kept_is bytes =
      let d = design_of image in
      let rest = records_bytes state_bytes d.states ++ records_bytes node_bytes d.commands ++ records_bytes node_bytes d.expressions in
      let whole : image ≡ directory_bytes d ++ (kept_bytes d ++ rest) = sym (design_image image bytes directory) ∙ simp append_assoc in
      let behind : drop directory_length image ≡ kept_bytes d ++ rest = ap (drop directory_length) whole ∙ drop_at (directory_bytes d) (kept_bytes d ++ rest) directory_length (directory_sized d) in
      let long : length (kept_bytes d) ≡ offset image States - directory_length =
      simp length-append (omega (arith, begin, length-records row_encodes d.rows, length-records register_encodes d.registers)) in
      ap (take (offset image States - directory_length)) behind ∙ take_at (kept_bytes d) rest (offset image States - directory_length) long

module _ {image : List ℕ} {x : Described} (here : Structured image x) where
  describes : Describes image x
  describes = here.records.describes

  limits : WithinLimits (design_of image)
  limits = design_limits image describes.directory

  -- ---- how many records there are, and how many stay
  pub states_left : length (pruned (design_of image)).states ≡ closed_up (reached (design_of image)) x.states
  unfolding pruned
  states_left =
      let d = design_of image in
      length-map (staying (reached d) d.states) (state_written d) ∙ length-staying (reached d) d.states ∙ ap (closed_up (reached d)) (sym (states_count describes))

  pub commands_left : length (pruned (design_of image)).commands ≡ closed_up (command_stays (design_of image)) x.commands
  unfolding pruned
  commands_left =
      let d = design_of image in
      length-map (staying (command_stays d) d.commands) (command_written d) ∙ length-staying (command_stays d) d.commands ∙ ap (closed_up (command_stays d)) (sym (commands_count describes))

  pub expressions_left : length (pruned (design_of image)).expressions ≡ closed_up (expression_stays (design_of image)) x.expressions
  unfolding pruned
  expressions_left =
      let d = design_of image in
      length-map (staying (expression_stays d) d.expressions) (expression_written d) ∙ length-staying (expression_stays d) d.expressions ∙ ap (closed_up (expression_stays d)) (sym (expressions_count describes))

  pub states_small : x.states < 65536
  states_small = omega (arith, states_count describes, limits.states_most)

  pub commands_small : x.commands < 65536
  commands_small = omega (arith, commands_count describes, limits.commands_most)

  pub expressions_small : x.expressions < 65536
  expressions_small = omega (arith, expressions_count describes, limits.expressions_most)

  -- ---- where the states begin
  pub states_begin : x.states_at ≡ states_at (design_of image)
  states_begin = describes.states_at ∙ begin describes.directory

  pub front_short : x.states_at < 1024
  front_short = omega (arith, states_begin, limits.labels_most, limits.registers_most)

  pub pruned_begin : x.states_at ≡ states_at (pruned (design_of image))
  unfolding pruned
  pruned_begin = states_begin

  module _ {r : Described} (result : Result (design_of image) r) where
    -- ---- the lengths of the result
    pub result_length : length (pruned_image image) ≡ r.expressions_at + node_length * r.expressions
    unfolding pruned_image
    result_length = let long : length (image_of (pruned (design_of image))) ≡ image_length (pruned (design_of image)) = image_length_lem (pruned (design_of image)) in omega (arith, result.expressions_placed, result.expressions_counted)

    result_states : r.states_at + state_length * r.states ≡ r.commands_at
    result_states = omega (arith, result.states_placed, result.commands_placed, result.states_counted)

    result_commands : r.commands_at + node_length * r.commands ≡ r.expressions_at
    result_commands = omega (arith, result.commands_placed, result.expressions_placed, result.commands_counted)

    result_begins : r.states_at ≡ x.states_at
    result_begins = result.states_placed ∙ sym pruned_begin

    few_states : r.states ≤ 64
    few_states = omega (arith, result.states_counted, states_left, closed_at_most (reached (design_of image)) x.states, states_count describes, limits.states_most)

    few_commands : r.commands ≤ 1024
    few_commands = omega (arith, result.commands_counted, commands_left, closed_at_most (command_stays (design_of image)) x.commands, commands_count describes, limits.commands_most)

    few_expressions : r.expressions ≤ 2048
    few_expressions = omega (arith, result.expressions_counted, expressions_left, closed_at_most (expression_stays (design_of image)) x.expressions, expressions_count describes, limits.expressions_most)

    pub expressions_short : r.expressions < 65536
    expressions_short = omega (arith, few_expressions)

    pub expressions_near : r.expressions_at < 65536
    expressions_near = omega (arith, result_begins, front_short, result_states, result_commands, few_states, few_commands)

    -- ---- the front
    result_sizes : Sizes (pruned (design_of image)) (label_length * r.labels) (register_length * r.registers) (state_length * r.states) (node_length * r.commands) (node_length * r.expressions)
    unfolding pruned
    result_sizes =
        record {
          labels_sized = ap (λ n. label_length * n) (sym result.labels_counted);
          registers_sized = ap (λ n. register_length * n) (sym result.registers_counted);
          states_sized = ap (λ n. state_length * n) (sym result.states_counted);
          commands_sized = ap (λ n. node_length * n) (sym result.commands_counted);
          expressions_sized = ap (λ n. node_length * n) (sym result.expressions_counted);
        }

    front_sum : directory_length + label_length * r.labels + register_length * r.registers ≡ x.states_at
    front_sum = omega (arith, states_begin, result.labels_counted, result.registers_counted)

    pub result_near : Near r
    result_near = record { offsets = omega (arith, front_sum, result_begins, result_states, result_commands, expressions_near); last = omega (arith, few_expressions) }

    pub directory_room : (out : List ℕ) → length (pruned_image image) ≤ length out → directory_length ≤ length out
    directory_room out room = omega (arith, result_length, result_commands, result_states, result_begins, states_begin)

    pub front_room : (out now : List ℕ) → length now ≡ length out → length (pruned_image image) ≤ length out → x.states_at ≤ length now
    front_room out now same room = omega (arith, result_length, result_commands, result_states, result_begins)

    pub front_put : {out one after : List ℕ}
        → ResultPut r out one
        → after ≡ overwritten_at directory_length (kept_bytes (design_of image)) one
        → after ≡ overwritten_at 0 (states_front (pruned (design_of image))) out
    unfolding pruned
    front_put {out} {one} {after} directory e =
        let d = design_of image in
        let front = directory_bytes (pruned d) in
        let begins : directory_length ≡ 0 + length front = omega (arith, directory_sized (pruned d)) in
        put_behind 0 out front (kept_bytes d) (directory.put (pruned d) result_sizes) (e ∙ ap (λ n. overwritten_at n (kept_bytes d) one) begins) (omega arith)
        ∙ ap (λ part. overwritten_at 0 part out) (sym (append_assoc front (records_bytes row_bytes d.rows) (records_bytes register_bytes d.registers)))

    -- ---- the sections behind it
    pub states_room : (out now : List ℕ) → length now ≡ length out → length (pruned_image image) ≤ length out → r.states_at + state_length * closed_up (reached (design_of image)) x.states ≤ length now
    states_room out now same room = omega (arith, result_length, result_commands, result_states, result.states_counted, states_left)

    pub commands_room : (out now : List ℕ) → length now ≡ length out → length (pruned_image image) ≤ length out → r.commands_at + node_length * closed_up (command_stays (design_of image)) x.commands ≤ length now
    commands_room out now same room = omega (arith, result_length, result_commands, result.commands_counted, commands_left)

    pub expressions_room : (out now : List ℕ) → length now ≡ length out → length (pruned_image image) ≤ length out → r.expressions_at + node_length * closed_up (expression_stays (design_of image)) x.expressions ≤ length now
    expressions_room out now same room = omega (arith, result_length, result.expressions_counted, expressions_left)

    pub states_put : (out : List ℕ) {one after : List ℕ}
        → after ≡ overwritten_at r.states_at (records_bytes state_bytes (pruned (design_of image)).states) one
        → one ≡ overwritten_at 0 (states_front (pruned (design_of image))) out
        → after ≡ overwritten_at 0 (commands_front (pruned (design_of image))) out
    states_put out {one} e f =
        let d = pruned (design_of image) in
        let states = records_bytes state_bytes d.states in
        let here : r.states_at ≡ 0 + length (states_front d) = omega (arith, result.states_placed, states_front_lem d) in
        put_behind 0 out (states_front d) states f (e ∙ ap (λ n. overwritten_at n states one) here) (omega arith)

    pub commands_put : (out : List ℕ) {one after : List ℕ}
        → after ≡ overwritten_at r.commands_at (records_bytes node_bytes (pruned (design_of image)).commands) one
        → one ≡ overwritten_at 0 (commands_front (pruned (design_of image))) out
        → after ≡ overwritten_at 0 (expressions_front (pruned (design_of image))) out
    commands_put out {one} e f =
        let d = pruned (design_of image) in
        let commands = records_bytes node_bytes d.commands in
        let here : r.commands_at ≡ 0 + length (commands_front d) = omega (arith, result.commands_placed, commands_front_lem d) in
        put_behind 0 out (commands_front d) commands f (e ∙ ap (λ n. overwritten_at n commands one) here) (omega arith)

    pub expressions_put : (out : List ℕ) {one after : List ℕ}
        → after ≡ overwritten_at r.expressions_at (records_bytes node_bytes (pruned (design_of image)).expressions) one
        → one ≡ overwritten_at 0 (expressions_front (pruned (design_of image))) out
        → after ≡ over (pruned_image image) out
    unfolding pruned_image image_of
    expressions_put out {one} e f =
        let d = pruned (design_of image) in
        let expressions = records_bytes node_bytes d.expressions in
        let here : r.expressions_at ≡ 0 + length (expressions_front d) = omega (arith, result.expressions_placed, expressions_front_lem d) in
        put_behind 0 out (expressions_front d) expressions f (e ∙ ap (λ n. overwritten_at n expressions one) here) (omega arith) ∙ over_beginning (image_of d) out

-- labels and registers copied, where every byte of the image is one
pub kept_put : (image : List ℕ) → ((i : ℕ) → Fits w8 (get_or image i 0)) → {end : ℕ} {after : List ℕ} (out : List ℕ)
    → DirectoryKeeps image
    → end ≡ offset image States
    → after ≡ overwritten_at directory_length (take (end - directory_length) (drop directory_length image)) out
    → after ≡ overwritten_at directory_length (kept_bytes (design_of image)) out
kept_put image bytes out keeps at e =
    e ∙ ap (λ n. overwritten_at directory_length (take (n - directory_length) (drop directory_length image)) out) at ∙ ap (λ part. overwritten_at directory_length part out) (kept_is keeps (λ i. (bytes i).fits))
