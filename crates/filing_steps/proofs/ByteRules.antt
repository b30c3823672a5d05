-- Why each byte of the filing form is found: by its place it is a byte of one filed record, which is a byte of a field that has a new number, or of one that is as it stands.
use Prim.Native.Nat.{ℕ, zero, suc, ◌+◌, ◌*◌, ◌-◌, ◌/◌, ◌%◌, ◌≤◌, ◌<◌}
use mathlib.Core.Path.{◌≡◌, refl, sym, ◌∙◌, ap}
use mathlib.Core.List.{List}
use native.Mathlib.Omega.{arith}
use lib.ListN.{length, get_or}
use lib.Seq.{get_or-take}
use mir.Syntax.{w8}
use mir.Val.{Fits}
use Rattle.model.specs.Limits.{state_length, node_length}
use Rattle.model.specs.Image.{Section, Labels, Registers, States, Commands, Expressions, record_length, offset, count, size, Design as Table, State, Node, byte_at, design_of, state_at, command_at, expression_at}
use Rattle.model.specs.Kinds.{CommandKind, skips, assigns, sequences, falls, goes, branches, unknown_command, ExpressionKind, constants, reads, operates, unknown_expression, command_kind, expression_kind}
use Rattle.model.specs.Rules.{Keeps}
use Rattle.model.proofs.Exact.{verdict_exact}
use Rattle.model.proofs.Independence.Theorem.{rooted}
use Rattle.design.specs.declared.Design.{Design}
use Rattle.design.specs.Describes.{Describes}
use Rattle.design.specs.Records.{state_in, node_in, node_end}
use Rattle.design.specs.RecordsAt.{CommandAt, ExpressionAt}
use Rattle.design.specs.Kept.{Structured}
use Rattle.design.proofs.Laws.{labels_count, registers_count, states_count, commands_count, expressions_count, commands_most, state_in_lem, command_in, expression_in, command_inside, expression_inside}
use Rattle.design.proofs.FieldRules.{body_is, body_below, command_at_lem, expression_at_lem}
use Rattle.encoding.specs.Encoding.{word16_bytes, state_bytes, node_bytes, states_at, commands_at, expressions_at, image_of}
use Rattle.encoding.proofs.Sections.{section_sized}
use Rattle.encoding.proofs.Bytes.{states_byte, commands_byte, expressions_byte}
use Rattle.renumbering.specs.Renumbering.{renumbered_state, renumbered_command, renumbered_expression}
use Rattle.renumbering.proofs.Trees.{command_kind_kept, expression_kind_kept}
use Rattle.filing_model.specs.Filed.{place_in, command_order, expression_order, new_command, new_expression, state_filed, command_filed, expression_filed, filed, filed_image}
use Rattle.filing_model.proofs.Places.{place_at_most, entry_stands}
use Rattle.filing_model.proofs.Counts.{Enumerates, enumerated_long, enumerated_place}
use Rattle.filing_model.proofs.Orders.{commands_enumerated, commands_long, expressions_enumerated, expressions_long}
use Rattle.filing_model.proofs.Renumbers.{filed_renumbers, states_as_many, commands_as_many, expressions_as_many}
use Rattle.filing_model.proofs.Images.{filed_front}
use Rattle.filing_steps.specs.Tables.{Ordered, Numbered}
use Rattle.filing_steps.specs.Fields.{field_of}
use Rattle.filing_steps.proofs.FieldRules.{command_numbered, command_new}

-- ---- the two bytes of a field
pub low_byte : (n o : ℕ) {r : ℕ} → o % 2 ≡ 0 → r ≡ n % 256 → r ≡ byte_at (word16_bytes n) (o % 2)
unfolding word16_bytes
low_byte n o e h = rw e h

pub high_byte : (n o : ℕ) {r : ℕ} → (o % 2 ≡ 0 → ⊥) → r ≡ n / 256 % 256 → r ≡ byte_at (word16_bytes n) (o % 2)
unfolding word16_bytes
high_byte n o e h = let odd : o % 2 ≡ 1 = omega arith in rw odd h

-- ---- the bytes of a record, as it stands and by its fields
body_byte : (y : State) (o : ℕ) → o / 2 ≡ 1 → byte_at (word16_bytes y.command) (o % 2) ≡ byte_at (state_bytes y) o
unfolding word16_bytes state_bytes
body_byte y zero e = absurd (omega arith)
body_byte y (suc zero) e = absurd (omega arith)
body_byte y (suc (suc zero)) e = refl
body_byte y (suc (suc (suc zero))) e = refl
body_byte y (suc (suc (suc (suc o)))) e = absurd (omega arith)

field_byte : (y : Node) (o : ℕ) → 2 ≤ o → o < node_length → byte_at (word16_bytes (field_of (o / 2) y)) (o % 2) ≡ byte_at (node_bytes y) o
unfolding word16_bytes node_bytes
field_byte y zero low high = absurd (omega arith)
field_byte y (suc zero) low high = absurd (omega arith)
field_byte y (suc (suc zero)) low high = refl
field_byte y (suc (suc (suc zero))) low high = refl
field_byte y (suc (suc (suc (suc zero)))) low high = refl
field_byte y (suc (suc (suc (suc (suc zero))))) low high = refl
field_byte y (suc (suc (suc (suc (suc (suc zero)))))) low high = refl
field_byte y (suc (suc (suc (suc (suc (suc (suc zero))))))) low high = refl
field_byte y (suc (suc (suc (suc (suc (suc (suc (suc o)))))))) low high = absurd (omega arith)

field_bytes : (y : Node) (o : ℕ) {field : ℕ} → 2 ≤ o → o < node_length → field ≡ field_of (o / 2) y → byte_at (word16_bytes field) (o % 2) ≡ byte_at (node_bytes y) o
field_bytes y o low high same = ap (λ (v : ℕ). byte_at (word16_bytes v) (o % 2)) same ∙ field_byte y o low high

module _ (image : List ℕ) (at : ℕ) where
  -- all bytes of a state but those of its command
  state_bytes_lem : (d : Table) (s o : ℕ) → o < state_length → (o / 2 ≡ 1 → ⊥) → byte_at image (at + state_length * s + o) ≡ byte_at (state_bytes (state_filed d (state_in image at s))) o
  unfolding state_bytes word16_bytes renumbered_state
  state_bytes_lem d s zero l other = ap (byte_at image) (omega arith)
  state_bytes_lem d s (suc zero) l other = refl
  state_bytes_lem d s (suc (suc zero)) l other = absurd (other refl)
  state_bytes_lem d s (suc (suc (suc zero))) l other = absurd (other refl)
  state_bytes_lem d s (suc (suc (suc (suc zero)))) l other = refl
  state_bytes_lem d s (suc (suc (suc (suc (suc zero))))) l other = refl
  state_bytes_lem d s (suc (suc (suc (suc (suc (suc zero)))))) l other = refl
  state_bytes_lem d s (suc (suc (suc (suc (suc (suc (suc zero))))))) l other = refl
  state_bytes_lem d s (suc (suc (suc (suc (suc (suc (suc (suc zero)))))))) l other = refl
  state_bytes_lem d s (suc (suc (suc (suc (suc (suc (suc (suc (suc o))))))))) l other = absurd (omega arith)

  -- the bytes in front of a node's fields
  head_bytes : (n o : ℕ) (y : Node) → o < 2 → y.kind ≡ (node_in image at n).kind → y.item ≡ (node_in image at n).item → byte_at image (at + node_length * n + o) ≡ byte_at (node_bytes y) o
  unfolding node_bytes
  head_bytes n zero y l kind item = ap (byte_at image) (omega arith) ∙ sym kind
  head_bytes n (suc zero) y l kind item = sym item
  head_bytes n (suc (suc o)) y l kind item = absurd (omega arith)

-- kind and item stay, since states keep their numbers
module _ (d : Table) (y : Node) where
  command_item : (k : CommandKind) → (renumbered_command (λ t. t) (new_command d) (new_expression d) k y).item ≡ y.item
  unfolding renumbered_command
  command_item skips = refl
  command_item assigns = refl
  command_item sequences = refl
  command_item falls = refl
  command_item goes = refl
  command_item branches = refl
  command_item unknown_command = refl

  expression_item : (k : ExpressionKind) → (renumbered_expression (λ t. t) (new_command d) (new_expression d) k y).item ≡ y.item
  unfolding renumbered_expression
  expression_item constants = refl
  expression_item reads = refl
  expression_item (operates o) = refl
  expression_item unknown_expression = refl

  command_kind_lem : (command_filed d y).kind ≡ y.kind
  command_kind_lem = command_kind_kept (λ t. t) (new_command d) (new_expression d) (command_kind y.kind) y

  expression_kind_lem : (expression_filed d y).kind ≡ y.kind
  expression_kind_lem = expression_kind_kept (λ t. t) (new_command d) (new_expression d) (expression_kind y.kind) y

-- ---- the entry at a place of an order, by a table that begins with it
module _ {order table : List ℕ} {count k n : ℕ} (all : Enumerates order count) (ordered : Ordered order table) (l : k < count) (e : n ≡ get_or table k 0) where
  within : k < length order
  within = omega (arith, enumerated_long all)

  entry_is : n ≡ get_or order k 0
  entry_is = e ∙ sym (get_or-take (length order) table k 0 within) ∙ ap (λ (xs : List ℕ). get_or xs k 0) ordered.begins

  entry_below : n < count
  entry_below = rw entry_is (all.below (get_or order k 0) (entry_stands order k within))

  entry_placed : place_in order n ≡ k
  entry_placed = rw entry_is (enumerated_place all k l)

-- ---- the records of the filed design
module _ {image : List ℕ} {x : Design} (known : Structured image x) where
  abbrev describes : Describes image x
  describes = known.records.describes

  some : 0 < length (design_of image).states
  some = rooted image describes.directory

  state_filed_lem : (s : ℕ) → s < x.states → state_at (filed (design_of image)) s ≡ state_filed (design_of image) (state_at (design_of image) s)
  state_filed_lem s l = (filed_renumbers (design_of image) known.structure some).state_is s (omega (arith, states_count describes))

  -- the command at a place of its order
  pub command_found : {table : List ℕ} {j : ℕ} → Ordered (command_order (design_of image)) table → j < node_length * x.commands → j / node_length < length table
  command_found ordered l = let long = ordered.long in omega (arith, commands_long (design_of image) known.structure, commands_count describes)

  module _ {table : List ℕ} {j n : ℕ} (ordered : Ordered (command_order (design_of image)) table) (l : j < node_length * x.commands) (e : n ≡ get_or table (j / node_length) 0) where
    command_place_lem : j / node_length < length (design_of image).commands
    command_place_lem = omega (arith, commands_count describes)

    command_below : n < length (design_of image).commands
    command_below = entry_below (commands_enumerated (design_of image) known.structure) ordered command_place_lem e

    command_listed : n < x.commands
    command_listed = omega (arith, command_below, commands_count describes)

    pub command_here : CommandAt image x x.commands_at n
    command_here = command_at_lem describes known.records.commands command_listed refl

    pub command_ends : node_end x.commands_at n ≤ length image
    command_ends = command_inside describes command_listed

    command_filed_lem : command_at (filed (design_of image)) (j / node_length) ≡ command_filed (design_of image) (command_at (design_of image) n)
    command_filed_lem =
        ap (command_at (filed (design_of image))) (sym (entry_placed (commands_enumerated (design_of image) known.structure) ordered command_place_lem e))
        ∙ (filed_renumbers (design_of image) known.structure some).command_is n command_below

    pub command_head : {r : ℕ} → j % node_length < 2 → r ≡ byte_at image (x.commands_at + node_length * n + j % node_length)
        → r ≡ byte_at (node_bytes (command_at (filed (design_of image)) (j / node_length))) (j % node_length)
    command_head low h =
        let y = command_at (design_of image) n in
        let is = sym (command_in describes command_listed) in
        let kind = command_kind_lem (design_of image) y ∙ ap (λ (z : Node). z.kind) is in
        let item = command_item (design_of image) y (command_kind y.kind) ∙ ap (λ (z : Node). z.item) is in
        h ∙ head_bytes image x.commands_at n (j % node_length) (command_filed (design_of image) y) low kind item ∙ ap (λ (z : Node). byte_at (node_bytes z) (j % node_length)) (sym command_filed_lem)

    pub command_field_byte : {field r : ℕ} → 2 ≤ j % node_length → r ≡ byte_at (word16_bytes field) (j % node_length % 2)
        → field ≡ field_of (j % node_length / 2) (command_filed (design_of image) (command_at (design_of image) n))
        → r ≡ byte_at (node_bytes (command_at (filed (design_of image)) (j / node_length))) (j % node_length)
    command_field_byte low h same = h ∙ field_bytes _ (j % node_length) low (omega arith) (same ∙ ap (field_of (j % node_length / 2)) (sym command_filed_lem))

  -- the expression at a place of its order
  pub expression_found : {table : List ℕ} {j : ℕ} → Ordered (expression_order (design_of image)) table → j < node_length * x.expressions → j / node_length < length table
  expression_found ordered l = let long = ordered.long in omega (arith, expressions_long (design_of image) known.structure, expressions_count describes)

  module _ {table : List ℕ} {j n : ℕ} (ordered : Ordered (expression_order (design_of image)) table) (l : j < node_length * x.expressions) (e : n ≡ get_or table (j / node_length) 0) where
    expression_place_lem : j / node_length < length (design_of image).expressions
    expression_place_lem = omega (arith, expressions_count describes)

    expression_below : n < length (design_of image).expressions
    expression_below = entry_below (expressions_enumerated (design_of image) known.structure) ordered expression_place_lem e

    expression_listed : n < x.expressions
    expression_listed = omega (arith, expression_below, expressions_count describes)

    pub expression_here : ExpressionAt image x x.expressions_at n
    expression_here = expression_at_lem describes known.records.expressions expression_listed refl

    pub expression_ends : node_end x.expressions_at n ≤ length image
    expression_ends = expression_inside describes expression_listed

    expression_filed_lem : expression_at (filed (design_of image)) (j / node_length) ≡ expression_filed (design_of image) (expression_at (design_of image) n)
    expression_filed_lem =
        ap (expression_at (filed (design_of image))) (sym (entry_placed (expressions_enumerated (design_of image) known.structure) ordered expression_place_lem e))
        ∙ (filed_renumbers (design_of image) known.structure some).expression_is n expression_below

    pub expression_head : {r : ℕ} → j % node_length < 2 → r ≡ byte_at image (x.expressions_at + node_length * n + j % node_length)
        → r ≡ byte_at (node_bytes (expression_at (filed (design_of image)) (j / node_length))) (j % node_length)
    expression_head low h =
        let y = expression_at (design_of image) n in
        let is = sym (expression_in describes expression_listed) in
        let kind = expression_kind_lem (design_of image) y ∙ ap (λ (z : Node). z.kind) is in
        let item = expression_item (design_of image) y (expression_kind y.kind) ∙ ap (λ (z : Node). z.item) is in
        h ∙ head_bytes image x.expressions_at n (j % node_length) (expression_filed (design_of image) y) low kind item ∙ ap (λ (z : Node). byte_at (node_bytes z) (j % node_length)) (sym expression_filed_lem)

    pub expression_field_byte : {field r : ℕ} → 2 ≤ j % node_length → r ≡ byte_at (word16_bytes field) (j % node_length % 2)
        → field ≡ field_of (j % node_length / 2) (expression_filed (design_of image) (expression_at (design_of image) n))
        → r ≡ byte_at (node_bytes (expression_at (filed (design_of image)) (j / node_length))) (j % node_length)
    expression_field_byte low h same = h ∙ field_bytes _ (j % node_length) low (omega arith) (same ∙ ap (field_of (j % node_length / 2)) (sym expression_filed_lem))

  -- the command of a state
  module _ {s old : ℕ} (l : s < x.states) (body : old ≡ (state_in image x.states_at s).command) where
    body_exists : old < length (design_of image).commands
    body_exists = omega (arith, body_below describes l body known.records.states, commands_count describes)

    pub body_inside : {numbers : List ℕ} → Numbered (command_order (design_of image)) numbers → old < length numbers
    body_inside table = command_numbered known table body_exists

    pub body_new : {numbers : List ℕ} {r : ℕ} → r ≡ get_or numbers old 0 → Numbered (command_order (design_of image)) numbers → r ≡ (state_at (filed (design_of image)) s).command
    unfolding renumbered_state
    body_new new table =
        command_new known table body_exists new
        ∙ ap (new_command (design_of image)) (body_is describes l body)
        ∙ sym (ap (λ (y : State). y.command) (state_filed_lem s l))

    -- a place in the order is no higher than the most commands
    pub body_fits : {numbers : List ℕ} {r : ℕ} → r ≡ get_or numbers old 0 → Numbered (command_order (design_of image)) numbers → r < 65536
    body_fits new table =
        let is = command_new known table body_exists new in
        omega (arith, place_at_most (command_order (design_of image)) old, commands_long (design_of image) known.structure, commands_count describes, commands_most describes)

  pub state_body : (j : ℕ) {body r : ℕ} → j % state_length / 2 ≡ 1 → r ≡ byte_at (word16_bytes body) (j % state_length % 2)
      → body ≡ (state_at (filed (design_of image)) (j / state_length)).command
      → r ≡ byte_at (state_bytes (state_at (filed (design_of image)) (j / state_length))) (j % state_length)
  state_body j e h same =
      h
      ∙ ap (λ (v : ℕ). byte_at (word16_bytes v) (j % state_length % 2)) same
      ∙ body_byte (state_at (filed (design_of image)) (j / state_length)) (j % state_length) e

  pub state_other : (j : ℕ) {r : ℕ} → (j % state_length / 2 ≡ 1 → ⊥) → r ≡ byte_at image (x.states_at + j) → j < state_length * x.states
      → r ≡ byte_at (state_bytes (state_at (filed (design_of image)) (j / state_length))) (j % state_length)
  state_other j other h l =
      let inside : j / state_length < x.states = omega arith in
      h
      ∙ ap (byte_at image) (omega arith)
      ∙ state_bytes_lem image x.states_at (design_of image) (j / state_length) (j % state_length) (omega arith) other
      ∙ ap
      (λ (y : State). byte_at (state_bytes (state_filed (design_of image) y)) (j % state_length))
      (state_in_lem describes inside)
      ∙ ap (λ (y : State). byte_at (state_bytes y) (j % state_length)) (sym (state_filed_lem (j / state_length) inside))

-- ---- the form by its sections
module _ {image : List ℕ} {x : Design} (known : Structured image x) where
  -- a section is as long as its records
  sized : (section : Section) → record_length section * count image section ≡ size image section
  sized section = section_sized image section (known.records.describes.directory.sections section)

  filed_states : states_at (filed (design_of image)) ≡ x.states_at
  unfolding filed
  filed_states =
      let d = known.records.describes in
      let labels = labels_count d in
      let registers = registers_count d in
      omega (arith, d, d.directory, sized Labels, sized Registers)

  filed_commands : commands_at (filed (design_of image)) ≡ x.commands_at
  filed_commands =
      let d = known.records.describes in
      let many = states_as_many (design_of image) known.structure (some known) in
      omega (arith, filed_states, states_count d, d, d.directory, sized States)

  filed_expressions : expressions_at (filed (design_of image)) ≡ x.expressions_at
  filed_expressions =
      let d = known.records.describes in
      let many = commands_as_many (design_of image) known.structure (some known) in
      omega (arith, filed_commands, commands_count d, d, d.directory, sized Commands)

  -- where a byte stands in its section
  pub states_reach : {i : ℕ} → i < x.commands_at → x.states_at ≤ i → i - x.states_at < state_length * x.states
  states_reach l m = let d = known.records.describes in omega (arith, d, d.directory, sized States)

  pub commands_reach : {i : ℕ} → i < x.expressions_at → x.commands_at ≤ i → i - x.commands_at < node_length * x.commands
  commands_reach l m = let d = known.records.describes in omega (arith, d, d.directory, sized Commands)

  pub expressions_reach : {i : ℕ} → i < length image → x.expressions_at ≤ i → i - x.expressions_at < node_length * x.expressions
  expressions_reach l m = let d = known.records.describes in omega (arith, d, d.directory, sized Expressions)

  pub form_states : {i r : ℕ} → i < x.commands_at → x.states_at ≤ i
      → r ≡ byte_at (state_bytes (state_at (filed (design_of image)) ((i - x.states_at) / state_length))) ((i - x.states_at) % state_length)
      → r ≡ byte_at (filed_image image) i
  unfolding filed_image
  form_states {i} l m h =
      let j : ℕ = i - x.states_at in
      let many = states_as_many (design_of image) known.structure (some known) in
      let place : states_at (filed (design_of image)) + j ≡ i = omega (arith, filed_states) in
      h
      ∙ sym (states_byte (filed (design_of image)) j (omega (arith, states_reach l m, states_count known.records.describes)))
      ∙ ap (byte_at (image_of (filed (design_of image)))) place

  pub form_commands : {i r : ℕ} → i < x.expressions_at → x.commands_at ≤ i
      → r ≡ byte_at (node_bytes (command_at (filed (design_of image)) ((i - x.commands_at) / node_length))) ((i - x.commands_at) % node_length)
      → r ≡ byte_at (filed_image image) i
  unfolding filed_image
  form_commands {i} l m h =
      let j : ℕ = i - x.commands_at in
      let many = commands_as_many (design_of image) known.structure (some known) in
      let place : commands_at (filed (design_of image)) + j ≡ i = omega (arith, filed_commands) in
      h
      ∙ sym (commands_byte (filed (design_of image)) j (omega (arith, commands_reach l m, commands_count known.records.describes)))
      ∙ ap (byte_at (image_of (filed (design_of image)))) place

  pub form_expressions : {i r : ℕ} → i < length image → x.expressions_at ≤ i
      → r ≡ byte_at (node_bytes (expression_at (filed (design_of image)) ((i - x.expressions_at) / node_length))) ((i - x.expressions_at) % node_length)
      → r ≡ byte_at (filed_image image) i
  unfolding filed_image
  form_expressions {i} l m h =
      let j : ℕ = i - x.expressions_at in
      let many = expressions_as_many (design_of image) known.structure (some known) in
      let place : expressions_at (filed (design_of image)) + j ≡ i = omega (arith, filed_expressions) in
      h
      ∙ sym (expressions_byte (filed (design_of image)) j (omega (arith, expressions_reach l m, expressions_count known.records.describes)))
      ∙ ap (byte_at (image_of (filed (design_of image)))) place

-- in front of the states, where every byte of the image is one
pub form_front : (image : List ℕ) → ((i : ℕ) → Fits w8 (get_or image i 0)) → {i r : ℕ} → i < offset image States → r ≡ byte_at image i → Keeps image → r ≡ byte_at (filed_image image) i
form_front image bytes {i = i} l h keeps = h ∙ sym (filed_front image (λ j. (bytes j).fits) ((verdict_exact image).1 keeps) i l)
