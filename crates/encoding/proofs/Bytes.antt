-- The bytes of an image, section by section: a byte of a section is a byte of one of its records, since every record of a section is as long as the others.
use Prim.Native.Nat.{ℕ, zero, suc, ◌+◌, ◌*◌, ◌/◌, ◌%◌, ◌<◌}
use mathlib.Core.Path.{◌≡◌, ◌∙◌, ap}
use mathlib.Core.List.{List, [], ◌∷◌, ◌++◌}
use native.Mathlib.Omega.{arith}
use lib.ListN.{length, get_or, length-append, get_or-append}
use lib.Seq.{get_or-append-add}
use Rattle.model.specs.Limits.{state_length, node_length}
use Rattle.model.specs.Image.{byte_at, Design, no_state, no_node, state_at, command_at, expression_at}
use Rattle.encoding.specs.Encoding.{records_bytes, state_bytes, node_bytes, states_size, commands_size, expressions_size, states_at, commands_at, expressions_at, states_front, commands_front, expressions_front, image_of}
use Rattle.encoding.proofs.Records.{Encodes, state_encodes, node_encodes}
use Rattle.encoding.proofs.Sections.{length-records}
use Rattle.encoding.proofs.RoundTrip.{states_front_lem, commands_front_lem, expressions_front_lem}

-- byte o of record k
pub record_byte :
    {A : Type 0} {read : List ℕ → A} {bytes : A → List ℕ} {width : ℕ} {Fits : A → Type 0}
    → Encodes read bytes width Fits
    → (default : A) (xs : List A) (k o : ℕ)
    → k < length xs
    → o < width
    → byte_at (records_bytes bytes xs) (width * k + o) ≡ byte_at (bytes (get_or xs k default)) o
unfolding records_bytes
record_byte kind default [] k o l m = absurd (omega arith)
record_byte {bytes = bytes} {width = width} kind default (x ∷ xs) zero o l m =
    let first : width * 0 + o ≡ o = omega arith in
    ap (byte_at (bytes x ++ records_bytes bytes xs)) first ∙ get_or-append (bytes x) (records_bytes bytes xs) 0 o (omega (arith, kind.sized x))
record_byte {bytes = bytes} {width = width} kind default (x ∷ xs) (suc k) o l m =
    let later : width * suc k + o ≡ length (bytes x) + (width * k + o) = omega (arith, kind.sized x) in
    ap (byte_at (bytes x ++ records_bytes bytes xs)) later
    ∙ get_or-append-add (bytes x) (records_bytes bytes xs) (width * k + o) 0
    ∙ record_byte kind default xs k o (omega arith) m

-- ---- byte o of a record of a section
module _ (d : Design) where
  pub state_byte : (s o : ℕ) → s < length d.states → o < state_length → byte_at (image_of d) (states_at d + state_length * s + o) ≡ byte_at (state_bytes (state_at d s)) o
  unfolding image_of
  state_byte s o l m =
      let front = states_front_lem d in
      let records = records_bytes state_bytes d.states in
      let sized = length-records state_encodes d.states in
      let place : states_at d + state_length * s + o ≡ length (states_front d) + (state_length * s + o) = omega arith in
      let commands : states_at d + state_length * s + o < length (commands_front d) = omega (arith, length-append (states_front d) records) in
      let expressions : states_at d + state_length * s + o < length (expressions_front d) = omega (arith, length-append (commands_front d) (records_bytes node_bytes d.commands)) in
      get_or-append (expressions_front d) (records_bytes node_bytes d.expressions) 0 _ expressions
      ∙ get_or-append (commands_front d) (records_bytes node_bytes d.commands) 0 _ commands
      ∙ ap (byte_at (commands_front d)) place
      ∙ get_or-append-add (states_front d) records (state_length * s + o) 0
      ∙ record_byte state_encodes no_state d.states s o l m

  pub command_byte : (n o : ℕ) → n < length d.commands → o < node_length → byte_at (image_of d) (commands_at d + node_length * n + o) ≡ byte_at (node_bytes (command_at d n)) o
  unfolding image_of
  command_byte n o l m =
      let front = commands_front_lem d in
      let records = records_bytes node_bytes d.commands in
      let sized = length-records node_encodes d.commands in
      let place : commands_at d + node_length * n + o ≡ length (commands_front d) + (node_length * n + o) = omega arith in
      let expressions : commands_at d + node_length * n + o < length (expressions_front d) = omega (arith, length-append (commands_front d) records) in
      get_or-append (expressions_front d) (records_bytes node_bytes d.expressions) 0 _ expressions
      ∙ ap (byte_at (expressions_front d)) place
      ∙ get_or-append-add (commands_front d) records (node_length * n + o) 0
      ∙ record_byte node_encodes no_node d.commands n o l m

  pub expression_byte : (n o : ℕ) → n < length d.expressions → o < node_length → byte_at (image_of d) (expressions_at d + node_length * n + o) ≡ byte_at (node_bytes (expression_at d n)) o
  unfolding image_of
  expression_byte n o l m =
      let front = expressions_front_lem d in
      let records = records_bytes node_bytes d.expressions in
      let place : expressions_at d + node_length * n + o ≡ length (expressions_front d) + (node_length * n + o) = omega arith in
      ap (byte_at (image_of d)) place
      ∙ get_or-append-add (expressions_front d) records (node_length * n + o) 0
      ∙ record_byte node_encodes no_node d.expressions n o l m

  -- the same of a place j in the section
  pub states_byte : (j : ℕ) → j < states_size d → byte_at (image_of d) (states_at d + j) ≡ byte_at (state_bytes (state_at d (j / state_length))) (j % state_length)
  states_byte j l =
      ap (byte_at (image_of d)) (omega arith) ∙ state_byte (j / state_length) (j % state_length) (omega arith) (omega arith)

  pub commands_byte : (j : ℕ) → j < commands_size d → byte_at (image_of d) (commands_at d + j) ≡ byte_at (node_bytes (command_at d (j / node_length))) (j % node_length)
  commands_byte j l =
      ap (byte_at (image_of d)) (omega arith) ∙ command_byte (j / node_length) (j % node_length) (omega arith) (omega arith)

  pub expressions_byte : (j : ℕ) → j < expressions_size d → byte_at (image_of d) (expressions_at d + j) ≡ byte_at (node_bytes (expression_at d (j / node_length))) (j % node_length)
  expressions_byte j l =
      ap (byte_at (image_of d)) (omega arith) ∙ expression_byte (j / node_length) (j % node_length) (omega arith) (omega arith)
