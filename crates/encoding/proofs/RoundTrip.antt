-- The image of a design says what the design does, and the design of an image has that image: directory and sections stand one behind the other, each as long as
-- the directory says, and each is read as it was written and written as it was read.
use Prim.Native.Nat.{ℕ, ◌+◌, ◌*◌, ◌≤◌, ◌<◌}
use mathlib.Core.Path.{◌≡◌, refl, sym, ◌∙◌, ap}
use mathlib.Core.List.{List, [], ◌++◌, append_assoc, append-nil}
use native.Mathlib.Omega.{arith}
use lib.ListN.{length, get_or, take, length-append}
use lib.Seq.{take_all}
use Rattle.model.specs.Limits.{directory_length}
use Rattle.model.specs.Image.{AreBytes, Section, Labels, Registers, States, Commands, Expressions, end, record_length, fewest, most, Design, row_of, register_of, state_of, node_of, section_of, design_of, no_register, no_state, no_node}
use Rattle.model.specs.Rules.{DirectoryKeeps}
use Rattle.encoding.specs.Encoding.{records_bytes, register_bytes, state_bytes, node_bytes, registers_at, states_at, commands_at, expressions_at, image_length, directory_bytes, registers_front, states_front, commands_front, expressions_front, image_of}
use Rattle.encoding.specs.Encodable.{WithinLimits, Encodable}
use Rattle.encoding.proofs.Fields.{bytes_joined, are_bytes}
use Rattle.encoding.proofs.Records.{Encodes, row_encodes, register_encodes, state_encodes, node_encodes}
use Rattle.encoding.proofs.Sections.{length-records, records_in_bytes, section_read, section_fits, section_written}
use Rattle.encoding.proofs.Directories.{records_in, start_of, directory_sized, directory_in_bytes, offset_read, count_read, directory_read, records_counted, directory_written}

-- ---- the image of a design
-- records behind a front
behind_sized : {A : Type 0} {read : List ℕ → A} {bytes : A → List ℕ} {width : ℕ} {Fits : A → Type 0} → Encodes read bytes width Fits
    → (front : List ℕ) (n : ℕ) (xs : List A)
    → length front ≡ n
    → length (front ++ records_bytes bytes xs) ≡ n + width * length xs
behind_sized {bytes = bytes} kind front n xs e = rw (length-append front (records_bytes bytes xs), e, length-records kind xs)

module _ (d : Design) where
  -- the sections behind the labels
  abbrev registers : List ℕ
  registers = records_bytes register_bytes d.registers

  abbrev states : List ℕ
  states = records_bytes state_bytes d.states

  abbrev commands : List ℕ
  commands = records_bytes node_bytes d.commands

  abbrev expressions : List ℕ
  expressions = records_bytes node_bytes d.expressions

  registers_front_lem : length (registers_front d) ≡ registers_at d
  registers_front_lem = behind_sized row_encodes (directory_bytes d) directory_length d.rows (directory_sized d)

  pub states_front_lem : length (states_front d) ≡ states_at d
  states_front_lem = behind_sized register_encodes (registers_front d) (registers_at d) d.registers registers_front_lem

  pub commands_front_lem : length (commands_front d) ≡ commands_at d
  commands_front_lem = behind_sized state_encodes (states_front d) (states_at d) d.states states_front_lem

  pub expressions_front_lem : length (expressions_front d) ≡ expressions_at d
  expressions_front_lem = behind_sized node_encodes (commands_front d) (commands_at d) d.commands commands_front_lem

  pub image_length_lem : length (image_of d) ≡ image_length d
  unfolding image_of
  image_length_lem = behind_sized node_encodes (expressions_front d) (expressions_at d) d.expressions expressions_front_lem

  pub image_directory : WithinLimits d → DirectoryKeeps (image_of d)
  image_directory limits = directory_read d limits image_length_lem

  pub image_bytes : Encodable d → AreBytes (image_of d)
  unfolding image_of
  image_bytes fit =
      let rows = records_in_bytes row_encodes 0 d.rows fit.rows in
      let registers = records_in_bytes register_encodes no_register d.registers fit.registers in
      let states = records_in_bytes state_encodes no_state d.states fit.states in
      let commands = records_in_bytes node_encodes no_node d.commands fit.commands in
      let expressions = records_in_bytes node_encodes no_node d.expressions fit.expressions in
      are_bytes (bytes_joined (bytes_joined (bytes_joined (bytes_joined (bytes_joined (directory_in_bytes d) rows) registers) states) commands) expressions)

  module _ (limits : WithinLimits d) where
    -- a section is read as it was written, if its front is as long as the directory says
    read_again : (s : Section) {A : Type 0} {read : List ℕ → A} {bytes : A → List ℕ} {Fits : A → Type 0}
        → Encodes read bytes (record_length s) Fits
        → (default : A) (xs : List A)
        → ((i : ℕ) → i < length xs → Fits (get_or xs i default))
        → records_in d s ≡ length xs
        → (front rest : List ℕ)
        → length front ≡ start_of d s
        → image_of d ≡ front ++ (records_bytes bytes xs ++ rest)
        → section_of read (image_of d) s ≡ xs
    read_again s kind default xs fit counted front rest long e =
        section_read (image_of d) s kind default xs fit front rest e (offset_read d limits s ∙ sym long) (count_read d limits s ∙ counted)

    module _ (fit : Encodable d) where
      rows_again : section_of row_of (image_of d) Labels ≡ d.rows
      unfolding image_of
      rows_again =
          read_again Labels row_encodes 0 d.rows fit.rows refl (directory_bytes d) (registers ++ states ++ commands ++ expressions) (directory_sized d) (simp append_assoc)

      registers_again : section_of register_of (image_of d) Registers ≡ d.registers
      unfolding image_of
      registers_again =
          read_again Registers register_encodes no_register d.registers fit.registers refl (registers_front d) (states ++ commands ++ expressions) registers_front_lem (simp append_assoc)

      states_again : section_of state_of (image_of d) States ≡ d.states
      unfolding image_of
      states_again = read_again States state_encodes no_state d.states fit.states refl (states_front d) (commands ++ expressions) states_front_lem (simp append_assoc)

      commands_again : section_of node_of (image_of d) Commands ≡ d.commands
      unfolding image_of
      commands_again = read_again Commands node_encodes no_node d.commands fit.commands refl (commands_front d) expressions commands_front_lem (simp append_assoc)

      expressions_again : section_of node_of (image_of d) Expressions ≡ d.expressions
      unfolding image_of
      expressions_again = read_again Expressions node_encodes no_node d.expressions fit.expressions refl (expressions_front d) [] expressions_front_lem (simp append-nil)

      pub image_design : design_of (image_of d) ≡ d
      unfolding design_of
      image_design = rw (rows_again, registers_again, states_again, commands_again, expressions_again)

-- ---- the design of an image
pub design_limits : (image : List ℕ) → DirectoryKeeps image → WithinLimits (design_of image)
design_limits image keeps =
    let least : (s : Section) → fewest s ≤ records_in (design_of image) s = λ s. rw (records_counted image s) (keeps.sections s).at_least in
    let greatest : (s : Section) → records_in (design_of image) s ≤ most s = λ s. rw (records_counted image s) (keeps.sections s).at_most in
    record {
      labels_least = least Labels;
      labels_most = greatest Labels;
      registers_most = greatest Registers;
      states_least = least States;
      states_most = greatest States;
      commands_most = greatest Commands;
      expressions_most = greatest Expressions;
    }

pub design_encodable : (image : List ℕ) → AreBytes image → Encodable (design_of image)
unfolding design_of
design_encodable image h =
    let zero-byte : 0 < 256 = omega arith in
    record {
      rows = λ i l. section_fits image Labels row_encodes h 0 (omega arith) i;
      registers = λ i l. section_fits image Registers register_encodes h no_register (register_encodes.fits [] (λ i. zero-byte)) i;
      states = λ i l. section_fits image States state_encodes h no_state (state_encodes.fits [] (λ i. zero-byte)) i;
      commands = λ i l. section_fits image Commands node_encodes h no_node (node_encodes.fits [] (λ i. zero-byte)) i;
      expressions = λ i l. section_fits image Expressions node_encodes h no_node (node_encodes.fits [] (λ i. zero-byte)) i;
    }

-- bytes up to a place, by another name of the place
up_to : (image : List ℕ) {front : List ℕ} {j k : ℕ} → k ≡ j → front ≡ take j image → front ≡ take k image
up_to image same e = e ∙ ap (λ n. take n image) (sym same)

pub design_image : (image : List ℕ) → AreBytes image → DirectoryKeeps image → image_of (design_of image) ≡ image
unfolding image_of design_of
design_image image h keeps =
    let d = design_of image in
    let labels = section_written image Labels row_encodes h (keeps.sections Labels) (omega arith) (directory_bytes d) (up_to image keeps.labels_at (directory_written image keeps h)) in
    let registers = section_written image Registers register_encodes h (keeps.sections Registers) (omega arith) (registers_front d) (up_to image keeps.registers_at labels) in
    let states = section_written image States state_encodes h (keeps.sections States) (omega arith) (states_front d) (up_to image keeps.states_at registers) in
    let commands = section_written image Commands node_encodes h (keeps.sections Commands) (omega arith) (commands_front d) (up_to image keeps.commands_at states) in
    let expressions = section_written image Expressions node_encodes h (keeps.sections Expressions) (omega arith) (expressions_front d) (up_to image keeps.expressions_at commands) in
    expressions ∙ take_all (end image Expressions) image (omega arith)
