-- Within the limits every offset and every length is below 65,536, so that the directory is read as it was written; and a directory that keeps its rules says the
-- offsets and lengths that its design has.
use Prim.Native.Nat.{ℕ, zero, ◌+◌, ◌*◌, ◌/◌, ◌%◌, ◌≤◌, ◌<◌}
use mathlib.Core.Path.{◌≡◌, refl, sym, ◌∙◌, ap, ap₂}
use mathlib.Core.List.{List, [], ◌∷◌}
use native.Mathlib.Omega.{arith}
use native.Mathlib.Nat.{mul-div_cancel_left, mul-mod_right}
use lib.ListN.{length, take}
use Rattle.model.specs.Limits.{directory_length}
use Rattle.model.specs.Image.{byte_at, AreBytes, Section, ordinal, Labels, Registers, States, Commands, Expressions, record_length, fewest, most, offset, size, count, end, Design, design_of}
use Rattle.model.specs.Rules.{SectionKeeps, DirectoryKeeps}
use Rattle.model.proofs.Laws.Images.{label_count, register_count, state_count, command_count, expression_count}
use Rattle.encoding.specs.Encoding.{word16_bytes, pair_bytes, labels_size, registers_size, states_size, commands_size, expressions_size, registers_at, states_at, commands_at, expressions_at, image_length, directory_bytes, image_of}
use Rattle.encoding.specs.Encodable.{WithinLimits}
use Rattle.encoding.proofs.Sections.{section_sized}
use Rattle.encoding.proofs.Fields.{Bytes, bytes_joined, first_bytes, word16_bytes_lem, word16_read, field_written}

module _ (d : Design) where
  -- how many records each section of a design's image has, and where it begins
  abbrev pub records_in : Section → ℕ
  records_in Labels = length d.rows
  records_in Registers = length d.registers
  records_in States = length d.states
  records_in Commands = length d.commands
  records_in Expressions = length d.expressions

  abbrev pub start_of : Section → ℕ
  start_of Labels = directory_length
  start_of Registers = registers_at d
  start_of States = states_at d
  start_of Commands = commands_at d
  start_of Expressions = expressions_at d

-- ---- a directory that is written and read
record_lengths : (s : Section) → zero < record_length s
record_lengths Labels = omega arith
record_lengths Registers = omega arith
record_lengths States = omega arith
record_lengths Commands = omega arith
record_lengths Expressions = omega arith

pub directory_sized : (d : Design) → length (directory_bytes d) ≡ directory_length
unfolding directory_bytes word16_bytes
directory_sized d = refl

pair_bytes_lem : (at long : ℕ) → Bytes (pair_bytes at long)
pair_bytes_lem at long = bytes_joined (word16_bytes_lem at) (word16_bytes_lem long)

pub directory_in_bytes : (d : Design) → Bytes (directory_bytes d)
unfolding directory_bytes
directory_in_bytes d =
    let pair : (s : Section) → Bytes (pair_bytes (start_of d s) (record_length s * records_in d s)) = λ s. pair_bytes_lem (start_of d s) (record_length s * records_in d s) in
    bytes_joined (bytes_joined (bytes_joined (bytes_joined (pair Labels) (pair Registers)) (pair States)) (pair Commands)) (pair Expressions)

module _ (d : Design) (limits : WithinLimits d) where
  pub offset_read : (s : Section) → offset (image_of d) s ≡ start_of d s
  unfolding image_of directory_bytes word16_bytes
  offset_read Labels = refl
  offset_read Registers = word16_read (registers_at d) (omega arith)
  offset_read States = word16_read (states_at d) (omega arith)
  offset_read Commands = word16_read (commands_at d) (omega arith)
  offset_read Expressions = word16_read (expressions_at d) (omega arith)

  size_read : (s : Section) → size (image_of d) s ≡ record_length s * records_in d s
  unfolding image_of directory_bytes word16_bytes
  size_read Labels = word16_read (labels_size d) (omega arith)
  size_read Registers = word16_read (registers_size d) (omega arith)
  size_read States = word16_read (states_size d) (omega arith)
  size_read Commands = word16_read (commands_size d) (omega arith)
  size_read Expressions = word16_read (expressions_size d) (omega arith)

  pub count_read : (s : Section) → count (image_of d) s ≡ records_in d s
  count_read s = ap (λ k. k / record_length s) (size_read s) ∙ mul-div_cancel_left (records_in d s) (record_lengths s)

  fewest_kept : (s : Section) → fewest s ≤ records_in d s
  fewest_kept Labels = limits.labels_least
  fewest_kept Registers = omega arith
  fewest_kept States = limits.states_least
  fewest_kept Commands = omega arith
  fewest_kept Expressions = omega arith

  most_kept : (s : Section) → records_in d s ≤ most s
  most_kept Labels = limits.labels_most
  most_kept Registers = limits.registers_most
  most_kept States = limits.states_most
  most_kept Commands = limits.commands_most
  most_kept Expressions = limits.expressions_most

  section_keeps : (s : Section) → SectionKeeps (image_of d) s
  section_keeps s =
      let counted = count_read s in
      record {
        whole = ap (λ k. k % record_length s) (size_read s) ∙ mul-mod_right (record_length s) (records_in d s);
        at_least = rw counted (fewest_kept s);
        at_most = rw counted (most_kept s);
      }

  end_read : (s : Section) → end (image_of d) s ≡ start_of d s + record_length s * records_in d s
  end_read s = ap₂ (λ x y. x + y) (offset_read s) (size_read s)

  pub directory_read : length (image_of d) ≡ image_length d → DirectoryKeeps (image_of d)
  directory_read long =
      record {
        present = omega arith;
        labels_at = offset_read Labels;
        registers_at = offset_read Registers ∙ sym (end_read Labels);
        states_at = offset_read States ∙ sym (end_read Registers);
        commands_at = offset_read Commands ∙ sym (end_read States);
        expressions_at = offset_read Expressions ∙ sym (end_read Commands);
        ends = long ∙ sym (end_read Expressions);
        sections = section_keeps;
      }

-- ---- a directory that is read and written
pub records_counted : (image : List ℕ) (s : Section) → records_in (design_of image) s ≡ count image s
records_counted image Labels = label_count image
records_counted image Registers = register_count image
records_counted image States = state_count image
records_counted image Commands = command_count image
records_counted image Expressions = expression_count image

module _ (image : List ℕ) (keeps : DirectoryKeeps image) where
  size_kept_lem : (s : Section) → record_length s * records_in (design_of image) s ≡ size image s
  size_kept_lem s = ap (λ k. record_length s * k) (records_counted image s) ∙ section_sized image s (keeps.sections s)

  start_kept : (s : Section) → start_of (design_of image) s ≡ offset image s
  start_kept Labels = sym keeps.labels_at
  start_kept Registers = omega (arith, size_kept_lem Labels)
  start_kept States = omega (arith, size_kept_lem Labels, size_kept_lem Registers)
  start_kept Commands = omega (arith, size_kept_lem Labels, size_kept_lem Registers, size_kept_lem States)
  start_kept Expressions = omega (arith, size_kept_lem Labels, size_kept_lem Registers, size_kept_lem States, size_kept_lem Commands)

  pub directory_written : AreBytes image → directory_bytes (design_of image) ≡ take directory_length image
  unfolding directory_bytes
  directory_written h = rw (first_bytes directory_length image keeps.present, pair Labels, pair Registers, pair States, pair Commands, pair Expressions)
    where
      pair : (s : Section)
          → let k = 4 * ordinal s in
          pair_bytes (start_of (design_of image) s) (record_length s * records_in (design_of image) s) ≡ byte_at image k ∷ byte_at image (k + 1) ∷ byte_at image (k + 2) ∷ byte_at image (k + 2 + 1) ∷ []
      pair s = rw (start_kept s, size_kept_lem s, field_written image h (4 * ordinal s), field_written image h (4 * ordinal s + 2))
