-- 01, 'A cycle' and 'When the box says no': the four calls. For each, one function from everything lent and given to the answer and every byte of the
-- areas afterwards, refusals included. The contracts of the calls are equations with these.
use Rattle.std.specs.Prelude.{ℕ, ◌*◌, Bool, ◌&&◌, cond, List, ◌++◌, leb, ltb, eqb, length, get_or, set, take, drop, Some, None, Err}
use Rattle.model.specs.declared.Refusal.TheVariants.{NoPort, Area, CycleCount, PortValue}
use Rattle.model.specs.Answers.{Answer, Accepted}
use Rattle.model.specs.Limits.{cycles_max, word_length, target_length}
use Rattle.model.specs.Indices.{lowest_failing}
use Rattle.model.specs.Image.{Design, design_of}
use Rattle.model.specs.States.{is_port}
use Rattle.model.specs.Verdict.{verdict, refused_at, at_zero_unless, ◌before◌}
use Rattle.model.specs.Values.{fits, words_of, bytes_of}
use Rattle.model.specs.Bindings.{binding_sound}
use Rattle.model.specs.Machine.{Areas, reset_areas, target_sound, after_cycles}

-- the bytes of the two areas that the host lends
pub record Lent : Type 0 where
  pub registers : List ℕ
  pub targets : List ℕ

-- what a call leaves: its answer, and every byte of what it was lent
pub record Left (A : Type 0) : Type 0 where
  pub answer : Answer
  pub lent : A

-- what a call leaves that is lent a part of what the host has: the rest stays
abbrev pub left_in : {A B : Type 0} → (A → B) → Left A → Left B
left_in whole left = record { answer = left.answer; lent = whole left.lent }

abbrev pub left_as : {A : Type 0} → Answer → A → Left A
left_as answer lent = record { answer = answer; lent = lent }

-- On an acceptance what was lent is as the call makes it. On a refusal "No lent byte changes."
abbrev pub leaves : {A : Type 0} → Answer → A → A → Left A
leaves (Accepted count) lent made = record { answer = Accepted count; lent = made }
leaves (Err why) lent made = record { answer = Err why; lent = lent }

module _ (d : Design) where
  -- "registers, 4 bytes each, and targets, one byte per state"; 02, E8: and behind them two bytes per state
  abbrev pub register_area_kept : List ℕ → Bool
  register_area_kept registers = eqb (length registers) (word_length * length d.registers)

  abbrev pub target_area_kept : List ℕ → Bool
  target_area_kept targets = eqb (length targets) (target_length * length d.states)

  unfoldable pub register_area_answer : List ℕ → Answer
  register_area_answer registers = refused_at Area (at_zero_unless (register_area_kept registers))

  -- refusal 14: "a wrong length comes first, with place 0 .. then an unsound target, at the lowest state"
  unfoldable pub length_answer : Lent → Answer
  length_answer lent = refused_at Area (at_zero_unless (register_area_kept lent.registers && target_area_kept lent.targets))

  -- 02, E2: "A register area holding a value too large is refusal 14." 01: "then any fault that a request adds in the registers' contents, at the lowest
  -- register"
  unfoldable pub content_kept : List ℕ → ℕ → Bool
  content_kept registers r = fits d.registers r (get_or (words_of (length d.registers) registers) r 0)

  unfoldable pub contents_answer : List ℕ → Answer
  contents_answer registers = refused_at Area (lowest_failing (content_kept registers) (length d.registers))

  -- the targets of a lent area, and the bindings behind them
  abbrev pub targets_in : List ℕ → List ℕ
  targets_in area = take (length d.states) area

  abbrev pub bindings_in : List ℕ → List ℕ
  bindings_in area = drop (length d.states) area

  unfoldable pub targets_answer : Lent → Answer
  targets_answer lent = refused_at Area (lowest_failing (target_sound d (targets_in lent.targets)) (length d.states))

  -- 02, E8: "else 14, after the targets"; decided: in one pass, at the lowest state
  unfoldable pub bindings_answer : Lent → Answer
  bindings_answer lent = refused_at Area (lowest_failing (binding_sound d (targets_in lent.targets) (bindings_in lent.targets)) (length d.states))

  -- refusal 13: "port write: no such register, or inner"; "the place is the register number given"
  unfoldable pub is_writable : ℕ → Bool
  is_writable r = ltb r (length d.registers) && is_port d r

  unfoldable pub port_answer : ℕ → Answer
  port_answer r = refused_at NoPort (cond (is_writable r) None (Some r))

  -- 02, E2: "It refuses with 17 a port value too large for its port, after 13."
  unfoldable pub value_answer : ℕ → ℕ → Answer
  value_answer r v = refused_at PortValue (cond (fits d.registers r v) None (Some r))

  -- the values of lent areas, and the bytes of values
  unfoldable pub areas_of : Lent → Areas
  areas_of lent =
      record { registers = words_of (length d.registers) lent.registers; targets = targets_in lent.targets; bindings = bindings_in lent.targets }

unfoldable pub lent_of : Areas → Lent
lent_of areas = record { registers = bytes_of areas.registers; targets = areas.targets ++ areas.bindings }

-- refusal 15: "more than 1,000,000 cycles"
unfoldable pub cycles_answer : ℕ → Answer
cycles_answer n = refused_at CycleCount (at_zero_unless (leb n cycles_max))

-- check: "Every call makes the image checks .. first"
unfoldable pub check : List ℕ → Answer
check image = verdict image

-- Two calls of ours beside 01's: the length in bytes of each area that an image asks for, as the count, so that no host has to decode an image.
unfoldable pub registers_length : List ℕ → Answer
registers_length image = verdict image before Accepted (word_length * length (design_of image).registers)

unfoldable pub targets_length : List ℕ → Answer
targets_length image = verdict image before Accepted (target_length * length (design_of image).states)

module _ (image : List ℕ) (lent : Lent) where
  -- "A call that overwrites whole areas .. judges only their lengths."
  unfoldable pub reset_answer : Answer
  reset_answer = verdict image before length_answer (design_of image) lent

  unfoldable pub reset : Left Lent
  reset = leaves reset_answer lent (lent_of (reset_areas (design_of image)))

  -- "Run answers the cycles done, always the number requested"
  unfoldable pub run_answer : ℕ → Answer
  run_answer n =
      verdict image
      before length_answer (design_of image) lent
      before contents_answer (design_of image) lent.registers
      before targets_answer (design_of image) lent
      before bindings_answer (design_of image) lent
      before cycles_answer n
      before Accepted n

  unfoldable pub run : ℕ → Left Lent
  run n = leaves (run_answer n) lent (lent_of (after_cycles (design_of image) n (areas_of (design_of image) lent)))

-- port write: "it takes the register area only"
module _ (image registers : List ℕ) (r v : ℕ) where
  -- "port write judges 14 before 13"
  unfoldable pub write_port_answer : Answer
  write_port_answer =
      verdict image
      before register_area_answer (design_of image) registers
      before contents_answer (design_of image) registers
      before port_answer (design_of image) r
      before value_answer (design_of image) r v

  -- "An accepted port write sets its register to its value and changes nothing else."
  unfoldable pub write_port : Left (List ℕ)
  write_port = leaves write_port_answer registers (bytes_of (set (words_of (length (design_of image).registers) registers) r v))
