-- What each call leaves, case by case of what it judged: a refusal leaves the areas as they were lent, and the bytes of an area of the right length are
-- those of its values.
use Rattle.std.specs.Prelude.{Err}
use Prim.Native.Nat.{ℕ, ◌+◌, ◌*◌, ◌^◌, ◌≤◌, ◌<◌}
use mathlib.Core.Path.{◌≡◌, sym, ◌∙◌, ap}
use mathlib.Core.Bool.{Bool, true, false, not, ◌&&◌}
use mathlib.Core.List.{List}
use native.Mathlib.Omega.{arith}
use lib.Dec.{eqb, ltb}
use lib.ListN.{length, set}
use borrow.Author.Tests.{eq-eqb, eqb-true, ltb-true, lt-ltb, le-ltb}
use mir.Syntax.{w64}
use mir.Val.{Fits}
use Rattle.model.specs.declared.RefusedAt.{RefusedAt}
use Rattle.model.specs.declared.Refusal.TheVariants.{NoPort, Area, PortValue}
use Rattle.model.specs.Limits.{word_length, target_length}
use Rattle.model.specs.Image.{Design as Table, Register, AreBytes, design_of, register_at}
use Rattle.model.specs.States.{is_port}
use Rattle.model.specs.Answers.{Answer, Accepted, Refused}
use Rattle.model.specs.Verdict.{verdict, refused_at, ◌before◌}
use Rattle.model.specs.Values.{fits, words_of, bytes_of}
use Rattle.model.specs.Machine.{reset_areas}
use Rattle.model.specs.Calls.{Lent, Left, length_answer, register_area_answer, contents_answer, is_writable, port_answer, value_answer, cycles_answer, lent_of, registers_length, targets_length, reset_answer, reset, run_answer, run, write_port_answer, write_port, left_as}
use Rattle.model.proofs.Laws.Booleans.{not_true, not_false, and_first, and_second}
use Rattle.model.proofs.Laws.Words.{bytes_of_words}
use Rattle.design.specs.declared.Design.{Design}
use Rattle.design.specs.Records.{register_in}
use Rattle.design.specs.Describes.{Describes}
use Rattle.design.specs.Kept.{RecordsKept}
use Rattle.design.specs.Words.{put_word}
use Rattle.design.specs.Resets.{lends}
use Rattle.design.proofs.Laws.{registers_count, registers_most, states_count, register_in_lem}
use Rattle.design.proofs.ResetRules.{states_few}
use Rattle.design.proofs.WordRules.{words_put, length-put}
use Rattle.design.proofs.WidthRules.{width_is}
use Rattle.running.specs.Stages.{sound_on, run_sound}
use Rattle.running.proofs.RunningRules.{sound_before}
use Rattle.calls.specs.Stages.{reset_on, write_port_on, run_on}

-- ---- the lengths that an image asks for
pub area_fits : {image : List ℕ} {x : Design} → Describes image x → Fits w64 (4 * x.registers)
area_fits d = let few = registers_most d in record { fits = omega arith }

pub registers_bytes : {image : List ℕ} {x : Design} {n : ℕ} → Describes image x → n ≡ word_length * x.registers → Accepted n ≡ Accepted (word_length * length (design_of image).registers)
registers_bytes d e = ap Accepted (rw (← registers_count d) e)

pub targets_fit : {image : List ℕ} {x : Design} → Describes image x → Fits w64 (3 * x.states)
targets_fit d = let few = states_few d in record { fits = omega arith }

pub targets_bytes : {image : List ℕ} {x : Design} {n : ℕ} → Describes image x → n ≡ target_length * x.states → Accepted n ≡ Accepted (target_length * length (design_of image).states)
targets_bytes d e = ap Accepted (rw (← states_count d) e)

-- ---- lengths
module _ {image : List ℕ} {x : Design} (d : Describes image x) (registers : List ℕ) {b : Bool} (e : b ≡ eqb (length registers) (4 * x.registers)) where
  area_is : eqb (length registers) (4 * length (design_of image).registers) ≡ b
  area_is = rw (← registers_count d) (sym e)

  pub area_long : not b ≡ false → length registers ≡ 4 * x.registers
  area_long h = eqb-true (length registers) (4 * x.registers) (sym e ∙ not_false b h)

  pub wrong_area : not b ≡ true → register_area_answer (design_of image) registers ≡ Refused Area 0
  unfolding register_area_answer refused_at
  wrong_area h = rw (area_is, not_true b h)

  pub right_area : not b ≡ false → register_area_answer (design_of image) registers ≡ Accepted 0
  unfolding register_area_answer refused_at
  right_area h = rw (area_is, not_false b h)

-- of both areas
pub both_kept : {a b p q : Bool} → a ≡ p → b ≡ q → (a && b) ≡ (p && q)
both_kept h k = rw (h, k)

module _ {image : List ℕ} {x : Design} (d : Describes image x) (registers targets : List ℕ) {b : Bool} (e : b ≡ (eqb (length registers) (4 * x.registers) && eqb (length targets) (3 * x.states))) where
  pub wrong_lengths : not b ≡ true → length_answer (design_of image) (lends registers targets) ≡ Refused Area 0
  unfolding length_answer refused_at
  wrong_lengths h =
      let both : (eqb (length registers) (4 * length (design_of image).registers) && eqb (length targets) (3 * length (design_of image).states)) ≡ b = rw (← registers_count d, ← states_count d) (sym e) in
      rw (both, not_true b h)

  pub registers_long : not b ≡ false → length registers ≡ 4 * x.registers
  registers_long h = eqb-true (length registers) (4 * x.registers) (and_first (eqb (length registers) (4 * x.registers)) (eqb (length targets) (3 * x.states)) (sym e ∙ not_false b h))

  pub targets_long : not b ≡ false → length targets ≡ 3 * x.states
  targets_long h = eqb-true (length targets) (3 * x.states) (and_second (eqb (length registers) (4 * x.registers)) (eqb (length targets) (3 * x.states)) (sym e ∙ not_false b h))

pub right_lengths : {image : List ℕ} {x : Design} (registers targets : List ℕ) → Describes image x → length registers ≡ 4 * x.registers → length targets ≡ 3 * x.states → length_answer (design_of image) (lends registers targets) ≡ Accepted 0
unfolding length_answer refused_at
right_lengths {image} registers targets d h k =
    let count = registers_count d in
    let states = states_count d in
    rw
    (eq-eqb (length registers) (4 * length (design_of image).registers) (omega arith), eq-eqb (length targets) (3 * length (design_of image).states) (omega arith))

-- ---- reset
pub reset_refuses : (d : Table) (registers targets : List ℕ) → length_answer d (lends registers targets) ≡ Refused Area 0 → left_as (Refused Area 0) (lends registers targets) ≡ reset_on d (lends registers targets)
unfolding reset_on
reset_refuses d registers targets h = rw h

pub reset_makes : (d : Table) (registers targets registers₀ targets₀ : List ℕ) → length_answer d (lends registers₀ targets₀) ≡ Accepted 0 → lends registers targets ≡ lent_of (reset_areas d)
    → left_as (Accepted 0) (lends registers targets) ≡ reset_on d (lends registers₀ targets₀)
unfolding reset_on
reset_makes d registers targets registers₀ targets₀ h k = rw h (ap (λ (lent : Lent). record { answer = Accepted 0; lent = lent }) k)

-- ---- port write
pub no_register_lem : {image : List ℕ} {x : Design} {r : ℕ} → Describes image x → x.registers ≤ r → false ≡ is_writable (design_of image) r
unfolding is_writable
no_register_lem {image} {x} {r} d l = let count = registers_count d in rw (le-ltb r (length (design_of image).registers) (omega arith))

pub port_rule : {image : List ℕ} {x : Design} {r k : ℕ} → Describes image x → r < x.registers → k ≡ (register_in image x.registers_at r).kind → eqb k 1 ≡ is_writable (design_of image) r
unfolding is_writable
port_rule {image} {x} {r} {k} d l e =
    let count = registers_count d in
    let is : k ≡ (register_at (design_of image) r).kind = e ∙ ap (λ (y : Register). y.kind) (register_in_lem d l) in
    rw (lt-ltb r (length (design_of image).registers) (omega arith), is)

module _ (d : Table) (r : ℕ) {w : Bool} (e : w ≡ is_writable d r) where
  pub port_refuses : not w ≡ true → port_answer d r ≡ Refused NoPort r
  unfolding port_answer refused_at
  port_refuses h = rw (← e, not_true w h)

  pub port_accepts : not w ≡ false → port_answer d r ≡ Accepted 0
  unfolding port_answer refused_at
  port_accepts h = rw (← e, not_false w h)

  pub port_there : not w ≡ false → r < length d.registers
  unfolding is_writable
  port_there h = ltb-true r (length d.registers) (and_first (ltb r (length d.registers)) (is_port d r) (sym e ∙ not_false w h))

-- ---- port write, behind the contents
module _ (d : Table) (registers : List ℕ) (r v : ℕ) where
  pub write_refuses : register_area_answer d registers ≡ Refused Area 0 → left_as (Refused Area 0) registers ≡ write_port_on d registers r v
  unfolding write_port_on ◌before◌
  write_refuses h = rw h

  module _ (right : register_area_answer d registers ≡ Accepted 0) where
    pub write_refuses_contents : {why : RefusedAt} → contents_answer d registers ≡ Err why → left_as (Err why) registers ≡ write_port_on d registers r v
    unfolding write_port_on ◌before◌
    write_refuses_contents h = rw (right, h)

    module _ (fit : contents_answer d registers ≡ Accepted 0) where
      pub write_refuses_port : {why : RefusedAt} → why ≡ record { refusal = NoPort; place = r } → port_answer d r ≡ Refused NoPort r → left_as (Err why) registers ≡ write_port_on d registers r v
      unfolding write_port_on ◌before◌
      write_refuses_port told h = rw (right, fit, h, told)

      pub write_refuses_value : {why : RefusedAt} → why ≡ record { refusal = PortValue; place = r } → port_answer d r ≡ Accepted 0 → value_answer d r v ≡ Refused PortValue r → left_as (Err why) registers ≡ write_port_on d registers r v
      unfolding write_port_on ◌before◌
      write_refuses_value told h k = rw (right, fit, h, k, told)

-- an area of the right length, as a port write judges it
pub long_area : {image : List ℕ} {x : Design} (registers : List ℕ) → Describes image x → length registers ≡ 4 * x.registers → register_area_answer (design_of image) registers ≡ Accepted 0
unfolding register_area_answer refused_at
long_area {image} registers d h = let count = registers_count d in rw (eq-eqb (length registers) (4 * length (design_of image).registers) (omega arith))

module _ {image : List ℕ} {x : Design} (known : RecordsKept image x) (r : ℕ) {w : Bool} (p : w ≡ is_writable (design_of image) r) (q : not w ≡ false) where
  pub port_register : r < x.registers
  port_register = let count = registers_count known.describes in let there = port_there (design_of image) r p q in omega arith

  pub port_word : (registers : List ℕ) → length registers ≡ 4 * x.registers → 4 * r + 4 ≤ length registers
  port_word registers area = let there = port_register in omega arith

  module _ {m : ℕ} (v : ℕ) {b : Bool} (h : m ≡ (register_in image x.registers_at r).width) (e : b ≡ ltb v (2 ^ m)) where
    fits_is : fits (design_of image).registers r v ≡ b
    fits_is = rw (← width_is known port_register h) (sym e)

    pub value_refuses : not b ≡ true → value_answer (design_of image) r v ≡ Refused PortValue r
    unfolding value_answer refused_at
    value_refuses k = rw (fits_is, not_true b k)

    pub value_accepts : not b ≡ false → value_answer (design_of image) r v ≡ Accepted 0
    unfolding value_answer refused_at
    value_accepts k = rw (fits_is, not_false b k)

    pub write_makes : (registers after : List ℕ) → not b ≡ false → after ≡ put_word registers r v → AreBytes after → length registers ≡ 4 * x.registers
        → contents_answer (design_of image) registers ≡ Accepted 0
        → v < 2 ^ 32
        → left_as (Accepted 0) after ≡ write_port_on (design_of image) registers r v
    unfolding write_port_on ◌before◌
    write_makes registers after k wrote bytes area fit small =
        let n = length (design_of image).registers in
        let count = registers_count known.describes in
        let same : length after ≡ length registers = ap (λ (area : List ℕ). length area) wrote ∙ length-put registers r v in
        let words : words_of n after ≡ set (words_of n registers) r v = ap (words_of n) wrote ∙ words_put registers (port_there (design_of image) r p q) (omega arith) small in
        let made : after ≡ bytes_of (set (words_of n registers) r v) = sym (bytes_of_words n after bytes (omega arith)) ∙ ap bytes_of words in
        rw
        (long_area registers known.describes area, fit, port_accepts (design_of image) r p q, value_accepts k)
        (ap (λ (area : List ℕ). left_as (Accepted 0) area) made)

-- ---- run
pub run_refuses : (d : Table) (registers targets : List ℕ) (n : ℕ) → length_answer d (lends registers targets) ≡ Refused Area 0 → left_as (Refused Area 0) (lends registers targets) ≡ run_on d (lends registers targets) n
unfolding run_on ◌before◌
run_refuses d registers targets n h = rw h

-- ---- run, behind the lengths
module _ (d : Table) (registers targets : List ℕ) (n : ℕ) {a : Answer} where
  pub run_passes : {left : Left Lent} {c : ℕ} → left ≡ run_sound d (lends registers targets) n → a ≡ Accepted c → a ≡ sound_on d (lends registers targets) → length_answer d (lends registers targets) ≡ Accepted 0 → left ≡ run_on d (lends registers targets) n
  unfolding run_on run_sound ◌before◌
  run_passes k h judged right = rw (right, ← judged, h) k

-- ---- the image first
module _ (image : List ℕ) {a : Answer} (e : a ≡ verdict image) where
  module _ {why : RefusedAt} (h : a ≡ Err why) where
    pub refused_reset : (registers targets : List ℕ) → left_as (Err why) (lends registers targets) ≡ reset image (lends registers targets)
    unfolding reset reset_answer ◌before◌
    refused_reset registers targets = rw (← e, h)

    pub refused_write : (registers : List ℕ) (n v : ℕ) → left_as (Err why) registers ≡ write_port image registers n v
    unfolding write_port write_port_answer ◌before◌
    refused_write registers n v = rw (← e, h)

    pub refused_registers_length : Err why ≡ registers_length image
    unfolding registers_length ◌before◌
    refused_registers_length = rw (← e, h)

    pub refused_targets_length : Err why ≡ targets_length image
    unfolding targets_length ◌before◌
    refused_targets_length = rw (← e, h)

    pub refused_run : (registers targets : List ℕ) (n : ℕ) → left_as (Err why) (lends registers targets) ≡ run image (lends registers targets) n
    unfolding run run_answer ◌before◌
    refused_run registers targets n = rw (← e, h)

  module _ {c : ℕ} (h : a ≡ Accepted c) where
    pub accepted_registers_length : {b : Answer} → b ≡ Accepted (word_length * length (design_of image).registers) → b ≡ registers_length image
    unfolding registers_length ◌before◌
    accepted_registers_length k = rw (← e, h) k

    pub accepted_targets_length : {b : Answer} → b ≡ Accepted (target_length * length (design_of image).states) → b ≡ targets_length image
    unfolding targets_length ◌before◌
    accepted_targets_length k = rw (← e, h) k

    pub accepted_reset : {left : Left Lent} (lent : Lent) → left ≡ reset_on (design_of image) lent → left ≡ reset image lent
    unfolding reset reset_answer reset_on ◌before◌
    accepted_reset lent k = rw (← e, h) k

    pub accepted_write : {left : Left (List ℕ)} (registers : List ℕ) (r v : ℕ) → left ≡ write_port_on (design_of image) registers r v → left ≡ write_port image registers r v
    unfolding write_port write_port_answer write_port_on ◌before◌
    accepted_write registers r v k = rw (← e, h) k

    pub accepted_run : {left : Left Lent} (lent : Lent) (n : ℕ) → left ≡ run_on (design_of image) lent n → left ≡ run image lent n
    unfolding run run_answer run_on ◌before◌
    accepted_run lent n k = rw (← e, h, ← sound_before (design_of image) lent (cycles_answer n before Accepted n)) k
