-- What is promised about the meaning, each promise restated in full and closed by one citation. The promises about the code that runs are equations
-- with the same definitions and stand in the contracts of the crates above this one.
use mathlib.Core.Path.{◌≡◌}
use mathlib.Core.Logic.{◌↔◌}
use mathlib.Core.List.{List}
use Prim.Native.Nat.{ℕ, ◌+◌, ◌-◌, ◌*◌, ◌^◌, ◌≤◌, ◌<◌}
use lib.ListN.{length}
use Rattle.model.specs.declared.Refusal.{Refusal}
use Rattle.model.specs.Limits.{cycles_max, word_length, target_length}
use Rattle.model.specs.Image.{AreBytes, design_of}
use Rattle.model.specs.Answers.{Accepted, number_of, numbers_of}
use Rattle.model.specs.Rules.{Keeps}
use Rattle.model.specs.Ports.{PortsKept}
use Rattle.model.specs.Calls.{Lent, check, registers_length, targets_length, write_port, run}
use Rattle.model.specs.Refusals.{AllKept, FirstBroken, image_table, call_table, call_count, AnswersBy, in_numbers, Exactly, WithinWidths}
use Rattle.model.specs.Rounding.{RoundedDown, RoundedTowardZero}
use Rattle.model.specs.Signed.{signed_value, shift_count, shifted_right, divided_signed}
use Rattle.model.specs.Verdict.{verdict}
use Rattle.model.specs.Parties.{Call, perform, at_end, Beginning, start, Independent, IndependentWidely}
use Rattle.model.proofs.Exact.{check_exact}
use Rattle.model.proofs.Refused.{keeps_table, check_answers, registers_length_answers, targets_length_answers, call_exactly}
use Rattle.model.proofs.Independence.Theorem.{independent}
use Rattle.model.proofs.Independence.Theorem as theorem
use Rattle.model.proofs.Grouping.{Grouped, grouped, none_left}
use Rattle.model.proofs.Writing.{ChangesOnly, changes_only}
use Rattle.model.proofs.Ports.{run_keeps_ports}
use Rattle.model.proofs.Widths.{accepted_within, list_within}
use Rattle.model.proofs.Signed.{shift_rounds_down, division_rounds_toward_zero, lowest_divided, zero_divisor}

-- Demand 2, for check: an image is accepted, with number 0, place 0 and count 0, exactly when it keeps the rules.
pub accepted_exactly : (image : List ℕ) → (numbers_of (check image) ≡ record { number = 0; place = 0; count = 0 }) ↔ Keeps image
accepted_exactly = check_exact

-- Refusals are as exact: check answers a number and a place exactly when all rules before it in the table are kept everywhere, and the place is the lowest
-- at which this rule is broken.
pub refused_exactly :
    (image : List ℕ) (refusal : Refusal) (place : ℕ)
    → (numbers_of (check image) ≡ record { number = number_of refusal; place = place; count = 0 }) ↔ FirstBroken (image_table image) refusal place
refused_exactly image = (check_answers image).refused

-- An image keeps the rules exactly when no rule of the table is broken.
pub keeps_exactly : (image : List ℕ) → Keeps image ↔ AllKept (image_table image)
keeps_exactly = keeps_table

-- The other calls, each by its own table: accepted with its count exactly when every rule is kept, refused exactly by the first that is broken.
-- Demand 1: "No lent byte changes" on a refusal.
pub calls_exactly : (image : List ℕ) (lent : Lent) (call : Call) → Exactly (call_table image lent call) (call_count call) lent (in_numbers (perform image lent call))
calls_exactly = call_exactly

-- The lengths of the areas: an accepted image's, as the count, and else the image's refusal.
pub registers_length_exactly : (image : List ℕ) → AnswersBy (image_table image) (word_length * length (design_of image).registers) (numbers_of (registers_length image))
registers_length_exactly = registers_length_answers

pub targets_length_exactly : (image : List ℕ) → AnswersBy (image_table image) (target_length * length (design_of image).states) (numbers_of (targets_length image))
targets_length_exactly = targets_length_answers

-- Demand 3: "Matching lists have equal views, and equal registers at or below the level at their end."
pub independent_parties : Independent
independent_parties = independent

-- 02, E8, and more than it asks: the same of the view that shows of each state all registers bound in its scope, to the parameters of the states around it too.
pub independent_widely : IndependentWidely
independent_widely = theorem.independent_widely

-- "An accepted run of n counts as n cycles": so a run may be cut. A run of n and then one of m leave what one of n + m leaves; all three are accepted, each
-- with its count, or all are refused alike.
pub runs_grouped : (image : List ℕ) (lent : Lent) (n m : ℕ) → n + m ≤ cycles_max
    → ((run image (run image lent n).lent m).lent ≡ (run image lent (n + m)).lent)
    × Grouped n m (numbers_of (run image lent n).answer) (numbers_of (run image (run image lent n).lent m).answer) (numbers_of (run image lent (n + m)).answer)
runs_grouped = grouped

-- "with 0 it changes nothing", accepted or refused
pub run_of_none : (image : List ℕ) (lent : Lent) → AreBytes lent.registers → (run image lent 0).lent ≡ lent
run_of_none = none_left

-- "An accepted port write sets its register to its value and changes nothing else": whatever it answers, no byte outside its register's four changes, and
-- where it is accepted these four are those of the value.
pub write_changes_only : (image registers : List ℕ) → AreBytes registers → (r v : ℕ)
    → ChangesOnly r v registers (numbers_of (write_port image registers r v).answer) (write_port image registers r v).lent
write_changes_only = changes_only

-- 02, E1, "Ports belong to the host": a run of any number of cycles, whatever it answers, leaves every byte of every port.
pub ports_kept : (image : List ℕ) (lent : Lent) → AreBytes lent.registers → (n : ℕ) → PortsKept (design_of image) lent.registers (run image lent n).lent.registers
ports_kept = run_keeps_ports

-- 02, E2: an accepted reset, port write or run leaves every register within its width, whatever the areas held before.
pub within_widths : (image : List ℕ) (lent : Lent) (call : Call) → (numbers_of (perform image lent call).answer).number ≡ 0 → WithinWidths (design_of image) (perform image lent call).lent.registers
within_widths = accepted_within

-- So in a list that starts as demand 3 has it the contents are never at fault: after any calls every register is within its width.
pub lists_within_widths : (image : List ℕ) → verdict image ≡ Accepted 0 → (level : ℕ) (begins : Beginning (design_of image)) (calls : List Call)
    → WithinWidths (design_of image) (at_end image (start image level begins) calls).registers
lists_within_widths = list_within

-- 02, E3, "arithmetic right shift": the integer of the result is the part's, divided by 2 to the power of the count and rounded down.
pub shifts_round_down : (x y : ℕ) → x < 2 ^ 32 → RoundedDown (signed_value x) (2 ^ shift_count y) (signed_value (shifted_right x y))
shifts_round_down = shift_rounds_down

-- 02, E3, "Division rounds toward zero", for all but the two pairs that 02 names: the lowest value by minus one, and a zero divisor.
pub divisions_round_toward_zero : (x y : ℕ) → x < 2 ^ 32 → y < 2 ^ 32 → (x ≡ 2 ^ 31 → y ≡ 2 ^ 32 - 1 → ⊥) → (y ≡ 0 → ⊥)
    → RoundedTowardZero (signed_value x) (signed_value y) (signed_value (divided_signed x y))
divisions_round_toward_zero = division_rounds_toward_zero

-- "the lowest value divided by minus one gives the lowest value again"
pub lowest_by_minus_one : divided_signed (2 ^ 31) (2 ^ 32 - 1) ≡ 2 ^ 31
lowest_by_minus_one = lowest_divided

-- "a zero divisor gives 0"
pub none_by_zero : (x : ℕ) → divided_signed x 0 ≡ 0
none_by_zero = zero_divisor
