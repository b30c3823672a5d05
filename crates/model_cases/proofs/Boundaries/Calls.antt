-- Cases at the boundaries of the calls: what 01's sections 'A cycle' and 'When the box says no' say of them, with refusals 13 to 15.
use mathlib.Core.Path.{◌≡◌, refl}
use mathlib.Core.List.{[], ◌∷◌, ◌++◌, map}
use lib.ListN.{replicate}
use Rattle.model.specs.declared.Refusal.TheVariants.{AssignFlow, Area, CycleCount}
use Rattle.model.specs.Answers.{Accepted, Refused}
use Rattle.model.specs.Answers.{numbers_of}
use Rattle.model.specs.Calls.{Lent, check, registers_length, targets_length, run_answer}
use Rattle.model.specs.Parties.{resets, writes, runs, perform}
use Rattle.model.proofs.Opened.{everything, accepted, refused, told, lent, lent_bound, any_lent, reset_lent, short_lent, groups_lent}
use Rattle.model.proofs.Designs.{lease, two_groups, smallest, high_to_low}

-- "Every call makes the image checks .. first": check too, and every call where areas, register and count are right
shows_check_refuses : numbers_of (check high_to_low) ∷ numbers_of (check []) ∷ [] ≡ refused 10 1 ∷ refused 1 0 ∷ []
shows_check_refuses = unfold everything in refl

-- areas of the right lengths for an image of two registers and two states, with sound targets
abbrev two_states : Lent
two_states = lent (replicate 8 9) (1 ∷ 1 ∷ [])

shows_image_judged
    : map (λ call. told (perform high_to_low two_states call)) (resets ∷ writes 1 7 ∷ runs 0 ∷ runs 1 ∷ [])
    ≡ (refused 10 1, two_states) ∷ (refused 10 1, two_states) ∷ (refused 10 1, two_states) ∷ (refused 10 1, two_states) ∷ []
shows_image_judged = unfold everything in refl

-- "The lowest number that applies comes first": an image check before 15, and a wrong length before 15
shows_10_before_15 : run_answer high_to_low two_states 1000001 ≡ Refused AssignFlow 1
shows_10_before_15 = unfold everything in refl

shows_length_before_15 : run_answer lease short_lent 1000001 ≡ Refused Area 0
shows_length_before_15 = unfold everything in refl

-- "No lent byte changes": areas of wrong lengths, with bytes that a reset would not leave, and with targets that are unsound from state 2 on
abbrev short_targets : Lent
short_targets = lent_bound (replicate 8 9) (1 ∷ 1 ∷ 9 ∷ 9 ∷ 9 ∷ []) (replicate 9 9)

abbrev many_targets : Lent
many_targets = lent_bound (replicate 8 9) (1 ∷ 1 ∷ 9 ∷ 9 ∷ 9 ∷ []) (replicate 11 9)

abbrev short_registers : Lent
short_registers = lent (replicate 7 9) (1 ∷ 1 ∷ 9 ∷ 9 ∷ 9 ∷ [])

-- 14, "area length", of the targets: too short, and too long; "a wrong length comes first, with place 0", before the unsound targets here
shows_short_targets
    : map (λ call. told (perform lease short_targets call)) (resets ∷ runs 0 ∷ runs 1 ∷ [])
    ≡ (refused 14 0, short_targets) ∷ (refused 14 0, short_targets) ∷ (refused 14 0, short_targets) ∷ []
shows_short_targets = unfold everything in refl

-- the same where every target that is there is sound
shows_short_sound_targets
    : map (λ call. numbers_of (perform lease (lent_bound (replicate 8 9) (1 ∷ 1 ∷ 3 ∷ 3 ∷ 4 ∷ []) (replicate 9 0)) call).answer) (resets ∷ runs 0 ∷ runs 1 ∷ [])
    ≡ refused 14 0 ∷ refused 14 0 ∷ refused 14 0 ∷ []
shows_short_sound_targets = unfold everything in refl

shows_long_targets
    : map (λ call. told (perform lease many_targets call)) (resets ∷ runs 0 ∷ runs 1 ∷ [])
    ≡ (refused 14 0, many_targets) ∷ (refused 14 0, many_targets) ∷ (refused 14 0, many_targets) ∷ []
shows_long_targets = unfold everything in refl

-- and of the registers, by one byte: targets that are not sound come after it
shows_short_registers
    : map (λ call. told (perform lease short_registers call)) (resets ∷ writes 1 7 ∷ runs 0 ∷ runs 1 ∷ [])
    ≡ (refused 14 0, short_registers) ∷ (refused 14 0, short_registers) ∷ (refused 14 0, short_registers) ∷ (refused 14 0, short_registers) ∷ []
shows_short_registers = unfold everything in refl

-- a piece of one more register is as wrong
shows_piece_of_register
    : map (λ call. numbers_of (perform lease (lent (replicate 11 9) (1 ∷ 1 ∷ 3 ∷ 3 ∷ 4 ∷ [])) call).answer) (resets ∷ writes 1 7 ∷ runs 1 ∷ [])
    ≡ refused 14 0 ∷ refused 14 0 ∷ refused 14 0 ∷ []
shows_piece_of_register = unfold everything in refl

-- port write "takes the register area only": it judges no target, and leaves them all
shows_write_any_targets : told (perform lease any_lent (writes 1 7)) ≡ (accepted 0, lent_bound (9 ∷ 9 ∷ 9 ∷ 9 ∷ 7 ∷ 0 ∷ 0 ∷ 0 ∷ []) (replicate 15 9) [])
shows_write_any_targets = unfold everything in refl

-- "sets its register to its value": all 32 bits of it; 02, E2: a value that does not fit is refused by 17
shows_write_largest
    : told (perform lease any_lent (writes 1 4294967295)) ≡ (accepted 0, lent_bound (9 ∷ 9 ∷ 9 ∷ 9 ∷ 255 ∷ 255 ∷ 255 ∷ 255 ∷ []) (replicate 15 9) [])
shows_write_largest = unfold everything in refl

shows_write_33_bits
    : told (perform lease any_lent (writes 1 4294967301)) ≡ (refused 17 1, any_lent)
shows_write_33_bits = unfold everything in refl

-- 13: "the place is the register number given", also where its low byte is a port's number
shows_register_257 : told (perform lease any_lent (writes 257 7)) ≡ (refused 13 257, any_lent)
shows_register_257 = unfold everything in refl

-- 13: "no such register, or inner": of four registers the last two are ports
shows_ports
    : map (λ r. numbers_of (perform two_groups groups_lent (writes r 7)).answer) (0 ∷ 1 ∷ 2 ∷ 3 ∷ 4 ∷ 5 ∷ [])
    ≡ refused 13 0 ∷ refused 13 1 ∷ accepted 0 ∷ accepted 0 ∷ refused 13 4 ∷ refused 13 5 ∷ []
shows_ports = unfold everything in refl

-- "and changes nothing else": neither the registers before it nor the one behind it
shows_write_between
    : told (perform two_groups groups_lent (writes 2 7)) ≡ (accepted 0, lent_bound (replicate 8 9 ++ (7 ∷ 0 ∷ 0 ∷ 0 ∷ 9 ∷ 9 ∷ 9 ∷ 9 ∷ [])) (replicate 24 9) [])
shows_write_between = unfold everything in refl

-- 15: "more than 1,000,000 cycles", also where few of the count's bits would be a lower count
shows_count_33_bits : run_answer lease reset_lent 4294967297 ≡ Refused CycleCount 0
shows_count_33_bits = unfold everything in refl

-- "Run answers the cycles done, always the number requested"
shows_counts : map (run_answer lease reset_lent) (0 ∷ 1 ∷ 2 ∷ 999999 ∷ []) ≡ Accepted 0 ∷ Accepted 1 ∷ Accepted 2 ∷ Accepted 999999 ∷ []
shows_counts = unfold everything in refl

-- "with 0 it changes nothing": areas that are not as reset leaves them
abbrev some_lent : Lent
some_lent = lent_bound (1 ∷ 2 ∷ 3 ∷ 4 ∷ 5 ∷ 6 ∷ 7 ∷ 8 ∷ []) (2 ∷ 1 ∷ 4 ∷ 3 ∷ 4 ∷ []) (replicate 10 1)

shows_run_of_0 : told (perform lease some_lent (runs 0)) ≡ (accepted 0, some_lent)
shows_run_of_0 = unfold everything in refl

-- the lengths of the areas: 4 bytes for each of two and of four registers, since E8 three for each of five and of eight states, none for no register
shows_registers_length : map (λ image. numbers_of (registers_length image)) (lease ∷ two_groups ∷ smallest ∷ []) ≡ accepted 8 ∷ accepted 16 ∷ accepted 0 ∷ []
shows_registers_length = unfold everything in refl

shows_targets_length : map (λ image. numbers_of (targets_length image)) (lease ∷ two_groups ∷ smallest ∷ []) ≡ accepted 15 ∷ accepted 24 ∷ accepted 6 ∷ []
shows_targets_length = unfold everything in refl

-- and the image's refusal
shows_lengths_refused
    : map numbers_of (registers_length high_to_low ∷ targets_length high_to_low ∷ registers_length [] ∷ targets_length [] ∷ [])
    ≡ refused 10 1 ∷ refused 10 1 ∷ refused 1 0 ∷ refused 1 0 ∷ []
shows_lengths_refused = unfold everything in refl
