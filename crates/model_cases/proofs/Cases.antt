-- The table of proved cases: document 01's P1 to P10, its examples and document 02's, and the small points that are decided. Each holds because both sides compute to the same.
use Rattle.std.specs.Prelude.{Some, None}
use Prim.Native.Nat.{ℕ, ◌+◌}
use mathlib.Core.Path.{◌≡◌, refl, ap}
use mathlib.Core.List.{List, [], ◌∷◌, ◌++◌, map}
use lib.ListN.{length, replicate, get_or, drop}
use Rattle.model.specs.declared.Refusal.TheVariants.{Depth, Shape, Area, CycleCount}
use Rattle.model.specs.Image.{Labels, Registers, States, Commands, Expressions, design_of}
use Rattle.model.specs.States.{default_target}
use Rattle.model.specs.Kinds.{add, subtract, bitwise_and, bitwise_or, bitwise_xor, equal, less}
use Rattle.model.specs.Trees.{constant, register, binary, skip, assign, sequence, fall, goto, expr_of, expr_depth, cmd_depth}
use Rattle.model.specs.Answers.{Accepted, Refused, numbers_of}
use Rattle.model.specs.Verdict.{verdict}
use Rattle.model.specs.Values.{apply}
use Rattle.model.specs.Machine.{gone_to, cycle, after_cycles}
use Rattle.model.specs.Calls.{leaves, areas_of, lent_of, check, reset, run_answer, run}
use Rattle.model.specs.Listing.{bytes_of_text, decimal, lines, listing}
use Rattle.model.specs.Parties.{Call, RanState, Seen, resets, writes, runs, perform, events, at_end, view, cycles_of}
use Rattle.model.proofs.Opened.{checks, everything, sights, accepted, refused, judged, told, lent, lent_bound, areas, fault_of_rows, walks, pair_of, any_lent, reset_lent, short_lent, long_lent, long_targets, unsound_lent, groups_lent, one_group_lent}
use Rattle.model.proofs.Designs.{lease, deep, deep_condition, two_groups, one_group, tower, of_rows, smallest, kind_two, own_parent, no_commands, kind_six, expression_kind_twelve, shared_command, twice_in_sequence, half_transferring, half_inside, transfers_first, only_skips, root_goes, goto_root, root_alone, port_assigned, low_under_high, high_to_low, across_labels, secret_branch, flat_lease, secret_gotos, goto_below_assign, secret_falls, fall_or_goto}

-- 01, 'Proved cases, one table'.

-- "(P1) the four lines"
p1_listing : listing (4 ∷ 0 ∷ lease) ≡ bytes_of_text "cycle;walk;registers\n1;0 1;3 0\n2;0 2 3;2 0\n3;0 2 3;1 0\n4;0 2;0 0\n"
p1_listing = unfold everything in refl

-- "(P2) with r1 = 7 after reset, cycle 3 walks 0 2 4"
p2_walks
    : walks (events lease any_lent (resets ∷ writes 1 7 ∷ runs 3 ∷ [])) ≡ (0 ∷ 1 ∷ []) ∷ (0 ∷ 2 ∷ 3 ∷ []) ∷ (0 ∷ 2 ∷ 4 ∷ []) ∷ []
p2_walks = unfold everything in refl

-- "(P3) targets 1 1 4 3 4 become 2 1 3 3 4 in a cycle"
p3_targets : (cycle (design_of lease) (areas (3 ∷ 0 ∷ []) (1 ∷ 1 ∷ 4 ∷ 3 ∷ 4 ∷ []))).after.targets ≡ 2 ∷ 1 ∷ 3 ∷ 3 ∷ 4 ∷ []
p3_targets = unfold everything in refl

-- P3 as a call, and all that it leaves
p3_run
    : told (run lease (lent (3 ∷ 0 ∷ 0 ∷ 0 ∷ 0 ∷ 0 ∷ 0 ∷ 0 ∷ []) (1 ∷ 1 ∷ 4 ∷ 3 ∷ 4 ∷ [])) 1)
    ≡ (accepted 1, lent (3 ∷ 0 ∷ 0 ∷ 0 ∷ 0 ∷ 0 ∷ 0 ∷ 0 ∷ []) (2 ∷ 1 ∷ 3 ∷ 3 ∷ 4 ∷ []))
p3_run = unfold everything in refl

-- "(P4) 0 - 1 is 4,294,967,295"
p4_subtract : apply subtract 0 1 ≡ 4294967295
p4_subtract = unfold everything in refl

-- "(P5) 63 nested sums have depth 64, accepted"
p5_depth : expr_depth (expr_of (design_of (deep 63)) 126) ≡ 64
p5_depth = unfold checks in refl

p5_accepted : verdict (deep 63) ≡ Accepted 0
p5_accepted = unfold checks in refl

-- "(P6) 64 such, refused": by 7, at expression 128
p6_refused : verdict (deep 64) ≡ Refused Depth (1024 + 128)
p6_refused = unfold checks in refl

-- "(P7) one label, row 1, is a lattice"
p7_rows : fault_of_rows (1 ∷ []) ≡ None
p7_rows = unfold checks in refl

-- "(P8) rows 15, 10, 12, 8 are a lattice"
p8_rows : fault_of_rows (15 ∷ 10 ∷ 12 ∷ 8 ∷ []) ≡ None
p8_rows = unfold checks in refl

-- "(P9) rows 7, 2, 4 are not": labels 1 and 2 have no common label above
p9_rows : fault_of_rows (7 ∷ 2 ∷ 4 ∷ []) ≡ Some 1
p9_rows = unfold checks in refl

-- "(P10) goto 0 from state 1 is refused by 8"
p10_refused : verdict goto_root ≡ Refused Shape 1
p10_refused = unfold checks in refl

-- the ten in one, in 01's order
pub proved_cases
    : (listing (4 ∷ 0 ∷ lease) ≡ bytes_of_text "cycle;walk;registers\n1;0 1;3 0\n2;0 2 3;2 0\n3;0 2 3;1 0\n4;0 2;0 0\n")
    × (walks (events lease any_lent (resets ∷ writes 1 7 ∷ runs 3 ∷ [])) ≡ (0 ∷ 1 ∷ []) ∷ (0 ∷ 2 ∷ 3 ∷ []) ∷ (0 ∷ 2 ∷ 4 ∷ []) ∷ [])
    × ((cycle (design_of lease) (areas (3 ∷ 0 ∷ []) (1 ∷ 1 ∷ 4 ∷ 3 ∷ 4 ∷ []))).after.targets ≡ 2 ∷ 1 ∷ 3 ∷ 3 ∷ 4 ∷ [])
    × (apply subtract 0 1 ≡ 4294967295)
    × ((expr_depth (expr_of (design_of (deep 63)) 126) ≡ 64) × (verdict (deep 63) ≡ Accepted 0))
    × (verdict (deep 64) ≡ Refused Depth (1024 + 128))
    × (fault_of_rows (1 ∷ []) ≡ None)
    × (fault_of_rows (15 ∷ 10 ∷ 12 ∷ 8 ∷ []) ≡ None)
    × (fault_of_rows (7 ∷ 2 ∷ 4 ∷ []) ≡ Some 1)
    × (verdict goto_root ≡ Refused Shape 1)
proved_cases = (p1_listing, p2_walks, p3_targets, p4_subtract, (p5_depth, p5_accepted), p6_refused, p7_rows, p8_rows, p9_rows, p10_refused)

-- 01, 'The lease design'.

-- "208 bytes"; with 02's E2, which gives each of its two registers a byte more, and E8, which gives each of its five states five, 235
lease_length : length lease ≡ 235
lease_length = refl

-- "with pairs 20,4 24,12 36,20 56,104 160,48"; with E2 the registers take 14, and with E8 the states 45
lease_directory
    : map (pair_of lease) (Labels ∷ Registers ∷ States ∷ Commands ∷ Expressions ∷ [])
    ≡ (20, 4) ∷ (24, 14) ∷ (38, 45) ∷ (83, 104) ∷ (187, 48) ∷ []
lease_directory = refl

-- check accepts it
lease_accepted : verdict lease ≡ Accepted 0
lease_accepted = unfold checks in refl

-- "a count of 0 gives the header alone"
listing_count_0 : listing (0 ∷ 0 ∷ lease) ≡ bytes_of_text "cycle;walk;registers\n"
listing_count_0 = unfold everything in refl

-- "A refused image gives one line instead"
listing_refused : listing (4 ∷ 0 ∷ high_to_low) ≡ bytes_of_text "refused;10;1\n"
listing_refused = unfold everything in refl

-- "input under two bytes gives "refused;1;0""
listing_short_input : listing [] ∷ listing (4 ∷ []) ∷ [] ≡ bytes_of_text "refused;1;0\n" ∷ bytes_of_text "refused;1;0\n" ∷ []
listing_short_input = unfold everything in refl

-- decided: with no registers the third field is empty
listing_no_registers : listing (1 ∷ 0 ∷ smallest) ≡ bytes_of_text "cycle;walk;registers\n1;0 1;\n"
listing_no_registers = unfold everything in refl

-- "Decimal printing"
decimal_gives : decimal 0 ∷ decimal 10 ∷ decimal 4294967295 ∷ [] ≡ bytes_of_text "0" ∷ bytes_of_text "10" ∷ bytes_of_text "4294967295" ∷ []
decimal_gives = unfold everything in refl

-- 01, 'When the box says no': each row of the table by its example, and the decided points beside it.

-- "An acceptance is number 0, place 0."; decided: check answers count 0
accepted_check : numbers_of (check lease) ≡ accepted 0
accepted_check = unfold everything in refl

-- 1: "the empty image, place 0"
refusal_01_empty_image : judged [] ≡ refused 1 0
refusal_01_empty_image = unfold checks in refl

-- decided: a longer image is refused by 1
refusal_01_byte_behind_the_end : judged (lease ++ (0 ∷ [])) ≡ refused 1 0
refusal_01_byte_behind_the_end = unfold checks in refl

-- 2: "rows 1, 2: place 0"
refusal_02_rows_1_2 : judged (of_rows (1 ∷ 2 ∷ [])) ≡ refused 2 0
refusal_02_rows_1_2 = unfold checks in refl

-- decided, the lowest i over all rules: 0 and 1 have no common label above
rows_3_0 : fault_of_rows (3 ∷ 0 ∷ []) ≡ Some 0
rows_3_0 = unfold checks in refl

-- decided, a bit at or above the label count is charged to its own row
rows_3_6 : fault_of_rows (3 ∷ 6 ∷ []) ≡ Some 1
rows_3_6 = unfold checks in refl

-- decided, that a least common label is the only one is antisymmetry's business
rows_7_6_6 : fault_of_rows (7 ∷ 6 ∷ 6 ∷ []) ≡ Some 1
rows_7_6_6 = unfold checks in refl

-- lattices: chains of two, three and four labels, and the pentagon
rows_of_lattices
    : map fault_of_rows ((3 ∷ 2 ∷ []) ∷ (7 ∷ 6 ∷ 4 ∷ []) ∷ (15 ∷ 14 ∷ 12 ∷ 8 ∷ []) ∷ (31 ∷ 22 ∷ 20 ∷ 24 ∷ 16 ∷ []) ∷ [])
    ≡ None ∷ None ∷ None ∷ None ∷ []
rows_of_lattices = unfold checks in refl

-- 3: "kind 2", of register 1
refusal_03_register_kind_2 : judged kind_two ≡ refused 3 1
refusal_03_register_kind_2 = unfold checks in refl

-- 4: "state 1 with parent 1"
refusal_04_own_parent : judged own_parent ≡ refused 4 1
refusal_04_own_parent = unfold checks in refl

-- decided: a command number needs a command
refusal_04_no_commands : judged no_commands ≡ refused 4 0
refusal_04_no_commands = unfold checks in refl

-- 5: "command kind 6", of command 1
refusal_05_command_kind_6 : judged kind_six ≡ refused 5 1
refusal_05_command_kind_6 = unfold checks in refl

-- 5: "an expression's place is 1,024 plus its number"
refusal_05_expression_kind_12 : judged expression_kind_twelve ≡ refused 5 (1024 + 1)
refusal_05_expression_kind_12 = unfold checks in refl

-- 6: "states 0 and 1 both with command 0"
refusal_06_shared_command : judged shared_command ≡ refused 6 0
refusal_06_shared_command = unfold checks in refl

-- decided: a sequence with one node as both parts uses it twice
refusal_06_twice_in_sequence : judged twice_in_sequence ≡ refused 6 1
refusal_06_twice_in_sequence = unfold checks in refl

-- 7: "64 nested sums, each adding one constant"
refusal_07_nested_sums : judged (deep 64) ≡ refused 7 (1024 + 128)
refusal_07_nested_sums = unfold checks in refl

-- decided: an if's condition does not count into the depth of commands
depth_of_condition : verdict (deep_condition 63) ≡ Accepted 0
depth_of_condition = unfold checks in refl

-- "a node without parts of its own family has depth 1"
depth_of_expressions : map expr_depth (constant 7 ∷ register 0 0 ∷ binary add (constant 7) (register 0 0) ∷ []) ≡ 1 ∷ 1 ∷ 2 ∷ []
depth_of_expressions = unfold checks in refl

depth_of_commands
    : map cmd_depth (skip 0 ∷ assign 0 0 (binary add (constant 7) (register 0 0)) ∷ fall 0 ∷ goto 0 1 0 0 ∷ sequence 2 (skip 0) (fall 1) ∷ [])
    ≡ 1 ∷ 1 ∷ 1 ∷ 1 ∷ 2 ∷ []
depth_of_commands = unfold checks in refl

-- 8: "if r0 then goto 1 else skip", charged to the if
refusal_08_half_transferring : judged half_transferring ≡ refused 8 3
refusal_08_half_transferring = unfold checks in refl

-- decided: an if with one transferring branch is charged to the if, and not to the sequence around it
refusal_08_half_inside : judged half_inside ≡ refused 8 3
refusal_08_half_inside = unfold checks in refl

-- "The first part of a sequence never does (charged to the sequence)."
refusal_08_transfers_first : judged transfers_first ≡ refused 8 3
refusal_08_transfers_first = unfold checks in refl

-- "a state that does not transfer is charged to its command"
refusal_08_only_skips : judged only_skips ≡ refused 8 1
refusal_08_only_skips = unfold checks in refl

-- "the root holds no goto"
refusal_08_root_goes : judged root_goes ≡ refused 8 0
refusal_08_root_goes = unfold checks in refl

-- "A fall needs a child": no image with a single state is accepted
refusal_08_root_alone : judged root_alone ≡ refused 8 0
refusal_08_root_alone = unfold checks in refl

-- 02, E1, 16: a design that overwrites "a reading before anyone has used it"
refusal_16_port_assigned : judged port_assigned ≡ refused 16 1
refusal_16_port_assigned = unfold checks in refl

-- 9: "label 0 under label 1"
refusal_09_low_under_high : judged low_under_high ≡ refused 9 2
refusal_09_low_under_high = unfold checks in refl

-- 10: "r0 := r1, labels 0 and 1"
refusal_10_high_to_low : judged high_to_low ≡ refused 10 1
refusal_10_high_to_low = unfold checks in refl

-- "Taking "not above" for "at or below": incomparable labels slip through."
refusal_10_across_labels : judged across_labels ≡ refused 10 1
refusal_10_across_labels = unfold checks in refl

-- if secret then leak := 1 else leak := 0
refusal_10_secret_branch : judged secret_branch ≡ refused 10 1
refusal_10_secret_branch = unfold checks in refl

-- document 004, figure 2(a): states of label 1 count the timer down
refusal_10_flat_lease : judged flat_lease ≡ refused 10 4
refusal_10_flat_lease = unfold checks in refl

-- 11: "if r1 then goto 1 else goto 2, both label 0": a low state branches on a secret to two low states
refusal_11_secret_gotos : judged secret_gotos ≡ refused 11 1
refusal_11_secret_gotos = unfold checks in refl

-- "10 to 12 are one pass", since E7 in reading order: 10 at command 4 is read before 11 at command 1
refusal_10_read_first : judged goto_below_assign ≡ refused 10 4
refusal_10_read_first = unfold checks in refl

-- 12: "if r1 then fall else fall, in label 0"
refusal_12_secret_falls : judged secret_falls ≡ refused 12 1
refusal_12_secret_falls = unfold checks in refl

-- if r1 then fall else goto 2, in label 0: the paper would take it, and it leaks
refusal_12_fall_or_goto : judged fall_or_goto ≡ refused 12 1
refusal_12_fall_or_goto = unfold checks in refl

-- "Every call makes the image checks .. first": with a refused image, though the area is too short
image_first
    : map (λ call. told (perform high_to_low short_lent call)) (resets ∷ writes 0 7 ∷ runs 1 ∷ [])
    ≡ (refused 10 1, short_lent) ∷ (refused 10 1, short_lent) ∷ (refused 10 1, short_lent) ∷ []
image_first = unfold everything in refl

-- 13: "writing r0 of kind 0", and a register that is not there; "No lent byte changes."
refusal_13_inner : told (perform lease any_lent (writes 0 7)) ≡ (refused 13 0, any_lent)
refusal_13_inner = unfold everything in refl

refusal_13_no_register : told (perform lease any_lent (writes 2 7)) ≡ (refused 13 2, any_lent)
refusal_13_no_register = unfold everything in refl

-- 14: "4 bytes for two registers", in each of the three calls
refusal_14_reset : told (reset lease short_lent) ≡ (refused 14 0, short_lent)
refusal_14_reset = unfold everything in refl

refusal_14_run : told (run lease short_lent 1) ≡ (refused 14 0, short_lent)
refusal_14_run = unfold everything in refl

-- "port write judges 14 before 13": r0 is inner, and register 2 is not there
refusal_14_write : told (perform lease short_lent (writes 0 7)) ≡ (refused 14 0, short_lent)
refusal_14_write = unfold everything in refl

refusal_14_write_no_register : told (perform lease short_lent (writes 2 7)) ≡ (refused 14 0, short_lent)
refusal_14_write_no_register = unfold everything in refl

-- decided: an area that is too long is as wrong as one too short
refusal_14_long_registers : told (reset lease long_lent) ≡ (refused 14 0, long_lent)
refusal_14_long_registers = unfold everything in refl

refusal_14_write_long : told (perform lease long_lent (writes 1 7)) ≡ (refused 14 0, long_lent)
refusal_14_write_long = unfold everything in refl

refusal_14_long_targets : told (run lease long_targets 1) ≡ (refused 14 0, long_targets)
refusal_14_long_targets = unfold everything in refl

-- 14: "an unsound target, at the lowest state": state 1 is not a child of 2
refusal_14_unsound : told (run lease unsound_lent 1) ≡ (refused 14 2, unsound_lent)
refusal_14_unsound = unfold everything in refl

-- decided: a run of 0 cycles is judged as any run
refusal_14_run_of_0 : told (run lease unsound_lent 0) ≡ (refused 14 2, unsound_lent)
refusal_14_run_of_0 = unfold everything in refl

-- "A call that overwrites whole areas .. judges only their lengths."
reset_of_unsound : told (reset lease unsound_lent) ≡ (accepted 0, reset_lent)
reset_of_unsound = unfold everything in refl

-- 15: "more than 1,000,000 cycles": "1,000,001"
refusal_15_answer : run_answer lease reset_lent 1000001 ≡ Refused CycleCount 0
refusal_15_answer = unfold everything in refl

refusal_15_run : told (run lease reset_lent 1000001) ≡ (refused 15 0, reset_lent)
unfolding run
refusal_15_run =
    let made = lent_of (after_cycles (design_of lease) 1000001 (areas_of (design_of lease) reset_lent)) in
    ap (λ answer. told (leaves answer reset_lent made)) refusal_15_answer

-- 1,000,000 are not more
accepted_15_answer : run_answer lease reset_lent 1000000 ≡ Accepted 1000000
accepted_15_answer = unfold everything in refl

-- "The lowest number that applies comes first": 14 before 15
refusal_14_before_15 : run_answer lease unsound_lent 1000001 ≡ Refused Area 2
refusal_14_before_15 = unfold everything in refl

-- 01, 'A cycle'.

-- "Reset writes the reset values and default children."
accepted_reset : told (reset lease any_lent) ≡ (accepted 0, reset_lent)
accepted_reset = unfold everything in refl

-- "The default child is the lowest-numbered child": state 2 has 3 and 4; "a childless state's is its own number"
default_child : map (default_target (design_of lease)) (0 ∷ 1 ∷ 2 ∷ 3 ∷ 4 ∷ []) ≡ 1 ∷ 1 ∷ 3 ∷ 3 ∷ 4 ∷ []
default_child = unfold checks in refl

-- "An accepted port write sets its register to its value and changes nothing else."
accepted_write
    : told (perform lease reset_lent (writes 1 67305985)) ≡ (accepted 0, lent (3 ∷ 0 ∷ 0 ∷ 0 ∷ 1 ∷ 2 ∷ 3 ∷ 4 ∷ []) (1 ∷ 1 ∷ 3 ∷ 3 ∷ 4 ∷ []))
accepted_write = unfold everything in refl

-- "Run answers the cycles done, always the number requested; with 0 it changes nothing."
accepted_run_of_0 : told (run lease reset_lent 0) ≡ (accepted 0, reset_lent)
accepted_run_of_0 = unfold everything in refl

accepted_run_of_4 : told (run lease reset_lent 4) ≡ (accepted 4, lent (0 ∷ 0 ∷ 0 ∷ 0 ∷ 0 ∷ 0 ∷ 0 ∷ 0 ∷ []) (1 ∷ 1 ∷ 3 ∷ 3 ∷ 4 ∷ []))
accepted_run_of_4 = unfold everything in refl

-- "An assignment shows at the next read": state 2 takes 1 from r0 = 1, reads 0 and goes to 1
assignment_shows
    : cycle (design_of lease) (areas (1 ∷ 0 ∷ []) (2 ∷ 1 ∷ 3 ∷ 3 ∷ 4 ∷ []))
    ≡ record { after = areas (0 ∷ 0 ∷ []) (1 ∷ 1 ∷ 3 ∷ 3 ∷ 4 ∷ []); walk = 0 ∷ 2 ∷ []; ran_with = replicate 10 0 }
assignment_shows = unfold everything in refl

-- "An if takes its first branch when the value is not 0": state 3 with r1 = 7 goes to 4
if_not_0
    : cycle (design_of lease) (areas (3 ∷ 7 ∷ []) (2 ∷ 1 ∷ 3 ∷ 3 ∷ 4 ∷ []))
    ≡ record { after = areas (2 ∷ 7 ∷ []) (2 ∷ 1 ∷ 4 ∷ 3 ∷ 4 ∷ []); walk = 0 ∷ 2 ∷ 3 ∷ []; ran_with = replicate 10 0 }
if_not_0 = unfold everything in refl

-- "adding and subtracting wrap"
add_and_subtract : apply add 4294967295 2 ∷ apply add 1 2 ∷ apply subtract 7 2 ∷ apply subtract 1 3 ∷ [] ≡ 1 ∷ 3 ∷ 5 ∷ 4294967294 ∷ []
add_and_subtract = unfold everything in refl

-- and, or and xor of 12 and 10
and_or_xor : apply bitwise_and 12 10 ∷ apply bitwise_or 12 10 ∷ apply bitwise_xor 12 10 ∷ [] ≡ 8 ∷ 14 ∷ 6 ∷ []
and_or_xor = unfold everything in refl

-- "Equal and less (unsigned) give 1 or 0."
equal_gives : apply equal 7 7 ∷ apply equal 7 8 ∷ [] ≡ 1 ∷ 0 ∷ []
equal_gives = unfold everything in refl

less_gives : apply less 1 2 ∷ apply less 2 2 ∷ apply less 4294967295 0 ∷ apply less 0 4294967295 ∷ [] ≡ 1 ∷ 0 ∷ 0 ∷ 1 ∷ []
less_gives = unfold everything in refl

-- check accepts the tower of states
tower_accepted : verdict tower ≡ Accepted 0
tower_accepted = unfold checks in refl

-- "sets s and all its descendants to default children": 2, its child 3 and its grandchild 4, and not the group 8, which keeps its choice 10
goto_clears_descendants
    : cycle (design_of tower) (areas [] (1 ∷ 1 ∷ 3 ∷ 7 ∷ 6 ∷ 5 ∷ 6 ∷ 7 ∷ 10 ∷ 9 ∷ 10 ∷ []))
    ≡ record { after = areas [] (2 ∷ 1 ∷ 3 ∷ 4 ∷ 5 ∷ 5 ∷ 6 ∷ 7 ∷ 10 ∷ 9 ∷ 10 ∷ []); walk = 0 ∷ 1 ∷ []; ran_with = replicate 22 0 }
goto_clears_descendants = unfold everything in refl

-- "then the parent's target to s": at the root, its own parent, the second step is seen
goto_clears_first : gone_to (design_of smallest) 0 (1 ∷ 1 ∷ []) ≡ 0 ∷ 1 ∷ []
goto_clears_first = unfold everything in refl

-- Document 004, figure 2(b): the lease controller with two groups.

-- check accepts it
two_groups_accepted : verdict two_groups ≡ Accepted 0
two_groups_accepted = unfold checks in refl

-- r2 = 1 is written before cycle 3
two_groups_lines
    : lines 1 (cycles_of (events two_groups groups_lent (resets ∷ runs 2 ∷ writes 2 1 ∷ runs 4 ∷ [])))
    ≡ bytes_of_text "1;0 1;3 1 0 0\n2;0 2 4;2 1 0 0\n3;0 2 5;1 1 1 0\n4;0 2;0 1 1 0\n5;0 1;3 0 1 0\n6;0 3 6;2 0 1 0\n"
two_groups_lines = unfold everything in refl

-- after cycle 4 group 2 keeps its choice 5 until the next goto to it
two_groups_after_4
    : at_end two_groups groups_lent (resets ∷ runs 2 ∷ writes 2 1 ∷ runs 2 ∷ [])
    ≡ lent (0 ∷ 0 ∷ 0 ∷ 0 ∷ 1 ∷ 0 ∷ 0 ∷ 0 ∷ 1 ∷ 0 ∷ 0 ∷ 0 ∷ 0 ∷ 0 ∷ 0 ∷ 0 ∷ []) (1 ∷ 1 ∷ 5 ∷ 6 ∷ 4 ∷ 5 ∷ 6 ∷ 7 ∷ [])
two_groups_after_4 = unfold everything in refl

-- Document 004, figure 2(c): one group with a parameter for both parties.

-- check accepts it
one_group_accepted : verdict one_group ≡ Accepted 0
one_group_accepted = unfold checks in refl

-- its walk is that of the two groups, with group 2 for 3, and 3 and 4 for 4 and 5 and for 6 and 7; r4 and r5 are as r2 and r3
one_group_lines
    : lines 1 (cycles_of (events one_group one_group_lent (resets ∷ runs 2 ∷ writes 2 1 ∷ runs 4 ∷ [])))
    ≡ bytes_of_text "1;0 1;3 1 0 0 0 0\n2;0 2 3;2 1 0 0 0 0\n3;0 2 4;1 1 1 0 1 0\n4;0 2;0 1 1 0 1 0\n5;0 1;3 0 1 0 1 0\n6;0 2 3;2 0 1 0 1 0\n"
one_group_lines = unfold everything in refl

-- after cycle 5 r5 is bound to the group, and the group keeps no choice
one_group_after_5
    : at_end one_group one_group_lent (resets ∷ runs 5 ∷ [])
    ≡ lent_bound (3 ∷ replicate 23 0) (2 ∷ 1 ∷ 3 ∷ 3 ∷ 4 ∷ []) (0 ∷ 0 ∷ 0 ∷ 0 ∷ 5 ∷ replicate 5 0)
one_group_after_5 = unfold everything in refl

-- What a party sees of one group is what it sees of two, with the state that stands for each of the eight, the register bound to it, and behind the registers the copies of those from r2 on.
abbrev ran : ℕ → List ℕ → RanState
ran s bound = record { state = s; bound = bound }

abbrev in_one_group : RanState → RanState
in_one_group x = get_or (ran 0 [] ∷ ran 1 [] ∷ ran 2 (4 ∷ []) ∷ ran 2 (5 ∷ []) ∷ ran 3 [] ∷ ran 4 [] ∷ ran 3 [] ∷ ran 4 [] ∷ []) x.state (ran 9 [])

abbrev of_one_group : Seen → Seen
of_one_group x = record { values = x.values ++ drop 2 x.values; walk = map in_one_group x.walk }

-- r3 is 1 from reset on and r2 from cycle 3 on; both groups run
abbrev both_ports : List Call
both_ports = resets ∷ writes 3 1 ∷ runs 2 ∷ writes 2 1 ∷ runs 7 ∷ []

abbrev seen : List ℕ → List RanState → Seen
seen values walk = record { values = values; walk = walk }

-- the low party sees no state below the group while r4 is bound to it, and the high party sees all
abbrev seen_low : List Seen
seen_low =
    seen (3 ∷ 1 ∷ 1 ∷ 1 ∷ []) (ran 0 [] ∷ ran 1 [] ∷ [])
    ∷ seen (2 ∷ 1 ∷ 1 ∷ 1 ∷ []) (ran 0 [] ∷ ran 2 (4 ∷ []) ∷ [])
    ∷ seen (1 ∷ 1 ∷ 1 ∷ 1 ∷ []) (ran 0 [] ∷ ran 2 (4 ∷ []) ∷ [])
    ∷ seen (0 ∷ 1 ∷ 1 ∷ 1 ∷ []) (ran 0 [] ∷ ran 2 (4 ∷ []) ∷ [])
    ∷ seen (3 ∷ 0 ∷ 1 ∷ 1 ∷ []) (ran 0 [] ∷ ran 1 [] ∷ [])
    ∷ seen (2 ∷ 0 ∷ 1 ∷ 1 ∷ []) (ran 0 [] ∷ ran 2 (5 ∷ []) ∷ ran 3 [] ∷ [])
    ∷ seen (1 ∷ 0 ∷ 1 ∷ 1 ∷ []) (ran 0 [] ∷ ran 2 (5 ∷ []) ∷ ran 3 [] ∷ [])
    ∷ seen (0 ∷ 0 ∷ 1 ∷ 1 ∷ []) (ran 0 [] ∷ ran 2 (5 ∷ []) ∷ [])
    ∷ seen (3 ∷ 1 ∷ 1 ∷ 1 ∷ []) (ran 0 [] ∷ ran 1 [] ∷ [])
    ∷ []

abbrev seen_high : List Seen
seen_high =
    seen (3 ∷ 1 ∷ 0 ∷ 1 ∷ 0 ∷ 1 ∷ []) (ran 0 [] ∷ ran 1 [] ∷ [])
    ∷ seen (2 ∷ 1 ∷ 0 ∷ 1 ∷ 0 ∷ 1 ∷ []) (ran 0 [] ∷ ran 2 (4 ∷ []) ∷ ran 3 [] ∷ [])
    ∷ seen (1 ∷ 1 ∷ 1 ∷ 1 ∷ 1 ∷ 1 ∷ []) (ran 0 [] ∷ ran 2 (4 ∷ []) ∷ ran 4 [] ∷ [])
    ∷ seen (0 ∷ 1 ∷ 1 ∷ 1 ∷ 1 ∷ 1 ∷ []) (ran 0 [] ∷ ran 2 (4 ∷ []) ∷ [])
    ∷ seen (3 ∷ 0 ∷ 1 ∷ 1 ∷ 1 ∷ 1 ∷ []) (ran 0 [] ∷ ran 1 [] ∷ [])
    ∷ seen (2 ∷ 0 ∷ 1 ∷ 1 ∷ 1 ∷ 1 ∷ []) (ran 0 [] ∷ ran 2 (5 ∷ []) ∷ ran 3 [] ∷ [])
    ∷ seen (1 ∷ 0 ∷ 1 ∷ 1 ∷ 1 ∷ 1 ∷ []) (ran 0 [] ∷ ran 2 (5 ∷ []) ∷ ran 3 [] ∷ [])
    ∷ seen (0 ∷ 0 ∷ 1 ∷ 1 ∷ 1 ∷ 1 ∷ []) (ran 0 [] ∷ ran 2 (5 ∷ []) ∷ [])
    ∷ seen (3 ∷ 1 ∷ 1 ∷ 1 ∷ 1 ∷ 1 ∷ []) (ran 0 [] ∷ ran 1 [] ∷ [])
    ∷ []

one_group_seen_low : view (design_of one_group) 0 (events one_group one_group_lent both_ports) ≡ seen_low
one_group_seen_low = unfold sights in refl

two_groups_seen_low : map of_one_group (view (design_of two_groups) 0 (events two_groups groups_lent both_ports)) ≡ seen_low
two_groups_seen_low = unfold sights in refl

one_group_seen_high : view (design_of one_group) 1 (events one_group one_group_lent both_ports) ≡ seen_high
one_group_seen_high = unfold sights in refl

two_groups_seen_high : map of_one_group (view (design_of two_groups) 1 (events two_groups groups_lent both_ports)) ≡ seen_high
two_groups_seen_high = unfold sights in refl
