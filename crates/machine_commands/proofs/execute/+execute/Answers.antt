use Rattle.std.proofs.Common.{rules}
use Rattle.design.proofs.FieldRules.{sequence_a_falls, sequence_b_falls}
use Rattle.machine_commands.proofs.ExecuteRules.{executes_first, width_inside, written_narrow, written_inside, put_same_length, assigned_evaluating, condition_evaluating, sequence_a_performing, sequence_b_performing, sequence_b_transferring, sequence_b_place, executes_skip, executes_none, chosen_performing, chosen_falls, chosen_place, chosen_transferring, executes_branch, executes_branch_ending, executes_assign, executes_second, executes_second_ending}
use Rattle.machine_commands.proofs.execute.+execute.Goals as goal

pub evaluate-v-requires : goal.evaluate-v-requires
evaluate-v-requires t c = search assigned_evaluating

pub register_width-width-requires : goal.register_width-width-requires
register_width-width-requires t c = search (width_inside, rules)

pub cut-requires : goal.cut-requires
cut-requires t c = search (written_narrow, rules)

pub put_word-requires : goal.put_word-requires
put_word-requires t c = search (written_inside, rules)

pub execute-first-requires : goal.execute-first-requires
execute-first-requires t c = (search sequence_a_falls, search sequence_a_performing)

pub returns-in_default-first : goal.returns-in_default-first
returns-in_default-first t c = (search executes_first, search rules)

pub command_kind-requires-in-2 : goal.command_kind-requires-in-2
command_kind-requires-in-2 t c = search sequence_b_place

pub ending-requires : goal.ending-requires
ending-requires t c = search sequence_b_transferring

pub execute-second-requires : goal.execute-second-requires
execute-second-requires t c = (search sequence_b_falls, search (sequence_b_performing, rules))

pub evaluate-v-requires-in-5 : goal.evaluate-v-requires-in-5
evaluate-v-requires-in-5 t c = search condition_evaluating

pub command_kind-requires-in-5 : goal.command_kind-requires-in-5
command_kind-requires-in-5 t c = search chosen_place

pub ending-requires-in-3-to-4-command_kind-2 : goal.ending-requires-in-3-to-4-command_kind-2
ending-requires-in-3-to-4-command_kind-2 t c = search chosen_transferring

pub execute-taken-requires : goal.execute-taken-requires
execute-taken-requires t c = (search chosen_falls, search chosen_performing)

pub returns-in-1 : goal.returns-in-1
returns-in-1 t c = (search (executes_assign, rules), search (put_same_length, rules))

pub returns-in-3-to-4-command_kind : goal.returns-in-3-to-4-command_kind
returns-in-3-to-4-command_kind t c = (search executes_second_ending, search rules)

pub returns-in_default-command_kind : goal.returns-in_default-command_kind
returns-in_default-command_kind t c = (search (executes_second, rules), search rules)

pub returns-in-3-to-4-command_kind-2 : goal.returns-in-3-to-4-command_kind-2
returns-in-3-to-4-command_kind-2 t c = (search executes_branch_ending, search rules)

pub returns-in_default-command_kind-2 : goal.returns-in_default-command_kind-2
returns-in_default-command_kind-2 t c = (search (executes_branch, rules), search rules)

pub returns-in_default : goal.returns-in_default
returns-in_default t c = (search executes_skip, search rules)

pub returns-in_default-2 : goal.returns-in_default-2
returns-in_default-2 t c = (search executes_none, search rules)
