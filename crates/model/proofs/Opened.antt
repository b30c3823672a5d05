-- What the table of cases is written with: names that open the definitions of specs/ (each stands for all that its `unfolding` line names), and
-- short ways to put a case.
use Rattle.std.specs.Prelude.{Option}
use Prim.Native.Nat.{ℕ, ◌*◌}
use mathlib.Core.List.{List, [], ◌∷◌, ◌++◌, map}
use lib.ListN.{length, replicate}
use Rattle.model.specs.Indices.{all_below, some_below, lowest, lowest_failing, lowest_of, occurrences, tabulate_from, tabulate, join_below, up_to, recursively}
use Rattle.model.specs.Image.{Section, offset, size, section_kept, offsets_kept, directory_kept, records_of, section_of, design_of}
use Rattle.model.specs.Lattice.{flows_to, row_inside, reflexive, antisymmetric, transitive, least_full, least_above, joined, label_kept, all_flow_to}
use Rattle.model.specs.States.{width_kept, register_kept, parent_kept, state_kept, is_child, has_child, default_target, sibling_or_self, within}
use Rattle.model.specs.Kinds.{command_kind, expression_kind, command_holds, expression_holds, command_kept, expression_kept}
use Rattle.model.specs.Trees.{expr_of_kind, cmd_of_kind, expr_step, expr_of, cmd_step, cmd_of, body_of, expr_depth, cmd_depth, registers_read}
use Rattle.model.specs.Parameters.{all_of, own_parameters, scope_of, within_bounds, has_parameters, choices, every_choice, label_byte, label_under, pair_kept, is_default_child, takes_parameters, label_in_scope, parameters_kept}
use Rattle.model.specs.Nodes.{command_parts, expressions_of, expression_parts, command_uses, expression_uses, command_used_once, expression_used_once, command_depth_kept, expression_depth_kept}
use Rattle.model.specs.Shape.{transfers, shape_faults, state_shape_faults, shape_fault}
use Rattle.model.specs.Scopes.{name_kept, is_argument, argument_kept, field_kept, read_faults, scope_faults, state_scope_faults, scope_fault}
use Rattle.model.specs.Falls.{holds_fall, is_fallen_into, child_label_kept}
use Rattle.model.specs.Ports.{field_spares_ports, spares_ports, names_no_port}
use Rattle.model.specs.Flow.{labels_read, named_label, flows_each, flow_faults, state_flow_faults, first_of, flow_answer}
use Rattle.model.specs.Answers.{Numbers, numbers_of}
use Rattle.model.specs.Verdict.{◌before◌, refused_at, lowest_node, design_structure, structure, verdict}
use Rattle.model.specs.Labelling.{labels_of}
use Rattle.model.specs.Raising.{least_above_all, join_of, labels_read_by, raised_by, raised_by_states, raised_once, raised_times, raised_labels, put_labels, raised_image, raise_answer, raise}
use Rattle.model.specs.Signed.{signed_value, word_of, below_signed, shifted_right, divided_signed}
use Rattle.model.specs.Values.{apply, words_of, bytes_of}
use Rattle.model.specs.Bindings.{named, expr_with, cmd_with, bound_in, own_bound, body_with, label_with, bound_by, on_path, byte_sound, bound_sound, binding_sound}
use Rattle.model.specs.Machine.{Areas, Cycle, eval, exec, reset_areas, target_sound, cleared, gone_to, after_body, run_from, cycle, cycles, after_last, after_cycles}
use Rattle.model.specs.Calls.{Lent, Left, register_area_answer, length_answer, content_kept, contents_answer, targets_answer, bindings_answer, is_writable, port_answer, value_answer, areas_of, lent_of, cycles_answer, check, registers_length, targets_length, reset_answer, reset, run_answer, run, write_port_answer, write_port}
use Rattle.model.specs.Listing.{bytes_of_text, decimal, spaced, header, line, lines, refusal_line, listed, listing}
use Rattle.model.specs.Parties.{Event, perform, events_of, events, at_end, values_seen, walk_seen, wider_walk_seen, view, wider_view, cycles_of}

-- every definition of the image checks
unfoldable pub checks : ℕ
unfolding all_below some_below lowest lowest_failing lowest_of occurrences tabulate_from tabulate join_below up_to recursively section_kept offsets_kept directory_kept records_of section_of design_of flows_to row_inside reflexive antisymmetric transitive least_full least_above joined label_kept all_flow_to width_kept register_kept parent_kept state_kept is_child has_child default_target sibling_or_self within command_kind expression_kind command_holds expression_holds command_kept expression_kept expr_of_kind cmd_of_kind expr_step expr_of cmd_step cmd_of body_of expr_depth cmd_depth registers_read command_parts expressions_of expression_parts command_uses expression_uses command_used_once expression_used_once command_depth_kept expression_depth_kept transfers shape_faults state_shape_faults shape_fault all_of own_parameters scope_of within_bounds choices every_choice label_byte label_under pair_kept is_default_child takes_parameters label_in_scope parameters_kept name_kept is_argument argument_kept field_kept read_faults scope_faults state_scope_faults scope_fault field_spares_ports spares_ports names_no_port holds_fall is_fallen_into child_label_kept labels_read named_label flows_each flow_faults state_flow_faults first_of flow_answer ◌before◌ refused_at lowest_node design_structure structure verdict
checks = 0

-- and with these every definition of the cycle, the calls, the lists of calls and the listing
unfoldable pub everything : ℕ
unfolding checks signed_value word_of below_signed shifted_right divided_signed apply words_of bytes_of named expr_with cmd_with bound_in own_bound body_with label_with bound_by on_path byte_sound bound_sound binding_sound eval exec reset_areas target_sound cleared gone_to after_body run_from cycle cycles after_last after_cycles register_area_answer length_answer content_kept contents_answer targets_answer bindings_answer is_writable port_answer value_answer areas_of lent_of cycles_answer check registers_length targets_length reset_answer reset run_answer run write_port_answer write_port bytes_of_text decimal spaced header line lines refusal_line listed listing perform events_of events cycles_of at_end
everything = 0

-- and with these those of what a party sees
unfoldable pub sights : ℕ
unfolding everything values_seen walk_seen wider_walk_seen view wider_view
sights = 0

-- every definition of the image checks and of raising
unfoldable pub raising : ℕ
unfolding checks has_parameters labels_of least_above_all join_of labels_read_by raised_by raised_by_states raised_once raised_times raised_labels put_labels raised_image raise_answer raise
raising = 0

-- Short ways to put a case.

-- an acceptance with its count, and a refusal with its number and place, as the host is told
abbrev pub accepted : ℕ → Numbers
accepted count = record { number = 0; place = 0; count = count }

abbrev pub refused : ℕ → ℕ → Numbers
refused number place = record { number = number; place = place; count = 0 }

-- the verdict of an image, as the host is told
abbrev pub judged : List ℕ → Numbers
judged image = numbers_of (verdict image)

-- all that a call leaves: what the host is told, and every lent byte
abbrev pub told : {A : Type 0} → Left A → Numbers × A
told left = (numbers_of left.answer, left.lent)

-- lent areas and their values, with these registers bound, and with none: 02, E8: two bytes behind the targets for each state, "0 at reset"
abbrev pub lent_bound : List ℕ → List ℕ → List ℕ → Lent
lent_bound registers targets bindings = record { registers = registers; targets = targets ++ bindings }

abbrev pub none_bound : List ℕ → List ℕ
none_bound targets = replicate (2 * length targets) 0

abbrev pub lent : List ℕ → List ℕ → Lent
lent registers targets = lent_bound registers targets (none_bound targets)

abbrev pub areas_bound : List ℕ → List ℕ → List ℕ → Areas
areas_bound registers targets bindings = record { registers = registers; targets = targets; bindings = bindings }

abbrev pub areas : List ℕ → List ℕ → Areas
areas registers targets = areas_bound registers targets (none_bound targets)

-- where the rows stop being a lattice
abbrev pub fault_of_rows : List ℕ → Option ℕ
fault_of_rows rows = lowest_failing (label_kept rows) (length rows)

abbrev pub walks : List Event → List (List ℕ)
walks es = map (λ (c : Cycle). c.walk) (cycles_of es)

-- offset and length of a section
abbrev pub pair_of : List ℕ → Section → ℕ × ℕ
pair_of image s = (offset image s, size image s)

-- areas for the lease design, with any bytes in them; as its reset leaves them; of wrong lengths; and with 1 as the target of 2 and 4 as that of 3
abbrev pub any_lent : Lent
any_lent = lent_bound (replicate 8 9) (replicate 5 9) (replicate 10 9)

abbrev pub reset_lent : Lent
reset_lent = lent (3 ∷ 0 ∷ 0 ∷ 0 ∷ 0 ∷ 0 ∷ 0 ∷ 0 ∷ []) (1 ∷ 1 ∷ 3 ∷ 3 ∷ 4 ∷ [])

abbrev pub short_lent : Lent
short_lent = lent (replicate 4 9) (1 ∷ 1 ∷ 3 ∷ 3 ∷ 4 ∷ [])

abbrev pub long_lent : Lent
long_lent = lent (replicate 9 9) (1 ∷ 1 ∷ 3 ∷ 3 ∷ 4 ∷ [])

abbrev pub long_targets : Lent
long_targets = lent_bound (replicate 8 9) (1 ∷ 1 ∷ 3 ∷ 3 ∷ 4 ∷ []) (replicate 11 0)

abbrev pub unsound_lent : Lent
unsound_lent = lent (replicate 8 9) (1 ∷ 1 ∷ 1 ∷ 4 ∷ 4 ∷ [])

-- areas for the design with two groups, with any bytes in them
abbrev pub groups_lent : Lent
groups_lent = lent_bound (replicate 16 9) (replicate 8 9) (replicate 16 9)

-- areas for the design with one group, with any bytes in them
abbrev pub one_group_lent : Lent
one_group_lent = lent_bound (replicate 24 9) (replicate 5 9) (replicate 10 9)
