-- What the cases are written with: a name that opens the definitions (it stands for all that its `unfolding` line names), and short ways to put a case.
use Prim.Native.Nat.{ℕ}
use mathlib.Core.List.{List}
use Rattle.model.specs.Indices.{lowest, lowest_failing, tabulate_from, tabulate}
use Rattle.model.specs.Image.{records_of}
use Rattle.model.specs.Verdict.{◌before◌, refused_at}
use Rattle.model.specs.Answers.{Numbers, numbers_of}
use Rattle.model.specs.Calls.{Left}
use Rattle.gates_model.specs.Tables.{section_kept, offsets_kept, directory_kept, section_of, table_of}
use Rattle.gates_model.specs.Signals.{nand}
use Rattle.gates_model.specs.Verdict.{input_kept, flip_flop_kept, gate_kept, wire_kept, table_answer}
use Rattle.gates_model.specs.Cycle.{bytes_of, sources, settled, signals, cycled, started}
use Rattle.gates_model.specs.Calls.{area_answer, lengths_answer, lent_kept, lent_answer, gates_check, gates_reset_answer, gates_reset, gates_cycle_answer, gates_cycle}
use Rattle.gates_model.specs.Runs.{perform, at_end, trusted_inputs, remains, areas_after, answers, areas_each}

unfoldable pub everything : ℕ
unfolding lowest lowest_failing tabulate_from tabulate records_of ◌before◌ refused_at section_kept offsets_kept directory_kept section_of table_of nand input_kept flip_flop_kept gate_kept wire_kept table_answer bytes_of sources settled signals cycled started area_answer lengths_answer lent_kept lent_answer gates_check gates_reset_answer gates_reset gates_cycle_answer gates_cycle perform at_end trusted_inputs remains areas_after answers areas_each
everything = 0

-- an acceptance, and a refusal with its number and place, as the host is told
abbrev pub accepted : Numbers
accepted = record { number = 0; place = 0; count = 0 }

abbrev pub refused : ℕ → ℕ → Numbers
refused number place = record { number = number; place = place; count = 0 }

-- the verdict of a table, as the host is told
abbrev pub judged : List ℕ → Numbers
judged table = numbers_of (gates_check table)

-- all that a call leaves: what the host is told, and every lent byte
abbrev pub told : Left (List ℕ) → Numbers × List ℕ
told left = (numbers_of left.answer, left.lent)
