-- What the cases are written with: a name that opens the definitions (it stands for all that its `unfolding` line names), and short ways to put a case.
use Prim.Native.Nat.{ℕ}
use mathlib.Core.List.{List}
use Rattle.model.specs.Indices.{join_each}
use Rattle.model.specs.Answers.{Numbers, numbers_of}
use Rattle.model.specs.Calls.{Left}
use Rattle.model.proofs.Opened.{everything}
use Rattle.encoding.specs.Encoding.{word16_bytes, word32_bytes, register_bytes, state_bytes, node_bytes, records_bytes, directory_bytes, image_of}
use Rattle.encoding.specs.Parts.{over}
use Rattle.renumbering.specs.Renumbering.{renumbered_state, renumbered_command, renumbered_expression}
use Rattle.renumbering.specs.Runs.{answers}
use Rattle.pruning_model.specs.Reached.{among, leads_to, successors, spread, rounds, reached}
use Rattle.pruning_model.specs.Pruned.{closed_up, staying_from, command_stays, expression_stays, pruned, pruned_image}
use Rattle.pruning_model.specs.Calls.{prune_answer, prune}

unfoldable pub pruning : ℕ
unfolding everything word16_bytes word32_bytes register_bytes state_bytes node_bytes records_bytes directory_bytes image_of renumbered_state renumbered_command renumbered_expression answers among leads_to successors spread rounds reached closed_up staying_from join_each command_stays expression_stays pruned pruned_image over prune_answer prune
pruning = 0

-- all that the call leaves: what the host is told, and every byte of the output area
abbrev pub told : Left (List ℕ) → Numbers × List ℕ
told left = (numbers_of left.answer, left.lent)
