-- What the cases are written with: a name that opens the definitions (it stands for all that its `unfolding` line names), and short ways to put a case.
use Prim.Native.Nat.{ℕ}
use mathlib.Core.List.{List}
use Rattle.model.specs.Answers.{Numbers, numbers_of}
use Rattle.model.specs.Neighbours.{unnumbered_expr, unnumbered}
use Rattle.model.specs.Calls.{Left}
use Rattle.model.specs.Indices.{join_each}
use Rattle.model.proofs.Opened.{everything}
use Rattle.encoding.specs.Encoding.{word16_bytes, word32_bytes, register_bytes, state_bytes, node_bytes, records_bytes, directory_bytes, image_of}
use Rattle.encoding.specs.Parts.{over}
use Rattle.renumbering.specs.Renumbering.{renumbered_state, renumbered_command, renumbered_expression}
use Rattle.filing_model.specs.Filed.{place_in, command_order, expression_order, filed, filed_image}
use Rattle.filing_model.specs.Same.{unnumbered_design}
use Rattle.filing_model.specs.Order.{comes_before}
use Rattle.filing_model.specs.Calls.{file_answer, file, earlier}

unfoldable pub filing : ℕ
unfolding everything unnumbered_expr unnumbered word16_bytes word32_bytes register_bytes state_bytes node_bytes records_bytes directory_bytes image_of renumbered_state renumbered_command renumbered_expression join_each over place_in command_order expression_order filed filed_image unnumbered_design comes_before file_answer file earlier
filing = 0

-- all that filing leaves: what the host is told, and every byte of the output area
abbrev pub told : Left (List ℕ) → Numbers × List ℕ
told left = (numbers_of left.answer, left.lent)
