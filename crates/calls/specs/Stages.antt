-- The calls of `Rattle.model.specs.Calls` from the point where the image is accepted on.
use Rattle.std.specs.Prelude.{ℕ, List, length, set}
use Rattle.model.specs.Answers.{Accepted}
use Rattle.model.specs.Image.{Design as Table}
use Rattle.model.specs.Verdict.{◌before◌}
use Rattle.model.specs.Values.{words_of, bytes_of}
use Rattle.model.specs.Machine.{reset_areas, after_cycles}
use Rattle.model.specs.Calls.{Lent, Left, leaves, length_answer, register_area_answer, contents_answer, port_answer, value_answer, cycles_answer, areas_of, lent_of}
use Rattle.running.specs.Stages.{sound_on}

unfoldable pub reset_on : Table → Lent → Left Lent
reset_on d lent = leaves (length_answer d lent) lent (lent_of (reset_areas d))

unfoldable pub write_port_on : Table → List ℕ → ℕ → ℕ → Left (List ℕ)
write_port_on d registers r v =
    leaves
    (register_area_answer d registers before contents_answer d registers before port_answer d r before value_answer d r v)
    registers
    (bytes_of (set (words_of (length d.registers) registers) r v))

unfoldable pub run_on : Table → Lent → ℕ → Left Lent
run_on d lent n =
    leaves
    (length_answer d lent before sound_on d lent before cycles_answer n before Accepted n)
    lent
    (lent_of (after_cycles d n (areas_of d lent)))
