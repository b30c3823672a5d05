-- The run of `Rattle.model.specs.Calls` from the point where the lengths are right on.
use Rattle.std.specs.Prelude.{ℕ}
use Rattle.model.specs.Answers.{Answer, Accepted}
use Rattle.model.specs.Image.{Design as Table}
use Rattle.model.specs.Verdict.{◌before◌}
use Rattle.model.specs.Machine.{after_cycles}
use Rattle.model.specs.Calls.{Lent, Left, leaves, targets_answer, bindings_answer, contents_answer, cycles_answer, areas_of, lent_of}

-- 14 of areas of the right lengths: "then any fault that a request adds in the registers' contents, at the lowest register, then an unsound target, at the lowest
-- state"; 02, E8: then an unsound binding
unfoldable pub sound_on : Table → Lent → Answer
sound_on d lent = contents_answer d lent.registers before targets_answer d lent before bindings_answer d lent

-- and once both areas are sound
unfoldable pub run_sound : Table → Lent → ℕ → Left Lent
run_sound d lent n = leaves (cycles_answer n before Accepted n) lent (lent_of (after_cycles d n (areas_of d lent)))
