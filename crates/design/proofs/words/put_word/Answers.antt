use mathlib.Core.Path.{◌∙◌}
use native.Mathlib.Omega.{arith}
use Rattle.design.proofs.WordRules.{word_over}
use Rattle.design.proofs.words.put_word.Goals as goal

pub returns : goal.returns
returns c = word_over _ _ _ _ _ c.requires (omega arith) (c.copy_from_slice.ensures.after ∙ c.to_le_bytes.ensures)
