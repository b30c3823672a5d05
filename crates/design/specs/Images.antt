-- What is said of an `Image`: the design that it holds, and what passes have established of its records.
use Rattle.std.specs.Prelude.{ℕ}
use Rattle.model.specs.Image.{Design as Table, design_of}
use Rattle.design.specs.declared.image.Image.{Image}
use Rattle.design.specs.Kept.{RecordsKept, Structured}
use Rattle.design.specs.RecordsAt.{CommandAt, ExpressionAt}

abbrev pub design_in : Image → Table
design_in image = design_of image.bytes.now

-- all records keep their rules, and the structure too
abbrev pub RecordsIn : Image → Type 0
RecordsIn image = RecordsKept image.bytes.now image.design

abbrev pub StructuredIn : Image → Type 0
StructuredIn image = Structured image.bytes.now image.design

-- the record of a node keeps its rule
abbrev pub CommandIn : Image → ℕ → Type 0
CommandIn image n = CommandAt image.bytes.now image.design image.design.commands_at n

abbrev pub ExpressionIn : Image → ℕ → Type 0
ExpressionIn image e = ExpressionAt image.bytes.now image.design image.design.expressions_at e
