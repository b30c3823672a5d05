-- What the code that orders nodes knows and leaves.
use Rattle.std.specs.Prelude.{ℕ, ◌+◌, ◌≤◌, ◌≡◌, List, length}
use Rattle.model.specs.Image.{design_of}
use Rattle.model.specs.Nodes.{parts_of, operands_of}
use Rattle.design.specs.declared.Design.{Design as Described}
use Rattle.design.specs.declared.image.Image.{Image}
use Rattle.design.specs.Kept.{CommandsKept, ExpressionsKept}
use Rattle.design.specs.RecordsAt.{CommandAt, ExpressionAt}
use Rattle.encoding.specs.Parts.{overwritten_at}
use Rattle.filing_model.specs.Filed.{parts_first}

-- numbers in a table from place k on, and the place behind them
pub record PutFrom (numbers : List ℕ) (k : ℕ) (before : List ℕ) (next : ℕ) (after : List ℕ) : Type 0 where
  pub moved : next ≡ k + length numbers
  pub put : after ≡ overwritten_at k numbers before

-- what is known where a node is ordered
pub record OrderingCommand (image : List ℕ) (x : Described) (n : ℕ) (order : List ℕ) (k : ℕ) : Type 0 where
  pub commands : CommandsKept (design_of image)
  pub command : CommandAt image x x.commands_at n
  pub room : k + length (parts_first (parts_of (design_of image)) n) ≤ length order

abbrev pub OrderingCommandIn : Image → ℕ → List ℕ → ℕ → Type 0
OrderingCommandIn image n order k = OrderingCommand image.bytes.now image.design n order k

pub record OrderingExpression (image : List ℕ) (x : Described) (e : ℕ) (order : List ℕ) (k : ℕ) : Type 0 where
  pub expressions : ExpressionsKept (design_of image)
  pub expression : ExpressionAt image x x.expressions_at e
  pub room : k + length (parts_first (operands_of (design_of image)) e) ≤ length order

abbrev pub OrderingExpressionIn : Image → ℕ → List ℕ → ℕ → Type 0
OrderingExpressionIn image e order k = OrderingExpression image.bytes.now image.design e order k
