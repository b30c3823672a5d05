-- The tables of a filing.
use Rattle.std.specs.Prelude.{ℕ, suc, ◌≤◌, ◌<◌, ◌≡◌, length, get_or, set, take}
use mathlib.Core.List.{List, [], ◌∷◌, Memᴰ}
use Rattle.model.specs.Image.{Design}
use Rattle.design.specs.declared.image.Image.{Image}
use Rattle.design.specs.Images.{design_in}
use Rattle.encoding.specs.Parts.{overwritten_at}
use Rattle.filing_model.specs.Filed.{place_in, command_order, expression_order}
use Rattle.filing_steps.specs.declared.tables.Orders.{Orders}

-- every entry of a list is below a bound
pub record EachBelow (bound : ℕ) (numbers : List ℕ) : Type 0 where
  pub below : (n : ℕ) → Memᴰ n numbers → n < bound

-- a table begins with an order
pub record Ordered (order table : List ℕ) : Type 0 where
  pub long : length order ≤ length table
  pub begins : take (length order) table ≡ order

-- a table in which each entry of a list has its place, counted from k on; of equal entries the first counts, and the numbers that are no entry stay
unfoldable pub with_places : ℕ → List ℕ → List ℕ → List ℕ
with_places k [] table = table
with_places k (n ∷ more) table = set (with_places (suc k) more table) n k

-- a table has the place of each entry of an order
pub record Numbered (order table : List ℕ) : Type 0 where
  pub entry : (n : ℕ) → Memᴰ n order → get_or table n 0 ≡ place_in order n
  pub inside : (n : ℕ) → Memᴰ n order → n < length table

-- both orders from the beginning on and both sets of new numbers, over tables that are lent
unfoldable pub with_form : Design → Orders → Orders
with_form d t =
    record {
      commands = overwritten_at 0 (command_order d) t.commands;
      command_numbers = with_places 0 (command_order d) t.command_numbers;
      expressions = overwritten_at 0 (expression_order d) t.expressions;
      expression_numbers = with_places 0 (expression_order d) t.expression_numbers;
    }

-- what they tell
pub record FormTables (d : Design) (commands command_numbers expressions expression_numbers : List ℕ) : Type 0 where
  pub commands_ordered : Ordered (command_order d) commands
  pub commands_numbered : Numbered (command_order d) command_numbers
  pub expressions_ordered : Ordered (expression_order d) expressions
  pub expressions_numbered : Numbered (expression_order d) expression_numbers

abbrev pub FormTablesIn : Image → Orders → Type 0
FormTablesIn image t = FormTables (design_in image) t.commands t.command_numbers t.expressions t.expression_numbers
