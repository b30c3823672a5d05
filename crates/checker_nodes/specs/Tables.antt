-- The tables that the loops over the nodes fill, and what the tables then tell.
use Rattle.std.specs.Prelude.{ℕ, min, ◌+◌, ◌≤◌, ◌<◌, ◌≡◌, Bool, List, [], ◌∷◌, leb, eqb, length, get_or, set, Option, None}
use Rattle.model.specs.Indices.{lowest_failing, passed, join_below}
use Rattle.model.specs.Limits.{depth_max}
use Rattle.model.specs.Image.{Design, design_of}
use Rattle.model.specs.Kinds.{command_kept, expression_kept}
use Rattle.model.specs.Trees.{expr_of, cmd_of, expr_depth, cmd_depth}
use Rattle.model.specs.Nodes.{parts_of, values_of, operands_of, command_used_once, expression_used_once, command_depth_kept, expression_depth_kept}
use Rattle.model.specs.Verdict.{lowest_node}
use Rattle.design.specs.declared.Design.{Design as Described}
use Rattle.design.specs.declared.image.Image.{Image}
use Rattle.design.specs.Resets.{Filled}

-- a depth in a table; an entry stops at one past the limit
abbrev pub depth_entry : ℕ → ℕ
depth_entry depth = min (depth_max + 1) depth

-- a table holds the depth of every node below n
pub record Depths (table : List ℕ) (depth : ℕ → ℕ) (n : ℕ) : Type 0 where
  pub entry : (k : ℕ) → k < n → get_or table k 0 ≡ depth_entry (depth k)

-- a table of counts with one more use of node k; a count stops at 2
unfoldable pub count_use : List ℕ → ℕ → List ℕ
count_use table k = set table k (min 2 (get_or table k 0 + 1))

-- and with every use of a list
unfoldable pub count_uses : List ℕ → List ℕ → List ℕ
count_uses table [] = table
count_uses table (k ∷ ks) = count_uses (count_use table k) ks

-- what the loop over the commands found, and what it leaves in its tables; and the loop over the expressions
pub record CommandsPassed (d : Design) (f : Option ℕ) (uses₀ uses expressionUses₀ expression_uses depths₀ depths : List ℕ) : Type 0 where
  pub found : f ≡ lowest_failing (command_kept d) (length d.commands)
  pub counted : uses ≡ count_uses uses₀ (join_below (parts_of d) (passed f (length d.commands)))
  pub expressions_counted : expression_uses ≡ count_uses expressionUses₀ (join_below (values_of d) (passed f (length d.commands)))
  pub filled : Filled (λ k. depth_entry (cmd_depth (cmd_of d k))) depths₀ (passed f (length d.commands)) depths

pub record ExpressionsPassed (d : Design) (f : Option ℕ) (uses₀ uses depths₀ depths : List ℕ) : Type 0 where
  pub found : f ≡ lowest_failing (expression_kept d) (length d.expressions)
  pub counted : uses ≡ count_uses uses₀ (join_below (operands_of d) (passed f (length d.expressions)))
  pub filled : Filled (λ k. depth_entry (expr_depth (expr_of d k))) depths₀ (passed f (length d.expressions)) depths

-- a table of counts for n nodes that has counted nothing
pub record Fresh (n : ℕ) (table : List ℕ) : Type 0 where
  pub long : n ≤ length table
  pub entry : (k : ℕ) → k < n → get_or table k 0 ≡ 0

-- four tables for the nodes of a design, of which those of counts are fresh
pub record NodesFresh (x : Described) (uses_of_commands uses_of_expressions depths_of_commands depths_of_expressions : List ℕ) : Type 0 where
  pub command_uses : Fresh x.commands uses_of_commands
  pub expression_uses : Fresh x.expressions uses_of_expressions
  pub command_depths : x.commands ≤ length depths_of_commands
  pub expression_depths : x.expressions ≤ length depths_of_expressions

-- a table of counts that has 1 exactly where one of n nodes keeps the rule, and a table of depths that has at most the limit exactly there
pub record OnceWhere (rule : ℕ → Bool) (table : List ℕ) (n : ℕ) : Type 0 where
  pub long : n ≤ length table
  pub entry : (k : ℕ) → k < n → eqb (get_or table k 0) 1 ≡ rule k

pub record ShallowWhere (rule : ℕ → Bool) (table : List ℕ) (n : ℕ) : Type 0 where
  pub long : n ≤ length table
  pub entry : (k : ℕ) → k < n → leb (get_or table k 0) depth_max ≡ rule k

-- what the four tables tell of the nodes
pub record NodesTold (image : List ℕ) (x : Described) (uses_of_commands uses_of_expressions depths_of_commands depths_of_expressions : List ℕ) : Type 0 where
  pub command_uses : OnceWhere (command_used_once (design_of image)) uses_of_commands x.commands
  pub expression_uses : OnceWhere (expression_used_once (design_of image)) uses_of_expressions x.expressions
  pub command_depths : ShallowWhere (command_depth_kept (design_of image)) depths_of_commands x.commands
  pub expression_depths : ShallowWhere (expression_depth_kept (design_of image)) depths_of_expressions x.expressions

-- what both loops found and, where that is nothing, what the four tables then tell, which were fresh; the uses by states are counted before the loops
pub record NodesPassed (image : List ℕ) (x : Described) (f : Option ℕ) (command_uses expression_uses command_depths expression_depths : List ℕ) : Type 0 where
  pub found : f ≡ lowest_node (design_of image) (command_kept (design_of image)) (expression_kept (design_of image))
  pub told : f ≡ None → NodesTold image x command_uses expression_uses command_depths expression_depths

-- ---- the same, of an `Image`
abbrev pub NodesToldIn : Image → List ℕ → List ℕ → List ℕ → List ℕ → Type 0
NodesToldIn image command_uses expression_uses command_depths expression_depths =
    NodesTold image.bytes.now image.design command_uses expression_uses command_depths expression_depths

abbrev pub NodesPassedIn : Image → Option ℕ → List ℕ → List ℕ → List ℕ → List ℕ → Type 0
NodesPassedIn image f command_uses expression_uses command_depths expression_depths =
    NodesPassed image.bytes.now image.design f command_uses expression_uses command_depths expression_depths
