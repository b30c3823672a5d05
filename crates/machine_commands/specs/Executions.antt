-- What is known where expression e is evaluated and where command n runs, and what a command leaves as the code gives it.
use Rattle.std.specs.Prelude.{◌≡◌, ℕ, ◌*◌, ◌/◌, ◌%◌, ◌<◌, ◌≤◌, List, [], ◌∷◌, length}
use Rattle.model.specs.Limits.{word_length}
use Rattle.model.specs.declared.Outcome.{Outcome}
use Rattle.model.specs.Image.{Design as Table, design_of}
use Rattle.model.specs.Trees.{Expr, constant, register, binary, Cmd, skip, assign, sequence, fall, goto, branch, expr_of, cmd_of}
use Rattle.model.specs.Values.{words_of}
use Rattle.model.specs.Bindings.{named}
use Rattle.model.specs.Machine.{Executed}
use Rattle.design.specs.declared.Design.{Design}
use Rattle.design.specs.declared.image.Image.{Image}
use Rattle.design.specs.Records.{node_in}
use Rattle.design.specs.RecordsAt.{CommandAt, ExpressionAt}
use Rattle.design.specs.Kept.{RecordsKept}

-- the registers bound to the two parameters in scope, from the one number in which they are handed down
abbrev pub bound_of : ℕ → List ℕ
bound_of packed = packed % 256 ∷ packed / 256 ∷ []

-- the registers that an expression reads, and that a command reads or writes, exist
unfoldable pub ReadsFit : Table → List ℕ → Expr → Type 0
ReadsFit d bound (constant v) = Unit {0}
ReadsFit d bound (register n r) = named bound r < length d.registers
ReadsFit d bound (binary o p q) = ReadsFit d bound p × ReadsFit d bound q

unfoldable pub CommandFits : Table → List ℕ → Cmd → Type 0
CommandFits d bound (skip n) = Unit {0}
CommandFits d bound (assign n r e) = (named bound r < length d.registers) × ReadsFit d bound e
CommandFits d bound (sequence n p q) = CommandFits d bound p × CommandFits d bound q
CommandFits d bound (fall n) = Unit {0}
CommandFits d bound (goto n t a b) = Unit {0}
CommandFits d bound (branch n e p q) = ReadsFit d bound e × CommandFits d bound p × CommandFits d bound q

-- expression e is evaluated over the registers of an area, and command n runs on them
pub record Evaluating (image : List ℕ) (x : Design) (registers : List ℕ) (bound e : ℕ) : Type 0 where
  pub known : RecordsKept image x
  pub expression : ExpressionAt image x x.expressions_at e
  pub fits : ReadsFit (design_of image) (bound_of bound) (expr_of (design_of image) e)
  pub area : length registers ≡ word_length * x.registers

pub record Performing (image : List ℕ) (x : Design) (registers : List ℕ) (bound n : ℕ) : Type 0 where
  pub known : RecordsKept image x
  pub command : CommandAt image x x.commands_at n
  pub fits : CommandFits (design_of image) (bound_of bound) (cmd_of (design_of image) n)
  pub area : length registers ≡ word_length * x.registers

-- command n is a fall or a goto
pub record Transferring (image : List ℕ) (x : Design) (n : ℕ) : Type 0 where
  pub command : CommandAt image x x.commands_at n
  pub lowest : 3 ≤ (node_in image x.commands_at n).kind
  pub highest : (node_in image x.commands_at n).kind < 5

-- ---- the same, of an `Image`
abbrev pub EvaluatingIn : Image → List ℕ → ℕ → ℕ → Type 0
EvaluatingIn image registers bound e = Evaluating image.bytes.now image.design registers bound e

abbrev pub PerformingIn : Image → List ℕ → ℕ → ℕ → Type 0
PerformingIn image registers bound n = Performing image.bytes.now image.design registers bound n

abbrev pub TransferringIn : Image → ℕ → Type 0
TransferringIn image n = Transferring image.bytes.now image.design n

-- the kind of an expression
abbrev pub expression_kind_in : Image → ℕ → ℕ
expression_kind_in image e = (node_in image.bytes.now image.design.expressions_at e).kind

-- the values of the registers
abbrev pub values_in : Table → List ℕ → List ℕ
values_in d registers = words_of (length d.registers) registers

abbrev pub executed_as : List ℕ → Outcome → Executed
executed_as values o = record { registers = values; outcome = o }
