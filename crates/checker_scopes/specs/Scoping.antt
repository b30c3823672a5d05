-- What the pass for refusal 19 knows at a node, and the place of a fault as a number: a command's own, 1,024 plus an expression's, or one past all of these.
use Rattle.std.specs.Prelude.{ℕ, ◌+◌, ◌*◌, ◌<◌, ◌≡◌, Bool, true, cond, List, [], ◌++◌, ltb, length, Option}
use Rattle.model.specs.Limits.{expression_place, expressions_max, parameter_register, binding_length}
use Rattle.model.specs.Image.{Design as Table, design_of}
use Rattle.model.specs.States.{found_or}
use Rattle.model.specs.Trees.{Expr, constant, register, binary}
use Rattle.model.specs.Shape.{charged_unless}
use Rattle.model.specs.Parameters.{scope_of, lower_bound, upper_bound}
use Rattle.model.specs.Scopes.{is_argument}
use Rattle.design.specs.declared.Design.{Design}
use Rattle.design.specs.declared.image.Image.{Image}
use Rattle.design.specs.Kept.{ExpressionsKept, ParametersKept, RecordsKept}
use Rattle.design.specs.RecordsAt.{CommandAt, ExpressionAt}
use Rattle.design.specs.Scopes.{Scopes}

-- past every command and every expression
abbrev pub node_places : ℕ
node_places = expression_place + expressions_max

-- what was found, as a place
abbrev pub node_place_of : Option ℕ → ℕ
node_place_of found = found_or node_places found

abbrev pub node_unless : Bool → ℕ → ℕ
node_unless kept place = cond kept node_places place

-- the places at which an expression names a parameter that is not in scope: those in scope have the bytes below an end
unfoldable pub names_past : ℕ → Expr → List ℕ
names_past end (constant v) = []
names_past end (register n r) = charged_unless (ltb r end) (expression_place + n)
names_past end (binary o p q) = names_past end p ++ names_past end q

-- ---- what is known where an image is read
-- an argument is given to parameter v, whose bounds are labels
pub record Given (image : List ℕ) (x : Design) (v : ℕ) : Type 0 where
  pub state : v < binding_length * x.states
  pub lower_label : lower_bound (design_of image) v < length (design_of image).rows
  pub upper_label : upper_bound (design_of image) v < length (design_of image).rows

-- byte r is an argument in state s
pub record Argument (d : Table) (s r : ℕ) : Type 0 where
  pub is : is_argument d s r ≡ true

-- an argument is judged in state s
pub record Arguing (image scopes : List ℕ) (x : Design) (s : ℕ) : Type 0 where
  pub known : RecordsKept image x
  pub parameters : ParametersKept (design_of image)
  pub table : Scopes (design_of image) scopes
  pub state : s < x.states

-- how many registers there are, and the first byte that names no parameter in scope of s
pub record Counting (image : List ℕ) (registers s end : ℕ) : Type 0 where
  pub all : registers ≡ length (design_of image).registers
  pub past : end ≡ parameter_register + length (scope_of (design_of image) s)

-- expression e is read
pub record Reading (image : List ℕ) (x : Design) (e : ℕ) : Type 0 where
  pub expressions : ExpressionsKept (design_of image)
  pub expression : ExpressionAt image x x.expressions_at e

-- command n of state s is judged
pub record Scoping (image scopes : List ℕ) (x : Design) (s n : ℕ) : Type 0 where
  pub arguing : Arguing image scopes x s
  pub command : CommandAt image x x.commands_at n

-- ---- the same, of an `Image`
abbrev pub GivenIn : Image → ℕ → Type 0
GivenIn image v = Given image.bytes.now image.design v

abbrev pub ArguingIn : Image → List ℕ → ℕ → Type 0
ArguingIn image scopes s = Arguing image.bytes.now scopes image.design s

abbrev pub CountingIn : Image → ℕ → ℕ → Type 0
CountingIn image s end = Counting image.bytes.now image.design.registers s end

abbrev pub ReadingIn : Image → ℕ → Type 0
ReadingIn image e = Reading image.bytes.now image.design e

abbrev pub ScopingIn : Image → List ℕ → ℕ → ℕ → Type 0
ScopingIn image scopes s n = Scoping image.bytes.now scopes image.design s n
