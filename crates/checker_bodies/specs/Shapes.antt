-- What the pass for refusal 8 knows and finds at a command.
use Rattle.std.specs.Prelude.{ℕ, min, ◌+◌, ◌*◌, ◌/◌, ◌%◌, ◌<◌, ◌≡◌, Bool, true, ◌&&◌, ◌||◌, not, List, eqb, length, Option}
use Rattle.std.specs.Bool.{beq}
use Rattle.model.specs.Indices.{lowest_of, filled_to}
use Rattle.model.specs.Limits.{commands_max}
use Rattle.model.specs.Image.{design_of, Design as Table}
use Rattle.model.specs.States.{has_child}
use Rattle.model.specs.Trees.{Cmd, body_of}
use Rattle.model.specs.Values.{one_or_zero}
use Rattle.model.specs.Shape.{transfers, shape_faults, state_shape_faults, shape_fault}
use Rattle.model.specs.Falls.{holds_fall}
use Rattle.design.specs.declared.Design.{Design}
use Rattle.design.specs.declared.image.Image.{Image}
use Rattle.design.specs.Describes.{Describes}
use Rattle.design.specs.Falls.{FallsTold}
use Rattle.design.specs.Kept.{StatesKept, CommandsKept}
use Rattle.design.specs.RecordsAt.{CommandAt}
use Rattle.checker_bodies.specs.Places.{place_unless, place_of}

-- what a command's shape comes to: whether it transfers, whether it holds a fall, and the lowest node that breaks a rule
pub record Judged : Type 0 where
  pub transfers : Bool
  pub falls : Bool
  pub lowest : Option ℕ

unfoldable pub judged_of : Table → ℕ → Cmd → Judged
judged_of d s c = record { transfers = transfers c; falls = holds_fall c; lowest = lowest_of (shape_faults d s c) }

-- the same as one number, as the code carries it: four times the lowest place, two more where the command holds a fall, and one more where it transfers
abbrev pub judgement_of : Bool → Bool → ℕ → ℕ
judgement_of transfers falls place = 4 * place + 2 * one_or_zero falls + one_or_zero transfers

unfoldable pub number_of : Judged → ℕ
number_of j = judgement_of j.transfers j.falls (place_of j.lowest)

-- what the body of state s comes to, as a number; one that does not transfer is charged to its command, so that nothing is left to say of transferring
unfoldable pub body_number_of : Table → ℕ → ℕ
body_number_of d s = judgement_of true (holds_fall (body_of d s)) (place_of (lowest_of (state_shape_faults d s)))

-- what a number says of falls
abbrev pub falls_in : ℕ → Bool
falls_in r = eqb (r / 2 % 2) 1

-- the greatest such number: no place, and three more
abbrev pub judgement_most : ℕ
judgement_most = judgement_of true true commands_max

-- the numbers of a sequence and of an if, from those of their parts
abbrev pub sequenced_as : ℕ → ℕ → ℕ → ℕ
sequenced_as n p q = judgement_of (eqb (q % 2) 1) (falls_in p || falls_in q) (min (place_unless (not (eqb (p % 2) 1)) n) (min (p / 4) (q / 4)))

abbrev pub branched_as : ℕ → ℕ → ℕ → ℕ
branched_as n p q =
    judgement_of (eqb (p % 2) 1 && eqb (q % 2) 1) (falls_in p || falls_in q) (min (place_unless (beq (eqb (p % 2) 1) (eqb (q % 2) 1)) n) (min (p / 4) (q / 4)))

-- what is known where command n of state s is judged; the recursion has the places of a design instead of the design
pub record Judging (image : List ℕ) (x : Design) (s n : ℕ) (child : Bool) : Type 0 where
  pub commands : CommandsKept (design_of image)
  pub state : s < x.states
  pub command : CommandAt image x x.commands_at n
  pub children : child ≡ has_child (design_of image) s

-- what the passes up to refusal 5 have established, and the shape pass needs
pub record ShapeKnown (image : List ℕ) (x : Design) : Type 0 where
  pub describes : Describes image x
  pub states : StatesKept (design_of image)
  pub commands : CommandsKept (design_of image)

-- a table with 1 at each state that holds a fall, and 0 at each that holds none; the bytes behind them stay
unfoldable pub with_falls : Table → List ℕ → List ℕ
with_falls d old = filled_to (λ s. one_or_zero (holds_fall (body_of d s))) (length d.states) old

-- what the pass found, and the table that it filled
pub record ShapesPassed (d : Table) (found : Option ℕ) (old table : List ℕ) : Type 0 where
  pub is : found ≡ shape_fault d
  pub table_is : table ≡ with_falls d old
  pub falls : FallsTold d table

-- ---- the same, of an `Image`
abbrev pub JudgingIn : Image → ℕ → ℕ → Bool → Type 0
JudgingIn image s n child = Judging image.bytes.now image.design s n child

abbrev pub ShapeKnownIn : Image → Type 0
ShapeKnownIn image = ShapeKnown image.bytes.now image.design
