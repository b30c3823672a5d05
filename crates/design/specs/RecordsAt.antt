-- What is known of a state, and of a node whose record was judged, where the records of its kind begin at a place.
use Rattle.std.specs.Prelude.{ℕ, ◌<◌, ◌≡◌, true, List}
use Rattle.model.specs.Image.{design_of}
use Rattle.model.specs.Kinds.{command_kept, expression_kept}
use Rattle.design.specs.declared.Design.{Design}
use Rattle.design.specs.Describes.{Describes}

pub record StateAt (image : List ℕ) (x : Design) (place s : ℕ) : Type 0 where
  pub describes : Describes image x
  pub state : s < x.states
  pub begins : place ≡ x.states_at

pub record CommandAt (image : List ℕ) (x : Design) (place n : ℕ) : Type 0 where
  pub describes : Describes image x
  pub node : n < x.commands
  pub kept : command_kept (design_of image) n ≡ true
  pub begins : place ≡ x.commands_at

pub record ExpressionAt (image : List ℕ) (x : Design) (place e : ℕ) : Type 0 where
  pub describes : Describes image x
  pub node : e < x.expressions
  pub kept : expression_kept (design_of image) e ≡ true
  pub begins : place ≡ x.expressions_at
