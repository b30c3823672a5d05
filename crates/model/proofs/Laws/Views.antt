-- Laws of views (02, E8): what is bound to a state's own parameters stands at the end of what is bound in its scope, so a walk with all that is bound in scope
-- tells the walk with what is bound to own parameters.
use Prim.Native.Nat.{ℕ, ◌-◌}
use mathlib.Core.Path.{◌≡◌, refl, ◌∙◌, ap}
use mathlib.Core.Bool.{Bool, true, false, cond}
use mathlib.Core.List.{List, [], ◌∷◌, ◌++◌, map, map-append}
use native.Mathlib.Omega.{arith}
use lib.ListN.{length, get_or, drop, length-map, length-append}
use lib.Seq.{drop-append_seam}
use Rattle.model.specs.Image.{Design, state_at}
use Rattle.model.specs.States.{parent}
use Rattle.model.specs.Parameters.{own_parameters, scope_of}
use Rattle.model.specs.Bindings.{bound_in, own_bound}
use Rattle.model.specs.Parties.{RanState, state_seen, walk_seen, wider_walk_seen}
use Rattle.model.proofs.Laws.Indices.{only_below, recursively_step}
use Rattle.model.proofs.Laws.Scopes.{own_length}

-- the last entries of a list
abbrev last_of : ℕ → List ℕ → List ℕ
last_of n xs = drop (length xs - n) xs

last_of_both : (xs ys : List ℕ) (n : ℕ) → length ys ≡ n → last_of n (xs ++ ys) ≡ ys
last_of_both xs ys n size =
    let both = length-append xs ys in
    let first : length (xs ++ ys) - n ≡ length xs = omega arith in
    ap (λ (k : ℕ). drop k (xs ++ ys)) first ∙ drop-append_seam xs ys

-- a state of a walk with the part of what is bound that belongs to its own parameters
abbrev pub own_part : Design → RanState → RanState
own_part d x = record { state = x.state; bound = last_of (state_at d x.state).parameters x.bound }

module _ (d : Design) (bindings : List ℕ) where
  own_part_lem : (s : ℕ) → last_of (state_at d s).parameters (bound_in d bindings s) ≡ own_bound d bindings s
  unfolding bound_in own_bound scope_of
  own_part_lem s =
      let bound : ℕ → ℕ = λ v. get_or bindings v 0 in
      let around = only_below [] s (scope_of d) (parent d s) in
      let own = own_parameters d s in
      let parts : map bound (scope_of d s) ≡ map bound around ++ map bound own =
      ap (map bound) (recursively_step [] (λ q above. above (parent d q) ++ own_parameters d q) s) ∙ map-append bound around own in
      rw parts (last_of_both (map bound around) (map bound own) (state_at d s).parameters (length-map own bound ∙ own_length d s))

  pub walk_by_wider : (level : ℕ) (walk : List ℕ) → walk_seen d level bindings walk ≡ map (own_part d) (wider_walk_seen d level bindings walk)
  unfolding walk_seen wider_walk_seen
  walk_by_wider level [] = refl
  walk_by_wider level (s ∷ more) = rw (walk_by_wider level more, ← (own_part_lem s)) (go (state_seen d level bindings s))
    where
      wider : List RanState
      wider = wider_walk_seen d level bindings more

      here : RanState
      here = record { state = s; bound = bound_in d bindings s }

      go : (b : Bool) → cond b (own_part d here ∷ map (own_part d) wider) (map (own_part d) wider) ≡ map (own_part d) (cond b (here ∷ wider) wider)
      go true = refl
      go false = refl
