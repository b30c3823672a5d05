-- The tables of a run, over fresh ones: there is room for the entries of all states, and where no state has parameters the zeros are the scopes.
use Prim.Native.Nat.{ℕ, ◌*◌, ◌≤◌}
use mathlib.Core.Path.{◌≡◌, ◌∙◌, ap}
use mathlib.Core.Bool.{Bool, true, not}
use mathlib.Core.List.{List}
use native.Mathlib.Omega.{arith}
use lib.ListN.{length, replicate, length-replicate}
use Rattle.model.specs.Image.{design_of}
use Rattle.model.specs.Rules.{Keeps}
use Rattle.model.specs.Parameters.{has_parameters}
use Rattle.model.proofs.Laws.Booleans.{not_true}
use Rattle.model.proofs.Exact.Records.{state_iff}
use Rattle.design.specs.declared.Design.{Design}
use Rattle.design.specs.Describes.{Describes}
use Rattle.design.specs.Kept.{StatesKept}
use Rattle.design.specs.Scopes.{with_scopes, Scopes}
use Rattle.design.proofs.Laws.{states_count}
use Rattle.design.proofs.ResetRules.{states_few}
use Rattle.design.proofs.ScopeRules.{empty_scopes, scopes_stay, no_parameters}

-- what an accepted image gives
pub states_kept : {image : List ℕ} → Keeps image → StatesKept (design_of image)
states_kept {image} keeps = record { kept = λ s l. (state_iff (design_of image) s).1 (keeps.design.structure.states s l) }

-- a fresh table of scopes has room for those of the design, and tells them where it has no parameters
module _ {image table : List ℕ} {x : Design} (d : Describes image x) (fresh : table ≡ replicate {A = ℕ} 192 0) where
  pub fresh_room : 3 * x.states ≤ length table
  fresh_room = let few = states_few d in let long = ap length fresh ∙ length-replicate {A = ℕ} 192 0 in omega arith

  module _ {b : Bool} (is : b ≡ has_parameters (design_of image)) (h : not b ≡ true) where
    pub scopes_same : table ≡ with_scopes (design_of image) x.states table
    scopes_same = scopes_stay (no_parameters (design_of image) (not_true b h) is) x.states fresh

    pub scopes_fresh : Scopes (design_of image) table
    scopes_fresh = rw fresh (empty_scopes d (no_parameters (design_of image) (not_true b h) is))

-- all their entries
pub scopes_whole : {image table fresh : List ℕ} {x : Design} → Describes image x → fresh ≡ replicate {A = ℕ} 192 0 → table ≡ with_scopes (design_of image) x.states fresh → table ≡ with_scopes (design_of image) (length (design_of image).states) (replicate {A = ℕ} 192 0)
scopes_whole d fresh e = rw (← states_count d, ← fresh) e
