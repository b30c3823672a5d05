-- Areas under new numbers: the same registers, the target of each state that stays and holds a fall moved with it, and the same bindings of each state that stays. So the body of a
-- state that stays runs with the same registers bound: all that is in its scope belongs to states that stay.
use Prim.Native.Nat.{ℕ, ◌+◌, ◌*◌, ◌/◌, ◌%◌, ◌<◌}
use mathlib.Core.Path.{◌≡◌, refl, ◌∙◌, ap, ap₂}
use mathlib.Core.List.{List, [], ◌∷◌, map}
use native.Mathlib.Omega.{arith}
use lib.ListN.{get_or, length-set}
use Rattle.model.specs.Limits.{binding_length}
use Rattle.model.specs.Image.{Design, Register}
use Rattle.model.specs.Trees.{body_of}
use Rattle.model.specs.Parameters.{scope_of}
use Rattle.model.specs.Values.{modulus}
use Rattle.model.specs.Bindings.{cmd_with, bound_in, body_with}
use Rattle.model.specs.Rules.{HoldsFall, DesignKeeps}
use Rattle.model.specs.Machine.{Areas, exec}
use Rattle.model.proofs.Independence.Relation.{Good, with_register}
use Rattle.model.proofs.Independence.Widths.{set_fitting}
use Rattle.model.proofs.Independence.Path.{ran, target}
use Rattle.renumbering.specs.Renumbering.{renumbered_cmd}
use Rattle.renumbering.specs.Renumbers.{Renumbers}
use Rattle.renumbering.proofs.Trees.{body_renumbered}
use Rattle.renumbering.proofs.Scopes.{moved, TheirStatesStay, scope_renumbered, scope_stays}
use Rattle.renumbering.proofs.Bodies.{body_names}
use Rattle.renumbering.proofs.Running.Execution.{executed_under, exec_renumbered, EndStays, end_stays}

-- areas of the old design and of the new one, both good, that are the same under the new numbers
pub record Same (d d' : Design) (state : ℕ → ℕ) (S : ℕ → Type 0) (a a' : Areas) : Type 0 where
  pub registers : a'.registers ≡ a.registers
  pub targets : (s : ℕ) → S s → HoldsFall (body_of d s) → S (target a s) × (target a' (state s) ≡ state (target a s))
  pub bindings : (s j : ℕ) → S s → j < binding_length → get_or a'.bindings (binding_length * state s + j) 0 ≡ get_or a.bindings (binding_length * s + j) 0
  pub good : Good d a
  pub good' : Good d' a'

-- ---- what is bound
-- some parameters, whose states stay
bound_each : (state : ℕ → ℕ) (S : ℕ → Type 0) (bindings bindings' : List ℕ)
    → ((s j : ℕ) → S s → j < binding_length → get_or bindings' (binding_length * state s + j) 0 ≡ get_or bindings (binding_length * s + j) 0)
    → (scope : List ℕ)
    → TheirStatesStay S scope
    → map (λ v. get_or bindings' v 0) (map (moved state) scope) ≡ map (λ v. get_or bindings v 0) scope
unfolding moved
bound_each state S bindings bindings' same [] stay = refl
bound_each state S bindings bindings' same (v ∷ scope) stay =
    let place : v % binding_length < binding_length = omega arith in
    let whole : binding_length * (v / binding_length) + v % binding_length ≡ v = omega arith in
    ap₂ ◌∷◌ (same (v / binding_length) (v % binding_length) stay.0 place ∙ ap (λ (w : ℕ). get_or bindings w 0) whole) (bound_each state S bindings bindings' same scope stay.1)

module _ {d d' : Design} {state command expression : ℕ → ℕ} {S C E : ℕ → Type 0} (keeps : DesignKeeps d) (new : Renumbers d d' state command expression S C E) where
  pub same_bound : (a a' : Areas) → Same d d' state S a a' → (s : ℕ) → S s → bound_in d' a'.bindings (state s) ≡ bound_in d a.bindings s
  unfolding bound_in
  same_bound a a' same s stays =
      ap (map (λ v. get_or a'.bindings v 0)) (scope_renumbered keeps new s stays)
      ∙ bound_each state S a.bindings a'.bindings same.bindings (scope_of d s) (scope_stays keeps new s stays)

  -- the body of a state that stays, as it runs
  pub same_body : (a a' : Areas) → Same d d' state S a a' → (s : ℕ) → S s
      → body_with d' a'.bindings (state s) ≡ cmd_with (bound_in d a.bindings s) (renumbered_cmd state command expression (body_of d s))
  unfolding body_with
  same_body a a' same s stays = ap₂ cmd_with (same_bound a a' same s stays) (body_renumbered d d' state command expression S C E keeps new s stays)

  -- and what it makes of the areas
  pub same_ran : (a a' : Areas) → Same d d' state S a a' → (s : ℕ) → S s → ran d' (state s) a' ≡ executed_under state (ran d s a)
  unfolding body_with
  same_ran a a' same s stays =
      let body = cmd_with (bound_in d a.bindings s) (renumbered_cmd state command expression (body_of d s)) in
      ap₂ (exec d'.registers) same.registers (same_body a a' same s stays)
      ∙ ap (λ (registers : List Register). exec registers a.registers body) new.registers
      ∙ exec_renumbered state command expression d.registers (bound_in d a.bindings s) a.registers (body_of d s)

  pub ran_stays : (a : Areas) (s : ℕ) → S s → EndStays S (ran d s a).outcome
  unfolding body_with
  ran_stays a s stays = end_stays S d.registers (bound_in d a.bindings s) a.registers (body_of d s) (body_names keeps new s stays)

-- ---- a port write
set_good : (d : Design) (a : Areas) → Good d a → (r v : ℕ) → v < modulus d.registers r → Good d (with_register r v a)
set_good d a good r v l =
    record {
      registers_length = length-set a.registers r v ∙ good.registers_length;
      targets_length = good.targets_length;
      fitting = set_fitting d.registers a.registers r v l good.fitting;
      sound = good.sound;
      bindings_length = good.bindings_length;
      bound = good.bound;
    }

pub written_same : {d d' : Design} {state command expression : ℕ → ℕ} {S C E : ℕ → Type 0} → Renumbers d d' state command expression S C E
    → (a a' : Areas)
    → Same d d' state S a a'
    → (r v : ℕ)
    → v < modulus d.registers r
    → Same d d' state S (with_register r v a) (with_register r v a')
written_same {d} {d'} new a a' same r v l =
    record {
      registers = rw same.registers;
      targets = same.targets;
      bindings = same.bindings;
      good = set_good d a same.good r v l;
      good' = set_good d' a' same.good' r v (rw new.registers l);
    }
