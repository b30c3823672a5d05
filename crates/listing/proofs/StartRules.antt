-- After a reset the areas hold the reset values, which are within their widths, the default targets, which are sound, and no bindings.
use Prim.Native.Nat.{ℕ, ◌*◌}
use mathlib.Core.Path.{◌≡◌, ◌∙◌, ap}
use mathlib.Core.List.{List}
use native.Mathlib.Omega.{arith}
use lib.ListN.{length, length-append}
use Rattle.model.specs.Image.{design_of}
use Rattle.model.specs.Rules.{Keeps}
use Rattle.model.specs.Machine.{reset_areas, cycles, after_last, after_cycles}
use Rattle.model.specs.Calls.{Lent, areas_of, lent_of}
use Rattle.model.proofs.Laws.Cycles.{reset_length}
use Rattle.model.proofs.Independence.Relation.{Good}
use Rattle.model.proofs.Independence.Widths.{reset_fitting}
use Rattle.model.proofs.Independence.Runs.{reset_good}
use Rattle.model.proofs.Independence.Calls.{areas_of_lent, length-lent}
use Rattle.model.proofs.Independence.Theorem.{accepted_design}
use Rattle.model.proofs.Exact.Records.{state_iff}
use Rattle.design.specs.declared.Design.{Design}
use Rattle.design.specs.Describes.{Describes}
use Rattle.design.specs.Kept.{StatesKept}
use Rattle.design.specs.Resets.{Defaults, lends}
use Rattle.design.specs.Scopes.{Scopes}
use Rattle.design.proofs.Laws.{registers_count, states_count}
use Rattle.machine.specs.Cycles.{Running, areas_in}
use Rattle.checker.proofs.Accepted.{accepted_known}
use Rattle.listing.specs.Lines.{RunningAt}

pub start_kept : {image : List ℕ} → Keeps image → StatesKept (design_of image)
start_kept {image} keeps = record { kept = λ s l. (state_iff (design_of image) s).1 (keeps.design.structure.states s l) }

module _ (image : List ℕ) (keeps : Keeps image) (registers targets : List ℕ) (reset : lends registers targets ≡ lent_of (reset_areas (design_of image))) where
  -- the areas of reset are good
  good : Good (design_of image) (reset_areas (design_of image))
  unfolding reset_areas
  good =
      let d = design_of image in
      reset_good d (accepted_design image keeps) (reset_areas d).registers (reset_length d) (reset_fitting d keeps.design.structure)

  registers_are : registers ≡ (lent_of (reset_areas (design_of image))).registers
  registers_are = ap (λ (lent : Lent). lent.registers) reset

  targets_are : targets ≡ (lent_of (reset_areas (design_of image))).targets
  targets_are = ap (λ (lent : Lent). lent.targets) reset

  start_areas_lem : areas_in (design_of image) registers targets ≡ reset_areas (design_of image)
  unfolding areas_of
  start_areas_lem = ap (areas_of (design_of image)) reset ∙ areas_of_lent (design_of image) keeps.design.structure (reset_areas (design_of image)) good

  start_good : Good (design_of image) (areas_in (design_of image) registers targets)
  start_good = rw start_areas_lem good

  area_long : {x : Design} → Describes image x → length registers ≡ 4 * x.registers
  area_long describes =
      let long = ap length registers_are ∙ length-lent (design_of image) keeps.design.structure (reset_areas (design_of image)) good in
      let count = registers_count describes in
      omega arith

  targets_long : {x : Design} → Describes image x → length targets ≡ 3 * x.states
  unfolding lent_of
  targets_long describes =
      let d = design_of image in
      let both = ap length targets_are ∙ length-append (reset_areas d).targets (reset_areas d).bindings in
      let first = good.targets_length in
      let second = good.bindings_length in
      let count = states_count describes in
      omega arith

  start_running : {x : Design} {table in_scope : List ℕ} → Describes image x → Defaults (design_of image) table → Scopes (design_of image) in_scope → Running image x table in_scope registers targets
  start_running describes defaults scopes =
      record {
        known = accepted_known keeps describes;
        keeps = keeps;
        defaults = defaults;
        scopes = scopes;
        area = area_long describes;
        states = targets_long describes;
        fitting = start_good.fitting;
        sound = start_good.sound;
        bound = start_good.bound;
      }

  pub start_at : {x : Design} {table in_scope : List ℕ} → Describes image x → Defaults (design_of image) table → Scopes (design_of image) in_scope → RunningAt image x table in_scope registers targets 0
  unfolding after_cycles cycles after_last
  start_at describes defaults scopes = record { areas = start_areas_lem; running = start_running describes defaults scopes }
