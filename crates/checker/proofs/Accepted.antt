-- What acceptance gives to every caller, once and for all: the image keeps the rules, so each record, node and body is well formed.
use Prim.Native.Nat.{ℕ}
use mathlib.Core.Path.{◌≡◌, sym, ◌∙◌, ap}
use mathlib.Core.List.{List}
use Rattle.model.specs.Answers.{Answer, Accepted}
use Rattle.model.specs.Image.{Design as Table, design_of}
use Rattle.model.specs.Rules.{DirectoryKeeps, StructureKeeps, Keeps}
use Rattle.model.specs.Verdict.{structure, verdict}
use Rattle.model.proofs.Exact.{structure_counts_nothing, structure_exact, verdict_exact}
use Rattle.model.proofs.Refused.{accepted_count}
use Rattle.model.proofs.Exact.Records.{register_iff, state_iff, command_iff, expression_iff}
use Rattle.model.proofs.Exact.Parameters.{parameters_iff}
use Rattle.design.specs.declared.Design.{Design}
use Rattle.design.specs.Describes.{Describes}
use Rattle.design.specs.Kept.{ParametersKept, RecordsKept}
use Rattle.design.specs.Scopes.{ScopesShort}
use Rattle.design.proofs.BoundRules.{scopes_short}
use Rattle.checker_flow.specs.Flows.{BodiesKept}

-- ---- once the structure is accepted
module _ (image : List ℕ) {a : Answer} {n : ℕ} (is : a ≡ structure image) (accepts : a ≡ Accepted n) where
  pub structured_is : structure image ≡ Accepted 0
  structured_is = let accepted : structure image ≡ Accepted n = sym is ∙ accepts in accepted ∙ ap Accepted (structure_counts_nothing image n accepted)

  pub structured_directory : DirectoryKeeps image
  structured_directory = ((structure_exact image).0 structured_is).0

  pub structured_keeps : StructureKeeps (design_of image)
  structured_keeps = ((structure_exact image).0 structured_is).1

-- and what the code above the checker is handed
pub structure_known : {image : List ℕ} {x : Design} → StructureKeeps (design_of image) → Describes image x → RecordsKept image x
structure_known {image} rules describes =
    let d = design_of image in
    record {
      describes = describes;
      lattice = record { lattice = rules.lattice };
      registers = record { kept = λ r l. (register_iff d r).1 (rules.registers r l) };
      states = record { kept = λ s l. (state_iff d s).1 (rules.states s l) };
      commands = record { kept = λ n l. (command_iff d n).1 (rules.commands n l) };
      expressions = record { kept = λ n l. (expression_iff d n).1 (rules.expressions n l) };
    }

module _ {d : Table} (rules : StructureKeeps d) where
  pub structure_parameters : ParametersKept d
  structure_parameters = record { kept = λ s l. (parameters_iff d s).1 (rules.parameters s l) }

  pub structure_scopes : ScopesShort d
  structure_scopes = scopes_short structure_parameters

  pub structure_bodies : BodiesKept d
  structure_bodies = record { shaped = rules.shaped; scoped = rules.scoped }

-- ---- once the whole is accepted
pub accepted_keeps : {image : List ℕ} {a : Answer} {n : ℕ} → a ≡ verdict image → a ≡ Accepted n → Keeps image
accepted_keeps {image} {a} {n} e h =
    let accepted : verdict image ≡ Accepted n = sym e ∙ h in
    (verdict_exact image).0 (accepted ∙ ap Accepted (accepted_count image accepted))

pub accepted_known : {image : List ℕ} {x : Design} → Keeps image → Describes image x → RecordsKept image x
accepted_known keeps describes = structure_known keeps.design.structure describes

pub accepted_parameters : {image : List ℕ} → Keeps image → ParametersKept (design_of image)
accepted_parameters keeps = structure_parameters keeps.design.structure

pub accepted_scopes : {image : List ℕ} → Keeps image → ScopesShort (design_of image)
accepted_scopes keeps = structure_scopes keeps.design.structure

pub accepted_bodies : {image : List ℕ} → Keeps image → BodiesKept (design_of image)
accepted_bodies keeps = structure_bodies keeps.design.structure
