-- The verdict accepts exactly the images that keep the rules: each stage of the verdict finds nothing exactly where its rule holds everywhere.
use Prim.Native.Nat.{ℕ}
use mathlib.Core.Path.{◌≡◌}
use mathlib.Core.Logic.Iff
use mathlib.Core.Logic.{◌↔◌}
use mathlib.Core.List.{List}
use Rattle.model.specs.declared.Refusal.TheVariants.{Directory, LabelRow, RegisterRecord, StateRecord, NodeRecord, NodeUse, Depth, Shape, ChildLabel, PortAssigned, Parameter}
use Rattle.model.specs.Answers.{Accepted}
use Rattle.model.specs.Answers.{numbers_of}
use Rattle.model.specs.Calls.{check}
use Rattle.model.specs.Image.{Design, design_of}
use Rattle.model.specs.Verdict.{design_structure, structure, verdict}
use Rattle.model.specs.Rules.{DirectoryKeeps, StructureKeeps, Keeps}
use Rattle.model.proofs.Laws.Found.{zero_unless_iff, failing_iff, node_iff}
use Rattle.model.proofs.Laws.Numbers.{told_accepted}
use Rattle.model.proofs.Laws.Verdict.{CountsNothing, before_iff, searched_iff, both_iff, searched_counts_nothing, before_counts_nothing}
use Directories.{directory_iff}
use Labels.{lattice_iff}
use Falls.{child_label_iff}
use Records.{register_iff, state_iff, port_iff, command_iff, expression_iff, command_used_iff, expression_used_iff, command_depth_iff, expression_depth_iff}
use Shapes.{shape_iff}
use Parameters.{parameters_iff}
use Scopes.{scope_iff}
use Flows.{flow_iff}
pub mod Directories
pub mod Labels
pub mod Records
pub mod Falls
pub mod Shapes
pub mod Parameters
pub mod Scopes
pub mod Flows

-- a pair, written without brackets; `before_iff` pairs a stage with all that follow it
infixr 5 ◌and◌
◌and◌ : {P Q : Type 0} → P → Q → P × Q
p and q = (p, q)

-- checks 2 to 9, 16 and 19
pub design_structure_exact : (d : Design) → (design_structure d ≡ Accepted 0) ↔ StructureKeeps d
unfolding design_structure
design_structure_exact d =
    Iff.trans
    (before_iff LabelRow (lattice_iff d.rows)
    (before_iff RegisterRecord (failing_iff (register_iff d))
    (before_iff StateRecord (failing_iff (state_iff d))
    (before_iff NodeRecord (node_iff d (command_iff d) (expression_iff d))
    (before_iff NodeUse (node_iff d (command_used_iff d) (expression_used_iff d))
    (before_iff Depth (node_iff d (command_depth_iff d) (expression_depth_iff d))
    (before_iff Shape (shape_iff d)
    (before_iff PortAssigned (failing_iff (port_iff d))
    (before_iff Parameter (failing_iff (parameters_iff d))
    (before_iff Parameter (scope_iff d)
    (searched_iff ChildLabel (failing_iff (child_label_iff d))))))))))))) (
      λ (lattice, (registers, (states, (nodes, (uses, (depths, (shapes, (ports, (parameters, (scopes, children)))))))))).
          record {
            lattice = lattice;
            registers = registers;
            states = states;
            commands = nodes.0;
            expressions = nodes.1;
            commands_used = uses.0;
            expressions_used = uses.1;
            commands_depth = depths.0;
            expressions_depth = depths.1;
            transferring = λ s l. (shapes s l).0;
            shaped = λ s l. (shapes s l).1;
            ports = ports;
            parameters = parameters;
            scoped = scopes;
            child_labels = children;
          },
      λ k.
          k.lattice
          and k.registers
          and k.states
          and (k.commands and k.expressions)
          and (k.commands_used and k.expressions_used)
          and (k.commands_depth and k.expressions_depth)
          and (λ s l. k.transferring s l and k.shaped s l)
          and k.ports
          and k.parameters
          and k.scoped
          and k.child_labels,
    )

-- the image checks but for 10 to 12
pub structure_exact : (image : List ℕ) → (structure image ≡ Accepted 0) ↔ (DirectoryKeeps image × StructureKeeps (design_of image))
unfolding structure
structure_exact image = before_iff Directory (Iff.trans zero_unless_iff (directory_iff image)) (design_structure_exact (design_of image))

pub structure_counts_nothing : (image : List ℕ) → CountsNothing (structure image)
unfolding structure design_structure
structure_counts_nothing image =
    before_counts_nothing _ _
    (before_counts_nothing _ _
    (before_counts_nothing _ _
    (before_counts_nothing _ _
    (before_counts_nothing _ _
    (before_counts_nothing _ _
    (before_counts_nothing _ _
    (before_counts_nothing _ _
    (before_counts_nothing _ _
    (before_counts_nothing _ _
    (before_counts_nothing _ _
    (searched_counts_nothing ChildLabel _)))))))))))

-- all image checks
pub verdict_exact : (image : List ℕ) → (verdict image ≡ Accepted 0) ↔ Keeps image
unfolding verdict
verdict_exact image =
    Iff.trans
    (both_iff (structure_counts_nothing image) (structure_exact image) (flow_iff (design_of image)))
    (λ h. record { directory = h.0.0; design = record { structure = h.0.1; flowing = h.1 } }, λ k. ((k.directory, k.design.structure), k.design.flowing))

-- the same through the numbers that the host is given
pub check_exact : (image : List ℕ) → (numbers_of (check image) ≡ record { number = 0; place = 0; count = 0 }) ↔ Keeps image
unfolding check
check_exact image = Iff.trans (told_accepted (verdict image) 0) (verdict_exact image)
