-- The directory rule holds exactly where each of its tests does.
use mathlib.Core.Path.{◌≡◌}
use mathlib.Core.Logic.{◌↔◌}
use mathlib.Core.Bool.{true}
use mathlib.Core.List.{List}
use Prim.Native.Nat.{ℕ}
use Rattle.model.specs.Image.{Section, Labels, Registers, States, Commands, Expressions, section_kept, offsets_kept, directory_kept}
use Rattle.model.specs.Rules.{SectionKeeps, DirectoryKeeps}
use Rattle.model.proofs.Laws.Equivalences.{at_most_iff, equal_iff, and_iff, and_three_iff}

pub section_iff : (image : List ℕ) (s : Section) → (section_kept image s ≡ true) ↔ SectionKeeps image s
unfolding section_kept
section_iff image s =
    let all = and_three_iff equal_iff at_most_iff at_most_iff in
    (λ e. let h = all.0 e in record { whole = h.0; at_least = h.1; at_most = h.2 }, λ k. all.1 (k.whole, k.at_least, k.at_most))

-- a property of every section
each : (P : Section → Type 0) → P Labels → P Registers → P States → P Commands → P Expressions → (s : Section) → P s
each P l r t c e Labels = l
each P l r t c e Registers = r
each P l r t c e States = t
each P l r t c e Commands = c
each P l r t c e Expressions = e

pub directory_iff : (image : List ℕ) → (directory_kept image ≡ true) ↔ DirectoryKeeps image
unfolding directory_kept offsets_kept
directory_iff image =
    let offsets = and_iff (and_iff (and_iff (and_iff (and_iff (and_iff at_most_iff equal_iff) equal_iff) equal_iff) equal_iff) equal_iff) equal_iff in
    let all = and_iff (and_iff (and_iff (and_iff (and_iff offsets (section_iff image Labels)) (section_iff image Registers)) (section_iff image States)) (section_iff image Commands)) (section_iff image Expressions) in (
      λ e.
          let (((((((((((present, labels), registers), states), commands), expressions), ends), l), r), t), c), x) = all.0 e in
          record {
            present = present;
            labels_at = labels;
            registers_at = registers;
            states_at = states;
            commands_at = commands;
            expressions_at = expressions;
            ends = ends;
            sections = each (SectionKeeps image) l r t c x;
          },
      λ k. all.1 (((((((((((k.present, k.labels_at), k.registers_at), k.states_at), k.commands_at), k.expressions_at), k.ends), k.sections Labels), k.sections Registers), k.sections States), k.sections Commands), k.sections Expressions),
    )
