-- The labels of a design's registers as a list of their own, in the order of the registers, and a design with other labels.
use Rattle.std.specs.Prelude.{ℕ, List, [], ◌∷◌, map}
use Rattle.model.specs.Image.{Design, Register}

unfoldable pub labels_of : Design → List ℕ
labels_of d = map (λ (r : Register). r.label) d.registers

-- registers with other labels; one for which there is none keeps its own
unfoldable pub with_labels : List Register → List ℕ → List Register
with_labels [] labels = []
with_labels (r ∷ rs) [] = r ∷ rs
with_labels (r ∷ rs) (label ∷ labels) = record { label = label; kind = r.kind; reset = r.reset; width = r.width } ∷ with_labels rs labels

abbrev pub relabelled : Design → List ℕ → Design
relabelled d labels =
    record {
      rows = d.rows;
      registers = with_labels d.registers labels;
      states = d.states;
      commands = d.commands;
      expressions = d.expressions;
    }
