-- Demand 3: the relation of `Runs.antt` holds from reset between two accepted images that have the same in common at a level (02, E14), and so within one, and
-- `Lists.antt` carries it through whole lists of calls. All that it uses of an image beside that is drawn from its verdict.
use Prim.Native.Nat.{ℕ, ◌≤◌, ◌<◌}
use mathlib.Core.Path.{◌≡◌, refl, ap}
use mathlib.Core.List.{List}
use native.Mathlib.Omega.{arith}
use lib.ListN.{length, drop}
use Rattle.model.specs.Answers.{Accepted}
use Rattle.model.specs.Limits.{state_length}
use Rattle.model.specs.Image.{Labels, Registers, States, count, offset, state_of, section_of, design_of}
use Rattle.model.specs.Rules.{DirectoryKeeps, Keeps}
use Rattle.model.specs.Verdict.{verdict}
use Rattle.model.specs.Parties.{Use, remains, views, wider_views, seen_at_end, Independent, IndependentWidely}
use Rattle.model.proofs.Laws.Words.{length-records_of}
use Rattle.model.proofs.Exact.{verdict_exact}
use Rattle.model.proofs.Independence.Relation.{Bisimulation}
use Rattle.model.specs.Neighbours.{Common, common}
use Rattle.model.proofs.Independence.Common.{common_alike}
use Rattle.model.proofs.Independence.Runs.{Related, related_bisimulation}
use Rattle.model.proofs.Laws.Images.{label_count, register_count}
use Rattle.model.proofs.Independence.Instances.{AcceptedDesign}
use Rattle.model.proofs.Independence.Lists.{lists_independent}

-- an image that keeps the rules has a state
pub rooted : (image : List ℕ) → DirectoryKeeps image → 0 < length (design_of image).states
unfolding design_of section_of
rooted image kept =
    let some : 1 ≤ count image States = (kept.sections States).at_least in
    let size : length (design_of image).states ≡ count image States = length-records_of state_of state_length (count image States) (drop (offset image States) image) in
    omega arith

-- no label and no register of an accepted image has the byte of a parameter
pub accepted_design : (image : List ℕ) → Keeps image → AcceptedDesign (design_of image)
accepted_design image keeps =
    record {
      structure = keeps.design.structure;
      flowing = keeps.design.flowing;
      few_labels = let most = (keeps.directory.sections Labels).at_most in let count = label_count image in omega arith;
      few_registers = let most = (keeps.directory.sections Registers).at_most in let count = register_count image in omega arith;
    }

-- a level of one image is a level of another with the same in common
pub common_level : (image edited : List ℕ) (level : ℕ) → common (design_of image) level ≡ common (design_of edited) level → level < length (design_of image).rows
    → level < length (design_of edited).rows
unfolding common
common_level image edited level same is_label = rw (ap (λ (c : Common). c.rows) same) at is_label

-- two runs from reset, one of each of two accepted images that have the same in common at one of their labels
pub related_neighbours : (image edited : List ℕ) → verdict image ≡ Accepted 0 → verdict edited ≡ Accepted 0
    → (level : ℕ)
    → level < length (design_of image).rows
    → common (design_of image) level ≡ common (design_of edited) level
    → Bisimulation (design_of image) (design_of edited) level (Related (design_of image) (design_of edited) level)
related_neighbours image edited accepted accepted' level is_label same =
    let keeps = (verdict_exact image).0 accepted in
    related_bisimulation
    (design_of image)
    (design_of edited)
    level
    (common_alike (design_of image) (design_of edited) level same)
    (accepted_design image keeps)
    (accepted_design edited ((verdict_exact edited).0 accepted'))
    (rooted image keeps.directory)
    is_label

-- within one design: what it has in common with itself is the same
both_views : (image : List ℕ) → verdict image ≡ Accepted 0 → (level : ℕ) → level < length (design_of image).rows
    → (one other : Use (design_of image))
    → remains image level one ≡ remains image level other
    → (views image level one ≡ views image level other) × (seen_at_end image level one ≡ seen_at_end image level other) × (wider_views image level one ≡ wider_views image level other)
both_views image accepted level is_label =
    lists_independent
    image
    accepted
    level
    (Related (design_of image) (design_of image) level)
    (related_neighbours image image accepted accepted level is_label refl)

pub independent : Independent
independent image accepted level is_label one other same = let both = both_views image accepted level is_label one other same in (both.0, both.1)

pub independent_widely : IndependentWidely
independent_widely image accepted level is_label one other same = (both_views image accepted level is_label one other same).2
