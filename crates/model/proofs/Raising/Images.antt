-- The raised image is the design under the raised labels: the labels are as many as the registers, so they can be written into it, and what is left to judge of
-- it are the flow rules.
use Prim.Native.Nat.{ℕ}
use mathlib.Core.Path.{◌≡◌}
use mathlib.Core.List.{List}
use lib.ListN.{length}
use Rattle.model.specs.Answers.{Accepted}
use Rattle.model.specs.Image.{Labels, Registers, offset, design_of}
use Rattle.model.specs.Flow.{flow_answer}
use Rattle.model.specs.Labelling.{relabelled}
use Rattle.model.specs.Raising.{raised_labels, raised_image}
use Rattle.model.specs.Rules.{DirectoryKeeps, StructureKeeps}
use Rattle.model.specs.Verdict.{◌before◌, structure, verdict}
use Rattle.model.proofs.Laws.Images.{label_count}
use Rattle.model.proofs.Laws.Plain.{Plain}
use Rattle.model.proofs.Laws.Relabelling.{Labelled, structure_relabelled}
use Rattle.model.proofs.Laws.LabelBytes.{length-put}
use Rattle.model.proofs.Laws.LabelImages.{design_labelled, directory_labelled}
use Rattle.model.proofs.Exact.{structure_exact}
use Rattle.model.proofs.Raising.Passes.{Raisable, raised_labels_lem}

module _ (image : List ℕ) (keeps : DirectoryKeeps image) (structured : StructureKeeps (design_of image)) (plain : Plain (design_of image)) where
  pub raisable : Raisable (design_of image)
  raisable =
      let sized = keeps.sections Labels in
      record { keeps = structured; some = rw (label_count image) sized.at_least; few = rw (label_count image) sized.at_most; plain = plain }

  pub raised_valid : Labelled (design_of image) (raised_labels (design_of image))
  raised_valid = (raised_labels_lem (design_of image) raisable).valid

  pub raised_length : length (raised_image image) ≡ length image
  unfolding raised_image
  raised_length = length-put (offset image Registers) (raised_labels (design_of image)) image

  pub raised_design : design_of (raised_image image) ≡ relabelled (design_of image) (raised_labels (design_of image))
  unfolding raised_image
  raised_design = design_labelled image (raised_labels (design_of image)) keeps raised_valid.enough

  pub raised_directory : DirectoryKeeps (raised_image image)
  unfolding raised_image
  raised_directory = directory_labelled image (raised_labels (design_of image)) keeps raised_valid.enough

  pub raised_structure : StructureKeeps (design_of (raised_image image))
  raised_structure = rw raised_design (structure_relabelled (design_of image) (raised_labels (design_of image)) plain structured raised_valid)

  pub raised_plain : Plain (design_of (raised_image image))
  raised_plain = rw raised_design plain

-- of an image without parameters that passes the checks up to 9, the verdict on its raising is that on the flow under the raised labels
pub raised_verdict : (image : List ℕ) → structure image ≡ Accepted 0 → Plain (design_of image) → verdict (raised_image image) ≡ flow_answer (relabelled (design_of image) (raised_labels (design_of image)))
unfolding verdict ◌before◌
raised_verdict image accepted plain =
    let (keeps, structured) = (structure_exact image).0 accepted in
    let passed = (structure_exact (raised_image image)).1 (raised_directory image keeps structured plain, raised_structure image keeps structured plain) in
    rw (passed, raised_design image keeps structured plain)
