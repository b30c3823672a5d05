-- The call from each point on: what has been found, before what follows; and that the table which the passes leave is the meaning's labelling, so that the flow
-- under it is the verdict on the raised image.
use Rattle.std.specs.Prelude.{Ok, Err, is_err}
use Prim.Native.Nat.{ℕ, ◌+◌, ◌*◌, ◌≤◌}
use mathlib.Core.Path.{◌≡◌, refl, sym, ◌∙◌, ap, ap₂}
use mathlib.Core.Bool.{Bool, true, false, false≢true}
use mathlib.Core.List.{List}
use native.Mathlib.Omega.{arith}
use lib.ListN.{length}
use lib.Seq.{ext_get_or}
use borrow.Author.Tests.{eq-eqb, ne_eqb}
use Rattle.model.specs.declared.RefusedAt.{RefusedAt}
use Rattle.model.specs.declared.Refusal.TheVariants.{Area, NoRaising, RaiseParameters}
use Rattle.model.specs.Answers.{Answer, Accepted, Refused}
use Rattle.model.specs.Limits.{register_length}
use Rattle.model.specs.Image.{Registers, offset, design_of}
use Rattle.model.specs.Lattice.{register_label}
use Rattle.model.specs.Parameters.{has_parameters}
use Rattle.model.specs.Labelling.{labels_of, relabelled}
use Rattle.model.specs.Flow.{flow_answer}
use Rattle.model.specs.Rules.{DirectoryKeeps, StructureKeeps}
use Rattle.model.specs.Verdict.{◌before◌, refused_at, structure, verdict}
use Rattle.model.specs.Raising.{put_labels, raised_times, raised_labels, raised_image, raise_answer, raise}
use Rattle.model.proofs.Exact.{structure_exact}
use Rattle.model.proofs.Laws.Relabelling.{length-labels, label_at}
use Rattle.model.proofs.Raising.Images.{raised_verdict}
use Rattle.design.specs.declared.Design.{Design}
use Rattle.design.specs.Describes.{Describes}
use Rattle.design.specs.Resets.{Filled}
use Rattle.design.specs.Scopes.{NoParameters}
use Rattle.design.proofs.Laws.{registers_count}
use Rattle.checker.proofs.Accepted.{structure_known}
use Rattle.raising.specs.Passes.{Labelling, Raising}
use Rattle.raising.specs.Stages.{raise_within, raise_plain, raise_on}
use Rattle.model.specs.Calls.{left_as, Left}

-- ---- once the structure is accepted
pub structured_directory : (image : List ℕ) → structure image ≡ Accepted 0 → DirectoryKeeps image
structured_directory image h = ((structure_exact image).0 h).0

-- the table of a design's own labels
module _ {image old table : List ℕ} {x : Design} (filled : Filled (register_label (design_of image)) old x.registers table) (exact : length old ≡ x.registers) (describes : Describes image x) where
  pub own_table : table ≡ labels_of (design_of image)
  own_table =
      let count = registers_count describes in
      let long = filled.long in
      let same = length-labels (design_of image) in
      ext_get_or 0 table (labels_of (design_of image)) (omega arith) (λ r l. filled.done r (omega arith) ∙ sym (label_at (design_of image) r))

  -- what the passes make of it
  pub own_raised : {after : List ℕ} → after ≡ raised_times (design_of image) (length (design_of image).registers * length (design_of image).rows) table → after ≡ raised_labels (design_of image)
  unfolding raised_labels
  own_raised e = e ∙ ap (raised_times (design_of image) (length (design_of image).registers * length (design_of image).rows)) own_table

  pub own_raising : structure image ≡ Accepted 0 → NoParameters (design_of image) → Raising image x table
  own_raising h plain =
      let keeps = ((structure_exact image).0 h).1 in
      record { known = structure_known keeps describes; structured = keeps; plain = plain; labelling = rw own_table (own_labelling keeps) }
    where
      own_labelling : StructureKeeps (design_of image) → Labelling (design_of image) (labels_of (design_of image))
      own_labelling keeps =
          let same = length-labels (design_of image) in
          record { kept = record { enough = omega arith; inside = λ r l. rw (label_at (design_of image) r) (keeps.registers r l).label }; exact = same }

-- an answer that refuses, and one that accepts
refused_is : (f : Answer) → is_err f ≡ true → (why : RefusedAt) × (f ≡ Err why)
refused_is (Err why) e = (why, refl)
refused_is (Ok n) e = absurd (false≢true e)

accepted_is : (f : Answer) → is_err f ≡ false → (n : ℕ) × (f ≡ Accepted n)
accepted_is (Ok n) e = (n, refl)
accepted_is (Err why) e = absurd (false≢true (sym e))

-- ---- into an area as long as the image
module _ (image : List ℕ) {start labels : List ℕ} {f : Answer}
    (h : structure image ≡ Accepted 0)
    (raised : labels ≡ raised_times (design_of image) (length (design_of image).registers * length (design_of image).rows) start)
    (own : start ≡ labels_of (design_of image))
    (flow : f ≡ flow_answer (relabelled (design_of image) labels))
    (plain : NoParameters (design_of image))
  where
    labels_are : labels ≡ raised_labels (design_of image)
    unfolding raised_labels
    labels_are = raised ∙ rw own refl

    verdict_is : f ≡ verdict (raised_image image)
    verdict_is = flow ∙ ap (λ (l : List ℕ). flow_answer (relabelled (design_of image) l)) labels_are ∙ sym (raised_verdict image h plain.none)

    pub within_refuses : {b : Bool} (out : List ℕ) → b ≡ is_err f → b ≡ true → left_as (Refused NoRaising 0) out ≡ raise_within image out
    unfolding raise_within refused_at
    within_refuses out is e = let refused = refused_is f (sym is ∙ e) in rw (← verdict_is, refused.1)

    pub within_accepts : {x : Design} {copied after : List ℕ} {b : Bool} (out : List ℕ) → b ≡ is_err f → b ≡ false → after ≡ put_labels x.registers_at labels copied → copied ≡ image → Describes image x
        → left_as (Accepted 0) after ≡ raise_within image out
    unfolding raise_within refused_at raised_image
    within_accepts {copied = copied} {after = after} out is e put copy describes =
        let made : after ≡ put_labels (offset image Registers) (raised_labels (design_of image)) image = put ∙ ap (λ (place : ℕ). put_labels place labels copied) describes.registers_at ∙ ap₂ (λ (l b : List ℕ). put_labels (offset image Registers) l b) labels_are copy in
        let accepted = accepted_is f (sym is ∙ e) in
        rw (← verdict_is, accepted.1) (ap (λ (bytes : List ℕ). left_as (Accepted 0) bytes) made)

-- the records of the registers stand inside the area
pub labels_inside : {image start labels : List ℕ} {x : Design} (out : List ℕ) → Raising image x start → Labelling (design_of image) labels → out ≡ image → x.registers_at + register_length * length labels ≤ length out
labels_inside out here own e =
    let describes = here.known.describes in
    let k = describes.directory in
    let exact = own.exact in
    let count = registers_count describes in
    let long = ap length e in
    omega (arith, describes.registers, describes.registers_at, k.states_at, k.commands_at, k.expressions_at, k.ends, (k.sections Registers).whole)

-- ---- the area, and all that follows
pub area_refuses : (image out : List ℕ) → (length out ≡ length image → ⊥) → left_as (Refused Area 0) out ≡ raise_plain image out
unfolding raise_plain refused_at ◌before◌
area_refuses image out h = rw (ne_eqb (length out) (length image) h)

pub area_passes : {left : Left (List ℕ)} (image out : List ℕ) → left ≡ raise_within image out → length out ≡ length image → left ≡ raise_plain image out
unfolding raise_plain raise_within refused_at ◌before◌
area_passes image out k h = rw (eq-eqb (length out) (length image) h) k

-- ---- parameters, and all that follows
pub parameters_refuse : {b : Bool} (image out : List ℕ) → b ≡ true → b ≡ has_parameters (design_of image) → left_as (Refused RaiseParameters 0) out ≡ raise_on image out
unfolding raise_on refused_at ◌before◌
parameters_refuse image out h e = rw (← e, h)

pub parameters_pass : {left : Left (List ℕ)} {b : Bool} (image out : List ℕ) → b ≡ false → b ≡ has_parameters (design_of image) → left ≡ raise_plain image out → left ≡ raise_on image out
unfolding raise_on raise_plain refused_at ◌before◌
parameters_pass image out h e k = rw (← e, h) k

-- ---- the whole
module _ (image : List ℕ) {a : Answer} (is : a ≡ structure image) where
  pub structure_refuses : {why : RefusedAt} (out : List ℕ) → a ≡ Err why → left_as (Err why) out ≡ raise image out
  unfolding raise raise_answer ◌before◌
  structure_refuses out h = rw (← is, h)

  pub structure_passes : {left : Left (List ℕ)} {n : ℕ} (out : List ℕ) → a ≡ Accepted n → left ≡ raise_on image out → left ≡ raise image out
  unfolding raise raise_answer raise_on ◌before◌
  structure_passes out h k = rw (← is, h) k
