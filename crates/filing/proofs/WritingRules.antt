-- The form is as long as the image, so that writing a byte of it for each byte of the image writes all of it.
use Prim.Native.Nat.{ℕ, ◌+◌, ◌*◌, ◌≤◌, ◌<◌}
use mathlib.Core.Path.{◌≡◌, refl, sym, ◌∙◌, ap}
use mathlib.Core.List.{List}
use native.Mathlib.Omega.{arith}
use native.Mathlib.Numerals.{add-one}
use lib.ListN.{length, set, length-set}
use lib.Seq.{paste, paste-zero, paste-suc, take-length}
use borrow.Author.Tests.{le-leb, lt-leb}
use Rattle.model.specs.declared.Refusal.TheVariants.{OutputArea}
use Rattle.model.specs.Answers.{Accepted, Refused}
use Rattle.model.specs.Image.{Section, Labels, Registers, States, Commands, Expressions, record_length, count, size, byte_at, design_of}
use Rattle.model.specs.Rules.{DirectoryKeeps, Keeps}
use Rattle.model.specs.Verdict.{◌before◌, refused_at}
use Rattle.model.proofs.Independence.Theorem.{rooted}
use Rattle.model.proofs.Laws.Images.{label_count, register_count, state_count, command_count, expression_count}
use Rattle.encoding.specs.Encoding.{image_length, image_of}
use Rattle.encoding.specs.Parts.{overwritten_at, over}
use Rattle.encoding.proofs.PartRules.{over_beginning}
use Rattle.encoding.proofs.Sections.{section_sized}
use Rattle.encoding.proofs.RoundTrip.{image_length_lem}
use Rattle.filing_model.specs.Filed.{filed, filed_image}
use Rattle.filing_model.proofs.Renumbers.{states_as_many, commands_as_many, expressions_as_many}
use Rattle.filing.specs.Stages.{file_on}
use Rattle.model.specs.Calls.{left_as}

-- a section is as long as its records
sized : {image : List ℕ} → DirectoryKeeps image → (s : Section) → record_length s * count image s ≡ size image s
sized {image} directory s = section_sized image s (directory.sections s)

pub form_long : {image : List ℕ} → Keeps image → length (filed_image image) ≡ length image
unfolding filed_image filed
form_long {image} keeps =
    let d = design_of image in
    let k = keeps.directory in
    let structure = keeps.design.structure in
    let some = rooted image k in
    let now : length (image_of (filed d)) ≡ image_length (filed d) = image_length_lem (filed d) in
    let states = states_as_many d structure some in
    let commands = commands_as_many d structure some in
    let expressions = expressions_as_many d structure some in
    let old : length image ≡ image_length d =
    omega (arith, k, sized k Labels, sized k Registers, sized k States, sized k Commands, sized k Expressions, label_count image, register_count image, state_count image, command_count image, expression_count image) in
    omega arith

-- ---- the form written byte by byte
-- its first i bytes stand over those of an area
pub record FormPut (image old : List ℕ) (i : ℕ) (now : List ℕ) : Type 0 where
  pub written : now ≡ paste old 0 (filed_image image) i
  pub room : length (filed_image image) ≤ length old
  pub most : i ≤ length (filed_image image)
  pub kept : length now ≡ length old
  pub long : length (filed_image image) ≡ length image

pub form_begins : {image out : List ℕ} → Keeps image → length image ≤ length out → FormPut image out 0 out
form_begins {image} {out} keeps room =
    let long = form_long keeps in
    record { written = paste-zero out 0 (filed_image image); room = omega arith; most = omega arith; kept = refl; long = long }

module _ {image old now : List ℕ} {i : ℕ} (put : FormPut image old i now) where
  pub form_more : {b : ℕ} → i < length image → b ≡ byte_at (filed_image image) i → FormPut image old (i + 1) (set now i b)
  form_more {b} l e =
      let long = put.long in
      let room = put.room in
      let here : 0 + i ≡ i = omega arith in
      record {
        written =
            rw
            (put.written, e, add-one)
            (ap (λ (j : ℕ). set (paste old 0 (filed_image image) i) j (byte_at (filed_image image) i)) (sym here) ∙ paste-suc old 0 (filed_image image) i 0 (omega arith) (omega arith));
        room = room;
        most = omega arith;
        kept = length-set now i b ∙ put.kept;
        long = long;
      }

  pub form_done : length image ≤ i → now ≡ over (filed_image image) old
  unfolding overwritten_at
  form_done l =
      let all : i ≡ length (filed_image image) = omega (arith, put.long, put.most) in
      let whole : paste old 0 (filed_image image) i ≡ overwritten_at 0 (filed_image image) old = rw (all, take-length) in
      put.written ∙ whole ∙ over_beginning (filed_image image) old

-- ---- the output area, and all that follows
module _ (image : List ℕ) where
  pub area_refuses : (out : List ℕ) → length out < length image → Keeps image → left_as (Refused OutputArea 0) out ≡ file_on image out
  unfolding file_on refused_at ◌before◌
  area_refuses out h keeps = rw (form_long keeps, lt-leb (length image) (length out) h)

  pub area_passes : {after : List ℕ} (out : List ℕ) → after ≡ over (filed_image image) out → length image ≤ length out → Keeps image → left_as (Accepted (length image)) after ≡ file_on image out
  unfolding file_on refused_at ◌before◌
  area_passes out e h keeps = rw (e, form_long keeps, le-leb (length image) (length out) h)
