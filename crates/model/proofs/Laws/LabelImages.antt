-- An image with labels written into it is the same design under these labels: the directory stands before the registers, and every other section before or
-- behind them. And an image that differs from another in labels alone is that other with its labels written into it.
use Prim.Native.Nat.{ℕ, ◌+◌, ◌*◌, ◌≤◌, ◌<◌}
use mathlib.Core.Path.{◌≡◌, refl, sym, ◌∙◌, ap, ap₂}
use mathlib.Core.Logic.{◌⊎◌, inl, inr}
use mathlib.Core.List.{List}
use native.Mathlib.Omega.{arith}
use lib.ListN.{length}
use lib.Seq.{ext_get_or}
use Rattle.model.specs.Limits.{directory_length, register_length, label_length}
use Rattle.model.specs.Image.{Section, Labels, Registers, States, Commands, Expressions, byte_at, word16_at, ordinal, record_length, offset, size, count, end, state_of, node_of, records_of, section_of, design_of}
use Rattle.model.specs.Labelling.{labels_of, with_labels, relabelled}
use Rattle.model.specs.Rules.{DirectoryKeeps}
use Rattle.model.specs.Raising.{put_labels}
use Rattle.model.proofs.Laws.Images.{row_at, label_count, register_is, register_count}
use Rattle.model.proofs.Laws.Relabelling.{length-labels, label_at}
use Rattle.model.proofs.Laws.LabelBytes.{length-put, put_before, put_behind, put_elsewhere, put_at, label_byte_lem, put_records}

-- ---- images with the same directory
five : (s : Section) → ordinal s ≤ 4
five Labels = omega arith
five Registers = omega arith
five States = omega arith
five Commands = omega arith
five Expressions = omega arith

module _ (image other : List ℕ) (same : (i : ℕ) → i < directory_length → byte_at other i ≡ byte_at image i) where
  word_same : (i : ℕ) → i + 1 < directory_length → word16_at other i ≡ word16_at image i
  word_same i l = ap₂ (λ (x y : ℕ). x + 256 * y) (same i (omega arith)) (same (i + 1) l)

  pub offset_same : (s : Section) → offset other s ≡ offset image s
  offset_same s = let few = five s in word_same (4 * ordinal s) (omega arith)

  pub size_same : (s : Section) → size other s ≡ size image s
  size_same s = let few = five s in word_same (4 * ordinal s + 2) (omega arith)

  pub count_same : (s : Section) → count other s ≡ count image s
  count_same s = rw (size_same s)

  end_same : (s : Section) → end other s ≡ end image s
  end_same s = ap₂ ◌+◌ (offset_same s) (size_same s)

  pub directory_same : length other ≡ length image → DirectoryKeeps image → DirectoryKeeps other
  directory_same long keeps =
      record {
        present = rw long keeps.present;
        labels_at = offset_same Labels ∙ keeps.labels_at;
        registers_at = offset_same Registers ∙ keeps.registers_at ∙ sym (end_same Labels);
        states_at = offset_same States ∙ keeps.states_at ∙ sym (end_same Registers);
        commands_at = offset_same Commands ∙ keeps.commands_at ∙ sym (end_same States);
        expressions_at = offset_same Expressions ∙ keeps.expressions_at ∙ sym (end_same Commands);
        ends = long ∙ keeps.ends ∙ sym (end_same Expressions);
        sections = λ s.
            record {
              whole = rw (size_same s) (keeps.sections s).whole;
              at_least = rw (count_same s) (keeps.sections s).at_least;
              at_most = rw (count_same s) (keeps.sections s).at_most;
            };
      }

-- ---- where the sections stand
pub record Placed (image : List ℕ) : Type 0 where
  pub directory : directory_length ≤ offset image Registers
  pub rows : offset image Labels + label_length * count image Labels ≤ offset image Registers
  pub registers : offset image Registers + register_length * count image Registers ≡ offset image States
  pub states : offset image States ≤ offset image Commands
  pub commands : offset image Commands ≤ offset image Expressions
  pub inside : offset image Expressions ≤ length image

pub placed : (image : List ℕ) → DirectoryKeeps image → Placed image
placed image keeps =
    let labels = (keeps.sections Labels).whole in
    let registers = (keeps.sections Registers).whole in
    let a = keeps.labels_at in
    let b = keeps.registers_at in
    let c = keeps.states_at in
    let e = keeps.commands_at in
    let f = keeps.expressions_at in
    let g = keeps.ends in
    record { directory = omega arith; rows = omega arith; registers = omega arith; states = omega arith; commands = omega arith; inside = omega arith }

-- ---- an image with labels
module _ (image labels : List ℕ) (keeps : DirectoryKeeps image) (enough : length labels ≡ length (design_of image).registers) where
  abbrev labelled : List ℕ
  labelled = put_labels (offset image Registers) labels image

  many : length labels ≡ count image Registers
  many = enough ∙ register_count image

  first_bytes : (i : ℕ) → i < directory_length → byte_at labelled i ≡ byte_at image i
  first_bytes i l = let at = (placed image keeps).directory in put_before (offset image Registers) labels image i (omega arith)

  rows_same : (design_of labelled).rows ≡ (design_of image).rows
  rows_same =
      let counted = count_same image labelled first_bytes Labels in
      let long : length (design_of labelled).rows ≡ length (design_of image).rows = label_count labelled ∙ counted ∙ sym (label_count image) in
      ext_get_or 0 (design_of labelled).rows (design_of image).rows long (λ i l.
      let here : i < count image Labels = rw (label_count labelled, counted) at l in
      let at = (placed image keeps).rows in
      let place = offset image Labels + label_length * i in
      let byte : (k : ℕ) → k < 2 → byte_at labelled (place + k) ≡ byte_at image (place + k) = λ k m. put_before (offset image Registers) labels image (place + k) (omega arith) in
      let none : place + 0 ≡ place = omega arith in
      row_at labelled i (rw counted here)
      ∙ ap (λ (k : ℕ). word16_at labelled (k + label_length * i)) (offset_same image labelled first_bytes Labels)
      ∙ ap₂ (λ (x y : ℕ). x + 256 * y) (rw none at (byte 0 (omega arith))) (byte 1 (omega arith))
      ∙ sym (row_at image i here))

  registers_labelled : (design_of labelled).registers ≡ with_labels (design_of image).registers labels
  unfolding design_of section_of
  registers_labelled =
      let p = placed image keeps in
      let e = p.registers in
      let f = p.states in
      let g = p.commands in
      let h = p.inside in
      rw (count_same image labelled first_bytes Registers, offset_same image labelled first_bytes Registers)
      (put_records (count image Registers) (offset image Registers) labels image many (omega arith))

  -- a section behind the registers
  behind : {A : Type 0} (read : List ℕ → A) (s : Section) → offset image States ≤ offset image s → section_of read labelled s ≡ section_of read image s
  unfolding section_of
  behind read s l =
      let p = (placed image keeps).registers in
      rw (count_same image labelled first_bytes s, offset_same image labelled first_bytes s)
      (ap (records_of read (record_length s) (count image s)) (put_behind (offset image Registers) labels image (offset image s) (rw many (omega arith))))

  pub design_labelled : design_of labelled ≡ relabelled (design_of image) labels
  unfolding design_of
  design_labelled =
      let p = placed image keeps in
      let f = p.states in
      let g = p.commands in
      let rows = rows_same in
      let registers = registers_labelled in
      let states = behind state_of States (omega arith) in
      let commands = behind node_of Commands f in
      let expressions = behind node_of Expressions (omega arith) in
      λ i. record { rows = rows i; registers = registers i; states = states i; commands = commands i; expressions = expressions i }

  pub directory_labelled : DirectoryKeeps labelled
  directory_labelled = directory_same image labelled first_bytes (length-put (offset image Registers) labels image) keeps

-- ---- an image that differs from another in labels alone
module _ (image other : List ℕ) (keeps : DirectoryKeeps image) (long : length other ≡ length image)
    (elsewhere : (i : ℕ) → ((r : ℕ) → r < length (design_of image).registers → i ≡ offset image Registers + register_length * r → ⊥) → byte_at other i ≡ byte_at image i)
  where
    first_same : (i : ℕ) → i < directory_length → byte_at other i ≡ byte_at image i
    first_same i l = let at = (placed image keeps).directory in elsewhere i (λ r m same. omega arith)

    pub registers_same : length (design_of other).registers ≡ length (design_of image).registers
    registers_same = register_count other ∙ count_same image other first_same Registers ∙ sym (register_count image)

    pub other_labelled : other ≡ put_labels (offset image Registers) (labels_of (design_of other)) image
    other_labelled =
        let labels = labels_of (design_of other) in
        let place = offset image Registers in
        ext_get_or 0 other (put_labels place labels image) (long ∙ sym (length-put place labels image)) (λ i l. go i l (label_byte_lem place (length (design_of image).registers) i))
      where
        go : (i : ℕ) → i < length other
            → ((r : ℕ) × (r < length (design_of image).registers) × (i ≡ offset image Registers + register_length * r)) ⊎ ((r : ℕ) → r < length (design_of image).registers → i ≡ offset image Registers + register_length * r → ⊥)
            → byte_at other i ≡ byte_at (put_labels (offset image Registers) (labels_of (design_of other)) image) i
        go i l (inl (r, below, here)) =
            let counted = count_same image other first_same Registers in
            let there = offset_same image other first_same Registers in
            let labels = labels_of (design_of other) in
            let many : length labels ≡ length (design_of image).registers = length-labels (design_of other) ∙ registers_same in
            let is = register_is other r (rw (counted, ← (register_count image)) below) in
            let at : i ≡ offset other Registers + register_length * r = here ∙ ap (λ (k : ℕ). k + register_length * r) (sym there) in
            ap (byte_at other) at
            ∙ sym is.label
            ∙ sym (label_at (design_of other) r)
            ∙ sym (put_at (offset image Registers) labels image r (omega arith) (omega arith))
            ∙ ap (byte_at (put_labels (offset image Registers) labels image)) (sym here)
        go i l (inr none) =
            let many : length (labels_of (design_of other)) ≡ length (design_of image).registers = length-labels (design_of other) ∙ registers_same in
            elsewhere i none ∙ sym (put_elsewhere (offset image Registers) (labels_of (design_of other)) image i (λ r below. none r (omega arith)))

    pub other_design : design_of other ≡ relabelled (design_of image) (labels_of (design_of other))
    other_design = ap design_of other_labelled ∙ design_labelled image (labels_of (design_of other)) keeps (length-labels (design_of other) ∙ registers_same)

-- an image with its own labels is itself
pub own_labelled : (image : List ℕ) → DirectoryKeeps image → put_labels (offset image Registers) (labels_of (design_of image)) image ≡ image
own_labelled image keeps = sym (other_labelled image image keeps refl (λ i none. refl))
