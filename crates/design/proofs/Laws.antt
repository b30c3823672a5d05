-- A record by the place of its section is the design's record, and stands inside the image.
use Prim.Native.Nat.{ℕ, ◌/◌, ◌%◌, ◌≤◌, ◌<◌}
use mathlib.Core.Path.{◌≡◌, sym, ap, ◌∙◌}
use mathlib.Core.Bool.{Bool, false, ◌&&◌}
use lib.Dec.{eqb, leb}
use mathlib.Core.List.{List}
use native.Mathlib.Omega.{arith}
use lib.ListN.{length, get_or}
use Rattle.model.specs.Limits.{directory_length, labels_max, registers_max, commands_max, expressions_max}
use Rattle.model.specs.Image.{Section, Labels, Registers, States, Commands, Expressions, record_length, fewest, most, offset, size, end, offsets_kept, section_kept, directory_kept, design_of, register_at, state_at, command_at, expression_at}
use Rattle.model.proofs.Laws.Images.{row_at, register_is, state_is, command_is, expression_is, label_count, register_count, state_count, command_count, expression_count}
use Rattle.design.specs.declared.Design.{Design}
use Rattle.design.specs.Records.{row_in, register_in, state_in, node_in, node_end, register_end, row_end, state_end}
use Rattle.design.specs.Describes.{Describes}
use Rattle.model.specs.Rules.{DirectoryKeeps}
use Rattle.model.proofs.Laws.Booleans.{false_unless_true}
use Rattle.model.proofs.Exact.Directories.{directory_iff}

-- an image too short for a directory has none that is kept
pub too_short : (image : List ℕ) → length image < directory_length → false ≡ directory_kept image
too_short image short = sym (false_unless_true (directory_kept image) (λ e. let present = ((directory_iff image).0 e).present in omega arith))

-- the tests of the offsets, and of the sections
pub offsets_rule :
    (image : List ℕ) {l r s c e le re se ce ee : ℕ}
    → l ≡ offset image Labels
    → r ≡ offset image Registers
    → s ≡ offset image States
    → c ≡ offset image Commands
    → e ≡ offset image Expressions
    → le ≡ end image Labels
    → re ≡ end image Registers
    → se ≡ end image States
    → ce ≡ end image Commands
    → ee ≡ end image Expressions
    → (leb 20 (length image) && eqb l 20 && eqb r le && eqb s re && eqb c se && eqb e ce && eqb (length image) ee) ≡ offsets_kept image
unfolding offsets_kept
offsets_rule image l r s c e le re se ce ee = rw (l, r, s, c, e, le, re, se, ce, ee)

section_rule : (image : List ℕ) {z : ℕ} {b : Bool} (s : Section) → z ≡ size image s → b ≡ (eqb (z % record_length s) 0 && leb (fewest s) (z / record_length s) && leb (z / record_length s) (most s)) → b ≡ section_kept image s
unfolding section_kept
section_rule image s p q = rw (← p) q

pub directory_rule :
    (image : List ℕ) {lz rz sz cz ez : ℕ} {o l r s c e : Bool}
    → o ≡ offsets_kept image
    → lz ≡ size image Labels
    → rz ≡ size image Registers
    → sz ≡ size image States
    → cz ≡ size image Commands
    → ez ≡ size image Expressions
    → l ≡ (eqb (lz % 2) 0 && leb 1 (lz / 2) && leb (lz / 2) 16)
    → r ≡ (eqb (rz % 7) 0 && leb 0 (rz / 7) && leb (rz / 7) 64)
    → s ≡ (eqb (sz % 9) 0 && leb 1 (sz / 9) && leb (sz / 9) 64)
    → c ≡ (eqb (cz % 8) 0 && leb 0 (cz / 8) && leb (cz / 8) 1024)
    → e ≡ (eqb (ez % 8) 0 && leb 0 (ez / 8) && leb (ez / 8) 2048)
    → (o && l && r && s && c && e) ≡ directory_kept image
unfolding directory_kept
directory_rule image o lz rz sz cz ez l r s c e =
    rw (o, section_rule image Labels lz l, section_rule image Registers rz r, section_rule image States sz s, section_rule image Commands cz c, section_rule image Expressions ez e)

-- what the fields of a directory that is kept make a design of
pub describes :
    {image : List ℕ} {l r s c e ra sa ca ea : ℕ}
    → DirectoryKeeps image
    → l ≡ size image Labels
    → r ≡ size image Registers
    → s ≡ size image States
    → c ≡ size image Commands
    → e ≡ size image Expressions
    → ra ≡ offset image Registers
    → sa ≡ offset image States
    → ca ≡ offset image Commands
    → ea ≡ offset image Expressions
    → Describes
    image
    (record {
      labels = l / 2;
      registers = r / 7;
      states = s / 9;
      commands = c / 8;
      expressions = e / 8;
      registers_at = ra;
      states_at = sa;
      commands_at = ca;
      expressions_at = ea;
    })
describes directory l r s c e ra sa ca ea =
    record {
      directory = directory;
      labels = ap (λ (n : ℕ). n / 2) l;
      registers = ap (λ (n : ℕ). n / 7) r;
      states = ap (λ (n : ℕ). n / 9) s;
      commands = ap (λ (n : ℕ). n / 8) c;
      expressions = ap (λ (n : ℕ). n / 8) e;
      registers_at = ra;
      states_at = sa;
      commands_at = ca;
      expressions_at = ea;
    }

-- ---- the records of an image that a design describes
module _ {image : List ℕ} {x : Design} (d : Describes image x) where
  pub labels_count : x.labels ≡ length (design_of image).rows
  labels_count = d.labels ∙ sym (label_count image)

  pub registers_count : x.registers ≡ length (design_of image).registers
  registers_count = d.registers ∙ sym (register_count image)

  pub states_count : x.states ≡ length (design_of image).states
  states_count = d.states ∙ sym (state_count image)

  pub commands_count : x.commands ≡ length (design_of image).commands
  commands_count = d.commands ∙ sym (command_count image)

  pub expressions_count : x.expressions ≡ length (design_of image).expressions
  expressions_count = d.expressions ∙ sym (expression_count image)

  -- ---- no section has more records than its limit
  pub labels_most : x.labels ≤ labels_max
  labels_most = omega (arith, d.labels, d.directory.sections Labels)

  pub registers_most : x.registers ≤ registers_max
  registers_most = omega (arith, d.registers, d.directory.sections Registers)

  pub commands_most : x.commands ≤ commands_max
  commands_most = omega (arith, d.commands, d.directory.sections Commands)

  pub expressions_most : x.expressions ≤ expressions_max
  expressions_most = omega (arith, d.expressions, d.directory.sections Expressions)

  pub registers_few : length (design_of image).registers ≤ registers_max
  registers_few = let count = registers_count in let most = registers_most in omega arith

  pub commands_few : length (design_of image).commands ≤ commands_max
  commands_few = let count = commands_count in let most = commands_most in omega arith

  -- ---- records stand inside the image
  pub row_inside_lem : {i : ℕ} → i < x.labels → row_end i ≤ length image
  row_inside_lem l = omega (arith, d.labels, d.directory)

  pub register_inside : {r : ℕ} → r < x.registers → register_end x.registers_at r ≤ length image
  register_inside l = omega (arith, d, d.directory)

  pub state_inside : {s : ℕ} → s < x.states → state_end x.states_at s ≤ length image
  state_inside l = omega (arith, d, d.directory)

  pub command_inside : {n : ℕ} → n < x.commands → node_end x.commands_at n ≤ length image
  command_inside l = omega (arith, d, d.directory)

  pub expression_inside : {n : ℕ} → n < x.expressions → node_end x.expressions_at n ≤ length image
  expression_inside l = omega (arith, d, d.directory)

  -- ---- and are the design's
  pub row_in_lem : {i : ℕ} → i < x.labels → row_in image i ≡ get_or (design_of image).rows i 0
  row_in_lem {i} l = rw (← d.directory.labels_at) (sym (row_at image i (omega (arith, d.labels))))

  pub register_in_lem : {r : ℕ} → r < x.registers → register_in image x.registers_at r ≡ register_at (design_of image) r
  register_in_lem {r} l =
      let is = register_is image r (omega (arith, d.registers)) in
      rw d.registers_at (sym (λ i. record { label = is.label i; kind = is.kind i; reset = is.reset i; width = is.width i }))

  pub state_in_lem : {s : ℕ} → s < x.states → state_in image x.states_at s ≡ state_at (design_of image) s
  state_in_lem {s} l =
      let is = state_is image s (omega (arith, d.states)) in
      rw d.states_at
      (sym
      (λ i.
      record {
        parent = is.parent i;
        label = is.label i;
        command = is.command i;
        parameters = is.parameters i;
        first_lower = is.first_lower i;
        first_upper = is.first_upper i;
        second_lower = is.second_lower i;
        second_upper = is.second_upper i;
      }))

  pub command_in : {n : ℕ} → n < x.commands → node_in image x.commands_at n ≡ command_at (design_of image) n
  command_in {n} l =
      let is = command_is image n (omega (arith, d.commands)) in
      rw d.commands_at (sym (λ i. record { kind = is.kind i; item = is.item i; a = is.a i; b = is.b i; c = is.c i }))

  pub expression_in : {n : ℕ} → n < x.expressions → node_in image x.expressions_at n ≡ expression_at (design_of image) n
  expression_in {n} l =
      let is = expression_is image n (omega (arith, d.expressions)) in
      rw d.expressions_at (sym (λ i. record { kind = is.kind i; item = is.item i; a = is.a i; b = is.b i; c = is.c i }))
