-- Laws of the image: where the bytes of each record stand.
use Prim.Native.Nat.{ℕ, zero, suc, ◌+◌, ◌*◌, ◌<◌}
use mathlib.Core.Path.{◌≡◌, refl, sym, ◌∙◌, ap, ap₂}
use mathlib.Core.List.{List}
use native.Mathlib.Omega.{arith}
use native.Mathlib.Nat.{add-zero, add_assoc}
use lib.ListN.{length, get_or, drop}
use lib.Seq.{get_or-drop, drop-drop}
use Rattle.model.specs.Limits.{label_length, register_length, state_length, node_length}
use Rattle.model.specs.Image.{Section, Labels, Registers, States, Commands, Expressions, byte_at, word16_at, word32_at, record_length, offset, count, records_of, section_of, Register, State, Node, row_of, register_of, state_of, node_of, design_of, no_register, register_at, state_at, command_at, expression_at, no_state, no_node}
use Rattle.model.proofs.Laws.Words.{length-records_of}

-- ---- records
module _ {A : Type 0} (read : List ℕ → A) (width : ℕ) where
  -- record i is read from the bytes behind the i before it
  pub record_at_lem : (n : ℕ) (bytes : List ℕ) (i : ℕ) (default : A) → i < n → get_or (records_of read width n bytes) i default ≡ read (drop (width * i) bytes)
  unfolding records_of
  record_at_lem zero bytes i default l = absurd (omega arith)
  record_at_lem (suc n) bytes zero default l = let none : width * zero ≡ zero = omega arith in rw none refl
  record_at_lem (suc n) bytes (suc i) default l =
      let behind : width + width * i ≡ width * suc i = omega arith in
      record_at_lem n (drop width bytes) i default (omega arith) ∙ ap read (drop-drop (width * i) width bytes ∙ ap (λ (k : ℕ). drop k bytes) behind)

module _ {A : Type 0} (read : List ℕ → A) (image : List ℕ) (s : Section) where
  pub section_at : (i : ℕ) (default : A) → i < count image s → get_or (section_of read image s) i default ≡ read (drop (offset image s + record_length s * i) image)
  unfolding section_of
  section_at i default l = record_at_lem read (record_length s) (count image s) (drop (offset image s) image) i default l ∙ ap read (drop-drop (record_length s * i) (offset image s) image)

  pub section_length : length (section_of read image s) ≡ count image s
  unfolding section_of
  section_length = length-records_of read (record_length s) (count image s) (drop (offset image s) image)

-- ---- bytes and words behind others
module _ (image : List ℕ) (k : ℕ) where
  byte_behind : (i : ℕ) → byte_at (drop k image) i ≡ byte_at image (k + i)
  byte_behind i = get_or-drop k image i 0

  first_byte : byte_at (drop k image) 0 ≡ byte_at image k
  first_byte = byte_behind 0 ∙ ap (byte_at image) (add-zero k)

  word16_behind : (i : ℕ) → word16_at (drop k image) i ≡ word16_at image (k + i)
  word16_behind i = ap₂ (λ (x y : ℕ). x + 256 * y) (byte_behind i) (byte_behind (i + 1) ∙ ap (byte_at image) (sym (add_assoc k i 1)))

  first_word16 : word16_at (drop k image) 0 ≡ word16_at image k
  first_word16 = word16_behind 0 ∙ ap (word16_at image) (add-zero k)

  word32_behind : (i : ℕ) → word32_at (drop k image) i ≡ word32_at image (k + i)
  word32_behind i = ap₂ (λ (x y : ℕ). x + 65536 * y) (word16_behind i) (word16_behind (i + 2) ∙ ap (word16_at image) (sym (add_assoc k i 2)))

-- ---- the fields of each record, by the place of their bytes
module _ (image : List ℕ) where
  pub row_at : (i : ℕ) → i < count image Labels → get_or (design_of image).rows i 0 ≡ word16_at image (offset image Labels + label_length * i)
  unfolding design_of
  row_at i l = section_at row_of image Labels i 0 l ∙ first_word16 image (offset image Labels + label_length * i)

  -- what stands at the place of a register's record
  pub record RegisterIs (r k : ℕ) : Type 0 where
    pub label : (register_at (design_of image) r).label ≡ byte_at image k
    pub kind : (register_at (design_of image) r).kind ≡ byte_at image (k + 1)
    pub reset : (register_at (design_of image) r).reset ≡ word32_at image (k + 2)
    pub width : (register_at (design_of image) r).width ≡ byte_at image (k + 6)

  pub register_is : (r : ℕ) → r < count image Registers → RegisterIs r (offset image Registers + register_length * r)
  unfolding design_of
  register_is r l =
      let k = offset image Registers + register_length * r in
      let at = section_at register_of image Registers r no_register l in
      record {
        label = ap (λ (x : Register). x.label) at ∙ first_byte image k;
        kind = ap (λ (x : Register). x.kind) at ∙ byte_behind image k 1;
        reset = ap (λ (x : Register). x.reset) at ∙ word32_behind image k 2;
        width = ap (λ (x : Register). x.width) at ∙ byte_behind image k 6;
      }

  pub record StateIs (s k : ℕ) : Type 0 where
    pub parent : (state_at (design_of image) s).parent ≡ byte_at image k
    pub label : (state_at (design_of image) s).label ≡ byte_at image (k + 1)
    pub command : (state_at (design_of image) s).command ≡ word16_at image (k + 2)
    pub parameters : (state_at (design_of image) s).parameters ≡ byte_at image (k + 4)
    pub first_lower : (state_at (design_of image) s).first_lower ≡ byte_at image (k + 5)
    pub first_upper : (state_at (design_of image) s).first_upper ≡ byte_at image (k + 6)
    pub second_lower : (state_at (design_of image) s).second_lower ≡ byte_at image (k + 7)
    pub second_upper : (state_at (design_of image) s).second_upper ≡ byte_at image (k + 8)

  pub state_is : (s : ℕ) → s < count image States → StateIs s (offset image States + state_length * s)
  unfolding design_of
  state_is s l =
      let k = offset image States + state_length * s in
      let at = section_at state_of image States s no_state l in
      record {
        parent = ap (λ (x : State). x.parent) at ∙ first_byte image k;
        label = ap (λ (x : State). x.label) at ∙ byte_behind image k 1;
        command = ap (λ (x : State). x.command) at ∙ word16_behind image k 2;
        parameters = ap (λ (x : State). x.parameters) at ∙ byte_behind image k 4;
        first_lower = ap (λ (x : State). x.first_lower) at ∙ byte_behind image k 5;
        first_upper = ap (λ (x : State). x.first_upper) at ∙ byte_behind image k 6;
        second_lower = ap (λ (x : State). x.second_lower) at ∙ byte_behind image k 7;
        second_upper = ap (λ (x : State). x.second_upper) at ∙ byte_behind image k 8;
      }

  pub record NodeIs (x : Node) (k : ℕ) : Type 0 where
    pub kind : x.kind ≡ byte_at image k
    pub item : x.item ≡ byte_at image (k + 1)
    pub a : x.a ≡ word16_at image (k + 2)
    pub b : x.b ≡ word16_at image (k + 4)
    pub c : x.c ≡ word16_at image (k + 6)

  node_is : (x : Node) (k : ℕ) → x ≡ node_of (drop k image) → NodeIs x k
  node_is x k at =
      record {
        kind = ap (λ (x : Node). x.kind) at ∙ first_byte image k;
        item = ap (λ (x : Node). x.item) at ∙ byte_behind image k 1;
        a = ap (λ (x : Node). x.a) at ∙ word16_behind image k 2;
        b = ap (λ (x : Node). x.b) at ∙ word16_behind image k 4;
        c = ap (λ (x : Node). x.c) at ∙ word16_behind image k 6;
      }

  pub command_is : (n : ℕ) → n < count image Commands → NodeIs (command_at (design_of image) n) (offset image Commands + node_length * n)
  unfolding design_of
  command_is n l = node_is (command_at (design_of image) n) (offset image Commands + node_length * n) (section_at node_of image Commands n no_node l)

  pub expression_is : (n : ℕ) → n < count image Expressions → NodeIs (expression_at (design_of image) n) (offset image Expressions + node_length * n)
  unfolding design_of
  expression_is n l = node_is (expression_at (design_of image) n) (offset image Expressions + node_length * n) (section_at node_of image Expressions n no_node l)

  -- ---- counts
  pub label_count : length (design_of image).rows ≡ count image Labels
  unfolding design_of
  label_count = section_length row_of image Labels

  pub register_count : length (design_of image).registers ≡ count image Registers
  unfolding design_of
  register_count = section_length register_of image Registers

  pub state_count : length (design_of image).states ≡ count image States
  unfolding design_of
  state_count = section_length state_of image States

  pub command_count : length (design_of image).commands ≡ count image Commands
  unfolding design_of
  command_count = section_length node_of image Commands

  pub expression_count : length (design_of image).expressions ≡ count image Expressions
  unfolding design_of
  expression_count = section_length node_of image Expressions
