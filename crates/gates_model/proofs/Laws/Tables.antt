-- Laws of the table in bytes: where the bytes of each record stand.
use Prim.Native.Nat.{ℕ, ◌+◌, ◌*◌, ◌<◌}
use mathlib.Core.Path.{◌≡◌, sym, ◌∙◌, ap, ap₂}
use mathlib.Core.List.{List}
use native.Mathlib.Nat.{add-zero, add_assoc}
use lib.ListN.{length, get_or, drop}
use lib.Seq.{get_or-drop, drop-drop}
use Rattle.model.specs.Image.{byte_at, word16_at}
use Rattle.model.proofs.Laws.Words.{length-records_of}
use Rattle.model.proofs.Laws.Images.{record_at_lem}
use Rattle.gates_model.specs.Limits.{input_length, flip_flop_length, gate_length}
use Rattle.gates_model.specs.Tables.{Section, Inputs, FlipFlops, Gates, record_length, offset, count, section_of, FlipFlop, Gate, mark_of, flip_flop_of, gate_of, table_of, mark_at, flip_flop_at, gate_at, no_flip_flop, no_gate}

module _ {A : Type 0} (read : List ℕ → A) (table : List ℕ) (s : Section) where
  section_at : (i : ℕ) (default : A) → i < count table s → get_or (section_of read table s) i default ≡ read (drop (offset table s + record_length s * i) table)
  unfolding section_of
  section_at i default l = record_at_lem read (record_length s) (count table s) (drop (offset table s) table) i default l ∙ ap read (drop-drop (record_length s * i) (offset table s) table)

  section_length : length (section_of read table s) ≡ count table s
  unfolding section_of
  section_length = length-records_of read (record_length s) (count table s) (drop (offset table s) table)

-- ---- bytes and words behind others
module _ (table : List ℕ) (k : ℕ) where
  byte_behind : (i : ℕ) → byte_at (drop k table) i ≡ byte_at table (k + i)
  byte_behind i = get_or-drop k table i 0

  first_byte : byte_at (drop k table) 0 ≡ byte_at table k
  first_byte = byte_behind 0 ∙ ap (byte_at table) (add-zero k)

  word16_behind : (i : ℕ) → word16_at (drop k table) i ≡ word16_at table (k + i)
  word16_behind i = ap₂ (λ (x y : ℕ). x + 256 * y) (byte_behind i) (byte_behind (i + 1) ∙ ap (byte_at table) (sym (add_assoc k i 1)))

  first_word16 : word16_at (drop k table) 0 ≡ word16_at table k
  first_word16 = word16_behind 0 ∙ ap (word16_at table) (add-zero k)

-- ---- the fields of each record, by the place of their bytes
module _ (table : List ℕ) where
  pub mark_is : (i : ℕ) → i < count table Inputs → mark_at (table_of table) i ≡ byte_at table (offset table Inputs + input_length * i)
  unfolding table_of
  mark_is i l = section_at mark_of table Inputs i 0 l ∙ first_byte table (offset table Inputs + input_length * i)

  -- what stands at the place of a flip-flop's record
  pub record FlipFlopIs (i k : ℕ) : Type 0 where
    pub next : (flip_flop_at (table_of table) i).next ≡ word16_at table k
    pub value : (flip_flop_at (table_of table) i).value ≡ byte_at table (k + 2)
    pub mark : (flip_flop_at (table_of table) i).mark ≡ byte_at table (k + 3)

  pub flipflop_is : (i : ℕ) → i < count table FlipFlops → FlipFlopIs i (offset table FlipFlops + flip_flop_length * i)
  unfolding table_of
  flipflop_is i l =
      let k = offset table FlipFlops + flip_flop_length * i in
      let at = section_at flip_flop_of table FlipFlops i no_flip_flop l in
      record {
        next = ap (λ (x : FlipFlop). x.next) at ∙ first_word16 table k;
        value = ap (λ (x : FlipFlop). x.value) at ∙ byte_behind table k 2;
        mark = ap (λ (x : FlipFlop). x.mark) at ∙ byte_behind table k 3;
      }

  pub record GateIs (g k : ℕ) : Type 0 where
    pub first : (gate_at (table_of table) g).first ≡ word16_at table k
    pub second : (gate_at (table_of table) g).second ≡ word16_at table (k + 2)

  pub gate_is : (g : ℕ) → g < count table Gates → GateIs g (offset table Gates + gate_length * g)
  unfolding table_of
  gate_is g l =
      let k = offset table Gates + gate_length * g in
      let at = section_at gate_of table Gates g no_gate l in
      record { first = ap (λ (x : Gate). x.first) at ∙ first_word16 table k; second = ap (λ (x : Gate). x.second) at ∙ word16_behind table k 2 }

  -- ---- counts
  pub input_count : length (table_of table).inputs ≡ count table Inputs
  unfolding table_of
  input_count = section_length mark_of table Inputs

  pub flipflop_count : length (table_of table).flipflops ≡ count table FlipFlops
  unfolding table_of
  flipflop_count = section_length flip_flop_of table FlipFlops

  pub gate_count : length (table_of table).gates ≡ count table Gates
  unfolding table_of
  gate_count = section_length gate_of table Gates
