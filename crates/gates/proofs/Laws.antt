-- What stands at the place of a record is the table's record.
use Prim.Native.Nat.{ℕ, ◌/◌, ◌+◌, ◌*◌, ◌≤◌, ◌<◌}
use mathlib.Core.Path.{◌≡◌, sym, ap, ◌∙◌}
use mathlib.Core.Bool.{Bool, false, ◌&&◌}
use lib.Dec.{eqb, leb}
use mathlib.Core.List.{List}
use native.Mathlib.Omega.{arith}
use lib.ListN.{length}
use Rattle.model.specs.Image.{byte_at, word16_at}
use Rattle.model.proofs.Laws.Booleans.{false_unless_true}
use Rattle.gates_model.specs.Limits.{directory_length, inputs_max, flip_flops_max, gates_max}
use Rattle.gates_model.specs.Tables.{Section, Inputs, FlipFlops, Gates as GateSection, record_length, most, offset, size, end, size_kept, section_kept, offsets_kept, directory_kept, table_of, mark_at, flip_flop_at, gate_at, first_gate, wires}
use Rattle.gates_model.proofs.Exact.{directory_iff}
use Rattle.gates_model.proofs.Laws.Tables.{mark_is, flipflop_is, gate_is, input_count, flipflop_count, gate_count}
use Rattle.gates.specs.declared.Gates.{Gates}
use Rattle.gates.specs.Records.{mark_in, flip_flop_in, gate_in, input_end, flip_flop_end, gate_end}
use Rattle.gates.specs.Describes.{Describes}

-- a table too short for a directory has none that is kept
pub too_short : (table : List ℕ) → length table < directory_length → false ≡ directory_kept table
too_short table short = sym (false_unless_true (directory_kept table) (λ e. let present = ((directory_iff table).0 e).present in omega arith))

-- the tests of the offsets, and of the sections
pub offsets_rule :
    (table : List ℕ) {i f g ie fe ge : ℕ}
    → i ≡ offset table Inputs
    → f ≡ offset table FlipFlops
    → g ≡ offset table GateSection
    → ie ≡ end table Inputs
    → fe ≡ end table FlipFlops
    → ge ≡ end table GateSection
    → (leb 12 (length table) && eqb i 12 && eqb f ie && eqb g fe && eqb (length table) ge) ≡ offsets_kept table
unfolding offsets_kept
offsets_rule table i f g ie fe ge = rw (i, f, g, ie, fe, ge)

section_rule : (table : List ℕ) {z : ℕ} {b : Bool} (s : Section) → z ≡ size table s → b ≡ size_kept z (record_length s) (most s) → b ≡ section_kept table s
unfolding section_kept
section_rule table s p q = rw (← p) q

pub directory_rule :
    (table : List ℕ) {iz fz gz : ℕ} {o i f g : Bool}
    → o ≡ offsets_kept table
    → iz ≡ size table Inputs
    → fz ≡ size table FlipFlops
    → gz ≡ size table GateSection
    → i ≡ size_kept iz 1 256
    → f ≡ size_kept fz 4 256
    → g ≡ size_kept gz 4 4096
    → (o && i && f && g) ≡ directory_kept table
unfolding directory_kept
directory_rule table o iz fz gz i f g = rw (o, section_rule table Inputs iz i, section_rule table FlipFlops fz f, section_rule table GateSection gz g)

-- ---- the records of a table that a `Gates` describes
module _ {table : List ℕ} {x : Gates} (d : Describes table x) where
  pub inputs_count : x.inputs ≡ length (table_of table).inputs
  inputs_count = d.inputs ∙ sym (input_count table)

  pub flipflops_count : x.flipflops ≡ length (table_of table).flipflops
  flipflops_count = d.flipflops ∙ sym (flipflop_count table)

  pub gates_count : x.gates ≡ length (table_of table).gates
  gates_count = d.gates ∙ sym (gate_count table)

  pub first_gate_count : x.inputs + x.flipflops ≡ first_gate (table_of table)
  first_gate_count = let i = inputs_count in let f = flipflops_count in omega arith

  pub wires_count : x.inputs + x.flipflops + x.gates ≡ wires (table_of table)
  wires_count = let i = inputs_count in let f = flipflops_count in let g = gates_count in omega arith

  -- ---- no section has more records than its limit
  pub inputs_most : x.inputs ≤ inputs_max
  inputs_most = omega (arith, d.inputs, d.directory.inputs)

  pub flipflops_most : x.flipflops ≤ flip_flops_max
  flipflops_most = omega (arith, d.flipflops, d.directory.flipflops)

  pub gates_most : x.gates ≤ gates_max
  gates_most = omega (arith, d.gates, d.directory.gates)

  -- ---- records stand inside the table
  pub input_inside : {i : ℕ} → i < x.inputs → input_end i ≤ length table
  input_inside l = omega (arith, d, d.directory, d.directory.inputs)

  pub flipflop_inside : {i : ℕ} → i < x.flipflops → flip_flop_end x.flipflops_at i ≤ length table
  flipflop_inside l = omega (arith, d, d.directory, d.directory.flipflops)

  pub gate_inside : {g : ℕ} → g < x.gates → gate_end x.gates_at g ≤ length table
  gate_inside l = omega (arith, d, d.directory, d.directory.gates)

  -- ---- where they stand
  pub mark_in_lem : {i m : ℕ} → i < x.inputs → m ≡ mark_in table i → m ≡ mark_at (table_of table) i
  mark_in_lem {i} {m} l e =
      let inside : i < size table Inputs / 1 = omega (arith, d.inputs) in
      e ∙ ap (λ (k : ℕ). byte_at table (k + 1 * i)) (sym d.directory.inputs_at) ∙ sym (mark_is table i inside)

  module _ {i : ℕ} (l : i < x.flipflops) where
    at_flipflop : {A : Type 0} (f : ℕ → A) → f (x.flipflops_at + 4 * i) ≡ f (offset table FlipFlops + 4 * i)
    at_flipflop f = ap (λ (k : ℕ). f (k + 4 * i)) d.flipflops_at

    flipflop_below : i < size table FlipFlops / 4
    flipflop_below = omega (arith, d.flipflops)

    pub next_in : {n : ℕ} → n ≡ (flip_flop_in table x.flipflops_at i).next → n ≡ (flip_flop_at (table_of table) i).next
    next_in e = e ∙ at_flipflop (word16_at table) ∙ sym (flipflop_is table i flipflop_below).next

    pub value_in : {v : ℕ} → v ≡ (flip_flop_in table x.flipflops_at i).value → v ≡ (flip_flop_at (table_of table) i).value
    value_in e = e ∙ at_flipflop (λ k. byte_at table (k + 2)) ∙ sym (flipflop_is table i flipflop_below).value

    pub start_mark_in : {m : ℕ} → m ≡ (flip_flop_in table x.flipflops_at i).mark → m ≡ (flip_flop_at (table_of table) i).mark
    start_mark_in e = e ∙ at_flipflop (λ k. byte_at table (k + 3)) ∙ sym (flipflop_is table i flipflop_below).mark

  module _ {g : ℕ} (l : g < x.gates) where
    at_gate : {A : Type 0} (f : ℕ → A) → f (x.gates_at + 4 * g) ≡ f (offset table GateSection + 4 * g)
    at_gate f = ap (λ (k : ℕ). f (k + 4 * g)) d.gates_at

    gate_below : g < size table GateSection / 4
    gate_below = omega (arith, d.gates)

    pub first_in : {n : ℕ} → n ≡ (gate_in table x.gates_at g).first → n ≡ (gate_at (table_of table) g).first
    first_in e = e ∙ at_gate (word16_at table) ∙ sym (gate_is table g gate_below).first

    pub second_in : {n : ℕ} → n ≡ (gate_in table x.gates_at g).second → n ≡ (gate_at (table_of table) g).second
    second_in e = e ∙ at_gate (λ k. word16_at table (k + 2)) ∙ sym (gate_is table g gate_below).second
