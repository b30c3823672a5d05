-- The tests of a table's wires: each field that the code reads is the table's, and a wire is judged by its kind.
use Rattle.std.specs.Prelude.{Option}
use Prim.Native.Nat.{ℕ, ◌+◌, ◌-◌, ◌≤◌, ◌<◌}
use mathlib.Core.Path.{◌≡◌, sym, ◌∙◌, ap}
use mathlib.Core.Bool.{Bool, true, false, not, ◌&&◌}
use mathlib.Core.List.{List}
use native.Mathlib.Omega.{arith}
use lib.Dec.{leb, ltb}
use lib.ListN.{length}
use Rattle.model.specs.declared.Refusal.TheVariants.{GateDirectory, GateWire}
use Rattle.model.specs.Answers.{Answer, Refused}
use Rattle.model.specs.Indices.{lowest_failing}
use Rattle.model.specs.Verdict.{◌before◌, refused_at}
use Rattle.model.proofs.Laws.Booleans.{not_true, not_false}
use Rattle.gates_model.specs.Tables.{table_of, mark_at, flip_flop_at, gate_at, directory_kept, wires}
use Rattle.gates_model.specs.Verdict.{input_kept, flip_flop_kept, gate_kept, wire_kept, table_answer}
use Rattle.gates_model.specs.Rules.{DirectoryKeeps}
use Rattle.gates_model.proofs.Exact.{directory_iff}
use Rattle.gates_model.proofs.Laws.Kinds.{kind_input, kind_flipflop, kind_gate}
use Rattle.gates.specs.declared.Gates.{Gates}
use Rattle.gates.specs.Describes.{Describes}
use Rattle.gates.proofs.Laws.{inputs_count, flipflops_count, wires_count}

pub input_rule : (table : List ℕ) (i : ℕ) {m : ℕ} → m ≡ mark_at (table_of table) i → leb m 1 ≡ input_kept (table_of table) i
unfolding input_kept
input_rule table i e = rw e

module _ {table : List ℕ} {x : Gates} (d : Describes table x) where
  pub flipflop_rule : (i : ℕ) {n v m s : ℕ}
      → n ≡ (flip_flop_at (table_of table) i).next
      → v ≡ (flip_flop_at (table_of table) i).value
      → m ≡ (flip_flop_at (table_of table) i).mark
      → s ≡ x.inputs + x.flipflops + x.gates
      → (ltb n s && leb v 1 && leb m 1) ≡ flip_flop_kept (table_of table) i
  unfolding flip_flop_kept
  flipflop_rule i n v m s = rw (n, v, m, s, wires_count d)

  pub gate_rule : (g : ℕ) {a b f : ℕ}
      → a ≡ (gate_at (table_of table) g).first
      → b ≡ (gate_at (table_of table) g).second
      → f ≡ x.inputs + x.flipflops
      → (ltb a (f + g) && ltb b (f + g)) ≡ gate_kept (table_of table) g
  unfolding gate_kept
  gate_rule g a b f = rw (a, b, f, inputs_count d, flipflops_count d)

  -- ---- by kind
  pub wire_input : {w : ℕ} {b : Bool} → w < x.inputs → b ≡ input_kept (table_of table) w → b ≡ wire_kept (table_of table) w
  unfolding wire_kept
  wire_input {w} l e =
      let t = table_of table in
      let i = inputs_count d in
      e ∙ sym (kind_input t (input_kept t) (flip_flop_kept t) (gate_kept t) w (omega arith))

  pub wire_flipflop : {w : ℕ} {b : Bool} → x.inputs ≤ w → w < x.inputs + x.flipflops → b ≡ flip_flop_kept (table_of table) (w - x.inputs) → b ≡ wire_kept (table_of table) w
  unfolding wire_kept
  wire_flipflop {w} above below e =
      let t = table_of table in
      let i = inputs_count d in
      let f = flipflops_count d in
      e ∙ ap (λ (n : ℕ). flip_flop_kept t (w - n)) i ∙ sym (kind_flipflop t (input_kept t) (flip_flop_kept t) (gate_kept t) w (omega arith) (omega arith))

  pub wire_gate : {w f : ℕ} {b : Bool} → f ≡ x.inputs + x.flipflops → f ≤ w → b ≡ gate_kept (table_of table) (w - f) → b ≡ wire_kept (table_of table) w
  unfolding wire_kept
  wire_gate {w} {f} first above e =
      let t = table_of table in
      let i = inputs_count d in
      let n = flipflops_count d in
      let behind : f ≡ length t.inputs + length t.flipflops = omega arith in
      e ∙ ap (λ (n : ℕ). gate_kept t (w - n)) behind ∙ sym (kind_gate t (input_kept t) (flip_flop_kept t) (gate_kept t) w (omega arith))

-- ---- the verdict
pub directory_known : {table : List ℕ} {b : Bool} → b ≡ directory_kept table → not b ≡ false → DirectoryKeeps table
directory_known {table} {b} e h = (directory_iff table).0 (sym e ∙ not_false b h)

module _ (table : List ℕ) {b : Bool} (e : b ≡ directory_kept table) where
  pub directory_refuses : not b ≡ true → Refused GateDirectory 0 ≡ table_answer table
  unfolding table_answer refused_at ◌before◌
  directory_refuses h = rw (← e, not_true b h)

  pub wire_answers : {f : Option ℕ} {a : Answer} → not b ≡ false → f ≡ lowest_failing (wire_kept (table_of table)) (wires (table_of table)) → a ≡ refused_at GateWire f → a ≡ table_answer table
  unfolding table_answer refused_at ◌before◌
  wire_answers h found k = rw (← e, not_false b h, ← found) k
