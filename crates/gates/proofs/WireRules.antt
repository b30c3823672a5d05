-- The wires on the stack: a byte carries its signal, the sources are those that are lent, and each gate adds its own behind lower ones.
use Prim.Native.Nat.{ℕ, ◌+◌, ◌-◌, ◌*◌, ◌/◌, ◌%◌, ◌≤◌, ◌<◌}
use mathlib.Core.Path.{◌≡◌, refl, sym, ◌∙◌, ap, ap₂}
use mathlib.Core.List.{List}
use native.Mathlib.Omega.{arith}
use native.Mathlib.Nat.{add-zero}
use native.Mathlib.Numerals.{add-one}
use lib.ListN.{length, get_or, set, length-set}
use lib.Seq.{get_or-set_same, get_or-set_other}
use Rattle.model.proofs.Laws.Indices.{extend, length-filled, filled_behind, filled_is}
use Rattle.gates_model.specs.Tables.{Table, table_of, mark_at, gate_at, first_gate, wires}
use Rattle.gates_model.specs.Rules.{TableKeeps}
use Rattle.gates_model.specs.Signals.{Signal, signal, IsSound, nand}
use Rattle.gates_model.specs.Cycle.{signal_at, signal_in, sources, settled, signals}
use Rattle.gates_model.proofs.Laws.Wires.{length-sources, source_input, source_flipflop, settled_lower, settled_gate, nand_sound}
use Rattle.gates.specs.declared.Gates.{Gates}
use Rattle.gates.specs.Describes.{Describes}
use Rattle.gates.specs.Codes.{code_of, signal_of, with_wires, Carries, Lends}
use Rattle.gates.proofs.Laws.{inputs_count, flipflops_count, gates_count, inputs_most, flipflops_most, gates_most}

-- ---- one byte
code_small : {s : Signal} → IsSound s → code_of s < 4
code_small h = let v = h.value in let m = h.mark in omega arith

pub signal_of_code : {s : Signal} → IsSound s → signal_of (code_of s) ≡ s
signal_of_code {s} h =
    let v = h.value in
    let value : (s.value + 2 * s.mark) % 2 ≡ s.value = omega arith in
    let mark : (s.value + 2 * s.mark) / 2 ≡ s.mark = omega arith in
    ap₂ (λ (v m : ℕ). record { value = v; mark = m }) value mark

-- ---- bytes that carry signals
module _ {all : List Signal} where
  carries_more : {n v : ℕ} {bytes : List ℕ} → Carries all n bytes → n < length bytes → v ≡ code_of (signal_at all n) → IsSound (signal_at all n) → Carries all (n + 1) (set bytes n v)
  carries_more {n} {v} {bytes} so l e sound =
      record {
        code = λ w b. extend {P = λ k. get_or (set bytes n v) k 0 ≡ code_of (signal_at all k)} n (λ k c. get_or-set_other bytes n k v 0 (λ z. omega arith) ∙ so.code k c) (get_or-set_same bytes n v 0 l ∙ e) w (rw (add-one n) at b);
        sound = λ w b. extend {P = λ k. IsSound (signal_at all k)} n so.sound sound w (rw (add-one n) at b);
      }

  pub carried : {n w : ℕ} {bytes : List ℕ} → Carries all n bytes → w < n → signal_of (get_or bytes w 0) ≡ signal_at all w
  carried {n} {w} so l = ap signal_of (so.code w l) ∙ signal_of_code (so.sound w l)

  carried_small : {n w : ℕ} {bytes : List ℕ} → Carries all n bytes → w < n → get_or bytes w 0 < 4
  carried_small {n} {w} so l = let few = code_small (so.sound w l) in let is = so.code w l in omega arith

-- signals that are the same up to n
carries_same : {all other : List Signal} {n : ℕ} {bytes : List ℕ} → Carries all n bytes → ((w : ℕ) → w < n → signal_at other w ≡ signal_at all w) → Carries other n bytes
carries_same so same = record { code = λ w l. so.code w l ∙ ap code_of (sym (same w l)); sound = λ w l. rw (same w l) (so.sound w l) }

-- ---- the bytes from a wire on, which stay
pub record Beyond (old : List ℕ) (n : ℕ) (bytes : List ℕ) : Type 0 where
  pub long : length bytes ≡ length old
  pub rest : (k : ℕ) → n ≤ k → get_or bytes k 0 ≡ get_or old k 0

pub beyond_same : {n : ℕ} {old : List ℕ} → Beyond old n old
beyond_same = record { long = refl; rest = λ k l. refl }

beyond_more : (v : ℕ) {n : ℕ} {old bytes : List ℕ} → Beyond old n bytes → Beyond old (n + 1) (set bytes n v)
beyond_more v {n} {old} {bytes} so =
    record { long = length-set bytes n v ∙ so.long; rest = λ k l. get_or-set_other bytes n k v 0 (λ z. omega arith) ∙ so.rest k (omega arith) }

-- so every byte is known
wires_known : {all : List Signal} {n : ℕ} {old bytes : List ℕ} → Carries all n bytes → Beyond old n bytes → bytes ≡ with_wires all n old
wires_known {all} {n} {old} {bytes} so beyond = filled_is (λ w. code_of (signal_at all w)) n old bytes beyond.long so.code beyond.rest

-- ---- the sources
module _ {table : List ℕ} {x : Gates} {inputs area : List ℕ} (d : Describes table x) (lent : Lends (table_of table) inputs area) where
  module _ {w : ℕ} (l : w < x.inputs) where
    input_below : w < length (table_of table).inputs
    input_below = let i = inputs_count d in omega arith

    pub input_read : w < length inputs
    input_read = let long = lent.inputs_long in let below = input_below in omega arith

    module _ {m : ℕ} (e : m ≡ mark_at (table_of table) w) where
      pub input_sound : IsSound (signal (get_or inputs w 0) m)
      input_sound = rw (e, ← source_input (table_of table) inputs area w input_below) (lent.sound w (let below = input_below in omega arith))

      pub input_coded : {c : ℕ} → c ≡ code_of (signal (get_or inputs w 0) m) → c ≡ code_of (signal_at (sources (table_of table) inputs area) w)
      input_coded is = is ∙ rw (source_input (table_of table) inputs area w input_below, e)

  module _ {w : ℕ} (above : x.inputs ≤ w) (below : w < x.inputs + x.flipflops) where
    pub area_inside : 2 * (w - x.inputs) + 2 ≤ length area
    area_inside = let f = flipflops_count d in let long = lent.area_long in omega arith

    source_is : signal_at (sources (table_of table) inputs area) w ≡ signal_in area (w - x.inputs)
    source_is =
        let i = inputs_count d in
        let f = flipflops_count d in
        source_flipflop (table_of table) inputs area w (omega arith) (omega arith) ∙ ap (λ (n : ℕ). signal_in area (w - n)) (sym i)

    pub area_sound : IsSound (signal_in area (w - x.inputs))
    area_sound =
        let i = inputs_count d in
        let f = flipflops_count d in
        rw source_is at (lent.sound w (omega arith))

    pub flipflop_coded : {r : ℕ} → r ≡ code_of (signal_in area (w - x.inputs)) → r ≡ code_of (signal_at (sources (table_of table) inputs area) w)
    flipflop_coded e = rw source_is e

  pub source_inside : {w : ℕ} (bytes : List ℕ) → w < x.inputs + x.flipflops → length bytes ≡ 4608 → w < length bytes
  source_inside bytes l long = let i = inputs_most d in let f = flipflops_most d in omega arith

  pub source_carried : {f w v : ℕ} {bytes : List ℕ} → f ≡ x.inputs + x.flipflops → Carries (sources (table_of table) inputs area) w bytes → length bytes ≡ 4608 → w < f → v ≡ code_of (signal_at (sources (table_of table) inputs area) w)
      → Carries (sources (table_of table) inputs area) (w + 1) (set bytes w v)
  source_carried {f} {w} {v} {bytes} first so long l e =
      let i = inputs_count d in
      let n = flipflops_count d in
      carries_more so (source_inside bytes (omega arith) long) e (lent.sound w (omega arith))

  pub sources_carried : {f w : ℕ} {bytes : List ℕ} → f ≡ x.inputs + x.flipflops → Carries (sources (table_of table) inputs area) w bytes → w ≤ x.inputs + x.flipflops → f ≤ w
      → Carries (sources (table_of table) inputs area) (first_gate (table_of table)) bytes
  sources_carried {f} {w} first so l h =
      let i = inputs_count d in
      let n = flipflops_count d in
      let end : first_gate (table_of table) ≡ w = omega arith in
      rw end so

  pub source_beyond : (v : ℕ) {w : ℕ} {old bytes : List ℕ} → Beyond old w bytes → Beyond old (w + 1) (set bytes w v)
  source_beyond = beyond_more

  pub sources_known : {f w : ℕ} {old bytes : List ℕ} → f ≡ x.inputs + x.flipflops → Carries (sources (table_of table) inputs area) w bytes → Beyond old w bytes → w ≤ x.inputs + x.flipflops → f ≤ w
      → bytes ≡ with_wires (sources (table_of table) inputs area) (first_gate (table_of table)) old
  sources_known {f} {w} first so beyond l h =
      let i = inputs_count d in
      let n = flipflops_count d in
      let end : first_gate (table_of table) ≡ w = omega arith in
      rw end (wires_known so beyond)

-- ---- the gates
pub settled_begins : (t : Table) {start : List Signal} {bytes : List ℕ} → Carries start (first_gate t) bytes → Carries (settled t start 0) (first_gate t + 0) bytes
unfolding settled
settled_begins t so = rw (add-zero (first_gate t)) so

module _ {table : List ℕ} {x : Gates} (d : Describes table x) (keeps : TableKeeps table) where
  gate_wires : (g : ℕ) → g < x.gates → ((gate_at (table_of table) g).first < first_gate (table_of table) + g) × ((gate_at (table_of table) g).second < first_gate (table_of table) + g)
  gate_wires g l =
      let t = table_of table in
      let n = gates_count d in
      let w = first_gate t + g in
      let number : w - first_gate t ≡ g = omega arith in
      let rule = (keeps.wire w (omega arith)).gate (omega arith) in
      (rw number at rule.first, rw number at rule.second)

  module _ {g n : ℕ} (l : g < x.gates) where
    module _ (e : n ≡ (gate_at (table_of table) g).first) where
      first_lower : n < first_gate (table_of table) + g
      first_lower = let rule = (gate_wires g l).0 in omega arith

      pub first_inside : (bytes : List ℕ) → length bytes ≡ 4608 → n < length bytes
      first_inside bytes long =
          let i = inputs_most d in
          let f = flipflops_most d in
          let m = gates_most d in
          let ic = inputs_count d in
          let fc = flipflops_count d in
          let low = first_lower in
          omega arith

      pub first_small : {all : List Signal} {bytes : List ℕ} → Carries all (first_gate (table_of table) + g) bytes → get_or bytes n 0 < 4
      first_small so = carried_small so first_lower

    module _ (e : n ≡ (gate_at (table_of table) g).second) where
      second_lower : n < first_gate (table_of table) + g
      second_lower = let rule = (gate_wires g l).1 in omega arith

      pub second_inside : (bytes : List ℕ) → length bytes ≡ 4608 → n < length bytes
      second_inside bytes long =
          let i = inputs_most d in
          let f = flipflops_most d in
          let m = gates_most d in
          let ic = inputs_count d in
          let fc = flipflops_count d in
          let low = second_lower in
          omega arith

      pub second_small : {all : List Signal} {bytes : List ℕ} → Carries all (first_gate (table_of table) + g) bytes → get_or bytes n 0 < 4
      second_small so = carried_small so second_lower

  pub gate_inside_wires : {g : ℕ} (bytes : List ℕ) → g < x.gates → length bytes ≡ 4608 → x.inputs + x.flipflops + g < length bytes
  gate_inside_wires bytes l long =
      let i = inputs_most d in
      let f = flipflops_most d in
      let m = gates_most d in
      omega arith

  pub gate_carried : (inputs area : List ℕ) {f g n m v : ℕ} {bytes : List ℕ}
      → f ≡ x.inputs + x.flipflops
      → v ≡ code_of (nand (signal_of (get_or bytes n 0)) (signal_of (get_or bytes m 0)))
      → n ≡ (gate_at (table_of table) g).first
      → m ≡ (gate_at (table_of table) g).second
      → g < x.gates
      → length bytes ≡ 4608
      → Carries (settled (table_of table) (sources (table_of table) inputs area) g) (first_gate (table_of table) + g) bytes
      → Carries (settled (table_of table) (sources (table_of table) inputs area) (g + 1)) (first_gate (table_of table) + (g + 1)) (set bytes (f + g) v)
  gate_carried inputs area {f} {g} {n} {m} {v} {bytes} first_is e p q l long so =
      let t = table_of table in
      let start = sources t inputs area in
      let begins = length-sources t inputs area in
      let ic = inputs_count d in
      let fc = flipflops_count d in
      let here : f + g ≡ first_gate t + g = omega arith in
      let place : length start + g ≡ first_gate t + g = omega arith in
      let inside : first_gate t + g < length bytes = (let there = gate_inside_wires bytes l long in omega arith) in
      let more : first_gate t + (g + 1) ≡ first_gate t + g + 1 = omega arith in
      let lower : Carries (settled t start (g + 1)) (first_gate t + g) bytes = carries_same so (λ w b. rw (add-one g) (settled_lower t start g w (omega arith))) in
      let out : signal_at (settled t start (g + 1)) (first_gate t + g) ≡ nand (signal_at (settled t start g) (gate_at t g).first) (signal_at (settled t start g) (gate_at t g).second) = rw (add-one g, ← place) (settled_gate t start g) in
      let first : signal_of (get_or bytes n 0) ≡ signal_at (settled t start g) (gate_at t g).first = carried so (first_lower l p) ∙ ap (signal_at (settled t start g)) p in
      let second : signal_of (get_or bytes m 0) ≡ signal_at (settled t start g) (gate_at t g).second = carried so (second_lower l q) ∙ ap (signal_at (settled t start g)) q in
      let made : nand (signal_of (get_or bytes n 0)) (signal_of (get_or bytes m 0)) ≡ signal_at (settled t start (g + 1)) (first_gate t + g) = ap₂ nand first second ∙ sym out in
      rw (here, more) (carries_more lower inside (e ∙ ap code_of made) (rw out (nand_sound _ _)))

  pub gates_carried : (inputs area : List ℕ) {g : ℕ} {bytes : List ℕ}
      → Carries (settled (table_of table) (sources (table_of table) inputs area) g) (first_gate (table_of table) + g) bytes
      → g ≤ x.gates
      → x.gates ≤ g
      → Carries (signals (table_of table) inputs area) (wires (table_of table)) bytes
  unfolding signals
  gates_carried inputs area {g} so l h =
      let t = table_of table in
      let n = gates_count d in
      let end : length t.gates ≡ g = omega arith in
      rw end so

  pub gate_beyond : (g v : ℕ) {f : ℕ} {old bytes : List ℕ} → f ≡ x.inputs + x.flipflops → Beyond old (first_gate (table_of table) + g) bytes → Beyond old (first_gate (table_of table) + (g + 1)) (set bytes (f + g) v)
  gate_beyond g v {f} first so =
      let i = inputs_count d in
      let n = flipflops_count d in
      let here : f + g ≡ first_gate (table_of table) + g = omega arith in
      let more : first_gate (table_of table) + (g + 1) ≡ first_gate (table_of table) + g + 1 = omega arith in
      rw (here, more) (beyond_more v so)

  pub gates_known : (inputs area : List ℕ) (old : List ℕ) {g : ℕ} {first bytes : List ℕ}
      → first ≡ with_wires (sources (table_of table) inputs area) (first_gate (table_of table)) old
      → Carries (settled (table_of table) (sources (table_of table) inputs area) g) (first_gate (table_of table) + g) bytes
      → Beyond first (first_gate (table_of table) + g) bytes
      → g ≤ x.gates
      → x.gates ≤ g
      → bytes ≡ with_wires (signals (table_of table) inputs area) (wires (table_of table)) old
  unfolding signals
  gates_known inputs area old {g} {first} {bytes} e so beyond l h =
      let t = table_of table in
      let n = gates_count d in
      let end : length t.gates ≡ g = omega arith in
      let code : ℕ → ℕ = λ w. code_of (signal_at (sources t inputs area) w) in
      let long : length first ≡ length old = ap length e ∙ length-filled code (first_gate t) old in
      rw
      end
      (wires_known
      so
      (record {
        long = beyond.long ∙ long;
        rest = λ k b. beyond.rest k b ∙ ap (λ (bytes : List ℕ). get_or bytes k 0) e ∙ filled_behind code (first_gate t) old k (omega arith);
      }))
