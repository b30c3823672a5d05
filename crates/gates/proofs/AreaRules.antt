-- The flip-flops' area: pairs that a loop writes from the front, and what is lent by its wire.
use Prim.Native.Nat.{ℕ, ◌+◌, ◌-◌, ◌*◌, ◌/◌, ◌%◌, ◌≤◌, ◌<◌}
use mathlib.Core.Path.{◌≡◌, sym, ◌∙◌, ap, ap₂}
use mathlib.Core.Bool.{true, ◌&&◌}
use mathlib.Core.List.{List}
use native.Mathlib.Omega.{arith}
use native.Mathlib.Numerals.{add-one}
use lib.Dec.{leb}
use lib.ListN.{length, get_or, set, length-set}
use lib.Seq.{get_or-set_same, get_or-set_other}
use Rattle.model.specs.Indices.{tabulate}
use Rattle.model.specs.Image.{byte_at}
use Rattle.model.proofs.Laws.Indices.{extend}
use Rattle.gates_model.specs.Tables.{table_of, flip_flop_at, wires as wires_of}
use Rattle.gates_model.specs.Rules.{TableKeeps}
use Rattle.gates_model.specs.Signals.{Signal, signal}
use Rattle.gates_model.specs.Cycle.{bytes_of, signal_in, next_signal, signals, cycled, start_signal, started}
use Rattle.gates_model.specs.Calls.{input_lent, flip_flop_lent, lent_kept}
use Rattle.gates_model.proofs.Laws.Kinds.{kind_input, kind_flipflop}
use Rattle.gates_model.proofs.Laws.Areas.{bytes_made, signal_made, length-made}
use Rattle.gates.specs.declared.Gates.{Gates}
use Rattle.gates.specs.Describes.{Describes}
use Rattle.gates.specs.Codes.{signal_of, Carries, Lends, Written, next_code, taken_signal, taken, put_signal}
use Rattle.gates.proofs.Laws.{inputs_count, flipflops_count, gates_count, inputs_most, flipflops_most, gates_most}
use Rattle.gates.proofs.WireRules.{carried}

-- ---- what is lent
module _ {table : List ℕ} {x : Gates} (d : Describes table x) (inputs area : List ℕ) (w : ℕ) where
  pub lent_input : w < x.inputs → leb (get_or inputs w 0) 1 ≡ lent_kept (table_of table) inputs area w
  unfolding lent_kept
  lent_input l =
      let i = inputs_count d in
      sym (kind_input (table_of table) (input_lent inputs) (flip_flop_lent area) (λ g. true) w (omega arith))

  pub lent_flipflop : x.inputs ≤ w → w < x.inputs + x.flipflops → (leb (get_or area (2 * (w - x.inputs)) 0) 1 && leb (get_or area (2 * (w - x.inputs) + 1) 0) 1) ≡ lent_kept (table_of table) inputs area w
  unfolding lent_kept
  lent_flipflop above below =
      let i = inputs_count d in
      let f = flipflops_count d in
      ap (λ (n : ℕ). flip_flop_lent area (w - n)) i
      ∙ sym (kind_flipflop (table_of table) (input_lent inputs) (flip_flop_lent area) (λ g. true) w (omega arith) (omega arith))

-- ---- one pair
pub second_inside : (area : List ℕ) (i a : ℕ) → 2 * i + 2 ≤ length area → 2 * i + 1 < length (set area (2 * i) a)
second_inside area i a l = let same = length-set area (2 * i) a in omega arith

module _ (area : List ℕ) (i value mark : ℕ) where
  length-put : length (put_signal area i value mark) ≡ length area
  length-put = length-set (set area (2 * i) value) (2 * i + 1) mark ∙ length-set area (2 * i) value

  put_other : (k : ℕ) → k < i → signal_in (put_signal area i value mark) k ≡ signal_in area k
  put_other k l =
      let one = set area (2 * i) value in
      ap₂
      signal
      (get_or-set_other one (2 * i + 1) (2 * k) mark 0 (λ z. omega arith) ∙ get_or-set_other area (2 * i) (2 * k) value 0 (λ z. omega arith))
      (get_or-set_other one (2 * i + 1) (2 * k + 1) mark 0 (λ z. omega arith) ∙ get_or-set_other area (2 * i) (2 * k + 1) value 0 (λ z. omega arith))

  put_same : 2 * i + 2 ≤ length area → signal_in (put_signal area i value mark) i ≡ signal value mark
  put_same l =
      let one = set area (2 * i) value in
      let long = length-set area (2 * i) value in
      ap₂
      signal
      (get_or-set_other one (2 * i + 1) (2 * i) mark 0 (λ z. omega arith) ∙ get_or-set_same area (2 * i) value 0 (omega arith))
      (get_or-set_same one (2 * i + 1) mark 0 (omega arith))

-- ---- a loop that writes from the front

pub put_long : (n i v m : ℕ) (area : List ℕ) {after : List ℕ} → after ≡ put_signal area i v m → length area ≡ 2 * n → length after ≡ 2 * n
put_long n i v m area e long = ap (λ (a : List ℕ). length a) e ∙ length-put area i v m ∙ long

module _ {f : ℕ → Signal} where
  written_more : {n i v m : ℕ} {area after : List ℕ} → Written f i area → length area ≡ 2 * n → i < n → signal v m ≡ f i → after ≡ put_signal area i v m → Written f (i + 1) after
  written_more {n} {i} {v} {m} {area} so long l e wrote =
      record { pair = λ k b. rw wrote (extend {P = λ j. signal_in (put_signal area i v m) j ≡ f j} i (λ j c. put_other area i v m j c ∙ so.pair j c) (put_same area i v m (omega arith) ∙ e) k (rw (add-one i) at b)) }

  written_whole : {n i : ℕ} (area : List ℕ) → Written f i area → length area ≡ 2 * n → n ≤ i → area ≡ bytes_of (tabulate f n)
  written_whole {n} area so long h = bytes_made f n area long (λ k l. so.pair k (omega arith))

module _ {table : List ℕ} {x : Gates} (d : Describes table x) where
  whole_length : (area : List ℕ) → length area ≡ 2 * x.flipflops → length area ≡ 2 * length (table_of table).flipflops
  whole_length area long = let n = flipflops_count d in omega arith

  -- reset
  pub start_whole : {i : ℕ} {area : List ℕ} → Written (start_signal (table_of table)) i area → length area ≡ 2 * x.flipflops → x.flipflops ≤ i → area ≡ started (table_of table)
  unfolding started
  start_whole {i} {area} so long h = let n = flipflops_count d in written_whole area so (whole_length area long) (omega arith)

  -- a cycle
  pub take_more : {i c : ℕ} (bytes : List ℕ) {area after : List ℕ}
      → Written (taken_signal (table_of table) bytes) i area
      → c ≡ next_code (table_of table) bytes i
      → after ≡ put_signal area i (c % 2) (c / 2)
      → length area ≡ 2 * x.flipflops
      → i < x.flipflops
      → Written (taken_signal (table_of table) bytes) (i + 1) after
  unfolding taken_signal
  take_more {i} bytes so e wrote long l = written_more so long l (ap signal_of e) wrote

  pub take_whole : {i : ℕ} (bytes : List ℕ) {area : List ℕ} → Written (taken_signal (table_of table) bytes) i area → length area ≡ 2 * x.flipflops → x.flipflops ≤ i
      → area ≡ taken (table_of table) bytes
  unfolding taken
  take_whole {i} bytes {area} so long h = let n = flipflops_count d in written_whole area so (whole_length area long) (omega arith)

  pub lends_long : {inputs area : List ℕ} → Lends (table_of table) inputs area → length area ≡ 2 * x.flipflops
  lends_long lent = let n = flipflops_count d in let long = lent.area_long in omega arith

-- what a cycle takes, from a wire that a table names
pub next_coded : (table : List ℕ) (i : ℕ) {n : ℕ} (bytes : List ℕ) → n ≡ (flip_flop_at (table_of table) i).next → get_or bytes n 0 ≡ next_code (table_of table) bytes i
unfolding next_code
next_coded table i bytes e = ap (byte_at bytes) e

module _ {table : List ℕ} {x : Gates} (d : Describes table x) (keeps : TableKeeps table) where
  next_below : (i : ℕ) → i < x.flipflops → (flip_flop_at (table_of table) i).next < wires_of (table_of table)
  next_below i l =
      let t = table_of table in
      let n = flipflops_count d in
      let w = length t.inputs + i in
      let number : w - length t.inputs ≡ i = omega arith in
      let rule = (keeps.wire w (omega arith)).flipflop (omega arith) (omega arith) in
      rw number at rule.next

  pub next_inside : {i n : ℕ} (bytes : List ℕ) → i < x.flipflops → n ≡ (flip_flop_at (table_of table) i).next → length bytes ≡ 4608 → n < length bytes
  next_inside {i} bytes l e long =
      let below = next_below i l in
      let i' = inputs_most d in
      let f = flipflops_most d in
      let m = gates_most d in
      let ic = inputs_count d in
      let fc = flipflops_count d in
      let gc = gates_count d in
      omega arith

  pub cycle_makes : (inputs area : List ℕ) {bytes after : List ℕ} → after ≡ taken (table_of table) bytes → Carries (signals (table_of table) inputs area) (wires_of (table_of table)) bytes → after ≡ cycled (table_of table) inputs area
  unfolding cycled taken taken_signal next_code
  cycle_makes inputs area {bytes} {after} made so =
      let t = table_of table in
      let n = length t.flipflops in
      let count = flipflops_count d in
      made
      ∙ bytes_made
      (next_signal t (signals t inputs area))
      n
      (bytes_of (tabulate (taken_signal t bytes) n))
      (length-made (taken_signal t bytes) n)
      (λ k l. signal_made (taken_signal t bytes) n k l ∙ carried so (next_below k (omega arith)))
