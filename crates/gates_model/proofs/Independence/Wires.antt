-- Two runs that agree at the sources agree at every wire: a gate's mark is made of marks and trusted values, and its value, where it is marked trusted, of trusted values or of a
-- trusted 0. So they agree at every flip-flop after the cycle.
use Prim.Native.Nat.{ℕ, zero, suc, ◌+◌, ◌-◌, ◌≤◌, ◌<◌}
use mathlib.Core.Path.{◌≡◌, refl, sym, ◌∙◌, ap, ap₂}
use mathlib.Core.Bool.{Bool, true, false, ◌&&◌}
use mathlib.Core.List.{List}
use native.Mathlib.Omega.{arith}
use native.Mathlib.Decide.{dec_lt}
use lib.Dec.{eqb}
use lib.ListN.{length, get_or-eq_default}
use borrow.Author.Tests.{eqb-true}
use Rattle.gates_model.specs.Tables.{Table, gate_at, flip_flop_at, first_flip_flop, first_gate}
use Rattle.gates_model.specs.Signals.{Signal, is_trusted, is_trusted_zero, nand}
use Rattle.gates_model.specs.Cycle.{signal_at, no_signal, sources, settled, signals, next_signal, cycled}
use Rattle.gates_model.specs.Runs.{SignalsAgree, Agree, FedAlike}
use Rattle.gates_model.proofs.Laws.Areas.{signal_made}
use Rattle.gates_model.proofs.Laws.Wires.{length-sources, source_input, source_flipflop, length-settled, settled_lower, settled_gate}
use Rattle.gates_model.proofs.Marks.{trusted_output}

-- ---- one gate
trusted_same : {a c : Signal} → SignalsAgree a c → is_trusted a ≡ is_trusted c
trusted_same h = ap (λ (m : ℕ). eqb m 0) h.marks

zero_same : {a c : Signal} → SignalsAgree a c → is_trusted_zero a ≡ is_trusted_zero c
zero_same {a} {c} h = go (is_trusted a) refl
  where
    go : (t : Bool) → is_trusted a ≡ t → is_trusted_zero a ≡ is_trusted_zero c
    go true e = ap₂ ◌&&◌ (trusted_same h) (ap (λ (v : ℕ). eqb v 0) (h.values (eqb-true a.mark 0 e)))
    go false e = rw (← trusted_same h, e)

module _ {a b c d : Signal} (h : SignalsAgree a c) (k : SignalsAgree b d) where
  marks_same : (nand a b).mark ≡ (nand c d).mark
  unfolding nand
  marks_same = rw (zero_same h, zero_same k, trusted_same h, trusted_same k)

  values_same : (nand a b).mark ≡ 0 → (nand a b).value ≡ (nand c d).value
  unfolding nand
  values_same e = sym (trusted_output a b c.value d.value (λ m. sym (h.values m)) (λ m. sym (k.values m)) e)

  pub gate_agrees : SignalsAgree (nand a b) (nand c d)
  gate_agrees = record { marks = marks_same; values = values_same }

-- ---- all wires
-- signals that agree one by one
record AllAgree (one other : List Signal) : Type 0 where
  long : length one ≡ length other
  wire : (w : ℕ) → SignalsAgree (signal_at one w) (signal_at other w)

alike : {a b : Signal} → a ≡ b → SignalsAgree a b
alike e = record { marks = ap (λ (s : Signal). s.mark) e; values = λ m. ap (λ (s : Signal). s.value) e }

-- agreement of the entries is agreement at every number: past the end both are the same
make : (one other : List Signal) → length one ≡ length other → ((w : ℕ) → w < length one → SignalsAgree (signal_at one w) (signal_at other w)) → AllAgree one other
make one other long h = record { long = long; wire = λ w. go w (dec_lt w (length one)) }
  where
    go : (w : ℕ) → Dec (w < length one) → SignalsAgree (signal_at one w) (signal_at other w)
    go w (yes l) = h w l
    go w (no l) = alike (get_or-eq_default one no_signal {n = w} (omega arith) ∙ sym (get_or-eq_default other no_signal {n = w} (omega arith)))

module _ (t : Table) where
  settled_agree : (one other : List Signal) → AllAgree one other → (n : ℕ) → AllAgree (settled t one n) (settled t other n)
  unfolding settled
  settled_agree one other h zero = h
  settled_agree one other h (suc n) =
      let before = settled_agree one other h n in
      let same = h.long in
      let one-long = length-settled t one (suc n) in
      let other-long = length-settled t other (suc n) in
      make (settled t one (suc n)) (settled t other (suc n)) (omega arith) (λ w l. step before w (omega arith) (dec_lt w (length one + n)))
    where
      step : AllAgree (settled t one n) (settled t other n) → (w : ℕ) → w < length one + suc n → Dec (w < length one + n) → SignalsAgree (signal_at (settled t one (suc n)) w) (signal_at (settled t other (suc n)) w)
      step before w l (yes low) =
          let same = h.long in
          rw (settled_lower t one n w low, settled_lower t other n w (omega arith)) (before.wire w)
      step before w l (no high) =
          let same = h.long in
          let here : w ≡ length one + n = omega arith in
          let there : w ≡ length other + n = omega arith in
          rw (ap (signal_at (settled t one (suc n))) here ∙ settled_gate t one n, ap (signal_at (settled t other (suc n))) there ∙ settled_gate t other n) (gate_agrees (before.wire (gate_at t n).first) (before.wire (gate_at t n).second))

  module _ {inputs inputs' area area' : List ℕ} (fed : FedAlike t inputs inputs') (agree : Agree t area area') where
    sources_agree : AllAgree (sources t inputs area) (sources t inputs' area')
    sources_agree =
        let one = length-sources t inputs area in
        let other = length-sources t inputs' area' in
        make (sources t inputs area) (sources t inputs' area') (omega arith) (λ w l. by_kind w (omega arith) (dec_lt w (first_flip_flop t)))
      where
        by_kind : (w : ℕ) → w < first_gate t → Dec (w < first_flip_flop t) → SignalsAgree (signal_at (sources t inputs area) w) (signal_at (sources t inputs' area') w)
        by_kind w l (yes low) =
            rw (source_input t inputs area w low, source_input t inputs' area' w low) (record { marks = refl; values = λ m. fed.input w low m })
        by_kind w l (no high) =
            let above : first_flip_flop t ≤ w = omega arith in
            rw (source_flipflop t inputs area w above l, source_flipflop t inputs' area' w above l) (agree.flipflop (w - first_flip_flop t) (omega arith))

    signals_agree : AllAgree (signals t inputs area) (signals t inputs' area')
    unfolding signals
    signals_agree = settled_agree (sources t inputs area) (sources t inputs' area') sources_agree (length t.gates)

    -- one cycle: the flip-flops take signals of wires that agree
    pub cycle_agrees : Agree t (cycled t inputs area) (cycled t inputs' area')
    unfolding cycled
    cycle_agrees =
        record {
          flipflop = λ i l.
              rw
              (signal_made (next_signal t (signals t inputs area)) (length t.flipflops) i l, signal_made (next_signal t (signals t inputs' area')) (length t.flipflops) i l)
              (signals_agree.wire (flip_flop_at t i).next);
        }
