-- A rule by the kind of a wire: what is asked of an input, of a flip-flop and of a gate, and that a test by kind says what the rule by kind does.
use Prim.Native.Nat.{ℕ, ◌-◌, ◌≤◌, ◌<◌}
use mathlib.Core.Path.{◌≡◌, sym, ◌∙◌}
use mathlib.Core.Logic.{◌↔◌}
use mathlib.Core.Bool.{Bool, true}
use native.Mathlib.Omega.{arith}
use native.Mathlib.Decide.{dec_lt}
use borrow.Author.Tests.{lt-ltb, le-ltb}
use Rattle.gates_model.specs.Tables.{Table, first_flip_flop, first_gate}
use Rattle.gates_model.specs.Verdict.{by_kind}
use Rattle.gates_model.specs.Rules.{EachKind}

module _ (t : Table) {A : Type 0} (input flipflop gate : ℕ → A) (w : ℕ) where
  pub kind_input : w < first_flip_flop t → by_kind t input flipflop gate w ≡ input w
  kind_input l = rw (lt-ltb w (first_flip_flop t) l)

  pub kind_flipflop : first_flip_flop t ≤ w → w < first_gate t → by_kind t input flipflop gate w ≡ flipflop (w - first_flip_flop t)
  kind_flipflop above below = rw (le-ltb w (first_flip_flop t) above, lt-ltb w (first_gate t) below)

  pub kind_gate : first_gate t ≤ w → by_kind t input flipflop gate w ≡ gate (w - first_gate t)
  kind_gate above =
      let behind : first_flip_flop t ≤ w = omega arith in
      rw (le-ltb w (first_flip_flop t) behind, le-ltb w (first_gate t) above)

module _ (t : Table) {input flipflop gate : ℕ → Bool} {P Q R : ℕ → Type 0} (p : (i : ℕ) → (input i ≡ true) ↔ P i) (q : (i : ℕ) → (flipflop i ≡ true) ↔ Q i) (r : (g : ℕ) → (gate g ≡ true) ↔ R g) where
  -- a test by kind says what the rule by kind does
  pub kind_iff : (w : ℕ) → (by_kind t input flipflop gate w ≡ true) ↔ EachKind t P Q R w
  kind_iff w = (
    λ e.
        record {
          input = λ l. (p w).0 (sym (kind_input t input flipflop gate w l) ∙ e);
          flipflop = λ above below. (q (w - first_flip_flop t)).0 (sym (kind_flipflop t input flipflop gate w above below) ∙ e);
          gate = λ above. (r (w - first_gate t)).0 (sym (kind_gate t input flipflop gate w above) ∙ e);
        },
    λ kept. one kept (dec_lt w (first_flip_flop t)) (dec_lt w (first_gate t)),
  )
    where
      one : EachKind t P Q R w → Dec (w < first_flip_flop t) → Dec (w < first_gate t) → by_kind t input flipflop gate w ≡ true
      one kept (yes l) d = kind_input t input flipflop gate w l ∙ (p w).1 (kept.input l)
      one kept (no a) (yes l) =
          let above : first_flip_flop t ≤ w = omega arith in
          kind_flipflop t input flipflop gate w above l ∙ (q (w - first_flip_flop t)).1 (kept.flipflop above l)
      one kept (no a) (no b) =
          let above : first_gate t ≤ w = omega arith in
          kind_gate t input flipflop gate w above ∙ (r (w - first_gate t)).1 (kept.gate above)
