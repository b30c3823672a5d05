-- A record against the table of the ports' largest values. A port has a width of at least 1, so its largest value is not 0; an entry 0 says that there is no port, and a
-- value is at most the largest exactly where it fits.
use Rattle.std.specs.Prelude.{Option, Some, None}
use Prim.Native.Nat.{ℕ, suc, ◌-◌, ◌^◌, ◌≤◌, ◌<◌}
use mathlib.Core.Path.{◌≡◌, refl, sym, ◌∙◌}
use mathlib.Core.Logic.{◌⊎◌, inl, inr}
use mathlib.Core.Bool.{Bool, true, false, ◌&&◌, not, cond}
use mathlib.Core.List.{List}
use native.Mathlib.Omega.{arith}
use lib.Dec.{leb, ltb}
use lib.ListN.{length, get_or}
use lib.Pow.{pow_mono}
use Rattle.model.specs.declared.Refusal.TheVariants.{NoPort, PortValue}
use Rattle.model.specs.Answers.{Answer, Accepted, Refused}
use Rattle.model.specs.Limits.{registers_max}
use Rattle.model.specs.Indices.{or_at, lowest, lowest_failing}
use Rattle.model.specs.Image.{Design as Table, design_of, register_at}
use Rattle.model.specs.Values.{fits}
use Rattle.model.specs.Verdict.{◌before◌}
use Rattle.model.specs.Calls.{is_writable}
use Rattle.model.proofs.Exact.Records.{register_iff}
use Rattle.model.proofs.Laws.Booleans.{decide, and_first, and_second, and_both}
use Rattle.model.proofs.Laws.Equivalences.{less_iff, at_most_iff, same_tests}
use Rattle.model.proofs.Laws.Verdict.{CountsNothing, refused_is_not_accepted}
use Rattle.design.specs.declared.Design.{Design}
use Rattle.design.specs.Kept.{RecordsKept}
use Rattle.design.proofs.Laws.{registers_count, registers_most}
use Rattle.calls.proofs.CallRules.{port_there}
use Rattle.replay_model.specs.declared.TraceRecord.{TraceRecord}
use Rattle.replay_model.specs.Traces.{record_at}
use Rattle.replay_model.specs.Calls.{register_kept, value_kept, record_answer}
use Rattle.replay_steps.specs.Preparing.{largest_of, Largest}
use Rattle.replay_steps.specs.Judging.{port_at}

-- the table of the ports of a design whose registers are judged
pub record Ports (d : Table) (table : List ℕ) : Type 0 where
  pub few : length d.registers ≤ registers_max
  pub wide : (r : ℕ) → r < length d.registers → 1 ≤ (register_at d r).width
  pub entries : Largest d table

pub ports_known : {image : List ℕ} {x : Design} {table : List ℕ} → RecordsKept image x → Largest (design_of image) table → Ports (design_of image) table
ports_known {image} known entries =
    let count = registers_count known.describes in
    let few = registers_most known.describes in
    record { few = omega arith; wide = λ r l. ((register_iff (design_of image) r).0 (known.registers.kept r l)).width_least; entries = entries }

module _ {d : Table} {table : List ℕ} (ports : Ports d table) (r : ℕ) where
  abbrev entry : ℕ
  entry = get_or table r 0

  abbrev width : ℕ
  width = (register_at d r).width

  entry_port : is_writable d r ≡ true → entry ≡ 2 ^ width - 1
  unfolding largest_of
  entry_port e =
      let l = port_there d r (sym e) refl in
      let few = ports.few in
      ports.entries.entry r (omega arith) ∙ rw ((less_iff {a = r} {b = length d.registers}).1 l, e)

  entry_none : r < registers_max → is_writable d r ≡ false → entry ≡ 0
  unfolding largest_of
  entry_none l e = ports.entries.entry r l ∙ rw e (go (ltb r (length d.registers)))
    where
      go : (b : Bool) → ◌≡◌ {A = ℕ} (cond b 0 0) 0
      go true = refl
      go false = refl

  some_value : is_writable d r ≡ true → 2 ≤ 2 ^ width
  some_value e = pow_mono {i = 1} {j = width} (ports.wide r (port_there d r (sym e) refl))

  port_named : (ltb r registers_max && ltb 0 entry) ≡ is_writable d r
  port_named = same_tests (named, has)
    where
      named : (ltb r registers_max && ltb 0 entry) ≡ true → is_writable d r ≡ true
      named e = go (decide (is_writable d r))
        where
          go : (is_writable d r ≡ true) ⊎ (is_writable d r ≡ false) → is_writable d r ≡ true
          go (inl h) = h
          go (inr h) =
              let below : r < registers_max = less_iff.0 (and_first (ltb r registers_max) (ltb 0 entry) e) in
              let some : 0 < entry = less_iff.0 (and_second (ltb r registers_max) (ltb 0 entry) e) in
              let none = entry_none below h in
              absurd (omega arith)

      has : is_writable d r ≡ true → (ltb r registers_max && ltb 0 entry) ≡ true
      has e =
          let l = port_there d r (sym e) refl in
          let few = ports.few in
          let is = entry_port e in
          let some = some_value e in
          and_both (ltb r registers_max) (ltb 0 entry) ((less_iff {a = r} {b = registers_max}).1 (omega arith)) ((less_iff {a = 0} {b = entry}).1 (omega arith))

  port_fits : (v : ℕ) → is_writable d r ≡ true → leb v entry ≡ fits d.registers r v
  port_fits v e =
      let is = entry_port e in
      let some = some_value e in
      same_tests (
        λ h. let most : v ≤ entry = at_most_iff.0 h in (less_iff {a = v} {b = 2 ^ width}).1 (omega arith),
        λ h. let below : v < 2 ^ width = less_iff.0 h in (at_most_iff {a = v} {b = entry}).1 (omega arith),
      )

  -- what is judged of a record's port and value
  pub port_rule : (i v : ℕ) → port_at table i r v ≡ cond (is_writable d r) (cond (fits d.registers r v) (Accepted 0) (Refused PortValue i)) (Refused NoPort i)
  unfolding port_at
  port_rule i v = rw port_named (go (is_writable d r) (port_fits v))
    where
      go : (b : Bool) → (b ≡ true → leb v entry ≡ fits d.registers r v)
          → cond b (cond (leb v entry) (Accepted 0) (Refused PortValue i)) (Refused NoPort i)
          ≡ cond b (cond (fits d.registers r v) (Accepted 0) (Refused PortValue i)) (Refused NoPort i)
      go true same = rw (same refl)
      go false same = refl

-- a record that is kept names a register of the table
pub port_below : (table : List ℕ) (i r v : ℕ) {n : ℕ} → port_at table i r v ≡ Accepted n → r < registers_max
unfolding port_at
port_below table i r v {n} e = go (ltb r registers_max && ltb 0 (get_or table r 0)) refl e
  where
    go : (b : Bool) → (ltb r registers_max && ltb 0 (get_or table r 0)) ≡ b → cond b (cond (leb v (get_or table r 0)) (Accepted 0) (Refused PortValue i)) (Refused NoPort i) ≡ Accepted n → r < registers_max
    go true named h = less_iff.0 (and_first (ltb r registers_max) (ltb 0 (get_or table r 0)) named)
    go false named h = absurd (refused_is_not_accepted _ _ _ h)

-- ---- 13 and 17 of the first records
module _ (d : Table) (trace : List TraceRecord) where
  found_counts_nothing : (f : Option ℕ) → CountsNothing (record_answer d trace f)
  unfolding record_answer
  found_counts_nothing None n e = let same : Accepted 0 ≡ Accepted n = e in cc
  found_counts_nothing (Some i) n e = go (register_kept d trace i) e
    where
      go : (b : Bool) → cond b (Refused PortValue i) (Refused NoPort i) ≡ Accepted n → n ≡ 0
      go true h = absurd (refused_is_not_accepted _ _ _ h)
      go false h = absurd (refused_is_not_accepted _ _ _ h)

  -- what was found earlier, else what record i breaks
  found_next : (i : ℕ) (f : Option ℕ) (a b : Bool) → register_kept d trace i ≡ a
      → record_answer d trace (or_at f (not (a && b)) i) ≡ (record_answer d trace f before cond a (cond b (Accepted 0) (Refused PortValue i)) (Refused NoPort i))
  unfolding record_answer ◌before◌
  found_next i (Some k) a b e = go (register_kept d trace k)
    where
      go : (w : Bool)
          → cond w (Refused PortValue k) (Refused NoPort k)
          ≡ (cond w (Refused PortValue k) (Refused NoPort k) before cond a (cond b (Accepted 0) (Refused PortValue i)) (Refused NoPort i))
      go true = refl
      go false = refl
  found_next i None true true e = refl
  found_next i None true false e = rw e
  found_next i None false b e = rw e

  -- of the first i
  unfoldable pub ports_answer : ℕ → Answer
  ports_answer i = record_answer d trace (lowest_failing (λ k. register_kept d trace k && value_kept d trace k) i)

  pub ports_count_nothing : (i : ℕ) → CountsNothing (ports_answer i)
  unfolding ports_answer
  ports_count_nothing i = found_counts_nothing (lowest_failing (λ k. register_kept d trace k && value_kept d trace k) i)

  pub ports_none : ports_answer 0 ≡ Accepted 0
  unfolding ports_answer record_answer lowest_failing lowest
  ports_none = refl

  -- one more
  pub ports_next : {table : List ℕ} → Ports d table → (i : ℕ)
      → ports_answer (suc i) ≡ (ports_answer i before port_at table i (record_at trace i).register (record_at trace i).value)
  unfolding ports_answer lowest_failing lowest register_kept value_kept
  ports_next ports i =
      rw
      (port_rule ports (record_at trace i).register i (record_at trace i).value)
      (found_next
      i
      (lowest (λ k. not (register_kept d trace k && value_kept d trace k)) i)
      (is_writable d (record_at trace i).register)
      (fits d.registers (record_at trace i).register (record_at trace i).value)
      refl)
