-- What is prepared before the trace: the largest values of the ports, one by one, and what a replay answers at each thing that it judges first.
use Rattle.std.specs.Prelude.{Err}
use Prim.Native.Nat.{ℕ, ◌*◌, ◌-◌, ◌%◌, ◌^◌, ◌≤◌, ◌<◌}
use mathlib.Core.Path.{◌≡◌, refl, sym, ◌∙◌, ap}
use mathlib.Core.Bool.{Bool, true, false, not, cond}
use mathlib.Core.List.{List}
use native.Mathlib.Omega.{arith}
use native.Mathlib.Decide.{ℕ_discrete, dec_lt}
use lib.Dec.{leb, ltb}
use lib.ListN.{length, get_or, replicate, length-replicate, get_or-replicate}
use lib.Pow.{pow-lt, ones_lt}
use borrow.Author.Tests.{eq-eqb, ne_eqb, lt-ltb, le-ltb}
use mir.Syntax.{w32}
use mir.Val.{Fits}
use Rattle.model.specs.declared.Refusal.{Refusal}
use Rattle.model.specs.declared.RefusedAt.{RefusedAt}
use Rattle.model.specs.declared.Refusal.TheVariants.{Area, CycleCount}
use Rattle.model.specs.Answers.{Answer, Accepted, Refused}
use Rattle.model.specs.Indices.{filled_to}
use Rattle.model.specs.Limits.{registers_max, cycles_max, width_max}
use Rattle.model.specs.Image.{Design as Table, design_of}
use Rattle.model.specs.Verdict.{verdict, refused_at, ◌before◌}
use Rattle.model.specs.Calls.{Lent, length_answer, cycles_answer, run_answer}
use Rattle.model.proofs.Laws.Indices.{length-filled, filled_before, filled_behind}
use Rattle.model.proofs.Laws.Booleans.{not_true, not_false}
use Rattle.model.proofs.Laws.Verdict.{refused_is_not_accepted}
use Rattle.design.specs.declared.Design.{Design}
use Rattle.design.specs.Records.{register_in}
use Rattle.design.specs.Describes.{Describes}
use Rattle.design.specs.Kept.{RecordsKept}
use Rattle.design.specs.Resets.{with_defaults, Filled, lends}
use Rattle.design.specs.Scopes.{with_scopes}
use Rattle.design.proofs.Laws.{registers_count, registers_few}
use Rattle.design.proofs.ResetRules.{filled_to_lem, filled_whole}
use Rattle.design.proofs.ShiftRules.{shifted_ones}
use Rattle.design.proofs.WidthRules.{width_is}
use Rattle.machine.specs.declared.tables.Tables.{Tables}
use Rattle.machine.specs.Cycles.{Running}
use Rattle.running.specs.Stages.{sound_on}
use Rattle.running.proofs.RunningRules.{sound_before}
use Rattle.calls.proofs.CallRules.{port_rule}
use Rattle.replay_steps.specs.declared.preparing.Prepared.{Prepared}
use Rattle.replay_steps.specs.Preparing.{largest_of, Largest, described_by, refused_with, accepted_with, prepared_as, on_accepted, Preparing, PreparingOn}

-- ---- the largest value of a port
module _ {w : ℕ} (l : w ≤ width_max) where
  pub width_shifts : w < 64
  width_shifts = omega arith

  pub largest_fits : Fits w32 (1 * 2 ^ w % 18446744073709551616 - 1)
  largest_fits = record { fits = rw (shifted_ones {n = w} (omega arith)) (go (ℕ_discrete w 32)) }
    where
      go : Dec (w ≡ 32) → 2 ^ w - 1 < 4294967296
      go (yes e) = rw e (ones_lt 32)
      go (no e) = let less : 2 ^ w < 2 ^ 32 = pow-lt {i = w} {j = 32} (omega arith) in let ones = ones_lt w in omega arith

module _ {image : List ℕ} {x : Design} {r k : ℕ} (known : RecordsKept image x) (l : r < x.registers) (h : k ≡ (register_in image x.registers_at r).kind) where
  pub largest_none : (k ≡ 1 → ⊥) → 0 ≡ largest_of (design_of image) r
  unfolding largest_of
  largest_none other = rw (← port_rule known.describes l h, ne_eqb k 1 other)

  pub largest_rule : {w : ℕ} → k ≡ 1 → w ≤ width_max → w ≡ (register_in image x.registers_at r).width → 1 * 2 ^ w % 18446744073709551616 - 1 ≡ largest_of (design_of image) r
  unfolding largest_of
  largest_rule {w} port narrow e = rw (← port_rule known.describes l h, eq-eqb k 1 port, ← width_is known l e) (shifted_ones {n = w} (omega arith))

-- ---- of every register
-- the table over zeros
pub largest_over : {table : List ℕ} (d : Table) → length d.registers ≤ registers_max → table ≡ filled_to (largest_of d) (length d.registers) (replicate {A = ℕ} 64 0) → Largest d table
largest_over d few e =
    record {
      long = ap length e ∙ length-filled (largest_of d) all zeros ∙ length-replicate {A = ℕ} 64 0;
      entry = λ r l. ap (λ (t : List ℕ). get_or t r 0) e ∙ go r l (dec_lt r all);
    }
  where
    zeros : List ℕ
    zeros = replicate {A = ℕ} 64 0

    all : ℕ
    all = length d.registers

    go : (r : ℕ) → r < 64 → Dec (r < all) → get_or (filled_to (largest_of d) all zeros) r 0 ≡ cond (ltb r all) (largest_of d r) 0
    go r l (yes b) = let long = length-replicate {A = ℕ} 64 0 in filled_before (largest_of d) all zeros r b (omega arith) ∙ sym (rw (lt-ltb r all b))
    go r l (no b) = filled_behind (largest_of d) all zeros r (omega arith) ∙ get_or-replicate {A = ℕ} 64 r 0 0 l ∙ sym (rw (le-ltb r all (omega arith)))

module _ {f : ℕ → ℕ} {i m : ℕ} {old now : List ℕ} (so : Filled f old i now) where
  pub largest_inside : m ≤ length old → i < m → i < length now
  largest_inside room l = let long = so.long in omega arith

  pub largest_whole : i ≤ m → m ≤ i → now ≡ filled_to f m old
  largest_whole l h = filled_whole (filled_to_lem so l h)

-- ---- the design by value
described : {image : List ℕ} {x : Design} → Describes image x → x ≡ described_by image
unfolding described_by
described d =
    λ i.
    record {
      labels = d.labels i;
      registers = d.registers i;
      states = d.states i;
      commands = d.commands i;
      expressions = d.expressions i;
      registers_at = d.registers_at i;
      states_at = d.states_at i;
      commands_at = d.commands_at i;
      expressions_at = d.expressions_at i;
    }

-- ---- a refusal
module _ (f : Refusal) (k n : ℕ) {p : Prepared} (made : p ≡ refused_with f k n) where
  refused_answer : p.answer ≡ Refused f k
  unfolding refused_with
  refused_answer = ap (λ (q : Prepared). q.answer) made

  refused_count : p.count ≡ n
  unfolding refused_with
  refused_count = ap (λ (q : Prepared). q.count) made

  refused_not : {m : ℕ} → p.answer ≡ Accepted m → ⊥
  refused_not {m} h = refused_is_not_accepted f k m (sym refused_answer ∙ h)

-- ---- on an image that is accepted
module _ (image registers targets : List ℕ) (n : ℕ) {p : Prepared} where
  refuses : {f : Refusal} {k : ℕ} → p ≡ refused_with f k n → on_accepted (design_of image) (lends registers targets) n ≡ Refused f k → PreparingOn image (lends registers targets) n p
  refuses {f} {k} made is =
      record {
        is = made ∙ ap (prepared_as image n) (sym is);
        answer = refused_answer f k n made ∙ sym is;
        count = refused_count f k n made;
        running = λ m h. absurd (refused_not f k n made h);
        ports = λ m h. absurd (refused_not f k n made h);
      }

  pub lengths_refused : {why : RefusedAt} → why ≡ record { refusal = Area; place = 0 } → p ≡ refused_with why.refusal why.place n → length_answer (design_of image) (lends registers targets) ≡ Refused Area 0 → PreparingOn image (lends registers targets) n p
  unfolding ◌before◌
  lengths_refused told made h = refuses made (rw h (ap (λ (x : RefusedAt). Refused x.refusal x.place) (sym told)))

  module _ {a : Answer} (right : length_answer (design_of image) (lends registers targets) ≡ Accepted 0) (judged : a ≡ sound_on (design_of image) (lends registers targets)) where
    pub unsound_refused : {why : RefusedAt} → a ≡ Err why → p ≡ refused_with why.refusal why.place n → PreparingOn image (lends registers targets) n p
    unfolding ◌before◌
    unsound_refused h made = refuses made (rw (right, ← judged, h))

    module _ {c : ℕ} (sound : a ≡ Accepted c) {b : Bool} (e : b ≡ leb n cycles_max) where
      pub count_refused : {why : RefusedAt} → why ≡ record { refusal = CycleCount; place = 0 } → not b ≡ true → p ≡ refused_with why.refusal why.place n → PreparingOn image (lends registers targets) n p
      unfolding ◌before◌ cycles_answer refused_at
      count_refused told h made = refuses made (rw (right, ← judged, sound, ← e, not_true b h) (ap (λ (x : RefusedAt). Refused x.refusal x.place) (sym told)))

-- all is accepted
module _ {image : List ℕ} {x : Design} (describes : Describes image x) {tables : Tables} {largest : List ℕ} (registers targets : List ℕ) (n : ℕ) where
  pub all_prepared : {a : Answer} {c : ℕ} {b : Bool} → a ≡ sound_on (design_of image) (lends registers targets) → a ≡ Accepted c → length_answer (design_of image) (lends registers targets) ≡ Accepted 0 → b ≡ leb n cycles_max → not b ≡ false
      → tables.defaults ≡ with_defaults (design_of image) (replicate {A = ℕ} 64 0)
      → tables.scopes ≡ with_scopes (design_of image) (length (design_of image).states) (replicate {A = ℕ} 192 0)
      → largest ≡ filled_to (largest_of (design_of image)) x.registers (replicate {A = ℕ} 64 0)
      → Running image x tables.defaults tables.scopes registers targets
      → PreparingOn image (lends registers targets) n (record { answer = Accepted n; count = n; design = x; tables = tables; largest = largest })
  unfolding ◌before◌ cycles_answer refused_at accepted_with
  all_prepared {b = b} judged sound right e h defaults scopes ports running =
      let d = design_of image in
      let accepted : on_accepted d (lends registers targets) n ≡ Accepted n = rw (right, ← judged, sound, ← e, not_false b h) in
      let whole = described describes in
      let ports' = ports ∙ ap (λ (k : ℕ). filled_to (largest_of d) k (replicate {A = ℕ} 64 0)) (registers_count describes) in
      let made : record { answer = Accepted n; count = n; design = x; tables = tables; largest = largest } ≡ accepted_with image n n =
      λ i. record { answer = Accepted n; count = n; design = whole i; tables = record { defaults = defaults i; scopes = scopes i }; largest = ports' i }
      in
      record {
        is = made ∙ ap (prepared_as image n) (sym accepted);
        answer = sym accepted;
        count = refl;
        running = λ k a. running;
        ports = λ k a. largest_over d (registers_few describes) ports';
      }

-- ---- the image first
module _ (image : List ℕ) {a : Answer} (e : a ≡ verdict image) (lent : Lent) (n : ℕ) {p : Prepared} where
  pub image_refused : {why : RefusedAt} → a ≡ Err why → p ≡ refused_with why.refusal why.place n → Preparing image lent n p
  unfolding run_answer ◌before◌
  image_refused {why} h made =
      let refuses : run_answer image lent n ≡ Err why = rw (← e, h) in
      record {
        is = made ∙ ap (prepared_as image n) (sym refuses);
        answer = refused_answer why.refusal why.place n made ∙ sym refuses;
        count = refused_count why.refusal why.place n made;
        running = λ m g. absurd (refused_not why.refusal why.place n made g);
        ports = λ m g. absurd (refused_not why.refusal why.place n made g);
      }

  pub image_accepted : {c : ℕ} → a ≡ Accepted c → PreparingOn image lent n p → Preparing image lent n p
  unfolding run_answer ◌before◌
  image_accepted h on =
      let behind : on_accepted (design_of image) lent n ≡ run_answer image lent n = rw (← e, h, ← sound_before (design_of image) lent (cycles_answer n before Accepted n)) in
      record { is = on.is ∙ ap (prepared_as image n) behind; answer = on.answer ∙ behind; count = on.count; running = on.running; ports = on.ports }
