-- The count of superseded records, as one pass over the trace takes it. Of the records for one cycle and port all but one are superseded, so it may be counted at the later
-- ones: a record supersedes where one before it is for its cycle and port. In a trace whose cycles never fall this is so exactly where the last record before it for its
-- port is for its cycle.
use Prim.Native.Nat.{ℕ, zero, suc, ◌+◌, ◌-◌, ◌≤◌, ◌<◌}
use mathlib.Core.Path.{◌≡◌, refl, sym, ◌∙◌, ap}
use mathlib.Core.Logic.{◌⊎◌, inl, inr, ⊎_elim}
use mathlib.Core.Bool.{Bool, true, false, ◌&&◌, ◌||◌, cond}
use mathlib.Core.List.{List, [], ◌∷◌, ◌++◌, map}
use native.Mathlib.Omega.{arith}
use native.Mathlib.Decide.{dec_lt}
use lib.Dec.{leb, ltb, eqb}
use lib.ListN.{length, get_or, set, take, replicate, length-set, length-replicate, get_or-replicate}
use lib.Seq.{take_all, get_or-set_same, get_or-set_other}
use Rattle.model.proofs.Laws.Booleans.{decide, true_or_false, false_unless_true, and_first, and_second, and_both, or_cases, or_first, or_second}
use Rattle.model.proofs.Laws.Equivalences.{less_iff, at_most_iff, equal_iff, same_tests}
use Rattle.replay_model.specs.declared.TraceRecord.{TraceRecord}
use Rattle.replay_model.specs.Traces.{record_at, kept, has_later, superseded_in, trace_part, trace_rest}
use Rattle.replay_model.proofs.Laws.{Each, of_none, of_more, Rising, none_rises, one_rises, rising_take, rising_before, recount, one_more}

-- a test that fails where what it says is absurd
unequal : {a b : ℕ} → (a ≡ b → ⊥) → eqb a b ≡ false
unequal {a} {b} h = false_unless_true (eqb a b) (λ e. h (equal_iff.0 e))

-- ---- counted at the later record
later_next : (r q : TraceRecord) (xs : List TraceRecord)
    → has_later r (xs ++ q ∷ []) ≡ (has_later r xs || (eqb q.cycle r.cycle && eqb q.register r.register))
unfolding has_later
later_next r q [] = or_none (eqb q.cycle r.cycle && eqb q.register r.register)
  where
    or_none : (a : Bool) → (a || false) ≡ a
    or_none true = refl
    or_none false = refl
later_next r q (x ∷ xs) =
    rw
    (later_next r q xs)
    (or_later (eqb x.cycle r.cycle && eqb x.register r.register) (has_later r xs) (eqb q.cycle r.cycle && eqb q.register r.register))
  where
    or_later : (a b c : Bool) → (a || (b || c)) ≡ ((a || b) || c)
    or_later true b c = refl
    or_later false b c = refl

-- it goes by cycle and port alone
later_alike : (r q : TraceRecord) → r.cycle ≡ q.cycle → r.register ≡ q.register → (xs : List TraceRecord) → has_later r xs ≡ has_later q xs
unfolding has_later
later_alike r q cycles registers [] = refl
later_alike r q cycles registers (x ∷ xs) = rw (later_alike r q cycles registers xs, cycles, registers)

-- one more record
pub superseded_next : (xs : List TraceRecord) (r : TraceRecord)
    → superseded_in (xs ++ r ∷ []) ≡ cond (has_later r xs) (suc (superseded_in xs)) (superseded_in xs)
unfolding superseded_in has_later
superseded_next [] r = refl
superseded_next (x ∷ xs) r =
    rw (later_next x r xs, superseded_next xs r, turned)
    (go (has_later x xs) (has_later r xs) (eqb x.cycle r.cycle && eqb x.register r.register) (superseded_in xs) alike)
  where
    turned : (eqb r.cycle x.cycle && eqb r.register x.register) ≡ (eqb x.cycle r.cycle && eqb x.register r.register)
    turned = same_tests (turn r.cycle x.cycle r.register x.register, turn x.cycle r.cycle x.register r.register)
      where
        turn : (a b p q : ℕ) → (eqb a b && eqb p q) ≡ true → (eqb b a && eqb q p) ≡ true
        turn a b p q e =
            let cycles : a ≡ b = equal_iff.0 (and_first (eqb a b) (eqb p q) e) in
            let registers : p ≡ q = equal_iff.0 (and_second (eqb a b) (eqb p q) e) in
            and_both (eqb b a) (eqb q p) ((equal_iff {a = b} {b = a}).1 (sym cycles)) ((equal_iff {a = q} {b = p}).1 (sym registers))

    alike : (eqb x.cycle r.cycle && eqb x.register r.register) ≡ true → has_later x xs ≡ has_later r xs
    alike e = later_alike x r (equal_iff.0 (and_first _ _ e)) (equal_iff.0 (and_second (eqb x.cycle r.cycle) _ e)) xs

    go : (own his same : Bool) (s : ℕ) → (same ≡ true → own ≡ his)
        → cond (own || same) (suc (cond his (suc s) s)) (cond his (suc s) s) ≡ cond (same || his) (suc (cond own (suc s) s)) (cond own (suc s) s)
    go true true same s e = both same
      where
        both : (w : Bool) → suc (suc s) ≡ cond (w || true) (suc (suc s)) (suc s)
        both true = refl
        both false = refl
    go true false true s e = absurd (true_or_false true refl (e refl))
    go true false false s e = refl
    go false true true s e = absurd (true_or_false true refl (sym (e refl)))
    go false true false s e = refl
    go false false true s e = refl
    go false false false s e = refl

-- ---- the last record for a port
abbrev later_or : ℕ → ℕ → ℕ
later_or zero here = here
later_or (suc later) here = suc later

-- 0 where there is none, else its cycle and one
unfoldable pub last_of : ℕ → List TraceRecord → ℕ
last_of g [] = 0
last_of g (x ∷ more) = later_or (last_of g more) (cond (eqb x.register g) (suc x.cycle) 0)

last_later : (g : ℕ) (x : TraceRecord) (more : List TraceRecord) → (last_of g more ≡ 0 → ⊥) → last_of g (x ∷ more) ≡ last_of g more
unfolding last_of
last_later g x more some = go (last_of g more) some
  where
    go : (later : ℕ) → (later ≡ 0 → ⊥) → later_or later (cond (eqb x.register g) (suc x.cycle) 0) ≡ later
    go zero h = absurd (h refl)
    go (suc later) h = refl

last_here : (g : ℕ) (x : TraceRecord) (more : List TraceRecord) → last_of g more ≡ 0 → x.register ≡ g → last_of g (x ∷ more) ≡ suc x.cycle
unfolding last_of
last_here g x more none same = rw (none, (equal_iff {a = x.register} {b = g}).1 same)

last_other : (g : ℕ) (x : TraceRecord) (more : List TraceRecord) → (x.register ≡ g → ⊥) → last_of g (x ∷ more) ≡ last_of g more
unfolding last_of
last_other g x more other = rw (unequal other) (go (last_of g more))
  where
    go : (later : ℕ) → later_or later 0 ≡ later
    go zero = refl
    go (suc later) = refl

-- the cases of a record before others: another port's, the last for its port, or one with a later one for its port
module _ (g : ℕ) (x : TraceRecord) (more : List TraceRecord) where
  pub data LastCase : Type 0 where
    is_later : (last_of g more ≡ 0 → ⊥) → LastCase
    is_here : last_of g more ≡ 0 → x.register ≡ g → LastCase
    is_none : last_of g more ≡ 0 → (x.register ≡ g → ⊥) → LastCase

  last_case : LastCase
  last_case = by_later (decide (eqb (last_of g more) 0))
    where
      by_port : last_of g more ≡ 0 → (eqb x.register g ≡ true) ⊎ (eqb x.register g ≡ false) → LastCase
      by_port none (inl e) = is_here none (equal_iff.0 e)
      by_port none (inr e) = is_none none (λ same. true_or_false _ (equal_iff.1 same) e)

      by_later : (eqb (last_of g more) 0 ≡ true) ⊎ (eqb (last_of g more) 0 ≡ false) → LastCase
      by_later (inl e) = by_port (equal_iff.0 e) (decide (eqb x.register g))
      by_later (inr e) = is_later (λ none. true_or_false _ (equal_iff.1 none) e)

-- one more record
pub last_next : (g : ℕ) (xs : List TraceRecord) (q : TraceRecord) → last_of g (xs ++ q ∷ []) ≡ cond (eqb q.register g) (suc q.cycle) (last_of g xs)
unfolding last_of
last_next g [] q = refl
last_next g (x ∷ xs) q = rw (last_next g xs q) (go (eqb q.register g))
  where
    go : (b : Bool)
        → later_or (cond b (suc q.cycle) (last_of g xs)) (cond (eqb x.register g) (suc x.cycle) 0)
        ≡ cond b (suc q.cycle) (later_or (last_of g xs) (cond (eqb x.register g) (suc x.cycle) 0))
    go true = refl
    go false = refl

-- the last record is none, or its cycle is not below the trace's lowest
last_low : {n low : ℕ} {xs : List TraceRecord} (g : ℕ) → Rising n low xs → (last_of g xs ≡ 0 → ⊥) → low < last_of g xs
unfolding last_of
last_low g none_rises some = absurd (some refl)
last_low {low} g (one_rises {r = x} {more} h b rest) some = go (last_case g x more) (last_low g rest)
  where
    go : LastCase g x more → ((last_of g more ≡ 0 → ⊥) → x.cycle < last_of g more) → low < last_of g (x ∷ more)
    go (is_later later) earlier = let e = last_later g x more later in let l = earlier later in omega arith
    go (is_here none same) earlier = let e = last_here g x more none same in omega arith
    go (is_none none other) earlier = absurd (some (last_other g x more other ∙ none))

-- and not above what no cycle is above
last_high : {c : ℕ} {xs : List TraceRecord} (g : ℕ) → Each (λ r. r.cycle ≤ c) xs → last_of g xs ≤ suc c
unfolding last_of
last_high g of_none = omega arith
last_high {c} g (of_more {r = x} {more} l rest) = go (last_case g x more) (last_high g rest)
  where
    go : LastCase g x more → last_of g more ≤ suc c → last_of g (x ∷ more) ≤ suc c
    go (is_later later) h = let e = last_later g x more later in omega arith
    go (is_here none same) h = let e = last_here g x more none same in omega arith
    go (is_none none other) h = let e = last_other g x more other in omega arith

-- ---- a record supersedes one before it exactly where the last before it for its port is for its cycle
module _ (q : TraceRecord) where
  last_later_one : (xs : List TraceRecord) → last_of q.register xs ≡ suc q.cycle → has_later q xs ≡ true
  unfolding last_of has_later
  last_later_one [] e = absurd (omega arith)
  last_later_one (x ∷ more) e = go (last_case q.register x more) (last_later_one more)
    where
      own : Bool
      own = eqb x.cycle q.cycle && eqb x.register q.register

      go : LastCase q.register x more → (last_of q.register more ≡ suc q.cycle → has_later q more ≡ true) → (own || has_later q more) ≡ true
      go (is_later later) rest = or_second own (has_later q more) (rest (sym (last_later q.register x more later) ∙ e))
      go (is_here none same) rest =
          let here = last_here q.register x more none same in
          let cycles : x.cycle ≡ q.cycle = let last : last_of q.register (x ∷ more) ≡ suc q.cycle = e in omega arith in
          or_first own (has_later q more) (and_both (eqb x.cycle q.cycle) (eqb x.register q.register) (equal_iff.1 cycles) (equal_iff.1 same))
      go (is_none none other) rest =
          let past = last_other q.register x more other in
          let last : last_of q.register (x ∷ more) ≡ suc q.cycle = e in
          absurd (omega arith)

  later_one_last : {n low : ℕ} {xs : List TraceRecord} → Rising n low xs → Each (λ r. r.cycle ≤ q.cycle) xs → has_later q xs ≡ true → last_of q.register xs ≡ suc q.cycle
  unfolding has_later
  later_one_last none_rises of_none e = absurd (true_or_false false e refl)
  later_one_last (one_rises {r = x} {more} low b rising) (of_more l each) e =
      ⊎_elim here (later (later_one_last rising each)) (or_cases (eqb x.cycle q.cycle && eqb x.register q.register) (has_later q more) e)
    where
      g : ℕ
      g = q.register

      here : (eqb x.cycle q.cycle && eqb x.register q.register) ≡ true → last_of g (x ∷ more) ≡ suc q.cycle
      here e = go (last_case g x more)
        where
          cycles : x.cycle ≡ q.cycle
          cycles = equal_iff.0 (and_first (eqb x.cycle q.cycle) (eqb x.register q.register) e)

          registers : x.register ≡ q.register
          registers = equal_iff.0 (and_second (eqb x.cycle q.cycle) (eqb x.register q.register) e)

          go : LastCase g x more → last_of g (x ∷ more) ≡ suc q.cycle
          go (is_later some) = let past = last_later g x more some in let above = last_low g rising some in let most = last_high g each in let same = cycles in omega arith
          go (is_here none same) = last_here g x more none same ∙ ap suc cycles
          go (is_none none other) = absurd (other registers)

      later : (has_later q more ≡ true → last_of g more ≡ suc q.cycle) → has_later q more ≡ true → last_of g (x ∷ more) ≡ suc q.cycle
      later rest e = let last = rest e in last_later g x more (λ none. omega arith) ∙ last

-- ---- one pass over the records, with a table of the last record for each port
-- the entries of a table after the first i records
pub record Tabled (trace : List TraceRecord) (i : ℕ) (table : List ℕ) : Type 0 where
  pub entry : (g : ℕ) → g < length table → get_or table g 0 ≡ last_of g (take i trace)

-- the count after the first i records
pub record Counted (trace : List TraceRecord) (i count : ℕ) : Type 0 where
  pub superseded : count ≡ superseded_in (take i trace)

pub tabled_none : {trace : List TraceRecord} (n : ℕ) → Tabled trace 0 (replicate n 0)
unfolding last_of
tabled_none n = record { entry = λ g l. get_or-replicate n g 0 0 (rw (length-replicate {A = ℕ} n 0) at l) }

pub counted_none : {trace : List TraceRecord} → Counted trace 0 0
unfolding superseded_in
counted_none = record { superseded = refl }

module _ {trace : List TraceRecord} {table : List ℕ} {i m c g : ℕ} (t : Tabled trace i table) (inside : i < m) (size : m ≡ length trace) (cycles : c ≡ (record_at trace i).cycle) (registers : g ≡ (record_at trace i).register) where
  -- the record is put into the table
  pub tabled_more : Tabled trace (i + 1) (set table g (c + 1))
  tabled_more = record { entry = λ k l. rw (one_more trace i (omega arith), last_next k (take i trace) (record_at trace i)) (go k (rw (length-set table g (c + 1)) at l) (decide (eqb (record_at trace i).register k))) }
    where
      go : (k : ℕ) → k < length table → (eqb (record_at trace i).register k ≡ true) ⊎ (eqb (record_at trace i).register k ≡ false)
          → get_or (set table g (c + 1)) k 0 ≡ cond (eqb (record_at trace i).register k) (suc (record_at trace i).cycle) (last_of k (take i trace))
      go k l (inl e) =
          let same : k ≡ g = sym (registers ∙ equal_iff.0 e) in
          let there : g < length table = omega arith in
          rw (e, same) (get_or-set_same table g (c + 1) 0 there ∙ omega arith)
      go k l (inr e) =
          rw e (get_or-set_other table g k (c + 1) 0 (λ same. true_or_false _ (equal_iff.1 (sym (same ∙ registers))) e) ∙ t.entry k l)

  module _ {n low : ℕ} (rising : Rising n low trace) (there : g < length table) {e count : ℕ} (entry : e ≡ get_or table g 0) (so_far : Counted trace i count) where
    found : has_later (record_at trace i) (take i trace) ≡ eqb e (c + 1)
    found =
        let at_table : last_of (record_at trace i).register (take i trace) ≡ e = sym (entry ∙ t.entry g there ∙ ap (λ (k : ℕ). last_of k (take i trace)) registers) in
        same_tests (
          λ later. (equal_iff {a = e} {b = c + 1}).1 (let last = later_one_last (record_at trace i) (rising_take i rising) (rising_before rising i (omega arith)) later in omega arith),
          λ same. let own : e ≡ c + 1 = equal_iff.0 same in last_later_one (record_at trace i) (take i trace) (omega arith),
        )

    -- a record that supersedes one
    pub counted_more : e ≡ c + 1 → Counted trace (i + 1) (count + 1)
    counted_more same =
        let counts = so_far.superseded in
        record { superseded = rw (one_more trace i (omega arith), superseded_next (take i trace) (record_at trace i), found, (equal_iff {a = e} {b = c + 1}).1 same) (omega arith) }

    -- and one that supersedes none
    pub counted_same : (e ≡ c + 1 → ⊥) → Counted trace (i + 1) count
    counted_same other =
        record { superseded = rw (one_more trace i (omega arith), superseded_next (take i trace) (record_at trace i), found, unequal other) so_far.superseded }

-- after the last
pub counted_all : {trace : List TraceRecord} {i m count : ℕ} → Counted trace i count → m ≤ i → m ≡ length trace → count ≡ superseded_in trace
counted_all {trace} {i} so_far l size = so_far.superseded ∙ ap superseded_in (take_all i trace (omega arith))

pub ruleset superseded_laws = (tabled_none, tabled_more, counted_none, counted_more, counted_same, counted_all)

-- ---- a trace that is divided: no record before cycle n is superseded by one from n on
module _ (n : ℕ) where
  later_in_part : (r : TraceRecord) → r.cycle < n → (xs : List TraceRecord) → has_later r (trace_part n xs) ≡ has_later r xs
  unfolding trace_part kept has_later
  later_in_part r l [] = refl
  later_in_part r l (x ∷ xs) = go (ltb x.cycle n) refl (later_in_part r l xs)
    where
      others : List TraceRecord
      others = kept (λ (q : TraceRecord). ltb q.cycle n) xs

      own : Bool
      own = eqb x.cycle r.cycle && eqb x.register r.register

      go : (w : Bool) → ltb x.cycle n ≡ w → has_later r others ≡ has_later r xs → has_later r (cond w (x ∷ others) others) ≡ (own || has_later r xs)
      go true e rest = rw rest
      go false e rest =
          let apart : eqb x.cycle r.cycle ≡ false = unequal {a = x.cycle} {b = r.cycle} (λ same. true_or_false (ltb x.cycle n) ((less_iff {a = x.cycle} {b = n}).1 (rw same l)) e) in
          rw apart rest

  later_in_rest : (r : TraceRecord) → n ≤ r.cycle → (xs : List TraceRecord) → has_later (recount n r) (trace_rest n xs) ≡ has_later r xs
  unfolding trace_rest kept has_later
  later_in_rest r l [] = refl
  later_in_rest r l (x ∷ xs) = go (leb n x.cycle) refl (later_in_rest r l xs)
    where
      others : List TraceRecord
      others = kept (λ (q : TraceRecord). leb n q.cycle) xs

      own : Bool
      own = eqb x.cycle r.cycle && eqb x.register r.register

      go : (w : Bool) → leb n x.cycle ≡ w → has_later (recount n r) (map (recount n) others) ≡ has_later r xs
          → has_later (recount n r) (map (recount n) (cond w (x ∷ others) others)) ≡ (own || has_later r xs)
      go true e rest =
          let from : n ≤ x.cycle = at_most_iff.0 e in
          let counted : eqb (x.cycle - n) (r.cycle - n) ≡ eqb x.cycle r.cycle =
          same_tests (
            λ h. let same : x.cycle - n ≡ r.cycle - n = equal_iff.0 h in (equal_iff {a = x.cycle} {b = r.cycle}).1 (omega arith),
            λ h. let same : x.cycle ≡ r.cycle = equal_iff.0 h in (equal_iff {a = x.cycle - n} {b = r.cycle - n}).1 (omega arith),
          ) in
          rw (counted, rest)
      go false e rest =
          let apart : eqb x.cycle r.cycle ≡ false = unequal {a = x.cycle} {b = r.cycle} (λ same. true_or_false (leb n x.cycle) ((at_most_iff {a = n} {b = x.cycle}).1 (rw same l)) e) in
          rw apart rest

  pub superseded_divided : (trace : List TraceRecord) → superseded_in (trace_part n trace) + superseded_in (trace_rest n trace) ≡ superseded_in trace
  unfolding trace_part trace_rest kept superseded_in
  superseded_divided [] = omega arith
  superseded_divided (r ∷ more) = go (decide (ltb r.cycle n)) (superseded_divided more)
    where
      part : List TraceRecord
      part = kept (λ (q : TraceRecord). ltb q.cycle n) more

      rest : List TraceRecord
      rest = kept (λ (q : TraceRecord). leb n q.cycle) more

      front : (b : Bool) (p q s : ℕ) → p + q ≡ s → cond b (suc p) p + q ≡ cond b (suc s) s
      front true p q s e = omega arith
      front false p q s e = e

      back : (b : Bool) (p q s : ℕ) → p + q ≡ s → p + cond b (suc q) q ≡ cond b (suc s) s
      back true p q s e = omega arith
      back false p q s e = e

      go : (ltb r.cycle n ≡ true) ⊎ (ltb r.cycle n ≡ false)
          → superseded_in part + superseded_in (map (recount n) rest) ≡ superseded_in more
          → superseded_in (cond (ltb r.cycle n) (r ∷ part) part) + superseded_in (map (recount n) (cond (leb n r.cycle) (r ∷ rest) rest))
          ≡ cond (has_later r more) (suc (superseded_in more)) (superseded_in more)
      go (inl e) sum =
          let l : r.cycle < n = less_iff.0 e in
          let past : leb n r.cycle ≡ false = false_unless_true (leb n r.cycle) (λ h. let from : n ≤ r.cycle = at_most_iff.0 h in omega arith) in
          rw (e, past, later_in_part r l more) (front (has_later r more) (superseded_in part) (superseded_in (map (recount n) rest)) (superseded_in more) sum)
      go (inr e) sum =
          let from : n ≤ r.cycle = not_below r.cycle e in
          rw (e, (at_most_iff {a = n} {b = r.cycle}).1 from, later_in_rest r from more) (back (has_later r more) (superseded_in part) (superseded_in (map (recount n) rest)) (superseded_in more) sum)
        where
          not_below : (c : ℕ) → ltb c n ≡ false → n ≤ c
          not_below c e = at_least (dec_lt c n)
            where
              at_least : Dec (c < n) → n ≤ c
              at_least (yes l) = absurd (true_or_false (ltb c n) (less_iff.1 l) e)
              at_least (no l) = omega arith
