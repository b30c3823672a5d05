-- Laws of traces: what a test keeps of a list, the records of a cycle in the parts of a trace, cycles that never fall, and the cycles of a replay. What a cycle is given are
-- its own records, so a replay is the same for traces that have the same records for each of its cycles.
use Prim.Native.Nat.{ℕ, zero, suc, ◌+◌, ◌-◌, ◌≤◌, ◌<◌}
use mathlib.Core.Path.{◌≡◌, refl, sym, ◌∙◌, ap}
use mathlib.Core.Logic.Iff
use mathlib.Core.Logic.{◌↔◌}
use mathlib.Core.Bool.{Bool, true, false, ◌&&◌, cond}
use mathlib.Core.List.{List, [], ◌∷◌, ◌++◌, map}
use native.Mathlib.Omega.{arith}
use native.Mathlib.Numerals.{add-one}
use lib.Dec.{leb, ltb, eqb}
use lib.ListN.{length, set, take, length-set}
use lib.Seq.{take-suc}
use Rattle.model.specs.Image.{Design, AreBytes}
use Rattle.model.specs.Values.{bytes_of}
use Rattle.model.specs.Machine.{Areas, Cycle, cycle, cycles, after_last}
use Rattle.model.proofs.Laws.Booleans.{and_first, and_second, and_both}
use Rattle.model.proofs.Laws.Equivalences.{less_iff, at_most_iff, equal_iff, and_iff, same_tests}
use Rattle.replay_model.specs.declared.TraceRecord.{TraceRecord}
use Rattle.replay_model.specs.Traces.{no_record, record_at, kept, records_of_cycle, applied, with_records, replayed, trace_part, trace_rest}
use Rattle.replay_model.specs.Calls.{cycle_kept}
use Rattle.replay_model.specs.Rules.{CycleKeeps}

-- ---- the bytes of values
pub bytes_are_bytes : (values : List ℕ) → AreBytes (bytes_of values)
unfolding bytes_of
bytes_are_bytes [] i = omega arith
bytes_are_bytes (v ∷ values) zero = omega arith
bytes_are_bytes (v ∷ values) (suc zero) = omega arith
bytes_are_bytes (v ∷ values) (suc (suc zero)) = omega arith
bytes_are_bytes (v ∷ values) (suc (suc (suc zero))) = omega arith
bytes_are_bytes (v ∷ values) (suc (suc (suc (suc i)))) = bytes_are_bytes values i

-- ---- the first records of a trace
pub one_more : (trace : List TraceRecord) (i : ℕ) → i < length trace → take (i + 1) trace ≡ take i trace ++ record_at trace i ∷ []
one_more trace i l = ap (λ (k : ℕ). take k trace) (add-one i) ∙ take-suc trace i no_record l

-- ---- what a test keeps
module _ (test : TraceRecord → Bool) where
  pub kept_append : (xs ys : List TraceRecord) → kept test (xs ++ ys) ≡ kept test xs ++ kept test ys
  unfolding kept
  kept_append [] ys = refl
  kept_append (r ∷ xs) ys = rw (kept_append xs ys) (go (test r))
    where
      go : (b : Bool)
          → cond b (r ∷ (kept test xs ++ kept test ys)) (kept test xs ++ kept test ys)
          ≡ cond b (r ∷ kept test xs) (kept test xs) ++ kept test ys
      go true = refl
      go false = refl

  -- of records that are changed
  pub kept_map : (f : TraceRecord → TraceRecord) (xs : List TraceRecord) → kept test (map f xs) ≡ map f (kept (λ r. test (f r)) xs)
  unfolding kept
  kept_map f [] = refl
  kept_map f (r ∷ xs) = rw (kept_map f xs) (go (test (f r)))
    where
      go : (b : Bool)
          → cond b (f r ∷ map f (kept (λ q. test (f q)) xs)) (map f (kept (λ q. test (f q)) xs))
          ≡ map f (cond b (r ∷ kept (λ q. test (f q)) xs) (kept (λ q. test (f q)) xs))
      go true = refl
      go false = refl

  -- of what another test keeps
  pub kept_kept : (other : TraceRecord → Bool) (xs : List TraceRecord) → kept test (kept other xs) ≡ kept (λ r. other r && test r) xs
  unfolding kept
  kept_kept other [] = refl
  kept_kept other (r ∷ xs) = go (other r) (kept_kept other xs)
    where
      go : (b : Bool) → kept test (kept other xs) ≡ kept (λ q. other q && test q) xs
          → kept test (cond b (r ∷ kept other xs) (kept other xs))
          ≡ cond (b && test r) (r ∷ kept (λ q. other q && test q) xs) (kept (λ q. other q && test q) xs)
      go true e = rw e
      go false e = e

-- tests that say the same keep the same
pub kept_same : (test other : TraceRecord → Bool) → ((r : TraceRecord) → test r ≡ other r) → (xs : List TraceRecord) → kept test xs ≡ kept other xs
unfolding kept
kept_same test other same [] = refl
kept_same test other same (r ∷ xs) = rw (same r, kept_same test other same xs)

-- a test may be put before another
pub kept_swap : (test other : TraceRecord → Bool) (xs : List TraceRecord) → kept test (kept other xs) ≡ kept other (kept test xs)
kept_swap test other xs =
    kept_kept test other xs
    ∙ kept_same (λ r. other r && test r) (λ r. test r && other r) (λ r. turned (other r) (test r)) xs
    ∙ sym (kept_kept other test xs)
  where
    turned : (a b : Bool) → (a && b) ≡ (b && a)
    turned true true = refl
    turned true false = refl
    turned false true = refl
    turned false false = refl

-- a wider test before it takes nothing away
pub kept_within : (test other : TraceRecord → Bool) → ((r : TraceRecord) → test r ≡ true → other r ≡ true) → (xs : List TraceRecord) → kept test (kept other xs) ≡ kept test xs
kept_within test other wider xs =
    kept_kept test other xs
    ∙ kept_same (λ r. other r && test r) test (λ r. same_tests (and_second (other r) (test r), λ e. and_both (other r) (test r) (wider r e) e)) xs

-- ---- what holds of each record
pub data Each (P : TraceRecord → Type 0) : List TraceRecord → Type 0 where
  of_none : Each P []
  of_more : {r : TraceRecord} {more : List TraceRecord} → P r → Each P more → Each P (r ∷ more)

module _ {P : TraceRecord → Type 0} where
  pub each_kept : (test : TraceRecord → Bool) {xs : List TraceRecord} → Each P xs → Each P (kept test xs)
  unfolding kept
  each_kept test of_none = of_none
  each_kept test {xs = r ∷ more} (of_more p h) = go (test r) (each_kept test h)
    where
      go : (b : Bool) → Each P (kept test more) → Each P (cond b (r ∷ kept test more) (kept test more))
      go true k = of_more p k
      go false k = k

  pub each_map : {Q : TraceRecord → Type 0} (f : TraceRecord → TraceRecord) → ((r : TraceRecord) → P r → Q (f r)) → {xs : List TraceRecord} → Each P xs → Each Q (map f xs)
  each_map f gives of_none = of_none
  each_map f gives (of_more p h) = of_more (gives _ p) (each_map f gives h)

  pub each_at : {xs : List TraceRecord} → Each P xs → (i : ℕ) → i < length xs → P (record_at xs i)
  each_at of_none i l = absurd (omega arith)
  each_at (of_more p h) zero l = p
  each_at (of_more p h) (suc i) l = each_at h i (omega arith)

  pub each_make : (xs : List TraceRecord) → ((i : ℕ) → i < length xs → P (record_at xs i)) → Each P xs
  each_make [] h = of_none
  each_make (r ∷ xs) h = of_more (h 0 (omega arith)) (each_make xs (λ i l. h (suc i) (omega arith)))

-- ---- the records of a cycle
-- a record with its cycle counted from n
abbrev pub recount : ℕ → TraceRecord → TraceRecord
recount n r = record { cycle = r.cycle - n; register = r.register; value = r.value }

module _ (trace : List TraceRecord) where
  pub records_of_part : (n c : ℕ) → c < n → records_of_cycle c (trace_part n trace) ≡ records_of_cycle c trace
  unfolding records_of_cycle trace_part
  records_of_part n c l =
      kept_within
      (λ (r : TraceRecord). eqb r.cycle c)
      (λ (r : TraceRecord). ltb r.cycle n)
      (λ r e. let same : r.cycle ≡ c = equal_iff.0 e in (less_iff {a = r.cycle} {b = n}).1 (omega arith))
      trace

  pub records_of_rest : (n c : ℕ) → records_of_cycle c (trace_rest n trace) ≡ map (recount n) (records_of_cycle (n + c) trace)
  unfolding records_of_cycle trace_rest
  records_of_rest n c =
      kept_map (λ (r : TraceRecord). eqb r.cycle c) (recount n) (kept (λ (r : TraceRecord). leb n r.cycle) trace)
      ∙ ap (map (recount n)) (kept_kept (λ (r : TraceRecord). eqb (r.cycle - n) c) (λ (r : TraceRecord). leb n r.cycle) trace ∙ kept_same _ _ counted trace)
    where
      counted : (r : TraceRecord) → (leb n r.cycle && eqb (r.cycle - n) c) ≡ eqb r.cycle (n + c)
      counted r =
          same_tests (
            λ e. let from : n ≤ r.cycle = at_most_iff.0 (and_first _ _ e) in let same : r.cycle - n ≡ c = equal_iff.0 (and_second (leb n r.cycle) _ e) in (equal_iff {a = r.cycle} {b = n + c}).1 (omega arith),
            λ e. let same : r.cycle ≡ n + c = equal_iff.0 e in and_both _ _ ((at_most_iff {a = n} {b = r.cycle}).1 (omega arith)) ((equal_iff {a = r.cycle - n} {b = c}).1 (omega arith)),
          )

-- ---- cycles that never fall, from `low` on and below n
pub data Rising (n : ℕ) : ℕ → List TraceRecord → Type 0 where
  none_rises : {low : ℕ} → Rising n low []
  one_rises : {low : ℕ} {r : TraceRecord} {more : List TraceRecord} → low ≤ r.cycle → r.cycle < n → Rising n r.cycle more → Rising n low (r ∷ more)

pub rising_lower : {n low : ℕ} {trace : List TraceRecord} (lower : ℕ) → lower ≤ low → Rising n low trace → Rising n lower trace
rising_lower lower l none_rises = none_rises
rising_lower lower l (one_rises {r} h b more) = one_rises {low = lower} {r = r} (omega arith) b more

module _ {n : ℕ} where
  pub rising_below : {low : ℕ} {trace : List TraceRecord} → Rising n low trace → Each (λ r. r.cycle < n) trace
  rising_below none_rises = of_none
  rising_below (one_rises h b more) = of_more b (rising_below more)

  -- no record is below those before it
  rising_from : {low : ℕ} {trace : List TraceRecord} → Rising n low trace → (i : ℕ) → i < length trace → low ≤ (record_at trace i).cycle
  rising_from none_rises i l = absurd (omega arith)
  rising_from (one_rises h b more) zero l = h
  rising_from (one_rises h b more) (suc i) l = let from = rising_from more i (omega arith) in omega arith

  pub rising_between : {low : ℕ} {trace : List TraceRecord} → Rising n low trace → (i k : ℕ) → i ≤ k → k < length trace → (record_at trace i).cycle ≤ (record_at trace k).cycle
  rising_between none_rises i k l b = absurd (omega arith)
  rising_between (one_rises h c more) zero zero l b = omega arith
  rising_between (one_rises h c more) zero (suc k) l b = rising_from more k (omega arith)
  rising_between (one_rises h c more) (suc i) zero l b = absurd (omega arith)
  rising_between (one_rises h c more) (suc i) (suc k) l b = rising_between more i k (omega arith) (omega arith)

  pub rising_before : {low : ℕ} {trace : List TraceRecord} → Rising n low trace → (i : ℕ) → i < length trace → Each (λ r. r.cycle ≤ (record_at trace i).cycle) (take i trace)
  rising_before h zero l = of_none
  rising_before none_rises (suc i) l = of_none
  rising_before (one_rises h b more) (suc i) l = of_more (rising_from more i (omega arith)) (rising_before more i (omega arith))

  rising_make : (trace : List TraceRecord) (low : ℕ)
      → (0 < length trace → low ≤ (record_at trace 0).cycle)
      → ((i : ℕ) → suc i < length trace → (record_at trace i).cycle ≤ (record_at trace (suc i)).cycle)
      → ((i : ℕ) → i < length trace → (record_at trace i).cycle < n)
      → Rising n low trace
  rising_make [] low first step below = none_rises
  rising_make (r ∷ more) low first step below =
      one_rises
      (first (omega arith))
      (below 0 (omega arith))
      (rising_make more r.cycle (λ l. step 0 (omega arith)) (λ i l. step (suc i) (omega arith)) (λ i l. below (suc i) (omega arith)))

  -- the first records of a trace
  pub rising_take : {low : ℕ} {trace : List TraceRecord} (i : ℕ) → Rising n low trace → Rising n low (take i trace)
  rising_take zero h = none_rises
  rising_take (suc i) none_rises = none_rises
  rising_take (suc i) (one_rises h b more) = one_rises h b (rising_take i more)

  -- the records before a cycle, and those from it on, recounted
  pub rising_part : (k : ℕ) {low : ℕ} {trace : List TraceRecord} → Rising n low trace → Rising k low (trace_part k trace)
  unfolding trace_part kept
  rising_part k none_rises = none_rises
  rising_part k {low} {trace = r ∷ more} (one_rises h b rest) = go (ltb r.cycle k) refl (rising_part k rest)
    where
      go : (w : Bool) → ltb r.cycle k ≡ w → Rising k r.cycle (kept (λ (q : TraceRecord). ltb q.cycle k) more)
          → Rising k low (cond w (r ∷ kept (λ (q : TraceRecord). ltb q.cycle k) more) (kept (λ (q : TraceRecord). ltb q.cycle k) more))
      go true e later = one_rises h (less_iff.0 e) later
      go false e later = rising_lower low h later

pub rising_rest : (n m : ℕ) {low : ℕ} {trace : List TraceRecord} → Rising (n + m) low trace → Rising m (low - n) (trace_rest n trace)
unfolding trace_rest kept
rising_rest n m none_rises = none_rises
rising_rest n m {low} {trace = r ∷ more} (one_rises h b rest) = go (leb n r.cycle) refl (rising_rest n m rest)
  where
    later : List TraceRecord
    later = kept (λ (q : TraceRecord). leb n q.cycle) more

    go : (w : Bool) → leb n r.cycle ≡ w → Rising m (r.cycle - n) (map (recount n) later) → Rising m (low - n) (map (recount n) (cond w (r ∷ later) later))
    go true e k = let from : n ≤ r.cycle = at_most_iff.0 e in one_rises {low = low - n} {r = recount n r} (omega arith) (omega arith) k
    go false e k = rising_lower (low - n) (omega arith) k

-- what 23 judges
pub rising_kept : (trace : List TraceRecord) (n : ℕ) → ((i : ℕ) → i < length trace → CycleKeeps trace n i) → Rising n 0 trace
rising_kept trace n keeps = rising_make trace 0 (λ l. omega arith) (λ i l. (keeps (suc i) l).rising i refl) (λ i l. (keeps i l).below)

-- at a record
pub cycle_iff : (trace : List TraceRecord) (n i : ℕ) → (cycle_kept trace n i ≡ true) ↔ CycleKeeps trace n i
unfolding cycle_kept
cycle_iff trace n zero =
    Iff.trans
    (and_iff {P = cycle_at 0 ≤ cycle_at 0} {Q = cycle_at 0 < n} at_most_iff less_iff)
    (λ h. record { rising = λ before e. absurd (omega arith); below = h.1 }, λ k. (omega arith, k.below))
  where
    cycle_at : ℕ → ℕ
    cycle_at i = (record_at trace i).cycle
cycle_iff trace n (suc i) =
    Iff.trans
    (and_iff {P = cycle_at (suc i - 1) ≤ cycle_at (suc i)} {Q = cycle_at (suc i) < n} at_most_iff less_iff)
    (λ h. record { rising = λ before e. rises before e h.0; below = h.1 }, λ k. (falls_not (k.rising i refl), k.below))
  where
    cycle_at : ℕ → ℕ
    cycle_at j = (record_at trace j).cycle

    one_before : cycle_at (suc i - 1) ≡ cycle_at i
    one_before = ap cycle_at (omega arith)

    rises : (before : ℕ) → suc before ≡ suc i → cycle_at (suc i - 1) ≤ cycle_at (suc i) → cycle_at before ≤ cycle_at (suc i)
    rises before e h = let same : cycle_at before ≡ cycle_at i = ap cycle_at (omega arith) in let own = one_before in omega arith

    falls_not : cycle_at i ≤ cycle_at (suc i) → cycle_at (suc i - 1) ≤ cycle_at (suc i)
    falls_not h = let own = one_before in omega arith

-- ---- records that are applied
pub applied_append : (xs ys : List TraceRecord) (values : List ℕ) → applied (xs ++ ys) values ≡ applied ys (applied xs values)
unfolding applied
applied_append [] ys values = refl
applied_append (r ∷ xs) ys values = applied_append xs ys (set values r.register r.value)

pub applied_recounted : (n : ℕ) (xs : List TraceRecord) (values : List ℕ) → applied (map (recount n) xs) values ≡ applied xs values
unfolding applied
applied_recounted n [] values = refl
applied_recounted n (r ∷ xs) values = applied_recounted n xs (set values r.register r.value)

pub length-applied : (xs : List TraceRecord) (values : List ℕ) → length (applied xs values) ≡ length values
unfolding applied
length-applied [] values = refl
length-applied (r ∷ xs) values = length-applied xs (set values r.register r.value) ∙ length-set values r.register r.value

-- ---- the cycles of a replay
pub after_append : (areas : Areas) (first second : List Cycle) → after_last areas (first ++ second) ≡ after_last (after_last areas first) second
unfolding after_last
after_append areas [] second = refl
after_append areas (c ∷ first) second = after_append c.after first second

module _ (d : Design) where
  pub length-replayed : (trace : List TraceRecord) (c n : ℕ) (areas : Areas) → length (replayed d trace c n areas) ≡ n
  unfolding replayed
  length-replayed trace c zero areas = refl
  length-replayed trace c (suc n) areas = ap suc (length-replayed trace (suc c) n (cycle d (with_records trace c areas)).after)

  -- n cycles and then m
  pub replayed_sum : (trace : List TraceRecord) (c n m : ℕ) (areas : Areas)
      → replayed d trace c (n + m) areas ≡ replayed d trace c n areas ++ replayed d trace (c + n) m (after_last areas (replayed d trace c n areas))
  unfolding replayed after_last
  replayed_sum trace c zero m areas = let none : 0 + m ≡ m = omega arith in let same : c + 0 ≡ c = omega arith in rw (none, same)
  replayed_sum trace c (suc n) m areas =
      let more : suc n + m ≡ suc (n + m) = omega arith in
      let next : c + suc n ≡ suc c + n = omega arith in
      rw (more, next) (ap (λ (rest : List Cycle). cycle d (with_records trace c areas) ∷ rest) (replayed_sum trace (suc c) n m (cycle d (with_records trace c areas)).after))

  -- one more cycle
  pub replayed_next : (trace : List TraceRecord) (c n : ℕ) (areas : Areas)
      → after_last areas (replayed d trace c (n + 1) areas) ≡ (cycle d (with_records trace (c + n) (after_last areas (replayed d trace c n areas)))).after
  unfolding replayed after_last
  replayed_next trace c n areas =
      ap (after_last areas) (replayed_sum trace c n 1 areas)
      ∙ after_append areas (replayed d trace c n areas) (replayed d trace (c + n) 1 (after_last areas (replayed d trace c n areas)))

  -- traces that give each cycle the same
  pub replayed_same : (one other : List TraceRecord) (c e n : ℕ) (areas : Areas)
      → ((k : ℕ) (values : List ℕ) → k < n → applied (records_of_cycle (c + k) one) values ≡ applied (records_of_cycle (e + k) other) values)
      → replayed d one c n areas ≡ replayed d other e n areas
  unfolding replayed with_records
  replayed_same one other c e zero areas same = refl
  replayed_same one other c e (suc n) areas same =
      let own : c + 0 ≡ c = omega arith in
      let its : e + 0 ≡ e = omega arith in
      let first : applied (records_of_cycle c one) areas.registers ≡ applied (records_of_cycle e other) areas.registers = rw (own, its) at (same 0 areas.registers (omega arith)) in
      rw
      first
      (ap
      (λ (rest : List Cycle). cycle d (with_records other e areas) ∷ rest)
      (replayed_same one other (suc c) (suc e) n (cycle d (with_records other e areas)).after (λ k values l. let here : suc c + k ≡ c + suc k = omega arith in let there : suc e + k ≡ e + suc k = omega arith in rw (here, there) (same (suc k) values (omega arith)))))

  -- a trace that is divided
  pub replayed_part : (trace : List TraceRecord) (n : ℕ) (areas : Areas) → replayed d (trace_part n trace) 0 n areas ≡ replayed d trace 0 n areas
  replayed_part trace n areas =
      replayed_same (trace_part n trace) trace 0 0 n areas (λ k values l. ap (λ (records : List TraceRecord). applied records values) (records_of_part trace n (0 + k) (omega arith)))

  pub replayed_rest : (trace : List TraceRecord) (n m : ℕ) (areas : Areas) → replayed d (trace_rest n trace) 0 m areas ≡ replayed d trace n m areas
  replayed_rest trace n m areas =
      replayed_same (trace_rest n trace) trace 0 n m areas (λ k values l. let none : 0 + k ≡ k = omega arith in rw (none, records_of_rest trace n k) (applied_recounted n (records_of_cycle (n + k) trace) values))

  -- without records a replay's cycles are those of a run
  pub replayed_none : (c n : ℕ) (areas : Areas) → replayed d [] c n areas ≡ cycles d n areas
  unfolding replayed with_records records_of_cycle kept applied cycles
  replayed_none c zero areas = refl
  replayed_none c (suc n) areas = ap (λ (rest : List Cycle). cycle d areas ∷ rest) (replayed_none (suc c) n (cycle d areas).after)
