-- Laws of the passes over uses: the table of counts after every use of a list, and what an entry then says.
use Rattle.std.specs.Prelude.{Option}
use Prim.Native.Nat.{ℕ, zero, suc, min, ◌+◌, ◌≤◌, ◌<◌}
use mathlib.Core.Path.{◌≡◌, refl, sym, ◌∙◌, ap}
use mathlib.Core.Logic.{⊎_elim}
use mathlib.Core.Bool.{Bool, true, false}
use mathlib.Core.List.{List, [], ◌∷◌, ◌++◌}
use native.Mathlib.Omega.{arith}
use native.Mathlib.Numerals.{add-one}
use lib.Dec.{eqb}
use lib.ListN.{length, get_or, set, replicate, length-set, length-replicate, get_or-replicate}
use lib.Seq.{get_or-set_same, get_or-set_other}
use borrow.Author.Tests.{eq-eqb, ne_eqb, eqb-true, eqb-false}
use Rattle.model.specs.Indices.{lowest, lowest_failing, occurrences, join_below}
use Rattle.model.proofs.Laws.Booleans.{decide}
use Rattle.design.specs.declared.Design.{Design}
use Rattle.checker_nodes.specs.Tables.{count_use, count_uses, Fresh, NodesFresh, OnceWhere}

-- ---- tables of zeros
fresh_zeros : (m : ℕ) {n : ℕ} → n ≤ m → Fresh n (replicate m 0)
fresh_zeros m l =
    let long = length-replicate {A = ℕ} m 0 in
    record { long = omega arith; entry = λ k h. get_or-replicate {A = ℕ} m k 0 0 (omega arith) }

pub nodes_fresh : (m n : ℕ) {x : Design} → x.commands ≤ m → x.expressions ≤ n → NodesFresh x (replicate m 0) (replicate n 0) (replicate m 0) (replicate n 0)
nodes_fresh m n l h =
    record {
      command_uses = fresh_zeros m l;
      expression_uses = fresh_zeros n h;
      command_depths = (fresh_zeros m l).long;
      expression_depths = (fresh_zeros n h).long;
    }

-- ---- lists of uses
occurrences_same : (k u : ℕ) (us : List ℕ) → u ≡ k → occurrences k (u ∷ us) ≡ suc (occurrences k us)
unfolding occurrences
occurrences_same k u us e = rw (occurrences, eq-eqb u k e)

occurrences_other : (k u : ℕ) (us : List ℕ) → (u ≡ k → ⊥) → occurrences k (u ∷ us) ≡ occurrences k us
unfolding occurrences
occurrences_other k u us e = rw (occurrences, ne_eqb u k e)

-- ---- the table
pub count_append : (t us vs : List ℕ) → count_uses t (us ++ vs) ≡ count_uses (count_uses t us) vs
unfolding count_uses
count_append t [] vs = refl
count_append t (u ∷ us) vs = count_append (count_use t u) us vs

pub count_one : (t : List ℕ) (k : ℕ) {r : ℕ} → r ≡ min 2 (get_or t k 0 + 1) → set t k r ≡ count_use t k
unfolding count_use
count_one t k e = rw e

length-count : (t : List ℕ) (u : ℕ) → length (count_use t u) ≡ length t
unfolding count_use
length-count t u = length-set t u (min 2 (get_or t u 0 + 1))

pub length-counts : (t us : List ℕ) → length (count_uses t us) ≡ length t
unfolding count_uses
length-counts t [] = refl
length-counts t (u ∷ us) = length-counts (count_use t u) us ∙ length-count t u

count_same : (t : List ℕ) (k : ℕ) → k < length t → get_or (count_use t k) k 0 ≡ min 2 (get_or t k 0 + 1)
unfolding count_use
count_same t k l = get_or-set_same t k (min 2 (get_or t k 0 + 1)) 0 l

count_other : (t : List ℕ) (u k : ℕ) → (u ≡ k → ⊥) → get_or (count_use t u) k 0 ≡ get_or t k 0
unfolding count_use
count_other t u k h = get_or-set_other t u k (min 2 (get_or t u 0 + 1)) 0 (λ e. h (sym e))

-- one use more, and then those of a list
entry_step :
    (us t : List ℕ) (u k : ℕ)
    → k < length t
    → get_or t k 0 ≤ 2
    → (get_or (count_use t u) k 0 ≤ 2 → get_or (count_uses (count_use t u) us) k 0 ≡ min 2 (get_or (count_use t u) k 0 + occurrences k us))
    → get_or (count_uses (count_use t u) us) k 0 ≡ min 2 (get_or t k 0 + occurrences k (u ∷ us))
entry_step us t u k l s later =
    ⊎_elim (λ (e : eqb u k ≡ true). same (eqb-true u k e)) (λ (e : eqb u k ≡ false). other (eqb-false u k e)) (decide (eqb u k))
  where
    same : u ≡ k → get_or (count_uses (count_use t u) us) k 0 ≡ min 2 (get_or t k 0 + occurrences k (u ∷ us))
    same e =
        let now : get_or (count_use t u) k 0 ≡ min 2 (get_or t k 0 + 1) = rw e (count_same t k l) in
        let then = later (omega arith) in
        let more = occurrences_same k u us e in
        omega arith

    other : (u ≡ k → ⊥) → get_or (count_uses (count_use t u) us) k 0 ≡ min 2 (get_or t k 0 + occurrences k (u ∷ us))
    other h =
        let now = count_other t u k h in
        let then = later (omega arith) in
        let more = occurrences_other k u us h in
        omega arith

-- an entry is the number of uses, up to 2
entry_is : (us t : List ℕ) (k : ℕ) → k < length t → get_or t k 0 ≤ 2 → get_or (count_uses t us) k 0 ≡ min 2 (get_or t k 0 + occurrences k us)
unfolding count_uses occurrences
entry_is [] t k l s = omega arith
entry_is (u ∷ us) t k l s = entry_step us t u k l s (λ h. entry_is us (count_use t u) k (omega (arith, length-count t u)) h)

once : (n : ℕ) → eqb (min 2 n) 1 ≡ eqb n 1
once zero = refl
once (suc zero) = refl
once (suc (suc n)) = ne_eqb (min 2 (suc (suc n))) 1 (λ e. omega arith) ∙ sym (ne_eqb (suc (suc n)) 1 (λ e. omega arith))

-- a fresh table then counts 1 exactly where a list has one use
used_once : {t : List ℕ} (us : List ℕ) {n : ℕ} (k : ℕ) → Fresh n t → k < n → eqb (get_or (count_uses t us) k 0) 1 ≡ eqb (occurrences k us) 1
used_once {t} us k fresh l =
    let long = fresh.long in
    let zero = fresh.entry k l in
    let counted = entry_is us t k (omega arith) (omega arith) in
    let n : get_or (count_uses t us) k 0 ≡ min 2 (occurrences k us) = omega arith in
    rw n (once (occurrences k us))

-- one use, and then another
pub count_both : (t : List ℕ) (a b : ℕ) {u v : List ℕ} → u ≡ count_use t a → v ≡ count_use u b → v ≡ count_uses t (a ∷ b ∷ [])
unfolding count_uses
count_both t a b e f = rw (← e) f

-- counting leaves a table as long as it was
pub counts_keep : (t us : List ℕ) {u : List ℕ} {n : ℕ} → u ≡ count_uses t us → n ≤ length t → n ≤ length u
counts_keep t us e l = let same = length-counts t us in omega (arith, ap length e)

-- ---- a loop over the owners of uses: the table at owner i
pub record Counted (t₀ : List ℕ) (uses : ℕ → List ℕ) (t : List ℕ) (i : ℕ) : Type 0 where
  pub is : t ≡ count_uses t₀ (join_below uses i)

module _ {t₀ : List ℕ} {uses : ℕ → List ℕ} where
  pub counted_none : Counted t₀ uses t₀ 0
  unfolding count_uses join_below
  counted_none = record { is = refl }

  pub counted_more : {t u : List ℕ} {i : ℕ} → Counted t₀ uses t i → u ≡ count_uses t (uses i) → Counted t₀ uses u (i + 1)
  unfolding join_below
  counted_more {t} {u} {i} p q =
      record { is = q ∙ ap (λ (v : List ℕ). count_uses v (uses i)) p.is ∙ rw (add-one i) (sym (count_append t₀ (join_below uses i) (uses i))) }

  pub counted_all : {t : List ℕ} {i m n : ℕ} → Counted t₀ uses t i → i ≤ m → m ≤ i → m ≡ n → t ≡ count_uses t₀ (join_below uses n)
  counted_all {t} {i} {m} {n} p l h q = let e : i ≡ n = omega arith in rw (← e) p.is

  pub counted_long : {t : List ℕ} {i : ℕ} → Counted t₀ uses t i → length t ≡ length t₀
  counted_long {i = i} p = ap length p.is ∙ length-counts t₀ (join_below uses i)

  pub counted_keeps : {t : List ℕ} {i n : ℕ} → Counted t₀ uses t i → n ≤ length t₀ → n ≤ length t
  counted_keeps p l = let same = counted_long p in omega arith

  pub counted_inside : {t : List ℕ} {i m : ℕ} → Counted t₀ uses t i → m < length t₀ → m < length t
  counted_inside p l = counted_keeps p l

-- ---- the pass over the table
pub failing_same : (f g : ℕ → Bool) (n : ℕ) → ((k : ℕ) → k < n → f k ≡ g k) → lowest_failing f n ≡ lowest_failing g n
unfolding lowest_failing lowest
failing_same f g zero h = refl
failing_same f g (suc n) h = rw (failing_same f g n (λ k l. h k (omega arith)), h n (omega arith))

pub once_found : {rule : ℕ → Bool} {table : List ℕ} {m n : ℕ} {f : Option ℕ} → OnceWhere rule table m → m ≡ n → f ≡ lowest_failing (λ k. eqb (get_or table k 0) 1) m → f ≡ lowest_failing rule n
once_found {rule} {table} {m} so e h = h ∙ failing_same (λ k. eqb (get_or table k 0) 1) rule m so.entry ∙ ap (lowest_failing rule) e

-- a table that counted from nothing tells which nodes are used once
pub counted_once : {t₀ : List ℕ} (us : List ℕ) {n : ℕ} {t : List ℕ} → Fresh n t₀ → t ≡ count_uses t₀ us → OnceWhere (λ k. eqb (occurrences k us) 1) t n
counted_once {t₀} us fresh p = record { long = counts_keep t₀ us p fresh.long; entry = λ k h. rw p (used_once us k fresh h) }

pub ruleset count_laws = (count_one, counted_none, counted_more, counted_all)
