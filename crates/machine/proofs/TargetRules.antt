-- The targets of states: a state with a higher number than t is within t exactly where its parent is, which has a lower number, so one pass upwards marks
-- all that is within t.
use Prim.Native.Nat.{ℕ, zero, suc, ◌+◌, ◌≤◌, ◌<◌}
use mathlib.Core.Path.{◌≡◌, refl, sym, ◌∙◌, ap}
use mathlib.Core.Logic.{◌≢◌}
use mathlib.Core.Bool.{Bool, true, false, ◌||◌, cond}
use mathlib.Core.List.{List}
use native.Mathlib.Omega.{arith}
use native.Mathlib.Numerals.{add-one}
use native.Mathlib.Decide.{dec_lt, ℕ_discrete}
use lib.Dec.{eqb}
use lib.ListN.{length, get_or, set, replicate, length-set, length-replicate, get_or-replicate}
use lib.Seq.{get_or-set_same, get_or-set_other}
use borrow.Author.Tests.{ne_eqb}
use Rattle.model.specs.Image.{Design as Table, design_of}
use Rattle.model.specs.States.{parent, is_child, has_child, default_target, within}
use Rattle.model.specs.Machine.{target_sound, cleared, gone_to}
use Rattle.model.proofs.Laws.Booleans.{true_or_false, false_unless_true, cond_true, cond_false}
use Rattle.model.proofs.Laws.Indices.{extend, nothing_below_zero, only_below_at}
use Rattle.model.proofs.Laws.States.{child_of, has_child_lem}
use Rattle.model.proofs.Laws.Gotos.{within_step, within_self, within_below, length-cleared}
use Rattle.design.specs.declared.Design.{Design}
use Rattle.design.specs.Records.{state_in}
use Rattle.design.specs.Describes.{Describes}
use Rattle.design.specs.Kept.{StatesKept}
use Rattle.design.specs.Resets.{Defaults}
use Rattle.design.proofs.Laws.{states_count}
use Rattle.design.proofs.ResetRules.{Filled, filled_more, filled_all, states_few, parent_is, parent_inside, parent_lower, alone, not_alone}

-- ---- bounds
pub state_few : {image : List ℕ} {x : Design} {s : ℕ} → Describes image x → s < x.states → s < 64
state_few d l = let few = states_few d in omega arith

module _ {image : List ℕ} {x : Design} where
  pub parent_few : {s p : ℕ} → Describes image x → StatesKept (design_of image) → s < x.states → p ≡ (state_in image x.states_at s).parent → p < 64
  parent_few d kept l e = state_few d (parent_inside d kept l e)

-- ---- the tree of states
module _ (d : Table) where
  no_child : (s q : ℕ) → has_child d s ≡ false → is_child d s q ≡ false
  no_child s q h = false_unless_true (is_child d s q) (λ e. true_or_false (has_child d s) (has_child_lem d s q (child_of d s q e)) h)

  -- a state with a higher number than t is within t exactly where its parent is
  within_parent : (t q : ℕ) → t < q → parent d q < q → within d t q ≡ within d t (parent d q)
  within_parent t q l k =
      rw (within_step d t q, ne_eqb q t (λ e. omega arith), ne_eqb q 0 (λ e. omega arith), only_below_at false q (parent d q) (within d t) k)

  -- only t is within t where it has no child: the way up to t ends with a child of it
  module _ (kept : StatesKept d) (t : ℕ) (h : has_child d t ≡ false) where
    within_alone : (n q : ℕ) → q < n → q < length d.states → q ≢ t → within d t q ≡ false
    within_alone zero q l k other = absurd (nothing_below_zero l)
    within_alone (suc n) q l k other = go (within_alone n) (dec_lt q t) (ℕ_discrete (parent d q) t)
      where
        go : ((p : ℕ) → p < n → p < length d.states → p ≢ t → within d t p ≡ false) → Dec (q < t) → Dec (parent d q ≡ t) → within d t q ≡ false
        go earlier (yes below) at_parent = within_below d t q below
        go earlier (no above) (yes e) =
            absurd (true_or_false (has_child d t) (has_child_lem d t q (record { no_root = λ z. other (omega arith); state = k; parent_is = e })) h)
        go earlier (no above) (no e) =
            let higher : t < q = omega arith in
            let lower = parent_lower d kept q k (λ z. omega arith) in
            within_parent t q higher lower ∙ earlier (parent d q) (omega arith) (omega arith) e

-- ---- sound targets
or_false : (b : Bool) → (b || false) ≡ b
or_false true = refl
or_false false = refl

module _ {image table : List ℕ} {x : Design} (d : Describes image x) (t : Defaults (design_of image) table) where
  default_is : {s w : ℕ} → s < x.states → w ≡ get_or table s 0 → w ≡ default_target (design_of image) s
  default_is {s} l e = let count = states_count d in e ∙ t.entry s (omega arith)

  module _ (targets : List ℕ) {s q w : ℕ} (l : s < x.states) (p : q ≡ get_or targets s 0) (e : w ≡ get_or table s 0) where
    pub sound_alone : StatesKept (design_of image) → w ≡ s → eqb q s ≡ target_sound (design_of image) targets s
    unfolding target_sound
    sound_alone kept same =
        let count = states_count d in
        let none = alone (design_of image) kept s (omega arith) (sym (default_is l e) ∙ same) in
        rw (p, no_child (design_of image) s (get_or targets s 0) none, none)

    pub sound_child : {b : Bool} → (w ≡ s → ⊥) → b ≡ is_child (design_of image) s q → b ≡ target_sound (design_of image) targets s
    unfolding target_sound
    sound_child other b =
        rw (b, p, not_alone (design_of image) s (λ same. other (default_is l e ∙ same))) (sym (or_false (is_child (design_of image) s (get_or targets s 0))))

-- ---- clearing
-- by a mark that is 1 where b holds
chosen_by : {mark : ℕ} (b : Bool) (marked unmarked : ℕ) → mark ≡ cond b 1 0 → cond (eqb mark 0) unmarked marked ≡ cond b marked unmarked
chosen_by true marked unmarked e = rw e
chosen_by false marked unmarked e = rw e

-- what clearing t makes of the target of state q
abbrev cleared_at : Table → ℕ → List ℕ → ℕ → ℕ
cleared_at d t old q = cond (within d t q) (default_target d q) (get_or old q 0)

-- What the pass works with: n states and their default targets. One record of it keeps `search` short.
pub record Clearing (d : Table) (n : ℕ) (table : List ℕ) : Type 0 where
  pub kept : StatesKept d
  pub defaults : Defaults d table
  pub count : n ≡ length d.states
  pub few : n ≤ 64

-- The states before i are cleared, and those of them that are within t are marked. The loop begins behind a store at t, with the table `first`.
pub record ClearedSo (d : Table) (n : ℕ) (table : List ℕ) (t : ℕ) (first : List ℕ) (i : ℕ) (marks now : List ℕ) : Type 0 where
  pub with : Clearing d n table
  pub above : t < i
  pub room : length marks ≡ 64
  pub marked : (k : ℕ) → k < i → get_or marks k 0 ≡ cond (within d t k) 1 0
  pub size : length first ≡ n
  pub so : Filled (cleared_at d t first) first i now

pub clear_begins : {image table first marks : List ℕ} {x : Design} {t : ℕ} (old : List ℕ) → Describes image x → StatesKept (design_of image) → Defaults (design_of image) table → length old ≡ x.states → t < x.states → marks ≡ set (replicate 64 0) t 1 → first ≡ set old t (get_or table t 0)
    → ClearedSo (design_of image) x.states table t first (t + 1) marks first
clear_begins {image} {table} {first} {marks} {x} {t} old d kept defaults e l m f =
    let few = state_few d l in
    let room = length-replicate {A = ℕ} 64 0 in
    let self = within_self (design_of image) t in
    let own : get_or first t 0 ≡ default_target (design_of image) t = rw f (get_or-set_same old t (get_or table t 0) 0 (omega arith)) ∙ default_is d defaults l refl in
    record {
      with = record { kept = kept; defaults = defaults; count = states_count d; few = states_few d };
      above = omega arith;
      room = ap length m ∙ length-set (replicate 64 0) t 1 ∙ room;
      marked =
          λ k b. extend
          {P = λ j. get_or marks j 0 ≡ cond (within (design_of image) t j) 1 0}
          t
          (λ j c. rw m (get_or-set_other (replicate 64 0) t j 1 0 (λ z. omega arith) ∙ get_or-replicate {A = ℕ} 64 j 0 0 (omega arith) ∙ sym (cond_false (within (design_of image) t j) 1 0 (within_below (design_of image) t j c))))
          (rw m (get_or-set_same (replicate 64 0) t 1 0 (omega arith) ∙ sym (cond_true (within (design_of image) t t) 1 0 self)))
          k
          (rw (add-one t) at b);
      size = ap length f ∙ length-set old t (get_or table t 0) ∙ e;
      so =
          record {
            long = refl;
            done =
                λ k b. extend
                {P = λ j. get_or first j 0 ≡ cleared_at (design_of image) t first j}
                t
                (λ j c. sym (cond_false (within (design_of image) t j) (default_target (design_of image) j) (get_or first j 0) (within_below (design_of image) t j c)))
                (own ∙ sym (cond_true (within (design_of image) t t) (default_target (design_of image) t) (get_or first t 0) self))
                k
                (rw (add-one t) at b);
            rest = λ k b. refl;
          };
    }

module _ {d : Table} {n t s : ℕ} {table first marks now : List ℕ} (c : ClearedSo d n table t first s marks now) where
  -- the old entry of t does not count
  pub clear_all : (old : List ℕ) → length old ≡ n → first ≡ set old t (get_or table t 0) → n ≤ s → now ≡ cleared d t old
  unfolding cleared
  clear_all old e f l =
      filled_all
      {f = cleared_at d t old}
      {old = old}
      {i = s}
      (record {
        long = c.so.long ∙ c.size ∙ sym e;
        done = λ k b. c.so.done k b ∙ same k (ℕ_discrete k t);
        rest = λ k b. c.so.rest k b ∙ rw f (get_or-set_other old t k (get_or table t 0) 0 (λ z. let above = c.above in omega arith));
      })
      e
      l
    where
      same : (k : ℕ) → Dec (k ≡ t) → cleared_at d t first k ≡ cleared_at d t old k
      same k (yes z) = rw (z, within_self d t)
      same k (no z) = rw (f, get_or-set_other old t k (get_or table t 0) 0 z)

-- one more state takes the mark of its parent, and what the mark says
pub clear_more : {image table first marks now : List ℕ} {x : Design} {t s p r : ℕ} → ClearedSo (design_of image) x.states table t first s marks now → Describes image x → s < x.states → p ≡ (state_in image x.states_at s).parent → r ≡ cond (eqb (get_or marks p 0) 0) (get_or now s 0) (get_or table s 0)
    → ClearedSo (design_of image) x.states table t first (s + 1) (set marks s (get_or marks p 0)) (set now s r)
clear_more {image} {table} {first} {marks} {now} {x} {t} {s} {p} {r} c d l e h =
    let above = c.above in
    let room = c.room in
    let few = c.with.few in
    let count = c.with.count in
    let lower = parent_lower (design_of image) c.with.kept s (omega arith) (λ z. omega arith) in
    let own : get_or marks p 0 ≡ cond (within (design_of image) t s) 1 0 = rw (parent_is d l e, within_parent (design_of image) t s above lower) (c.marked (parent (design_of image) s) lower) in
    record {
      with = c.with;
      above = omega arith;
      room = length-set marks s (get_or marks p 0) ∙ room;
      marked =
          λ k b. extend
          {P = λ j. get_or (set marks s (get_or marks p 0)) j 0 ≡ cond (within (design_of image) t j) 1 0}
          s
          (λ j b. get_or-set_other marks s j (get_or marks p 0) 0 (λ z. omega arith) ∙ c.marked j b)
          (get_or-set_same marks s (get_or marks p 0) 0 (omega arith) ∙ own)
          k
          (rw (add-one s) at b);
      size = c.size;
      so =
          filled_more
          c.so
          c.size
          l
          (h ∙ chosen_by (within (design_of image) t s) (get_or table s 0) (get_or now s 0) own ∙ rw (c.with.defaults.entry s (omega arith), c.so.rest s (omega arith)));
    }

-- a state with no child is cleared alone
pub clear_alone : {image table : List ℕ} (old : List ℕ) {x : Design} {t w : ℕ} → Describes image x → StatesKept (design_of image) → Defaults (design_of image) table → length old ≡ x.states → t < x.states → w ≡ get_or table t 0 → w ≡ t → set old t t ≡ cleared (design_of image) t old
unfolding cleared
clear_alone {image} {table} old {x} {t} {w} d kept defaults e l p same =
    filled_all {f = cleared_at (design_of image) t old} {old = old} {i = length old} (record { long = length-set old t t; done = λ k b. at k b (ℕ_discrete k t); rest = λ k b. get_or-set_other old t k t 0 (λ z. omega arith) }) e (omega arith)
  where
    own : default_target (design_of image) t ≡ t
    own = sym (default_is d defaults l p) ∙ same

    at : (k : ℕ) → k < length old → Dec (k ≡ t) → get_or (set old t t) k 0 ≡ cleared_at (design_of image) t old k
    at k b (yes z) = rw z (get_or-set_same old t t 0 (omega arith) ∙ sym own ∙ sym (cond_true (within (design_of image) t t) (default_target (design_of image) t) (get_or old t 0) (within_self (design_of image) t)))
    at k b (no z) =
        let count = states_count d in
        let none = alone (design_of image) kept t (omega arith) own in
        get_or-set_other old t k t 0 z
        ∙ sym (cond_false (within (design_of image) t k) (default_target (design_of image) k) (get_or old k 0) (within_alone (design_of image) kept t none (suc k) k (omega arith) (omega arith) z))

-- ---- a goto
module _ {image : List ℕ} {x : Design} (d : Describes image x) (t : ℕ) (old now : List ℕ) (e : now ≡ cleared (design_of image) t old) where
  pub gone_inside : {p : ℕ} → StatesKept (design_of image) → length old ≡ x.states → t < x.states → p ≡ (state_in image x.states_at t).parent → p < length now
  gone_inside kept same l q = let inside = parent_inside d kept l q in let long = ap length e ∙ length-cleared (design_of image) t old in omega arith

  pub gone_rule : {p : ℕ} → t < x.states → p ≡ (state_in image x.states_at t).parent → set now p t ≡ gone_to (design_of image) t old
  unfolding gone_to
  gone_rule l q = rw (e, parent_is d l q)
