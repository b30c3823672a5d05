-- What reset writes: default targets by one pass downwards, in which the lowest child of a state comes last and stays, and a register area that a loop fills.
use Rattle.std.specs.Prelude.{Some}
use Prim.Native.Nat.{ℕ, zero, suc, ◌+◌, ◌*◌, ◌/◌, ◌%◌, ◌-◌, ◌≤◌, ◌<◌}
use mathlib.Core.Path.{◌≡◌, refl, sym, ◌∙◌, ap}
use mathlib.Core.Logic.{◌⊎◌, inl, inr, ◌≢◌}
use mathlib.Core.Bool.{Bool, true, false}
use mathlib.Core.List.{List, [], ◌∷◌, ◌++◌}
use native.Mathlib.Omega.{arith}
use native.Mathlib.Numerals.{add-one}
use native.Mathlib.Decide.{ℕ_discrete, dec_lt}
use lib.ListN.{length, get_or, set, replicate, length-set, length-replicate, length-append, get_or-append, get_or-map}
use lib.Seq.{get_or-set_same, get_or-set_other, get_or-append-add, ext_get_or}
use Rattle.model.specs.Indices.{lowest, tabulate, filled_to}
use Rattle.model.specs.Image.{Design as Table, States, Register, no_register, State, design_of, register_at}
use Rattle.model.specs.States.{found_or, parent, is_child, has_child, default_target}
use Rattle.model.specs.Values.{bytes_of}
use Rattle.model.specs.Machine.{reset_areas}
use Rattle.model.specs.Calls.{lent_of}
use Rattle.model.proofs.Laws.Cycles.{reset_length}
use Rattle.model.proofs.Laws.Booleans.{true_or_false, false_unless_true}
use Rattle.model.proofs.Laws.Indices.{extend, nothing_below_zero, lowest_nowhere, lowest_at, lowest_found, length-tabulate, get_d_tabulate, length-filled, filled_before, filled_behind, filled_is}
use Rattle.model.proofs.Laws.States.{child_of, is_child_lem, has_child_lem, default_cases}
use Rattle.model.proofs.Exact.Records.{state_iff}
use Rattle.design.specs.declared.Design.{Design}
use Rattle.design.specs.Records.{register_in, state_in}
use Rattle.design.specs.Describes.{Describes}
use Rattle.design.specs.Kept.{StatesKept}
use Rattle.design.specs.Words.{put_word}
use Rattle.design.specs.Resets.{Defaults, with_defaults, lends}
pub use Rattle.design.specs.Resets.{Filled}
use Rattle.design.proofs.Laws.{states_count, registers_count, state_in_lem, register_in_lem}
use Rattle.design.proofs.WordRules.{put_behind}

-- ---- bounds
pub states_few : {image : List ℕ} {x : Design} → Describes image x → x.states ≤ 64
states_few d = omega (arith, d.states, d.directory.sections States)

pub state_fits : {image : List ℕ} {x : Design} {s : ℕ} → Describes image x → s < x.states → s < 256
state_fits d l = let few = states_few d in omega arith

pub default_inside : {image : List ℕ} {x : Design} {r s : ℕ} → Describes image x → s < x.states → r ≡ default_target (design_of image) s → r < x.states
default_inside {image} {x} {r} {s} d l e = go (default_cases (design_of image) s)
  where
    go : (is_child (design_of image) s (default_target (design_of image) s) ≡ true) ⊎ ((has_child (design_of image) s ≡ false) × (default_target (design_of image) s ≡ s)) → r < x.states
    go (inl h) = let count = states_count d in let state = (child_of (design_of image) s (default_target (design_of image) s) h).state in omega arith
    go (inr h) = let self = h.1 in omega arith

pub default_fits : {image : List ℕ} {x : Design} {r s : ℕ} → Describes image x → s < x.states → r ≡ default_target (design_of image) s → r < 256
default_fits d l e = state_fits d (default_inside d l e)

-- ---- the parent of a state
module _ {image : List ℕ} {x : Design} where
  pub parent_is : {q p : ℕ} → Describes image x → q < x.states → p ≡ (state_in image x.states_at q).parent → p ≡ parent (design_of image) q
  parent_is d l e = e ∙ ap (λ (y : State). y.parent) (state_in_lem d l)

  pub parent_inside : {s p : ℕ} → Describes image x → StatesKept (design_of image) → s < x.states → p ≡ (state_in image x.states_at s).parent → p < x.states
  parent_inside {s} {p} d kept l e = go (ℕ_discrete s 0)
    where
      go : Dec (s ≡ 0) → p < x.states
      go (yes z) =
          let count = states_count d in
          let is = parent_is d l e in
          let root = ((state_iff (design_of image) s).0 (kept.kept s (omega arith))).root_parent z in
          omega arith
      go (no z) =
          let count = states_count d in
          let is = parent_is d l e in
          let below = ((state_iff (design_of image) s).0 (kept.kept s (omega arith))).parent_below z in
          omega arith

-- ---- a table that a loop fills from the front
module _ {f : ℕ → ℕ} {old : List ℕ} where
  pub filled_none : Filled f old 0 old
  filled_none = record { long = refl; done = λ k l. absurd (nothing_below_zero l); rest = λ k l. refl }

  -- a table that is at least as long as what is filled
  pub filled_within : {i m v : ℕ} {now : List ℕ} → Filled f old i now → m ≤ length old → i < m → v ≡ f i → Filled f old (i + 1) (set now i v)
  filled_within {i} {m} {v} {now} so e l h =
      let same = so.long in
      record {
        long = length-set now i v ∙ so.long;
        done = λ k b. extend {P = λ j. get_or (set now i v) j 0 ≡ f j} i (λ j c. get_or-set_other now i j v 0 (λ z. omega arith) ∙ so.done j c) (get_or-set_same now i v 0 (omega arith) ∙ h) k (rw (add-one i) at b);
        rest = λ k b. get_or-set_other now i k v 0 (λ z. omega arith) ∙ so.rest k (omega arith);
      }

  pub filled_more : {i m v : ℕ} {now : List ℕ} → Filled f old i now → length old ≡ m → i < m → v ≡ f i → Filled f old (i + 1) (set now i v)
  filled_more so e l h = filled_within so (omega arith) l h

  -- the loop's end
  pub filled_to_lem : {i m : ℕ} {now : List ℕ} → Filled f old i now → i ≤ m → m ≤ i → Filled f old m now
  filled_to_lem {i} {m} {now} so l h = let end : m ≡ i = omega arith in rw end so

  pub filled_all : {i m : ℕ} {now : List ℕ} → Filled f old i now → length old ≡ m → m ≤ i → now ≡ tabulate f (length old)
  filled_all {i} {m} {now} so e l =
      let same = so.long in
      ext_get_or
      0
      now
      (tabulate f (length old))
      (so.long ∙ sym (length-tabulate f (length old)))
      (λ k b. so.done k (omega arith) ∙ sym (get_d_tabulate f (length old) k 0 (omega arith)))

  -- every entry of it is known
  pub filled_whole : {n : ℕ} {now : List ℕ} → Filled f old n now → now ≡ filled_to f n old
  filled_whole {n} {now} so = filled_is f n old now so.long so.done so.rest

  pub filled_so : {n : ℕ} {now : List ℕ} → n ≤ length old → now ≡ filled_to f n old → Filled f old n now
  filled_so {n} {now} room e =
      rw e
      record {
        long = length-filled f n old;
        done = λ k l. filled_before f n old k l (omega arith);
        rest = λ k l. filled_behind f n old k l;
      }

-- a table that a loop clears
module _ {old now : List ℕ} {i : ℕ} (so : Filled (λ k. 0) old i now) where
  pub cleared_more : i < length now → Filled (λ k. 0) old (i + 1) (set now i 0)
  cleared_more l = let same = so.long in filled_within so (omega arith) l refl

  pub cleared : i ≤ length old → length now ≤ i → Filled (λ k. 0) old (length old) now
  cleared l h = let same = so.long in filled_to_lem so l (omega arith)

-- ---- a table that the pass downwards makes one of default targets
same_index : (i j : ℕ) → (i < j → ⊥) → (j < i → ⊥) → i ≡ j
same_index i j h k = omega arith

lowest_is : (test : ℕ → Bool) (n i : ℕ) → i < n → test i ≡ true → ((k : ℕ) → k < i → test k ≡ false) → lowest test n ≡ Some i
lowest_is test n i l t m =
    let found = lowest_found test n i l t in
    let at = lowest_at test n found.0 found.1 in
    let same =
    same_index
    found.0
    i
    (λ h. true_or_false (test found.0) at.passes (m found.0 h))
    (λ h. true_or_false (test i) t (at.none_lower i h))
    in
    found.1 ∙ ap Some same

-- the pass comes from s to s - 1
pub below_inside : {n s : ℕ} → 1 < s → s ≤ n → s - 1 < n
below_inside l h = omega arith

-- v is the lowest child of k with number s or more, or k where there is none
abbrev pub LowestFrom : Table → ℕ → ℕ → ℕ → Type 0
LowestFrom d s k v = ((is_child d k v ≡ true) × ((q : ℕ) → s ≤ q → q < v → is_child d k q ≡ false)) ⊎ ((v ≡ k) × ((q : ℕ) → s ≤ q → is_child d k q ≡ false))

-- the pass has come down to s: the states from s on have been put into their parents' entries
pub record DefaultsSo (d : Table) (old : List ℕ) (s : ℕ) (now : List ℕ) : Type 0 where
  pub long : length now ≡ length old
  pub holds : length d.states ≤ length now
  pub entry : (k : ℕ) → k < length d.states → LowestFrom d s k (get_or now k 0)
  pub rest : (k : ℕ) → length d.states ≤ k → get_or now k 0 ≡ get_or old k 0

module _ (d : Table) where
  -- the root is no child
  root_no_child : (k : ℕ) → is_child d k 0 ≡ false
  root_no_child k = false_unless_true (is_child d k 0) (λ e. (child_of d k 0 e).no_root refl)

  other_no_child : (k s : ℕ) → (k ≡ parent d s → ⊥) → is_child d k s ≡ false
  other_no_child k s h = false_unless_true (is_child d k s) (λ e. h (sym (child_of d k s e).parent_is))

  -- one number further down
  further : (k s : ℕ) {Q : ℕ → Type 0} → is_child d k s ≡ false → ((q : ℕ) → s + 1 ≤ q → Q q → is_child d k q ≡ false) → (q : ℕ) → s ≤ q → Q q → is_child d k q ≡ false
  further k s {Q} h more q l c = go (ℕ_discrete q s)
    where
      go : Dec (q ≡ s) → is_child d k q ≡ false
      go (yes e) = rw e h
      go (no e) = more q (omega arith) c

  lowest_kept : (k s v : ℕ) → (k ≡ parent d s → ⊥) → LowestFrom d (s + 1) k v → LowestFrom d s k v
  lowest_kept k s v h (inl c) = inl (c.0, further k s {Q = λ q. q < v} (other_no_child k s h) c.1)
  lowest_kept k s v h (inr c) = inr (c.0, λ q l. further k s {Q = λ q. s ≤ q} (other_no_child k s h) (λ p b u. c.1 p b) q l l)

  lowest_put : (s : ℕ) → (s ≡ 0 → ⊥) → s < length d.states → LowestFrom d s (parent d s) s
  lowest_put s h l = inl (is_child_lem d (parent d s) s (record { no_root = h; state = l; parent_is = refl }), λ q a b. absurd (omega arith))

  -- at the end only the root is left, and it is no child
  down_to_one : (k s : ℕ) {Q : ℕ → Type 0} → s ≤ 1 → ((q : ℕ) → s ≤ q → Q q → is_child d k q ≡ false) → (q : ℕ) → Q q → is_child d k q ≡ false
  down_to_one k s {Q} l more q c = go (ℕ_discrete q 0)
    where
      go : Dec (q ≡ 0) → is_child d k q ≡ false
      go (yes e) = rw e (root_no_child k)
      go (no e) = more q (omega arith) c

  lowest_default : (k s v : ℕ) → s ≤ 1 → LowestFrom d s k v → v ≡ default_target d k
  unfolding default_target
  lowest_default k s v l (inl c) = sym (ap (found_or k) (lowest_is (is_child d k) (length d.states) v (child_of d k v c.0).state c.0 (down_to_one k s {Q = λ q. q < v} l c.1)))
  lowest_default k s v l (inr c) = c.0 ∙ sym (ap (found_or k) (lowest_nowhere (is_child d k) (length d.states) (down_to_one k s {Q = λ q. q < length d.states} l (λ q a b. c.1 q a))))

module _ {image : List ℕ} {x : Design} where
  -- a number behind the states is no child
  pub behind_no_child : {q : ℕ} (k : ℕ) → Describes image x → x.states ≤ q → false ≡ is_child (design_of image) k q
  behind_no_child {q} k d l =
      let count = states_count d in
      sym (false_unless_true (is_child (design_of image) k q) (λ e. let state = (child_of (design_of image) k q e).state in omega arith))

  pub defaults_begin : {old now : List ℕ} → Describes image x → x.states ≤ length old → Filled (λ k. k) old x.states now → DefaultsSo (design_of image) now x.states now
  defaults_begin {old} {now} d l so =
      let count = states_count d in
      let same = so.long in
      record {
        long = refl;
        holds = omega arith;
        entry = λ k b. inr (so.done k (omega arith), λ q h. sym (behind_no_child k d h));
        rest = λ k b. refl;
      }

  module _ {old now : List ℕ} {s p : ℕ} (d : Describes image x) (kept : StatesKept (design_of image)) (so : DefaultsSo (design_of image) old s now) (l : 1 < s) (h : s ≤ x.states) (e : p ≡ (state_in image x.states_at (s - 1)).parent) where
    pub put_inside : p < length now
    put_inside = let holds = so.holds in let count = states_count d in let inside = parent_inside d kept (below_inside l h) e in omega arith

    pub defaults_more : DefaultsSo (design_of image) old (s - 1) (set now p (s - 1))
    defaults_more =
        let same = length-set now p (s - 1) in
        let holds = so.holds in
        record {
          long = length-set now p (s - 1) ∙ so.long;
          holds = omega arith;
          entry = λ k b. entered k b (ℕ_discrete k p);
          rest = λ k b. let inside = parent_inside d kept (below_inside l h) e in let count = states_count d in get_or-set_other now p k (s - 1) 0 (λ z. omega arith) ∙ so.rest k b;
        }
      where
        is : p ≡ parent (design_of image) (s - 1)
        is = parent_is d (below_inside l h) e

        next : s ≡ s - 1 + 1
        next = omega arith

        entered : (k : ℕ) → k < length (design_of image).states → Dec (k ≡ p) → LowestFrom (design_of image) (s - 1) k (get_or (set now p (s - 1)) k 0)
        entered k b (yes z) =
            let count = states_count d in
            rw (z, get_or-set_same now p (s - 1) 0 put_inside, is) (lowest_put (design_of image) (s - 1) (λ y. omega arith) (omega arith))
        entered k b (no z) =
            rw (get_or-set_other now p k (s - 1) 0 z)
            (lowest_kept (design_of image) k (s - 1) (get_or now k 0) (λ y. z (y ∙ sym is)) (rw (← next) (so.entry k b)))

pub defaults_long : {d : Table} {n s : ℕ} {old own now : List ℕ} → Filled (λ k. k) old n own → DefaultsSo d own s now → length now ≡ length old
defaults_long first so = so.long ∙ first.long

-- ---- a table of default targets
module _ (d : Table) (old : List ℕ) where
  length-defaults : length (with_defaults d old) ≡ length old
  unfolding with_defaults
  length-defaults = length-filled (default_target d) (length d.states) old

  default_at : (k : ℕ) → k < length d.states → k < length old → get_or (with_defaults d old) k 0 ≡ default_target d k
  unfolding with_defaults
  default_at = filled_before (default_target d) (length d.states) old

  behind_at : (k : ℕ) → length d.states ≤ k → get_or (with_defaults d old) k 0 ≡ get_or old k 0
  unfolding with_defaults
  behind_at = filled_behind (default_target d) (length d.states) old

module _ {image : List ℕ} {x : Design} (d : Describes image x) where
  pub defaults_done : {old own now : List ℕ} {s : ℕ} → Filled (λ k. k) old x.states own → DefaultsSo (design_of image) own s now → s ≤ 1 → now ≡ with_defaults (design_of image) old
  defaults_done {old} {own} {now} {s} first so l =
      let same = so.long ∙ first.long in
      ext_get_or 0 now (with_defaults (design_of image) old) (same ∙ sym (length-defaults (design_of image) old)) (λ k b. at k (omega arith) (dec_lt k (length (design_of image).states)))
    where
      at : (k : ℕ) → k < length old → Dec (k < length (design_of image).states) → get_or now k 0 ≡ get_or (with_defaults (design_of image) old) k 0
      at k b (yes h) = lowest_default (design_of image) k s (get_or now k 0) l (so.entry k h) ∙ sym (default_at (design_of image) old k h b)
      at k b (no h) = let count = states_count d in so.rest k (omega arith) ∙ first.rest k (omega arith) ∙ sym (behind_at (design_of image) old k (omega arith))

-- ---- what callers take from it
-- an entry of the table
pub entry_inside : {image table : List ℕ} {x : Design} {s : ℕ} → Describes image x → Defaults (design_of image) table → s < x.states → s < length table
entry_inside d t l = let count = states_count d in let long = t.long in omega arith

module _ (d : Table) where
  pub parent_lower : StatesKept d → (s : ℕ) → s < length d.states → s ≢ 0 → parent d s < s
  parent_lower kept s l z = ((state_iff d s).0 (kept.kept s l)).parent_below z

  -- a state that is its own default target has no child
  pub alone : StatesKept d → (s : ℕ) → s < length d.states → default_target d s ≡ s → has_child d s ≡ false
  alone kept s l e = go (default_cases d s)
    where
      go : (is_child d s (default_target d s) ≡ true) ⊎ ((has_child d s ≡ false) × (default_target d s ≡ s)) → has_child d s ≡ false
      go (inl h) =
          let child = child_of d s s (rw e at h) in
          let same = child.parent_is in
          let lower = parent_lower kept s l child.no_root in
          absurd (omega arith)
      go (inr h) = h.0

  -- one that is not has a child
  pub not_alone : (s : ℕ) → (default_target d s ≡ s → ⊥) → has_child d s ≡ true
  not_alone s e = go (default_cases d s)
    where
      go : (is_child d s (default_target d s) ≡ true) ⊎ ((has_child d s ≡ false) × (default_target d s ≡ s)) → has_child d s ≡ true
      go (inl h) = has_child_lem d s (default_target d s) (child_of d s (default_target d s) h)
      go (inr h) = absurd (e h.1)

pub defaults_of : {image table : List ℕ} {x : Design} (old : List ℕ) → Describes image x → x.states ≤ length old → table ≡ with_defaults (design_of image) old → Defaults (design_of image) table
defaults_of {image} {table} old d l e =
    let count = states_count d in
    let same = ap length e ∙ length-defaults (design_of image) old in
    record { long = omega arith; entry = λ s h. ap (λ (t : List ℕ). get_or t s 0) e ∙ default_at (design_of image) old s h (omega arith) }

-- in a fresh table
pub fresh_defaults : {image table : List ℕ} {x : Design} → Describes image x → table ≡ with_defaults (design_of image) (replicate {A = ℕ} 64 0) → Defaults (design_of image) table
fresh_defaults d e = let few = states_few d in let long = length-replicate {A = ℕ} 64 0 in defaults_of (replicate {A = ℕ} 64 0) d (omega arith) e

-- an area of no bindings in which the targets are the default ones
pub defaults_reset :
    {image table zeros old : List ℕ} {x : Design}
    → Describes image x
    → length old ≡ 3 * x.states
    → Filled (λ k. 0) old (length old) zeros
    → table ≡ with_defaults (design_of image) zeros
    → table ≡ (reset_areas (design_of image)).targets ++ (reset_areas (design_of image)).bindings
unfolding reset_areas
defaults_reset {image} {table} {zeros} {old} {x} d l clear e =
    let count = states_count d in
    let long = clear.long in
    let same = ap length e ∙ length-defaults (design_of image) zeros in
    let all = length (design_of image).states in
    let targets = tabulate (default_target (design_of image)) all in
    let bindings = tabulate {A = ℕ} (λ v. 0) (2 * all) in
    let first = length-tabulate (default_target (design_of image)) all in
    let second = length-tabulate {A = ℕ} (λ v. 0) (2 * all) in
    let both = length-append targets bindings in
    ext_get_or 0 table (targets ++ bindings) (omega arith) (λ k b. at k (omega arith) (dec_lt k all))
  where
    at : (k : ℕ) → k < 3 * length (design_of image).states → Dec (k < length (design_of image).states)
        → get_or table k 0 ≡ get_or (tabulate (default_target (design_of image)) (length (design_of image).states) ++ tabulate {A = ℕ} (λ v. 0) (2 * length (design_of image).states)) k 0
    at k b (yes h) =
        let count = states_count d in
        let long = clear.long in
        let all = length (design_of image).states in
        let first = length-tabulate (default_target (design_of image)) all in
        ap (λ (t : List ℕ). get_or t k 0) e
        ∙ default_at (design_of image) zeros k h (omega arith)
        ∙ sym (get_or-append (tabulate (default_target (design_of image)) all) (tabulate {A = ℕ} (λ v. 0) (2 * all)) 0 k (omega arith) ∙ get_d_tabulate (default_target (design_of image)) all k 0 h)
    at k b (no h) =
        let count = states_count d in
        let long = clear.long in
        let all = length (design_of image).states in
        let targets = tabulate (default_target (design_of image)) all in
        let bindings = tabulate {A = ℕ} (λ v. 0) (2 * all) in
        let first = length-tabulate (default_target (design_of image)) all in
        let place : k ≡ length targets + (k - all) = omega arith in
        ap (λ (t : List ℕ). get_or t k 0) e
        ∙ behind_at (design_of image) zeros k (omega arith)
        ∙ clear.done k (omega arith)
        ∙ sym (ap (λ (i : ℕ). get_or (targets ++ bindings) i 0) place ∙ get_or-append-add targets bindings (k - all) 0 ∙ get_d_tabulate {A = ℕ} (λ v. 0) (2 * all) (k - all) 0 (omega arith))

-- an area of some bytes for each state holds the table
pub as_long : {n k : ℕ} {f : ℕ → ℕ} {old now : List ℕ} → length old ≡ 3 * n → Filled f old k now → n ≤ length now
as_long l so = let same = so.long in omega arith

-- the two areas together
pub reset_both :
    {image registers targets zeros old : List ℕ} {x : Design}
    → Describes image x
    → length old ≡ 3 * x.states
    → registers ≡ bytes_of (reset_areas (design_of image)).registers
    → Filled (λ k. 0) old (length old) zeros
    → targets ≡ with_defaults (design_of image) zeros
    → lends registers targets ≡ lent_of (reset_areas (design_of image))
unfolding lent_of
reset_both d l r clear t = rw (r, defaults_reset d l clear t)

-- ---- a register area that a loop fills
-- the first i words of an area are those of values
unfoldable pub written : ℕ → List ℕ → List ℕ → List ℕ
written zero values bytes = bytes
written (suc i) [] bytes = bytes
written (suc i) (v ∷ values) [] = []
written (suc i) (v ∷ values) (a ∷ []) = a ∷ []
written (suc i) (v ∷ values) (a ∷ b ∷ []) = a ∷ b ∷ []
written (suc i) (v ∷ values) (a ∷ b ∷ c ∷ []) = a ∷ b ∷ c ∷ []
written (suc i) (v ∷ values) (a ∷ b ∷ c ∷ e ∷ more) = v % 256 ∷ v / 256 % 256 ∷ v / 65536 % 256 ∷ v / 16777216 % 256 ∷ written i values more

length-written : (i : ℕ) (values bytes : List ℕ) → length (written i values bytes) ≡ length bytes
unfolding written
length-written zero values bytes = refl
length-written (suc i) [] bytes = refl
length-written (suc i) (v ∷ values) [] = refl
length-written (suc i) (v ∷ values) (a ∷ []) = refl
length-written (suc i) (v ∷ values) (a ∷ b ∷ []) = refl
length-written (suc i) (v ∷ values) (a ∷ b ∷ c ∷ []) = refl
length-written (suc i) (v ∷ values) (a ∷ b ∷ c ∷ e ∷ more) = rw (length-written i values more)

written_more : (i : ℕ) (values bytes : List ℕ) → i < length values → length bytes ≡ 4 * length values → put_word (written i values bytes) i (get_or values i 0) ≡ written (suc i) values bytes
unfolding written
written_more i [] bytes l area = absurd (nothing_below_zero l)
written_more i (v ∷ values) [] l area = absurd (omega arith)
written_more i (v ∷ values) (a ∷ []) l area = absurd (omega arith)
written_more i (v ∷ values) (a ∷ b ∷ []) l area = absurd (omega arith)
written_more i (v ∷ values) (a ∷ b ∷ c ∷ []) l area = absurd (omega arith)
written_more zero (v ∷ values) (a ∷ b ∷ c ∷ e ∷ more) l area = refl
written_more (suc i) (v ∷ values) (a ∷ b ∷ c ∷ e ∷ more) l area =
    put_behind (v % 256) (v / 256 % 256) (v / 65536 % 256) (v / 16777216 % 256) (written i values more) i (get_or values i 0)
    ∙ rw (written_more i values more (omega arith) (omega arith))

written_whole : (values bytes : List ℕ) → length bytes ≡ 4 * length values → written (length values) values bytes ≡ bytes_of values
unfolding written bytes_of
written_whole [] [] area = refl
written_whole [] (a ∷ more) area = absurd (omega arith)
written_whole (v ∷ values) [] area = absurd (omega arith)
written_whole (v ∷ values) (a ∷ []) area = absurd (omega arith)
written_whole (v ∷ values) (a ∷ b ∷ []) area = absurd (omega arith)
written_whole (v ∷ values) (a ∷ b ∷ c ∷ []) area = absurd (omega arith)
written_whole (v ∷ values) (a ∷ b ∷ c ∷ e ∷ more) area = rw (written_whole values more (omega arith))

-- the registers before i have their reset values
pub record ResetSo (d : Table) (old : List ℕ) (i : ℕ) (now : List ℕ) : Type 0 where
  pub is : now ≡ written i (reset_areas d).registers old

pub reset_begins : (d : Table) (old : List ℕ) → ResetSo d old 0 old
unfolding written
reset_begins d old = record { is = refl }

reset_at : (d : Table) (r : ℕ) → get_or (reset_areas d).registers r 0 ≡ (register_at d r).reset
unfolding reset_areas
reset_at d r = get_or-map (λ (y : Register). y.reset) d.registers r no_register

module _ {image old now : List ℕ} {x : Design} {i : ℕ} (d : Describes image x) (so : ResetSo (design_of image) old i now) where
  pub reset_long : length now ≡ length old
  reset_long = ap length so.is ∙ length-written i (reset_areas (design_of image)).registers old

  pub reset_inside : length old ≡ 4 * x.registers → i < x.registers → 4 * i + 4 ≤ length now
  reset_inside e l = let same = reset_long in omega arith

  pub reset_more : {v : ℕ} {after : List ℕ} → length old ≡ 4 * x.registers → i < x.registers → v ≡ (register_in image x.registers_at i).reset → after ≡ put_word now i v → ResetSo (design_of image) old (i + 1) after
  reset_more {v} e l h a =
      let count = registers_count d ∙ sym (reset_length (design_of image)) in
      let value : v ≡ get_or (reset_areas (design_of image)).registers i 0 = h ∙ ap (λ (y : Register). y.reset) (register_in_lem d l) ∙ sym (reset_at (design_of image) i) in
      record { is = a ∙ rw (so.is, value, add-one i) (written_more i (reset_areas (design_of image)).registers old (omega arith) (omega arith)) }

  pub reset_whole : length old ≡ 4 * x.registers → i ≤ x.registers → x.registers ≤ i → now ≡ bytes_of (reset_areas (design_of image)).registers
  reset_whole e l m =
      let count = registers_count d ∙ sym (reset_length (design_of image)) in
      let end : i ≡ length (reset_areas (design_of image)).registers = omega arith in
      so.is ∙ ap (λ (n : ℕ). written n (reset_areas (design_of image)).registers old) end ∙ written_whole (reset_areas (design_of image)).registers old (omega arith)
