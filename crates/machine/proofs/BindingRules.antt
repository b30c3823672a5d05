-- Bindings as the code has them. They stand behind the targets, so a store behind the targets is a store in them. And the states along the current targets: of two
-- such states the target of the lower is at most the higher, so a pass upwards meets the next of them at the target of the last.
use Prim.Native.Nat.{ℕ, zero, suc, ◌+◌, ◌*◌, ◌/◌, ◌%◌, ◌≤◌, ◌<◌}
use mathlib.Core.Path.{◌≡◌, refl, sym, ◌∙◌, ap}
use mathlib.Core.Logic.{◌⊎◌, inl, inr, ◌≢◌}
use mathlib.Core.Bool.{Bool, true, false, ◌&&◌, ◌||◌, not, cond}
use mathlib.Core.List.{List, ◌++◌}
use native.Mathlib.Omega.{arith}
use native.Mathlib.Numerals.{add-one}
use native.Mathlib.Decide.{dec_lt, ℕ_discrete}
use lib.Dec.{ltb, eqb}
use lib.ListN.{length, get_or, set, take, drop, length-set}
use lib.Seq.{length-take-le, length_front, take_at, drop_at, take-set-le, drop-set-add, get_or-take, get_or-drop}
use borrow.Author.Tests.{eq-eqb, ne_eqb, eqb-true, lt-ltb, le-ltb}
use mir.Syntax.{w8}
use mir.Val.{Fits}
use Rattle.model.specs.Indices.{tabulate_from}
use Rattle.model.specs.Image.{Design as Table, State, Register, Labels, design_of, register_at, state_at}
use Rattle.model.specs.Lattice.{flows_to, register_label}
use Rattle.model.specs.States.{parent, is_child, has_child}
use Rattle.model.specs.Parameters.{all_of, own_parameters, lower_bound, upper_bound, within_bounds}
use Rattle.model.specs.Bindings.{bound_by, on_path, byte_sound, bound_sound, binding_sound}
use Rattle.model.specs.Rules.{PairKeeps, PairUnused, ParametersKeep}
use Rattle.model.specs.Machine.{target_sound, gone_to}
use Rattle.model.specs.Calls.{targets_in, bindings_in}
use Rattle.model.proofs.Laws.Booleans.{decide, and_second, or_cases, true_or_false, cond_true, cond_false}
use Rattle.model.proofs.Laws.Gotos.{length-gone}
use Rattle.model.proofs.Laws.Passes.{Passed, passed_more}
use Rattle.model.proofs.Laws.States.{child_of}
use Rattle.model.proofs.Laws.Paths.{path_root, path_child, path_above}
use Rattle.model.proofs.Exact.Records.{register_iff}
use Rattle.model.proofs.Exact.Parameters.{parameters_iff}
use Rattle.design.specs.declared.Design.{Design}
use Rattle.design.specs.Records.{register_in, state_in}
use Rattle.design.specs.Describes.{Describes}
use Rattle.design.specs.Kept.{StatesKept, ParametersKept, RecordsKept}
use Rattle.design.proofs.Laws.{labels_count, registers_count, registers_most, states_count, register_in_lem, state_in_lem}
use Rattle.design.proofs.ResetRules.{parent_lower}
use Rattle.machine.specs.Bindings.{ArgumentsFit, Bound, Pointed, TargetsSound, may_bind}

-- ---- a goto
module _ (n t a b : ℕ) (area : List ℕ) where
  behind : n + 2 * t + 1 ≡ n + (2 * t + 1)
  behind = omega arith

  front_one : take n (set area (n + 2 * t) a) ≡ take n area
  front_one = take-set-le n area (n + 2 * t) a (omega arith)

  front_two : take n (set (set area (n + 2 * t) a) (n + 2 * t + 1) b) ≡ take n area
  front_two = take-set-le n (set area (n + 2 * t) a) (n + 2 * t + 1) b (omega arith) ∙ front_one

  back_one : drop n (set area (n + 2 * t) a) ≡ set (drop n area) (2 * t) a
  back_one = drop-set-add n area (2 * t) a

  back_two : drop n (set (set area (n + 2 * t) a) (n + 2 * t + 1) b) ≡ set (set (drop n area) (2 * t) a) (2 * t + 1) b
  back_two = rw behind (drop-set-add n (set area (n + 2 * t) a) (2 * t + 1) b ∙ ap (λ (bytes : List ℕ). set bytes (2 * t + 1) b) back_one)

  length_two : length (set (set area (n + 2 * t) a) (n + 2 * t + 1) b) ≡ length area
  length_two = length-set (set area (n + 2 * t) a) (n + 2 * t + 1) b ∙ length-set area (n + 2 * t) a

module _ {image : List ℕ} {x : Design} (d : Describes image x) {t m : ℕ} (l : t < x.states) (e : m ≡ (state_in image x.states_at t).parameters) where
  own_is : m ≡ (state_at (design_of image) t).parameters
  own_is = e ∙ ap (λ (y : State). y.parameters) (state_in_lem d l)

  pub binds_none : (a b : ℕ) (area : List ℕ) → m ≡ 0 → Bound (design_of image) t a b area area
  unfolding bound_by
  binds_none a b area z =
      let own = own_is in
      let none = le-ltb 0 (state_at (design_of image) t).parameters (omega arith) in
      let less = le-ltb 1 (state_at (design_of image) t).parameters (omega arith) in
      record { targets = refl; bindings = rw (none, less); long = refl }

  pub binds_one : (a b : ℕ) (area : List ℕ) → m ≡ 1 → Bound (design_of image) t a b area (set area (x.states + 2 * t) a)
  unfolding bound_by
  binds_one a b area z =
      let own = own_is in
      let some = lt-ltb 0 (state_at (design_of image) t).parameters (omega arith) in
      let less = le-ltb 1 (state_at (design_of image) t).parameters (omega arith) in
      record {
        targets = rw (states_count d) (front_one (length (design_of image).states) t a b area);
        bindings = rw (states_count d, some, less) (back_one (length (design_of image).states) t a b area);
        long = length-set area (x.states + 2 * t) a;
      }

  pub binds_two : (a b : ℕ) (area : List ℕ) → (m ≡ 0 → ⊥) → (m ≡ 1 → ⊥) → Bound (design_of image) t a b area (set (set area (x.states + 2 * t) a) (x.states + 2 * t + 1) b)
  unfolding bound_by
  binds_two a b area z o =
      let own = own_is in
      let some = lt-ltb 0 (state_at (design_of image) t).parameters (omega (arith, z)) in
      let more = lt-ltb 1 (state_at (design_of image) t).parameters (omega (arith, z, o)) in
      record {
        targets = rw (states_count d) (front_two (length (design_of image).states) t a b area);
        bindings = rw (states_count d, some, more) (back_two (length (design_of image).states) t a b area);
        long = length_two x.states t a b area;
      }

pub first_fits : {image : List ℕ} {x : Design} {t m a b : ℕ} → ArgumentsFit image x t a b → Describes image x → (m ≡ 0 → ⊥) → m ≡ (state_in image x.states_at t).parameters → t < x.states → Fits w8 a
first_fits fit d z e l =
    let own = own_is d l e in
    let below = fit.first (omega (arith, z)) in
    let few = registers_most d in
    record { fits = omega arith }

pub second_fits : {image : List ℕ} {x : Design} {t m a b : ℕ} → ArgumentsFit image x t a b → Describes image x → (m ≡ 1 → ⊥) → (m ≡ 0 → ⊥) → m ≡ (state_in image x.states_at t).parameters → t < x.states → Fits w8 b
second_fits fit d o z e l =
    let own = own_is d l e in
    let below = fit.second (omega (arith, z, o)) in
    let few = registers_most d in
    record { fits = omega arith }

pub second_inside : (area : List ℕ) (n t i a : ℕ) → length area ≡ 3 * n → t < n → n + 2 * t + 1 < length (set area i a)
second_inside area n t i a long l = let same = length-set area i a in omega arith

-- the targets of a goto, written over the front
pub pointed : {image : List ℕ} {x : Design} (d : Describes image x) (t : ℕ) (old : List ℕ) {front : List ℕ} → length old ≡ 3 * x.states → front ≡ gone_to (design_of image) t (take x.states old) → Pointed (design_of image) t old (front ++ drop x.states old)
pointed {image} {x} d t old {front} long e =
    let count = states_count d in
    let most : x.states ≤ length old = omega arith in
    let same : length front ≡ x.states = ap length e ∙ length-gone (design_of image) t (take x.states old) ∙ length-take-le x.states old most in
    record {
      targets = rw (← count) (take_at front (drop x.states old) x.states same ∙ e);
      bindings = rw (← count) (drop_at front (drop x.states old) x.states same);
      long = length_front old front x.states (same ∙ sym (length-take-le x.states old most));
    }

-- ---- labels
module _ {image : List ℕ} {x : Design} (known : RecordsKept image x) where
  label_is : {r c : ℕ} → r < x.registers → c ≡ (register_in image x.registers_at r).label → c ≡ register_label (design_of image) r
  label_is l e = e ∙ ap (λ (y : Register). y.label) (register_in_lem known.describes l)

  pub label_below : {r c : ℕ} → r < x.registers → c ≡ (register_in image x.registers_at r).label → c < x.labels
  label_below {r} l e =
      let registers = registers_count known.describes in
      let labels = labels_count known.describes in
      let is = label_is l e in
      let below = ((register_iff (design_of image) r).0 (known.registers.kept r (omega arith))).label in
      omega arith

  -- the bounds of a parameter are labels, also where it is not used
  module _ (parameters : ParametersKept (design_of image)) where
    pair_below : (s : ℕ) → s < length (design_of image).states → (j lower upper : ℕ) → Dec (j < (state_at (design_of image) s).parameters) → (j < (state_at (design_of image) s).parameters → PairKeeps (design_of image) lower upper) → ((state_at (design_of image) s).parameters ≤ j → PairUnused (design_of image) lower upper) → (lower < x.labels) × (upper < x.labels)
    pair_below s l j lower upper (yes b) used unused =
        let labels = labels_count known.describes in
        let pair = used b in
        let low = pair.lower_label in
        let up = pair.upper_label in
        (omega arith, omega arith)
    pair_below s l j lower upper (no b) used unused =
        let pair = unused (omega (arith, b)) in
        let low = pair.lower_zero in
        let up = pair.upper_zero in
        let some = known.describes.labels in
        let least = (known.describes.directory.sections Labels).at_least in
        (omega arith, omega arith)

    bounds_below : {v : ℕ} → v < 2 * x.states → (lower_bound (design_of image) v < x.labels) × (upper_bound (design_of image) v < x.labels)
    bounds_below {v} l = go (decide (eqb (v % 2) 0))
      where
        state : v / 2 < length (design_of image).states
        state = let count = states_count known.describes in omega arith

        keeps : ParametersKeep (design_of image) (v / 2)
        keeps = (parameters_iff (design_of image) (v / 2)).0 (parameters.kept (v / 2) state)

        go : (eqb (v % 2) 0 ≡ true) ⊎ (eqb (v % 2) 0 ≡ false) → (lower_bound (design_of image) v < x.labels) × (upper_bound (design_of image) v < x.labels)
        go (inl e) = rw e (pair_below (v / 2) state 0 (state_at (design_of image) (v / 2)).first_lower (state_at (design_of image) (v / 2)).first_upper (dec_lt 0 (state_at (design_of image) (v / 2)).parameters) keeps.first_pair keeps.first_unused)
        go (inr e) = rw e (pair_below (v / 2) state 1 (state_at (design_of image) (v / 2)).second_lower (state_at (design_of image) (v / 2)).second_upper (dec_lt 1 (state_at (design_of image) (v / 2)).parameters) keeps.second_pair keeps.second_unused)

    pub lower_below : {v b : ℕ} → v < 2 * x.states → b ≡ lower_bound (design_of image) v → b < x.labels
    lower_below l e = let below = (bounds_below l).0 in rw e below

    pub upper_below : {v b : ℕ} → v < 2 * x.states → b ≡ upper_bound (design_of image) v → b < x.labels
    upper_below l e = let below = (bounds_below l).1 in rw e below

  pub within_rule :
      (v : ℕ) {r c lower upper : ℕ} {p q : Bool}
      → r < x.registers
      → c ≡ (register_in image x.registers_at r).label
      → lower ≡ lower_bound (design_of image) v
      → upper ≡ upper_bound (design_of image) v
      → p ≡ flows_to (design_of image).rows lower c
      → q ≡ flows_to (design_of image).rows c upper
      → (p && q) ≡ within_bounds (design_of image) v (register_label (design_of image) r)
  unfolding within_bounds
  within_rule v l e f g h k = rw (h, k, f, g, label_is l e)

  -- ---- what may be bound
  pub may_rule : (v : ℕ) {r k : ℕ} {w : Bool} → r < x.registers → k ≡ (register_in image x.registers_at r).kind → w ≡ within_bounds (design_of image) v (register_label (design_of image) r) → (not (eqb k 1) && w) ≡ may_bind (design_of image) v r
  unfolding may_bind
  may_rule v {r} {k} l e h =
      let count = registers_count known.describes in
      let kind : k ≡ (register_at (design_of image) r).kind = e ∙ ap (λ (y : Register). y.kind) (register_in_lem known.describes l) in
      rw (lt-ltb r (length (design_of image).registers) (omega arith), kind, h)

  pub may_none : (v : ℕ) {r : ℕ} → x.registers ≤ r → false ≡ may_bind (design_of image) v r
  unfolding may_bind
  may_none v {r} l =
      let count = registers_count known.describes in
      rw (le-ltb r (length (design_of image).registers) (omega arith))

-- ---- own parameters
and_true : (b : Bool) → b ≡ (b && true)
and_true true = refl
and_true false = refl

bound_at : (d : Table) (bindings : List ℕ) (v : ℕ) → bound_sound d bindings v ≡ may_bind d v (get_or bindings v 0)
unfolding bound_sound may_bind
bound_at d bindings v = refl

module _ {image : List ℕ} {x : Design} (d : Describes image x) (area : List ℕ) where
  binding_at : {r : ℕ} (v : ℕ) → r ≡ get_or area (x.states + v) 0 → r ≡ get_or (bindings_in (design_of image) area) v 0
  binding_at v e = rw (← states_count d) (e ∙ sym (get_or-drop x.states area v 0))

  bound_is : {r : ℕ} {f : Bool} (v : ℕ) → r ≡ get_or area (x.states + v) 0 → f ≡ may_bind (design_of image) v r → f ≡ bound_sound (design_of image) (bindings_in (design_of image) area) v
  bound_is v e h = rw (bound_at (design_of image) (bindings_in (design_of image) area) v, ← (binding_at v e)) h

  abbrev own_sound : ℕ → Bool
  own_sound s = all_of (bound_sound (design_of image) (bindings_in (design_of image) area)) (own_parameters (design_of image) s)

  module _ {s m : ℕ} (l : s < x.states) (e : m ≡ (state_in image x.states_at s).parameters) where
    pub own_none : m ≡ 0 → true ≡ own_sound s
    unfolding own_parameters tabulate_from all_of
    own_none z = rw (sym (own_is d l e) ∙ z)

    pub own_one : {r : ℕ} {f : Bool} → m ≡ 1 → r ≡ get_or area (x.states + 2 * s) 0 → f ≡ may_bind (design_of image) (2 * s) r → f ≡ own_sound s
    unfolding own_parameters tabulate_from all_of
    own_one {r} {f} z h k = rw (sym (own_is d l e) ∙ z) (and_true f ∙ ap (λ (b : Bool). b && true) (bound_is (2 * s) h k))

    pub own_two :
        {r q : ℕ} {f g : Bool}
        → ParametersKept (design_of image)
        → (m ≡ 0 → ⊥)
        → (m ≡ 1 → ⊥)
        → r ≡ get_or area (x.states + 2 * s) 0
        → f ≡ may_bind (design_of image) (2 * s) r
        → q ≡ get_or area (x.states + 2 * s + 1) 0
        → g ≡ may_bind (design_of image) (2 * s + 1) q
        → (f && g) ≡ own_sound s
    unfolding own_parameters tabulate_from all_of
    own_two {r} {q} {f} {g} parameters z o h k i j =
        let count = states_count d in
        let own = own_is d l e in
        let most = ((parameters_iff (design_of image) s).0 (parameters.kept s (omega arith))).count in
        let two : (state_at (design_of image) s).parameters ≡ 2 = omega (arith, z, o) in
        let place : x.states + 2 * s + 1 ≡ x.states + (2 * s + 1) = omega arith in
        let first = bound_is (2 * s) h k in
        let second = bound_is (2 * s + 1) (rw place at i) j in
        rw (two, ← (add-one (2 * s)), ← first, ← second) (ap (λ (b : Bool). f && b) (and_true g))

  -- ---- a state
  byte_is : {r : ℕ} {f : Bool} (v : ℕ) → r ≡ get_or area (x.states + v) 0 → f ≡ (eqb r 0 || ltb r x.registers) → f ≡ byte_sound (design_of image) (bindings_in (design_of image) area) v
  unfolding byte_sound
  byte_is v e h = rw (← (binding_at v e), ← (registers_count d)) h

  second_byte : (s : ℕ) {q : ℕ} {g : Bool} → q ≡ get_or area (x.states + 2 * s + 1) 0 → g ≡ (eqb q 0 || ltb q x.registers) → g ≡ byte_sound (design_of image) (bindings_in (design_of image) area) (2 * s + 1)
  second_byte s i j = let place : x.states + 2 * s + 1 ≡ x.states + (2 * s + 1) = omega arith in byte_is (2 * s + 1) (rw place at i) j

  module _ (s next : ℕ) {r q : ℕ} {f g : Bool}
      (path : eqb s next ≡ on_path (design_of image) (targets_in (design_of image) area) s)
      (h : r ≡ get_or area (x.states + 2 * s) 0)
      (k : f ≡ (eqb r 0 || ltb r x.registers))
      (i : q ≡ get_or area (x.states + 2 * s + 1) 0)
      (j : g ≡ (eqb q 0 || ltb q x.registers)) where
    pub kept_on : {o : Bool} → s ≡ next → o ≡ own_sound s → (f && g && o) ≡ binding_sound (design_of image) (targets_in (design_of image) area) (bindings_in (design_of image) area) s
    unfolding binding_sound
    kept_on e own = rw (sym path ∙ eq-eqb s next e, ← (byte_is (2 * s) h k), ← (second_byte s i j), own)

    pub kept_off : (s ≡ next → ⊥) → (f && g) ≡ binding_sound (design_of image) (targets_in (design_of image) area) (bindings_in (design_of image) area) s
    unfolding binding_sound
    kept_off e = rw (sym path ∙ ne_eqb s next e, ← (byte_is (2 * s) h k), ← (second_byte s i j)) (and_true (f && g))

-- ---- the states along the targets
-- the last state along the targets below s, whose target is the next
pub record LastBelow (d : Table) (targets : List ℕ) (s next : ℕ) : Type 0 where
  pub last : ℕ
  pub on : on_path d targets last ≡ true
  pub below : last < s
  pub most : (q : ℕ) → q < s → on_path d targets q ≡ true → q ≤ last
  pub target : next ≡ get_or targets last 0

module _ (d : Table) (kept : StatesKept d) (targets : List ℕ) where
  -- of two states along the targets the lower has a target that is not above the higher
  ordered : (n p q : ℕ) → p < n → p < length d.states → q < p → on_path d targets q ≡ true → on_path d targets p ≡ true → get_or targets q 0 ≤ p
  ordered zero p q l k b onq onp = absurd (omega arith)
  ordered (suc n) p q l k b onq onp =
      let lower = parent_lower d kept p k (λ e. omega arith) in
      let above = path_above d targets p (λ e. omega arith) lower onp in
      go lower above (ordered n) (ℕ_discrete q (parent d p)) (dec_lt q (parent d p))
    where
      go : parent d p < p
          → (on_path d targets (parent d p) ≡ true) × (get_or targets (parent d p) 0 ≡ p)
          → ((p q : ℕ) → p < n → p < length d.states → q < p → on_path d targets q ≡ true → on_path d targets p ≡ true → get_or targets q 0 ≤ p)
          → Dec (q ≡ parent d p) → Dec (q < parent d p) → get_or targets q 0 ≤ p
      go lower above earlier (yes e) b' = let is : get_or targets q 0 ≡ p = rw e above.1 in omega arith
      go lower above earlier (no e) (yes b') = let at = earlier (parent d p) q (omega arith) (omega arith) b' onq above.0 in omega arith
      go lower above earlier (no e) (no b') =
          let at = earlier q (parent d p) (omega arith) (omega arith) (omega (arith, e, b')) above.0 onq in
          let is = above.1 in
          absurd (omega arith)

  module _ (sound : (s : ℕ) → s < length d.states → target_sound d targets s ≡ true) where
    -- the next is on the path
    next_on : (p s : ℕ) → p < s → s < length d.states → on_path d targets p ≡ true → s ≡ get_or targets p 0 → on_path d targets s ≡ true
    unfolding target_sound
    next_on p s l k on e = go (or_cases (is_child d p (get_or targets p 0)) (not (has_child d p) && eqb (get_or targets p 0) p) (sound p (omega arith)))
      where
        go : (is_child d p (get_or targets p 0) ≡ true) ⊎ ((not (has_child d p) && eqb (get_or targets p 0) p) ≡ true) → on_path d targets s ≡ true
        go (inl h) = path_child d targets p s (child_of d p s (rw e h)) l on (sym e)
        go (inr h) = let same = eqb-true (get_or targets p 0) p (and_second (not (has_child d p)) (eqb (get_or targets p 0) p) h) in absurd (omega arith)

    module _ {s next : ℕ} (k : s < length d.states) (so : LastBelow d targets s next) where
      only_next : on_path d targets s ≡ true → s ≡ next
      only_next on =
          let b = so.below in
          let no_root : s ≢ 0 = λ e. omega arith in
          let lower = parent_lower d kept s k no_root in
          let above = path_above d targets s no_root lower on in
          let at_most = so.most (parent d s) lower above.0 in
          go above.0 above.1 at_most (ℕ_discrete (parent d s) so.last)
        where
          go : on_path d targets (parent d s) ≡ true → get_or targets (parent d s) 0 ≡ s → parent d s ≤ so.last → Dec (parent d s ≡ so.last) → s ≡ next
          go on' points at_most (yes e) = sym points ∙ ap (λ (p : ℕ). get_or targets p 0) e ∙ sym so.target
          go on' points at_most (no e) =
              let b = so.below in
              let at = ordered (suc so.last) so.last (parent d s) (omega arith) (omega arith) (omega (arith, e)) on' so.on in
              absurd (omega arith)

      last_here : eqb s next ≡ on_path d targets s
      last_here = go (ℕ_discrete s next) (decide (on_path d targets s))
        where
          go : Dec (s ≡ next) → (on_path d targets s ≡ true) ⊎ (on_path d targets s ≡ false) → eqb s next ≡ on_path d targets s
          go (yes e) b = eq-eqb s next e ∙ sym (next_on so.last s so.below k so.on (e ∙ so.target))
          go (no e) (inl on) = absurd (e (only_next on))
          go (no e) (inr off) = ne_eqb s next e ∙ sym off

-- ---- a pass over the states
pub record Judged (d : Table) (area : List ℕ) (s next : ℕ) : Type 0 where
  pub passed : Passed (binding_sound d (targets_in d area) (bindings_in d area)) s
  pub path : ((s ≡ 0) × (next ≡ 0)) ⊎ LastBelow d (targets_in d area) s next

module _ {image : List ℕ} {x : Design} {area : List ℕ} {s next : ℕ} (so : Judged (design_of image) area s next) (known : RecordsKept image x) (sound : TargetsSound (design_of image) area) (l : s < x.states) where
  state_here : s < length (design_of image).states
  state_here = let count = states_count known.describes in omega arith

  pub judged_here : eqb s next ≡ on_path (design_of image) (targets_in (design_of image) area) s
  judged_here = go so.path
    where
      go : ((s ≡ 0) × (next ≡ 0)) ⊎ LastBelow (design_of image) (targets_in (design_of image) area) s next → eqb s next ≡ on_path (design_of image) (targets_in (design_of image) area) s
      go (inl (e, f)) = rw (e, f) (sym (path_root (design_of image) (targets_in (design_of image) area)))
      go (inr last) = last_here (design_of image) known.states (targets_in (design_of image) area) sound.sound state_here last

  pub judged_more : {b : Bool} {r : ℕ} → b ≡ binding_sound (design_of image) (targets_in (design_of image) area) (bindings_in (design_of image) area) s → not b ≡ false → r ≡ cond (eqb s next) (get_or area s 0) next → Judged (design_of image) area (s + 1) r
  judged_more {b} {r} e h f = record { passed = passed_more so.passed e h; path = inr (go (ℕ_discrete s next) so.path) }
    where
      targets : List ℕ
      targets = targets_in (design_of image) area

      here : eqb s next ≡ on_path (design_of image) (targets_in (design_of image) area) s
      here = judged_here

      go : Dec (s ≡ next) → ((s ≡ 0) × (next ≡ 0)) ⊎ LastBelow (design_of image) (targets_in (design_of image) area) s next → LastBelow (design_of image) (targets_in (design_of image) area) (s + 1) r
      go (yes same) path =
          record {
            last = s;
            on = sym here ∙ eq-eqb s next same;
            below = omega arith;
            most = λ q b on. omega arith;
            target = f ∙ cond_true (eqb s next) (get_or area s 0) next (eq-eqb s next same) ∙ sym (get_or-take (length (design_of image).states) area s 0 state_here);
          }
      go (no other) (inl (z, none)) = absurd (other (z ∙ sym none))
      go (no other) (inr last) =
          let b = last.below in
          record {
            last = last.last;
            on = last.on;
            below = omega arith;
            most = λ q b' on. at_most last q b' on (ℕ_discrete q s);
            target = f ∙ cond_false (eqb s next) (get_or area s 0) next (ne_eqb s next other) ∙ last.target;
          }
        where
          at_most : (last : LastBelow (design_of image) (targets_in (design_of image) area) s next) (q : ℕ) → q < s + 1 → on_path (design_of image) (targets_in (design_of image) area) q ≡ true → Dec (q ≡ s) → q ≤ last.last
          at_most last q b' on (yes e) = absurd (true_or_false (on_path (design_of image) (targets_in (design_of image) area) s) (rw e at on) (sym here ∙ ne_eqb s next other))
          at_most last q b' on (no e) = last.most q (omega (arith, e)) on

pub ruleset own_laws = (own_none, own_one, own_two)
