-- What is in scope of a state is what is in scope of its parent, then its own parameters. So its entry in the table of scopes comes from its parent's.
use Prim.Native.Nat.{ℕ, zero, suc, ◌+◌, ◌*◌, ◌-◌, ◌/◌, ◌%◌, ◌≤◌, ◌<◌}
use mathlib.Core.Path.{◌≡◌, refl, sym, ◌∙◌, ap}
use mathlib.Core.Bool.{Bool, false, not}
use mathlib.Core.List.{List, [], ◌++◌}
use native.Mathlib.Omega.{arith}
use native.Mathlib.Numerals.{add-one}
use native.Mathlib.Decide.{ℕ_discrete, dec_lt}
use lib.Dec.{eqb}
use lib.ListN.{length, get_or, set, length-set, length-append, get_or-append, get_or-eq_default, replicate, length-replicate, get_or-replicate}
use lib.Seq.{get_or-set_same, get_or-set_other, set-get_or}
use borrow.Author.Tests.{eq-eqb, ne_eqb}
use Rattle.model.specs.Indices.{some_below}
use Rattle.model.specs.Image.{Design as Table, State, design_of, state_at}
use Rattle.model.specs.States.{parent}
use Rattle.model.specs.Parameters.{own_parameters, scope_of, has_parameters, lower_bound, upper_bound}
use Rattle.model.proofs.Laws.Booleans.{cond_true, cond_false}
use Rattle.model.proofs.Laws.Indices.{extend, nothing_below_zero}
use Rattle.model.proofs.Laws.Plain.{plain_iff, plain_scope}
use Rattle.model.proofs.Laws.Scopes.{own_length, own_at, scope_root, scope_step, get_or-append_second}
use Rattle.design.specs.declared.Design.{Design}
use Rattle.design.specs.Records.{state_in, state_end}
use Rattle.design.specs.Describes.{Describes}
use Rattle.design.specs.Kept.{StatesKept}
use Rattle.design.specs.Scopes.{has_own, scope_length, inherited_scope, with_scope, with_scopes, ScopesBelow, Scopes, NoParameters, ScopesShort}
use Rattle.design.proofs.Laws.{states_count, state_inside, state_in_lem}
use Rattle.design.proofs.ResetRules.{states_few, parent_is, parent_inside, parent_lower}

-- ---- scopes
module _ (d : Table) where
  pub inherited_root : (s : ℕ) → s ≡ 0 → inherited_scope d s ≡ []
  unfolding inherited_scope
  inherited_root s z = cond_true (eqb s 0) [] (scope_of d (parent d s)) (eq-eqb s 0 z)

  pub inherited_child : (s : ℕ) → (s ≡ 0 → ⊥) → inherited_scope d s ≡ scope_of d (parent d s)
  unfolding inherited_scope
  inherited_child s n = cond_false (eqb s 0) [] (scope_of d (parent d s)) (ne_eqb s 0 n)

  module _ (kept : StatesKept d) (s : ℕ) (l : s < length d.states) where
    pub scope_parts : scope_of d s ≡ inherited_scope d s ++ own_parameters d s
    scope_parts = go (ℕ_discrete s 0)
      where
        go : Dec (s ≡ 0) → scope_of d s ≡ inherited_scope d s ++ own_parameters d s
        go (yes z) = rw (inherited_root s z, z, scope_root d)
        go (no z) = rw (inherited_child s z) (scope_step d s (parent_lower d kept s l z))

    pub scope_count : length (scope_of d s) ≡ length (inherited_scope d s) + (state_at d s).parameters
    scope_count = ap length scope_parts ∙ length-append (inherited_scope d s) (own_parameters d s) ∙ ap (λ (n : ℕ). length (inherited_scope d s) + n) (own_length d s)

    -- those from above come first
    pub scope_above : (i : ℕ) → i < length (inherited_scope d s) → get_or (scope_of d s) i 0 ≡ get_or (inherited_scope d s) i 0
    scope_above i h = ap (λ (xs : List ℕ). get_or xs i 0) scope_parts ∙ get_or-append (inherited_scope d s) (own_parameters d s) 0 i h

    -- then its own
    pub scope_own : (i : ℕ) → length (inherited_scope d s) ≤ i → get_or (scope_of d s) i 0 ≡ get_or (own_parameters d s) (i - length (inherited_scope d s)) 0
    scope_own i h = ap (λ (xs : List ℕ). get_or xs i 0) scope_parts ∙ get_or-append_second (inherited_scope d s) (own_parameters d s) i 0 h

-- ---- an entry of the table
module _ {d : Table} {table : List ℕ} {n : ℕ} (so : ScopesBelow d table n) where
  pub entry_first_two : (s i : ℕ) → s < n → i < 2 → get_or table (scope_length * s + 1 + i) 0 ≡ get_or (scope_of d s) i 0
  entry_first_two s zero l h = let place : 3 * s + 1 + 0 ≡ 3 * s + 1 = omega arith in rw place (so.first s l)
  entry_first_two s (suc zero) l h = let place : 3 * s + 1 + 1 ≡ 3 * s + 2 = omega arith in rw place (so.second s l)
  entry_first_two s (suc (suc i)) l h = absurd (omega arith)

-- a table with another entry at s
abbrev put : List ℕ → ℕ → ℕ → ℕ → ℕ → List ℕ
put table s count first second = set (set (set table (3 * s) count) (3 * s + 1) first) (3 * s + 2) second

module _ (table : List ℕ) (s count first second : ℕ) where
  length-put : length (put table s count first second) ≡ length table
  length-put = length-set (set (set table (3 * s) count) (3 * s + 1) first) (3 * s + 2) second ∙ length-set (set table (3 * s) count) (3 * s + 1) first ∙ length-set table (3 * s) count

  put_below : (k : ℕ) → k < 3 * s → get_or (put table s count first second) k 0 ≡ get_or table k 0
  put_below k l =
      get_or-set_other (set (set table (3 * s) count) (3 * s + 1) first) (3 * s + 2) k second 0 (λ z. omega arith)
      ∙ get_or-set_other (set table (3 * s) count) (3 * s + 1) k first 0 (λ z. omega arith)
      ∙ get_or-set_other table (3 * s) k count 0 (λ z. omega arith)

  module _ (l : 3 * s + 2 < length table) where
    put_count : get_or (put table s count first second) (3 * s) 0 ≡ count
    put_count =
        get_or-set_other (set (set table (3 * s) count) (3 * s + 1) first) (3 * s + 2) (3 * s) second 0 (λ z. omega arith)
        ∙ get_or-set_other (set table (3 * s) count) (3 * s + 1) (3 * s) first 0 (λ z. omega arith)
        ∙ get_or-set_same table (3 * s) count 0 (omega arith)

    put_first : get_or (put table s count first second) (3 * s + 1) 0 ≡ first
    put_first =
        let same = length-set table (3 * s) count in
        get_or-set_other (set (set table (3 * s) count) (3 * s + 1) first) (3 * s + 2) (3 * s + 1) second 0 (λ z. omega arith)
        ∙ get_or-set_same (set table (3 * s) count) (3 * s + 1) first 0 (omega arith)

    put_second : get_or (put table s count first second) (3 * s + 2) 0 ≡ second
    put_second =
        let same = length-set table (3 * s) count in
        let then = length-set (set table (3 * s) count) (3 * s + 1) first in
        get_or-set_same (set (set table (3 * s) count) (3 * s + 1) first) (3 * s + 2) second 0 (omega arith)

pub inside_first : (table : List ℕ) (s : ℕ) {n : ℕ} → s < n → 3 * n ≤ length table → 3 * s < length table
inside_first table s l h = omega arith

pub inside_second : (table : List ℕ) (s i a : ℕ) {n : ℕ} → s < n → 3 * n ≤ length table → 3 * s + 1 < length (set table i a)
inside_second table s i a l h = let same = length-set table i a in omega arith

pub inside_third : (table : List ℕ) (s i j a b : ℕ) {n : ℕ} → s < n → 3 * n ≤ length table → 3 * s + 2 < length (set (set table i a) j b)
inside_third table s i j a b l h = let same = length-set table i a in let then = length-set (set table i a) j b in omega arith

module _ {image : List ℕ} {x : Design} (d : Describes image x) where
  -- ---- bounds of a parameter
  pub half_inside_lem : {v : ℕ} → v < 2 * x.states → state_end x.states_at (v / 2) ≤ length image
  half_inside_lem {v} l = state_inside d (below l)
    where
      below : v < 2 * x.states → v / 2 < x.states
      below l = omega arith

  same_state : {v : ℕ} → v < 2 * x.states → state_in image x.states_at (v / 2) ≡ state_at (design_of image) (v / 2)
  same_state {v} l = state_in_lem d (below l)
    where
      below : v < 2 * x.states → v / 2 < x.states
      below l = omega arith

  module _ {v b : ℕ} (l : v < 2 * x.states) where
    pub lower_first : v % 2 ≡ 0 → b ≡ (state_in image x.states_at (v / 2)).first_lower → b ≡ lower_bound (design_of image) v
    lower_first z h = rw (eq-eqb (v % 2) 0 z) (h ∙ ap (λ (y : State). y.first_lower) (same_state l))

    pub lower_second : (v % 2 ≡ 0 → ⊥) → b ≡ (state_in image x.states_at (v / 2)).second_lower → b ≡ lower_bound (design_of image) v
    lower_second z h = rw (ne_eqb (v % 2) 0 z) (h ∙ ap (λ (y : State). y.second_lower) (same_state l))

    pub upper_first : v % 2 ≡ 0 → b ≡ (state_in image x.states_at (v / 2)).first_upper → b ≡ upper_bound (design_of image) v
    upper_first z h = rw (eq-eqb (v % 2) 0 z) (h ∙ ap (λ (y : State). y.first_upper) (same_state l))

    pub upper_second : (v % 2 ≡ 0 → ⊥) → b ≡ (state_in image x.states_at (v / 2)).second_upper → b ≡ upper_bound (design_of image) v
    upper_second z h = rw (ne_eqb (v % 2) 0 z) (h ∙ ap (λ (y : State). y.second_upper) (same_state l))

  -- ---- the entry of a state, from that of its parent
  pub none_above : {s : ℕ} → s ≡ 0 → 0 ≡ length (inherited_scope (design_of image) s)
  none_above {s} z = sym (ap length (inherited_root (design_of image) s z))

  module _ {table : List ℕ} {s : ℕ} (kept : StatesKept (design_of image)) (so : ScopesBelow (design_of image) table s) (l : s < x.states) where
    below : s < length (design_of image).states
    below = let count = states_count d in omega arith

    module _ {p : ℕ} (e : p ≡ (state_in image x.states_at s).parent) where
      pub parent_entry : 3 * p < length table
      parent_entry = let count = states_count d in let long = so.long in let inside = parent_inside d kept l e in omega arith

      pub parent_parameter : {i : ℕ} → i < 2 → 3 * p + 1 + i < length table
      parent_parameter h = let count = states_count d in let long = so.long in let inside = parent_inside d kept l e in omega arith

      lower_parent : (s ≡ 0 → ⊥) → p < s
      lower_parent z = let is = parent_is d l e in let lower = parent_lower (design_of image) kept s below z in omega arith

      from_parent : (s ≡ 0 → ⊥) → scope_of (design_of image) p ≡ inherited_scope (design_of image) s
      from_parent z = ap (scope_of (design_of image)) (parent_is d l e) ∙ sym (inherited_child (design_of image) s z)

      pub some_above : {n : ℕ} → (s ≡ 0 → ⊥) → n ≡ get_or table (3 * p) 0 → n ≡ length (inherited_scope (design_of image) s)
      some_above z h = h ∙ so.count p (lower_parent z) ∙ ap length (from_parent z)

      pub parameter_above : {n i v : ℕ} → n ≡ length (inherited_scope (design_of image) s) → i < n → i < 2 → v ≡ get_or table (3 * p + 1 + i) 0 → v ≡ get_or (scope_of (design_of image) s) i 0
      parameter_above {n} {i} {v} q a h g =
          g
          ∙ entry_first_two so p i (lower_parent not_root) h
          ∙ ap (λ (xs : List ℕ). get_or xs i 0) (from_parent not_root)
          ∙ sym (scope_above (design_of image) kept s below i (omega arith))
        where
          not_root : s ≡ 0 → ⊥
          not_root z = let none = none_above z in omega arith

    module _ {n m : ℕ} (q : n ≡ length (inherited_scope (design_of image) s)) (o : m ≡ (state_in image x.states_at s).parameters) where
      own_count : m ≡ (state_at (design_of image) s).parameters
      own_count = o ∙ ap (λ (y : State). y.parameters) (state_in_lem d l)

      pub count_is : n + m ≡ length (scope_of (design_of image) s)
      count_is = let own = own_count in let all = scope_count (design_of image) kept s below in omega arith

      pub parameter_own : {i : ℕ} → n ≤ i → i - n < m → 2 * s + (i - n) ≡ get_or (scope_of (design_of image) s) i 0
      parameter_own {i} a h =
          let own = own_count in
          sym (scope_own (design_of image) kept s below i (omega arith) ∙ rw (← q) (own_at (design_of image) s (i - n) (omega arith)))

      pub parameter_none : {i : ℕ} → n ≤ i → m ≤ i - n → 0 ≡ get_or (scope_of (design_of image) s) i 0
      parameter_none {i} a h =
          let own = own_count in
          let long = own_length (design_of image) s in
          sym (scope_own (design_of image) kept s below i (omega arith) ∙ get_or-eq_default (own_parameters (design_of image) s) 0 (omega arith))

      pub count_fits : length (scope_of (design_of image) s) ≤ 2 → n + m < 256
      count_fits short = let is = count_is in omega arith

    pub scopes_hold : 3 * x.states ≤ length table
    scopes_hold = let long = so.long in let states = states_count d in omega arith

    -- the three bytes that are written are the entry of s
    entry_put :
        {c f g : ℕ}
        → c ≡ length (scope_of (design_of image) s)
        → f ≡ get_or (scope_of (design_of image) s) 0 0
        → g ≡ get_or (scope_of (design_of image) s) 1 0
        → ScopesBelow (design_of image) (put table s c f g) (suc s)
    entry_put {c} {f} {g} count first second =
        let same = length-put table s c f g in
        let long = so.long in
        let states = states_count d in
        let inside : 3 * s + 2 < length table = omega arith in
        record {
          long = omega arith;
          count = λ k b. extend {P = λ j. get_or (put table s c f g) (3 * j) 0 ≡ length (scope_of (design_of image) j)} s (λ j h. put_below table s c f g (3 * j) (omega arith) ∙ so.count j h) (put_count table s c f g inside ∙ count) k b;
          first = λ k b. extend {P = λ j. get_or (put table s c f g) (3 * j + 1) 0 ≡ get_or (scope_of (design_of image) j) 0 0} s (λ j h. put_below table s c f g (3 * j + 1) (omega arith) ∙ so.first j h) (put_first table s c f g inside ∙ first) k b;
          second = λ k b. extend {P = λ j. get_or (put table s c f g) (3 * j + 2) 0 ≡ get_or (scope_of (design_of image) j) 1 0} s (λ j h. put_below table s c f g (3 * j + 2) (omega arith) ∙ so.second j h) (put_second table s c f g inside ∙ second) k b;
        }

    pub scope_put : {now : List ℕ} → now ≡ with_scope (design_of image) s table → ScopesBelow (design_of image) now (suc s)
    unfolding with_scope
    scope_put e = rw e (entry_put refl refl refl)

  pub scope_written :
      (table : List ℕ) (s : ℕ) {c f g : ℕ}
      → c ≡ length (scope_of (design_of image) s)
      → f ≡ get_or (scope_of (design_of image) s) 0 0
      → g ≡ get_or (scope_of (design_of image) s) 1 0
      → put table s c f g ≡ with_scope (design_of image) s table
  unfolding with_scope
  scope_written table s count first second = rw (count, first, second) refl

  pub own_parameter_fits : (n : ℕ) {s i : ℕ} → s < x.states → i < 2 → 2 * s + (i - n) < 256
  own_parameter_fits n l h = let few = states_few d in omega arith

  -- ---- the table of all states
  pub scopes_none : {table : List ℕ} → 3 * x.states ≤ length table → ScopesBelow (design_of image) table 0
  scopes_none l =
      let count = states_count d in
      record {
        long = omega arith;
        count = λ s b. absurd (nothing_below_zero b);
        first = λ s b. absurd (nothing_below_zero b);
        second = λ s b. absurd (nothing_below_zero b);
      }

  pub scopes_begun : {table : List ℕ} → table ≡ with_scopes (design_of image) 0 table
  unfolding with_scopes
  scopes_begun = refl

  pub scopes_written : (old : List ℕ) (s : ℕ) {table now : List ℕ} → table ≡ with_scopes (design_of image) s old → now ≡ with_scope (design_of image) s table → now ≡ with_scopes (design_of image) (s + 1) old
  unfolding with_scopes
  scopes_written old s e h = rw (add-one s) (h ∙ ap (with_scope (design_of image) s) e)

  pub scopes_done : (old : List ℕ) {now : List ℕ} {s n : ℕ} → now ≡ with_scopes (design_of image) s old → s ≤ n → n ≤ s → now ≡ with_scopes (design_of image) n old
  scopes_done old {now} {s} {n} e l h = let end : n ≡ s = omega arith in rw end e

  pub scopes_next : {table : List ℕ} {s : ℕ} → ScopesBelow (design_of image) table (suc s) → ScopesBelow (design_of image) table (s + 1)
  scopes_next {s = s} so = rw (add-one s) so

  pub scopes_all : {table : List ℕ} {s : ℕ} → ScopesBelow (design_of image) table s → x.states ≤ s → Scopes (design_of image) table
  scopes_all so l =
      let states = states_count d in
      record { long = so.long; count = λ s b. so.count s (omega arith); first = λ s b. so.first s (omega arith); second = λ s b. so.second s (omega arith) }

  pub short_at : {s : ℕ} → ScopesShort (design_of image) → s < x.states → length (scope_of (design_of image) s) ≤ 2
  short_at {s} short l = let states = states_count d in short.short s (omega arith)

  -- ---- reading it
  module _ {table : List ℕ} {s : ℕ} (so : Scopes (design_of image) table) (l : s < x.states) where
    table_below : ScopesBelow (design_of image) table (length (design_of image).states)
    table_below = record { long = so.long; count = so.count; first = so.first; second = so.second }

    pub count_inside : 3 * s < length table
    count_inside = let states = states_count d in let long = so.long in omega arith

    pub count_read : {n : ℕ} → n ≡ get_or table (3 * s) 0 → n ≡ length (scope_of (design_of image) s)
    count_read e = let states = states_count d in e ∙ so.count s (omega arith)

    pub parameter_inside : {i : ℕ} → i < 2 → 3 * s + 1 + i < length table
    parameter_inside h = let states = states_count d in let long = so.long in omega arith

    pub parameter_read : {i v : ℕ} → i < 2 → v ≡ get_or table (3 * s + 1 + i) 0 → v ≡ get_or (scope_of (design_of image) s) i 0
    parameter_read {i} h e = let states = states_count d in e ∙ entry_first_two table_below s i (omega arith) h

-- ---- the search for a parameter
module _ {image : List ℕ} {x : Design} (describes : Describes image x) where
  pub own_told : {s k : ℕ} → s < x.states → k ≡ (state_in image x.states_at s).parameters → not (eqb k 0) ≡ has_own (design_of image) s
  own_told l is = rw (is ∙ ap (λ (y : State). y.parameters) (state_in_lem describes l)) refl

  pub some_own : {b : Bool} → b ≡ some_below (has_own (design_of image)) x.states → b ≡ has_parameters (design_of image)
  unfolding has_parameters
  some_own some = rw (← states_count describes) some

-- where no state has a parameter, nothing is in scope
pub empty_scopes : {image : List ℕ} {x : Design} → Describes image x → NoParameters (design_of image) → Scopes (design_of image) (replicate {A = ℕ} 192 0)
empty_scopes {image} describes plain =
    let few = states_few describes in
    let count = states_count describes in
    let long = length-replicate {A = ℕ} 192 0 in
    let none = plain_scope (design_of image) plain.none in
    record {
      long = omega arith;
      count = λ s l. get_or-replicate {A = ℕ} 192 (3 * s) 0 0 (omega arith) ∙ sym (ap length (none s));
      first = λ s l. get_or-replicate {A = ℕ} 192 (3 * s + 1) 0 0 (omega arith) ∙ sym (ap (λ (scope : List ℕ). get_or scope 0 0) (none s));
      second = λ s l. get_or-replicate {A = ℕ} 192 (3 * s + 2) 0 0 (omega arith) ∙ sym (ap (λ (scope : List ℕ). get_or scope 1 0) (none s));
    }

-- and the entries of the states leave a table of zeros as it is
module _ {d : Table} (plain : NoParameters d) where
  zero_stays : (k : ℕ) → set (replicate {A = ℕ} 192 0) k 0 ≡ replicate 192 0
  zero_stays k = ap (set (replicate {A = ℕ} 192 0) k) (sym (zero_at (dec_lt k 192))) ∙ set-get_or (replicate {A = ℕ} 192 0) k 0
    where
      zero_at : Dec (k < 192) → get_or (replicate {A = ℕ} 192 0) k 0 ≡ 0
      zero_at (yes l) = get_or-replicate {A = ℕ} 192 k 0 0 l
      zero_at (no l) = let long = length-replicate {A = ℕ} 192 0 in get_or-eq_default (replicate {A = ℕ} 192 0) 0 {n = k} (omega arith)

  zeros_stay : (n : ℕ) → with_scopes d n (replicate {A = ℕ} 192 0) ≡ replicate 192 0
  unfolding with_scopes with_scope
  zeros_stay zero = refl
  zeros_stay (suc n) = rw (zeros_stay n, plain_scope d plain.none n, zero_stays (3 * n), zero_stays (3 * n + 1), zero_stays (3 * n + 2)) refl

  pub scopes_stay : (n : ℕ) {table : List ℕ} → table ≡ replicate {A = ℕ} 192 0 → table ≡ with_scopes d n table
  scopes_stay n e = rw e (sym (zeros_stay n))

pub no_parameters : {b : Bool} (d : Table) → b ≡ false → b ≡ has_parameters d → NoParameters d
no_parameters d h e = record { none = (plain_iff d).0 (rw (← e, h) refl) }

-- the laws of a state's entry, for `search`
pub ruleset scope_laws = (none_above, parent_entry, parent_parameter, some_above, parameter_above, count_is, parameter_own, parameter_none, count_fits, own_parameter_fits)

-- and of the loop that enters all of them
pub ruleset scopes_loop = (scopes_none, scopes_begun, scope_put, scopes_written, scopes_next, scopes_done, scopes_all, short_at)

pub ruleset bound_laws = (half_inside_lem, lower_first, lower_second, upper_first, upper_second)

pub ruleset reading_laws = (count_inside, count_read, parameter_inside, parameter_read)
