-- The states that are computed are those that are reached: a round marks only what a marked state leads to, and a round that marks nothing leaves nothing to mark. Each round
-- before marks one more state at least, and there are no more states than rounds.
use Prim.Native.Nat.{ℕ, zero, suc, ◌<◌}
use mathlib.Core.Path.{◌≡◌, refl, sym, ◌∙◌}
use mathlib.Core.Logic.{◌↔◌, ◌⊎◌, inl, inr, ⊎_elim}
use mathlib.Core.Bool.{Bool, true, false, ◌&&◌, ◌||◌}
use mathlib.Core.List.Memᴰ
use mathlib.Core.List.{List, [], ◌∷◌, ◌++◌, Memᴰ}
use native.Mathlib.Omega.{arith}
use native.Mathlib.Decide.{dec_lt}
use lib.Dec.{eqb}
use lib.ListN.{length, get_or, get_or-eq_default}
use borrow.Author.Tests.{eqb-true, eq-eqb}
use Rattle.model.specs.Indices.{some_below}
use Rattle.model.specs.Image.{Design}
use Rattle.model.specs.States.{parent, has_child, default_target, sibling_or_self}
use Rattle.model.specs.Trees.{Cmd, skip, assign, sequence, fall, goto, branch, body_of}
use Rattle.model.specs.Rules.{HoldsFall, DefaultChild, Shaped, StructureKeeps}
use Rattle.model.proofs.Laws.Booleans.{or_cases, or_first, or_second, true_or_false}
use Rattle.model.proofs.Laws.Equivalences.{or_iff, and_iff, some_iff}
use Rattle.model.proofs.Laws.Indices.{length-tabulate, get_d_tabulate}
use Rattle.model.proofs.Laws.States.{ChildOf, child_of, is_child_lem, sibling_child, sibling_no_root, default_child, default_least, default_is}
use Rattle.pruning_model.specs.Pruned.{closed_up}
use Rattle.pruning_model.specs.Reached.{HoldsGoto, Reached, root, fallen, gone, among, leads_to, successors, spread, rounds, reached}
use Rattle.pruning_model.proofs.Closing.{closed_at_most, closed_order, count_rests}

-- ---- an entry of a list
among_is : (n : ℕ) (xs : List ℕ) → among n xs ≡ true → Memᴰ n xs
unfolding among
among_is n [] e = absurd (true_or_false false e refl)
among_is n (x ∷ xs) e =
    ⊎_elim
    (λ (h : eqb x n ≡ true). Memᴰ.head (sym (eqb-true x n h)))
    (λ (h : among n xs ≡ true). Memᴰ.tail (among_is n xs h))
    (or_cases (eqb x n) (among n xs) e)

is_among : (n : ℕ) (xs : List ℕ) → Memᴰ n xs → among n xs ≡ true
unfolding among
is_among n [] h = absurd (Memᴰ.not-nil h)
is_among n (x ∷ xs) h =
    ⊎_elim
    (λ (e : n ≡ x). or_first (eqb x n) (among n xs) (eq-eqb x n (sym e)))
    (λ (k : Memᴰ n xs). or_second (eqb x n) (among n xs) (is_among n xs k))
    (Memᴰ.cases_cons h)

pub among_iff : (n : ℕ) (xs : List ℕ) → (among n xs ≡ true) ↔ Memᴰ n xs
among_iff n xs = (among_is n xs, is_among n xs)

-- ---- what a command leads to
module _ (d : Design) (s : ℕ) where
  -- "The default child is the lowest-numbered child"
  pub default_is_child : has_child d s ≡ true → DefaultChild d s (default_target d s)
  default_is_child h = record { child = is_child_lem d s (default_target d s) (default_child d s h); lowest = default_least d s }

  -- shape: a fall needs a child, a goto names a sibling
  pub fall_shaped : {c : Cmd} → HoldsFall c → Shaped d s c → has_child d s ≡ true
  fall_shaped HoldsFall.itself shape = shape
  fall_shaped (HoldsFall.in_first h) shape = fall_shaped h shape.1
  fall_shaped (HoldsFall.in_second h) shape = fall_shaped h shape.2
  fall_shaped (HoldsFall.in_then h) shape = fall_shaped h shape.1
  fall_shaped (HoldsFall.in_else h) shape = fall_shaped h shape.2

  pub goto_shaped : {t : ℕ} {c : Cmd} → HoldsGoto t c → Shaped d s c → sibling_or_self d s t ≡ true
  goto_shaped HoldsGoto.itself shape = shape
  goto_shaped (HoldsGoto.in_first h) shape = goto_shaped h shape.1
  goto_shaped (HoldsGoto.in_second h) shape = goto_shaped h shape.2
  goto_shaped (HoldsGoto.in_then h) shape = goto_shaped h shape.1
  goto_shaped (HoldsGoto.in_else h) shape = goto_shaped h shape.2

  pub fall_leads : {q : ℕ} {c : Cmd} → HoldsFall c → DefaultChild d s q → Memᴰ q (leads_to (default_target d s) c)
  unfolding leads_to
  fall_leads {q} HoldsFall.itself child = Memᴰ.head (sym (default_is d s q child.child child.lowest))
  fall_leads (HoldsFall.in_first {q = q} h) child = Memᴰ.append_left (leads_to (default_target d s) q) (fall_leads h child)
  fall_leads (HoldsFall.in_second {p = p} h) child = Memᴰ.append_right (leads_to (default_target d s) p) (fall_leads h child)
  fall_leads (HoldsFall.in_then {q = q} h) child = Memᴰ.append_left (leads_to (default_target d s) q) (fall_leads h child)
  fall_leads (HoldsFall.in_else {p = p} h) child = Memᴰ.append_right (leads_to (default_target d s) p) (fall_leads h child)

  pub goto_leads : {t : ℕ} {c : Cmd} → HoldsGoto t c → Memᴰ t (leads_to (default_target d s) c)
  unfolding leads_to
  goto_leads HoldsGoto.itself = Memᴰ.head refl
  goto_leads (HoldsGoto.in_first {q = q} h) = Memᴰ.append_left (leads_to (default_target d s) q) (goto_leads h)
  goto_leads (HoldsGoto.in_second {p = p} h) = Memᴰ.append_right (leads_to (default_target d s) p) (goto_leads h)
  goto_leads (HoldsGoto.in_then {q = q} h) = Memᴰ.append_left (leads_to (default_target d s) q) (goto_leads h)
  goto_leads (HoldsGoto.in_else {p = p} h) = Memᴰ.append_right (leads_to (default_target d s) p) (goto_leads h)

  -- and it leads to nothing else
  abbrev pub LeadsTo : ℕ → Cmd → Type 0
  LeadsTo t c = (HoldsFall c × DefaultChild d s t) ⊎ HoldsGoto t c

  leads_parts :
      {t : ℕ} {p q c : Cmd}
      → (HoldsFall p → HoldsFall c)
      → (HoldsFall q → HoldsFall c)
      → (HoldsGoto t p → HoldsGoto t c)
      → (HoldsGoto t q → HoldsGoto t c)
      → LeadsTo t p ⊎ LeadsTo t q → LeadsTo t c
  leads_parts f g k l (inl (inl h)) = inl (f h.0, h.1)
  leads_parts f g k l (inl (inr h)) = inr (k h)
  leads_parts f g k l (inr (inl h)) = inl (g h.0, h.1)
  leads_parts f g k l (inr (inr h)) = inr (l h)

  leads_either : {t : ℕ} {p q : Cmd} → (Memᴰ t (leads_to (default_target d s) p) → LeadsTo t p) → (Memᴰ t (leads_to (default_target d s) q) → LeadsTo t q) → Memᴰ t (leads_to (default_target d s) p ++ leads_to (default_target d s) q) → LeadsTo t p ⊎ LeadsTo t q
  leads_either {t} {p} {q} f g h = ⊎_elim (λ (k : Memᴰ t (leads_to (default_target d s) p)). inl (f k)) (λ (k : Memᴰ t (leads_to (default_target d s) q)). inr (g k)) (Memᴰ.append_cases (leads_to (default_target d s) p) h)

  pub leads_cases : {t : ℕ} (c : Cmd) → Shaped d s c → Memᴰ t (leads_to (default_target d s) c) → LeadsTo t c
  unfolding leads_to
  leads_cases (skip n) shape h = absurd (Memᴰ.not-nil h)
  leads_cases (assign n r e) shape h = absurd (Memᴰ.not-nil h)
  leads_cases (sequence n p q) shape h =
      leads_parts HoldsFall.in_first HoldsFall.in_second HoldsGoto.in_first HoldsGoto.in_second (leads_either (leads_cases p shape.1) (leads_cases q shape.2) h)
  leads_cases (fall n) shape h = inl (HoldsFall.itself, rw (Memᴰ.eq_of_singleton h) (default_is_child shape))
  leads_cases (goto n t a b) shape h = inr (rw (Memᴰ.eq_of_singleton h) HoldsGoto.itself)
  leads_cases (branch n e p q) shape h =
      leads_parts HoldsFall.in_then HoldsFall.in_else HoldsGoto.in_then HoldsGoto.in_else (leads_either (leads_cases p shape.1) (leads_cases q shape.2) h)

-- ---- rounds
module _ (d : Design) where
  -- whether s is marked after n rounds
  abbrev marked : ℕ → ℕ → Bool
  marked n s = get_or (rounds d n) s false

  marked_first : (s : ℕ) → s < length d.states → marked 0 s ≡ eqb s 0
  unfolding rounds
  marked_first s l = get_d_tabulate _ (length d.states) s false l

  marked_next : (n t : ℕ) → t < length d.states → marked (suc n) t ≡ (marked n t || some_below (λ s. marked n s && among t (successors d s)) (length d.states))
  unfolding rounds spread
  marked_next n t l = get_d_tabulate _ (length d.states) t false l

  rounds_length : (n : ℕ) → length (rounds d n) ≡ length d.states
  unfolding rounds spread
  rounds_length zero = length-tabulate _ (length d.states)
  rounds_length (suc n) = length-tabulate _ (length d.states)

  marked_state : (n s : ℕ) → marked n s ≡ true → s < length d.states
  marked_state n s h = go (dec_lt s (length d.states))
    where
      go : Dec (s < length d.states) → s < length d.states
      go (yes l) = l
      go (no l) = absurd (true_or_false (marked n s) h (get_or-eq_default (rounds d n) false (omega (arith, rounds_length n))))

  -- a state that is marked after n rounds leads to t
  abbrev Led : ℕ → ℕ → Type 0
  Led n t = (s : ℕ) × (s < length d.states) × ((marked n s ≡ true) × Memᴰ t (successors d s))

  next_iff : (n t : ℕ) → t < length d.states → (marked (suc n) t ≡ true) ↔ ((marked n t ≡ true) ⊎ Led n t)
  next_iff n t l = rw (marked_next n t l) (or_iff (λ e. e, λ e. e) (some_iff (λ s. and_iff (λ e. e, λ e. e) (among_iff t (successors d s)))))

  marked_grows : (n s : ℕ) → marked n s ≡ true → marked (suc n) s ≡ true
  marked_grows n s h = (next_iff n s (marked_state n s h)).1 (inl h)

  -- one more round marks nothing new
  abbrev Settled : ℕ → Type 0
  Settled n = (s : ℕ) → s < length d.states → marked (suc n) s ≡ true → marked n s ≡ true

  settled_stays : (n : ℕ) → Settled n → Settled (suc n)
  settled_stays n settled t l h =
      ⊎_elim
      (λ (k : marked (suc n) t ≡ true). k)
      (λ (k : Led (suc n) t). (next_iff n t l).1 (inr (k.0, k.1, (settled k.0 k.1 k.2.0, k.2.1))))
      ((next_iff (suc n) t l).0 h)

  module _ (some : 0 < length d.states) where
    marked_root : (n : ℕ) → marked n 0 ≡ true
    marked_root zero = marked_first 0 some ∙ eq-eqb 0 0 refl
    marked_root (suc n) = marked_grows n 0 (marked_root n)

    -- nothing new is marked, or more states are than there were rounds
    settles : (n : ℕ) → Settled n ⊎ (n < closed_up (marked n) (length d.states))
    settles zero = inr (omega (arith, closed_order (marked 0) 0 (length d.states) (marked_root 0) some))
    settles (suc n) = go (settles n) (dec_lt (closed_up (marked n) (length d.states)) (closed_up (marked (suc n)) (length d.states)))
      where
        go :
            Settled n ⊎ (n < closed_up (marked n) (length d.states))
            → Dec (closed_up (marked n) (length d.states) < closed_up (marked (suc n)) (length d.states))
            → Settled (suc n) ⊎ (suc n < closed_up (marked (suc n)) (length d.states))
        go (inl h) more = inl (settled_stays n h)
        go (inr h) (yes l) = inr (omega arith)
        go (inr h) (no l) = inl (settled_stays n (count_rests (marked n) (marked (suc n)) (length d.states) (λ i b. marked_grows n i) (omega arith)))

    reached_settled : Settled (length d.states)
    reached_settled = go (settles (length d.states))
      where
        go : Settled (length d.states) ⊎ (length d.states < closed_up (marked (length d.states)) (length d.states)) → Settled (length d.states)
        go (inl h) = h
        go (inr l) = absurd (omega (arith, closed_at_most (marked (length d.states)) (length d.states)))

-- ---- what is reached
-- the least set with the root that falls and gotos do not leave
module _ (d : Design) (P : ℕ → Type 0) where
  pub reached_least :
      P 0
      → ((s q : ℕ) → P s → s < length d.states → HoldsFall (body_of d s) → DefaultChild d s q → P q)
      → ((s t : ℕ) → P s → s < length d.states → HoldsGoto t (body_of d s) → P t)
      → {s : ℕ} → Reached d s → P s
  reached_least first falls goes root = first
  reached_least first falls goes (fallen {s} {q} h l f child) = falls s q (reached_least first falls goes h) l f child
  reached_least first falls goes (gone {s} {t} h l g) = goes s t (reached_least first falls goes h) l g

module _ (d : Design) (keeps : StructureKeeps d) (some : 0 < length d.states) where
  -- a goto of a state names a child of its parent
  pub goto_sibling : (s t : ℕ) → s < length d.states → HoldsGoto t (body_of d s) → ChildOf d (parent d s) t
  goto_sibling s t l g = sibling_child d s t (goto_shaped d s g (keeps.shaped s l))

  pub goto_no_root : (s t : ℕ) → s < length d.states → HoldsGoto t (body_of d s) → s ≡ 0 → ⊥
  goto_no_root s t l g = sibling_no_root d s t (goto_shaped d s g (keeps.shaped s l))

  pub reached_state : {s : ℕ} → Reached d s → s < length d.states
  reached_state root = some
  reached_state (fallen {s} {q} h l f child) = (child_of d s q child.child).state
  reached_state (gone {s} {t} h l g) = (goto_sibling s t l g).state

  pub reached_parent : {s : ℕ} → Reached d s → (s ≡ 0 → ⊥) → Reached d (parent d s) × HoldsFall (body_of d (parent d s))
  reached_parent root other = absurd (other refl)
  reached_parent (fallen {s} {q} h l f child) other = rw (child_of d s q child.child).parent_is (h, f)
  reached_parent (gone {s} {t} h l g) other = rw (goto_sibling s t l g).parent_is (reached_parent h (goto_no_root s t l g))

  -- ---- and what is computed
  marked_reached : (n s : ℕ) → marked d n s ≡ true → Reached d s
  unfolding successors
  marked_reached zero s h = rw (eqb-true s 0 (sym (marked_first d s (marked_state d 0 s h)) ∙ h)) root
  marked_reached (suc n) t h = go (λ s. marked_reached n s) ((next_iff d n t (marked_state d (suc n) t h)).0 h)
    where
      led : (s : ℕ) → s < length d.states → Reached d s → LeadsTo d s t (body_of d s) → Reached d t
      led s l above (inl (f, child)) = fallen above l f child
      led s l above (inr g) = gone above l g

      go : ((s : ℕ) → marked d n s ≡ true → Reached d s) → (marked d n t ≡ true) ⊎ Led d n t → Reached d t
      go earlier (inl k) = earlier t k
      go earlier (inr (s, l, k)) = led s l (earlier s k.0) (leads_cases d s (body_of d s) (keeps.shaped s l) k.1)

  -- what is marked at the end is closed
  marked_closed : (s t : ℕ) → t < length d.states → marked d (length d.states) s ≡ true → Memᴰ t (successors d s) → marked d (length d.states) t ≡ true
  marked_closed s t l h led =
      reached_settled d some t l ((next_iff d (length d.states) t l).1 (inr (s, marked_state d (length d.states) s h, (h, led))))

  reached_marked : {s : ℕ} → Reached d s → marked d (length d.states) s ≡ true
  unfolding successors
  reached_marked h =
      reached_least
      d
      (λ s. marked d (length d.states) s ≡ true)
      (marked_root d some (length d.states))
      (λ s q m l f child. marked_closed s q (child_of d s q child.child).state m (fall_leads d s f child))
      (λ s t m l g. marked_closed s t (goto_sibling s t l g).state m (goto_leads d s g))
      h

  pub reached_iff : (s : ℕ) → (reached d s ≡ true) ↔ Reached d s
  unfolding reached
  reached_iff s = (marked_reached (length d.states) s, reached_marked)
