-- Why what stays is marked. Marks spread from what is given first, and then downwards from each number that is marked to its parts, which are lower: when a number is met, all that could
-- mark it is behind, so that its mark says whether it stays.
use Prim.Native.Nat.{ℕ, ◌+◌, ◌-◌, ◌≤◌, ◌<◌}
use mathlib.Core.Path.{◌≡◌, refl, sym, ◌∙◌, ap}
use mathlib.Core.Logic.{◌⊎◌, inl, inr, ⊎_elim}
use mathlib.Core.Bool.{Bool, true, false, not, cond}
use mathlib.Core.List.Memᴰ
use mathlib.Core.List.{List, [], ◌∷◌, ◌++◌, Memᴰ}
use native.Mathlib.Omega.{arith}
use native.Mathlib.Numerals.{add-one}
use native.Mathlib.Decide.{ℕ_discrete}
use lib.ListN.{length, get_or, set, replicate, length-set, length-replicate}
use lib.Seq.{get_or-set_same, get_or-set_other}
use borrow.Author.Tests.{eq-eqb, eqb-true}
use Rattle.model.specs.Limits.{commands_max, expressions_max}
use Rattle.model.specs.Indices.{join_below, filled_to}
use Rattle.model.specs.Values.{one_or_zero}
use Rattle.model.specs.Image.{Design as Table, States, design_of}
use Rattle.model.specs.Nodes.{command_of, parts_of, values_of, operands_of}
use Rattle.model.specs.Rules.{StructureKeeps}
use Rattle.model.proofs.Laws.Booleans.{decide, not_true, not_false}
use Rattle.model.proofs.Laws.Among.{among_join, join_cases}
use Rattle.model.proofs.Laws.Indices.{filled_is}
use Rattle.model.proofs.Laws.Kinds.{expression_kinds}
use Rattle.design.specs.declared.Design.{Design}
use Rattle.design.specs.Records.{state_in, node_in}
use Rattle.design.specs.Kept.{RecordsKept, Structured}
use Rattle.design.specs.RecordsAt.{CommandAt, ExpressionAt}
use Rattle.design.proofs.Laws.{states_count, commands_count, expressions_count, commands_most, expressions_most}
use Rattle.design.proofs.FieldRules.{body_is, command_at_lem, expression_at_lem}
use Rattle.design.proofs.PartRules.{sequence_parts, branch_parts, no_parts, one_value, no_value, operation_operands, no_operands_low, no_operands_high}
use Rattle.renumbering.proofs.Parts.{part_below, operand_below}
use Rattle.pruning_model.specs.Reached.{reached}
use Rattle.pruning_model.specs.Pruned.{command_stays, expression_stays}
use Rattle.pruning_model.proofs.Reached.{reached_state, reached_iff}
use Rattle.pruning_model.proofs.Nodes.{IsBody, IsValue, CommandStays, ExpressionStays, body_stays, part_stays, command_used, value_stays, operand_stays, expression_used}
use Rattle.pruning_steps.specs.Marks.{mark_of, Marked, is_marked}
use Rattle.pruning_steps.specs.Staying.{mark_all, given_by}
use Rattle.pruning_steps.proofs.NumberingRules.{marked_says, fresh_zero}

-- ---- a table with the numbers of a list marked
length-marks : (t us : List ℕ) → length (mark_all t us) ≡ length t
unfolding mark_all
length-marks t [] = refl
length-marks t (u ∷ us) = length-marks (set t u 1) us ∙ length-set t u 1

mark_append : (t us vs : List ℕ) → mark_all t (us ++ vs) ≡ mark_all (mark_all t us) vs
unfolding mark_all
mark_append t [] vs = refl
mark_append t (u ∷ us) vs = mark_append (set t u 1) us vs

mark_kept : (t : List ℕ) (u k : ℕ) → k < length t → get_or t k 0 ≡ 1 → get_or (set t u 1) k 0 ≡ 1
mark_kept t u k l h = go (ℕ_discrete k u)
  where
    go : Dec (k ≡ u) → get_or (set t u 1) k 0 ≡ 1
    go (yes e) = rw (← e) (get_or-set_same t k 1 0 l)
    go (no e) = get_or-set_other t u k 1 0 e ∙ h

marks_kept : (us t : List ℕ) (k : ℕ) → k < length t → get_or t k 0 ≡ 1 → get_or (mark_all t us) k 0 ≡ 1
unfolding mark_all
marks_kept [] t k l h = h
marks_kept (u ∷ us) t k l h = marks_kept us (set t u 1) k (omega (arith, length-set t u 1)) (mark_kept t u k l h)

marks_among_at : (k : ℕ) {us : List ℕ} (t : List ℕ) → k < length t → Memᴰ k us → get_or (mark_all t us) k 0 ≡ 1
unfolding mark_all
marks_among_at k {us = []} t l m = elim m [ ]
marks_among_at k {us = u ∷ us} t l (Memᴰ.head e) = marks_kept us (set t u 1) k (omega (arith, length-set t u 1)) (rw (← e) (get_or-set_same t k 1 0 l))
marks_among_at k {us = u ∷ us} t l (Memᴰ.tail m) = marks_among_at k (set t u 1) (omega (arith, length-set t u 1)) m

marks_among : {us : List ℕ} (t : List ℕ) (k : ℕ) → k < length t → Memᴰ k us → get_or (mark_all t us) k 0 ≡ 1
marks_among t k = marks_among_at k t

marks_cases : (us t : List ℕ) (k : ℕ) → Memᴰ k us ⊎ (get_or (mark_all t us) k 0 ≡ get_or t k 0)
unfolding mark_all
marks_cases [] t k = inr refl
marks_cases (u ∷ us) t k = go (marks_cases us (set t u 1) k) (ℕ_discrete k u)
  where
    go :
        Memᴰ k us ⊎ (get_or (mark_all (set t u 1) us) k 0 ≡ get_or (set t u 1) k 0)
        → Dec (k ≡ u)
        → Memᴰ k (u ∷ us) ⊎ (get_or (mark_all (set t u 1) us) k 0 ≡ get_or t k 0)
    go (inl m) q = inl (Memᴰ.tail m)
    go (inr e) (yes z) = inl (Memᴰ.head z)
    go (inr e) (no z) = inr (e ∙ get_or-set_other t u k 1 0 z)

-- ---- what a number gives, where it is marked
given_cases : (b : Bool) (k : ℕ) (xs : List ℕ) → Memᴰ k (cond b xs []) → (b ≡ true) × Memᴰ k xs
given_cases true k xs h = (refl, h)
given_cases false k xs h = absurd (Memᴰ.not-nil h)

among_given : {b : Bool} {k : ℕ} {xs : List ℕ} → b ≡ true → Memᴰ k xs → Memᴰ k (cond b xs [])
among_given e h = rw e h

pub marks_nothing : (t xs : List ℕ) (b : Bool) → not b ≡ true → t ≡ mark_all t (cond b xs [])
unfolding mark_all
marks_nothing t xs b e = rw (not_true b e)

pub marks_given : (t xs : List ℕ) (b : Bool) {v : List ℕ} → not b ≡ false → v ≡ mark_all t xs → v ≡ mark_all t (cond b xs [])
marks_given t xs b e h = rw (not_false b e) h

-- ---- the numbers that a node gives, by its kind
pub both_marked : (t : List ℕ) (a b : ℕ) → set (set t a 1) b 1 ≡ mark_all t (a ∷ b ∷ [])
unfolding mark_all
both_marked t a b = refl

mark_one : (t : List ℕ) {a : ℕ} {us : List ℕ} → us ≡ a ∷ [] → set t a 1 ≡ mark_all t us
unfolding mark_all
mark_one t e = rw e

mark_list : (t : List ℕ) {v us vs : List ℕ} → us ≡ vs → v ≡ mark_all t vs → v ≡ mark_all t us
mark_list t e h = rw e h

mark_none : {t : List ℕ} {us : List ℕ} → us ≡ [] → t ≡ mark_all t us
unfolding mark_all
mark_none e = rw e

-- a state's command
pub marks_body : {image : List ℕ} {x : Design} {s m : ℕ} → RecordsKept image x → s < x.states → m ≡ (state_in image x.states_at s).command → (t : List ℕ)
    → set t m 1 ≡ mark_all t (command_of (design_of image) s)
marks_body kept l same t = mark_one t (ap (λ (c : ℕ). c ∷ []) (sym (body_is kept.describes l same)))

-- a command's parts and its expression
module _ {image : List ℕ} {x : Design} {place n k : ℕ} (here : CommandAt image x place n) (same : k ≡ (node_in image place n).kind) where
  pub marks_sequence :
      (t : List ℕ) {v : List ℕ} {a b : ℕ}
      → k ≡ 2
      → a ≡ (node_in image place n).a
      → b ≡ (node_in image place n).b
      → v ≡ mark_all t (a ∷ b ∷ [])
      → v ≡ mark_all t (parts_of (design_of image) n)
  marks_sequence t e p q h = mark_list t (sequence_parts here same e p q) h

  pub marks_branch :
      (t : List ℕ) {v : List ℕ} {a b : ℕ}
      → k ≡ 5
      → a ≡ (node_in image place n).b
      → b ≡ (node_in image place n).c
      → v ≡ mark_all t (a ∷ b ∷ [])
      → v ≡ mark_all t (parts_of (design_of image) n)
  marks_branch t e p q h = mark_list t (branch_parts here same e p q) h

  pub marks_no_part : {t : List ℕ} → (k ≡ 2 → ⊥) → (k ≡ 5 → ⊥) → t ≡ mark_all t (parts_of (design_of image) n)
  marks_no_part two five = mark_none (no_parts here same two five)

  pub marks_value : (t : List ℕ) {a : ℕ} → (k ≡ 1) ⊎ (k ≡ 5) → a ≡ (node_in image place n).a → set t a 1 ≡ mark_all t (values_of (design_of image) n)
  marks_value t e p = mark_one t (one_value here same e p)

  pub marks_no_value : {t : List ℕ} → ((k ≡ 1) ⊎ (k ≡ 5) → ⊥) → t ≡ mark_all t (values_of (design_of image) n)
  marks_no_value h = mark_none (no_value here same h)

-- an expression's operands
module _ {image : List ℕ} {x : Design} {place n k : ℕ} (here : ExpressionAt image x place n) (same : k ≡ (node_in image place n).kind) where
  pub marks_operation :
      (t : List ℕ) {v : List ℕ} {a b : ℕ}
      → 2 ≤ k
      → k < expression_kinds
      → a ≡ (node_in image place n).a
      → b ≡ (node_in image place n).b
      → v ≡ mark_all t (a ∷ b ∷ [])
      → v ≡ mark_all t (operands_of (design_of image) n)
  marks_operation t low high p q h = mark_list t (operation_operands here same low high p q) h

  pub marks_low : {t : List ℕ} → k < 2 → t ≡ mark_all t (operands_of (design_of image) n)
  marks_low h = mark_none (no_operands_low here same h)

  pub marks_high : {t : List ℕ} → expression_kinds ≤ k → t ≡ mark_all t (operands_of (design_of image) n)
  marks_high h = mark_none (no_operands_high here same h)

-- ---- a loop over owners: all that those before i give is marked
pub record Spread (old : List ℕ) (gives : ℕ → List ℕ) (now : List ℕ) (i : ℕ) : Type 0 where
  pub is : now ≡ mark_all old (join_below gives i)

module _ {old : List ℕ} {gives : ℕ → List ℕ} where
  pub spread_none : Spread old gives old 0
  unfolding mark_all join_below
  spread_none = record { is = refl }

  pub spread_more : {now after : List ℕ} {i : ℕ} → Spread old gives now i → after ≡ mark_all now (gives i) → Spread old gives after (i + 1)
  unfolding join_below
  spread_more {now} {after} {i} p q =
      record { is = q ∙ ap (λ (v : List ℕ). mark_all v (gives i)) p.is ∙ rw (add-one i) (sym (mark_append old (join_below gives i) (gives i))) }

  pub spread_all : {now : List ℕ} {i m : ℕ} → Spread old gives now i → i ≤ m → m ≤ i → now ≡ mark_all old (join_below gives m)
  spread_all {now} {i} {m} p l h = let e : i ≡ m = omega arith in rw (← e) p.is

  pub spread_long : {now : List ℕ} {i : ℕ} → Spread old gives now i → length now ≡ length old
  spread_long {i = i} p = ap length p.is ∙ length-marks old (join_below gives i)

  pub spread_keeps : {now : List ℕ} {i n : ℕ} → Spread old gives now i → n ≤ length old → n ≤ length now
  spread_keeps p l = let same = spread_long p in omega arith

-- ---- what stays, for commands and for expressions alike
-- what owners that stay give, with all parts of it, and nothing else
pub record Closed (stays first : ℕ → Bool) (gives parts : ℕ → List ℕ) (owners count : ℕ) : Type 0 where
  pub given : (s k : ℕ) → s < owners → first s ≡ true → Memᴰ k (gives s) → (k < count) × (stays k ≡ true)
  pub part : (n k : ℕ) → n < count → stays n ≡ true → Memᴰ k (parts n) → (k < n) × (stays k ≡ true)
  pub used : (k : ℕ) → k < count → stays k ≡ true
      → ((s : ℕ) × (s < owners) × (first s ≡ true) × Memᴰ k (gives s)) ⊎ ((m : ℕ) × (m < count) × (stays m ≡ true) × Memᴰ k (parts m))

-- the pass has come down to n: only what stays is marked, and all that is given or a part of what stays from n on is
pub record Downward (stays first : ℕ → Bool) (gives parts : ℕ → List ℕ) (owners count : ℕ) (old : List ℕ) (n : ℕ) (now : List ℕ) : Type 0 where
  pub same : length now ≡ length old
  pub long : count ≤ length now
  pub entry : (k : ℕ) → (get_or now k 0 ≡ 0) ⊎ ((get_or now k 0 ≡ 1) × (k < count) × (stays k ≡ true))
  pub given : (s k : ℕ) → s < owners → first s ≡ true → Memᴰ k (gives s) → get_or now k 0 ≡ 1
  pub part : (m k : ℕ) → n ≤ m → m < count → stays m ≡ true → Memᴰ k (parts m) → get_or now k 0 ≡ 1

-- a table that comes from the marks of a loop is as long as the one that was lent
pub downward_long :
    (lent us : List ℕ) {stays first : ℕ → Bool} {gives parts : ℕ → List ℕ} {owners count n : ℕ} {old now : List ℕ}
    → Downward stays first gives parts owners count old n now
    → old ≡ mark_all lent us
    → length now ≡ length lent
downward_long lent us so is = so.same ∙ ap length is ∙ length-marks lent us

module _ {stays first : ℕ → Bool} {gives parts : ℕ → List ℕ} {owners count : ℕ} (closed : Closed stays first gives parts owners count) where
  pub downward_begins :
      (old : List ℕ) (most : ℕ) {table now : List ℕ}
      → Marked first owners table
      → now ≡ mark_all old (join_below (given_by table gives) owners)
      → old ≡ replicate most 0
      → count ≤ most
      → Downward stays first gives parts owners count now count now
  downward_begins old most {table} {now} marked is fresh few =
      record {
        same = refl;
        long = long;
        entry = λ k. rw is (entered k (marks_cases us old k));
        given = λ s k l h m.
            rw is (marks_among old k (inside k (closed.given s k l h m).0) (among_join (given_by table gives) owners s l (among_given (marked_says marked s l ∙ h) m)));
        part = λ m k l b. absurd (omega arith);
      }
    where
      us : List ℕ
      us = join_below (given_by table gives) owners

      long : count ≤ length now
      long = omega (arith, ap length is, length-marks old us, ap length fresh, length-replicate {A = ℕ} most 0)

      inside : (k : ℕ) → k < count → k < length old
      inside k l = omega (arith, ap length fresh, length-replicate {A = ℕ} most 0)

      entered : (k : ℕ) → Memᴰ k us ⊎ (get_or (mark_all old us) k 0 ≡ get_or old k 0) → (get_or (mark_all old us) k 0 ≡ 0) ⊎ ((get_or (mark_all old us) k 0 ≡ 1) × (k < count) × (stays k ≡ true))
      entered k (inl m) =
          let (s, below, h) = join_cases (given_by table gives) k owners m in
          let (mark, by) = given_cases (is_marked table s) k (gives s) h in
          let (l, keeps) = closed.given s k below (sym (marked_says marked s below) ∙ mark) by in
          inr (marks_among old k (inside k l) m, l, keeps)
      entered k (inr e) = inl (e ∙ fresh_zero most k fresh)

  module _ {old now : List ℕ} {n : ℕ} (so : Downward stays first gives parts owners count old n now) where
    -- what stays, and has all that stays above it behind it, is marked
    settled : (k : ℕ) → n ≤ k + 1 → k < count → stays k ≡ true → get_or now k 0 ≡ 1
    settled k low l h =
        ⊎_elim
        (λ (u : (s : ℕ) × (s < owners) × (first s ≡ true) × Memᴰ k (gives s)). so.given u.0 k u.1 u.2 u.3)
        (λ (u : (m : ℕ) × (m < count) × (stays m ≡ true) × Memᴰ k (parts m)).
        let above = (closed.part u.0 k u.1 u.2 u.3).0 in
        so.part u.0 k (omega arith) u.1 u.2 u.3)
        (closed.used k l h)

    marked_stays : (k : ℕ) → k < count → is_marked now k ≡ true → stays k ≡ true
    marked_stays k l h =
        ⊎_elim
        (λ (e : get_or now k 0 ≡ 0). absurd (omega (arith, eqb-true (get_or now k 0) 1 h)))
        (λ (e : (get_or now k 0 ≡ 1) × (k < count) × (stays k ≡ true)). e.2)
        (so.entry k)

    pub downward_more : {after : List ℕ} → 0 < n → n ≤ count → after ≡ mark_all now (given_by now parts (n - 1)) → Downward stays first gives parts owners count old (n - 1) after
    downward_more {after} pos low is =
        record {
          same = ap length is ∙ length-marks now us ∙ so.same;
          long = omega (arith, ap length is, length-marks now us, so.long);
          entry = λ k. rw is (entered k (marks_cases us now k));
          given = λ s k l h m. rw is (marks_kept us now k (inside k (closed.given s k l h m).0) (so.given s k l h m));
          part = λ m k l b h by. rw is (parted m k l b h by (ℕ_discrete m (n - 1)));
        }
      where
        us : List ℕ
        us = given_by now parts (n - 1)

        inside : (k : ℕ) → k < count → k < length now
        inside k l = omega (arith, so.long)

        entered : (k : ℕ) → Memᴰ k us ⊎ (get_or (mark_all now us) k 0 ≡ get_or now k 0) → (get_or (mark_all now us) k 0 ≡ 0) ⊎ ((get_or (mark_all now us) k 0 ≡ 1) × (k < count) × (stays k ≡ true))
        entered k (inl m) =
            let (mark, by) = given_cases (is_marked now (n - 1)) k (parts (n - 1)) m in
            let (lower, keeps) = closed.part (n - 1) k (omega arith) (marked_stays (n - 1) (omega arith) mark) by in
            let l : k < count = omega arith in
            inr (marks_among now k (inside k l) m, l, keeps)
        entered k (inr e) = rw e (so.entry k)

        parted : (m k : ℕ) → n - 1 ≤ m → m < count → stays m ≡ true → Memᴰ k (parts m) → Dec (m ≡ n - 1) → get_or (mark_all now us) k 0 ≡ 1
        parted m k l b h by (yes e) =
            let below = (closed.part m k b h by).0 in
            let mark : is_marked now (n - 1) ≡ true = eq-eqb (get_or now (n - 1) 0) 1 (settled (n - 1) (omega arith) (omega arith) (rw e at h)) in
            marks_among now k (inside k (omega arith)) (among_given mark (rw e at by))
        parted m k l b h by (no e) =
            let below = (closed.part m k b h by).0 in
            marks_kept us now k (inside k (omega arith)) (so.part m k (omega arith) b h by)

    pub downward_done : n ≤ 0 → Marked stays count now
    downward_done end = record { long = so.long; entry = λ k l. entered k l (so.entry k) (decide (stays k)) }
      where
        entered : (k : ℕ) → k < count → (get_or now k 0 ≡ 0) ⊎ ((get_or now k 0 ≡ 1) × (k < count) × (stays k ≡ true)) → (stays k ≡ true) ⊎ (stays k ≡ false) → get_or now k 0 ≡ one_or_zero (stays k)
        entered k l (inl e) (inl h) = absurd (omega (arith, settled k (omega arith) l h))
        entered k l (inl e) (inr h) = rw h e
        entered k l (inr (e, b, h)) q = rw h e

    -- nothing behind them is marked
    nothing_behind : (k : ℕ) → count ≤ k → get_or now k 0 ≡ 0
    nothing_behind k l =
        ⊎_elim
        (λ (e : get_or now k 0 ≡ 0). e)
        (λ (e : (get_or now k 0 ≡ 1) × (k < count) × (stays k ≡ true)). absurd (omega (arith, e.1)))
        (so.entry k)

    pub downward_whole :
        (lent us : List ℕ) (most : ℕ)
        → n ≤ 0
        → old ≡ mark_all lent us
        → lent ≡ replicate most 0
        → now ≡ filled_to (mark_of stays) count lent
    unfolding mark_of
    downward_whole lent us most end is fresh =
        filled_is
        (mark_of stays)
        count
        lent
        now
        (downward_long lent us so is)
        (downward_done end).entry
        (λ k l. nothing_behind k l ∙ sym (fresh_zero most k fresh))

-- ---- commands and expressions
module _ (d : Table) (keeps : StructureKeeps d) (some : 0 < length d.states) where
  commands_closed : Closed (command_stays d) (reached d) (command_of d) (parts_of d) (length d.states) (length d.commands)
  commands_closed =
      record {
        given = λ s k l h m. rw (Memᴰ.eq_of_singleton m) (body_stays d keeps some ((reached_iff d keeps some s).0 h));
        part = λ n k l h m. (part_below d keeps n k l m, (part_stays d keeps some n k (l, h) m).1);
        used = λ k l h.
            ⊎_elim
            (λ (u : IsBody d k). inl (u.0, reached_state d keeps some u.1, (reached_iff d keeps some u.0).1 u.1, Memᴰ.head (sym u.2)))
            (λ (u : (m : ℕ) × CommandStays d m × Memᴰ k (parts_of d m)). inr (u.0, u.1.0, u.1.1, u.2))
            (command_used d keeps some k (l, h));
      }

  expressions_closed : Closed (expression_stays d) (command_stays d) (values_of d) (operands_of d) (length d.commands) (length d.expressions)
  expressions_closed =
      record {
        given = λ n e l h m. value_stays d keeps some n e (l, h) m;
        part = λ n e l h m. (operand_below d keeps n e l m, (operand_stays d keeps some n e (l, h) m).1);
        used = λ e l h.
            ⊎_elim
            (λ (u : IsValue d e). inl (u.0, u.1.0, u.1.1, u.2))
            (λ (u : (m : ℕ) × ExpressionStays d m × Memᴰ e (operands_of d m)). inr (u.0, u.1.0, u.1.1, u.2))
            (expression_used d keeps some e (l, h));
      }

abbrev pub CommandsDown : List ℕ → Design → List ℕ → ℕ → List ℕ → Type 0
CommandsDown image x old n now =
    Downward (command_stays (design_of image)) (reached (design_of image)) (command_of (design_of image)) (parts_of (design_of image)) x.states x.commands old n now

abbrev pub ExpressionsDown : List ℕ → Design → List ℕ → ℕ → List ℕ → Type 0
ExpressionsDown image x old n now =
    Downward (expression_stays (design_of image)) (command_stays (design_of image)) (values_of (design_of image)) (operands_of (design_of image)) x.commands x.expressions old n now

module _ {image : List ℕ} {x : Design} (known : Structured image x) where
  some_state : 0 < length (design_of image).states
  some_state = let d = known.records.describes in omega (arith, d.states, states_count d, d.directory.sections States)

  pub commands_are : Closed (command_stays (design_of image)) (reached (design_of image)) (command_of (design_of image)) (parts_of (design_of image)) x.states x.commands
  commands_are =
      let d = known.records.describes in
      rw (states_count d, commands_count d) (commands_closed (design_of image) known.structure some_state)

  pub expressions_are : Closed (expression_stays (design_of image)) (command_stays (design_of image)) (values_of (design_of image)) (operands_of (design_of image)) x.commands x.expressions
  expressions_are =
      let d = known.records.describes in
      rw (commands_count d, expressions_count d) (expressions_closed (design_of image) known.structure some_state)

  -- fresh tables
  pub fresh_commands : {t : List ℕ} → t ≡ replicate commands_max 0 → x.commands ≤ length t
  fresh_commands e = omega (arith, ap length e, length-replicate {A = ℕ} commands_max 0, commands_most known.records.describes)

  pub fresh_expressions : {t : List ℕ} → t ≡ replicate expressions_max 0 → x.expressions ≤ length t
  fresh_expressions e = omega (arith, ap length e, length-replicate {A = ℕ} expressions_max 0, expressions_most known.records.describes)

  -- the node that is met
  pub command_met : {n : ℕ} → 0 < n → n ≤ x.commands → CommandAt image x x.commands_at (n - 1)
  command_met l h = command_at_lem known.records.describes known.records.commands (omega arith) refl

  pub expression_met : {n : ℕ} → 0 < n → n ≤ x.expressions → ExpressionAt image x x.expressions_at (n - 1)
  expression_met l h = expression_at_lem known.records.describes known.records.expressions (omega arith) refl

-- a command of a loop upwards
pub kept_command : {image : List ℕ} {x : Design} {n : ℕ} → RecordsKept image x → n < x.commands → CommandAt image x x.commands_at n
kept_command kept l = command_at_lem kept.describes kept.commands l refl

pub ruleset spread_laws = (spread_none, spread_more, spread_all)
