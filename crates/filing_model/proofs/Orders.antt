-- The new order of nodes has every node once. A number stands in the order as often as something lists it: as what is used, or as a part of an entry. The owners of a part are higher
-- than it, so from the highest number downwards every owner is an entry once, and then every number is one as often as it is used at all, which is once.
use Prim.Native.Nat.{ℕ, zero, suc, ◌+◌, ◌-◌, ◌≤◌, ◌<◌}
use mathlib.Core.Path.{◌≡◌, refl, sym, ◌∙◌, ap, ap₂}
use mathlib.Core.Logic.{⊎_elim}
use mathlib.Core.List.Memᴰ
use mathlib.Core.List.{List, [], ◌∷◌, ◌++◌, Memᴰ, append-nil, append_assoc}
use native.Mathlib.Omega.{arith}
use lib.ListN.{length, get_or, length-append, get_or-append}
use lib.Seq.{get_or-append-add}
use native.Mathlib.Decide.{dec_lt}
use Rattle.model.specs.Indices.{occurrences, join_below, join_each}
use Rattle.model.specs.Image.{Design, state_at}
use Rattle.model.specs.Nodes.{command_uses, expression_uses, parts_of, values_of, operands_of}
use Rattle.model.specs.Rules.{StructureKeeps}
use Rattle.model.proofs.Laws.Indices.{recursively_step, only_below, only_below_at, nothing_below_zero}
use Rattle.model.proofs.Laws.Among.{join_cases, among_each, each_cases}
use Rattle.renumbering.proofs.Uses.{occurrences_append}
use Rattle.renumbering.proofs.Parts.{part_below, value_below, operand_below}
use Rattle.filing_model.specs.Filed.{parts_first, place_in, command_order, expression_order, new_command, new_expression}
use Rattle.filing_model.proofs.Places.{place_below, place_entry, place_first, place_behind}
use Rattle.filing_model.proofs.Counts.{each_below, Enumerates, enumerated, enumerated_long, enumerated_place, enumerated_each}

-- ---- lists joined for each entry
module _ (f : ℕ → List ℕ) where
  pub each_append : (xs ys : List ℕ) → join_each f (xs ++ ys) ≡ join_each f xs ++ join_each f ys
  unfolding join_each
  each_append [] ys = refl
  each_append (x ∷ xs) ys = ap (λ zs. f x ++ zs) (each_append xs ys) ∙ sym (append_assoc (f x) (join_each f xs) (join_each f ys))

  each_each : (g : ℕ → List ℕ) (xs : List ℕ) → join_each (λ k. join_each f (g k)) xs ≡ join_each f (join_each g xs)
  unfolding join_each
  each_each g [] = refl
  each_each g (x ∷ xs) = ap (λ zs. join_each f (g x) ++ zs) (each_each g xs) ∙ sym (each_append (g x) (join_each g xs))

  each_of_below : (g : ℕ → ℕ) (n : ℕ) → join_below (λ s. f (g s)) n ≡ join_each f (join_below (λ s. g s ∷ []) n)
  unfolding join_each join_below
  each_of_below g zero = refl
  each_of_below g (suc n) =
      ap (λ zs. zs ++ f (g n)) (each_of_below g n)
      ∙ ap (λ zs. join_each f (join_below (λ s. g s ∷ []) n) ++ zs) (sym (append-nil (f (g n))))
      ∙ sym (each_append (join_below (λ s. g s ∷ []) n) (g n ∷ []))

  each_same : (g : ℕ → List ℕ) (xs : List ℕ) → ((k : ℕ) → Memᴰ k xs → f k ≡ g k) → join_each f xs ≡ join_each g xs
  unfolding join_each
  each_same g [] same = refl
  each_same g (x ∷ xs) same = ap₂ ◌++◌ (same x (Memᴰ.head refl)) (each_same g xs (λ k h. same k (Memᴰ.tail h)))

-- ---- parts before the whole
-- every part of an entry, of a lower number, stands in front of it
pub record PartsBefore (parts : ℕ → List ℕ) (xs : List ℕ) : Type 0 where
  pub before : (i p : ℕ) → i < length xs → Memᴰ p (parts (get_or xs i 0)) → p < get_or xs i 0 → place_in xs p < i

module _ (parts : ℕ → List ℕ) where
  before_join :
      (xs ys : List ℕ)
      → PartsBefore parts xs
      → ((j p : ℕ) → j < length ys → Memᴰ p (parts (get_or ys j 0)) → p < get_or ys j 0 → place_in (xs ++ ys) p < length xs + j)
      → PartsBefore parts (xs ++ ys)
  before_join xs ys first second = record { before = λ i p l. at i p l (dec_lt i (length xs)) }
    where
      at : (i p : ℕ) → i < length (xs ++ ys) → Dec (i < length xs) → Memᴰ p (parts (get_or (xs ++ ys) i 0)) → p < get_or (xs ++ ys) i 0 → place_in (xs ++ ys) p < i
      at i p l (yes b) h k =
          let entry = get_or-append xs ys 0 i b in
          let early = first.before i p b (rw entry at h) (rw entry at k) in
          omega (arith, place_first xs ys p (omega arith))
      at i p l (no b) h k =
          let place : i ≡ length xs + (i - length xs) = omega arith in
          let entry : get_or (xs ++ ys) i 0 ≡ get_or ys (i - length xs) 0 = ap (λ (j : ℕ). get_or (xs ++ ys) j 0) place ∙ get_or-append-add xs ys (i - length xs) 0 in
          let late = second (i - length xs) p (omega (arith, length-append xs ys)) (rw entry at h) (rw entry at k) in
          omega arith

  before_append : (xs ys : List ℕ) → PartsBefore parts xs → PartsBefore parts ys → PartsBefore parts (xs ++ ys)
  before_append xs ys first second = before_join xs ys first (λ j p l h k. let late = second.before j p l h k in omega (arith, place_behind xs ys p))

  before_whole : (n : ℕ) (xs : List ℕ) → PartsBefore parts xs → ((p : ℕ) → Memᴰ p (parts n) → p < n → Memᴰ p xs) → PartsBefore parts (xs ++ (n ∷ []))
  before_whole n xs first own = before_join xs (n ∷ []) first last
    where
      last : (j p : ℕ) → j < 1 → Memᴰ p (parts (get_or (n ∷ []) j 0)) → p < get_or (n ∷ []) j 0 → place_in (xs ++ (n ∷ [])) p < length xs + j
      last zero p l h k = let early = place_below xs p (own p h k) in omega (arith, place_first xs (n ∷ []) p early)
      last (suc j) p l h k = absurd (omega arith)

  before_each : (tops : List ℕ) → ((n : ℕ) → Memᴰ n tops → PartsBefore parts (parts_first parts n)) → PartsBefore parts (join_each (parts_first parts) tops)
  unfolding join_each
  before_each [] each = record { before = λ i p l. absurd (nothing_below_zero l) }
  before_each (x ∷ tops) each = before_append (parts_first parts x) (join_each (parts_first parts) tops) (each x (Memᴰ.head refl)) (before_each tops (λ n h. each n (Memᴰ.tail h)))

-- ---- nodes of a family, `count` of them, the parts lower than their owners
module _ (parts : ℕ → List ℕ) (count : ℕ) (lower : (n p : ℕ) → n < count → Memᴰ p (parts n) → p < n) where
  -- the numbers of a tree from those of its parts
  tree_step : (n : ℕ) → n < count → parts_first parts n ≡ join_each (parts_first parts) (parts n) ++ (n ∷ [])
  tree_step n l =
      recursively_step [] (λ k part. join_each part (parts k) ++ (k ∷ [])) n
      ∙ ap (λ zs. zs ++ (n ∷ [])) (each_same (only_below [] n (parts_first parts)) (parts_first parts) (parts n) (λ k h. only_below_at [] n k (parts_first parts) (lower n k l h)))

  tree_itself : (n : ℕ) → n < count → Memᴰ n (parts_first parts n)
  tree_itself n l = rw (tree_step n l) (Memᴰ.append_right (join_each (parts_first parts) (parts n)) (Memᴰ.head refl))

  -- a tree is of nodes of the family
  below_under : (f n m : ℕ) → n < f → n < count → Memᴰ m (parts_first parts n) → m < count
  below_under zero n m b l h = absurd (nothing_below_zero b)
  below_under (suc f) n m b l h =
      ⊎_elim
      (λ (k : Memᴰ m (join_each (parts_first parts) (parts n))).
      let (p, own, deep) = each_cases (parts_first parts) m (parts n) k in
      let low = lower n p l own in
      below_under f p m (omega arith) (omega arith) deep)
      (λ (k : Memᴰ m (n ∷ [])). rw (Memᴰ.eq_of_singleton k) l)
      (Memᴰ.append_cases (join_each (parts_first parts) (parts n)) (rw (tree_step n l) at h))

  tree_below : (n m : ℕ) → n < count → Memᴰ m (parts_first parts n) → m < count
  tree_below n m l h = below_under (suc n) n m (omega arith) l h

  before_tree : (f n : ℕ) → n < f → n < count → PartsBefore parts (parts_first parts n)
  before_tree zero n b l = absurd (nothing_below_zero b)
  before_tree (suc f) n b l =
      rw
      (tree_step n l)
      (before_whole
      parts
      n
      (join_each (parts_first parts) (parts n))
      (before_each parts (parts n) (λ p h. let low = lower n p l h in before_tree f p (omega arith) (omega arith)))
      (λ p h k. among_each (parts_first parts) h (tree_itself p (omega arith))))

  -- ---- how often a number stands in trees
  -- as what is listed and as a part of an entry
  module _ (m : ℕ) where
    abbrev Listed : List ℕ → List ℕ → Type 0
    Listed tops xs = occurrences m xs ≡ occurrences m tops + occurrences m (join_each parts xs)

    listed_append : (tops more xs ys : List ℕ) → Listed tops xs → Listed more ys → Listed (tops ++ more) (xs ++ ys)
    listed_append tops more xs ys p q =
        let own = occurrences_append m xs ys in
        let top = occurrences_append m tops more in
        let part = ap (occurrences m) (each_append parts xs ys) ∙ occurrences_append m (join_each parts xs) (join_each parts ys) in
        omega arith

    listed_each : (tops : List ℕ) → ((n : ℕ) → Memᴰ n tops → Listed (n ∷ []) (parts_first parts n)) → Listed tops (join_each (parts_first parts) tops)
    unfolding join_each occurrences
    listed_each [] each = refl
    listed_each (x ∷ tops) each =
        listed_append (x ∷ []) tops (parts_first parts x) (join_each (parts_first parts) tops) (each x (Memᴰ.head refl)) (listed_each tops (λ n h. each n (Memᴰ.tail h)))

    listed_whole : (n : ℕ) (xs : List ℕ) → Listed (parts n) xs → Listed (n ∷ []) (xs ++ (n ∷ []))
    unfolding join_each
    listed_whole n xs inner =
        let whole = occurrences_append m xs (n ∷ []) in
        let part : occurrences m (join_each parts (xs ++ (n ∷ []))) ≡ occurrences m (join_each parts xs) + occurrences m (parts n) =
        ap (occurrences m) (each_append parts xs (n ∷ []))
        ∙ occurrences_append m (join_each parts xs) (parts n ++ [])
        ∙ ap (λ zs. occurrences m (join_each parts xs) + occurrences m zs) (append-nil (parts n)) in
        omega arith

    listed_under : (f n : ℕ) → n < f → n < count → Listed (n ∷ []) (parts_first parts n)
    listed_under zero n b l = absurd (nothing_below_zero b)
    listed_under (suc f) n b l =
        rw
        (tree_step n l)
        (listed_whole n (join_each (parts_first parts) (parts n)) (listed_each (parts n) (λ p h. let low = lower n p l h in listed_under f p (omega arith) (omega arith))))

  -- ---- the trees of what is used, one behind the other
  module _ (tops : List ℕ) (exist : (n : ℕ) → Memᴰ n tops → n < count)
      (once : (n : ℕ) → n < count → occurrences n tops + occurrences n (join_below parts count) ≡ 1) where
    abbrev order : List ℕ
    order = join_each (parts_first parts) tops

    order_below : (n : ℕ) → Memᴰ n order → n < count
    order_below n h = let (top, used, deep) = each_cases (parts_first parts) n tops h in tree_below top n (exist top used) deep

    order_once : (f n : ℕ) → n < count → count ≤ n + f → occurrences n order ≡ 1
    order_once zero n l k = absurd (omega arith)
    order_once (suc f) n l k =
        let listed = listed_each n tops (λ top h. listed_under n (suc top) top (omega arith) (exist top h)) in
        let all = each_below n parts count order order_below (λ m b h. let above = lower m n b h in order_once f m b (omega arith)) in
        omega (arith, once n l)

    pub order_enumerates : Enumerates order count
    order_enumerates = record { once = λ n l. order_once count n l (omega arith); below = order_below }

    -- parts before the whole
    pub order_before : (n p : ℕ) → n < count → Memᴰ p (parts n) → place_in order p < place_in order n
    order_before n p l h =
        let here = enumerated order_enumerates n l in
        let entry = place_entry order n here in
        (before_each parts tops (λ top k. before_tree (suc top) top (omega arith) (exist top k))).before (place_in order n) p (place_below order n here) (rw entry h) (rw entry (lower n p l h))

-- ---- the new order of commands and of expressions
module _ (d : Design) (keeps : StructureKeeps d) where
  bodies : List ℕ
  bodies = join_below (λ s. (state_at d s).command ∷ []) (length d.states)

  bodies_exist : (n : ℕ) → Memᴰ n bodies → n < length d.commands
  unfolding bodies
  bodies_exist n h =
      let (s, l, m) = join_cases (λ s. (state_at d s).command ∷ []) n (length d.states) h in
      rw (Memᴰ.eq_of_singleton m) (keeps.states s l).command

  bodies_once : (n : ℕ) → n < length d.commands → occurrences n bodies + occurrences n (join_below (parts_of d) (length d.commands)) ≡ 1
  unfolding bodies command_uses
  bodies_once n l = sym (occurrences_append n bodies (join_below (parts_of d) (length d.commands))) ∙ keeps.commands_used n l

  commands_ordered : command_order d ≡ join_each (parts_first (parts_of d)) bodies
  unfolding bodies command_order
  commands_ordered = each_of_below (parts_first (parts_of d)) (λ s. (state_at d s).command) (length d.states)

  pub commands_enumerated : Enumerates (command_order d) (length d.commands)
  commands_enumerated = rw commands_ordered (order_enumerates (parts_of d) (length d.commands) (part_below d keeps) bodies bodies_exist bodies_once)

  pub command_once : (n : ℕ) → n < length d.commands → occurrences n (command_order d) ≡ 1
  command_once = commands_enumerated.once

  pub command_below : (n : ℕ) → Memᴰ n (command_order d) → n < length d.commands
  command_below = commands_enumerated.below

  pub commands_long : length (command_order d) ≡ length d.commands
  commands_long = enumerated_long commands_enumerated

  pub command_placed : (i : ℕ) → i < length d.commands → new_command d (get_or (command_order d) i 0) ≡ i
  command_placed = enumerated_place commands_enumerated

  pub part_before : (n p : ℕ) → n < length d.commands → Memᴰ p (parts_of d n) → new_command d p < new_command d n
  part_before n p l h = rw commands_ordered (order_before (parts_of d) (length d.commands) (part_below d keeps) bodies bodies_exist bodies_once n p l h)

  -- expressions: what commands use, in the commands' order
  values : List ℕ
  values = join_each (values_of d) (command_order d)

  values_exist : (n : ℕ) → Memᴰ n values → n < length d.expressions
  unfolding values
  values_exist n h = let (m, here, used) = each_cases (values_of d) n (command_order d) h in value_below d keeps m n (command_below m here) used

  values_once : (n : ℕ) → n < length d.expressions → occurrences n values + occurrences n (join_below (operands_of d) (length d.expressions)) ≡ 1
  unfolding values expression_uses
  values_once n l =
      ap (λ (k : ℕ). k + occurrences n (join_below (operands_of d) (length d.expressions))) (enumerated_each commands_enumerated n (values_of d))
      ∙ sym (occurrences_append n (join_below (values_of d) (length d.commands)) (join_below (operands_of d) (length d.expressions)))
      ∙ keeps.expressions_used n l

  expressions_ordered : expression_order d ≡ join_each (parts_first (operands_of d)) values
  unfolding values expression_order
  expressions_ordered = each_each (parts_first (operands_of d)) (values_of d) (command_order d)

  pub expressions_enumerated : Enumerates (expression_order d) (length d.expressions)
  expressions_enumerated = rw expressions_ordered (order_enumerates (operands_of d) (length d.expressions) (operand_below d keeps) values values_exist values_once)

  pub expression_once : (n : ℕ) → n < length d.expressions → occurrences n (expression_order d) ≡ 1
  expression_once = expressions_enumerated.once

  pub expression_below : (n : ℕ) → Memᴰ n (expression_order d) → n < length d.expressions
  expression_below = expressions_enumerated.below

  pub expressions_long : length (expression_order d) ≡ length d.expressions
  expressions_long = enumerated_long expressions_enumerated

  pub expression_placed : (i : ℕ) → i < length d.expressions → new_expression d (get_or (expression_order d) i 0) ≡ i
  expression_placed = enumerated_place expressions_enumerated

  pub operand_before : (n p : ℕ) → n < length d.expressions → Memᴰ p (operands_of d n) → new_expression d p < new_expression d n
  operand_before n p l h = rw expressions_ordered (order_before (operands_of d) (length d.expressions) (operand_below d keeps) values values_exist values_once n p l h)
