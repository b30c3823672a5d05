-- New numbers, from the last entry to the first: an entry that is met again in front gets the lower place, which is its place in the order.
use Prim.Native.Nat.{ℕ, suc, ◌+◌, ◌-◌, ◌≤◌, ◌<◌}
use mathlib.Core.Path.{◌≡◌, refl, sym, ◌∙◌, ap}
use mathlib.Core.Logic.{◌≢◌, ⊎_elim}
use mathlib.Core.List.Memᴰ
use mathlib.Core.List.{List, [], ◌∷◌, Memᴰ}
use native.Mathlib.Omega.{arith}
use native.Mathlib.Decide.{ℕ_discrete}
use lib.ListN.{length, get_or, set, take, drop, length-set, drop_of_length-le}
use lib.Seq.{get_or-take, get_or-set_same, get_or-set_other, length-take-le, drop-cons}
use borrow.Author.Tests.{eq-eqb, ne_eqb}
use Rattle.filing_model.specs.Filed.{place_in}
use Rattle.filing_model.proofs.Places.{entry_stands}
use Rattle.filing_steps.specs.Tables.{EachBelow, with_places}

place_here : {x n : ℕ} (xs : List ℕ) → x ≡ n → place_in (x ∷ xs) n ≡ 0
unfolding place_in
place_here {x} {n} xs e = rw (eq-eqb x n e)

place_later : {x n : ℕ} (xs : List ℕ) → x ≢ n → place_in (x ∷ xs) n ≡ suc (place_in xs n)
unfolding place_in
place_later {x} {n} xs e = rw (ne_eqb x n e)

-- the entries from k on have their places; each entry has room in the table as it was
pub record NumberedFrom (order : List ℕ) (count : ℕ) (before : List ℕ) (k : ℕ) (now : List ℕ) : Type 0 where
  pub most : k ≤ count
  pub inside : count ≤ length order
  pub room : EachBelow (length before) (take count order)
  pub long : length now ≡ length before
  pub put : now ≡ with_places k (drop k (take count order)) before
  pub entry : (n : ℕ) → Memᴰ n (drop k (take count order)) → get_or now n 0 ≡ k + place_in (drop k (take count order)) n

pub numbered_begins : {order before : List ℕ} {count : ℕ} → count ≤ length order → EachBelow (length before) (take count order) → NumberedFrom order count before count before
unfolding with_places
numbered_begins {order} {before} {count} inside room =
    let none : drop count (take count order) ≡ [] = drop_of_length-le (take count order) {i = count} (let long = length-take-le count order inside in omega arith) in
    record { most = omega arith; inside = inside; room = room; long = refl; put = rw none refl; entry = λ n h. absurd (Memᴰ.not-nil (rw none at h)) }

module _ {order before now : List ℕ} {count k : ℕ} (so : NumberedFrom order count before k now) where
  entry_below : (i : ℕ) → i < count → get_or order i 0 < length now
  entry_below i l =
      let inside = so.inside in
      let whole = length-take-le count order inside in
      let here = so.room.below (get_or (take count order) i 0) (entry_stands (take count order) i (omega arith)) in
      rw so.long (rw (get_or-take count order i 0 l) at here)

  pub last_below : {n : ℕ} → 0 < k → n ≡ get_or order (k - 1) 0 → n < length now
  last_below l e = rw e (entry_below (k - 1) (let most = so.most in omega arith))

  -- the entry in front of those that have their places
  last_first : (j : ℕ) → k ≡ suc j → drop j (take count order) ≡ get_or order j 0 ∷ drop k (take count order)
  last_first j s =
      let most = so.most in
      let long = length-take-le count order so.inside in
      drop-cons (take count order) j 0 (omega arith)
      ∙ rw (get_or-take count order j 0 (omega arith), s) refl

  more_entry : (j m : ℕ) → k ≡ suc j → Memᴰ m (drop j (take count order)) → get_or (set now (get_or order j 0) j) m 0 ≡ j + place_in (drop j (take count order)) m
  more_entry j m s h = rw (last_first j s) (go (ℕ_discrete (get_or order j 0) m) (rw (last_first j s) at h))
    where
      go : Dec (get_or order j 0 ≡ m) → Memᴰ m (get_or order j 0 ∷ drop k (take count order)) → get_or (set now (get_or order j 0) j) m 0 ≡ j + place_in (get_or order j 0 ∷ drop k (take count order)) m
      go (yes e) g =
          let most = so.most in
          let same = get_or-set_same now (get_or order j 0) j 0 (entry_below j (omega arith)) in
          rw (← e) (same ∙ rw (place_here {n = get_or order j 0} (drop k (take count order)) refl) (omega arith))
      go (no e) g =
          ⊎_elim
          (λ (z : m ≡ get_or order j 0). absurd (e (sym z)))
          (λ (z : Memᴰ m (drop k (take count order))).
          let other = get_or-set_other now (get_or order j 0) m j 0 (λ y. e (sym y)) in
          let old = so.entry m z in
          let place = place_later (drop k (take count order)) e in
          omega arith)
          (Memᴰ.cases_cons g)

  more_put : (j : ℕ) → k ≡ suc j → set now (get_or order j 0) j ≡ with_places j (drop j (take count order)) before
  unfolding with_places
  more_put j s = rw (last_first j s) (ap (λ (t : List ℕ). set t (get_or order j 0) j) (so.put ∙ ap (λ (i : ℕ). with_places i (drop k (take count order)) before) s))

  pub numbered_more : {n : ℕ} → 0 < k → n ≡ get_or order (k - 1) 0 → NumberedFrom order count before (k - 1) (set now n (k - 1))
  numbered_more {n} l e =
      let most = so.most in
      record {
        most = omega arith;
        inside = so.inside;
        room = so.room;
        long = length-set now n (k - 1) ∙ so.long;
        put = rw e (more_put (k - 1) (omega arith));
        entry = λ m h. rw e (more_entry (k - 1) m (omega arith) h);
      }
