-- The passes come to rest: a pass that moves anything lowers how many labels the registers' labels flow to, taken together, and this is at most the number of
-- registers times that of labels.
use Prim.Native.Nat.{ℕ, zero, suc, ◌+◌, ◌*◌, ◌≤◌, ◌<◌}
use mathlib.Core.Path.{◌≡◌, refl, sym, ◌∙◌, ap, ap₂}
use mathlib.Core.Bool.{Bool, true, false, false≢true}
use mathlib.Core.List.{List, [], ◌∷◌}
use native.Mathlib.Omega.{arith}
use native.Mathlib.Decide.{dec_lt}
use lib.ListN.{length, get_or}
use Rattle.model.specs.Image.{Design}
use Rattle.model.specs.Lattice.{flows_to}
use Rattle.model.specs.Labelling.{labels_of}
use Rattle.model.specs.Raising.{raised_once, raised_times, raised_labels}
use Rattle.model.specs.Rules.{FlowsTo, IsLattice}
use Rattle.model.proofs.Laws.Indices.{nothing_below_zero, extend}
use Rattle.model.proofs.Laws.Relabelling.{Labelled}
use Rattle.model.proofs.Raising.Orders.{AtOrBelow}
use Rattle.model.proofs.Raising.Passes.{Raisable, own_valid, raised_once_lem}

-- ---- how many indices below n pass a test
one : Bool → ℕ
one true = 1
one false = 0

unfoldable passing : (ℕ → Bool) → ℕ → ℕ
passing test zero = 0
passing test (suc n) = one (test n) + passing test n

passing_bounded : (test : ℕ → Bool) (n : ℕ) → passing test n ≤ n
unfolding passing one
passing_bounded test zero = omega arith
passing_bounded test (suc n) = go (test n) (passing_bounded test n)
  where
    go : (b : Bool) → passing test n ≤ n → one b + passing test n ≤ suc n
    go true h = omega arith
    go false h = omega arith

one_fewer : (a b : Bool) → (b ≡ true → a ≡ true) → one b ≤ one a
unfolding one
one_fewer true true h = omega arith
one_fewer true false h = omega arith
one_fewer false true h = absurd (false≢true (h refl))
one_fewer false false h = omega arith

one_same : (a b : Bool) → one a ≤ one b → a ≡ true → b ≡ true
unfolding one
one_same true true h e = refl
one_same true false h e = absurd (omega arith)
one_same false b h e = absurd (false≢true e)

module _ (f g : ℕ → Bool) where
  -- where whatever passes g passes f, no more pass g
  passing_fewer : (n : ℕ) → ((k : ℕ) → k < n → g k ≡ true → f k ≡ true) → passing g n ≤ passing f n
  unfolding passing
  passing_fewer zero h = omega arith
  passing_fewer (suc n) h =
      let earlier = passing_fewer n (λ k l. h k (omega arith)) in
      let here = one_fewer (f n) (g n) (h n (omega arith)) in
      omega arith

  -- and if as many do, the same do
  passing_same : (n : ℕ) → ((k : ℕ) → k < n → g k ≡ true → f k ≡ true) → passing f n ≤ passing g n → (k : ℕ) → k < n → f k ≡ true → g k ≡ true
  unfolding passing
  passing_same zero h many = λ k l. absurd (nothing_below_zero l)
  passing_same (suc n) h many =
      let earlier = passing_fewer n (λ k l. h k (omega arith)) in
      let here = one_fewer (f n) (g n) (h n (omega arith)) in
      extend n (passing_same n (λ k l. h k (omega arith)) (omega arith)) (one_same (f n) (g n) (omega arith))

-- ---- the labels that those of a list flow to
module _ (rows : List ℕ) where
  reach : ℕ → ℕ
  reach l = passing (flows_to rows l) (length rows)

  unfoldable reaches : List ℕ → ℕ
  reaches [] = 0
  reaches (l ∷ more) = reach l + reaches more

  reaches_bounded : (labels : List ℕ) → reaches labels ≤ length labels * length rows
  unfolding reach reaches
  reaches_bounded [] = omega arith
  reaches_bounded (l ∷ more) = let own = passing_bounded (flows_to rows l) (length rows) in let others = reaches_bounded more in omega arith

  module _ (lattice : IsLattice rows) where
    reach_fewer : (a b : ℕ) → a < length rows → b < length rows → FlowsTo rows a b → reach b ≤ reach a
    unfolding reach
    reach_fewer a b la lb f = passing_fewer (flows_to rows a) (flows_to rows b) (length rows) (λ k l h. lattice.transitive a b k la lb l f h)

    reach_same : (a b : ℕ) → a < length rows → b < length rows → FlowsTo rows a b → reach a ≤ reach b → a ≡ b
    unfolding reach
    reach_same a b la lb f many =
        let back = passing_same (flows_to rows a) (flows_to rows b) (length rows) (λ k l h. lattice.transitive a b k la lb l f h) many a la (lattice.reflexive a la) in
        lattice.antisymmetric a b la lb f back

    reaches_fewer : (a b : List ℕ) → length a ≡ length b → ((r : ℕ) → get_or a r 0 < length rows) → ((r : ℕ) → get_or b r 0 < length rows) → AtOrBelow rows a b → reaches b ≤ reaches a
    unfolding reaches
    reaches_fewer [] [] long la lb h = omega arith
    reaches_fewer [] (y ∷ b) long la lb h = absurd (omega arith)
    reaches_fewer (x ∷ a) [] long la lb h = absurd (omega arith)
    reaches_fewer (x ∷ a) (y ∷ b) long la lb h =
        let own = reach_fewer x y (la 0) (lb 0) (h 0) in
        let others = reaches_fewer a b (omega arith) (λ r. la (suc r)) (λ r. lb (suc r)) (λ r. h (suc r)) in
        omega arith

    reaches_same : (a b : List ℕ) → length a ≡ length b → ((r : ℕ) → get_or a r 0 < length rows) → ((r : ℕ) → get_or b r 0 < length rows) → AtOrBelow rows a b → reaches a ≤ reaches b → a ≡ b
    unfolding reaches
    reaches_same [] [] long la lb h many = refl
    reaches_same [] (y ∷ b) long la lb h many = absurd (omega arith)
    reaches_same (x ∷ a) [] long la lb h many = absurd (omega arith)
    reaches_same (x ∷ a) (y ∷ b) long la lb h many =
        let own = reach_fewer x y (la 0) (lb 0) (h 0) in
        let others = reaches_fewer a b (omega arith) (λ r. la (suc r)) (λ r. lb (suc r)) (λ r. h (suc r)) in
        ap₂ ◌∷◌ (reach_same x y (la 0) (lb 0) (h 0) (omega arith)) (reaches_same a b (omega arith) (λ r. la (suc r)) (λ r. lb (suc r)) (λ r. h (suc r)) (omega arith))

-- ---- passes
-- where a pass moves nothing, no number of passes does
pub raised_stays : (d : Design) (labels : List ℕ) (n : ℕ) → raised_once d labels ≡ labels → raised_times d n labels ≡ labels
unfolding raised_times
raised_stays d labels zero stays = refl
raised_stays d labels (suc n) stays = ap (raised_times d n) stays ∙ raised_stays d labels n stays

module _ (d : Design) (able : Raisable d) where
  -- a pass that moves anything lowers the sum
  once_lowers : (labels : List ℕ) → Labelled d labels → reaches d.rows labels ≤ reaches d.rows (raised_once d labels) → raised_once d labels ≡ labels
  once_lowers labels own many =
      let after = raised_once_lem d able labels own in
      sym (reaches_same d.rows able.keeps.lattice labels (raised_once d labels) (own.enough ∙ sym after.valid.enough) own.valid after.valid.valid after.above many)

  -- passes as many as the sum
  settles : (n : ℕ) (labels : List ℕ) → Labelled d labels → reaches d.rows labels ≤ n → raised_once d (raised_times d n labels) ≡ raised_times d n labels
  unfolding raised_times
  settles zero labels own many = once_lowers labels own (omega arith)
  settles (suc n) labels own many = go (dec_lt (reaches d.rows (raised_once d labels)) (reaches d.rows labels)) (settles n (raised_once d labels) (raised_once_lem d able labels own).valid)
    where
      go : Dec (reaches d.rows (raised_once d labels) < reaches d.rows labels)
          → (reaches d.rows (raised_once d labels) ≤ n → raised_once d (raised_times d n (raised_once d labels)) ≡ raised_times d n (raised_once d labels))
          → raised_once d (raised_times d n (raised_once d labels)) ≡ raised_times d n (raised_once d labels)
      go (yes l) later = later (omega arith)
      go (no l) later =
          let stays = once_lowers labels own (omega arith) in
          let rest : raised_times d n (raised_once d labels) ≡ labels = ap (raised_times d n) stays ∙ raised_stays d labels n stays in
          rw (rest, stays)

  -- the raised labels are at rest
  pub raised_settled : raised_once d (raised_labels d) ≡ raised_labels d
  unfolding raised_labels
  raised_settled =
      let own = own_valid d able in
      let bound = reaches_bounded d.rows (labels_of d) in
      settles (length d.registers * length d.rows) (labels_of d) own (rw own.enough at bound)
