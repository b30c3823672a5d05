-- Choices of labels (02, E8): the list of choices holds exactly what is a choice, so a test of all of them says that it passes for each.
use Prim.Native.Nat.{ℕ, zero, suc, ◌<◌}
use mathlib.Core.Path.{◌≡◌, refl}
use mathlib.Core.Logic.Iff
use mathlib.Core.Logic.{◌↔◌, ◌⊎◌, inl, inr, ⊎_elim}
use mathlib.Core.Bool.{Bool, true, false, cond}
use mathlib.Core.List.{List, [], ◌∷◌, ◌++◌, map}
use native.Mathlib.Omega.{arith}
use lib.ListN.{length}
use Rattle.model.specs.Indices.{join_below}
use Rattle.model.specs.Image.{Design}
use Rattle.model.specs.Parameters.{all_of, scope_of, within_bounds, choices, every_choice}
use Rattle.model.specs.Rules.{Within, IsChoice, none_chosen, one_more, EveryChoice}
use Rattle.model.proofs.Laws.Booleans.{decide, and_first, and_second, and_both}
use Rattle.model.proofs.Laws.Equivalences.{and_iff}
use Rattle.model.proofs.Laws.Indices.{below_suc, nothing_below_zero}

-- ---- a test of all entries of a list
module _ {A : Type 0} (test : A → Bool) where
  pub all_of_append : (xs ys : List A) → (all_of test (xs ++ ys) ≡ true) ↔ ((all_of test xs ≡ true) × (all_of test ys ≡ true))
  unfolding all_of
  all_of_append [] ys = (λ h. (refl, h), λ h. h.1)
  all_of_append (x ∷ xs) ys =
      let rest = all_of_append xs ys in (
        λ h.
            let both = rest.0 (and_second (test x) (all_of test (xs ++ ys)) h) in
            (and_both (test x) (all_of test xs) (and_first (test x) (all_of test (xs ++ ys)) h) both.0, both.1),
        λ h. and_both (test x) (all_of test (xs ++ ys)) (and_first (test x) (all_of test xs) h.0) (rest.1 (and_second (test x) (all_of test xs) h.0, h.1)),
      )

  pub all_of_join : (f : ℕ → List A) (n : ℕ) → (all_of test (join_below f n) ≡ true) ↔ ((k : ℕ) → k < n → all_of test (f k) ≡ true)
  unfolding all_of join_below
  all_of_join f zero = (λ h k l. absurd (nothing_below_zero l), λ h. refl)
  all_of_join f (suc n) =
      let rest = all_of_join f n in
      let both = all_of_append (join_below f n) (f n) in (
        λ h k l. ⊎_elim (λ (m : k < n). rest.0 (both.0 h).0 k m) (λ (e : k ≡ n). rw e (both.0 h).1) (below_suc l),
        λ h. both.1 (rest.1 (λ k l. h k (omega arith)), h n (omega arith)),
      )

module _ {A B : Type 0} (test : B → Bool) (f : A → B) where
  pub all_of_map : (xs : List A) → all_of test (map f xs) ≡ all_of (λ x. test (f x)) xs
  unfolding all_of
  all_of_map [] = refl
  all_of_map (x ∷ xs) = rw (all_of_map xs)

module _ (d : Design) where
  pub within_iff : {v label : ℕ} → (within_bounds d v label ≡ true) ↔ Within d v label
  unfolding within_bounds
  within_iff = Iff.trans (and_iff (λ e. e, λ e. e) (λ e. e, λ e. e)) (λ h. record { above = h.0; below = h.1 }, λ k. (k.above, k.below))

  -- all choices of a scope pass
  all_chosen : (scope : List ℕ) (test : List ℕ → Bool) → all_of test (choices d scope) ≡ true → (choice : List ℕ) → IsChoice d scope choice → test choice ≡ true
  unfolding choices all_of
  all_chosen [] test h [] none_chosen = and_first (test []) true h
  all_chosen [] test h (label ∷ choice) c = elim c [ ]
  all_chosen (v ∷ scope) test h [] c = elim c [ ]
  all_chosen (v ∷ scope) test h (label ∷ choice) (one_more l within more) =
      let here = (all_of_join test (λ label. cond (within_bounds d v label) (map (λ choice. label ∷ choice) (choices d scope)) []) (length d.rows)).0 h label l in
      let taken : all_of test (map (λ choice. label ∷ choice) (choices d scope)) ≡ true = rw (within_iff.1 within) at here in
      all_chosen scope (λ rest. test (label ∷ rest)) (rw (all_of_map test (λ rest. label ∷ rest) (choices d scope)) at taken) choice more

  chosen_all : (scope : List ℕ) (test : List ℕ → Bool) → ((choice : List ℕ) → IsChoice d scope choice → test choice ≡ true) → all_of test (choices d scope) ≡ true
  unfolding choices all_of
  chosen_all [] test h = and_both (test []) true (h [] none_chosen) refl
  chosen_all (v ∷ scope) test h =
      (all_of_join test (λ label. cond (within_bounds d v label) (map (λ choice. label ∷ choice) (choices d scope)) []) (length d.rows)).1 (λ label l. at (chosen_all scope) label l (decide (within_bounds d v label)))
    where
      at : ((test : List ℕ → Bool) → ((choice : List ℕ) → IsChoice d scope choice → test choice ≡ true) → all_of test (choices d scope) ≡ true) → (label : ℕ) → label < length d.rows → (within_bounds d v label ≡ true) ⊎ (within_bounds d v label ≡ false) → all_of test (cond (within_bounds d v label) (map (λ choice. label ∷ choice) (choices d scope)) []) ≡ true
      at rest label l (inl e) =
          rw (e, all_of_map test (λ rest. label ∷ rest) (choices d scope)) (rest (λ more. test (label ∷ more)) (λ choice c. h (label ∷ choice) (one_more l (within_iff.0 e) c)))
      at rest label l (inr e) = rw e refl

  -- "for each choice of labels within the bounds in scope"
  pub every_choice_iff :
      (s : ℕ) {test : List ℕ → Bool} {P : List ℕ → Type 0}
      → ((choice : List ℕ) → (test choice ≡ true) ↔ P choice)
      → (every_choice d s test ≡ true) ↔ EveryChoice d s P
  unfolding every_choice
  every_choice_iff s {test} f = (
    λ h choice c. (f choice).0 (all_chosen (scope_of d s) test h choice c),
    λ h. chosen_all (scope_of d s) test (λ choice c. (f choice).1 (h choice c)),
  )
