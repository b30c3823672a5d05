-- Laws of labels that flow to a label, and of the least label above those of a list: one exists because each two labels have one, and it is found because
-- the search goes through all labels.
use Prim.Native.Nat.{ℕ, ◌<◌}
use mathlib.Core.Path.{◌≡◌, refl}
use mathlib.Core.Logic.Iff
use mathlib.Core.Logic.{◌↔◌}
use mathlib.Core.Bool.{true}
use mathlib.Core.List.{List, [], ◌∷◌, ◌++◌}
use lib.ListN.{length}
use Rattle.model.specs.Lattice.{flows_to, all_flow_to}
use Rattle.model.specs.Rules.{FlowsTo, IsLattice}
use Rattle.model.specs.Raising.{least_above_all, join_of}
use Rattle.model.proofs.Laws.Booleans.{and_first, and_second, and_both}
use Rattle.model.proofs.Laws.Equivalences.{same_tests, and_iff, implies_iff, all_iff}
use Rattle.model.proofs.Laws.Indices.{LowestIs, lowest_at, lowest_found}

-- ---- lists of labels
-- every label of a list is one of the labels
abbrev pub AreLabels : List ℕ → List ℕ → Type 0
AreLabels rows [] = Unit {0}
AreLabels rows (l ∷ more) = (l < length rows) × AreLabels rows more

pub labels_append : (rows xs ys : List ℕ) → AreLabels rows xs → AreLabels rows ys → AreLabels rows (xs ++ ys)
labels_append rows [] ys h k = k
labels_append rows (x ∷ xs) ys h k = (h.0, labels_append rows xs ys h.1 k)

module _ (rows : List ℕ) where
  -- the labels of a list all flow to a label: by the first and the others
  pub flow_cons : (x : ℕ) (xs : List ℕ) (l : ℕ) → FlowsTo rows x l → all_flow_to rows xs l ≡ true → all_flow_to rows (x ∷ xs) l ≡ true
  unfolding all_flow_to
  flow_cons x xs l h k = and_both (flows_to rows x l) (all_flow_to rows xs l) h k

  pub flow_head : (x : ℕ) (xs : List ℕ) (l : ℕ) → all_flow_to rows (x ∷ xs) l ≡ true → FlowsTo rows x l
  unfolding all_flow_to
  flow_head x xs l h = and_first (flows_to rows x l) (all_flow_to rows xs l) h

  pub flow_tail : (x : ℕ) (xs : List ℕ) (l : ℕ) → all_flow_to rows (x ∷ xs) l ≡ true → all_flow_to rows xs l ≡ true
  unfolding all_flow_to
  flow_tail x xs l h = and_second (flows_to rows x l) (all_flow_to rows xs l) h

  pub flow_none : (l : ℕ) → all_flow_to rows [] l ≡ true
  unfolding all_flow_to
  flow_none l = refl

  -- by two lists
  pub all_flow_append : (xs ys : List ℕ) (l : ℕ) → all_flow_to rows xs l ≡ true → all_flow_to rows ys l ≡ true → all_flow_to rows (xs ++ ys) l ≡ true
  all_flow_append [] ys l h k = k
  all_flow_append (x ∷ xs) ys l h k = flow_cons x (xs ++ ys) l (flow_head x xs l h) (all_flow_append xs ys l (flow_tail x xs l h) k)

  pub all_flow_first : (xs ys : List ℕ) (l : ℕ) → all_flow_to rows (xs ++ ys) l ≡ true → all_flow_to rows xs l ≡ true
  all_flow_first [] ys l h = flow_none l
  all_flow_first (x ∷ xs) ys l h = flow_cons x xs l (flow_head x (xs ++ ys) l h) (all_flow_first xs ys l (flow_tail x (xs ++ ys) l h))

  pub all_flow_second : (xs ys : List ℕ) (l : ℕ) → all_flow_to rows (xs ++ ys) l ≡ true → all_flow_to rows ys l ≡ true
  all_flow_second [] ys l h = h
  all_flow_second (x ∷ xs) ys l h = all_flow_second xs ys l (flow_tail x (xs ++ ys) l h)

-- ---- what the search for a least label looks for
-- k is a label, and exactly the labels above k are above every label of the list
pub record LeastAboveAll (rows labels : List ℕ) (k : ℕ) : Type 0 where
  pub label : k < length rows
  pub exactly : (l : ℕ) → l < length rows → (all_flow_to rows labels l ≡ true) ↔ FlowsTo rows k l

module _ (rows : List ℕ) where
  least_above_all_iff : (labels : List ℕ) (k : ℕ)
      → (least_above_all rows labels k ≡ true) ↔ ((all_flow_to rows labels k ≡ true) × ((m : ℕ) → m < length rows → all_flow_to rows labels m ≡ true → FlowsTo rows k m))
  unfolding least_above_all
  least_above_all_iff labels k = and_iff Iff.rfl (all_iff (λ m. implies_iff Iff.rfl Iff.rfl))

  -- some label passes: the lowest such is the join
  join_found : (labels : List ℕ) (k : ℕ) → k < length rows → least_above_all rows labels k ≡ true → LowestIs (least_above_all rows labels) (length rows) (join_of rows labels)
  unfolding join_of
  join_found labels k l passes =
      let found = lowest_found (least_above_all rows labels) (length rows) k l passes in
      rw found.1 (lowest_at (least_above_all rows labels) (length rows) found.0 found.1)

module _ (rows : List ℕ) (lattice : IsLattice rows) where
  -- what flows to a label flows to whatever that one flows to
  pub all_flow_on : (labels : List ℕ) (k l : ℕ) → AreLabels rows labels → k < length rows → l < length rows → all_flow_to rows labels k ≡ true → FlowsTo rows k l → all_flow_to rows labels l ≡ true
  all_flow_on [] k l valid hk hl h f = flow_none rows l
  all_flow_on (x ∷ xs) k l valid hk hl h f =
      flow_cons rows x xs l (lattice.transitive x k l valid.0 hk hl (flow_head rows x xs k h) f) (all_flow_on xs k l valid.1 hk hl (flow_tail rows x xs k h) f)

  -- there is a least label above those of a list
  least_exists : 0 < length rows → (labels : List ℕ) → AreLabels rows labels → (k : ℕ) × LeastAboveAll rows labels k
  least_exists some [] valid = (0, record { label = some; exactly = λ l below. (λ h. lattice.least l below, λ h. flow_none rows l) })
  least_exists some (x ∷ xs) valid =
      let (k, others) = least_exists some xs valid.1 in
      let (j, both) = lattice.join x k valid.0 others.label in (
        j,
        record {
          label = both.label;
          exactly = λ l below. (
            λ h. both.below_others l below (flow_head rows x xs l h) ((others.exactly l below).0 (flow_tail rows x xs l h)),
            λ h. flow_cons
                rows
                x
                xs
                l
                (lattice.transitive x j l valid.0 both.label below both.above_first h)
                ((others.exactly l below).1 (lattice.transitive k j l others.label both.label below both.above_second h)),
          );
        },
      )

  -- the join of labels is one, and exactly what is above it is above them all
  pub join_least : 0 < length rows → (labels : List ℕ) → AreLabels rows labels → LeastAboveAll rows labels (join_of rows labels)
  join_least some labels valid =
      let (k, is) = least_exists some labels valid in
      let passes = (least_above_all_iff rows labels k).1 ((is.exactly k is.label).1 (lattice.reflexive k is.label), λ m below h. (is.exactly m below).0 h) in
      let found = join_found rows labels k is.label passes in
      let tested = (least_above_all_iff rows labels (join_of rows labels)).0 found.passes in
      record {
        label = found.below;
        exactly = λ l below. (λ h. tested.1 l below h, λ f. all_flow_on labels (join_of rows labels) l valid found.below below tested.0 f);
      }

  -- the same of the tests
  pub join_flows : 0 < length rows → (labels : List ℕ) → AreLabels rows labels → (l : ℕ) → l < length rows → all_flow_to rows labels l ≡ flows_to rows (join_of rows labels) l
  join_flows some labels valid l below = same_tests ((join_least some labels valid).exactly l below)

  -- a label that all the others flow to is their join with itself
  pub join_stays : (rest : List ℕ) (own : ℕ) → own < length rows → all_flow_to rows rest own ≡ true → join_of rows (own ∷ rest) ≡ own
  join_stays rest own l h =
      let itself = flow_cons rows own rest own (lattice.reflexive own l) h in
      let passes = (least_above_all_iff rows (own ∷ rest) own).1 (itself, λ m below above. flow_head rows own rest m above) in
      let found = join_found rows (own ∷ rest) own l passes in
      let tested = (least_above_all_iff rows (own ∷ rest) (join_of rows (own ∷ rest))).0 found.passes in
      lattice.antisymmetric (join_of rows (own ∷ rest)) own found.below l (tested.1 own l itself) (flow_head rows own rest (join_of rows (own ∷ rest)) tested.0)
