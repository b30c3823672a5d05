-- Labellings one at or below the other, register by register: the order of the lattice carries over, and from it that of the contexts that are made of them.
use Prim.Native.Nat.{ℕ, zero, suc, ◌<◌}
use mathlib.Core.Path.{◌≡◌, refl, sym, ◌∙◌}
use mathlib.Core.Bool.{true}
use mathlib.Core.List.{List, [], ◌∷◌, ◌++◌, map}
use lib.ListN.{length, get_or, set}
use lib.Seq.{ext_get_or}
use Rattle.model.specs.Image.{Design}
use Rattle.model.specs.Lattice.{all_flow_to}
use Rattle.model.specs.Trees.{Expr, registers_read}
use Rattle.model.specs.Raising.{labels_read_by}
use Rattle.model.specs.Rules.{FlowsTo, IsLattice}
use Rattle.model.proofs.Laws.Joins.{AreLabels, flow_cons, flow_head, flow_tail, all_flow_append, all_flow_first, all_flow_second}
use Rattle.model.proofs.Laws.Relabelling.{Labelled}

-- every register's label flows to the one it has in the other labelling
abbrev pub AtOrBelow : List ℕ → List ℕ → List ℕ → Type 0
AtOrBelow rows lower upper = (r : ℕ) → FlowsTo rows (get_or lower r 0) (get_or upper r 0)

-- whatever an upper context flows to, a lower one does
abbrev pub Under : List ℕ → List ℕ → List ℕ → Type 0
Under rows lower upper = (l : ℕ) → l < length rows → all_flow_to rows upper l ≡ true → all_flow_to rows lower l ≡ true

pub under_append : (rows a b x y : List ℕ) → Under rows a x → Under rows b y → Under rows (a ++ b) (x ++ y)
under_append rows a b x y h k l below f =
    all_flow_append rows a b l (h l below (all_flow_first rows x y l f)) (k l below (all_flow_second rows x y l f))

-- an entry of a list with one entry set is that one or as it was
pub set_cases : (P : ℕ → Type 0) (xs : List ℕ) (r v k : ℕ) → (k ≡ r → P v) → P (get_or xs k 0) → P (get_or (set xs r v) k 0)
set_cases P [] r v k own other = other
set_cases P (x ∷ xs) zero v zero own other = own refl
set_cases P (x ∷ xs) zero v (suc k) own other = other
set_cases P (x ∷ xs) (suc r) v zero own other = other
set_cases P (x ∷ xs) (suc r) v (suc k) own other = set_cases P xs r v k (λ same. own (rw same refl)) other

module _ (d : Design) (lattice : IsLattice d.rows) where
  pub below_itself : (a : List ℕ) → Labelled d a → AtOrBelow d.rows a a
  below_itself a la r = lattice.reflexive (get_or a r 0) (la.valid r)

  pub below_both : (a b c : List ℕ) → Labelled d a → Labelled d b → Labelled d c → AtOrBelow d.rows a b → AtOrBelow d.rows b c → AtOrBelow d.rows a c
  below_both a b c la lb lc h k r = lattice.transitive (get_or a r 0) (get_or b r 0) (get_or c r 0) (la.valid r) (lb.valid r) (lc.valid r) (h r) (k r)

  -- labellings that are each at or below the other are one
  pub below_same : (a b : List ℕ) → Labelled d a → Labelled d b → AtOrBelow d.rows a b → AtOrBelow d.rows b a → a ≡ b
  below_same a b la lb h k =
      ext_get_or 0 a b (la.enough ∙ sym lb.enough) (λ r l. lattice.antisymmetric (get_or a r 0) (get_or b r 0) (la.valid r) (lb.valid r) (h r) (k r))

  pub reads_under : (a b : List ℕ) → Labelled d a → Labelled d b → AtOrBelow d.rows a b → (e : Expr) → Under d.rows (labels_read_by a e) (labels_read_by b e)
  unfolding labels_read_by
  reads_under a b la lb h e = all (registers_read e)
    where
      all : (rs : List ℕ) → Under d.rows (map (λ r. get_or a r 0) rs) (map (λ r. get_or b r 0) rs)
      all [] l below f = f
      all (r ∷ rs) l below f =
          let lower = map (λ r. get_or a r 0) rs in
          let upper = map (λ r. get_or b r 0) rs in
          flow_cons
          d.rows
          (get_or a r 0)
          lower
          l
          (lattice.transitive (get_or a r 0) (get_or b r 0) l (la.valid r) (lb.valid r) below (h r) (flow_head d.rows (get_or b r 0) upper l f))
          (all rs l below (flow_tail d.rows (get_or b r 0) upper l f))

pub reads_labels : (d : Design) (a : List ℕ) → Labelled d a → (e : Expr) → AreLabels d.rows (labels_read_by a e)
unfolding labels_read_by
reads_labels d a la e = all (registers_read e)
  where
    all : (rs : List ℕ) → AreLabels d.rows (map (λ r. get_or a r 0) rs)
    all [] = tt
    all (r ∷ rs) = (la.valid r, all rs)
