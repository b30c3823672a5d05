-- The raised image is the least accepted raising, where there is one: passes at rest under an accepted raising flow, and stay at or below every one.
use Rattle.std.specs.Prelude.{Err}
use Prim.Native.Nat.{ℕ, ◌+◌, ◌*◌, ◌<◌}
use mathlib.Core.Path.{◌≡◌, refl, ◌∙◌, ap}
use mathlib.Core.Logic.Iff
use mathlib.Core.Logic.{◌↔◌, ◌⊎◌, inl, inr}
use mathlib.Core.Bool.{true, false≢true}
use mathlib.Core.List.{List, [], ◌∷◌}
use native.Mathlib.Omega.{arith}
use native.Mathlib.Decide.{dec_lt, ℕ_discrete}
use lib.ListN.{length, get_or, get_or-eq_default}
use Rattle.model.specs.Answers.{Answer, Accepted}
use Rattle.model.specs.Limits.{register_length}
use Rattle.model.specs.Image.{Registers, byte_at, offset, Design, design_of, register_at}
use Rattle.model.specs.Lattice.{register_label, state_label}
use Rattle.model.specs.Trees.{body_of}
use Rattle.model.specs.Labelling.{labels_of, relabelled}
use Rattle.model.specs.Raising.{IsInnerLabel, Raises, AcceptedRaising, LeastRaising, raised_once, raised_labels, put_labels, raised_image, accepts}
use Rattle.model.specs.Rules.{FlowsTo, Scoped, Flows, DirectoryKeeps, StructureKeeps, Keeps}
use Rattle.model.specs.Verdict.{structure, verdict}
use Rattle.model.proofs.Laws.Images.{register_is, register_count}
use Rattle.model.proofs.Laws.Verdict.{CountsNothing, refused_is_not_accepted}
use Rattle.model.proofs.Laws.Labelling.{relabelled_body}
use Rattle.model.proofs.Laws.Plain.{Plain, PlainFlows, PlainLabels, plain_flows_iff}
use Rattle.model.proofs.Laws.Relabelling.{Labelled, length-labels, label_at, register_label_lem}
use Rattle.model.proofs.Laws.LabelBytes.{put_elsewhere, put_at, label_byte_lem}
use Rattle.model.proofs.Laws.LabelImages.{placed, registers_same, other_design, own_labelled}
use Rattle.model.proofs.Exact.{structure_exact, verdict_exact}
use Rattle.model.proofs.Refused.{accepted_count}
use Rattle.model.proofs.Raising.Orders.{AtOrBelow, below_same}
use Rattle.model.proofs.Raising.Passes.{Raisable, own_labels, own_valid, raised_labels_lem}
use Rattle.model.proofs.Raising.Images.{raisable, raised_valid, raised_length, raised_design, raised_directory, raised_structure, raised_plain}
use Rattle.model.proofs.Raising.Least.{BodiesFlow, times_least, once_flows}
use Rattle.model.proofs.Raising.Settled.{raised_settled}

-- ---- acceptance as a test
accepts_iff : (a : Answer) → CountsNothing a → (accepts a ≡ true) ↔ (a ≡ Accepted 0)
accepts_iff (Accepted n) nothing = (λ e. ap Accepted (nothing n refl), λ e. refl)
accepts_iff (Err why) nothing = (λ e. absurd (false≢true e), λ e. absurd (refused_is_not_accepted why.refusal why.place 0 e))

pub accepts_exact : (image : List ℕ) → (accepts (verdict image) ≡ true) ↔ Keeps image
accepts_exact image = Iff.trans (accepts_iff (verdict image) (λ n e. accepted_count image e)) (verdict_exact image)

-- the bodies of a design under other labels
module _ (d e : Design) (labels : List ℕ) (same : e ≡ relabelled d labels) where
  plain_too : Plain d → Plain e
  plain_too plain = rw same plain

  module _ (own : PlainLabels e) (scoped : (s : ℕ) → s < length e.states → Scoped e s (body_of e s)) where
    bodies_flow : ((s : ℕ) → s < length e.states → Flows e s (state_label e s ∷ []) (body_of e s)) → BodiesFlow d labels (length d.states)
    bodies_flow flows s l = rw (relabelled_body d labels s) at (under s l)
      where
        here : (s : ℕ) → s < length e.states → PlainFlows e s (state_label e s ∷ []) (body_of e s)
        here s l = (plain_flows_iff e own s (state_label e s ∷ []) (body_of e s) (own.states s, tt) (scoped s l)).0 (flows s l)

        under : (s : ℕ) → s < length d.states → PlainFlows (relabelled d labels) s (state_label d s ∷ []) (body_of (relabelled d labels) s)
        under = rw same at here

    flow_bodies : BodiesFlow d labels (length d.states) → (s : ℕ) → s < length e.states → Flows e s (state_label e s ∷ []) (body_of e s)
    flow_bodies flows s l = (plain_flows_iff e own s (state_label e s ∷ []) (body_of e s) (own.states s, tt) (scoped s l)).1 (here s l)
      where
        under : (s : ℕ) → s < length d.states → PlainFlows (relabelled d labels) s (state_label d s ∷ []) (body_of (relabelled d labels) s)
        under s l = rw (relabelled_body d labels s) (flows s l)

        here : (s : ℕ) → s < length e.states → PlainFlows e s (state_label e s ∷ []) (body_of e s)
        here = rw same under

module _ (image : List ℕ) (keeps : DirectoryKeeps image) (structured : StructureKeeps (design_of image)) (plain : Plain (design_of image)) where
  abbrev d : Design
  d = design_of image

  -- ---- raisings of the image as labellings of its design
  module _ (other : List ℕ) (raises : Raises image other) where
    elsewhere : (i : ℕ) → ((r : ℕ) → r < length d.registers → i ≡ offset image Registers + register_length * r → ⊥) → byte_at other i ≡ byte_at image i
    elsewhere i none = raises.elsewhere i (λ inner. none inner.register inner.exists inner.place)

    design_is : design_of other ≡ relabelled d (labels_of (design_of other))
    design_is = other_design image other keeps raises.same_length elsewhere

    -- past the last register both labels are 0
    above_own : AtOrBelow d.rows (labels_of d) (labels_of (design_of other))
    above_own r = go (dec_lt r (length d.registers))
      where
        go : Dec (r < length d.registers) → FlowsTo d.rows (get_or (labels_of d) r 0) (get_or (labels_of (design_of other)) r 0)
        go (yes l) = rw (label_at d r, label_at (design_of other) r) (raises.above r l)
        go (no l) =
            let mine = length-labels d in
            let many = length-labels (design_of other) ∙ registers_same image other keeps raises.same_length elsewhere in
            let a = get_or-eq_default (labels_of d) 0 {n = r} (omega arith) in
            let b = get_or-eq_default (labels_of (design_of other)) 0 {n = r} (omega arith) in
            rw (a, b) (structured.lattice.reflexive 0 (raisable image keeps structured plain).some)

    module _ (good : Keeps other) where
      other_able : Raisable (design_of other)
      other_able = raisable other good.directory good.design.structure (plain_too d (design_of other) (labels_of (design_of other)) design_is plain)

      other_valid : Labelled d (labels_of (design_of other))
      other_valid =
          let own = own_valid (design_of other) other_able in
          let rows : length (design_of other).rows ≡ length d.rows = ap (λ (x : Design). length x.rows) design_is in
          record { enough = length-labels (design_of other) ∙ registers_same image other keeps raises.same_length elsewhere; valid = λ r. let few = own.valid r in omega arith }

      other_flows : BodiesFlow d (labels_of (design_of other)) (length d.states)
      other_flows = bodies_flow d (design_of other) (labels_of (design_of other)) design_is (own_labels (design_of other) other_able) good.design.structure.scoped good.design.flowing

      labels_least : AtOrBelow d.rows (raised_labels d) (labels_of (design_of other))
      unfolding raised_labels
      labels_least =
          let able = raisable image keeps structured plain in
          times_least d able (labels_of (design_of other)) other_valid _ (labels_of d) (own_valid d able) above_own other_flows

  -- ---- the raised image
  raised_label : (r : ℕ) → register_label (design_of (raised_image image)) r ≡ get_or (raised_labels d) r 0
  raised_label r = ap (λ (x : Design). register_label x r) (raised_design image keeps structured plain) ∙ register_label_lem d (raised_labels d) (raised_valid image keeps structured plain).enough r

  pub raised_raises : Raises image (raised_image image)
  unfolding raised_image
  raised_raises =
      record {
        same_length = raised_length image keeps structured plain;
        elsewhere = λ i outer. go i outer (label_byte_lem (offset image Registers) (length d.registers) i);
        above = λ r l. rw (raised_label r) (rw (label_at d r) at ((raised_labels_lem d (raisable image keeps structured plain)).above r));
      }
    where
      go : (i : ℕ) → (IsInnerLabel image i → ⊥)
          → ((r : ℕ) × (r < length d.registers) × (i ≡ offset image Registers + register_length * r)) ⊎ ((r : ℕ) → r < length d.registers → i ≡ offset image Registers + register_length * r → ⊥)
          → byte_at (put_labels (offset image Registers) (raised_labels d) image) i ≡ byte_at image i
      go i outer (inl (r, below, here)) = kinds (ℕ_discrete (register_at d r).kind 0)
        where
          kinds : Dec ((register_at d r).kind ≡ 0) → byte_at (put_labels (offset image Registers) (raised_labels d) image) i ≡ byte_at image i
          kinds (yes inner) = absurd (outer (record { register = r; exists = below; inner = inner; place = here }))
          kinds (no port) =
              let kind = (structured.registers r below).kind in
              let many = (raised_valid image keeps structured plain).enough in
              let kept = (raised_labels_lem d (raisable image keeps structured plain)).ports r (omega arith) in
              let counted = register_count image in
              let p = placed image keeps in
              let a = p.registers in
              let b = p.states in
              let c = p.commands in
              let e = p.inside in
              rw here
              (put_at (offset image Registers) (raised_labels d) image r (omega arith) (omega arith)
              ∙ kept
              ∙ label_at d r
              ∙ (register_is image r (omega arith)).label)
      go i outer (inr none) =
          let many = (raised_valid image keeps structured plain).enough in
          put_elsewhere (offset image Registers) (raised_labels d) image i (λ r l. none r (omega arith))

  -- ---- the theorems, by the rules of the image
  raised_able : Raisable (design_of (raised_image image))
  raised_able = raisable (raised_image image) (raised_directory image keeps structured plain) (raised_structure image keeps structured plain) (raised_plain image keeps structured plain)

  raised_keeps : (other : List ℕ) → AcceptedRaising image other → Keeps (raised_image image)
  raised_keeps other accepted =
      let able = raisable image keeps structured plain in
      let r = accepted.raises in
      let k = accepted.keeps in
      let flows = once_flows d able (labels_of (design_of other)) (other_valid other r k) (raised_labels d) (raised_valid image keeps structured plain) (labels_least other r k) (other_flows other r k) (raised_settled d able) in
      record {
        directory = raised_directory image keeps structured plain;
        design = record {
          structure = raised_structure image keeps structured plain;
          flowing = flow_bodies d (design_of (raised_image image)) (raised_labels d) (raised_design image keeps structured plain) (own_labels (design_of (raised_image image)) raised_able) (raised_structure image keeps structured plain).scoped flows;
        };
      }

  raised_least : Keeps (raised_image image) → LeastRaising image (raised_image image)
  raised_least good =
      record {
        accepted = record { raises = raised_raises; keeps = good };
        least = λ other accepted r l. rw (raised_label r, ← (label_at (design_of other) r)) (labels_least other accepted.raises accepted.keeps r);
      }

-- ---- the theorems, of images without parameters
-- "The result is the least: every accepted raising gives each register a label at or above ours."
pub least : (image : List ℕ) → structure image ≡ Accepted 0 → Plain (design_of image) → accepts (verdict (raised_image image)) ≡ true → LeastRaising image (raised_image image)
least image structured plain accepted =
    let (keeps, rules) = (structure_exact image).0 structured in
    raised_least image keeps rules plain ((accepts_exact (raised_image image)).0 accepted)

-- "exactly if no accepted raising exists"
pub exists_exactly : (image : List ℕ) → structure image ≡ Accepted 0 → Plain (design_of image) → (accepts (verdict (raised_image image)) ≡ true) ↔ ((raised : List ℕ) × AcceptedRaising image raised)
exists_exactly image structured plain =
    let (keeps, rules) = (structure_exact image).0 structured in (
      λ accepted. (raised_image image, (least image structured plain accepted).accepted),
      λ some. (accepts_exact (raised_image image)).1 (raised_keeps image keeps rules plain some.0 some.1),
    )

-- "An accepted image comes back unchanged."
pub accepted_raises_itself : (image : List ℕ) → Keeps image → AcceptedRaising image image
accepted_raises_itself image good =
    record {
      raises = record {
        same_length = refl;
        elsewhere = λ i outer. refl;
        above = λ r l. good.design.structure.lattice.reflexive _ (good.design.structure.registers r l).label;
      };
      keeps = good;
    }

pub comes_back : (image : List ℕ) → verdict image ≡ Accepted 0 → Plain (design_of image) → raised_image image ≡ image
unfolding raised_image
comes_back image accepted plain =
    let good = (verdict_exact image).0 accepted in
    let keeps = good.directory in
    let rules = good.design.structure in
    let d = design_of image in
    let able = raisable image keeps rules plain in
    let own = raised_labels_lem d able in
    let back = labels_least image keeps rules plain image (accepted_raises_itself image good).raises good in
    let same = below_same d rules.lattice (raised_labels d) (labels_of d) own.valid (own_valid d able) back own.above in
    ap (λ (labels : List ℕ). put_labels (offset image Registers) labels image) same ∙ own_labelled image keeps

-- one pass more would move nothing
pub at_rest : (image : List ℕ) → structure image ≡ Accepted 0 → Plain (design_of image) → raised_once (design_of image) (raised_labels (design_of image)) ≡ raised_labels (design_of image)
at_rest image structured plain = let (keeps, rules) = (structure_exact image).0 structured in raised_settled (design_of image) (raisable image keeps rules plain)

-- a raising of an image without parameters has none
pub raises_plain : (image raised : List ℕ) → structure image ≡ Accepted 0 → Raises image raised → Plain (design_of image) → Plain (design_of raised)
raises_plain image raised structured raises plain =
    let (keeps, rules) = (structure_exact image).0 structured in
    plain_too (design_of image) (design_of raised) (labels_of (design_of raised)) (design_is image keeps rules plain raised raises) plain
