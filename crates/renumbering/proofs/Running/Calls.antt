-- What a call does with the bytes of good areas: from a reset on, whether it is refused depends on its arguments and the records of the registers alone, and what it leaves is the bytes
-- of areas again, since the bytes that a call writes read back as the values it wrote.
use Prim.Native.Nat.{ℕ}
use mathlib.Core.Path.{◌≡◌, refl, ◌∙◌, ap}
use mathlib.Core.Bool.{Bool, true, false, cond}
use mathlib.Core.List.{List, [], ◌∷◌, map}
use lib.Dec.{leb}
use lib.ListN.{length}
use Rattle.model.specs.declared.Refusal.TheVariants.{NoPort, CycleCount, PortValue}
use Rattle.model.specs.Answers.{Answer, Accepted, Refused}
use Rattle.model.specs.Limits.{cycles_max}
use Rattle.model.specs.Image.{Design, design_of}
use Rattle.model.specs.Rules.{StructureKeeps}
use Rattle.model.specs.Verdict.{verdict}
use Rattle.model.specs.Values.{fits, words_of, bytes_of}
use Rattle.model.specs.Machine.{Areas, reset_areas, cycles, after_cycles}
use Rattle.model.specs.Calls.{is_writable, areas_of, lent_of}
use Rattle.model.specs.Parties.{Call, resets, writes, runs, perform, Event, was_reset, was_written, cycled, events_of}
use Rattle.model.proofs.Exact.{verdict_exact}
use Rattle.model.proofs.Grouping.{Ready, good_ready}
use Rattle.model.proofs.Independence.Relation.{Good, with_register}
use Rattle.model.proofs.Independence.Calls.{areas_of_lent, written, reset_leaves, write_refused, write_too_large, write_accepted, run_refused, run_accepted}

-- ---- what a call answers, makes of areas, and does
module _ (d : Design) where
  unfoldable pub answered : Call → Answer
  answered resets = Accepted 0
  answered (writes r v) = cond (is_writable d r) (cond (fits d.registers r v) (Accepted 0) (Refused PortValue r)) (Refused NoPort r)
  answered (runs n) = cond (leb n cycles_max) (Accepted n) (Refused CycleCount 0)

  unfoldable pub made : Areas → Call → Areas
  made a resets = reset_areas d
  made a (writes r v) = cond (is_writable d r) (cond (fits d.registers r v) (with_register r v a) a) a
  made a (runs n) = cond (leb n cycles_max) (after_cycles d n a) a

  unfoldable pub happened : Areas → Call → List Event
  happened a resets = was_reset ∷ []
  happened a (writes r v) = cond (is_writable d r) (cond (fits d.registers r v) (was_written r v ∷ []) []) []
  happened a (runs n) = cond (leb n cycles_max) (map cycled (cycles d n a)) []

module _ (image : List ℕ) (accepted : verdict image ≡ Accepted 0) (a : Areas) (good : Good (design_of image) a) where
  structure : StructureKeeps (design_of image)
  structure = ((verdict_exact image).0 accepted).design.structure

  ready : Ready image (lent_of a)
  ready = good_ready image accepted a good

  back : areas_of (design_of image) (lent_of a) ≡ a
  back = areas_of_lent (design_of image) structure a good

  -- the bytes of a port write
  written_lent : (r v : ℕ) → written (design_of image) (lent_of a) r v ≡ lent_of (with_register r v a)
  unfolding areas_of lent_of
  written_lent r v =
      let words : words_of (length (design_of image).registers) (bytes_of a.registers) ≡ a.registers = ap (λ (x : Areas). x.registers) back in
      rw words

  pub performed : (call : Call) → perform image (lent_of a) call ≡ record { answer = answered (design_of image) call; lent = lent_of (made (design_of image) a call) }
  unfolding perform answered made
  performed resets = reset_leaves image accepted (lent_of a) ready.lengths
  performed (writes r v) = go (is_writable (design_of image) r) (fits (design_of image).registers r v) refl refl
    where
      go : (w f : Bool)
          → is_writable (design_of image) r ≡ w
          → fits (design_of image).registers r v ≡ f
          → perform image (lent_of a) (writes r v)
          ≡ record { answer = cond w (cond f (Accepted 0) (Refused PortValue r)) (Refused NoPort r); lent = lent_of (cond w (cond f (with_register r v a) a) a) }
      go true true e l = write_accepted image accepted (lent_of a) ready.lengths ready.contents r v e l ∙ rw (written_lent r v)
      go true false e l = write_too_large image accepted (lent_of a) ready.lengths ready.contents r v e l
      go false f e l = write_refused image accepted (lent_of a) ready.lengths ready.contents r v e
  performed (runs n) = go (leb n cycles_max) refl
    where
      go : (w : Bool)
          → leb n cycles_max ≡ w
          → perform image (lent_of a) (runs n)
          ≡ record { answer = cond w (Accepted n) (Refused CycleCount 0); lent = lent_of (cond w (after_cycles (design_of image) n a) a) }
      go true e = run_accepted image accepted (lent_of a) ready.lengths ready.contents ready.sound ready.bound n e ∙ rw back
      go false e = run_refused image accepted (lent_of a) ready.lengths ready.contents ready.sound ready.bound n e

  pub events_happened : (call : Call) → events_of (answered (design_of image) call) image (lent_of a) call ≡ happened (design_of image) a call
  unfolding events_of answered happened
  events_happened resets = refl
  events_happened (writes r v) = go (is_writable (design_of image) r) (fits (design_of image).registers r v)
    where
      go : (w f : Bool)
          → events_of (cond w (cond f (Accepted 0) (Refused PortValue r)) (Refused NoPort r)) image (lent_of a) (writes r v) ≡ cond w (cond f (was_written r v ∷ []) []) []
      go true true = refl
      go true false = refl
      go false f = refl
  events_happened (runs n) = go (leb n cycles_max)
    where
      go : (w : Bool) → events_of (cond w (Accepted n) (Refused CycleCount 0)) image (lent_of a) (runs n) ≡ cond w (map cycled (cycles (design_of image) n a)) []
      go true = rw back
      go false = refl
