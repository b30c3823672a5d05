-- The call answers by its table: its last rule asks for an accepted raising, and the raised image of an image without parameters is accepted exactly where there is
-- one. What it leaves follows.
use Rattle.std.specs.Prelude.{Option, Some, None}
use Prim.Native.Nat.{ℕ}
use mathlib.Core.Path.{◌≡◌, refl, sym, ◌∙◌, ap}
use mathlib.Core.Logic.Iff
use mathlib.Core.Logic.{◌↔◌, ◌⊎◌, inl, inr}
use mathlib.Core.Bool.{Bool, true, false, not, false≢true}
use native.Mathlib.Omega.{arith}
use mathlib.Core.List.{List}
use lib.ListN.{length}
use lib.Dec.{eqb}
use Rattle.model.specs.declared.Refusal.{Refusal}
use Rattle.model.specs.declared.Refusal.TheVariants.{Area, NoRaising, RaiseParameters}
use Rattle.model.specs.Answers.{Answer, Accepted, Refused, numbers_of}
use Rattle.model.specs.Image.{design_of}
use Rattle.model.specs.Parameters.{has_parameters}
use Rattle.model.specs.Raising.{LeastRaising, accepts, raised_image, raise_answer, raise}
use Rattle.model.specs.Refusals.{raise_table, in_numbers, Exactly}
use Rattle.model.specs.Verdict.{◌before◌, refused_at, at_zero_unless, structure, verdict}
use Rattle.model.proofs.Laws.Equivalences.{equal_iff}
use Rattle.model.proofs.Laws.Plain.{Plain, plain_iff}
use Rattle.model.proofs.Laws.Found.{zero_unless_iff}
use Rattle.model.proofs.Laws.Verdict.{first_accepts, later_accepts, found_nothing, same_refusal}
use Rattle.model.proofs.Laws.Numbers.{no_number_zero, told_refused}
use Rattle.model.proofs.Laws.Left.{left_answer}
use Rattle.model.proofs.Laws.Broken.{Decides, decides_one, decides_before}
use Rattle.model.proofs.Laws.Finds.{finds_zero}
use Rattle.model.proofs.Exact.{structure_exact, structure_counts_nothing, verdict_exact}
use Rattle.model.proofs.Refused.{structure_decides, exactly}
use Rattle.model.proofs.Raising.Theorem.{accepts_exact, least, exists_exactly, comes_back, raises_plain}
use Rattle.model.specs.Calls.{Left}

module _ (image out : List ℕ) where
  -- ---- the answer
  pub raise_decides : Decides (raise_answer image out) 0 (raise_table image out)
  unfolding raise_answer
  raise_decides =
      decides_before
      (structure_decides image)
      (λ structured. decides_before
      (decides_one (finds_zero (plain_iff (design_of image))))
      (λ plain. decides_before
      (decides_one (finds_zero equal_iff))
      (λ long. decides_one (finds_zero (exists_exactly image ((structure_decides image).accepts.1 structured) ((plain.0 0).0 refl))))))

  raise_answer_lem : (raise image out).answer ≡ raise_answer image out
  unfolding raise
  raise_answer_lem = left_answer (raise_answer image out) out (raised_image image)

  pub raise_answers : Exactly (raise_table image out) 0 out (in_numbers (raise image out))
  unfolding raise
  raise_answers = exactly _ raise_decides

  -- 02, E8: 20, exactly where a state has a parameter
  raise_refuses_parameters : structure image ≡ Accepted 0 → ((raise image out).answer ≡ Refused RaiseParameters 0) ↔ (has_parameters (design_of image) ≡ true)
  unfolding raise_answer ◌before◌ refused_at
  raise_refuses_parameters structured = rw (raise_answer_lem, structured) (by (has_parameters (design_of image)) (at_zero_unless (eqb (length out) (length image))) (at_zero_unless (accepts (verdict (raised_image image)))))
    where
      by : (has : Bool) (f g : Option ℕ) → ((refused_at RaiseParameters (at_zero_unless (not has)) before refused_at Area f before refused_at NoRaising g) ≡ Refused RaiseParameters 0) ↔ (has ≡ true)
      by true f g = (λ e. refl, λ e. refl)
      by false (Some i) g = (λ e. let other = (same_refusal e).0 in let z : ◌≡◌ {A = ℕ} 0 1 = cc in absurd (omega arith), λ e. absurd (false≢true e))
      by false None (Some i) = (λ e. let other = (same_refusal e).0 in let z : ◌≡◌ {A = ℕ} 0 1 = cc in absurd (omega arith), λ e. absurd (false≢true e))
      by false None None = (λ e. let z : ◌≡◌ {A = ℕ} 0 1 = cc in absurd (omega arith), λ e. absurd (false≢true e))

  pub raise_parameters : structure image ≡ Accepted 0 → (numbers_of (raise image out).answer ≡ record { number = 20; place = 0; count = 0 }) ↔ (has_parameters (design_of image) ≡ true)
  raise_parameters structured = Iff.trans (told_refused (raise image out).answer RaiseParameters 0) (raise_refuses_parameters structured)

  -- ---- an acceptance, through its number
  accepted_answer : (numbers_of (raise image out).answer).number ≡ 0 → raise_answer image out ≡ Accepted 0
  accepted_answer e = go raise_decides.either
    where
      go : (raise_answer image out ≡ Accepted 0) ⊎ ((refusal : Refusal) × (place : ℕ) × (raise_answer image out ≡ Refused refusal place)) → raise_answer image out ≡ Accepted 0
      go (inl h) = h
      go (inr (refusal, place, h)) = absurd (no_number_zero refusal (ap (λ (a : Answer). (numbers_of a).number) (sym (raise_answer_lem ∙ h)) ∙ e))

  -- it leaves the raised image
  leaves_raised : raise_answer image out ≡ Accepted 0 → raise image out ≡ record { answer = Accepted 0; lent = raised_image image }
  unfolding raise
  leaves_raised accepted = rw accepted

  accepted_structure : raise_answer image out ≡ Accepted 0 → structure image ≡ Accepted 0
  unfolding raise_answer
  accepted_structure accepted =
      let (n, e) = first_accepts (structure image) _ accepted in
      e ∙ ap Accepted (structure_counts_nothing image n e)

  -- the stages behind the image checks
  abbrev without_parameters : Answer
  without_parameters = refused_at RaiseParameters (at_zero_unless (not (has_parameters (design_of image))))

  abbrev long_enough : Answer
  long_enough = refused_at Area (at_zero_unless (eqb (length out) (length image)))

  accepted_plain : raise_answer image out ≡ Accepted 0 → Plain (design_of image)
  unfolding raise_answer
  accepted_plain accepted =
      let (n, e) = first_accepts without_parameters _ (later_accepts (structure image) _ accepted) in
      (plain_iff (design_of image)).0 (zero_unless_iff.0 (found_nothing RaiseParameters (at_zero_unless (not (has_parameters (design_of image)))) e))

  accepted_raising : raise_answer image out ≡ Accepted 0 → accepts (verdict (raised_image image)) ≡ true
  unfolding raise_answer
  accepted_raising accepted =
      zero_unless_iff.0
      (found_nothing NoRaising (at_zero_unless (accepts (verdict (raised_image image))))
      (later_accepts long_enough _ (later_accepts without_parameters _ (later_accepts (structure image) _ accepted))))

  accepted_length : raise_answer image out ≡ Accepted 0 → length out ≡ length image
  unfolding raise_answer
  accepted_length accepted =
      let (n, e) = first_accepts long_enough _ (later_accepts without_parameters _ (later_accepts (structure image) _ accepted)) in
      equal_iff.0 (zero_unless_iff.0 (found_nothing Area (at_zero_unless (eqb (length out) (length image))) e))

  pub raise_accepts : structure image ≡ Accepted 0 → Plain (design_of image) → length out ≡ length image → accepts (verdict (raised_image image)) ≡ true → raise_answer image out ≡ Accepted 0
  unfolding raise_answer ◌before◌ refused_at
  raise_accepts structured plain long accepted = rw (structured, (plain_iff (design_of image)).1 plain, (equal_iff {a = length out} {b = length image}).1 long, accepted)

  -- "The result is the least"
  pub raise_least : (numbers_of (raise image out).answer).number ≡ 0 → LeastRaising image (raise image out).lent
  raise_least e =
      let accepted = accepted_answer e in
      rw (ap (λ (left : Left (List ℕ)). left.lent) (leaves_raised accepted)) (least image (accepted_structure accepted) (accepted_plain accepted) (accepted_raising accepted))

  -- "An accepted image comes back unchanged."
  pub raise_comes_back : verdict image ≡ Accepted 0 → Plain (design_of image) → length out ≡ length image → raise image out ≡ record { answer = Accepted 0; lent = image }
  raise_comes_back accepted plain long =
      let good = (verdict_exact image).0 accepted in
      let same = comes_back image accepted plain in
      let structured = (structure_exact image).1 (good.directory, good.design.structure) in
      leaves_raised (raise_accepts structured plain long (ap (λ (x : List ℕ). accepts (verdict x)) same ∙ (accepts_exact image).1 good)) ∙ rw same

-- raised twice is raised once
pub raise_twice : (image out again : List ℕ) → (numbers_of (raise image out).answer).number ≡ 0 → length again ≡ length image
    → raise (raise image out).lent again ≡ record { answer = Accepted 0; lent = (raise image out).lent }
raise_twice image out again e long =
    let least = (raise_least image out e).accepted in
    let accepted = accepted_answer image out e in
    let plain = raises_plain image (raise image out).lent (accepted_structure image out accepted) least.raises (accepted_plain image out accepted) in
    raise_comes_back (raise image out).lent again ((verdict_exact (raise image out).lent).1 least.keeps) plain (long ∙ sym least.raises.same_length)

-- what the second area held does not matter: only its length does
pub raise_whatever_held : (image out other : List ℕ) → length other ≡ length out → (numbers_of (raise image out).answer).number ≡ 0 → raise image other ≡ raise image out
raise_whatever_held image out other long e =
    let accepted = accepted_answer image out e in
    let also = raise_accepts image other (accepted_structure image out accepted) (accepted_plain image out accepted) (long ∙ accepted_length image out accepted) (accepted_raising image out accepted) in
    leaves_raised image other also ∙ sym (leaves_raised image out accepted)
