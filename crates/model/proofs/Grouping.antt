-- Runs may be cut: a run of n and then one of m leave what a run of n + m leaves. A refused run depends on its areas alone, as long as the counts are
-- allowed; an accepted one leaves areas that the next one accepts, and bytes that read back as the values it wrote. A run of 0 leaves every byte.
use Rattle.std.specs.Prelude.{Option, Some, None}
use Prim.Native.Nat.{ℕ, zero, suc, ◌+◌, ◌≤◌, ◌<◌}
use mathlib.Core.Path.{◌≡◌, refl, ◌∙◌, ap}
use mathlib.Core.Logic.{◌⊎◌, inl, inr}
use mathlib.Core.Bool.{Bool, true, false, ◌&&◌}
use mathlib.Core.List.{List}
use native.Mathlib.Omega.{arith}
use lib.ListN.{length, get_or, length-take, length-drop, length-append, take-append-drop}
use lib.Seq.{take-append_seam, drop-append_seam}
use borrow.Author.Tests.{eqb-true}
use Rattle.model.specs.declared.Refusal.{Refusal}
use Rattle.model.specs.declared.Refusal.TheVariants.{Area}
use Rattle.model.specs.Limits.{cycles_max}
use Rattle.model.specs.Indices.{lowest_failing}
use Rattle.model.specs.Image.{Design, AreBytes, design_of}
use Rattle.model.specs.Rules.{Keeps}
use Rattle.model.specs.Values.{modulus, words_of, bytes_of}
use Rattle.model.specs.Verdict.{verdict, refused_at, ◌before◌}
use Rattle.model.specs.Answers.{Accepted, Refused, Numbers, numbers_of}
use Rattle.model.specs.Bindings.{binding_sound}
use Rattle.model.specs.Machine.{Areas, target_sound, cycle, cycles, after_last, after_cycles}
use Rattle.model.specs.Calls.{Lent, register_area_kept, target_area_kept, length_answer, content_kept, contents_answer, targets_in, bindings_in, targets_answer, bindings_answer, areas_of, lent_of, run_answer, run}
use Rattle.model.specs.Parties.{perform, RightLengths}
use Rattle.model.proofs.Laws.Booleans.{and_first, and_second}
use Rattle.model.proofs.Laws.Equivalences.{less_iff, at_most_iff}
use Rattle.model.proofs.Laws.Indices.{failing_none}
use Rattle.model.proofs.Laws.Words.{length-words_of, bytes_of_words}
use Rattle.model.proofs.Laws.Cycles.{after_none, after_sum}
use Rattle.model.proofs.Laws.Numbers.{no_number_zero}
use Rattle.model.proofs.Exact.{verdict_exact}
use Rattle.model.proofs.Refused.{image_decides}
use Rattle.model.proofs.Independence.Relation.{Good}
use Rattle.model.proofs.Independence.Widths.{fitting_each}
use Rattle.model.proofs.Independence.Path.{root_live, run_good}
use Rattle.model.proofs.Independence.Calls.{areas_of_lent, length-lent, run_accepted}
use Rattle.model.proofs.Independence.Theorem.{rooted, accepted_design}

-- ---- good areas stay good
after_good : (d : Design) → ((areas : Areas) → Good d areas → Good d (cycle d areas).after) → (n : ℕ) (areas : Areas) → Good d areas → Good d (after_cycles d n areas)
unfolding after_cycles cycles after_last
after_good d step zero areas good = good
after_good d step (suc n) areas good = after_good d step n (cycle d areas).after (step areas good)

-- ---- what a run judges beside its count
module _ (image : List ℕ) (lent : Lent) where
  -- a run is accepted where its count is allowed
  pub record Ready : Type 0 where
    pub accepted : verdict image ≡ Accepted 0
    pub lengths : RightLengths (design_of image) lent
    pub contents : (r : ℕ) → r < length (design_of image).registers → content_kept (design_of image) lent.registers r ≡ true
    pub sound : (s : ℕ) → s < length (design_of image).states → target_sound (design_of image) (targets_in (design_of image) lent.targets) s ≡ true
    pub bound : (s : ℕ) → s < length (design_of image).states → binding_sound (design_of image) (targets_in (design_of image) lent.targets) (bindings_in (design_of image) lent.targets) s ≡ true

  -- a run is refused, whatever its count
  pub record Refuses : Type 0 where
    pub refusal : Refusal
    pub place : ℕ
    pub refused : (n : ℕ) → run image lent n ≡ record { answer = Refused refusal place; lent = lent }

  pub ready_or_refuses : Ready ⊎ Refuses
  ready_or_refuses = by_verdict (image_decides image).either
    where
      d : Design
      d = design_of image

      by_bindings : verdict image ≡ Accepted 0 → (register_area_kept d lent.registers && target_area_kept d lent.targets) ≡ true
          → lowest_failing (content_kept d lent.registers) (length d.registers) ≡ None
          → lowest_failing (target_sound d (targets_in d lent.targets)) (length d.states) ≡ None
          → (f : Option ℕ) → lowest_failing (binding_sound d (targets_in d lent.targets) (bindings_in d lent.targets)) (length d.states) ≡ f
          → Ready ⊎ Refuses
      by_bindings accepted kept fit sound (Some s) e =
          inr (record { refusal = Area; place = s; refused = λ n. unfold run run_answer length_answer contents_answer targets_answer bindings_answer refused_at ◌before◌ in rw (accepted, kept, fit, sound, e) })
      by_bindings accepted kept fit sound None e =
          let registers = and_first (register_area_kept d lent.registers) (target_area_kept d lent.targets) kept in
          let targets = and_second (register_area_kept d lent.registers) (target_area_kept d lent.targets) kept in
          inl (
          record {
            accepted = accepted;
            lengths = record { registers = eqb-true _ _ registers; targets = eqb-true _ _ targets };
            contents = failing_none (content_kept d lent.registers) (length d.registers) fit;
            sound = failing_none (target_sound d (targets_in d lent.targets)) (length d.states) sound;
            bound = failing_none (binding_sound d (targets_in d lent.targets) (bindings_in d lent.targets)) (length d.states) e;
          }
          )

      by_targets : verdict image ≡ Accepted 0 → (register_area_kept d lent.registers && target_area_kept d lent.targets) ≡ true
          → lowest_failing (content_kept d lent.registers) (length d.registers) ≡ None
          → (f : Option ℕ) → lowest_failing (target_sound d (targets_in d lent.targets)) (length d.states) ≡ f
          → Ready ⊎ Refuses
      by_targets accepted kept fit (Some s) e =
          inr (record { refusal = Area; place = s; refused = λ n. unfold run run_answer length_answer contents_answer targets_answer refused_at ◌before◌ in rw (accepted, kept, fit, e) })
      by_targets accepted kept fit None e = by_bindings accepted kept fit e (lowest_failing (binding_sound d (targets_in d lent.targets) (bindings_in d lent.targets)) (length d.states)) refl

      by_contents : verdict image ≡ Accepted 0 → (register_area_kept d lent.registers && target_area_kept d lent.targets) ≡ true
          → (f : Option ℕ) → lowest_failing (content_kept d lent.registers) (length d.registers) ≡ f
          → Ready ⊎ Refuses
      by_contents accepted kept (Some r) e =
          inr (record { refusal = Area; place = r; refused = λ n. unfold run run_answer length_answer contents_answer refused_at ◌before◌ in rw (accepted, kept, e) })
      by_contents accepted kept None e = by_targets accepted kept e (lowest_failing (target_sound d (targets_in d lent.targets)) (length d.states)) refl

      by_lengths : verdict image ≡ Accepted 0 → (b : Bool) → (register_area_kept d lent.registers && target_area_kept d lent.targets) ≡ b → Ready ⊎ Refuses
      by_lengths accepted true e = by_contents accepted e (lowest_failing (content_kept d lent.registers) (length d.registers)) refl
      by_lengths accepted false e =
          inr (record { refusal = Area; place = 0; refused = λ n. unfold run run_answer length_answer refused_at ◌before◌ in rw (accepted, e) })

      by_verdict : (verdict image ≡ Accepted 0) ⊎ ((r : Refusal) × (p : ℕ) × (verdict image ≡ Refused r p)) → Ready ⊎ Refuses
      by_verdict (inl accepted) = by_lengths accepted (register_area_kept d lent.registers && target_area_kept d lent.targets) refl
      by_verdict (inr (r, p, e)) = inr (record { refusal = r; place = p; refused = λ n. unfold run run_answer ◌before◌ in rw e })

  -- ---- a run of areas that are ready
  module _ (ready : Ready) where
    pub ready_run : (n : ℕ) → n ≤ cycles_max → run image lent n ≡ record { answer = Accepted n; lent = lent_of (after_cycles (design_of image) n (areas_of (design_of image) lent)) }
    unfolding perform
    ready_run n l = run_accepted image ready.accepted lent ready.lengths ready.contents ready.sound ready.bound n (at_most_iff.1 l)

    pub ready_good : Good (design_of image) (areas_of (design_of image) lent)
    unfolding areas_of content_kept
    ready_good =
        let registers = (design_of image).registers in
        let size = length-words_of (length registers) lent.registers in
        record {
          registers_length = size;
          targets_length = let whole = ready.lengths.targets in length-take (length (design_of image).states) lent.targets ∙ omega arith;
          fitting = fitting_each registers (words_of (length registers) lent.registers) size (λ r l. less_iff.0 (ready.contents r l));
          sound = ready.sound;
          bindings_length = let whole = ready.lengths.targets in let rest = length-drop (length (design_of image).states) lent.targets in rest ∙ omega arith;
          bound = ready.bound;
        }

    -- the bytes of an area of the right length are those of its values
    pub ready_back : AreBytes lent.registers → lent_of (areas_of (design_of image) lent) ≡ lent
    unfolding areas_of lent_of
    ready_back bytes = rw (take-append-drop (length (design_of image).states) lent.targets, bytes_of_words (length (design_of image).registers) lent.registers bytes ready.lengths.registers)

-- an accepted run of any length leaves areas that are good
module _ (image : List ℕ) (accepted : verdict image ≡ Accepted 0) where
  keeps : Keeps image
  keeps = (verdict_exact image).0 accepted

  pub cycles_good : (n : ℕ) (areas : Areas) → Good (design_of image) areas → Good (design_of image) (after_cycles (design_of image) n areas)
  unfolding cycle
  cycles_good =
      after_good (design_of image) (λ areas. run_good (design_of image) (accepted_design image keeps) (length (design_of image).states) 0 areas (root_live (design_of image) (accepted_design image keeps) areas (rooted image keeps.directory)))

  -- good areas, written as bytes, are ready
  pub good_ready : (areas : Areas) → Good (design_of image) areas → Ready image (lent_of areas)
  unfolding lent_of content_kept areas_of
  good_ready areas good =
      let d = design_of image in
      let back : words_of (length d.registers) (bytes_of areas.registers) ≡ areas.registers = ap (λ (a : Areas). a.registers) (areas_of_lent d keeps.design.structure areas good) in
      record {
        accepted = accepted;
        lengths = record { registers = length-lent d keeps.design.structure areas good; targets = let first = good.targets_length in let second = good.bindings_length in let both = length-append areas.targets areas.bindings in omega arith };
        contents = λ r l. (less_iff {a = get_or (words_of (length d.registers) (bytes_of areas.registers)) r 0} {b = modulus d.registers r}).1 (rw back (good.fitting r));
        sound = λ s l. rw (← good.targets_length, take-append_seam areas.targets areas.bindings) (good.sound s l);
        bound = λ s l. rw (← good.targets_length, take-append_seam areas.targets areas.bindings, drop-append_seam areas.targets areas.bindings) (good.bound s l);
      }

-- ---- runs one after the other
-- three answers in numbers: all accepted, each with its count, or all refused alike
abbrev pub Grouped : ℕ → ℕ → Numbers → Numbers → Numbers → Type 0
Grouped n m first second whole =
    ((first ≡ record { number = 0; place = 0; count = n })
    × (second ≡ record { number = 0; place = 0; count = m })
    × (whole ≡ record { number = 0; place = 0; count = n + m }))
    ⊎ ((first.number ≡ 0 → ⊥) × (second ≡ first) × (whole ≡ first))

pub grouped : (image : List ℕ) (lent : Lent) (n m : ℕ) → n + m ≤ cycles_max
    → ((run image (run image lent n).lent m).lent ≡ (run image lent (n + m)).lent)
    × Grouped n m (numbers_of (run image lent n).answer) (numbers_of (run image (run image lent n).lent m).answer) (numbers_of (run image lent (n + m)).answer)
grouped image lent n m l = go (ready_or_refuses image lent)
  where
    d : Design
    d = design_of image

    areas : Areas
    areas = areas_of d lent

    go : Ready image lent ⊎ Refuses image lent
        → ((run image (run image lent n).lent m).lent ≡ (run image lent (n + m)).lent)
        × Grouped n m (numbers_of (run image lent n).answer) (numbers_of (run image (run image lent n).lent m).answer) (numbers_of (run image lent (n + m)).answer)
    go (inl ready) =
        let first = ready_run image lent ready n (omega arith) in
        let good = cycles_good image ready.accepted n areas (ready_good image lent ready) in
        let between = good_ready image ready.accepted (after_cycles d n areas) good in
        let second = ready_run image (lent_of (after_cycles d n areas)) between m (omega arith) in
        let whole = ready_run image lent ready (n + m) l in
        rw (first, second, whole, areas_of_lent d (keeps image ready.accepted).design.structure (after_cycles d n areas) good, after_sum d n m areas) (refl, inl (refl, refl, refl))
    go (inr refuses) =
        rw (refuses.refused n, refuses.refused m, refuses.refused (n + m)) (refl, inr (no_number_zero refuses.refusal, refl, refl))

-- ---- a run of 0
pub none_left : (image : List ℕ) (lent : Lent) → AreBytes lent.registers → (run image lent 0).lent ≡ lent
none_left image lent bytes = go (ready_or_refuses image lent)
  where
    go : Ready image lent ⊎ Refuses image lent → (run image lent 0).lent ≡ lent
    go (inl ready) = rw (ready_run image lent ready 0 (omega arith), after_none (design_of image), ready_back image lent ready bytes)
    go (inr refuses) = rw (refuses.refused 0)
