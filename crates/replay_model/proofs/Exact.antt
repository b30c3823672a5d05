-- A replay refuses exactly: it judges as a run does, then the cycles of its trace, then the records in one pass; each stage decides its pass of the table.
use Rattle.std.specs.Prelude.{Option, Some, None}
use Prim.Native.Nat.{ℕ, ◌<◌, ◌^◌}
use mathlib.Core.Path.{◌≡◌, refl, sym, ◌∙◌, ap}
use mathlib.Core.Logic.Iff
use mathlib.Core.Logic.{◌↔◌, inl, inr}
use mathlib.Core.Bool.{Bool, true, false, ◌&&◌, cond}
use mathlib.Core.List.{List, [], ◌∷◌}
use lib.ListN.{length}
use Rattle.model.specs.declared.Refusal.{Refusal}
use Rattle.model.specs.declared.Refusal.TheVariants.{NoPort, PortValue}
use Rattle.model.specs.Answers.{Accepted, Refused}
use Rattle.model.specs.Indices.{lowest_failing}
use Rattle.model.specs.Image.{Design, design_of, register_at}
use Rattle.model.specs.Calls.{Lent, is_writable}
use Rattle.model.specs.Refusals.{Pass, ◌asks◌, each, KeptAt, BrokenAt, AllKept, FirstBroken, in_numbers, Exactly}
use Rattle.model.proofs.Laws.Booleans.{true_or_false}
use Rattle.model.proofs.Laws.Equivalences.{less_iff, equal_iff, and_iff}
use Rattle.model.proofs.Laws.Verdict.{refused_is_not_accepted, same_refusal}
use Rattle.model.proofs.Laws.Found.{at_is_not_nowhere}
use Rattle.model.proofs.Laws.Broken.{Finds, finds_at, Decides, decides_before, decides_none}
use Rattle.model.proofs.Laws.Finds.{finds_each}
use Rattle.model.proofs.Refused.{stage, run_decides, exactly}
use Rattle.replay_model.specs.declared.TraceRecord.{TraceRecord}
use Rattle.replay_model.specs.Traces.{record_at, superseded_in}
use Rattle.replay_model.specs.Calls.{trace_answer, register_kept, value_kept, record_answer, records_answer, replay_answer, replay}
use Rattle.replay_model.specs.Rules.{NamesPort, ValueFits, replay_table}
use Rattle.replay_model.proofs.Laws.{cycle_iff}
use Rattle.model.proofs.Laws.Left.{left_answer}

-- ---- the pass over the records: two rules, of which the second asks only where the first is kept
module _ (d : Design) (trace : List TraceRecord) where
  abbrev Names : ℕ → Type 0
  Names = NamesPort d trace

  abbrev Fits : ℕ → Type 0
  Fits i = (record_at trace i).value < 2 ^ (register_at d (record_at trace i).register).width

  abbrev record_pass : Pass
  record_pass = NoPort asks each (length trace) Names ∷ PortValue asks each (length trace) (ValueFits d trace) ∷ []

  pub register_iff : (i : ℕ) → (register_kept d trace i ≡ true) ↔ Names i
  unfolding register_kept is_writable
  register_iff i = Iff.trans (and_iff less_iff equal_iff) (λ h. record { exists = h.0; port = h.1 }, λ k. (k.exists, k.port))

  pub record_iff : (i : ℕ) → ((register_kept d trace i && value_kept d trace i) ≡ true) ↔ (Names i × Fits i)
  unfolding value_kept
  record_iff i = and_iff (register_iff i) less_iff

  abbrev found : Option ℕ
  found = lowest_failing (λ i. register_kept d trace i && value_kept d trace i) (length trace)

  record_finds : Finds found (each (length trace) (λ i. Names i × Fits i))
  record_finds = finds_each record_iff

  both_kept : (place : ℕ) → each (length trace) (λ i. Names i × Fits i) place ↔ KeptAt record_pass place
  both_kept place = (λ h. (λ l. (h l).0, (λ l p. (h l).1, tt)), λ k l. (k.0 l, k.1.0 l (k.0 l)))

  -- which refusal a bad record breaks
  abbrev refusal_at : ℕ → Refusal
  refusal_at i = cond (register_kept d trace i) PortValue NoPort

  answer_at : (i : ℕ) → record_answer d trace (Some i) ≡ Refused (refusal_at i) i
  unfolding record_answer
  answer_at i = go (register_kept d trace i)
    where
      go : (b : Bool) → cond b (Refused PortValue i) (Refused NoPort i) ≡ Refused (cond b PortValue NoPort) i
      go true = refl
      go false = refl

  broken_here : (i : ℕ) → found ≡ Some i → BrokenAt record_pass (refusal_at i) i
  broken_here i e = go (register_kept d trace i) refl
    where
      go : (b : Bool) → register_kept d trace i ≡ b → BrokenAt record_pass (cond b PortValue NoPort) i
      go true t = let names = (register_iff i).0 t in inr (inl (refl, λ fits. record_finds.broken i e (λ l. (names, fits l names))))
      go false t = inl (refl, λ names. record_finds.broken i e (λ l. absurd (true_or_false (register_kept d trace i) ((register_iff i).1 (names l)) t)))

  -- a record breaks one of the two
  broken_by : (i : ℕ) (r : Refusal) → BrokenAt record_pass r i → refusal_at i ≡ r
  broken_by i r broken = go (register_kept d trace i) refl broken
    where
      go : (b : Bool) → register_kept d trace i ≡ b → BrokenAt record_pass r i → cond b PortValue NoPort ≡ r
      go true t (inl h) = absurd (h.1 (λ l. (register_iff i).0 t))
      go true t (inr (inl h)) = h.0
      go true t (inr (inr h)) = absurd h
      go false t (inl h) = h.0
      go false t (inr (inl h)) = absurd (h.1 (λ l names. absurd (true_or_false (register_kept d trace i) ((register_iff i).1 names) t)))
      go false t (inr (inr h)) = absurd h

  not_kept : (i : ℕ) (r : Refusal) → BrokenAt record_pass r i → KeptAt record_pass i → ⊥
  not_kept i r (inl h) kept = h.1 kept.0
  not_kept i r (inr (inl h)) kept = h.1 kept.1.0
  not_kept i r (inr (inr h)) kept = h

  first_found : (r : Refusal) (place : ℕ) → FirstBroken (record_pass ∷ []) r place → found ≡ Some place
  first_found r place (inl h) =
      finds_at record_finds place (λ kept. not_kept place r h.0 ((both_kept place).0 kept)) (λ k l. (both_kept k).1 (h.1 k l))
  first_found r place (inr h) = absurd h.1

  first_by : (r : Refusal) (place : ℕ) → FirstBroken (record_pass ∷ []) r place → refusal_at place ≡ r
  first_by r place (inl h) = broken_by place r h.0
  first_by r place (inr h) = absurd h.1

  records_decide : Decides (records_answer d trace) 0 (record_pass ∷ [])
  unfolding records_answer
  records_decide = go found refl
    where
      go : (f : Option ℕ) → found ≡ f → Decides (record_answer d trace found) 0 (record_pass ∷ [])
      go None e =
          let accepts : record_answer d trace found ≡ Accepted 0 = unfold record_answer in rw e in
          let kept : AllKept (record_pass ∷ []) = (λ place. (both_kept place).0 (record_finds.nowhere e place), tt) in
          record {
            either = inl accepts;
            accepts = (λ h. kept, λ h. accepts);
            refuses = λ r place. (λ h. absurd (refused_is_not_accepted r place 0 (sym h ∙ accepts)), λ h. absurd (at_is_not_nowhere place (sym (first_found r place h) ∙ e)));
          }
      go (Some i) e =
          let refuses : record_answer d trace found ≡ Refused (refusal_at i) i = rw e (answer_at i) in
          record {
            either = inr (refusal_at i, i, refuses);
            accepts = (λ h. absurd (refused_is_not_accepted _ _ _ (sym refuses ∙ h)), λ h. absurd (record_finds.broken i e ((both_kept i).1 (h.0 i))));
            refuses = λ r place. (
              λ h. let same = same_refusal (sym refuses ∙ h) in rw (← same.0, ← same.1) (inl (broken_here i e, λ k l. (both_kept k).0 (record_finds.lower i e k l))),
              λ h. rw (first_found r place h) (answer_at place ∙ ap (λ (refusal : Refusal). Refused refusal place) (first_by r place h)),
            );
          }

module _ (image : List ℕ) (lent : Lent) (trace : List TraceRecord) (n : ℕ) where
  pub replay_decides : Decides (replay_answer image lent trace n) (superseded_in trace) (replay_table image lent trace n)
  unfolding replay_answer trace_answer
  replay_decides =
      decides_before
      (run_decides image lent n)
      (λ kept. stage (finds_each (cycle_iff trace n)) (decides_before (records_decide (design_of image) trace) (λ sound. decides_none (superseded_in trace))))

  -- a replay leaves its answer
  pub replay_answer_lem : (replay image lent trace n).answer ≡ replay_answer image lent trace n
  unfolding replay
  replay_answer_lem = left_answer (replay_answer image lent trace n) lent _

  pub replay_exactly : Exactly (replay_table image lent trace n) (superseded_in trace) lent (in_numbers (replay image lent trace n))
  unfolding replay
  replay_exactly = exactly _ replay_decides
