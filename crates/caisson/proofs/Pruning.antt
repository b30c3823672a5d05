-- What the exported pruning, 02, E11, told and left, from its postcondition (`OutContracts`) and no more. That an image holds bytes is a premise of some: a slice of the language does.
use Prim.Native.Nat.{ℕ, ◌≤◌, ◌<◌}
use mathlib.Core.Path.{◌≡◌, sym, ◌∙◌, ap}
use mathlib.Core.List.{List}
use lib.ListN.{length, take}
use Rattle.model.specs.Image.{byte_at, AreBytes, design_of}
use Rattle.model.specs.Answers.{Accepted, Answer, Numbers, numbers_of}
use Rattle.model.specs.Verdict.{verdict, ◌before◌, refused_at, at_zero_unless}
use Rattle.renumbering.specs.Runs.{SameRuns}
use Rattle.pruning_model.specs.Reached.{Reached}
use Rattle.pruning_model.specs.Pruned.{new_state, pruned_image}
use Rattle.pruning_model.specs.Calls.{prune, prune_answer}
use Rattle.pruning_model.proofs.Promises as meaning
use Rattle.caisson.specs.declared.HostAnswer.{HostAnswer}
use Rattle.caisson.specs.Told.{told}
use Rattle.caisson.proofs.Contracts.{Checked}
use Rattle.caisson.proofs.Calls.{told_verdict, verdict_told}
use Rattle.caisson.proofs.OutContracts.{PruneCalled, prune_called}
use Rattle.caisson.proofs.Answered.{lent_told, accepted_told, numbers_told, output_counts}
use Rattle.caisson.proofs.Hosts.{Accepts}
use lib.Dec.{leb}
use Rattle.model.specs.declared.Refusal.TheVariants.{OutputArea}
use Rattle.model.proofs.Laws.Left.{left_answer}

-- ---- what the call told and left
module _ (image area : List ℕ) (h : HostAnswer) (after : List ℕ) (called : PruneCalled image area h after) where
  prune_leaves : after ≡ (prune image area).lent
  prune_leaves = lent_told h after (prune image area) (prune_called image area h after called)

  prune_accepted : h.number ≡ 0 → (numbers_of (prune image area).answer).number ≡ 0
  prune_accepted = accepted_told h after (prune image area) (prune_called image area h after called)

  -- Where it is accepted, the pruned image stands at the beginning of the area,
  pub told_written : h.number ≡ 0 → take (length (pruned_image image)) after ≡ pruned_image image
  told_written accepted = rw prune_leaves (meaning.prune_writes image area (prune_accepted accepted))

  -- "and output bytes beyond the result keep their values", whatever it answers.
  pub told_beyond : (i : ℕ) → length (pruned_image image) ≤ i → byte_at after i ≡ byte_at area i
  told_beyond i behind = rw prune_leaves (meaning.beyond_keeps image area i behind)

  -- so many bytes as it answers are the pruned image, where the image is accepted
  module _ (judged : verdict image ≡ Accepted 0) (written : h.number ≡ 0) where
    answered : (prune image area).answer ≡ (refused_at OutputArea (at_zero_unless (leb (length (pruned_image image)) (length area))) before Accepted (length (pruned_image image)))
    unfolding prune prune_answer ◌before◌
    answered = left_answer (prune_answer image area) area _ ∙ rw judged

    pub prune_count : h.count ≡ length (pruned_image image)
    prune_count =
        ap (λ (x : Numbers). x.count) (numbers_told h after (prune image area) (prune_called image area h after called))
        ∙ ap (λ (a : Answer). (numbers_of a).count) answered
        ∙ output_counts (length (pruned_image image)) _ (ap (λ (a : Answer). (numbers_of a).number) (sym answered) ∙ prune_accepted written)

    pub pruned_written : take h.count after ≡ pruned_image image
    pruned_written = ap (λ (n : ℕ). take n after) prune_count ∙ told_written written

-- ---- what holds of the bytes that were written, where check accepts the image
module _
    (image : List ℕ) (bytes : AreBytes image) (accepts : Accepts image)
    (area : List ℕ) (h : HostAnswer) (after : List ℕ) (called : PruneCalled image area h after) (written : h.number ≡ 0)
  where
    judged : verdict image ≡ Accepted 0
    judged = told_verdict image accepts.answer accepts.checked accepts.accepted

    abbrev result : List ℕ
    result = take h.count after

    is_pruned : result ≡ pruned_image image
    is_pruned = pruned_written image area h after called judged written

    result_judged : verdict result ≡ Accepted 0
    result_judged = rw is_pruned (meaning.pruned_is_accepted image bytes judged)

    pub pruned_accepted : (k : HostAnswer) → Checked result k → told k ≡ record { number = 0; place = 0; count = 0 }
    pruned_accepted k checked = verdict_told result k checked result_judged

    pub pruned_runs : SameRuns image result (Reached (design_of image)) (new_state (design_of image))
    pruned_runs = rw is_pruned (meaning.pruned_runs_alike image bytes judged)

    pub pruned_again : (again : List ℕ) (k : HostAnswer) (last : List ℕ) → PruneCalled result again k last → k.number ≡ 0 → take k.count last ≡ result
    pruned_again again k last called' written' = pruned_written result again k last called' result_judged written' ∙ rw is_pruned (meaning.pruning_twice image bytes judged)

    pub pruned_whole : ((s : ℕ) → s < length (design_of image).states → Reached (design_of image) s) → result ≡ image
    pruned_whole all = is_pruned ∙ meaning.whole_comes_back image bytes judged all

-- An output area as long as the image is never too short.
pub pruned_shorter : (image : List ℕ) → AreBytes image → Accepts image → length (pruned_image image) ≤ length image
pruned_shorter image bytes accepts = meaning.never_longer image bytes (told_verdict image accepts.answer accepts.checked accepts.accepted)
