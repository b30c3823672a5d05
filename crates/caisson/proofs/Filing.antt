-- What the exported filing and comparisons, 02, E12, told and left, from their postconditions (`OutContracts`, `FileContracts`) and no more. That an image holds bytes is a premise of
-- some: a slice of the language does.
use Prim.Native.Nat.{ℕ, ◌≤◌, ◌<◌}
use mathlib.Core.Path.{◌≡◌, refl, sym, ◌∙◌, ap}
use mathlib.Core.Logic.{◌↔◌}
use mathlib.Core.Bool.{false, ◌&&◌}
use mathlib.Core.List.{List, []}
use lib.ListN.{length, take}
use lib.Seq.{take-length}
use contract.Lifetimes.{Lfts}
use denote.Triple.Clauses.{AtExit}
use borrow.Fn.Kinds.{Dens, ended_of}
use Rattle.model.specs.Image.{byte_at, AreBytes, design_of}
use Rattle.model.specs.Answers.{Accepted, Answer, Numbers, numbers_of}
use Rattle.model.specs.Verdict.{verdict, ◌before◌, refused_at, at_zero_unless}
use Rattle.model.specs.Raising.{accepts}
use Rattle.renumbering.specs.Runs.{SameRuns}
use Rattle.filing_model.specs.declared.Earlier.{Earlier}
use Rattle.filing_model.specs.declared.Earlier.TheVariants.{First, Second, Neither}
use Rattle.filing_model.specs.Filed.{filed_image}
use Rattle.filing_model.specs.Same.{DifferAtMostInNumbers}
use Rattle.filing_model.specs.Order.{comes_before}
use Rattle.filing_model.specs.Calls.{file, earlier, handed_back, handed_from, file_answer}
use Rattle.filing_model.proofs.Promises as meaning
use Rattle.caisson.specs.declared.HostAnswer.{HostAnswer}
use Rattle.caisson.specs.declared.HostWhich.{HostWhich}
use Rattle.caisson.specs.Told.{told}
use Rattle.caisson.specs.ToldFiling.{told_which, part_of, bytes_of}
use Rattle.caisson.proofs.Contracts.{Checked}
use Rattle.caisson.proofs.Calls.{told_verdict, verdict_told}
use Rattle.caisson.proofs.OutContracts.{FileCalled, file_called}
use Rattle.caisson.proofs.FileContracts.{EarlierCalled, earlier_called, part_tie}
use Rattle.caisson.proofs.caisson_earlier_part.Kinds as part-kinds
use Rattle.caisson.proofs.caisson_earlier_part.Reads as part-reads
use Rattle.caisson.proofs.Answered.{lent_told, accepted_told, numbers_told, output_counts}
use Rattle.caisson.proofs.Hosts.{Accepts}
use lib.Dec.{leb}
use Rattle.model.specs.declared.Refusal.TheVariants.{OutputArea}
use Rattle.model.proofs.Laws.Left.{left_answer}

-- ---- what filing told and left
module _ (image area : List ℕ) (h : HostAnswer) (after : List ℕ) (called : FileCalled image area h after) where
  file_leaves : after ≡ (file image area).lent
  file_leaves = lent_told h after (file image area) (file_called image area h after called)

  file_accepted : h.number ≡ 0 → (numbers_of (file image area).answer).number ≡ 0
  file_accepted = accepted_told h after (file image area) (file_called image area h after called)

  -- Where it is accepted, the form stands at the beginning of the area,
  pub told_form : h.number ≡ 0 → take (length (filed_image image)) after ≡ filed_image image
  told_form accepted = rw file_leaves (meaning.file_writes image area (file_accepted accepted))

  -- "bytes beyond the form keep their values", whatever it answers.
  pub told_beyond_form : (i : ℕ) → length (filed_image image) ≤ i → byte_at after i ≡ byte_at area i
  told_beyond_form i behind = rw file_leaves (meaning.beyond_keeps image area i behind)

  -- so many bytes as it answers are the form, where the image is accepted
  module _ (judged : verdict image ≡ Accepted 0) (written : h.number ≡ 0) where
    answered : (file image area).answer ≡ (refused_at OutputArea (at_zero_unless (leb (length (filed_image image)) (length area))) before Accepted (length (filed_image image)))
    unfolding file file_answer ◌before◌
    answered = left_answer (file_answer image area) area _ ∙ rw judged

    pub file_count : h.count ≡ length (filed_image image)
    file_count =
        ap (λ (x : Numbers). x.count) (numbers_told h after (file image area) (file_called image area h after called))
        ∙ ap (λ (a : Answer). (numbers_of a).count) answered
        ∙ output_counts (length (filed_image image)) _ (ap (λ (a : Answer). (numbers_of a).number) (sym answered) ∙ file_accepted written)

    pub form_written : take h.count after ≡ filed_image image
    form_written = ap (λ (n : ℕ). take n after) file_count ∙ told_form written

-- ---- what holds of the bytes that were written, where check accepts the image
module _
    (image : List ℕ) (bytes : AreBytes image) (accepts : Accepts image)
    (area : List ℕ) (h : HostAnswer) (after : List ℕ) (called : FileCalled image area h after) (written : h.number ≡ 0)
  where
    judged : verdict image ≡ Accepted 0
    judged = told_verdict image accepts.answer accepts.checked accepts.accepted

    abbrev form : List ℕ
    form = take h.count after

    is_form : form ≡ filed_image image
    is_form = form_written image area h after called judged written

    form_judged : verdict form ≡ Accepted 0
    form_judged = rw is_form (meaning.form_is_accepted image bytes judged)

    pub form_accepted : (k : HostAnswer) → Checked form k → told k ≡ record { number = 0; place = 0; count = 0 }
    form_accepted k checked = verdict_told form k checked form_judged

    pub form_same : DifferAtMostInNumbers form image
    form_same = rw is_form (meaning.form_has_same_bodies image bytes judged)

    pub form_again : (again : List ℕ) (k : HostAnswer) (last : List ℕ) → FileCalled form again k last → k.number ≡ 0 → take k.count last ≡ form
    form_again again k last called' written' = form_written form again k last called' form_judged written' ∙ rw is_form (meaning.form_is_its_own image bytes judged)

    pub form_runs : SameRuns image form (λ s. s < length (design_of image).states) (λ s. s)
    form_runs = rw is_form (meaning.form_runs_alike image bytes judged)

    -- "Two accepted images have the same form exactly when they differ at most in node numbers."
    module _
        (other : List ℕ) (bytes' : AreBytes other) (accepts' : Accepts other)
        (area' : List ℕ) (h' : HostAnswer) (after' : List ℕ) (called' : FileCalled other area' h' after') (written' : h'.number ≡ 0)
      where
        judged' : verdict other ≡ Accepted 0
        judged' = told_verdict other accepts'.answer accepts'.checked accepts'.accepted

        pub forms_same : (form ≡ take h'.count after') ↔ DifferAtMostInNumbers image other
        forms_same =
            rw (is_form, form_written other area' h' after' called' judged' written')
            (meaning.same_form_exactly image other bytes bytes' judged judged')

-- An output area as long as the image is never too short.
pub form_long : (image : List ℕ) → AreBytes image → Accepts image → length (filed_image image) ≡ length image
form_long image bytes accepts = meaning.form_is_as_long image bytes (told_verdict image accepts.answer accepts.checked accepts.accepted)

-- ---- what the comparison told
module _ (first second : List ℕ) (h : HostWhich) (called : EarlierCalled first second h) where
  -- "handed back as it was lent": the bytes of the part are those of the image that is handed back
  part_handed : (which : Earlier) → bytes_of first second (part_of first second which) ≡ handed_back first second which
  part_handed First = take-length first
  part_handed Second = take-length second
  part_handed Neither = refl

  pub told_handed_back : bytes_of first second (told_which h) ≡ handed_back first second (earlier first second)
  told_handed_back = ap (bytes_of first second) (earlier_called first second h called) ∙ part_handed (earlier first second)

  told_part : {which : Earlier} → earlier first second ≡ which → told_which h ≡ part_of first second which
  told_part e = earlier_called first second h called ∙ ap (part_of first second) e

  -- "the first of them if equal"
  pub told_first_where_equal : verdict first ≡ Accepted 0 → verdict second ≡ Accepted 0 → filed_image first ≡ filed_image second → told_which h ≡ record { second = 0; len = length first }
  told_first_where_equal a b e = told_part (meaning.first_where_equal first second a b e)

  -- "an empty part of the first if either is refused"
  pub told_neither : (accepts (verdict first) && accepts (verdict second)) ≡ false → told_which h ≡ record { second = 0; len = 0 }
  told_neither refused = told_part (meaning.neither_where_refused first second refused)

  -- "the earlier one": no lent image comes before it
  pub told_earlier_least : verdict first ≡ Accepted 0 → verdict second ≡ Accepted 0
      → (comes_before (filed_image first) (filed_image (bytes_of first second (told_which h))) ≡ false)
      × (comes_before (filed_image second) (filed_image (bytes_of first second (told_which h))) ≡ false)
  told_earlier_least a b = rw told_handed_back (meaning.earlier_is_least first second a b)

-- ---- the part itself, as the call that puts it where the host says leaves it: its bytes, and where they begin
module _ (κs : Lfts 2) (a : Dens κs part-kinds.ps) (e : AtExit (ended_of 2 part-kinds.ps part-kinds.r) κs) (called : part-reads.Post κs a tt e) where
  -- "handed back as it was lent"
  pub part_handed_back :
      (e.1.1.0.now.now ≡ handed_back a.0.now a.1.0.now (earlier a.0.now a.1.0.now))
      × (e.1.1.0.now.ref_ptr ≡ handed_from a.0.ref_ptr a.1.0.ref_ptr (earlier a.0.now a.1.0.now))
  part_handed_back = part_tie κs a e called

  -- "the first of them if equal": not the second, also where both have the same bytes
  pub part_first_where_equal :
      verdict a.0.now ≡ Accepted 0
      → verdict a.1.0.now ≡ Accepted 0
      → filed_image a.0.now ≡ filed_image a.1.0.now
      → (e.1.1.0.now.now ≡ a.0.now) × (e.1.1.0.now.ref_ptr ≡ a.0.ref_ptr)
  part_first_where_equal f s same =
      let first = meaning.first_where_equal a.0.now a.1.0.now f s same in
      (part_handed_back.0 ∙ ap (handed_back a.0.now a.1.0.now) first, part_handed_back.1 ∙ ap (handed_from a.0.ref_ptr a.1.0.ref_ptr) first)

  -- "an empty part of the first if either is refused"
  pub part_of_first_where_refused :
      (accepts (verdict a.0.now) && accepts (verdict a.1.0.now)) ≡ false
      → (e.1.1.0.now.now ≡ []) × (e.1.1.0.now.ref_ptr ≡ a.0.ref_ptr)
  part_of_first_where_refused refused =
      let neither = meaning.neither_where_refused a.0.now a.1.0.now refused in
      (part_handed_back.0 ∙ ap (handed_back a.0.now a.1.0.now) neither, part_handed_back.1 ∙ ap (handed_from a.0.ref_ptr a.1.0.ref_ptr) neither)
