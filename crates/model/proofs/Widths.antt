-- What an accepted call leaves is within the widths: a reset writes reset values, which are (refusal 3); a port write and a run judge the contents that they
-- find, a port write its value too, and an assignment cuts. So in a list that starts with a reset the contents are never at fault.
use Rattle.std.specs.Prelude.{Some, None}
use Prim.Native.Nat.{ℕ}
use mathlib.Core.Path.{◌≡◌, refl, sym, ◌∙◌, ap}
use mathlib.Core.Logic.{◌⊎◌, inl, inr}
use mathlib.Core.Bool.{Bool, true, false, cond}
use mathlib.Core.List.{List, [], ◌∷◌}
use lib.Dec.{eqb}
use lib.ListN.{length, set, length-set}
use Rattle.model.specs.declared.Refusal.TheVariants.{Area, PortValue}
use Rattle.model.specs.Image.{Design, design_of}
use Rattle.model.specs.Rules.{Keeps, StructureKeeps}
use Rattle.model.specs.Values.{fits, words_of, bytes_of}
use Rattle.model.specs.Verdict.{verdict, ◌before◌}
use Rattle.model.specs.Answers.{Answer, Accepted, numbers_of}
use Rattle.model.specs.Machine.{reset_areas, after_cycles}
use Rattle.model.specs.Calls.{Lent, Left, content_kept, contents_answer, value_answer, areas_of, lent_of, reset_answer, reset, run_answer, run, write_port_answer, write_port}
use Rattle.model.specs.Parties.{Call, resets, writes, runs, perform, at_end, given_unseen, with_unseen, start, Beginning}
use Rattle.model.specs.Refusals.{WithinWidths}
use Rattle.model.proofs.Laws.Booleans.{decide, true_or_false}
use Rattle.model.proofs.Laws.Equivalences.{less_iff, equal_iff}
use Rattle.model.proofs.Laws.Indices.{failing_none}
use Rattle.model.proofs.Laws.Found.{at_is_not_nowhere}
use Rattle.model.proofs.Laws.Verdict.{refused_is_not_accepted, first_accepts, later_accepts, found_nothing}
use Rattle.model.proofs.Laws.Cycles.{reset_length}
use Rattle.model.proofs.Laws.Words.{length-words_of, words_of_bytes_bounded}
use Rattle.model.proofs.Exact.{verdict_exact}
use Rattle.model.proofs.Refused.{accepted_count, call_exactly}
use Rattle.model.proofs.Independence.Widths.{Fitting, fitting_each, fitting_bounded, set_fitting, reset_fitting}
use Rattle.model.proofs.Independence.Calls.{reset_leaves}
use Rattle.model.proofs.Independence.Runs.{length-given, given_fitting}
use Rattle.model.proofs.Grouping.{Ready, Refuses, ready_or_refuses, ready_good, cycles_good}
use Rattle.model.proofs.Laws.Left.{left_holds}

-- values within the widths are so when they are written and read again
written_within : (d : Design) → StructureKeeps d → (values : List ℕ) → length values ≡ length d.registers → Fitting d.registers values → WithinWidths d (bytes_of values)
written_within d keeps values size fitting r l =
    let back : words_of (length d.registers) (bytes_of values) ≡ values =
    ap (λ (n : ℕ). words_of n (bytes_of values)) (sym size) ∙ words_of_bytes_bounded values (fitting_bounded d keeps values fitting) in
    rw back (fitting r)

-- an accepted answer begins with the acceptance of the image
keeps_first : (image : List ℕ) (later : Answer) {n : ℕ} → (verdict image before later) ≡ Accepted n → Keeps image
keeps_first image later e =
    let first = first_accepts (verdict image) later e in
    (verdict_exact image).0 (first.1 ∙ ap Accepted (accepted_count image first.1))

found_kept : (b : Bool) (r : ℕ) → cond b None (Some r) ≡ None → b ≡ true
found_kept true r e = refl
found_kept false r e = absurd (at_is_not_nowhere r e)

module _ (image : List ℕ) where
  abbrev d : Design
  d = design_of image

  reset_within : (lent : Lent) {n : ℕ} → reset_answer image lent ≡ Accepted n → WithinWidths d (bytes_of (reset_areas d).registers)
  unfolding reset_answer
  reset_within lent e =
      let keeps = (keeps_first image _ e).design.structure in
      written_within d keeps (reset_areas d).registers (reset_length d) (reset_fitting d keeps)

  write_within : (registers : List ℕ) (r v : ℕ) {n : ℕ} → write_port_answer image registers r v ≡ Accepted n
      → WithinWidths d (bytes_of (set (words_of (length d.registers) registers) r v))
  unfolding write_port_answer contents_answer content_kept value_answer
  write_within registers r v e =
      let words = words_of (length d.registers) registers in
      let size = length-words_of (length d.registers) registers in
      let judged = later_accepts _ _ (later_accepts (verdict image) _ e) in
      let contents = failing_none (content_kept d registers) (length d.registers) (found_nothing Area _ (first_accepts _ _ judged).1) in
      let value = found_kept (fits d.registers r v) r (found_nothing PortValue _ (later_accepts _ _ (later_accepts _ _ judged))) in
      let fitting = fitting_each d.registers words size (λ k l. less_iff.0 (contents k l)) in
      written_within
      d
      (keeps_first image _ e).design.structure
      (set words r v)
      (length-set words r v ∙ size)
      (set_fitting d.registers words r v (less_iff.0 value) fitting)

  run_within : (lent : Lent) (n : ℕ) {c : ℕ} → run_answer image lent n ≡ Accepted c → WithinWidths d (bytes_of (after_cycles d n (areas_of d lent)).registers)
  unfolding run
  run_within lent n {c} e = go (ready_or_refuses image lent)
    where
      go : Ready image lent ⊎ Refuses image lent → WithinWidths d (bytes_of (after_cycles d n (areas_of d lent)).registers)
      go (inl ready) =
          let good = cycles_good image ready.accepted n (areas_of d lent) (ready_good image lent ready) in
          written_within d ((verdict_exact image).0 ready.accepted).design.structure (after_cycles d n (areas_of d lent)).registers good.registers_length good.fitting
      go (inr refuses) =
          let answer = ap (λ (left : Left Lent). left.answer) (refuses.refused n) in
          let told : (run image lent n).answer ≡ Accepted c = rw e in
          absurd (refused_is_not_accepted refuses.refusal refuses.place c (sym answer ∙ told))

  abbrev registers_within : Lent → Type 0
  registers_within lent = WithinWidths d lent.registers

  pub accepted_within : (lent : Lent) (call : Call) → (numbers_of (perform image lent call).answer).number ≡ 0 → WithinWidths d (perform image lent call).lent.registers
  unfolding perform reset write_port run lent_of
  accepted_within lent resets e = left_holds registers_within (reset_answer image lent) lent _ e (λ n h. reset_within lent h)
  accepted_within lent (writes r v) e = left_holds (WithinWidths d) (write_port_answer image lent.registers r v) lent.registers _ e (λ n h. write_within lent.registers r v h)
  accepted_within lent (runs n) e = left_holds registers_within (run_answer image lent n) lent _ e (λ c h. run_within lent n h)

  -- ---- lists
  -- a call that is refused leaves what was within the widths
  call_within : (lent : Lent) (call : Call) → WithinWidths d lent.registers → WithinWidths d (perform image lent call).lent.registers
  call_within lent call within = go (decide (eqb (numbers_of (perform image lent call).answer).number 0))
    where
      go : (eqb (numbers_of (perform image lent call).answer).number 0 ≡ true) ⊎ (eqb (numbers_of (perform image lent call).answer).number 0 ≡ false)
          → WithinWidths d (perform image lent call).lent.registers
      go (inl e) = accepted_within lent call (equal_iff.0 e)
      go (inr e) = rw ((call_exactly image lent call).keeps (λ z. true_or_false (eqb (numbers_of (perform image lent call).answer).number 0) (equal_iff.1 z) e)) within

  calls_within : (calls : List Call) (lent : Lent) → WithinWidths d lent.registers → WithinWidths d (at_end image lent calls).registers
  unfolding at_end
  calls_within [] lent within = within
  calls_within (call ∷ more) lent within = calls_within more (perform image lent call).lent (call_within lent call within)

  -- from a start, whatever calls are made
  pub list_within : verdict image ≡ Accepted 0 → (level : ℕ) (begins : Beginning d) (calls : List Call) → WithinWidths d (at_end image (start image level begins) calls).registers
  unfolding start with_unseen lent_of areas_of
  list_within accepted level begins calls = calls_within calls (start image level begins) (rw (reset_leaves image accepted begins.lent begins.lengths, back) begun)
    where
      keeps : StructureKeeps d
      keeps = ((verdict_exact image).0 accepted).design.structure

      values : List ℕ
      values = (reset_areas d).registers

      back : words_of (length d.registers) (bytes_of values) ≡ values
      back =
          ap (λ (n : ℕ). words_of n (bytes_of values)) (sym (reset_length d))
          ∙ words_of_bytes_bounded values (fitting_bounded d keeps values (reset_fitting d keeps))

      begun : WithinWidths d (bytes_of (given_unseen d level begins.given values))
      begun = written_within d keeps (given_unseen d level begins.given values) (length-given d level begins.given values) (given_fitting d level begins.given values (reset_fitting d keeps) begins.within)
