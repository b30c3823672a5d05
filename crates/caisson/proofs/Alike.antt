-- Two images that run alike (`SameRuns`, for 02's E11 and E12), as hosts have it: of the same list of calls, each from a reset, both are told the same and hold the same registers.
use Prim.Native.Nat.{ℕ}
use mathlib.Core.Path.{◌≡◌, refl, sym, ◌∙◌, ap, ap₂}
use mathlib.Core.List.{List, [], ◌∷◌, map}
use Rattle.model.specs.Image.{design_of}
use Rattle.model.specs.Answers.{Numbers, numbers_of}
use Rattle.model.specs.Calls.{Lent, Left, reset}
use Rattle.model.specs.Parties.{RightLengths}
use Rattle.model.specs.Parties as parties
use Rattle.journal_model.specs.Calls.{LentJournal}
use Rattle.renumbering.specs.Runs.{answers, SameRuns}
use Rattle.lists_model.specs.Lists.{Call, resets, perform, listed}
use Rattle.lists_model.proofs.Listed.{listed_performs, listed_end}
use Rattle.caisson.specs.declared.HostAnswer.{HostAnswer}
use Rattle.caisson.specs.Told.{told}
use Rattle.caisson.proofs.Contracts.{Called, AllCalled}
use Rattle.caisson.proofs.Calls.{called_told, called_leaves, all_called_ends}

-- what the calls of a list told, one by one
abbrev pub told_each : (image : List ℕ) (calls : List Call) (before after : LentJournal) → AllCalled image before calls after → List Numbers
told_each image [] before after same = []
told_each image (call ∷ more) before after (h, between, called, others) = told h ∷ told_each image more between after others

-- A host's list of 01's calls behind a reset of areas of the right lengths.
pub record FromReset (image : List ℕ) (calls : List parties.Call) : Type 0 where
  pub lent : LentJournal
  pub lengths : RightLengths (design_of image) lent.areas
  pub answer : HostAnswer
  pub left : LentJournal
  pub reset : Called image lent resets answer left
  pub end : LentJournal
  pub called : AllCalled image left (map listed calls) end

-- what its calls told, the reset aside
abbrev pub told_by : (image : List ℕ) (calls : List parties.Call) → FromReset image calls → List Numbers
told_by image calls host = told_each image (map listed calls) host.left host.end host.called

told_answers : (image : List ℕ) (calls : List parties.Call) (before after : LentJournal) (called : AllCalled image before (map listed calls) after)
    → told_each image (map listed calls) before after called ≡ map numbers_of (answers image before.areas calls)
unfolding answers
told_answers image [] before after same = refl
told_answers image (call ∷ more) before after (h, between, called, others) =
    let made = listed_performs image before call in
    let leaves = called_leaves image before between (listed call) h called ∙ ap (λ (x : Left LentJournal). x.lent) made in
    ap₂
    ◌∷◌
    (called_told image before between (listed call) h called ∙ ap (λ (x : Left LentJournal). numbers_of x.answer) made)
    (told_answers image more between after others ∙ ap (λ (lent : LentJournal). map numbers_of (answers image lent.areas more)) leaves)

module _ (image : List ℕ) (calls : List parties.Call) (host : FromReset image calls) where
  left_so : host.left.areas ≡ (reset image host.lent.areas).lent
  unfolding perform parties.perform
  left_so = ap (λ (lent : LentJournal). lent.areas) (called_leaves image host.lent host.left resets host.answer host.reset)

  told_so : told_by image calls host ≡ map numbers_of (answers image (reset image host.lent.areas).lent calls)
  told_so = told_answers image calls host.left host.end host.called ∙ ap (λ (lent : Lent). map numbers_of (answers image lent calls)) left_so

  end_so : host.end.areas.registers ≡ (parties.at_end image (reset image host.lent.areas).lent calls).registers
  end_so =
      ap (λ (lent : LentJournal). lent.areas.registers) (all_called_ends image (map listed calls) host.left host.end host.called ∙ listed_end image calls host.left)
      ∙ ap (λ (lent : Lent). (parties.at_end image lent calls).registers) left_so

pub hosts_alike : {Stays : ℕ → Type 0} {number : ℕ → ℕ} (image other : List ℕ) → SameRuns image other Stays number
    → (calls : List parties.Call) (one : FromReset image calls) (two : FromReset other calls)
    → (told_by image calls one ≡ told_by other calls two) × (one.end.areas.registers ≡ two.end.areas.registers)
hosts_alike image other same calls one two =
    let run = same.same one.lent.areas two.lent.areas one.lengths two.lengths calls in (
      told_so image calls one ∙ ap (map numbers_of) run.answer ∙ sym (told_so other calls two),
      end_so image calls one ∙ run.registers ∙ sym (end_so other calls two),
    )
