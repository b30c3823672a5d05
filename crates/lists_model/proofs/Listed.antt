-- A list of 01's calls does and leaves, among lists of all calls, what it does by itself: the journal stays.
use Rattle.std.specs.Prelude.{Err}
use Prim.Native.Nat.{ℕ}
use mathlib.Core.Path.{◌≡◌, refl, ◌∙◌, ap}
use mathlib.Core.List.{List, [], ◌∷◌, map}
use Rattle.model.specs.Answers.{Answer, Accepted}
use Rattle.model.specs.Calls.{Left}
use Rattle.model.specs.Parties.{Event}
use Rattle.model.specs.Parties as parties
use Rattle.journal_model.specs.Calls.{LentJournal}
use Rattle.lists_model.specs.Lists.{with_journal, performed, perform, events_of, events, at_end, listed}

module _ (image : List ℕ) where
  pub listed_performs : (lent : LentJournal) (call : parties.Call) → perform image lent (listed call) ≡ performed image lent call
  unfolding perform
  listed_performs lent parties.resets = refl
  listed_performs lent (parties.writes r v) = refl
  listed_performs lent (parties.runs n) = refl

  listed_does : (answer : Answer) (lent : LentJournal) (call : parties.Call) → events_of answer image lent (listed call) ≡ parties.events_of answer image lent.areas call
  unfolding events_of parties.events_of
  listed_does (Err why) lent call = refl
  listed_does (Accepted count) lent parties.resets = refl
  listed_does (Accepted count) lent (parties.writes r v) = refl
  listed_does (Accepted count) lent (parties.runs n) = refl

  pub listed_events : (calls : List parties.Call) (lent : LentJournal) → events image lent (map listed calls) ≡ parties.events image lent.areas calls
  unfolding events parties.events
  listed_events [] lent = refl
  listed_events (call ∷ more) lent =
      let left = parties.perform image lent.areas call in
      rw (
        listed_performs lent call,
        listed_does left.answer lent call,
        listed_events more (with_journal lent.journal left.lent),
      )

  pub listed_end : (calls : List parties.Call) (lent : LentJournal) → at_end image lent (map listed calls) ≡ with_journal lent.journal (parties.at_end image lent.areas calls)
  unfolding at_end parties.at_end
  listed_end [] lent = refl
  listed_end (call ∷ more) lent =
      let left = parties.perform image lent.areas call in
      ap (λ (made : Left LentJournal). at_end image made.lent (map listed more)) (listed_performs lent call) ∙ listed_end more (with_journal lent.journal left.lent)
