-- 01, 'What a party sees', with the calls that 02, E9 and E10 add: lists of the six calls that change areas. The words of a view, and of what remains of a list, are 01's
-- (`Rattle.model.specs.Parties`); here stand the calls, what each does, and the uses of the box that demand 3 is about.
use Rattle.std.specs.Prelude.{ℕ, ◌≡◌, List, [], ◌∷◌, ◌++◌, map, length, replicate, Err}
use Rattle.model.specs.Answers.{Answer, Accepted}
use Rattle.model.specs.Image.{Design, design_of}
use Rattle.model.specs.Values.{words_of}
use Rattle.model.specs.Machine.{cycles}
use Rattle.model.specs.Calls.{Lent, Left, left_in, areas_of}
use Rattle.model.specs.Parties.{Event, journalled, stepped_back, Seen, Remaining, values_seen, view, wider_view, remaining, Beginning, start}
use Rattle.model.specs.Parties as parties
use Rattle.journal_model.specs.Journals.{count_in}
use Rattle.journal_model.specs.Calls.{LentJournal, run_journalled, step_back}
use Rattle.replay_model.specs.declared.TraceRecord.{TraceRecord}
use Rattle.replay_model.specs.Calls.{replay}
use Rattle.replay_model.specs.ByHand.{by_hand}

-- 01's three calls, a journalled run and going back (02, E9), and a replay (02, E10)
pub data Call : Type 0 where
  resets : Call
  writes : ℕ → ℕ → Call
  runs : ℕ → Call
  runs_journalled : ℕ → Call
  goes_back : ℕ → Call
  replays : List TraceRecord → ℕ → Call

-- A call that is not lent the journal leaves it as it is.
abbrev pub with_journal : List ℕ → Lent → LentJournal
with_journal journal areas = record { areas = areas; journal = journal }

-- one of 01's calls
abbrev pub performed : List ℕ → LentJournal → parties.Call → Left LentJournal
performed image lent call = left_in (with_journal lent.journal) (parties.perform image lent.areas call)

-- what a call leaves, made on the areas and the journal as they are lent
unfoldable pub perform : List ℕ → LentJournal → Call → Left LentJournal
perform image lent resets = performed image lent parties.resets
perform image lent (writes r v) = performed image lent (parties.writes r v)
perform image lent (runs n) = performed image lent (parties.runs n)
perform image lent (runs_journalled n) = run_journalled image lent n
perform image lent (goes_back k) = step_back image lent k
perform image lent (replays trace n) = left_in (with_journal lent.journal) (replay image lent.areas trace n)

-- What an accepted call does, for the comparison. A journalled run of n counts as n journalled cycles and going back by k as k steps back, so that either may be cut; a replay counts
-- as the port writes and cycles that it makes. A refused call does nothing.
unfoldable pub events_of : Answer → List ℕ → LentJournal → Call → List Event
events_of (Err why) image lent call = []
events_of (Accepted count) image lent resets = parties.events_of (Accepted count) image lent.areas parties.resets
events_of (Accepted count) image lent (writes r v) = parties.events_of (Accepted count) image lent.areas (parties.writes r v)
events_of (Accepted count) image lent (runs n) = parties.events_of (Accepted count) image lent.areas (parties.runs n)
events_of (Accepted count) image lent (runs_journalled n) = map journalled (cycles (design_of image) n (areas_of (design_of image) lent.areas))
events_of (Accepted count) image lent (goes_back k) = replicate k stepped_back
events_of (Accepted count) image lent (replays trace n) = parties.events image lent.areas (by_hand trace 0 n)

-- each call finds the areas and the journal as they were left: "journals which nobody else writes"
unfoldable pub events : List ℕ → LentJournal → List Call → List Event
events image lent [] = []
events image lent (call ∷ more) =
    let left = perform image lent call in
    events_of left.answer image lent call ++ events image left.lent more

-- the areas and the journal at the end of a list
unfoldable pub at_end : List ℕ → LentJournal → List Call → LentJournal
at_end image lent [] = lent
at_end image lent (call ∷ more) = at_end image (perform image lent call).lent more

-- One use of the box: 01's beginning, an empty journal of any length, and a list of calls of any length.
pub record Use (d : Design) : Type 0 where
  pub begins : Beginning d
  pub journal : List ℕ
  pub empty : count_in journal ≡ 0
  pub calls : List Call

module _ (image : List ℕ) (level : ℕ) (u : Use (design_of image)) where
  -- as 01 has it, a reset, and any values in the registers not at or below the level; and the journal as it is lent
  unfoldable pub begun : LentJournal
  begun = with_journal u.journal (start image level u.begins)

  unfoldable pub history : List Event
  history = events image begun u.calls

  unfoldable pub remains : List Remaining
  remains = remaining (design_of image) level history

  unfoldable pub views : List Seen
  views = view (design_of image) level history

  -- 02, E8, and more than it asks: with the registers bound to all parameters in scope
  unfoldable pub wider_views : List Seen
  wider_views = wider_view (design_of image) level history

  unfoldable pub seen_at_end : List ℕ
  seen_at_end = values_seen (design_of image) level (words_of (length (design_of image).registers) (at_end image begun u.calls).areas.registers)

-- 01's calls among the six
abbrev pub listed : parties.Call → Call
listed parties.resets = resets
listed (parties.writes r v) = writes r v
listed (parties.runs n) = runs n
