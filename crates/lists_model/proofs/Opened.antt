-- What the cases are written with: a name that opens the definitions (it stands for all that its `unfolding` line names), and short ways to put a case.
use Prim.Native.Nat.{ℕ}
use mathlib.Core.List.{List, [], map}
use Rattle.model.specs.Parties.{Seen, given_unseen, remaining, with_unseen, start}
use Rattle.model.proofs.Opened.{sights}
use Rattle.journal_model.proofs.Opened.{journalling}
use Rattle.replay_model.proofs.Opened.{replaying}
use Rattle.lists_model.specs.Lists.{perform, events_of, events, at_end, begun, history, remains, views, wider_views, seen_at_end}

unfoldable pub listing : ℕ
unfolding sights journalling replaying given_unseen remaining with_unseen start perform events_of events at_end begun history remains views wider_views seen_at_end
listing = 0

-- the values, and the states of the walk, of a design without parameters
abbrev pub seen : List ℕ → List ℕ → Seen
seen values walk = record { values = values; walk = map (λ s. record { state = s; bound = [] }) walk }
