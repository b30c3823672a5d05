use Rattle.journal_saving.proofs.RoomRules.{no_room, room_as}
use borrow.Author.Rules.{rules}
use Rattle.journal_saving.proofs.room.has_room.Goals as goal

pub returns-then-bytes-lt-COUNT_LENGTH : goal.returns-then-bytes-lt-COUNT_LENGTH
returns-then-bytes-lt-COUNT_LENGTH c = search (no_room, rules)

pub returns : goal.returns
returns c = search (room_as, rules)
