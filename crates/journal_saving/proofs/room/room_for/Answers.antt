use Rattle.journal_model.specs.Journals.{has_room}
use Rattle.journal_saving.proofs.RoomRules.{product_fits, place_fits}
use borrow.Author.Rules.{rules}
use Rattle.journal_saving.proofs.room.room_for.Goals as goal

pub overflow_mul-result : goal.overflow_mul-result
overflow_mul-result c = search (product_fits, rules)

pub overflow_add-result : goal.overflow_add-result
overflow_add-result c = search (place_fits, rules)

pub returns : goal.returns
unfolding has_room
returns c = search rules
