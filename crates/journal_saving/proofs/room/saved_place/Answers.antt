use Rattle.journal_saving.proofs.RoomRules.{saved_product_fits, saved_place_fits, place_of}
use borrow.Author.Rules.{rules}
use Rattle.journal_saving.proofs.room.saved_place.Goals as goal

pub overflow_mul-result : goal.overflow_mul-result
overflow_mul-result c = search (saved_product_fits, rules)

pub overflow_add-result : goal.overflow_add-result
overflow_add-result c = search (saved_place_fits, rules)

pub returns : goal.returns
returns c = search (place_of, rules)
