use Rattle.checker.proofs.Accepted.{accepted_keeps}
use Rattle.lister.proofs.Buffers.{place_word}
use Rattle.lister.proofs.PieceRules.{refused_handed}
use borrow.Author.Rules.{rules}
use Rattle.lister.proofs.list.Goals as goal

pub overflow_cast-why : goal.overflow_cast-why
overflow_cast-why c = search (place_word, rules)

pub list_accepted-requires : goal.list_accepted-requires
list_accepted-requires c = search (accepted_keeps, rules)

pub returns-in-Err : goal.returns-in-Err
returns-in-Err c = search (refused_handed, rules)
