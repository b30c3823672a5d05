use lib.Dec.{eqb}
use lib.ListN.{get_or}
use Rattle.model.proofs.Laws.Chains.{failing_from_find}
use mathlib.Core.Path.{refl}
use borrow.Author.Rules.{rules}
use borrow.Author.Tests.{tests}
use Rattle.checker_nodes.proofs.uses.not_once.Goals as goal

pub returns : goal.returns
returns c =
    failing_from_find _ (λ k. eqb (get_or c.args.table.now k 0) 1) c.find.ensures.ran (λ x b q k. search (rules, tests)) refl
