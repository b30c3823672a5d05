use lib.Dec.{leb}
use lib.ListN.{get_or}
use Rattle.model.specs.Limits.{depth_max}
use Rattle.model.proofs.Laws.Chains.{failing_from_find}
use mathlib.Core.Path.{refl}
use borrow.Author.Rules.{rules}
use borrow.Author.Tests.{tests}
use Rattle.checker_nodes.proofs.depths.too_deep.Goals as goal

pub returns : goal.returns
returns c =
    failing_from_find _ (λ k. leb (get_or c.args.table.now k 0) depth_max) c.find.ensures.ran (λ x b q k. search (rules, tests)) refl
