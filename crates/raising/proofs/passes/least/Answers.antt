use mathlib.Core.Path.{refl}
use Rattle.checker_records.specs.LabelTests.{least_in}
use Rattle.model.specs.Image.{design_of}
use Rattle.model.proofs.Laws.Chains.{lowest_from_find}
use Rattle.design.proofs.Laws.{labels_count}
use Rattle.raising.proofs.JoinRules.{least_searched, least_fits}
use borrow.Author.Rules.{rules}
use Rattle.raising.proofs.passes.least.Goals as goal

pub overflow_cast-result : goal.overflow_cast-result
overflow_cast-result c =
    let rows = (design_of c.args.image.now.bytes.now).rows in
    let found = lowest_from_find _ (least_in rows c.args.among) c.find-found.ensures.ran (λ x b q k. search rules) refl in
    let least = least_searched rows c.args.among _ c.unwrap_or.ensures found (labels_count c.args.image.now.describes) in
    let small = least_fits c.args.among c.args.image.now.describes least in
    search rules

pub returns : goal.returns
returns c =
    let rows = (design_of c.args.image.now.bytes.now).rows in
    let found = lowest_from_find _ (least_in rows c.args.among) c.find-found.ensures.ran (λ x b q k. search rules) refl in
    least_searched rows c.args.among _ c.unwrap_or.ensures found (labels_count c.args.image.now.describes)
