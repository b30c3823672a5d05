use Rattle.design.proofs.Laws.{registers_most}
use Rattle.model.specs.Verdict.{refused_at}
use Rattle.model.specs.Calls.{contents_answer}
use Rattle.running.proofs.RunningRules.{image_known}
use Rattle.calls.proofs.CallRules.{wrong_area, right_area, area_long, write_refuses, write_refuses_contents}
use borrow.Author.Rules.{rules}
use Rattle.calls.proofs.ports.write_port.Goals as goal

pub register_area_kept-requires : goal.register_area_kept-requires
register_area_kept-requires c = search (registers_most, rules)

pub returns-then-not-register_area_kept : goal.returns-then-not-register_area_kept
returns-then-not-register_area_kept c = search (write_refuses, wrong_area, rules)

pub too_large-requires : goal.too_large-requires
too_large-requires c = (image_known (rw c.read-image.ensures c.requires) c.read-image.result.describes, search (area_long, rules))

pub returns-in_err-refused_at : goal.returns-in_err-refused_at
unfolding contents_answer
returns-in_err-refused_at c = let was = c.in_err-refused_at.was in search (write_refuses_contents, right_area, rules)

pub write_within-requires : goal.write_within-requires
unfolding contents_answer refused_at
write_within-requires c =
    let was = c.in_ok-refused_at.was in
    (image_known (rw c.read-image.ensures c.requires) c.read-image.result.describes, search (area_long, rules), search rules)
