use Rattle.checker.proofs.Accepted.{accepted_parameters}
use Rattle.checker.proofs.StageRules.{none_found}
use Rattle.machine.proofs.TableRules.{states_kept}
use Rattle.running.proofs.RunningRules.{image_known, targets_sound, sound_refuses_contents, sound_refuses_target, sound_accepts}
use borrow.Author.Rules.{rules}
use Rattle.running.proofs.soundness.judge.Goals as goal

pub too_large-requires : goal.too_large-requires
too_large-requires c = (search (image_known, rules), search rules)

pub returns-in_err-refused_at : goal.returns-in_err-refused_at
returns-in_err-refused_at c = let was = c.in_err-refused_at.was in search (sound_refuses_contents, rules)

pub unsound_target-requires : goal.unsound_target-requires
unsound_target-requires c = (search (states_kept, rules), search rules, search rules)

pub returns-in_err-refused_at-2 : goal.returns-in_err-refused_at-2
returns-in_err-refused_at-2 c =
    let fit = c.in_ok-refused_at.was in
    let was = c.in_err-refused_at-2.was in
    search (sound_refuses_target, rules)

pub unbound-requires : goal.unbound-requires
unbound-requires c =
    let none = none_found _ _ c.refused_at-2.ensures c.in_ok-refused_at-2.was in
    (search (image_known, rules), search (accepted_parameters, rules), search rules, search (targets_sound, rules))

pub returns : goal.returns
returns c =
    let fit = c.in_ok-refused_at.was in
    let sound = c.in_ok-refused_at-2.was in
    search (sound_accepts, rules)
