-- The table that was made is put together by hand: it has more premises than a search follows.
use mathlib.Core.Path.{refl}
use Rattle.checker_flow.proofs.TableRules.{lower_small, upper_small}
use Rattle.checker_flow.proofs.ScopeRules.{scope_inside, masks_stay, masks_made}
use borrow.Author.Rules.{rules}
use Rattle.checker_flow.proofs.masks.scope_masks.Goals as goal

pub bounds-scopes-s : goal.bounds-scopes-s
bounds-scopes-s c = search (scope_inside, rules)

pub returns-then-scopes-s-eq0 : goal.returns-then-scopes-s-eq0
returns-then-scopes-s-eq0 c = search (masks_stay, rules)

pub put_rows-requires : goal.put_rows-requires
put_rows-requires c = (search rules, search (lower_small, rules), search (lower_small, rules), search rules)

pub put_own-requires : goal.put_own-requires
put_own-requires c = (search rules, search (lower_small, upper_small, rules), search (lower_small, upper_small, rules))

pub returns : goal.returns
returns c =
    masks_made
    _
    c.put_own.ensures
    c.put_rows.ensures
    (search rules)
    (search rules)
    (search rules)
    (search rules)
    c.if-scopes-s-eq0.false
    refl
    c.requires.2
    c.requires.0
    c.requires.4
