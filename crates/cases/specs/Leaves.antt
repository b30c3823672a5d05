-- What a record's call leaves of the areas that it is lent, whatever becomes of what is printed.
use Rattle.std.specs.Prelude.{ℕ, cond, List, eqb}
use Rattle.model.specs.Indices.{tabulate}
use Rattle.model.specs.Answers.{Numbers}
use Rattle.model.specs.Calls.{Lent, reset, write_port, run}
use Rattle.filing_model.specs.declared.Earlier.{Earlier}
use Rattle.filing_model.specs.declared.Earlier.TheVariants.{First, Second, Neither}
use Rattle.journal_model.specs.Calls.{LentJournal, run_journalled, step_back}

-- the numbers of an answer as they are printed
abbrev pub numbered : ℕ → ℕ → ℕ → Numbers
numbered number place count = record { number = number; place = place; count = count }

-- n bytes, each as given
abbrev pub painted : ℕ → ℕ → List ℕ
painted byte n = tabulate (λ i. byte) n

-- 1 where a part of the second image is handed back
abbrev pub second_of : Earlier → ℕ
second_of First = 0
second_of Second = 1
second_of Neither = 0

-- the areas behind the call of a kind from 3 to 5, with the numbers a and b of its record
unfoldable pub after_call : ℕ → ℕ → ℕ → List ℕ → Lent → Lent
after_call kind a b image lent =
    cond
    (eqb kind 3)
    (reset image lent).lent
    (cond
    (eqb kind 4)
    (record { registers = (write_port image lent.registers a b).lent; targets = lent.targets })
    (run image lent a).lent)

-- the areas and the journal behind the call of a kind from 12 to 13, with the number a of its record
unfoldable pub after_journal_call : ℕ → ℕ → List ℕ → LentJournal → LentJournal
after_journal_call kind a image lent = cond (eqb kind 12) (run_journalled image lent a).lent (step_back image lent a).lent
