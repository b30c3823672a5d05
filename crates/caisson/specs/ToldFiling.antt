-- What is handed back of two images, in numbers: of which it is a part, 0 the first and 1 the second, and how many of its bytes, from its start.
use Rattle.std.specs.Prelude.{ℕ, cond, List, eqb, length, take}
use Rattle.filing_model.specs.declared.Earlier.{Earlier}
use Rattle.filing_model.specs.declared.Earlier.TheVariants.{First, Second, Neither}
use Rattle.caisson.specs.declared.HostWhich.{HostWhich}

pub record Part : Type 0 where
  pub second : ℕ
  pub len : ℕ

abbrev pub told_which : HostWhich → Part
told_which which = record { second = which.second; len = which.len }

module _ (first second : List ℕ) where
  abbrev pub part_of : Earlier → Part
  part_of First = record { second = 0; len = length first }
  part_of Second = record { second = 1; len = length second }
  part_of Neither = record { second = 0; len = 0 }

  -- the bytes of a part: what the header's caisson_earlier points to
  abbrev pub bytes_of : Part → List ℕ
  bytes_of part = take part.len (cond (eqb part.second 1) second first)
