-- What a journalled cycle leaves beside what a cycle does.
use Rattle.std.specs.Prelude.{ℕ, ◌≡◌, List}
use Rattle.model.specs.Machine.{Areas, Cycle}
use Rattle.model.specs.Calls.{Lent, lent_of}
use Rattle.journal_model.specs.Journals.{saved_bytes}
use Rattle.encoding.specs.Parts.{overwritten_at}

-- a cycle from lent areas, saved at a place: the areas that it leaves, their bytes, and those that were lent over the bytes of the journal
pub record CycleSaved (c : Cycle) (lent : Lent) (at : ℕ) (old : List ℕ) (areas : Areas) (left : Lent) (journal : List ℕ) : Type 0 where
  pub after : areas ≡ c.after
  pub bytes : left ≡ lent_of c.after
  pub saved : journal ≡ overwritten_at at (saved_bytes lent) old
