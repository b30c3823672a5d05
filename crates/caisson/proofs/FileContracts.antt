-- The contracts of the two exported comparisons, as their promises take them: the postconditions that they are proved to have, their ties to the definitions, and that they ask for
-- nothing.
use Prim.Native.Nat.{ℕ}
use mathlib.Core.Path.{◌≡◌}
use mathlib.Core.List.{List}
use contract.Lifetimes.{Lfts}
use denote.Bor.{Bor}
use denote.MutBor.{Gone}
use denote.Triple.Clauses.{AtExit}
use borrow.Fn.Kinds.{Dens, ended_of}
use Rattle.filing_model.specs.Calls.{earlier, handed_back, handed_from}
use Rattle.caisson.specs.declared.HostWhich.{HostWhich}
use Rattle.caisson.specs.ToldFiling.{told_which, part_of}
use Rattle.caisson.proofs.Contracts.{shows}
use Rattle.caisson.proofs.caisson_earlier_part.Kinds as part-kinds
use Rattle.caisson.proofs.caisson_earlier_part.Reads as part-reads
use Rattle.caisson.proofs.caisson_which_earlier.Kinds as earlier-kinds
use Rattle.caisson.proofs.caisson_which_earlier.Reads as earlier-reads

-- ---- the comparison, which is lent two images and changes neither
pub earlier_tie : (κs : Lfts 2) (a : Dens κs earlier-kinds.ps) (h : HostWhich) (e : AtExit (ended_of 2 earlier-kinds.ps earlier-kinds.r) κs)
    → earlier-reads.Post κs a h e
    → told_which h ≡ part_of a.0.now a.1.0.now (earlier a.0.now a.1.0.now)
earlier_tie κs a h e post = post

pub earlier_asks_nothing : (κs : Lfts 2) (a : Dens κs earlier-kinds.ps) → earlier-reads.Asked κs a
earlier_asks_nothing κs a = tt

-- where the lent images stand: no contract speaks of it
pub record Images : Type 0 where
  pub first : Gone
  pub second : Gone

-- the arguments, at entry and at exit
abbrev with_images : Images → List ℕ → List ℕ → Bor (List ℕ) × (Bor (List ℕ) × Unit {0})
with_images s first second = (shows s.first first, (shows s.second second, tt))

abbrev pub EarlierCalled : List ℕ → List ℕ → HostWhich → Type 0
EarlierCalled first second h = (κs : Lfts 2) × (s : Images) × earlier-reads.Post κs (with_images s first second) h (with_images s first second)

pub earlier_called : (first second : List ℕ) (h : HostWhich) → EarlierCalled first second h → told_which h ≡ part_of first second (earlier first second)
earlier_called first second h (κs, s, post) = earlier_tie κs (with_images s first second) h (with_images s first second) post

-- ---- the part that is handed back: its bytes, and where they begin
module _ (κs : Lfts 2) (a : Dens κs part-kinds.ps) (e : AtExit (ended_of 2 part-kinds.ps part-kinds.r) κs) where
  pub part_tie :
      part-reads.Post κs a tt e
      → (e.1.1.0.now.now ≡ handed_back a.0.now a.1.0.now (earlier a.0.now a.1.0.now))
      × (e.1.1.0.now.ref_ptr ≡ handed_from a.0.ref_ptr a.1.0.ref_ptr (earlier a.0.now a.1.0.now))
  part_tie post = post

pub part_asks_nothing : (κs : Lfts 2) (a : Dens κs part-kinds.ps) → part-reads.Asked κs a
part_asks_nothing κs a = tt
