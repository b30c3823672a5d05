-- The contracts of the three exported functions that write an image into a second area, as their promises take them: the postconditions that they are proved to have, their ties to the
-- definitions, and that they ask for nothing.
use Prim.Native.Nat.{ℕ}
use mathlib.Core.Path.{◌≡◌}
use mathlib.Core.List.{List}
use contract.Lifetimes.{Lfts}
use denote.Bor.{Bor}
use denote.MutBor.{MutBor, Gone}
use denote.Triple.Clauses.{AtExit}
use borrow.Fn.Kinds.{Dens, ended_of}
use Rattle.model.specs.Refusals.{in_numbers}
use Rattle.model.specs.Raising.{raise}
use Rattle.pruning_model.specs.Calls.{prune}
use Rattle.filing_model.specs.Calls.{file}
use Rattle.caisson.specs.declared.HostAnswer.{HostAnswer}
use Rattle.caisson.specs.Told.{told_left}
use Rattle.caisson.proofs.Contracts.{shows, holds}
use Rattle.caisson.proofs.caisson_raise.Kinds as raise-kinds
use Rattle.caisson.proofs.caisson_raise.Reads as raise-reads
use Rattle.caisson.proofs.caisson_prune.Kinds as prune-kinds
use Rattle.caisson.proofs.caisson_prune.Reads as prune-reads
use Rattle.caisson.proofs.caisson_file.Kinds as file-kinds
use Rattle.caisson.proofs.caisson_file.Reads as file-reads

-- ---- the ties
pub raise_tie : (κs : Lfts 2) (a : Dens κs raise-kinds.ps) (h : HostAnswer) (e : AtExit (ended_of 2 raise-kinds.ps raise-kinds.r) κs)
    → raise-reads.Post κs a h e
    → told_left h e.1.0.now ≡ in_numbers (raise a.0.now a.1.0.now)
raise_tie κs a h e post = post

pub prune_tie : (κs : Lfts 2) (a : Dens κs prune-kinds.ps) (h : HostAnswer) (e : AtExit (ended_of 2 prune-kinds.ps prune-kinds.r) κs)
    → prune-reads.Post κs a h e
    → told_left h e.1.0.now ≡ in_numbers (prune a.0.now a.1.0.now)
prune_tie κs a h e post = post

pub file_tie : (κs : Lfts 2) (a : Dens κs file-kinds.ps) (h : HostAnswer) (e : AtExit (ended_of 2 file-kinds.ps file-kinds.r) κs)
    → file-reads.Post κs a h e
    → told_left h e.1.0.now ≡ in_numbers (file a.0.now a.1.0.now)
file_tie κs a h e post = post

-- ---- none asks for anything
pub raise_asks_nothing : (κs : Lfts 2) (a : Dens κs raise-kinds.ps) → raise-reads.Asked κs a
raise_asks_nothing κs a = tt

pub prune_asks_nothing : (κs : Lfts 2) (a : Dens κs prune-kinds.ps) → prune-reads.Asked κs a
prune_asks_nothing κs a = tt

pub file_asks_nothing : (κs : Lfts 2) (a : Dens κs file-kinds.ps) → file-reads.Asked κs a
file_asks_nothing κs a = tt

-- ---- calls of the exported functions
-- where the lent slices stand, and their ghost names: no contract speaks of these
pub record OutSlices : Type 0 where
  pub image : Gone
  pub out : Gone

-- the arguments, at entry and at exit
abbrev pub with_out : OutSlices → List ℕ → List ℕ → Bor (List ℕ) × (MutBor (List ℕ) × Unit {0})
with_out s image out = (shows s.image image, (holds s.out out, tt))

-- An exported function was called with this image and this second area, answered h and left the area so: its postcondition holds.
module _ (image area : List ℕ) (h : HostAnswer) (after : List ℕ) where
  abbrev pub RaiseCalled : Type 0
  RaiseCalled = (κs : Lfts 2) × (s : OutSlices) × raise-reads.Post κs (with_out s image area) h (with_out s image after)

  abbrev pub PruneCalled : Type 0
  PruneCalled = (κs : Lfts 2) × (s : OutSlices) × prune-reads.Post κs (with_out s image area) h (with_out s image after)

  abbrev pub FileCalled : Type 0
  FileCalled = (κs : Lfts 2) × (s : OutSlices) × file-reads.Post κs (with_out s image area) h (with_out s image after)

  -- ---- what was called was done
  pub raise_called : RaiseCalled → told_left h after ≡ in_numbers (raise image area)
  raise_called (κs, s, post) = raise_tie κs (with_out s image area) h (with_out s image after) post

  pub prune_called : PruneCalled → told_left h after ≡ in_numbers (prune image area)
  prune_called (κs, s, post) = prune_tie κs (with_out s image area) h (with_out s image after) post

  pub file_called : FileCalled → told_left h after ≡ in_numbers (file image area)
  file_called (κs, s, post) = file_tie κs (with_out s image area) h (with_out s image after) post
