-- What the two calls answer that are about the library itself: the constants of the definition, whatever was called before. They are lent nothing.
use Prim.Native.Nat.{ℕ}
use mathlib.Core.Path.{◌≡◌}
use contract.Lifetimes.{Lfts}
use denote.Triple.Clauses.{AtExit}
use borrow.Fn.Kinds.{Dens, ended_of}
use Rattle.caisson.specs.Versions.{library_version, image_format}
use Rattle.caisson.proofs.caisson_version.Kinds as version-kinds
use Rattle.caisson.proofs.caisson_version.Reads as version-reads
use Rattle.caisson.proofs.caisson_format.Kinds as format-kinds
use Rattle.caisson.proofs.caisson_format.Reads as format-reads

pub version_tie : (κs : Lfts 0) (a : Dens κs version-kinds.ps) (r : ℕ) (e : AtExit (ended_of 0 version-kinds.ps version-kinds.r) κs) → version-reads.Post κs a r e → r ≡ library_version
version_tie κs a r e post = post

pub version_asks_nothing : (κs : Lfts 0) (a : Dens κs version-kinds.ps) → version-reads.Asked κs a
version_asks_nothing κs a = tt

pub format_tie : (κs : Lfts 0) (a : Dens κs format-kinds.ps) (r : ℕ) (e : AtExit (ended_of 0 format-kinds.ps format-kinds.r) κs) → format-reads.Post κs a r e → r ≡ image_format
format_tie κs a r e post = post

pub format_asks_nothing : (κs : Lfts 0) (a : Dens κs format-kinds.ps) → format-reads.Asked κs a
format_asks_nothing κs a = tt
