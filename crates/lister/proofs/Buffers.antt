-- A part of a buffer has the length asked for, and the buffers are long enough for a design that keeps the limits.
use Prim.Native.Nat.{ℕ, ◌*◌, ◌≤◌, ◌<◌}
use mathlib.Core.Path.{◌≡◌, sym}
use mathlib.Core.List.{List}
use native.Mathlib.Omega.{arith}
use lib.ListN.{length, take}
use lib.Seq.{length-take-le}
use Rattle.std.specs.Prelude.{Err}
use Rattle.model.specs.declared.RefusedAt.{RefusedAt}
use Rattle.model.specs.Answers.{Answer}
use Rattle.model.specs.Image.{Registers}
use Rattle.model.specs.Verdict.{verdict}
use Rattle.design.specs.declared.Design.{Design}
use Rattle.design.specs.Describes.{Describes}
use Rattle.design.proofs.ResetRules.{states_few}
use Rattle.listing.proofs.PlaceRules.{place_small}

pub part_length : (n : ℕ) (bytes : List ℕ) → n ≤ length bytes → n ≡ length (take n bytes)
part_length n bytes h = sym (length-take-le n bytes h)

pub registers_fit : {image : List ℕ} {x : Design} → Describes image x → 4 * x.registers ≤ 256
registers_fit d = omega (arith, d.registers, d.directory.sections Registers)

pub targets_fit : {image : List ℕ} {x : Design} → Describes image x → 3 * x.states ≤ 192
targets_fit d = let few = states_few d in omega arith

-- a place is a number of 32 bits
pub place_word : (image : List ℕ) {a : Answer} {why : RefusedAt} → a ≡ verdict image → a ≡ Err why → why.place < 4294967296
place_word image {why = why} e h = let small = place_small image {r = why.refusal} {p = why.place} e h in omega arith
