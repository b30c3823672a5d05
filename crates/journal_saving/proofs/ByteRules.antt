-- A part that is written over all of another is all that is left of it.
use Prim.Native.Nat.{ℕ, ◌+◌, ◌-◌, ◌≤◌}
use mathlib.Core.Path.{◌≡◌, ◌∙◌}
use mathlib.Core.List.{List, [], append-nil}
use native.Mathlib.Omega.{arith}
use lib.ListN.{length, take, drop, length-drop, drop_of_length-le}
use lib.Seq.{length-take-le}
use Rattle.encoding.specs.Parts.{overwritten_at}
use Rattle.journal_saving.specs.Bytes.{part_of}

-- a part written over all of another
pub put_whole : (bytes old : List ℕ) (at : ℕ) {now : List ℕ} → at + length old ≤ length bytes → now ≡ overwritten_at 0 (take (at + length old - at) (drop at bytes)) old → now ≡ part_of at (length old) bytes
unfolding overwritten_at part_of
put_whole bytes old at room e =
    let size : at + length old - at ≡ length old = omega arith in
    let behind = length-drop at bytes in
    let whole : length (take (length old) (drop at bytes)) ≡ length old = length-take-le (length old) (drop at bytes) (omega arith) in
    let none : drop (0 + length (take (length old) (drop at bytes))) old ≡ [] = drop_of_length-le old {i = 0 + length (take (length old) (drop at bytes))} (omega arith) in
    e ∙ rw (size, none, append-nil)
