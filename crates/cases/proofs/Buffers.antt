-- A part of a buffer has the length asked for, and what is written to its start leaves the bytes behind.
use Prim.Native.Nat.{ℕ, ◌≤◌}
use mathlib.Core.Path.{◌≡◌, sym}
use mathlib.Core.List.{List, ◌++◌}
use native.Mathlib.Omega.{arith}
use lib.ListN.{length, take, drop, length-append, length-drop}
use lib.Seq.{length-take-le, drop_at}

pub part_length : (n : ℕ) (bytes : List ℕ) → n ≤ length bytes → n ≡ length (take n bytes)
part_length n bytes h = sym (length-take-le n bytes h)

-- the bytes behind a part that is written to stay
pub rest_stays : (n : ℕ) (part bytes : List ℕ) → length (part ++ drop n bytes) ≡ length bytes → n ≤ length bytes → drop n (part ++ drop n bytes) ≡ drop n bytes
rest_stays n part bytes same l =
    let both = length-append part (drop n bytes) in
    let rest = length-drop n bytes in
    drop_at part (drop n bytes) n (omega arith)
