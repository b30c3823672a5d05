-- Bytes written over others leave as many bytes, and a part behind a part is one part. A part is copied byte by byte: its first bytes stand over those they replace, and the others are
-- as they were.
use Prim.Native.Nat.{ℕ, ◌+◌, ◌-◌, ◌≤◌, ◌<◌}
use mathlib.Core.Path.{◌≡◌, refl, sym, ◌∙◌, ap}
use mathlib.Core.List.{List, [], ◌++◌, append-nil, append_assoc}
use native.Mathlib.Omega.{arith}
use native.Mathlib.Numerals.{add-one}
use lib.ListN.{length, get_or, set, take, drop, length-append, length-drop, length-set, take-append-drop, drop_of_length-le}
use lib.Seq.{paste, paste-zero, paste-suc, take-length, length-take-le, take_at, drop-append-add, drop-drop, get_or-drop, get_or-append-add}
use Rattle.model.specs.Image.{byte_at}
use Rattle.encoding.specs.Parts.{overwritten_at, over}

module _ (at : ℕ) (bytes : List ℕ) where
  front_long : (part : List ℕ) → at ≤ length bytes → length (take at bytes ++ part) ≡ at + length part
  front_long part l = simp (length-append, length-take-le at bytes l)

  pub length_over : (part : List ℕ) → at + length part ≤ length bytes → length (overwritten_at at part bytes) ≡ length bytes
  unfolding overwritten_at
  length_over part l = let front = front_long part (omega arith) in simp (length-append (take at bytes ++ part), length-drop) (omega arith)

  pub over_none : overwritten_at at [] bytes ≡ bytes
  unfolding overwritten_at
  over_none = let none : at + 0 ≡ at = omega arith in rw (append-nil, none, take-append-drop)

  -- a part behind a part is one part
  pub over_behind : (first second : List ℕ) → at ≤ length bytes → overwritten_at (at + length first) second (overwritten_at at first bytes) ≡ overwritten_at at (first ++ second) bytes
  unfolding overwritten_at
  over_behind first second l =
      let front = take at bytes ++ first in
      let rest = drop (at + length first) bytes in
      let long : length front ≡ at + length first = front_long first l in
      let end : at + length first + length second ≡ at + length (first ++ second) = simp length-append (omega arith) in
      let behind : drop (at + length first + length second) (front ++ rest) ≡ drop (at + length first + length second) bytes =
      ap (λ (n : ℕ). drop (n + length second) (front ++ rest)) (sym long) ∙ drop-append-add front rest (length second) ∙ drop-drop (length second) (at + length first) bytes in
      rw (take_at front rest (at + length first) long, behind, end, append_assoc (take at bytes) first second)

-- the same, of what was left one after the other
pub put_behind : (at : ℕ) (bytes first second : List ℕ) {between after : List ℕ}
    → between ≡ overwritten_at at first bytes
    → after ≡ overwritten_at (at + length first) second between
    → at ≤ length bytes
    → after ≡ overwritten_at at (first ++ second) bytes
put_behind at bytes first second e f inside = f ∙ ap (overwritten_at (at + length first) second) e ∙ over_behind at bytes first second inside

-- a part as long as the area is all of it
pub over_whole : (part bytes : List ℕ) → length part ≡ length bytes → overwritten_at 0 part bytes ≡ part
unfolding overwritten_at
over_whole part bytes e =
    let behind : drop (0 + length part) bytes ≡ [] = drop_of_length-le bytes {i = 0 + length part} (omega arith) in
    rw (behind, append-nil part)

-- a part from the first place on stands over the beginning
pub over_beginning : (part bytes : List ℕ) → overwritten_at 0 part bytes ≡ over part bytes
unfolding overwritten_at over
over_beginning part bytes = let none : 0 + length part ≡ length part = omega arith in rw none

-- behind the bytes that are put over the beginning of an area everything stays
pub beyond_over : (bytes out : List ℕ) (i : ℕ) → length bytes ≤ i → byte_at (over bytes out) i ≡ byte_at out i
unfolding over
beyond_over bytes out i behind =
    let place : i ≡ length bytes + (i - length bytes) = omega arith in
    ap (byte_at (bytes ++ drop (length bytes) out)) place
    ∙ get_or-append-add bytes (drop (length bytes) out) (i - length bytes) 0
    ∙ get_or-drop (length bytes) out (i - length bytes) 0
    ∙ ap (byte_at out) (sym place)

-- ---- a part copied
-- the first i bytes of a part are written over others
pub record PutSo (part old : List ℕ) (at i : ℕ) (now : List ℕ) : Type 0 where
  pub written : now ≡ paste old at part i
  pub room : at + length part ≤ length old
  pub most : i ≤ length part
  pub long : length now ≡ length old

pub put_begins : {part old : List ℕ} {at : ℕ} → at + length part ≤ length old → PutSo part old at 0 old
put_begins {part} {old} {at} room = record { written = paste-zero old at part; room = room; most = omega arith; long = refl }

module _ {part old now : List ℕ} {at i : ℕ} (so : PutSo part old at i now) where
  pub put_inside : i < length part → at + i < length now
  put_inside l = let room = so.room in let long = so.long in omega arith

  pub put_more : {b : ℕ} → i < length part → b ≡ get_or part i 0 → PutSo part old at (i + 1) (set now (at + i) b)
  put_more {b} l e =
      let room = so.room in
      record {
        written = rw (so.written, e, add-one) (paste-suc old at part i 0 (omega arith) l);
        room = room;
        most = omega arith;
        long = length-set now (at + i) b ∙ so.long;
      }

  pub put_done : length part ≤ i → now ≡ overwritten_at at part old
  unfolding overwritten_at
  put_done l =
      let most = so.most in
      let all : i ≡ length part = omega arith in
      so.written ∙ rw (all, take-length)
