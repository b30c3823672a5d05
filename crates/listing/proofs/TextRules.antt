-- Text behind text is one text, and a field grows item by item.
use Prim.Native.Nat.{ℕ, zero, suc, ◌+◌, ◌*◌, ◌≤◌, ◌<◌}
use mathlib.Core.Path.{◌≡◌, refl, sym, ◌∙◌, ap}
use mathlib.Core.List.{List, [], ◌∷◌, ◌++◌, append_assoc}
use native.Mathlib.Omega.{arith}
use native.Mathlib.Numerals.{add-one}
use lib.ListN.{length, get_or, set, take, drop, length-append}
use lib.Seq.{drop-drop, length-take-le, sets, sets-eq, take_all, take-append_seam}
use borrow.Rule.Slice.PartMut.{put_mid}
use Rattle.model.specs.Image.{word32_at}
use Rattle.model.specs.Values.{words_of}
use Rattle.model.specs.Listing.{decimal, spaced}
use Rattle.model.proofs.Laws.Words.{length-words_of}
use Rattle.design.proofs.WordRules.{words_at}
use Rattle.listing.specs.Texts.{written, Put, parted}

-- ---- what is written, as parts of the buffer
written_sets : (text out : List ℕ) (at : ℕ) → written out at text ≡ sets out at text
unfolding written
written_sets [] out at = refl
written_sets (b ∷ more) out at = ap (λ (n : ℕ). written (set out at b) n more) (add-one at) ∙ written_sets more (set out at b) (suc at)

pub written_parts : (text out : List ℕ) (at : ℕ) → at + length text ≤ length out → written out at text ≡ take at out ++ text ++ drop (at + length text) out
written_parts text out at l = written_sets text out at ∙ sets-eq text out at l

-- so many bytes from the front are the text
pub front_is : {out text after : List ℕ} {n : ℕ} → Put out 0 text after n → n ≤ length out → take n after ≡ text
front_is {out} {text} {after} {n} put l =
    let behind = put.behind in
    let same : n ≡ length text = omega arith in
    ap (take n) (put.bytes ∙ written_parts text out 0 (omega arith)) ∙ rw same (take-append_seam text (drop (0 + length text) out))

-- ---- text behind text
written_append : (a b out : List ℕ) (at : ℕ) → written (written out at a) (at + length a) b ≡ written out at (a ++ b)
unfolding written
written_append [] b out at = ap (λ (n : ℕ). written out n b) (omega arith)
written_append (x ∷ a) b out at =
    let same : at + length (x ∷ a) ≡ at + 1 + length a = omega arith in
    ap (λ (n : ℕ). written (written (set out at x) (at + 1) a) n b) same ∙ written_append a b (set out at x) (at + 1)

pub put_then : {out between after a b : List ℕ} {at p r : ℕ} → Put out at a between p → Put between p b after r → Put out at (a ++ b) after r
put_then {out} {between} {after} {a} {b} {at} {p} {r} first second =
    let long = length-append a b in
    let p-is = first.behind in
    let r-is = second.behind in
    record {
      bytes = second.bytes ∙ ap (λ (o : List ℕ). written o p b) first.bytes ∙ ap (λ (n : ℕ). written (written out at a) n b) first.behind ∙ written_append a b out at;
      behind = omega arith;
    }

-- ---- a byte, and a text at once
pub put_one : {out : List ℕ} {at b : ℕ} → Put out at (b ∷ []) (set out at b) (at + 1)
unfolding written
put_one = record { bytes = refl; behind = refl }

-- a text copied over the bytes that it replaces
pub put_copied : {out text part : List ℕ} {at k : ℕ} → at + length text ≤ length out → k ≡ length text → part ≡ text → Put out at text (put_mid at k out part) (at + length text)
put_copied {out} {text} {part} {at} {k} room long same =
    let parts = written_parts text out at room ∙ append_assoc (take at out) text (drop (at + length text) out) in
    record { bytes = rw (same, long, drop-drop (length text) at out) (sym parts); behind = refl }

-- ---- the items of a field
pub first_item : {out after : List ℕ} {at r : ℕ} (i n : ℕ) → i ≡ 0 → Put out at (decimal n) after r → Put out at (parted i n) after r
unfolding parted
first_item i n e put = rw e put

pub next_item : {out between after : List ℕ} {at p r : ℕ} (i n : ℕ) → (i ≡ 0 → ⊥) → Put out at (32 ∷ []) between p → Put between p (decimal n) after r → Put out at (parted i n) after r
unfolding parted
next_item zero n h first second = absurd (h refl)
next_item (suc i) n h first second = put_then first second

spaced_more : (items : List ℕ) (i : ℕ) → i < length items → spaced (take (suc i) items) ≡ spaced (take i items) ++ parted i (get_or items i 0)
unfolding spaced parted
spaced_more [] i l = absurd (omega arith)
spaced_more (x ∷ more) zero l = refl
spaced_more (x ∷ []) (suc i) l = absurd (omega arith)
spaced_more (x ∷ y ∷ more) (suc zero) l = refl
spaced_more (x ∷ y ∷ more) (suc (suc i)) l =
    ap (λ (rest : List ℕ). decimal x ++ 32 ∷ rest) (spaced_more (y ∷ more) (suc i) (omega arith))
    ∙ sym (append_assoc (decimal x) (32 ∷ spaced (y ∷ take i more)) (parted (suc i) (get_or more i 0)))

-- i items are put
pub record FieldSo (items out₀ : List ℕ) (at i : ℕ) (out : List ℕ) (p : ℕ) : Type 0 where
  pub put : Put out₀ at (spaced (take i items)) out p
  pub most : p ≤ at + 11 * i
  pub long : length out ≡ length out₀

pub field_begins : {out : List ℕ} {at : ℕ} (items : List ℕ) → FieldSo items out at 0 out at
unfolding written spaced
field_begins items = record { put = record { bytes = refl; behind = omega arith }; most = omega arith; long = refl }

module _ {items out₀ out : List ℕ} {at i p : ℕ} (so : FieldSo items out₀ at i out p) where
  pub field_short : {count : ℕ} → i ≤ count → p ≤ at + 11 * count
  field_short l = let most = so.most in omega arith

  pub field_more : {after : List ℕ} {v q : ℕ} → i < length items → v ≡ get_or items i 0 → Put out p (parted i v) after q → q ≤ p + 11 → length after ≡ length out → FieldSo items out₀ at (i + 1) after q
  field_more {after} {v} {q} l e put few same =
      let most = so.most in
      let one : spaced (take (i + 1) items) ≡ spaced (take i items) ++ parted i v = rw (add-one, e) (spaced_more items i l) in
      record { put = rw one (put_then so.put put); most = omega arith; long = same ∙ so.long }

  pub field_done : length items ≤ i → Put out₀ at (spaced items) out p
  field_done l = rw (take_all i items l) at so.put

-- the states of a walk
pub walk_inside : {i count : ℕ} (walk : List ℕ) → i < length (take count walk) → count ≤ length walk → i + 1 ≤ count
walk_inside {count = count} walk l h = let long = length-take-le count walk h in omega arith

-- the values of registers
pub registers_more : {out₀ out after : List ℕ} {at i p v q count : ℕ} (registers : List ℕ) → i < count → FieldSo (words_of count registers) out₀ at i out p → length registers ≡ 4 * count → v ≡ word32_at registers (4 * i)
    → Put out p (parted i v) after q
    → q ≤ p + 11
    → length after ≡ length out
    → FieldSo (words_of count registers) out₀ at (i + 1) after q
registers_more {count = count} registers l so h e put few same =
    let long = length-words_of count registers in
    field_more so (omega arith) (e ∙ sym (words_at registers l h)) put few same

pub registers_done : {out₀ out : List ℕ} {at i p : ℕ} (registers : List ℕ) (count : ℕ) → FieldSo (words_of count registers) out₀ at i out p → count ≤ i → Put out₀ at (spaced (words_of count registers)) out p
registers_done registers count so h = let long = length-words_of count registers in field_done so (omega arith)
