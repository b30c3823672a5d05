-- A journal with more saved states: their bytes stand behind those saved so far, which stay, and the count is that of all.
use Prim.Native.Nat.{ℕ, ◌+◌, ◌*◌, ◌≤◌}
use mathlib.Core.Path.{◌≡◌, refl, sym, ◌∙◌, ap}
use mathlib.Core.List.{List, [], ◌∷◌, ◌++◌, append_assoc}
use native.Mathlib.Omega.{arith}
use lib.ListN.{length, take, drop, length-append, length-drop}
use lib.Seq.{take-add, length-take-le, drop_at}
use Rattle.model.specs.Image.{Design as Table}
use Rattle.model.specs.Values.{bytes_of}
use Rattle.model.specs.Calls.{Lent}
use Rattle.model.proofs.Laws.Words.{length-bytes_of}
use Rattle.design.specs.Words.{put_word}
use Rattle.journal_model.specs.Journals.{count_length, count_in, all_saved_bytes, journal_front, journal_with, recounted, saved_length, saved_in}
use Rattle.journal_model.proofs.Laws.{saved_append, length-saved_in, saved_bytes_lem}
use Rattle.encoding.specs.Parts.{overwritten_at}

-- the first word of a journal is its count
pub count_put : (journal : List ℕ) (n : ℕ) → count_length ≤ length journal → put_word journal 0 n ≡ recounted n journal
unfolding recounted bytes_of
count_put [] n l = absurd (omega arith)
count_put (a ∷ []) n l = absurd (omega arith)
count_put (a ∷ b ∷ []) n l = absurd (omega arith)
count_put (a ∷ b ∷ c ∷ []) n l = absurd (omega arith)
count_put (a ∷ b ∷ c ∷ e ∷ more) n l = refl

-- behind the first bytes of a longer front
drop-front : (n m : ℕ) (bytes rest : List ℕ) → n ≤ length bytes → drop n (take (n + m) bytes ++ rest) ≡ take m (drop n bytes) ++ rest
drop-front n m bytes rest l =
    rw (take-add n m bytes, append_assoc (take n bytes) (take m (drop n bytes)) rest) (drop_at (take n bytes) (take m (drop n bytes) ++ rest) n (length-take-le n bytes l))

pub saved_behind : (d : Table) (journal : List ℕ) (more : List Lent) {n : ℕ} → length more ≡ n → count_length + saved_length d * count_in journal ≤ length journal
    → recounted (count_in journal + n) (overwritten_at (count_length + saved_length d * count_in journal) (all_saved_bytes more) journal) ≡ journal_with (saved_in d journal ++ more) journal
unfolding recounted overwritten_at journal_with journal_front
saved_behind d journal more {n} e room =
    let m = saved_length d * count_in journal in
    let part = all_saved_bytes more in
    let own = take m (drop count_length journal) in
    let rest = drop (count_length + m + length part) journal in
    let counted = bytes_of ((count_in journal + n) ∷ []) in
    let bytes : all_saved_bytes (saved_in d journal ++ more) ≡ own ++ part = saved_append (saved_in d journal) more ∙ ap (λ (front : List ℕ). front ++ part) (saved_bytes_lem d journal) in
    let count : length (saved_in d journal ++ more) ≡ count_in journal + n = simp (length-append, length-saved_in d journal, e) in
    let behind = length-drop count_length journal in
    let size : length own ≡ m = length-take-le m (drop count_length journal) (omega arith) in
    let first = length-bytes_of ((count_in journal + n) ∷ []) in
    let long : length (counted ++ (own ++ part)) ≡ count_length + m + length part = rw (length-append counted (own ++ part), length-append own part) (omega arith) in
    let over : drop count_length (take (count_length + m) journal ++ part ++ rest) ≡ own ++ part ++ rest =
    ap (drop count_length) (append_assoc (take (count_length + m) journal) part rest) ∙ drop-front count_length m journal (part ++ rest) (omega arith) ∙ sym (append_assoc own part rest) in
    rw (count, bytes, long) (ap (λ (after : List ℕ). counted ++ after) over ∙ sym (append_assoc counted (own ++ part) rest))
