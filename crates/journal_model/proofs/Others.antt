-- A journalled run writes the count and the states that it saves: those that the journal had, and what stands behind the new ones, keep their bytes.
use Rattle.std.specs.Prelude.{Err}
use Prim.Native.Nat.{ℕ, ◌+◌, ◌*◌, ◌-◌, ◌≤◌, ◌<◌}
use mathlib.Core.Path.{◌≡◌, refl, sym, ◌∙◌, ap}
use mathlib.Core.Logic.{◌⊎◌, inl, inr}
use mathlib.Core.List.{List, [], ◌∷◌, ◌++◌}
use native.Mathlib.Omega.{arith}
use lib.ListN.{length, drop, length-append, get_or-append}
use lib.Seq.{get_or-append-add, get_or-take, get_or-drop}
use Rattle.model.specs.Answers.{Answer, Accepted}
use Rattle.model.specs.Image.{Design, byte_at, design_of}
use Rattle.model.specs.Values.{bytes_of}
use Rattle.model.specs.Calls.{Lent}
use Rattle.journal_model.specs.Journals.{count_length, count_in, all_saved_bytes, journal_front, journal_with, saved_length, saved_in}
use Rattle.journal_model.specs.Calls.{LentJournal, run_journalled_answer, run_journalled}
use Rattle.journal_model.proofs.Laws.{AllSized, saved_append, length-saved, length_front, length-saved_in, sized_in, saved_bytes_lem}
use Rattle.journal_model.proofs.Accepted.{RunsJournalled, after_run, saved_after, accepted_runs, runs_leaves, room_own, after_sized, after_many}

-- bytes behind the front
behind_front : (saved : List Lent) (journal : List ℕ) (i : ℕ) → length (journal_front saved) ≤ i → byte_at (journal_with saved journal) i ≡ byte_at journal i
unfolding journal_with
behind_front saved journal i l =
    let front = journal_front saved in
    let place : i ≡ length front + (i - length front) = omega arith in
    rw place (get_or-append-add front (drop (length front) journal) (i - length front) 0 ∙ get_or-drop (length front) journal (i - length front) 0)

-- bytes of saved states that a journal has
module _ (d : Design) (journal : List ℕ) (sized : AllSized d (saved_in d journal)) (newer : List Lent) where
  among_saved : (j : ℕ) → j < saved_length d * count_in journal → byte_at (all_saved_bytes (saved_in d journal ++ newer)) j ≡ byte_at journal (count_length + j)
  among_saved j l =
      let own = all_saved_bytes (saved_in d journal) in
      let many : length own ≡ saved_length d * count_in journal = length-saved sized ∙ ap (λ (n : ℕ). saved_length d * n) (length-saved_in d journal) in
      rw
      (saved_append (saved_in d journal) newer)
      (get_or-append own (all_saved_bytes newer) 0 j (omega arith)
      ∙ ap (λ (bytes : List ℕ). byte_at bytes j) (saved_bytes_lem d journal)
      ∙ get_or-take (saved_length d * count_in journal) (drop count_length journal) j 0 l
      ∙ get_or-drop count_length journal j 0)

  among_front : (i : ℕ) → count_length ≤ i → i < count_length + saved_length d * count_in journal → byte_at (journal_with (saved_in d journal ++ newer) journal) i ≡ byte_at journal i
  unfolding journal_with journal_front bytes_of
  among_front i l k =
      let saved = saved_in d journal ++ newer in
      let count = bytes_of (length saved ∷ []) in
      let place : i ≡ count_length + (i - count_length) = omega arith in
      let long : length (all_saved_bytes saved) ≡ saved_length d * count_in journal + length (all_saved_bytes newer) = many_saved in
      get_or-append (journal_front saved) (drop (length (journal_front saved)) journal) 0 i (omega arith)
      ∙ ap (λ (n : ℕ). byte_at (journal_front saved) n) place
      ∙ get_or-append-add count (all_saved_bytes saved) (i - count_length) 0
      ∙ among_saved (i - count_length) (omega arith)
      ∙ ap (λ (n : ℕ). byte_at journal n) (sym place)
    where
      many_saved : length (all_saved_bytes (saved_in d journal ++ newer)) ≡ saved_length d * count_in journal + length (all_saved_bytes newer)
      many_saved = rw (saved_append (saved_in d journal) newer, length-append, length-saved sized, length-saved_in d journal)

module _ (image : List ℕ) (lent : LentJournal) (n : ℕ) where
  -- the places of saved states that the journal had, and those behind the states that the run saves
  abbrev pub OtherByte : ℕ → Type 0
  OtherByte i =
      ((count_length ≤ i) × (i < count_length + saved_length (design_of image) * count_in lent.journal))
      ⊎ (count_length + saved_length (design_of image) * (count_in lent.journal + n) ≤ i)

  others_after : RunsJournalled image lent n → (i : ℕ) → OtherByte i → byte_at (after_run (design_of image) lent n).journal i ≡ byte_at lent.journal i
  others_after r i (inl (l, k)) = among_front (design_of image) lent.journal (sized_in lent.journal (room_own r.room)) _ i l k
  others_after r i (inr l) =
      let long = length_front (after_sized image lent n r) in
      let many = after_many image lent n r in
      behind_front (saved_after (design_of image) lent n) lent.journal i (rw (long, many) l)

  -- whatever it answers
  pub others_kept : (i : ℕ) → OtherByte i → byte_at (run_journalled image lent n).lent.journal i ≡ byte_at lent.journal i
  unfolding run_journalled
  others_kept i h = go (run_journalled_answer image lent n) refl
    where
      go : (a : Answer) → run_journalled_answer image lent n ≡ a → byte_at (run_journalled image lent n).lent.journal i ≡ byte_at lent.journal i
      go (Accepted count) e = let r = accepted_runs image lent n (rw e) in rw (runs_leaves image lent n r) (others_after r i h)
      go (Err why) e = rw e
