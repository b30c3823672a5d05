-- Laws of journals: saved states of the right lengths are read back from the bytes that they are written as, and what a run saves before its cycles has the right
-- lengths.
use Prim.Native.Nat.{ℕ, zero, suc, ◌+◌, ◌*◌, ◌-◌, ◌≤◌, ◌<◌}
use mathlib.Core.Path.{◌≡◌, refl, sym, ◌∙◌, ap}
use mathlib.Core.Logic.Iff
use mathlib.Core.Logic.{◌↔◌}
use mathlib.Core.Bool.{true}
use mathlib.Core.List.{List, [], ◌∷◌, ◌++◌, append_assoc}
use native.Mathlib.Omega.{arith}
use native.Mathlib.Nat.{mul-suc, mul-add}
use lib.ListN.{length, get_or, take, drop, length-append, length-drop, take-append-drop}
use lib.Seq.{length-take-le, take_at, drop_at, drop-append-add, drop-drop, take-add}
use Rattle.model.specs.Answers.{Accepted}
use Rattle.model.specs.Limits.{value_count, word_length, target_length}
use Rattle.model.specs.Image.{word32_at, AreBytes, records_of, Design, design_of}
use Rattle.model.specs.Verdict.{verdict}
use Rattle.model.specs.Values.{words_of, bytes_of}
use Rattle.model.specs.Machine.{Areas, Cycle, cycle, cycles, after_last, after_cycles}
use Rattle.model.specs.Calls.{Lent, lent_of}
use Rattle.model.specs.Parties.{RightLengths}
use Rattle.model.proofs.Laws.Equivalences.{less_iff, at_most_iff, and_three_iff}
use Rattle.model.proofs.Laws.Images.{record_at_lem}
use Rattle.model.proofs.Laws.Words.{length-records_of, words_of_bytes_bounded, bytes_of_words}
use Rattle.model.proofs.Independence.Relation.{Good}
use Rattle.model.proofs.Grouping.{cycles_good, good_ready}
use Rattle.journal_model.specs.Journals.{count_length, count_in, saved_bytes, all_saved_bytes, journal_front, journal_with, recounted, nothing_saved, saved_length, saved_of, saved_in, has_room, saved_before}
use Rattle.journal_model.specs.Calls.{saved_back}
use Rattle.journal_model.specs.Rules.{RoomKeeps}

-- ---- saved states of the right lengths
pub data AllSized (d : Design) : List Lent → Type 0 where
  none_sized : AllSized d []
  one_sized : {saved : Lent} {newer : List Lent} → RightLengths d saved → AllSized d newer → AllSized d (saved ∷ newer)

module _ {d : Design} where
  pub sized_append : {saved more : List Lent} → AllSized d saved → AllSized d more → AllSized d (saved ++ more)
  sized_append none_sized q = q
  sized_append (one_sized l p) q = one_sized l (sized_append p q)

  pub sized_take : {saved : List Lent} (n : ℕ) → AllSized d saved → AllSized d (take n saved)
  sized_take zero p = none_sized
  sized_take (suc n) none_sized = none_sized
  sized_take (suc n) (one_sized l p) = one_sized l (sized_take n p)

  pub sized_at : {saved : List Lent} → AllSized d saved → (i : ℕ) → i < length saved → RightLengths d (get_or saved i nothing_saved)
  sized_at none_sized i l = absurd (omega arith)
  sized_at (one_sized h p) zero l = h
  sized_at (one_sized h p) (suc i) l = sized_at p i (omega arith)

  length-one : {saved : Lent} → RightLengths d saved → length (saved_bytes saved) ≡ saved_length d
  length-one {saved} h = rw (length-append, h.registers, h.targets)

  pub length-saved : {saved : List Lent} → AllSized d saved → length (all_saved_bytes saved) ≡ saved_length d * length saved
  unfolding all_saved_bytes
  length-saved none_sized = omega arith
  length-saved {saved = saved ∷ newer} (one_sized h p) =
      length-append (saved_bytes saved) (all_saved_bytes newer) ∙ sum (saved_length d) (length newer) (length-one h) (length-saved p)
    where
      sum : (each n : ℕ) {a b : ℕ} → a ≡ each → b ≡ each * n → a + b ≡ each * suc n
      sum each n p q = omega arith

  pub length_front : {saved : List Lent} → AllSized d saved → length (journal_front saved) ≡ count_length + saved_length d * length saved
  unfolding journal_front bytes_of
  length_front p = let behind = length-saved p in rw behind (omega arith)

-- ---- from saved states to bytes
pub saved_append : (saved more : List Lent) → all_saved_bytes (saved ++ more) ≡ all_saved_bytes saved ++ all_saved_bytes more
unfolding all_saved_bytes
saved_append [] more = refl
saved_append (one ∷ saved) more =
    ap (λ (bytes : List ℕ). saved_bytes one ++ bytes) (saved_append saved more) ∙ sym (append_assoc (saved_bytes one) (all_saved_bytes saved) (all_saved_bytes more))

-- a word that bytes begin with
word_first : (v : ℕ) (rest : List ℕ) → v < value_count → word32_at (bytes_of (v ∷ []) ++ rest) 0 ≡ v
unfolding bytes_of words_of records_of
word_first v rest l = ap (λ (values : List ℕ). get_or values 0 0) (words_of_bytes_bounded (v ∷ []) bounded)
  where
    bounded : (r : ℕ) → get_or (v ∷ []) r 0 < value_count
    bounded zero = l
    bounded (suc r) = omega arith

-- behind what is written over the front of bytes they are as they were
drop-over : (front bytes : List ℕ) (n : ℕ) → length front ≤ n → drop n (front ++ drop (length front) bytes) ≡ drop n bytes
drop-over front bytes n l =
    let split : length front + (n - length front) ≡ n = omega arith in
    ap (λ (k : ℕ). drop k (front ++ drop (length front) bytes)) (sym split)
    ∙ drop-append-add front (drop (length front) bytes) (n - length front)
    ∙ drop-drop (n - length front) (length front) bytes
    ∙ ap (λ (k : ℕ). drop k bytes) split

length_over : (front bytes : List ℕ) → length front ≤ length bytes → length (front ++ drop (length front) bytes) ≡ length bytes
length_over front bytes l = simp (length-append, length-drop) (omega arith)

pub count_with : (saved : List Lent) (journal : List ℕ) → length saved < value_count → count_in (journal_with saved journal) ≡ length saved
unfolding journal_with journal_front
count_with saved journal l = rw append_assoc (word_first (length saved) _ l)

module _ {d : Design} where
  pub length-with : {saved : List Lent} (journal : List ℕ) → AllSized d saved → count_length + saved_length d * length saved ≤ length journal
      → length (journal_with saved journal) ≡ length journal
  unfolding journal_with
  length-with {saved} journal p l = length_over (journal_front saved) journal (rw (length_front p) l)

  pub with_more : {saved more : List Lent} (journal : List ℕ) → AllSized d saved → AllSized d more
      → journal_with (saved ++ more) (journal_with saved journal) ≡ journal_with (saved ++ more) journal
  unfolding journal_with
  with_more {saved} {more} journal p q =
      ap
      (λ (bytes : List ℕ). journal_front (saved ++ more) ++ bytes)
      (drop-over (journal_front saved) journal (length (journal_front (saved ++ more))) (rw (length_front p, length_front (sized_append p q), length-append saved more) (further (saved_length d) (length saved) (length more))))
    where
      further : (each n m : ℕ) → count_length + each * n ≤ count_length + each * (n + m)
      further each n m = let sum = mul-add each n m in omega arith

-- ---- from bytes to saved states
pub length-saved_in : (d : Design) (journal : List ℕ) → length (saved_in d journal) ≡ count_in journal
unfolding saved_in
length-saved_in d journal = length-records_of (saved_of d) (saved_length d) (count_in journal) (drop count_length journal)

-- fewer records are the first of more
records_fewer : {A : Type 0} (read : List ℕ → A) (width n m : ℕ) (bytes : List ℕ) → n ≤ m → records_of read width n bytes ≡ take n (records_of read width m bytes)
unfolding records_of
records_fewer read width zero m bytes l = refl
records_fewer read width (suc n) zero bytes l = absurd (omega arith)
records_fewer read width (suc n) (suc m) bytes l = ap (λ more. read bytes ∷ more) (records_fewer read width n m (drop width bytes) (omega arith))

module _ {d : Design} where
  -- the saved state that bytes begin with, and the bytes behind it
  saved_first : {saved : Lent} (rest : List ℕ) → RightLengths d saved → saved_of d (saved_bytes saved ++ rest) ≡ saved
  unfolding saved_of
  saved_first {saved} rest h =
      rw (
        append_assoc saved.registers saved.targets rest,
        take_at saved.registers (saved.targets ++ rest) (word_length * length d.registers) h.registers,
        drop_at saved.registers (saved.targets ++ rest) (word_length * length d.registers) h.registers,
        take_at saved.targets rest (target_length * length d.states) h.targets,
      )

  records_saved : {saved : List Lent} (rest : List ℕ) → AllSized d saved → records_of (saved_of d) (saved_length d) (length saved) (all_saved_bytes saved ++ rest) ≡ saved
  unfolding records_of all_saved_bytes
  records_saved rest none_sized = refl
  records_saved {saved = saved ∷ newer} rest (one_sized h p) =
      rw (
        append_assoc (saved_bytes saved) (all_saved_bytes newer) rest,
        saved_first (all_saved_bytes newer ++ rest) h,
        drop_at (saved_bytes saved) (all_saved_bytes newer ++ rest) (saved_length d) (length-one h),
        records_saved rest p,
      )

  pub saved_in_with : {saved : List Lent} (journal : List ℕ) → AllSized d saved → length saved < value_count → saved_in d (journal_with saved journal) ≡ saved
  unfolding saved_in journal_with journal_front bytes_of
  saved_in_with {saved} journal p l =
      rw (count_with saved journal l) (records_saved _ p)

  -- one more saved state behind those that a journal has
  pub with_next : {saved : List Lent} {now : Lent} (journal : List ℕ) → AllSized d saved → RightLengths d now → length saved < value_count
      → journal_with (saved_in d (journal_with saved journal) ++ now ∷ []) (journal_with saved journal) ≡ journal_with (saved ++ now ∷ []) journal
  with_next journal p h l = rw (saved_in_with journal p l) (with_more journal p (one_sized h none_sized))

  sized_first : (bytes : List ℕ) → saved_length d ≤ length bytes → RightLengths d (saved_of d bytes)
  unfolding saved_of
  sized_first bytes l =
      record {
        registers = length-take-le _ bytes (omega arith);
        targets = length-take-le _ (drop (word_length * length d.registers) bytes) (rw length-drop (omega arith));
      }

  records_sized : (n : ℕ) (bytes : List ℕ) → saved_length d * n ≤ length bytes → AllSized d (records_of (saved_of d) (saved_length d) n bytes)
  unfolding records_of
  records_sized zero bytes l = none_sized
  records_sized (suc n) bytes l =
      let one = mul-suc (saved_length d) n in
      one_sized (sized_first bytes (omega arith)) (records_sized n (drop (saved_length d) bytes) (rw length-drop (omega arith)))

  pub sized_in : (journal : List ℕ) → count_length + saved_length d * count_in journal ≤ length journal → AllSized d (saved_in d journal)
  unfolding saved_in
  sized_in journal l = records_sized (count_in journal) (drop count_length journal) (rw length-drop (omega arith))

-- ---- and back to the same bytes
-- a journal's first bytes are those of its count
own_count : (journal : List ℕ) → AreBytes journal → count_length ≤ length journal → bytes_of (count_in journal ∷ []) ≡ take count_length journal
unfolding words_of records_of
own_count [] h l = absurd (omega arith)
own_count (a ∷ []) h l = absurd (omega arith)
own_count (a ∷ b ∷ []) h l = absurd (omega arith)
own_count (a ∷ b ∷ c ∷ []) h l = absurd (omega arith)
own_count (a ∷ b ∷ c ∷ e ∷ more) h l = bytes_of_words 1 (a ∷ b ∷ c ∷ e ∷ []) four refl
  where
    four : AreBytes (a ∷ b ∷ c ∷ e ∷ [])
    four zero = h 0
    four (suc zero) = h 1
    four (suc (suc zero)) = h 2
    four (suc (suc (suc zero))) = h 3
    four (suc (suc (suc (suc i)))) = omega arith

module _ (d : Design) where
  -- the bytes of records that are read are the bytes that they were read from
  bytes_first : (bytes : List ℕ) → saved_bytes (saved_of d bytes) ≡ take (saved_length d) bytes
  unfolding saved_of
  bytes_first bytes = sym (take-add (word_length * length d.registers) (target_length * length d.states) bytes)

  records_bytes_lem : (n : ℕ) (bytes : List ℕ) → all_saved_bytes (records_of (saved_of d) (saved_length d) n bytes) ≡ take (saved_length d * n) bytes
  unfolding records_of all_saved_bytes
  records_bytes_lem zero bytes = let none : saved_length d * 0 ≡ 0 = omega arith in rw none
  records_bytes_lem (suc n) bytes =
      let more : saved_length d * suc n ≡ saved_length d + saved_length d * n = omega arith in
      rw (more, take-add (saved_length d) (saved_length d * n) bytes, bytes_first bytes, records_bytes_lem n (drop (saved_length d) bytes))

  pub saved_bytes_lem : (journal : List ℕ) → all_saved_bytes (saved_in d journal) ≡ take (saved_length d * count_in journal) (drop count_length journal)
  unfolding saved_in
  saved_bytes_lem journal = records_bytes_lem (count_in journal) (drop count_length journal)

  -- a journal with its own saved states is itself
  pub with_own_lem : (journal : List ℕ) → AreBytes journal → count_length + saved_length d * count_in journal ≤ length journal → journal_with (saved_in d journal) journal ≡ journal
  unfolding journal_with
  with_own_lem journal h l =
      rw (front, length-take-le (count_length + saved_length d * count_in journal) journal l) (take-append-drop (count_length + saved_length d * count_in journal) journal)
    where
      front : journal_front (saved_in d journal) ≡ take (count_length + saved_length d * count_in journal) journal
      front = unfold journal_front saved_in in
          rw (length-records_of (saved_of d) (saved_length d) (count_in journal) (drop count_length journal), own_count journal h (omega arith), records_bytes_lem (count_in journal) (drop count_length journal))
          (sym (take-add count_length (saved_length d * count_in journal) journal))

-- ---- a lowered count
pub count_recounted : (c : ℕ) (journal : List ℕ) → c < value_count → count_in (recounted c journal) ≡ c
unfolding recounted
count_recounted c journal l = word_first c (drop count_length journal) l

-- "in the journal only lowers the count"
pub recounted_behind : (c : ℕ) (journal : List ℕ) → drop count_length (recounted c journal) ≡ drop count_length journal
unfolding recounted bytes_of
recounted_behind c journal = refl

pub length-recounted : (c : ℕ) (journal : List ℕ) → count_length ≤ length journal → length (recounted c journal) ≡ length journal
unfolding recounted bytes_of
length-recounted c journal l = let rest = length-drop count_length journal in omega arith

pub saved_recounted : (d : Design) (c : ℕ) (journal : List ℕ) → c ≤ count_in journal → c < value_count → saved_in d (recounted c journal) ≡ take c (saved_in d journal)
unfolding saved_in
saved_recounted d c journal l k =
    rw (count_recounted c journal k, recounted_behind c journal) (records_fewer (saved_of d) (saved_length d) c (count_in journal) (drop count_length journal) l)

-- counting anew twice is counting anew once
pub recounted_twice : (c b : ℕ) (journal : List ℕ) → recounted c (recounted b journal) ≡ recounted c journal
unfolding recounted bytes_of
recounted_twice c b journal = refl

-- the bytes of the state before the k-th last cycle that is counted
pub saved_back_bytes : (d : Design) (journal : List ℕ) (k : ℕ) → 0 < k → k ≤ count_in journal
    → saved_back d journal k ≡ saved_of d (drop (count_length + saved_length d * (count_in journal - k)) journal)
unfolding saved_back saved_in
saved_back_bytes d journal k some l =
    record_at_lem (saved_of d) (saved_length d) (count_in journal) (drop count_length journal) (count_in journal - k) nothing_saved (omega arith)
    ∙ ap (saved_of d) (drop-drop (saved_length d * (count_in journal - k)) count_length journal)

-- ---- room
pub room_iff : (d : Design) (journal : List ℕ) (n : ℕ) → (has_room (saved_length d) (count_in journal + n) (length journal) ≡ true) ↔ RoomKeeps d journal n
unfolding has_room
room_iff d journal n =
    Iff.trans (and_three_iff at_most_iff at_most_iff less_iff) (λ h. record { counts = h.0; room = h.1; fits = h.2 }, λ k. (k.counts, k.room, k.fits))

-- ---- what a run saves
pub length_before : (lent : Lent) (ran : List Cycle) → length (saved_before lent ran) ≡ length ran
unfolding saved_before
length_before lent [] = refl
length_before lent (c ∷ more) = ap suc (length_before (lent_of c.after) more)

module _ (d : Design) where
  pub length-cycles : (n : ℕ) (areas : Areas) → length (cycles d n areas) ≡ n
  unfolding cycles
  length-cycles zero areas = refl
  length-cycles (suc n) areas = ap suc (length-cycles n (cycle d areas).after)

  pub length-run_saved : (lent : Lent) (n : ℕ) (areas : Areas) → length (saved_before lent (cycles d n areas)) ≡ n
  length-run_saved lent n areas = length_before lent (cycles d n areas) ∙ length-cycles n areas

  -- a run that is cut: the second part saves from the areas that the first leaves
  pub before_sum : (n m : ℕ) (areas : Areas)
      → saved_before (lent_of areas) (cycles d (n + m) areas)
      ≡ saved_before (lent_of areas) (cycles d n areas) ++ saved_before (lent_of (after_cycles d n areas)) (cycles d m (after_cycles d n areas))
  unfolding saved_before cycles after_cycles after_last
  before_sum zero m areas = let none : 0 + m ≡ m = omega arith in rw none
  before_sum (suc n) m areas =
      let more : suc n + m ≡ suc (n + m) = omega arith in
      rw more (ap (λ (saved : List Lent). lent_of areas ∷ saved) (before_sum n m (cycle d areas).after))

  -- the same of any lent areas, whose bytes the first cycle overwrites
  pub before_append : (n m : ℕ) (lent : Lent) (areas : Areas)
      → saved_before lent (cycles d (suc n + m) areas)
      ≡ saved_before lent (cycles d (suc n) areas) ++ saved_before (lent_of (after_cycles d (suc n) areas)) (cycles d m (after_cycles d (suc n) areas))
  unfolding saved_before cycles after_cycles after_last
  before_append n m lent areas =
      let more : suc n + m ≡ suc (n + m) = omega arith in
      rw more (ap (λ (saved : List Lent). lent ∷ saved) (before_sum n m (cycle d areas).after))

  -- one more cycle
  pub before_next : (n : ℕ) (areas : Areas) {lent now : Lent} → lent_of areas ≡ lent → now ≡ lent_of (after_cycles d n areas)
      → saved_before lent (cycles d (suc n) areas) ≡ saved_before lent (cycles d n areas) ++ now ∷ []
  unfolding saved_before cycles
  before_next n areas own e =
      let more : suc n ≡ n + 1 = omega arith in
      rw (← own, e) (ap (λ (k : ℕ). saved_before (lent_of areas) (cycles d k areas)) more ∙ before_sum n 1 areas)

  -- fewer cycles save the first of what more cycles save
  pub before_fewer : (m n : ℕ) (lent : Lent) (areas : Areas) → m ≤ n → take m (saved_before lent (cycles d n areas)) ≡ saved_before lent (cycles d m areas)
  unfolding saved_before cycles
  before_fewer zero n lent areas l = refl
  before_fewer (suc m) zero lent areas l = absurd (omega arith)
  before_fewer (suc m) (suc n) lent areas l =
      ap (λ (saved : List Lent). lent ∷ saved) (before_fewer m n (lent_of (cycle d areas).after) (cycle d areas).after (omega arith))

  -- the state that is saved before a cycle
  pub before_at : (n i : ℕ) (areas : Areas) → i < n → get_or (saved_before (lent_of areas) (cycles d n areas)) i nothing_saved ≡ lent_of (after_cycles d i areas)
  unfolding saved_before cycles after_cycles after_last
  before_at zero i areas l = absurd (omega arith)
  before_at (suc n) zero areas l = refl
  before_at (suc n) (suc i) areas l = before_at n i (cycle d areas).after (omega arith)

  pub before_first : (n : ℕ) (lent : Lent) (areas : Areas) → 0 < n → get_or (saved_before lent (cycles d n areas)) 0 nothing_saved ≡ lent
  unfolding saved_before cycles
  before_first zero lent areas l = absurd (omega arith)
  before_first (suc n) lent areas l = refl

  pub before_later : (n i : ℕ) (lent : Lent) (areas : Areas) → 0 < i → i < n → get_or (saved_before lent (cycles d n areas)) i nothing_saved ≡ lent_of (after_cycles d i areas)
  unfolding saved_before cycles after_cycles after_last
  before_later zero i lent areas s l = absurd (omega arith)
  before_later (suc n) zero lent areas s l = absurd (omega arith)
  before_later (suc n) (suc i) lent areas s l = before_at n i (cycle d areas).after (omega arith)

module _ (image : List ℕ) (accepted : verdict image ≡ Accepted 0) where
  cycle_good : (areas : Areas) → Good (design_of image) areas → Good (design_of image) (cycle (design_of image) areas).after
  unfolding cycles after_cycles after_last
  cycle_good areas good = cycles_good image accepted 1 areas good

  -- every state of a run has the right lengths
  pub before_sized : (n : ℕ) {lent : Lent} {areas : Areas} → RightLengths (design_of image) lent → Good (design_of image) areas
      → AllSized (design_of image) (saved_before lent (cycles (design_of image) n areas))
  unfolding saved_before cycles
  before_sized zero lengths good = none_sized
  before_sized (suc n) {areas} lengths good =
      let next = cycle_good areas good in
      one_sized lengths (before_sized n (good_ready image accepted (cycle (design_of image) areas).after next).lengths next)
