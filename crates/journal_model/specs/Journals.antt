-- 02, E9: a journal is "a third lent area, whose first 4 bytes count the saved cycles, oldest first behind them". Its saved states as a list, and its bytes.
use Rattle.std.specs.Prelude.{ℕ, ◌+◌, ◌*◌, Bool, ◌&&◌, List, [], ◌∷◌, ◌++◌, leb, ltb, length, take, drop}
use Rattle.model.specs.Limits.{value_count, word_length, target_length}
use Rattle.model.specs.Image.{word32_at, records_of, Design}
use Rattle.model.specs.Values.{bytes_of}
use Rattle.model.specs.Machine.{Cycle}
use Rattle.model.specs.Calls.{Lent, lent_of}

-- "whose first 4 bytes count the saved cycles"
abbrev pub count_length : ℕ
count_length = 4

abbrev pub count_in : List ℕ → ℕ
count_in journal = word32_at journal 0

-- ---- from saved states to bytes
-- "saves both areas, registers first"
abbrev pub saved_bytes : Lent → List ℕ
saved_bytes saved = saved.registers ++ saved.targets

-- "oldest first"
unfoldable pub all_saved_bytes : List Lent → List ℕ
all_saved_bytes [] = []
all_saved_bytes (saved ∷ newer) = saved_bytes saved ++ all_saved_bytes newer

-- the bytes that a journal of these saved states begins with
unfoldable pub journal_front : List Lent → List ℕ
journal_front saved = bytes_of (length saved ∷ []) ++ all_saved_bytes saved

-- a journal with these saved states: "its other bytes keep their values"
unfoldable pub journal_with : List Lent → List ℕ → List ℕ
journal_with saved journal = journal_front saved ++ drop (length (journal_front saved)) journal

-- "in the journal only lowers the count"
unfoldable pub recounted : ℕ → List ℕ → List ℕ
recounted count journal = bytes_of (count ∷ []) ++ drop count_length journal

-- ---- from bytes to saved states
-- past the last saved state
abbrev pub nothing_saved : Lent
nothing_saved = record { registers = []; targets = [] }

module _ (d : Design) where
  -- the bytes of a saved state
  abbrev pub saved_length : ℕ
  saved_length = word_length * length d.registers + target_length * length d.states

  -- the saved state that bytes begin with
  unfoldable pub saved_of : List ℕ → Lent
  saved_of bytes =
      record {
        registers = take (word_length * length d.registers) bytes;
        targets = take (target_length * length d.states) (drop (word_length * length d.registers) bytes);
      }

  -- the saved states that a journal counts: "its bytes are taken as lent"
  unfoldable pub saved_in : List ℕ → List Lent
  saved_in journal = records_of saved_of saved_length (count_in journal) (drop count_length journal)

-- ---- room
-- A journal of so many bytes has room for so many saved states of a length. 21 judges "a journal under 4 bytes, or too short for its count and the cycles to run,
-- or whose new count passes 32 bits".
unfoldable pub has_room : ℕ → ℕ → ℕ → Bool
has_room each saved bytes = leb count_length bytes && leb (count_length + each * saved) bytes && ltb saved value_count

-- ---- what a run saves
-- "both areas .. before every cycle": before the first as they are lent, before another as the cycle before it left them
unfoldable pub saved_before : Lent → List Cycle → List Lent
saved_before lent [] = []
saved_before lent (c ∷ more) = lent ∷ saved_before (lent_of c.after) more
