-- Records that stand one behind the other are read and written one behind the other: what holds of each kind of record holds of lists of them.
use Prim.Native.Nat.{ℕ, zero, suc, ◌+◌, ◌*◌, ◌≤◌, ◌<◌}
use mathlib.Core.Path.{◌≡◌, refl, sym, ◌∙◌, ap, ap₂}
use mathlib.Core.List.{List, [], ◌∷◌, ◌++◌, append_assoc}
use native.Mathlib.Omega.{arith}
use native.Mathlib.Nat.{div-add-mod}
use lib.ListN.{length, get_or, take, drop, length-append, length-drop}
use lib.Seq.{drop_at, take-add}
use Rattle.model.specs.Image.{AreBytes, Section, record_length, offset, size, count, end, records_of, section_of}
use Rattle.model.specs.Rules.{SectionKeeps}
use Rattle.model.proofs.Laws.Words.{drop-bytes, records_all}
use Rattle.encoding.specs.Encoding.{records_bytes}
use Rattle.encoding.proofs.Fields.{Bytes, none, bytes_joined}
use Rattle.encoding.proofs.Records.{Encodes}

module _ {A : Type 0} {read : List ℕ → A} {bytes : A → List ℕ} {width : ℕ} {Fits : A → Type 0} (kind : Encodes read bytes width Fits) where
  pub length-records : (xs : List A) → length (records_bytes bytes xs) ≡ width * length xs
  unfolding records_bytes
  length-records [] = omega arith
  length-records (x ∷ xs) =
      length-append (bytes x) (records_bytes bytes xs) ∙ rw (kind.sized x, length-records xs) (omega arith)

  pub records_in_bytes : (default : A) (xs : List A) → ((i : ℕ) → i < length xs → Fits (get_or xs i default)) → Bytes (records_bytes bytes xs)
  unfolding records_bytes
  records_in_bytes default [] fit = none
  records_in_bytes default (x ∷ xs) fit = bytes_joined (kind.in_bytes x (fit 0 (omega arith))) (records_in_bytes default xs (λ i l. fit (suc i) (omega arith)))

  -- records are read as they were written, whatever stands behind them
  pub records_read : (default : A) (xs : List A) → ((i : ℕ) → i < length xs → Fits (get_or xs i default))
      → (rest : List ℕ)
      → records_of read width (length xs) (records_bytes bytes xs ++ rest) ≡ xs
  unfolding records_bytes records_of
  records_read default [] fit rest = refl
  records_read default (x ∷ xs) fit rest =
      let more = records_bytes bytes xs ++ rest in
      rw (append_assoc (bytes x) (records_bytes bytes xs) rest, kind.reads x (fit 0 (omega arith)) more, drop_at (bytes x) more width (kind.sized x), records_read default xs (λ i l. fit (suc i) (omega arith)) rest)

  -- bytes are written as they were read
  pub records_written : (n : ℕ) (l : List ℕ) → AreBytes l → width * n ≤ length l → records_bytes bytes (records_of read width n l) ≡ take (width * n) l
  unfolding records_bytes records_of
  records_written zero l h long = let none : width * zero ≡ zero = omega arith in rw none
  records_written (suc n) l h long =
      let next : width * suc n ≡ width + width * n = omega arith in
      let left = length-drop width l in
      rw (next, take-add width (width * n) l, kind.writes l h (omega arith), records_written n (drop width l) (drop-bytes width l h) (omega arith))

-- ---- a section of an image
-- a whole number of records is as long as its section
pub section_sized : (image : List ℕ) (s : Section) → SectionKeeps image s → record_length s * count image s ≡ size image s
section_sized image s keeps = omega (arith, div-add-mod (size image s) (record_length s), keeps.whole)

module _ (image : List ℕ) (s : Section) {A : Type 0} {read : List ℕ → A} {bytes : A → List ℕ} {Fits : A → Type 0} (kind : Encodes read bytes (record_length s) Fits) where
  -- the records of a section are those that stand behind its front
  pub section_read : (default : A) (xs : List A) → ((i : ℕ) → i < length xs → Fits (get_or xs i default))
      → (front rest : List ℕ)
      → image ≡ front ++ (records_bytes bytes xs ++ rest)
      → offset image s ≡ length front
      → count image s ≡ length xs
      → section_of read image s ≡ xs
  unfolding section_of
  section_read default xs fit front rest e at counted =
      let behind = ap (drop (offset image s)) e ∙ drop_at front (records_bytes bytes xs ++ rest) (offset image s) (sym at) in
      ap₂ (records_of read (record_length s)) counted behind ∙ records_read kind default xs fit rest

  pub section_fits : AreBytes image → (default : A) → Fits default → (i : ℕ) → Fits (get_or (section_of read image s) i default)
  unfolding section_of
  section_fits h default base i =
      records_all read (record_length s) Fits default kind.fits base (count image s) (drop (offset image s) image) (drop-bytes (offset image s) image h) i

  -- bytes up to a section, and its records, are the bytes up to its end
  pub section_written : AreBytes image → SectionKeeps image s → end image s ≤ length image
      → (front : List ℕ)
      → front ≡ take (offset image s) image
      → front ++ records_bytes bytes (section_of read image s) ≡ take (end image s) image
  unfolding section_of
  section_written h keeps inside front e =
      let sized = section_sized image s keeps in
      let behind = drop (offset image s) image in
      let left = length-drop (offset image s) image in
      let records : records_bytes bytes (records_of read (record_length s) (count image s) behind) ≡ take (size image s) behind =
      records_written kind (count image s) behind (drop-bytes (offset image s) image h) (omega arith) ∙ ap (λ k. take k behind) sized in
      ap₂ (λ p q. p ++ q) e records ∙ sym (take-add (offset image s) (size image s) image)
