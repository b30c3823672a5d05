-- A record is written field by field, each behind the one before it, the directory pair by pair, and a section record by record.
use Prim.Native.Nat.{ℕ, ◌+◌, ◌*◌, ◌/◌, ◌%◌, ◌≤◌}
use mathlib.Core.Path.{◌≡◌, sym, ◌∙◌, ap}
use mathlib.Core.List.{List, [], ◌∷◌, ◌++◌, append-nil, append_assoc}
use native.Mathlib.Omega.{arith}
use lib.ListN.{length, set}
use lib.Seq.{sets-eq}
use Rattle.model.specs.Limits.{directory_length, state_length, node_length}
use Rattle.model.specs.Image.{Design}
use Rattle.encoding.specs.Encoding.{word16_bytes, state_bytes, node_bytes, records_bytes, pair_bytes, directory_bytes}
use Rattle.encoding.specs.Parts.{overwritten_at}
use Rattle.encoding.specs.Writers.{two_pairs, three_pairs, Sizes, DirectoryPut}
use Rattle.encoding.proofs.Records.{Encodes}
use Rattle.encoding.proofs.Sections.{length-records}
use Rattle.encoding.proofs.PartRules.{put_behind}

-- ---- fields
module _ (out : List ℕ) (at : ℕ) where
  pub byte_put : (value : ℕ) → at + 1 ≤ length out → set out at value ≡ overwritten_at at (value ∷ []) out
  unfolding overwritten_at
  byte_put value room = sets-eq (value ∷ []) out at room

  pub bytes_put : (first second : ℕ) {one after : List ℕ}
      → after ≡ overwritten_at (at + 1) (second ∷ []) one
      → one ≡ overwritten_at at (first ∷ []) out
      → at + 2 ≤ length out
      → after ≡ overwritten_at at (first ∷ second ∷ []) out
  bytes_put first second e f room = put_behind at out (first ∷ []) (second ∷ []) f e (omega arith)

  pub word16_put : (value : ℕ) {after : List ℕ} → after ≡ overwritten_at at (value % 256 ∷ value / 256 % 256 ∷ []) out → after ≡ overwritten_at at (word16_bytes value) out
  unfolding word16_bytes
  word16_put value e = e

  pub pair_put : (first second : ℕ) {one after : List ℕ}
      → after ≡ overwritten_at (at + 2) (word16_bytes second) one
      → one ≡ overwritten_at at (word16_bytes first) out
      → at + 4 ≤ length out
      → after ≡ overwritten_at at (pair_bytes first second) out
  unfolding word16_bytes
  pair_put first second e f room = put_behind at out (word16_bytes first) (word16_bytes second) f e (omega arith)

  -- ---- records
  pub head_put : (first second word : ℕ) {one after : List ℕ}
      → after ≡ overwritten_at (at + 2) (word16_bytes word) one
      → one ≡ overwritten_at at (first ∷ second ∷ []) out
      → at + 4 ≤ length out
      → after ≡ overwritten_at at (first ∷ second ∷ word16_bytes word) out
  head_put first second word e f room = put_behind at out (first ∷ second ∷ []) (word16_bytes word) f e (omega arith)

  pub node_put : (kind item a b c : ℕ) {one after : List ℕ}
      → after ≡ overwritten_at (at + 4) (pair_bytes b c) one
      → one ≡ overwritten_at at (kind ∷ item ∷ word16_bytes a) out
      → at + node_length ≤ length out
      → after ≡ overwritten_at at (node_bytes (record { kind = kind; item = item; a = a; b = b; c = c })) out
  unfolding node_bytes word16_bytes
  node_put kind item a b c e f room = put_behind at out (kind ∷ item ∷ word16_bytes a) (pair_bytes b c) f e (omega arith)

  pub bounds_put : (first_lower first_upper second_lower second_upper : ℕ) {one after : List ℕ}
      → after ≡ overwritten_at (at + 2) (second_lower ∷ second_upper ∷ []) one
      → one ≡ overwritten_at at (first_lower ∷ first_upper ∷ []) out
      → at + 4 ≤ length out
      → after ≡ overwritten_at at (first_lower ∷ first_upper ∷ second_lower ∷ second_upper ∷ []) out
  bounds_put first_lower first_upper second_lower second_upper e f room = put_behind at out (first_lower ∷ first_upper ∷ []) (second_lower ∷ second_upper ∷ []) f e (omega arith)

  pub parameters_put : (parameters first_lower first_upper second_lower second_upper : ℕ) {one after : List ℕ}
      → after ≡ overwritten_at (at + 1) (first_lower ∷ first_upper ∷ second_lower ∷ second_upper ∷ []) one
      → one ≡ overwritten_at at (parameters ∷ []) out
      → at + 5 ≤ length out
      → after ≡ overwritten_at at (parameters ∷ first_lower ∷ first_upper ∷ second_lower ∷ second_upper ∷ []) out
  parameters_put parameters first_lower first_upper second_lower second_upper e f room =
      put_behind at out (parameters ∷ []) (first_lower ∷ first_upper ∷ second_lower ∷ second_upper ∷ []) f e (omega arith)

  pub state_put : (parent label command parameters first_lower first_upper second_lower second_upper : ℕ) {one after : List ℕ}
      → after ≡ overwritten_at (at + 4) (parameters ∷ first_lower ∷ first_upper ∷ second_lower ∷ second_upper ∷ []) one
      → one ≡ overwritten_at at (parent ∷ label ∷ word16_bytes command) out
      → at + state_length ≤ length out
      → after
      ≡ overwritten_at at (state_bytes (record { parent = parent; label = label; command = command; parameters = parameters; first_lower = first_lower; first_upper = first_upper; second_lower = second_lower; second_upper = second_upper })) out
  unfolding state_bytes word16_bytes
  state_put parent label command parameters first_lower first_upper second_lower second_upper e f room =
      put_behind at out (parent ∷ label ∷ word16_bytes command) (parameters ∷ first_lower ∷ first_upper ∷ second_lower ∷ second_upper ∷ []) f e (omega arith)

  -- ---- the directory
  pub two_pairs_put : (offset first second : ℕ) {one after : List ℕ}
      → after ≡ overwritten_at (at + 4) (pair_bytes (offset + first) second) one
      → one ≡ overwritten_at at (pair_bytes offset first) out
      → at + 8 ≤ length out
      → after ≡ overwritten_at at (two_pairs offset first second) out
  unfolding two_pairs word16_bytes
  two_pairs_put offset first second e f room = put_behind at out (pair_bytes offset first) (pair_bytes (offset + first) second) f e (omega arith)

  pub three_pairs_put : (offset first second third : ℕ) {one after : List ℕ}
      → after ≡ overwritten_at (at + 8) (pair_bytes (offset + first + second) third) one
      → one ≡ overwritten_at at (two_pairs offset first second) out
      → at + 12 ≤ length out
      → after ≡ overwritten_at at (three_pairs offset first second third) out
  unfolding three_pairs two_pairs word16_bytes
  three_pairs_put offset first second third e f room = put_behind at out (two_pairs offset first second) (pair_bytes (offset + first + second) third) f e (omega arith)

module _ (out : List ℕ) (first labels registers states commands expressions : ℕ) where
  pairs_directory : first ≡ directory_length → (d : Design) → Sizes d labels registers states commands expressions
      → two_pairs first labels registers ++ three_pairs (first + labels + registers) states commands expressions ≡ directory_bytes d
  unfolding directory_bytes two_pairs three_pairs word16_bytes
  pairs_directory at d sizes = rw (at, ← sizes.labels_sized, ← sizes.registers_sized, ← sizes.states_sized, ← sizes.commands_sized, ← sizes.expressions_sized)

  both_put : {one after : List ℕ}
      → after ≡ overwritten_at 8 (three_pairs (first + labels + registers) states commands expressions) one
      → one ≡ overwritten_at 0 (two_pairs first labels registers) out
      → after ≡ overwritten_at 0 (two_pairs first labels registers ++ three_pairs (first + labels + registers) states commands expressions) out
  unfolding two_pairs word16_bytes
  both_put e f = put_behind 0 out (two_pairs first labels registers) (three_pairs (first + labels + registers) states commands expressions) f e (omega arith)

  pub directory_put : {one after : List ℕ}
      → after ≡ overwritten_at 8 (three_pairs (first + labels + registers) states commands expressions) one
      → one ≡ overwritten_at 0 (two_pairs first labels registers) out
      → first ≡ directory_length
      → DirectoryPut labels registers states commands expressions out after
  directory_put e f at = record { put = λ d sizes. both_put e f ∙ ap (λ part. overwritten_at 0 part out) (pairs_directory at d sizes) }

-- ---- sections
records_more : {A : Type 0} (bytes : A → List ℕ) (xs : List A) (x : A) → records_bytes bytes xs ++ bytes x ≡ records_bytes bytes (xs ++ (x ∷ []))
unfolding records_bytes
records_more bytes [] x = sym (append-nil (bytes x))
records_more bytes (y ∷ xs) x = append_assoc (bytes y) (records_bytes bytes xs) (bytes x) ∙ ap (λ more. bytes y ++ more) (records_more bytes xs x)

-- a record behind those that are written
module _ {A : Type 0} {read : List ℕ → A} {bytes : A → List ℕ} {width : ℕ} {Fits : A → Type 0} (kind : Encodes read bytes width Fits) where
  pub record_put : (out : List ℕ) (at : ℕ) (xs : List A) (x : A) {one after : List ℕ}
      → after ≡ overwritten_at (at + width * length xs) (bytes x) one
      → one ≡ overwritten_at at (records_bytes bytes xs) out
      → at ≤ length out
      → after ≡ overwritten_at at (records_bytes bytes (xs ++ (x ∷ []))) out
  record_put out at xs x {one} e f inside =
      let place = ap (λ n. overwritten_at (at + n) (bytes x) one) (sym (length-records kind xs)) in
      put_behind at out (records_bytes bytes xs) (bytes x) f (e ∙ place) inside ∙ ap (λ part. overwritten_at at part out) (records_more bytes xs x)
