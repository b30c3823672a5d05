-- Labels written into the records of the registers change the labels of the design and nothing else: a label is the first byte of its register's record, and no
-- other record reads it.
use Prim.Native.Nat.{ℕ, zero, suc, ◌+◌, ◌*◌, ◌≤◌, ◌<◌}
use mathlib.Core.Path.{◌≡◌, refl, sym, ◌∙◌, ap}
use mathlib.Core.Logic.{◌⊎◌, inl, inr}
use mathlib.Core.List.{List, [], ◌∷◌}
use native.Mathlib.Omega.{arith}
use native.Mathlib.Decide.{ℕ_discrete}
use lib.ListN.{length, get_or, drop, set, length-set}
use lib.Seq.{get_or-set_same, get_or-set_other, get_or-drop, drop-set-lt, drop-drop}
use Rattle.model.specs.Limits.{register_length}
use Rattle.model.specs.Image.{byte_at, register_of, records_of}
use Rattle.model.specs.Labelling.{with_labels}
use Rattle.model.specs.Raising.{put_labels}
use Rattle.model.proofs.Laws.Indices.{nothing_below_zero}

-- ---- bytes
pub length-put : (place : ℕ) (labels bytes : List ℕ) → length (put_labels place labels bytes) ≡ length bytes
unfolding put_labels
length-put place [] bytes = refl
length-put place (l ∷ labels) bytes = length-put (place + register_length) labels (set bytes place l) ∙ length-set bytes place l

-- the bytes before the first label
pub put_before : (place : ℕ) (labels bytes : List ℕ) (i : ℕ) → i < place → byte_at (put_labels place labels bytes) i ≡ byte_at bytes i
unfolding put_labels
put_before place [] bytes i l = refl
put_before place (x ∷ labels) bytes i l =
    put_before (place + register_length) labels (set bytes place x) i (omega arith) ∙ get_or-set_other bytes place i x 0 (λ same. omega arith)

-- the bytes behind the last register
pub put_behind : (place : ℕ) (labels bytes : List ℕ) (k : ℕ) → place + register_length * length labels ≤ k → drop k (put_labels place labels bytes) ≡ drop k bytes
unfolding put_labels
put_behind place [] bytes k l = refl
put_behind place (x ∷ labels) bytes k l =
    put_behind (place + register_length) labels (set bytes place x) k (omega arith) ∙ drop-set-lt k bytes place x (omega arith)

-- a byte that is no label
pub put_elsewhere : (place : ℕ) (labels bytes : List ℕ) (i : ℕ) → ((r : ℕ) → r < length labels → i ≡ place + register_length * r → ⊥)
    → byte_at (put_labels place labels bytes) i ≡ byte_at bytes i
unfolding put_labels
put_elsewhere place [] bytes i none = refl
put_elsewhere place (x ∷ labels) bytes i none =
    put_elsewhere (place + register_length) labels (set bytes place x) i (λ r l same. none (suc r) (omega arith) (omega arith))
    ∙ get_or-set_other bytes place i x 0 (λ same. none 0 (omega arith) (omega arith))

-- a label
pub put_at : (place : ℕ) (labels bytes : List ℕ) (r : ℕ) → r < length labels → place + register_length * r < length bytes
    → byte_at (put_labels place labels bytes) (place + register_length * r) ≡ get_or labels r 0
unfolding put_labels
put_at place [] bytes r l inside = absurd (nothing_below_zero l)
put_at place (x ∷ labels) bytes zero l inside =
    let here : place + register_length * zero ≡ place = omega arith in
    rw here (put_before (place + register_length) labels (set bytes place x) place (omega arith) ∙ get_or-set_same bytes place x 0 (omega arith))
put_at place (x ∷ labels) bytes (suc r) l inside =
    let there : place + register_length * suc r ≡ place + register_length + register_length * r = omega arith in
    let same = length-set bytes place x in
    rw there (put_at (place + register_length) labels (set bytes place x) r (omega arith) (omega arith))

-- a byte is one of n labels, or none
pub label_byte_lem : (place n i : ℕ) → ((r : ℕ) × (r < n) × (i ≡ place + register_length * r)) ⊎ ((r : ℕ) → r < n → i ≡ place + register_length * r → ⊥)
label_byte_lem place zero i = inr (λ r l. absurd (nothing_below_zero l))
label_byte_lem place (suc n) i = go (label_byte_lem place n i) (ℕ_discrete i (place + register_length * n))
  where
    go : ((r : ℕ) × (r < n) × (i ≡ place + register_length * r)) ⊎ ((r : ℕ) → r < n → i ≡ place + register_length * r → ⊥) → Dec (i ≡ place + register_length * n)
        → ((r : ℕ) × (r < suc n) × (i ≡ place + register_length * r)) ⊎ ((r : ℕ) → r < suc n → i ≡ place + register_length * r → ⊥)
    go (inl (r, l, same)) last = inl (r, omega arith, same)
    go (inr none) (yes same) = inl (n, omega arith, same)
    go (inr none) (no other) = inr (λ r l same. none r (between r l same) same)
      where
        between : (r : ℕ) → r < suc n → i ≡ place + register_length * r → r < n
        between r l same = omega arith

-- ---- records
-- the records of the registers
pub put_records : (n place : ℕ) (labels bytes : List ℕ) → length labels ≡ n → place + register_length * n ≤ length bytes
    → records_of register_of register_length n (drop place (put_labels place labels bytes)) ≡ with_labels (records_of register_of register_length n (drop place bytes)) labels
unfolding records_of with_labels put_labels
put_records zero place [] bytes same inside = refl
put_records zero place (x ∷ labels) bytes same inside = absurd (omega arith)
put_records (suc n) place [] bytes same inside = absurd (omega arith)
put_records (suc n) place (x ∷ labels) bytes same inside =
    let next = place + register_length in
    let after = put_labels next labels (set bytes place x) in
    let near : (k : ℕ) → k < register_length → byte_at (drop place after) k ≡ byte_at (set bytes place x) (place + k) =
    λ k l. get_or-drop place after k 0 ∙ put_before next labels (set bytes place x) (place + k) (omega arith) in
    let field : (k : ℕ) → k < register_length → (k ≡ 0 → ⊥) → byte_at (drop place after) k ≡ byte_at (drop place bytes) k =
    λ k l other. near k l ∙ get_or-set_other bytes place (place + k) x 0 (λ here. other (omega arith)) ∙ sym (get_or-drop place bytes k 0) in
    let first : byte_at (drop place after) 0 ≡ x =
    near 0 (omega arith) ∙ ap (byte_at (set bytes place x)) (omega arith) ∙ get_or-set_same bytes place x 0 (omega arith) in
    let rest : records_of register_of register_length n (drop register_length (drop place after)) ≡ with_labels (records_of register_of register_length n (drop register_length (drop place bytes))) labels =
    rw (drop-drop register_length place after, drop-drop register_length place bytes)
    (put_records n next labels (set bytes place x) (omega arith) (rw (length-set bytes place x) (omega arith))
    ∙ ap (λ (more : List ℕ). with_labels (records_of register_of register_length n more) labels) (drop-set-lt next bytes place x (omega arith))) in
    rw (first, field 1 (omega arith) (λ z. omega arith), field 2 (omega arith) (λ z. omega arith), field 3 (omega arith) (λ z. omega arith), field 4 (omega arith) (λ z. omega arith), field 5 (omega arith) (λ z. omega arith), field 6 (omega arith) (λ z. omega arith), rest)
