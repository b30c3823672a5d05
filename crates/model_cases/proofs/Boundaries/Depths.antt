-- Cases at the boundaries of the depth of nodes: refusal 7, its places and its order.
use Prim.Native.Nat.{ℕ, zero, suc, ◌+◌, ◌*◌}
use mathlib.Core.Path.{◌≡◌, refl}
use mathlib.Core.List.{List, [], ◌∷◌, ◌++◌}
use lib.ListN.{replicate}
use Rattle.model.proofs.Opened.{checks, refused, accepted, judged}
use Rattle.model.proofs.Designs.{one_state, register_record, skips, assigns, sequences, goes_to, branches, constant, adds}

-- "Commands and expressions nest to a depth of 64"; "any other has one more than its deepest such part": n ifs, one in the else of the other
abbrev nested_ifs : ℕ → ℕ → ℕ → List (List ℕ)
nested_ifs zero k e = []
nested_ifs (suc n) k e = goes_to 1 ∷ branches e (suc k) k ∷ nested_ifs n (suc (suc k)) (suc e)

abbrev ifs : ℕ → List ℕ
ifs n = one_state (1 ∷ []) [] (1 + 2 * n) (goes_to 1 ∷ nested_ifs n 1 0) (replicate n (constant 1))

-- the innermost command of 63 ifs has depth 1, the outermost 64
shows_ifs_63 : judged (ifs 63) ≡ accepted 0
shows_ifs_63 = unfold checks in refl

-- "depth above 64", at the if that is too deep
shows_ifs_64 : judged (ifs 64) ≡ refused 7 129
shows_ifs_64 = unfold checks in refl

-- ifs, one in the then of the other; of 65 the lowest that is too deep
abbrev then_ifs : ℕ → ℕ → ℕ → List (List ℕ)
then_ifs zero k e = []
then_ifs (suc n) k e = goes_to 1 ∷ branches e k (suc k) ∷ then_ifs n (suc (suc k)) (suc e)

-- at the lower of two ifs that are too deep
shows_then_ifs_65 : judged (one_state (1 ∷ []) [] 131 (goes_to 1 ∷ then_ifs 65 1 0) (replicate 65 (constant 1))) ≡ refused 7 129
shows_then_ifs_65 = unfold checks in refl

-- sequences, one in the first part of the other
abbrev left_sequences : ℕ → ℕ → List (List ℕ)
left_sequences zero k = []
left_sequences (suc n) k = skips ∷ sequences k (suc k) ∷ left_sequences n (suc (suc k))

abbrev seqs : ℕ → List ℕ
seqs n = one_state (1 ∷ []) [] (3 + 2 * n) (skips ∷ left_sequences n 1 ++ (goes_to 1 ∷ sequences (1 + 2 * n) (2 + 2 * n) ∷ [])) []

-- 62 sequences inside the body, a sequence: depth 64
shows_seqs_62 : judged (seqs 62) ≡ accepted 0
shows_seqs_62 = unfold checks in refl

-- and 65
shows_seqs_63 : judged (seqs 63) ≡ refused 7 129
shows_seqs_63 = unfold checks in refl

-- sequences, one in the second part of the other
abbrev right_sequences : ℕ → ℕ → List (List ℕ)
right_sequences zero k = []
right_sequences (suc n) k = skips ∷ sequences (suc k) k ∷ right_sequences n (suc (suc k))

-- 64 sequences: depth 65
shows_right_seqs_64 : judged (one_state (1 ∷ []) [] 129 (goes_to 1 ∷ right_sequences 64 1) []) ≡ refused 7 129
shows_right_seqs_64 = unfold checks in refl

-- n sums, one in the second part of the other, and what stands behind them; state 1 ends by goto t
abbrev right_sums : ℕ → ℕ → List (List ℕ) → List (List ℕ)
right_sums zero k more = more
right_sums (suc n) k more = constant 1 ∷ adds (suc k) k ∷ right_sums n (suc (suc k)) more

abbrev sums : ℕ → ℕ → List (List ℕ) → List ℕ
sums n t more =
    one_state (1 ∷ []) (register_record 0 0 0 ∷ []) 3 (assigns 0 (2 * n) ∷ goes_to t ∷ sequences 1 2 ∷ []) (constant 1 ∷ right_sums n 0 more)

-- "depth above 64", at the lower of two sums that are too deep; and 7 before 8: goto 0
shows_7_before_8 : judged (sums 65 0 []) ≡ refused 7 (1024 + 128)
shows_7_before_8 = unfold checks in refl

-- 6 before 7: a constant that is not used
shows_6_before_7 : judged (sums 64 1 (constant 1 ∷ [])) ≡ refused 6 (1024 + 129)
shows_6_before_7 = unfold checks in refl
