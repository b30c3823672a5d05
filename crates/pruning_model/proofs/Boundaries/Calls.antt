-- Cases at the boundaries of the call: "It refuses with 24, after the image checks, an output area shorter than the result", and "output bytes beyond the result keep their values".
use Prim.Native.Nat.{ℕ}
use mathlib.Core.Path.{◌≡◌, refl}
use mathlib.Core.List.{List, [], ◌∷◌, ◌++◌, map}
use lib.ListN.{length, replicate}
use Rattle.model.specs.Parties.{resets, writes, runs}
use Rattle.model.specs.Calls.{reset}
use Rattle.model.proofs.Opened.{accepted, refused, lent_bound}
use Rattle.model.proofs.Designs.{kind_two, lease}
use Rattle.renumbering.specs.Runs.{answers}
use Rattle.model.specs.Answers.{Answer, numbers_of}
use Rattle.pruning_model.specs.Calls.{prune}
use Rattle.pruning_model.proofs.Opened.{pruning, told}
use Rattle.pruning_model.proofs.Boundaries.Images.{mixed, mixed_pruned}

-- 252 bytes become 194
shows_lengths : length mixed ∷ length mixed_pruned ∷ [] ≡ 252 ∷ 194 ∷ []
shows_lengths = unfold pruning in refl

-- one byte too short: 24 at place 0, and no byte changes
shows_24 : told (prune mixed (replicate 193 5)) ≡ (refused 24 0, replicate 193 5)
shows_24 = unfold pruning in refl

-- as long as the result: accepted, and the count is its bytes
shows_exact_length : told (prune mixed (replicate 194 5)) ≡ (accepted 194, mixed_pruned)
shows_exact_length = unfold pruning in refl

-- longer: the bytes beyond keep their values
shows_beyond : told (prune mixed (replicate 194 5 ++ (6 ∷ 7 ∷ 8 ∷ []))) ≡ (accepted 194, mixed_pruned ++ (6 ∷ 7 ∷ 8 ∷ []))
shows_beyond = unfold pruning in refl

-- "after the image checks": the image's refusal comes first, whatever the area
shows_image_first : map (λ n. told (prune kind_two (replicate n 5))) (0 ∷ 300 ∷ []) ≡ (refused 3 1, []) ∷ (refused 3 1, replicate 300 5) ∷ []
shows_image_first = unfold pruning in refl

-- the whole image comes back, and the area is as long as it is
shows_whole : told (prune lease (replicate 235 0)) ≡ (accepted 235, lease)
shows_whole = unfold pruning in refl

-- "with the same port writes between its cycles", refusals included: each call answers alike
abbrev answered : List ℕ → ℕ → List Answer
answered image states =
    answers image (reset image (lent_bound (replicate 12 9) (replicate states 9) [])).lent (runs 2 ∷ writes 1 1 ∷ writes 0 1 ∷ writes 9 1 ∷ resets ∷ runs 1 ∷ [])

shows_answers_alike
    : (map numbers_of (answered mixed 21) ≡ accepted 2 ∷ accepted 0 ∷ refused 13 0 ∷ refused 13 9 ∷ accepted 0 ∷ accepted 1 ∷ [])
    × (map numbers_of (answered mixed_pruned 15) ≡ accepted 2 ∷ accepted 0 ∷ refused 13 0 ∷ refused 13 9 ∷ accepted 0 ∷ accepted 1 ∷ [])
shows_answers_alike = unfold pruning in (refl, refl)
