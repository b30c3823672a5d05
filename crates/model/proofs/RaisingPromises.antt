-- What is promised about 02, E6, "Raise the labels for me", each promise restated in full and closed by one citation, as in `Promises`. That ports and states keep
-- their labels, and that nothing but labels of inner registers changes, is inside `Raises` (specs/Raising.antt).
use Prim.Native.Nat.{ℕ, ◌<◌}
use mathlib.Core.Path.{◌≡◌}
use mathlib.Core.Logic.{◌↔◌}
use mathlib.Core.Bool.{true}
use mathlib.Core.List.{List}
use lib.ListN.{length}
use Rattle.model.specs.Image.{design_of, state_at}
use Rattle.model.specs.Parameters.{has_parameters}
use Rattle.model.specs.Answers.{Accepted, numbers_of}
use Rattle.model.specs.Raising.{AcceptedRaising, LeastRaising, accepts, raised_once, raised_labels, raised_image, raise}
use Rattle.model.specs.Refusals.{raise_table, in_numbers, Exactly}
use Rattle.model.specs.Verdict.{structure, verdict}
use Rattle.model.proofs.Raising.Theorem.{exists_exactly, at_rest}
use Rattle.model.proofs.Raising.Calls.{raise_answers, raise_parameters, raise_least, raise_comes_back, raise_twice, raise_whatever_held}

-- "Given an image that passes all checks up to 9, 16 included"; "An output area not as long as the image is refusal 14, judged after the image checks. It refuses
-- with 18, place 0 and after 14, exactly if no accepted raising exists." 02, E8: "raising refuses with 20, place 0, after its image checks and before 14, an image
-- that has parameters." The call is accepted exactly when every rule of its table is kept, and refused exactly by the first that is broken.
pub raise_exactly : (image out : List ℕ) → Exactly (raise_table image out) 0 out (in_numbers (raise image out))
raise_exactly = raise_answers

-- 02, E8: of an image that passes the checks up to 9, 20 is answered exactly if a state has a parameter.
pub raise_parameters_exactly : (image out : List ℕ) → structure image ≡ Accepted 0
    → (numbers_of (raise image out).answer ≡ record { number = 20; place = 0; count = 0 }) ↔ (has_parameters (design_of image) ≡ true)
raise_parameters_exactly = raise_parameters

-- The same as 18 without the call: where an image without parameters passes the checks up to 9, its raising is accepted exactly when some raising is.
pub raising_exists_exactly : (image : List ℕ) → structure image ≡ Accepted 0
    → ((s : ℕ) → s < length (design_of image).states → (state_at (design_of image) s).parameters ≡ 0)
    → (accepts (verdict (raised_image image)) ≡ true) ↔ ((raised : List ℕ) × AcceptedRaising image raised)
raising_exists_exactly = exists_exactly

-- "write into a second area the same image with inner register labels raised, never lowered, so that the whole is accepted. Port and state labels are fixed. The
-- result is the least: every accepted raising gives each register a label at or above ours."
pub raised_least : (image out : List ℕ) → (numbers_of (raise image out).answer).number ≡ 0 → LeastRaising image (raise image out).lent
raised_least = raise_least

-- The passes come to rest: one more would move nothing.
pub raised_at_rest : (image : List ℕ) → structure image ≡ Accepted 0
    → ((s : ℕ) → s < length (design_of image).states → (state_at (design_of image) s).parameters ≡ 0)
    → raised_once (design_of image) (raised_labels (design_of image)) ≡ raised_labels (design_of image)
raised_at_rest = at_rest

-- "An accepted image comes back unchanged." 02, E8: one without parameters, as others are refused with 20.
pub accepted_comes_back : (image out : List ℕ) → verdict image ≡ Accepted 0
    → ((s : ℕ) → s < length (design_of image).states → (state_at (design_of image) s).parameters ≡ 0)
    → length out ≡ length image
    → raise image out ≡ record { answer = Accepted 0; lent = image }
accepted_comes_back = raise_comes_back

-- So what was raised comes back from a second call as it is.
pub raised_twice : (image out again : List ℕ) → (numbers_of (raise image out).answer).number ≡ 0 → length again ≡ length image
    → raise (raise image out).lent again ≡ record { answer = Accepted 0; lent = (raise image out).lent }
raised_twice = raise_twice

-- What the second area held before does not matter: where the call is accepted, any other of the same length is left the same.
pub raised_whatever_held : (image out other : List ℕ) → length other ≡ length out → (numbers_of (raise image out).answer).number ≡ 0 → raise image other ≡ raise image out
raised_whatever_held = raise_whatever_held
