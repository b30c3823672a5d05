-- What the exported raising, 02, E6, told and left, from its postcondition (`OutContracts`) and no more.
use Prim.Native.Nat.{ℕ, ◌<◌}
use mathlib.Core.Path.{◌≡◌, sym, ◌∙◌, ap}
use mathlib.Core.Logic.{◌↔◌}
use mathlib.Core.Bool.{true}
use mathlib.Core.List.{List}
use lib.ListN.{length}
use Rattle.model.specs.Image.{design_of, state_at}
use Rattle.model.specs.Parameters.{has_parameters}
use Rattle.model.specs.Answers.{Accepted, numbers_of}
use Rattle.model.specs.Rules.{Keeps}
use Rattle.model.specs.Calls.{Left}
use Rattle.model.specs.Raising.{LeastRaising, raise}
use Rattle.model.specs.Verdict.{structure}
use Rattle.model.proofs.Exact.{verdict_exact}
use Rattle.model.proofs.RaisingPromises as meaning
use Rattle.caisson.specs.declared.HostAnswer.{HostAnswer}
use Rattle.caisson.specs.Told.{told}
use Rattle.caisson.proofs.OutContracts.{RaiseCalled, raise_called}
use Rattle.caisson.proofs.Answered.{numbers_told, lent_told, accepted_told}

-- ---- what the call told and left
module _ (image before : List ℕ) (h : HostAnswer) (after : List ℕ) (called : RaiseCalled image before h after) where
  raise_told : told h ≡ numbers_of (raise image before).answer
  raise_told = numbers_told h after (raise image before) (raise_called image before h after called)

  raise_leaves : after ≡ (raise image before).lent
  raise_leaves = lent_told h after (raise image before) (raise_called image before h after called)

  raise_accepted : h.number ≡ 0 → (numbers_of (raise image before).answer).number ≡ 0
  raise_accepted = accepted_told h after (raise image before) (raise_called image before h after called)

  -- 02, E8: of an image that passes the checks up to 9, a host is told 20 exactly if a state has a parameter.
  pub told_parameters_exactly : structure image ≡ Accepted 0 → (told h ≡ record { number = 20; place = 0; count = 0 }) ↔ (has_parameters (design_of image) ≡ true)
  told_parameters_exactly accepted = rw raise_told (meaning.raise_parameters_exactly image before accepted)

  -- "the same image with inner register labels raised, never lowered, so that the whole is accepted. Port and state labels are fixed. The result is the least:
  -- every accepted raising gives each register a label at or above ours."
  pub told_least : h.number ≡ 0 → LeastRaising image after
  told_least accepted = rw raise_leaves (meaning.raised_least image before (raise_accepted accepted))

  -- "An accepted image comes back unchanged", byte for byte. 02, E8: one without parameters, as others are refused with 20.
  pub told_comes_back : Keeps image → ((s : ℕ) → s < length (design_of image).states → (state_at (design_of image) s).parameters ≡ 0)
      → length before ≡ length image
      → (told h ≡ record { number = 0; place = 0; count = 0 }) × (after ≡ image)
  told_comes_back keeps plain long =
      let back = meaning.accepted_comes_back image before ((verdict_exact image).1 keeps) plain long in
      (raise_told ∙ ap (λ (x : Left (List ℕ)). numbers_of x.answer) back, raise_leaves ∙ ap (λ (x : Left (List ℕ)). x.lent) back)

-- What was raised comes back from a second call as it is.
pub told_twice :
    (image before after again third : List ℕ) (one other : HostAnswer)
    → RaiseCalled image before one after
    → one.number ≡ 0
    → RaiseCalled after again other third
    → length again ≡ length image
    → (told other ≡ record { number = 0; place = 0; count = 0 }) × (third ≡ after)
told_twice image before after again third one other first accepted second long =
    let left = raise_leaves image before one after first in
    let back = meaning.raised_twice image before again (raise_accepted image before one after first accepted) long in
    let same : raise after again ≡ record { answer = Accepted 0; lent = after } = rw left back in
    (raise_told after again other third second ∙ ap (λ (x : Left (List ℕ)). numbers_of x.answer) same, raise_leaves after again other third second ∙ ap (λ (x : Left (List ℕ)). x.lent) same)

-- What the second area held before does not matter: two calls with one image and areas of one length, of which one is accepted, tell and leave the same.
pub told_whatever_held :
    (image before other after third : List ℕ) (one two : HostAnswer)
    → RaiseCalled image before one after
    → one.number ≡ 0
    → RaiseCalled image other two third
    → length other ≡ length before
    → (told two ≡ told one) × (third ≡ after)
told_whatever_held image before other after third one two first accepted second long =
    let same = meaning.raised_whatever_held image before other long (raise_accepted image before one after first accepted) in (
      raise_told image other two third second ∙ ap (λ (x : Left (List ℕ)). numbers_of x.answer) same ∙ sym (raise_told image before one after first),
      raise_leaves image other two third second ∙ ap (λ (x : Left (List ℕ)). x.lent) same ∙ sym (raise_leaves image before one after first),
    )
