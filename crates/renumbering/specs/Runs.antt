-- What it is for two images to run alike: of whole lists of calls, as 01 has them, each call answers alike, and each cycle leaves the same registers and walks the same states under
-- new numbers. Where states are left out, a number is given to those too, and it may be that of a state that stays; so it is said as well that only states that stay ever run, and that
-- no two of them have one number.
use Rattle.std.specs.Prelude.{ℕ, ◌≡◌}
use mathlib.Core.List.{List, [], ◌∷◌, map, Memᴰ}
use Rattle.model.specs.Answers.{Answer}
use Rattle.model.specs.Image.{design_of}
use Rattle.model.specs.Machine.{Cycle}
use Rattle.model.specs.Calls.{Lent, reset}
use Rattle.model.specs.Parties.{Call, perform, events, cycles_of, at_end, RightLengths}

-- what a list of calls answers, call by call
unfoldable pub answers : List ℕ → Lent → List Call → List Answer
answers image lent [] = []
answers image lent (call ∷ more) = (perform image lent call).answer ∷ answers image (perform image lent call).lent more

-- what a cycle leaves in the registers, and its walk, with other numbers for the states
pub record Ran : Type 0 where
  pub registers : List ℕ
  pub walk : List ℕ

abbrev pub ran_under : (ℕ → ℕ) → Cycle → Ran
ran_under number c = record { registers = c.after.registers; walk = map number c.walk }

-- every state that ran stays
abbrev pub AllStay : (ℕ → Type 0) → List Cycle → Type 0
AllStay Stays ran = (c : Cycle) → Memᴰ c ran → (s : ℕ) → Memᴰ s c.walk → Stays s

-- One list of calls, made on an image and on another: each call answers alike, every state that runs stays, each cycle leaves the same registers and walks the same states under new
-- numbers, and the registers are the same at the end.
pub record RunAlike (image other : List ℕ) (Stays : ℕ → Type 0) (number : ℕ → ℕ) (lent lent' : Lent) (calls : List Call) : Type 0 where
  pub answer : answers image lent calls ≡ answers other lent' calls
  pub stay : AllStay Stays (cycles_of (events image lent calls))
  pub ran : map (ran_under number) (cycles_of (events image lent calls)) ≡ map (ran_under (λ s. s)) (cycles_of (events other lent' calls))
  pub registers : (at_end image lent calls).registers ≡ (at_end other lent' calls).registers

-- Two images run alike under new numbers, which no two states that stay share: of every list of calls, from a reset of areas of the right lengths.
pub record SameRuns (image other : List ℕ) (Stays : ℕ → Type 0) (number : ℕ → ℕ) : Type 0 where
  pub apart : (s t : ℕ) → Stays s → Stays t → number s ≡ number t → s ≡ t
  pub same : (lent lent' : Lent) → RightLengths (design_of image) lent → RightLengths (design_of other) lent' → (calls : List Call)
      → RunAlike image other Stays number (reset image lent).lent (reset other lent').lent calls
