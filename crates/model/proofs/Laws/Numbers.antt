-- The numbers that a host is told say which answer it is: a table of refusals by their numbers, with any refusal where a number is none's, gives each back, and none has
-- number 0.
use Rattle.std.specs.Prelude.{Err}
use Prim.Native.Nat.{ℕ}
use mathlib.Core.Path.{◌≡◌, refl, sym, ◌∙◌, ap}
use mathlib.Core.Logic.{◌↔◌}
use mathlib.Core.List.{[], ◌∷◌}
use native.Mathlib.Omega.{arith}
use lib.ListN.{get_or}
use Rattle.model.specs.declared.Refusal.{Refusal}
use Rattle.model.specs.declared.Refusal.TheVariants.{Directory, LabelRow, RegisterRecord, StateRecord, NodeRecord, NodeUse, Depth, Shape, ChildLabel, AssignFlow, GotoFlow, FallFlow, NoPort, Area, CycleCount, PortAssigned, PortValue, NoRaising, Parameter, RaiseParameters, JournalArea, StepsBack, TraceCycle, OutputArea, GateDirectory, GateWire}
use Rattle.model.specs.Answers.{Answer, Accepted, Refused, Numbers, number_of, numbers_of}

abbrev numbered : ℕ → Refusal
numbered n =
    get_or
    (Directory
    ∷ Directory
    ∷ LabelRow
    ∷ RegisterRecord
    ∷ StateRecord
    ∷ NodeRecord
    ∷ NodeUse
    ∷ Depth
    ∷ Shape
    ∷ ChildLabel
    ∷ AssignFlow
    ∷ GotoFlow
    ∷ FallFlow
    ∷ NoPort
    ∷ Area
    ∷ CycleCount
    ∷ PortAssigned
    ∷ PortValue
    ∷ NoRaising
    ∷ Parameter
    ∷ RaiseParameters
    ∷ JournalArea
    ∷ StepsBack
    ∷ TraceCycle
    ∷ OutputArea
    ∷ GateDirectory
    ∷ GateWire
    ∷ [])
    n
    Directory

numbered_back : (r : Refusal) → numbered (number_of r) ≡ r
numbered_back Directory = refl
numbered_back LabelRow = refl
numbered_back RegisterRecord = refl
numbered_back StateRecord = refl
numbered_back NodeRecord = refl
numbered_back NodeUse = refl
numbered_back Depth = refl
numbered_back Shape = refl
numbered_back ChildLabel = refl
numbered_back AssignFlow = refl
numbered_back GotoFlow = refl
numbered_back FallFlow = refl
numbered_back NoPort = refl
numbered_back Area = refl
numbered_back CycleCount = refl
numbered_back PortAssigned = refl
numbered_back PortValue = refl
numbered_back NoRaising = refl
numbered_back Parameter = refl
numbered_back RaiseParameters = refl
numbered_back JournalArea = refl
numbered_back StepsBack = refl
numbered_back TraceCycle = refl
numbered_back OutputArea = refl
numbered_back GateDirectory = refl
numbered_back GateWire = refl

-- two refusals of one number are one
pub same_number : (r q : Refusal) → number_of r ≡ number_of q → r ≡ q
same_number r q e = sym (numbered_back r) ∙ ap numbered e ∙ numbered_back q

-- no refusal has number 0: the table's first entry has number 1
pub no_number_zero : (r : Refusal) → number_of r ≡ 0 → ⊥
no_number_zero r e = let one : number_of r ≡ 1 = ap number_of (sym (numbered_back r) ∙ ap numbered e) in omega arith

pub told_accepted : (a : Answer) (n : ℕ) → (numbers_of a ≡ record { number = 0; place = 0; count = n }) ↔ (a ≡ Accepted n)
told_accepted (Accepted m) n = (λ e. ap Accepted (ap (λ (x : Numbers). x.count) e), λ e. ap numbers_of e)
told_accepted (Err why) n = (λ e. absurd (no_number_zero why.refusal (ap (λ (x : Numbers). x.number) e)), λ e. ap numbers_of e)

pub told_refused : (a : Answer) (r : Refusal) (p : ℕ) → (numbers_of a ≡ record { number = number_of r; place = p; count = 0 }) ↔ (a ≡ Refused r p)
told_refused (Accepted m) r p = (λ e. absurd (no_number_zero r (sym (ap (λ (x : Numbers). x.number) e))), λ e. ap numbers_of e)
told_refused (Err why) r p = (
  λ e. let same = same_number why.refusal r (ap (λ (x : Numbers). x.number) e) in let here = ap (λ (x : Numbers). x.place) e in rw (← same, ← here) refl,
  λ e. ap numbers_of e,
)
