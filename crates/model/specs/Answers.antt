-- The number and the values that document 01 gives to each case of an answer. The promises about answers go through these definitions.
use Rattle.std.specs.Prelude.{ℕ, Result, Ok, Err}
use Rattle.model.specs.declared.Refusal.{Refusal}
use Rattle.model.specs.declared.Refusal.TheVariants.{Directory, LabelRow, RegisterRecord, StateRecord, NodeRecord, NodeUse, Depth, Shape, ChildLabel, AssignFlow, GotoFlow, FallFlow, NoPort, Area, CycleCount, PortAssigned, PortValue, NoRaising, Parameter, RaiseParameters, JournalArea, StepsBack, TraceCycle, OutputArea, GateDirectory, GateWire}
use Rattle.model.specs.declared.RefusedAt.{RefusedAt}

-- 01, 'When the box says no': the table's first column
abbrev pub number_of : Refusal → ℕ
number_of Directory = 1
number_of LabelRow = 2
number_of RegisterRecord = 3
number_of StateRecord = 4
number_of NodeRecord = 5
number_of NodeUse = 6
number_of Depth = 7
number_of Shape = 8
number_of ChildLabel = 9
number_of AssignFlow = 10
number_of GotoFlow = 11
number_of FallFlow = 12
number_of NoPort = 13
number_of Area = 14
number_of CycleCount = 15
-- 02, E1
number_of PortAssigned = 16
-- 02, E2
number_of PortValue = 17
-- 02, E6
number_of NoRaising = 18
-- 02, E8
number_of Parameter = 19
number_of RaiseParameters = 20
-- 02, E9
number_of JournalArea = 21
number_of StepsBack = 22
-- 02, E10
number_of TraceCycle = 23
-- 02, E11
number_of OutputArea = 24
-- 02, E13
number_of GateDirectory = 25
number_of GateWire = 26

-- what a call answers: an acceptance with a count, or a refusal with its place
abbrev pub Answer : Type 0
Answer = Result ℕ RefusedAt

pattern abbrev pub Accepted : ℕ → Answer
Accepted count = Ok count

abbrev pub Refused : Refusal → ℕ → Answer
Refused refusal place = Err (record { refusal = refusal; place = place })

-- what the host is given
pub record Numbers : Type 0 where
  pub number : ℕ
  pub place : ℕ
  pub count : ℕ

-- "An acceptance is number 0, place 0." "On a refusal every count answered .. is 0."
abbrev pub numbers_of : Answer → Numbers
numbers_of (Accepted count) = record { number = 0; place = 0; count = count }
numbers_of (Err why) = record { number = number_of why.refusal; place = why.place; count = 0 }
