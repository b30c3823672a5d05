-- 01, 'When the box says no': its table as propositions, the rules in the order in which they are judged. Beside it stand the computations of `Verdict`
-- and `Calls`; `refused_exactly` and its sisters (proofs/Promises.antt) say that a call answers a refusal exactly where it is the first that this table has.
use Rattle.std.specs.Prelude.{ℕ, zero, suc, ◌+◌, ◌*◌, ◌≤◌, ◌<◌, ◌^◌, ◌≡◌, ◌↔◌, ◌⊎◌, List, [], ◌∷◌, ◌++◌, length, get_or}
use Rattle.model.specs.declared.Refusal.{Refusal}
use Rattle.model.specs.declared.Refusal.TheVariants.{Directory, LabelRow, RegisterRecord, StateRecord, NodeRecord, NodeUse, Depth, Shape, ChildLabel, AssignFlow, GotoFlow, FallFlow, NoPort, Area, CycleCount, PortAssigned, PortValue, NoRaising, Parameter, RaiseParameters}
use Rattle.model.specs.Limits.{expression_place, cycles_max, word_length, binding_length}
use Rattle.model.specs.Image.{Design, design_of, register_at, state_at}
use Rattle.model.specs.Lattice.{register_label, state_label}
use Rattle.model.specs.Trees.{Cmd, skip, assign, sequence, fall, goto, branch, body_of}
use Rattle.model.specs.Parameters.{label_byte}
use Rattle.model.specs.Flow.{labels_read, named_label}
use Rattle.model.specs.Rules.{DirectoryKeeps, LabelKeeps, RegisterKeeps, StateKeeps, CommandKeeps, ExpressionKeeps, CommandUsedOnce, ExpressionUsedOnce, CommandDepthKeeps, ExpressionDepthKeeps, ChildLabelKeeps, NamesNoPort, ParametersKeep, Within}
use Rattle.model.specs.Standing.{ChildOf, ShapeKeeps, ScopeKeeps, EachFlow}
use Rattle.model.specs.Values.{words_of}
use Rattle.model.specs.Answers.{Numbers, number_of, numbers_of}
use Rattle.model.specs.Calls.{Lent, Left, targets_in, bindings_in}
use Rattle.model.specs.Raising.{AcceptedRaising}
use Rattle.model.specs.Parties.{RightLengths, Call, resets, writes, runs}

-- ---- what it is to be the first rule that is broken
-- a rule: the refusal that is answered where it is broken, and what is kept at a place
pub record Rule : Type 1 where
  pub refusal : Refusal
  pub Kept : ℕ → Type 0

infix 80 ◌asks◌
abbrev pub ◌asks◌ : Refusal → (ℕ → Type 0) → Rule
refusal asks Kept = record { refusal = refusal; Kept = Kept }

-- rules that are judged together, at the lowest place first
abbrev pub Pass : Type 1
Pass = List Rule

abbrev pub KeptAt : Pass → ℕ → Type 0
KeptAt [] place = Unit {0}
KeptAt (rule ∷ more) place = rule.Kept place × KeptAt more place

abbrev pub BrokenAt : Pass → Refusal → ℕ → Type 0
BrokenAt [] refusal place = ⊥
BrokenAt (rule ∷ more) refusal place = ((rule.refusal ≡ refusal) × (rule.Kept place → ⊥)) ⊎ BrokenAt more refusal place

-- every rule is kept everywhere
abbrev pub AllKept : List Pass → Type 0
AllKept [] = Unit {0}
AllKept (pass ∷ later) = ((place : ℕ) → KeptAt pass place) × AllKept later

-- The refusal is the first: its rule is broken at the place, its pass is kept at every lower place, and the passes before it are kept everywhere.
abbrev pub FirstBroken : List Pass → Refusal → ℕ → Type 0
FirstBroken [] refusal place = ⊥
FirstBroken (pass ∷ later) refusal place =
    (BrokenAt pass refusal place × ((lower : ℕ) → lower < place → KeptAt pass lower))
    ⊎ (((lower : ℕ) → KeptAt pass lower) × FirstBroken later refusal place)

-- ---- places
-- a rule that is charged to one place
abbrev pub at : ℕ → Type 0 → ℕ → Type 0
at charged P place = place ≡ charged → P

-- a rule of each of n labels, registers or states
abbrev pub each : ℕ → (ℕ → Type 0) → ℕ → Type 0
each n P place = place < n → P place

-- a rule of each command and one of each expression: "an expression's place is 1,024 plus its number"
pub record each_node (d : Design) (P Q : ℕ → Type 0) (place : ℕ) : Type 0 where
  pub command : place < length d.commands → P place
  pub expression : (e : ℕ) → place ≡ expression_place + e → e < length d.expressions → Q e

-- ---- the flow rules in reading order
-- 02, E7: "the one shown first is now in the lowest-numbered state, and within it the first command in the order it is written, an if's first branch before its
-- second". Each command's rule is a pass of its own, and the passes stand in this order.
abbrev pub flow_rules : Design → ℕ → List ℕ → Cmd → List Pass
flow_rules d s context (skip n) = []
-- "Assign: the context and each register read flow to the label written."
flow_rules d s context (assign n r e) = (AssignFlow asks at n (EachFlow d s (context ++ labels_read d e) (label_byte d r)) ∷ []) ∷ []
flow_rules d s context (sequence n p q) = flow_rules d s context p ++ flow_rules d s context q
-- "Fall: the context flows to the own state's label."
flow_rules d s context (fall n) = (FallFlow asks at n (EachFlow d s context (state_label d s)) ∷ []) ∷ []
-- "Goto: the context flows to the named state's label."
flow_rules d s context (goto n t a b) = (GotoFlow asks at n (EachFlow d s context (named_label d t a b)) ∷ []) ∷ []
flow_rules d s context (branch n e p q) = flow_rules d s (context ++ labels_read d e) p ++ flow_rules d s (context ++ labels_read d e) q

-- those of the first n states
abbrev pub flow_table : Design → ℕ → List Pass
flow_table d zero = []
flow_table d (suc n) = flow_table d n ++ flow_rules d n (state_label d n ∷ []) (body_of d n)

-- ---- the table
-- the image checks but for 10 to 12, in the order of judging. 02, E1: 16 comes "after 8 and before 9"; 02, E8: 19 "after 16 and before 9".
abbrev pub structure_table : List ℕ → List Pass
structure_table image =
    let d = design_of image in
    (Directory asks at 0 (DirectoryKeeps image) ∷ [])
    ∷ (LabelRow asks each (length d.rows) (LabelKeeps d.rows) ∷ [])
    ∷ (RegisterRecord asks each (length d.registers) (RegisterKeeps d) ∷ [])
    ∷ (StateRecord asks each (length d.states) (StateKeeps d) ∷ [])
    ∷ (NodeRecord asks each_node d (CommandKeeps d) (ExpressionKeeps d) ∷ [])
    ∷ (NodeUse asks each_node d (CommandUsedOnce d) (ExpressionUsedOnce d) ∷ [])
    ∷ (Depth asks each_node d (CommandDepthKeeps d) (ExpressionDepthKeeps d) ∷ [])
    ∷ (Shape asks ShapeKeeps d ∷ [])
    ∷ (PortAssigned asks each (length d.commands) (NamesNoPort d) ∷ [])
    ∷ (Parameter asks each (length d.states) (ParametersKeep d) ∷ [])
    ∷ (Parameter asks ScopeKeeps d ∷ [])
    ∷ (ChildLabel asks each (length d.states) (ChildLabelKeeps d) ∷ [])
    ∷ []

-- all image checks: "The lowest number that applies comes first, except that 10 to 12 are one pass", since E7 in reading order
abbrev pub image_table : List ℕ → List Pass
image_table image = structure_table image ++ flow_table (design_of image) (length (design_of image).states)

-- "A target is a child of its state; a childless state's is its own number."
abbrev pub TargetKeeps : Design → List ℕ → ℕ → Type 0
TargetKeeps d targets s = ChildOf d s (get_or targets s 0) ⊎ (((q : ℕ) → ChildOf d s q → ⊥) × (get_or targets s 0 ≡ s))

-- 02, E2: no register holds "a value too large"
abbrev pub ContentKeeps : Design → List ℕ → ℕ → Type 0
ContentKeeps d registers r = get_or (words_of (length d.registers) registers) r 0 < 2 ^ (register_at d r).width

-- 02, E8: a state along the current targets
pub data OnPath (d : Design) (targets : List ℕ) : ℕ → Type 0 where
  root : OnPath d targets 0
  target : {s q : ℕ} → OnPath d targets s → ChildOf d s q → get_or targets s 0 ≡ q → OnPath d targets q

-- 02, E8: "each is 0 or an existing register's number, and along the current targets each bound register exists, is no port and its label lies within its bounds"
pub record BoundKeeps (d : Design) (v r : ℕ) : Type 0 where
  pub exists : r < length d.registers
  pub no_port : (register_at d r).kind ≡ 1 → ⊥
  pub within : Within d v (register_label d r)

pub record BindingKeeps (d : Design) (targets bindings : List ℕ) (s : ℕ) : Type 0 where
  pub first : (get_or bindings (binding_length * s) 0 ≡ 0) ⊎ (get_or bindings (binding_length * s) 0 < length d.registers)
  pub second : (get_or bindings (binding_length * s + 1) 0 ≡ 0) ⊎ (get_or bindings (binding_length * s + 1) 0 < length d.registers)
  pub along : OnPath d targets s → (j : ℕ) → j < (state_at d s).parameters → BoundKeeps d (binding_length * s + j) (get_or bindings (binding_length * s + j) 0)

-- every register is within its width
abbrev pub WithinWidths : Design → List ℕ → Type 0
WithinWidths d registers = (r : ℕ) → r < length d.registers → ContentKeeps d registers r

-- "Every call makes the image checks .. first."
module _ (image : List ℕ) where
  -- reset: lengths only
  abbrev pub reset_table : Lent → List Pass
  reset_table lent = image_table image ++ ((Area asks at 0 (RightLengths (design_of image) lent) ∷ []) ∷ [])

  -- port write: "14 before 13"; "For 13 the place is the register number given." 02, E2: 17 "after 13"; decided: at the same place
  abbrev pub write_port_table : List ℕ → ℕ → ℕ → List Pass
  write_port_table registers r v =
      image_table image
      ++ ((Area asks at 0 (length registers ≡ word_length * length (design_of image).registers) ∷ [])
      ∷ (Area asks each (length (design_of image).registers) (ContentKeeps (design_of image) registers) ∷ [])
      ∷ (NoPort asks at r ((r < length (design_of image).registers) × ((register_at (design_of image) r).kind ≡ 1)) ∷ [])
      ∷ (PortValue asks at r (v < 2 ^ (register_at (design_of image) r).width) ∷ [])
      ∷ [])

  -- run: "In 14 a wrong length comes first, with place 0, then any fault that a request adds in the registers' contents, at the lowest register, then an
  -- unsound target, at the lowest state." 02, E8: then an unsound binding
  abbrev pub run_table : Lent → ℕ → List Pass
  run_table lent n =
      image_table image
      ++ ((Area asks at 0 (RightLengths (design_of image) lent) ∷ [])
      ∷ (Area asks each (length (design_of image).registers) (ContentKeeps (design_of image) lent.registers) ∷ [])
      ∷ (Area asks each (length (design_of image).states) (TargetKeeps (design_of image) (targets_in (design_of image) lent.targets)) ∷ [])
      ∷ (Area asks each (length (design_of image).states) (BindingKeeps (design_of image) (targets_in (design_of image) lent.targets) (bindings_in (design_of image) lent.targets)) ∷ [])
      ∷ (CycleCount asks at 0 (n ≤ cycles_max) ∷ [])
      ∷ [])

-- 02, E6, raising: 10 to 12 are not asked of the image; 14 "judged after the image checks"; "18, place 0 and after 14, exactly if no accepted raising exists".
-- 02, E8: "raising refuses with 20, place 0, after its image checks and before 14, an image that has parameters"
abbrev pub raise_table : List ℕ → List ℕ → List Pass
raise_table image out =
    structure_table image
    ++ ((RaiseParameters asks at 0 ((s : ℕ) → s < length (design_of image).states → (state_at (design_of image) s).parameters ≡ 0) ∷ [])
    ∷ (Area asks at 0 (length out ≡ length image) ∷ [])
    ∷ (NoRaising asks at 0 ((raised : List ℕ) × AcceptedRaising image raised) ∷ [])
    ∷ [])

-- the table of a call of a list, and the count that it answers where it is accepted
abbrev pub call_table : List ℕ → Lent → Call → List Pass
call_table image lent resets = reset_table image lent
call_table image lent (writes r v) = write_port_table image lent.registers r v
call_table image lent (runs n) = run_table image lent n

abbrev pub call_count : Call → ℕ
call_count resets = 0
call_count (writes r v) = 0
call_count (runs n) = n

-- Numbers that a call answers by its table: an acceptance with the count exactly where every rule is kept everywhere, and a refusal's number with a place
-- exactly where this refusal at this place is the first.
pub record AnswersBy (passes : List Pass) (n : ℕ) (numbers : Numbers) : Type 0 where
  pub accepted : (numbers ≡ record { number = 0; place = 0; count = n }) ↔ AllKept passes
  pub refused : (refusal : Refusal) (place : ℕ) → (numbers ≡ record { number = number_of refusal; place = place; count = 0 }) ↔ FirstBroken passes refusal place

-- what a host is given by a call: the numbers of its answer, and every byte of what it lent
pub record NumbersLeft (A : Type 0) : Type 0 where
  pub numbers : Numbers
  pub lent : A

abbrev pub in_numbers : {A : Type 0} → Left A → NumbersLeft A
in_numbers left = record { numbers = numbers_of left.answer; lent = left.lent }

-- 01, demands 1 and 2, of one call: it answers by its table, with this count where it is accepted, and "No lent byte changes" on a refusal.
pub record Exactly {A : Type 0} (passes : List Pass) (n : ℕ) (lent : A) (left : NumbersLeft A) : Type 0 where
  pub answers : AnswersBy passes n left.numbers
  pub keeps : (left.numbers.number ≡ 0 → ⊥) → left.lent ≡ lent
