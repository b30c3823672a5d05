-- The rules of gate tables as propositions, and the tables of refusals of the three calls in the order of judging. Beside them stand the computations of
-- `Verdict` and `Calls`; that the two say the same is `proofs/Exact.antt`.
use Rattle.std.specs.Prelude.{ℕ, ◌+◌, ◌-◌, ◌*◌, ◌%◌, ◌≤◌, ◌<◌, ◌≡◌, List, [], ◌∷◌, ◌++◌, length}
use Rattle.model.specs.declared.Refusal.TheVariants.{Area, GateDirectory, GateWire}
use Rattle.model.specs.Image.{byte_at}
use Rattle.model.specs.Refusals.{Pass, ◌asks◌, at, each}
use Rattle.gates_model.specs.Limits.{directory_length, signal_length}
use Rattle.gates_model.specs.Tables.{Section, Inputs, FlipFlops, Gates, record_length, most, offset, size, count, end, Table, table_of, mark_at, flip_flop_at, gate_at, first_flip_flop, first_gate, wires}
use Rattle.gates_model.specs.Signals.{IsSound}
use Rattle.gates_model.specs.Cycle.{signal_in}

-- a section holds a whole number of records, and not too many
pub record SectionKeeps (table : List ℕ) (s : Section) : Type 0 where
  pub whole : size table s % record_length s ≡ 0
  pub at_most : count table s ≤ most s

-- "A directory like the image's, first offset 12"
pub record DirectoryKeeps (table : List ℕ) : Type 0 where
  pub present : directory_length ≤ length table
  pub inputs_at : offset table Inputs ≡ directory_length
  pub flipflops_at : offset table FlipFlops ≡ end table Inputs
  pub gates_at : offset table Gates ≡ end table FlipFlops
  pub ends : length table ≡ end table Gates
  pub inputs : SectionKeeps table Inputs
  pub flipflops : SectionKeeps table FlipFlops
  pub gates : SectionKeeps table Gates

-- a rule of each wire by its kind
pub record EachKind (t : Table) (Input FlipFlop Gate : ℕ → Type 0) (w : ℕ) : Type 0 where
  pub input : w < first_flip_flop t → Input w
  pub flipflop : first_flip_flop t ≤ w → w < first_gate t → FlipFlop (w - first_flip_flop t)
  pub gate : first_gate t ≤ w → Gate (w - first_gate t)

module _ (t : Table) where
  -- "next wire, start value, start mark"
  pub record FlipFlopKeeps (i : ℕ) : Type 0 where
    pub next : (flip_flop_at t i).next < wires t
    pub value : (flip_flop_at t i).value ≤ 1
    pub mark : (flip_flop_at t i).mark ≤ 1

  -- "a gate reads lower wires only"
  pub record GateKeeps (g : ℕ) : Type 0 where
    pub first : (gate_at t g).first < first_gate t + g
    pub second : (gate_at t g).second < first_gate t + g

  -- the record of a wire
  abbrev pub WireKeeps : ℕ → Type 0
  WireKeeps w = EachKind t (λ i. mark_at t i ≤ 1) FlipFlopKeeps GateKeeps w

  -- the bytes that are lent for a wire
  abbrev pub LentKeeps : List ℕ → List ℕ → ℕ → Type 0
  LentKeeps inputs area w = EachKind t (λ i. byte_at inputs i ≤ 1) (λ i. IsSound (signal_in area i)) (λ g. Unit {0}) w

-- what it means that a table keeps the rules
pub record TableKeeps (table : List ℕ) : Type 0 where
  pub directory : DirectoryKeeps table
  pub wire : (w : ℕ) → w < wires (table_of table) → WireKeeps (table_of table) w

-- ---- the refusals of each call, in the order of judging
-- "It refuses with 25, place 0, .. and with 26, after it and at the lowest wire"
abbrev pub check_table : List ℕ → List Pass
check_table table =
    (GateDirectory asks at 0 (DirectoryKeeps table) ∷ []) ∷ (GateWire asks each (wires (table_of table)) (WireKeeps (table_of table)) ∷ []) ∷ []

abbrev pub AreaLong : Table → List ℕ → Type 0
AreaLong t area = length area ≡ signal_length * length t.flipflops

abbrev pub reset_table : List ℕ → List ℕ → List Pass
reset_table table area = check_table table ++ ((Area asks at 0 (AreaLong (table_of table) area) ∷ []) ∷ [])

-- "a wrong length is 14, after 26 for the table and before 26 for these"
abbrev pub cycle_table : List ℕ → List ℕ → List ℕ → List Pass
cycle_table table inputs area =
    check_table table
    ++ ((Area asks at 0 ((length inputs ≡ length (table_of table).inputs) × AreaLong (table_of table) area) ∷ [])
    ∷ (GateWire asks each (first_gate (table_of table)) (LentKeeps (table_of table) inputs area) ∷ [])
    ∷ [])
