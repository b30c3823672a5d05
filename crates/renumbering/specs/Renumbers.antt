-- What it is for a design to be another one under new numbers, of which some states and nodes may be left out. Pruning and filing have to show this of what they write; that the
-- new design is accepted where the old one is follows once and for all.
use Rattle.std.specs.Prelude.{ℕ, ◌≤◌, ◌<◌, ◌≡◌, ◌⊎◌, length}
use mathlib.Core.List.{Memᴰ}
use Rattle.model.specs.Image.{Design, state_at, command_at, expression_at}
use Rattle.model.specs.Kinds.{goes, command_kind, expression_kind}
use Rattle.model.specs.States.{parent}
use Rattle.model.specs.Trees.{body_of}
use Rattle.model.specs.Nodes.{parts_of, values_of, operands_of}
use Rattle.model.specs.Rules.{HoldsFall, DefaultChild}
use Rattle.renumbering.specs.Renumbering.{renumbered_state, renumbered_command, renumbered_expression}

-- Design d' is d under the new numbers `state`, `command` and `expression`, with the states, commands and expressions that stay.
pub record Renumbers (d d' : Design) (state command expression : ℕ → ℕ) (StateStays CommandStays ExpressionStays : ℕ → Type 0) : Type 0 where
  pub rows : d'.rows ≡ d.rows
  pub registers : d'.registers ≡ d.registers
  -- states: those that stay exist, have a new number each, in the old order, and the new design has no other ones
  pub states_old : (s : ℕ) → StateStays s → s < length d.states
  pub states_new : (s : ℕ) → StateStays s → state s < length d'.states
  pub states_all : (t : ℕ) → t < length d'.states → (s : ℕ) × StateStays s × (state s ≡ t)
  pub states_order : (s t : ℕ) → StateStays s → StateStays t → s < t → state s < state t
  pub states_fewer : length d'.states ≤ length d.states
  pub state_is : (s : ℕ) → StateStays s → state_at d' (state s) ≡ renumbered_state state command expression (state_at d s)
  pub root_stays : StateStays 0
  pub root_first : state 0 ≡ 0
  pub parent_stays : (s : ℕ) → StateStays s → StateStays (parent d s)
  -- a default child stays with a sibling that stays, and with its parent where that holds a fall
  pub default_beside : (s q : ℕ) → StateStays s → (s ≡ 0 → ⊥) → DefaultChild d (parent d s) q → StateStays q
  pub default_stays : (s q : ℕ) → StateStays s → HoldsFall (body_of d s) → DefaultChild d s q → StateStays q
  pub body_stays : (s : ℕ) → StateStays s → CommandStays (state_at d s).command
  -- commands, likewise but for their order: a part has a lower number than its owner
  pub commands_old : (n : ℕ) → CommandStays n → n < length d.commands
  pub commands_new : (n : ℕ) → CommandStays n → command n < length d'.commands
  pub commands_all : (m : ℕ) → m < length d'.commands → (n : ℕ) × CommandStays n × (command n ≡ m)
  pub commands_apart : (n m : ℕ) → CommandStays n → CommandStays m → command n ≡ command m → n ≡ m
  pub commands_fewer : length d'.commands ≤ length d.commands
  pub command_is : (n : ℕ) → CommandStays n → command_at d' (command n) ≡ renumbered_command state command expression (command_kind (command_at d n).kind) (command_at d n)
  pub parts_stay : (n p : ℕ) → CommandStays n → Memᴰ p (parts_of d n) → CommandStays p
  pub parts_below : (n p : ℕ) → CommandStays n → Memᴰ p (parts_of d n) → command p < command n
  pub values_stay : (n e : ℕ) → CommandStays n → Memᴰ e (values_of d n) → ExpressionStays e
  pub named_stays : (n : ℕ) → CommandStays n → command_kind (command_at d n).kind ≡ goes → StateStays (command_at d n).item
  -- a command that stays is used by what stays
  pub command_used : (n : ℕ) → CommandStays n
      → ((s : ℕ) × StateStays s × ((state_at d s).command ≡ n)) ⊎ ((m : ℕ) × CommandStays m × Memᴰ n (parts_of d m))
  -- expressions
  pub expressions_old : (n : ℕ) → ExpressionStays n → n < length d.expressions
  pub expressions_new : (n : ℕ) → ExpressionStays n → expression n < length d'.expressions
  pub expressions_all : (m : ℕ) → m < length d'.expressions → (n : ℕ) × ExpressionStays n × (expression n ≡ m)
  pub expressions_apart : (n m : ℕ) → ExpressionStays n → ExpressionStays m → expression n ≡ expression m → n ≡ m
  pub expressions_fewer : length d'.expressions ≤ length d.expressions
  pub expression_is : (n : ℕ) → ExpressionStays n
      → expression_at d' (expression n) ≡ renumbered_expression state command expression (expression_kind (expression_at d n).kind) (expression_at d n)
  pub operands_stay : (n p : ℕ) → ExpressionStays n → Memᴰ p (operands_of d n) → ExpressionStays p
  pub operands_below : (n p : ℕ) → ExpressionStays n → Memᴰ p (operands_of d n) → expression p < expression n
  pub expression_used : (n : ℕ) → ExpressionStays n
      → ((m : ℕ) × CommandStays m × Memᴰ n (values_of d m)) ⊎ ((m : ℕ) × ExpressionStays m × Memᴰ n (operands_of d m))
