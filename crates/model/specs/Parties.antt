-- 01, 'What a party sees': lists of calls, what remains of them at a level, the view, and demand 3 as one statement about whole lists.
-- The calls are made by the very definitions that the contracts of the calls cite.
use Rattle.std.specs.Prelude.{ℕ, ◌*◌, ◌<◌, ◌^◌, ◌≡◌, Bool, cond, List, [], ◌∷◌, ◌++◌, map, length, get_or, Err}
use Rattle.model.specs.Answers.{Answer, Accepted}
use Rattle.model.specs.Limits.{word_length, target_length}
use Rattle.model.specs.Indices.{join_below, tabulate}
use Rattle.model.specs.Image.{Design, register_at, design_of}
use Rattle.model.specs.Lattice.{flows_to, register_label}
use Rattle.model.specs.Verdict.{verdict}
use Rattle.model.specs.Values.{words_of, bytes_of}
use Rattle.model.specs.Bindings.{bound_in, own_bound, label_with}
use Rattle.model.specs.Machine.{Cycle, cycles}
use Rattle.model.specs.Calls.{Lent, Left, left_in, areas_of, reset, write_port, run}

-- "lists of three calls: reset, port write and run", "with any register numbers, values and cycle counts"
pub data Call : Type 0 where
  resets : Call
  writes : ℕ → ℕ → Call
  runs : ℕ → Call

-- the areas with other registers
abbrev pub with_targets : List ℕ → List ℕ → Lent
with_targets targets registers = record { registers = registers; targets = targets }

-- what a call leaves, made on the areas as they are lent; a port write is not lent the targets
unfoldable pub perform : List ℕ → Lent → Call → Left Lent
perform image lent resets = reset image lent
perform image lent (writes r v) = left_in (with_targets lent.targets) (write_port image lent.registers r v)
perform image lent (runs n) = run image lent n

-- What an accepted call does, for the comparison: a run of n counts as n cycles. A refused call does nothing. The last two are of the calls that 02, E9 adds.
pub data Event : Type 0 where
  was_reset : Event
  was_written : ℕ → ℕ → Event
  cycled : Cycle → Event
  journalled : Cycle → Event
  stepped_back : Event

unfoldable pub events_of : Answer → List ℕ → Lent → Call → List Event
events_of (Err why) image lent call = []
events_of (Accepted count) image lent resets = was_reset ∷ []
events_of (Accepted count) image lent (writes r v) = was_written r v ∷ []
events_of (Accepted count) image lent (runs n) = map cycled (cycles (design_of image) n (areas_of (design_of image) lent))

-- "Each call finds both areas as they were left"
unfoldable pub events : List ℕ → Lent → List Call → List Event
events image lent [] = []
events image lent (call ∷ more) =
    let left = perform image lent call in
    events_of left.answer image lent call ++ events image left.lent more

-- the cycles among what was done
unfoldable pub cycles_of : List Event → List Cycle
cycles_of [] = []
cycles_of (was_reset ∷ more) = cycles_of more
cycles_of (was_written r v ∷ more) = cycles_of more
cycles_of (cycled c ∷ more) = c ∷ cycles_of more
cycles_of (journalled c ∷ more) = c ∷ cycles_of more
cycles_of (stepped_back ∷ more) = cycles_of more

-- the areas at the end of a list
unfoldable pub at_end : List ℕ → Lent → List Call → Lent
at_end image lent [] = lent
at_end image lent (call ∷ more) = at_end image (perform image lent call).lent more

-- A state of the walk as a party sees it. 02, E8: "for each state it sees, the numbers (not the contents) of the registers that were bound to it as it ran"
pub record RanState : Type 0 where
  pub state : ℕ
  pub bound : List ℕ

-- what one cycle shows to a party
pub record Seen : Type 0 where
  pub values : List ℕ
  pub walk : List RanState

-- what remains of a list for the comparison
pub data Remaining : Type 0 where
  a_reset : Remaining
  a_write : ℕ → ℕ → Remaining
  a_cycle : Remaining
  a_journalled_cycle : Remaining
  a_step_back : Remaining

-- What the party at a level sees.
module _ (d : Design) (level : ℕ) where
  -- "at or below the level"
  abbrev pub register_seen : ℕ → Bool
  register_seen r = flows_to d.rows (register_label d r) level

  -- 02, E8: "A state that ran is seen by the label its binding gave it then"
  abbrev pub state_seen : List ℕ → ℕ → Bool
  state_seen bindings s = flows_to d.rows (label_with d bindings s) level

  -- "the values of all registers at or below the level"
  unfoldable pub values_seen : List ℕ → List ℕ
  values_seen values = join_below (λ r. cond (register_seen r) (get_or values r 0 ∷ []) []) (length d.registers)

  -- the "walk without the states not at or below the level", by the bindings that they ran with
  unfoldable pub walk_seen : List ℕ → List ℕ → List RanState
  walk_seen bindings [] = []
  walk_seen bindings (s ∷ more) =
      cond (state_seen bindings s) (record { state = s; bound = own_bound d bindings s } ∷ walk_seen bindings more) (walk_seen bindings more)

  -- 02, E8, and more than it asks: the same with the registers bound to all parameters in scope, those of the states around it too
  unfoldable pub wider_walk_seen : List ℕ → List ℕ → List RanState
  wider_walk_seen bindings [] = []
  wider_walk_seen bindings (s ∷ more) =
      cond (state_seen bindings s) (record { state = s; bound = bound_in d bindings s } ∷ wider_walk_seen bindings more) (wider_walk_seen bindings more)

  abbrev pub shown : Cycle → Seen
  shown c = record { values = values_seen c.after.registers; walk = walk_seen c.ran_with c.walk }

  -- "for each cycle in order, the values .. after it, and its walk .."
  unfoldable pub view : List Event → List Seen
  view happened = map shown (cycles_of happened)

  -- and with the wider walk
  abbrev pub widely_shown : Cycle → Seen
  widely_shown c = record { values = values_seen c.after.registers; walk = wider_walk_seen c.ran_with c.walk }

  unfoldable pub wider_view : List Event → List Seen
  wider_view happened = map widely_shown (cycles_of happened)

  -- "with refused calls and port writes to registers not at or below the level struck out, the same resets, port writes (register and value) and cycles
  -- remain"
  unfoldable pub remaining : List Event → List Remaining
  remaining [] = []
  remaining (was_reset ∷ more) = a_reset ∷ remaining more
  remaining (was_written r v ∷ more) = cond (register_seen r) (a_write r v ∷ remaining more) (remaining more)
  remaining (cycled c ∷ more) = a_cycle ∷ remaining more
  remaining (journalled c ∷ more) = a_journalled_cycle ∷ remaining more
  remaining (stepped_back ∷ more) = a_step_back ∷ remaining more

  -- registers that are not seen take any values
  unfoldable pub given_unseen : (ℕ → ℕ) → List ℕ → List ℕ
  given_unseen given values = tabulate (λ r. cond (register_seen r) (get_or values r 0) (given r)) (length d.registers)

-- "each has its own two areas of the right lengths"
pub record RightLengths (d : Design) (lent : Lent) : Type 0 where
  pub registers : length lent.registers ≡ word_length * length d.registers
  pub targets : length lent.targets ≡ target_length * length d.states

-- What a list begins with: two areas, and the values given to registers. 02, E2: "registers set freely stay within their widths".
pub record Beginning (d : Design) : Type 0 where
  pub lent : Lent
  pub lengths : RightLengths d lent
  pub given : ℕ → ℕ
  pub within : (r : ℕ) → r < length d.registers → given r < 2 ^ (register_at d r).width

-- One use of the box: what it begins with, and a list of calls of any length.
pub record Use (d : Design) : Type 0 where
  pub begins : Beginning d
  pub calls : List Call

-- "then the registers not at or below the level are given any values", of the areas that a reset left
unfoldable pub with_unseen : List ℕ → ℕ → (ℕ → ℕ) → Lent → Lent
with_unseen image level given left =
    let d = design_of image in
    record { registers = bytes_of (given_unseen d level given (words_of (length d.registers) left.registers)); targets = left.targets }

-- "Each starts with a reset; then the registers not at or below the level are given any values"
unfoldable pub start : (image : List ℕ) → ℕ → Beginning (design_of image) → Lent
start image level begins = with_unseen image level begins.given (reset image begins.lent).lent

module _ (image : List ℕ) (level : ℕ) (u : Use (design_of image)) where
  -- "then come the calls of the list"
  unfoldable pub history : List Event
  history = events image (start image level u.begins) u.calls

  unfoldable pub remains : List Remaining
  remains = remaining (design_of image) level history

  unfoldable pub views : List Seen
  views = view (design_of image) level history

  unfoldable pub wider_views : List Seen
  wider_views = wider_view (design_of image) level history

  unfoldable pub seen_at_end : List ℕ
  seen_at_end = values_seen (design_of image) level (words_of (length (design_of image).registers) (at_end image (start image level u.begins) u.calls).registers)

-- Demand 3: "Both lists use one accepted image"; "Matching lists have equal views, and equal registers at or below the level at their end."
-- "a level is one of the labels"
abbrev pub Independent : Type 0
Independent =
    (image : List ℕ)
    → verdict image ≡ Accepted 0
    → (level : ℕ)
    → level < length (design_of image).rows
    → (one other : Use (design_of image))
    → remains image level one ≡ remains image level other
    → (views image level one ≡ views image level other) × (seen_at_end image level one ≡ seen_at_end image level other)

-- The wider view too.
abbrev pub IndependentWidely : Type 0
IndependentWidely =
    (image : List ℕ)
    → verdict image ≡ Accepted 0
    → (level : ℕ)
    → level < length (design_of image).rows
    → (one other : Use (design_of image))
    → remains image level one ≡ remains image level other
    → wider_views image level one ≡ wider_views image level other
