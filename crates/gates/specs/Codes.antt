-- A signal in one byte, as the wires stand on the stack: the value in bit 0, the mark in bit 1.
use Rattle.std.specs.Prelude.{ℕ, ◌+◌, ◌*◌, ◌/◌, ◌%◌, ◌<◌, ◌≡◌, List, length, get_or, set}
use Rattle.model.specs.Indices.{tabulate, filled_to}
use Rattle.model.specs.Image.{byte_at}
use Rattle.gates_model.specs.Limits.{signal_length}
use Rattle.gates_model.specs.Tables.{Table, flip_flop_at, first_gate}
use Rattle.gates_model.specs.Signals.{Signal, signal, IsSound}
use Rattle.gates_model.specs.Cycle.{bytes_of, signal_at, signal_in, sources}

abbrev pub code_of : Signal → ℕ
code_of s = s.value + 2 * s.mark

abbrev pub signal_of : ℕ → Signal
signal_of code = signal (code % 2) (code / 2)

-- bytes with the first n of these signals; those from n on stay
abbrev pub with_wires : List Signal → ℕ → List ℕ → List ℕ
with_wires signals n old = filled_to (λ w. code_of (signal_at signals w)) n old

-- the bytes carry the first n of these signals, and these are sound
pub record Carries (signals : List Signal) (n : ℕ) (wires : List ℕ) : Type 0 where
  pub code : (w : ℕ) → w < n → get_or wires w 0 ≡ code_of (signal_at signals w)
  pub sound : (w : ℕ) → w < n → IsSound (signal_at signals w)

-- what is lent for a cycle of a table: bytes of the right lengths, which make sound signals
pub record Lends (t : Table) (inputs area : List ℕ) : Type 0 where
  pub inputs_long : length inputs ≡ length t.inputs
  pub area_long : length area ≡ signal_length * length t.flipflops
  pub sound : (w : ℕ) → w < first_gate t → IsSound (signal_at (sources t inputs area) w)

-- an area in which the first i flip-flops have these signals
pub record Written (f : ℕ → Signal) (i : ℕ) (area : List ℕ) : Type 0 where
  pub pair : (k : ℕ) → k < i → signal_in area k ≡ f k

-- what flip-flops take from the bytes of the wires
unfoldable pub next_code : Table → List ℕ → ℕ → ℕ
next_code t wires i = byte_at wires (flip_flop_at t i).next

unfoldable pub taken_signal : Table → List ℕ → ℕ → Signal
taken_signal t wires i = signal_of (next_code t wires i)

unfoldable pub taken : Table → List ℕ → List ℕ
taken t wires = bytes_of (tabulate (taken_signal t wires) (length t.flipflops))

-- one flip-flop's two bytes
abbrev pub put_signal : List ℕ → ℕ → ℕ → ℕ → List ℕ
put_signal area i value mark = set (set area (signal_length * i) value) (signal_length * i + 1) mark
