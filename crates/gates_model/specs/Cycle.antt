-- One cycle of an accepted table: the signals of all wires, and the flip-flops after it.
use Rattle.std.specs.Prelude.{ℕ, zero, suc, ◌+◌, ◌*◌, List, [], ◌∷◌, ◌++◌, length, get_or}
use Rattle.model.specs.Indices.{tabulate}
use Rattle.model.specs.Image.{byte_at}
use Rattle.gates_model.specs.Limits.{signal_length}
use Rattle.gates_model.specs.Tables.{Table, Gate, mark_at, flip_flop_at, gate_at}
use Rattle.gates_model.specs.Signals.{Signal, signal, nand}

abbrev pub no_signal : Signal
no_signal = signal 0 0

abbrev pub signal_at : List Signal → ℕ → Signal
signal_at signals w = get_or signals w no_signal

-- "an area of a value and a mark byte per flip-flop": the bytes of signals, and the signals of bytes
unfoldable pub bytes_of : List Signal → List ℕ
bytes_of [] = []
bytes_of (s ∷ more) = s.value ∷ s.mark ∷ bytes_of more

abbrev pub signal_in : List ℕ → ℕ → Signal
signal_in area i = signal (byte_at area (signal_length * i)) (byte_at area (signal_length * i + 1))

module _ (t : Table) where
  -- "Each cycle is lent one value byte per input"; its mark is the table's
  abbrev pub input_signal : List ℕ → ℕ → Signal
  input_signal inputs i = signal (byte_at inputs i) (mark_at t i)

  -- the wires before the gates: "Wires are numbered inputs, flip-flops, gates"
  unfoldable pub sources : List ℕ → List ℕ → List Signal
  sources inputs area = tabulate (input_signal inputs) (length t.inputs) ++ tabulate (signal_in area) (length t.flipflops)

  -- the wires with one gate more
  abbrev pub with_gate : List Signal → Gate → List Signal
  with_gate signals gate = signals ++ (nand (signal_at signals gate.first) (signal_at signals gate.second) ∷ [])

  -- the wires up to the first n gates, in their order: "a gate reads lower wires only"
  unfoldable pub settled : List Signal → ℕ → List Signal
  settled start zero = start
  settled start (suc n) = with_gate (settled start n) (gate_at t n)

  -- the signals of all wires
  unfoldable pub signals : List ℕ → List ℕ → List Signal
  signals inputs area = settled (sources inputs area) (length t.gates)

  -- "All flip-flops change together after the gates."
  abbrev pub next_signal : List Signal → ℕ → Signal
  next_signal all i = signal_at all (flip_flop_at t i).next

  unfoldable pub cycled : List ℕ → List ℕ → List ℕ
  cycled inputs area = bytes_of (tabulate (next_signal (signals inputs area)) (length t.flipflops))

  -- "Reset writes the start bytes."
  abbrev pub start_signal : ℕ → Signal
  start_signal i = signal (flip_flop_at t i).value (flip_flop_at t i).mark

  unfoldable pub started : List ℕ
  started = bytes_of (tabulate start_signal (length t.flipflops))
