-- 02, E1, 'Ports belong to the host': refusal 16, which judges a command by its record, and what a host has of it.
use Rattle.std.specs.Prelude.{ℕ, ◌+◌, ◌*◌, ◌<◌, ◌≡◌, Bool, true, ◌&&◌, not, List, ltb}
use Rattle.model.specs.Limits.{word_length}
use Rattle.model.specs.Image.{Design, Node, byte_at, register_at, state_at, command_at}
use Rattle.model.specs.States.{is_port}
use Rattle.model.specs.Kinds.{CommandKind, skips, assigns, sequences, falls, goes, branches, unknown_command, command_kind}

module _ (d : Design) where
  -- 02, E8: "Ports are never arguments (refusal 16, at the goto, for a field numbered below the named state's count)"
  unfoldable pub field_spares_ports : ℕ → ℕ → ℕ → Bool
  field_spares_ports t j r = not (ltb j (state_at d t).parameters && is_port d r)

  -- "From now on no assignment may name a port."
  unfoldable pub spares_ports : CommandKind → Node → Bool
  spares_ports skips x = true
  spares_ports assigns x = not (is_port d x.item)
  spares_ports sequences x = true
  spares_ports falls x = true
  spares_ports goes x = field_spares_ports x.item 0 x.a && field_spares_ports x.item 1 x.b
  spares_ports branches x = true
  spares_ports unknown_command x = true

  -- refusal 16, at command n
  unfoldable pub names_no_port : ℕ → Bool
  names_no_port n = spares_ports (command_kind (command_at d n).kind) (command_at d n)

-- between two contents of a register area no byte of a port has changed
abbrev pub PortsKept : Design → List ℕ → List ℕ → Type 0
PortsKept d before after =
    (r : ℕ) → (register_at d r).kind ≡ 1 → (k : ℕ) → k < word_length → byte_at after (word_length * r + k) ≡ byte_at before (word_length * r + k)
