-- Cases at the boundaries of "the records at or below a level": labels that cannot be compared.
use Prim.Native.Nat.{ℕ}
use mathlib.Core.Path.{◌≡◌, refl}
use mathlib.Core.List.{List, [], ◌∷◌, map}
use Rattle.model.specs.Image.{design_of}
use Rattle.model.proofs.Designs.{one_state, diamond, register_record, goes_to}
use Rattle.replay_model.specs.declared.TraceRecord.{TraceRecord}
use Rattle.replay_model.specs.ByHand.{trace_seen}
use Rattle.replay_model.proofs.Opened.{replaying, reading}

-- four labels of which 1 and 2 cannot be compared, and a port of each
abbrev four_ports : List ℕ
four_ports = one_state diamond (register_record 0 1 0 ∷ register_record 1 1 0 ∷ register_record 2 1 0 ∷ register_record 3 1 0 ∷ []) 1 (goes_to 1 ∷ []) []

abbrev of_each : List TraceRecord
of_each = reading 0 3 13 ∷ reading 0 2 12 ∷ reading 1 1 11 ∷ reading 1 0 10 ∷ reading 2 1 21 ∷ []

shows_trace_seen
    : map (λ (level : ℕ). trace_seen (design_of four_ports) level of_each) (0 ∷ 1 ∷ 2 ∷ 3 ∷ [])
    ≡ (reading 1 0 10 ∷ [])
    ∷ (reading 1 1 11 ∷ reading 1 0 10 ∷ reading 2 1 21 ∷ [])
    ∷ (reading 0 2 12 ∷ reading 1 0 10 ∷ [])
    ∷ of_each
    ∷ []
shows_trace_seen = unfold replaying in refl
