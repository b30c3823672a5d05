-- Cases at the far ends of numbers: the last state, new numbers of nodes from 256 on, and fields of two bytes.
use Prim.Native.Nat.{ℕ, suc, ◌+◌}
use mathlib.Core.Path.{◌≡◌, refl}
use mathlib.Core.Bool.{true, false, not}
use mathlib.Core.List.{[], ◌∷◌, ◌++◌, map}
use lib.Dec.{eqb}
use lib.ListN.{replicate}
use Rattle.model.specs.Image.{State, Node, Design, no_node}
use Rattle.model.specs.Kinds.{goes, assigns, operates, add}
use Rattle.encoding.specs.Encoding.{word16_bytes, word32_bytes, row_bytes, register_bytes, state_bytes, node_bytes, directory_bytes}
use Rattle.renumbering.specs.Renumbering.{renumbered_command, renumbered_expression}
use Rattle.pruning_model.specs.Reached.{among, reached}
use Rattle.pruning_model.specs.Pruned.{closed_up, staying, command_stays}
use Rattle.pruning_model.proofs.Opened.{pruning}

-- ---- "numbers closed up"
-- where one number goes, those behind it are one lower, up to the last of 2,048; where all go but the last, it is 0
shows_closed_up_2047
    : closed_up (λ n. not (eqb n 1)) 2047 ∷ closed_up (λ n. not (eqb n 2046)) 2047 ∷ closed_up (λ n. eqb n 2047) 2047 ∷ closed_up (λ n. true) 300 ∷ [] ≡ 2046 ∷ 2046 ∷ 0 ∷ 300 ∷ []
shows_closed_up_2047 = unfold pruning in refl

-- the last of 300 stays, and the one before it goes
shows_last_stays : staying {A = ℕ} (λ n. eqb n 299) (replicate 299 1 ++ (7 ∷ [])) ∷ staying {A = ℕ} (λ n. not (eqb n 298)) (replicate 298 1 ++ (2 ∷ 3 ∷ [])) ∷ [] ≡ (7 ∷ []) ∷ (replicate 298 1 ++ (3 ∷ [])) ∷ []
shows_last_stays = unfold pruning in refl

-- numbers are compared whole
shows_among_high : among 5 (261 ∷ 65541 ∷ []) ∷ among 2047 (1 ∷ 2047 ∷ []) ∷ among 63 (replicate 300 1 ++ (63 ∷ [])) ∷ [] ≡ false ∷ true ∷ true ∷ []
shows_among_high = unfold pruning in refl

-- ---- "Reached states"
abbrev state_like : ℕ → ℕ → State
state_like parent command =
    record { parent = parent; label = 0; command = command; parameters = 0; first_lower = 0; first_upper = 0; second_lower = 0; second_upper = 0 }

abbrev command_like : ℕ → ℕ → Node
command_like kind item = record { kind = kind; item = item; a = 0; b = 0; c = 0 }

-- the root falls to state 1, which goes to 17, the last, by command 300; 17 goes to 16; nobody goes to the states between
abbrev highest : Design
highest =
    record {
      rows = 1 ∷ [];
      registers = [];
      states = state_like 0 0 ∷ state_like 0 300 ∷ replicate 14 (state_like 0 5) ++ (state_like 0 6 ∷ state_like 0 301 ∷ []);
      commands = command_like 3 0 ∷ replicate 299 (command_like 4 2) ++ (command_like 4 17 ∷ command_like 4 16 ∷ []);
      expressions = [];
    }

shows_last_reached : map (reached highest) (0 ∷ 1 ∷ 16 ∷ 17 ∷ []) ≡ true ∷ true ∷ true ∷ true ∷ []
shows_last_reached = unfold pruning in refl

shows_high_commands_stay : map (command_stays highest) (0 ∷ 300 ∷ 301 ∷ 44 ∷ []) ≡ true ∷ true ∷ true ∷ false ∷ []
shows_high_commands_stay = unfold pruning in refl

-- ---- records under new numbers, from 256 on: both bytes
abbrev shifted : ℕ → ℕ
shifted n = 300 + n

shows_high_renumbered
    : renumbered_command suc shifted shifted goes (record { kind = 4; item = 62; a = 65; b = 64; c = 0 })
    ∷ renumbered_command suc shifted shifted assigns (record { kind = 1; item = 63; a = 1747; b = 0; c = 0 })
    ∷ renumbered_expression suc shifted shifted (operates add) (record { kind = 2; item = 0; a = 1746; b = 1747; c = 0 })
    ∷ []
    ≡ record { kind = 4; item = 63; a = 65; b = 64; c = 0 }
    ∷ record { kind = 1; item = 63; a = 2047; b = 0; c = 0 }
    ∷ record { kind = 2; item = 0; a = 2046; b = 2047; c = 0 }
    ∷ []
shows_high_renumbered = unfold pruning in refl

-- ---- bytes of records, with the highest in them
shows_high_words : word16_bytes 65535 ++ word16_bytes 32768 ++ word32_bytes 4294901244 ++ row_bytes 32768 ≡ 255 ∷ 255 ∷ 0 ∷ 128 ∷ 252 ∷ 253 ∷ 254 ∷ 255 ∷ 0 ∷ 128 ∷ []
shows_high_words = unfold pruning in refl

shows_high_records
    : register_bytes (record { label = 15; kind = 1; reset = 4294901244; width = 32 })
    ++ state_bytes (record { parent = 62; label = 17; command = 1023; parameters = 2; first_lower = 12; first_upper = 13; second_lower = 14; second_upper = 15 })
    ++ node_bytes (record { kind = 5; item = 63; a = 2047; b = 1022; c = 1021 })
    ≡ (15 ∷ 1 ∷ 252 ∷ 253 ∷ 254 ∷ 255 ∷ 32 ∷ []) ++ (62 ∷ 17 ∷ 255 ∷ 3 ∷ 2 ∷ 12 ∷ 13 ∷ 14 ∷ 15 ∷ []) ++ (5 ∷ 63 ∷ 255 ∷ 7 ∷ 254 ∷ 3 ∷ 253 ∷ 3 ∷ [])
shows_high_records = unfold pruning in refl

-- the directory of the largest image: "five pairs of offset and length, 16 bits each"
shows_high_directory
    : directory_bytes
    (record {
      rows = replicate 16 1;
      registers = replicate 64 (record { label = 0; kind = 0; reset = 0; width = 32 });
      states = replicate 64 (state_like 0 0);
      commands = replicate 1024 no_node;
      expressions = replicate 2048 no_node;
    })
    ≡ 20 ∷ 0 ∷ 32 ∷ 0 ∷ 52 ∷ 0 ∷ 192 ∷ 1 ∷ 244 ∷ 1 ∷ 64 ∷ 2 ∷ 52 ∷ 4 ∷ 0 ∷ 32 ∷ 52 ∷ 36 ∷ 0 ∷ 64 ∷ []
shows_high_directory = unfold pruning in refl
