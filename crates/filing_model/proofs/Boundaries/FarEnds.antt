-- Cases at the far ends of numbers: places from 256 on, the last state's body, and bytes far behind and with their top bit set.
use Prim.Native.Nat.{ℕ}
use mathlib.Core.Path.{◌≡◌, refl}
use mathlib.Core.Bool.{true, false}
use mathlib.Core.List.{[], ◌∷◌, ◌++◌}
use lib.ListN.{replicate}
use Rattle.model.specs.Image.{State, Node, Design}
use Rattle.filing_model.specs.Filed.{place_in, command_order, expression_order, filed}
use Rattle.filing_model.specs.Order.{comes_before}
use Rattle.filing_model.proofs.Opened.{filing}

-- the place of a number behind 300 others, by the whole number
shows_place_300 : place_in (replicate 300 1 ++ (5 ∷ [])) 5 ∷ place_in (261 ∷ 65541 ∷ 5 ∷ []) 5 ∷ place_in (0 ∷ 2047 ∷ []) 2047 ∷ [] ≡ 300 ∷ 2 ∷ 1 ∷ []
shows_place_300 = unfold filing in refl

abbrev state_like : ℕ → State
state_like command =
    record { parent = 0; label = 0; command = command; parameters = 0; first_lower = 0; first_upper = 0; second_lower = 0; second_upper = 0 }

abbrev node_like : ℕ → ℕ → ℕ → ℕ → Node
node_like kind item a b = record { kind = kind; item = item; a = a; b = b; c = 0 }

-- two states: the root with command 301, the last state with 303, a sequence of 300 and 302; 300 assigns expression 299, the sum of 297 and 298
abbrev high : Design
high =
    record {
      rows = 1 ∷ [];
      registers = [];
      states = state_like 301 ∷ state_like 303 ∷ [];
      commands = replicate 300 (node_like 0 0 0 0) ++ (node_like 1 0 299 0 ∷ node_like 3 0 0 0 ∷ node_like 4 1 0 0 ∷ node_like 2 0 300 302 ∷ []);
      expressions = replicate 297 (node_like 0 0 0 0) ++ (node_like 0 0 0 1 ∷ node_like 0 0 0 2 ∷ node_like 2 0 297 298 ∷ []);
    }

-- "by state, parts before the whole, first part first", by both bytes of each number
shows_high_command_order : command_order high ≡ 301 ∷ 300 ∷ 302 ∷ 303 ∷ []
shows_high_command_order = unfold filing in refl

shows_high_expression_order : expression_order high ≡ 297 ∷ 298 ∷ 299 ∷ []
shows_high_expression_order = unfold filing in refl

-- the form: each node under its new number
shows_high_form
    : filed high
    ≡ record {
      rows = 1 ∷ [];
      registers = [];
      states = state_like 0 ∷ state_like 3 ∷ [];
      commands = node_like 3 0 0 0 ∷ node_like 1 0 2 0 ∷ node_like 4 1 0 0 ∷ node_like 2 0 1 2 ∷ [];
      expressions = node_like 0 0 0 1 ∷ node_like 0 0 0 2 ∷ node_like 2 0 0 1 ∷ [];
    }
shows_high_form = unfold filing in refl

-- "by these bytes": a byte behind 300 equal ones decides, and so does the length behind them
shows_byte_300
    : comes_before (replicate 300 7 ++ (1 ∷ [])) (replicate 300 7 ++ (2 ∷ []))
    ∷ comes_before (replicate 300 7 ++ (2 ∷ [])) (replicate 300 7 ++ (1 ∷ []))
    ∷ comes_before (replicate 300 7) (replicate 300 7 ++ (0 ∷ []))
    ∷ comes_before (replicate 300 7 ++ (0 ∷ [])) (replicate 300 7)
    ∷ []
    ≡ true ∷ false ∷ true ∷ false ∷ []
shows_byte_300 = unfold filing in refl
