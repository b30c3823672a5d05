-- Cases of the order within one pass: of two faults at different places the lower place is told, whichever rules of the pass they break.
use Prim.Native.Nat.{ℕ}
use mathlib.Core.Path.{◌≡◌, refl}
use mathlib.Core.List.{List, [], ◌∷◌, map}
use lib.ListN.{replicate}
use Rattle.model.specs.Answers.{numbers_of}
use Rattle.model.specs.Calls.{run_answer}
use Rattle.model.proofs.Opened.{checks, everything, refused, judged, lent_bound}
use Rattle.model.proofs.Designs.{assemble, one_state, of_rows, chain, width_record, register_record, state_record, state_with, node, skips, assigns, sequences, falls, goes_to, goes_with, branches, constant}

-- "charged to the lowest i whose row, or whose rule with i first, fails": labels 1 and 2 have no common label above, and row 3 has a bit at the count
shows_join_before_higher_row : judged (of_rows (15 ∷ 2 ∷ 4 ∷ 24 ∷ [])) ≡ refused 2 1
shows_join_before_higher_row = unfold checks in refl

-- the first to fail is "no bit at or above the label count"; reflexive, antisymmetric, transitive, joined of a higher label
shows_row_inside_before_higher
    : map judged (of_rows (15 ∷ 2 ∷ 22 ∷ 2 ∷ []) ∷ of_rows (15 ∷ 18 ∷ 14 ∷ 14 ∷ []) ∷ of_rows (15 ∷ 22 ∷ 4 ∷ 10 ∷ []) ∷ of_rows (15 ∷ 30 ∷ 4 ∷ 8 ∷ []) ∷ [])
    ≡ refused 2 2 ∷ refused 2 1 ∷ refused 2 1 ∷ refused 2 1 ∷ []
shows_row_inside_before_higher = unfold checks in refl

-- the first to fail is "reflexive"; a bit at the count, antisymmetric, transitive of a higher label
shows_reflexive_before_higher
    : map judged (of_rows (15 ∷ 2 ∷ 2 ∷ 26 ∷ []) ∷ of_rows (15 ∷ 12 ∷ 12 ∷ 12 ∷ []) ∷ of_rows (15 ∷ 12 ∷ 8 ∷ 12 ∷ []) ∷ [])
    ≡ refused 2 2 ∷ refused 2 1 ∷ refused 2 1 ∷ []
shows_reflexive_before_higher = unfold checks in refl

-- the first to fail is "antisymmetric"; a bit at the count, reflexive, transitive, joined of a higher label
shows_antisymmetric_before_higher
    : map judged (of_rows (15 ∷ 2 ∷ 6 ∷ 31 ∷ []) ∷ of_rows (15 ∷ 2 ∷ 2 ∷ 15 ∷ []) ∷ of_rows (15 ∷ 2 ∷ 6 ∷ 11 ∷ []) ∷ of_rows (15 ∷ 2 ∷ 4 ∷ 15 ∷ []) ∷ [])
    ≡ refused 2 0 ∷ refused 2 0 ∷ refused 2 0 ∷ refused 2 0 ∷ []
shows_antisymmetric_before_higher = unfold checks in refl

-- the first to fail is "transitive"; a bit at the count, reflexive, antisymmetric, joined of a higher label
shows_transitive_before_higher
    : map judged (of_rows (15 ∷ 6 ∷ 12 ∷ 26 ∷ []) ∷ of_rows (15 ∷ 6 ∷ 12 ∷ 4 ∷ []) ∷ of_rows (15 ∷ 6 ∷ 12 ∷ 12 ∷ []) ∷ of_rows (15 ∷ 6 ∷ 12 ∷ 2 ∷ []) ∷ [])
    ≡ refused 2 1 ∷ refused 2 1 ∷ refused 2 1 ∷ refused 2 1 ∷ []
shows_transitive_before_higher = unfold checks in refl

-- the first to fail is "row 0 full"; a bit at the count, reflexive, antisymmetric, transitive, joined of a higher label
shows_row_0_full_before_higher
    : map judged (of_rows (5 ∷ 6 ∷ 4 ∷ 28 ∷ []) ∷ of_rows (5 ∷ 4 ∷ 4 ∷ 12 ∷ []) ∷ of_rows (5 ∷ 14 ∷ 4 ∷ 14 ∷ []) ∷ of_rows (5 ∷ 7 ∷ 4 ∷ 14 ∷ []) ∷ of_rows (5 ∷ 6 ∷ 4 ∷ 7 ∷ []) ∷ [])
    ≡ refused 2 0 ∷ refused 2 0 ∷ refused 2 0 ∷ refused 2 0 ∷ refused 2 0 ∷ []
shows_row_0_full_before_higher = unfold checks in refl

-- the first to fail is "a least common label above"; a bit at the count, reflexive, antisymmetric, transitive of a higher label
shows_joined_before_higher
    : map judged (of_rows (15 ∷ 2 ∷ 4 ∷ 30 ∷ []) ∷ of_rows (15 ∷ 2 ∷ 2 ∷ 6 ∷ []) ∷ of_rows (15 ∷ 2 ∷ 12 ∷ 12 ∷ []) ∷ of_rows (15 ∷ 2 ∷ 6 ∷ 12 ∷ []) ∷ [])
    ≡ refused 2 1 ∷ refused 2 0 ∷ refused 2 1 ∷ refused 2 1 ∷ []
shows_joined_before_higher = unfold checks in refl

-- of r1 and r2: a label, a kind, a width and a reset value, each before another
shows_register_before_higher
    : map
    (λ (pair : List ℕ × List ℕ). judged (one_state (1 ∷ []) (register_record 0 0 0 ∷ pair.0 ∷ pair.1 ∷ []) 1 (goes_to 1 ∷ []) []))
    ((width_record 1 0 0 8, width_record 0 2 0 8)
    ∷ (width_record 1 0 0 8, width_record 0 0 0 0)
    ∷ (width_record 1 0 0 8, width_record 0 0 256 8)
    ∷ (width_record 0 2 0 8, width_record 1 0 0 8)
    ∷ (width_record 0 2 0 8, width_record 0 0 0 33)
    ∷ (width_record 0 2 0 8, width_record 0 0 256 8)
    ∷ (width_record 0 0 0 0, width_record 1 0 0 8)
    ∷ (width_record 0 0 256 8, width_record 0 2 0 8)
    ∷ (width_record 0 0 256 8, width_record 0 0 0 0)
    ∷ [])
    ≡ replicate 9 (refused 3 1)
shows_register_before_higher = unfold checks in refl

-- of states 1 and 2: a parent, a label and a command number, each before another
shows_state_before_higher
    : map
    (λ (pair : List ℕ × List ℕ). judged (assemble (1 ∷ []) [] (state_record 0 0 0 ∷ pair.0 ∷ pair.1 ∷ []) (falls ∷ goes_to 1 ∷ goes_to 2 ∷ []) []))
    ((state_record 1 0 1, state_record 0 1 2)
    ∷ (state_record 1 0 1, state_record 0 0 3)
    ∷ (state_record 0 1 1, state_record 2 0 2)
    ∷ (state_record 0 1 1, state_record 0 0 3)
    ∷ (state_record 0 0 3, state_record 2 0 2)
    ∷ (state_record 0 0 3, state_record 0 1 2)
    ∷ [])
    ≡ replicate 6 (refused 4 1)
shows_state_before_higher = unfold checks in refl

-- of commands 1 and 2: a kind, an unused byte, a part, a register and a state, each before another
shows_command_before_higher
    : map
    (λ (pair : List ℕ × List ℕ). judged (one_state (1 ∷ []) [] 1 (pair.0 ∷ pair.1 ∷ []) (constant 0 ∷ [])))
    ((node 0 1 0 0 0, node 6 0 0 0 0)
    ∷ (node 2 0 0 1 0, node 6 0 0 0 0)
    ∷ (node 1 0 0 0 0, node 6 0 0 0 0)
    ∷ (node 4 2 0 0 0, node 0 0 0 0 1)
    ∷ (node 6 0 0 0 0, node 0 0 0 0 1)
    ∷ (node 0 0 0 0 1, node 2 0 2 0 0)
    ∷ (node 2 0 1 0 0, node 4 2 0 0 0)
    ∷ [])
    ≡ replicate 7 (refused 5 1)
shows_command_before_higher = unfold checks in refl

-- of expressions 0 and 1, likewise
shows_expression_before_higher
    : map
    (λ (pair : List ℕ × List ℕ). judged (one_state (1 ∷ []) [] 1 (goes_to 1 ∷ []) (pair.0 ∷ pair.1 ∷ [])))
    ((node 0 1 0 0 0, node 12 0 0 0 0) ∷ (node 2 0 0 0 0, node 12 0 0 0 0) ∷ (node 1 0 0 0 0, node 0 1 0 0 0) ∷ (node 12 0 0 0 0, node 0 1 0 0 0) ∷ [])
    ≡ replicate 4 (refused 5 1024)
shows_expression_before_higher = unfold checks in refl

-- "node not used exactly once": one that is not used before one that is used twice, and the other way round; of commands and of expressions
shows_use_before_higher
    : map
    judged
    (one_state (1 ∷ []) [] 4 (skips ∷ skips ∷ sequences 2 2 ∷ goes_to 1 ∷ []) []
    ∷ one_state (1 ∷ []) [] 4 (skips ∷ skips ∷ sequences 1 1 ∷ goes_to 1 ∷ []) []
    ∷ one_state (1 ∷ []) [] 3 (goes_to 1 ∷ goes_to 1 ∷ branches 2 1 2 ∷ []) (constant 0 ∷ constant 1 ∷ node 2 0 1 1 0 ∷ [])
    ∷ one_state (1 ∷ []) [] 3 (goes_to 1 ∷ goes_to 1 ∷ branches 2 1 2 ∷ []) (constant 0 ∷ constant 1 ∷ node 2 0 0 0 0 ∷ [])
    ∷ [])
    ≡ refused 6 1 ∷ refused 6 1 ∷ refused 6 1024 ∷ refused 6 1024 ∷ []
shows_use_before_higher = unfold checks in refl

-- "at the lowest such assignment", and at a goto with a port as its argument: whichever is lower. r0 is a port, r1 is none; state 2 has a parameter
shows_port_before_higher
    : map
    (λ (commands : List (List ℕ)). judged (assemble (1 ∷ []) (register_record 0 1 0 ∷ register_record 0 0 0 ∷ []) (state_record 0 0 0 ∷ state_record 0 0 3 ∷ state_with 0 0 4 1 0 0 0 0 ∷ []) (falls ∷ commands) (constant 0 ∷ [])))
    ((assigns 0 0 ∷ goes_with 2 0 ∷ sequences 1 2 ∷ goes_with 2 64 ∷ []) ∷ (goes_with 2 0 ∷ assigns 0 0 ∷ sequences 2 1 ∷ goes_with 2 64 ∷ []) ∷ [])
    ≡ refused 16 1 ∷ refused 16 1 ∷ []
shows_port_before_higher = unfold checks in refl

-- 19 "at the lowest state": of states 2 and 3 a count, a scope, bounds and a label byte, each before another
shows_parameters_before_higher
    : map
    (λ (pair : List ℕ × List ℕ). judged (assemble chain [] (state_record 0 0 0 ∷ state_record 0 0 1 ∷ pair.0 ∷ pair.1 ∷ []) (falls ∷ goes_to 1 ∷ goes_to 2 ∷ goes_to 3 ∷ []) []))
    ((state_with 0 0 2 1 1 0 0 0, state_with 0 0 3 3 0 0 0 0)
    ∷ (state_with 0 16 2 0 0 0 0 0, state_with 0 0 3 3 0 0 0 0)
    ∷ (state_with 0 16 2 0 0 0 0 0, state_with 0 0 3 1 1 0 0 0)
    ∷ (state_with 0 0 2 0 0 1 0 0, state_with 0 0 3 3 0 0 0 0)
    ∷ (state_with 0 0 2 2 0 1 1 0, state_with 0 0 3 1 1 0 0 0)
    ∷ (state_with 0 0 2 3 0 0 0 0, state_with 0 0 3 1 1 0 0 0)
    ∷ (state_with 0 0 2 1 1 0 0 0, state_with 0 16 3 0 0 0 0 0)
    ∷ [])
    ≡ replicate 7 (refused 19 2)
shows_parameters_before_higher = unfold checks in refl

-- 14 "at the lowest state": a port bound on the path, in state 2, before a byte that is no register's, in state 3; r0 is a port, r1 is none
shows_binding_before_higher
    : map
    (λ (bindings : List ℕ).
    numbers_of
    (run_answer
    (assemble
    (1 ∷ [])
    (register_record 0 1 0 ∷ register_record 0 0 0 ∷ [])
    (state_record 0 0 0 ∷ state_record 0 0 1 ∷ state_with 0 0 2 1 0 0 0 0 ∷ state_record 0 0 3 ∷ [])
    (falls ∷ goes_with 2 1 ∷ goes_with 2 64 ∷ goes_to 3 ∷ [])
    [])
    (lent_bound (replicate 8 0) (2 ∷ 1 ∷ 2 ∷ 3 ∷ []) bindings)
    1))
    ((0 ∷ 0 ∷ 0 ∷ 0 ∷ 0 ∷ 0 ∷ 2 ∷ 0 ∷ []) ∷ (0 ∷ 0 ∷ 0 ∷ 0 ∷ 1 ∷ 0 ∷ 2 ∷ 0 ∷ []) ∷ [])
    ≡ refused 14 2 ∷ refused 14 3 ∷ []
shows_binding_before_higher = unfold everything in refl
