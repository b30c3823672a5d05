-- Cases at the boundaries of "The filing form numbers nodes by state, parts before the whole, first part first, expressions in the order of the commands that use them."
use Prim.Native.Nat.{ℕ}
use mathlib.Core.Path.{◌≡◌, refl}
use mathlib.Core.List.{List, [], ◌∷◌, map}
use lib.ListN.{replicate}
use Rattle.model.specs.Image.{design_of}
use Rattle.model.proofs.Opened.{checks, accepted, judged}
use Rattle.model.proofs.Designs.{assemble, register_record, state_record, state_with, assigns, sequences, falls, goes_to, goes_with_both, branches, constant, reads, adds, lease, chain, low_and_high}
use Rattle.filing_model.specs.Filed.{command_order, expression_order, filed_image}
use Rattle.filing_model.proofs.Opened.{filing}

-- 01's lease design is numbered so already
shows_lease : filed_image lease ≡ lease
shows_lease = unfold filing in refl

-- State 0 falls. 1: if r1 then (r0 := r0 + 1; goto 2) else (r0 := v; goto 1). 2: goto 1. Nodes stand in no order of reading: the body of 2 first, second parts in front of first
-- ones, the condition in front of the expressions of its parts.
abbrev pub nested_with : ℕ → List ℕ
nested_with v =
    assemble
    chain
    (register_record 0 0 3 ∷ register_record 0 1 0 ∷ [])
    (state_record 0 0 3 ∷ state_record 0 0 8 ∷ state_record 0 0 0 ∷ [])
    (goes_to 1 ∷ goes_to 1 ∷ assigns 0 1 ∷ falls ∷ sequences 2 1 ∷ goes_to 2 ∷ assigns 0 4 ∷ sequences 6 5 ∷ branches 0 7 4 ∷ [])
    (reads 1 ∷ constant v ∷ constant 1 ∷ reads 0 ∷ adds 3 2 ∷ [])

abbrev pub nested : List ℕ
nested = nested_with 7

-- its form, written by hand
abbrev pub nested_filed_with : ℕ → List ℕ
nested_filed_with v =
    assemble
    chain
    (register_record 0 0 3 ∷ register_record 0 1 0 ∷ [])
    (state_record 0 0 0 ∷ state_record 0 0 7 ∷ state_record 0 0 8 ∷ [])
    (falls ∷ assigns 0 2 ∷ goes_to 2 ∷ sequences 1 2 ∷ assigns 0 3 ∷ goes_to 1 ∷ sequences 4 5 ∷ branches 4 3 6 ∷ goes_to 1 ∷ [])
    (reads 0 ∷ constant 1 ∷ adds 0 1 ∷ constant v ∷ reads 1 ∷ [])

abbrev pub nested_filed : List ℕ
nested_filed = nested_filed_with 7

shows_accepted : map judged (nested ∷ nested_filed ∷ []) ≡ replicate 2 (accepted 0)
shows_accepted = unfold checks in refl

-- "by state, parts before the whole, first part first"
shows_command_order : command_order (design_of nested) ≡ 3 ∷ 6 ∷ 5 ∷ 7 ∷ 2 ∷ 1 ∷ 4 ∷ 8 ∷ 0 ∷ []
shows_command_order = unfold filing in refl

-- "in the order of the commands that use them": the condition is behind the expressions of its parts, whose commands have lower numbers than the if
shows_expression_order : expression_order (design_of nested) ≡ 3 ∷ 2 ∷ 4 ∷ 1 ∷ 0 ∷ []
shows_expression_order = unfold filing in refl

shows_form : filed_image nested ≡ nested_filed
shows_form = unfold filing in refl

-- the form is its own form
shows_twice : filed_image nested_filed ≡ nested_filed
shows_twice = unfold filing in refl

-- States keep their numbers, their parents and their parameters, and so do gotos the states that they name and their arguments: only nodes are numbered anew. State 1 goes to 2 with
-- r1 twice, 2 goes to itself with its parameters.
abbrev given : List ℕ
given =
    assemble
    chain
    low_and_high
    (state_record 0 0 2 ∷ state_record 0 0 0 ∷ state_with 0 16 1 2 0 1 1 1 ∷ [])
    (goes_with_both 2 1 1 ∷ goes_with_both 2 64 65 ∷ falls ∷ [])
    []

abbrev given_filed : List ℕ
given_filed =
    assemble
    chain
    low_and_high
    (state_record 0 0 0 ∷ state_record 0 0 1 ∷ state_with 0 16 2 2 0 1 1 1 ∷ [])
    (falls ∷ goes_with_both 2 1 1 ∷ goes_with_both 2 64 65 ∷ [])
    []

shows_given_accepted : map judged (given ∷ given_filed ∷ []) ≡ replicate 2 (accepted 0)
shows_given_accepted = unfold checks in refl

shows_given : filed_image given ≡ given_filed
shows_given = unfold filing in refl
