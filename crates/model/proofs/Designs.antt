-- Worked designs as images, written record by record: the lease design, the design with two groups, and small images for the table of refusals.
-- `assemble` lays records out as 01's section 'The image' says; it is written here for the cases and proves nothing by itself.
use Prim.Native.Nat.{ℕ, zero, suc, ◌+◌, ◌*◌, ◌/◌, ◌%◌}
use mathlib.Core.List.{List, [], ◌∷◌, ◌++◌}
use lib.ListN.{length}

-- little-endian fields
abbrev pub word16 : ℕ → List ℕ
word16 n = n % 256 ∷ n / 256 % 256 ∷ []

abbrev pub word32 : ℕ → List ℕ
word32 n = word16 n ++ word16 (n / 65536)

abbrev pub joined : List (List ℕ) → List ℕ
joined [] = []
joined (x ∷ xs) = x ++ joined xs

-- label, kind, reset value, width; and the widest
abbrev pub width_record : ℕ → ℕ → ℕ → ℕ → List ℕ
width_record label kind reset width = label ∷ kind ∷ word32 reset ++ (width ∷ [])

abbrev pub register_record : ℕ → ℕ → ℕ → List ℕ
register_record label kind reset = width_record label kind reset 32

-- parent, label, command number, count of parameters, and two pairs of lower and upper label; and a state without parameters
abbrev pub state_with : ℕ → ℕ → ℕ → ℕ → ℕ → ℕ → ℕ → ℕ → List ℕ
state_with parent label command count first_lower first_upper second_lower second_upper =
    parent ∷ label ∷ word16 command ++ (count ∷ first_lower ∷ first_upper ∷ second_lower ∷ second_upper ∷ [])

abbrev pub state_record : ℕ → ℕ → ℕ → List ℕ
state_record parent label command = state_with parent label command 0 0 0 0 0

-- kind, register or state, and the fields a, b, c
abbrev pub node : ℕ → ℕ → ℕ → ℕ → ℕ → List ℕ
node kind item a b c = kind ∷ item ∷ word16 a ++ word16 b ++ word16 c

-- commands
abbrev pub skips : List ℕ
skips = node 0 0 0 0 0

abbrev pub assigns : ℕ → ℕ → List ℕ
assigns r e = node 1 r e 0 0

abbrev pub sequences : ℕ → ℕ → List ℕ
sequences p q = node 2 0 p q 0

abbrev pub falls : List ℕ
falls = node 3 0 0 0 0

abbrev pub goes_to : ℕ → List ℕ
goes_to s = node 4 s 0 0 0

-- a goto with one argument, and with two
abbrev pub goes_with : ℕ → ℕ → List ℕ
goes_with s a = node 4 s a 0 0

abbrev pub goes_with_both : ℕ → ℕ → ℕ → List ℕ
goes_with_both s a b = node 4 s a b 0

abbrev pub branches : ℕ → ℕ → ℕ → List ℕ
branches e p q = node 5 0 e p q

-- expressions
abbrev pub constant : ℕ → List ℕ
constant v = 0 ∷ 0 ∷ 0 ∷ 0 ∷ word32 v

abbrev pub reads : ℕ → List ℕ
reads r = node 1 r 0 0 0

abbrev pub adds : ℕ → ℕ → List ℕ
adds p q = node 2 0 p q 0

abbrev pub subtracts : ℕ → ℕ → List ℕ
subtracts p q = node 3 0 p q 0

abbrev pub equals : ℕ → ℕ → List ℕ
equals p q = node 7 0 p q 0

-- five sections behind their directory
abbrev pub from_sections : List ℕ → List ℕ → List ℕ → List ℕ → List ℕ → List ℕ
from_sections labels registers states commands expressions =
    let r = 20 + length labels in
    let s = r + length registers in
    let c = s + length states in
    let e = c + length commands in
    word16 20
    ++ word16 (length labels)
    ++ word16 r
    ++ word16 (length registers)
    ++ word16 s
    ++ word16 (length states)
    ++ word16 c
    ++ word16 (length commands)
    ++ word16 e
    ++ word16 (length expressions)
    ++ labels
    ++ registers
    ++ states
    ++ commands
    ++ expressions

abbrev pub rows : List ℕ → List (List ℕ)
rows [] = []
rows (x ∷ xs) = word16 x ∷ rows xs

abbrev pub assemble : List ℕ → List (List ℕ) → List (List ℕ) → List (List ℕ) → List (List ℕ) → List ℕ
assemble labels registers states commands expressions =
    from_sections (joined (rows labels)) (joined registers) (joined states) (joined commands) (joined expressions)

-- two labels, one above the other
abbrev pub chain : List ℕ
chain = 3 ∷ 2 ∷ []

-- 01, 'The lease design'
abbrev pub lease : List ℕ
lease =
    assemble
    (3 ∷ 2 ∷ [])
    (register_record 0 0 3 ∷ register_record 1 1 0 ∷ [])
    (state_record 0 0 0 ∷ state_record 0 0 3 ∷ state_record 0 0 8 ∷ state_record 2 1 11 ∷ state_record 2 1 12 ∷ [])
    (falls
    ∷ assigns 0 0
    ∷ goes_to 2
    ∷ sequences 1 2
    ∷ assigns 0 3
    ∷ falls
    ∷ goes_to 1
    ∷ branches 4 5 6
    ∷ sequences 4 7
    ∷ goes_to 4
    ∷ goes_to 3
    ∷ branches 5 9 10
    ∷ goes_to 3
    ∷ [])
    (constant 3 ∷ reads 0 ∷ constant 1 ∷ subtracts 1 2 ∷ reads 0 ∷ reads 1 ∷ [])

-- 01, P5 and P6: a body that assigns n nested sums, "each adding one constant"
abbrev pub nested_sums : ℕ → ℕ → List (List ℕ)
nested_sums first zero = []
nested_sums first (suc n) = constant 1 ∷ adds first (suc first) ∷ nested_sums (suc (suc first)) n

abbrev pub deep : ℕ → List ℕ
deep n =
    assemble
    (1 ∷ [])
    (register_record 0 0 0 ∷ [])
    (state_record 0 0 0 ∷ state_record 0 0 3 ∷ [])
    (falls ∷ assigns 0 (2 * n) ∷ goes_to 1 ∷ sequences 1 2 ∷ [])
    (constant 1 ∷ nested_sums 0 n)

-- the same sums as the condition of an if, whose commands have depth 2
abbrev pub deep_condition : ℕ → List ℕ
deep_condition n =
    assemble
    (1 ∷ [])
    []
    (state_record 0 0 0 ∷ state_record 0 0 3 ∷ [])
    (falls ∷ goes_to 1 ∷ goes_to 1 ∷ branches (2 * n) 1 2 ∷ [])
    (constant 1 ∷ nested_sums 0 n)

-- the expressions r = 0 and r0 - 1, from the number of their first node on
abbrev pub is_zero : ℕ → ℕ → List (List ℕ)
is_zero first r = reads r ∷ constant 0 ∷ equals first (suc first) ∷ []

abbrev pub counted_down : ℕ → List (List ℕ)
counted_down first = reads 0 ∷ constant 1 ∷ subtracts first (suc first) ∷ []

-- the commands "if e then goto s else goto t", and "r0 := d; if e then goto 1 else fall", likewise
abbrev pub goes_one_way : ℕ → ℕ → ℕ → ℕ → List (List ℕ)
goes_one_way first e s t = goes_to s ∷ goes_to t ∷ branches e first (suc first) ∷ []

abbrev pub group : ℕ → ℕ → ℕ → List (List ℕ)
group first d e = assigns 0 d ∷ goes_to 1 ∷ falls ∷ branches e (1 + first) (2 + first) ∷ sequences first (3 + first) ∷ []

-- The lease controller with two groups (document 004, figure 2(b)): r0 timer, r1 mode, r2 and r3 the ports of the groups. State 1: r0 := 3;
-- if r1 = 0 then (r1 := 1; goto 2) else (r1 := 0; goto 3). The groups 2 and 3 count down; of their two states each goes to the other while its port is 0.
abbrev pub two_groups : List ℕ
two_groups =
    assemble
    (3 ∷ 2 ∷ [])
    (register_record 0 0 3 ∷ register_record 0 0 0 ∷ register_record 1 1 0 ∷ register_record 0 1 0 ∷ [])
    (state_record 0 0 0
    ∷ state_record 0 0 9
    ∷ state_record 0 0 14
    ∷ state_record 0 0 19
    ∷ state_record 2 1 22
    ∷ state_record 2 1 25
    ∷ state_record 3 0 28
    ∷ state_record 3 0 31
    ∷ [])
    ((falls ∷ assigns 0 0 ∷ assigns 1 4 ∷ goes_to 2 ∷ sequences 2 3 ∷ assigns 1 5 ∷ goes_to 3 ∷ sequences 5 6 ∷ branches 3 4 7 ∷ sequences 1 8 ∷ [])
    ++ group 10 8 11
    ++ group 15 14 17
    ++ goes_one_way 20 20 5 4
    ++ goes_one_way 23 23 4 5
    ++ goes_one_way 26 26 7 6
    ++ goes_one_way 29 29 6 7)
    ((constant 3 ∷ [])
    ++ is_zero 1 1
    ++ (constant 1 ∷ constant 0 ∷ [])
    ++ counted_down 6
    ++ is_zero 9 0
    ++ counted_down 12
    ++ is_zero 15 0
    ++ is_zero 18 2
    ++ is_zero 21 2
    ++ is_zero 24 3
    ++ is_zero 27 3)

-- The lease controller with one group for both parties (document 004, figure 2(c)). "Ports are never arguments" (02, E8), so the root takes both readings into inner
-- registers first: r4 := r2; r5 := r3; fall. State 1 is as above, and goes to the group 2 with r4 or with r5. The group has the parameter p, from label 0 to label 1; its two
-- states have the label of p, and each goes to the other while p is 0.
abbrev pub one_group : List ℕ
one_group =
    assemble
    chain
    (register_record 0 0 3
    ∷ register_record 0 0 0
    ∷ register_record 1 1 0
    ∷ register_record 0 1 0
    ∷ register_record 1 0 0
    ∷ register_record 0 0 0
    ∷ [])
    (state_record 0 0 4 ∷ state_record 0 0 13 ∷ state_with 0 0 18 1 0 1 0 0 ∷ state_record 2 16 21 ∷ state_record 2 16 24 ∷ [])
    ((assigns 4 0 ∷ assigns 5 1 ∷ falls ∷ sequences 1 2 ∷ sequences 0 3 ∷ [])
    ++ (assigns 0 2 ∷ assigns 1 6 ∷ goes_with 2 4 ∷ sequences 6 7 ∷ assigns 1 7 ∷ goes_with 2 5 ∷ sequences 9 10 ∷ branches 5 8 11 ∷ sequences 5 12 ∷ [])
    ++ group 14 10 13
    ++ goes_one_way 19 16 4 3
    ++ goes_one_way 22 19 3 4)
    ((reads 2 ∷ reads 3 ∷ constant 3 ∷ []) ++ is_zero 3 1 ++ (constant 1 ∷ constant 0 ∷ []) ++ counted_down 8 ++ is_zero 11 0 ++ is_zero 14 64 ++ is_zero 17 64)

-- States 2 > 3 > 4 > 5, one below the other, with 6 beside 5 and 7 beside 4, and the group 8 of 9 and 10 apart. State 1 goes to 2.
abbrev pub tower : List ℕ
tower =
    assemble
    (1 ∷ [])
    []
    (state_record 0 0 0
    ∷ state_record 0 0 1
    ∷ state_record 0 0 2
    ∷ state_record 2 0 3
    ∷ state_record 3 0 4
    ∷ state_record 4 0 5
    ∷ state_record 4 0 6
    ∷ state_record 3 0 7
    ∷ state_record 0 0 8
    ∷ state_record 8 0 9
    ∷ state_record 8 0 10
    ∷ [])
    (falls ∷ goes_to 2 ∷ falls ∷ falls ∷ falls ∷ goes_to 6 ∷ goes_to 5 ∷ goes_to 4 ∷ falls ∷ goes_to 10 ∷ goes_to 9 ∷ [])
    []

-- the root falls by command 0; state 1 has label 0 and the body numbered; the commands given count from 1
abbrev pub one_state : List ℕ → List (List ℕ) → ℕ → List (List ℕ) → List (List ℕ) → List ℕ
one_state labels registers body commands expressions =
    assemble labels registers (state_record 0 0 0 ∷ state_record 0 0 body ∷ []) (falls ∷ commands) expressions

-- r0 with label 0 and r1 with label 1
abbrev pub low_and_high : List (List ℕ)
low_and_high = register_record 0 0 0 ∷ register_record 1 0 0 ∷ []

-- four labels, of which 1 and 2 cannot be compared and 3 is the top; and a register of each: r0 to r3
abbrev pub diamond : List ℕ
diamond = 15 ∷ 10 ∷ 12 ∷ 8 ∷ []

abbrev pub one_of_each : List (List ℕ)
one_of_each = register_record 0 0 0 ∷ register_record 1 0 0 ∷ register_record 2 0 0 ∷ register_record 3 0 0 ∷ []

-- no registers, and state 1 goes to itself: accepted where the rows are a lattice
abbrev pub of_rows : List ℕ → List ℕ
of_rows labels = one_state labels [] 1 (goes_to 1 ∷ []) []

abbrev pub smallest : List ℕ
smallest = of_rows (1 ∷ [])

-- Images that are refused, in the order of the table.
-- 3: r1 of kind 2
abbrev pub kind_two : List ℕ
kind_two = one_state (1 ∷ []) (register_record 0 0 0 ∷ register_record 0 2 0 ∷ []) 1 (goes_to 1 ∷ []) []

-- 4: state 1 with parent 1
abbrev pub own_parent : List ℕ
own_parent = assemble (1 ∷ []) [] (state_record 0 0 0 ∷ state_record 1 0 1 ∷ []) (falls ∷ goes_to 1 ∷ []) []

-- 4: no commands
abbrev pub no_commands : List ℕ
no_commands = assemble (1 ∷ []) [] (state_record 0 0 0 ∷ []) [] []

-- 5: command 1 of kind 6
abbrev pub kind_six : List ℕ
kind_six = one_state (1 ∷ []) [] 1 (node 6 0 0 0 0 ∷ []) []

-- 5: expression 1 of kind 12
abbrev pub expression_kind_twelve : List ℕ
expression_kind_twelve = one_state (1 ∷ []) [] 3 (goes_to 1 ∷ goes_to 1 ∷ branches 1 1 2 ∷ []) (constant 1 ∷ node 12 0 0 0 0 ∷ [])

-- 6: states 0 and 1 both with command 0
abbrev pub shared_command : List ℕ
shared_command = assemble (1 ∷ []) [] (state_record 0 0 0 ∷ state_record 0 0 0 ∷ []) (falls ∷ goes_to 1 ∷ []) []

-- 6: a sequence with one skip as both parts
abbrev pub twice_in_sequence : List ℕ
twice_in_sequence = one_state (1 ∷ []) [] 4 (skips ∷ sequences 1 1 ∷ goes_to 1 ∷ sequences 2 3 ∷ []) []

-- 8: if r0 then goto 1 else skip
abbrev pub half_transferring : List ℕ
half_transferring = one_state (1 ∷ []) (register_record 0 0 0 ∷ []) 3 (goes_to 1 ∷ skips ∷ branches 0 1 2 ∷ []) (reads 0 ∷ [])

-- 8: (if r0 then goto 1 else skip); goto 1
abbrev pub half_inside : List ℕ
half_inside =
    one_state (1 ∷ []) (register_record 0 0 0 ∷ []) 5 (goes_to 1 ∷ skips ∷ branches 0 1 2 ∷ goes_to 1 ∷ sequences 3 4 ∷ []) (reads 0 ∷ [])

-- 8: goto 1; goto 1
abbrev pub transfers_first : List ℕ
transfers_first = one_state (1 ∷ []) [] 3 (goes_to 1 ∷ goes_to 1 ∷ sequences 1 2 ∷ []) []

-- 8: state 1 skips
abbrev pub only_skips : List ℕ
only_skips = one_state (1 ∷ []) [] 1 (skips ∷ []) []

-- 8: the root does goto 1
abbrev pub root_goes : List ℕ
root_goes = assemble (1 ∷ []) [] (state_record 0 0 0 ∷ state_record 0 0 1 ∷ []) (goes_to 1 ∷ goes_to 1 ∷ []) []

-- 8: state 1 does goto 0
abbrev pub goto_root : List ℕ
goto_root = one_state (1 ∷ []) [] 1 (goes_to 0 ∷ []) []

-- 8: the only state is the root, which falls
abbrev pub root_alone : List ℕ
root_alone = assemble (1 ∷ []) [] (state_record 0 0 0 ∷ []) (falls ∷ []) []

-- 16: r0 := 0; r1 := r0; goto 1, where r0 is a port: the reading is overwritten before it is used
abbrev pub port_assigned : List ℕ
port_assigned =
    one_state
    (1 ∷ [])
    (register_record 0 1 0 ∷ register_record 0 0 0 ∷ [])
    5
    (assigns 0 0 ∷ assigns 1 1 ∷ goes_to 1 ∷ sequences 2 3 ∷ sequences 1 4 ∷ [])
    (constant 0 ∷ reads 0 ∷ [])

-- 9: state 2 with label 0 under state 1 with label 1
abbrev pub low_under_high : List ℕ
low_under_high = assemble chain [] (state_record 0 0 0 ∷ state_record 0 1 1 ∷ state_record 1 0 2 ∷ []) (falls ∷ falls ∷ goes_to 2 ∷ []) []

-- 10: r0 := r1; goto 1
abbrev pub high_to_low : List ℕ
high_to_low = one_state chain low_and_high 3 (assigns 0 0 ∷ goes_to 1 ∷ sequences 1 2 ∷ []) (reads 1 ∷ [])

-- 10: the same assignment where the labels of r0 and r1 cannot be compared
abbrev pub across_labels : List ℕ
across_labels =
    one_state
    (15 ∷ 10 ∷ 12 ∷ 8 ∷ [])
    (register_record 1 0 0 ∷ register_record 2 0 0 ∷ [])
    3
    (assigns 0 0 ∷ goes_to 1 ∷ sequences 1 2 ∷ [])
    (reads 1 ∷ [])

-- 10: (if r1 then r0 := 1 else r0 := 0); goto 1
abbrev pub secret_branch : List ℕ
secret_branch =
    one_state
    chain
    low_and_high
    5
    (assigns 0 1 ∷ assigns 0 2 ∷ branches 0 1 2 ∷ goes_to 1 ∷ sequences 3 4 ∷ [])
    (reads 1 ∷ constant 1 ∷ constant 0 ∷ [])

-- 10: document 004, figure 2(a): the states 2 and 3 of label 1 count the timer r0 down: r0 := r0 - 1; if r0 then goto the other else goto 1
abbrev pub flat_lease : List ℕ
flat_lease =
    assemble
    chain
    (register_record 0 0 3 ∷ [])
    (state_record 0 0 0 ∷ state_record 0 0 3 ∷ state_record 0 1 8 ∷ state_record 0 1 13 ∷ [])
    (falls
    ∷ assigns 0 0
    ∷ goes_to 2
    ∷ sequences 1 2
    ∷ assigns 0 3
    ∷ goes_to 3
    ∷ goes_to 1
    ∷ branches 4 5 6
    ∷ sequences 4 7
    ∷ assigns 0 7
    ∷ goes_to 2
    ∷ goes_to 1
    ∷ branches 8 10 11
    ∷ sequences 9 12
    ∷ [])
    (constant 3 ∷ reads 0 ∷ constant 1 ∷ subtracts 1 2 ∷ reads 0 ∷ reads 0 ∷ constant 1 ∷ subtracts 5 6 ∷ reads 0 ∷ [])

-- 11: if r1 then goto 1 else goto 2, states 1 and 2 with label 0
abbrev pub secret_gotos : List ℕ
secret_gotos =
    assemble
    chain
    low_and_high
    (state_record 0 0 0 ∷ state_record 0 0 3 ∷ state_record 0 0 4 ∷ [])
    (falls ∷ goes_to 1 ∷ goes_to 2 ∷ branches 0 1 2 ∷ goes_to 1 ∷ [])
    (reads 1 ∷ [])

-- 11 at command 1, 10 at command 4: r0 := r1; if r1 then goto 1 else goto 1
abbrev pub goto_below_assign : List ℕ
goto_below_assign =
    one_state
    chain
    low_and_high
    5
    (goes_to 1 ∷ goes_to 1 ∷ branches 0 1 2 ∷ assigns 0 1 ∷ sequences 4 3 ∷ [])
    (reads 1 ∷ reads 1 ∷ [])

-- 12: if r1 then fall else fall, in state 1 with label 0
abbrev pub secret_falls : List ℕ
secret_falls =
    assemble
    chain
    low_and_high
    (state_record 0 0 0 ∷ state_record 0 0 3 ∷ state_record 1 0 4 ∷ [])
    (falls ∷ falls ∷ falls ∷ branches 0 1 2 ∷ goes_to 2 ∷ [])
    (reads 1 ∷ [])

-- 12: if r1 then fall else goto 2, in state 1 with label 0; state 2 has label 1
abbrev pub fall_or_goto : List ℕ
fall_or_goto =
    assemble
    chain
    low_and_high
    (state_record 0 0 0 ∷ state_record 0 0 3 ∷ state_record 0 1 4 ∷ state_record 1 1 5 ∷ [])
    (falls ∷ falls ∷ goes_to 2 ∷ branches 0 1 2 ∷ goes_to 2 ∷ goes_to 3 ∷ [])
    (reads 1 ∷ [])

-- A design with a spare child. The group, state 1, has label 1: if r1 then fall else goto 1. Its default child 2 has label 1, and the spare child 3 has label 0: r0 := 1; goto 3.
abbrev pub spare : List ℕ
spare =
    assemble
    chain
    low_and_high
    (state_record 0 0 0 ∷ state_record 0 1 3 ∷ state_record 1 1 4 ∷ state_record 1 0 7 ∷ [])
    (falls ∷ falls ∷ goes_to 1 ∷ branches 0 1 2 ∷ goes_to 2 ∷ assigns 0 1 ∷ goes_to 3 ∷ sequences 5 6 ∷ [])
    (reads 1 ∷ constant 1 ∷ [])
