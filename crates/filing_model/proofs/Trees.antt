-- Trees written out as nodes, behind the nodes that are written already: parts first, first part first, the whole last. A node then numbers a part by the last place that was
-- taken when the part was written, and the numbers that a tree carries are not looked at.
use Prim.Native.Nat.{ℕ, zero, suc, ◌-◌, ◌/◌, ◌%◌, ◌<◌}
use mathlib.Core.Path.{◌≡◌, refl, sym, ◌∙◌, ap}
use mathlib.Core.List.{List, [], ◌∷◌, ◌++◌}
use native.Mathlib.Omega.{arith}
use lib.ListN.{length}
use Rattle.model.specs.Image.{Node, Design}
use Rattle.model.specs.Kinds.{Operation, add, subtract, bitwise_and, bitwise_or, bitwise_xor, equal, less, signed_less, arithmetic_shift, signed_division, ExpressionKind, constants, reads, unknown_expression, operates, command_kind, expression_kind}
use Rattle.model.specs.Trees.{Expr, constant, register, binary, Cmd, skip, assign, sequence, fall, goto, branch}
use Rattle.model.specs.Rules.{ExpressionHolds, CommandHolds}
use Rattle.model.specs.Neighbours.{unnumbered_expr, unnumbered}
use Rattle.model.proofs.Laws.Kinds.{command_number}

-- ---- the number of a kind
abbrev pub operation_number : Operation → ℕ
operation_number add = 2
operation_number subtract = 3
operation_number bitwise_and = 4
operation_number bitwise_or = 5
operation_number bitwise_xor = 6
operation_number equal = 7
operation_number less = 8
operation_number signed_less = 9
operation_number arithmetic_shift = 10
operation_number signed_division = 11

-- 12 where there is none
abbrev pub expression_number : ExpressionKind → ℕ
expression_number constants = 0
expression_number reads = 1
expression_number unknown_expression = 12
expression_number (operates o) = operation_number o

-- a kept node has the number of its kind
pub expression_number_lem : (d : Design) (e : ℕ) (x : Node) (k : ℕ) → ExpressionHolds d e (expression_kind k) x → k ≡ expression_number (expression_kind k)
unfolding expression_kind
expression_number_lem d e x zero h = refl
expression_number_lem d e x (suc zero) h = refl
expression_number_lem d e x (suc (suc zero)) h = refl
expression_number_lem d e x (suc (suc (suc zero))) h = refl
expression_number_lem d e x (suc (suc (suc (suc zero)))) h = refl
expression_number_lem d e x (suc (suc (suc (suc (suc zero))))) h = refl
expression_number_lem d e x (suc (suc (suc (suc (suc (suc zero)))))) h = refl
expression_number_lem d e x (suc (suc (suc (suc (suc (suc (suc zero))))))) h = refl
expression_number_lem d e x (suc (suc (suc (suc (suc (suc (suc (suc zero)))))))) h = refl
expression_number_lem d e x (suc (suc (suc (suc (suc (suc (suc (suc (suc zero))))))))) h = refl
expression_number_lem d e x (suc (suc (suc (suc (suc (suc (suc (suc (suc (suc zero)))))))))) h = refl
expression_number_lem d e x (suc (suc (suc (suc (suc (suc (suc (suc (suc (suc (suc zero))))))))))) h = refl
expression_number_lem d e x (suc (suc (suc (suc (suc (suc (suc (suc (suc (suc (suc (suc k)))))))))))) h = absurd h

pub command_number_lem : (d : Design) (n : ℕ) (x : Node) (k : ℕ) → CommandHolds d n (command_kind k) x → k ≡ command_number (command_kind k)
unfolding command_kind
command_number_lem d n x zero h = refl
command_number_lem d n x (suc zero) h = refl
command_number_lem d n x (suc (suc zero)) h = refl
command_number_lem d n x (suc (suc (suc zero))) h = refl
command_number_lem d n x (suc (suc (suc (suc zero)))) h = refl
command_number_lem d n x (suc (suc (suc (suc (suc zero))))) h = refl
command_number_lem d n x (suc (suc (suc (suc (suc (suc k)))))) h = absurd h

-- ---- trees written out
abbrev pub node : ℕ → ℕ → ℕ → ℕ → ℕ → Node
node kind item a b c = record { kind = kind; item = item; a = a; b = b; c = c }

-- the number of the node that was written last
abbrev pub latest : List Node → ℕ
latest nodes = length nodes - 1

unfoldable pub expr_written : List Node → Expr → List Node
expr_written before (constant v) = before ++ (node 0 0 0 (v % 65536) (v / 65536) ∷ [])
expr_written before (register n r) = before ++ (node 1 r 0 0 0 ∷ [])
expr_written before (binary o p q) =
    let first = expr_written before p in
    let second = expr_written first q in
    second ++ (node (operation_number o) 0 (latest first) (latest second) 0 ∷ [])

-- nodes of both families
pub record Nodes : Type 0 where
  pub commands : List Node
  pub values : List Node

-- one more command, with the expressions up to its own
abbrev pub behind : Nodes → List Node → Node → Nodes
behind before values x = record { commands = before.commands ++ (x ∷ []); values = values }

-- a branch, with the nodes up to each of its parts and its condition's
abbrev pub branch_behind : Nodes → Nodes → List Node → Nodes
branch_behind first second values = behind second values (node 5 0 (latest values) (latest first.commands) (latest second.commands))

unfoldable pub cmd_written : Nodes → Cmd → Nodes
cmd_written before (skip n) = behind before before.values (node 0 0 0 0 0)
cmd_written before (assign n r e) = let values = expr_written before.values e in behind before values (node 1 r (latest values) 0 0)
cmd_written before (sequence n p q) =
    let first = cmd_written before p in
    let second = cmd_written first q in
    behind second second.values (node 2 0 (latest first.commands) (latest second.commands) 0)
cmd_written before (fall n) = behind before before.values (node 3 0 0 0 0)
cmd_written before (goto n t a b) = behind before before.values (node 4 t a b 0)
cmd_written before (branch n e p q) =
    let first = cmd_written before p in
    let second = cmd_written first q in
    branch_behind first second (expr_written second.values e)

-- the bodies of the first n states
unfoldable pub bodies_written : (ℕ → Cmd) → ℕ → Nodes
bodies_written body zero = record { commands = []; values = [] }
bodies_written body (suc n) = cmd_written (bodies_written body n) (body n)

-- ---- numbers are not looked at
expr_alike : (before : List Node) (e : Expr) → expr_written before (unnumbered_expr e) ≡ expr_written before e
unfolding expr_written unnumbered_expr
expr_alike before (constant v) = refl
expr_alike before (register n r) = refl
expr_alike before (binary o p q) = rw (expr_alike before p, expr_alike (expr_written before p) q)

cmd_alike : (before : Nodes) (c : Cmd) → cmd_written before (unnumbered c) ≡ cmd_written before c
unfolding cmd_written unnumbered
cmd_alike before (skip n) = refl
cmd_alike before (assign n r e) = rw (expr_alike before.values e)
cmd_alike before (sequence n p q) = rw (cmd_alike before p, cmd_alike (cmd_written before p) q)
cmd_alike before (fall n) = refl
cmd_alike before (goto n t a b) = refl
cmd_alike before (branch n e p q) = rw (cmd_alike before p, cmd_alike (cmd_written before p) q, expr_alike (cmd_written (cmd_written before p) q).values e)

pub bodies_alike : (body other : ℕ → Cmd) (n : ℕ) → ((s : ℕ) → s < n → unnumbered (body s) ≡ unnumbered (other s)) → bodies_written body n ≡ bodies_written other n
unfolding bodies_written
bodies_alike body other zero same = refl
bodies_alike body other (suc n) same =
    ap (λ (before : Nodes). cmd_written before (body n)) (bodies_alike body other n (λ s l. same s (omega arith)))
    ∙ sym (cmd_alike (bodies_written other n) (body n))
    ∙ ap (cmd_written (bodies_written other n)) (same n (omega arith))
    ∙ cmd_alike (bodies_written other n) (other n)
