-- Laws of the kinds by their numbers: the kind of a number, which numbers have none, and the number of a kind.
use Prim.Native.Nat.{ℕ, zero, suc, min, ◌≤◌, ◌<◌}
use mathlib.Core.Path.{◌≡◌, refl, ap, ◌∙◌, sym}
use mathlib.Core.List.{[], ◌∷◌}
use native.Mathlib.Omega.{arith}
use lib.ListN.{get_or-eq_default}
use Rattle.model.specs.Kinds.{CommandKind, ExpressionKind, Operation, add, subtract, bitwise_and, bitwise_or, bitwise_xor, equal, less, signed_less, arithmetic_shift, signed_division, skips, assigns, sequences, falls, goes, branches, unknown_command, constants, reads, unknown_expression, operates, command_kind, expression_kind}

-- ---- commands
pub kind_skips : {k : ℕ} → k ≡ 0 → command_kind k ≡ skips
unfolding command_kind
kind_skips e = rw e

pub kind_assigns : {k : ℕ} → k ≡ 1 → command_kind k ≡ assigns
unfolding command_kind
kind_assigns e = rw e

pub kind_sequences : {k : ℕ} → k ≡ 2 → command_kind k ≡ sequences
unfolding command_kind
kind_sequences e = rw e

pub kind_falls : {k : ℕ} → k ≡ 3 → command_kind k ≡ falls
unfolding command_kind
kind_falls e = rw e

pub kind_goes : {k : ℕ} → k ≡ 4 → command_kind k ≡ goes
unfolding command_kind
kind_goes e = rw e

pub kind_branches : {k : ℕ} → k ≡ 5 → command_kind k ≡ branches
unfolding command_kind
kind_branches e = rw e

pub no_command_kind : {k : ℕ} → 6 ≤ k → command_kind k ≡ unknown_command
unfolding command_kind
no_command_kind l = get_or-eq_default (skips ∷ assigns ∷ sequences ∷ falls ∷ goes ∷ branches ∷ []) unknown_command l

-- the number of a kind, and 6 where there is none
abbrev pub command_number : CommandKind → ℕ
command_number skips = 0
command_number assigns = 1
command_number sequences = 2
command_number falls = 3
command_number goes = 4
command_number branches = 5
command_number unknown_command = 6

command_number_lem : (k : ℕ) → command_number (command_kind k) ≡ min k 6
unfolding command_kind
command_number_lem zero = refl
command_number_lem (suc zero) = refl
command_number_lem (suc (suc zero)) = refl
command_number_lem (suc (suc (suc zero))) = refl
command_number_lem (suc (suc (suc (suc zero)))) = refl
command_number_lem (suc (suc (suc (suc (suc zero))))) = refl
command_number_lem (suc (suc (suc (suc (suc (suc k)))))) = omega arith

pub assigns_number : (k : ℕ) → command_kind k ≡ assigns → k ≡ 1
assigns_number k e = let n = sym (ap command_number e) ∙ command_number_lem k in omega arith

pub sequences_number : (k : ℕ) → command_kind k ≡ sequences → k ≡ 2
sequences_number k e = let n = sym (ap command_number e) ∙ command_number_lem k in omega arith

pub branches_number : (k : ℕ) → command_kind k ≡ branches → k ≡ 5
branches_number k e = let n = sym (ap command_number e) ∙ command_number_lem k in omega arith

-- ---- expressions
-- the kinds of expressions are the numbers below this one
abbrev pub expression_kinds : ℕ
expression_kinds = 12

pub kind_constants : {k : ℕ} → k ≡ 0 → expression_kind k ≡ constants
unfolding expression_kind
kind_constants e = rw e

pub kind_reads : {k : ℕ} → k ≡ 1 → expression_kind k ≡ reads
unfolding expression_kind
kind_reads e = rw e

-- the operation of a number
operation : (k : ℕ) → (k ≡ 0 → ⊥) → (k ≡ 1 → ⊥) → k < expression_kinds → (o : Operation) × (expression_kind k ≡ operates o)
unfolding expression_kind
operation zero p q l = absurd (p refl)
operation (suc zero) p q l = absurd (q refl)
operation (suc (suc zero)) p q l = (add, refl)
operation (suc (suc (suc zero))) p q l = (subtract, refl)
operation (suc (suc (suc (suc zero)))) p q l = (bitwise_and, refl)
operation (suc (suc (suc (suc (suc zero))))) p q l = (bitwise_or, refl)
operation (suc (suc (suc (suc (suc (suc zero)))))) p q l = (bitwise_xor, refl)
operation (suc (suc (suc (suc (suc (suc (suc zero))))))) p q l = (equal, refl)
operation (suc (suc (suc (suc (suc (suc (suc (suc zero)))))))) p q l = (less, refl)
operation (suc (suc (suc (suc (suc (suc (suc (suc (suc zero))))))))) p q l = (signed_less, refl)
operation (suc (suc (suc (suc (suc (suc (suc (suc (suc (suc zero)))))))))) p q l = (arithmetic_shift, refl)
operation (suc (suc (suc (suc (suc (suc (suc (suc (suc (suc (suc zero))))))))))) p q l = (signed_division, refl)
operation (suc (suc (suc (suc (suc (suc (suc (suc (suc (suc (suc (suc k)))))))))))) p q l = absurd (omega arith)

pub kind_operates : {k : ℕ} → (k ≡ 0 → ⊥) → (k ≡ 1 → ⊥) → k < expression_kinds → (o : Operation) × (expression_kind k ≡ operates o)
kind_operates {k} p q l = operation k p q l

pub no_expression_kind : {k : ℕ} → expression_kinds ≤ k → expression_kind k ≡ unknown_expression
unfolding expression_kind
no_expression_kind l =
    get_or-eq_default
    (constants
    ∷ reads
    ∷ operates add
    ∷ operates subtract
    ∷ operates bitwise_and
    ∷ operates bitwise_or
    ∷ operates bitwise_xor
    ∷ operates equal
    ∷ operates less
    ∷ operates signed_less
    ∷ operates arithmetic_shift
    ∷ operates signed_division
    ∷ [])
    unknown_expression
    l

-- whether a kind is an operation, and which numbers are
abbrev is_operation : ExpressionKind → ℕ
is_operation constants = 0
is_operation reads = 0
is_operation unknown_expression = 0
is_operation (operates o) = 1

pub no_operation_above : {k : ℕ} → expression_kinds ≤ k → (o : Operation) → expression_kind k ≡ operates o → ⊥
no_operation_above l o e = let n = ap is_operation (sym (no_expression_kind l) ∙ e) in omega arith

pub no_operation_zero : {k : ℕ} → k ≡ 0 → (o : Operation) → expression_kind k ≡ operates o → ⊥
no_operation_zero l o e = let n = ap is_operation (sym (kind_constants l) ∙ e) in omega arith

pub no_operation_one : {k : ℕ} → k ≡ 1 → (o : Operation) → expression_kind k ≡ operates o → ⊥
no_operation_one l o e = let n = ap is_operation (sym (kind_reads l) ∙ e) in omega arith
