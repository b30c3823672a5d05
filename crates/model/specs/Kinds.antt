-- 01: the kinds of nodes, each at the number that 01 gives it, and refusal 5: what a node of each kind must hold.
use Rattle.std.specs.Prelude.{ℕ, ◌+◌, Bool, false, ◌&&◌, ◌||◌, [], ◌∷◌, leb, ltb, eqb, length, get_or}
use Rattle.model.specs.Limits.{parameter_register, binding_length}
use Rattle.model.specs.Image.{Design, Node, command_at, expression_at}

-- "Kinds 2 to 8 take two parts each, a and b: add, subtract, and, or, xor, equal, less."
-- 02, E3: "Expression kinds 9, 10 and 11 are signed less, arithmetic right shift and signed division .. Each takes two parts"
pub data Operation : Type 0 where
  add subtract bitwise_and bitwise_or bitwise_xor equal less signed_less arithmetic_shift signed_division : Operation

pub data CommandKind : Type 0 where
  skips assigns sequences falls goes branches unknown_command : CommandKind

pub data ExpressionKind : Type 0 where
  constants reads unknown_expression : ExpressionKind
  operates : Operation → ExpressionKind

-- "Command kinds: 0 skip; 1 assign; 2 sequence; 3 fall; 4 goto; 5 if"
unfoldable pub command_kind : ℕ → CommandKind
command_kind kind = get_or (skips ∷ assigns ∷ sequences ∷ falls ∷ goes ∷ branches ∷ []) kind unknown_command

-- "Expression kinds: 0 constant; 1 register. Kinds 2 to 8 ..", and since E3 kinds 9 to 11: "refusal 5 starts at kind 12"
unfoldable pub expression_kind : ℕ → ExpressionKind
expression_kind kind =
    get_or
    (constants
    ∷ reads
    ∷ operates add
    ∷ operates subtract
    ∷ operates bitwise_and
    ∷ operates bitwise_or
    ∷ operates bitwise_xor
    ∷ operates equal
    ∷ operates less
    ∷ operates signed_less
    ∷ operates arithmetic_shift
    ∷ operates signed_division
    ∷ [])
    kind
    unknown_expression

-- "Bytes a kind does not use are zero."
abbrev pub unused : ℕ → Bool
unused field = eqb field 0

-- Refusal 5: "node kind, unused byte, or part, register or state number". "A part of the same family has a number below its owner's."
module _ (d : Design) (n : ℕ) where
  -- a register's number, or one of the bytes that name a parameter (02, E8)
  abbrev pub is_register : ℕ → Bool
  is_register r = ltb r (length d.registers) || (leb parameter_register r && ltb r (parameter_register + binding_length))

  abbrev pub is_expression : ℕ → Bool
  is_expression e = ltb e (length d.expressions)

  abbrev pub is_state : ℕ → Bool
  is_state s = ltb s (length d.states)

  abbrev pub is_part : ℕ → Bool
  is_part m = ltb m n

  unfoldable pub command_holds : CommandKind → Node → Bool
  command_holds skips x = unused x.item && unused x.a && unused x.b && unused x.c
  command_holds assigns x = is_register x.item && is_expression x.a && unused x.b && unused x.c
  command_holds sequences x = unused x.item && is_part x.a && is_part x.b && unused x.c
  command_holds falls x = unused x.item && unused x.a && unused x.b && unused x.c
  -- 02, E8: "Goto fields a and b carry the arguments"; 16 and 19 judge them
  command_holds goes x = is_state x.item && unused x.c
  command_holds branches x = unused x.item && is_expression x.a && is_part x.b && is_part x.c
  command_holds unknown_command x = false

  unfoldable pub expression_holds : ExpressionKind → Node → Bool
  expression_holds constants x = unused x.item && unused x.a
  expression_holds reads x = is_register x.item && unused x.a && unused x.b && unused x.c
  expression_holds (operates o) x = unused x.item && is_part x.a && is_part x.b && unused x.c
  expression_holds unknown_expression x = false

  unfoldable pub command_kept : Bool
  command_kept = command_holds (command_kind (command_at d n).kind) (command_at d n)

  unfoldable pub expression_kept : Bool
  expression_kept = expression_holds (expression_kind (expression_at d n).kind) (expression_at d n)
