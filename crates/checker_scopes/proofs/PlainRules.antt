-- In a plain design refusals 16 and 19 find nothing: no state has anything to keep, no command assigns or gives a port, a name is a register's, and no argument is given
-- or asked for.
use Rattle.std.specs.Prelude.{None}
use Prim.Native.Nat.{ℕ, zero, suc, ◌+◌, ◌≤◌, ◌<◌}
use mathlib.Core.Path.{◌≡◌, refl, sym, ◌∙◌, ap}
use mathlib.Core.Bool.{Bool, true, false, ◌&&◌, not, or-true}
use mathlib.Core.List.{List}
use native.Mathlib.Omega.{arith}
use lib.Dec.{ltb, eqb}
use lib.ListN.{length}
use borrow.Author.Tests.{lt-ltb, le-ltb, ltb-true, eqb-true}
use Rattle.model.specs.Limits.{registers_max}
use Rattle.model.specs.Indices.{all_below, lowest_failing}
use Rattle.model.specs.Image.{Design as Table, Register, State, Node, design_of, state_at, command_at, expression_at}
use Rattle.model.specs.States.{is_port}
use Rattle.model.specs.Kinds.{CommandKind, skips, assigns, sequences, falls, goes, branches, unknown_command, ExpressionKind, constants, reads, unknown_expression, operates, command_kind, expression_kind}
use Rattle.model.specs.Ports.{field_spares_ports, spares_ports, names_no_port}
use Rattle.model.specs.Parameters.{takes_parameters, pair_kept, label_in_scope, parameters_kept}
use Rattle.model.specs.Trees.{expr_of, cmd_of, body_of}
use Rattle.model.specs.Scopes.{name_kept, field_kept, scope_fault}
use Rattle.model.specs.Rules.{ReadsScoped, Scoped, CommandHolds, ExpressionHolds}
use Rattle.model.proofs.Laws.Booleans.{and_first, and_second, and_both, or_first, cond_false}
use Rattle.model.proofs.Laws.Indices.{all_at, failing_nowhere}
use Rattle.model.proofs.Laws.Kinds.{kind_assigns, kind_goes}
use Rattle.model.proofs.Laws.Plain.{plain_scope}
use Rattle.model.proofs.Laws.Trees.{expr_constant, expr_register, expr_binary, cmd_skip, cmd_assign, cmd_sequence, cmd_fall, cmd_goto, cmd_branch}
use Rattle.model.proofs.Exact.Records.{state_iff, command_iff, expression_iff}
use Rattle.model.proofs.Exact.Scopes.{scope_iff}
use Rattle.design.specs.declared.Design.{Design}
use Rattle.design.specs.Records.{node_in, register_in, state_in}
use Rattle.design.specs.Describes.{Describes}
use Rattle.design.specs.Kept.{CommandsKept, ExpressionsKept, ParametersKept, RecordsKept}
use Rattle.design.specs.RecordsAt.{CommandAt}
use Rattle.design.specs.Scopes.{NoParameters}
use Rattle.design.proofs.Laws.{registers_count, register_in_lem, state_in_lem, expression_in, registers_few}
use Rattle.design.proofs.FieldRules.{command_at_lem, command_kind_is, command_kind_of, item_is, a_is, b_is}
use Rattle.checker_scopes.specs.Plain.{plain_state, is_inner, plain_as, plain_command, plain_expression, plain_design}

-- ---- a record as the code tests it
module _ {image : List ℕ} {x : Design} (d : Describes image x) where
  pub plain_state_rule :
      {s m a b c e l : ℕ}
      → s < x.states
      → m ≡ (state_in image x.states_at s).parameters
      → a ≡ (state_in image x.states_at s).first_lower
      → b ≡ (state_in image x.states_at s).first_upper
      → c ≡ (state_in image x.states_at s).second_lower
      → e ≡ (state_in image x.states_at s).second_upper
      → l ≡ (state_in image x.states_at s).label
      → (eqb (m + a + b + c + e) 0 && ltb l 16) ≡ plain_state (design_of image) s
  unfolding plain_state
  plain_state_rule here m a b c e l =
      let same = state_in_lem d here in
      rw (
        m ∙ ap (λ (y : State). y.parameters) same,
        a ∙ ap (λ (y : State). y.first_lower) same,
        b ∙ ap (λ (y : State). y.first_upper) same,
        c ∙ ap (λ (y : State). y.second_lower) same,
        e ∙ ap (λ (y : State). y.second_upper) same,
        l ∙ ap (λ (y : State). y.label) same,
      )

  pub inner_none : {r : ℕ} → x.registers ≤ r → false ≡ is_inner (design_of image) r
  unfolding is_inner
  inner_none {r} l = let count = registers_count d in rw (le-ltb r (length (design_of image).registers) (omega arith))

  pub inner_kind : {r k : ℕ} → r < x.registers → k ≡ (register_in image x.registers_at r).kind → not (eqb k 1) ≡ is_inner (design_of image) r
  unfolding is_inner
  inner_kind {r} l e = let count = registers_count d in rw (lt-ltb r (length (design_of image).registers) (omega arith), e ∙ ap (λ (y : Register). y.kind) (register_in_lem d l))

-- only an assignment and a goto are asked
unasked : (d : Table) (k : ℕ) (x : Node) → (k ≡ 1 → ⊥) → (k ≡ 4 → ⊥) → true ≡ plain_as d (command_kind k) x
unfolding plain_as command_kind
unasked d zero x one four = refl
unasked d (suc zero) x one four = absurd (one refl)
unasked d (suc (suc zero)) x one four = refl
unasked d (suc (suc (suc zero))) x one four = refl
unasked d (suc (suc (suc (suc zero)))) x one four = absurd (four refl)
unasked d (suc (suc (suc (suc (suc zero))))) x one four = refl
unasked d (suc (suc (suc (suc (suc (suc k)))))) x one four = refl

module _ {image : List ℕ} {x : Design} (known : RecordsKept image x) where
  module _ {n : ℕ} (l : n < x.commands) where
    here : CommandAt image x x.commands_at n
    here = command_at_lem known.describes known.commands l refl

    pub plain_assign : {k r : ℕ} {b : Bool} → k ≡ 1 → b ≡ is_inner (design_of image) r → k ≡ (node_in image x.commands_at n).kind → r ≡ (node_in image x.commands_at n).item
        → b ≡ plain_command (design_of image) n
    unfolding plain_command plain_as
    plain_assign q e k f = rw (e, command_kind_of here assigns q k (kind_assigns refl), item_is here f)

    pub plain_goto : {k a b : ℕ} → k ≡ 4 → k ≡ (node_in image x.commands_at n).kind → a ≡ (node_in image x.commands_at n).a → b ≡ (node_in image x.commands_at n).b
        → (eqb a 0 && eqb b 0) ≡ plain_command (design_of image) n
    unfolding plain_command plain_as
    plain_goto q k a b = rw (command_kind_of here goes q k (kind_goes refl), a_is here a, b_is here b)

    pub plain_other : {k : ℕ} → (k ≡ 1 → ⊥) → (k ≡ 4 → ⊥) → k ≡ (node_in image x.commands_at n).kind → true ≡ plain_command (design_of image) n
    unfolding plain_command
    plain_other {k} one four p = rw (command_kind_is here {k = k} {m = k} refl p) (unasked (design_of image) k (command_at (design_of image) n) one four)

  pub plain_expression_rule : {e r : ℕ} → e < x.expressions → r ≡ (node_in image x.expressions_at e).item → ltb r 64 ≡ plain_expression (design_of image) e
  unfolding plain_expression
  plain_expression_rule l r = rw (r ∙ ap (λ (y : Node). y.item) (expression_in known.describes l))

-- ---- the tests of all states, commands and expressions, one after the other
module _ (d : Table) {a : Bool} (is : a ≡ all_below (plain_state d) (length d.states)) where
  pub plain_states_fail : a ≡ false → false ≡ plain_design d
  unfolding plain_design
  plain_states_fail h = rw (← is, h)

  pub plain_commands_fail : {b : Bool} → b ≡ all_below (plain_command d) (length d.commands) → a ≡ true → b ≡ false → false ≡ plain_design d
  unfolding plain_design
  plain_commands_fail e n h = rw (← is, ← e, n, h)

  pub plain_all : {b c : Bool} → b ≡ all_below (plain_command d) (length d.commands) → c ≡ all_below (plain_expression d) (length d.expressions) → a ≡ true → b ≡ true → c ≡ plain_design d
  unfolding plain_design
  plain_all eb ec n h = rw (← is, ← eb, ← ec, n, h)

-- ---- a plain design
module _ (d : Table) (plain : plain_design d ≡ true) where
  parts : (all_below (plain_state d) (length d.states) ≡ true) × (all_below (plain_command d) (length d.commands) ≡ true) × (all_below (plain_expression d) (length d.expressions) ≡ true)
  unfolding plain_design
  parts =
      let states = all_below (plain_state d) (length d.states) in
      let commands = all_below (plain_command d) (length d.commands) in
      let expressions = all_below (plain_expression d) (length d.expressions) in
      let both = and_second states (commands && expressions) plain in
      (and_first states (commands && expressions) plain, and_first commands expressions both, and_second commands expressions both)

  module _ (s : ℕ) (l : s < length d.states) where
    declared : ℕ
    declared = (state_at d s).parameters + (state_at d s).first_lower + (state_at d s).first_upper + (state_at d s).second_lower + (state_at d s).second_upper

    state_tests : (eqb declared 0 && ltb (state_at d s).label 16) ≡ true
    unfolding plain_state declared
    state_tests = all_at (plain_state d) (length d.states) parts.0 s l

    nothing_declared : declared ≡ 0
    nothing_declared = eqb-true declared 0 (and_first (eqb declared 0) (ltb (state_at d s).label 16) state_tests)

    plain_state_lem : (state_at d s).parameters ≡ 0
    unfolding declared
    plain_state_lem = let none = nothing_declared in omega arith

    plain_label : ltb (state_at d s).label 16 ≡ true
    plain_label = and_second (eqb declared 0) (ltb (state_at d s).label 16) state_tests

  -- ---- states
  state_kept_lem : (s : ℕ) → s < length d.states → parameters_kept d s ≡ true
  unfolding parameters_kept pair_kept label_in_scope declared
  state_kept_lem s l =
      let none = nothing_declared s l in
      let first_lower : (state_at d s).first_lower ≡ 0 = omega arith in
      let first_upper : (state_at d s).first_upper ≡ 0 = omega arith in
      let second_lower : (state_at d s).second_lower ≡ 0 = omega arith in
      let second_upper : (state_at d s).second_upper ≡ 0 = omega arith in
      rw (plain_state_lem s l, first_lower, first_upper, second_lower, second_upper, plain_scope d plain_state_lem s, or-true (takes_parameters d s), plain_label s l) refl

  -- ---- ports
  module _ (commands : CommandsKept d) where
    spared : (t j r : ℕ) → t < length d.states → field_spares_ports d t j r ≡ true
    unfolding field_spares_ports
    spared t j r below = rw (plain_state_lem t below, le-ltb j 0 (omega arith)) refl

    no_port : (n : ℕ) → n < length d.commands → names_no_port d n ≡ true
    unfolding names_no_port spares_ports plain_command plain_as is_inner
    no_port n l = go (command_kind (command_at d n).kind) refl (all_at (plain_command d) (length d.commands) parts.1 n l) ((command_iff d n).0 (commands.kept n l))
      where
        go : (c : CommandKind) → command_kind (command_at d n).kind ≡ c → plain_command d n ≡ true → CommandHolds d n (command_kind (command_at d n).kind) (command_at d n) → spares_ports d (command_kind (command_at d n).kind) (command_at d n) ≡ true
        go skips k test holds = rw k refl
        go assigns k test holds = rw k (and_second (ltb (command_at d n).item (length d.registers)) (not (is_port d (command_at d n).item)) (rw k at test))
        go sequences k test holds = rw k refl
        go falls k test holds = rw k refl
        go goes k test holds =
            let fields = rw k at holds in
            rw k
            (and_both
            (field_spares_ports d (command_at d n).item 0 (command_at d n).a)
            (field_spares_ports d (command_at d n).item 1 (command_at d n).b)
            (spared (command_at d n).item 0 (command_at d n).a fields.0)
            (spared (command_at d n).item 1 (command_at d n).b fields.0))
        go branches k test holds = rw k refl
        go unknown_command k test holds = rw k refl

  -- ---- bodies
  module _ (few : length d.registers ≤ registers_max) (commands : CommandsKept d) (expressions : ExpressionsKept d) (s : ℕ) where
    plain_read_lem : (e : ℕ) → e < length d.expressions → ltb (expression_at d e).item 64 ≡ true
    unfolding plain_expression
    plain_read_lem e l = all_at (plain_expression d) (length d.expressions) parts.2 e l

    command_test : (n : ℕ) → n < length d.commands → (c : CommandKind) → command_kind (command_at d n).kind ≡ c → plain_as d c (command_at d n) ≡ true
    unfolding plain_command
    command_test n l c k = rw k at (all_at (plain_command d) (length d.commands) parts.1 n l)

    assigned : (n : ℕ) → n < length d.commands → command_kind (command_at d n).kind ≡ assigns → is_inner d (command_at d n).item ≡ true
    unfolding plain_as
    assigned n l k = command_test n l assigns k

    none_given : (n : ℕ) → n < length d.commands → command_kind (command_at d n).kind ≡ goes → (eqb (command_at d n).a 0 && eqb (command_at d n).b 0) ≡ true
    unfolding plain_as
    none_given n l k = command_test n l goes k

    register_kept_lem : (r : ℕ) → ltb r 64 ≡ true → name_kept d s r ≡ true
    unfolding name_kept
    register_kept_lem r h = or_first (ltb r 64) _ h

    inner_kept : (r : ℕ) → is_inner d r ≡ true → name_kept d s r ≡ true
    unfolding is_inner
    inner_kept r h =
        let below = ltb-true r (length d.registers) (and_first (ltb r (length d.registers)) (not (is_port d r)) h) in
        register_kept_lem r (lt-ltb r 64 (omega arith))

    no_argument : (t j r : ℕ) → t < length d.states → eqb r 0 ≡ true → field_kept d s t j r ≡ true
    unfolding field_kept
    no_argument t j r l h = let none = plain_state_lem t l in cond_false (ltb j (state_at d t).parameters) _ (eqb r 0) (le-ltb j (state_at d t).parameters (omega arith)) ∙ h

    reads_scoped : (m e : ℕ) → e < m → e < length d.expressions → ReadsScoped d s (expr_of d e)
    reads_scoped zero e l h = absurd (omega arith)
    reads_scoped (suc m) e l h = go (expression_kind (expression_at d e).kind) refl ((expression_iff d e).0 (expressions.kept e h)) (λ a b. reads_scoped m a (omega arith) (omega arith))
      where
        go : (c : ExpressionKind) → expression_kind (expression_at d e).kind ≡ c → ExpressionHolds d e (expression_kind (expression_at d e).kind) (expression_at d e) → ((a : ℕ) → a < e → ReadsScoped d s (expr_of d a)) → ReadsScoped d s (expr_of d e)
        go constants k holds part = rw (expr_constant d e k) tt
        go reads k holds part = rw (expr_register d e k) (register_kept_lem (expression_at d e).item (plain_read_lem e h))
        go (operates o) k holds part = let parts = rw k at holds in rw (expr_binary d e k parts.1 parts.2) (part (expression_at d e).a parts.1, part (expression_at d e).b parts.2)
        go unknown_expression k holds part = absurd (rw k at holds)

    commands_scoped : (m n : ℕ) → n < m → n < length d.commands → Scoped d s (cmd_of d n)
    commands_scoped zero n l h = absurd (omega arith)
    commands_scoped (suc m) n l h = go (command_kind (command_at d n).kind) refl ((command_iff d n).0 (commands.kept n h)) (λ a b. commands_scoped m a (omega arith) (omega arith))
      where
        read : (e : ℕ) → e < length d.expressions → ReadsScoped d s (expr_of d e)
        read e l = reads_scoped (suc e) e (omega arith) l

        go : (c : CommandKind) → command_kind (command_at d n).kind ≡ c → CommandHolds d n (command_kind (command_at d n).kind) (command_at d n) → ((a : ℕ) → a < n → Scoped d s (cmd_of d a)) → Scoped d s (cmd_of d n)
        go skips k holds part = rw (cmd_skip d n k) tt
        go assigns k holds part = let parts = rw k at holds in rw (cmd_assign d n k) (inner_kept (command_at d n).item (assigned n h k), read (command_at d n).a parts.1)
        go sequences k holds part = let parts = rw k at holds in rw (cmd_sequence d n k parts.1 parts.2) (part (command_at d n).a parts.1, part (command_at d n).b parts.2)
        go falls k holds part = rw (cmd_fall d n k) tt
        go goes k holds part =
            let parts = rw k at holds in
            let zero-fields = none_given n h k in
            rw (cmd_goto d n k)
            (and_both
            (field_kept d s (command_at d n).item 0 (command_at d n).a)
            (field_kept d s (command_at d n).item 1 (command_at d n).b)
            (no_argument (command_at d n).item 0 (command_at d n).a parts.0 (and_first (eqb (command_at d n).a 0) (eqb (command_at d n).b 0) zero-fields))
            (no_argument (command_at d n).item 1 (command_at d n).b parts.0 (and_second (eqb (command_at d n).a 0) (eqb (command_at d n).b 0) zero-fields)))
        go branches k holds part = let parts = rw k at holds in rw (cmd_branch d n k parts.2 parts.3) (read (command_at d n).a parts.1, part (command_at d n).b parts.2, part (command_at d n).c parts.3)
        go unknown_command k holds part = absurd (rw k at holds)

-- ---- what the passes would find
module _ {image : List ℕ} {x : Design} {b : Bool} (known : RecordsKept image x) (e : b ≡ plain_design (design_of image)) (h : b ≡ true) where
  pub plain_ports : lowest_failing (names_no_port (design_of image)) (length (design_of image).commands) ≡ None
  plain_ports = failing_nowhere (names_no_port (design_of image)) (length (design_of image).commands) (no_port (design_of image) (sym e ∙ h) known.commands)

  pub plain_parameters : lowest_failing (parameters_kept (design_of image)) (length (design_of image).states) ≡ None
  plain_parameters = failing_nowhere (parameters_kept (design_of image)) (length (design_of image).states) (state_kept_lem (design_of image) (sym e ∙ h))

  pub plain_scopes : scope_fault (design_of image) ≡ None
  unfolding body_of
  plain_scopes =
      let d = design_of image in
      (scope_iff d).1 (λ s l. let below = ((state_iff d s).0 (known.states.kept s l)).command in commands_scoped d (sym e ∙ h) (registers_few known.describes) known.commands known.expressions s (suc (state_at d s).command) (state_at d s).command (omega arith) below)

  pub plain_known : ParametersKept (design_of image)
  plain_known = record { kept = state_kept_lem (design_of image) (sym e ∙ h) }

  pub plain_none : NoParameters (design_of image)
  plain_none = record { none = plain_state_lem (design_of image) (sym e ∙ h) }

pub ruleset plain_command_laws = (plain_assign, plain_goto, plain_other)
