-- A design under new numbers fits an image where the old one does: it has no more records, and its fields fit where new numbers do.
use Prim.Native.Nat.{ℕ, ◌<◌}
use mathlib.Core.Path.{◌≡◌, ap, subst}
use native.Mathlib.Omega.{arith}
use lib.ListN.{length}
use Rattle.model.specs.Image.{Design, Node, state_at, command_at, expression_at}
use Rattle.model.specs.Kinds.{CommandKind, skips, assigns, sequences, falls, goes, branches, unknown_command, ExpressionKind, constants, reads, unknown_expression, operates, command_kind, expression_kind}
use Rattle.encoding.specs.Encodable.{WithinLimits, StateFits, NodeFits, Encodable}
use Rattle.renumbering.specs.Renumbering.{renumbered_state, renumbered_command, renumbered_expression}
use Rattle.renumbering.specs.Renumbers.{Renumbers}

-- new numbers fit their fields where the old ones do
pub record NumbersFit (state command expression : ℕ → ℕ) : Type 0 where
  pub states : (n : ℕ) → n < 256 → state n < 256
  pub commands : (n : ℕ) → n < 65536 → command n < 65536
  pub expressions : (n : ℕ) → n < 65536 → expression n < 65536

module _ {state command expression : ℕ → ℕ} (numbers : NumbersFit state command expression) where
  command_fits : (k : CommandKind) (x : Node) → NodeFits x → NodeFits (renumbered_command state command expression k x)
  unfolding renumbered_command
  command_fits skips x fit = fit
  command_fits assigns x fit = record { kind = fit.kind; item = fit.item; a = numbers.expressions x.a fit.a; b = fit.b; c = fit.c }
  command_fits sequences x fit =
      record { kind = fit.kind; item = fit.item; a = numbers.commands x.a fit.a; b = numbers.commands x.b fit.b; c = fit.c }
  command_fits falls x fit = fit
  command_fits goes x fit = record { kind = fit.kind; item = numbers.states x.item fit.item; a = fit.a; b = fit.b; c = fit.c }
  command_fits branches x fit =
      record {
        kind = fit.kind;
        item = fit.item;
        a = numbers.expressions x.a fit.a;
        b = numbers.commands x.b fit.b;
        c = numbers.commands x.c fit.c;
      }
  command_fits unknown_command x fit = fit

  expression_fits : (k : ExpressionKind) (x : Node) → NodeFits x → NodeFits (renumbered_expression state command expression k x)
  unfolding renumbered_expression
  expression_fits constants x fit = fit
  expression_fits reads x fit = fit
  expression_fits (operates o) x fit =
      record { kind = fit.kind; item = fit.item; a = numbers.expressions x.a fit.a; b = numbers.expressions x.b fit.b; c = fit.c }
  expression_fits unknown_expression x fit = fit

module _ {d d' : Design} {state command expression : ℕ → ℕ} {S C E : ℕ → Type 0} (new : Renumbers d d' state command expression S C E) where
  pub renumbered_limits : WithinLimits d → WithinLimits d'
  renumbered_limits limits =
      let rows : length d'.rows ≡ length d.rows = ap length new.rows in
      let registers : length d'.registers ≡ length d.registers = ap length new.registers in
      let root : state 0 < length d'.states = new.states_new 0 new.root_stays in
      let states = new.states_fewer in
      let commands = new.commands_fewer in
      let expressions = new.expressions_fewer in
      let states_most = limits.states_most in
      let commands_most = limits.commands_most in
      let expressions_most = limits.expressions_most in
      record {
        labels_least = rw rows limits.labels_least;
        labels_most = rw rows limits.labels_most;
        registers_most = rw registers limits.registers_most;
        states_least = omega arith;
        states_most = omega arith;
        commands_most = omega arith;
        expressions_most = omega arith;
      }

  module _ (numbers : NumbersFit state command expression) (fits : Encodable d) where
    state_fits : (s : ℕ) → S s → StateFits (state_at d' (state s))
    unfolding renumbered_state
    state_fits s stays =
        let fit = fits.states s (new.states_old s stays) in
        rw (new.state_is s stays) (record {
          parent = numbers.states (state_at d s).parent fit.parent;
          label = fit.label;
          command = numbers.commands (state_at d s).command fit.command;
          parameters = fit.parameters;
          first_lower = fit.first_lower;
          first_upper = fit.first_upper;
          second_lower = fit.second_lower;
          second_upper = fit.second_upper;
        })

    node_fits : (n : ℕ) → C n → NodeFits (command_at d' (command n))
    node_fits n stays = rw (new.command_is n stays) (command_fits numbers (command_kind (command_at d n).kind) (command_at d n) (fits.commands n (new.commands_old n stays)))

    value_fits : (e : ℕ) → E e → NodeFits (expression_at d' (expression e))
    value_fits e stays = rw (new.expression_is e stays) (expression_fits numbers (expression_kind (expression_at d e).kind) (expression_at d e) (fits.expressions e (new.expressions_old e stays)))

    pub renumbered_encodable : Encodable d'
    renumbered_encodable =
        record {
          rows = rw new.rows fits.rows;
          registers = rw new.registers fits.registers;
          states = λ t l. let (s, stays, e) = new.states_all t l in subst (λ (k : ℕ). StateFits (state_at d' k)) e (state_fits s stays);
          commands = λ m l. let (n, stays, e) = new.commands_all m l in subst (λ (k : ℕ). NodeFits (command_at d' k)) e (node_fits n stays);
          expressions = λ m l. let (n, stays, e) = new.expressions_all m l in subst (λ (k : ℕ). NodeFits (expression_at d' k)) e (value_fits n stays);
        }
