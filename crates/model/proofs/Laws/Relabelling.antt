-- A design without parameters keeps under other labels the rules behind refusals 2 to 9, 16 and 19: of these only refusal 3 reads a register's label there, and no
-- tree does.
use Prim.Native.Nat.{ℕ, zero, suc, ◌<◌}
use mathlib.Core.Path.{◌≡◌, refl, sym, ◌∙◌, ap}
use mathlib.Core.Logic.{inl, inr}
use mathlib.Core.List.{List, [], ◌∷◌, map}
use native.Mathlib.Omega.{arith}
use native.Mathlib.Decide.{dec_lt}
use lib.ListN.{length, get_or, length-map, get_or-eq_default}
use lib.Seq.{ext_get_or}
use Rattle.model.specs.Image.{Design, Register, Node, no_register, command_at, expression_at}
use Rattle.model.specs.Lattice.{register_label}
use Rattle.model.specs.States.{is_child, has_child, sibling_or_self}
use Rattle.model.specs.Kinds.{CommandKind, skips, assigns, sequences, falls, goes, branches, unknown_command, ExpressionKind, constants, reads, unknown_expression, operates, command_kind, expression_kind}
use Rattle.model.specs.Trees.{Expr, constant, register, binary, Cmd, skip, assign, sequence, fall, goto, branch, registers_read, expr_step, expr_of, cmd_step, cmd_of, body_of}
use Rattle.model.specs.Nodes.{command_uses, expression_uses}
use Rattle.model.specs.Parameters.{own_parameters, scope_of}
use Rattle.model.specs.Scopes.{name_kept}
use Rattle.model.specs.Flow.{labels_read}
use Rattle.model.specs.Labelling.{labels_of, with_labels, relabelled}
use Rattle.model.specs.Raising.{labels_read_by}
use Rattle.model.specs.Rules.{IsChoice, none_chosen, one_more, RegisterByte, CommandHolds, ExpressionHolds, ReadsScoped, Scoped, Shaped, StructureKeeps}
use Rattle.model.proofs.Laws.Labelling.{length-with_labels, relabelled_label, relabelled_kind, relabelled_reset, relabelled_width, relabelled_own}
use Rattle.model.proofs.Laws.Plain.{Plain, plain_read, plain_arguments, plain_reads}

-- ---- the labels of a design
pub length-labels : (d : Design) → length (labels_of d) ≡ length d.registers
unfolding labels_of
length-labels d = length-map d.registers (λ (r : Register). r.label)

-- past the end both read as 0
pub label_at : (d : Design) (r : ℕ) → get_or (labels_of d) r 0 ≡ register_label d r
unfolding labels_of
label_at d r = at d.registers r
  where
    at : (rs : List Register) (r : ℕ) → get_or (map (λ (x : Register). x.label) rs) r 0 ≡ (get_or rs r no_register).label
    at [] r = refl
    at (x ∷ rs) zero = refl
    at (x ∷ rs) (suc r) = at rs r

-- with its own labels a design is itself
pub relabelled_same : (d : Design) → relabelled d (labels_of d) ≡ d
relabelled_same d = relabelled_own d (labels_of d) (λ r l. label_at d r)

-- ---- labels for all registers of a design, each of them a label
pub record Labelled (d : Design) (labels : List ℕ) : Type 0 where
  pub enough : length labels ≡ length d.registers
  pub valid : (r : ℕ) → get_or labels r 0 < length d.rows

module _ (d : Design) (labels : List ℕ) (same : length labels ≡ length d.registers) where
  -- past the end both read as 0
  pub register_label_lem : (r : ℕ) → register_label (relabelled d labels) r ≡ get_or labels r 0
  register_label_lem r = go (dec_lt r (length d.registers))
    where
      go : Dec (r < length d.registers) → register_label (relabelled d labels) r ≡ get_or labels r 0
      go (yes l) = relabelled_label d labels r l (omega arith)
      go (no l) =
          let long = length-with_labels d.registers labels in
          ap (λ (x : Register). x.label) (get_or-eq_default (with_labels d.registers labels) no_register {n = r} (omega arith))
          ∙ sym (get_or-eq_default labels 0 {n = r} (omega arith))

  pub labels_relabelled : labels_of (relabelled d labels) ≡ labels
  labels_relabelled =
      let long : length (labels_of (relabelled d labels)) ≡ length labels = length-labels (relabelled d labels) ∙ length-with_labels d.registers labels ∙ sym same in
      ext_get_or 0 (labels_of (relabelled d labels)) labels long (λ r l. label_at (relabelled d labels) r ∙ register_label_lem r)

  -- the labels that an expression reads
  pub plain_labels_read : (e : Expr) → plain_read (relabelled d labels) e ≡ labels_read_by labels e
  unfolding labels_read_by
  plain_labels_read e = all (registers_read e)
    where
      all : (rs : List ℕ) → map (register_label (relabelled d labels)) rs ≡ map (λ r. get_or labels r 0) rs
      all [] = refl
      all (r ∷ rs) = rw (register_label_lem r, all rs)

-- ---- scopes: they read no register's record
module _ (d : Design) (labels : List ℕ) where
  pub relabelled_scope : (s : ℕ) → scope_of (relabelled d labels) s ≡ scope_of d s
  unfolding scope_of own_parameters
  relabelled_scope s = refl

  pub relabelled_name : (s r : ℕ) → name_kept (relabelled d labels) s r ≡ name_kept d s r
  unfolding name_kept scope_of own_parameters
  relabelled_name s r = refl

  pub reads_relabelled : (s : ℕ) (e : Expr) → ReadsScoped d s e → ReadsScoped (relabelled d labels) s e
  reads_relabelled s (constant v) h = h
  reads_relabelled s (register n r) h = relabelled_name s r ∙ h
  reads_relabelled s (binary o p q) h = (reads_relabelled s p h.0, reads_relabelled s q h.1)

  -- the labels that an expression reads, where no state has a parameter
  pub labels_read_lem : length labels ≡ length d.registers → Plain d → (s : ℕ) (e : Expr) → ReadsScoped d s e → labels_read (relabelled d labels) e ≡ labels_read_by labels e
  labels_read_lem same plain s e scoped = plain_reads (relabelled d labels) plain s e (reads_relabelled s e scoped) ∙ plain_labels_read d labels same e

  -- a label within bounds, and a choice
  relabelled_choice : (scope choice : List ℕ) → IsChoice (relabelled d labels) scope choice → IsChoice d scope choice
  relabelled_choice [] [] none_chosen = none_chosen
  relabelled_choice [] (label ∷ choice) c = elim c [ ]
  relabelled_choice (v ∷ scope) [] c = elim c [ ]
  relabelled_choice (v ∷ scope) (label ∷ choice) (one_more l within more) =
      one_more l (record { above = within.above; below = within.below }) (relabelled_choice scope choice more)

-- ---- the rules of structure
module _ (d : Design) (labels : List ℕ) where
  register_byte : (r : ℕ) → RegisterByte d r → RegisterByte (relabelled d labels) r
  register_byte r (inl l) = let same = length-with_labels d.registers labels in inl (omega arith)
  register_byte r (inr byte) = inr byte

  command_holds_lem : (n : ℕ) (kind : CommandKind) (x : Node) → CommandHolds d n kind x → CommandHolds (relabelled d labels) n kind x
  command_holds_lem n skips x h = h
  command_holds_lem n assigns x h = (register_byte x.item h.0, h.1, h.2, h.3)
  command_holds_lem n sequences x h = h
  command_holds_lem n falls x h = h
  command_holds_lem n goes x h = h
  command_holds_lem n branches x h = h
  command_holds_lem n unknown_command x h = h

  expression_holds_lem : (n : ℕ) (kind : ExpressionKind) (x : Node) → ExpressionHolds d n kind x → ExpressionHolds (relabelled d labels) n kind x
  expression_holds_lem n constants x h = h
  expression_holds_lem n reads x h = (register_byte x.item h.0, h.1, h.2, h.3)
  expression_holds_lem n (operates o) x h = h
  expression_holds_lem n unknown_expression x h = h

  shaped_same : (s : ℕ) (c : Cmd) → Shaped d s c → Shaped (relabelled d labels) s c
  unfolding is_child has_child sibling_or_self
  shaped_same s (skip n) h = h
  shaped_same s (assign n r e) h = h
  shaped_same s (sequence n p q) h = (h.0, shaped_same s p h.1, shaped_same s q h.2)
  shaped_same s (fall n) h = h
  shaped_same s (goto n t x y) h = h
  shaped_same s (branch n e p q) h = (h.0, shaped_same s p h.1, shaped_same s q h.2)

  -- without parameters, no goto has an argument whose label would count
  scoped_same : Plain d → (s : ℕ) (c : Cmd) → Scoped d s c → Scoped (relabelled d labels) s c
  scoped_same plain s (skip n) h = h
  scoped_same plain s (assign n r e) h = (relabelled_name d labels s r ∙ h.0, reads_relabelled d labels s e h.1)
  scoped_same plain s (sequence n p q) h = (scoped_same plain s p h.0, scoped_same plain s q h.1)
  scoped_same plain s (fall n) h = h
  scoped_same plain s (goto n t a b) h = plain_arguments (relabelled d labels) plain s t a b ∙ sym (plain_arguments d plain s t a b) ∙ h
  scoped_same plain s (branch n e p q) h = (reads_relabelled d labels s e h.0, scoped_same plain s p h.1, scoped_same plain s q h.2)

  pub structure_relabelled : Plain d → StructureKeeps d → Labelled d labels → StructureKeeps (relabelled d labels)
  unfolding is_child scope_of own_parameters expr_step expr_of cmd_step cmd_of body_of command_uses expression_uses
  structure_relabelled plain keeps own =
      let same = length-with_labels d.registers labels in
      record {
        lattice = keeps.lattice;
        registers = λ r l.
            let old = keeps.registers r (omega arith) in
            record {
              label = rw (register_label_lem d labels own.enough r) (own.valid r);
              kind = rw (relabelled_kind d labels r) old.kind;
              width_least = rw (relabelled_width d labels r) old.width_least;
              width_most = rw (relabelled_width d labels r) old.width_most;
              reset = rw (relabelled_reset d labels r, relabelled_width d labels r) old.reset;
            };
        states = λ s l.
            let old = keeps.states s l in
            record { root_parent = old.root_parent; root_label = old.root_label; parent_below = old.parent_below; label = old.label; command = old.command };
        commands = λ n l. command_holds_lem n (command_kind (command_at d n).kind) (command_at d n) (keeps.commands n l);
        expressions = λ n l. expression_holds_lem n (expression_kind (expression_at d n).kind) (expression_at d n) (keeps.expressions n l);
        commands_used = keeps.commands_used;
        expressions_used = keeps.expressions_used;
        commands_depth = keeps.commands_depth;
        expressions_depth = keeps.expressions_depth;
        transferring = keeps.transferring;
        shaped = λ s l. shaped_same s (body_of d s) (keeps.shaped s l);
        ports = λ n l.
            let old = keeps.ports n l in
            record {
              assigned = λ is port. old.assigned is (rw (relabelled_kind d labels (command_at d n).item) at port);
              first_argument = λ is used port. old.first_argument is used (rw (relabelled_kind d labels (command_at d n).a) at port);
              second_argument = λ is used port. old.second_argument is used (rw (relabelled_kind d labels (command_at d n).b) at port);
            };
        parameters = λ s l.
            let old = keeps.parameters s l in
            record {
              count = old.count;
              root_none = old.root_none;
              default_none = λ q child. plain s l;
              scope = old.scope;
              first_pair = λ used. let pair = old.first_pair used in record { lower_label = pair.lower_label; upper_label = pair.upper_label; flows = pair.flows };
              first_unused = λ unused. let pair = old.first_unused unused in record { lower_zero = pair.lower_zero; upper_zero = pair.upper_zero };
              second_pair = λ used. let pair = old.second_pair used in record { lower_label = pair.lower_label; upper_label = pair.upper_label; flows = pair.flows };
              second_unused = λ unused. let pair = old.second_unused unused in record { lower_zero = pair.lower_zero; upper_zero = pair.upper_zero };
              label = old.label;
            };
        scoped = λ s l. scoped_same plain s (body_of d s) (keeps.scoped s l);
        child_labels = λ q l s holds child choice chosen.
            keeps.child_labels q l s holds (record { child = child.child; lowest = child.lowest }) choice (relabelled_choice d labels (scope_of d q) choice chosen);
      }
