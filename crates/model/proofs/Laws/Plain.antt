-- Designs without parameters (02, E8): every scope is empty, so there is the one empty choice, every label byte is a label, and the rules of flow are those of
-- labels alone.
use Prim.Native.Nat.{ℕ, ◌+◌, ◌-◌, ◌≤◌, ◌<◌}
use mathlib.Core.Path.{◌≡◌, refl, sym, ◌∙◌, ap, ap₂}
use mathlib.Core.Logic.Iff
use mathlib.Core.Logic.{◌↔◌, ⊎_elim}
use mathlib.Core.Bool.{Bool, true, false, not, ◌&&◌}
use mathlib.Core.List.{List, [], ◌∷◌, ◌++◌, map, map-append}
use native.Mathlib.Omega.{arith}
use native.Mathlib.Decide.{dec_lt, ℕ_discrete}
use lib.Dec.{ltb, eqb}
use lib.ListN.{length, get_or-eq_default}
use borrow.Author.Tests.{lt-ltb}
use Rattle.model.specs.Limits.{parameter_register, parameter_label}
use Rattle.model.specs.Indices.{tabulate_from}
use Rattle.model.specs.Image.{Design, State, Register, no_register, state_at}
use Rattle.model.specs.Lattice.{all_flow_to, register_label, state_label}
use Rattle.model.specs.States.{parent}
use Rattle.model.specs.Parameters.{all_of, own_parameters, scope_of, has_parameters, choices, every_choice, label_byte, label_under}
use Rattle.model.specs.Scopes.{name_kept, field_kept, arguments_kept}
use Rattle.model.specs.Trees.{Expr, constant, register, binary, Cmd, skip, assign, sequence, fall, goto, branch, registers_read}
use Rattle.model.specs.Flow.{labels_read, named_label, flows_each}
use Rattle.model.specs.Rules.{ParameterLabel, ReadsScoped, Scoped, Flows, StructureKeeps}
use Rattle.model.proofs.Laws.Booleans.{cond_true}
use Rattle.model.proofs.Laws.Equivalences.{less_iff, equal_iff, refutes_iff, or_iff, some_iff}
use Rattle.model.proofs.Laws.Indices.{nothing_below_zero, recursively_all}
use Rattle.model.proofs.Laws.Joins.{AreLabels, labels_append}
use Rattle.model.proofs.Laws.Bounds.{under_label}

-- no state has a parameter
abbrev pub Plain : Design → Type 0
Plain d = (s : ℕ) → s < length d.states → (state_at d s).parameters ≡ 0

-- the labels of the registers that an expression reads, and the rules of flow by them
abbrev pub plain_read : Design → Expr → List ℕ
plain_read d e = map (register_label d) (registers_read e)

abbrev pub PlainFlows : Design → ℕ → List ℕ → Cmd → Type 0
PlainFlows d s context (skip n) = Unit {0}
PlainFlows d s context (assign n r e) = all_flow_to d.rows (context ++ plain_read d e) (register_label d r) ≡ true
PlainFlows d s context (sequence n p q) = PlainFlows d s context p × PlainFlows d s context q
PlainFlows d s context (fall n) = all_flow_to d.rows context (state_label d s) ≡ true
PlainFlows d s context (goto n t a b) = all_flow_to d.rows context (state_label d t) ≡ true
PlainFlows d s context (branch n e p q) = PlainFlows d s (context ++ plain_read d e) p × PlainFlows d s (context ++ plain_read d e) q

-- every register and every state has a label, and there are no more labels than label bytes below 16
pub record PlainLabels (d : Design) : Type 0 where
  pub plain : Plain d
  pub few : length d.rows ≤ parameter_label
  pub registers : (r : ℕ) → register_label d r < length d.rows
  pub states : (s : ℕ) → state_label d s < length d.rows

-- the test of raising
pub plain_iff : (d : Design) → (not (has_parameters d) ≡ true) ↔ Plain d
unfolding has_parameters
plain_iff d =
    Iff.trans
    (refutes_iff (some_iff {P = λ s. (state_at d s).parameters ≡ 0 → ⊥} (λ s. refutes_iff equal_iff)))
    (λ none s l. none_left s (λ more. none (s, l, more)), λ plain found. found.2 (plain found.0 found.1))
  where
    none_left : (s : ℕ) → (((state_at d s).parameters ≡ 0 → ⊥) → ⊥) → (state_at d s).parameters ≡ 0
    none_left s h = go (ℕ_discrete (state_at d s).parameters 0)
      where
        go : Dec ((state_at d s).parameters ≡ 0) → (state_at d s).parameters ≡ 0
        go (yes e) = e
        go (no other) = absurd (h other)

module _ (d : Design) (plain : Plain d) where
  -- past the last state there are none
  pub plain_at : (s : ℕ) → (state_at d s).parameters ≡ 0
  plain_at s = go (dec_lt s (length d.states))
    where
      go : Dec (s < length d.states) → (state_at d s).parameters ≡ 0
      go (yes l) = plain s l
      go (no l) = ap (λ (x : State). x.parameters) (get_or-eq_default d.states _ {n = s} (omega arith))

  plain_own : (s : ℕ) → own_parameters d s ≡ []
  unfolding own_parameters tabulate_from
  plain_own s = rw (plain_at s)

  pub plain_scope : (s : ℕ) → scope_of d s ≡ []
  unfolding scope_of
  plain_scope s =
      recursively_all [] (λ q above. above (parent d q) ++ own_parameters d q) (λ scope. scope ≡ []) refl (λ q above none. rw (none (parent d q), plain_own q)) s

  -- ---- bytes
  pub plain_name : (s r : ℕ) → name_kept d s r ≡ true → r < parameter_register
  unfolding name_kept
  plain_name s r h =
      ⊎_elim
      (λ (l : r < parameter_register). l)
      (λ (l : r - parameter_register < length (scope_of d s)). absurd (nothing_below_zero (rw (plain_scope s) at l)))
      ((or_iff less_iff less_iff).0 h)

  -- the fields of a goto
  pub plain_arguments : (s t a b : ℕ) → arguments_kept d s t a b ≡ (eqb a 0 && eqb b 0)
  unfolding field_kept
  plain_arguments s t a b = rw (plain_at t)

pub plain_byte : (d : Design) (r : ℕ) → r < parameter_register → label_byte d r ≡ register_label d r
unfolding label_byte
plain_byte d r l = cond_true (ltb r parameter_register) _ _ (lt-ltb r parameter_register l)

-- ---- expressions
module _ (d : Design) (plain : Plain d) where
  pub plain_reads : (s : ℕ) (e : Expr) → ReadsScoped d s e → labels_read d e ≡ plain_read d e
  unfolding labels_read registers_read
  plain_reads s (constant v) scoped = refl
  plain_reads s (register n r) scoped = rw (plain_byte d r (plain_name d plain s r scoped))
  plain_reads s (binary o p q) scoped =
      map-append (label_byte d) (registers_read p) (registers_read q)
      ∙ ap₂ (λ (x y : List ℕ). x ++ y) (plain_reads s p scoped.0) (plain_reads s q scoped.1)
      ∙ sym (map-append (register_label d) (registers_read p) (registers_read q))

-- ---- flow
module _ (d : Design) (own : PlainLabels d) where
  -- the label byte of a state that a goto names
  pub plain_named : (t a b : ℕ) → named_label d t a b ≡ state_label d t
  unfolding named_label
  plain_named t a b =
      let few = own.few in
      let below = own.states t in
      cond_true (ltb (state_label d t) (parameter_label + length (scope_of d (parent d t)))) _ _ (lt-ltb (state_label d t) (parameter_label + length (scope_of d (parent d t))) (omega arith))

  -- labels stand for themselves
  plain_under : (labels : List ℕ) → AreLabels d.rows labels → map (label_under []) labels ≡ labels
  plain_under [] valid = refl
  plain_under (x ∷ labels) valid = let few = own.few in let below = valid.0 in rw (under_label [] x (omega arith), plain_under labels valid.1)

  -- there is one choice, the empty one
  pub plain_each : (s : ℕ) (from : List ℕ) (to : ℕ) → AreLabels d.rows from → to < length d.rows → flows_each d s from to ≡ all_flow_to d.rows from to
  unfolding flows_each every_choice choices all_of
  plain_each s from to valid below =
      let few = own.few in
      rw (plain_scope d own.plain s, plain_under from valid, under_label [] to (omega arith)) (and_true (all_flow_to d.rows from to))
    where
      and_true : (b : Bool) → (b && true) ≡ b
      and_true true = refl
      and_true false = refl

  read_valid : (e : Expr) → AreLabels d.rows (plain_read d e)
  read_valid e = all (registers_read e)
    where
      all : (rs : List ℕ) → AreLabels d.rows (map (register_label d) rs)
      all [] = tt
      all (r ∷ rs) = (own.registers r, all rs)

  -- ---- commands
  pub plain_flows_iff : (s : ℕ) (context : List ℕ) (c : Cmd) → AreLabels d.rows context → Scoped d s c → Flows d s context c ↔ PlainFlows d s context c
  plain_flows_iff s context (skip n) valid scoped = Iff.rfl
  plain_flows_iff s context (assign n r e) valid scoped =
      let same : flows_each d s (context ++ labels_read d e) (label_byte d r) ≡ all_flow_to d.rows (context ++ plain_read d e) (register_label d r) =
      rw (plain_reads d own.plain s e scoped.1, plain_byte d r (plain_name d own.plain s r scoped.0))
      (plain_each s (context ++ plain_read d e) (register_label d r) (labels_append d.rows context (plain_read d e) valid (read_valid e)) (own.registers r)) in
      (λ h. sym same ∙ h, λ h. same ∙ h)
  plain_flows_iff s context (sequence n p q) valid scoped = Iff.and (plain_flows_iff s context p valid scoped.0) (plain_flows_iff s context q valid scoped.1)
  plain_flows_iff s context (fall n) valid scoped =
      let same = plain_each s context (state_label d s) valid (own.states s) in
      (λ h. sym same ∙ h, λ h. same ∙ h)
  plain_flows_iff s context (goto n t a b) valid scoped =
      let same : flows_each d s context (named_label d t a b) ≡ all_flow_to d.rows context (state_label d t) =
      rw (plain_named t a b) (plain_each s context (state_label d t) valid (own.states t)) in
      (λ h. sym same ∙ h, λ h. same ∙ h)
  plain_flows_iff s context (branch n e p q) valid scoped =
      let inner = labels_append d.rows context (plain_read d e) valid (read_valid e) in
      rw (plain_reads d own.plain s e scoped.0) (Iff.and (plain_flows_iff s (context ++ plain_read d e) p inner scoped.1) (plain_flows_iff s (context ++ plain_read d e) q inner scoped.2))

-- a design without parameters that keeps the rules behind refusals 2 to 9, 16 and 19
pub plain_labels : (d : Design) → Plain d → StructureKeeps d → 0 < length d.rows → length d.rows ≤ parameter_label → PlainLabels d
plain_labels d plain keeps some few =
    record { plain = plain; few = few; registers = λ r. register_at_lem r (dec_lt r (length d.registers)); states = λ s. state_at_lem s (dec_lt s (length d.states)) }
  where
    -- past the last register, and past the last state, there is label 0
    register_at_lem : (r : ℕ) → Dec (r < length d.registers) → register_label d r < length d.rows
    register_at_lem r (yes l) = (keeps.registers r l).label
    register_at_lem r (no l) =
        let past : register_label d r ≡ 0 = ap (λ (x : Register). x.label) (get_or-eq_default d.registers no_register {n = r} (omega arith)) in
        rw past some

    state_at_lem : (s : ℕ) → Dec (s < length d.states) → state_label d s < length d.rows
    state_at_lem s (yes l) =
        ⊎_elim
        (λ (below : state_label d s < length d.rows). below)
        (λ (byte : ParameterLabel (state_label d s)). absurd (⊎_elim
        (λ (below : state_label d s < parameter_label). let high = byte.at_least in no_both below high)
        (λ (below : state_label d s - parameter_label < length (scope_of d s)). nothing_below_zero (rw (plain_scope d plain s) at below))
        (keeps.parameters s l).label))
        (keeps.states s l).label
      where
        no_both : state_label d s < parameter_label → parameter_label ≤ state_label d s → ⊥
        no_both a b = omega arith
    state_at_lem s (no l) =
        let past : state_label d s ≡ 0 = ap (λ (x : State). x.label) (get_or-eq_default d.states _ {n = s} (omega arith)) in
        rw past some
