-- Bodies as they run. On the path the labels of the bound registers are a choice within the bounds in scope, so the rules that hold for each choice hold of the
-- body with the bound registers in the place of its parameters, by the registers' own labels; and the label of the state that a goto names is the one that its
-- arguments give it.
use Prim.Native.Nat.{ℕ, zero, suc, ◌+◌, ◌-◌, ◌*◌, ◌≤◌, ◌<◌}
use mathlib.Core.Path.{◌≡◌, refl, sym, ◌∙◌, ap, ap₂}
use mathlib.Core.Logic.{◌⊎◌, inl, inr, ⊎_elim, ◌≢◌}
use mathlib.Core.Bool.{Bool, true, ◌&&◌, ◌||◌, not, cond}
use mathlib.Core.List.{List, [], ◌∷◌, ◌++◌, map, map-append, append-nil}
use native.Mathlib.Omega.{arith}
use native.Mathlib.Decide.{dec_lt, ℕ_discrete}
use lib.Dec.{leb, ltb, eqb}
use lib.ListN.{length, get_or, length-map, get_or-eq_default}
use borrow.Author.Tests.{ltb-true, lt-ltb, le-ltb, leb-true, eq-eqb, ne_eqb}
use Rattle.model.specs.Limits.{parameter_register, parameter_label, binding_length}
use Rattle.model.specs.Indices.{tabulate_from}
use Rattle.model.specs.Image.{Design, Register, register_at, state_at}
use Rattle.model.specs.Lattice.{all_flow_to, register_label, state_label}
use Rattle.model.specs.States.{parent, is_port, sibling_or_self}
use Rattle.model.specs.Trees.{Expr, constant, register, binary, Cmd, skip, assign, sequence, fall, goto, branch, body_of, registers_read}
use Rattle.model.specs.Parameters.{all_of, own_parameters, scope_of, within_bounds, every_choice, label_byte, label_under}
use Rattle.model.specs.Scopes.{name_kept, is_argument, argument_kept, field_kept}
use Rattle.model.specs.Bindings.{named, expr_with, cmd_with, bound_in, own_bound, label_with, bound_by, bound_sound}
use Rattle.model.specs.Flow.{labels_read, named_label, flows_each}
use Rattle.model.specs.Rules.{IsChoice, none_chosen, one_more, ParameterLabel, StructureKeeps, Shaped, Scoped, ReadsScoped, Flows}
use Rattle.model.proofs.Laws.Booleans.{and_first, and_second, or_cases, or_first, or_second, not_true, true_or_false, cond_true, cond_false}
use Rattle.model.proofs.Laws.Choices.{every_choice_iff, within_iff}
use Rattle.model.proofs.Laws.Indices.{nothing_below_zero}
use Rattle.model.proofs.Laws.States.{ChildOf, sibling_child, sibling_no_root}
use Rattle.model.proofs.Laws.Spares.{SparesPorts}
use Rattle.model.proofs.Laws.Scopes.{own_length, own_at, scope_root, scope_step, scope_length_lem, scope_inherited, scope_own}
use Rattle.model.proofs.Laws.Bindings.{Binds, Rooted, bound_other, first_bound_lem, second_bound_lem}

-- what acceptance gives of a design: the rules, and that no label and no register has the byte of a parameter
pub record AcceptedDesign (d : Design) : Type 0 where
  pub structure : StructureKeeps d
  pub flowing : (s : ℕ) → s < length d.states → Flows d s (state_label d s ∷ []) (body_of d s)
  pub few_labels : length d.rows ≤ parameter_label
  pub few_registers : length d.registers ≤ parameter_register

get_or-mapped : (f : ℕ → ℕ) (l : List ℕ) (k : ℕ) → k < length l → get_or (map f l) k 0 ≡ f (get_or l k 0)
get_or-mapped f [] k h = absurd (nothing_below_zero h)
get_or-mapped f (x ∷ l) zero h = refl
get_or-mapped f (x ∷ l) (suc k) h = get_or-mapped f l k (omega arith)

-- an entry of a list that all pass
pub all_of_at : (test : ℕ → Bool) (l : List ℕ) → all_of test l ≡ true → (k : ℕ) → k < length l → test (get_or l k 0) ≡ true
unfolding all_of
all_of_at test [] h k m = absurd (nothing_below_zero m)
all_of_at test (x ∷ l) h zero m = and_first (test x) (all_of test l) h
all_of_at test (x ∷ l) h (suc k) m = all_of_at test l (and_second (test x) (all_of test l) h) k (omega arith)

pub map_same : (f g : ℕ → ℕ) (l : List ℕ) → ((i : ℕ) → i < length l → f (get_or l i 0) ≡ g (get_or l i 0)) → map f l ≡ map g l
map_same f g [] h = refl
map_same f g (x ∷ l) h = ap₂ ◌∷◌ (h 0 (omega arith)) (map_same f g l (λ i m. h (suc i) (omega arith)))

module _ (d : Design) where
  -- the labels of the registers that an expression reads
  unfoldable pub read_labels : Expr → List ℕ
  read_labels e = map (register_label d) (registers_read e)

  -- no assignment in a command writes a port
  abbrev pub WritesNoPort : Cmd → Type 0
  WritesNoPort (skip n) = Unit {0}
  WritesNoPort (assign n r e) = (register_at d r).kind ≡ 1 → ⊥
  WritesNoPort (sequence n p q) = WritesNoPort p × WritesNoPort q
  WritesNoPort (fall n) = Unit {0}
  WritesNoPort (goto n t x y) = Unit {0}
  WritesNoPort (branch n e p q) = WritesNoPort p × WritesNoPort q

  -- a goto as it runs: the context flows to the label that its arguments give the named state, and these may be bound
  pub record GotoRuns (bindings context : List ℕ) (t x y : ℕ) : Type 0 where
    pub flows : all_flow_to d.rows context (label_with d (bound_by d t x y bindings) t) ≡ true
    pub label : label_with d (bound_by d t x y bindings) t < length d.rows
    pub first : 0 < (state_at d t).parameters → Binds d (binding_length * t) x
    pub second : 1 < (state_at d t).parameters → Binds d (binding_length * t + 1) y

  -- the flow rules of a command of state s as it runs
  module _ (bindings : List ℕ) (s : ℕ) where
    abbrev pub RunFlows : List ℕ → Cmd → Type 0
    RunFlows context (skip n) = Unit {0}
    RunFlows context (assign n r e) = all_flow_to d.rows (context ++ read_labels e) (register_label d r) ≡ true
    RunFlows context (sequence n p q) = RunFlows context p × RunFlows context q
    RunFlows context (fall n) = all_flow_to d.rows context (label_with d bindings s) ≡ true
    RunFlows context (goto n t x y) = GotoRuns bindings context t x y
    RunFlows context (branch n e p q) = RunFlows (context ++ read_labels e) p × RunFlows (context ++ read_labels e) q

module _ (d : Design) (keeps : AcceptedDesign d) where
  pub rooted : Rooted d
  rooted = record { lower = λ s l no_root. (keeps.structure.states s l).parent_below no_root }

  -- ---- the parameters in a scope stand at or above its state
  own_owner : (q i : ℕ) → q < length d.states → i < (state_at d q).parameters → get_or (own_parameters d q) i 0 < binding_length * suc q
  own_owner q i k m = let most = (keeps.structure.parameters q k).count in rw (own_at d q i m) (omega arith)

  scope_owner_below : (n q : ℕ) → q < n → q < length d.states → (i : ℕ) → i < length (scope_of d q) → get_or (scope_of d q) i 0 < binding_length * suc q
  scope_owner_below zero q l k i m = absurd (nothing_below_zero l)
  scope_owner_below (suc n) q l k i m = go (ℕ_discrete q 0) (scope_owner_below n)
    where
      Earlier : Type 0
      Earlier = (q : ℕ) → q < n → q < length d.states → (i : ℕ) → i < length (scope_of d q) → get_or (scope_of d q) i 0 < binding_length * suc q

      split : parent d q < q → Earlier → Dec (i < length (scope_of d (parent d q))) → get_or (scope_of d q) i 0 < binding_length * suc q
      split low earlier (yes h) =
          let above = earlier (parent d q) (omega arith) (omega arith) i h in
          rw (scope_inherited d q i low h) (omega arith)
      split low earlier (no h) =
          let size = scope_length_lem d q low in
          let most = (keeps.structure.parameters q k).count in
          let at : i ≡ length (scope_of d (parent d q)) + (i - length (scope_of d (parent d q))) = omega arith in
          rw (at, scope_own d q (i - length (scope_of d (parent d q))) low (omega arith)) (omega arith)

      go : Dec (q ≡ 0) → Earlier → get_or (scope_of d q) i 0 < binding_length * suc q
      go (yes e) earlier =
          let is : scope_of d q ≡ own_parameters d q = rw e (scope_root d) in
          let size = own_length d q in
          rw is (own_owner q i k (rw (is, size) at m))
      go (no no_root) earlier = split (rooted.lower q k no_root) earlier (dec_lt i (length (scope_of d (parent d q))))

  pub scope_owner : (q : ℕ) → q < length d.states → (i : ℕ) → i < length (scope_of d q) → get_or (scope_of d q) i 0 < binding_length * suc q
  scope_owner q k = scope_owner_below (suc q) q (omega arith) k

  -- what is bound in the scope of s is bound by s and the states above it
  pub bound_same : (s : ℕ) → s < length d.states → (one other : List ℕ) → ((v : ℕ) → v < binding_length * suc s → get_or one v 0 ≡ get_or other v 0) → bound_in d one s ≡ bound_in d other s
  unfolding bound_in
  bound_same s k one other h = map_same (λ v. get_or one v 0) (λ v. get_or other v 0) (scope_of d s) (λ i m. h (get_or (scope_of d s) i 0) (scope_owner s k i m))

  -- and so is its label
  pub label_same : (s : ℕ) (one other : List ℕ) → bound_in d one s ≡ bound_in d other s → label_with d one s ≡ label_with d other s
  unfolding label_with
  label_same s one other e = ap (λ (bound : List ℕ). label_under (map (register_label d) bound) (state_label d s)) e

  -- what is bound in the scope of s is what is bound in its parent's, and behind it to its own parameters
  pub bound_split : (s : ℕ) → s < length d.states → s ≢ 0 → (bindings : List ℕ) → bound_in d bindings s ≡ bound_in d bindings (parent d s) ++ own_bound d bindings s
  unfolding bound_in own_bound
  bound_split s k no_root bindings = rw (scope_step d s (rooted.lower s k no_root)) (map-append (λ v. get_or bindings v 0) (scope_of d (parent d s)) (own_parameters d s))

  -- a state without parameters has its parent's scope
  pub scope_same : (q c : ℕ) → c < length d.states → c ≢ 0 → parent d c ≡ q → (state_at d c).parameters ≡ 0 → scope_of d c ≡ scope_of d q
  unfolding own_parameters tabulate_from
  scope_same q c k no_root e none =
      scope_step d c (rooted.lower c k no_root) ∙ rw (e, none) (append-nil (scope_of d q))

  -- the label of a register is not the byte of a parameter; past the end it is 0
  small_label : (r : ℕ) → register_label d r < parameter_label
  small_label r = go (dec_lt r (length d.registers))
    where
      go : Dec (r < length d.registers) → register_label d r < parameter_label
      go (yes h) = let few = keeps.few_labels in let label = (keeps.structure.registers r h).label in omega arith
      go (no h) =
          let past : register_label d r ≡ 0 = ap (λ (x : Register). x.label) (get_or-eq_default d.registers _ {n = r} (omega arith)) in
          omega arith

  -- a label byte below the parameters' stands for itself
  label_below : (choice : List ℕ) (byte : ℕ) → byte < parameter_label → label_under choice byte ≡ byte
  unfolding label_under
  label_below choice byte h = cond_true (ltb byte parameter_label) byte _ (lt-ltb byte parameter_label h)

  -- that of a parameter in scope for the label of the bound register
  label_at : (bound : List ℕ) (i : ℕ) → i < length bound → label_under (map (register_label d) bound) (parameter_label + i) ≡ register_label d (get_or bound i 0)
  unfolding label_under
  label_at bound i m =
      let same : parameter_label + i - parameter_label ≡ i = omega arith in
      cond_false (ltb (parameter_label + i) parameter_label) _ _ (le-ltb (parameter_label + i) parameter_label (omega arith)) ∙ rw same (get_or-mapped (register_label d) bound i m)

  -- ---- a state on the path
  module _ (bindings : List ℕ) (s : ℕ) (l : s < length d.states) (sound : all_of (bound_sound d bindings) (scope_of d s) ≡ true) where
    abbrev bound : List ℕ
    bound = bound_in d bindings s

    abbrev choice : List ℕ
    choice = map (register_label d) (bound_in d bindings s)

    length-bound_in : length bound ≡ length (scope_of d s)
    unfolding bound_in
    length-bound_in = length-map (scope_of d s) (λ v. get_or bindings v 0)

    bound_at : (i : ℕ) → i < length (scope_of d s) → get_or bound i 0 ≡ get_or bindings (get_or (scope_of d s) i 0) 0
    unfolding bound_in
    bound_at i m = get_or-mapped (λ v. get_or bindings v 0) (scope_of d s) i m

    -- a parameter in scope is soundly bound
    bound_binds : (i : ℕ) → i < length (scope_of d s) → Binds d (get_or (scope_of d s) i 0) (get_or bound i 0)
    unfolding bound_sound
    bound_binds i m =
        let v = get_or (scope_of d s) i 0 in
        let r = get_or bindings v 0 in
        let all = all_of_at (bound_sound d bindings) (scope_of d s) sound i m in
        let both = and_first (ltb r (length d.registers) && not (is_port d r)) (within_bounds d v (register_label d r)) all in
        rw
        (bound_at i m)
        (record {
          exists = ltb-true r (length d.registers) (and_first (ltb r (length d.registers)) (not (is_port d r)) both);
          no_port = not_true (is_port d r) (and_second (ltb r (length d.registers)) (not (is_port d r)) both);
          within = and_second (ltb r (length d.registers) && not (is_port d r)) (within_bounds d v (register_label d r)) all;
        })

    -- the labels of the bound registers are a choice
    chosen : (scope : List ℕ) → all_of (bound_sound d bindings) scope ≡ true → IsChoice d scope (map (register_label d) (map (λ v. get_or bindings v 0) scope))
    unfolding all_of bound_sound
    chosen [] h = none_chosen
    chosen (v ∷ scope) h =
        let r = get_or bindings v 0 in
        let here = and_first (bound_sound d bindings v) (all_of (bound_sound d bindings) scope) h in
        let both = and_first (ltb r (length d.registers) && not (is_port d r)) (within_bounds d v (register_label d r)) here in
        let exists = ltb-true r (length d.registers) (and_first (ltb r (length d.registers)) (not (is_port d r)) both) in
        one_more
        (keeps.structure.registers r exists).label
        ((within_iff d).0 (and_second (ltb r (length d.registers) && not (is_port d r)) (within_bounds d v (register_label d r)) here))
        (chosen scope (and_second (bound_sound d bindings v) (all_of (bound_sound d bindings) scope) h))

    pub is_choice : IsChoice d (scope_of d s) choice
    unfolding bound_in
    is_choice = chosen (scope_of d s) sound

    -- what holds for each choice holds as it runs
    runs_so : (test : List ℕ → Bool) → every_choice d s test ≡ true → test choice ≡ true
    runs_so test h = (every_choice_iff d s (λ choice. (λ e. e, λ e. e))).0 h choice is_choice

    -- ---- labels
    bound_label : (i : ℕ) → i < length (scope_of d s) → label_under choice (parameter_label + i) ≡ register_label d (get_or bound i 0)
    bound_label i m = let size = length-bound_in in label_at bound i (omega arith)

    -- the label byte of what a register byte names
    label_named : (r : ℕ) → name_kept d s r ≡ true → label_under choice (label_byte d r) ≡ register_label d (named bound r)
    unfolding name_kept label_byte named
    label_named r h = go (or_cases (ltb r parameter_register) (ltb (r - parameter_register) (length (scope_of d s))) h) (dec_lt r parameter_register)
      where
        go : (ltb r parameter_register ≡ true) ⊎ (ltb (r - parameter_register) (length (scope_of d s)) ≡ true) → Dec (r < parameter_register) → label_under choice (label_byte d r) ≡ register_label d (named bound r)
        go either (yes low) = rw (lt-ltb r parameter_register low) (label_below choice (register_label d r) (small_label r))
        go (inl low) (no high) = absurd (high (ltb-true r parameter_register low))
        go (inr inside) (no high) = rw (le-ltb r parameter_register (omega arith)) (bound_label (r - parameter_register) (ltb-true (r - parameter_register) (length (scope_of d s)) inside))

    -- what a register byte names is no port: a register is none where refusal 16 says so, and a parameter is bound to none
    named_no_port : (r : ℕ) → name_kept d s r ≡ true → ((register_at d r).kind ≡ 1 → ⊥) → (register_at d (named bound r)).kind ≡ 1 → ⊥
    unfolding name_kept named
    named_no_port r h no_port = go (or_cases (ltb r parameter_register) (ltb (r - parameter_register) (length (scope_of d s))) h) (dec_lt r parameter_register)
      where
        go : (ltb r parameter_register ≡ true) ⊎ (ltb (r - parameter_register) (length (scope_of d s)) ≡ true) → Dec (r < parameter_register) → (register_at d (named bound r)).kind ≡ 1 → ⊥
        go either (yes low) port = no_port (rw (cond_true (ltb r parameter_register) r (get_or bound (r - parameter_register) 0) (lt-ltb r parameter_register low)) at port)
        go (inl low) (no high) port = high (ltb-true r parameter_register low)
        go (inr inside) (no high) port =
            let binds = bound_binds (r - parameter_register) (ltb-true (r - parameter_register) (length (scope_of d s)) inside) in
            let is : (register_at d (get_or bound (r - parameter_register) 0)).kind ≡ 1 = rw (cond_false (ltb r parameter_register) r (get_or bound (r - parameter_register) 0) (le-ltb r parameter_register (omega arith))) at port in
            true_or_false (is_port d (get_or bound (r - parameter_register) 0)) (eq-eqb (register_at d (get_or bound (r - parameter_register) 0)).kind 1 is) binds.no_port

    -- the labels that an expression reads
    labels_named : (e : Expr) → ReadsScoped d s e → map (label_under choice) (labels_read d e) ≡ read_labels d (expr_with bound e)
    unfolding labels_read registers_read read_labels expr_with
    labels_named (constant v) scoped = refl
    labels_named (register m r) scoped = ap (λ (x : ℕ). x ∷ []) (label_named r scoped)
    labels_named (binary o p q) scoped =
        let first = labels_named p scoped.0 in
        let second = labels_named q scoped.1 in
        ap (map (label_under choice)) (map-append (label_byte d) (registers_read p) (registers_read q))
        ∙ map-append (label_under choice) (map (label_byte d) (registers_read p)) (map (label_byte d) (registers_read q))
        ∙ ap₂ ◌++◌ first second
        ∙ sym (map-append (register_label d) (registers_read (expr_with bound p)) (registers_read (expr_with bound q)))

    -- ---- arguments
    argument_name : (r : ℕ) → is_argument d s r ≡ true → name_kept d s r ≡ true
    unfolding is_argument name_kept
    argument_name r h = go (or_cases (ltb r (length d.registers)) _ h)
      where
        go : (ltb r (length d.registers) ≡ true) ⊎ ((leb parameter_register r && ltb (r - parameter_register) (length (scope_of d s))) ≡ true) → (ltb r parameter_register || ltb (r - parameter_register) (length (scope_of d s))) ≡ true
        go (inl low) = or_first (ltb r parameter_register) _ (lt-ltb r parameter_register (let few = keeps.few_registers in let k = ltb-true r (length d.registers) low in omega arith))
        go (inr both) = or_second (ltb r parameter_register) _ (and_second (leb parameter_register r) _ both)

    argument_binds : (v r : ℕ) → ((register_at d r).kind ≡ 1 → ⊥) → argument_kept d s v r ≡ true → Binds d v (named bound r)
    unfolding argument_kept is_argument named
    argument_binds v r no_port h =
        let is = and_first (is_argument d s r) _ h in
        let within : within_bounds d v (register_label d (named bound r)) ≡ true = rw (label_named r (argument_name r is)) at (runs_so (λ choice. within_bounds d v (label_under choice (label_byte d r))) (and_second (is_argument d s r) _ h)) in
        go (or_cases (ltb r (length d.registers)) _ is) within
      where
        go : (ltb r (length d.registers) ≡ true) ⊎ ((leb parameter_register r && ltb (r - parameter_register) (length (scope_of d s))) ≡ true) → within_bounds d v (register_label d (named bound r)) ≡ true → Binds d v (named bound r)
        go (inl low) within =
            let k = ltb-true r (length d.registers) low in
            let few = keeps.few_registers in
            let itself : named bound r ≡ r = cond_true (ltb r parameter_register) r _ (lt-ltb r parameter_register (omega arith)) in
            record {
              exists = rw itself k;
              no_port = rw itself (ne_eqb (register_at d r).kind 1 no_port);
              within = within;
            }
        go (inr both) within =
            let high = leb-true parameter_register r (and_first (leb parameter_register r) _ both) in
            let inside = ltb-true (r - parameter_register) (length (scope_of d s)) (and_second (leb parameter_register r) _ both) in
            let is : named bound r ≡ get_or bound (r - parameter_register) 0 = cond_false (ltb r parameter_register) r _ (le-ltb r parameter_register high) in
            let binds = bound_binds (r - parameter_register) inside in
            record { exists = rw is binds.exists; no_port = rw is binds.no_port; within = within }

    -- ---- the state that a goto names
    module _ (t a b : ℕ) (going : sibling_or_self d s t ≡ true) (kept : (field_kept d s t 0 a && field_kept d s t 1 b) ≡ true) where
      child : ChildOf d (parent d s) t
      child = sibling_child d s t going

      abbrev x : ℕ
      x = named bound a

      abbrev y : ℕ
      y = named bound b

      first_kept : 0 < (state_at d t).parameters → argument_kept d s (binding_length * t) a ≡ true
      unfolding field_kept
      first_kept some =
          let same : binding_length * t + 0 ≡ binding_length * t = omega arith in
          rw same at (sym (cond_true (ltb 0 (state_at d t).parameters) _ _ (lt-ltb 0 (state_at d t).parameters some)) ∙ and_first (field_kept d s t 0 a) (field_kept d s t 1 b) kept)

      second_kept : 1 < (state_at d t).parameters → argument_kept d s (binding_length * t + 1) b ≡ true
      unfolding field_kept
      second_kept two = sym (cond_true (ltb 1 (state_at d t).parameters) _ _ (lt-ltb 1 (state_at d t).parameters two)) ∙ and_second (field_kept d s t 0 a) (field_kept d s t 1 b) kept

      argument_label : (v r : ℕ) → argument_kept d s v r ≡ true → label_under choice (label_byte d r) ≡ register_label d (named bound r)
      unfolding argument_kept
      argument_label v r h = label_named r (argument_name r (and_first (is_argument d s r) _ h))

      -- the parameters of t: those that its parent has, and its own
      low : parent d t < t
      low = rooted.lower t child.state child.no_root

      abbrev inherited : ℕ
      inherited = length (scope_of d (parent d t))

      same_parent : parent d t ≡ parent d s
      same_parent = child.parent_is

      own_low : parent d s < s
      own_low = rooted.lower s l (sibling_no_root d s t going)

      module _ (size : length bindings ≡ binding_length * length d.states) where
        abbrev after : List ℕ
        after = bound_by d t x y bindings

        -- parameter i of t as it is bound after the goto
        after_at : (i : ℕ) → i < length (scope_of d t) → get_or (bound_in d after t) i 0 ≡ get_or after (get_or (scope_of d t) i 0) 0
        unfolding bound_in
        after_at i m = get_or-mapped (λ v. get_or after v 0) (scope_of d t) i m

        -- one that the parent has is bound as in s
        inherited_same : (i : ℕ) → i < inherited → get_or (bound_in d after t) i 0 ≡ get_or bound i 0
        inherited_same i m =
            let up = low in
            let state = child.state in
            let size-t = scope_length_lem d t low in
            let size-s = scope_length_lem d s own_low in
            let m' : i < length (scope_of d (parent d s)) = rw same_parent at m in
            let at-t = scope_inherited d t i low m in
            let at-s = scope_inherited d s i own_low m' in
            let one : get_or (scope_of d t) i 0 ≡ get_or (scope_of d s) i 0 = at-t ∙ rw same_parent (sym at-s) in
            let above = scope_owner (parent d t) (omega arith) i m in
            after_at i (omega arith)
            ∙ rw at-t (bound_other d rooted t x y bindings (get_or (scope_of d (parent d t)) i 0) (λ e. omega arith) (λ e. omega arith))
            ∙ ap (λ (v : ℕ). get_or bindings v 0) (sym at-t ∙ one)
            ∙ sym (bound_at i (omega arith))

        -- own parameter j
        own_bound_lem : (j : ℕ) → j < (state_at d t).parameters → get_or (bound_in d after t) (inherited + j) 0 ≡ get_or after (binding_length * t + j) 0
        own_bound_lem j m = let size = scope_length_lem d t low in after_at (inherited + j) (omega arith) ∙ ap (λ (v : ℕ). get_or after v 0) (scope_own d t j low m)

        length-after : length (bound_in d after t) ≡ length (scope_of d t)
        unfolding bound_in
        length-after = length-map (scope_of d t) (λ v. get_or after v 0)

        -- ---- the label byte of t, as s has it, stands for the label that t has after the goto
        named_known : state_label d t < parameter_label + inherited → named_label d t a b ≡ state_label d t
        unfolding named_label
        named_known h = cond_true (ltb (state_label d t) (parameter_label + inherited)) (state_label d t) _ (lt-ltb (state_label d t) (parameter_label + inherited) h)

        label_fixed : state_label d t < parameter_label → label_under choice (named_label d t a b) ≡ label_with d after t
        unfolding label_with
        label_fixed h =
            ap (label_under choice) (named_known (omega arith)) ∙ label_below choice (state_label d t) h ∙ sym (label_below (map (register_label d) (bound_in d after t)) (state_label d t) h)

        label_inherited : (i : ℕ) → i < inherited → state_label d t ≡ parameter_label + i → label_under choice (named_label d t a b) ≡ label_with d after t
        unfolding label_with
        label_inherited i m e =
            let size-of-t = scope_length_lem d t low in
            let size-of-s = scope_length_lem d s own_low in
            let one : length (scope_of d (parent d t)) ≡ length (scope_of d (parent d s)) = ap (λ (p : ℕ). length (scope_of d p)) same_parent in
            let size-s = length-bound_in in
            let size-t = length-after in
            ap (label_under choice) (named_known (omega arith) ∙ e)
            ∙ label_at bound i (omega arith)
            ∙ ap (register_label d) (sym (inherited_same i m))
            ∙ sym (ap (label_under (map (register_label d) (bound_in d after t))) e ∙ label_at (bound_in d after t) i (omega arith))

        own_labelled : (j r : ℕ) → j < (state_at d t).parameters → state_label d t ≡ parameter_label + (inherited + j) → get_or after (binding_length * t + j) 0 ≡ r → label_with d after t ≡ register_label d r
        unfolding label_with
        own_labelled j r m e is =
            let size-of-t = scope_length_lem d t low in
            let size-t = length-after in
            ap (label_under (map (register_label d) (bound_in d after t))) e ∙ label_at (bound_in d after t) (length (scope_of d (parent d t)) + j) (omega arith) ∙ ap (register_label d) (own_bound_lem j m ∙ is)

        label_own : (j : ℕ) → j < (state_at d t).parameters → state_label d t ≡ parameter_label + (inherited + j) → label_under choice (named_label d t a b) ≡ label_with d after t
        unfolding named_label
        label_own zero m e =
            let here : state_label d t ≡ parameter_label + length (scope_of d (parent d t)) = omega arith in
            let state = child.state in
            let same : binding_length * t + 0 ≡ binding_length * t = omega arith in
            let is : named_label d t a b ≡ label_byte d a =
            cond_false (ltb (state_label d t) (parameter_label + length (scope_of d (parent d t)))) (state_label d t) (label_byte d (cond (eqb (state_label d t) (parameter_label + length (scope_of d (parent d t)))) a b)) (le-ltb (state_label d t) (parameter_label + length (scope_of d (parent d t))) (omega arith))
            ∙ ap (label_byte d) (cond_true (eqb (state_label d t) (parameter_label + length (scope_of d (parent d t)))) a b (eq-eqb (state_label d t) (parameter_label + length (scope_of d (parent d t))) here)) in
            ap (label_under choice) is ∙ argument_label (binding_length * t) a (first_kept m) ∙ sym (own_labelled 0 x m e (rw same (first_bound_lem d rooted t x y bindings m (omega arith))))
        label_own (suc zero) m e =
            let there : state_label d t ≢ parameter_label + length (scope_of d (parent d t)) = λ k. omega arith in
            let state = child.state in
            let is : named_label d t a b ≡ label_byte d b =
            cond_false (ltb (state_label d t) (parameter_label + length (scope_of d (parent d t)))) (state_label d t) (label_byte d (cond (eqb (state_label d t) (parameter_label + length (scope_of d (parent d t)))) a b)) (le-ltb (state_label d t) (parameter_label + length (scope_of d (parent d t))) (omega arith))
            ∙ ap (label_byte d) (cond_false (eqb (state_label d t) (parameter_label + length (scope_of d (parent d t)))) a b (ne_eqb (state_label d t) (parameter_label + length (scope_of d (parent d t))) there)) in
            ap (label_under choice) is ∙ argument_label (binding_length * t + 1) b (second_kept m) ∙ sym (own_labelled 1 y m e (second_bound_lem d rooted t x y bindings m (omega arith)))
        label_own (suc (suc j)) m e = let most = (keeps.structure.parameters t child.state).count in absurd (omega arith)

        named_label_lem : label_under choice (named_label d t a b) ≡ label_with d after t
        named_label_lem = go (dec_lt (state_label d t) parameter_label) (dec_lt (state_label d t) (parameter_label + inherited))
          where
            go : Dec (state_label d t < parameter_label) → Dec (state_label d t < parameter_label + inherited) → label_under choice (named_label d t a b) ≡ label_with d after t
            go (yes fixed) known = label_fixed fixed
            go (no high) (yes known) = label_inherited (state_label d t - parameter_label) (omega arith) (omega arith)
            go (no high) (no unknown) =
                let inside : state_label d t - parameter_label < length (scope_of d t) = ⊎_elim (λ (h : state_label d t < parameter_label). absurd (high h)) (λ (h : state_label d t - parameter_label < length (scope_of d t)). h) (keeps.structure.parameters t child.state).label in
                let size-of-t = scope_length_lem d t low in
                label_own (state_label d t - parameter_label - inherited) (omega arith) (omega arith)

        -- and this is one of the labels
        after_label : (0 < (state_at d t).parameters → Binds d (binding_length * t) x) → (1 < (state_at d t).parameters → Binds d (binding_length * t + 1) y) → label_with d after t < length d.rows
        unfolding label_with
        after_label first second = go (dec_lt (state_label d t) parameter_label) (dec_lt (state_label d t) (parameter_label + inherited))
          where
            by_own : (j : ℕ) → j < (state_at d t).parameters → state_label d t ≡ parameter_label + (inherited + j) → label_with d after t < length d.rows
            by_own zero m e =
                let state = child.state in
                let same : binding_length * t + 0 ≡ binding_length * t = omega arith in
                rw (own_labelled 0 x m e (rw same (first_bound_lem d rooted t x y bindings m (omega arith)))) (keeps.structure.registers x (first m).exists).label
            by_own (suc zero) m e =
                let state = child.state in
                rw (own_labelled 1 y m e (second_bound_lem d rooted t x y bindings m (omega arith))) (keeps.structure.registers y (second m).exists).label
            by_own (suc (suc j)) m e = let most = (keeps.structure.parameters t child.state).count in absurd (omega arith)

            go : Dec (state_label d t < parameter_label) → Dec (state_label d t < parameter_label + inherited) → label_with d after t < length d.rows
            go (yes fixed) known =
                rw
                (label_below (map (register_label d) (bound_in d after t)) (state_label d t) fixed)
                (⊎_elim (λ (h : state_label d t < length d.rows). h) (λ (h : ParameterLabel (state_label d t)). let high = h.at_least in absurd (omega arith)) (keeps.structure.states t child.state).label)
            go (no high) (yes known) =
                let i = state_label d t - parameter_label in
                let size-of-t = scope_length_lem d t low in
                let size-of-s = scope_length_lem d s own_low in
                let one : length (scope_of d (parent d t)) ≡ length (scope_of d (parent d s)) = ap (λ (p : ℕ). length (scope_of d p)) same_parent in
                let size-t = length-after in
                let here : state_label d t ≡ parameter_label + (state_label d t - parameter_label) = omega arith in
                rw
                (here, label_at (bound_in d after t) (state_label d t - parameter_label) (omega arith), inherited_same (state_label d t - parameter_label) (omega arith))
                (keeps.structure.registers (get_or bound (state_label d t - parameter_label) 0) (bound_binds (state_label d t - parameter_label) (omega arith)).exists).label
            go (no high) (no unknown) =
                let inside : state_label d t - parameter_label < length (scope_of d t) = ⊎_elim (λ (h : state_label d t < parameter_label). absurd (high h)) (λ (h : state_label d t - parameter_label < length (scope_of d t)). h) (keeps.structure.parameters t child.state).label in
                let size-of-t = scope_length_lem d t low in
                by_own (state_label d t - parameter_label - inherited) (omega arith) (omega arith)

        -- the goto as it runs
        goto_runs : (context : List ℕ) → (0 < (state_at d t).parameters → (register_at d a).kind ≡ 1 → ⊥) × (1 < (state_at d t).parameters → (register_at d b).kind ≡ 1 → ⊥) → flows_each d s context (named_label d t a b) ≡ true → GotoRuns d bindings (map (label_under choice) context) t x y
        unfolding flows_each
        goto_runs context spares h =
            let first : 0 < (state_at d t).parameters → Binds d (binding_length * t) x = λ some. argument_binds (binding_length * t) a (spares.0 some) (first_kept some) in
            let second : 1 < (state_at d t).parameters → Binds d (binding_length * t + 1) y = λ two. argument_binds (binding_length * t + 1) b (spares.1 two) (second_kept two) in
            record {
              label = after_label first second;
              flows = rw named_label_lem at (runs_so (λ choice. all_flow_to d.rows (map (label_under choice) context) (label_under choice (named_label d t a b))) h);
              first = first;
              second = second;
            }

    -- ---- a body as it runs
    own_label : label_under choice (state_label d s) ≡ label_with d bindings s
    unfolding label_with
    own_label = refl

    pub flows_with : length bindings ≡ binding_length * length d.states → (context : List ℕ) (c : Cmd) → Shaped d s c → Scoped d s c → SparesPorts d c → Flows d s context c → RunFlows d bindings s (map (label_under choice) context) (cmd_with bound c)
    unfolding cmd_with flows_each
    flows_with size context (skip n) shaped scoped spares flows = tt
    flows_with size context (assign n r e) shaped scoped spares flows =
        let h = runs_so (λ choice. all_flow_to d.rows (map (label_under choice) (context ++ labels_read d e)) (label_under choice (label_byte d r))) flows in
        rw (map-append (label_under choice) context (labels_read d e), labels_named e scoped.1, label_named r scoped.0) at h
    flows_with size context (sequence n p q) shaped scoped spares flows = (flows_with size context p shaped.1 scoped.0 spares.0 flows.0, flows_with size context q shaped.2 scoped.1 spares.1 flows.1)
    flows_with size context (fall n) shaped scoped spares flows = rw own_label at (runs_so (λ choice. all_flow_to d.rows (map (label_under choice) context) (label_under choice (state_label d s))) flows)
    flows_with size context (goto n t a b) shaped scoped spares flows = goto_runs t a b shaped scoped size context spares flows
    flows_with size context (branch n e p q) shaped scoped spares flows =
        let more : map (label_under choice) (context ++ labels_read d e) ≡ map (label_under choice) context ++ read_labels d (expr_with bound e) = map-append (label_under choice) context (labels_read d e) ∙ rw (labels_named e scoped.0) refl in (
          rw more at (flows_with size (context ++ labels_read d e) p shaped.1 scoped.1 spares.0 flows.0),
          rw more at (flows_with size (context ++ labels_read d e) q shaped.2 scoped.2 spares.1 flows.1),
        )

    -- a body as it runs writes no port
    pub writes_no_port : (c : Cmd) → Scoped d s c → SparesPorts d c → WritesNoPort d (cmd_with bound c)
    unfolding cmd_with
    writes_no_port (skip n) scoped spares = tt
    writes_no_port (assign n r e) scoped spares = named_no_port r scoped.0 spares
    writes_no_port (sequence n p q) scoped spares = (writes_no_port p scoped.0 spares.0, writes_no_port q scoped.1 spares.1)
    writes_no_port (fall n) scoped spares = tt
    writes_no_port (goto n t a b) scoped spares = tt
    writes_no_port (branch n e p q) scoped spares = (writes_no_port p scoped.1 spares.0, writes_no_port q scoped.2 spares.1)

    -- a state on the path has one of the labels
    pub label_with_lem : label_with d bindings s < length d.rows
    unfolding label_with
    label_with_lem = go (dec_lt (state_label d s) parameter_label)
      where
        go : Dec (state_label d s < parameter_label) → label_with d bindings s < length d.rows
        go (yes fixed) =
            rw
            (label_below choice (state_label d s) fixed)
            (⊎_elim (λ (h : state_label d s < length d.rows). h) (λ (h : ParameterLabel (state_label d s)). let high = h.at_least in absurd (omega arith)) (keeps.structure.states s l).label)
        go (no high) =
            let inside : state_label d s - parameter_label < length (scope_of d s) = ⊎_elim (λ (h : state_label d s < parameter_label). absurd (high h)) (λ (h : state_label d s - parameter_label < length (scope_of d s)). h) (keeps.structure.parameters s l).label in
            let here : state_label d s ≡ parameter_label + (state_label d s - parameter_label) = omega arith in
            rw
            (here, bound_label (state_label d s - parameter_label) inside)
            (keeps.structure.registers (get_or bound (state_label d s - parameter_label) 0) (bound_binds (state_label d s - parameter_label) inside).exists).label
