-- A body as it runs. No state has more than two parameters in scope, so the two registers in one number are all that are bound in it; and each that the body names
-- exists: a register byte by refusal 5, and what is bound to a parameter in scope since bindings are sound.
use Prim.Native.Nat.{ℕ, zero, suc, ◌+◌, ◌-◌, ◌*◌, ◌/◌, ◌%◌, ◌≤◌, ◌<◌}
use mathlib.Core.Path.{◌≡◌, refl, sym, ◌∙◌, ap, ap₂}
use mathlib.Core.Logic.{◌⊎◌, inl, inr}
use mathlib.Core.Bool.{true, ◌&&◌, not, cond}
use mathlib.Core.List.{List, [], ◌∷◌, map}
use native.Mathlib.Omega.{arith}
use native.Mathlib.Decide.{dec_lt}
use lib.Dec.{ltb}
use lib.ListN.{length, get_or, length-map, length-drop, get_or-eq_default}
use lib.Seq.{get_or-drop}
use borrow.Author.Tests.{lt-ltb, le-ltb, ltb-true}
use Rattle.model.specs.declared.Ending.TheVariants.{Goto}
use Rattle.model.specs.declared.Outcome.{Outcome}
use Rattle.model.specs.declared.Outcome.TheVariants.{Transferred}
use Rattle.model.specs.Image.{Design as Table, Node, design_of, state_at, command_at, expression_at, no_node}
use Rattle.model.specs.Lattice.{register_label, state_label}
use Rattle.model.specs.States.{is_port}
use Rattle.model.specs.Kinds.{CommandKind, skips, assigns, sequences, falls, goes, branches, unknown_command, ExpressionKind, constants, reads, operates, unknown_expression, command_kind, expression_kind}
use Rattle.model.specs.Parameters.{scope_of, within_bounds}
use Rattle.model.specs.Scopes.{name_kept}
use Rattle.model.specs.Trees.{Expr, constant, register, binary, Cmd, skip, assign, sequence, fall, goto, branch, expr_of_kind, cmd_of_kind, expr_step, expr_of, cmd_step, cmd_of, body_of}
use Rattle.model.specs.Bindings.{named, expr_with, cmd_with, bound_in, body_with, label_with, bound_sound}
use Rattle.model.specs.Rules.{RegisterByte, ReadsScoped, Scoped, StructureKeeps, Keeps}
use Rattle.model.specs.Machine.{Executed, exec}
use Rattle.model.specs.Calls.{bindings_in}
use Rattle.model.proofs.Laws.Booleans.{and_first, or_cases}
use Rattle.model.proofs.Laws.Indices.{recursively_all}
use Rattle.model.proofs.Laws.States.{sibling_child}
use Rattle.model.proofs.Laws.Spares.{body_spares}
use Rattle.model.proofs.Laws.Kinds.{command_number, kind_skips, kind_constants}
use Rattle.model.proofs.Exact.Parameters.{parameters_iff}
use Rattle.model.proofs.Independence.Instances.{AcceptedDesign, all_of_at, flows_with}
use Rattle.model.proofs.Independence.Endings.{Ended, exec_ends}
use Rattle.model.proofs.Independence.Path.{body_shaped}
use Rattle.design.specs.declared.Design.{Design}
use Rattle.design.specs.Records.{state_in}
use Rattle.design.specs.Describes.{Describes}
use Rattle.design.specs.Kept.{ParametersKept}
use Rattle.design.proofs.Laws.{registers_count, registers_most, states_count}
use Rattle.design.proofs.FieldRules.{body_is, body_below, command_at_lem}
use Rattle.design.proofs.BoundRules.{labels_few, parameter_number}
use Rattle.machine_commands.specs.Executions.{ReadsFit, CommandFits, Performing, bound_of, executed_as, values_in}
use Rattle.machine.specs.Bindings.{Packable, Packed}
use Rattle.machine.specs.Cycles.{Entered, Ends}

-- ---- what an accepted image gives
pub accepted : {image : List ℕ} {x : Design} → Keeps image → Describes image x → AcceptedDesign (design_of image)
accepted keeps d =
    let count = registers_count d in
    let few = registers_most d in
    record { structure = keeps.design.structure; flowing = keeps.design.flowing; few_labels = labels_few d; few_registers = omega arith }

pub parameters_kept_lem : {image : List ℕ} → Keeps image → ParametersKept (design_of image)
parameters_kept_lem {image} keeps = record { kept = λ s l. (parameters_iff (design_of image) s).1 (keeps.design.structure.parameters s l) }

-- ---- two lists of registers bound that have the same entries
module _ (one other : List ℕ) (same : (i : ℕ) → get_or one i 0 ≡ get_or other i 0) where
  named_same : (r : ℕ) → named one r ≡ named other r
  unfolding named
  named_same r = ap (λ (v : ℕ). cond (ltb r 64) r v) (same (r - 64))

  expr_same : (e : Expr) → expr_with one e ≡ expr_with other e
  unfolding expr_with
  expr_same (constant v) = refl
  expr_same (register n r) = ap (register n) (named_same r)
  expr_same (binary o p q) = ap₂ (binary o) (expr_same p) (expr_same q)

  cmd_same : (c : Cmd) → cmd_with one c ≡ cmd_with other c
  unfolding cmd_with
  cmd_same (skip n) = refl
  cmd_same (assign n r e) = ap₂ (assign n) (named_same r) (expr_same e)
  cmd_same (sequence n p q) = ap₂ (sequence n) (cmd_same p) (cmd_same q)
  cmd_same (fall n) = refl
  cmd_same (goto n t a b) = ap₂ (goto n t) (named_same a) (named_same b)
  cmd_same (branch n e p q) = rw (expr_same e, cmd_same p, cmd_same q)

-- ---- the registers that a body names exist
module _ (d : Table) (s : ℕ) (bound : List ℕ) (keeps : StructureKeeps d) (few : length d.registers ≤ 64) (exists : (i : ℕ) → i < length (scope_of d s) → get_or bound i 0 < length d.registers) where
  name_fits : (r : ℕ) → RegisterByte d r → name_kept d s r ≡ true → named bound r < length d.registers
  unfolding named name_kept
  name_fits r (inl l) h = rw (lt-ltb r 64 (omega arith)) l
  name_fits r (inr byte) h = let least = byte.at_least in rw (le-ltb r 64 least) (go least (or_cases (ltb r 64) (ltb (r - 64) (length (scope_of d s))) h))
    where
      go : 64 ≤ r → (ltb r 64 ≡ true) ⊎ (ltb (r - 64) (length (scope_of d s)) ≡ true) → get_or bound (r - 64) 0 < length d.registers
      go least (inl e) = let below = ltb-true r 64 e in absurd (omega arith)
      go least (inr e) = exists (r - 64) (ltb-true (r - 64) (length (scope_of d s)) e)

  -- past the last node there is only the node of zeros
  every_read : (n : ℕ) → expression_kind (expression_at d n).kind ≡ reads → RegisterByte d (expression_at d n).item
  every_read n is = go (dec_lt n (length d.expressions))
    where
      go : Dec (n < length d.expressions) → RegisterByte d (expression_at d n).item
      go (yes l) = (rw is at (keeps.expressions n l)).0
      go (no l) =
          let none : expression_at d n ≡ no_node = get_or-eq_default d.expressions no_node (omega arith) in
          let constant-kind : expression_kind (expression_at d n).kind ≡ constants = kind_constants (ap (λ (x : Node). x.kind) none) in
          let both : constants ≡ reads = sym constant-kind ∙ is in
          let z : ◌≡◌ {A = ℕ} 0 1 = cc in
          absurd (omega arith)

  every_assigned : (n : ℕ) → command_kind (command_at d n).kind ≡ assigns → RegisterByte d (command_at d n).item
  every_assigned n is = go (dec_lt n (length d.commands))
    where
      go : Dec (n < length d.commands) → RegisterByte d (command_at d n).item
      go (yes l) = (rw is at (keeps.commands n l)).0
      go (no l) =
          let none : command_at d n ≡ no_node = get_or-eq_default d.commands no_node (omega arith) in
          let skipped : command_kind (command_at d n).kind ≡ skips = kind_skips (ap (λ (x : Node). x.kind) none) in
          let number = ap command_number (sym skipped ∙ is) in
          absurd (omega arith)

  abbrev FitReads : Expr → Type 0
  FitReads e = ReadsScoped d s e → ReadsFit d bound e

  abbrev FitCommand : Cmd → Type 0
  FitCommand c = Scoped d s c → CommandFits d bound c

  reads_kind : (kind : ExpressionKind) (n : ℕ) (x : Node) (p q : Expr) → (kind ≡ reads → RegisterByte d x.item) → FitReads p → FitReads q → FitReads (expr_of_kind kind n x p q)
  unfolding expr_of_kind ReadsFit
  reads_kind constants n x p q own f g scoped = tt
  reads_kind reads n x p q own f g scoped = name_fits x.item (own refl) scoped
  reads_kind (operates o) n x p q own f g scoped = (f scoped.0, g scoped.1)
  reads_kind unknown_expression n x p q own f g scoped = tt

  expr_fits : (n : ℕ) → FitReads (expr_of d n)
  unfolding expr_of expr_step ReadsFit
  expr_fits n =
      recursively_all
      (constant 0)
      (expr_step d)
      FitReads
      (λ scoped. tt)
      (λ m below h. let x = expression_at d m in
      reads_kind (expression_kind x.kind) m x _ _ (every_read m) (h x.a) (h x.b))
      n

  command_kind_lem : (kind : CommandKind) (n : ℕ) (x : Node) (e : Expr) (p q r : Cmd) → (kind ≡ assigns → RegisterByte d x.item) → FitReads e → FitCommand p → FitCommand q → FitCommand r → FitCommand (cmd_of_kind kind n x e p q r)
  unfolding cmd_of_kind CommandFits
  command_kind_lem skips n x e p q r own k f g h scoped = tt
  command_kind_lem assigns n x e p q r own k f g h scoped = (name_fits x.item (own refl) scoped.0, k scoped.1)
  command_kind_lem sequences n x e p q r own k f g h scoped = (f scoped.0, g scoped.1)
  command_kind_lem falls n x e p q r own k f g h scoped = tt
  command_kind_lem goes n x e p q r own k f g h scoped = tt
  command_kind_lem branches n x e p q r own k f g h scoped = (k scoped.0, g scoped.1, h scoped.2)
  command_kind_lem unknown_command n x e p q r own k f g h scoped = tt

  cmd_fits : (n : ℕ) → FitCommand (cmd_of d n)
  unfolding cmd_of cmd_step CommandFits
  cmd_fits n =
      recursively_all
      (skip 0)
      (cmd_step d)
      FitCommand
      (λ scoped. tt)
      (λ m below h. let x = command_at d m in
      command_kind_lem (command_kind x.kind) m x _ _ _ _ (every_assigned m) (expr_fits x.a) (h x.a) (h x.b) (h x.c))
      n

-- ---- the registers bound in one number
mapped : (f : ℕ → ℕ) (l : List ℕ) (k : ℕ) → k < length l → get_or (map f l) k 0 ≡ f (get_or l k 0)
mapped f [] k h = absurd (omega arith)
mapped f (x ∷ l) zero h = refl
mapped f (x ∷ l) (suc k) h = mapped f l k (omega arith)

module _ {image : List ℕ} {x : Design} {scopes registers area : List ℕ} {s : ℕ} (here : Entered image x scopes registers area s) where
  count_is : x.states ≡ length (design_of image).states
  count_is = states_count here.known.describes

  state_is : s < length (design_of image).states
  state_is = let count = count_is in let state = here.state in omega arith

  short : length (scope_of (design_of image) s) ≤ 2
  short = (here.keeps.design.structure.parameters s state_is).scope

  -- an entry of the scope, or 0, stands in the area
  entry_below : (i : ℕ) → get_or (scope_of (design_of image) s) i 0 < 2 * x.states
  entry_below i = go (dec_lt i (length (scope_of (design_of image) s)))
    where
      go : Dec (i < length (scope_of (design_of image) s)) → get_or (scope_of (design_of image) s) i 0 < 2 * x.states
      go (yes l) = let count = count_is in let below = parameter_number here.known.states (parameters_kept_lem here.keeps) i state_is l in omega arith
      go (no l) = let state = here.state in let none = get_or-eq_default (scope_of (design_of image) s) 0 {n = i} (omega (arith, l)) in omega arith

  pub body_packable : Packable scopes x.states area s
  body_packable =
      let long = here.scopes.long in
      let count = count_is in
      let state = here.state in
      let size = here.states in
      let first = here.scopes.first s state_is in
      let second = here.scopes.second s state_is in
      let first_below = entry_below 0 in
      let second_below = entry_below 1 in
      record { entry = omega arith; first = omega arith; second = omega arith }

  bound_at : (i : ℕ) → i < length (scope_of (design_of image) s) → get_or (bound_in (design_of image) (bindings_in (design_of image) area) s) i 0 ≡ get_or area (x.states + get_or (scope_of (design_of image) s) i 0) 0
  unfolding bound_in
  bound_at i l =
      mapped (λ v. get_or (bindings_in (design_of image) area) v 0) (scope_of (design_of image) s) i l
      ∙ rw (← count_is) (get_or-drop x.states area (get_or (scope_of (design_of image) s) i 0) 0)

  bound_none : (i : ℕ) → length (scope_of (design_of image) s) ≤ i → get_or (bound_in (design_of image) (bindings_in (design_of image) area) s) i 0 ≡ 0
  unfolding bound_in
  bound_none i l =
      let long = length-map (scope_of (design_of image) s) (λ v. get_or (bindings_in (design_of image) area) v 0) in
      get_or-eq_default (map (λ v. get_or (bindings_in (design_of image) area) v 0) (scope_of (design_of image) s)) 0 (omega arith)

  module _ {packed : ℕ} (p : Packed scopes x.states area s packed) where
    first_is : packed % 256 ≡ get_or (bound_in (design_of image) (bindings_in (design_of image) area) s) 0 0
    first_is = go (dec_lt 0 (length (scope_of (design_of image) s)))
      where
        counted : get_or scopes (3 * s) 0 ≡ length (scope_of (design_of image) s)
        counted = here.scopes.count s state_is

        go : Dec (0 < length (scope_of (design_of image) s)) → packed % 256 ≡ get_or (bound_in (design_of image) (bindings_in (design_of image) area) s) 0 0
        go (yes l) = (rw (counted, lt-ltb 0 (length (scope_of (design_of image) s)) l, here.scopes.first s state_is) at p.first) ∙ sym (bound_at 0 l)
        go (no l) = (rw (counted, le-ltb 0 (length (scope_of (design_of image) s)) (omega (arith, l))) at p.first) ∙ sym (bound_none 0 (omega (arith, l)))

    second_is : packed / 256 ≡ get_or (bound_in (design_of image) (bindings_in (design_of image) area) s) 1 0
    second_is = go (dec_lt 1 (length (scope_of (design_of image) s)))
      where
        counted : get_or scopes (3 * s) 0 ≡ length (scope_of (design_of image) s)
        counted = here.scopes.count s state_is

        go : Dec (1 < length (scope_of (design_of image) s)) → packed / 256 ≡ get_or (bound_in (design_of image) (bindings_in (design_of image) area) s) 1 0
        go (yes l) = (rw (counted, lt-ltb 1 (length (scope_of (design_of image) s)) l, here.scopes.second s state_is) at p.second) ∙ sym (bound_at 1 l)
        go (no l) = (rw (counted, le-ltb 1 (length (scope_of (design_of image) s)) (omega (arith, l))) at p.second) ∙ sym (bound_none 1 (omega (arith, l)))

    pub all_bound : (i : ℕ) → get_or (bound_of packed) i 0 ≡ get_or (bound_in (design_of image) (bindings_in (design_of image) area) s) i 0
    all_bound zero = first_is
    all_bound (suc zero) = second_is
    all_bound (suc (suc i)) = let few = short in sym (bound_none (suc (suc i)) (omega arith))

    bound_exists : (i : ℕ) → i < length (scope_of (design_of image) s) → get_or (bound_of packed) i 0 < length (design_of image).registers
    unfolding bound_sound bound_in
    bound_exists i l =
        let d = design_of image in
        let v = get_or (scope_of d s) i 0 in
        let r = get_or (bindings_in d area) v 0 in
        let sound = all_of_at (bound_sound d (bindings_in d area)) (scope_of d s) here.bound i l in
        let one = and_first (ltb r (length d.registers) && not (is_port d r)) (within_bounds d v (register_label d r)) sound in
        let below = ltb-true r (length d.registers) (and_first (ltb r (length d.registers)) (not (is_port d r)) one) in
        rw (all_bound i ∙ mapped (λ v. get_or (bindings_in d area) v 0) (scope_of d s) i l) below

    module _ {c : ℕ} (e : c ≡ (state_in image x.states_at s).command) where
      pub body_performing : Performing image x registers packed c
      unfolding body_of
      body_performing =
          let d = design_of image in
          let count = registers_count here.known.describes in
          let most = registers_most here.known.describes in
          let structure = here.keeps.design.structure in
          record {
            known = here.known;
            command = command_at_lem here.known.describes here.known.commands (body_below here.known.describes here.state e here.known.states) refl;
            fits = rw (body_is here.known.describes here.state e) (cmd_fits d s (bound_of packed) structure (omega arith) bound_exists (state_at d s).command (structure.scoped s state_is));
            area = here.area;
          }

      pub body_rule : (before after : List ℕ) {o : Outcome} → executed_as (values_in (design_of image) after) o ≡ exec (design_of image).registers (values_in (design_of image) before) (cmd_with (bound_of packed) (cmd_of (design_of image) c))
          → executed_as (values_in (design_of image) after) o ≡ exec (design_of image).registers (values_in (design_of image) before) (body_with (design_of image) (bindings_in (design_of image) area) s)
      unfolding body_of body_with
      body_rule before after h =
          let same = cmd_same (bound_of packed) (bound_in (design_of image) (bindings_in (design_of image) area) s) all_bound (cmd_of (design_of image) c) in
          rw (← body_is here.known.describes here.state e, ← same) h

-- ---- how a body ends
module _ {image : List ℕ} {x : Design} {scopes registers area : List ℕ} {s : ℕ} (here : Entered image x scopes registers area s) where
  bindings_size : length (bindings_in (design_of image) area) ≡ 2 * length (design_of image).states
  bindings_size =
      let count = count_is here in
      let size = here.states in
      let behind = length-drop (length (design_of image).states) area in
      omega arith

  body_ended : (values : List ℕ) → Ended (design_of image) (bindings_in (design_of image) area) s (label_with (design_of image) (bindings_in (design_of image) area) s ∷ []) (body_with (design_of image) (bindings_in (design_of image) area) s) (exec (design_of image).registers values (body_with (design_of image) (bindings_in (design_of image) area) s)).outcome
  unfolding body_with label_with
  body_ended values =
      let d = design_of image in
      let bindings = bindings_in d area in
      let whole = accepted here.keeps here.known.describes in
      let structure = whole.structure in
      let state = state_is here in
      let flows = flows_with d whole bindings s state here.bound bindings_size (state_label d s ∷ []) (body_of d s) (structure.shaped s state) (structure.scoped s state) (body_spares d structure s) (whole.flowing s state) in
      exec_ends d bindings s (label_with d bindings s ∷ []) values (body_with d bindings s) (body_shaped d whole s state bindings) flows

  pub body_ends : (before after : List ℕ) {o : Outcome} → executed_as (values_in (design_of image) after) o ≡ exec (design_of image).registers (values_in (design_of image) before) (body_with (design_of image) (bindings_in (design_of image) area) s) → Ends image x o
  body_ends before after {o} ran =
      record {
        state = λ t a b e. let count = count_is here in let state = (sibling_child (design_of image) s t (ended t a b e).1).state in omega arith;
        arguments = λ t a b e. let runs = (ended t a b e).2 in record { first = λ some. existing (runs.first some).exists; second = λ two. existing (runs.second two).exists };
      }
    where
      existing : {r : ℕ} → r < length (design_of image).registers → r < x.registers
      existing l = let count = registers_count here.known.describes in omega arith

      ended : (t a b : ℕ) → o ≡ Transferred (Goto t a b) → Ended (design_of image) (bindings_in (design_of image) area) s (label_with (design_of image) (bindings_in (design_of image) area) s ∷ []) (body_with (design_of image) (bindings_in (design_of image) area) s) (Transferred (Goto t a b))
      ended t a b e = rw (ap (λ (y : Executed). y.outcome) (sym ran) ∙ e) at (body_ended (values_in (design_of image) before))

  -- from what the execution tells
  module _ {packed c : ℕ} (p : Packed scopes x.states area s packed) (e : c ≡ (state_in image x.states_at s).command) where
    pub body_tells : (before after : List ℕ) {o : Outcome} → executed_as (values_in (design_of image) after) o ≡ exec (design_of image).registers (values_in (design_of image) before) (cmd_with (bound_of packed) (cmd_of (design_of image) c)) → Ends image x o
    body_tells before after h = body_ends before after (body_rule here p e before after h)
