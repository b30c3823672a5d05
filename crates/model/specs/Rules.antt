-- The rules of document 01, as document 02 changes them, as propositions. `Keeps` is what "keeps the rules" means; that the verdict accepts exactly the
-- images that keep them is the law `verdict_exact` of `proofs/Exact.antt`.
use Rattle.std.specs.Prelude.{ℕ, ◌+◌, ◌-◌, ◌%◌, ◌≤◌, ◌<◌, ◌^◌, ◌≡◌, ◌⊎◌, true, false, List, [], ◌∷◌, ◌++◌, length, get_or}
use Rattle.model.specs.Limits.{directory_length, depth_max, width_max, parameters_max, parameter_register, parameter_label, binding_length}
use Rattle.model.specs.Indices.{occurrences}
use Rattle.model.specs.Image.{Section, Labels, Registers, States, Commands, Expressions, record_length, fewest, most, offset, size, count, end, Design, Node, register_at, state_at, command_at, expression_at, design_of}
use Rattle.model.specs.Lattice.{flows_to, register_label, state_label}
use Rattle.model.specs.States.{parent, is_child, has_child, sibling_or_self}
use Rattle.model.specs.Kinds.{CommandKind, skips, assigns, sequences, falls, goes, branches, unknown_command, ExpressionKind, constants, reads, unknown_expression, operates, command_kind, expression_kind}
use Rattle.model.specs.Trees.{Expr, constant, register, binary, Cmd, skip, assign, sequence, fall, goto, branch, expr_of, cmd_of, body_of, expr_depth, cmd_depth}
use Rattle.model.specs.Nodes.{command_uses, expression_uses}
use Rattle.model.specs.Shape.{transfers}
use Rattle.model.specs.Parameters.{lower_bound, upper_bound, scope_of, label_under}
use Rattle.model.specs.Scopes.{name_kept, arguments_kept}
use Rattle.model.specs.Flow.{labels_read, assign_flows, goto_flows, fall_flows}

-- a section holds a whole number of records, within the table's limits
pub record SectionKeeps (image : List ℕ) (s : Section) : Type 0 where
  pub whole : size image s % record_length s ≡ 0
  pub at_least : fewest s ≤ count image s
  pub at_most : count image s ≤ most s

-- "The first offset is 20; each later one is the sum of offset and length before it; the last section ends at the image's end."
pub record DirectoryKeeps (image : List ℕ) : Type 0 where
  pub present : directory_length ≤ length image
  pub labels_at : offset image Labels ≡ directory_length
  pub registers_at : offset image Registers ≡ end image Labels
  pub states_at : offset image States ≡ end image Registers
  pub commands_at : offset image Commands ≡ end image States
  pub expressions_at : offset image Expressions ≡ end image Commands
  pub ends : length image ≡ end image Expressions
  pub sections : (s : Section) → SectionKeeps image s

-- "i flows to j"
abbrev pub FlowsTo : List ℕ → ℕ → ℕ → Type 0
FlowsTo rows i j = flows_to rows i j ≡ true

-- k is a least common label above i and j
pub record LeastAbove (rows : List ℕ) (i j k : ℕ) : Type 0 where
  pub label : k < length rows
  pub above_first : FlowsTo rows i k
  pub above_second : FlowsTo rows j k
  pub below_others : (m : ℕ) → m < length rows → FlowsTo rows i m → FlowsTo rows j m → FlowsTo rows k m

-- the rules of label i, with i first
pub record LabelKeeps (rows : List ℕ) (i : ℕ) : Type 0 where
  pub inside : get_or rows i 0 < 2 ^ length rows
  pub reflexive : FlowsTo rows i i
  pub antisymmetric : (j : ℕ) → j < length rows → FlowsTo rows i j → FlowsTo rows j i → i ≡ j
  pub transitive : (j : ℕ) → j < length rows → (k : ℕ) → k < length rows → FlowsTo rows i j → FlowsTo rows j k → FlowsTo rows i k
  pub least : i ≡ 0 → (j : ℕ) → j < length rows → FlowsTo rows 0 j
  pub join : (j : ℕ) → j < length rows → (k : ℕ) × LeastAbove rows i j k

-- "The label rows are a lattice with label 0 least"
pub record IsLattice (rows : List ℕ) : Type 0 where
  pub inside : (i : ℕ) → i < length rows → get_or rows i 0 < 2 ^ length rows
  pub reflexive : (i : ℕ) → i < length rows → FlowsTo rows i i
  pub antisymmetric : (i j : ℕ) → i < length rows → j < length rows → FlowsTo rows i j → FlowsTo rows j i → i ≡ j
  pub transitive : (i j k : ℕ) → i < length rows → j < length rows → k < length rows → FlowsTo rows i j → FlowsTo rows j k → FlowsTo rows i k
  pub least : (j : ℕ) → j < length rows → FlowsTo rows 0 j
  pub join : (i j : ℕ) → i < length rows → j < length rows → (k : ℕ) × LeastAbove rows i j k

-- a fall stands somewhere in the command
pub data HoldsFall : Cmd → Type 0 where
  itself : {n : ℕ} → HoldsFall (fall n)
  in_first : {n : ℕ} {p q : Cmd} → HoldsFall p → HoldsFall (sequence n p q)
  in_second : {n : ℕ} {p q : Cmd} → HoldsFall q → HoldsFall (sequence n p q)
  in_then : {n : ℕ} {e : Expr} {p q : Cmd} → HoldsFall p → HoldsFall (branch n e p q)
  in_else : {n : ℕ} {e : Expr} {p q : Cmd} → HoldsFall q → HoldsFall (branch n e p q)

-- 02, E8: "state label bytes 16 and 17", "Register bytes 64 and 65"
pub record ParameterLabel (byte : ℕ) : Type 0 where
  pub at_least : parameter_label ≤ byte
  pub below : byte < parameter_label + binding_length

pub record ParameterRegister (byte : ℕ) : Type 0 where
  pub at_least : parameter_register ≤ byte
  pub below : byte < parameter_register + binding_length

-- ---- choices (02, E8)
-- a label within the bounds of parameter v
pub record Within (d : Design) (v label : ℕ) : Type 0 where
  pub above : FlowsTo d.rows (lower_bound d v) label
  pub below : FlowsTo d.rows label (upper_bound d v)

-- a choice: for each parameter of a scope a label within its bounds
pub data IsChoice (d : Design) : List ℕ → List ℕ → Type 0 where
  none_chosen : IsChoice d [] []
  one_more : {v label : ℕ} {scope choice : List ℕ} → label < length d.rows → Within d v label → IsChoice d scope choice → IsChoice d (v ∷ scope) (label ∷ choice)

-- "for each choice of labels within the bounds in scope" of state s
abbrev pub EveryChoice : Design → ℕ → (List ℕ → Type 0) → Type 0
EveryChoice d s P = (choice : List ℕ) → IsChoice d (scope_of d s) choice → P choice

module _ (d : Design) where
  pub record RegisterKeeps (r : ℕ) : Type 0 where
    pub label : register_label d r < length d.rows
    pub kind : (register_at d r).kind ≤ 1
    -- 02, E2: "a width of 1 to 32", and no "reset value too large"
    pub width_least : 1 ≤ (register_at d r).width
    pub width_most : (register_at d r).width ≤ width_max
    pub reset : (register_at d r).reset < 2 ^ (register_at d r).width

  pub record StateKeeps (s : ℕ) : Type 0 where
    pub root_parent : s ≡ 0 → parent d s ≡ 0
    pub root_label : s ≡ 0 → (state_label d s ≡ 0) ⊎ ParameterLabel (state_label d s)
    pub parent_below : (s ≡ 0 → ⊥) → parent d s < s
    pub label : (state_label d s < length d.rows) ⊎ ParameterLabel (state_label d s)
    pub command : (state_at d s).command < length d.commands

  -- a register's number, or a byte that names a parameter
  abbrev pub RegisterByte : ℕ → Type 0
  RegisterByte r = (r < length d.registers) ⊎ ParameterRegister r

  -- what a node of each kind holds
  abbrev pub CommandHolds : ℕ → CommandKind → Node → Type 0
  CommandHolds n skips x = (x.item ≡ 0) × (x.a ≡ 0) × (x.b ≡ 0) × (x.c ≡ 0)
  CommandHolds n assigns x = RegisterByte x.item × (x.a < length d.expressions) × (x.b ≡ 0) × (x.c ≡ 0)
  CommandHolds n sequences x = (x.item ≡ 0) × (x.a < n) × (x.b < n) × (x.c ≡ 0)
  CommandHolds n falls x = (x.item ≡ 0) × (x.a ≡ 0) × (x.b ≡ 0) × (x.c ≡ 0)
  CommandHolds n goes x = (x.item < length d.states) × (x.c ≡ 0)
  CommandHolds n branches x = (x.item ≡ 0) × (x.a < length d.expressions) × (x.b < n) × (x.c < n)
  CommandHolds n unknown_command x = ⊥

  abbrev pub ExpressionHolds : ℕ → ExpressionKind → Node → Type 0
  ExpressionHolds n constants x = (x.item ≡ 0) × (x.a ≡ 0)
  ExpressionHolds n reads x = RegisterByte x.item × (x.a ≡ 0) × (x.b ≡ 0) × (x.c ≡ 0)
  ExpressionHolds n (operates o) x = (x.item ≡ 0) × (x.a < n) × (x.b < n) × (x.c ≡ 0)
  ExpressionHolds n unknown_expression x = ⊥

  -- a node is kept, used once, and no deeper than allowed
  abbrev pub CommandKeeps : ℕ → Type 0
  CommandKeeps n = CommandHolds n (command_kind (command_at d n).kind) (command_at d n)

  abbrev pub ExpressionKeeps : ℕ → Type 0
  ExpressionKeeps n = ExpressionHolds n (expression_kind (expression_at d n).kind) (expression_at d n)

  abbrev pub CommandUsedOnce : ℕ → Type 0
  CommandUsedOnce n = occurrences n (command_uses d) ≡ 1

  abbrev pub ExpressionUsedOnce : ℕ → Type 0
  ExpressionUsedOnce n = occurrences n (expression_uses d) ≡ 1

  abbrev pub CommandDepthKeeps : ℕ → Type 0
  CommandDepthKeeps n = cmd_depth (cmd_of d n) ≤ depth_max

  abbrev pub ExpressionDepthKeeps : ℕ → Type 0
  ExpressionDepthKeeps n = expr_depth (expr_of d n) ≤ depth_max

  -- "The default child is the lowest-numbered child": q is that of s
  pub record DefaultChild (s q : ℕ) : Type 0 where
    pub child : is_child d s q ≡ true
    pub lowest : (r : ℕ) → is_child d s r ≡ true → q ≤ r

  -- 02, E4: "refusal 9 now looks only at the default child of a state that holds a fall, charged to that child"
  -- 02, E8: "for each choice of labels within the bounds in scope, and the default-child test is read likewise"
  abbrev pub ChildLabelKeeps : ℕ → Type 0
  ChildLabelKeeps q =
      (s : ℕ)
      → HoldsFall (body_of d s)
      → DefaultChild s q
      → EveryChoice d q (λ choice. FlowsTo d.rows (label_under choice (state_label d s)) (label_under choice (state_label d q)))

  -- 02, E8, refusal 19 at a state. "two pairs of lower and upper label, lower flowing to upper, zero when unused"
  pub record PairKeeps (lower upper : ℕ) : Type 0 where
    pub lower_label : lower < length d.rows
    pub upper_label : upper < length d.rows
    pub flows : FlowsTo d.rows lower upper

  pub record PairUnused (lower upper : ℕ) : Type 0 where
    pub lower_zero : lower ≡ 0
    pub upper_zero : upper ≡ 0

  pub record ParametersKeep (s : ℕ) : Type 0 where
    -- "a count of 0 to 2"
    pub count : (state_at d s).parameters ≤ parameters_max
    -- "the root and default children take none"
    pub root_none : s ≡ 0 → (state_at d s).parameters ≡ 0
    pub default_none : (q : ℕ) → DefaultChild q s → (state_at d s).parameters ≡ 0
    -- "At most two parameters are in scope along a line from the root"
    pub scope : length (scope_of d s) ≤ parameters_max
    pub first_pair : 0 < (state_at d s).parameters → PairKeeps (state_at d s).first_lower (state_at d s).first_upper
    pub first_unused : (state_at d s).parameters ≤ 0 → PairUnused (state_at d s).first_lower (state_at d s).first_upper
    pub second_pair : 1 < (state_at d s).parameters → PairKeeps (state_at d s).second_lower (state_at d s).second_upper
    pub second_unused : (state_at d s).parameters ≤ 1 → PairUnused (state_at d s).second_lower (state_at d s).second_upper
    -- "state label bytes 16 and 17 stand for their labels"
    pub label : (state_label d s < parameter_label) ⊎ (state_label d s - parameter_label < length (scope_of d s))

  -- the parameters that an expression of state s reads are in scope
  abbrev pub ReadsScoped : ℕ → Expr → Type 0
  ReadsScoped s (constant v) = Unit {0}
  ReadsScoped s (register n r) = name_kept d s r ≡ true
  ReadsScoped s (binary o p q) = ReadsScoped s p × ReadsScoped s q

  -- refusal 19 in the body of state s
  abbrev pub Scoped : ℕ → Cmd → Type 0
  Scoped s (skip n) = Unit {0}
  Scoped s (assign n r e) = (name_kept d s r ≡ true) × ReadsScoped s e
  Scoped s (sequence n p q) = Scoped s p × Scoped s q
  Scoped s (fall n) = Unit {0}
  Scoped s (goto n t a b) = arguments_kept d s t a b ≡ true
  Scoped s (branch n e p q) = ReadsScoped s e × Scoped s p × Scoped s q

  -- the shape rules of a command of state s
  abbrev pub Shaped : ℕ → Cmd → Type 0
  Shaped s (skip n) = Unit {0}
  Shaped s (assign n r e) = Unit {0}
  Shaped s (sequence n p q) = (transfers p ≡ false) × Shaped s p × Shaped s q
  Shaped s (fall n) = has_child d s ≡ true
  Shaped s (goto n t a b) = sibling_or_self d s t ≡ true
  Shaped s (branch n e p q) = (transfers p ≡ transfers q) × Shaped s p × Shaped s q

  -- 02, E1: "no assignment may name a port". 02, E8: "Ports are never arguments (refusal 16, at the goto, for a field numbered below the named state's count)"
  pub record NamesNoPort (n : ℕ) : Type 0 where
    pub assigned : command_kind (command_at d n).kind ≡ assigns → (register_at d (command_at d n).item).kind ≡ 1 → ⊥
    pub first_argument : command_kind (command_at d n).kind ≡ goes → 0 < (state_at d (command_at d n).item).parameters → (register_at d (command_at d n).a).kind ≡ 1 → ⊥
    pub second_argument : command_kind (command_at d n).kind ≡ goes → 1 < (state_at d (command_at d n).item).parameters → (register_at d (command_at d n).b).kind ≡ 1 → ⊥

  -- the flow rules of a command of state s in a context
  abbrev pub Flows : ℕ → List ℕ → Cmd → Type 0
  Flows s context (skip n) = Unit {0}
  Flows s context (assign n r e) = assign_flows d s context r e ≡ true
  Flows s context (sequence n p q) = Flows s context p × Flows s context q
  Flows s context (fall n) = fall_flows d s context ≡ true
  Flows s context (goto n t a b) = goto_flows d s context t a b ≡ true
  Flows s context (branch n e p q) = Flows s (context ++ labels_read d e) p × Flows s (context ++ labels_read d e) q

  -- the rules behind refusals 2 to 9, 16 and 19
  pub record StructureKeeps : Type 0 where
    pub lattice : IsLattice d.rows
    pub registers : (r : ℕ) → r < length d.registers → RegisterKeeps r
    pub states : (s : ℕ) → s < length d.states → StateKeeps s
    pub commands : (n : ℕ) → n < length d.commands → CommandKeeps n
    pub expressions : (n : ℕ) → n < length d.expressions → ExpressionKeeps n
    pub commands_used : (n : ℕ) → n < length d.commands → CommandUsedOnce n
    pub expressions_used : (n : ℕ) → n < length d.expressions → ExpressionUsedOnce n
    pub commands_depth : (n : ℕ) → n < length d.commands → CommandDepthKeeps n
    pub expressions_depth : (n : ℕ) → n < length d.expressions → ExpressionDepthKeeps n
    pub transferring : (s : ℕ) → s < length d.states → transfers (body_of d s) ≡ true
    pub shaped : (s : ℕ) → s < length d.states → Shaped s (body_of d s)
    pub ports : (n : ℕ) → n < length d.commands → NamesNoPort n
    pub parameters : (s : ℕ) → s < length d.states → ParametersKeep s
    pub scoped : (s : ℕ) → s < length d.states → Scoped s (body_of d s)
    pub child_labels : (s : ℕ) → s < length d.states → ChildLabelKeeps s

  -- those behind refusals 2 to 12, 16 and 19
  pub record DesignKeeps : Type 0 where
    pub structure : StructureKeeps
    pub flowing : (s : ℕ) → s < length d.states → Flows s (state_label d s ∷ []) (body_of d s)

-- an image keeps the rules
pub record Keeps (image : List ℕ) : Type 0 where
  pub directory : DirectoryKeeps image
  pub design : DesignKeeps (design_of image)
