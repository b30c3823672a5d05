-- 01, 'Shape and flow', as propositions about one command by where it stands: the rules behind refusals 8 and 10 to 12 at a node. `Refusals` has those of shape in
-- the table, and those of flow in the order in which bodies are read (02, E7); that these are the same rules is the law `flow_table_stands`.
use Rattle.std.specs.Prelude.{ℕ, ◌+◌, ◌-◌, ◌*◌, ◌≤◌, ◌<◌, ◌≡◌, ◌↔◌, ◌⊎◌, length}
use mathlib.Core.List.{List, [], ◌∷◌, ◌++◌, Memᴰ}
use Rattle.model.specs.Limits.{expression_place, parameter_register, binding_length}
use Rattle.model.specs.Image.{Design, state_at}
use Rattle.model.specs.Lattice.{state_label}
use Rattle.model.specs.Kinds.{Operation}
use Rattle.model.specs.States.{parent}
use Rattle.model.specs.Parameters.{scope_of, label_byte, label_under}
use Rattle.model.specs.Trees.{Expr, register, binary, Cmd, assign, sequence, fall, goto, branch, body_of}
use Rattle.model.specs.Flow.{labels_read, named_label}
use Rattle.model.specs.Rules.{FlowsTo, Within, EveryChoice}

-- "A command transfers if it is a fall or goto, a sequence whose second part transfers, or an if whose branches both do."
pub data Transfers : Cmd → Type 0 where
  by_fall : {n : ℕ} → Transfers (fall n)
  by_goto : {n t a b : ℕ} → Transfers (goto n t a b)
  by_second : {n : ℕ} {p q : Cmd} → Transfers q → Transfers (sequence n p q)
  by_branches : {n : ℕ} {e : Expr} {p q : Cmd} → Transfers p → Transfers q → Transfers (branch n e p q)

-- an expression reads, at node m, the register byte r
pub data Reads : Expr → ℕ → ℕ → Type 0 where
  itself : {m r : ℕ} → Reads (register m r) m r
  in_left : {o : Operation} {p q : Expr} {m r : ℕ} → Reads p m r → Reads (binary o p q) m r
  in_right : {o : Operation} {p q : Expr} {m r : ℕ} → Reads q m r → Reads (binary o p q) m r

module _ (d : Design) where
  -- state q is a child of s
  pub record ChildOf (s q : ℕ) : Type 0 where
    pub no_root : q ≡ 0 → ⊥
    pub state : q < length d.states
    pub parent_is : parent d q ≡ s

  -- A command stands in the body of state s, in a context: "its state's label and the labels of all registers read in the conditions of the ifs around it".
  pub data Stands (s : ℕ) : List ℕ → Cmd → Type 0 where
    whole : s < length d.states → Stands s (state_label d s ∷ []) (body_of d s)
    in_first : {context : List ℕ} {n : ℕ} {p q : Cmd} → Stands s context (sequence n p q) → Stands s context p
    in_second : {context : List ℕ} {n : ℕ} {p q : Cmd} → Stands s context (sequence n p q) → Stands s context q
    in_then : {context : List ℕ} {n : ℕ} {e : Expr} {p q : Cmd} → Stands s context (branch n e p q) → Stands s (context ++ labels_read d e) p
    in_else : {context : List ℕ} {n : ℕ} {e : Expr} {p q : Cmd} → Stands s context (branch n e p q) → Stands s (context ++ labels_read d e) q

  -- refusal 8, at command n
  pub record ShapeKeeps (n : ℕ) : Type 0 where
    -- "Every state's command transfers"
    pub body : {s : ℕ} → s < length d.states → (state_at d s).command ≡ n → Transfers (body_of d s)
    -- "The first part of a sequence never does (charged to the sequence)."
    pub first_part : {s : ℕ} {context : List ℕ} {p q : Cmd} → Stands s context (sequence n p q) → Transfers p → ⊥
    -- "An if has two transferring branches or none."
    pub branches : {s : ℕ} {context : List ℕ} {e : Expr} {p q : Cmd} → Stands s context (branch n e p q) → Transfers p ↔ Transfers q
    -- "A fall needs a child."
    pub fall_child : {s : ℕ} {context : List ℕ} → Stands s context (fall n) → (q : ℕ) × ChildOf s q
    -- "A goto names a sibling or the state itself; the root holds no goto."
    pub goto_sibling : {s t a b : ℕ} {context : List ℕ} → Stands s context (goto n t a b) → (s ≡ 0 → ⊥) × ChildOf (parent d s) t

  -- ---- refusal 19 (02, E8)
  -- a register byte: a parameter is in the scope of s
  abbrev pub NameKeeps : ℕ → ℕ → Type 0
  NameKeeps s r = (r < parameter_register) ⊎ (r - parameter_register < length (scope_of d s))

  -- register byte r as an argument in state s, given to parameter v
  pub record ArgumentKeeps (s v r : ℕ) : Type 0 where
    pub is : (r < length d.registers) ⊎ ((parameter_register ≤ r) × (r - parameter_register < length (scope_of d s)))
    pub within : EveryChoice d s (λ choice. Within d v (label_under choice (label_byte d r)))

  -- field j of a goto of s to t
  pub record FieldKeeps (s t j r : ℕ) : Type 0 where
    pub used : j < (state_at d t).parameters → ArgumentKeeps s (binding_length * t + j) r
    pub unused : (state_at d t).parameters ≤ j → r ≡ 0

  -- at the place of a node: "a parameter .. scope or argument that breaks these rules, .. at the lowest node"
  pub record ScopeKeeps (place : ℕ) : Type 0 where
    pub assigned : {s r : ℕ} {context : List ℕ} {e : Expr} → Stands s context (assign place r e) → NameKeeps s r
    pub first_argument : {s t a b : ℕ} {context : List ℕ} → Stands s context (goto place t a b) → FieldKeeps s t 0 a
    pub second_argument : {s t a b : ℕ} {context : List ℕ} → Stands s context (goto place t a b) → FieldKeeps s t 1 b
    pub read_value : {s n m r q : ℕ} {context : List ℕ} {e : Expr} → Stands s context (assign n q e) → Reads e m r → place ≡ expression_place + m → NameKeeps s r
    pub read_condition : {s n m r : ℕ} {context : List ℕ} {e : Expr} {p q : Cmd} → Stands s context (branch n e p q) → Reads e m r → place ≡ expression_place + m → NameKeeps s r

  -- ---- refusals 10 to 12
  -- for each choice, every label byte of the list flows to the label byte
  abbrev pub EachFlow : ℕ → List ℕ → ℕ → Type 0
  EachFlow s labels to = EveryChoice d s (λ choice. (label : ℕ) → Memᴰ label labels → FlowsTo d.rows (label_under choice label) (label_under choice to))

  -- "Assign: the context and each register read flow to the label written."
  abbrev pub AssignKeeps : ℕ → Type 0
  AssignKeeps n = (s r : ℕ) (context : List ℕ) (e : Expr) → Stands s context (assign n r e) → EachFlow s (context ++ labels_read d e) (label_byte d r)

  -- "Goto: the context flows to the named state's label."
  abbrev pub GotoKeeps : ℕ → Type 0
  GotoKeeps n = (s t a b : ℕ) (context : List ℕ) → Stands s context (goto n t a b) → EachFlow s context (named_label d t a b)

  -- "Fall: the context flows to the own state's label."
  abbrev pub FallKeeps : ℕ → Type 0
  FallKeeps n = (s : ℕ) (context : List ℕ) → Stands s context (fall n) → EachFlow s context (state_label d s)
