-- Why a command keeps a level's secrets: what it reads, and every condition around it, flows to what it writes and to the state it goes to.
-- In a context that is not seen nothing that is seen is written (`exec_confined`); in one that is seen, two runs that agree go on agreeing (`exec_same`).
use Prim.Native.Nat.{ℕ, ◌<◌}
use mathlib.Core.Path.{◌≡◌, refl, sym, ◌∙◌, ap₂}
use mathlib.Core.Logic.{◌⊎◌, inl, inr}
use mathlib.Core.Bool.{Bool, true, false, cond}
use mathlib.Core.List.{List, [], ◌∷◌, ◌++◌, map}
use lib.Dec.{eqb}
use lib.ListN.{length, set}
use Rattle.model.specs.declared.Ending.TheVariants.{Goto, Fall}
use Rattle.model.specs.declared.Outcome.{Outcome}
use Rattle.model.specs.declared.Outcome.TheVariants.{Continued, Transferred}
use Rattle.model.specs.Image.{Design}
use Rattle.model.specs.Lattice.{all_flow_to, register_label}
use Rattle.model.specs.Trees.{Expr, constant, register, binary, Cmd, skip, assign, sequence, fall, goto, branch, registers_read}
use Rattle.model.specs.Shape.{transfers}
use Rattle.model.specs.Rules.{Shaped}
use Rattle.model.specs.Bindings.{label_with, bound_by}
use Rattle.model.specs.Values.{apply, stored}
use Rattle.model.specs.Machine.{eval, Executed, unless_transferred, exec}
use Rattle.model.specs.Parties.{register_seen, state_seen}
use Rattle.model.proofs.Laws.Booleans.{decide, and_first, and_second, and_both, true_or_false, false_unless_true}
use Rattle.model.proofs.Laws.Joins.{AreLabels, labels_append, all_flow_append, all_flow_first, all_flow_second}
use Rattle.model.proofs.Independence.Labels.{context_unseen, register_label_lem, labels_read_lem}
use Rattle.model.proofs.Independence.Agreement.{Agree, agree_self, agree_sym, agree_trans, agree_unseen, agree_set}
use Rattle.model.proofs.Independence.Instances.{AcceptedDesign, read_labels, RunFlows}
use Rattle.model.proofs.Independence.Endings.{Ended, exec_ends}

-- a list is not seen if a part of it is not
all_flow_more : (rows xs ys : List ℕ) (l : ℕ) → all_flow_to rows xs l ≡ false → all_flow_to rows (xs ++ ys) l ≡ false
all_flow_more rows xs ys l h = false_unless_true (all_flow_to rows (xs ++ ys) l) (λ k. true_or_false (all_flow_to rows xs l) (all_flow_first rows xs ys l k) h)

all_flow_later : (rows xs ys : List ℕ) (l : ℕ) → all_flow_to rows ys l ≡ false → all_flow_to rows (xs ++ ys) l ≡ false
all_flow_later rows xs ys l h = false_unless_true (all_flow_to rows (xs ++ ys) l) (λ k. true_or_false (all_flow_to rows ys l) (all_flow_second rows xs ys l k) h)

module _ (d : Design) (level : ℕ) (keeps : AcceptedDesign d) (is_label : level < length d.rows) where
  -- ---- expressions
  seen_map : (rs ss : List ℕ) → all_flow_to d.rows (map (register_label d) (rs ++ ss)) level ≡ true → (all_flow_to d.rows (map (register_label d) rs) level ≡ true) × (all_flow_to d.rows (map (register_label d) ss) level ≡ true)
  unfolding all_flow_to
  seen_map [] ss h = (refl, h)
  seen_map (r ∷ rs) ss h =
      let rest = seen_map rs ss (and_second (register_seen d level r) (all_flow_to d.rows (map (register_label d) (rs ++ ss)) level) h) in
      (and_both (register_seen d level r) (all_flow_to d.rows (map (register_label d) rs) level) (and_first (register_seen d level r) (all_flow_to d.rows (map (register_label d) (rs ++ ss)) level) h) rest.0, rest.1)

  -- an expression that reads only what is seen has one value in both
  pub eval_same : {v w : List ℕ} → Agree d level v w → (e : Expr) → all_flow_to d.rows (read_labels d e) level ≡ true → eval v e ≡ eval w e
  unfolding eval read_labels registers_read all_flow_to
  eval_same a (constant x) h = refl
  eval_same a (register m r) h = a.values r (and_first (register_seen d level r) true h)
  eval_same a (binary o p q) h =
      let both = seen_map (registers_read p) (registers_read q) h in
      ap₂ (apply o) (eval_same a p both.0) (eval_same a q both.1)

  -- ---- a context that is not seen
  module _ (bindings : List ℕ) (s : ℕ) where
    confined_sequence : {v : List ℕ} (o : Outcome) (first second : Executed) → Agree d level v first.registers → Agree d level first.registers second.registers → Agree d level v (unless_transferred o first second).registers
    confined_sequence Continued first second a b = agree_trans d level a b
    confined_sequence (Transferred ending) first second a b = a

    confined_branch : {v : List ℕ} (is_zero : Bool) (taken other : Executed) → Agree d level v taken.registers → Agree d level v other.registers → Agree d level v (cond is_zero other taken).registers
    confined_branch true taken other a b = b
    confined_branch false taken other a b = a

    pub exec_confined : (context values : List ℕ) (c : Cmd) → RunFlows d bindings s context c → AreLabels d.rows context → all_flow_to d.rows context level ≡ false → Agree d level values (exec d.registers values c).registers
    unfolding exec
    exec_confined context values (skip n) flows labels unseen = agree_self d level values
    exec_confined context values (assign n r e) flows labels unseen =
        agree_unseen
        d
        level
        values
        r
        (stored d.registers r (eval values e))
        (context_unseen
        d
        level
        keeps
        is_label
        context
        (register_label d r)
        labels
        (register_label_lem d level keeps is_label r)
        (all_flow_first d.rows context _ (register_label d r) flows)
        unseen)
    exec_confined context values (sequence n p q) flows labels unseen =
        confined_sequence
        (exec d.registers values p).outcome
        (exec d.registers values p)
        (exec d.registers (exec d.registers values p).registers q)
        (exec_confined context values p flows.0 labels unseen)
        (exec_confined context (exec d.registers values p).registers q flows.1 labels unseen)
    exec_confined context values (fall n) flows labels unseen = agree_self d level values
    exec_confined context values (goto n t x y) flows labels unseen = agree_self d level values
    exec_confined context values (branch n e p q) flows labels unseen =
        let labels' = labels_append d.rows context (read_labels d e) labels (labels_read_lem d level keeps is_label e) in
        let unseen' = all_flow_more d.rows context (read_labels d e) level unseen in
        confined_branch
        (eqb (eval values e) 0)
        (exec d.registers values p)
        (exec d.registers values q)
        (exec_confined (context ++ read_labels d e) values p flows.0 labels' unseen')
        (exec_confined (context ++ read_labels d e) values q flows.1 labels' unseen')

-- ---- a context that is seen
-- outcomes that show the level the same: equal, or gotos to states that are not seen by the labels that their arguments give them
abbrev pub OutcomesAgree : Design → ℕ → List ℕ → List ℕ → Outcome → Outcome → Type 0
OutcomesAgree d level b₁ b₂ Continued Continued = Unit {0}
OutcomesAgree d level b₁ b₂ Continued (Transferred e) = ⊥
OutcomesAgree d level b₁ b₂ (Transferred e) Continued = ⊥
OutcomesAgree d level b₁ b₂ (Transferred Fall) (Transferred Fall) = Unit {0}
OutcomesAgree d level b₁ b₂ (Transferred Fall) (Transferred (Goto u z w)) = ⊥
OutcomesAgree d level b₁ b₂ (Transferred (Goto t x y)) (Transferred Fall) = ⊥
OutcomesAgree d level b₁ b₂ (Transferred (Goto t x y)) (Transferred (Goto u z w)) =
    ((t ≡ u) × (x ≡ z) × (y ≡ w)) ⊎ ((state_seen d level (bound_by d t x y b₁) t ≡ false) × (state_seen d level (bound_by d u z w b₂) u ≡ false))

pub record SameSeen (d : Design) (level : ℕ) (b₁ b₂ : List ℕ) (x y : Executed) : Type 0 where
  pub registers : Agree d level x.registers y.registers
  pub outcomes : OutcomesAgree d level b₁ b₂ x.outcome y.outcome

module _ (d : Design) (level : ℕ) (keeps : AcceptedDesign d) (is_label : level < length d.rows) (b₁ b₂ : List ℕ) (s : ℕ) (seen₁ : state_seen d level b₁ s ≡ true) (seen₂ : state_seen d level b₂ s ≡ true) (label₁ : label_with d b₁ s < length d.rows) (label₂ : label_with d b₂ s < length d.rows) where
  -- in a context that is not seen, commands that both transfer, or both do not, end alike: a state that is seen holds no fall there
  hidden_agree : (context : List ℕ) → AreLabels d.rows context → all_flow_to d.rows context level ≡ false → (p q : Cmd) → transfers p ≡ transfers q → (o₁ o₂ : Outcome) → Ended d b₁ s context p o₁ → Ended d b₂ s context q o₂ → OutcomesAgree d level b₁ b₂ o₁ o₂
  hidden_agree context labels unseen p q same Continued Continued h k = tt
  hidden_agree context labels unseen p q same Continued (Transferred Fall) h k = true_or_false (transfers q) k.0 (sym same ∙ h)
  hidden_agree context labels unseen p q same Continued (Transferred (Goto u z w)) h k = true_or_false (transfers q) k.0 (sym same ∙ h)
  hidden_agree context labels unseen p q same (Transferred Fall) Continued h k = true_or_false (transfers p) h.0 (same ∙ k)
  hidden_agree context labels unseen p q same (Transferred (Goto t x y)) Continued h k = true_or_false (transfers p) h.0 (same ∙ k)
  hidden_agree context labels unseen p q same (Transferred Fall) (Transferred Fall) h k = tt
  hidden_agree context labels unseen p q same (Transferred Fall) (Transferred (Goto u z w)) h k =
      true_or_false (state_seen d level b₁ s) seen₁ (context_unseen d level keeps is_label context (label_with d b₁ s) labels label₁ h.2 unseen)
  hidden_agree context labels unseen p q same (Transferred (Goto t x y)) (Transferred Fall) h k =
      true_or_false (state_seen d level b₂ s) seen₂ (context_unseen d level keeps is_label context (label_with d b₂ s) labels label₂ k.2 unseen)
  hidden_agree context labels unseen p q same (Transferred (Goto t x y)) (Transferred (Goto u z w)) h k =
      inr (
        context_unseen d level keeps is_label context _ labels h.2.label h.2.flows unseen,
        context_unseen d level keeps is_label context _ labels k.2.label k.2.flows unseen,
      )

  same_sequence : (o₁ o₂ : Outcome) (f₁ f₂ s₁ s₂ : Executed) → OutcomesAgree d level b₁ b₂ o₁ o₂ → SameSeen d level b₁ b₂ f₁ f₂ → SameSeen d level b₁ b₂ s₁ s₂ → SameSeen d level b₁ b₂ (unless_transferred o₁ f₁ s₁) (unless_transferred o₂ f₂ s₂)
  same_sequence Continued Continued f₁ f₂ s₁ s₂ o a b = b
  same_sequence Continued (Transferred e) f₁ f₂ s₁ s₂ o a b = absurd o
  same_sequence (Transferred e) Continued f₁ f₂ s₁ s₂ o a b = absurd o
  same_sequence (Transferred e) (Transferred e') f₁ f₂ s₁ s₂ o a b = a

  same_branch : (is_zero : Bool) (t₁ t₂ u₁ u₂ : Executed) → SameSeen d level b₁ b₂ t₁ t₂ → SameSeen d level b₁ b₂ u₁ u₂ → SameSeen d level b₁ b₂ (cond is_zero u₁ t₁) (cond is_zero u₂ t₂)
  same_branch true t₁ t₂ u₁ u₂ a b = b
  same_branch false t₁ t₂ u₁ u₂ a b = a

  -- an if whose condition is not seen: whichever branches the two runs take, they end alike and write nothing that is seen
  module _ (context : List ℕ) (labels : AreLabels d.rows context) (unseen : all_flow_to d.rows context level ≡ false) (p q : Cmd) (same : transfers p ≡ transfers q) (shaped₁ : Shaped d s p) (shaped₂ : Shaped d s q) (flows₁ : RunFlows d b₁ s context p × RunFlows d b₁ s context q) (flows₂ : RunFlows d b₂ s context p × RunFlows d b₂ s context q) where
    hidden_pair : {v w : List ℕ} → Agree d level v w → (c e : Cmd) → transfers c ≡ transfers e → Shaped d s c → Shaped d s e → RunFlows d b₁ s context c → RunFlows d b₂ s context e → SameSeen d level b₁ b₂ (exec d.registers v c) (exec d.registers w e)
    hidden_pair {v} {w} a c e both sc se fc fe =
        record {
          registers = agree_trans d level (agree_sym d level (exec_confined d level keeps is_label b₁ s context v c fc labels unseen)) (agree_trans d level a (exec_confined d level keeps is_label b₂ s context w e fe labels unseen));
          outcomes = hidden_agree context labels unseen c e both (exec d.registers v c).outcome (exec d.registers w e).outcome (exec_ends d b₁ s context v c sc fc) (exec_ends d b₂ s context w e se fe);
        }

    hidden_branch : {v w : List ℕ} → Agree d level v w → (z₁ z₂ : Bool) → SameSeen d level b₁ b₂ (cond z₁ (exec d.registers v q) (exec d.registers v p)) (cond z₂ (exec d.registers w q) (exec d.registers w p))
    hidden_branch a true true = hidden_pair a q q refl shaped₂ shaped₂ flows₁.1 flows₂.1
    hidden_branch a true false = hidden_pair a q p (sym same) shaped₂ shaped₁ flows₁.1 flows₂.0
    hidden_branch a false true = hidden_pair a p q same shaped₁ shaped₂ flows₁.0 flows₂.1
    hidden_branch a false false = hidden_pair a p p refl shaped₁ shaped₁ flows₁.0 flows₂.0

  pub exec_same : (context : List ℕ) {v w : List ℕ} → Agree d level v w → (c : Cmd) → Shaped d s c → RunFlows d b₁ s context c → RunFlows d b₂ s context c → AreLabels d.rows context → all_flow_to d.rows context level ≡ true → SameSeen d level b₁ b₂ (exec d.registers v c) (exec d.registers w c)
  unfolding exec
  exec_same context a (skip n) shaped flows flows₂ labels low = record { registers = a; outcomes = tt }
  exec_same context {v} {w} a (assign n r e) shaped flows flows₂ labels low = record { registers = go (decide (all_flow_to d.rows (read_labels d e) level)); outcomes = tt }
    where
      go : (all_flow_to d.rows (read_labels d e) level ≡ true) ⊎ (all_flow_to d.rows (read_labels d e) level ≡ false) → Agree d level (set v r (stored d.registers r (eval v e))) (set w r (stored d.registers r (eval w e)))
      go (inl h) = rw (eval_same d level keeps is_label a e h) (agree_set d level a r (stored d.registers r (eval w e)))
      go (inr h) =
          let unseen = context_unseen d level keeps is_label (read_labels d e) (register_label d r) (labels_read_lem d level keeps is_label e) (register_label_lem d level keeps is_label r) (all_flow_second d.rows context (read_labels d e) (register_label d r) flows) h in
          agree_trans d level (agree_sym d level (agree_unseen d level v r _ unseen)) (agree_trans d level a (agree_unseen d level w r _ unseen))
  exec_same context {v} {w} a (sequence n p q) shaped flows flows₂ labels low =
      let first = exec_same context a p shaped.1 flows.0 flows₂.0 labels low in
      same_sequence (exec d.registers v p).outcome (exec d.registers w p).outcome (exec d.registers v p) (exec d.registers w p) (exec d.registers (exec d.registers v p).registers q) (exec d.registers (exec d.registers w p).registers q) first.outcomes first (exec_same context first.registers q shaped.2 flows.1 flows₂.1 labels low)
  exec_same context a (fall n) shaped flows flows₂ labels low = record { registers = a; outcomes = tt }
  exec_same context a (goto n t x y) shaped flows flows₂ labels low = record { registers = a; outcomes = inl (refl, refl, refl) }
  exec_same context {v} {w} a (branch n e p q) shaped flows flows₂ labels low =
      go (exec_same (context ++ read_labels d e) a p shaped.1 flows.0 flows₂.0 labels') (exec_same (context ++ read_labels d e) a q shaped.2 flows.1 flows₂.1 labels') (decide (all_flow_to d.rows (read_labels d e) level))
    where
      labels' : AreLabels d.rows (context ++ read_labels d e)
      labels' = labels_append d.rows context (read_labels d e) labels (labels_read_lem d level keeps is_label e)

      go : (all_flow_to d.rows (context ++ read_labels d e) level ≡ true → SameSeen d level b₁ b₂ (exec d.registers v p) (exec d.registers w p)) → (all_flow_to d.rows (context ++ read_labels d e) level ≡ true → SameSeen d level b₁ b₂ (exec d.registers v q) (exec d.registers w q)) → (all_flow_to d.rows (read_labels d e) level ≡ true) ⊎ (all_flow_to d.rows (read_labels d e) level ≡ false) → SameSeen d level b₁ b₂ (cond (eqb (eval v e) 0) (exec d.registers v q) (exec d.registers v p)) (cond (eqb (eval w e) 0) (exec d.registers w q) (exec d.registers w p))
      go k l (inl h) =
          let low' = all_flow_append d.rows context (read_labels d e) level low h in
          rw (eval_same d level keeps is_label a e h) (same_branch (eqb (eval w e) 0) (exec d.registers v p) (exec d.registers w p) (exec d.registers v q) (exec d.registers w q) (k low') (l low'))
      go k l (inr h) =
          hidden_branch (context ++ read_labels d e) labels' (all_flow_later d.rows context (read_labels d e) level h) p q shaped.0 shaped.1 shaped.2 flows flows₂ a (eqb (eval v e) 0) (eqb (eval w e) 0)
