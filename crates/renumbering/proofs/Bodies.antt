-- The rules of a body hold under new numbers: what the gotos in it name stays, and what is judged at each of its commands is judged as before.
use Prim.Native.Nat.{ℕ, zero, suc, ◌<◌}
use mathlib.Core.Path.{◌≡◌, refl, sym, ◌∙◌, ap, ap₂}
use mathlib.Core.List.Memᴰ
use mathlib.Core.List.{List, ◌++◌}
use native.Mathlib.Omega.{arith}
use Rattle.model.specs.Image.{Design, state_at, command_at}
use Rattle.model.specs.Kinds.{CommandKind, skips, assigns, sequences, falls, goes, branches, unknown_command, command_kind}
use Rattle.model.specs.Trees.{Expr, constant, register, binary, Cmd, skip, assign, sequence, fall, goto, branch, cmd_of, body_of}
use Rattle.model.specs.Nodes.{command_parts}
use Rattle.model.specs.Flow.{labels_read, flows_each}
use Rattle.model.specs.Parameters.{label_byte}
use Rattle.model.specs.Rules.{HoldsFall, itself, in_first, in_second, in_then, in_else, ReadsScoped, Scoped, Shaped, Flows, DesignKeeps}
use Rattle.model.proofs.Laws.Trees.{cmd_skip, cmd_assign, cmd_sequence, cmd_fall, cmd_goto, cmd_branch}
use Rattle.renumbering.specs.Renumbering.{renumbered_expr, renumbered_cmd}
use Rattle.renumbering.specs.Renumbers.{Renumbers}
use Rattle.renumbering.proofs.Trees.{command_held}
use Rattle.renumbering.proofs.Unnumbered.{same_transfers}
use Rattle.renumbering.proofs.States.{same_label, same_sibling, child_kept}
use Rattle.renumbering.proofs.Labels.{same_label_byte, same_labels_read, same_named_label, same_flows, same_name, same_arguments}

-- the states that the gotos of a command name stay
abbrev pub NamedStay : (ℕ → Type 0) → Cmd → Type 0
NamedStay S (skip n) = Unit {0}
NamedStay S (assign n r e) = Unit {0}
NamedStay S (sequence n p q) = NamedStay S p × NamedStay S q
NamedStay S (fall n) = Unit {0}
NamedStay S (goto n t a b) = S t
NamedStay S (branch n e p q) = NamedStay S p × NamedStay S q

module _ {d d' : Design} {state command expression : ℕ → ℕ} {S C E : ℕ → Type 0} (keeps : DesignKeeps d) (new : Renumbers d d' state command expression S C E) where
  -- ---- what is named stays
  named_at : (n : ℕ) → C n → ((p : ℕ) → p < n → C p → NamedStay S (cmd_of d p)) → (k : CommandKind) → command_kind (command_at d n).kind ≡ k → NamedStay S (cmd_of d n)
  unfolding command_parts
  named_at n c below skips is = rw (cmd_skip d n is) tt
  named_at n c below assigns is = rw (cmd_assign d n is) tt
  named_at n c below sequences is =
      let held = command_held keeps new n c sequences is in
      let first = new.parts_stay n (command_at d n).a c (rw is (Memᴰ.head refl)) in
      let second = new.parts_stay n (command_at d n).b c (rw is (Memᴰ.tail (Memᴰ.head refl))) in
      rw (cmd_sequence d n is held.1 held.2) (below (command_at d n).a held.1 first, below (command_at d n).b held.2 second)
  named_at n c below falls is = rw (cmd_fall d n is) tt
  named_at n c below goes is = rw (cmd_goto d n is) (new.named_stays n c is)
  named_at n c below branches is =
      let held = command_held keeps new n c branches is in
      let first = new.parts_stay n (command_at d n).b c (rw is (Memᴰ.head refl)) in
      let second = new.parts_stay n (command_at d n).c c (rw is (Memᴰ.tail (Memᴰ.head refl))) in
      rw (cmd_branch d n is held.2 held.3) (below (command_at d n).b held.2 first, below (command_at d n).c held.3 second)
  named_at n c below unknown_command is = absurd (command_held keeps new n c unknown_command is)

  named_below : (f n : ℕ) → n < f → C n → NamedStay S (cmd_of d n)
  named_below zero n l c = absurd (omega arith)
  named_below (suc f) n l c = named_at n c (λ p m stays. named_below f p (omega arith) stays) (command_kind (command_at d n).kind) refl

  pub body_names : (s : ℕ) → S s → NamedStay S (body_of d s)
  unfolding body_of
  body_names s stays = named_below (suc (state_at d s).command) (state_at d s).command (omega arith) (new.body_stays s stays)

  -- ---- the rules of the body of a state that stays
  module _ (s : ℕ) (stays : S s) where
    pub shaped_renumbered : (c : Cmd) → NamedStay S c → (HoldsFall c → HoldsFall (body_of d s)) → Shaped d s c → Shaped d' (state s) (renumbered_cmd state command expression c)
    unfolding renumbered_cmd
    shaped_renumbered (skip n) named inside h = tt
    shaped_renumbered (assign n r e) named inside h = tt
    shaped_renumbered (sequence n p q) named inside h = (
      same_transfers state command expression p ∙ h.0,
      shaped_renumbered p named.0 (λ k. inside (in_first k)) h.1,
      shaped_renumbered q named.1 (λ k. inside (in_second k)) h.2,
    )
    shaped_renumbered (fall n) named inside h = child_kept keeps new s stays (inside itself) h
    shaped_renumbered (goto n t a b) named inside h = same_sibling keeps new s t stays named ∙ h
    shaped_renumbered (branch n e p q) named inside h = (
      same_transfers state command expression p ∙ h.0 ∙ sym (same_transfers state command expression q),
      shaped_renumbered p named.0 (λ k. inside (in_then k)) h.1,
      shaped_renumbered q named.1 (λ k. inside (in_else k)) h.2,
    )

    reads_renumbered : (e : Expr) → ReadsScoped d s e → ReadsScoped d' (state s) (renumbered_expr state command expression e)
    unfolding renumbered_expr
    reads_renumbered (constant v) h = tt
    reads_renumbered (register n r) h = same_name keeps new s r stays ∙ h
    reads_renumbered (binary o p q) h = (reads_renumbered p h.0, reads_renumbered q h.1)

    pub scoped_renumbered : (c : Cmd) → NamedStay S c → Scoped d s c → Scoped d' (state s) (renumbered_cmd state command expression c)
    unfolding renumbered_cmd
    scoped_renumbered (skip n) named h = tt
    scoped_renumbered (assign n r e) named h = (same_name keeps new s r stays ∙ h.0, reads_renumbered e h.1)
    scoped_renumbered (sequence n p q) named h = (scoped_renumbered p named.0 h.0, scoped_renumbered q named.1 h.1)
    scoped_renumbered (fall n) named h = tt
    scoped_renumbered (goto n t a b) named h = same_arguments keeps new s t a b stays named ∙ h
    scoped_renumbered (branch n e p q) named h = (reads_renumbered e h.0, scoped_renumbered p named.0 h.1, scoped_renumbered q named.1 h.2)

    pub flows_renumbered : (context : List ℕ) (c : Cmd) → NamedStay S c → Flows d s context c → Flows d' (state s) context (renumbered_cmd state command expression c)
    unfolding renumbered_cmd
    flows_renumbered context (skip n) named h = tt
    flows_renumbered context (assign n r e) named h =
        ap₂ (λ (read : List ℕ) (to : ℕ). flows_each d' (state s) (context ++ read) to) (same_labels_read keeps new e) (same_label_byte keeps new r)
        ∙ same_flows keeps new s (context ++ labels_read d e) (label_byte d r) stays
        ∙ h
    flows_renumbered context (sequence n p q) named h = (flows_renumbered context p named.0 h.0, flows_renumbered context q named.1 h.1)
    flows_renumbered context (fall n) named h = ap (flows_each d' (state s) context) (same_label keeps new s stays) ∙ same_flows keeps new s context _ stays ∙ h
    flows_renumbered context (goto n t a b) named h = ap (flows_each d' (state s) context) (same_named_label keeps new t a b named) ∙ same_flows keeps new s context _ stays ∙ h
    flows_renumbered context (branch n e p q) named h =
        let read = same_labels_read keeps new e in (
          rw read (flows_renumbered (context ++ labels_read d e) p named.0 h.0),
          rw read (flows_renumbered (context ++ labels_read d e) q named.1 h.1),
        )
