-- A design under new numbers keeps the rules where the old one does: every record of it is one that stays, of which each rule says what it said of the old one.
use Prim.Native.Nat.{ℕ, ◌<◌}
use mathlib.Core.Path.{◌≡◌, sym, ◌∙◌, ap, subst}
use mathlib.Core.Bool.{true}
use mathlib.Core.List.{List, [], ◌∷◌}
use native.Mathlib.Omega.{arith}
use lib.ListN.{length, get_or}
use Rattle.model.specs.Image.{Design, State, Register, no_register, state_at, register_at}
use Rattle.model.specs.Lattice.{state_label}
use Rattle.model.specs.States.{parent}
use Rattle.model.specs.Trees.{body_of}
use Rattle.model.specs.Shape.{transfers}
use Rattle.model.specs.Rules.{RegisterKeeps, StateKeeps, CommandKeeps, ExpressionKeeps, CommandUsedOnce, ExpressionUsedOnce, CommandDepthKeeps, ExpressionDepthKeeps, NamesNoPort, PairKeeps, PairUnused, ParametersKeep, Shaped, Scoped, ChildLabelKeeps, Flows, DesignKeeps}
use Rattle.model.proofs.Laws.States.{child_of}
use Rattle.renumbering.specs.Renumbering.{renumbered_state, renumbered_cmd}
use Rattle.renumbering.specs.Renumbers.{Renumbers}
use Rattle.renumbering.proofs.Trees.{body_renumbered}
use Rattle.renumbering.proofs.Unnumbered.{same_transfers, holds_renumbered}
use Rattle.renumbering.proofs.States.{parent_renumbered, same_label, same_count, root_is, root_goes_lem, default_was}
use Rattle.renumbering.proofs.Scopes.{same_scope_length, choice_renumbered}
use Rattle.renumbering.proofs.Bodies.{body_names, shaped_renumbered, scoped_renumbered, flows_renumbered}
use Rattle.renumbering.proofs.Nodes.{command_keeps, expression_keeps, command_once, expression_once, command_depth, expression_depth, names_no_port_lem}

-- what holds of all that stays holds of all that is
each :
    {number : ℕ → ℕ} {Stays : ℕ → Type 0} {n : ℕ}
    → ((m : ℕ) → m < n → (k : ℕ) × Stays k × (number k ≡ m))
    → (P : ℕ → Type 0)
    → ((k : ℕ) → Stays k → P (number k))
    → (m : ℕ)
    → m < n
    → P m
each all P h m l = let (k, stays, is) = all m l in subst P is (h k stays)

module _ {d d' : Design} {state command expression : ℕ → ℕ} {S C E : ℕ → Type 0} (keeps : DesignKeeps d) (new : Renumbers d d' state command expression S C E) where
  rows_count : length d'.rows ≡ length d.rows
  rows_count = ap length new.rows

  body_is : (s : ℕ) → S s → body_of d' (state s) ≡ renumbered_cmd state command expression (body_of d s)
  body_is s stays = body_renumbered d d' state command expression S C E keeps new s stays

  register_keeps : (r : ℕ) → r < length d'.registers → RegisterKeeps d' r
  register_keeps r l =
      let count : length d'.registers ≡ length d.registers = ap length new.registers in
      let old = keeps.structure.registers r (omega arith) in
      let same : register_at d' r ≡ register_at d r = ap (λ (rs : List Register). get_or rs r no_register) new.registers in
      record {
        label = rw (ap (λ (x : Register). x.label) same, rows_count) old.label;
        kind = rw same old.kind;
        width_least = rw same old.width_least;
        width_most = rw same old.width_most;
        reset = rw same old.reset;
      }

  state_keeps : (s : ℕ) → S s → StateKeeps d' (state s)
  unfolding renumbered_state
  state_keeps s stays =
      let old = keeps.structure.states s (new.states_old s stays) in
      let above = parent_renumbered keeps new s stays in
      let same = same_label keeps new s stays in
      record {
        root_parent = λ e. above ∙ root_goes_lem keeps new (parent d s) (old.root_parent (root_is keeps new s stays e));
        root_label = λ e. rw same (old.root_label (root_is keeps new s stays e));
        parent_below = λ e. rw above (new.states_order (parent d s) s (new.parent_stays s stays) stays (old.parent_below (λ z. e (root_goes_lem keeps new s z))));
        label = rw (same, rows_count) old.label;
        command = rw (ap (λ (x : State). x.command) (new.state_is s stays)) (new.commands_new (state_at d s).command (new.body_stays s stays));
      }

  -- ---- parameters
  pair_kept_lem : (lower upper : ℕ) → PairKeeps d lower upper → PairKeeps d' lower upper
  pair_kept_lem lower upper pair =
      record { lower_label = rw rows_count pair.lower_label; upper_label = rw rows_count pair.upper_label; flows = rw new.rows pair.flows }

  pair_unused : (lower upper : ℕ) → PairUnused d lower upper → PairUnused d' lower upper
  pair_unused lower upper pair = record { lower_zero = pair.lower_zero; upper_zero = pair.upper_zero }

  parameters_keep : (s : ℕ) → S s → ParametersKeep d' (state s)
  unfolding renumbered_state
  parameters_keep s stays =
      let old = keeps.structure.parameters s (new.states_old s stays) in
      let is = new.state_is s stays in
      let count = same_count keeps new s stays in
      let scope = same_scope_length keeps new s stays in
      record {
        count = rw count old.count;
        root_none = λ e. count ∙ old.root_none (root_is keeps new s stays e);
        default_none = λ q child. count ∙ old.default_none (parent d s) (default_was keeps new q s stays child);
        scope = rw scope old.scope;
        first_pair = λ used. rw is (pair_kept_lem (state_at d s).first_lower (state_at d s).first_upper (old.first_pair (rw count at used)));
        first_unused = λ unused. rw is (pair_unused (state_at d s).first_lower (state_at d s).first_upper (old.first_unused (rw count at unused)));
        second_pair = λ used. rw is (pair_kept_lem (state_at d s).second_lower (state_at d s).second_upper (old.second_pair (rw count at used)));
        second_unused = λ unused. rw is (pair_unused (state_at d s).second_lower (state_at d s).second_upper (old.second_unused (rw count at unused)));
        label = rw (same_label keeps new s stays, scope) old.label;
      }

  -- ---- the label of a default child
  child_label_keeps : (q : ℕ) → S q → ChildLabelKeeps d' (state q)
  child_label_keeps q stays t holds child choice chosen =
      let is = child_of d' t (state q) child.child in
      let above : t ≡ state (parent d q) = sym is.parent_is ∙ parent_renumbered keeps new q stays in
      let up = new.parent_stays q stays in
      let falls = (holds_renumbered state command expression (body_of d (parent d q))).0 (rw (above, body_is (parent d q) up) at holds) in
      let old = keeps.structure.child_labels q (new.states_old q stays) (parent d q) falls (default_was keeps new t q stays child) in
      rw
      (above, same_label keeps new (parent d q) up, same_label keeps new q stays, new.rows)
      (old choice (choice_renumbered keeps new q choice stays chosen))

  -- ---- bodies
  transferring_renumbered : (s : ℕ) → S s → transfers (body_of d' (state s)) ≡ true
  transferring_renumbered s stays =
      ap transfers (body_is s stays) ∙ same_transfers state command expression (body_of d s) ∙ keeps.structure.transferring s (new.states_old s stays)

  body_shaped : (s : ℕ) → S s → Shaped d' (state s) (body_of d' (state s))
  body_shaped s stays =
      rw (body_is s stays) (shaped_renumbered keeps new s stays (body_of d s) (body_names keeps new s stays) (λ h. h) (keeps.structure.shaped s (new.states_old s stays)))

  body_scoped : (s : ℕ) → S s → Scoped d' (state s) (body_of d' (state s))
  body_scoped s stays = rw (body_is s stays) (scoped_renumbered keeps new s stays (body_of d s) (body_names keeps new s stays) (keeps.structure.scoped s (new.states_old s stays)))

  body_flows : (s : ℕ) → S s → Flows d' (state s) (state_label d' (state s) ∷ []) (body_of d' (state s))
  body_flows s stays =
      rw
      (body_is s stays, same_label keeps new s stays)
      (flows_renumbered keeps new s stays (state_label d s ∷ []) (body_of d s) (body_names keeps new s stays) (keeps.flowing s (new.states_old s stays)))

module _ (d d' : Design) (state command expression : ℕ → ℕ) (S C E : ℕ → Type 0) (keeps : DesignKeeps d) (new : Renumbers d d' state command expression S C E) where
  pub renumbered_keeps : DesignKeeps d'
  renumbered_keeps =
      record {
        structure = record {
          lattice = rw new.rows keeps.structure.lattice;
          registers = register_keeps keeps new;
          states = each new.states_all (StateKeeps d') (state_keeps keeps new);
          commands = each new.commands_all (CommandKeeps d') (command_keeps keeps new);
          expressions = each new.expressions_all (ExpressionKeeps d') (expression_keeps keeps new);
          commands_used = each new.commands_all (CommandUsedOnce d') (command_once keeps new);
          expressions_used = each new.expressions_all (ExpressionUsedOnce d') (expression_once keeps new);
          commands_depth = each new.commands_all (CommandDepthKeeps d') (command_depth keeps new);
          expressions_depth = each new.expressions_all (ExpressionDepthKeeps d') (expression_depth keeps new);
          transferring = each new.states_all (λ s. transfers (body_of d' s) ≡ true) (transferring_renumbered keeps new);
          shaped = each new.states_all (λ s. Shaped d' s (body_of d' s)) (body_shaped keeps new);
          ports = each new.commands_all (NamesNoPort d') (names_no_port_lem keeps new);
          parameters = each new.states_all (ParametersKeep d') (parameters_keep keeps new);
          scoped = each new.states_all (λ s. Scoped d' s (body_of d' s)) (body_scoped keeps new);
          child_labels = each new.states_all (ChildLabelKeeps d') (child_label_keeps keeps new);
        };
        flowing = each new.states_all (λ s. Flows d' s (state_label d' s ∷ []) (body_of d' s)) (body_flows keeps new);
      }
