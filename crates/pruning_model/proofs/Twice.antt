-- Pruning twice is pruning once: falls and gotos of what stays lead to the same states under their new numbers, so every state of the pruned design is reached in it. And the
-- pruned design keeps the rules, as any design under new numbers does.
use Prim.Native.Nat.{ℕ, ◌<◌}
use mathlib.Core.Path.{◌≡◌, subst}
use lib.ListN.{length}
use Rattle.model.specs.Image.{Design}
use Rattle.model.specs.Trees.{Cmd, body_of}
use Rattle.model.specs.Rules.{DesignKeeps}
use Rattle.renumbering.specs.Renumbering.{renumbered_cmd}
use Rattle.renumbering.specs.Renumbers.{Renumbers}
use Rattle.renumbering.proofs.Trees.{body_renumbered}
use Rattle.renumbering.proofs.Unnumbered.{holds_renumbered}
use Rattle.renumbering.proofs.States.{default_renumbered}
use Rattle.renumbering.proofs.Keeps.{renumbered_keeps}
use Rattle.pruning_model.specs.Reached.{HoldsGoto, Reached, root, fallen, gone}
use Rattle.pruning_model.specs.Pruned.{new_state, new_command, new_expression, pruned}
use Rattle.pruning_model.proofs.Reached.{reached_least}
use Rattle.pruning_model.proofs.Nodes.{CommandStays, ExpressionStays}
use Rattle.pruning_model.proofs.Renumbers.{pruned_renumbers}
use Rattle.pruning_model.proofs.Whole.{pruned_same}

-- a goto under new numbers names the state's new number
module _ (state command expression : ℕ → ℕ) where
  pub goto_renumbered : {t : ℕ} {c : Cmd} → HoldsGoto t c → HoldsGoto (state t) (renumbered_cmd state command expression c)
  unfolding renumbered_cmd
  goto_renumbered HoldsGoto.itself = HoldsGoto.itself
  goto_renumbered (HoldsGoto.in_first h) = HoldsGoto.in_first (goto_renumbered h)
  goto_renumbered (HoldsGoto.in_second h) = HoldsGoto.in_second (goto_renumbered h)
  goto_renumbered (HoldsGoto.in_then h) = HoldsGoto.in_then (goto_renumbered h)
  goto_renumbered (HoldsGoto.in_else h) = HoldsGoto.in_else (goto_renumbered h)

module _ (d : Design) (keeps : DesignKeeps d) (some : 0 < length d.states) where
  new : Renumbers d (pruned d) (new_state d) (new_command d) (new_expression d) (Reached d) (CommandStays d) (ExpressionStays d)
  new = pruned_renumbers d keeps.structure some

  pub pruned_keeps : DesignKeeps (pruned d)
  pruned_keeps = renumbered_keeps d (pruned d) (new_state d) (new_command d) (new_expression d) (Reached d) (CommandStays d) (ExpressionStays d) keeps new

  pub pruned_some : 0 < length (pruned d).states
  pruned_some = rw new.root_first at (new.states_new 0 root)

  pruned_body : (s : ℕ) → Reached d s → body_of (pruned d) (new_state d s) ≡ renumbered_cmd (new_state d) (new_command d) (new_expression d) (body_of d s)
  pruned_body = body_renumbered d (pruned d) (new_state d) (new_command d) (new_expression d) (Reached d) (CommandStays d) (ExpressionStays d) keeps new

  -- what is reached is reached under its new number
  pub reached_again : {s : ℕ} → Reached d s → Reached (pruned d) (new_state d s)
  reached_again h =
      (reached_least
      d
      (λ s. Reached d s × Reached (pruned d) (new_state d s))
      (root, rw new.root_first root)
      (λ s q (old, now) l f child. (
        fallen old l f child,
        fallen now (new.states_new s old) (rw (pruned_body s old) ((holds_renumbered (new_state d) (new_command d) (new_expression d) (body_of d s)).1 f)) (default_renumbered keeps new s q old f child),
      ))
      (λ s t (old, now) l g. (gone old l g, gone now (new.states_new s old) (rw (pruned_body s old) (goto_renumbered (new_state d) (new_command d) (new_expression d) g))))
      h
      ).1

  pub pruned_reached : (t : ℕ) → t < length (pruned d).states → Reached (pruned d) t
  pruned_reached t l = let (s, h, e) = new.states_all t l in subst (Reached (pruned d)) e (reached_again h)

  pub pruned_twice : pruned (pruned d) ≡ pruned d
  pruned_twice = pruned_same (pruned d) pruned_keeps.structure pruned_some pruned_reached
