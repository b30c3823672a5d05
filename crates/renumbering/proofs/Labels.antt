-- Labels, names and arguments are judged as before: registers and lattice are the old ones, and so are the scope of a state that stays, up to the numbers in it, and its choices.
use Prim.Native.Nat.{ℕ, ◌+◌, ◌*◌, ◌/◌, ◌<◌}
use mathlib.Core.Path.{◌≡◌, ◌∙◌, ap, ap₂, fun_ext}
use mathlib.Core.Bool.{◌&&◌}
use mathlib.Core.List.{List, map}
use native.Mathlib.Omega.{arith}
use Rattle.model.specs.Limits.{binding_length}
use Rattle.model.specs.Image.{Design}
use Rattle.model.specs.Lattice.{all_flow_to}
use Rattle.model.specs.States.{parent}
use Rattle.model.specs.Trees.{Expr, registers_read}
use Rattle.model.specs.Parameters.{within_bounds, every_choice, label_byte, label_under}
use Rattle.model.specs.Scopes.{name_kept, is_argument, argument_kept, field_kept, arguments_kept}
use Rattle.model.specs.Flow.{labels_read, named_label, flows_each}
use Rattle.model.specs.Rules.{DesignKeeps}
use Rattle.model.proofs.Laws.Scopes.{parameter_state}
use Rattle.renumbering.specs.Renumbering.{renumbered_expr}
use Rattle.renumbering.specs.Renumbers.{Renumbers}
use Rattle.renumbering.proofs.Unnumbered.{same_registers_read}
use Rattle.renumbering.proofs.States.{parent_renumbered, same_label, same_count}
use Rattle.renumbering.proofs.Scopes.{moved, moved_own, same_scope_length, same_within, same_every}

module _ {d d' : Design} {state command expression : ℕ → ℕ} {S C E : ℕ → Type 0} (keeps : DesignKeeps d) (new : Renumbers d d' state command expression S C E) where
  -- ---- labels
  pub same_label_byte : (r : ℕ) → label_byte d' r ≡ label_byte d r
  unfolding label_byte
  same_label_byte r = rw new.registers

  pub same_labels_read : (e : Expr) → labels_read d' (renumbered_expr state command expression e) ≡ labels_read d e
  unfolding labels_read
  same_labels_read e =
      ap (map (label_byte d')) (same_registers_read state command expression e)
      ∙ ap (λ (byte : ℕ → ℕ). map byte (registers_read e)) (fun_ext (λ r. same_label_byte r))

  pub same_named_label : (t a b : ℕ) → S t → named_label d' (state t) a b ≡ named_label d t a b
  unfolding named_label
  same_named_label t a b stays =
      rw (
        same_label keeps new t stays,
        parent_renumbered keeps new t stays,
        same_scope_length keeps new (parent d t) (new.parent_stays t stays),
        fun_ext (λ r. same_label_byte r),
      )

  pub same_flows : (s : ℕ) (from : List ℕ) (to : ℕ) → S s → flows_each d' (state s) from to ≡ flows_each d s from to
  unfolding flows_each
  same_flows s from to stays = same_every keeps new s (λ choice. all_flow_to d'.rows (map (label_under choice) from) (label_under choice to)) stays ∙ rw new.rows

  -- ---- names and arguments
  pub same_name : (s r : ℕ) → S s → name_kept d' (state s) r ≡ name_kept d s r
  unfolding name_kept
  same_name s r stays = rw (same_scope_length keeps new s stays)

  same_is_argument : (s r : ℕ) → S s → is_argument d' (state s) r ≡ is_argument d s r
  unfolding is_argument
  same_is_argument s r stays = rw (same_scope_length keeps new s stays, new.registers)

  -- r is given to parameter v
  same_argument : (s v r : ℕ) → S s → S (v / binding_length) → argument_kept d' (state s) (moved state v) r ≡ argument_kept d s v r
  unfolding argument_kept
  same_argument s v r stays given =
      ap₂
      ◌&&◌
      (same_is_argument s r stays)
      (same_every keeps new s (λ choice. within_bounds d' (moved state v) (label_under choice (label_byte d' r))) stays
      ∙ ap
      (every_choice d s)
      (fun_ext (λ choice. same_within keeps new v (label_under choice (label_byte d' r)) given ∙ ap (λ (byte : ℕ). within_bounds d v (label_under choice byte)) (same_label_byte r))))

  same_field : (s t j r : ℕ) → S s → S t → j < binding_length → field_kept d' (state s) (state t) j r ≡ field_kept d s t j r
  unfolding field_kept
  same_field s t j r stays named l =
      rw (
        same_count keeps new t named,
        ← moved_own state t j l,
        same_argument s (binding_length * t + j) r stays (rw (parameter_state t j l) named),
      )

  pub same_arguments : (s t a b : ℕ) → S s → S t → arguments_kept d' (state s) (state t) a b ≡ arguments_kept d s t a b
  same_arguments s t a b stays named = rw (same_field s t 0 a stays named (omega arith), same_field s t 1 b stays named (omega arith))
