-- A design under new numbers whose states all stay where they are is the same apart from node numbers: records of states keep all but their command, and bodies all but numbers.
use Prim.Native.Nat.{ℕ, ◌<◌}
use mathlib.Core.Path.{◌≡◌, refl, sym, ◌∙◌, ap}
use mathlib.Core.List.{map}
use native.Mathlib.Omega.{arith}
use native.Mathlib.Decide.{dec_lt}
use lib.ListN.{length, get_or, length-map, get_or-map}
use lib.Seq.{ext_get_or}
use Rattle.model.specs.Indices.{tabulate}
use Rattle.model.specs.Image.{Design, no_state, state_at}
use Rattle.model.specs.Trees.{Expr, constant, register, binary, Cmd, skip, assign, sequence, fall, goto, branch, body_of}
use Rattle.model.specs.Neighbours.{unnumbered_expr, unnumbered, without_command}
use Rattle.model.specs.Rules.{DesignKeeps}
use Rattle.model.proofs.Laws.Indices.{length-tabulate, get_d_tabulate}
use Rattle.renumbering.specs.Renumbering.{renumbered_state, renumbered_expr, renumbered_cmd}
use Rattle.renumbering.specs.Renumbers.{Renumbers}
use Rattle.renumbering.proofs.Trees.{body_renumbered}
use Rattle.filing_model.specs.Filed.{filed}
use Rattle.filing_model.specs.Same.{unnumbered_design}
use Rattle.filing_model.proofs.Renumbers.{filed_renumbers}

-- ---- trees
module _ (command expression : ℕ → ℕ) where
  pub same_unnumbered_expr : (e : Expr) → unnumbered_expr (renumbered_expr (λ s. s) command expression e) ≡ unnumbered_expr e
  unfolding unnumbered_expr renumbered_expr
  same_unnumbered_expr (constant v) = refl
  same_unnumbered_expr (register n r) = refl
  same_unnumbered_expr (binary o p q) = rw (same_unnumbered_expr p, same_unnumbered_expr q)

  pub same_unnumbered : (c : Cmd) → unnumbered (renumbered_cmd (λ s. s) command expression c) ≡ unnumbered c
  unfolding unnumbered renumbered_cmd
  same_unnumbered (skip n) = refl
  same_unnumbered (assign n r e) = rw (same_unnumbered_expr e)
  same_unnumbered (sequence n p q) = rw (same_unnumbered p, same_unnumbered q)
  same_unnumbered (fall n) = refl
  same_unnumbered (goto n t a b) = refl
  same_unnumbered (branch n e p q) = rw (same_unnumbered_expr e, same_unnumbered p, same_unnumbered q)

-- ---- designs
tabulated_same : {A : Type 0} (f g : ℕ → A) (n : ℕ) (x : A) → ((k : ℕ) → k < n → f k ≡ g k) → tabulate f n ≡ tabulate g n
tabulated_same f g n x same =
    ext_get_or
    x
    (tabulate f n)
    (tabulate g n)
    (length-tabulate f n ∙ sym (length-tabulate g n))
    (λ k l. let below : k < n = rw (length-tabulate f n) at l in get_d_tabulate f n k x below ∙ same k below ∙ sym (get_d_tabulate g n k x below))

module _
    {d d' : Design} {command expression : ℕ → ℕ} {S C E : ℕ → Type 0}
    (keeps : DesignKeeps d) (new : Renumbers d d' (λ s. s) command expression S C E) (all : (s : ℕ) → s < length d.states → S s) where
  same_states : length d'.states ≡ length d.states
  same_states = go (dec_lt (length d'.states) (length d.states))
    where
      go : Dec (length d'.states < length d.states) → length d'.states ≡ length d.states
      go (yes fewer) = absurd (omega (arith, new.states_new (length d'.states) (all (length d'.states) fewer)))
      go (no not-fewer) = omega (arith, new.states_fewer)

  same_records : map without_command d'.states ≡ map without_command d.states
  unfolding renumbered_state
  same_records =
      ext_get_or
      (without_command no_state)
      (map without_command d'.states)
      (map without_command d.states)
      (length-map d'.states without_command ∙ same_states ∙ sym (length-map d.states without_command))
      (λ s l. at s (omega (arith, rw (length-map d'.states without_command) at l, same_states)))
    where
      record_at_lem : (s : ℕ) → s < length d.states → without_command (state_at d' s) ≡ without_command (state_at d s)
      record_at_lem s l = ap without_command (new.state_is s (all s l))

      at : (s : ℕ) → s < length d.states → get_or (map without_command d'.states) s (without_command no_state) ≡ get_or (map without_command d.states) s (without_command no_state)
      at s l = get_or-map without_command d'.states s no_state ∙ record_at_lem s l ∙ sym (get_or-map without_command d.states s no_state)

  same_body : (s : ℕ) → s < length d.states → unnumbered (body_of d' s) ≡ unnumbered (body_of d s)
  same_body s l = ap unnumbered (body_renumbered d d' (λ s. s) command expression S C E keeps new s (all s l)) ∙ same_unnumbered command expression (body_of d s)

  same_bodies : tabulate (λ s. unnumbered (body_of d' s)) (length d'.states) ≡ tabulate (λ s. unnumbered (body_of d s)) (length d.states)
  same_bodies =
      ap (tabulate (λ s. unnumbered (body_of d' s))) same_states
      ∙ tabulated_same (λ s. unnumbered (body_of d' s)) (λ s. unnumbered (body_of d s)) (length d.states) (skip 0) same_body

  pub renumbered_same : unnumbered_design d' ≡ unnumbered_design d
  unfolding unnumbered_design
  renumbered_same = λ i. record { rows = new.rows i; registers = new.registers i; states = same_records i; bodies = same_bodies i }

-- "they differ at most in node numbers"
pub unnumbered_kept : (d : Design) → DesignKeeps d → 0 < length d.states → unnumbered_design (filed d) ≡ unnumbered_design d
unnumbered_kept d keeps some = renumbered_same keeps (filed_renumbers d keeps.structure some) (λ s l. l)
