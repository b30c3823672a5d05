-- Refusals are exact: each stage of a call's answer decides its pass of the table, and the stages stand in the table's order.
use Rattle.std.specs.Prelude.{Option}
use Prim.Native.Nat.{ℕ, ◌+◌, ◌*◌, ◌≤◌, ◌<◌}
use mathlib.Core.Path.{◌≡◌, refl, sym, ◌∙◌}
use mathlib.Core.Logic.Iff
use mathlib.Core.Logic.{◌↔◌, ◌⊎◌, inl, inr}
use mathlib.Core.Bool.{true, not, ◌&&◌}
use mathlib.Core.List.{List, [], ◌∷◌, append-nil}
use lib.ListN.{length, get_or}
use Rattle.model.specs.declared.Refusal.{Refusal}
use Rattle.model.specs.Limits.{commands_max, word_length, binding_length, target_length}
use Rattle.model.specs.Image.{Commands, count, node_of, Design, register_at, state_at, design_of}
use Rattle.model.specs.Machine.{target_sound}
use Rattle.model.specs.States.{has_child}
use Rattle.model.specs.Answers.{Answer, Accepted, Refused, numbers_of}
use Rattle.model.specs.Verdict.{◌before◌, refused_at, design_structure, structure, verdict}
use Rattle.model.specs.Parameters.{all_of, own_parameters}
use Rattle.model.specs.Bindings.{byte_sound, bound_sound, binding_sound}
use Rattle.model.specs.Rules.{DirectoryKeeps, StateKeeps, Keeps}
use Rattle.model.specs.Calls.{Lent, register_area_kept, target_area_kept, register_area_answer, length_answer, content_kept, contents_answer, targets_in, bindings_in, targets_answer, bindings_answer, is_writable, port_answer, value_answer, cycles_answer, leaves, check, registers_length, targets_length, reset_answer, reset, run_answer, run, write_port_answer, write_port}
use Rattle.model.specs.Parties.{RightLengths, Call, resets, writes, runs, perform, with_targets}
use Rattle.model.specs.Standing.{ChildOf}
use Rattle.model.specs.Refusals.{Pass, ◌asks◌, TargetKeeps, BoundKeeps, BindingKeeps, AllKept, structure_table, image_table, reset_table, write_port_table, run_table, call_table, call_count, AnswersBy, in_numbers, Exactly}
use Rattle.model.proofs.Laws.Equivalences.{less_iff, at_most_iff, equal_iff, refutes_iff, and_iff, and_three_iff, or_iff, implies_iff}
use Rattle.model.proofs.Laws.Choices.{within_iff}
use Rattle.model.proofs.Laws.Scopes.{all_own_iff}
use Rattle.model.proofs.Laws.Paths.{on_path_iff}
use Rattle.model.proofs.Laws.Images.{section_length}
use Rattle.model.proofs.Laws.Numbers.{told_accepted, told_refused}
use Rattle.model.proofs.Laws.Verdict.{refused_is_not_accepted}
use Rattle.model.proofs.Laws.Broken.{Finds, Decides, decides_one, decides_before, decides_none}
use Rattle.model.proofs.Laws.Finds.{finds_below, finds_each, finds_charged, finds_zero, finds_node}
use Rattle.model.proofs.Exact.Directories.{directory_iff}
use Rattle.model.proofs.Exact.Labels.{label_iff}
use Rattle.model.proofs.Exact.Falls.{child_label_iff}
use Rattle.model.proofs.Exact.Records.{register_iff, state_iff, port_iff, command_iff, expression_iff, command_used_iff, expression_used_iff, command_depth_iff, expression_depth_iff}
use Rattle.model.proofs.Exact.Parameters.{parameters_iff}
use Rattle.model.proofs.Exact.{verdict_exact}
use Rattle.model.proofs.Refused.Standing.{child_iff, has_child_iff}
use Rattle.model.proofs.Refused.Shapes.{shape_finds}
use Rattle.model.proofs.Refused.Scopes.{scope_finds}
use Rattle.model.proofs.Refused.Flows.{flow_decides}
use Rattle.model.proofs.Laws.Left.{leaves_exactly, left_in_exactly}
pub mod Standing
pub mod Shapes
pub mod Scopes
pub mod Flows

-- a stage that searches, put before those behind it
pub stage : {refusal : Refusal} {Kept : ℕ → Type 0} {f : Option ℕ} {b : Answer} {count : ℕ} {more : List Pass} → Finds f Kept → Decides b count more → Decides (refused_at refusal f before b) count ((refusal asks Kept ∷ []) ∷ more)
stage found next = decides_before (decides_one found) (λ kept. next)

-- ---- the image checks
-- where the directory is kept, every command's place is below the expressions'
few_commands : (image : List ℕ) → DirectoryKeeps image → length (design_of image).commands ≤ commands_max
unfolding design_of
few_commands image k = rw (section_length node_of image Commands) (k.sections Commands).at_most

pub structure_decides : (image : List ℕ) → Decides (structure image) 0 (structure_table image)
unfolding structure design_structure
structure_decides image =
    let d = design_of image in
    decides_before
    (decides_one (finds_zero (directory_iff image)))
    (λ kept.
    let few = few_commands image ((kept.0 0).0 refl) in
    stage (finds_each (label_iff d.rows))
    (stage (finds_each (register_iff d))
    (stage (finds_each (state_iff d))
    (stage (finds_node d few (command_iff d) (expression_iff d))
    (stage (finds_node d few (command_used_iff d) (expression_used_iff d))
    (stage (finds_node d few (command_depth_iff d) (expression_depth_iff d))
    (stage (shape_finds d)
    (stage (finds_each (port_iff d))
    (stage (finds_each (parameters_iff d))
    (stage (scope_finds d)
    (decides_one (finds_each (child_label_iff d)))))))))))))

pub image_decides : (image : List ℕ) → Decides (verdict image) 0 (image_table image)
unfolding verdict
image_decides image = decides_before (structure_decides image) (λ kept. flow_decides (design_of image))

-- an image keeps the rules exactly where nothing of the table is broken
pub keeps_table : (image : List ℕ) → Keeps image ↔ AllKept (image_table image)
keeps_table image = Iff.trans (Iff.symm (verdict_exact image)) (image_decides image).accepts

-- ---- the calls
module _ (d : Design) where
  lengths_iff : (lent : Lent) → ((register_area_kept d lent.registers && target_area_kept d lent.targets) ≡ true) ↔ RightLengths d lent
  lengths_iff lent = Iff.trans (and_iff equal_iff equal_iff) (λ h. record { registers = h.0; targets = h.1 }, λ k. (k.registers, k.targets))

  target_iff : (targets : List ℕ) (s : ℕ) → (target_sound d targets s ≡ true) ↔ TargetKeeps d targets s
  unfolding target_sound
  target_iff targets s =
      let childless : (not (has_child d s) ≡ true) ↔ ((q : ℕ) → ChildOf d s q → ⊥) =
      Iff.trans (refutes_iff (has_child_iff d s)) (λ h q child. h (q, child), λ none found. none found.0 found.1) in
      or_iff (child_iff d s (get_or targets s 0)) (and_iff childless equal_iff)

  -- ---- bindings (02, E8)
  byte_iff : (bindings : List ℕ) (v : ℕ) → (byte_sound d bindings v ≡ true) ↔ ((get_or bindings v 0 ≡ 0) ⊎ (get_or bindings v 0 < length d.registers))
  unfolding byte_sound
  byte_iff bindings v = or_iff equal_iff less_iff

  bound_iff : (bindings : List ℕ) (v : ℕ) → (bound_sound d bindings v ≡ true) ↔ BoundKeeps d v (get_or bindings v 0)
  unfolding bound_sound
  bound_iff bindings v =
      Iff.trans
      (and_three_iff less_iff (refutes_iff equal_iff) (within_iff d))
      (λ h. record { exists = h.0; no_port = h.1; within = h.2 }, λ k. (k.exists, k.no_port, k.within))

  -- the tree of states must be sound for the path to be one
  pub binding_iff :
      (targets bindings : List ℕ)
      → ((q : ℕ) → q < length d.states → StateKeeps d q)
      → (s : ℕ)
      → s < length d.states
      → (binding_sound d targets bindings s ≡ true) ↔ BindingKeeps d targets bindings s
  unfolding binding_sound
  binding_iff targets bindings states s l =
      let own : (all_of (bound_sound d bindings) (own_parameters d s) ≡ true) ↔ ((j : ℕ) → j < (state_at d s).parameters → BoundKeeps d (binding_length * s + j) (get_or bindings (binding_length * s + j) 0)) =
      Iff.trans (all_own_iff d s (bound_sound d bindings)) (λ h j k. (bound_iff bindings (binding_length * s + j)).0 (h j k), λ h j k. (bound_iff bindings (binding_length * s + j)).1 (h j k)) in
      Iff.trans
      (and_three_iff (byte_iff bindings (binding_length * s)) (byte_iff bindings (binding_length * s + 1)) (implies_iff (on_path_iff d targets states s l) own))
      (λ h. record { first = h.0; second = h.1; along = h.2 }, λ k. (k.first, k.second, k.along))

  writable_iff : (r : ℕ) → (is_writable d r ≡ true) ↔ ((r < length d.registers) × ((register_at d r).kind ≡ 1))
  unfolding is_writable
  writable_iff r = and_iff less_iff equal_iff

module _ (image : List ℕ) where
  pub reset_decides : (lent : Lent) → Decides (reset_answer image lent) 0 (reset_table image lent)
  unfolding reset_answer length_answer
  reset_decides lent = decides_before (image_decides image) (λ kept. decides_one (finds_zero (lengths_iff (design_of image) lent)))

  pub write_port_decides : (registers : List ℕ) (r v : ℕ) → Decides (write_port_answer image registers r v) 0 (write_port_table image registers r v)
  unfolding write_port_answer register_area_answer contents_answer content_kept port_answer value_answer
  write_port_decides registers r v =
      decides_before
      (image_decides image)
      (λ kept. stage (finds_zero equal_iff)
      (stage (finds_each (λ k. less_iff))
      (stage (finds_charged r (writable_iff (design_of image) r))
      (decides_one (finds_charged r less_iff)))))

  pub run_decides : (lent : Lent) (n : ℕ) → Decides (run_answer image lent n) n (run_table image lent n)
  unfolding run_answer length_answer contents_answer content_kept targets_answer bindings_answer cycles_answer
  run_decides lent n =
      decides_before
      (image_decides image)
      (λ kept. stage (finds_zero (lengths_iff (design_of image) lent))
      (stage (finds_each (λ k. less_iff))
      (stage (finds_each (target_iff (design_of image) (targets_in (design_of image) lent.targets)))
      (stage (finds_below (binding_iff (design_of image) (targets_in (design_of image) lent.targets) (bindings_in (design_of image) lent.targets) ((keeps_table image).1 kept).design.structure.states))
      (stage (finds_zero at_most_iff)
      (decides_none n))))))

-- ---- the same through the numbers that the host is given
pub answers_by : {a : Answer} {n : ℕ} {passes : List Pass} → Decides a n passes → AnswersBy passes n (numbers_of a)
answers_by {a} {n} d =
    record { accepted = Iff.trans (told_accepted a n) d.accepts; refused = λ refusal place. Iff.trans (told_refused a refusal place) (d.refuses refusal place) }

-- and with what the call leaves
pub exactly : {A : Type 0} {a : Answer} {n : ℕ} {passes : List Pass} {lent : A} (made : A) → Decides a n passes → Exactly passes n lent (in_numbers (leaves a lent made))
exactly {a = a} {lent = lent} made d = leaves_exactly a lent made (answers_by d)

module _ (image : List ℕ) where
  pub check_answers : AnswersBy (image_table image) 0 (numbers_of (check image))
  unfolding check
  check_answers = answers_by (image_decides image)

  -- an area's length is answered where the image is accepted
  length-decides : (n : ℕ) → Decides (verdict image before Accepted n) n (image_table image)
  length-decides n = rw (append-nil (image_table image)) at (decides_before (image_decides image) (λ kept. decides_none n))

  pub registers_length_answers : AnswersBy (image_table image) (word_length * length (design_of image).registers) (numbers_of (registers_length image))
  unfolding registers_length
  registers_length_answers = answers_by (length-decides (word_length * length (design_of image).registers))

  pub targets_length_answers : AnswersBy (image_table image) (target_length * length (design_of image).states) (numbers_of (targets_length image))
  unfolding targets_length
  targets_length_answers = answers_by (length-decides (target_length * length (design_of image).states))

  pub call_exactly : (lent : Lent) (call : Call) → Exactly (call_table image lent call) (call_count call) lent (in_numbers (perform image lent call))
  unfolding perform reset write_port run
  call_exactly lent resets = exactly _ (reset_decides image lent)
  call_exactly lent (writes r v) = left_in_exactly (write_port image lent.registers r v) (with_targets lent.targets) (exactly _ (write_port_decides image lent.registers r v))
  call_exactly lent (runs n) = exactly _ (run_decides image lent n)

-- an acceptance of the image checks has count 0
pub accepted_count : (image : List ℕ) {n : ℕ} → verdict image ≡ Accepted n → n ≡ 0
accepted_count image {n} e = go (image_decides image).either
  where
    go : (verdict image ≡ Accepted 0) ⊎ ((refusal : Refusal) × (place : ℕ) × (verdict image ≡ Refused refusal place)) → n ≡ 0
    go (inl h) = let same : Accepted n ≡ Accepted 0 = sym e ∙ h in cc
    go (inr (refusal, place, h)) = absurd (refused_is_not_accepted refusal place n (sym h ∙ e))
