-- What is judged of lent areas, and what a run on sound ones leaves: a refusal leaves the areas as they were lent, and the bytes of an area of the right
-- length are those of its values.
use Rattle.std.specs.Prelude.{Option, Some, None, Err}
use Prim.Native.Nat.{ℕ, ◌*◌, ◌^◌, ◌<◌}
use mathlib.Core.Path.{◌≡◌, refl, sym, ◌∙◌, ap}
use mathlib.Core.Bool.{Bool, true, false, not}
use mathlib.Core.List.{List}
use native.Mathlib.Omega.{arith}
use lib.Dec.{leb, ltb}
use lib.ListN.{length, get_or, take, take-append-drop}
use mir.Syntax.{w8}
use mir.Val.{Fits}
use Rattle.model.specs.declared.RefusedAt.{RefusedAt}
use Rattle.model.specs.declared.Refusal.TheVariants.{Area, CycleCount}
use Rattle.model.specs.Answers.{Answer, Accepted, Refused}
use Rattle.model.specs.Limits.{cycles_max}
use Rattle.model.specs.Indices.{lowest_failing}
use Rattle.model.specs.Image.{Design as Table, AreBytes, word32_at, design_of}
use Rattle.model.specs.Rules.{Keeps}
use Rattle.model.specs.Verdict.{refused_at, ◌before◌}
use Rattle.model.specs.Values.{modulus, words_of, bytes_of}
use Rattle.model.specs.Bindings.{binding_sound}
use Rattle.model.specs.Machine.{Areas, target_sound, after_cycles}
use Rattle.model.specs.Calls.{Lent, targets_in, bindings_in, targets_answer, bindings_answer, content_kept, contents_answer, cycles_answer, areas_of, lent_of, left_as}
use Rattle.model.proofs.Laws.Booleans.{not_true, not_false}
use Rattle.model.proofs.Laws.Indices.{failing_none}
use Rattle.model.proofs.Laws.Equivalences.{less_iff}
use Rattle.model.proofs.Laws.Verdict.{first_accepts, later_accepts, found_nothing}
use Rattle.model.proofs.Laws.Words.{bytes_of_words, length-words_of}
use Rattle.model.proofs.Independence.Widths.{fitting_each}
use Rattle.design.specs.declared.Design.{Design}
use Rattle.design.specs.Records.{register_in}
use Rattle.design.specs.Describes.{Describes}
use Rattle.design.specs.Kept.{RecordsKept}
use Rattle.design.specs.Resets.{Defaults, lends}
use Rattle.design.specs.Scopes.{Scopes}
use Rattle.design.proofs.Laws.{registers_count, states_count}
use Rattle.design.proofs.WordRules.{words_at}
use Rattle.design.proofs.WidthRules.{width_is}
use Rattle.machine.specs.Bindings.{TargetsSound}
use Rattle.machine.specs.Cycles.{Running, areas_in}
use Rattle.checker.proofs.Accepted.{accepted_known}
use Rattle.running.specs.Stages.{sound_on, run_sound}

pub are_bytes : (bytes : List ℕ) → ((i : ℕ) → Fits w8 (get_or bytes i 0)) → AreBytes bytes
are_bytes bytes h i = (h i).fits

-- ---- contents
-- what acceptance gives of the records
pub image_known : {image : List ℕ} {x : Design} → Keeps image → Describes image x → RecordsKept image x
image_known keeps describes = accepted_known keeps describes

module _ {image : List ℕ} {x : Design} (known : RecordsKept image x) (registers : List ℕ) (area : length registers ≡ 4 * x.registers) {r : ℕ} (l : r < x.registers) where
  pub content_rule : {w v : ℕ} {b : Bool} → w ≡ (register_in image x.registers_at r).width → v ≡ word32_at registers (4 * r) → b ≡ ltb v (2 ^ w) → b ≡ content_kept (design_of image) registers r
  unfolding content_kept
  content_rule h g e =
      let count = registers_count known.describes in
      e ∙ rw (g, width_is known l h, words_at {n = length (design_of image).registers} {r = r} registers (omega arith) (omega arith))

pub contents_refuse : (d : Table) (registers : List ℕ) {f : Option ℕ} {p : ℕ} → f ≡ Some p → f ≡ lowest_failing (content_kept d registers) (length d.registers) → contents_answer d registers ≡ Refused Area p
unfolding contents_answer refused_at
contents_refuse d registers h found = rw (← found, h)

pub contents_fit : (d : Table) (registers : List ℕ) {f : Option ℕ} → f ≡ None → f ≡ lowest_failing (content_kept d registers) (length d.registers) → contents_answer d registers ≡ Accepted 0
unfolding contents_answer refused_at
contents_fit d registers h found = rw (← found, h)

-- the targets stand in front in their area
pub front_unsound : {image : List ℕ} {x : Design} (area : List ℕ) {f : Option ℕ} → Describes image x → f ≡ lowest_failing (target_sound (design_of image) (take x.states area)) (length (design_of image).states)
    → f ≡ lowest_failing (target_sound (design_of image) (targets_in (design_of image) area)) (length (design_of image).states)
front_unsound {image} area d h = h ∙ ap (λ (n : ℕ). lowest_failing (target_sound (design_of image) (take n area)) (length (design_of image).states)) (states_count d)

-- ---- whether areas are sound: the pass over the contents, then that over the targets, then that over the bindings
module _ (d : Table) (registers targets : List ℕ) {f : Option ℕ} {first : Answer} (large : f ≡ lowest_failing (content_kept d registers) (length d.registers)) (told : first ≡ refused_at Area f) where
  pub contents_told : contents_answer d registers ≡ first
  unfolding contents_answer
  contents_told = sym (told ∙ ap (refused_at Area) large)

  pub sound_refuses_contents : {why : RefusedAt} → first ≡ Err why → Err why ≡ sound_on d (lends registers targets)
  unfolding sound_on ◌before◌
  sound_refuses_contents h = rw (contents_told, h)

  module _ {n : ℕ} (fit : first ≡ Accepted n) {g : Option ℕ} {second : Answer} (unsound : g ≡ lowest_failing (target_sound d (targets_in d targets)) (length d.states)) (targets_told : second ≡ refused_at Area g) where
    targets_are : targets_answer d (lends registers targets) ≡ second
    unfolding targets_answer
    targets_are = sym (targets_told ∙ ap (refused_at Area) unsound)

    pub sound_refuses_target : {why : RefusedAt} → second ≡ Err why → Err why ≡ sound_on d (lends registers targets)
    unfolding sound_on ◌before◌
    sound_refuses_target h = rw (contents_told, fit, targets_are, h)

    pub sound_accepts :
        {m : ℕ} {h : Option ℕ} {third : Answer}
        → second ≡ Accepted m
        → h ≡ lowest_failing (binding_sound d (targets_in d targets) (bindings_in d targets)) (length d.states)
        → third ≡ refused_at Area h
        → third ≡ sound_on d (lends registers targets)
    unfolding sound_on bindings_answer ◌before◌
    sound_accepts sound loose bindings_told = (bindings_told ∙ ap (refused_at Area) loose) ∙ rw (contents_told, fit, targets_are, sound)

pub targets_sound : (d : Table) (area : List ℕ) {f : Option ℕ} → f ≡ None → f ≡ lowest_failing (target_sound d (targets_in d area)) (length d.states) → TargetsSound d area
targets_sound d area none found = record { sound = failing_none (target_sound d (targets_in d area)) (length d.states) (sym found ∙ none) }

-- what each of the three found where all accept
module _ (d : Table) (lent : Lent) {c : ℕ} (sound : sound_on d lent ≡ Accepted c) where
  behind_contents : (targets_answer d lent before bindings_answer d lent) ≡ Accepted c
  unfolding sound_on
  behind_contents = later_accepts (contents_answer d lent.registers) (targets_answer d lent before bindings_answer d lent) sound

  sound_contents : (r : ℕ) → get_or (words_of (length d.registers) lent.registers) r 0 < modulus d.registers r
  unfolding sound_on contents_answer content_kept
  sound_contents =
      fitting_each d.registers (words_of (length d.registers) lent.registers) (length-words_of (length d.registers) lent.registers)
      (λ r l. less_iff.0 (failing_none (content_kept d lent.registers) (length d.registers) (found_nothing Area (lowest_failing (content_kept d lent.registers) (length d.registers)) (first_accepts (contents_answer d lent.registers) (targets_answer d lent before bindings_answer d lent) sound).1) r l))

  sound_targets : (s : ℕ) → s < length d.states → target_sound d (targets_in d lent.targets) s ≡ true
  unfolding targets_answer
  sound_targets = failing_none (target_sound d (targets_in d lent.targets)) (length d.states) (found_nothing Area (lowest_failing (target_sound d (targets_in d lent.targets)) (length d.states)) (first_accepts (targets_answer d lent) (bindings_answer d lent) behind_contents).1)

  sound_bindings : (s : ℕ) → s < length d.states → binding_sound d (targets_in d lent.targets) (bindings_in d lent.targets) s ≡ true
  unfolding bindings_answer
  sound_bindings = failing_none (binding_sound d (targets_in d lent.targets) (bindings_in d lent.targets)) (length d.states) (found_nothing Area (lowest_failing (binding_sound d (targets_in d lent.targets) (bindings_in d lent.targets)) (length d.states)) (later_accepts (targets_answer d lent) (bindings_answer d lent) behind_contents))

-- what the judged areas give to the cycles
pub sound_running : {image : List ℕ} {x : Design} {a : Answer} {c : ℕ} {table in_scope : List ℕ} (registers targets : List ℕ) → a ≡ Accepted c → a ≡ sound_on (design_of image) (lends registers targets) → Keeps image → Describes image x
    → Defaults (design_of image) table
    → Scopes (design_of image) in_scope
    → length registers ≡ 4 * x.registers
    → length targets ≡ 3 * x.states
    → Running image x table in_scope registers targets
sound_running {image} registers targets h judged keeps describes defaults scopes area long =
    let d = design_of image in
    let lent = lends registers targets in
    let sound = sym judged ∙ h in
    record {
      known = accepted_known keeps describes;
      keeps = keeps;
      defaults = defaults;
      scopes = scopes;
      area = area;
      states = long;
      fitting = sound_contents d lent sound;
      sound = sound_targets d lent sound;
      bound = sound_bindings d lent sound;
    }

-- the bytes that a run leaves are those of its values
pub bytes_left : {image : List ℕ} {x : Design} {table in_scope : List ℕ} (registers targets : List ℕ) {areas : Areas} → AreBytes registers → Running image x table in_scope registers targets → areas_in (design_of image) registers targets ≡ areas → lends registers targets ≡ lent_of areas
unfolding lent_of
bytes_left {image} registers targets bytes running e =
    let d = design_of image in
    let count = registers_count running.known.describes in
    let area = running.area in
    let same : bytes_of (words_of (length d.registers) registers) ≡ registers = bytes_of_words (length d.registers) registers bytes (omega arith) in
    rw (← e, same, take-append-drop (length d.states) targets)

-- the count, and the cycles
module _ (d : Table) (n : ℕ) {b : Bool} (e : b ≡ leb n cycles_max) where
  pub count_refuses : (registers targets : List ℕ) → not b ≡ true → left_as (Refused CycleCount 0) (lends registers targets) ≡ run_sound d (lends registers targets) n
  unfolding run_sound cycles_answer refused_at ◌before◌
  count_refuses registers targets h = rw (← e, not_true b h)

  pub run_makes : (registers targets registers₀ targets₀ : List ℕ) → not b ≡ false → lends registers targets ≡ lent_of (after_cycles d n (areas_in d registers₀ targets₀)) → left_as (Accepted n) (lends registers targets) ≡ run_sound d (lends registers₀ targets₀) n
  unfolding run_sound cycles_answer areas_of refused_at ◌before◌
  run_makes registers targets registers₀ targets₀ h k = rw (← e, not_false b h) (ap (λ (lent : Lent). record { answer = Accepted n; lent = lent }) k)

-- ---- the three answers of soundness
before_together : (a b c : Answer) → ((a before b) before c) ≡ (a before b before c)
unfolding ◌before◌
before_together (Err why) b c = refl
before_together (Accepted n) b c = refl

-- what is one answer here are three in a run
pub sound_before : (d : Table) (lent : Lent) (later : Answer) → (sound_on d lent before later) ≡ (contents_answer d lent.registers before targets_answer d lent before bindings_answer d lent before later)
unfolding sound_on
sound_before d lent later =
    before_together (contents_answer d lent.registers) (targets_answer d lent before bindings_answer d lent) later
    ∙ ap (λ (behind : Answer). contents_answer d lent.registers before behind) (before_together (targets_answer d lent) (bindings_answer d lent) later)
