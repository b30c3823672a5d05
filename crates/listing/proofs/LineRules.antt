-- A line is its fields, one behind the other.
use Prim.Native.Nat.{ℕ, ◌+◌, ◌≤◌}
use mathlib.Core.Path.{◌≡◌, sym, ◌∙◌, ap}
use mathlib.Core.List.{List, [], ◌∷◌, ◌++◌, append_assoc}
use native.Mathlib.Omega.{arith}
use native.Mathlib.Numerals.{add-one}
use lib.ListN.{length, take, drop, length-append}
use lib.Seq.{take_at}
use Rattle.model.specs.declared.Refusal.{Refusal}
use Rattle.model.specs.Image.{Registers, design_of}
use Rattle.model.specs.Answers.{number_of}
use Rattle.model.specs.Values.{words_of}
use Rattle.model.specs.Machine.{Areas, Cycle, reset_areas, cycle, after_cycles}
use Rattle.model.specs.Listing.{bytes_of_text, decimal, spaced, line, refusal_line}
use Rattle.design.specs.declared.Design.{Design}
use Rattle.design.proofs.Laws.{registers_count}
use Rattle.design.proofs.ResetRules.{states_few}
use Rattle.machine.specs.Cycles.{Running, Cycled, areas_in}
use Rattle.listing.specs.Texts.{Put}
use Rattle.listing.specs.Lines.{cycle_line, shown, RunningAt}
use Rattle.listing.proofs.TextRules.{put_then}
use Rattle.listing.proofs.ListingRules.{after_more}

-- a field and the byte that ends it, behind a text
then_field : {out between after text : List ℕ} {at p r : ℕ} (field end : List ℕ) → Put out at text between p → Put between p (field ++ end) after r → Put out at (text ++ field ++ end) after r
then_field {text = text} field end first second = rw (append_assoc text field end) (put_then first second)

pub refusal_put : {out o1 o2 after : List ℕ} {n p1 p2 r : ℕ} (refusal : Refusal) (place : ℕ) → n ≡ number_of refusal → Put out 0 (114 ∷ 101 ∷ 102 ∷ 117 ∷ 115 ∷ 101 ∷ 100 ∷ 59 ∷ []) o1 p1
    → Put o1 p1 (decimal n ++ 59 ∷ []) o2 p2
    → Put o2 p2 (decimal place ++ 10 ∷ []) after r
    → Put out 0 (refusal_line refusal place) after r
unfolding refusal_line bytes_of_text
refusal_put refusal place e name number second = then_field (decimal place) (10 ∷ []) (then_field (decimal (number_of refusal)) (59 ∷ []) name (rw e at number)) second

pub line_put : {out o1 o2 after : List ℕ} {p1 p2 r : ℕ} (number : ℕ) (walk values : List ℕ) → Put out 0 (decimal number ++ 59 ∷ []) o1 p1 → Put o1 p1 (spaced walk ++ 59 ∷ []) o2 p2
    → Put o2 p2 (spaced values ++ 10 ∷ []) after r
    → Put out 0 (line number (shown walk values)) after r
unfolding line bytes_of_text
line_put number walk values first second third = then_field (spaced values) (10 ∷ []) (then_field (spaced walk) (59 ∷ []) first second) third

-- ---- the line of a cycle
module _ {image : List ℕ} {x : Design} {table in_scope registers targets : List ℕ} {done : ℕ} (at : RunningAt image x table in_scope registers targets done) where
  pub at_running : Running image x table in_scope registers targets
  at_running = at.running

  pub at_states : x.states ≤ 64
  at_states = states_few at.running.known.describes

  pub at_registers : x.registers ≤ 64
  at_registers = let d = at.running.known.describes in omega (arith, d.registers, d.directory.sections Registers)

module _ {c : Cycle} {areas : Areas} {before walk : List ℕ} {n : ℕ} (cycled : Cycled c areas before walk n) where
  pub walk_within : n ≤ length walk
  walk_within =
      let long : length walk ≡ length c.walk + length (drop (length c.walk) before) = ap length cycled.walk ∙ length-append c.walk (drop (length c.walk) before) in
      let count = cycled.count in
      omega arith

  pub walk_few : length walk ≡ 64 → n ≤ 64
  walk_few e = let within = walk_within in omega arith

  walk_is : take n walk ≡ c.walk
  walk_is = ap (take n) cycled.walk ∙ take_at c.walk (drop (length c.walk) before) n (sym cycled.count)

line_shows : (number : ℕ) (c : Cycle) (walk values : List ℕ) → walk ≡ c.walk → values ≡ c.after.registers → line number (shown walk values) ≡ line number c
unfolding line
line_shows number c walk values e h = rw (e, h)

module _ {image : List ℕ} {x : Design} {table in_scope registers₀ targets₀ registers targets before walk : List ℕ} {done n : ℕ}
    (at : RunningAt image x table in_scope registers₀ targets₀ done)
    (cycled : Cycled (cycle (design_of image) (areas_in (design_of image) registers₀ targets₀)) (areas_in (design_of image) registers targets) before walk n)
    (running : Running image x table in_scope registers targets) where
  pub line_listed : {out after : List ℕ} {r : ℕ} → Put out 0 (line (done + 1) (shown (take n walk) (words_of x.registers registers))) after r → Put out 0 (cycle_line (design_of image) done) after r
  unfolding cycle_line
  line_listed put =
      let d = design_of image in
      let c = cycle d (areas_in d registers₀ targets₀) in
      let values = ap (λ (k : ℕ). words_of k registers) (registers_count running.known.describes) ∙ ap (λ (areas : Areas). areas.registers) cycled.after in
      let shows = line_shows (done + 1) c (take n walk) (words_of x.registers registers) (walk_is cycled) values in
      rw (shows ∙ ap (λ (areas : Areas). line (done + 1) (cycle d areas)) at.areas) at put

  pub ran_more : RunningAt image x table in_scope registers targets (done + 1)
  ran_more =
      let d = design_of image in
      record {
        areas = cycled.after
            ∙ ap (λ (areas : Areas). (cycle d areas).after) at.areas
            ∙ sym (after_more d done (reset_areas d))
            ∙ ap (λ (k : ℕ). after_cycles d k (reset_areas d)) (sym (add-one done));
        running = running;
      }
