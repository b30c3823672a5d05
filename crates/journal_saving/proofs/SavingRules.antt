-- Journalled cycles, one behind the other: what a run has yet to save follows what it has saved, and the bytes of each saved state stand behind those before it.
use Prim.Native.Nat.{ℕ, suc, ◌+◌, ◌-◌, ◌*◌, ◌^◌, ◌≤◌, ◌<◌}
use mathlib.Core.Path.{◌≡◌, refl, sym, ◌∙◌, ap}
use mathlib.Core.List.{List, [], ◌∷◌, ◌++◌, append-nil}
use native.Mathlib.Omega.{arith}
use native.Mathlib.Nat.{mul-add}
use lib.ListN.{length, length-append}
use lib.Seq.{append_snoc}
use mir.Syntax.{w32, w64}
use mir.Val.{Fits}
use Rattle.model.specs.Image.{Design as Table, AreBytes, design_of}
use Rattle.model.specs.Machine.{Areas, cycle, cycles, after_cycles}
use Rattle.model.proofs.Laws.Cycles.{after_first, after_none}
use Rattle.model.specs.Calls.{Lent, lent_of}
use Rattle.design.specs.declared.Design.{Design}
use Rattle.design.specs.Describes.{Describes}
use Rattle.design.specs.Words.{put_word}
use Rattle.design.specs.Resets.{lends}
use Rattle.design.proofs.Laws.{registers_count, states_count}
use Rattle.machine.specs.Cycles.{Running, areas_in}
use Rattle.machine.proofs.CycleRules.{RanSo, ran_begins, ran_fits, ran_more, ran_done}
use Rattle.running.proofs.RunningRules.{bytes_left}
use Rattle.journal_model.specs.Journals.{count_length, count_in, saved_length, saved_bytes, all_saved_bytes, journal_with, saved_in, saved_before}
use Rattle.journal_model.specs.Rules.{RoomKeeps}
use Rattle.journal_model.proofs.Laws.{saved_append, length-run_saved}
use Rattle.encoding.specs.Parts.{overwritten_at}
use Rattle.journal_saving.specs.Saving.{CycleSaved}
use Rattle.encoding.proofs.PartRules.{over_none, over_behind}
use Rattle.journal_saving.proofs.JournalRules.{count_put, saved_behind}

-- ---- one state
pub saved_both : (registers targets journal : List ℕ) (at : ℕ) {between after : List ℕ} → after ≡ overwritten_at (at + length registers) targets between → between ≡ overwritten_at at registers journal
    → at + (length registers + length targets) ≤ length journal
    → after ≡ overwritten_at at (saved_bytes (lends registers targets)) journal
saved_both registers targets journal at e f room =
    e ∙ ap (overwritten_at (at + length registers) targets) f ∙ over_behind at journal registers targets (omega arith)

-- the length of a saved state, by the design in bytes
pub saved_size : {image : List ℕ} {x : Design} → Describes image x → saved_length (design_of image) ≡ 4 * x.registers + 3 * x.states
saved_size d = rw (← registers_count d, ← states_count d)

module _ {image : List ℕ} {x : Design} {table scopes registers targets : List ℕ} (running : Running image x table scopes registers targets) where
  state_long : length registers + length targets ≡ saved_length (design_of image)
  state_long = let size = saved_size running.known.describes in let area = running.area in let states = running.states in omega arith

  pub state_room : (at : ℕ) (journal : List ℕ) → at + saved_length (design_of image) ≤ length journal → at + (length registers + length targets) ≤ length journal
  state_room at journal l = let long = state_long in omega arith

pub cycle_saved : {image : List ℕ} {x : Design} {table scopes registers targets old journal : List ℕ} (areas : Areas) {lent : Lent} {at : ℕ} → AreBytes registers → Running image x table scopes registers targets
    → areas_in (design_of image) registers targets ≡ after_cycles (design_of image) 1 areas
    → journal ≡ overwritten_at at (saved_bytes lent) old
    → CycleSaved (cycle (design_of image) areas) lent at old (areas_in (design_of image) registers targets) (lends registers targets) journal
cycle_saved {image} {registers = registers} {targets = targets} areas bytes running ran e =
    let d = design_of image in
    let after = ran ∙ after_first d 0 areas ∙ after_none d (cycle d areas).after in
    record { after = after; bytes = bytes_left registers targets bytes running after; saved = e }

-- ---- so many cycles
-- i cycles ran and are saved, and the others go on from here
pub record SavedSo (image : List ℕ) (x : Design) (table scopes : List ℕ) (count : ℕ) (registers₀ targets₀ journal₀ : List ℕ) (place i : ℕ) (registers targets journal : List ℕ) (at : ℕ) : Type 0 where
  pub run : RanSo image x table scopes count registers₀ targets₀ i registers targets
  pub done : List Lent
  pub rest : saved_before (lends registers₀ targets₀) (cycles (design_of image) count (areas_in (design_of image) registers₀ targets₀))
      ≡ done ++ saved_before (lends registers targets) (cycles (design_of image) run.left (areas_in (design_of image) registers targets))
  pub size : length (all_saved_bytes done) ≡ saved_length (design_of image) * i
  pub written : journal ≡ overwritten_at place (all_saved_bytes done) journal₀
  pub here : at ≡ place + saved_length (design_of image) * i
  pub room : place + saved_length (design_of image) * count ≤ length journal₀
  pub long : length journal ≡ length journal₀
  pub short : length journal₀ < 2 ^ 64

one_more : (done : List Lent) (saved : Lent) → all_saved_bytes (done ++ saved ∷ []) ≡ all_saved_bytes done ++ saved_bytes saved
unfolding all_saved_bytes
one_more done saved = saved_append done (saved ∷ []) ∙ ap (λ (bytes : List ℕ). all_saved_bytes done ++ bytes) (append-nil (saved_bytes saved))

-- what is saved from a cycle on: the areas before it, and then from those that it leaves
saved_next : (d : Table) (areas : Areas) {now after : Lent} {left : Areas} → left ≡ (cycle d areas).after → after ≡ lent_of (cycle d areas).after → (n : ℕ) → saved_before now (cycles d (suc n) areas) ≡ now ∷ saved_before after (cycles d n left)
unfolding saved_before cycles
saved_next d areas e f n = rw (e, f)

saved_none : (d : Table) (lent : Lent) (areas : Areas) {n : ℕ} (done : List Lent) → n ≡ 0 → done ++ saved_before lent (cycles d n areas) ≡ done
unfolding saved_before cycles
saved_none d lent areas done e = rw e (append-nil done)

-- a number of states, one more, and others are all of them
pub one_inside : (each i m : ℕ) {n : ℕ} → n ≡ i + 1 + m → each * i + each ≤ each * n
one_inside each i m e = let outer = mul-add each (i + 1) m in let inner = mul-add each i 1 in rw e (omega arith)

pub saved_begins : {image : List ℕ} {x : Design} {table scopes registers targets : List ℕ} (count : ℕ) (journal : List ℕ) (place : ℕ) → Running image x table scopes registers targets
    → place + saved_length (design_of image) * count ≤ length journal
    → length journal < 2 ^ 64
    → SavedSo image x table scopes count registers targets journal place 0 registers targets journal place
saved_begins {image} {registers = registers} {targets = targets} count journal place running room short =
    let run = ran_begins count running in
    let d = design_of image in
    let begins = run.rest in
    let whole : run.left ≡ count = omega arith in
    record {
      run = run;
      done = [];
      rest = ap (λ (n : ℕ). saved_before (lends registers targets) (cycles d n (areas_in d registers targets))) (sym whole);
      size = unfold all_saved_bytes in omega arith;
      written = unfold all_saved_bytes in sym (over_none place journal);
      here = omega arith;
      room = room;
      long = refl;
      short = short;
    }

module _ {image : List ℕ} {x : Design} {count i place at : ℕ} {table scopes registers₀ targets₀ journal₀ registers targets journal : List ℕ} (so : SavedSo image x table scopes count registers₀ targets₀ journal₀ place i registers targets journal at) where
  pub saved_room : i < count → at + saved_length (design_of image) ≤ length journal
  saved_room l =
      let rest = so.run.rest in
      let left : count ≡ i + 1 + (so.run.left - 1) = omega arith in
      let here = so.here in
      let room = so.room in
      let long = so.long in
      let sum = one_inside (saved_length (design_of image)) i (so.run.left - 1) left in
      omega arith

  pub saved_more : {after gone journal' : List ℕ} {each : ℕ} → i < count
      → CycleSaved (cycle (design_of image) (areas_in (design_of image) registers targets)) (lends registers targets) at journal (areas_in (design_of image) after gone) (lends after gone) journal'
      → Running image x table scopes after gone
      → each ≡ 4 * x.registers + 3 * x.states
      → length after ≡ length registers
      → length gone ≡ length targets
      → length journal' ≡ length journal
      → SavedSo image x table scopes count registers₀ targets₀ journal₀ place (i + 1) after gone journal' (at + each)
  saved_more {after} {gone} {journal' = journal'} {each} l saved running e same same' long' =
      let d = design_of image in
      let now = lends registers targets in
      let areas = areas_in d registers targets in
      let run = ran_more so.run l saved.after running same same' in
      let rest = so.run.rest in
      let rest' = run.rest in
      let one : so.run.left ≡ suc run.left = omega arith in
      let size = so.size in
      let state = state_long so.run.running in
      let next : saved_length d * (i + 1) ≡ saved_length d * i + saved_length d = omega arith in
      let here = so.here in
      let wide = saved_size running.known.describes in
      record {
        run = run;
        done = so.done ++ now ∷ [];
        rest =
            so.rest
            ∙ ap (λ (n : ℕ). so.done ++ saved_before now (cycles d n areas)) one
            ∙ ap (λ (more : List Lent). so.done ++ more) (saved_next d areas saved.after saved.bytes run.left)
            ∙ sym (append_snoc so.done now (saved_before (lends after gone) (cycles d run.left (areas_in d after gone))));
        size = ap (λ (bytes : List ℕ). length bytes) (one_more so.done now) ∙ rw (length-append (all_saved_bytes so.done) (saved_bytes now), length-append registers targets) (omega arith);
        written =
            saved.saved
            ∙ ap (λ (place' : ℕ). overwritten_at place' (saved_bytes now) journal) (omega arith)
            ∙ ap (overwritten_at (place + length (all_saved_bytes so.done)) (saved_bytes now)) so.written
            ∙ over_behind place journal₀ (all_saved_bytes so.done) (saved_bytes now) (omega arith)
            ∙ ap (λ (bytes : List ℕ). overwritten_at place bytes journal₀) (sym (one_more so.done now));
        here = omega arith;
        room = so.room;
        long = long' ∙ so.long;
        short = so.short;
      }

  pub saved_at_fits : {each : ℕ} → i < count → each ≡ 4 * x.registers + 3 * x.states → Fits w64 (at + each)
  saved_at_fits l e =
      let short = so.short in
      let room = saved_room l in
      let long = so.long in
      let size = saved_size so.run.running.known.describes in
      record { fits = omega arith }

  pub saved_fits : i < count → Fits w32 count → Fits w32 (i + 1)
  saved_fits = ran_fits so.run

  pub saved_running : Running image x table scopes registers targets
  saved_running = so.run.running

  pub saved_registers_long : length registers ≡ length registers₀
  saved_registers_long = so.run.registers_long

  pub saved_targets_long : length targets ≡ length targets₀
  saved_targets_long = so.run.area_long

  pub saved_journal_long : length journal ≡ length journal₀
  saved_journal_long = so.long

  pub saved_areas : count ≤ i → areas_in (design_of image) registers targets ≡ after_cycles (design_of image) count (areas_in (design_of image) registers₀ targets₀)
  saved_areas = ran_done so.run

  pub saved_done : count ≤ i → journal ≡ overwritten_at place (all_saved_bytes (saved_before (lends registers₀ targets₀) (cycles (design_of image) count (areas_in (design_of image) registers₀ targets₀)))) journal₀
  saved_done l =
      let rest = so.run.rest in
      let none : so.run.left ≡ 0 = omega arith in
      so.written ∙ ap (λ (saved : List Lent). overwritten_at place (all_saved_bytes saved) journal₀) (sym (so.rest ∙ saved_none (design_of image) (lends registers targets) (areas_in (design_of image) registers targets) so.done none))

-- ---- and the count
module _ {image : List ℕ} {x : Design} (known : Describes image x) (registers targets journal : List ℕ) {count saved place : ℕ} (counted : saved ≡ count_in journal) (stands : place ≡ 4 + (4 * x.registers + 3 * x.states) * saved) (keeps : RoomKeeps (design_of image) journal count) where
  place_is : place ≡ count_length + saved_length (design_of image) * count_in journal
  place_is = rw (saved_size known, ← counted) stands

  pub room_behind : place + saved_length (design_of image) * count ≤ length journal
  room_behind =
      let here = place_is in
      let room = keeps.room in
      let sum = mul-add (saved_length (design_of image)) (count_in journal) count in
      omega arith

  pub journal_made : {between after : List ℕ} → after ≡ put_word between 0 (saved + count)
      → between ≡ overwritten_at place (all_saved_bytes (saved_before (lends registers targets) (cycles (design_of image) count (areas_in (design_of image) registers targets)))) journal
      → length between ≡ length journal
      → after ≡ journal_with (saved_in (design_of image) journal ++ saved_before (lends registers targets) (cycles (design_of image) count (areas_in (design_of image) registers targets))) journal
  journal_made {between} e f long =
      let d = design_of image in
      let more = saved_before (lends registers targets) (cycles d count (areas_in d registers targets)) in
      let counts = keeps.counts in
      let here = place_is in
      let behind = room_behind in
      e
      ∙ count_put between (saved + count) (omega arith)
      ∙ rw (f, here, counted) (saved_behind d journal more (length-run_saved d (lends registers targets) count (areas_in d registers targets)) (omega arith))

pub count_inside : {d : Table} {count : ℕ} (journal after : List ℕ) → RoomKeeps d journal count → length after ≡ length journal → 4 ≤ length after
count_inside journal after keeps long = let counts = keeps.counts in omega arith

pub count_fits : {d : Table} {count saved : ℕ} (journal : List ℕ) → saved ≡ count_in journal → RoomKeeps d journal count → Fits w32 (saved + count)
count_fits journal e keeps = let small = keeps.fits in record { fits = omega arith }
