-- A cycle body by body: as many bodies are left as states were not yet reached, and what they leave from here on is what the whole cycle leaves. Each body is that of a
-- state along the targets, where all that is in scope is soundly bound; and a cycle leaves good areas good, so it can be run again.
use Prim.Native.Nat.{ℕ, suc, ◌+◌, ◌-◌, ◌*◌, ◌≤◌, ◌<◌}
use mathlib.Core.Path.{◌≡◌, refl, sym, ◌∙◌, ap}
use mathlib.Core.Bool.{true}
use mathlib.Core.List.{List, [], ◌∷◌, ◌++◌, append-nil}
use native.Mathlib.Omega.{arith}
use lib.ListN.{length, get_or, set, length-set, length-drop}
use lib.Seq.{length-take-le, get_or-take}
use mir.Syntax.{w32}
use mir.Val.{Fits}
use Rattle.model.specs.declared.Ending.{Ending}
use Rattle.model.specs.declared.Ending.TheVariants.{Goto, Fall}
use Rattle.model.specs.declared.Outcome.{Outcome}
use Rattle.model.specs.declared.Outcome.TheVariants.{Continued, Transferred}
use Rattle.model.specs.Image.{Design as Table, States, design_of}
use Rattle.model.specs.Bindings.{body_with, bound_by, on_path}
use Rattle.model.specs.Machine.{Areas, Cycle, exec, gone_to, after_body, run_from, cycle, after_cycles, cycles, after_last}
use Rattle.model.specs.Calls.{targets_in, bindings_in}
use Rattle.model.proofs.Laws.Words.{length-words_of}
use Rattle.model.proofs.Laws.Cycles.{after_first}
use Rattle.model.proofs.Independence.Relation.{Good}
use Rattle.model.proofs.Independence.Path.{Live, live_sound, target_live, root_live, run_good}
use Rattle.design.specs.declared.Design.{Design}
use Rattle.design.proofs.Laws.{states_count}
use Rattle.design.proofs.ResetRules.{states_few, state_fits}
use Rattle.machine_commands.specs.Executions.{executed_as, values_in}
use Rattle.machine.specs.Bindings.{Gone}
use Rattle.machine.specs.Cycles.{Running, Entered, Cycled, areas_in, overwritten}
use Rattle.machine.proofs.BodyRules.{accepted}

-- ---- the walk as it is written
pub put_shown : (shown old : List ℕ) (v : ℕ) → length shown < length old → set (overwritten shown old) (length shown) v ≡ overwritten (shown ++ v ∷ []) old
put_shown [] [] v l = absurd (omega arith)
put_shown [] (y ∷ old) v l = refl
put_shown (a ∷ shown) [] v l = absurd (omega arith)
put_shown (a ∷ shown) (y ∷ old) v l = ap (λ (more : List ℕ). a ∷ more) (put_shown shown old v (omega arith))

length-one_more : (shown : List ℕ) (v : ℕ) → length (shown ++ v ∷ []) ≡ length shown + 1
length-one_more [] v = refl
length-one_more (a ∷ shown) v = let more = length-one_more shown v in omega arith

one_more : (shown : List ℕ) (v : ℕ) (rest : List ℕ) → shown ++ v ∷ rest ≡ (shown ++ v ∷ []) ++ rest
one_more [] v rest = refl
one_more (a ∷ shown) v rest = ap (λ (more : List ℕ). a ∷ more) (one_more shown v rest)

-- ---- one body
ran_step : (d : Table) (f s : ℕ) (areas : Areas) {values : List ℕ} {o : Outcome} → executed_as values o ≡ exec d.registers areas.registers (body_with d areas.bindings s)
    → run_from d (suc f) s areas
    ≡ after_body d o s (record { registers = values; targets = areas.targets; bindings = areas.bindings }) (run_from d f (get_or areas.targets s 0) (record { registers = values; targets = areas.targets; bindings = areas.bindings }))
unfolding run_from
ran_step d f s areas e = rw (← e)

-- n bodies ran, and f are left
pub record CycleSo (d : Table) (start : Areas) (before : List ℕ) (n s : ℕ) (now : Areas) (walk : List ℕ) : Type 0 where
  pub shown : List ℕ
  pub left : ℕ
  pub count : n ≡ length shown
  pub bodies : n + left ≡ length d.states
  pub state : s < length d.states
  pub written : walk ≡ overwritten shown before
  pub after : (cycle d start).after ≡ (run_from d left s now).after
  pub walked : (cycle d start).walk ≡ shown ++ (run_from d left s now).walk

pub cycle_begins : (d : Table) (start : Areas) (before : List ℕ) → 0 < length d.states → CycleSo d start before 0 0 start before
unfolding cycle
cycle_begins d start before l =
    record {
      shown = [];
      left = length d.states;
      count = refl;
      bodies = omega arith;
      state = l;
      written = refl;
      after = refl;
      walked = refl;
    }

-- the bodies that are left, one of them apart
one_left : {f : ℕ} (n m : ℕ) → n < m → n + f ≡ m → f ≡ suc (f - 1)
one_left n m l e = omega arith

module _ {d : Table} {start now : Areas} {before walk values : List ℕ} {n s : ℕ} {o : Outcome} (so : CycleSo d start before n s now walk) (l : n < length d.states) (long : length d.states ≤ length before) (ran : executed_as values o ≡ exec d.registers now.registers (body_with d now.bindings s)) where
  abbrev areas_left : Areas
  areas_left = record { registers = values; targets = now.targets; bindings = now.bindings }

  abbrev fell_run : Cycle
  fell_run = run_from d (so.left - 1) (get_or now.targets s 0) areas_left

  same_run : run_from d so.left s now ≡ after_body d o s areas_left fell_run
  same_run = ap (λ (f : ℕ). run_from d f s now) (one_left n (length d.states) l so.bodies) ∙ ran_step d (so.left - 1) s now ran

  shown_on : set walk n s ≡ overwritten (so.shown ++ s ∷ []) before
  shown_on = let count = so.count in rw (so.written, count) (put_shown so.shown before s (omega arith))

  count_on : n + 1 ≡ length (so.shown ++ s ∷ [])
  count_on = let count = so.count in let more = length-one_more so.shown s in omega arith

  -- where the cycle ends with this body
  ends_at : (c : Areas) → (after_body d o s areas_left fell_run).after ≡ c → (after_body d o s areas_left fell_run).walk ≡ s ∷ [] → Cycled (cycle d start) c before (set walk n s) (n + 1)
  ends_at c h k =
      let whole : (cycle d start).walk ≡ so.shown ++ s ∷ [] = so.walked ∙ ap (λ (w : List ℕ). so.shown ++ w) (ap (λ (y : Cycle). y.walk) same_run ∙ k) in
      record {
        after = sym (so.after ∙ ap (λ (y : Cycle). y.after) same_run ∙ h);
        walk = shown_on ∙ sym (ap (λ (w : List ℕ). overwritten w before) whole);
        count = count_on ∙ sym (ap length whole);
      }

  pub cycle_stops : o ≡ Continued → Cycled (cycle d start) areas_left before (set walk n s) (n + 1)
  unfolding after_body
  cycle_stops h = ends_at areas_left (rw h) (rw h)

  pub cycle_goes : {e : Ending} {t a b : ℕ} → o ≡ Transferred e → e ≡ Goto t a b → Cycled (cycle d start) (record { registers = values; targets = gone_to d t now.targets; bindings = bound_by d t a b now.bindings }) before (set walk n s) (n + 1)
  unfolding after_body
  cycle_goes {t = t} {a = a} {b = b} h k = ends_at (record { registers = values; targets = gone_to d t now.targets; bindings = bound_by d t a b now.bindings }) (rw (h, k)) (rw (h, k))

  fell_after : {e : Ending} → o ≡ Transferred e → e ≡ Fall → (after_body d o s areas_left fell_run).after ≡ fell_run.after
  unfolding after_body
  fell_after h k = rw (h, k)

  fell_walk : {e : Ending} → o ≡ Transferred e → e ≡ Fall → (after_body d o s areas_left fell_run).walk ≡ s ∷ fell_run.walk
  unfolding after_body
  fell_walk h k = rw (h, k)

  pub cycle_falls : {e : Ending} {q : ℕ} → o ≡ Transferred e → e ≡ Fall → q ≡ get_or now.targets s 0 → q < length d.states → CycleSo d start before (n + 1) q areas_left (set walk n s)
  cycle_falls {q = q} h k at inside =
      let bodies = so.bodies in
      record {
        shown = so.shown ++ s ∷ [];
        left = so.left - 1;
        count = count_on;
        bodies = omega arith;
        state = inside;
        written = shown_on;
        after = so.after ∙ ap (λ (y : Cycle). y.after) same_run ∙ fell_after h k ∙ rw at;
        walked = so.walked ∙ ap (λ (w : List ℕ). so.shown ++ w) (ap (λ (y : Cycle). y.walk) same_run ∙ fell_walk h k) ∙ rw at (one_more so.shown s fell_run.walk);
      }

-- as many bodies as there are states ran: none is left
pub cycle_full : {d : Table} {start now : Areas} {before walk : List ℕ} {n s : ℕ} → CycleSo d start before n s now walk → length d.states ≤ n → Cycled (cycle d start) now before walk n
unfolding run_from
cycle_full {d} {start} {now} {before} {walk} {n} {s} so l =
    let bodies = so.bodies in
    let none : so.left ≡ 0 = omega arith in
    let whole : (cycle d start).walk ≡ so.shown = so.walked ∙ rw none (append-nil so.shown) in
    record {
      after = sym (so.after ∙ rw none);
      walk = so.written ∙ sym (ap (λ (w : List ℕ). overwritten w before) whole);
      count = so.count ∙ sym (ap length whole);
    }

-- ---- good areas
module _ {image : List ℕ} {x : Design} {table scopes registers area : List ℕ} (running : Running image x table scopes registers area) where
  states_are : x.states ≡ length (design_of image).states
  states_are = states_count running.known.describes

  some_state : 0 < length (design_of image).states
  some_state =
      let count = states_are in
      let is = running.known.describes.states in
      let some = (running.keeps.directory.sections States).at_least in
      omega arith

  running_good : Good (design_of image) (areas_in (design_of image) registers area)
  running_good =
      let count = states_are in
      let size = running.states in
      let behind = length-drop (length (design_of image).states) area in
      record {
        registers_length = length-words_of (length (design_of image).registers) registers;
        targets_length = length-take-le (length (design_of image).states) area (omega arith);
        fitting = running.fitting;
        sound = running.sound;
        bindings_length = omega arith;
        bound = running.bound;
      }

  -- a cycle leaves what it asks for
  pub running_again : {after gone before walk : List ℕ} {n : ℕ} → Cycled (cycle (design_of image) (areas_in (design_of image) registers area)) (areas_in (design_of image) after gone) before walk n → length after ≡ length registers → length gone ≡ length area → Running image x table scopes after gone
  unfolding cycle
  running_again cycled same same' =
      let d = design_of image in
      let start = areas_in d registers area in
      let whole = accepted running.keeps running.known.describes in
      let good = run_good d whole (length d.states) 0 start (root_live d whole start some_state) running_good in
      let left = rw (← cycled.after) at good in
      record {
        known = running.known;
        keeps = running.keeps;
        defaults = running.defaults;
        scopes = running.scopes;
        area = same ∙ running.area;
        states = same' ∙ running.states;
        fitting = left.fitting;
        sound = left.sound;
        bound = left.bound;
      }

-- ---- and what is known of the areas meanwhile: only registers change before a goto, which ends the cycle
pub record Cycling (image : List ℕ) (x : Design) (table scopes registers₀ area₀ walk₀ : List ℕ) (n s : ℕ) (registers area walk : List ℕ) : Type 0 where
  pub so : CycleSo (design_of image) (areas_in (design_of image) registers₀ area₀) walk₀ n s (areas_in (design_of image) registers area) walk
  pub running : Running image x table scopes registers₀ area₀
  pub on : on_path (design_of image) (targets_in (design_of image) area₀) s ≡ true
  pub registers_long : length registers ≡ length registers₀
  pub same : area ≡ area₀
  pub before : x.states ≤ length walk₀
  pub long : length walk ≡ length walk₀

pub cycling_begins : {image : List ℕ} {x : Design} {table scopes registers area walk : List ℕ} → Running image x table scopes registers area → x.states ≤ length walk → Cycling image x table scopes registers area walk 0 0 registers area walk
cycling_begins {image} {x} {table} {scopes} {registers} {area} {walk} running l =
    let d = design_of image in
    let start = areas_in d registers area in
    record {
      so = cycle_begins d start walk (some_state running);
      running = running;
      on = (root_live d (accepted running.keeps running.known.describes) start (some_state running)).on;
      registers_long = refl;
      same = refl;
      before = l;
      long = refl;
    }

module _ {image : List ℕ} {x : Design} {table scopes registers₀ area₀ walk₀ registers area walk : List ℕ} {n s : ℕ} (c : Cycling image x table scopes registers₀ area₀ walk₀ n s registers area walk) where
  count_are : x.states ≡ length (design_of image).states
  count_are = states_are c.running

  pub cycling_state : s < x.states
  cycling_state = let count = count_are in let state = c.so.state in omega arith

  pub cycling_fits : s < 256
  cycling_fits = state_fits c.running.known.describes cycling_state

  pub cycling_size : length area ≡ 3 * x.states
  cycling_size = rw c.same c.running.states

  pub cycling_target : s < length area
  cycling_target = let size = cycling_size in let state = cycling_state in omega arith

  pub cycling_registers : (after : List ℕ) → length after ≡ length registers → length after ≡ length registers₀
  cycling_registers after same = same ∙ c.registers_long

  pub cycling_area : length area ≡ length area₀
  cycling_area = ap length c.same

  pub cycling_gone : {t a b : ℕ} {gone : List ℕ} → Gone (design_of image) t a b area gone → length gone ≡ length area₀
  cycling_gone g = g.long ∙ cycling_area

  below : n < x.states → n < length (design_of image).states
  below l = let count = count_are in omega arith

  enough : length (design_of image).states ≤ length walk₀
  enough = let count = count_are in let before = c.before in omega arith

  -- the areas at the beginning of the cycle, which the targets and bindings still are
  abbrev start : Areas
  start = areas_in (design_of image) registers₀ area₀

  live : Live (design_of image) (areas_in (design_of image) registers₀ area₀) s
  live = record { state = c.so.state; on = c.on }

  pub cycling_entered : Entered image x scopes registers area s
  cycling_entered =
      let whole = accepted c.running.keeps c.running.known.describes in
      record {
        known = c.running.known;
        keeps = c.running.keeps;
        scopes = c.running.scopes;
        area = c.registers_long ∙ c.running.area;
        states = cycling_size;
        state = cycling_state;
        bound = rw c.same (live_sound (design_of image) whole start (running_good c.running) s live);
      }

  module _ (after : List ℕ) {o : Outcome} (l : n < x.states) (ran : executed_as (values_in (design_of image) after) o ≡ exec (design_of image).registers (values_in (design_of image) registers) (body_with (design_of image) (bindings_in (design_of image) area) s)) where
    pub cycling_stops : o ≡ Continued → Cycled (cycle (design_of image) (areas_in (design_of image) registers₀ area₀)) (areas_in (design_of image) after area) walk₀ (set walk n s) (n + 1)
    cycling_stops h = cycle_stops c.so (below l) enough ran h

    pub stops_running : o ≡ Continued → length after ≡ length registers → Running image x table scopes after area
    stops_running h same = running_again c.running (cycling_stops h) (cycling_registers after same) cycling_area

    pub cycling_goes : {e : Ending} {t a b : ℕ} {gone : List ℕ} → o ≡ Transferred e → e ≡ Goto t a b → Gone (design_of image) t a b area gone
        → Cycled (cycle (design_of image) (areas_in (design_of image) registers₀ area₀)) (areas_in (design_of image) after gone) walk₀ (set walk n s) (n + 1)
    cycling_goes h k g = rw (g.targets, g.bindings) (cycle_goes c.so (below l) enough ran h k)

    pub goes_running : {e : Ending} {t a b : ℕ} {gone : List ℕ} → length after ≡ length registers → o ≡ Transferred e → e ≡ Goto t a b → Gone (design_of image) t a b area gone → Running image x table scopes after gone
    goes_running same h k g = running_again c.running (cycling_goes h k g) (cycling_registers after same) (cycling_gone g)

    pub cycling_falls : {e : Ending} {q : ℕ} → length after ≡ length registers → o ≡ Transferred e → e ≡ Fall → q ≡ get_or area s 0 → Cycling image x table scopes registers₀ area₀ walk₀ (n + 1) q after area (set walk n s)
    cycling_falls {q = q} same h k at =
        let d = design_of image in
        let whole = accepted c.running.keeps c.running.known.describes in
        let points : q ≡ get_or (targets_in d area) s 0 = at ∙ sym (get_or-take (length d.states) area s 0 c.so.state) in
        let points₀ : q ≡ get_or (targets_in d area₀) s 0 = rw c.same at points in
        let next = target_live d whole start (running_good c.running) s live in
        record {
          so = cycle_falls c.so (below l) enough ran h k points (rw points₀ next.state);
          running = c.running;
          on = rw points₀ next.on;
          registers_long = same ∙ c.registers_long;
          same = c.same;
          before = c.before;
          long = length-set walk n s ∙ c.long;
        }

  pub cycling_full : x.states ≤ n → Cycled (cycle (design_of image) (areas_in (design_of image) registers₀ area₀)) (areas_in (design_of image) registers area) walk₀ walk x.states
  cycling_full l =
      let count = count_are in
      let bodies = c.so.bodies in
      let all : n ≡ x.states = omega arith in
      rw (← all) (cycle_full c.so (omega arith))

  pub full_running : x.states ≤ n → Running image x table scopes registers area
  full_running l = running_again c.running (cycling_full l) c.registers_long cycling_area

-- ---- so many cycles
-- i cycles ran, and the others go on from here
pub record RanSo (image : List ℕ) (x : Design) (table scopes : List ℕ) (count : ℕ) (registers₀ area₀ : List ℕ) (i : ℕ) (registers area : List ℕ) : Type 0 where
  pub left : ℕ
  pub rest : i + left ≡ count
  pub same : after_cycles (design_of image) left (areas_in (design_of image) registers area) ≡ after_cycles (design_of image) count (areas_in (design_of image) registers₀ area₀)
  pub running : Running image x table scopes registers area
  pub registers_long : length registers ≡ length registers₀
  pub area_long : length area ≡ length area₀

pub ran_begins : {image : List ℕ} {x : Design} {table scopes registers area : List ℕ} (count : ℕ) → Running image x table scopes registers area → RanSo image x table scopes count registers area 0 registers area
ran_begins count running = record { left = count; rest = omega arith; same = refl; running = running; registers_long = refl; area_long = refl }

module _ {image : List ℕ} {x : Design} {count i : ℕ} {table scopes registers₀ area₀ registers area : List ℕ} (so : RanSo image x table scopes count registers₀ area₀ i registers area) where
  pub ran_fits : i < count → Fits w32 count → Fits w32 (i + 1)
  ran_fits l fits = let below = fits.fits in record { fits = omega arith }

  pub ran_more : {after gone : List ℕ} → i < count → areas_in (design_of image) after gone ≡ (cycle (design_of image) (areas_in (design_of image) registers area)).after
      → Running image x table scopes after gone
      → length after ≡ length registers
      → length gone ≡ length area
      → RanSo image x table scopes count registers₀ area₀ (i + 1) after gone
  ran_more {after} {gone} l cycled running same same' =
      let d = design_of image in
      let rest = so.rest in
      let one : so.left ≡ suc (so.left - 1) = omega arith in
      record {
        left = so.left - 1;
        rest = omega arith;
        same = ap (after_cycles d (so.left - 1)) cycled
            ∙ sym (after_first d (so.left - 1) (areas_in d registers area))
            ∙ ap (λ (n : ℕ). after_cycles d n (areas_in d registers area)) (sym one)
            ∙ so.same;
        running = running;
        registers_long = same ∙ so.registers_long;
        area_long = same' ∙ so.area_long;
      }

  pub ran_done : count ≤ i → areas_in (design_of image) registers area ≡ after_cycles (design_of image) count (areas_in (design_of image) registers₀ area₀)
  unfolding after_cycles cycles after_last
  ran_done l =
      let rest = so.rest in
      let none : so.left ≡ 0 = omega arith in
      rw none at so.same

-- the same with the table of the walk, whose length stays
pub record RunSo (image : List ℕ) (x : Design) (table scopes : List ℕ) (count : ℕ) (registers₀ area₀ : List ℕ) (i : ℕ) (registers area walk : List ℕ) : Type 0 where
  pub ran : RanSo image x table scopes count registers₀ area₀ i registers area
  pub walk_long : length walk ≡ 64

pub run_begins : {image : List ℕ} {x : Design} {table scopes registers area walk : List ℕ} (count : ℕ) → Running image x table scopes registers area → length walk ≡ 64 → RunSo image x table scopes count registers area 0 registers area walk
run_begins count running long = record { ran = ran_begins count running; walk_long = long }

module _ {image : List ℕ} {x : Design} {count i : ℕ} {table scopes registers₀ area₀ registers area walk : List ℕ} (so : RunSo image x table scopes count registers₀ area₀ i registers area walk) where
  pub run_room : x.states ≤ length walk
  run_room = let few = states_few so.ran.running.known.describes in let long = so.walk_long in omega arith

  pub run_more : {after gone before written : List ℕ} {n : ℕ} → i < count → Cycled (cycle (design_of image) (areas_in (design_of image) registers area)) (areas_in (design_of image) after gone) before written n
      → Running image x table scopes after gone
      → length after ≡ length registers
      → length gone ≡ length area
      → length written ≡ length walk
      → RunSo image x table scopes count registers₀ area₀ (i + 1) after gone written
  run_more l cycled running same same' long = record { ran = ran_more so.ran l cycled.after running same same'; walk_long = long ∙ so.walk_long }

  pub run_done : count ≤ i → areas_in (design_of image) registers area ≡ after_cycles (design_of image) count (areas_in (design_of image) registers₀ area₀)
  run_done = ran_done so.ran
