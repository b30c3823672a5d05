-- Two accepted images, one the other under new numbers, run alike from reset: no call breaks that the areas are the same under new numbers, it answers alike as both have the same registers,
-- and its cycles walk the same states, which all stay.
use Prim.Native.Nat.{ℕ, zero, suc, ◌<◌}
use mathlib.Core.Path.{◌≡◌, refl, sym, ◌∙◌, ap, ap₂}
use mathlib.Core.Logic.{⊎_elim}
use mathlib.Core.Bool.{Bool, true, false, cond}
use mathlib.Core.List.Memᴰ
use mathlib.Core.List.{List, [], ◌∷◌, ◌++◌, map, map-append, Memᴰ}
use native.Mathlib.Omega.{arith}
use native.Mathlib.Decide.{dec_lt}
use lib.Dec.{leb}
use Rattle.model.specs.declared.Refusal.TheVariants.{NoPort, PortValue}
use Rattle.model.specs.Answers.{Accepted, Refused}
use Rattle.model.specs.Limits.{cycles_max}
use Rattle.model.specs.Image.{Design, design_of}
use Rattle.model.specs.Verdict.{verdict}
use Rattle.model.specs.Values.{fits, bytes_of}
use Rattle.model.specs.Machine.{Areas, reset_areas, Cycle, cycle, cycles, after_last, after_cycles}
use Rattle.model.specs.Calls.{Lent, Left, is_writable, lent_of}
use Rattle.model.specs.Parties.{Call, resets, writes, runs, Event, was_written, cycled, events_of, events, cycles_of, at_end}
use Rattle.model.proofs.Laws.Equivalences.{less_iff}
use Rattle.model.proofs.Exact.{verdict_exact}
use Rattle.model.proofs.Independence.Relation.{Good, with_register}
use Rattle.model.proofs.Independence.Instances.{AcceptedDesign}
use Rattle.model.proofs.Independence.Calls.{reset_leaves}
use Rattle.model.proofs.Independence.Lists.{cycles_append}
use Rattle.model.proofs.Independence.Theorem.{accepted_design}
use Rattle.renumbering.specs.Renumbers.{Renumbers}
use Rattle.renumbering.specs.Runs.{answers, Ran, ran_under, AllStay, RunAlike, SameRuns}
use Rattle.renumbering.proofs.Running.Areas.{Same, written_same}
use Rattle.renumbering.proofs.Running.Gotos.{reset_same}
use Rattle.renumbering.proofs.Running.Cycles.{cycle_together}
use Rattle.renumbering.proofs.Running.Calls.{answered, made, happened, performed, events_happened}

-- ---- cycles of what happened
cycles_cycled : (ran : List Cycle) → cycles_of (map cycled ran) ≡ ran
unfolding cycles_of
cycles_cycled [] = refl
cycles_cycled (c ∷ ran) = ap (λ (cs : List Cycle). c ∷ cs) (cycles_cycled ran)

map-same_number : (xs : List ℕ) → map (λ s. s) xs ≡ xs
map-same_number [] = refl
map-same_number (x ∷ xs) = ap (λ (ys : List ℕ). x ∷ ys) (map-same_number xs)

-- Two lists of cycles that are the same under new numbers, where every state of the first stays.
record RanAlike (state : ℕ → ℕ) (S : ℕ → Type 0) (ran ran' : List Cycle) : Type 0 where
  stay : AllStay S ran
  same : map (ran_under state) ran ≡ map (ran_under (λ s. s)) ran'

module _ (state : ℕ → ℕ) (S : ℕ → Type 0) where
  none_alike : RanAlike state S [] []
  none_alike = record { stay = λ c h. absurd (Memᴰ.not-nil h); same = refl }

  more_alike : (c c' : Cycle) (ran ran' : List Cycle) → ((s : ℕ) → Memᴰ s c.walk → S s) → ran_under state c ≡ ran_under (λ s. s) c'
      → RanAlike state S ran ran'
      → RanAlike state S (c ∷ ran) (c' ∷ ran')
  more_alike c c' ran ran' stay same more =
      record {
        stay = λ x h. ⊎_elim (λ (e : x ≡ c). rw e stay) (λ (k : Memᴰ x ran). more.stay x k) (Memᴰ.cases_cons h);
        same = ap₂ ◌∷◌ same more.same;
      }

  append-alike : (first first' second second' : List Cycle) → RanAlike state S first first' → RanAlike state S second second'
      → RanAlike state S (first ++ second) (first' ++ second')
  append-alike first first' second second' one other =
      record {
        stay = λ x h. ⊎_elim (λ (k : Memᴰ x first). one.stay x k) (λ (k : Memᴰ x second). other.stay x k) (Memᴰ.append_cases first h);
        same =
            map-append (ran_under state) first second
            ∙ ap₂ (λ (xs ys : List Ran). xs ++ ys) one.same other.same
            ∙ sym (map-append (ran_under (λ s. s)) first' second');
      }

module _ {d d' : Design} {state command expression : ℕ → ℕ} {S C E : ℕ → Type 0} (keeps : AcceptedDesign d) (keeps' : AcceptedDesign d') (new : Renumbers d d' state command expression S C E) where
  -- ---- so many cycles
  cycles_same : (n : ℕ) (a a' : Areas) → Same d d' state S a a' → Same d d' state S (after_cycles d n a) (after_cycles d' n a')
  unfolding after_cycles after_last cycles
  cycles_same zero a a' same = same
  cycles_same (suc n) a a' same = cycles_same n (cycle d a).after (cycle d' a').after (cycle_together keeps keeps' new a a' same).after

  cycles_alike : (n : ℕ) (a a' : Areas) → Same d d' state S a a' → RanAlike state S (cycles d n a) (cycles d' n a')
  unfolding cycles
  cycles_alike zero a a' same = none_alike state S
  cycles_alike (suc n) a a' same =
      let first = cycle_together keeps keeps' new a a' same in
      let walk : map state (cycle d a).walk ≡ map (λ s. s) (cycle d' a').walk = sym first.walk ∙ sym (map-same_number (cycle d' a').walk) in
      more_alike
      state
      S
      (cycle d a)
      (cycle d' a')
      (cycles d n (cycle d a).after)
      (cycles d' n (cycle d' a').after)
      first.stay
      (ap₂ (λ (registers walk : List ℕ). (let x : Ran = record { registers = registers; walk = walk } in x)) (sym first.after.registers) walk)
      (cycles_alike n (cycle d a).after (cycle d' a').after first.after)

  -- ---- one call
  same_writable : (r : ℕ) → is_writable d' r ≡ is_writable d r
  unfolding is_writable
  same_writable r = rw new.registers

  same_fits : (r v : ℕ) → fits d'.registers r v ≡ fits d.registers r v
  same_fits r v = rw new.registers

  same_answer : (call : Call) → answered d' call ≡ answered d call
  unfolding answered
  same_answer resets = refl
  same_answer (writes r v) = ap₂ (λ (w f : Bool). cond w (cond f (Accepted 0) (Refused PortValue r)) (Refused NoPort r)) (same_writable r) (same_fits r v)
  same_answer (runs n) = refl

  made_same : (call : Call) (a a' : Areas) → Same d d' state S a a' → Same d d' state S (made d a call) (made d' a' call)
  unfolding made
  made_same resets a a' same = reset_same keeps keeps' new
  made_same (writes r v) a a' same = rw (same_writable r, same_fits r v) (go (is_writable d r) (fits d.registers r v) refl)
    where
      go : (w f : Bool) → fits d.registers r v ≡ f → Same d d' state S (cond w (cond f (with_register r v a) a) a) (cond w (cond f (with_register r v a') a') a')
      go true true l = written_same new a a' same r v (less_iff.0 l)
      go true false l = same
      go false f l = same
  made_same (runs n) a a' same = go (leb n cycles_max)
    where
      go : (w : Bool) → Same d d' state S (cond w (after_cycles d n a) a) (cond w (after_cycles d' n a') a')
      go true = cycles_same n a a' same
      go false = same

  happened_alike : (call : Call) (a a' : Areas) → Same d d' state S a a' → RanAlike state S (cycles_of (happened d a call)) (cycles_of (happened d' a' call))
  unfolding happened cycles_of
  happened_alike resets a a' same = none_alike state S
  happened_alike (writes r v) a a' same =
      rw (none (is_writable d r) (fits d.registers r v), none (is_writable d' r) (fits d'.registers r v)) (none_alike state S)
    where
      none : (w f : Bool) → cycles_of (cond w (cond f (was_written r v ∷ []) []) []) ≡ []
      none true true = refl
      none true false = refl
      none false f = refl
  happened_alike (runs n) a a' same = go (leb n cycles_max)
    where
      go : (w : Bool) → RanAlike state S (cycles_of (cond w (map cycled (cycles d n a)) [])) (cycles_of (cond w (map cycled (cycles d' n a')) []))
      go true = rw (cycles_cycled (cycles d n a), cycles_cycled (cycles d' n a')) (cycles_alike n a a' same)
      go false = none_alike state S

-- ---- a list of calls
-- on one image, from good areas: what its first call does, and the rest
module _ (image : List ℕ) (accepted : verdict image ≡ Accepted 0) (a : Areas) (good : Good (design_of image) a) (call : Call) (more : List Call) where
  answers_first : answers image (lent_of a) (call ∷ more) ≡ answered (design_of image) call ∷ answers image (lent_of (made (design_of image) a call)) more
  unfolding answers
  answers_first = ap (λ (left : Left Lent). left.answer ∷ answers image left.lent more) (performed image accepted a good call)

  events_first : events image (lent_of a) (call ∷ more) ≡ happened (design_of image) a call ++ events image (lent_of (made (design_of image) a call)) more
  unfolding events
  events_first =
      let rest = events image (lent_of (made (design_of image) a call)) more in
      ap (λ (left : Left Lent). events_of left.answer image (lent_of a) call ++ events image left.lent more) (performed image accepted a good call)
      ∙ ap (λ (first : List Event). first ++ rest) (events_happened image accepted a good call)

  cycles_first : cycles_of (events image (lent_of a) (call ∷ more))
      ≡ cycles_of (happened (design_of image) a call) ++ cycles_of (events image (lent_of (made (design_of image) a call)) more)
  cycles_first = ap cycles_of events_first ∙ cycles_append (happened (design_of image) a call) (events image (lent_of (made (design_of image) a call)) more)

  end_first : at_end image (lent_of a) (call ∷ more) ≡ at_end image (lent_of (made (design_of image) a call)) more
  unfolding at_end
  end_first = ap (λ (left : Left Lent). at_end image left.lent more) (performed image accepted a good call)

-- on two images
module _
    (image other : List ℕ)
    (accepted : verdict image ≡ Accepted 0)
    (accepted' : verdict other ≡ Accepted 0)
    {state command expression : ℕ → ℕ}
    {S C E : ℕ → Type 0}
    (new : Renumbers (design_of image) (design_of other) state command expression S C E) where
  keeps : AcceptedDesign (design_of image)
  keeps = accepted_design image ((verdict_exact image).0 accepted)

  keeps' : AcceptedDesign (design_of other)
  keeps' = accepted_design other ((verdict_exact other).0 accepted')

  list_alike : (calls : List Call) (a a' : Areas) → Same (design_of image) (design_of other) state S a a'
      → RanAlike state S (cycles_of (events image (lent_of a) calls)) (cycles_of (events other (lent_of a') calls))
  unfolding events cycles_of
  list_alike [] a a' same = none_alike state S
  list_alike (call ∷ more) a a' same =
      rw
      (cycles_first image accepted a same.good call more, cycles_first other accepted' a' same.good' call more)
      (append-alike
      state
      S
      (cycles_of (happened (design_of image) a call))
      (cycles_of (happened (design_of other) a' call))
      (cycles_of (events image (lent_of (made (design_of image) a call)) more))
      (cycles_of (events other (lent_of (made (design_of other) a' call)) more))
      (happened_alike keeps keeps' new call a a' same)
      (list_alike more (made (design_of image) a call) (made (design_of other) a' call) (made_same keeps keeps' new call a a' same)))

  list_same : (calls : List Call) (a a' : Areas) → Same (design_of image) (design_of other) state S a a'
      → (answers image (lent_of a) calls ≡ answers other (lent_of a') calls) × ((at_end image (lent_of a) calls).registers ≡ (at_end other (lent_of a') calls).registers)
  unfolding answers at_end lent_of
  list_same [] a a' same = (refl, ap bytes_of (sym same.registers))
  list_same (call ∷ more) a a' same =
      let (same-answers, same_end) = list_same more (made (design_of image) a call) (made (design_of other) a' call) (made_same keeps keeps' new call a a' same) in (
        answers_first image accepted a same.good call more
            ∙ ap₂ ◌∷◌ (sym (same_answer keeps keeps' new call)) same-answers
            ∙ sym (answers_first other accepted' a' same.good' call more),
        ap (λ (lent : Lent). lent.registers) (end_first image accepted a same.good call more)
            ∙ same_end
            ∙ sym (ap (λ (lent : Lent). lent.registers) (end_first other accepted' a' same.good' call more)),
      )

  run_alike : (calls : List Call) (a a' : Areas) → Same (design_of image) (design_of other) state S a a' → RunAlike image other S state (lent_of a) (lent_of a') calls
  run_alike calls a a' same =
      let (answer, registers) = list_same calls a a' same in
      let alike = list_alike calls a a' same in
      record { answer = answer; stay = alike.stay; ran = alike.same; registers = registers }

  -- new numbers are in the old order
  states_apart : (s t : ℕ) → S s → S t → state s ≡ state t → s ≡ t
  states_apart s t stays stays' e = go (dec_lt s t) (dec_lt t s)
    where
      go : Dec (s < t) → Dec (t < s) → s ≡ t
      go (yes l) more = absurd (omega (arith, new.states_order s t stays stays' l))
      go (no l) (yes m) = absurd (omega (arith, new.states_order t s stays' stays m))
      go (no l) (no m) = omega arith

  -- No two states that stay have one number, and of every list of calls from a reset of areas of the right lengths: the same answers, no state runs but those that stay, the same
  -- registers and walks under the new numbers, and the same registers at the end.
  pub renumbered_runs : SameRuns image other S state
  renumbered_runs =
      record {
        apart = states_apart;
        same = λ lent lent' lengths lengths' calls.
            rw
            (reset_leaves image accepted lent lengths, reset_leaves other accepted' lent' lengths')
            (run_alike calls (reset_areas (design_of image)) (reset_areas (design_of other)) (reset_same keeps keeps' new));
      }
