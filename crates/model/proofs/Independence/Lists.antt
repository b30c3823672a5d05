-- A relation that no call breaks makes every list of calls show what one canonical run of what remains of it shows: a refused call and a write that is
-- not seen leave the relation as it is, and any other call makes the same step in both runs. So two lists of which the same remains show the same, in the view and
-- in the wider one.
use Prim.Native.Nat.{ℕ, zero, suc, ◌+◌, ◌-◌, ◌*◌, ◌<◌}
use mathlib.Core.Path.{◌≡◌, refl, sym, ◌∙◌, ap}
use mathlib.Core.Bool.{Bool, true, false, cond}
use mathlib.Core.List.{List, [], ◌∷◌, ◌++◌, map, append_assoc, append-nil, map-append}
use lib.Dec.{leb}
use lib.Pow.{pow_pos}
use lib.ListN.{length, get_or, set, take, drop, length-set, length-append, take-append-drop}
use native.Mathlib.Omega.{arith}
use Rattle.model.specs.Limits.{binding_length}
use Rattle.model.specs.declared.Refusal.{Refusal}
use Rattle.model.specs.Answers.{Accepted, Refused}
use Rattle.model.specs.Limits.{word_length, cycles_max}
use Rattle.model.specs.Image.{Design, register_at, design_of}
use Rattle.model.specs.Rules.{StructureKeeps}
use Rattle.model.specs.Verdict.{verdict}
use Rattle.model.specs.Values.{modulus, fits, words_of}
use Rattle.model.specs.Machine.{Areas, Cycle, reset_areas, cycle, cycles, after_last, after_cycles}
use Rattle.model.specs.Calls.{Lent, Left, content_kept, is_writable, areas_of, lent_of, reset}
use Rattle.model.specs.Parties.{Call, resets, writes, runs, perform, Event, was_reset, was_written, cycled, events_of, events, at_end, Seen, Remaining, a_reset, a_write, a_cycle, register_seen, values_seen, view, wider_view, remaining, RightLengths, Use, with_unseen, start, history, remains, views, wider_views, seen_at_end, journalled, stepped_back, a_journalled_cycle, a_step_back, cycles_of, shown, widely_shown, Beginning}
use Rattle.model.proofs.Laws.Equivalences.{less_iff}
use Rattle.model.proofs.Laws.Words.{length-bytes_of}
use Rattle.model.proofs.Exact.{verdict_exact}
use Rattle.model.proofs.Independence.Relation.{Good, with_register, start_areas, Bisimulation}
use Rattle.model.proofs.Independence.Calls.{areas_of_lent, length-lent, words_of_written, written, reset_leaves, write_refused, write_too_large, write_accepted, run_refused, run_accepted}
use Rattle.model.proofs.Independence.Widths.{set_fitting, fitting_bounded}

-- ---- the canonical run of what remains of a list
-- the areas of the canonical run, and those that it saved before its journalled cycles, oldest first
pub record Course : Type 0 where
  pub areas : Areas
  pub saved : List Areas

abbrev pub course_of : Areas → List Areas → Course
course_of areas saved = record { areas = areas; saved = saved }

-- back to the areas that were saved last
unfoldable pub back_once : Course → Course
back_once course =
    let kept = length course.saved - 1 in
    course_of (get_or course.saved kept course.areas) (take kept course.saved)

pub cycles_append : (first second : List Event) → cycles_of (first ++ second) ≡ cycles_of first ++ cycles_of second
unfolding cycles_of
cycles_append [] second = refl
cycles_append (was_reset ∷ first) second = cycles_append first second
cycles_append (was_written r v ∷ first) second = cycles_append first second
cycles_append (cycled c ∷ first) second = rw (cycles_append first second)
cycles_append (journalled c ∷ first) second = rw (cycles_append first second)
cycles_append (stepped_back ∷ first) second = cycles_append first second

module _ (d : Design) (level : ℕ) where
  -- where a part of what remains leads
  abbrev onward : Course → Remaining → Course
  onward course a_reset = course_of (reset_areas d) course.saved
  onward course (a_write r v) = course_of (with_register r v course.areas) course.saved
  onward course a_cycle = course_of (cycle d course.areas).after course.saved
  onward course a_journalled_cycle = course_of (cycle d course.areas).after (course.saved ++ (course.areas ∷ []))
  onward course a_step_back = back_once course

  -- the cycles that it makes
  abbrev cycling : Course → Remaining → List Cycle
  cycling course a_reset = []
  cycling course (a_write r v) = []
  cycling course a_cycle = cycle d course.areas ∷ []
  cycling course a_journalled_cycle = cycle d course.areas ∷ []
  cycling course a_step_back = []

  unfoldable pub followed_cycles : Course → List Remaining → List Cycle
  followed_cycles course [] = []
  followed_cycles course (part ∷ more) = cycling course part ++ followed_cycles (onward course part) more

  -- what they show, in the view and in the wider one
  unfoldable pub followed : Course → List Remaining → List Seen
  followed course parts = map (shown d level) (followed_cycles course parts)

  unfoldable pub widely_followed : Course → List Remaining → List Seen
  widely_followed course parts = map (widely_shown d level) (followed_cycles course parts)

  unfoldable pub followed_end : Course → List Remaining → Course
  followed_end course [] = course
  followed_end course (part ∷ more) = followed_end (onward course part) more

  -- ---- one list and then another
  pub followed_cycles_append : (course : Course) (first second : List Remaining)
      → followed_cycles course (first ++ second) ≡ followed_cycles course first ++ followed_cycles (followed_end course first) second
  unfolding followed_cycles followed_end
  followed_cycles_append course [] second = refl
  followed_cycles_append course (part ∷ first) second =
      rw (
        followed_cycles_append (onward course part) first second,
        append_assoc (cycling course part) (followed_cycles (onward course part) first) (followed_cycles (followed_end (onward course part) first) second),
      )

  pub end_append : (course : Course) (first second : List Remaining) → followed_end course (first ++ second) ≡ followed_end (followed_end course first) second
  unfolding followed_end
  end_append course [] second = refl
  end_append course (part ∷ first) second = end_append (onward course part) first second

  pub remaining_append : (first second : List Event) → remaining d level (first ++ second) ≡ remaining d level first ++ remaining d level second
  unfolding remaining
  remaining_append [] second = refl
  remaining_append (was_reset ∷ first) second = rw (remaining_append first second)
  remaining_append (was_written r v ∷ first) second = rw (remaining_append first second) (go (register_seen d level r))
    where
      go : (w : Bool)
          → cond w (a_write r v ∷ (remaining d level first ++ remaining d level second)) (remaining d level first ++ remaining d level second)
          ≡ cond w (a_write r v ∷ remaining d level first) (remaining d level first) ++ remaining d level second
      go true = refl
      go false = refl
  remaining_append (cycled c ∷ first) second = rw (remaining_append first second)
  remaining_append (journalled c ∷ first) second = rw (remaining_append first second)
  remaining_append (stepped_back ∷ first) second = rw (remaining_append first second)

-- the areas before each of n cycles
unfoldable pub areas_before : Design → ℕ → Areas → List Areas
areas_before d zero areas = []
areas_before d (suc n) areas = areas ∷ areas_before d n (cycle d areas).after

module _ (d₁ d₂ : Design) (level : ℕ) where
  -- events of the first design show what the canonical run in the second shows, which they lead from a course to a course
  pub record Agrees (happened : List Event) (course reached : Course) : Type 0 where
    pub seen : view d₁ level happened ≡ followed d₂ level course (remaining d₁ level happened)
    pub widely_seen : wider_view d₁ level happened ≡ widely_followed d₂ level course (remaining d₁ level happened)
    pub at_end : followed_end d₂ level course (remaining d₁ level happened) ≡ reached

  -- what is shown of one list and then of another, in either view
  shows_both : (show₁ show₂ : Cycle → Seen) (first second : List Event) (course between : Course)
      → map show₁ (cycles_of first) ≡ map show₂ (followed_cycles d₂ level course (remaining d₁ level first))
      → map show₁ (cycles_of second) ≡ map show₂ (followed_cycles d₂ level between (remaining d₁ level second))
      → followed_end d₂ level course (remaining d₁ level first) ≡ between
      → map show₁ (cycles_of (first ++ second)) ≡ map show₂ (followed_cycles d₂ level course (remaining d₁ level (first ++ second)))
  shows_both show₁ show₂ first second course between h k ends =
      let before₂ = followed_cycles d₂ level course (remaining d₁ level first) in
      let after₂ = followed_cycles d₂ level between (remaining d₁ level second) in
      rw (remaining_append d₁ level first second, followed_cycles_append d₂ level course (remaining d₁ level first) (remaining d₁ level second), ends, cycles_append first second, map-append show₁ (cycles_of first) (cycles_of second), map-append show₂ before₂ after₂, h, k)

module _ {d₁ d₂ : Design} {level : ℕ} where
  pub agrees_append : {first second : List Event} {course between reached : Course}
      → Agrees d₁ d₂ level first course between
      → Agrees d₁ d₂ level second between reached
      → Agrees d₁ d₂ level (first ++ second) course reached
  unfolding view wider_view followed widely_followed
  agrees_append {first} {second} {course} {between} h k =
      record {
        seen = shows_both d₁ d₂ level (shown d₁ level) (shown d₂ level) first second course between h.seen k.seen h.at_end;
        widely_seen = shows_both d₁ d₂ level (widely_shown d₁ level) (widely_shown d₂ level) first second course between h.widely_seen k.widely_seen h.at_end;
        at_end = rw (remaining_append d₁ level first second, end_append d₂ level course (remaining d₁ level first) (remaining d₁ level second), h.at_end) k.at_end;
      }

  module _ {areas : Areas} {saved : List Areas} where
    pub agrees_none : Agrees d₁ d₂ level [] (course_of areas saved) (course_of areas saved)
    unfolding view wider_view cycles_of remaining followed widely_followed followed_cycles followed_end
    agrees_none = record { seen = refl; widely_seen = refl; at_end = refl }

    agrees_reset : Agrees d₁ d₂ level (was_reset ∷ []) (course_of areas saved) (course_of (reset_areas d₂) saved)
    unfolding view wider_view cycles_of remaining followed widely_followed followed_cycles followed_end
    agrees_reset = record { seen = refl; widely_seen = refl; at_end = refl }

    agrees_written : (r v : ℕ) → register_seen d₁ level r ≡ true → Agrees d₁ d₂ level (was_written r v ∷ []) (course_of areas saved) (course_of (with_register r v areas) saved)
    unfolding view wider_view cycles_of remaining followed widely_followed followed_cycles followed_end
    agrees_written r v e = record { seen = rw e; widely_seen = rw e; at_end = rw e }

    agrees_struck : (r v : ℕ) → register_seen d₁ level r ≡ false → Agrees d₁ d₂ level (was_written r v ∷ []) (course_of areas saved) (course_of areas saved)
    unfolding view wider_view cycles_of remaining followed widely_followed followed_cycles followed_end
    agrees_struck r v e = record { seen = rw e; widely_seen = rw e; at_end = rw e }

    agrees_cycled : (c : Cycle) → shown d₁ level c ≡ shown d₂ level (cycle d₂ areas) → widely_shown d₁ level c ≡ widely_shown d₂ level (cycle d₂ areas) → Agrees d₁ d₂ level (cycled c ∷ []) (course_of areas saved) (course_of (cycle d₂ areas).after saved)
    unfolding view wider_view cycles_of remaining followed widely_followed followed_cycles followed_end
    agrees_cycled c e k = record { seen = rw e; widely_seen = rw k; at_end = refl }

    agrees_journalled : (c : Cycle) → shown d₁ level c ≡ shown d₂ level (cycle d₂ areas) → widely_shown d₁ level c ≡ widely_shown d₂ level (cycle d₂ areas) → Agrees d₁ d₂ level (journalled c ∷ []) (course_of areas saved) (course_of (cycle d₂ areas).after (saved ++ (areas ∷ [])))
    unfolding view wider_view cycles_of remaining followed widely_followed followed_cycles followed_end
    agrees_journalled c e k = record { seen = rw e; widely_seen = rw k; at_end = refl }

    pub agrees_back : Agrees d₁ d₂ level (stepped_back ∷ []) (course_of areas saved) (back_once (course_of areas saved))
    unfolding view wider_view cycles_of remaining followed widely_followed followed_cycles followed_end
    agrees_back = record { seen = refl; widely_seen = refl; at_end = refl }

module _ {d₁ d₂ : Design} {level : ℕ} {Related : Areas → Areas → Type 0} (same : Bisimulation d₁ d₂ level Related) where
  -- one cycle of both
  pub shows_cycle : (a b : Areas) → Related a b → shown d₁ level (cycle d₁ a) ≡ shown d₂ level (cycle d₂ b)
  shows_cycle a b h = rw (same.values (cycle d₁ a).after (cycle d₂ b).after (same.cycles a b h), same.walks a b h)

  pub widely_shows_cycle : (a b : Areas) → Related a b → widely_shown d₁ level (cycle d₁ a) ≡ widely_shown d₂ level (cycle d₂ b)
  widely_shows_cycle a b h = rw (same.values (cycle d₁ a).after (cycle d₂ b).after (same.cycles a b h), same.wider_walks a b h)

  -- n cycles of both
  pub related_cycles : (n : ℕ) (a b : Areas) → Related a b → Related (after_cycles d₁ n a) (after_cycles d₂ n b)
  unfolding after_cycles after_last cycles
  related_cycles zero a b h = h
  related_cycles (suc n) a b h = related_cycles n (cycle d₁ a).after (cycle d₂ b).after (same.cycles a b h)

  agrees_cycles : (n : ℕ) (a b : Areas) (saved : List Areas) → Related a b
      → Agrees d₁ d₂ level (map cycled (cycles d₁ n a)) (course_of b saved) (course_of (after_cycles d₂ n b) saved)
  unfolding after_cycles after_last cycles
  agrees_cycles zero a b saved h = agrees_none
  agrees_cycles (suc n) a b saved h =
      agrees_append (agrees_cycled (cycle d₁ a) (shows_cycle a b h) (widely_shows_cycle a b h)) (agrees_cycles n (cycle d₁ a).after (cycle d₂ b).after saved (same.cycles a b h))

  -- n journalled cycles save the areas before each
  pub agrees_journalled_cycles : (n : ℕ) (a b : Areas) (saved : List Areas) → Related a b
      → Agrees d₁ d₂ level (map journalled (cycles d₁ n a)) (course_of b saved) (course_of (after_cycles d₂ n b) (saved ++ areas_before d₂ n b))
  unfolding after_cycles after_last cycles areas_before
  agrees_journalled_cycles zero a b saved h = rw (append-nil saved) agrees_none
  agrees_journalled_cycles (suc n) a b saved h =
      let after = (cycle d₂ b).after in
      rw
      (← append_assoc saved (b ∷ []) (areas_before d₂ n after))
      (agrees_append (agrees_journalled (cycle d₁ a) (shows_cycle a b h) (widely_shows_cycle a b h)) (agrees_journalled_cycles n (cycle d₁ a).after after (saved ++ (b ∷ [])) (same.cycles a b h)))

-- the canonical run begins with nothing saved
abbrev pub start_course : Design → ℕ → Course
start_course d level = course_of (start_areas d level (λ r. 0)) []

-- ---- a list of calls
-- lent areas that are related to areas of the second run
pub record Follows (image : List ℕ) (Related : Areas → Areas → Type 0) (lent : Lent) (areas : Areas) : Type 0 where
  pub area : length lent.registers ≡ word_length * length (design_of image).registers
  pub related : Related (areas_of (design_of image) lent) areas

-- what happened leads the second run from areas to some that what is left follows, and leaves what it saved
pub record Leads
    (image : List ℕ)
    (d₂ : Design)
    (level : ℕ)
    (Related : Areas → Areas → Type 0)
    (happened : List Event)
    (left : Lent)
    (areas : Areas)
    (saved : List Areas) : Type 0 where
  pub reached : Areas
  pub agrees : Agrees (design_of image) d₂ level happened (course_of areas saved) (course_of reached saved)
  pub following : Follows image Related left reached

module _
    (image : List ℕ)
    (accepted : verdict image ≡ Accepted 0)
    (d₂ : Design)
    (level : ℕ)
    (Related : Areas → Areas → Type 0)
    (same : Bisimulation (design_of image) d₂ level Related) where
  keeps : StructureKeeps (design_of image)
  keeps = ((verdict_exact image).0 accepted).design.structure

  pub follows_lent : (a b : Areas) → Related a b → Follows image Related (lent_of a) b
  follows_lent a b h =
      let good = same.good a b h in
      record { area = length-lent (design_of image) keeps a good; related = rw (areas_of_lent (design_of image) keeps a good) h }

  good_lent : (lent : Lent) (b : Areas) → Follows image Related lent b → Good (design_of image) (areas_of (design_of image) lent)
  good_lent lent b h = same.good (areas_of (design_of image) lent) b h.related

  pub right_lengths : (lent : Lent) (b : Areas) → Follows image Related lent b → RightLengths (design_of image) lent
  unfolding areas_of
  right_lengths lent b h =
      let n = length (design_of image).states in
      let good = good_lent lent b h in
      let first : length (take n lent.targets) ≡ n = good.targets_length in
      let second : length (drop n lent.targets) ≡ binding_length * n = good.bindings_length in
      let both : length lent.targets ≡ length (take n lent.targets) + length (drop n lent.targets) = ap length (sym (take-append-drop n lent.targets)) ∙ length-append (take n lent.targets) (drop n lent.targets) in
      record { registers = h.area; targets = omega arith }

  -- the values that the level sees of what follows
  pub values_follow : (lent : Lent) (b : Areas) → Follows image Related lent b
      → values_seen (design_of image) level (words_of (length (design_of image).registers) lent.registers) ≡ values_seen d₂ level b.registers
  unfolding areas_of
  values_follow lent b h = same.values (areas_of (design_of image) lent) b h.related

  -- the contents are never at fault
  contents : (lent : Lent) (b : Areas) → Follows image Related lent b
      → (r : ℕ)
      → r < length (design_of image).registers
      → content_kept (design_of image) lent.registers r ≡ true
  unfolding areas_of content_kept
  contents lent b h r l = less_iff.1 ((good_lent lent b h).fitting r)

  follows_written : (lent : Lent) (a b : Areas) (r v : ℕ) → v < modulus (design_of image).registers r → Follows image Related lent a
      → Related (with_register r v (areas_of (design_of image) lent)) b
      → Follows image Related (written (design_of image) lent r v) b
  unfolding areas_of
  follows_written lent a b r v fit h k =
      let n = length (design_of image).registers in
      let words = words_of n lent.registers in
      let good = good_lent lent a h in
      record {
        area = rw (length-bytes_of (set words r v), length-set words r v, good.registers_length);
        related = rw (words_of_written words n r v good.registers_length (fitting_bounded (design_of image) keeps (set words r v) (set_fitting (design_of image).registers words r v fit good.fitting))) k;
      }

  -- one call
  module _ (lent : Lent) (b : Areas) (saved : List Areas) (h : Follows image Related lent b) where
    abbrev Claim : Call → Left Lent → Type 0
    Claim call left = Leads image d₂ level Related (events_of left.answer image lent call) left.lent b saved

    -- a call that leaves what is said
    claim_left : (call : Call) {left : Left Lent} → perform image lent call ≡ left → Claim call left → Claim call (perform image lent call)
    claim_left call e k = rw e k

    lengths : RightLengths (design_of image) lent
    lengths = right_lengths lent b h

    abbrev areas : Areas
    areas = areas_of (design_of image) lent

    claim_reset : Claim resets (perform image lent resets)
    unfolding perform events_of
    claim_reset =
        claim_left
        resets
        (reset_leaves image accepted lent lengths)
        (record { reached = reset_areas d₂; agrees = agrees_reset; following = follows_lent (reset_areas (design_of image)) (reset_areas d₂) same.resets })

    -- a refused call leaves everything as it is
    claim_refused : (call : Call) {refusal : Refusal} {place : ℕ} → perform image lent call ≡ record { answer = Refused refusal place; lent = lent }
        → Claim call (perform image lent call)
    unfolding events_of
    claim_refused call e = claim_left call e (record { reached = b; agrees = agrees_none; following = h })

    claim_written : (r v : ℕ) → is_writable (design_of image) r ≡ true → fits (design_of image).registers r v ≡ true
        → Claim (writes r v) (perform image lent (writes r v))
    unfolding events_of
    claim_written r v e l =
        claim_left (writes r v) (write_accepted image accepted lent lengths (contents lent b h) r v e l) (go (register_seen (design_of image) level r) refl)
      where
        fit : v < modulus (design_of image).registers r
        fit = less_iff.0 l

        go : (w : Bool) → register_seen (design_of image) level r ≡ w
            → Leads image d₂ level Related (was_written r v ∷ []) (written (design_of image) lent r v) b saved
        go true s =
            let c = with_register r v b in
            let related = same.writes_seen areas b h.related r v fit in
            record { reached = c; agrees = agrees_written r v s; following = follows_written lent b c r v fit h related }
        go false s =
            let related = same.writes_unseen areas b h.related r v fit s in
            record { reached = b; agrees = agrees_struck r v s; following = follows_written lent b b r v fit h related }

    claim_write : (r v : ℕ) → Claim (writes r v) (perform image lent (writes r v))
    claim_write r v = go (is_writable (design_of image) r) (fits (design_of image).registers r v) refl refl
      where
        go : (w f : Bool) → is_writable (design_of image) r ≡ w → fits (design_of image).registers r v ≡ f → Claim (writes r v) (perform image lent (writes r v))
        go true true e l = claim_written r v e l
        go true false e l = claim_refused (writes r v) (write_too_large image accepted lent lengths (contents lent b h) r v e l)
        go false f e l = claim_refused (writes r v) (write_refused image accepted lent lengths (contents lent b h) r v e)

    claim_run : (n : ℕ) → Claim (runs n) (perform image lent (runs n))
    unfolding events_of areas_of
    claim_run n = go (leb n cycles_max) refl
      where
        after : Areas
        after = after_cycles (design_of image) n areas

        go : (w : Bool) → leb n cycles_max ≡ w → Claim (runs n) (perform image lent (runs n))
        go true e =
            let reached = after_cycles d₂ n b in
            claim_left
            (runs n)
            (run_accepted image accepted lent lengths (contents lent b h) (good_lent lent b h).sound (good_lent lent b h).bound n e)
            (record {
              reached = reached;
              agrees = agrees_cycles same n areas b saved h.related;
              following = follows_lent after reached (related_cycles same n areas b h.related);
            })
        go false e = claim_refused (runs n) (run_refused image accepted lent lengths (contents lent b h) (good_lent lent b h).sound (good_lent lent b h).bound n e)

    pub call_leads : (call : Call) → Claim call (perform image lent call)
    call_leads resets = claim_reset
    call_leads (writes r v) = claim_write r v
    call_leads (runs n) = claim_run n

  -- a list of them
  pub list_leads : (calls : List Call) (lent : Lent) (b : Areas) (saved : List Areas) → Follows image Related lent b
      → Leads image d₂ level Related (events image lent calls) (at_end image lent calls) b saved
  unfolding events at_end
  list_leads [] lent b saved h = record { reached = b; agrees = agrees_none; following = h }
  list_leads (call ∷ more) lent b saved h =
      let first = call_leads lent b saved h call in
      let rest = list_leads more (perform image lent call).lent first.reached saved first.following in
      record { reached = rest.reached; agrees = agrees_append first.agrees rest.agrees; following = rest.following }

  -- ---- the start
  reset_good : Good (design_of image) (reset_areas (design_of image))
  reset_good = same.good (reset_areas (design_of image)) (reset_areas d₂) same.resets

  start_lent : (lent : Lent) → RightLengths (design_of image) lent → (given : ℕ → ℕ)
      → with_unseen image level given (reset image lent).lent ≡ lent_of (start_areas (design_of image) level given)
  unfolding with_unseen areas_of lent_of
  start_lent lent lengths given =
      let back = areas_of_lent (design_of image) keeps (reset_areas (design_of image)) reset_good in
      rw (reset_leaves image accepted lent lengths, ap (λ (a : Areas). a.registers) back)

  -- the start is related to a start of the second run, whatever values are given within their widths
  pub start_follows : (begins : Beginning (design_of image)) → Follows image Related (start image level begins) (start_areas d₂ level (λ r. 0))
  unfolding start
  start_follows begins =
      let given = begins.given in
      rw
      (start_lent begins.lent begins.lengths given)
      (follows_lent
      (start_areas (design_of image) level given)
      (start_areas d₂ level (λ r. 0))
      (same.starts given (λ r. 0) begins.within (λ r l. pow_pos (register_at d₂ r).width)))

  -- a use shows what the canonical run of what remains shows, and in the wider view too
  pub use_follows : (u : Use (design_of image))
      → (views image level u ≡ followed d₂ level (start_course d₂ level) (remains image level u))
      × (seen_at_end image level u ≡ values_seen d₂ level (followed_end d₂ level (start_course d₂ level) (remains image level u)).areas.registers)
      × (wider_views image level u ≡ widely_followed d₂ level (start_course d₂ level) (remains image level u))
  unfolding views wider_views remains seen_at_end history
  use_follows u =
      let begun = start image level u.begins in
      let led = list_leads u.calls begun (start_areas d₂ level (λ r. 0)) [] (start_follows u.begins) in
      (led.agrees.seen, rw led.agrees.at_end (values_follow (at_end image begun u.calls) led.reached led.following), led.agrees.widely_seen)

-- Two uses of an image of which the same remains show the same: both show what one canonical run shows.
pub lists_independent : (image : List ℕ) → verdict image ≡ Accepted 0 → (level : ℕ) (Related : Areas → Areas → Type 0)
    → Bisimulation (design_of image) (design_of image) level Related
    → (one other : Use (design_of image))
    → remains image level one ≡ remains image level other
    → (views image level one ≡ views image level other) × (seen_at_end image level one ≡ seen_at_end image level other) × (wider_views image level one ≡ wider_views image level other)
lists_independent image accepted level Related same one other e =
    let first = use_follows image accepted (design_of image) level Related same one in
    let second = use_follows image accepted (design_of image) level Related same other in
    let seen = rw e at first.0 in
    let at_end = rw e at first.1 in
    let widely_seen = rw e at first.2 in
    (seen ∙ sym second.0, at_end ∙ sym second.1, widely_seen ∙ sym second.2)
