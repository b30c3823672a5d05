-- Saved states that follow the areas saved by the canonical run, one for one: what a journalled run saves does, and so does what is left of it after a step back.
use Prim.Native.Nat.{ℕ, zero, suc, ◌<◌}
use mathlib.Core.Path.{◌≡◌, refl, ap}
use mathlib.Core.List.{List, [], ◌∷◌, ◌++◌}
use native.Mathlib.Omega.{arith}
use lib.ListN.{length, get_or, take}
use Rattle.model.specs.Answers.{Accepted}
use Rattle.model.specs.Image.{Design, design_of}
use Rattle.model.specs.Verdict.{verdict}
use Rattle.model.specs.Machine.{Areas, cycle, cycles}
use Rattle.model.specs.Calls.{Lent, lent_of}
use Rattle.model.proofs.Independence.Relation.{Bisimulation}
use Rattle.model.proofs.Independence.Lists.{areas_before, Follows, follows_lent, right_lengths}
use Rattle.journal_model.specs.Journals.{nothing_saved, saved_before}
use Rattle.journal_model.proofs.Laws.{AllSized, none_sized, one_sized}

pub data AllFollow (image : List ℕ) (Related : Areas → Areas → Type 0) : List Lent → List Areas → Type 0 where
  none_follow : AllFollow image Related [] []
  one_follows : {lent : Lent} {newer : List Lent} {areas : Areas} {more : List Areas}
      → Follows image Related lent areas
      → AllFollow image Related newer more
      → AllFollow image Related (lent ∷ newer) (areas ∷ more)

module _ {image : List ℕ} {Related : Areas → Areas → Type 0} where
  pub follow_length : {saved : List Lent} {course : List Areas} → AllFollow image Related saved course → length saved ≡ length course
  follow_length none_follow = refl
  follow_length (one_follows h p) = ap suc (follow_length p)

  pub follow_append : {saved newer : List Lent} {course more : List Areas}
      → AllFollow image Related saved course
      → AllFollow image Related newer more
      → AllFollow image Related (saved ++ newer) (course ++ more)
  follow_append none_follow q = q
  follow_append (one_follows h p) q = one_follows h (follow_append p q)

  pub follow_take : {saved : List Lent} {course : List Areas} (n : ℕ) → AllFollow image Related saved course → AllFollow image Related (take n saved) (take n course)
  follow_take zero p = none_follow
  follow_take (suc n) none_follow = none_follow
  follow_take (suc n) (one_follows h p) = one_follows h (follow_take n p)

  pub follow_at : {saved : List Lent} {course : List Areas} → AllFollow image Related saved course
      → (other : Areas) (i : ℕ)
      → i < length saved
      → Follows image Related (get_or saved i nothing_saved) (get_or course i other)
  follow_at none_follow other i l = absurd (omega arith)
  follow_at (one_follows h p) other zero l = h
  follow_at (one_follows h p) other (suc i) l = follow_at p other i (omega arith)

module _
    (image : List ℕ)
    (accepted : verdict image ≡ Accepted 0)
    (d₂ : Design)
    (level : ℕ)
    (Related : Areas → Areas → Type 0)
    (same : Bisimulation (design_of image) d₂ level Related) where
  -- so they have the right lengths
  pub follow_sized : {saved : List Lent} {course : List Areas} → AllFollow image Related saved course → AllSized (design_of image) saved
  follow_sized none_follow = none_sized
  follow_sized (one_follows h p) = one_sized (right_lengths image accepted d₂ level Related same _ _ h) (follow_sized p)

  pub before_follow : (n : ℕ) (lent : Lent) (a b : Areas) → Follows image Related lent b → Related a b
      → AllFollow image Related (saved_before lent (cycles (design_of image) n a)) (areas_before d₂ n b)
  unfolding saved_before cycles areas_before
  before_follow zero lent a b h k = none_follow
  before_follow (suc n) lent a b h k =
      let left = (cycle (design_of image) a).after in
      let after = (cycle d₂ b).after in
      let next = same.cycles a b k in
      one_follows h (before_follow n (lent_of left) left after (follows_lent image accepted d₂ level Related same left after next) next)
