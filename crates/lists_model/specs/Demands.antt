-- Demand 3 for lists of all calls, across two designs (02, E14); and what 02's E9 and E10 say of it in their own words. 01's own, of its three calls, is `Independent` of
-- `Rattle.model.specs.Parties`.
use Rattle.std.specs.Prelude.{ℕ, ◌<◌, ◌≡◌, List, [], ◌∷◌, length}
use Rattle.model.specs.Image.{design_of}
use Rattle.model.specs.Answers.{Accepted, numbers_of}
use Rattle.model.specs.Verdict.{verdict}
use Rattle.model.specs.Neighbours.{common}
use Rattle.replay_model.specs.declared.TraceRecord.{TraceRecord}
use Rattle.replay_model.specs.ByHand.{trace_seen}
use Rattle.lists_model.specs.Lists.{replays, perform, Use, begun, remains, views, wider_views, seen_at_end}

-- "Then that level sees equal runs across the two designs, under the port and reset premises that already hold within one." The second image is the first with some bodies edited;
-- each list is made on its own image.
abbrev pub IndependentNeighbours : Type 0
IndependentNeighbours =
    (image edited : List ℕ)
    → verdict image ≡ Accepted 0
    → verdict edited ≡ Accepted 0
    → (level : ℕ)
    → level < length (design_of image).rows
    → common (design_of image) level ≡ common (design_of edited) level
    → (one : Use (design_of image)) (other : Use (design_of edited))
    → remains image level one ≡ remains edited level other
    → (views image level one ≡ views edited level other) × (seen_at_end image level one ≡ seen_at_end edited level other)

-- The wider view, with the registers bound to all parameters in scope of a state that is seen (02, E8), is the same too.
abbrev pub IndependentWidely : Type 0
IndependentWidely =
    (image edited : List ℕ)
    → verdict image ≡ Accepted 0
    → verdict edited ≡ Accepted 0
    → (level : ℕ)
    → level < length (design_of image).rows
    → common (design_of image) level ≡ common (design_of edited) level
    → (one : Use (design_of image)) (other : Use (design_of edited))
    → remains image level one ≡ remains edited level other
    → wider_views image level one ≡ wider_views edited level other

-- 02, E9: "Two matching lists that begin with empty journals which nobody else writes, journal the same cycles and go back by equal numbers at equal moments still give a party equal
-- views, and equal registers at or below its level at the end."
abbrev pub IndependentJournals : Type 0
IndependentJournals =
    (image : List ℕ)
    → verdict image ≡ Accepted 0
    → (level : ℕ)
    → level < length (design_of image).rows
    → (one other : Use (design_of image))
    → remains image level one ≡ remains image level other
    → (views image level one ≡ views image level other) × (seen_at_end image level one ≡ seen_at_end image level other)

-- a use that replays and does nothing else, where this is not refused
pub record Replayed (image : List ℕ) (level : ℕ) (u : Use (design_of image)) (trace : List TraceRecord) (n : ℕ) : Type 0 where
  pub alone : u.calls ≡ replays trace n ∷ []
  pub accepted : (numbers_of (perform image (begun image level u) (replays trace n)).answer).number ≡ 0

-- 02, E10: "Replayed from reset for the same n, traces equal in the records at or below a level give that level equal views where neither is refused; the count is not part of the view."
abbrev pub IndependentReplays : Type 0
IndependentReplays =
    (image : List ℕ)
    → verdict image ≡ Accepted 0
    → (level : ℕ)
    → level < length (design_of image).rows
    → (one other : Use (design_of image)) (trace trace' : List TraceRecord) (n : ℕ)
    → Replayed image level one trace n
    → Replayed image level other trace' n
    → trace_seen (design_of image) level trace ≡ trace_seen (design_of image) level trace'
    → (views image level one ≡ views image level other) × (seen_at_end image level one ≡ seen_at_end image level other)

-- and across two designs
abbrev pub IndependentReplayNeighbours : Type 0
IndependentReplayNeighbours =
    (image edited : List ℕ)
    → verdict image ≡ Accepted 0
    → verdict edited ≡ Accepted 0
    → (level : ℕ)
    → level < length (design_of image).rows
    → common (design_of image) level ≡ common (design_of edited) level
    → (one : Use (design_of image)) (other : Use (design_of edited)) (trace trace' : List TraceRecord) (n : ℕ)
    → Replayed image level one trace n
    → Replayed edited level other trace' n
    → trace_seen (design_of image) level trace ≡ trace_seen (design_of edited) level trace'
    → (views image level one ≡ views edited level other) × (seen_at_end image level one ≡ seen_at_end edited level other)
