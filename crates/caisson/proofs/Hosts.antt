-- Demand 3 of lists of exported calls: a host's use is a use of the definitions, since each call left what its definition leaves; so the theorem across two designs
-- (`Rattle.lists_model.proofs.Independence`) is one of hosts.
use Prim.Native.Nat.{ℕ, ◌<◌}
use mathlib.Core.Path.{◌≡◌, refl, sym, ◌∙◌, ap}
use mathlib.Core.List.{List, [], ◌∷◌, map}
use lib.ListN.{length}
use Rattle.model.specs.Image.{design_of}
use Rattle.model.specs.Values.{words_of}
use Rattle.model.specs.Parties.{Event, Seen, values_seen, view, wider_view, remaining, with_unseen, start}
use Rattle.model.specs.Parties as parties
use Rattle.model.specs.Neighbours.{common}
use Rattle.journal_model.specs.Calls.{LentJournal}
use Rattle.replay_model.specs.declared.TraceRecord.{TraceRecord}
use Rattle.replay_model.specs.ByHand.{trace_seen}
use Rattle.lists_model.specs.Lists.{resets, replays, with_journal, perform, events, at_end, listed, Use, begun, history, remains, views, wider_views, seen_at_end}
use Rattle.lists_model.specs.Demands.{Replayed}
use Rattle.lists_model.proofs.Independence.{independent_across, widely_across}
use Rattle.lists_model.proofs.Demands.{replays_across}
use Rattle.lists_model.proofs.Listed.{listed_events}
use Rattle.caisson.specs.declared.HostAnswer.{HostAnswer}
use Rattle.caisson.specs.Told.{told}
use Rattle.caisson.proofs.Contracts.{Checked, Called, Hosted}
use Rattle.caisson.proofs.Calls.{told_verdict, called_leaves, called_accepted, all_called_ends}

-- an image that the library accepts
pub record Accepts (image : List ℕ) : Type 0 where
  pub answer : HostAnswer
  pub checked : Checked image answer
  pub accepted : told answer ≡ record { number = 0; place = 0; count = 0 }

module _ (image : List ℕ) (level : ℕ) where
  -- the values seen in a register area
  abbrev pub seen_in : LentJournal → List ℕ
  seen_in lent = values_seen (design_of image) level (words_of (length (design_of image).registers) lent.areas.registers)

  module _ (host : Hosted image level) where
    -- what the calls of the list find first, and what they do
    abbrev pub started : LentJournal
    started = with_journal host.journal (with_unseen image level host.begins.given host.left.areas)

    abbrev pub happened : List Event
    happened = events image started host.calls

    abbrev used : Use (design_of image)
    used = record { begins = host.begins; journal = host.journal; empty = host.empty; calls = host.calls }

    started_so : started ≡ begun image level used
    unfolding begun start perform parties.perform
    started_so =
        ap
        (λ (left : LentJournal). with_journal host.journal (with_unseen image level host.begins.given left.areas))
        (called_leaves image (with_journal host.journal host.begins.lent) host.left resets host.answer host.reset)

    happened_so : happened ≡ history image level used
    unfolding history
    happened_so = ap (λ (lent : LentJournal). events image lent host.calls) started_so

    remains_so : remaining (design_of image) level happened ≡ remains image level used
    unfolding remains
    remains_so = ap (remaining (design_of image) level) happened_so

    views_so : view (design_of image) level happened ≡ views image level used
    unfolding views
    views_so = ap (view (design_of image) level) happened_so

    wider_so : wider_view (design_of image) level happened ≡ wider_views image level used
    unfolding wider_views
    wider_so = ap (wider_view (design_of image) level) happened_so

    end_so : seen_in host.end ≡ seen_at_end image level used
    unfolding seen_at_end
    end_so =
        ap seen_in (all_called_ends image host.calls started host.end host.called ∙ ap (λ (lent : LentJournal). at_end image lent host.calls) started_so)

-- what two hosts see is the same
abbrev pub SeeTheSame : (image edited : List ℕ) (level : ℕ) → Hosted image level → Hosted edited level → Type 0
SeeTheSame image edited level one other =
    (view (design_of image) level (happened image level one) ≡ view (design_of edited) level (happened edited level other))
    × (seen_in image level one.end ≡ seen_in edited level other.end)

module _
    (image edited : List ℕ) (accepts : Accepts image) (accepts' : Accepts edited) (level : ℕ) (label : level < length (design_of image).rows)
    (shared : common (design_of image) level ≡ common (design_of edited) level) (one : Hosted image level) (other : Hosted edited level)
    (same : remaining (design_of image) level (happened image level one) ≡ remaining (design_of edited) level (happened edited level other))
  where
    matching : remains image level (used image level one) ≡ remains edited level (used edited level other)
    matching = sym (remains_so image level one) ∙ same ∙ remains_so edited level other

    pub hosts_across : SeeTheSame image edited level one other
    hosts_across =
        let both = independent_across image edited (told_verdict image accepts.answer accepts.checked accepts.accepted) (told_verdict edited accepts'.answer accepts'.checked accepts'.accepted) level label shared (used image level one) (used edited level other) matching in
        (views_so image level one ∙ both.0 ∙ sym (views_so edited level other), end_so image level one ∙ both.1 ∙ sym (end_so edited level other))

    pub hosts_widely : wider_view (design_of image) level (happened image level one) ≡ wider_view (design_of edited) level (happened edited level other)
    hosts_widely =
        wider_so image level one
        ∙ widely_across image edited (told_verdict image accepts.answer accepts.checked accepts.accepted) (told_verdict edited accepts'.answer accepts'.checked accepts'.accepted) level label shared (used image level one) (used edited level other) matching
        ∙ sym (wider_so edited level other)

-- ---- 01's own words: lists of its three calls
module _ (image : List ℕ) (level : ℕ) (host : Hosted image level) (calls : List parties.Call) where
  -- what a list of 01's calls does, as 01 says it
  abbrev pub did_plainly : List Event
  did_plainly = parties.events image (started image level host).areas calls

  plainly_so : host.calls ≡ map listed calls → happened image level host ≡ did_plainly
  plainly_so e = ap (events image (started image level host)) e ∙ listed_events image calls (started image level host)

pub hosts_plainly :
    (image : List ℕ) → Accepts image → (level : ℕ) → level < length (design_of image).rows
    → (one other : Hosted image level) (calls calls' : List parties.Call)
    → one.calls ≡ map listed calls
    → other.calls ≡ map listed calls'
    → remaining (design_of image) level (did_plainly image level one calls) ≡ remaining (design_of image) level (did_plainly image level other calls')
    → (view (design_of image) level (did_plainly image level one calls) ≡ view (design_of image) level (did_plainly image level other calls'))
    × (seen_in image level one.end ≡ seen_in image level other.end)
hosts_plainly image accepts level label one other calls calls' e e' same =
    let first = plainly_so image level one calls e in
    let second = plainly_so image level other calls' e' in
    let d = design_of image in
    let both = hosts_across image image accepts accepts level label refl one other (ap (remaining d level) first ∙ same ∙ sym (ap (remaining d level) second)) in
    (sym (ap (view d level) first) ∙ both.0 ∙ ap (view d level) second, both.1)

-- ---- a host that replays and does nothing else, where this is not refused
pub record HostReplayed (image : List ℕ) (level : ℕ) (host : Hosted image level) (trace : List TraceRecord) (n : ℕ) : Type 0 where
  pub answer : HostAnswer
  pub alone : host.calls ≡ replays trace n ∷ []
  pub replayed : Called image (started image level host) (replays trace n) answer host.end
  pub accepted : answer.number ≡ 0

replayed_so : (image : List ℕ) (level : ℕ) (host : Hosted image level) (trace : List TraceRecord) (n : ℕ) → HostReplayed image level host trace n
    → Replayed image level (used image level host) trace n
replayed_so image level host trace n made =
    record {
      alone = made.alone;
      accepted = rw (sym (started_so image level host)) (called_accepted image (started image level host) host.end (replays trace n) made.answer made.replayed made.accepted);
    }

pub hosts_replay :
    (image edited : List ℕ) → Accepts image → Accepts edited → (level : ℕ) → level < length (design_of image).rows
    → common (design_of image) level ≡ common (design_of edited) level
    → (one : Hosted image level) (other : Hosted edited level) (trace trace' : List TraceRecord) (n : ℕ)
    → HostReplayed image level one trace n
    → HostReplayed edited level other trace' n
    → trace_seen (design_of image) level trace ≡ trace_seen (design_of edited) level trace'
    → SeeTheSame image edited level one other
hosts_replay image edited accepts accepts' level label shared one other trace trace' n made made' same =
    let both = replays_across image edited (told_verdict image accepts.answer accepts.checked accepts.accepted) (told_verdict edited accepts'.answer accepts'.checked accepts'.accepted) level label shared (used image level one) (used edited level other) trace trace' n (replayed_so image level one trace n made) (replayed_so edited level other trace' n made') same in
    (views_so image level one ∙ both.0 ∙ sym (views_so edited level other), end_so image level one ∙ both.1 ∙ sym (end_so edited level other))
