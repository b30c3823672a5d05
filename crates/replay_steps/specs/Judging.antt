-- The trace as it is judged, record by record, and what a replay answers once all are.
use Rattle.std.specs.Prelude.{ℕ, zero, suc, ◌+◌, ◌&&◌, cond, List, leb, ltb, eqb, get_or, set, replicate, Option, Some, None, Err}
use Rattle.model.specs.declared.Refusal.TheVariants.{NoPort, PortValue, TraceCycle}
use Rattle.model.specs.Answers.{Answer, Accepted, Refused}
use Rattle.model.specs.Limits.{registers_max}
use Rattle.model.specs.Verdict.{◌before◌, refused_at}
use Rattle.replay_model.specs.declared.TraceRecord.{TraceRecord}
use Rattle.replay_model.specs.Traces.{record_at}
use Rattle.replay_steps.specs.declared.preparing.Prepared.{Prepared}
use Rattle.replay_steps.specs.declared.judging.Judging.{Judging}

-- before the first record
unfoldable pub judging_of : Prepared → Judging
judging_of p =
    record {
      count = p.count;
      largest = p.largest;
      previous = 0;
      unordered = None;
      answer = Accepted 0;
      last = replicate registers_max 0;
      superseded = 0;
    }

-- 13, then 17, of record i
unfoldable pub port_at : List ℕ → ℕ → ℕ → ℕ → Answer
port_at largest i r v =
    cond
    (ltb r registers_max && ltb 0 (get_or largest r 0))
    (cond (leb v (get_or largest r 0)) (Accepted 0) (Refused PortValue i))
    (Refused NoPort i)

-- a record that is kept: it supersedes one where the last for its port is of its cycle
unfoldable pub superseding : Judging → ℕ → ℕ → Judging
superseding s c r =
    record {
      count = s.count;
      largest = s.largest;
      previous = c;
      unordered = s.unordered;
      answer = s.answer;
      last = set s.last r (c + 1);
      superseded = cond (eqb (get_or s.last r 0) (c + 1)) (s.superseded + 1) s.superseded;
    }

-- the cycle and the answer moved on
unfoldable pub answering : Judging → ℕ → Answer → Judging
answering s c a =
    record {
      count = s.count;
      largest = s.largest;
      previous = c;
      unordered = s.unordered;
      answer = a;
      last = s.last;
      superseded = s.superseded;
    }

abbrev pub judged_as : Judging → ℕ → ℕ → Answer → Judging
judged_as s c r (Accepted k) = superseding s c r
judged_as s c r (Err why) = answering s c (Err why)

-- a record in its order
unfoldable pub judged_port : Judging → ℕ → ℕ → ℕ → ℕ → Judging
judged_port s i c r v = judged_as s c r (s.answer before port_at s.largest i r v)

-- the lowest record that 23 refuses
unfoldable pub unordered_at : Judging → ℕ → Judging
unordered_at s i =
    record {
      count = s.count;
      largest = s.largest;
      previous = s.previous;
      unordered = Some i;
      answer = s.answer;
      last = s.last;
      superseded = s.superseded;
    }

abbrev pub judged_in : Judging → ℕ → ℕ → ℕ → ℕ → Option ℕ → Judging
judged_in s i c r v (Some k) = s
judged_in s i c r v None = cond (leb s.previous c && ltb c s.count) (judged_port s i c r v) (unordered_at s i)

-- record i: once 23 refuses one, none behind it counts
unfoldable pub judged_next : Judging → ℕ → ℕ → ℕ → ℕ → Judging
judged_next s i c r v = judged_in s i c r v s.unordered

-- the first i records
unfoldable pub judged_to : List TraceRecord → Judging → ℕ → Judging
judged_to trace s zero = s
judged_to trace s (suc i) = judged_next (judged_to trace s i) i (record_at trace i).cycle (record_at trace i).register (record_at trace i).value

-- ---- the answer
unfoldable pub judged_answer : Judging → Answer
judged_answer s = refused_at TraceCycle s.unordered before s.answer before Accepted s.superseded

unfoldable pub answer_of : Prepared → Judging → Answer
answer_of p s = p.answer before judged_answer s

abbrev pub kept_by : Answer → ℕ → ℕ
kept_by (Accepted k) records = records
kept_by (Err why) records = 0

-- how many of so many records are applied
unfoldable pub records_kept : Prepared → Judging → ℕ → ℕ
records_kept p s records = kept_by (answer_of p s) records
