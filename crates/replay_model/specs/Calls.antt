-- 02, E10: the call. One function from everything lent and given to the answer and every byte of the two areas afterwards, refusals included; a trace is only read.
use Rattle.std.specs.Prelude.{ℕ, ◌-◌, Bool, ◌&&◌, cond, List, leb, ltb, length, Option, Some, None}
use Rattle.model.specs.declared.Refusal.TheVariants.{NoPort, PortValue, TraceCycle}
use Rattle.model.specs.Answers.{Answer, Accepted, Refused}
use Rattle.model.specs.Indices.{lowest_failing}
use Rattle.model.specs.Image.{Design, design_of}
use Rattle.model.specs.Verdict.{◌before◌, refused_at}
use Rattle.model.specs.Values.{fits}
use Rattle.model.specs.Machine.{after_last}
use Rattle.model.specs.Calls.{Lent, Left, leaves, areas_of, lent_of, is_writable, run_answer}
use Rattle.replay_model.specs.declared.TraceRecord.{TraceRecord}
use Rattle.replay_model.specs.Traces.{record_at, replayed, superseded_in}

-- 23: "cycles that fall or reach n", at the lowest such record
unfoldable pub cycle_kept : List TraceRecord → ℕ → ℕ → Bool
cycle_kept trace n i = leb (record_at trace (i - 1)).cycle (record_at trace i).cycle && ltb (record_at trace i).cycle n

unfoldable pub trace_answer : List TraceRecord → ℕ → Answer
trace_answer trace n = refused_at TraceCycle (lowest_failing (cycle_kept trace n) (length trace))

-- "a bad register or value is then 13 or 17, in one pass where the lowest bad record counts; the place in all three is the record's number from 0"
module _ (d : Design) (trace : List TraceRecord) where
  unfoldable pub register_kept : ℕ → Bool
  register_kept i = is_writable d (record_at trace i).register

  unfoldable pub value_kept : ℕ → Bool
  value_kept i = fits d.registers (record_at trace i).register (record_at trace i).value

  -- which of the two a record breaks: 17 is judged where there is a port
  unfoldable pub record_answer : Option ℕ → Answer
  record_answer None = Accepted 0
  record_answer (Some i) = cond (register_kept i) (Refused PortValue i) (Refused NoPort i)

  unfoldable pub records_answer : Answer
  records_answer = record_answer (lowest_failing (λ i. register_kept i && value_kept i) (length trace))

module _ (image : List ℕ) (lent : Lent) (trace : List TraceRecord) where
  -- "It refuses with 23, after 15"; "the answer counts those superseded"
  unfoldable pub replay_answer : ℕ → Answer
  replay_answer n = run_answer image lent n before trace_answer trace n before records_answer (design_of image) trace before Accepted (superseded_in trace)

  unfoldable pub replay : ℕ → Left Lent
  replay n =
      let d = design_of image in
      let areas = areas_of d lent in
      leaves (replay_answer n) lent (lent_of (after_last areas (replayed d trace 0 n areas)))
