-- What is judged before the trace, and the tables that stand beside the image.
use Rattle.std.specs.Prelude.{ℕ, ◌-◌, ◌^◌, ◌<◌, ◌≡◌, cond, List, ltb, length, get_or, replicate, Err}
use Rattle.model.specs.declared.Refusal.{Refusal}
use Rattle.model.specs.Answers.{Answer, Accepted, Refused}
use Rattle.model.specs.Limits.{registers_max}
use Rattle.model.specs.Indices.{filled_to}
use Rattle.model.specs.Image.{Design as Table, Labels, Registers, States, Commands, Expressions, design_of, register_at, offset, count}
use Rattle.model.specs.Verdict.{◌before◌}
use Rattle.model.specs.Calls.{Lent, is_writable, length_answer, cycles_answer, run_answer}
use Rattle.design.specs.declared.Design.{Design}
use Rattle.design.specs.Resets.{with_defaults}
use Rattle.design.specs.Scopes.{with_scopes}
use Rattle.running.specs.Stages.{sound_on}
use Rattle.machine.specs.Cycles.{Running}
use Rattle.replay_steps.specs.declared.preparing.Prepared.{Prepared}

-- the largest value of a port, 0 where no port is; the width of a register is at least 1
unfoldable pub largest_of : Table → ℕ → ℕ
largest_of d r = cond (is_writable d r) (2 ^ (register_at d r).width - 1) 0

-- a table of them for the registers, and of 0 behind
pub record Largest (d : Table) (table : List ℕ) : Type 0 where
  pub long : length table ≡ registers_max
  pub entry : (r : ℕ) → r < registers_max → get_or table r 0 ≡ cond (ltb r (length d.registers)) (largest_of d r) 0

-- the counts and places of the sections, as the directory has them
unfoldable pub described_by : List ℕ → Design
described_by image =
    record {
      labels = count image Labels;
      registers = count image Registers;
      states = count image States;
      commands = count image Commands;
      expressions = count image Expressions;
      registers_at = offset image Registers;
      states_at = offset image States;
      commands_at = offset image Commands;
      expressions_at = offset image Expressions;
    }

-- a replay that is refused before its trace is read
unfoldable pub refused_with : Refusal → ℕ → ℕ → Prepared
refused_with refusal place n =
    record {
      answer = Refused refusal place;
      count = n;
      design =
          record {
            labels = 0;
            registers = 0;
            states = 0;
            commands = 0;
            expressions = 0;
            registers_at = 0;
            states_at = 0;
            commands_at = 0;
            expressions_at = 0;
          };
      tables = record { defaults = replicate 64 0; scopes = replicate 192 0 };
      largest = replicate 64 0;
    }

-- one that is not: each table is written over zeros
unfoldable pub accepted_with : List ℕ → ℕ → ℕ → Prepared
accepted_with image k n =
    record {
      answer = Accepted k;
      count = n;
      design = described_by image;
      tables =
          record {
            defaults = with_defaults (design_of image) (replicate 64 0);
            scopes = with_scopes (design_of image) (length (design_of image).states) (replicate 192 0);
          };
      largest = filled_to (largest_of (design_of image)) (length (design_of image).registers) (replicate 64 0);
    }

-- what is prepared, by the answer
abbrev pub prepared_as : List ℕ → ℕ → Answer → Prepared
prepared_as image n (Accepted k) = accepted_with image k n
prepared_as image n (Err why) = refused_with why.refusal why.place n

-- what a run would answer, with all that cycles ask for and the ports where that is an acceptance; and that they are so
pub record Preparing (image : List ℕ) (lent : Lent) (n : ℕ) (p : Prepared) : Type 0 where
  pub is : p ≡ prepared_as image n (run_answer image lent n)
  pub answer : p.answer ≡ run_answer image lent n
  pub count : p.count ≡ n
  pub running : (k : ℕ) → p.answer ≡ Accepted k → Running image p.design p.tables.defaults p.tables.scopes lent.registers lent.targets
  pub ports : (k : ℕ) → p.answer ≡ Accepted k → Largest (design_of image) p.largest

-- what a run answers on an image that is accepted
abbrev pub on_accepted : Table → Lent → ℕ → Answer
on_accepted d lent n = length_answer d lent before sound_on d lent before cycles_answer n before Accepted n

-- the same on an image that is accepted
pub record PreparingOn (image : List ℕ) (lent : Lent) (n : ℕ) (p : Prepared) : Type 0 where
  pub is : p ≡ prepared_as image n (on_accepted (design_of image) lent n)
  pub answer : p.answer ≡ on_accepted (design_of image) lent n
  pub count : p.count ≡ n
  pub running : (k : ℕ) → p.answer ≡ Accepted k → Running image p.design p.tables.defaults p.tables.scopes lent.registers lent.targets
  pub ports : (k : ℕ) → p.answer ≡ Accepted k → Largest (design_of image) p.largest
