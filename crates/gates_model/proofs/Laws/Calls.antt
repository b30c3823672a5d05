-- Laws of a call of a list: it leaves what it makes where its answer accepts, and the area where it refuses.
use Prim.Native.Nat.{ℕ}
use mathlib.Core.Path.{◌≡◌, refl, ◌∙◌, ap}
use mathlib.Core.List.{List}
use Rattle.model.specs.declared.Refusal.{Refusal}
use Rattle.model.specs.Answers.{Answer, Accepted, Refused}
use Rattle.gates_model.specs.Tables.{table_of}
use Rattle.gates_model.specs.Cycle.{cycled, started}
use Rattle.gates_model.specs.Calls.{gates_reset, gates_reset_answer, gates_cycle, gates_cycle_answer}
use Rattle.gates_model.specs.Runs.{Call, resets, cycles, perform}
use Rattle.model.specs.Calls.{Left, leaves}
use Rattle.model.proofs.Laws.Left.{left_answer}

abbrev pub answer_of : List ℕ → List ℕ → Call → Answer
answer_of table area resets = gates_reset_answer table area
answer_of table area (cycles inputs) = gates_cycle_answer table inputs area

abbrev pub made_by : List ℕ → List ℕ → Call → List ℕ
made_by table area resets = started (table_of table)
made_by table area (cycles inputs) = cycled (table_of table) inputs area

module _ (table area : List ℕ) where
  performed : (call : Call) → perform table area call ≡ leaves (answer_of table area call) area (made_by table area call)
  unfolding perform gates_reset gates_cycle
  performed resets = refl
  performed (cycles inputs) = refl

  module _ (call : Call) where
    pub call_answer : (perform table area call).answer ≡ answer_of table area call
    call_answer = ap (λ (x : Left (List ℕ)). x.answer) (performed call) ∙ left_answer (answer_of table area call) area (made_by table area call)

    pub call_makes : {count : ℕ} → answer_of table area call ≡ Accepted count → (perform table area call).lent ≡ made_by table area call
    call_makes e = ap (λ (x : Left (List ℕ)). x.lent) (performed call) ∙ ap (λ (a : Answer). (leaves a area (made_by table area call)).lent) e

    pub call_keeps : {refusal : Refusal} {place : ℕ} → answer_of table area call ≡ Refused refusal place → (perform table area call).lent ≡ area
    call_keeps e = ap (λ (x : Left (List ℕ)). x.lent) (performed call) ∙ ap (λ (a : Answer). (leaves a area (made_by table area call)).lent) e
