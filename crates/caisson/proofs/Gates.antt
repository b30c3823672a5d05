-- What the exported calls on gate tables, 02, E13, told and left, from their postconditions (`GateContracts`) and no more.
use Rattle.std.specs.Prelude.{Err}
use Prim.Native.Nat.{ℕ}
use mathlib.Core.Path.{◌≡◌, refl, sym, ◌∙◌, ap, ap₂}
use mathlib.Core.Bool.{cond}
use mathlib.Core.List.{List, [], ◌∷◌, map}
use lib.Dec.{eqb}
use borrow.Author.Tests.{eq-eqb, ne_eqb}
use Rattle.model.specs.Answers.{Answer, Accepted, Numbers, numbers_of}
use Rattle.gates_model.specs.Tables.{table_of}
use Rattle.gates_model.specs.Runs.{Agree, Call, perform, at_end, kept, remains, areas_after, AgreeEach, cycles, answers, areas_each, AreaReady, FedEach, call_table}
use Rattle.model.proofs.Laws.Numbers.{no_number_zero}
use Rattle.gates_model.proofs.Promises as meaning
use Rattle.caisson.specs.declared.HostAnswer.{HostAnswer}
use Rattle.caisson.specs.Told.{told, told_left}
use Rattle.caisson.proofs.GateContracts.{GatesChecked, GatesCalled, AllGatesCalled, gates_checked_told, gates_called_made}
use Rattle.caisson.proofs.Answered.{numbers_told, lent_told}
use Rattle.gates_model.specs.Rules.{check_table}
use Rattle.model.specs.Refusals.{AnswersBy, Exactly}
use Rattle.gates_model.proofs.Exact.{check_answers}

-- ---- what a call told and left
gates_called_told : (table before after : List ℕ) (call : Call) (h : HostAnswer) → GatesCalled table before call h after → told h ≡ numbers_of (perform table before call).answer
gates_called_told table before after call h called = numbers_told h after (perform table before call) (gates_called_made table before after call h called)

gates_called_leaves : (table before after : List ℕ) (call : Call) (h : HostAnswer) → GatesCalled table before call h after → after ≡ (perform table before call).lent
gates_called_leaves table before after call h called = lent_told h after (perform table before call) (gates_called_made table before after call h called)

-- ---- check and the two calls, each by its table
pub gates_checked : (table : List ℕ) (h : HostAnswer) → GatesChecked table h → AnswersBy (check_table table) 0 (told h)
gates_checked table h checked = rw (gates_checked_told table h checked) (check_answers table)

pub gates_called_exactly :
    (table before after : List ℕ) (call : Call) (h : HostAnswer) → GatesCalled table before call h after → Exactly (call_table table before call) 0 before (told_left h after)
gates_called_exactly table before after call h called = rw (gates_called_made table before after call h called) (meaning.calls_exactly table before call)

-- ---- independence, of lists of exported calls
all_gates_called_ends : (table : List ℕ) (calls : List Call) (before after : List ℕ) → AllGatesCalled table before calls after → after ≡ at_end table before calls
unfolding at_end
all_gates_called_ends table [] before after same = sym same
all_gates_called_ends table (call ∷ more) before after (h, between, called, others) =
    all_gates_called_ends table more between after others ∙ ap (λ (area : List ℕ). at_end table area more) (gates_called_leaves table before between call h called)

-- the areas after each accepted call: those at which a host was told 0
abbrev pub accepted_areas : (table : List ℕ) (calls : List Call) (before after : List ℕ) → AllGatesCalled table before calls after → List (List ℕ)
accepted_areas table [] before after same = []
accepted_areas table (call ∷ more) before after (h, between, called, others) =
    cond (eqb h.number 0) (between ∷ accepted_areas table more between after others) (accepted_areas table more between after others)

told_kept : (a : Answer) (number : ℕ) → number ≡ (numbers_of a).number → (area : List ℕ) (areas : List (List ℕ)) → cond (eqb number 0) (area ∷ areas) areas ≡ kept a area areas
told_kept (Accepted count) number e area areas = rw (eq-eqb number 0 e)
told_kept (Err why) number e area areas = rw (ne_eqb number 0 (λ z. no_number_zero why.refusal (sym e ∙ z)))

accepted_areas_lem : (table : List ℕ) (calls : List Call) (before after : List ℕ) (all : AllGatesCalled table before calls after) → accepted_areas table calls before after all ≡ areas_after table before calls
unfolding areas_after
accepted_areas_lem table [] before after same = refl
accepted_areas_lem table (call ∷ more) before after (h, between, called, others) =
    let leaves = gates_called_leaves table before between call h called in
    let number = ap (λ (x : Numbers). x.number) (gates_called_told table before between call h called) in
    told_kept (perform table before call).answer h.number number between (accepted_areas table more between after others)
    ∙ ap₂
    (λ (area : List ℕ) (areas : List (List ℕ)). kept (perform table before call).answer area areas)
    leaves
    (accepted_areas_lem table more between after others ∙ ap (λ (area : List ℕ). areas_after table area more) leaves)

-- Two hosts use one table. Where their areas agree at the start, in marks and trusted values, and the same remains of both lists of calls, refused ones
-- struck out and inputs compared where they are marked trusted, the areas agree after each accepted call and at the end.
pub gate_hosts_independent :
    (table one other : List ℕ)
    → Agree (table_of table) one other
    → (calls calls' : List Call)
    → remains table one calls ≡ remains table other calls'
    → (end end' : List ℕ)
    → (called : AllGatesCalled table one calls end)
    → (called' : AllGatesCalled table other calls' end')
    → AgreeEach (table_of table) (accepted_areas table calls one end called) (accepted_areas table calls' other end' called') × Agree (table_of table) end end'
gate_hosts_independent table one other agree calls calls' same end end' called called' =
    let both = meaning.lists_independent table one other agree calls calls' same in
    let areas : AgreeEach (table_of table) (accepted_areas table calls one end called) (accepted_areas table calls' other end' called') = rw (accepted_areas_lem table calls one end called, accepted_areas_lem table calls' other end' called') both.0 in
    let last : Agree (table_of table) end end' = rw (all_gates_called_ends table calls one end called, all_gates_called_ends table calls' other end' called') both.1 in
    (areas, last)

-- ---- cycles that are all accepted
-- what a list of calls told, one by one, and the area after each
abbrev pub gates_told_each : (table : List ℕ) (calls : List Call) (before after : List ℕ) → AllGatesCalled table before calls after → List Numbers
gates_told_each table [] before after same = []
gates_told_each table (call ∷ more) before after (h, between, called, others) = told h ∷ gates_told_each table more between after others

abbrev pub gates_left_each : (table : List ℕ) (calls : List Call) (before after : List ℕ) → AllGatesCalled table before calls after → List (List ℕ)
gates_left_each table [] before after same = []
gates_left_each table (call ∷ more) before after (h, between, called, others) = between ∷ gates_left_each table more between after others

told_each_so : (table : List ℕ) (calls : List Call) (before after : List ℕ) (all : AllGatesCalled table before calls after)
    → gates_told_each table calls before after all ≡ map numbers_of (answers table before calls)
unfolding answers
told_each_so table [] before after same = refl
told_each_so table (call ∷ more) before after (h, between, called, others) =
    ap₂
    ◌∷◌
    (gates_called_told table before between call h called)
    (told_each_so table more between after others ∙ ap (λ (area : List ℕ). map numbers_of (answers table area more)) (gates_called_leaves table before between call h called))

left_each_so : (table : List ℕ) (calls : List Call) (before after : List ℕ) (all : AllGatesCalled table before calls after)
    → gates_left_each table calls before after all ≡ areas_each table before calls
unfolding areas_each
left_each_so table [] before after same = refl
left_each_so table (call ∷ more) before after (h, between, called, others) =
    let leaves = gates_called_leaves table before between call h called in
    ap₂ ◌∷◌ leaves (left_each_so table more between after others ∙ ap (λ (area : List ℕ). areas_each table area more) leaves)

all_zero : (feds : List (List ℕ)) → map numbers_of (map (λ (inputs : List ℕ). Accepted 0) feds) ≡ map (λ (inputs : List ℕ). record { number = 0; place = 0; count = 0 }) feds
all_zero [] = refl
all_zero (inputs ∷ more) = ap (λ (rest : List Numbers). record { number = 0; place = 0; count = 0 } ∷ rest) (all_zero more)

pub gate_hosts_stay_alike :
    (table : List ℕ) (h : HostAnswer) → GatesChecked table h → told h ≡ record { number = 0; place = 0; count = 0 }
    → (one other : List ℕ) → AreaReady (table_of table) one → AreaReady (table_of table) other → Agree (table_of table) one other
    → (feds feds' : List (List ℕ)) → FedEach (table_of table) feds feds'
    → (end end' : List ℕ) (called : AllGatesCalled table one (map cycles feds) end) (called' : AllGatesCalled table other (map cycles feds') end')
    → (gates_told_each table (map cycles feds) one end called ≡ map (λ (inputs : List ℕ). record { number = 0; place = 0; count = 0 }) feds)
    × (gates_told_each table (map cycles feds') other end' called' ≡ map (λ (inputs : List ℕ). record { number = 0; place = 0; count = 0 }) feds')
    × AgreeEach (table_of table) (gates_left_each table (map cycles feds) one end called) (gates_left_each table (map cycles feds') other end' called')
gate_hosts_stay_alike table h checked accepted one other ready ready' agree feds feds' alike-fed end end' called called' =
    let keeps = (meaning.accepted_exactly table).0 (sym (gates_checked_told table h checked) ∙ accepted) in
    let alike = meaning.cycles_stay_alike table keeps one other ready ready' agree feds feds' alike-fed in (
      told_each_so table (map cycles feds) one end called ∙ ap (map numbers_of) alike.accepted ∙ all_zero feds,
      told_each_so table (map cycles feds') other end' called' ∙ ap (map numbers_of) alike.accepted' ∙ all_zero feds',
      rw (left_each_so table (map cycles feds) one end called, left_each_so table (map cycles feds') other end' called') alike.each,
    )

pub gates_leave_ready : (table area after : List ℕ) (call : Call) (h : HostAnswer) → GatesCalled table area call h after → h.number ≡ 0 → AreaReady (table_of table) after
gates_leave_ready table area after call h called accepted =
    rw
    (gates_called_leaves table area after call h called)
    (meaning.leaves_ready table area call (sym (ap (λ (x : Numbers). x.number) (gates_called_told table area after call h called)) ∙ accepted))
