-- Any number of cycles, and lists of calls: a refused call changes nothing and is struck out, so two matching lists go step by step through accepted calls of one kind, and each
-- of these keeps agreement.
use Rattle.std.specs.Prelude.{Err}
use Prim.Native.Nat.{ℕ, zero, suc, ◌<◌}
use mathlib.Core.Path.{◌≡◌, refl, sym, ◌∙◌, ap}
use mathlib.Core.Bool.{cond}
use mathlib.Core.List.{List, [], ◌∷◌, cons-ne-nil}
use native.Mathlib.Omega.{arith}
use lib.Dec.{eqb}
use lib.ListN.{length, get_or}
use borrow.Author.Tests.{eq-eqb}
use Rattle.model.specs.declared.Refusal.{Refusal}
use Rattle.model.specs.Answers.{Answer, Accepted, Refused}
use Rattle.model.specs.Image.{byte_at}
use Rattle.model.proofs.Laws.Indices.{get_d_tabulate}
use Rattle.gates_model.specs.Tables.{Table, table_of, mark_at}
use Rattle.gates_model.specs.Cycle.{started}
use Rattle.gates_model.specs.Runs.{Agree, FedAlike, after_cycles, Call, resets, cycles, perform, at_end, Trace, was_reset, was_cycle, trusted_inputs, trace_of, kept, remains, areas_after, AgreeEach, none, more, RunsIndependent}
use Rattle.gates_model.proofs.Laws.Calls.{answer_of, made_by, call_answer, call_makes, call_keeps}
use Rattle.gates_model.proofs.Independence.Wires.{cycle_agrees}

-- ---- any number of cycles
pub cycles_agree :
    (t : Table) (fed fed' : ℕ → List ℕ)
    → ((k : ℕ) → FedAlike t (fed k) (fed' k))
    → (one other : List ℕ)
    → Agree t one other
    → (n : ℕ)
    → Agree t (after_cycles t fed n one) (after_cycles t fed' n other)
unfolding after_cycles
cycles_agree t fed fed' alike one other agree zero = agree
cycles_agree t fed fed' alike one other agree (suc n) = cycle_agrees t (alike n) (cycles_agree t fed fed' alike one other agree n)

-- ---- what remains of a cycle says its trusted inputs
fed_alike : (t : Table) (inputs inputs' : List ℕ) → trusted_inputs t inputs ≡ trusted_inputs t inputs' → FedAlike t inputs inputs'
unfolding trusted_inputs
fed_alike t inputs inputs' e = record { input = λ i l m. entry i l m }
  where
    seen : List ℕ → ℕ → ℕ
    seen given i = cond (eqb (mark_at t i) 0) (byte_at given i) 0

    shown : (given : List ℕ) (i : ℕ) → mark_at t i ≡ 0 → seen given i ≡ byte_at given i
    shown given i m = rw (eq-eqb (mark_at t i) 0 m)

    entry : (i : ℕ) → i < length t.inputs → mark_at t i ≡ 0 → byte_at inputs i ≡ byte_at inputs' i
    entry i l m =
        sym (shown inputs i m)
        ∙ sym (get_d_tabulate (seen inputs) (length t.inputs) i 0 l)
        ∙ ap (λ (xs : List ℕ). get_or xs i 0) e
        ∙ get_d_tabulate (seen inputs') (length t.inputs) i 0 l
        ∙ shown inputs' i m

-- ---- lists
module _ {A : Type 0} where
  head_same : {x y : A} {xs ys : List A} → x ∷ xs ≡ y ∷ ys → x ≡ y
  head_same e = cc

  tail_same : {x y : A} {xs ys : List A} → x ∷ xs ≡ y ∷ ys → xs ≡ ys
  tail_same e = cc

-- ---- one accepted call of each list
agree_same : (t : Table) (area : List ℕ) → Agree t area area
agree_same t area = record { flipflop = λ i l. record { marks = refl; values = λ m. refl } }

apart : {inputs : List ℕ} → was_reset ≡ was_cycle inputs → ⊥
apart e = let z : ◌≡◌ {A = ℕ} 0 1 = cc in omega arith

same_inputs : {inputs inputs' : List ℕ} → was_cycle inputs ≡ was_cycle inputs' → inputs ≡ inputs'
same_inputs e = cc

made_agree : (table one other : List ℕ) (call call' : Call) → trace_of (table_of table) call ≡ trace_of (table_of table) call' → Agree (table_of table) one other → Agree (table_of table) (made_by table one call) (made_by table other call')
made_agree table one other resets resets e agree = agree_same (table_of table) (started (table_of table))
made_agree table one other resets (cycles inputs) e agree = absurd (apart e)
made_agree table one other (cycles inputs) resets e agree = absurd (apart (sym e))
made_agree table one other (cycles inputs) (cycles inputs') e agree = cycle_agrees (table_of table) (fed_alike (table_of table) inputs inputs' (same_inputs e)) agree

-- ---- a list: nothing remains, or a first accepted call and what follows it
module _ (table : List ℕ) where
  abbrev after : List ℕ → Call → List ℕ
  after area call = (perform table area call).lent

  record Ends (area : List ℕ) (calls : List Call) : Type 0 where
    areas : areas_after table area calls ≡ []
    end : at_end table area calls ≡ area

  record Next (area : List ℕ) (calls : List Call) (x : Trace) (xs : List Trace) : Type 0 where
    call : Call
    rest : List Call
    count : ℕ
    answered : answer_of table area call ≡ Accepted count
    trace : trace_of (table_of table) call ≡ x
    remaining : remains table (after area call) rest ≡ xs
    areas : areas_after table area calls ≡ after area call ∷ areas_after table (after area call) rest
    end : at_end table area calls ≡ at_end table (after area call) rest

  nothing : (area : List ℕ) (calls : List Call) → remains table area calls ≡ [] → Ends area calls
  unfolding remains areas_after at_end
  nothing area [] e = record { areas = refl; end = refl }
  nothing area (call ∷ others) e = go (answer_of table area call) (call_answer table area call) (λ kept-area h. nothing area others h) e
    where
      go : (a : Answer) → (perform table area call).answer ≡ a → (after area call ≡ area → remains table area others ≡ [] → Ends area others) → kept (perform table area call).answer (trace_of (table_of table) call) (remains table (after area call) others) ≡ [] → Ends area (call ∷ others)
      go (Accepted count) p rest h = absurd (cons-ne-nil _ _ (rw p at h))
      go (Err why) p rest h =
          let same = call_keeps table area call (sym (call_answer table area call) ∙ p) in
          let ends = rest same (rw (p, same) at h) in
          record { areas = rw (p, same) ends.areas; end = rw same ends.end }

  -- a refused call before a list changes nothing of it
  struck_out :
      (area : List ℕ) (call : Call) (others : List Call) (x : Trace) (xs : List Trace) {refusal : Refusal} {place : ℕ}
      → (perform table area call).answer ≡ Refused refusal place
      → after area call ≡ area
      → Next area others x xs
      → Next area (call ∷ others) x xs
  unfolding areas_after at_end
  struck_out area call others x xs p same next =
      record {
        call = next.call;
        rest = next.rest;
        count = next.count;
        answered = next.answered;
        trace = next.trace;
        remaining = next.remaining;
        areas = rw (p, same) next.areas;
        end = rw same next.end;
      }

  first : (area : List ℕ) (calls : List Call) (x : Trace) (xs : List Trace) → remains table area calls ≡ x ∷ xs → Next area calls x xs
  unfolding remains areas_after at_end
  first area [] x xs e = absurd (cons-ne-nil _ _ (sym e))
  first area (call ∷ others) x xs e = go (answer_of table area call) (call_answer table area call) (λ h. first area others x xs h) e
    where
      go : (a : Answer) → (perform table area call).answer ≡ a → (remains table area others ≡ x ∷ xs → Next area others x xs) → kept (perform table area call).answer (trace_of (table_of table) call) (remains table (after area call) others) ≡ x ∷ xs → Next area (call ∷ others) x xs
      go (Accepted count) p found h =
          let split = rw p at h in
          record {
            call = call;
            rest = others;
            count = count;
            answered = sym (call_answer table area call) ∙ p;
            trace = head_same split;
            remaining = tail_same split;
            areas = rw p refl;
            end = refl;
          }
      go (Err why) p found h =
          let same = call_keeps table area call (sym (call_answer table area call) ∙ p) in
          struck_out area call others x xs p same (found (rw (p, same) at h))

  runs_agree :
      (traces : List Trace) (one other : List ℕ)
      → Agree (table_of table) one other
      → (calls calls' : List Call)
      → remains table one calls ≡ traces
      → remains table other calls' ≡ traces
      → AgreeEach (table_of table) (areas_after table one calls) (areas_after table other calls')
      × Agree (table_of table) (at_end table one calls) (at_end table other calls')
  runs_agree [] one other agree calls calls' p q =
      let here = nothing one calls p in
      let there = nothing other calls' q in
      (rw (here.areas, there.areas) none, rw (here.end, there.end) agree)
  runs_agree (x ∷ xs) one other agree calls calls' p q =
      let here = first one calls x xs p in
      let there = first other calls' x xs q in
      let step : Agree (table_of table) (after one here.call) (after other there.call) = rw (call_makes table one here.call here.answered, call_makes table other there.call there.answered) (made_agree table one other here.call there.call (here.trace ∙ sym there.trace) agree) in
      let later = runs_agree xs (after one here.call) (after other there.call) step here.rest there.rest here.remaining there.remaining in
      (rw (here.areas, there.areas) (more step later.0), rw (here.end, there.end) later.1)

pub runs_independent : RunsIndependent
runs_independent table one other agree calls calls' e = runs_agree table (remains table other calls') one other agree calls calls' e refl
