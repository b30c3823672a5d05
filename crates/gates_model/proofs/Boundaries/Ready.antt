-- Cases at the boundaries of what a cycle accepts, and uses of the claim about cycles that are all accepted: two runs of a table with a trusted and an untrusted input, each with a
-- flip-flop of its own.
use Prim.Native.Nat.{ℕ, zero, suc, ◌≤◌, ◌<◌}
use mathlib.Core.Path.{◌≡◌, refl}
use mathlib.Core.List.{List, [], ◌∷◌, map}
use native.Mathlib.Omega.{arith}
use lib.ListN.{length}
use Rattle.model.specs.declared.Refusal.TheVariants.{GateWire}
use Rattle.model.specs.Answers.{Accepted, Refused}
use Rattle.model.specs.Image.{byte_at}
use Rattle.gates_model.specs.Tables.{Table, table_of, mark_at}
use Rattle.gates_model.specs.Signals.{IsSound}
use Rattle.gates_model.specs.Cycle.{signal_in}
use Rattle.gates_model.specs.Rules.{DirectoryKeeps, WireKeeps, TableKeeps}
use Rattle.gates_model.specs.Runs.{SignalsAgree, Agree, FedAlike, Call, resets, cycles, AgreeEach, AreaReady, InputsReady, FedEach, unfed, fed, answers, areas_each, CyclesStayAlike, LeavesReady}
use Rattle.gates_model.proofs.Opened.{everything}
use Rattle.gates_model.proofs.Worked.{store}

-- ---- areas: "a value and a mark byte per flip-flop"
abbrev Ready : List ℕ → Type 0
Ready area = AreaReady (table_of store) area

-- one byte less, and one more
shows_short_area : Ready (0 ∷ 0 ∷ 0 ∷ []) → ⊥
shows_short_area ready = unfold everything in let z : ◌≡◌ {A = ℕ} 3 4 = ready.long in omega arith

shows_long_area : Ready (0 ∷ 0 ∷ 0 ∷ 0 ∷ 0 ∷ []) → ⊥
shows_long_area ready = unfold everything in let z : ◌≡◌ {A = ℕ} 5 4 = ready.long in omega arith

-- a value or a mark of 2, of the last flip-flop and of the first
shows_mark_two : Ready (0 ∷ 0 ∷ 0 ∷ 2 ∷ []) → ⊥
shows_mark_two ready = unfold everything in let z : 2 ≤ 1 = (ready.sound 1 (omega arith)).mark in omega arith

shows_value_two : Ready (2 ∷ 0 ∷ 0 ∷ 0 ∷ []) → ⊥
shows_value_two ready = unfold everything in let z : 2 ≤ 1 = (ready.sound 0 (omega arith)).value in omega arith

-- and any other is ready
both_sound : (a b c d : ℕ) → a ≤ 1 → b ≤ 1 → c ≤ 1 → d ≤ 1 → (i : ℕ) → i < length (table_of store).flipflops → IsSound (signal_in (a ∷ b ∷ c ∷ d ∷ []) i)
unfolding everything
both_sound a b c d p q r s zero l = record { value = p; mark = q }
both_sound a b c d p q r s (suc zero) l = record { value = r; mark = s }
both_sound a b c d p q r s (suc (suc i)) l = absurd (omega arith)

shows_ready : (a b c d : ℕ) → a ≤ 1 → b ≤ 1 → c ≤ 1 → d ≤ 1 → Ready (a ∷ b ∷ c ∷ d ∷ [])
shows_ready a b c d p q r s = record { long = unfold everything in refl; sound = both_sound a b c d p q r s }

-- ---- inputs: "one value byte per input"
abbrev Given : List ℕ → Type 0
Given inputs = InputsReady (table_of store) inputs

shows_short_inputs : Given (0 ∷ []) → ⊥
shows_short_inputs given = unfold everything in let z : ◌≡◌ {A = ℕ} 1 2 = given.long in omega arith

shows_long_inputs : Given (0 ∷ 0 ∷ 0 ∷ []) → ⊥
shows_long_inputs given = unfold everything in let z : ◌≡◌ {A = ℕ} 3 2 = given.long in omega arith

shows_input_two : Given (0 ∷ 2 ∷ []) → ⊥
shows_input_two given = unfold everything in let z : 2 ≤ 1 = given.bits 1 (omega arith) in omega arith

both_bits : (a b : ℕ) → a ≤ 1 → b ≤ 1 → (i : ℕ) → i < length (table_of store).inputs → byte_at (a ∷ b ∷ []) i ≤ 1
unfolding everything
both_bits a b p q zero l = p
both_bits a b p q (suc zero) l = q
both_bits a b p q (suc (suc i)) l = absurd (omega arith)

shows_given : (a b : ℕ) → a ≤ 1 → b ≤ 1 → Given (a ∷ b ∷ [])
shows_given a b p q = record { long = unfold everything in refl; bits = both_bits a b p q }

-- ---- the table keeps the rules
wire_keeps : (w : ℕ) → w < 4 → WireKeeps (table_of store) w
unfolding everything
wire_keeps zero l = record { input = λ low. omega arith; flipflop = λ above below. absurd (omega arith); gate = λ above. absurd (omega arith) }
wire_keeps (suc zero) l = record { input = λ low. omega arith; flipflop = λ above below. absurd (omega arith); gate = λ above. absurd (omega arith) }
wire_keeps (suc (suc zero)) l =
    record {
      input = λ low. absurd (omega arith);
      flipflop = λ above below. record { next = omega arith; value = omega arith; mark = omega arith };
      gate = λ above. absurd (omega arith);
    }
wire_keeps (suc (suc (suc zero))) l =
    record {
      input = λ low. absurd (omega arith);
      flipflop = λ above below. record { next = omega arith; value = omega arith; mark = omega arith };
      gate = λ above. absurd (omega arith);
    }
wire_keeps (suc (suc (suc (suc w)))) l = absurd (omega arith)

directory_keeps : DirectoryKeeps store
directory_keeps =
    record {
      present = unfold everything in omega arith;
      inputs_at = refl;
      flipflops_at = refl;
      gates_at = refl;
      ends = refl;
      inputs = record { whole = refl; at_most = omega arith };
      flipflops = record { whole = refl; at_most = omega arith };
      gates = record { whole = refl; at_most = omega arith };
    }

shows_table_keeps : TableKeeps store
unfolding everything
shows_table_keeps = record { directory = directory_keeps; wire = λ w l. wire_keeps w l }

-- ---- lists of calls: every answer and every area, those of refused calls too; each call on the area as the one before it left it
abbrev list : List Call
list = resets ∷ cycles (1 ∷ 2 ∷ []) ∷ cycles (1 ∷ 1 ∷ []) ∷ []

shows_answers : answers store (7 ∷ 7 ∷ 7 ∷ 7 ∷ []) list ≡ Accepted 0 ∷ Refused GateWire 1 ∷ Accepted 0 ∷ []
shows_answers = unfold everything in refl

shows_areas_each : areas_each store (7 ∷ 7 ∷ 7 ∷ 7 ∷ []) list ≡ (0 ∷ 0 ∷ 0 ∷ 0 ∷ []) ∷ (0 ∷ 0 ∷ 0 ∷ 0 ∷ []) ∷ (1 ∷ 0 ∷ 1 ∷ 1 ∷ []) ∷ []
shows_areas_each = unfold everything in refl

-- ---- "equal in marks and trusted values, and fed inputs equal where marked trusted"
shows_marks_differ : Agree (table_of store) (0 ∷ 0 ∷ 1 ∷ 0 ∷ []) (0 ∷ 0 ∷ 1 ∷ 1 ∷ []) → ⊥
shows_marks_differ agree = unfold everything in let z : ◌≡◌ {A = ℕ} 0 1 = (agree.flipflop 1 (omega arith)).marks in omega arith

shows_trusted_values_differ : Agree (table_of store) (0 ∷ 0 ∷ 0 ∷ 0 ∷ []) (0 ∷ 0 ∷ 1 ∷ 0 ∷ []) → ⊥
shows_trusted_values_differ agree = unfold everything in let z : ◌≡◌ {A = ℕ} 0 1 = (agree.flipflop 1 (omega arith)).values refl in omega arith

shows_trusted_inputs_differ : FedAlike (table_of store) (0 ∷ 0 ∷ []) (1 ∷ 0 ∷ []) → ⊥
shows_trusted_inputs_differ alike = unfold everything in let z : ◌≡◌ {A = ℕ} 0 1 = alike.input 0 (omega arith) refl in omega arith

-- an untrusted flip-flop and an untrusted input may have any two values
shows_agree : (v a b : ℕ) → Agree (table_of store) (v ∷ 0 ∷ a ∷ 1 ∷ []) (v ∷ 0 ∷ b ∷ 1 ∷ [])
shows_agree v a b = record { flipflop = each }
  where
    each : (i : ℕ) → i < length (table_of store).flipflops → SignalsAgree (signal_in (v ∷ 0 ∷ a ∷ 1 ∷ []) i) (signal_in (v ∷ 0 ∷ b ∷ 1 ∷ []) i)
    each zero l = record { marks = refl; values = λ m. refl }
    each (suc zero) l = record { marks = refl; values = λ m. absurd (omega arith) }
    each (suc (suc i)) l = unfold everything in absurd (omega arith)

shows_fed_alike : (v a b : ℕ) → FedAlike (table_of store) (v ∷ a ∷ []) (v ∷ b ∷ [])
unfolding everything
shows_fed_alike v a b = record { input = each }
  where
    each : (i : ℕ) → i < length (table_of store).inputs → mark_at (table_of store) i ≡ 0 → byte_at (v ∷ a ∷ []) i ≡ byte_at (v ∷ b ∷ []) i
    each zero l m = refl
    each (suc zero) l m = absurd (omega arith)
    each (suc (suc i)) l m = absurd (omega arith)

-- both runs have as many cycles
as_many : {t : Table} {feds feds' : List (List ℕ)} → FedEach t feds feds' → length feds ≡ length feds'
as_many unfed = refl
as_many (fed given given' alike later) = let rest = as_many later in omega arith

shows_as_many : FedEach (table_of store) [] ((0 ∷ 0 ∷ []) ∷ []) → ⊥
shows_as_many each = let z : ◌≡◌ {A = ℕ} 0 1 = as_many each in omega arith

-- ---- "stay so after any number of cycles": two, with other untrusted values in each
abbrev feds : List (List ℕ)
feds = (0 ∷ 0 ∷ []) ∷ (1 ∷ 0 ∷ []) ∷ []

abbrev feds' : List (List ℕ)
feds' = (0 ∷ 1 ∷ []) ∷ (1 ∷ 1 ∷ []) ∷ []

fed_each : FedEach (table_of store) feds feds'
fed_each =
    fed
    (shows_given 0 0 (omega arith) (omega arith))
    (shows_given 0 1 (omega arith) (omega arith))
    (shows_fed_alike 0 0 1)
    (fed (shows_given 1 0 (omega arith) (omega arith)) (shows_given 1 1 (omega arith) (omega arith)) (shows_fed_alike 1 0 1) unfed)

shows_claim
    : CyclesStayAlike
    → (answers store (1 ∷ 0 ∷ 0 ∷ 1 ∷ []) (map cycles feds) ≡ Accepted 0 ∷ Accepted 0 ∷ [])
    × (answers store (1 ∷ 0 ∷ 1 ∷ 1 ∷ []) (map cycles feds') ≡ Accepted 0 ∷ Accepted 0 ∷ [])
    × AgreeEach (table_of store) ((0 ∷ 0 ∷ 0 ∷ 1 ∷ []) ∷ (1 ∷ 0 ∷ 0 ∷ 1 ∷ []) ∷ []) ((0 ∷ 0 ∷ 1 ∷ 1 ∷ []) ∷ (1 ∷ 0 ∷ 1 ∷ 1 ∷ []) ∷ [])
    × Agree (table_of store) (1 ∷ 0 ∷ 0 ∷ 1 ∷ []) (1 ∷ 0 ∷ 1 ∷ 1 ∷ [])
unfolding everything
shows_claim claim =
    let stay =
    claim
    store
    shows_table_keeps
    (1 ∷ 0 ∷ 0 ∷ 1 ∷ [])
    (1 ∷ 0 ∷ 1 ∷ 1 ∷ [])
    (shows_ready 1 0 0 1 (omega arith) (omega arith) (omega arith) (omega arith))
    (shows_ready 1 0 1 1 (omega arith) (omega arith) (omega arith) (omega arith))
    (shows_agree 1 0 1)
    feds
    feds'
    fed_each in
    (stay.accepted, stay.accepted', stay.each, stay.end)

-- and none: nothing is answered, and the areas are as they were
shows_claim_none
    : CyclesStayAlike
    → (answers store (1 ∷ 0 ∷ 0 ∷ 1 ∷ []) [] ≡ []) × AgreeEach (table_of store) [] [] × Agree (table_of store) (1 ∷ 0 ∷ 0 ∷ 1 ∷ []) (1 ∷ 0 ∷ 1 ∷ 1 ∷ [])
unfolding everything
shows_claim_none claim =
    let stay =
    claim
    store
    shows_table_keeps
    (1 ∷ 0 ∷ 0 ∷ 1 ∷ [])
    (1 ∷ 0 ∷ 1 ∷ 1 ∷ [])
    (shows_ready 1 0 0 1 (omega arith) (omega arith) (omega arith) (omega arith))
    (shows_ready 1 0 1 1 (omega arith) (omega arith) (omega arith) (omega arith))
    (shows_agree 1 0 1)
    []
    []
    unfed in
    (stay.accepted, stay.each, stay.end)

-- a reset of an area of any bytes leaves one that is ready, and so does a cycle
shows_claim_leaves : LeavesReady → Ready (0 ∷ 0 ∷ 0 ∷ 0 ∷ []) × Ready (1 ∷ 0 ∷ 1 ∷ 1 ∷ [])
unfolding everything
shows_claim_leaves claim = (claim store (7 ∷ 7 ∷ 7 ∷ 7 ∷ []) resets refl, claim store (0 ∷ 0 ∷ 0 ∷ 0 ∷ []) (cycles (1 ∷ 1 ∷ [])) refl)
