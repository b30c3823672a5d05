-- A port write changes nothing but the four bytes of its register, and these only where it is accepted: an area of the right length is the bytes of its
-- values, and the write sets one of them.
use Rattle.std.specs.Prelude.{Some, None, Err}
use Prim.Native.Nat.{ℕ, ◌+◌, ◌*◌, ◌≤◌, ◌<◌}
use mathlib.Core.Path.{◌≡◌, refl}
use mathlib.Core.Logic.{◌⊎◌}
use mathlib.Core.Bool.{Bool, true, false, cond}
use mathlib.Core.List.{List, [], ◌∷◌}
use native.Mathlib.Omega.{arith}
use lib.ListN.{length, set, length-set}
use borrow.Author.Tests.{eqb-true, ltb-true}
use Rattle.model.specs.declared.Refusal.TheVariants.{NoPort, Area}
use Rattle.model.specs.Limits.{word_length}
use Rattle.model.specs.Image.{byte_at, AreBytes, design_of}
use Rattle.model.specs.States.{is_port}
use Rattle.model.specs.Verdict.{verdict}
use Rattle.model.specs.Answers.{Answer, Accepted, Numbers, numbers_of}
use Rattle.model.specs.Values.{words_of, bytes_of}
use Rattle.model.specs.Calls.{register_area_answer, is_writable, port_answer, write_port_answer, write_port}
use Rattle.model.proofs.Laws.Booleans.{and_first}
use Rattle.model.proofs.Laws.Found.{at_is_not_nowhere, zero_unless_iff}
use Rattle.model.proofs.Laws.Words.{length-words_of, length-bytes_of, bytes_of_words, other_bytes, own_bytes}
use Rattle.model.proofs.Laws.Verdict.{first_accepts, later_accepts, found_nothing}
use Rattle.model.proofs.Laws.Numbers.{no_number_zero}

-- the numbers that a port write answers and the bytes that it leaves, of register r and value v
pub record ChangesOnly (r v : ℕ) (before : List ℕ) (answered : Numbers) (after : List ℕ) : Type 0 where
  pub lengths : length after ≡ length before
  pub others : (i : ℕ) → (i < word_length * r) ⊎ (word_length * r + word_length ≤ i) → byte_at after i ≡ byte_at before i
  pub own : answered.number ≡ 0 → (k : ℕ) → k < word_length → byte_at after (word_length * r + k) ≡ byte_at (bytes_of (v ∷ [])) k

nothing_changed : (r v : ℕ) (registers : List ℕ) (answered : Numbers) → (answered.number ≡ 0 → ⊥) → ChangesOnly r v registers answered registers
nothing_changed r v registers answered refused = record { lengths = refl; others = λ i h. refl; own = λ e. absurd (refused e) }

-- values written as bytes, with one of them set
value_set : (r v : ℕ) (values : List ℕ) (answered : Numbers) → r < length values → ChangesOnly r v (bytes_of values) answered (bytes_of (set values r v))
value_set r v values answered l =
    record {
      lengths = rw (length-bytes_of (set values r v), length-bytes_of values, length-set values r v);
      others = other_bytes values r v;
      own = λ e k h. own_bytes values r v k l h;
    }

module _ (image registers : List ℕ) (r v : ℕ) {c : ℕ} (accepted : write_port_answer image registers r v ≡ Accepted c) where
  -- what an acceptance says of the area and of the register
  area_right : length registers ≡ word_length * length (design_of image).registers
  unfolding write_port_answer register_area_answer
  area_right =
      let judged = later_accepts (verdict image) _ accepted in
      eqb-true _ _ (zero_unless_iff.0 (found_nothing Area _ (first_accepts _ _ judged).1))

  register_there : r < length (design_of image).registers
  unfolding write_port_answer port_answer is_writable
  register_there =
      let judged = later_accepts _ _ (later_accepts _ _ (later_accepts (verdict image) _ accepted)) in
      ltb-true _ _ (and_first _ (is_port (design_of image) r) (writable (is_writable (design_of image) r) (found_nothing NoPort _ (first_accepts _ _ judged).1)))
    where
      writable : (b : Bool) → cond b None (Some r) ≡ None → b ≡ true
      writable true e = refl
      writable false e = absurd (at_is_not_nowhere r e)

pub changes_only : (image registers : List ℕ) → AreBytes registers → (r v : ℕ)
    → ChangesOnly r v registers (numbers_of (write_port image registers r v).answer) (write_port image registers r v).lent
unfolding write_port
changes_only image registers bytes r v = go (write_port_answer image registers r v) refl
  where
    words : List ℕ
    words = words_of (length (design_of image).registers) registers

    go : (a : Answer) → write_port_answer image registers r v ≡ a
        → ChangesOnly r v registers (numbers_of (write_port image registers r v).answer) (write_port image registers r v).lent
    go (Err why) e = rw e (nothing_changed r v registers _ (no_number_zero why.refusal))
    go (Accepted c) e =
        let there = register_there image registers r v e in
        let size = length-words_of (length (design_of image).registers) registers in
        let same : bytes_of words ≡ registers = bytes_of_words (length (design_of image).registers) registers bytes (area_right image registers r v e) in
        let changed : ChangesOnly r v registers (numbers_of (Accepted c)) (bytes_of (set words r v)) = rw same at (value_set r v words (numbers_of (Accepted c)) (omega arith)) in
        rw e changed
