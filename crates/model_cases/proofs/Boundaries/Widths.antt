-- Cases at the boundaries of 02's E2, 'Registers with a width': refusals 3, 14 and 17, and what an assignment stores.
use Prim.Native.Nat.{ℕ, zero, suc, ◌<◌, ◌^◌}
use native.Mathlib.Omega.{arith}
use mathlib.Core.Path.{◌≡◌, refl}
use mathlib.Core.List.{List, [], ◌∷◌, ◌++◌, map}
use lib.ListN.{length, replicate}
use Rattle.model.specs.declared.Refusal.TheVariants.{Area}
use Rattle.model.specs.Limits.{largest_image}
use Rattle.model.specs.Image.{register_at, design_of}
use Rattle.model.specs.Answers.{Refused, Numbers, numbers_of}
use Rattle.model.specs.Machine.{cycle}
use Rattle.model.specs.Calls.{Lent, run_answer}
use Rattle.model.specs.Parties.{Call, Beginning, resets, writes, runs, perform}
use Rattle.model.proofs.Opened.{checks, everything, refused, accepted, judged, told, lent, lent_bound, areas}
use Rattle.model.proofs.Designs.{assemble, one_state, width_record, register_record, state_record, assigns, sequences, falls, goes_to, branches, constant, reads, adds, subtracts, equals}

-- "The largest image grows by 64 bytes": it had 25,268; 02, E8: "the largest image grows by 320 bytes"
shows_largest_image : largest_image ≡ 25652
shows_largest_image = refl

-- an image with r1 of this record behind an inner register of width 32
abbrev with_register : List ℕ → List ℕ
with_register x = one_state (1 ∷ []) (register_record 0 0 0 ∷ x ∷ []) 1 (goes_to 1 ∷ []) []

-- "a width of 1 to 32": "A width outside its range .. is refusal 3."
shows_widths
    : map (λ (w : ℕ). judged (with_register (width_record 0 0 0 w))) (0 ∷ 1 ∷ 2 ∷ 31 ∷ 32 ∷ 33 ∷ 65 ∷ 255 ∷ [])
    ≡ refused 3 1 ∷ accepted 0 ∷ accepted 0 ∷ accepted 0 ∷ accepted 0 ∷ refused 3 1 ∷ refused 3 1 ∷ refused 3 1 ∷ []
shows_widths = unfold checks in refl

-- "A width outside its range": of ports too
shows_port_widths
    : map (λ (w : ℕ). judged (with_register (width_record 0 1 0 w))) (0 ∷ 1 ∷ 32 ∷ 33 ∷ []) ≡ refused 3 1 ∷ accepted 0 ∷ accepted 0 ∷ refused 3 1 ∷ []
shows_port_widths = unfold checks in refl

-- "or a reset value too large": the largest that fits, and one more; of inner registers and of ports
shows_reset_fits
    : map
    (λ (x : List ℕ). judged (with_register x))
    (width_record 0 0 1 1 ∷ width_record 0 1 1023 10 ∷ width_record 0 0 2147483647 31 ∷ width_record 0 1 4294967295 32 ∷ [])
    ≡ accepted 0 ∷ accepted 0 ∷ accepted 0 ∷ accepted 0 ∷ []
shows_reset_fits = unfold checks in refl

shows_reset_too_large
    : map (λ (x : List ℕ). judged (with_register x)) (width_record 0 0 2 1 ∷ width_record 0 1 1024 10 ∷ width_record 0 0 2147483648 31 ∷ [])
    ≡ refused 3 1 ∷ refused 3 1 ∷ refused 3 1 ∷ []
shows_reset_too_large = unfold checks in refl

-- at the lowest register, whichever rule of it fails
shows_lowest_width
    : map
    judged
    (one_state (1 ∷ []) (width_record 0 0 0 0 ∷ width_record 0 2 0 1 ∷ []) 1 (goes_to 1 ∷ []) []
    ∷ one_state (1 ∷ []) (width_record 0 2 0 1 ∷ width_record 0 0 0 0 ∷ []) 1 (goes_to 1 ∷ []) []
    ∷ one_state (1 ∷ []) (width_record 0 0 2 1 ∷ width_record 1 0 0 1 ∷ []) 1 (goes_to 1 ∷ []) []
    ∷ [])
    ≡ refused 3 0 ∷ refused 3 0 ∷ refused 3 0 ∷ []
shows_lowest_width = unfold checks in refl

-- "A width outside its range, or a reset value too large, is refusal 3": before 4, here of state 1 with parent 1
shows_width_before_4
    : map
    (λ (x : List ℕ). judged (assemble (1 ∷ []) (x ∷ []) (state_record 0 0 0 ∷ state_record 1 0 1 ∷ []) (falls ∷ goes_to 1 ∷ []) []))
    (width_record 0 0 0 33 ∷ width_record 0 0 2 1 ∷ width_record 0 0 1 1 ∷ [])
    ≡ refused 3 0 ∷ refused 3 0 ∷ refused 4 1 ∷ []
shows_width_before_4 = unfold checks in refl

-- r0 of the width: r0 := v; goto 1
abbrev cut_to : ℕ → ℕ → List ℕ
cut_to width v = one_state (1 ∷ []) (width_record 0 0 0 width ∷ []) 3 (assigns 0 0 ∷ goes_to 1 ∷ sequences 1 2 ∷ []) (constant v ∷ [])

-- the registers after a cycle of state 1, which began with these
abbrev after : List ℕ → List ℕ → List ℕ
after image values = (cycle (design_of image) (areas values (1 ∷ 1 ∷ []))).after.registers

-- "An assignment stores the value modulo 2 to the power of the width."
shows_cut
    : map (λ (w : ℕ). after (cut_to w 4294967295) (0 ∷ [])) (1 ∷ 2 ∷ 10 ∷ 31 ∷ 32 ∷ [])
    ≡ (1 ∷ []) ∷ (3 ∷ []) ∷ (1023 ∷ []) ∷ (2147483647 ∷ []) ∷ (4294967295 ∷ []) ∷ []
shows_cut = unfold everything in refl

shows_cut_of_10
    : map (λ (v : ℕ). after (cut_to 10 v) (5 ∷ [])) (1022 ∷ 1023 ∷ 1024 ∷ 1025 ∷ 2047 ∷ 2048 ∷ [])
    ≡ (1022 ∷ []) ∷ (1023 ∷ []) ∷ (0 ∷ []) ∷ (1 ∷ []) ∷ (1023 ∷ []) ∷ (0 ∷ []) ∷ []
shows_cut_of_10 = unfold everything in refl

shows_cut_of_1
    : map (λ (v : ℕ). after (cut_to 1 v) (0 ∷ [])) (0 ∷ 1 ∷ 2 ∷ 3 ∷ []) ≡ (0 ∷ []) ∷ (1 ∷ []) ∷ (0 ∷ []) ∷ (1 ∷ []) ∷ []
shows_cut_of_1 = unfold everything in refl

-- r0 and r1 with these widths, and expressions; state 1: r0 := e; r1 := f; goto 1, where e and f are expressions 2 and 5
abbrev twice : ℕ → ℕ → List (List ℕ) → List ℕ
twice first second =
    one_state (1 ∷ []) (width_record 0 0 0 first ∷ width_record 0 0 0 second ∷ []) 5 (assigns 0 2 ∷ assigns 1 5 ∷ goes_to 1 ∷ sequences 2 3 ∷ sequences 1 4 ∷ [])

-- the next read has the cut value, and an expression is cut by the register written alone: from r0 = 3, r0 := r0 + 5 is 0 of two bits; r1 := r0 + 5 is 5
shows_cut_read
    : map
    (λ (w : ℕ). after (twice 2 w (reads 0 ∷ constant 5 ∷ adds 0 1 ∷ reads 0 ∷ constant 5 ∷ adds 3 4 ∷ [])) (3 ∷ 0 ∷ []))
    (2 ∷ 3 ∷ 32 ∷ [])
    ≡ (0 ∷ 1 ∷ []) ∷ (0 ∷ 5 ∷ []) ∷ (0 ∷ 5 ∷ []) ∷ []
shows_cut_read = unfold everything in refl

-- below 0 a narrow register has all its bits set, and a wide one all of its own: r0 := r0 - 1; r1 := r1 - 1, from 0
shows_cut_borrow
    : after (twice 10 32 (reads 0 ∷ constant 1 ∷ subtracts 0 1 ∷ reads 1 ∷ constant 1 ∷ subtracts 3 4 ∷ [])) (0 ∷ 0 ∷ []) ≡ 1023 ∷ 4294967295 ∷ []
shows_cut_borrow = unfold everything in refl

-- a condition reads what was stored: r0 := 4, of two bits; if r0 then r1 := 7 else r1 := 9
shows_cut_condition
    : after
    (one_state
    (1 ∷ [])
    (width_record 0 0 0 2 ∷ width_record 0 0 0 32 ∷ [])
    7
    (assigns 0 0 ∷ assigns 1 2 ∷ assigns 1 3 ∷ branches 1 2 3 ∷ goes_to 1 ∷ sequences 4 5 ∷ sequences 1 6 ∷ [])
    (constant 4 ∷ reads 0 ∷ constant 7 ∷ constant 9 ∷ []))
    (1 ∷ 0 ∷ [])
    ≡ 0 ∷ 9 ∷ []
shows_cut_condition = unfold everything in refl

-- "An assignment stores the value modulo": the value is cut, and none of the parts that it is computed from. r0, of one bit, becomes 6 = 4, and 6 = 6
shows_parts_not_cut
    : map
    (λ (v : ℕ). after (one_state (1 ∷ []) (width_record 0 0 0 1 ∷ []) 3 (assigns 0 2 ∷ goes_to 1 ∷ sequences 1 2 ∷ []) (constant 6 ∷ constant v ∷ equals 0 1 ∷ [])) (1 ∷ []))
    (4 ∷ 6 ∷ [])
    ≡ (0 ∷ []) ∷ (1 ∷ []) ∷ []
shows_parts_not_cut = unfold everything in refl

-- r0 of 10 bits, the port r1 of 1 bit, the port r2 of 32; state 1 goes to itself
abbrev narrow : List ℕ
narrow = one_state (1 ∷ []) (width_record 0 0 0 10 ∷ width_record 0 1 0 1 ∷ width_record 0 1 0 32 ∷ []) 1 (goes_to 1 ∷ []) []

-- an area with these in r0 and r1, and every bit of r2 set; the target of the root is 1
abbrev holding : ℕ → ℕ → ℕ → Lent
holding low high flag = lent (low ∷ high ∷ 0 ∷ 0 ∷ flag ∷ 0 ∷ 0 ∷ 0 ∷ replicate 4 255) (1 ∷ 1 ∷ [])

abbrev answered : Lent → Call → Numbers
answered area call = numbers_of (perform narrow area call).answer

-- "A register area holding a value too large is refusal 14": in a run, also of 0 cycles, and in a port write; 1023 and 1 fit
shows_contents_fit
    : map (answered (holding 255 3 1)) (runs 0 ∷ runs 1 ∷ writes 1 0 ∷ writes 2 7 ∷ resets ∷ [])
    ≡ accepted 0 ∷ accepted 1 ∷ accepted 0 ∷ accepted 0 ∷ accepted 0 ∷ []
shows_contents_fit = unfold everything in refl

-- 1024 in r0: "at the lowest register", and before 13 and 17; a reset judges lengths only
shows_contents_too_large
    : map (answered (holding 0 4 1)) (runs 0 ∷ runs 1 ∷ writes 1 0 ∷ writes 1 2 ∷ writes 0 0 ∷ writes 3 0 ∷ resets ∷ [])
    ≡ refused 14 0 ∷ refused 14 0 ∷ refused 14 0 ∷ refused 14 0 ∷ refused 14 0 ∷ refused 14 0 ∷ accepted 0 ∷ []
shows_contents_too_large = unfold everything in refl

-- 2 in r1, also where it is the register to be written; 1024 in r0 comes before it
shows_lowest_content
    : map (answered (holding 255 3 2)) (runs 1 ∷ writes 1 0 ∷ writes 2 0 ∷ []) ++ map (answered (holding 0 4 2)) (runs 1 ∷ writes 1 0 ∷ [])
    ≡ refused 14 1 ∷ refused 14 1 ∷ refused 14 1 ∷ refused 14 0 ∷ refused 14 0 ∷ []
shows_lowest_content = unfold everything in refl

-- "A register area holding a value too large": in its last register too, here r0
shows_last_content
    : map
    (λ (high : ℕ). numbers_of (perform (cut_to 10 0) (lent (0 ∷ high ∷ 0 ∷ 0 ∷ []) (1 ∷ 1 ∷ [])) (runs 1)).answer)
    (3 ∷ 4 ∷ [])
    ≡ accepted 1 ∷ refused 14 0 ∷ []
shows_last_content = unfold everything in refl

-- each byte of a value counts: the third and the fourth too
shows_content_bytes
    : map
    (λ (bytes : List ℕ). answered (lent (bytes ++ replicate 8 0) (1 ∷ 1 ∷ [])) (runs 1))
    ((255 ∷ 3 ∷ 0 ∷ 0 ∷ []) ∷ (0 ∷ 0 ∷ 1 ∷ 0 ∷ []) ∷ (0 ∷ 0 ∷ 0 ∷ 1 ∷ []) ∷ [])
    ≡ accepted 1 ∷ refused 14 0 ∷ refused 14 0 ∷ []
shows_content_bytes = unfold everything in refl

-- "No lent byte changes."
shows_contents_left
    : map (λ call. told (perform narrow (holding 0 4 2) call)) (runs 1 ∷ writes 1 0 ∷ [])
    ≡ (refused 14 0, holding 0 4 2) ∷ (refused 14 0, holding 0 4 2) ∷ []
shows_contents_left = unfold everything in refl

-- 01: "a wrong length comes first, .. then any fault that a request adds in the registers' contents, .. then an unsound target": r1 and the root's target,
-- with a byte more and without
shows_contents_before_targets
    : map
    (λ (targets : List ℕ). answered (lent_bound (255 ∷ 3 ∷ 0 ∷ 0 ∷ 2 ∷ 0 ∷ 0 ∷ 0 ∷ replicate 4 255) targets (replicate 4 0)) (runs 1))
    ((0 ∷ 1 ∷ []) ∷ (1 ∷ 0 ∷ []) ∷ (0 ∷ 1 ∷ 1 ∷ []) ∷ [])
    ≡ refused 14 1 ∷ refused 14 1 ∷ refused 14 0 ∷ []
shows_contents_before_targets = unfold everything in refl

-- 01: "The lowest number that applies comes first": 14 before 15
shows_contents_before_15 : run_answer narrow (holding 0 4 1) 1000001 ≡ Refused Area 0
shows_contents_before_15 = unfold everything in refl

-- "a wrong length comes first": before the contents, in a port write too, and before 17
shows_length_before_contents
    : map (answered (lent (0 ∷ 0 ∷ 0 ∷ 0 ∷ 2 ∷ 0 ∷ 0 ∷ 0 ∷ []) (1 ∷ 1 ∷ []))) (runs 1 ∷ writes 1 0 ∷ writes 1 2 ∷ [])
    ≡ refused 14 0 ∷ refused 14 0 ∷ refused 14 0 ∷ []
shows_length_before_contents = unfold everything in refl

-- "It refuses with 17 a port value too large for its port": 1 and 2 for r1; all 32 bits and one more for r2; the place is the register
shows_port_value
    : map (answered (holding 0 0 0)) (writes 1 0 ∷ writes 1 1 ∷ writes 1 2 ∷ writes 1 3 ∷ writes 2 4294967295 ∷ writes 2 4294967296 ∷ [])
    ≡ accepted 0 ∷ accepted 0 ∷ refused 17 1 ∷ refused 17 1 ∷ accepted 0 ∷ refused 17 2 ∷ []
shows_port_value = unfold everything in refl

-- "after 13": r0 is inner and r3 is none
shows_13_before_17 : map (answered (holding 0 0 0)) (writes 0 1024 ∷ writes 3 4294967295 ∷ []) ≡ refused 13 0 ∷ refused 13 3 ∷ []
shows_13_before_17 = unfold everything in refl

shows_17_left : told (perform narrow (holding 1 0 1) (writes 1 2)) ≡ (refused 17 1, holding 1 0 1)
shows_17_left = unfold everything in refl

-- 01: "Every call makes the image checks .. first": r0, of one bit and of kind 2, holds 2, and 2 is written to it
shows_image_before_contents
    : map
    (λ call. numbers_of (perform (one_state (1 ∷ []) (width_record 0 2 0 1 ∷ []) 1 (goes_to 1 ∷ []) []) (lent (2 ∷ 0 ∷ 0 ∷ 0 ∷ []) (1 ∷ 1 ∷ [])) call).answer)
    (runs 1 ∷ writes 0 2 ∷ [])
    ≡ refused 3 0 ∷ refused 3 0 ∷ []
shows_image_before_contents = unfold everything in refl

-- "registers set freely stay within their widths": they are given the largest values that fit, and none that is larger
abbrev largest : ℕ → ℕ
largest zero = 1023
largest (suc zero) = 1
largest (suc (suc r)) = 4294967295

largest_within : (r : ℕ) → r < length (design_of narrow).registers → largest r < 2 ^ (register_at (design_of narrow) r).width
unfolding checks
largest_within zero l = omega arith
largest_within (suc zero) l = omega arith
largest_within (suc (suc zero)) l = omega arith
largest_within (suc (suc (suc r))) l = absurd (omega arith)

shows_given_largest : Beginning (design_of narrow)
shows_given_largest =
    record {
      lent = holding 0 0 0;
      lengths = record { registers = unfold everything in refl; targets = unfold everything in refl };
      given = largest;
      within = largest_within;
    }

shows_given_fits : (begins : Beginning (design_of narrow)) → begins.given 0 < 1024
shows_given_fits begins = unfold checks in begins.within 0 (omega arith)
