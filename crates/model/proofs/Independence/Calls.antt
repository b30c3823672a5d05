-- What each call leaves of areas that an accepted run may have: the image, the lengths and the contents are in order, so a reset is accepted, and a port
-- write and a run are judged by their own arguments alone. The bytes that an accepted call writes read back as the values it wrote.
use Prim.Native.Nat.{ℕ, ◌*◌, ◌<◌}
use mathlib.Core.Path.{◌≡◌, sym, ◌∙◌, ap}
use mathlib.Core.Bool.{true, false}
use mathlib.Core.List.{List}
use lib.Dec.{leb}
use lib.ListN.{length, get_or, set, length-set}
use lib.Seq.{take-append_seam, drop-append_seam}
use Rattle.model.specs.Bindings.{binding_sound}
use borrow.Author.Tests.{eq-eqb}
use Rattle.model.specs.declared.Refusal.TheVariants.{NoPort, CycleCount, PortValue}
use Rattle.model.specs.Answers.{Accepted, Refused}
use Rattle.model.specs.Limits.{value_count, word_length, cycles_max}
use Rattle.model.specs.Image.{Design, design_of}
use Rattle.model.specs.Verdict.{verdict, refused_at, ◌before◌}
use Rattle.model.specs.Rules.{StructureKeeps}
use Rattle.model.specs.Values.{fits, words_of, bytes_of}
use Rattle.model.specs.Machine.{Areas, reset_areas, after_cycles, target_sound}
use Rattle.model.specs.Calls.{Lent, register_area_answer, length_answer, content_kept, contents_answer, targets_in, bindings_in, targets_answer, bindings_answer, is_writable, port_answer, value_answer, areas_of, lent_of, cycles_answer, reset_answer, reset, run_answer, run, write_port_answer, write_port}
use Rattle.model.specs.Parties.{perform, writes, runs, RightLengths}
use Rattle.model.proofs.Laws.Indices.{failing_nowhere}
use Rattle.model.proofs.Laws.Words.{length-bytes_of, words_of_bytes_bounded}
use Rattle.model.proofs.Independence.Relation.{Good}
use Rattle.model.proofs.Independence.Widths.{fitting_bounded}

-- ---- bytes and values
module _ (d : Design) (keeps : StructureKeeps d) where
  -- the areas that a call writes are read back
  pub areas_of_lent : (areas : Areas) → Good d areas → areas_of d (lent_of areas) ≡ areas
  unfolding areas_of lent_of
  areas_of_lent areas good =
      rw (
        ← good.registers_length,
        words_of_bytes_bounded areas.registers (fitting_bounded d keeps areas.registers good.fitting),
        ← good.targets_length,
        take-append_seam areas.targets areas.bindings,
        drop-append_seam areas.targets areas.bindings,
      )

  pub length-lent : (areas : Areas) → Good d areas → length (lent_of areas).registers ≡ word_length * length d.registers
  unfolding lent_of
  length-lent areas good = rw (length-bytes_of, good.registers_length)

-- a word that a port write puts among words, all of 32 bits, is read back with them
pub words_of_written : (words : List ℕ) (n r v : ℕ) → length words ≡ n → ((s : ℕ) → get_or (set words r v) s 0 < value_count)
    → words_of n (bytes_of (set words r v)) ≡ set words r v
words_of_written words n r v e bounded =
    ap (λ (m : ℕ). words_of m (bytes_of (set words r v))) (sym e ∙ sym (length-set words r v)) ∙ words_of_bytes_bounded (set words r v) bounded

-- the bytes that an accepted port write leaves
abbrev pub written : Design → Lent → ℕ → ℕ → Lent
written d lent r v = record { registers = bytes_of (set (words_of (length d.registers) lent.registers) r v); targets = lent.targets }

-- ---- what the calls leave
module _ (image : List ℕ) (accepted : verdict image ≡ Accepted 0) (lent : Lent) where
  module _ (lengths : RightLengths (design_of image) lent) where
    length-accepted : length_answer (design_of image) lent ≡ Accepted 0
    unfolding length_answer refused_at
    length-accepted = rw (eq-eqb _ _ lengths.registers, eq-eqb _ _ lengths.targets)

    reset_accepted : reset_answer image lent ≡ Accepted 0
    unfolding reset_answer ◌before◌
    reset_accepted = rw (accepted, length-accepted)

    pub reset_leaves : reset image lent ≡ record { answer = Accepted 0; lent = lent_of (reset_areas (design_of image)) }
    unfolding reset
    reset_leaves = rw reset_accepted

    -- the contents, where every value is within its width
    module _ (contents : (r : ℕ) → r < length (design_of image).registers → content_kept (design_of image) lent.registers r ≡ true) where
      contents_accepted : contents_answer (design_of image) lent.registers ≡ Accepted 0
      unfolding contents_answer refused_at
      contents_accepted = rw (failing_nowhere (content_kept (design_of image) lent.registers) (length (design_of image).registers) contents)

      -- a port write is judged by its register and its value
      write_answer : (r v : ℕ) → write_port_answer image lent.registers r v ≡ (port_answer (design_of image) r before value_answer (design_of image) r v)
      unfolding write_port_answer register_area_answer refused_at ◌before◌
      write_answer r v = rw (accepted, eq-eqb _ _ lengths.registers, contents_accepted)

      pub write_refused : (r v : ℕ) → is_writable (design_of image) r ≡ false
          → perform image lent (writes r v) ≡ record { answer = Refused NoPort r; lent = lent }
      unfolding perform write_port port_answer refused_at ◌before◌
      write_refused r v e = rw (write_answer r v, e)

      pub write_too_large : (r v : ℕ) → is_writable (design_of image) r ≡ true → fits (design_of image).registers r v ≡ false
          → perform image lent (writes r v) ≡ record { answer = Refused PortValue r; lent = lent }
      unfolding perform write_port port_answer value_answer refused_at ◌before◌
      write_too_large r v e l = rw (write_answer r v, e, l)

      pub write_accepted : (r v : ℕ) → is_writable (design_of image) r ≡ true → fits (design_of image).registers r v ≡ true
          → perform image lent (writes r v) ≡ record { answer = Accepted 0; lent = written (design_of image) lent r v }
      unfolding perform write_port port_answer value_answer refused_at ◌before◌
      write_accepted r v e l = rw (write_answer r v, e, l)

      -- a run is judged by its count, where the targets and the bindings are sound
      module _
          (sound : (s : ℕ) → s < length (design_of image).states → target_sound (design_of image) (targets_in (design_of image) lent.targets) s ≡ true)
          (bound : (s : ℕ) → s < length (design_of image).states → binding_sound (design_of image) (targets_in (design_of image) lent.targets) (bindings_in (design_of image) lent.targets) s ≡ true)
        where
          targets_accepted : targets_answer (design_of image) lent ≡ Accepted 0
          unfolding targets_answer refused_at
          targets_accepted = rw (failing_nowhere (target_sound (design_of image) (targets_in (design_of image) lent.targets)) (length (design_of image).states) sound)

          bindings_accepted : bindings_answer (design_of image) lent ≡ Accepted 0
          unfolding bindings_answer refused_at
          bindings_accepted = rw (failing_nowhere (binding_sound (design_of image) (targets_in (design_of image) lent.targets) (bindings_in (design_of image) lent.targets)) (length (design_of image).states) bound)

          run_answer_lem : (n : ℕ) → run_answer image lent n ≡ (cycles_answer n before Accepted n)
          unfolding run_answer ◌before◌
          run_answer_lem n = rw (accepted, length-accepted, contents_accepted, targets_accepted, bindings_accepted)

          pub run_refused : (n : ℕ) → leb n cycles_max ≡ false
              → perform image lent (runs n) ≡ record { answer = Refused CycleCount 0; lent = lent }
          unfolding perform run cycles_answer refused_at ◌before◌
          run_refused n e = rw (run_answer_lem n, e)

          pub run_accepted : (n : ℕ) → leb n cycles_max ≡ true
              → perform image lent (runs n)
              ≡ record { answer = Accepted n; lent = lent_of (after_cycles (design_of image) n (areas_of (design_of image) lent)) }
          unfolding perform run cycles_answer refused_at ◌before◌
          run_accepted n e = rw (run_answer_lem n, e)
