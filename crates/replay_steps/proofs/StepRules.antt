-- The step on a record, and the end. A value that fits its port leaves sound areas sound, and is a value of 32 bits, so its word is read back as it was put.
use Rattle.std.specs.Prelude.{Err}
use Prim.Native.Nat.{ℕ, ◌+◌, ◌*◌, ◌^◌, ◌≤◌, ◌<◌}
use mathlib.Core.Path.{◌≡◌, sym, ◌∙◌, ap}
use mathlib.Core.List.{List}
use native.Mathlib.Omega.{arith}
use native.Mathlib.Nat.{lt_of_lt_of_le}
use lib.ListN.{length, set}
use lib.Pow.{pow_mono}
use Rattle.model.specs.declared.RefusedAt.{RefusedAt}
use Rattle.model.specs.Answers.{Answer, Accepted}
use Rattle.model.specs.Image.{AreBytes, design_of}
use Rattle.model.specs.Values.{words_of}
use Rattle.model.specs.Machine.{after_cycles}
use Rattle.model.specs.Calls.{Lent, leaves, areas_of, lent_of, left_as}
use Rattle.model.proofs.Exact.Records.{register_iff}
use Rattle.model.proofs.Independence.Widths.{set_fitting}
use Rattle.design.specs.Words.{put_word}
use Rattle.design.specs.Resets.{lends}
use Rattle.design.proofs.Laws.{registers_count}
use Rattle.design.proofs.WordRules.{words_put, length-put}
use Rattle.machine.specs.Cycles.{Running, areas_in}
use Rattle.running.proofs.RunningRules.{bytes_left}
use Rattle.replay_steps.specs.declared.preparing.Prepared.{Prepared}
use Rattle.replay_steps.specs.declared.judging.Judging.{Judging}
use Rattle.replay_steps.specs.Judging.{answer_of}
use Rattle.replay_steps.specs.Replaying.{stepped, Stepping, Finishing}

-- ---- a step, behind its cycles
module _ {image : List ℕ} {p : Prepared} {registers₀ targets₀ registers targets : List ℕ} {done c r v : ℕ} (s : Stepping image p registers₀ targets₀ done c r v) (running : Running image p.design p.tables.defaults p.tables.scopes registers targets) where
  pub step_inside : 4 * r + 4 ≤ length registers
  step_inside =
      let count = registers_count running.known.describes in
      let area = running.area in
      let port = s.port in
      omega arith

  value_small : v < 2 ^ 32
  value_small = lt_of_lt_of_le s.fits (pow_mono ((register_iff (design_of image) r).0 (running.known.registers.kept r s.port)).width_most)

  abbrev words : List ℕ → List ℕ
  words = words_of (length (design_of image).registers)

  module _ {after : List ℕ} (put : after ≡ put_word registers r v) where
    words_stepped : words after ≡ set (words registers) r v
    words_stepped =
        let count = registers_count running.known.describes in
        let area = running.area in
        ap words put ∙ words_put registers s.port (omega arith) value_small

    pub step_areas : (k : ℕ) → areas_in (design_of image) registers targets ≡ after_cycles (design_of image) k (areas_in (design_of image) registers₀ targets₀)
        → areas_in (design_of image) after targets ≡ stepped (design_of image) k r v (areas_in (design_of image) registers₀ targets₀)
    unfolding stepped
    step_areas k ran = rw (words_stepped, ← ran)

    pub step_running : Running image p.design p.tables.defaults p.tables.scopes after targets
    step_running =
        record {
          known = running.known;
          keeps = running.keeps;
          defaults = running.defaults;
          scopes = running.scopes;
          area = ap (λ (bytes : List ℕ). length bytes) put ∙ length-put registers r v ∙ running.area;
          states = running.states;
          fitting = rw words_stepped (set_fitting (design_of image).registers (words registers) r v s.fits running.fitting);
          sound = running.sound;
          bound = running.bound;
        }

pub ruleset step_laws = (step_inside, step_areas, step_running)

-- ---- the end
module _ (p : Prepared) (s : Judging) {a : Answer} (told : a ≡ answer_of p s) where
  pub finish_refuses : {why : RefusedAt} → a ≡ Err why → (registers targets : List ℕ) (made : Lent) → left_as (Err why) (lends registers targets) ≡ leaves (answer_of p s) (lends registers targets) made
  finish_refuses e registers targets made = rw (← told, e)

  module _ {k : ℕ} (accepts : a ≡ Accepted k) where
    pub finish_earlier : {image registers targets : List ℕ} {done : ℕ} → Finishing image p s registers targets done → done ≤ p.count
    finish_earlier f = f.earlier k (sym told ∙ accepts)

    pub finish_running : {image registers targets : List ℕ} {done : ℕ} → Finishing image p s registers targets done → Running image p.design p.tables.defaults p.tables.scopes registers targets
    finish_running f = f.running k (sym told ∙ accepts)

    pub finish_makes : {image : List ℕ} (registers targets registers₀ targets₀ : List ℕ) (n : ℕ) → AreBytes registers → Running image p.design p.tables.defaults p.tables.scopes registers targets
        → areas_in (design_of image) registers targets ≡ after_cycles (design_of image) n (areas_in (design_of image) registers₀ targets₀)
        → left_as (Accepted k) (lends registers targets) ≡ leaves (answer_of p s) (lends registers₀ targets₀) (lent_of (after_cycles (design_of image) n (areas_of (design_of image) (lends registers₀ targets₀))))
    unfolding areas_of
    finish_makes registers targets registers₀ targets₀ n bytes running ran =
        rw (← told, accepts) (ap (λ (lent : Lent). record { answer = Accepted k; lent = lent }) (bytes_left registers targets bytes running ran))

pub ruleset finish_laws = (finish_refuses, finish_earlier, finish_running, finish_makes)
