-- A run leaves every port as it was: no assignment of a body names one and no parameter is bound to one (refusal 16), so each command leaves its value, each cycle and each run; and the
-- bytes of a register are those of its value.
use Rattle.std.specs.Prelude.{Err}
use Prim.Native.Nat.{ℕ, zero, suc, ◌*◌, ◌+◌, ◌<◌}
use mathlib.Core.Path.{◌≡◌, refl, sym, ◌∙◌, ap}
use mathlib.Core.Logic.{◌⊎◌, inl, inr}
use mathlib.Core.List.{List, [], ◌∷◌}
use lib.ListN.{length, get_or}
use lib.Seq.{get_or-set_other}
use Rattle.model.specs.declared.Ending.TheVariants.{Goto, Fall}
use Rattle.model.specs.declared.Outcome.{Outcome}
use Rattle.model.specs.declared.Outcome.TheVariants.{Continued, Transferred}
use Rattle.model.specs.Answers.{Answer, Accepted}
use Rattle.model.specs.Limits.{word_length}
use Rattle.model.specs.Image.{Design, AreBytes, byte_at, register_at, design_of}
use Rattle.model.specs.Trees.{Cmd, skip, assign, sequence, fall, goto, branch, body_of}
use Rattle.model.specs.Bindings.{body_with}
use Rattle.model.specs.Values.{words_of, bytes_of}
use Rattle.model.specs.Machine.{exec, Areas, Cycle, after_body, run_from, cycle, after_cycles}
use Rattle.model.specs.Calls.{Lent, areas_of, lent_of, run_answer, run}
use Rattle.model.specs.Ports.{PortsKept}
use Rattle.model.proofs.Laws.Spares.{body_spares}
use Rattle.model.proofs.Laws.Words.{value_bytes, bytes_of_words}
use Rattle.model.proofs.Laws.Commands.{sequence_all, branch_all}
use Rattle.model.proofs.Laws.Cycles.{after_none, after_first}
use Rattle.model.proofs.Exact.{verdict_exact}
use Rattle.model.proofs.Grouping.{Ready, Refuses, ready_or_refuses, ready_good}
use Rattle.model.proofs.Independence.Relation.{Good}
use Rattle.model.proofs.Independence.Instances.{AcceptedDesign, WritesNoPort, writes_no_port}
use Rattle.model.proofs.Independence.Path.{ran, left_by, target, Live, left_good, left_live, live_sound, target_live, root_live, run_good}
use Rattle.model.proofs.Independence.Theorem.{rooted, accepted_design}

module _ (d : Design) (keeps : AcceptedDesign d) (r : ℕ) (port : (register_at d r).kind ≡ 1) where
  -- ---- commands, cycles: the value of a port stays
  exec_keeps : (values : List ℕ) (c : Cmd) → WritesNoPort d c → get_or (exec d.registers values c).registers r 0 ≡ get_or values r 0
  unfolding exec
  exec_keeps values (skip n) spares = refl
  exec_keeps values (assign n w e) spares = get_or-set_other values w r _ 0 (λ same. spares (rw (← same) port))
  exec_keeps values (sequence n p q) spares =
      let first = exec_keeps values p spares.0 in
      sequence_all d.registers (λ x. get_or x.registers r 0 ≡ get_or values r 0) values n p q first (exec_keeps (exec d.registers values p).registers q spares.1 ∙ first)
  exec_keeps values (fall n) spares = refl
  exec_keeps values (goto n t x y) spares = refl
  exec_keeps values (branch n e p q) spares =
      branch_all d.registers (λ x. get_or x.registers r 0 ≡ get_or values r 0) values n e p q (exec_keeps values p spares.0) (exec_keeps values q spares.1)

  -- the body of a state on the path leaves it
  body_keeps : (s : ℕ) (a : Areas) → Good d a → Live d a s → get_or (ran d s a).registers r 0 ≡ get_or a.registers r 0
  unfolding body_with
  body_keeps s a good live =
      exec_keeps a.registers (body_with d a.bindings s) (writes_no_port d keeps a.bindings s live.state (live_sound d keeps a good s live) (body_of d s) (keeps.structure.scoped s live.state) (body_spares d keeps.structure s))

  -- the cycle ends with what the body left, or with what the fall left
  after_body_keeps : (o : Outcome) (s v : ℕ) (left : Areas) (fell : Cycle) → get_or left.registers r 0 ≡ v → get_or fell.after.registers r 0 ≡ v
      → get_or (after_body d o s left fell).after.registers r 0 ≡ v
  unfolding after_body
  after_body_keeps Continued s v left fell own below = own
  after_body_keeps (Transferred (Goto t x y)) s v left fell own below = own
  after_body_keeps (Transferred Fall) s v left fell own below = below

  run_from_keeps : (bodies s : ℕ) (a : Areas) → Good d a → Live d a s → get_or (run_from d bodies s a).after.registers r 0 ≡ get_or a.registers r 0
  unfolding run_from
  run_from_keeps zero s a good live = refl
  run_from_keeps (suc bodies) s a good live =
      let own = body_keeps s a good live in
      let below = run_from_keeps bodies (target a s) (left_by d s a) (left_good d keeps s a good) (left_live d keeps s (target a s) a (target_live d keeps a good s live)) in
      after_body_keeps (ran d s a).outcome s _ (left_by d s a) _ own (below ∙ own)

  after_keeps : (n : ℕ) (a : Areas) → 0 < length d.states → Good d a → get_or (after_cycles d n a).registers r 0 ≡ get_or a.registers r 0
  unfolding cycle
  after_keeps zero a some good = rw (after_none d a)
  after_keeps (suc n) a some good =
      let live = root_live d keeps a some in
      rw (after_first d n a) (after_keeps n (cycle d a).after some (run_good d keeps (length d.states) 0 a live good) ∙ run_from_keeps (length d.states) 0 a good live)

-- ---- runs
module _ (image : List ℕ) (lent : Lent) (bytes : AreBytes lent.registers) where
  cycles_keep_ports : Ready image lent → (n : ℕ) → PortsKept (design_of image) lent.registers (bytes_of (after_cycles (design_of image) n (areas_of (design_of image) lent)).registers)
  unfolding areas_of
  cycles_keep_ports ready n r port k l =
      let d = design_of image in
      let words = words_of (length d.registers) lent.registers in
      let keeps = (verdict_exact image).0 ready.accepted in
      let same = after_keeps d (accepted_design image keeps) r port n (areas_of d lent) (rooted image keeps.directory) (ready_good image lent ready) in
      value_bytes (after_cycles d n (areas_of d lent)).registers r k l
      ∙ ap (λ (v : ℕ). byte_at (bytes_of (v ∷ [])) k) same
      ∙ sym (value_bytes words r k l)
      ∙ ap (λ (area : List ℕ). byte_at area (word_length * r + k)) (bytes_of_words (length d.registers) lent.registers bytes ready.lengths.registers)

  pub run_keeps_ports : (n : ℕ) → PortsKept (design_of image) lent.registers (run image lent n).lent.registers
  unfolding run lent_of
  run_keeps_ports n = go (ready_or_refuses image lent) (run_answer image lent n) refl
    where
      go : Ready image lent ⊎ Refuses image lent → (a : Answer) → run_answer image lent n ≡ a → PortsKept (design_of image) lent.registers (run image lent n).lent.registers
      go (inl ready) (Accepted count) e = rw e (cycles_keep_ports ready n)
      go (inl ready) (Err why) e = rw e (λ r port k l. refl)
      go (inr refuses) a e = rw (refuses.refused n) (λ r port k l. refl)
