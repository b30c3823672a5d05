-- What an acceptance by 13 and 17 says of the register.
use Prim.Native.Nat.{ℕ, ◌<◌}
use mathlib.Core.Path.{◌≡◌, sym, ◌∙◌}
use mathlib.Core.List.{List}
use native.Mathlib.Omega.{arith}
use native.Mathlib.Decide.{dec_lt}
use borrow.Author.Tests.{le-ltb}
use Rattle.model.specs.declared.Refusal.TheVariants.{NoPort}
use Rattle.model.specs.Answers.{Answer, Accepted}
use Rattle.model.proofs.Laws.Verdict.{refused_is_not_accepted}
use Rattle.replay_steps.specs.Judging.{port_at}

pub port_within : (largest : List ℕ) (i r v : ℕ) {a : Answer} {n : ℕ} → a ≡ port_at largest i r v → a ≡ Accepted n → r < 64
unfolding port_at
port_within largest i r v {a} {n} e h = go (dec_lt r 64)
  where
    go : Dec (r < 64) → r < 64
    go (yes l) = l
    go (no l) = absurd (refused_is_not_accepted NoPort i n (rw (le-ltb r 64 (omega arith)) at (sym e ∙ h)))
