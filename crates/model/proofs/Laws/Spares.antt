-- No body writes a port or binds one: no assignment names a port and no goto has one for an argument (refusal 16).
use Prim.Native.Nat.{ℕ, ◌<◌}
use mathlib.Core.Path.{◌≡◌, refl, sym, ◌∙◌, ap}
use native.Mathlib.Omega.{arith}
use native.Mathlib.Decide.{dec_lt}
use lib.ListN.{length, get_or-eq_default}
use Rattle.model.specs.Image.{Design, Node, register_at, state_at, command_at, no_node}
use Rattle.model.specs.Kinds.{CommandKind, skips, assigns, sequences, falls, goes, branches, unknown_command, command_kind}
use Rattle.model.specs.Trees.{Expr, Cmd, skip, assign, sequence, fall, goto, branch, cmd_of_kind, cmd_step, cmd_of, body_of}
use Rattle.model.specs.Rules.{NamesNoPort, StructureKeeps}
use Rattle.model.proofs.Laws.Indices.{recursively_all}
use Rattle.model.proofs.Laws.Kinds.{command_number, kind_skips}

module _ (d : Design) where
  -- no assignment in a command names a port, and no goto binds one
  abbrev pub SparesPorts : Cmd → Type 0
  SparesPorts (skip n) = Unit {0}
  SparesPorts (assign n r e) = (register_at d r).kind ≡ 1 → ⊥
  SparesPorts (sequence n p q) = SparesPorts p × SparesPorts q
  SparesPorts (fall n) = Unit {0}
  SparesPorts (goto n t a b) = (0 < (state_at d t).parameters → (register_at d a).kind ≡ 1 → ⊥) × (1 < (state_at d t).parameters → (register_at d b).kind ≡ 1 → ⊥)
  SparesPorts (branch n e p q) = SparesPorts p × SparesPorts q

  spares_kind : (kind : CommandKind) (n : ℕ) (x : Node) (e : Expr) (p q r : Cmd)
      → (kind ≡ assigns → (register_at d x.item).kind ≡ 1 → ⊥)
      → (kind ≡ goes → (0 < (state_at d x.item).parameters → (register_at d x.a).kind ≡ 1 → ⊥) × (1 < (state_at d x.item).parameters → (register_at d x.b).kind ≡ 1 → ⊥))
      → SparesPorts p → SparesPorts q → SparesPorts r
      → SparesPorts (cmd_of_kind kind n x e p q r)
  unfolding cmd_of_kind
  spares_kind skips n x e p q r own bound f g h = tt
  spares_kind assigns n x e p q r own bound f g h = own refl
  spares_kind sequences n x e p q r own bound f g h = (f, g)
  spares_kind falls n x e p q r own bound f g h = tt
  spares_kind goes n x e p q r own bound f g h = bound refl
  spares_kind branches n x e p q r own bound f g h = (g, h)
  spares_kind unknown_command n x e p q r own bound f g h = tt

  module _ (keeps : StructureKeeps d) where
    -- past the last command there is only the node of zeros, which skips
    every_command : (n : ℕ) → NamesNoPort d n
    every_command n = go (dec_lt n (length d.commands))
      where
        go : Dec (n < length d.commands) → NamesNoPort d n
        go (yes l) = keeps.ports n l
        go (no l) =
            let none : command_at d n ≡ no_node = get_or-eq_default d.commands no_node (omega arith) in
            let skipped : command_kind (command_at d n).kind ≡ skips = kind_skips (ap (λ (x : Node). x.kind) none) in
            record {
              assigned = λ is. let number = ap command_number (sym skipped ∙ is) in absurd (omega arith);
              first_argument = λ is. let number = ap command_number (sym skipped ∙ is) in absurd (omega arith);
              second_argument = λ is. let number = ap command_number (sym skipped ∙ is) in absurd (omega arith);
            }

    pub body_spares : (s : ℕ) → SparesPorts (body_of d s)
    unfolding body_of cmd_of cmd_step
    body_spares s =
        recursively_all
        (skip 0)
        (cmd_step d)
        SparesPorts
        tt
        (λ n below h. let x = command_at d n in
        let own = every_command n in
        spares_kind (command_kind x.kind) n x _ _ _ _ own.assigned (λ is. (own.first_argument is, own.second_argument is)) (h x.a) (h x.b) (h x.c))
        (state_at d s).command
