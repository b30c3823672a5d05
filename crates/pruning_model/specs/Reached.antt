-- 02, E11: "Reached states are the root, the default child of a reached state that holds a fall, and the siblings named by a reached state's gotos." By the bodies as written,
-- also in branches that no value takes.
use Rattle.std.specs.Prelude.{ℕ, zero, suc, ◌<◌, Bool, false, ◌&&◌, ◌||◌, List, [], ◌∷◌, ◌++◌, eqb, length, get_or}
use Rattle.model.specs.Indices.{some_below, tabulate}
use Rattle.model.specs.Image.{Design}
use Rattle.model.specs.States.{default_target}
use Rattle.model.specs.Trees.{Expr, Cmd, skip, assign, sequence, fall, goto, branch, body_of}
use Rattle.model.specs.Rules.{HoldsFall, DefaultChild}

-- ---- what it is to be reached
-- a goto to t stands somewhere in the command
pub data HoldsGoto (t : ℕ) : Cmd → Type 0 where
  itself : {n a b : ℕ} → HoldsGoto t (goto n t a b)
  in_first : {n : ℕ} {p q : Cmd} → HoldsGoto t p → HoldsGoto t (sequence n p q)
  in_second : {n : ℕ} {p q : Cmd} → HoldsGoto t q → HoldsGoto t (sequence n p q)
  in_then : {n : ℕ} {e : Expr} {p q : Cmd} → HoldsGoto t p → HoldsGoto t (branch n e p q)
  in_else : {n : ℕ} {e : Expr} {p q : Cmd} → HoldsGoto t q → HoldsGoto t (branch n e p q)

-- the least set of states with these three
pub data Reached (d : Design) : ℕ → Type 0 where
  root : Reached d 0
  fallen : {s q : ℕ} → Reached d s → s < length d.states → HoldsFall (body_of d s) → DefaultChild d s q → Reached d q
  gone : {s t : ℕ} → Reached d s → s < length d.states → HoldsGoto t (body_of d s) → Reached d t

-- ---- how it is computed
-- some entry of a list is n
unfoldable pub among : ℕ → List ℕ → Bool
among n [] = false
among n (x ∷ xs) = eqb x n || among n xs

-- the states that a command leads to: a fall to the child that is given, and a goto to the state it names
unfoldable pub leads_to : ℕ → Cmd → List ℕ
leads_to child (skip n) = []
leads_to child (assign n r e) = []
leads_to child (sequence n p q) = leads_to child p ++ leads_to child q
leads_to child (fall n) = child ∷ []
leads_to child (goto n t a b) = t ∷ []
leads_to child (branch n e p q) = leads_to child p ++ leads_to child q

module _ (d : Design) where
  -- the states that the body of s leads to: a fall to its default child
  unfoldable pub successors : ℕ → List ℕ
  successors s = leads_to (default_target d s) (body_of d s)

  -- one round: the states that are marked, and those that a marked state leads to
  unfoldable pub spread : List Bool → List Bool
  spread marks =
      tabulate
      (λ t. get_or marks t false || some_below (λ s. get_or marks s false && among t (successors s)) (length d.states))
      (length d.states)

  -- n rounds, from the root
  unfoldable pub rounds : ℕ → List Bool
  rounds zero = tabulate (λ s. eqb s 0) (length d.states)
  rounds (suc n) = spread (rounds n)

  -- Rounds until nothing new is marked: a round that marks anything marks a state, and there are no more states.
  unfoldable pub reached : ℕ → Bool
  reached s = get_or (rounds (length d.states)) s false
