-- The loop of the program: i cycles from reset have run, on areas of the lengths that they came with.
use Prim.Native.Nat.{ℕ, ◌+◌, ◌≤◌}
use mathlib.Core.Path.{◌≡◌}
use mathlib.Core.List.{List}
use lib.ListN.{length}
use Rattle.design.specs.declared.Design.{Design}
use Rattle.listing.specs.Lines.{RunningAt}

pub record ListSo (image : List ℕ) (x : Design) (table in_scope : List ℕ) (count : ℕ) (registers₀ targets₀ : List ℕ) (i : ℕ) (registers targets : List ℕ) (handed : ℕ) : Type 0 where
  pub most : i ≤ count
  pub registers_long : length registers ≡ length registers₀
  pub targets_long : length targets ≡ length targets₀
  pub at : RunningAt image x table in_scope registers targets i
  pub counted : handed ≡ i + 1
