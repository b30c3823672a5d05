-- The listing of an accepted image is the header and, for each number below the count, the line behind those of so many cycles from reset.
use Prim.Native.Nat.{ℕ, zero, suc, ◌+◌, ◌≤◌}
use mathlib.Core.Path.{◌≡◌, refl, sym, ◌∙◌, ap}
use mathlib.Core.List.{List, [], ◌++◌, append_assoc, append-nil}
use native.Mathlib.Omega.{arith}
use lib.ListN.{length, drop}
use borrow.Author.Tests.{le-ltb}
use Rattle.model.specs.Answers.{Accepted}
use Rattle.model.specs.Indices.{join_below}
use Rattle.model.specs.Image.{Design as Table, design_of, word16_at}
use Rattle.model.specs.Verdict.{verdict}
use Rattle.model.specs.Machine.{Areas, reset_areas, cycle, cycles, after_last, after_cycles}
use Rattle.model.specs.Listing.{header, line, lines, listed, listing}
use Rattle.model.proofs.Laws.Cycles.{after_first}
use Rattle.listing.specs.Lines.{cycle_line}

module _ (d : Table) where
  -- one cycle more, behind the others
  pub after_more : (n : ℕ) (areas : Areas) → after_cycles d (suc n) areas ≡ (cycle d (after_cycles d n areas)).after
  unfolding after_cycles cycles after_last
  after_more zero areas = refl
  after_more (suc n) areas = after_more n (cycle d areas).after

  lines_first : (number n : ℕ) (areas : Areas) → lines number (cycles d (suc n) areas) ≡ line number (cycle d areas) ++ lines (suc number) (cycles d n (cycle d areas).after)
  unfolding cycles lines
  lines_first number n areas = refl

  lines_none : (number : ℕ) (areas : Areas) → lines number (cycles d 0 areas) ≡ []
  unfolding cycles lines
  lines_none number areas = refl

  after_none : (areas : Areas) → after_cycles d 0 areas ≡ areas
  unfolding after_cycles cycles after_last
  after_none areas = refl

  -- one line more, behind the others
  lines_more : (n number : ℕ) (areas : Areas) → lines number (cycles d (suc n) areas) ≡ lines number (cycles d n areas) ++ line (number + n) (cycle d (after_cycles d n areas))
  lines_more zero number areas =
      let same : number + 0 ≡ number = omega arith in
      lines_first number 0 areas
      ∙ ap (λ (rest : List ℕ). line number (cycle d areas) ++ rest) (lines_none (suc number) (cycle d areas).after)
      ∙ append-nil (line number (cycle d areas))
      ∙ sym (rw (lines_none number areas, after_none areas, same))
  lines_more (suc n) number areas =
      let first = cycle d areas in
      let same : suc number + n ≡ number + suc n = omega arith in
      lines_first number (suc n) areas
      ∙ ap (λ (rest : List ℕ). line number first ++ rest) (lines_more n (suc number) first.after)
      ∙ sym (append_assoc (line number first) (lines (suc number) (cycles d n first.after)) (line (suc number + n) (cycle d (after_cycles d n first.after))))
      ∙ ap (λ (before : List ℕ). before ++ line (suc number + n) (cycle d (after_cycles d n first.after))) (sym (lines_first number n areas))
      ∙ ap (λ (k : ℕ). lines number (cycles d (suc n) areas) ++ line k (cycle d (after_cycles d n first.after))) same
      ∙ ap (λ (after : Areas). lines number (cycles d (suc n) areas) ++ line (number + suc n) (cycle d after)) (sym (after_first d n areas))

  pub lines_joined : (n : ℕ) → lines 1 (cycles d n (reset_areas d)) ≡ join_below (cycle_line d) n
  unfolding join_below cycle_line
  lines_joined zero = lines_none 1 (reset_areas d)
  lines_joined (suc n) =
      let same : 1 + n ≡ n + 1 = omega arith in
      lines_more n 1 (reset_areas d)
      ∙ ap (λ (before : List ℕ). before ++ line (1 + n) (cycle d (after_cycles d n (reset_areas d)))) (lines_joined n)
      ∙ ap (λ (k : ℕ). join_below (cycle_line d) n ++ line k (cycle d (after_cycles d n (reset_areas d)))) same

pub accepted_listing : (input : List ℕ) {c : ℕ} → 2 ≤ length input → verdict (drop 2 input) ≡ Accepted c → listing input ≡ header ++ join_below (cycle_line (design_of (drop 2 input))) (word16_at input 0)
unfolding listing listed
accepted_listing input l e = rw (le-ltb (length input) 2 l, listing, e, lines_joined (design_of (drop 2 input)) (word16_at input 0))
