-- Reset has a value for each register. So many cycles (`after_cycles` of `specs/Machine.antt`): the first runs from the areas given, and the others from what
-- it leaves. So n cycles and then m are n + m.
use Prim.Native.Nat.{ℕ, zero, suc, ◌+◌}
use mathlib.Core.Path.{◌≡◌, refl}
use native.Mathlib.Omega.{arith}
use lib.ListN.{length, length-map}
use Rattle.model.specs.Image.{Design, Register}
use Rattle.model.specs.Machine.{Areas, reset_areas, cycle, cycles, after_last, after_cycles}

pub reset_length : (d : Design) → length (reset_areas d).registers ≡ length d.registers
unfolding reset_areas
reset_length d = length-map d.registers (λ (r : Register). r.reset)

pub after_first : (d : Design) (n : ℕ) (areas : Areas) → after_cycles d (suc n) areas ≡ after_cycles d n (cycle d areas).after
unfolding after_cycles cycles after_last
after_first d n areas = refl

pub after_none : (d : Design) (areas : Areas) → after_cycles d 0 areas ≡ areas
unfolding after_cycles cycles after_last
after_none d areas = refl

pub after_sum : (d : Design) (n m : ℕ) (areas : Areas) → after_cycles d m (after_cycles d n areas) ≡ after_cycles d (n + m) areas
after_sum d zero m areas = let none : 0 + m ≡ m = omega arith in rw (none, after_none d areas)
after_sum d (suc n) m areas =
    let more : suc n + m ≡ suc (n + m) = omega arith in
    rw (more, after_first d n areas, after_first d (n + m) areas) (after_sum d n m (cycle d areas).after)
