-- Room is judged on 64 bits, on which no sum wraps: a count and a run are below 2 to the power of 32, and a saved state has at most 448 bytes.
use Prim.Native.Nat.{ℕ, ◌+◌, ◌*◌, ◌^◌, ◌≤◌, ◌<◌}
use mathlib.Core.Path.{◌≡◌}
use mathlib.Core.Bool.{Bool, false}
use native.Mathlib.Omega.{arith}
use native.Mathlib.Nat.{mul-le-mul}
use borrow.Author.Tests.{lt-leb}
use mir.Syntax.{w32, w64}
use mir.Val.{Fits}
use Rattle.design.specs.declared.Design.{Design}
use Rattle.journal_model.specs.Journals.{has_room}

module _ {each saved : ℕ} (few : each ≤ 448) (small : saved < 2 ^ 33) where
  product_small : each * saved ≤ 448 * 2 ^ 33
  product_small = mul-le-mul {m₂ = 2 ^ 33} few (omega arith)

  pub product_fits : Fits w64 (each * saved)
  product_fits = let small = product_small in record { fits = omega arith }

  pub place_fits : Fits w64 (4 + each * saved)
  place_fits = let small = product_small in record { fits = omega arith }

-- the place of a saved state, by its number
module _ (x : Design) (saved : ℕ) {each : ℕ} (size : each ≡ 4 * x.registers + 3 * x.states) where
  module _ (registers : x.registers ≤ 64) (states : x.states ≤ 64) (number : Fits w32 saved) where
    pub saved_product_fits : Fits w64 (each * saved)
    saved_product_fits = let below = number.fits in product_fits (omega arith) (omega arith)

    pub saved_place_fits : Fits w64 (4 + each * saved)
    saved_place_fits = let below = number.fits in place_fits (omega arith) (omega arith)

  pub place_of : 4 + each * saved ≡ 4 + (4 * x.registers + 3 * x.states) * saved
  place_of = rw size

pub no_room : {bytes : ℕ} (each saved : ℕ) → bytes < 4 → false ≡ has_room each saved bytes
unfolding has_room
no_room {bytes} each saved l = rw (lt-leb 4 bytes l)

pub room_as : {each given counted read : ℕ} (cycles bytes : ℕ) {b : Bool} → b ≡ has_room given (read + cycles) bytes → given ≡ each → read ≡ counted → b ≡ has_room each (counted + cycles) bytes
room_as cycles bytes h e f = rw (← e, ← f) h
