-- A part of an area: so many bytes from a place on.
use Rattle.std.specs.Prelude.{ℕ, List, take, drop}

unfoldable pub part_of : ℕ → ℕ → List ℕ → List ℕ
part_of at size bytes = take size (drop at bytes)
