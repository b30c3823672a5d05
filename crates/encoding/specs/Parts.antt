-- Parts of areas: bytes written over a part of others.
use Rattle.std.specs.Prelude.{ℕ, ◌+◌, List, ◌++◌, length, take, drop}

-- bytes with others written over them from a place on
unfoldable pub overwritten_at : ℕ → List ℕ → List ℕ → List ℕ
overwritten_at at part bytes = take at bytes ++ part ++ drop (at + length part) bytes

-- bytes over the beginning of an area: what is beyond them keeps its values
unfoldable pub over : List ℕ → List ℕ → List ℕ
over bytes out = bytes ++ drop (length bytes) out
