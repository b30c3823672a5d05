-- The fields of a node by number, as they stand in its record: a is 1, b is 2, and c is 3.
use Rattle.std.specs.Prelude.{ℕ, List, [], ◌∷◌, get_or}
use Rattle.model.specs.Image.{Node}

-- field f of a node
abbrev pub field_of : ℕ → Node → ℕ
field_of f x = get_or (x.c ∷ x.a ∷ x.b ∷ []) f x.c

-- a node whose parts are a and b, with their entries in a table for them
abbrev pub with_pair : List ℕ → Node → Node
with_pair numbers x = record { kind = x.kind; item = x.item; a = get_or numbers x.a 0; b = get_or numbers x.b 0; c = x.c }
