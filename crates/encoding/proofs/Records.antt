-- The bytes of a record are those of its fields, each at the place where the record is read from: so a record is read as it was written, and written as it was read.
use Prim.Native.Nat.{ℕ, ◌≤◌}
use mathlib.Core.Path.{◌≡◌, refl, sym, ◌∙◌}
use mathlib.Core.List.{List, ◌++◌}
use native.Mathlib.Omega.{arith}
use lib.ListN.{length, take}
use Rattle.model.specs.Limits.{label_length, register_length, state_length, node_length}
use Rattle.model.specs.Image.{byte_at, AreBytes, row_of, register_of, state_of, node_of}
use Rattle.model.proofs.Laws.Words.{word16_bounded}
use Rattle.encoding.specs.Encoding.{word16_bytes, word32_bytes, row_bytes, register_bytes, state_bytes, node_bytes}
use Rattle.encoding.specs.Encodable.{RowFits, RegisterFits, StateFits, NodeFits}
use Rattle.encoding.proofs.Fields.{Bytes, none, one_more, bytes_joined, first_bytes, word16_bytes_lem, word16_read, field_written, word32_bytes_lem, word32_read, word32_written}

-- what holds of each kind of record
pub record Encodes {A : Type 0} (read : List ℕ → A) (bytes : A → List ℕ) (width : ℕ) (Fits : A → Type 0) : Type 0 where
  pub sized : (x : A) → length (bytes x) ≡ width
  pub in_bytes : (x : A) → Fits x → Bytes (bytes x)
  pub reads : (x : A) → Fits x → (rest : List ℕ) → read (bytes x ++ rest) ≡ x
  pub fits : (l : List ℕ) → AreBytes l → Fits (read l)
  pub writes : (l : List ℕ) → AreBytes l → width ≤ length l → bytes (read l) ≡ take width l

pub row_encodes : Encodes row_of row_bytes label_length RowFits
unfolding word16_bytes
row_encodes =
    record {
      sized = λ x. refl;
      in_bytes = λ x h. word16_bytes_lem x;
      reads = λ x h rest. word16_read x h;
      fits = λ l h. word16_bounded l h 0;
      writes = λ l h long. field_written l h 0 ∙ sym (first_bytes label_length l long);
    }

register_written : (l : List ℕ) → AreBytes l → register_length ≤ length l → register_bytes (register_of l) ≡ take register_length l
unfolding register_bytes
register_written l h long =
    rw (first_bytes register_length l long, word32_written (byte_at l 2) (byte_at l 3) (byte_at l 4) (byte_at l 5) (h 2) (h 3) (h 4) (h 5))

pub register_encodes : Encodes register_of register_bytes register_length RegisterFits
unfolding register_bytes word32_bytes word16_bytes
register_encodes =
    record {
      sized = λ x. refl;
      in_bytes = λ x h. one_more h.label (one_more h.kind (bytes_joined (word32_bytes_lem x.reset) (one_more h.width none)));
      reads = λ x h rest. rw (word32_read x.reset h.reset);
      fits = λ l h. record { label = h 0; kind = h 1; reset = omega (arith, word16_bounded l h 2, word16_bounded l h 4); width = h 6 };
      writes = register_written;
    }

state_written_lem : (l : List ℕ) → AreBytes l → state_length ≤ length l → state_bytes (state_of l) ≡ take state_length l
unfolding state_bytes
state_written_lem l h long = rw (first_bytes state_length l long, field_written l h 2)

pub state_encodes : Encodes state_of state_bytes state_length StateFits
unfolding state_bytes word16_bytes
state_encodes =
    record {
      sized = λ x. refl;
      in_bytes = λ x h.
          bytes_joined
          (one_more h.parent (one_more h.label (word16_bytes_lem x.command)))
          (one_more h.parameters (one_more h.first_lower (one_more h.first_upper (one_more h.second_lower (one_more h.second_upper none)))));
      reads = λ x h rest. rw (word16_read x.command h.command);
      fits = λ l h.
          record {
            parent = h 0;
            label = h 1;
            command = word16_bounded l h 2;
            parameters = h 4;
            first_lower = h 5;
            first_upper = h 6;
            second_lower = h 7;
            second_upper = h 8;
          };
      writes = state_written_lem;
    }

node_written : (l : List ℕ) → AreBytes l → node_length ≤ length l → node_bytes (node_of l) ≡ take node_length l
unfolding node_bytes
node_written l h long = rw (first_bytes node_length l long, field_written l h 2, field_written l h 4, field_written l h 6)

pub node_encodes : Encodes node_of node_bytes node_length NodeFits
unfolding node_bytes word16_bytes
node_encodes =
    record {
      sized = λ x. refl;
      in_bytes = λ x h. bytes_joined (bytes_joined (one_more h.kind (one_more h.item (word16_bytes_lem x.a))) (word16_bytes_lem x.b)) (word16_bytes_lem x.c);
      reads = λ x h rest. rw (word16_read x.a h.a, word16_read x.b h.b, word16_read x.c h.c);
      fits = λ l h. record { kind = h 0; item = h 1; a = word16_bounded l h 2; b = word16_bounded l h 4; c = word16_bounded l h 6 };
      writes = node_written;
    }
