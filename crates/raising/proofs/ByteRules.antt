-- A copy byte by byte is the whole, and labels put one by one are those put all together: what is still to be put follows what has been.
use Prim.Native.Nat.{ℕ, ◌+◌, ◌*◌, ◌≤◌, ◌<◌}
use mathlib.Core.Path.{◌≡◌, refl, ◌∙◌, ap}
use mathlib.Core.List.{List, ◌∷◌}
use native.Mathlib.Omega.{arith}
use native.Mathlib.Numerals.{add-one}
use lib.ListN.{length, get_or, drop, set, length-set, drop_of_length-le}
use lib.Seq.{ext_get_or, drop-cons}
use Rattle.model.specs.Limits.{register_length}
use Rattle.model.specs.Raising.{put_labels}
use Rattle.design.specs.Resets.{Filled}

-- a copy
pub copied : {from old now : List ℕ} {i : ℕ} → Filled (λ k. get_or from k 0) old i now → length old ≡ length from → length from ≤ i → now ≡ from
copied {from} {old} {now} {i} so e l = let same = so.long in ext_get_or 0 now from (omega arith) (λ k b. so.done k (omega arith))

-- the first r labels have been put: with the others the whole comes out
pub record PutSo (place : ℕ) (labels old : List ℕ) (r : ℕ) (now : List ℕ) : Type 0 where
  pub long : length now ≡ length old
  pub others : put_labels (place + register_length * r) (drop r labels) now ≡ put_labels place labels old

module _ {place : ℕ} {labels old : List ℕ} where
  pub put_none : PutSo place labels old 0 old
  put_none = record { long = refl; others = let here : place + register_length * 0 ≡ place = omega arith in rw here refl }

  pub put_more : {r label : ℕ} {now after : List ℕ} → after ≡ set now (place + register_length * r) label → PutSo place labels old r now → r < length labels → label ≡ get_or labels r 0 → PutSo place labels old (r + 1) after
  unfolding put_labels
  put_more {r} {label} {now} e so l f =
      let at = place + register_length * r in
      let further : place + register_length * (r + 1) ≡ at + register_length = omega arith in
      let next : drop r labels ≡ label ∷ drop (r + 1) labels = rw (add-one, drop-cons labels r 0 l, f) in
      record {
        long = ap length e ∙ length-set now at label ∙ so.long;
        others = rw (e, further) (rw next at so.others);
      }

  pub put_all : {r : ℕ} {now : List ℕ} → PutSo place labels old r now → length labels ≤ r → now ≡ put_labels place labels old
  unfolding put_labels
  put_all {r} so l = rw (drop_of_length-le labels {i = r} l) at so.others

-- where a label goes is inside the image
pub put_inside : {place r : ℕ} {labels old now : List ℕ} → PutSo place labels old r now → place + register_length * length labels ≤ length old → r < length labels → place + register_length * r + register_length ≤ length now
put_inside so e l = let same = so.long in omega arith

pub ruleset put_laws = (put_none, put_more, put_all, put_inside)
