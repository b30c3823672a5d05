-- The loops of the orders: after s steps the table begins with the first s pieces, one behind the other; they fit because all pieces together are as many as there are nodes.
use Prim.Native.Nat.{ℕ, zero, suc, ◌+◌, ◌≤◌, ◌<◌}
use mathlib.Core.Path.{◌≡◌, refl, sym, ◌∙◌, ap}
use mathlib.Core.Logic.{⊎_elim}
use mathlib.Core.List.{List, [], ◌∷◌, ◌++◌, append-nil, append_assoc}
use native.Mathlib.Omega.{arith}
use native.Mathlib.Numerals.{add-one}
use lib.ListN.{length, get_or, take, drop, length-append}
use lib.Seq.{take_at}
use Rattle.model.specs.Indices.{join_below, join_each}
use Rattle.model.specs.Image.{Design, design_of, state_at}
use Rattle.model.specs.Nodes.{parts_of}
use Rattle.model.proofs.Laws.Indices.{below_suc}
use Rattle.design.specs.declared.Design.{Design as Described}
use Rattle.design.specs.Records.{state_in}
use Rattle.design.specs.RecordsAt.{CommandAt}
use Rattle.design.specs.Kept.{Structured}
use Rattle.design.proofs.Laws.{states_count, commands_count, expressions_count}
use Rattle.design.proofs.FieldRules.{body_is, body_below, command_at_lem}
use Rattle.encoding.specs.Parts.{overwritten_at}
use Rattle.filing_model.specs.Filed.{parts_first, command_order, value_order, expression_order}
use Rattle.filing_model.proofs.Places.{entry_stands}
use Rattle.filing_model.proofs.Orders.{command_below, commands_long, expressions_long}
use Rattle.filing_steps.specs.Tables.{Ordered}
use Rattle.filing_steps.specs.Ordering.{PutFrom, OrderingCommand}
use Rattle.filing_steps.proofs.OrderingRules.{put_none, put_long, put_both}

-- ---- pieces one behind the other
module _ (piece : ℕ → List ℕ) where
  join_next : (s : ℕ) → join_below piece (s + 1) ≡ join_below piece s ++ piece s
  unfolding join_below
  join_next s = rw (add-one s)

  join_front : (n : ℕ) → join_below piece (suc n) ≡ piece 0 ++ join_below (λ i. piece (suc i)) n
  unfolding join_below
  join_front zero = sym (append-nil (piece 0))
  join_front (suc n) = ap (λ (xs : List ℕ). xs ++ piece (suc n)) (join_front n) ∙ append_assoc (piece 0) (join_below (λ i. piece (suc i)) n) (piece (suc n))

  -- the first pieces are no longer than all of them
  join_fits : (s n : ℕ) → s < n → length (join_below piece s) + length (piece s) ≤ length (join_below piece n)
  unfolding join_below
  join_fits s zero l = absurd (omega arith)
  join_fits s (suc n) l =
      let long = length-append (join_below piece n) (piece n) in
      ⊎_elim
      (λ (b : s < n). let fewer = join_fits s n b in omega arith)
      (λ (e : s ≡ n). rw e (omega arith))
      (below_suc l)

-- the pieces of a list's entries
each_below : (f : ℕ → List ℕ) (xs : List ℕ) → join_below (λ i. f (get_or xs i 0)) (length xs) ≡ join_each f xs
unfolding join_below join_each
each_below f [] = refl
each_below f (x ∷ xs) = join_front (λ i. f (get_or (x ∷ xs) i 0)) (length xs) ∙ ap (λ (ys : List ℕ). f x ++ ys) (each_below f xs)

-- ---- what is known after s steps
pub record PutBelow (piece : ℕ → List ℕ) (count : ℕ) (before : List ℕ) (s k : ℕ) (now : List ℕ) : Type 0 where
  pub so : PutFrom (join_below piece s) 0 before k now
  pub most : s ≤ count
  pub room : length (join_below piece count) ≤ length before
  pub long : length now ≡ length before

module _ {piece : ℕ → List ℕ} {count s k : ℕ} {before now : List ℕ} (put : PutBelow piece count before s k now) where
  below_room : s < count → k + length (piece s) ≤ length now
  below_room l = omega (arith, join_fits piece s count l, put.so.moved, put.room, put.long)

  below_next : {next : ℕ} {after : List ℕ} → s < count → PutFrom (piece s) k now next after → PutBelow piece count before (s + 1) next after
  below_next {next} {after} l p =
      let front : 0 + length (join_below piece s) ≤ length before = omega (arith, join_fits piece s count l, put.room) in
      record {
        so = rw (join_next piece s) (put_both put.so p front);
        most = omega arith;
        room = put.room;
        long = put_long p (below_room l) ∙ put.long;
      }

  below_done : count ≤ s → Ordered (join_below piece count) now
  unfolding overwritten_at
  below_done l =
      let most = put.most in
      let all : s ≡ count = omega arith in
      let room = put.room in
      let long = put.long in
      record {
        long = omega arith;
        begins =
            ap (take (length (join_below piece count))) (put.so.put ∙ ap (λ (i : ℕ). overwritten_at 0 (join_below piece i) before) all)
            ∙ take_at (join_below piece count) (drop (0 + length (join_below piece count)) before) (length (join_below piece count)) refl;
      }

  below_whole : count ≤ s → now ≡ overwritten_at 0 (join_below piece count) before
  below_whole l = let most = put.most in let all : s ≡ count = omega arith in put.so.put ∙ ap (λ (i : ℕ). overwritten_at 0 (join_below piece i) before) all

below_begins : (piece : ℕ → List ℕ) (count : ℕ) (before : List ℕ) → length (join_below piece count) ≤ length before → PutBelow piece count before 0 0 before
unfolding join_below
below_begins piece count before room = record { so = put_none before 0; most = omega arith; room = room; long = refl }

-- ---- the commands, state by state
abbrev pub body_piece : Design → ℕ → List ℕ
body_piece d s = parts_first (parts_of d) (state_at d s).command

pub record BodiesPut (image : List ℕ) (x : Described) (before : List ℕ) (s k : ℕ) (now : List ℕ) : Type 0 where
  pub put : PutBelow (body_piece (design_of image)) x.states before s k now

module _ {image : List ℕ} {x : Described} (here : Structured image x) where
  bodies_are : join_below (body_piece (design_of image)) x.states ≡ command_order (design_of image)
  unfolding command_order
  bodies_are = ap (join_below (body_piece (design_of image))) (states_count here.records.describes)

  pub bodies_begin : {before : List ℕ} → x.commands ≤ length before → BodiesPut image x before 0 0 before
  bodies_begin {before} room =
      let count = commands_count here.records.describes in
      let long = ap length bodies_are ∙ commands_long (design_of image) here.structure in
      record { put = below_begins (body_piece (design_of image)) x.states before (omega arith) }

  module _ {before now : List ℕ} {s k : ℕ} (put : BodiesPut image x before s k now) where
    module _ {n : ℕ} (l : s < x.states) (e : n ≡ (state_in image x.states_at s).command) where
      body_piece_lem : parts_first (parts_of (design_of image)) n ≡ body_piece (design_of image) s
      body_piece_lem = ap (λ (m : ℕ). parts_first (parts_of (design_of image)) m) (body_is here.records.describes l e)

      pub body_ordering : OrderingCommand image x n now k
      body_ordering =
          record {
            commands = here.records.commands;
            command = command_at_lem here.records.describes here.records.commands (body_below here.records.describes l e here.records.states) refl;
            room = rw body_piece_lem (below_room put.put l);
          }

      pub bodies_next : {next : ℕ} {after : List ℕ} → PutFrom (parts_first (parts_of (design_of image)) n) k now next after → BodiesPut image x before (s + 1) next after
      bodies_next p = record { put = below_next put.put l (rw body_piece_lem at p) }

    pub bodies_done : x.states ≤ s → Ordered (command_order (design_of image)) now
    bodies_done l = rw bodies_are at (below_done put.put l)

    pub bodies_whole : x.states ≤ s → now ≡ overwritten_at 0 (command_order (design_of image)) before
    bodies_whole l = rw bodies_are at (below_whole put.put l)

-- ---- the expressions, command by command in the commands' new order
abbrev pub value_piece : Design → ℕ → List ℕ
value_piece d i = value_order d (get_or (command_order d) i 0)

pub record ValuesPut (image : List ℕ) (x : Described) (before : List ℕ) (i k : ℕ) (now : List ℕ) : Type 0 where
  pub put : PutBelow (value_piece (design_of image)) x.commands before i k now

module _ {image : List ℕ} {x : Described} (here : Structured image x) where
  order_long : length (command_order (design_of image)) ≡ x.commands
  order_long = commands_long (design_of image) here.structure ∙ sym (commands_count here.records.describes)

  values_are : join_below (value_piece (design_of image)) x.commands ≡ expression_order (design_of image)
  unfolding expression_order
  values_are = ap (join_below (value_piece (design_of image))) (sym order_long) ∙ each_below (value_order (design_of image)) (command_order (design_of image))

  pub values_begin : {before : List ℕ} → x.expressions ≤ length before → ValuesPut image x before 0 0 before
  values_begin {before} room =
      let count = expressions_count here.records.describes in
      let long = ap length values_are ∙ expressions_long (design_of image) here.structure in
      record { put = below_begins (value_piece (design_of image)) x.commands before (omega arith) }

  -- the table of commands begins with their order
  module _ {commands : List ℕ} (told : Ordered (command_order (design_of image)) commands) where
    commands_are : take x.commands commands ≡ command_order (design_of image)
    commands_are = ap (λ (m : ℕ). take m commands) (sym order_long) ∙ told.begins

    pub commands_begin : x.commands ≡ length (take x.commands commands)
    commands_begin = sym (ap length commands_are ∙ order_long)

  module _ {commands : List ℕ} (told : Ordered (command_order (design_of image)) commands) {i : ℕ} (l : i < length (take x.commands commands)) where
    i_below : i < x.commands
    i_below = let long = commands_begin told in omega arith

    module _ {n : ℕ} (e : n ≡ get_or (take x.commands commands) i 0) where
      entry_is : n ≡ get_or (command_order (design_of image)) i 0
      entry_is = e ∙ ap (λ (xs : List ℕ). get_or xs i 0) (commands_are told)

      pub entry_command : CommandAt image x x.commands_at n
      entry_command =
          let below : n < length (design_of image).commands =
          rw entry_is (command_below (design_of image) here.structure (get_or (command_order (design_of image)) i 0) (entry_stands (command_order (design_of image)) i (omega (arith, order_long, i_below)))) in
          let count = commands_count here.records.describes in
          command_at_lem here.records.describes here.records.commands (omega arith) refl

      module _ {before now : List ℕ} {k : ℕ} (put : ValuesPut image x before i k now) where
        pub value_room : k + length (value_order (design_of image) n) ≤ length now
        value_room = rw entry_is (below_room put.put i_below)

        pub values_next : {next : ℕ} {after : List ℕ} → PutFrom (value_order (design_of image) n) k now next after → ValuesPut image x before (i + 1) next after
        values_next p = record { put = below_next put.put i_below (rw entry_is at p) }

  pub values_done : {before now : List ℕ} {i k : ℕ} → ValuesPut image x before i k now → x.commands ≤ i → Ordered (expression_order (design_of image)) now
  values_done put l = rw values_are at (below_done put.put l)

  pub values_whole : {before now : List ℕ} {i k : ℕ} → ValuesPut image x before i k now → x.commands ≤ i → now ≡ overwritten_at 0 (expression_order (design_of image)) before
  values_whole put l = rw values_are at (below_whole put.put l)
