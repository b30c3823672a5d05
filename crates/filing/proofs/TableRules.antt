-- An order that has every node once is all that a table of so many entries begins with, so that new numbers had from the table are the places in the order.
use Prim.Native.Nat.{ℕ, ◌≤◌, ◌<◌}
use mathlib.Core.Path.{◌≡◌, refl, sym, ◌∙◌, ap}
use mathlib.Core.List.{List}
use native.Mathlib.Omega.{arith}
use lib.ListN.{length, take}
use Rattle.model.specs.Limits.{commands_max, expressions_max}
use Rattle.model.specs.Image.{design_of}
use Rattle.model.specs.Rules.{Keeps}
use Rattle.design.specs.declared.Design.{Design as Described}
use Rattle.design.specs.Describes.{Describes}
use Rattle.design.specs.Kept.{Structured}
use Rattle.design.proofs.Laws.{commands_count, expressions_count, commands_most, expressions_most}
use Rattle.checker.proofs.Accepted.{accepted_known}
use Rattle.encoding.specs.Parts.{overwritten_at}
use Rattle.filing_model.specs.Filed.{command_order, expression_order}
use Rattle.filing_model.proofs.Counts.{Enumerates, enumerated_long}
use Rattle.filing_model.proofs.Orders.{commands_enumerated, expressions_enumerated}
use Rattle.filing_steps.specs.declared.tables.Orders.{Orders}
use Rattle.filing_steps.specs.Tables.{EachBelow, Ordered, with_places, Numbered, with_form, FormTables}

-- ---- an accepted image
pub read_keeps : {image read : List ℕ} → Keeps image → read ≡ image → Keeps read
read_keeps keeps same = rw same keeps

pub accepted_filing : {image read : List ℕ} {x : Described} → Keeps image → read ≡ image → Describes read x → Structured read x
accepted_filing keeps same describes =
    let kept = read_keeps keeps same in
    record { records = accepted_known kept describes; structure = kept.design.structure }

-- ---- a table that begins with an order of so many numbers
module _ {order table : List ℕ} {count : ℕ} (all : Enumerates order count) (ordered : Ordered order table) where
  taken : take count table ≡ order
  taken = ap (λ (n : ℕ). take n table) (sym (enumerated_long all)) ∙ ordered.begins

  reached : count ≤ length table
  reached = omega (arith, ordered.long, enumerated_long all)

  taken_below : {room : ℕ} → count ≤ room → EachBelow room (take count table)
  taken_below {room} l = rw taken (record { below = λ n h. let low = all.below n h in omega arith })

module _ {image : List ℕ} {x : Described} (here : Structured image x) where
  describes : Describes image x
  describes = here.records.describes

  commands_all : Enumerates (command_order (design_of image)) x.commands
  commands_all = rw (commands_count describes) (commands_enumerated (design_of image) here.structure)

  expressions_all : Enumerates (expression_order (design_of image)) x.expressions
  expressions_all = rw (expressions_count describes) (expressions_enumerated (design_of image) here.structure)

  pub commands_small : x.commands < 65536
  commands_small = omega (arith, commands_most describes)

  pub expressions_small : x.expressions < 65536
  expressions_small = omega (arith, expressions_most describes)

  pub commands_reached : {table : List ℕ} → Ordered (command_order (design_of image)) table → x.commands ≤ length table
  commands_reached ordered = reached commands_all ordered

  pub expressions_reached : {table : List ℕ} → Ordered (expression_order (design_of image)) table → x.expressions ≤ length table
  expressions_reached ordered = reached expressions_all ordered

  pub commands_below : {table : List ℕ} {room : ℕ} → Ordered (command_order (design_of image)) table → x.commands ≤ room → EachBelow room (take x.commands table)
  commands_below ordered l = taken_below commands_all ordered l

  pub expressions_below : {table : List ℕ} {room : ℕ} → Ordered (expression_order (design_of image)) table → x.expressions ≤ room → EachBelow room (take x.expressions table)
  expressions_below ordered l = taken_below expressions_all ordered l

  -- and where there is room for the most
  pub commands_below_most : {table : List ℕ} {room : ℕ} → Ordered (command_order (design_of image)) table → commands_max ≤ room → EachBelow room (take x.commands table)
  commands_below_most ordered l = commands_below ordered (omega (arith, commands_most describes))

  pub expressions_below_most : {table : List ℕ} {room : ℕ} → Ordered (expression_order (design_of image)) table → expressions_max ≤ room → EachBelow room (take x.expressions table)
  expressions_below_most ordered l = expressions_below ordered (omega (arith, expressions_most describes))

  pub form_tables : {commands command_numbers expressions expression_numbers : List ℕ}
      → Ordered (command_order (design_of image)) commands
      → Numbered (take x.commands commands) command_numbers
      → Ordered (expression_order (design_of image)) expressions
      → Numbered (take x.expressions expressions) expression_numbers
      → FormTables (design_of image) commands command_numbers expressions expression_numbers
  form_tables commands_ordered commands_numbered expressions_ordered expressions_numbered =
      record {
        commands_ordered = commands_ordered;
        commands_numbered = rw (taken commands_all commands_ordered) at commands_numbered;
        expressions_ordered = expressions_ordered;
        expressions_numbered = rw (taken expressions_all expressions_ordered) at expressions_numbered;
      }

  pub form_filled :
      (before : Orders) {after : Orders}
      → after.commands ≡ overwritten_at 0 (command_order (design_of image)) before.commands
      → Ordered (command_order (design_of image)) after.commands
      → after.command_numbers ≡ with_places 0 (take x.commands after.commands) before.command_numbers
      → after.expressions ≡ overwritten_at 0 (expression_order (design_of image)) before.expressions
      → Ordered (expression_order (design_of image)) after.expressions
      → after.expression_numbers ≡ with_places 0 (take x.expressions after.expressions) before.expression_numbers
      → after ≡ with_form (design_of image) before
  unfolding with_form
  form_filled before {after} a b c e f g =
      let numbered : after.command_numbers ≡ with_places 0 (command_order (design_of image)) before.command_numbers = c ∙ ap (λ (xs : List ℕ). with_places 0 xs before.command_numbers) (taken commands_all b) in
      let numbered-too : after.expression_numbers ≡ with_places 0 (expression_order (design_of image)) before.expression_numbers = g ∙ ap (λ (xs : List ℕ). with_places 0 xs before.expression_numbers) (taken expressions_all f) in
      rw (← a, ← numbered, ← e, ← numbered-too) refl
