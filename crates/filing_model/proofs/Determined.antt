-- The filed design is determined by the design apart from node numbers: its nodes are the trees of the bodies written out, which looks at no number, and a state's command is where
-- its body ends.
use Prim.Native.Nat.{ℕ, suc, ◌≤◌, ◌<◌}
use mathlib.Core.Path.{◌≡◌, sym, ◌∙◌, ap, ap₂}
use mathlib.Core.List.{List, map}
use native.Mathlib.Omega.{arith}
use lib.ListN.{length, get_or, length-map, get_or-map}
use lib.Seq.{ext_get_or}
use Rattle.model.specs.Image.{State, Design, no_state, state_at}
use Rattle.model.specs.Trees.{Cmd, body_of}
use Rattle.model.specs.Neighbours.{unnumbered, without_command}
use Rattle.model.specs.Rules.{StructureKeeps}
use Rattle.model.proofs.Laws.Indices.{get_d_tabulate, get_or-written}
use Rattle.encoding.specs.Encodable.{Encodable}
use Rattle.renumbering.specs.Renumbering.{renumbered_state}
use Rattle.filing_model.specs.Filed.{expression_order, state_filed, filed}
use Rattle.filing_model.specs.Same.{Unnumbered, unnumbered_design}
use Rattle.filing_model.proofs.Trees.{Nodes, latest, bodies_written, bodies_alike}
use Rattle.filing_model.proofs.Listed.{nodes_listed, state_place}

-- a state record with another command
abbrev with_command : State → ℕ → State
with_command x n =
    record {
      parent = x.parent;
      label = x.label;
      command = n;
      parameters = x.parameters;
      first_lower = x.first_lower;
      first_upper = x.first_upper;
      second_lower = x.second_lower;
      second_upper = x.second_upper;
    }

-- ---- one design: its records as they are filed
module _ (d : Design) (keeps : StructureKeeps d) (fits : Encodable d) where
  commands_are : (filed d).commands ≡ (bodies_written (body_of d) (length d.states)).commands
  unfolding filed
  commands_are = ap (λ (nodes : Nodes). nodes.commands) (nodes_listed d keeps fits)

  expressions_are : (filed d).expressions ≡ (bodies_written (body_of d) (length d.states)).values
  unfolding filed expression_order
  expressions_are = ap (λ (nodes : Nodes). nodes.values) (nodes_listed d keeps fits)

  state_is : (s : ℕ) → s < length d.states → state_at (filed d) s ≡ with_command (without_command (state_at d s)) (latest (bodies_written (body_of d) (suc s)).commands)
  unfolding filed renumbered_state
  state_is s l = get_or-written (state_filed d) d.states s no_state no_state l ∙ ap (with_command (without_command (state_at d s))) (state_place d keeps fits s l)

-- ---- two designs that are equal apart from node numbers
module _ (d d' : Design) (keeps : StructureKeeps d) (keeps' : StructureKeeps d') (fits : Encodable d) (fits' : Encodable d') (same : unnumbered_design d ≡ unnumbered_design d') where
  states_alike : map without_command d.states ≡ map without_command d'.states
  unfolding unnumbered_design
  states_alike = ap (λ (x : Unnumbered). x.states) same

  counts_alike : length d.states ≡ length d'.states
  counts_alike = sym (length-map d.states without_command) ∙ ap length states_alike ∙ length-map d'.states without_command

  state_alike : (s : ℕ) → without_command (state_at d s) ≡ without_command (state_at d' s)
  state_alike s =
      sym (get_or-map without_command d.states s no_state)
      ∙ ap (λ (xs : List State). get_or xs s no_state) states_alike
      ∙ get_or-map without_command d'.states s no_state

  body_alike : (s : ℕ) → s < length d.states → unnumbered (body_of d s) ≡ unnumbered (body_of d' s)
  unfolding unnumbered_design
  body_alike s l =
      let any : Cmd = body_of d s in
      sym (get_d_tabulate (λ k. unnumbered (body_of d k)) (length d.states) s any l)
      ∙ ap (λ (x : Unnumbered). get_or x.bodies s any) same
      ∙ get_d_tabulate (λ k. unnumbered (body_of d' k)) (length d'.states) s any (rw counts_alike at l)

  written_alike : (n : ℕ) → n ≤ length d.states → bodies_written (body_of d) n ≡ bodies_written (body_of d') n
  written_alike n l = bodies_alike (body_of d) (body_of d') n (λ s b. body_alike s (omega arith))

  all_alike : bodies_written (body_of d) (length d.states) ≡ bodies_written (body_of d') (length d'.states)
  all_alike = written_alike (length d.states) (omega arith) ∙ ap (bodies_written (body_of d')) counts_alike

  filed_counts : length (filed d).states ≡ length (filed d').states
  unfolding filed
  filed_counts = length-map d.states (state_filed d) ∙ counts_alike ∙ sym (length-map d'.states (state_filed d'))

  filed_state : (s : ℕ) → s < length d.states → state_at (filed d) s ≡ state_at (filed d') s
  filed_state s l =
      state_is d keeps fits s l
      ∙ ap₂ with_command (state_alike s) (ap (λ (nodes : Nodes). latest nodes.commands) (written_alike (suc s) l))
      ∙ sym (state_is d' keeps' fits' s (rw counts_alike at l))

  filed_states : (filed d).states ≡ (filed d').states
  unfolding filed
  filed_states = ext_get_or no_state (filed d).states (filed d').states filed_counts (λ s l. filed_state s (rw (length-map d.states (state_filed d)) at l))

  filed_commands : (filed d).commands ≡ (filed d').commands
  filed_commands = commands_are d keeps fits ∙ ap (λ (nodes : Nodes). nodes.commands) all_alike ∙ sym (commands_are d' keeps' fits')

  filed_expressions : (filed d).expressions ≡ (filed d').expressions
  filed_expressions = expressions_are d keeps fits ∙ ap (λ (nodes : Nodes). nodes.values) all_alike ∙ sym (expressions_are d' keeps' fits')

  filed_rows : (filed d).rows ≡ (filed d').rows
  unfolding filed unnumbered_design
  filed_rows = ap (λ (x : Unnumbered). x.rows) same

  filed_registers : (filed d).registers ≡ (filed d').registers
  unfolding filed unnumbered_design
  filed_registers = ap (λ (x : Unnumbered). x.registers) same

  pub filed_determined : filed d ≡ filed d'
  filed_determined = λ i. record { rows = filed_rows i; registers = filed_registers i; states = filed_states i; commands = filed_commands i; expressions = filed_expressions i }
