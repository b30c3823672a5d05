-- 02, E8, 'States with parameters': what a state declares, what is in its scope, choices of labels, and refusal 19 as it judges a state by its record.
use Rattle.std.specs.Prelude.{ℕ, ◌+◌, ◌-◌, ◌*◌, ◌/◌, ◌%◌, Bool, true, ◌&&◌, ◌||◌, not, cond, List, [], ◌∷◌, ◌++◌, map, leb, ltb, eqb, length, get_or}
use Rattle.model.specs.Limits.{parameters_max, parameter_register, parameter_label, binding_length}
use Rattle.model.specs.Indices.{tabulate_from, join_below, some_below, recursively}
use Rattle.model.specs.Image.{Design, state_at}
use Rattle.model.specs.Lattice.{flows_to, register_label, state_label}
use Rattle.model.specs.States.{parent, is_child, default_target}

-- every entry of a list passes
module _ {A : Type 0} where
  unfoldable pub all_of : (A → Bool) → List A → Bool
  all_of test [] = true
  all_of test (x ∷ xs) = test x && all_of test xs

-- ---- parameters by number
-- Own parameter j of state s has the number 2 s + j. "two bytes per state, in state order, .. the first one first": the number is also the place of its binding.
module _ (d : Design) where
  unfoldable pub own_parameters : ℕ → List ℕ
  own_parameters s = tabulate_from (λ v. v) (binding_length * s) (state_at d s).parameters

  -- "At most two parameters are in scope along a line from the root, own ones last, numbered 0 and 1." Entry i is the parameter that is numbered i in state s.
  unfoldable pub scope_of : ℕ → List ℕ
  scope_of s = recursively [] (λ q above. above (parent d q) ++ own_parameters q) s

  -- "two pairs of lower and upper label"
  abbrev pub lower_bound : ℕ → ℕ
  lower_bound v = cond (eqb (v % binding_length) 0) (state_at d (v / binding_length)).first_lower (state_at d (v / binding_length)).second_lower

  abbrev pub upper_bound : ℕ → ℕ
  upper_bound v = cond (eqb (v % binding_length) 0) (state_at d (v / binding_length)).first_upper (state_at d (v / binding_length)).second_upper

  -- a label lies within the bounds of parameter v
  unfoldable pub within_bounds : ℕ → ℕ → Bool
  within_bounds v label = flows_to d.rows (lower_bound v) label && flows_to d.rows label (upper_bound v)

  -- an image "that has parameters"
  unfoldable pub has_parameters : Bool
  has_parameters = some_below (λ s. not (eqb (state_at d s).parameters 0)) (length d.states)

  -- ---- choices
  -- "each choice of labels within the bounds in scope": a choice has a label for each parameter in scope
  unfoldable pub choices : List ℕ → List (List ℕ)
  choices [] = [] ∷ []
  choices (v ∷ scope) = join_below (λ label. cond (within_bounds v label) (map (λ choice. label ∷ choice) (choices scope)) []) (length d.rows)

  -- a test passes for each choice in the scope of state s
  unfoldable pub every_choice : ℕ → (List ℕ → Bool) → Bool
  every_choice s test = all_of test (choices (scope_of s))

  -- "Register bytes 64 and 65 name them, and state label bytes 16 and 17 stand for their labels": the label byte of what a register byte names
  unfoldable pub label_byte : ℕ → ℕ
  label_byte r = cond (ltb r parameter_register) (register_label d r) (parameter_label + (r - parameter_register))

-- the label that a label byte stands for
unfoldable pub label_under : List ℕ → ℕ → ℕ
label_under choice byte = cond (ltb byte parameter_label) byte (get_or choice (byte - parameter_label) 0)

-- ---- how the checker decides it
-- "for each choice" is decided by bounds: that this is the same is the law `each_bounded` of proofs/Laws/Bounds.antt.
module _ (d : Design) (s : ℕ) where
  -- the least and the greatest label that a label byte stands for in state s
  unfoldable pub least_label : ℕ → ℕ
  least_label byte = cond (ltb byte parameter_label) byte (lower_bound d (get_or (scope_of d s) (byte - parameter_label) 0))

  unfoldable pub most_label : ℕ → ℕ
  most_label byte = cond (ltb byte parameter_label) byte (upper_bound d (get_or (scope_of d s) (byte - parameter_label) 0))

  -- the greatest of the one flows to the least of the other, or both bytes are one parameter's
  unfoldable pub bounded_flow : ℕ → ℕ → Bool
  bounded_flow from to = flows_to d.rows (most_label from) (least_label to) || (leb parameter_label from && eqb from to)

-- ---- refusal 19, at a state
module _ (d : Design) where
  -- "lower flowing to upper, zero when unused"
  unfoldable pub pair_kept : Bool → ℕ → ℕ → Bool
  pair_kept used lower upper =
      cond used (ltb lower (length d.rows) && ltb upper (length d.rows) && flows_to d.rows lower upper) (eqb lower 0 && eqb upper 0)

  unfoldable pub is_default_child : ℕ → Bool
  is_default_child s = is_child d (parent d s) s && eqb (default_target d (parent d s)) s

  -- "the root and default children take none"
  unfoldable pub takes_parameters : ℕ → Bool
  takes_parameters s = not (eqb s 0 || is_default_child s)

  -- the label byte stands for a label, or for a parameter in scope
  unfoldable pub label_in_scope : ℕ → Bool
  label_in_scope s = ltb (state_label d s) parameter_label || ltb (state_label d s - parameter_label) (length (scope_of d s))

  -- "It refuses with 19 .. a parameter count, bound, scope or argument that breaks these rules, at the lowest state, else the lowest node"
  unfoldable pub parameters_kept : ℕ → Bool
  parameters_kept s =
      leb (state_at d s).parameters parameters_max
      && (takes_parameters s || eqb (state_at d s).parameters 0)
      && leb (length (scope_of d s)) parameters_max
      && pair_kept (ltb 0 (state_at d s).parameters) (state_at d s).first_lower (state_at d s).first_upper
      && pair_kept (ltb 1 (state_at d s).parameters) (state_at d s).second_lower (state_at d s).second_upper
      && label_in_scope s
