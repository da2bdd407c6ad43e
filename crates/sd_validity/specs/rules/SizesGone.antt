-- Rule 8: no size symbol is left, and every extent is a constant.
use Rattle.std.specs.Prelude.{ℕ, nat_lt, List, Bool, true, not, ◌&&◌}
use Rattle.std.specs.List.{list_all}
use Rattle.sd_range.specs.declared.affine.Affine.{Affine}
use Rattle.sd_graph.specs.PlainTree.{ValueTree, literal, variable, local, input, one, two, choice, ValueTrees, no_value, and_value, ActTree, set_local, assign, branch, ActTrees, no_act, and_act, TaskletTree, GraphTree}
use Rattle.sd_graph.specs.TreeParts.{containers_of}
use Rattle.sd_valid.specs.BoundCode.{names_symbol}
use Rattle.sd_validity.specs.rules.GraphParts.{symbols_in}
use Rattle.sd_validity.specs.rules.Places.{Thing, whole, leaving, doing, Place}
use Rattle.sd_validity.specs.rules.Parts.{is_empty, Tests, is_thing_passed}

-- an expression has no size symbol, which are the first variables
abbrev pub is_free : (symbols : ℕ) → Affine → Bool
is_free symbols a = list_all (λ term. not (nat_lt term.0 symbols)) a.terms

-- nor has code
abbrev mutual
  pub is_value_free : (symbols : ℕ) → (variables : List ℕ) → ValueTree → Bool
  is_value_free symbols variables (literal number) = true
  is_value_free symbols variables (variable place) = not (names_symbol symbols variables place)
  is_value_free symbols variables (local number) = true
  is_value_free symbols variables (input connector at) = are_values_free symbols variables at
  is_value_free symbols variables (one sign of) = is_value_free symbols variables of
  is_value_free symbols variables (two sign left right) = is_value_free symbols variables left && is_value_free symbols variables right
  is_value_free symbols variables (choice value when other) =
      is_value_free symbols variables value && (is_value_free symbols variables when && is_value_free symbols variables other)

  pub are_values_free : (symbols : ℕ) → (variables : List ℕ) → ValueTrees → Bool
  are_values_free symbols variables no_value = true
  are_values_free symbols variables (and_value first rest) = is_value_free symbols variables first && are_values_free symbols variables rest

abbrev mutual
  pub is_act_free : (symbols : ℕ) → (variables : List ℕ) → ActTree → Bool
  is_act_free symbols variables (set_local number value) = is_value_free symbols variables value
  is_act_free symbols variables (assign connector at value) = are_values_free symbols variables at && is_value_free symbols variables value
  is_act_free symbols variables (branch when body other) =
      is_value_free symbols variables when && (are_acts_free symbols variables body && are_acts_free symbols variables other)

  pub are_acts_free : (symbols : ℕ) → (variables : List ℕ) → ActTrees → Bool
  are_acts_free symbols variables no_act = true
  are_acts_free symbols variables (and_act act acts) = is_act_free symbols variables act && are_acts_free symbols variables acts

abbrev pub is_code_free : (symbols : ℕ) → TaskletTree → Bool
is_code_free symbols code = are_acts_free symbols code.variables code.body

-- each extent of a graph is a constant
abbrev pub are_extents_constant : GraphTree → Thing → Bool
are_extents_constant tree whole = list_all (λ entry. list_all (λ extent. is_empty extent.terms) entry.1.extents) (containers_of tree)
are_extents_constant tree (leaving items exits) = true
are_extents_constant tree (doing kind) = true

-- no expression and no code has a size symbol
abbrev pub sizes_tests : (symbols : ℕ) → Tests
sizes_tests symbols = record { link = λ link. true; range = λ range. true; expression = is_free symbols; code = is_code_free symbols }

abbrev pub rule_8 : (before : List Place) → Place → Bool
rule_8 before place = are_extents_constant place.graph place.thing && is_thing_passed (sizes_tests (symbols_in place.graph)) place.thing
