-- How many there are of what code lists.
use Rattle.std.proofs.Common.{◌≡◌, suc, List, [], ◌∷◌, length, map, nat_eq, Option, Some, None, refl, ap, ◌∙◌, arith}
use Rattle.std.specs.Prelude.{is_some, option_map}
use Rattle.std.proofs.lemmas.List.{length-map}
use Rattle.sd_graph.specs.PlainTree.{ValueTree}
use Rattle.sd_graph.specs.TreeFold.{value_tree, value_trees, values_listed}
use Rattle.sd_graph.specs.declared.tasklet.Value.{Value}
use Rattle.sd_validity.specs.rules.CodeNames.{count_values}
use Rattle.sd_validity.specs.rules.Parts.{is_empty}

values_listed_counted : (all : List ValueTree) → count_values (values_listed all) ≡ length all
values_listed_counted [] = refl
values_listed_counted (first ∷ rest) = ap suc (values_listed_counted rest)

-- so many expressions
pub values_counted : (all : List Value) → count_values (value_trees all) ≡ length all
values_counted all = values_listed_counted (map value_tree all) ∙ length-map all value_tree

-- a list without members has the length 0
pub empty_counted : {A : Type 0} (all : List A) → nat_eq (length all) 0 ≡ is_empty all
empty_counted [] = refl
empty_counted (first ∷ rest) = grind arith

-- a value is there where what is made of it is
pub some_made : {A B : Type 0} (make : A → B) (value : Option A) → is_some (option_map make value) ≡ is_some value
some_made make None = refl
some_made make (Some value) = refl
