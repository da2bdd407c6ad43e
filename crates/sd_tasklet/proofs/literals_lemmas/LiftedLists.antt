-- Lists of parts with their numbers in variables are the parts' trees so.
use Rattle.std.proofs.Common.{◌≡◌, ℕ, ℤ, List, [], ◌∷◌, Option, Some, None, map, refl, ap}
use Rattle.sd_graph.specs.PlainTree.{ValueTree, ValueTrees, and_value, ActTree, ActTrees, and_act}
use Rattle.sd_graph.specs.TreeFold.{values_listed, acts_listed}
use Rattle.sd_tasklet.specs.literals.Literals.{lifted_value, lifted_values, lifted_act, lifted_acts}

pub values_lifted : (numbers : List ℤ) (own : ℕ) (values : List ValueTree) → values_listed (map (lifted_value numbers own) values) ≡ lifted_values numbers own (values_listed values)
values_lifted numbers own [] = refl
values_lifted numbers own (value ∷ values) = ap (λ (rest : ValueTrees). and_value (lifted_value numbers own value) rest) (values_lifted numbers own values)

pub acts_lifted : (numbers : List ℤ) (own : ℕ) (acts : List ActTree) → acts_listed (map (lifted_act numbers own) acts) ≡ lifted_acts numbers own (acts_listed acts)
acts_lifted numbers own [] = refl
acts_lifted numbers own (act ∷ acts) = ap (λ (rest : ActTrees). and_act (lifted_act numbers own act) rest) (acts_lifted numbers own acts)

pub not_found : (place : Option ℕ) → ((number : ℕ) → place ≡ Some number → ⊥) → place ≡ None
not_found None none = refl
not_found (Some number) none = absurd (none number refl)
