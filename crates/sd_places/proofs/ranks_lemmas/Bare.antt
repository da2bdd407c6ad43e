-- Values that are given without subscripts.
use Rattle.std.proofs.Common.{◌≡◌, ℕ, Bool, false, List, [], ◌∷◌, length, Some, None, refl, arith}
use Rattle.std.specs.Prelude.{◌==◌}
use Rattle.sd_graph.specs.PlainTree.{ValueTree}
use Rattle.sd_graph.specs.TreeFold.{act_trees, value_trees}
use Rattle.sd_graph.specs.declared.tasklet.Act.{Act}
use Rattle.sd_graph.specs.declared.tasklet.Value.{Value}
use Rattle.sd_validity.specs.rules.Compared.{bare_value, given}

pub bare_some : (at : List Value) (value : ValueTree) → length at ≡ 0 → bare_value (value_trees at) value ≡ Some value
bare_some [] value none = refl
bare_some (first ∷ rest) value none = absurd (omega arith)

pub bare_none : (at : List Value) (value : ValueTree) → (length at ≡ 0 → ⊥) → bare_value (value_trees at) value ≡ None
bare_none [] value some = absurd (some refl)
bare_none (first ∷ rest) value some = refl

-- code of more than one statement gives no value
pub given_none : (act : Act) (others : List Act) → (length others ≡ 0 → ⊥) → given (act_trees (act ∷ others)) ≡ None
given_none act [] some = absurd (some refl)
given_none act (other ∷ others) some = refl

-- a length that a test found not to be 0
pub not_none : (count : ℕ) (is : Bool) → is ≡ (count == 0) → is ≡ false → count ≡ 0 → ⊥
not_none count is test found none = grind arith
