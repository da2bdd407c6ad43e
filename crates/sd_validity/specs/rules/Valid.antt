-- Valid graphs, and the first rule that fails with the first place at which it does.
use Rattle.std.specs.Prelude.{ℕ, List, Option, Some, None}
use Rattle.sd_graph.specs.PlainTree.{GraphTree}
use Rattle.sd_validity.specs.rules.Failing.{first_failing, Holds}
use Rattle.sd_validity.specs.rules.NamesInForce.{rule_1}
use Rattle.sd_validity.specs.rules.Dimensions.{rule_2}
use Rattle.sd_validity.specs.rules.Transitions.{rule_3}
use Rattle.sd_validity.specs.rules.StreamUse.{rule_4}
use Rattle.sd_validity.specs.rules.NestedLinks.{rule_5}
use Rattle.sd_validity.specs.rules.MovedShapes.{rule_6}
use Rattle.sd_validity.specs.rules.WithinLimits.{rule_7}
use Rattle.sd_validity.specs.rules.SizesGone.{rule_8}

-- a rule that fails, with its number and the first place, or what comes after
abbrev pub unless_failing : (number : ℕ) → Option (List ℕ) → Option (ℕ × List ℕ) → Option (ℕ × List ℕ)
unless_failing number None next = next
unless_failing number (Some path) next = Some (number, path)

-- the lowest rule that fails, with the first place at which it does
abbrev pub invalidity : GraphTree → Option (ℕ × List ℕ)
invalidity tree =
    unless_failing 1 (first_failing rule_1 tree)
    (unless_failing 2 (first_failing rule_2 tree)
    (unless_failing 3 (first_failing rule_3 tree)
    (unless_failing 4 (first_failing rule_4 tree)
    (unless_failing 5 (first_failing rule_5 tree)
    (unless_failing 6 (first_failing rule_6 tree)
    (unless_failing 7 (first_failing rule_7 tree)
    (unless_failing 8 (first_failing rule_8 tree) None)))))))

-- all eight rules hold
pub record IsValid (tree : GraphTree) : Type 0 where
  pub names : Holds rule_1 tree
  pub dimensions : Holds rule_2 tree
  pub transitions : Holds rule_3 tree
  pub streams : Holds rule_4 tree
  pub nesting : Holds rule_5 tree
  pub shapes : Holds rule_6 tree
  pub limits : Holds rule_7 tree
  pub sizes : Holds rule_8 tree
