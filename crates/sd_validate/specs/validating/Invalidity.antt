-- What is told of a graph that is not valid.
use Rattle.std.specs.Prelude.{◌≡◌, ℕ, List, Option, Some, ⊤}
use Rattle.sd_validate.specs.declared.validating.invalid.Invalid.{Invalid}
use Rattle.sd_validate.specs.declared.validating.invalid.Invalid.TheVariants.{At, Memory}

-- a rule that fails with the first place at which it does; want of memory may be told of any graph
abbrev pub Tells : (failing : Option (ℕ × List ℕ)) → Invalid → Type 0
Tells failing (At rule path) = failing ≡ Some (rule, path.steps)
Tells failing Memory = ⊤
