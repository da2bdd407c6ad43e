-- One rule behind another.
use Rattle.std.proofs.Common.{◌≡◌, ℕ, List, Option, Some, None, option_map, rules}
use Rattle.sd_validity.specs.rules.Valid.{unless_failing}
use Rattle.sd_validate.specs.validating.Invalidity.{Tells}
use Rattle.sd_validate.specs.declared.validating.invalid.Invalid.{Invalid}
use Rattle.sd_validate.specs.declared.validating.invalid.Invalid.TheVariants.{At, Memory}

-- a rule that holds leaves it to those that come after
pub told_later : (number : ℕ) (failing : Option (List ℕ)) (next : Option (ℕ × List ℕ)) (invalid : Invalid) → failing ≡ None → Tells next invalid →
    Tells (unless_failing number failing next) invalid
told_later number failing next invalid none told = rw none told

-- one that fails is told
pub told_first : (number : ℕ) (failing : Option (List ℕ)) (next : Option (ℕ × List ℕ)) (invalid : Invalid) → Tells (option_map (λ path. (number, path)) failing) invalid →
    Tells (unless_failing number failing next) invalid
told_first number None next (At rule path) told = absurd (search rules)
told_first number None next Memory told = told
told_first number (Some first) next (At rule path) told = told
told_first number (Some first) next Memory told = told
