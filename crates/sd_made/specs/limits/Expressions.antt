-- What the rule on limits asks of expressions.
use Rattle.std.specs.Prelude.{true}
use Rattle.sd_validity.specs.rules.Parts.{Tests}
use Rattle.sd_validity.specs.rules.WithinLimits.{is_small, is_range_small}

-- each is small, and each range has 1 to 4 ends and a step of at least 1 and below 2^40
abbrev pub expression_tests : Tests
expression_tests = record { link = λ link. true; range = is_range_small; expression = is_small; code = λ code. true }
