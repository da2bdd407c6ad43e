-- What the rule on limits asks of code.
use Rattle.std.specs.Prelude.{true}
use Rattle.sd_validity.specs.rules.Parts.{Tests}
use Rattle.sd_validity.specs.rules.CodeSize.{is_code_small}

-- it has at most 64 connectors, 1,024 lines and 64 levels in an expression
abbrev pub code_tests : Tests
code_tests = record { link = λ link. true; range = λ range. true; expression = λ a. true; code = is_code_small }
