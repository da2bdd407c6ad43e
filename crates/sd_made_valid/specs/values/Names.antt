-- What the rule on dimensions asks of the names in code.
use Rattle.std.specs.Prelude.{true}
use Rattle.sd_validity.specs.rules.Parts.{Tests}
use Rattle.sd_validity.specs.rules.CodeNames.{is_code_known}

-- they are those of connectors with as many subscripts as these have dimensions, of variables, and of locals in force
abbrev pub names_tests : Tests
names_tests = record { link = λ link. true; range = λ range. true; expression = λ a. true; code = is_code_known }
