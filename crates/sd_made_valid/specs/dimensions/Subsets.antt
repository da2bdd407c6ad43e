-- What the rule on dimensions asks of subsets.
use Rattle.std.specs.Prelude.{true}
use Rattle.sd_graph.specs.ContainerParts.{Containers}
use Rattle.sd_validity.specs.rules.Parts.{Tests}
use Rattle.sd_validity.specs.rules.Dimensions.{is_link_fitting}

-- each has a dimension for each of its container, and each range of it one end
abbrev pub subset_tests : Containers → Tests
subset_tests containers = record { link = is_link_fitting containers; range = λ range. true; expression = λ a. true; code = λ code. true }
