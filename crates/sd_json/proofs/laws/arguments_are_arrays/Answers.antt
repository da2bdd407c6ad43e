use Rattle.sd_graph.specs.TreeParts.{containers_of}
use Rattle.sd_graph.specs.InPlace.{arguments_of}
use Rattle.sd_json.proofs.Arguments.{arguments_are_arrays}
use Rattle.sd_json.proofs.laws.arguments_are_arrays.Goals as goal

pub returns : goal.returns
returns c = λ tree memory first are. arguments_are_arrays (arguments_of tree) (containers_of tree) memory.contents first are
