-- Modes in one, begun.
use Rattle.std.proofs.Common.{◌≡◌, List, Option, Some, None}
use Rattle.std.specs.List.{fold}
use Rattle.sd_graph.specs.Mode.{Mode, common_mode, joined_mode}

-- modes in one behind others that are in one already
abbrev pub joined_behind : Option Mode → List Mode → Option Mode
joined_behind None modes = joined_mode modes
joined_behind (Some mode) modes = Some (fold common_mode mode modes)
