use Rattle.std.proofs.Common.{rules, ◌≡◌, Some, true, false}
use Rattle.sd_graph.specs.TreeFold.{graph_tree}
use Rattle.sd_mapx.specs.Conditions.{item_of, meets_limits}
use Rattle.sd_mapx.specs.MapTests.{has_sizes, are_steps_small}
use Rattle.sd_mapx.specs.Parts.{found_tree}
use Rattle.sd_mapx.specs.Results.{params_of, tiled_at}
use Rattle.sd_mapx.proofs.OverSizes.{steps_over}
use Rattle.sd_mapx.proofs.tiling.tile.Goals as goal

pub returns-in_err-ask-3-clause-refused : goal.returns-in_err-ask-3-clause-refused
returns-in_err-ask-3-clause-refused c =
    let tree = graph_tree c.args.bound.now.graph in
    let path = c.args.at.now.steps in
    let sizes = c.args.sizes.now in
    let found = found_tree c.in-Some-found_at.found in
    let item : item_of tree path ≡ Some found = search rules in
    let sized : has_sizes sizes found.kind ≡ true = search rules in
    let large : are_steps_small sizes (params_of found.kind) ≡ false = search rules in
    let over : meets_limits (tiled_at tree path sizes) ≡ false = steps_over tree path sizes found item sized large in
    search rules
