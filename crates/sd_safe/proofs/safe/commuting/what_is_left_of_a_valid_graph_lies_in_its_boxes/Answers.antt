use Rattle.std.proofs.Common.{◌∷◌, []}
use Rattle.sd_confluence.proofs.left.StillLeft.{left-touches}
use Rattle.sd_graph.specs.PlainTree.{map_scope, consume_scope}
use Rattle.sd_graph.specs.ContainerParts.{name_at}
use Rattle.sd_graph.specs.Context.{source_name}
use Rattle.sd_graph.specs.Unfold.{unfold_kind}
use Rattle.sd_race.proofs.cover_lemmas.Covered.{kind-covered, scope-covered}
use Rattle.sd_safe.proofs.fit_lemmas.Fitting.{graph-fit}
use Rattle.sd_safe.proofs.safe_lemmas.GraphSafe.{point_of, point-covered, element_term}
use Rattle.sd_safe.proofs.commuting_lemmas.InRuns.{graph-left}
use Rattle.sd_safe.proofs.commuting_lemmas.StandsFit.{item-fit}
use Rattle.sd_safe.proofs.safe.commuting.what_is_left_of_a_valid_graph_lies_in_its_boxes.Goals as goal

pub returns-clause-stays : goal.returns-clause-stays
returns-clause-stays c = graph-left

pub returns-clause-items : goal.returns-clause-items
returns-clause-items c = λ tree kind at line nodes context left touch valid normal stands force is touched.
    kind-covered kind at.around line nodes context touch (item-fit tree kind at stands (graph-fit tree valid normal)) force (left-touches (unfold_kind kind line context) left touch is touched)

pub returns-clause-points : goal.returns-clause-points
returns-clause-points c = λ tree sequential params private body at nodes context point left touch valid normal stands force here is touched.
    let fit = item-fit tree (map_scope sequential params private body) at stands (graph-fit tree valid normal) in
    point-covered at.around params private body nodes context point touch fit.0 fit.1 force here (left-touches (point_of params private body context point) left touch is touched)

pub returns-clause-elements : goal.returns-clause-elements
returns-clause-elements c = λ tree stream element private body at nodes context value left touch valid normal stands force is touched.
    let fit = item-fit tree (consume_scope stream element private body) at stands (graph-fit tree valid normal) in
    scope-covered at.around (element ∷ private) body nodes context.values ((source_name (name_at context.containers element), value) ∷ []) context touch fit force
    (left-touches (element_term element private body context value) left touch is touched)
