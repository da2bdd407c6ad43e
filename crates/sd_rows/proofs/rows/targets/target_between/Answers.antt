use Rattle.std.proofs.Common.{◌≡◌, true, false, sym, ap, ◌∙◌, rules}
use Rattle.sd_graph.specs.TreeFold.{graph_tree}
use Rattle.sd_graph.specs.ContainerParts.{Containers, container_at, is_stream}
use Rattle.sd_graph.specs.Context.{Reach}
use Rattle.sd_scope.specs.even.Even.{is_scalar}
use Rattle.sd_row.proofs.instance_lemmas.Matched.{found_so}
use Rattle.sd_row.proofs.instance_lemmas.Resting.{stream_target, element_target, computed_target}
use Rattle.sd_rows.specs.rows.Map.{standing}
use Rattle.sd_rows.proofs.rows_lemmas.Free.{free_where, free_extents, reaches, containers_are, through_stays}
use Rattle.sd_rows.proofs.rows_lemmas.PlacesOfRange.{effect_placed}
use Rattle.sd_rows.proofs.rows.targets.target_between.Goals as goal

pub returns-then-is_stream : goal.returns-then-is_stream
returns-then-is_stream c steps values context still way k within =
    let task = c.args.task.now in
    let link = c.args.link.now in
    let number = link.memlet.container in
    let first = standing task c.args.first.now in
    let station = c.in_ok-station.station in
    let same = reaches steps c.args.gaps _ _ values context way k number in
    let streams : is_stream (container_at (context k).containers number).kind ≡ true =
    ap (λ (containers : Containers). is_stream (container_at containers number).kind) (containers_are steps c.args.gaps _ _ values context way k) ∙ sym c.is_stream.ensures ∙ c.if-is_stream.true in
    stream_target k (context k) first link station streams
    (c.in_ok-station.ensures.level (graph_tree task.graph.now) ∙ ap (λ (reach : Reach). reach.level) (sym same))
    (c.in_ok-station.ensures.container (graph_tree task.graph.now) ∙ ap (λ (reach : Reach). reach.container) (sym same))

pub returns-in-Some : goal.returns-in-Some
returns-in-Some c steps values context still way k within =
    let task = c.args.task.now in
    let link = c.args.link.now in
    let number = link.memlet.container in
    let first = standing task c.args.first.now in
    let arrays : is_stream (container_at (context k).containers number).kind ≡ false =
    ap (λ (containers : Containers). is_stream (container_at containers number).kind) (containers_are steps c.args.gaps _ _ values context way k) ∙ sym c.is_stream.ensures ∙ c.if-is_stream.false in
    let one : c.has_one_element.result ≡ true = search rules in
    let scalar : is_scalar link.memlet.subset.dims ≡ true = ap is_scalar (sym c.as_slice.ensures) ∙ sym c.has_one_element.ensures ∙ one in
    element_target k (context k) first link c.in-Some.to arrays scalar (found_so _ c.in_ok-to.field-0 c.in-Some.to c.in-Some.is c.in_ok-to.ensures steps values context way k within)

pub returns-in-Some-2 : goal.returns-in-Some-2
returns-in-Some-2 c steps values context still way k within =
    let task = c.args.task.now in
    let link = c.args.link.now in
    let number = link.memlet.container in
    let first = standing task c.args.first.now in
    let places = c.in-Some-2.places in
    let arrays : is_stream (container_at first.containers number).kind ≡ false = sym c.is_stream.ensures ∙ c.if-is_stream.false in
    let one : c.has_one_element.result ≡ false = search rules in
    let many : is_scalar link.memlet.subset.dims ≡ false = ap is_scalar (sym c.as_slice.ensures) ∙ sym c.has_one_element.ensures ∙ one in
    let free = free_where steps.variable link.memlet.subset.dims still many in
    record {
      effects = λ effect.
          through_stays steps c.args.gaps _ _ values context way k link effect free
          ∙ effect_placed first link places.to places.count arrays (found_so _ c.in_ok-places.field-0 places c.in-Some-2.is c.in_ok-places.ensures.elements) effect;
      places = sym (free_extents steps c.args.gaps _ _ values context way k link free) ∙ found_so _ c.in_ok-places.field-0 places c.in-Some-2.is c.in_ok-places.ensures.extents;
    }

pub returns-in-None-2 : goal.returns-in-None-2
returns-in-None-2 c steps values context still way k within =
    let task = c.args.task.now in
    let link = c.args.link.now in
    let number = link.memlet.container in
    let first = standing task c.args.first.now in
    let one : c.has_one_element.result ≡ false = search rules in
    let many : is_scalar link.memlet.subset.dims ≡ false = ap is_scalar (sym c.as_slice.ensures) ∙ sym c.has_one_element.ensures ∙ one in
    computed_target k (context k) first link (λ effect. through_stays steps c.args.gaps _ _ values context way k link effect (free_where steps.variable link.memlet.subset.dims still many))
