use Rattle.std.proofs.Common.{◌≡◌, ◌+◌, ◌<◌, ℕ, pos, [], ◌∷◌, Some, option_map, sym, ap, ◌∙◌, arith, to_z, of_z}
use Rattle.std.specs.Int.{w128}
use Rattle.std.proofs.lemmas.Int.{to_z-of_z}
use Rattle.sd_graph.specs.PlainTree.{GraphTree}
use Rattle.sd_graph.specs.TreeFold.{graph_tree}
use Rattle.sd_graph.specs.Context.{link_element, link_extents}
use Rattle.sd_mem.specs.machine.Stack.{reference_of}
use Rattle.sd_scope.specs.scope.Standing.{context_of}
use Rattle.sd_scope.specs.declared.scope.base.Base.{Base}
use Rattle.sd_scope.proofs.even_lemmas.Reached.{even_standing}
use Rattle.sd_row.specs.declared.row.track.Track.{Track}
use Rattle.sd_row.specs.row.Row.{reference_on}
use Rattle.sd_row.proofs.instance_lemmas.Matched.{found_so}
use Rattle.sd_rows.specs.declared.rows.targets.Places.{Places}
use Rattle.sd_rows.specs.rows.Map.{standing}
use Rattle.sd_rows.proofs.rows_lemmas.Matched.{matched}
use Rattle.sd_rows.proofs.rows_lemmas.PlacesOfRange.{on_places}
use Rattle.sd_rows.proofs.rows.targets.track_of_places.Goals as goal

pub returns-in-Some-spaced_between-clause-elements : goal.returns-in-Some-spaced_between-clause-elements
returns-in-Some-spaced_between-clause-elements c =
    let task = c.args.task.now in
    let link = c.args.link.now in
    let here = standing task c.args.here.now in
    let gaps = c.in-Some.gaps in
    let number_is : to_z w128 (of_z w128 c.from.result) ≡ pos gaps = to_z-of_z w128 c.from.result (record { sfits = c.from.type_inv }) ∙ c.from.ensures in
    let begins : Some (reference_of c.in-Some-2.begin) ≡ link_element here link (pos 0 ∷ []) = sym (ap (option_map reference_of) c.in-Some-2.is) ∙ c.in_ok-begin.ensures in
    let ends : Some (reference_of c.in-Some-3.end) ≡ link_element here link (pos gaps ∷ []) =
    sym (ap (option_map reference_of) c.in-Some-3.is) ∙ c.in_ok-end.ensures ∙ ap (λ number. link_element here link (number ∷ [])) number_is in
    matched _ (λ (places : Places). (place : ℕ) → place < places.count → link_element here link (pos place ∷ []) ≡ Some (reference_on places.to place)) c.places_on.result
    (λ places told place within.
    on_places here link gaps (even_standing (graph_tree task.graph.now) task.base.now c.args.here.now link.memlet.container) c.in-Some-2.begin c.in-Some-3.end begins ends
    c.in-Some-spaced_between.elements c.in-Some-spaced_between.ensures place (omega (arith, within, told.1))
    ∙ ap (λ (to : Track). Some (reference_on to place)) (sym told.0)) c.places_on.ensures

pub returns-in-Some-spaced_between-clause-extents : goal.returns-in-Some-spaced_between-clause-extents
returns-in-Some-spaced_between-clause-extents c =
    let task = c.args.task.now in
    let link = c.args.link.now in
    let here = standing task c.args.here.now in
    let gaps = c.in-Some.gaps in
    let all : link_extents here link ≡ (gaps + 1) ∷ [] =
    found_so (λ gaps. (tree : GraphTree) (base : Base) → link_extents (context_of tree base c.args.here.now) link ≡ (gaps + 1) ∷ []) c.in_ok-gaps.field-0 gaps c.in-Some.is c.in_ok-gaps.ensures (graph_tree task.graph.now) task.base.now in
    matched _ (λ (places : Places). link_extents here link ≡ places.count ∷ []) c.places_on.result
    (λ places told. all ∙ ap (λ count. count ∷ []) (sym told.1)) c.places_on.ensures
