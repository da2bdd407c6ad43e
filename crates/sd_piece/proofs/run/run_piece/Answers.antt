use Rattle.std.proofs.Common.{◌≡◌, ℤ, List, refl, ◌∙◌, ap, subst}
use Rattle.sd_work.specs.BigStep.{big_step}
use Rattle.sd_graph.specs.TreeFold.{graph_tree, item_tree}
use Rattle.sd_graph.specs.TreeParts.{containers_of}
use Rattle.sd_graph.specs.Context.{own_reach}
use Rattle.sd_mem.specs.mem.Shaped.{Shaped, alone}
use Rattle.sd_cut.specs.Fits.{with_left}
use Rattle.sd_cut.specs.Using.{committed}
use Rattle.sd_part.specs.Marking.{with_boxes}
use Rattle.sd_part.specs.Part.{part_term, PartComesTo}
use Rattle.sd_piece.proofs.Fresh.{fresh-commits-nothing}
use Rattle.sd_piece.proofs.run.run_piece.Goals as goal

pub returns-clause-ran : goal.returns-clause-ran
returns-clause-ran c = λ over made agrees most.
    let tree = graph_tree c.args.bound.now.graph in
    let piece = c.args.piece in
    let left = c.run_part.new.store in
    let ran = c.in_ok-end.ensures.end over (committed left over) made (record { agrees = agrees; done = refl }) in
    let before : ran.0 ≡ over = ran.1.done ∙ fresh-commits-nothing piece.boxes.items piece.cut over c.requires.may.holds in
    subst (λ (values : List ℤ). PartComesTo c.in_ok-end.end c.args.turns (alone (committed left over))
    (big_step (part_term tree (own_reach (containers_of tree)) piece.state values (item_tree piece.item).1 (item_tree piece.item).0) most (alone over) c.args.turns)) c.as_slice-values.ensures.value
    (subst (λ (m : Shaped). PartComesTo c.in_ok-end.end c.args.turns (alone (committed left over))
    (big_step (part_term tree (own_reach (containers_of tree)) piece.state c.as_slice-values.result.now (item_tree piece.item).1 (item_tree piece.item).0) most (alone m) c.args.turns)) before (ran.2 most))

pub returns-clause-marked : goal.returns-clause-marked
returns-clause-marked c =
    let store = c.in_ok-end.ensures.store in
    (store.1, store.4 ∙ ap (with_left store.1) (store.3 ∙ ap (λ boxes. with_boxes boxes c.args.piece.cut) c.as_slice-boxes.ensures.value))
