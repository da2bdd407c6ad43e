use Rattle.std.proofs.Common.{◌≡◌, ℕ, List, ◌∙◌, subst}
use Rattle.sd_list.specs.tally.Found.{IsFound}
use Rattle.sd_left.specs.sparse.Stretch.{moves_each}
use Rattle.sd_left.proofs.sparse_lemmas.Ways.{way-each}
use Rattle.sd_left.proofs.sparse.stretch.way_in_each.Goals as goal

pub returns : goal.returns
returns c = λ less.
    let tasks = c.args.tasks.now in
    let points = c.args.points.now in
    let found = c.in-Some.found in
    let is : c.in_ok-moves.moves ≡ moves_each tasks points = c.in_ok-moves.ensures ∙ c.deref.ensures.value ∙ c.in_ok-each_moves.ensures in
    way-each tasks points c.args.unit found c.in_ok-task.task c.in-Some-get.point.now (subst (λ (m : List ℕ). IsFound m c.args.unit found) is c.in-Some.ensures)
    (c.in-Some-get.ensures.lookup.3.1 c.in-Some-get.point.now) c.in_ok-task.ensures
