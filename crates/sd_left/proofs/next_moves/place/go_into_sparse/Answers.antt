use Rattle.std.proofs.Common.{◌++◌, ◌∷◌, [], ℕ, List, append_assoc, sym, ap, ◌∙◌}
use Rattle.sd_left.specs.sparse.Stretch.{is_summed, is_told}
use Rattle.sd_left.proofs.left_lemmas.Sameness.{both-true}
use Rattle.sd_left.proofs.sparse_lemmas.Placed.{way-place, less-all}
use Rattle.sd_left.proofs.next_moves.place.go_into_sparse.Goals as goal

pub returns : goal.returns
returns c = λ sequential kind context memories right less.
    let tasks = c.args.tasks.now in
    let points = c.args.points.now in
    let way = c.in_ok-way.way in
    let both = both-true (is_told tasks) (is_summed tasks points) right in
    let is = c.in_ok-way.ensures both.0 both.1 (less-all sequential tasks points c.args.number right less) in
    c.in_ok-push-2.ensures.items ∙ ap (λ (items : List ℕ). items ++ way.task ∷ []) c.in_ok-push.ensures.items
    ∙ append_assoc c.args.place.now.items (way.point ∷ []) (way.task ∷ [])
    ∙ ap (λ (path : List ℕ). c.args.place.now.items ++ path) (sym (way-place sequential tasks points c.args.number way right less is kind context memories))
