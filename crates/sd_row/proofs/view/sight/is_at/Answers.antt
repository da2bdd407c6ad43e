use Rattle.std.proofs.Common.{sym, ap, ◌∙◌, rules}
use Rattle.sd_graph.specs.TaskletMeaning.{checked}
use Rattle.sd_row.proofs.view_lemmas.Seen.{checked_so, checked_not}
use Rattle.sd_row.proofs.view.sight.is_at.Goals as goal

pub returns-then-is_inside : goal.returns-then-is_inside
returns-then-is_inside c k memories =
    ap (λ extents. checked extents c.args.at.now) (sym (c.extents_of.ensures k memories)) ∙ checked_so c.extents_of.result.now c.args.at.now (search rules)

pub returns : goal.returns
returns c k memories =
    ap (λ extents. checked extents c.args.at.now) (sym (c.extents_of.ensures k memories)) ∙ checked_not c.extents_of.result.now c.args.at.now (search rules)
