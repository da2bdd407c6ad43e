use Rattle.std.proofs.Common.{List, ap, sym, ◌∙◌}
use Rattle.sd_graph.specs.TreeFold.{act_trees}
use Rattle.sd_graph.specs.declared.tasklet.Act.{Act}
use Rattle.sd_validity.specs.rules.Compared as definition
use Rattle.sd_places.proofs.ranks_lemmas.Bare.{given_none, not_none}
use Rattle.sd_places.proofs.ranks.comparison.given.Goals as goal

pub returns-else-is_empty : goal.returns-else-is_empty
returns-else-is_empty c =
    let some = not_none _ c.is_empty.result c.is_empty.ensures c.if-is_empty.false in
    sym (ap (λ (acts : List Act). definition.given (act_trees acts)) c.in_ok-first.ensures.cases.0 ∙ given_none c.in_ok-first.first.now c.in_ok-first.others.now some)
