use Rattle.std.proofs.Common.{◌≡◌, get_or, sym, ◌∙◌, rules}
use Rattle.sd_left.specs.declared.left.left.Left.TheViews.{out-Bodies}
use Rattle.sd_left.proofs.left_lemmas.TellRolls.{first_told}
use Rattle.sd_left.proofs.left_lemmas.FirstLeft.{first-found, none-found}
use Rattle.sd_left.proofs.left.tells.moves_of_first.Goals as goal

pub returns-in-Some : goal.returns-in-Some
returns-in-Some c =
    let points = c.args.points.now in
    let first = c.in-Some.first in
    let counted : c.count.result ≡ get_or (out-Bodies points).moves first.number 0 = search rules in
    counted
    ∙ first-found (out-Bodies points).moves (out-Bodies points).unfinished first.number first.rest c.in-Some.ensures.before c.in-Some.ensures.inside
    ∙ sym (first_told points)

pub returns-in-None : goal.returns-in-None
returns-in-None c =
    let points = c.args.points.now in
    sym (first_told points ∙ none-found (out-Bodies points).moves (out-Bodies points).unfinished c.in-None.ensures)
