use Rattle.std.proofs.lemmas.Result.{IfOk-weaker}
use Rattle.std.proofs.Common.{IsTrue}
use Rattle.sd_race.specs.checking.Clear.{AreClear}
use Rattle.sd_race.proofs.checking_lemmas.Clearing.{clear-both}
use Rattle.sd_race.proofs.checking.clear.+are_clear_among.Goals as goal

pub returns : goal.returns
returns t c =
    let scope = c.args.scope.now in
    let items = c.args.items.now in
    let front = c.split_at.result.0.now in
    let back = c.split_at.result.1.now in
    IfOk-weaker c.are_clear.result (λ are. IsTrue are → AreClear scope front back) (λ are. IsTrue are → AreClear scope items items)
    (λ are between yes. clear-both scope _ items front back c.split_at.ensures.front c.split_at.ensures.back
    (c.in_ok-are_clear_among.ensures c.if-not-branch.false) (c.in_ok-are_clear_among-2.ensures c.if-not-branch-2.false) (between yes))
    c.are_clear.ensures
