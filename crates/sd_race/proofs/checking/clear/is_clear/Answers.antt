use Rattle.std.proofs.lemmas.Result.{IfOk-weaker}
use Rattle.std.proofs.Common.{IsTrue, subst}
use Rattle.sd_race.specs.checking.Clear.{AreClear, IsFrontClear}
use Rattle.sd_race.proofs.checking_lemmas.Clearing.{placed-clear}
use Rattle.sd_race.proofs.checking.clear.is_clear.Goals as goal

pub returns : goal.returns
returns c =
    let scope = c.args.scope.now in
    let some = c.in_ok-some.some.items in
    let others = c.in_ok-others.others.items in
    let among : AreClear scope some some = subst (λ all. AreClear scope all all) c.as_slice.ensures.value (c.in_ok-are_clear_among.ensures c.if-not-branch.false) in
    IfOk-weaker c.are_clear.result (λ are. IsTrue are → AreClear scope c.as_slice-2.result.now c.as_slice-3.result.now) (λ is. IsTrue is → IsFrontClear scope c.args.accesses.now c.args.behind.now)
    (λ are clear yes. placed-clear scope c.args.accesses.now c.args.behind.now some others c.in_ok-some.ensures c.in_ok-others.ensures among
    (subst (λ all. AreClear scope all others) c.as_slice-2.ensures.value (subst (λ all. AreClear scope c.as_slice-2.result.now all) c.as_slice-3.ensures.value (clear yes))))
    c.are_clear.ensures
