use Rattle.std.specs.List.{All}
use Rattle.std.specs.Option.{IfSome}
use Rattle.std.proofs.lemmas.Result.{IfOk-weaker}
use Rattle.std.proofs.Common.{◌↔◌, IsTrue, subst}
use Rattle.sd_prop.specs.collecting.Plain.{over_of}
use Rattle.sd_race.specs.race.Pairs.{AreHarmlessOver}
use Rattle.sd_race.specs.checking.Clear.{AreClear, Encloses}
use Rattle.sd_race.specs.declared.checking.placed.Placed.{Placed}
use Rattle.sd_race.proofs.checking_lemmas.Clearing.{enclosed-clear, harmless-told}
use Rattle.sd_race.proofs.checking.clear.are_enclosed_apart.Goals as goal

pub returns : goal.returns
returns c =
    let scope = c.args.scope.now in
    let some = c.args.some.now in
    let others = c.args.others.now in
    let whole = c.in-Some.one.items in
    let beyond = c.in-Some-2.other.items in
    let enclosed : All (λ (one : Placed). Encloses whole one.access.now.box) some = subst (λ found. IfSome found (λ box. All (λ (one : Placed). Encloses box.items one.access.now.box) some)) c.in-Some.is c.in_ok-one.ensures in
    let enclosed_others : All (λ (one : Placed). Encloses beyond one.access.now.box) others = subst (λ found. IfSome found (λ box. All (λ (one : Placed). Encloses box.items one.access.now.box) others)) c.in-Some-2.is c.in_ok-other.ensures in
    IfOk-weaker c.are_harmless_over.result (λ are. IsTrue are ↔ AreHarmlessOver (over_of c.over.result.now) c.around.result.now c.as_slice.result.now c.as_slice-2.result.now) (λ are. IsTrue are → AreClear scope some others)
    (λ are known yes. enclosed-clear scope some others whole beyond enclosed enclosed_others
    (harmless-told (over_of c.over.result.now) scope.over c.around.result.now scope.around c.as_slice.result.now whole c.as_slice-2.result.now beyond c.over.ensures c.around.ensures c.as_slice.ensures.value c.as_slice-2.ensures.value (known.0 yes)))
    c.are_harmless_over.ensures
