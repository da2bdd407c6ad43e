use Rattle.std.proofs.Common.{Some, map}
use Rattle.sd_race.specs.race.Pairs.{pair_of}
use Rattle.sd_race.specs.checking.Found.{race_of}
use Rattle.sd_race.proofs.checking_lemmas.Searching.{access_passed, access_found, none_found, some_found}
use Rattle.sd_race.proofs.checking.search.race_in.Goals as goal

pub returns-in-Some-2 : goal.returns-in-Some-2
returns-in-Some-2 c =
    let scope = c.args.scope.now in
    let access = c.in-Some.access.now in
    let left = c.loop-access.left.now in
    let race = c.in-Some-2.race in
    c.loop-access.invariant (Some (race_of race))
    (access_found scope access left c.in-Some.behind.now c.in-Some.ensures.cases.0 (race_of race)
    (some_found (map (pair_of scope access) left) c.in_ok-race.field-0 race c.in-Some-2.is c.in_ok-race.ensures))

pub loop-access-preserved : goal.loop-access-preserved
loop-access-preserved c = λ race first.
    let scope = c.args.scope.now in
    let access = c.in-Some.access.now in
    let left = c.loop-access.left.now in
    c.loop-access.invariant race
    (access_passed scope access left c.in-Some.behind.now c.in-Some.ensures.cases.0
    (none_found (map (pair_of scope access) left) c.in_ok-race.field-0 c.in_default-2.not-Some c.in_ok-race.ensures) race first)
