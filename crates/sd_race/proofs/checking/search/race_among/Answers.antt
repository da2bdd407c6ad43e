use Rattle.std.proofs.Common.{Some, take}
use Rattle.sd_race.specs.race.Pairs.{IsScopeAccepted, asked_pairs}
use Rattle.sd_race.specs.checking.Found.{race_of}
use Rattle.sd_race.proofs.race_lemmas.Members.{scope-accepted}
use Rattle.sd_race.proofs.checking_lemmas.Alike.{like_earlier}
use Rattle.sd_race.proofs.checking_lemmas.Clearing.{all-next}
use Rattle.sd_race.proofs.checking_lemmas.Searching.{scope_passed, scope_found, none_found, some_found}
use Rattle.sd_race.proofs.checking.search.race_among.Goals as goal

pub returns-in-Some : goal.returns-in-Some
returns-in-Some c =
    let scope = c.index-all-i.result in
    let race = c.in-Some.race in
    c.loop-i.invariant.left (Some (race_of race))
    (scope_found c.args.all.now c.loop-i.i scope c.loop-i-test.true c.index-all-i.is (race_of race)
    (some_found (asked_pairs scope) c.in_ok-race.field-0 race c.in-Some.is c.in_ok-race.ensures))

pub loop-i-preserved : goal.loop-i-preserved
loop-i-preserved c =
    let all = c.args.all.now in
    let scope = c.index-all-i.result in
    let accepted : IsScopeAccepted scope = scope-accepted scope (none_found (asked_pairs scope) c.in_ok-race.field-0 c.in_default.not-Some c.in_ok-race.ensures) in
    record {
      left = λ race first. c.loop-i.invariant.left race (scope_passed all c.loop-i.i scope c.loop-i-test.true c.index-all-i.is accepted race first);
      passed = all-next IsScopeAccepted all c.loop-i.i scope c.loop-i-test.true c.index-all-i.is c.loop-i.invariant.passed accepted;
    }

pub loop-i-preserved-then-is_like_earlier : goal.loop-i-preserved-then-is_like_earlier
loop-i-preserved-then-is_like_earlier c =
    let all = c.args.all.now in
    let scope = c.index-all-i.result in
    let accepted : IsScopeAccepted scope = like_earlier scope (take c.loop-i.i all) (c.is_like_earlier.ensures c.if-is_like_earlier.true) c.loop-i.invariant.passed in
    record {
      left = λ race first. c.loop-i.invariant.left race (scope_passed all c.loop-i.i scope c.loop-i-test.true c.index-all-i.is accepted race first);
      passed = all-next IsScopeAccepted all c.loop-i.i scope c.loop-i-test.true c.index-all-i.is c.loop-i.invariant.passed accepted;
    }
