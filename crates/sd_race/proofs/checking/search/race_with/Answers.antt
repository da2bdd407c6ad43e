use Rattle.std.proofs.Common.{◌≡◌, map, Some, ap, sym, ◌∙◌, subst}
use Rattle.std.proofs.lemmas.Bool.{true≢false}
use Rattle.sd_race.specs.race.Pairs.{pair_of}
use Rattle.sd_race.specs.race.Race.{Race}
use Rattle.sd_race.specs.checking.Found.{IsFirstOf, race_of}
use Rattle.sd_race.proofs.checking_lemmas.Searching.{pair_passed, pair_found}
use Rattle.sd_race.proofs.checking.search.race_with.Goals as goal

pub returns-then-not-branch : goal.returns-then-not-branch
returns-then-not-branch c =
    let scope = c.args.scope.now in
    let access = c.args.access.now in
    let others = c.args.others.now in
    let other = c.other-item.result in
    let told : race_of c.in_ok-of.field-0 ≡ record { at = scope.path; first = access; second = other } = c.in_ok-of.ensures ∙ ap (λ at. record { at = at; first = access; second = other }) c.path.ensures in
    subst (λ (race : Race). IsFirstOf (map (pair_of scope access) others) (Some race)) (sym told)
    (c.loop-other.invariant (Some (record { at = scope.path; first = access; second = other }))
    (pair_found scope access others c.loop-other.other-index other c.loop-other-test.true c.other-item.is
    (λ accepted. true≢false (sym (c.in_ok-is_accepted.ensures.1 accepted) ∙ c.if-not-branch.true))))

pub loop-other-preserved : goal.loop-other-preserved
loop-other-preserved c = λ race first.
    c.loop-other.invariant race
    (pair_passed c.args.scope.now c.args.access.now c.args.others.now c.loop-other.other-index c.other-item.result c.loop-other-test.true c.other-item.is
    (c.in_ok-is_accepted.ensures.0 c.if-not-branch.false) race first)
