use Rattle.std.proofs.Common.{[], refl, subst, arith}
use Rattle.sd_race.specs.race.Pairs.{pairs_among}
use Rattle.sd_race.specs.checking.Found.{IsFirstOf}
use Rattle.sd_race.proofs.checking_lemmas.Clearing.{all_passed, part_passed}
use Rattle.sd_race.proofs.checking.search.from_first_race.Goals as goal

pub returns-then-branch : goal.returns-then-branch
returns-then-branch c = λ race first.
    let scope = c.args.scope.now in
    subst (λ all. IsFirstOf (pairs_among scope all) race) c.accesses-left.ensures
    (all_passed scope c.accesses-left.result.now [] refl (c.in_ok-is_clear.ensures c.if-branch.true) race first)

pub loop-size-preserved-then-branch-2 : goal.loop-size-preserved-then-branch-2
loop-size-preserved-then-branch-2 c = record {
  passed = λ race first. c.loop-size.invariant.passed race
      (part_passed c.args.scope.now _ c.loop-size.left.now c.split_at.result.0.now c.split_at.result.1.now c.split_at.ensures.front c.split_at.ensures.back (c.in_ok-is_clear-2.ensures c.if-branch-2.true) race first);
  room = omega (arith, c.loop-size.invariant.room, c.split_at.ensures.back_len);
}
