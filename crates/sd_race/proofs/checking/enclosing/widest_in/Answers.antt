use Rattle.std.proofs.Common.{◌≡◌, ◌+◌, Some, take, option_map, slice_get, ap, sym, subst}
use Rattle.sd_race.specs.checking.Clear.{AreWidest, bounds_in}
use Rattle.sd_race.proofs.checking_lemmas.Enclosing.{bounds-there, widest-found, widest-next}
use Rattle.sd_race.proofs.checking.enclosing.widest_in.Goals.{in-None, in-Some}
use Rattle.sd_race.proofs.checking.enclosing.widest_in.Goals as goal

pub loop-one-preserved : goal.loop-one-preserved
loop-one-preserved c =
    let items = c.args.items.now in
    let dimension = c.args.dimension in
    let i = c.loop-one.one-index in
    let one = c.one-item.result in
    let own = c.in_ok-bounds.bounds.now in
    let there : slice_get one.access.now.box dimension ≡ Some own =
    subst (λ box. slice_get box dimension ≡ Some own) c.bounds.ensures
    (bounds-there c.bounds.result.now dimension own c.in_ok-bounds.ensures.lookup.3.0 (c.in_ok-bounds.ensures.lookup.3.1 own)) in
    elim c.match-widest.branch [
      | in-None w ↦
          widest-found dimension items i one own c.loop-one-test.true c.one-item.is there c.match-widest.widest (ap (option_map bounds_in) w.widest-is)
          (subst (λ known. AreWidest dimension known (take i items)) w.in-None.is c.loop-one.invariant)
      | in-Some w ↦
          subst (λ found. AreWidest dimension found (take (i + 1) items)) (sym w.widest-is)
          (widest-next dimension items i one own c.loop-one-test.true c.one-item.is there w.in-Some.known w.wider.result
          (subst (λ known. AreWidest dimension known (take i items)) w.in-Some.is c.loop-one.invariant) w.wider.ensures.widest w.wider.ensures.bounds)
    ]
