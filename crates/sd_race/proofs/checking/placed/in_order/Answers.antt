use Rattle.std.specs.List.Sorted.{IsPermutation}
use Rattle.std.proofs.lemmas.List.{take_all}
use Rattle.std.proofs.lemmas.List.Sorted.{IsPermutation-map}
use Rattle.std.proofs.Common.{◌≡◌, map, ◌∙◌, subst}
use Rattle.sd_prop.specs.propagation.Accesses.{Access}
use Rattle.sd_race.specs.declared.checking.placed.Placed.{Placed}
use Rattle.sd_race.proofs.checking.placed.in_order.Goals as goal

pub returns : goal.returns
returns c =
    let told : Placed → Access = λ one. one.access.now in
    let same : map told c.loop-access.all.items ≡ c.args.accesses.now = c.loop-access.invariant ∙ take_all c.loop-access.access-index c.args.accesses.now c.loop-access-test.false in
    subst (λ all. IsPermutation all (map told c.sort_by_key.new.self.items)) same (IsPermutation-map told c.loop-access.all.items c.sort_by_key.new.self.items c.in_ok-sort_by_key.ensures.permutation)
