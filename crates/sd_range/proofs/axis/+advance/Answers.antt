use Rattle.std.proofs.Common.{rules, FitsSigned}
use Rattle.std.specs.Int.{w128}
use Rattle.std.specs.List.{AllByRecursion}
use Rattle.std.proofs.lemmas.Int.{to_z-of_z}
use Rattle.sd_range.specs.Axis.{Rises, IsFilled}
use Rattle.sd_range.proofs.After.{after-round}
use Rattle.sd_range.proofs.axis.+advance.Goals as goal

pub returns-in-Some-later-clause-moved : goal.returns-in-Some-later-clause-moved
returns-in-Some-later-clause-moved t c =
    let number = c.in-Some-split_first_mut.number.now in
    let next = c.in-Some-later.next in
    let number_fits : FitsSigned w128 number = search rules in
    let next_fits : FitsSigned w128 next = search rules in
    let rising : AllByRecursion Rises c.in-Some.inner.now = (rw c.in-Some.ensures.cases.0 at c.requires.rising).1 in
    let filled : AllByRecursion IsFilled c.in-Some.inner.now = (rw c.in-Some.ensures.cases.0 at c.requires.filled).1 in
    let goes = simp to_z-of_z at c.in-Some-later.ensures in
    simp (to_z-of_z, c.in-Some.ensures.cases.0, c.in-Some-split_first_mut.ensures.cases.0, c.if-advance.ensures.round)
    (after-round c.in-Some.axis.now c.in-Some.inner.now number next c.in-Some-split_first_mut.rest.now rising filled c.if-advance.ensures.over goes)
