use Rattle.std.proofs.Common.{◌≡◌, ◌+◌, ◌++◌, rules, ◌∙◌, ap}
use Rattle.std.specs.List.{flat_map}
use Rattle.sd_part.specs.Sides.{numbers_on, numbers_along}
use Rattle.sd_part.proofs.SideNumbers.{place-next}
use Rattle.sd_part.proofs.numbers.+push_numbers.Goals as goal

pub loop-place-preserved : goal.loop-place-preserved
loop-place-preserved t c =
    let numbers = numbers_along c.in-Some.inner.now in
    let at : c.in_ok-ok_or.field-0 ≡ c.in_ok-first.first + c.loop-place.place = search rules in
    place-next (λ place. numbers (c.in_ok-first.first + place)) (c.args.found.now.items ++ flat_map (λ place. numbers (c.in_ok-first.first + place)) (numbers_on 0 c.in-Some.side.now.count))
    c.loop-place.found.items c.push_numbers.new.found.items c.loop-place.place c.in-Some.side.now.count c.loop-place-test.true (c.in_ok-push_numbers.ensures ∙ ap (λ n. c.loop-place.found.items ++ numbers n) at) c.loop-place.invariant
