use Rattle.std.proofs.Common.{◌≡◌, ◌+◌, ◌-◌, ◌++◌, length}
use Rattle.std.specs.List.{flat_map}
use Rattle.sd_part.specs.Sides.{numbers_on, numbers_along}
use Rattle.sd_part.proofs.numbers.+push_numbers.Given as goal

-- those so far, and those of the places left
abbrev pub invariant-loop-place : goal.invariant-loop-place
invariant-loop-place l =
    l.found.items ++ flat_map (λ place. numbers_along l.inner (l.first + place)) (numbers_on l.place (l.place-end - l.place))
    ≡ l.initial.found.items ++ flat_map (λ place. numbers_along l.inner (l.first + place)) (numbers_on 0 l.place-end)

abbrev pub decreases-push_numbers : goal.decreases-push_numbers
decreases-push_numbers l = length l.sides.now
