use Rattle.std.proofs.Common.{◌≡◌, List, rules, ◌∙◌, ap}
use Rattle.sd_part.specs.declared.numbers.Side.{Side}
use Rattle.sd_part.specs.Sides.{sides_of, BeginsWithin, numbers_along}
use Rattle.sd_part.proofs.SideNumbers.{numbers-are}
use Rattle.sd_part.proofs.numbers.numbers_within.Goals as goal

pub returns : goal.returns
returns c =
    let shift = c.args.window.now.shift in
    let extents = c.args.window.now.extents in
    let intervals = c.args.intervals.now in
    let sides : c.in_ok-sides.sides.items ≡ sides_of shift extents intervals = search rules in
    let pushed : c.push_numbers.new.found.items ≡ numbers_along c.in_ok-sides.sides.items 0 = search rules in
    let within : BeginsWithin shift intervals = search rules in
    pushed ∙ ap (λ (l : List Side). numbers_along l 0) sides ∙ numbers-are shift extents intervals c.requires.shift c.requires.extents within
