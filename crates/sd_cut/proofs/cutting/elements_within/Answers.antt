use Rattle.std.proofs.Common.{rules, ◌≡◌, ◌<◌, ◌^◌, [], length, map, subst}
use Rattle.sd_cut.specs.Elements.{told, told_at}
use Rattle.sd_cut.specs.Windowed.{window_of}
use Rattle.sd_cut.proofs.RowLemmas.{top_there, top_told, top_refused}
use Rattle.sd_cut.proofs.Within.{counted}
use Rattle.sd_cut.proofs.cutting.elements_within.Goals as goal

pub returns-clause-refused : goal.returns-clause-refused
returns-clause-refused c =
    top_refused c.args.memory.now c.args.container c.in_ok-index.index.items c.as_slice-shift.result.now c.as_slice-extents.result.now (window_of c.args.window.now) c.in-Err.refusal (search rules) (search rules) (search rules) c.in-Err.ensures.refused

pub returns-in-Ok-clause-within : goal.returns-in-Ok-clause-within
returns-in-Ok-clause-within c =
    top_there c.args.memory.now c.args.container c.in_ok-index.index.items c.as_slice-shift.result.now c.args.window.now.shift c.as_slice-extents.result.now c.args.window.now.extents (search rules) (search rules) (search rules) c.in-Ok.ensures.there

pub returns-in-Ok-clause-small : goal.returns-in-Ok-clause-small
returns-in-Ok-clause-small c =
    let none : map told c.new-none.result.items ≡ [] = search rules in
    let is = top_told c.args.memory.now c.args.container c.in_ok-index.index.items c.as_slice-shift.result.now c.args.window.now.shift c.as_slice-extents.result.now c.args.window.now.extents (map told c.in-Ok.cuts.items) (map told c.new-none.result.items)
    (search rules) (search rules) (search rules) none c.in-Ok.ensures.told in
    let fits : length c.in-Ok.cuts.items < 2 ^ 64 = search rules in
    subst (λ n. n < 2 ^ 64) (counted c.args.window.now.shift c.args.window.now.extents (told_at c.args.memory.now c.args.container) c.in-Ok.cuts.items c.requires.same is) fits

pub returns-in-Ok-clause-told : goal.returns-in-Ok-clause-told
returns-in-Ok-clause-told c =
    let none : map told c.new-none.result.items ≡ [] = search rules in
    top_told c.args.memory.now c.args.container c.in_ok-index.index.items c.as_slice-shift.result.now c.args.window.now.shift c.as_slice-extents.result.now c.args.window.now.extents (map told c.in-Ok.cuts.items) (map told c.new-none.result.items)
    (search rules) (search rules) (search rules) none c.in-Ok.ensures.told
