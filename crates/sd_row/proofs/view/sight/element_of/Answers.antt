use Rattle.std.proofs.Common.{◌≡◌, ◌∙◌, map, get_or, sym, rules, w64, to_z, of_z}
use Rattle.std.proofs.lemmas.Int.{to_z-of_z}
use Rattle.sd_row.specs.view.View.{held_out}
use Rattle.sd_row.proofs.view_lemmas.Seen.{input_checked, input_outside, word_there}
use Rattle.sd_row.proofs.view.sight.element_of.Goals as goal

pub seen-requires : goal.seen-requires
seen-requires c =
    let is : c.index-window.result.now ≡ get_or c.args.views.now.inputs.items c.args.connector c.index-window.result.now = search rules in
    word_there c.args.k c.args.views.now.inputs.items c.args.connector c.index-window.result.now c.args.at.now c.requires.1 c.requires.0 is (search rules)

pub returns-then-is_inside : goal.returns-then-is_inside
returns-then-is_inside c =
    let is : c.index-window.result.now ≡ get_or c.args.views.now.inputs.items c.args.connector c.index-window.result.now = search rules in
    sym (input_checked c.args.k c.args.machine.now.memories c.args.views.now.inputs.items (map (λ extents. held_out extents.items) c.args.views.now.outputs.items) c.args.connector c.index-window.result.now c.args.at.now c.requires.0 is (search rules) (to_z w64 (of_z w64 c.seen.result)) (to_z-of_z w64 c.seen.result (record { sfits = c.seen.type_inv }) ∙ c.seen.ensures))

pub returns : goal.returns
returns c =
    let is : c.index-window.result.now ≡ get_or c.args.views.now.inputs.items c.args.connector c.index-window.result.now = search rules in
    sym (input_outside c.args.k c.args.machine.now.memories c.args.views.now.inputs.items (map (λ extents. held_out extents.items) c.args.views.now.outputs.items) c.args.connector c.index-window.result.now c.args.at.now c.requires.0 is (search rules))
