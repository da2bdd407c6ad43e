use Rattle.std.proofs.Common.{◌≡◌, ◌-◌, ◌<◌, ◌≤◌, ◌∙◌, ℕ, Vec, map, length, get_or, sym, ap, arith, rules}
use Rattle.std.specs.declared.alloc.Global.{Global}
use Rattle.sd_row.specs.view.View.{held_out}
use Rattle.sd_tcode.specs.op.Machine.{extents_at}
use Rattle.sd_row.proofs.view_lemmas.Seen.{input_extents, output_extents, extents_out}
use Rattle.sd_row.proofs.view.sight.extents_of.Goals as goal

pub returns-then-connector-len : goal.returns-then-connector-len
returns-then-connector-len c k memories =
    let within : c.args.connector < length c.args.views.now.inputs.items = search rules in
    let is : c.index.result.now ≡ get_or c.args.views.now.inputs.items c.args.connector c.index.result.now = search rules in
    c.as_slice.ensures.value
    ∙ sym (input_extents k memories c.args.views.now.inputs.items (map (λ (extents : Vec ℕ Global). held_out extents.items) c.args.views.now.outputs.items) c.args.connector c.index.result.now within is)

pub returns : goal.returns
returns c k memories =
    let inputs = c.args.views.now.inputs.items in
    let outputs = c.args.views.now.outputs.items in
    let behind : length inputs ≤ c.args.connector = search rules in
    let many : c.len-2.result ≡ length inputs = search rules in
    let number : c.args.connector - c.len-2.result ≡ c.args.connector - length inputs = ap (λ count. c.args.connector - count) many in
    let within : c.args.connector - c.len-2.result < length outputs = omega (arith, number, behind, c.requires) in
    let is : c.index-2.result.now ≡ get_or outputs (c.args.connector - c.len-2.result) c.index-2.result.now = search rules in
    c.as_slice-2.ensures.value
    ∙ sym (output_extents k memories inputs (map (λ (extents : Vec ℕ Global). held_out extents.items) outputs) c.args.connector behind
    ∙ ap (extents_at (map (λ (extents : Vec ℕ Global). held_out extents.items) outputs)) (sym number)
    ∙ extents_out outputs (c.args.connector - c.len-2.result) c.index-2.result.now within is)
