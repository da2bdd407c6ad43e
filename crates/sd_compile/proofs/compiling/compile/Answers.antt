use Rattle.std.proofs.Common.{◌≡◌, ◌∙◌, ◌+◌, ap, sym, subst, option_map, length, ◌++◌, arith, length-append}
use Rattle.std.proofs.lemmas.List.{length-map}
use Rattle.std.specs.List.{AllByRecursion}
use Rattle.std.proofs.lemmas.Grind.{common_steps}
use Rattle.sd_graph.specs.TreeFold.{tasklet_tree}
use Rattle.sd_tcode.specs.tcode.Emitted.{layout_of, tasklet_code}
use Rattle.sd_tcode.specs.op.Within.{most_kept}
use Rattle.sd_compile.specs.Reach.{reach_all}
use Rattle.sd_tcode.specs.tcode.Plain.{plain_of}
use Rattle.sd_tcode.specs.tcode.Compiled.{is_plain, AreOutputs, room_of}
use Rattle.sd_tcode.specs.tcode.CodeView.{compiled}
use Rattle.sd_compile.proofs.Shapes.{IsRoom, IsShaped, tasklet_shaped, within_all}
use Rattle.sd_tcode.proofs.tcode_lemmas.Plains.{outputs_low}
use Rattle.sd_compile.proofs.compiling.compile.Goals as goal

pub new-requires : goal.new-requires
new-requires c =
    let tree = tasklet_tree c.args.code.now in
    let plain = option_map (λ order. order.items) c.in_ok-plain.plain in
    let layout : c.in_ok-layout.layout ≡ layout_of tree = c.in_ok-layout.ensures in
    let plain_is : plain ≡ plain_of tree = c.in_ok-plain.ensures in
    let ops : c.emit_acts.new.ops.items ≡ tasklet_code (is_plain plain) tree = grind (arith, common_steps) in
    let code = compiled (record { ops = c.emit_acts.new.ops; layout = c.in_ok-layout.layout; dims = c.in_ok-dims.dims; registers = c.max-registers.result; slots = c.most_kept.result + c.count_plain.result; plain = c.in_ok-plain.plain }) in
    let inputs = ap (λ l. l.inputs) layout in
    let variables = ap (λ l. l.variables) layout in
    let connectors = ap (λ l. l.connectors) layout in
    let is_room : IsRoom tree (room_of code) = record { given = (λ i. inputs i + variables i); inputs = inputs; connectors = connectors; dimensions = c.requires.dimensions } in
    let shaped = subst (λ l. AllByRecursion (IsShaped (room_of code)) l) (sym ops) (tasklet_shaped tree (room_of code) is_room (is_plain plain) c.requires) in
    let reach = c.reach_all.ensures ∙ ap reach_all c.deref-4.ensures.value in
    let kept = c.most_kept.ensures.kept ∙ ap most_kept c.deref-5.ensures.value in
    record {
      within = within_all (room_of code) c.emit_acts.new.ops.items shaped (omega (arith, reach, c.max-registers.ensures));
      slots = omega (arith, kept, c.count_plain.ensures);
      inputs = omega (arith, inputs, connectors);
      registers = omega (arith, c.in_ok-outputs.ensures, c.max-registers.ensures);
      outputs = subst (λ l. AreOutputs l plain) (sym layout) (subst (λ p. AreOutputs (layout_of tree) p) (sym plain_is) (outputs_low tree c.requires.names));
      dims = omega (arith, ap length c.in_ok-dims.ensures, length-map (c.deref-2.result.now ++ c.deref-3.result.now) (λ port. port.dims), length-append c.deref-2.result.now c.deref-3.result.now, connectors, ap length c.deref-2.ensures.value, ap length c.deref-3.ensures.value);
    }
