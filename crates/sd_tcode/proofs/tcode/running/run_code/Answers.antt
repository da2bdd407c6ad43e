use Rattle.std.proofs.Common.{◌≡◌, ◌∙◌, ap, sym, subst, length, map, arith}
use Rattle.std.specs.List.{AllByRecursion}
use Rattle.sd_tcode.specs.op.Within.{IsWithin, most_kept}
use Rattle.std.proofs.lemmas.List.{length-map}
use Rattle.sd_tcode.specs.op.Machine.{held}
use Rattle.sd_tcode.specs.op.Memory.{HasCells}
use Rattle.sd_tasklet.specs.tasklet.Given.{IsWhole}
use Rattle.sd_tcode.specs.tcode.Compiled.{IsSafe}
use Rattle.sd_tcode.proofs.tcode_lemmas.Linked.{arrays_many, has_cells}
use Rattle.sd_tcode.proofs.tcode_lemmas.Frames.{frame_fits, frame_given}
use Rattle.sd_tcode.proofs.tcode.running.run_code.Goals as goal

pub run_own_ops-requires : goal.run_own_ops-requires
run_own_ops-requires g c =
    let code = c.args.code.now in
    let frame = c.args.frame.now in
    let safe : IsSafe code = subst IsSafe c.code.view_is c.code.invariant in
    let ops : c.deref.result.now ≡ code.ops = c.deref.ensures.value ∙ ap (λ k. k.ops) c.code.view_is in
    let room = c.requires.0 in
    let fits = frame_fits code frame c.requires.1.0 in
    let registers = ap length c.deref_mut.ensures.value ∙ (fits.registers_many ∙ sym (ap (λ r. r.registers) room)) in
    let arrays = arrays_many code frame.registers.items (map held frame.arrays.items) safe fits ∙ sym (ap (λ r. r.connectors) room) in
    let inputs = ap (λ r. r.inputs) room in
    let connectors = ap (λ r. r.connectors) room in
    let low = safe.inputs in
    let cells : HasCells code.layout.inputs (map held frame.arrays.items) = has_cells code frame.registers.items (map held frame.arrays.items) safe fits (subst IsWhole (frame_given code frame c.requires.1.0) c.requires.1.1) in
    let slots = safe.slots in
    let kept = ap length c.clear.ensures.kept in
    let many = ap most_kept ops in (
      subst (λ l. AllByRecursion (IsWithin g.room) l) (sym ops) (subst (λ r. AllByRecursion (IsWithin r) code.ops) (sym room) safe.within),
      (
        registers,
        (
          ap length c.deref-2.ensures.value ∙ (sym (length-map frame.arrays.items held) ∙ arrays),
          (
            omega (arith, inputs, connectors, low),
            (
              subst (λ l. HasCells g.room.inputs (map held l)) (sym c.deref-2.ensures.value) (subst (λ n. HasCells n (map held frame.arrays.items)) (sym inputs) cells),
              omega (arith, slots, kept, many, c.clear.ensures.slots, c.requires.1.0.slots),
            ),
          ),
        ),
      ),
    )
