use Rattle.std.proofs.Common.{◌≡◌, ◌<◌, ◌∙◌, ℕ, ap, sym, subst, length, arith, rules}
use Rattle.std.specs.List.{AllByRecursion}
use Rattle.sd_tcode.specs.op.Within.{IsWithin, most_kept}
use Rattle.sd_tcode.specs.tcode.Compiled.{IsSafe, room_of}
use Rattle.sd_tcode.specs.tcode.Held.{IsFrameOf, HaveDims}
use Rattle.sd_tcode.proofs.tcode_lemmas.Linked.{Fits, arrays_many}
use Rattle.sd_tcode.proofs.tcode.running.run_code_from.Goals as goal

pub run_ops-requires : goal.run_ops-requires
run_ops-requires g c = λ κs outlives.
    let code = c.args.code.now in
    let frame = c.args.frame.now in
    let connectors = g.S.Source.connectors c.args.source.now in
    let safe : IsSafe code = subst IsSafe c.code.view_is c.code.invariant in
    let ops : c.deref.result.now ≡ code.ops = c.deref.ensures.value ∙ ap (λ k. k.ops) c.code.view_is in
    let room : g.room ≡ room_of code = search rules in
    let is : IsFrameOf code frame = search rules in
    let dims : HaveDims code connectors = search rules in
    let held : (connector : ℕ) → connector < code.layout.inputs → g.S.Source.is_held c.args.source.now connector = search rules in
    let fits : Fits code frame.registers.items connectors = record { registers_many = is.registers; arrays_dims = dims } in
    let registers = ap length c.deref_mut.ensures.value ∙ (is.registers ∙ sym (ap (λ r. r.registers) room)) in
    let arrays = arrays_many code frame.registers.items connectors safe fits ∙ sym (ap (λ r. r.connectors) room) in
    let inputs = ap (λ r. r.inputs) room in
    let many_connectors = ap (λ r. r.connectors) room in
    let low = safe.inputs in
    let slots = safe.slots in
    let kept = ap length c.clear.ensures.kept in
    let many = ap most_kept ops in (
      outlives,
      (
        subst (λ l. AllByRecursion (IsWithin g.room) l) (sym ops) (subst (λ r. AllByRecursion (IsWithin r) code.ops) (sym room) safe.within),
        (
          registers,
          (
            arrays,
            (
              omega (arith, inputs, many_connectors, low),
              (
                λ connector below. held connector (omega (arith, below, inputs)),
                omega (arith, slots, kept, many, c.clear.ensures.slots, is.slots),
              ),
            ),
          ),
        ),
      ),
    )
