use Rattle.std.proofs.Common.{◌≡◌, ◌∙◌, ap, sym, subst, option_map, None, Some, Ok, Vec, ℕ, ◌+◌, ◌<◌, ◌++◌, map, length, arith}
use Rattle.std.specs.List.{AllByRecursion}
use Rattle.std.specs.declared.alloc.Global.{Global}
use Rattle.sd_tcode.specs.tcode.Compiled.{Compiled, AreOutputs}
use Rattle.sd_tcode.specs.tcode.Held.{kept_output}
use Rattle.sd_tcode.specs.declared.tcode.frame.Frame.{Frame}
use Rattle.sd_tcode.proofs.tcode_lemmas.Frames.{outputs_there}
use Rattle.sd_tcode.proofs.tcode_lemmas.From.{list_means, fault_from, kept_from}
use Rattle.sd_tcode.proofs.tcode.running.run_from.Goals as goal

pub returns-in-Err-clause-meaning : goal.returns-in-Err-clause-meaning
returns-in-Err-clause-meaning g c tree is_code =
    fault_from tree c.args.code.now c.args.frame.now c.run_code_from.new.frame (g.S.Source.connectors c.args.source.now) c.in-Err.ensures.safe c.requires.ready.fits c.requires.dims is_code
    c.in-Err.ensures.frame c.in-Err.ensures.given c.in-Err.kind c.in-Err.ensures.done

pub returns-in_default-plain-clause-meaning : goal.returns-in_default-plain-clause-meaning
returns-in_default-plain-clause-meaning g c tree is_code =
    let none : c.args.code.now.plain ≡ None = sym (ap (λ (k : Compiled). k.plain) c.code.view_is) ∙ ap (option_map (λ (v : Vec ℕ Global). v.items)) c.in_default-plain.is in
    list_means tree c.args.code.now c.args.frame.now c.run_code_from.new.frame (g.S.Source.connectors c.args.source.now) c.in_default.ensures.safe c.requires.ready.fits c.requires.dims is_code
    none c.in_default.ensures.given (Ok tt) c.in_default.ensures.done

pub returns-in-Some-clause-meaning : goal.returns-in-Some-clause-meaning
returns-in-Some-clause-meaning g c tree is_code =
    let some : c.args.code.now.plain ≡ Some c.in-Some.order.items = sym (ap (λ (k : Compiled). k.plain) c.code.view_is) ∙ ap (option_map (λ (v : Vec ℕ Global). v.items)) c.in-Some.is in
    let new = c.run_code_from.new.frame in
    let last : Frame = record { registers = new.registers; arrays = new.arrays; log = c.keep_outputs.new.log; inputs = new.inputs; variables = new.variables } in
    let kept : c.keep_outputs.new.log.0 ≡ map (kept_output new.variables new.registers.items) c.in-Some.order.items =
    c.keep_outputs.ensures.kept ∙ (λ i. c.clear.ensures.kept i ++ map (kept_output new.variables (c.deref-in-Some.ensures.value i)) (c.deref.ensures.value i)) in
    kept_from tree c.args.code.now c.args.frame.now new (g.S.Source.connectors c.args.source.now) c.in_default.ensures.safe c.requires.ready.fits c.requires.dims is_code
    c.in_default.ensures.frame last c.in-Some.order.items some c.in_default.ensures.done c.in_default.ensures.given kept

pub keep_outputs-requires-clause-outputs : goal.keep_outputs-requires-clause-outputs
keep_outputs-requires-clause-outputs g c =
    let some : c.args.code.now.plain ≡ Some c.in-Some.order.items = sym (ap (λ (k : Compiled). k.plain) c.code.view_is) ∙ ap (option_map (λ (v : Vec ℕ Global). v.items)) c.in-Some.is in
    let safe = c.in_default.ensures.safe in
    let low = subst (λ p. AreOutputs c.args.code.now.layout p) some safe.outputs in
    let many = c.in_default.ensures.frame.registers in
    let variables = c.in_default.ensures.frame.variables in
    let room = safe.registers in
    subst (λ l. AllByRecursion (λ connector. c.run_code_from.new.frame.variables + connector < length c.deref-in-Some.result.now) l) (sym c.deref.ensures.value)
    (outputs_there c.in-Some.order.items c.run_code_from.new.frame.variables c.args.code.now.layout.connectors (length c.deref-in-Some.result.now) (omega (arith, many, variables, room, ap length c.deref-in-Some.ensures.value)) low)
