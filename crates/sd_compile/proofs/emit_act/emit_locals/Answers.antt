use Rattle.std.proofs.Common.{◌∙◌, sym}
use Rattle.sd_compile.proofs.Joined.{locals_none, locals_first, locals_step}
use Rattle.sd_compile.proofs.emit_act.emit_locals.Goals as goal

pub loop-k-init : goal.loop-k-init
loop-k-init c = locals_first c.args.ops.now.items c.args.first c.args.count

pub loop-k-preserved : goal.loop-k-preserved
loop-k-preserved c =
    locals_step c.loop-k.ops.items c.put.new.ops.items c.args.ops.now.items c.args.first c.args.count c.loop-k.k c.in_ok-to.to c.loop-k-test.true c.in_ok-to.ensures c.in_ok-put.ensures c.loop-k.invariant

pub returns : goal.returns
returns c = sym (locals_none c.loop-k.ops.items c.args.first c.args.count c.loop-k.k c.loop-k-test.false) ∙ c.loop-k.invariant
