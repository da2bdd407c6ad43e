use Rattle.std.proofs.Common.{◌≡◌, ◌∙◌, ap, sym, subst, List, false}
use Rattle.sd_graph.specs.TreeFold.{act_tree, value_tree, value_trees}
use Rattle.sd_graph.specs.declared.tasklet.Value.{Value}
use Rattle.sd_tasklet.proofs.tasklet_lemmas.Acts.{out_tree}
use Rattle.sd_tcode.specs.tcode.Plain as plain
use Rattle.sd_tcode.specs.tcode.Emitted.{is_scalar}
use Rattle.sd_tcode.proofs.tcode_lemmas.Plains.{sets_none}
use Rattle.sd_compile.proofs.plain.set_after.Goals as goal

pub returns-then-not-is_scalar : goal.returns-then-not-is_scalar
returns-then-not-is_scalar c =
    let scalar : is_scalar (value_trees c.in-Out.at.items) ≡ false = subst (λ (l : List Value). is_scalar (value_trees l) ≡ false) c.deref.ensures.value (sym c.is_scalar.ensures ∙ c.if-not-is_scalar.true) in
    ap (plain.set_after c.args.order.now.items) (ap act_tree c.in-Out.is ∙ out_tree c.in-Out.connector c.in-Out.at c.in-Out.value)
    ∙ sets_none c.args.order.now.items c.in-Out.connector (value_trees c.in-Out.at.items) (value_tree c.in-Out.value) scalar
