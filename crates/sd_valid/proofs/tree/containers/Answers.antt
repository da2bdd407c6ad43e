use Rattle.std.proofs.Common.{◌≡◌, rules, string_bytes, List, String, [], subst}
use Rattle.std.specs.declared.alloc.Global.{Global}
use Rattle.sd_graph.specs.declared.container.Container.{Container}
use Rattle.sd_valid.proofs.Names.{AreBoundSoFar, one_more_bound, all_bound}
use Rattle.sd_valid.proofs.tree.containers.Goals as goal

pub loop-name-init : goal.loop-name-init
loop-name-init c = ([], search rules, search rules)

pub loop-name-preserved-in_ok-insert : goal.loop-name-preserved-in_ok-insert
loop-name-preserved-in_ok-insert c =
    let same : string_bytes c.in_ok-to_string.field-0 ≡ string_bytes c.in-Some.name.now = search rules in
    one_more_bound c.args.sizes.now _ _ _ _ _ _ _ _ _ c.in_ok-insert.ensures.entries c.in-Some.ensures.steps same c.in_ok-container.ensures c.iter-name-items.ensures.unique c.loop-name.invariant

pub loop-name-preserved : goal.loop-name-preserved
loop-name-preserved c =
    let same : string_bytes c.in_ok-to_string.field-0 ≡ string_bytes c.in-Some.name.now = search rules in
    one_more_bound c.args.sizes.now _ _ _ _ _ _ _ _ _ c.in_ok-insert.ensures.entries c.in-Some.ensures.steps same c.in_ok-container.ensures c.iter-name-items.ensures.unique c.loop-name.invariant

pub returns : goal.returns
returns c =
    let none : c.loop-name.name-iterator ≡ [] = search rules in
    all_bound c.args.sizes.now c.loop-name.bound.entries c.args.all.now.entries
    (subst (λ (left : List (String Global × Container)). AreBoundSoFar c.args.sizes.now c.loop-name.bound.entries left c.args.all.now.entries) none c.loop-name.invariant)
