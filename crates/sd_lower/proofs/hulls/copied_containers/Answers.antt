use Rattle.std.proofs.Common.{◌≡◌, rules, string_bytes}
use Rattle.sd_graph.proofs.NameLemmas.{one_more_copied}
use Rattle.sd_lower.proofs.hulls.copied_containers.Goals as goal

pub loop-name-preserved-in_ok-insert : goal.loop-name-preserved-in_ok-insert
loop-name-preserved-in_ok-insert c =
    let same : string_bytes c.in_ok-to_string.field-0 ≡ string_bytes c.in-Some.name.now = search rules in
    one_more_copied _ _ _ _ _ _ _ _ _ c.in_ok-insert.ensures.entries c.in-Some.ensures.steps same c.in_ok-copy_of.ensures c.iter-name-items.ensures.unique c.loop-name.invariant

pub loop-name-preserved : goal.loop-name-preserved
loop-name-preserved c =
    let same : string_bytes c.in_ok-to_string.field-0 ≡ string_bytes c.in-Some.name.now = search rules in
    one_more_copied _ _ _ _ _ _ _ _ _ c.in_ok-insert.ensures.entries c.in-Some.ensures.steps same c.in_ok-copy_of.ensures c.iter-name-items.ensures.unique c.loop-name.invariant
