use Rattle.std.proofs.Common.{◌∙◌, ap, sym, option_map}
use Rattle.sd_graph.specs.TreeFold.{item_trees, kind_tree}
use Rattle.sd_elab.specs.items.Appended.{appended}
use Rattle.sd_elab.specs.items.Kinds.{item_if_any}
use Rattle.sd_elab.proofs.items_lemmas.ItemLemmas.{item_pushed}
use Rattle.sd_elab.proofs.items.item.push.Goals as goal

pub returns-in_ok-push : goal.returns-in_ok-push
returns-in_ok-push c =
    ap item_trees c.in_ok-push.ensures.items
    ∙ item_pushed c.args.items.now.items record { line = c.args.line; kind = c.in-Some.kind }
    ∙ ap (λ kind. appended (item_trees c.args.items.now.items) (item_if_any c.args.line (option_map kind_tree kind))) (sym c.in-Some.is)
