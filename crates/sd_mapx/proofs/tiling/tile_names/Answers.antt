use Rattle.std.proofs.Common.{◌≡◌, ◌∙◌, ℕ, map, ap, sym, string_bytes}
use Rattle.std.proofs.lemmas.Result.{IfOk-weaker}
use Rattle.sd_range.specs.declared.range.Range.{Range}
use Rattle.sd_graph.specs.TreeFold.{graph_tree}
use Rattle.sd_graph.proofs.TreeLemmas.{graph_opened}
use Rattle.sd_validity.specs.rules.GraphParts.{variables_of}
use Rattle.sd_mapx.specs.FreshNames.{name_of, fresh_names}
use Rattle.sd_mapx.proofs.tiling.tile_names.Goals as goal

pub returns : goal.returns
returns c =
    let graph = c.args.found.now.graph.now in
    let variables : map string_bytes c.deref.result.now ≡ variables_of (graph_tree graph) = ap (map string_bytes) c.deref.ensures.value ∙ sym (ap variables_of (graph_opened graph)) in
    IfOk-weaker c.fresh_names.result _ _ (λ fresh is. is
    ∙ (λ i. fresh_names (c.in_ok-used.ensures i) (map (λ (param : ℕ × Range). name_of (variables i) param.0) (c.params_of.ensures i)))) c.fresh_names.ensures
