use Rattle.std.proofs.Common.{ap, sym, ◌∙◌, map, unsigned_abs, slice_index_or}
use Rattle.std.proofs.lemmas.Result.{IfOk-weaker}
use Rattle.sd_graph.specs.TreeParts.{containers_of}
use Rattle.sd_graph.specs.ContainerParts.{no_container, extents_of}
use Rattle.sd_graph.proofs.TreeLemmas.{graph_opened}
use Rattle.sd_json.specs.AnswerText.{head_of}
use Rattle.sd_json.proofs.Prefixes.{named_or, named_past}
use Rattle.sd_json.proofs.text.line_head.Goals as goal

pub returns-in-Some : goal.returns-in-Some
returns-in-Some c =
    let at = named_or _ c.args.container c.in-Some.name.now c.in-Some.array.now no_container c.in-Some.ensures.entry in
    let entry = ap (λ containers. slice_index_or containers c.args.container no_container) (ap containers_of (graph_opened c.args.bound.now.graph)) ∙ at in
    IfOk-weaker c.head_of.result _ _ (λ head e. e
    ∙ (λ i. head_of (c.as_str.ensures.value i) (map (λ extent. unsigned_abs extent.constant) (c.as_slice.ensures i)))
    ∙ (λ i. head_of (sym entry i).0 (extents_of (sym entry i).1))) c.head_of.ensures

pub returns-in-None : goal.returns-in-None
returns-in-None c =
    let at = named_past _ c.args.container no_container c.in-None.ensures.entry in
    let entry = ap (λ containers. slice_index_or containers c.args.container no_container) (ap containers_of (graph_opened c.args.bound.now.graph)) ∙ at in
    IfOk-weaker c.head_of-in-None.result _ _ (λ head e. e ∙ (λ i. head_of (sym entry i).0 (extents_of (sym entry i).1))) c.head_of-in-None.ensures
