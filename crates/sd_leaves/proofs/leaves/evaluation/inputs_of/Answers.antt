use Rattle.std.proofs.Common.{◌≡◌, ◌++◌, List, ℕ, ℤ, map, ap, sym, ◌∙◌}
use Rattle.std.proofs.lemmas.List.{map-append}
use Rattle.std.proofs.lemmas.Simd.{map-map}
use Rattle.sd_num.specs.Wrapped.{wrapped}
use Rattle.sd_range.specs.Affine.{variable_value}
use Rattle.sd_graph.specs.Context.{link_extents}
use Rattle.sd_graph.specs.TaskletMeaning.{Inputs}
use Rattle.sd_graph.specs.declared.link.Link.{Link}
use Rattle.sd_tasklet.specs.tasklet.Given.{told_extent}
use Rattle.sd_scope.specs.scope.Standing.{context_of}
use Rattle.sd_leaves.proofs.leaves.evaluation.inputs_of.Goals as goal

pub returns : goal.returns
returns c = λ tree base.
    let links_of = link_extents (context_of tree base c.args.scope.now) in
    let extents_of = λ (link : Link). map told_extent (links_of link) in
    let values_of = λ (variables : List ℕ). map (λ variable. wrapped (variable_value c.args.scope.now.values.values variable)) variables in
    let extents : c.from.result ≡ map (map told_extent) (map links_of (c.args.ins.now ++ c.args.outs.now)) =
    c.from.ensures ∙ c.in_ok-push_extents-2.ensures tree base
    ∙ ap (λ first. first ++ map extents_of c.args.outs.now) (c.in_ok-push_extents.ensures tree base ∙ ap (λ none. none ++ map extents_of c.args.ins.now) c.in_ok-extents.ensures.items)
    ∙ sym (map-append extents_of c.args.ins.now c.args.outs.now) ∙ sym (map-map (map told_extent) links_of (c.args.ins.now ++ c.args.outs.now)) in
    let variables : c.in_ok-values_of_variables.field-0 ≡ values_of c.args.code.now.variables.items = c.in_ok-values_of_variables.ensures ∙ ap values_of c.as_slice.ensures.value in
    let inputs : List (List ℤ) → List (List ℕ) → List ℤ → Inputs = λ values extents variables. record { values = values; extents = extents; variables = variables } in
    ap (λ values. inputs values c.from.result c.in_ok-values_of_variables.field-0) c.read.view_is
    ∙ ap (λ extents. inputs c.args.read extents c.in_ok-values_of_variables.field-0) extents
    ∙ ap (inputs c.args.read (map (map told_extent) (map links_of (c.args.ins.now ++ c.args.outs.now)))) variables
