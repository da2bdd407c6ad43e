use Rattle.std.proofs.Common.{◌≡◌, ◌∙◌, [], ◌∷◌, ◌++◌, length, ap, sym, subst, rules, string_bytes}
use Rattle.sd_graph.specs.TreeFold.{graph_tree}
use Rattle.sd_elab.specs.items.GraphsByNumber.{AreBelow, with_graphs, graphs_of}
use Rattle.sd_elab.proofs.items_lemmas.GraphsLemmas.{graphs_grown, below_grown}
use Rattle.sd_elab.proofs.items.graphs.Graphs.push.Goals as goal

pub invariant_of-self-2 : goal.invariant_of-self-2
invariant_of-self-2 c =
    let name = string_bytes c.args.name in
    let before = c.self.inside.graphs.items in
    let number : c.in_ok-number.number ≡ length before = search rules in
    let numbers : c.push.new.self ≡ (name, length before) ∷ c.self.inside.numbers =
    c.in_ok-push.ensures.grown ∙ ap (λ number. (name, number) ∷ c.self.inside.numbers) number in
    let graphs : c.push-2.new.self.items ≡ before ++ c.args.graph ∷ [] = c.in_ok-push-2.ensures.items ∙ ap (λ graphs. graphs ++ c.args.graph ∷ []) c.in_ok-reserve.ensures.items in
    subst (λ graphs. AreBelow (length graphs) c.push.new.self) (sym graphs)
    (subst (λ numbers. AreBelow (length (before ++ c.args.graph ∷ [])) numbers) (sym numbers) (below_grown before c.args.graph name c.self.inside.numbers c.self.invariant))

pub returns : goal.returns
returns c =
    let name = string_bytes c.args.name in
    let before = c.self.inside.graphs.items in
    let number : c.in_ok-number.number ≡ length before = search rules in
    let numbers : c.push.new.self ≡ (name, length before) ∷ c.self.inside.numbers =
    c.in_ok-push.ensures.grown ∙ ap (λ number. (name, number) ∷ c.self.inside.numbers) number in
    let graphs : c.push-2.new.self.items ≡ before ++ c.args.graph ∷ [] = c.in_ok-push-2.ensures.items ∙ ap (λ graphs. graphs ++ c.args.graph ∷ []) c.in_ok-reserve.ensures.items in
    ap (λ graphs. with_graphs graphs c.push.new.self) graphs ∙ ap (λ numbers. with_graphs (before ++ c.args.graph ∷ []) numbers) numbers
    ∙ graphs_grown before c.args.graph name c.self.inside.numbers c.self.invariant ∙ ap (λ known. (name, graph_tree c.args.graph) ∷ graphs_of known) c.self.view_is
