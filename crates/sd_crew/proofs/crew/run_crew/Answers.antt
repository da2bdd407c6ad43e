use Rattle.std.proofs.Common.{ℕ, replicate, pos, rules, sym, ◌∙◌, ap, subst}
use Rattle.sd_graph.specs.TreeFold.{graph_tree}
use Rattle.sd_graph.specs.declared.graph.ItemKind.TheViews.{out-Sdfg}
use Rattle.sd_mem.specs.mem.Shaped.{Shaped}
use Rattle.sd_crew.specs.Going.{Stands, GoesOn}
use Rattle.sd_crew.proofs.Going.{values-begin, stands-first, many}
use Rattle.sd_crew.proofs.crew.run_crew.Goals as goal

pub loop-init : goal.loop-init
loop-init g c = record {
  goes_on = search rules;
  stands = subst (λ (m : Shaped). Stands (graph_tree c.args.bound.now.graph) c.args.memory.now c.args.turns 0 c.in_ok-values.values.items m c.args.turns) (sym c.in_ok-copy.ensures)
      (stands-first (graph_tree c.args.bound.now.graph) c.args.memory.now c.args.turns c.in_ok-values.values.items
      (values-begin c.args.bound.now.graph c.in_ok-values.values.items
      (c.in_ok-values.ensures.items_if_clones_equal (λ x h. h) ∙ ap (λ (count : ℕ). replicate count (pos 0)) (c.len.ensures ∙ many (out-Sdfg c.args.bound.now.graph).variables)))
      c.requires.widths c.requires.turns);
}

pub returns-in-End : goal.returns-in-End
returns-in-End g c =
    subst (GoesOn (graph_tree c.args.bound.now.graph) c.args.memory.now c.args.turns) c.in-End.is (c.in_ok-next.ensures c.args.memory.now c.args.turns c.loop.invariant.stands)
