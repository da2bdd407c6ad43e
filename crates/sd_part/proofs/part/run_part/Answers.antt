use Rattle.std.proofs.Common.{rules, ◌≡◌, ℕ, List, [], ◌∷◌, Option, sym, subst}
use Rattle.sd_graph.specs.TreeFold.{graph_tree, item_tree}
use Rattle.sd_graph.specs.TreeParts.{containers_of}
use Rattle.sd_graph.specs.Context.{own_reach}
use Rattle.sd_work.specs.BigStep.{big_step}
use Rattle.sd_mem.specs.machine.ComesTo.{ComesTo, outcome_of, IsEnd}
use Rattle.sd_mem.specs.mem.Shaped.{alone}
use Rattle.sd_cut.specs.Windowed.{reach_in, numbers_in}
use Rattle.sd_cut.specs.declared.window.Window.{Window}
use Rattle.sd_part.specs.Part.{part_term}
use Rattle.sd_part.proofs.Parts.{part-ends-on, if-ok, with_turns}
use Rattle.sd_part.proofs.part.run_part.Goals as goal

pub returns-clause-end : goal.returns-clause-end
returns-clause-end g c = if-ok c.ended.result (λ end so over after fits stands.
    let tree = graph_tree c.args.graph.now in
    let kind = (item_tree c.args.item.now).1 in
    let line = (item_tree c.args.item.now).0 in
    let windows = g.S.Store.windows c.lend.new.self in
    let marking = g.S.Store.marking c.lend.new.self (numbers_in (containers_of tree) windows) in
    let back = c.take_back-2.ensures.stands (containers_of tree) c.in_ok-lent.lent over after (c.in_ok-lent.ensures.fits (containers_of tree) over fits) stands in
    let out = c.in_ok-lent.ensures.stands (containers_of tree) over back.0 fits back.1 in
    let memories : c.lend-2.new.self.memories ≡ c.in_ok-lent.lent.contents ∷ [] = search rules in
    let turns : c.lend-2.new.self.turns ≡ c.args.turns = search rules in (
      back.0,
      out.0,
      λ most. so (alone after) (big_step (part_term tree (own_reach (containers_of tree)) c.args.state c.args.values.now kind line) most (alone back.0) c.args.turns)
          (subst (λ (left : ℕ). ComesTo (big_step (part_term tree (own_reach (containers_of tree)) c.args.state c.args.values.now kind line) most (alone back.0) c.args.turns) (outcome_of c.in_ok-end.field-0 (with_turns (alone after) left)))
          (sym c.turns-left.ensures)
          (part-ends-on tree c.args.state c.args.values.now kind line c.requires.boxes.0 c.args.boxes.now windows marking c.in_ok-lent.lent c.into_memory.result back.0 after c.args.turns
          c.lend-2.new.self c.run_over-end.new.machine c.in_ok-end.field-0 c.requires.fits c.requires.boxes.1 (c.in_ok-lent.ensures.marked (containers_of tree)) out.1 back.2 memories turns
          (subst (λ (w : List (Option Window)). IsEnd (λ most. big_step (part_term tree (reach_in (containers_of tree) w) c.args.state c.args.values.now kind line) most c.lend-2.new.self.memories c.lend-2.new.self.turns)
          c.lend-2.new.self c.in_ok-end.field-0 c.run_over-end.new.machine) c.windows.ensures c.in_ok-end.ensures)
          c.into_memory.ensures most)),
    ))
    c.ended.ensures
