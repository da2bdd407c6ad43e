use Rattle.std.proofs.Common.{◌≡◌, false, map, ap, sym, subst, rules}
use Rattle.sd_graph.specs.TreeFold.{graph_tree}
use Rattle.sd_graph.specs.Unfold.{run_of}
use Rattle.sd_core.specs.declared.run.Chosen.{Chosen}
use Rattle.sd_seq.specs.RunEnd.{outcome_of}
use Rattle.sd_report.specs.stepping.Step.{IsPicked}
use Rattle.sd_report.proofs.stepping_lemmas.Steps.{without_steps}
use Rattle.sd_report.proofs.stepping.telling.picked.Goals as goal

pub returns : goal.returns
returns c =
    let term = run_of (graph_tree c.args.bound.now.graph) c.args.memory.contents in
    let asked : c.args.traces ≡ false = search rules in
    subst (IsPicked term c.args.turns c.args.picks.now c.args.traces (outcome_of c.in_ok-end.end)) (sym (ap (map (λ (chosen : Chosen). (chosen.number, chosen.moves))) c.new.ensures.items))
    (without_steps term c.args.turns c.args.picks.now c.args.traces (outcome_of c.in_ok-end.end) asked c.in_ok-end.ensures.run)
