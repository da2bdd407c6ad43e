use Rattle.std.proofs.lemmas.Result.{IfOk-weaker}
use Rattle.sd_work.specs.Run.{Run}
use Rattle.sd_graph.specs.TreeFold.{graph_tree}
use Rattle.sd_graph.specs.Unfold.{run_of}
use Rattle.sd_race.specs.race.Pairs.{IsGraphAccepted}
use Rattle.sd_validity.specs.rules.Valid.{IsValid}
use Rattle.sd_seq.specs.RunEnd.{outcome_of}
use Rattle.sd_core.specs.Interleaving.{EndsAsSequential}
use Rattle.sd_core.proofs.Interleaved.{interleaved}
use Rattle.sd_core.proofs.run.run_picked.Goals as goal

pub returns-clause-interleaving : goal.returns-clause-interleaving
returns-clause-interleaving c =
    let tree = graph_tree c.args.bound.now.graph in
    let memory = c.args.memory.contents in
    IfOk-weaker c.run_by.result (λ end. Run (run_of tree memory) c.args.turns c.args.picks.now (outcome_of end))
    (λ end. IsValid tree → IsGraphAccepted tree → EndsAsSequential (run_of tree memory) c.args.turns (outcome_of end))
    (λ end run. interleaved tree memory c.args.turns c.args.picks.now (outcome_of end) c.show_normal_forms.ensures run) c.run_by.ensures
