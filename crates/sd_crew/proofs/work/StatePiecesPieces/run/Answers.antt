use Rattle.std.proofs.Common.{sym, subst}
use Rattle.sd_graph.specs.TreeFold.{graph_tree}
use Rattle.sd_piece.specs.Run.{MayRun}
use Rattle.sd_crew.specs.Work.{StateWork, IsCutOf}
use Rattle.sd_crew.proofs.Works.{end-of}
use Rattle.sd_crew.proofs.work.StatePiecesPieces.run.Goals as goal

pub run_piece-requires : goal.run_piece-requires
run_piece-requires g c = record { may = subst (λ (work : StateWork). MayRun (graph_tree work.graph) c.args.cut) (sym c.self.view_is) c.requires.cut.may }

pub returns : goal.returns
returns g c =
    end-of g.A.Assigned.assignment _ c.args._number c.args.cut c.in_ok-cut.field-0.cut c.in_ok-cut.field-0.end c.self.invariant
    (subst (λ (work : StateWork). IsCutOf g.A.Assigned.assignment work c.args._number c.args.cut) (sym c.self.view_is) c.requires) c.in_ok-cut.ensures.ran
