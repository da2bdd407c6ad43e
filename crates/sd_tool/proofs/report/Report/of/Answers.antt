use Rattle.std.proofs.Common.{◌∙◌, ap, sym, subst}
use Rattle.sd_part.specs.Whole.{IsOfWidths}
use Rattle.sd_race.specs.race.Pairs.{IsGraphAccepted}
use Rattle.sd_tool.specs.Workspace.{work_of, graph_of}
use Rattle.sd_tool.specs.declared.steering.Steered.{Steered}
use Rattle.sd_tool.proofs.Ended.{says_print, says_matches, says_check, says_plan}
use Rattle.sd_tool.proofs.report.Report.of.Goals as goal

pub run-requires-clause-widths : goal.run-requires-clause-widths
run-requires-clause-widths g c κs within = subst (λ (kept : Steered). IsOfWidths kept.work.memory) (sym c.in_ok-accepted-in-Run.ensures.same) c.requires.widths

pub returns-in-Print-clause-tells : goal.returns-in-Print-clause-tells
returns-in-Print-clause-tells g c = says_print (work_of c.args.kept.work) (graph_of c.args.kept) _ c.args.kept.picks.items c.args.command c.in-Print.is c.into_graph.ensures

pub returns-in-Matches-clause-tells : goal.returns-in-Matches-clause-tells
returns-in-Matches-clause-tells g c = says_matches (work_of c.args.kept.work) (graph_of c.args.kept) _ c.args.kept.picks.items c.args.command c.in-Matches.is c.into_graph-in-Matches.ensures

pub returns-in_ok-accepted-in-Check-clause-tells : goal.returns-in_ok-accepted-in-Check-clause-tells
returns-in_ok-accepted-in-Check-clause-tells g c =
    let same = c.in_ok-accepted-in-Check.ensures.same in
    says_check (work_of c.args.kept.work) (graph_of c.args.kept) _ c.args.kept.picks.items c.args.command c.in-Check.is (c.into_graph-in-Check.ensures ∙ ap graph_of same)
    (subst (λ kept. IsGraphAccepted (graph_of kept)) same c.in_ok-accepted-in-Check.ensures.accepted)

pub returns-in_ok-accepted-in-Plan-clause-tells : goal.returns-in_ok-accepted-in-Plan-clause-tells
returns-in_ok-accepted-in-Plan-clause-tells g c =
    let same = c.in_ok-accepted-in-Plan.ensures.same in
    says_plan (work_of c.args.kept.work) (graph_of c.args.kept) _ c.args.kept.picks.items c.args.command c.in-Plan.is (c.into_graph-in-Plan.ensures ∙ ap graph_of same)
    (subst (λ kept. IsGraphAccepted (graph_of kept)) same c.in_ok-accepted-in-Plan.ensures.accepted)
