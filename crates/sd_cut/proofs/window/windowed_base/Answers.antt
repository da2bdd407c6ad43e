use Rattle.std.proofs.Common.{rules, ◌≡◌, ◌∙◌, ap}
use Rattle.sd_graph.specs.TreeFold.{graph_tree}
use Rattle.sd_graph.specs.TreeParts.{containers_of}
use Rattle.sd_graph.specs.ContainerParts.{Containers}
use Rattle.sd_cut.specs.Windowed.{ways_from}
use Rattle.sd_cut.proofs.Opened.{containers_in}
use Rattle.sd_cut.proofs.Reaching.{windowed_reach}
use Rattle.sd_cut.proofs.window.windowed_base.Goals as goal

pub returns-clause-reach : goal.returns-clause-reach
returns-clause-reach c =
    let same : c.from.result ≡ c.in_ok-ways.ways.items = search rules in
    windowed_reach (containers_of (graph_tree c.args.graph.now)) c.args.windows.now record { ways = c.from.result; around = c.new.result }
    (same ∙ c.in_ok-ways.ensures ∙ ap (λ (containers : Containers). ways_from containers 0 c.args.windows.now) (containers_in c.args.graph.now))
