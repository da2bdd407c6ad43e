use Rattle.std.proofs.Common.{ap, ◌∙◌, map, string_bytes}
use Rattle.sd_graph.specs.TreeFold.{exit_tree}
use Rattle.sd_elab.specs.items.Graphs.{graph_named}
use Rattle.sd_elab.specs.items.GraphsByNumber.{graphs_of}
use Rattle.sd_lex.specs.TreeFold.{function_of, block_of}
use Rattle.sd_elab.specs.states.BuildingOf.{threaded_of, standing_of}
use Rattle.sd_elab.specs.states.Standing.{behind_all}
use Rattle.sd_elab.specs.states.Threaded.{closed, threaded_all}
use Rattle.sd_elab.proofs.elab_lemmas.FunctionLemmas.{states_made, containers_kept}
use Rattle.sd_elab.proofs.elab.function.built.Goals as goal

pub returns-clause-states : goal.returns-clause-states
returns-clause-states c =
    let begun = c.in_ok-building.building in
    let made = c.thread_all.new.building in
    let graphs = graph_named (graphs_of c.args.graphs.now) in
    states_made (map string_bytes c.args.symbols.now) graphs (function_of c.args.function.now) (standing_of begun) (threaded_of begun) (threaded_of made) (threaded_of c.close.new.self)
    c.in_ok-building.ensures.threaded c.in_ok-building.ensures.standing
    (c.in_ok-thread_all.ensures.threaded ∙ ap (λ body. threaded_all graphs (block_of body) (standing_of begun) (threaded_of begun)) c.deref.ensures.value)
    (c.in_ok-close.ensures.threaded ∙ ap (λ exits. closed (threaded_of made) (map exit_tree exits)) c.new.ensures.items)

pub returns-clause-containers : goal.returns-clause-containers
returns-clause-containers c =
    let begun = c.in_ok-building.building in
    let made = c.thread_all.new.building in
    containers_kept (map string_bytes c.args.symbols.now) (function_of c.args.function.now) (standing_of begun) (standing_of made) (standing_of c.close.new.self)
    c.in_ok-building.ensures.standing
    (c.in_ok-thread_all.ensures.standing ∙ ap (λ body. behind_all (block_of body) (standing_of begun)) c.deref.ensures.value)
    c.in_ok-close.ensures.standing
