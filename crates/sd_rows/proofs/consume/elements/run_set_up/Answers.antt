use Rattle.std.proofs.Common.{◌≡◌, ◌∷◌, pos, refl, sym, ap, ◌∙◌, subst, rules, w64, FitsSigned}
use Rattle.std.proofs.lemmas.Int.{to_z-of_z}
use Rattle.sd_work.specs.Memory.{Memory, contents_of, width_of}
use Rattle.sd_work.specs.Change.{changed_at}
use Rattle.sd_graph.specs.ContainerParts.{Containers, container_at}
use Rattle.sd_graph.specs.Context.{Context, place_at, private_memory}
use Rattle.sd_graph.specs.Unfold.{one_element}
use Rattle.sd_graph.specs.TreeFold.{graph_tree, tasklet_tree}
use Rattle.sd_graph.specs.declared.place.Place.{Place}
use Rattle.sd_mem.specs.machine.ComesTo.{IsEnd}
use Rattle.sd_mem.specs.declared.machine.end.End.TheVariants as ends
use Rattle.sd_scope.specs.scope.Standing.{context_of}
use Rattle.sd_row.proofs.instance_lemmas.Bodies.{containers_in}
use Rattle.sd_rows.specs.declared.consume.taking.TakingEnd.{TakingEnd}
use Rattle.sd_rows.specs.consume.Pool.{pool_of, element_width, pool_memory, pool_coming, inside, end_of_taking}
use Rattle.sd_rows.proofs.consume_lemmas.Pools.{pool_entered, same_sources, width_held}
use Rattle.sd_rows.proofs.consume.elements.run_set_up.Goals as goal

pub returns-in-Finished : goal.returns-in-Finished
returns-in-Finished c =
    let program = graph_tree c.args.graph.now in
    let context = context_of program c.args.base.now c.args.scope.now in
    let pool = pool_of (tasklet_tree c.args.tasklet.now) c.args.ins.now c.args.outs.now c.args.line c.args.stream c.args.element c.args.private.now context in
    let own : c.in_ok-own.own.contents ≡ pool_memory pool (pos 0) = c.in_ok-own.ensures.contents
    ∙ ap (λ (all : Containers). changed_at c.args.element (λ old. one_element (container_at all c.args.element).width (pos 0)) (private_memory all (c.args.element ∷ c.args.private.now))) (containers_in c.args.graph.now) in
    let entered : c.enter.new.self.memories ≡ pool_memory pool (pos 0) ∷ c.args.machine.now.memories = c.in_ok-enter.ensures.memories ∙ ap (λ (own : Memory). own ∷ c.args.machine.now.memories) own in
    let width_is : c.width-width.result ≡ element_width pool =
    c.width-width.ensures ∙ ap (λ memories. width_of (contents_of 0 c.args.element memories)) entered ∙ width_held pool c.args.element (pos 0) refl c.requires.pool.there in
    subst (λ (end : TakingEnd). IsEnd (pool_coming pool c.args.machine.now) c.args.machine.now (end_of_taking pool end) c.leave.new.self) c.in-Finished.is
    (pool_entered pool c.args.machine.now c.enter.new.self c.take_values.new.machine c.leave.new.self (pos 0) (end_of_taking pool c.in_ok-end.end) entered c.in_ok-enter.ensures.turns c.leave.ensures.memories c.leave.ensures.turns
    (c.in_ok-end.ensures pool (pos 0) c.args.element (same_sources _ _ _ _ _ _ _ _ _ _ c.deref.ensures.value c.requires.pool) width_is))

pub returns-in-OutOfTurns : goal.returns-in-OutOfTurns
returns-in-OutOfTurns c =
    let program = graph_tree c.args.graph.now in
    let context = context_of program c.args.base.now c.args.scope.now in
    let pool = pool_of (tasklet_tree c.args.tasklet.now) c.args.ins.now c.args.outs.now c.args.line c.args.stream c.args.element c.args.private.now context in
    let own : c.in_ok-own.own.contents ≡ pool_memory pool (pos 0) = c.in_ok-own.ensures.contents
    ∙ ap (λ (all : Containers). changed_at c.args.element (λ old. one_element (container_at all c.args.element).width (pos 0)) (private_memory all (c.args.element ∷ c.args.private.now))) (containers_in c.args.graph.now) in
    let entered : c.enter.new.self.memories ≡ pool_memory pool (pos 0) ∷ c.args.machine.now.memories = c.in_ok-enter.ensures.memories ∙ ap (λ (own : Memory). own ∷ c.args.machine.now.memories) own in
    let width_is : c.width-width.result ≡ element_width pool =
    c.width-width.ensures ∙ ap (λ memories. width_of (contents_of 0 c.args.element memories)) entered ∙ width_held pool c.args.element (pos 0) refl c.requires.pool.there in
    subst (λ (end : TakingEnd). IsEnd (pool_coming pool c.args.machine.now) c.args.machine.now (end_of_taking pool end) c.leave.new.self) c.in-OutOfTurns.is
    (pool_entered pool c.args.machine.now c.enter.new.self c.take_values.new.machine c.leave.new.self (pos 0) (end_of_taking pool c.in_ok-end.end) entered c.in_ok-enter.ensures.turns c.leave.ensures.memories c.leave.ensures.turns
    (c.in_ok-end.ensures pool (pos 0) c.args.element (same_sources _ _ _ _ _ _ _ _ _ _ c.deref.ensures.value c.requires.pool) width_is))

pub returns-in_ok-place-in-Fault : goal.returns-in_ok-place-in-Fault
returns-in_ok-place-in-Fault c =
    let program = graph_tree c.args.graph.now in
    let context = context_of program c.args.base.now c.args.scope.now in
    let pool = pool_of (tasklet_tree c.args.tasklet.now) c.args.ins.now c.args.outs.now c.args.line c.args.stream c.args.element c.args.private.now context in
    let own : c.in_ok-own.own.contents ≡ pool_memory pool (pos 0) = c.in_ok-own.ensures.contents
    ∙ ap (λ (all : Containers). changed_at c.args.element (λ old. one_element (container_at all c.args.element).width (pos 0)) (private_memory all (c.args.element ∷ c.args.private.now))) (containers_in c.args.graph.now) in
    let entered : c.enter.new.self.memories ≡ pool_memory pool (pos 0) ∷ c.args.machine.now.memories = c.in_ok-enter.ensures.memories ∙ ap (λ (own : Memory). own ∷ c.args.machine.now.memories) own in
    let width_is : c.width-width.result ≡ element_width pool =
    c.width-width.ensures ∙ ap (λ memories. width_of (contents_of 0 c.args.element memories)) entered ∙ width_held pool c.args.element (pos 0) refl c.requires.pool.there in
    let fits : FitsSigned w64 c.in-Fault.value = search rules in
    let place_is : c.in_ok-place-in-Fault.place ≡ place_at (inside pool c.in-Fault.value) c.args.line =
    c.in_ok-place-in-Fault.ensures ∙ ap (λ (here : Context). place_at here c.args.line) (c.in_ok-at_element-in-Fault.ensures.context program c.args.base.now c.args.private.now c.requires.inside)
    ∙ ap (λ value. place_at (inside pool value) c.args.line) (to_z-of_z w64 c.in-Fault.value fits) in
    subst (λ (place : Place). IsEnd (pool_coming pool c.args.machine.now) c.args.machine.now (ends.Fault place c.in-Fault.kind) c.leave.new.self) (sym place_is)
    (subst (λ (end : TakingEnd). IsEnd (pool_coming pool c.args.machine.now) c.args.machine.now (end_of_taking pool end) c.leave.new.self) c.in-Fault.is
    (pool_entered pool c.args.machine.now c.enter.new.self c.take_values.new.machine c.leave.new.self (pos 0) (end_of_taking pool c.in_ok-end.end) entered c.in_ok-enter.ensures.turns c.leave.ensures.memories c.leave.ensures.turns
    (c.in_ok-end.ensures pool (pos 0) c.args.element (same_sources _ _ _ _ _ _ _ _ _ _ c.deref.ensures.value c.requires.pool) width_is)))
