use Rattle.std.proofs.Common.{◌≡◌, ◌<◌, [], ◌∷◌, List, ℕ, map, length, None, Ok, ap, sym, ◌∙◌, arith, rules}
use Rattle.sd_work.specs.Memory.{Memory}
use Rattle.sd_graph.specs.PlainTree.{TaskletTree}
use Rattle.sd_graph.specs.TaskletMeaning.{Inputs, meaning_of}
use Rattle.sd_graph.specs.TreeFold.{graph_tree}
use Rattle.sd_graph.specs.Context.{Context}
use Rattle.sd_graph.specs.declared.link.Link.{Link}
use Rattle.sd_tasklet.specs.tasklet.Kept.{told}
use Rattle.sd_tcode.specs.tcode.Compiled.{IsCodeOf}
use Rattle.sd_tcode.specs.tcode.Held.{given, given_with}
use Rattle.sd_tcode.specs.op.Machine.{answered}
use Rattle.sd_scope.specs.scope.Standing.{context_of}
use Rattle.sd_leaves.specs.leaves.Done.{IsDone, performing, instance_work}
use Rattle.sd_leaves.specs.leaves.Given.{pending_told}
use Rattle.sd_leaves.proofs.leaves_lemmas.Lists.{on_ok}
use Rattle.sd_tcode.specs.columns.Columns.{value_on}
use Rattle.sd_row.specs.row.Point.{seen_on, IsOver}
use Rattle.sd_row.specs.declared.view.window.Window.{Window}
use Rattle.sd_row.specs.instance.Known.{AreTargets, AreOutward, HasRoom}
use Rattle.sd_row.specs.view.View.{AreViews, connectors_in}
use Rattle.sd_row.proofs.view_lemmas.Viewed.{room_again, code_fails, targets_are, code_goes, own_stays}
use Rattle.sd_row.proofs.instance_lemmas.Matched.{always_ok}
use Rattle.sd_row.proofs.view.running.run_on_views.Goals as goal

pub run_seeing-requires-clause-ready : goal.run_seeing-requires-clause-ready
run_seeing-requires-clause-ready c = c.set_variables.ensures.ready c.args.code.now (c.load_first.ensures.ready c.args.code.now c.requires.ready)

pub run_seeing-requires-clause-held : goal.run_seeing-requires-clause-held
run_seeing-requires-clause-held c connector below = (omega (arith, below, c.requires.inputs), c.requires.words)

pub returns-in-Err-clause-done : goal.returns-in-Err-clause-done
returns-in-Err-clause-done c context tree ins code are =
    let now = c.args.machine.now in
    let views = c.args.views.now in
    let given_now = given c.set_variables.new.frame in
    let values : given_now.values ≡ map (λ window. seen_on c.args.k now.memories window.first ∷ []) views.inputs.items =
    ap (λ (inputs : Inputs). inputs.values) c.set_variables.ensures.given ∙ ap (λ (inputs : Inputs). inputs.values) c.load_first.ensures.given
    ∙ ap (map (λ (window : Window). seen_on c.args.k now.memories window.first ∷ [])) c.deref.ensures.value in
    let variables : given_now.variables ≡ map (λ numbers. value_on numbers c.args.k) views.variables.items =
    ap (λ (inputs : Inputs). inputs.variables) c.set_variables.ensures.given ∙ ap (map (λ numbers. value_on numbers c.args.k)) c.deref-2.ensures.value in
    let inputs = given_with (connectors_in c.args.k now.memories views) given_now in
    code_fails given_now views c.args.k now values variables tree ins c.args.outs.now context (context_of (graph_tree c.args.graph.now) c.args.base.now c.args.scope.now) are c.in-Err.kind
    (c.run_seeing.ensures.meaning tree code ∙ ap (λ result. answered result (map (told (given_with (connectors_in c.args.k now.memories views) (given c.run_seeing.new.frame))) c.run_seeing.new.frame.log.0)) c.in-Err.is)

pub returns-in-Err-clause-room : goal.returns-in-Err-clause-room
returns-in-Err-clause-room c =
    let now = c.args.machine.now in
    let views = c.args.views.now in
    let given_now = given c.set_variables.new.frame in
    let values : given_now.values ≡ map (λ window. seen_on c.args.k now.memories window.first ∷ []) views.inputs.items =
    ap (λ (inputs : Inputs). inputs.values) c.set_variables.ensures.given ∙ ap (λ (inputs : Inputs). inputs.values) c.load_first.ensures.given
    ∙ ap (map (λ (window : Window). seen_on c.args.k now.memories window.first ∷ [])) c.deref.ensures.value in
    let variables : given_now.variables ≡ map (λ numbers. value_on numbers c.args.k) views.variables.items =
    ap (λ (inputs : Inputs). inputs.variables) c.set_variables.ensures.given ∙ ap (map (λ numbers. value_on numbers c.args.k)) c.deref-2.ensures.value in
    let inputs = given_with (connectors_in c.args.k now.memories views) given_now in
    room_again given_now views c.args.k now values variables (given c.args.frame.now) (given c.run_seeing.new.frame) c.run_seeing.ensures.given c.requires.room

pub returns-clause-done : goal.returns-clause-done
returns-clause-done c =
    let now = c.args.machine.now in
    let views = c.args.views.now in
    let given_now = given c.set_variables.new.frame in
    let values : given_now.values ≡ map (λ window. seen_on c.args.k now.memories window.first ∷ []) views.inputs.items =
    ap (λ (inputs : Inputs). inputs.values) c.set_variables.ensures.given ∙ ap (λ (inputs : Inputs). inputs.values) c.load_first.ensures.given
    ∙ ap (map (λ (window : Window). seen_on c.args.k now.memories window.first ∷ [])) c.deref.ensures.value in
    let variables : given_now.variables ≡ map (λ numbers. value_on numbers c.args.k) views.variables.items =
    ap (λ (inputs : Inputs). inputs.variables) c.set_variables.ensures.given ∙ ap (map (λ numbers. value_on numbers c.args.k)) c.deref-2.ensures.value in
    let inputs = given_with (connectors_in c.args.k now.memories views) given_now in
    let outs = c.args.outs.now in
    let standing = context_of (graph_tree c.args.graph.now) c.args.base.now c.args.scope.now in
    let effects = c.effects.result.now in
    let many : c.len-inputs.result ≡ length views.inputs.items = search rules in
    let after = c.perform_all.new.machine in
    let goes : (tree : TaskletTree) → IsCodeOf tree c.args.code.now → meaning_of tree inputs ≡ Ok (map (told inputs) effects) =
    λ tree code. c.run_seeing.ensures.meaning tree code ∙ ap (λ result. answered result (map (told (given_with (connectors_in c.args.k now.memories views) (given c.run_seeing.new.frame))) c.run_seeing.new.frame.log.0)) c.in_default.is
    ∙ ap (λ (given_after : Inputs). Ok (map (told (given_with (connectors_in c.args.k now.memories views) given_after)) c.run_seeing.new.frame.log.0)) c.run_seeing.ensures.given ∙ ap (λ effects. Ok (map (told inputs) effects)) (sym c.effects.ensures) in
    on_ok (λ fault. (here : Context) (ins : List Link) (given : Inputs) → AreTargets c.len-inputs.result ins outs given c.deref-3.result.now c.args.k here standing → IsDone (performing (map (pending_told here given ins outs) effects)) now fault after)
    (λ fault. (here : Context) (tree : TaskletTree) (ins : List Link) → IsCodeOf tree c.args.code.now → AreViews tree ins outs c.args.k here standing views → IsDone (instance_work here tree ins outs) now fault after)
    c.perform_all.result
    (λ fault done context tree ins code are.
    code_goes given_now views c.args.k now values variables tree ins outs context standing are effects fault after (goes tree code)
    (done context ins inputs (targets_are given_now views c.args.k now values variables tree ins outs context standing are c.len-inputs.result c.deref-3.result.now many c.deref-3.ensures.value)))
    c.perform_all.ensures

pub returns-clause-own : goal.returns-clause-own
returns-clause-own c =
    let now = c.args.machine.now in
    let views = c.args.views.now in
    let given_now = given c.set_variables.new.frame in
    let values : given_now.values ≡ map (λ window. seen_on c.args.k now.memories window.first ∷ []) views.inputs.items =
    ap (λ (inputs : Inputs). inputs.values) c.set_variables.ensures.given ∙ ap (λ (inputs : Inputs). inputs.values) c.load_first.ensures.given
    ∙ ap (map (λ (window : Window). seen_on c.args.k now.memories window.first ∷ [])) c.deref.ensures.value in
    let variables : given_now.variables ≡ map (λ numbers. value_on numbers c.args.k) views.variables.items =
    ap (λ (inputs : Inputs). inputs.variables) c.set_variables.ensures.given ∙ ap (map (λ numbers. value_on numbers c.args.k)) c.deref-2.ensures.value in
    let inputs = given_with (connectors_in c.args.k now.memories views) given_now in
    let outs = c.args.outs.now in
    let standing = context_of (graph_tree c.args.graph.now) c.args.base.now c.args.scope.now in
    let effects = c.effects.result.now in
    let many : c.len-inputs.result ≡ length views.inputs.items = search rules in
    let after = c.perform_all.new.machine in
    let goes : (tree : TaskletTree) → IsCodeOf tree c.args.code.now → meaning_of tree inputs ≡ Ok (map (told inputs) effects) =
    λ tree code. c.run_seeing.ensures.meaning tree code ∙ ap (λ result. answered result (map (told (given_with (connectors_in c.args.k now.memories views) (given c.run_seeing.new.frame))) c.run_seeing.new.frame.log.0)) c.in_default.is
    ∙ ap (λ (given_after : Inputs). Ok (map (told (given_with (connectors_in c.args.k now.memories views) given_after)) c.run_seeing.new.frame.log.0)) c.run_seeing.ensures.given ∙ ap (λ effects. Ok (map (told inputs) effects)) (sym c.effects.ensures) in
    on_ok (λ fault. (here : Context) (ins : List Link) (given : Inputs) → AreTargets c.len-inputs.result ins outs given c.deref-3.result.now c.args.k here standing → IsDone (performing (map (pending_told here given ins outs) effects)) now fault after)
    (λ fault. (here : Context) (tree : TaskletTree) (ins : List Link) (own : Memory) → IsCodeOf tree c.args.code.now → AreViews tree ins outs c.args.k here standing views → AreOutward here outs → fault ≡ None → IsOver own now → IsOver own after)
    c.perform_all.result
    (λ fault done context tree ins own code are outward.
    own_stays given_now views c.args.k now values variables tree ins outs context standing are effects fault after (goes tree code)
    (done context ins inputs (targets_are given_now views c.args.k now values variables tree ins outs context standing are c.len-inputs.result c.deref-3.result.now many c.deref-3.ensures.value)) own outward)
    c.perform_all.ensures

pub returns-clause-room : goal.returns-clause-room
returns-clause-room c =
    let now = c.args.machine.now in
    let views = c.args.views.now in
    let given_now = given c.set_variables.new.frame in
    let values : given_now.values ≡ map (λ window. seen_on c.args.k now.memories window.first ∷ []) views.inputs.items =
    ap (λ (inputs : Inputs). inputs.values) c.set_variables.ensures.given ∙ ap (λ (inputs : Inputs). inputs.values) c.load_first.ensures.given
    ∙ ap (map (λ (window : Window). seen_on c.args.k now.memories window.first ∷ [])) c.deref.ensures.value in
    let variables : given_now.variables ≡ map (λ numbers. value_on numbers c.args.k) views.variables.items =
    ap (λ (inputs : Inputs). inputs.variables) c.set_variables.ensures.given ∙ ap (map (λ numbers. value_on numbers c.args.k)) c.deref-2.ensures.value in
    let inputs = given_with (connectors_in c.args.k now.memories views) given_now in
    always_ok (HasRoom (length views.inputs.items) (length views.variables.items) (given c.run_seeing.new.frame)) c.perform_all.result
    (room_again given_now views c.args.k now values variables (given c.args.frame.now) (given c.run_seeing.new.frame) c.run_seeing.ensures.given c.requires.room)
