use Rattle.std.proofs.Common.{◌≡◌, [], ◌∷◌, List, map, length, None, Ok, ap, sym, ◌∙◌, rules}
use Rattle.sd_work.specs.Memory.{Memory}
use Rattle.sd_graph.specs.PlainTree.{TaskletTree}
use Rattle.sd_graph.specs.TaskletMeaning.{Inputs, meaning_of}
use Rattle.sd_graph.specs.TreeFold.{graph_tree}
use Rattle.sd_graph.specs.Context.{Context}
use Rattle.sd_graph.specs.declared.link.Link.{Link}
use Rattle.sd_tasklet.specs.tasklet.Kept.{told}
use Rattle.sd_tcode.specs.tcode.Held.{given, effects_of}
use Rattle.sd_tcode.specs.op.Machine.{answered}
use Rattle.sd_scope.specs.scope.Standing.{context_of}
use Rattle.sd_leaves.specs.leaves.Done.{IsDone, performing, instance_work}
use Rattle.sd_leaves.specs.leaves.Given.{pending_told}
use Rattle.sd_leaves.proofs.leaves_lemmas.Lists.{on_ok}
use Rattle.sd_tcode.specs.columns.Columns.{value_on}
use Rattle.sd_row.specs.row.Point.{seen_on, IsOver}
use Rattle.sd_row.specs.instance.Known.{IsSetUp, AreKnown, AreTargets, AreOutward, HasRoom}
use Rattle.sd_row.proofs.instance_lemmas.Given.{room_again, code_fails, targets_are, code_goes, own_stays}
use Rattle.sd_row.proofs.instance_lemmas.Matched.{always_ok}
use Rattle.sd_row.proofs.instance.instance.run_instance.Goals as goal

pub run-requires : goal.run-requires
run-requires c = c.set_variables.ensures.ready c.args.code.now (c.load.ensures.ready c.args.code.now c.requires.ready)

pub returns-in-Err-clause-done : goal.returns-in-Err-clause-done
returns-in-Err-clause-done c context tree ins set known =
    let now = c.args.machine.now in
    let accesses = c.args.accesses.now in
    let standing = context_of (graph_tree c.args.graph.now) c.args.base.now c.args.scope.now in
    let old = given c.args.frame.now in
    let inputs = given c.set_variables.new.frame in
    let values : inputs.values ≡ map (λ track. seen_on c.args.k now.memories track ∷ []) accesses.reads.items =
    ap (λ (inputs : Inputs). inputs.values) c.set_variables.ensures.given ∙ ap (λ (inputs : Inputs). inputs.values) c.load.ensures.given
    ∙ ap (map (λ track. seen_on c.args.k now.memories track ∷ [])) c.deref.ensures.value in
    let variables : inputs.variables ≡ map (λ numbers. value_on numbers c.args.k) accesses.variables.items =
    ap (λ (inputs : Inputs). inputs.variables) c.set_variables.ensures.given ∙ ap (map (λ numbers. value_on numbers c.args.k)) c.deref-2.ensures.value in
    let extents : inputs.extents ≡ old.extents = ap (λ (inputs : Inputs). inputs.extents) c.set_variables.ensures.given ∙ ap (λ (inputs : Inputs). inputs.extents) c.load.ensures.given in
    code_fails old inputs accesses c.args.k now values variables extents tree ins c.args.outs.now c.args.code.now context standing set known c.in-Err.kind
    (c.run.ensures.meaning tree set.code ∙ ap (λ result. answered result (effects_of c.run.new.frame)) c.in-Err.is)

pub returns-in-Err-clause-room : goal.returns-in-Err-clause-room
returns-in-Err-clause-room c =
    let now = c.args.machine.now in
    let accesses = c.args.accesses.now in
    let old = given c.args.frame.now in
    let inputs = given c.set_variables.new.frame in
    let values : inputs.values ≡ map (λ track. seen_on c.args.k now.memories track ∷ []) accesses.reads.items =
    ap (λ (inputs : Inputs). inputs.values) c.set_variables.ensures.given ∙ ap (λ (inputs : Inputs). inputs.values) c.load.ensures.given
    ∙ ap (map (λ track. seen_on c.args.k now.memories track ∷ [])) c.deref.ensures.value in
    let variables : inputs.variables ≡ map (λ numbers. value_on numbers c.args.k) accesses.variables.items =
    ap (λ (inputs : Inputs). inputs.variables) c.set_variables.ensures.given ∙ ap (map (λ numbers. value_on numbers c.args.k)) c.deref-2.ensures.value in
    let extents : inputs.extents ≡ old.extents = ap (λ (inputs : Inputs). inputs.extents) c.set_variables.ensures.given ∙ ap (λ (inputs : Inputs). inputs.extents) c.load.ensures.given in
    room_again old inputs accesses c.args.k now values variables extents (given c.run.new.frame) c.run.ensures.given c.requires.room

pub returns-clause-done : goal.returns-clause-done
returns-clause-done c =
    let now = c.args.machine.now in
    let accesses = c.args.accesses.now in
    let standing = context_of (graph_tree c.args.graph.now) c.args.base.now c.args.scope.now in
    let old = given c.args.frame.now in
    let inputs = given c.set_variables.new.frame in
    let values : inputs.values ≡ map (λ track. seen_on c.args.k now.memories track ∷ []) accesses.reads.items =
    ap (λ (inputs : Inputs). inputs.values) c.set_variables.ensures.given ∙ ap (λ (inputs : Inputs). inputs.values) c.load.ensures.given
    ∙ ap (map (λ track. seen_on c.args.k now.memories track ∷ [])) c.deref.ensures.value in
    let variables : inputs.variables ≡ map (λ numbers. value_on numbers c.args.k) accesses.variables.items =
    ap (λ (inputs : Inputs). inputs.variables) c.set_variables.ensures.given ∙ ap (map (λ numbers. value_on numbers c.args.k)) c.deref-2.ensures.value in
    let extents : inputs.extents ≡ old.extents = ap (λ (inputs : Inputs). inputs.extents) c.set_variables.ensures.given ∙ ap (λ (inputs : Inputs). inputs.extents) c.load.ensures.given in
    let outs = c.args.outs.now in
    let effects = c.effects.result.now in
    let many : c.len-inputs.result ≡ length accesses.reads.items = search rules in
    let after = c.perform_all.new.machine in
    on_ok (λ fault. (here : Context) (ins : List Link) (given : Inputs) → AreTargets c.len-inputs.result ins outs given c.deref-3.result.now c.args.k here standing → IsDone (performing (map (pending_told here given ins outs) effects)) now fault after)
    (λ fault. (here : Context) (tree : TaskletTree) (ins : List Link) → IsSetUp tree ins outs c.args.code.now old here → AreKnown tree ins outs c.args.k here standing accesses → IsDone (instance_work here tree ins outs) now fault after)
    c.perform_all.result
    (λ fault done context tree ins set known.
    let are = targets_are old inputs accesses c.args.k now values variables extents tree ins outs c.args.code.now context standing set known c.len-inputs.result c.deref-3.result.now many c.deref-3.ensures.value in
    let goes : meaning_of tree inputs ≡ Ok (map (told inputs) effects) = c.run.ensures.meaning tree set.code ∙ ap (λ result. answered result (effects_of c.run.new.frame)) c.in_default.is
    ∙ ap (λ (given : Inputs). Ok (map (told given) c.run.new.frame.log.0)) c.run.ensures.given ∙ ap (λ effects. Ok (map (told inputs) effects)) (sym c.effects.ensures) in
    code_goes old inputs accesses c.args.k now values variables extents tree ins outs c.args.code.now context standing set known effects fault after goes (done context ins inputs are))
    c.perform_all.ensures

pub returns-clause-own : goal.returns-clause-own
returns-clause-own c =
    let now = c.args.machine.now in
    let accesses = c.args.accesses.now in
    let standing = context_of (graph_tree c.args.graph.now) c.args.base.now c.args.scope.now in
    let old = given c.args.frame.now in
    let inputs = given c.set_variables.new.frame in
    let values : inputs.values ≡ map (λ track. seen_on c.args.k now.memories track ∷ []) accesses.reads.items =
    ap (λ (inputs : Inputs). inputs.values) c.set_variables.ensures.given ∙ ap (λ (inputs : Inputs). inputs.values) c.load.ensures.given
    ∙ ap (map (λ track. seen_on c.args.k now.memories track ∷ [])) c.deref.ensures.value in
    let variables : inputs.variables ≡ map (λ numbers. value_on numbers c.args.k) accesses.variables.items =
    ap (λ (inputs : Inputs). inputs.variables) c.set_variables.ensures.given ∙ ap (map (λ numbers. value_on numbers c.args.k)) c.deref-2.ensures.value in
    let extents : inputs.extents ≡ old.extents = ap (λ (inputs : Inputs). inputs.extents) c.set_variables.ensures.given ∙ ap (λ (inputs : Inputs). inputs.extents) c.load.ensures.given in
    let outs = c.args.outs.now in
    let effects = c.effects.result.now in
    let many : c.len-inputs.result ≡ length accesses.reads.items = search rules in
    let after = c.perform_all.new.machine in
    on_ok (λ fault. (here : Context) (ins : List Link) (given : Inputs) → AreTargets c.len-inputs.result ins outs given c.deref-3.result.now c.args.k here standing → IsDone (performing (map (pending_told here given ins outs) effects)) now fault after)
    (λ fault. (here : Context) (tree : TaskletTree) (ins : List Link) (own : Memory) → IsSetUp tree ins outs c.args.code.now old here → AreKnown tree ins outs c.args.k here standing accesses → AreOutward here outs → fault ≡ None → IsOver own now → IsOver own after)
    c.perform_all.result
    (λ fault done context tree ins own set known outward.
    let are = targets_are old inputs accesses c.args.k now values variables extents tree ins outs c.args.code.now context standing set known c.len-inputs.result c.deref-3.result.now many c.deref-3.ensures.value in
    let goes : meaning_of tree inputs ≡ Ok (map (told inputs) effects) = c.run.ensures.meaning tree set.code ∙ ap (λ result. answered result (effects_of c.run.new.frame)) c.in_default.is
    ∙ ap (λ (given : Inputs). Ok (map (told given) c.run.new.frame.log.0)) c.run.ensures.given ∙ ap (λ effects. Ok (map (told inputs) effects)) (sym c.effects.ensures) in
    own_stays old inputs accesses c.args.k now values variables extents tree ins outs c.args.code.now context standing set known effects fault after goes (done context ins inputs are) own outward)
    c.perform_all.ensures

pub returns-clause-room : goal.returns-clause-room
returns-clause-room c =
    let now = c.args.machine.now in
    let accesses = c.args.accesses.now in
    let old = given c.args.frame.now in
    let inputs = given c.set_variables.new.frame in
    let values : inputs.values ≡ map (λ track. seen_on c.args.k now.memories track ∷ []) accesses.reads.items =
    ap (λ (inputs : Inputs). inputs.values) c.set_variables.ensures.given ∙ ap (λ (inputs : Inputs). inputs.values) c.load.ensures.given
    ∙ ap (map (λ track. seen_on c.args.k now.memories track ∷ [])) c.deref.ensures.value in
    let variables : inputs.variables ≡ map (λ numbers. value_on numbers c.args.k) accesses.variables.items =
    ap (λ (inputs : Inputs). inputs.variables) c.set_variables.ensures.given ∙ ap (map (λ numbers. value_on numbers c.args.k)) c.deref-2.ensures.value in
    let extents : inputs.extents ≡ old.extents = ap (λ (inputs : Inputs). inputs.extents) c.set_variables.ensures.given ∙ ap (λ (inputs : Inputs). inputs.extents) c.load.ensures.given in
    always_ok (HasRoom (length accesses.reads.items) (length accesses.variables.items) (given c.run.new.frame)) c.perform_all.result
    (room_again old inputs accesses c.args.k now values variables extents (given c.run.new.frame) c.run.ensures.given c.requires.room)
