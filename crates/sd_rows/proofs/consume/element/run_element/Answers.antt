use Rattle.std.proofs.Common.{◌≡◌, ℕ, [], ◌∷◌, List, map, length, None, Ok, ap, sym, ◌∙◌, subst, rules, w64, FitsSigned, to_z, of_z}
use Rattle.std.proofs.lemmas.Int.{to_z-of_z}
use Rattle.std.specs.List.{AllZip}
use Rattle.sd_work.specs.Memory.{Memory}
use Rattle.sd_graph.specs.PlainTree.{TaskletTree}
use Rattle.sd_graph.specs.TaskletMeaning.{Inputs, meaning_of}
use Rattle.sd_graph.specs.TreeFold.{graph_tree}
use Rattle.sd_graph.specs.Context.{Context}
use Rattle.sd_graph.specs.declared.link.Link.{Link}
use Rattle.sd_tasklet.specs.tasklet.Kept.{told}
use Rattle.sd_tcode.specs.tcode.Held.{given, effects_of}
use Rattle.sd_tcode.specs.op.Machine.{answered}
use Rattle.sd_scope.specs.scope.Standing.{context_of}
use Rattle.sd_leaves.specs.leaves.Done.{IsDone, performing, instance_work}
use Rattle.sd_leaves.specs.leaves.Given.{pending_told}
use Rattle.sd_leaves.proofs.leaves_lemmas.Lists.{on_ok}
use Rattle.sd_row.specs.row.Point.{seen_on, IsOver}
use Rattle.sd_row.specs.instance.Known.{AreKnown, AreTargets, AreOutward}
use Rattle.sd_row.proofs.instance_lemmas.Matched.{always_ok}
use Rattle.sd_rows.specs.consume.Body.{IsBody, HasSingles}
use Rattle.sd_rows.specs.consume.Own.{with_own, HasValue, IsSource, seen_from}
use Rattle.sd_rows.proofs.consume_lemmas.Exchanged.{sources_seen}
use Rattle.sd_rows.proofs.consume_lemmas.Evaluations.{singles_again, element_fails, targets_are, element_goes, own_stays, effects_over}
use Rattle.sd_rows.proofs.consume.element.run_element.Goals as goal

pub run-requires : goal.run-requires
run-requires c = c.load_element.ensures.ready c.args.code.now c.requires.ready

pub returns-in-Err-clause-done : goal.returns-in-Err-clause-done
returns-in-Err-clause-done c here tree ins element own other body known outward sources holds over =
    let value = to_z w64 (of_z w64 c.args.value) in
    let fits : FitsSigned w64 c.args.value = search rules in
    let now = c.args.machine.now in
    let accesses = c.args.accesses.now in
    let old = given c.args.frame.now in
    let inputs = given c.load_element.new.frame in
    let standing = context_of (graph_tree c.args.graph.now) c.args.base.now c.args.scope.now in
    let values : inputs.values ≡ map (λ track. seen_on 0 (with_own own now).memories track ∷ []) accesses.reads.items =
    ap (λ (inputs : Inputs). inputs.values) c.load_element.ensures.given ∙ sources_seen element own other value now accesses.reads.items c.args.sources.now (subst (HasValue own element) (sym (to_z-of_z w64 c.args.value fits)) holds) over sources in
    let variables : inputs.variables ≡ old.variables = ap (λ (inputs : Inputs). inputs.variables) c.load_element.ensures.given in
    let extents : inputs.extents ≡ old.extents = ap (λ (inputs : Inputs). inputs.extents) c.load_element.ensures.given in
    element_fails old inputs accesses extents tree ins c.args.outs.now c.args.code.now here standing body known variables (with_own own now) values c.in-Err.kind
    (c.run.ensures.meaning body.compiled_tree body.code ∙ ap (λ result. answered result (effects_of c.run.new.frame)) c.in-Err.is)

pub returns-in-Err-clause-singles : goal.returns-in-Err-clause-singles
returns-in-Err-clause-singles c =
    let memories = c.args.machine.now.memories in
    singles_again (seen_from (to_z w64 (of_z w64 c.args.value)) memories) c.args.sources.now (given c.args.frame.now) (given c.load_element.new.frame) (given c.run.new.frame)
    (ap (λ (inputs : Inputs). inputs.values) c.load_element.ensures.given) c.run.ensures.given c.requires.singles

pub returns-clause-done : goal.returns-clause-done
returns-clause-done c =
    let value = to_z w64 (of_z w64 c.args.value) in
    let fits : FitsSigned w64 c.args.value = search rules in
    let now = c.args.machine.now in
    let accesses = c.args.accesses.now in
    let old = given c.args.frame.now in
    let inputs = given c.load_element.new.frame in
    let standing = context_of (graph_tree c.args.graph.now) c.args.base.now c.args.scope.now in
    let variables : inputs.variables ≡ old.variables = ap (λ (inputs : Inputs). inputs.variables) c.load_element.ensures.given in
    let extents : inputs.extents ≡ old.extents = ap (λ (inputs : Inputs). inputs.extents) c.load_element.ensures.given in
    let outs = c.args.outs.now in
    let effects = c.effects.result.now in
    let many : c.len-inputs.result ≡ length accesses.reads.items = search rules in
    let after = c.perform_all.new.machine in
    on_ok (λ fault. (here : Context) (ins : List Link) (given : Inputs) → AreTargets c.len-inputs.result ins outs given c.deref.result.now 0 here standing → IsDone (performing (map (pending_told here given ins outs) effects)) now fault after)
    (λ fault. (here : Context) (tree : TaskletTree) (ins : List Link) (element : ℕ) (own other : Memory) → IsBody tree ins outs c.args.code.now old here → AreKnown tree ins outs 0 here standing accesses → AreOutward here outs
    → AllZip (IsSource element) accesses.reads.items c.args.sources.now → HasValue own element c.args.value → IsOver other now → IsDone (instance_work here tree ins outs) (with_own own now) fault (with_own own after))
    c.perform_all.result
    (λ fault done here tree ins element own other body known outward sources holds over.
    let values : inputs.values ≡ map (λ track. seen_on 0 (with_own own now).memories track ∷ []) accesses.reads.items =
    ap (λ (inputs : Inputs). inputs.values) c.load_element.ensures.given ∙ sources_seen element own other value now accesses.reads.items c.args.sources.now (subst (HasValue own element) (sym (to_z-of_z w64 c.args.value fits)) holds) over sources in
    let are = targets_are old inputs accesses extents tree ins outs c.args.code.now here standing body known c.len-inputs.result c.deref.result.now many c.deref.ensures.value in
    let goes : meaning_of body.compiled_tree inputs ≡ Ok (map (told inputs) effects) = c.run.ensures.meaning body.compiled_tree body.code ∙ ap (λ result. answered result (effects_of c.run.new.frame)) c.in_default.is
    ∙ ap (λ (given : Inputs). Ok (map (told given) c.run.new.frame.log.0)) c.run.ensures.given ∙ ap (λ effects. Ok (map (told inputs) effects)) (sym c.effects.ensures) in
    element_goes old inputs accesses extents tree ins outs c.args.code.now here standing body known variables (with_own own now) values effects fault (with_own own after) goes
    (effects_over old inputs accesses extents tree ins outs c.args.code.now here standing body known effects fault now after (done here ins inputs are) outward other over own))
    c.perform_all.ensures

pub returns-clause-own : goal.returns-clause-own
returns-clause-own c =
    let now = c.args.machine.now in
    let accesses = c.args.accesses.now in
    let old = given c.args.frame.now in
    let inputs = given c.load_element.new.frame in
    let standing = context_of (graph_tree c.args.graph.now) c.args.base.now c.args.scope.now in
    let extents : inputs.extents ≡ old.extents = ap (λ (inputs : Inputs). inputs.extents) c.load_element.ensures.given in
    let outs = c.args.outs.now in
    let effects = c.effects.result.now in
    let many : c.len-inputs.result ≡ length accesses.reads.items = search rules in
    let after = c.perform_all.new.machine in
    on_ok (λ fault. (here : Context) (ins : List Link) (given : Inputs) → AreTargets c.len-inputs.result ins outs given c.deref.result.now 0 here standing → IsDone (performing (map (pending_told here given ins outs) effects)) now fault after)
    (λ fault. (here : Context) (tree : TaskletTree) (ins : List Link) (own : Memory) → IsBody tree ins outs c.args.code.now old here → AreKnown tree ins outs 0 here standing accesses → AreOutward here outs → fault ≡ None → IsOver own now → IsOver own after)
    c.perform_all.result
    (λ fault done here tree ins own body known outward none over.
    let are = targets_are old inputs accesses extents tree ins outs c.args.code.now here standing body known c.len-inputs.result c.deref.result.now many c.deref.ensures.value in
    own_stays old inputs accesses extents tree ins outs c.args.code.now here standing body known effects fault now after (done here ins inputs are) outward own over none)
    c.perform_all.ensures

pub returns-clause-singles : goal.returns-clause-singles
returns-clause-singles c =
    let memories = c.args.machine.now.memories in
    always_ok (HasSingles (length c.args.sources.now) (given c.run.new.frame)) c.perform_all.result
    (singles_again (seen_from (to_z w64 (of_z w64 c.args.value)) memories) c.args.sources.now (given c.args.frame.now) (given c.load_element.new.frame) (given c.run.new.frame)
    (ap (λ (inputs : Inputs). inputs.values) c.load_element.ensures.given) c.run.ensures.given c.requires.singles)
