use Rattle.std.proofs.Common.{◌≡◌, ◌<◌, pos, List, length, refl, sym, ap, ◌∙◌, subst, rules}
use Rattle.std.specs.List.{AllByRecursion, AllZip}
use Rattle.sd_graph.specs.TreeFold.{graph_tree, tasklet_tree}
use Rattle.sd_graph.specs.Context.{Context}
use Rattle.sd_tcode.specs.tcode.Held.{given}
use Rattle.sd_row.specs.declared.row.track.Track.{Track}
use Rattle.sd_scope.specs.scope.Standing.{context_of}
use Rattle.sd_row.specs.instance.Fit.{IsRunner}
use Rattle.sd_row.specs.instance.Known.{AreKnown, AreOutward}
use Rattle.sd_row.proofs.instance_lemmas.Matched.{found_so}
use Rattle.sd_rows.specs.consume.Body.{HasSingles}
use Rattle.sd_rows.specs.consume.Own.{IsSource}
use Rattle.sd_rows.specs.consume.Pool.{pool_of, inside}
use Rattle.sd_rows.proofs.consume_lemmas.Bodies.{variables_many, variables_few, body_is, singles_are}
use Rattle.sd_rows.proofs.consume_lemmas.Exchanged.{sources_many}
use Rattle.sd_rows.proofs.consume_lemmas.Pools.{level_inside, container_inside, outward}
use Rattle.sd_rows.proofs.consume.setup.Setup.of.Goals as goal

pub set_values-requires-clause-many : goal.set_values-requires-clause-many
set_values-requires-clause-many c =
    let tree = tasklet_tree c.args.tasklet.now in
    let made = tasklet_tree c.in_ok-lifted.lifted.tasklet in
    let here = context_of (graph_tree c.args.graph.now) c.args.base.now c.in_ok-inner.inner in
    let runner : IsRunner made c.args.ins.now c.args.outs.now c.in-Some.runner.code c.in-Some.runner.frame = found_so _ c.in_ok-runner.field-0 c.in-Some.runner c.in-Some.is c.in_ok-runner.ensures.runner in
    let known : AreKnown tree c.args.ins.now c.args.outs.now 0 here here c.in-Some-2.accesses = found_so _ c.in_ok-accesses.field-0 c.in-Some-2.accesses c.in-Some-2.is c.in_ok-accesses.ensures in
    variables_many tree made c.in_ok-lifted.lifted.numbers.items c.in_ok-lifted.ensures c.args.ins.now c.args.outs.now c.in-Some.runner.code c.in-Some.runner.frame runner here here c.in-Some-2.accesses known
    c.as_slice-2.result.now c.as_slice-numbers.result.now c.as_slice-2.ensures.value c.as_slice-numbers.ensures.value

pub set_values-requires-clause-few : goal.set_values-requires-clause-few
set_values-requires-clause-few c =
    let tree = tasklet_tree c.args.tasklet.now in
    let made = tasklet_tree c.in_ok-lifted.lifted.tasklet in
    let here = context_of (graph_tree c.args.graph.now) c.args.base.now c.in_ok-inner.inner in
    let runner : IsRunner made c.args.ins.now c.args.outs.now c.in-Some.runner.code c.in-Some.runner.frame = found_so _ c.in_ok-runner.field-0 c.in-Some.runner c.in-Some.is c.in_ok-runner.ensures.runner in
    let known : AreKnown tree c.args.ins.now c.args.outs.now 0 here here c.in-Some-2.accesses = found_so _ c.in_ok-accesses.field-0 c.in-Some-2.accesses c.in-Some-2.is c.in_ok-accesses.ensures in
    variables_few tree made c.in_ok-lifted.lifted.numbers.items c.in_ok-lifted.ensures c.args.ins.now c.args.outs.now c.in-Some.runner.code c.in-Some.runner.frame runner here here c.in-Some-2.accesses known
    c.as_slice-2.result.now c.as_slice-numbers.result.now c.as_slice-2.ensures.value c.as_slice-numbers.ensures.value

pub returns-clause-ready : goal.returns-clause-ready
returns-clause-ready c =
    let made = tasklet_tree c.in_ok-lifted.lifted.tasklet in
    let runner : IsRunner made c.args.ins.now c.args.outs.now c.in-Some.runner.code c.in-Some.runner.frame = found_so _ c.in_ok-runner.field-0 c.in-Some.runner c.in-Some.is c.in_ok-runner.ensures.runner in
    c.in_ok-set_values.ensures.ready c.in-Some.runner.code runner.ready

pub returns-clause-singles : goal.returns-clause-singles
returns-clause-singles c =
    let inputs : AllZip (IsSource c.args.element) c.in-Some-2.accesses.reads.items c.in-Some-3.sources.items = subst (λ (reads : List Track). AllZip (IsSource c.args.element) reads c.in-Some-3.sources.items) c.as_slice.ensures.value (found_so _ c.in_ok-sources.field-0 c.in-Some-3.sources c.in-Some-3.is c.in_ok-sources.ensures) in
    let tree = tasklet_tree c.args.tasklet.now in
    let made = tasklet_tree c.in_ok-lifted.lifted.tasklet in
    let here = context_of (graph_tree c.args.graph.now) c.args.base.now c.in_ok-inner.inner in
    let runner : IsRunner made c.args.ins.now c.args.outs.now c.in-Some.runner.code c.in-Some.runner.frame = found_so _ c.in_ok-runner.field-0 c.in-Some.runner c.in-Some.is c.in_ok-runner.ensures.runner in
    let known : AreKnown tree c.args.ins.now c.args.outs.now 0 here here c.in-Some-2.accesses = found_so _ c.in_ok-accesses.field-0 c.in-Some-2.accesses c.in-Some-2.is c.in_ok-accesses.ensures in
    subst (λ many. HasSingles many (given c.set_values.new.frame)) (sym (sources_many c.args.element c.in-Some-2.accesses.reads.items c.in-Some-3.sources.items inputs))
    (singles_are tree made c.in_ok-lifted.lifted.numbers.items c.in_ok-lifted.ensures c.args.ins.now c.args.outs.now c.in-Some.runner.code c.in-Some.runner.frame runner here here c.in-Some-2.accesses known
    (given c.set_values.new.frame) c.as_slice-2.result.now c.as_slice-numbers.result.now c.as_slice-2.ensures.value c.as_slice-numbers.ensures.value c.in_ok-set_values.ensures.given)

pub returns-clause-pool : goal.returns-clause-pool
returns-clause-pool c line =
    let tree = tasklet_tree c.args.tasklet.now in
    let made = tasklet_tree c.in_ok-lifted.lifted.tasklet in
    let program = graph_tree c.args.graph.now in
    let outer = context_of program c.args.base.now c.args.scope.now in
    let here = context_of program c.args.base.now c.in_ok-inner.inner in
    let pool = pool_of tree c.args.ins.now c.args.outs.now line c.args.stream c.args.element c.args.private.now outer in
    let stands : here ≡ inside pool (pos 0) = c.in_ok-inner.ensures.context program c.args.base.now in
    let there : c.args.element < length outer.containers = c.is_there.ensures (search rules) in
    let elsewhere : AllByRecursion (λ link. (link.memlet.container ≡ c.args.element) → ⊥) c.args.outs.now = search rules in
    let runner : IsRunner made c.args.ins.now c.args.outs.now c.in-Some.runner.code c.in-Some.runner.frame = found_so _ c.in_ok-runner.field-0 c.in-Some.runner c.in-Some.is c.in_ok-runner.ensures.runner in
    let known : AreKnown tree c.args.ins.now c.args.outs.now 0 here here c.in-Some-2.accesses = found_so _ c.in_ok-accesses.field-0 c.in-Some-2.accesses c.in-Some-2.is c.in_ok-accesses.ensures in
    record {
      body = body_is tree made c.in_ok-lifted.lifted.numbers.items c.in_ok-lifted.ensures c.args.ins.now c.args.outs.now c.in-Some.runner.code c.in-Some.runner.frame runner here here c.in-Some-2.accesses known
          (given c.set_values.new.frame) c.as_slice-2.result.now c.as_slice-numbers.result.now c.as_slice-2.ensures.value c.as_slice-numbers.ensures.value c.in_ok-set_values.ensures.given (found_so _ c.in_ok-runner.field-0 c.in-Some.runner c.in-Some.is c.in_ok-runner.ensures.set program c.args.base.now);
      known = known;
      outward = subst (λ (context : Context). AreOutward context c.args.outs.now) (sym stands) (outward pool (pos 0) c.args.outs.now c.requires.none elsewhere);
      same_outs = refl;
      same_element = refl;
      there = there;
      inputs = subst (λ (reads : List Track). AllZip (IsSource c.args.element) reads c.in-Some-3.sources.items) c.as_slice.ensures.value (found_so _ c.in_ok-sources.field-0 c.in-Some-3.sources c.in-Some-3.is c.in_ok-sources.ensures);
      first = pos 0;
      stands = stands;
      level = c.in_ok-from.ensures.level program ∙ ap (λ (context : Context). (context.reach c.args.stream).level) stands ∙ level_inside pool (pos 0) c.args.stream c.requires.none c.requires.other;
      container = c.in_ok-from.ensures.container program ∙ ap (λ (context : Context). (context.reach c.args.stream).container) stands ∙ container_inside pool (pos 0) c.args.stream c.requires.none c.requires.other;
    }
