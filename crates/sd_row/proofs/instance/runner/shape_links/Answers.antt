use Rattle.std.proofs.Common.{◌≡◌, ◌+◌, ◌<◌, ◌++◌, List, length, map, take, slice_set, true, sym, ap, ◌∙◌, subst, rules, arith}
use Rattle.std.proofs.lemmas.List.{length-set, take_all}
use Rattle.sd_graph.specs.Context.{link_extents}
use Rattle.sd_graph.specs.declared.link.Link.{Link}
use Rattle.sd_graph.specs.TaskletMeaning.{Inputs}
use Rattle.sd_tcode.specs.tcode.Held.{given, with_extents}
use Rattle.sd_scope.specs.scope.Standing.{context_of}
use Rattle.sd_row.proofs.row_lemmas.Registers.{one_more}
use Rattle.sd_row.proofs.instance_lemmas.Matched.{found_so}
use Rattle.sd_row.proofs.instance_lemmas.Zeros.{shaped, has_connector}
use Rattle.sd_row.proofs.instance.runner.shape_links.Goals as goal

pub returns-then-not-shape-clause-ready : goal.returns-then-not-shape-clause-ready
returns-then-not-shape-clause-ready c code ready = c.shape.ensures.ready code (c.loop-link.invariant.ready code ready)

pub loop-link-preserved : goal.loop-link-preserved
loop-link-preserved c =
    let old = given c.loop-link.frame in
    let new = given c.shape.new.self in
    let start = given c.args.frame.now in
    let connector = c.loop-link.connector in
    let number = c.loop-link.link-index in
    let extents = c.as_slice-in-loop-link.result.now in
    let narrow : c.in-Some.extents.items ≡ c.as_slice.result.now = found_so _ c.in_ok-extents-2.field-0 c.in-Some.extents c.in-Some.is c.in_ok-extents-2.ensures in
    let done : c.shape.result ≡ true = search rules in
    let same : new ≡ with_extents old connector extents = shaped old new connector extents c.shape.result done c.shape.ensures.given in
    let here : connector ≡ c.args.first + number = c.loop-link.invariant.here in
    let set : new.extents ≡ slice_set old.extents (c.args.first + number) extents = ap (λ (inputs : Inputs). inputs.extents) same ∙ ap (λ place. slice_set old.extents place extents) here in
    let room : c.args.first + number < length old.extents = subst (λ place. place < length old.extents) here (has_connector old connector extents c.shape.result done c.shape.ensures.may) in
    record {
      set = λ program base.
          ap (take (c.args.first + (number + 1))) set
          ∙ one_more (link_extents (context_of program base c.args.scope.now)) (take c.args.first start.extents) old.extents c.args.first number c.args.links.now c.link-item.result extents c.loop-link-test.true room c.link-item.is
          (c.as_slice-in-loop-link.ensures.value ∙ narrow ∙ c.as_slice.ensures.value ∙ c.in_ok-extents.ensures program base) (c.loop-link.invariant.set program base);
      count = ap length set ∙ length-set old.extents (c.args.first + number) extents ∙ c.loop-link.invariant.count;
      values = ap (λ (inputs : Inputs). inputs.values) same ∙ c.loop-link.invariant.values;
      variables = ap (λ (inputs : Inputs). inputs.variables) same ∙ c.loop-link.invariant.variables;
      ready = λ code ready. c.shape.ensures.ready code (c.loop-link.invariant.ready code ready);
      here = search rules;
    }

pub returns-clause-extents : goal.returns-clause-extents
returns-clause-extents c done program base =
    let links = c.args.links.now in
    let number = c.loop-link.link-index in
    let extents = (given c.loop-link.frame).extents in
    let all : number ≡ length links = omega (arith, c.loop-link-test.false, c.loop-link.auto.link-index-end) in
    ap (λ count. take (c.args.first + count) extents) (sym all) ∙ c.loop-link.invariant.set program base
    ∙ ap (λ (links : List Link). take c.args.first (given c.args.frame.now).extents ++ map (link_extents (context_of program base c.args.scope.now)) links) (take_all number links c.loop-link-test.false)
