use Rattle.std.proofs.Common.{rules, ◌<◌, length, pos, sym, ◌∙◌, arith}
use Rattle.sd_scope.specs.scope.Standing.{constants_of}
use Rattle.sd_scope.proofs.scope_lemmas.Found.{found_all, not_found, stopped, went_on, arrived, constant_at, constants_counted}
use Rattle.sd_scope.proofs.scope.element.element_among.Goals as goal

pub returns-then-extents-index : goal.returns-then-extents-index
returns-then-extents-index c =
    sym (not_found 0 (constants_of c.args.extents.now) c.args.index.now (λ same. c.if-extents-index.true (sym (constants_counted c.args.extents.now) ∙ same)))
    ∙ found_all (constants_of c.args.extents.now) c.args.index.now

pub returns-in_default : goal.returns-in_default
returns-in_default c =
    let extents = constants_of c.args.extents.now in
    let below : c.loop-i.i < length c.args.extents.now = search rules in
    let counted = constants_counted c.args.extents.now in
    let size = c.size_of.ensures ∙ sym (constant_at c.args.extents.now c.loop-i.i c.index-extents-i.result below c.index-extents-i.is) in
    let told = rw size at c.in_ok-next.ensures in
    sym (stopped c.loop-i.place extents c.args.index.now c.loop-i.i 0 (pos 0) (omega (arith, counted)) (search rules) (sym c.in_default.is ∙ told))
    ∙ c.loop-i.invariant.left
    ∙ found_all extents c.args.index.now

pub loop-i-preserved : goal.loop-i-preserved
loop-i-preserved c =
    let extents = constants_of c.args.extents.now in
    let below : c.loop-i.i < length c.args.extents.now = search rules in
    let counted = constants_counted c.args.extents.now in
    let size = c.size_of.ensures ∙ sym (constant_at c.args.extents.now c.loop-i.i c.index-extents-i.result below c.index-extents-i.is) in
    let told = rw size at c.in_ok-next.ensures in
    record {
      same = c.loop-i.invariant.same;
      left = sym (went_on c.loop-i.place c.in-Some.next extents c.args.index.now c.loop-i.i 0 (pos 0) (omega (arith, counted)) (search rules) (sym c.in-Some.is ∙ told)) ∙ c.loop-i.invariant.left;
    }

pub returns : goal.returns
returns c =
    let counted = constants_counted c.args.extents.now in
    sym (arrived c.loop-i.place (constants_of c.args.extents.now) c.args.index.now c.loop-i.i (omega (arith, counted)) (search rules))
    ∙ c.loop-i.invariant.left
    ∙ found_all (constants_of c.args.extents.now) c.args.index.now
