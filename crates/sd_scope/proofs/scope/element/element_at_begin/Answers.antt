use Rattle.std.proofs.Common.{rules, ◌≡◌, ◌+◌, ◌<◌, ◌≤◌, [], length, drop, ap, sym, ◌∙◌, arith, FitsSigned, to_z, of_z}
use Rattle.std.specs.Int.{w128}
use Rattle.std.proofs.lemmas.Int.{to_z-of_z}
use Rattle.std.proofs.lemmas.List.{drop_all}
use Rattle.sd_range.specs.Affine.{affine_value}
use Rattle.sd_graph.specs.Context.{index_at}
use Rattle.sd_scope.specs.scope.Standing.{constants_of}
use Rattle.sd_scope.proofs.scope_lemmas.Found.{found_all, found_from, not_found, begins_counted, begins_at, began_inside, began_outside, constant_at, constants_counted}
use Rattle.sd_scope.proofs.scope.element.element_at_begin.Goals as goal

pub returns-then-extents-dims : goal.returns-then-extents-dims
returns-then-extents-dims c =
    let index = index_at c.args.dims.now c.args.values.now [] in
    let counted = begins_counted c.args.dims.now c.args.values.now in
    sym (not_found 0 (constants_of c.args.extents.now) index (λ same. c.if-extents-dims.true (sym (constants_counted c.args.extents.now) ∙ same ∙ counted)))
    ∙ found_all (constants_of c.args.extents.now) index

pub returns-in_default : goal.returns-in_default
returns-in_default c =
    let values = c.args.values.now in
    let dims = c.args.dims.now in
    let extents = constants_of c.args.extents.now in
    let others = drop (c.loop-i.i + 1) dims in
    let below : c.loop-i.i < length c.args.extents.now = search rules in
    let within : c.loop-i.i < length dims = omega (arith, below, c.loop-i.invariant.same) in
    let counted = constants_counted c.args.extents.now in
    let number = affine_value values c.begin_of.result.now in
    let number_fits : FitsSigned w128 c.in_ok-number.number = search rules in
    let number_is : to_z w128 (of_z w128 c.in_ok-number.number) ≡ number = to_z-of_z w128 c.in_ok-number.number number_fits ∙ c.in_ok-number.ensures in
    let size = c.size_of.ensures ∙ sym (constant_at c.args.extents.now c.loop-i.i c.index-extents-i.result below c.index-extents-i.is) in
    let told = rw (size, number_is) at c.in_ok-next.ensures in
    let begins = begins_at dims values c.loop-i.i c.index-dims-i.result number within c.index-dims-i.is (c.begin_of.ensures others values) in
    sym (began_outside c.loop-i.place extents (index_at (drop c.loop-i.i dims) values []) (index_at others values []) c.loop-i.i 0 number (omega (arith, below, counted)) begins (sym c.in_default.is ∙ told))
    ∙ c.loop-i.invariant.left
    ∙ found_all extents (index_at dims values [])

pub loop-i-preserved : goal.loop-i-preserved
loop-i-preserved c =
    let values = c.args.values.now in
    let dims = c.args.dims.now in
    let extents = constants_of c.args.extents.now in
    let others = drop (c.loop-i.i + 1) dims in
    let below : c.loop-i.i < length c.args.extents.now = search rules in
    let within : c.loop-i.i < length dims = omega (arith, below, c.loop-i.invariant.same) in
    let counted = constants_counted c.args.extents.now in
    let number = affine_value values c.begin_of.result.now in
    let number_fits : FitsSigned w128 c.in_ok-number.number = search rules in
    let number_is : to_z w128 (of_z w128 c.in_ok-number.number) ≡ number = to_z-of_z w128 c.in_ok-number.number number_fits ∙ c.in_ok-number.ensures in
    let size = c.size_of.ensures ∙ sym (constant_at c.args.extents.now c.loop-i.i c.index-extents-i.result below c.index-extents-i.is) in
    let told = rw (size, number_is) at c.in_ok-next.ensures in
    let begins = begins_at dims values c.loop-i.i c.index-dims-i.result number within c.index-dims-i.is (c.begin_of.ensures others values) in
    record {
      same = c.loop-i.invariant.same;
      left = sym (began_inside c.loop-i.place c.in-Some.next extents (index_at (drop c.loop-i.i dims) values []) (index_at others values []) c.loop-i.i 0 number (omega (arith, below, counted)) begins (sym c.in-Some.is ∙ told)) ∙ c.loop-i.invariant.left;
    }

pub returns : goal.returns
returns c =
    let values = c.args.values.now in
    let dims = c.args.dims.now in
    let extents = constants_of c.args.extents.now in
    let counted = constants_counted c.args.extents.now in
    let over : length extents ≤ c.loop-i.i = omega (arith, counted, c.loop-i-test.false) in
    let past : length dims ≤ c.loop-i.i = omega (arith, c.loop-i-test.false, c.loop-i.invariant.same) in
    let none : index_at (drop c.loop-i.i dims) values [] ≡ [] = ap (λ left. index_at left values []) (drop_all c.loop-i.i dims past) in
    sym (ap (λ index. found_from c.loop-i.place (drop c.loop-i.i extents) index) none ∙ ap (λ left. found_from c.loop-i.place left []) (drop_all c.loop-i.i extents over))
    ∙ c.loop-i.invariant.left
    ∙ found_all extents (index_at dims values [])
