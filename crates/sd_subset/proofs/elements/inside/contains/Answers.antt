use Rattle.std.proofs.Common.{◌∙◌, sym, ◌<◌, length, arith}
use Rattle.sd_subset.proofs.elements_lemmas.Insides.{other_length, left-fails, left-passes}
use Rattle.sd_subset.proofs.elements.inside.contains.Goals as goal

pub returns-then-shape-index : goal.returns-then-shape-index
returns-then-shape-index c = sym (other_length c.args.shape.now c.args.index.now c.if-shape-index.true)

pub returns-then-not-is_within : goal.returns-then-not-is_within
returns-then-not-is_within c =
    let within : c.loop-i.i < length c.args.index.now = omega (arith, c.loop-i.invariant.same, c.loop-i-test.true) in
    sym (left-fails c.args.shape.now c.args.index.now c.loop-i.i _ _ c.loop-i-test.true within (sym c.is_within.ensures ∙ c.if-not-is_within.true))
    ∙ c.loop-i.invariant.left

pub loop-i-preserved : goal.loop-i-preserved
loop-i-preserved c =
    let within : c.loop-i.i < length c.args.index.now = omega (arith, c.loop-i.invariant.same, c.loop-i-test.true) in
    record {
      same = c.loop-i.invariant.same;
      left = left-passes c.args.shape.now c.args.index.now c.loop-i.i _ _ c.loop-i-test.true within (sym c.is_within.ensures ∙ c.if-not-is_within.false)
          ∙ c.loop-i.invariant.left;
    }
