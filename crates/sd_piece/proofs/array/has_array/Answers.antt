use Rattle.std.proofs.Common.{◌≡◌, nat_eq, true, sym, ◌∙◌, subst, arith}
use Rattle.std.proofs.lemmas.Bool.{eqb-true}
use Rattle.sd_mem.specs.mem.Shaped.{shape_at}
use Rattle.sd_part.proofs.MarkedBoxes.{same-number}
use Rattle.sd_piece.proofs.Arrays.{is-array, no-last, one-beyond, has-count, are-some}
use Rattle.sd_piece.proofs.Touched.{not-so}
use Rattle.sd_piece.proofs.array.has_array.Goals as goal

pub returns-then-not-branch : goal.returns-then-not-branch
returns-then-not-branch c = not-so (no-last c.args.memory.now c.args.container c.args.extents.now (sym c.in_ok-has_last.ensures ∙ c.if-not-branch.true))

pub returns-then-branch : goal.returns-then-branch
returns-then-branch c =
    let less = c.loop-dimension-test.true in
    not-so (one-beyond c.args.memory.now c.args.container c.loop-dimension.dimension c.args.extents.now (omega (arith, less)) (sym c.in_ok-has_beyond.ensures ∙ c.if-branch.true))

pub product_of-requires : goal.product_of-requires
product_of-requires c = are-some (shape_at c.args.memory.now c.args.container) c.args.extents.now (sym c.in_ok-has_last.ensures ∙ c.if-not-branch.false)

pub returns : goal.returns
returns c =
    let over = c.loop-dimension-test.false in
    let count = c.element_count-count in (
      λ yes. is-array c.args.memory.now c.args.container c.args.extents.now (sym c.in_ok-has_last.ensures ∙ c.if-not-branch.false) (λ d less. c.loop-dimension.invariant d (omega (arith, less, over)))
          (sym count.ensures ∙ eqb-true count.result c.in-Some.all yes ∙ c.in-Some.ensures),
      λ has.
          let same : count.result ≡ c.in-Some.all = count.ensures ∙ has-count c.args.memory.now c.args.container c.args.extents.now has ∙ sym c.in-Some.ensures in
          subst (λ n. nat_eq count.result n ≡ true) same (same-number count.result),
    )
