use Rattle.std.proofs.Common.{◌≡◌, ℕ, suc, ◌+◌, ◌*◌, ℤ, pos, ◌+ℤ◌, ◌*ℤ◌, map, slice_index_or, w64, to_z, of_z, ap, ◌∙◌, arith, rules}
use Rattle.std.proofs.lemmas.Int.{to_z-of_z}
use Rattle.sd_num.specs.Wrapped.{wrapped}
use Rattle.sd_tcode.specs.columns.Products.{added}
use Rattle.sd_tcode.proofs.columns.products.add_at.Goals as goal

pub loop-preserved : goal.loop-preserved
loop-preserved g c =
    let left = map g.L.Cell.element c.args.left.now in
    let right = map g.R.Cell.element c.args.right.now in
    let lefts = c.args.lefts in
    let rights = c.args.rights in
    let i = c.loop.counter in
    let number = to_z w64 (of_z w64 c.args.number) in
    let value : ℕ → ℤ = λ i. wrapped (slice_index_or left (lefts.first + lefts.distance * i) (pos 0) *ℤ slice_index_or right (rights.first + rights.distance * i) (pos 0)) in
    let first_is : to_z w64 (of_z w64 c.element_at.result) ≡ slice_index_or left (lefts.first + lefts.distance * i) (pos 0) =
    to_z-of_z w64 c.element_at.result (record { sfits = c.element_at.type_inv }) ∙ c.element_at.ensures ∙ ap (λ place. slice_index_or left place (pos 0)) c.loop.invariant.left in
    let second_is : to_z w64 (of_z w64 c.element_at-in-loop.result) ≡ slice_index_or right (rights.first + rights.distance * i) (pos 0) =
    to_z-of_z w64 c.element_at-in-loop.result (record { sfits = c.element_at-in-loop.type_inv }) ∙ c.element_at-in-loop.ensures ∙ ap (λ place. slice_index_or right place (pos 0)) c.loop.invariant.right in
    let product_is : to_z w64 (of_z w64 c.mul-product.result) ≡ value i =
    to_z-of_z w64 c.mul-product.result (record { sfits = c.mul-product.type_inv }) ∙ c.mul-product.ensures ∙ (λ j. wrapped (first_is j *ℤ second_is j)) in
    let so_far : to_z w64 c.loop.sum-bits ≡ added value number i = c.loop.invariant.sum in
    let next : suc i ≡ i + 1 = omega arith in
    record {
      left = search rules;
      right = search rules;
      sum = to_z-of_z w64 c.add-sum.result (record { sfits = c.add-sum.type_inv }) ∙ c.add-sum.ensures ∙ (λ j. wrapped (so_far j +ℤ product_is j)) ∙ ap (added value number) next;
    }
