use Rattle.std.proofs.Common.{◌≡◌, ◌+◌, ◌*◌, ◌<◌, ℕ, ℤ, pos, ◌*ℤ◌, unsigned_abs, map, slice_index_or, FitsSigned, w64, to_z, of_z, sym, ap, ◌∙◌}
use Rattle.std.proofs.lemmas.Int.{to_z-of_z}
use Rattle.sd_num.specs.Wrapped.{wrapped}
use Rattle.sd_tcode.specs.columns.Columns.{value_on}
use Rattle.sd_tcode.specs.columns.Products.{product_on, added}
use Rattle.sd_tcode.proofs.columns_lemmas.Sides.{same_added}
use Rattle.sd_tcode.proofs.columns.products.add_products.Goals as goal

pub returns : goal.returns
returns g c =
    let left = map g.L.Cell.element c.args.left.now in
    let right = map g.R.Cell.element c.args.right.now in
    let lefts = c.in_ok-left_places.left_places in
    let rights = c.in_ok-right_places.right_places in
    let at_places : ℕ → ℤ = λ run. wrapped (slice_index_or left (lefts.first + lefts.distance * run) (pos 0) *ℤ slice_index_or right (rights.first + rights.distance * run) (pos 0)) in
    let first_is : (run : ℕ) → run < c.args.count → unsigned_abs (value_on c.args.lefts.now (c.args.from + run)) ≡ lefts.first + lefts.distance * run = c.in_ok-left_places.ensures.places in
    let second_is : (run : ℕ) → run < c.args.count → unsigned_abs (value_on c.args.rights.now (c.args.from + run)) ≡ rights.first + rights.distance * run = c.in_ok-right_places.ensures.places in
    let fits : FitsSigned w64 c.add_at.result = record { sfits = c.add_at.type_inv } in
    let sum_is : c.add_at.result ≡ added at_places (to_z w64 (of_z w64 c.args.number)) c.args.count = c.add_at.ensures in
    to_z-of_z w64 c.add_at.result fits ∙ sum_is
    ∙ ap (λ number. added at_places number c.args.count) (to_z-of_z w64 c.args.number c.ranges.number)
    ∙ same_added at_places (λ run. product_on left c.args.lefts.now right c.args.rights.now (c.args.from + run)) c.args.number c.args.count
    (λ run below i. wrapped (slice_index_or left (sym (first_is run below) i) (pos 0) *ℤ slice_index_or right (sym (second_is run below) i) (pos 0)))
