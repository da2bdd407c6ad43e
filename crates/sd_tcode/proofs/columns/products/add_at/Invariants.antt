use Rattle.std.proofs.Common.{◌≡◌, ◌+◌, ◌*◌, pos, ◌*ℤ◌, map, slice_index_or}
use Rattle.sd_num.specs.Wrapped.{wrapped}
use Rattle.sd_tcode.specs.columns.Products.{added}
use Rattle.sd_tcode.proofs.columns.products.add_at.Given as goal

-- the products so far
abbrev pub invariant-loop : goal.invariant-loop
invariant-loop g l = record {
  left : l.left_place ≡ l.lefts.first + l.lefts.distance * l.counter;
  right : l.right_place ≡ l.rights.first + l.rights.distance * l.counter;
  sum : l.sum ≡ added (λ i. wrapped (slice_index_or (map g.L.Cell.element l.left) (l.lefts.first + l.lefts.distance * i) (pos 0) *ℤ slice_index_or (map g.R.Cell.element l.right) (l.rights.first + l.rights.distance * i) (pos 0))) l.number l.counter;
}
