-- What the values of a range are, and that they rise.
use Rattle.std.proofs.Common.{◌≡◌, inl, inr, ◌↔◌, ◌<◌, zero, suc, ℕ, ℤ, pos, negsuc, ◌+ℤ◌, ◌*ℤ◌, ◌<ℤ◌, ◌≤ℤ◌, List, [], ◌∷◌, length, get_or, map, sym, ◌∙◌, subst, arith}
use Rattle.std.specs.List.{All, AllByRecursion, AllPairs, Contains, fold}
use Rattle.std.specs.Int.{int_min}
use Rattle.std.proofs.lemmas.Int.{ints, clamps, by_lt_z}
use Rattle.std.proofs.lemmas.List.Elements.{All-nil, All-cons, All-from_recursion, recursion_from_All}
use Rattle.std.proofs.lemmas.List.Kept.{AllPairs-cons}
use Rattle.sd_range.specs.Affine.{affine_value}
use Rattle.sd_range.specs.Range.{IsRange, count_between, counted_from, stepped, least_value, range_values}
use Rattle.sd_range.specs.Points.{points, Precedes}
use Rattle.sd_range.specs.declared.affine.Affine.{Affine}
use Rattle.sd_range.specs.declared.range.Range.{Range}
use Rattle.sd_range.proofs.Stepped.{stepped-empty, stepped-filled}
use Rattle.sd_range.proofs.Members.{Contains-first, Contains-later}
use Rattle.sd_range.proofs.TupleLaws.{tuples-in_order}

-- one step more
steps-more : (k : ℕ) (begin step : ℤ) → begin +ℤ (pos (suc k) *ℤ step) ≡ (begin +ℤ step) +ℤ (pos k *ℤ step)
steps-more k begin (pos step) = omega (arith, ints)
steps-more k begin (negsuc step) = omega (arith, ints)

-- steps up do not lead below the begin
steps-rise : (k : ℕ) (begin step : ℤ) → pos 0 <ℤ step → begin ≤ℤ (begin +ℤ (pos k *ℤ step))
steps-rise k begin (pos step) rises = omega (arith, ints)
steps-rise k begin (negsuc step) rises = omega (arith, ints)

-- where no step is made the number stays
no_step : (begin step : ℤ) → begin ≡ begin +ℤ (pos 0 *ℤ step)
no_step begin (pos step) = omega (arith, ints)
no_step begin (negsuc step) = omega (arith, ints)

-- where the begin is above the last there is no number
none_there : (k : ℕ) (begin last step : ℤ) → last <ℤ begin → k < length (stepped begin last step) → ⊥
none_there k begin last step over below =
    let none : k < 0 = subst (λ numbers. k < length numbers) (stepped-empty begin last step over) below in omega arith

-- a number of the list stands so many steps from the begin, and not above the last
number_at : (k : ℕ) (begin last step number : ℤ) → pos 0 <ℤ step → k < length (stepped begin last step) → get_or (stepped begin last step) k number ≡ number →
    (number ≡ begin +ℤ (pos k *ℤ step)) × (number ≤ℤ last)
number_at zero begin last step number rises below at =
    by_lt_z last begin
    (λ over. absurd (none_there zero begin last step over below))
    (λ filled.
    let same : begin ≡ number = subst (λ numbers. get_or numbers 0 number ≡ number) (stepped-filled begin last step rises filled) at in
    (sym same ∙ no_step begin step, omega (arith, ints)))
number_at (suc k) begin last step number rises below at =
    by_lt_z last begin
    (λ over. absurd (none_there (suc k) begin last step over below))
    (λ filled.
    let longer : suc k < length (begin ∷ stepped (begin +ℤ step) last step) = subst (λ numbers. suc k < length numbers) (stepped-filled begin last step rises filled) below in
    let later = number_at k (begin +ℤ step) last step number rises (omega arith)
    (subst (λ numbers. get_or numbers (suc k) number ≡ number) (stepped-filled begin last step rises filled) at) in
    (later.0 ∙ sym (steps-more k begin step), later.1))

-- each number so many steps from the begin and not above the last is there
pub stepped-has : (k : ℕ) (begin last step number : ℤ) → pos 0 <ℤ step → number ≡ begin +ℤ (pos k *ℤ step) → number ≤ℤ last → Contains (stepped begin last step) number
stepped-has zero begin last step number rises is within =
    let same : begin ≡ number = no_step begin step ∙ sym is in
    subst (λ numbers. Contains numbers number) (sym (stepped-filled begin last step rises (omega (arith, ints))))
    (subst (Contains (begin ∷ stepped (begin +ℤ step) last step)) same (Contains-first begin (stepped (begin +ℤ step) last step)))
stepped-has (suc k) begin last step number rises is within =
    subst (λ numbers. Contains numbers number) (sym (stepped-filled begin last step rises (omega (arith, ints, steps-rise (suc k) begin step rises))))
    (Contains-later begin (stepped (begin +ℤ step) last step) number (stepped-has k (begin +ℤ step) last step number rises (is ∙ steps-more k begin step) within))

-- what is at most the least number is at most each
at_most-fold : (number start : ℤ) (ends : List Affine) (values : List ℤ) → number ≤ℤ fold int_min start (map (affine_value values) ends) →
    (number ≤ℤ start) × AllByRecursion (λ end. number ≤ℤ affine_value values end) ends
at_most-fold number start [] values least = (least, tt)
at_most-fold number start (end ∷ ends) values least =
    let others = at_most-fold number (int_min start (affine_value values end)) ends values least in
    (omega (arith, ints, clamps, others.0), (omega (arith, ints, clamps, others.0), others.1))

-- what is at most each number is at most the least
fold-at_most : (number start : ℤ) (ends : List Affine) (values : List ℤ) → number ≤ℤ start → AllByRecursion (λ end. number ≤ℤ affine_value values end) ends →
    number ≤ℤ fold int_min start (map (affine_value values) ends)
fold-at_most number start [] values first others = first
fold-at_most number start (end ∷ ends) values first others =
    fold-at_most number (int_min start (affine_value values end)) ends values (omega (arith, ints, clamps, others.0)) others.1

-- a number is at most the least value of ends just where it is at most each of their values
pub at_most_least : (number : ℤ) (ends : List Affine) (values : List ℤ) → 0 < length ends →
    (number ≤ℤ least_value values ends) ↔ All (λ end. number ≤ℤ affine_value values end) ends
at_most_least number [] values ended = absurd (omega arith)
at_most_least number (end ∷ ends) values ended = (
  λ least. All-from_recursion (λ other. number ≤ℤ affine_value values other) (end ∷ ends) (at_most-fold number (affine_value values end) ends values least),
  λ each.
      let parts = recursion_from_All (λ other. number ≤ℤ affine_value values other) (end ∷ ends) each in
      fold-at_most number (affine_value values end) ends values parts.0 parts.1,
)

-- the values of a range are its begin and each whole number of steps more, up to each end
pub range-members : (r : Range) (values : List ℤ) (number : ℤ) → IsRange r →
    (Contains (range_values values r) number) ↔ ((steps : ℕ) × (number ≡ affine_value values r.begin +ℤ (pos steps *ℤ r.step)) × All (λ end. number ≤ℤ affine_value values end) r.ends)
range-members r values number ok =
    let least = at_most_least number r.ends values ok.ended in (
      λ (k, below, at).
          let found = number_at k (affine_value values r.begin) (least_value values r.ends) r.step number ok.rises below at in
          (k, found.0, least.0 found.1),
      λ (k, is, each). stepped-has k (affine_value values r.begin) (least_value values r.ends) r.step number ok.rises is (least.1 each),
    )

-- numbers from one above a bound on are above it
above_bound : (count : ℕ) (bound begin step : ℤ) → pos 0 <ℤ step → bound <ℤ begin → All (λ number. bound <ℤ number) (counted_from begin step count)
above_bound zero bound begin step rises above = All-nil (λ number. bound <ℤ number)
above_bound (suc count) bound begin step rises above =
    All-cons (λ number. bound <ℤ number) begin (counted_from (begin +ℤ step) step count) above
    (above_bound count bound (begin +ℤ step) step rises (omega (arith, ints)))

-- numbers a step apart rise
pub counted-rises : (count : ℕ) (begin step : ℤ) → pos 0 <ℤ step → AllPairs (λ a b. a <ℤ b) (counted_from begin step count)
counted-rises zero begin step rises = λ i j d before below. absurd (omega arith)
counted-rises (suc count) begin step rises =
    AllPairs-cons (λ a b. a <ℤ b) begin (counted_from (begin +ℤ step) step count)
    (above_bound count begin (begin +ℤ step) step rises (omega (arith, ints)))
    (counted-rises count (begin +ℤ step) step rises)

-- the values of a range rise
pub range-rises : (r : Range) (values : List ℤ) → IsRange r → AllPairs (λ a b. a <ℤ b) (range_values values r)
range-rises r values ok = counted-rises (count_between (affine_value values r.begin) (least_value values r.ends) r.step) (affine_value values r.begin) r.step ok.rises

-- the values of each range rise
each-rises : (ranges : List Range) (values : List ℤ) → AllByRecursion IsRange ranges → AllByRecursion (AllPairs (λ a b. a <ℤ b)) (map (range_values values) ranges)
each-rises [] values each = tt
each-rises (r ∷ ranges) values each =
    (range-rises r values each.0, each-rises ranges values each.1)

-- the points of ranges come in lexicographic order
pub points-in_order : (ranges : List Range) (values : List ℤ) → All IsRange ranges → AllPairs Precedes (points ranges values)
points-in_order ranges values each = tuples-in_order (map (range_values values) ranges) (each-rises ranges values (recursion_from_All IsRange ranges each))

-- no point precedes itself
precedes-itself : (point : List ℤ) → Precedes point point → ⊥
precedes-itself [] before = before
precedes-itself (number ∷ point) (inl less) = omega (arith, ints)
precedes-itself (number ∷ point) (inr (same, before)) = precedes-itself point before

-- a point that precedes another is not that one
precedes-distinct : (point later : List ℤ) → Precedes point later → point ≡ later → ⊥
precedes-distinct point later before same = precedes-itself later (subst (λ p. Precedes p later) same before)

-- the points of ranges are distinct
pub points-distinct : (ranges : List Range) (values : List ℤ) → All IsRange ranges → AllPairs (λ point later. point ≡ later → ⊥) (points ranges values)
points-distinct ranges values each = λ i j d before below. precedes-distinct _ _ (points-in_order ranges values each i j d before below)
