-- Which values of a map's first parameter a piece has, and which lie beside them.
use Rattle.std.specs.List.{Contains}
use Rattle.std.proofs.Common.{◌≡◌, ◌⊎◌, inl, inr, zero, suc, ℕ, ◌+◌, ◌-◌, ◌≤◌, ◌<◌, ℤ, pos, ◌+ℤ◌, ◌*ℤ◌, ◌≤ℤ◌, ◌<ℤ◌, List, [], ◌∷◌, take, drop, length, refl, ap, sym, ◌∙◌, subst, arith}
use Rattle.std.proofs.lemmas.Int.{ints}
use Rattle.std.proofs.lemmas.List.Elements.{recursion_from_All}
use Rattle.std.proofs.Math.IntN.{*ℤ_comm}
use Rattle.sd_range.specs.Affine.{terms_value, affine_value}
use Rattle.sd_range.specs.Arithmetic.{affine_difference}
use Rattle.sd_range.specs.Range.{IsRange, range_values, stepped, least_value}
use Rattle.sd_range.specs.declared.affine.Affine.{Affine}
use Rattle.sd_range.specs.declared.range.Range.{Range}
use Rattle.sd_range.proofs.AffineLaws.{affine_value-difference}
use Rattle.sd_range.proofs.Members.{Contains-nil, Contains-from_take, Contains-from_drop}
use Rattle.sd_range.proofs.Normal.{by_order}
use Rattle.sd_range.proofs.Parts.{at_most_last, part_is}
use Rattle.sd_range.proofs.Products.{*ℤ_distrib_left}
use Rattle.sd_range.proofs.RangeLaws.{stepped-has, range-members}
use Rattle.sd_subset.specs.boxes.Box.{last_end}
use Rattle.sd_subset.specs.boxes.Apart.{IsSingle}
use Rattle.sd_subset.proofs.boxes_lemmas.Bounding.{value-between}
use Rattle.sd_subset.proofs.boxes_lemmas.Disjoint.{of_member}
use Rattle.sd_subset.proofs.boxes_lemmas.Distances.{more-steps}
use Rattle.sd_windows.specs.MapPieces.{number, last_of, range_piece}
use Rattle.sd_safe.proofs.pieces_lemmas.PieceBoxes.{IsBeside, IsApartFrom}

number-value : (values : List ℤ) (n : ℤ) → affine_value values (number n) ≡ n
number-value values n = omega (arith, ints)

-- so many steps, and so many more
steps-sum : (a b : ℕ) (step : ℤ) → pos (a + b) *ℤ step ≡ (pos a *ℤ step) +ℤ (pos b *ℤ step)
steps-sum a b step =
    let parts : step *ℤ (pos a +ℤ pos b) ≡ (step *ℤ pos a) +ℤ (step *ℤ pos b) = *ℤ_distrib_left step (pos a) (pos b) in
    let sum : pos (a + b) ≡ pos a +ℤ pos b = omega (arith, ints) in
    ap (λ n. n *ℤ step) sum ∙ *ℤ_comm (pos a +ℤ pos b) step ∙ parts ∙ (λ i. *ℤ_comm step (pos a) i +ℤ *ℤ_comm step (pos b) i)

-- the number of a place is a value
member-at : (values : List ℤ) (r : Range) (place : ℕ) → IsRange r → place < length (range_values values r) → Contains (range_values values r) (affine_value values r.begin +ℤ (pos place *ℤ r.step))
member-at values r place ok below =
    stepped-has place (affine_value values r.begin) (least_value values r.ends) r.step (affine_value values r.begin +ℤ (pos place *ℤ r.step)) ok.rises refl
    (at_most_last (affine_value values r.begin) (least_value values r.ends) r.step place ok.rises below).1

-- a single parameter has no two values a step apart
single-none : (values : List ℤ) (variable : ℕ) (r : Range) (low high : ℤ) → IsRange r → Contains (range_values values r) low → Contains (range_values values r) high → (low +ℤ r.step) ≤ℤ high → IsSingle [] (variable, r) → ⊥
single-none values variable r low high ok here there far (end, member, single) =
    let gap = affine_difference end r.begin in
    let within : high ≤ℤ affine_value values end =
    of_member (λ (e : Affine). high ≤ℤ affine_value values e) r.ends end (recursion_from_All (λ (e : Affine). high ≤ℤ affine_value values e) r.ends ((range-members r values high ok).0 there).2) member in
    let above = (value-between r values low ok here).0 in
    let constant : affine_value values gap ≡ gap.constant = ap (λ terms. gap.constant +ℤ terms_value values terms) single.constant ∙ omega (arith, ints) in
    omega (arith, ints, far, within, above, constant, single.below, affine_value-difference end r.begin values)

-- a run of values from one on, and another value
pub apart-of : (values : List ℤ) (variable : ℕ) (r : Range) (first more : ℕ) (at : ℤ) (k : ℕ) → IsRange r → first + suc more ≤ length (range_values values r) → Contains (range_values values r) at →
    at ≡ affine_value values r.begin +ℤ (pos k *ℤ r.step) → (k < first) ⊎ (first + suc more ≤ k) → IsApartFrom values variable r (range_piece values first (suc more) r) at
apart-of values variable r first more at k ok within member is away =
    let part = range_piece values first (suc more) r in
    let begin : affine_value values part.begin ≡ affine_value values r.begin +ℤ (pos first *ℤ r.step) = number-value values (affine_value values r.begin +ℤ (pos first *ℤ r.step)) in
    let end : affine_value values (last_end part) ≡ affine_value values r.begin +ℤ (pos (first + more) *ℤ r.step) =
    number-value values ((affine_value values r.begin +ℤ (pos first *ℤ r.step)) +ℤ (pos more *ℤ r.step)) ∙ omega (arith, ints, steps-sum first more r.step) in
    let low : Contains (range_values values r) (affine_value values part.begin) = subst (Contains (range_values values r)) (sym begin) (member-at values r first ok (omega (arith, within))) in
    let high : Contains (range_values values r) (affine_value values (last_end part)) = subst (Contains (range_values values r)) (sym end) (member-at values r (first + more) ok (omega (arith, within))) in
    let beside : IsBeside r.step (affine_value values part.begin) (affine_value values (last_end part)) at = elim away [
      | inl less ↦ inr (omega (arith, ints, begin, is, more-steps k first r.step ok.rises less))
      | inr past ↦ inl (omega (arith, ints, end, is, more-steps (first + more) k r.step ok.rises (omega (arith, past))))
    ] in
    record {
      within = record { begin = (value-between r values (affine_value values part.begin) ok low).0; end = (value-between r values (affine_value values (last_end part)) ok high).1 };
      beside = beside;
      many = λ single. elim beside [
        | inl above ↦ single-none values variable r (affine_value values (last_end part)) at ok high member above single
        | inr below ↦ single-none values variable r at (affine_value values part.begin) ok member low below single
      ];
    }

-- ---- the values of a piece

part-values : (values : List ℤ) (r : Range) (first more : ℕ) → pos 0 <ℤ r.step → first + suc more ≤ length (range_values values r) →
    range_values values (range_piece values first (suc more) r) ≡ take (suc more) (drop first (range_values values r))
part-values values r first more rises within =
    let begin = affine_value values r.begin +ℤ (pos first *ℤ r.step) in
    (λ i. stepped (number-value values begin i) (number-value values (last_of begin r.step (suc more)) i) r.step)
    ∙ part_is (affine_value values r.begin) (least_value values r.ends) r.step begin (begin +ℤ (pos more *ℤ r.step)) first (suc more) rises within (λ none. cc) refl
    (let one_less : suc more - 1 ≡ more = omega arith in ap (λ n. begin +ℤ (pos n *ℤ r.step)) (sym one_less))

pub part-range : (values : List ℤ) (r : Range) (first count : ℕ) → IsRange r → IsRange (range_piece values first count r)
part-range values r first count ok = record { ended = omega arith; few_ends = omega arith; rises = ok.rises }

-- a value of a piece, by its number among all values
pub record IsOfPiece (values : List ℤ) (r : Range) (first count : ℕ) (at : ℤ) : Type 0 where
  pub place : ℕ
  pub from : first ≤ place
  pub below : place < first + count
  pub is : at ≡ affine_value values r.begin +ℤ (pos place *ℤ r.step)
  pub member : Contains (range_values values r) at

few-steps : (j more : ℕ) (step : ℤ) → pos 0 <ℤ step → (pos j *ℤ step) ≤ℤ (pos more *ℤ step) → j ≤ more
few-steps j more step rises below =
    by_order j more
    (λ less. omega (arith, less))
    (λ same. omega (arith, same))
    (λ past. let far = more-steps more j step rises past in absurd (omega (arith, ints, far, below, rises)))

pub of-piece : (values : List ℤ) (r : Range) (first count : ℕ) (at : ℤ) → IsRange r → first + count ≤ length (range_values values r) → Contains (take count (drop first (range_values values r))) at → IsOfPiece values r first count at
of-piece values r first zero at ok within member = absurd (Contains-nil at member)
of-piece values r first (suc more) at ok within member =
    let part = range_piece values first (suc more) r in
    let begin = affine_value values r.begin +ℤ (pos first *ℤ r.step) in
    let last = begin +ℤ (pos more *ℤ r.step) in
    let (j, is, each) = (range-members part values at (part-range values r first (suc more) ok)).0 (subst (λ all. Contains all at) (sym (part-values values r first more ok.rises within)) member) in
    let below = (recursion_from_All (λ (e : Affine). at ≤ℤ affine_value values e) (number last ∷ []) each).0 in
    let few = few-steps j more r.step ok.rises (omega (arith, ints, is, below, number-value values begin, number-value values last)) in
    record {
      place = first + j;
      from = omega arith;
      below = omega (arith, few);
      is = is ∙ omega (arith, ints, number-value values begin, steps-sum first j r.step);
      member = Contains-from_drop first (range_values values r) at (Contains-from_take (suc more) (drop first (range_values values r)) at member);
    }
