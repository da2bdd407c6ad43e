-- The values of the variables at a point of a map.
use Rattle.std.specs.List.{AllByRecursion, AllZip, Contains}
use Rattle.std.proofs.Common.{◌≡◌, ◌≢◌, ℕ, ℤ, List, [], ◌∷◌, map, refl, ap, sym, ◌∙◌, subst, zero, suc}
use Rattle.sd_range.specs.Affine.{variable_value}
use Rattle.sd_range.specs.Range.{range_values}
use Rattle.sd_range.specs.declared.range.Range.{Range}
use Rattle.sd_range.proofs.TupleLaws.{one_of_each}
use Rattle.sd_range.proofs.Members.{AllZip-from_map}
use Rattle.sd_subset.specs.boxes.Box.{Parameter}
use Rattle.sd_subset.specs.boxes.InForce.{IsOther, RangeNamesOthers, AreDistinct, AreFresh, HasValue, AreInForce, IsNormalRange, at_point, IsPoint}
use Rattle.sd_range.specs.Points.{ranges_of}
use Rattle.sd_range.specs.Variables.{with_variable}
use Rattle.sd_subset.proofs.boxes_lemmas.Named.{AgreeBut, range-agrees}

-- a variable that is set has its value
pub with_variable-own : (variable : ℕ) (value : ℤ) (values : List ℤ) → variable_value (with_variable variable value values) variable ≡ value
with_variable-own zero value [] = refl
with_variable-own zero value (other ∷ values) = refl
with_variable-own (suc variable) value [] = with_variable-own variable value []
with_variable-own (suc variable) value (other ∷ values) = with_variable-own variable value values

-- the others keep theirs
pub with_variable-other : (variable : ℕ) (value : ℤ) (values : List ℤ) (other : ℕ) → other ≢ variable → variable_value (with_variable variable value values) other ≡ variable_value values other
with_variable-other zero value [] zero is = absurd (is refl)
with_variable-other zero value [] (suc other) is = refl
with_variable-other zero value (first ∷ values) zero is = absurd (is refl)
with_variable-other zero value (first ∷ values) (suc other) is = refl
with_variable-other (suc variable) value [] zero is = refl
with_variable-other (suc variable) value [] (suc other) is = with_variable-other variable value [] other (λ same. is (ap suc same))
with_variable-other (suc variable) value (first ∷ values) zero is = refl
with_variable-other (suc variable) value (first ∷ values) (suc other) is = with_variable-other variable value values other (λ same. is (ap suc same))

-- other variables keep their values
pub at_point-other : (own : List Parameter) (point values : List ℤ) (variable : ℕ) → IsOther own variable → variable_value (at_point own point values) variable ≡ variable_value values variable
at_point-other [] point values variable other = refl
at_point-other (parameter ∷ own) [] values variable other = refl
at_point-other (parameter ∷ own) (number ∷ point) values variable other =
    at_point-other own point (with_variable parameter.0 number values) variable other.1
    ∙ with_variable-other parameter.0 number values variable other.0

pub agree-at_point : (own : List Parameter) (point values : List ℤ) → AgreeBut own values (at_point own point values)
agree-at_point own point values variable other = sym (at_point-other own point values variable other)

-- two points of a map agree but for its parameters
pub agree-points : (own : List Parameter) (point later values : List ℤ) → AgreeBut own (at_point own point values) (at_point own later values)
agree-points own point later values variable other = at_point-other own point values variable other ∙ agree-at_point own later values variable other

-- the values that the parameters have
abbrev pub numbers_of : List Parameter → List ℤ → List ℤ
numbers_of own values = map (λ parameter. variable_value values parameter.0) own

-- a number of each range
abbrev ChoosesOf : List ℤ → List Parameter → List ℤ → Type 0
ChoosesOf base own point = AllZip (λ parameter number. Contains (range_values base parameter.1) number) own point

-- at a point the parameters have its numbers
numbers-at_point : (base : List ℤ) (own : List Parameter) (point values : List ℤ) → AreDistinct own → ChoosesOf base own point →
    numbers_of own (at_point own point values) ≡ point
numbers-at_point base [] [] values distinct chosen = refl
numbers-at_point base [] (number ∷ point) values distinct chosen = absurd chosen
numbers-at_point base (parameter ∷ own) [] values distinct chosen = absurd chosen
numbers-at_point base (parameter ∷ own) (number ∷ point) values distinct chosen =
    let set = with_variable parameter.0 number values in
    let first : variable_value (at_point own point set) parameter.0 ≡ number =
    at_point-other own point set parameter.0 distinct.0 ∙ with_variable-own parameter.0 number values in
    let rest : numbers_of own (at_point own point set) ≡ point =
    numbers-at_point base own point set distinct.1 chosen.1 in
    λ i. first i ∷ rest i

-- the choice of each number
zipped-each : {X Y : Type 0} (R : X → Y → Type 0) (f : X → Y) (xs : List X) → AllZip R xs (map f xs) → AllByRecursion (λ x. R x (f x)) xs
zipped-each R f [] each = tt
zipped-each R f (x ∷ xs) each = (each.0, zipped-each R f xs each.1)

-- a point has a number of each range
chosen-of : (own : List Parameter) (values point : List ℤ) → IsPoint own values point → ChoosesOf values own point
chosen-of own values point member =
    AllZip-from_map (λ (r : Range) number. Contains (range_values values r) number) (λ (parameter : Parameter). parameter.1) own point
    (AllZip-from_map Contains (range_values values) (ranges_of own) point (one_of_each (map (range_values values) (ranges_of own)) point member))

pub point-numbers : (around own : List Parameter) (values point : List ℤ) → AreFresh around own → IsPoint own values point → numbers_of own (at_point own point values) ≡ point
point-numbers around own values point fresh member = numbers-at_point values own point values fresh.distinct (chosen-of own values point member)

pub both-each : {A : Type 0} (P Q R : A → Type 0) → ((a : A) → P a → Q a → R a) → (all : List A) → AllByRecursion P all → AllByRecursion Q all → AllByRecursion R all
both-each P Q R both [] each other = tt
both-each P Q R both (a ∷ all) each other = (both a each.0 other.0, both-each P Q R both all each.1 other.1)

-- a range keeps its values at a point
range-at_point : (own : List Parameter) (point values : List ℤ) (r : Range) → RangeNamesOthers own r → range_values values r ≡ range_values (at_point own point values) r
range-at_point own point values r named = range-agrees own values (at_point own point values) r (agree-at_point own point values) named

-- at a point of a map its own parameters are in force
pub in_force-own : (around own : List Parameter) (values point : List ℤ) → AreFresh around own → IsPoint own values point → AreInForce (at_point own point values) own
in_force-own around own values point fresh member =
    let there = at_point own point values in
    let chosen : AllByRecursion (λ parameter. Contains (range_values values parameter.1) (variable_value there parameter.0)) own =
    zipped-each (λ parameter number. Contains (range_values values parameter.1) number) (λ parameter. variable_value there parameter.0) own
    (subst (ChoosesOf values own) (sym (point-numbers around own values point fresh member)) (chosen-of own values point member)) in
    both-each (λ parameter. IsNormalRange parameter.1 × RangeNamesOthers own parameter.1) (λ parameter. Contains (range_values values parameter.1) (variable_value there parameter.0)) (HasValue there)
    (λ parameter known has. record { normal = known.0; value = subst (λ numbers. Contains numbers (variable_value there parameter.0)) (range-at_point own point values parameter.1 known.1) has })
    own
    (both-each (λ parameter. IsNormalRange parameter.1) (λ parameter. RangeNamesOthers own parameter.1) (λ parameter. IsNormalRange parameter.1 × RangeNamesOthers own parameter.1)
    (λ parameter normal named. (normal, named)) own fresh.normal fresh.own_ranges)
    chosen

-- and those around stay in force
pub in_force-around : (around own : List Parameter) (values point : List ℤ) → AreFresh around own → AreInForce values around → AreInForce (at_point own point values) around
in_force-around around own values point fresh in_force =
    let there = at_point own point values in
    both-each (λ parameter. IsOther own parameter.0 × RangeNamesOthers own parameter.1) (HasValue values) (HasValue there)
    (λ parameter known has. record {
      normal = has.normal;
      value = subst (λ numbers. Contains numbers (variable_value there parameter.0)) (range-at_point own point values parameter.1 known.1)
          (subst (Contains (range_values values parameter.1)) (sym (at_point-other own point values parameter.0 known.0)) has.value);
    })
    around
    (both-each (λ parameter. IsOther own parameter.0) (λ parameter. RangeNamesOthers own parameter.1) (λ parameter. IsOther own parameter.0 × RangeNamesOthers own parameter.1)
    (λ parameter other named. (other, named)) around fresh.others fresh.outer_ranges)
    in_force
