-- Harmless boxes share no element at two points of a map.
use Rattle.std.specs.List.{AllByRecursion, Contains}
use Rattle.std.proofs.Common.{◌≡◌, ◌≢◌, ◌⊎◌, inl, inr, zero, suc, ℕ, ℤ, pos, neg_ℤ, ◌+ℤ◌, ◌-ℤ◌, ◌*ℤ◌, ◌≤ℤ◌, ◌<ℤ◌, unsigned_abs, List, [], ◌∷◌, refl, ap, sym, ◌∙◌, subst, arith}
use Rattle.std.proofs.lemmas.Int.{ints}
use Rattle.std.proofs.lemmas.List.Elements.{recursion_from_All, All-from_recursion}
use Rattle.std.proofs.Math.IntN.{zero-*ℤ}
use Rattle.sd_range.specs.Terms.{IsNormal, coefficient_of}
use Rattle.sd_range.specs.Affine.{variable_value, terms_value, affine_value}
use Rattle.sd_range.specs.Arithmetic.{affine_difference, others_of}
use Rattle.sd_range.specs.declared.affine.Affine.{Affine}
use Rattle.sd_range.proofs.Normal.{by_same, normal-combined}
use Rattle.sd_range.proofs.Coefficients.{coefficient_of-first, coefficient_of-rest}
use Rattle.sd_range.proofs.AffineLaws.{affine_value-difference}
use Rattle.sd_range.proofs.RangeLaws.{range-members}
use Rattle.sd_subset.specs.declared.boxes.bounds.Bounds.{Bounds}
use Rattle.sd_subset.specs.boxes.Box.{Parameter, Box, least, greatest, replaced, IsBetween, IsInBox}
use Rattle.sd_subset.specs.boxes.InForce.{IsOther, RangeNamesOthers, AreFresh, HasValue, AreInForce, at_point, IsPoint, AreNormalBounds, IsNormalBox}
use Rattle.sd_subset.specs.boxes.Apart.{BeginsAbove, InSome, AreDisjoint, SeparatesIn, AreSeparated, IsSingle, AreHarmless}
use Rattle.sd_subset.proofs.boxes_lemmas.Named.{AllNamed, each_weaker, named-others_of, least-names_others, greatest-names_others, AgreeBut, terms-agree, value-agrees}
use Rattle.sd_subset.proofs.boxes_lemmas.Bounding.{terms-split, least-below, greatest-above, in-replaced, normal-replaced}
use Rattle.sd_subset.proofs.boxes_lemmas.AtPoint.{agree-at_point, agree-points, numbers_of, point-numbers, both-each, in_force-own, in_force-around}
use Rattle.sd_subset.proofs.boxes_lemmas.Distances.{AreFar, more-steps, values-far, multiples-far, moved-apart}

-- an index in a box with a map's parameters replaced is in it wherever the values agree but for them
in_box-agrees : (own : List Parameter) (box : Box) (values others index : List ℤ) → AgreeBut own values others → AllByRecursion (λ parameter. RangeNamesOthers own parameter.1) own →
    IsInBox values (replaced own box) index → IsInBox others (replaced own box) index
in_box-agrees own [] values others [] agree named inside = tt
in_box-agrees own [] values others (number ∷ index) agree named inside = absurd inside
in_box-agrees own (bounds ∷ box) values others [] agree named inside = absurd inside
in_box-agrees own (bounds ∷ box) values others (number ∷ index) agree named inside = (
  record {
    low = subst (λ n. n ≤ℤ number) (value-agrees own values others (least own bounds.low) agree (least-names_others own bounds.low named)) inside.0.low;
    high = subst (λ n. number ≤ℤ n) (value-agrees own values others (greatest own bounds.high) agree (greatest-names_others own bounds.high named)) inside.0.high;
  },
  in_box-agrees own box values others index agree named inside.1,
)

-- what is in a box at a point of a map is in the box with the map's parameters replaced
pub in-outer_box : (around own : List Parameter) (box : Box) (values point index : List ℤ) → AreFresh around own → IsNormalBox box → IsPoint own values point →
    IsInBox (at_point own point values) box index → IsInBox values (replaced own box) index
in-outer_box around own box values point index fresh normal member inside =
    in_box-agrees own box (at_point own point values) values index (λ variable other. sym (agree-at_point own point values variable other)) fresh.own_ranges
    (in-replaced own box (at_point own point values) index normal (in_force-own around own values point fresh member) inside)

-- an expression without terms has its constant as value
value-constant : (a : Affine) (values : List ℤ) → a.terms ≡ [] → affine_value values a ≡ a.constant
value-constant a values none = ap (λ terms. a.constant +ℤ terms_value values terms) none ∙ omega (arith, ints)

-- where one begins above the other's end they share no number
above-none : (around : List Parameter) (one other : Bounds) (values : List ℤ) (number : ℤ) → AreNormalBounds one → AreInForce values around → BeginsAbove around one other →
    affine_value values one.low ≤ℤ number → number ≤ℤ affine_value values other.high → ⊥
above-none around one other values number normal in_force above low high =
    let gap = affine_difference one.low other.high in
    let normal_gap : IsNormal gap.terms = normal-combined one.low.terms (neg_ℤ (pos 1)) other.high.terms normal.low in
    omega (arith, ints, above.above, value-constant (least around gap) values above.constant, least-below around gap values normal_gap in_force, affine_value-difference one.low other.high values)

-- boxes that are disjoint share no index
disjoint-none : (around : List Parameter) (box other : Box) (values index : List ℤ) → IsNormalBox box → IsNormalBox other → AreInForce values around → AreDisjoint around box other →
    IsInBox values box index → IsInBox values other index → ⊥
disjoint-none around [] other values index normal normal' in_force disjoint inside inside' = absurd disjoint
disjoint-none around (one ∷ box) [] values index normal normal' in_force disjoint inside inside' = absurd disjoint
disjoint-none around (one ∷ box) (two ∷ other) values [] normal normal' in_force disjoint inside inside' = absurd inside
disjoint-none around (one ∷ box) (two ∷ other) values (number ∷ index) normal normal' in_force (inl (inl above)) inside inside' =
    above-none around one two values number normal.0 in_force above inside.0.low inside'.0.high
disjoint-none around (one ∷ box) (two ∷ other) values (number ∷ index) normal normal' in_force (inl (inr above)) inside inside' =
    above-none around two one values number normal'.0 in_force above inside'.0.low inside.0.high
disjoint-none around (one ∷ box) (two ∷ other) values (number ∷ index) normal normal' in_force (inr later) inside inside' =
    disjoint-none around box other values index normal.1 normal'.1 in_force later inside.1 inside'.1

-- a variable of coefficient zero is in no term of a normal form
none-named : (terms : List (ℕ × ℤ)) (variable : ℕ) → IsNormal terms → coefficient_of terms variable ≡ pos 0 → AllNamed (λ named. named ≢ variable) terms
none-named [] variable normal none = tt
none-named (term ∷ terms) variable normal none =
    by_same term.0 variable
    (λ is. absurd (normal.0 (sym (coefficient_of-first term terms variable is) ∙ none)))
    (λ other. (other, none-named terms variable normal.2 (sym (coefficient_of-rest term terms variable other) ∙ none)))

no_condition : (by : ℕ) (terms : List (ℕ × ℤ)) → AllNamed (λ named. named ≢ by → IsOther [] named) terms
no_condition by [] = tt
no_condition by (term ∷ terms) = (λ other. tt, no_condition by terms)

as_other : (variable by : ℕ) (terms : List (ℕ × ℤ)) → variable ≡ by → AllNamed (λ named. named ≢ by → named ≢ variable) terms
as_other variable by [] is = tt
as_other variable by (term ∷ terms) is = (λ other same. other (same ∙ is), as_other variable by terms is)

-- where only one of a map's parameters has a coefficient, no term but its own has one of them
pub others-named : (own : List Parameter) (by : ℕ) (terms : List (ℕ × ℤ)) → IsNormal terms → AllByRecursion (λ parameter. parameter.0 ≢ by → coefficient_of terms parameter.0 ≡ pos 0) own →
    AllNamed (λ named. named ≢ by → IsOther own named) terms
others-named [] by terms normal alone = no_condition by terms
others-named (parameter ∷ own) by terms normal alone =
    let first : AllNamed (λ named. named ≢ by → named ≢ parameter.0) terms =
    by_same parameter.0 by
    (λ is. as_other parameter.0 by terms is)
    (λ other. each_weaker (λ term. term.0 ≢ parameter.0) (λ term. term.0 ≢ by → term.0 ≢ parameter.0) (λ term none _. none) terms (none-named terms parameter.0 normal (alone.0 other))) in
    both-each (λ term. term.0 ≢ by → term.0 ≢ parameter.0) (λ term. term.0 ≢ by → IsOther own term.0) (λ term. term.0 ≢ by → IsOther (parameter ∷ own) term.0)
    (λ term one rest other. (one other, rest other)) terms first (others-named own by terms normal alone.1)

-- where the values of the parameter are far from each other, bounds that it separates share no number
separates-none : (own : List Parameter) (by : Parameter) (one other : Bounds) (values others : List ℤ) (number : ℤ) → AreNormalBounds one → AgreeBut own values others →
    SeparatesIn own by one other → AreFar by.1.step (variable_value values by.0) (variable_value others by.0) →
    IsBetween values one number → IsBetween others other number → ⊥
separates-none own by one other values others number normal agree separates far here there =
    let terms = one.low.terms in
    let c = coefficient_of terms by.0 in
    let x = variable_value values by.0 in
    let y = variable_value others by.0 in
    let rest = terms_value values (others_of by.0 terms) in
    let same : rest ≡ terms_value others (others_of by.0 terms) =
    terms-agree own values others (others_of by.0 terms) agree (named-others_of (IsOther own) by.0 terms (others-named own by.0 terms normal.low separates.alone)) in
    let split = terms-split terms by.0 values normal.low in
    let split' = terms-split terms by.0 others normal.low in
    let high : affine_value values one.high ≡ one.high.constant +ℤ terms_value values terms = ap (λ all. one.high.constant +ℤ terms_value values all) separates.parallel.high in
    let low' : affine_value others other.low ≡ other.low.constant +ℤ terms_value others terms = ap (λ all. other.low.constant +ℤ terms_value others all) separates.parallel.other_low in
    let high' : affine_value others other.high ≡ other.high.constant +ℤ terms_value others terms = ap (λ all. other.high.constant +ℤ terms_value others all) separates.parallel.other_high in
    moved-apart (number -ℤ rest) one.low.constant one.high.constant other.low.constant other.high.constant (c *ℤ x) (c *ℤ y) (pos (unsigned_abs c) *ℤ by.1.step)
    (multiples-far c by.1.step x y far) separates.wide.wide separates.wide.other_wide
    (omega (arith, ints, here.low, split))
    (omega (arith, ints, here.high, high, split))
    (omega (arith, ints, there.low, low', split', same))
    (omega (arith, ints, there.high, high', split', same))

separated-none : (own : List Parameter) (by : Parameter) (box other : Box) (values others index : List ℤ) → IsNormalBox box → AgreeBut own values others →
    AreSeparated own by box other → AreFar by.1.step (variable_value values by.0) (variable_value others by.0) →
    IsInBox values box index → IsInBox others other index → ⊥
separated-none own by [] other values others index normal agree separated far inside inside' = absurd separated
separated-none own by (one ∷ box) [] values others index normal agree separated far inside inside' = absurd separated
separated-none own by (one ∷ box) (two ∷ other) values others [] normal agree separated far inside inside' = absurd inside
separated-none own by (one ∷ box) (two ∷ other) values others (number ∷ index) normal agree (inl separates) far inside inside' =
    separates-none own by one two values others number normal.0 agree separates far inside.0 inside'.0
separated-none own by (one ∷ box) (two ∷ other) values others (number ∷ index) normal agree (inr later) far inside inside' =
    separated-none own by box other values others index normal.1 agree later far inside.1 inside'.1

-- what holds of each holds of a member
pub of_member : {A : Type 0} (P : A → Type 0) (all : List A) (a : A) → AllByRecursion P all → Contains all a → P a
of_member P all a each (k, below, at) = subst P at (All-from_recursion P all each k a below)

-- no whole step fits below one
no_steps : (steps : ℕ) (step begin x end : ℤ) → pos 0 <ℤ step → x ≡ begin +ℤ (pos steps *ℤ step) → x ≤ℤ end → (end -ℤ begin) <ℤ step → x ≡ begin
no_steps zero step begin x end rises is within below = is ∙ omega (arith, ints, zero-*ℤ step)
no_steps (suc steps) step begin x end rises is within below =
    let more = more-steps 0 (suc steps) step rises (omega arith) in
    absurd (omega (arith, ints, more, zero-*ℤ step))

-- a single parameter has its begin as value
single-begin : (around : List Parameter) (parameter : Parameter) (values : List ℤ) → AreInForce values around → HasValue values parameter → IsSingle around parameter →
    variable_value values parameter.0 ≡ affine_value values parameter.1.begin
single-begin around parameter values in_force has (end, member, single) =
    let r = parameter.1 in
    let x = variable_value values parameter.0 in
    let (steps, is, each) = (range-members r values x has.normal.range).0 has.value in
    let normal_end : IsNormal end.terms = of_member (λ (e : Affine). IsNormal e.terms) r.ends end has.normal.ends member in
    let gap = affine_difference end r.begin in
    let within : x ≤ℤ affine_value values end = of_member (λ (e : Affine). x ≤ℤ affine_value values e) r.ends end (recursion_from_All (λ (e : Affine). x ≤ℤ affine_value values e) r.ends each) member in
    let normal_gap : IsNormal gap.terms = normal-combined end.terms (neg_ℤ (pos 1)) r.begin.terms normal_end in
    no_steps steps r.step (affine_value values r.begin) x (affine_value values end) has.normal.range.rises is within
    (omega (arith, ints, single.below, value-constant (greatest around gap) values single.constant, greatest-above around gap values normal_gap in_force, affine_value-difference end r.begin values))

-- two values of one range are one or far from each other
one_or_far : (own : List Parameter) (parameter : Parameter) (values others : List ℤ) → AgreeBut own values others → RangeNamesOthers own parameter.1 → HasValue values parameter → HasValue others parameter →
    (variable_value values parameter.0 ≡ variable_value others parameter.0) ⊎ AreFar parameter.1.step (variable_value values parameter.0) (variable_value others parameter.0)
one_or_far own parameter values others agree named has has' =
    let r = parameter.1 in
    let (steps, is, _) = (range-members r values (variable_value values parameter.0) has.normal.range).0 has.value in
    let (steps', is', _) = (range-members r others (variable_value others parameter.0) has.normal.range).0 has'.value in
    values-far (affine_value values r.begin) r.step (variable_value values parameter.0) (variable_value others parameter.0) steps steps' has.normal.range.rises is
    (is' ∙ ap (λ begin. begin +ℤ (pos steps' *ℤ r.step)) (sym (value-agrees own values others r.begin agree named.0)))

-- where a parameter is single, or separates two boxes that share an index, it has one value
one_value : (around own : List Parameter) (parameter : Parameter) (box other : Box) (values others index : List ℤ) → IsNormalBox box → AgreeBut own values others → RangeNamesOthers own parameter.1 →
    AreInForce values around → AreInForce others around → HasValue values parameter → HasValue others parameter → IsSingle around parameter ⊎ AreSeparated own parameter box other →
    IsInBox values box index → IsInBox others other index → variable_value values parameter.0 ≡ variable_value others parameter.0
one_value around own parameter box other values others index normal agree named in_force in_force' has has' (inl single) inside inside' =
    single-begin around parameter values in_force has single ∙ value-agrees own values others parameter.1.begin agree named.0 ∙ sym (single-begin around parameter others in_force' has' single)
one_value around own parameter box other values others index normal agree named in_force in_force' has has' (inr separated) inside inside' =
    elim (one_or_far own parameter values others agree named has has') [
      | inl one ↦ one
      | inr far ↦ absurd (separated-none own parameter box other values others index normal agree separated far inside inside')
    ]

same_numbers : (own : List Parameter) (values others : List ℤ) → AllByRecursion (λ parameter. variable_value values parameter.0 ≡ variable_value others parameter.0) own → numbers_of own values ≡ numbers_of own others
same_numbers [] values others same = refl
same_numbers (parameter ∷ own) values others same = λ i. same.0 i ∷ same_numbers own values others same.1 i

-- three facts of each element give a fourth
three-each : {A : Type 0} (P Q R S : A → Type 0) → ((a : A) → P a → Q a → R a → S a) → (all : List A) → AllByRecursion P all → AllByRecursion Q all → AllByRecursion R all → AllByRecursion S all
three-each P Q R S three [] p q r = tt
three-each P Q R S three (a ∷ all) p q r = (three a p.0 q.0 r.0, three-each P Q R S three all p.1 q.1 r.1)

-- harmless boxes share no index at two different points of a map
pub harmless-none : (around own : List Parameter) (box other : Box) (values point later index : List ℤ) → AreFresh around own → AreInForce values around →
    IsNormalBox box → IsNormalBox other → AreHarmless around own box other → IsPoint own values point → IsPoint own values later → point ≢ later →
    IsInBox (at_point own point values) box index → IsInBox (at_point own later values) other index → ⊥
harmless-none around own box other values point later index fresh in_force normal normal' (inl apart) member member' different inside inside' =
    disjoint-none around (replaced own box) (replaced own other) values index (normal-replaced own box normal) (normal-replaced own other normal') in_force apart
    (in-outer_box around own box values point index fresh normal member inside)
    (in-outer_box around own other values later index fresh normal' member' inside')
harmless-none around own box other values point later index fresh in_force normal normal' (inr each) member member' different inside inside' =
    let here = at_point own point values in
    let there = at_point own later values in
    let own_here = in_force-own around own values point fresh member in
    let own_there = in_force-own around own values later fresh member' in
    let around_here = in_force-around around own values point fresh in_force in
    let around_there = in_force-around around own values later fresh in_force in
    let same : AllByRecursion (λ parameter. variable_value here parameter.0 ≡ variable_value there parameter.0) own =
    three-each (λ parameter. IsSingle around parameter ⊎ AreSeparated own parameter box other) (λ parameter. HasValue here parameter × HasValue there parameter) (λ parameter. RangeNamesOthers own parameter.1)
    (λ parameter. variable_value here parameter.0 ≡ variable_value there parameter.0)
    (λ parameter harmless has named. one_value around own parameter box other here there index normal (agree-points own point later values) named around_here around_there has.0 has.1 harmless inside inside')
    own each (both-each (HasValue here) (HasValue there) (λ parameter. HasValue here parameter × HasValue there parameter) (λ parameter a b. (a, b)) own own_here own_there) fresh.own_ranges in
    different (sym (point-numbers around own values point fresh member) ∙ same_numbers own here there same ∙ point-numbers around own values later fresh member')

-- a box without dimension is in no dimension different from another
some-none : (Holds : Bounds → Bounds → Type 0) (box other : Box) → (box ≡ []) ⊎ (other ≡ []) → InSome Holds box other → ⊥
some-none Holds [] other none some = some
some-none Holds (one ∷ box) [] none some = some
some-none Holds (one ∷ box) (two ∷ other) (inl none) some = cc
some-none Holds (one ∷ box) (two ∷ other) (inr none) some = cc

-- where one of two harmless boxes has no dimension, as a stream's, the map has one point at most
pub harmless-one : (around own : List Parameter) (box other : Box) (values point later : List ℤ) → AreFresh around own → AreInForce values around →
    AreHarmless around own box other → (box ≡ []) ⊎ (other ≡ []) → IsPoint own values point → IsPoint own values later → point ≢ later → ⊥
harmless-one around own box other values point later fresh in_force (inl apart) none member member' different =
    some-none (λ one two. BeginsAbove around one two ⊎ BeginsAbove around two one) (replaced own box) (replaced own other)
    (elim none [ inl is ↦ inl (ap (replaced own) is) | inr is ↦ inr (ap (replaced own) is) ]) apart
harmless-one around own box other values point later fresh in_force (inr each) none member member' different =
    let here = at_point own point values in
    let there = at_point own later values in
    let around_here = in_force-around around own values point fresh in_force in
    let around_there = in_force-around around own values later fresh in_force in
    let same : AllByRecursion (λ parameter. variable_value here parameter.0 ≡ variable_value there parameter.0) own =
    three-each (λ parameter. IsSingle around parameter ⊎ AreSeparated own parameter box other) (λ parameter. HasValue here parameter × HasValue there parameter) (λ parameter. RangeNamesOthers own parameter.1)
    (λ parameter. variable_value here parameter.0 ≡ variable_value there parameter.0)
    (λ parameter harmless has named. elim harmless [
      | inl single ↦ one_value around own parameter [] [] here there [] tt (agree-points own point later values) named around_here around_there has.0 has.1 (inl single) tt tt
      | inr separated ↦ absurd (some-none (SeparatesIn own parameter) box other none separated)
    ])
    own each (both-each (HasValue here) (HasValue there) (λ parameter. HasValue here parameter × HasValue there parameter) (λ parameter a b. (a, b)) own (in_force-own around own values point fresh member) (in_force-own around own values later fresh member')) fresh.own_ranges in
    different (sym (point-numbers around own values point fresh member) ∙ same_numbers own here there same ∙ point-numbers around own values later fresh member')
