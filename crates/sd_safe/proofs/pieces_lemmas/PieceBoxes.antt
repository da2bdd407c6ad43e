-- The boxes of a piece of a map share nothing with harmless boxes at a point beside it.
use Rattle.std.specs.List.{AllByRecursion}
use Rattle.std.proofs.Common.{◌≡◌, ◌≢◌, ◌⊎◌, inl, inr, suc, ℕ, ℤ, pos, negsuc, ◌+ℤ◌, ◌-ℤ◌, ◌*ℤ◌, ◌≤ℤ◌, ◌<ℤ◌, unsigned_abs, List, [], ◌∷◌, Bool, true, false, if◌then◌else◌, int_lt, refl, ap, sym, ◌∙◌, subst, arith}
use Rattle.std.proofs.lemmas.Int.{ints}
use Rattle.std.proofs.lemmas.Bool.{cases_Bool}
use Rattle.std.proofs.Math.IntN.{zero-*ℤ}
use Rattle.sd_range.specs.Terms.{IsNormal, coefficient_of}
use Rattle.sd_range.specs.Affine.{variable_value, terms_value, affine_value}
use Rattle.sd_range.specs.Arithmetic.{affine_difference, others_of, without}
use Rattle.sd_range.specs.declared.affine.Affine.{Affine}
use Rattle.sd_range.specs.declared.range.Range.{Range}
use Rattle.sd_range.proofs.AffineLaws.{affine_value-combination, affine_value-difference, same_values}
use Rattle.sd_range.proofs.Products.{*ℤ_distrib_left}
use Rattle.sd_subset.specs.declared.boxes.bounds.Bounds.{Bounds}
use Rattle.sd_subset.specs.boxes.Box.{Parameter, Box, last_end, with_least, with_greatest, least, greatest, bounds_replaced, replaced, IsBetween, IsInBox}
use Rattle.sd_range.specs.Variables.{with_variable}
use Rattle.sd_subset.specs.boxes.InForce.{IsOther, AreFresh, at_point, IsPoint, AreNormalBounds, IsNormalBox}
use Rattle.sd_subset.specs.boxes.Apart.{BeginsAbove, InSome, AreDisjoint, AreApart, SeparatesIn, AreSeparated, IsSingle, AreHarmless}
use Rattle.sd_subset.proofs.boxes_lemmas.Named.{AgreeBut, named-others_of, terms-agree}
use Rattle.sd_subset.proofs.boxes_lemmas.Bounding.{terms-split, value-substituted, normal-substituted}
use Rattle.sd_subset.proofs.boxes_lemmas.Disjoint.{in-outer_box, others-named}
use Rattle.sd_subset.proofs.boxes_lemmas.AtPoint.{with_variable-own, at_point-other, agree-at_point}
use Rattle.sd_subset.proofs.boxes_lemmas.Signs.{times_rises}

-- ---- one parameter

-- a parameter of the same variable whose values are among those of another one
pub record IsPart (values : List ℤ) (whole part : Range) : Type 0 where
  pub begin : affine_value values whole.begin ≤ℤ affine_value values part.begin
  pub end : affine_value values (last_end part) ≤ℤ affine_value values (last_end whole)

times_falls : (c a b : ℤ) → c ≤ℤ pos 0 → a ≤ℤ b → (c *ℤ b) ≤ℤ (c *ℤ a)
times_falls (pos c) a b low below = let none : c ≡ 0 = omega (arith, ints) in rw none (omega (arith, ints))
times_falls (negsuc c) a b low below = let risen = times_rises (pos (suc c)) a b (omega (arith, ints)) below in omega (arith, ints, risen)

by_sign : {P : Type 0} (c : ℤ) → (int_lt (pos 0) c ≡ true → pos 0 ≤ℤ c → P) → (int_lt (pos 0) c ≡ false → c ≤ℤ pos 0 → P) → P
by_sign c above below = elim (cases_Bool (int_lt (pos 0) c)) [
  | inl is ↦ above is (grind (arith, ints))
  | inr is ↦ below is (grind (arith, ints))
]

choice-true : {A : Type 0} (test : Bool) (a b : A) → test ≡ true → (if test then a else b) ≡ a
choice-true test a b is = rw is refl

choice-false : {A : Type 0} (test : Bool) (a b : A) → test ≡ false → (if test then a else b) ≡ b
choice-false test a b is = rw is refl

-- the value of an expression but for a variable
abbrev rest_value : List ℤ → (variable : ℕ) → Affine → ℤ
rest_value values variable a = affine_value values (without variable a)

-- a parameter replaced in a bound gives the value of one end of its range
least-up : (values : List ℤ) (variable : ℕ) (r : Range) (a : Affine) → int_lt (pos 0) (coefficient_of a.terms variable) ≡ true →
    affine_value values (with_least (variable, r) a) ≡ rest_value values variable a +ℤ (coefficient_of a.terms variable *ℤ affine_value values r.begin)
least-up values variable r a is =
    let by = choice-true (int_lt (pos 0) (coefficient_of a.terms variable)) r.begin (last_end r) is in
    rw by (affine_value-combination (without variable a) (coefficient_of a.terms variable) r.begin values)

least-down : (values : List ℤ) (variable : ℕ) (r : Range) (a : Affine) → int_lt (pos 0) (coefficient_of a.terms variable) ≡ false →
    affine_value values (with_least (variable, r) a) ≡ rest_value values variable a +ℤ (coefficient_of a.terms variable *ℤ affine_value values (last_end r))
least-down values variable r a is =
    let by = choice-false (int_lt (pos 0) (coefficient_of a.terms variable)) r.begin (last_end r) is in
    rw by (affine_value-combination (without variable a) (coefficient_of a.terms variable) (last_end r) values)

greatest-up : (values : List ℤ) (variable : ℕ) (r : Range) (a : Affine) → int_lt (pos 0) (coefficient_of a.terms variable) ≡ true →
    affine_value values (with_greatest (variable, r) a) ≡ rest_value values variable a +ℤ (coefficient_of a.terms variable *ℤ affine_value values (last_end r))
greatest-up values variable r a is =
    let by = choice-true (int_lt (pos 0) (coefficient_of a.terms variable)) (last_end r) r.begin is in
    rw by (affine_value-combination (without variable a) (coefficient_of a.terms variable) (last_end r) values)

greatest-down : (values : List ℤ) (variable : ℕ) (r : Range) (a : Affine) → int_lt (pos 0) (coefficient_of a.terms variable) ≡ false →
    affine_value values (with_greatest (variable, r) a) ≡ rest_value values variable a +ℤ (coefficient_of a.terms variable *ℤ affine_value values r.begin)
greatest-down values variable r a is =
    let by = choice-false (int_lt (pos 0) (coefficient_of a.terms variable)) (last_end r) r.begin is in
    rw by (affine_value-combination (without variable a) (coefficient_of a.terms variable) r.begin values)

-- ---- a part of a range has closer bounds

wider-least : (values : List ℤ) (variable : ℕ) (whole part : Range) (a : Affine) → IsPart values whole part →
    affine_value values (with_least (variable, whole) a) ≤ℤ affine_value values (with_least (variable, part) a)
wider-least values variable whole part a is =
    let c = coefficient_of a.terms variable in
    by_sign c
    (λ up high. omega (arith, ints, least-up values variable whole a up, least-up values variable part a up, times_rises c (affine_value values whole.begin) (affine_value values part.begin) high is.begin))
    (λ down low. omega (arith, ints, least-down values variable whole a down, least-down values variable part a down, times_falls c (affine_value values (last_end part)) (affine_value values (last_end whole)) low is.end))

wider-greatest : (values : List ℤ) (variable : ℕ) (whole part : Range) (a : Affine) → IsPart values whole part →
    affine_value values (with_greatest (variable, part) a) ≤ℤ affine_value values (with_greatest (variable, whole) a)
wider-greatest values variable whole part a is =
    let c = coefficient_of a.terms variable in
    by_sign c
    (λ up high. omega (arith, ints, greatest-up values variable whole a up, greatest-up values variable part a up, times_rises c (affine_value values (last_end part)) (affine_value values (last_end whole)) high is.end))
    (λ down low. omega (arith, ints, greatest-down values variable whole a down, greatest-down values variable part a down, times_falls c (affine_value values whole.begin) (affine_value values part.begin) low is.begin))

-- an index in a box with a part of the first parameter's values replaced is in the box with all of them replaced
in-wider : (values : List ℤ) (variable : ℕ) (whole part : Range) (own : List Parameter) (box : Box) (index : List ℤ) → IsPart values whole part →
    IsInBox values (replaced ((variable, part) ∷ own) box) index → IsInBox values (replaced ((variable, whole) ∷ own) box) index
in-wider values variable whole part own [] [] is inside = tt
in-wider values variable whole part own [] (number ∷ index) is inside = absurd inside
in-wider values variable whole part own (bounds ∷ box) [] is inside = absurd inside
in-wider values variable whole part own (bounds ∷ box) (number ∷ index) is inside = (
  record {
    low = (let wide = wider-least values variable whole part (least own bounds.low) is in let low = inside.0.low in omega (arith, ints, wide, low));
    high = (let wide = wider-greatest values variable whole part (greatest own bounds.high) is in let high = inside.0.high in omega (arith, ints, wide, high));
  },
  in-wider values variable whole part own box index is inside.1,
)

-- ---- boxes that are apart

value-constant : (a : Affine) (values : List ℤ) → a.terms ≡ [] → affine_value values a ≡ a.constant
value-constant a values none = ap (λ terms. a.constant +ℤ terms_value values terms) none ∙ omega (arith, ints)

above-none : (one other : Bounds) (values : List ℤ) (number : ℤ) → BeginsAbove [] one other → affine_value values one.low ≤ℤ number → number ≤ℤ affine_value values other.high → ⊥
above-none one other values number above low high =
    let gap = affine_difference one.low other.high in
    omega (arith, ints, above.above, value-constant gap values above.constant, affine_value-difference one.low other.high values, low, high)

disjoint-none : (box other : Box) (values index : List ℤ) → AreDisjoint [] box other → IsInBox values box index → IsInBox values other index → ⊥
disjoint-none [] other values index disjoint inside inside' = absurd disjoint
disjoint-none (one ∷ box) [] values index disjoint inside inside' = absurd disjoint
disjoint-none (one ∷ box) (two ∷ other) values [] disjoint inside inside' = absurd inside
disjoint-none (one ∷ box) (two ∷ other) values (number ∷ index) (inl (inl above)) inside inside' = above-none one two values number above inside.0.low inside'.0.high
disjoint-none (one ∷ box) (two ∷ other) values (number ∷ index) (inl (inr above)) inside inside' = above-none two one values number above inside'.0.low inside.0.high
disjoint-none (one ∷ box) (two ∷ other) values (number ∷ index) (inr later) inside inside' = disjoint-none box other values index later inside.1 inside'.1

-- boxes that are apart, the one with a part of the first parameter's values
pub apart-none : (values : List ℤ) (variable : ℕ) (whole part : Range) (own : List Parameter) (box other : Box) (index : List ℤ) → IsPart values whole part → AreApart [] ((variable, whole) ∷ own) box other →
    IsInBox values (replaced ((variable, part) ∷ own) box) index → IsInBox values (replaced ((variable, whole) ∷ own) other) index → ⊥
apart-none values variable whole part own box other index is apart inside inside' =
    disjoint-none (replaced ((variable, whole) ∷ own) box) (replaced ((variable, whole) ∷ own) other) values index apart (in-wider values variable whole part own box index is inside) inside'

-- ---- boxes that a parameter separates

-- a parameter of coefficient 0 is not there to be replaced
alone-least : (own : List Parameter) (a : Affine) → IsNormal a.terms → AllByRecursion (λ parameter. coefficient_of a.terms parameter.0 ≡ pos 0) own → least own a ≡ a
alone-least [] a normal none = refl
alone-least (parameter ∷ own) a normal none =
    ap (with_least parameter) (alone-least own a normal none.1)
    ∙ same_values (with_least parameter a) a (normal-substituted parameter.0 (if int_lt (pos 0) (coefficient_of a.terms parameter.0) then parameter.1.begin else last_end parameter.1) a normal) normal
    (λ values.
    let by = if int_lt (pos 0) (coefficient_of a.terms parameter.0) then parameter.1.begin else last_end parameter.1 in
    value-substituted parameter.0 by a values normal
    ∙ ap (λ c. affine_value values a +ℤ (c *ℤ (affine_value values by -ℤ variable_value values parameter.0))) none.0
    ∙ omega (arith, ints, zero-*ℤ (affine_value values by -ℤ variable_value values parameter.0)))

alone-greatest : (own : List Parameter) (a : Affine) → IsNormal a.terms → AllByRecursion (λ parameter. coefficient_of a.terms parameter.0 ≡ pos 0) own → greatest own a ≡ a
alone-greatest [] a normal none = refl
alone-greatest (parameter ∷ own) a normal none =
    ap (with_greatest parameter) (alone-greatest own a normal none.1)
    ∙ same_values (with_greatest parameter a) a (normal-substituted parameter.0 (if int_lt (pos 0) (coefficient_of a.terms parameter.0) then last_end parameter.1 else parameter.1.begin) a normal) normal
    (λ values.
    let by = if int_lt (pos 0) (coefficient_of a.terms parameter.0) then last_end parameter.1 else parameter.1.begin in
    value-substituted parameter.0 by a values normal
    ∙ ap (λ c. affine_value values a +ℤ (c *ℤ (affine_value values by -ℤ variable_value values parameter.0))) none.0
    ∙ omega (arith, ints, zero-*ℤ (affine_value values by -ℤ variable_value values parameter.0)))

none-but : (own : List Parameter) (by : ℕ) (terms : List (ℕ × ℤ)) → IsOther own by → AllByRecursion (λ parameter. parameter.0 ≢ by → coefficient_of terms parameter.0 ≡ pos 0) own → AllByRecursion (λ parameter. coefficient_of terms parameter.0 ≡ pos 0) own
none-but [] by terms other alone = tt
none-but (parameter ∷ own) by terms other alone = (alone.0 (λ same. other.0 (sym same)), none-but own by terms other.1 alone.1)

-- a number is a step above one end, or a step below the other
abbrev pub IsBeside : (step begin end number : ℤ) → Type 0
IsBeside step begin end number = ((end +ℤ step) ≤ℤ number) ⊎ ((number +ℤ step) ≤ℤ begin)

-- no number lies between bounds that are moved to both ends, and between others that are moved beside them
up-none : (c : ℕ) (number low high other_low other_high step begin end at : ℤ) → IsBeside step begin end at →
    (high -ℤ other_low) <ℤ (pos c *ℤ step) → (other_high -ℤ low) <ℤ (pos c *ℤ step) →
    (low +ℤ (pos c *ℤ begin)) ≤ℤ number → number ≤ℤ (high +ℤ (pos c *ℤ end)) → (other_low +ℤ (pos c *ℤ at)) ≤ℤ number → number ≤ℤ (other_high +ℤ (pos c *ℤ at)) → ⊥
up-none c number low high other_low other_high step begin end at (inl above) wide other_wide a b a' b' =
    omega (arith, ints, times_rises (pos c) (end +ℤ step) at (omega (arith, ints)) above, *ℤ_distrib_left (pos c) end step, wide, other_wide, a, b, a', b')
up-none c number low high other_low other_high step begin end at (inr below) wide other_wide a b a' b' =
    omega (arith, ints, times_rises (pos c) (at +ℤ step) begin (omega (arith, ints)) below, *ℤ_distrib_left (pos c) at step, wide, other_wide, a, b, a', b')

down-none : (c : ℕ) (number low high other_low other_high step begin end at : ℤ) → IsBeside step begin end at →
    (high -ℤ other_low) <ℤ (pos (suc c) *ℤ step) → (other_high -ℤ low) <ℤ (pos (suc c) *ℤ step) →
    (low +ℤ (negsuc c *ℤ end)) ≤ℤ number → number ≤ℤ (high +ℤ (negsuc c *ℤ begin)) → (other_low +ℤ (negsuc c *ℤ at)) ≤ℤ number → number ≤ℤ (other_high +ℤ (negsuc c *ℤ at)) → ⊥
down-none c number low high other_low other_high step begin end at (inl above) wide other_wide a b a' b' =
    omega (arith, ints, times_rises (pos (suc c)) (end +ℤ step) at (omega (arith, ints)) above, *ℤ_distrib_left (pos (suc c)) end step, wide, other_wide, a, b, a', b')
down-none c number low high other_low other_high step begin end at (inr below) wide other_wide a b a' b' =
    omega (arith, ints, times_rises (pos (suc c)) (at +ℤ step) begin (omega (arith, ints)) below, *ℤ_distrib_left (pos (suc c)) at step, wide, other_wide, a, b, a', b')

-- the same by the sign of the coefficient
up-int : (c number low high other_low other_high step begin end at : ℤ) → pos 0 ≤ℤ c → IsBeside step begin end at →
    (high -ℤ other_low) <ℤ (pos (unsigned_abs c) *ℤ step) → (other_high -ℤ low) <ℤ (pos (unsigned_abs c) *ℤ step) →
    (low +ℤ (c *ℤ begin)) ≤ℤ number → number ≤ℤ (high +ℤ (c *ℤ end)) → (other_low +ℤ (c *ℤ at)) ≤ℤ number → number ≤ℤ (other_high +ℤ (c *ℤ at)) → ⊥
up-int (pos c) number low high other_low other_high step begin end at sign beside wide other_wide a b a' b' = up-none c number low high other_low other_high step begin end at beside wide other_wide a b a' b'
up-int (negsuc c) number low high other_low other_high step begin end at sign beside wide other_wide a b a' b' = absurd (omega (arith, ints, sign))

down-int : (c number low high other_low other_high step begin end at : ℤ) → c ≢ pos 0 → c ≤ℤ pos 0 → IsBeside step begin end at →
    (high -ℤ other_low) <ℤ (pos (unsigned_abs c) *ℤ step) → (other_high -ℤ low) <ℤ (pos (unsigned_abs c) *ℤ step) →
    (low +ℤ (c *ℤ end)) ≤ℤ number → number ≤ℤ (high +ℤ (c *ℤ begin)) → (other_low +ℤ (c *ℤ at)) ≤ℤ number → number ≤ℤ (other_high +ℤ (c *ℤ at)) → ⊥
down-int (pos c) number low high other_low other_high step begin end at moves sign beside wide other_wide a b a' b' = let none : c ≡ 0 = omega (arith, ints, sign) in moves (ap pos none)
down-int (negsuc c) number low high other_low other_high step begin end at moves sign beside wide other_wide a b a' b' = down-none c number low high other_low other_high step begin end at beside wide other_wide a b a' b'

abbrev affine_of : ℤ → List (ℕ × ℤ) → Affine
affine_of constant terms = record { constant = constant; terms = terms }

-- in one dimension, where all bounds have these terms
terms-none : (values others : List ℤ) (variable : ℕ) (part : Range) (terms : List (ℕ × ℤ)) (low high other_low other_high step number : ℤ) → IsNormal terms → coefficient_of terms variable ≢ pos 0 →
    terms_value values (others_of variable terms) ≡ terms_value others (others_of variable terms) →
    IsBeside step (affine_value values part.begin) (affine_value values (last_end part)) (variable_value others variable) →
    (high -ℤ other_low) <ℤ (pos (unsigned_abs (coefficient_of terms variable)) *ℤ step) → (other_high -ℤ low) <ℤ (pos (unsigned_abs (coefficient_of terms variable)) *ℤ step) →
    affine_value values (with_least (variable, part) (affine_of low terms)) ≤ℤ number → number ≤ℤ affine_value values (with_greatest (variable, part) (affine_of high terms)) →
    affine_value others (affine_of other_low terms) ≤ℤ number → number ≤ℤ affine_value others (affine_of other_high terms) → ⊥
terms-none values others variable part terms low high other_low other_high step number normal moves same beside wide other_wide a b a' b' =
    let c = coefficient_of terms variable in
    let rest = terms_value values (others_of variable terms) in
    let begin = affine_value values part.begin in
    let end = affine_value values (last_end part) in
    let at = variable_value others variable in
    let split = terms-split terms variable others normal in
    by_sign c
    (λ up sign.
    let first = least-up values variable part (affine_of low terms) up in
    let last = greatest-up values variable part (affine_of high terms) up in
    up-int c (number -ℤ rest) low high other_low other_high step begin end at sign beside wide other_wide
    (omega (arith, ints, a, first)) (omega (arith, ints, b, last)) (omega (arith, ints, a', split, same)) (omega (arith, ints, b', split, same)))
    (λ down sign.
    let first = least-down values variable part (affine_of low terms) down in
    let last = greatest-down values variable part (affine_of high terms) down in
    down-int c (number -ℤ rest) low high other_low other_high step begin end at moves sign beside wide other_wide
    (omega (arith, ints, a, first)) (omega (arith, ints, b, last)) (omega (arith, ints, a', split, same)) (omega (arith, ints, b', split, same)))

-- in one dimension in which the first parameter separates them
separates-none : (values others : List ℤ) (variable : ℕ) (whole part : Range) (own : List Parameter) (one other : Bounds) (number : ℤ) → AreNormalBounds one → IsOther own variable →
    AgreeBut ((variable, whole) ∷ own) values others → SeparatesIn ((variable, whole) ∷ own) (variable, whole) one other →
    IsBeside whole.step (affine_value values part.begin) (affine_value values (last_end part)) (variable_value others variable) →
    IsBetween values (bounds_replaced ((variable, part) ∷ own) one) number → IsBetween others other number → ⊥
separates-none values others variable whole part own one other number normal distinct agree separates beside here there =
    let terms = one.low.terms in
    let alone = separates.alone in
    let none = none-but own variable terms distinct alone.1 in
    let same : terms_value values (others_of variable terms) ≡ terms_value others (others_of variable terms) =
    terms-agree ((variable, whole) ∷ own) values others (others_of variable terms) agree
    (named-others_of (IsOther ((variable, whole) ∷ own)) variable terms (others-named ((variable, whole) ∷ own) variable terms normal.low alone)) in
    let low : affine_value values (with_least (variable, part) (affine_of one.low.constant terms)) ≤ℤ number =
    subst (λ a. affine_value values (with_least (variable, part) a) ≤ℤ number) (alone-least own one.low normal.low none) here.low in
    let high : number ≤ℤ affine_value values (with_greatest (variable, part) (affine_of one.high.constant terms)) =
    subst (λ ts. number ≤ℤ affine_value values (with_greatest (variable, part) (affine_of one.high.constant ts))) separates.parallel.high
    (subst (λ a. number ≤ℤ affine_value values (with_greatest (variable, part) a)) (alone-greatest own one.high normal.high (subst (λ ts. AllByRecursion (λ parameter. coefficient_of ts parameter.0 ≡ pos 0) own) (sym separates.parallel.high) none)) here.high) in
    let low' : affine_value others (affine_of other.low.constant terms) ≤ℤ number = subst (λ ts. affine_value others (affine_of other.low.constant ts) ≤ℤ number) separates.parallel.other_low there.low in
    let high' : number ≤ℤ affine_value others (affine_of other.high.constant terms) = subst (λ ts. number ≤ℤ affine_value others (affine_of other.high.constant ts)) separates.parallel.other_high there.high in
    terms-none values others variable part terms one.low.constant one.high.constant other.low.constant other.high.constant whole.step number normal.low separates.moves same beside separates.wide.wide separates.wide.other_wide low high low' high'

separated-none : (values others : List ℤ) (variable : ℕ) (whole part : Range) (own : List Parameter) (box other : Box) (index : List ℤ) → IsNormalBox box → IsOther own variable →
    AgreeBut ((variable, whole) ∷ own) values others → AreSeparated ((variable, whole) ∷ own) (variable, whole) box other →
    IsBeside whole.step (affine_value values part.begin) (affine_value values (last_end part)) (variable_value others variable) →
    IsInBox values (replaced ((variable, part) ∷ own) box) index → IsInBox others other index → ⊥
separated-none values others variable whole part own [] other index normal distinct agree separated beside inside inside' = absurd separated
separated-none values others variable whole part own (one ∷ box) [] index normal distinct agree separated beside inside inside' = absurd separated
separated-none values others variable whole part own (one ∷ box) (two ∷ other) [] normal distinct agree separated beside inside inside' = absurd inside
separated-none values others variable whole part own (one ∷ box) (two ∷ other) (number ∷ index) normal distinct agree (inl separates) beside inside inside' =
    separates-none values others variable whole part own one two number normal.0 distinct agree separates beside inside.0 inside'.0
separated-none values others variable whole part own (one ∷ box) (two ∷ other) (number ∷ index) normal distinct agree (inr later) beside inside inside' =
    separated-none values others variable whole part own box other index normal.1 distinct agree later beside inside.1 inside'.1

-- ---- harmless boxes

-- a part of the values of a map's first parameter, and a point beside it
pub record IsApartFrom (values : List ℤ) (variable : ℕ) (whole part : Range) (at : ℤ) : Type 0 where
  pub within : IsPart values whole part
  pub beside : IsBeside whole.step (affine_value values part.begin) (affine_value values (last_end part)) at
  pub many : IsSingle [] (variable, whole) → ⊥

-- harmless boxes share no index, the one with a part of the first parameter's values, the other at a point beside it
pub part-none : (values : List ℤ) (variable : ℕ) (whole part : Range) (own : List Parameter) (box other : Box) (at : ℤ) (rest index : List ℤ) → AreFresh [] ((variable, whole) ∷ own) → IsNormalBox box → IsNormalBox other →
    AreHarmless [] ((variable, whole) ∷ own) box other → IsApartFrom values variable whole part at → IsPoint ((variable, whole) ∷ own) values (at ∷ rest) →
    IsInBox values (replaced ((variable, part) ∷ own) box) index → IsInBox (at_point ((variable, whole) ∷ own) (at ∷ rest) values) other index → ⊥
part-none values variable whole part own box other at rest index fresh normal normal' (inl apart) away member inside inside' =
    apart-none values variable whole part own box other index away.within apart inside (in-outer_box [] ((variable, whole) ∷ own) other values (at ∷ rest) index fresh normal' member inside')
part-none values variable whole part own box other at rest index fresh normal normal' (inr each) away member inside inside' = elim each.0 [
  | inl single ↦ away.many single
  | inr separated ↦
      let there = at_point ((variable, whole) ∷ own) (at ∷ rest) values in
      let is : variable_value there variable ≡ at = at_point-other own rest (with_variable variable at values) variable fresh.distinct.0 ∙ with_variable-own variable at values in
      separated-none values there variable whole part own box other index normal fresh.distinct.0 (agree-at_point ((variable, whole) ∷ own) (at ∷ rest) values) separated
      (subst (IsBeside whole.step (affine_value values part.begin) (affine_value values (last_end part))) (sym is) away.beside) inside inside'
]

some-none : (Holds : Bounds → Bounds → Type 0) (box other : Box) → (box ≡ []) ⊎ (other ≡ []) → InSome Holds box other → ⊥
some-none Holds [] other none some = some
some-none Holds (one ∷ box) [] none some = some
some-none Holds (one ∷ box) (two ∷ other) (inl none) some = cc
some-none Holds (one ∷ box) (two ∷ other) (inr none) some = cc

-- boxes of which one has no dimension, as a stream's, are not harmless then
pub part-stream : (values : List ℤ) (variable : ℕ) (whole part : Range) (own : List Parameter) (box other : Box) (at : ℤ) → AreHarmless [] ((variable, whole) ∷ own) box other → (box ≡ []) ⊎ (other ≡ []) →
    IsApartFrom values variable whole part at → ⊥
part-stream values variable whole part own box other at (inl apart) none away =
    some-none (λ one two. BeginsAbove [] one two ⊎ BeginsAbove [] two one) (replaced ((variable, whole) ∷ own) box) (replaced ((variable, whole) ∷ own) other)
    (elim none [ inl is ↦ inl (ap (replaced ((variable, whole) ∷ own)) is) | inr is ↦ inr (ap (replaced ((variable, whole) ∷ own)) is) ]) apart
part-stream values variable whole part own box other at (inr each) none away = elim each.0 [
  | inl single ↦ away.many single
  | inr separated ↦ some-none (SeparatesIn ((variable, whole) ∷ own) (variable, whole)) box other none separated
]
