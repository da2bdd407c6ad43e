-- Replaced parameters bound an expression at each point.
use Rattle.std.specs.List.{AllByRecursion, Contains}
use Rattle.std.proofs.Common.{◌≡◌, ◌≢◌, inl, inr, ℕ, ◌<◌, length, ℤ, pos, negsuc, neg_ℤ, ◌+ℤ◌, ◌-ℤ◌, ◌*ℤ◌, ◌≤ℤ◌, ◌<ℤ◌, List, [], ◌∷◌, nat_eq, not, Bool, true, false, refl, ap, sym, ◌∙◌, subst, arith, if◌then◌else◌, int_lt, slice_index_or, get_or}
use Rattle.std.proofs.lemmas.Int.{ints}
use Rattle.std.proofs.lemmas.Bool.{eq-eqb, ne_eqb, cases_Bool}
use Rattle.std.proofs.lemmas.List.Elements.{recursion_from_All}
use Rattle.sd_range.specs.Terms.{IsNormal, coefficient_of}
use Rattle.sd_range.specs.Affine.{variable_value, terms_value, affine_value}
use Rattle.sd_range.specs.Arithmetic.{affine_zero, others_of, substituted, without}
use Rattle.sd_range.specs.Range.{IsRange, range_values}
use Rattle.sd_range.specs.declared.affine.Affine.{Affine}
use Rattle.sd_range.specs.declared.range.Range.{Range}
use Rattle.sd_range.proofs.Normal.{by_same, normal-combined, normal-filter}
use Rattle.sd_range.proofs.Coefficients.{coefficient_of-after}
use Rattle.sd_range.proofs.AffineLaws.{affine_value-combination}
use Rattle.sd_range.proofs.RangeLaws.{range-members}
use Rattle.sd_range.proofs.Products.{*ℤ_distrib_left}
use Rattle.std.proofs.Math.IntN.{*ℤ-zero, zero-*ℤ}
use Rattle.sd_subset.specs.boxes.Box.{Parameter, Box, last_of, last_end, with_least, with_greatest, least, greatest, replaced, IsInBox}
use Rattle.sd_subset.specs.boxes.InForce.{HasValue, AreInForce, IsNormalBox}
use Rattle.sd_subset.proofs.boxes_lemmas.Signs.{times_rises}

-- terms have the value of those of other variables and that of the variable
pub terms-split : (terms : List (ℕ × ℤ)) (variable : ℕ) (values : List ℤ) → IsNormal terms →
    terms_value values terms ≡ terms_value values (others_of variable terms) +ℤ (coefficient_of terms variable *ℤ variable_value values variable)
terms-split [] variable values normal = omega (arith, ints, zero-*ℤ (variable_value values variable))
terms-split (term ∷ terms) variable values normal =
    by_same term.0 variable
    (λ is.
    let none : coefficient_of terms variable *ℤ variable_value values variable ≡ pos 0 =
    ap (λ n. n *ℤ variable_value values variable) (coefficient_of-after term terms variable normal is) ∙ zero-*ℤ (variable_value values variable) in
    let rest = terms-split terms variable values normal.2 in
    let own : term.1 *ℤ variable_value values term.0 ≡ term.1 *ℤ variable_value values variable = ap (λ v. term.1 *ℤ variable_value values v) is in
    rw (eq-eqb term.0 variable is) (omega (arith, ints, none, rest, own)))
    (λ is. rw (ne_eqb term.0 variable is) (omega (arith, ints, terms-split terms variable values normal.2)))

-- with an expression in a variable's place the value changes by the coefficient times the difference
pub value-substituted : (variable : ℕ) (by a : Affine) (values : List ℤ) → IsNormal a.terms →
    affine_value values (substituted variable by a) ≡ affine_value values a +ℤ (coefficient_of a.terms variable *ℤ (affine_value values by -ℤ variable_value values variable))
value-substituted variable by a values normal =
    let c = coefficient_of a.terms variable in
    let b = affine_value values by in
    let x = variable_value values variable in
    let parts : c *ℤ (x +ℤ (b -ℤ x)) ≡ (c *ℤ x) +ℤ (c *ℤ (b -ℤ x)) = *ℤ_distrib_left c x (b -ℤ x) in
    let whole : x +ℤ (b -ℤ x) ≡ b = omega (arith, ints) in
    affine_value-combination (without variable a) c by values
    ∙ omega (arith, ints, terms-split a.terms variable values normal, parts, ap (λ n. c *ℤ n) whole)

-- replacing keeps the normal form
pub normal-substituted : (variable : ℕ) (by a : Affine) → IsNormal a.terms → IsNormal (substituted variable by a).terms
normal-substituted variable by a normal =
    normal-combined (others_of variable a.terms) (coefficient_of a.terms variable) by.terms (normal-filter (λ term. not (nat_eq term.0 variable)) a.terms normal)

pub normal-least : (parameters : List Parameter) (a : Affine) → IsNormal a.terms → IsNormal (least parameters a).terms
normal-least [] a normal = normal
normal-least (parameter ∷ parameters) a normal =
    let below = least parameters a in
    normal-substituted parameter.0 (if int_lt (pos 0) (coefficient_of below.terms parameter.0) then parameter.1.begin else last_end parameter.1) below (normal-least parameters a normal)

pub normal-greatest : (parameters : List Parameter) (a : Affine) → IsNormal a.terms → IsNormal (greatest parameters a).terms
normal-greatest [] a normal = normal
normal-greatest (parameter ∷ parameters) a normal =
    let above = greatest parameters a in
    normal-substituted parameter.0 (if int_lt (pos 0) (coefficient_of above.terms parameter.0) then last_end parameter.1 else parameter.1.begin) above (normal-greatest parameters a normal)

-- what is at most each is at most the last
at_most-last : (number : ℤ) (before : Affine) (ends : List Affine) (values : List ℤ) → number ≤ℤ affine_value values before → AllByRecursion (λ end. number ≤ℤ affine_value values end) ends → number ≤ℤ affine_value values (last_of before ends)
at_most-last number before [] values first each = first
at_most-last number before (end ∷ ends) values first each = at_most-last number end ends values each.0 each.1

at_most-ends : (number : ℤ) (ends : List Affine) (values : List ℤ) → 0 < length ends → AllByRecursion (λ end. number ≤ℤ affine_value values end) ends → number ≤ℤ affine_value values (last_of affine_zero ends)
at_most-ends number [] values some each = absurd (omega arith)
at_most-ends number (end ∷ ends) values some each = at_most-last number end ends values each.0 each.1

-- a step more than none is a rise
steps-rise : (k : ℕ) (step : ℤ) → pos 0 <ℤ step → pos 0 ≤ℤ (pos k *ℤ step)
steps-rise k (pos step) rises = omega (arith, ints)
steps-rise k (negsuc step) rises = absurd (omega (arith, ints))

-- a value of a range is between its begin and its last end
pub value-between : (r : Range) (values : List ℤ) (number : ℤ) → IsRange r → Contains (range_values values r) number →
    (affine_value values r.begin ≤ℤ number) × (number ≤ℤ affine_value values (last_end r))
value-between r values number ok member =
    let (steps, is, each) = (range-members r values number ok).0 member in (
      omega (arith, ints, steps-rise steps r.step ok.rises),
      at_most-ends number r.ends values ok.ended (recursion_from_All (λ end. number ≤ℤ affine_value values end) r.ends each),
    )

-- a coefficient that is not above 0 turns an order
times_falls : (c a b : ℤ) → c ≤ℤ pos 0 → a ≤ℤ b → (c *ℤ b) ≤ℤ (c *ℤ a)
times_falls (pos c) a b low below = let none : c ≡ 0 = omega (arith, ints) in rw none (omega (arith, ints))
times_falls (negsuc c) a b low below =
    let risen = times_rises (pos (Rattle.std.proofs.Common.suc c)) a b (omega (arith, ints)) below in omega (arith, ints, risen)

-- the choice of the bound by the sign
by_sign : {P : Type 0} (c : ℤ) → (int_lt (pos 0) c ≡ true → pos 0 ≤ℤ c → P) → (int_lt (pos 0) c ≡ false → c ≤ℤ pos 0 → P) → P
by_sign c above below = elim (cases_Bool (int_lt (pos 0) c)) [
  | inl is ↦ above is (grind (arith, ints))
  | inr is ↦ below is (grind (arith, ints))
]

choice-true : {A : Type 0} (test : Bool) (a b : A) → test ≡ true → (if test then a else b) ≡ a
choice-true test a b is = rw is refl

choice-false : {A : Type 0} (test : Bool) (a b : A) → test ≡ false → (if test then a else b) ≡ b
choice-false test a b is = rw is refl

-- one parameter replaced in a lower bound
with_least-below : (parameter : Parameter) (a : Affine) (values : List ℤ) → IsNormal a.terms → HasValue values parameter →
    affine_value values (with_least parameter a) ≤ℤ affine_value values a
with_least-below parameter a values normal has =
    let c = coefficient_of a.terms parameter.0 in
    let between = value-between parameter.1 values (variable_value values parameter.0) has.normal.range has.value in
    by_sign c
    (λ is up.
    let by : (if int_lt (pos 0) c then parameter.1.begin else last_end parameter.1) ≡ parameter.1.begin = choice-true (int_lt (pos 0) c) parameter.1.begin (last_end parameter.1) is in
    let value = value-substituted parameter.0 parameter.1.begin a values normal in
    let low = times_rises c (affine_value values parameter.1.begin -ℤ variable_value values parameter.0) (pos 0) up (omega (arith, ints, between.0)) in
    rw by (omega (arith, ints, value, low, *ℤ-zero c)))
    (λ is down.
    let by : (if int_lt (pos 0) c then parameter.1.begin else last_end parameter.1) ≡ last_end parameter.1 = choice-false (int_lt (pos 0) c) parameter.1.begin (last_end parameter.1) is in
    let value = value-substituted parameter.0 (last_end parameter.1) a values normal in
    let low = times_falls c (pos 0) (affine_value values (last_end parameter.1) -ℤ variable_value values parameter.0) down (omega (arith, ints, between.1)) in
    rw by (omega (arith, ints, value, low, *ℤ-zero c)))

with_greatest-above : (parameter : Parameter) (a : Affine) (values : List ℤ) → IsNormal a.terms → HasValue values parameter →
    affine_value values a ≤ℤ affine_value values (with_greatest parameter a)
with_greatest-above parameter a values normal has =
    let c = coefficient_of a.terms parameter.0 in
    let between = value-between parameter.1 values (variable_value values parameter.0) has.normal.range has.value in
    by_sign c
    (λ is up.
    let by : (if int_lt (pos 0) c then last_end parameter.1 else parameter.1.begin) ≡ last_end parameter.1 = choice-true (int_lt (pos 0) c) (last_end parameter.1) parameter.1.begin is in
    let value = value-substituted parameter.0 (last_end parameter.1) a values normal in
    let high = times_rises c (pos 0) (affine_value values (last_end parameter.1) -ℤ variable_value values parameter.0) up (omega (arith, ints, between.1)) in
    rw by (omega (arith, ints, value, high, *ℤ-zero c)))
    (λ is down.
    let by : (if int_lt (pos 0) c then last_end parameter.1 else parameter.1.begin) ≡ parameter.1.begin = choice-false (int_lt (pos 0) c) (last_end parameter.1) parameter.1.begin is in
    let value = value-substituted parameter.0 parameter.1.begin a values normal in
    let high = times_falls c (affine_value values parameter.1.begin -ℤ variable_value values parameter.0) (pos 0) down (omega (arith, ints, between.0)) in
    rw by (omega (arith, ints, value, high, *ℤ-zero c)))

-- an order passes on
below-below : (a b c : ℤ) → a ≤ℤ b → b ≤ℤ c → a ≤ℤ c
below-below a b c first second = omega (arith, ints)

-- parameters replaced in a lower bound bound it from below
pub least-below : (parameters : List Parameter) (a : Affine) (values : List ℤ) → IsNormal a.terms → AreInForce values parameters →
    affine_value values (least parameters a) ≤ℤ affine_value values a
least-below [] a values normal has = omega (arith, ints)
least-below (parameter ∷ parameters) a values normal has =
    below-below _ _ _ (with_least-below parameter (least parameters a) values (normal-least parameters a normal) has.0)
    (least-below parameters a values normal has.1)

-- in an upper bound, from above
pub greatest-above : (parameters : List Parameter) (a : Affine) (values : List ℤ) → IsNormal a.terms → AreInForce values parameters →
    affine_value values a ≤ℤ affine_value values (greatest parameters a)
greatest-above [] a values normal has = omega (arith, ints)
greatest-above (parameter ∷ parameters) a values normal has =
    below-below _ _ _ (greatest-above parameters a values normal has.1)
    (with_greatest-above parameter (greatest parameters a) values (normal-greatest parameters a normal) has.0)

-- an index in a box is in the box with parameters replaced
pub in-replaced : (parameters : List Parameter) (box : Box) (values index : List ℤ) → IsNormalBox box → AreInForce values parameters → IsInBox values box index → IsInBox values (replaced parameters box) index
in-replaced parameters [] values [] normal has inside = tt
in-replaced parameters [] values (number ∷ index) normal has inside = absurd inside
in-replaced parameters (bounds ∷ box) values [] normal has inside = absurd inside
in-replaced parameters (bounds ∷ box) values (number ∷ index) normal has inside = (
  record {
    low = below-below _ _ _ (least-below parameters bounds.low values normal.0.low has) inside.0.low;
    high = below-below _ _ _ inside.0.high (greatest-above parameters bounds.high values normal.0.high has);
  },
  in-replaced parameters box values index normal.1 has inside.1,
)

-- a box with parameters replaced is in normal form
pub normal-replaced : (parameters : List Parameter) (box : Box) → IsNormalBox box → IsNormalBox (replaced parameters box)
normal-replaced parameters [] normal = tt
normal-replaced parameters (bounds ∷ box) normal = (
  record { low = normal-least parameters bounds.low normal.0.low; high = normal-greatest parameters bounds.high normal.0.high },
  normal-replaced parameters box normal.1,
)
