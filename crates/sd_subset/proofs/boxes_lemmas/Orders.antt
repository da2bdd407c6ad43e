-- Two parameters of which neither's range names the other may be replaced in either order.
use Rattle.std.specs.List.{AllByRecursion}
use Rattle.std.proofs.Common.{◌≡◌, ◌≢◌, ℕ, ℤ, pos, ◌+ℤ◌, ◌-ℤ◌, ◌*ℤ◌, List, [], ◌∷◌, ◌++◌, subst, int_lt, nat_eq, not, Bool, true, false, if◌then◌else◌, refl, ap, sym, ◌∙◌, arith}
use Rattle.std.proofs.lemmas.Int.{ints}
use Rattle.std.proofs.lemmas.Bool.{eq-eqb, ne_eqb}
use Rattle.std.proofs.Math.IntN.{*ℤ-zero, +ℤ_idr}
use Rattle.sd_range.specs.Terms.{IsNormal, coefficient_of}
use Rattle.sd_range.specs.Affine.{variable_value, affine_value}
use Rattle.sd_range.specs.Arithmetic.{affine_zero, others_of}
use Rattle.sd_range.specs.declared.affine.Affine.{Affine}
use Rattle.sd_range.proofs.Normal.{by_same, normal-filter}
use Rattle.sd_range.proofs.Coefficients.{coefficient_of-first, coefficient_of-rest, coefficient_of-combined}
use Rattle.sd_range.proofs.AffineLaws.{same_values}
use Rattle.sd_subset.specs.boxes.Box.{Parameter, last_of, last_end, with_least, with_greatest, least, greatest}
use Rattle.sd_subset.specs.boxes.InForce.{IsNormalRange, Ignores, IsInward, IsReordered}
use Rattle.sd_subset.proofs.boxes_lemmas.Named.{AllNamed, each_weaker}
use Rattle.sd_subset.proofs.boxes_lemmas.Bounding.{value-substituted, normal-substituted, normal-least, normal-greatest}

-- what does not name a variable has the coefficient 0 for it
unnamed-zero : (terms : List (ℕ × ℤ)) (variable : ℕ) → AllNamed (λ named. named ≢ variable) terms → coefficient_of terms variable ≡ pos 0
unnamed-zero [] variable named = refl
unnamed-zero (term ∷ terms) variable named = coefficient_of-rest term terms variable named.0 ∙ unnamed-zero terms variable named.1

-- the terms of others than one variable keep the coefficient of another
others-coefficient : (terms : List (ℕ × ℤ)) (gone variable : ℕ) → variable ≢ gone → coefficient_of (others_of gone terms) variable ≡ coefficient_of terms variable
others-coefficient [] gone variable other = refl
others-coefficient (term ∷ terms) gone variable other =
    by_same term.0 gone
    (λ is. rw (eq-eqb term.0 gone is) (others-coefficient terms gone variable other ∙ sym (coefficient_of-rest term terms variable (λ same. other (sym same ∙ is)))))
    (λ is. rw (ne_eqb term.0 gone is)
    (by_same term.0 variable
    (λ same. coefficient_of-first term (others_of gone terms) variable same ∙ sym (coefficient_of-first term terms variable same))
    (λ none. coefficient_of-rest term (others_of gone terms) variable none ∙ others-coefficient terms gone variable other ∙ sym (coefficient_of-rest term terms variable none))))

-- what stands for a parameter of this coefficient in a lower bound
abbrev low_for : Parameter → ℤ → Affine
low_for parameter coefficient = if int_lt (pos 0) coefficient then parameter.1.begin else last_end parameter.1

-- how much the value changes by it
abbrev gained : Parameter → (coefficient : ℤ) → List ℤ → ℤ
gained parameter coefficient values = coefficient *ℤ (affine_value values (low_for parameter coefficient) -ℤ variable_value values parameter.0)

value-least : (parameter : Parameter) (a : Affine) (values : List ℤ) → IsNormal a.terms → affine_value values (with_least parameter a) ≡ affine_value values a +ℤ gained parameter (coefficient_of a.terms parameter.0) values
value-least parameter a values normal = value-substituted parameter.0 (low_for parameter (coefficient_of a.terms parameter.0)) a values normal

normal-with_least : (parameter : Parameter) (a : Affine) → IsNormal a.terms → IsNormal (with_least parameter a).terms
normal-with_least parameter a normal = normal-substituted parameter.0 (low_for parameter (coefficient_of a.terms parameter.0)) a normal

-- the last end of a normal range is normal, and names what its ends name
last-normal : (before : Affine) (ends : List Affine) → IsNormal before.terms → AllByRecursion (λ end. IsNormal end.terms) ends → IsNormal (last_of before ends).terms
last-normal before [] normal each = normal
last-normal before (end ∷ ends) normal each = last-normal end ends each.0 each.1

last-named : (Is : ℕ → Type 0) (before : Affine) (ends : List Affine) → AllNamed Is before.terms → AllByRecursion (λ end. AllNamed Is end.terms) ends → AllNamed Is (last_of before ends).terms
last-named Is before [] named each = named
last-named Is before (end ∷ ends) named each = last-named Is end ends each.0 each.1

one-normal : (test : Bool) (a b : Affine) → IsNormal a.terms → IsNormal b.terms → IsNormal (if test then a else b).terms
one-normal true a b first second = first
one-normal false a b first second = second

one-named : (Is : ℕ → Type 0) (test : Bool) (a b : Affine) → AllNamed Is a.terms → AllNamed Is b.terms → AllNamed Is (if test then a else b).terms
one-named Is true a b first second = first
one-named Is false a b first second = second

-- a parameter replaced leaves the coefficient of another, which its range does not name
coefficient-kept : (parameter : Parameter) (a : Affine) (variable : ℕ) → IsNormal a.terms → IsNormalRange parameter.1 → Ignores parameter.1 variable → variable ≢ parameter.0 →
    coefficient_of (with_least parameter a).terms variable ≡ coefficient_of a.terms variable
coefficient-kept parameter a variable normal range ignores other =
    let c = coefficient_of a.terms parameter.0 in
    let by = low_for parameter c in
    let by_normal : IsNormal by.terms = one-normal (int_lt (pos 0) c) parameter.1.begin (last_end parameter.1) range.begin (last-normal affine_zero parameter.1.ends tt range.ends) in
    let none : coefficient_of by.terms variable ≡ pos 0 =
    unnamed-zero by.terms variable (one-named (λ named. named ≢ variable) (int_lt (pos 0) c) parameter.1.begin (last_end parameter.1) ignores.0 (last-named (λ named. named ≢ variable) affine_zero parameter.1.ends tt ignores.1)) in
    coefficient_of-combined (others_of parameter.0 a.terms) c by.terms variable (normal-filter (λ term. not (nat_eq term.0 parameter.0)) a.terms normal) by_normal
    ∙ ap (λ n. coefficient_of (others_of parameter.0 a.terms) variable +ℤ (c *ℤ n)) none
    ∙ ap (λ n. coefficient_of (others_of parameter.0 a.terms) variable +ℤ n) (*ℤ-zero c)
    ∙ +ℤ_idr (coefficient_of (others_of parameter.0 a.terms) variable)
    ∙ others-coefficient a.terms parameter.0 variable other

-- two sums in either order
added : (n gain more with_second both with_first other : ℤ) → both ≡ with_second +ℤ gain → other ≡ with_first +ℤ more → with_second ≡ n +ℤ more → with_first ≡ n +ℤ gain → both ≡ other
added n gain more with_second both with_first other one two inner inner' = omega (arith, ints, one, two, inner, inner')

-- either order
pub least-swaps : (first second : Parameter) (a : Affine) → IsNormal a.terms → IsNormalRange first.1 → IsNormalRange second.1 → first.0 ≢ second.0 → Ignores first.1 second.0 → Ignores second.1 first.0 →
    with_least first (with_least second a) ≡ with_least second (with_least first a)
least-swaps first second a normal range range' other ignores ignores' =
    same_values (with_least first (with_least second a)) (with_least second (with_least first a))
    (normal-with_least first (with_least second a) (normal-with_least second a normal)) (normal-with_least second (with_least first a) (normal-with_least first a normal))
    (λ values.
    let kept = coefficient-kept second a first.0 normal range' ignores' other in
    let kept' = coefficient-kept first a second.0 normal range ignores (λ same. other (sym same)) in
    let one = value-least first (with_least second a) values (normal-with_least second a normal) ∙ ap (λ c. affine_value values (with_least second a) +ℤ gained first c values) kept in
    let two = value-least second (with_least first a) values (normal-with_least first a normal) ∙ ap (λ c. affine_value values (with_least first a) +ℤ gained second c values) kept' in
    let inner = value-least second a values normal in
    let inner' = value-least first a values normal in
    added (affine_value values a) (gained first (coefficient_of a.terms first.0) values) (gained second (coefficient_of a.terms second.0) values)
    (affine_value values (with_least second a)) (affine_value values (with_least first (with_least second a))) (affine_value values (with_least first a)) (affine_value values (with_least second (with_least first a))) one two inner inner')

-- the same for upper bounds

-- what stands for a parameter of this coefficient in an upper bound
abbrev high_for : Parameter → ℤ → Affine
high_for parameter coefficient = if int_lt (pos 0) coefficient then last_end parameter.1 else parameter.1.begin

-- how much the value changes by it
abbrev gained_above : Parameter → (coefficient : ℤ) → List ℤ → ℤ
gained_above parameter coefficient values = coefficient *ℤ (affine_value values (high_for parameter coefficient) -ℤ variable_value values parameter.0)

value-greatest : (parameter : Parameter) (a : Affine) (values : List ℤ) → IsNormal a.terms → affine_value values (with_greatest parameter a) ≡ affine_value values a +ℤ gained_above parameter (coefficient_of a.terms parameter.0) values
value-greatest parameter a values normal = value-substituted parameter.0 (high_for parameter (coefficient_of a.terms parameter.0)) a values normal

normal-with_greatest : (parameter : Parameter) (a : Affine) → IsNormal a.terms → IsNormal (with_greatest parameter a).terms
normal-with_greatest parameter a normal = normal-substituted parameter.0 (high_for parameter (coefficient_of a.terms parameter.0)) a normal

-- a parameter replaced leaves the coefficient of another, which its range does not name
coefficient-kept_above : (parameter : Parameter) (a : Affine) (variable : ℕ) → IsNormal a.terms → IsNormalRange parameter.1 → Ignores parameter.1 variable → variable ≢ parameter.0 →
    coefficient_of (with_greatest parameter a).terms variable ≡ coefficient_of a.terms variable
coefficient-kept_above parameter a variable normal range ignores other =
    let c = coefficient_of a.terms parameter.0 in
    let by = high_for parameter c in
    let by_normal : IsNormal by.terms = one-normal (int_lt (pos 0) c) (last_end parameter.1) parameter.1.begin (last-normal affine_zero parameter.1.ends tt range.ends) range.begin in
    let none : coefficient_of by.terms variable ≡ pos 0 =
    unnamed-zero by.terms variable (one-named (λ named. named ≢ variable) (int_lt (pos 0) c) (last_end parameter.1) parameter.1.begin (last-named (λ named. named ≢ variable) affine_zero parameter.1.ends tt ignores.1) ignores.0) in
    coefficient_of-combined (others_of parameter.0 a.terms) c by.terms variable (normal-filter (λ term. not (nat_eq term.0 parameter.0)) a.terms normal) by_normal
    ∙ ap (λ n. coefficient_of (others_of parameter.0 a.terms) variable +ℤ (c *ℤ n)) none
    ∙ ap (λ n. coefficient_of (others_of parameter.0 a.terms) variable +ℤ n) (*ℤ-zero c)
    ∙ +ℤ_idr (coefficient_of (others_of parameter.0 a.terms) variable)
    ∙ others-coefficient a.terms parameter.0 variable other

-- either order
pub greatest-swaps : (first second : Parameter) (a : Affine) → IsNormal a.terms → IsNormalRange first.1 → IsNormalRange second.1 → first.0 ≢ second.0 → Ignores first.1 second.0 → Ignores second.1 first.0 →
    with_greatest first (with_greatest second a) ≡ with_greatest second (with_greatest first a)
greatest-swaps first second a normal range range' other ignores ignores' =
    same_values (with_greatest first (with_greatest second a)) (with_greatest second (with_greatest first a))
    (normal-with_greatest first (with_greatest second a) (normal-with_greatest second a normal)) (normal-with_greatest second (with_greatest first a) (normal-with_greatest first a normal))
    (λ values.
    let kept = coefficient-kept_above second a first.0 normal range' ignores' other in
    let kept' = coefficient-kept_above first a second.0 normal range ignores (λ same. other (sym same)) in
    let one = value-greatest first (with_greatest second a) values (normal-with_greatest second a normal) ∙ ap (λ c. affine_value values (with_greatest second a) +ℤ gained_above first c values) kept in
    let two = value-greatest second (with_greatest first a) values (normal-with_greatest first a normal) ∙ ap (λ c. affine_value values (with_greatest first a) +ℤ gained_above second c values) kept' in
    let inner = value-greatest second a values normal in
    let inner' = value-greatest first a values normal in
    added (affine_value values a) (gained_above first (coefficient_of a.terms first.0) values) (gained_above second (coefficient_of a.terms second.0) values)
    (affine_value values (with_greatest second a)) (affine_value values (with_greatest first (with_greatest second a))) (affine_value values (with_greatest first a)) (affine_value values (with_greatest second (with_greatest first a))) one two inner inner')

-- what is so of each of two lists put together, with one more between, or without it
each-front : (P : Parameter → Type 0) (front back : List Parameter) → AllByRecursion P (front ++ back) → AllByRecursion P front
each-front P [] back each = tt
each-front P (first ∷ front) back each = (each.0, each-front P front back each.1)

each-with : (P : Parameter → Type 0) (front back : List Parameter) (one : Parameter) → P one → AllByRecursion P (front ++ back) → AllByRecursion P (front ++ one ∷ back)
each-with P [] back one is each = (is, each)
each-with P (first ∷ front) back one is each = (each.0, each-with P front back one is each.1)

each-without : (P : Parameter → Type 0) (front back : List Parameter) (one : Parameter) → AllByRecursion P (front ++ one ∷ back) → P one × AllByRecursion P (front ++ back)
each-without P [] back one each = (each.0, each.1)
each-without P (first ∷ front) back one each = let rest = each-without P front back one each.1 in (rest.0, (each.0, rest.1))

-- what is so of each is so of each in another order
reordered-each : (P : Parameter → Type 0) (parameters others : List Parameter) → IsReordered parameters others → AllByRecursion P parameters → AllByRecursion P others
reordered-each P [] others same each = subst (AllByRecursion P) (sym same) tt
reordered-each P (parameter ∷ parameters) others (front, back, same, rest) each =
    subst (AllByRecursion P) (sym same) (each-with P front back parameter each.0 (reordered-each P parameters (front ++ back) rest each.1))

-- without one it is still the outermost first
inward-without : (front back : List Parameter) (one : Parameter) → IsInward (front ++ one ∷ back) → IsInward (front ++ back)
inward-without [] back one inward = inward.2
inward-without (first ∷ front) back one inward =
    ((each-without (λ (inner : Parameter). (first.0 ≢ inner.0) × Ignores first.1 inner.0) front back one inward.0).1, inward.1, inward-without front back one inward.2)

-- the one is not named by those before it
inward-front : (front back : List Parameter) (one : Parameter) → IsInward (front ++ one ∷ back) → AllByRecursion (λ (outer : Parameter). (outer.0 ≢ one.0) × Ignores outer.1 one.0 × IsNormalRange outer.1) front
inward-front [] back one inward = tt
inward-front (first ∷ front) back one inward =
    let here = (each-without (λ (inner : Parameter). (first.0 ≢ inner.0) × Ignores first.1 inner.0) front back one inward.0).0 in
    ((here.0, here.1, inward.1), inward-front front back one inward.2)

-- a parameter that is independent of those before it may be replaced last
least-moves : (front back : List Parameter) (one : Parameter) (a : Affine) → IsNormal a.terms → IsNormalRange one.1 →
    AllByRecursion (λ (outer : Parameter). (outer.0 ≢ one.0) × Ignores outer.1 one.0 × IsNormalRange outer.1) front → AllByRecursion (λ (outer : Parameter). Ignores one.1 outer.0) front →
    least (front ++ one ∷ back) a ≡ with_least one (least (front ++ back) a)
least-moves [] back one a normal range outer ignores = refl
least-moves (first ∷ front) back one a normal range outer ignores =
    ap (with_least first) (least-moves front back one a normal range outer.1 ignores.1)
    ∙ least-swaps first one (least (front ++ back) a) (normal-least (front ++ back) a normal) outer.0.2 range outer.0.0 outer.0.1 ignores.0

-- in each order in which no range names a parameter further in the result is one
pub least-orders : (parameters others : List Parameter) (a : Affine) → IsNormal a.terms → IsInward parameters → IsInward others → IsReordered parameters others → least parameters a ≡ least others a
least-orders [] others a normal inward inward' same = ap (λ all. least all a) (sym same)
least-orders (parameter ∷ parameters) others a normal inward inward' (front, back, same, rest) =
    let there : IsInward (front ++ parameter ∷ back) = subst IsInward same inward' in
    let ignores : AllByRecursion (λ (outer : Parameter). Ignores parameter.1 outer.0) front =
    each-front (λ (outer : Parameter). Ignores parameter.1 outer.0) front back
    (reordered-each (λ (outer : Parameter). Ignores parameter.1 outer.0) parameters (front ++ back) rest
    (each_weaker (λ (inner : Parameter). (parameter.0 ≢ inner.0) × Ignores parameter.1 inner.0) (λ (inner : Parameter). Ignores parameter.1 inner.0) (λ inner both. both.1) parameters inward.0)) in
    ap (with_least parameter) (least-orders parameters (front ++ back) a normal inward.2 (inward-without front back parameter there) rest)
    ∙ sym (least-moves front back parameter a normal inward.1 (inward-front front back parameter there) ignores)
    ∙ ap (λ all. least all a) (sym same)

-- a parameter that is independent of those before it may be replaced last
greatest-moves : (front back : List Parameter) (one : Parameter) (a : Affine) → IsNormal a.terms → IsNormalRange one.1 →
    AllByRecursion (λ (outer : Parameter). (outer.0 ≢ one.0) × Ignores outer.1 one.0 × IsNormalRange outer.1) front → AllByRecursion (λ (outer : Parameter). Ignores one.1 outer.0) front →
    greatest (front ++ one ∷ back) a ≡ with_greatest one (greatest (front ++ back) a)
greatest-moves [] back one a normal range outer ignores = refl
greatest-moves (first ∷ front) back one a normal range outer ignores =
    ap (with_greatest first) (greatest-moves front back one a normal range outer.1 ignores.1)
    ∙ greatest-swaps first one (greatest (front ++ back) a) (normal-greatest (front ++ back) a normal) outer.0.2 range outer.0.0 outer.0.1 ignores.0

-- in each order in which no range names a parameter further in the result is one
pub greatest-orders : (parameters others : List Parameter) (a : Affine) → IsNormal a.terms → IsInward parameters → IsInward others → IsReordered parameters others → greatest parameters a ≡ greatest others a
greatest-orders [] others a normal inward inward' same = ap (λ all. greatest all a) (sym same)
greatest-orders (parameter ∷ parameters) others a normal inward inward' (front, back, same, rest) =
    let there : IsInward (front ++ parameter ∷ back) = subst IsInward same inward' in
    let ignores : AllByRecursion (λ (outer : Parameter). Ignores parameter.1 outer.0) front =
    each-front (λ (outer : Parameter). Ignores parameter.1 outer.0) front back
    (reordered-each (λ (outer : Parameter). Ignores parameter.1 outer.0) parameters (front ++ back) rest
    (each_weaker (λ (inner : Parameter). (parameter.0 ≢ inner.0) × Ignores parameter.1 inner.0) (λ (inner : Parameter). Ignores parameter.1 inner.0) (λ inner both. both.1) parameters inward.0)) in
    ap (with_greatest parameter) (greatest-orders parameters (front ++ back) a normal inward.2 (inward-without front back parameter there) rest)
    ∙ sym (greatest-moves front back parameter a normal inward.1 (inward-front front back parameter there) ignores)
    ∙ ap (λ all. greatest all a) (sym same)
