-- Which variables expressions name, and what their values rest on.
use Rattle.std.specs.List.{AllByRecursion}
use Rattle.std.proofs.Common.{◌≡◌, ◌≢◌, ℕ, ℤ, pos, ◌+ℤ◌, ◌*ℤ◌, List, [], ◌∷◌, map, Bool, true, false, refl, ap, ◌∙◌, if◌then◌else◌, int_lt}
use Rattle.std.specs.Int.{int_min}
use Rattle.std.specs.Bool.{⊤}
use Rattle.std.specs.List.{fold}
use Rattle.std.proofs.lemmas.Bool.{eq-eqb, ne_eqb}
use Rattle.sd_range.specs.Terms.{coefficient_of}
use Rattle.sd_range.specs.Affine.{variable_value, terms_value, affine_value}
use Rattle.sd_range.specs.Arithmetic.{affine_zero, put_before, plus_term, combined, others_of, substituted}
use Rattle.sd_range.specs.Range.{least_value, range_values, stepped}
use Rattle.sd_range.specs.declared.affine.Affine.{Affine}
use Rattle.sd_range.specs.declared.range.Range.{Range}
use Rattle.sd_range.proofs.Normal.{by_zero, by_order, by_same, put_before-zero, put_before-other, plus_term-before, plus_term-same, plus_term-after}
use Rattle.sd_subset.specs.boxes.Box.{Parameter, last_of, last_end, with_least, with_greatest, least, greatest}
use Rattle.sd_subset.specs.boxes.InForce.{IsOther, NamesOthers, RangeNamesOthers}

-- each term has a variable of this kind
abbrev pub AllNamed : (ℕ → Type 0) → List (ℕ × ℤ) → Type 0
AllNamed Is terms = AllByRecursion (λ term. Is term.0) terms

-- what holds of each element and gives another fact gives it of each
pub each_weaker : {A : Type 0} (P Q : A → Type 0) → ((a : A) → P a → Q a) → (all : List A) → AllByRecursion P all → AllByRecursion Q all
each_weaker P Q weaker [] each = tt
each_weaker P Q weaker (a ∷ all) each = (weaker a each.0, each_weaker P Q weaker all each.1)

named-put_before : (Is : ℕ → Type 0) (variable : ℕ) (coefficient : ℤ) (terms : List (ℕ × ℤ)) → Is variable → AllNamed Is terms → AllNamed Is (put_before variable coefficient terms)
named-put_before Is variable coefficient terms is each =
    by_zero coefficient
    (λ zero. rw (put_before-zero variable coefficient terms zero) each)
    (λ other. rw (put_before-other variable coefficient terms other) (is, each))

named-plus_term : (Is : ℕ → Type 0) (terms : List (ℕ × ℤ)) (variable : ℕ) (coefficient : ℤ) → Is variable → AllNamed Is terms → AllNamed Is (plus_term terms variable coefficient)
named-plus_term Is [] variable coefficient is each = named-put_before Is variable coefficient [] is tt
named-plus_term Is (term ∷ terms) variable coefficient is each =
    by_order variable term.0
    (λ before. rw (plus_term-before term terms variable coefficient before) (named-put_before Is variable coefficient (term ∷ terms) is each))
    (λ same. rw (plus_term-same term terms variable coefficient same) (named-put_before Is variable (term.1 +ℤ coefficient) terms is each.1))
    (λ after. rw (plus_term-after term terms variable coefficient after) (each.0, named-plus_term Is terms variable coefficient is each.1))

-- a combination names what its sides name
pub named-combined : (Is : ℕ → Type 0) (terms : List (ℕ × ℤ)) (factor : ℤ) (others : List (ℕ × ℤ)) → AllNamed Is terms → AllNamed Is others → AllNamed Is (combined terms factor others)
named-combined Is terms factor [] each each' = each
named-combined Is terms factor (other ∷ others) each each' =
    named-plus_term Is (combined terms factor others) other.0 (factor *ℤ other.1) each'.0 (named-combined Is terms factor others each each'.1)

-- the terms of other variables name those that are not this one
pub named-others_of : (Is : ℕ → Type 0) (variable : ℕ) (terms : List (ℕ × ℤ)) → AllNamed (λ other. other ≢ variable → Is other) terms → AllNamed Is (others_of variable terms)
named-others_of Is variable [] each = tt
named-others_of Is variable (term ∷ terms) each =
    by_same term.0 variable
    (λ same. rw (eq-eqb term.0 variable same) (named-others_of Is variable terms each.1))
    (λ other. rw (ne_eqb term.0 variable other) (each.0 other, named-others_of Is variable terms each.1))

-- where an expression stands for a variable, what it names and the other variables are named
named-substituted : (Is : ℕ → Type 0) (variable : ℕ) (by a : Affine) → AllNamed Is by.terms → AllNamed (λ other. other ≢ variable → Is other) a.terms → AllNamed Is (substituted variable by a).terms
named-substituted Is variable by a each each' =
    named-combined Is (others_of variable a.terms) (coefficient_of a.terms variable) by.terms (named-others_of Is variable a.terms each') each

-- a range's begin and its last end name what all its expressions name
named-last_of : (Is : ℕ → Type 0) (before : Affine) (ends : List Affine) → AllNamed Is before.terms → AllByRecursion (λ end. AllNamed Is end.terms) ends → AllNamed Is (last_of before ends).terms
named-last_of Is before [] each each' = each
named-last_of Is before (end ∷ ends) each each' = named-last_of Is end ends each'.0 each'.1

-- all expressions of a range name variables of this kind
abbrev pub RangeNamed : (ℕ → Type 0) → Range → Type 0
RangeNamed Is r = AllNamed Is r.begin.terms × AllByRecursion (λ end. AllNamed Is end.terms) r.ends

named-last_end : (Is : ℕ → Type 0) (r : Range) → RangeNamed Is r → AllNamed Is (last_end r).terms
named-last_end Is r each = named-last_of Is affine_zero r.ends tt each.1

-- one of two
named-choice : (Is : ℕ → Type 0) (test : Bool) (a b : Affine) → AllNamed Is a.terms → AllNamed Is b.terms → AllNamed Is (if test then a else b).terms
named-choice Is true a b each each' = each
named-choice Is false a b each each' = each'

named-with_least : (Is : ℕ → Type 0) (parameter : Parameter) (a : Affine) → RangeNamed Is parameter.1 → AllNamed (λ other. other ≢ parameter.0 → Is other) a.terms → AllNamed Is (with_least parameter a).terms
named-with_least Is parameter a range each =
    let test = int_lt (pos 0) (coefficient_of a.terms parameter.0) in
    named-substituted Is parameter.0 (if test then parameter.1.begin else last_end parameter.1) a
    (named-choice Is test parameter.1.begin (last_end parameter.1) range.0 (named-last_end Is parameter.1 range)) each

named-with_greatest : (Is : ℕ → Type 0) (parameter : Parameter) (a : Affine) → RangeNamed Is parameter.1 → AllNamed (λ other. other ≢ parameter.0 → Is other) a.terms → AllNamed Is (with_greatest parameter a).terms
named-with_greatest Is parameter a range each =
    let test = int_lt (pos 0) (coefficient_of a.terms parameter.0) in
    named-substituted Is parameter.0 (if test then last_end parameter.1 else parameter.1.begin) a
    (named-choice Is test (last_end parameter.1) parameter.1.begin (named-last_end Is parameter.1 range) range.0) each

-- expressions of ranges name variables of a wider kind too
range-weaker : (Is Was : ℕ → Type 0) → ((variable : ℕ) → Is variable → Was variable) → (parameters : List Parameter) → AllByRecursion (λ parameter. RangeNamed Is parameter.1) parameters → AllByRecursion (λ parameter. RangeNamed Was parameter.1) parameters
range-weaker Is Was weaker parameters each =
    each_weaker (λ parameter. RangeNamed Is parameter.1) (λ parameter. RangeNamed Was parameter.1)
    (λ parameter named. (
      each_weaker (λ term. Is term.0) (λ term. Was term.0) (λ term. weaker term.0) parameter.1.begin.terms named.0,
      each_weaker (λ end. AllNamed Is end.terms) (λ end. AllNamed Was end.terms) (λ end. each_weaker (λ term. Is term.0) (λ term. Was term.0) (λ term. weaker term.0) end.terms) parameter.1.ends named.1,
    )) parameters each

-- with parameters replaced, what is named is of a kind that their ranges name, and that the expression names but for these parameters
pub named-least : (Is : ℕ → Type 0) (parameters : List Parameter) (a : Affine) → AllByRecursion (λ parameter. RangeNamed Is parameter.1) parameters →
    AllNamed (λ other. IsOther parameters other → Is other) a.terms → AllNamed Is (least parameters a).terms
named-least Is [] a ranges each = each_weaker (λ term. (⊤ → Is term.0)) (λ term. Is term.0) (λ term is. is tt) a.terms each
named-least Is (parameter ∷ parameters) a ranges each =
    named-with_least Is parameter (least parameters a) ranges.0
    (named-least (λ other. other ≢ parameter.0 → Is other) parameters a
    (range-weaker Is (λ other. other ≢ parameter.0 → Is other) (λ variable is _. is) parameters ranges.1)
    (each_weaker (λ term. IsOther (parameter ∷ parameters) term.0 → Is term.0) (λ term. IsOther parameters term.0 → term.0 ≢ parameter.0 → Is term.0) (λ term is others other. is (other, others)) a.terms each))

pub named-greatest : (Is : ℕ → Type 0) (parameters : List Parameter) (a : Affine) → AllByRecursion (λ parameter. RangeNamed Is parameter.1) parameters →
    AllNamed (λ other. IsOther parameters other → Is other) a.terms → AllNamed Is (greatest parameters a).terms
named-greatest Is [] a ranges each = each_weaker (λ term. (⊤ → Is term.0)) (λ term. Is term.0) (λ term is. is tt) a.terms each
named-greatest Is (parameter ∷ parameters) a ranges each =
    named-with_greatest Is parameter (greatest parameters a) ranges.0
    (named-greatest (λ other. other ≢ parameter.0 → Is other) parameters a
    (range-weaker Is (λ other. other ≢ parameter.0 → Is other) (λ variable is _. is) parameters ranges.1)
    (each_weaker (λ term. IsOther (parameter ∷ parameters) term.0 → Is term.0) (λ term. IsOther parameters term.0 → term.0 ≢ parameter.0 → Is term.0) (λ term is others other. is (other, others)) a.terms each))

any_named : (Is : ℕ → Type 0) → ((variable : ℕ) → Is variable) → (terms : List (ℕ × ℤ)) → AllNamed Is terms
any_named Is all [] = tt
any_named Is all (term ∷ terms) = (all term.0, any_named Is all terms)

-- with a map's own parameters replaced none of them is named
pub least-names_others : (own : List Parameter) (a : Affine) → AllByRecursion (λ parameter. RangeNamesOthers own parameter.1) own → NamesOthers own (least own a)
least-names_others own a ranges = named-least (IsOther own) own a ranges (any_named (λ other. IsOther own other → IsOther own other) (λ variable other. other) a.terms)

pub greatest-names_others : (own : List Parameter) (a : Affine) → AllByRecursion (λ parameter. RangeNamesOthers own parameter.1) own → NamesOthers own (greatest own a)
greatest-names_others own a ranges = named-greatest (IsOther own) own a ranges (any_named (λ other. IsOther own other → IsOther own other) (λ variable other. other) a.terms)

-- two lists give the same value to each variable but these parameters
abbrev pub AgreeBut : List Parameter → List ℤ → List ℤ → Type 0
AgreeBut own values others = (variable : ℕ) → IsOther own variable → variable_value values variable ≡ variable_value others variable

-- terms that name none of them have one value
pub terms-agree : (own : List Parameter) (values others : List ℤ) (terms : List (ℕ × ℤ)) → AgreeBut own values others → AllNamed (IsOther own) terms → terms_value values terms ≡ terms_value others terms
terms-agree own values others [] agree named = refl
terms-agree own values others (term ∷ terms) agree named =
    ap (λ n. (term.1 *ℤ n) +ℤ terms_value values terms) (agree term.0 named.0)
    ∙ ap (λ rest. (term.1 *ℤ variable_value others term.0) +ℤ rest) (terms-agree own values others terms agree named.1)

pub value-agrees : (own : List Parameter) (values others : List ℤ) (a : Affine) → AgreeBut own values others → NamesOthers own a → affine_value values a ≡ affine_value others a
value-agrees own values others a agree named = ap (λ rest. a.constant +ℤ rest) (terms-agree own values others a.terms agree named)

ends-agree : (own : List Parameter) (values others : List ℤ) (ends : List Affine) → AgreeBut own values others → AllByRecursion (NamesOthers own) ends →
    map (λ end. affine_value values end) ends ≡ map (λ end. affine_value others end) ends
ends-agree own values others [] agree named = refl
ends-agree own values others (end ∷ ends) agree named =
    λ i. value-agrees own values others end agree named.0 i ∷ ends-agree own values others ends agree named.1 i

least_value-agrees : (own : List Parameter) (values others : List ℤ) (ends : List Affine) → AgreeBut own values others → AllByRecursion (NamesOthers own) ends → least_value values ends ≡ least_value others ends
least_value-agrees own values others [] agree named = refl
least_value-agrees own values others (end ∷ ends) agree named =
    λ i. fold int_min (value-agrees own values others end agree named.0 i) (ends-agree own values others ends agree named.1 i)

-- and so do ranges
pub range-agrees : (own : List Parameter) (values others : List ℤ) (r : Range) → AgreeBut own values others → RangeNamesOthers own r → range_values values r ≡ range_values others r
range-agrees own values others r agree named =
    λ i. stepped (value-agrees own values others r.begin agree named.0 i) (least_value-agrees own values others r.ends agree named.1 i) r.step
