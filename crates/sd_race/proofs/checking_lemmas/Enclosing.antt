-- What is harmless of boxes that enclose others is so of those.
use Rattle.std.specs.List.{AllByRecursion, All}
use Rattle.std.proofs.Common.{◌≡◌, ◌⊎◌, inl, inr, zero, suc, ℕ, ℤ, pos, neg_ℤ, ◌+ℤ◌, ◌-ℤ◌, ◌*ℤ◌, ◌≤ℤ◌, ◌<ℤ◌, int_lt, unsigned_abs, if◌then◌else◌, List, [], ◌∷◌, ◌++◌, length, length-append, get_or, take, ◌+◌, ◌<◌, Option, Some, None, slice_get, option_map, refl, ap, sym, ◌∙◌, subst, arith}
use Rattle.std.proofs.lemmas.Int.{ints}
use Rattle.std.proofs.lemmas.List.Elements.{All-push}
use Rattle.sd_range.specs.Terms.{coefficient_of}
use Rattle.sd_range.specs.Arithmetic.{affine_difference, substituted}
use Rattle.sd_range.specs.declared.affine.Affine.{Affine}
use Rattle.sd_subset.specs.declared.boxes.bounds.Bounds.{Bounds}
use Rattle.sd_subset.specs.boxes.Box.{Parameter, Box, last_end, with_least, with_greatest, least, greatest, bounds_replaced, replaced}
use Rattle.sd_subset.proofs.boxes_lemmas.Walks.{take-next}
use Rattle.sd_subset.specs.boxes.Apart.{BeginsAbove, InSome, SeparatesIn, IsSingle, AreSeparated, AreHarmless}
use Rattle.sd_prop.specs.propagation.Scopes.{Over, points, elements}
use Rattle.sd_race.specs.race.Pairs.{AreHarmlessOver}
use Rattle.sd_race.specs.checking.Clear.{EnclosesBounds, Encloses, IsEnclosedAt, AreWidest, bounds_in}
use Rattle.sd_race.specs.declared.checking.placed.Placed.{Placed}
use Rattle.sd_race.specs.declared.checking.enclosing.Widest.{Widest}

-- the same terms, and a constant that is so much more
pub record IsMore (by : ℤ) (a b : Affine) : Type 0 where
  pub terms : b.terms ≡ a.terms
  pub constant : b.constant ≡ a.constant +ℤ by

-- what is more stays so with the same added
more-with : (by a b added : ℤ) → b ≡ a +ℤ by → b +ℤ added ≡ (a +ℤ added) +ℤ by
more-with by a b added more = omega (arith, ints, more)

-- an expression in the place of a variable leaves the distance of two
substituted-more : (by : ℤ) (variable : ℕ) (value a b : Affine) → IsMore by a b → IsMore by (substituted variable value a) (substituted variable value b)
substituted-more by variable value a b more =
    let same : coefficient_of b.terms variable ≡ coefficient_of a.terms variable = ap (λ terms. coefficient_of terms variable) more.terms in
    record {
      terms = ap (λ terms. (substituted variable value (record { constant = b.constant; terms = terms })).terms) more.terms;
      constant =
          ap (λ coefficient. b.constant +ℤ (coefficient *ℤ value.constant)) same
          ∙ more-with by a.constant b.constant (coefficient_of a.terms variable *ℤ value.constant) more.constant;
    }

-- the end that takes a parameter's place goes by the terms alone
with_least-more : (by : ℤ) (parameter : Parameter) (a b : Affine) → IsMore by a b → IsMore by (with_least parameter a) (with_least parameter b)
with_least-more by parameter a b more =
    let chosen : List (ℕ × ℤ) → Affine = λ terms. if int_lt (pos 0) (coefficient_of terms parameter.0) then parameter.1.begin else last_end parameter.1 in
    subst (λ value. IsMore by (with_least parameter a) (substituted parameter.0 value b)) (sym (ap chosen more.terms))
    (substituted-more by parameter.0 (chosen a.terms) a b more)

with_greatest-more : (by : ℤ) (parameter : Parameter) (a b : Affine) → IsMore by a b → IsMore by (with_greatest parameter a) (with_greatest parameter b)
with_greatest-more by parameter a b more =
    let chosen : List (ℕ × ℤ) → Affine = λ terms. if int_lt (pos 0) (coefficient_of terms parameter.0) then last_end parameter.1 else parameter.1.begin in
    subst (λ value. IsMore by (with_greatest parameter a) (substituted parameter.0 value b)) (sym (ap chosen more.terms))
    (substituted-more by parameter.0 (chosen a.terms) a b more)

least-more : (by : ℤ) (parameters : List Parameter) (a b : Affine) → IsMore by a b → IsMore by (least parameters a) (least parameters b)
least-more by [] a b more = more
least-more by (parameter ∷ parameters) a b more = with_least-more by parameter (least parameters a) (least parameters b) (least-more by parameters a b more)

greatest-more : (by : ℤ) (parameters : List Parameter) (a b : Affine) → IsMore by a b → IsMore by (greatest parameters a) (greatest parameters b)
greatest-more by [] a b more = more
greatest-more by (parameter ∷ parameters) a b more = with_greatest-more by parameter (greatest parameters a) (greatest parameters b) (greatest-more by parameters a b more)

-- two expressions with the same terms are some distance apart
distance : (a b : Affine) → b.terms ≡ a.terms → IsMore (b.constant -ℤ a.constant) a b
distance a b terms = record { terms = terms; constant = omega (arith, ints) }

-- bounds that enclose others do so with parameters replaced
bounds-replaced : (own : List Parameter) (whole one : Bounds) → EnclosesBounds whole one → EnclosesBounds (bounds_replaced own whole) (bounds_replaced own one)
bounds-replaced own whole one encloses =
    let low = least-more (one.low.constant -ℤ whole.low.constant) own whole.low one.low (distance whole.low one.low encloses.low_terms) in
    let high = greatest-more (one.high.constant -ℤ whole.high.constant) own whole.high one.high (distance whole.high one.high encloses.high_terms) in
    record {
      low_terms = low.terms;
      high_terms = high.terms;
      low = omega (arith, ints, low.constant, encloses.low);
      high = omega (arith, ints, high.constant, encloses.high);
    }

box-replaced : (own : List Parameter) (whole box : Box) → Encloses whole box → Encloses (replaced own whole) (replaced own box)
box-replaced own [] box encloses = tt
box-replaced own (whole ∷ wholes) [] encloses = absurd encloses
box-replaced own (whole ∷ wholes) (one ∷ box) encloses = (bounds-replaced own whole one encloses.0, box-replaced own wholes box encloses.1)

-- a least difference that is above 0 is so where its ends come no closer
rises : (low high whole beyond before after : ℤ) → after ≡ before +ℤ ((low +ℤ (neg_ℤ (pos 1) *ℤ high)) -ℤ (whole +ℤ (neg_ℤ (pos 1) *ℤ beyond))) →
    pos 0 <ℤ before → whole ≤ℤ low → high ≤ℤ beyond → pos 0 <ℤ after
rises low high whole beyond before after more above up down = omega (arith, ints, more, above, up, down)

-- where one begins above the other's end, so does what each encloses
above-within : (around : List Parameter) (whole one beyond other : Bounds) → EnclosesBounds whole one → EnclosesBounds beyond other → BeginsAbove around whole beyond → BeginsAbove around one other
above-within around whole one beyond other encloses encloses' above =
    let gap = affine_difference whole.low beyond.high in
    let inner = affine_difference one.low other.high in
    let terms : inner.terms ≡ gap.terms =
    ap (λ terms. (affine_difference (record { constant = one.low.constant; terms = terms }) other.high).terms) encloses.low_terms
    ∙ ap (λ terms. (affine_difference whole.low (record { constant = other.high.constant; terms = terms })).terms) encloses'.high_terms in
    let more = least-more (inner.constant -ℤ gap.constant) around gap inner (distance gap inner terms) in
    record {
      constant = more.terms ∙ above.constant;
      above = rises one.low.constant other.high.constant whole.low.constant beyond.high.constant (least around gap).constant (least around inner).constant more.constant above.above encloses.low encloses'.high;
    }

-- what holds in some dimension of two boxes holds there of what they enclose
in_some-within : (Holds : Bounds → Bounds → Type 0) → ((whole one beyond other : Bounds) → EnclosesBounds whole one → EnclosesBounds beyond other → Holds whole beyond → Holds one other) →
    (whole box beyond other : Box) → Encloses whole box → Encloses beyond other → InSome Holds whole beyond → InSome Holds box other
in_some-within Holds within [] box beyond other encloses encloses' some = absurd some
in_some-within Holds within (whole ∷ wholes) [] beyond other encloses encloses' some = absurd encloses
in_some-within Holds within (whole ∷ wholes) (one ∷ box) [] other encloses encloses' some = absurd some
in_some-within Holds within (whole ∷ wholes) (one ∷ box) (beyond ∷ beyonds) [] encloses encloses' some = absurd encloses'
in_some-within Holds within (whole ∷ wholes) (one ∷ box) (beyond ∷ beyonds) (other ∷ others) encloses encloses' (inl here) = inl (within whole one beyond other encloses.0 encloses'.0 here)
in_some-within Holds within (whole ∷ wholes) (one ∷ box) (beyond ∷ beyonds) (other ∷ others) encloses encloses' (inr later) =
    inr (in_some-within Holds within wholes box beyonds others encloses.1 encloses'.1 later)

either-within : (around : List Parameter) (whole one beyond other : Bounds) → EnclosesBounds whole one → EnclosesBounds beyond other →
    (BeginsAbove around whole beyond ⊎ BeginsAbove around beyond whole) → (BeginsAbove around one other ⊎ BeginsAbove around other one)
either-within around whole one beyond other encloses encloses' (inl above) = inl (above-within around whole one beyond other encloses encloses' above)
either-within around whole one beyond other encloses encloses' (inr above) = inr (above-within around beyond other whole one encloses' encloses above)

-- what is no wider is narrow too
narrower : (high low wider lower most : ℤ) → (wider -ℤ lower) <ℤ most → high ≤ℤ wider → lower ≤ℤ low → (high -ℤ low) <ℤ most
narrower high low wider lower most wide up down = omega (arith, ints, wide, up, down)

-- a parameter that separates bounds separates what they enclose
separates-within : (own : List Parameter) (by : Parameter) (whole one beyond other : Bounds) → EnclosesBounds whole one → EnclosesBounds beyond other → SeparatesIn own by whole beyond → SeparatesIn own by one other
separates-within own by whole one beyond other encloses encloses' separates =
    let same : one.low.terms ≡ whole.low.terms = encloses.low_terms in
    let moved : unsigned_abs (coefficient_of one.low.terms by.0) ≡ unsigned_abs (coefficient_of whole.low.terms by.0) = ap (λ terms. unsigned_abs (coefficient_of terms by.0)) same in
    let distance_is : pos (unsigned_abs (coefficient_of one.low.terms by.0)) *ℤ by.1.step ≡ pos (unsigned_abs (coefficient_of whole.low.terms by.0)) *ℤ by.1.step = ap (λ size. pos size *ℤ by.1.step) moved in
    record {
      moves = λ none. separates.moves (ap (λ terms. coefficient_of terms by.0) (sym same) ∙ none);
      alone = subst (λ terms. AllByRecursion (λ (parameter : Parameter). (parameter.0 ≡ by.0 → ⊥) → coefficient_of terms parameter.0 ≡ pos 0) own) (sym same) separates.alone;
      parallel = record {
        high = encloses.high_terms ∙ separates.parallel.high ∙ sym same;
        other_low = encloses'.low_terms ∙ separates.parallel.other_low ∙ sym same;
        other_high = encloses'.high_terms ∙ separates.parallel.other_high ∙ sym same;
      };
      wide = record {
        wide = subst (λ d. (one.high.constant -ℤ other.low.constant) <ℤ d) (sym distance_is) (narrower one.high.constant other.low.constant whole.high.constant beyond.low.constant (pos (unsigned_abs (coefficient_of whole.low.terms by.0)) *ℤ by.1.step) separates.wide.wide encloses.high encloses'.low);
        other_wide = subst (λ d. (other.high.constant -ℤ one.low.constant) <ℤ d) (sym distance_is) (narrower other.high.constant one.low.constant beyond.high.constant whole.low.constant (pos (unsigned_abs (coefficient_of whole.low.terms by.0)) *ℤ by.1.step) separates.wide.other_wide encloses'.high encloses.low);
      };
    }

all_separated-within : (around own by : List Parameter) (whole box beyond other : Box) → Encloses whole box → Encloses beyond other →
    AllByRecursion (λ (parameter : Parameter). IsSingle around parameter ⊎ AreSeparated own parameter whole beyond) by → AllByRecursion (λ (parameter : Parameter). IsSingle around parameter ⊎ AreSeparated own parameter box other) by
all_separated-within around own [] whole box beyond other encloses encloses' all = tt
all_separated-within around own (parameter ∷ by) whole box beyond other encloses encloses' (inl single, all) = (inl single, all_separated-within around own by whole box beyond other encloses encloses' all)
all_separated-within around own (parameter ∷ by) whole box beyond other encloses encloses' (inr separated, all) =
    (inr (in_some-within (SeparatesIn own parameter) (separates-within own parameter) whole box beyond other encloses encloses' separated), all_separated-within around own by whole box beyond other encloses encloses' all)

-- boxes that harmless ones enclose are harmless
harmless-within : (around own : List Parameter) (whole box beyond other : Box) → Encloses whole box → Encloses beyond other → AreHarmless around own whole beyond → AreHarmless around own box other
harmless-within around own whole box beyond other encloses encloses' (inl apart) =
    inl (in_some-within (λ one two. BeginsAbove around one two ⊎ BeginsAbove around two one) (either-within around) (replaced own whole) (replaced own box) (replaced own beyond) (replaced own other)
    (box-replaced own whole box encloses) (box-replaced own beyond other encloses') apart)
harmless-within around own whole box beyond other encloses encloses' (inr all) = inr (all_separated-within around own own whole box beyond other encloses encloses' all)

pub harmless_over-within : (over : Over) (around : List Parameter) (whole box beyond other : Box) → Encloses whole box → Encloses beyond other → AreHarmlessOver over around whole beyond → AreHarmlessOver over around box other
harmless_over-within (points sequential params) around whole box beyond other encloses encloses' harmless = harmless-within around params whole box beyond other encloses encloses' harmless
harmless_over-within elements around whole box beyond other encloses encloses' harmless = absurd harmless

only : (first one : Bounds) → Some first ≡ Some one → first ≡ one
only first one is = cc

-- the bounds that stand at a dimension
pub bounds-there : (box : Box) (dimension : ℕ) (own : Bounds) → dimension < length box → own ≡ get_or box dimension own → slice_get box dimension ≡ Some own
bounds-there [] dimension own within is = absurd (omega arith)
bounds-there (first ∷ box) zero own within is = ap Some (sym is)
bounds-there (first ∷ box) (suc dimension) own within is = bounds-there box dimension own (omega arith) is

-- one dimension more
pub encloses-push : (wholes box : Box) (whole one : Bounds) → Encloses wholes box → slice_get box (length wholes) ≡ Some one → EnclosesBounds whole one → Encloses (wholes ++ whole ∷ []) box
encloses-push [] [] whole one encloses is more = cc
encloses-push [] (first ∷ box) whole one encloses is more = (subst (EnclosesBounds whole) (sym (only first one is)) more, tt)
encloses-push (first ∷ wholes) [] whole one encloses is more = absurd encloses
encloses-push (first ∷ wholes) (second ∷ box) whole one encloses is more = (encloses.0, encloses-push wholes box whole one encloses.1 is more)

-- bounds that enclose themselves, and wider ones
pub encloses-own : (bounds : Bounds) → EnclosesBounds bounds bounds
encloses-own bounds = record { low_terms = refl; high_terms = refl; low = omega (arith, ints); high = omega (arith, ints) }

pub encloses-joined : (whole wide one : Bounds) → EnclosesBounds whole wide → EnclosesBounds wide one → EnclosesBounds whole one
encloses-joined whole wide one first second = record {
  low_terms = second.low_terms ∙ first.low_terms;
  high_terms = second.high_terms ∙ first.high_terms;
  low = omega (arith, ints, first.low, second.low);
  high = omega (arith, ints, first.high, second.high);
}

-- what follows of two things that hold of each
All-both : {X : Type 0} (P Q R : X → Type 0) → ((x : X) → P x → Q x → R x) → (xs : List X) → All P xs → All Q xs → All R xs
All-both P Q R joined xs first second = λ k d below. joined (get_or xs k d) (first k d below) (second k d below)

-- the dimensions so far with one more
pub many-next : (before after : Box) (whole : Bounds) (dimension : ℕ) → after ≡ before ++ whole ∷ [] → length before ≡ dimension → length after ≡ dimension + 1
many-next before after whole dimension is many = ap length is ∙ length-append before (whole ∷ []) ∙ ap (λ n. n + 1) many

pub enclosing-next : (before after : Box) (whole : Bounds) (widest : Widest) (items : List Placed) (dimension : ℕ) → after ≡ before ++ whole ∷ [] → whole ≡ bounds_in widest → length before ≡ dimension →
    All (λ (one : Placed). Encloses before one.access.now.box) items → All (IsEnclosedAt dimension (bounds_in widest)) items → All (λ (one : Placed). Encloses after one.access.now.box) items
enclosing-next before after whole widest items dimension is widest_is many enclosed each =
    subst (λ all. All (λ (one : Placed). Encloses all one.access.now.box) items) (sym is)
    (All-both (λ (one : Placed). Encloses before one.access.now.box) (IsEnclosedAt dimension (bounds_in widest)) (λ (one : Placed). Encloses (before ++ whole ∷ []) one.access.now.box)
    (λ one known at.
    encloses-push before one.access.now.box whole at.own known (subst (λ n. slice_get one.access.now.box n ≡ Some at.own) (sym many) at.is) (subst (λ bounds. EnclosesBounds bounds at.own) (sym widest_is) at.encloses))
    items enclosed each)

-- an access that wider bounds enclose too
enclosed-wider : (dimension : ℕ) (whole wide : Bounds) → EnclosesBounds whole wide → (one : Placed) → IsEnclosedAt dimension wide one → IsEnclosedAt dimension whole one
enclosed-wider dimension whole wide more one at = record { own = at.own; is = at.is; encloses = encloses-joined whole wide at.own more at.encloses }

module _ (dimension : ℕ) (items : List Placed) (i : ℕ) (one : Placed) (own : Bounds) (below : i < length items) (is : one ≡ get_or items i one) (there : slice_get one.access.now.box dimension ≡ Some own) where
  -- the bounds of the first access
  widest-first : (first : Widest) → take i items ≡ [] → bounds_in first ≡ own → All (IsEnclosedAt dimension (bounds_in first)) (take (i + 1) items)
  widest-first first none same =
      let here : IsEnclosedAt dimension (bounds_in first) one = record { own = own; is = there; encloses = subst (EnclosesBounds (bounds_in first)) same (encloses-own (bounds_in first)) } in
      subst (All (IsEnclosedAt dimension (bounds_in first))) (sym (take-next items i one below is)) (All-push (IsEnclosedAt dimension (bounds_in first)) (take i items) one (subst (All (IsEnclosedAt dimension (bounds_in first))) (sym none) (λ k d under. absurd (omega (arith, under)))) here)

  pub widest-found : (found : Option Widest) → option_map bounds_in found ≡ Some own → take i items ≡ [] → AreWidest dimension found (take (i + 1) items)
  widest-found None is none = cc
  widest-found (Some first) is none = widest-first first none (only (bounds_in first) own is)

  -- wider ones for one access more
  pub widest-next : (known wide : Widest) → All (IsEnclosedAt dimension (bounds_in known)) (take i items) → EnclosesBounds (bounds_in wide) (bounds_in known) → EnclosesBounds (bounds_in wide) own →
      All (IsEnclosedAt dimension (bounds_in wide)) (take (i + 1) items)
  widest-next known wide all more encloses =
      let here : IsEnclosedAt dimension (bounds_in wide) one = record { own = own; is = there; encloses = encloses } in
      subst (All (IsEnclosedAt dimension (bounds_in wide))) (sym (take-next items i one below is))
      (All-push (IsEnclosedAt dimension (bounds_in wide)) (take i items) one (λ k d under. enclosed-wider dimension (bounds_in wide) (bounds_in known) more (get_or (take i items) k d) (all k d under)) here)
