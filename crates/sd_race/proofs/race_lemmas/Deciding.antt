-- The tests tell which boxes are harmless, and which scopes are free of races.
use Rattle.std.proofs.Common.{◌≡◌, ◌≢◌, ◌⊎◌, inl, inr, ℕ, nat_eq, ℤ, pos, ◌-ℤ◌, ◌*ℤ◌, ◌<ℤ◌, int_lt, unsigned_abs, List, [], ◌∷◌, Bool, true, false, not, ◌&&◌, ◌||◌, refl, sym, ap, subst, arith}
use Rattle.std.specs.Bool.{Decides}
use Rattle.std.specs.Ordering.{int_eq}
use Rattle.std.specs.List.{AllByRecursion, Contains, list_all, list_any}
use Rattle.std.proofs.lemmas.Bool.Decides.{Decides-like, Decides-not, Decides-and, Decides-or, Decides-eqb, Decides-int_eq}
use Rattle.sd_range.proofs.Members.{Contains-nil, Contains-first, Contains-later, Contains-cases}
use Rattle.sd_range.specs.Terms.{coefficient_of}
use Rattle.sd_range.specs.Arithmetic.{affine_difference}
use Rattle.sd_range.specs.declared.affine.Affine.{Affine}
use Rattle.sd_subset.specs.declared.boxes.bounds.Bounds.{Bounds}
use Rattle.sd_subset.specs.boxes.Box.{Parameter, Box, least, greatest, replaced}
use Rattle.sd_subset.specs.boxes.Apart as definition
use Rattle.sd_graph.specs.Mode.{do_conflict}
use Rattle.sd_prop.specs.propagation.Scopes.{Over, points, elements, Scope}
use Rattle.sd_race.specs.race.Pairs.{Pair, pairs_of, AreHarmlessOver, IsAccepted, IsFreeOfRaces}
use Rattle.sd_race.specs.race.Tests as tests

-- ---- lists

first-same : (term other : ℕ × ℤ) (terms others : List (ℕ × ℤ)) → (term ∷ terms) ≡ (other ∷ others) → ((term.0 ≡ other.0) × (term.1 ≡ other.1)) × (terms ≡ others)
first-same term other terms others is = (((let same : term.0 ≡ other.0 = cc in same), (let same : term.1 ≡ other.1 = cc in same)), (let same : terms ≡ others = cc in same))

pub same-decides : (terms others : List (ℕ × ℤ)) → Decides (tests.are_same terms others) (terms ≡ others)
same-decides [] [] = (λ is. refl, λ is. refl)
same-decides [] (other ∷ others) = (λ is. cc, λ is. cc)
same-decides (term ∷ terms) [] = (λ is. cc, λ is. cc)
same-decides (term ∷ terms) (other ∷ others) =
    Decides-like ((nat_eq term.0 other.0 && int_eq term.1 other.1) && tests.are_same terms others)
    (λ same i. (same.0.0 i, same.0.1 i) ∷ same.1 i) (first-same term other terms others)
    (Decides-and (nat_eq term.0 other.0 && int_eq term.1 other.1) (tests.are_same terms others)
    (Decides-and (nat_eq term.0 other.0) (int_eq term.1 other.1) (Decides-eqb term.0 other.0) (Decides-int_eq term.1 other.1)) (same-decides terms others))

pub less-decides : (a b : ℤ) → Decides (int_lt a b) (a <ℤ b)
less-decides a b = ((λ is. grind (arith, is)), (λ is. grind (arith, is)))

module _ {A : Type 0} (P : A → Type 0) (test : A → Bool) (each : (a : A) → Decides (test a) (P a)) where
  pub all-decides : (all : List A) → Decides (list_all test all) (AllByRecursion P all)
  all-decides [] = (λ is. tt, λ is. refl)
  all-decides (a ∷ all) = Decides-and (test a) (list_all test all) (each a) (all-decides all)

  abbrev pub HasOne : List A → Type 0
  HasOne all = (a : A) × Contains all a × P a

  one-first : (a : A) (all : List A) → P a ⊎ HasOne all → HasOne (a ∷ all)
  one-first a all (inl here) = (a, Contains-first a all, here)
  one-first a all (inr there) = (there.0, Contains-later a all there.0 there.1, there.2)

  one-where : (a : A) (all : List A) → HasOne (a ∷ all) → P a ⊎ HasOne all
  one-where a all has = elim (Contains-cases a all has.0 has.1) [
    | inl is ↦ inl (subst P (sym is) has.2)
    | inr later ↦ inr (has.0, later, has.2)
  ]

  pub any-decides : (all : List A) → Decides (list_any test all) (HasOne all)
  any-decides [] = (λ is. cc, λ has. absurd (Contains-nil has.0 has.1))
  any-decides (a ∷ all) = Decides-like (test a || list_any test all) (one-first a all) (one-where a all) (Decides-or (test a) (list_any test all) (each a) (any-decides all))

-- ---- boxes

module _ (Holds : Bounds → Bounds → Type 0) (test : Bounds → Bounds → Bool) (each : (one other : Bounds) → Decides (test one other) (Holds one other)) where
  pub some-decides : (box other : Box) → Decides (tests.in_some test box other) (definition.InSome Holds box other)
  some-decides [] other = (λ is. cc, λ none. absurd none)
  some-decides (one ∷ box) [] = (λ is. cc, λ none. absurd none)
  some-decides (one ∷ box) (two ∷ other) = Decides-or (test one two) (tests.in_some test box other) (each one two) (some-decides box other)

above-decides : (around : List Parameter) (one other : Bounds) → Decides (tests.begins_above around one other) (definition.BeginsAbove around one other)
above-decides around one other =
    let gap : Affine = least around (affine_difference one.low other.high) in
    Decides-like (tests.are_same gap.terms [] && int_lt (pos 0) gap.constant) (λ parts. record { constant = parts.0; above = parts.1 }) (λ is. (is.constant, is.above))
    (Decides-and (tests.are_same gap.terms []) (int_lt (pos 0) gap.constant) (same-decides gap.terms []) (less-decides (pos 0) gap.constant))

either-above : (around : List Parameter) (one other : Bounds) →
    Decides (tests.begins_above around one other || tests.begins_above around other one) (definition.BeginsAbove around one other ⊎ definition.BeginsAbove around other one)
either-above around one other =
    Decides-or (tests.begins_above around one other) (tests.begins_above around other one) (above-decides around one other) (above-decides around other one)

apart-decides : (around own : List Parameter) (box other : Box) → Decides (tests.are_apart around own box other) (definition.AreApart around own box other)
apart-decides around own box other =
    some-decides (λ one two. definition.BeginsAbove around one two ⊎ definition.BeginsAbove around two one) (λ one two. tests.begins_above around one two || tests.begins_above around two one)
    (either-above around) (replaced own box) (replaced own other)

parallel-decides : (one other : Bounds) → Decides (tests.are_parallel one other) (definition.AreParallel one other)
parallel-decides one other =
    Decides-like (tests.are_parallel one other) (λ parts. record { high = parts.0; other_low = parts.1.0; other_high = parts.1.1 }) (λ is. (is.high, (is.other_low, is.other_high)))
    (Decides-and (tests.are_same one.high.terms one.low.terms) (tests.are_same other.low.terms one.low.terms && tests.are_same other.high.terms one.low.terms) (same-decides one.high.terms one.low.terms)
    (Decides-and (tests.are_same other.low.terms one.low.terms) (tests.are_same other.high.terms one.low.terms) (same-decides other.low.terms one.low.terms) (same-decides other.high.terms one.low.terms)))

wide-decides : (by : Parameter) (one other : Bounds) → Decides (tests.is_wide by one other) (definition.IsWide by one other)
wide-decides by one other =
    let distance : ℤ = pos (unsigned_abs (coefficient_of one.low.terms by.0)) *ℤ by.1.step in
    Decides-like (tests.is_wide by one other) (λ parts. record { wide = parts.0; other_wide = parts.1 }) (λ is. (is.wide, is.other_wide))
    (Decides-and (int_lt (one.high.constant -ℤ other.low.constant) distance) (int_lt (other.high.constant -ℤ one.low.constant) distance)
    (less-decides (one.high.constant -ℤ other.low.constant) distance) (less-decides (other.high.constant -ℤ one.low.constant) distance))

-- a test or a fact is that the fact holds where the test fails
unless-decides : (a b : Bool) {P Q : Type 0} → Decides a P → Decides b Q → Decides (a || b) ((P → ⊥) → Q)
unless-decides true b first second = (λ is differs. absurd (differs (first.0 refl)), λ holds. refl)
unless-decides false b first second = (λ is differs. second.0 is, λ holds. second.1 (holds (λ p. (let wrong = first.1 p in cc))))

alone-decides : (own : List Parameter) (by : ℕ) (a : Affine) → Decides (tests.is_alone own by a) (definition.IsAlone own by a)
alone-decides own by a =
    all-decides (λ parameter. parameter.0 ≢ by → coefficient_of a.terms parameter.0 ≡ pos 0) (λ parameter. nat_eq parameter.0 by || int_eq (coefficient_of a.terms parameter.0) (pos 0))
    (λ parameter. unless-decides (nat_eq parameter.0 by) (int_eq (coefficient_of a.terms parameter.0) (pos 0)) (Decides-eqb parameter.0 by) (Decides-int_eq (coefficient_of a.terms parameter.0) (pos 0))) own

separates-decides : (own : List Parameter) (by : Parameter) (one other : Bounds) → Decides (tests.separates_in own by one other) (definition.SeparatesIn own by one other)
separates-decides own by one other =
    let moves : Bool = not (int_eq (coefficient_of one.low.terms by.0) (pos 0)) in
    Decides-like (tests.separates_in own by one other)
    (λ parts. record { moves = parts.0.0; alone = parts.0.1; parallel = parts.1.0; wide = parts.1.1 }) (λ is. ((is.moves, is.alone), (is.parallel, is.wide)))
    (Decides-and (moves && tests.is_alone own by.0 one.low) (tests.are_parallel one other && tests.is_wide by one other)
    (Decides-and moves (tests.is_alone own by.0 one.low) (Decides-not (int_eq (coefficient_of one.low.terms by.0) (pos 0)) (Decides-int_eq (coefficient_of one.low.terms by.0) (pos 0))) (alone-decides own by.0 one.low))
    (Decides-and (tests.are_parallel one other) (tests.is_wide by one other) (parallel-decides one other) (wide-decides by one other)))

near-decides : (around : List Parameter) (parameter : Parameter) (end : Affine) →
    Decides (tests.is_near around parameter end) (definition.IsBelow (greatest around (affine_difference end parameter.1.begin)) parameter.1.step)
near-decides around parameter end =
    let length : Affine = greatest around (affine_difference end parameter.1.begin) in
    Decides-like (tests.are_same length.terms [] && int_lt length.constant parameter.1.step) (λ parts. record { constant = parts.0; below = parts.1 }) (λ is. (is.constant, is.below))
    (Decides-and (tests.are_same length.terms []) (int_lt length.constant parameter.1.step) (same-decides length.terms []) (less-decides length.constant parameter.1.step))

settled-decides : (around own : List Parameter) (box other : Box) (parameter : Parameter) →
    Decides (list_any (tests.is_near around parameter) parameter.1.ends || tests.in_some (tests.separates_in own parameter) box other)
    (definition.IsSingle around parameter ⊎ definition.AreSeparated own parameter box other)
settled-decides around own box other parameter =
    Decides-or (list_any (tests.is_near around parameter) parameter.1.ends) (tests.in_some (tests.separates_in own parameter) box other)
    (any-decides (λ end. definition.IsBelow (greatest around (affine_difference end parameter.1.begin)) parameter.1.step) (tests.is_near around parameter) (near-decides around parameter) parameter.1.ends)
    (some-decides (definition.SeparatesIn own parameter) (tests.separates_in own parameter) (separates-decides own parameter) box other)

pub harmless-decides : (around own : List Parameter) (box other : Box) → Decides (tests.are_harmless around own box other) (definition.AreHarmless around own box other)
harmless-decides around own box other =
    Decides-or (tests.are_apart around own box other) (tests.are_all_separated around own box other) (apart-decides around own box other)
    (all-decides (λ parameter. definition.IsSingle around parameter ⊎ definition.AreSeparated own parameter box other)
    (λ (parameter : Parameter). list_any (tests.is_near around parameter) parameter.1.ends || tests.in_some (tests.separates_in own parameter) box other)
    (settled-decides around own box other) own)

-- ---- scopes

over-decides : (over : Over) (around : List Parameter) (box other : Box) → Decides (tests.are_harmless_over over around box other) (AreHarmlessOver over around box other)
over-decides (points sequential params) around box other = harmless-decides around params box other
over-decides elements around box other = (λ is. cc, λ none. absurd none)

asked-decides : (same conflict free : Bool) {P Q : Type 0} → Decides same P → Decides free Q → Decides (not (same && conflict) || free) (P → conflict ≡ true → Q)
asked-decides true true free first second = (λ is same conflict. second.0 is, λ accepted. second.1 (accepted (first.0 refl) refl))
asked-decides true false free first second = (λ is same conflict. cc, λ accepted. refl)
asked-decides false conflict free first second = (λ is same conflicts. (let wrong = first.1 same in cc), λ accepted. refl)

pair-decides : (pair : Pair) → Decides (tests.is_accepted pair) (IsAccepted pair)
pair-decides pair =
    asked-decides (nat_eq pair.first.container pair.second.container) (do_conflict pair.first.mode pair.second.mode)
    (tests.are_harmless_over pair.scope.over pair.scope.around pair.first.box pair.second.box)
    (Decides-eqb pair.first.container pair.second.container) (over-decides pair.scope.over pair.scope.around pair.first.box pair.second.box)

pub free-decides : (scope : Scope) → Decides (tests.is_free_of_races scope) (IsFreeOfRaces scope)
free-decides scope = all-decides IsAccepted tests.is_accepted pair-decides (pairs_of scope)
