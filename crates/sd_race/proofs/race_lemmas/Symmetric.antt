-- Harmless boxes are so in either order.
use Rattle.std.specs.List.{AllByRecursion}
use Rattle.std.proofs.Common.{◌≡◌, ◌≢◌, ◌⊎◌, inl, inr, pos, ◌-ℤ◌, ◌*ℤ◌, ◌<ℤ◌, unsigned_abs, List, [], ◌∷◌, sym, ◌∙◌, subst}
use Rattle.sd_range.specs.Terms.{coefficient_of}
use Rattle.sd_subset.specs.declared.boxes.bounds.Bounds.{Bounds}
use Rattle.sd_subset.specs.boxes.Box.{Parameter, Box, replaced}
use Rattle.sd_subset.specs.boxes.Apart.{BeginsAbove, InSome, SeparatesIn, IsSingle, AreSeparated, AreHarmless}
use Rattle.sd_race.specs.race.Pairs.{AreHarmlessOver}
use Rattle.sd_prop.specs.propagation.Scopes.{Over, points, elements}

in_some-turned : (Holds Turned : Bounds → Bounds → Type 0) → ((one other : Bounds) → Holds one other → Turned other one) → (box other : Box) → InSome Holds box other → InSome Turned other box
in_some-turned Holds Turned turn [] other some = absurd some
in_some-turned Holds Turned turn (one ∷ box) [] some = absurd some
in_some-turned Holds Turned turn (one ∷ box) (two ∷ other) (inl here) = inl (turn one two here)
in_some-turned Holds Turned turn (one ∷ box) (two ∷ other) (inr later) = inr (in_some-turned Holds Turned turn box other later)

above-turned : (around : List Parameter) (one other : Bounds) → (BeginsAbove around one other ⊎ BeginsAbove around other one) → (BeginsAbove around other one ⊎ BeginsAbove around one other)
above-turned around one other (inl above) = inr above
above-turned around one other (inr above) = inl above

separates-turned : (own : List Parameter) (by : Parameter) (one other : Bounds) → SeparatesIn own by one other → SeparatesIn own by other one
separates-turned own by one other separates =
    let same : other.low.terms ≡ one.low.terms = separates.parallel.other_low in
    record {
      moves = subst (λ terms. coefficient_of terms by.0 ≢ pos 0) (sym same) separates.moves;
      alone = subst (λ terms. AllByRecursion (λ (parameter : Parameter). parameter.0 ≢ by.0 → coefficient_of terms parameter.0 ≡ pos 0) own) (sym same) separates.alone;
      parallel = record { high = separates.parallel.other_high ∙ sym same; other_low = sym same; other_high = separates.parallel.high ∙ sym same };
      wide = record {
        wide = subst (λ terms. (other.high.constant -ℤ one.low.constant) <ℤ (pos (unsigned_abs (coefficient_of terms by.0)) *ℤ by.1.step)) (sym same) separates.wide.other_wide;
        other_wide = subst (λ terms. (one.high.constant -ℤ other.low.constant) <ℤ (pos (unsigned_abs (coefficient_of terms by.0)) *ℤ by.1.step)) (sym same) separates.wide.wide;
      };
    }

all_separated-turned : (around own by : List Parameter) (box other : Box) → AllByRecursion (λ (parameter : Parameter). IsSingle around parameter ⊎ AreSeparated own parameter box other) by → AllByRecursion (λ (parameter : Parameter). IsSingle around parameter ⊎ AreSeparated own parameter other box) by
all_separated-turned around own [] box other all = tt
all_separated-turned around own (parameter ∷ by) box other (inl single, all) = (inl single, all_separated-turned around own by box other all)
all_separated-turned around own (parameter ∷ by) box other (inr separated, all) =
    (inr (in_some-turned (SeparatesIn own parameter) (SeparatesIn own parameter) (separates-turned own parameter) box other separated), all_separated-turned around own by box other all)

harmless-turned : (around own : List Parameter) (box other : Box) → AreHarmless around own box other → AreHarmless around own other box
harmless-turned around own box other (inl apart) =
    inl (in_some-turned (λ one two. BeginsAbove around one two ⊎ BeginsAbove around two one) (λ one two. BeginsAbove around one two ⊎ BeginsAbove around two one) (above-turned around) (replaced own box) (replaced own other) apart)
harmless-turned around own box other (inr all) = inr (all_separated-turned around own own box other all)

pub harmless_over-turned : (over : Over) (around : List Parameter) (box other : Box) → AreHarmlessOver over around box other → AreHarmlessOver over around other box
harmless_over-turned (points sequential params) around box other harmless = harmless-turned around params box other harmless
harmless_over-turned elements around box other harmless = absurd harmless
