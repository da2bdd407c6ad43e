-- Items stay fit where other parameters are in force around them.
use Rattle.std.specs.List.{AllByRecursion}
use Rattle.std.proofs.Common.{ℕ, ℤ, List, [], ◌∷◌, ◌++◌}
use Rattle.sd_range.specs.declared.affine.Affine.{Affine}
use Rattle.sd_range.specs.declared.range.Range.{Range}
use Rattle.sd_subset.specs.boxes.Box.{Parameter}
use Rattle.sd_subset.specs.boxes.InForce.{IsOther, RangeNamesOthers, AreFresh}
use Rattle.sd_graph.specs.PlainTree.{KindTree, task, map_scope, consume_scope, nested_graph, reduction, copy, ItemTrees, no_item, and_item}
use Rattle.sd_race.specs.cover.Fit.{IsFit, AreFit}
use Rattle.sd_race.proofs.race_lemmas.Members.{all-parts, all-joined}
use Rattle.sd_exchange.specs.maps.Spared.{IsNoName, KindSpares, ItemsSpare}

each-mapped : (P : ℕ → Type 0) (Q : ℕ → Type 0) → ((variable : ℕ) → P variable → Q variable) → (terms : List (ℕ × ℤ)) → AllByRecursion (λ (term : ℕ × ℤ). P term.0) terms → AllByRecursion (λ (term : ℕ × ℤ). Q term.0) terms
each-mapped P Q h [] each = tt
each-mapped P Q h (term ∷ terms) each = (h term.0 each.0, each-mapped P Q h terms each.1)

ends-mapped : (P : ℕ → Type 0) (Q : ℕ → Type 0) → ((variable : ℕ) → P variable → Q variable) → (ends : List Affine) → AllByRecursion (λ (a : Affine). AllByRecursion (λ (term : ℕ × ℤ). P term.0) a.terms) ends → AllByRecursion (λ (a : Affine). AllByRecursion (λ (term : ℕ × ℤ). Q term.0) a.terms) ends
ends-mapped P Q h [] each = tt
ends-mapped P Q h (end ∷ ends) each = (each-mapped P Q h end.terms each.0, ends-mapped P Q h ends each.1)

-- a range names others by their variables alone
pub range-mapped : (own others : List Parameter) → ((variable : ℕ) → IsOther own variable → IsOther others variable) → (r : Range) → RangeNamesOthers own r → RangeNamesOthers others r
range-mapped own others h r each = (each-mapped (IsOther own) (IsOther others) h r.begin.terms each.0, ends-mapped (IsOther own) (IsOther others) h r.ends each.1)

-- what is asked of parameters in force around fresh ones
pub record Spares (around own : List Parameter) : Type 0 where
  pub others : AllByRecursion (λ (parameter : Parameter). IsOther own parameter.0) around
  pub ranges : AllByRecursion (λ (parameter : Parameter). RangeNamesOthers own parameter.1) around

-- no parameter is one of some names
abbrev pub AreNoNames : (names : List ℕ) → List Parameter → Type 0
AreNoNames names own = AllByRecursion (λ (parameter : Parameter). IsNoName names parameter.0) own

-- what is spared by all of the first list is by all of the second one, names aside
abbrev pub Carries : (names : List ℕ) → (around other : List Parameter) → Type 0
Carries names around other = (own : List Parameter) → AreNoNames names own → Spares around own → Spares other own

pub spares-both : (around behind own : List Parameter) → Spares around own → Spares behind own → Spares (around ++ behind) own
spares-both around behind own first second = record {
  others = all-joined (λ (parameter : Parameter). IsOther own parameter.0) around behind first.others second.others;
  ranges = all-joined (λ (parameter : Parameter). RangeNamesOthers own parameter.1) around behind first.ranges second.ranges;
}

pub spares-parts : (around behind own : List Parameter) → Spares (around ++ behind) own → Spares around own × Spares behind own
spares-parts around behind own spares =
    let others = all-parts (λ (parameter : Parameter). IsOther own parameter.0) around behind spares.others in
    let ranges = all-parts (λ (parameter : Parameter). RangeNamesOthers own parameter.1) around behind spares.ranges in
    (record { others = others.0; ranges = ranges.0 }, record { others = others.1; ranges = ranges.1 })

-- the same parameters behind both
pub carries-behind : (names : List ℕ) (around other behind : List Parameter) → Carries names around other → Carries names (around ++ behind) (other ++ behind)
carries-behind names around other behind carries own free spares =
    let parts = spares-parts around behind own spares in spares-both other behind own (carries own free parts.0) parts.1

fresh-carried : (names : List ℕ) (around other own : List Parameter) → AreNoNames names own → Carries names around other → AreFresh around own → AreFresh other own
fresh-carried names around other own free carries fresh =
    let spares = carries own free (record { others = fresh.others; ranges = fresh.outer_ranges }) in
    record { distinct = fresh.distinct; normal = fresh.normal; others = spares.others; outer_ranges = spares.ranges; own_ranges = fresh.own_ranges }

mutual
  pub fit-carried : (names : List ℕ) (kind : KindTree) (around other : List Parameter) → Carries names around other → KindSpares names kind → IsFit kind around → IsFit kind other
  fit-carried names (task code ins outs) around other carries free fit = fit
  fit-carried names (map_scope sequential parameters private body) around other carries free fit =
      (fresh-carried names around other parameters free.0 carries fit.0, all-carried names body (around ++ parameters) (other ++ parameters) (carries-behind names around other parameters carries) free.1 fit.1)
  fit-carried names (consume_scope source element private body) around other carries free fit = all-carried names body around other carries free fit
  fit-carried names (nested_graph inner links) around other carries free fit = fit
  fit-carried names (reduction resolution axis identity from to) around other carries free fit = fit
  fit-carried names (copy from to) around other carries free fit = fit

  pub all-carried : (names : List ℕ) (items : ItemTrees) (around other : List Parameter) → Carries names around other → ItemsSpare names items → AreFit items around → AreFit items other
  all-carried names no_item around other carries free fit = tt
  all-carried names (and_item line kind items) around other carries free fit = (fit-carried names kind around other carries free.0 fit.0, all-carried names items around other carries free.1 fit.1)
