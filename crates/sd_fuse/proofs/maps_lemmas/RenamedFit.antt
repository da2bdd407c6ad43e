-- Items with variables renamed are fit.
use Rattle.std.specs.List.{AllByRecursion}
use Rattle.std.proofs.lemmas.Bool.{cases_Bool}
use Rattle.std.proofs.lemmas.Int.{ints}
use Rattle.std.proofs.Common.{◌≡◌, ◌≤◌, ◌<◌, inl, inr, zero, suc, ℕ, nat_eq, ℤ, pos, neg_ℤ, ◌+ℤ◌, ◌*ℤ◌, List, [], ◌∷◌, ◌++◌, map, length, Option, Some, if◌then◌else◌, slice_get, refl, sym, ◌∙◌, ap, subst, arith}
use Rattle.sd_range.specs.Terms.{IsNormal, coefficient_of}
use Rattle.sd_range.specs.Arithmetic.{affine_zero, affine_difference, put_before, plus_term, combined}
use Rattle.sd_range.specs.declared.affine.Affine.{Affine}
use Rattle.sd_range.specs.declared.range.Range.{Range}
use Rattle.sd_range.specs.declared.subset.Dim.{Dim}
use Rattle.sd_range.specs.declared.subset.Dim.TheVariants.{Index, Span}
use Rattle.sd_range.proofs.Normal.{by_zero, by_order, put_before-zero, put_before-other, plus_term-before, plus_term-same, plus_term-after, normal-plus_term, normal-combined}
use Rattle.sd_range.proofs.Coefficients.{coefficient_of-combined, same_coefficients}
use Rattle.sd_subset.specs.boxes.Box.{Parameter, last_of, last_end}
use Rattle.sd_subset.specs.boxes.InForce.{IsOther, NamesOthers, RangeNamesOthers, IsNormalRange, AreDistinct, AreFresh}
use Rattle.sd_graph.specs.declared.link.Link.{Link}
use Rattle.sd_graph.specs.ContainerParts.{Containers, container_at, extents_of}
use Rattle.sd_graph.specs.Context.{span_counts}
use Rattle.sd_graph.specs.Wiring.{Use, outside, graph_uses}
use Rattle.sd_graph.specs.PlainTree.{KindTree, task, map_scope, consume_scope, nested_graph, reduction, copy, ItemTrees, no_item, and_item, GraphTree, graph}
use Rattle.sd_race.specs.cover.Fit.{IsNormalDim, IsNormalLink, HasLength, HasShape, HaveShapes, IsAliasFree, AreArrays, HasTargetCounts, IsFit, AreFit, IsGraphFit}
use Rattle.sd_fuse.specs.renamed.Renamed.{Names, variable_renamed, terms_renamed, affine_renamed, range_renamed, dim_renamed, link_renamed, ranges_renamed, kind_renamed, items_renamed, IsNoName, KindSpares, ItemsSpare, values_renamed}
use Rattle.sd_fuse.proofs.renamed_lemmas.Expressions.{counts-renamed}
use Rattle.sd_fuse.proofs.renamed_lemmas.Uses.{uses-renamed}
use Rattle.sd_exchange.specs.maps.Accepting.{IsConsumeAccepted}
use Rattle.sd_exchange.specs.maps.AcceptedPools.{HasAcceptedPools, HaveAcceptedPools}
use Rattle.sd_exchange.proofs.maps_lemmas.Carrying.{Spares, range-mapped, spares-both, spares-parts}

-- no parameter is an old or a new name
abbrev pub AreNoNames : Names → List Parameter → Type 0
AreNoNames names own = AllByRecursion (λ (parameter : Parameter). IsNoName names parameter.0) own

-- what is spared by all of the first list is by all of the second one, names aside
abbrev pub Carries : Names → (around other : List Parameter) → Type 0
Carries names around other = (own : List Parameter) → AreNoNames names own → Spares around own → Spares other own

-- ---- names

put-named : (Is : ℕ → Type 0) (variable : ℕ) (coefficient : ℤ) (terms : List (ℕ × ℤ)) → Is variable → AllByRecursion (λ (term : ℕ × ℤ). Is term.0) terms → AllByRecursion (λ (term : ℕ × ℤ). Is term.0) (put_before variable coefficient terms)
put-named Is variable coefficient terms is each =
    by_zero coefficient
    (λ none. rw (put_before-zero variable coefficient terms none) each)
    (λ other. rw (put_before-other variable coefficient terms other) (is, each))

plus-named : (Is : ℕ → Type 0) (terms : List (ℕ × ℤ)) (variable : ℕ) (coefficient : ℤ) → Is variable → AllByRecursion (λ (term : ℕ × ℤ). Is term.0) terms → AllByRecursion (λ (term : ℕ × ℤ). Is term.0) (plus_term terms variable coefficient)
plus-named Is [] variable coefficient is each = put-named Is variable coefficient [] is tt
plus-named Is (term ∷ terms) variable coefficient is each =
    by_order variable term.0
    (λ before. rw (plus_term-before term terms variable coefficient before) (put-named Is variable coefficient (term ∷ terms) is each))
    (λ same. rw (plus_term-same term terms variable coefficient same) (put-named Is variable (term.1 +ℤ coefficient) terms is each.1))
    (λ after. rw (plus_term-after term terms variable coefficient after) (each.0, plus-named Is terms variable coefficient is each.1))

-- a new name is none of these
name-other : (names : Names) (own : List Parameter) (variable : ℕ) → AreNoNames names own → IsOther own variable → IsOther own (variable_renamed names variable)
name-other [] own variable free other = other
name-other (name ∷ names) own variable free other = elim (cases_Bool (nat_eq variable name.0)) [
  | inl is ↦ subst (λ b. IsOther own (if b then name.1 else variable_renamed names variable)) (sym is) (new-other own free)
  | inr none ↦ subst (λ b. IsOther own (if b then name.1 else variable_renamed names variable)) (sym none) (name-other names own variable (fewer own free) other)
]
  where
    new-other : (own : List Parameter) → AreNoNames (name ∷ names) own → IsOther own name.1
    new-other [] free = tt
    new-other (parameter ∷ own) free = ((λ e. free.0.0.1 (sym e)), new-other own free.1)

    fewer : (own : List Parameter) → AreNoNames (name ∷ names) own → AreNoNames names own
    fewer [] free = tt
    fewer (parameter ∷ own) free = (free.0.1, fewer own free.1)

terms-other : (names : Names) (own : List Parameter) (terms : List (ℕ × ℤ)) → AreNoNames names own → AllByRecursion (λ (term : ℕ × ℤ). IsOther own term.0) terms → AllByRecursion (λ (term : ℕ × ℤ). IsOther own term.0) (terms_renamed names terms)
terms-other names own [] free each = tt
terms-other names own (term ∷ terms) free each = plus-named (IsOther own) (terms_renamed names terms) (variable_renamed names term.0) term.1 (name-other names own term.0 free each.0) (terms-other names own terms free each.1)

ends-other : (names : Names) (own : List Parameter) (ends : List Affine) → AreNoNames names own → AllByRecursion (NamesOthers own) ends → AllByRecursion (NamesOthers own) (map (affine_renamed names) ends)
ends-other names own [] free each = tt
ends-other names own (end ∷ ends) free each = (terms-other names own end.terms free each.0, ends-other names own ends free each.1)

pub range-other : (names : Names) (own : List Parameter) (r : Range) → AreNoNames names own → RangeNamesOthers own r → RangeNamesOthers own (range_renamed names r)
range-other names own r free each = (terms-other names own r.begin.terms free each.0, ends-other names own r.ends free each.1)

-- ---- normal forms

pub terms-normal : (names : Names) (terms : List (ℕ × ℤ)) → IsNormal (terms_renamed names terms)
terms-normal names [] = tt
terms-normal names (term ∷ terms) = normal-plus_term (variable_renamed names term.0) term.1 (terms_renamed names terms) (terms-normal names terms)

pub ends-normal : (names : Names) (ends : List Affine) → AllByRecursion (λ (end : Affine). IsNormal end.terms) (map (affine_renamed names) ends)
ends-normal names [] = tt
ends-normal names (end ∷ ends) = (terms-normal names end.terms, ends-normal names ends)

as-many : (names : Names) (ends : List Affine) → length (map (affine_renamed names) ends) ≡ length ends
as-many names [] = refl
as-many names (end ∷ ends) = ap suc (as-many names ends)

pub range-normal : (names : Names) (r : Range) → IsNormalRange r → IsNormalRange (range_renamed names r)
range-normal names r normal = record {
  range = record { ended = subst (λ n. 0 < n) (sym (as-many names r.ends)) normal.range.ended; few_ends = subst (λ n. n ≤ 4) (sym (as-many names r.ends)) normal.range.few_ends; rises = normal.range.rises };
  begin = terms-normal names r.begin.terms;
  ends = ends-normal names r.ends;
}

dims-normal : (names : Names) (dims : List Dim) → AllByRecursion IsNormalDim dims → AllByRecursion IsNormalDim (map (dim_renamed names) dims)
dims-normal names [] each = tt
dims-normal names (Index at ∷ dims) each = (terms-normal names at.terms, dims-normal names dims each.1)
dims-normal names (Span r ∷ dims) each = (range-normal names r each.0, dims-normal names dims each.1)

links-normal : (names : Names) (links : List Link) → AllByRecursion IsNormalLink links → AllByRecursion IsNormalLink (map (link_renamed names) links)
links-normal names [] each = tt
links-normal names (link ∷ links) each = (dims-normal names link.memlet.subset.dims each.0, links-normal names links each.1)

-- ---- shapes

last-renamed : (names : Names) (before : Affine) (ends : List Affine) → last_of (affine_renamed names before) (map (affine_renamed names) ends) ≡ affine_renamed names (last_of before ends)
last-renamed names before [] = refl
last-renamed names before (end ∷ ends) = last-renamed names end ends

no-product : (c : ℤ) → c +ℤ (neg_ℤ (pos 1) *ℤ c) ≡ pos 0
no-product c = omega (arith, ints)

-- an expression less itself has no term
none-left : (terms : List (ℕ × ℤ)) → IsNormal terms → combined terms (neg_ℤ (pos 1)) terms ≡ []
none-left terms normal =
    same_coefficients (combined terms (neg_ℤ (pos 1)) terms) [] (normal-combined terms (neg_ℤ (pos 1)) terms normal) tt
    (λ variable. coefficient_of-combined terms (neg_ℤ (pos 1)) terms variable normal normal ∙ no-product (coefficient_of terms variable))

same-one : (a b : ℤ) → a +ℤ (neg_ℤ (pos 1) *ℤ b) ≡ pos 0 → a ≡ b
same-one a b e = omega (arith, ints, e)

-- and one that has none is the same
same-terms : (terms others : List (ℕ × ℤ)) → IsNormal terms → IsNormal others → combined terms (neg_ℤ (pos 1)) others ≡ [] → terms ≡ others
same-terms terms others normal normal' none =
    same_coefficients terms others normal normal'
    (λ variable. same-one (coefficient_of terms variable) (coefficient_of others variable) (sym (coefficient_of-combined terms (neg_ℤ (pos 1)) others variable normal normal') ∙ ap (λ all. coefficient_of all variable) none))

last-normal : (before : Affine) (ends : List Affine) → IsNormal before.terms → AllByRecursion (λ (end : Affine). IsNormal end.terms) ends → IsNormal (last_of before ends).terms
last-normal before [] normal each = normal
last-normal before (end ∷ ends) normal each = last-normal end ends each.0 each.1

length-renamed : (names : Names) (extent : ℕ) (r : Range) → IsNormalRange r → HasLength extent r → HasLength extent (range_renamed names r)
length-renamed names extent r normal long =
    let same : (last_end r).terms ≡ r.begin.terms = same-terms (last_end r).terms r.begin.terms (last-normal affine_zero r.ends tt normal.ends) normal.begin long.constant in
    let last : last_end (range_renamed names r) ≡ affine_renamed names (last_end r) = last-renamed names affine_zero r.ends in
    record {
      step = long.step;
      constant = ap (λ (a : Affine). (affine_difference a (affine_renamed names r.begin)).terms) last
          ∙ ap (λ terms. combined (terms_renamed names terms) (neg_ℤ (pos 1)) (terms_renamed names r.begin.terms)) same ∙ none-left (terms_renamed names r.begin.terms) (terms-normal names r.begin.terms);
      long = ap (λ (a : Affine). (affine_difference a (affine_renamed names r.begin)).constant +ℤ pos 1) last ∙ long.long;
    }

shape-renamed : (names : Names) (extents : List ℕ) (dims : List Dim) → AllByRecursion IsNormalDim dims → HasShape extents dims → HasShape extents (map (dim_renamed names) dims)
shape-renamed names [] [] normal shape = tt
shape-renamed names (extent ∷ extents) [] normal shape = shape
shape-renamed names [] (Index at ∷ dims) normal shape = shape-renamed names [] dims normal.1 shape
shape-renamed names (extent ∷ extents) (Index at ∷ dims) normal shape = shape-renamed names (extent ∷ extents) dims normal.1 shape
shape-renamed names [] (Span r ∷ dims) normal shape = shape
shape-renamed names (extent ∷ extents) (Span r ∷ dims) normal shape = (length-renamed names extent r normal.0 shape.0, shape-renamed names extents dims normal.1 shape.1)

shapes-renamed : (names : Names) (containers : Containers) (number : ℕ) (links : List Link) → AllByRecursion IsNormalLink links → HaveShapes containers number links → HaveShapes containers number (map (link_renamed names) links)
shapes-renamed names containers number [] normal shapes = tt
shapes-renamed names containers number (link ∷ links) normal shapes =
    (shape-renamed names (extents_of (container_at containers number)) link.memlet.subset.dims normal.0 shapes.0, shapes-renamed names containers (suc number) links normal.1 shapes.1)

graph-renamed : (names : Names) (inner : GraphTree) (links : List Link) → AllByRecursion IsNormalLink links → IsGraphFit inner links → IsGraphFit inner (map (link_renamed names) links)
graph-renamed names (graph name containers arguments variables symbols states) links normal fit = (shapes-renamed names containers 0 links normal fit.0, fit.1)

-- the old link of a renamed one
old-link : (names : Names) (links : List Link) (number : ℕ) (link : Link) → slice_get (map (link_renamed names) links) number ≡ Some link → (old : Link) × (slice_get links number ≡ Some old) × (link ≡ link_renamed names old)
old-link names [] number link at = cc
old-link names (first ∷ links) zero link at = (first, refl, some-inside at)
  where
    some-inside : Some (link_renamed names first) ≡ Some link → link ≡ link_renamed names first
    some-inside e = cc
old-link names (first ∷ links) (suc number) link at = old-link names links number link at

alias-renamed : (names : Names) (links : List Link) (uses : List Use) → IsAliasFree links uses → IsAliasFree (map (link_renamed names) links) uses
alias-renamed names links uses free use' other link second member member' at at' different same conflict =
    let a = old-link names links use'.container link at in
    let b = old-link names links other.container second at' in
    free use' other a.0 b.0 member member' a.1 b.1 different (sym (ap (λ (l : Link). l.memlet.container) a.2) ∙ same ∙ ap (λ (l : Link). l.memlet.container) b.2) conflict

arrays-renamed : (names : Names) (links : List Link) (uses : List Use) → AreArrays links uses → AreArrays (map (link_renamed names) links) uses
arrays-renamed names links uses are use' link member at = let a = old-link names links use'.container link at in are use' a.0 member a.1

targets-renamed : (names : Names) (axis : Option ℕ) (from to : Link) → ((values : List ℤ) → HasTargetCounts axis (span_counts from.memlet.subset.dims values) (span_counts to.memlet.subset.dims values)) →
    (values : List ℤ) → HasTargetCounts axis (span_counts (map (dim_renamed names) from.memlet.subset.dims) values) (span_counts (map (dim_renamed names) to.memlet.subset.dims) values)
targets-renamed names axis from to each values =
    subst (λ counts. HasTargetCounts axis counts (span_counts (map (dim_renamed names) to.memlet.subset.dims) values)) (sym (counts-renamed names values from.memlet.subset.dims))
    (subst (λ counts. HasTargetCounts axis (span_counts from.memlet.subset.dims (values_renamed names values)) counts) (sym (counts-renamed names values to.memlet.subset.dims)) (each (values_renamed names values)))

-- ---- parameters

other-renamed : (names : Names) (own : List Parameter) (variable : ℕ) → IsOther own variable → IsOther (ranges_renamed names own) variable
other-renamed names [] variable other = tt
other-renamed names (parameter ∷ own) variable other = (other.0, other-renamed names own variable other.1)

renamed-other : (names : Names) (own : List Parameter) (variable : ℕ) → IsOther (ranges_renamed names own) variable → IsOther own variable
renamed-other names [] variable other = tt
renamed-other names (parameter ∷ own) variable other = (other.0, renamed-other names own variable other.1)

distinct-renamed : (names : Names) (own : List Parameter) → AreDistinct own → AreDistinct (ranges_renamed names own)
distinct-renamed names [] distinct = tt
distinct-renamed names (parameter ∷ own) distinct = (other-renamed names own parameter.0 distinct.0, distinct-renamed names own distinct.1)

each-normal : (names : Names) (own : List Parameter) → AllByRecursion (λ (parameter : Parameter). IsNormalRange parameter.1) own → AllByRecursion (λ (parameter : Parameter). IsNormalRange parameter.1) (ranges_renamed names own)
each-normal names [] each = tt
each-normal names (parameter ∷ own) each = (range-normal names parameter.1 each.0, each-normal names own each.1)

spares-mapped : (around own others : List Parameter) → ((variable : ℕ) → IsOther own variable → IsOther others variable) → Spares around own → Spares around others
spares-mapped [] own others h spares = record { others = tt; ranges = tt }
spares-mapped (parameter ∷ around) own others h spares =
    let rest = spares-mapped around own others h (record { others = spares.others.1; ranges = spares.ranges.1 }) in
    record { others = (h parameter.0 spares.others.0, rest.others); ranges = (range-mapped own others h parameter.1 spares.ranges.0, rest.ranges) }

no-names-renamed : (names : Names) (own : List Parameter) → AreNoNames names own → AreNoNames names (ranges_renamed names own)
no-names-renamed names [] free = tt
no-names-renamed names (parameter ∷ own) free = (free.0, no-names-renamed names own free.1)

own-renamed : (names : Names) (own all : List Parameter) → AreNoNames names all → AllByRecursion (λ (parameter : Parameter). RangeNamesOthers all parameter.1) own → AllByRecursion (λ (parameter : Parameter). RangeNamesOthers (ranges_renamed names all) parameter.1) (ranges_renamed names own)
own-renamed names [] all free each = tt
own-renamed names (parameter ∷ own) all free each =
    (range-mapped all (ranges_renamed names all) (other-renamed names all) (range_renamed names parameter.1) (range-other names all parameter.1 free each.0), own-renamed names own all free each.1)

fresh-renamed : (names : Names) (around other own : List Parameter) → AreNoNames names own → Carries names around other → AreFresh around own → AreFresh other (ranges_renamed names own)
fresh-renamed names around other own free carries fresh =
    let spares = spares-mapped other own (ranges_renamed names own) (other-renamed names own) (carries own free (record { others = fresh.others; ranges = fresh.outer_ranges })) in
    record { distinct = distinct-renamed names own fresh.distinct; normal = each-normal names own fresh.normal; others = spares.others; outer_ranges = spares.ranges; own_ranges = own-renamed names own own free fresh.own_ranges }

-- renamed parameters spare what the old ones do
behind-spared : (names : Names) (behind own : List Parameter) → AreNoNames names own → Spares behind own → Spares (ranges_renamed names behind) own
behind-spared names [] own free spares = record { others = tt; ranges = tt }
behind-spared names (parameter ∷ behind) own free spares =
    let rest = behind-spared names behind own free (record { others = spares.others.1; ranges = spares.ranges.1 }) in
    record { others = (spares.others.0, rest.others); ranges = (range-other names own parameter.1 free spares.ranges.0, rest.ranges) }

carries-renamed : (names : Names) (around other behind : List Parameter) → Carries names around other → Carries names (around ++ behind) (other ++ ranges_renamed names behind)
carries-renamed names around other behind carries own free spares =
    let parts = spares-parts around behind own spares in spares-both other (ranges_renamed names behind) own (carries own free parts.0) (behind-spared names behind own free parts.1)

-- ---- items

mutual
  pub fit-renamed : (names : Names) (kind : KindTree) (around other : List Parameter) → Carries names around other → KindSpares names kind → IsFit kind around → IsFit (kind_renamed names kind) other
  fit-renamed names (task code ins outs) around other carries free fit = (links-normal names ins fit.0, links-normal names outs fit.1)
  fit-renamed names (map_scope sequential parameters private body) around other carries free fit =
      (fresh-renamed names around other parameters free.0 carries fit.0, all-renamed names body (around ++ parameters) (other ++ ranges_renamed names parameters) (carries-renamed names around other parameters carries) free.1 fit.1)
  fit-renamed names (consume_scope source element private body) around other carries free fit = all-renamed names body around other carries free fit
  fit-renamed names (nested_graph inner links) around other carries free fit =
      (links-normal names links fit.0, graph-renamed names inner links fit.0 fit.1, alias-renamed names links (graph_uses inner) fit.2, arrays-renamed names links (graph_uses inner) fit.3)
  fit-renamed names (reduction resolution axis identity from to) around other carries free fit =
      (dims-normal names from.memlet.subset.dims fit.0, dims-normal names to.memlet.subset.dims fit.1, targets-renamed names axis from to fit.2)
  fit-renamed names (copy from to) around other carries free fit = (dims-normal names from.memlet.subset.dims fit.0, dims-normal names to.memlet.subset.dims fit.1)

  pub all-renamed : (names : Names) (items : ItemTrees) (around other : List Parameter) → Carries names around other → ItemsSpare names items → AreFit items around → AreFit (items_renamed names items) other
  all-renamed names no_item around other carries free fit = tt
  all-renamed names (and_item line kind items) around other carries free fit = (fit-renamed names kind around other carries free.0 fit.0, all-renamed names items around other carries free.1 fit.1)

-- ---- consume scopes

mutual
  pub accepted-renamed : (names : Names) (kind : KindTree) (containers : Containers) → HasAcceptedPools kind containers → HasAcceptedPools (kind_renamed names kind) containers
  accepted-renamed names (task code ins outs) containers h = tt
  accepted-renamed names (map_scope sequential parameters private body) containers h = all-accepted-renamed names body containers h
  accepted-renamed names (consume_scope source element private body) containers h =
      (subst (λ uses. IsConsumeAccepted (outside (element ∷ private) uses)) (sym (uses-renamed names body containers)) h.0, all-accepted-renamed names body containers h.1)
  accepted-renamed names (nested_graph inner links) containers h = h
  accepted-renamed names (reduction resolution axis identity from to) containers h = tt
  accepted-renamed names (copy from to) containers h = tt

  pub all-accepted-renamed : (names : Names) (items : ItemTrees) (containers : Containers) → HaveAcceptedPools items containers → HaveAcceptedPools (items_renamed names items) containers
  all-accepted-renamed names no_item containers h = tt
  all-accepted-renamed names (and_item line kind items) containers h = (accepted-renamed names kind containers h.0, all-accepted-renamed names items containers h.1)

mutual
  pub accepted-back : (names : Names) (kind : KindTree) (containers : Containers) → HasAcceptedPools (kind_renamed names kind) containers → HasAcceptedPools kind containers
  accepted-back names (task code ins outs) containers h = tt
  accepted-back names (map_scope sequential parameters private body) containers h = all-accepted-back names body containers h
  accepted-back names (consume_scope source element private body) containers h =
      (subst (λ uses. IsConsumeAccepted (outside (element ∷ private) uses)) (uses-renamed names body containers) h.0, all-accepted-back names body containers h.1)
  accepted-back names (nested_graph inner links) containers h = h
  accepted-back names (reduction resolution axis identity from to) containers h = tt
  accepted-back names (copy from to) containers h = tt

  pub all-accepted-back : (names : Names) (items : ItemTrees) (containers : Containers) → HaveAcceptedPools (items_renamed names items) containers → HaveAcceptedPools items containers
  all-accepted-back names no_item containers h = tt
  all-accepted-back names (and_item line kind items) containers h = (accepted-back names kind containers h.0, all-accepted-back names items containers h.1)
