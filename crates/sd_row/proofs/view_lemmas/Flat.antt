-- Elements that are found in a flat way: between two that are found all are found, and sums of indices lead to sums of numbers.
use Rattle.std.proofs.Common.{◌≡◌, ℕ, ◌+◌, ◌*◌, ◌≤◌, ℤ, pos, negsuc, ◌+ℤ◌, ◌-ℤ◌, ◌*ℤ◌, ◌≤ℤ◌, List, [], ◌∷◌, Option, Some, None, Bool, true, false, if◌then◌else◌, unsigned_abs, slice_index_or, refl, sym, ap, ◌∙◌, subst, arith}
use Rattle.std.specs.List.{AllZip}
use Rattle.std.proofs.Math.Nat.{add-mul}
use Rattle.std.proofs.lemmas.Int.{ints}
use Rattle.sd_range.specs.declared.subset.Dim.{Dim}
use Rattle.sd_range.specs.declared.subset.Dim.TheVariants.{Index, Span}
use Rattle.sd_range.specs.Affine.{affine_value}
use Rattle.sd_range.specs.Points.{product}
use Rattle.sd_range.specs.Subset.{inside}
use Rattle.sd_range.proofs.SubsetLaws.{IsWithin, inside-each, inside-from_each}
use Rattle.sd_num.proofs.Products.{*ℤ_distrib_left}
use Rattle.sd_graph.specs.RowOrder.{row_number}
use Rattle.sd_graph.specs.ContainerParts.{Containers, container_at, extents_of}
use Rattle.sd_graph.specs.Context.{index_at}
use Rattle.sd_graph.specs.PlainTree.{GraphTree}
use Rattle.sd_graph.specs.TreeParts.{containers_of}
use Rattle.sd_scope.specs.declared.scope.base.View.{View}
use Rattle.sd_scope.specs.declared.scope.base.Way.{Way}
use Rattle.sd_scope.specs.declared.scope.base.Base.{Base}
use Rattle.sd_scope.specs.declared.scope.scope.Scope.{Scope}
use Rattle.sd_scope.specs.scope.Standing.{context_of, found_through, reach_by, reach_from, reach_of}
use Rattle.sd_scope.specs.even.Even.{spaced}
use Rattle.sd_scope.proofs.even_lemmas.Distances.{spaced_first, spaced_product, not_below_between, not_above_between}

-- ---- indices between two others

-- a number on a way of equal steps from one to another one
abbrev IsOn : (first last number : ℤ) → Type 0
IsOn first last number = (step : ℤ) × (n : ℕ) × (k : ℕ) × (k ≤ n) × (last ≡ spaced first step n) × (number ≡ spaced first step k)

-- each number of an index is
abbrev pub IsBetween : (first last at : List ℤ) → Type 0
IsBetween [] [] [] = Unit {0}
IsBetween [] [] (number ∷ at) = ⊥
IsBetween [] (b ∷ last) at = ⊥
IsBetween (a ∷ first) [] at = ⊥
IsBetween (a ∷ first) (b ∷ last) [] = ⊥
IsBetween (a ∷ first) (b ∷ last) (number ∷ at) = IsOn a b number × IsBetween first last at

within_between : (extent : ℕ) (first step : ℤ) (k n : ℕ) → k ≤ n → IsWithin extent first → IsWithin extent (spaced first step n) → IsWithin extent (spaced first step k)
within_between extent first step k n before low high =
    let last = pos extent -ℤ pos 1 in
    let begins : first ≤ℤ last = omega (arith, ints, low) in
    let ends : spaced first step n ≤ℤ last = omega (arith, ints, high) in
    let within : spaced first step k ≤ℤ last = not_above_between last first step k n before begins ends in
    (not_below_between (pos 0) first step k n before low.0 high.0, omega (arith, ints, within))

within_on : (extent : ℕ) (a b number : ℤ) → IsOn a b number → IsWithin extent a → IsWithin extent b → IsWithin extent number
within_on extent a b number (step, n, k, before, ends, at) low high =
    subst (IsWithin extent) (sym at) (within_between extent a step k n before low (subst (IsWithin extent) ends high))

each_within : (extents : List ℕ) (first last at : List ℤ) → IsBetween first last at → AllZip IsWithin extents first → AllZip IsWithin extents last → AllZip IsWithin extents at
each_within [] [] [] [] between low high = tt
each_within [] [] [] (number ∷ at) between low high = absurd between
each_within [] [] (b ∷ last) at between low high = absurd high
each_within [] (a ∷ first) last at between low high = absurd low
each_within (extent ∷ extents) [] last at between low high = absurd low
each_within (extent ∷ extents) (a ∷ first) [] at between low high = absurd high
each_within (extent ∷ extents) (a ∷ first) (b ∷ last) [] between low high = absurd between
each_within (extent ∷ extents) (a ∷ first) (b ∷ last) (number ∷ at) between low high =
    (within_on extent a b number between.0 low.0 high.0, each_within extents first last at between.1 low.1 high.1)

still_on : (number : ℤ) → IsOn number number number
still_on number = (pos 0, 0, 0, omega arith, sym (spaced_first number (pos 0)), sym (spaced_first number (pos 0)))

image_on : (begin factor a step x : ℤ) (k : ℕ) → x ≡ spaced a step k → begin +ℤ (factor *ℤ x) ≡ spaced (begin +ℤ (factor *ℤ a)) (factor *ℤ step) k
image_on begin factor a step x k is = ap (λ x. begin +ℤ (factor *ℤ x)) is ∙ ap (λ y. begin +ℤ y) (spaced_product factor a step k) ∙ omega (arith, ints)

moved_on : (begin factor a b number : ℤ) → IsOn a b number → IsOn (begin +ℤ (factor *ℤ a)) (begin +ℤ (factor *ℤ b)) (begin +ℤ (factor *ℤ number))
moved_on begin factor a b number (step, n, k, before, ends, at) =
    (factor *ℤ step, n, k, before, image_on begin factor a step b n ends, image_on begin factor a step number k at)

index_between : (dims : List Dim) (values first last at : List ℤ) → IsBetween first last at → IsBetween (index_at dims values first) (index_at dims values last) (index_at dims values at)
index_between [] values first last at between = tt
index_between (Index number ∷ dims) values first last at between = (still_on (affine_value values number), index_between dims values first last at between)
index_between (Span range ∷ dims) values [] [] [] between = (still_on (affine_value values range.begin), index_between dims values [] [] [] tt)
index_between (Span range ∷ dims) values [] [] (number ∷ at) between = absurd between
index_between (Span range ∷ dims) values [] (b ∷ last) at between = absurd between
index_between (Span range ∷ dims) values (a ∷ first) [] at between = absurd between
index_between (Span range ∷ dims) values (a ∷ first) (b ∷ last) [] between = absurd between
index_between (Span range ∷ dims) values (a ∷ first) (b ∷ last) (number ∷ at) between =
    (moved_on (affine_value values range.begin) range.step a b number between.0, index_between dims values first last at between.1)

-- ---- indices with the same sums

abbrev pub IsLevel : (a b c d : List ℤ) → Type 0
IsLevel [] [] [] [] = Unit {0}
IsLevel [] [] [] (w ∷ d) = ⊥
IsLevel [] [] (z ∷ c) d = ⊥
IsLevel [] (y ∷ b) c d = ⊥
IsLevel (x ∷ a) [] c d = ⊥
IsLevel (x ∷ a) (y ∷ b) [] d = ⊥
IsLevel (x ∷ a) (y ∷ b) (z ∷ c) [] = ⊥
IsLevel (x ∷ a) (y ∷ b) (z ∷ c) (w ∷ d) = (x +ℤ y ≡ z +ℤ w) × IsLevel a b c d

image_level : (begin factor x y z w : ℤ) → x +ℤ y ≡ z +ℤ w →
    (begin +ℤ (factor *ℤ x)) +ℤ (begin +ℤ (factor *ℤ y)) ≡ (begin +ℤ (factor *ℤ z)) +ℤ (begin +ℤ (factor *ℤ w))
image_level begin factor x y z w same =
    omega (arith, ints, *ℤ_distrib_left factor x y, *ℤ_distrib_left factor z w, ap (λ sum. factor *ℤ sum) same)

index_level : (dims : List Dim) (values a b c d : List ℤ) → IsLevel a b c d → IsLevel (index_at dims values a) (index_at dims values b) (index_at dims values c) (index_at dims values d)
index_level [] values a b c d level = tt
index_level (Index number ∷ dims) values a b c d level = (refl, index_level dims values a b c d level)
index_level (Span range ∷ dims) values [] [] [] [] level = (refl, index_level dims values [] [] [] [] tt)
index_level (Span range ∷ dims) values [] [] [] (w ∷ d) level = absurd level
index_level (Span range ∷ dims) values [] [] (z ∷ c) d level = absurd level
index_level (Span range ∷ dims) values [] (y ∷ b) c d level = absurd level
index_level (Span range ∷ dims) values (x ∷ a) [] c d level = absurd level
index_level (Span range ∷ dims) values (x ∷ a) (y ∷ b) [] d level = absurd level
index_level (Span range ∷ dims) values (x ∷ a) (y ∷ b) (z ∷ c) [] level = absurd level
index_level (Span range ∷ dims) values (x ∷ a) (y ∷ b) (z ∷ c) (w ∷ d) level =
    (image_level (affine_value values range.begin) range.step x y z w level.0, index_level dims values a b c d level.1)

natural : (number : ℤ) → pos 0 ≤ℤ number → pos (unsigned_abs number) ≡ number
natural (pos number) low = refl
natural (negsuc number) low = absurd (omega (arith, ints, low))

-- rows of so many with the same sums
rows_level : (rows x y z w a b c d : ℕ) → x + y ≡ z + w → a + b ≡ c + d → (x * rows + a) + (y * rows + b) ≡ (z * rows + c) + (w * rows + d)
rows_level rows x y z w a b c d first rest = omega (arith, rest, ap (λ n. n * rows) first, add-mul x y rows, add-mul z w rows)

row_level : (extents : List ℕ) (a b c d : List ℤ) → IsLevel a b c d → AllZip IsWithin extents a → AllZip IsWithin extents b → AllZip IsWithin extents c → AllZip IsWithin extents d →
    row_number extents a + row_number extents b ≡ row_number extents c + row_number extents d
row_level [] a b c d level in_a in_b in_c in_d = refl
row_level (extent ∷ extents) [] b c d level in_a in_b in_c in_d = absurd in_a
row_level (extent ∷ extents) (x ∷ a) [] c d level in_a in_b in_c in_d = absurd in_b
row_level (extent ∷ extents) (x ∷ a) (y ∷ b) [] d level in_a in_b in_c in_d = absurd in_c
row_level (extent ∷ extents) (x ∷ a) (y ∷ b) (z ∷ c) [] level in_a in_b in_c in_d = absurd in_d
row_level (extent ∷ extents) (x ∷ a) (y ∷ b) (z ∷ c) (w ∷ d) level in_a in_b in_c in_d =
    let numbers : unsigned_abs x + unsigned_abs y ≡ unsigned_abs z + unsigned_abs w =
    omega (arith, ints, level.0, natural x in_a.0.0, natural y in_b.0.0, natural z in_c.0.0, natural w in_d.0.0) in
    rows_level (product extents) (unsigned_abs x) (unsigned_abs y) (unsigned_abs z) (unsigned_abs w) (row_number extents a) (row_number extents b) (row_number extents c) (row_number extents d)
    numbers (row_level extents a b c d level.1 in_a.1 in_b.1 in_c.1 in_d.1)

-- ---- elements

-- a flat way to find elements
pub record IsFlat (find : List ℤ → Option ℕ) : Type 0 where
  pub convex : (first last at : List ℤ) (a b : ℕ) → IsBetween first last at → find first ≡ Some a → find last ≡ Some b → (e : ℕ) × (find at ≡ Some e)
  pub level : (x y z w : List ℤ) (a b c d : ℕ) → IsLevel x y z w → find x ≡ Some a → find y ≡ Some b → find z ≡ Some c → find w ≡ Some d → a + b ≡ c + d

-- what is found behind a test
tested : (test : Bool) (inner : Option ℕ) (element : ℕ) → (if test then inner else None) ≡ Some element → (test ≡ true) × (inner ≡ Some element)
tested true inner element is = (refl, is)
tested false inner element is = cc

passes : (test : Bool) (inner : Option ℕ) (element : ℕ) → test ≡ true → inner ≡ Some element → (if test then inner else None) ≡ Some element
passes test inner element is found = rw is found

-- an element of a container
abbrev element_inside : (extents : List ℕ) → (index : List ℤ) → Option ℕ
element_inside extents index = if inside extents index then Some (row_number extents index) else None

number_of : (extents : List ℕ) (index : List ℤ) (element : ℕ) → element_inside extents index ≡ Some element → AllZip IsWithin extents index × (row_number extents index ≡ element)
number_of extents index element is =
    let there = tested (inside extents index) (Some (row_number extents index)) element is in
    (inside-each extents index there.0, same (row_number extents index) element there.1)
  where
    same : (a b : ℕ) → Some a ≡ Some b → a ≡ b
    same a b is = cc

flat_inside : (extents : List ℕ) → IsFlat (element_inside extents)
flat_inside extents = record {
  convex = λ first last at a b between begins ends. (
    row_number extents at,
    passes (inside extents at) (Some (row_number extents at)) (row_number extents at)
        (inside-from_each extents at (each_within extents first last at between (number_of extents first a begins).0 (number_of extents last b ends).0)) refl,
  );
  level = λ x y z w a b c d level at_x at_y at_z at_w.
      let i = number_of extents x a at_x in
      let j = number_of extents y b at_y in
      let k = number_of extents z c at_z in
      let l = number_of extents w d at_w in
      let sums = row_level extents x y z w level i.0 j.0 k.0 l.0 in
      omega (arith, sums, i.1, j.1, k.1, l.1);
}

-- a view into a subset of what is found so
flat_behind : (extents : List ℕ) (dims : List Dim) (values : List ℤ) (find : List ℤ → Option ℕ) → IsFlat find → IsFlat (λ index. if inside extents index then find (index_at dims values index) else None)
flat_behind extents dims values find flat = record {
  convex = λ first last at a b between begins ends.
      let low = tested (inside extents first) (find (index_at dims values first)) a begins in
      let high = tested (inside extents last) (find (index_at dims values last)) b ends in
      let here = flat.convex (index_at dims values first) (index_at dims values last) (index_at dims values at) a b (index_between dims values first last at between) low.1 high.1 in (
        here.0,
        passes (inside extents at) (find (index_at dims values at)) here.0
            (inside-from_each extents at (each_within extents first last at between (inside-each extents first low.0) (inside-each extents last high.0))) here.1,
      );
  level = λ x y z w a b c d level at_x at_y at_z at_w.
      flat.level (index_at dims values x) (index_at dims values y) (index_at dims values z) (index_at dims values w) a b c d (index_level dims values x y z w level)
      (tested (inside extents x) (find (index_at dims values x)) a at_x).1 (tested (inside extents y) (find (index_at dims values y)) b at_y).1
      (tested (inside extents z) (find (index_at dims values z)) c at_z).1 (tested (inside extents w) (find (index_at dims values w)) d at_w).1;
}

flat_through : (views : List View) (extents : List ℕ) → IsFlat (found_through views extents)
flat_through [] extents = flat_inside extents
flat_through (view ∷ views) extents = flat_behind view.extents view.subset.dims view.values (found_through views extents) (flat_through views extents)

flat_by_way : (depth : ℕ) (containers : Containers) (number : ℕ) (way : Option Way) → IsFlat (reach_by depth containers number way).find
flat_by_way depth containers number None = flat_inside (extents_of (container_at containers number))
flat_by_way depth containers number (Some way) = flat_through way.views way.extents

flat_from : (private : Option ℕ) (depth : ℕ) (containers : Containers) (number : ℕ) (way : Option Way) → IsFlat (reach_from private depth containers number way).find
flat_from (Some level) depth containers number way = flat_inside (extents_of (container_at containers number))
flat_from None depth containers number way = flat_by_way depth containers number way

-- containers are reached so from where a scope stands
pub flat_standing : (tree : GraphTree) (base : Base) (scope : Scope) (number : ℕ) → IsFlat ((context_of tree base scope).reach number).find
flat_standing tree base scope number =
    flat_from (slice_index_or scope.privates number None) scope.depth (containers_of tree) number (slice_index_or base.ways number None)

-- elements at the places of a subset
pub flat_places : (find : List ℤ → Option ℕ) (dims : List Dim) (values : List ℤ) → IsFlat find → IsFlat (λ at. find (index_at dims values at))
flat_places find dims values flat = record {
  convex = λ first last at a b between begins ends.
      flat.convex (index_at dims values first) (index_at dims values last) (index_at dims values at) a b (index_between dims values first last at between) begins ends;
  level = λ x y z w a b c d level at_x at_y at_z at_w.
      flat.level (index_at dims values x) (index_at dims values y) (index_at dims values z) (index_at dims values w) a b c d (index_level dims values x y z w level) at_x at_y at_z at_w;
}

-- elements behind a first number
pub flat_front : (find : List ℤ → Option ℕ) (number : ℤ) → IsFlat find → IsFlat (λ at. find (number ∷ at))
flat_front find number flat = record {
  convex = λ first last at a b between begins ends. flat.convex (number ∷ first) (number ∷ last) (number ∷ at) a b (still_on number, between) begins ends;
  level = λ x y z w a b c d level at_x at_y at_z at_w. flat.level (number ∷ x) (number ∷ y) (number ∷ z) (number ∷ w) a b c d (refl, level) at_x at_y at_z at_w;
}

-- from 0 on
pub counted_on : (number last : ℕ) → number ≤ last → IsOn (pos 0) (pos last) (pos number)
counted_on number last before = (pos 1, last, number, before, counted last, counted number)
  where
    counted : (k : ℕ) → pos k ≡ spaced (pos 0) (pos 1) k
    counted k = grind (arith, ints)
