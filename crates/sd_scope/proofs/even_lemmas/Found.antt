-- Elements at equal distances: those of a container, and those behind a view.
use Rattle.std.proofs.Common.{◌≡◌, ℕ, zero, suc, ◌≤◌, ℤ, pos, List, Option, Some, None, Bool, true, false, if◌then◌else◌, refl, ap, sym, ◌∙◌, arith}
use Rattle.sd_range.specs.declared.subset.Dim.{Dim}
use Rattle.sd_range.specs.Subset.{inside}
use Rattle.sd_range.specs.Variables.{with_variable}
use Rattle.sd_range.proofs.SubsetLaws.{inside-each}
use Rattle.sd_graph.specs.declared.container.Container.{Container}
use Rattle.sd_graph.specs.RowOrder.{row_number}
use Rattle.sd_graph.specs.ContainerParts.{extents_of}
use Rattle.sd_graph.specs.Context.{found, index_at}
use Rattle.sd_scope.specs.even.Even.{spaced, IsEven}
use Rattle.sd_scope.proofs.even_lemmas.Lines.{at_line, index_stays, subset_goes, values_stay, variable_goes}
use Rattle.sd_scope.proofs.even_lemmas.Distances.{spaced_first, one_distance}
use Rattle.sd_scope.proofs.even_lemmas.Between.{IsRow, row_goes, inside_between}

-- elements at indices that go are found at equal distances between two that are found
abbrev pub IsEvenAt : (find : List ℤ → Option ℕ) → (index : ℕ → List ℤ) → Type 0
IsEvenAt find index =
    (n a b : ℕ) → find (index 0) ≡ Some a → find (index n) ≡ Some b →
    (distance : ℤ) × (pos b ≡ spaced (pos a) distance n) × ((k : ℕ) → k ≤ n → (e : ℕ) × (find (index k) ≡ Some e) × (pos e ≡ spaced (pos a) distance k))

abbrev pub IsEvenOnLines : (find : List ℤ → Option ℕ) → Type 0
IsEvenOnLines find = (lines : List (ℤ × ℤ)) → IsEvenAt find (at_line lines)

-- what is found behind a test
tested : (test : Bool) (inner : Option ℕ) (element : ℕ) → (if test then inner else None) ≡ Some element → (test ≡ true) × (inner ≡ Some element)
tested true inner element is = (refl, is)
tested false inner element is = cc

passes : (test : Bool) (inner : Option ℕ) (element : ℕ) → test ≡ true → inner ≡ Some element → (if test then inner else None) ≡ Some element
passes test inner element is found = rw is found

-- an element of a container
abbrev pub element_inside : (extents : List ℕ) → (index : List ℤ) → Option ℕ
element_inside extents index = if inside extents index then Some (row_number extents index) else None

-- the number of what is found inside, on a row
on_row : (extents : List ℕ) (lines : List (ℤ × ℤ)) (row : IsRow extents lines) (k element : ℕ) → element_inside extents (at_line lines k) ≡ Some element →
    (inside extents (at_line lines k) ≡ true) × (pos element ≡ spaced row.0 row.1 k)
on_row extents lines row k element is =
    let there = tested (inside extents (at_line lines k)) (Some (row_number extents (at_line lines k))) element is in
    let same : row_number extents (at_line lines k) ≡ element = cc in
    (there.0, ap pos (sym same) ∙ row.2 k (inside-each extents (at_line lines k) there.0))

-- the elements of a row by its first one
from_first : (first step : ℤ) (a k : ℕ) → pos a ≡ spaced first step 0 → spaced first step k ≡ spaced (pos a) step k
from_first first step a k is = ap (λ begin. spaced begin step k) (sym (is ∙ spaced_first first step))

pub even_inside : (extents : List ℕ) → IsEvenOnLines (element_inside extents)
even_inside extents = λ lines n a b begins ends.
    let row = row_goes extents lines in
    let low = on_row extents lines row 0 a begins in
    let high = on_row extents lines row n b ends in (
      row.1,
      high.1 ∙ from_first row.0 row.1 a n low.1,
      λ k before.
          let between = inside_between extents lines k n before low.0 high.0 in (
            row_number extents (at_line lines k),
            passes (inside extents (at_line lines k)) (Some (row_number extents (at_line lines k))) (row_number extents (at_line lines k)) between refl,
            row.2 k (inside-each extents (at_line lines k) between) ∙ from_first row.0 row.1 a k low.1,
          ),
    )

-- at indices that are the same
even_same : (find : List ℤ → Option ℕ) (index other : ℕ → List ℤ) → ((k : ℕ) → index k ≡ other k) → IsEvenAt find other → IsEvenAt find index
even_same find index other same even = λ n a b begins ends.
    let all = even n a b (ap find (sym (same 0)) ∙ begins) (ap find (sym (same n)) ∙ ends) in
    (all.0, all.1, λ k before. let one = all.2 k before in (one.0, ap find (same k) ∙ one.1, one.2))

-- a view into a subset of what is found so
abbrev pub element_behind : (extents : List ℕ) → (dims : List Dim) → (values : List ℤ) → (find : List ℤ → Option ℕ) → (index : List ℤ) → Option ℕ
element_behind extents dims values find index = if inside extents index then find (index_at dims values index) else None

pub even_behind : (extents : List ℕ) (dims : List Dim) (values : List ℤ) (find : List ℤ → Option ℕ) → IsEvenOnLines find → IsEvenOnLines (element_behind extents dims values find)
even_behind extents dims values find even = λ lines n a b begins ends.
    let behind = λ (k : ℕ). index_at dims values (at_line lines k) in
    let image = subset_goes dims (λ k. values) (values_stay values) lines in
    let low = tested (inside extents (at_line lines 0)) (find (behind 0)) a begins in
    let high = tested (inside extents (at_line lines n)) (find (behind n)) b ends in
    let all = even_same find behind (at_line image.0) image.1 (even image.0) n a b low.1 high.1 in (
      all.0,
      all.1,
      λ k before.
          let one = all.2 k before in
          (one.0, passes (inside extents (at_line lines k)) (find (behind k)) one.0 (inside_between extents lines k n before low.0 high.0) one.1, one.2),
    )

-- what is even on lines is even in subsets
pub even_on_lines : (find : List ℤ → Option ℕ) → IsEvenOnLines find → IsEven find
even_on_lines find even = record {
  between = λ dims values variable begin step at n a b begins ends.
      let index = λ (k : ℕ). index_at dims (with_variable variable (spaced begin step k) values) at in
      let still = index_stays at in
      let image = subset_goes dims (λ k. with_variable variable (spaced begin step k) values) (variable_goes variable begin step values) still.0 in
      let same : (k : ℕ) → index k ≡ at_line image.0 k =
      λ k. ap (index_at dims (with_variable variable (spaced begin step k) values)) (still.1 k) ∙ image.1 k in
      let first : index 0 ≡ index_at dims (with_variable variable begin values) at = ap (λ number. index_at dims (with_variable variable number values) at) (spaced_first begin step) in
      even_same find index (at_line image.0) same (even image.0) n a b (ap find first ∙ begins) ends;
}

-- the elements of a container lie at equal distances
pub even_found : (container : Container) → IsEven (found container)
even_found container = even_on_lines (found container) (even_inside (extents_of container))

-- where the distance is known
pub even_by : (find : List ℤ → Option ℕ) → IsEven find → (dims : List Dim) (values : List ℤ) (variable : ℕ) (begin step : ℤ) (at : List ℤ) (n a b : ℕ) (distance : ℤ) →
    find (index_at dims (with_variable variable begin values) at) ≡ Some a →
    find (index_at dims (with_variable variable (spaced begin step n) values) at) ≡ Some b →
    pos b ≡ spaced (pos a) distance n →
    (k : ℕ) → k ≤ n → (e : ℕ) × (find (index_at dims (with_variable variable (spaced begin step k) values) at) ≡ Some e) × (pos e ≡ spaced (pos a) distance k)
even_by find even dims values variable begin step at zero a b distance begins ends is = λ k before.
    let first : k ≡ 0 = omega (arith, before) in
    let here : spaced begin step k ≡ begin = ap (spaced begin step) first ∙ spaced_first begin step in
    (a, ap (λ x. find (index_at dims (with_variable variable x values) at)) here ∙ begins, sym (ap (spaced (pos a) distance) first ∙ spaced_first (pos a) distance))
even_by find even dims values variable begin step at (suc n) a b distance begins ends is = λ k before.
    let all = even.between dims values variable begin step at (suc n) a b begins ends in
    let one = all.2 k before in
    let same : all.0 ≡ distance = one_distance (pos a) all.0 distance (suc n) (omega arith) (sym all.1 ∙ is) in
    (one.0, one.1, one.2 ∙ ap (λ step. spaced (pos a) step k) same)
