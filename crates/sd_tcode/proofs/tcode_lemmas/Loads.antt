-- What a frame is given, one number after another.
use Rattle.std.proofs.Common.{◌≡◌, ℕ, zero, suc, ◌+◌, ◌-◌, ◌<◌, ◌≤◌, min, ℤ, pos, List, [], ◌∷◌, length, map, get_or, take, drop, replicate, Bool, true, false, ◌==◌, if◌then◌else◌, refl, sym, ap, ◌∙◌, subst, arith}
use Rattle.std.specs.Prelude.{slice_index_or, slice_set}
use Rattle.std.proofs.lemmas.Bool.Decides.{nat_tests}
use Rattle.std.proofs.lemmas.List.{map-set, length-replicate, take-set-le, drop-set-add, drop-set-lt, take-replicate, drop-replicate}
use Rattle.std.proofs.Math.Seq.{take-set-lt}
use Rattle.sd_tcode.specs.op.Machine.{Held, held, extents_at, cells_at}
use Rattle.sd_tcode.specs.tcode.Held.{elements_in, zero_elements, zero_cells, given_by, with_element, with_extents, with_variable}
use Rattle.sd_tcode.specs.declared.op.array.Array.{Array}
use Rattle.sd_tcode.proofs.op_lemmas.Arrays.{cells_got}
use Rattle.sd_tcode.proofs.tcode_lemmas.Linked.{elements_same}

-- what arrays hold
pub extents_held : (arrays : List Array) → map (λ connector. connector.extents) (map held arrays) ≡ map (λ array. array.extents.items) arrays
extents_held [] = refl
extents_held (array ∷ arrays) = ap (λ rest. array.extents.items ∷ rest) (extents_held arrays)

pub cells_held : (arrays : List Array) → map (λ connector. connector.cells) (map held arrays) ≡ map (λ array. array.cells.items) arrays
cells_held [] = refl
cells_held (array ∷ arrays) = ap (λ rest. array.cells.items ∷ rest) (cells_held arrays)

-- what has a member is there
pub there_by_place : {A : Type 0} (lists : List (List A)) (connector at : ℕ) → at < length (slice_index_or lists connector []) → connector < length lists
there_by_place [] connector at h = absurd (omega arith)
there_by_place (first ∷ rest) zero at h = omega arith
there_by_place (first ∷ rest) (suc connector) at h = omega (arith, there_by_place rest connector at h)

pub elements_there : (arrays : List Held) (scalars : List ℤ) (connector : ℕ) → connector < length (elements_in arrays scalars) → (connector < length arrays) × (connector < length scalars)
elements_there [] scalars connector h = absurd (omega arith)
elements_there (array ∷ arrays) [] connector h = absurd (omega arith)
elements_there (array ∷ arrays) (value ∷ scalars) zero h = (omega arith, omega arith)
elements_there (array ∷ arrays) (value ∷ scalars) (suc connector) h =
    let low = elements_there arrays scalars connector (omega arith) in
    (omega (arith, low.0), omega (arith, low.1))

-- there are elements for each scalar that has an array
pub elements_many : (arrays : List Held) (scalars : List ℤ) → length (elements_in arrays scalars) ≡ min (length scalars) (length arrays)
elements_many [] scalars = omega arith
elements_many (array ∷ arrays) [] = omega arith
elements_many (array ∷ arrays) (value ∷ scalars) = omega (arith, elements_many arrays scalars)

pub elements_low : (arrays : List Held) (scalars : List ℤ) (connector at : ℕ) → at < length (slice_index_or (elements_in arrays scalars) connector []) → (connector < length arrays) × (connector < length scalars)
elements_low arrays scalars connector at h = elements_there arrays scalars connector (there_by_place (elements_in arrays scalars) connector at h)

one_value : (at : ℕ) (value new : ℤ) → at < 1 → new ∷ [] ≡ slice_set (value ∷ []) at new
one_value zero value new h = refl
one_value (suc at) value new h = absurd (omega arith)

-- a scalar
pub scalar_set : (arrays : List Held) (scalars : List ℤ) (connector at : ℕ) (new : ℤ) → length (extents_at arrays connector) ≡ 0 → at < length (slice_index_or (elements_in arrays scalars) connector []) →
    elements_in arrays (slice_set scalars connector new) ≡ slice_set (elements_in arrays scalars) connector (slice_set (slice_index_or (elements_in arrays scalars) connector []) at new)
scalar_set [] scalars connector at new e h = absurd (omega arith)
scalar_set (array ∷ arrays) [] connector at new e h = absurd (omega arith)
scalar_set (array ∷ arrays) (value ∷ scalars) zero at new e h = first_scalar (length array.extents) e h
  where
    first_scalar : (n : ℕ) → n ≡ 0 → at < length (if n == 0 then value ∷ [] else array.cells) →
        (if n == 0 then new ∷ [] else array.cells) ∷ elements_in arrays scalars ≡ slice_set (if n == 0 then value ∷ [] else array.cells) at new ∷ elements_in arrays scalars
    first_scalar zero e h = ap (λ l. l ∷ elements_in arrays scalars) (one_value at value new h)
    first_scalar (suc n) e h = absurd (omega (arith, e))
scalar_set (array ∷ arrays) (value ∷ scalars) (suc connector) at new e h = ap (λ l. (if length array.extents == 0 then value ∷ [] else array.cells) ∷ l) (scalar_set arrays scalars connector at new e h)

-- an element
pub cell_set : (arrays : List Held) (scalars : List ℤ) (connector at : ℕ) (value : ℤ) (new : Held) → new.extents ≡ extents_at arrays connector → new.cells ≡ slice_set (cells_at arrays connector) at value →
    0 < length (extents_at arrays connector) → elements_in (slice_set arrays connector new) scalars ≡ slice_set (elements_in arrays scalars) connector (slice_set (slice_index_or (elements_in arrays scalars) connector []) at value)
cell_set [] scalars connector at value new e g h = absurd (omega arith)
cell_set (array ∷ arrays) [] connector at value new e g h = by_place connector
  where
    by_place : (connector : ℕ) → elements_in (slice_set (array ∷ arrays) connector new) [] ≡ []
    by_place zero = refl
    by_place (suc connector) = refl
cell_set (array ∷ arrays) (scalar ∷ scalars) zero at value new e g h =
    let other : (length array.extents == 0) ≡ false = grind (arith, nat_tests) in
    let same : (length new.extents == 0) ≡ false = ap (λ l. length l == 0) e ∙ other in
    (λ i. (if same i then scalar ∷ [] else g i) ∷ elements_in arrays scalars) ∙ (λ i. slice_set (if sym other i then scalar ∷ [] else array.cells) at value ∷ elements_in arrays scalars)
cell_set (array ∷ arrays) (scalar ∷ scalars) (suc connector) at value new e g h = ap (λ l. (if length array.extents == 0 then scalar ∷ [] else array.cells) ∷ l) (cell_set arrays scalars connector at value new e g h)

-- the same extents
pub extents_kept : (arrays : List Held) (connector : ℕ) (new : Held) → new.extents ≡ extents_at arrays connector → map (λ array. array.extents) (slice_set arrays connector new) ≡ map (λ array. array.extents) arrays
extents_kept [] connector new e = refl
extents_kept (array ∷ arrays) zero new e = ap (λ l. l ∷ map (λ (array : Held). array.extents) arrays) e
extents_kept (array ∷ arrays) (suc connector) new e = ap (λ l. array.extents ∷ l) (extents_kept arrays connector new e)

-- extents of the same number
pub dims_kept : (arrays : List Array) (connector : ℕ) (new : Array) → length new.extents.items ≡ length (extents_at (map held arrays) connector) → map (λ array. length array.extents.items) (slice_set arrays connector new) ≡ map (λ array. length array.extents.items) arrays
dims_kept [] connector new e = refl
dims_kept (array ∷ arrays) zero new e = ap (λ n. n ∷ map (λ (array : Array). length array.extents.items) arrays) e
dims_kept (array ∷ arrays) (suc connector) new e = ap (λ l. length array.extents.items ∷ l) (dims_kept arrays connector new e)

-- extents of the same number leave the elements
pub elements_kept : (arrays : List Held) (scalars : List ℤ) (connector : ℕ) (new : Held) → length new.extents ≡ length (extents_at arrays connector) → new.cells ≡ cells_at arrays connector → elements_in (slice_set arrays connector new) scalars ≡ elements_in arrays scalars
elements_kept [] scalars connector new e g = refl
elements_kept (array ∷ arrays) [] connector new e g = by_place connector
  where
    by_place : (connector : ℕ) → elements_in (slice_set (array ∷ arrays) connector new) [] ≡ []
    by_place zero = refl
    by_place (suc connector) = refl
elements_kept (array ∷ arrays) (scalar ∷ scalars) zero new e g = (λ i. (if e i == 0 then scalar ∷ [] else g i) ∷ elements_in arrays scalars)
elements_kept (array ∷ arrays) (scalar ∷ scalars) (suc connector) new e g = ap (λ l. (if length array.extents == 0 then scalar ∷ [] else array.cells) ∷ l) (elements_kept arrays scalars connector new e g)

-- ---- zeros

pub zeros_elements : (arrays : List Held) (dims widest : List ℕ) (count : ℕ) → map (λ array. array.extents) arrays ≡ map (λ count. replicate count 0) dims → map (λ array. array.cells) arrays ≡ zero_cells dims widest → length widest ≡ count →
    elements_in arrays (replicate count (pos 0)) ≡ zero_elements dims widest
zeros_elements [] [] widest count e g h = refl
zeros_elements [] (dim ∷ dims) widest count e g h = cc
zeros_elements (array ∷ arrays) [] widest count e g h = cc
zeros_elements (array ∷ arrays) (dim ∷ dims) [] zero e g h = refl
zeros_elements (array ∷ arrays) (dim ∷ dims) [] (suc count) e g h = absurd (omega (arith, h))
zeros_elements (array ∷ arrays) (dim ∷ dims) (most ∷ widest) zero e g h = absurd (omega (arith, h))
zeros_elements (array ∷ arrays) (dim ∷ dims) (most ∷ widest) (suc count) e g h =
    let extents : array.extents ≡ replicate dim 0 = cc in
    let cells : array.cells ≡ (if dim == 0 then [] else replicate most (pos 0)) = cc in
    let rest : map (λ (array : Held). array.extents) arrays ≡ map (λ count. replicate count 0) dims = cc in
    let others : map (λ (array : Held). array.cells) arrays ≡ zero_cells dims widest = cc in
    let many : length array.extents ≡ dim = ap length extents ∙ length-replicate dim 0 in
    (λ i. (if many i == 0 then pos 0 ∷ [] else cells i) ∷ zeros_elements arrays dims widest count rest others (omega (arith, h)) i) ∙ ap (λ l. l ∷ zero_elements dims widest) (twice (dim == 0) (replicate most (pos 0)))
  where
    twice : (b : Bool) (l : List ℤ) → (if b then pos 0 ∷ [] else (if b then [] else l)) ≡ (if b then pos 0 ∷ [] else l)
    twice true l = refl
    twice false l = refl

pub zeros_dims : (arrays : List Array) (dims : List ℕ) → map (λ array. array.extents.items) arrays ≡ map (λ count. replicate count 0) dims → map (λ array. length array.extents.items) arrays ≡ dims
zeros_dims [] [] e = refl
zeros_dims [] (dim ∷ dims) e = cc
zeros_dims (array ∷ arrays) [] e = cc
zeros_dims (array ∷ arrays) (dim ∷ dims) e =
    let extents : array.extents.items ≡ replicate dim 0 = cc in
    let rest : map (λ (array : Array). array.extents.items) arrays ≡ map (λ count. replicate count 0) dims = cc in
    let many : length array.extents.items ≡ dim = ap length extents ∙ length-replicate dim 0 in
    (λ i. many i ∷ zeros_dims arrays dims rest i)

-- ---- what a frame is given after it was changed

pub variable_given : (inputs many : ℕ) (registers : List ℤ) (arrays : List Held) (variable : ℕ) (value : ℤ) → inputs + variable < many →
    given_by inputs (take many (slice_set registers (inputs + variable) value)) arrays ≡ with_variable (given_by inputs (take many registers) arrays) variable value
variable_given inputs many registers arrays variable value h =
    let fixed = take many registers in
    let moved : take many (slice_set registers (inputs + variable) value) ≡ slice_set fixed (inputs + variable) value = take-set-lt many registers (inputs + variable) value h in
    ap (λ l. given_by inputs l arrays) moved
    ∙ (λ i. record {
      values = elements_in arrays (take-set-le inputs fixed (inputs + variable) value (omega arith) i);
      extents = map (λ (array : Held). array.extents) arrays;
      variables = drop-set-add inputs fixed variable value i;
    })

pub scalar_given : (inputs many : ℕ) (registers : List ℤ) (arrays : List Held) (connector at : ℕ) (value : ℤ) → connector < inputs → inputs ≤ many → length (extents_at arrays connector) ≡ 0 →
    at < length (slice_index_or (elements_in arrays (take inputs (take many registers))) connector []) →
    given_by inputs (take many (slice_set registers connector value)) arrays ≡ with_element (given_by inputs (take many registers) arrays) connector at value
scalar_given inputs many registers arrays connector at value low few none h =
    let fixed = take many registers in
    let moved : take many (slice_set registers connector value) ≡ slice_set fixed connector value = take-set-lt many registers connector value (omega arith) in
    ap (λ l. given_by inputs l arrays) moved
    ∙ (λ i. record {
      values = (ap (elements_in arrays) (take-set-lt inputs fixed connector value low) ∙ scalar_set arrays (take inputs fixed) connector at value none h) i;
      extents = map (λ (array : Held). array.extents) arrays;
      variables = drop-set-lt inputs fixed connector value low i;
    })

pub cell_given : (inputs : ℕ) (fixed : List ℤ) (arrays : List Held) (connector at : ℕ) (value : ℤ) (new : Held) → new.extents ≡ extents_at arrays connector → new.cells ≡ slice_set (cells_at arrays connector) at value →
    0 < length (extents_at arrays connector) → given_by inputs fixed (slice_set arrays connector new) ≡ with_element (given_by inputs fixed arrays) connector at value
cell_given inputs fixed arrays connector at value new e g h = (λ i. record {
  values = cell_set arrays (take inputs fixed) connector at value new e g h i;
  extents = extents_kept arrays connector new e i;
  variables = drop inputs fixed;
})

pub extents_given : (inputs : ℕ) (fixed : List ℤ) (arrays : List Held) (connector : ℕ) (extents : List ℕ) (new : Held) → new.extents ≡ extents → length extents ≡ length (extents_at arrays connector) → new.cells ≡ cells_at arrays connector →
    given_by inputs fixed (slice_set arrays connector new) ≡ with_extents (given_by inputs fixed arrays) connector extents
extents_given inputs fixed arrays connector extents new is many cells = (λ i. record {
  values = elements_kept arrays (take inputs fixed) connector new (ap length is ∙ many) cells i;
  extents = (map-set (λ (array : Held). array.extents) arrays connector new ∙ ap (λ l. slice_set (map (λ (array : Held). array.extents) arrays) connector l) is) i;
  variables = drop inputs fixed;
})

pub zeros_given : (inputs variables registers : ℕ) (arrays : List Held) (dims widest : List ℕ) → inputs + variables ≤ registers → length widest ≡ inputs →
    map (λ array. array.extents) arrays ≡ map (λ count. replicate count 0) dims → map (λ array. array.cells) arrays ≡ zero_cells dims widest →
    given_by inputs (take (inputs + variables) (replicate registers (pos 0))) arrays ≡ record { values = zero_elements dims widest; extents = map (λ count. replicate count 0) dims; variables = replicate variables (pos 0) }
zeros_given inputs variables registers arrays dims widest few many e g =
    let fixed : take (inputs + variables) (replicate registers (pos 0)) ≡ replicate (inputs + variables) (pos 0) = take-replicate (inputs + variables) registers (pos 0) few in
    let rest : (inputs + variables) - inputs ≡ variables = omega arith in
    ap (λ l. given_by inputs l arrays) fixed
    ∙ (λ i. record {
      values = (ap (elements_in arrays) (take-replicate inputs (inputs + variables) (pos 0) (omega arith)) ∙ zeros_elements arrays dims widest inputs e g many) i;
      extents = e i;
      variables = (drop-replicate inputs (inputs + variables) (pos 0) ∙ ap (λ n. replicate n (pos 0)) rest) i;
    })

pub none_by_test : {n : ℕ} → (n == 0) ≡ true → n ≡ 0
none_by_test {n} h = grind (arith, nat_tests)

pub some_by_test : {n : ℕ} → (n == 0) ≡ false → 0 < n
some_by_test {n} h = grind (arith, nat_tests)

-- an element that is there is in the array
pub cell_there : (arrays : List Array) (scalars : List ℤ) (connector at : ℕ) (element : Array) → connector < length arrays → connector < length (map held arrays) → connector < length scalars → element ≡ get_or arrays connector element → 0 < length (extents_at (map held arrays) connector) →
    at < length (slice_index_or (elements_in (map held arrays) scalars) connector []) → at < length element.cells.items
cell_there arrays scalars connector at element low there less is some h =
    let test : (length (extents_at (map held arrays) connector) == 0) ≡ false = grind (arith, nat_tests) in
    let cells : element.cells.items ≡ cells_at (map held arrays) connector = ap (λ (a : Array). a.cells.items) is ∙ cells_got arrays connector element low in
    let elements : slice_index_or (elements_in (map held arrays) scalars) connector [] ≡ cells_at (map held arrays) connector =
    elements_same (map held arrays) scalars connector less there ∙ ap (λ b. if b then slice_index_or scalars connector (pos 0) ∷ [] else cells_at (map held arrays) connector) test in
    subst (λ l. at < length l) (elements ∙ sym cells) h
