-- Shapes beside extents, a number after another, and arrays beside containers.
use Rattle.std.proofs.Common.{◌≡◌, ◌⊎◌, inl, inr, ℕ, zero, suc, ◌+◌, ◌-◌, ◌*◌, ◌<◌, ◌≤◌, ◌==◌, ◌&&◌, ◌||◌, List, [], ◌∷◌, map, length, take, drop, get_or, slice_get, Bool, true, false, nat_eq, Option, Some, None, refl, ap, sym, ◌∙◌, arith, if◌then◌else◌, unsigned_abs, take_all, eqb-true, String, string_bytes}
use Rattle.std.specs.List.{starts_with}
use Rattle.std.specs.Option.{option_map_or}
use Rattle.std.specs.Cmp.Lexicographic.{same_text}
use Rattle.std.specs.declared.alloc.Global.{Global}
use Rattle.std.proofs.lemmas.Option.{same_Some}
use Rattle.std.proofs.lemmas.List.{drop_more, drop_all}
use Rattle.sd_range.specs.declared.affine.Affine.{Affine}
use Rattle.sd_range.specs.Points.{product}
use Rattle.sd_range.proofs.TupleLaws.{product-cons}
use Rattle.sd_graph.specs.TreeFold.{named_container}
use Rattle.sd_graph.specs.InPlace.{ArgumentsComeFirst}
use Rattle.sd_graph.specs.ContainerParts.{Containers, container_at, extents_of, is_argument}
use Rattle.sd_graph.specs.declared.container.Container.{Container}
use Rattle.sd_json.specs.Given.{IsFull}
use Rattle.sd_json.specs.GivenMemory.{ends_in_zero, fits, wrong_shape}
use Rattle.sd_json.specs.declared.array.Array.{Array}

-- a longer list begins no shorter one
pub longer_begins_none : (numbers shape : List ℕ) → length numbers < length shape → starts_with nat_eq numbers shape ≡ false
longer_begins_none numbers [] less = absurd (omega arith)
longer_begins_none [] (first ∷ shape) less = refl
longer_begins_none (number ∷ numbers) (first ∷ shape) less = by (nat_eq first number) (longer_begins_none numbers shape (omega arith))
  where
    by : (same : Bool) → starts_with nat_eq numbers shape ≡ false → (same && starts_with nat_eq numbers shape) ≡ false
    by true rest = rest
    by false rest = refl

abbrev constants : List Affine → List ℕ
constants extents = map (λ extent. unsigned_abs extent.constant) extents

-- one number more
pub begins_more : (extents : List Affine) (shape : List ℕ) (at : ℕ) (extent : Affine) (number : ℕ) → at < length shape → at < length extents →
    extent ≡ get_or extents at extent → number ≡ get_or shape at number →
    starts_with nat_eq (constants (drop at extents)) (drop at shape) ≡ (nat_eq number (unsigned_abs extent.constant) && starts_with nat_eq (constants (drop (at + 1) extents)) (drop (at + 1) shape))
begins_more extents shape at extent number inside within is same =
    let e : drop at extents ≡ extent ∷ drop (at + 1) extents = drop_more extents at extent within ∙ ap (λ x. x ∷ drop (at + 1) extents) (sym is) in
    let n : drop at shape ≡ number ∷ drop (at + 1) shape = drop_more shape at number inside ∙ ap (λ x. x ∷ drop (at + 1) shape) (sym same) in
    λ i. starts_with nat_eq (constants (e i)) (n i)

pub begins_at_end : (extents : List Affine) (shape : List ℕ) → starts_with nat_eq (constants (drop (length shape) extents)) (drop (length shape) shape) ≡ true
begins_at_end extents shape = ap (λ rest. starts_with nat_eq (constants (drop (length shape) extents)) rest) (drop_all (length shape) shape (omega arith)) ∙ refl

-- ---- arrays beside containers

pub none_wrong : (containers : Containers) → wrong_shape containers [] ≡ None
none_wrong [] = refl
none_wrong (container ∷ containers) = refl

-- no array is left
pub wrong_at_end : (containers : Containers) (arrays : List Array) (at : ℕ) → length arrays ≤ at → wrong_shape containers (drop at arrays) ≡ None
wrong_at_end containers arrays at past = ap (wrong_shape containers) (drop_all at arrays past) ∙ none_wrong containers

-- the next container and its array
pub wrong_more : (containers : Containers) (arrays : List Array) (at : ℕ) (container : List ℕ × Container) (here : Array) → at < length containers → at < length arrays →
    container ≡ get_or containers at container → here ≡ get_or arrays at here →
    wrong_shape (drop at containers) (drop at arrays) ≡ (if fits here.shape (extents_of container.1) then wrong_shape (drop (at + 1) containers) (drop (at + 1) arrays) else Some container.0)
wrong_more containers arrays at container here inside within is same =
    let e : drop at containers ≡ container ∷ drop (at + 1) containers = drop_more containers at container inside ∙ ap (λ x. x ∷ drop (at + 1) containers) (sym is) in
    let n : drop at arrays ≡ here ∷ drop (at + 1) arrays = drop_more arrays at here within ∙ ap (λ x. x ∷ drop (at + 1) arrays) (sym same) in
    λ i. wrong_shape (e i) (n i)

-- ---- containers by their numbers

pub named_at : (entries : List (String Global × Container)) (at : ℕ) (name : String Global) (container : Container) → Some (name, container) ≡ slice_get entries at →
    (at < length (map named_container entries)) × ((string_bytes name, container) ≡ get_or (map named_container entries) at (string_bytes name, container))
named_at [] at name container is = cc
named_at (entry ∷ entries) zero name container is = (omega arith, ap named_container (same_Some (name, container) entry is))
named_at (entry ∷ entries) (suc at) name container is = let rest = named_at entries at name container is in (omega (arith, rest.0), rest.1)

pub named_or : (entries : List (String Global × Container)) (at : ℕ) (name : String Global) (container : Container) (none : List ℕ × Container) → Some (name, container) ≡ slice_get entries at →
    get_or (map named_container entries) at none ≡ (string_bytes name, container)
named_or [] at name container none is = cc
named_or (entry ∷ entries) zero name container none is = sym (ap named_container (same_Some (name, container) entry is))
named_or (entry ∷ entries) (suc at) name container none is = named_or entries at name container none is

pub named_past : (entries : List (String Global × Container)) (at : ℕ) (none : List ℕ × Container) → None ≡ slice_get entries at → get_or (map named_container entries) at none ≡ none
named_past [] at none is = refl
named_past (entry ∷ entries) zero none is = cc
named_past (entry ∷ entries) (suc at) none is = named_past entries at none is

-- ---- full arguments

ends_more : (first second : ℕ) (others : List ℕ) → ends_in_zero (first ∷ second ∷ others) ≡ ends_in_zero (second ∷ others)
ends_more first second others =
    let at : length (first ∷ second ∷ others) - 1 ≡ suc (length (second ∷ others) - 1) = omega arith in
    ap (λ k. option_map_or (λ last. last == 0) (slice_get (first ∷ second ∷ others) k) false) at

both_true : (first second : Bool) → (first && second) ≡ true → (first ≡ true) × (second ≡ true)
both_true true second all = (refl, all)
both_true false second all = cc

zero_product : (first : ℕ) (others : List ℕ) → first ≡ 0 → product (first ∷ others) ≡ 0
zero_product first others none = product-cons first others ∙ ap (λ n. n * product others) none ∙ omega arith

product_zero : (first : ℕ) (others : List ℕ) → product others ≡ 0 → product (first ∷ others) ≡ 0
product_zero first others none = product-cons first others ∙ ap (λ n. first * n) none ∙ omega arith

-- extents that begin with a shape that ends in 0 have no elements
empty_extents : (extents shape : List ℕ) → starts_with nat_eq extents shape ≡ true → ends_in_zero shape ≡ true → product extents ≡ 0
empty_extents extents [] begins ends = cc
empty_extents [] (first ∷ shape) begins ends = cc
empty_extents (extent ∷ extents) (first ∷ []) begins ends =
    let same = both_true (nat_eq first extent) true begins in zero_product extent extents (sym (eqb-true first extent same.0) ∙ eqb-true first 0 ends)
empty_extents (extent ∷ extents) (first ∷ second ∷ shape) begins ends =
    let same = both_true (nat_eq first extent) (starts_with nat_eq extents (second ∷ shape)) begins in
    product_zero extent extents (empty_extents extents (second ∷ shape) same.1 (sym (ends_more first second shape) ∙ ends))

empty_shape : (shape : List ℕ) → ends_in_zero shape ≡ true → product shape ≡ 0
empty_shape [] ends = cc
empty_shape (first ∷ []) ends = zero_product first [] (eqb-true first 0 ends)
empty_shape (first ∷ second ∷ shape) ends = product_zero first (second ∷ shape) (empty_shape (second ∷ shape) (sym (ends_more first second shape) ∙ ends))

one_of_two : (first second : Bool) → (first || second) ≡ true → (first ≡ true) ⊎ (second ≡ true)
one_of_two true second some = inl refl
one_of_two false second some = inr some

-- a shape that fits has as many elements as the extents
fitting_product : (shape extents : List ℕ) → fits shape extents ≡ true → product shape ≡ product extents
fitting_product shape extents fit =
    let parts = both_true (starts_with nat_eq extents shape) ((length shape == length extents) || ends_in_zero shape) fit in
    by parts.0 (one_of_two (length shape == length extents) (ends_in_zero shape) parts.1)
  where
    by : starts_with nat_eq extents shape ≡ true → ((length shape == length extents) ≡ true) ⊎ (ends_in_zero shape ≡ true) → product shape ≡ product extents
    by begins (inl same) =
        let all : take (length shape) extents ≡ extents = take_all (length shape) extents (omega (arith, eqb-true (length shape) (length extents) same)) in
        ap product (same_text shape (take (length shape) extents) (sym begins) ∙ all)
    by begins (inr ends) = empty_shape shape ends ∙ sym (empty_extents extents shape begins ends)

right_first : (fit : Bool) (name : List ℕ) (rest : Option (List ℕ)) → (if fit then rest else Some name) ≡ None → (fit ≡ true) × (rest ≡ None)
right_first true name rest none = (refl, none)
right_first false name rest none = cc

-- arrays of the right shapes are as many elements as the arguments have
pub arguments_given : (containers : Containers) (arrays : List Array) → ArgumentsComeFirst (length arrays) containers → wrong_shape containers arrays ≡ None →
    ((k : ℕ) (d : Array) → k < length arrays → IsFull (get_or arrays k d)) → (number : ℕ) → is_argument (container_at containers number).kind ≡ true →
    length (get_or (map (λ a. a.elements) arrays) number []) ≡ product (extents_of (container_at containers number))
arguments_given [] arrays first none full number is = cc
arguments_given (container ∷ containers) [] first none full zero is = cc
arguments_given (container ∷ containers) [] first none full (suc number) is = arguments_given containers [] first.1 (none_wrong containers) full number is
arguments_given (container ∷ containers) (here ∷ arrays) first none full zero is =
    let right = right_first (fits here.shape (extents_of container.1)) container.0 (wrong_shape containers arrays) none in
    full 0 here (omega arith) ∙ fitting_product here.shape (extents_of container.1) right.0
arguments_given (container ∷ containers) (here ∷ arrays) first none full (suc number) is =
    let right = right_first (fits here.shape (extents_of container.1)) container.0 (wrong_shape containers arrays) none in
    arguments_given containers arrays first.1 right.1 (λ k d less. full (suc k) d (omega arith)) number is
