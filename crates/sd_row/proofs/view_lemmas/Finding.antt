-- Strides and numbers, one dimension after another.
use Rattle.std.proofs.Common.{◌≡◌, ◌⊎◌, inl, inr, ℕ, zero, suc, ◌+◌, ◌*◌, ◌<◌, ◌≤◌, ℤ, pos, List, [], ◌∷◌, ◌++◌, length, drop, get_or, slice_index_or, unsigned_abs, refl, sym, ap, ◌∙◌, subst, arith, add-one, drop-cons}
use Rattle.std.proofs.lemmas.Bool.{cases_lt}
use Rattle.std.proofs.lemmas.Int.{ints}
use Rattle.std.proofs.lemmas.List.{length-append}
use Rattle.std.proofs.Math.ListN.{drop_of_length-le}
use Rattle.sd_graph.specs.Context.{Context}
use Rattle.sd_graph.specs.declared.link.Link.{Link}
use Rattle.sd_row.specs.view.Places.{IsLast, unit_place, LeadsTo, AreStrides}
use Rattle.sd_row.specs.view.View.{along}
use Rattle.sd_row.proofs.view_lemmas.Box.{no_strides}

-- ---- numbers

none_left : {A : Type 0} (list : List A) (dim : ℕ) → length list ≤ dim → drop dim list ≡ []
none_left list dim h = drop_of_length-le list h

none_at : (list : List ℕ) (dim : ℕ) → length list ≤ dim → slice_index_or list dim 0 ≡ 0
none_at [] dim h = refl
none_at (first ∷ list) zero h = absurd (omega arith)
none_at (first ∷ list) (suc dim) h = none_at list dim (omega arith)

-- one dimension more
pub along_step : (number : ℕ) (strides : List ℕ) (at : List ℤ) (dim : ℕ) → dim < length at →
    along number (drop dim strides) (drop dim at) ≡ along (number + slice_index_or strides dim 0 * unsigned_abs (get_or at dim (pos 0))) (drop (dim + 1) strides) (drop (dim + 1) at)
along_step number strides at dim h = by_case (cases_lt dim (length strides))
  where
    by_case : (dim < length strides) ⊎ (length strides ≤ dim) →
        along number (drop dim strides) (drop dim at) ≡ along (number + slice_index_or strides dim 0 * unsigned_abs (get_or at dim (pos 0))) (drop (dim + 1) strides) (drop (dim + 1) at)
    by_case (inl low) = rw (drop-cons strides dim 0, drop-cons at dim (pos 0), add-one) refl
    by_case (inr high) =
        let size = unsigned_abs (get_or at dim (pos 0)) in
        let nothing : slice_index_or strides dim 0 * size ≡ 0 = ap (λ n. n * size) (none_at strides dim high) ∙ omega arith in
        ap (λ list. along number list (drop dim at)) (none_left strides dim high) ∙ no_strides number (drop dim at)
        ∙ omega (arith, nothing)
        ∙ sym (ap (λ list. along (number + slice_index_or strides dim 0 * size) list (drop (dim + 1) at)) (none_left strides (dim + 1) (omega arith))
        ∙ no_strides (number + slice_index_or strides dim 0 * size) (drop (dim + 1) at))

pub along_end : (number : ℕ) (strides : List ℕ) (at : List ℤ) (dim : ℕ) → length at ≤ dim → along number (drop dim strides) (drop dim at) ≡ number
along_end number strides at dim h = ap (along number (drop dim strides)) (none_left at dim h)

-- ---- strides

get_front : (list : List ℕ) (more dim : ℕ) → dim < length list → slice_index_or (list ++ more ∷ []) dim 0 ≡ slice_index_or list dim 0
get_front [] more dim h = absurd (omega arith)
get_front (first ∷ list) more zero h = refl
get_front (first ∷ list) more (suc dim) h = get_front list more dim (omega arith)

get_last : (list : List ℕ) (more : ℕ) → slice_index_or (list ++ more ∷ []) (length list) 0 ≡ more
get_last [] more = refl
get_last (first ∷ list) more = get_last list more

-- the stride of one dimension more
pub strides_more : (here : Context) (link : Link) (extents strides new : List ℕ) (first dim stride : ℕ) → length strides ≡ dim → new ≡ strides ++ stride ∷ [] → AreStrides here link extents strides first →
    (1 < slice_index_or extents dim 0 → LeadsTo here link (unit_place (length extents) dim) (first + stride)) → AreStrides here link extents new first
strides_more here link extents strides new first dim stride many is are leads other low more = by_dim (cases_lt other dim)
  where
    by_dim : (other < dim) ⊎ (dim ≤ other) → LeadsTo here link (unit_place (length extents) other) (first + slice_index_or new other 0)
    by_dim (inl before) =
        let there : other < length strides = omega (arith, before, many) in
        subst (λ (n : ℕ). LeadsTo here link (unit_place (length extents) other) (first + n)) (sym (ap (λ list. slice_index_or list other 0) is ∙ get_front strides stride other there)) (are other there more)
    by_dim (inr behind) =
        let longer : length new ≡ dim + 1 = ap length is ∙ length-append strides (stride ∷ []) ∙ omega (arith, many) in
        let same : other ≡ dim = omega (arith, behind, low, longer) in
        let value : slice_index_or new other 0 ≡ stride = ap (λ list. slice_index_or list other 0) is ∙ ap (λ d. slice_index_or (strides ++ stride ∷ []) d 0) (same ∙ sym many) ∙ get_last strides stride in
        subst (λ (n : ℕ). LeadsTo here link (unit_place (length extents) other) (first + n)) (sym value)
        (subst (λ (d : ℕ). LeadsTo here link (unit_place (length extents) d) (first + stride)) (sym same) (leads (subst (λ (d : ℕ). 1 < slice_index_or extents d 0) same more)))

-- a number that is one less
pub is_last : (extent last : ℕ) (value : ℤ) → last + 1 ≡ extent → value ≡ pos last → IsLast extent value
is_last extent last value less is = (omega (arith, ints, is, less), omega (arith, ints, is))

-- what is so much further
pub further_to : (here : Context) (link : Link) (at : List ℤ) (element first stride : ℕ) → element ≡ first + stride → LeadsTo here link at element → LeadsTo here link at (first + stride)
further_to here link at element first stride is leads = subst (λ (n : ℕ). LeadsTo here link at n) is leads
