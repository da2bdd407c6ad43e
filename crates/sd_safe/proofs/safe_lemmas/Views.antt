-- A view of a container whose elements are found once finds its own once.
use Rattle.std.specs.List.{AllZip}
use Rattle.std.proofs.Common.{◌≡◌, ℕ, ℤ, ◌+ℤ◌, ◌*ℤ◌, List, [], ◌∷◌, refl, arith}
use Rattle.std.proofs.lemmas.Int.{ints}
use Rattle.sd_range.specs.Affine.{affine_value}
use Rattle.sd_range.specs.Subset.{inside}
use Rattle.sd_range.specs.declared.subset.Dim.{Dim}
use Rattle.sd_range.specs.declared.subset.Dim.TheVariants.{Index, Span}
use Rattle.sd_range.specs.declared.subset.Subset.{Subset}
use Rattle.sd_range.proofs.SubsetLaws.{IsWithin, inside-each}
use Rattle.sd_graph.specs.declared.container.Container.{Container}
use Rattle.sd_graph.specs.ContainerParts.{extents_of}
use Rattle.sd_graph.specs.Context.{Reach, index_at, view}
use Rattle.sd_race.specs.cover.Fit.{HasShape}
use Rattle.sd_race.proofs.cover_lemmas.Indices.{by_one}
use Rattle.sd_safe.specs.safe.Reached.{FindsOnce}
use Rattle.sd_safe.proofs.safe_lemmas.Rows.{found-where}

-- all indices of one-element extents are one
ones-one : (extents : List ℕ) (index other : List ℤ) → HasShape extents [] → AllZip IsWithin extents index → AllZip IsWithin extents other → index ≡ other
ones-one [] [] [] shape within within' = refl
ones-one [] [] (second ∷ other) shape within within' = absurd within'
ones-one [] (number ∷ index) other shape within within' = absurd within
ones-one (extent ∷ extents) [] other shape within within' = absurd within
ones-one (extent ∷ extents) (number ∷ index) [] shape within within' = absurd within'
ones-one (extent ∷ extents) (number ∷ index) (second ∷ other) shape within within' =
    let first : number ≡ second = omega (arith, ints, shape.0, within.0.0, within.0.1, within'.0.0, within'.0.1) in
    let rest = ones-one extents index other shape.1 within.1 within'.1 in
    λ i. first i ∷ rest i

-- the first of equal lists, and the others
same_first : (a b : ℤ) (as' bs : List ℤ) → (a ∷ as') ≡ (b ∷ bs) → a ≡ b
same_first a b as' bs same = cc

same_rest : (a b : ℤ) (as' bs : List ℤ) → (a ∷ as') ≡ (b ∷ bs) → as' ≡ bs
same_rest a b as' bs same = cc

-- different indices of a view have different composed indices
pub view-one : (extents : List ℕ) (dims : List Dim) (values index other : List ℤ) → HasShape extents dims → AllZip IsWithin extents index → AllZip IsWithin extents other →
    index_at dims values index ≡ index_at dims values other → index ≡ other
view-one [] [] values index other shape within within' same = ones-one [] index other shape within within'
view-one (extent ∷ extents) [] values index other shape within within' same = ones-one (extent ∷ extents) index other shape within within'
view-one [] (Index at ∷ dims) values index other shape within within' same = view-one [] dims values index other shape within within' (same_rest _ _ _ _ same)
view-one (extent ∷ extents) (Index at ∷ dims) values index other shape within within' same = view-one (extent ∷ extents) dims values index other shape within within' (same_rest _ _ _ _ same)
view-one [] (Span r ∷ dims) values index other shape within within' same = absurd shape
view-one (extent ∷ extents) (Span r ∷ dims) values [] other shape within within' same = absurd within
view-one (extent ∷ extents) (Span r ∷ dims) values (number ∷ index) [] shape within within' same = absurd within'
view-one (extent ∷ extents) (Span r ∷ dims) values (number ∷ index) (second ∷ other) shape within within' same =
    let begin = affine_value values r.begin in
    let here = by_one begin number r.step shape.0.step in
    let there = by_one begin second r.step shape.0.step in
    let first : number ≡ second = omega (arith, ints, here, there, same_first (begin +ℤ (r.step *ℤ number)) (begin +ℤ (r.step *ℤ second)) _ _ same) in
    let rest = view-one extents dims values index other shape.1 within.1 within'.1 (same_rest _ _ _ _ same) in
    λ i. first i ∷ rest i

-- a view of a container whose elements are found once finds its own once
pub finds_once-view : (container : Container) (subset : Subset) (values : List ℤ) (outer : Reach) → HasShape (extents_of container) subset.dims → FindsOnce outer → FindsOnce (view container subset values outer)
finds_once-view container subset values outer shape once index other element found found' =
    let extents = extents_of container in
    let here = found-where (inside extents index) (outer.find (index_at subset.dims values index)) element found in
    let there = found-where (inside extents other) (outer.find (index_at subset.dims values other)) element found' in
    view-one extents subset.dims values index other shape (inside-each extents index here.0) (inside-each extents other there.0)
    (once (index_at subset.dims values index) (index_at subset.dims values other) element here.1 there.1)
