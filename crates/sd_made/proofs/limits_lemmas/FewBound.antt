-- What has small expressions passes with sizes.
use Rattle.std.proofs.Common.{◌≡◌, ◌∙◌, ℕ, ◌^◌, ℤ, pos, List, [], ◌∷◌, map, length, Some, true, ◌&&◌, refl, sym, subst, arith}
use Rattle.std.specs.Prelude.{int_le, int_lt, ⊤}
use Rattle.std.specs.List.{AllByRecursion, list_all}
use Rattle.std.proofs.lemmas.Int.{ints}
use Rattle.std.proofs.lemmas.List.{length-map}
use Rattle.sd_range.specs.declared.affine.Affine.{Affine}
use Rattle.sd_range.specs.declared.range.Range.{Range}
use Rattle.sd_range.specs.declared.subset.Dim.{Dim}
use Rattle.sd_range.specs.declared.subset.Dim.TheVariants.{Index, Span}
use Rattle.sd_graph.specs.PlainTree as plain
use Rattle.sd_graph.specs.PlainTree.{KindTree}
use Rattle.sd_graph.specs.declared.link.Link.{Link}
use Rattle.sd_program.specs.Limits.{IsStep}
use Rattle.sd_valid.specs.BoundExpression.{bound_affine, bound_range, bound_dim, bound_link, bound_param}
use Rattle.sd_valid.specs.BoundTree.{bound_kind}
use Rattle.sd_validity.specs.rules.Parts.{is_range_passed, is_dim_passed, is_link_passed, are_links_passed, are_params_passed, is_kind_passed}
use Rattle.sd_validity.specs.rules.WithinLimits.{is_within, is_small}
use Rattle.sd_made.specs.limits.Expressions.{expression_tests}
use Rattle.sd_made.proofs.limits_lemmas.Near.{AreSizes, IsNear, near_bound}
use Rattle.sd_made.proofs.limits_lemmas.Few.{IsFewRange, IsFewDim, AreFewDims}

-- the dimensions of a link's subset
abbrev pub IsFewLink : Link → Type 0
IsFewLink link = AreFewDims link.memlet.subset.dims

abbrev pub AreFewLinks : List Link → Type 0
AreFewLinks links = AllByRecursion IsFewLink links

-- those of the links of an item, and the ranges of its parameters
abbrev pub HasFewDims : KindTree → Type 0
HasFewDims (plain.task code ins outs) = AreFewLinks ins × AreFewLinks outs
HasFewDims (plain.map_scope sequential params private body) = AllByRecursion (λ param. IsFewRange param.1) params
HasFewDims (plain.consume_scope stream element private body) = ⊤
HasFewDims (plain.nested_graph inner links) = AreFewLinks links
HasFewDims (plain.reduction resolution axis identity from to) = IsFewLink from × IsFewLink to
HasFewDims (plain.copy from to) = IsFewLink from × IsFewLink to

step_passed : (step : ℤ) → IsStep (Some step) → (int_le (pos 1) step && int_lt step (pos (2 ^ 40))) ≡ true
step_passed step (n, (same, (low, high))) =
    let first : int_le (pos 1) (pos n) ≡ true = grind (arith, ints, low) in
    let second : int_lt (pos n) (pos (2 ^ 40)) ≡ true = grind (arith, ints, high) in
    subst (λ step. (int_le (pos 1) step && int_lt step (pos (2 ^ 40))) ≡ true) (sym same) (rw (first, second) refl)

one_passed : (count : ℕ) → count ≡ 1 → is_within 1 4 count ≡ true
one_passed count same = subst (λ count. is_within 1 4 count ≡ true) (sym same) refl

module _ (sizes : List ℤ) (are : AreSizes sizes) where
  near_each : (ends : List Affine) → AllByRecursion IsNear ends → list_all is_small (map (bound_affine sizes) ends) ≡ true
  near_each [] all = refl
  near_each (end ∷ ends) all = rw (near_bound sizes are end all.0) (near_each ends all.1)

  range_passed : (range : Range) → IsFewRange range → is_range_passed expression_tests (bound_range sizes range) ≡ true
  range_passed range few =
      rw (one_passed (length (map (bound_affine sizes) range.ends)) (length-map range.ends (bound_affine sizes) ∙ few.one), step_passed range.step few.step, near_bound sizes are range.begin few.begin)
      (near_each range.ends few.ends)

  dim_passed : (dim : Dim) → IsFewDim dim → is_dim_passed expression_tests (bound_dim sizes dim) ≡ true
  dim_passed (Index at) few = near_bound sizes are at few
  dim_passed (Span range) few = range_passed range few

  dims_passed : (dims : List Dim) → AreFewDims dims → list_all (is_dim_passed expression_tests) (map (bound_dim sizes) dims) ≡ true
  dims_passed [] all = refl
  dims_passed (dim ∷ dims) all = rw (dim_passed dim all.0) (dims_passed dims all.1)

  link_passed : (link : Link) → IsFewLink link → is_link_passed expression_tests (bound_link sizes link) ≡ true
  link_passed link few = dims_passed link.memlet.subset.dims few

  pub links_passed : (links : List Link) → AreFewLinks links → are_links_passed expression_tests (map (bound_link sizes) links) ≡ true
  links_passed [] all = refl
  links_passed (link ∷ links) all = rw (link_passed link all.0) (links_passed links all.1)

  params_passed : (params : List (ℕ × Range)) → AllByRecursion (λ param. IsFewRange param.1) params → are_params_passed expression_tests (map (bound_param sizes) params) ≡ true
  params_passed [] all = refl
  params_passed (param ∷ params) all = rw (range_passed param.1 all.0) (params_passed params all.1)

  pub kind_passed : (kind : KindTree) → HasFewDims kind → is_kind_passed expression_tests (bound_kind sizes kind) ≡ true
  kind_passed (plain.task code ins outs) few = rw (links_passed ins few.0) (links_passed outs few.1)
  kind_passed (plain.map_scope sequential params private body) few = params_passed params few
  kind_passed (plain.consume_scope stream element private body) few = refl
  kind_passed (plain.nested_graph inner links) few = links_passed links few
  kind_passed (plain.reduction resolution axis identity from to) few = rw (link_passed from few.0) (link_passed to few.1)
  kind_passed (plain.copy from to) few = rw (link_passed from few.0) (link_passed to few.1)
