-- Ranges within the limits are ranges, and links with such ranges in normal form are in normal form.
use Rattle.std.specs.List.{AllByRecursion, list_all}
use Rattle.std.specs.Ordering.{int_eq}
use Rattle.std.proofs.Common.{◌≡◌, ℕ, ◌^◌, nat_eq, nat_le, pos, int_le, int_lt, List, [], ◌∷◌, length, true, ◌&&◌, Option, Some, None, arith}
use Rattle.std.proofs.lemmas.Bool.Decides.{Decides-int_eq}
use Rattle.std.proofs.lemmas.Int.{ints}
use Rattle.sd_range.specs.Range.{IsRange}
use Rattle.sd_range.specs.declared.affine.Affine.{Affine}
use Rattle.sd_range.specs.declared.range.Range.{Range}
use Rattle.sd_range.specs.declared.subset.Dim.{Dim}
use Rattle.sd_range.specs.declared.subset.Dim.TheVariants.{Index, Span}
use Rattle.sd_subset.specs.boxes.InForce.{IsNormalRange}
use Rattle.sd_graph.specs.declared.link.Link.{Link}
use Rattle.sd_graph.specs.PlainTree.{GuardTree, ExitTree}
use Rattle.sd_graph.specs.ContainerParts.{Containers, container_at}
use Rattle.sd_safe.specs.normal.NormalForm.{IsRangeNormal, IsDimNormal, IsLinkNormal, AreLinksNormal, AreParamsNormal, IsConditionNormal, IsExitNormal}
use Rattle.sd_validity.specs.rules.Parts.{container_of, spans_of, link_spans, is_range_passed, is_dim_passed, is_link_passed, are_links_passed, are_params_passed, is_condition_passed, is_exit_passed}
use Rattle.sd_validity.specs.rules.Dimensions.{has_one_end, is_link_fitting, dimensions_tests}
use Rattle.sd_validity.specs.rules.WithinLimits.{is_within, is_range_small, limits_tests}
use Rattle.sd_validity.specs.rules.Shapes.{are_steps_one}
use Rattle.sd_race.specs.cover.Fit.{IsNormalDim, IsNormalLink, IsGuardFit, AreExitsFit}
use Rattle.sd_safe.proofs.fit_lemmas.Members.{both, each-passes-with}
use Rattle.sd_safe.proofs.fit_lemmas.Counts.{ArePlainSpans}

-- ---- limits

is_range : (r : Range) → is_range_small r ≡ true → IsRange r
is_range r is =
    let split = both (is_within 1 4 (length r.ends)) (int_le (pos 1) r.step && int_lt r.step (pos (2 ^ 40))) is in
    let ends = both (nat_le 1 (length r.ends)) (nat_le (length r.ends) 4) split.0 in
    let step = both (int_le (pos 1) r.step) (int_lt r.step (pos (2 ^ 40))) split.1 in
    record { ended = grind (arith, ends.0); few_ends = grind (arith, ends.1); rises = grind (arith, ints, step.0) }

normal_range : (r : Range) → is_range_passed limits_tests r ≡ true → IsRangeNormal r → IsNormalRange r
normal_range r is normal =
    let split = both (is_range_small r) (limits_tests.expression r.begin && list_all limits_tests.expression r.ends) is in
    record { range = is_range r split.0; begin = normal.0; ends = normal.1 }

normal_dim : (dim : Dim) → is_dim_passed limits_tests dim ≡ true → IsDimNormal dim → IsNormalDim dim
normal_dim (Index at) is normal = normal
normal_dim (Span r) is normal = normal_range r is normal

pub normal_link : (link : Link) → is_link_passed limits_tests link ≡ true → IsLinkNormal link → IsNormalLink link
normal_link link is normal =
    let split = both (limits_tests.link link) (list_all (is_dim_passed limits_tests) link.memlet.subset.dims) is in
    each-passes-with IsDimNormal IsNormalDim (is_dim_passed limits_tests) normal_dim link.memlet.subset.dims split.1 normal

pub normal_links : (links : List Link) → are_links_passed limits_tests links ≡ true → AreLinksNormal links → AllByRecursion IsNormalLink links
normal_links links is normal = each-passes-with IsLinkNormal IsNormalLink (is_link_passed limits_tests) normal_link links is normal

pub normal_params : (params : List (ℕ × Range)) → are_params_passed limits_tests params ≡ true → AreParamsNormal params → AllByRecursion (λ (param : ℕ × Range). IsNormalRange param.1) params
normal_params params is normal =
    each-passes-with (λ (param : ℕ × Range). IsRangeNormal param.1) (λ (param : ℕ × Range). IsNormalRange param.1) (λ (param : ℕ × Range). is_range_passed limits_tests param.1)
    (λ (param : ℕ × Range). normal_range param.1) params is normal

guard_fit : (when : Option GuardTree) → is_condition_passed limits_tests when ≡ true → IsConditionNormal when → IsGuardFit when
guard_fit None is normal = tt
guard_fit (Some guard) is normal = normal_links guard.reads (both (are_links_passed limits_tests guard.reads) (limits_tests.code guard.code) is).0 normal

pub exits_fit : (exits : List ExitTree) → list_all (is_exit_passed limits_tests) exits ≡ true → AllByRecursion IsExitNormal exits → AreExitsFit exits
exits_fit [] is normal = tt
exits_fit (exit ∷ exits) is normal =
    let split = both (is_exit_passed limits_tests exit) (list_all (is_exit_passed limits_tests) exits) is in
    let own = both (is_condition_passed limits_tests exit.when) (list_all (λ (assignment : ℕ × Affine). limits_tests.expression assignment.1) exit.set) split.0 in
    (guard_fit exit.when own.0 normal.0.0, exits_fit exits split.1 normal.1)

-- ---- one end and the step 1

plain-dims : (dims : List Dim) → AllByRecursion IsDimNormal dims → list_all has_one_end dims ≡ true → are_steps_one (spans_of dims) ≡ true → ArePlainSpans (spans_of dims)
plain-dims [] normal single steps = tt
plain-dims (Index at ∷ dims) normal single steps = plain-dims dims normal.1 single steps
plain-dims (Span r ∷ dims) normal single steps =
    let ends = both (nat_eq (length r.ends) 1) (list_all has_one_end dims) single in
    let step = both (int_eq r.step (pos 1)) (are_steps_one (spans_of dims)) steps in
    (record { normal = normal.0; single = ends.0; step = (Decides-int_eq r.step (pos 1)).0 step.0 }, plain-dims dims normal.1 ends.1 step.1)

pub plain-link : (containers : Containers) (link : Link) → IsLinkNormal link → is_link_passed (dimensions_tests containers) link ≡ true → are_steps_one (link_spans link) ≡ true → ArePlainSpans (link_spans link)
plain-link containers link normal is steps =
    let split = both (is_link_fitting containers link) (list_all (is_dim_passed (dimensions_tests containers)) link.memlet.subset.dims) is in
    let ends = both (nat_eq (length link.memlet.subset.dims) (length (container_at containers (container_of link)).extents)) (list_all has_one_end link.memlet.subset.dims) split.0 in
    plain-dims link.memlet.subset.dims normal ends.1 steps
