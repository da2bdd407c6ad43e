-- A tasklet, a copy or a reduction does the same in contexts that are alike, and so does a transition.
use Rattle.std.proofs.Common.{◌≡◌, ℕ, ◌-◌, ◌<◌, nat_lt, ℤ, List, [], ◌∷◌, ◌++◌, map, length, Option, Some, None, option_map, Ok, Err, Bool, true, false, if◌then◌else◌, slice_get, refl, sym, ◌∙◌, ap, ap₂, subst}
use Rattle.std.specs.List.{AllByRecursion, flat_map, zip}
use Rattle.sd_num.specs.Wrapped.{wrapped}
use Rattle.sd_num.specs.declared.resolution.Resolution.{Resolution}
use Rattle.sd_range.specs.Affine.{affine_value, variable_value}
use Rattle.sd_range.specs.Points.{product}
use Rattle.sd_range.specs.Subset.{elements, whole}
use Rattle.sd_range.specs.declared.affine.Affine.{Affine}
use Rattle.sd_work.specs.Memory.{Reference}
use Rattle.sd_work.specs.Leaf.{Pending, write_value, transfer, push_to, doing, reading, copy_of, reduction_of, identities}
use Rattle.sd_graph.specs.PlainTree.{TaskletTree, GuardTree, ExitTree}
use Rattle.sd_graph.specs.ContainerParts.{container_at, is_stream}
use Rattle.sd_graph.specs.TaskletMeaning.{Effect, Meaning, and_then, meaning_of}
use Rattle.sd_range.specs.Variables.{with_variables}
use Rattle.sd_graph.specs.Context.{Reach, Context, reference_at, link_elements, link_element, link_extents, index_at}
use Rattle.sd_graph.specs.Unfold.{cut, meaning_at, pending_through, pending_by, pending_of, task_of, does_hold, guard_of, exit_of, target_place, reduction_pairs}
use Rattle.sd_graph.specs.declared.link.Link.{Link}
use Rattle.sd_alike.specs.alike.Lift.{Lift, level_in, access_in, pending_in, evaluated_in, leaf_in, reach_in}
use Rattle.sd_alike.specs.alike.SameWork.{AgreeBelow, AreGuardsSame, AreExitsSame}
use Rattle.sd_alike.specs.alike.Alike.{AffineBelow, LinkBelow, CodeBelow, GuardBelow, ExitBelow, AreAlike}
use Rattle.sd_alike.proofs.alike_lemmas.SameValues.{map_same, map_twice, member_has, affine_same, elements_same, spans_same, index_same, agree_all}

-- an element of a container
abbrev element_of : (level container : ℕ) → (element : ℕ) → Reference
element_of level container element = record { level = level; container = container; element = element }

-- an access through a reach
found_in : (lift : Lift) (level container : ℕ) (found : Option ℕ) →
    option_map (element_of (level_in lift level) container) found ≡ access_in lift (option_map (element_of level container) found)
found_in lift level container None = refl
found_in lift level container (Some element) = refl

reference_through : (lift : Lift) (reach : Reach) (index : List ℤ) → reference_at (reach_in lift reach) index ≡ access_in lift (reference_at reach index)
reference_through lift reach index = found_in lift reach.level reach.container (reach.find index)

module _ (lift : Lift) (count : ℕ) (context other : Context) (alike : AreAlike lift count context other) where
  pub elements_alike : (link : Link) → LinkBelow count link → link_elements other link ≡ map (access_in lift) (link_elements context link)
  elements_alike link below =
      ap₂ (λ reach indices. map (reference_at reach) indices) (alike.reach link.memlet.container) (elements_same count context.values other.values alike.values link.memlet.subset below)
      ∙ map_twice (reference_at (reach_in lift (context.reach link.memlet.container))) (access_in lift) (reference_at (context.reach link.memlet.container))
      (reference_through lift (context.reach link.memlet.container)) (elements link.memlet.subset context.values)

  pub element_alike : (link : Link) → LinkBelow count link → (at : List ℤ) → link_element other link at ≡ access_in lift (link_element context link at)
  element_alike link below at =
      ap₂ reference_at (alike.reach link.memlet.container) (index_same count context.values other.values alike.values link.memlet.subset.dims below at)
      ∙ reference_through lift (context.reach link.memlet.container) (index_at link.memlet.subset.dims context.values at)

  pub extents_alike : (link : Link) → LinkBelow count link → link_extents other link ≡ link_extents context link
  extents_alike link below = spans_same count context.values other.values alike.values link.memlet.subset.dims below

  map_append : {A B : Type 0} (f : A → B) (xs ys : List A) → map f (xs ++ ys) ≡ map f xs ++ map f ys
  map_append f [] ys = refl
  map_append f (x ∷ xs) ys = ap (λ zs. f x ∷ zs) (map_append f xs ys)

  pub reads_alike : (links : List Link) → AllByRecursion (LinkBelow count) links → flat_map (link_elements other) links ≡ map (access_in lift) (flat_map (link_elements context) links)
  reads_alike [] below = refl
  reads_alike (link ∷ links) below =
      ap₂ (λ first others. first ++ others) (elements_alike link below.0) (reads_alike links below.1)
      ∙ sym (map_append (access_in lift) (link_elements context link) (flat_map (link_elements context) links))

  all_extents_alike : (ins outs : List Link) → AllByRecursion (LinkBelow count) ins → AllByRecursion (LinkBelow count) outs → map (link_extents other) (ins ++ outs) ≡ map (link_extents context) (ins ++ outs)
  all_extents_alike [] outs below below_outs = map_same (LinkBelow count) (link_extents other) (link_extents context) extents_alike outs below_outs
  all_extents_alike (link ∷ ins) outs below below_outs = ap₂ (λ first others. first ∷ others) (extents_alike link below.0) (all_extents_alike ins outs below.1 below_outs)

  pub meaning_alike : (code : TaskletTree) (ins outs : List Link) → CodeBelow count code → AllByRecursion (LinkBelow count) ins → AllByRecursion (LinkBelow count) outs →
      (read : List ℤ) → meaning_at other code ins outs read ≡ meaning_at context code ins outs read
  meaning_alike code ins outs below_code below_ins below_outs read =
      let lengths : map {B = ℕ} (λ link. product (link_extents other link)) ins ≡ map (λ link. product (link_extents context link)) ins =
      map_same (LinkBelow count) (λ link. product (link_extents other link)) (λ link. product (link_extents context link)) (λ link below. ap product (extents_alike link below)) ins below_ins in
      let extents : map (link_extents other) (ins ++ outs) ≡ map (link_extents context) (ins ++ outs) = all_extents_alike ins outs below_ins below_outs in
      let variables : map {B = ℤ} (λ variable. wrapped (variable_value other.values variable)) code.variables ≡ map (λ variable. wrapped (variable_value context.values variable)) code.variables =
      map_same (λ variable. variable < count) _ _ (λ variable below. ap wrapped (alike.values variable below)) code.variables below_code in
      λ i. meaning_of code (record { values = cut (lengths i) read; extents = extents i; variables = variables i })

  chosen_alike : (pushes : Bool) (reach : Reach) (value : ℤ) (to : Option Reference) (by : Option Resolution) →
      (if pushes then push_to (level_in lift reach.level) reach.container value else write_value value (access_in lift to) by)
      ≡ pending_in lift (if pushes then push_to reach.level reach.container value else write_value value to by)
  chosen_alike true reach value to by = refl
  chosen_alike false reach value to by = refl

  through_alike : (link : Link) → LinkBelow count link → (effect : Effect) → pending_through other link effect ≡ pending_in lift (pending_through context link effect)
  through_alike link below effect =
      (λ i. if is_stream (container_at (alike.containers i) link.memlet.container).kind
      then push_to (alike.reach link.memlet.container i).level (alike.reach link.memlet.container i).container effect.value
      else write_value effect.value (element_alike link below effect.at i) link.memlet.resolution)
      ∙ chosen_alike (is_stream (container_at context.containers link.memlet.container).kind) (context.reach link.memlet.container) effect.value (link_element context link effect.at) link.memlet.resolution

  by_alike : (link : Option Link) → ((through : Link) → link ≡ Some through → LinkBelow count through) → (effect : Effect) → pending_by other link effect ≡ pending_in lift (pending_by context link effect)
  by_alike None below effect = refl
  by_alike (Some link) below effect = through_alike link (below link refl) effect

  -- an effect on an input's number has no link
  of_alike : (into : Bool) (ins outs : List Link) → AllByRecursion (LinkBelow count) outs → (effect : Effect) →
      (if into then pending_by other None effect else pending_by other (slice_get outs (effect.connector - length ins)) effect)
      ≡ pending_in lift (if into then pending_by context None effect else pending_by context (slice_get outs (effect.connector - length ins)) effect)
  of_alike true ins outs below effect = refl
  of_alike false ins outs below effect = by_alike (slice_get outs (effect.connector - length ins)) (member_has (LinkBelow count) outs (effect.connector - length ins) below) effect

  effects_alike : (ins outs : List Link) → AllByRecursion (LinkBelow count) outs → (effects : List Effect) →
      map (pending_of other ins outs) effects ≡ map (pending_in lift) (map (pending_of context ins outs) effects)
  effects_alike ins outs below effects =
      map_twice (pending_of other ins outs) (pending_in lift) (pending_of context ins outs) (λ effect. of_alike (nat_lt effect.connector (length ins)) ins outs below effect) effects

  evaluated_alike : (ins outs : List Link) → AllByRecursion (LinkBelow count) outs → (meant : Meaning (List Effect)) →
      and_then {B = List Pending} meant (λ effects. Ok (map (pending_of other ins outs) effects)) ≡ evaluated_in lift (and_then meant (λ effects. Ok (map (pending_of context ins outs) effects)))
  evaluated_alike ins outs below (Ok effects) = ap Ok (effects_alike ins outs below effects)
  evaluated_alike ins outs below (Err kind) = refl

  pub task_alike : (code : TaskletTree) (ins outs : List Link) → CodeBelow count code → AllByRecursion (LinkBelow count) ins → AllByRecursion (LinkBelow count) outs →
      task_of other code ins outs ≡ leaf_in lift (task_of context code ins outs)
  task_alike code ins outs below_code below_ins below_outs =
      let evaluated : (read : List ℤ) → and_then {B = List Pending} (meaning_at other code ins outs read) (λ effects. Ok (map (pending_of other ins outs) effects))
      ≡ evaluated_in lift (and_then (meaning_at context code ins outs read) (λ effects. Ok (map (pending_of context ins outs) effects))) =
      λ read. ap (λ meant. and_then {B = List Pending} meant (λ effects. Ok (map (pending_of other ins outs) effects))) (meaning_alike code ins outs below_code below_ins below_outs read)
      ∙ evaluated_alike ins outs below_outs (meaning_at context code ins outs read) in
      λ i. reading false (reads_alike ins below_ins i) [] (λ read. evaluated read i)

  -- ---- copies and reductions

  copied_alike : (froms tos : List (Option Reference)) →
      map {B = Pending} (λ pair. transfer pair.0 pair.1 None) (zip (map (access_in lift) froms) (map (access_in lift) tos)) ≡ map (pending_in lift) (map (λ pair. transfer pair.0 pair.1 None) (zip froms tos))
  copied_alike [] tos = refl
  copied_alike (from ∷ froms) [] = refl
  copied_alike (from ∷ froms) (to ∷ tos) = ap (λ others. transfer (access_in lift from) (access_in lift to) None ∷ others) (copied_alike froms tos)

  pub copy_alike : (from to : Link) → LinkBelow count from → LinkBelow count to →
      copy_of (zip (link_elements other from) (link_elements other to)) ≡ leaf_in lift (copy_of (zip (link_elements context from) (link_elements context to)))
  copy_alike from to below_from below_to =
      ap₂ (λ froms tos. copy_of (zip froms tos)) (elements_alike from below_from) (elements_alike to below_to) ∙ ap doing (copied_alike (link_elements context from) (link_elements context to))

  identities_alike : (identity : Option ℤ) (targets : List (Option Reference)) → identities identity (map (access_in lift) targets) ≡ map (pending_in lift) (identities identity targets)
  identities_alike None targets = refl
  identities_alike (Some value) [] = refl
  identities_alike (Some value) (target ∷ targets) = ap (λ others. write_value value (access_in lift target) None ∷ others) (identities_alike (Some value) targets)

  combined_alike : (resolution : Resolution) (pairs : List (Option Reference × Option Reference)) →
      map {B = Pending} (λ pair. transfer pair.0 pair.1 (Some resolution)) (map {B = Option Reference × Option Reference} (λ pair. (access_in lift pair.0, access_in lift pair.1)) pairs)
      ≡ map (pending_in lift) (map (λ pair. transfer pair.0 pair.1 (Some resolution)) pairs)
  combined_alike resolution [] = refl
  combined_alike resolution (pair ∷ pairs) = ap (λ others. transfer (access_in lift pair.0) (access_in lift pair.1) (Some resolution) ∷ others) (combined_alike resolution pairs)

  pairs_alike : (axis : Option ℕ) (from to : Link) → LinkBelow count from → LinkBelow count to →
      reduction_pairs other axis from to ≡ map (λ pair. (access_in lift pair.0, access_in lift pair.1)) (reduction_pairs context axis from to)
  pairs_alike axis from to below_from below_to =
      ap (λ extents. map {B = Option Reference × Option Reference} (λ at. (link_element other from at, link_element other to (target_place axis at))) (whole extents)) (extents_alike from below_from)
      ∙ map_twice {B = Option Reference × Option Reference} (λ at. (link_element other from at, link_element other to (target_place axis at))) (λ pair. (access_in lift pair.0, access_in lift pair.1)) (λ at. (link_element context from at, link_element context to (target_place axis at)))
      (λ at. λ i. (element_alike from below_from at i, element_alike to below_to (target_place axis at) i)) (whole (link_extents context from))

  pub reduction_alike : (resolution : Resolution) (axis : Option ℕ) (identity : Option ℤ) (from to : Link) → LinkBelow count from → LinkBelow count to →
      reduction_of resolution identity (link_elements other to) (reduction_pairs other axis from to)
      ≡ leaf_in lift (reduction_of resolution identity (link_elements context to) (reduction_pairs context axis from to))
  reduction_alike resolution axis identity from to below_from below_to =
      ap₂ (reduction_of resolution identity) (elements_alike to below_to) (pairs_alike axis from to below_from below_to)
      ∙ ap doing (ap₂ (λ first others. first ++ others) (identities_alike identity (link_elements context to)) (combined_alike resolution (reduction_pairs context axis from to))
      ∙ sym (map_append (pending_in lift) (identities identity (link_elements context to)) (map (λ pair. transfer pair.0 pair.1 (Some resolution)) (reduction_pairs context axis from to))))

  -- ---- transitions

  guard_alike : (when : Option GuardTree) → GuardBelow count when → AreGuardsSame lift (option_map (guard_of context) when) (option_map (guard_of other) when)
  guard_alike None below = tt
  guard_alike (Some guard) below = (
    reads_alike guard.reads below.0,
    λ i read. and_then {B = Bool} (meaning_alike guard.code guard.reads [] below.1 below.0 tt read i) (λ effects. Ok (does_hold effects)),
  )

  assigned_alike : (set : List (ℕ × Affine)) → AllByRecursion (λ assignment. AffineBelow count assignment.1) set →
      map {B = ℕ × ℤ} (λ assignment. (assignment.0, affine_value other.values assignment.1)) set ≡ map (λ assignment. (assignment.0, affine_value context.values assignment.1)) set
  assigned_alike [] below = refl
  assigned_alike (assignment ∷ set) below = ap₂ (λ value others. (assignment.0, value) ∷ others) (affine_same count context.values other.values alike.values assignment.1 below.0) (assigned_alike set below.1)

  pub exits_alike : (exits : List ExitTree) → AllByRecursion (ExitBelow count) exits → AreExitsSame lift count (map (exit_of context) exits) (map (exit_of other) exits)
  exits_alike [] below = tt
  exits_alike (exit ∷ exits) below = (
    record {
      when = guard_alike exit.when below.0.0;
      marked = refl;
      state = refl;
      values = subst (λ assignments. AgreeBelow count (with_variables (map (λ assignment. (assignment.0, affine_value context.values assignment.1)) exit.set) context.values) (with_variables assignments other.values))
          (sym (assigned_alike exit.set below.0.1))
          (agree_all count (map (λ assignment. (assignment.0, affine_value context.values assignment.1)) exit.set) context.values other.values alike.values);
    },
    exits_alike exits below.1,
  )
