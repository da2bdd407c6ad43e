-- In a bound graph no size symbol is left, and every extent is a constant.
use Rattle.std.proofs.Common.{◌≡◌, ℕ, ◌<◌, ◌≤◌, nat_lt, ℤ, List, [], ◌∷◌, map, length, Bool, true, false, not, ◌&&◌, if◌then◌else◌, cond, Option, Some, None, option_map, slice_index_or, refl, sym, subst, arith}
use Rattle.std.specs.Prelude.{⊤}
use Rattle.std.specs.List.{AllByRecursion, list_all}
use Rattle.sd_range.specs.Affine.{variable_value}
use Rattle.sd_range.specs.declared.affine.Affine.{Affine}
use Rattle.sd_range.specs.declared.range.Range.{Range}
use Rattle.sd_range.specs.declared.subset.Dim.{Dim}
use Rattle.sd_range.specs.declared.subset.Dim.TheVariants.{Index, Span}
use Rattle.sd_graph.specs.PlainTree.{ValueTree, literal, variable, local, input, one, two, choice, ValueTrees, no_value, and_value, ActTree, set_local, assign, branch, ActTrees, no_act, and_act, TaskletTree, KindTree, task, map_scope, consume_scope, nested_graph, reduction, copy, GraphTree, graph, GuardTree, ExitTree}
use Rattle.sd_graph.specs.ContainerParts.{Containers}
use Rattle.sd_graph.specs.declared.link.Link.{Link}
use Rattle.sd_valid.specs.BoundExpression.{terms_left, bound_affine, bound_range, bound_dim, bound_link, bound_assignment, bound_param}
use Rattle.sd_valid.specs.BoundCode.{bound_value, bound_values, bound_act, bound_acts, bound_tasklet}
use Rattle.sd_valid.specs.BoundTree.{bound_guard, bound_exit, bound_entry, bound_kind, bound_graph}
use Rattle.sd_validity.specs.rules.GraphParts.{symbols_in}
use Rattle.sd_validity.specs.rules.Places.{Thing, whole, leaving, doing, Place, all_places, places_of}
use Rattle.sd_validity.specs.rules.Parts.{is_empty, Tests, is_range_passed, is_dim_passed, is_link_passed, are_links_passed, are_params_passed, is_condition_passed, is_exit_passed, is_kind_passed, is_thing_passed}
use Rattle.sd_validity.specs.rules.SizesGone.{is_value_free, are_values_free, is_act_free, are_acts_free, are_extents_constant, sizes_tests, rule_8}
use Rattle.sd_validity.specs.rules.Failing.{Holds}
use Rattle.sd_validity.specs.bound_places.BoundPlace.{bound_thing, bound_place}
use Rattle.sd_validity.specs.bound_places.SizedExtents.{NamesFirst, HasSizedExtents, HasSizedExtentsThroughout}
use Rattle.sd_validity.proofs.bound_places_lemmas.EachPlace.{AtPlace, graph_places}
use Rattle.sd_validity.proofs.bound_places_lemmas.Asked.{HoldsAt, none_fails, all_mapped}
use Rattle.sd_validity.proofs.bound_places_lemmas.BoundPlaces.{graph_bound}

-- ---- what is bound passes tests that each bound expression and all bound code pass

module _ (sizes : List ℤ) (tests : Tests) (link : (part : Link) → tests.link (bound_link sizes part) ≡ true) (range : (part : Range) → tests.range (bound_range sizes part) ≡ true)
    (expression : (part : Affine) → tests.expression (bound_affine sizes part) ≡ true) (code : (part : TaskletTree) → tests.code (bound_tasklet sizes part) ≡ true) where
  ends_passed : (ends : List Affine) → list_all tests.expression (map (bound_affine sizes) ends) ≡ true
  ends_passed [] = refl
  ends_passed (end ∷ ends) = rw (expression end) (ends_passed ends)

  range_passed : (part : Range) → is_range_passed tests (bound_range sizes part) ≡ true
  range_passed part = rw (range part, expression part.begin) (ends_passed part.ends)

  dim_passed : (dim : Dim) → is_dim_passed tests (bound_dim sizes dim) ≡ true
  dim_passed (Index at) = expression at
  dim_passed (Span part) = range_passed part

  dims_passed : (dims : List Dim) → list_all (is_dim_passed tests) (map (bound_dim sizes) dims) ≡ true
  dims_passed [] = refl
  dims_passed (dim ∷ dims) = rw (dim_passed dim) (dims_passed dims)

  link_passed : (part : Link) → is_link_passed tests (bound_link sizes part) ≡ true
  link_passed part = rw (link part) (dims_passed part.memlet.subset.dims)

  links_passed : (links : List Link) → are_links_passed tests (map (bound_link sizes) links) ≡ true
  links_passed [] = refl
  links_passed (part ∷ links) = rw (link_passed part) (links_passed links)

  params_passed : (params : List (ℕ × Range)) → are_params_passed tests (map (bound_param sizes) params) ≡ true
  params_passed [] = refl
  params_passed (param ∷ params) = rw (range_passed param.1) (params_passed params)

  condition_passed : (when : Option GuardTree) → is_condition_passed tests (option_map (bound_guard sizes) when) ≡ true
  condition_passed None = refl
  condition_passed (Some guard) = rw (links_passed guard.reads) (code guard.code)

  set_passed : (set : List (ℕ × Affine)) → list_all (λ assignment. tests.expression assignment.1) (map (bound_assignment sizes) set) ≡ true
  set_passed [] = refl
  set_passed (assignment ∷ set) = rw (expression assignment.1) (set_passed set)

  exits_passed : (exits : List ExitTree) → list_all (is_exit_passed tests) (map (bound_exit sizes) exits) ≡ true
  exits_passed [] = refl
  exits_passed (exit ∷ exits) = rw (condition_passed exit.when, set_passed exit.set) (exits_passed exits)

  kind_passed : (kind : KindTree) → is_kind_passed tests (bound_kind sizes kind) ≡ true
  kind_passed (task of ins outs) = rw (code of, links_passed ins) (links_passed outs)
  kind_passed (map_scope sequential params private body) = params_passed params
  kind_passed (consume_scope stream element private body) = refl
  kind_passed (nested_graph inner links) = links_passed links
  kind_passed (reduction resolution axis identity from to) = rw (link_passed from) (link_passed to)
  kind_passed (copy from to) = rw (link_passed from) (link_passed to)

  pub thing_passed : (thing : Thing) → is_thing_passed tests (bound_thing sizes thing) ≡ true
  thing_passed whole = refl
  thing_passed (leaving items exits) = exits_passed exits
  thing_passed (doing kind) = kind_passed kind

-- ---- expressions

less : (symbols count number : ℕ) → symbols ≤ count → nat_lt number count ≡ false → nat_lt number symbols ≡ false
less symbols count number few e = grind (arith, few, e)

one_free : (symbols : ℕ) (term : ℕ × ℤ) (rest : List (ℕ × ℤ)) (below : Bool) → (below ≡ false → nat_lt term.0 symbols ≡ false) → list_all (λ (term : ℕ × ℤ). not (nat_lt term.0 symbols)) rest ≡ true →
    list_all (λ (term : ℕ × ℤ). not (nat_lt term.0 symbols)) (cond (not below) (term ∷ rest) rest) ≡ true
one_free symbols term rest true not_less free = free
one_free symbols term rest false not_less free = rw (not_less refl) free

terms_free : (symbols count : ℕ) → symbols ≤ count → (terms : List (ℕ × ℤ)) → list_all (λ (term : ℕ × ℤ). not (nat_lt term.0 symbols)) (terms_left count terms) ≡ true
terms_free symbols count few [] = refl
terms_free symbols count few (term ∷ terms) = one_free symbols term (terms_left count terms) (nat_lt term.0 count) (less symbols count term.0 few) (terms_free symbols count few terms)

-- ---- code

module _ (symbols : ℕ) (sizes : List ℤ) (few : symbols ≤ length sizes) where
  variable_free : (variables : List ℕ) (place : ℕ) (there named : Bool) → nat_lt (slice_index_or variables place 0) (length sizes) ≡ named → nat_lt place (length variables) ≡ there →
      is_value_free symbols variables (if there && named then literal (variable_value sizes (slice_index_or variables place 0)) else variable place) ≡ true
  variable_free variables place true true e e' = refl
  variable_free variables place true false e e' = rw (e', less symbols (length sizes) (slice_index_or variables place 0) few e) refl
  variable_free variables place false named e e' = rw e' refl

  mutual
    value_free : (variables : List ℕ) (value : ValueTree) → is_value_free symbols variables (bound_value sizes variables value) ≡ true
    value_free variables (literal number) = refl
    value_free variables (variable place) = variable_free variables place (nat_lt place (length variables)) (nat_lt (slice_index_or variables place 0) (length sizes)) refl refl
    value_free variables (local number) = refl
    value_free variables (input connector at) = values_free variables at
    value_free variables (one sign of) = value_free variables of
    value_free variables (two sign left right) = rw (value_free variables left) (value_free variables right)
    value_free variables (choice value when other) = rw (value_free variables value, value_free variables when) (value_free variables other)

    values_free : (variables : List ℕ) (values : ValueTrees) → are_values_free symbols variables (bound_values sizes variables values) ≡ true
    values_free variables no_value = refl
    values_free variables (and_value first rest) = rw (value_free variables first) (values_free variables rest)

  mutual
    act_free : (variables : List ℕ) (act : ActTree) → is_act_free symbols variables (bound_act sizes variables act) ≡ true
    act_free variables (set_local number value) = value_free variables value
    act_free variables (assign connector at value) = rw (values_free variables at) (value_free variables value)
    act_free variables (branch when body other) = rw (value_free variables when, acts_free variables body) (acts_free variables other)

    acts_free : (variables : List ℕ) (acts : ActTrees) → are_acts_free symbols variables (bound_acts sizes variables acts) ≡ true
    acts_free variables no_act = refl
    acts_free variables (and_act act acts) = rw (act_free variables act) (acts_free variables acts)

  sizes_passed : (thing : Thing) → is_thing_passed (sizes_tests symbols) (bound_thing sizes thing) ≡ true
  sizes_passed thing =
      thing_passed sizes (sizes_tests symbols) (λ part. refl) (λ part. refl) (λ part. terms_free symbols (length sizes) few part.terms) (λ part. acts_free part.variables part.body) thing

-- ---- extents

none_left : (count : ℕ) (terms : List (ℕ × ℤ)) → AllByRecursion (λ (term : ℕ × ℤ). term.0 < count) terms → is_empty (terms_left count terms) ≡ true
none_left count [] first = refl
none_left count (term ∷ terms) first =
    let below : nat_lt term.0 count ≡ true = grind (arith, first.0) in
    rw below (none_left count terms first.1)

extents_constant : (sizes : List ℤ) (extents : List Affine) → AllByRecursion (NamesFirst (length sizes)) extents → list_all (λ (extent : Affine). is_empty extent.terms) (map (bound_affine sizes) extents) ≡ true
extents_constant sizes [] first = refl
extents_constant sizes (extent ∷ extents) first = rw (none_left (length sizes) extent.terms first.0) (extents_constant sizes extents first.1)

containers_constant : (sizes : List ℤ) (containers : Containers) → AllByRecursion (λ entry. AllByRecursion (NamesFirst (length sizes)) entry.1.extents) containers →
    list_all (λ entry. list_all (λ (extent : Affine). is_empty extent.terms) entry.1.extents) (map (bound_entry sizes) containers) ≡ true
containers_constant sizes [] first = refl
containers_constant sizes (entry ∷ containers) first = rw (extents_constant sizes entry.1.extents first.0) (containers_constant sizes containers first.1)

same_symbols : (sizes : List ℤ) (tree : GraphTree) → symbols_in (bound_graph sizes tree) ≡ symbols_in tree
same_symbols sizes (graph name containers arguments variables symbols states) = refl

thing_constant : (sizes : List ℤ) (tree : GraphTree) (thing : Thing) → HasSizedExtents (length sizes) tree → are_extents_constant (bound_graph sizes tree) (bound_thing sizes thing) ≡ true
thing_constant sizes (graph name containers arguments variables symbols states) whole sized = containers_constant sizes containers sized.1
thing_constant sizes tree (leaving items exits) sized = refl
thing_constant sizes tree (doing kind) sized = refl

place_free : (sizes : List ℤ) (place : Place) → HasSizedExtents (length sizes) place.graph → HoldsAt rule_8 (bound_place sizes place)
place_free sizes place sized before =
    rw (thing_constant sizes place.graph place.thing sized)
    (sizes_passed (symbols_in (bound_graph sizes place.graph)) sizes (subst (λ count. count ≤ length sizes) (sym (same_symbols sizes place.graph)) sized.0) place.thing)

pub sizes_gone : (sizes : List ℤ) (tree : GraphTree) → HasSizedExtentsThroughout (length sizes) tree → Holds rule_8 (bound_graph sizes tree)
sizes_gone sizes tree sized =
    let at : Place → Type 0 = AtPlace (HasSizedExtents (length sizes)) (λ tree state exit. ⊤) (λ tree state scopes kind. ⊤) in
    none_fails rule_8 [] (all_places (bound_graph sizes tree))
    (subst (AllByRecursion (HoldsAt rule_8)) (sym (graph_bound sizes tree [] 0))
    (all_mapped (bound_place sizes) at (HoldsAt rule_8) (λ place holds. place_free sizes place holds.0) (places_of tree [] 0) (graph_places _ _ _ tree [] 0 sized)))
