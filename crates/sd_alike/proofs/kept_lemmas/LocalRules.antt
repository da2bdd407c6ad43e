-- The rules that ask something of a thing and its graph alone, and the maps that keep them.
use Rattle.std.proofs.Common.{◌≡◌, ℕ, List, [], ◌∷◌, ◌++◌, length, nat_eq, Bool, true, false, ◌&&◌, ◌||◌, refl, sym, ◌∙◌, ap, ap₂, subst, append-nil}
use Rattle.std.specs.List.{list_all}
use Rattle.std.proofs.lemmas.List.Folds.{list_all-append}
use Rattle.sd_range.specs.declared.affine.Affine.{Affine}
use Rattle.sd_range.specs.declared.range.Range.{Range}
use Rattle.sd_graph.specs.PlainTree.{KindTree, task, map_scope, consume_scope, nested_graph, reduction, copy, ItemTrees, no_item, and_item, StateTrees, GraphTree, graph}
use Rattle.sd_graph.specs.TreeParts.{containers_of}
use Rattle.sd_graph.specs.ContainerParts.{Containers}
use Rattle.sd_graph.specs.Wiring.{has_number}
use Rattle.sd_validity.specs.rules.GraphParts.{symbols_in}
use Rattle.sd_validity.specs.rules.Places.{Thing, whole, leaving, doing, Scopes, in_map, param_numbers}
use Rattle.sd_validity.specs.rules.Parts.{is_range_passed, is_thing_passed}
use Rattle.sd_validity.specs.rules.Dimensions.{dimensions_tests, is_code_linked}
use Rattle.sd_validity.specs.rules.StreamUse.{are_streams_in_place}
use Rattle.sd_validity.specs.rules.MovedShapes.{are_shapes_right}
use Rattle.sd_validity.specs.rules.SizesGone.{are_extents_constant, sizes_tests}
use Rattle.sd_validity.specs.rules.NestedLinks.{have_shapes, are_unshared, written_by, written_in, is_nesting_right}
use Rattle.sd_validity.proofs.rules_lemmas.HoldingLemmas.{both}
use Rattle.sd_alike.specs.alike.Maps.{IsCollapsible, collapsed, IsExpandable, expanded}
use Rattle.sd_alike.proofs.kept_lemmas.Held.{Asked, HoldsIn, HoldsAmong, AreSameScopes, IsLocal, KeepsHolding}
use Rattle.sd_alike.proofs.kept_lemmas.HeldPlaces.{joined}
use Rattle.sd_alike.proofs.kept_lemmas.HeldReplaced.{has_turned, among_same}

-- ---- what they ask

abbrev pub dimensions_asked : Asked
dimensions_asked tree loops scopes thing = is_thing_passed (dimensions_tests (containers_of tree)) thing && is_code_linked thing

abbrev pub streams_asked : Asked
streams_asked tree loops scopes thing = are_streams_in_place (containers_of tree) thing

abbrev pub nesting_asked : Asked
nesting_asked tree loops scopes thing = is_nesting_right tree thing

abbrev pub shapes_asked : Asked
shapes_asked tree loops scopes thing = are_shapes_right thing

abbrev pub sizes_asked : Asked
sizes_asked tree loops scopes thing = are_extents_constant tree thing && is_thing_passed (sizes_tests (symbols_in tree)) thing

-- of a map it asks something of each parameter alone
pub record AsksParams (asked : Asked) : Type 0 where
  pub test : GraphTree → ℕ × Range → Bool
  pub is : (tree : GraphTree) (loops : List ℕ) (scopes : Scopes) (sequential : Bool) (params : List (ℕ × Range)) (private : List ℕ) (body : ItemTrees) →
      asked tree loops scopes (doing (map_scope sequential params private body)) ≡ list_all (test tree) params

-- ---- local rules

pub dimensions_local : IsLocal dimensions_asked
dimensions_local = record {
  head = λ name containers arguments variables symbols states after loops scopes thing. refl;
  list = λ tree loops scopes items others exits. refl;
  map_body = λ tree loops scopes sequential params private body other. refl;
  consume_body = λ tree loops scopes stream element private body other. refl;
  inner = λ tree loops scopes inner other links same. refl;
  scopes = λ tree loops scopes others thing same. refl;
}

pub streams_local : IsLocal streams_asked
streams_local = record {
  head = λ name containers arguments variables symbols states after loops scopes thing. refl;
  list = λ tree loops scopes items others exits. refl;
  map_body = λ tree loops scopes sequential params private body other. refl;
  consume_body = λ tree loops scopes stream element private body other. refl;
  inner = λ tree loops scopes inner other links same. refl;
  scopes = λ tree loops scopes others thing same. refl;
}

pub nesting_local : IsLocal nesting_asked
nesting_local = record {
  head = λ name containers arguments variables symbols states after loops scopes thing. head_same name containers arguments variables symbols states after loops scopes thing;
  list = λ tree loops scopes items others exits. refl;
  map_body = λ tree loops scopes sequential params private body other. refl;
  consume_body = λ tree loops scopes stream element private body other. refl;
  inner = λ tree loops scopes inner other links same. λ i. (nat_eq (length links) (same.arguments i) && have_shapes (same.containers i) 0 links) && are_unshared (same.written i) 0 links;
  scopes = λ tree loops scopes others thing same. refl;
}
  where
    head_same : (name : List ℕ) (containers : Containers) (arguments : ℕ) (variables : List (List ℕ)) (symbols : ℕ) (states after : StateTrees) (loops : List ℕ) (scopes : Scopes) (thing : Thing) →
        nesting_asked (graph name containers arguments variables symbols after) loops scopes thing ≡ nesting_asked (graph name containers arguments variables symbols states) loops scopes thing
    head_same name containers arguments variables symbols states after loops scopes whole = refl
    head_same name containers arguments variables symbols states after loops scopes (leaving items exits) = refl
    head_same name containers arguments variables symbols states after loops scopes (doing (task code ins outs)) = refl
    head_same name containers arguments variables symbols states after loops scopes (doing (map_scope sequential params private body)) = refl
    head_same name containers arguments variables symbols states after loops scopes (doing (consume_scope stream element private body)) = refl
    head_same name containers arguments variables symbols states after loops scopes (doing (nested_graph inner links)) = refl
    head_same name containers arguments variables symbols states after loops scopes (doing (reduction resolution axis identity from to)) = refl
    head_same name containers arguments variables symbols states after loops scopes (doing (copy from to)) = refl

pub shapes_local : IsLocal shapes_asked
shapes_local = record {
  head = λ name containers arguments variables symbols states after loops scopes thing. refl;
  list = λ tree loops scopes items others exits. refl;
  map_body = λ tree loops scopes sequential params private body other. refl;
  consume_body = λ tree loops scopes stream element private body other. refl;
  inner = λ tree loops scopes inner other links same. refl;
  scopes = λ tree loops scopes others thing same. refl;
}

pub sizes_local : IsLocal sizes_asked
sizes_local = record {
  head = λ name containers arguments variables symbols states after loops scopes thing. head_same name containers arguments variables symbols states after loops scopes thing;
  list = λ tree loops scopes items others exits. refl;
  map_body = λ tree loops scopes sequential params private body other. refl;
  consume_body = λ tree loops scopes stream element private body other. refl;
  inner = λ tree loops scopes inner other links same. refl;
  scopes = λ tree loops scopes others thing same. refl;
}
  where
    head_same : (name : List ℕ) (containers : Containers) (arguments : ℕ) (variables : List (List ℕ)) (symbols : ℕ) (states after : StateTrees) (loops : List ℕ) (scopes : Scopes) (thing : Thing) →
        sizes_asked (graph name containers arguments variables symbols after) loops scopes thing ≡ sizes_asked (graph name containers arguments variables symbols states) loops scopes thing
    head_same name containers arguments variables symbols states after loops scopes whole = refl
    head_same name containers arguments variables symbols states after loops scopes (leaving items exits) = refl
    head_same name containers arguments variables symbols states after loops scopes (doing kind) = refl

-- ---- what they ask of parameters

all_true : {A : Type 0} (members : List A) → list_all (λ member. true) members ≡ true
all_true [] = refl
all_true (member ∷ members) = all_true members

and_true : (a : Bool) → (a && true) ≡ a
and_true true = refl
and_true false = refl

-- a range whose expressions may be any
any_range : (range : Range) → (true && (true && list_all (λ (a : Affine). true) range.ends)) ≡ true
any_range range = all_true range.ends

pub dimensions_params : AsksParams dimensions_asked
dimensions_params = record {
  test = λ tree param. true;
  is = λ tree loops scopes sequential params private body. and_true (list_all (λ param. true && (true && list_all (λ (a : Affine). true) param.1.ends)) params) ∙ each params;
}
  where
    each : (params : List (ℕ × Range)) → list_all (λ param. true && (true && list_all (λ (a : Affine). true) param.1.ends)) params ≡ list_all (λ param. true) params
    each [] = refl
    each (param ∷ params) = ap₂ (λ a b. a && b) (any_range param.1) (each params)

pub streams_params : AsksParams streams_asked
streams_params = record { test = λ tree param. true; is = λ tree loops scopes sequential params private body. sym (all_true params) }

pub nesting_params : AsksParams nesting_asked
nesting_params = record { test = λ tree param. true; is = λ tree loops scopes sequential params private body. sym (all_true params) }

pub shapes_params : AsksParams shapes_asked
shapes_params = record { test = λ tree param. true; is = λ tree loops scopes sequential params private body. sym (all_true params) }

pub sizes_params : AsksParams sizes_asked
sizes_params = record { test = λ tree param. is_range_passed (sizes_tests (symbols_in tree)) param.1; is = λ tree loops scopes sequential params private body. refl }

-- those that ask nothing of a parameter
pub dimensions_any : (tree : GraphTree) (param : ℕ × Range) → dimensions_params.test tree param ≡ true
unfolding dimensions_params
dimensions_any tree param = refl

pub streams_any : (tree : GraphTree) (param : ℕ × Range) → streams_params.test tree param ≡ true
unfolding streams_params
streams_any tree param = refl

pub nesting_any : (tree : GraphTree) (param : ℕ × Range) → nesting_params.test tree param ≡ true
unfolding nesting_params
nesting_any tree param = refl

pub shapes_any : (tree : GraphTree) (param : ℕ × Range) → shapes_params.test tree param ≡ true
unfolding shapes_params
shapes_any tree param = refl

-- ---- maps

-- inside a collapsed map what is in force is what was in force inside both maps
pub collapsed_scopes : (scopes : Scopes) (outer inner : List (ℕ × Range)) (private : List ℕ) → AreSameScopes (in_map (in_map scopes outer []) inner private) (in_map scopes (outer ++ inner) private)
collapsed_scopes scopes outer inner private = record {
  private = λ number. refl;
  params = λ number. ap (λ numbers. has_number (numbers ++ scopes.params) number) (numbers_of outer inner) ∙ sym (has_turned (param_numbers inner) (param_numbers outer) scopes.params number);
}
  where
    numbers_of : (outer inner : List (ℕ × Range)) → param_numbers (outer ++ inner) ≡ param_numbers outer ++ param_numbers inner
    numbers_of [] inner = refl
    numbers_of (param ∷ outer) inner = ap (λ numbers. param.0 ∷ numbers) (numbers_of outer inner)

-- and the other way
pub expanded_scopes : (scopes : Scopes) (first : ℕ × Range) (rest : List (ℕ × Range)) (private : List ℕ) → AreSameScopes (in_map scopes (first ∷ rest) private) (in_map (in_map scopes (first ∷ []) []) rest private)
expanded_scopes scopes first rest private = record {
  private = λ number. refl;
  params = λ number. has_turned (param_numbers rest) (first.0 ∷ []) scopes.params number;
}

-- what is written stays
pub collapsed_writes : (variables line : ℕ) (kind : KindTree) → IsCollapsible variables kind → written_in (collapsed variables line kind) ≡ written_by kind
collapsed_writes variables line kind collapsible = subst (λ kind. written_in (collapsed variables line kind) ≡ written_by kind) (sym collapsible.shape) refl

pub expanded_writes : (variables line : ℕ) (kind : KindTree) → IsExpandable variables kind → written_in (expanded variables line kind) ≡ written_by kind
expanded_writes variables line kind expandable =
    subst (λ kind. written_in (expanded variables line kind) ≡ written_by kind) (sym expandable.shape) (append-nil (written_in expandable.body ++ []) ∙ append-nil (written_in expandable.body))

module _ (asked : Asked) (local : IsLocal asked) (params : AsksParams asked) where
  pub asked_of : (tree : GraphTree) (loops : List ℕ) (scopes : Scopes) (sequential : Bool) (some : List (ℕ × Range)) (private : List ℕ) (body : ItemTrees) →
      list_all (params.test tree) some ≡ true → asked tree loops scopes (doing (map_scope sequential some private body)) ≡ true
  asked_of tree loops scopes sequential some private body all = params.is tree loops scopes sequential some private body ∙ all

  pub of_asked : (tree : GraphTree) (loops : List ℕ) (scopes : Scopes) (sequential : Bool) (some : List (ℕ × Range)) (private : List ℕ) (body : ItemTrees) →
      asked tree loops scopes (doing (map_scope sequential some private body)) ≡ true → list_all (params.test tree) some ≡ true
  of_asked tree loops scopes sequential some private body is = sym (params.is tree loops scopes sequential some private body) ∙ is

  pub collapsed_keeps : KeepsHolding asked IsCollapsible collapsed
  collapsed_keeps = record {
    items = λ tree loops scopes variables line kind known collapsible is holds.
        let outer = collapsible.outer in
        let inner = collapsible.inner in
        let private = collapsible.private in
        let body = collapsible.body in
        let rest : ItemTrees = and_item collapsible.inner_line (map_scope collapsible.inner_sequential inner private body) no_item in
        let old : KindTree = map_scope collapsible.outer_sequential outer [] rest in
        let was : asked tree loops scopes (doing old) ≡ true = subst (λ kind. asked tree loops scopes (doing kind) ≡ true) collapsible.shape is in
        let held : HoldsIn asked tree loops scopes old = subst (λ kind. HoldsIn asked tree loops scopes kind) collapsible.shape holds in
        let within : Scopes = in_map scopes outer [] in
        subst (λ kind. HoldsAmong asked tree loops scopes (collapsed variables line kind)) (sym collapsible.shape) (
          asked_of tree loops scopes (collapsible.outer_sequential || collapsible.inner_sequential) (outer ++ inner) private body
              (list_all-append (params.test tree) outer inner ∙ joined (list_all (params.test tree) outer) (list_all (params.test tree) inner)
              (of_asked tree loops scopes collapsible.outer_sequential outer [] rest was) (of_asked tree loops within collapsible.inner_sequential inner private body held.0)),
          (among_same asked local tree loops (in_map within inner private) (in_map scopes (outer ++ inner) private) body (collapsed_scopes scopes outer inner private) held.1.0, tt),
        );
    written = collapsed_writes;
  }

  pub expanded_keeps : KeepsHolding asked IsExpandable expanded
  expanded_keeps = record {
    items = λ tree loops scopes variables line kind known expandable is holds.
        let first = expandable.first in
        let rest = expandable.second ∷ expandable.others in
        let private = expandable.private in
        let body = expandable.body in
        let old : KindTree = map_scope expandable.sequential (first ∷ rest) private body in
        let was : asked tree loops scopes (doing old) ≡ true = subst (λ kind. asked tree loops scopes (doing kind) ≡ true) expandable.shape is in
        let held : HoldsAmong asked tree loops (in_map scopes (first ∷ rest) private) body = subst (λ kind. HoldsIn asked tree loops scopes kind) expandable.shape holds in
        let tests = both (params.test tree first) (list_all (params.test tree) rest) (of_asked tree loops scopes expandable.sequential (first ∷ rest) private body was) in
        let within : Scopes = in_map scopes (first ∷ []) [] in
        subst (λ kind. HoldsAmong asked tree loops scopes (expanded variables line kind)) (sym expandable.shape) (
          asked_of tree loops scopes expandable.sequential (first ∷ []) [] (and_item line (map_scope expandable.sequential rest private body) no_item) (joined (params.test tree first) true tests.0 refl),
          (
            (
              asked_of tree loops within expandable.sequential rest private body tests.1,
              (among_same asked local tree loops (in_map scopes (first ∷ rest) private) (in_map within rest private) body (expanded_scopes scopes first rest private) held, tt),
            ),
            tt,
          ),
        );
    written = expanded_writes;
  }
