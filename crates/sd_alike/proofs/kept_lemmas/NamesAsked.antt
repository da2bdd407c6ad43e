-- The part of the rule of names that looks at one place alone: a collapsed and an expanded map keep it.
use Rattle.std.proofs.Common.{◌≡◌, ◌≢◌, ℕ, ℤ, nat_eq, nat_lt, List, [], ◌∷◌, ◌++◌, length, Bool, true, false, not, ◌&&◌, ◌||◌, refl, sym, ◌∙◌, ap, subst, arith}
use Rattle.std.specs.List.{AllByRecursion, list_all}
use Rattle.std.proofs.lemmas.List.Folds.{list_all-append}
use Rattle.sd_range.specs.declared.affine.Affine.{Affine}
use Rattle.sd_range.specs.declared.range.Range.{Range}
use Rattle.sd_graph.specs.PlainTree.{KindTree, task, map_scope, consume_scope, nested_graph, reduction, copy, ItemTrees, no_item, and_item, StateTrees, GraphTree, graph}
use Rattle.sd_graph.specs.TreeParts.{containers_of}
use Rattle.sd_graph.specs.ContainerParts.{Containers, container_at}
use Rattle.sd_graph.specs.Wiring.{has_number}
use Rattle.sd_graph.specs.InForce.{is_private}
use Rattle.sd_validity.specs.rules.GraphParts.{symbols_in}
use Rattle.sd_validity.specs.rules.Places.{Thing, whole, leaving, doing, Place, Scopes, in_map, param_numbers}
use Rattle.sd_validity.specs.rules.Parts.{Tests, container_of, is_range_passed, are_params_passed, is_thing_passed}
use Rattle.sd_validity.specs.rules.NamesInForce.{is_stream_in_force, is_own, are_own_private, is_there, is_variable_in_force, is_no_symbol, are_symbols_apart, params_at, set_at, names_tests, are_names_in_force}
use Rattle.sd_validity.proofs.rules_lemmas.HoldingLemmas.{both}
use Rattle.sd_alike.specs.alike.Maps.{AffineWithout, RangesWithout, IsCollapsible, collapsed, IsExpandable, expanded}
use Rattle.sd_alike.proofs.kept_lemmas.Held.{Asked, HoldsIn, HoldsAmong, IsLocal, KeepsHolding}
use Rattle.sd_alike.proofs.kept_lemmas.HeldPlaces.{joined}
use Rattle.sd_alike.proofs.kept_lemmas.HeldReplaced.{has_both, among_same}
use Rattle.sd_alike.proofs.kept_lemmas.LocalRules.{collapsed_scopes, expanded_scopes, collapsed_writes, expanded_writes}
use Rattle.sd_alike.proofs.kept_lemmas.NamesThere.{all_weaker}

-- a place of which only this is known
abbrev pub standing : GraphTree → (loops : List ℕ) → Scopes → Thing → Place
standing tree loops scopes thing = record { path = []; graph = tree; graph_path = []; depth = 0; ranks = []; state = 0; loops = loops; loop_count = 0; scopes = scopes; thing = thing }

abbrev pub names_asked : Asked
names_asked tree loops scopes thing = (are_names_in_force (standing tree loops scopes thing) && are_symbols_apart tree thing) && are_own_private (containers_of tree) thing

-- ---- it sees of the scopes what is in force

-- the tests by what is in force
abbrev tests_by : GraphTree → (private params loops : ℕ → Bool) → Tests
tests_by tree private params loops = record {
  link = λ link. nat_lt (container_of link) (length (containers_of tree)) && (not (is_private (container_at (containers_of tree) (container_of link)).kind) || private (container_of link));
  range = λ range. true;
  expression = λ a. list_all (λ term. is_there tree term.0 && (nat_lt term.0 (symbols_in tree) || (params term.0 || loops term.0))) a.terms;
  code = λ code. list_all (λ variable. is_there tree variable && (nat_lt variable (symbols_in tree) || (params variable || loops variable))) code.variables;
}

stream_same : (containers : Containers) (private other : List ℕ) (thing : Thing) → ((number : ℕ) → has_number other number ≡ has_number private number) →
    is_stream_in_force containers other thing ≡ is_stream_in_force containers private thing
stream_same containers private other whole same = refl
stream_same containers private other (leaving items exits) same = refl
stream_same containers private other (doing (task code ins outs)) same = refl
stream_same containers private other (doing (map_scope sequential params own body)) same = refl
stream_same containers private other (doing (consume_scope stream element own body)) same =
    λ i. nat_lt stream (length containers) && (not (is_private (container_at containers stream).kind) || same stream i)
stream_same containers private other (doing (nested_graph inner links)) same = refl
stream_same containers private other (doing (reduction resolution axis identity from to)) same = refl
stream_same containers private other (doing (copy from to)) same = refl

-- size symbols are the same with other states
pub symbols_same : (name : List ℕ) (containers : Containers) (arguments : ℕ) (variables : List (List ℕ)) (symbols : ℕ) (states after : StateTrees) (thing : Thing) →
    are_symbols_apart (graph name containers arguments variables symbols after) thing ≡ are_symbols_apart (graph name containers arguments variables symbols states) thing
symbols_same name containers arguments variables symbols states after whole = refl
symbols_same name containers arguments variables symbols states after (leaving items exits) = refl
symbols_same name containers arguments variables symbols states after (doing kind) = refl

pub names_local : IsLocal names_asked
names_local = record {
  head = λ name containers arguments variables symbols states after loops scopes thing. λ i.
      (are_names_in_force (standing (graph name containers arguments variables symbols after) loops scopes thing) && symbols_same name containers arguments variables symbols states after thing i) && are_own_private containers thing;
  list = λ tree loops scopes items others exits. refl;
  map_body = λ tree loops scopes sequential params private body other. refl;
  consume_body = λ tree loops scopes stream element private body other. refl;
  inner = λ tree loops scopes inner other links same. refl;
  scopes = λ tree loops scopes others thing same. λ i.
      (((is_thing_passed (tests_by tree (λ number. same.private number i) (λ number. same.params number i) (has_number loops)) thing
      && stream_same (containers_of tree) scopes.private others.private thing same.private i)
      && (list_all (is_there tree) (params_at thing) && list_all (is_there tree) (set_at thing)))
      && are_symbols_apart tree thing)
      && are_own_private (containers_of tree) thing;
}

-- ---- maps

-- what is asked of a map
pub record IsMapNamed (tree : GraphTree) (loops : List ℕ) (scopes : Scopes) (params : List (ℕ × Range)) (private : List ℕ) : Type 0 where
  pub ranges : are_params_passed (names_tests (standing tree loops scopes whole)) params ≡ true
  pub there : list_all (is_there tree) (param_numbers params) ≡ true
  pub apart : list_all (is_no_symbol (symbols_in tree)) (param_numbers params) ≡ true
  pub own : list_all (is_own (containers_of tree)) private ≡ true

pub is_named : (tree : GraphTree) (loops : List ℕ) (scopes : Scopes) (sequential : Bool) (params : List (ℕ × Range)) (private : List ℕ) (body : ItemTrees) →
    names_asked tree loops scopes (doing (map_scope sequential params private body)) ≡ true → IsMapNamed tree loops scopes params private
is_named tree loops scopes sequential params private body is =
    let ranges : Bool = are_params_passed (names_tests (standing tree loops scopes whole)) params in
    let there : Bool = list_all (is_there tree) (param_numbers params) in
    let apart : Bool = list_all (is_no_symbol (symbols_in tree)) (param_numbers params) in
    let parts = both (((ranges && true) && (there && true)) && apart) (list_all (is_own (containers_of tree)) private) is in
    let names = both ((ranges && true) && (there && true)) apart parts.0 in
    let first = both (ranges && true) (there && true) names.0 in
    record { ranges = (both ranges true first.0).0; there = (both there true first.1).0; apart = names.1; own = parts.1 }

pub named_is : (tree : GraphTree) (loops : List ℕ) (scopes : Scopes) (sequential : Bool) (params : List (ℕ × Range)) (private : List ℕ) (body : ItemTrees) →
    IsMapNamed tree loops scopes params private → names_asked tree loops scopes (doing (map_scope sequential params private body)) ≡ true
named_is tree loops scopes sequential params private body named = λ i. (((named.ranges i && true) && (named.there i && true)) && named.apart i) && named.own i

-- ranges pass a test of terms where each of their terms that passes one passes the other
module _ (test other : ℕ → Bool) where
  abbrev pub term_tests : (ℕ → Bool) → Tests
  term_tests test = record { link = λ link. true; range = λ range. true; expression = λ a. list_all (λ term. test term.0) a.terms; code = λ code. true }

  -- for all numbers
  pub range_more : ((number : ℕ) → test number ≡ true → other number ≡ true) → (range : Range) → is_range_passed (term_tests test) range ≡ true → is_range_passed (term_tests other) range ≡ true
  range_more more range is =
      let parts = both (list_all (λ term. test term.0) range.begin.terms) (list_all (λ (a : Affine). list_all (λ term. test term.0) a.terms) range.ends) is in
      joined (list_all (λ term. other term.0) range.begin.terms) (list_all (λ (a : Affine). list_all (λ term. other term.0) a.terms) range.ends)
      (all_weaker (λ term. test term.0) (λ term. other term.0) (λ term is. more term.0 is) range.begin.terms parts.0)
      (all_weaker (λ (a : Affine). list_all (λ term. test term.0) a.terms) (λ (a : Affine). list_all (λ term. other term.0) a.terms)
      (λ a is. all_weaker (λ term. test term.0) (λ term. other term.0) (λ term is. more term.0 is) a.terms is) range.ends parts.1)

  -- for those that name none of the parameters
  module _ (params : List (ℕ × Range)) (more : (number : ℕ) → AllByRecursion (λ (param : ℕ × Range). param.0 ≢ number) params → test number ≡ true → other number ≡ true) where
    terms_without : (terms : List (ℕ × ℤ)) → AllByRecursion (λ (term : ℕ × ℤ). AllByRecursion (λ (param : ℕ × Range). param.0 ≢ term.0) params) terms →
        list_all (λ term. test term.0) terms ≡ true → list_all (λ term. other term.0) terms ≡ true
    terms_without [] apart is = refl
    terms_without (term ∷ terms) apart is =
        let parts = both (test term.0) (list_all (λ term. test term.0) terms) is in
        joined (other term.0) (list_all (λ term. other term.0) terms) (more term.0 apart.0 parts.0) (terms_without terms apart.1 parts.1)

    ends_without : (ends : List Affine) → AllByRecursion (AffineWithout params) ends →
        list_all (λ (a : Affine). list_all (λ term. test term.0) a.terms) ends ≡ true → list_all (λ (a : Affine). list_all (λ term. other term.0) a.terms) ends ≡ true
    ends_without [] apart is = refl
    ends_without (end ∷ ends) apart is =
        let parts = both (list_all (λ term. test term.0) end.terms) (list_all (λ (a : Affine). list_all (λ term. test term.0) a.terms) ends) is in
        joined (list_all (λ term. other term.0) end.terms) (list_all (λ (a : Affine). list_all (λ term. other term.0) a.terms) ends) (terms_without end.terms apart.0 parts.0) (ends_without ends apart.1 parts.1)

    pub ranges_without : (ranges : List (ℕ × Range)) → RangesWithout params ranges → are_params_passed (term_tests test) ranges ≡ true → are_params_passed (term_tests other) ranges ≡ true
    ranges_without [] apart is = refl
    ranges_without (param ∷ ranges) apart is =
        let range : Range = param.1 in
        let parts = both (is_range_passed (term_tests test) range) (are_params_passed (term_tests test) ranges) is in
        let inside = both (list_all (λ term. test term.0) range.begin.terms) (list_all (λ (a : Affine). list_all (λ term. test term.0) a.terms) range.ends) parts.0 in
        joined (is_range_passed (term_tests other) range) (are_params_passed (term_tests other) ranges)
        (joined (list_all (λ term. other term.0) range.begin.terms) (list_all (λ (a : Affine). list_all (λ term. other term.0) a.terms) range.ends)
        (terms_without range.begin.terms apart.0.0 inside.0) (ends_without range.ends apart.0.1 inside.1))
        (ranges_without ranges apart.1 parts.1)

-- ---- what is in force inside a map

-- none of the parameters has a number
other_number : (number first : ℕ) (rest : Bool) → first ≢ number → rest ≡ false → (nat_eq number first || rest) ≡ false
other_number number first rest apart none = either (nat_eq number first) refl
  where
    same : (a b : ℕ) → nat_eq a b ≡ true → b ≡ a
    same a b is = grind (arith, is)

    either : (equal : Bool) → nat_eq number first ≡ equal → (equal || rest) ≡ false
    either true is = absurd (apart (same number first is))
    either false is = none

has_none : (params : List (ℕ × Range)) (number : ℕ) → AllByRecursion (λ (param : ℕ × Range). param.0 ≢ number) params → has_number (param_numbers params) number ≡ false
has_none [] number apart = refl
has_none (param ∷ params) number apart = other_number number param.0 (has_number (param_numbers params) number) apart.0 (has_none params number apart.1)

-- what is in force inside and is no parameter is in force outside
pub outside_too : (tree : GraphTree) (loops : List ℕ) (scopes : Scopes) (params : List (ℕ × Range)) (private : List ℕ) (number : ℕ) → AllByRecursion (λ (param : ℕ × Range). param.0 ≢ number) params →
    is_variable_in_force (standing tree loops (in_map scopes params private) whole) number ≡ true → is_variable_in_force (standing tree loops scopes whole) number ≡ true
outside_too tree loops scopes params private number apart is =
    sym (ap (λ inside. is_there tree number && (nat_lt number (symbols_in tree) || (inside || has_number loops number)))
    (has_both (param_numbers params) scopes.params number ∙ ap (λ own. own || has_number scopes.params number) (has_none params number apart)))
    ∙ is

-- what is in force outside is in force inside
pub inside_too : (tree : GraphTree) (loops : List ℕ) (scopes : Scopes) (params : List (ℕ × Range)) (private : List ℕ) (number : ℕ) →
    is_variable_in_force (standing tree loops scopes whole) number ≡ true → is_variable_in_force (standing tree loops (in_map scopes params private) whole) number ≡ true
inside_too tree loops scopes params private number is =
    ap (λ inside. is_there tree number && (nat_lt number (symbols_in tree) || (inside || has_number loops number))) (has_both (param_numbers params) scopes.params number)
    ∙ more (is_there tree number) (nat_lt number (symbols_in tree)) (has_number (param_numbers params) number) (has_number scopes.params number) (has_number loops number) is
  where
    more : (there symbol own about loop : Bool) → (there && (symbol || (about || loop))) ≡ true → (there && (symbol || ((own || about) || loop))) ≡ true
    more true true own about loop is = refl
    more true false true about loop is = refl
    more true false false about loop is = is
    more false symbol own about loop is = cc

-- ---- collapsed and expanded maps

numbers_pass : (test : ℕ → Bool) (outer inner : List (ℕ × Range)) → list_all test (param_numbers outer) ≡ true → list_all test (param_numbers inner) ≡ true → list_all test (param_numbers (outer ++ inner)) ≡ true
numbers_pass test [] inner first second = second
numbers_pass test (param ∷ outer) inner first second =
    let parts = both (test param.0) (list_all test (param_numbers outer)) first in
    joined (test param.0) (list_all test (param_numbers (outer ++ inner))) parts.0 (numbers_pass test outer inner parts.1 second)

pub collapsed_names : KeepsHolding names_asked IsCollapsible collapsed
collapsed_names = record {
  items = λ tree loops scopes variables line kind known collapsible is holds.
      let outer = collapsible.outer in
      let inner = collapsible.inner in
      let private = collapsible.private in
      let body = collapsible.body in
      let rest : ItemTrees = and_item collapsible.inner_line (map_scope collapsible.inner_sequential inner private body) no_item in
      let old : KindTree = map_scope collapsible.outer_sequential outer [] rest in
      let within : Scopes = in_map scopes outer [] in
      let was = is_named tree loops scopes collapsible.outer_sequential outer [] rest (subst (λ kind. names_asked tree loops scopes (doing kind) ≡ true) collapsible.shape is) in
      let held : HoldsIn names_asked tree loops scopes old = subst (λ kind. HoldsIn names_asked tree loops scopes kind) collapsible.shape holds in
      let inside = is_named tree loops within collapsible.inner_sequential inner private body held.0 in
      let tests : Tests = names_tests (standing tree loops scopes whole) in
      subst (λ kind. HoldsAmong names_asked tree loops scopes (collapsed variables line kind)) (sym collapsible.shape) (
        named_is tree loops scopes (collapsible.outer_sequential || collapsible.inner_sequential) (outer ++ inner) private body (record {
          ranges = list_all-append (λ (param : ℕ × Range). is_range_passed tests param.1) outer inner
              ∙ joined (are_params_passed tests outer) (are_params_passed tests inner) was.ranges
              (ranges_without (is_variable_in_force (standing tree loops within whole)) (is_variable_in_force (standing tree loops scopes whole)) outer
              (λ number apart is. outside_too tree loops scopes outer [] number apart is) inner collapsible.apart inside.ranges);
          there = numbers_pass (is_there tree) outer inner was.there inside.there;
          apart = numbers_pass (is_no_symbol (symbols_in tree)) outer inner was.apart inside.apart;
          own = inside.own;
        }),
        (among_same names_asked names_local tree loops (in_map within inner private) (in_map scopes (outer ++ inner) private) body (collapsed_scopes scopes outer inner private) held.1.0, tt),
      );
  written = collapsed_writes;
}

pub expanded_names : KeepsHolding names_asked IsExpandable expanded
expanded_names = record {
  items = λ tree loops scopes variables line kind known expandable is holds.
      let first = expandable.first in
      let rest = expandable.second ∷ expandable.others in
      let private = expandable.private in
      let body = expandable.body in
      let old : KindTree = map_scope expandable.sequential (first ∷ rest) private body in
      let within : Scopes = in_map scopes (first ∷ []) [] in
      let was = is_named tree loops scopes expandable.sequential (first ∷ rest) private body (subst (λ kind. names_asked tree loops scopes (doing kind) ≡ true) expandable.shape is) in
      let held : HoldsAmong names_asked tree loops (in_map scopes (first ∷ rest) private) body = subst (λ kind. HoldsIn names_asked tree loops scopes kind) expandable.shape holds in
      let tests : Tests = names_tests (standing tree loops scopes whole) in
      let ranges = both (is_range_passed tests first.1) (are_params_passed tests rest) was.ranges in
      let there = both (is_there tree first.0) (list_all (is_there tree) (param_numbers rest)) was.there in
      let apart = both (is_no_symbol (symbols_in tree) first.0) (list_all (is_no_symbol (symbols_in tree)) (param_numbers rest)) was.apart in
      let inner : ItemTrees = and_item line (map_scope expandable.sequential rest private body) no_item in
      subst (λ kind. HoldsAmong names_asked tree loops scopes (expanded variables line kind)) (sym expandable.shape) (
        named_is tree loops scopes expandable.sequential (first ∷ []) [] inner (record {
          ranges = joined (is_range_passed tests first.1) true ranges.0 refl;
          there = joined (is_there tree first.0) true there.0 refl;
          apart = joined (is_no_symbol (symbols_in tree) first.0) true apart.0 refl;
          own = refl;
        }),
        (
          (
            named_is tree loops within expandable.sequential rest private body (record {
              ranges = all_weaker (λ (param : ℕ × Range). is_range_passed tests param.1) (λ (param : ℕ × Range). is_range_passed (names_tests (standing tree loops within whole)) param.1)
                  (λ param is. range_more (is_variable_in_force (standing tree loops scopes whole)) (is_variable_in_force (standing tree loops within whole))
                  (λ number is. inside_too tree loops scopes (first ∷ []) [] number is) param.1 is) rest ranges.1;
              there = there.1;
              apart = apart.1;
              own = was.own;
            }),
            (among_same names_asked names_local tree loops (in_map scopes (first ∷ rest) private) (in_map within rest private) body (expanded_scopes scopes first rest private) held, tt),
          ),
          tt,
        ),
      );
  written = expanded_writes;
}
