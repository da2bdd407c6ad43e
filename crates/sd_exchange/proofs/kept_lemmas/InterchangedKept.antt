-- What two interchanged maps keep of the rules of valid graphs.
use Rattle.std.proofs.Common.{◌≡◌, ℕ, ◌+◌, List, [], ◌∷◌, ◌++◌, Bool, true, false, ◌||◌, refl, sym, ◌∙◌, ap, subst, arith, append-nil}
use Rattle.std.specs.List.{list_all, flat_map}
use Rattle.sd_range.specs.declared.range.Range.{Range}
use Rattle.sd_graph.specs.PlainTree.{KindTree, map_scope, ItemTrees, no_item, and_item, GraphTree}
use Rattle.sd_graph.specs.Wiring.{has_number}
use Rattle.sd_validity.specs.rules.Places.{doing, whole, Scopes, in_map, param_numbers}
use Rattle.sd_validity.specs.rules.Parts.{is_range_passed, are_params_passed}
use Rattle.sd_validity.specs.rules.NestedLinks.{written_by, written_in}
use Rattle.sd_validity.specs.rules.NamesInForce.{is_variable_in_force, held_at, params_at, set_at, names_tests}
use Rattle.sd_validity.specs.things.Things.{things_in, item_things}
use Rattle.sd_validity.proofs.things_lemmas.Times.{times, times_joined}
use Rattle.sd_alike.specs.alike.Maps.{IsCollapsible}
use Rattle.sd_alike.proofs.kept_lemmas.Held.{Asked, HoldsIn, HoldsAmong, IsLocal, IsWider, StaysWider, KeepsHolding}
use Rattle.sd_alike.proofs.kept_lemmas.HeldReplaced.{has_both, items_wider}
use Rattle.sd_alike.proofs.kept_lemmas.LocalRules.{AsksParams, asked_of, of_asked}
use Rattle.sd_alike.proofs.kept_lemmas.NamesThere.{all_weaker}
use Rattle.sd_alike.proofs.kept_lemmas.NamesAsked.{standing, names_asked, names_local, is_named, named_is, range_more, ranges_without, outside_too, inside_too}
use Rattle.sd_alike.proofs.kept_lemmas.Wider.{names_wider}
use Rattle.sd_alike.proofs.kept_lemmas.EachGraph.{InKind, AmongItems}
use Rattle.sd_alike.proofs.kept_lemmas.NumbersKept.{KeepsBy, KeepsNumbers, AreAmong}
use Rattle.sd_alike.proofs.kept_lemmas.RuleOfNames.{IsNamedGraph}
use Rattle.sd_exchange.specs.maps.OrderRewrites.{interchanged}

-- inside both maps the same is in force
interchanged_scopes : (loops : List ℕ) (scopes : Scopes) (outer inner : List (ℕ × Range)) (private : List ℕ) →
    IsWider loops loops (in_map (in_map scopes outer []) inner private) (in_map (in_map scopes inner []) outer private)
interchanged_scopes loops scopes outer inner private = record {
  loops = λ number there. there;
  private = λ number there. there;
  params = λ number there. turned (param_numbers outer) (param_numbers inner) scopes.params number there;
}
  where
    by : (a b c : Bool) → (a || (b || c)) ≡ (b || (a || c))
    by true true c = refl
    by true false c = refl
    by false true c = refl
    by false false c = refl

    split : (first second rest : List ℕ) (number : ℕ) → has_number (first ++ (second ++ rest)) number ≡ (has_number first number || (has_number second number || has_number rest number))
    split first second rest number = has_both first (second ++ rest) number ∙ ap (λ more. has_number first number || more) (has_both second rest number)

    turned : (first second rest : List ℕ) (number : ℕ) → has_number (second ++ (first ++ rest)) number ≡ true → has_number (first ++ (second ++ rest)) number ≡ true
    turned first second rest number there =
        split first second rest number ∙ by (has_number first number) (has_number second number) (has_number rest number) ∙ sym (split second first rest number) ∙ there

interchanged_writes : (variables line : ℕ) (kind : KindTree) → IsCollapsible variables kind → written_in (interchanged variables line kind) ≡ written_by kind
interchanged_writes variables line kind nest =
    subst (λ kind. written_in (interchanged variables line kind) ≡ written_by kind) (sym nest.shape) (append-nil (written_in nest.body ++ []))

-- a rule that asks something of each parameter alone
module _ (asked : Asked) (local : IsLocal asked) (stays : StaysWider asked) (params : AsksParams asked) where
  pub interchanged_keeps : KeepsHolding asked IsCollapsible interchanged
  interchanged_keeps = record {
    items = λ tree loops scopes variables line kind known nest is holds.
        let outer = nest.outer in
        let inner = nest.inner in
        let private = nest.private in
        let body = nest.body in
        let old : KindTree = map_scope nest.outer_sequential outer [] (and_item nest.inner_line (map_scope nest.inner_sequential inner private body) no_item) in
        let was : asked tree loops scopes (doing old) ≡ true = subst (λ kind. asked tree loops scopes (doing kind) ≡ true) nest.shape is in
        let held : HoldsIn asked tree loops scopes old = subst (λ kind. HoldsIn asked tree loops scopes kind) nest.shape holds in
        let within : Scopes = in_map scopes outer [] in
        let other : Scopes = in_map scopes inner [] in
        let inside : ItemTrees = and_item nest.inner_line (map_scope nest.outer_sequential outer private body) no_item in
        subst (λ kind. HoldsAmong asked tree loops scopes (interchanged variables line kind)) (sym nest.shape) (
          asked_of asked local params tree loops scopes nest.inner_sequential inner [] inside (of_asked asked local params tree loops within nest.inner_sequential inner private body held.0),
          (
            (
              asked_of asked local params tree loops other nest.outer_sequential outer private body
                  (of_asked asked local params tree loops scopes nest.outer_sequential outer [] (and_item nest.inner_line (map_scope nest.inner_sequential inner private body) no_item) was),
              (items_wider asked local stays tree loops (in_map within inner private) (in_map other outer private) body (interchanged_scopes loops scopes outer inner private) held.1.0, tt),
            ),
            tt,
          ),
        );
    written = interchanged_writes;
  }

-- the part of the rule of names that looks at one place alone
pub interchanged_names : KeepsHolding names_asked IsCollapsible interchanged
interchanged_names = record {
  items = λ tree loops scopes variables line kind known nest is holds.
      let outer = nest.outer in
      let inner = nest.inner in
      let private = nest.private in
      let body = nest.body in
      let rest : ItemTrees = and_item nest.inner_line (map_scope nest.inner_sequential inner private body) no_item in
      let old : KindTree = map_scope nest.outer_sequential outer [] rest in
      let within : Scopes = in_map scopes outer [] in
      let other : Scopes = in_map scopes inner [] in
      let was = is_named tree loops scopes nest.outer_sequential outer [] rest (subst (λ kind. names_asked tree loops scopes (doing kind) ≡ true) nest.shape is) in
      let held : HoldsIn names_asked tree loops scopes old = subst (λ kind. HoldsIn names_asked tree loops scopes kind) nest.shape holds in
      let inside = is_named tree loops within nest.inner_sequential inner private body held.0 in
      let inner_item : ItemTrees = and_item nest.inner_line (map_scope nest.outer_sequential outer private body) no_item in
      subst (λ kind. HoldsAmong names_asked tree loops scopes (interchanged variables line kind)) (sym nest.shape) (
        named_is tree loops scopes nest.inner_sequential inner [] inner_item (record {
          ranges = ranges_without (is_variable_in_force (standing tree loops within whole)) (is_variable_in_force (standing tree loops scopes whole)) outer
              (λ number apart is. outside_too tree loops scopes outer [] number apart is) inner nest.apart inside.ranges;
          there = inside.there;
          apart = inside.apart;
          own = refl;
        }),
        (
          (
            named_is tree loops other nest.outer_sequential outer private body (record {
              ranges = all_weaker (λ (param : ℕ × Range). is_range_passed (names_tests (standing tree loops scopes whole)) param.1) (λ (param : ℕ × Range). is_range_passed (names_tests (standing tree loops other whole)) param.1)
                  (λ param is. range_more (is_variable_in_force (standing tree loops scopes whole)) (is_variable_in_force (standing tree loops other whole))
                  (λ number is. inside_too tree loops scopes inner [] number is) param.1 is) outer was.ranges;
              there = was.there;
              apart = was.apart;
              own = inside.own;
            }),
            (items_wider names_asked names_local names_wider tree loops (in_map within inner private) (in_map other outer private) body (interchanged_scopes loops scopes outer inner private) held.1.0, tt),
          ),
          tt,
        ),
      );
  written = interchanged_writes;
}

-- ---- numbers

pub interchanged_held : KeepsNumbers held_at IsCollapsible interchanged
interchanged_held variables line kind nest =
    subst (λ kind. flat_map held_at (item_things (interchanged variables line kind)) ≡ held_at (doing kind) ++ flat_map held_at (things_in kind)) (sym nest.shape)
    (ap (λ things. nest.private ++ flat_map held_at things) (append-nil (item_things nest.body ++ [])))

pub interchanged_set : KeepsNumbers set_at IsCollapsible interchanged
interchanged_set variables line kind nest =
    subst (λ kind. flat_map set_at (item_things (interchanged variables line kind)) ≡ set_at (doing kind) ++ flat_map set_at (things_in kind)) (sym nest.shape)
    (ap (λ things. flat_map set_at things) (append-nil (item_things nest.body ++ [])))

-- the parameters are the same in another order
pub interchanged_params : KeepsBy AreAmong params_at IsCollapsible interchanged
interchanged_params variables line kind nest =
    subst (λ kind. AreAmong variables (params_at (doing kind) ++ flat_map params_at (things_in kind)) (flat_map params_at (item_things (interchanged variables line kind)))) (sym nest.shape)
    (subst (AreAmong variables (outer ++ (inner ++ rest))) (ap (λ things. inner ++ (outer ++ flat_map params_at things)) (sym (append-nil (item_things nest.body ++ [])))) (record {
      known = λ number below. turned number;
      fresh = λ number. omega (arith, turned number);
    }))
  where
    outer : List ℕ
    outer = param_numbers nest.outer

    inner : List ℕ
    inner = param_numbers nest.inner

    rest : List ℕ
    rest = flat_map params_at (item_things nest.body ++ [])

    turned : (number : ℕ) → times number (inner ++ (outer ++ rest)) ≡ times number (outer ++ (inner ++ rest))
    turned number = omega (arith, times_joined number inner (outer ++ rest), times_joined number outer rest, times_joined number outer (inner ++ rest), times_joined number inner rest)

pub interchanged_nests : (variables line : ℕ) (kind : KindTree) → IsCollapsible variables kind → InKind (λ tree. IsNamedGraph tree) kind → AmongItems (λ tree. IsNamedGraph tree) (interchanged variables line kind)
interchanged_nests variables line kind nest each =
    subst (λ kind. InKind (λ tree. IsNamedGraph tree) kind → AmongItems (λ tree. IsNamedGraph tree) (interchanged variables line kind)) (sym nest.shape) (λ each. (each, tt)) each
