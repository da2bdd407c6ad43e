-- Parameters and variables that are set are variables of their graph.
use Rattle.std.proofs.Common.{◌≡◌, ℕ, suc, ◌<◌, nat_lt, List, [], ◌++◌, length, Bool, true, ◌&&◌, refl, sym, ◌∙◌, ap, arith}
use Rattle.std.specs.List.{list_all, flat_map}
use Rattle.std.proofs.lemmas.List.Folds.{list_all-append}
use Rattle.sd_graph.specs.PlainTree.{KindTree, task, map_scope, consume_scope, nested_graph, reduction, copy, ItemTrees, no_item, and_item, StateTrees, no_state, and_state, GraphTree, graph, ExitTree}
use Rattle.sd_graph.specs.TreeParts.{containers_of}
use Rattle.sd_graph.specs.ContainerParts.{Containers}
use Rattle.sd_graph.specs.Wiring.{has_number}
use Rattle.sd_validity.specs.rules.Places.{Thing, leaving, doing, Scopes, no_scopes, in_map, in_consume, loops_at}
use Rattle.sd_validity.specs.rules.Parts.{is_thing_passed}
use Rattle.sd_validity.specs.rules.NamesInForce.{is_stream_in_force, are_own_private, is_there, are_symbols_apart, params_at, set_at, names_tests, are_given_there, are_names_in_force}
use Rattle.sd_validity.specs.things.Things.{things_in, item_things, state_things}
use Rattle.sd_validity.proofs.rules_lemmas.HoldingLemmas.{both}
use Rattle.sd_alike.proofs.kept_lemmas.Held.{HoldsIn, HoldsAmong, HoldsInStates, HoldsAll}
use Rattle.sd_alike.proofs.kept_lemmas.HeldPlaces.{joined}
use Rattle.sd_alike.proofs.kept_lemmas.NamesAsked.{names_asked, standing}
use Rattle.sd_alike.proofs.kept_lemmas.OnceThings.{flat_both, each_of}
use Rattle.sd_alike.proofs.kept_lemmas.NumbersKept.{AreGivenBelow}

-- what is given a value at a thing is there
given_at : (tree : GraphTree) (loops : List ℕ) (scopes : Scopes) (thing : Thing) → names_asked tree loops scopes thing ≡ true →
    (list_all (is_there tree) (params_at thing) ≡ true) × (list_all (is_there tree) (set_at thing) ≡ true)
given_at tree loops scopes thing is =
    let place = standing tree loops scopes thing in
    let apart = are_symbols_apart tree thing in
    let names = both (are_names_in_force place) apart (both (are_names_in_force place && apart) (are_own_private (containers_of tree) thing) is).0 in
    let named = is_thing_passed (names_tests place) thing && is_stream_in_force (containers_of tree) scopes.private thing in
    both (list_all (is_there tree) (params_at thing)) (list_all (is_there tree) (set_at thing)) (both named (are_given_there place) names.0).1

module _ (numbers : Thing → List ℕ) (asks : (tree : GraphTree) (loops : List ℕ) (scopes : Scopes) (thing : Thing) → names_asked tree loops scopes thing ≡ true → list_all (is_there tree) (numbers thing) ≡ true) where
  also : (tree : GraphTree) (first rest : List ℕ) → list_all (is_there tree) first ≡ true → list_all (is_there tree) rest ≡ true → list_all (is_there tree) (first ++ rest) ≡ true
  also tree first rest is more = list_all-append (is_there tree) first rest ∙ joined (list_all (is_there tree) first) (list_all (is_there tree) rest) is more

  also_flat : (tree : GraphTree) (first rest : List Thing) → list_all (is_there tree) (flat_map numbers first) ≡ true → list_all (is_there tree) (flat_map numbers rest) ≡ true →
      list_all (is_there tree) (flat_map numbers (first ++ rest)) ≡ true
  also_flat tree first rest is more = ap (list_all (is_there tree)) (flat_both numbers first rest) ∙ also tree (flat_map numbers first) (flat_map numbers rest) is more

  mutual
    kind_given : (tree : GraphTree) (loops : List ℕ) (scopes : Scopes) (kind : KindTree) → HoldsIn names_asked tree loops scopes kind → list_all (is_there tree) (flat_map numbers (things_in kind)) ≡ true
    kind_given tree loops scopes (task code ins outs) holds = refl
    kind_given tree loops scopes (map_scope sequential params private body) holds = items_given tree loops (in_map scopes params private) body holds
    kind_given tree loops scopes (consume_scope stream element private body) holds = items_given tree loops (in_consume scopes element private) body holds
    kind_given tree loops scopes (nested_graph inner links) holds = refl
    kind_given tree loops scopes (reduction resolution axis identity from to) holds = refl
    kind_given tree loops scopes (copy from to) holds = refl

    items_given : (tree : GraphTree) (loops : List ℕ) (scopes : Scopes) (items : ItemTrees) → HoldsAmong names_asked tree loops scopes items → list_all (is_there tree) (flat_map numbers (item_things items)) ≡ true
    items_given tree loops scopes no_item holds = refl
    items_given tree loops scopes (and_item line kind items) holds =
        also tree (numbers (doing kind)) (flat_map numbers (things_in kind ++ item_things items)) (asks tree loops scopes (doing kind) holds.0)
        (also_flat tree (things_in kind) (item_things items) (kind_given tree loops scopes kind holds.1.0) (items_given tree loops scopes items holds.1.1))

  states_given : (tree : GraphTree) (number : ℕ) (states : StateTrees) → HoldsInStates names_asked tree number states → list_all (is_there tree) (flat_map numbers (state_things states)) ≡ true
  states_given tree number no_state holds = refl
  states_given tree number (and_state items exits states) holds =
      also tree (numbers (leaving items exits)) (flat_map numbers (item_things items ++ state_things states)) (asks tree (loops_at tree number) no_scopes (leaving items exits) holds.0)
      (also_flat tree (item_things items) (state_things states) (items_given tree (loops_at tree number) no_scopes items holds.1.0) (states_given tree (suc number) states holds.1.1))

pub given_below : (name : List ℕ) (containers : Containers) (arguments : ℕ) (variables : List (List ℕ)) (symbols : ℕ) (states : StateTrees) →
    HoldsAll names_asked (graph name containers arguments variables symbols states) → AreGivenBelow (length variables) states
given_below name containers arguments variables symbols states holds =
    let tree : GraphTree = graph name containers arguments variables symbols states in
    record {
      params = λ number is. below number (each_of (is_there tree) (flat_map params_at (state_things states)) number (states_given params_at (λ tree loops scopes thing is. (given_at tree loops scopes thing is).0) tree 0 states holds.1) is);
      set = λ number is. below number (each_of (is_there tree) (flat_map set_at (state_things states)) number (states_given set_at (λ tree loops scopes thing is. (given_at tree loops scopes thing is).1) tree 0 states holds.1) is);
    }
  where
    below : (number : ℕ) → nat_lt number (length variables) ≡ true → number < length variables
    below number is = grind (arith, is)
