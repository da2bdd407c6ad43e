-- Each variable has one begin.
use Rattle.std.proofs.Common.{◌≡◌, ◌∙◌, ℕ, nat_eq, List, [], ◌∷◌, ◌++◌, map, Some, Bool, true, false, not, ◌||◌, cond, refl, ap, sym, subst, bytes_eq, arith}
use Rattle.std.proofs.lemmas.Option.{same_Some}
use Rattle.std.proofs.lemmas.Slice.Eq.{bytes_eq-Decides}
use Rattle.std.specs.List.{AllByRecursion, list_all, flat_map}
use Rattle.sd_range.specs.declared.affine.Affine.{Affine}
use Rattle.sd_graph.specs.PlainTree.{StateTrees, GraphTree, ExitTree}
use Rattle.sd_graph.specs.TreeParts.{exits_at, states_of_graph}
use Rattle.sd_validity.specs.rules.Places.{Thing, whole, leaving, doing, Place}
use Rattle.sd_validity.specs.rules.NamesInForce.{of_graph}
use Rattle.sd_validity.specs.rules.Transitions.{begins_of, begins_at, are_begins_agreed, agree, begins_before}
use Rattle.sd_validity.specs.paths.GraphAt.{graph_at}
use Rattle.sd_validity.proofs.paths_lemmas.Found.{all_joined}
use Rattle.sd_validity.proofs.paths_lemmas.Leaving.{HasExits, HasItsExits}

-- each pair is of a variable and its begin
abbrev pub HaveBegins : (begin : ℕ → ℕ) → List (ℕ × ℕ) → Type 0
HaveBegins begin pairs = AllByRecursion (λ pair. pair.1 ≡ begin pair.0) pairs

one_agrees : (first second to other : ℕ) (same : Bool) → nat_eq first second ≡ same → (first ≡ second → to ≡ other) → (not (nat_eq first second) || nat_eq to other) ≡ true
one_agrees first second to other true e so =
    let equal : first ≡ second = grind (arith, e) in
    let to_other : to ≡ other = so equal in
    let found : nat_eq to other ≡ true = grind (arith, to_other) in
    rw (e, found) refl
one_agrees first second to other false e so = rw e refl

agrees : (begin : ℕ → ℕ) (pair : ℕ × ℕ) → pair.1 ≡ begin pair.0 → (known : List (ℕ × ℕ)) → HaveBegins begin known → list_all (are_begins_agreed pair) known ≡ true
agrees begin pair is [] all = refl
agrees begin pair is (other ∷ known) all =
    rw (one_agrees pair.0 other.0 pair.1 other.1 (nat_eq pair.0 other.0) refl (λ same. is ∙ ap begin same ∙ sym all.0)) (agrees begin pair is known all.1)

pub all_agree : (begin : ℕ → ℕ) (known pairs : List (ℕ × ℕ)) → HaveBegins begin known → HaveBegins begin pairs → agree known pairs ≡ true
all_agree begin known [] before all = refl
all_agree begin known (pair ∷ pairs) before all =
    rw (agrees begin pair all.0 known before) (all_agree begin (known ++ pair ∷ []) pairs (all_joined (λ pair. pair.1 ≡ begin pair.0) known (pair ∷ []) before (all.0, tt)) all.1)

-- ---- places

-- each transition that sets a variable leads to the variable's begin
abbrev pub LeadsToBegins : (begin : ℕ → ℕ) → List ExitTree → Type 0
LeadsToBegins begin exits = AllByRecursion (λ exit. AllByRecursion (λ assignment. exit.to ≡ begin assignment.0) exit.set) exits

abbrev pub HasBegins : StateTrees → Type 0
HasBegins states = (begin : ℕ → ℕ) × ((state : ℕ) → LeadsToBegins begin (exits_at states state))

set_begins : (begin : ℕ → ℕ) (to : ℕ) (set : List (ℕ × Affine)) → AllByRecursion (λ (assignment : ℕ × Affine). to ≡ begin assignment.0) set → HaveBegins begin (map (λ assignment. (assignment.0, to)) set)
set_begins begin to [] all = tt
set_begins begin to (assignment ∷ set) all = (all.0, set_begins begin to set all.1)

exits_begin : (begin : ℕ → ℕ) (exits : List ExitTree) → LeadsToBegins begin exits → HaveBegins begin (flat_map begins_of exits)
exits_begin begin [] all = tt
exits_begin begin (exit ∷ exits) all =
    all_joined (λ pair. pair.1 ≡ begin pair.0) (begins_of exit) (flat_map begins_of exits) (set_begins begin exit.to exit.set all.0) (exits_begin begin exits all.1)

thing_begins : (begin : ℕ → ℕ) (thing : Thing) (place : Place) → HasExits thing place → ((state : ℕ) → LeadsToBegins begin (exits_at (states_of_graph place.graph) state)) → HaveBegins begin (begins_at thing)
thing_begins begin whole place is all = tt
thing_begins begin (leaving items exits) place is all = exits_begin begin exits (subst (LeadsToBegins begin) is (all place.state))
thing_begins begin (doing kind) place is all = tt

-- in a tree the graph of a place is that at its path
abbrev pub IsIn : GraphTree → Place → Type 0
IsIn tree place = graph_at tree place.graph_path ≡ Some place.graph

pub one_graph : (tree : GraphTree) (place other : Place) → IsIn tree place → IsIn tree other → other.graph_path ≡ place.graph_path → other.graph ≡ place.graph
one_graph tree place other is others same = same_Some other.graph place.graph (sym others ∙ ap (graph_at tree) same ∙ is)

same_path : (first second : List ℕ) → bytes_eq first second ≡ true → first ≡ second
same_path first second e = (bytes_eq-Decides first second).0 e

module _ (tree : GraphTree) (place : Place) (here : IsIn tree place) (begin : ℕ → ℕ) (begins : (state : ℕ) → LeadsToBegins begin (exits_at (states_of_graph place.graph) state)) where
  one_before : (other : Place) (others : List Place) (same : Bool) → bytes_eq other.graph_path place.graph_path ≡ same → IsIn tree other → HasItsExits other →
      HaveBegins begin (flat_map (λ other. begins_at other.thing) others) → HaveBegins begin (flat_map (λ other. begins_at other.thing) (cond same (other ∷ others) others))
  one_before other others true e is exits all =
      let graph : other.graph ≡ place.graph = one_graph tree place other here is (same_path other.graph_path place.graph_path e) in
      all_joined (λ pair. pair.1 ≡ begin pair.0) (begins_at other.thing) (flat_map (λ other. begins_at other.thing) others)
      (thing_begins begin other.thing other exits (subst (λ tree. (state : ℕ) → LeadsToBegins begin (exits_at (states_of_graph tree) state)) (sym graph) begins)) all
  one_before other others false e is exits all = all

  all_before : (before : List Place) → AllByRecursion (λ other. IsIn tree other × HasItsExits other) before → HaveBegins begin (begins_before before place)
  all_before [] known = tt
  all_before (other ∷ before) known =
      one_before other (of_graph before place) (bytes_eq other.graph_path place.graph_path) refl known.0.0 known.0.1 (all_before before known.1)

  pub begins_agree : (before : List Place) → AllByRecursion (λ other. IsIn tree other × HasItsExits other) before → HasItsExits place → agree (begins_before before place) (begins_at place.thing) ≡ true
  begins_agree before known exits = all_agree begin (begins_before before place) (begins_at place.thing) (all_before before known) (thing_begins begin place.thing place exits begins)
