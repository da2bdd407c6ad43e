-- Where the conditions hold, the states to which the paths lead may be fused in the graph that has them.
use Rattle.std.proofs.Common.{◌≡◌, ◌≢◌, ℕ, zero, suc, nat_eq, nat_lt, List, [], ◌∷◌, Option, Some, None, Bool, true, false, cond, not, ◌&&◌, ◌||◌, if◌then◌else◌, refl, sym, ap, subst}
use Rattle.std.specs.Bool.{⊤}
use Rattle.std.specs.List.{AllByRecursion, filter}
use Rattle.sd_graph.specs.PlainTree.{KindTree, task, map_scope, consume_scope, nested_graph, reduction, copy, ItemTrees, no_item, and_item, StateTrees, no_state, and_state, GraphTree, graph, ExitTree, GuardTree}
use Rattle.sd_graph.specs.TreeParts.{states_of_graph, count_states, exits_at}
use Rattle.sd_validity.specs.rules.Parts.{is_empty}
use Rattle.sd_validity.specs.rules.Transitions.{is_unconditional}
use Rattle.sd_prop.specs.propagation.Scopes.{is_same_path}
use Rattle.sd_statex.specs.states.FusedStates.{plain_exit}
use Rattle.sd_statex.specs.states.ChangedGraphs.{KindHas, ItemsHave, StatesHave, GraphHas}
use Rattle.sd_statex.proofs.kept_lemmas.Moved.{equal, differ}
use Rattle.sd_statex.proofs.kept_lemmas.Carried.{behind, behind_none}
use Rattle.sd_mapx.specs.Found.{found_in, found_among, found_in_states, found_at}
use Rattle.sd_statex.specs.StatePaths.{TwoStates, parted, place_of_graph, graph_in, graph_of, graph_at_place, are_two, two_of, two_at, two_named, two_states}
use Rattle.sd_statex.specs.StateTests.{is_plain, is_one_plain, is_one, has_plain_step, lead_elsewhere, is_entered_from, is_only_way}

pub both : (a b : Bool) → (a && b) ≡ true → (a ≡ true) × (b ≡ true)
both true b is = (refl, is)
both false b is = cc

some_same : {A : Type 0} (x y : A) → Some x ≡ Some y → x ≡ y
some_same x y is = cc

is_false : (a : Bool) → not a ≡ true → a ≡ false
is_false true is = cc
is_false false is = refl

-- ---- transitions

none_empty : {A : Type 0} (members : List A) → is_empty members ≡ true → members ≡ []
none_empty [] is = refl
none_empty (member ∷ members) is = cc

no_guard : (when : Option GuardTree) → is_unconditional when ≡ true → when ≡ None
no_guard None is = refl
no_guard (Some guard) is = cc

plain_is : (second : ℕ) (exit : ExitTree) → exit.to ≡ second → is_plain exit ≡ true → exit ≡ plain_exit second
plain_is second exit to is =
    let parts = both (not exit.back) (is_unconditional exit.when && is_empty exit.set) is in
    let rest = both (is_unconditional exit.when) (is_empty exit.set) parts.1 in
    let back : exit.back ≡ false = is_false exit.back parts.0 in
    let when : exit.when ≡ None = no_guard exit.when rest.0 in
    let set : exit.set ≡ [] = none_empty exit.set rest.1 in
    λ i. record { to = to i; back = back i; when = when i; set = set i }

one_plain : (second : ℕ) (exit : ExitTree) (leads : Bool) → nat_eq exit.to second ≡ leads → is_one_plain (cond leads (exit ∷ []) []) ≡ true → exit ≡ plain_exit second
one_plain second exit true leads is = plain_is second exit (equal exit.to second leads) is
one_plain second exit false leads is = cc

only_step : (second : ℕ) (exits : List ExitTree) → is_one_plain (filter (λ exit. nat_eq exit.to second) exits) ≡ true → is_one exits ≡ true → exits ≡ plain_exit second ∷ []
only_step second [] plain one = cc
only_step second (exit ∷ []) plain one = ap (λ exit. exit ∷ []) (one_plain second exit (nat_eq exit.to second) refl plain)
only_step second (exit ∷ next ∷ exits) plain one = cc

elsewhere : (second : ℕ) (exits : List ExitTree) → lead_elsewhere second exits ≡ true → AllByRecursion (λ exit. exit.to ≢ second) exits
elsewhere second [] is = tt
elsewhere second (exit ∷ exits) is =
    let parts = both (not (nat_eq exit.to second)) (lead_elsewhere second exits) is in
    (differ exit.to second (is_false (nat_eq exit.to second) parts.0), elsewhere second exits parts.1)

at_other : (number first : ℕ) (same rest : Bool) → nat_eq number first ≡ same → number ≢ first → (same || rest) ≡ true → rest ≡ true
at_other number first true rest is other passes = absurd (other (equal number first is))
at_other number first false rest is other passes = passes

only_entry : (first second number : ℕ) (states : StateTrees) → is_entered_from first second number states ≡ true → (state : ℕ) → behind state number ≢ first → AllByRecursion (λ exit. exit.to ≢ second) (exits_at states state)
only_entry first second number no_state is state other = tt
only_entry first second number (and_state items exits states) is zero other =
    let parts = both (nat_eq number first || lead_elsewhere second exits) (is_entered_from first second (suc number) states) is in
    elsewhere second exits (at_other number first (nat_eq number first) (lead_elsewhere second exits) refl other parts.0)
only_entry first second number (and_state items exits states) is (suc state) other =
    only_entry first second (suc number) states (both (nat_eq number first || lead_elsewhere second exits) (is_entered_from first second (suc number) states) is).1 state other

-- ---- the graph at a place

module _ (Has : GraphTree → Type 0) (inner : GraphTree) (holds : Has inner) where
  own : (tree : GraphTree) → tree ≡ inner → GraphHas Has tree []
  own (graph name containers arguments variables symbols states) same = subst Has (sym same) holds

  here : (kind : KindTree) → graph_in kind ≡ Some inner → KindHas Has kind []
  here (task code ins outs) is = cc
  here (map_scope sequential params private body) is = cc
  here (consume_scope stream element private body) is = cc
  here (nested_graph other links) is = own other (some_same other inner is)
  here (reduction resolution axis identity from to) is = cc
  here (copy from to) is = cc

  mutual
    kind_place : (owner : GraphTree) (kind : KindTree) (next : ℕ) (path : List ℕ) → graph_of (found_in owner kind (next ∷ path)) ≡ Some inner → KindHas Has kind (next ∷ path)
    kind_place owner (task code ins outs) next path is = cc
    kind_place owner (map_scope sequential params private body) next path is = items_place owner body (next ∷ path) is
    kind_place owner (consume_scope stream element private body) next path is = items_place owner body (next ∷ path) is
    kind_place owner (nested_graph other links) next path is = graph_place other next path is
    kind_place owner (reduction resolution axis identity from to) next path is = cc
    kind_place owner (copy from to) next path is = cc

    items_place : (owner : GraphTree) (items : ItemTrees) (path : List ℕ) → graph_of (found_among owner items path) ≡ Some inner → ItemsHave Has items path
    items_place owner no_item path is = cc
    items_place owner (and_item line kind items) [] is = cc
    items_place owner (and_item line kind items) (zero ∷ []) is = here kind is
    items_place owner (and_item line kind items) (zero ∷ next ∷ path) is = kind_place owner kind next path is
    items_place owner (and_item line kind items) (suc number ∷ path) is = items_place owner items (number ∷ path) is

    states_place : (owner : GraphTree) (states : StateTrees) (path : List ℕ) → graph_of (found_in_states owner states path) ≡ Some inner → StatesHave Has states path
    states_place owner no_state path is = cc
    states_place owner (and_state items exits states) [] is = cc
    states_place owner (and_state items exits states) (zero ∷ path) is = items_place owner items path is
    states_place owner (and_state items exits states) (suc number ∷ path) is = states_place owner states (number ∷ path) is

    graph_place : (tree : GraphTree) (next : ℕ) (path : List ℕ) → graph_of (found_at tree (next ∷ path)) ≡ Some inner → GraphHas Has tree (next ∷ path)
    graph_place (graph name containers arguments variables symbols states) next path is = states_place (graph name containers arguments variables symbols states) states (next ∷ path) is

  pub at_place : (tree : GraphTree) (place : List ℕ) → graph_at_place tree place ≡ Some inner → GraphHas Has tree place
  at_place tree [] is = own tree (some_same tree inner is)
  at_place tree (next ∷ path) is = graph_place tree next path is

-- ---- two states

-- the graph that has them is found at the place
pub record IsThere (tree : GraphTree) (two : TwoStates) : Type 0 where
  pub inner : GraphTree
  pub found : graph_at_place tree two.place ≡ Some inner
  pub states : states_of_graph inner ≡ two.states
  pub apart : two.first ≢ two.second

abbrev AreThere : GraphTree → Option TwoStates → Type 0
AreThere tree None = ⊤
AreThere tree (Some two) = IsThere tree two

there_of : (tree : GraphTree) (found : Option GraphTree) (place : List ℕ) (first second : ℕ) → graph_at_place tree place ≡ found → AreThere tree (two_of found place first second)
there_of tree None place first second is = tt
there_of tree (Some inner) place first second is = by (are_two (count_states (states_of_graph inner)) first second) refl
  where
    by : (two : Bool) → are_two (count_states (states_of_graph inner)) first second ≡ two →
        AreThere tree (if two then Some (record { place = place; states = states_of_graph inner; first = first; second = second }) else None)
    by true two =
        let parts = both (nat_lt first (count_states (states_of_graph inner)) && nat_lt second (count_states (states_of_graph inner))) (not (nat_eq first second)) two in
        record { inner = inner; found = is; states = refl; apart = differ first second (is_false (nat_eq first second) parts.1) }
    by false two = tt

there_at : (tree : GraphTree) (place : Option (List ℕ)) (first second : ℕ) → AreThere tree (two_at tree place first second)
there_at tree None first second = tt
there_at tree (Some place) first second = there_of tree (graph_at_place tree place) place first second refl

there_named : (tree : GraphTree) (first second : Option (List ℕ × ℕ)) → AreThere tree (two_named tree first second)
there_named tree None other = tt
there_named tree (Some first) None = tt
there_named tree (Some first) (Some second) = by (is_same_path first.0 second.0)
  where
    by : (same : Bool) → AreThere tree (if same then two_at tree (place_of_graph tree first.0) first.1 second.1 else None)
    by true = there_at tree (place_of_graph tree first.0) first.1 second.1
    by false = tt

pub are_there : (tree : GraphTree) (first second : List ℕ) (two : TwoStates) → two_states tree first second ≡ Some two → IsThere tree two
are_there tree first second two is = subst (AreThere tree) is (there_named tree (parted first) (parted second))

-- what the conditions ask of the states of a graph
pub record AreSole (first second : ℕ) (states : StateTrees) : Type 0 where
  pub step : exits_at states first ≡ plain_exit second ∷ []
  pub entry : (state : ℕ) → state ≢ first → AllByRecursion (λ exit. exit.to ≢ second) (exits_at states state)
  pub apart : first ≢ second

pub are_sole : (states : StateTrees) (first second : ℕ) → first ≢ second → has_plain_step states first second ≡ true → is_only_way states first second ≡ true → AreSole first second states
are_sole states first second apart plain only =
    let parts = both (is_one (exits_at states first)) (is_entered_from first second 0 states) only in
    record {
      step = only_step second (exits_at states first) plain parts.0;
      entry = λ state other. only_entry first second 0 states parts.1 state (subst (λ number. number ≢ first) (sym (behind_none state)) other);
      apart = apart;
    }
