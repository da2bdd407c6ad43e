-- Where a graph is changed to one that is done where it is, or is done where that is, so is each graph round it.
use Rattle.std.proofs.Common.{◌≡◌, ℕ, zero, suc, ℤ, pos, List, [], ◌∷◌, map, length, replicate, Bool, true, false, refl, sym, ap, subst}
use Rattle.sd_range.specs.Points.{points}
use Rattle.sd_work.specs.Memory.{Memory}
use Rattle.sd_work.specs.Exit.{Values}
use Rattle.sd_work.specs.Residual.{Term, owning, pool, idle}
use Rattle.sd_work.specs.BigStep.{leaving, big_step}
use Rattle.sd_graph.specs.PlainTree.{KindTree, task, map_scope, consume_scope, nested_graph, reduction, copy, ItemTrees, no_item, and_item, StateTrees, no_state, and_state, GraphTree, graph}
use Rattle.sd_graph.specs.TreeParts.{containers_of, exits_at}
use Rattle.sd_graph.specs.Context.{Reach, Context, private_memory, frames_at}
use Rattle.sd_graph.specs.Unfold.{at_point, point_terms, map_over, at_element, element_memory, at_state, reach_inside, run_memory, exit_of, unfold_kind, unfold_items, unfold_state, unfold_graph}
use Rattle.sd_graph.specs.declared.place.Frame.{Frame}
use Rattle.sd_graph.specs.declared.place.Place.{Place}
use Rattle.sd_alike.specs.alike.Lift.{as_it_is, reach_in}
use Rattle.sd_alike.specs.alike.SameWork.{AgreeBelow, AreExitsSame}
use Rattle.sd_alike.specs.alike.Alike.{KindBelow, ItemsBelow, StatesBelow, NamesItsVariables, AreAlike}
use Rattle.sd_alike.proofs.alike_lemmas.SameValues.{points_same}
use Rattle.sd_alike.proofs.alike_lemmas.SameLeaves.{exits_alike}
use Rattle.sd_alike.proofs.alike_lemmas.SameTrees.{entered_alike, point_alike, inside_in, exits_below, body_of, kind_same, items_same, state_same}
use Rattle.sd_alike.proofs.alike_lemmas.SamePlaces.{run_step, graph_step}
use Rattle.sd_statex.specs.states.ChangedGraphs.{kind_changed, items_changed, states_changed, graph_changed, KindHas, ItemsHave, StatesHave, GraphHas}
use Rattle.sd_statex.specs.states.Reaching.{Reaches, AtMost}
use Rattle.sd_statex.proofs.states_lemmas.More.{reach_leaving}
use Rattle.sd_statex.proofs.states_lemmas.Follows.{Follow, TermFollows, PartsFollow, same_follows, same_follow, also_follows, owning_follows, pool_follows, run_follows}

-- runs inside their owners
abbrev pub RunFollows : {P Q : Type 0} → (forward : Bool) → (most more : ℕ) → Term P → Term Q → Type 0
RunFollows forward most more term other = Follow forward (run_step term most) (run_step term more) (run_step other most) (run_step other more)

-- what is changed to what
pub record IsFollowed (forward : Bool) (most more : ℕ) (Holds : GraphTree → Type 0) (change : GraphTree → GraphTree) : Type 0 where
  pub kept : (tree : GraphTree) → containers_of (change tree) ≡ containers_of tree
  pub runs : (tree : GraphTree) (reach other : ℕ → Reach) (own : Memory) (around other_around : List Frame) → Holds tree → NamesItsVariables tree → ((number : ℕ) → other number ≡ reach_in as_it_is (reach number)) →
      RunFollows forward most more (unfold_graph tree reach own around) (unfold_graph (change tree) other own other_around)

points_follow : (forward : Bool) (most more : ℕ) → AtMost most more → (term other : List ℤ → Term Place) → ((point : List ℤ) → TermFollows forward most more (term point) (other point)) → (points : List (List ℤ)) →
    PartsFollow forward most more (point_terms term points) (point_terms other points)
points_follow true most more enough term other each [] = λ memories turns now is. is
points_follow false most more enough term other each [] = λ memories turns now is. is
points_follow forward most more enough term other each (point ∷ points) =
    also_follows forward most more (term point) (other point) (point_terms term points) (point_terms other points) (each point) (points_follow forward most more enough term other each points)

-- owners with equal memories
owners_follow : (forward : Bool) (most more : ℕ) (own other_own : Memory) (part other : Term Place) → other_own ≡ own → TermFollows forward most more part other → TermFollows forward most more (owning own part) (owning other_own other)
owners_follow forward most more own other_own part other same follows =
    subst (λ memory. TermFollows forward most more (owning own part) (owning memory other)) (sym same) (owning_follows forward most more own part other follows)

nested_follows : (forward : Bool) (most more : ℕ) (tree after : GraphTree) (reach other : ℕ → Reach) (own : Memory) (around other_around : List Frame) →
    RunFollows forward most more (unfold_graph tree reach own around) (unfold_graph after other own other_around) → TermFollows forward most more (unfold_graph tree reach own around) (unfold_graph after other own other_around)
nested_follows true most more tree after reach other own around other_around follows = λ memories turns.
    subst (λ coming. Reaches coming (big_step (unfold_graph after other own other_around) more memories turns)) (sym (graph_step tree reach own around most memories turns))
    (subst (λ coming. Reaches (leaving (run_step (unfold_graph tree reach own around) most memories turns)) coming) (sym (graph_step after other own other_around more memories turns))
    (reach_leaving (run_step (unfold_graph tree reach own around) most memories turns) (run_step (unfold_graph after other own other_around) more memories turns) (follows memories turns)))
nested_follows false most more tree after reach other own around other_around follows = λ memories turns.
    subst (λ coming. Reaches coming (big_step (unfold_graph tree reach own around) more memories turns)) (sym (graph_step after other own other_around most memories turns))
    (subst (λ coming. Reaches (leaving (run_step (unfold_graph after other own other_around) most memories turns)) coming) (sym (graph_step tree reach own around more memories turns))
    (reach_leaving (run_step (unfold_graph after other own other_around) most memories turns) (run_step (unfold_graph tree reach own around) more memories turns) (follows memories turns)))

pub exits_stay : (change : GraphTree → GraphTree) (states : StateTrees) (path : List ℕ) (state : ℕ) → exits_at (states_changed change states path) state ≡ exits_at states state
exits_stay change no_state path state = refl
exits_stay change (and_state items exits states) [] state = refl
exits_stay change (and_state items exits states) (zero ∷ path) zero = refl
exits_stay change (and_state items exits states) (zero ∷ path) (suc state) = refl
exits_stay change (and_state items exits states) (suc number ∷ path) zero = refl
exits_stay change (and_state items exits states) (suc number ∷ path) (suc state) = exits_stay change states (number ∷ path) state

module _ (forward : Bool) (most more : ℕ) (enough : AtMost most more) (Holds : GraphTree → Type 0) (change : GraphTree → GraphTree) (followed : IsFollowed forward most more Holds change) where
  pub containers_stay : (tree : GraphTree) (path : List ℕ) → containers_of (graph_changed change tree path) ≡ containers_of tree
  containers_stay (graph name containers arguments variables symbols states) [] = followed.kept (graph name containers arguments variables symbols states)
  containers_stay (graph name containers arguments variables symbols states) (number ∷ path) = refl

  mutual
    kind_follows : (kind : KindTree) (line : ℕ) (path : List ℕ) (count : ℕ) (context other : Context) → KindHas Holds kind path → KindBelow count kind → AreAlike as_it_is count context other →
        TermFollows forward most more (unfold_kind kind line context) (unfold_kind (kind_changed change kind path) line other)
    kind_follows (task code ins outs) line path count context other has below alike = elim has [ ]
    kind_follows (map_scope sequential params private body) line path count context other has below alike =
        subst (λ points. TermFollows forward most more (unfold_kind (map_scope sequential params private body) line context) (map_over other sequential params private (λ inside. body_of (items_changed change body path) inside) points))
        (sym (points_same count context.values other.values alike.values params below.0))
        (points_follow forward most more enough
        (λ point. owning (private_memory context.containers private) (body_of body (at_point context params private point)))
        (λ point. owning (private_memory other.containers private) (body_of (items_changed change body path) (at_point other params private point)))
        (λ point. owners_follow forward most more (private_memory context.containers private) (private_memory other.containers private)
        (body_of body (at_point context params private point)) (body_of (items_changed change body path) (at_point other params private point)) (ap (λ containers. private_memory containers private) alike.containers)
        (items_follow body path count (at_point context params private point) (at_point other params private point) has below.1 (point_alike as_it_is count context other params private point alike)))
        (points (map (λ param. param.1) params) context.values))
    kind_follows (consume_scope stream element private body) line path count context other has below alike =
        subst (λ reach. TermFollows forward most more (unfold_kind (consume_scope stream element private body) line context)
        (pool reach.level reach.container (λ value. owning (element_memory other element private value) (body_of (items_changed change body path) (at_element other element private value))) idle false))
        (sym (alike.reach stream))
        (pool_follows forward most more enough (context.reach stream).level (context.reach stream).container
        (λ value. owning (element_memory context element private value) (body_of body (at_element context element private value)))
        (λ value. owning (element_memory other element private value) (body_of (items_changed change body path) (at_element other element private value)))
        (λ value. owners_follow forward most more (element_memory context element private value) (element_memory other element private value)
        (body_of body (at_element context element private value)) (body_of (items_changed change body path) (at_element other element private value))
        (ap (λ containers. element_memory (record context { containers = containers }) element private value) alike.containers)
        (items_follow body path count (at_element context element private value) (at_element other element private value) has below
        (entered_alike as_it_is count context other (element ∷ private) context.values other.values _ _ alike alike.values))))
    kind_follows (nested_graph inner links) line path count context other has below alike =
        subst (λ containers. TermFollows forward most more (unfold_kind (nested_graph inner links) line context)
        (unfold_graph (graph_changed change inner path) (reach_inside other links containers) (run_memory containers) (frames_at other line)))
        (sym (containers_stay inner path))
        (nested_follows forward most more inner (graph_changed change inner path) (reach_inside context links (containers_of inner)) (reach_inside other links (containers_of inner)) (run_memory (containers_of inner)) (frames_at context line) (frames_at other line)
        (graph_follows inner path (reach_inside context links (containers_of inner)) (reach_inside other links (containers_of inner)) (run_memory (containers_of inner)) (frames_at context line) (frames_at other line)
        has below.0 (inside_in as_it_is count context other links (containers_of inner) alike below.1)))
    kind_follows (reduction resolution axis identity from to) line path count context other has below alike = elim has [ ]
    kind_follows (copy from to) line path count context other has below alike = elim has [ ]

    items_follow : (items : ItemTrees) (path : List ℕ) (count : ℕ) (context other : Context) → ItemsHave Holds items path → ItemsBelow count items → AreAlike as_it_is count context other →
        PartsFollow forward most more (unfold_items items context) (unfold_items (items_changed change items path) other)
    items_follow no_item path count context other has below alike = elim has [ ]
    items_follow (and_item line kind items) [] count context other has below alike = elim has [ ]
    items_follow (and_item line kind items) (zero ∷ path) count context other has below alike =
        also_follows forward most more (unfold_kind kind line context) (unfold_kind (kind_changed change kind path) line other) (unfold_items items context) (unfold_items items other)
        (kind_follows kind line path count context other has below.0 alike) (same_follow forward most more enough (unfold_items items context) (unfold_items items other) (items_same most items as_it_is count context other below.1 alike))
    items_follow (and_item line kind items) (suc number ∷ path) count context other has below alike =
        also_follows forward most more (unfold_kind kind line context) (unfold_kind kind line other) (unfold_items items context) (unfold_items (items_changed change items (number ∷ path)) other)
        (same_follows forward most more enough (unfold_kind kind line context) (unfold_kind kind line other) (kind_same most kind line as_it_is count context other below.0 alike)) (items_follow items (number ∷ path) count context other has below.1 alike)

    state_follows : (states : StateTrees) (path : List ℕ) (state : ℕ) (count : ℕ) (context other : Context) → StatesHave Holds states path → StatesBelow count states → AreAlike as_it_is count context other →
        TermFollows forward most more (unfold_state states state context) (unfold_state (states_changed change states path) state other)
    state_follows no_state path state count context other has below alike = elim has [ ]
    state_follows (and_state items exits states) [] state count context other has below alike = elim has [ ]
    state_follows (and_state items exits states) (zero ∷ path) zero count context other has below alike = in_list forward (items_follow items path count context other has below.0 alike)
      where
        in_list : (forward : Bool) → PartsFollow forward most more (unfold_items items context) (unfold_items (items_changed change items path) other) →
            TermFollows forward most more (body_of items context) (body_of (items_changed change items path) other)
        in_list true follow = follow
        in_list false follow = follow
    state_follows (and_state items exits states) (zero ∷ path) (suc state) count context other has below alike =
        same_follows forward most more enough (unfold_state states state context) (unfold_state states state other) (state_same most states state as_it_is count context other below.1.1 alike)
    state_follows (and_state items exits states) (suc number ∷ path) zero count context other has below alike =
        same_follows forward most more enough (body_of items context) (body_of items other) (items_same most items as_it_is count context other below.0 alike)
    state_follows (and_state items exits states) (suc number ∷ path) (suc state) count context other has below alike = state_follows states (number ∷ path) state count context other has below.1.1 alike

    pub graph_follows : (tree : GraphTree) (path : List ℕ) (reach other : ℕ → Reach) (own : Memory) (around other_around : List Frame) → GraphHas Holds tree path → NamesItsVariables tree →
        ((number : ℕ) → other number ≡ reach_in as_it_is (reach number)) →
        RunFollows forward most more (unfold_graph tree reach own around) (unfold_graph (graph_changed change tree path) other own other_around)
    graph_follows (graph name containers arguments variables symbols states) [] reach other own around other_around has below reaches =
        followed.runs (graph name containers arguments variables symbols states) reach other own around other_around has below reaches
    graph_follows (graph name containers arguments variables symbols states) (number ∷ path) reach other own around other_around has below reaches =
        let after : StateTrees = states_changed change states (number ∷ path) in
        let here : ℕ → Values → Context = at_state containers variables states reach around in
        let there : ℕ → Values → Context = at_state containers variables after other other_around in
        let opening : Values = replicate (length variables) (pos 0) in
        let alike : (state : ℕ) (values other_values : Values) → AgreeBelow (length variables) values other_values → AreAlike as_it_is (length variables) (here state values) (there state other_values) =
        λ state values other_values agree. record { containers = refl; values = agree; reach = reaches } in
        run_follows forward most more enough (length variables)
        (λ state values. unfold_state states state (here state values)) (λ state values. unfold_state after state (there state values))
        (λ state values. map (exit_of (here state values)) (exits_at states state)) (λ state values. map (exit_of (there state values)) (exits_at after state))
        (λ state values other_values agree.
        subst (λ exits. AreExitsSame as_it_is (length variables) (map (exit_of (here state values)) (exits_at states state)) (map (exit_of (there state other_values)) exits))
        (sym (exits_stay change states (number ∷ path) state))
        (exits_alike as_it_is (length variables) (here state values) (there state other_values) (alike state values other_values agree) (exits_at states state) (exits_below (length variables) states state below)))
        (λ state values other_values agree. state_follows states (number ∷ path) state (length variables) (here state values) (there state other_values) has below (alike state values other_values agree))
        own 0 opening opening (λ variable below. refl)
