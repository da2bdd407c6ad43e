-- A graph does the same in contexts that are alike.
use Rattle.std.proofs.Common.{◌≡◌, ℕ, zero, suc, ℤ, pos, List, [], ◌∷◌, map, length, Option, Some, None, Bool, true, false, if◌then◌else◌, replicate, slice_get, refl, sym, ap, subst}
use Rattle.std.specs.List.{AllByRecursion, zip}
use Rattle.sd_range.specs.declared.range.Range.{Range}
use Rattle.sd_range.specs.Points.{points}
use Rattle.sd_range.specs.Subset.{inside}
use Rattle.sd_work.specs.Memory.{Memory}
use Rattle.sd_work.specs.Leaf.{Leaf, copy_of, reduction_of}
use Rattle.sd_work.specs.Exit.{Values}
use Rattle.sd_work.specs.Residual.{Term, leaf, owning, pool, idle}
use Rattle.sd_graph.specs.PlainTree.{KindTree, task, map_scope, consume_scope, nested_graph, reduction, copy, ItemTrees, no_item, and_item, StateTrees, no_state, and_state, GraphTree, graph}
use Rattle.sd_graph.specs.TreeParts.{containers_of, exits_at}
use Rattle.sd_graph.specs.ContainerParts.{Containers, container_at, is_argument, extents_of}
use Rattle.sd_graph.specs.Wiring.{has_number}
use Rattle.sd_graph.specs.Context.{Reach, Context, link_elements, own_reach, raised, view, private_memory, entered, place_at, frames_at}
use Rattle.sd_graph.specs.Unfold.{assigned, at_point, point_terms, map_over, at_element, element_memory, list_of, at_state, reach_through, reach_inside, run_memory, task_of, exit_of, reduction_pairs, unfold_kind, unfold_items, unfold_state, unfold_graph}
use Rattle.sd_graph.specs.declared.container.Container.{Container}
use Rattle.sd_graph.specs.declared.link.Link.{Link}
use Rattle.sd_graph.specs.declared.place.Frame.{Frame}
use Rattle.sd_graph.specs.declared.place.Place.{Place}
use Rattle.sd_alike.specs.alike.Lift.{Lift, as_it_is, added, reach_in, leaf_in, level_in}
use Rattle.sd_alike.specs.alike.Lift as lift
use Rattle.sd_alike.specs.alike.SameWork.{DoesSame, DoSame, AgreeBelow}
use Rattle.sd_alike.specs.alike.Alike.{LinkBelow, ExitBelow, KindBelow, ItemsBelow, StatesBelow, NamesItsVariables, AreAlike}
use Rattle.sd_alike.proofs.alike_lemmas.SameLeaf.{leaf_same}
use Rattle.sd_alike.proofs.alike_lemmas.SameTerms.{also_same, owning_same, nested_same, pool_same}
use Rattle.sd_alike.proofs.alike_lemmas.SameValues.{points_same, index_same, agree_all, member_has}
use Rattle.sd_alike.proofs.alike_lemmas.SameLeaves.{task_alike, copy_alike, reduction_alike, exits_alike}

-- ---- reaches

pub own_reach_inside : (lifted : Lift) (containers others : Containers) (number : ℕ) → others ≡ containers → own_reach others number ≡ reach_in (lift.inside lifted) (own_reach containers number)
own_reach_inside as_it_is containers others number same = ap (λ containers. own_reach containers number) same
own_reach_inside (added above memory) containers others number same = ap (λ containers. own_reach containers number) same

pub raised_inside : (lifted : Lift) (reach other : Reach) → other ≡ reach_in lifted reach → raised other ≡ reach_in (lift.inside lifted) (raised reach)
raised_inside as_it_is reach other same = ap raised same
raised_inside (added above memory) reach other same = ap raised same

entered_reach : (lifted : Lift) (own : Bool) (containers others : Containers) (number : ℕ) (reach other : Reach) → others ≡ containers → other ≡ reach_in lifted reach →
    (if own then own_reach others number else raised other) ≡ reach_in (lift.inside lifted) (if own then own_reach containers number else raised reach)
entered_reach lifted true containers others number reach other same_containers same = own_reach_inside lifted containers others number same_containers
entered_reach lifted false containers others number reach other same_containers same = raised_inside lifted reach other same

pub entered_alike : (lifted : Lift) (count : ℕ) (context other : Context) (own : List ℕ) (values other_values : Values) (shown other_shown : List (List ℕ × ℤ)) →
    AreAlike lifted count context other → AgreeBelow count values other_values → AreAlike (lift.inside lifted) count (entered context own values shown) (entered other own other_values other_shown)
entered_alike lifted count context other own values other_values shown other_shown alike agree = record {
  containers = alike.containers;
  values = agree;
  reach = λ number. entered_reach lifted (has_number own number) context.containers other.containers number (context.reach number) (other.reach number) alike.containers (alike.reach number);
}

pub point_alike : (lifted : Lift) (count : ℕ) (context other : Context) (params : List (ℕ × Range)) (private : List ℕ) (point : List ℤ) → AreAlike lifted count context other →
    AreAlike (lift.inside lifted) count (at_point context params private point) (at_point other params private point)
point_alike lifted count context other params private point alike =
    entered_alike lifted count context other private _ _ _ _ alike (agree_all count (assigned params point) context.values other.values alike.values)

-- a view through a link
view_in : (lifted : Lift) (count : ℕ) (context other : Context) (container : Container) (link : Link) → AreAlike lifted count context other → LinkBelow count link →
    view container link.memlet.subset other.values (other.reach link.memlet.container) ≡ reach_in lifted (view container link.memlet.subset context.values (context.reach link.memlet.container))
view_in lifted count context other container link alike below = λ i. record {
  level = (alike.reach link.memlet.container i).level;
  container = (alike.reach link.memlet.container i).container;
  find = λ index. if inside (extents_of container) index then (alike.reach link.memlet.container i).find (index_same count context.values other.values alike.values link.memlet.subset.dims below index i) else None;
}

through_in : (lifted : Lift) (count : ℕ) (context other : Context) (inner : Containers) (link : Option Link) (number : ℕ) → AreAlike lifted count context other → ((through : Link) → link ≡ Some through → LinkBelow count through) →
    reach_through other link inner number ≡ reach_in (lift.inside lifted) (reach_through context link inner number)
through_in lifted count context other inner None number alike below = own_reach_inside lifted inner inner number refl
through_in lifted count context other inner (Some link) number alike below = raised_inside lifted _ _ (view_in lifted count context other (container_at inner number) link alike (below link refl))

pub inside_in : (lifted : Lift) (count : ℕ) (context other : Context) (links : List Link) (inner : Containers) → AreAlike lifted count context other → AllByRecursion (LinkBelow count) links → (number : ℕ) →
    reach_inside other links inner number ≡ reach_in (lift.inside lifted) (reach_inside context links inner number)
inside_in lifted count context other links inner alike below number = by_kind (is_argument (container_at inner number).kind)
  where
    by_kind : (argument : Bool) → (if argument then reach_through other (slice_get links number) inner number else own_reach inner number)
        ≡ reach_in (lift.inside lifted) (if argument then reach_through context (slice_get links number) inner number else own_reach inner number)
    by_kind true = through_in lifted count context other inner (slice_get links number) number alike (member_has (LinkBelow count) links number below)
    by_kind false = own_reach_inside lifted inner inner number refl

-- ---- graphs

leaf_does_same : (most : ℕ) (lifted : Lift) (place other_place : Place) (work other : Leaf) → other ≡ leaf_in lifted work → DoesSame most lifted (leaf place work) (leaf other_place other)
leaf_does_same most lifted place other_place work other same = subst (λ other. DoesSame most lifted (leaf place work) (leaf other_place other)) (sym same) (leaf_same lifted place other_place work)

pub points_do_same : (most : ℕ) (lifted : Lift) (term other : List ℤ → Term Place) → ((point : List ℤ) → DoesSame most lifted (term point) (other point)) → (points : List (List ℤ)) →
    DoSame most lifted (point_terms term points) (point_terms other points)
points_do_same most lifted term other each [] = λ memories turns. refl
points_do_same most lifted term other each (point ∷ points) = also_same most lifted (term point) (other point) (point_terms term points) (point_terms other points) (each point) (points_do_same most lifted term other each points)

pub exits_below : (count : ℕ) (states : StateTrees) (state : ℕ) → StatesBelow count states → AllByRecursion (ExitBelow count) (exits_at states state)
exits_below count no_state state below = tt
exits_below count (and_state items exits states) zero below = below.1.0
exits_below count (and_state items exits states) (suc state) below = exits_below count states state below.1.1

-- owners with equal memories
pub owners_do_same : (most : ℕ) (lifted : Lift) (own other_own : Memory) (part other : Term Place) → other_own ≡ own → DoesSame most (lift.inside lifted) part other → DoesSame most lifted (owning own part) (owning other_own other)
owners_do_same most lifted own other_own part other same does = subst (λ memory. DoesSame most lifted (owning own part) (owning memory other)) (sym same) (owning_same most lifted own part other does)

-- what the body of a scope has to do
abbrev pub body_of : ItemTrees → Context → Term Place
body_of body context = list_of context body (unfold_items body context)

mutual
  pub kind_same : (most : ℕ) (kind : KindTree) (line : ℕ) (lifted : Lift) (count : ℕ) (context other : Context) → KindBelow count kind → AreAlike lifted count context other →
      DoesSame most lifted (unfold_kind kind line context) (unfold_kind kind line other)
  kind_same most (task code ins outs) line lifted count context other below alike =
      leaf_does_same most lifted (place_at context line) (place_at other line) (task_of context code ins outs) (task_of other code ins outs) (task_alike lifted count context other alike code ins outs below.0 below.1.0 below.1.1)
  kind_same most (map_scope sequential params private body) line lifted count context other below alike =
      subst (λ points. DoesSame most lifted (unfold_kind (map_scope sequential params private body) line context) (map_over other sequential params private (λ inside. list_of inside body (unfold_items body inside)) points))
      (sym (points_same count context.values other.values alike.values params below.0))
      (points_do_same most lifted
      (λ point. owning (private_memory context.containers private) (body_of body (at_point context params private point)))
      (λ point. owning (private_memory other.containers private) (body_of body (at_point other params private point)))
      (λ point. owners_do_same most lifted (private_memory context.containers private) (private_memory other.containers private) (body_of body (at_point context params private point)) (body_of body (at_point other params private point)) (ap (λ containers. private_memory containers private) alike.containers)
      (items_same most body (lift.inside lifted) count (at_point context params private point) (at_point other params private point) below.1 (point_alike lifted count context other params private point alike)))
      (points (map (λ param. param.1) params) context.values))
  kind_same most (consume_scope stream element private body) line lifted count context other below alike =
      subst (λ reach. DoesSame most lifted (unfold_kind (consume_scope stream element private body) line context)
      (pool reach.level reach.container (λ value. owning (element_memory other element private value) (let inside = at_element other element private value in list_of inside body (unfold_items body inside))) idle false))
      (sym (alike.reach stream))
      (pool_same most lifted (context.reach stream).level (context.reach stream).container
      (λ value. owning (element_memory context element private value) (body_of body (at_element context element private value)))
      (λ value. owning (element_memory other element private value) (body_of body (at_element other element private value)))
      (λ value. owners_do_same most lifted (element_memory context element private value) (element_memory other element private value) (body_of body (at_element context element private value)) (body_of body (at_element other element private value)) (ap (λ containers. element_memory (record context { containers = containers }) element private value) alike.containers)
      (items_same most body (lift.inside lifted) count (at_element context element private value) (at_element other element private value) below
      (entered_alike lifted count context other (element ∷ private) context.values other.values _ _ alike alike.values))))
  kind_same most (nested_graph inner links) line lifted count context other below alike =
      graph_same most inner lifted (reach_inside context links (containers_of inner)) (reach_inside other links (containers_of inner)) (run_memory (containers_of inner)) (frames_at context line) (frames_at other line)
      below.0 (inside_in lifted count context other links (containers_of inner) alike below.1)
  kind_same most (reduction resolution axis identity from to) line lifted count context other below alike =
      leaf_does_same most lifted (place_at context line) (place_at other line)
      (reduction_of resolution identity (link_elements context to) (reduction_pairs context axis from to)) (reduction_of resolution identity (link_elements other to) (reduction_pairs other axis from to))
      (reduction_alike lifted count context other alike resolution axis identity from to below.0 below.1)
  kind_same most (copy from to) line lifted count context other below alike =
      leaf_does_same most lifted (place_at context line) (place_at other line) (copy_of (zip (link_elements context from) (link_elements context to))) (copy_of (zip (link_elements other from) (link_elements other to))) (copy_alike lifted count context other alike from to below.0 below.1)

  pub items_same : (most : ℕ) (items : ItemTrees) (lifted : Lift) (count : ℕ) (context other : Context) → ItemsBelow count items → AreAlike lifted count context other →
      DoSame most lifted (unfold_items items context) (unfold_items items other)
  items_same most no_item lifted count context other below alike = λ memories turns. refl
  items_same most (and_item line kind items) lifted count context other below alike =
      also_same most lifted (unfold_kind kind line context) (unfold_kind kind line other) (unfold_items items context) (unfold_items items other)
      (kind_same most kind line lifted count context other below.0 alike) (items_same most items lifted count context other below.1 alike)

  pub state_same : (most : ℕ) (states : StateTrees) (state : ℕ) (lifted : Lift) (count : ℕ) (context other : Context) → StatesBelow count states → AreAlike lifted count context other →
      DoesSame most lifted (unfold_state states state context) (unfold_state states state other)
  state_same most no_state state lifted count context other below alike = λ memories turns. refl
  state_same most (and_state items exits states) zero lifted count context other below alike = items_same most items lifted count context other below.0 alike
  state_same most (and_state items exits states) (suc state) lifted count context other below alike = state_same most states state lifted count context other below.1.1 alike

  pub graph_same : (most : ℕ) (tree : GraphTree) (lifted : Lift) (reach other : ℕ → Reach) (own : Memory) (around other_around : List Frame) → NamesItsVariables tree →
      ((number : ℕ) → other number ≡ reach_in (lift.inside lifted) (reach number)) → DoesSame most lifted (unfold_graph tree reach own around) (unfold_graph tree other own other_around)
  graph_same most (graph name containers arguments variables symbols states) lifted reach other own around other_around below reaches =
      let alike : (state : ℕ) (values other_values : Values) → AgreeBelow (length variables) values other_values →
      AreAlike (lift.inside lifted) (length variables) (at_state containers variables states reach around state values) (at_state containers variables states other other_around state other_values) =
      λ state values other_values agree. record { containers = refl; values = agree; reach = reaches } in
      let here : ℕ → Values → Context = at_state containers variables states reach around in
      let there : ℕ → Values → Context = at_state containers variables states other other_around in
      let opening : Values = replicate (length variables) (pos 0) in
      nested_same most lifted (length variables)
      (λ state values. unfold_state states state (here state values)) (λ state values. unfold_state states state (there state values))
      (λ state values. map (exit_of (here state values)) (exits_at states state)) (λ state values. map (exit_of (there state values)) (exits_at states state))
      own 0 opening opening (unfold_state states 0 (here 0 opening)) (unfold_state states 0 (there 0 opening))
      (λ state values other_values agree. state_same most states state (lift.inside lifted) (length variables) (here state values) (there state other_values) below (alike state values other_values agree))
      (λ state values other_values agree. exits_alike (lift.inside lifted) (length variables) (here state values) (there state other_values) (alike state values other_values agree) (exits_at states state) (exits_below (length variables) states state below))
      (λ variable below. refl)
      (state_same most states 0 (lift.inside lifted) (length variables) (here 0 opening) (there 0 opening) below (alike 0 opening opening (λ variable below. refl)))
