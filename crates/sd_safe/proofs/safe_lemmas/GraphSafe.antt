-- The work of a fit graph that is accepted is safe.
use Rattle.std.specs.List.{AllByRecursion, Contains}
use Rattle.std.proofs.Common.{◌≡◌, ◌≢◌, ◌⊎◌, inl, inr, zero, suc, ℕ, ◌<◌, ℤ, pos, List, [], ◌∷◌, ◌++◌, length, map, Bool, true, false, replicate, slice_index_or, refl, ap, sym, ◌∙◌, subst}
use Rattle.std.proofs.lemmas.Bool.{lt-ltb, true≢false}
use Rattle.std.proofs.lemmas.List.Elements.{Contains-append_left, Contains-append_right, All-from_recursion}
use Rattle.sd_range.specs.Range.{IsRange}
use Rattle.sd_range.specs.Points.{points, ranges_of}
use Rattle.sd_range.proofs.RangeLaws.{points-distinct}
use Rattle.sd_work.specs.Residual.{Term, Terms, Parts, Points, owning, part_at, idle}
use Rattle.sd_work.specs.Touch.{Touch, takes, Touches, PoolTouches}
use Rattle.sd_confluence.specs.Safe.{TouchCompatibly, TakesNothingOutside, ArePartsSafe, IsPoolSafe, IsSafe, AreSafe}
use Rattle.sd_subset.specs.boxes.Box.{Parameter}
use Rattle.sd_subset.specs.boxes.InForce.{IsNormalRange, AreFresh, AreInForce, IsNormalBox, IsPoint}
use Rattle.sd_subset.specs.boxes.InForce as box
use Rattle.sd_subset.proofs.boxes_lemmas.Disjoint.{of_member, harmless-none, harmless-one}
use Rattle.sd_graph.specs.declared.place.Place.{Place}
use Rattle.sd_graph.specs.PlainTree.{KindTree, task, map_scope, consume_scope, nested_graph, reduction, copy, ItemTrees, no_item, and_item, StateTrees, no_state, and_state, graph}
use Rattle.sd_graph.specs.ContainerParts.{name_at}
use Rattle.sd_graph.specs.Mode.{Take, do_conflict}
use Rattle.sd_graph.specs.Wiring.{Use, outside, exit_uses, kind_uses, item_uses, state_uses, uses_of_each, uses_at, is_before, before}
use Rattle.sd_range.specs.Variables.{with_variables}
use Rattle.sd_graph.specs.Context.{Reach, Context, private_memory, frames_at, source_name}
use Rattle.sd_graph.specs.Unfold.{assigned, name_of, at_point, one_after_another, order_of_points, point_terms, at_element, element_memory, list_of, at_state, reach_inside, unfold_kind, unfold_items, unfold_state}
use Rattle.sd_graph.proofs.WiringLaws.{edges_are_paths}
use Rattle.sd_prop.specs.propagation.Accesses.{Access, take_access, outside_accesses, item_accesses}
use Rattle.sd_prop.specs.propagation.ItemNodes.{item_nodes, own_node, nodes_behind, past}
use Rattle.sd_prop.specs.propagation.Scopes.{further, scope_of, scopes_itself, scopes_inside, item_scopes, state_scopes}
use Rattle.sd_prop.specs.propagation.Scopes as scopes
use Rattle.sd_race.specs.race.Pairs.{IsScopeAccepted, AreScopesAccepted}
use Rattle.sd_race.proofs.race_lemmas.Members.{all-parts}
use Rattle.sd_safe.proofs.safe_lemmas.Accepting.{AreMapHarmless, AreFree, map-harmless, elements-free, of_items}
use Rattle.sd_race.specs.cover.Fit.{IsFit, AreFit, AreStatesFit}
use Rattle.sd_race.specs.cover.Touched.{IsCovered}
use Rattle.sd_race.proofs.cover_lemmas.UsesOf.{of_access, uses-items, uses-outside, AreNormal, normal-items, normal-outside}
use Rattle.sd_race.proofs.cover_lemmas.Covered.{values-at, in_force-at, scope-covered}
use Rattle.sd_safe.proofs.safe_lemmas.Edges.{conflict-edge}
use Rattle.sd_safe.proofs.safe_lemmas.Compatible.{AreSeparate, separate-compatible}
use Rattle.sd_safe.proofs.safe_lemmas.Distinct.{inside-once, inside-apart, nested-once, nested-apart}
use Rattle.sd_safe.proofs.safe_lemmas.Parts.{contains-at, point_terms-at, point_terms-safe, not_past, part-used}
use Rattle.sd_safe.specs.safe.Reached.{FindOnce, AreApartFor}

-- items of a list that are not one before the other do not conflict
pub items-compatible : (around : List Parameter) (items : ItemTrees) (context : Context) → AreFit items around → AreInForce context.values around → FindOnce context.reach → AreApartFor context.reach (item_uses items context.containers) →
    (i j : ℕ) → i < j → before context.containers items i j ≡ false → TouchCompatibly (part_at (unfold_items items context) i) (part_at (unfold_items items context) j)
items-compatible around items context fit in_force once apart i j less free touch other is is' =
    let all = uses_of_each items context.containers in
    let (access, member, used, at) = part-used items around context i touch fit in_force is in
    let (second, member', used', at') = part-used items around context j other fit in_force is' in
    let never_both : access.container ≡ second.container → do_conflict access.mode second.mode ≡ true → ⊥ =
    λ same conflict. (let both : is_before all i j ≡ true = edges_are_paths all i j less (not_past all j (of_access second) member') (conflict-edge (uses_at all i) (uses_at all j) (of_access access) (of_access second) member member' same conflict) in
    let clash : false ≡ true = sym free ∙ both in cc) in
    separate-compatible context.reach context.values context.values access second touch other once
    (λ different conflict. apart (of_access access) (of_access second) used used' different conflict)
    (record { elements = λ index same conflict inside inside'. never_both same conflict; streams = λ same conflict box. never_both same conflict })
    at at'

list-safe : (around : List Parameter) (items : ItemTrees) (context : Context) → AreFit items around → AreInForce context.values around → FindOnce context.reach → AreApartFor context.reach (item_uses items context.containers) →
    AreSafe (unfold_items items context) → IsSafe (list_of context items (unfold_items items context))
list-safe around items context fit in_force once apart safe =
    (safe, record { compatible = items-compatible around items context fit in_force once apart; points = λ is. cc })

-- the ranges of fresh parameters are ranges
ranges-each : (own : List Parameter) → AllByRecursion (λ (parameter : Parameter). IsNormalRange parameter.1) own → AllByRecursion IsRange (ranges_of own)
ranges-each [] each = tt
ranges-each (parameter ∷ own) each = (each.0.range, ranges-each own each.1)

-- what one point of a map does
abbrev pub point_of : List Parameter → List ℕ → ItemTrees → Context → List ℤ → Term Place
point_of parameters private body context point =
    owning (private_memory context.containers private) (list_of (at_point context parameters private point) body (unfold_items body (at_point context parameters private point)))

-- what a point of a map touches outside
pub point-covered : (around parameters : List Parameter) (private : List ℕ) (body : ItemTrees) (nodes : List ℕ) (context : Context) (point : List ℤ) (touch : Touch) → AreFresh around parameters → AreFit body (around ++ parameters) → AreInForce context.values around →
    IsPoint parameters context.values point → Touches (point_of parameters private body context point) touch →
    IsCovered (box.at_point parameters point context.values) context.reach (outside_accesses private (item_accesses body context.containers nodes)) touch
point-covered around parameters private body nodes context point touch fresh fit in_force member is =
    subst (λ values. IsCovered values context.reach (outside_accesses private (item_accesses body context.containers nodes)) touch) (values-at parameters point context.values)
    (scope-covered (around ++ parameters) private body nodes (with_variables (assigned parameters point) context.values)
    (map (λ (assignment : ℕ × ℤ). (name_of context assignment.0, assignment.1)) (assigned parameters point)) context touch fit (in_force-at around parameters context.values point fresh in_force member) is)

-- accesses of an accepted map at two different points share nothing where they conflict
map-separate : (around parameters : List Parameter) (values point later : List ℤ) (accesses : List Access) (access other : Access) → AreFresh around parameters → AreInForce values around → AreNormal accesses →
    AreMapHarmless around parameters accesses → IsPoint parameters values point → IsPoint parameters values later → point ≢ later → Contains accesses access → Contains accesses other →
    AreSeparate (box.at_point parameters point values) (box.at_point parameters later values) access other
map-separate around parameters values point later accesses access other fresh in_force normal accepted here there different member member' = record {
  elements = λ index same conflict inside inside'.
      harmless-none around parameters access.box other.box values point later index fresh in_force
      (of_member (λ (a : Access). IsNormalBox a.box) accesses access normal member) (of_member (λ (a : Access). IsNormalBox a.box) accesses other normal member')
      (accepted access other member member' same conflict) here there different inside inside';
  streams = λ same conflict none. harmless-one around parameters access.box other.box values point later fresh in_force (accepted access other member member' same conflict) none here there different;
}

-- two points of a map
pub record TwoPoints (parameters : List Parameter) (values : List ℤ) (i j : ℕ) : Type 0 where
  pub here : IsPoint parameters values (slice_index_or (points (ranges_of parameters) values) i [])
  pub there : IsPoint parameters values (slice_index_or (points (ranges_of parameters) values) j [])
  pub different : slice_index_or (points (ranges_of parameters) values) i [] ≢ slice_index_or (points (ranges_of parameters) values) j []

pub two_points : (around parameters : List Parameter) (values : List ℤ) (i j : ℕ) → AreFresh around parameters → i < j → j < length (points (ranges_of parameters) values) → TwoPoints parameters values i j
two_points around parameters values i j fresh less below =
    let all = points (ranges_of parameters) values in record {
      here = contains-at all i [] (omega (Rattle.std.proofs.Common.arith, less, below));
      there = contains-at all j [] below;
      different = points-distinct (ranges_of parameters) values (All-from_recursion IsRange (ranges_of parameters) (ranges-each parameters fresh.normal)) i j [] less below;
    }

-- two points of an accepted map do not conflict
pub points-compatible : (around parameters : List Parameter) (private : List ℕ) (body : ItemTrees) (nodes : List ℕ) (context : Context) → AreFresh around parameters → AreFit body (around ++ parameters) → AreInForce context.values around →
    FindOnce context.reach → AreApartFor context.reach (outside private (item_uses body context.containers)) → AreMapHarmless around parameters (outside_accesses private (item_accesses body context.containers nodes)) →
    (i j : ℕ) → i < j → TouchCompatibly (part_at (point_terms (point_of parameters private body context) (points (ranges_of parameters) context.values)) i) (part_at (point_terms (point_of parameters private body context) (points (ranges_of parameters) context.values)) j)
points-compatible around parameters private body nodes context fresh fit in_force once apart accepted i j less touch other is is' =
    let values = context.values in
    let all = points (ranges_of parameters) values in
    let accesses = outside_accesses private (item_accesses body context.containers nodes) in
    let uses = outside private (item_uses body context.containers) in
    let (below, at) = point_terms-at (point_of parameters private body context) all i touch [] is in
    let (below', at') = point_terms-at (point_of parameters private body context) all j other [] is' in
    let two = two_points around parameters values i j fresh less below' in
    let point = slice_index_or all i [] in
    let later = slice_index_or all j [] in
    let (access, member, covers) = point-covered around parameters private body nodes context point touch fresh fit in_force two.here at in
    let (second, member', covers') = point-covered around parameters private body nodes context later other fresh fit in_force two.there at' in
    let used = uses-outside private (item_uses body context.containers) (item_accesses body context.containers nodes) (uses-items body context.containers nodes) in
    separate-compatible context.reach (box.at_point parameters point values) (box.at_point parameters later values) access second touch other once
    (λ different conflict. apart (of_access access) (of_access second) (used access member) (used second member') different conflict)
    (map-separate around parameters values point later accesses access second fresh in_force (normal-outside private (item_accesses body context.containers nodes) (normal-items body context.containers nodes (around ++ parameters) fit)) accepted two.here two.there two.different member member')
    covers covers'

-- a later point takes from no stream outside
pub points-take : (around parameters : List Parameter) (private : List ℕ) (body : ItemTrees) (nodes : List ℕ) (context : Context) → AreFresh around parameters → AreFit body (around ++ parameters) → AreInForce context.values around →
    AreMapHarmless around parameters (outside_accesses private (item_accesses body context.containers nodes)) →
    (i j : ℕ) → i < j → TakesNothingOutside (part_at (point_terms (point_of parameters private body context) (points (ranges_of parameters) context.values)) j)
points-take around parameters private body nodes context fresh fit in_force accepted i j less level container is =
    let values = context.values in
    let all = points (ranges_of parameters) values in
    let accesses = outside_accesses private (item_accesses body context.containers nodes) in
    let (below, at) = point_terms-at (point_of parameters private body context) all j (takes level container) [] is in
    let two = two_points around parameters values i j fresh less below in
    let point = slice_index_or all i [] in
    let later = slice_index_or all j [] in
    let (access, member, covers) = point-covered around parameters private body nodes context later (takes level container) fresh fit in_force two.there at in
    let separate = map-separate around parameters values point later accesses access access fresh in_force (normal-outside private (item_accesses body context.containers nodes) (normal-items body context.containers nodes (around ++ parameters) fit)) accepted two.here two.there two.different member member in
    separate.streams refl (ap (λ m. do_conflict m access.mode) covers.0 ∙ ap (do_conflict Take) covers.0) (inl covers.1)

-- parts that come one after another are before each other
in_sequence-safe : (kind : Parts) (parts : Terms Place) → ArePartsSafe kind one_after_another parts
in_sequence-safe kind parts = record {
  compatible = λ i j less free. absurd (true≢false (sym (lt-ltb i j less) ∙ free));
  points = λ is i j less free. absurd (true≢false (sym (lt-ltb i j less) ∙ free));
}

-- so the points of an accepted map may be done as they are marked
pub points-safe : (sequential : Bool) (around parameters : List Parameter) (private : List ℕ) (body : ItemTrees) (path nodes : List ℕ) (context : Context) → AreFresh around parameters → AreFit body (around ++ parameters) → AreInForce context.values around →
    FindOnce context.reach → AreApartFor context.reach (outside private (item_uses body context.containers)) → IsScopeAccepted (scope_of (scopes.points sequential parameters) private body context.containers path around nodes) →
    ArePartsSafe Points (order_of_points sequential) (point_terms (point_of parameters private body context) (points (ranges_of parameters) context.values))
points-safe true around parameters private body path nodes context fresh fit in_force once apart accepted =
    in_sequence-safe Points (point_terms (point_of parameters private body context) (points (ranges_of parameters) context.values))
points-safe false around parameters private body path nodes context fresh fit in_force once apart accepted =
    let harmless = map-harmless false parameters private body context.containers path around nodes (accepted refl) in record {
      compatible = λ i j less free. points-compatible around parameters private body (nodes_behind nodes) context fresh fit in_force once apart harmless i j less;
      points = λ is i j less free. points-take around parameters private body (nodes_behind nodes) context fresh fit in_force harmless i j less;
    }

-- what one element of a consume scope does
abbrev pub element_term : ℕ → List ℕ → ItemTrees → Context → ℤ → Term Place
element_term element private body context value =
    owning (element_memory context element private value) (list_of (at_element context element private value) body (unfold_items body (at_element context element private value)))

-- what an element touches outside
element-covered : (around : List Parameter) (element : ℕ) (private : List ℕ) (body : ItemTrees) (nodes : List ℕ) (context : Context) (value : ℤ) (touch : Touch) → AreFit body around → AreInForce context.values around →
    Touches (element_term element private body context value) touch → IsCovered context.values context.reach (outside_accesses (element ∷ private) (item_accesses body context.containers nodes)) touch
element-covered around element private body nodes context value touch fit in_force is =
    scope-covered around (element ∷ private) body nodes context.values (((source_name (name_at context.containers element), value) ∷ [])) context touch fit in_force is

-- what a pool without active terms touches is an element's touch
pool-touch : (body : ℤ → Term Place) (touch : Touch) → PoolTouches body idle touch → (value : ℤ) × Touches (body value) touch
pool-touch body touch (inl is) = absurd is
pool-touch body touch (inr is) = is

-- elements of an accepted consume scope do not conflict
pub elements-compatible : (around : List Parameter) (element : ℕ) (private : List ℕ) (body : ItemTrees) (nodes : List ℕ) (context : Context) → AreFit body around → AreInForce context.values around → FindOnce context.reach →
    AreApartFor context.reach (outside (element ∷ private) (item_uses body context.containers)) → AreFree (outside_accesses (element ∷ private) (item_accesses body context.containers nodes)) →
    IsPoolSafe (element_term element private body context) idle
elements-compatible around element private body nodes context fit in_force once apart accepted touch other is is' =
    let own = element ∷ private in
    let (value, at) = pool-touch (element_term element private body context) touch is in
    let (value', at') = pool-touch (element_term element private body context) other is' in
    let (access, member, covers) = element-covered around element private body nodes context value touch fit in_force at in
    let (second, member', covers') = element-covered around element private body nodes context value' other fit in_force at' in
    let used = uses-outside own (item_uses body context.containers) (item_accesses body context.containers nodes) (uses-items body context.containers nodes) in
    let never_both : access.container ≡ second.container → do_conflict access.mode second.mode ≡ true → ⊥ =
    λ same conflict. accepted access second member member' same conflict in
    separate-compatible context.reach context.values context.values access second touch other once
    (λ different conflict. apart (of_access access) (of_access second) (used access member) (used second member') different conflict)
    (record { elements = λ index same conflict inside inside'. never_both same conflict; streams = λ same conflict box. never_both same conflict })
    covers covers'

-- fewer uses are reached apart
apart-left : (reach : ℕ → Reach) (uses others : List Use) → AreApartFor reach (uses ++ others) → AreApartFor reach uses
apart-left reach uses others apart use' other member member' = apart use' other (Contains-append_left uses others use' member) (Contains-append_left uses others other member')

apart-right : (reach : ℕ → Reach) (uses others : List Use) → AreApartFor reach (uses ++ others) → AreApartFor reach others
apart-right reach uses others apart use' other member member' = apart use' other (Contains-append_right uses others use' member) (Contains-append_right uses others other member')

mutual
  pub kind-safe : (kind : KindTree) (around : List Parameter) (line : ℕ) (path nodes : List ℕ) (context : Context) → IsFit kind around → AreInForce context.values around → FindOnce context.reach → AreApartFor context.reach (kind_uses kind context.containers) →
      AreScopesAccepted (scopes_itself kind context.containers path around nodes) → AreScopesAccepted (scopes_inside kind context.containers path around nodes) → IsSafe (unfold_kind kind line context)
  kind-safe (task code ins outs) around line path nodes context fit in_force once apart itself within = tt
  kind-safe (map_scope sequential parameters private body) around line path nodes context fit in_force once apart itself within = (
    point_terms-safe (point_of parameters private body context) (points (ranges_of parameters) context.values)
        (λ point member.
        let there = at_point context parameters private point in
        let in_force' = in_force-at around parameters context.values point fit.0 in_force member in
        let once' = inside-once private context.containers context.reach once in
        let apart' = inside-apart private context.containers context.reach (item_uses body context.containers) apart in
        list-safe (around ++ parameters) body there fit.1 in_force' once' apart' (items-safe body (around ++ parameters) path (nodes_behind nodes) there fit.1 in_force' once' apart' within)),
    points-safe sequential around parameters private body path nodes context fit.0 fit.1 in_force once apart itself.0,
  )
  kind-safe (consume_scope source element private body) around line path nodes context fit in_force once apart itself within =
      let own = element ∷ private in
      let once' = inside-once own context.containers context.reach once in
      let outer = apart-right context.reach (of_access (take_access 0 source) ∷ []) (outside own (item_uses body context.containers)) apart in
      let apart' = inside-apart own context.containers context.reach (item_uses body context.containers) outer in (
        tt,
        λ value. list-safe around body (at_element context element private value) fit in_force once' apart' (items-safe body around path (nodes_behind nodes) (at_element context element private value) fit in_force once' apart' within),
        elements-compatible around element private body (nodes_behind nodes) context fit in_force once outer (elements-free own body context.containers path around nodes itself.0),
        λ closed. refl,
      )
  kind-safe (nested_graph (graph name containers arguments variables symbols states) links) around line path nodes context fit in_force once apart itself within =
      let reach = reach_inside context links containers in
      let once' = nested-once context links containers fit.1.0 once in
      let apart' = nested-apart context links containers (state_uses states containers) fit.2 apart in (
        state-safe states 0 (further path (own_node nodes)) 0 (at_state containers variables states reach (frames_at context line) 0 (replicate (length variables) (pos 0))) fit.1.1 once' apart' within,
        λ state values. state-safe states state (further path (own_node nodes)) 0 (at_state containers variables states reach (frames_at context line) state values) fit.1.1 once' apart' within,
      )
  kind-safe (reduction resolution axis identity from to) around line path nodes context fit in_force once apart itself within = tt
  kind-safe (copy from to) around line path nodes context fit in_force once apart itself within = tt

  pub items-safe : (items : ItemTrees) (around : List Parameter) (path nodes : List ℕ) (context : Context) → AreFit items around → AreInForce context.values around → FindOnce context.reach → AreApartFor context.reach (item_uses items context.containers) →
      AreScopesAccepted (item_scopes items context.containers path around nodes) → AreSafe (unfold_items items context)
  items-safe no_item around path nodes context fit in_force once apart accepted = tt
  items-safe (and_item line kind items) around path nodes context fit in_force once apart accepted = let all = of_items kind items context.containers path around nodes accepted in (
    kind-safe kind around line path nodes context fit.0 in_force once (apart-left context.reach (kind_uses kind context.containers) (item_uses items context.containers) apart) all.itself all.within,
    items-safe items around path (past kind nodes) context fit.1 in_force once (apart-right context.reach (kind_uses kind context.containers) (item_uses items context.containers) apart) all.others,
  )

  pub state-safe : (states : StateTrees) (state : ℕ) (path : List ℕ) (number : ℕ) (context : Context) → AreStatesFit states → FindOnce context.reach → AreApartFor context.reach (state_uses states context.containers) →
      AreScopesAccepted (state_scopes states context.containers path number) → IsSafe (unfold_state states state context)
  state-safe no_state state path number context fit once apart accepted = (tt, record { compatible = λ i j less free touch other is is'. absurd is; points = λ is. cc })
  state-safe (and_state items exits states) zero path number context fit once apart accepted =
      let uses = item_uses items context.containers in
      let own = apart-left context.reach uses (exit_uses exits ++ state_uses states context.containers) apart in
      let here = item_nodes context.containers items in
      let all = all-parts IsScopeAccepted (item_scopes items context.containers (further path number) [] here) (state_scopes states context.containers path (suc number)) accepted in
      list-safe [] items context fit.0.0 tt once own (items-safe items [] (further path number) here context fit.0.0 tt once own all.0)
  state-safe (and_state items exits states) (suc state) path number context fit once apart accepted =
      let all = all-parts IsScopeAccepted (item_scopes items context.containers (further path number) [] (item_nodes context.containers items)) (state_scopes states context.containers path (suc number)) accepted in
      state-safe states state path (suc number) context fit.1 once (apart-right context.reach (exit_uses exits) (state_uses states context.containers) (apart-right context.reach (item_uses items context.containers) (exit_uses exits ++ state_uses states context.containers) apart)) all.1
