-- What an item, unfolded, touches is covered by its accesses.
use Rattle.std.specs.List.{Contains}
use Rattle.std.proofs.Common.{◌≡◌, inl, inr, zero, suc, ℕ, ◌+◌, ℤ, pos, List, [], ◌∷◌, ◌++◌, map, length, Bool, true, false, IsTrue, Option, Some, None, option_map, slice_get, replicate, if◌then◌else◌, refl, ap, sym, subst, arith}
use Rattle.std.proofs.lemmas.Bool.{cases_Bool}
use Rattle.std.proofs.lemmas.List.Elements.{Contains-append_left, Contains-append_right}
use Rattle.sd_range.specs.Points.{points, ranges_of}
use Rattle.sd_range.specs.Subset.{inside}
use Rattle.sd_range.proofs.Members.{Contains-first, Contains-later, Contains-map, Contains-from_map}
use Rattle.sd_range.proofs.SubsetLaws.{inside-each}
use Rattle.sd_work.specs.Memory.{Reference}
use Rattle.sd_work.specs.Residual.{Term}
use Rattle.sd_work.specs.Touch.{Touch, reads, writes, pushes, takes, inner, GuardTouches, SomeExitTouches, Touches, SomePartTouches}
use Rattle.sd_subset.specs.boxes.Box.{Parameter}
use Rattle.sd_subset.specs.boxes.InForce.{AreFresh, AreInForce, IsNormalBox, IsPoint}
use Rattle.sd_subset.specs.boxes.InForce as box
use Rattle.sd_subset.proofs.boxes_lemmas.AtPoint.{in_force-own, in_force-around}
use Rattle.sd_subset.proofs.boxes_lemmas.Disjoint.{of_member}
use Rattle.sd_graph.specs.declared.link.Link.{Link}
use Rattle.sd_graph.specs.declared.place.Place.{Place}
use Rattle.sd_graph.specs.PlainTree.{GuardTree, ExitTree, KindTree, task, map_scope, consume_scope, nested_graph, reduction, copy, ItemTrees, no_item, and_item, StateTrees, no_state, and_state, graph}
use Rattle.sd_graph.specs.TreeParts.{exits_at}
use Rattle.sd_graph.specs.ContainerParts.{Containers, container_at, extents_of, is_argument}
use Rattle.sd_graph.specs.Mode.{Mode, Read}
use Rattle.sd_graph.specs.Wiring.{Use, use_of, guard_uses, exit_uses, item_uses, state_uses}
use Rattle.sd_range.specs.Variables.{with_variable, with_variables}
use Rattle.sd_graph.specs.Context.{Reach, Context, index_at, own_reach, raised, view, reference_at, entered, frames_at}
use Rattle.sd_graph.specs.Unfold.{guard_of, exit_of, assigned, at_point, point_terms, at_element, at_state, reach_through, reach_inside, unfold_kind, unfold_items, unfold_state}
use Rattle.sd_prop.specs.propagation.ItemNodes.{own_node, nodes_behind, past}
use Rattle.sd_prop.specs.propagation.Accesses.{Access, access_of, output_access, access_replaced, outside_accesses, nested_accesses, take_access, kind_accesses, item_accesses}
use Rattle.sd_race.specs.cover.Fit.{HasShape, HaveShapes, IsArrayMode, AreArrays, IsGuardFit, AreExitsFit, IsFit, AreFit, AreStatesFit}
use Rattle.sd_race.specs.cover.Touched.{IsAt, IsTouchOf, IsCovered}
use Rattle.sd_race.proofs.cover_lemmas.Indices.{view-in_box}
use Rattle.sd_race.proofs.cover_lemmas.LeafCovered.{covered-left, covered-right, reads-covered, evaluation-covered, copy-covered, reduction-covered}
use Rattle.sd_race.proofs.cover_lemmas.Owners.{touch-raised, touch-own, covered-outside, touch-outer, reference_of, choice-true, choice-false}
use Rattle.sd_race.proofs.cover_lemmas.UsesOf.{of_access, uses-items, AreNormal, normal-items, normal-outside}
use Rattle.sd_race.proofs.cover_lemmas.Joined.{IsAbove, allows-read, allows-write, link-above}

-- what is touched by a term for each point is touched by one
pub point_terms-touches : (term : List ℤ → Term Place) → (all : List (List ℤ)) (touch : Touch) → SomePartTouches (point_terms term all) touch → (point : List ℤ) × Contains all point × Touches (term point) touch
point_terms-touches term [] touch is = absurd is
point_terms-touches term (point ∷ all) touch (inl is) = (point, Contains-first point all, is)
point_terms-touches term (point ∷ all) touch (inr is) =
    let (other, member, at) = point_terms-touches term all touch is in (other, Contains-later point all other member, at)

-- the values at a point
pub values-at : (params : List Parameter) (point values : List ℤ) → with_variables (assigned params point) values ≡ box.at_point params point values
values-at [] point values = refl
values-at (param ∷ params) [] values = refl
values-at (param ∷ params) (number ∷ point) values =
    values-at params point (with_variable param.0 number values)

-- parameters in force at a point of a map, with those around
in_force-both : (around own : List Parameter) (values : List ℤ) → AreInForce values around → AreInForce values own → AreInForce values (around ++ own)
in_force-both [] own values first second = second
in_force-both (parameter ∷ around) own values first second = (first.0, in_force-both around own values first.1 second)

pub in_force-point : (around own : List Parameter) (values point : List ℤ) → AreFresh around own → AreInForce values around → IsPoint own values point → AreInForce (box.at_point own point values) (around ++ own)
in_force-point around own values point fresh in_force member =
    in_force-both around own (box.at_point own point values) (in_force-around around own values point fresh in_force) (in_force-own around own values point fresh member)

pub in_force-at : (around own : List Parameter) (values point : List ℤ) → AreFresh around own → AreInForce values around → IsPoint own values point → AreInForce (with_variables (assigned own point) values) (around ++ own)
in_force-at around own values point fresh in_force member =
    subst (λ v. AreInForce v (around ++ own)) (sym (values-at own point values)) (in_force-point around own values point fresh in_force member)

-- covered outside of a map
covered-outer : (around own : List Parameter) (values point : List ℤ) (reach : ℕ → Reach) (accesses : List Access) (touch : Touch) → AreFresh around own → AreNormal accesses → IsPoint own values point →
    IsCovered (box.at_point own point values) reach accesses touch → IsCovered values reach (map (access_replaced own) accesses) touch
covered-outer around own values point reach accesses touch fresh normal member (access, among, is) = (
  access_replaced own access,
  Contains-map (access_replaced own) accesses access among,
  touch-outer around own values point reach access touch fresh (of_member (λ (other : Access). IsNormalBox other.box) accesses access normal among) member is,
)

-- an access of a graph, by its uses
abbrev pub IsUsed : List ℤ → (ℕ → Reach) → List Use → Touch → Type 0
IsUsed values reach uses touch = (access : Access) × Contains uses (of_access access) × IsTouchOf values reach access touch

used-left : (values : List ℤ) (reach : ℕ → Reach) (uses others : List Use) (touch : Touch) → IsUsed values reach uses touch → IsUsed values reach (uses ++ others) touch
used-left values reach uses others touch (access, member, is) = (access, Contains-append_left uses others (of_access access) member, is)

used-right : (values : List ℤ) (reach : ℕ → Reach) (uses others : List Use) (touch : Touch) → IsUsed values reach others touch → IsUsed values reach (uses ++ others) touch
used-right values reach uses others touch (access, member, is) = (access, Contains-append_right uses others (of_access access) member, is)

links-used : (node : ℕ) (links : List Link) (access : Access) → Contains (map (access_of node Read) links) access → Contains (map (use_of Read) links) (of_access access)
links-used node links access member =
    let (link, among, is) = Contains-from_map (access_of node Read) links access member in
    subst (Contains (map (use_of Read) links)) (ap of_access is) (Contains-map (use_of Read) links link among)

-- what conditions touch
guard-used : (context : Context) (guard : Option GuardTree) (touch : Touch) → IsGuardFit guard → GuardTouches (option_map (guard_of context) guard) touch → IsUsed context.values context.reach (guard_uses guard) touch
guard-used context None touch fit is = absurd is
guard-used context (Some guard) touch fit is =
    let (access, member, at) = reads-covered context 0 guard.reads touch fit is in
    (access, links-used 0 guard.reads access member, at)

exits-used : (context : Context) (exits : List ExitTree) (touch : Touch) → AreExitsFit exits → SomeExitTouches (map (exit_of context) exits) touch → IsUsed context.values context.reach (exit_uses exits) touch
exits-used context [] touch fit is = absurd is
exits-used context (exit ∷ exits) touch fit (inl is) = used-left context.values context.reach (guard_uses exit.when) (exit_uses exits) touch (guard-used context exit.when touch fit.0 is)
exits-used context (exit ∷ exits) touch fit (inr is) = used-right context.values context.reach (guard_uses exit.when) (exit_uses exits) touch (exits-used context exits touch fit.1 is)

pub all_exits-used : (context : Context) (states : StateTrees) (number : ℕ) (touch : Touch) → AreStatesFit states → SomeExitTouches (map (exit_of context) (exits_at states number)) touch →
    IsUsed context.values context.reach (state_uses states context.containers) touch
all_exits-used context no_state number touch fit is = absurd is
all_exits-used context (and_state items exits states) zero touch fit is =
    used-right context.values context.reach (item_uses items context.containers) (exit_uses exits ++ state_uses states context.containers) touch
    (used-left context.values context.reach (exit_uses exits) (state_uses states context.containers) touch (exits-used context exits touch fit.0.1 is))
all_exits-used context (and_state items exits states) (suc number) touch fit is =
    used-right context.values context.reach (item_uses items context.containers) (exit_uses exits ++ state_uses states context.containers) touch
    (used-right context.values context.reach (exit_uses exits) (state_uses states context.containers) touch (all_exits-used context states number touch fit.1 is))

-- what a view finds its container finds
found-view : (outer : Reach) (test : Bool) (found : Option ℕ) (element : Reference) → reference_of outer (if test then found else None) ≡ Some element → IsTrue test × (reference_of outer found ≡ Some element)
found-view outer true found element is = (refl, is)
found-view outer false found element is = cc

-- an element of a view is the outer container's, in the link's box
at-view : (node : ℕ) (values inner_values : List ℤ) (containers : Containers) (number : ℕ) (link : Link) (reach inner_reach : ℕ → Reach) (access : Access) (mode : Mode) (element : Reference) → HasShape (extents_of (container_at containers number)) link.memlet.subset.dims →
    inner_reach access.container ≡ view (container_at containers number) link.memlet.subset values (reach link.memlet.container) → IsAt inner_values inner_reach access element → IsAt values reach (access_of node mode link) element
at-view node values inner_values containers number link reach inner_reach access mode element shape is at =
    let outer = reach link.memlet.container in
    let index = at.index in
    let extents = extents_of (container_at containers number) in
    let found : reference_at (view (container_at containers number) link.memlet.subset values outer) index ≡ Some element = subst (λ r. reference_at r index ≡ Some element) is at.is in
    let (passed, same) = found-view outer (inside extents index) (outer.find (index_at link.memlet.subset.dims values index)) element found in
    record { index = index_at link.memlet.subset.dims values index; is = same; inside = view-in_box extents link.memlet.subset.dims values index shape (inside-each extents index passed) }

-- what is touched of a parameter is touched of the link's container
view-touch : (node : ℕ) (values inner_values : List ℤ) (containers : Containers) (number : ℕ) (link : Link) (reach inner_reach : ℕ → Reach) (access : Access) (above : Mode) (touch : Touch) → HasShape (extents_of (container_at containers number)) link.memlet.subset.dims →
    inner_reach access.container ≡ view (container_at containers number) link.memlet.subset values (reach link.memlet.container) → IsAbove above access.mode → IsArrayMode access.mode →
    IsTouchOf inner_values inner_reach access touch → IsTouchOf values reach (access_of node above link) touch
view-touch node values inner_values containers number link reach inner_reach access above (reads from) shape is is_above arrays (allows, at) =
    (allows-read access.mode above is_above allows, at-view node values inner_values containers number link reach inner_reach access above from shape is at)
view-touch node values inner_values containers number link reach inner_reach access above (writes to by) shape is is_above arrays (allows, at) =
    (allows-write access.mode above by is_above allows, at-view node values inner_values containers number link reach inner_reach access above to shape is at)
view-touch node values inner_values containers number link reach inner_reach access above (pushes level container) shape is is_above arrays (mode, at) = absurd (subst IsArrayMode mode arrays)
view-touch node values inner_values containers number link reach inner_reach access above (takes level container) shape is is_above arrays (mode, box, at) = absurd (subst IsArrayMode mode arrays)

-- the link of a number has the shape of its parameter
pub shape-at : (containers : Containers) (first place number : ℕ) (links : List Link) (link : Link) → number ≡ first + place → HaveShapes containers first links → slice_get links place ≡ Some link →
    HasShape (extents_of (container_at containers number)) link.memlet.subset.dims
shape-at containers first place number [] link is shapes at = cc
shape-at containers first zero number (other ∷ links) link is shapes at =
    let here : first ≡ number = omega (arith, is) in
    let same : other ≡ link = cc in
    subst (λ (l : Link). HasShape (extents_of (container_at containers number)) l.memlet.subset.dims) same (subst (λ n. HasShape (extents_of (container_at containers n)) other.memlet.subset.dims) here shapes.0)
shape-at containers first (suc place) number (other ∷ links) link is shapes at = shape-at containers (suc first) place number links link (omega (arith, is)) shapes.1 at

-- a parameter has a link or none
by_through : {P : Type 0} (context : Context) (links : List Link) (containers : Containers) (number : ℕ) (at : Option Link) → slice_get links number ≡ at → reach_inside context links containers number ≡ reach_through context at containers number →
    (reach_inside context links containers number ≡ own_reach containers number → P) →
    ((link : Link) → slice_get links number ≡ Some link → reach_inside context links containers number ≡ raised (view (container_at containers number) link.memlet.subset context.values (context.reach link.memlet.container)) → P) → P
by_through context links containers number None at is own viewed = own is
by_through context links containers number (Some link) at is own viewed = viewed link at is

-- a container of a nested graph is its own, or a view through a link
pub by_reach : {P : Type 0} (context : Context) (links : List Link) (containers : Containers) (number : ℕ) → (reach_inside context links containers number ≡ own_reach containers number → P) →
    ((link : Link) → slice_get links number ≡ Some link → reach_inside context links containers number ≡ raised (view (container_at containers number) link.memlet.subset context.values (context.reach link.memlet.container)) → P) → P
by_reach context links containers number own viewed =
    let through = reach_through context (slice_get links number) containers number in
    elim (cases_Bool (is_argument (container_at containers number).kind)) [
      | inl argument ↦ by_through context links containers number (slice_get links number) refl (choice-true (is_argument (container_at containers number).kind) through (own_reach containers number) argument) own viewed
      | inr other ↦ own (choice-false (is_argument (container_at containers number).kind) through (own_reach containers number) other)
    ]

-- what is touched in a nested graph is covered by its links' accesses
nested-covered : (context : Context) (node : ℕ) (containers : Containers) (links : List Link) (uses : List Use) (inner_values : List ℤ) (touch : Touch) → HaveShapes containers 0 links → AreArrays links uses →
    IsUsed inner_values (reach_inside context links containers) uses (inner touch) → IsCovered context.values context.reach (nested_accesses node uses 0 links) touch
nested-covered context node containers links uses inner_values touch shapes arrays (access, used, is) =
    let number = access.container in
    by_reach context links containers number
    (λ own. absurd (touch-own inner_values (reach_inside context links containers) access touch (ap (λ (r : Reach). r.level) own) is))
    (λ link at same.
    let seen : Reach = view (container_at containers number) link.memlet.subset context.values (context.reach link.memlet.container) in
    let shape = shape-at containers 0 number number links link (omega arith) shapes at in
    let (above, is_above, member, _) = link-above node uses links 0 number link (of_access access) (omega arith) at used in
    let below = touch-raised inner_values (reach_inside context links containers) (λ _. seen) access touch same is in
    (access_of node above link, member, view-touch node context.values inner_values containers number link context.reach (λ _. seen) access above touch shape refl is_above (arrays (of_access access) link used at) below))

mutual
  -- what an item touches
  pub kind-covered : (kind : KindTree) (around : List Parameter) (line : ℕ) (nodes : List ℕ) (context : Context) (touch : Touch) → IsFit kind around → AreInForce context.values around →
      Touches (unfold_kind kind line context) touch → IsCovered context.values context.reach (kind_accesses kind context.containers nodes) touch
  kind-covered (task code ins outs) around line nodes context touch fit in_force (inl is) =
      covered-left context.values context.reach (map (access_of (own_node nodes) Read) ins) (map (output_access context.containers (own_node nodes)) outs) touch (reads-covered context (own_node nodes) ins touch fit.0 is)
  kind-covered (task code ins outs) around line nodes context touch fit in_force (inr (given, effects, is, some)) =
      covered-right context.values context.reach (map (access_of (own_node nodes) Read) ins) (map (output_access context.containers (own_node nodes)) outs) touch
      (evaluation-covered context (own_node nodes) code ins outs given effects touch fit.1 is some)
  kind-covered (map_scope sequential params private body) around line nodes context touch fit in_force is =
      let (point, member, at) = point_terms-touches _ (points (ranges_of params) context.values) touch is in
      let accesses = item_accesses body context.containers (nodes_behind nodes) in
      let there = at_point context params private point in
      covered-outer around params context.values point context.reach (outside_accesses private accesses) touch fit.0 (normal-outside private accesses (normal-items body context.containers (nodes_behind nodes) (around ++ params) fit.1)) member
      (subst (λ values. IsCovered values context.reach (outside_accesses private accesses) touch) (values-at params point context.values)
      (covered-outside private context.containers there.values context.reach accesses touch
      (items-covered body (around ++ params) (nodes_behind nodes) there (inner touch) fit.1 (in_force-at around params context.values point fit.0 in_force member) at)))
  kind-covered (consume_scope source element private body) around line nodes context touch fit in_force (inl is) = (
    take_access (own_node nodes) source,
    Contains-first (take_access (own_node nodes) source) (outside_accesses (element ∷ private) (item_accesses body context.containers (nodes_behind nodes))),
    subst (IsTouchOf context.values context.reach (take_access (own_node nodes) source)) (sym is) (refl, refl, record { level_is = refl; container_is = refl }),
  )
  kind-covered (consume_scope source element private body) around line nodes context touch fit in_force (inr (inl is)) = absurd is
  kind-covered (consume_scope source element private body) around line nodes context touch fit in_force (inr (inr (value, at))) =
      let accesses = item_accesses body context.containers (nodes_behind nodes) in
      covered-right context.values context.reach (take_access (own_node nodes) source ∷ []) (outside_accesses (element ∷ private) accesses) touch
      (covered-outside (element ∷ private) context.containers context.values context.reach accesses touch
      (items-covered body around (nodes_behind nodes) (at_element context element private value) (inner touch) fit in_force at))
  kind-covered (nested_graph (graph name containers arguments variables symbols states) links) around line nodes context touch fit in_force (inl is) =
      let reach = reach_inside context links containers in
      let values : List ℤ = replicate (length variables) (pos 0) in
      nested-covered context (own_node nodes) containers links (state_uses states containers) values touch fit.1.0 fit.3
      (state-used states 0 (at_state containers variables states reach (frames_at context line) 0 values) (inner touch) fit.1.1 is)
  kind-covered (nested_graph (graph name containers arguments variables symbols states) links) around line nodes context touch fit in_force (inr (inl (state, values, is))) =
      let reach = reach_inside context links containers in
      nested-covered context (own_node nodes) containers links (state_uses states containers) values touch fit.1.0 fit.3
      (state-used states state (at_state containers variables states reach (frames_at context line) state values) (inner touch) fit.1.1 is)
  kind-covered (nested_graph (graph name containers arguments variables symbols states) links) around line nodes context touch fit in_force (inr (inr (state, values, is))) =
      let reach = reach_inside context links containers in
      nested-covered context (own_node nodes) containers links (state_uses states containers) values touch fit.1.0 fit.3
      (all_exits-used (at_state containers variables states reach (frames_at context line) state values) states state (inner touch) fit.1.1 is)
  kind-covered (reduction resolution axis identity from to) around line nodes context touch fit in_force is =
      reduction-covered context (own_node nodes) resolution axis identity from to touch fit.0 fit.1 fit.2 is
  kind-covered (copy from to) around line nodes context touch fit in_force is = copy-covered context (own_node nodes) from to touch fit.0 fit.1 is

  -- what the items of a list touch
  pub items-covered : (items : ItemTrees) (around : List Parameter) (nodes : List ℕ) (context : Context) (touch : Touch) → AreFit items around → AreInForce context.values around →
      SomePartTouches (unfold_items items context) touch → IsCovered context.values context.reach (item_accesses items context.containers nodes) touch
  items-covered no_item around nodes context touch fit in_force is = absurd is
  items-covered (and_item line kind items) around nodes context touch fit in_force (inl is) =
      covered-left context.values context.reach (kind_accesses kind context.containers nodes) (item_accesses items context.containers (past kind nodes)) touch (kind-covered kind around line nodes context touch fit.0 in_force is)
  items-covered (and_item line kind items) around nodes context touch fit in_force (inr is) =
      covered-right context.values context.reach (kind_accesses kind context.containers nodes) (item_accesses items context.containers (past kind nodes)) touch (items-covered items around (past kind nodes) context touch fit.1 in_force is)

  -- what a state of a graph touches
  pub state-used : (states : StateTrees) (number : ℕ) (context : Context) (touch : Touch) → AreStatesFit states → Touches (unfold_state states number context) touch →
      IsUsed context.values context.reach (state_uses states context.containers) touch
  state-used no_state number context touch fit is = absurd is
  state-used (and_state items exits states) zero context touch fit is =
      let (access, member, at) = items-covered items [] [] context touch fit.0.0 tt is in
      used-left context.values context.reach (item_uses items context.containers) (exit_uses exits ++ state_uses states context.containers) touch (access, uses-items items context.containers [] access member, at)
  state-used (and_state items exits states) (suc number) context touch fit is =
      used-right context.values context.reach (item_uses items context.containers) (exit_uses exits ++ state_uses states context.containers) touch
      (used-right context.values context.reach (exit_uses exits) (state_uses states context.containers) touch (state-used states number context touch fit.1 is))

-- what the body of a scope touches outside of a point or an element is covered by its accesses of other containers
pub scope-covered : (around : List Parameter) (own : List ℕ) (body : ItemTrees) (nodes : List ℕ) (values : List ℤ) (shown : List (List ℕ × ℤ)) (context : Context) (touch : Touch) → AreFit body around → AreInForce values around →
    SomePartTouches (unfold_items body (entered context own values shown)) (inner touch) → IsCovered values context.reach (outside_accesses own (item_accesses body context.containers nodes)) touch
scope-covered around own body nodes values shown context touch fit in_force is =
    covered-outside own context.containers values context.reach (item_accesses body context.containers nodes) touch
    (items-covered body around nodes (entered context own values shown) (inner touch) fit in_force is)
