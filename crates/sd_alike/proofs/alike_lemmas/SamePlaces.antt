-- Where an item is replaced by items that do the same, the whole graph does the same.
use Rattle.std.proofs.Common.{◌≡◌, ℕ, zero, suc, pos, List, [], ◌∷◌, ◌++◌, map, length, Some, None, false, if◌then◌else◌, replicate, refl, sym, ◌∙◌, ap, subst}
use Rattle.sd_range.specs.Affine.{variable_value}
use Rattle.sd_range.specs.Points.{points}
use Rattle.sd_work.specs.Memory.{Memory, Memories}
use Rattle.sd_work.specs.Exit.{Values}
use Rattle.sd_work.specs.Residual.{Term, leaf, list, owning, nested, ended, pool, Terms, none, also, idle}
use Rattle.sd_work.specs.BigStep.{Coming, reached, and_then, leaving, big_step, big_parts, big_states}
use Rattle.sd_work.specs.BigRun.{left_by, big_run}
use Rattle.sd_work.specs.Step.{Done, Faulted, Spent}
use Rattle.sd_graph.specs.PlainTree.{KindTree, task, map_scope, consume_scope, nested_graph, reduction, copy, ItemTrees, no_item, and_item, StateTrees, no_state, and_state, GraphTree, graph}
use Rattle.sd_graph.specs.TreeParts.{containers_of, exits_at}
use Rattle.sd_graph.specs.Context.{Reach, Context, private_memory, frames_at}
use Rattle.sd_graph.specs.Unfold.{at_point, map_over, at_element, element_memory, at_state, reach_inside, run_memory, exit_of, unfold_kind, unfold_items, unfold_state, unfold_graph}
use Rattle.sd_graph.specs.declared.place.Frame.{Frame}
use Rattle.sd_alike.specs.alike.Lift.{Lift, as_it_is, memories_in, reach_in}
use Rattle.sd_alike.specs.alike.SameWork.{DoesSame, DoSame, EndsSame, AgreeBelow, AreExitsSame}
use Rattle.sd_alike.specs.alike.Alike.{KindBelow, ItemsBelow, StatesBelow, NamesItsVariables, AreAlike}
use Rattle.sd_alike.specs.alike.Places.{Replacing, items_then, states_nest, kind_with, items_with, states_with, graph_with, KindLeads, ItemsLead, StatesLead, GraphLeads}
use Rattle.sd_alike.specs.alike.Rewritten.{ReplacesSame}
use Rattle.sd_alike.proofs.alike_lemmas.SameLeaf.{ends_then, leaving_same}
use Rattle.sd_alike.proofs.alike_lemmas.SameTerms.{also_same, run_same, pool_same}
use Rattle.sd_alike.proofs.alike_lemmas.SameValues.{points_same}
use Rattle.sd_alike.proofs.alike_lemmas.SameLeaves.{exits_alike}
use Rattle.sd_alike.proofs.alike_lemmas.SameTrees.{entered_alike, point_alike, inside_in, points_do_same, exits_below, owners_do_same, body_of, kind_same, items_same, state_same}

-- ---- lists of parts

-- parts and others behind them
abbrev pub parts_then : {P : Type 0} → Terms P → Terms P → Terms P
parts_then none others = others
parts_then (also part parts) others = also part (parts_then parts others)

pub then_then : {P : Type 0} (coming : Coming P) (first second : Memories → ℕ → Coming P) → and_then (and_then coming first) second ≡ and_then coming (λ memories turns. and_then (first memories turns) second)
then_then (Some (Done now)) first second = refl
then_then (Some (Faulted fault)) first second = refl
then_then (Some Spent) first second = refl
then_then None first second = refl

pub then_reached : {P : Type 0} (coming : Coming P) → and_then coming (λ memories turns. reached memories turns) ≡ coming
then_reached (Some (Done now)) = refl
then_reached (Some (Faulted fault)) = refl
then_reached (Some Spent) = refl
then_reached None = refl

pub big_then : {P : Type 0} (parts others : Terms P) (most : ℕ) (memories : Memories) (turns : ℕ) → big_parts (parts_then parts others) most memories turns ≡ and_then (big_parts parts most memories turns) (big_parts others most)
big_then none others most memories turns = refl
big_then (also part parts) others most memories turns =
    (λ i. and_then (big_step part most memories turns) (λ memories turns. big_then parts others most memories turns i)) ∙ sym (then_then (big_step part most memories turns) (big_parts parts most) (big_parts others most))

pub parts_do_same : {P Q : Type 0} (most : ℕ) (lift : Lift) (parts others : Terms P) (parts' others' : Terms Q) → DoSame most lift parts parts' → DoSame most lift others others' → DoSame most lift (parts_then parts others) (parts_then parts' others')
parts_do_same most lift parts others parts' others' same rest = λ memories turns.
    let whole : EndsSame lift (and_then (big_parts parts most memories turns) (big_parts others most)) (and_then (big_parts parts' most (memories_in lift memories) turns) (big_parts others' most)) =
    ends_then lift (big_parts parts most memories turns) (big_parts parts' most (memories_in lift memories) turns) (big_parts others most) (big_parts others' most) (same memories turns) rest in
    subst (λ coming. EndsSame lift coming (big_parts (parts_then parts' others') most (memories_in lift memories) turns)) (sym (big_then parts others most memories turns))
    (subst (λ coming. EndsSame lift (and_then (big_parts parts most memories turns) (big_parts others most)) coming) (sym (big_then parts' others' most (memories_in lift memories) turns)) whole)

pub items_unfold_then : (items others : ItemTrees) (context : Context) → unfold_items (items_then items others) context ≡ parts_then (unfold_items items context) (unfold_items others context)
items_unfold_then no_item others context = refl
items_unfold_then (and_item line kind items) others context = ap (also (unfold_kind kind line context)) (items_unfold_then items others context)

-- ---- values and exits

zeros : (count variable : ℕ) → variable_value (replicate count (pos 0)) variable ≡ pos 0
zeros zero variable = refl
zeros (suc count) zero = refl
zeros (suc count) (suc variable) = zeros count variable

pub exits_kept : (replacing : Replacing) (names : List (List ℕ)) (variables : ℕ) (states : StateTrees) (path : List ℕ) (state : ℕ) → exits_at (states_with replacing names variables states path) state ≡ exits_at states state
exits_kept replacing names variables no_state path state = refl
exits_kept replacing names variables (and_state items exits states) [] state = refl
exits_kept replacing names variables (and_state items exits states) (zero ∷ path) zero = refl
exits_kept replacing names variables (and_state items exits states) (zero ∷ path) (suc state) = refl
exits_kept replacing names variables (and_state items exits states) (suc number ∷ path) zero = refl
exits_kept replacing names variables (and_state items exits states) (suc number ∷ path) (suc state) = exits_kept replacing names variables states (number ∷ path) state

pub containers_kept : (replacing : Replacing) (names : List (List ℕ)) (tree : GraphTree) (path : List ℕ) → containers_of (graph_with replacing names tree path) ≡ containers_of tree
containers_kept replacing names (graph name containers arguments variables symbols states) path = refl

-- ---- the graph

-- the work of a run inside its owner
abbrev pub run_step : {P : Type 0} → Term P → (most : ℕ) → Memories → (turns : ℕ) → Coming P
run_step (nested body exits own state values part) most memories turns =
    and_then (big_step part most (own ∷ memories) turns) (big_states most (λ state values. big_step (body state values) most) exits state values)
run_step (leaf place work) most memories turns = None
run_step (list kind before parts) most memories turns = None
run_step (owning own part) most memories turns = None
run_step (ended own) most memories turns = None
run_step (pool level container body active closed) most memories turns = None

pub graph_step : (tree : GraphTree) (reach : ℕ → Reach) (own : Memory) (around : List Frame) (most : ℕ) (memories : Memories) (turns : ℕ) →
    big_step (unfold_graph tree reach own around) most memories turns ≡ leaving (run_step (unfold_graph tree reach own around) most memories turns)
graph_step (graph name containers arguments variables symbols states) reach own around most memories turns = refl

pub graph_run : (tree : GraphTree) (reach : ℕ → Reach) (own : Memory) (around : List Frame) (most turns : ℕ) →
    big_run (unfold_graph tree reach own around) most turns ≡ left_by (run_step (unfold_graph tree reach own around) most [] turns)
graph_run (graph name containers arguments variables symbols states) reach own around most turns = refl

run_does_same : (most : ℕ) (tree after : GraphTree) (reach other : ℕ → Reach) (own : Memory) (around other_around : List Frame) →
    ((memories : Memories) (turns : ℕ) → EndsSame as_it_is (run_step (unfold_graph tree reach own around) most memories turns) (run_step (unfold_graph after other own other_around) most memories turns)) →
    DoesSame most as_it_is (unfold_graph tree reach own around) (unfold_graph after other own other_around)
run_does_same most tree after reach other own around other_around goes = λ memories turns.
    subst (λ coming. EndsSame as_it_is coming (big_step (unfold_graph after other own other_around) most memories turns)) (sym (graph_step tree reach own around most memories turns))
    (subst (λ coming. EndsSame as_it_is (leaving (run_step (unfold_graph tree reach own around) most memories turns)) coming) (sym (graph_step after other own other_around most memories turns))
    (leaving_same as_it_is (run_step (unfold_graph tree reach own around) most memories turns) (run_step (unfold_graph after other own other_around) most memories turns) (goes memories turns)))

module _ (most : ℕ) (Holds : ℕ → KindTree → Type 0) (replacing : Replacing) (names : List (List ℕ)) (replaces : ReplacesSame most Holds replacing) where
  mutual
    pub kind_rewritten : (kind : KindTree) (line : ℕ) (path : List ℕ) (count : ℕ) (context other : Context) → KindLeads Holds count kind path → KindBelow count kind → AreAlike as_it_is count context other →
        DoesSame most as_it_is (unfold_kind kind line context) (unfold_kind (kind_with replacing names count kind path) line other)
    kind_rewritten (task code ins outs) line path count context other leads below alike = elim leads [ ]
    kind_rewritten (map_scope sequential params private body) line path count context other leads below alike =
        subst (λ points. DoesSame most as_it_is (unfold_kind (map_scope sequential params private body) line context) (map_over other sequential params private (λ inside. body_of (items_with replacing names count body path) inside) points))
        (sym (points_same count context.values other.values alike.values params below.0))
        (points_do_same most as_it_is
        (λ point. owning (private_memory context.containers private) (body_of body (at_point context params private point)))
        (λ point. owning (private_memory other.containers private) (body_of (items_with replacing names count body path) (at_point other params private point)))
        (λ point. owners_do_same most as_it_is (private_memory context.containers private) (private_memory other.containers private)
        (body_of body (at_point context params private point)) (body_of (items_with replacing names count body path) (at_point other params private point)) (ap (λ containers. private_memory containers private) alike.containers)
        (items_rewritten body path count (at_point context params private point) (at_point other params private point) leads below.1 (point_alike as_it_is count context other params private point alike)))
        (points (map (λ param. param.1) params) context.values))
    kind_rewritten (consume_scope stream element private body) line path count context other leads below alike =
        subst (λ reach. DoesSame most as_it_is (unfold_kind (consume_scope stream element private body) line context)
        (pool reach.level reach.container (λ value. owning (element_memory other element private value) (body_of (items_with replacing names count body path) (at_element other element private value))) idle false))
        (sym (alike.reach stream))
        (pool_same most as_it_is (context.reach stream).level (context.reach stream).container
        (λ value. owning (element_memory context element private value) (body_of body (at_element context element private value)))
        (λ value. owning (element_memory other element private value) (body_of (items_with replacing names count body path) (at_element other element private value)))
        (λ value. owners_do_same most as_it_is (element_memory context element private value) (element_memory other element private value)
        (body_of body (at_element context element private value)) (body_of (items_with replacing names count body path) (at_element other element private value))
        (ap (λ containers. element_memory (record context { containers = containers }) element private value) alike.containers)
        (items_rewritten body path count (at_element context element private value) (at_element other element private value) leads below
        (entered_alike as_it_is count context other (element ∷ private) context.values other.values _ _ alike alike.values))))
    kind_rewritten (nested_graph inner links) line path count context other leads below alike =
        subst (λ containers. DoesSame most as_it_is (unfold_kind (nested_graph inner links) line context)
        (unfold_graph (graph_with replacing names inner path) (reach_inside other links containers) (run_memory containers) (frames_at other line)))
        (sym (containers_kept replacing names inner path))
        (run_does_same most inner (graph_with replacing names inner path) (reach_inside context links (containers_of inner)) (reach_inside other links (containers_of inner)) (run_memory (containers_of inner)) (frames_at context line) (frames_at other line)
        (graph_rewritten inner path (reach_inside context links (containers_of inner)) (reach_inside other links (containers_of inner)) (run_memory (containers_of inner)) (frames_at context line) (frames_at other line)
        leads below.0 (inside_in as_it_is count context other links (containers_of inner) alike below.1)))
    kind_rewritten (reduction resolution axis identity from to) line path count context other leads below alike = elim leads [ ]
    kind_rewritten (copy from to) line path count context other leads below alike = elim leads [ ]

    pub items_rewritten : (items : ItemTrees) (path : List ℕ) (count : ℕ) (context other : Context) → ItemsLead Holds count items path → ItemsBelow count items → AreAlike as_it_is count context other →
        DoSame most as_it_is (unfold_items items context) (unfold_items (items_with replacing names count items path) other)
    items_rewritten no_item path count context other leads below alike = elim leads [ ]
    items_rewritten (and_item line kind items) [] count context other leads below alike = elim leads [ ]
    items_rewritten (and_item line kind items) (zero ∷ []) count context other leads below alike =
        subst (λ parts. DoSame most as_it_is (unfold_items (and_item line kind items) context) parts) (sym (items_unfold_then (replacing count line kind) items other))
        (parts_do_same most as_it_is (also (unfold_kind kind line context) none) (unfold_items items context) (unfold_items (replacing count line kind) other) (unfold_items items other)
        (replaces count line kind context other leads below.0 alike) (items_same most items as_it_is count context other below.1 alike))
    items_rewritten (and_item line kind items) (zero ∷ next ∷ path) count context other leads below alike =
        also_same most as_it_is (unfold_kind kind line context) (unfold_kind (kind_with replacing names count kind (next ∷ path)) line other) (unfold_items items context) (unfold_items items other)
        (kind_rewritten kind line (next ∷ path) count context other leads below.0 alike) (items_same most items as_it_is count context other below.1 alike)
    items_rewritten (and_item line kind items) (suc number ∷ path) count context other leads below alike =
        also_same most as_it_is (unfold_kind kind line context) (unfold_kind kind line other) (unfold_items items context) (unfold_items (items_with replacing names count items (number ∷ path)) other)
        (kind_same most kind line as_it_is count context other below.0 alike) (items_rewritten items (number ∷ path) count context other leads below.1 alike)

    pub state_rewritten : (states : StateTrees) (path : List ℕ) (state : ℕ) (count : ℕ) (context other : Context) → StatesLead Holds count states path → StatesBelow count states → AreAlike as_it_is count context other →
        DoesSame most as_it_is (unfold_state states state context) (unfold_state (states_with replacing names count states path) state other)
    state_rewritten no_state path state count context other leads below alike = elim leads [ ]
    state_rewritten (and_state items exits states) [] state count context other leads below alike = elim leads [ ]
    state_rewritten (and_state items exits states) (zero ∷ path) zero count context other leads below alike = items_rewritten items path count context other leads below.0 alike
    state_rewritten (and_state items exits states) (zero ∷ path) (suc state) count context other leads below alike = state_same most states state as_it_is count context other below.1.1 alike
    state_rewritten (and_state items exits states) (suc number ∷ path) zero count context other leads below alike = items_same most items as_it_is count context other below.0 alike
    state_rewritten (and_state items exits states) (suc number ∷ path) (suc state) count context other leads below alike = state_rewritten states (number ∷ path) state count context other leads below.1.1 alike

    pub graph_rewritten : (tree : GraphTree) (path : List ℕ) (reach other : ℕ → Reach) (own : Memory) (around other_around : List Frame) → GraphLeads Holds tree path → NamesItsVariables tree →
        ((number : ℕ) → other number ≡ reach_in as_it_is (reach number)) → (memories : Memories) (turns : ℕ) →
        EndsSame as_it_is (run_step (unfold_graph tree reach own around) most memories turns) (run_step (unfold_graph (graph_with replacing names tree path) other own other_around) most memories turns)
    graph_rewritten (graph name containers arguments variables symbols states) path reach other own around other_around leads below reaches =
        let after : StateTrees = states_with replacing names (length variables) states path in
        let names_after : List (List ℕ) = if states_nest states path then variables else variables ++ names in
        let here : ℕ → Values → Context = at_state containers variables states reach around in
        let there : ℕ → Values → Context = at_state containers names_after after other other_around in
        let opening : Values = replicate (length variables) (pos 0) in
        let opening_after : Values = replicate (length names_after) (pos 0) in
        let agree_first : AgreeBelow (length variables) opening opening_after = λ variable below. zeros (length names_after) variable ∙ sym (zeros (length variables) variable) in
        let alike : (state : ℕ) (values other_values : Values) → AgreeBelow (length variables) values other_values → AreAlike as_it_is (length variables) (here state values) (there state other_values) =
        λ state values other_values agree. record { containers = refl; values = agree; reach = reaches } in
        run_same most as_it_is (length variables)
        (λ state values. unfold_state states state (here state values)) (λ state values. unfold_state after state (there state values))
        (λ state values. map (exit_of (here state values)) (exits_at states state)) (λ state values. map (exit_of (there state values)) (exits_at after state))
        own 0 opening opening_after (unfold_state states 0 (here 0 opening)) (unfold_state after 0 (there 0 opening_after))
        (λ state values other_values agree. state_rewritten states path state (length variables) (here state values) (there state other_values) leads below (alike state values other_values agree))
        (λ state values other_values agree.
        subst (λ exits. AreExitsSame as_it_is (length variables) (map (exit_of (here state values)) (exits_at states state)) (map (exit_of (there state other_values)) exits))
        (sym (exits_kept replacing names (length variables) states path state))
        (exits_alike as_it_is (length variables) (here state values) (there state other_values) (alike state values other_values agree) (exits_at states state) (exits_below (length variables) states state below)))
        agree_first
        (state_rewritten states path 0 (length variables) (here 0 opening) (there 0 opening_after) leads below (alike 0 opening opening_after agree_first))
