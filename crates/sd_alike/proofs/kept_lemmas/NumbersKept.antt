-- The numbers that stand in a graph, containers of scopes, parameters and variables that are set, are those of the graph with an item replaced.
use Rattle.std.proofs.Common.{◌≡◌, ℕ, zero, suc, ◌+◌, ◌<◌, ◌≤◌, nat_lt, List, [], ◌∷◌, ◌++◌, length, Bool, true, false, refl, sym, ◌∙◌, ap, subst, append_assoc, append-nil, arith}
use Rattle.std.specs.List.{list_all, flat_map}
use Rattle.sd_range.specs.declared.range.Range.{Range}
use Rattle.sd_graph.specs.PlainTree.{KindTree, task, map_scope, consume_scope, nested_graph, reduction, copy, ItemTrees, no_item, and_item, StateTrees, no_state, and_state, GraphTree, graph, ExitTree}
use Rattle.sd_graph.specs.ContainerParts.{Containers}
use Rattle.sd_graph.specs.LoopScope.{numbers_below}
use Rattle.sd_graph.specs.declared.link.Link.{Link}
use Rattle.sd_graph.specs.Wiring.{has_number}
use Rattle.sd_validity.specs.rules.Places.{Thing, whole, leaving, doing, param_numbers}
use Rattle.sd_validity.specs.rules.NamesInForce.{held_at, held_in_kind, held_in, held_in_states, is_private_held, are_private_held, params_at, set_at, are_new}
use Rattle.sd_validity.proofs.things_lemmas.Times.{times, times_joined, is_there, no_times, some_times, new_from, new_times}
use Rattle.sd_validity.specs.things.Things.{things_in, item_things, state_things, graph_things}
use Rattle.sd_alike.specs.alike.Places.{Replacing, items_then, kind_with, items_with, states_with, graph_with, KindLeads, ItemsLead, StatesLead, GraphLeads}
use Rattle.sd_alike.specs.alike.Maps.{IsCollapsible, collapsed, IsExpandable, expanded}
use Rattle.sd_alike.proofs.kept_lemmas.OnceThings.{AreOnce, flat_both}

-- ---- what a graph as a whole is asked

pub record IsOnceGraph (tree : GraphTree) : Type 0 where
  pub once : AreOnce (graph_things tree)
  pub held : are_private_held tree ≡ true

-- numbers that do not look into the items of a state or a scope, nor into a nested graph
pub record AreOutside (numbers : Thing → List ℕ) : Type 0 where
  pub graph_none : numbers whole ≡ []
  pub list : (items others : ItemTrees) (exits : List ExitTree) → numbers (leaving others exits) ≡ numbers (leaving items exits)
  pub map_body : (sequential : Bool) (params : List (ℕ × Range)) (private : List ℕ) (body other : ItemTrees) → numbers (doing (map_scope sequential params private other)) ≡ numbers (doing (map_scope sequential params private body))
  pub consume_body : (stream element : ℕ) (private : List ℕ) (body other : ItemTrees) → numbers (doing (consume_scope stream element private other)) ≡ numbers (doing (consume_scope stream element private body))
  pub inner : (inner other : GraphTree) (links : List Link) → numbers (doing (nested_graph other links)) ≡ numbers (doing (nested_graph inner links))

pub held_outside : AreOutside held_at
held_outside = record { graph_none = refl; list = λ items others exits. refl; map_body = λ sequential params private body other. refl; consume_body = λ stream element private body other. refl; inner = λ inner other links. refl }

pub params_outside : AreOutside params_at
params_outside = record { graph_none = refl; list = λ items others exits. refl; map_body = λ sequential params private body other. refl; consume_body = λ stream element private body other. refl; inner = λ inner other links. refl }

pub set_outside : AreOutside set_at
set_outside = record { graph_none = refl; list = λ items others exits. refl; map_body = λ sequential params private body other. refl; consume_body = λ stream element private body other. refl; inner = λ inner other links. refl }

things_then : (items others : ItemTrees) → item_things (items_then items others) ≡ item_things items ++ item_things others
things_then no_item others = refl
things_then (and_item line kind items) others =
    ap (λ rest. doing kind ∷ rest) (ap (λ rest. things_in kind ++ rest) (things_then items others) ∙ sym (append_assoc (things_in kind) (item_things items) (item_things others)))

-- ---- with an item replaced

-- what is said of numbers in the place of others, in a graph of so many variables: it holds of the numbers themselves, and with the same numbers before and behind
pub record IsJoined (Same : (variables : ℕ) → (numbers others : List ℕ) → Type 0) : Type 0 where
  pub itself : (variables : ℕ) (numbers : List ℕ) → Same variables numbers numbers
  pub behind : (variables : ℕ) (before numbers others : List ℕ) → Same variables numbers others → Same variables (before ++ numbers) (before ++ others)
  pub before : (variables : ℕ) (numbers others behind : List ℕ) → Same variables numbers others → Same variables (numbers ++ behind) (others ++ behind)

-- it is said of the numbers of what stands in the place of an item
abbrev pub KeepsBy : (Same : (variables : ℕ) → (numbers others : List ℕ) → Type 0) → (numbers : Thing → List ℕ) → (ℕ → KindTree → Type 0) → Replacing → Type 0
KeepsBy Same numbers Leading replacing =
    (variables line : ℕ) (kind : KindTree) → Leading variables kind → Same variables (numbers (doing kind) ++ flat_map numbers (things_in kind)) (flat_map numbers (item_things (replacing variables line kind)))

-- they are the same numbers
abbrev pub AreSame : (variables : ℕ) → (numbers others : List ℕ) → Type 0
AreSame variables numbers others = others ≡ numbers

abbrev pub KeepsNumbers : (numbers : Thing → List ℕ) → (ℕ → KindTree → Type 0) → Replacing → Type 0
KeepsNumbers numbers Leading replacing = KeepsBy AreSame numbers Leading replacing

same_joined : IsJoined AreSame
same_joined = record {
  itself = λ variables numbers. refl;
  behind = λ variables before numbers others same. ap (λ rest. before ++ rest) same;
  before = λ variables numbers others behind same. ap (λ first. first ++ behind) same;
}

-- each of the graph's variables stands as often; any other number may stand once more
pub record AreAmong (variables : ℕ) (numbers others : List ℕ) : Type 0 where
  pub known : (number : ℕ) → number < variables → times number others ≡ times number numbers
  pub fresh : (number : ℕ) → times number others ≤ times number numbers + 1

among_joined : IsJoined AreAmong
among_joined = record {
  itself = λ variables numbers. record { known = λ number below. refl; fresh = λ number. omega arith };
  behind = λ variables before numbers others among. record {
    known = λ number below. omega (arith, times_joined number before numbers, times_joined number before others, among.known number below);
    fresh = λ number. omega (arith, times_joined number before numbers, times_joined number before others, among.fresh number);
  };
  before = λ variables numbers others behind among. record {
    known = λ number below. omega (arith, times_joined number numbers behind, times_joined number others behind, among.known number below);
    fresh = λ number. omega (arith, times_joined number numbers behind, times_joined number others behind, among.fresh number);
  };
}

pub same_among : (variables : ℕ) (numbers others : List ℕ) → others ≡ numbers → AreAmong variables numbers others
same_among variables numbers others same = subst (AreAmong variables numbers) (sym same) (among_joined.itself variables numbers)

module _ (Same : (variables : ℕ) → (numbers others : List ℕ) → Type 0) (joins : IsJoined Same)
    (numbers : Thing → List ℕ) (outside : AreOutside numbers) (Leading : ℕ → KindTree → Type 0) (names : List (List ℕ)) (replacing : Replacing) (keeps : KeepsBy Same numbers Leading replacing) where
  moved : (variables : ℕ) (few few' many many' : List ℕ) → few' ≡ few → many' ≡ many → Same variables few' many' → Same variables few many
  moved variables few few' many many' e e' same = subst (λ few. Same variables few many) e (subst (λ many. Same variables few' many) e' same)

  flat_item : (line : ℕ) (kind : KindTree) (items : ItemTrees) → (numbers (doing kind) ++ flat_map numbers (things_in kind)) ++ flat_map numbers (item_things items) ≡ flat_map numbers (item_things (and_item line kind items))
  flat_item line kind items =
      append_assoc (numbers (doing kind)) (flat_map numbers (things_in kind)) (flat_map numbers (item_things items))
      ∙ ap (λ rest. numbers (doing kind) ++ rest) (sym (flat_both numbers (things_in kind) (item_things items)))

  mutual
    kind_kept : (kind : KindTree) (path : List ℕ) (variables : ℕ) → KindLeads Leading variables kind path →
        (numbers (doing (kind_with replacing names variables kind path)) ≡ numbers (doing kind)) × Same variables (flat_map numbers (things_in kind)) (flat_map numbers (things_in (kind_with replacing names variables kind path)))
    kind_kept (task code ins outs) path variables leads = elim leads [ ]
    kind_kept (map_scope sequential params private body) path variables leads = (outside.map_body sequential params private body (items_with replacing names variables body path), items_kept body path variables leads)
    kind_kept (consume_scope stream element private body) path variables leads = (outside.consume_body stream element private body (items_with replacing names variables body path), items_kept body path variables leads)
    kind_kept (nested_graph inner links) path variables leads = (outside.inner inner (graph_with replacing names inner path) links, joins.itself variables [])
    kind_kept (reduction resolution axis identity from to) path variables leads = elim leads [ ]
    kind_kept (copy from to) path variables leads = elim leads [ ]

    items_kept : (items : ItemTrees) (path : List ℕ) (variables : ℕ) → ItemsLead Leading variables items path →
        Same variables (flat_map numbers (item_things items)) (flat_map numbers (item_things (items_with replacing names variables items path)))
    items_kept no_item path variables leads = elim leads [ ]
    items_kept (and_item line kind items) [] variables leads = elim leads [ ]
    items_kept (and_item line kind items) (zero ∷ []) variables leads =
        let own = numbers (doing kind) ++ flat_map numbers (things_in kind) in
        let other = flat_map numbers (item_things (replacing variables line kind)) in
        let rest = flat_map numbers (item_things items) in
        moved variables (flat_map numbers (item_things (and_item line kind items))) (own ++ rest) (flat_map numbers (item_things (items_then (replacing variables line kind) items))) (other ++ rest)
        (flat_item line kind items)
        (sym (ap (flat_map numbers) (things_then (replacing variables line kind) items) ∙ flat_both numbers (item_things (replacing variables line kind)) (item_things items)))
        (joins.before variables own other rest (keeps variables line kind leads))
    items_kept (and_item line kind items) (zero ∷ next ∷ path) variables leads =
        let other : KindTree = kind_with replacing names variables kind (next ∷ path) in
        let kept = kind_kept kind (next ∷ path) variables leads in
        let first = numbers (doing kind) in
        let rest = flat_map numbers (item_things items) in
        moved variables (flat_map numbers (item_things (and_item line kind items))) ((first ++ flat_map numbers (things_in kind)) ++ rest)
        (flat_map numbers (item_things (and_item line other items))) ((first ++ flat_map numbers (things_in other)) ++ rest)
        (flat_item line kind items)
        (ap (λ first. (first ++ flat_map numbers (things_in other)) ++ rest) (sym kept.0) ∙ flat_item line other items)
        (joins.before variables (first ++ flat_map numbers (things_in kind)) (first ++ flat_map numbers (things_in other)) rest
        (joins.behind variables first (flat_map numbers (things_in kind)) (flat_map numbers (things_in other)) kept.1))
    items_kept (and_item line kind items) (suc number ∷ path) variables leads =
        let others : ItemTrees = items_with replacing names variables items (number ∷ path) in
        let own = numbers (doing kind) ++ flat_map numbers (things_in kind) in
        let rest = flat_map numbers (item_things items) in
        let other = flat_map numbers (item_things others) in
        moved variables (flat_map numbers (item_things (and_item line kind items))) (own ++ rest) (flat_map numbers (item_things (and_item line kind others))) (own ++ other)
        (flat_item line kind items) (flat_item line kind others)
        (joins.behind variables own rest other (items_kept items (number ∷ path) variables leads))

  flat_state : (items : ItemTrees) (exits : List ExitTree) (states : StateTrees) →
      numbers (leaving items exits) ++ (flat_map numbers (item_things items) ++ flat_map numbers (state_things states)) ≡ flat_map numbers (state_things (and_state items exits states))
  flat_state items exits states = ap (λ rest. numbers (leaving items exits) ++ rest) (sym (flat_both numbers (item_things items) (state_things states)))

  pub states_kept : (states : StateTrees) (path : List ℕ) (variables : ℕ) → StatesLead Leading variables states path →
      Same variables (flat_map numbers (state_things states)) (flat_map numbers (state_things (states_with replacing names variables states path)))
  states_kept no_state path variables leads = elim leads [ ]
  states_kept (and_state items exits states) [] variables leads = elim leads [ ]
  states_kept (and_state items exits states) (zero ∷ path) variables leads =
      let after : ItemTrees = items_with replacing names variables items path in
      let first = numbers (leaving items exits) in
      let own = flat_map numbers (item_things items) in
      let other = flat_map numbers (item_things after) in
      let rest = flat_map numbers (state_things states) in
      moved variables (flat_map numbers (state_things (and_state items exits states))) (first ++ (own ++ rest)) (flat_map numbers (state_things (and_state after exits states))) (first ++ (other ++ rest))
      (flat_state items exits states)
      (ap (λ first. first ++ (other ++ rest)) (sym (outside.list items after exits)) ∙ flat_state after exits states)
      (joins.behind variables first (own ++ rest) (other ++ rest) (joins.before variables own other rest (items_kept items path variables leads)))
  states_kept (and_state items exits states) (suc number ∷ path) variables leads =
      let after : StateTrees = states_with replacing names variables states (number ∷ path) in
      let first = numbers (leaving items exits) in
      let own = flat_map numbers (item_things items) in
      let rest = flat_map numbers (state_things states) in
      let other = flat_map numbers (state_things after) in
      moved variables (flat_map numbers (state_things (and_state items exits states))) (first ++ (own ++ rest)) (flat_map numbers (state_things (and_state items exits after))) (first ++ (own ++ other))
      (flat_state items exits states) (flat_state items exits after)
      (joins.behind variables first (own ++ rest) (own ++ other) (joins.behind variables own rest other (states_kept states (number ∷ path) variables leads)))

-- ---- the containers that scopes make their own

mutual
  held_kind_is : (kind : KindTree) → held_in_kind kind ≡ held_at (doing kind) ++ flat_map held_at (things_in kind)
  held_kind_is (task code ins outs) = refl
  held_kind_is (map_scope sequential params private body) = ap (λ rest. private ++ rest) (held_items_are body)
  held_kind_is (consume_scope stream element private body) = ap (λ rest. (element ∷ private) ++ rest) (held_items_are body)
  held_kind_is (nested_graph inner links) = refl
  held_kind_is (reduction resolution axis identity from to) = refl
  held_kind_is (copy from to) = refl

  held_items_are : (items : ItemTrees) → held_in items ≡ flat_map held_at (item_things items)
  held_items_are no_item = refl
  held_items_are (and_item line kind items) =
      (λ i. held_kind_is kind i ++ held_items_are items i)
      ∙ append_assoc (held_at (doing kind)) (flat_map held_at (things_in kind)) (flat_map held_at (item_things items))
      ∙ ap (λ rest. held_at (doing kind) ++ rest) (sym (flat_both held_at (things_in kind) (item_things items)))

held_states_are : (states : StateTrees) → held_in_states states ≡ flat_map held_at (state_things states)
held_states_are no_state = refl
held_states_are (and_state items exits states) = (λ i. held_items_are items i ++ held_states_are states i) ∙ sym (flat_both held_at (item_things items) (state_things states))

-- ---- the graph

-- the parameters and the variables that are set are variables of the graph
pub record AreGivenBelow (variables : ℕ) (states : StateTrees) : Type 0 where
  pub params : (number : ℕ) → has_number (flat_map params_at (state_things states)) number ≡ true → number < variables
  pub set : (number : ℕ) → has_number (flat_map set_at (state_things states)) number ≡ true → number < variables

module _ (variables : ℕ) (numbers others : List ℕ) (among : AreAmong variables numbers others) (below : (number : ℕ) → has_number numbers number ≡ true → number < variables) where
  -- they stand once still
  stay_new : are_new [] numbers ≡ true → are_new [] others ≡ true
  stay_new new = new_from [] others (λ number. at_most number (nat_lt number variables) refl) (λ number some. refl)
    where
      none_there : (number : ℕ) → variables ≤ number → times number numbers ≡ 0
      none_there number behind = by (has_number numbers number) refl
        where
          by : (there : Bool) → has_number numbers number ≡ there → times number numbers ≡ 0
          by true is = absurd (omega (arith, behind, below number is))
          by false is = no_times number numbers is

      at_most : (number : ℕ) (less : Bool) → nat_lt number variables ≡ less → times number others ≤ 1
      at_most number true is = omega (arith, among.known number (grind (arith, is)), (new_times number [] numbers new).0)
      at_most number false is = omega (arith, among.fresh number, none_there number (grind (arith, is)))

  -- one of them that is a variable of the graph was there before
  was_there : (number : ℕ) → number < variables → has_number others number ≡ true → has_number numbers number ≡ true
  was_there number less is = is_there number numbers (omega (arith, among.known number less, some_times number others is))

module _ (Leading : ℕ → KindTree → Type 0) (names : List (List ℕ)) (replacing : Replacing) (held : KeepsNumbers held_at Leading replacing) (params : KeepsBy AreAmong params_at Leading replacing) (set : KeepsNumbers set_at Leading replacing) where
  pub once_stays : (name : List ℕ) (containers : Containers) (arguments : ℕ) (variables more : List (List ℕ)) (symbols : ℕ) (states : StateTrees) (path : List ℕ) → StatesLead Leading (length variables) states path →
      AreGivenBelow (length variables) states → IsOnceGraph (graph name containers arguments variables symbols states) → IsOnceGraph (graph name containers arguments more symbols (states_with replacing names (length variables) states path))
  once_stays name containers arguments variables more symbols states path leads below was =
      let after : StateTrees = states_with replacing names (length variables) states path in
      let held_same = states_kept AreSame same_joined held_at held_outside Leading names replacing held states path (length variables) leads in
      let params_among = states_kept AreAmong among_joined params_at params_outside Leading names replacing params states path (length variables) leads in
      let set_same = states_kept AreSame same_joined set_at set_outside Leading names replacing set states path (length variables) leads in
      record {
        once = record {
          held = ap (are_new []) held_same ∙ was.once.held;
          params = stay_new (length variables) (flat_map params_at (state_things states)) (flat_map params_at (state_things after)) params_among below.params was.once.params;
          apart = λ n param there.
              let was_set = sym (ap (λ numbers. has_number numbers n) set_same) ∙ there in
              was.once.apart n (was_there (length variables) (flat_map params_at (state_things states)) (flat_map params_at (state_things after)) params_among below.params n (below.set n was_set) param) was_set;
        };
        held = ap (λ own. list_all (is_private_held containers own) (numbers_below (length containers))) (held_states_are after ∙ held_same ∙ sym (held_states_are states)) ∙ was.held;
      }

-- ---- collapsed and expanded maps

pub collapsed_held : KeepsNumbers held_at IsCollapsible collapsed
collapsed_held variables line kind collapsible =
    subst (λ kind. flat_map held_at (item_things (collapsed variables line kind)) ≡ held_at (doing kind) ++ flat_map held_at (things_in kind)) (sym collapsible.shape) refl

pub collapsed_params : KeepsBy AreAmong params_at IsCollapsible collapsed
collapsed_params variables line kind collapsible = same_among variables (params_at (doing kind) ++ flat_map params_at (things_in kind)) (flat_map params_at (item_things (collapsed variables line kind))) (
    subst (λ kind. flat_map params_at (item_things (collapsed variables line kind)) ≡ params_at (doing kind) ++ flat_map params_at (things_in kind)) (sym collapsible.shape)
    (joined_numbers collapsible.outer collapsible.inner (flat_map params_at (item_things collapsible.body ++ []))))
  where
    joined_numbers : (outer inner : List (ℕ × Range)) (rest : List ℕ) → param_numbers (outer ++ inner) ++ rest ≡ param_numbers outer ++ (param_numbers inner ++ rest)
    joined_numbers [] inner rest = refl
    joined_numbers (param ∷ outer) inner rest = ap (λ rest. param.0 ∷ rest) (joined_numbers outer inner rest)

pub collapsed_set : KeepsNumbers set_at IsCollapsible collapsed
collapsed_set variables line kind collapsible =
    subst (λ kind. flat_map set_at (item_things (collapsed variables line kind)) ≡ set_at (doing kind) ++ flat_map set_at (things_in kind)) (sym collapsible.shape) refl

-- behind the items of the inner map stands nothing
ended : (body : ItemTrees) → (item_things body ++ []) ++ [] ≡ item_things body
ended body = append-nil (item_things body ++ []) ∙ append-nil (item_things body)

pub expanded_held : KeepsNumbers held_at IsExpandable expanded
expanded_held variables line kind expandable =
    subst (λ kind. flat_map held_at (item_things (expanded variables line kind)) ≡ held_at (doing kind) ++ flat_map held_at (things_in kind)) (sym expandable.shape)
    (ap (λ things. expandable.private ++ flat_map held_at things) (ended expandable.body))

pub expanded_params : KeepsBy AreAmong params_at IsExpandable expanded
expanded_params variables line kind expandable = same_among variables (params_at (doing kind) ++ flat_map params_at (things_in kind)) (flat_map params_at (item_things (expanded variables line kind))) (
    subst (λ kind. flat_map params_at (item_things (expanded variables line kind)) ≡ params_at (doing kind) ++ flat_map params_at (things_in kind)) (sym expandable.shape)
    (ap (λ things. expandable.first.0 ∷ (param_numbers (expandable.second ∷ expandable.others) ++ flat_map params_at things)) (ended expandable.body)))

pub expanded_set : KeepsNumbers set_at IsExpandable expanded
expanded_set variables line kind expandable =
    subst (λ kind. flat_map set_at (item_things (expanded variables line kind)) ≡ set_at (doing kind) ++ flat_map set_at (things_in kind)) (sym expandable.shape)
    (ap (λ things. flat_map set_at things) (ended expandable.body))
