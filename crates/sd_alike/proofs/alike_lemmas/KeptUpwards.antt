-- A rewritten graph has the transitions of the old one, so they lead upwards as before.
use Rattle.std.proofs.Common.{◌≡◌, ℕ, zero, suc, ◌+◌, List, [], ◌∷◌, length, refl, sym, ap, subst}
use Rattle.sd_graph.specs.PlainTree.{KindTree, task, map_scope, consume_scope, nested_graph, reduction, copy, ItemTrees, no_item, and_item, StateTrees, no_state, and_state, GraphTree, graph}
use Rattle.sd_graph.specs.TreeParts.{count_states, exits_at}
use Rattle.sd_graph.specs.Upwards.{ExitsLeadUpwards, KindLeadsUpwards, ItemsLeadUpwards, StatesLeadUpwards, LeadsUpwards}
use Rattle.sd_alike.specs.alike.Places.{Replacing, items_then, kind_with, items_with, states_with, graph_with, KindLeads, ItemsLead, StatesLead, GraphLeads}
use Rattle.sd_alike.specs.alike.Maps.{IsCollapsible, collapsed, IsExpandable, expanded}
use Rattle.sd_alike.specs.alike.Tiles.{IsTileable, tiled}
use Rattle.sd_alike.proofs.alike_lemmas.SamePlaces.{exits_kept}

then_upwards : (items others : ItemTrees) → ItemsLeadUpwards items → ItemsLeadUpwards others → ItemsLeadUpwards (items_then items others)
then_upwards no_item others up also_up = also_up
then_upwards (and_item line kind items) others up also_up = (up.0, then_upwards items others up.1 also_up)

pub count_kept : (replacing : Replacing) (names : List (List ℕ)) (variables : ℕ) (states : StateTrees) (path : List ℕ) → count_states (states_with replacing names variables states path) ≡ count_states states
count_kept replacing names variables no_state path = refl
count_kept replacing names variables (and_state items exits states) [] = refl
count_kept replacing names variables (and_state items exits states) (zero ∷ path) = refl
count_kept replacing names variables (and_state items exits states) (suc number ∷ path) = ap (λ count. count + 1) (count_kept replacing names variables states (number ∷ path))

module _ (Holds : ℕ → KindTree → Type 0) (replacing : Replacing) (names : List (List ℕ))
    (replaces : (variables line : ℕ) (kind : KindTree) → Holds variables kind → KindLeadsUpwards kind → ItemsLeadUpwards (replacing variables line kind)) where
  mutual
    kind_up : (kind : KindTree) (path : List ℕ) (count : ℕ) → KindLeads Holds count kind path → KindLeadsUpwards kind → KindLeadsUpwards (kind_with replacing names count kind path)
    kind_up (task code ins outs) path count leads up = elim leads [ ]
    kind_up (map_scope sequential params private body) path count leads up = items_up body path count leads up
    kind_up (consume_scope stream element private body) path count leads up = items_up body path count leads up
    kind_up (nested_graph inner links) path count leads up = graph_up inner path leads up
    kind_up (reduction resolution axis identity from to) path count leads up = elim leads [ ]
    kind_up (copy from to) path count leads up = elim leads [ ]

    items_up : (items : ItemTrees) (path : List ℕ) (count : ℕ) → ItemsLead Holds count items path → ItemsLeadUpwards items → ItemsLeadUpwards (items_with replacing names count items path)
    items_up no_item path count leads up = elim leads [ ]
    items_up (and_item line kind items) [] count leads up = elim leads [ ]
    items_up (and_item line kind items) (zero ∷ []) count leads up = then_upwards (replacing count line kind) items (replaces count line kind leads up.0) up.1
    items_up (and_item line kind items) (zero ∷ next ∷ path) count leads up = (kind_up kind (next ∷ path) count leads up.0, up.1)
    items_up (and_item line kind items) (suc number ∷ path) count leads up = (up.0, items_up items (number ∷ path) count leads up.1)

    states_up : (states : StateTrees) (path : List ℕ) (count : ℕ) → StatesLead Holds count states path → StatesLeadUpwards states → StatesLeadUpwards (states_with replacing names count states path)
    states_up no_state path count leads up = elim leads [ ]
    states_up (and_state items exits states) [] count leads up = elim leads [ ]
    states_up (and_state items exits states) (zero ∷ path) count leads up = (items_up items path count leads up.0, up.1)
    states_up (and_state items exits states) (suc number ∷ path) count leads up = (up.0, states_up states (number ∷ path) count leads up.1)

    pub graph_up : (tree : GraphTree) (path : List ℕ) → GraphLeads Holds tree path → LeadsUpwards tree → LeadsUpwards (graph_with replacing names tree path)
    graph_up (graph name containers arguments variables symbols states) path leads up = (
      λ state.
          subst (λ exits. ExitsLeadUpwards (count_states (states_with replacing names (length variables) states path)) state exits) (sym (exits_kept replacing names (length variables) states path state))
          (subst (λ count. ExitsLeadUpwards count state (exits_at states state)) (sym (count_kept replacing names (length variables) states path)) (up.0 state)),
      states_up states path (length variables) leads up.1,
    )

collapse_up : (variables line : ℕ) (kind : KindTree) → IsCollapsible variables kind → KindLeadsUpwards kind → ItemsLeadUpwards (collapsed variables line kind)
collapse_up variables line kind holds up =
    let up_outer : KindLeadsUpwards (map_scope holds.outer_sequential holds.outer [] (and_item holds.inner_line (map_scope holds.inner_sequential holds.inner holds.private holds.body) no_item)) = subst KindLeadsUpwards holds.shape up in
    subst (λ kind. ItemsLeadUpwards (collapsed variables line kind)) (sym holds.shape) (up_outer.0, tt)

expand_up : (variables line : ℕ) (kind : KindTree) → IsExpandable variables kind → KindLeadsUpwards kind → ItemsLeadUpwards (expanded variables line kind)
expand_up variables line kind holds up =
    let up_one : KindLeadsUpwards (map_scope holds.sequential (holds.first ∷ holds.second ∷ holds.others) holds.private holds.body) = subst KindLeadsUpwards holds.shape up in
    subst (λ kind. ItemsLeadUpwards (expanded variables line kind)) (sym holds.shape) ((up_one, tt), tt)

tile_up : (size variables line : ℕ) (kind : KindTree) → IsTileable size variables kind → KindLeadsUpwards kind → ItemsLeadUpwards (tiled size variables line kind)
tile_up size variables line kind holds up =
    let up_one : KindLeadsUpwards (map_scope holds.sequential ((holds.parameter, holds.range) ∷ []) holds.private holds.body) = subst KindLeadsUpwards holds.shape up in
    subst (λ kind. ItemsLeadUpwards (tiled size variables line kind)) (sym holds.shape) ((up_one, tt), tt)

pub collapsed_up : (tree : GraphTree) (path : List ℕ) → GraphLeads IsCollapsible tree path → LeadsUpwards tree → LeadsUpwards (graph_with collapsed [] tree path)
collapsed_up = graph_up IsCollapsible collapsed [] collapse_up

pub expanded_up : (tree : GraphTree) (path : List ℕ) → GraphLeads IsExpandable tree path → LeadsUpwards tree → LeadsUpwards (graph_with expanded [] tree path)
expanded_up = graph_up IsExpandable expanded [] expand_up

pub tiled_up : (size : ℕ) (name : List ℕ) (tree : GraphTree) (path : List ℕ) → GraphLeads (IsTileable size) tree path → LeadsUpwards tree → LeadsUpwards (graph_with (tiled size) (name ∷ []) tree path)
tiled_up size name = graph_up (IsTileable size) (tiled size) (name ∷ []) (tile_up size)
