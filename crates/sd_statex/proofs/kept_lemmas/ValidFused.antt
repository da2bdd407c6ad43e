-- A valid graph with two states fused is valid.
use Rattle.std.proofs.Common.{◌≡◌, ◌⊎◌, inl, inr, ℕ, zero, suc, ◌<◌, List, [], ◌∷◌, true, false, subst}
use Rattle.sd_graph.specs.PlainTree.{KindTree, task, map_scope, consume_scope, nested_graph, reduction, copy, ItemTrees, no_item, and_item, StateTrees, no_state, and_state, GraphTree, graph}
use Rattle.sd_graph.specs.TreeParts.{exits_at, count_states}
use Rattle.sd_graph.specs.Upwards.{ExitsLeadUpwards, KindLeadsUpwards, ItemsLeadUpwards, StatesLeadUpwards, LeadsUpwards}
use Rattle.sd_validity.specs.rules.Failing.{Holds}
use Rattle.sd_validity.specs.rules.Transitions.{rule_3}
use Rattle.sd_validity.specs.rules.WithinLimits.{rule_7}
use Rattle.sd_validity.specs.rules.Valid.{IsValid}
use Rattle.sd_validity.proofs.rules_lemmas.UpwardsLemmas.{leads_upwards}
use Rattle.sd_alike.proofs.kept_lemmas.Held.{Asked, rule_of, IsLocal, StaysWider}
use Rattle.sd_alike.proofs.kept_lemmas.LocalRules.{dimensions_asked, streams_asked, nesting_asked, shapes_asked, sizes_asked, dimensions_local, streams_local, nesting_local, shapes_local, sizes_local}
use Rattle.sd_alike.proofs.kept_lemmas.Wider.{dimensions_wider, streams_wider, nesting_wider, shapes_wider, sizes_wider}
use Rattle.sd_statex.specs.states.FusedStates.{plain_exit, AreStatesFusible, graph_fused}
use Rattle.sd_statex.specs.states.ChangedGraphs.{graph_changed, KindHas, ItemsHave, StatesHave, GraphHas}
use Rattle.sd_statex.proofs.kept_lemmas.Seen.{IsSeen, dimensions_seen, streams_seen, nesting_seen, shapes_seen, sizes_seen}
use Rattle.sd_statex.proofs.kept_lemmas.HeldChanged.{rule_stays}
use Rattle.sd_statex.proofs.kept_lemmas.HeldFused.{AreFusibleThere, fused_looks, fused_keeps}
use Rattle.sd_statex.proofs.kept_lemmas.NamesFused.{names_fused}

-- ---- what is known of the graph at a path, where transitions lead upwards

module _ (Has Other : GraphTree → Type 0) (gives : (tree : GraphTree) → Has tree → LeadsUpwards tree → Other tree) where
  mutual
    kind_has : (kind : KindTree) (path : List ℕ) → KindHas Has kind path → KindLeadsUpwards kind → KindHas Other kind path
    kind_has (task code ins outs) path has up = elim has [ ]
    kind_has (map_scope sequential params private body) path has up = items_have body path has up
    kind_has (consume_scope stream element private body) path has up = items_have body path has up
    kind_has (nested_graph inner links) path has up = graph_has inner path has up
    kind_has (reduction resolution axis identity from to) path has up = elim has [ ]
    kind_has (copy from to) path has up = elim has [ ]

    items_have : (items : ItemTrees) (path : List ℕ) → ItemsHave Has items path → ItemsLeadUpwards items → ItemsHave Other items path
    items_have no_item path has up = elim has [ ]
    items_have (and_item line kind items) [] has up = elim has [ ]
    items_have (and_item line kind items) (zero ∷ path) has up = kind_has kind path has up.0
    items_have (and_item line kind items) (suc number ∷ path) has up = items_have items (number ∷ path) has up.1

    states_have : (states : StateTrees) (path : List ℕ) → StatesHave Has states path → StatesLeadUpwards states → StatesHave Other states path
    states_have no_state path has up = elim has [ ]
    states_have (and_state items exits states) [] has up = elim has [ ]
    states_have (and_state items exits states) (zero ∷ path) has up = items_have items path has up.0
    states_have (and_state items exits states) (suc number ∷ path) has up = states_have states (number ∷ path) has up.1

    pub graph_has : (tree : GraphTree) (path : List ℕ) → GraphHas Has tree path → LeadsUpwards tree → GraphHas Other tree path
    graph_has (graph name containers arguments variables symbols states) [] has up = gives (graph name containers arguments variables symbols states) has up
    graph_has (graph name containers arguments variables symbols states) (number ∷ path) has up = states_have states (number ∷ path) has up.1

-- the state to which a plain transition leads is there, and above the one out of which it leads
pub step_upwards : (first second : ℕ) (states : StateTrees) → exits_at states first ≡ plain_exit second ∷ [] → ((state : ℕ) → ExitsLeadUpwards (count_states states) state (exits_at states state)) →
    (first < second) × (second < count_states states)
step_upwards first second states step up = by (subst (ExitsLeadUpwards (count_states states) first) step (up first)).0
  where
    marked : false ≡ true → {A : Type 0} → A
    marked is = cc

    by : (false ≡ true) ⊎ ((first < second) × (second < count_states states)) → (first < second) × (second < count_states states)
    by (inl is) = marked is
    by (inr there) = there

pub fusible_there : (first second : ℕ) (tree : GraphTree) → AreStatesFusible first second tree → LeadsUpwards tree → AreFusibleThere first second tree
fusible_there first second (graph name containers arguments variables symbols states) fusible up = (fusible, (step_upwards first second states fusible.step up.0).1)

-- ---- the rules

module _ (first second : ℕ) where
  rule_fused : (asked : Asked) → IsLocal asked → StaysWider asked → IsSeen asked → (tree : GraphTree) (path : List ℕ) → GraphHas (AreFusibleThere first second) tree path →
      Holds (rule_of asked) tree → Holds (rule_of asked) (graph_changed (graph_fused first second) tree path)
  rule_fused asked local stays seen =
      rule_stays (AreFusibleThere first second) (graph_fused first second) (fused_looks first second) asked local stays seen (fused_keeps first second asked local stays seen)

  pub fused_valid : (tree : GraphTree) (path : List ℕ) → IsValid tree → GraphHas (AreStatesFusible first second) tree path →
      Holds rule_3 (graph_changed (graph_fused first second) tree path) → Holds rule_7 (graph_changed (graph_fused first second) tree path) → IsValid (graph_changed (graph_fused first second) tree path)
  fused_valid tree path valid has transitions limits =
      let there : GraphHas (AreFusibleThere first second) tree path =
      graph_has (AreStatesFusible first second) (AreFusibleThere first second) (fusible_there first second) tree path has (leads_upwards tree valid.transitions) in
      record {
        names = names_fused first second tree path there valid.names;
        dimensions = rule_fused dimensions_asked dimensions_local dimensions_wider dimensions_seen tree path there valid.dimensions;
        transitions = transitions;
        streams = rule_fused streams_asked streams_local streams_wider streams_seen tree path there valid.streams;
        nesting = rule_fused nesting_asked nesting_local nesting_wider nesting_seen tree path there valid.nesting;
        shapes = rule_fused shapes_asked shapes_local shapes_wider shapes_seen tree path there valid.shapes;
        limits = limits;
        sizes = rule_fused sizes_asked sizes_local sizes_wider sizes_seen tree path there valid.sizes;
      }
