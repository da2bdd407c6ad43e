-- What holds of all that is in a graph holds of the graph in which one at a path is changed, where it holds of that one.
use Rattle.std.proofs.Common.{◌≡◌, ℕ, zero, suc, ◌+◌, List, [], ◌∷◌, ◌++◌, length, true, ◌||◌, refl, sym, ◌∙◌, ap}
use Rattle.sd_graph.specs.PlainTree.{KindTree, task, map_scope, consume_scope, nested_graph, reduction, copy, ItemTrees, no_item, and_item, StateTrees, no_state, and_state, GraphTree, graph}
use Rattle.sd_graph.specs.TreeParts.{count_states}
use Rattle.sd_graph.specs.Wiring.{has_number}
use Rattle.sd_validity.specs.rules.Failing.{Holds}
use Rattle.sd_validity.specs.rules.Places.{Scopes, no_scopes, in_map, in_consume, loops_at, whole, doing}
use Rattle.sd_validity.specs.rules.NestedLinks.{written_by, written_in, written_in_states, written_of}
use Rattle.sd_alike.proofs.kept_lemmas.Held.{Asked, rule_of, HoldsIn, HoldsAmong, HoldsInStates, HoldsAll, IsLocal, StaysWider}
use Rattle.sd_alike.proofs.kept_lemmas.HeldPlaces.{rule_held, held_rule}
use Rattle.sd_alike.proofs.kept_lemmas.HeldReplaced.{has_both}
use Rattle.sd_alike.proofs.kept_lemmas.SameLoops.{loops_same}
use Rattle.sd_statex.specs.states.ChangedGraphs.{kind_changed, items_changed, states_changed, graph_changed, KindHas, ItemsHave, StatesHave, GraphHas}
use Rattle.sd_statex.proofs.states_lemmas.ChangedTrees.{exits_stay}
use Rattle.sd_statex.proofs.kept_lemmas.Seen.{AreSeenSame, IsSeen, through_same}
use Rattle.sd_statex.proofs.kept_lemmas.Carried.{states_carried}

-- the changed graph looks the same from outside
abbrev pub LooksSame : (Has : GraphTree → Type 0) → (change : GraphTree → GraphTree) → Type 0
LooksSame Has change = (tree : GraphTree) → Has tree → AreSeenSame tree (change tree)

pub count_stays : (change : GraphTree → GraphTree) (states : StateTrees) (path : List ℕ) → count_states (states_changed change states path) ≡ count_states states
count_stays change no_state path = refl
count_stays change (and_state items exits states) [] = refl
count_stays change (and_state items exits states) (zero ∷ path) = refl
count_stays change (and_state items exits states) (suc number ∷ path) = ap (λ count. count + 1) (count_stays change states (number ∷ path))

module _ (Has : GraphTree → Type 0) (change : GraphTree → GraphTree) (looks : LooksSame Has change) where
  -- ---- what is written

  -- a list with the same numbers before or behind
  beside : (first other rest : List ℕ) (n : ℕ) → has_number other n ≡ has_number first n → has_number (other ++ rest) n ≡ has_number (first ++ rest) n
  beside first other rest n same = has_both other rest n ∙ ap (λ own. own || has_number rest n) same ∙ sym (has_both first rest n)

  after : (first rest other : List ℕ) (n : ℕ) → has_number other n ≡ has_number rest n → has_number (first ++ other) n ≡ has_number (first ++ rest) n
  after first rest other n same = has_both first other n ∙ ap (λ more. has_number first n || more) same ∙ sym (has_both first rest n)

  mutual
    kind_writes : (kind : KindTree) (path : List ℕ) → KindHas Has kind path → (n : ℕ) → has_number (written_by (kind_changed change kind path)) n ≡ has_number (written_by kind) n
    kind_writes (task code ins outs) path has n = elim has [ ]
    kind_writes (map_scope sequential params private body) path has n = items_write body path has n
    kind_writes (consume_scope stream element private body) path has n = items_write body path has n
    kind_writes (nested_graph inner links) path has n =
        ap (λ written. has_number written n) (through_same (written_of inner) (written_of (graph_changed change inner path)) (graph_writes inner path has) 0 links)
    kind_writes (reduction resolution axis identity from to) path has n = elim has [ ]
    kind_writes (copy from to) path has n = elim has [ ]

    items_write : (items : ItemTrees) (path : List ℕ) → ItemsHave Has items path → (n : ℕ) → has_number (written_in (items_changed change items path)) n ≡ has_number (written_in items) n
    items_write no_item path has n = elim has [ ]
    items_write (and_item line kind items) [] has n = elim has [ ]
    items_write (and_item line kind items) (zero ∷ path) has n = beside (written_by kind) (written_by (kind_changed change kind path)) (written_in items) n (kind_writes kind path has n)
    items_write (and_item line kind items) (suc number ∷ path) has n =
        after (written_by kind) (written_in items) (written_in (items_changed change items (number ∷ path))) n (items_write items (number ∷ path) has n)

    states_write : (states : StateTrees) (path : List ℕ) → StatesHave Has states path → (n : ℕ) → has_number (written_in_states (states_changed change states path)) n ≡ has_number (written_in_states states) n
    states_write no_state path has n = elim has [ ]
    states_write (and_state items exits states) [] has n = elim has [ ]
    states_write (and_state items exits states) (zero ∷ path) has n =
        beside (written_in items) (written_in (items_changed change items path)) (written_in_states states) n (items_write items path has n)
    states_write (and_state items exits states) (suc number ∷ path) has n =
        after (written_in items) (written_in_states states) (written_in_states (states_changed change states (number ∷ path))) n (states_write states (number ∷ path) has n)

    graph_writes : (tree : GraphTree) (path : List ℕ) → GraphHas Has tree path → (n : ℕ) → has_number (written_of (graph_changed change tree path)) n ≡ has_number (written_of tree) n
    graph_writes (graph name containers arguments variables symbols states) [] has n = (looks (graph name containers arguments variables symbols states) has).written n
    graph_writes (graph name containers arguments variables symbols states) (number ∷ path) has n = states_write states (number ∷ path) has n

  graph_looks : (tree : GraphTree) (path : List ℕ) → GraphHas Has tree path → AreSeenSame tree (graph_changed change tree path)
  graph_looks (graph name containers arguments variables symbols states) [] has = looks (graph name containers arguments variables symbols states) has
  graph_looks (graph name containers arguments variables symbols states) (number ∷ path) has = record {
    containers = refl;
    arguments = refl;
    written = states_write states (number ∷ path) has;
  }

  -- ---- what holds

  module _ (asked : Asked) (local : IsLocal asked) (stays : StaysWider asked) (seen : IsSeen asked) (keeps : (tree : GraphTree) → Has tree → HoldsAll asked tree → HoldsAll asked (change tree)) where
    mutual
      kind_stays : (tree : GraphTree) (loops : List ℕ) (scopes : Scopes) (kind : KindTree) (path : List ℕ) → KindHas Has kind path → asked tree loops scopes (doing kind) ≡ true → HoldsIn asked tree loops scopes kind →
          (asked tree loops scopes (doing (kind_changed change kind path)) ≡ true) × HoldsIn asked tree loops scopes (kind_changed change kind path)
      kind_stays tree loops scopes (task code ins outs) path has is holds = elim has [ ]
      kind_stays tree loops scopes (map_scope sequential params private body) path has is holds =
          (local.map_body tree loops scopes sequential params private body (items_changed change body path) ∙ is, items_stay tree loops (in_map scopes params private) body path has holds)
      kind_stays tree loops scopes (consume_scope stream element private body) path has is holds =
          (local.consume_body tree loops scopes stream element private body (items_changed change body path) ∙ is, items_stay tree loops (in_consume scopes element private) body path has holds)
      kind_stays tree loops scopes (nested_graph inner links) path has is holds =
          (seen.nested tree loops scopes inner (graph_changed change inner path) links (graph_looks inner path has) ∙ is, graph_stays inner path has holds)
      kind_stays tree loops scopes (reduction resolution axis identity from to) path has is holds = elim has [ ]
      kind_stays tree loops scopes (copy from to) path has is holds = elim has [ ]

      items_stay : (tree : GraphTree) (loops : List ℕ) (scopes : Scopes) (items : ItemTrees) (path : List ℕ) → ItemsHave Has items path → HoldsAmong asked tree loops scopes items →
          HoldsAmong asked tree loops scopes (items_changed change items path)
      items_stay tree loops scopes no_item path has holds = elim has [ ]
      items_stay tree loops scopes (and_item line kind items) [] has holds = elim has [ ]
      items_stay tree loops scopes (and_item line kind items) (zero ∷ path) has holds =
          let stays = kind_stays tree loops scopes kind path has holds.0 holds.1.0 in
          (stays.0, (stays.1, holds.1.1))
      items_stay tree loops scopes (and_item line kind items) (suc number ∷ path) has holds = (holds.0, (holds.1.0, items_stay tree loops scopes items (number ∷ path) has holds.1.1))

      states_stay : (tree : GraphTree) (number : ℕ) (states : StateTrees) (path : List ℕ) → StatesHave Has states path → HoldsInStates asked tree number states → HoldsInStates asked tree number (states_changed change states path)
      states_stay tree number no_state path has holds = elim has [ ]
      states_stay tree number (and_state items exits states) [] has holds = elim has [ ]
      states_stay tree number (and_state items exits states) (zero ∷ path) has holds = (
        local.list tree (loops_at tree number) no_scopes items (items_changed change items path) exits ∙ holds.0,
        (items_stay tree (loops_at tree number) no_scopes items path has holds.1.0, holds.1.1),
      )
      states_stay tree number (and_state items exits states) (suc next ∷ path) has holds = (holds.0, (holds.1.0, states_stay tree (suc number) states (next ∷ path) has holds.1.1))

      pub graph_stays : (tree : GraphTree) (path : List ℕ) → GraphHas Has tree path → HoldsAll asked tree → HoldsAll asked (graph_changed change tree path)
      graph_stays (graph name containers arguments variables symbols states) [] has holds = keeps (graph name containers arguments variables symbols states) has holds
      graph_stays (graph name containers arguments variables symbols states) (number ∷ path) has holds =
          let changed : StateTrees = states_changed change states (number ∷ path) in
          let here : GraphTree = graph name containers arguments variables symbols states in (
            local.head name containers arguments variables symbols states changed [] no_scopes whole ∙ holds.0,
            states_carried asked local stays name containers arguments variables symbols states changed
                (λ state variable there. ap (λ loops. has_number loops variable) (loops_same states changed (count_stays change states (number ∷ path)) (exits_stay change states (number ∷ path)) (length variables) state) ∙ there)
                0 changed (states_stay here 0 states (number ∷ path) has holds.1),
          )

    -- a rule that asks this stays
    pub rule_stays : (tree : GraphTree) (path : List ℕ) → GraphHas Has tree path → Holds (rule_of asked) tree → Holds (rule_of asked) (graph_changed change tree path)
    rule_stays tree path has is = held_rule asked (graph_changed change tree path) (graph_stays tree path has (rule_held asked tree is))
