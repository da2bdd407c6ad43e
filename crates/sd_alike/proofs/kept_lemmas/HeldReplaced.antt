-- What holds of all that is in a graph holds of all that is in the graph with an item replaced.
use Rattle.std.proofs.Common.{◌≡◌, ℕ, zero, suc, ◌≤◌, List, [], ◌∷◌, ◌++◌, length, nat_eq, Bool, true, false, ◌||◌, if◌then◌else◌, refl, sym, ◌∙◌, ap, subst, append-nil, append_assoc, arith}
use Rattle.sd_range.specs.declared.range.Range.{Range}
use Rattle.sd_graph.specs.PlainTree.{KindTree, task, map_scope, consume_scope, nested_graph, reduction, copy, ItemTrees, no_item, and_item, StateTrees, no_state, and_state, GraphTree, graph}
use Rattle.sd_graph.specs.ContainerParts.{Containers}
use Rattle.sd_graph.specs.TreeParts.{count_states, exits_at}
use Rattle.std.specs.Bool.{⊤}
use Rattle.sd_graph.specs.Wiring.{has_number}
use Rattle.sd_validity.specs.rules.Places.{Scopes, no_scopes, in_map, in_consume, loops_at, param_numbers, whole, leaving, doing}
use Rattle.sd_validity.specs.rules.Failing.{Holds}
use Rattle.sd_validity.specs.rules.NestedLinks.{written_through, written_by, written_in, written_in_states, written_of}
use Rattle.sd_alike.specs.alike.Places.{Replacing, items_then, kind_nests, items_nest, states_nest, kind_with, items_with, states_with, graph_with, KindLeads, ItemsLead, StatesLead, GraphLeads}
use Rattle.sd_alike.proofs.alike_lemmas.SamePlaces.{exits_kept}
use Rattle.sd_alike.proofs.alike_lemmas.KeptUpwards.{count_kept}
use Rattle.sd_alike.proofs.kept_lemmas.Held.{Asked, rule_of, HoldsIn, HoldsAmong, HoldsInStates, HoldsAll, AreSameOutside, AreSameScopes, IsLocal, IsWider, StaysWider, KeepsAsked, KeepsHolding, Grows}
use Rattle.sd_alike.proofs.kept_lemmas.HeldPlaces.{rule_held, held_rule}
use Rattle.sd_alike.proofs.kept_lemmas.SameLoops.{has_either, loops_same, loops_more}

written_then : (items others : ItemTrees) → written_in (items_then items others) ≡ written_in items ++ written_in others
written_then no_item others = refl
written_then (and_item line kind items) others = ap (λ rest. written_by kind ++ rest) (written_then items others) ∙ sym (append_assoc (written_by kind) (written_in items) (written_in others))

among_then : (asked : Asked) (tree : GraphTree) (loops : List ℕ) (scopes : Scopes) (items others : ItemTrees) →
    HoldsAmong asked tree loops scopes items → HoldsAmong asked tree loops scopes others → HoldsAmong asked tree loops scopes (items_then items others)
among_then asked tree loops scopes no_item others first rest = rest
among_then asked tree loops scopes (and_item line kind items) others first rest = (first.0, (first.1.0, among_then asked tree loops scopes items others first.1.1 rest))

-- ---- the same scopes

pub has_both : (numbers others : List ℕ) (number : ℕ) → has_number (numbers ++ others) number ≡ (has_number numbers number || has_number others number)
has_both = has_either

pub has_more : (numbers others more : List ℕ) → ((number : ℕ) → has_number more number ≡ has_number others number) → (number : ℕ) → has_number (numbers ++ more) number ≡ has_number (numbers ++ others) number
has_more numbers others more same number = has_both numbers more number ∙ ap (λ rest. has_number numbers number || rest) (same number) ∙ sym (has_both numbers others number)

-- numbers before others, or the other way
pub has_turned : (numbers others rest : List ℕ) (number : ℕ) → has_number (numbers ++ (others ++ rest)) number ≡ has_number ((others ++ numbers) ++ rest) number
has_turned numbers others rest number =
    has_both numbers (others ++ rest) number ∙ ap (λ more. has_number numbers number || more) (has_both others rest number)
    ∙ turned (has_number numbers number) (has_number others number) (has_number rest number)
    ∙ sym (has_both (others ++ numbers) rest number ∙ ap (λ both. both || has_number rest number) (has_both others numbers number))
  where
    turned : (a b c : Bool) → (a || (b || c)) ≡ ((b || a) || c)
    turned true true c = refl
    turned true false c = refl
    turned false true c = refl
    turned false false c = refl

-- numbers before more others
pub has_wider : (numbers others more : List ℕ) → ((number : ℕ) → has_number others number ≡ true → has_number more number ≡ true) → (number : ℕ) → has_number (numbers ++ others) number ≡ true → has_number (numbers ++ more) number ≡ true
has_wider numbers others more wider number is = has_both numbers more number ∙ either (has_number numbers number) (sym (has_both numbers others number) ∙ is)
  where
    either : (own : Bool) → (own || has_number others number) ≡ true → (own || has_number more number) ≡ true
    either true is = refl
    either false is = wider number is

pub same_in_map : (scopes others : Scopes) (params : List (ℕ × Range)) (private : List ℕ) → AreSameScopes scopes others → AreSameScopes (in_map scopes params private) (in_map others params private)
same_in_map scopes others params private same = record {
  private = has_more private scopes.private others.private same.private;
  params = has_more (param_numbers params) scopes.params others.params same.params;
}

pub same_in_consume : (scopes others : Scopes) (element : ℕ) (private : List ℕ) → AreSameScopes scopes others → AreSameScopes (in_consume scopes element private) (in_consume others element private)
same_in_consume scopes others element private same = record {
  private = has_more (element ∷ private) scopes.private others.private same.private;
  params = same.params;
}

module _ (asked : Asked) (local : IsLocal asked) where
  mutual
    in_same : (tree : GraphTree) (loops : List ℕ) (scopes others : Scopes) (kind : KindTree) → AreSameScopes scopes others → HoldsIn asked tree loops scopes kind → HoldsIn asked tree loops others kind
    in_same tree loops scopes others (task code ins outs) same holds = tt
    in_same tree loops scopes others (map_scope sequential params private body) same holds =
        among_same tree loops (in_map scopes params private) (in_map others params private) body (same_in_map scopes others params private same) holds
    in_same tree loops scopes others (consume_scope stream element private body) same holds =
        among_same tree loops (in_consume scopes element private) (in_consume others element private) body (same_in_consume scopes others element private same) holds
    in_same tree loops scopes others (nested_graph inner links) same holds = holds
    in_same tree loops scopes others (reduction resolution axis identity from to) same holds = tt
    in_same tree loops scopes others (copy from to) same holds = tt

    -- items hold in scopes of which the same is in force
    pub among_same : (tree : GraphTree) (loops : List ℕ) (scopes others : Scopes) (items : ItemTrees) → AreSameScopes scopes others → HoldsAmong asked tree loops scopes items → HoldsAmong asked tree loops others items
    among_same tree loops scopes others no_item same holds = tt
    among_same tree loops scopes others (and_item line kind items) same holds =
        (local.scopes tree loops scopes others (doing kind) same ∙ holds.0, (in_same tree loops scopes others kind same holds.1.0, among_same tree loops scopes others items same holds.1.1))

  -- ---- another graph with the same head

  module _ (name : List ℕ) (containers : Containers) (arguments : ℕ) (variables : List (List ℕ)) (symbols : ℕ) (states after : StateTrees) where
    abbrev here : GraphTree
    here = graph name containers arguments variables symbols states

    abbrev there : GraphTree
    there = graph name containers arguments variables symbols after

    mutual
      in_moved : (loops : List ℕ) (scopes : Scopes) (kind : KindTree) → HoldsIn asked here loops scopes kind → HoldsIn asked there loops scopes kind
      in_moved loops scopes (task code ins outs) holds = tt
      in_moved loops scopes (map_scope sequential params private body) holds = among_moved loops (in_map scopes params private) body holds
      in_moved loops scopes (consume_scope stream element private body) holds = among_moved loops (in_consume scopes element private) body holds
      in_moved loops scopes (nested_graph inner links) holds = holds
      in_moved loops scopes (reduction resolution axis identity from to) holds = tt
      in_moved loops scopes (copy from to) holds = tt

      among_moved : (loops : List ℕ) (scopes : Scopes) (items : ItemTrees) → HoldsAmong asked here loops scopes items → HoldsAmong asked there loops scopes items
      among_moved loops scopes no_item holds = tt
      among_moved loops scopes (and_item line kind items) holds =
          (local.head name containers arguments variables symbols states after loops scopes (doing kind) ∙ holds.0, (in_moved loops scopes kind holds.1.0, among_moved loops scopes items holds.1.1))

    states_moved : ((state : ℕ) → loops_at there state ≡ loops_at here state) → (number : ℕ) (some : StateTrees) → HoldsInStates asked here number some → HoldsInStates asked there number some
    states_moved loops number no_state holds = tt
    states_moved loops number (and_state items exits some) holds =
        subst (λ at. (asked there at no_scopes (leaving items exits) ≡ true) × (HoldsAmong asked there at no_scopes items × HoldsInStates asked there (suc number) some)) (sym (loops number)) (
          local.head name containers arguments variables symbols states after (loops_at here number) no_scopes (leaving items exits) ∙ holds.0,
          (among_moved (loops_at here number) no_scopes items holds.1.0, states_moved loops (suc number) some holds.1.1),
        )

  -- with other states that have its transitions, where the graph gets further variables unless the item is nested deeper
  by_nesting : (name : List ℕ) (containers : Containers) (arguments : ℕ) (variables : List (List ℕ)) (symbols : ℕ) (states after : StateTrees) →
      count_states after ≡ count_states states → ((state : ℕ) → exits_at after state ≡ exits_at states state) →
      (names : List (List ℕ)) (Known : GraphTree → (variables : ℕ) → Type 0) → Grows asked names Known → (nests told : Bool) → told ≡ nests → HoldsAll asked (graph name containers arguments variables symbols states) →
      ((more : List (List ℕ)) → (told ≡ false → Known (graph name containers arguments more symbols states) (length variables)) →
      HoldsInStates asked (graph name containers arguments more symbols states) 0 states → HoldsInStates asked (graph name containers arguments more symbols states) 0 after) →
      HoldsAll asked (graph name containers arguments (if nests then variables else variables ++ names) symbols after)
  by_nesting name containers arguments variables symbols states after count exits names Known grows nests told same holds stay = by nests same
    where
      changed : (more : List (List ℕ)) → (told ≡ false → Known (graph name containers arguments more symbols states) (length variables)) → HoldsAll asked (graph name containers arguments more symbols states) →
          HoldsAll asked (graph name containers arguments more symbols after)
      changed more known held = (
        local.head name containers arguments more symbols states after [] no_scopes whole ∙ held.0,
        states_moved name containers arguments more symbols states after (λ state. loops_same states after count exits (length more) state) 0 after (stay more known held.1),
      )

      deeper : told ≡ true → told ≡ false → {A : Type 0} → A
      deeper is none = absurd (differ (sym is ∙ none))
        where
          differ : true ≡ false → ⊥
          differ none = cc

      by : (nests : Bool) → told ≡ nests → HoldsAll asked (graph name containers arguments (if nests then variables else variables ++ names) symbols after)
      by true is = changed variables (λ none. deeper is none) holds
      by false is = changed (variables ++ names) (λ none. grows.known name containers arguments variables symbols states holds) (grows.stays name containers arguments variables symbols states holds)

  -- ---- where more is in force

  module _ (stays : StaysWider asked) where
    wider_in_map : (loops others : List ℕ) (scopes wider : Scopes) (params : List (ℕ × Range)) (private : List ℕ) → IsWider loops others scopes wider → IsWider loops others (in_map scopes params private) (in_map wider params private)
    wider_in_map loops others scopes wider params private more = record {
      loops = more.loops;
      private = has_wider private scopes.private wider.private more.private;
      params = has_wider (param_numbers params) scopes.params wider.params more.params;
    }

    wider_in_consume : (loops others : List ℕ) (scopes wider : Scopes) (element : ℕ) (private : List ℕ) → IsWider loops others scopes wider → IsWider loops others (in_consume scopes element private) (in_consume wider element private)
    wider_in_consume loops others scopes wider element private more = record {
      loops = more.loops;
      private = has_wider (element ∷ private) scopes.private wider.private more.private;
      params = more.params;
    }

    module _ (name : List ℕ) (containers : Containers) (arguments : ℕ) (variables more : List (List ℕ)) (symbols : ℕ) (states : StateTrees) (up : length variables ≤ length more) where
      abbrev few : GraphTree
      few = graph name containers arguments variables symbols states

      abbrev many : GraphTree
      many = graph name containers arguments more symbols states

      mutual
        in_wider : (loops others : List ℕ) (scopes wider : Scopes) (kind : KindTree) → IsWider loops others scopes wider → HoldsIn asked few loops scopes kind → HoldsIn asked many others wider kind
        in_wider loops others scopes wider (task code ins outs) is holds = tt
        in_wider loops others scopes wider (map_scope sequential params private body) is holds =
            among_wider loops others (in_map scopes params private) (in_map wider params private) body (wider_in_map loops others scopes wider params private is) holds
        in_wider loops others scopes wider (consume_scope stream element private body) is holds =
            among_wider loops others (in_consume scopes element private) (in_consume wider element private) body (wider_in_consume loops others scopes wider element private is) holds
        in_wider loops others scopes wider (nested_graph inner links) is holds = holds
        in_wider loops others scopes wider (reduction resolution axis identity from to) is holds = tt
        in_wider loops others scopes wider (copy from to) is holds = tt

        among_wider : (loops others : List ℕ) (scopes wider : Scopes) (items : ItemTrees) → IsWider loops others scopes wider → HoldsAmong asked few loops scopes items → HoldsAmong asked many others wider items
        among_wider loops others scopes wider no_item is holds = tt
        among_wider loops others scopes wider (and_item line kind items) is holds = (
          stays name containers arguments variables more symbols states loops others scopes wider (doing kind) up is holds.0,
          (in_wider loops others scopes wider kind is holds.1.0, among_wider loops others scopes wider items is holds.1.1),
        )

      states_wider : (number : ℕ) (some : StateTrees) → HoldsInStates asked few number some → HoldsInStates asked many number some
      states_wider number no_state holds = tt
      states_wider number (and_state items exits some) holds =
          let is : IsWider (loops_at few number) (loops_at many number) no_scopes no_scopes = record { loops = loops_more states (length variables) (length more) number up; private = λ number there. there; params = λ number there. there } in (
            stays name containers arguments variables more symbols states (loops_at few number) (loops_at many number) no_scopes no_scopes (leaving items exits) up is holds.0,
            (among_wider (loops_at few number) (loops_at many number) no_scopes no_scopes items is holds.1.0, states_wider (suc number) some holds.1.1),
          )

      -- all that is in a graph holds of it with more variables
      pub graph_wider : HoldsAll asked few → HoldsAll asked many
      graph_wider holds = (
        stays name containers arguments variables more symbols states [] [] no_scopes no_scopes whole up (record { loops = λ number there. there; private = λ number there. there; params = λ number there. there }) holds.0,
        states_wider 0 states holds.1,
      )

    -- items hold in scopes of which more is in force
    pub items_wider : (tree : GraphTree) (loops : List ℕ) (scopes wider : Scopes) (items : ItemTrees) → IsWider loops loops scopes wider → HoldsAmong asked tree loops scopes items → HoldsAmong asked tree loops wider items
    items_wider (graph name containers arguments variables symbols states) loops scopes wider items is holds =
        among_wider name containers arguments variables variables symbols states (omega arith) loops loops scopes wider items is holds

  module _ (names : List (List ℕ)) (Known : GraphTree → (variables : ℕ) → Type 0) (grows : Grows asked names Known) (Leading : ℕ → KindTree → Type 0) (replacing : Replacing) (keeps : KeepsAsked asked Known Leading replacing) where
    -- ---- what is written

    mutual
      written_kind : (kind : KindTree) (path : List ℕ) (variables : ℕ) → KindLeads Leading variables kind path → written_by (kind_with replacing names variables kind path) ≡ written_by kind
      written_kind (task code ins outs) path variables leads = elim leads [ ]
      written_kind (map_scope sequential params private body) path variables leads = written_items body path variables leads
      written_kind (consume_scope stream element private body) path variables leads = written_items body path variables leads
      written_kind (nested_graph inner links) path variables leads = ap (λ written. written_through written 0 links) (written_graph inner path leads)
      written_kind (reduction resolution axis identity from to) path variables leads = elim leads [ ]
      written_kind (copy from to) path variables leads = elim leads [ ]

      written_items : (items : ItemTrees) (path : List ℕ) (variables : ℕ) → ItemsLead Leading variables items path → written_in (items_with replacing names variables items path) ≡ written_in items
      written_items no_item path variables leads = elim leads [ ]
      written_items (and_item line kind items) [] variables leads = elim leads [ ]
      written_items (and_item line kind items) (zero ∷ []) variables leads =
          written_then (replacing variables line kind) items ∙ ap (λ written. written ++ written_in items) (keeps.written variables line kind leads)
      written_items (and_item line kind items) (zero ∷ next ∷ path) variables leads = ap (λ written. written ++ written_in items) (written_kind kind (next ∷ path) variables leads)
      written_items (and_item line kind items) (suc number ∷ path) variables leads = ap (λ written. written_by kind ++ written) (written_items items (number ∷ path) variables leads)

      written_states : (states : StateTrees) (path : List ℕ) (variables : ℕ) → StatesLead Leading variables states path → written_in_states (states_with replacing names variables states path) ≡ written_in_states states
      written_states no_state path variables leads = elim leads [ ]
      written_states (and_state items exits states) [] variables leads = elim leads [ ]
      written_states (and_state items exits states) (zero ∷ path) variables leads = ap (λ written. written ++ written_in_states states) (written_items items path variables leads)
      written_states (and_state items exits states) (suc number ∷ path) variables leads = ap (λ written. written_in items ++ written) (written_states states (number ∷ path) variables leads)

      written_graph : (tree : GraphTree) (path : List ℕ) → GraphLeads Leading tree path → written_of (graph_with replacing names tree path) ≡ written_of tree
      written_graph (graph name containers arguments variables symbols states) path leads = written_states states path (length variables) leads

    outside_stays : (tree : GraphTree) (path : List ℕ) → GraphLeads Leading tree path → AreSameOutside tree (graph_with replacing names tree path)
    outside_stays (graph name containers arguments variables symbols states) path leads = record {
      containers = refl;
      arguments = refl;
      written = written_graph (graph name containers arguments variables symbols states) path leads;
    }

    -- ---- what holds

    mutual
      kind_stays : (tree : GraphTree) (loops : List ℕ) (scopes : Scopes) (kind : KindTree) (path : List ℕ) (variables : ℕ) → KindLeads Leading variables kind path →
          (kind_nests kind path ≡ false → Known tree variables) → asked tree loops scopes (doing kind) ≡ true → HoldsIn asked tree loops scopes kind →
          (asked tree loops scopes (doing (kind_with replacing names variables kind path)) ≡ true) × HoldsIn asked tree loops scopes (kind_with replacing names variables kind path)
      kind_stays tree loops scopes (task code ins outs) path variables leads known is holds = elim leads [ ]
      kind_stays tree loops scopes (map_scope sequential params private body) path variables leads known is holds =
          (local.map_body tree loops scopes sequential params private body (items_with replacing names variables body path) ∙ is, items_stay tree loops (in_map scopes params private) body path variables leads known holds)
      kind_stays tree loops scopes (consume_scope stream element private body) path variables leads known is holds =
          (local.consume_body tree loops scopes stream element private body (items_with replacing names variables body path) ∙ is, items_stay tree loops (in_consume scopes element private) body path variables leads known holds)
      kind_stays tree loops scopes (nested_graph inner links) path variables leads known is holds =
          (local.inner tree loops scopes inner (graph_with replacing names inner path) links (outside_stays inner path leads) ∙ is, graph_keeps inner path leads holds)
      kind_stays tree loops scopes (reduction resolution axis identity from to) path variables leads known is holds = elim leads [ ]
      kind_stays tree loops scopes (copy from to) path variables leads known is holds = elim leads [ ]

      items_stay : (tree : GraphTree) (loops : List ℕ) (scopes : Scopes) (items : ItemTrees) (path : List ℕ) (variables : ℕ) → ItemsLead Leading variables items path →
          (items_nest items path ≡ false → Known tree variables) → HoldsAmong asked tree loops scopes items → HoldsAmong asked tree loops scopes (items_with replacing names variables items path)
      items_stay tree loops scopes no_item path variables leads known holds = elim leads [ ]
      items_stay tree loops scopes (and_item line kind items) [] variables leads known holds = elim leads [ ]
      items_stay tree loops scopes (and_item line kind items) (zero ∷ []) variables leads known holds =
          among_then asked tree loops scopes (replacing variables line kind) items (keeps.items tree loops scopes variables line kind (known refl) leads holds.0 holds.1.0) holds.1.1
      items_stay tree loops scopes (and_item line kind items) (zero ∷ next ∷ path) variables leads known holds =
          let stays = kind_stays tree loops scopes kind (next ∷ path) variables leads known holds.0 holds.1.0 in
          (stays.0, (stays.1, holds.1.1))
      items_stay tree loops scopes (and_item line kind items) (suc number ∷ path) variables leads known holds =
          (holds.0, (holds.1.0, items_stay tree loops scopes items (number ∷ path) variables leads known holds.1.1))

      states_stay : (tree : GraphTree) (number : ℕ) (states : StateTrees) (path : List ℕ) (variables : ℕ) → StatesLead Leading variables states path →
          (states_nest states path ≡ false → Known tree variables) → HoldsInStates asked tree number states → HoldsInStates asked tree number (states_with replacing names variables states path)
      states_stay tree number no_state path variables leads known holds = elim leads [ ]
      states_stay tree number (and_state items exits states) [] variables leads known holds = elim leads [ ]
      states_stay tree number (and_state items exits states) (zero ∷ path) variables leads known holds = (
        local.list tree (loops_at tree number) no_scopes items (items_with replacing names variables items path) exits ∙ holds.0,
        (items_stay tree (loops_at tree number) no_scopes items path variables leads known holds.1.0, holds.1.1),
      )
      states_stay tree number (and_state items exits states) (suc next ∷ path) variables leads known holds = (holds.0, (holds.1.0, states_stay tree (suc number) states (next ∷ path) variables leads known holds.1.1))

      pub graph_keeps : (tree : GraphTree) (path : List ℕ) → GraphLeads Leading tree path → HoldsAll asked tree → HoldsAll asked (graph_with replacing names tree path)
      graph_keeps (graph name containers arguments variables symbols states) path leads holds =
          by_nesting name containers arguments variables symbols states (states_with replacing names (length variables) states path)
          (count_kept replacing names (length variables) states path) (exits_kept replacing names (length variables) states path)
          names Known grows (states_nest states path) (states_nest states path) refl holds
          (λ more known held. states_stay (graph name containers arguments more symbols states) 0 states path (length variables) leads known held)

    -- a rule of a graph is one of the graph with an item replaced
    pub rule_keeps : (tree : GraphTree) (path : List ℕ) → GraphLeads Leading tree path → Holds (rule_of asked) tree → Holds (rule_of asked) (graph_with replacing names tree path)
    rule_keeps tree path leads is = held_rule asked (graph_with replacing names tree path) (graph_keeps tree path leads (rule_held asked tree is))

  -- ---- in a graph that gets no further variables

  pub none_grow : Grows asked [] (λ tree variables. ⊤)
  none_grow = record {
    stays = λ name containers arguments variables symbols states holds. subst (λ more. HoldsAll asked (graph name containers arguments more symbols states)) (sym (append-nil variables)) holds;
    known = λ name containers arguments variables symbols states holds. tt;
  }

  module _ (Leading : ℕ → KindTree → Type 0) (replacing : Replacing) (keeps : KeepsHolding asked Leading replacing) where
    pub graph_stays : (tree : GraphTree) (path : List ℕ) → GraphLeads Leading tree path → HoldsAll asked tree → HoldsAll asked (graph_with replacing [] tree path)
    graph_stays = graph_keeps [] (λ tree variables. ⊤) none_grow Leading replacing keeps

    pub rule_stays : (tree : GraphTree) (path : List ℕ) → GraphLeads Leading tree path → Holds (rule_of asked) tree → Holds (rule_of asked) (graph_with replacing [] tree path)
    rule_stays = rule_keeps [] (λ tree variables. ⊤) none_grow Leading replacing keeps
