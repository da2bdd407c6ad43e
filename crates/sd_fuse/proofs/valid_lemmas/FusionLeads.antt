-- So it is wherever a path leads in a valid graph.
use Rattle.std.specs.List.{AllByRecursion}
use Rattle.std.proofs.Common.{◌≡◌, zero, suc, ℕ, List, [], ◌∷◌, ◌++◌, length, None, refl}
use Rattle.sd_range.proofs.Members.{Contains-nil}
use Rattle.sd_subset.specs.boxes.Box.{Parameter}
use Rattle.sd_graph.specs.declared.link.Link.{Link}
use Rattle.sd_graph.specs.TreeParts.{containers_of}
use Rattle.sd_graph.specs.PlainTree.{KindTree, task, map_scope, consume_scope, nested_graph, reduction, copy, ItemTrees, no_item, and_item, StateTrees, no_state, and_state, GraphTree, graph}
use Rattle.sd_graph.specs.InForce.{AreStatesInForce, AreContainersInForce}
use Rattle.sd_validity.specs.rules.Places.{Place, Scopes, no_scopes, in_map, in_consume, graph_place, state_place, item_place, places_in, item_places, state_places, places_of}
use Rattle.sd_validity.specs.rules.Failing.{failing}
use Rattle.sd_validity.specs.rules.NamesInForce.{held_at, rule_1}
use Rattle.sd_race.specs.cover.Fit.{IsFit, AreFit, AreStatesFit, IsGraphFit}
use Rattle.sd_safe.proofs.fit_lemmas.Members.{each-parts}
use Rattle.sd_safe.proofs.fit_lemmas.Single.{first-holds, parts-hold}
use Rattle.sd_safe.proofs.fit_lemmas.Right.{IsRightPlace}
use Rattle.sd_exchange.specs.maps.Tails.{KindLeadsTo, ItemsLeadTo, StatesLeadTo, GraphLeadsTo}
use Rattle.sd_fuse.specs.maps.FusionRewrite.{CanFuse}
use Rattle.sd_fuse.specs.maps.FusionAsked.{FusionAsked}
use Rattle.sd_fuse.proofs.valid_lemmas.FusionThere.{Here, known-more, known-own, fuse-at}

-- ---- the way there

-- the rest of a list, and a body
here-later : (around : Place) (scopes : Scopes) (number : ℕ) (before : List Place) (line : ℕ) (kind : KindTree) (items : ItemTrees) → Here around scopes number before (and_item line kind items) →
    Here around scopes (suc number) ((before ++ item_place around scopes number kind ∷ []) ++ places_in kind (item_place around scopes number kind)) items
here-later around scopes number before line kind items here =
    let place = item_place around scopes number kind in
    let inside = places_in kind place in
    let others = item_places items around scopes (suc number) in
    let first = first-holds rule_1 before place (inside ++ others) here.none in
    record {
      none = (parts-hold rule_1 (before ++ place ∷ []) inside others first.1).1;
      right = (each-parts IsRightPlace inside others here.right.1).1;
      held = known-more held_at (before ++ place ∷ []) inside around.graph_path scopes.private (known-more held_at before (place ∷ []) around.graph_path scopes.private here.held);
      force = here.force.1;
    }

inside-none : (around : Place) (scopes : Scopes) (number : ℕ) (before : List Place) (line : ℕ) (kind : KindTree) (items : ItemTrees) → Here around scopes number before (and_item line kind items) →
    (failing rule_1 (before ++ item_place around scopes number kind ∷ []) (places_in kind (item_place around scopes number kind)) ≡ None) × AllByRecursion IsRightPlace (places_in kind (item_place around scopes number kind))
inside-none around scopes number before line kind items here =
    let place = item_place around scopes number kind in
    let inside = places_in kind place in
    let others = item_places items around scopes (suc number) in
    let first = first-holds rule_1 before place (inside ++ others) here.none in
    ((parts-hold rule_1 (before ++ place ∷ []) inside others first.1).0, (each-parts IsRightPlace inside others here.right.1).0)

mutual
  kind-goes : (distance : ℕ) (kind : KindTree) (around : Place) (scopes : Scopes) (number : ℕ) (before : List Place) (a : List Parameter) (variables line : ℕ) (items : ItemTrees) (path : List ℕ) → Here around scopes number before (and_item line kind items) → IsFit kind a →
      KindLeadsTo (FusionAsked distance) (containers_of around.graph) a variables kind path → KindLeadsTo (CanFuse distance) (containers_of around.graph) a variables kind path
  kind-goes distance (task code ins outs) around scopes number before a variables line items path here fit leads = leads
  kind-goes distance (map_scope sequential params private body) around scopes number before a variables line items path here fit leads =
      let place = item_place around scopes number (map_scope sequential params private body) in
      let in_it = inside-none around scopes number before line (map_scope sequential params private body) items here in
      items-go distance body place (in_map scopes params private) 0 (before ++ place ∷ []) (a ++ params) variables path
      (record { none = in_it.0; right = in_it.1; held = known-own held_at before place private scopes.private refl here.held; force = here.force.0 }) fit.1 leads
  kind-goes distance (consume_scope source element private body) around scopes number before a variables line items path here fit leads =
      let place = item_place around scopes number (consume_scope source element private body) in
      let in_it = inside-none around scopes number before line (consume_scope source element private body) items here in
      items-go distance body place (in_consume scopes element private) 0 (before ++ place ∷ []) a variables path
      (record { none = in_it.0; right = in_it.1; held = known-own held_at before place (element ∷ private) scopes.private refl here.held; force = here.force.0.2 }) fit leads
  kind-goes distance (nested_graph inner links) around scopes number before a variables line items path here fit leads =
      let place = item_place around scopes number (nested_graph inner links) in
      let in_it = inside-none around scopes number before line (nested_graph inner links) items here in
      graph-goes distance inner place.path (suc place.depth) (before ++ place ∷ []) links path in_it.0 in_it.1 here.force.0.1 fit.1 leads
  kind-goes distance (reduction resolution axis identity from to) around scopes number before a variables line items path here fit leads = leads
  kind-goes distance (copy from to) around scopes number before a variables line items path here fit leads = leads

  items-go : (distance : ℕ) (items : ItemTrees) (around : Place) (scopes : Scopes) (number : ℕ) (before : List Place) (a : List Parameter) (variables : ℕ) (path : List ℕ) → Here around scopes number before items → AreFit items a →
      ItemsLeadTo (FusionAsked distance) (containers_of around.graph) a variables items path → ItemsLeadTo (CanFuse distance) (containers_of around.graph) a variables items path
  items-go distance no_item around scopes number before a variables path here fit leads = leads
  items-go distance (and_item line kind items) around scopes number before a variables [] here fit leads = leads
  items-go distance (and_item line kind items) around scopes number before a variables (zero ∷ []) here fit leads = fuse-at distance around scopes number before a variables line kind items here fit leads
  items-go distance (and_item line kind items) around scopes number before a variables (zero ∷ next ∷ path) here fit leads = kind-goes distance kind around scopes number before a variables line items (next ∷ path) here fit.0 leads
  items-go distance (and_item line kind items) around scopes number before a variables (suc further ∷ path) here fit leads =
      items-go distance items around scopes (suc number) ((before ++ item_place around scopes number kind ∷ []) ++ places_in kind (item_place around scopes number kind)) a variables (further ∷ path) (here-later around scopes number before line kind items here) fit.1 leads

  states-go : (distance : ℕ) (states : StateTrees) (around : Place) (number : ℕ) (before : List Place) (variables : ℕ) (path : List ℕ) → failing rule_1 before (state_places states around number) ≡ None → AllByRecursion IsRightPlace (state_places states around number) →
      AreStatesInForce states (containers_of around.graph) → AreStatesFit states → StatesLeadTo (FusionAsked distance) (containers_of around.graph) variables states path → StatesLeadTo (CanFuse distance) (containers_of around.graph) variables states path
  states-go distance no_state around number before variables path none right force fit leads = leads
  states-go distance (and_state items exits states) around number before variables [] none right force fit leads = leads
  states-go distance (and_state items exits states) around number before variables (zero ∷ path) none right force fit leads =
      let place = state_place around number items exits in
      let inside = item_places items place no_scopes 0 in
      let others = state_places states around (suc number) in
      let first = first-holds rule_1 before place (inside ++ others) none in
      items-go distance items place no_scopes 0 (before ++ place ∷ []) [] variables path
      (record {
        none = (parts-hold rule_1 (before ++ place ∷ []) inside others first.1).0;
        right = (each-parts IsRightPlace inside others right.1).0;
        held = λ v m. absurd (Contains-nil v m);
        force = force.0;
      })
      fit.0.0 leads
  states-go distance (and_state items exits states) around number before variables (suc further ∷ path) none right force fit leads =
      let place = state_place around number items exits in
      let inside = item_places items place no_scopes 0 in
      let others = state_places states around (suc number) in
      let first = first-holds rule_1 before place (inside ++ others) none in
      states-go distance states around (suc number) ((before ++ place ∷ []) ++ inside) variables (further ∷ path) (parts-hold rule_1 (before ++ place ∷ []) inside others first.1).1 (each-parts IsRightPlace inside others right.1).1 force.2 fit.1 leads

  pub graph-goes : (distance : ℕ) (tree : GraphTree) (here : List ℕ) (depth : ℕ) (before : List Place) (links : List Link) (path : List ℕ) → failing rule_1 before (places_of tree here depth) ≡ None → AllByRecursion IsRightPlace (places_of tree here depth) →
      AreContainersInForce tree → IsGraphFit tree links → GraphLeadsTo (FusionAsked distance) tree path → GraphLeadsTo (CanFuse distance) tree path
  graph-goes distance (graph name containers arguments variables symbols states) here depth before links path none right force fit leads =
      let place = graph_place (graph name containers arguments variables symbols states) here depth in
      let first = first-holds rule_1 before place (state_places states place 0) none in
      states-go distance states place 0 (before ++ place ∷ []) (length variables) path first.1 right.1 force fit.1 leads
