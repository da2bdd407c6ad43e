-- A graph with items replaced where a path leads is a rewritten graph.
use Rattle.std.specs.Bool.{⊤}
use Rattle.std.proofs.Common.{◌≡◌, zero, suc, ℕ, List, [], ◌∷◌, ◌++◌, length, refl, sym, ap, subst, if◌then◌else◌}
use Rattle.sd_work.specs.Memory.{Memory}
use Rattle.sd_work.specs.Step.{Done}
use Rattle.sd_work.specs.Run.{Left, Sequential}
use Rattle.sd_confluence.specs.Alike.{LeaveAlike}
use Rattle.sd_subset.specs.boxes.Box.{Parameter}
use Rattle.sd_graph.specs.declared.link.Link.{Link}
use Rattle.sd_graph.specs.ContainerParts.{Containers}
use Rattle.sd_graph.specs.Mode.{Take}
use Rattle.sd_graph.specs.Wiring.{outside, nested_uses, kind_uses, item_uses, exit_uses, state_uses, graph_uses}
use Rattle.sd_graph.specs.PlainTree.{KindTree, task, map_scope, consume_scope, nested_graph, reduction, copy, ItemTrees, no_item, and_item, StateTrees, no_state, and_state, GraphTree, graph}
use Rattle.sd_graph.specs.Unfold.{run_of, unfold_kind}
use Rattle.sd_alike.specs.alike.Lift.{as_it_is}
use Rattle.sd_alike.specs.alike.Alike.{NamesItsVariables}
use Rattle.sd_alike.specs.alike.Places.{Replacing, states_nest, kind_with, items_with, states_with, graph_with, KindLeads, ItemsLead, StatesLead, GraphLeads}
use Rattle.sd_alike.specs.alike.Rewritten.{ReplacesSame, RunsSame}
use Rattle.sd_alike.proofs.alike_lemmas.SameTrees.{kind_same}
use Rattle.sd_alike.proofs.alike_lemmas.CollapsedMaps.{alone_same}
use Rattle.sd_alike.proofs.alike_lemmas.WholeRuns.{rewritten_runs_same}
use Rattle.sd_race.specs.cover.Fit.{IsAliasFree, AreArrays, IsFit, AreFit, AreStatesFit, IsGraphFit}
use Rattle.sd_exchange.specs.maps.Accepting.{IsConsumeAccepted}
use Rattle.sd_exchange.specs.maps.AcceptedPools.{HasAcceptedPools, HaveAcceptedPools, StatesHaveAcceptedPools, GraphHasAcceptedPools}
use Rattle.sd_exchange.specs.maps.Rewritten.{Rewrite, KindRewritten, in_map, in_pool, in_nested, ItemsRewritten, at_once, in_first, in_later, StatesRewritten, in_state, in_states, GraphRewritten, in_graph}
use Rattle.sd_exchange.specs.maps.Tails.{Tailing, tail_of, keep, kind_tail, items_tail, states_tail, graph_tail, Asked, KindLeadsTo, ItemsLeadTo, StatesLeadTo, GraphLeadsTo}
use Rattle.sd_exchange.proofs.maps_lemmas.Congruent.{IsSound, run-rewritten}
use Rattle.sd_exchange.proofs.maps_lemmas.Keeping.{Keeps, graph-kept}
use Rattle.sd_exchange.proofs.maps_lemmas.Interchanges.{graph-back}
use Rattle.sd_exchange.proofs.maps_lemmas.StaysValid.{LeavesValid, graph-valid}

-- ---- one item replaced

mutual
  kind-with : (replacing : Replacing) (names : List (List ℕ)) (containers : Containers) (variables : ℕ) (kind : KindTree) (path : List ℕ) → kind_with replacing names variables kind path ≡ kind_tail (tail_of replacing) names containers variables kind path
  kind-with replacing names containers variables (task code ins outs) path = refl
  kind-with replacing names containers variables (map_scope sequential params private body) path = ap (map_scope sequential params private) (items-with replacing names containers variables body path)
  kind-with replacing names containers variables (consume_scope source element private body) path = ap (consume_scope source element private) (items-with replacing names containers variables body path)
  kind-with replacing names containers variables (nested_graph inner links) path = ap (λ tree. nested_graph tree links) (graph-with replacing names inner path)
  kind-with replacing names containers variables (reduction resolution axis identity from to) path = refl
  kind-with replacing names containers variables (copy from to) path = refl

  items-with : (replacing : Replacing) (names : List (List ℕ)) (containers : Containers) (variables : ℕ) (items : ItemTrees) (path : List ℕ) → items_with replacing names variables items path ≡ items_tail (tail_of replacing) names containers variables items path
  items-with replacing names containers variables no_item path = refl
  items-with replacing names containers variables (and_item line kind items) [] = refl
  items-with replacing names containers variables (and_item line kind items) (zero ∷ []) = refl
  items-with replacing names containers variables (and_item line kind items) (zero ∷ next ∷ path) = ap (λ k. and_item line k items) (kind-with replacing names containers variables kind (next ∷ path))
  items-with replacing names containers variables (and_item line kind items) (suc number ∷ path) = ap (and_item line kind) (items-with replacing names containers variables items (number ∷ path))

  states-with : (replacing : Replacing) (names : List (List ℕ)) (containers : Containers) (variables : ℕ) (states : StateTrees) (path : List ℕ) → states_with replacing names variables states path ≡ states_tail (tail_of replacing) names containers variables states path
  states-with replacing names containers variables no_state path = refl
  states-with replacing names containers variables (and_state items exits states) [] = refl
  states-with replacing names containers variables (and_state items exits states) (zero ∷ path) = ap (λ new. and_state new exits states) (items-with replacing names containers variables items path)
  states-with replacing names containers variables (and_state items exits states) (suc number ∷ path) = ap (and_state items exits) (states-with replacing names containers variables states (number ∷ path))

  pub graph-with : (replacing : Replacing) (names : List (List ℕ)) (tree : GraphTree) (path : List ℕ) → graph_with replacing names tree path ≡ graph_tail (tail_of replacing) names tree path
  graph-with replacing names (graph name containers arguments variables symbols states) path =
      ap (graph name containers arguments (if states_nest states path then variables else variables ++ names) symbols) (states-with replacing names containers (length variables) states path)

-- ---- the rewritten graph

-- where this holds of items, the items in their place are rewritten so
abbrev pub Gives : Asked → Tailing → Rewrite → Type 0
Gives Holds tailing R = (containers : Containers) (around : List Parameter) (variables : ℕ) (items : ItemTrees) → Holds containers around variables items → R containers around items (tailing variables containers items)

mutual
  kind-tail : (Holds : Asked) (tailing : Tailing) (R : Rewrite) → Gives Holds tailing R → (names : List (List ℕ)) (c : Containers) (a : List Parameter) (variables : ℕ) (kind : KindTree) (path : List ℕ) → KindLeadsTo Holds c a variables kind path →
      KindRewritten R c a (kind_with keep names variables kind path) (kind_tail tailing names c variables kind path)
  kind-tail Holds tailing R gives names c a variables (task code ins outs) path leads = elim leads [ ]
  kind-tail Holds tailing R gives names c a variables (map_scope sequential params private body) path leads = in_map sequential c a params private _ _ (items-tail Holds tailing R gives names c (a ++ params) variables body path leads)
  kind-tail Holds tailing R gives names c a variables (consume_scope source element private body) path leads = in_pool c a source element private _ _ (items-tail Holds tailing R gives names c a variables body path leads)
  kind-tail Holds tailing R gives names c a variables (nested_graph inner links) path leads = in_nested c a _ _ links (graph-tail Holds tailing R gives names inner path leads)
  kind-tail Holds tailing R gives names c a variables (reduction resolution axis identity from to) path leads = elim leads [ ]
  kind-tail Holds tailing R gives names c a variables (copy from to) path leads = elim leads [ ]

  items-tail : (Holds : Asked) (tailing : Tailing) (R : Rewrite) → Gives Holds tailing R → (names : List (List ℕ)) (c : Containers) (a : List Parameter) (variables : ℕ) (items : ItemTrees) (path : List ℕ) → ItemsLeadTo Holds c a variables items path →
      ItemsRewritten R c a (items_with keep names variables items path) (items_tail tailing names c variables items path)
  items-tail Holds tailing R gives names c a variables no_item path leads = elim leads [ ]
  items-tail Holds tailing R gives names c a variables (and_item line kind items) [] leads = elim leads [ ]
  items-tail Holds tailing R gives names c a variables (and_item line kind items) (zero ∷ []) leads = at_once c a _ _ (gives c a variables (and_item line kind items) leads)
  items-tail Holds tailing R gives names c a variables (and_item line kind items) (zero ∷ next ∷ path) leads = in_first c a line _ _ items (kind-tail Holds tailing R gives names c a variables kind (next ∷ path) leads)
  items-tail Holds tailing R gives names c a variables (and_item line kind items) (suc number ∷ path) leads = in_later c a line kind _ _ (items-tail Holds tailing R gives names c a variables items (number ∷ path) leads)

  states-tail : (Holds : Asked) (tailing : Tailing) (R : Rewrite) → Gives Holds tailing R → (names : List (List ℕ)) (c : Containers) (variables : ℕ) (states : StateTrees) (path : List ℕ) → StatesLeadTo Holds c variables states path →
      StatesRewritten R c (states_with keep names variables states path) (states_tail tailing names c variables states path)
  states-tail Holds tailing R gives names c variables no_state path leads = elim leads [ ]
  states-tail Holds tailing R gives names c variables (and_state items exits states) [] leads = elim leads [ ]
  states-tail Holds tailing R gives names c variables (and_state items exits states) (zero ∷ path) leads = in_state c _ _ exits states (items-tail Holds tailing R gives names c [] variables items path leads)
  states-tail Holds tailing R gives names c variables (and_state items exits states) (suc number ∷ path) leads = in_states c items exits _ _ (states-tail Holds tailing R gives names c variables states (number ∷ path) leads)

  pub graph-tail : (Holds : Asked) (tailing : Tailing) (R : Rewrite) → Gives Holds tailing R → (names : List (List ℕ)) (tree : GraphTree) (path : List ℕ) → GraphLeadsTo Holds tree path → GraphRewritten R (graph_with keep names tree path) (graph_tail tailing names tree path)
  graph-tail Holds tailing R gives names (graph name containers arguments variables symbols states) path leads =
      in_graph name containers arguments (if states_nest states path then variables else variables ++ names) symbols _ _ (states-tail Holds tailing R gives names containers (length variables) states path leads)

-- ---- the graph with further variables

record KindGrown (containers : Containers) (kind other : KindTree) : Type 0 where
  uses : kind_uses other containers ≡ kind_uses kind containers
  fit : (around : List Parameter) → IsFit kind around → IsFit other around
  pools : HasAcceptedPools kind containers → HasAcceptedPools other containers

record ItemsGrown (containers : Containers) (items others : ItemTrees) : Type 0 where
  uses : item_uses others containers ≡ item_uses items containers
  fit : (around : List Parameter) → AreFit items around → AreFit others around
  pools : HaveAcceptedPools items containers → HaveAcceptedPools others containers

record StatesGrown (containers : Containers) (states others : StateTrees) : Type 0 where
  uses : state_uses others containers ≡ state_uses states containers
  fit : AreStatesFit states → AreStatesFit others
  pools : StatesHaveAcceptedPools states containers → StatesHaveAcceptedPools others containers

pub record GraphGrown (tree other : GraphTree) : Type 0 where
  pub uses : graph_uses other ≡ graph_uses tree
  pub fit : (links : List Link) → IsGraphFit tree links → IsGraphFit other links
  pub pools : GraphHasAcceptedPools tree → GraphHasAcceptedPools other

mutual
  kind-grown : (names : List (List ℕ)) (containers : Containers) (variables : ℕ) (kind : KindTree) (path : List ℕ) → KindGrown containers kind (kind_with keep names variables kind path)
  kind-grown names containers variables (task code ins outs) path = record { uses = refl; fit = λ around f. f; pools = λ p. p }
  kind-grown names containers variables (map_scope sequential params private body) path =
      let g = items-grown names containers variables body path in record { uses = ap (outside private) g.uses; fit = λ around f. (f.0, g.fit (around ++ params) f.1); pools = g.pools }
  kind-grown names containers variables (consume_scope source element private body) path =
      let g = items-grown names containers variables body path in record {
        uses = ap (λ uses. record { container = source; mode = Take } ∷ outside (element ∷ private) uses) g.uses;
        fit = λ around f. g.fit around f;
        pools = λ p. (subst (λ uses. IsConsumeAccepted (outside (element ∷ private) uses)) (sym g.uses) p.0, g.pools p.1);
      }
  kind-grown names containers variables (nested_graph inner links) path =
      let g = graph-grown names inner path in record {
        uses = ap (λ uses. nested_uses uses 0 links) g.uses;
        fit = λ around f. (f.0, g.fit links f.1, subst (IsAliasFree links) (sym g.uses) f.2, subst (AreArrays links) (sym g.uses) f.3);
        pools = g.pools;
      }
  kind-grown names containers variables (reduction resolution axis identity from to) path = record { uses = refl; fit = λ around f. f; pools = λ p. p }
  kind-grown names containers variables (copy from to) path = record { uses = refl; fit = λ around f. f; pools = λ p. p }

  items-grown : (names : List (List ℕ)) (containers : Containers) (variables : ℕ) (items : ItemTrees) (path : List ℕ) → ItemsGrown containers items (items_with keep names variables items path)
  items-grown names containers variables no_item path = record { uses = refl; fit = λ around f. f; pools = λ p. p }
  items-grown names containers variables (and_item line kind items) [] = record { uses = refl; fit = λ around f. f; pools = λ p. p }
  items-grown names containers variables (and_item line kind items) (zero ∷ []) = record { uses = refl; fit = λ around f. f; pools = λ p. p }
  items-grown names containers variables (and_item line kind items) (zero ∷ next ∷ path) =
      let g = kind-grown names containers variables kind (next ∷ path) in record { uses = ap (λ uses. uses ++ item_uses items containers) g.uses; fit = λ around f. (g.fit around f.0, f.1); pools = λ p. (g.pools p.0, p.1) }
  items-grown names containers variables (and_item line kind items) (suc number ∷ path) =
      let g = items-grown names containers variables items (number ∷ path) in record { uses = ap (λ uses. kind_uses kind containers ++ uses) g.uses; fit = λ around f. (f.0, g.fit around f.1); pools = λ p. (p.0, g.pools p.1) }

  states-grown : (names : List (List ℕ)) (containers : Containers) (variables : ℕ) (states : StateTrees) (path : List ℕ) → StatesGrown containers states (states_with keep names variables states path)
  states-grown names containers variables no_state path = record { uses = refl; fit = λ f. f; pools = λ p. p }
  states-grown names containers variables (and_state items exits states) [] = record { uses = refl; fit = λ f. f; pools = λ p. p }
  states-grown names containers variables (and_state items exits states) (zero ∷ path) =
      let g = items-grown names containers variables items path in
      record { uses = ap (λ uses. uses ++ (exit_uses exits ++ state_uses states containers)) g.uses; fit = λ f. ((g.fit [] f.0.0, f.0.1), f.1); pools = λ p. (g.pools p.0, p.1) }
  states-grown names containers variables (and_state items exits states) (suc number ∷ path) =
      let g = states-grown names containers variables states (number ∷ path) in
      record { uses = ap (λ uses. item_uses items containers ++ (exit_uses exits ++ uses)) g.uses; fit = λ f. (f.0, g.fit f.1); pools = λ p. (p.0, g.pools p.1) }

  pub graph-grown : (names : List (List ℕ)) (tree : GraphTree) (path : List ℕ) → GraphGrown tree (graph_with keep names tree path)
  graph-grown names (graph name containers arguments variables symbols states) path =
      let g = states-grown names containers (length variables) states path in record { uses = g.uses; fit = λ links f. (f.0, g.fit f.1); pools = g.pools }

-- ---- it runs the same

abbrev Anything : ℕ → KindTree → Type 0
Anything variables kind = ⊤

mutual
  kind-leads : (Holds : Asked) (c : Containers) (a : List Parameter) (variables : ℕ) (kind : KindTree) (path : List ℕ) → KindLeadsTo Holds c a variables kind path → KindLeads Anything variables kind path
  kind-leads Holds c a variables (task code ins outs) path leads = leads
  kind-leads Holds c a variables (map_scope sequential params private body) path leads = items-lead Holds c (a ++ params) variables body path leads
  kind-leads Holds c a variables (consume_scope source element private body) path leads = items-lead Holds c a variables body path leads
  kind-leads Holds c a variables (nested_graph inner links) path leads = graph-leads Holds inner path leads
  kind-leads Holds c a variables (reduction resolution axis identity from to) path leads = leads
  kind-leads Holds c a variables (copy from to) path leads = leads

  items-lead : (Holds : Asked) (c : Containers) (a : List Parameter) (variables : ℕ) (items : ItemTrees) (path : List ℕ) → ItemsLeadTo Holds c a variables items path → ItemsLead Anything variables items path
  items-lead Holds c a variables no_item path leads = leads
  items-lead Holds c a variables (and_item line kind items) [] leads = leads
  items-lead Holds c a variables (and_item line kind items) (zero ∷ []) leads = tt
  items-lead Holds c a variables (and_item line kind items) (zero ∷ next ∷ path) leads = kind-leads Holds c a variables kind (next ∷ path) leads
  items-lead Holds c a variables (and_item line kind items) (suc number ∷ path) leads = items-lead Holds c a variables items (number ∷ path) leads

  states-lead : (Holds : Asked) (c : Containers) (variables : ℕ) (states : StateTrees) (path : List ℕ) → StatesLeadTo Holds c variables states path → StatesLead Anything variables states path
  states-lead Holds c variables no_state path leads = leads
  states-lead Holds c variables (and_state items exits states) [] leads = leads
  states-lead Holds c variables (and_state items exits states) (zero ∷ path) leads = items-lead Holds c [] variables items path leads
  states-lead Holds c variables (and_state items exits states) (suc number ∷ path) leads = states-lead Holds c variables states (number ∷ path) leads

  graph-leads : (Holds : Asked) (tree : GraphTree) (path : List ℕ) → GraphLeadsTo Holds tree path → GraphLeads Anything tree path
  graph-leads Holds (graph name containers arguments variables symbols states) path leads = states-lead Holds containers (length variables) states path leads

keep-replaces : (most : ℕ) → ReplacesSame most Anything keep
keep-replaces most variables line kind context other holds below alike = alone_same most (unfold_kind kind line context) (unfold_kind kind line other) (kind_same most kind line as_it_is variables context other below alike)

grown-runs : (Holds : Asked) (names : List (List ℕ)) (tree : GraphTree) (path : List ℕ) → GraphLeadsTo Holds tree path → NamesItsVariables tree → RunsSame tree (graph_with keep names tree path)
grown-runs Holds names tree path leads own = rewritten_runs_same Anything keep names keep-replaces tree path (graph-leads Holds tree path leads) own

-- ---- a rewrite where a path leads

-- what is proved of a rewrite of items, for whole graphs
pub record IsGood (Holds : Asked) (tailing : Tailing) (R S : Rewrite) : Type 0 where
  pub gives : Gives Holds tailing R
  pub back : (c : Containers) (a : List Parameter) (items others : ItemTrees) → R c a items others → S c a others items
  pub keeps : Keeps R
  pub leaves : LeavesValid R
  pub sound : IsSound R
  pub back_sound : IsSound S

pub tailed-keep : (Holds : Asked) (tailing : Tailing) (R S : Rewrite) → IsGood Holds tailing R S → (names : List (List ℕ)) (tree : GraphTree) (path : List ℕ) → GraphLeadsTo Holds tree path → IsGraphFit tree [] → GraphHasAcceptedPools tree →
    IsGraphFit (graph_tail tailing names tree path) [] × GraphHasAcceptedPools (graph_tail tailing names tree path)
tailed-keep Holds tailing R S good names tree path leads fit pools =
    let g = graph-grown names tree path in
    let r = graph-tail Holds tailing R good.gives names tree path leads in
    (graph-valid R good.keeps good.leaves (graph_with keep names tree path) (graph_tail tailing names tree path) r [] (g.fit [] fit), (graph-kept R good.keeps (graph_with keep names tree path) (graph_tail tailing names tree path) r).1 (g.pools pools))

pub tailed-end : (Holds : Asked) (tailing : Tailing) (R S : Rewrite) → IsGood Holds tailing R S → (names : List (List ℕ)) (tree : GraphTree) (path : List ℕ) (memory : Memory) (turns : ℕ) (left : Left) → GraphLeadsTo Holds tree path → IsGraphFit tree [] → GraphHasAcceptedPools tree → NamesItsVariables tree →
    Sequential (run_of tree memory) turns (Done left) → (end : Left) × Sequential (run_of (graph_tail tailing names tree path) memory) turns (Done end) × LeaveAlike left end
tailed-end Holds tailing R S good names tree path memory turns left leads fit pools own run =
    let g = graph-grown names tree path in
    run-rewritten R good.sound (graph_with keep names tree path) (graph_tail tailing names tree path) (graph-tail Holds tailing R good.gives names tree path leads) (g.fit [] fit) (g.pools pools) memory turns left
    ((grown-runs Holds names tree path leads own memory turns left).0 run)

pub tailed-began : (Holds : Asked) (tailing : Tailing) (R S : Rewrite) → IsGood Holds tailing R S → (names : List (List ℕ)) (tree : GraphTree) (path : List ℕ) (memory : Memory) (turns : ℕ) (left : Left) → GraphLeadsTo Holds tree path → IsGraphFit tree [] → GraphHasAcceptedPools tree → NamesItsVariables tree →
    Sequential (run_of (graph_tail tailing names tree path) memory) turns (Done left) → (end : Left) × Sequential (run_of tree memory) turns (Done end) × LeaveAlike left end
tailed-began Holds tailing R S good names tree path memory turns left leads fit pools own run =
    let kept = tailed-keep Holds tailing R S good names tree path leads fit pools in
    let r = graph-tail Holds tailing R good.gives names tree path leads in
    let a = run-rewritten S good.back_sound (graph_tail tailing names tree path) (graph_with keep names tree path) (graph-back R S good.back (graph_with keep names tree path) (graph_tail tailing names tree path) r) kept.0 kept.1 memory turns left run in
    (a.0, (grown-runs Holds names tree path leads own memory turns a.0).1 a.1, a.2)
