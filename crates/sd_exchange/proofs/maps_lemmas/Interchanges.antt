-- A graph with two maps exchanged somewhere ends alike, and so does the graph that it came from.
use Rattle.std.specs.List.{AllByRecursion}
use Rattle.std.proofs.Common.{Bool, ℕ, List, [], ◌∷◌, ◌++◌, sym, subst}
use Rattle.sd_work.specs.Memory.{Memory}
use Rattle.sd_work.specs.Step.{Done}
use Rattle.sd_work.specs.Run.{Left, Sequential}
use Rattle.sd_confluence.specs.Alike.{LeaveAlike}
use Rattle.sd_subset.specs.boxes.Box.{Parameter}
use Rattle.sd_subset.specs.boxes.InForce.{IsOther, RangeNamesOthers, AreFresh}
use Rattle.sd_graph.specs.PlainTree.{KindTree, map_scope, ItemTrees, StateTrees, GraphTree}
use Rattle.sd_graph.specs.ContainerParts.{Containers}
use Rattle.sd_graph.specs.Wiring.{kind_uses, item_uses}
use Rattle.sd_graph.specs.Unfold.{unfold_items, run_of}
use Rattle.sd_exchange.proofs.reorder_lemmas.Ends.{end-also}
use Rattle.sd_exchange.proofs.reorder_lemmas.Itself.{end-themselves}
use Rattle.sd_exchange.specs.maps.AcceptedPools.{GraphHasAcceptedPools}
use Rattle.sd_exchange.specs.maps.Rewritten.{Rewrite, KindRewritten, in_map, in_pool, in_nested, ItemsRewritten, at_once, in_first, in_later, StatesRewritten, in_state, in_states, GraphRewritten, in_graph}
use Rattle.sd_exchange.specs.maps.Interchange.{nest_of, Interchanged, interchanged, InterchangedBack, back}
use Rattle.sd_exchange.proofs.maps_lemmas.PoolsSafe.{apart-left, apart-right, items-pools}
use Rattle.sd_exchange.proofs.maps_lemmas.Interchanging.{AreIndependent, interchange-ends, interchange-back}
use Rattle.sd_exchange.proofs.maps_lemmas.Congruent.{IsSound, run-rewritten}
use Rattle.sd_race.specs.cover.Fit.{IsFit, IsGraphFit}
use Rattle.sd_safe.proofs.safe_lemmas.Accepting.{AreMapHarmless, map-harmless}
use Rattle.sd_prop.specs.propagation.ItemNodes.{nodes_behind}
use Rattle.sd_prop.specs.propagation.Accesses.{item_accesses, outside_accesses}
use Rattle.sd_exchange.specs.ends.Points.{alone}

pub all-right : {A : Type 0} (P : A → Type 0) (first others : List A) → AllByRecursion P (first ++ others) → AllByRecursion P others
all-right P [] others h = h
all-right P (a ∷ first) others h = all-right P first others h.1

independent : (first_sequential second_sequential : Bool) (around first second : List Parameter) (private : List ℕ) (line : ℕ) (body : ItemTrees) → IsFit (nest_of first_sequential second_sequential first second private line body) around → AllByRecursion (λ (parameter : Parameter). RangeNamesOthers first parameter.1) second → AreIndependent first second
independent first_sequential second_sequential around first second private line body valid ranges =
    let fresh : AreFresh (around ++ first) second = valid.1.0.0 in
    record {
      others = all-right (λ (parameter : Parameter). IsOther second parameter.0) around first fresh.others;
      first_ranges = all-right (λ (parameter : Parameter). RangeNamesOthers second parameter.1) around first fresh.outer_ranges;
      second_ranges = ranges;
    }

pub interchange-sound : IsSound Interchanged
interchange-sound containers around items others (interchanged first_sequential second_sequential c a first second private place there line other body rest may) context same stand =
    let old = nest_of first_sequential second_sequential first second private line body in
    let apart = apart-left context.reach (kind_uses old context.containers) (item_uses rest context.containers) stand.apart in
    end-also _ _ _ _
    (interchange-ends first_sequential second_sequential a first second private line other place there body (nodes_behind may.nodes) context (independent first_sequential second_sequential a first second private line body may.valid may.ranges) stand.valid.0 stand.in_force stand.once apart
    (subst (λ c. AreMapHarmless a first (outside_accesses [] (item_accesses (alone line (map_scope second_sequential second private body)) c (nodes_behind may.nodes)))) (sym same) (map-harmless first_sequential first [] (alone line (map_scope second_sequential second private body)) c may.path a may.nodes may.free)) stand.pools.0)
    (end-themselves (unfold_items rest context) (items-pools rest a context stand.valid.1 stand.in_force stand.once (apart-right context.reach (kind_uses old context.containers) (item_uses rest context.containers) stand.apart) stand.pools.1))

pub interchange-back-sound : IsSound InterchangedBack
interchange-back-sound containers around items others (back c a new old (interchanged first_sequential second_sequential c' a' first second private place there line other body rest may)) context same stand =
    let turned = nest_of second_sequential first_sequential second first private other body in
    let apart = apart-left context.reach (kind_uses turned context.containers) (item_uses rest context.containers) stand.apart in
    end-also _ _ _ _
    (interchange-back first_sequential second_sequential a' first second private line other place there body (nodes_behind may.nodes) context (independent first_sequential second_sequential a' first second private line body may.valid may.ranges) may.valid stand.in_force stand.once apart
    (subst (λ c. AreMapHarmless a' first (outside_accesses [] (item_accesses (alone line (map_scope second_sequential second private body)) c (nodes_behind may.nodes)))) (sym same) (map-harmless first_sequential first [] (alone line (map_scope second_sequential second private body)) c' may.path a' may.nodes may.free)) stand.pools.0 stand.valid.0)
    (end-themselves (unfold_items rest context) (items-pools rest a' context stand.valid.1 stand.in_force stand.once (apart-right context.reach (kind_uses turned context.containers) (item_uses rest context.containers) stand.apart) stand.pools.1))

-- ---- back

mutual
  kind-back : (R S : Rewrite) → ((c : Containers) (a : List Parameter) (items others : ItemTrees) → R c a items others → S c a others items) →
      (c : Containers) (a : List Parameter) (kind other : KindTree) → KindRewritten R c a kind other → KindRewritten S c a other kind
  kind-back R S h c a kind other (in_map sequential containers around params private body new r) = in_map sequential containers around params private new body (items-back R S h containers (around ++ params) body new r)
  kind-back R S h c a kind other (in_pool containers around stream element private body new r) = in_pool containers around stream element private new body (items-back R S h containers around body new r)
  kind-back R S h c a kind other (in_nested containers around tree new links r) = in_nested containers around new tree links (graph-back R S h tree new r)

  pub items-back : (R S : Rewrite) → ((c : Containers) (a : List Parameter) (items others : ItemTrees) → R c a items others → S c a others items) →
      (c : Containers) (a : List Parameter) (items others : ItemTrees) → ItemsRewritten R c a items others → ItemsRewritten S c a others items
  items-back R S h c a items others (at_once containers around old new r) = at_once containers around new old (h containers around old new r)
  items-back R S h c a items others (in_first containers around line kind other rest r) = in_first containers around line other kind rest (kind-back R S h containers around kind other r)
  items-back R S h c a items others (in_later containers around line kind old new r) = in_later containers around line kind new old (items-back R S h containers around old new r)

  states-back : (R S : Rewrite) → ((c : Containers) (a : List Parameter) (items others : ItemTrees) → R c a items others → S c a others items) →
      (c : Containers) (states others : StateTrees) → StatesRewritten R c states others → StatesRewritten S c others states
  states-back R S h c states others (in_state containers old new exits rest r) = in_state containers new old exits rest (items-back R S h containers [] old new r)
  states-back R S h c states others (in_states containers items exits old new r) = in_states containers items exits new old (states-back R S h containers old new r)

  pub graph-back : (R S : Rewrite) → ((c : Containers) (a : List Parameter) (items others : ItemTrees) → R c a items others → S c a others items) →
      (tree other : GraphTree) → GraphRewritten R tree other → GraphRewritten S other tree
  graph-back R S h tree other (in_graph name containers arguments variables symbols states others r) = in_graph name containers arguments variables symbols others states (states-back R S h containers states others r)

-- ---- one rewrite as another

mutual
  kind-as : (R S : Rewrite) → ((c : Containers) (a : List Parameter) (items others : ItemTrees) → R c a items others → S c a items others) →
      (c : Containers) (a : List Parameter) (kind other : KindTree) → KindRewritten R c a kind other → KindRewritten S c a kind other
  kind-as R S h c a kind other (in_map sequential containers around params private body new r) = in_map sequential containers around params private body new (items-as R S h containers (around ++ params) body new r)
  kind-as R S h c a kind other (in_pool containers around stream element private body new r) = in_pool containers around stream element private body new (items-as R S h containers around body new r)
  kind-as R S h c a kind other (in_nested containers around tree new links r) = in_nested containers around tree new links (graph-as R S h tree new r)

  items-as : (R S : Rewrite) → ((c : Containers) (a : List Parameter) (items others : ItemTrees) → R c a items others → S c a items others) →
      (c : Containers) (a : List Parameter) (items others : ItemTrees) → ItemsRewritten R c a items others → ItemsRewritten S c a items others
  items-as R S h c a items others (at_once containers around old new r) = at_once containers around old new (h containers around old new r)
  items-as R S h c a items others (in_first containers around line kind other rest r) = in_first containers around line kind other rest (kind-as R S h containers around kind other r)
  items-as R S h c a items others (in_later containers around line kind old new r) = in_later containers around line kind old new (items-as R S h containers around old new r)

  states-as : (R S : Rewrite) → ((c : Containers) (a : List Parameter) (items others : ItemTrees) → R c a items others → S c a items others) →
      (c : Containers) (states others : StateTrees) → StatesRewritten R c states others → StatesRewritten S c states others
  states-as R S h c states others (in_state containers old new exits rest r) = in_state containers old new exits rest (items-as R S h containers [] old new r)
  states-as R S h c states others (in_states containers items exits old new r) = in_states containers items exits old new (states-as R S h containers old new r)

  pub graph-as : (R S : Rewrite) → ((c : Containers) (a : List Parameter) (items others : ItemTrees) → R c a items others → S c a items others) →
      (tree other : GraphTree) → GraphRewritten R tree other → GraphRewritten S tree other
  graph-as R S h tree other (in_graph name containers arguments variables symbols states others r) = in_graph name containers arguments variables symbols states others (states-as R S h containers states others r)

pub interchanged-ends : (tree other : GraphTree) (memory : Memory) (turns : ℕ) (left : Left) → GraphRewritten Interchanged tree other → IsGraphFit tree [] → GraphHasAcceptedPools tree → Sequential (run_of tree memory) turns (Done left) →
    (end : Left) × Sequential (run_of other memory) turns (Done end) × LeaveAlike left end
interchanged-ends tree other memory turns left r valid pools run = run-rewritten Interchanged interchange-sound tree other r valid pools memory turns left run

pub began : (tree other : GraphTree) (memory : Memory) (turns : ℕ) (left : Left) → GraphRewritten Interchanged tree other → IsGraphFit other [] → GraphHasAcceptedPools other → Sequential (run_of other memory) turns (Done left) →
    (end : Left) × Sequential (run_of tree memory) turns (Done end) × LeaveAlike left end
began tree other memory turns left r valid pools run =
    run-rewritten InterchangedBack interchange-back-sound other tree (graph-back Interchanged InterchangedBack (λ c a items others s. back c a others items s) tree other r) valid pools memory turns left run
