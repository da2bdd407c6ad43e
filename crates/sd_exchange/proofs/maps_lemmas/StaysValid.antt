-- A graph stays valid when two of its maps are exchanged.
use Rattle.std.specs.List.{AllByRecursion}
use Rattle.std.proofs.Common.{Bool, ◌≢◌, ℕ, List, [], ◌∷◌, ◌++◌, sym}
use Rattle.sd_subset.specs.boxes.Box.{Parameter}
use Rattle.sd_subset.specs.boxes.InForce.{IsOther, RangeNamesOthers, AreFresh}
use Rattle.sd_graph.specs.declared.link.Link.{Link}
use Rattle.sd_graph.specs.ContainerParts.{Containers}
use Rattle.sd_graph.specs.PlainTree.{KindTree, task, map_scope, consume_scope, nested_graph, reduction, copy, ItemTrees, no_item, and_item, StateTrees, GraphTree}
use Rattle.sd_exchange.specs.maps.Rewritten.{Rewrite, KindRewritten, in_map, in_pool, in_nested, ItemsRewritten, at_once, in_first, in_later, StatesRewritten, in_state, in_states, GraphRewritten, in_graph}
use Rattle.sd_exchange.specs.maps.Interchange.{nest_of, Interchanged, interchanged}
use Rattle.sd_exchange.proofs.maps_lemmas.Interchanges.{all-right, began}
use Rattle.sd_work.specs.Memory.{Memory}
use Rattle.sd_work.specs.Step.{Done}
use Rattle.sd_work.specs.Run.{Left, Sequential}
use Rattle.sd_confluence.specs.Alike.{LeaveAlike}
use Rattle.sd_graph.specs.Unfold.{run_of}
use Rattle.sd_exchange.specs.maps.AcceptedPools.{GraphHasAcceptedPools}
use Rattle.sd_graph.specs.Wiring.{Use, graph_uses}
use Rattle.sd_exchange.proofs.tiles_lemmas.Shuffling.{shuffled-back, shuffled-member}
use Rattle.sd_exchange.proofs.maps_lemmas.Keeping.{Keeps, graph-kept, interchange-keeps}
use Rattle.sd_race.specs.cover.Fit.{IsFit, AreFit, AreStatesFit, IsGraphFit}

all-left : {A : Type 0} (P : A → Type 0) (first others : List A) → AllByRecursion P (first ++ others) → AllByRecursion P first
all-left P [] others h = tt
all-left P (a ∷ first) others h = (h.0, all-left P first others h.1)

all-both : {A : Type 0} (P : A → Type 0) (first others : List A) → AllByRecursion P first → AllByRecursion P others → AllByRecursion P (first ++ others)
all-both P [] others h g = g
all-both P (a ∷ first) others h g = (h.0, all-both P first others h.1 g)

-- what holds of all parameters of the first list holds of all of the second one
abbrev HoldsToo : List Parameter → List Parameter → Type 1
HoldsToo around other = (P : Parameter → Type 0) → AllByRecursion P around → AllByRecursion P other

holds-behind : (around other behind : List Parameter) → HoldsToo around other → HoldsToo (around ++ behind) (other ++ behind)
holds-behind around other behind h P all = all-both P other behind (h P (all-left P around behind all)) (all-right P around behind all)

fresh-too : (around other own : List Parameter) → HoldsToo around other → AreFresh around own → AreFresh other own
fresh-too around other own h f = record {
  distinct = f.distinct;
  normal = f.normal;
  others = h (λ (parameter : Parameter). IsOther own parameter.0) f.others;
  outer_ranges = h (λ (parameter : Parameter). RangeNamesOthers own parameter.1) f.outer_ranges;
  own_ranges = f.own_ranges;
}

mutual
  valid-too : (kind : KindTree) (around other : List Parameter) → HoldsToo around other → IsFit kind around → IsFit kind other
  valid-too (task code ins outs) around other h v = v
  valid-too (map_scope sequential parameters private body) around other h v = (fresh-too around other parameters h v.0, all-valid-too body (around ++ parameters) (other ++ parameters) (holds-behind around other parameters h) v.1)
  valid-too (consume_scope source element private body) around other h v = all-valid-too body around other h v
  valid-too (nested_graph inner links) around other h v = v
  valid-too (reduction resolution axis identity from to) around other h v = v
  valid-too (copy from to) around other h v = v

  all-valid-too : (items : ItemTrees) (around other : List Parameter) → HoldsToo around other → AreFit items around → AreFit items other
  all-valid-too no_item around other h v = tt
  all-valid-too (and_item line kind items) around other h v = (valid-too kind around other h v.0, all-valid-too items around other h v.1)

-- ---- the nest

is-other : (second : List Parameter) (variable : ℕ) (parameter : Parameter) (rest : List Parameter) → AllByRecursion (λ (q : Parameter). IsOther rest q.0) second → AllByRecursion (λ (q : Parameter). q.0 ≢ parameter.0) second → AllByRecursion (λ (q : Parameter). IsOther (parameter ∷ rest) q.0) second
is-other [] variable parameter rest h g = tt
is-other (q ∷ second) variable parameter rest h g = ((g.0, h.0), is-other second variable parameter rest h.1 g.1)

not-it : (second : List Parameter) (variable : ℕ) → IsOther second variable → AllByRecursion (λ (q : Parameter). q.0 ≢ variable) second
not-it [] variable h = tt
not-it (q ∷ second) variable h = ((λ e. h.0 (sym e)), not-it second variable h.1)

none-named : (second : List Parameter) → AllByRecursion (λ (q : Parameter). IsOther [] q.0) second
none-named [] = tt
none-named (q ∷ second) = (tt, none-named second)

others-back : (first second : List Parameter) → AllByRecursion (λ (p : Parameter). IsOther second p.0) first → AllByRecursion (λ (q : Parameter). IsOther first q.0) second
others-back [] second h = none-named second
others-back (p ∷ first) second h = is-other second p.0 p first (others-back first second h.1) (not-it second p.0 h.0)

nest-valid : (first_sequential second_sequential : Bool) (around first second : List Parameter) (private : List ℕ) (line other : ℕ) (body : ItemTrees) → IsFit (nest_of first_sequential second_sequential first second private line body) around → AllByRecursion (λ (parameter : Parameter). RangeNamesOthers first parameter.1) second → IsFit (nest_of second_sequential first_sequential second first private other body) around
nest-valid first_sequential second_sequential around first second private line other body v ranges =
    let outer : AreFresh around first = v.0 in
    let inner : AreFresh (around ++ first) second = v.1.0.0 in (
      record {
        distinct = inner.distinct;
        normal = inner.normal;
        others = all-left (λ (parameter : Parameter). IsOther second parameter.0) around first inner.others;
        outer_ranges = all-left (λ (parameter : Parameter). RangeNamesOthers second parameter.1) around first inner.outer_ranges;
        own_ranges = inner.own_ranges;
      },
      (
        (
          record {
            distinct = outer.distinct;
            normal = outer.normal;
            others = all-both (λ (parameter : Parameter). IsOther first parameter.0) around second outer.others (others-back first second (all-right (λ (parameter : Parameter). IsOther second parameter.0) around first inner.others));
            outer_ranges = all-both (λ (parameter : Parameter). RangeNamesOthers first parameter.1) around second outer.outer_ranges ranges;
            own_ranges = outer.own_ranges;
          },
          all-valid-too body ((around ++ first) ++ second) ((around ++ second) ++ first)
              (λ P all. all-both P (around ++ second) first (all-both P around second (all-left P around first (all-left P (around ++ first) second all)) (all-right P (around ++ first) second all)) (all-right P around first (all-left P (around ++ first) second all)))
              v.1.0.1,
        ),
        tt,
      ),
    )

-- ---- whole graphs

-- what a rewrite leaves valid
abbrev pub LeavesValid : Rewrite → Type 0
LeavesValid R = (containers : Containers) (around : List Parameter) (items others : ItemTrees) → R containers around items others → AreFit items around → AreFit others around

mutual
  kind-valid : (R : Rewrite) → Keeps R → LeavesValid R → (c : Containers) (a : List Parameter) (kind other : KindTree) → KindRewritten R c a kind other → IsFit kind a → IsFit other a
  kind-valid R k h c a kind other (in_map sequential containers around parameters private body new r) v = (v.0, items-valid R k h containers (around ++ parameters) body new r v.1)
  kind-valid R k h c a kind other (in_pool containers around source element private body new r) v = items-valid R k h containers around body new r v
  kind-valid R k h c a kind other (in_nested containers around tree new links r) v =
      let fewer = λ (u : Use). shuffled-member (graph_uses new) (graph_uses tree) (shuffled-back (graph_uses tree) (graph_uses new) (graph-kept R k tree new r).0) u in (
        v.0,
        graph-valid R k h tree new r links v.1,
        λ u w link second m n a b different one conflict. v.2 u w link second (fewer u m) (fewer w n) a b different one conflict,
        λ u link m a. v.3 u link (fewer u m) a,
      )

  pub items-valid : (R : Rewrite) → Keeps R → LeavesValid R → (c : Containers) (a : List Parameter) (items others : ItemTrees) → ItemsRewritten R c a items others → AreFit items a → AreFit others a
  items-valid R k h c a items others (at_once containers around old new r) v = h containers around old new r v
  items-valid R k h c a items others (in_first containers around line kind other rest r) v = (kind-valid R k h containers around kind other r v.0, v.1)
  items-valid R k h c a items others (in_later containers around line kind old new r) v = (v.0, items-valid R k h containers around old new r v.1)

  states-valid : (R : Rewrite) → Keeps R → LeavesValid R → (c : Containers) (states others : StateTrees) → StatesRewritten R c states others → AreStatesFit states → AreStatesFit others
  states-valid R k h c states others (in_state containers old new exits rest r) v = ((items-valid R k h containers [] old new r v.0.0, v.0.1), v.1)
  states-valid R k h c states others (in_states containers items exits old new r) v = (v.0, states-valid R k h containers old new r v.1)

  pub graph-valid : (R : Rewrite) → Keeps R → LeavesValid R → (tree other : GraphTree) → GraphRewritten R tree other → (links : List Link) → IsGraphFit tree links → IsGraphFit other links
  graph-valid R k h tree other (in_graph name containers arguments variables symbols states others r) links v = (v.0, states-valid R k h containers states others r v.1)

pub interchange-leaves_valid : LeavesValid Interchanged
interchange-leaves_valid containers around items others (interchanged first_sequential second_sequential c a first second private place there line other body rest may) v = (nest-valid first_sequential second_sequential a first second private line other body v.0 may.ranges, v.1)

pub interchanged-valid : (tree other : GraphTree) → GraphRewritten Interchanged tree other → (links : List Link) → IsGraphFit tree links → IsGraphFit other links
interchanged-valid tree other r links v = graph-valid Interchanged interchange-keeps interchange-leaves_valid tree other r links v

-- ---- the law

pub interchanged-began : (tree other : GraphTree) (memory : Memory) (turns : ℕ) (left : Left) → GraphRewritten Interchanged tree other → IsGraphFit tree [] → GraphHasAcceptedPools tree → Sequential (run_of other memory) turns (Done left) →
    (end : Left) × Sequential (run_of tree memory) turns (Done end) × LeaveAlike left end
interchanged-began tree other memory turns left r valid pools run =
    began tree other memory turns left r (interchanged-valid tree other r [] valid) ((graph-kept Interchanged interchange-keeps tree other r).1 pools) run

pub interchanged-keeps : (tree other : GraphTree) → GraphRewritten Interchanged tree other → IsGraphFit tree [] → GraphHasAcceptedPools tree → IsGraphFit other [] × GraphHasAcceptedPools other
interchanged-keeps tree other r valid pools = (interchanged-valid tree other r [] valid, (graph-kept Interchanged interchange-keeps tree other r).1 pools)
