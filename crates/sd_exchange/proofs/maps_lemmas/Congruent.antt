-- A graph ends alike where a part of it is rewritten to one that does.
use Rattle.std.specs.List.{Contains}
use Rattle.std.proofs.Common.{◌≡◌, zero, suc, ℕ, ℤ, pos, List, [], ◌∷◌, ◌++◌, map, length, replicate, refl, subst}
use Rattle.std.specs.Bool.{⊤}
use Rattle.sd_range.specs.Points.{points, ranges_of}
use Rattle.sd_range.proofs.Members.{Contains-first, Contains-later}
use Rattle.sd_work.specs.Memory.{Memory}
use Rattle.sd_work.specs.Exit.{Values, first_exit}
use Rattle.sd_work.specs.Residual.{Items, Points, Term}
use Rattle.sd_work.specs.Step.{Done}
use Rattle.sd_work.specs.Run.{Left, Sequential}
use Rattle.sd_confluence.specs.Alike.{LeaveAlike}
use Rattle.sd_subset.specs.boxes.Box.{Parameter}
use Rattle.sd_subset.specs.boxes.InForce.{AreInForce}
use Rattle.sd_graph.specs.declared.place.Place.{Place}
use Rattle.sd_graph.specs.declared.place.Frame.{Frame}
use Rattle.sd_graph.specs.PlainTree.{KindTree, consume_scope, ItemTrees, StateTrees, GraphTree, graph}
use Rattle.sd_graph.specs.TreeParts.{exits_at}
use Rattle.sd_graph.specs.ContainerParts.{Containers}
use Rattle.sd_graph.specs.Wiring.{outside, exit_uses, kind_uses, item_uses, state_uses, before}
use Rattle.sd_graph.specs.Context.{Context, own_reach, private_memory, frames_at}
use Rattle.sd_graph.specs.Unfold.{exit_of, order_of_points, at_point, point_terms, at_element, element_memory, at_state, reach_inside, run_memory, unfold_kind, unfold_items, unfold_state, run_of}
use Rattle.sd_graph.proofs.UnfoldedOrder.{run_is_ordered}
use Rattle.sd_graph.proofs.UnfoldedPools.{run_has_ordered_pools}
use Rattle.sd_safe.specs.safe.Reached.{FindOnce, AreApartFor}
use Rattle.sd_graph.specs.Mode.{Take}
use Rattle.sd_race.proofs.cover_lemmas.Covered.{in_force-at}
use Rattle.sd_safe.proofs.safe_lemmas.Distinct.{inside-once, inside-apart, nested-once, nested-apart}
use Rattle.sd_safe.proofs.safe_lemmas.Whole.{top-once, top-apart}
use Rattle.sd_exchange.proofs.reorder_lemmas.Following.{SameWay}
use Rattle.sd_exchange.proofs.reorder_lemmas.Nearly.{same-memory, alike-memory}
use Rattle.sd_exchange.proofs.reorder_lemmas.Ends.{EndsAlike, EndAlike, end-none, end-also, ends-on, ends-list, ends-owning, ends-nested}
use Rattle.sd_exchange.proofs.reorder_lemmas.PoolOrder.{ends-pool}
use Rattle.sd_exchange.proofs.reorder_lemmas.Itself.{way-near, safe-works, ends-itself, end-themselves}
use Rattle.sd_exchange.proofs.reorder_lemmas.Alike.{whole-alike, sequential-alike}
use Rattle.sd_exchange.specs.maps.AcceptedPools.{HasAcceptedPools, HaveAcceptedPools, StatesHaveAcceptedPools, GraphHasAcceptedPools}
use Rattle.sd_exchange.specs.maps.Rewritten.{Rewrite, KindRewritten, in_map, in_pool, in_nested, ItemsRewritten, at_once, in_first, in_later, StatesRewritten, in_state, in_states, GraphRewritten, in_graph}
use Rattle.sd_exchange.proofs.maps_lemmas.PoolsSafe.{apart-left, apart-right, kind-pools, items-pools, state-pools}
use Rattle.sd_exchange.specs.ends.Points.{reshown}
use Rattle.sd_exchange.proofs.ends_lemmas.Shown.{ways-shown, way_on, state-shown}
use Rattle.sd_race.specs.cover.Fit.{IsFit, AreFit, AreStatesFit, IsGraphFit}
use Rattle.sd_exchange.specs.ends.Points.{point_of, element_term}

-- items where they stand: valid, in a context that holds their uses, with accepted consume scopes
pub record Stand (items : ItemTrees) (around : List Parameter) (context : Context) : Type 0 where
  pub valid : AreFit items around
  pub in_force : AreInForce context.values around
  pub once : FindOnce context.reach
  pub apart : AreApartFor context.reach (item_uses items context.containers)
  pub pools : HaveAcceptedPools items context.containers

-- what is rewritten ends alike, wherever it stands
abbrev pub IsSound : Rewrite → Type 0
IsSound R = (containers : Containers) (around : List Parameter) (items others : ItemTrees) → R containers around items others → (context : Context) → context.containers ≡ containers → Stand items around context →
    EndAlike (unfold_items items context) (unfold_items others context)

pub points-each : (f g : List ℤ → Term Place) (all : List (List ℤ)) → ((a : List ℤ) → Contains all a → EndsAlike (f a) (g a)) → EndAlike (point_terms f all) (point_terms g all)
points-each f g [] h = end-none
points-each f g (a ∷ all) h = end-also (f a) (g a) (point_terms f all) (point_terms g all) (h a (Contains-first a all)) (points-each f g all (λ b m. h b (Contains-later a all b m)))

same-exits : (R : Rewrite) (containers : Containers) (states others : StateTrees) → StatesRewritten R containers states others → (number : ℕ) → exits_at states number ≡ exits_at others number
same-exits R containers states others (in_state c items other exits rest r) zero = refl
same-exits R containers states others (in_state c items other exits rest r) (suc number) = refl
same-exits R containers states others (in_states c items exits rest other r) zero = refl
same-exits R containers states others (in_states c items exits rest other r) (suc number) = same-exits R c rest other r number

-- first something else is shown
shown-first : (states others : StateTrees) (number : ℕ) (context : Context) (names : List (List ℕ)) (shown : List (List ℕ × ℤ)) (around : List Frame) →
    AreStatesFit states → FindOnce context.reach → AreApartFor context.reach (state_uses states context.containers) → StatesHaveAcceptedPools states context.containers →
    EndsAlike (unfold_state states number (reshown context names shown around)) (unfold_state others number (reshown context names shown around)) →
    EndsAlike (unfold_state states number context) (unfold_state others number (reshown context names shown around))
shown-first states others number context names shown around valid once apart pools h =
    ends-on (unfold_state states number context) (unfold_state states number (reshown context names shown around)) (unfold_state others number (reshown context names shown around))
    (state-shown states number context names shown around (state-pools states number context valid once apart pools)) h

mutual
  pub kind-rewritten : (R : Rewrite) → IsSound R → (containers : Containers) (around : List Parameter) (kind other : KindTree) → KindRewritten R containers around kind other → (line : ℕ) (context : Context) → context.containers ≡ containers →
      IsFit kind around → AreInForce context.values around → FindOnce context.reach → AreApartFor context.reach (kind_uses kind context.containers) → HasAcceptedPools kind context.containers →
      EndsAlike (unfold_kind kind line context) (unfold_kind other line context)
  kind-rewritten R sound containers around kind other (in_map sequential c a parameters private body new r) line context same valid in_force once apart pools =
      ends-list Points Points (order_of_points sequential) (order_of_points sequential) _ _
      (points-each (point_of parameters private body context) (point_of parameters private new context) (points (ranges_of parameters) context.values)
      (λ point member.
      ends-owning (private_memory context.containers private) (private_memory context.containers private) _ _ (same-memory (λ k. ⊤) (private_memory context.containers private))
      (ends-list Items Items (before context.containers body) (before context.containers new) _ _
      (items-rewritten R sound c (a ++ parameters) body new r (at_point context parameters private point) same
      (record {
        valid = valid.1;
        in_force = in_force-at a parameters context.values point valid.0 in_force member;
        once = inside-once private context.containers context.reach once;
        apart = inside-apart private context.containers context.reach (item_uses body context.containers) apart;
        pools = pools;
      })))))
  kind-rewritten R sound containers around kind other (in_pool c a source element private body new r) line context same valid in_force once apart pools =
      let safe = kind-pools (consume_scope source element private body) a line context valid in_force once apart pools in
      let own = element ∷ private in
      let outer = apart-right context.reach (record { container = source; mode = Take } ∷ []) (outside own (item_uses body context.containers)) apart in
      ends-pool (context.reach source).level (context.reach source).container (element_term element private body context) (element_term element private new context)
      (safe-works (element_term element private body context) safe.1 (λ value. ends-itself (element_term element private body context value) (safe.2 value)))
      (λ value.
      ends-owning (element_memory context element private value) (element_memory context element private value) _ _ (same-memory (λ k. ⊤) (element_memory context element private value))
      (ends-list Items Items (before context.containers body) (before context.containers new) _ _
      (items-rewritten R sound c a body new r (at_element context element private value) same
      (record {
        valid = valid;
        in_force = in_force;
        once = inside-once own context.containers context.reach once;
        apart = inside-apart own context.containers context.reach (item_uses body context.containers) outer;
        pools = pools.1;
      }))))
  kind-rewritten R sound containers around kind other (in_nested c a tree new links (in_graph name inner arguments variables symbols states others r)) line context same valid in_force once apart pools =
      let reach = reach_inside context links inner in
      let once' = nested-once context links inner valid.1.0 once in
      let apart' = nested-apart context links inner (state_uses states inner) valid.2 apart in
      let frames = frames_at context line in
      let at_old = λ (state : ℕ) (values : Values). at_state inner variables states reach frames state values in
      let at_new = λ (state : ℕ) (values : Values). at_state inner variables others reach frames state values in
      let each = λ (state : ℕ) (values : Values). shown-first states others state (at_old state values) variables (at_new state values).shown frames valid.1.1 once' apart' pools (state-rewritten R sound inner states others r state (at_new state values) refl valid.1.1 once' apart' pools) in
      ends-nested (λ state values. unfold_state states state (at_old state values)) (λ state values. unfold_state others state (at_new state values))
      (λ state values. map (exit_of (at_old state values)) (exits_at states state)) (λ state values. map (exit_of (at_new state values)) (exits_at others state))
      (run_memory inner) (run_memory inner) 0 (replicate (length variables) (pos 0)) _ _
      each
      (λ state values s v n.
      subst (λ exits. SameWay (first_exit (map (exit_of (at_old state values)) (exits_at states state)) s) (first_exit (map (exit_of (at_new state values)) exits) v)) (same-exits R inner states others r state)
      (way_on _ _ _ (way-near (map (exit_of (at_old state values)) (exits_at states state)) s v n) (ways-shown (exits_at states state) (at_old state values) variables (at_new state values).shown frames v)))
      (same-memory (λ k. ⊤) (run_memory inner))
      (each 0 (replicate (length variables) (pos 0)))

  pub items-rewritten : (R : Rewrite) → IsSound R → (containers : Containers) (around : List Parameter) (items others : ItemTrees) → ItemsRewritten R containers around items others → (context : Context) → context.containers ≡ containers →
      Stand items around context → EndAlike (unfold_items items context) (unfold_items others context)
  items-rewritten R sound containers around items others (at_once c a old new r) context same stand = sound c a old new r context same stand
  items-rewritten R sound containers around items others (in_first c a line kind other rest r) context same stand =
      end-also _ _ _ _
      (kind-rewritten R sound c a kind other r line context same stand.valid.0 stand.in_force stand.once (apart-left context.reach (kind_uses kind context.containers) (item_uses rest context.containers) stand.apart) stand.pools.0)
      (end-themselves (unfold_items rest context) (items-pools rest a context stand.valid.1 stand.in_force stand.once (apart-right context.reach (kind_uses kind context.containers) (item_uses rest context.containers) stand.apart) stand.pools.1))
  items-rewritten R sound containers around items others (in_later c a line kind rest new r) context same stand =
      end-also _ _ _ _
      (ends-itself (unfold_kind kind line context) (kind-pools kind a line context stand.valid.0 stand.in_force stand.once (apart-left context.reach (kind_uses kind context.containers) (item_uses rest context.containers) stand.apart) stand.pools.0))
      (items-rewritten R sound c a rest new r context same
      (record { valid = stand.valid.1; in_force = stand.in_force; once = stand.once; apart = apart-right context.reach (kind_uses kind context.containers) (item_uses rest context.containers) stand.apart; pools = stand.pools.1 }))

  pub state-rewritten : (R : Rewrite) → IsSound R → (containers : Containers) (states others : StateTrees) → StatesRewritten R containers states others → (number : ℕ) (context : Context) → context.containers ≡ containers →
      AreStatesFit states → FindOnce context.reach → AreApartFor context.reach (state_uses states context.containers) → StatesHaveAcceptedPools states context.containers →
      EndsAlike (unfold_state states number context) (unfold_state others number context)
  state-rewritten R sound containers states others (in_state c items new exits rest r) zero context same valid once apart pools =
      ends-list Items Items (before context.containers items) (before context.containers new) _ _
      (items-rewritten R sound c [] items new r context same
      (record { valid = valid.0.0; in_force = tt; once = once; apart = apart-left context.reach (item_uses items context.containers) (exit_uses exits ++ state_uses rest context.containers) apart; pools = pools.0 }))
  state-rewritten R sound containers states others (in_state c items new exits rest r) (suc number) context same valid once apart pools =
      ends-itself (unfold_state rest number context)
      (state-pools rest number context valid.1 once (apart-right context.reach (exit_uses exits) (state_uses rest context.containers) (apart-right context.reach (item_uses items context.containers) (exit_uses exits ++ state_uses rest context.containers) apart)) pools.1)
  state-rewritten R sound containers states others (in_states c items exits rest new r) zero context same valid once apart pools =
      ends-list Items Items (before context.containers items) (before context.containers items) _ _
      (end-themselves (unfold_items items context) (items-pools items [] context valid.0.0 tt once (apart-left context.reach (item_uses items context.containers) (exit_uses exits ++ state_uses rest context.containers) apart) pools.0))
  state-rewritten R sound containers states others (in_states c items exits rest new r) (suc number) context same valid once apart pools =
      state-rewritten R sound c rest new r number context same valid.1 once (apart-right context.reach (exit_uses exits) (state_uses rest context.containers) (apart-right context.reach (item_uses items context.containers) (exit_uses exits ++ state_uses rest context.containers) apart)) pools.1

-- a whole run
pub run-rewritten : (R : Rewrite) → IsSound R → (tree other : GraphTree) → GraphRewritten R tree other → IsGraphFit tree [] → GraphHasAcceptedPools tree → (memory : Memory) (turns : ℕ) (left : Left) → Sequential (run_of tree memory) turns (Done left) →
    (end : Left) × Sequential (run_of other memory) turns (Done end) × LeaveAlike left end
run-rewritten R sound tree other (in_graph name inner arguments variables symbols states others r) valid pools memory turns left run =
    let reach = own_reach inner in
    let at_old = λ (state : ℕ) (values : Values). at_state inner variables states reach [] state values in
    let at_new = λ (state : ℕ) (values : Values). at_state inner variables others reach [] state values in
    let each = λ (state : ℕ) (values : Values). shown-first states others state (at_old state values) variables (at_new state values).shown [] valid.1 (top-once inner) (top-apart inner states) pools (state-rewritten R sound inner states others r state (at_new state values) refl valid.1 (top-once inner) (top-apart inner states) pools) in
    let old = graph name inner arguments variables symbols states in
    let new = graph name inner arguments variables symbols others in
    sequential-alike (λ state values. unfold_state states state (at_old state values)) (λ state values. unfold_state others state (at_new state values))
    (λ state values. map (exit_of (at_old state values)) (exits_at states state)) (λ state values. map (exit_of (at_new state values)) (exits_at others state))
    memory memory 0 0 (replicate (length variables) (pos 0)) (replicate (length variables) (pos 0)) _ _ turns left
    (run_is_ordered old memory) (run_has_ordered_pools old memory) (run_is_ordered new memory) (run_has_ordered_pools new memory)
    (whole-alike (λ state values. unfold_state states state (at_old state values)) (λ state values. unfold_state others state (at_new state values))
    (λ state values. map (exit_of (at_old state values)) (exits_at states state)) (λ state values. map (exit_of (at_new state values)) (exits_at others state))
    memory memory 0 (replicate (length variables) (pos 0)) _ _ each
    (λ state values s v n.
    subst (λ exits. SameWay (first_exit (map (exit_of (at_old state values)) (exits_at states state)) s) (first_exit (map (exit_of (at_new state values)) exits) v)) (same-exits R inner states others r state)
    (way_on _ _ _ (way-near (map (exit_of (at_old state values)) (exits_at states state)) s v n) (ways-shown (exits_at states state) (at_old state values) variables (at_new state values).shown [] v)))
    (alike-memory memory memory (same-memory (λ k. ⊤) memory))
    (each 0 (replicate (length variables) (pos 0))))
    run
