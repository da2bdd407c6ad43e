-- What a fault would show makes no difference to work that is done.
use Rattle.std.proofs.Common.{zero, suc, ℕ, ℤ, pos, List, [], ◌∷◌, map, length, replicate, Option, Some, None, option_map, Result, Ok, Err, Bool, true, false, refl, ◌∙◌}
use Rattle.std.specs.Bool.{⊤}
use Rattle.sd_work.specs.declared.fault.FaultKind.{FaultKind}
use Rattle.sd_range.specs.Points.{points, ranges_of}
use Rattle.sd_work.specs.Memory.{Memories}
use Rattle.sd_work.specs.Move.{Fault}
use Rattle.sd_work.specs.Exit.{Values, placed, all_seen, passed, or_later, first_exit}
use Rattle.sd_work.specs.Exit as work
use Rattle.sd_work.specs.Residual.{Term, Items, Points}
use Rattle.sd_graph.specs.declared.place.Place.{Place}
use Rattle.sd_graph.specs.declared.place.Frame.{Frame}
use Rattle.sd_graph.specs.PlainTree.{GuardTree, ExitTree, KindTree, task, map_scope, consume_scope, nested_graph, reduction, copy, ItemTrees, no_item, and_item, StateTrees, no_state, and_state, graph}
use Rattle.sd_graph.specs.TreeParts.{exits_at}
use Rattle.sd_graph.specs.Wiring.{before}
use Rattle.sd_graph.specs.Context.{Context, private_memory, frames_at, place_at}
use Rattle.sd_graph.specs.Unfold.{guard_of, exit_of, task_of, in_any_order, order_of_points, at_point, point_terms, at_element, element_memory, at_state, reach_inside, run_memory, unfold_kind, unfold_items, unfold_state}
use Rattle.sd_exchange.specs.reorder.SafePools.{HasSafePools, HaveSafePools}
use Rattle.sd_exchange.proofs.reorder_lemmas.Following.{SameWay}
use Rattle.sd_exchange.proofs.reorder_lemmas.Nearly.{same-memory}
use Rattle.sd_exchange.proofs.reorder_lemmas.Ends.{EndsAlike, EndAlike, end-none, end-also, ends-list, ends-owning, ends-nested}
use Rattle.sd_exchange.proofs.reorder_lemmas.PoolOrder.{ends-pool}
use Rattle.sd_exchange.proofs.reorder_lemmas.Itself.{ends-leaf, way-near, safe-works, ends-itself}
use Rattle.sd_exchange.specs.ends.Points.{reshown, point_of, element_term}

-- ---- ways out

pub ways-shown : (exits : List ExitTree) (context : Context) (names : List (List ℕ)) (shown : List (List ℕ × ℤ)) (around : List Frame) (s : Memories) →
    SameWay (first_exit (map (exit_of context) exits) s) (first_exit (map (exit_of (reshown context names shown around)) exits) s)
ways-shown [] context names shown around s = tt
ways-shown (exit ∷ exits) context names shown around s = by_guard exit.when (ways-shown exits context names shown around s)
  where
    there : Context
    there = reshown context names shown around

    First : Type 0
    First = Result (Option (work.Exit Place)) (Fault Place)

    by_answer : (place other : Place) (r : Result Bool FaultKind) (x y : First) → SameWay x y → SameWay (or_later (placed place r) (exit_of context exit) x) (or_later (placed other r) (exit_of there exit) y)
    by_answer place other (Err kind) x y h = tt
    by_answer place other (Ok true) x y h = (refl, refl, refl)
    by_answer place other (Ok false) x y h = h

    by_seen : (guard : GuardTree) (seen : Option (List ℤ)) (x y : First) → SameWay x y → SameWay (or_later (work.decided (guard_of context guard) seen) (exit_of context exit) x) (or_later (work.decided (guard_of there guard) seen) (exit_of there exit) y)
    by_seen guard None x y h = tt
    by_seen guard (Some values) x y h = by_answer (guard_of context guard).place (guard_of there guard).place ((guard_of context guard).holds values) x y h

    by_guard : (when : Option GuardTree) → SameWay (first_exit (map (exit_of context) exits) s) (first_exit (map (exit_of there) exits) s) →
        SameWay (or_later (passed (option_map (guard_of context) when) s) (exit_of context exit) (first_exit (map (exit_of context) exits) s)) (or_later (passed (option_map (guard_of there) when) s) (exit_of there exit) (first_exit (map (exit_of there) exits) s))
    by_guard None h = (refl, refl, refl)
    by_guard (Some guard) h = by_seen guard (all_seen (guard_of context guard).reads s) _ _ h

-- one way and then another
pub way_on : (x y z : Result (Option (work.Exit Place)) (Fault Place)) → SameWay x y → SameWay y z → SameWay x z
way_on (Err fault) y z h g = tt
way_on (Ok None) (Err fault) z h g = elim h [ ]
way_on (Ok None) (Ok None) z h g = g
way_on (Ok None) (Ok (Some e)) z h g = elim h [ ]
way_on (Ok (Some e)) (Err fault) z h g = elim h [ ]
way_on (Ok (Some e)) (Ok None) z h g = elim h [ ]
way_on (Ok (Some e)) (Ok (Some f)) (Err fault) h g = elim g [ ]
way_on (Ok (Some e)) (Ok (Some f)) (Ok None) h g = elim g [ ]
way_on (Ok (Some e)) (Ok (Some f)) (Ok (Some d)) h g = (h.0 ∙ g.0, h.1 ∙ g.1, h.2 ∙ g.2)

-- ---- points

pub points-alike : (f g : List ℤ → Term Place) (all : List (List ℤ)) → ((a : List ℤ) → HasSafePools (f a) → EndsAlike (f a) (g a)) → HaveSafePools (point_terms f all) → EndAlike (point_terms f all) (point_terms g all)
points-alike f g [] h safe = end-none
points-alike f g (a ∷ all) h safe = end-also (f a) (g a) (point_terms f all) (point_terms g all) (h a safe.0) (points-alike f g all h safe.1)

-- ---- items

mutual
  pub kind-shown : (kind : KindTree) (line other : ℕ) (context : Context) (names : List (List ℕ)) (shown : List (List ℕ × ℤ)) (around : List Frame) → HasSafePools (unfold_kind kind line context) →
      EndsAlike (unfold_kind kind line context) (unfold_kind kind other (reshown context names shown around))
  kind-shown (task code ins outs) line other context names shown around safe = ends-leaf (place_at context line) (place_at (reshown context names shown around) other) (task_of context code ins outs)
  kind-shown (map_scope sequential parameters private body) line other context names shown around safe =
      ends-list Points Points (order_of_points sequential) (order_of_points sequential) _ _
      (points-alike (point_of parameters private body context) (point_of parameters private body (reshown context names shown around)) (points (ranges_of parameters) context.values)
      (λ point safe.
      ends-owning (private_memory context.containers private) (private_memory context.containers private) _ _ (same-memory (λ k. ⊤) (private_memory context.containers private))
      (ends-list Items Items (before context.containers body) (before context.containers body) _ _
      (items-shown body (at_point context parameters private point) names (at_point (reshown context names shown around) parameters private point).shown around safe)))
      safe)
  kind-shown (consume_scope source element private body) line other context names shown around safe =
      ends-pool (context.reach source).level (context.reach source).container (element_term element private body context) (element_term element private body (reshown context names shown around))
      (safe-works (element_term element private body context) safe.1 (λ value. ends-itself (element_term element private body context value) (safe.2 value)))
      (λ value.
      ends-owning (element_memory context element private value) (element_memory context element private value) _ _ (same-memory (λ k. ⊤) (element_memory context element private value))
      (ends-list Items Items (before context.containers body) (before context.containers body) _ _
      (items-shown body (at_element context element private value) names (at_element (reshown context names shown around) element private value).shown around (safe.2 value))))
  kind-shown (nested_graph (graph name containers arguments variables symbols states) links) line other context names shown around safe =
      let reach = reach_inside context links containers in
      let here = frames_at context line in
      let there = frames_at (reshown context names shown around) other in
      let inside = λ (state : ℕ) (values : Values). at_state containers variables states reach here state values in
      ends-nested (λ state values. unfold_state states state (inside state values)) (λ state values. unfold_state states state (at_state containers variables states reach there state values))
      (λ state values. map (exit_of (inside state values)) (exits_at states state)) (λ state values. map (exit_of (at_state containers variables states reach there state values)) (exits_at states state))
      (run_memory containers) (run_memory containers) 0 (replicate (length variables) (pos 0)) _ _
      (λ state values. state-shown states state (inside state values) variables (inside state values).shown there (safe.1 state values))
      (λ state values s v r.
      way_on _ _ _ (way-near (map (exit_of (inside state values)) (exits_at states state)) s v r) (ways-shown (exits_at states state) (inside state values) variables (inside state values).shown there v))
      (same-memory (λ k. ⊤) (run_memory containers))
      (state-shown states 0 (inside 0 (replicate (length variables) (pos 0))) variables (inside 0 (replicate (length variables) (pos 0))).shown there safe.0)
  kind-shown (reduction resolution axis identity from to) line other context names shown around safe = ends-leaf _ _ _
  kind-shown (copy from to) line other context names shown around safe = ends-leaf _ _ _

  pub items-shown : (items : ItemTrees) (context : Context) (names : List (List ℕ)) (shown : List (List ℕ × ℤ)) (around : List Frame) → HaveSafePools (unfold_items items context) →
      EndAlike (unfold_items items context) (unfold_items items (reshown context names shown around))
  items-shown no_item context names shown around safe = end-none
  items-shown (and_item line kind items) context names shown around safe =
      end-also _ _ _ _ (kind-shown kind line line context names shown around safe.0) (items-shown items context names shown around safe.1)

  pub state-shown : (states : StateTrees) (number : ℕ) (context : Context) (names : List (List ℕ)) (shown : List (List ℕ × ℤ)) (around : List Frame) → HasSafePools (unfold_state states number context) →
      EndsAlike (unfold_state states number context) (unfold_state states number (reshown context names shown around))
  state-shown no_state number context names shown around safe = ends-list Items Items in_any_order in_any_order _ _ end-none
  state-shown (and_state items exits states) zero context names shown around safe =
      ends-list Items Items (before context.containers items) (before context.containers items) _ _ (items-shown items context names shown around safe)
  state-shown (and_state items exits states) (suc number) context names shown around safe = state-shown states number context names shown around safe
