-- Two maps, one alone in the other, exchanged.
use Rattle.std.specs.List.{AllByRecursion}
use Rattle.std.proofs.Common.{◌≡◌, Bool, ℕ, ℤ, List, [], sym, subst}
use Rattle.std.specs.Bool.{⊤}
use Rattle.sd_range.specs.Points.{points, ranges_of}
use Rattle.sd_work.specs.Residual.{Items, Points, none}
use Rattle.sd_work.specs.Touch.{Touches}
use Rattle.sd_subset.specs.boxes.Box.{Parameter}
use Rattle.sd_subset.specs.boxes.InForce.{IsOther, RangeNamesOthers, AreInForce}
use Rattle.sd_graph.specs.PlainTree.{map_scope, ItemTrees}
use Rattle.sd_graph.specs.Wiring.{kind_uses, before}
use Rattle.sd_graph.specs.Context.{Context, private_memory}
use Rattle.sd_graph.specs.Unfold.{assigned, order_of_points, at_point, point_terms, unfold_kind, unfold_items}
use Rattle.sd_safe.specs.safe.Reached.{FindOnce, AreApartFor}
use Rattle.sd_safe.proofs.safe_lemmas.GraphSafe.{points-compatible}
use Rattle.sd_exchange.specs.reorder.SafePools.{HasSafePools}
use Rattle.sd_exchange.specs.reorder.Reordered.{Reordered}
use Rattle.sd_exchange.proofs.reorder_lemmas.Nearly.{same-memory}
use Rattle.sd_exchange.proofs.reorder_lemmas.Ends.{EndsAlike, EndAlike, end-on, ends-list, ends-owning, end-reordered}
use Rattle.sd_exchange.proofs.reorder_lemmas.Itself.{each-itself}
use Rattle.sd_exchange.proofs.reorder_lemmas.Alike.{order-back, safe-reordered}
use Rattle.sd_exchange.proofs.reorder_lemmas.Rows.{rows, turned, columns, rows-columns}
use Rattle.sd_exchange.proofs.reorder_lemmas.Distributing.{end-equal, end-equal-to}
use Rattle.sd_exchange.specs.maps.Interchange.{nest_of}
use Rattle.sd_exchange.specs.maps.AcceptedPools.{HasAcceptedPools}
use Rattle.sd_exchange.proofs.maps_lemmas.PoolsSafe.{kind-pools}
use Rattle.sd_exchange.proofs.ends_lemmas.Shown.{items-shown}
use Rattle.sd_exchange.proofs.ends_lemmas.Nesting.{values-past, cell, as-rows, rows-apart, rows-within, rows-pools, rows-alike}
use Rattle.sd_race.specs.cover.Fit.{IsFit}
use Rattle.sd_safe.proofs.safe_lemmas.Accepting.{AreMapHarmless}
use Rattle.sd_prop.specs.propagation.Accesses.{item_accesses, outside_accesses}
use Rattle.sd_range.specs.Variables.{with_variables}
use Rattle.sd_exchange.specs.ends.Points.{point_of, alone}

-- no parameter of either is one of the other's, and no range of either names one of the other's
pub record AreIndependent (first second : List Parameter) : Type 0 where
  pub others : AllByRecursion (λ (parameter : Parameter). IsOther second parameter.0) first
  pub first_ranges : AllByRecursion (λ (parameter : Parameter). RangeNamesOthers second parameter.1) first
  pub second_ranges : AllByRecursion (λ (parameter : Parameter). RangeNamesOthers first parameter.1) second

-- the cells do the same
cell-alike : (first second : List Parameter) (private : List ℕ) (body : ItemTrees) (context : Context) → ((p q : List ℤ) → with_variables (assigned second q) (with_variables (assigned first p) context.values) ≡ with_variables (assigned first p) (with_variables (assigned second q) context.values)) →
    (q p : List ℤ) → HasSafePools (cell first second private body context p q) → EndsAlike (cell first second private body context p q) (cell second first private body context q p)
cell-alike first second private body context past q p safe =
    let here = at_point (at_point context first [] p) second private q in
    let there = at_point (at_point context second [] q) first private p in
    let outer = private_memory context.containers [] in
    let inner = private_memory context.containers private in
    let same : EndAlike (unfold_items body here) (unfold_items body there) =
    subst (λ (values : List ℤ). EndAlike (unfold_items body here) (unfold_items body (record there { values = values }))) (past p q) (items-shown body here context.names there.shown context.around safe) in
    ends-owning outer outer _ _ (same-memory (λ k. ⊤) outer)
    (ends-owning inner inner _ _ (same-memory (λ k. ⊤) inner)
    (ends-list Items Items (before context.containers body) (before context.containers body) _ _ same))

-- rows of the first map are columns of the second
turned-order : (first_sequential second_sequential : Bool) (around first second : List Parameter) (private : List ℕ) (line : ℕ) (body : ItemTrees) (nodes : List ℕ) (context : Context) → AreIndependent first second → IsFit (nest_of first_sequential second_sequential first second private line body) around → AreInForce context.values around →
    FindOnce context.reach → AreApartFor context.reach (kind_uses (nest_of first_sequential second_sequential first second private line body) context.containers) →
    AreMapHarmless around first (outside_accesses [] (item_accesses (alone line (map_scope second_sequential second private body)) context.containers nodes)) →
    (let ps = points (ranges_of first) context.values in let qs = points (ranges_of second) context.values in
    Reordered (rows (cell first second private body context) ps qs none) (columns (cell first second private body context) ps qs none))
turned-order first_sequential second_sequential around first second private line body nodes context free valid in_force once apart accepted =
    let ps = points (ranges_of first) context.values in
    let qs = points (ranges_of second) context.values in
    let outer = point_of first [] (alone line (map_scope second_sequential second private body)) context in
    rows-columns (cell first second private body context) (λ p. Touches (outer p)) ps qs none
    (rows-apart outer ps (λ i j less. points-compatible around first [] (alone line (map_scope second_sequential second private body)) nodes context valid.0 valid.1 in_force once apart accepted i j less))
    (rows-within second_sequential first second private body line context free.second_ranges ps)

-- the nest ends alike when it is turned
pub interchange-ends : (first_sequential second_sequential : Bool) (around first second : List Parameter) (private : List ℕ) (line other place there : ℕ) (body : ItemTrees) (nodes : List ℕ) (context : Context) → AreIndependent first second → IsFit (nest_of first_sequential second_sequential first second private line body) around → AreInForce context.values around →
    FindOnce context.reach → AreApartFor context.reach (kind_uses (nest_of first_sequential second_sequential first second private line body) context.containers) →
    AreMapHarmless around first (outside_accesses [] (item_accesses (alone line (map_scope second_sequential second private body)) context.containers nodes)) →
    HasAcceptedPools (nest_of first_sequential second_sequential first second private line body) context.containers →
    EndsAlike (unfold_kind (nest_of first_sequential second_sequential first second private line body) place context) (unfold_kind (nest_of second_sequential first_sequential second first private other body) there context)
interchange-ends first_sequential second_sequential around first second private line other place there body nodes context free valid in_force once apart accepted pools =
    let ps = points (ranges_of first) context.values in
    let qs = points (ranges_of second) context.values in
    let f = cell first second private body context in
    let g = cell second first private body context in
    let old = point_terms (point_of first [] (alone line (map_scope second_sequential second private body)) context) ps in
    let new = point_terms (point_of second [] (alone other (map_scope first_sequential first private body)) context) qs in
    let order = turned-order first_sequential second_sequential around first second private line body nodes context free valid in_force once apart accepted in
    let safe = rows-pools second_sequential first second private body line context free.second_ranges ps (kind-pools (nest_of first_sequential second_sequential first second private line body) around place context valid in_force once apart pools) in
    let turn = end-reordered (rows f ps qs none) (columns f ps qs none) order (each-itself (rows f ps qs none) safe) in
    let cells = rows-alike (turned f) g qs ps (λ q p h. cell-alike first second private body context (λ p q. values-past first second p q context.values free.others) q p h) (safe-reordered (rows f ps qs none) (columns f ps qs none) order safe) in
    ends-list Points Points (order_of_points first_sequential) (order_of_points second_sequential) old new
    (end-equal old (rows f ps qs none) new (λ most n s. as-rows second_sequential first second private body line context free.second_ranges ps most n s)
    (end-on (rows f ps qs none) (columns f ps qs none) new turn
    (end-equal-to (columns f ps qs none) (rows g qs ps none) new (λ most n s. sym (as-rows first_sequential second first private body other context free.first_ranges qs most n s)) cells)))

-- and the turned one as the nest, where it is valid
pub interchange-back : (first_sequential second_sequential : Bool) (around first second : List Parameter) (private : List ℕ) (line other place there : ℕ) (body : ItemTrees) (nodes : List ℕ) (context : Context) → AreIndependent first second → IsFit (nest_of first_sequential second_sequential first second private line body) around → AreInForce context.values around →
    FindOnce context.reach → AreApartFor context.reach (kind_uses (nest_of first_sequential second_sequential first second private line body) context.containers) →
    AreMapHarmless around first (outside_accesses [] (item_accesses (alone line (map_scope second_sequential second private body)) context.containers nodes)) →
    HasAcceptedPools (nest_of first_sequential second_sequential first second private line body) context.containers → IsFit (nest_of second_sequential first_sequential second first private other body) around →
    EndsAlike (unfold_kind (nest_of second_sequential first_sequential second first private other body) there context) (unfold_kind (nest_of first_sequential second_sequential first second private line body) place context)
interchange-back first_sequential second_sequential around first second private line other place there body nodes context free valid in_force once apart accepted pools valid' =
    let ps = points (ranges_of first) context.values in
    let qs = points (ranges_of second) context.values in
    let f = cell first second private body context in
    let g = cell second first private body context in
    let old = point_terms (point_of first [] (alone line (map_scope second_sequential second private body)) context) ps in
    let new = point_terms (point_of second [] (alone other (map_scope first_sequential first private body)) context) qs in
    let order = turned-order first_sequential second_sequential around first second private line body nodes context free valid in_force once apart accepted in
    let safe = rows-pools first_sequential second first private body other context free.first_ranges qs (kind-pools (nest_of second_sequential first_sequential second first private other body) around there context valid' in_force once apart pools) in
    let cells = rows-alike g (turned f) qs ps (λ q p h. cell-alike second first private body context (λ q p. sym (values-past first second p q context.values free.others)) p q h) safe in
    let before_turn = rows-pools second_sequential first second private body line context free.second_ranges ps (kind-pools (nest_of first_sequential second_sequential first second private line body) around place context valid in_force once apart pools) in
    ends-list Points Points (order_of_points second_sequential) (order_of_points first_sequential) new old
    (end-equal new (rows g qs ps none) old (λ most n s. as-rows first_sequential second first private body other context free.first_ranges qs most n s)
    (end-equal-to (rows g qs ps none) (rows f ps qs none) old (λ most n s. sym (as-rows second_sequential first second private body line context free.second_ranges ps most n s))
    (end-on (rows g qs ps none) (columns f ps qs none) (rows f ps qs none) cells
    (end-reordered (columns f ps qs none) (rows f ps qs none) (order-back (rows f ps qs none) (columns f ps qs none) order) (each-itself (columns f ps qs none) (safe-reordered (rows f ps qs none) (columns f ps qs none) order before_turn))))))
