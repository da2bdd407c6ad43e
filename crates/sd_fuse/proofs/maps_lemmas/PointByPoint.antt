-- Two maps over the same points, one behind the other, end as both point by point.
use Rattle.std.proofs.Common.{◌≡◌, ◌<◌, suc, ℕ, ℤ, List, [], ◌∷◌, ◌++◌, Bool, slice_index_or, sym, ◌∙◌, ap, arith}
use Rattle.std.proofs.lemmas.List.Elements.{Contains-append_left, Contains-append_right}
use Rattle.sd_range.specs.Points.{points, ranges_of}
use Rattle.sd_work.specs.Memory.{Memories}
use Rattle.sd_work.specs.Residual.{Points, Term, list, Terms, also, part_at}
use Rattle.sd_work.specs.BigStep.{and_then, big_step, big_parts}
use Rattle.sd_confluence.specs.Safe.{TouchCompatibly}
use Rattle.sd_subset.specs.boxes.Box.{Parameter}
use Rattle.sd_subset.specs.boxes.InForce.{AreFresh, AreInForce, IsNormalBox, IsPoint}
use Rattle.sd_subset.specs.boxes.InForce as box
use Rattle.sd_subset.proofs.boxes_lemmas.Disjoint.{of_member, harmless-none, harmless-one}
use Rattle.sd_graph.specs.declared.place.Place.{Place}
use Rattle.sd_graph.specs.PlainTree.{map_scope, ItemTrees}
use Rattle.sd_graph.specs.Wiring.{outside, item_uses, kind_uses}
use Rattle.sd_graph.specs.Context.{Context}
use Rattle.sd_graph.specs.Unfold.{in_any_order, order_of_points, point_terms, unfold_kind}
use Rattle.sd_safe.specs.safe.Reached.{FindOnce, AreApartFor, MayStand}
use Rattle.sd_race.proofs.cover_lemmas.UsesOf.{of_access, uses-items, uses-outside, normal-items, normal-outside}
use Rattle.sd_safe.proofs.safe_lemmas.Compatible.{separate-compatible}
use Rattle.sd_safe.proofs.safe_lemmas.Parts.{point_terms-at}
use Rattle.sd_safe.proofs.safe_lemmas.GraphSafe.{point-covered, two_points}
use Rattle.sd_exchange.specs.reorder.SafePools.{HaveSafePools}
use Rattle.sd_exchange.proofs.reorder_lemmas.Ends.{EndAlike, end-reordered}
use Rattle.sd_exchange.proofs.reorder_lemmas.Itself.{each-itself}
use Rattle.sd_exchange.proofs.reorder_lemmas.Alike.{order-back, safe-reordered}
use Rattle.sd_exchange.proofs.reorder_lemmas.Distributing.{end-equal, end-equal-to}
use Rattle.sd_exchange.specs.maps.AcceptedPools.{HasAcceptedPools}
use Rattle.sd_fuse.specs.maps.Cross.{CrossHarmlessly}
use Rattle.sd_exchange.proofs.maps_lemmas.PoolsSafe.{apart-left, apart-right, kind-pools}
use Rattle.sd_exchange.proofs.ends_lemmas.Permuting.{line, in_turn, PastOne, LaterPast, lines-in-turn, list-line, turn-pairs}
use Rattle.sd_race.specs.cover.Fit.{IsFit, AreFit}
use Rattle.sd_prop.specs.propagation.Accesses.{Access, item_accesses, outside_accesses}
use Rattle.sd_exchange.specs.ends.Points.{point_of, pair_of}

-- a later point of the first map and an earlier one of the second do not conflict
pub cross-compatible : (around params : List Parameter) (private own : List ℕ) (body other_body : ItemTrees) (nodes others : List ℕ) (context : Context) → AreFresh around params → AreFit body (around ++ params) → AreFit other_body (around ++ params) → AreInForce context.values around → FindOnce context.reach →
    AreApartFor context.reach (outside private (item_uses body context.containers) ++ outside own (item_uses other_body context.containers)) →
    CrossHarmlessly around params (outside_accesses private (item_accesses body context.containers nodes)) (outside_accesses own (item_accesses other_body context.containers others)) →
    (i j : ℕ) → i < j → TouchCompatibly (part_at (point_terms (point_of params private body context) (points (ranges_of params) context.values)) j) (part_at (point_terms (point_of params own other_body context) (points (ranges_of params) context.values)) i)
cross-compatible around params private own body other_body nodes others context fresh valid valid' in_force once apart cross i j less touch other is is' =
    let values = context.values in
    let all = points (ranges_of params) values in
    let accesses = outside_accesses private (item_accesses body context.containers nodes) in
    let more = outside_accesses own (item_accesses other_body context.containers others) in
    let uses = outside private (item_uses body context.containers) in
    let uses' = outside own (item_uses other_body context.containers) in
    let (below, at) = point_terms-at (point_of params private body context) all j touch [] is in
    let (below', at') = point_terms-at (point_of params own other_body context) all i other [] is' in
    let two = two_points around params values i j fresh less below in
    let early = slice_index_or all i [] in
    let late = slice_index_or all j [] in
    let (access, member, covers) = point-covered around params private body nodes context late touch fresh valid in_force two.there at in
    let (second, member', covers') = point-covered around params own other_body others context early other fresh valid' in_force two.here at' in
    let used = uses-outside private (item_uses body context.containers) (item_accesses body context.containers nodes) (uses-items body context.containers nodes) in
    let used' = uses-outside own (item_uses other_body context.containers) (item_accesses other_body context.containers others) (uses-items other_body context.containers others) in
    let normal = normal-outside private (item_accesses body context.containers nodes) (normal-items body context.containers nodes (around ++ params) valid) in
    let normal' = normal-outside own (item_accesses other_body context.containers others) (normal-items other_body context.containers others (around ++ params) valid') in
    separate-compatible context.reach (box.at_point params late values) (box.at_point params early values) access second touch other once
    (λ different conflict. apart (of_access access) (of_access second) (Contains-append_left uses uses' (of_access access) (used access member)) (Contains-append_right uses uses' (of_access second) (used' second member')) different conflict)
    (record {
      elements = λ index same conflict inside inside'.
          harmless-none around params access.box second.box values late early index fresh in_force
          (of_member (λ (a : Access). IsNormalBox a.box) accesses access normal member) (of_member (λ (a : Access). IsNormalBox a.box) more second normal' member')
          (cross access second member member' same conflict) two.there two.here (λ e. two.different (sym e)) inside inside';
      streams = λ same conflict none. harmless-one around params access.box second.box values late early fresh in_force (cross access second member member' same conflict) none two.there two.here (λ e. two.different (sym e));
    })
    covers covers'

past-first : (f g : List ℤ → Term Place) (a : List ℤ) (all : List (List ℤ)) → ((j : ℕ) → TouchCompatibly (part_at (point_terms f all) j) (g a)) → PastOne f g a all
past-first f g a [] h = tt
past-first f g a (b ∷ all) h = (h 0, past-first f g a all (λ j. h (suc j)))

later-past : (f g : List ℤ → Term Place) (all : List (List ℤ)) → ((i j : ℕ) → i < j → TouchCompatibly (part_at (point_terms f all) j) (part_at (point_terms g all) i)) → LaterPast f g all
later-past f g [] h = tt
later-past f g (a ∷ all) h = (past-first f g a all (λ j. h 0 (suc j) (omega arith)), later-past f g all (λ i j less. h (suc i) (suc j) (omega (arith, less))))

line-pools : (f : List ℤ → Term Place) (all : List (List ℤ)) (tail : Terms Place) → HaveSafePools (point_terms f all) → HaveSafePools tail → HaveSafePools (line f all tail)
line-pools f [] tail h g = g
line-pools f (a ∷ all) tail h g = (h.0, line-pools f all tail h.1 g)

-- the same tail behind a line
lines-after : (f : List ℤ → Term Place) (all : List (List ℤ)) (tail other : Terms Place) → ((most n : ℕ) (s : Memories) → big_parts tail most s n ≡ big_parts other most s n) → (most n : ℕ) (s : Memories) → big_parts (line f all tail) most s n ≡ big_parts (line f all other) most s n
lines-after f [] tail other h most n s = h most n s
lines-after f (a ∷ all) tail other h most n s = ap (and_then (big_step (f a) most s n)) (λ i s n. lines-after f all tail other h most n s i)

-- one map and then the other end as both point by point, each with its own owner
pub point-by-point : (first second : ℕ → ℕ → Bool) (f g : List ℤ → Term Place) (all : List (List ℤ)) (inside : ℕ → ℕ → Bool) (rest : Terms Place) → LaterPast f g all → HaveSafePools (point_terms f all) → HaveSafePools (point_terms g all) → HaveSafePools rest →
    EndAlike (also (list Points first (point_terms f all)) (also (list Points second (point_terms g all)) rest)) (also (list Points in_any_order (point_terms (pair_of inside f g) all)) rest)
    × EndAlike (also (list Points in_any_order (point_terms (pair_of inside f g) all)) rest) (also (list Points first (point_terms f all)) (also (list Points second (point_terms g all)) rest))
point-by-point first second f g all inside rest past safe safe' safe'' =
    let P = list Points first (point_terms f all) in
    let Q = list Points second (point_terms g all) in
    let both = also (list Points in_any_order (point_terms (pair_of inside f g) all)) rest in
    let lines = line f all (line g all rest) in
    let turns = in_turn f g all rest in
    let order = lines-in-turn f g all rest past in
    let pools : HaveSafePools lines = line-pools f all (line g all rest) safe (line-pools g all rest safe' safe'') in
    let equal : (most n : ℕ) (s : Memories) → big_parts (also P (also Q rest)) most s n ≡ big_parts lines most s n = λ most n s. list-line Points first f all (also Q rest) most n s ∙ lines-after f all (also Q rest) (line g all rest) (λ most n s. list-line Points second g all rest most n s) most n s in
    let other : (most n : ℕ) (s : Memories) → big_parts turns most s n ≡ big_parts both most s n = λ most n s. turn-pairs Points in_any_order inside f g all rest most n s in (
      end-equal (also P (also Q rest)) lines both equal (end-equal-to lines turns both other (end-reordered lines turns order (each-itself lines pools))),
      end-equal both turns (also P (also Q rest)) (λ most n s. sym (other most n s))
          (end-equal-to turns lines (also P (also Q rest)) (λ most n s. sym (equal most n s)) (end-reordered turns lines (order-back lines turns order) (each-itself turns (safe-reordered lines turns order pools)))),
    )

-- of two valid maps over the same points, whose bodies cross harmlessly
pub maps-point-by-point : (first_sequential second_sequential : Bool) (params : List Parameter) (private own : List ℕ) (body other_body : ItemTrees) (nodes others : List ℕ) (around : List Parameter) (line there : ℕ) (context : Context) (inside : ℕ → ℕ → Bool) (rest : Terms Place) →
    IsFit (map_scope first_sequential params private body) around → IsFit (map_scope second_sequential params own other_body) around →
    MayStand context around (kind_uses (map_scope first_sequential params private body) context.containers ++ kind_uses (map_scope second_sequential params own other_body) context.containers) →
    HasAcceptedPools (map_scope first_sequential params private body) context.containers → HasAcceptedPools (map_scope second_sequential params own other_body) context.containers → HaveSafePools rest →
    CrossHarmlessly around params (outside_accesses private (item_accesses body context.containers nodes)) (outside_accesses own (item_accesses other_body context.containers others)) →
    (let apart_maps = also (unfold_kind (map_scope first_sequential params private body) line context) (also (unfold_kind (map_scope second_sequential params own other_body) there context) rest) in
    let one_map = also (list Points in_any_order (point_terms (pair_of inside (point_of params private body context) (point_of params own other_body context)) (points (ranges_of params) context.values))) rest in
    EndAlike apart_maps one_map × EndAlike one_map apart_maps)
maps-point-by-point first_sequential second_sequential params private own body other_body nodes others around line there context inside rest valid valid' held pools pools' safe cross =
    let f = point_of params private body context in
    let g = point_of params own other_body context in
    let all = points (ranges_of params) context.values in
    let uses = kind_uses (map_scope first_sequential params private body) context.containers in
    let uses' = kind_uses (map_scope second_sequential params own other_body) context.containers in
    point-by-point (order_of_points first_sequential) (order_of_points second_sequential) f g all inside rest
    (later-past f g all (cross-compatible around params private own body other_body nodes others context valid.0 valid.1 valid'.1 held.in_force held.once held.apart cross))
    (kind-pools (map_scope first_sequential params private body) around line context valid held.in_force held.once (apart-left context.reach uses uses' held.apart) pools)
    (kind-pools (map_scope second_sequential params own other_body) around there context valid' held.in_force held.once (apart-right context.reach uses uses' held.apart) pools')
    safe
