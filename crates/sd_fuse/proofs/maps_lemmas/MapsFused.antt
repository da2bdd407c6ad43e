-- Two maps over the same points, one behind the other, end as one map with both bodies.
use Rattle.std.specs.List.{Contains}
use Rattle.std.proofs.lemmas.List.{append_assoc}
use Rattle.std.proofs.Common.{◌≡◌, ℕ, ℤ, List, [], ◌∷◌, ◌++◌, Bool, true, false, not, ◌||◌, refl, sym, ◌∙◌, ap, subst}
use Rattle.sd_range.specs.Points.{points, ranges_of}
use Rattle.sd_work.specs.Residual.{Points, Term, Terms, list, also}
use Rattle.sd_subset.specs.boxes.Box.{Parameter}
use Rattle.sd_subset.specs.boxes.InForce.{AreInForce}
use Rattle.sd_graph.specs.declared.place.Place.{Place}
use Rattle.sd_graph.specs.PlainTree.{ItemTrees, no_item, and_item, map_scope}
use Rattle.sd_graph.specs.Wiring.{Use, has_number, outside, kind_uses, item_uses}
use Rattle.sd_graph.specs.Context.{Context}
use Rattle.sd_graph.specs.Unfold.{at_point, in_any_order, order_of_points, point_terms, unfold_kind, unfold_items}
use Rattle.sd_safe.specs.safe.Reached.{FindOnce, AreApartFor, MayStand}
use Rattle.sd_exchange.specs.reorder.SafePools.{HasSafePools, HaveSafePools}
use Rattle.sd_exchange.proofs.reorder_lemmas.Ends.{EndAlike, end-on, end-also, ends-list}
use Rattle.sd_exchange.proofs.reorder_lemmas.Itself.{end-themselves}
use Rattle.sd_alike.specs.alike.Places.{items_then}
use Rattle.sd_exchange.specs.maps.AcceptedPools.{HasAcceptedPools}
use Rattle.sd_fuse.specs.maps.Cross.{CrossHarmlessly}
use Rattle.sd_fuse.specs.maps.Fused.{Fused, fused}
use Rattle.sd_exchange.proofs.maps_lemmas.PoolsSafe.{apart-left, apart-right, point_terms-pools, kind-pools, items-pools}
use Rattle.sd_fuse.proofs.ends_lemmas.Merging.{has-both}
use Rattle.sd_race.proofs.cover_lemmas.Among.{among-filter, among-filtered}
use Rattle.sd_race.proofs.cover_lemmas.Covered.{in_force-at}
use Rattle.sd_safe.proofs.safe_lemmas.Distinct.{inside-once, inside-apart}
use Rattle.sd_exchange.proofs.maps_lemmas.Congruent.{IsSound}
use Rattle.sd_exchange.proofs.ends_lemmas.Shown.{points-alike}
use Rattle.sd_fuse.proofs.maps_lemmas.PointByPoint.{maps-point-by-point}
use Rattle.sd_fuse.proofs.ends_lemmas.Fusing.{fused-point, fused-back, split-pools}
use Rattle.sd_race.specs.cover.Fit.{IsFit}
use Rattle.sd_prop.specs.propagation.Accesses.{item_accesses, outside_accesses}
use Rattle.sd_fuse.specs.ends.Avoids.{ArePrivate}
use Rattle.sd_exchange.specs.ends.Points.{point_of, pair_of}

pair-pools : (inside : ℕ → ℕ → Bool) (f g : List ℤ → Term Place) (all : List (List ℤ)) → HaveSafePools (point_terms f all) → HaveSafePools (point_terms g all) → HaveSafePools (point_terms (pair_of inside f g) all)
pair-pools inside f g [] h k = tt
pair-pools inside f g (a ∷ all) h k = ((h.0, (k.0, tt)), pair-pools inside f g all h.1 k.1)

-- ---- the pools of the one map

fewer-first : (own others : List ℕ) (uses : List Use) (u : Use) → Contains (outside (own ++ others) uses) u → Contains (outside own uses) u
fewer-first own others uses u member =
    let r = among-filtered (λ (x : Use). not (has_number (own ++ others) x.container)) uses u member in
    among-filter (λ (x : Use). not (has_number own x.container)) uses u r.0 (go (has_number own u.container) (has_number others u.container) (has_number (own ++ others) u.container) (has-both own others u.container) r.1)
  where
    go : (a b both : Bool) → both ≡ (a || b) → not both ≡ true → not a ≡ true
    go true b both e f = let no : not true ≡ true = sym (ap not e) ∙ f in cc
    go false b both e f = refl

fewer-second : (own others : List ℕ) (uses : List Use) (u : Use) → Contains (outside (own ++ others) uses) u → Contains (outside others uses) u
fewer-second own others uses u member =
    let r = among-filtered (λ (x : Use). not (has_number (own ++ others) x.container)) uses u member in
    among-filter (λ (x : Use). not (has_number others x.container)) uses u r.0 (go (has_number own u.container) (has_number others u.container) (has_number (own ++ others) u.container) (has-both own others u.container) r.1)
  where
    go : (a b both : Bool) → both ≡ (a || b) → not both ≡ true → not b ≡ true
    go true b both e f = let no : not true ≡ true = sym (ap not e) ∙ f in cc
    go false b both e f = sym (ap not e) ∙ f

join-pools : (items others : ItemTrees) (context : Context) → HaveSafePools (unfold_items items context) → HaveSafePools (unfold_items others context) → HaveSafePools (unfold_items (items_then items others) context)
join-pools no_item others context h k = k
join-pools (and_item line kind items) others context h k = (h.0, join-pools items others context h.1 k)

fused-pools : (first_sequential second_sequential : Bool) (params : List Parameter) (private own : List ℕ) (body other : ItemTrees) (around : List Parameter) (line : ℕ) (context : Context) →
    IsFit (map_scope first_sequential params private body) around → IsFit (map_scope second_sequential params own other) around → AreInForce context.values around → FindOnce context.reach →
    AreApartFor context.reach (kind_uses (map_scope first_sequential params private body) context.containers) → AreApartFor context.reach (kind_uses (map_scope second_sequential params own other) context.containers) →
    HasAcceptedPools (map_scope first_sequential params private body) context.containers → HasAcceptedPools (map_scope second_sequential params own other) context.containers →
    HasSafePools (unfold_kind (map_scope (first_sequential || second_sequential) params (private ++ own) (items_then body other)) line context)
fused-pools first_sequential second_sequential params private own body other around line context valid valid' in_force once apart apart' pools pools' =
    point_terms-pools (point_of params (private ++ own) (items_then body other) context) (points (ranges_of params) context.values)
    (λ point member.
    let both = private ++ own in
    let there = at_point context params both point in
    let in_force' = in_force-at around params context.values point valid.0 in_force member in
    let once' = inside-once both context.containers context.reach once in
    join-pools body other there
    (items-pools body (around ++ params) there valid.1 in_force' once'
    (inside-apart both context.containers context.reach (item_uses body context.containers) (λ u w m m'. apart u w (fewer-first private own (item_uses body context.containers) u m) (fewer-first private own (item_uses body context.containers) w m'))) pools)
    (items-pools other (around ++ params) there valid'.1 in_force' once'
    (inside-apart both context.containers context.reach (item_uses other context.containers) (λ u w m m'. apart' u w (fewer-second private own (item_uses other context.containers) u m) (fewer-second private own (item_uses other context.containers) w m'))) pools'))

pub maps-fused : (first_sequential second_sequential : Bool) (params : List Parameter) (private own : List ℕ) (body other : ItemTrees) (nodes others : List ℕ) (around : List Parameter) (line there : ℕ) (context : Context) (rest : Terms Place) →
    IsFit (map_scope first_sequential params private body) around → IsFit (map_scope second_sequential params own other) around →
    MayStand context around (kind_uses (map_scope first_sequential params private body) context.containers ++ kind_uses (map_scope second_sequential params own other) context.containers) →
    HasAcceptedPools (map_scope first_sequential params private body) context.containers → HasAcceptedPools (map_scope second_sequential params own other) context.containers → HaveSafePools rest →
    CrossHarmlessly around params (outside_accesses private (item_accesses body context.containers nodes)) (outside_accesses own (item_accesses other context.containers others)) → ArePrivate private own body other →
    HasSafePools (unfold_kind (map_scope (first_sequential || second_sequential) params (private ++ own) (items_then body other)) line context) →
    (let two = also (unfold_kind (map_scope first_sequential params private body) line context) (also (unfold_kind (map_scope second_sequential params own other) there context) rest) in
    let one = also (unfold_kind (map_scope (first_sequential || second_sequential) params (private ++ own) (items_then body other)) line context) rest in EndAlike two one × EndAlike one two)
maps-fused first_sequential second_sequential params private own body other nodes others around line there context rest valid valid' held pools pools' safe cross are fused_safe =
    let f = point_of params private body context in
    let g = point_of params own other context in
    let h = point_of params (private ++ own) (items_then body other) context in
    let all = points (ranges_of params) context.values in
    let uses = kind_uses (map_scope first_sequential params private body) context.containers in
    let uses' = kind_uses (map_scope second_sequential params own other) context.containers in
    let two = also (unfold_kind (map_scope first_sequential params private body) line context) (also (unfold_kind (map_scope second_sequential params own other) there context) rest) in
    let pairs = also (list Points in_any_order (point_terms (pair_of in_any_order f g) all)) rest in
    let order = order_of_points (first_sequential || second_sequential) in
    let one = also (list Points order (point_terms h all)) rest in
    let both = maps-point-by-point first_sequential second_sequential params private own body other nodes others around line there context in_any_order rest valid valid' held pools pools' safe cross in
    let first = kind-pools (map_scope first_sequential params private body) around line context valid held.in_force held.once (apart-left context.reach uses uses' held.apart) pools in
    let second = kind-pools (map_scope second_sequential params own other) around there context valid' held.in_force held.once (apart-right context.reach uses uses' held.apart) pools' in
    let on : EndAlike pairs one =
    end-also (list Points in_any_order (point_terms (pair_of in_any_order f g) all)) (list Points order (point_terms h all)) rest rest
    (ends-list Points Points in_any_order order (point_terms (pair_of in_any_order f g) all) (point_terms h all)
    (points-alike (pair_of in_any_order f g) h all (λ point s. fused-point params private own body other context in_any_order point are s.0 s.1.0) (pair-pools in_any_order f g all first second)))
    (end-themselves rest safe) in
    let back : EndAlike one pairs =
    end-also (list Points order (point_terms h all)) (list Points in_any_order (point_terms (pair_of in_any_order f g) all)) rest rest
    (ends-list Points Points order in_any_order (point_terms h all) (point_terms (pair_of in_any_order f g) all)
    (points-alike h (pair_of in_any_order f g) all (λ point s. (let parts = split-pools body other (at_point context params (private ++ own) point) s in fused-back params private own body other context in_any_order point are parts.0 parts.1)) fused_safe))
    (end-themselves rest safe) in
    (end-on two pairs one both.0 on, end-on one pairs two back both.1)

-- wherever they stand
pub fuse-sound : IsSound Fused
fuse-sound containers around items new (fused first_sequential second_sequential c a params private own nodes others line there body other rest cross are) context same stand =
    let P = map_scope first_sequential params private body in
    let Q = map_scope second_sequential params own other in
    let cs = context.containers in
    let uses = kind_uses P cs in
    let uses' = kind_uses Q cs in
    let after = item_uses rest cs in
    let apart = apart-left context.reach uses (uses' ++ after) stand.apart in
    let behind = apart-right context.reach uses (uses' ++ after) stand.apart in
    let apart' = apart-left context.reach uses' after behind in
    let held : AreApartFor context.reach (uses ++ uses') = apart-left context.reach (uses ++ uses') after (subst (AreApartFor context.reach) (sym (append_assoc uses uses' after)) stand.apart) in
    (maps-fused first_sequential second_sequential params private own body other nodes others a line there context (unfold_items rest context) stand.valid.0 stand.valid.1.0 (record { in_force = stand.in_force; once = stand.once; apart = held }) stand.pools.0 stand.pools.1.0
    (items-pools rest a context stand.valid.1.1 stand.in_force stand.once (apart-right context.reach uses' after behind) stand.pools.1.1)
    (subst (λ k. CrossHarmlessly a params (outside_accesses private (item_accesses body k nodes)) (outside_accesses own (item_accesses other k others))) (sym same) cross) are
    (fused-pools first_sequential second_sequential params private own body other a line context stand.valid.0 stand.valid.1.0 stand.in_force stand.once apart apart' stand.pools.0 stand.pools.1.0)).0
