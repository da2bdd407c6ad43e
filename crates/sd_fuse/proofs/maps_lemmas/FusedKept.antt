-- What fusing two maps keeps.
use Rattle.std.specs.List.{AllByRecursion}
use Rattle.std.proofs.lemmas.List.{append_assoc}
use Rattle.std.proofs.Common.{◌≡◌, suc, ℕ, List, [], ◌∷◌, ◌++◌, map, Option, Some, None, Bool, true, false, cond, not, ◌||◌, refl, sym, ◌∙◌, ap, subst}
use Rattle.sd_subset.specs.boxes.Box.{Parameter}
use Rattle.sd_graph.specs.declared.link.Link.{Link}
use Rattle.sd_graph.specs.ContainerParts.{Containers}
use Rattle.sd_graph.specs.Mode.{Mode, Read, joined_mode}
use Rattle.sd_graph.specs.Wiring.{Use, has_number, outside, use_of, output_use, link_uses, nested_uses, modes_on, graph_uses, kind_uses, item_uses}
use Rattle.sd_graph.specs.PlainTree.{KindTree, task, map_scope, consume_scope, nested_graph, reduction, copy, ItemTrees, no_item, and_item}
use Rattle.sd_alike.specs.alike.Places.{items_then}
use Rattle.sd_fuse.specs.ends.Avoids.{LinkAvoids, KindAvoids, ItemsAvoid, ArePrivate}
use Rattle.sd_fuse.specs.maps.Fused.{Fused, fused, FusedBack, apart_again}
use Rattle.sd_graph.specs.Unfold.{unfold_items}
use Rattle.sd_safe.specs.safe.Reached.{AreApartFor}
use Rattle.sd_fuse.specs.maps.Cross.{CrossHarmlessly}
use Rattle.sd_exchange.proofs.maps_lemmas.PoolsSafe.{apart-left, apart-right, kind-pools, items-pools}
use Rattle.sd_exchange.proofs.maps_lemmas.Congruent.{IsSound}
use Rattle.sd_exchange.proofs.maps_lemmas.Keeping.{Keeps}
use Rattle.sd_exchange.proofs.tiles_lemmas.Shuffling.{same-shuffled, shuffled-back}
use Rattle.sd_exchange.proofs.maps_lemmas.StaysValid.{LeavesValid}
use Rattle.sd_fuse.proofs.maps_lemmas.MapsFused.{maps-fused}
use Rattle.sd_fuse.proofs.ends_lemmas.Merging.{has-both}
use Rattle.sd_prop.specs.propagation.Accesses.{item_accesses, outside_accesses}
use Rattle.sd_fuse.proofs.maps_lemmas.Joined.{then-uses, then-fit, fit-then, then-accepted, accepted-then}

-- none of these uses is of one of these containers
abbrev pub UsesAvoid : (own : List ℕ) → List Use → Type 0
UsesAvoid own uses = AllByRecursion (λ (u : Use). has_number own u.container ≡ false) uses

avoid-both : (own : List ℕ) (first others : List Use) → UsesAvoid own first → UsesAvoid own others → UsesAvoid own (first ++ others)
avoid-both own [] others h g = g
avoid-both own (u ∷ first) others h g = (h.0, avoid-both own first others h.1 g)

avoid-outside : (own private : List ℕ) (uses : List Use) → UsesAvoid own uses → UsesAvoid own (outside private uses)
avoid-outside own private [] h = tt
avoid-outside own private (u ∷ uses) h = go (not (has_number private u.container)) (avoid-outside own private uses h.1)
  where
    go : (b : Bool) → UsesAvoid own (outside private uses) → UsesAvoid own (cond b (u ∷ outside private uses) (outside private uses))
    go true k = (h.0, k)
    go false k = k

avoid-reads : (own : List ℕ) (links : List Link) → AllByRecursion (LinkAvoids own) links → UsesAvoid own (map (use_of Read) links)
avoid-reads own [] h = tt
avoid-reads own (link ∷ links) h = (h.0, avoid-reads own links h.1)

avoid-outputs : (own : List ℕ) (containers : Containers) (links : List Link) → AllByRecursion (LinkAvoids own) links → UsesAvoid own (map (output_use containers) links)
avoid-outputs own containers [] h = tt
avoid-outputs own containers (link ∷ links) h = (h.0, avoid-outputs own containers links h.1)

avoid-nested : (own : List ℕ) (inner : List Use) (number : ℕ) (links : List Link) → AllByRecursion (LinkAvoids own) links → UsesAvoid own (nested_uses inner number links)
avoid-nested own inner number [] h = tt
avoid-nested own inner number (link ∷ links) h = avoid-both own (link_uses link (joined_mode (modes_on number inner))) (nested_uses inner (suc number) links) (go (joined_mode (modes_on number inner))) (avoid-nested own inner (suc number) links h.1)
  where
    go : (m : Option Mode) → UsesAvoid own (link_uses link m)
    go None = tt
    go (Some mode) = (h.0, tt)

mutual
  kind-avoids : (own : List ℕ) (kind : KindTree) (containers : Containers) → KindAvoids own kind → UsesAvoid own (kind_uses kind containers)
  kind-avoids own (task code ins outs) containers h = avoid-both own (map (use_of Read) ins) (map (output_use containers) outs) (avoid-reads own ins h.0) (avoid-outputs own containers outs h.1)
  kind-avoids own (map_scope sequential params private body) containers h = avoid-outside own private (item_uses body containers) (items-avoid own body containers h)
  kind-avoids own (consume_scope source element private body) containers h = (h.0, avoid-outside own (element ∷ private) (item_uses body containers) (items-avoid own body containers h.1))
  kind-avoids own (nested_graph inner links) containers h = avoid-nested own (graph_uses inner) 0 links h
  kind-avoids own (reduction resolution axis identity from to) containers h = (h.0, (h.1, tt))
  kind-avoids own (copy from to) containers h = (h.0, (h.1, tt))

  items-avoid : (own : List ℕ) (items : ItemTrees) (containers : Containers) → ItemsAvoid own items → UsesAvoid own (item_uses items containers)
  items-avoid own no_item containers h = tt
  items-avoid own (and_item line kind items) containers h = avoid-both own (kind_uses kind containers) (item_uses items containers) (kind-avoids own kind containers h.0) (items-avoid own items containers h.1)

-- ---- uses outside of both

outside-first : (private own : List ℕ) (uses : List Use) → UsesAvoid own uses → outside (private ++ own) uses ≡ outside private uses
outside-first private own [] h = refl
outside-first private own (u ∷ uses) h =
    let same : has_number (private ++ own) u.container ≡ has_number private u.container = has-both private own u.container ∙ go (has_number private u.container) (has_number own u.container) h.0 in
    λ i. cond (not (same i)) (u ∷ outside-first private own uses h.1 i) (outside-first private own uses h.1 i)
  where
    go : (a b : Bool) → b ≡ false → (a || b) ≡ a
    go true b e = refl
    go false b e = e

outside-second : (private own : List ℕ) (uses : List Use) → UsesAvoid private uses → outside (private ++ own) uses ≡ outside own uses
outside-second private own [] h = refl
outside-second private own (u ∷ uses) h =
    let same : has_number (private ++ own) u.container ≡ has_number own u.container = has-both private own u.container ∙ go (has_number private u.container) (has_number own u.container) h.0 in
    λ i. cond (not (same i)) (u ∷ outside-second private own uses h.1 i) (outside-second private own uses h.1 i)
  where
    go : (a b : Bool) → a ≡ false → (a || b) ≡ b
    go true b e = cc
    go false b e = refl

outside-append : (own : List ℕ) (first others : List Use) → outside own (first ++ others) ≡ outside own first ++ outside own others
outside-append own [] others = refl
outside-append own (u ∷ first) others = ap (λ rest. cond (not (has_number own u.container)) (u ∷ rest) rest) (outside-append own first others) ∙ go (not (has_number own u.container))
  where
    go : (b : Bool) → cond b (u ∷ (outside own first ++ outside own others)) (outside own first ++ outside own others) ≡ cond b (u ∷ outside own first) (outside own first) ++ outside own others
    go true = refl
    go false = refl

-- the fused map uses what the two maps do
pub fused-uses : (first_sequential second_sequential : Bool) (params : List Parameter) (private own : List ℕ) (body other : ItemTrees) (containers : Containers) → ArePrivate private own body other →
    kind_uses (map_scope (first_sequential || second_sequential) params (private ++ own) (items_then body other)) containers ≡ kind_uses (map_scope first_sequential params private body) containers ++ kind_uses (map_scope second_sequential params own other) containers
fused-uses first_sequential second_sequential params private own body other containers are =
    ap (outside (private ++ own)) (then-uses body other containers) ∙ outside-append (private ++ own) (item_uses body containers) (item_uses other containers)
    ∙ (λ i. outside-first private own (item_uses body containers) (items-avoid own body containers are.first) i ++ outside-second private own (item_uses other containers) (items-avoid private other containers are.second) i)

-- ---- what is kept

pub fuse-keeps : Keeps Fused
fuse-keeps containers around items others (fused first_sequential second_sequential c a params private own nodes more line there body other rest cross are) =
    let P = map_scope first_sequential params private body in
    let Q = map_scope second_sequential params own other in
    record {
      uses = same-shuffled _ _ (sym (append_assoc (kind_uses P c) (kind_uses Q c) (item_uses rest c)) ∙ ap (λ uses. uses ++ item_uses rest c) (sym (fused-uses first_sequential second_sequential params private own body other c are)));
      pools = λ p. (then-accepted body other c p.0 p.1.0, p.1.1);
    }

pub fuse-leaves_valid : LeavesValid Fused
fuse-leaves_valid containers around items others (fused first_sequential second_sequential c a params private own nodes more line there body other rest cross are) v = ((v.0.0, then-fit body other (a ++ params) v.0.1 v.1.0.1), v.1.1)

pub fuse-back-sound : IsSound FusedBack
fuse-back-sound containers around items others (apart_again c a new old (fused first_sequential second_sequential c' a' params private own nodes more line there body other rest cross are)) context same stand =
    let P = map_scope first_sequential params private body in
    let Q = map_scope second_sequential params own other in
    let F = map_scope (first_sequential || second_sequential) params (private ++ own) (items_then body other) in
    let cs = context.containers in
    let after = item_uses rest cs in
    let valid = fit-then body other (a' ++ params) stand.valid.0.1 in
    let pools = accepted-then body other cs stand.pools.0 in
    let held : AreApartFor context.reach (kind_uses P cs ++ kind_uses Q cs) = subst (AreApartFor context.reach) (fused-uses first_sequential second_sequential params private own body other cs are) (apart-left context.reach (kind_uses F cs) after stand.apart) in
    (maps-fused first_sequential second_sequential params private own body other nodes more a' line there context (unfold_items rest context) (stand.valid.0.0, valid.0) (stand.valid.0.0, valid.1) (record { in_force = stand.in_force; once = stand.once; apart = held }) pools.0 pools.1
    (items-pools rest a' context stand.valid.1 stand.in_force stand.once (apart-right context.reach (kind_uses F cs) after stand.apart) stand.pools.1)
    (subst (λ k. CrossHarmlessly a' params (outside_accesses private (item_accesses body k nodes)) (outside_accesses own (item_accesses other k more))) (sym same) cross) are
    (kind-pools F a' line context stand.valid.0 stand.in_force stand.once (apart-left context.reach (kind_uses F cs) after stand.apart) stand.pools.0)).1

pub fuse-back-keeps : Keeps FusedBack
fuse-back-keeps containers around items others (apart_again c a new old (fused first_sequential second_sequential c' a' params private own nodes more line there body other rest cross are)) =
    record {
      uses = shuffled-back _ _ (fuse-keeps c' a' old new (fused first_sequential second_sequential c' a' params private own nodes more line there body other rest cross are)).uses;
      pools = λ p. (let parts = accepted-then body other c' p.0 in (parts.0, (parts.1, p.1)));
    }

pub fuse-back-leaves_valid : LeavesValid FusedBack
fuse-back-leaves_valid containers around items others (apart_again c a new old (fused first_sequential second_sequential c' a' params private own nodes more line there body other rest cross are)) v =
    let parts = fit-then body other (a' ++ params) v.0.1 in ((v.0.0, parts.0), ((v.0.0, parts.1), v.1))
