-- Where two maps of a valid graph stand, what MapFusion asks of names and of private containers holds of them.
use Rattle.std.specs.List.{AllByRecursion, Contains, list_all}
use Rattle.std.proofs.Common.{◌≡◌, inl, inr, suc, ℕ, List, [], ◌∷◌, ◌++◌, Bool, true, None, refl, sym, ap, subst}
use Rattle.std.proofs.lemmas.Bool.{cases_Bool}
use Rattle.std.proofs.lemmas.List.Elements.{Contains-append_left, Contains-append_right, Contains-append_cases}
use Rattle.sd_range.proofs.Members.{Contains-first}
use Rattle.sd_subset.specs.boxes.Box.{Parameter}
use Rattle.sd_graph.specs.ContainerParts.{Containers}
use Rattle.sd_graph.specs.TreeParts.{containers_of}
use Rattle.sd_graph.specs.PlainTree.{KindTree, task, map_scope, consume_scope, nested_graph, reduction, copy, ItemTrees, no_item, and_item}
use Rattle.sd_graph.specs.Wiring.{has_number}
use Rattle.sd_graph.specs.InForce.{AreItemsInForce}
use Rattle.sd_alike.specs.alike.Places.{items_then}
use Rattle.sd_validity.specs.rules.GraphParts.{symbols_in}
use Rattle.sd_validity.specs.rules.Places.{Thing, Place, Scopes, in_map, param_numbers, item_place, places_in, item_places}
use Rattle.sd_validity.specs.rules.Failing.{failing}
use Rattle.sd_validity.specs.rules.NamesInForce.{held_at, params_at, is_no_symbol, rule_1}
use Rattle.sd_race.specs.cover.Fit.{AreFit}
use Rattle.sd_safe.proofs.fit_lemmas.Members.{each-parts, found-member}
use Rattle.sd_safe.proofs.fit_lemmas.Single.{AreOnce, first-holds}
use Rattle.sd_safe.proofs.fit_lemmas.Right.{IsRightPlace}
use Rattle.sd_fuse.specs.maps.MapRenamed.{names_for}
use Rattle.sd_fuse.specs.maps.FusionRewrite.{items_before, items_from, CanFuseWith, CanFuse}
use Rattle.sd_fuse.specs.maps.FusionAsked.{FusionAskedOf, FusionAskedWith, FusionAsked}
use Rattle.sd_fuse.proofs.valid_lemmas.Once.{in_kind, in_items, held-ruled, params-ruled, IsSingle, once-parts, items-single}
use Rattle.sd_fuse.proofs.valid_lemmas.Named.{IsStrange, items-strange}
use Rattle.sd_fuse.proofs.valid_lemmas.Kept.{items-avoid, items-still}
use Rattle.sd_fuse.proofs.valid_lemmas.Spared.{is-other, symbol-other, no-name, items-spare}
use Rattle.sd_fuse.proofs.valid_lemmas.Behind.{then-in, fit-behind, force-behind, right-behind, HoldPrivate, private-behind, symbols-apart, hold-private, private-kinds}
use Rattle.sd_fuse.proofs.maps_lemmas.FusionRewritten.{parts-again}

-- ---- what is known where a list stands

abbrev pub KnownAt : (Thing → List ℕ) → (before : List Place) → (path : List ℕ) → List ℕ → Type 0
KnownAt numbers before path vs = (v : ℕ) → Contains vs v → (other : Place) × Contains before other × (other.graph_path ≡ path) × Contains (numbers other.thing) v

pub record Here (around : Place) (scopes : Scopes) (number : ℕ) (before : List Place) (items : ItemTrees) : Type 0 where
  pub none : failing rule_1 before (item_places items around scopes number) ≡ None
  pub right : AllByRecursion IsRightPlace (item_places items around scopes number)
  pub held : KnownAt held_at before around.graph_path scopes.private
  pub force : AreItemsInForce items (containers_of around.graph) scopes.private

pub known-more : (numbers : Thing → List ℕ) (before more : List Place) (path vs : List ℕ) → KnownAt numbers before path vs → KnownAt numbers (before ++ more) path vs
known-more numbers before more path vs known v member = let (other, among, same, is) = known v member in (other, Contains-append_left before more other among, same, is)

pub known-own : (numbers : Thing → List ℕ) (before : List Place) (place : Place) (own vs : List ℕ) → numbers place.thing ≡ own → KnownAt numbers before place.graph_path vs → KnownAt numbers (before ++ place ∷ []) place.graph_path (own ++ vs)
known-own numbers before place own vs is known v member = elim (Contains-append_cases own vs v member) [
  | inl here ↦ (place, Contains-append_right before (place ∷ []) place (Contains-first place []), refl, subst (λ all. Contains all v) (sym is) here)
  | inr there ↦ known-more numbers before (place ∷ []) place.graph_path vs known v there
]

-- ---- the two maps

-- two lists of numbers share none where a longer list has each once
apart-in : (first middle second after : List ℕ) → AreOnce (first ++ (middle ++ (second ++ after))) → (v : ℕ) → Contains first v → Contains second v → ⊥
apart-in first middle second after once v m n = (once-parts first (middle ++ (second ++ after)) once).2 v m (Contains-append_right middle (second ++ after) v (Contains-append_left second after v n))

second-once : (first middle second after : List ℕ) → AreOnce (first ++ (middle ++ (second ++ after))) → AreOnce second
second-once first middle second after once = (once-parts second after (once-parts middle (second ++ after) (once-parts first (middle ++ (second ++ after)) once).1).1).0

fuse-there : (sequential other_sequential : Bool) (around : Place) (scopes : Scopes) (number : ℕ) (before : List Place) (a params others : List Parameter) (private own : List ℕ) (line there : ℕ) (body other between rest : ItemTrees) →
    Here around scopes number before (and_item line (map_scope sequential params private body) (items_then between (and_item there (map_scope other_sequential others own other) rest))) →
    AreFit (and_item line (map_scope sequential params private body) (items_then between (and_item there (map_scope other_sequential others own other) rest))) a →
    FusionAskedOf sequential other_sequential (containers_of around.graph) a params others private own body other between → CanFuseWith (containers_of around.graph) sequential a params private body between (and_item there (map_scope other_sequential others own other) rest)
fuse-there sequential other_sequential around scopes number before a params others private own line there body other between rest here fit asked =
    record {
      rename = record {
        valid = (fit-behind between (and_item there Q rest) a fit.1).0;
        ranges = asked.ranges;
        free = items-strange other (item_place around scopes at.0 Q) (in_map scopes others own) 0 params inside.0 strange (λ v m. is-other params v (λ p. params-apart v (Contains-append_left (param_numbers params) (in_items params_at body) v p) (Contains-append_right (param_numbers others) (in_items params_at other) v m)));
        spare = items-spare (names_for others params) other
            (λ v m. no-name others params v
            (λ q. (once-parts (param_numbers others) (in_items params_at other) others-once).2 v q m)
            (λ p. params-apart v (Contains-append_left (param_numbers params) (in_items params_at body) v p) (Contains-append_right (param_numbers others) (in_items params_at other) v m)));
      };
      free = asked.free;
      nodes = asked.bodies.nodes;
      other_nodes = asked.bodies.other_nodes;
      harmless = asked.bodies.harmless;
      private_to = record {
        apart = λ n is. elim (cases_Bool (has_number private n)) [
          | inl held ↦ absurd (held-apart n (Contains-append_left private (in_items held_at body) n (found-member private n held)) (Contains-append_left own (in_items held_at other) n (found-member own n is)))
          | inr free ↦ free
        ];
        first = items-avoid cs own (private ++ scopes.private) body
            (record {
              kinds = private-kinds cs own (private-behind cs between (and_item there Q rest) hold.1).0;
              apart = λ n m among. elim (Contains-append_cases private scopes.private n among) [
                | inl in_first ↦ held-apart n (Contains-append_left private (in_items held_at body) n in_first) (Contains-append_left own (in_items held_at other) n m)
                | inr about ↦ not-about n (in-second held_at n (Contains-append_left own (in_items held_at other) n m)) about
              ];
            })
            here.force.0 (λ n m h. held-apart n (Contains-append_right private (in_items held_at body) n h) (Contains-append_left own (in_items held_at other) n m));
        second = items-still private (names_for others params) other
            (items-avoid cs private (own ++ scopes.private) other
            (record {
              kinds = private-kinds cs private hold.0;
              apart = λ n m among. elim (Contains-append_cases own scopes.private n among) [
                | inl in_second ↦ held-apart n (Contains-append_left private (in_items held_at body) n m) (Contains-append_left own (in_items held_at other) n in_second)
                | inr about ↦ not-about n (in-first held_at n (Contains-append_left private (in_items held_at body) n m)) about
              ];
            })
            (force-behind between (and_item there Q rest) cs scopes.private here.force.1).0 (λ n m h. held-apart n (Contains-append_left private (in_items held_at body) n m) (Contains-append_right own (in_items held_at other) n h)));
      };
    }
  where
    cs : Containers
    cs = containers_of around.graph

    P : KindTree
    P = map_scope sequential params private body

    Q : KindTree
    Q = map_scope other_sequential others own other

    L : ItemTrees
    L = and_item line P (items_then between (and_item there Q rest))

    hold : HoldPrivate cs L
    hold = hold-private L around scopes number before here.none

    right : AllByRecursion IsRightPlace (places_in P (item_place around scopes number P)) × AllByRecursion IsRightPlace (item_places (items_then between (and_item there Q rest)) around scopes (suc number))
    right = each-parts IsRightPlace (places_in P (item_place around scopes number P)) (item_places (items_then between (and_item there Q rest)) around scopes (suc number)) here.right.1

    at : (m : ℕ) × AllByRecursion IsRightPlace (item_places (and_item there Q rest) around scopes m)
    at = right-behind between (and_item there Q rest) around scopes (suc number) right.1

    inside : AllByRecursion IsRightPlace (places_in Q (item_place around scopes at.0 Q)) × AllByRecursion IsRightPlace (item_places rest around scopes (suc at.0))
    inside = each-parts IsRightPlace (places_in Q (item_place around scopes at.0 Q)) (item_places rest around scopes (suc at.0)) at.1.1

    parts-of : (numbers : Thing → List ℕ) → in_items numbers L ≡ in_kind numbers P ++ (in_items numbers between ++ (in_kind numbers Q ++ in_items numbers rest))
    parts-of numbers = ap (λ all. in_kind numbers P ++ all) (then-in numbers between (and_item there Q rest))

    held-single : IsSingle held_at (in_items held_at L) around.graph_path before (item_places L around scopes number)
    held-single = items-single held_at held-ruled L around scopes number before here.none

    params-single : IsSingle params_at (in_items params_at L) around.graph_path before (item_places L around scopes number)
    params-single = items-single params_at params-ruled L around scopes number before here.none

    held-apart : (v : ℕ) → Contains (private ++ in_items held_at body) v → Contains (own ++ in_items held_at other) v → ⊥
    held-apart = apart-in (in_kind held_at P) (in_items held_at between) (in_kind held_at Q) (in_items held_at rest) (subst AreOnce (parts-of held_at) held-single.once)

    params-apart : (v : ℕ) → Contains (param_numbers params ++ in_items params_at body) v → Contains (param_numbers others ++ in_items params_at other) v → ⊥
    params-apart = apart-in (in_kind params_at P) (in_items params_at between) (in_kind params_at Q) (in_items params_at rest) (subst AreOnce (parts-of params_at) params-single.once)

    others-once : AreOnce (param_numbers others ++ in_items params_at other)
    others-once = second-once (in_kind params_at P) (in_items params_at between) (in_kind params_at Q) (in_items params_at rest) (subst AreOnce (parts-of params_at) params-single.once)

    in-first : (numbers : Thing → List ℕ) (v : ℕ) → Contains (in_kind numbers P) v → Contains (in_items numbers L) v
    in-first numbers v m = subst (λ all. Contains all v) (sym (parts-of numbers)) (Contains-append_left (in_kind numbers P) (in_items numbers between ++ (in_kind numbers Q ++ in_items numbers rest)) v m)

    in-second : (numbers : Thing → List ℕ) (v : ℕ) → Contains (in_kind numbers Q) v → Contains (in_items numbers L) v
    in-second numbers v m =
        subst (λ all. Contains all v) (sym (parts-of numbers))
        (Contains-append_right (in_kind numbers P) (in_items numbers between ++ (in_kind numbers Q ++ in_items numbers rest)) v
        (Contains-append_right (in_items numbers between) (in_kind numbers Q ++ in_items numbers rest) v (Contains-append_left (in_kind numbers Q) (in_items numbers rest) v m)))

    not-about : (v : ℕ) → Contains (in_items held_at L) v → Contains scopes.private v → ⊥
    not-about v m about = let (known, among, same, is) = here.held v about in held-single.new v m known among same is

    symbols : list_all (is_no_symbol (symbols_in around.graph)) (param_numbers params) ≡ true
    symbols =
        let place = item_place around scopes number P in
        let others_places = item_places (items_then between (and_item there Q rest)) around scopes (suc number) in
        symbols-apart before place (first-holds rule_1 before place (places_in P place ++ others_places) here.none).0

    strange : IsStrange (item_place around scopes at.0 Q) (param_numbers others ++ scopes.params) params
    strange v (inl symbol) = symbol-other (symbols_in around.graph) v params symbols symbol
    strange v (inr (inl param)) =
        is-other params v
        (λ p. elim (Contains-append_cases (param_numbers others) scopes.params v param) [
          | inl second ↦ params-apart v (Contains-append_left (param_numbers params) (in_items params_at body) v p) (Contains-append_left (param_numbers others) (in_items params_at other) v second)
          | inr about ↦ here.right.0.fresh.other v p about
        ])
    strange v (inr (inr loop)) = is-other params v (λ p. here.right.0.fresh.unset v p loop)

fuse-with : (sequential : Bool) (around : Place) (scopes : Scopes) (number : ℕ) (before : List Place) (a params : List Parameter) (private : List ℕ) (line : ℕ) (body between behind : ItemTrees) →
    Here around scopes number before (and_item line (map_scope sequential params private body) (items_then between behind)) → AreFit (and_item line (map_scope sequential params private body) (items_then between behind)) a →
    FusionAskedWith (containers_of around.graph) sequential a params private body between behind → CanFuseWith (containers_of around.graph) sequential a params private body between behind
fuse-with sequential around scopes number before a params private line body between no_item here fit asked = asked
fuse-with sequential around scopes number before a params private line body between (and_item there (task code ins outs) rest) here fit asked = asked
fuse-with sequential around scopes number before a params private line body between (and_item there (map_scope other_sequential others own other) rest) here fit asked = fuse-there sequential other_sequential around scopes number before a params others private own line there body other between rest here fit asked
fuse-with sequential around scopes number before a params private line body between (and_item there (consume_scope source element own other) rest) here fit asked = asked
fuse-with sequential around scopes number before a params private line body between (and_item there (nested_graph inner links) rest) here fit asked = asked
fuse-with sequential around scopes number before a params private line body between (and_item there (reduction resolution axis identity from to) rest) here fit asked = asked
fuse-with sequential around scopes number before a params private line body between (and_item there (copy from to) rest) here fit asked = asked

pub fuse-at : (distance : ℕ) (around : Place) (scopes : Scopes) (number : ℕ) (before : List Place) (a : List Parameter) (variables line : ℕ) (kind : KindTree) (items : ItemTrees) → Here around scopes number before (and_item line kind items) → AreFit (and_item line kind items) a →
    FusionAsked distance (containers_of around.graph) a variables (and_item line kind items) → CanFuse distance (containers_of around.graph) a variables (and_item line kind items)
fuse-at distance around scopes number before a variables line (task code ins outs) items here fit asked = asked
fuse-at distance around scopes number before a variables line (map_scope sequential params private body) items here fit asked =
    fuse-with sequential around scopes number before a params private line body (items_before distance items) (items_from distance items)
    (subst (λ rest. Here around scopes number before (and_item line (map_scope sequential params private body) rest)) (sym (parts-again distance items)) here)
    (subst (λ rest. AreFit (and_item line (map_scope sequential params private body) rest) a) (sym (parts-again distance items)) fit) asked
fuse-at distance around scopes number before a variables line (consume_scope source element private body) items here fit asked = asked
fuse-at distance around scopes number before a variables line (nested_graph inner links) items here fit asked = asked
fuse-at distance around scopes number before a variables line (reduction resolution axis identity from to) items here fit asked = asked
fuse-at distance around scopes number before a variables line (copy from to) items here fit asked = asked
