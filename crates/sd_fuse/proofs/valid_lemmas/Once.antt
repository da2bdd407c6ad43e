-- In a graph of which rule 1 holds, each variable is a parameter once, and each container one scope's own.
use Rattle.std.specs.List.{Contains}
use Rattle.std.proofs.Common.{◌≡◌, inl, inr, suc, ℕ, List, [], ◌∷◌, ◌++◌, true, ◌&&◌, None, refl, sym, subst}
use Rattle.std.proofs.lemmas.List.Elements.{Contains-append_left, Contains-append_right, Contains-append_cases}
use Rattle.sd_range.proofs.Members.{Contains-nil, Contains-first, Contains-later, Contains-cases, Contains-flat_map}
use Rattle.sd_race.proofs.cover_lemmas.Among.{among-filter}
use Rattle.std.proofs.Common.{bytes_eq}
use Rattle.sd_graph.specs.PlainTree.{KindTree, task, map_scope, consume_scope, nested_graph, reduction, copy, ItemTrees, no_item, and_item}
use Rattle.sd_graph.specs.TreeParts.{containers_of}
use Rattle.sd_validity.specs.rules.Places.{Thing, doing, Place, Scopes, in_map, in_consume, item_place, places_in, item_places}
use Rattle.sd_validity.specs.rules.Failing.{failing}
use Rattle.sd_validity.specs.rules.NamesInForce.{held_at, params_at, set_at, of_graph, numbers_at, are_new, are_apart, are_own_private, are_single, is_each_held, are_symbols_apart, are_names_in_force, rule_1}
use Rattle.sd_safe.proofs.fit_lemmas.Members.{both, same_bytes}
use Rattle.sd_safe.proofs.fit_lemmas.Single.{AreOnce, new-other, new-once, params-other, params-once, first-holds, parts-hold}

-- ---- what is held

held-new : (before : List Place) (place : Place) → rule_1 before place ≡ true → are_new (numbers_at held_at (of_graph before place)) (held_at place.thing) ≡ true
held-new before place is =
    let earlier = of_graph before place in
    let thing = place.thing in
    let held = are_new (numbers_at held_at earlier) (held_at thing) in
    let new = are_new (numbers_at params_at earlier ++ numbers_at set_at earlier) (params_at thing) in
    let unset = are_apart (numbers_at params_at earlier) (set_at thing) in
    let split = both (are_names_in_force place && (is_each_held place.graph thing && are_symbols_apart place.graph thing)) (are_own_private (containers_of place.graph) thing && are_single earlier thing) is in
    let single = (both (are_own_private (containers_of place.graph) thing) (are_single earlier thing) split.1).1 in
    (both held new (both (held && new) unset single).0).0

held-other : (before : List Place) (place other : Place) → rule_1 before place ≡ true → Contains before other → other.graph_path ≡ place.graph_path → (v : ℕ) → Contains (held_at place.thing) v → Contains (held_at other.thing) v → ⊥
held-other before place other is among same v member there =
    new-other (numbers_at held_at (of_graph before place)) (held_at place.thing) (held-new before place is) v member
    (Contains-flat_map (λ (one : Place). held_at one.thing) (of_graph before place) other v
    (among-filter (λ (one : Place). bytes_eq one.graph_path place.graph_path) before other among (same_bytes other.graph_path place.graph_path same)) there)

held-once : (before : List Place) (place : Place) → rule_1 before place ≡ true → AreOnce (held_at place.thing)
held-once before place is = new-once (numbers_at held_at (of_graph before place)) (held_at place.thing) (held-new before place is)

-- ---- numbers that stand in items

abbrev mutual
  pub in_kind : (Thing → List ℕ) → KindTree → List ℕ
  in_kind numbers (task code ins outs) = numbers (doing (task code ins outs))
  in_kind numbers (map_scope sequential params private body) = numbers (doing (map_scope sequential params private body)) ++ in_items numbers body
  in_kind numbers (consume_scope stream element private body) = numbers (doing (consume_scope stream element private body)) ++ in_items numbers body
  in_kind numbers (nested_graph inner links) = numbers (doing (nested_graph inner links))
  in_kind numbers (reduction resolution axis identity from to) = numbers (doing (reduction resolution axis identity from to))
  in_kind numbers (copy from to) = numbers (doing (copy from to))

  pub in_items : (Thing → List ℕ) → ItemTrees → List ℕ
  in_items numbers no_item = []
  in_items numbers (and_item line kind items) = in_kind numbers kind ++ in_items numbers items

-- numbers of which rule 1 says that they are there once
pub record AreRuled (numbers : Thing → List ℕ) : Type 0 where
  pub other : (before : List Place) (place other : Place) → rule_1 before place ≡ true → Contains before other → other.graph_path ≡ place.graph_path → (v : ℕ) → Contains (numbers place.thing) v → Contains (numbers other.thing) v → ⊥
  pub once : (before : List Place) (place : Place) → rule_1 before place ≡ true → AreOnce (numbers place.thing)

pub held-ruled : AreRuled held_at
held-ruled = record { other = held-other; once = held-once }

pub params-ruled : AreRuled params_at
params-ruled = record { other = params-other; once = params-once }

pub record IsSingle (numbers : Thing → List ℕ) (all : List ℕ) (path : List ℕ) (before places : List Place) : Type 0 where
  pub once : AreOnce all
  pub new : (v : ℕ) → Contains all v → (other : Place) → Contains before other → other.graph_path ≡ path → Contains (numbers other.thing) v → ⊥
  pub covers : (v : ℕ) → Contains all v → (other : Place) × Contains places other × (other.graph_path ≡ path) × Contains (numbers other.thing) v

once-both : (xs ys : List ℕ) → AreOnce xs → AreOnce ys → ((v : ℕ) → Contains xs v → Contains ys v → ⊥) → AreOnce (xs ++ ys)
once-both [] ys one two apart = two
once-both (x ∷ xs) ys one two apart = (
  λ m. elim (Contains-append_cases xs ys x m) [ inl here ↦ one.0 here | inr there ↦ apart x (Contains-first x xs) there ],
  once-both xs ys one.1 two (λ v m n. apart v (Contains-later x xs v m) n),
)

pub once-parts : (xs ys : List ℕ) → AreOnce (xs ++ ys) → AreOnce xs × AreOnce ys × ((v : ℕ) → Contains xs v → Contains ys v → ⊥)
once-parts [] ys once = (tt, once, λ v m n. Contains-nil v m)
once-parts (x ∷ xs) ys once =
    let rest = once-parts xs ys once.1 in (
      (λ m. once.0 (Contains-append_left xs ys x m), rest.0),
      rest.1,
      λ v m n. elim (Contains-cases x xs v m) [ inl is ↦ once.0 (Contains-append_right xs ys x (subst (λ u. Contains ys u) (sym is) n)) | inr later ↦ rest.2 v later n ],
    )

-- two parts, one behind the other
single-both : (numbers : Thing → List ℕ) (first second : List ℕ) (path : List ℕ) (before places more : List Place) → IsSingle numbers first path before places → IsSingle numbers second path (before ++ places) more → IsSingle numbers (first ++ second) path before (places ++ more)
single-both numbers first second path before places more one two = record {
  once = once-both first second one.once two.once
      (λ v m n. (let (other, among, same, is) = one.covers v m in two.new v n other (Contains-append_right before places other among) same is));
  new = λ v m other among same is. elim (Contains-append_cases first second v m) [
    | inl here ↦ one.new v here other among same is
    | inr there ↦ two.new v there other (Contains-append_left before places other among) same is
  ];
  covers = λ v m. elim (Contains-append_cases first second v m) [
    | inl here ↦ (let (other, among, same, is) = one.covers v here in (other, Contains-append_left places more other among, same, is))
    | inr there ↦ (let (other, among, same, is) = two.covers v there in (other, Contains-append_right places more other among, same, is))
  ];
}

single-at : (numbers : Thing → List ℕ) → AreRuled numbers → (before : List Place) (place : Place) → rule_1 before place ≡ true → IsSingle numbers (numbers place.thing) place.graph_path before (place ∷ [])
single-at numbers ruled before place is = record {
  once = ruled.once before place is;
  new = λ v m other among same there. ruled.other before place other is among same v m there;
  covers = λ v m. (place, Contains-first place [], refl, m);
}

-- more places, of other graphs
single-more : (numbers : Thing → List ℕ) (all : List ℕ) (path : List ℕ) (before places more : List Place) → IsSingle numbers all path before places → IsSingle numbers all path before (places ++ more)
single-more numbers all path before places more one = record {
  once = one.once;
  new = one.new;
  covers = λ v m. (let (other, among, same, is) = one.covers v m in (other, Contains-append_left places more other among, same, is));
}

again : (before : List Place) (place : Place) (inside : List Place) → (before ++ place ∷ []) ++ inside ≡ before ++ place ∷ inside
again [] place inside = refl
again (first ∷ before) place inside = λ i. first ∷ again before place inside i

mutual
  kind-single : (numbers : Thing → List ℕ) → AreRuled numbers → (kind : KindTree) (around : Place) (scopes : Scopes) (number : ℕ) (before : List Place) → rule_1 before (item_place around scopes number kind) ≡ true →
      failing rule_1 (before ++ item_place around scopes number kind ∷ []) (places_in kind (item_place around scopes number kind)) ≡ None →
      IsSingle numbers (in_kind numbers kind) around.graph_path before (item_place around scopes number kind ∷ places_in kind (item_place around scopes number kind))
  kind-single numbers ruled (task code ins outs) around scopes number before is none = single-at numbers ruled before (item_place around scopes number (task code ins outs)) is
  kind-single numbers ruled (map_scope sequential params private body) around scopes number before is none =
      let place = item_place around scopes number (map_scope sequential params private body) in
      single-both numbers (numbers place.thing) (in_items numbers body) around.graph_path before (place ∷ []) (item_places body place (in_map scopes params private) 0) (single-at numbers ruled before place is)
      (items-single numbers ruled body place (in_map scopes params private) 0 (before ++ place ∷ []) none)
  kind-single numbers ruled (consume_scope source element private body) around scopes number before is none =
      let place = item_place around scopes number (consume_scope source element private body) in
      single-both numbers (numbers place.thing) (in_items numbers body) around.graph_path before (place ∷ []) (item_places body place (in_consume scopes element private) 0) (single-at numbers ruled before place is)
      (items-single numbers ruled body place (in_consume scopes element private) 0 (before ++ place ∷ []) none)
  kind-single numbers ruled (nested_graph inner links) around scopes number before is none =
      let place = item_place around scopes number (nested_graph inner links) in
      single-more numbers (numbers place.thing) around.graph_path before (place ∷ []) (places_in (nested_graph inner links) place) (single-at numbers ruled before place is)
  kind-single numbers ruled (reduction resolution axis identity from to) around scopes number before is none = single-at numbers ruled before (item_place around scopes number (reduction resolution axis identity from to)) is
  kind-single numbers ruled (copy from to) around scopes number before is none = single-at numbers ruled before (item_place around scopes number (copy from to)) is

  pub items-single : (numbers : Thing → List ℕ) → AreRuled numbers → (items : ItemTrees) (around : Place) (scopes : Scopes) (number : ℕ) (before : List Place) → failing rule_1 before (item_places items around scopes number) ≡ None →
      IsSingle numbers (in_items numbers items) around.graph_path before (item_places items around scopes number)
  items-single numbers ruled no_item around scopes number before none = record { once = tt; new = λ v m other among same is. Contains-nil v m; covers = λ v m. absurd (Contains-nil v m) }
  items-single numbers ruled (and_item line kind items) around scopes number before none =
      let place = item_place around scopes number kind in
      let inside = places_in kind place in
      let others = item_places items around scopes (suc number) in
      let first = first-holds rule_1 before place (inside ++ others) none in
      let rest = parts-hold rule_1 (before ++ place ∷ []) inside others first.1 in
      single-both numbers (in_kind numbers kind) (in_items numbers items) around.graph_path before (place ∷ inside) others
      (kind-single numbers ruled kind around scopes number before first.0 rest.0)
      (subst (λ b. IsSingle numbers (in_items numbers items) around.graph_path b others) (again before place inside) (items-single numbers ruled items around scopes (suc number) ((before ++ place ∷ []) ++ inside) rest.1))
