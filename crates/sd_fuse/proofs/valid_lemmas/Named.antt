-- Where rules 1 and 8 hold, items name parameters of scopes about them and loop variables alone.
use Rattle.std.specs.List.{AllByRecursion, Contains, list_all}
use Rattle.std.proofs.Common.{◌≡◌, ◌⊎◌, inl, inr, suc, ℕ, ℤ, nat_lt, List, [], ◌++◌, true, ◌&&◌, ◌||◌}
use Rattle.std.proofs.lemmas.List.Elements.{Contains-append_left, Contains-append_right, Contains-append_cases}
use Rattle.sd_range.specs.declared.affine.Affine.{Affine}
use Rattle.sd_range.specs.declared.range.Range.{Range}
use Rattle.sd_range.specs.declared.subset.Dim.{Dim}
use Rattle.sd_range.specs.declared.subset.Dim.TheVariants.{Index, Span}
use Rattle.sd_subset.specs.boxes.Box.{Parameter}
use Rattle.sd_subset.specs.boxes.InForce.{IsOther, NamesOthers, RangeNamesOthers}
use Rattle.sd_graph.specs.declared.link.Link.{Link}
use Rattle.sd_graph.specs.PlainTree.{TaskletTree, KindTree, task, map_scope, consume_scope, nested_graph, reduction, copy, ItemTrees, no_item, and_item}
use Rattle.sd_graph.specs.Wiring.{has_number}
use Rattle.sd_validity.specs.rules.GraphParts.{symbols_in}
use Rattle.sd_validity.specs.rules.Places.{Place, Scopes, in_map, in_consume, param_numbers, item_place, places_in, item_places}
use Rattle.sd_validity.specs.rules.Parts.{is_range_passed, is_dim_passed, is_link_passed, are_links_passed, are_params_passed}
use Rattle.sd_validity.specs.rules.NamesInForce.{is_there, is_variable_in_force, names_tests, params_at}
use Rattle.sd_safe.proofs.fit_lemmas.Members.{both, passes-at, each-passes, each-member, each-parts, one_of_two, found-member}
use Rattle.sd_safe.proofs.fit_lemmas.Around.{IsKnown}
use Rattle.sd_safe.proofs.fit_lemmas.Right.{IsRightPlace}
use Rattle.sd_fuse.specs.ends.NamesOthers.{DimNamesOthers, LinkNamesOthers, CodeNamesOthers, KindNamesOthers, ItemsNameOthers}
use Rattle.sd_fuse.proofs.valid_lemmas.Once.{in_kind, in_items}

-- a size symbol, a parameter of a scope about, or a loop variable
abbrev pub IsNamed : Place → (params : List ℕ) → ℕ → Type 0
IsNamed around params v = (nat_lt v (symbols_in around.graph) ≡ true) ⊎ IsKnown params around.loops v

named-in_force : (place : Place) (v : ℕ) → is_variable_in_force place v ≡ true → IsNamed place place.scopes.params v
named-in_force place v is =
    let symbol = nat_lt v (symbols_in place.graph) in
    let about = has_number place.scopes.params v || has_number place.loops v in
    let split = both (is_there place.graph v) (symbol || about) is in
    elim (one_of_two symbol about split.1) [
      | inl sized ↦ inl sized
      | inr known ↦ inr (elim (one_of_two (has_number place.scopes.params v) (has_number place.loops v) known) [
        | inl param ↦ inl (found-member place.scopes.params v param)
        | inr loop ↦ inr (found-member place.loops v loop)
      ])
    ]

-- ---- what none of these is

-- some parameters, none of which is a size symbol, known to be none of the named ones
abbrev pub IsStrange : Place → (params : List ℕ) → List Parameter → Type 0
IsStrange around params own = (v : ℕ) → IsNamed around params v → IsOther own v

expression-strange : (place : Place) (own : List Parameter) → IsStrange place place.scopes.params own → (a : Affine) → (names_tests place).expression a ≡ true → NamesOthers own a
expression-strange place own strange a is =
    each-member (λ (term : ℕ × ℤ). IsOther own term.0) a.terms
    (λ term member. strange term.0 (named-in_force place term.0 (passes-at (λ (term : ℕ × ℤ). is_variable_in_force place term.0) a.terms term is member)))

range-strange : (place : Place) (own : List Parameter) → IsStrange place place.scopes.params own → (r : Range) → is_range_passed (names_tests place) r ≡ true → RangeNamesOthers own r
range-strange place own strange r is =
    let named = (names_tests place).expression in
    let split = both true (named r.begin && list_all named r.ends) is in
    let names = both (named r.begin) (list_all named r.ends) split.1 in
    (expression-strange place own strange r.begin names.0, each-passes (NamesOthers own) named (λ end passed. expression-strange place own strange end passed) r.ends names.1)

dim-strange : (place : Place) (own : List Parameter) → IsStrange place place.scopes.params own → (dim : Dim) → is_dim_passed (names_tests place) dim ≡ true → DimNamesOthers own dim
dim-strange place own strange (Index at) is = expression-strange place own strange at is
dim-strange place own strange (Span r) is = range-strange place own strange r is

link-strange : (place : Place) (own : List Parameter) → IsStrange place place.scopes.params own → (link : Link) → is_link_passed (names_tests place) link ≡ true → LinkNamesOthers own link
link-strange place own strange link is =
    let split = both ((names_tests place).link link) (list_all (is_dim_passed (names_tests place)) link.memlet.subset.dims) is in
    each-passes (DimNamesOthers own) (is_dim_passed (names_tests place)) (dim-strange place own strange) link.memlet.subset.dims split.1

links-strange : (place : Place) (own : List Parameter) → IsStrange place place.scopes.params own → (links : List Link) → are_links_passed (names_tests place) links ≡ true → AllByRecursion (LinkNamesOthers own) links
links-strange place own strange links is = each-passes (LinkNamesOthers own) (is_link_passed (names_tests place)) (link-strange place own strange) links is

params-strange : (place : Place) (own : List Parameter) → IsStrange place place.scopes.params own → (params : List Parameter) → are_params_passed (names_tests place) params ≡ true → AllByRecursion (λ (parameter : Parameter). RangeNamesOthers own parameter.1) params
params-strange place own strange params is = each-passes (λ (parameter : Parameter). RangeNamesOthers own parameter.1) (λ (parameter : Parameter). is_range_passed (names_tests place) parameter.1) (λ parameter passed. range-strange place own strange parameter.1 passed) params is

code-strange : (place : Place) (own : List Parameter) → IsStrange place place.scopes.params own → (code : TaskletTree) → (names_tests place).code code ≡ true → CodeNamesOthers own code
code-strange place own strange code is = each-passes (IsOther own) (is_variable_in_force place) (λ v passed. strange v (named-in_force place v passed)) code.variables is

-- inside a map whose parameters are others too
strange-inside : (around : Place) (params inner : List ℕ) (own : List Parameter) → IsStrange around params own → ((v : ℕ) → Contains inner v → IsOther own v) → IsStrange around (inner ++ params) own
strange-inside around params inner own strange others v (inl symbol) = strange v (inl symbol)
strange-inside around params inner own strange others v (inr (inl param)) = elim (Contains-append_cases inner params v param) [
  | inl here ↦ others v here
  | inr there ↦ strange v (inr (inl there))
]
strange-inside around params inner own strange others v (inr (inr loop)) = strange v (inr (inr loop))

mutual
  kind-strange : (kind : KindTree) (around : Place) (scopes : Scopes) (number : ℕ) (own : List Parameter) → IsRightPlace (item_place around scopes number kind) → AllByRecursion IsRightPlace (places_in kind (item_place around scopes number kind)) →
      IsStrange around scopes.params own → ((v : ℕ) → Contains (in_kind params_at kind) v → IsOther own v) → KindNamesOthers own kind
  kind-strange (task code ins outs) around scopes number own right inside strange others =
      let place = item_place around scopes number (task code ins outs) in
      let split = both ((names_tests place).code code) (are_links_passed (names_tests place) ins && are_links_passed (names_tests place) outs) right.fresh.named in
      let links = both (are_links_passed (names_tests place) ins) (are_links_passed (names_tests place) outs) split.1 in
      (code-strange place own strange code split.0, links-strange place own strange ins links.0, links-strange place own strange outs links.1)
  kind-strange (map_scope sequential params private body) around scopes number own right inside strange others =
      let place = item_place around scopes number (map_scope sequential params private body) in (
        params-strange place own strange params right.fresh.named,
        items-strange body place (in_map scopes params private) 0 own inside
            (strange-inside around scopes.params (param_numbers params) own strange (λ v m. others v (Contains-append_left (param_numbers params) (in_items params_at body) v m)))
            (λ v m. others v (Contains-append_right (param_numbers params) (in_items params_at body) v m)),
      )
  kind-strange (consume_scope source element private body) around scopes number own right inside strange others =
      items-strange body (item_place around scopes number (consume_scope source element private body)) (in_consume scopes element private) 0 own inside strange (λ v m. others v (Contains-append_right [] (in_items params_at body) v m))
  kind-strange (nested_graph inner links) around scopes number own right inside strange others = links-strange (item_place around scopes number (nested_graph inner links)) own strange links right.fresh.named
  kind-strange (reduction resolution axis identity from to) around scopes number own right inside strange others =
      let place = item_place around scopes number (reduction resolution axis identity from to) in
      let links = both (is_link_passed (names_tests place) from) (is_link_passed (names_tests place) to) right.fresh.named in
      (link-strange place own strange from links.0, link-strange place own strange to links.1)
  kind-strange (copy from to) around scopes number own right inside strange others =
      let place = item_place around scopes number (copy from to) in
      let links = both (is_link_passed (names_tests place) from) (is_link_passed (names_tests place) to) right.fresh.named in
      (link-strange place own strange from links.0, link-strange place own strange to links.1)

  pub items-strange : (items : ItemTrees) (around : Place) (scopes : Scopes) (number : ℕ) (own : List Parameter) → AllByRecursion IsRightPlace (item_places items around scopes number) →
      IsStrange around scopes.params own → ((v : ℕ) → Contains (in_items params_at items) v → IsOther own v) → ItemsNameOthers own items
  items-strange no_item around scopes number own right strange others = tt
  items-strange (and_item line kind items) around scopes number own right strange others =
      let place = item_place around scopes number kind in
      let parts = each-parts IsRightPlace (places_in kind place) (item_places items around scopes (suc number)) right.1 in (
        kind-strange kind around scopes number own right.0 parts.0 strange (λ v m. others v (Contains-append_left (in_kind params_at kind) (in_items params_at items) v m)),
        items-strange items around scopes (suc number) own parts.1 strange (λ v m. others v (Contains-append_right (in_kind params_at kind) (in_items params_at items) v m)),
      )
