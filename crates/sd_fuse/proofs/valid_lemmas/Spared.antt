-- Variables that are none of some parameters, and items that have none of some names.
use Rattle.std.specs.List.{AllByRecursion, Contains, list_all}
use Rattle.std.proofs.Common.{◌≡◌, ℕ, nat_lt, List, [], ◌∷◌, true, not, sym, ◌∙◌, ap, subst}
use Rattle.std.proofs.lemmas.List.Elements.{Contains-append_left, Contains-append_right}
use Rattle.sd_range.proofs.Members.{Contains-first, Contains-later}
use Rattle.sd_subset.specs.boxes.Box.{Parameter}
use Rattle.sd_subset.specs.boxes.InForce.{IsOther}
use Rattle.sd_graph.specs.PlainTree.{KindTree, task, map_scope, consume_scope, nested_graph, reduction, copy, ItemTrees, no_item, and_item}
use Rattle.sd_validity.specs.rules.Places.{param_numbers}
use Rattle.sd_validity.specs.rules.NamesInForce.{params_at, is_no_symbol}
use Rattle.sd_safe.proofs.fit_lemmas.Members.{both}
use Rattle.sd_fuse.specs.renamed.Renamed.{Names, IsNoName, KindSpares, ItemsSpare}
use Rattle.sd_fuse.specs.maps.MapRenamed.{names_for}
use Rattle.sd_fuse.proofs.valid_lemmas.Once.{in_kind, in_items}

pub is-other : (own : List Parameter) (v : ℕ) → (Contains (param_numbers own) v → ⊥) → IsOther own v
is-other [] v absent = tt
is-other (parameter ∷ own) v absent = (
  λ is. absent (subst (λ n. Contains (param_numbers (parameter ∷ own)) n) (sym is) (Contains-first parameter.0 (param_numbers own))),
  is-other own v (λ member. absent (Contains-later parameter.0 (param_numbers own) v member)),
)

pub symbol-other : (symbols v : ℕ) (own : List Parameter) → list_all (is_no_symbol symbols) (param_numbers own) ≡ true → nat_lt v symbols ≡ true → IsOther own v
symbol-other symbols v [] apart is = tt
symbol-other symbols v (param ∷ own) apart is =
    let split = both (is_no_symbol symbols param.0) (list_all (is_no_symbol symbols) (param_numbers own)) apart in (
      λ e. (let no : not true ≡ true = sym (ap not is) ∙ subst (λ n. is_no_symbol symbols n ≡ true) (sym e) split.0 in cc),
      symbol-other symbols v own split.1 is,
    )

pub no-name : (params others : List Parameter) (v : ℕ) → (Contains (param_numbers params) v → ⊥) → (Contains (param_numbers others) v → ⊥) → IsNoName (names_for params others) v
no-name [] others v one two = tt
no-name (param ∷ params) [] v one two = tt
no-name (param ∷ params) (other ∷ others) v one two = (
  (
    λ e. one (subst (λ n. Contains (param_numbers (param ∷ params)) n) (sym e) (Contains-first param.0 (param_numbers params))),
    λ e. two (subst (λ n. Contains (param_numbers (other ∷ others)) n) (sym e) (Contains-first other.0 (param_numbers others))),
  ),
  no-name params others v (λ m. one (Contains-later param.0 (param_numbers params) v m)) (λ m. two (Contains-later other.0 (param_numbers others) v m)),
)

params-spare : (names : Names) (params : List Parameter) → ((v : ℕ) → Contains (param_numbers params) v → IsNoName names v) → AllByRecursion (λ (param : Parameter). IsNoName names param.0) params
params-spare names [] each = tt
params-spare names (param ∷ params) each = (each param.0 (Contains-first param.0 (param_numbers params)), params-spare names params (λ v m. each v (Contains-later param.0 (param_numbers params) v m)))

mutual
  kind-spares : (names : Names) (kind : KindTree) → ((v : ℕ) → Contains (in_kind params_at kind) v → IsNoName names v) → KindSpares names kind
  kind-spares names (task code ins outs) each = tt
  kind-spares names (map_scope sequential params private body) each =
      (params-spare names params (λ v m. each v (Contains-append_left (param_numbers params) (in_items params_at body) v m)), items-spare names body (λ v m. each v (Contains-append_right (param_numbers params) (in_items params_at body) v m)))
  kind-spares names (consume_scope source element private body) each = items-spare names body (λ v m. each v (Contains-append_right [] (in_items params_at body) v m))
  kind-spares names (nested_graph inner links) each = tt
  kind-spares names (reduction resolution axis identity from to) each = tt
  kind-spares names (copy from to) each = tt

  pub items-spare : (names : Names) (items : ItemTrees) → ((v : ℕ) → Contains (in_items params_at items) v → IsNoName names v) → ItemsSpare names items
  items-spare names no_item each = tt
  items-spare names (and_item line kind items) each = (
    kind-spares names kind (λ v m. each v (Contains-append_left (in_kind params_at kind) (in_items params_at items) v m)),
    items-spare names items (λ v m. each v (Contains-append_right (in_kind params_at kind) (in_items params_at items) v m)),
  )
