-- The nodes that are made for the items of a source's list, counted.
use Rattle.std.proofs.Common.{◌≡◌, ◌∙◌, ℕ, zero, suc, ◌+◌, ◌-◌, List, [], ◌∷◌, ◌++◌, length, replicate, refl, ap, sym, arith}
use Rattle.sd_source.specs.nodes.Items.{Name, Item, none, single, map_scope, consume_scope, Items, no_item, and_item}
use Rattle.sd_source.specs.nodes.Names.{Named, noted_own}
use Rattle.sd_source.specs.nodes.Nodes.{chosen, with_mentioned, with_all_mentioned, line_of, plain_node, access_nodes, with_read, with_written, current_behind, with_inner, with_nodes}
use Rattle.sd_source.specs.nodes.NodeLimits.{count_of}
use Rattle.sd_source.specs.declared.nodes.access.Access.{Access}
use Rattle.sd_source.specs.declared.nodes.access.Access.TheVariants.{Read, Write}
use Rattle.sd_source.specs.declared.nodes.node.Node.{Node}
use Rattle.sd_source.proofs.nodes_lemmas.NameLemmas.{own_both}
use Rattle.sd_made.specs.counted.Counted.{names_in, names_in_all, more, item_nodes, list_nodes, item_nested, list_nested}

-- ---- what an item mentions

mutual
  pub mentioned_names : (own : List Name) (access : Access) (known : List Name) (item : Item) → with_mentioned own access known item ≡ noted_own own known (names_in access item)
  mentioned_names own access known (none line) = refl
  mentioned_names own access known (single line called reads writes) = refl
  mentioned_names own access known (map_scope line inner body) = all_mentioned_names own access known body
  mentioned_names own access known (consume_scope line stream inner body) =
      all_mentioned_names own access (noted_own own known (chosen access (stream ∷ []) [])) body ∙ sym (own_both own known (chosen access (stream ∷ []) []) (names_in_all access body))

  all_mentioned_names : (own : List Name) (access : Access) (known : List Name) (items : Items) → with_all_mentioned own access known items ≡ noted_own own known (names_in_all access items)
  all_mentioned_names own access known no_item = refl
  all_mentioned_names own access known (and_item item items) =
      all_mentioned_names own access (with_mentioned own access known item) items
      ∙ ap (λ names. noted_own own names (names_in_all access items)) (mentioned_names own access known item)
      ∙ sym (own_both own known (names_in access item) (names_in_all access items))

-- ---- counts

module _ (counts : Named ℕ) where
  pub count_joined : (first second : List Node) → count_of counts (first ++ second) ≡ count_of counts first + count_of counts second
  count_joined [] second = omega arith
  count_joined (node ∷ first) second = omega (arith, count_joined first second)

  plain_counted : (line count : ℕ) → count_of counts (replicate count (plain_node line)) ≡ count
  plain_counted line zero = refl
  plain_counted line (suc count) = ap (λ rest. 1 + rest) (plain_counted line count) ∙ omega arith

  -- access nodes, as many as names are noted
  access_counted : (own : List Name) (access : Access) (known : List Name) (made : List Node) (item : Item) →
      count_of counts (made ++ access_nodes (line_of item) known (with_mentioned own access known item)) ≡ count_of counts made + more own known (names_in access item)
  access_counted own access known made item =
      count_joined made (access_nodes (line_of item) known (with_mentioned own access known item))
      ∙ ap (λ count. count_of counts made + count)
      (plain_counted (line_of item) (length (with_mentioned own access known item) - length known) ∙ ap (λ names. length names - length known) (mentioned_names own access known item))

  behind_names : (own current : List Name) (item : Item) → current_behind own current item ≡ noted_own own (noted_own own current (names_in Read item)) (names_in Write item)
  behind_names own current item =
      mentioned_names own Write (with_mentioned own Read current item) item ∙ ap (λ names. noted_own own names (names_in Write item)) (mentioned_names own Read current item)

  scope_counted : (line : ℕ) (own : List Name) (made : List Node) (body : Items) →
      count_of counts (with_nodes own [] (made ++ plain_node line ∷ []) body) ≡ count_of counts (made ++ plain_node line ∷ []) + (list_nodes own [] body + list_nested counts body) →
      count_of counts (with_nodes own [] (made ++ plain_node line ∷ []) body ++ plain_node line ∷ []) ≡ count_of counts made + ((2 + list_nodes own [] body) + list_nested counts body)
  scope_counted line own made body inside =
      omega (arith, count_joined (with_nodes own [] (made ++ plain_node line ∷ []) body) (plain_node line ∷ []), inside, count_joined made (plain_node line ∷ []))

  mutual
    item_counted : (made : List Node) (item : Item) → count_of counts (with_inner made item) ≡ count_of counts made + (item_nodes item + item_nested counts item)
    item_counted made (none line) = omega arith
    item_counted made (single line called reads writes) = count_joined made (record { line = line; called = called } ∷ []) ∙ omega arith
    item_counted made (map_scope line own body) = scope_counted line own made body (list_counted own [] (made ++ plain_node line ∷ []) body)
    item_counted made (consume_scope line stream own body) = scope_counted line own made body (list_counted own [] (made ++ plain_node line ∷ []) body)

    list_counted : (own current : List Name) (made : List Node) (items : Items) → count_of counts (with_nodes own current made items) ≡ count_of counts made + (list_nodes own current items + list_nested counts items)
    list_counted own current made no_item = omega arith
    list_counted own current made (and_item item items) =
        let read : List Node = with_read own current made item in
        let inner : List Node = with_inner read item in
        omega (
          arith,
          list_counted own (current_behind own current item) (with_written own inner item) items,
          ap (λ names. list_nodes own names items) (behind_names own current item),
          access_counted own Write [] inner item,
          item_counted read item,
          access_counted own Read current made item,
        )

pub items_counted : (counts : Named ℕ) (own current : List Name) (made : List Node) (items : Items) →
    count_of counts (with_nodes own current made items) ≡ count_of counts made + (list_nodes own current items + list_nested counts items)
items_counted counts own current made items = list_counted counts own current made items
