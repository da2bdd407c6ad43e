-- Work that mentions none of some containers.
use Rattle.std.specs.Prelude.{◌≡◌, ℕ, List, true, false, ⊤}
use Rattle.std.specs.List.{AllByRecursion}
use Rattle.sd_graph.specs.declared.link.Link.{Link}
use Rattle.sd_graph.specs.Wiring.{has_number}
use Rattle.sd_graph.specs.PlainTree.{KindTree, task, map_scope, consume_scope, nested_graph, reduction, copy, ItemTrees, no_item, and_item}

-- a link to another container than these
abbrev pub LinkAvoids : (own : List ℕ) → Link → Type 0
LinkAvoids own link = has_number own link.memlet.container ≡ false

abbrev mutual
  -- an item mentions none of these containers
  pub KindAvoids : (own : List ℕ) → KindTree → Type 0
  KindAvoids own (task code ins outs) = AllByRecursion (LinkAvoids own) ins × AllByRecursion (LinkAvoids own) outs
  KindAvoids own (map_scope sequential params private body) = ItemsAvoid own body
  KindAvoids own (consume_scope stream element private body) = (has_number own stream ≡ false) × ItemsAvoid own body
  KindAvoids own (nested_graph inner links) = AllByRecursion (LinkAvoids own) links
  KindAvoids own (reduction resolution axis identity from to) = LinkAvoids own from × LinkAvoids own to
  KindAvoids own (copy from to) = LinkAvoids own from × LinkAvoids own to

  pub ItemsAvoid : (own : List ℕ) → ItemTrees → Type 0
  ItemsAvoid own no_item = ⊤
  ItemsAvoid own (and_item line kind items) = KindAvoids own kind × ItemsAvoid own items

-- each body mentions none of the other's private containers, which are others
pub record ArePrivate (private own : List ℕ) (body other : ItemTrees) : Type 0 where
  pub apart : (number : ℕ) → has_number own number ≡ true → has_number private number ≡ false
  pub first : ItemsAvoid own body
  pub second : ItemsAvoid private other
