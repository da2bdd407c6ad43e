-- Where each container that is named is in force, work mentions no scope's own containers but those of scopes about it and in it.
use Rattle.std.specs.List.{AllByRecursion, Contains}
use Rattle.std.proofs.Common.{◌≡◌, ◌⊎◌, inl, inr, ℕ, List, [], ◌∷◌, ◌++◌, map, true, false, sym, ◌∙◌}
use Rattle.std.proofs.lemmas.Bool.{cases_Bool}
use Rattle.std.proofs.lemmas.List.Elements.{Contains-append_left, Contains-append_right, Contains-append_cases}
use Rattle.sd_graph.specs.declared.link.Link.{Link}
use Rattle.sd_graph.specs.ContainerParts.{Containers, container_at}
use Rattle.sd_graph.specs.PlainTree.{KindTree, task, map_scope, consume_scope, nested_graph, reduction, copy, ItemTrees, no_item, and_item}
use Rattle.sd_graph.specs.Wiring.{has_number}
use Rattle.sd_graph.specs.InForce.{is_private, IsInForce, AreLinksInForce, IsKindInForce, AreItemsInForce}
use Rattle.sd_validity.specs.rules.NamesInForce.{held_at}
use Rattle.sd_safe.proofs.fit_lemmas.Members.{found-member}
use Rattle.sd_fuse.specs.renamed.Renamed.{Names, link_renamed, kind_renamed, items_renamed}
use Rattle.sd_fuse.specs.ends.Avoids.{LinkAvoids, KindAvoids, ItemsAvoid}
use Rattle.sd_fuse.proofs.valid_lemmas.Once.{in_kind, in_items}

-- some private containers that are not among those in force here
pub record AreElsewhere (containers : Containers) (own private : List ℕ) : Type 0 where
  pub kinds : (n : ℕ) → Contains own n → is_private (container_at containers n).kind ≡ true
  pub apart : (n : ℕ) → Contains own n → Contains private n → ⊥

elsewhere-inside : (containers : Containers) (own private held : List ℕ) → AreElsewhere containers own private → ((n : ℕ) → Contains own n → Contains held n → ⊥) → AreElsewhere containers own (held ++ private)
elsewhere-inside containers own private held else others = record {
  kinds = else.kinds;
  apart = λ n m among. elim (Contains-append_cases held private n among) [ inl here ↦ others n m here | inr there ↦ else.apart n m there ];
}

in_force-avoids : (containers : Containers) (own private : List ℕ) → AreElsewhere containers own private → (number : ℕ) → IsInForce containers private number → has_number own number ≡ false
in_force-avoids containers own private else number force = elim (cases_Bool (has_number own number)) [
  | inl held ↦ absurd (clash (found-member own number held) force.1)
  | inr free ↦ free
]
  where
    clash : Contains own number → (is_private (container_at containers number).kind ≡ false) ⊎ (has_number private number ≡ true) → ⊥
    clash member (inl public) = (let no : true ≡ false = sym (else.kinds number member) ∙ public in cc)
    clash member (inr here) = else.apart number member (found-member private number here)

links-avoid : (containers : Containers) (own private : List ℕ) → AreElsewhere containers own private → (links : List Link) → AreLinksInForce containers private links → AllByRecursion (LinkAvoids own) links
links-avoid containers own private else [] force = tt
links-avoid containers own private else (link ∷ links) force = (in_force-avoids containers own private else link.memlet.container force.0, links-avoid containers own private else links force.1)

mutual
  kind-avoids : (containers : Containers) (own private : List ℕ) (kind : KindTree) → AreElsewhere containers own private → IsKindInForce kind containers private → ((n : ℕ) → Contains own n → Contains (in_kind held_at kind) n → ⊥) → KindAvoids own kind
  kind-avoids containers own private (task code ins outs) else force others = (links-avoid containers own private else ins force.0, links-avoid containers own private else outs force.1)
  kind-avoids containers own private (map_scope sequential params held body) else force others =
      items-avoid containers own (held ++ private) body (elsewhere-inside containers own private held else (λ n m h. others n m (Contains-append_left held (in_items held_at body) n h))) force (λ n m h. others n m (Contains-append_right held (in_items held_at body) n h))
  kind-avoids containers own private (consume_scope source element held body) else force others = (
    in_force-avoids containers own private else source force.0,
    items-avoid containers own (element ∷ held ++ private) body
        (elsewhere-inside containers own private (element ∷ held) else (λ n m h. others n m (Contains-append_left (element ∷ held) (in_items held_at body) n h))) force.2 (λ n m h. others n m (Contains-append_right (element ∷ held) (in_items held_at body) n h)),
  )
  kind-avoids containers own private (nested_graph inner links) else force others = links-avoid containers own private else links force.0
  kind-avoids containers own private (reduction resolution axis identity from to) else force others = (let a = links-avoid containers own private else (from ∷ to ∷ []) force in (a.0, a.1.0))
  kind-avoids containers own private (copy from to) else force others = (let a = links-avoid containers own private else (from ∷ to ∷ []) force in (a.0, a.1.0))

  pub items-avoid : (containers : Containers) (own private : List ℕ) (items : ItemTrees) → AreElsewhere containers own private → AreItemsInForce items containers private → ((n : ℕ) → Contains own n → Contains (in_items held_at items) n → ⊥) → ItemsAvoid own items
  items-avoid containers own private no_item else force others = tt
  items-avoid containers own private (and_item line kind items) else force others = (
    kind-avoids containers own private kind else force.0 (λ n m h. others n m (Contains-append_left (in_kind held_at kind) (in_items held_at items) n h)),
    items-avoid containers own private items else force.1 (λ n m h. others n m (Contains-append_right (in_kind held_at kind) (in_items held_at items) n h)),
  )

-- ---- renamed items mention the same

links-still : (own : List ℕ) (names : Names) (links : List Link) → AllByRecursion (LinkAvoids own) links → AllByRecursion (LinkAvoids own) (map (link_renamed names) links)
links-still own names [] avoid = tt
links-still own names (link ∷ links) avoid = (avoid.0, links-still own names links avoid.1)

mutual
  kind-still : (own : List ℕ) (names : Names) (kind : KindTree) → KindAvoids own kind → KindAvoids own (kind_renamed names kind)
  kind-still own names (task code ins outs) avoid = (links-still own names ins avoid.0, links-still own names outs avoid.1)
  kind-still own names (map_scope sequential params private body) avoid = items-still own names body avoid
  kind-still own names (consume_scope source element private body) avoid = (avoid.0, items-still own names body avoid.1)
  kind-still own names (nested_graph inner links) avoid = links-still own names links avoid
  kind-still own names (reduction resolution axis identity from to) avoid = avoid
  kind-still own names (copy from to) avoid = avoid

  pub items-still : (own : List ℕ) (names : Names) (items : ItemTrees) → ItemsAvoid own items → ItemsAvoid own (items_renamed names items)
  items-still own names no_item avoid = tt
  items-still own names (and_item line kind items) avoid = (kind-still own names kind avoid.0, items-still own names items avoid.1)
