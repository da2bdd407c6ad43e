-- A collapsed and an expanded map keep the rule of names.
use Rattle.std.proofs.Common.{ℕ, List, [], ◌++◌, length, if◌then◌else◌, sym, subst}
use Rattle.std.specs.Bool.{⊤}
use Rattle.sd_graph.specs.PlainTree.{KindTree, GraphTree, graph}
use Rattle.sd_validity.specs.rules.Failing.{Holds}
use Rattle.sd_validity.specs.rules.NamesInForce.{held_at, params_at, set_at, rule_1}
use Rattle.sd_alike.specs.alike.Places.{Replacing, states_nest, graph_with, GraphLeads}
use Rattle.sd_alike.specs.alike.Maps.{IsCollapsible, collapsed, IsExpandable, expanded}
use Rattle.sd_alike.proofs.kept_lemmas.Held.{HoldsAll, KeepsAsked, Grows}
use Rattle.sd_alike.proofs.kept_lemmas.HeldReplaced.{graph_keeps, none_grow}
use Rattle.sd_alike.proofs.kept_lemmas.NamesAsked.{names_asked, names_local, collapsed_names, expanded_names}
use Rattle.sd_alike.proofs.kept_lemmas.EachGraph.{InKind, AmongItems, each_stays}
use Rattle.sd_alike.proofs.kept_lemmas.NumbersKept.{KeepsBy, KeepsNumbers, AreAmong, once_stays, collapsed_held, collapsed_params, collapsed_set, expanded_held, expanded_params, expanded_set}
use Rattle.sd_alike.proofs.kept_lemmas.GivenBelow.{given_below}
use Rattle.sd_alike.proofs.kept_lemmas.RuleOfNames.{IsNamedGraph, names_held, each_once, rule_of_names}

-- What a replaced item must keep for the rule of names: its part on single places, what scopes make their own, the variables that are set and the parameters.
pub record KeepsNames (names : List (List ℕ)) (Known : GraphTree → (variables : ℕ) → Type 0) (Leading : ℕ → KindTree → Type 0) (replacing : Replacing) : Type 0 where
  pub grows : Grows names_asked names Known
  pub asked : KeepsAsked names_asked Known Leading replacing
  pub held : KeepsNumbers held_at Leading replacing
  pub params : KeepsBy AreAmong params_at Leading replacing
  pub set : KeepsNumbers set_at Leading replacing
  pub nested : (variables line : ℕ) (kind : KindTree) → Leading variables kind → InKind (λ tree. IsNamedGraph tree) kind → AmongItems (λ tree. IsNamedGraph tree) (replacing variables line kind)

module _ (names : List (List ℕ)) (Known : GraphTree → (variables : ℕ) → Type 0) (Leading : ℕ → KindTree → Type 0) (replacing : Replacing) (keeps : KeepsNames names Known Leading replacing) where
  named_keeps : (tree : GraphTree) (path : List ℕ) → GraphLeads Leading tree path → HoldsAll names_asked tree → HoldsAll names_asked (graph_with replacing names tree path)
  named_keeps = graph_keeps names_asked names_local names Known keeps.grows Leading replacing keeps.asked

  graph_named : (tree : GraphTree) (path : List ℕ) → GraphLeads Leading tree path → IsNamedGraph tree → IsNamedGraph (graph_with replacing names tree path)
  graph_named (graph name containers arguments variables symbols states) path leads was = record {
    once = once_stays Leading names replacing keeps.held keeps.params keeps.set name containers arguments variables (if states_nest states path then variables else variables ++ names) symbols states path leads
        (given_below name containers arguments variables symbols states was.named) was.once;
    named = named_keeps (graph name containers arguments variables symbols states) path leads was.named;
  }

  pub names_keep : (tree : GraphTree) (path : List ℕ) → GraphLeads Leading tree path → Holds rule_1 tree → Holds rule_1 (graph_with replacing names tree path)
  names_keep tree path leads holds =
      rule_of_names (graph_with replacing names tree path) (named_keeps tree path leads (names_held tree holds))
      (each_stays (λ tree. IsNamedGraph tree) names Leading replacing keeps.nested graph_named tree path leads (each_once tree holds))

collapsed_nests : (variables line : ℕ) (kind : KindTree) → IsCollapsible variables kind → InKind (λ tree. IsNamedGraph tree) kind → AmongItems (λ tree. IsNamedGraph tree) (collapsed variables line kind)
collapsed_nests variables line kind collapsible each =
    subst (λ kind. InKind (λ tree. IsNamedGraph tree) kind → AmongItems (λ tree. IsNamedGraph tree) (collapsed variables line kind)) (sym collapsible.shape) (λ each. (each.0, tt)) each

expanded_nests : (variables line : ℕ) (kind : KindTree) → IsExpandable variables kind → InKind (λ tree. IsNamedGraph tree) kind → AmongItems (λ tree. IsNamedGraph tree) (expanded variables line kind)
expanded_nests variables line kind expandable each =
    subst (λ kind. InKind (λ tree. IsNamedGraph tree) kind → AmongItems (λ tree. IsNamedGraph tree) (expanded variables line kind)) (sym expandable.shape) (λ each. ((each, tt), tt)) each

pub collapsed_keeps_names : (tree : GraphTree) (path : List ℕ) → GraphLeads IsCollapsible tree path → Holds rule_1 tree → Holds rule_1 (graph_with collapsed [] tree path)
collapsed_keeps_names =
    names_keep [] (λ tree variables. ⊤) IsCollapsible collapsed
    (record { grows = none_grow names_asked names_local; asked = collapsed_names; held = collapsed_held; params = collapsed_params; set = collapsed_set; nested = collapsed_nests })

pub expanded_keeps_names : (tree : GraphTree) (path : List ℕ) → GraphLeads IsExpandable tree path → Holds rule_1 tree → Holds rule_1 (graph_with expanded [] tree path)
expanded_keeps_names =
    names_keep [] (λ tree variables. ⊤) IsExpandable expanded
    (record { grows = none_grow names_asked names_local; asked = expanded_names; held = expanded_held; params = expanded_params; set = expanded_set; nested = expanded_nests })
