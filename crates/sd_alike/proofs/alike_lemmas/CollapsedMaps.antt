-- A collapsed and an expanded map do the same as the map that was there.
use Rattle.std.proofs.Common.{◌≡◌, ℕ, List, [], ◌∷◌, ◌++◌, ◌||◌, Option, Some, None, option_map, refl, sym, ◌∙◌, subst}
use Rattle.sd_work.specs.Memory.{Memories}
use Rattle.sd_work.specs.Residual.{Term, none, also}
use Rattle.sd_work.specs.BigStep.{Reached, Coming, big_step}
use Rattle.sd_graph.specs.PlainTree.{KindTree, map_scope, no_item, and_item, GraphTree}
use Rattle.sd_graph.specs.Unfold.{unfold_kind, unfold_items}
use Rattle.sd_alike.specs.alike.Lift.{as_it_is}
use Rattle.sd_alike.specs.alike.SameWork.{done_of, reached_in, GoesSame, DoesSame, DoSame}
use Rattle.sd_alike.specs.alike.Alike.{KindBelow, NamesItsVariables}
use Rattle.sd_alike.specs.alike.Places.{graph_with, GraphLeads}
use Rattle.sd_alike.specs.alike.Maps.{IsCollapsible, collapsed, IsExpandable, expanded}
use Rattle.sd_alike.specs.alike.Rewritten.{ReplacesSame, RunsSame}
use Rattle.sd_alike.proofs.alike_lemmas.SameTerms.{also_same}
use Rattle.sd_alike.proofs.alike_lemmas.SameTrees.{kind_same}
use Rattle.sd_alike.proofs.alike_lemmas.SplitMaps.{split_map}
use Rattle.sd_alike.proofs.alike_lemmas.WholeRuns.{rewritten_runs_same}

as_it_stands : (done : Option Reached) → option_map (reached_in as_it_is) done ≡ done
as_it_stands None = refl
as_it_stands (Some now) = refl

-- to do the same goes both ways, and from one to the next
pub same_back : {P Q : Type 0} (go : Memories → ℕ → Coming P) (other : Memories → ℕ → Coming Q) → GoesSame as_it_is go other → GoesSame as_it_is other go
same_back go other same = λ memories turns. sym (as_it_stands (done_of (go memories turns))) ∙ sym (same memories turns) ∙ sym (as_it_stands (done_of (other memories turns)))

pub same_on : {P Q R : Type 0} (first : Memories → ℕ → Coming P) (second : Memories → ℕ → Coming Q) (third : Memories → ℕ → Coming R) → GoesSame as_it_is first second → GoesSame as_it_is second third → GoesSame as_it_is first third
same_on first second third same next = λ memories turns. next memories turns ∙ as_it_stands (done_of (second memories turns)) ∙ same memories turns

-- one item alone
pub alone_same : {P Q : Type 0} (most : ℕ) (part : Term P) (other : Term Q) → DoesSame most as_it_is part other → DoSame most as_it_is (also part none) (also other none)
alone_same most part other same = also_same most as_it_is part other none none same (λ memories turns. refl)

collapse_replaces : (most : ℕ) → ReplacesSame most IsCollapsible collapsed
collapse_replaces most variables line kind context other holds below alike =
    let outer : KindTree = map_scope holds.outer_sequential holds.outer [] (and_item holds.inner_line (map_scope holds.inner_sequential holds.inner holds.private holds.body) no_item) in
    let one : KindTree = map_scope (holds.outer_sequential || holds.inner_sequential) (holds.outer ++ holds.inner) holds.private holds.body in
    let below_outer : KindBelow variables outer = subst (KindBelow variables) holds.shape below in
    subst (λ kind. DoSame most as_it_is (also (unfold_kind kind line context) none) (unfold_items (collapsed variables line kind) other)) (sym holds.shape)
    (alone_same most (unfold_kind outer line context) (unfold_kind one line other)
    (same_on (big_step (unfold_kind outer line context) most) (big_step (unfold_kind outer line other) most) (big_step (unfold_kind one line other) most)
    (kind_same most outer line as_it_is variables context other below_outer alike)
    (same_back (big_step (unfold_kind one line other) most) (big_step (unfold_kind outer line other) most)
    (split_map most (holds.outer_sequential || holds.inner_sequential) holds.outer_sequential holds.inner_sequential holds.outer holds.inner holds.private holds.body line line holds.inner_line variables other holds.apart below_outer.1.0.1))))

expand_replaces : (most : ℕ) → ReplacesSame most IsExpandable expanded
expand_replaces most variables line kind context other holds below alike =
    let one : KindTree = map_scope holds.sequential (holds.first ∷ holds.second ∷ holds.others) holds.private holds.body in
    let outer : KindTree = map_scope holds.sequential (holds.first ∷ []) [] (and_item line (map_scope holds.sequential (holds.second ∷ holds.others) holds.private holds.body) no_item) in
    let below_one : KindBelow variables one = subst (KindBelow variables) holds.shape below in
    subst (λ kind. DoSame most as_it_is (also (unfold_kind kind line context) none) (unfold_items (expanded variables line kind) other)) (sym holds.shape)
    (alone_same most (unfold_kind one line context) (unfold_kind outer line other)
    (same_on (big_step (unfold_kind one line context) most) (big_step (unfold_kind one line other) most) (big_step (unfold_kind outer line other) most)
    (kind_same most one line as_it_is variables context other below_one alike)
    (split_map most holds.sequential holds.sequential holds.sequential (holds.first ∷ []) (holds.second ∷ holds.others) holds.private holds.body line line line variables other holds.apart below_one.1)))

pub collapsed_runs_same : (tree : GraphTree) (path : List ℕ) → GraphLeads IsCollapsible tree path → NamesItsVariables tree → RunsSame tree (graph_with collapsed [] tree path)
collapsed_runs_same = rewritten_runs_same IsCollapsible collapsed [] collapse_replaces

pub expanded_runs_same : (tree : GraphTree) (path : List ℕ) → GraphLeads IsExpandable tree path → NamesItsVariables tree → RunsSame tree (graph_with expanded [] tree path)
expanded_runs_same = rewritten_runs_same IsExpandable expanded [] expand_replaces
