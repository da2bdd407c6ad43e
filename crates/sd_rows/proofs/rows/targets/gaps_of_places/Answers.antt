use Rattle.std.proofs.Common.{◌≡◌, ◌+◌, [], ◌∷◌, sym, ap, ◌∙◌}
use Rattle.sd_graph.specs.PlainTree.{GraphTree}
use Rattle.sd_graph.specs.Context.{link_extents}
use Rattle.sd_scope.specs.scope.Standing.{context_of}
use Rattle.sd_scope.specs.declared.scope.base.Base.{Base}
use Rattle.sd_row.proofs.instance_lemmas.Matched.{found_so}
use Rattle.sd_rows.proofs.rows_lemmas.Matched.{matched}
use Rattle.sd_rows.proofs.rows.targets.gaps_of_places.Goals as goal

pub returns-in-Some : goal.returns-in-Some
returns-in-Some c =
    matched (λ gaps. c.in-Some.count ≡ gaps + 1) (λ gaps. (tree : GraphTree) (base : Base) → link_extents (context_of tree base c.args.here.now) c.args.link.now ≡ (gaps + 1) ∷ []) c.gaps_of.result
    (λ gaps is tree base. sym (c.in_ok-extents.ensures tree base) ∙ sym c.as_slice.ensures.value
    ∙ found_so (λ one. c.as_slice.result.now ≡ one ∷ []) c.only_one.result c.in-Some.count c.in-Some.is c.only_one.ensures ∙ ap (λ n. n ∷ []) is) c.gaps_of.ensures
