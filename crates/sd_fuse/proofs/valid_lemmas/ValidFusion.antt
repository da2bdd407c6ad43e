-- A valid graph and the graph with two maps of a list fused end alike.
use Rattle.std.proofs.Common.{ℕ, List, []}
use Rattle.sd_graph.specs.PlainTree.{GraphTree}
use Rattle.sd_safe.specs.normal.NormalForm.{IsGraphNormal}
use Rattle.sd_validity.specs.rules.Valid.{IsValid}
use Rattle.sd_validity.proofs.rules_lemmas.InForceLemmas.{names_what_is_in_force}
use Rattle.sd_safe.proofs.fit_lemmas.Fitting.{graph-fit}
use Rattle.sd_safe.proofs.fit_lemmas.Right.{right-places}
use Rattle.sd_exchange.specs.maps.AcceptedPools.{ArePoolsAccepted}
use Rattle.sd_exchange.specs.maps.Tails.{GraphLeadsTo, graph_tail}
use Rattle.sd_exchange.proofs.maps_lemmas.PoolsAccepted.{pools-accepted}
use Rattle.sd_exchange.proofs.maps_lemmas.Tailings.{tailed-end, tailed-began}
use Rattle.sd_exchange.proofs.valid_lemmas.Below.{names-its-variables}
use Rattle.sd_exchange.proofs.valid_lemmas.ValidOrder.{BothEndAlike}
use Rattle.sd_fuse.specs.maps.FusionRewrite.{CanFuse, fused_by}
use Rattle.sd_fuse.specs.maps.FusionAsked.{FusionAsked}
use Rattle.sd_fuse.proofs.maps_lemmas.WholeFusion.{Steps, StepsBack}
use Rattle.sd_fuse.proofs.maps_lemmas.FusionRewritten.{fuse-good}
use Rattle.sd_fuse.proofs.valid_lemmas.FusionLeads.{graph-goes}

pub valid-fuse : (distance : ℕ) (tree : GraphTree) (path : List ℕ) → IsValid tree → IsGraphNormal tree → GraphLeadsTo (FusionAsked distance) tree path → GraphLeadsTo (CanFuse distance) tree path
valid-fuse distance tree path valid normal leads =
    graph-goes distance tree [] 0 [] [] path valid.names (right-places tree valid) (names_what_is_in_force tree valid.names) (graph-fit tree valid normal) leads

pub fused-alike : (distance : ℕ) (tree : GraphTree) (path : List ℕ) → IsValid tree → IsGraphNormal tree → ArePoolsAccepted tree → GraphLeadsTo (FusionAsked distance) tree path → BothEndAlike tree (graph_tail (fused_by distance) [] tree path)
fused-alike distance tree path valid normal pools leads =
    let can = valid-fuse distance tree path valid normal leads in
    let fit = graph-fit tree valid normal in
    let accepted = pools-accepted tree pools in
    let own = (names-its-variables tree valid.names).0 in (
      λ memory turns left run. tailed-end (CanFuse distance) (fused_by distance) Steps StepsBack (fuse-good distance) [] tree path memory turns left can fit accepted own run,
      λ memory turns left run. tailed-began (CanFuse distance) (fused_by distance) Steps StepsBack (fuse-good distance) [] tree path memory turns left can fit accepted own run,
    )
