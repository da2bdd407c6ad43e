-- A valid graph and the graph with two maps interchanged, or with one cut into tiles, end alike.
use Rattle.std.proofs.Common.{ℕ, List, [], sym, subst}
use Rattle.sd_graph.specs.PlainTree.{GraphTree}
use Rattle.sd_safe.specs.normal.NormalForm.{IsGraphNormal}
use Rattle.sd_validity.specs.rules.Valid.{IsValid}
use Rattle.sd_safe.proofs.fit_lemmas.Fitting.{graph-fit}
use Rattle.sd_alike.specs.alike.Places.{Replacing, graph_with}
use Rattle.sd_exchange.specs.maps.AcceptedPools.{ArePoolsAccepted}
use Rattle.sd_exchange.specs.maps.Rewritten.{Rewrite}
use Rattle.sd_exchange.specs.maps.RunsAlike.{RunsAlike}
use Rattle.sd_exchange.specs.maps.Tails.{Asked, GraphLeadsTo, tail_of}
use Rattle.sd_exchange.specs.maps.Interchange.{Interchanged, InterchangedBack}
use Rattle.sd_exchange.specs.maps.MapTiled.{MapTiled, MapTiledBack}
use Rattle.sd_exchange.specs.maps.OrderAsked.{InterchangeAsked, TilingAsked}
use Rattle.sd_exchange.specs.maps.OrderRewrites.{interchanged, CanInterchange, tiled_by, CanTile}
use Rattle.sd_exchange.proofs.maps_lemmas.PoolsAccepted.{pools-accepted}
use Rattle.sd_exchange.proofs.maps_lemmas.Leading.{can-tile, can-interchange}
use Rattle.sd_exchange.proofs.maps_lemmas.OrderRewritten.{interchange-good, tile-good}
use Rattle.sd_exchange.proofs.maps_lemmas.Tailings.{IsGood, graph-with, tailed-end, tailed-began}
use Rattle.sd_exchange.proofs.valid_lemmas.Below.{names-its-variables}

-- both ways
abbrev pub BothEndAlike : (tree other : GraphTree) → Type 0
BothEndAlike tree other = RunsAlike tree other × RunsAlike other tree

both-alike : (Holds : Asked) (replacing : Replacing) (R S : Rewrite) → IsGood Holds (tail_of replacing) R S → (names : List (List ℕ)) (tree : GraphTree) (path : List ℕ) → IsValid tree → IsGraphNormal tree → ArePoolsAccepted tree → GraphLeadsTo Holds tree path →
    BothEndAlike tree (graph_with replacing names tree path)
both-alike Holds replacing R S good names tree path valid normal pools leads =
    let fit = graph-fit tree valid normal in
    let accepted = pools-accepted tree pools in
    let own = (names-its-variables tree valid.names).0 in
    subst (λ (g : GraphTree). BothEndAlike tree g) (sym (graph-with replacing names tree path)) (
      λ memory turns left run. tailed-end Holds (tail_of replacing) R S good names tree path memory turns left leads fit accepted own run,
      λ memory turns left run. tailed-began Holds (tail_of replacing) R S good names tree path memory turns left leads fit accepted own run,
    )

pub interchanged-alike : (tree : GraphTree) (path : List ℕ) → IsValid tree → IsGraphNormal tree → ArePoolsAccepted tree → GraphLeadsTo InterchangeAsked tree path → BothEndAlike tree (graph_with interchanged [] tree path)
interchanged-alike tree path valid normal pools leads =
    let own = names-its-variables tree valid.names in
    both-alike CanInterchange interchanged Interchanged InterchangedBack interchange-good [] tree path valid normal pools (can-interchange tree path (graph-fit tree valid normal) own.0 own.1 leads)

pub tiled-alike : (sizes : List ℕ) (names : List (List ℕ)) (tree : GraphTree) (path : List ℕ) → IsValid tree → IsGraphNormal tree → ArePoolsAccepted tree → GraphLeadsTo (TilingAsked sizes) tree path → BothEndAlike tree (graph_with (tiled_by sizes) names tree path)
tiled-alike sizes names tree path valid normal pools leads =
    let own = names-its-variables tree valid.names in
    both-alike (CanTile sizes) (tiled_by sizes) MapTiled MapTiledBack (tile-good sizes) names tree path valid normal pools (can-tile sizes tree path (graph-fit tree valid normal) own.0 own.1 leads)
