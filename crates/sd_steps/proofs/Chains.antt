-- A chain keeps a graph valid and in normal form, and its runs end alike.
use Rattle.std.proofs.Common.{◌≡◌, ℕ, List, [], ◌∷◌, Option, Some, None, Result, Ok, refl, subst}
use Rattle.sd_graph.specs.PlainTree.{GraphTree}
use Rattle.sd_validity.specs.rules.Valid.{IsValid}
use Rattle.sd_safe.specs.normal.NormalForm.{IsGraphNormal}
use Rattle.sd_alike.specs.alike.Rewritten.{RunsSame}
use Rattle.sd_exchange.proofs.valid_lemmas.Following.{runs-same, runs-back, runs-follow}
use Rattle.sd_exchange.proofs.valid_lemmas.ValidOrder.{BothEndAlike}
use Rattle.sd_mapx.specs.Results.{collapsed_at, expanded_at}
use Rattle.sd_mapx.proofs.MapLaws.{collapsed_runs, collapsed_valid, expanded_runs, expanded_valid}
use Rattle.sd_mapx.proofs.NormalLaws.{collapsed_normal, expanded_normal, interchanged_normal, tiled_normal}
use Rattle.sd_mapx.proofs.OrderLaws.{interchanged_alike, interchange_valid}
use Rattle.sd_mapx.proofs.TileLaws.{tiled_alike, tile_valid, tiled_by_one_same}
use Rattle.sd_chain.specs.declared.step.Step.{Step}
use Rattle.sd_chain.specs.declared.step.Step.TheVariants.{MapCollapse, MapExpansion, MapInterchange, MapTiling}
use Rattle.sd_steps.specs.Chained.{failing, rewritten, unless_fails, chained, KeepsOrder, KeepOrder}

-- ---- one step

step_valid : (tree : GraphTree) (step : Step) → IsValid tree → failing tree step ≡ None → IsValid (rewritten tree step)
step_valid tree (MapCollapse at) valid none = collapsed_valid tree at.steps valid none
step_valid tree (MapExpansion at) valid none = expanded_valid tree at.steps valid none
step_valid tree (MapInterchange at) valid none = interchange_valid tree at.steps valid none
step_valid tree (MapTiling at sizes) valid none = tile_valid tree at.steps sizes valid none

step_normal : (tree : GraphTree) (step : Step) → IsGraphNormal tree → IsGraphNormal (rewritten tree step)
step_normal tree (MapCollapse at) normal = collapsed_normal tree at.steps normal
step_normal tree (MapExpansion at) normal = expanded_normal tree at.steps normal
step_normal tree (MapInterchange at) normal = interchanged_normal tree at.steps normal
step_normal tree (MapTiling at sizes) normal = tiled_normal tree at.steps sizes normal

same_alike : (tree other : GraphTree) → RunsSame tree other → BothEndAlike tree other
same_alike tree other same = (runs-same tree other same, runs-back tree other same)

step_alike : (tree : GraphTree) (step : Step) → IsValid tree → IsGraphNormal tree → failing tree step ≡ None → BothEndAlike tree (rewritten tree step)
step_alike tree (MapCollapse at) valid normal none = same_alike tree (collapsed_at tree at.steps) (collapsed_runs tree at.steps valid none)
step_alike tree (MapExpansion at) valid normal none = same_alike tree (expanded_at tree at.steps) (expanded_runs tree at.steps valid none)
step_alike tree (MapInterchange at) valid normal none = interchanged_alike tree at.steps valid normal none
step_alike tree (MapTiling at sizes) valid normal none = tiled_alike tree at.steps sizes valid normal none

step_same : (tree : GraphTree) (step : Step) → IsValid tree → KeepsOrder step → failing tree step ≡ None → RunsSame tree (rewritten tree step)
step_same tree (MapCollapse at) valid keeps none = collapsed_runs tree at.steps valid none
step_same tree (MapExpansion at) valid keeps none = expanded_runs tree at.steps valid none
step_same tree (MapInterchange at) valid keeps none = absurd keeps
step_same tree (MapTiling at []) valid keeps none = absurd keeps
step_same tree (MapTiling at (size ∷ [])) valid keeps none = tiled_by_one_same tree at.steps size valid none
step_same tree (MapTiling at (size ∷ second ∷ sizes)) valid keeps none = absurd keeps

-- ---- one after another

done_both : (line : ℕ) (failing : Option ℕ) (later : Result GraphTree (ℕ × ℕ)) (new : GraphTree) → unless_fails line failing later ≡ Ok new → (failing ≡ None) × (later ≡ Ok new)
done_both line None later new is = (refl, is)
done_both line (Some condition) later new is = cc

same_tree : (result : Result GraphTree (ℕ × ℕ)) (tree new : GraphTree) → result ≡ Ok tree → result ≡ Ok new → tree ≡ new
same_tree result tree new is other = cc

same_itself : (tree : GraphTree) → RunsSame tree tree
same_itself tree memory turns left = ((λ ran. ran), (λ ran. ran))

same_both : (first second third : GraphTree) → RunsSame first second → RunsSame second third → RunsSame first third
same_both first second third one other memory turns left =
    ((λ ran. (other memory turns left).0 ((one memory turns left).0 ran)), (λ ran. (one memory turns left).1 ((other memory turns left).1 ran)))

alike_both : (first second third : GraphTree) → BothEndAlike first second → BothEndAlike second third → BothEndAlike first third
alike_both first second third one other = (runs-follow first second third one.0 other.0, runs-follow third second first other.1 one.1)

pub chain_valid : (steps : List (ℕ × Step)) (tree new : GraphTree) → IsValid tree → chained tree steps ≡ Ok new → IsValid new
chain_valid [] tree new valid is = subst IsValid (same_tree (Ok tree) tree new refl is) valid
chain_valid (step ∷ steps) tree new valid is =
    let parts = done_both step.0 (failing tree step.1) (chained (rewritten tree step.1) steps) new is in
    chain_valid steps (rewritten tree step.1) new (step_valid tree step.1 valid parts.0) parts.1

pub chain_normal : (steps : List (ℕ × Step)) (tree new : GraphTree) → IsGraphNormal tree → chained tree steps ≡ Ok new → IsGraphNormal new
chain_normal [] tree new normal is = subst IsGraphNormal (same_tree (Ok tree) tree new refl is) normal
chain_normal (step ∷ steps) tree new normal is =
    let parts = done_both step.0 (failing tree step.1) (chained (rewritten tree step.1) steps) new is in
    chain_normal steps (rewritten tree step.1) new (step_normal tree step.1 normal) parts.1

pub chain_alike : (steps : List (ℕ × Step)) (tree new : GraphTree) → IsValid tree → IsGraphNormal tree → chained tree steps ≡ Ok new → BothEndAlike tree new
chain_alike [] tree new valid normal is = subst (BothEndAlike tree) (same_tree (Ok tree) tree new refl is) (same_alike tree tree (same_itself tree))
chain_alike (step ∷ steps) tree new valid normal is =
    let parts = done_both step.0 (failing tree step.1) (chained (rewritten tree step.1) steps) new is in
    alike_both tree (rewritten tree step.1) new (step_alike tree step.1 valid normal parts.0)
    (chain_alike steps (rewritten tree step.1) new (step_valid tree step.1 valid parts.0) (step_normal tree step.1 normal) parts.1)

pub chain_same : (steps : List (ℕ × Step)) (tree new : GraphTree) → IsValid tree → KeepOrder steps → chained tree steps ≡ Ok new → RunsSame tree new
chain_same [] tree new valid keep is = subst (RunsSame tree) (same_tree (Ok tree) tree new refl is) (same_itself tree)
chain_same (step ∷ steps) tree new valid keep is =
    let parts = done_both step.0 (failing tree step.1) (chained (rewritten tree step.1) steps) new is in
    same_both tree (rewritten tree step.1) new (step_same tree step.1 valid keep.0 parts.0)
    (chain_same steps (rewritten tree step.1) new (step_valid tree step.1 valid parts.0) keep.1 parts.1)
