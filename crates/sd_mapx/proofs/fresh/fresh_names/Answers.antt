use Rattle.std.proofs.Common.{rules, ◌≡◌, ◌∙◌, ◌+◌, ◌++◌, ◌∷◌, [], ℕ, List, drop, map, ap, string_bytes}
use Rattle.sd_graph.proofs.TreeLemmas.{map_grown}
use Rattle.sd_mapx.specs.FreshNames.{name_of, fresh_name}
use Rattle.sd_mapx.proofs.FreshLemmas.{gathered, fresh_of, fresh_next}
use Rattle.sd_mapx.proofs.fresh.fresh_names.Goals as goal

pub loop-variable-preserved : goal.loop-variable-preserved
loop-variable-preserved c =
    let used : List (List ℕ) = map string_bytes c.loop-variable.used.items in
    let variables : List (List ℕ) = map string_bytes c.args.variables.now in
    let after : List (List ℕ) = map string_bytes c.push.new.self.items in
    let name : List ℕ = string_bytes c.in_ok-name.name in
    let params = c.args.params.now in
    let param = c.loop-variable-item.result in
    let index : ℕ = c.loop-variable.variable-index in
    let same : string_bytes c.in_ok-to_string.field-0 ≡ string_bytes c.in_ok-name.name = search rules in
    let more : after ≡ used ++ name ∷ [] =
    ap (map string_bytes) c.in_ok-push.ensures.items ∙ map_grown string_bytes c.loop-variable.used.items c.in_ok-to_string.field-0 ∙ ap (λ (last : List ℕ). used ++ last ∷ []) same in
    let fresh : name ≡ fresh_name used (name_of variables param.0) =
    c.in_ok-name.ensures ∙ (λ i. fresh_name (map string_bytes (c.as_slice.ensures.value i)) (c.name_of.ensures i)) in
    gathered (map string_bytes c.loop-variable.fresh.items) (name ∷ []) (map string_bytes c.push-in-loop-variable.new.self.items)
    (fresh_of used variables (drop index params)) (fresh_of after variables (drop (index + 1) params)) _
    (ap (map string_bytes) c.in_ok-push-2.ensures.items ∙ map_grown string_bytes c.loop-variable.fresh.items c.in_ok-name.name)
    (fresh_next used variables params index param name after c.loop-variable-test.true c.loop-variable-item.is fresh more)
    c.loop-variable.invariant
