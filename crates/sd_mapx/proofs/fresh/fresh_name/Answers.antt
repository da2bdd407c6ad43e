use Rattle.std.proofs.Common.{rules, ◌≡◌, ◌∙◌, ◌+◌, ◌-◌, ◌<◌, ℕ, suc, List, length, map, ap, sym, string_bytes, true, if◌then◌else◌, arith}
use Rattle.sd_mapx.specs.FreshNames.{is_used, numbered, first_unused}
use Rattle.sd_mapx.proofs.fresh.fresh_name.Goals as goal

pub loop-number-preserved : goal.loop-number-preserved
loop-number-preserved c =
    let used : List (List ℕ) = map string_bytes c.args.used.now in
    let name : List ℕ = c.args.name.now in
    let number : ℕ = c.loop-number.number in
    let last : ℕ = length c.args.used.now + 1 in
    let less : number < last = search rules in
    let one_more : last - number ≡ suc (last - (number + 1)) = omega (arith, less) in
    let taken : c.is_used.result ≡ true = search rules in
    let there : is_used used (numbered name number) ≡ true =
    sym (c.is_used.ensures ∙ ap (is_used used) (c.as_str.ensures.value ∙ c.in_ok-fresh.ensures)) ∙ taken in
    let step : first_unused (last - number) used name number ≡ first_unused (last - (number + 1)) used name (number + 1) =
    ap (λ tries. first_unused tries used name number) one_more ∙ ap (λ test. if test then first_unused (last - (number + 1)) used name (number + 1) else numbered name number) there in
    sym step ∙ c.loop-number.invariant
