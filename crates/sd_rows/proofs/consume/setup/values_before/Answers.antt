use Rattle.std.proofs.Common.{◌≡◌, [], ◌∷◌, ◌++◌, pos, ℤ, List, map, take, get_or, sym, ap, ◌∙◌, append_assoc, rules}
use Rattle.std.proofs.lemmas.List.{map-append, take_more}
use Rattle.sd_tcode.specs.columns.Columns.{value_on}
use Rattle.sd_rows.proofs.consume.setup.values_before.Goals as goal

pub loop-number-preserved : goal.loop-number-preserved
loop-number-preserved c =
    let numbers = c.args.numbers.now in
    let index = c.loop-number.number-index in
    let own : List ℤ = map (λ numbers. value_on numbers 0) c.args.variables.now in
    let value : value_on c.still.result 0 ≡ get_or numbers index (pos 0) = search rules in
    ap (map (λ numbers. value_on numbers 0)) c.in_ok-push.ensures.items ∙ map-append (λ numbers. value_on numbers 0) c.loop-number.all.items (c.still.result ∷ [])
    ∙ ap (λ front. front ++ value_on c.still.result 0 ∷ []) c.loop-number.invariant
    ∙ append_assoc own (take index numbers) (value_on c.still.result 0 ∷ [])
    ∙ ap (λ (back : List ℤ). own ++ back) (ap (λ value. take index numbers ++ value ∷ []) value ∙ sym (take_more numbers index (pos 0) c.loop-number-test.true))
