use Rattle.std.proofs.Common.{rules, ◌≡◌, ◌∙◌, ◌+◌, ℕ, ◌∷◌, ◌++◌, drop, map, ap, sym, subst, string_bytes}
use Rattle.std.proofs.lemmas.List.{drop_more}
use Rattle.sd_task.proofs.containers_lemmas.MapLemmas.{one_more_in_set}
use Rattle.sd_task.proofs.containers.name_list.set_of.Goals as goal

pub loop-name-preserved : goal.loop-name-preserved
loop-name-preserved c =
    let names = c.args.names.now in
    let place : ℕ = c.loop-name.name-index in
    let item = c.name-item.result in
    let rest = drop (place + 1) names in
    let key = c.in_ok-from_str.field-0 in
    let left : drop place names ≡ item ∷ rest = drop_more names place item (search rules) ∙ ap (λ first. first ∷ rest) (sym c.name-item.is) in
    let same : string_bytes key ≡ string_bytes item = search rules in
    let all : map string_bytes c.loop-name.set.keys ++ string_bytes key ∷ map string_bytes rest ≡ map string_bytes names =
    ap (λ name. map string_bytes c.loop-name.set.keys ++ name ∷ map string_bytes rest) same ∙ subst (λ l. map string_bytes c.loop-name.set.keys ++ map string_bytes l ≡ map string_bytes names) left c.loop-name.invariant in
    ap (λ keys. map string_bytes keys ++ map string_bytes rest) c.in_ok-insert.ensures.keys ∙ one_more_in_set c.loop-name.set.keys key (map string_bytes rest) (map string_bytes names) all c.requires
