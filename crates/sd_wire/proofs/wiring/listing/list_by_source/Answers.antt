use Rattle.std.proofs.Common.{None, refl, rules}
use Rattle.std.proofs.lemmas.List.Sorted.{IsNonDecreasingBy-from_sort_by_key, answers_always}
use Rattle.sd_wire.proofs.wiring_lemmas.Listed.{sorted_is_listed}
use Rattle.sd_wire.proofs.wiring.listing.list_by_source.Goals as goal

pub returns : goal.returns
returns c =
    sorted_is_listed (λ edge. edge.from) (λ n. record { from = n; to = n; link = None; container = None }) (λ n. refl) c.args.edges.now.items c.sort_by_key.new.self.items
    (IsNonDecreasingBy-from_sort_by_key (λ edge. edge.from) _ c.in_ok-sort_by_key.ensures.sorted (λ a r q k. search rules))
    (c.sort_by_key.ensures.stable (λ edge. edge.from) (answers_always _ _ _ (λ f a r g h. search rules)))
