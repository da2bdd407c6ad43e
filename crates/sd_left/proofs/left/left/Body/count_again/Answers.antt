use Rattle.std.proofs.Common.{◌≡◌, get_or, slice_set, cond, not, map, sym, ap, ap₂, ◌∙◌, rules, ℕ, List, subst}
use Rattle.std.proofs.lemmas.Result.{on_ok_weaker}
use Rattle.sd_work.specs.Residual.{is_ready}
use Rattle.sd_moves.specs.numbered.Counts.{one_if}
use Rattle.sd_order.specs.table.Told.{told}
use Rattle.sd_left.specs.declared.left.left.Left.{Left as LeftNow}
use Rattle.sd_left.specs.left.Telling.{flags_told, ready_moves}
use Rattle.sd_left.specs.left.Tells.{tells}
use Rattle.sd_left.proofs.left_lemmas.Sameness.{not-not}
use Rattle.sd_left.proofs.left_lemmas.Readiness.{one-member}
use Rattle.sd_left.proofs.left_lemmas.Changes.{put-there, item-again, items-again}
use Rattle.sd_left.proofs.left.left.Body.count_again.Goals as goal

pub returns-then-before-unfinished-clause-right : goal.returns-then-before-unfinished-clause-right
returns-then-before-unfinished-clause-right c = on_ok_weaker c.set-then-before-unfinished.result (λ set before part has right one.
    let now = c.args.self.now in
    let number = c.args.number in
    let all = now.parts.items in
    let there = put-there all before.parts.items number part c.requires.there has.parts in
    let is : c.index-part.result.now ≡ get_or all number c.index-part.result.now = search rules in
    let same : c.index-part.result.now ≡ part = one-member all number c.index-part.result.now part c.requires.there is there.1 in
    let left : c.one_if-unfinished.result ≡ one_if (tells part).is_unfinished =
    c.one_if-unfinished.ensures ∙ ap (λ f. one_if (not f)) c.is_finished.ensures ∙ ap one_if (not-not (tells c.index-part.result.now).is_unfinished) ∙ ap (λ (p : LeftNow). one_if (tells p).is_unfinished) same in
    let pools : c.in_ok-pools.pools ≡ (tells part).pools = c.in_ok-pools.ensures ∙ ap (λ (p : LeftNow). (tells p).pools) same in
    let put_pools : c.set.new.self ≡ slice_set now.«open» number c.in_ok-pools.pools = search rules in
    let put : c.set-2.new.self ≡ slice_set now.unfinished number c.one_if-unfinished.result = search rules in
    let counted : c.count-before.result ≡ get_or now.unfinished number 0 = search rules in
    let moves : c.in_ok-moves.moves ≡ cond (is_ready (told now.order) (flags_told (map tells c.deref.result.now)) number) (tells part).moves 0 =
    c.in_ok-moves.ensures part (subst (λ (parts : List LeftNow). part ≡ get_or parts number part) (sym c.deref.ensures.value) there.1) in
    item-again before number part (record { at = now.at; own = now.own; order = now.order; parts = now.parts; moves = c.set-then-before-unfinished.new.self; unfinished = c.set-2.new.self; «open» = c.set.new.self }) right one
    has.parts has.order (put ∙ ap₂ (λ (u : List ℕ) (v : ℕ). slice_set u number v) has.unfinished left) (put_pools ∙ ap₂ (λ (o : List ℕ) (v : ℕ). slice_set o number v) has.«open» pools)
    there.0 (ap (λ (u : List ℕ). get_or u number 0) (sym has.unfinished) ∙ sym counted ∙ c.if-before-unfinished.true ∙ left)
    (set ∙ ap₂ (λ (m : List ℕ) (v : ℕ). slice_set m number v) has.moves (moves ∙ ap (λ (ps : List LeftNow). cond (is_ready (told now.order) (flags_told (map tells ps)) number) (tells part).moves 0) c.deref.ensures.value))) c.set-then-before-unfinished.ensures.ok

pub returns-clause-right : goal.returns-clause-right
returns-clause-right c = λ before part has right one.
    let now = c.args.self.now in
    let number = c.args.number in
    let all = now.parts.items in
    let there = put-there all before.parts.items number part c.requires.there has.parts in
    let is : c.index-part.result.now ≡ get_or all number c.index-part.result.now = search rules in
    let same : c.index-part.result.now ≡ part = one-member all number c.index-part.result.now part c.requires.there is there.1 in
    let left : c.one_if-unfinished.result ≡ one_if (tells part).is_unfinished =
    c.one_if-unfinished.ensures ∙ ap (λ f. one_if (not f)) c.is_finished.ensures ∙ ap one_if (not-not (tells c.index-part.result.now).is_unfinished) ∙ ap (λ (p : LeftNow). one_if (tells p).is_unfinished) same in
    let pools : c.in_ok-pools.pools ≡ (tells part).pools = c.in_ok-pools.ensures ∙ ap (λ (p : LeftNow). (tells p).pools) same in
    let put_pools : c.set.new.self ≡ slice_set now.«open» number c.in_ok-pools.pools = search rules in
    let put : c.set-2.new.self ≡ slice_set now.unfinished number c.one_if-unfinished.result = search rules in
    let counted : c.in_ok-self.field-0 ≡ ready_moves (told now.order) (flags_told (map tells now.parts.items)) 0 (map tells now.parts.items) = search rules in
    items-again before number part (record { at = now.at; own = now.own; order = now.order; parts = now.parts; moves = c.in_ok-self.field-0; unfinished = c.set-2.new.self; «open» = c.set.new.self }) right one
    has.parts has.order (put ∙ ap₂ (λ (u : List ℕ) (v : ℕ). slice_set u number v) has.unfinished left) (put_pools ∙ ap₂ (λ (o : List ℕ) (v : ℕ). slice_set o number v) has.«open» pools) counted
