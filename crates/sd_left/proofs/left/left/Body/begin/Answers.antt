use Rattle.std.proofs.Common.{◌≡◌, map, ap, ◌∙◌, rules}
use Rattle.sd_order.specs.table.Told.{told}
use Rattle.sd_left.specs.left.Telling.{Telling, flags_told, ready_moves, unfinished_told, pools_told, all_right}
use Rattle.sd_left.specs.left.Tells.{tells}
use Rattle.sd_left.proofs.left_lemmas.Sameness.{exact}
use Rattle.sd_left.proofs.left_lemmas.TellRolls.{body_rolled}
use Rattle.sd_left.proofs.left.left.Body.begin.Goals as goal

pub returns-clause-right : goal.returns-clause-right
returns-clause-right c =
    let parts = c.args.parts.items in
    let wanted = ready_moves (told c.args.order) (flags_told (map tells parts)) 0 (map tells parts) in
    let moves : c.in_ok-moves-2.moves ≡ wanted = search rules in
    let unfinished : c.in_ok-unfinished-2.unfinished ≡ unfinished_told (map tells parts) = search rules in
    let pools : c.in_ok-pools-2.pools ≡ pools_told (map tells parts) = search rules in
    ap (λ (t : Telling). t.is_right)
    (body_rolled (record { at = c.args.at; own = c.args.own; order = c.args.order; parts = c.args.parts; moves = c.in_ok-moves-2.moves; unfinished = c.in_ok-unfinished-2.unfinished; «open» = c.in_ok-pools-2.pools }))
    ∙ exact c.in_ok-moves-2.moves wanted c.in_ok-unfinished-2.unfinished (unfinished_told (map tells parts)) c.in_ok-pools-2.pools (pools_told (map tells parts)) (all_right (map tells parts)) moves unfinished pools
