use Rattle.std.proofs.Common.{◌≡◌, map, ap, ◌∙◌, rules}
use Rattle.sd_left.specs.left.Telling.{Telling, moves_told, unfinished_told, pools_told, all_right}
use Rattle.sd_left.specs.left.Tells.{body_tells}
use Rattle.sd_left.proofs.left_lemmas.Sameness.{exact}
use Rattle.sd_left.proofs.left_lemmas.TellRolls.{bodies_rolled}
use Rattle.sd_left.proofs.left.left.Bodies.of.Goals as goal

pub returns-clause-right : goal.returns-clause-right
returns-clause-right c =
    let bodies = c.args.bodies.items in
    let moves : c.in_ok-moves-2.moves ≡ moves_told (map body_tells bodies) = search rules in
    let unfinished : c.in_ok-unfinished-2.unfinished ≡ unfinished_told (map body_tells bodies) = search rules in
    let pools : c.in_ok-pools-2.pools ≡ pools_told (map body_tells bodies) = search rules in
    ap (λ (t : Telling). t.is_right) (bodies_rolled (record { bodies = c.args.bodies; moves = c.in_ok-moves-2.moves; unfinished = c.in_ok-unfinished-2.unfinished; «open» = c.in_ok-pools-2.pools }))
    ∙ exact c.in_ok-moves-2.moves (moves_told (map body_tells bodies)) c.in_ok-unfinished-2.unfinished (unfinished_told (map body_tells bodies)) c.in_ok-pools-2.pools (pools_told (map body_tells bodies)) (all_right (map body_tells bodies)) moves unfinished pools
