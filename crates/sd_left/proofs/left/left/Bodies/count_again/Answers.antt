use Rattle.std.proofs.Common.{◌≡◌, get_or, slice_set, not, ap, ap₂, ◌∙◌, rules, ℕ, List}
use Rattle.std.proofs.lemmas.Result.{on_ok_weaker}
use Rattle.sd_moves.specs.numbered.Counts.{one_if}
use Rattle.sd_left.specs.declared.left.left.Left.{Left as LeftNow}
use Rattle.sd_left.specs.declared.left.left.Bodies.{Bodies as BodiesNow}
use Rattle.sd_left.specs.declared.left.left.Body.{Body as BodyNow}
use Rattle.sd_left.specs.declared.left.left.Run.{Run as RunNow}
use Rattle.sd_left.specs.declared.left.left.Left.TheOpen.{Bodies-F}
use Rattle.sd_left.specs.declared.left.left.Left.TheViews.{out-Bodies, roll-Bodies, out-roll-Bodies}
use Rattle.sd_left.specs.left.Tells.{body_tells}
use Rattle.sd_left.proofs.left_lemmas.Sameness.{not-not}
use Rattle.sd_left.proofs.left_lemmas.Readiness.{one-member}
use Rattle.sd_left.proofs.left_lemmas.Changes.{put-there, bodies-again}
use Rattle.sd_left.proofs.left.left.Bodies.count_again.Goals as goal

abbrev Layer : Type 0
Layer = Bodies-F LeftNow BodiesNow BodyNow RunNow

pub returns-clause-right : goal.returns-clause-right
returns-clause-right c = on_ok_weaker c.set-3.result (λ set before body has right one.
    let now = c.args.self.now in
    let number = c.args.number in
    let first : Layer = record { bodies = (out-Bodies now).bodies; moves = c.set.new.self; unfinished = (out-Bodies now).unfinished; «open» = (out-Bodies now).«open» } in
    let second : Layer = record { bodies = (out-Bodies (roll-Bodies first)).bodies; moves = (out-Bodies (roll-Bodies first)).moves; unfinished = c.set-2.new.self; «open» = (out-Bodies (roll-Bodies first)).«open» } in
    let once : out-Bodies (roll-Bodies first) ≡ first = out-roll-Bodies first in
    let twice : out-Bodies (roll-Bodies second) ≡ second = out-roll-Bodies second in
    let all = (out-Bodies now).bodies.items in
    let there = put-there all (out-Bodies before).bodies.items number body c.requires.there has.bodies in
    let is : c.index-body.result.now ≡ get_or all number c.index-body.result.now = search rules in
    let same : c.index-body.result.now ≡ body = one-member all number c.index-body.result.now body c.requires.there is there.1 in
    let moves : c.moves_of_body-moves.result ≡ (body_tells body).moves = c.moves_of_body-moves.ensures ∙ ap (λ (b : BodyNow). (body_tells b).moves) same in
    let left : c.one_if-unfinished.result ≡ one_if (body_tells body).is_unfinished =
    c.one_if-unfinished.ensures ∙ ap (λ f. one_if (not f)) c.is_body_finished.ensures ∙ ap one_if (not-not (body_tells c.index-body.result.now).is_unfinished) ∙ ap (λ (b : BodyNow). one_if (body_tells b).is_unfinished) same in
    let pools : c.pools_of_body-pools.result ≡ (body_tells body).pools = c.pools_of_body-pools.ensures ∙ ap (λ (b : BodyNow). (body_tells b).pools) same in
    let put : c.set.new.self ≡ slice_set (out-Bodies now).moves number c.moves_of_body-moves.result = search rules in
    let put_too : c.set-2.new.self ≡ slice_set (out-Bodies (roll-Bodies first)).unfinished number c.one_if-unfinished.result = search rules in
    bodies-again before body (record { bodies = (out-Bodies (roll-Bodies second)).bodies; moves = (out-Bodies (roll-Bodies second)).moves; unfinished = (out-Bodies (roll-Bodies second)).unfinished; «open» = c.set-3.new.self }) right one number
    (ap (λ (x : Layer). x.bodies.items) twice ∙ ap (λ (x : Layer). x.bodies.items) once ∙ has.bodies)
    (ap (λ (x : Layer). x.moves) twice ∙ ap (λ (x : Layer). x.moves) once ∙ put ∙ ap₂ (λ (m : List ℕ) (v : ℕ). slice_set m number v) has.moves moves)
    (ap (λ (x : Layer). x.unfinished) twice ∙ put_too ∙ ap₂ (λ (u : List ℕ) (v : ℕ). slice_set u number v) (ap (λ (x : Layer). x.unfinished) once ∙ has.unfinished) left)
    (set ∙ ap₂ (λ (o : List ℕ) (v : ℕ). slice_set o number v) (ap (λ (x : Layer). x.«open») twice ∙ ap (λ (x : Layer). x.«open») once ∙ has.«open») pools)) c.set-3.ensures.ok
