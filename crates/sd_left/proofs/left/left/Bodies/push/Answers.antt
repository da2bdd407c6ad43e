use Rattle.std.proofs.Common.{◌≡◌, ◌∷◌, ◌++◌, [], map, not, sym, ap, ap₂, ◌∙◌, rules, ℕ, List, Bool, ◌&&◌}
use Rattle.sd_moves.specs.numbered.Counts.{one_if}
use Rattle.sd_left.specs.declared.left.left.Left.{Left as LeftNow}
use Rattle.sd_left.specs.declared.left.left.Bodies.{Bodies as BodiesNow}
use Rattle.sd_left.specs.declared.left.left.Body.{Body as BodyNow}
use Rattle.sd_left.specs.declared.left.left.Run.{Run as RunNow}
use Rattle.sd_left.specs.declared.left.left.Left.TheOpen.{Bodies-F}
use Rattle.sd_left.specs.declared.left.left.Left.TheViews.{out-Bodies, roll-Bodies, out-roll-Bodies}
use Rattle.sd_left.specs.left.Waits.{Told, all_hold, is_body_counted}
use Rattle.sd_left.specs.left.Tells.{body_tells}
use Rattle.sd_left.proofs.left_lemmas.Sameness.{not-not}
use Rattle.sd_left.proofs.left_lemmas.WaitRolls.{bodies_counted}
use Rattle.sd_left.proofs.left_lemmas.Recounted.{map-last}
use Rattle.sd_left.proofs.left_lemmas.Changes.{bodies-added, hold-last}
use Rattle.sd_left.proofs.left.left.Bodies.push.Goals as goal

abbrev Layer : Type 0
Layer = Bodies-F LeftNow BodiesNow BodyNow RunNow

pub returns-clause-right : goal.returns-clause-right
returns-clause-right c = λ right one.
    let now = c.args.self.now in
    let body = c.args.body in
    let first : Layer = record { bodies = (out-Bodies now).bodies; moves = c.push.new.self; unfinished = (out-Bodies now).unfinished; «open» = (out-Bodies now).«open» } in
    let second : Layer = record { bodies = (out-Bodies (roll-Bodies first)).bodies; moves = (out-Bodies (roll-Bodies first)).moves; unfinished = c.push-2.new.self; «open» = (out-Bodies (roll-Bodies first)).«open» } in
    let third : Layer = record { bodies = (out-Bodies (roll-Bodies second)).bodies; moves = (out-Bodies (roll-Bodies second)).moves; unfinished = (out-Bodies (roll-Bodies second)).unfinished; «open» = c.push-3.new.self } in
    let once : out-Bodies (roll-Bodies first) ≡ first = out-roll-Bodies first in
    let twice : out-Bodies (roll-Bodies second) ≡ second = out-roll-Bodies second in
    let thrice : out-Bodies (roll-Bodies third) ≡ third = out-roll-Bodies third in
    let added : c.push-4.new.self.items ≡ (out-Bodies (roll-Bodies third)).bodies.items ++ body ∷ [] = search rules in
    let same : (out-Bodies (roll-Bodies third)).bodies.items ≡ (out-Bodies now).bodies.items =
    ap (λ (x : Layer). x.bodies.items) thrice ∙ ap (λ (x : Layer). x.bodies.items) twice ∙ ap (λ (x : Layer). x.bodies.items) once in
    let moves : c.moves_of_body.result ≡ (body_tells body).moves = c.moves_of_body.ensures in
    let left : c.one_if.result ≡ one_if (body_tells body).is_unfinished =
    c.one_if.ensures ∙ ap (λ f. one_if (not f)) c.is_body_finished.ensures ∙ ap one_if (not-not (body_tells body).is_unfinished) in
    let pools : c.pools_of_body.result ≡ (body_tells body).pools = c.pools_of_body.ensures in
    let counted : c.push.new.self ≡ (out-Bodies now).moves ++ c.moves_of_body.result ∷ [] = search rules in
    let told : c.push-2.new.self ≡ (out-Bodies (roll-Bodies first)).unfinished ++ c.one_if.result ∷ [] = search rules in
    let put_pools : c.push-3.new.self ≡ (out-Bodies (roll-Bodies second)).«open» ++ c.pools_of_body.result ∷ [] = search rules in
    bodies-added now body (record { bodies = c.push-4.new.self; moves = (out-Bodies (roll-Bodies third)).moves; unfinished = (out-Bodies (roll-Bodies third)).unfinished; «open» = (out-Bodies (roll-Bodies third)).«open» }) right one
    (added ∙ ap (λ (bs : List BodyNow). bs ++ body ∷ []) same)
    (ap (λ (x : Layer). x.moves) thrice ∙ ap (λ (x : Layer). x.moves) twice ∙ ap (λ (x : Layer). x.moves) once ∙ counted ∙ ap (λ (m : ℕ). (out-Bodies now).moves ++ m ∷ []) moves)
    (ap (λ (x : Layer). x.unfinished) thrice ∙ ap (λ (x : Layer). x.unfinished) twice ∙ told ∙ ap₂ (λ (x : Layer) (u : ℕ). x.unfinished ++ u ∷ []) once left)
    (ap (λ (x : Layer). x.«open») thrice ∙ put_pools ∙ ap₂ (λ (o : List ℕ) (p : ℕ). o ++ p ∷ []) (ap (λ (x : Layer). x.«open») twice ∙ ap (λ (x : Layer). x.«open») once) pools)

pub returns-clause-counted : goal.returns-clause-counted
returns-clause-counted c = λ memories.
    let now = c.args.self.now in
    let body = c.args.body in
    let first : Layer = record { bodies = (out-Bodies now).bodies; moves = c.push.new.self; unfinished = (out-Bodies now).unfinished; «open» = (out-Bodies now).«open» } in
    let second : Layer = record { bodies = (out-Bodies (roll-Bodies first)).bodies; moves = (out-Bodies (roll-Bodies first)).moves; unfinished = c.push-2.new.self; «open» = (out-Bodies (roll-Bodies first)).«open» } in
    let third : Layer = record { bodies = (out-Bodies (roll-Bodies second)).bodies; moves = (out-Bodies (roll-Bodies second)).moves; unfinished = (out-Bodies (roll-Bodies second)).unfinished; «open» = c.push-3.new.self } in
    let once : out-Bodies (roll-Bodies first) ≡ first = out-roll-Bodies first in
    let twice : out-Bodies (roll-Bodies second) ≡ second = out-roll-Bodies second in
    let thrice : out-Bodies (roll-Bodies third) ≡ third = out-roll-Bodies third in
    let added : c.push-4.new.self.items ≡ (out-Bodies (roll-Bodies third)).bodies.items ++ body ∷ [] = search rules in
    let same : (out-Bodies (roll-Bodies third)).bodies.items ≡ (out-Bodies now).bodies.items =
    ap (λ (x : Layer). x.bodies.items) thrice ∙ ap (λ (x : Layer). x.bodies.items) twice ∙ ap (λ (x : Layer). x.bodies.items) once in
    let fourth : Layer = record { bodies = c.push-4.new.self; moves = (out-Bodies (roll-Bodies third)).moves; unfinished = (out-Bodies (roll-Bodies third)).unfinished; «open» = (out-Bodies (roll-Bodies third)).«open» } in
    bodies_counted memories (roll-Bodies fourth)
    ∙ ap (λ (x : Layer). all_hold (map is_body_counted x.bodies.items) memories) (out-roll-Bodies fourth)
    ∙ ap (λ (bs : List BodyNow). all_hold (map is_body_counted bs) memories) (added ∙ ap (λ (bs : List BodyNow). bs ++ body ∷ []) same)
    ∙ ap (λ (counted : List Told). all_hold counted memories) (map-last is_body_counted (out-Bodies now).bodies.items body)
    ∙ hold-last (map is_body_counted (out-Bodies now).bodies.items) (is_body_counted body) memories
    ∙ ap (λ (so : Bool). so && is_body_counted body memories) (sym (bodies_counted memories now))
