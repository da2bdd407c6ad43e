-- Each tree whose counts are right tells its next moves: by induction.
use Rattle.std.proofs.Common.{List, [], ◌∷◌, map, subst}
use Rattle.sd_order.specs.table.Told.{told}
use Rattle.sd_left.specs.declared.left.left.Left.{Left as LeftNow}
use Rattle.sd_left.specs.declared.left.left.Bodies.{Bodies as BodiesNow}
use Rattle.sd_left.specs.declared.left.left.Body.{Body as BodyNow}
use Rattle.sd_left.specs.declared.left.left.Run.{Run as RunNow}
use Rattle.sd_left.specs.declared.left.left.Left.TheOpen.{Left-F, Bodies-F, Body-F, Run-F, Instance, Doing, Points, Sparse, Pool, Nested}
use Rattle.sd_left.specs.declared.left.left.Left.TheViews.{roll-Left, roll-Bodies, roll-Body, roll-Run}
use Rattle.sd_left.specs.declared.left.left.Left.TheFolds.{map-Left, map-Bodies, map-Body, map-Run, fold-roll-Left, fold-roll-Bodies, fold-roll-Body, fold-roll-Run, ind-Left, ind-Bodies, ind-Body, ind-Run}
use Rattle.sd_left.specs.tree.Standing.{ItemLeft, BodyLeft, RunLeft}
use Rattle.sd_left.specs.left.Kept.{left_step, bodies_step, body_step, run_step, left_of, bodies_kept, body_kept, run_kept}
use Rattle.sd_left.specs.left.Waits.{Told, waits_step, bodies_waits_step, body_waits_step, run_waits_step, is_counted, are_bodies_counted, is_body_counted, is_run_counted}
use Rattle.sd_left.specs.left.Telling.{Telling, BodiesTelling}
use Rattle.sd_left.specs.left.Tells.{tells_step, bodies_tell_step, body_tells_step, run_tells_step, tells, bodies_telling, body_tells, run_tells}
use Rattle.sd_left.proofs.left_lemmas.Shows.{ItemShows, BodyShows, BodiesShow, AllItemsShow, AllBodiesShow, bodies-show, body-shows}
use Rattle.sd_left.proofs.left_lemmas.Sameness.{at_each}
use Rattle.sd_left.proofs.left_lemmas.Layers.{RunShows, instance-shows, doing-shows, points-show, pool-shows, run-shows, nested-shows}
use Rattle.sd_left.proofs.sparse_lemmas.Shown.{sparse-shows}

abbrev pub LeftShows : LeftNow → Type 0
LeftShows left = ItemShows (left_of left) (tells left) (is_counted left)

abbrev pub TheyShow : BodiesNow → Type 0
TheyShow bodies = BodiesShow (bodies_kept bodies) (bodies_telling bodies) (are_bodies_counted bodies)

abbrev pub ItShows : BodyNow → Type 0
ItShows body = BodyShows (body_kept body) (body_tells body) (is_body_counted body)

abbrev pub GoingShows : RunNow → Type 0
GoingShows run = RunShows (run_kept run) (run_tells run) (is_run_counted run)

-- a layer with what is shown of its parts
abbrev Lefts : Type 0
Lefts = (left : LeftNow) × LeftShows left

abbrev Many : Type 0
Many = (bodies : BodiesNow) × TheyShow bodies

abbrev Ones : Type 0
Ones = (body : BodyNow) × ItShows body

abbrev Runs : Type 0
Runs = (run : RunNow) × GoingShows run

abbrev left_layer : Left-F Lefts Many Ones Runs → Left-F LeftNow BodiesNow BodyNow RunNow
left_layer = map-Left Lefts Many Ones Runs LeftNow BodiesNow BodyNow RunNow (λ e. e.0) (λ e. e.0) (λ e. e.0) (λ e. e.0)

abbrev bodies_layer : Bodies-F Lefts Many Ones Runs → Bodies-F LeftNow BodiesNow BodyNow RunNow
bodies_layer = map-Bodies Lefts Many Ones Runs LeftNow BodiesNow BodyNow RunNow (λ e. e.0) (λ e. e.0) (λ e. e.0) (λ e. e.0)

abbrev body_layer : Body-F Lefts Many Ones Runs → Body-F LeftNow BodiesNow BodyNow RunNow
body_layer = map-Body Lefts Many Ones Runs LeftNow BodiesNow BodyNow RunNow (λ e. e.0) (λ e. e.0) (λ e. e.0) (λ e. e.0)

abbrev run_layer : Run-F Lefts Many Ones Runs → Run-F LeftNow BodiesNow BodyNow RunNow
run_layer = map-Run Lefts Many Ones Runs LeftNow BodiesNow BodyNow RunNow (λ e. e.0) (λ e. e.0) (λ e. e.0) (λ e. e.0)

-- ---- the layers

left-opened : (x : Left-F LeftNow BodiesNow BodyNow RunNow)
    → ItemShows (left_step (map-Left LeftNow BodiesNow BodyNow RunNow ItemLeft (List BodyLeft) BodyLeft RunLeft left_of bodies_kept body_kept run_kept x))
    (tells_step (map-Left LeftNow BodiesNow BodyNow RunNow Telling BodiesTelling Telling Telling tells bodies_telling body_tells run_tells x))
    (waits_step (map-Left LeftNow BodiesNow BodyNow RunNow Told Told Told Told is_counted are_bodies_counted is_body_counted is_run_counted x))
    → LeftShows (roll-Left x)
left-opened x holds = at_each ItemShows
    (fold-roll-Left ItemLeft (List BodyLeft) BodyLeft RunLeft left_step bodies_step body_step run_step x)
    (fold-roll-Left Telling BodiesTelling Telling Telling tells_step bodies_tell_step body_tells_step run_tells_step x)
    (fold-roll-Left Told Told Told Told waits_step bodies_waits_step body_waits_step run_waits_step x) holds

left-shown : (y : Left-F Lefts Many Ones Runs) → LeftShows (roll-Left (left_layer y))
left-shown (Instance instance) = left-opened (Instance instance) (instance-shows instance)
left-shown (Doing doing) = left-opened (Doing doing) (doing-shows doing)
left-shown (Points sequential points) =
    left-opened (Points sequential points.0) (points-show (bodies_kept points.0) (bodies_telling points.0) (are_bodies_counted points.0) points.1 sequential)
left-shown (Sparse sequential tasks points) = left-opened (Sparse sequential tasks points) (sparse-shows sequential tasks points)
left-shown (Pool stream active waiting closed) =
    left-opened (Pool stream active.0 waiting closed)
    (pool-shows (bodies_kept active.0) (bodies_telling active.0) (are_bodies_counted active.0) active.1 stream.level stream.container waiting closed)
left-shown (Nested run) =
    left-opened (left_layer (Nested run)) (nested-shows (run_kept run.value.0) (run_tells run.value.0) (is_run_counted run.value.0) run.value.1)

each-body : (all : List Ones) → AllBodiesShow body_kept body_tells is_body_counted (map (λ e. e.0) all)
each-body [] = tt
each-body (body ∷ all) = (body.1, each-body all)

each-part : (all : List Lefts) → AllItemsShow left_of tells is_counted (map (λ e. e.0) all)
each-part [] = tt
each-part (part ∷ all) = (part.1, each-part all)

bodies-shown : (y : Bodies-F Lefts Many Ones Runs) → TheyShow (roll-Bodies (bodies_layer y))
bodies-shown y = at_each BodiesShow
    (fold-roll-Bodies ItemLeft (List BodyLeft) BodyLeft RunLeft left_step bodies_step body_step run_step (bodies_layer y))
    (fold-roll-Bodies Telling BodiesTelling Telling Telling tells_step bodies_tell_step body_tells_step run_tells_step (bodies_layer y))
    (fold-roll-Bodies Told Told Told Told waits_step bodies_waits_step body_waits_step run_waits_step (bodies_layer y))
    (bodies-show body_kept body_tells is_body_counted (map (λ e. e.0) y.bodies.items) y.moves y.unfinished y.«open» (each-body y.bodies.items))

body-shown : (y : Body-F Lefts Many Ones Runs) → ItShows (roll-Body (body_layer y))
body-shown y = at_each BodyShows
    (fold-roll-Body ItemLeft (List BodyLeft) BodyLeft RunLeft left_step bodies_step body_step run_step (body_layer y))
    (fold-roll-Body Telling BodiesTelling Telling Telling tells_step bodies_tell_step body_tells_step run_tells_step (body_layer y))
    (fold-roll-Body Told Told Told Told waits_step bodies_waits_step body_waits_step run_waits_step (body_layer y))
    (body-shows left_of tells is_counted y.at.items y.own.contents (told y.order) (map (λ e. e.0) y.parts.items) y.moves y.unfinished y.«open» (each-part y.parts.items))

run-shown : (y : Run-F Lefts Many Ones Runs) → GoingShows (roll-Run (run_layer y))
run-shown y = at_each RunShows
    (fold-roll-Run ItemLeft (List BodyLeft) BodyLeft RunLeft left_step bodies_step body_step run_step (run_layer y))
    (fold-roll-Run Telling BodiesTelling Telling Telling tells_step bodies_tell_step body_tells_step run_tells_step (run_layer y))
    (fold-roll-Run Told Told Told Told waits_step bodies_waits_step body_waits_step run_waits_step (run_layer y))
    (run-shows y.state y.ended (body_kept y.body.0) (body_tells y.body.0) (is_body_counted y.body.0) y.body.1)

-- ---- the induction

pub left-shows : (left : LeftNow) → LeftShows left
left-shows = ind-Left LeftShows TheyShow ItShows GoingShows
    (λ x y is. subst (λ z. LeftShows (roll-Left z)) is (left-shown y))
    (λ x y is. subst (λ z. TheyShow (roll-Bodies z)) is (bodies-shown y))
    (λ x y is. subst (λ z. ItShows (roll-Body z)) is (body-shown y))
    (λ x y is. subst (λ z. GoingShows (roll-Run z)) is (run-shown y))

pub bodies-show-all : (bodies : BodiesNow) → TheyShow bodies
bodies-show-all = ind-Bodies LeftShows TheyShow ItShows GoingShows
    (λ x y is. subst (λ z. LeftShows (roll-Left z)) is (left-shown y))
    (λ x y is. subst (λ z. TheyShow (roll-Bodies z)) is (bodies-shown y))
    (λ x y is. subst (λ z. ItShows (roll-Body z)) is (body-shown y))
    (λ x y is. subst (λ z. GoingShows (roll-Run z)) is (run-shown y))

pub body-shows-all : (body : BodyNow) → ItShows body
body-shows-all = ind-Body LeftShows TheyShow ItShows GoingShows
    (λ x y is. subst (λ z. LeftShows (roll-Left z)) is (left-shown y))
    (λ x y is. subst (λ z. TheyShow (roll-Bodies z)) is (bodies-shown y))
    (λ x y is. subst (λ z. ItShows (roll-Body z)) is (body-shown y))
    (λ x y is. subst (λ z. GoingShows (roll-Run z)) is (run-shown y))

pub run-shows-all : (run : RunNow) → GoingShows run
run-shows-all = ind-Run LeftShows TheyShow ItShows GoingShows
    (λ x y is. subst (λ z. LeftShows (roll-Left z)) is (left-shown y))
    (λ x y is. subst (λ z. TheyShow (roll-Bodies z)) is (bodies-shown y))
    (λ x y is. subst (λ z. ItShows (roll-Body z)) is (body-shown y))
    (λ x y is. subst (λ z. GoingShows (roll-Run z)) is (run-shown y))
