-- Each tree without open pools has right numbers of waiting values: by induction.
use Rattle.std.proofs.Common.{◌≡◌, List, [], ◌∷◌, map, refl, sym, subst}
use Rattle.sd_order.specs.table.Told.{told}
use Rattle.sd_left.specs.tree.Standing.{ItemLeft, BodyLeft, RunLeft}
use Rattle.sd_left.specs.declared.left.left.Left.{Left as LeftNow}
use Rattle.sd_left.specs.declared.left.left.Bodies.{Bodies as BodiesNow}
use Rattle.sd_left.specs.declared.left.left.Body.{Body as BodyNow}
use Rattle.sd_left.specs.declared.left.left.Run.{Run as RunNow}
use Rattle.sd_left.specs.declared.left.left.Left.TheOpen.{Left-F, Bodies-F, Body-F, Run-F, Instance, Doing, Points, Sparse, Pool, Nested}
use Rattle.sd_left.specs.declared.left.left.Left.TheViews.{roll-Left, roll-Bodies, roll-Body, roll-Run}
use Rattle.sd_left.specs.declared.left.left.Left.TheFolds.{map-Left, map-Bodies, map-Body, map-Run, fold-roll-Left, fold-roll-Bodies, fold-roll-Body, fold-roll-Run, ind-Left, ind-Body, ind-Run}
use Rattle.sd_left.specs.left.Kept.{left_step, bodies_step, body_step, run_step, left_of, bodies_kept, body_kept, run_kept}
use Rattle.sd_left.specs.left.Waits.{Told, waits_step, bodies_waits_step, body_waits_step, run_waits_step, is_counted, are_bodies_counted, is_body_counted, is_run_counted}
use Rattle.sd_left.proofs.pool_free_left_lemmas.Parts.{ItemWaits, BodyWaits, BodiesWait, RunWaits, AllBodiesWait, AllItemsWait, bodies-wait, items-wait, closed-waits, going-waits, inner-waits}

abbrev LeftWaits : LeftNow → Type 0
LeftWaits left = ItemWaits (left_of left) (is_counted left)

abbrev TheyWait : BodiesNow → Type 0
TheyWait bodies = BodiesWait (bodies_kept bodies) (are_bodies_counted bodies)

abbrev ItWaits : BodyNow → Type 0
ItWaits body = BodyWaits (body_kept body) (is_body_counted body)

abbrev GoingWaits : RunNow → Type 0
GoingWaits run = RunWaits (run_kept run) (is_run_counted run)

abbrev Lefts : Type 0
Lefts = (left : LeftNow) × LeftWaits left

abbrev Many : Type 0
Many = (bodies : BodiesNow) × TheyWait bodies

abbrev Ones : Type 0
Ones = (body : BodyNow) × ItWaits body

abbrev Runs : Type 0
Runs = (run : RunNow) × GoingWaits run

abbrev left_layer : Left-F Lefts Many Ones Runs → Left-F LeftNow BodiesNow BodyNow RunNow
left_layer = map-Left Lefts Many Ones Runs LeftNow BodiesNow BodyNow RunNow (λ e. e.0) (λ e. e.0) (λ e. e.0) (λ e. e.0)

abbrev bodies_layer : Bodies-F Lefts Many Ones Runs → Bodies-F LeftNow BodiesNow BodyNow RunNow
bodies_layer = map-Bodies Lefts Many Ones Runs LeftNow BodiesNow BodyNow RunNow (λ e. e.0) (λ e. e.0) (λ e. e.0) (λ e. e.0)

abbrev body_layer : Body-F Lefts Many Ones Runs → Body-F LeftNow BodiesNow BodyNow RunNow
body_layer = map-Body Lefts Many Ones Runs LeftNow BodiesNow BodyNow RunNow (λ e. e.0) (λ e. e.0) (λ e. e.0) (λ e. e.0)

abbrev run_layer : Run-F Lefts Many Ones Runs → Run-F LeftNow BodiesNow BodyNow RunNow
run_layer = map-Run Lefts Many Ones Runs LeftNow BodiesNow BodyNow RunNow (λ e. e.0) (λ e. e.0) (λ e. e.0) (λ e. e.0)

-- two things at once
at_both : {A B : Type 0} (P : A → B → Type 0) {a a' : A} {b b' : B} → a' ≡ a → b' ≡ b → P a b → P a' b'
at_both P {a} {a'} {b} {b'} first second holds = subst (λ x. P x b') (sym first) (subst (λ y. P a y) (sym second) holds)

left-opened : (x : Left-F LeftNow BodiesNow BodyNow RunNow)
    → ItemWaits (left_step (map-Left LeftNow BodiesNow BodyNow RunNow ItemLeft (List BodyLeft) BodyLeft RunLeft left_of bodies_kept body_kept run_kept x))
    (waits_step (map-Left LeftNow BodiesNow BodyNow RunNow Told Told Told Told is_counted are_bodies_counted is_body_counted is_run_counted x))
    → LeftWaits (roll-Left x)
left-opened x holds = at_both ItemWaits
    (fold-roll-Left ItemLeft (List BodyLeft) BodyLeft RunLeft left_step bodies_step body_step run_step x)
    (fold-roll-Left Told Told Told Told waits_step bodies_waits_step body_waits_step run_waits_step x) holds

left-shown : (y : Left-F Lefts Many Ones Runs) → LeftWaits (roll-Left (left_layer y))
left-shown (Instance instance) = left-opened (Instance instance) (λ kind line context memories free. refl)
left-shown (Doing doing) = left-opened (Doing doing) (λ kind line context memories free. refl)
left-shown (Points sequential points) = left-opened (Points sequential points.0) (λ kind line context memories free. points.1 kind context memories free)
left-shown (Sparse sequential tasks points) = left-opened (Sparse sequential tasks points) (λ kind line context memories free. refl)
left-shown (Pool stream active waiting closed) =
    left-opened (Pool stream active.0 waiting closed) (λ kind line context memories free. closed-waits stream.level stream.container waiting closed (are_bodies_counted active.0) memories free.0)
left-shown (Nested run) = left-opened (left_layer (Nested run)) (inner-waits (run_kept run.value.0) (is_run_counted run.value.0) run.value.1)

each-body : (all : List Ones) → AllBodiesWait body_kept is_body_counted (map (λ e. e.0) all)
each-body [] = tt
each-body (body ∷ all) = (body.1, each-body all)

each-part : (all : List Lefts) → AllItemsWait left_of is_counted (map (λ e. e.0) all)
each-part [] = tt
each-part (part ∷ all) = (part.1, each-part all)

bodies-shown : (y : Bodies-F Lefts Many Ones Runs) → TheyWait (roll-Bodies (bodies_layer y))
bodies-shown y = at_both BodiesWait
    (fold-roll-Bodies ItemLeft (List BodyLeft) BodyLeft RunLeft left_step bodies_step body_step run_step (bodies_layer y))
    (fold-roll-Bodies Told Told Told Told waits_step bodies_waits_step body_waits_step run_waits_step (bodies_layer y))
    (bodies-wait body_kept is_body_counted (map (λ e. e.0) y.bodies.items) (each-body y.bodies.items))

body-shown : (y : Body-F Lefts Many Ones Runs) → ItWaits (roll-Body (body_layer y))
body-shown y = at_both BodyWaits
    (fold-roll-Body ItemLeft (List BodyLeft) BodyLeft RunLeft left_step bodies_step body_step run_step (body_layer y))
    (fold-roll-Body Told Told Told Told waits_step bodies_waits_step body_waits_step run_waits_step (body_layer y))
    (items-wait left_of is_counted y.at.items y.own.contents (told y.order) (map (λ e. e.0) y.parts.items) (each-part y.parts.items))

run-shown : (y : Run-F Lefts Many Ones Runs) → GoingWaits (roll-Run (run_layer y))
run-shown y = at_both RunWaits
    (fold-roll-Run ItemLeft (List BodyLeft) BodyLeft RunLeft left_step bodies_step body_step run_step (run_layer y))
    (fold-roll-Run Told Told Told Told waits_step bodies_waits_step body_waits_step run_waits_step (run_layer y))
    (going-waits y.state y.ended (body_kept y.body.0) (is_body_counted y.body.0) y.body.1)

pub left-waits : (left : LeftNow) → LeftWaits left
left-waits = ind-Left LeftWaits TheyWait ItWaits GoingWaits
    (λ x y is. subst (λ z. LeftWaits (roll-Left z)) is (left-shown y))
    (λ x y is. subst (λ z. TheyWait (roll-Bodies z)) is (bodies-shown y))
    (λ x y is. subst (λ z. ItWaits (roll-Body z)) is (body-shown y))
    (λ x y is. subst (λ z. GoingWaits (roll-Run z)) is (run-shown y))

pub body-waits : (body : BodyNow) → ItWaits body
body-waits = ind-Body LeftWaits TheyWait ItWaits GoingWaits
    (λ x y is. subst (λ z. LeftWaits (roll-Left z)) is (left-shown y))
    (λ x y is. subst (λ z. TheyWait (roll-Bodies z)) is (bodies-shown y))
    (λ x y is. subst (λ z. ItWaits (roll-Body z)) is (body-shown y))
    (λ x y is. subst (λ z. GoingWaits (roll-Run z)) is (run-shown y))

pub run-waits : (run : RunNow) → GoingWaits run
run-waits = ind-Run LeftWaits TheyWait ItWaits GoingWaits
    (λ x y is. subst (λ z. LeftWaits (roll-Left z)) is (left-shown y))
    (λ x y is. subst (λ z. TheyWait (roll-Bodies z)) is (bodies-shown y))
    (λ x y is. subst (λ z. ItWaits (roll-Body z)) is (body-shown y))
    (λ x y is. subst (λ z. GoingWaits (roll-Run z)) is (run-shown y))
