use Rattle.std.proofs.Common.{rules, ◌≡◌, List, length, vec_len, refl, sym, ◌∙◌, ap, subst, arith}
use Rattle.std.specs.List.{AllZip}
use Rattle.sd_piece.specs.declared.piece.PieceAt.{PieceAt}
use Rattle.sd_crew.specs.Places.{places_from, places_of}
use Rattle.sd_crew.specs.Work.{IsWorkAt}
use Rattle.sd_crew.specs.Stage.{tree_of, work_of}
use Rattle.sd_crew.proofs.Placed.{placed, in-pieces, zip-length}
use Rattle.sd_crew.proofs.Works.{closed-at-once}
use Rattle.sd_crew.proofs.stage.run_stage.Goals as goal

pub on_board-requires-clause-pieces : goal.on_board-requires-clause-pieces
on_board-requires-clause-pieces g c κs within =
    in-pieces (tree_of c.args.stage.now) c.args.stage.now.state c.args.stage.now.values.now c.args.stage.now.workers c.requires.some c.requires.valid c.requires.normal c.requires.accepted

pub on_board-requires-clause-places : goal.on_board-requires-clause-places
on_board-requires-clause-places g c κs within =
    let stage = c.args.stage.now in
    let same = c.as_slice-places.ensures.value ∙ c.in_ok-places.ensures ∙ ap (places_from stage.state stage.values.now stage.workers 0) c.items_of-items.ensures in
    subst (λ (places : List PieceAt). AllZip (IsWorkAt (tree_of stage) stage.values.now) places (work_of stage c.args.memory).work.pieces) (sym same)
    (placed (tree_of stage) stage.state stage.values.now stage.workers c.requires.some)

pub returns-then-is_empty : goal.returns-then-is_empty
returns-then-is_empty g c =
    let stage = c.args.stage.now in
    let work = work_of stage c.args.memory in
    let none : vec_len c.in_ok-places.places ≡ 0 = search rules in
    let whole = c.in_ok-places.places.ok in
    let no_places : length c.in_ok-places.places.items ≡ 0 = omega (arith, none, whole) in
    let same = c.in_ok-places.ensures ∙ ap (places_from stage.state stage.values.now stage.workers 0) c.items_of-items.ensures in
    let as_many = zip-length (IsWorkAt (tree_of stage) stage.values.now) (places_of (tree_of stage) stage.state stage.values.now stage.workers) work.work.pieces
    (placed (tree_of stage) stage.state stage.values.now stage.workers c.requires.some) in
    let is = c.done_at_once.ensures.is in
    let history = c.done_at_once.ensures.history in
    closed-at-once work c.args.memory c.done_at_once.result refl c.requires.widths (sym as_many ∙ ap length (sym same) ∙ no_places) is.0 is.1 history.0 history.1 history.2
