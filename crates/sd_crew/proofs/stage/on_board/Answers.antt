use Rattle.std.proofs.Common.{sym, ◌∙◌, ap, subst}
use Rattle.sd_board.specs.Assignment.{Assignment, HaveEnds}
use Rattle.sd_board.specs.Boards.{items_of}
use Rattle.sd_board.proofs.States.{state-ends}
use Rattle.sd_crew.specs.Stage.{tree_of, stage_counts, work_of}
use Rattle.sd_crew.proofs.Placed.{zip-items}
use Rattle.sd_crew.proofs.Works.{before-is}
use Rattle.sd_crew.proofs.Crossing.{bound-sync, piece-send}
use denote.Param.Send.{sendable}
use Rattle.std.proofs.Crossing.{crosses}
use Rattle.std.proofs.alloc.Global.TheSendSync as heap
use Rattle.std.proofs.marker.PhantomData.TheSendSync as phantom
use Rattle.sd_piece.proofs.piece.PieceAt.TheSendSync as piece_at
use Rattle.sd_crew.proofs.stage.on_board.Goals as goal

pub run_board-requires-clause-items : goal.run_board-requires-clause-items
run_board-requires-clause-items g c lifetimes within =
    c.in_ok-opening.ensures.items
    ∙ zip-items (tree_of c.args.stage.now) c.args.stage.now.values.now c.args.places.now (work_of c.args.stage.now c.args.memory).work.pieces c.requires.places
    ∙ ap items_of (sym c.requires.assignment)

pub run_board-requires-clause-order : goal.run_board-requires-clause-order
run_board-requires-clause-order g c lifetimes within = λ from to.
    ap (λ before. before from to) c.in_ok-opening.ensures.order ∙ before-is c.args.stage.now from to ∙ ap (λ (a : Assignment). a.work.before from to) (sym c.requires.assignment)

pub run_board-requires-clause-ends : goal.run_board-requires-clause-ends
run_board-requires-clause-ends g c lifetimes within =
    subst HaveEnds (sym c.requires.assignment)
    (state-ends (tree_of c.args.stage.now) c.args.stage.now.state c.args.stage.now.values.now (stage_counts c.args.stage.now) c.args.memory c.args.stage.now.turns c.requires.pieces)

pub run_board-requires-send-P : goal.run_board-requires-send-P
run_board-requires-send-P g c lifetimes within =
    let send = c.type_bounds.send-A in
    search (sendable, crosses, bound-sync, piece_at.the_sync, phantom.the_field_send, heap.the_field_send) depth 30

pub run_board-requires-send-P-Cut : goal.run_board-requires-send-P-Cut
run_board-requires-send-P-Cut g c lifetimes within = search (sendable, piece-send) depth 20

pub run_board-requires-sync-P : goal.run_board-requires-sync-P
run_board-requires-sync-P g c lifetimes within =
    let sync = c.type_bounds.sync-A in
    search (sendable, crosses, bound-sync, piece_at.the_sync, phantom.the_field_sync, heap.the_field_sync) depth 30
