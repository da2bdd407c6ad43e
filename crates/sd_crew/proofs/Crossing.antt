-- What workers share of a board's work, and what they cut of it, may cross threads.
use denote.Param.Send.{IsSend, IsSync, sendable}
use denote.Param.SendFields.{declared_send, declared_sync}
use Rattle.std.proofs.Crossing.{crosses}
use Rattle.std.proofs.option.Option.TheSendSync as option
use Rattle.std.proofs.string.String.TheSendSync as string
use Rattle.std.proofs.hash.FoldHasher.TheSendSync as hasher
use Rattle.sd_board.below.indexmap.proofs.map.IndexMap.TheSendSync as index_map
use Rattle.sd_board.below.sd_num.proofs.resolution.Resolution.TheSendSync as resolution
use Rattle.sd_list.proofs.list.sequence.Sequence.TheSendSync as sequence
use Rattle.sd_range.proofs.affine.Affine.TheSendSync as affine
use Rattle.sd_range.proofs.range.Range.TheSendSync as range
use Rattle.sd_graph.proofs.container.Container.TheSendSync as container
use Rattle.sd_graph.proofs.link.Link.TheSendSync as link
use Rattle.sd_graph.proofs.operator.OneSign.TheSendSync as one_sign
use Rattle.sd_graph.proofs.operator.TwoSign.TheSendSync as two_sign
use Rattle.sd_graph.proofs.tasklet.Port.TheSendSync as port
use Rattle.sd_graph.proofs.tasklet.Value.TheLaws.TheKnot as value_knot
use Rattle.sd_graph.proofs.tasklet.Act.TheLaws.TheKnot as act_knot
use Rattle.sd_graph.proofs.graph.ItemKind.TheLaws.TheKnot as item_knot
use Rattle.sd_graph.specs.contracts.tasklet.Value as Value
use Rattle.sd_graph.specs.contracts.tasklet.Act as Act
use Rattle.sd_graph.specs.contracts.tasklet.Tasklet as Tasklet
use Rattle.sd_graph.specs.contracts.exit.Guard as Guard
use Rattle.sd_graph.specs.contracts.exit.Exit as Exit
use Rattle.sd_graph.specs.contracts.graph.Sdfg as Sdfg
use Rattle.sd_graph.specs.contracts.graph.Item as Item
use Rattle.sd_graph.specs.contracts.graph.Bound as Bound
use Rattle.sd_cut.proofs.overlay.Overlay.TheSendSync as overlay
use Rattle.sd_part.proofs.boxes.number_box.NumberBox.TheSendSync as number_box
use Rattle.sd_piece.specs.contracts.piece.Piece as Piece

-- ---- what is moved

value-send : IsSend Value.the_row
value-send = search (sendable, crosses, value_knot.crosses, one_sign.the_field_send, two_sign.the_field_send) depth 30

act-send : IsSend Act.the_row
act-send = search (sendable, crosses, act_knot.crosses, value-send, value_knot.crosses, one_sign.the_field_send, two_sign.the_field_send) depth 30

tasklet-field-send : IsSend (Tasklet.the_field).row
tasklet-field-send = search (sendable, crosses, act-send, port.the_send) depth 30

guard-field-send : IsSend (Guard.the_field).row
guard-field-send = search (sendable, crosses, tasklet-field-send, link.the_send, sequence.the_send) depth 30

guard-send : IsSend Guard.the_row
guard-send = search (sendable, guard-field-send) depth 20

exit-send : IsSend Exit.the_row
exit-send = search (sendable, crosses, guard-send, option.the_field_send, affine.the_send, sequence.the_send) depth 30

item-send : IsSend Item.the_row
item-send =
    search (sendable, crosses, item_knot.crosses, tasklet-field-send, exit-send, link.the_send, link.the_field_send, range.the_send, container.the_send, resolution.the_field_send, index_map.the_send, hasher.the_send) depth 40

pub piece-send : IsSend Piece.the_row
piece-send =
    declared_send Piece.the_type (search sendable depth 30, (search (sendable, crosses) depth 30, (item-send, (search (sendable, crosses, number_box.the_send) depth 30, (search (sendable, overlay.the_send) depth 30, tt)))))

-- ---- what is shared

value-sync : IsSync Value.the_row
value-sync = search (sendable, crosses, value_knot.crosses, one_sign.the_field_sync, two_sign.the_field_sync) depth 30

act-sync : IsSync Act.the_row
act-sync = search (sendable, crosses, act_knot.crosses, value-sync, value_knot.crosses, one_sign.the_field_sync, two_sign.the_field_sync) depth 30

tasklet-field-sync : IsSync (Tasklet.the_field).row
tasklet-field-sync = search (sendable, crosses, act-sync, port.the_sync) depth 30

guard-field-sync : IsSync (Guard.the_field).row
guard-field-sync = search (sendable, crosses, tasklet-field-sync, link.the_sync, sequence.the_sync) depth 30

guard-sync : IsSync Guard.the_row
guard-sync = search (sendable, guard-field-sync) depth 20

exit-sync : IsSync Exit.the_row
exit-sync = search (sendable, crosses, guard-sync, option.the_field_sync, affine.the_sync, sequence.the_sync) depth 30

sdfg-sync : IsSync Sdfg.the_row
sdfg-sync =
    search (sendable, crosses, item_knot.crosses, tasklet-field-sync, exit-sync, link.the_sync, link.the_field_sync, range.the_sync, container.the_sync, resolution.the_field_sync, index_map.the_sync, string.the_sync, hasher.the_sync) depth 40

pub bound-sync : IsSync Bound.the_row
bound-sync = declared_sync Bound.the_type (sdfg-sync, tt)
