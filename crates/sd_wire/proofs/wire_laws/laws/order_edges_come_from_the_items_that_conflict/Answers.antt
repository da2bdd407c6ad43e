use Rattle.sd_wire.proofs.wire_laws_lemmas.Earlier.{edges_of_item, items_kept}
use Rattle.sd_wire.proofs.wire_laws.laws.order_edges_come_from_the_items_that_conflict.Goals as goal

pub returns : goal.returns
returns c = record {
  edges = λ kind containers scope own line drawing. edges_of_item containers scope kind own line drawing;
  items = λ items containers scope own drawing. items_kept containers scope items own drawing;
}
