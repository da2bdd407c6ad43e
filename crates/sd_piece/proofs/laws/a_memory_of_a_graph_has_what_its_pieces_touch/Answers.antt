use Rattle.sd_piece.proofs.Graphs.{memory-has}
use Rattle.sd_piece.proofs.laws.a_memory_of_a_graph_has_what_its_pieces_touch.Goals as goal

pub returns : goal.returns
returns c = memory-has
