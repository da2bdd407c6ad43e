use Rattle.sd_graph.specs.RowOrder.{row_number}
use Rattle.sd_mem.proofs.mem_lemmas.Places.{place-known, place-strided}
use Rattle.sd_mem.proofs.mem.laws.a_place_is_the_sum_of_strides_times_numbers.Goals as goal

pub returns : goal.returns
returns c = λ shape index is. (row_number shape index, place-known shape index is, place-strided shape index is)
