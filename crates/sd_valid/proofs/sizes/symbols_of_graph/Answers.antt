use Rattle.std.proofs.Common.{ℕ, List, ap, ◌∙◌, sym, map, min, string_bytes, String, take}
use Rattle.std.specs.declared.alloc.Global.{Global}
use Rattle.std.proofs.lemmas.List.{take_min}
use Rattle.sd_graph.specs.declared.graph.Sdfg.{out-Sdfg}
use Rattle.sd_graph.proofs.TreeLemmas.{graph_opened}
use Rattle.sd_valid.specs.SizeValues.{symbols_of}
use Rattle.sd_valid.proofs.Names.{map_take}
use Rattle.sd_valid.proofs.sizes.symbols_of_graph.Goals as goal

pub returns : goal.returns
returns c =
    let symbols = (out-Sdfg c.args.graph.now).symbols in
    ap (λ (count : ℕ). map string_bytes (take count c.as_slice.result.now)) (c.min-count.ensures ∙ ap (min symbols) (c.len.ensures ∙ sym c.as_slice.ensures.len))
    ∙ ap (map string_bytes) (take_min symbols c.as_slice.result.now)
    ∙ map_take string_bytes symbols c.as_slice.result.now
    ∙ ap (λ (names : List (String Global)). take symbols (map string_bytes names)) c.as_slice.ensures.value
    ∙ sym (ap symbols_of (graph_opened c.args.graph.now))
