use Rattle.std.proofs.Common.{◌≡◌, ◌++◌, take, map, string_bytes, false}
use Rattle.std.specs.List.{flat_map}
use Rattle.sd_print.specs.graphs.AffineText.{term_text}
use Rattle.sd_print.proofs.graphs.affine.push_terms.Given as goal

-- what is added so far
abbrev pub invariant-loop-other : goal.invariant-loop-other
invariant-loop-other l = string_bytes l.text ≡ string_bytes l.initial.text ++ flat_map (term_text (map string_bytes l.names) false) (take l.other-index l.others)
