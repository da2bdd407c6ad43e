use Rattle.std.proofs.Common.{◌≡◌, [], map, reverse, string_bytes, vec_len}
use Rattle.sd_lex.specs.TreeFold.{function_of}
use Rattle.sd_elab.specs.items.GraphsByNumber.{graphs_of}
use Rattle.sd_elab.specs.elab.Elaborable.{AreElaborable}
use Rattle.sd_elab.specs.elab.Elaboration.{graphs_with}
use Rattle.sd_elab.proofs.elab.program.graphs_of_programs.Given as goal

-- what is made, and what is left to make
abbrev pub invariant-loop-function : goal.invariant-loop-function
invariant-loop-function l = record {
  graphs : graphs_with (map string_bytes l.symbols) (graphs_of l.graphs) (reverse (map (λ function. function_of function.now) l.left.items))
      ≡ graphs_with (map string_bytes l.symbols) [] (reverse (map (λ function. function_of function.now) l.initial.left.items));
  elaborable : AreElaborable (map (λ function. function_of function.now) l.left.items);
}

abbrev pub decreases-loop-function : goal.decreases-loop-function
decreases-loop-function l = vec_len l.left
