-- The names that a graph looks for in an arrays file.
use Rattle.std.specs.Prelude.{ℕ, List, ◌++◌, map, take, Bool, not, bytes_eq}
use Rattle.std.specs.List.{list_any}
use Rattle.sd_graph.specs.PlainTree.{GraphTree, graph}
use Rattle.sd_json.specs.declared.names.Names.{Names}

-- the size symbols in source order, and the arguments in the order of the signature
abbrev pub names_in : GraphTree → Names
names_in (graph name containers arguments variables symbols states) = record {
  symbols = take symbols variables;
  arguments = map (λ container. container.0) (take arguments containers);
}

-- a name that is neither a size symbol's nor an argument's
abbrev pub is_extra : Names → (name : List ℕ) → Bool
is_extra names name = not (list_any (bytes_eq name) (names.symbols ++ names.arguments))
