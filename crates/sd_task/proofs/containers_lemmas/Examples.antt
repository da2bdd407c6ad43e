-- Worked sources: containers and variables in the order of the text, their kinds, and elements whose names are in use.
use Rattle.std.proofs.Common.{◌≡◌, pos, List, [], ◌∷◌, Some, None, refl, codes}
use Rattle.std.specs.Fmt.{digits}
use Rattle.sd_num.specs.declared.width.Width.TheVariants.{W64}
use Rattle.sd_lex.specs.PlainTree.{FunctionTree, StatementTree, named, number, no_expression, and_expression, argument_array, local_array, local_stream, map_scope, consume_scope, for_loop, while_loop, branch, input, Block, no_statement, and_statement}
use Rattle.sd_range.specs.declared.affine.Affine.{Affine}
use Rattle.sd_graph.specs.declared.container.Container.{Container}
use Rattle.sd_graph.specs.declared.container.ContainerKind.{ContainerKind}
use Rattle.sd_graph.specs.declared.container.ContainerKind.TheVariants.{Argument, Transient, Private, Stream, PrivateStream}
use Rattle.sd_program.specs.Affines.{affine_number}
use Rattle.sd_program.specs.Names.{Name}
use Rattle.sd_program.specs.DeclaredNames.{container_names}
use Rattle.sd_task.specs.containers.Declarations.{containers_of_function, variable_names_all}

abbrev container_of : List Affine → ContainerKind → Container
container_of extents kind = record { extents = extents; kind = kind; width = W64 }

abbrev one : Affine
one = affine_number (pos 1)

abbrev size : Affine
size = record { constant = pos 0; terms = (0, pos 1) ∷ [] }

-- a consume scope of `S`
abbrev consumes : (element : Name) → Block → StatementTree
consumes element body = consume_scope 9 (codes "S") (pos 1) (codes "work") element None body

-- a tasklet with one connector
abbrev reads : Block
reads = and_statement (input 10 (codes "a") (record { name = codes "A"; volume = None; lambda = None; dimensions = [] })) no_statement

-- kinds at depth: arguments, arrays and streams of the program's own, those of scopes, those in loops and branches
abbrev nested : FunctionTree
nested = record {
  name = codes "f";
  line = 3;
  arguments =
      and_statement (argument_array 3 (codes "A") 64 (and_expression (named (codes "N")) (and_expression (number (pos 2)) no_expression)))
      (and_statement (argument_array 3 (codes "B") 64 no_expression) no_statement);
  body =
      and_statement (local_stream 4 (codes "S") 64 (Some (pos 8)))
      (and_statement
      (for_loop 5 (codes "k") None (named (codes "N")) None
      (and_statement (local_array 6 (codes "T") (and_expression (named (codes "N")) no_expression) 64) no_statement))
      (and_statement
      (map_scope 7 (codes "i" ∷ codes "j" ∷ []) []
      (and_statement (local_array 8 (codes "P") (and_expression (number (pos 1)) no_expression) 64)
      (and_statement (local_stream 8 (codes "Q") 64 None) no_statement)))
      (and_statement
      (branch 9 (named (codes "N")) (and_statement (local_stream 10 (codes "U") 64 None) no_statement)
      (and_statement (while_loop 11 (named (codes "N")) (and_statement (local_array 12 (codes "V") (and_expression (named (codes "N")) no_expression) 64) no_statement)) no_statement))
      (and_statement (consumes (codes "e") (and_statement (local_array 10 (codes "W") (and_expression (named (codes "N")) no_expression) 64) no_statement)) no_statement))));
}

nested_containers : containers_of_function (codes "N" ∷ []) nested
    ≡ (codes "A", container_of (size ∷ affine_number (pos 2) ∷ []) Argument) ∷ (codes "B", container_of (one ∷ []) Argument) ∷
    (codes "S", container_of [] Stream) ∷ (codes "T", container_of (size ∷ []) Transient) ∷ (codes "P", container_of (one ∷ []) Private) ∷
    (codes "Q", container_of [] PrivateStream) ∷ (codes "U", container_of [] Stream) ∷ (codes "V", container_of (size ∷ []) Transient) ∷
    (codes "e", container_of (one ∷ []) Private) ∷ (codes "W", container_of (size ∷ []) Private) ∷ []
unfolding digits
nested_containers = refl

nested_variables : variable_names_all nested.body (codes "N" ∷ []) ≡ codes "N" ∷ codes "k" ∷ codes "i" ∷ codes "j" ∷ []
nested_variables = refl

-- elements of tasklets: `x` is declared later, `e` is new once, and an argument has the name `A$1`
abbrev taken : FunctionTree
taken = record {
  name = codes "f";
  line = 3;
  arguments =
      and_statement (argument_array 3 (codes "A") 64 no_expression)
      (and_statement (argument_array 3 (codes "A$1") 64 no_expression) no_statement);
  body =
      and_statement (consumes (codes "x") reads)
      (and_statement (consumes (codes "e") reads)
      (and_statement (consumes (codes "e") reads)
      (and_statement (consumes (codes "x") reads)
      (and_statement (consumes (codes "A") reads)
      (and_statement (local_stream 4 (codes "x") 64 None) no_statement)))));
}

taken_names : container_names taken ≡ codes "A" ∷ codes "A$1" ∷ codes "x" ∷ []
taken_names = refl

taken_containers : containers_of_function [] taken
    ≡ (codes "A", container_of (one ∷ []) Argument) ∷ (codes "A$1", container_of (one ∷ []) Argument) ∷ (codes "x$1", container_of (one ∷ []) Private) ∷
    (codes "e", container_of (one ∷ []) Private) ∷ (codes "e$1", container_of (one ∷ []) Private) ∷ (codes "x$2", container_of (one ∷ []) Private) ∷
    (codes "A$2", container_of (one ∷ []) Private) ∷ (codes "x", container_of [] Stream) ∷ []
unfolding digits
taken_containers = refl
