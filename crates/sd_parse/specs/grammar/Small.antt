-- A small source, which adds 1 to each element of an array, and the program that it is.
use Rattle.std.specs.Prelude.{ℕ, pos, List, [], ◌∷◌, ◌++◌, Some, None, false, codes}
use Rattle.sd_lex.specs.PlainTree.{number, named, element_at, two, Expressions, no_expression, and_expression, span, argument_array, assign, map_scope, no_statement, and_statement, ProgramTree}
use Rattle.sd_lex.specs.declared.syntax.operator.TwoSign.TheVariants.{Add}
use Rattle.sd_program.specs.Names.{Name}

-- its seven lines
abbrev pub small_source : List ℕ
small_source =
    codes "import dace\n" ++ codes "N = dace.symbol('N')\n" ++ codes "\n" ++ codes "@dace.program\n"
    ++ codes "def inc(A: dace.int64[N], B: dace.int64[N]):\n" ++ codes "    for i in dace.map[0:N]:\n" ++ codes "        B[i] = A[i] + 1\n"

abbrev pub at_one : Name → Expressions
at_one name = and_expression (named name) no_expression

abbrev pub small_program : ProgramTree
small_program = record {
  symbols = codes "N" ∷ [];
  functions = record {
    name = codes "inc";
    line = 4;
    arguments = and_statement (argument_array 5 (codes "A") 64 (at_one (codes "N"))) (and_statement (argument_array 5 (codes "B") 64 (at_one (codes "N"))) no_statement);
    body = and_statement (map_scope 6 (codes "i" ∷ []) (span (Some (number (pos 0))) (Some (named (codes "N"))) None ∷ [])
        (and_statement (assign 7 (codes "B") (at_one (codes "i")) false (two Add (element_at (codes "A") (at_one (codes "i"))) (number (pos 1)))) no_statement)) no_statement;
  } ∷ [];
}
