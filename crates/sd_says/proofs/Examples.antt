-- Small sources and what they say, computed.
use Rattle.std.proofs.Common.{◌≡◌, ℕ, pos, negsuc, List, [], ◌∷◌, Option, Some, None, true, false, refl}
use Rattle.std.specs.Int.{int_wrap}
use Rattle.sd_lex.specs.PlainTree.{copy, reduce, Expression, number, named, element_at, two, Expressions, no_expression, and_expression, index, span, argument_array, local_array, local_stream, assign, map_scope, call, for_loop, while_loop, branch, tasklet, consume_scope, input, output, set, set_at, tasklet_branch, Memlet, Block, no_statement, and_statement, FunctionTree, ProgramTree}
use Rattle.sd_lex.specs.declared.syntax.operator.TwoSign.TheVariants.{Add, Sub, Mul, Less, Equal, FloorDiv}
use Rattle.sd_lex.specs.declared.syntax.memlet.Lambda.TheVariants.{Sum}
use Rattle.sd_work.specs.declared.fault.FaultKind.TheVariants.{Division, Subscript}
use Rattle.sd_num.specs.declared.width.Width.TheVariants.{W64}
use Rattle.sd_work.specs.Memory.{Memory, array, stream}
use Rattle.sd_work.specs.Move.{fault_at}
use Rattle.sd_work.specs.Step.{Outcome, Done, Faulted, Spent}
use Rattle.sd_work.specs.Run.{Left}
use Rattle.sd_graph.specs.declared.place.Place.{Place}
use Rattle.sd_program.specs.Names.{Name}
use Rattle.sd_says.specs.Says.{said_within}

abbrev at_one : Expression → Expressions
at_one e = and_expression e no_expression

-- names
abbrev N : Name
N = 78 ∷ []

abbrev A : Name
A = 65 ∷ []

abbrev B : Name
B = 66 ∷ []

abbrev P : Name
P = 80 ∷ []

abbrev i : Name
i = 105 ∷ []

abbrev k : Name
k = 107 ∷ []

abbrev f : Name
f = 102 ∷ []

abbrev g : Name
g = 103 ∷ []

abbrev arguments : Block
arguments = and_statement (argument_array 1 A 64 (at_one (named N))) (and_statement (argument_array 1 B 64 (at_one (named N))) no_statement)

-- for k in range(0, 2): map i: P = local; P[0] = A[i] + 1; B[i] += P[0]
abbrev sums : FunctionTree
sums = record {
  name = f;
  line = 1;
  arguments = arguments;
  body = and_statement (for_loop 3 k None (number (pos 2)) None
      (and_statement (map_scope 4 (i ∷ []) (span (Some (number (pos 0))) (Some (named N)) None ∷ [])
      (and_statement (local_array 5 P (at_one (number (pos 1))) 64)
      (and_statement (assign 6 P (at_one (number (pos 0))) false (two Add (element_at A (at_one (named i))) (named k)))
      (and_statement (assign 7 B (at_one (named i)) true (element_at P (at_one (number (pos 0))))) no_statement)))) no_statement)) no_statement;
}

-- g calls f on a part, and then reads outside
abbrev calls_it : FunctionTree
calls_it = record {
  name = g;
  line = 9;
  arguments = and_statement (argument_array 9 A 64 (and_expression (number (pos 2)) (at_one (named N)))) (and_statement (argument_array 9 B 64 (at_one (named N))) no_statement);
  body = and_statement (call 10 f ((A, index (number (pos 1)) ∷ span (Some (number (pos 0))) (Some (named N)) None ∷ []) ∷ (B, span None None None ∷ []) ∷ [])) no_statement;
}

abbrev outside_it : FunctionTree
outside_it = record {
  name = g;
  line = 9;
  arguments = arguments;
  body = and_statement (for_loop 10 k None (number (pos 9)) None (and_statement (assign 11 A (at_one (two Add (named k) (number (pos 1)))) true (number (pos 5))) no_statement)) no_statement;
}

-- a source of these programs, where N is 2
abbrev says : List FunctionTree → (most : ℕ) → Memory → (turns : ℕ) → Option (Outcome Place Left)
says functions most memory turns = said_within most (record { symbols = N ∷ []; functions = functions }) ((N, pos 2) ∷ []) memory turns

abbrev two_arrays : Memory
two_arrays = array W64 (pos 3 ∷ pos 4 ∷ []) ∷ array W64 (pos 0 ∷ pos 10 ∷ []) ∷ array W64 [] ∷ []

sums_said : says (sums ∷ []) 3 two_arrays 20 ≡ Some (Done (record { memory = array W64 (pos 3 ∷ pos 4 ∷ []) ∷ array W64 (pos 7 ∷ pos 19 ∷ []) ∷ array W64 [] ∷ []; turns = 10 }))
unfolding int_wrap
sums_said = refl

sums_spent : says (sums ∷ []) 3 two_arrays 9 ≡ Some Spent
unfolding int_wrap
sums_spent = refl

abbrev three_arrays : Memory
three_arrays = array W64 (pos 0 ∷ pos 0 ∷ pos 3 ∷ pos 4 ∷ []) ∷ array W64 (pos 0 ∷ pos 10 ∷ []) ∷ []

call_said : says (sums ∷ calls_it ∷ []) 3 three_arrays 20 ≡ Some (Done (record { memory = array W64 (pos 0 ∷ pos 0 ∷ pos 3 ∷ pos 4 ∷ []) ∷ array W64 (pos 7 ∷ pos 19 ∷ []) ∷ []; turns = 10 }))
unfolding int_wrap
call_said = refl

outside_said : says (outside_it ∷ []) 3 two_arrays 20 ≡ Some (Faulted (fault_at (record { frames = record { line = 11; values = (k, pos 1) ∷ [] } ∷ [] }) Subscript))
unfolding int_wrap
outside_said = refl

-- a stream, a tasklet that pushes into it, and a consume scope with one tasklet: the numbers of a row
abbrev S : Name
S = 83 ∷ []

abbrev a : Name
a = 97 ∷ []

abbrev e : Name
e = 101 ∷ []

abbrev o : Name
o = 111 ∷ []

abbrev q : Name
q = 113 ∷ []

abbrev R : Name
R = 82 ∷ []

abbrev first_of : Name → Memlet
first_of name = record { name = name; volume = None; lambda = None; dimensions = index (number (pos 0)) ∷ [] }

abbrev pushed_to : Name → Memlet
pushed_to name = record { name = name; volume = Some (pos 1); lambda = None; dimensions = [] }

abbrev added_to : Name → Memlet
added_to name = record { name = name; volume = None; lambda = Some Sum; dimensions = index (number (pos 0)) ∷ [] }

-- x = e + e; if 0 < e: x = x + 1, and e - 1 is pushed (by adding -1); r += x
abbrev countdown : FunctionTree
countdown = record {
  name = f;
  line = 1;
  arguments = and_statement (argument_array 1 A 64 (at_one (number (pos 1)))) (and_statement (argument_array 1 R 64 (at_one (number (pos 1)))) no_statement);
  body = and_statement (local_stream 2 S 64 None)
      (and_statement (tasklet 3 (and_statement (input 4 a (first_of A)) (and_statement (output 5 o (pushed_to S)) (and_statement (set 6 o (named a)) (and_statement (set 7 o (number (pos 7))) no_statement)))))
      (and_statement (consume_scope 8 S (pos 4) f e None
      (and_statement (output 9 o (pushed_to S)) (and_statement (output 10 q (added_to R))
      (and_statement (set 11 a (two Add (named e) (named e)))
      (and_statement (tasklet_branch 12 (two Less (number (pos 0)) (named e))
      (and_statement (set 13 a (two Add (named a) (number (pos 1)))) (and_statement (set 14 B (two Add (named e) (number (negsuc 0)))) (and_statement (set 15 o (named B)) no_statement))) no_statement)
      (and_statement (set 16 q (named a)) no_statement)))))) no_statement));
}

abbrev start : Memory
start = array W64 (pos 2 ∷ []) ∷ array W64 (pos 100 ∷ []) ∷ stream W64 [] ∷ array W64 [] ∷ []

countdown_said : says (countdown ∷ []) 20 start 20 ≡ Some (Done (record { memory = array W64 (pos 2 ∷ []) ∷ array W64 (pos 171 ∷ []) ∷ stream W64 [] ∷ array W64 [] ∷ []; turns = 8 }))
unfolding int_wrap
countdown_said = refl

-- a copy and a reduction with an identity, without written subsets
abbrev T : Name
T = 84 ∷ []

abbrev two_three : Expressions
two_three = and_expression (number (pos 2)) (and_expression (number (pos 3)) no_expression)

abbrev red : FunctionTree
red = record {
  name = f;
  line = 1;
  arguments = and_statement (argument_array 1 A 64 two_three) (and_statement (argument_array 1 B 64 (at_one (number (pos 2)))) no_statement);
  body = and_statement (local_array 2 T two_three 64) (and_statement (copy 3 T (span None None None ∷ span None None None ∷ []) A (span None None None ∷ span None None None ∷ []))
      (and_statement (reduce 4 Sum T B (Some (pos 1)) (Some (pos 0))) no_statement));
}

abbrev six : Memory
six = array W64 (pos 1 ∷ pos 2 ∷ pos 3 ∷ pos 4 ∷ pos 5 ∷ pos 6 ∷ []) ∷ array W64 (pos 9 ∷ pos 9 ∷ []) ∷ array W64 (pos 0 ∷ pos 0 ∷ pos 0 ∷ pos 0 ∷ pos 0 ∷ pos 0 ∷ []) ∷ []

red_said : says (red ∷ []) 1 six 0 ≡ Some (Done (record {
  memory = array W64 (pos 1 ∷ pos 2 ∷ pos 3 ∷ pos 4 ∷ pos 5 ∷ pos 6 ∷ []) ∷ array W64 (pos 6 ∷ pos 15 ∷ []) ∷ array W64 (pos 1 ∷ pos 2 ∷ pos 3 ∷ pos 4 ∷ pos 5 ∷ pos 6 ∷ []) ∷ [];
  turns = 0;
}))
unfolding int_wrap
red_said = refl

-- the fifth number of Fibonacci: connectors of containers of one element without a subset, a stream, an `elif`
abbrev fib : FunctionTree
fib = record {
  name = f;
  line = 1;
  arguments = and_statement (argument_array 1 A 64 (at_one (number (pos 1)))) (and_statement (argument_array 1 R 64 (at_one (number (pos 1)))) no_statement);
  body = and_statement (local_stream 2 S 64 (Some (pos 1)))
      (and_statement (tasklet 3 (and_statement (input 4 a (record { name = A; volume = None; lambda = None; dimensions = [] })) (and_statement (output 5 o (pushed_to S)) (and_statement (set 6 o (named a)) no_statement))))
      (and_statement (consume_scope 7 S (pos 4) f e (Some P)
      (and_statement (output 9 o (pushed_to S)) (and_statement (output 10 q (record { name = R; volume = Some (negsuc 0); lambda = Some Sum; dimensions = [] }))
      (and_statement (tasklet_branch 11 (two Equal (named e) (number (pos 1))) (and_statement (set 12 q (number (pos 1))) no_statement)
      (and_statement (tasklet_branch 13 (two Less (number (pos 1)) (named e))
      (and_statement (set 14 o (two Add (named e) (number (negsuc 0)))) (and_statement (set 15 o (two Add (named e) (number (negsuc 1)))) no_statement)) no_statement) no_statement)) no_statement)))) no_statement));
}

fib_said : says (fib ∷ []) 20 (array W64 (pos 5 ∷ []) ∷ array W64 (pos 0 ∷ []) ∷ stream W64 [] ∷ array W64 [] ∷ []) 16 ≡ Some (Done (record { memory = array W64 (pos 5 ∷ []) ∷ array W64 (pos 5 ∷ []) ∷ stream W64 [] ∷ array W64 [] ∷ []; turns = 0 }))
unfolding int_wrap
fib_said = refl

-- ---- places of faults

-- `7 // (k - 1)` in a tasklet, and outside of its connector in the other
abbrev quotient : Expression
quotient = two FloorDiv (number (pos 7)) (two Sub (named k) (number (pos 1)))

abbrev whole_of : Name → Memlet
whole_of name = record { name = name; volume = None; lambda = None; dimensions = [] }

-- for k in range(2): with a tasklet: o >> B; o[k] = 7 // (k - 1)
abbrev divides : FunctionTree
divides = record {
  name = f;
  line = 1;
  arguments = arguments;
  body = and_statement (for_loop 2 k None (number (pos 2)) None
      (and_statement (tasklet 3 (and_statement (output 4 o (whole_of B)) (and_statement (set_at 5 o (at_one (named k)) quotient) no_statement))) no_statement)) no_statement;
}

divides_said : says (divides ∷ []) 3 two_arrays 20 ≡ Some (Faulted (fault_at (record { frames = record { line = 3; values = (k, pos 1) ∷ [] } ∷ [] }) Division))
unfolding int_wrap
divides_said = refl

-- the first effect came before the fault, and is the last thing that one turn less has done
divides_spent : says (divides ∷ []) 3 two_arrays 2 ≡ Some Spent
unfolding int_wrap
divides_spent = refl

-- g calls it for each point of a map: the place has a frame for each program
abbrev calls_divides : FunctionTree
calls_divides = record {
  name = g;
  line = 7;
  arguments = arguments;
  body = and_statement (map_scope 8 (i ∷ []) (span None (Some (named N)) None ∷ []) (and_statement (call 9 f ((A, []) ∷ (B, []) ∷ [])) no_statement)) no_statement;
}

calls_divides_said : says (divides ∷ calls_divides ∷ []) 3 two_arrays 20 ≡ Some (Faulted (fault_at
    (record { frames = record { line = 9; values = (i, pos 0) ∷ [] } ∷ record { line = 3; values = (k, pos 1) ∷ [] } ∷ [] }) Division))
unfolding int_wrap
calls_divides_said = refl

-- the element of a consume scope is shown: 5 is outside of B
abbrev shows_element : FunctionTree
shows_element = record {
  name = f;
  line = 1;
  arguments = arguments;
  body = and_statement (local_stream 2 S 64 None)
      (and_statement (tasklet 3 (and_statement (output 4 o (whole_of S)) (and_statement (set 5 o (number (pos 5))) no_statement)))
      (and_statement (consume_scope 6 S (pos 1) g e None
      (and_statement (output 7 o (whole_of B)) (and_statement (set_at 8 o (at_one (named e)) (number (pos 0))) no_statement))) no_statement));
}

shows_element_said : says (shows_element ∷ []) 3 (array W64 (pos 3 ∷ pos 4 ∷ []) ∷ array W64 (pos 0 ∷ pos 10 ∷ []) ∷ stream W64 [] ∷ array W64 [] ∷ []) 20
    ≡ Some (Faulted (fault_at (record { frames = record { line = 6; values = (e, pos 5) ∷ [] } ∷ [] }) Subscript))
unfolding int_wrap
shows_element_said = refl

-- ---- loops, branches and what is declared in them

-- while A[0] < 6: if A[0] < 5: L = local; L[0] += 1; A[0] += L[0] else: A[0] = 9
abbrev first_element : Name → Expression
first_element name = element_at name (at_one (number (pos 0)))

abbrev doubles : FunctionTree
doubles = record {
  name = f;
  line = 1;
  arguments = arguments;
  body = and_statement (while_loop 2 (two Less (first_element A) (number (pos 6)))
      (and_statement (branch 3 (two Less (first_element A) (number (pos 5)))
      (and_statement (local_array 4 P (at_one (two Add (two Sub (named N) (named N)) (number (pos 1)))) 64)
      (and_statement (assign 5 P (at_one (number (pos 0))) true (number (pos 1)))
      (and_statement (assign 6 A (at_one (number (pos 0))) true (first_element P)) no_statement)))
      (and_statement (assign 8 A (at_one (number (pos 0))) false (number (pos 9))) no_statement)) no_statement)) no_statement;
}

-- what is declared in a loop is not zero again in its next round: 3 and 1 and 2 are 6
doubles_said : says (doubles ∷ []) 9 (array W64 (pos 3 ∷ pos 4 ∷ []) ∷ array W64 (pos 0 ∷ pos 10 ∷ []) ∷ array W64 (pos 0 ∷ []) ∷ []) 20
    ≡ Some (Done (record { memory = array W64 (pos 6 ∷ pos 4 ∷ []) ∷ array W64 (pos 0 ∷ pos 10 ∷ []) ∷ array W64 (pos 2 ∷ []) ∷ []; turns = 14 }))
unfolding int_wrap
doubles_said = refl

-- too few tests allowed: nothing is said
doubles_unsaid : says (doubles ∷ []) 2 (array W64 (pos 3 ∷ pos 4 ∷ []) ∷ array W64 (pos 0 ∷ pos 10 ∷ []) ∷ array W64 (pos 0 ∷ []) ∷ []) 20 ≡ None
unfolding int_wrap
doubles_unsaid = refl

-- ---- a matrix times a vector, by a program that is called for each row

abbrev M : Name
M = 77 ∷ []

abbrev X : Name
X = 88 ∷ []

abbrev Y : Name
Y = 89 ∷ []

abbrev r : Name
r = 114 ∷ []

abbrev V : Name
V = 86 ∷ []

abbrev W : Name
W = 87 ∷ []

-- T[i] += X[i] * Y[i] for each i, and the sum of T to r
abbrev dot : FunctionTree
dot = record {
  name = f;
  line = 1;
  arguments = and_statement (argument_array 1 X 64 (at_one (named M))) (and_statement (argument_array 1 Y 64 (at_one (named M))) (and_statement (argument_array 1 r 64 (at_one (number (pos 1)))) no_statement));
  body = and_statement (local_array 2 T (at_one (named M)) 64)
      (and_statement (map_scope 3 (i ∷ []) (span (Some (number (pos 0))) (Some (named M)) None ∷ [])
      (and_statement (assign 4 T (at_one (named i)) true (two Mul (element_at X (at_one (named i))) (element_at Y (at_one (named i))))) no_statement))
      (and_statement (reduce 5 Sum T r None (Some (pos 0))) no_statement));
}

abbrev rows : FunctionTree
rows = record {
  name = g;
  line = 7;
  arguments = and_statement (argument_array 7 A 64 (and_expression (named N) (at_one (named M)))) (and_statement (argument_array 7 V 64 (at_one (named M))) (and_statement (argument_array 7 W 64 (at_one (named N))) no_statement));
  body = and_statement (map_scope 8 (k ∷ []) (span (Some (number (pos 0))) (Some (named N)) None ∷ [])
      (and_statement (call 9 f ((A, index (named k) ∷ span (Some (number (pos 0))) (Some (named M)) None ∷ []) ∷ (V, []) ∷ (W, index (named k) ∷ []) ∷ [])) no_statement)) no_statement;
}

abbrev rows_source : ProgramTree
rows_source = record { symbols = N ∷ M ∷ []; functions = dot ∷ rows ∷ [] }

rows_said : said_within 1 rows_source ((M, pos 3) ∷ (N, pos 2) ∷ [])
    (array W64 (pos 1 ∷ pos 2 ∷ pos 3 ∷ pos 4 ∷ pos 5 ∷ pos 6 ∷ []) ∷ array W64 (pos 10 ∷ pos 100 ∷ pos 1000 ∷ []) ∷ array W64 (pos 7 ∷ pos 7 ∷ []) ∷ []) 6
    ≡ Some (Done (record {
      memory = array W64 (pos 1 ∷ pos 2 ∷ pos 3 ∷ pos 4 ∷ pos 5 ∷ pos 6 ∷ []) ∷ array W64 (pos 10 ∷ pos 100 ∷ pos 1000 ∷ []) ∷ array W64 (pos 3210 ∷ pos 6540 ∷ []) ∷ [];
      turns = 0;
    }))
unfolding int_wrap
rows_said = refl
