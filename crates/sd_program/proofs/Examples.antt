-- A program that is well formed, and for each rule a statement that breaks it.
use Rattle.std.proofs.Common.{◌≡◌, ◌≤◌, ◌<◌, ◌^◌, zero, suc, inl, inr, ℕ, ◌+◌, ℤ, pos, List, [], ◌∷◌, codes, Option, Some, None, bytes_eq, Bool, true, false, refl, sym, subst, arith}
use Rattle.std.specs.Bool.{⊤}
use Rattle.std.specs.List.{IsDistinct}
use Rattle.std.proofs.lemmas.Int.{ints}
use Rattle.std.proofs.lemmas.Map.Keys.{IsDistinct-cons, IsDistinct-head}
use Rattle.std.proofs.lemmas.Map.Made.{IsDistinct-from_AllPairs}
use Rattle.std.proofs.lemmas.Slice.Eq.{bytes_eq-Decides}
use Rattle.sd_lex.specs.PlainTree.{Block, FunctionTree, Expression, number, named, element_at, two, Expressions, no_expression, and_expression, Dimension, span, StatementTree, argument_array, local_array, assign, map_scope, call, for_loop, while_loop, local_stream, tasklet, consume_scope, output, set, tasklet_branch, no_statement, and_statement, ProgramTree}
use Rattle.sd_lex.specs.declared.syntax.operator.TwoSign.TheVariants.{Add, Mul}
use Rattle.sd_source.specs.nodes.NodeLimits.{node_limits, nodes_over}
use Rattle.sd_program.specs.Names.{Name}
use Rattle.sd_program.specs.IsAffine.{IsAffine}
use Rattle.sd_program.specs.Small.{IsSmall}
use Rattle.sd_program.specs.Place.{program, scope, Place}
use Rattle.sd_program.specs.Known.{IsPlaced, IsKnown}
use Rattle.sd_program.specs.Calls.{IsCallable, CallShallowly}
use Rattle.sd_program.specs.Limits.{HasSteps, HasFewDimensions, HasFewParameters, HasFewAbout, HasFewReads, HasSmallTask, lines_in, containers_of, states_of}
use Rattle.sd_program.specs.DeclaredNames.{container_names}
use Rattle.sd_program.specs.WellFormed.{IsWellFormed}

abbrev n : Name
n = codes "N"

abbrev a : Name
a = codes "A"

-- ---- `def f(A: dace.int64[3]): A[0] = A[1]`

abbrev at : ℤ → Expressions
at place = and_expression (number place) no_expression

abbrev simple : ProgramTree
simple = record {
  symbols = [];
  functions = record {
    name = codes "f";
    line = 1;
    arguments = and_statement (argument_array 2 a 64 (at (pos 3))) no_statement;
    body = and_statement (assign 3 a (at (pos 0)) false (element_at a (at (pos 1)))) no_statement;
  } ∷ [];
}

small_number : (value : ℕ) → value < 2 ^ 40 → IsSmall (number (pos value))
small_number value below = ((λ variables. record { constant = below; coefficients = omega arith }), tt)

simple_is_well_formed : IsWellFormed simple
simple_is_well_formed = record {
  affine = ((((tt, tt), tt), (((tt, tt), (tt, tt)), tt)), tt);
  small = ((((small_number 3 (omega arith), tt), tt), (((small_number 0 (omega arith), tt), (small_number 1 (omega arith), tt)), tt)), tt);
  steps = (((tt, tt), (tt, tt)), tt);
  dimensions = (((omega arith, tt), (tt, tt)), tt);
  parameters = (((tt, tt), (tt, tt)), tt);
  placed = (((tt, tt), (tt, tt)), tt);
  known = (((tt, tt), ((refl, refl), tt)), tt);
  calls = (((tt, tt), (tt, tt)), tt);
  depth = (((omega arith, tt), (omega arith, tt)), tt);
  reads = (((tt, tt), (omega arith, tt)), tt);
  tasklets = (((tt, tt), (tt, tt)), tt);
  nodes = refl;
  containers = (omega arith, tt);
  names = (IsDistinct-cons bytes_eq a [] tt (IsDistinct-from_AllPairs bytes_eq-Decides [] (λ i j other before within. absurd (omega (arith, within)))), tt);
  states = (omega arith, tt);
  chains = (omega arith, tt);
}

-- ---- what breaks each rule

abbrev here : Place
here = record { programs = []; around = program; depth = 0; containers = [] }

-- `N * N` is not affine
square : IsAffine (two Mul (named n) (named n)) → ⊥
square affine = elim affine.0 [ inl none ↦ none | inr none ↦ none ]

-- `A[0]` in an affine place is not affine
element : IsAffine (element_at a (at (pos 0))) → ⊥
element affine = affine

-- 2^40 is too large
large : IsSmall (number (pos 1099511627776)) → ⊥
large small = omega (arith, (small.0 []).constant)

-- 2^40 - 1 + 1 has parts that are small, and is not
sum : IsSmall (two Add (number (pos 1099511627775)) (number (pos 1))) → ⊥
sum small = omega (arith, (small.0 []).constant)

-- 1025 * N weighs too much
heavy : IsSmall (two Mul (number (pos 1025)) (named n)) → ⊥
heavy small = omega (arith, (small.0 ((n, 0) ∷ [])).coefficients)

abbrev range : ℤ → Dimension
range step = span (Some (number (pos 0))) (Some (number (pos 3))) (Some step)

abbrev map_with : List Name → List Dimension → StatementTree
map_with parameters ranges = map_scope 1 parameters ranges no_statement

-- a map with the step 0, and one with a range too few
no_step : HasSteps (map_with (n ∷ []) (range (pos 0) ∷ [])) → ⊥
no_step steps = omega (arith, ints, steps.0.1.0, steps.0.1.1.0)

few_ranges : HasFewParameters (map_with (n ∷ a ∷ []) (range (pos 1) ∷ [])) → ⊥
few_ranges parameters = omega (arith, parameters.0)

-- five extents
five : HasFewDimensions (local_array 1 a (and_expression (number (pos 1)) (and_expression (number (pos 1)) (and_expression (number (pos 1)) (and_expression (number (pos 1)) (at (pos 1)))))) 64) → ⊥
five few = omega (arith, few)

-- a loop in a map
loop_in_map : IsPlaced (record here { around = scope }) (for_loop 1 n None (number (pos 3)) None no_statement) → ⊥
loop_in_map placed = placed

abbrev IsNone : {A : Type 0} → Option A → Type 0
IsNone None = ⊤
IsNone (Some value) = ⊥

abbrev IsSome : {A : Type 0} → Option A → Type 0
IsSome None = ⊥
IsSome (Some value) = ⊤

-- a container that is not in force
unknown : IsKnown here (assign 1 a (at (pos 0)) false (number (pos 1))) → ⊥
unknown known = subst IsNone known.0 tt

-- a program that does not stand above
no_program : IsCallable here (call 1 n []) → ⊥
no_program callable = subst IsNone callable tt

-- a statement in an eighth scope
deep : HasFewAbout (record here { depth = 8 }) (call 1 n []) → ⊥
deep few = omega (arith, few)

-- a condition that reads 64 elements
abbrev doubled : Expression → Expression
doubled e = two Add e e

crowded : HasFewReads here (while_loop 1 (doubled (doubled (doubled (doubled (doubled (doubled (element_at a (at (pos 0))))))))) no_statement) → ⊥
crowded few = omega (arith, few)

-- a program of 257 statements
abbrev repeated : ℕ → StatementTree → Block
repeated zero s = no_statement
repeated (suc count) s = and_statement s (repeated count s)

abbrev long : StatementTree → FunctionTree
long s = record { name = n; line = 1; arguments = no_statement; body = repeated 257 s }

-- 257 containers
many_containers : containers_of (long (local_array 1 a (at (pos 1)) 64)) ≤ 256 → ⊥
many_containers few = omega (arith, few)

-- 258 states
many_states : states_of (long (call 1 n [])) ≤ 256 → ⊥
many_states few = omega (arith, few)

-- programs of 20 calls, each of the program above
abbrev calling : ℕ → FunctionTree
calling level = record { name = (level + 1) ∷ []; line = level; arguments = no_statement; body = repeated 20 (call 1 (level ∷ []) []) }

-- 20 + 20^2 + 20^3 + 20^4 nodes
many_nodes : nodes_over node_limits (record { symbols = []; functions = calling 0 ∷ calling 1 ∷ calling 2 ∷ calling 3 ∷ [] }) ≡ None → ⊥
many_nodes none = subst IsSome none tt

-- nine calls in a chain, each of the program above
abbrev calling_once : ℕ → FunctionTree
calling_once level = record { name = (level + 1) ∷ []; line = level; arguments = no_statement; body = repeated 1 (call 1 (level ∷ []) []) }

deep_chain :
    CallShallowly (calling_once 8 ∷ calling_once 7 ∷ calling_once 6 ∷ calling_once 5 ∷ calling_once 4 ∷ calling_once 3 ∷ calling_once 2 ∷ calling_once 1 ∷ calling_once 0 ∷ []) → ⊥
deep_chain shallow = omega (arith, shallow.0)

-- an array and a stream of one name, the stream in a map
abbrev IsFalse : Bool → Type 0
IsFalse true = ⊥
IsFalse false = ⊤

abbrev twice : FunctionTree
twice = record {
  name = n;
  line = 1;
  arguments = and_statement (argument_array 2 a 64 (at (pos 3))) no_statement;
  body = and_statement (map_scope 3 [] [] (and_statement (local_stream 4 a 64 None) no_statement)) no_statement;
}

same_name : IsDistinct bytes_eq (container_names twice) → ⊥
same_name distinct = subst IsFalse (sym (IsDistinct-head bytes_eq a (a ∷ []) distinct).0) tt

-- the element of a consume scope that is one tasklet is no container
abbrev consumed : FunctionTree
consumed = record {
  name = n;
  line = 1;
  arguments = and_statement (argument_array 2 a 64 (at (pos 3))) no_statement;
  body = and_statement (consume_scope 3 a (pos 1) n a None (and_statement (output 4 n (record { name = a; volume = None; lambda = None; dimensions = [] })) no_statement)) no_statement;
}

element_of_task : container_names consumed ≡ a ∷ []
element_of_task = refl

-- a tasklet of 1,025 lines
many_lines : HasSmallTask (tasklet 1 (repeated 1025 (set 2 n (number (pos 0))))) → ⊥
many_lines small = omega (arith, small.1)

-- a consume scope with 64 connectors beside its element
many_connectors : HasSmallTask (consume_scope 1 a (pos 1) n a None (repeated 64 (output 2 n (record { name = a; volume = None; lambda = None; dimensions = [] })))) → ⊥
many_connectors small = omega (arith, (small refl).0)

-- `if`, `elif` and `else` with a line each are six
branched : lines_in (tasklet_branch 1 (named n) (repeated 1 (set 2 n (named n))) (repeated 1 (tasklet_branch 3 (named n) (repeated 1 (set 4 n (named n))) (repeated 1 (set 6 n (named n)))))) ≡ 6
branched = refl
