-- Which expressions have few levels.
use Rattle.std.proofs.Common.{ℕ, zero, suc, pos, [], true, None, codes, arith}
use Rattle.sd_lex.specs.PlainTree.{Expression, number, element_at, one, two, no_expression, and_expression, StatementTree, assign, for_loop, set, no_statement}
use Rattle.sd_program.specs.Place.{Around, program, scope, Place}
use Rattle.sd_lex.specs.declared.syntax.operator.OneSign.TheVariants.{Neg}
use Rattle.sd_lex.specs.declared.syntax.operator.TwoSign.TheVariants.{Add}
use Rattle.sd_read.specs.readable.Levels.{IsShallow, IsShallowCode, HasFewLevels}

-- a number with so many signs before it
abbrev minus : ℕ → Expression
minus zero = number (pos 1)
minus (suc n) = one Neg (minus n)

-- an element with that many in its subscript
abbrev element : ℕ → Expression
element n = element_at (codes "A") (and_expression (minus n) no_expression)

abbrev at : Around → Place
at around = record { programs = []; around = around; depth = 0; containers = [] }

as_many_as_may_be : IsShallow 64 (minus 64)
as_many_as_may_be = (omega arith, tt)

one_too_many : IsShallow 64 (minus 65) → ⊥
one_too_many few = absurd (omega (arith, few.0))

-- the deeper operand counts
beside_another : IsShallow 64 (two Add (minus 63) (minus 63))
beside_another = (omega arith, (tt, tt))

too_deep_on_one_side : IsShallow 64 (two Add (minus 1) (minus 64)) → ⊥
too_deep_on_one_side few = absurd (omega (arith, few.0))

-- outside of tasklets an element has subscripts of its own, and is a level inside them
in_a_body : IsShallow 64 (one Neg (element 64))
in_a_body = (omega arith, (omega arith, tt))

deep_in_a_body : IsShallow 64 (element 65) → ⊥
deep_in_a_body few = absurd (omega (arith, few.1.0))

in_a_tasklet : IsShallowCode (element 63)
in_a_tasklet = omega arith

deep_in_a_tasklet : HasFewLevels (at program) (set 1 (codes "b") (element 64)) → ⊥
deep_in_a_tasklet few = absurd (omega (arith, few))

-- the value of `+=` has one less outside of scopes
abbrev sum_of : ℕ → StatementTree
sum_of n = assign 1 (codes "A") no_expression true (minus n)

sum_in_a_program : HasFewLevels (at program) (sum_of 64) → ⊥
sum_in_a_program few = absurd (omega (arith, few.1.0))

sum_in_a_scope : HasFewLevels (at scope) (sum_of 64)
sum_in_a_scope = (tt, (omega arith, tt))

-- so has the end of a range
end_of_a_range : HasFewLevels (at program) (for_loop 1 (codes "k") None (minus 64) None no_statement) → ⊥
end_of_a_range few = absurd (omega (arith, few.1.0))
