-- Expressions of the code as those of the plain tree.
use Rattle.std.proofs.Common.{◌≡◌, refl, Bool, List, [], ◌∷◌, ◌++◌, length, arith, ◌||◌}
use Rattle.std.specs.List.{list_any}
use Rattle.sd_lex.specs.declared.syntax.expression.Expr.{Expr}
use Rattle.sd_lex.specs.TreeFold.{expressions_of}
use Rattle.sd_names.specs.Expressions.{count_of}

pub count_expressions : (expressions : List Expr) → count_of (expressions_of expressions) ≡ length expressions
count_expressions [] = refl
count_expressions (expression ∷ expressions) = grind (arith, count_expressions expressions)

pub any_append : {A : Type 0} (test : A → Bool) (xs ys : List A) → list_any test (xs ++ ys) ≡ (list_any test xs || list_any test ys)
any_append test [] ys = refl
any_append test (x ∷ xs) ys = grind (arith, any_append test xs ys)
