-- Tests of the affine places of uses, as tests of the expressions in them.
use Rattle.std.proofs.Common.{◌≡◌, refl, ap, ◌∙◌, Bool, false, List, [], ◌∷◌, ◌++◌, map, ◌||◌, Option, Some, None, arith}
use Rattle.std.specs.List.{list_any}
use Rattle.sd_lex.specs.PlainTree.{Expression, Expressions, no_expression, and_expression}
use Rattle.sd_names.specs.Expressions.{any_of, expression_list}
use Rattle.sd_names.specs.Expressions.{optional}
use Rattle.sd_uses.specs.Uses.{bound, extent, code}
use Rattle.sd_refusal.specs.NotAffine.{any_bound}
use Rattle.sd_uses.proofs.UseLemmas.{index_places}

pub any_of_listed : (test : Expression → Bool) (es : Expressions) → list_any test (expression_list es) ≡ any_of test es
any_of_listed test no_expression = refl
any_of_listed test (and_expression first rest) = ap (λ others. test first || others) (any_of_listed test rest)

pub bounds_bound : (test : Expression → Bool) (es : List Expression) → list_any (any_bound test) (map bound es) ≡ list_any test es
bounds_bound test [] = refl
bounds_bound test (e ∷ es) = ap (λ rest. test e || rest) (bounds_bound test es)

pub extents_alone : (test : Expression → Bool) (es : List Expression) → list_any (any_bound test) (map extent es) ≡ list_any test es
extents_alone test [] = refl
extents_alone test (e ∷ es) = ap (λ rest. test e || rest) (extents_alone test es)

-- code has no affine place
pub codes_bound : (test : Expression → Bool) (es : List Expression) (e : Expression) → list_any (any_bound test) (map code es ++ code e ∷ []) ≡ false
codes_bound test [] e = refl
codes_bound test (first ∷ es) e = codes_bound test es e

pub loop_bound : (test : Expression → Bool) (begin : Option Expression) (end : Expression) → list_any (any_bound test) (map bound (optional begin ++ end ∷ [])) ≡ (list_any test (optional begin) || test end)
loop_bound test None end = grind arith
loop_bound test (Some begin) end = grind arith

pub extents_bound : (test : Expression → Bool) (es : Expressions) → list_any (any_bound test) (map extent (expression_list es)) ≡ any_of test es
extents_bound test es = extents_alone test (expression_list es) ∙ any_of_listed test es

pub ruleset places_bound = (index_places, any_of_listed)

pub ruleset ranges_bound = (bounds_bound)

pub ruleset statement_bounds = (codes_bound)
