-- Tests of wrong uses, as tests of the expressions in them.
use Rattle.std.proofs.Common.{◌≡◌, refl, ap, List, [], ◌∷◌, map, length, ◌||◌, suc, arith}
use Rattle.std.specs.List.{list_any}
use Rattle.sd_lex.specs.PlainTree.{Expression, index}
use Rattle.sd_lex.specs.declared.syntax.expression.Expr.{Expr}
use Rattle.sd_lex.specs.TreeFold.{expressions_of}
use Rattle.sd_names.specs.Names.{Name, Names, is_among, noted_all}
use Rattle.sd_names.proofs.NameLemmas.{any_name_same, among_noted_all}
use Rattle.sd_names.specs.Expressions.{any_name, expression_list}
use Rattle.sd_uses.specs.Uses.{bound, extent, code}
use Rattle.sd_refusal.specs.NotAForm.{mentions_any, misuses_name, misuses, is_misread_alone, is_misread_in_code}
use Rattle.sd_uses.proofs.UseLemmas.{index_places}
use Rattle.sd_names.proofs.ExpressionLemmas.{any_append}

pub misused_bounds : (names : Names) (es : List Expression) → list_any (misuses names) (map bound es) ≡ list_any (misuses_name names) es
misused_bounds names [] = refl
misused_bounds names (e ∷ es) = ap (λ rest. misuses_name names e || rest) (misused_bounds names es)

pub misused_extents : (names : Names) (es : List Expression) → list_any (misuses names) (map extent es) ≡ list_any (misuses_name names) es
misused_extents names [] = refl
misused_extents names (e ∷ es) = ap (λ rest. misuses_name names e || rest) (misused_extents names es)

pub misused_codes : (names : Names) (es : List Expression) → list_any (misuses names) (map code es) ≡ list_any (any_name (is_misread_alone names) (is_misread_in_code names)) es
misused_codes names [] = refl
misused_codes names (e ∷ es) = ap (λ rest. any_name (is_misread_alone names) (is_misread_in_code names) e || rest) (misused_codes names es)

-- as many places as expressions
pub place_count : (es : List Expr) → length (map index (expression_list (expressions_of es))) ≡ length es
place_count [] = refl
place_count (e ∷ es) = ap (λ n. suc n) (place_count es)

pub ruleset element_places = (index_places, place_count)

pub ruleset misused_uses = (misused_codes, any_append)

pub mentions_same : (first second : List Name) → ((name : Name) → is_among first name ≡ is_among second name) → (e : Expression) → mentions_any first e ≡ mentions_any second e
mentions_same first second same e = any_name_same (is_among first) (is_among second) same e

-- a set of names has the same names as the list
pub named_once : (names : List Name) (es : List Expression) → list_any (mentions_any (noted_all [] names)) es ≡ list_any (mentions_any names) es
named_once names [] = refl
named_once names (e ∷ es) = grind (arith, mentions_same (noted_all [] names) names (λ name. among_noted_all [] names name) e, named_once names es)
