-- Tests of what a line uses, as tests of the expressions in it.
use Rattle.std.proofs.Common.{◌≡◌, refl, ap, List, [], ◌∷◌, map, ◌||◌}
use Rattle.std.specs.List.{list_any}
use Rattle.sd_lex.specs.PlainTree.{Expression, index}
use Rattle.sd_names.specs.Names.{Names}
use Rattle.sd_names.specs.Expressions.{expressions_of_dimensions}
use Rattle.sd_uses.specs.Uses.{bound, extent, code}
use Rattle.sd_uses.specs.UnknownName.{has_unknown, has_unknown_in_code, is_unknown_use}
use Rattle.sd_names.proofs.ExpressionLemmas.{any_append}

pub index_places : (es : List Expression) → expressions_of_dimensions (map index es) ≡ es
index_places [] = refl
index_places (e ∷ es) = ap (λ rest. e ∷ rest) (index_places es)

pub unknown_bounds : (names : Names) (es : List Expression) → list_any (is_unknown_use names) (map bound es) ≡ list_any (has_unknown names) es
unknown_bounds names [] = refl
unknown_bounds names (e ∷ es) = ap (λ rest. has_unknown names e || rest) (unknown_bounds names es)

pub unknown_extents : (names : Names) (es : List Expression) → list_any (is_unknown_use names) (map extent es) ≡ list_any (has_unknown names) es
unknown_extents names [] = refl
unknown_extents names (e ∷ es) = ap (λ rest. has_unknown names e || rest) (unknown_extents names es)

pub unknown_codes : (names : Names) (es : List Expression) → list_any (is_unknown_use names) (map code es) ≡ list_any (has_unknown_in_code names) es
unknown_codes names [] = refl
unknown_codes names (e ∷ es) = ap (λ rest. has_unknown_in_code names e || rest) (unknown_codes names es)

pub ruleset unknown_uses = (index_places, unknown_bounds, unknown_extents, unknown_codes, any_append)
