-- The names that a line declares are new.
use Rattle.std.proofs.Common.{◌≡◌, List, [], ◌∷◌, true, false, not, ◌||◌}
use Rattle.sd_line.specs.line.Head.{HeadTree}
use Rattle.sd_names.specs.Names.{Name, Names, is_free, is_among}
use Rattle.sd_uses.specs.Twice.{declares, are_not_new, has_reserved, names_consume}
use Rattle.sd_uses.specs.Uses.{lambda_of}
use Rattle.sd_refusal.specs.declared.site.Site.{Site}
use Rattle.sd_read.proofs.readable_lemmas.kept.Affine.{negated}
use Rattle.sd_read.proofs.readable_lemmas.kept.Passing.{Passes, neither}

pub first_new : (names : Names) (name : Name) (rest : List Name) → are_not_new names [] (name ∷ rest) ≡ false → is_free names name ≡ true
first_new names name rest none =
    let both = neither (not (is_free names name) || is_among [] name) _ none in
    negated (is_free names name) (neither (not (is_free names name)) (is_among [] name) both.0).0

pub declares_new : (names : Names) (site : Site) (head : HeadTree) → Passes names site head → are_not_new names [] (declares names head) ≡ false
declares_new names site head passed =
    (neither (are_not_new names [] (declares names head)) (has_reserved (lambda_of head))
    (neither (are_not_new names [] (declares names head) || has_reserved (lambda_of head)) (names_consume names head) passed.once).0).0
