-- The bounds of an accepted statement have their values by any numbers, and what it names is an array.
use Rattle.std.proofs.Common.{◌≡◌, nat_lt, List, [], ◌∷◌, map, true, false, not, ◌||◌, Option, Some, None, refl, ap, ◌∙◌}
use Rattle.std.specs.Bool.{⊤}
use Rattle.std.specs.List.{AllByRecursion, list_any}
use Rattle.sd_range.specs.declared.affine.Affine.{Affine}
use Rattle.sd_lex.specs.PlainTree.{Expression, Expressions, no_expression, and_expression, Dimension, StatementTree}
use Rattle.sd_line.specs.line.Head.{statement_head}
use Rattle.sd_names.specs.declared.meaning.Container.{Container}
use Rattle.sd_names.specs.declared.meaning.Container.TheVariants.{Array, Stream}
use Rattle.sd_names.specs.Names.{Name, Names, place_of, container_of, is_array, is_array_kind}
use Rattle.sd_names.specs.Expressions.{is_rough, is_wide, value_of, expression_list, expressions_of_dimensions}
use Rattle.sd_refusal.specs.declared.site.Site.{Site}
use Rattle.sd_refusal.specs.NotAffine.{any_bound, head_varies}
use Rattle.sd_refusal.specs.OverLimit.{is_wide_or_long, counts_much}
use Rattle.sd_uses.specs.UnknownName.{has_unknown, is_unknown_use, assigns_unknown}
use Rattle.sd_uses.specs.Uses.{Use, value, code, bound, extent, part, target, called, consumed, argument, statement_uses, uses}
use Rattle.sd_program.specs.Bounds.{EachBound}
use Rattle.sd_program.specs.IsAffine.{IsAffine}
use Rattle.sd_program.proofs.BoundsTold.{told-bounds}
use Rattle.sd_read.proofs.readable_lemmas.kept.Affine.{negated, not_rough}
use Rattle.sd_read.proofs.readable_lemmas.kept.Heads.{IsOfLine}
use Rattle.sd_read.proofs.readable_lemmas.kept.Passing.{Passes, neither}
use Rattle.sd_read.proofs.readable_lemmas.lines.Places.{Fails, statement_fails}
use Rattle.sd_made_valid.proofs.read_shapes_lemmas.Values.{by_place, turned, names_listed, valued, by_numbers}
use Rattle.sd_made_valid.proofs.read_shapes_lemmas.Stretches.{IsSound}

-- uses of arrays, extents and programs
abbrev IsPlain : Use → Type 0
IsPlain (value e) = ⊥
IsPlain (code e) = ⊥
IsPlain (bound e) = ⊥
IsPlain (extent e) = ⊤
IsPlain (part name dimensions) = ⊤
IsPlain (target name dimensions) = ⊥
IsPlain (called name) = ⊤
IsPlain (consumed name) = ⊥

abbrev pub ArePlain : List Use → Type 0
ArePlain uses = AllByRecursion IsPlain uses

pub plain_arguments : (arguments : List (Name × List Dimension)) → ArePlain (map argument arguments)
plain_arguments [] = tt
plain_arguments (passed ∷ arguments) = (tt, plain_arguments arguments)

pub plain_extents : (extents : Expressions) → ArePlain (map extent (expression_list extents))
plain_extents no_expression = tt
plain_extents (and_expression first rest) = (tt, plain_extents rest)

module _ (names : Names) where
  known_use : (use' : Use) → IsPlain use' → is_unknown_use names use' ≡ false → any_bound (has_unknown names) use' ≡ false
  known_use (value e) plain known = absurd plain
  known_use (code e) plain known = absurd plain
  known_use (bound e) plain known = absurd plain
  known_use (extent e) plain known = known
  known_use (part name dimensions) plain known = (neither (not (is_array names name)) (list_any (has_unknown names) (expressions_of_dimensions dimensions)) known).1
  known_use (target name dimensions) plain known = absurd plain
  known_use (called name) plain known = refl
  known_use (consumed name) plain known = absurd plain

  known_uses : (all : List Use) → ArePlain all → list_any (is_unknown_use names) all ≡ false → list_any (any_bound (has_unknown names)) all ≡ false
  known_uses [] plain known = refl
  known_uses (first ∷ rest) plain known =
      let halves = neither (is_unknown_use names first) (list_any (is_unknown_use names) rest) known in
      rw (known_use first plain.0 halves.0, known_uses rest plain.1 halves.1) refl

  -- an expression that is accepted
  abbrev pub IsAccepted : Expression → Type 0
  IsAccepted e = IsAffine e × ((has_unknown names e ≡ false) × ((value_of names.meanings e ≡ by_place (place_of names.meanings) e) × IsSound names.meanings e))

  accepted_is : (e : Expression) → is_rough e ≡ false → has_unknown names e ≡ false → is_wide names.meanings e ≡ false → IsAccepted e
  accepted_is e smooth known narrow =
      let affine : IsAffine e = not_rough e smooth in
      (affine, (known, (valued names e affine narrow, λ variables. ap (turned names.meanings variables) (valued names e affine narrow) ∙ by_numbers names.meanings variables e affine (names_listed names e affine known))))

  module _ (site : Site) (s : StatementTree) (passed : Passes names site (statement_head s)) where
    pub known_of : list_any (is_unknown_use names) (statement_uses site.kind s) ≡ false
    known_of = (neither (assigns_unknown names (statement_head s)) (list_any (is_unknown_use names) (statement_uses site.kind s)) passed.known).1

    narrow_of : list_any (any_bound (is_wide names.meanings)) (statement_uses site.kind s) ≡ false
    narrow_of =
        let not_much = neither (nat_lt 7 site.depth || list_any (any_bound (is_wide names.meanings)) (statement_uses site.kind s) || is_wide_or_long (statement_head s)) (counts_much names site (statement_head s)) passed.limited in
        let not_long = neither (nat_lt 7 site.depth || list_any (any_bound (is_wide names.meanings)) (statement_uses site.kind s)) (is_wide_or_long (statement_head s)) not_much.0 in
        (neither (nat_lt 7 site.depth) (list_any (any_bound (is_wide names.meanings)) (statement_uses site.kind s)) not_long.0).1

    -- each bound of the statement is accepted
    pub bounds_accepted : IsOfLine s → ArePlain (statement_uses site.kind s) → EachBound IsAccepted s
    bounds_accepted of plain =
        told-bounds (Fails is_rough) (Fails (has_unknown names)) (Fails (is_wide names.meanings)) IsAccepted accepted_is s
        (statement_fails is_rough site.kind s of (neither (list_any (any_bound is_rough) (statement_uses site.kind s)) (head_varies names (statement_head s)) passed.affine).0)
        (statement_fails (has_unknown names) site.kind s of (known_uses (statement_uses site.kind s) plain known_of))
        (statement_fails (is_wide names.meanings) site.kind s of narrow_of)

  -- what a part is of is an array of these extents
  pub array_of : (name : Name) (dimensions : List Dimension) → is_unknown_use names (part name dimensions) ≡ false → (extents : List Affine) × (container_of names name ≡ Some (Array extents))
  array_of name dimensions known =
      by_found (container_of names name) refl (negated (is_array names name) (neither (not (is_array names name)) (list_any (has_unknown names) (expressions_of_dimensions dimensions)) known).0) where
        by_found : (found : Option Container) → container_of names name ≡ found → is_array_kind found ≡ true → (extents : List Affine) × (container_of names name ≡ Some (Array extents))
        by_found None is array = cc
        by_found (Some Stream) is array = cc
        by_found (Some (Array extents)) is array = (extents, is)
