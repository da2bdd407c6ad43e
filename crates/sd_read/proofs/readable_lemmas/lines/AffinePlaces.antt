-- The affine places of each accepted line are affine, and small whatever numbers their variables have.
use Rattle.std.proofs.Common.{◌≡◌, nat_lt, ℕ, zero, suc, ◌+◌, List, [], ◌∷◌, Bool, true, false, not, ◌||◌, if◌then◌else◌, cond, Option, Some, None, is_none, bytes_eq, refl, ap, sym, ◌∙◌, arith}
use Rattle.std.specs.List.{list_any}
use Rattle.std.proofs.lemmas.Slice.Eq.{bytes_eq-Decides}
use Rattle.sd_lex.specs.PlainTree.{Expression, number, named, element_at, one, two, choice, Expressions, no_expression, and_expression, StatementTree, argument_array, local_array, local_stream, assign, copy, reduce, map_scope, tasklet, consume_scope, call, for_loop, while_loop, branch, input, output, set, set_at, tasklet_branch, no_statement}
use Rattle.sd_line.specs.declared.line.head.BlockKind.{BlockKind}
use Rattle.sd_line.specs.declared.line.head.BlockKind.TheVariants.{Top, Program, Scope, Tasklet}
use Rattle.sd_line.specs.line.Head.{HeadTree, statement_head, input_head, output_head, elif_head}
use Rattle.sd_phrase.specs.Memlet.{MemletTree}
use Rattle.sd_context.specs.context.Placing.{memlet_of}
use Rattle.sd_context.specs.blocks.Closing.{branch_with}
use Rattle.sd_range.specs.declared.affine.Affine.{Affine}
use Rattle.sd_names.specs.declared.meaning.Meaning.{Meaning}
use Rattle.sd_names.specs.Names.{Name, Names, meaning_of, listed, place_of, is_number_kind, is_array, is_stream}
use Rattle.sd_names.specs.Expressions.{any_name, any_name_of, any_subscript, any_of, is_rough, is_wide, affine_of, expressions_of_dimensions}
use Rattle.sd_uses.specs.Uses.{Use, value, code, bound, extent, part, target, called, consumed, uses}
use Rattle.sd_uses.specs.UnknownName.{has_unknown, is_unknown_use, assigns_unknown}
use Rattle.sd_refusal.specs.NotAffine.{any_bound, head_varies}
use Rattle.sd_refusal.specs.OverLimit.{is_wide_or_long, counts_much}
use Rattle.sd_refusal.specs.declared.site.Site.{Site}
use Rattle.sd_program.specs.IsAffine.{IsAffine}
use Rattle.sd_program.specs.Small.{IsSmall}
use Rattle.sd_program.specs.Bounds.{EachDimension, EachBound}
use Rattle.sd_program.proofs.Within.{HasOwnNumbers, small_by}
use Rattle.sd_program.proofs.BoundsTold.{told-bounds}
use Rattle.sd_read.proofs.readable_lemmas.kept.Passing.{Passes, neither, true_is_not_false, false_is_not_true}
use Rattle.sd_read.proofs.readable_lemmas.lines.Places.{Fails, statement_fails, dimensions_fail, value_fails}
use Rattle.sd_read.proofs.readable_lemmas.kept.Heads.{IsOfLine}
use Rattle.sd_read.proofs.readable_lemmas.kept.Trees.{bare, HoldsOfLines}
use Rattle.sd_read.proofs.readable_lemmas.kept.Affine.{negated, not_rough, formed}

-- the name that stands at a place
abbrev name_at : List (Name × Meaning) → ℕ → Name
name_at [] place = []
name_at (entry ∷ entries) zero = entry.0
name_at (entry ∷ entries) (suc place) = name_at entries place

-- a name that means something stands at its own place
at_place : (entries : List (Name × Meaning)) (name : Name) → is_number_kind (listed entries name) ≡ true → name_at entries (place_of entries name) ≡ name
at_place [] name is = false_is_not_true is
at_place (entry ∷ entries) name is = by_test (bytes_eq name entry.0) refl (at_place entries name) is where
  by_test : (test : Bool) → bytes_eq name entry.0 ≡ test → (is_number_kind (listed entries name) ≡ true → name_at entries (place_of entries name) ≡ name) →
      is_number_kind (if test then Some entry.1 else listed entries name) ≡ true → name_at (entry ∷ entries) (cond (not test) (1 + place_of entries name) 0) ≡ name
  by_test true same later is = sym ((bytes_eq-Decides name entry.0).0 same)
  by_test false other later is =
      let grown : 1 + place_of entries name ≡ suc (place_of entries name) = omega arith in
      ap (name_at (entry ∷ entries)) grown ∙ later is

module _ (names : Names) where
  own_numbers : (e : Expression) → IsAffine e → has_unknown names e ≡ false → HasOwnNumbers (place_of names.meanings) (name_at names.meanings) e
  own_numbers (number n) affine known = tt
  own_numbers (named name) affine known = at_place names.meanings name (negated (is_number_kind (meaning_of names name)) known)
  own_numbers (element_at name at) affine known = absurd affine
  own_numbers (one sign of) affine known = own_numbers of affine.1 known
  own_numbers (two sign left right) affine known =
      let halves = neither (has_unknown names left) (has_unknown names right) known in
      (own_numbers left affine.1.0 halves.0, own_numbers right affine.1.1 halves.1)
  own_numbers (choice yes' when no') affine known = absurd affine

  -- an affine place that is accepted is small
  pub small : (e : Expression) → is_rough e ≡ false → has_unknown names e ≡ false → is_wide names.meanings e ≡ false → IsSmall e
  small e smooth known narrow = by_form (affine_of names.meanings e) refl narrow where
    by_form : (form : Option Affine) → affine_of names.meanings e ≡ form → is_none form ≡ false → IsSmall e
    by_form None form narrow = true_is_not_false narrow
    by_form (Some a) form narrow =
        let affine = not_rough e smooth in
        small_by (place_of names.meanings) (name_at names.meanings) e affine (own_numbers e affine known) (formed names.meanings e a affine form).0

  -- a name that is not in force stands in no subscript
  mutual_of : (alone : Name → Bool) (subscripted : Name → ℕ → Bool) (es : Expressions) → any_name_of alone subscripted es ≡ false → any_of (any_name alone subscripted) es ≡ false
  mutual_of alone subscripted no_expression none = refl
  mutual_of alone subscripted (and_expression first rest) none =
      let halves = neither (any_name alone subscripted first) (any_name_of alone subscripted rest) none in
      rw (halves.0, mutual_of alone subscripted rest halves.1) refl

  no_subscript : (alone : Name → Bool) (subscripted : Name → ℕ → Bool) (e : Expression) → any_name alone subscripted e ≡ false → any_subscript (any_name alone subscripted) e ≡ false
  no_subscript alone subscripted (number n) none = refl
  no_subscript alone subscripted (named name) none = refl
  no_subscript alone subscripted (element_at name at) none = mutual_of alone subscripted at (neither (subscripted name _) (any_name_of alone subscripted at) none).1
  no_subscript alone subscripted (one sign of) none = no_subscript alone subscripted of none
  no_subscript alone subscripted (two sign left right) none =
      let halves = neither (any_name alone subscripted left) (any_name alone subscripted right) none in
      rw (no_subscript alone subscripted left halves.0, no_subscript alone subscripted right halves.1) refl
  no_subscript alone subscripted (choice yes' when no') none =
      let all = neither (any_name alone subscripted yes' || any_name alone subscripted when) (any_name alone subscripted no') none in
      let first = neither (any_name alone subscripted yes') (any_name alone subscripted when) all.0 in
      rw (no_subscript alone subscripted yes' first.0, no_subscript alone subscripted when first.1, no_subscript alone subscripted no' all.1) refl

  known_use : (use' : Use) → is_unknown_use names use' ≡ false → any_bound (has_unknown names) use' ≡ false
  known_use (value e) known = no_subscript _ _ e known
  known_use (code e) known = refl
  known_use (bound e) known = known
  known_use (extent e) known = known
  known_use (part name dimensions) known = (neither (not (is_array names name)) (list_any (has_unknown names) (expressions_of_dimensions dimensions)) known).1
  known_use (target name dimensions) known = (neither (not (is_array names name || is_stream names name)) (list_any (has_unknown names) (expressions_of_dimensions dimensions)) known).1
  known_use (called name) known = refl
  known_use (consumed name) known = refl

  known_uses : (all : List Use) → list_any (is_unknown_use names) all ≡ false → list_any (any_bound (has_unknown names)) all ≡ false
  known_uses [] known = refl
  known_uses (first ∷ rest) known =
      let halves = neither (is_unknown_use names first) (list_any (is_unknown_use names) rest) known in
      rw (known_use first halves.0, known_uses rest halves.1) refl

  -- the tests that fail at the uses of an accepted line
  module _ (site : Site) (head : HeadTree) (passed : Passes names site head) where
    smooth_uses : list_any (any_bound is_rough) (uses site.kind head) ≡ false
    smooth_uses = (neither (list_any (any_bound is_rough) (uses site.kind head)) (head_varies names head) passed.affine).0

    familiar_uses : list_any (any_bound (has_unknown names)) (uses site.kind head) ≡ false
    familiar_uses = known_uses (uses site.kind head) (neither (assigns_unknown names head) (list_any (is_unknown_use names) (uses site.kind head)) passed.known).1

    narrow_uses : list_any (any_bound (is_wide names.meanings)) (uses site.kind head) ≡ false
    narrow_uses =
        let not_much = neither (nat_lt 7 site.depth || list_any (any_bound (is_wide names.meanings)) (uses site.kind head) || is_wide_or_long head) (counts_much names site head) passed.limited in
        let not_long = neither (nat_lt 7 site.depth || list_any (any_bound (is_wide names.meanings)) (uses site.kind head)) (is_wide_or_long head) not_much.0 in
        (neither (nat_lt 7 site.depth) (list_any (any_bound (is_wide names.meanings)) (uses site.kind head)) not_long.0).1

  -- the other heads with affine places
  input_test : (test : Expression → Bool) (site : Site) (connector : Name) (memlet : MemletTree) → list_any (any_bound test) (uses site.kind (input_head connector memlet)) ≡ false → EachDimension (Fails test) memlet.dimensions
  input_test test site connector memlet none = dimensions_fail test memlet.dimensions (neither (list_any test (expressions_of_dimensions memlet.dimensions)) false none).0

  output_test : (test : Expression → Bool) (site : Site) (connector : Name) (memlet : MemletTree) → list_any (any_bound test) (uses site.kind (output_head connector memlet)) ≡ false → EachDimension (Fails test) memlet.dimensions
  output_test test site connector memlet none = dimensions_fail test memlet.dimensions (neither (list_any test (expressions_of_dimensions memlet.dimensions)) false none).0

  other_test : (test : Expression → Bool) (kind : BlockKind) (line : ℕ) (when : Expression) → list_any (any_bound test) (uses kind (elif_head when)) ≡ false →
      EachBound (Fails test) (branch_with kind (record { line = line; when = when; statements = [] }) no_statement)
  other_test test Top line when none = value_fails test when (neither (any_subscript test when) false none).0
  other_test test Program line when none = value_fails test when (neither (any_subscript test when) false none).0
  other_test test Scope line when none = value_fails test when (neither (any_subscript test when) false none).0
  other_test test Tasklet line when none = tt

  -- what holds of an affine place that is accepted
  module _ (Told : Expression → Type 0) (tells : (e : Expression) → is_rough e ≡ false → has_unknown names e ≡ false → is_wide names.meanings e ≡ false → Told e) where
    said_places : (site : Site) (s : StatementTree) → IsOfLine s → Passes names site (statement_head s) → EachBound Told s
    said_places site s of passed =
        told-bounds (Fails is_rough) (Fails (has_unknown names)) (Fails (is_wide names.meanings)) Told tells s
        (statement_fails is_rough site.kind s of (smooth_uses site (statement_head s) passed))
        (statement_fails (has_unknown names) site.kind s of (familiar_uses site (statement_head s) passed))
        (statement_fails (is_wide names.meanings) site.kind s of (narrow_uses site (statement_head s) passed))

    input_places : (site : Site) (line : ℕ) (connector : Name) (memlet : MemletTree) → Passes names site (input_head connector memlet) → EachBound Told (input line connector (memlet_of memlet))
    input_places site line connector memlet passed =
        told-bounds (Fails is_rough) (Fails (has_unknown names)) (Fails (is_wide names.meanings)) Told tells (input line connector (memlet_of memlet))
        (input_test is_rough site connector memlet (smooth_uses site (input_head connector memlet) passed))
        (input_test (has_unknown names) site connector memlet (familiar_uses site (input_head connector memlet) passed))
        (input_test (is_wide names.meanings) site connector memlet (narrow_uses site (input_head connector memlet) passed))

    output_places : (site : Site) (line : ℕ) (connector : Name) (memlet : MemletTree) → Passes names site (output_head connector memlet) → EachBound Told (output line connector (memlet_of memlet))
    output_places site line connector memlet passed =
        told-bounds (Fails is_rough) (Fails (has_unknown names)) (Fails (is_wide names.meanings)) Told tells (output line connector (memlet_of memlet))
        (output_test is_rough site connector memlet (smooth_uses site (output_head connector memlet) passed))
        (output_test (has_unknown names) site connector memlet (familiar_uses site (output_head connector memlet) passed))
        (output_test (is_wide names.meanings) site connector memlet (narrow_uses site (output_head connector memlet) passed))

    other_places : (site : Site) (line : ℕ) (when : Expression) → Passes names site (elif_head when) → EachBound Told (branch_with site.kind (record { line = line; when = when; statements = [] }) no_statement)
    other_places site line when passed =
        told-bounds (Fails is_rough) (Fails (has_unknown names)) (Fails (is_wide names.meanings)) Told tells (branch_with site.kind (record { line = line; when = when; statements = [] }) no_statement)
        (other_test is_rough site.kind line when (smooth_uses site (elif_head when) passed))
        (other_test (has_unknown names) site.kind line when (familiar_uses site (elif_head when) passed))
        (other_test (is_wide names.meanings) site.kind line when (narrow_uses site (elif_head when) passed))

-- the blocks below a statement have no part in its affine places
strip_places : (Told : Expression → Type 0) (s : StatementTree) → EachBound Told s → EachBound Told (bare s)
strip_places Told (argument_array line name bits extents) holds = holds
strip_places Told (local_array line name extents bits) holds = holds
strip_places Told (local_stream line name bits size) holds = holds
strip_places Told (assign line name at add e) holds = holds
strip_places Told (copy line to to_dimensions from from_dimensions) holds = holds
strip_places Told (reduce line lambda from to axis identity) holds = holds
strip_places Told (map_scope line parameters ranges body) holds = holds
strip_places Told (tasklet line body) holds = holds
strip_places Told (consume_scope line from size name element worker body) holds = holds
strip_places Told (call line name arguments) holds = holds
strip_places Told (for_loop line name begin end step body) holds = holds
strip_places Told (while_loop line when body) holds = holds
strip_places Told (branch line when body other) holds = holds
strip_places Told (input line connector memlet) holds = holds
strip_places Told (output line connector memlet) holds = holds
strip_places Told (set line name e) holds = holds
strip_places Told (set_at line name at e) holds = holds
strip_places Told (tasklet_branch line when body other) holds = holds

fill_places : (Told : Expression → Type 0) (s : StatementTree) → EachBound Told (bare s) → EachBound Told s
fill_places Told (argument_array line name bits extents) holds = holds
fill_places Told (local_array line name extents bits) holds = holds
fill_places Told (local_stream line name bits size) holds = holds
fill_places Told (assign line name at add e) holds = holds
fill_places Told (copy line to to_dimensions from from_dimensions) holds = holds
fill_places Told (reduce line lambda from to axis identity) holds = holds
fill_places Told (map_scope line parameters ranges body) holds = holds
fill_places Told (tasklet line body) holds = holds
fill_places Told (consume_scope line from size name element worker body) holds = holds
fill_places Told (call line name arguments) holds = holds
fill_places Told (for_loop line name begin end step body) holds = holds
fill_places Told (while_loop line when body) holds = holds
fill_places Told (branch line when body other) holds = holds
fill_places Told (input line connector memlet) holds = holds
fill_places Told (output line connector memlet) holds = holds
fill_places Told (set line name e) holds = holds
fill_places Told (set_at line name at e) holds = holds
fill_places Told (tasklet_branch line when body other) holds = holds

pub places_hold : (Told : Expression → Type 0) → ((names : Names) (e : Expression) → is_rough e ≡ false → has_unknown names e ≡ false → is_wide names.meanings e ≡ false → Told e) → HoldsOfLines (EachBound Told)
places_hold Told tells = record {
  fill = λ s small. fill_places Told s;
  moved = λ line other when holds. holds;
  moved_inside = λ line other when holds. holds;
  said = λ names site s of passed. strip_places Told s (said_places names Told (tells names) site s of passed);
  reduced = λ line lambda from to axis identity. tt;
  taken = λ line from size name element worker. tt;
  put_in = λ names site line connector memlet on passed. input_places names Told (tells names) site line connector memlet passed;
  put_out = λ names site line connector memlet on passed. output_places names Told (tells names) site line connector memlet passed;
  other = λ names site line when passed. other_places names Told (tells names) site line when passed;
}
