-- The affine places of a line that passes a test.
use Rattle.std.proofs.Common.{◌≡◌, List, [], ◌∷◌, ◌++◌, map, Bool, false, ◌||◌, Option, Some, None, refl}
use Rattle.std.specs.List.{AllByRecursion, list_any}
use Rattle.sd_lex.specs.PlainTree.{Expression, number, named, element_at, one, two, choice, Expressions, no_expression, and_expression, Dimension, index, span, StatementTree, argument_array, local_array, local_stream, assign, copy, reduce, map_scope, tasklet, consume_scope, call, for_loop, while_loop, branch, input, output, set, set_at, tasklet_branch}
use Rattle.sd_line.specs.declared.line.head.BlockKind.{BlockKind}
use Rattle.sd_names.specs.Names.{Name}
use Rattle.sd_names.specs.Expressions.{any_subscript, any_of, expression_list, optional, expressions_of_dimension, expressions_of_dimensions}
use Rattle.sd_uses.specs.Uses.{argument, statement_uses, bound, extent}
use Rattle.sd_refusal.specs.NotAffine.{any_bound}
use Rattle.sd_program.specs.Bounds.{EachExpression, IfWritten, EachEnd, EachDimension, EachSubscript, EachBound}
use Rattle.sd_read.proofs.readable_lemmas.kept.Passing.{neither}
use Rattle.sd_read.proofs.readable_lemmas.kept.Heads.{IsOfLine}

any-joined : {A : Type 0} (test : A → Bool) (xs ys : List A) → list_any test (xs ++ ys) ≡ false → (list_any test xs ≡ false) × (list_any test ys ≡ false)
any-joined test [] ys none = (refl, none)
any-joined test (x ∷ xs) ys none =
    let halves = neither (test x) (list_any test (xs ++ ys)) none in
    let rest = any-joined test xs ys halves.1 in
    (joined (test x) (list_any test xs) halves.0 rest.0, rest.1) where
      joined : (a b : Bool) → a ≡ false → b ≡ false → a || b ≡ false
      joined a b is other = rw (is, other) refl

module _ (test : Expression → Bool) where
  abbrev pub Fails : Expression → Type 0
  Fails e = test e ≡ false

  listed_fail : (es : Expressions) → list_any test (expression_list es) ≡ false → EachExpression Fails es
  listed_fail no_expression none = tt
  listed_fail (and_expression first rest) none =
      let halves = neither (test first) (list_any test (expression_list rest)) none in (halves.0, listed_fail rest halves.1)

  extents_fail : (es : Expressions) → list_any (any_bound test) (map extent (expression_list es)) ≡ false → EachExpression Fails es
  extents_fail no_expression none = tt
  extents_fail (and_expression first rest) none =
      let halves = neither (test first) (list_any (any_bound test) (map extent (expression_list rest))) none in (halves.0, extents_fail rest halves.1)

  optional_fails : (e : Option Expression) → list_any test (optional e) ≡ false → IfWritten Fails e
  optional_fails None none = tt
  optional_fails (Some e) none = (neither (test e) false none).0

  ends_fail : (d : Dimension) → list_any test (expressions_of_dimension d) ≡ false → EachEnd Fails d
  ends_fail (index at) none = (neither (test at) false none).0
  ends_fail (span begin end step) none =
      let halves = any-joined test (optional begin) (optional end) none in (optional_fails begin halves.0, optional_fails end halves.1)

  pub dimensions_fail : (ds : List Dimension) → list_any test (expressions_of_dimensions ds) ≡ false → EachDimension Fails ds
  dimensions_fail [] none = tt
  dimensions_fail (first ∷ rest) none =
      let halves = any-joined test (expressions_of_dimension first) (expressions_of_dimensions rest) none in (ends_fail first halves.0, dimensions_fail rest halves.1)

  subscripts_fail : (at : Expressions) → list_any test (expressions_of_dimensions (map index (expression_list at))) ≡ false → EachExpression Fails at
  subscripts_fail no_expression none = tt
  subscripts_fail (and_expression first rest) none =
      let halves = neither (test first) (list_any test (expressions_of_dimensions (map index (expression_list rest)))) none in (halves.0, subscripts_fail rest halves.1)

  any_of_fails : (es : Expressions) → any_of test es ≡ false → EachExpression Fails es
  any_of_fails no_expression none = tt
  any_of_fails (and_expression first rest) none = let halves = neither (test first) (any_of test rest) none in (halves.0, any_of_fails rest halves.1)

  pub value_fails : (e : Expression) → any_subscript test e ≡ false → EachSubscript Fails e
  value_fails (number value) none = tt
  value_fails (named name) none = tt
  value_fails (element_at name at) none = any_of_fails at none
  value_fails (one sign of) none = value_fails of none
  value_fails (two sign left right) none =
      let halves = neither (any_subscript test left) (any_subscript test right) none in (value_fails left halves.0, value_fails right halves.1)
  value_fails (choice value when other) none =
      let all = neither (any_subscript test value || any_subscript test when) (any_subscript test other) none in
      let first = neither (any_subscript test value) (any_subscript test when) all.0 in
      (value_fails value first.0, (value_fails when first.1, value_fails other all.1))

  bounds_fail : (es : List Expression) → list_any (any_bound test) (map bound es) ≡ false → list_any test es ≡ false
  bounds_fail [] none = refl
  bounds_fail (first ∷ rest) none =
      let halves = neither (test first) (list_any (any_bound test) (map bound rest)) none in rw (halves.0, bounds_fail rest halves.1) refl

  arguments_fail : (arguments : List (Name × List Dimension)) → list_any (any_bound test) (map argument arguments) ≡ false →
      AllByRecursion (λ passed. EachDimension Fails passed.1) arguments
  arguments_fail [] none = tt
  arguments_fail (first ∷ rest) none =
      let halves = neither (list_any test (expressions_of_dimensions first.1)) (list_any (any_bound test) (map argument rest)) none in
      (dimensions_fail first.1 halves.0, arguments_fail rest halves.1)

  -- the test fails at each affine place of a statement where it fails at each use
  pub statement_fails : (kind : BlockKind) (s : StatementTree) → IsOfLine s → list_any (any_bound test) (statement_uses kind s) ≡ false → EachBound Fails s
  statement_fails kind (argument_array line name bits extents) of none = extents_fail extents none
  statement_fails kind (local_array line name extents bits) of none = extents_fail extents none
  statement_fails kind (local_stream line name bits size) of none = tt
  statement_fails kind (assign line name at add value) of none =
      let halves = neither (list_any test (expressions_of_dimensions (map index (expression_list at)))) (any_subscript test value || false) none in
      (subscripts_fail at halves.0, value_fails value (neither (any_subscript test value) false halves.1).0)
  statement_fails kind (copy line to to_dimensions from from_dimensions) of none =
      let halves = neither (list_any test (expressions_of_dimensions to_dimensions)) (list_any test (expressions_of_dimensions from_dimensions) || false) none in
      (dimensions_fail to_dimensions halves.0, dimensions_fail from_dimensions (neither (list_any test (expressions_of_dimensions from_dimensions)) false halves.1).0)
  statement_fails kind (reduce line lambda from to axis identity) of none = tt
  statement_fails kind (map_scope line parameters ranges body) of none = dimensions_fail ranges (bounds_fail (expressions_of_dimensions ranges) none)
  statement_fails kind (tasklet line body) of none = tt
  statement_fails kind (consume_scope line from size name element worker body) of none = tt
  statement_fails kind (call line name arguments) of none = arguments_fail arguments none
  statement_fails kind (for_loop line name begin end step body) of none =
      let halves = any-joined test (optional begin) (end ∷ []) (bounds_fail (optional begin ++ end ∷ []) none) in
      (optional_fails begin halves.0, (neither (test end) false halves.1).0)
  statement_fails kind (while_loop line when body) of none = value_fails when (neither (any_subscript test when) false none).0
  statement_fails kind (branch line when body other) of none = value_fails when (neither (any_subscript test when) false none).0
  statement_fails kind (input line connector memlet) of none = absurd of
  statement_fails kind (output line connector memlet) of none = absurd of
  statement_fails kind (set line name value) of none = tt
  statement_fails kind (set_at line name at value) of none = tt
  statement_fails kind (tasklet_branch line when body other) of none = tt
