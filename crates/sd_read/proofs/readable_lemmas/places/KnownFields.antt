-- Containers in force where they are named.
use Rattle.std.proofs.Common.{◌≡◌, ◌≤◌, inl, inr, ℕ, suc, nat_eq, List, [], ◌∷◌, length, map, Bool, true, false, not, ◌||◌, ◌&&◌, Option, Some, None, refl, sym, ap, ◌∙◌, subst, arith}
use Rattle.std.specs.List.{AllByRecursion, list_any}
use Rattle.std.proofs.lemmas.Bool.{eqb-true, ne_eqb}
use Rattle.sd_lex.specs.PlainTree.{Expression, number, named, element_at, one, two, choice, Expressions, no_expression, and_expression, Dimension, index, StatementTree, argument_array, local_array, local_stream, assign, copy, reduce, map_scope, tasklet, consume_scope, call, for_loop, while_loop, branch, input, output, set, set_at, tasklet_branch, no_statement}
use Rattle.sd_line.specs.declared.line.head.BlockKind.{BlockKind}
use Rattle.sd_line.specs.declared.line.head.BlockKind.TheVariants.{Top, Program, Scope, Tasklet}
use Rattle.sd_line.specs.line.Head.{HeadTree, statement_head, reduce_head, input_head, output_head, consume_decorator, elif_head}
use Rattle.sd_names.specs.declared.meaning.Container.{Container}
use Rattle.sd_names.specs.declared.meaning.Container.TheVariants.{Array, Stream}
use Rattle.sd_range.specs.declared.affine.Affine.{Affine}
use Rattle.sd_names.specs.Names.{Name, Names, container_of, is_array, is_stream, is_array_kind, is_stream_kind, extents_of, extents_by, meaning_of, is_number_kind}
use Rattle.sd_names.specs.Expressions.{any_name_of, count_of, expression_list, expressions_of_dimensions}
use Rattle.sd_uses.specs.Uses.{Use, uses, statement_uses, argument}
use Rattle.sd_uses.specs.Uses as use'
use Rattle.sd_refusal.specs.NotAForm.{is_container, is_misread, misuses_name, has_other_count, misuses_dimensions, is_written, misuses, is_misplaced}
use Rattle.sd_uses.specs.UnknownName.{has_unknown, is_unknown_use, assigns_unknown}
use Rattle.sd_refusal.specs.declared.site.Site.{Site}
use Rattle.sd_context.specs.blocks.Closing.{branch_with}
use Rattle.sd_program.specs.Names.{Named}
use Rattle.sd_program.specs.Place.{Holder, of_dimensions, Place, length_of}
use Rattle.sd_program.specs.Known.{IsArrayOf, IsArray, IsStream, IsPart, IsTarget, KnowsElements, KnowsContainers, IsKnown}
use Rattle.sd_read.proofs.readable_lemmas.kept.Passing.{Passes, neither, true_is_not_false, false_is_not_true}
use Rattle.sd_read.proofs.readable_lemmas.kept.Heads.{IsOfLine}
use Rattle.sd_read.proofs.readable_lemmas.kept.Trees.{bare}
use Rattle.sd_read.proofs.readable_lemmas.kept.Affine.{negated}
use Rattle.sd_read.proofs.readable_lemmas.kept.InForce.{Agrees}
use Rattle.sd_read.proofs.readable_lemmas.places.Placed.{HoldsInPlaces}

second_false : (a b : Bool) → a && b ≡ false → a ≡ true → b ≡ false
second_false true b none is = none
second_false false b none is = false_is_not_true is

by_array : {P : Type 0} (found : Option Container) → is_array_kind found ≡ true → ((extents : List Affine) → found ≡ Some (Array extents) → P) → P
by_array None is go = false_is_not_true is
by_array (Some (Array extents)) is go = go extents refl
by_array (Some Stream) is go = false_is_not_true is

by_stream : {P : Type 0} (found : Option Container) → is_stream_kind found ≡ true → (found ≡ Some Stream → P) → P
by_stream None is go = false_is_not_true is
by_stream (Some (Array extents)) is go = false_is_not_true is
by_stream (Some Stream) is go = go refl

same_count : (es : Expressions) → count_of es ≡ length_of es
same_count no_expression = refl
same_count (and_expression first rest) = rw (same_count rest) refl

listed_count : (es : Expressions) → length (map index (expression_list es)) ≡ length_of es
listed_count no_expression = refl
listed_count (and_expression first rest) = ap suc (listed_count rest) ∙ omega arith

module _ (names : Names) (containers : Named Holder) (agrees : Agrees names.containers containers) where
  whole : (name : Name) → is_array names name ≡ true → IsArray containers name
  whole name is = by_array (container_of names name) is (λ extents found. (length extents, agrees name (Array extents) found))

  counted : (name : Name) (count : ℕ) → is_array names name ≡ true → not (nat_eq (length (extents_of names name)) count) ≡ false → IsArrayOf containers name count
  counted name count is same =
      by_array (container_of names name) is
      (λ extents found.
      let lengths : length extents ≡ count = sym (ap (λ c. length (extents_by c)) found) ∙ eqb-true (length (extents_of names name)) count (negated (nat_eq (length (extents_of names name)) count) same) in
      agrees name (Array extents) found ∙ ap (λ n. Some (of_dimensions n)) lengths)

  part_known : (name : Name) (dimensions : List Dimension) → is_array names name ≡ true → has_other_count names name (length dimensions) ≡ false → IsPart containers name dimensions
  part_known name [] is same = whole name is
  part_known name (first ∷ rest) is same =
      let written : not (nat_eq (length (first ∷ rest)) 0) ≡ true = ap not (ne_eqb (length (first ∷ rest)) 0 (λ none. omega arith)) in
      counted name (length (first ∷ rest)) is
      (second_false (is_array names name) (not (nat_eq (length (extents_of names name)) (length (first ∷ rest))))
      (second_false (not (nat_eq (length (first ∷ rest)) 0)) (is_array names name && not (nat_eq (length (extents_of names name)) (length (first ∷ rest)))) same written) is)

  -- what is told of a use
  part_use : (name : Name) (dimensions : List Dimension) → is_unknown_use names (use'.part name dimensions) ≡ false → misuses names (use'.part name dimensions) ≡ false → IsPart containers name dimensions
  part_use name dimensions known right =
      part_known name dimensions (negated (is_array names name) (neither (not (is_array names name)) (list_any (has_unknown names) (expressions_of_dimensions dimensions)) known).0)
      (neither (has_other_count names name (length dimensions)) (list_any (misuses_name names) (expressions_of_dimensions dimensions)) (neither (is_stream names name) (misuses_dimensions names name dimensions) right).1).0

  target_use : (name : Name) (dimensions : List Dimension) → is_unknown_use names (use'.target name dimensions) ≡ false → misuses names (use'.target name dimensions) ≡ false → IsTarget containers name dimensions
  target_use name dimensions known right =
      let in_force' = negated (is_array names name || is_stream names name) (neither (not (is_array names name || is_stream names name)) (list_any (has_unknown names) (expressions_of_dimensions dimensions)) known).0 in
      let halves = neither (is_stream names name && is_written dimensions) (misuses_dimensions names name dimensions) right in
      let count = (neither (has_other_count names name (length dimensions)) (list_any (misuses_name names) (expressions_of_dimensions dimensions)) halves.1).0 in
      by_kind (is_array names name) refl dimensions in_force' halves.0 count where
        by_kind : (test : Bool) → is_array names name ≡ test → (dimensions : List Dimension) → test || is_stream names name ≡ true → is_stream names name && is_written dimensions ≡ false → has_other_count names name (length dimensions) ≡ false → IsTarget containers name dimensions
        by_kind true is [] known right count = inl (whole name is)
        by_kind true is (first ∷ rest) known right count = part_known name (first ∷ rest) is count
        by_kind false is [] known right count = inr (by_stream (container_of names name) known (λ found. agrees name Stream found))
        by_kind false is (first ∷ rest) known right count = true_is_not_false (sym (ap (λ test. test && true) known) ∙ right)

  stream_use : (name : Name) → is_unknown_use names (use'.consumed name) ≡ false → IsStream containers name
  stream_use name known = by_stream (container_of names name) (negated (is_stream names name) known) (λ found. agrees name Stream found)

  -- the elements of an expression outside of tasklets
  elements_known : (e : Expression) → has_unknown names e ≡ false → misuses_name names e ≡ false → KnowsElements containers e
  elements_known (number n) known right = tt
  elements_known (named name) known right = tt
  elements_known (element_at name at) known right =
      let is = negated (is_array names name) (neither (not (is_array names name)) (any_name_of (λ name. not (is_number_kind (meaning_of names name))) (λ name count. not (is_array names name)) at) known).0 in
      let read = (neither (is_misread names name (count_of at)) (any_name_of (is_container names) (is_misread names) at) right).0 in
      let count = second_false (is_array names name) (not (nat_eq (length (extents_of names name)) (count_of at))) (neither (is_stream names name) (is_array names name && not (nat_eq (length (extents_of names name)) (count_of at))) read).1 is in
      subst (IsArrayOf containers name) (same_count at) (counted name (count_of at) is count)
  elements_known (one sign of) known right = elements_known of known right
  elements_known (two sign left right') known right =
      let a = neither (has_unknown names left) (has_unknown names right') known in
      let b = neither (misuses_name names left) (misuses_name names right') right in
      (elements_known left a.0 b.0, elements_known right' a.1 b.1)
  elements_known (choice yes' when no') known right =
      let a = neither (has_unknown names yes' || has_unknown names when) (has_unknown names no') known in
      let a' = neither (has_unknown names yes') (has_unknown names when) a.0 in
      let b = neither (misuses_name names yes' || misuses_name names when) (misuses_name names no') right in
      let b' = neither (misuses_name names yes') (misuses_name names when) b.0 in
      (elements_known yes' a'.0 b'.0, (elements_known when a'.1 b'.1, elements_known no' a.1 b.1))

  arguments_known : (arguments : List (Name × List Dimension)) → list_any (is_unknown_use names) (map argument arguments) ≡ false → list_any (misuses names) (map argument arguments) ≡ false →
      AllByRecursion (λ passed. IsPart containers passed.0 passed.1) arguments
  arguments_known [] known right = tt
  arguments_known (first ∷ rest) known right =
      let a = neither (is_unknown_use names (argument first)) (list_any (is_unknown_use names) (map argument rest)) known in
      let b = neither (misuses names (argument first)) (list_any (misuses names) (map argument rest)) right in
      (part_use first.0 first.1 a.0 b.0, arguments_known rest a.1 b.1)

  element_known : (name : Name) (at : Expressions) → 1 ≤ length_of at → IsPart containers name (map index (expression_list at)) → IsArrayOf containers name (length_of at)
  element_known name no_expression some part = absurd (omega (arith, some))
  element_known name (and_expression first rest) some part = subst (IsArrayOf containers name) (listed_count (and_expression first rest)) part

  statement_known : (kind : BlockKind) (s : StatementTree) → IsOfLine s → list_any (is_unknown_use names) (statement_uses kind s) ≡ false → list_any (misuses names) (statement_uses kind s) ≡ false → KnowsContainers containers s
  statement_known kind (argument_array line name bits extents) of known right = tt
  statement_known kind (local_array line name extents bits) of known right = tt
  statement_known kind (local_stream line name bits size) of known right = tt
  statement_known kind (assign line name at add e) of known right =
      let a = neither (is_unknown_use names (use'.part name (map index (expression_list at)))) (list_any (is_unknown_use names) (use'.value e ∷ [])) known in
      let b = neither (misuses names (use'.part name (map index (expression_list at)))) (list_any (misuses names) (use'.value e ∷ [])) right in
      (element_known name at of (part_use name (map index (expression_list at)) a.0 b.0), elements_known e (neither (has_unknown names e) false a.1).0 (neither (misuses_name names e) false b.1).0)
  statement_known kind (copy line to to_dimensions from from_dimensions) of known right =
      let a = neither (is_unknown_use names (use'.part to to_dimensions)) (list_any (is_unknown_use names) (use'.part from from_dimensions ∷ [])) known in
      let b = neither (misuses names (use'.part to to_dimensions)) (list_any (misuses names) (use'.part from from_dimensions ∷ [])) right in
      (part_use to to_dimensions a.0 b.0, part_use from from_dimensions (neither (is_unknown_use names (use'.part from from_dimensions)) false a.1).0 (neither (misuses names (use'.part from from_dimensions)) false b.1).0)
  statement_known kind (reduce line lambda from to axis identity) of known right = absurd of
  statement_known kind (map_scope line parameters ranges body) of known right = tt
  statement_known kind (tasklet line body) of known right = tt
  statement_known kind (consume_scope line from size name element worker body) of known right = absurd of
  statement_known kind (call line name arguments) of known right =
      arguments_known arguments (neither (is_unknown_use names (use'.called name)) (list_any (is_unknown_use names) (map argument arguments)) known).1 (neither (misuses names (use'.called name)) (list_any (misuses names) (map argument arguments)) right).1
  statement_known kind (for_loop line name begin end step body) of known right = tt
  statement_known kind (while_loop line when body) of known right = elements_known when (neither (has_unknown names when) false known).0 (neither (misuses_name names when) false right).0
  statement_known kind (branch line when body other) of known right = elements_known when (neither (has_unknown names when) false known).0 (neither (misuses_name names when) false right).0
  statement_known kind (input line connector memlet) of known right = absurd of
  statement_known kind (output line connector memlet) of known right = absurd of
  statement_known kind (set line name e) of known right = tt
  statement_known kind (set_at line name at e) of known right = tt
  statement_known kind (tasklet_branch line when body other) of known right = tt

  other_known : (kind : BlockKind) (line : ℕ) (when : Expression) → list_any (is_unknown_use names) (uses kind (elif_head when)) ≡ false → list_any (misuses names) (uses kind (elif_head when)) ≡ false →
      KnowsContainers containers (branch_with kind (record { line = line; when = when; statements = [] }) no_statement)
  other_known Top line when known right = elements_known when (neither (has_unknown names when) false known).0 (neither (misuses_name names when) false right).0
  other_known Program line when known right = elements_known when (neither (has_unknown names when) false known).0 (neither (misuses_name names when) false right).0
  other_known Scope line when known right = elements_known when (neither (has_unknown names when) false known).0 (neither (misuses_name names when) false right).0
  other_known Tasklet line when known right = tt

unknown_uses : (names : Names) (site : Site) (head : HeadTree) → Passes names site head → list_any (is_unknown_use names) (uses site.kind head) ≡ false
unknown_uses names site head passed = (neither (assigns_unknown names head) (list_any (is_unknown_use names) (uses site.kind head)) passed.known).1

right_uses : (names : Names) (site : Site) (head : HeadTree) → Passes names site head → list_any (misuses names) (uses site.kind head) ≡ false
right_uses names site head passed = (neither (is_misplaced names site head) (list_any (misuses names) (uses site.kind head)) passed.form).1

strip_known : (place : Place) (s : StatementTree) → IsKnown place s → IsKnown place (bare s)
strip_known place (argument_array line name bits extents) holds = holds
strip_known place (local_array line name extents bits) holds = holds
strip_known place (local_stream line name bits size) holds = holds
strip_known place (assign line name at add e) holds = holds
strip_known place (copy line to to_dimensions from from_dimensions) holds = holds
strip_known place (reduce line lambda from to axis identity) holds = holds
strip_known place (map_scope line parameters ranges body) holds = holds
strip_known place (tasklet line body) holds = holds
strip_known place (consume_scope line from size name element worker body) holds = holds
strip_known place (call line name arguments) holds = holds
strip_known place (for_loop line name begin end step body) holds = holds
strip_known place (while_loop line when body) holds = holds
strip_known place (branch line when body other) holds = holds
strip_known place (input line connector memlet) holds = holds
strip_known place (output line connector memlet) holds = holds
strip_known place (set line name e) holds = holds
strip_known place (set_at line name at e) holds = holds
strip_known place (tasklet_branch line when body other) holds = holds

fill_known : (place : Place) (s : StatementTree) → IsKnown place (bare s) → IsKnown place s
fill_known place (argument_array line name bits extents) holds = holds
fill_known place (local_array line name extents bits) holds = holds
fill_known place (local_stream line name bits size) holds = holds
fill_known place (assign line name at add e) holds = holds
fill_known place (copy line to to_dimensions from from_dimensions) holds = holds
fill_known place (reduce line lambda from to axis identity) holds = holds
fill_known place (map_scope line parameters ranges body) holds = holds
fill_known place (tasklet line body) holds = holds
fill_known place (consume_scope line from size name element worker body) holds = holds
fill_known place (call line name arguments) holds = holds
fill_known place (for_loop line name begin end step body) holds = holds
fill_known place (while_loop line when body) holds = holds
fill_known place (branch line when body other) holds = holds
fill_known place (input line connector memlet) holds = holds
fill_known place (output line connector memlet) holds = holds
fill_known place (set line name e) holds = holds
fill_known place (set_at line name at e) holds = holds
fill_known place (tasklet_branch line when body other) holds = holds

pub known_hold : HoldsInPlaces IsKnown
known_hold = record {
  strip = strip_known;
  fill = fill_known;
  moved = λ place line other when holds. holds;
  moved_inside = λ place line other when holds. holds;
  said = λ names site place s at of fit passed.
      statement_known names place.containers at.containers site.kind s of (unknown_uses names site (statement_head s) passed) (right_uses names site (statement_head s) passed);
  argument = λ names site place line name bits extents few around depth passed. tt;
  reduced = λ names site place line lambda from to axis identity at fit passed.
      let head = reduce_head lambda from to axis identity in
      let a = neither (is_unknown_use names (use'.part from [])) (list_any (is_unknown_use names) (use'.part to [] ∷ [])) (unknown_uses names site head passed) in
      let b = neither (misuses names (use'.part from [])) (list_any (misuses names) (use'.part to [] ∷ [])) (right_uses names site head passed) in (
        part_use names place.containers at.containers from [] a.0 b.0,
        part_use names place.containers at.containers to [] (neither (is_unknown_use names (use'.part to [])) false a.1).0 (neither (misuses names (use'.part to [])) false b.1).0,
      );
  decorated = λ names site place from size at fit passed line name element worker.
      stream_use names place.containers at.containers from (neither (is_unknown_use names (use'.consumed from)) false (unknown_uses names site (consume_decorator from size) passed)).0;
  put_in = λ names site place line connector memlet at fit passed.
      part_use names place.containers at.containers memlet.name memlet.dimensions (neither (is_unknown_use names (use'.part memlet.name memlet.dimensions)) false (unknown_uses names site (input_head connector memlet) passed)).0
      (neither (misuses names (use'.part memlet.name memlet.dimensions)) false (right_uses names site (input_head connector memlet) passed)).0;
  put_out = λ names site place line connector memlet at fit passed.
      target_use names place.containers at.containers memlet.name memlet.dimensions (neither (is_unknown_use names (use'.target memlet.name memlet.dimensions)) false (unknown_uses names site (output_head connector memlet) passed)).0
      (neither (misuses names (use'.target memlet.name memlet.dimensions)) false (right_uses names site (output_head connector memlet) passed)).0;
  other = λ names site place line when may at fit passed.
      other_known names place.containers at.containers site.kind line when (unknown_uses names site (elif_head when) passed) (right_uses names site (elif_head when) passed);
}
