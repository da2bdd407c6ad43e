-- The dimensions of connectors of whole containers.
use Rattle.std.proofs.Common.{◌≡◌, ◌∙◌, inl, inr, ℕ, pos, List, [], ◌∷◌, map, length, Bool, true, false, not, ◌&&◌, ◌||◌, cond, if◌then◌else◌, Option, Some, None, is_some, unwrap_or, bytes_eq, refl, ap, sym, subst}
use Rattle.std.specs.Bool.{⊤}
use Rattle.std.specs.List.{list_any}
use Rattle.std.proofs.lemmas.List.{length-map}
use Rattle.std.proofs.lemmas.Slice.Eq.{bytes_eq-Decides}
use Rattle.sd_range.specs.declared.affine.Affine.{Affine}
use Rattle.sd_lex.specs.PlainTree.{Expression, number, named, element_at, one, two, choice, Expressions, no_expression, and_expression, Dimension}
use Rattle.sd_names.specs.declared.meaning.Meaning.{Meaning}
use Rattle.sd_names.specs.declared.meaning.Container.{Container}
use Rattle.sd_names.specs.declared.meaning.Container.TheVariants.{Array, Stream}
use Rattle.sd_names.specs.Names.{Name, Names, listed, place_of, container_of, is_array, is_stream, is_array_kind, is_stream_kind, extents_by}
use Rattle.sd_names.specs.Expressions.{value_of, affine_list, expression_list, expressions_of_dimensions}
use Rattle.sd_names.specs.Extents.{one_extent, or_one, is_same}
use Rattle.sd_refusal.specs.NotAForm.{is_written, misuses_dimensions}
use Rattle.sd_uses.specs.UnknownName.{has_unknown}
use Rattle.sd_context.specs.context.Declaring.{are_all_one, array_dimensions}
use Rattle.sd_program.specs.Bounds.{EachExpression}
use Rattle.sd_program.specs.Names.{Named, in_force}
use Rattle.sd_program.specs.Affines.{affine_number, affine_name, affine_one, affine_two, affine_of}
use Rattle.sd_program.proofs.OtherNumbers.{EachName, affine_by, affine_of-by}
use Rattle.sd_read.proofs.readable_lemmas.kept.Affine.{both, negated}
use Rattle.sd_read.proofs.readable_lemmas.kept.Passing.{neither, true_is_not_false, false_is_not_true}
use Rattle.sd_made_valid.specs.read_shapes.Fits.{extents_written}
use Rattle.sd_made_valid.proofs.read_shapes_lemmas.Values.{IsListed, turned, names_listed}
use Rattle.sd_made_valid.proofs.read_shapes_lemmas.Stretches.{same_affine}
use Rattle.sd_made_valid.proofs.read_shapes_lemmas.Sound.{IsAccepted}
use Rattle.sd_made_valid.specs.read_dimensions.Counts.{AreOne, IsWhole, dimensions_by, IsNotedBy}

-- so many has a connector of the whole of a container
abbrev pub whole_dimensions : Container → ℕ
whole_dimensions (Array extents) = array_dimensions extents []
whole_dimensions Stream = 0

-- ---- numbers that are the places of names

-- each name by its place
abbrev places : (all entries : List (Name × Meaning)) → Named ℕ
places all entries = map (λ entry. (entry.0, place_of all entry.0)) entries

own_place : (all entries : List (Name × Meaning)) (name : Name) → is_some (listed entries name) ≡ true → in_force (places all entries) name ≡ Some (place_of all name)
own_place all [] name is = false_is_not_true is
own_place all (entry ∷ entries) name is = by_test (bytes_eq name entry.0) refl is (own_place all entries name) where
  by_test : (test : Bool) → bytes_eq name entry.0 ≡ test → is_some (if test then Some entry.1 else listed entries name) ≡ true → (is_some (listed entries name) ≡ true → in_force (places all entries) name ≡ Some (place_of all name)) →
      cond test (Some (place_of all entry.0)) (in_force (places all entries) name) ≡ Some (place_of all name)
  by_test true same is later = ap (λ other. Some (place_of all other)) (sym ((bytes_eq-Decides name entry.0).0 same))
  by_test false other is later = later is

same_numbers : (first second : Name → Option ℕ) (e : Expression) → EachName (λ name. first name ≡ second name) e → affine_by first e ≡ affine_by second e
same_numbers first second (number value) same = refl
same_numbers first second (named name) same = ap affine_name same
same_numbers first second (element_at name at) same = refl
same_numbers first second (one sign of) same = ap (affine_one sign) (same_numbers first second of same)
same_numbers first second (two sign left right) same = λ i. affine_two sign (same_numbers first second left same.0 i) (same_numbers first second right same.1 i)
same_numbers first second (choice value when other) same = refl

each_place : (all : List (Name × Meaning)) (e : Expression) → EachName (IsListed all) e → EachName (λ name. in_force (places all all) name ≡ Some (place_of all name)) e
each_place all (number value) listed' = tt
each_place all (named name) listed' = own_place all all name listed'
each_place all (element_at name at) listed' = tt
each_place all (one sign of) listed' = each_place all of listed'
each_place all (two sign left right) listed' = (each_place all left listed'.0, each_place all right listed'.1)
each_place all (choice value when other) listed' = tt

-- ---- extents that are 1

module _ (names : Names) where
  abbrev value : Expression → Affine
  value e = value_of names.meanings e

  one_extents : (e : Expression) → IsAccepted names e → is_same one_extent (value e) ≡ true → (variables : Named ℕ) → affine_of variables e ≡ affine_number (pos 1)
  one_extents e accepted is variables = sym (accepted.1.1.1 variables) ∙ ap (turned names.meanings variables) (sym (same_affine one_extent (value e) is))

  is_one : (e : Expression) → IsAccepted names e → ((variables : Named ℕ) → affine_of variables e ≡ affine_number (pos 1)) → is_same one_extent (value e) ≡ true
  is_one e accepted one' =
      let all : List (Name × Meaning) = names.meanings in
      let by_places : affine_of (places all all) e ≡ value e =
      affine_of-by (places all all) e
      ∙ same_numbers (in_force (places all all)) (λ name. Some (place_of all name)) e (each_place all e (names_listed names e accepted.0 accepted.1.0))
      ∙ sym accepted.1.1.0 in
      subst (λ a. is_same one_extent a ≡ true) (sym (one' (places all all)) ∙ by_places) refl

  all_one : (extents : Expressions) → EachExpression (IsAccepted names) extents → are_all_one (affine_list names extents) ≡ true → AreOne (expression_list extents)
  all_one no_expression accepted are = tt
  all_one (and_expression first rest) accepted are =
      let halves = both (is_same one_extent (value first)) (are_all_one (affine_list names rest)) are in
      (one_extents first accepted.0 halves.0, all_one rest accepted.1 halves.1)

  one_all : (extents : Expressions) → EachExpression (IsAccepted names) extents → AreOne (expression_list extents) → are_all_one (affine_list names extents) ≡ true
  one_all no_expression accepted are = refl
  one_all (and_expression first rest) accepted are = rw (is_one first accepted.0 are.0) (one_all rest accepted.1 are.1)

  extents_whole : (extents : Expressions) → EachExpression (IsAccepted names) extents → IsWhole (expression_list extents) (array_dimensions (affine_list names extents) [])
  extents_whole extents accepted = by_test (are_all_one (affine_list names extents)) refl where
    by_test : (test : Bool) → are_all_one (affine_list names extents) ≡ test → IsWhole (expression_list extents) (if test then 0 else length (affine_list names extents))
    by_test true is = inl (all_one extents accepted is, refl)
    by_test false is = inr (λ are. true_is_not_false (sym (one_all extents accepted are) ∙ is), length-map (expression_list extents) (value_of names.meanings))

  -- those of an argument, and of an array that a statement declares
  pub argument_whole : (extents : Expressions) → EachExpression (IsAccepted names) extents → IsWhole (extents_written extents) (array_dimensions (or_one (affine_list names extents)) [])
  argument_whole no_expression accepted = inl ((λ variables. refl, tt), refl)
  argument_whole (and_expression first rest) accepted = extents_whole (and_expression first rest) accepted

  pub local_whole : (extents : Expressions) → EachExpression (IsAccepted names) extents → IsWhole (extents_written extents) (array_dimensions (affine_list names extents) [])
  local_whole no_expression accepted = inl ((λ variables. refl, tt), refl)
  local_whole (and_expression first rest) accepted = extents_whole (and_expression first rest) accepted

-- ---- connectors

-- no subset of a stream is written
abbrev IsBare : Container → List Dimension → Type 0
IsBare (Array extents) dimensions = ⊤
IsBare Stream [] = ⊤
IsBare Stream (first ∷ rest) = ⊥

abbrev pub reader_dimensions : Option Container → List Dimension → ℕ
reader_dimensions found dimensions = if is_array_kind found then array_dimensions (extents_by found) dimensions else 0

same_dimensions : (found : Container) (dimensions : List Dimension) (whole : Option ℕ) → whole ≡ Some (whole_dimensions found) → IsBare found dimensions → reader_dimensions (Some found) dimensions ≡ dimensions_by dimensions whole
same_dimensions (Array extents) [] whole is bare = sym (ap (λ whole. unwrap_or whole 0) is)
same_dimensions (Array extents) (first ∷ rest) whole is bare = refl
same_dimensions Stream [] whole is bare = sym (ap (λ whole. unwrap_or whole 0) is)
same_dimensions Stream (first ∷ rest) whole is bare = absurd bare

noted : (wholes : Named ℕ) (name : Name) (count : ℕ) (dimensions : List Dimension) → in_force wholes name ≡ Some count → IsNotedBy wholes dimensions name
noted wholes name count [] is = (count, is)
noted wholes name count (first ∷ rest) is = tt

-- each container in force is known with its dimensions
abbrev pub AreKnown : (wholes : Named ℕ) → List (Name × Container) → Type 0
AreKnown wholes containers = (name : Name) (found : Container) → listed containers name ≡ Some found → in_force wholes name ≡ Some (whole_dimensions found)

-- a connector has the dimensions that are counted of it
abbrev pub IsConnector : (wholes : Named ℕ) → Names → (name : Name) → List Dimension → Type 0
IsConnector wholes names name dimensions = (reader_dimensions (container_of names name) dimensions ≡ dimensions_by dimensions (in_force wholes name)) × IsNotedBy wholes dimensions name

module _ (wholes : Named ℕ) (names : Names) (known : AreKnown wholes names.containers) (name : Name) (dimensions : List Dimension) where
  of_container : (found : Container) → container_of names name ≡ Some found → IsBare found dimensions → IsConnector wholes names name dimensions
  of_container found is bare = (
    ap (λ found. reader_dimensions found dimensions) is ∙ same_dimensions found dimensions (in_force wholes name) (known name found is) bare,
    noted wholes name (whole_dimensions found) dimensions (known name found is),
  )

  pub input_connector : not (is_array names name) || list_any (has_unknown names) (expressions_of_dimensions dimensions) ≡ false → IsConnector wholes names name dimensions
  input_connector known' = by_found (container_of names name) refl (negated (is_array names name) (neither (not (is_array names name)) (list_any (has_unknown names) (expressions_of_dimensions dimensions)) known').0) where
    by_found : (found : Option Container) → container_of names name ≡ found → is_array_kind found ≡ true → IsConnector wholes names name dimensions
    by_found None is array = false_is_not_true array
    by_found (Some Stream) is array = false_is_not_true array
    by_found (Some (Array extents)) is array = of_container (Array extents) is tt

  pub output_connector : not (is_array names name || is_stream names name) || list_any (has_unknown names) (expressions_of_dimensions dimensions) ≡ false → is_stream names name && is_written dimensions || misuses_dimensions names name dimensions ≡ false →
      IsConnector wholes names name dimensions
  output_connector known' right =
      by_found (container_of names name) refl
      (negated (is_array names name || is_stream names name) (neither (not (is_array names name || is_stream names name)) (list_any (has_unknown names) (expressions_of_dimensions dimensions)) known').0)
      (neither (is_stream names name && is_written dimensions) (misuses_dimensions names name dimensions) right).0
    where
      bare : (dimensions : List Dimension) → is_written dimensions ≡ false → IsBare Stream dimensions
      bare [] none = tt
      bare (first ∷ rest) none = true_is_not_false none

      by_found : (found : Option Container) → container_of names name ≡ found → is_array_kind found || is_stream_kind found ≡ true → is_stream_kind found && is_written dimensions ≡ false → IsConnector wholes names name dimensions
      by_found None is held none = false_is_not_true held
      by_found (Some Stream) is held none = of_container Stream is (bare dimensions none)
      by_found (Some (Array extents)) is held none = of_container (Array extents) is tt
