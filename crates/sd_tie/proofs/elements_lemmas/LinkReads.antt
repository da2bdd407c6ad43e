-- What the connectors of an expression's elements read is what the expression reads.
use Rattle.std.proofs.Common.{◌≡◌, ◌∙◌, ℕ, ◌+◌, ℤ, List, [], ◌∷◌, ◌++◌, length, map, Option, Some, None, option_map, unwrap_or, refl, ap, sym, arith, length-append, append_assoc, append-nil}
use Rattle.std.specs.List.{flat_map}
use Rattle.std.specs.Bool.{⊤}
use Rattle.std.proofs.lemmas.Grind.{flat_map-append}
use Rattle.sd_lex.specs.PlainTree.{Expression, number, named, element_at, one, two, choice, Expressions}
use Rattle.sd_num.specs.declared.resolution.Resolution.{Resolution}
use Rattle.sd_range.specs.Affine.{affine_value}
use Rattle.sd_range.specs.Points.{tuples}
use Rattle.sd_range.specs.Subset.{dim_values}
use Rattle.sd_range.specs.declared.affine.Affine.{Affine}
use Rattle.sd_range.specs.declared.subset.Dim.TheVariants.{Index}
use Rattle.sd_graph.specs.Context.{Context, Reach, reference_at, link_elements, link_extents, span_counts}
use Rattle.sd_graph.specs.Context as graph
use Rattle.sd_graph.specs.declared.link.Link.{Link}
use Rattle.sd_program.specs.Names.{Name, Named, in_force}
use Rattle.sd_program.specs.Affines.{affines_of}
use Rattle.sd_program.specs.IsAffine.{IsAffine}
use Rattle.sd_program.specs.Bounds.{EachExpression, EachSubscript}
use Rattle.sd_program.specs.Place.{Holder}
use Rattle.sd_program.specs.Known.{KnowsElements}
use Rattle.sd_task.specs.task.Table.{Table, container_number}
use Rattle.sd_task.specs.task.Links.{element_link}
use Rattle.sd_task.specs.task.ElementCode.{input_name, elements_in, links_with}
use Rattle.sd_says.specs.Exact.{exact_all}
use Rattle.sd_says.specs.Held.{nothing_held, element_in}
use Rattle.sd_says.specs.Setting.{Setting, held_by}
use Rattle.sd_says.specs.Elements.{element_named, reads_of}
use Rattle.sd_says.specs.AsLeaves.{reads_in}
use Rattle.sd_tie.specs.elements.Tied.{held_at, Tied, AreNumbered}
use Rattle.sd_tie.proofs.elements_lemmas.Lookups.{in_force_made}
use Rattle.sd_tie.proofs.elements_lemmas.Affines.{affines_exact}

one_tuple : (values : List ℤ) (at : List Affine) → tuples (map (dim_values values) (map Index at)) ≡ map (affine_value values) at ∷ []
one_tuple values [] = refl
one_tuple values (first ∷ rest) = ap (λ others. flat_map (λ number. map (λ more. number ∷ more) others) (affine_value values first ∷ [])) (one_tuple values rest)

pub one_place : (values : List ℤ) (at : List Affine) → graph.index_at (map Index at) values [] ≡ map (affine_value values) at
one_place values [] = refl
one_place values (first ∷ rest) = ap (λ more. affine_value values first ∷ more) (one_place values rest)

pub no_extents : (values : List ℤ) (at : List Affine) → span_counts (map Index at) values ≡ []
no_extents values [] = refl
no_extents values (first ∷ rest) = no_extents values rest

-- elements are counted alike
pub count_same : (expression : Expression) → elements_in expression ≡ reads_in expression
count_same (number value) = refl
count_same (named name) = refl
count_same (element_at name at) = refl
count_same (one sign of) = count_same of
count_same (two sign left right) = omega (arith, count_same left, count_same right)
count_same (choice value when other) = omega (arith, count_same value, count_same when, count_same other)

pub links_count : (table : Table) (links : List Link) (expression : Expression) → length (links_with table links expression) ≡ length links + reads_in expression
links_count table links (number value) = omega arith
links_count table links (named name) = omega arith
links_count table links (element_at name at) = length-append links (element_link table (input_name (length links)) name at None ∷ [])
links_count table links (one sign of) = links_count table links of
links_count table links (two sign left right) = omega (arith, links_count table links left, links_count table (links_with table links left) right)
links_count table links (choice value when other) =
    omega (arith, links_count table links value, links_count table (links_with table links value) when, links_count table (links_with table (links_with table links value) when) other)

module _ (known : Named Holder) (table : Table) (setting : Setting) (context : Context) (tied : Tied table setting context) (are : AreNumbered known table.containers) where
  -- what a name that is known stands for
  pub held_found : (name : Name) (holder : Holder) → in_force known name ≡ Some holder → held_by setting name ≡ held_at table context (container_number table name)
  held_found name holder e =
      let found : (number : ℕ) × (in_force table.containers name ≡ Some number) = are name holder e in
      ap (λ names. unwrap_or (in_force names name) nothing_held) tied.containers
      ∙ ap (λ held. unwrap_or held nothing_held) (in_force_made (held_at table context) table.containers name)
      ∙ ap (λ number. unwrap_or (option_map (held_at table context) number) nothing_held) found.1
      ∙ ap (λ number. held_at table context (unwrap_or number 0)) (sym found.1)

  pub subscripts : (at : Expressions) → EachExpression IsAffine at → map (affine_value context.values) (affines_of table.variables at) ≡ exact_all setting.variables at
  subscripts at h = affines_exact context.values table.variables at h ∙ ap (λ names. exact_all names at) (sym tied.variables)

  link_reads : (connector : Name) (name : Name) (holder : Holder) (at : Expressions) (by : Option Resolution) → in_force known name ≡ Some holder → EachExpression IsAffine at →
      link_elements context (element_link table connector name at by) ≡ element_named setting name at ∷ []
  link_reads connector name holder at by e h =
      ap (map (reference_at (context.reach (container_number table name)))) (one_tuple context.values (affines_of table.variables at))
      ∙ (λ i. element_in (sym (held_found name holder e) i) (subscripts at h i) ∷ [])

  -- its elements in order, after those of these links
  pub reads_tied : (links : List Link) (expression : Expression) → KnowsElements known expression → EachSubscript IsAffine expression →
      flat_map (link_elements context) (links_with table links expression) ≡ flat_map (link_elements context) links ++ reads_of setting expression
  reads_tied links (number value) k h = sym (append-nil (flat_map (link_elements context) links))
  reads_tied links (named name) k h = sym (append-nil (flat_map (link_elements context) links))
  reads_tied links (element_at name at) k h =
      flat_map-append (link_elements context) links (element_link table (input_name (length links)) name at None ∷ [])
      ∙ ap (λ rest. flat_map (link_elements context) links ++ (rest ++ [])) (link_reads (input_name (length links)) name _ at None k h)
  reads_tied links (one sign of) k h = reads_tied links of k h
  reads_tied links (two sign left right) k h =
      reads_tied (links_with table links left) right k.1 h.1
      ∙ ap (λ first. first ++ reads_of setting right) (reads_tied links left k.0 h.0)
      ∙ append_assoc (flat_map (link_elements context) links) (reads_of setting left) (reads_of setting right)
  reads_tied links (choice value when other) k h =
      reads_tied (links_with table (links_with table links value) when) other k.1.1 h.1.1
      ∙ ap (λ first. first ++ reads_of setting other) (reads_tied (links_with table links value) when k.1.0 h.1.0 ∙ ap (λ first. first ++ reads_of setting when) (reads_tied links value k.0 h.0))
      ∙ append_assoc (flat_map (link_elements context) links ++ reads_of setting value) (reads_of setting when) (reads_of setting other)
      ∙ append_assoc (flat_map (link_elements context) links) (reads_of setting value) (reads_of setting when ++ reads_of setting other)

  -- links of one element each, without extents
  abbrev pub AreSingle : List Link → Type 0
  AreSingle [] = ⊤
  AreSingle (link ∷ links) = (link_extents context link ≡ []) × AreSingle links

  single_append : (links more : List Link) → AreSingle links → AreSingle more → AreSingle (links ++ more)
  single_append [] more h g = g
  single_append (link ∷ links) more h g = (h.0, single_append links more h.1 g)

  pub singles : (links : List Link) (expression : Expression) → AreSingle links → AreSingle (links_with table links expression)
  singles links (number value) h = h
  singles links (named name) h = h
  singles links (element_at name at) h =
      single_append links (element_link table (input_name (length links)) name at None ∷ []) h (no_extents context.values (affines_of table.variables at), tt)
  singles links (one sign of) h = singles links of h
  singles links (two sign left right) h = singles (links_with table links left) right (singles links left h)
  singles links (choice value when other) h = singles (links_with table (links_with table links value) when) other (singles (links_with table links value) when (singles links value h))
