-- What a graph and an arrays file come to, taken apart.
use Rattle.std.proofs.Common.{◌≡◌, ◌∙◌, ℕ, ℤ, List, map, Option, Some, None, Result, Ok, Err, refl, ap, sym, subst}
use Rattle.std.specs.Prelude.{⊤}
use Rattle.std.specs.Option.{option_map_or}
use Rattle.serde_json.specs.Data.{Members}
use Rattle.sd_work.specs.Memory.{Memory}
use Rattle.sd_graph.specs.PlainTree.{GraphTree}
use Rattle.sd_graph.specs.TreeParts.{containers_of}
use Rattle.sd_graph.specs.Unfold.{opening_memory}
use Rattle.sd_mem.specs.mem.GraphContents.{opened_with}
use Rattle.sd_valid.specs.Binding.{unless_refused, within_limits, with_sizes, binding}
use Rattle.sd_valid.specs.Limits.{all_containers, tally}
use Rattle.sd_valid.specs.SizeValues.{NamedSizes, symbols_of, first_name, has_no_size, has_bad_size}
use Rattle.sd_valid.specs.declared.error.BindError.{BindError}
use Rattle.sd_valid.specs.declared.error.BindError.TheVariants.{MissingSize, BadSize}
use Rattle.sd_json.specs.ArraysReading.{entries_of, refusal_of, contents_in, entries_reading, arrays_reading}
use Rattle.sd_json.specs.Given.{Contents}
use Rattle.sd_json.specs.GivenMemory.{wrong_shape}
use Rattle.sd_json.specs.Names.{names_in}
use Rattle.sd_json.specs.declared.array.Array.{Array}
use Rattle.sd_json.specs.declared.error.InputError.{InputError}
use Rattle.sd_json.specs.declared.error.InputError.TheVariants.{WrongShape}
use Rattle.sd_json.specs.declared.names.Names.{Names}
use Rattle.sd_tool.specs.Work as come
use Rattle.sd_tool.specs.Work.{Work, prepared, work_of}

abbrev IsRefused : {A E : Type 0} → Result A E → Type 0
IsRefused (Ok value) = ⊥
IsRefused (Err refusal) = ⊤

-- what is refused comes to nothing
refused_is_none : {A E P : Type 0} (refusal : E) (value : A) → Err refusal ≡ Ok value → P
refused_is_none refusal value is = absurd (subst IsRefused is tt)

abbrev value_in : {A E : Type 0} → A → Result A E → A
value_in other (Ok value) = value
value_in other (Err refusal) = other

same_value : {A E : Type 0} (step : Result A E) (b : A) → step ≡ Ok b → value_in b step ≡ b
same_value step b is = ap (value_in b) is

-- ---- sizes

not_refused : (error : List ℕ → BindError) (refused : Option (List ℕ)) (next : Result GraphTree BindError) (bound : GraphTree) → unless_refused error refused next ≡ Ok bound → next ≡ Ok bound
not_refused error None next bound is = is
not_refused error (Some name) next bound is = refused_is_none (error name) bound is

limited : (counted : Result ℕ (List ℕ)) (tree bound : GraphTree) → within_limits counted tree ≡ Ok bound → tree ≡ bound
limited (Ok total) tree bound is = same_value (within_limits (Ok total) tree) bound is
limited (Err name) tree bound is = refused_is_none _ bound is

-- what binding gives is the graph with its sizes
pub bound_is : (tree bound : GraphTree) (sizes : NamedSizes) → binding tree sizes ≡ Ok bound → with_sizes tree sizes ≡ bound
bound_is tree bound sizes is =
    let counted = tally 0 (all_containers (with_sizes tree sizes)) in
    let bad = first_name (has_bad_size sizes) (symbols_of tree) in
    limited counted (with_sizes tree sizes) bound
    (not_refused BadSize bad (within_limits counted (with_sizes tree sizes)) bound
    (not_refused MissingSize (first_name (has_no_size sizes) (symbols_of tree)) (unless_refused BadSize bad (within_limits counted (with_sizes tree sizes))) bound is))

-- ---- an arrays file

abbrev pub elements_in : List Array → List (List ℤ)
elements_in arrays = map (λ array. array.elements) arrays

pub record Opened (tree : GraphTree) (arrays : List ℕ) (work : Work) : Type 0 where
  pub contents : Contents
  pub given : arrays_reading (names_in tree) arrays ≡ Ok contents
  pub bound : binding tree contents.sizes ≡ Ok work.tree
  pub memory : opening_memory work.tree (elements_in contents.arrays) ≡ work.memory

pub opens : (tree : GraphTree) (arrays : List ℕ) (work : Work) → prepared tree arrays ≡ Ok work → Opened tree arrays work
opens tree arrays work is = by_file (arrays_reading (names_in tree) arrays) refl is where
  by_shapes : (contents : Contents) (bound : GraphTree) (wrong : Option (List ℕ)) → arrays_reading (names_in tree) arrays ≡ Ok contents → binding tree contents.sizes ≡ Ok bound →
      come.opened bound (option_map_or (λ name. Err (WrongShape name)) wrong (Ok (opened_with bound (elements_in contents.arrays)))) ≡ Ok work → Opened tree arrays work
  by_shapes contents bound None given sized is =
      let same : record { tree = bound; memory = opening_memory bound (elements_in contents.arrays) } ≡ work =
      same_value (come.opened bound (Ok (opened_with bound (elements_in contents.arrays)))) work is in
      record {
        contents = contents;
        given = given;
        bound = subst (λ (w : Work). binding tree contents.sizes ≡ Ok w.tree) same sized;
        memory = subst (λ (w : Work). opening_memory w.tree (elements_in contents.arrays) ≡ w.memory) same refl;
      }
  by_shapes contents bound (Some name) given sized is = refused_is_none _ work is

  by_sizes : (contents : Contents) (sized : Result GraphTree BindError) → arrays_reading (names_in tree) arrays ≡ Ok contents → binding tree contents.sizes ≡ sized → come.bound sized contents.arrays ≡ Ok work → Opened tree arrays work
  by_sizes contents (Ok bound) given sized is = by_shapes contents bound (wrong_shape (containers_of bound) contents.arrays) given sized is
  by_sizes contents (Err error) given sized is = refused_is_none _ work is

  by_file : (file : Result Contents InputError) → arrays_reading (names_in tree) arrays ≡ file → come.given tree file ≡ Ok work → Opened tree arrays work
  by_file (Ok contents) given is = by_sizes contents (binding tree contents.sizes) given refl is
  by_file (Err error) given is = refused_is_none _ work is

abbrev work_at : GraphTree → Memory → Work
work_at tree memory = record { tree = tree; memory = memory }

abbrev work_with : GraphTree → Contents → Work
work_with tree contents = work_at (with_sizes tree contents.sizes) (opening_memory (with_sizes tree contents.sizes) (elements_in contents.arrays))

abbrev entries_ok : Contents → Result Contents InputError
entries_ok contents = Ok contents

-- ---- entries

-- what a file's entries give, where no case refuses them
entries_give : (names : Names) (entries : Members) (contents : Contents) → entries_reading names (Some entries) ≡ Ok contents → contents_in names entries ≡ contents
entries_give names entries contents is = by_refusal (refusal_of names entries) is where
  by_refusal : (refusal : Option InputError) → option_map_or Err refusal (Ok (contents_in names entries)) ≡ Ok contents → contents_in names entries ≡ contents
  by_refusal None is = same_value (entries_ok (contents_in names entries)) contents is
  by_refusal (Some error) is = refused_is_none error contents is

-- what fits comes to the graph with its sizes and the memory with its arrays
pub prepared_is : (tree : GraphTree) (arrays : List ℕ) (entries : Members) (work : Work) → entries_of arrays ≡ Some entries → prepared tree arrays ≡ Ok work → work_of tree entries ≡ work
prepared_is tree arrays entries work has is =
    let opened = opens tree arrays work is in
    let contents : Contents = opened.contents in
    let gives : contents_in (names_in tree) entries ≡ contents = entries_give (names_in tree) entries contents (sym (ap (entries_reading (names_in tree)) has) ∙ opened.given) in
    let sized : with_sizes tree contents.sizes ≡ work.tree = bound_is tree work.tree contents.sizes opened.bound in
    ap (work_with tree) gives
    ∙ ap (λ (tree : GraphTree). work_at tree (opening_memory tree (elements_in contents.arrays))) sized
    ∙ ap (work_at work.tree) opened.memory
