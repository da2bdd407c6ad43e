-- The sizes of a graph that was bound are elements.
use Rattle.std.proofs.Common.{◌≡◌, ℕ, zero, suc, ◌≤◌, ◌^◌, ℤ, pos, negsuc, List, [], ◌∷◌, map, Option, Some, None, Result, Ok, Err, Bool, true, false, not, if◌then◌else◌, refl, ap, sym, ◌∙◌, arith}
use Rattle.std.specs.Int.{w64}
use Rattle.std.proofs.lemmas.Int.{ints, int_wrap_fits, fits_signed_from_abs}
use Rattle.sd_num.specs.Wrapped.{wrapped}
use Rattle.sd_work.specs.Memory.{Memory}
use Rattle.sd_graph.specs.PlainTree.{GraphTree}
use Rattle.sd_graph.specs.Unfold.{run_of}
use Rattle.sd_valid.specs.declared.error.BindError.{BindError}
use Rattle.sd_valid.specs.declared.error.BindError.TheVariants.{MissingSize, BadSize}
use Rattle.sd_valid.specs.SizeValues.{NamedSizes, value_of_size, is_size, first_name, has_no_size, has_bad_size, symbols_of, sizes_in}
use Rattle.sd_valid.specs.Limits.{all_containers, tally}
use Rattle.sd_valid.specs.Binding.{binding, unless_refused, within_limits, with_sizes}
use Rattle.sd_valid.specs.SizedValues.{AreElements}
use Rattle.sd_valid.specs.SizedWork.{sized_run}
use Rattle.sd_valid.proofs.SizedUnfold.{run_work}

-- what is not refused is what comes after
not_refused : (error : List ℕ → BindError) (refused : Option (List ℕ)) (next : Result GraphTree BindError) (bound : GraphTree) → unless_refused error refused next ≡ Ok bound → (refused ≡ None) × (next ≡ Ok bound)
not_refused error None next bound is = (refl, is)
not_refused error (Some name) next bound is = cc

limits_kept : (counted : Result ℕ (List ℕ)) (tree bound : GraphTree) → within_limits counted tree ≡ Ok bound → tree ≡ bound
limits_kept (Ok total) tree bound is = cc
limits_kept (Err name) tree bound is = cc

-- a size is an element
size_is_element : (value : ℤ) → is_size value ≡ true → wrapped value ≡ value
size_is_element (pos n) is =
    let small : n ≤ 2 ^ 24 = grind (arith, ints) in
    int_wrap_fits w64 (pos n) (fits_signed_from_abs w64 (pos n) (omega (arith, small)))
size_is_element (negsuc n) is = cc

by_test : (named : NamedSizes) (name : List ℕ) (names : List (List ℕ)) (size : Bool) → is_size (value_of_size named name) ≡ size →
    (if not size then Some name else first_name (has_bad_size named) names) ≡ None → (is_size (value_of_size named name) ≡ true) × (first_name (has_bad_size named) names ≡ None)
by_test named name names true is none = (is, none)
by_test named name names false is none = cc

-- where no size is bad each is an element
none_bad : (named : NamedSizes) (names : List (List ℕ)) → first_name (has_bad_size named) names ≡ None → AreElements (map (value_of_size named) names)
none_bad named [] none zero = size_is_element (pos 0) refl
none_bad named [] none (suc symbol) = size_is_element (pos 0) refl
none_bad named (name ∷ names) none zero = size_is_element (value_of_size named name) (by_test named name names (is_size (value_of_size named name)) refl none).0
none_bad named (name ∷ names) none (suc symbol) = none_bad named names (by_test named name names (is_size (value_of_size named name)) refl none).1 symbol

-- a graph that was bound does what the graph does with the sizes
pub bound_run : (tree bound : GraphTree) (named : NamedSizes) (memory : Memory) → binding tree named ≡ Ok bound → run_of bound memory ≡ sized_run (sizes_in named tree) tree memory
bound_run tree bound named memory is =
    let sized = with_sizes tree named in
    let limited = within_limits (tally 0 (all_containers sized)) sized in
    let bad = first_name (has_bad_size named) (symbols_of tree) in
    let first = not_refused MissingSize (first_name (has_no_size named) (symbols_of tree)) (unless_refused BadSize bad limited) bound is in
    let second = not_refused BadSize bad limited bound first.1 in
    let same = limits_kept (tally 0 (all_containers sized)) sized bound second.1 in
    ap (λ (tree : GraphTree). run_of tree memory) (sym same)
    ∙ run_work (sizes_in named tree) (none_bad named (symbols_of tree) second.0) tree memory
