-- What binding gives or refuses.
use Rattle.std.specs.Prelude.{ℕ, List, Option, Some, None, Result, Ok, Err}
use Rattle.sd_graph.specs.PlainTree.{GraphTree}
use Rattle.sd_valid.specs.SizeValues.{NamedSizes, symbols_of, first_name, has_no_size, has_bad_size, sizes_in}
use Rattle.sd_valid.specs.BoundTree.{bound_graph}
use Rattle.sd_valid.specs.Limits.{all_containers, tally}
use Rattle.sd_valid.specs.declared.error.BindError.{BindError}
use Rattle.sd_valid.specs.declared.error.BindError.TheVariants.{MissingSize, BadSize, OverLimit}

-- a refusal with a name, where there is one, and else what comes after
abbrev pub unless_refused : (List ℕ → BindError) → Option (List ℕ) → Result GraphTree BindError → Result GraphTree BindError
unless_refused error None next = next
unless_refused error (Some name) next = Err (error name)

-- a graph whose containers have so many elements, or one of them is over a limit
abbrev pub within_limits : Result ℕ (List ℕ) → GraphTree → Result GraphTree BindError
within_limits (Ok total) tree = Ok tree
within_limits (Err name) tree = Err (OverLimit name)

-- the graph with its sizes
abbrev pub with_sizes : GraphTree → NamedSizes → GraphTree
with_sizes tree sizes = bound_graph (sizes_in sizes tree) tree

-- the graph with its sizes; or the first size symbol without a value, or the first whose value is no size, or the first container over a limit
abbrev pub binding : GraphTree → NamedSizes → Result GraphTree BindError
binding tree sizes =
    unless_refused MissingSize (first_name (has_no_size sizes) (symbols_of tree))
    (unless_refused BadSize (first_name (has_bad_size sizes) (symbols_of tree))
    (within_limits (tally 0 (all_containers (with_sizes tree sizes))) (with_sizes tree sizes)))
