-- What is left of a leaf, in the words of residual work.
use Rattle.std.specs.Prelude.{ℤ, List, map, length, drop, Option, option_map, not}
use Rattle.sd_work.specs.Leaf.{Pending, write_value, transfer, push_to, Evaluation, Leaf, reading, doing}
use Rattle.sd_work.specs.Settle.{is_empty}
use Rattle.sd_mem.specs.machine.Stack.{reference_of}
use Rattle.sd_mem.specs.declared.machine.address.Address.{Address}
use Rattle.sd_leaves.specs.declared.moves.todo.Todo.{Todo}
use Rattle.sd_leaves.specs.declared.moves.todo.Todo.TheVariants.{Write, Transfer, Push}
use Rattle.sd_leaves.specs.declared.moves.doing.Doing as kept
use Rattle.sd_leaves.specs.declared.moves.instance.Reading as read
use Rattle.sd_leaves.specs.declared.moves.instance.Instance.{Instance}
use Rattle.sd_leaves.specs.declared.moves.instance.Instance.TheVariants as variants

-- one thing to do
abbrev pub told : Todo → Pending
told (Write value to by) = write_value value (option_map reference_of to) by
told (Transfer from to by) = transfer (option_map reference_of from) (option_map reference_of to) by
told (Push station value) = push_to station.level station.container value

abbrev pub all_told : List Todo → List Pending
all_told todos = map told todos

-- the things that are not done yet
abbrev pub doing_left : kept.Doing → Leaf
doing_left kept = doing (all_told (drop kept.done kept.todo.items))

-- the elements that are not read yet, behind those that have these values; an instance begins with its first read
abbrev pub reading_of : Evaluation → (cells : List (Option Address)) → (values : List ℤ) → Leaf
reading_of evaluation cells values = reading (not (is_empty values)) (map (option_map reference_of) (drop (length values) cells)) values evaluation

abbrev pub reading_left : Evaluation → read.Reading → Leaf
reading_left evaluation kept = reading_of evaluation kept.cells.items kept.values.items

abbrev pub instance_left : Evaluation → Instance → Leaf
instance_left evaluation (variants.Reading kept) = reading_left evaluation kept
instance_left evaluation (variants.Doing kept) = doing_left kept
