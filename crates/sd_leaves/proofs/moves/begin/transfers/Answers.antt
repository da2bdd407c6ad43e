use Rattle.std.proofs.Common.{◌≡◌, ◌+◌, ◌<◌, ◌≤◌, List, ◌++◌, Option, None, map, drop, length, get_or, refl, sym, subst, arith, drop_of_length-le}
use Rattle.std.specs.List.{zip}
use Rattle.std.proofs.lemmas.Slice.Zip.{length-zip}
use Rattle.sd_mem.specs.declared.machine.address.Address.{Address}
use Rattle.sd_leaves.specs.leaves.Cells.{transferring}
use Rattle.sd_leaves.proofs.leaves_lemmas.Lists.{pair_at, from_here}
use Rattle.sd_leaves.specs.declared.moves.todo.Todo.{Todo}
use Rattle.sd_leaves.specs.declared.moves.todo.Todo.TheVariants.{Transfer}
use Rattle.sd_leaves.specs.moves.Left.{all_told}
use Rattle.sd_leaves.proofs.moves_lemmas.Todos.{one_more, no_more}
use Rattle.sd_leaves.proofs.moves.begin.transfers.Goals as goal

pub loop-number-preserved : goal.loop-number-preserved
loop-number-preserved c =
    let pairs = zip c.args.from.now c.args.to.now in
    let number = c.loop-number.number in
    let many = length-zip c.args.from.now c.args.to.now in
    let in_from : number < length c.args.from.now = omega arith in
    let in_to : number < length c.args.to.now = omega arith in
    let within : number < length pairs = omega (arith, many) in
    let pair : Option Address × Option Address = (get_or c.args.from.now number None, get_or c.args.to.now number None) in
    let todo : Todo = Transfer (get_or c.args.from.now number None) (get_or c.args.to.now number None) None in
    let here = from_here pairs number pair within (pair_at c.args.from.now c.args.to.now number None None pair in_from in_to) in
    subst (λ (todos : List Todo). map (transferring None) pairs ≡ all_told todos ++ map (transferring None) (drop (number + 1) pairs)) (sym c.in_ok-push.ensures.items)
    (one_more (transferring None) (map (transferring None) pairs) c.loop-number.todos.items todo (drop number pairs) (drop (number + 1) pairs) pair here refl c.loop-number.invariant)

pub returns : goal.returns
returns c =
    let pairs = zip c.args.from.now c.args.to.now in
    let many = length-zip c.args.from.now c.args.to.now in
    let over : length pairs ≤ c.loop-number.number = omega (arith, many) in
    no_more (transferring None) (map (transferring None) pairs) c.loop-number.todos.items (drop c.loop-number.number pairs) (drop_of_length-le pairs over) c.loop-number.invariant
