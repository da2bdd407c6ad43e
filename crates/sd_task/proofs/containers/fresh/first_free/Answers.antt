use Rattle.std.proofs.Common.{rules, ◌≡◌, ◌∙◌, ◌+◌, ◌-◌, ◌<◌, ℕ, suc, List, map, ap, sym, string_bytes, bytes_eq, true, cond, arith}
use Rattle.std.specs.List.{list_any}
use Rattle.sd_graph.specs.TreeFold.{named_container}
use Rattle.sd_program.specs.Names.{Name}
use Rattle.sd_task.specs.containers.Declarations.{first_free, names_in_use, name_with_number}
use Rattle.sd_task.proofs.containers.fresh.first_free.Goals as goal

pub loop-number-preserved : goal.loop-number-preserved
loop-number-preserved c =
    let used : List Name = names_in_use (map string_bytes c.args.declared.now.keys) (map named_container c.args.containers.now.entries) in
    let name : Name = c.args.name.now in
    let number : ℕ = c.loop-number.number in
    let last : ℕ = c.len.result + c.len-2.result + 1 in
    let less : number < last = search rules in
    let one_more : last - number ≡ suc (last - (number + 1)) = omega (arith, less) in
    let taken : c.is_in_use.result ≡ true = search rules in
    let there : list_any (bytes_eq (name_with_number name number)) used ≡ true =
    sym (c.is_in_use.ensures ∙ ap (λ free. list_any (bytes_eq free) used) (c.as_str.ensures.value ∙ c.in_ok-free.ensures)) ∙ taken in
    let step : first_free (last - number) number used name ≡ first_free (last - (number + 1)) (number + 1) used name =
    ap (λ tries. first_free tries number used name) one_more ∙ ap (λ test. cond test (first_free (last - (number + 1)) (number + 1) used name) (name_with_number name number)) there in
    sym step ∙ c.loop-number.invariant
