-- Tests of the arguments of a call.
use Rattle.std.proofs.Common.{◌≡◌, ◌∙◌, Bool, List}
use Rattle.std.specs.Prelude.{Result, Ok, Err, IfOk}
use Rattle.std.specs.List.{list_any}
use Rattle.sd_list.specs.declared.list.memory.NoMemory.{NoMemory}
use Rattle.sd_names.proofs.NameLemmas.{any_same}

-- what one test has found, another has that is the same for each
pub found_same : {A : Type 0} (result : Result Bool NoMemory) (first second : A → Bool) (all : List A) → ((a : A) → first a ≡ second a) → IfOk result (λ answer. answer ≡ list_any first all) → IfOk result (λ answer. answer ≡ list_any second all)
found_same (Ok answer) first second all same found = found ∙ any_same first second same all
found_same (Err error) first second all same found = found
