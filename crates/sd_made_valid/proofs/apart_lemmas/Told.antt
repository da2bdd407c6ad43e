-- A signature tells what a program writes, and a call notes it.
use Rattle.std.proofs.Common.{◌≡◌, List, [], ◌∷◌, ◌++◌, map, Bool, true, false, ◌||◌, if◌then◌else◌, bytes_eq, refl, sym, subst}
use Rattle.std.specs.List.{AllByRecursion}
use Rattle.std.proofs.lemmas.Slice.Eq.{bytes_eq-Decides}
use Rattle.sd_range.specs.declared.affine.Affine.{Affine}
use Rattle.sd_lex.specs.PlainTree.{Dimension}
use Rattle.sd_names.specs.declared.meaning.Parameter.{Parameter}
use Rattle.sd_names.specs.Names.{Name}
use Rattle.sd_context.specs.context.Writing.{written_arguments}
use Rattle.sd_context.specs.blocks.Closing.{parameter_of}
use Rattle.sd_read.proofs.readable_lemmas.kept.Passing.{false_is_not_true}
use Rattle.sd_made_valid.proofs.read_shapes_lemmas.Noted.{IsAmong}
use Rattle.sd_made.specs.writes.Writes as written
use Rattle.sd_made.specs.writes.Writes.{arguments_written}
use Rattle.sd_made_valid.proofs.apart_lemmas.Shared.{TellWrites}

-- ---- arguments

one_more : (P : Name → Type 0) (written tells : Bool) (name : Name) (mine others : List Name) → (written ≡ true → tells ≡ true) → (AllByRecursion P others → AllByRecursion P mine) →
    AllByRecursion P (if tells then name ∷ others else others) → AllByRecursion P ((if written then name ∷ [] else []) ++ mine)
one_more P true true name mine others so go all = (all.0, go all.1)
one_more P true false name mine others so go all = false_is_not_true (so refl)
one_more P false true name mine others so go all = go all.1
one_more P false false name mine others so go all = go all

-- the arguments that a call writes are among those that are noted of it
pub arguments_noted : (P : Name → Type 0) (written : List Bool) (arguments : List (Name × List Dimension)) (parameters : List Parameter) → TellWrites written parameters → AllByRecursion P (written_arguments arguments parameters) →
    AllByRecursion P (arguments_written written arguments)
arguments_noted P [] arguments parameters tell all = tt
arguments_noted P (written ∷ others) [] parameters tell all = tt
arguments_noted P (written ∷ others) (argument ∷ arguments) [] tell all = absurd tell
arguments_noted P (written ∷ others) (argument ∷ arguments) (parameter ∷ parameters) tell all =
    one_more P written parameter.is_written argument.0 (arguments_written others arguments) (written_arguments arguments parameters) tell.0 (arguments_noted P others arguments parameters tell.1) all

-- ---- parameters

one_among : (noted' : List Name) (names : List Name) (name : Name) → AllByRecursion (IsAmong noted') names → written.is_among names name ≡ true → IsAmong noted' name
one_among noted' [] name all is = false_is_not_true is
one_among noted' (first ∷ names) name all is = by_test (bytes_eq name first) refl is (one_among noted' names name all.1) where
  by_test : (test : Bool) → bytes_eq name first ≡ test → test || written.is_among names name ≡ true → (written.is_among names name ≡ true → IsAmong noted' name) → IsAmong noted' name
  by_test true same is later = subst (IsAmong noted') (sym ((bytes_eq-Decides name first).0 same)) all.0
  by_test false same is later = later is

-- a signature tells each parameter that is written
pub parameters_tell : (noted' names : List Name) (parameters : List (Name × List Affine)) → AllByRecursion (IsAmong noted') names →
    TellWrites (map (written.is_among names) (map (λ parameter. parameter.0) parameters)) (map (parameter_of noted') parameters)
parameters_tell noted' names [] all = tt
parameters_tell noted' names (parameter ∷ parameters) all = (one_among noted' names parameter.0 all, parameters_tell noted' names parameters all)
