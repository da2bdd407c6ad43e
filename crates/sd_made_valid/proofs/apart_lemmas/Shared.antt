-- Of two arguments that are one container an accepted call writes neither.
use Rattle.std.proofs.Common.{◌≡◌, List, [], ◌∷◌, Bool, true, false, ◌&&◌, ◌||◌, bytes_eq, refl, sym, subst}
use Rattle.std.specs.Bool.{⊤}
use Rattle.std.specs.List.{list_any, zip}
use Rattle.std.proofs.lemmas.Slice.Eq.{bytes_eq-Decides}
use Rattle.sd_lex.specs.PlainTree.{Dimension}
use Rattle.sd_graph.proofs.Among.{or_first, or_second}
use Rattle.sd_names.specs.declared.meaning.Parameter.{Parameter}
use Rattle.sd_names.specs.Names.{Name, is_among, is_repeated}
use Rattle.sd_uses.specs.ShapeMismatch.{containers_of, is_shared}
use Rattle.sd_read.proofs.readable_lemmas.kept.Passing.{neither, true_is_not_false, false_is_not_true}
use Rattle.sd_made.specs.writes.Apart.{IsApart, AreApart}

-- each parameter that is written says so
abbrev pub TellWrites : (written : List Bool) → List Parameter → Type 0
TellWrites [] parameters = ⊤
TellWrites (written ∷ others) [] = ⊥
TellWrites (written ∷ others) (parameter ∷ parameters) = (written ≡ true → parameter.is_written ≡ true) × TellWrites others parameters

-- an argument whose parameter is written is passed once
abbrev ArePassedOnce : List Name → List (Name × List Dimension) → List Parameter → Type 0
ArePassedOnce names [] parameters = ⊤
ArePassedOnce names (argument ∷ arguments) [] = ⊤
ArePassedOnce names (argument ∷ arguments) (parameter ∷ parameters) = (parameter.is_written ≡ true → is_repeated names argument.0 ≡ false) × ArePassedOnce names arguments parameters

once : (all arguments : List (Name × List Dimension)) (parameters : List Parameter) → list_any (is_shared all) (zip arguments parameters) ≡ false → ArePassedOnce (containers_of all) arguments parameters
once all [] parameters none = tt
once all (argument ∷ arguments) [] none = tt
once all (argument ∷ arguments) (parameter ∷ parameters) none =
    let both = neither (is_shared all (argument, parameter)) (list_any (is_shared all) (zip arguments parameters)) none in
    (λ written. subst (λ test. test && is_repeated (containers_of all) argument.0 ≡ false) written both.0, once all arguments parameters both.1)

either : {P : Type 0} (test : Bool) → test ≡ true → test ≡ false → P
either true is not' = true_is_not_false not'
either false is not' = false_is_not_true is

-- one argument and those behind it
one_apart : (written : Bool) (name : Name) (names : List Name) (others : List Bool) (arguments : List (Name × List Dimension)) (parameters : List Parameter) → TellWrites others parameters → ArePassedOnce names arguments parameters →
    (written ≡ true → is_repeated names name ≡ false) → (is_among (containers_of arguments) name ≡ true → is_repeated names name ≡ true) → IsApart written name others arguments
one_apart written name names [] arguments parameters tell passed own twice = tt
one_apart written name names (other ∷ others) [] parameters tell passed own twice = tt
one_apart written name names (other ∷ others) (argument ∷ arguments) [] tell passed own twice = absurd tell
one_apart written name names (other ∷ others) (argument ∷ arguments) (parameter ∷ parameters) tell passed own twice = (
  λ same. neither_written written other
      (λ is. either (is_repeated names name) (here same) (own is))
      (λ is. either (is_repeated names name) (here same) (subst (λ name. is_repeated names name ≡ false) (sym same) (passed.0 (tell.0 is)))),
  one_apart written name names others arguments parameters tell.1 passed.1 own (λ among. twice (or_second (bytes_eq name argument.0) (is_among (containers_of arguments) name) among)),
) where
  here : name ≡ argument.0 → is_repeated names name ≡ true
  here same = twice (or_first (bytes_eq name argument.0) (is_among (containers_of arguments) name) ((bytes_eq-Decides name argument.0).1 same))

  neither_written : (written other : Bool) → (written ≡ true → ⊥) → (other ≡ true → ⊥) → (written || other) ≡ false
  neither_written true other first second = absurd (first refl)
  neither_written false true first second = absurd (second refl)
  neither_written false false first second = refl

all_apart : (names : List Name) (written : List Bool) (arguments : List (Name × List Dimension)) (parameters : List Parameter) → TellWrites written parameters → ArePassedOnce names arguments parameters →
    ((name : Name) → is_repeated (containers_of arguments) name ≡ true → is_repeated names name ≡ true) → AreApart written arguments
all_apart names [] arguments parameters tell passed so = tt
all_apart names (written ∷ others) [] parameters tell passed so = tt
all_apart names (written ∷ others) (argument ∷ arguments) [] tell passed so = absurd tell
all_apart names (written ∷ others) (argument ∷ arguments) (parameter ∷ parameters) tell passed so = (
  one_apart written argument.0 names others arguments parameters tell.1 passed.1 (λ is. passed.0 (tell.0 is))
      (λ among. so argument.0
      (or_first (bytes_eq argument.0 argument.0 && is_among (containers_of arguments) argument.0) (is_repeated (containers_of arguments) argument.0)
      (subst (λ test. test && is_among (containers_of arguments) argument.0 ≡ true) (sym ((bytes_eq-Decides argument.0 argument.0).1 refl)) among))),
  all_apart names others arguments parameters tell.1 passed.1
      (λ name repeated. so name (or_second (bytes_eq name argument.0 && is_among (containers_of arguments) name) (is_repeated (containers_of arguments) name) repeated)),
)

pub unshared_apart : (written : List Bool) (arguments : List (Name × List Dimension)) (parameters : List Parameter) → TellWrites written parameters → list_any (is_shared arguments) (zip arguments parameters) ≡ false → AreApart written arguments
unshared_apart written arguments parameters tell none = all_apart (containers_of arguments) written arguments parameters tell (once arguments arguments parameters none) (λ name repeated. repeated)
