-- The first pair that is not accepted.
use Rattle.std.specs.List.{AllByRecursion}
use Rattle.std.proofs.Common.{◌≡◌, List, [], ◌∷◌, ◌++◌, subst, sym, ◌∙◌, ap}
use Rattle.sd_graph.specs.PlainTree.{GraphTree}
use Rattle.sd_prop.specs.propagation.Scopes.{all_scopes}
use Rattle.sd_race.specs.race.Pairs.{Pair, IsAccepted, IsGraphAccepted, all_pairs}
use Rattle.sd_race.specs.race.Race.{IsFirstRefused, Race, race_of, IsRaceOf}
use Rattle.sd_race.proofs.race_lemmas.Members.{all-parts, pairs-accepted}

pub none-refused : (pairs : List Pair) (pair : Pair) → AllByRecursion IsAccepted pairs → IsFirstRefused pairs pair → ⊥
none-refused pairs pair accepted first =
    first.refused (all-parts IsAccepted first.passed (pair ∷ first.rest) (subst (AllByRecursion IsAccepted) first.split accepted)).1.0

same_first : {A : Type 0} (x y : A) (xs ys : List A) → x ∷ xs ≡ y ∷ ys → x ≡ y
same_first x y xs ys same = cc

same_rest : {A : Type 0} (x y : A) (xs ys : List A) → x ∷ xs ≡ y ∷ ys → xs ≡ ys
same_rest x y xs ys same = cc

one-split : (passed others rest behind : List Pair) (pair other : Pair) → passed ++ pair ∷ rest ≡ others ++ other ∷ behind →
    AllByRecursion IsAccepted passed → AllByRecursion IsAccepted others → (IsAccepted pair → ⊥) → (IsAccepted other → ⊥) → pair ≡ other
one-split [] [] rest behind pair other same accepted accepted' refused refused' = same_first pair other rest behind same
one-split [] (first ∷ others) rest behind pair other same accepted accepted' refused refused' =
    absurd (refused (subst IsAccepted (sym (same_first pair first rest (others ++ other ∷ behind) same)) accepted'.0))
one-split (first ∷ passed) [] rest behind pair other same accepted accepted' refused refused' =
    absurd (refused' (subst IsAccepted (same_first first other (passed ++ pair ∷ rest) behind same) accepted.0))
one-split (first ∷ passed) (second ∷ others) rest behind pair other same accepted accepted' refused refused' =
    one-split passed others rest behind pair other (same_rest first second (passed ++ pair ∷ rest) (others ++ other ∷ behind) same) accepted.1 accepted'.1 refused refused'

pub one-refused : (pairs : List Pair) (pair other : Pair) → IsFirstRefused pairs pair → IsFirstRefused pairs other → pair ≡ other
one-refused pairs pair other first second =
    one-split first.passed second.passed first.rest second.rest pair other (sym first.split ∙ second.split) first.accepted second.accepted first.refused second.refused

pub no-race : (tree : GraphTree) (race : Race) → IsGraphAccepted tree → IsRaceOf tree race → ⊥
no-race tree race accepted is = none-refused (all_pairs tree) is.pair (pairs-accepted (all_scopes tree) accepted) is.first

pub one-race : (tree : GraphTree) (race other : Race) → IsRaceOf tree race → IsRaceOf tree other → race ≡ other
one-race tree race other is is' = is.told ∙ ap race_of (one-refused (all_pairs tree) is.pair is'.pair is.first is'.first) ∙ sym is'.told
