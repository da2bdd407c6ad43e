-- A use conflicts with the modes of containers where it does with one of the uses that they are joined of.
use Rattle.std.proofs.Common.{◌≡◌, ℕ, nat_eq, List, [], ◌∷◌, ◌++◌, Option, Some, None, Bool, true, false, ◌&&◌, ◌||◌, if◌then◌else◌, refl, sym, ap, ap₂, ◌∙◌}
use Rattle.std.specs.List.{list_any}
use Rattle.sd_graph.specs.Mode.{Mode, Write, do_conflict, common_mode}
use Rattle.sd_graph.specs.Wiring.{Use, uses_conflict, items_conflict}
use Rattle.sd_graph.proofs.Allowed.{no_conflict_same}
use Rattle.sd_order.specs.items.Joined.{with_mode, with_use, joined_behind, meets, meets_one}

-- ---- tests

pub or-none : (test : Bool) → (test || false) ≡ test
or-none true = refl
or-none false = refl

or-true : (test : Bool) → (test || true) ≡ true
or-true true = refl
or-true false = refl

or-same : (test : Bool) → (test || test) ≡ test
or-same true = refl
or-same false = refl

pub or-assoc : (first second third : Bool) → ((first || second) || third) ≡ (first || (second || third))
or-assoc true second third = refl
or-assoc false second third = refl

or-exchange : (a b c d : Bool) → ((a || b) || (c || d)) ≡ ((a || c) || (b || d))
or-exchange true b c d = refl
or-exchange false true true d = refl
or-exchange false true false d = refl
or-exchange false false true d = refl
or-exchange false false false d = refl

any-or : {A : Type 0} (test other : A → Bool) (members : List A) → list_any (λ member. test member || other member) members ≡ (list_any test members || list_any other members)
any-or test other [] = refl
any-or test other (member ∷ members) =
    ap (λ (rest : Bool). (test member || other member) || rest) (any-or test other members)
    ∙ or-exchange (test member) (other member) (list_any test members) (list_any other members)

any-none : {A : Type 0} (members : List A) → list_any (λ member. false) members ≡ false
any-none [] = refl
any-none (member ∷ members) = any-none members

any-exchange : {A B : Type 0} (test : A → B → Bool) (firsts : List A) (seconds : List B) →
    list_any (λ second. list_any (λ first. test first second) firsts) seconds ≡ list_any (λ first. list_any (test first) seconds) firsts
any-exchange test firsts [] = sym (any-none firsts)
any-exchange test firsts (second ∷ seconds) =
    ap (λ (rest : Bool). list_any (λ first. test first second) firsts || rest) (any-exchange test firsts seconds)
    ∙ sym (any-or (λ first. test first second) (λ first. list_any (test first) seconds) firsts)

pub any-append : {A : Type 0} (test : A → Bool) (members others : List A) → list_any test (members ++ others) ≡ (list_any test members || list_any test others)
any-append test [] others = refl
any-append test (member ∷ members) others =
    ap (λ (rest : Bool). test member || rest) (any-append test members others) ∙ sym (or-assoc (test member) (list_any test members) (list_any test others))

-- ---- modes

-- two modes in one conflict with what one of both does
common-conflicts : (mode other third : Mode) → do_conflict (common_mode mode other) third ≡ (do_conflict mode third || do_conflict other third)
common-conflicts mode other third = go (do_conflict mode other) refl where
  together : (conflict : Bool) → do_conflict mode other ≡ true → do_conflict other third ≡ conflict → (do_conflict mode third || do_conflict other third) ≡ true
  together true both is = ap (λ (b : Bool). do_conflict mode third || b) is ∙ or-true (do_conflict mode third)
  together false both is =
      ap (λ (m : Mode). do_conflict mode m || do_conflict other third) (sym (no_conflict_same other third is))
      ∙ ap (λ (b : Bool). b || do_conflict other third) both

  go : (conflict : Bool) → do_conflict mode other ≡ conflict → do_conflict (common_mode mode other) third ≡ (do_conflict mode third || do_conflict other third)
  go true is = ap (λ (b : Bool). do_conflict (if b then Write else mode) third) is ∙ sym (together (do_conflict other third) is refl)
  go false is =
      ap (λ (b : Bool). do_conflict (if b then Write else mode) third) is
      ∙ sym (or-same (do_conflict mode third))
      ∙ ap (λ (m : Mode). do_conflict mode third || do_conflict m third) (no_conflict_same mode other is)

with-conflicts : (mode : Option Mode) (other third : Mode) → do_conflict (with_mode mode other) third ≡ (meets mode third || do_conflict other third)
with-conflicts None other third = refl
with-conflicts (Some mode) other third = common-conflicts mode other third

use-meets : (mode : Option Mode) (first second : Use) → meets (with_use second.container mode first) second.mode ≡ (meets mode second.mode || uses_conflict first second)
use-meets mode first second = go (nat_eq first.container second.container) refl where
  go : (same : Bool) → nat_eq first.container second.container ≡ same → meets (with_use second.container mode first) second.mode ≡ (meets mode second.mode || uses_conflict first second)
  go true is =
      ap (λ (b : Bool). meets (if b then Some (with_mode mode first.mode) else mode) second.mode) is
      ∙ with-conflicts mode first.mode second.mode
      ∙ ap (λ (b : Bool). meets mode second.mode || (b && do_conflict first.mode second.mode)) (sym is)
  go false is =
      ap (λ (b : Bool). meets (if b then Some (with_mode mode first.mode) else mode) second.mode) is
      ∙ sym (or-none (meets mode second.mode))
      ∙ ap (λ (b : Bool). meets mode second.mode || (b && do_conflict first.mode second.mode)) (sym is)

joined-meets : (reached : List Use) (mode : Option Mode) (use' : Use) →
    meets (joined_behind use'.container mode reached) use'.mode ≡ (meets mode use'.mode || list_any (λ first. uses_conflict first use') reached)
joined-meets [] mode use' = sym (or-none (meets mode use'.mode))
joined-meets (first ∷ reached) mode use' =
    joined-meets reached (with_use use'.container mode first) use'
    ∙ ap (λ (b : Bool). b || list_any (λ other. uses_conflict other use') reached) (use-meets mode first use')
    ∙ or-assoc (meets mode use'.mode) (uses_conflict first use') (list_any (λ other. uses_conflict other use') reached)

test-is : (modes : ℕ → Option Mode) (reached : List Use) → ((container : ℕ) → modes container ≡ joined_behind container None reached) → (use' : Use) →
    meets (modes use'.container) use'.mode ≡ list_any (λ first. uses_conflict first use') reached
test-is modes reached joined use' = ap (λ (mode : Option Mode). meets mode use'.mode) (joined use'.container) ∙ joined-meets reached None use'

-- uses conflict with the modes that uses are joined to where they conflict with those
pub modes-meet : (modes : ℕ → Option Mode) (reached uses : List Use) → ((container : ℕ) → modes container ≡ joined_behind container None reached) → meets_one modes uses ≡ items_conflict reached uses
modes-meet modes reached uses joined = any-agree uses ∙ any-exchange uses_conflict reached uses
  where
    any-agree : (uses : List Use) → meets_one modes uses ≡ list_any (λ use'. list_any (λ first. uses_conflict first use') reached) uses
    any-agree [] = refl
    any-agree (use' ∷ uses) = ap₂ (λ (one more : Bool). one || more) (test-is modes reached joined use') (any-agree uses)

-- ---- more uses

pub joined-append : (container : ℕ) (mode : Option Mode) (uses others : List Use) → joined_behind container mode (uses ++ others) ≡ joined_behind container (joined_behind container mode uses) others
joined-append container mode [] others = refl
joined-append container mode (use' ∷ uses) others = joined-append container (with_use container mode use') uses others
