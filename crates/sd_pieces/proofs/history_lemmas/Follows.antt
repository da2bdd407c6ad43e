-- A piece that read what stands in a memory follows there.
use Rattle.std.proofs.Common.{◌≡◌, ℕ, ◌+◌, List, [], ◌∷◌, ◌++◌, Option, Some, None, refl, sym, ◌∙◌, ap, subst, arith}
use Rattle.sd_work.specs.Memory.{Memories}
use Rattle.sd_work.specs.Move.{Fault}
use Rattle.sd_work.specs.Residual.{Term, Terms, none, also}
use Rattle.sd_work.specs.Step.{Outcome, Done, Faulted, Spent}
use Rattle.sd_work.specs.BigStep.{Coming, reached, and_then, big_step, big_parts}
use Rattle.sd_pieces.specs.course.Reading.{AgreeOn, apply_all}
use Rattle.sd_pieces.specs.course.Course.{Course, course, told, told_end}
use Rattle.sd_pieces.proofs.course_lemmas.Courses.{told-course, course-depends}
use Rattle.sd_pieces.proofs.course_lemmas.ExactTurns.{course-exact}
use Rattle.sd_work.specs.Touch.{Touch, Touches}
use Rattle.sd_pieces.specs.cut.Naming.{Naming, IsOneToOne, term_named, IsTouchNamed, AreMemoriesNamed}
use Rattle.sd_pieces.specs.cut.Merged.{Marking, IsMarked, IsPrepared, IsMerged, MergesTo}
use Rattle.sd_pieces.proofs.cut_lemmas.OnCut.{on-cut}
use Rattle.sd_pieces.proofs.history_lemmas.Doing.{memories_in, turns_in, not_reached}
use Rattle.sd_pieces.specs.history.Pieces.{Piece, Work, and_parts}
use Rattle.sd_pieces.specs.history.History.{MayFollow, History, and_piece}

-- what work comes to from a memory that agrees, told by its course from the earlier one
from-earlier : {P : Type 0} (t : Term P) (most : ℕ) (s s' : Memories) (turns : ℕ) (end : Option (Outcome P ℕ)) → (course t most s turns).end ≡ end → AgreeOn (course t most s turns).readings s s' →
    big_step t most s' turns ≡ told_end end (apply_all (course t most s turns).changes s')
from-earlier t most s s' turns end e h =
    told-course t most s' turns ∙ ap (λ (c : Course _). told c s') (course-depends t most s s' turns h) ∙ ap (λ x. told_end x (apply_all (course t most s turns).changes s')) e

-- where work came to an end its course tells it
pub told-end : {P : Type 0} (end : Option (Outcome P ℕ)) (s s' : Memories) (n : ℕ) → told_end end s ≡ reached s' n → (end ≡ Some (Done n)) × (s ≡ s')
told-end (Some (Done m)) s s' n h = (ap (λ k. Some (Done k)) (ap turns_in h), ap (memories_in s) h)
told-end (Some (Faulted fault)) s s' n h = not_reached (Some (Faulted fault)) h (λ x. x)
told-end (Some Spent) s s' n h = not_reached (Some Spent) h (λ x. x)
told-end None s s' n h = not_reached None h (λ x. x)

-- with more turns as much more is left
pub big-more : {P : Type 0} (t : Term P) (most : ℕ) (s s' : Memories) (spent rest : ℕ) → big_step t most s spent ≡ reached s' 0 → big_step t most s (spent + rest) ≡ reached s' rest
big-more t most s s' spent rest h =
    let e = told-end (course t most s spent).end (apply_all (course t most s spent).changes s) s' 0 (sym (told-course t most s spent) ∙ h) in
    let x = course-exact t most s spent 0 e.0 in
    let same : x.0 ≡ spent = (let a = x.1 in omega arith) in
    told-course t most s (spent + rest)
    ∙ ap (λ (c : Course _). told c s) (ap (λ k. course t most s (k + rest)) (sym same) ∙ x.2 rest)
    ∙ ap (λ z. reached z rest) e.1

pub piece-follows : {P : Type 0} (work : Work P) (most : ℕ) (opening earlier memories : Memories) (history : List ℕ) (turns number : ℕ) (piece : Piece P) (allowed left : ℕ)
    → History work most opening history memories turns → MayFollow work history number piece
    → (course piece.term most earlier allowed).end ≡ Some (Done left)
    → AgreeOn (course piece.term most earlier allowed).readings earlier memories
    → (spent : ℕ) × (allowed ≡ spent + left)
    × History work most opening (history ++ number ∷ []) (apply_all (course piece.term most earlier allowed).changes memories) (turns + spent)
piece-follows {P} work most opening earlier memories history turns number piece allowed left h f e a =
    let same = course-depends piece.term most earlier memories allowed a in
    let x = course-exact piece.term most memories allowed left (ap (λ (c : Course P). c.end) same ∙ e) in
    let zero_more : x.0 ≡ x.0 + 0 = omega arith in (
      x.0,
      x.1,
      and_piece number piece x.0 _ h f
          (told-course piece.term most memories x.0
          ∙ ap (λ (c : Course P). told c memories) (ap (course piece.term most memories) zero_more ∙ x.2 0)
          ∙ ap (λ cs. reached (apply_all cs memories) 0) (ap (λ (c : Course P). c.changes) same)),
    )

pub fault-follows : {P : Type 0} (term : Term P) (most : ℕ) (earlier memories : Memories) (turns : ℕ) (fault : Fault P) → (course term most earlier turns).end ≡ Some (Faulted fault) →
    AgreeOn (course term most earlier turns).readings earlier memories → big_step term most memories turns ≡ Some (Faulted fault)
fault-follows term most earlier memories turns fault e a = from-earlier term most earlier memories turns (Some (Faulted fault)) e a

pub spent-follows : {P : Type 0} (term : Term P) (most : ℕ) (earlier memories : Memories) (turns : ℕ) → (course term most earlier turns).end ≡ Some Spent →
    AgreeOn (course term most earlier turns).readings earlier memories → big_step term most memories turns ≡ Some Spent
spent-follows term most earlier memories turns e a = from-earlier term most earlier memories turns (Some Spent) e a

-- with a part of its turns left, work wants just the others
pub just-so-many : {P : Type 0} (t : Term P) (most : ℕ) (s s' : Memories) (allowed left : ℕ) → big_step t most s allowed ≡ reached s' left → (spent : ℕ) × (allowed ≡ spent + left) × (big_step t most s spent ≡ reached s' 0)
just-so-many t most s s' allowed left h =
    let e = told-end (course t most s allowed).end (apply_all (course t most s allowed).changes s) s' left (sym (told-course t most s allowed) ∙ h) in
    let x = course-exact t most s allowed left e.0 in
    let zero_more : x.0 ≡ x.0 + 0 = omega arith in (
      x.0,
      x.1,
      told-course t most s x.0
          ∙ ap (λ (c : Course _). told c s) (ap (course t most s) zero_more ∙ x.2 0)
          ∙ ap (λ z. reached z 0) e.1,
    )

pub cut-follows : {P : Type 0} (work : Work P) (most : ℕ) (opening memories : Memories) (history : List ℕ) (turns number : ℕ) (piece : Piece P)
    (naming : Naming) (marking : Marking) (earlier cut left_there : Memories) (allowed left : ℕ)
    → History work most opening history memories turns → MayFollow work history number piece
    → IsOneToOne naming → ((touch : Touch) → Touches piece.term touch → IsTouchNamed naming 0 touch)
    → ((touch : Touch) → Touches piece.term touch → IsMarked marking touch)
    → IsPrepared marking earlier memories → AreMemoriesNamed naming 0 earlier cut
    → big_step (term_named naming 0 piece.term) most cut allowed ≡ reached left_there left
    → (after : Memories) × (spent : ℕ) × (allowed ≡ spent + left) × IsMerged naming marking left_there memories after
    × History work most opening (history ++ number ∷ []) after (turns + spent)
cut-follows work most opening memories history turns number piece naming marking earlier cut left_there allowed left h f one named marked p n big =
    let merged = subst (λ x. MergesTo naming marking memories x (big_step piece.term most memories allowed)) big
    (on-cut naming marking piece.term most earlier cut memories allowed one named marked p n) in
    let so = just-so-many piece.term most memories merged.0 allowed left merged.1 in
    (merged.0, so.0, so.1, merged.2, and_piece number piece so.0 merged.0 h f so.2)

then_assoc : {P : Type 0} (c : Coming P) (f g : Memories → ℕ → Coming P) → and_then c (λ s n. and_then (f s n) g) ≡ and_then (and_then c f) g
then_assoc (Some (Done now)) f g = refl
then_assoc (Some (Faulted fault)) f g = refl
then_assoc (Some Spent) f g = refl
then_assoc None f g = refl

pub parts-append : {P : Type 0} (ts us : Terms P) (most : ℕ) (s : Memories) (turns : ℕ) → big_parts (and_parts ts us) most s turns ≡ and_then (big_parts ts most s turns) (big_parts us most)
parts-append none us most s turns = refl
parts-append (also t ts) us most s turns =
    ap (and_then (big_step t most s turns)) (λ i s n. parts-append ts us most s n i)
    ∙ then_assoc (big_step t most s turns) (big_parts ts most) (big_parts us most)
