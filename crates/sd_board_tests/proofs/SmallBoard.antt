-- A small board may be opened, and its pieces are done on a cut that changes nothing.
use Rattle.std.proofs.Common.{◌≡◌, ℕ, zero, suc, List, [], ◌∷◌, ◌++◌, length, Option, Some, None, slice_get, slice_index_or, refl, sym, ◌∙◌, ap, subst, arith}
use Rattle.sd_work.specs.Memory.{Memory}
use Rattle.sd_work.specs.Residual.{Term}
use Rattle.sd_work.specs.Step.{Outcome, Done}
use Rattle.sd_work.specs.BigStep.{Reached, big_step}
use Rattle.sd_pieces.specs.history.Pieces.{Piece}
use Rattle.sd_graph.specs.PlainTree.{graph, no_state}
use Rattle.sd_graph.specs.declared.place.Place.{Place}
use Rattle.sd_mem.specs.mem.Shaped.{Shaped, alone}
use Rattle.sd_mem.specs.machine.ComesTo.{ComesTo}
use Rattle.sd_cut.specs.declared.elements.CutElement.{CutElement}
use Rattle.sd_cut.specs.declared.streams.CutStream.{CutStream}
use Rattle.sd_cut.specs.Windowed.{window_at}
use Rattle.sd_cut.specs.Elements.{AreOfWindow, AreOfWindows, IsEven, effects_from, all_effects, all_changed}
use Rattle.sd_cut.specs.Streams.{all_pushes, all_takes}
use Rattle.sd_cut.specs.Overlaid.{Overlaid}
use Rattle.sd_cut.specs.Using.{committed}
use Rattle.sd_part.specs.declared.part_end.PartEnd.TheVariants as ends
use Rattle.sd_part.proofs.Widths.{opens}
use Rattle.sd_part.proofs.StreamWidths.{opens-values}
use Rattle.sd_board.specs.Assignment.{IsLikeOpening, IsEndOf, HaveEnds}
use Rattle.sd_board.proofs.Marks.{none_some, some_same}
use Rattle.sd_board_tests.specs.Small.{nothing, small_work, small, ChangesNothing}

pub small-like : IsLikeOpening small (record { shapes = []; contents = [] })
small-like = record { shape = (refl, refl); elements = opens (graph [] [] 0 [] 0 no_state) []; values = opens-values (graph [] [] 0 [] 0 no_state) [] }

does-nothing : (k : ℕ) (piece : Piece Place) → slice_get small_work.pieces k ≡ Some piece → nothing ≡ piece.term
does-nothing zero piece at = ap (λ (p : Piece Place). p.term) (some_same _ piece at)
does-nothing (suc zero) piece at = ap (λ (p : Piece Place). p.term) (some_same _ piece at)
does-nothing (suc (suc zero)) piece at = ap (λ (p : Piece Place). p.term) (some_same _ piece at)
does-nothing (suc (suc (suc k))) piece at = none_some at

ends-at-once : (memory : Memory) (turns : ℕ) → (most : ℕ) × (outcome : Outcome Place Reached) × (big_step nothing most (memory ∷ []) turns ≡ Some outcome)
ends-at-once memory turns = (0, Done (record { memories = memory ∷ []; turns = turns }), refl)

pub small-ends : HaveEnds small
small-ends number piece memory turns at =
    subst (λ (term : Term Place). (most : ℕ) × (outcome : Outcome Place Reached) × (big_step term most (memory ∷ []) turns ≡ Some outcome)) (does-nothing number piece at) (ends-at-once memory turns)

stays : (cut : Overlaid) (memory : Shaped) → ChangesNothing cut → committed cut memory ≡ memory
stays cut memory none = ap (λ changes. all_changed changes memory) none

pub small-end : (number : ℕ) (cut : Overlaid) → ChangesNothing cut → IsEndOf small number cut (ends.Done 0)
small-end number cut none piece memory at like agrees most = (
  7,
  refl,
  subst (λ (term : Term Place). ComesTo (big_step term most (alone memory) 7) (Done (record { memories = alone (committed cut memory); turns = 7 }))) (does-nothing number piece at)
      (ap (λ (m : Shaped). Done (record { memories = alone m; turns = 7 })) (sym (stays cut memory none))),
)

-- ---- a cut of nothing

no-window : (container : ℕ) → window_at [] container ≡ None
no-window zero = refl
no-window (suc container) = refl

pub all-even : (container : ℕ) → IsEven (window_at [] container)
all-even zero = tt
all-even (suc container) = tt

no-effects : (container : ℕ) (left : Shaped) (arrays : List (List CutElement)) → ((number : ℕ) → slice_index_or arrays number [] ≡ []) → all_effects container left arrays ≡ []
no-effects container left [] h = refl
no-effects container left (cuts ∷ arrays) h =
    ap (λ some. effects_from container 0 left some ++ all_effects (suc container) left arrays) (h 0) ∙ no-effects (suc container) left arrays (λ number. h (suc number))

no-streams : (streams : List (Option CutStream)) → length streams ≡ 0 → streams ≡ []
no-streams [] h = refl
no-streams (stream ∷ streams) h = absurd (omega arith)

pub nothing-cut : (memory : Shaped) (cut : Overlaid) → length cut.streams ≡ 0 → AreOfWindows memory (window_at []) cut.arrays → ChangesNothing cut
nothing-cut memory cut count arrays =
    ap (λ streams. all_pushes 0 cut.left streams ++ all_takes 0 streams ++ all_effects 0 cut.left cut.arrays) (no-streams cut.streams count)
    ∙ no-effects 0 cut.left cut.arrays (λ number. subst (λ window. AreOfWindow memory number window (slice_index_or cut.arrays number [])) (no-window number) (arrays number))
