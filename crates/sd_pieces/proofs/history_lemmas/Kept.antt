-- A history keeps the shape of its stack of memories, and elements of each container's width.
use Rattle.std.proofs.Common.{◌≡◌, ℕ, List, map, length, refl, sym, ◌∙◌, ap}
use Rattle.sd_work.specs.Memory.{Memories}
use Rattle.sd_pieces.specs.course.Shape.{contents_shape, stack_shape}
use Rattle.sd_pieces.proofs.course_lemmas.Shapes.{work-shape, length-map}
use Rattle.sd_pieces.specs.cut.Merged.{AreElementsOfWidth}
use Rattle.sd_pieces.proofs.cut_lemmas.WidthElements.{work-elements}
use Rattle.sd_pieces.specs.history.Pieces.{Work}
use Rattle.sd_pieces.specs.history.History.{History, nothing_done, and_piece}

pub history-shape : {P : Type 0} (work : Work P) (most : ℕ) (opening : Memories) (history : List ℕ) (memories : Memories) (turns : ℕ) → History work most opening history memories turns → stack_shape memories ≡ stack_shape opening
history-shape work most opening history memories turns nothing_done = refl
history-shape work most opening history' memories' turns' (and_piece {history} {memories} {turns} number piece spent after g f big) =
    work-shape piece.term most memories spent after 0 big ∙ history-shape work most opening history memories turns g

pub history-count : {P : Type 0} (work : Work P) (most : ℕ) (opening : Memories) (history : List ℕ) (memories : Memories) (turns : ℕ) → History work most opening history memories turns → length memories ≡ length opening
history-count work most opening history memories turns h =
    sym (length-map (map contents_shape) memories) ∙ ap length (history-shape work most opening history memories turns h) ∙ length-map (map contents_shape) opening

pub history-elements : {P : Type 0} (work : Work P) (most : ℕ) (opening : Memories) (history : List ℕ) (memories : Memories) (turns : ℕ) → History work most opening history memories turns → AreElementsOfWidth opening → AreElementsOfWidth memories
history-elements work most opening history memories turns nothing_done fit = fit
history-elements work most opening history' memories' turns' (and_piece {history} {memories} {turns} number piece spent after g f big) fit =
    work-elements piece.term most memories spent after 0 big (history-elements work most opening history memories turns g fit)
