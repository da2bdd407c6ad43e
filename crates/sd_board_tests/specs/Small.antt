-- A small board: three pieces with nothing to do, two of an item that is before the item of the third.
use Rattle.std.specs.Prelude.{◌≡◌, ◌==◌, [], ◌∷◌, false, ◌&&◌}
use Rattle.sd_work.specs.Residual.{Items, Term, list, none}
use Rattle.sd_pieces.specs.history.Pieces.{Work}
use Rattle.sd_graph.specs.declared.place.Place.{Place}
use Rattle.sd_cut.specs.Overlaid.{Overlaid}
use Rattle.sd_cut.specs.Using.{effects}
use Rattle.sd_board.specs.Assignment.{Assignment}

abbrev pub nothing : Term Place
nothing = list Items (λ from to. false) none

abbrev pub small_work : Work Place
small_work = record {
  pieces = record { item = 0; term = nothing } ∷ record { item = 0; term = nothing } ∷ record { item = 1; term = nothing } ∷ [];
  before = λ from to. (from == 0) && (to == 1);
}

abbrev pub small : Assignment
small = record { work = small_work; opening = record { shapes = []; contents = [] }; budget = 7 }

-- a cut that changes nothing
abbrev pub ChangesNothing : Overlaid → Type 0
ChangesNothing cut = effects cut ≡ []
